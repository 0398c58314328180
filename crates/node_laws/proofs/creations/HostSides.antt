-- Whatever happens, no end of a host has a block set aside.
use Rattle.node_laws.proofs.Words.{About, Activates, AllByRecursion, Arms, Asks, AsksReset, AtController, AtEnd, Bool, Boots, Comes, Command, Commits, CutOff}
use Rattle.node_laws.proofs.Words.{Deed, Desk, Drops, End, EndEvent, Ending, Ends, Entry, FetchMessage, Give, Gives, GoesOn, GoesOut, Happening, HasNoneAside}
use Rattle.node_laws.proofs.Words.{Hears, Hold, Host, IfHostNode, Inits, IsAnswered, IsCut, IsGoodSite, KeepsNotices, Link, LinkEnd, List, Loses, Loss, Memory}
use Rattle.node_laws.proofs.Words.{Message, NextFrame, NoInput, NodeInput, NodeWorld, None, NumberedEnd, Orders, Port, Release, Releases, Removed, Reset}
use Rattle.node_laws.proofs.Words.{Resets, SaysOk, Sends, SetAside, SetsErrors, Site, Some, Start, Starts, Step, Stop, Stops, Take, Takes, Tells, Tick, Ticks}
use Rattle.node_laws.proofs.Words.{TimePasses, Turn, Work, [], after_host, after_input, after_planned, after_sessions, after_turn, aged, all_aged, all_append}
use Rattle.node_laws.proofs.Words.{all_changed, all_come, all_done, all_map, all_owed, anyone, ap, arith, arrival, beginning, begins_with, boot_found}
use Rattle.node_laws.proofs.Words.{boot_writes, boot_written, boots, by_boot, by_coming, by_controller, by_controller_tick, by_host, by_host_tick, by_list}
use Rattle.node_laws.proofs.Words.{by_loss, by_memory, by_option, by_power, by_running, by_test, changed_if, comes_at, comes_to, commit, cond_both}
use Rattle.node_laws.proofs.Words.{controller_ticks, controller_work, counts, done, end_c, end_h, ending_of, entries_for, eqb, exchanged, false, finished}
use Rattle.node_laws.proofs.Words.{flat_map, forgets, forgotten, frame_lost, happens, has_come, has_input, has_taken, host_cut, host_does, host_tick}
use Rattle.node_laws.proofs.Words.{host_ticks, host_work, hosts_tick, input_at, is_late, is_late_at, is_waiting, link_after_controller, loses_power_at, map}
use Rattle.node_laws.proofs.Words.{memory_at, near_end_in, near_tick, new_site, not, notified, noting, option_map_or, port_at, port_for, refl, reset_late}
use Rattle.node_laws.proofs.Words.{sending, site_lost, site_ticked, site_unticked, steps, steps_at_controller, subst, sym, synced, tick_host, ticked_so}
use Rattle.node_laws.proofs.Words.{ticks_at_controller, times_out, turn, turn_at, turned, turns_at, with_desk, with_memory, with_older, with_site}
use Rattle.node_laws.proofs.Words.{without_notice, work_of, world_step, ℕ, ◌&&◌, ◌∙◌, ◌∷◌, ◌≡◌}
use Rattle.node_laws.proofs.creations.Coming.{input_aside}
use Rattle.node_laws.proofs.links.Sites.{here_host}
use Rattle.node_laws.proofs.notices.Near.{AreGood, AreOwn, IsOwn, all_owed_own, all_synced_own, beginning_own, comes_reads as notices_come, deeds_own}
use Rattle.node_laws.proofs.notices.Near.{forgotten_own, good_at, sending_own}
use Rattle.node_laws.proofs.steps.StepWalks.{Lasts, all_last, at_port, got_at, rest_lasts, sessions_node}
use Rattle.node_laws.proofs.telling.Steps.{forgets_same, without_same}

-- ## No host sets a block aside

-- ### One end

-- a turn that sets no block aside
abbrev pub SetsNone : Turn → Type 0
SetsNone SetAside = ⊥
SetsNone _ = Unit {0}

abbrev SetNone : List Turn → Type 0
SetNone ts = AllByRecursion SetsNone ts

pub turn_none : (e : LinkEnd) (t : Turn) → SetsNone t → e.aside ≡ 0 → (turn e t).aside ≡ 0
turn_none e t is a = grind arith

turns_none : (e : LinkEnd) (ts : List Turn) → SetNone ts → e.aside ≡ 0 → (turned e ts).aside ≡ 0
turns_none e [] is a = a
turns_none e (t ∷ ts) is a = turns_none (turn e t) ts is.1 (turn_none e t is.0 a)

finished_none : (l : Link) (e : LinkEnd) (ending : Ending) → e.aside ≡ 0 → (finished l e ending).controller.side.aside ≡ 0
finished_none l e ending a = grind arith

step_none : (l : Link) (comes : Comes) (ts : List Turn) (ending : Ending) → SetNone ts → l.controller.side.aside ≡ 0
    → (steps_at_controller l comes ts ending).controller.side.aside ≡ 0
step_none l NextFrame ts ending none a = by_list l.to_controller
    (λ q. let is : steps_at_controller l NextFrame ts ending ≡ l = rw q refl in ap (λ (k : Link). k.controller.side.aside) is ∙ a)
    (λ y ys q. let is : steps_at_controller l NextFrame ts ending ≡ has_taken l y ys ts ending = rw q refl in
    ap (λ (k : Link). k.controller.side.aside) is
    ∙ finished_none _ (turned (after_input l.controller.side (Take y.frame)) ts) ending
    (turns_none (after_input l.controller.side (Take y.frame)) ts none (input_aside l.controller.side (Take y.frame) tt ∙ a)))
step_none l (AsksReset window) ts ending none a =
    finished_none _ (turned (after_input l.controller.side (Reset window)) ts) ending
    (turns_none (after_input l.controller.side (Reset window)) ts none (input_aside l.controller.side (Reset window) tt ∙ a))
step_none l (Starts value) ts ending none a =
    finished_none _ (turned (after_input l.controller.side (Start value)) ts) ending
    (turns_none (after_input l.controller.side (Start value)) ts none (input_aside l.controller.side (Start value) tt ∙ a))
step_none l Stops ts ending none a =
    finished_none _ (turned (after_input l.controller.side Stop) ts) ending
    (turns_none (after_input l.controller.side Stop) ts none (input_aside l.controller.side Stop tt ∙ a))
step_none l NoInput ts ending none a = finished_none l (turned l.controller.side ts) ending (turns_none l.controller.side ts none a)

tick_none : (l : Link) (ts : List Turn) (ending : Ending) → SetNone ts → l.controller.side.aside ≡ 0
    → (ticks_at_controller l ts ending).controller.side.aside ≡ 0
tick_none l ts ending none a =
    finished_none _ (turned (after_input l.controller.side Tick) ts) ending
    (turns_none (after_input l.controller.side Tick) ts none (input_aside l.controller.side Tick tt ∙ a))

-- ### A host

-- what a node that isn't the controller has at each of its ends
pub record EachEndHas (P : Port → Type 0) (w : Work) : Type 0 where
  pub number : eqb w.core.node 0 ≡ false
  pub ends : AllByRecursion P w.ports

abbrev Any : ℕ → Message → Type 0
Any h m = Unit {0}

-- it lasts over turns that set no block aside, and over changes of what else is kept of an end
module _ (P : Port → Type 0) (turn_has : (t : Turn) (p : Port) → SetsNone t → P p → P (after_turn t p))
    (desk_has : (f : Desk → Desk) (p : Port) → P p → P (record p { desk = f p.desk })) where
  abbrev Has : Work → Type 0
  Has w = EachEndHas P w

  turns : (h : ℕ) (t : Turn) (w : Work) → SetsNone t → Has w → Has (turn_at h t w)
  turns h t w is a = record { number = a.number; ends = all_changed P (λ p. eqb p.desk.host h) (after_turn t) (λ p b. turn_has t p is b) w.ports a.ends }

  desks : (h : ℕ) (f : Desk → Desk) (w : Work) → Has w → Has (with_desk h f w)
  desks h f w a = record {
    number = a.number;
    ends = all_changed P (λ p. eqb p.desk.host h) (λ (p : Port). record p { desk = f p.desk }) (λ p b. desk_has f p b) w.ports a.ends;
  }

  tells : (h : ℕ) (about : About) (message : List ℕ) (w : Work) → Has w → Has (notified h about message w)
  tells h about message w a =
      desks h (λ d. record d { notice = Some (record { about = about; age = 0 }) }) (turn_at h (Give (1, message)) w) (turns h (Give (1, message)) w tt a)

  commits : (c : Command) (w : Work) → Has w → Has (commit c w)
  commits c w a = grind arith

  same : (w v : Work) → v.core.node ≡ w.core.node → v.ports ≡ w.ports → Has w → Has v
  same w v node ports a = record { number = ap (λ n. eqb n 0) node ∙ a.number; ends = subst (AllByRecursion P) (sym ports) a.ends }

  does : (h : ℕ) (d : Deed) (w : Work) → IsOwn d → Has w → Has (done h d w)
  does h (Commits c) w q a = commits c w a
  does h (Sends to m) w q a = turns to (Give m) w tt a
  does h SaysOk w q a = same w (done h SaysOk w) refl refl a
  does h (Asks to message c) w q a = absurd q
  does h (Releases asker) w q a = turns asker Release w tt a
  does h (Tells to message) w q a = tells to Removed message w a
  does h IsAnswered w q a = desks h (λ d. record d { notice = None }) w a
  does h (Drops pid) w q a = same w (done h (Drops pid) w) refl refl a
  does h (SetsErrors errors) w q a = desks h (λ d. record d { errors = errors }) w a
  does h (Orders message) w q a =
      let v : Work = record w { core = record w.core { command = Some message } } in turns h (Give (1, message)) v tt (same w v refl refl a)
  does h Hears w q a = same w (done h Hears w) refl refl a
  does h (GoesOn i) w q a = same w (done h (GoesOn i) w) refl refl a
  does h (Ends e) w q a = same w (done h (Ends e) w) refl refl a

  pub ends_last : Lasts Has IsOwn Any
  ends_last = record {
    does = does;
    turn_told = λ h m w any a. same w (noting _ w) refl refl a;
    held_told = λ h need spare w a. same w (noting _ w) refl refl a;
    fetched = λ h w a. turns h FetchMessage w tt a;
    held = λ h flag w a. turns h (Hold flag) w tt a;
    marked = λ h flag w a. desks h (λ d. record d { holds = flag }) w a;
    come = λ h w a. anyone (Any h) (λ m. tt) (got_at h w);
    causes = λ h m w any a. deeds_own w.core w.ports h m a.number;
  }

-- it has set no block aside
abbrev HasSetNone : Port → Type 0
HasSetNone p = SetNone p.turns

abbrev SetsNoneAside : Work → Type 0
SetsNoneAside w = EachEndHas HasSetNone w

none_lasts : Lasts SetsNoneAside IsOwn Any
none_lasts = ends_last HasSetNone (λ t p is b. all_append SetsNone p.turns (t ∷ []) b (is, tt)) (λ f p b. b)

all_do : (h : ℕ) (deeds : List Deed) (w : Work) → AreOwn deeds → SetsNoneAside w → SetsNoneAside (all_done h deeds w)
all_do h deeds w q a = all_last SetsNoneAside IsOwn Any none_lasts h deeds w q a

-- ### Steps

reset_turns : (p : Port) → SetNone p.turns → SetNone (reset_late p).turns
reset_turns p b = by_test (is_late p) (λ z. rw z b) (λ z. rw z b)

came_none : (input : NodeInput) (w : Work) → SetsNoneAside w → SetsNoneAside (all_come input w)
came_none input w a = record {
  number = a.number;
  ends = all_map HasSetNone HasSetNone (λ p. has_come p (input_at input p))
      (λ p b. grind arith) w.ports a.ends;
}

times_none : (input : NodeInput) (w : Work) → SetsNoneAside w → SetsNoneAside (times_out input w)
times_none (AtEnd h i) w a = a
times_none TimePasses w a = record {
  number = a.number;
  ends = all_map HasSetNone HasSetNone reset_late reset_turns (map with_older w.ports)
      (all_map HasSetNone HasSetNone with_older (λ p b. b) w.ports a.ends);
}

steps_none : (input : NodeInput) (w : Work) → SetsNoneAside w → SetsNoneAside (steps input w)
steps_none input w a =
    let came : Work = times_out input (all_come input w) in
    let b : SetsNoneAside came = times_none input (all_come input w) (came_none input w a) in
    let left : List Port = map (forgets came.ports) came.ports in
    let begun : Work = record came { core = after_sessions came.core came.ports; ports = map without_notice left } in
    let first : SetsNoneAside begun = record {
      number = ap (λ n. eqb n 0) (sessions_node came.core came.ports) ∙ b.number;
      ends = all_map HasSetNone HasSetNone without_notice (λ p c. subst SetNone (sym (without_same p).turns) c) left
          (all_map HasSetNone HasSetNone (forgets came.ports)
          (λ p c. subst SetNone (sym (forgets_same came.ports p).turns) c) came.ports b.ends);
    } in
    rest_lasts SetsNoneAside IsOwn Any none_lasts (forgotten came.ports) (flat_map (synced w.core input) w.ports) (all_owed left) begun
    (forgotten_own came.ports) (all_synced_own w.core input w.ports) (all_owed_own left) first

none_at : (k : Work) (h : ℕ) → SetsNoneAside k → SetNone (option_map_or (λ (p : Port). p.turns) (port_at k.ports h) [])
none_at k h a = by_option (port_at k.ports h) (λ e. rw e tt) (λ p e. rw e (at_port HasSetNone k.ports h p a.ends e))

-- ## Whatever happens, no end of a host has a block set aside

abbrev pub HaveNoneAside : List Site → Type 0
HaveNoneAside sites = AllByRecursion HasNoneAside sites

none_map : (f : Site → Site) → ((s : Site) → HasNoneAside s → HasNoneAside (f s)) → (sites : List Site) → HaveNoneAside sites → HaveNoneAside (map f sites)
none_map f one [] a = tt
none_map f one (s ∷ sites) a = (one s a.0, none_map f one sites a.1)

none_with : (h : ℕ) (f : Site → Site) → ((s : Site) → HasNoneAside s → HasNoneAside (f s)) → (sites : List Site) → HaveNoneAside sites
    → HaveNoneAside (with_site h f sites)
none_with h f one sites a = none_map (λ (s : Site). changed_if (eqb s.host h) f s) (λ s b. grind arith) sites a

-- what happens at the controller's end leaves the host's
near_same : (l : Link) (x : EndEvent) → l.host.side.aside ≡ 0 → (happens l (AtController x)).host.side.aside ≡ 0
near_same l x a = ap (λ (h : NumberedEnd). h.side.aside) (here_host l x) ∙ a

ticked_same : (l : Link) (late : Bool) (ts : List Turn) (ending : Ending) → l.host.side.aside ≡ 0 → (ticked_so l late ts ending).host.side.aside ≡ 0
ticked_same l late ts ending a =
    cond_both (late && not (is_waiting l.controller.side.shdlc)) (has_input l (Reset None) ts ending) (ticks_at_controller l ts ending)
    (λ (m : Link). m.host.side.aside ≡ 0) (λ _. near_same l (Step (AsksReset None) ts ending) a)
    (λ _. ap (λ (h : NumberedEnd). h.side.aside) (tick_host l ts ending) ∙ a)

-- ### Hosts act

start_none : (near_ends : ℕ → NumberedEnd) (desks : List Desk) → AllByRecursion (λ (p : Port). SetNone p.turns)
    (map (λ (d : Desk). port_for (near_ends d.host) d) desks)
start_none near_ends [] = tt
start_none near_ends (d ∷ desks) = (tt, start_none near_ends desks)

host_none : (w : NodeWorld) (h : ℕ) (comes : Comes) (f : Work → Work) → AreGood w.sites → ((k : Work) → SetsNoneAside k → SetsNoneAside (f k))
    → HaveNoneAside w.sites → HaveNoneAside (host_does w h comes f).0.sites
host_none w h comes f good keeps a =
    by_host (λ p. HaveNoneAside p.0.sites) w h comes f a
    (λ s r here e.
    let k : Work = host_work s r comes f in
    let none : SetsNoneAside k =
    keeps (work_of r s.memory.plan (λ n. near_end_in (exchanged s.link) comes) (entries_for s.host (arrival Host (exchanged s.link) comes)))
    (record {
      number = subst IfHostNode e (good_at w.sites h s good here).node;
      ends = start_none (λ n. near_end_in (exchanged s.link) comes) r.desks;
    }) in
    none_with h (after_host comes k) (λ z b. step_none (exchanged z.link) comes (turns_at k z.host) (ending_of k) (none_at k z.host none) b) w.sites a)

comes_none : (w : NodeWorld) (e : End) (comes : Comes) → AreGood w.sites → HaveNoneAside w.sites → HaveNoneAside (comes_at w e comes).0.sites
comes_none w e comes good a =
    by_coming (λ p. HaveNoneAside p.0.sites) w e comes a
    (λ i at q. host_none w e.link comes (steps (AtEnd e.link i)) good (λ k b. steps_none (AtEnd e.link i) k b) a)
    (λ i at q. by_controller (λ p. HaveNoneAside p.0.sites) w e.link comes (steps (AtEnd e.link i)) a
    (λ r z. let k : Work = controller_work w r e.link comes (steps (AtEnd e.link i)) in
    none_map (link_after_controller e.link comes k)
    (λ s b. near_same s.link (Step (comes_to e.link comes s.host) (turns_at k s.host) (ending_of k)) b) w.sites a))

begins_none : (w : NodeWorld) (h : ℕ) (deeds : List Deed) → AreGood w.sites → AreOwn deeds → HaveNoneAside w.sites
    → HaveNoneAside (host_does w h NoInput (begins_with h deeds)).0.sites
begins_none w h deeds good own a = host_none w h NoInput (begins_with h deeds) good (λ k b. all_do h deeds k own b) a

-- ### Power and memories

-- no host has a block set aside
abbrev AsideNowhere : NodeWorld → Type 0
AsideNowhere w = HaveNoneAside w.sites

memory_none : (w : NodeWorld) (n : ℕ) (m : Memory) → HaveNoneAside w.sites → HaveNoneAside (with_memory n m w).sites
memory_none w n m a = by_memory AsideNowhere n w m (λ _. a) (λ _. none_with n (λ (s : Site). record s { memory = m }) (λ s b. b) w.sites a)

cut_none : (w : NodeWorld) (n : ℕ) → HaveNoneAside w.sites → HaveNoneAside (loses_power_at n w).sites
cut_none w n a =
    by_power AsideNowhere n w
    (λ _. none_map (λ (s : Site). record s { link = happens s.link (AtController (Step NoInput [] CutOff)) })
    (λ s b. near_same s.link (Step NoInput [] CutOff) b) w.sites a)
    (λ _. none_with n host_cut (λ s b. step_none (exchanged s.link) NoInput [] CutOff tt b) w.sites a)

boots_none : (w : NodeWorld) (n : ℕ) → HaveNoneAside w.sites → HaveNoneAside (boots w n).0.sites
boots_none w n a =
    let v : NodeWorld = boot_written w n in
    let still : HaveNoneAside v.sites = memory_none w n (after_planned (boot_writes (memory_at w n).content) (memory_at w n)) a in
    by_boot (λ (p : NodeWorld × List Entry). HaveNoneAside p.0.sites) w n (cut_none v n still)
    (by_running AsideNowhere n v (boot_found w n) (λ _. still)
    (λ _. none_with n (λ (s : Site). record s { node = Some (boot_found w n) }) (λ s b. b) v.sites still))

lost_none : (w : NodeWorld) (e : End) (why : Loss) → HaveNoneAside w.sites → HaveNoneAside (frame_lost w e why).0.sites
lost_none w e why a =
    by_loss (λ p. HaveNoneAside p.0.sites) w e why
    (λ b. none_with e.link (λ (s : Site). record (site_lost e why s) { node = counts why e.link s.node }) one w.sites a)
    (λ b. none_with e.link (site_lost e why) one w.sites a) where
      one : (s : Site) → HasNoneAside s → HasNoneAside (site_lost e why s)
      one s b = by_test e.at_host (λ q. rw q b) (λ q. rw q b)

-- ### Time

host_tick_none : (s : Site) → IsGoodSite s → HasNoneAside s → HasNoneAside (host_ticks s).0
host_tick_none s good a =
    by_host_tick (λ p. HasNoneAside p.0) s (λ e. tick_none (exchanged s.link) [] GoesOut tt a)
    (λ r e. let k : Work = host_tick s r in
    tick_none (exchanged s.link) (turns_at k s.host) (ending_of k)
    (none_at k s.host (steps_none TimePasses (work_of r s.memory.plan (λ h. s.link.host) [])
    (record { number = subst IfHostNode e good.node; ends = start_none (λ h. s.link.host) r.desks }))) a)

all_ticked : (sites : List Site) → AreGood sites → HaveNoneAside sites → HaveNoneAside (hosts_tick sites).0
all_ticked [] good a = tt
all_ticked (s ∷ sites) good a = (host_tick_none s good.0 a.0, all_ticked sites good.1 a.1)

near_none : (w : NodeWorld) → HaveNoneAside w.sites → HaveNoneAside (controller_ticks w).0.sites
near_none w a =
    by_controller_tick (λ p. HaveNoneAside p.0.sites) w
    (λ e. none_map site_unticked (λ s b. ap (λ (h : NumberedEnd). h.side.aside) (tick_host s.link [] GoesOut) ∙ b) w.sites a)
    (λ r e. let k : Work = near_tick w r in
    none_map (site_ticked k) (λ s b. ticked_same s.link (is_late_at k s.host) (turns_at k s.host) (ending_of k) b) w.sites a)

aged_none : (w : NodeWorld) → HaveNoneAside w.sites → HaveNoneAside (all_aged w).0.sites
aged_none w a = none_map (λ (s : Site). record s { link = aged s.link }) (λ s b. b) w.sites a

-- ### Events

pub event_none : (t : List Entry) (w : NodeWorld) (c : Happening) → KeepsNotices t w → AreGood (controller_ticks (all_aged w).0).0.sites → HaveNoneAside w.sites
    → HaveNoneAside (world_step w c).0.sites
event_none t w (Boots n) notices ticked a = boots_none w n a
event_none t w (IsCut n) notices ticked a = cut_none w n a
event_none t w (Gives e m) notices ticked a = begins_none w e.link (sending e.link m) notices.sites (sending_own e.link m) a
event_none t w (Inits e identity pipes) notices ticked a =
    begins_none w e.link (beginning identity pipes) notices.sites (beginning_own identity pipes) a
event_none t w (Takes e) notices ticked a = comes_none w e NextFrame notices.sites a
event_none t w (Loses e why) notices ticked a = lost_none w e why a
event_none t w Ticks notices ticked a = all_ticked (controller_ticks (all_aged w).0).0.sites ticked (near_none (all_aged w).0 (aged_none w a))
event_none t w (Resets e window) notices ticked a = comes_none w e (AsksReset window) notices.sites a
event_none t w (Activates h sync power) notices ticked a =
    let good = notices_come t w notices.orderly notices.up (record { sites = notices.sites; reads_so = notices.controller }) (end_c h) (Starts power) in
    comes_none (comes_at w (end_c h) (Starts power)).0 (end_h h) (Starts sync) good.sites (comes_none w (end_c h) (Starts power) notices.sites a)
event_none t w (Arms n plan) notices ticked a = memory_none w n (record (memory_at w n) { plan = Some plan }) a

pub new_none : (content hosts : List ℕ) → HaveNoneAside (map (new_site content) hosts)
new_none content [] = tt
new_none content (h ∷ hosts) = (refl, new_none content hosts)
