-- What a host does tells nothing of the controller's notices, and what is read of them as either has a step.
use Rattle.node_laws.proofs.Words.{About, AllByRecursion, AreDifferent, Asks, AsksReset, AtEnd, AtHost, Bool, Comes, Command, Commits, Controller}
use Rattle.node_laws.proofs.Words.{ControllerReads, Core, Cut, Deed, Desk, Down, Drops, End, EndEvent, Ending, Ends, Entry, FetchMessage, Give, GoesOn, GoesOut}
use Rattle.node_laws.proofs.Words.{HasEnds, Hears, Hold, Host, IfHostNode, IfItRuns, IfNoticedUp, IfReads, IsAnswered, IsFresh, IsGoodSite, IsHost}
use Rattle.node_laws.proofs.Words.{IsKeptNotice, IsNoticedUp, IsOrderly, IsOutside, IsRightNotice, IsShut, Link, LinkInput, List, Message, NoInput, NodeInput}
use Rattle.node_laws.proofs.Words.{NodeWorld, None, Noted, NoticesAreUp, NumberedEnd, OfHost, OnFirst, Option, Orders, Plain, Plan, Port, Release, Releases}
use Rattle.node_laws.proofs.Words.{Removed, Report, Reset, Restarted, Running, SaysOk, Sends, Sent, SetsErrors, Site, Some, Starts, Step, Tells, TimePasses}
use Rattle.node_laws.proofs.Words.{Turn, Work, [], activates, after_host, after_input, after_sessions, aged, aged_entries, all_aged, all_changed, all_come}
use Rattle.node_laws.proofs.Words.{all_done, all_map, all_of_host, all_owed, all_owed_hold, all_synced_hold, and-false, anyone, ap, append-nil, append_assoc}
use Rattle.node_laws.proofs.Words.{arith, arrival, asking_after, asking_in, beginning, begins_with, body_of, by_coming, by_controller, by_controller_tick}
use Rattle.node_laws.proofs.Words.{by_host, by_host_tick, by_option, by_test, comes_at, comes_to, commit, commit_writes, cond_both, controller_does}
use Rattle.node_laws.proofs.Words.{controller_ticks, controller_work, deeds_of, done, end_c, end_h, end_of_node, end_view, ending_entries, ending_of}
use Rattle.node_laws.proofs.Words.{entries_for, eqb, exchanged, fails_within, false, flat_map, fold, fold-append, forgets, forgotten, forgotten_hold}
use Rattle.node_laws.proofs.Words.{frames_noted, happens, has_input, host_deeds, host_does, host_tick, host_ticks, host_work, hosts_in, hosts_tick, inl}
use Rattle.node_laws.proofs.Words.{input_at, input_of, inr, is_command_message, is_late_at, is_waiting, length, link_after_controller, link_to, map}
use Rattle.node_laws.proofs.Words.{near_end_in, near_tick, not, noted_of, notice_at, notice_in, notified, noting, own_side, own_view, port_at, port_for, refl}
use Rattle.node_laws.proofs.Words.{report, runs_left, runs_none, runs_on, same_end, same_side, sending, site_at, site_ticked, site_unticked, steps, subst, sym}
use Rattle.node_laws.proofs.Words.{synced, tick_host, ticked_so, ticks_at_controller, times_out, told, told_at, told_late, true, true≢false, turn_at, turns_at}
use Rattle.node_laws.proofs.Words.{whole_acked, wires_for, with_desk, with_older, with_site, work_of, world_ticks, ℕ, ◌&&◌, ◌++◌, ◌∙◌, ◌∷◌, ◌≡◌}
use Rattle.link_laws.specs.entries.Entries.{End as Side}
use Rattle.link_laws.specs.entries.Entries.Entry.{Tick}
use Rattle.node_laws.proofs.links.Sites.{here_host}
use Rattle.node_laws.proofs.links.Noticing.{UpAt}
use Rattle.node_laws.proofs.notices.Turning.{AreHostEnds, IsOn, Stands, notice_more, reads}
use Rattle.node_laws.proofs.notices.Steps.{here_shut, steps_stand, ticks_shut}
use Rattle.node_laws.proofs.notices.Telling.{AreRight, noticed}
use Rattle.node_laws.proofs.readings.Turning.{IsQuiet, rest_quiet, told_rest}
use Rattle.node_laws.proofs.readings.Sites.{comes_outside, ending_quiet, near_end_side}
use Rattle.node_laws.proofs.steps.StepWalks.{Lasts, all_do as all_far, got_at, rest_lasts}
use Rattle.node_laws.proofs.telling.Ticks.{wires_all}
use Rattle.node_laws.proofs.telling.Events.{hosts_same_of_nodes as hosts_same, ports_for}
use Rattle.trace_model.specs.declared.entry.Entry.TheVariants as entry

-- ## What a host does: it neither asks nor tells anybody by a notice, and what it notes is of its own end

-- a host may note it: it tells of no end of a controller, of no creation that is asked for, and neither of the power nor of the
-- commands of a controller
abbrev pub IsFar : Entry → Type 0
IsFar (entry.Sent e n pid message) = e.at_host ≡ true
IsFar (entry.Turn e pid message) = e.at_host ≡ true
IsFar (entry.Down e cause) = e.at_host ≡ true
IsFar (entry.Ask h message) = ⊥
IsFar (entry.Cut n) = eqb n 0 ≡ false
IsFar (entry.Command n c) = eqb n 0 ≡ false
IsFar (entry.Booted n k) = eqb n 0 ≡ false
IsFar _ = Unit {0}

-- a host may do it
abbrev pub IsOwn : Deed → Type 0
IsOwn (Ends x) = IsFar x
IsOwn (Asks to message c) = ⊥
IsOwn _ = Unit {0}

abbrev pub AreOwn : List Deed → Type 0
AreOwn deeds = AllByRecursion IsOwn deeds

plain : Plain IsOwn
plain = record { sends = λ to x. tt; says_ok = tt; releases = λ asker. tt; is_answered = tt; drops = λ pid. tt }

own : (core : Core) → OfHost IsOwn core
own core = record { commits = λ c. tt; hears = tt; goes_on = λ i. tt; orders = λ i k order is. tt; same = tt; made = λ count. tt; failed = λ code. tt }

-- ### All that is done in a step

host_own : (core : Core) (p : Port) (m : Message) → AreOwn (host_deeds (own_view core) (end_view p) m)
host_own core p m = all_of_host IsOwn core plain (own core) p m (λ n value command zero sets. tt)

pub deeds_own : (core : Core) (ports : List Port) (h : ℕ) (m : Message) → eqb core.node 0 ≡ false → AreOwn (deeds_of core ports h m)
deeds_own core ports h m off = by_option (port_at ports h) (λ here. rw (off, here) tt) (λ p here. rw (off, here) (host_own core p m))

pub forgotten_own : (ports : List Port) → AreOwn (forgotten ports)
forgotten_own ports = forgotten_hold IsOwn (λ asker. tt) ports

pub all_owed_own : (ports : List Port) → AreOwn (all_owed ports)
all_owed_own ports = all_owed_hold IsOwn (λ asker. tt) (λ to r. tt) ports

pub all_synced_own : (core : Core) (input : NodeInput) (ports : List Port) → AreOwn (flat_map (synced core input) ports)
all_synced_own core input ports = all_synced_hold IsOwn (λ host id. tt) core input ports

-- ## What a host notes tells nothing of the notices of a controller

abbrev pub AreFar : List Entry → Type 0
AreFar es = AllByRecursion IsFar es

pub far-append : (xs ys : List Entry) → AreFar xs → AreFar ys → AreFar (xs ++ ys)
far-append [] ys a b = b
far-append (x ∷ xs) ys a b = (a.0, far-append xs ys a.1 b)

pub far_flat : {X : Type 0} (f : X → List Entry) → ((x : X) → AreFar (f x)) → (xs : List X) → AreFar (flat_map f xs)
far_flat f one [] = tt
far_flat f one (x ∷ xs) = far-append (f x) (flat_map f xs) (one x) (far_flat f one xs)

-- ### What is read of them

-- an end of a host is no end of the controller
pub not_near : (e : End) (x : ℕ) → e.at_host ≡ true → same_end e (end_c x) ≡ false
not_near e x far = ap (λ b. eqb e.link x && same_side b false) far ∙ and-false (eqb e.link x)

module _ (x : ℕ) where
  pub far_reads : (es : List Entry) → AreFar es → (r : Option (List ℕ)) → reads x es r ≡ r
  far_reads [] a r = refl
  far_reads (e ∷ es) a r = ap (reads x es) (grind arith) ∙ far_reads es a.1 r

  -- ### Creations

  abbrev pub asks : List Entry → Option (List ℕ) → Option (List ℕ)
  asks es r = fold (asking_after x) r es

  pub asking_more : (t es : List Entry) → asking_in (t ++ es) x ≡ asks es (asking_in t x)
  asking_more t es = fold-append (asking_after x) None t es

  pub far_asks : (es : List Entry) → AreFar es → (r : Option (List ℕ)) → asks es r ≡ r
  far_asks [] a r = refl
  far_asks (e ∷ es) a r = ap (asks es) (grind arith) ∙ far_asks es a.1 r

-- ### Notes

pub quiet_far : (h : ℕ) (notes : List Noted) → AllByRecursion IsQuiet notes → AreFar (entries_for h notes)
quiet_far h [] all = tt
quiet_far h (Down who cause ∷ notes) all = absurd all.0
quiet_far h (Sent who n m ∷ notes) all = absurd all.0
quiet_far h (Tick ∷ notes) all = quiet_far h notes all.1
quiet_far h (Restarted who ∷ notes) all = quiet_far h notes all.1
quiet_far h (Cut who ∷ notes) all = quiet_far h notes all.1
quiet_far h (_ ∷ notes) all = (tt, quiet_far h notes all.1)

told_far : (h n acked : ℕ) (r : Report) → AreFar (entries_for h (told Host n r acked))
told_far h n acked r = by_option r.ended (λ q. rw q (quiet_far h rest quiet)) (λ cause q. rw q (refl, quiet_far h rest quiet)) where
  rest : List Noted
  rest = told_rest Host n acked r

  quiet : AllByRecursion IsQuiet rest
  quiet = rest_quiet Host n acked r

come_far : (core : Core) (p : Port) (o : Option LinkInput) → own_side core ≡ Host → AreFar (told_at core p o)
come_far core p None side = tt
come_far core p (Some i) side =
    subst (λ s. AreFar (entries_for p.desk.host (told s p.session (report p.side i) (whole_acked (after_input p.side i))))) (sym side)
    (told_far p.desk.host p.session (whole_acked (after_input p.side i)) (report p.side i))

turn_far : (core : Core) (t : Turn) (p : Port) → own_side core ≡ Host → AreFar (noted_of core t p)
turn_far core t p side = grind arith

-- ### Works

-- a node that isn't the controller, and what it noted
pub record IsFarWork (w : Work) : Type 0 where
  pub number : eqb w.core.node 0 ≡ false
  pub far : AreFar w.entries

host_side : (w : Work) → IsFarWork w → own_side w.core ≡ Host
host_side w a = let e : eqb w.core.node 0 ≡ false = a.number in rw e refl

notes : (es : List Entry) (w : Work) → AreFar es → IsFarWork w → IsFarWork (noting es w)
notes es w more a = record { number = a.number; far = far-append w.entries es a.far more }

with_core : (w : Work) (c : Core) → c.node ≡ w.core.node → IsFarWork w → IsFarWork (record w { core = c })
with_core w c same a = record { number = ap (λ n. eqb n 0) same ∙ a.number; far = a.far }

turns : (h : ℕ) (t : Turn) (w : Work) → IsFarWork w → IsFarWork (turn_at h t w)
turns h t w a = record { number = a.number; far = far-append w.entries _ a.far (grind arith) }

desks : (h : ℕ) (f : Desk → Desk) (w : Work) → IsFarWork w → IsFarWork (with_desk h f w)
desks h f w a = record { number = a.number; far = a.far }

tells : (h : ℕ) (about : About) (message : List ℕ) (w : Work) → IsFarWork w → IsFarWork (notified h about message w)
tells h about message w a =
    desks h (λ d. record d { notice = Some (record { about = about; age = 0 }) }) (turn_at h (Give (1, message)) w) (turns h (Give (1, message)) w a)

commits : (c : Command) (w : Work) → IsFarWork w → IsFarWork (commit c w)
commits c w a = by_test (fails_within (length (commit_writes w.core.journal w.core.tables (body_of c))) w.plan)
    (λ q. rw q (record {
      number = a.number;
      far = far-append (w.entries ++ entry.Command w.core.node c ∷ []) (entry.Cut w.core.node ∷ []) noted (a.number, tt);
    }))
    (λ q. rw q (record { number = a.number; far = noted })) where
      noted : AreFar (w.entries ++ entry.Command w.core.node c ∷ [])
      noted = far-append w.entries (entry.Command w.core.node c ∷ []) a.far (a.number, tt)

does : (h : ℕ) (d : Deed) (w : Work) → IsOwn d → IsFarWork w → IsFarWork (done h d w)
does h (Commits c) w q a = commits c w a
does h (Sends to m) w q a = turns to (Give m) w a
does h SaysOk w q a = notes _ w (tt, tt) a
does h (Asks to message c) w q a = absurd q
does h (Releases asker) w q a = turns asker Release w a
does h (Tells to message) w q a = tells to Removed message w a
does h IsAnswered w q a = desks h (λ d. record d { notice = None }) w a
does h (Drops pid) w q a = notes _ w (tt, tt) a
does h (SetsErrors errors) w q a = desks h (λ d. record d { errors = errors }) w a
does h (Orders message) w q a =
    turns h (Give (1, message)) (record w { core = record w.core { command = Some message } })
    (with_core w (record w.core { command = Some message }) refl a)
does h Hears w q a = with_core w (record w.core { command = None }) refl a
does h (GoesOn i) w q a = with_core w (record w.core { init = Some i }) refl a
does h (Ends e) w q a = notes (e ∷ []) (record w { core = record w.core { init = None } }) (q, tt) (with_core w (record w.core { init = None }) refl a)

pub all_do : (h : ℕ) (deeds : List Deed) (w : Work) → AreOwn deeds → IsFarWork w → IsFarWork (all_done h deeds w)
all_do h deeds w q a = all_far IsFarWork IsOwn does h deeds w q a

-- ### Turns

abbrev Any : ℕ → Message → Type 0
Any h m = Unit {0}

far_lasts : Lasts IsFarWork IsOwn Any
far_lasts = record {
  does = does;
  turn_told = λ h m w any a. notes (entry.Turn (end_of_node w.core h) m.0 m.1 ∷ []) w (grind arith, tt) a;
  held_told = λ h need spare w a. notes (entry.Held (end_of_node w.core h) need spare ∷ []) w (tt, tt) a;
  fetched = λ h w a. turns h FetchMessage w a;
  held = λ h flag w a. turns h (Hold flag) w a;
  marked = λ h flag w a. desks h (λ d. record d { holds = flag }) w a;
  come = λ h w a. anyone (Any h) (λ m. tt) (got_at h w);
  causes = λ h m w any a. deeds_own w.core w.ports h m a.number;
}

-- ### Steps

came_far : (input : NodeInput) (w : Work) → IsFarWork w → IsFarWork (all_come input w)
came_far input w a = record {
  number = a.number;
  far = far-append w.entries _ a.far (far_flat (λ p. told_at w.core p (input_at input p)) (λ p. come_far w.core p (input_at input p) (host_side w a)) w.ports);
}

times_far : (input : NodeInput) (w : Work) → IsFarWork w → IsFarWork (times_out input w)
times_far (AtEnd h i) w a = a
times_far TimePasses w a = record {
  number = a.number;
  far = far-append w.entries _ a.far (far_flat (told_late w.core) (λ p. grind arith) (map with_older w.ports));
}

pub steps_far : (input : NodeInput) (w : Work) → IsFarWork w → IsFarWork (steps input w)
steps_far input w a =
    let came : Work = times_out input (all_come input w) in
    let b : IsFarWork came = times_far input (all_come input w) (came_far input w a) in
    let left : List Port = map (forgets came.ports) came.ports in
    let begun : Work = record came {
      core = after_sessions came.core came.ports;
      ports = map Rattle.node_machine.specs.Node.without_notice left;
    } in
    rest_lasts IsFarWork IsOwn Any far_lasts (forgotten came.ports) (flat_map (synced w.core input) w.ports) (all_owed left) begun
    (forgotten_own came.ports) (all_synced_own w.core input w.ports) (all_owed_own left) (grind arith)

-- ## What stays of the hosts of a world and of the links to them, and what is read of the controller's notices as a host acts

abbrev pub AreGood : List Site → Type 0
AreGood sites = AllByRecursion IsGoodSite sites

pub record Reads (t : List Entry) (w : NodeWorld) : Type 0 where
  pub sites : AreGood w.sites
  pub reads_so : IfReads t w.controller

-- entries tell nothing of any notice, nor of any creation
abbrev pub AreHushed : List Entry → Type 0
AreHushed es = (x : ℕ) (r : Option (List ℕ)) → (reads x es r ≡ r) × (asks x es r ≡ r)

same_asking : (t es : List Entry) (x : ℕ) → AreHushed es → asking_in (t ++ es) x ≡ asking_in t x
same_asking t es x hushed = asking_more x t es ∙ (hushed x (asking_in t x)).1

pub still_reads : (t es : List Entry) (o : Option Running) → AreHushed es → IfReads t o → IfReads (t ++ es) o
still_reads t es None hushed a = λ x. ((notice_more x t es ∙ (hushed x (notice_in t x)).0) ∙ (a x).0, same_asking t es x hushed ∙ (a x).1)
still_reads t es (Some r) hushed a = record {
  sorted = a.sorted;
  two = a.two;
  right = a.right;
  kept = λ x. subst (λ m. IsKeptNotice m (notice_at r.desks x)) (sym (notice_more x t es ∙ (hushed x (notice_in t x)).0)) (a.kept x);
}

pub far_hushed : (es : List Entry) → AreFar es → AreHushed es
far_hushed es far x r = (far_reads x es far r, far_asks x es far r)

-- ### Sites

pub good_map : (f : Site → Site) → ((s : Site) → IsGoodSite s → IsGoodSite (f s)) → (sites : List Site) → AreGood sites → AreGood (map f sites)
good_map f one sites a = all_map IsGoodSite IsGoodSite f one sites a

pub good_with : (h : ℕ) (f : Site → Site) → ((s : Site) → IsGoodSite s → IsGoodSite (f s)) → (sites : List Site) → AreGood sites → AreGood (with_site h f sites)
good_with h f one sites a = all_changed IsGoodSite (λ s. eqb s.host h) f one sites a

pub good_at : (sites : List Site) (h : ℕ) (s : Site) → AreGood sites → site_at sites h ≡ Some s → IsGoodSite s
good_at [] h s a e = absurd (cc e)
good_at (z ∷ sites) h s a e =
    cond_both (eqb z.host h) (Some z) (site_at sites h) (λ o. o ≡ Some s → IsGoodSite s)
    (λ is f. let same : z ≡ s = cc in subst IsGoodSite same a.0) (λ off f. good_at sites h s a.1 f) e

pub link_shut : (sites : List Site) (n : ℕ) → AreGood sites → IsShut (link_to sites n).controller.side
link_shut sites n a = by_option (site_at sites n) (λ e. rw e (λ q. absurd (true≢false q))) (λ s e. rw e (good_at sites n s a e).shut)

-- what happens at the host's end leaves the controller's
pub far_shut : (l : Link) (x : EndEvent) → IsShut l.controller.side → IsShut (happens l (AtHost x)).controller.side
far_shut l x a = subst (λ (h : NumberedEnd). IsShut h.side) (sym (here_host (exchanged l) x)) a

far_tick_shut : (l : Link) (ts : List Rattle.link_laws.specs.machine.Machine.Turn) (ending : Ending) → IsShut l.controller.side
    → IsShut (exchanged (ticks_at_controller (exchanged l) ts ending)).controller.side
far_tick_shut l ts ending a = subst (λ (h : NumberedEnd). IsShut h.side) (sym (tick_host (exchanged l) ts ending)) a

-- ### Notes

pub frames_quiet : (who : Side) (h : ℕ) (l : Link) (k : Work) → AreFar (frames_noted who h l k)
frames_quiet who h l k = by_option (port_at k.ports h)
    (λ q. rw q tt)
    (λ p q. rw q (quiet_far h (ending_entries who l p.side (ending_of k)) (ending_quiet who l p.side (ending_of k))))

pub arrival_quiet : (who : Side) (h : ℕ) (l : Link) (comes : Comes) → AreFar (entries_for h (arrival who l comes))
arrival_quiet who h l comes = grind arith

-- ### A host acts

module _ (t : List Entry) (w : NodeWorld) (a : Reads t w) where
  nothing : Reads (t ++ []) w
  nothing = subst (λ l. Reads l w) (sym (append-nil t)) a

  host_reads : (h : ℕ) (comes : Comes) (f : Work → Work) → ((k : Work) → IsFarWork k → IsFarWork (f k))
      → Reads (t ++ (host_does w h comes f).1) (host_does w h comes f).0
  host_reads h comes f keeps =
      by_host (λ p. Reads (t ++ p.1) p.0) w h comes f nothing
      (λ s r here e.
      let good : IsGoodSite s = good_at w.sites h s a.sites here in
      let k : Work = host_work s r comes f in
      let frames : List Entry = frames_noted Host h (wires_for (exchanged s.link) comes) k in
      let far : IsFarWork k = grind arith in
      record {
        sites = good_with h (after_host comes k)
            (λ z b. record { host = b.host; node = grind arith; shut = far_shut z.link (Step comes (turns_at k z.host) (ending_of k)) b.shut })
            w.sites a.sites;
        reads_so = still_reads t (k.entries ++ frames) w.controller
            (far_hushed (k.entries ++ frames) (far-append k.entries frames far.far (frames_quiet Host h (wires_for (exchanged s.link) comes) k))) a.reads_so;
      })

  -- something comes to the end of a host
  far_reads_so : (e : End) (comes : Comes) → e.at_host ≡ true → Reads (t ++ (comes_at w e comes).1) (comes_at w e comes).0
  far_reads_so e comes far =
      by_coming (λ p. Reads (t ++ p.1) p.0) w e comes nothing
      (λ i at q. host_reads e.link comes (steps (AtEnd e.link i)) (λ k b. steps_far (AtEnd e.link i) k b))
      (λ i at q. absurd (true≢false (sym far ∙ at)))

  -- a host begins by deeds of its own
  pub begins_reads : (h : ℕ) (deeds : List Deed) → AreOwn deeds
      → Reads (t ++ (host_does w h NoInput (begins_with h deeds)).1) (host_does w h NoInput (begins_with h deeds)).0
  begins_reads h deeds own = host_reads h NoInput (begins_with h deeds) (λ k b. all_do h deeds k own b)

pub sending_own : (h : ℕ) (m : Message) → AreOwn (sending h m)
sending_own h m = cond_both (eqb m.0 1 && is_command_message m.1) (Orders m.1 ∷ []) (Sends h m ∷ []) AreOwn (λ _. (tt, tt)) (λ _. (tt, tt))

pub beginning_own : (identity : List ℕ) (pipes : List (List ℕ)) → AreOwn (beginning identity pipes)
beginning_own identity pipes = (tt, (tt, tt))

-- ### Hosts have their ticks

one_tick : (s : Site) → IsGoodSite s → IsGoodSite (host_ticks s).0 × AreFar (host_ticks s).1
one_tick s good =
    by_host_tick (λ p. IsGoodSite p.0 × AreFar p.1) s
    (λ e. (record { host = good.host; node = good.node; shut = far_tick_shut s.link [] GoesOut good.shut }, tt))
    (λ r e.
    let k : Work = host_tick s r in
    let far : IsFarWork k = steps_far TimePasses (work_of r s.memory.plan (λ h. s.link.host) [])
    (record { number = subst IfHostNode e good.node; far = tt }) in (
      record { host = good.host; node = grind arith; shut = far_tick_shut s.link (turns_at k s.host) (ending_of k) good.shut },
      far-append k.entries (frames_noted Host s.host (exchanged s.link) k) far.far (frames_quiet Host s.host (exchanged s.link) k),
    ))

pub all_tick : (sites : List Site) → AreGood sites → AreGood (hosts_tick sites).0 × AreFar (hosts_tick sites).1
all_tick [] a = (tt, tt)
all_tick (s ∷ sites) a =
    let first = one_tick s a.0 in
    let later = all_tick sites a.1 in
    ((first.0, later.0), far-append (host_ticks s).1 (hosts_tick sites).1 first.1 later.1)

-- ## What is read of the controller's notices as the controller has a step

-- ### Ends as a step begins

pub all_ports : (P : Port → Type 0) (near_ends : ℕ → NumberedEnd) → ((d : Desk) → P (port_for (near_ends d.host) d)) → (desks : List Desk)
    → AllByRecursion P (ports_for near_ends desks)
all_ports P near_ends one [] = tt
all_ports P near_ends one (d ∷ desks) = (one d, all_ports P near_ends one desks)

right_ports : (near_ends : ℕ → NumberedEnd) (desks : List Desk) → AllByRecursion (λ (d : Desk). IsRightNotice d.notice) desks
    → AreRight (ports_for near_ends desks)
right_ports near_ends [] a = tt
right_ports near_ends (d ∷ desks) a = (a.0, right_ports near_ends desks a.1)

host_ports : (near_ends : ℕ → NumberedEnd) (desks : List Desk) → AllByRecursion IsHost (map (λ (d : Desk). d.host) desks)
    → AreHostEnds (ports_for near_ends desks)
host_ports near_ends [] a = tt
host_ports near_ends (d ∷ desks) a = (a.0, host_ports near_ends desks a.1)

pub noticed_ports : (near_ends : ℕ → NumberedEnd) (desks : List Desk) (x : ℕ) → noticed (ports_for near_ends desks) x ≡ notice_at desks x
noticed_ports near_ends [] x = refl
noticed_ports near_ends (d ∷ desks) x = by_test (eqb d.host x) (λ is. rw is refl) (λ off. rw off (noticed_ports near_ends desks x))

up_ports : (g h : ℕ → NumberedEnd) → ((n : ℕ) → (h n).side ≡ (g n).side) → (desks : List Desk) (x : ℕ) → OnFirst IsNoticedUp (port_at (ports_for g desks) x)
    → UpAt (port_at (ports_for h desks) x)
up_ports g h same [] x a = tt
up_ports g h same (d ∷ desks) x a = by_test (eqb d.host x)
    (λ is. grind arith)
    (λ off. rw off ((up_ports g h same desks x) (rw off at a)))

good_hosts : (sites : List Site) → AreGood sites → AllByRecursion IsHost (hosts_in sites)
good_hosts [] a = tt
good_hosts (s ∷ sites) a = (a.0.host, good_hosts sites a.1)

-- the notices that stay at desks
pub noticed_desks : (ports : List Port) (x : ℕ) → noticed ports x ≡ notice_at (map (λ (p : Port). p.desk) ports) x
noticed_desks [] x = refl
noticed_desks (p ∷ ports) x = by_test (eqb p.desk.host x) (λ is. rw is refl) (λ off. rw off (noticed_desks ports x))

right_desks : (ports : List Port) → AreRight ports → AllByRecursion (λ (d : Desk). IsRightNotice d.notice) (map (λ (p : Port). p.desk) ports)
right_desks [] a = tt
right_desks (p ∷ ports) a = (a.0, right_desks ports a.1)

-- ### A step

module _ (t : List Entry) (w : NodeWorld) (r : Running) (has : HasEnds 0 (hosts_in w.sites) r) (different : AreDifferent (hosts_in w.sites))
    (ups : IfNoticedUp w.sites (Some r)) (sites : AreGood w.sites) (old : ControllerReads t r) (plan : Option Plan) (near_ends : ℕ → NumberedEnd)
    (same : (n : ℕ) → (near_ends n).side ≡ (link_to w.sites n).controller.side) (es : List Entry) (quiet : AreFar es) (input : NodeInput)
    (outside : IsOutside input) where
  abbrev begun : Work
  begun = work_of r plan near_ends es

  abbrev after_it : Work
  after_it = steps input begun

  pub begins : (x : ℕ) → IsOn x t begun
  begins x = record {
    on = refl;
    node = has.number;
    sorted = old.sorted;
    two = old.two;
    hosts = host_ports near_ends r.desks (subst (AllByRecursion IsHost) (sym has.ends) (good_hosts w.sites sites));
    right = right_ports near_ends r.desks old.right;
    up = up_ports (λ n. (link_to w.sites n).controller) near_ends same r.desks x (ups x);
    kept = subst (λ m. IsKeptNotice m (noticed (ports_for near_ends r.desks) x)) (sym (notice_more x t es ∙ far_reads x es quiet (notice_in t x)))
        (subst (IsKeptNotice (notice_in t x)) (sym (noticed_ports near_ends r.desks x)) (old.kept x));
  }

  stands : (x : ℕ) → Stands x t after_it
  stands x =
      steps_stand x t begun (begins x) input outside
      (subst AreDifferent (sym (hosts_same near_ends r.desks ∙ has.ends)) different)
      (all_ports IsFresh near_ends (λ d. (refl, refl)) r.desks)
      (all_ports (λ (p : Port). IsShut p.side) near_ends (λ d. subst IsShut (sym (same d.host)) (link_shut w.sites d.host sites)) r.desks)

  -- and frames go out
  step_reads : (frames : List Entry) → AreFar frames → IfReads (t ++ (after_it.entries ++ frames)) (runs_on after_it)
  step_reads frames far = by_test after_it.cut
      (λ e. subst (IfReads (t ++ (after_it.entries ++ frames))) (sym (runs_none after_it e))
      (λ x. let gone = none e x (stands x) in (parts x ∙ gone.0, parts_asking x ∙ gone.1)))
      (λ e. subst (IfReads (t ++ (after_it.entries ++ frames))) (sym (runs_left after_it e)) (record {
        sorted = (on e 0 (stands 0)).sorted;
        two = (on e 0 (stands 0)).two;
        right = right_desks after_it.ports (on e 0 (stands 0)).right;
        kept = λ x. subst (λ m. IsKeptNotice m (notice_at (map (λ (p : Port). p.desk) after_it.ports) x)) (sym (parts x))
            (subst (IsKeptNotice (notice_in (t ++ after_it.entries) x)) (noticed_desks after_it.ports x) (on e x (stands x)).kept);
      })) where
        parts : (x : ℕ) → notice_in (t ++ (after_it.entries ++ frames)) x ≡ notice_in (t ++ after_it.entries) x
        parts x =
            ap (λ l. notice_in l x) (sym (append_assoc t after_it.entries frames))
            ∙ (notice_more x (t ++ after_it.entries) frames ∙ far_reads x frames far (notice_in (t ++ after_it.entries) x))

        parts_asking : (x : ℕ) → asking_in (t ++ (after_it.entries ++ frames)) x ≡ asking_in (t ++ after_it.entries) x
        parts_asking x =
            ap (λ l. asking_in l x) (sym (append_assoc t after_it.entries frames))
            ∙ (asking_more x (t ++ after_it.entries) frames ∙ far_asks x frames far (asking_in (t ++ after_it.entries) x))

        none : after_it.cut ≡ true → (x : ℕ) → Stands x t after_it
            → (notice_in (t ++ after_it.entries) x ≡ None) × (asking_in (t ++ after_it.entries) x ≡ None)
        none e x (inl a) = absurd (true≢false (sym e ∙ a.on))
        none e x (inr a) = (
          ap (λ l. notice_in l x) a.ends ∙ notice_more x a.front (entry.Cut 0 ∷ []),
          ap (λ l. asking_in l x) a.ends ∙ asking_more x a.front (entry.Cut 0 ∷ []),
        )

        on : after_it.cut ≡ false → (x : ℕ) → Stands x t after_it → IsOn x t after_it
        on e x a = grind arith

-- ### What comes

module _ (t : List Entry) (w : NodeWorld) (orderly : IsOrderly w) (ups : NoticesAreUp w) (a : Reads t w) where
  near_reads : (h : ℕ) (comes : Comes) (i : LinkInput) → input_of (link_to w.sites h) comes ≡ Some i
      → Reads (t ++ (controller_does w h comes (steps (AtEnd h i))).1) (controller_does w h comes (steps (AtEnd h i))).0
  near_reads h comes i input =
      by_controller (λ p. Reads (t ++ p.1) p.0) w h comes (steps (AtEnd h i)) (nothing t w a)
      (λ r e.
      let k : Work = controller_work w r h comes (steps (AtEnd h i)) in
      record {
        sites = good_map (link_after_controller h comes k)
            (λ s b. record {
              host = b.host;
              node = b.node;
              shut = here_shut s.link (Step (comes_to h comes s.host) (turns_at k s.host) (ending_of k)) b.shut;
            }) w.sites a.sites;
        reads_so = step_reads t w r (subst (IfItRuns 0 (hosts_in w.sites)) e orderly.controller) orderly.different (subst (IfNoticedUp w.sites) e ups) a.sites
            (subst (IfReads t) e a.reads_so) w.memory.plan (λ n. near_end_in (link_to w.sites n) (comes_to h comes n))
            (λ n. near_end_side (link_to w.sites n) (comes_to h comes n)) (entries_for h (arrival Controller (link_to w.sites h) comes))
            (arrival_quiet Controller h (link_to w.sites h) comes) (AtEnd h i) (comes_outside (link_to w.sites h) comes i input)
            (flat_map (λ (s : Site). frames_noted Controller s.host (wires_for s.link (comes_to h comes s.host)) k) w.sites)
            (far_flat (λ (s : Site). frames_noted Controller s.host (wires_for s.link (comes_to h comes s.host)) k)
            (λ s. frames_quiet Controller s.host (wires_for s.link (comes_to h comes s.host)) k) w.sites);
      })

  pub comes_reads : (e : End) (comes : Comes) → Reads (t ++ (comes_at w e comes).1) (comes_at w e comes).0
  comes_reads e comes =
      by_coming (λ p. Reads (t ++ p.1) p.0) w e comes (nothing t w a)
      (λ i far q. host_reads t w a e.link comes (steps (AtEnd e.link i)) (λ k b. steps_far (AtEnd e.link i) k b)) (λ i near q. near_reads e.link comes i q)

  -- ### Time

  pub aged_far : AreFar (all_aged w).1
  aged_far = far_flat (λ (s : Site). entries_for s.host (aged_entries Controller s.link.to_controller ++ aged_entries Host s.link.to_host))
      (λ s. quiet_far s.host (aged_entries Controller s.link.to_controller ++ aged_entries Host s.link.to_host)
      (wires_all IsQuiet (λ w c. tt) Controller Host s.link.to_controller s.link.to_host)) w.sites

  aged_good : AreGood (all_aged w).0.sites
  aged_good = good_map (λ (s : Site). record s { link = aged s.link }) (λ s b. record { host = b.host; node = b.node; shut = b.shut }) w.sites a.sites

  pub aged_side : (sites : List Site) (n : ℕ)
      → (link_to (map (λ (s : Site). record s { link = aged s.link }) sites) n).controller.side ≡ (link_to sites n).controller.side
  aged_side [] n = refl
  aged_side (s ∷ sites) n = by_test (eqb s.host n) (λ is. rw is refl) (λ off. rw off (aged_side sites n))

  ticked_shut : (l : Link) (late : Bool) (ts : List Turn) (ending : Ending) → IsShut l.controller.side
      → IsShut (ticked_so l late ts ending).controller.side
  ticked_shut l late ts ending b =
      cond_both (late && not (is_waiting l.controller.side.shdlc)) (has_input l (Reset None) ts ending) (ticks_at_controller l ts ending)
      (λ (m : Link). IsShut m.controller.side) (λ _. here_shut l (Step (AsksReset None) ts ending) b) (λ _. ticks_shut l ts ending b)

  near_ticks : Reads (t ++ ((all_aged w).1 ++ (controller_ticks (all_aged w).0).1)) (controller_ticks (all_aged w).0).0
  near_ticks =
      by_controller_tick (λ p. Reads (t ++ ((all_aged w).1 ++ p.1)) p.0) old
      (λ e. record {
        sites = good_map site_unticked (λ s b. record { host = b.host; node = b.node; shut = ticks_shut s.link [] GoesOut b.shut }) old.sites aged_good;
        reads_so = still_reads t (es ++ []) w.controller (far_hushed (es ++ []) (far-append es [] aged_far tt)) a.reads_so;
      })
      (λ r e.
      let k : Work = near_tick old r in
      let frames : List Entry = flat_map (λ (s : Site). frames_noted Controller s.host s.link k) old.sites in
      record {
        sites = good_map (site_ticked k)
            (λ s b. record {
              host = b.host;
              node = b.node;
              shut = ticked_shut s.link (is_late_at k s.host) (turns_at k s.host) (ending_of k) b.shut;
            }) old.sites aged_good;
        reads_so = subst (λ l. IfReads l (runs_on k)) (append_assoc t es (k.entries ++ frames))
            (step_reads (t ++ es) w r (subst (IfItRuns 0 (hosts_in w.sites)) e orderly.controller) orderly.different (subst (IfNoticedUp w.sites) e ups) a.sites
            (still_reads t es (Some r) (far_hushed es aged_far) (subst (IfReads t) e a.reads_so)) w.memory.plan
            (λ h. (link_to old.sites h).controller) (λ n. aged_side w.sites n) [] tt TimePasses tt frames
            (far_flat (λ (s : Site). frames_noted Controller s.host s.link k) (λ s. frames_quiet Controller s.host s.link k) old.sites));
      })
    where
      old : NodeWorld
      old = (all_aged w).0

      es : List Entry
      es = (all_aged w).1

  pub ticks_reads : Reads (t ++ (world_ticks w).1) (world_ticks w).0
  ticks_reads =
      let old : NodeWorld × List Entry = all_aged w in
      let near : NodeWorld × List Entry = controller_ticks old.0 in
      let far : List Site × List Entry = hosts_tick near.0.sites in
      let one : Reads (t ++ (old.1 ++ near.1)) near.0 = near_ticks in
      let hosts = all_tick near.0.sites one.sites in
      let two : Reads ((t ++ (old.1 ++ near.1)) ++ far.1) (record near.0 { sites = far.0 }) = record {
        sites = hosts.0;
        reads_so = still_reads (t ++ (old.1 ++ near.1)) far.1 near.0.controller (far_hushed far.1 hosts.1) one.reads_so;
      } in
      subst (λ l. Reads l (record near.0 { sites = far.0 }))
      (append_assoc t (old.1 ++ near.1) far.1 ∙ ap (λ l. t ++ l) (append_assoc old.1 near.1 far.1)) two

  pub activates_reads : (h sync power : ℕ) → Reads (t ++ (activates w h sync power).1) (activates w h sync power).0
  activates_reads h sync power =
      let near : NodeWorld × List Entry = comes_at w (end_c h) (Starts power) in
      let far : NodeWorld × List Entry = comes_at near.0 (end_h h) (Starts sync) in
      subst (λ l. Reads l far.0) (append_assoc t near.1 far.1)
      (far_reads_so (t ++ near.1) near.0 (comes_reads (end_c h) (Starts power)) (end_h h) (Starts sync) refl)
