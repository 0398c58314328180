-- Each link of a world of nodes is a run of the law of one link, whatever lines are played.
use Rattle.node_laws.proofs.Words.{Activates, AllByRecursion, ArePlayable, AreSendableTurns, Arms, AsksReset, AtController, AtEnd, Bool, Boots, CanCome, Comes}
use Rattle.node_laws.proofs.Words.{CutOff, Deed, Desk, End, Ending, Gives, GoesOut, Happening, Inits, IsCut, IsPlayable, IsRun, IsSendable, IsWindow, Line}
use Rattle.node_laws.proofs.Words.{Link, List, Lose, Loses, Loss, Memory, Message, NextFrame, NoCause, NoInput, Node, NodeWorld, None, NumberedEnd, OnDemand}
use Rattle.node_laws.proofs.Words.{Option, Port, Resets, Running, Site, Some, Start, Starts, Step, Stops, Takes, Ticks, TimePasses, Turn, Verdict, Work, []}
use Rattle.node_laws.proofs.Words.{activates, after_controller, after_host, after_planned, aged, all_aged, all_happen, all_map, arith, at, beginning}
use Rattle.node_laws.proofs.Words.{begins_with, boot_found, boot_writes, boot_written, boots, by_boot, by_coming, by_controller, by_controller_tick, by_counts}
use Rattle.node_laws.proofs.Words.{by_host, by_host_tick, by_loss, by_memory, by_option, by_power, by_running, by_some, by_test, can_happen, changed_if}
use Rattle.node_laws.proofs.Words.{comes_at, comes_to, cond, controller_cut, controller_does, controller_ticks, controller_work, counts, end_c, end_h}
use Rattle.node_laws.proofs.Words.{ending_of, errors_all, exchanged, false, first_cause, first_verdict, frame_lost, frames_at, goes_on, happens, happens_by}
use Rattle.node_laws.proofs.Words.{host_cut, host_does, host_tick, host_ticks, host_work, hosts_tick, if_off, is_command_message, is_late_at, is_some}
use Rattle.node_laws.proofs.Words.{is_waiting, line_step, link_after_controller, link_to, links_of, loses_power_at, map, memory_at, near_end_in, near_tick}
use Rattle.node_laws.proofs.Words.{new_desk, new_site, new_world, not, port_at, port_for, refl, refusal_in, replicate, runs_on, sending, site_at, site_lost}
use Rattle.node_laws.proofs.Words.{steps, subst, suc, sym, taken_of, tick_host, ticked_so, ticks_at_controller, true, turns_at, unwrap_or, with_memory}
use Rattle.node_laws.proofs.Words.{with_node, with_site, work_of, world_after, world_step, world_ticks, zero, ℕ, ◌&&◌, ◌==◌, ◌∷◌, ◌≡◌}
use Rattle.link_laws.proofs.messages.Runs.{IsIdleClf, can_start, started_clf}
use Rattle.node_laws.proofs.links.Works.{AreFine, AreFinePorts, IsFineWork, IsTrueDesk, all_done_fine, fine_at, steps_fine}
use Rattle.node_laws.proofs.links.Sites.{Clean, IsFineLink, MayCome, controller_loses, controller_steps, here_host, host_loses, host_steps, ticks_fine}
use Rattle.trace_model.specs.declared.entry.NoCause.TheVariants as no
use Rattle.trace_model.specs.declared.line.Line.TheVariants as line

-- ## Each link of a world of nodes is a run of the law of one link

-- ### What is kept

abbrev pub AreTrueDesks : List Desk → Type 0
AreTrueDesks desks = AllByRecursion IsTrueDesk desks

abbrev pub IsFineNode : Option Running → Type 0
IsFineNode None = Unit {0}
IsFineNode (Some r) = AreTrueDesks r.desks

pub record IsFineSite (s : Site) : Type 0 where
  pub link : IsFineLink s.link
  pub node : IsFineNode s.node

abbrev pub AreFineSites : List Site → Type 0
AreFineSites sites = AllByRecursion IsFineSite sites

pub record IsFineWorld (w : NodeWorld) : Type 0 where
  pub sites : AreFineSites w.sites
  pub controller : IsFineNode w.controller

-- ### Lists

sites_map : (f : Site → Site) → ((s : Site) → IsFineSite s → IsFineSite (f s)) → (sites : List Site) → AreFineSites sites → AreFineSites (map f sites)
sites_map f one sites a = all_map IsFineSite IsFineSite f one sites a

-- what is known of the sites with this number besides
abbrev pub AtHostOnly : (Site → Type 0) → ℕ → Site → Type 0
AtHostOnly P h s = (s.host == h) ≡ true → P s

changed : (P : Site → Type 0) (h : ℕ) (f : Site → Site) → ((s : Site) → P s → IsFineSite s → IsFineSite (f s)) → (s : Site) → AtHostOnly P h s
    → IsFineSite s → IsFineSite (changed_if (s.host == h) f s)
changed P h f one s known a = grind arith

site_changed : (P : Site → Type 0) (h : ℕ) (f : Site → Site) → ((s : Site) → P s → IsFineSite s → IsFineSite (f s)) → (sites : List Site)
    → AllByRecursion (AtHostOnly P h) sites → AreFineSites sites → AreFineSites (with_site h f sites)
site_changed P h f one [] known a = tt
site_changed P h f one (s ∷ sites) known a = (changed P h f one s known.0 a.0, site_changed P h f one sites known.1 a.1)

nothing_known : (h : ℕ) (sites : List Site) → AllByRecursion (AtHostOnly (λ s. Unit {0}) h) sites
nothing_known h [] = tt
nothing_known h (s ∷ sites) = ((λ q. tt), nothing_known h sites)

site_fine : (h : ℕ) (f : Site → Site) → ((s : Site) → IsFineSite s → IsFineSite (f s)) → (sites : List Site) → AreFineSites sites
    → AreFineSites (with_site h f sites)
site_fine h f one sites a = site_changed (λ s. Unit {0}) h f (λ s k fine. one s fine) sites (nothing_known h sites) a

-- the site with a number is one of them
fine_site : (sites : List Site) (h : ℕ) (s : Site) → AreFineSites sites → site_at sites h ≡ Some s → IsFineSite s
fine_site [] h s a q = cc
fine_site (x ∷ sites) h s a q = by_test (x.host == h)
    (λ e. grind arith)
    (λ e. fine_site sites h s a.1 (rw e at q))

-- what came at the controller's ends may be sent on
abbrev pub AreClean : List Site → Type 0
AreClean sites = AllByRecursion (λ (s : Site). Clean s.link.controller.side) sites

pub fine_clean : (sites : List Site) → AreFineSites sites → AreClean sites
fine_clean [] a = tt
fine_clean (s ∷ sites) a = (a.0.link.line.near, fine_clean sites a.1)

clean_site : (sites : List Site) (h : ℕ) (s : Site) → AreClean sites → site_at sites h ≡ Some s → Clean s.link.controller.side
clean_site [] h s a q = cc
clean_site (x ∷ sites) h s a q = by_test (x.host == h)
    (λ e. grind arith)
    (λ e. clean_site sites h s a.1 (rw e at q))

pub near_clean : (sites : List Site) (h : ℕ) → AreClean sites → Clean (link_to sites h).controller.side
near_clean sites h a = by_option (site_at sites h) (λ q. rw q tt) (λ s q. rw q (clean_site sites h s a q))

-- ### A step of a node

pub near_end_clean : (l : Link) (comes : Comes) → Clean l.controller.side → Clean (near_end_in l comes).side
near_end_clean l comes a = grind arith

pub ports_fine : (near_ends : ℕ → NumberedEnd) → ((h : ℕ) → Clean (near_ends h).side) → (desks : List Desk) → AreTrueDesks desks
    → AreFinePorts (map (λ (d : Desk). port_for (near_ends d.host) d) desks)
ports_fine near_ends clean [] a = tt
ports_fine near_ends clean (d ∷ desks) a = (record { turns = tt; clean = clean d.host; desk = a.0 }, ports_fine near_ends clean desks a.1)

desks_of : (ports : List Port) → AreFinePorts ports → AreTrueDesks (map (λ (p : Port). p.desk) ports)
desks_of [] a = tt
desks_of (p ∷ ports) a = (a.0.desk, desks_of ports a.1)

runs_fine : (k : Work) → IsFineWork k → IsFineNode (runs_on k)
runs_fine k a = by_test k.cut (λ q. rw q tt) (λ q. rw q (desks_of k.ports a))

pub turns_fine : (k : Work) (h : ℕ) → IsFineWork k → AreSendableTurns (turns_at k h)
turns_fine k h a = by_option (port_at k.ports h) (λ q. rw q tt) (λ p q. rw q (fine_at k.ports h p a q).turns)

-- what a node does in a step may be done
abbrev pub KeepsFine : (Work → Work) → Type 0
KeepsFine f = (v : Work) → IsFineWork v → IsFineWork (f v)

-- ### Steps of the controller

pub may_here : (h : ℕ) (comes : Comes) (k : ℕ) → MayCome comes → MayCome (comes_to h comes k)
may_here h comes k m = by_test (k == h) (λ q. rw q m) (λ q. rw q tt)

here_fine : (h : ℕ) (comes : Comes) (k : Work) → MayCome comes → IsFineWork k → (s : Site) → IsFineSite s → IsFineSite (link_after_controller h comes k s)
here_fine h comes k m a s fine =
    record {
      link = controller_steps s.link (comes_to h comes s.host) (turns_at k s.host) (ending_of k) (may_here h comes s.host m) (turns_fine k s.host a) fine.link;
      node = fine.node;
    }

after_controller_fine : (w : NodeWorld) (h : ℕ) (comes : Comes) (k : Work) → MayCome comes → IsFineWork k → IsFineWorld w
    → IsFineWorld (after_controller w h comes k).0
after_controller_fine w h comes k m a fine =
    record { sites = sites_map (link_after_controller h comes k) (here_fine h comes k m a) w.sites fine.sites; controller = runs_fine k a }

pub controller_fine : (w : NodeWorld) (h : ℕ) (comes : Comes) (f : Work → Work) → MayCome comes → KeepsFine f → IsFineWorld w
    → IsFineWorld (controller_does w h comes f).0
controller_fine w h comes f m keeps fine =
    by_controller (λ p. IsFineWorld p.0) w h comes f fine
    (λ r is.
    let near_ends : ℕ → NumberedEnd = λ k. near_end_in (link_to w.sites k) (comes_to h comes k) in
    after_controller_fine w h comes (controller_work w r h comes f) m
    (keeps (work_of r w.memory.plan near_ends _)
    (ports_fine near_ends
    (λ k. near_end_clean (link_to w.sites k) (comes_to h comes k) (near_clean w.sites k (fine_clean w.sites fine.sites))) r.desks
    (subst IsFineNode is fine.controller))) fine)

-- ### Steps of a host

-- something may come to the end of a host
abbrev pub CanReach : Comes → Site → Type 0
CanReach comes s = CanCome (exchanged s.link) comes

there_fine : (comes : Comes) (k : Work) → IsFineWork k → (s : Site) → CanReach comes s → IsFineSite s → IsFineSite (after_host comes k s)
there_fine comes k a s can fine =
    record { link = host_steps s.link comes (turns_at k s.host) (ending_of k) can (turns_fine k s.host a) fine.link; node = runs_fine k a }

host_fine : (w : NodeWorld) (h : ℕ) (comes : Comes) (f : Work → Work) → AllByRecursion (AtHostOnly (CanReach comes) h) w.sites → KeepsFine f
    → IsFineWorld w → IsFineWorld (host_does w h comes f).0
host_fine w h comes f can keeps fine =
    by_host (λ p. IsFineWorld p.0) w h comes f fine
    (λ s r found is.
    let here : IsFineSite s = fine_site w.sites h s fine.sites found in
    let k : Work = host_work s r comes f in
    let near_ends : ℕ → NumberedEnd = λ j. near_end_in (exchanged s.link) comes in
    let done : IsFineWork k =
    keeps (work_of r s.memory.plan near_ends _)
    (ports_fine near_ends (λ j. near_end_clean (exchanged s.link) comes here.link.line.far) r.desks (subst IsFineNode is here.node)) in
    record {
      sites = site_changed (CanReach comes) h (after_host comes k) (there_fine comes k done) w.sites can fine.sites;
      controller = fine.controller;
    })

-- ### Power

controller_cut_fine : (w : NodeWorld) → IsFineWorld w → IsFineWorld (controller_cut w)
controller_cut_fine w fine =
    record {
      sites = sites_map (λ (s : Site). record s { link = happens s.link (AtController (Step NoInput [] CutOff)) })
          (λ s a. record { link = controller_steps s.link NoInput [] CutOff tt tt a.link; node = a.node }) w.sites fine.sites;
      controller = tt;
    }

host_cut_fine : (s : Site) → IsFineSite s → IsFineSite (host_cut s)
host_cut_fine s a = record { link = host_steps s.link NoInput [] CutOff tt tt a.link; node = tt }

power_fine : (n : ℕ) (w : NodeWorld) → IsFineWorld w → IsFineWorld (loses_power_at n w)
power_fine n w fine =
    by_power IsFineWorld n w (λ z. controller_cut_fine w fine)
    (λ z. record { sites = site_fine n host_cut host_cut_fine w.sites fine.sites; controller = fine.controller })

pub memory_fine : (n : ℕ) (m : Memory) (w : NodeWorld) → IsFineWorld w → IsFineWorld (with_memory n m w)
memory_fine n m w fine =
    by_memory IsFineWorld n w m (λ z. record { sites = fine.sites; controller = fine.controller })
    (λ z. record {
      sites = site_fine n (λ s. record s { memory = m }) (λ s a. record { link = a.link; node = a.node }) w.sites fine.sites;
      controller = fine.controller;
    })

node_fine : (n : ℕ) (r : Running) (w : NodeWorld) → AreTrueDesks r.desks → IsFineWorld w → IsFineWorld (with_node n r w)
node_fine n r w a fine =
    by_running IsFineWorld n w r (λ z. record { sites = fine.sites; controller = a })
    (λ z. record {
      sites = site_fine n (λ s. record s { node = Some r }) (λ s b. record { link = b.link; node = a }) w.sites fine.sites;
      controller = fine.controller;
    })

new_desks : (hosts : List ℕ) → AreTrueDesks (map new_desk hosts)
new_desks [] = tt
new_desks (h ∷ hosts) = (tt, new_desks hosts)

boots_fine : (w : NodeWorld) (n : ℕ) → IsFineWorld w → IsFineWorld (boots w n).0
boots_fine w n fine =
    let kept : IsFineWorld (boot_written w n) =
    memory_fine n (after_planned (boot_writes (memory_at w n).content) (memory_at w n)) w fine in
    by_boot (λ p. IsFineWorld p.0) w n (power_fine n (boot_written w n) kept)
    (node_fine n (boot_found w n) (boot_written w n) (new_desks (links_of w n)) kept)

-- ### Losses

counts_fine : (why : Loss) (h : ℕ) (o : Option Running) → IsFineNode o → IsFineNode (counts why h o)
counts_fine why h o a = by_counts IsFineNode why h o a (λ r q. errors_all IsTrueDesk (λ d n b. b) h r.desks (subst IsFineNode q a))

lost_fine : (w : NodeWorld) (e : End) (why : Loss) → IsFineWorld w → IsFineWorld (frame_lost w e why).0
lost_fine w e why fine =
    by_loss (λ p. IsFineWorld p.0) w e why
    (λ side. record {
      sites = site_fine e.link (λ s. record (site_lost e why s) { node = counts why e.link s.node })
          (λ s a. record { link = loses s a; node = counts_fine why e.link s.node a.node }) w.sites fine.sites;
      controller = fine.controller;
    })
    (λ side. record {
      sites = site_fine e.link (site_lost e why) (λ s a. record { link = loses s a; node = a.node }) w.sites fine.sites;
      controller = counts_fine why e.link w.controller fine.controller;
    })
  where
    loses : (s : Site) → IsFineSite s → IsFineLink (happens s.link (at e (Lose why)))
    loses s a = by_test e.at_host (λ q. rw q (host_loses s.link why a.link)) (λ q. rw q (controller_loses s.link why a.link))

-- ### Time

-- a host whose frames have grown older
record IsOld (s : Site) : Type 0 where
  base : Link
  fine : IsFineLink base
  is : s.link ≡ aged base
  node : IsFineNode s.node

-- and whose link the controller's tick has reached
record IsNear (s : Site) : Type 0 where
  base : Link
  fine : IsFineLink base
  late : Bool
  had : Node
  sends : AreSendableTurns had.turns
  is : s.link ≡ ticked_so (aged base) late had.turns had.ending
  node : IsFineNode s.node

all_old : (sites : List Site) → AreFineSites sites → AllByRecursion IsOld (map (λ (s : Site). record s { link = aged s.link }) sites)
all_old [] a = tt
all_old (s ∷ sites) a = (record { base = s.link; fine = a.0.link; is = refl; node = a.0.node }, all_old sites a.1)

old_clean : (sites : List Site) → AllByRecursion IsOld sites → AreClean sites
old_clean [] a = tt
old_clean (s ∷ sites) a = (subst (λ (l : Link). Clean l.controller.side) (sym a.0.is) a.0.fine.line.near, old_clean sites a.1)

-- the sites after a tick of the controller, in which its ends had these turns
near_sites : (late : ℕ → Bool) (had : ℕ → Node) → ((h : ℕ) → AreSendableTurns (had h).turns) → (sites : List Site) → AllByRecursion IsOld sites
    → AllByRecursion IsNear (map (λ (s : Site). record s { link = ticked_so s.link (late s.host) (had s.host).turns (had s.host).ending }) sites)
near_sites late had sends [] a = tt
near_sites late had sends (s ∷ sites) a = (
  (grind arith),
  near_sites late had sends sites a.1,
)

record IsNearWorld (w : NodeWorld) : Type 0 where
  sites : AllByRecursion IsNear w.sites
  controller : IsFineNode w.controller

controller_ticks_fine : (w : NodeWorld) → AllByRecursion IsOld w.sites → IsFineNode w.controller → IsNearWorld (controller_ticks w).0
controller_ticks_fine w old runs =
    by_controller_tick (λ p. IsNearWorld p.0) w
    (λ is. record { sites = near_sites (λ h. false) (λ h. record { turns = []; ending = GoesOut }) (λ h. tt) w.sites old; controller = runs })
    (λ r is.
    let k : Work = near_tick w r in
    let near_ends : ℕ → NumberedEnd = λ h. (link_to w.sites h).controller in
    let done : IsFineWork k =
    steps_fine TimePasses (work_of r w.memory.plan near_ends [])
    (ports_fine near_ends (λ h. near_clean w.sites h (old_clean w.sites old)) r.desks (subst IsFineNode is runs)) in
    record {
      sites = near_sites (λ h. is_late_at k h) (λ h. record { turns = turns_at k h; ending = ending_of k }) (λ h. turns_fine k h done) w.sites old;
      controller = runs_fine k done;
    })

pub so_host : (l : Link) (late : Bool) (ts : List Turn) (ending : Ending) → (ticked_so l late ts ending).host ≡ l.host
so_host l late ts ending = by_test (late && not (is_waiting l.controller.side.shdlc))
    (λ q. rw q (here_host l (Step (AsksReset None) ts ending)))
    (λ q. rw q (tick_host l ts ending))

host_ticks_fine : (s : Site) → IsNear s → IsFineSite (host_ticks s).0
host_ticks_fine s a =
    by_host_tick (λ p. IsFineSite p.0) s (λ is. record { link = link (record { turns = []; ending = GoesOut }) tt; node = a.node })
    (λ r is.
    let k : Work = host_tick s r in
    let done : IsFineWork k =
    steps_fine TimePasses (work_of r s.memory.plan (λ h. s.link.host) [])
    (ports_fine (λ h. s.link.host) (λ h. far) r.desks (subst IsFineNode is a.node)) in
    record { link = link (record { turns = turns_at k s.host; ending = ending_of k }) (turns_fine k s.host done); node = runs_fine k done })
  where
    far : Clean s.link.host.side
    far =
        let Q : NumberedEnd → Type 0 = λ h. Clean h.side in
        subst (λ (l : Link). Clean l.host.side) (sym a.is) (subst Q (sym (so_host (aged a.base) a.late a.had.turns a.had.ending)) a.fine.line.far)

    link : (h : Node) → AreSendableTurns h.turns → IsFineLink (exchanged (ticks_at_controller (exchanged s.link) h.turns h.ending))
    link h sends =
        let P : Link → Type 0 = λ l. IsFineLink (exchanged (ticks_at_controller (exchanged l) h.turns h.ending)) in
        subst P (sym a.is) (ticks_fine a.base a.late a.had h (record { controller = a.sends; host = sends }) a.fine)

hosts_tick_fine : (sites : List Site) → AllByRecursion IsNear sites → AreFineSites (hosts_tick sites).0
hosts_tick_fine [] a = tt
hosts_tick_fine (s ∷ sites) a = (host_ticks_fine s a.0, hosts_tick_fine sites a.1)

ticks_fine_all : (w : NodeWorld) → IsFineWorld w → IsFineWorld (world_ticks w).0
ticks_fine_all w fine =
    let near = controller_ticks_fine (all_aged w).0 (all_old w.sites fine.sites) fine.controller in
    record { sites = hosts_tick_fine (controller_ticks (all_aged w).0).0.sites near.sites; controller = near.controller }

-- ## Whatever lines are played, each link of the world is a run of the law of one link

-- ### What comes to an end

-- where activation doesn't begin, a host may always be reached
abbrev pub IsPlain : Comes → Type 0
IsPlain NextFrame = Unit {0}
IsPlain (AsksReset window) = IsWindow window
IsPlain (Starts value) = ⊥
IsPlain Stops = ⊥
IsPlain NoInput = Unit {0}

pub plain_reach : (h : ℕ) (comes : Comes) → IsPlain comes → (sites : List Site) → AllByRecursion (AtHostOnly (CanReach comes) h) sites
plain_reach h comes p [] = tt
plain_reach h comes p (s ∷ sites) = ((λ q. grind arith), plain_reach h comes p sites)

comes_fine : (w : NodeWorld) (e : End) (comes : Comes) → MayCome comes → AllByRecursion (AtHostOnly (CanReach comes) e.link) w.sites → IsFineWorld w
    → IsFineWorld (comes_at w e comes).0
comes_fine w e comes may reach fine =
    by_coming (λ p. IsFineWorld p.0) w e comes fine
    (λ i far q. host_fine w e.link comes (steps (AtEnd e.link i)) reach (λ v a. steps_fine (AtEnd e.link i) v a) fine)
    (λ i near q. controller_fine w e.link comes (steps (AtEnd e.link i)) may (λ v a. steps_fine (AtEnd e.link i) v a) fine)

plain_fine : (w : NodeWorld) (e : End) (comes : Comes) → IsPlain comes → IsFineWorld w → IsFineWorld (comes_at w e comes).0
plain_fine w e comes p fine = comes_fine w e comes (grind arith) (plain_reach e.link comes p w.sites) fine

-- ### Messages and inits

begins_fine : (w : NodeWorld) (h : ℕ) (deeds : List Deed) → AreFine deeds → IsFineWorld w → IsFineWorld (host_does w h NoInput (begins_with h deeds)).0
begins_fine w h deeds a fine =
    host_fine w h NoInput (begins_with h deeds) (plain_reach h NoInput tt w.sites) (λ v b. all_done_fine h deeds v a b) fine

pub sending_fine : (h : ℕ) (m : Message) → IsSendable m → AreFine (sending h m)
sending_fine h m s = by_test (m.0 == 1 && is_command_message m.1) (λ q. rw q (s.1, tt)) (λ q. rw q (s, tt))

-- ### Activation

-- the controller's end of each link to this host was just started
started_sites : (h power : ℕ) (k : Work) (sites : List Site) → AreFineSites sites
    → AllByRecursion (AtHostOnly (λ s. IsIdleClf s.link.controller.side.role) h) (map (link_after_controller h (Starts power) k) sites)
started_sites h power k [] a = tt
started_sites h power k (s ∷ sites) a = (one, started_sites h power k sites a.1)
  where
    there : Bool → Link
    there b = happens s.link (AtController (Step (cond b (Starts power) NoInput) (turns_at k s.host) (ending_of k)))

    one : (s.host == h) ≡ true → IsIdleClf (there (s.host == h)).controller.side.role
    one q =
        subst (λ (b : Bool). IsIdleClf (there b).controller.side.role) (sym q) (started_clf s.link power (turns_at k s.host) (ending_of k) a.0.link.line.clf)

idle_reach : (h sync : ℕ) (sites : List Site) → AreFineSites sites → AllByRecursion (AtHostOnly (λ s. IsIdleClf s.link.controller.side.role) h) sites
    → AllByRecursion (AtHostOnly (CanReach (Starts sync)) h) sites
idle_reach h sync [] a b = tt
idle_reach h sync (s ∷ sites) a b = (
  (λ q. can_start s.link.host.side.role s.link.controller.side.role a.0.link.line.uicc (b.0 q)),
  idle_reach h sync sites a.1 b.1,
)

-- activation begins at the controller's end
pub starts_fine : (w : NodeWorld) (h power : ℕ) → IsFineWorld w → IsFineWorld (comes_at w (end_c h) (Starts power)).0
starts_fine w h power fine =
    controller_fine w h (Starts power) (steps (AtEnd h (Start power))) tt (λ v a. steps_fine (AtEnd h (Start power)) v a) fine

-- and then it may begin at the host's
pub starts_then : (w : NodeWorld) (h sync power : ℕ) → is_some w.controller ≡ true → IsFineWorld w
    → AllByRecursion (AtHostOnly (CanReach (Starts sync)) h) (comes_at w (end_c h) (Starts power)).0.sites
starts_then w h sync power runs fine =
    idle_reach h sync (comes_at w (end_c h) (Starts power)).0.sites (starts_fine w h power fine).sites
    (by_some w.controller runs
    (λ r q. rw q (started_sites h power (controller_work w r h (Starts power) (steps (AtEnd h (Start power)))) w.sites fine.sites)))

activates_fine : (w : NodeWorld) (h sync power : ℕ) → is_some w.controller ≡ true → IsFineWorld w → IsFineWorld (activates w h sync power).0
activates_fine w h sync power runs fine =
    comes_fine (comes_at w (end_c h) (Starts power)).0 (end_h h) (Starts sync) tt (starts_then w h sync power runs fine) (starts_fine w h power fine)

-- ### One thing that happens

-- it may happen in this world
abbrev pub MayHappen : NodeWorld → Happening → Type 0
MayHappen w (Gives e m) = IsSendable m
MayHappen w (Resets e window) = IsWindow window
MayHappen w (Activates h sync power) = is_some w.controller ≡ true
MayHappen w _ = Unit {0}

pub step_fine : (w : NodeWorld) (c : Happening) → MayHappen w c → IsFineWorld w → IsFineWorld (world_step w c).0
step_fine w (Boots n) m fine = boots_fine w n fine
step_fine w (IsCut n) m fine = power_fine n w fine
step_fine w (Gives e message) m fine = begins_fine w e.link (sending e.link message) (sending_fine e.link message m) fine
step_fine w (Inits e identity pipes) m fine = begins_fine w e.link (beginning identity pipes) (tt, (omega arith, tt)) fine
step_fine w (Takes e) m fine = plain_fine w e NextFrame tt fine
step_fine w (Loses e why) m fine = lost_fine w e why fine
step_fine w Ticks m fine = ticks_fine_all w fine
step_fine w (Resets e window) m fine = plain_fine w e (AsksReset window) m fine
step_fine w (Activates h sync power) m fine = activates_fine w h sync power m fine
step_fine w (Arms n plan) m fine = memory_fine n (record (memory_at w n) { plan = Some plan }) w fine

-- ### Lines

-- these may happen in any world
abbrev pub AreLasting : List Happening → Type 0
AreLasting causes = AllByRecursion (λ c. (w : NodeWorld) → MayHappen w c) causes

all_fine : (causes : List Happening) (w : NodeWorld) → AreLasting causes → IsFineWorld w → IsFineWorld (all_happen w causes).0
all_fine [] w m fine = fine
all_fine (c ∷ causes) w m fine = by_test (can_happen w c) (λ q. rw q (all_fine causes (world_step w c).0 m.1 (step_fine w c (m.0 w) fine))) (λ q. rw q fine)

pub repeated : (n : ℕ) (c : Happening) → ((w : NodeWorld) → MayHappen w c) → AreLasting (replicate n c)
repeated zero c m = tt
repeated (suc n) c m = (m, repeated n c m)

pub damaged : (e : End) (v : Option Verdict) → AreLasting (happens_by e v)
damaged e v = grind arith

-- a line that isn't refused found the controller running
pub runs_then : (b : Bool) (o : Option NoCause) → first_cause (cond b None (Some no.Off)) o ≡ None → b ≡ true
runs_then b o q = grind arith

goes_fine : (w : NodeWorld) (l : Line) → IsPlayable l → refusal_in w l ≡ None → IsFineWorld w → IsFineWorld (goes_on w l).0
goes_fine w (line.Send e pid message) p q fine = all_fine (Gives e (pid, message) ∷ []) w ((λ v. p), tt) fine
goes_fine w (line.Deliver e count) p q fine =
    all_fine (replicate (taken_of count (frames_at w e)) (Takes e)) w (repeated (taken_of count (frames_at w e)) (Takes e) (λ v. tt)) fine
goes_fine w (line.Lose e) p q fine = all_fine (Loses e OnDemand ∷ []) w ((λ v. tt), tt) fine
goes_fine w (line.Damage e places) p q fine =
    all_fine (happens_by e (first_verdict (frames_at w e) places.items)) w (damaged e (first_verdict (frames_at w e) places.items)) fine
goes_fine w (line.Tick times) p q fine = all_fine (replicate (unwrap_or times 1) Ticks) w (repeated (unwrap_or times 1) Ticks (λ v. tt)) fine
goes_fine w (line.Reset e window) p q fine = all_fine (Resets e window ∷ []) w ((λ v. p), tt) fine
goes_fine w (line.Boot node) p q fine = all_fine (Boots node ∷ []) w ((λ v. tt), tt) fine
goes_fine w (line.Cut node) p q fine = all_fine (IsCut node ∷ []) w ((λ v. tt), tt) fine
goes_fine w (line.Activate host sync power) p q fine =
    step_fine w (Activates host sync power) (runs_then (is_some w.controller) (if_off w host) q) fine
goes_fine w (line.Arm node nth fill) p q fine = all_fine (Arms node _ ∷ []) w ((λ v. tt), tt) fine
goes_fine w (line.Init e identity pipes) p q fine = all_fine (Inits e identity pipes.items ∷ []) w ((λ v. tt), tt) fine
goes_fine w _ p q fine = fine

line_fine : (w : NodeWorld) (l : Line) → IsPlayable l → IsFineWorld w → IsFineWorld (line_step w l).0
line_fine w l p fine = by_option (refusal_in w l) (λ q. rw q (goes_fine w l p q fine)) (λ cause q. rw q fine)

-- ### Schedules

new_sites : (content : List ℕ) (hosts : List ℕ) → AreFineSites (map (new_site content) hosts)
new_sites content [] = tt
new_sites content (h ∷ hosts) = (record { link = grind arith; node = tt }, new_sites content hosts)

pub lines_fine : (lines : List Line) (w : NodeWorld) → ArePlayable lines → IsFineWorld w → IsFineWorld (world_after w lines)
lines_fine [] w p fine = fine
lines_fine (l ∷ lines) w p fine = lines_fine lines (line_step w l).0 p.1 (line_fine w l p.0 fine)

pub world_fine : (hosts : List ℕ) (lines : List Line) → ArePlayable lines → IsFineWorld (world_after (new_world hosts) lines)
world_fine hosts lines p = lines_fine lines (new_world hosts) p (record { sites = new_sites (replicate 65536 255) hosts; controller = tt })

all_run : (sites : List Site) → AreFineSites sites → AllByRecursion (λ (s : Site). IsRun s.link) sites
all_run [] a = tt
all_run (s ∷ sites) a = (a.0.link.run, all_run sites a.1)

pub links_run : (hosts : List ℕ) (lines : List Line) → ArePlayable lines
    → AllByRecursion (λ (s : Site). IsRun s.link) (world_after (new_world hosts) lines).sites
links_run hosts lines p = all_run (world_after (new_world hosts) lines).sites (world_fine hosts lines p).sites
