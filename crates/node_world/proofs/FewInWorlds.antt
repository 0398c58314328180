-- What comes to an end acknowledges at most seven fragments more, and a message that counts as acknowledged whole has a fragment.
use Rattle.std.specs.Prelude.{nat_le}
use Rattle.node_world.proofs.Words.{Activates, AreSendable, Arms, AsksReset, AtEnd, Bool, Boots, Comes, Control, CutOff, End, Ending, FewBehind, FewOn}
use Rattle.node_world.proofs.Words.{FewOnEach, Gives, GoesOut, Happening, Inits, IsCut, IsFromOutside, Link, LinkEnd, LinkInput, List, Loses, Loss, Memory}
use Rattle.node_world.proofs.Words.{Message, NextFrame, NoInput, NodeWorld, None, Occurrence, OnWire, Option, Reset, Resets, Running, Site, Some, Start, Starts}
use Rattle.node_world.proofs.Words.{Stop, Stops, Take, Takes, Tick, Ticks, Turn, Work, [], activates, after_host, after_input, aged, all_aged, all_happen}
use Rattle.node_world.proofs.Words.{arith, beginning, begins_with, boot_found, boot_written, boots, by_boot, by_coming, by_controller, by_controller_tick}
use Rattle.node_world.proofs.Words.{by_host, by_host_tick, by_loss, by_memory, by_power, by_running, can_happen, changed_if, comes_at, comes_to, cond}
use Rattle.node_world.proofs.Words.{controller_does, controller_ticks, controller_work, counts, drop, end_c, end_h, ended_by, ending_of, exchanged, false}
use Rattle.node_world.proofs.Words.{frame_lost, frames_out, has_input, host_cut, host_does, host_tick, host_ticks, host_work, hosts_tick, inl, is_late_at}
use Rattle.node_world.proofs.Words.{is_rset, is_some, is_up, is_waiting, length, link_after_controller, loses_power_at, map, memory_at, near_tick, not, put}
use Rattle.node_world.proofs.Words.{put_all, refl, sending, silent, site_lost, site_ticked, steps, suc, take, ticked_so, ticks_at_controller}
use Rattle.node_world.proofs.Words.{took_with, true, turned, turns_at, with_ended, with_memory, with_node, with_site, world_step, world_ticks, zero, ℕ, ◌&&◌}
use Rattle.node_world.proofs.Words.{◌*◌, ◌++◌, ◌+◌, ◌-◌, ◌==◌, ◌∙◌, ◌∷◌, ◌≡◌, ◌≤◌, ◌⊎◌}
use Rattle.swp_base.specs.declared.control_frames.Control.TheVariants.{Act as ActFrame}
use Rattle.swp_act.specs.declared.ActEvent.{ActEvent}
use Rattle.swp_act.specs.declared.ActEvent.TheVariants.{Start as ActStart, Stop as ActStop}
use Rattle.shdlc_core.specs.Machine.{EndState, stopped, fetched, most_frames, frame_due, frames_of}
use Rattle.hcp_packet.specs.Packets.{packet_count}
use Rattle.link_laws.specs.machine.Machine.{whole_among, turn, moved, activated, took, had_tick, ActDue, frame_fetched, among}
use Rattle.link_laws.specs.machine.Machine.LinkInput.{TakeUnknown, TakeBroken, FromNode, Fetch}
use Rattle.link_laws.proofs.entries.Stepping.{fetched_acked}
use Rattle.link_laws.specs.messages.Links.{finished, has_restarted, has_taken, steps_at_controller}
use Rattle.link_laws.proofs.sessions.Sending.{at_most_one as one_at_most}
pub use Rattle.link_laws.proofs.entries.Together.{ticks_host as far_stays_ticked}
use Rattle.link_laws.proofs.messages.Project.{host_ended as ended_host}

-- ## Whole messages

-- no more messages are acknowledged whole than fragments
pub whole_within : (ms : List Message) (places : ℕ) → AreSendable ms → whole_among ms places ≤ places
whole_within [] places a = omega arith
whole_within (m ∷ ms) places a = go (nat_le (packet_count (length m.1)) places) refl (whole_within ms (places - packet_count (length m.1)) a.1)
  where
    go : (b : Bool) → nat_le (packet_count (length m.1)) places ≡ b
        → whole_among ms (places - packet_count (length m.1)) ≤ places - packet_count (length m.1) → whole_among (m ∷ ms) places ≤ places
    go b q later = grind arith

-- ## A frame

-- ## An input

-- an end has so many more fragments acknowledged, and its messages stay or are dropped
pub record Nearly (more : ℕ) (e f : LinkEnd) : Type 0 where
  pub acked : f.shdlc.session.acked ≤ e.shdlc.session.acked + more
  pub sent : (f.sent ≡ e.sent) ⊎ (f.sent ≡ [])

same_nearly : (more : ℕ) (e f : LinkEnd) → f.shdlc.session.acked ≤ e.shdlc.session.acked → f.sent ≡ e.sent → Nearly more e f
same_nearly more e f acked sent = record { acked = omega (arith, acked); sent = inl sent }

-- a session that was stopped, and then activation
stopped_nearly : (more : ℕ) (e : LinkEnd) (event : ActEvent) → Nearly more e (activated (moved e true (stopped e.shdlc)) event)
stopped_nearly more e event = grind arith

nearly_more : (e f : LinkEnd) → Nearly 0 e f → Nearly 7 e f
nearly_more e f n = record { acked = let a = n.acked in omega (arith, a); sent = n.sent }

-- whatever comes to an end from outside
pub input_nearly : (e : LinkEnd) (i : LinkInput) → IsFromOutside i → Nearly 7 e (after_input e i)
input_nearly e (Take c) o = grind arith
input_nearly e TakeUnknown o = same_nearly 7 e (after_input e TakeUnknown) (omega arith) refl
input_nearly e (TakeBroken fault) o = same_nearly 7 e e (omega arith) refl
input_nearly e Tick o = nearly_more e (had_tick e) (grind arith)
input_nearly e (Reset window) o = nearly_more e (after_input e (Reset window)) (grind arith)
input_nearly e (Start value) o = stopped_nearly 7 e (ActStart value)
input_nearly e Stop o = stopped_nearly 7 e ActStop
input_nearly e (FromNode t) o = absurd o
input_nearly e Fetch o = nearly_more e (frame_fetched e) (grind arith)

-- ## What a node does to an end

turn_acked : (e : LinkEnd) (t : Turn) → (turn e t).shdlc.session.acked ≡ e.shdlc.session.acked
turn_acked e t = grind arith

pub turned_acked : (ts : List Turn) (e : LinkEnd) → (turned e ts).shdlc.session.acked ≡ e.shdlc.session.acked
turned_acked [] e = refl
turned_acked (t ∷ ts) e = turned_acked ts (turn e t) ∙ turn_acked e t

-- ## All its frames

-- A step of an end puts at most twelve RSETs on its link, and acknowledges at most seven fragments at that end.

-- ## RSETs among frames

abbrev rsets : List Control → ℕ
rsets [] = 0
rsets (c ∷ cs) = cond (is_rset c) 1 0 + rsets cs

rsets_append : (xs ys : List Control) → rsets (xs ++ ys) ≡ rsets xs + rsets ys
rsets_append [] ys = omega arith
rsets_append (x ∷ xs) ys = let z = rsets_append xs ys in omega (arith, z)

rsets_few : (cs : List Control) → rsets cs ≤ length cs
rsets_few [] = omega arith
rsets_few (c ∷ cs) = let z = rsets_few cs in let o = one_at_most (is_rset c) in omega (arith, z, o)

take_and_drop : (k : ℕ) (fs : List Control) → length (take k fs) + length (drop k fs) ≡ length fs
take_and_drop zero fs = omega arith
take_and_drop (suc k) [] = omega arith
take_and_drop (suc k) (f ∷ fs) = let z = take_and_drop k fs in omega (arith, z)

among_few : (n : ℕ) (acts : List ActDue) (fs : List Control) → rsets (among n acts fs) ≤ length fs
among_few n [] fs = rsets_few fs
among_few n (a ∷ acts) fs =
    let k : ℕ = a.behind - n in
    let back = among_few a.behind acts (drop k fs) in
    let whole = take_and_drop k fs in
    omega (arith, (rsets_append (take k fs) (ActFrame a.frame false ∷ (among a.behind acts (drop k fs)))), (rsets_few (take k fs)), back, whole)

frames_few : (n : ℕ) (e : EndState) → length (frames_of n e) ≤ n
frames_few zero e = omega arith
frames_few (suc n) e = let h0 = frame_due e in let h1 = frames_few n (fetched e) in grind arith
  where
    by : Option Control → List Control → List Control
    by None later = []
    by (Some c) later = c ∷ later

out_few : (e : LinkEnd) → rsets (frames_out e) ≤ 12
out_few e =
    let a = among_few 0 e.acts (frames_of most_frames e.shdlc) in let b = frames_few most_frames e.shdlc in omega (arith, a, b)

-- ## A step of the near end

put_more : (l : Link) (c : Control) → (put l c).resets ≡ l.resets + cond (is_rset c) 1 0
put_more l c = grind arith

put_host : (l : Link) (c : Control) → (put l c).host ≡ l.host
put_host l c = grind arith

puts_more : (cs : List Control) (l : Link) → (put_all l cs).resets ≡ l.resets + rsets cs
puts_more [] l = omega arith
puts_more (c ∷ cs) l = let z = puts_more cs (put l c) in let o = put_more l c in omega (arith, z, o)

puts_host : (cs : List Control) (l : Link) → (put_all l cs).host ≡ l.host
puts_host [] l = refl
puts_host (c ∷ cs) l = puts_host cs (put l c) ∙ put_host l c

-- a link l became m in a step of its near end, at which no more fragments are acknowledged than so many
record Steps (acked : ℕ) (l m : Link) : Type 0 where
  resets : m.resets ≤ l.resets + 12
  near : m.controller.side.shdlc.session.acked ≤ acked
  far : m.host ≡ l.host

ended_resets : (l : Link) (b : Bool) → (with_ended l b).resets ≡ l.resets
ended_resets l b = grind arith

finished_steps : (l : Link) (e : LinkEnd) (ending : Ending) → Steps e.shdlc.session.acked l (finished l e ending)
finished_steps l e GoesOut =
    record {
      resets = let z = puts_more (frames_out e) l in let o = out_few e in omega (arith, z, o);
      near = let z = (fetched_acked most_frames e.shdlc) in omega (arith, z);
      far = puts_host (frames_out e) l;
    }
finished_steps l e CutOff = grind arith

-- it began with another link that has the same numbers
behind_steps : (acked more : ℕ) (l k m : Link) → k.resets ≡ l.resets → k.host ≡ l.host → acked ≤ more → Steps acked k m → Steps more l m
behind_steps acked more l k m resets host within s = grind arith

input_steps : (l : Link) (i : LinkInput) (ts : List Turn) (ending : Ending) → IsFromOutside i
    → Steps (l.controller.side.shdlc.session.acked + 7) l (has_input l i ts ending)
input_steps l i ts ending o =
    let e : LinkEnd = turned (after_input l.controller.side i) ts in
    let b : Bool = is_some (ended_by l.controller.side i) in
    let n = (input_nearly l.controller.side i o).acked in
    behind_steps e.shdlc.session.acked (l.controller.side.shdlc.session.acked + 7) l (with_ended l b) (has_input l i ts ending) (ended_resets l b)
    (ended_host l b) (omega (arith, (turned_acked ts (after_input l.controller.side i)), n)) (finished_steps (with_ended l b) e ending)

taken_steps : (l : Link) (x : OnWire) (xs : List OnWire) (ts : List Turn) (ending : Ending)
    → Steps (l.controller.side.shdlc.session.acked + 7) l (has_taken l x xs ts ending)
taken_steps l x xs ts ending =
    let i : LinkInput = Take x.frame in
    let e : LinkEnd = turned (after_input l.controller.side i) ts in
    let b : Bool = is_some (ended_by l.controller.side i) in
    let m : Link = with_ended (record l { to_controller = xs }) b in
    let k : Link = record m { controller = record m.controller { took = took_with l.controller.took x } } in
    let z = turned_acked ts (after_input l.controller.side i) in
    let n = (input_nearly l.controller.side i tt).acked in
    behind_steps e.shdlc.session.acked (l.controller.side.shdlc.session.acked + 7) l k (has_taken l x xs ts ending)
    (ended_resets (record l { to_controller = xs }) b) (ended_host (record l { to_controller = xs }) b) (omega (arith, z, n)) (finished_steps k e ending)

restarted_steps : (l : Link) (i : LinkInput) (ts : List Turn) (ending : Ending) → IsFromOutside i
    → Steps (l.controller.side.shdlc.session.acked + 7) l (has_restarted l (after_input l.controller.side i) ts ending)
restarted_steps l i ts ending o =
    let e : LinkEnd = turned (after_input l.controller.side i) ts in
    let b : Bool = is_up l.controller.side.shdlc.phase in
    let k : Link = silent l (after_input l.controller.side i) in
    let n = (input_nearly l.controller.side i o).acked in
    behind_steps e.shdlc.session.acked (l.controller.side.shdlc.session.acked + 7) l k (has_restarted l (after_input l.controller.side i) ts ending)
    (ended_resets l b) (ended_host l b) (omega (arith, (turned_acked ts (after_input l.controller.side i)), n)) (finished_steps k e ending)

steps_near : (l : Link) (comes : Comes) (ts : List Turn) (ending : Ending)
    → Steps (l.controller.side.shdlc.session.acked + 7) l (steps_at_controller l comes ts ending)
steps_near l NextFrame ts ending = go l.to_controller
  where
    by : List OnWire → Link
    by [] = l
    by (x ∷ xs) = has_taken l x xs ts ending

    go : (w : List OnWire) → Steps (l.controller.side.shdlc.session.acked + 7) l (by w)
    go [] = record { resets = omega arith; near = omega arith; far = refl }
    go (x ∷ xs) = taken_steps l x xs ts ending
steps_near l (AsksReset window) ts ending = input_steps l (Reset window) ts ending tt
steps_near l (Starts value) ts ending = restarted_steps l (Start value) ts ending tt
steps_near l Stops ts ending = restarted_steps l Stop ts ending tt
steps_near l NoInput ts ending =
    let z = turned_acked ts l.controller.side in
    behind_steps (turned l.controller.side ts).shdlc.session.acked (l.controller.side.shdlc.session.acked + 7) l l
    (finished l (turned l.controller.side ts) ending) refl refl (omega (arith, z)) (finished_steps l (turned l.controller.side ts) ending)

-- ## A link behind steps

few_behind : (n : ℕ) (l m : Link) → Steps (l.controller.side.shdlc.session.acked + 7) l m → FewOn n l → FewOn (n + 1) m
few_behind n l m s f = grind arith

-- behind more steps no more is said
pub few_longer : (m n : ℕ) (l : Link) → m ≤ n → FewOn m l → FewOn n l
few_longer m n l q f = grind arith

pub few_exchanged : (n : ℕ) (l : Link) → FewOn n l → FewOn n (exchanged l)
few_exchanged n l f = record { resets = f.resets; controller = f.host; host = f.controller }

pub few_aged : (n : ℕ) (l : Link) → FewOn n l → FewOn n (aged l)
few_aged n l f = record { resets = f.resets; controller = f.controller; host = f.host }

pub few_steps : (n : ℕ) (l : Link) (comes : Comes) (ts : List Turn) (ending : Ending) → FewOn n l
    → FewOn (n + 1) (steps_at_controller l comes ts ending)
few_steps n l comes ts ending f = few_behind n l (steps_at_controller l comes ts ending) (steps_near l comes ts ending) f

pub few_there : (n : ℕ) (l : Link) (comes : Comes) (ts : List Turn) (ending : Ending) → FewOn n l
    → FewOn (n + 1) (exchanged (steps_at_controller (exchanged l) comes ts ending))
few_there n l comes ts ending f =
    few_exchanged (n + 1) (steps_at_controller (exchanged l) comes ts ending) (few_steps n (exchanged l) comes ts ending (few_exchanged n l f))

pub few_ticked : (n : ℕ) (l : Link) (ts : List Turn) (ending : Ending) → FewOn n l → FewOn (n + 1) (ticks_at_controller l ts ending)
few_ticked n l ts ending f = few_behind n l (ticks_at_controller l ts ending) (input_steps l Tick ts ending tt) f

pub few_ticked_there : (n : ℕ) (l : Link) (ts : List Turn) (ending : Ending) → FewOn n l
    → FewOn (n + 1) (exchanged (ticks_at_controller (exchanged l) ts ending))
few_ticked_there n l ts ending f =
    few_exchanged (n + 1) (ticks_at_controller (exchanged l) ts ending) (few_ticked n (exchanged l) ts ending (few_exchanged n l f))

pub few_ticked_so : (n : ℕ) (l : Link) (late : Bool) (ts : List Turn) (ending : Ending) → FewOn n l → FewOn (n + 1) (ticked_so l late ts ending)
few_ticked_so n l late ts ending f = go (late && not (is_waiting l.controller.side.shdlc))
  where
    go : (b : Bool) → FewOn (n + 1) (cond b (has_input l (Reset None) ts ending) (ticks_at_controller l ts ending))
    go true = few_behind n l (has_input l (Reset None) ts ending) (input_steps l (Reset None) ts ending tt) f
    go false = few_ticked n l ts ending f

-- ## The far end of a link

pub far_stays : (l : Link) (comes : Comes) (ts : List Turn) (ending : Ending) → (steps_at_controller l comes ts ending).host ≡ l.host
far_stays l comes ts ending = (steps_near l comes ts ending).far

-- Few RSETs were put on the links of a world, and few fragments are acknowledged, behind so many steps of nodes.

-- ## Sites

each : (m n : ℕ) (f : Site → Site) → ((s : Site) → FewOn m s.link → FewOn n (f s).link) → (sites : List Site) → FewOnEach m sites
    → FewOnEach n (map f sites)
each m n f one [] a = tt
each m n f one (s ∷ sites) a = (one s a.0, each m n f one sites a.1)

changed : (m n : ℕ) (b : Bool) (f : Site → Site) → m ≤ n → ((s : Site) → FewOn m s.link → FewOn n (f s).link) → (s : Site) → FewOn m s.link
    → FewOn n (changed_if b f s).link
changed m n b f q one s a = grind arith

one_of : (m n h : ℕ) (f : Site → Site) → m ≤ n → ((s : Site) → FewOn m s.link → FewOn n (f s).link) → (sites : List Site) → FewOnEach m sites
    → FewOnEach n (with_site h f sites)
one_of m n h f q one sites a = each m n (λ (s : Site). changed_if (s.host == h) f s) (λ s b. changed m n (s.host == h) f q one s b) sites a

pub longer : (m n : ℕ) (w : NodeWorld) → m ≤ n → FewBehind m w → FewBehind n w
longer m n w q a = go w.sites a
  where
    go : (sites : List Site) → FewOnEach m sites → FewOnEach n sites
    go [] a = tt
    go (s ∷ sites) a = (few_longer m n s.link q a.0, go sites a.1)

-- ## Steps of one node

pub few_behind_controller : (n : ℕ) (w : NodeWorld) (h : ℕ) (comes : Comes) (f : Work → Work) → FewBehind n w
    → FewBehind (n + 1) (controller_does w h comes f).0
few_behind_controller n w h comes f a =
    by_controller (λ p. FewBehind (n + 1) p.0) w h comes f (longer n (n + 1) w (omega arith) a)
    (λ r q. let k : Work = controller_work w r h comes f in
    each n (n + 1) (link_after_controller h comes k)
    (λ s b. few_steps n s.link (comes_to h comes s.host) (turns_at k s.host) (ending_of k) b) w.sites a)

pub few_behind_host : (n : ℕ) (w : NodeWorld) (h : ℕ) (comes : Comes) (f : Work → Work) → FewBehind n w → FewBehind (n + 1) (host_does w h comes f).0
few_behind_host n w h comes f a =
    by_host (λ p. FewBehind (n + 1) p.0) w h comes f (longer n (n + 1) w (omega arith) a)
    (λ s r found is. let k : Work = host_work s r comes f in
    one_of n (n + 1) h (after_host comes k) (omega arith) (λ t b. few_there n t.link comes (turns_at k t.host) (ending_of k) b) w.sites a)

pub few_behind_coming : (n : ℕ) (w : NodeWorld) (e : End) (comes : Comes) → FewBehind n w → FewBehind (n + 1) (comes_at w e comes).0
few_behind_coming n w e comes a =
    by_coming (λ p. FewBehind (n + 1) p.0) w e comes (longer n (n + 1) w (omega arith) a)
    (λ i is q. few_behind_host n w e.link comes (steps (AtEnd e.link i)) a)
    (λ i is q. few_behind_controller n w e.link comes (steps (AtEnd e.link i)) a)

-- ## Power and losses

pub few_behind_cut : (n : ℕ) (node : ℕ) (w : NodeWorld) → FewBehind n w → FewBehind (n + 1) (loses_power_at node w)
few_behind_cut n node w a =
    by_power (FewBehind (n + 1)) node w
    (λ q. each n (n + 1) _ (λ s b. few_steps n s.link NoInput [] CutOff b) w.sites a)
    (λ q. one_of n (n + 1) node host_cut (omega arith) (λ s b. few_there n s.link NoInput [] CutOff b) w.sites a)

same_sites : (n node : ℕ) (f : Site → Site) → ((s : Site) → FewOn n s.link → FewOn n (f s).link) → (w : NodeWorld) → FewBehind n w
    → FewOnEach n (with_site node f w.sites)
same_sites n node f one w a = one_of n n node f (omega arith) one w.sites a

few_with_memory : (n node : ℕ) (m : Memory) (w : NodeWorld) → FewBehind n w → FewBehind n (with_memory node m w)
few_with_memory n node m w a = by_memory (FewBehind n) node w m (λ q. a) (λ q. same_sites n node (λ s. record s { memory = m }) (λ s b. b) w a)

few_with_node : (n node : ℕ) (r : Running) (w : NodeWorld) → FewBehind n w → FewBehind n (with_node node r w)
few_with_node n node r w a = by_running (FewBehind n) node w r (λ q. a) (λ q. same_sites n node (λ s. record s { node = Some r }) (λ s b. b) w a)

pub few_behind_boot : (n : ℕ) (w : NodeWorld) (node : ℕ) → FewBehind n w → FewBehind (n + 1) (boots w node).0
few_behind_boot n w node a =
    let v : NodeWorld = boot_written w node in
    let b : FewBehind n v = few_with_memory n node _ w a in
    let c : FewBehind n (with_node node (boot_found w node) v) = few_with_node n node (boot_found w node) v b in
    by_boot (λ p. FewBehind (n + 1) p.0) w node (few_behind_cut n node v b) (longer n (n + 1) (with_node node (boot_found w node) v) (omega arith) c)

lost_here : (n : ℕ) (e : End) (why : Loss) (s : Site) → FewOn n s.link → FewOn n (site_lost e why s).link
lost_here n e why s a = grind arith

pub few_behind_loss : (n : ℕ) (w : NodeWorld) (e : End) (why : Loss) → FewBehind n w → FewBehind n (frame_lost w e why).0
few_behind_loss n w e why a =
    by_loss (λ p. FewBehind n p.0) w e why
    (λ q. same_sites n e.link (λ s. record (site_lost e why s) { node = counts why e.link s.node }) (λ s b. lost_here n e why s b) w a)
    (λ q. same_sites n e.link (site_lost e why) (λ s b. lost_here n e why s b) w a)

-- ## Ticks

pub few_behind_ages : (n : ℕ) (w : NodeWorld) → FewBehind n w → FewBehind n (all_aged w).0
few_behind_ages n w a = each n n _ (λ s b. few_aged n s.link b) w.sites a

pub few_behind_tick : (n : ℕ) (w : NodeWorld) → FewBehind n w → FewBehind (n + 1) (controller_ticks w).0
few_behind_tick n w a =
    by_controller_tick (λ p. FewBehind (n + 1) p.0) w (λ q. each n (n + 1) _ (λ s b. few_ticked n s.link [] GoesOut b) w.sites a)
    (λ r q. let k : Work = near_tick w r in
    each n (n + 1) (site_ticked k) (λ s b. few_ticked_so n s.link (is_late_at k s.host) (turns_at k s.host) (ending_of k) b) w.sites a)

pub few_behind_host_tick : (n : ℕ) (s : Site) → FewOn n s.link → FewOn (n + 1) (host_ticks s).0.link
few_behind_host_tick n s a =
    by_host_tick (λ p. FewOn (n + 1) p.0.link) s (λ q. few_ticked_there n s.link [] GoesOut a)
    (λ r q. let k : Work = host_tick s r in few_ticked_there n s.link (turns_at k s.host) (ending_of k) a)

pub few_behind_hosts_tick : (n : ℕ) (sites : List Site) → FewOnEach n sites → FewOnEach (n + 1) (hosts_tick sites).0
few_behind_hosts_tick n [] a = tt
few_behind_hosts_tick n (s ∷ sites) a = (few_behind_host_tick n s a.0, few_behind_hosts_tick n sites a.1)

pub few_behind_world_tick : (n : ℕ) (w : NodeWorld) → FewBehind n w → FewBehind (n + 2) (world_ticks w).0
few_behind_world_tick n w a =
    let old : NodeWorld = (all_aged w).0 in
    let near : NodeWorld = (controller_ticks old).0 in
    let b : FewOnEach (n + 1) near.sites = few_behind_tick n old (few_behind_ages n w a) in
    longer (n + 1 + 1) (n + 2) (world_ticks w).0 (omega arith) (few_behind_hosts_tick (n + 1) near.sites b)

-- ## Whatever happens

pub few_behind_activation : (n : ℕ) (w : NodeWorld) (h sync power : ℕ) → FewBehind n w → FewBehind (n + 2) (activates w h sync power).0
few_behind_activation n w h sync power a =
    let near : NodeWorld = (comes_at w (end_c h) (Starts power)).0 in
    let b : FewBehind (n + 1) near = few_behind_coming n w (end_c h) (Starts power) a in
    longer (n + 1 + 1) (n + 2) (activates w h sync power).0 (omega arith) (few_behind_coming (n + 1) near (end_h h) (Starts sync) b)

pub few_behind_step : (n : ℕ) (w : NodeWorld) (c : Happening) → FewBehind n w → FewBehind (n + 2) (world_step w c).0
few_behind_step n w (Boots node) a = longer (n + 1) (n + 2) (world_step w (Boots node)).0 (omega arith) (few_behind_boot n w node a)
few_behind_step n w (IsCut node) a = longer (n + 1) (n + 2) (world_step w (IsCut node)).0 (omega arith) (few_behind_cut n node w a)
few_behind_step n w (Gives e m) a =
    longer (n + 1) (n + 2) (world_step w (Gives e m)).0 (omega arith)
    (few_behind_host n w e.link NoInput (begins_with e.link (sending e.link m)) a)
few_behind_step n w (Inits e identity pipes) a =
    longer (n + 1) (n + 2) (world_step w (Inits e identity pipes)).0 (omega arith)
    (few_behind_host n w e.link NoInput (begins_with e.link (beginning identity pipes)) a)
few_behind_step n w (Takes e) a = longer (n + 1) (n + 2) (world_step w (Takes e)).0 (omega arith) (few_behind_coming n w e NextFrame a)
few_behind_step n w (Loses e why) a = longer n (n + 2) (world_step w (Loses e why)).0 (omega arith) (few_behind_loss n w e why a)
few_behind_step n w Ticks a = few_behind_world_tick n w a
few_behind_step n w (Resets e window) a =
    longer (n + 1) (n + 2) (world_step w (Resets e window)).0 (omega arith) (few_behind_coming n w e (AsksReset window) a)
few_behind_step n w (Activates h sync power) a = few_behind_activation n w h sync power a
few_behind_step n w (Arms node plan) a =
    longer n (n + 2) (world_step w (Arms node plan)).0 (omega arith) (few_with_memory n node (record (memory_at w node) { plan = Some plan }) w a)

pub few_behind_all : (causes : List Happening) (n : ℕ) (w : NodeWorld) → FewBehind n w → FewBehind (n + 2 * length causes) (all_happen w causes).0
few_behind_all [] n w a = longer n (n + 2 * length {A = Happening} []) w (omega arith) a
few_behind_all (c ∷ causes) n w a = go (can_happen w c) (few_behind_all causes (n + 2) (world_step w c).0 (few_behind_step n w c a))
  where
    by : Bool → NodeWorld × List Occurrence
    by true = (
      (all_happen (world_step w c).0 causes).0,
      record { cause = c; entries = (world_step w c).1 } ∷ (all_happen (world_step w c).0 causes).1,
    )
    by false = (w, [])

    go : (b : Bool) → FewBehind (n + 2 + 2 * length causes) (all_happen (world_step w c).0 causes).0
        → FewBehind (n + 2 * length (c ∷ causes)) (by b).0
    go true later = grind arith
    go false later = longer n (n + 2 * length (c ∷ causes)) w (omega arith) a
