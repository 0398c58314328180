-- What is noted of a link says at which of its ends activation is done.
use Rattle.node_laws.proofs.Words.{Acked, ActEvent, Activate, Active, AllAllowed, AllByRecursion, AreOwn, AsksReset, AtController, AtHost, Bool, Controller}
use Rattle.node_laws.proofs.Words.{Cut, CutOff, Down, EndEvent, Ending, GaveUp, GoesOut, Got, HasTick, Host, IsEvent, IsLine, IsOwn, Link, LinkEnd, LinkEvent}
use Rattle.node_laws.proofs.Words.{LinkInput, List, Lose, NextFrame, NoInput, Node, Noted, NumberedEnd, OnWire, Report, Reset, Restarted, Role, Sounds}
use Rattle.node_laws.proofs.Words.{Start, Starts, Step, Stop, Stops, Take, TicksWithout, Turn, [], after_input, after_link_events, aged, aged_entries}
use Rattle.node_laws.proofs.Words.{all_at_controller, ap, arith, before_here, before_there, ended_by, entries, entries_of_events, event_entries, exchanged}
use Rattle.node_laws.proofs.Words.{false, far, finished, fold, fold-append, frames_out, happens, happens_at_controller, has_taken, here_entries, if_so}
use Rattle.node_laws.proofs.Words.{if◌then◌else◌, input_entries, is_open, is_some, left_after, map, nat_lt, new_line, number_of, option_to_list, puts_entries}
use Rattle.node_laws.proofs.Words.{refl, renewed, report, reset_role, rest_entries, restart_entries, role_after, silent, step_entries, subst, sym}
use Rattle.node_laws.proofs.Words.{taken_entries, tick_entries, ticks_at_controller, ticks_host, told, told_of, took_with, true, turn_entries, turned}
use Rattle.node_laws.proofs.Words.{turned_role, whole_acked, with_ended, ℕ, ◌++◌, ◌∙◌, ◌∷◌, ◌≡◌}
use Rattle.link_laws.specs.messages.Links.LinkEvent.{Ticks}
use Rattle.link_laws.proofs.messages.ActsInOrder.{ActsInOrder, LinkInOrder}
use Rattle.link_laws.specs.entries.Entries.{End}
use Rattle.link_laws.specs.entries.Entries.Entry.{Up, Tick}
use Rattle.link_laws.specs.entries.Filters.{same_link_end}
use Rattle.link_laws.proofs.entries.Books.{same_self, same_far}
use Rattle.link_laws.proofs.entries.Running.{IsUnderWay, goes_on, start_under_way}
use Rattle.node_laws.proofs.order.TickResets.{Holds, are-append, are_aged, are_last, are_mapped, are_puts, are_so, are_turns}
use Rattle.node_laws.proofs.links.Sites.{here_host, here_is, role_input, tick_is}

-- ## What is read

-- whether activation of an end is done, after one more note: it is, until activation begins or ends there, or its node loses power
abbrev pub acting : End → Bool → Noted → Bool
acting who b (Active w) = if same_link_end w who then true else b
acting who b (Restarted w) = if same_link_end w who then false else b
acting who b (Cut w) = if same_link_end w who then false else b
acting who b _ = b

-- after these notes, one after another
abbrev pub all_acting : End → Bool → List Noted → Bool
all_acting who b t = fold (acting who) b t

-- it is done
abbrev pub acts : NumberedEnd → Bool
acts h = is_open h.side.role

pub acting-append : (who : End) (b : Bool) (t u : List Noted) → all_acting who b (t ++ u) ≡ all_acting who (all_acting who b t) u
acting-append who b t u = fold-append (acting who) b t u

-- a note that says nothing of it
abbrev IsDull : Noted → Type 0
IsDull (Active w) = ⊥
IsDull (Restarted w) = ⊥
IsDull (Cut w) = ⊥
IsDull _ = Unit {0}

abbrev AreDull : List Noted → Type 0
AreDull t = AllByRecursion IsDull t

dull_passes : (who : End) (t : List Noted) → AreDull t → (b : Bool) → all_acting who b t ≡ b
dull_passes who [] a b = refl
dull_passes who (Active w ∷ t) a b = absurd a.0
dull_passes who (Restarted w ∷ t) a b = absurd a.0
dull_passes who (Cut w ∷ t) a b = absurd a.0
dull_passes who (_ ∷ t) a b = dull_passes who t a.1 b

dull_holds : (who : End) → Holds IsDull who
dull_holds who = grind arith

-- ## What is told of an input

-- what activation makes of it
abbrev if_became : Bool → Bool → Bool
if_became became b = if became then true else b

told_parts : (w who : End) (n : ℕ) (r : Report) (acked : ℕ) (b : Bool)
    → all_acting w b (told who n r acked) ≡ all_acting w b (if_so r.became_active (Active who))
told_parts w who n r acked b =
    let active : List Noted = if_so r.became_active (Active who) in
    let last : List Noted =
    map (GaveUp who) (option_to_list r.gave_up) ++ (if_so (nat_lt 0 r.acked) (Acked who n acked) ++ map (Got who n) r.got) in
    acting-append w b (map (Down who) (option_to_list r.ended)) (if_so r.began (Up who n) ++ (active ++ last))
    ∙ (ap (λ z. all_acting w z (if_so r.began (Up who n) ++ (active ++ last)))
    (dull_passes w (map (Down who) (option_to_list r.ended)) (are_mapped IsDull who (dull_holds who) (Down who) (option_to_list r.ended) (λ x. tt)) b)
    ∙ (acting-append w b (if_so r.began (Up who n)) (active ++ last)
    ∙ (ap (λ z. all_acting w z (active ++ last)) (dull_passes w (if_so r.began (Up who n)) (are_so IsDull who (dull_holds who) r.began (Up who n) tt) b)
    ∙ (acting-append w b active last ∙ dull_passes w last (are_last IsDull who (dull_holds who) n r acked) (all_acting w b active)))))

-- ## Roles

-- an end with this role isn't active once its node has lost power
abbrev pub IsLined : Role → Type 0
IsLined r = is_open (renewed r) ≡ false

pub lined_acts : (r : Role) (event : ActEvent) → IsLined r → IsLined (role_after r event)
lined_acts r event a = grind arith

abbrev HasLine : LinkEnd → Type 0
HasLine e = IsLined e.role

pub lined_input : (e : LinkEnd) (i : LinkInput) → HasLine e → HasLine (after_input e i)
lined_input e i a = role_input IsLined lined_acts e i a

lined_turns : (e : LinkEnd) (ts : List Turn) → HasLine e → HasLine (turned e ts)
lined_turns e ts a = subst IsLined (sym (turned_role e ts)) a

lined_here : (l : Link) (x : EndEvent) → HasLine l.controller.side → HasLine (happens_at_controller l x).controller.side
lined_here l x a = here_is HasLine lined_input lined_turns (λ e b. b) (λ e b. grind arith) l x a

lined_tick : (l : Link) (ts : List Turn) (ending : Ending) → HasLine l.controller.side → HasLine (ticks_at_controller l ts ending).controller.side
lined_tick l ts ending a = tick_is HasLine lined_input lined_turns (λ e b. b) (λ e b. grind arith) l ts ending a

-- what an input tells of activation is what it makes of the end
abbrev BecomesSo : LinkEnd → LinkInput → Bool → Type 0
BecomesSo e i b = if_became (report e i).became_active b ≡ is_open (after_input e i).role

-- activation that begins or ends leaves the end inactive
starts_so : (e : LinkEnd) (value : ℕ) → HasLine e → BecomesSo e (Start value) false
starts_so e value a = grind arith

takes_so : (e : LinkEnd) (f : Role) (x : OnWire) (w v : List OnWire) → ActsInOrder e.role f (x ∷ w) v → BecomesSo e (Take x.frame) (is_open e.role)
takes_so e f x w v h = grind arith

-- ## A step of an end

-- a step tells whether activation of its end is done, and nothing of the other end
pub record Acted (who : End) (l m : Link) (u : List Noted) : Type 0 where
  pub here : all_acting who (acts l.controller) u ≡ acts m.controller
  pub there : (b : Bool) → all_acting (far who) b u ≡ b

-- turns, and frames that go out
dull_rest : (who : End) (k : Link) (f : LinkEnd) (ts : List Turn) → AreDull (rest_entries who k f ts GoesOut)
dull_rest who k f ts =
    are-append IsDull who (dull_holds who) (turn_entries who (number_of k.controller) f ts) (puts_entries who k (frames_out (turned f ts)))
    (are_turns IsDull who (dull_holds who) (number_of k.controller) f ts) (are_puts IsDull who (dull_holds who) (frames_out (turned f ts)) k)

-- how it ends
rest_acted : (who : End) (k : Link) (f : LinkEnd) (ts : List Turn) (ending : Ending) (b : Bool) → b ≡ is_open f.role → HasLine f
    → all_acting who b (rest_entries who k f ts ending) ≡ acts (finished k (turned f ts) ending).controller
rest_acted who k f ts GoesOut b q a =
    let h0 = dull_passes who (rest_entries who k f ts GoesOut) (dull_rest who k f ts) b in let h1 = turned_role f ts in grind arith
rest_acted who k f ts CutOff b q a =
    let last : (c : Bool) → all_acting who c (Cut who ∷ []) ≡ false = λ c. let q = same_self who in rw q refl in
    acting-append who b (turn_entries who (number_of k.controller) f ts) (Cut who ∷ [])
    ∙ (last (all_acting who b (turn_entries who (number_of k.controller) f ts)) ∙ sym (lined_turns f ts a))

rest_beside : (who : End) (k : Link) (f : LinkEnd) (ts : List Turn) (ending : Ending) (b : Bool) → all_acting (far who) b (rest_entries who k f ts ending) ≡ b
rest_beside who k f ts GoesOut b = let h0 = dull_passes (far who) (rest_entries who k f ts GoesOut) (dull_rest who k f ts) b in grind arith
rest_beside who k f ts CutOff b =
    let last : (c : Bool) → all_acting (far who) c (Cut who ∷ []) ≡ c = λ c. let q = same_far who in rw q refl in
    acting-append (far who) b (turn_entries who (number_of k.controller) f ts) (Cut who ∷ [])
    ∙ (last (all_acting (far who) b (turn_entries who (number_of k.controller) f ts))
    ∙ dull_passes (far who) (turn_entries who (number_of k.controller) f ts) (are_turns IsDull who (dull_holds who) (number_of k.controller) f ts) b)

module _ (who : End) (l k : Link) (number : ℕ) (i : LinkInput) (ts : List Turn) (ending : Ending) where
  abbrev noted : List Noted
  noted = told_of who (record l.controller { took = number }) i ++ rest_entries who k (after_input l.controller.side i) ts ending

  input_acted : (b : Bool) → BecomesSo l.controller.side i b → HasLine l.controller.side
      → all_acting who b noted ≡ acts (finished k (turned (after_input l.controller.side i) ts) ending).controller
  input_acted b so a =
      let e : LinkEnd = l.controller.side in
      let n : ℕ = number_of (record l.controller { took = number }) in
      acting-append who b (told who n (report e i) (whole_acked (after_input e i))) (rest_entries who k (after_input e i) ts ending)
      ∙ (ap (λ z. all_acting who z (rest_entries who k (after_input e i) ts ending))
      (told_parts who who n (report e i) (whole_acked (after_input e i)) b ∙ (grind arith))
      ∙ rest_acted who k (after_input e i) ts ending (if_became (report e i).became_active b) so (lined_input e i a))

  input_beside : (b : Bool) → all_acting (far who) b noted ≡ b
  input_beside b =
      let e : LinkEnd = l.controller.side in
      let n : ℕ = number_of (record l.controller { took = number }) in
      acting-append (far who) b (told who n (report e i) (whole_acked (after_input e i))) (rest_entries who k (after_input e i) ts ending)
      ∙ (ap (λ z. all_acting (far who) z (rest_entries who k (after_input e i) ts ending))
      (told_parts (far who) who n (report e i) (whole_acked (after_input e i)) b ∙ (grind arith))
      ∙ rest_beside who k (after_input e i) ts ending b)

-- an input of its own
own_input : (who : End) (l : Link) (i : LinkInput) (ts : List Turn) (ending : Ending) → BecomesSo l.controller.side i (acts l.controller)
    → HasLine l.controller.side
    → Acted who l (finished (with_ended l (is_some (ended_by l.controller.side i))) (turned (after_input l.controller.side i) ts) ending)
    (input_entries who l i ts ending)
own_input who l i ts ending so a =
    let k : Link = with_ended l (is_some (ended_by l.controller.side i)) in
    record {
      here = input_acted who l k l.controller.took i ts ending (acts l.controller) so a;
      there = input_beside who l k l.controller.took i ts ending;
    }

tick_acted : (who : End) (l : Link) (node : Node) → HasLine l.controller.side
    → Acted who l (ticks_at_controller l node.turns node.ending) (tick_entries who l node)
tick_acted who l node a = own_input who l HasTick node.turns node.ending (grind arith) a

-- activation begins or ends
restart_acted : (who : End) (l : Link) (i : LinkInput) (ts : List Turn) (ending : Ending) → BecomesSo l.controller.side i false → HasLine l.controller.side
    → Acted who l (finished (silent l (after_input l.controller.side i)) (turned (after_input l.controller.side i) ts) ending)
    (restart_entries who l i ts ending)
restart_acted who l i ts ending so a =
    let k : Link = silent l (after_input l.controller.side i) in
    let us : List Noted = told_of who l.controller i ++ rest_entries who k (after_input l.controller.side i) ts ending in
    let q = same_self who in
    record {
      here = ap (λ x. all_acting who (if x then false else acts l.controller) us) q ∙ input_acted who l k l.controller.took i ts ending false so a;
      there = λ b. ap (λ x. all_acting (far who) (if x then false else b) us) (same_far who) ∙ input_beside who l k l.controller.took i ts ending b;
    }

-- a step that takes no frame
own_acted : (who : End) (l : Link) (e : EndEvent) → IsOwn e → HasLine l.controller.side → Acted who l (happens_at_controller l e) (here_entries who l e)
own_acted who l (Lose why) o a = absurd o
own_acted who l (Step NextFrame ts ending) o a = absurd o
own_acted who l (Step (AsksReset window) ts ending) o a = own_input who l (Reset window) ts ending (sym (ap is_open (reset_role l.controller.side window))) a
own_acted who l (Step (Starts v) ts ending) o a = restart_acted who l (Start v) ts ending (starts_so l.controller.side v a) a
own_acted who l (Step Stops ts ending) o a = restart_acted who l Stop ts ending (grind arith) a
own_acted who l (Step NoInput ts ending) o a =
    record { here = rest_acted who l l.controller.side ts ending (acts l.controller) refl a; there = rest_beside who l l.controller.side ts ending }

frame_acted : (who : End) (l : Link) (ts : List Turn) (ending : Ending) → LinkInOrder l → HasLine l.controller.side
    → Acted who l (happens_at_controller l (Step NextFrame ts ending)) (step_entries who l NextFrame ts ending)
frame_acted who l ts ending order a = go l.to_controller refl
  where
    m : Link
    m = happens_at_controller l (Step NextFrame ts ending)

    u : List Noted
    u = step_entries who l NextFrame ts ending

    P : Link → Type 0
    P k = Acted who l k u

    go : (w : List OnWire) → l.to_controller ≡ w → Acted who l m u
    go [] q = grind arith
    go (x ∷ xs) q =
        let some : u ≡ taken_entries who l x xs ts ending = rw q refl in
        let W : List OnWire → Type 0 = λ w. ActsInOrder l.controller.side.role l.host.side.role w l.to_host in
        let so : BecomesSo l.controller.side (Take x.frame) (acts l.controller) =
        takes_so l.controller.side l.host.side.role x xs l.to_host (subst W q order) in
        let k : Link = left_after l x xs in
        let number : ℕ = took_with l.controller.took x in
        subst P (sym (rw q refl)) (subst (λ (z : List Noted). Acted who l (has_taken l x xs ts ending) z) (sym some) (record {
          here = input_acted who l k number (Take x.frame) ts ending (acts l.controller) so a;
          there = input_beside who l k number (Take x.frame) ts ending;
        }))

pub here_acted : (who : End) (l : Link) (e : EndEvent) → LinkInOrder l → HasLine l.controller.side
    → Acted who l (happens_at_controller l e) (here_entries who l e)
here_acted who l (Lose why) order a = grind arith
here_acted who l (Step NextFrame ts ending) order a = frame_acted who l ts ending order a
here_acted who l (Step (AsksReset window) ts ending) order a = own_acted who l (Step (AsksReset window) ts ending) tt a
here_acted who l (Step (Starts v) ts ending) order a = own_acted who l (Step (Starts v) ts ending) tt a
here_acted who l (Step Stops ts ending) order a = own_acted who l (Step Stops ts ending) tt a
here_acted who l (Step NoInput ts ending) order a = own_acted who l (Step NoInput ts ending) tt a

-- ## Events

-- what is noted as l becomes m says of both ends whether activation is done
pub record BothActed (l m : Link) (u : List Noted) : Type 0 where
  pub controller : all_acting Controller (acts l.controller) u ≡ acts m.controller
  pub host : all_acting Host (acts l.host) u ≡ acts m.host

both_then : (l k m : Link) (u v : List Noted) → BothActed l k u → BothActed k m v → BothActed l m (u ++ v)
both_then l k m u v a b =
    record {
      controller = acting-append Controller (acts l.controller) u v ∙ (ap (λ z. all_acting Controller z v) a.controller ∙ b.controller);
      host = acting-append Host (acts l.host) u v ∙ (ap (λ z. all_acting Host z v) a.host ∙ b.host);
    }

both_dull : (l m : Link) (u : List Noted) → AreDull u → m.controller.side ≡ l.controller.side → m.host.side ≡ l.host.side → BothActed l m u
both_dull l m u a p q =
    record {
      controller = dull_passes Controller u a (acts l.controller) ∙ sym (ap (λ (e : LinkEnd). is_open e.role) p);
      host = dull_passes Host u a (acts l.host) ∙ sym (ap (λ (e : LinkEnd). is_open e.role) q);
    }

near_both : (l m : Link) (u : List Noted) → m.host ≡ l.host → Acted Controller l m u → BothActed l m u
near_both l m u q a = record { controller = a.here; host = a.there (acts l.host) ∙ sym (ap acts q) }

far_both : (l m : Link) (u : List Noted) → m.host ≡ l.controller → Acted Host (exchanged l) m u → BothActed l (exchanged m) u
far_both l m u q a = record { controller = a.there (acts l.controller) ∙ sym (ap acts q); host = a.here }

all_acted : (es : List EndEvent) (l : Link) → AreOwn l es → HasLine l.controller.side
    → BothActed l (all_at_controller l es) (entries_of_events Controller l es) × HasLine (all_at_controller l es).controller.side
    × ((all_at_controller l es).host ≡ l.host)
all_acted [] l o a = (both_dull l l [] tt refl refl, a, refl)
all_acted (e ∷ es) l o a =
    let k : Link = happens_at_controller l e in
    let more = all_acted es k o.2 (lined_here l e a) in (
      both_then l k (all_at_controller k es) (here_entries Controller l e) (entries_of_events Controller k es)
          (near_both l k (here_entries Controller l e) (here_host l e) (own_acted Controller l e o.0 a)) more.0,
      more.1,
      more.2 ∙ here_host l e,
    )

aged_both : (l m : Link) (u : List Noted) → BothActed (aged l) m u
    → BothActed l m (Tick ∷ (aged_entries Controller l.to_controller ++ (aged_entries Host l.to_host ++ u)))
aged_both l m u a =
    both_then l (aged l) m (Tick ∷ []) _ (both_dull l (aged l) (Tick ∷ []) (tt, tt) refl refl)
    (both_then (aged l) (aged l) m (aged_entries Controller l.to_controller) _
    (both_dull (aged l) (aged l) (aged_entries Controller l.to_controller)
    (are_aged IsDull Controller (dull_holds Controller) Controller l.to_controller) refl refl)
    (both_then (aged l) (aged l) m (aged_entries Host l.to_host) u
    (both_dull (aged l) (aged l) (aged_entries Host l.to_host) (are_aged IsDull Controller (dull_holds Controller) Host l.to_host) refl refl) a))

host_tick_both : (l : Link) (h : Node) → HasLine l.host.side
    → BothActed l (exchanged (ticks_at_controller (exchanged l) h.turns h.ending)) (tick_entries Host (exchanged l) h)
host_tick_both l h a =
    far_both l (ticks_at_controller (exchanged l) h.turns h.ending) (tick_entries Host (exchanged l) h) (ticks_host (exchanged l) h.turns h.ending)
    (tick_acted Host (exchanged l) h a)

event_acted : (l : Link) (e : LinkEvent) → IsEvent l e → LinkInOrder l → LinkInOrder (exchanged l) → HasLine l.controller.side → HasLine l.host.side
    → BothActed l (happens l e) (event_entries l e)
event_acted l (AtController e) can near far_order a b =
    near_both l (happens_at_controller l e) (here_entries Controller l e) (here_host l e) (here_acted Controller l e near a)
event_acted l (AtHost e) can near far_order a b =
    far_both l (happens_at_controller (exchanged l) e) (here_entries Host (exchanged l) e) (here_host (exchanged l) e)
    (here_acted Host (exchanged l) e far_order b)
event_acted l (Ticks c es h) can near far_order a b =
    let k : Link = ticks_at_controller (aged l) c.turns c.ending in
    let m : Link = all_at_controller k es in
    let more = all_acted es k can.1 (lined_tick (aged l) c.turns c.ending a) in
    let host : HasLine m.host.side = subst (λ (x : NumberedEnd). HasLine x.side) (sym (more.2 ∙ ticks_host (aged l) c.turns c.ending)) b in
    aged_both l (happens l (Ticks c es h)) _
    (both_then (aged l) k (happens l (Ticks c es h)) (tick_entries Controller (aged l) c) _
    (near_both (aged l) k (tick_entries Controller (aged l) c) (ticks_host (aged l) c.turns c.ending) (tick_acted Controller (aged l) c a))
    (both_then k m (happens l (Ticks c es h)) (entries_of_events Controller k es) (tick_entries Host (exchanged m) h) more.0 (host_tick_both m h host)))
event_acted l (TicksWithout es h) can near far_order a b =
    let m : Link = all_at_controller (aged l) es in
    let more = all_acted es (aged l) can.1 a in
    let host : HasLine m.host.side = subst (λ (x : NumberedEnd). HasLine x.side) (sym more.2) b in
    aged_both l (happens l (TicksWithout es h)) _
    (both_then (aged l) m (happens l (TicksWithout es h)) (entries_of_events Controller (aged l) es) (tick_entries Host (exchanged m) h) more.0
    (host_tick_both m h host))
event_acted l (Activate power c id h) can near far_order a b =
    let x : EndEvent = Step (Starts power) c.turns c.ending in
    let y : EndEvent = Step (Starts id) h.turns h.ending in
    let k : Link = happens_at_controller l x in
    let host : HasLine k.host.side = subst (λ (z : NumberedEnd). HasLine z.side) (sym (here_host l x)) b in
    both_then l k (happens l (Activate power c id h)) (here_entries Controller l x) (here_entries Host (exchanged k) y)
    (near_both l k (here_entries Controller l x) (here_host l x) (own_acted Controller l x tt a))
    (far_both k (happens_at_controller (exchanged k) y) (here_entries Host (exchanged k) y) (here_host (exchanged k) y)
    (own_acted Host (exchanged k) y tt host))

lined_event : (l : Link) (e : LinkEvent) → IsEvent l e → HasLine l.controller.side → HasLine l.host.side
    → HasLine (happens l e).controller.side × HasLine (happens l e).host.side
lined_event l (AtController e) can a b = let h0 = lined_here l e a in let h1 = here_host l e in grind arith
lined_event l (AtHost e) can a b = let h0 = here_host (exchanged l) e in let h1 = lined_here (exchanged l) e b in grind arith
lined_event l (Ticks c es h) can a b =
    let k : Link = ticks_at_controller (aged l) c.turns c.ending in
    let m : Link = all_at_controller k es in
    let more = all_acted es k can.1 (lined_tick (aged l) c.turns c.ending a) in
    let H : NumberedEnd → Type 0 = λ x. HasLine x.side in (
      subst H (sym (ticks_host (exchanged m) h.turns h.ending)) more.1,
      lined_tick (exchanged m) h.turns h.ending (subst H (sym (more.2 ∙ ticks_host (aged l) c.turns c.ending)) b),
    )
lined_event l (TicksWithout es h) can a b =
    let m : Link = all_at_controller (aged l) es in
    let more = all_acted es (aged l) can.1 a in
    let H : NumberedEnd → Type 0 = λ x. HasLine x.side in (
      subst H (sym (ticks_host (exchanged m) h.turns h.ending)) more.1,
      lined_tick (exchanged m) h.turns h.ending (subst H (sym more.2) b),
    )
lined_event l (Activate power c id h) can a b =
    let x : EndEvent = Step (Starts power) c.turns c.ending in
    let y : EndEvent = Step (Starts id) h.turns h.ending in
    let k : Link = happens_at_controller l x in
    let H : NumberedEnd → Type 0 = λ z. HasLine z.side in (
      subst H (sym (here_host (exchanged k) y)) (lined_here l x a),
      lined_here (exchanged k) y (subst H (sym (here_host l x)) b),
    )

-- ## Runs

events_acted : (es : List LinkEvent) (t : List Noted) (l : Link) → AllAllowed l es → IsUnderWay t l → HasLine l.controller.side → HasLine l.host.side
    → BothActed l (after_link_events l es) (entries l es)
events_acted [] t l can w a b = both_dull l l [] tt refl refl
events_acted (e ∷ es) t l can w a b =
    let m : Link = happens l e in
    let s : Sounds l = w.noted.sounds in
    let lined = lined_event l e can.0 a b in
    both_then l m (after_link_events m es) (event_entries l e) (entries m es)
    (event_acted l e can.0 (before_here l w.good w.reached s).in_order (before_there l w.good w.reached s).in_order a b)
    (events_acted es (t ++ event_entries l e) m can.1 (goes_on l e can.0 w) lined.0 lined.1)

-- what is noted of a link with activation from its beginning on
pub acted : (es : List LinkEvent) → AllAllowed new_line es → BothActed new_line (after_link_events new_line es) (entries new_line es)
acted es can = events_acted es [] new_line can (start_under_way new_line IsLine) refl refl
