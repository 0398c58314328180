-- What comes to an end of a link of a world: the first frame on its way there is taken off its wire, or activation empties both.
use Rattle.std.proofs.Common.{max}
use Rattle.std.specs.Prelude.{Result}
use Rattle.node_sites.proofs.Words.{Bool, Buffer, Control, End, Entry, Flying, IsTakenOff, Link, List, NextFrame, None, Ok, OnWire, Option, Some, WireEnd}
use Rattle.node_sites.proofs.Words.{WireEndIs, WireStandsFor, Wires, WiresStandFor, [], ap, append-nil, ap₂, arith, arrival, control_of, drop, entries_for}
use Rattle.node_sites.proofs.Words.{exchanged, false, lpdu_of, map, option_map, option_to_list, refl, seen_from, side_of, sym, true, ℕ, ◌++◌, ◌∙◌, ◌∷◌, ◌≡◌}
use Rattle.swp_lpdu.specs.declared.LpduFault.{LpduFault}
use Rattle.trace_model.specs.declared.entry.Entry.TheVariants as note
use Rattle.link_laws.specs.sessions.Sessions.{is_rset, took_with}
use Rattle.link_wires.specs.Wires.{IsMade, kept_of}
use Rattle.link_wires.proofs.Notes.{end_is}
use Rattle.link_wires.proofs.Wires.{first_is, taken_off, there_is_none, there_is_one}
use Rattle.node_machine.specs.world.World.{input_of}
use Rattle.node_ends.specs.Inputs.{frame_said}
use Rattle.node_sites.specs.declared.incoming.Arrived.{Arrived}
use Rattle.node_sites.specs.declared.incoming.Arrived.TheVariants as arrived
use Rattle.node_sites.specs.declared.incoming.Incoming.TheVariants as coming
use Rattle.node_sites.specs.Arrivals.{ComesToEnd}
use Rattle.node_sites.specs.LinksKept.{IsFirst, IsTakenFirst, without_first}

-- ## One end

-- an end whose first frame was taken off
abbrev TookFirst : WireEnd → Link → Type 0
TookFirst k l = WireEndIs k (without_first l).controller (without_first l).to_controller

-- only an RSET has a number
took_so : (t : ℕ) (x : OnWire) → IsMade x → max t x.number ≡ took_with t x
took_so t x made = go (is_rset x.frame) refl
  where
    go : (b : Bool) → is_rset x.frame ≡ b → max t x.number ≡ took_with t x
    go true q = rw q refl
    go false q = rw q (ap (max t) (made.1 q) ∙ least t)
      where
        least : (n : ℕ) → max n 0 ≡ n
        least n = omega arith

pub none_taken : {k : WireEnd} {new : Buffer Flying} (at : End) (l : Link) (entries : List Entry) → WireEndIs k l.controller l.to_controller
    → IsTakenOff k.wire new None → IsTakenFirst at l (TookFirst (record k { wire = new }) l) entries entries None
none_taken {k} {new} at l entries w off = go l.to_controller w
  where
    go : (xs : List OnWire) → WireEndIs k l.controller xs
        → IsTakenFirst at (record l { to_controller = xs }) (TookFirst (record k { wire = new }) (record l { to_controller = xs })) entries entries None
    go [] w =
        let items : new.items ≡ [] = ap (λ (b : Buffer Flying). b.items) off.new_is ∙ ap (drop 1) w.wire_is.frames in
        let capacity : new.capacity ≡ 64 = ap (λ (b : Buffer Flying). b.capacity) off.new_is ∙ w.wire_is.capacity in
        let left : WireStandsFor new [] = record { frames = items; capacity = capacity; few = w.wire_is.few; made = tt } in
        record {
          lpdu = None;
          first = refl;
          says = refl;
          stands_now = record { emitted_is = w.emitted_is; took_is = w.took_is; wire_is = left };
          noted = sym (append-nil entries);
        }
    go (x ∷ xs) w = absurd (there_is_one w.wire_is off)

pub one_taken : {k : WireEnd} {new : Buffer Flying} {flying : Flying} {took : ℕ} {read : Result Control LpduFault} {now : List Entry} (at : End) (l : Link)
    (before : List Entry) → WireEndIs k l.controller l.to_controller → IsTakenOff k.wire new (Some flying) → took ≡ max k.took flying.number
    → read ≡ control_of flying.lpdu → now ≡ before ++ note.Took at flying.lpdu ∷ []
    → IsTakenFirst at l (TookFirst (record { wire = new; emitted = k.emitted; took = took }) l) before now (Some (arrived.Frame read))
one_taken {k} {new} {flying} {took} {read} {now} at l before w off is says noted = go l.to_controller w
  where
    go : (xs : List OnWire) → WireEndIs k l.controller xs
        → IsTakenFirst at (record l { to_controller = xs })
        (TookFirst (record { wire = new; emitted = k.emitted; took = took }) (record l { to_controller = xs })) before now (Some (arrived.Frame read))
    go [] w = absurd (there_is_none w.wire_is off)
    go (x ∷ xs) w =
        let first : flying ≡ kept_of x = first_is w.wire_is off in
        record {
          lpdu = Some (lpdu_of x.frame);
          first = (refl, w.wire_is.made.0.0);
          says = ap (λ r. Some (arrived.Frame r)) (says ∙ ap (λ (f : Flying). control_of f.lpdu) first);
          stands_now = record {
            emitted_is = w.emitted_is;
            took_is = rw first at is ∙ (ap (λ n. max n x.number) w.took_is ∙ took_so l.controller.took x w.wire_is.made.0);
            wire_is = taken_off w.wire_is off;
          };
          noted = noted ∙ ap (λ (f : Flying). before ++ note.Took at f.lpdu ∷ []) first;
        }

-- ## Both ends

pub far_end : {k : Wires} (to : End) (l : Link) → to.at_host ≡ true → WiresStandFor k (seen_from to l) → WireEndIs k.host l.controller l.to_controller
far_end {k} to l q w =
    let same : seen_from to l ≡ exchanged l = rw q refl in
    (rw same at w).there

pub near_end : {k : Wires} (to : End) (l : Link) → to.at_host ≡ false → WiresStandFor k (seen_from to l)
    → WireEndIs k.controller l.controller l.to_controller
near_end {k} to l q w =
    let same : seen_from to l ≡ l = rw q refl in
    (rw same at w).here

far_without : {k : Wires} {e : WireEnd} (l : Link) → WiresStandFor k (exchanged l) → TookFirst e l
    → WiresStandFor (record k { host = e }) (exchanged (without_first l))
far_without {k} {e} l = go l.to_controller
  where
    go : (xs : List OnWire) → WiresStandFor k (exchanged (record l { to_controller = xs })) → TookFirst e (record l { to_controller = xs })
        → WiresStandFor (record k { host = e }) (exchanged (without_first (record l { to_controller = xs })))
    go [] w f = record { here = w.here; there = f; count = w.count }
    go (x ∷ xs) w f = record { here = w.here; there = f; count = w.count }

near_without : {k : Wires} {e : WireEnd} (l : Link) → WiresStandFor k l → TookFirst e l → WiresStandFor (record k { controller = e }) (without_first l)
near_without {k} {e} l = go l.to_controller
  where
    go : (xs : List OnWire) → WiresStandFor k (record l { to_controller = xs }) → TookFirst e (record l { to_controller = xs })
        → WiresStandFor (record k { controller = e }) (without_first (record l { to_controller = xs }))
    go [] w f = record { here = f; there = w.there; count = w.count }
    go (x ∷ xs) w f = record { here = f; there = w.there; count = w.count }

-- so it stands of the wires
with_stands : {at : End} {l : Link} {P Q : Type 0} {before now : List Entry} {came : Option Arrived}
    → IsTakenFirst at l P before now came → (P → Q) → IsTakenFirst at l Q before now came
with_stands t f = record { lpdu = t.lpdu; first = t.first; says = t.says; stands_now = f t.stands_now; noted = t.noted }

pub far_taken : {k : Wires} {e : WireEnd} {before now : List Entry} {came : Option Arrived} (to : End) (l : Link) → to.at_host ≡ true
    → WiresStandFor k (seen_from to l) → IsTakenFirst to l (TookFirst e l) before now came
    → IsTakenFirst to l (WiresStandFor (record k { host = e }) (seen_from to (without_first l))) before now came
far_taken {k} to l q w t =
    let same : seen_from to l ≡ exchanged l = rw q refl in
    with_stands t (λ f. rw q (far_without l (rw same at w) f))

pub near_taken : {k : Wires} {e : WireEnd} {before now : List Entry} {came : Option Arrived} (to : End) (l : Link) → to.at_host ≡ false
    → WiresStandFor k (seen_from to l) → IsTakenFirst to l (TookFirst e l) before now came
    → IsTakenFirst to l (WiresStandFor (record k { controller = e }) (seen_from to (without_first l))) before now came
near_taken {k} to l q w t =
    let same : seen_from to l ≡ l = rw q refl in
    with_stands t (λ f. rw q (near_without l (rw same at w) f))

-- ## A frame

frame_input : (l : Link) (lpdu : List ℕ) (read : Result Control LpduFault) → IsFirst l.to_controller (Some lpdu) → read ≡ control_of lpdu
    → input_of l NextFrame ≡ Some (frame_said read)
frame_input l lpdu read first says = go l.to_controller first
  where
    go : (xs : List OnWire) → IsFirst xs (Some lpdu) → input_of (record l { to_controller = xs }) NextFrame ≡ Some (frame_said read)
    go [] first = absurd (cc first)
    go (x ∷ xs) first =
        let bytes : Some lpdu ≡ Some (lpdu_of x.frame) = first.0 in
        let same : lpdu ≡ lpdu_of x.frame = cc in
        let is : read ≡ Ok x.frame = says ∙ (ap control_of same ∙ first.1) in
        ap (λ r. Some (frame_said r)) (sym is)

frame_noted : (to : End) (l : Link) (lpdu : List ℕ) → IsFirst l.to_controller (Some lpdu)
    → note.Took to lpdu ∷ [] ≡ entries_for to.link (arrival (side_of to) l NextFrame)
frame_noted to l lpdu = go l.to_controller
  where
    go : (xs : List OnWire) → IsFirst xs (Some lpdu)
        → note.Took to lpdu ∷ [] ≡ entries_for to.link (arrival (side_of to) (record l { to_controller = xs }) NextFrame)
    go [] first = absurd (cc first)
    go (x ∷ xs) first =
        let bytes : Some lpdu ≡ Some (lpdu_of x.frame) = first.0 in
        ap₂ (λ e b. note.Took e b ∷ []) (sym (end_is to)) cc

-- a frame has come, or none is on its way
pub first_comes : {new : Wires} {before now : List Entry} (to : End) (l : Link) (came : Option Arrived)
    → IsTakenFirst to l (WiresStandFor new (seen_from to (without_first l))) before now came → ComesToEnd new to l coming.NextFrame before now came
first_comes {new} {before} {now} to l came t = go l.to_controller came t.lpdu t.first t.says t.stands_now t.noted
  where
    go : (xs : List OnWire) (came : Option Arrived) (o : Option (List ℕ)) → IsFirst xs o
        → came ≡ option_map (λ (bytes : List ℕ). arrived.Frame (control_of bytes)) o
        → WiresStandFor new (seen_from to (without_first (record l { to_controller = xs }))) → now ≡ before ++ map (note.Took to) (option_to_list o)
        → ComesToEnd new to (record l { to_controller = xs }) coming.NextFrame before now came
    go [] None None first says w noted = record { input = refl; wires = w; noted = noted ∙ append-nil before }
    go (x ∷ xs) None None first says w noted = absurd (cc first.0)
    go xs None (Some lpdu) first says w noted = absurd (cc says)
    go xs (Some a) None first says w noted = absurd (cc says)
    go xs (Some (arrived.Frame read)) (Some lpdu) first says w noted =
        let is : read ≡ control_of lpdu = cc in
        record {
          is = (lpdu, is);
          input = frame_input (record l { to_controller = xs }) lpdu read first is;
          wires = w;
          noted = noted ∙ ap (λ es. before ++ es) (frame_noted to (record l { to_controller = xs }) lpdu first);
        }
    go xs (Some a) (Some lpdu) first says w noted = absurd (cc says)
