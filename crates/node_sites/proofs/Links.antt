-- What happens on the wires of a link.
use Rattle.node_sites.proofs.Words.{AreNoted, Buffer, Control, Controller, End, Entry, Flying, Host, Link, List, Loss, NumberedEnd, OnWire, WireEnd, WireEndIs}
use Rattle.node_sites.proofs.Words.{WireStandsFor, Wires, WiresStandFor, aged_entries, aged_wire, ap, append_assoc, drop, entries_for, exchanged, false, put}
use Rattle.node_sites.proofs.Words.{refl, seen_from, side_of, sym, true, ℕ, ◌++◌, ◌∙◌, ◌≡◌}
use Rattle.link_laws.specs.messages.Links.{aged, happens}
use Rattle.link_laws.specs.messages.Links.EndEvent.{Lose}
use Rattle.link_laws.specs.entries.Entries.{first_lost}
use Rattle.history.specs.Steps.{at}
use Rattle.history.specs.Follows.{frames_to}
use Rattle.link_wires.specs.Putting.{GoesOutOf}
use Rattle.link_wires.proofs.GoingOut.{Stays, put_stays}
use Rattle.link_wires.proofs.Notes.{entries-append}

with_wire : {k : WireEnd} {e : NumberedEnd} {frames more : List OnWire} {wire : Buffer Flying} → WireEndIs k e frames → WireStandsFor wire more
    → WireEndIs (record k { wire = wire }) e more
with_wire w r = record { emitted_is = w.emitted_is; took_is = w.took_is; wire_is = r }

-- ## The first frame is lost

pub lost_to_host : {k : Wires} {wire : Buffer Flying} {now : List Entry} (before : List Entry) (to : End) (l : Link) (why : Loss)
    → to.at_host ≡ true → WiresStandFor k l
    → WireStandsFor wire (drop 1 l.to_host) × AreNoted to before now (first_lost (side_of to) why l.to_host)
    → WiresStandFor (record k { host = record k.host { wire = wire } }) (happens l (at to (Lose why)))
    × AreNoted to before now (first_lost (side_of to) why (frames_to l to))
lost_to_host {now = now} before to l why q w r =
    let frames : frames_to l to ≡ l.to_host = rw q refl in
    (rw q (record { here = w.here; there = with_wire w.there r.0; count = w.count }), rw (← frames) at r.1)

pub lost_to_controller : {k : Wires} {wire : Buffer Flying} {now : List Entry} (before : List Entry) (to : End) (l : Link) (why : Loss) → to.at_host ≡ false
    → WiresStandFor k l → WireStandsFor wire (drop 1 l.to_controller) × AreNoted to before now (first_lost (side_of to) why l.to_controller)
    → WiresStandFor (record k { controller = record k.controller { wire = wire } }) (happens l (at to (Lose why)))
    × AreNoted to before now (first_lost (side_of to) why (frames_to l to))
lost_to_controller {now = now} before to l why q w r =
    let frames : frames_to l to ≡ l.to_controller = rw q refl in
    (rw q (record { here = with_wire w.here r.0; there = w.there; count = w.count }), rw (← frames) at r.1)

-- ## Frames grow older

pub aged_is : {k : Wires} {l : Link} {near far : Buffer Flying} {mid now : List Entry} (host : ℕ) (before : List Entry) (to : End)
    → to ≡ record { link = host; at_host = true } → WiresStandFor k l
    → WireStandsFor near (aged_wire l.to_controller) × (mid ≡ before ++ entries_for host (aged_entries Controller l.to_controller))
    → WireStandsFor far (aged_wire l.to_host) × AreNoted to mid now (aged_entries (side_of to) l.to_host)
    → WiresStandFor
    (record { controller = record k.controller { wire = near }; host = record k.host { wire = far }; resets = k.resets }) (aged l)
    × (now ≡ before ++ entries_for host (aged_entries Controller l.to_controller ++ aged_entries Host l.to_host))
aged_is {l = l} {mid = mid} {now = now} host before to is w first second =
    let far : List Entry = entries_for host (aged_entries Host l.to_host) in (
      record { here = with_wire w.here first.0; there = with_wire w.there second.0; count = w.count },
      (rw is at second.1) ∙ ap (λ es. es ++ far) first.1 ∙ append_assoc before (entries_for host (aged_entries Controller l.to_controller)) far
          ∙ ap (λ es. before ++ es) (sym (entries-append host (aged_entries Controller l.to_controller) (aged_entries Host l.to_host))),
    )

-- ## A frame goes out

pub near_goes_out : {k : Wires} {l : Link} (e : End) → e.at_host ≡ false → WiresStandFor k (seen_from e l)
    → GoesOutOf k.controller.emitted k.host.wire k.resets l
near_goes_out {k} {l} e q w =
    let same : seen_from e l ≡ l = rw q refl in
    let v = rw same at w in
    record { emitted_is = v.here.emitted_is; wire_is = v.there.wire_is; count = v.count }

pub far_goes_out : {k : Wires} {l : Link} (e : End) → e.at_host ≡ true → WiresStandFor k (seen_from e l)
    → GoesOutOf k.host.emitted k.controller.wire k.resets l
far_goes_out {k} {l} e q w =
    let same : seen_from e l ≡ exchanged l = rw q refl in
    let v = rw same at w in
    record { emitted_is = v.there.emitted_is; wire_is = v.here.wire_is; count = v.count }

pub near_put : {k : Wires} {emitted n : ℕ} {wire : Buffer Flying} (l : Link) (c : Control) (e : End) → e.at_host ≡ false → WiresStandFor k (seen_from e l)
    → GoesOutOf emitted wire n (put l c)
    → WiresStandFor
    (record { controller = record k.controller { emitted = emitted }; host = record k.host { wire = wire }; resets = n }) (seen_from e (put l c))
near_put {k} {emitted} {n} {wire} l c e q w out =
    let v = rw (let same : seen_from e l ≡ l = rw q refl in same) at w in
    let s : Stays l (put l c) = put_stays l c in
    rw q
    (record {
      here = record { emitted_is = out.emitted_is; took_is = v.here.took_is ∙ sym s.took; wire_is = rw (← s.wire) at v.here.wire_is };
      there = rw (← s.host) at (with_wire v.there out.wire_is);
      count = out.count;
    })

pub far_put : {k : Wires} {emitted n : ℕ} {wire : Buffer Flying} (l : Link) (c : Control) (e : End) → e.at_host ≡ true → WiresStandFor k (seen_from e l)
    → GoesOutOf emitted wire n (put l c)
    → WiresStandFor
    (record { controller = record k.controller { wire = wire }; host = record k.host { emitted = emitted }; resets = n }) (seen_from e (put l c))
far_put {k} {emitted} {n} {wire} l c e q w out =
    let v = rw (let same : seen_from e l ≡ exchanged l = rw q refl in same) at w in
    let s : Stays l (put l c) = put_stays l c in
    rw q
    (record {
      here = rw (← s.host) at (with_wire v.here out.wire_is);
      there = record { emitted_is = out.emitted_is; took_is = v.there.took_is ∙ sym s.took; wire_is = rw (← s.wire) at v.there.wire_is };
      count = out.count;
    })
