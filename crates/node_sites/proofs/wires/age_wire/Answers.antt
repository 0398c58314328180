use Rattle.std.proofs.Common.{eqb}
use Rattle.node_sites.proofs.Words.{AreNoted, Buffer, End, Entry, Flying, List, OnWire, WireStandsFor, [], aged_entries, aged_wire, ap, append-nil, arith}
use Rattle.node_sites.proofs.Words.{length, side_of, subst, sym, true, ◌∷◌, ◌≡◌}
use lib.Dec.{T, eqb→eq}
use Rattle.node_sites.proofs.wires.age_wire.Goals as goal

-- no frame grows older where none is on the way
none_older : (to : End) (wire : Buffer Flying) (entries : List Entry) (frames : List OnWire) → WireStandsFor wire frames
    → true ≡ eqb (length wire.items) 0
    → WireStandsFor wire (aged_wire frames) × AreNoted to entries entries (aged_entries (side_of to) frames)
none_older to wire entries [] w q = (w, sym (append-nil entries))
none_older to wire entries (x ∷ frames) w q = absurd (omega (arith, eqb→eq (length wire.items) 0 (subst T q tt), ap length w.frames))

pub returns-then-is_empty : goal.returns-then-is_empty
returns-then-is_empty c frames w = none_older c.args.to c.args.wire.now c.args.entries.now.items frames w c.if-is_empty.ensures
