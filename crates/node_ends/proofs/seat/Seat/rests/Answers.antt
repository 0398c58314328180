use Rattle.node_ends.proofs.Words.{List, Message, [], ap, is_held, length, messages_waiting, not, sym, without_got, ◌&&◌, ◌==◌, ◌∙◌, ◌≡◌}
use Rattle.node_ends.proofs.Fetching.{none_waits}
use Rattle.node_ends.proofs.seat.Seat.rests.Goals as goal

pub returns-then-is_none : goal.returns-then-is_none
returns-then-is_none c pool m h =
    let none : m.got ≡ [] = h.waits ∙ ap (messages_waiting pool) (none_waits c.args.self.now.waiting c.if-is_none.ensures) in
    ap not (c.is_held.ensures pool (without_got m) h.stands) ∙ ap (λ (ms : List Message). (length ms == 0) && not (is_held m)) (sym none)
