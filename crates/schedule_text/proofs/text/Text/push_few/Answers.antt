-- There is no memory for the bytes.
use Rattle.schedule_text.proofs.Names.{HoldsText, Text, subst, sym}
use Rattle.schedule_text.proofs.text.Text.push_few.Goals.{then-remaining_capacity-bytes, else-remaining_capacity-bytes}
use Rattle.schedule_text.proofs.text.Text.push_few.Goals as goal

pub returns-in-Err : goal.returns-in-Err
returns-in-Err c start text h =
    let s : Text = c.if-remaining_capacity-bytes.self in
    let there : HoldsText start text s =
    elim c.if-remaining_capacity-bytes.branch [
      | then-remaining_capacity-bytes w ↦ subst (λ t. HoldsText start text t) (sym w.self-is) (w.make_room.ensures.same start text h)
      | else-remaining_capacity-bytes w ↦ subst (λ t. HoldsText start text t) (sym w.self-is) h
    ] in
    c.give_up.ensures start text c.args.bytes.now
    (subst (λ waiting. HoldsText start text (record s { waiting = waiting })) (sym c.in-Err.ensures.err) there)
