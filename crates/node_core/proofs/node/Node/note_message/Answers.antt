-- The message that came lies in the buffer.
use Rattle.node_core.proofs.Words.{IfSome, Option, ap, message_read, subst, ℕ, ◌∙◌, ◌≤◌}
use Rattle.node_core.proofs.node.Node.note_message.Goals as goal

pub returns-clause-lies : goal.returns-clause-lies
returns-clause-lies g c =
    let P : Option (ℕ × ℕ) → Type 0 = λ o. IfSome o (λ (x : ℕ × ℕ). x.1 ≤ 4096) in (
      subst P c.in-Some.is c.read.ensures.inside,
      λ ports e. c.read.ensures.waits ports e ∙ ap (λ (o : Option (ℕ × ℕ)). message_read o c.read.new.buffer) c.in-Some.is,
    )
