use Rattle.std.proofs.lemmas.Bool.{and_from}
use Rattle.node_deeds.proofs.Words.{Create, controller_core, eq-eqb, eqb, false, has_room_for, ne_eqb, sym, true, ◌∙◌}
use Rattle.node_deeds.proofs.Control.{agreed_or_not, first_fails, second_fails}
use Rattle.node_deeds.proofs.replies.replied.Goals as goal
use Rattle.node_deeds.proofs.replies.replied.Goals.{else-code-eq0-via-then-code-eq0+else-room, else-code-eq0-via-else-code-eq0}

pub returns-then-room-clause-deeds : goal.returns-then-room-clause-deeds
returns-then-room-clause-deeds g c =
    let s = c.args.store.now in
    let row = c.in-Waits.row in
    let core = controller_core s.journal.state s.tables in
    let room = sym c.room.ensures.room ∙ c.if-room.true in
    let both = and_from (eqb c.args.code 0) (has_room_for s.journal.state (Create row)) (eq-eqb c.args.code 0 c.if-code-eq0.true) room in
    λ a. c.agreed.ensures.deeds a ∙ agreed_or_not core c.args.code c.args.desk.now.notice c.in-Some.notice row true c.in-Some.is c.in-Waits.is both

pub returns-else-code-eq0-clause-deeds : goal.returns-else-code-eq0-clause-deeds
returns-else-code-eq0-clause-deeds g c =
    let s = c.args.store.now in
    let row = c.in-Waits.row in
    let core = controller_core s.journal.state s.tables in
    let otherwise = agreed_or_not core c.args.code c.args.desk.now.notice c.in-Some.notice row false c.in-Some.is c.in-Waits.is in
    elim c.else-code-eq0.branch [
      | else-code-eq0-via-then-code-eq0+else-room w ↦
          let room = sym w.room.ensures.room ∙ w.if-room.false in
          let both = second_fails (eqb c.args.code 0) (has_room_for s.journal.state (Create row)) room in
          λ a. c.disagreed.ensures.deeds a ∙ otherwise both
      | else-code-eq0-via-else-code-eq0 w ↦
          let both = first_fails (eqb c.args.code 0) (has_room_for s.journal.state (Create row)) (ne_eqb c.args.code 0 w.if-code-eq0.false) in
          λ a. c.disagreed.ensures.deeds a ∙ otherwise both
    ]
