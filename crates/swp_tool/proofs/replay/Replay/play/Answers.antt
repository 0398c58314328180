-- What was read is what the bytes say, and the memory that is left over says nothing of what was played.
use Rattle.swp_tool.proofs.Words.{HaltsBefore, HasPlayed, Header, IfErr-weaker, IsSomeAnd, MayFollow, Ok, Some, and_line, line_of, on_ok_weaker, subst, sym}
use Rattle.swp_tool.proofs.Words.{world_header, ◌≡◌}
use Rattle.schedule_text.specs.declared.read.Read.TheVariants as read
use Rattle.swp_tool.proofs.Playing.{line_said}
use Rattle.swp_tool.proofs.replay.Replay.play.Goals as goal

pub go_on-done-requires-clause-world : goal.go_on-done-requires-clause-world
go_on-done-requires-clause-world c =
    let line = c.in-Some-read.line in
    let P : Header → Type 0 = λ h. MayFollow h line in
    rw c.in-Some.is (subst P c.header.ensures (rw c.in-Some-read.is at c.read_at_once.ensures.follows))

pub returns-in-Some-read-clause-played : goal.returns-in-Some-read-clause-played
returns-in-Some-read-clause-played c =
    let line = c.in-Some-read.line in
    let bytes = c.args.bytes.now in
    let P : Header → Type 0 = λ h. line_of (Some h) bytes ≡ Ok (read.Line line) in
    let said : IsSomeAnd c.args.self.now.world (λ w. line_of (Some (world_header w)) bytes ≡ Ok (read.Line line)) =
    rw c.in-Some.is (subst P c.header.ensures (rw c.in-Some-read.is at c.read_at_once.ensures.said)) in
    on_ok_weaker c.go_on-done.result
    (λ played s written h.
    let k : HasPlayed (record c.args.self.now { spare = c.read_at_once.new.spare }) s written =
    record { running = h.running; count_is = h.count_is; at = h.at } in
    let p : HasPlayed c.go_on-done.new.self (and_line s bytes) written =
    subst (λ t. HasPlayed c.go_on-done.new.self t written) (line_said bytes line k c.requires.next said) (played s written k) in
    subst (λ r. HasPlayed r (and_line s bytes) written) (sym c.keep.ensures) (record { running = p.running; count_is = p.count_is; at = p.at }))
    c.go_on-done.ensures.played

pub returns-in-Some-read-clause-halts : goal.returns-in-Some-read-clause-halts
returns-in-Some-read-clause-halts c =
    let line = c.in-Some-read.line in
    let bytes = c.args.bytes.now in
    let P : Header → Type 0 = λ h. line_of (Some h) bytes ≡ Ok (read.Line line) in
    let said : IsSomeAnd c.args.self.now.world (λ w. line_of (Some (world_header w)) bytes ≡ Ok (read.Line line)) =
    rw c.in-Some.is (subst P c.header.ensures (rw c.in-Some-read.is at c.read_at_once.ensures.said)) in
    IfErr-weaker c.go_on-done.result _ _
    (λ why halts s written h.
    let k : HasPlayed (record c.args.self.now { spare = c.read_at_once.new.spare }) s written =
    record { running = h.running; count_is = h.count_is; at = h.at } in
    subst (HaltsBefore why) (line_said bytes line k c.requires.next said) (halts s written k)) c.go_on-done.ensures.halts

pub returns-in-None-clause-halts : goal.returns-in-None-clause-halts
returns-in-None-clause-halts c =
    IfErr-weaker c.play_any-in-None.result _ _
    (λ why halts s written h. halts s written (record { running = h.running; count_is = h.count_is; at = h.at })) c.play_any-in-None.ensures.halts
