use Rattle.std.proofs.lemmas.Grind.{common_steps}
use Rattle.node_ends.proofs.Words.{ActStart, End, EndStandsFor, HoldsEnd, LinkInput, LinkReport, List, Machine, None, Option, PoolState, Reset, Role, Seat}
use Rattle.node_ends.proofs.Words.{SeatBecomes, Some, Start, Stop, Waiting, account_kept, after_input, ap, arith, got_by, has_come, is_some, lpdu_input}
use Rattle.node_ends.proofs.Words.{oldest, option_map, refl, report, subst, sym, without_got, ℕ, ◌∙◌, ◌≡◌}
use Rattle.link_end.specs.Roles.{MayStart}
use Rattle.node_ends.proofs.Counting.{reset_done}
use Rattle.node_ends.proofs.Fetching.{WaitsHeld, as_waiting, fetches, none_got, none_came, none_waited, lpdu_told_apart, lpdu_is_outside, moves_on}
use Rattle.node_ends.proofs.Coming.{still_holds, reset_so, start_told_apart, stop_told_apart}
use Rattle.node_ends.proofs.Keeping.{Takes, takes, refuses, not_refused, why_refused, side_takes, frame_is}
use Rattle.node_ends.proofs.Moving.{call_moves, few_controls}
use Rattle.node_ends.specs.Holding.{HoldsSeat, Moves}
use Rattle.node_ends.specs.Ends.{IsHeldWhileOneWaits, SeatStandsFor}
use Rattle.node_machine.specs.Parts.{Port}
use Rattle.link_end.specs.Reports.{report_told}
use Rattle.node_ends.proofs.seat.Seat.comes.Goals.{else-report, in-None, in-Some, then-report}
use Rattle.node_ends.proofs.seat.Seat.comes.Goals as goal

pub reset-requires : goal.reset-requires
reset-requires c =
    let may = c.requires.may in record {
      stands = (without_got may.0.side, may.1.holds.stands);
      window = rw c.in-Reset.is at may.4;
      room = few_controls c.args.pool.now c.args.self.now.side may.0.side may.1.holds.stands may.2;
    }

pub activate-requires : goal.activate-requires
activate-requires c =
    let may = c.requires.may in
    let start : MayStart may.0.side.role (ActStart c.in-Start.value) = rw c.in-Start.is at may.4 in
    record {
      stands = (without_got may.0.side, may.1.holds.stands);
      start = subst (λ (r : Role). MayStart r (ActStart c.in-Start.value)) (sym may.1.holds.stands.halfway.role) start;
      room = few_controls c.args.pool.now c.args.self.now.side may.0.side may.1.holds.stands may.2;
    }

pub deactivate-requires : goal.deactivate-requires
deactivate-requires c =
    let may = c.requires.may in record {
      stands = (without_got may.0.side, may.1.holds.stands);
      room = few_controls c.args.pool.now c.args.self.now.side may.0.side may.1.holds.stands may.2;
    }

-- while a message waits the end is held
held_there : (pool : PoolState) (s : Seat) (p : Port) → SeatStandsFor pool s p → IsHeldWhileOneWaits (Some p) → WaitsHeld s.waiting s.side
held_there pool s p g h = grind (arith, common_steps)

-- what a frame did to the end, and to the message that waits there
pub returns-after-report-clause-becomes : goal.returns-after-report-clause-becomes
returns-after-report-clause-becomes c =
    let may = rw c.in-Frame.is at c.requires.may.4 in
    let lpdu : List ℕ = may.0 in
    let t = c.take_read-report in
    let r = c.requires.may in
    let s : Seat = c.args.self.now in
    let old : PoolState = c.args.pool.now in
    let answer : (m : Machine) → HoldsSeat old s m → t.result ≡ report_told (report m (lpdu_input lpdu)) =
    λ m h. t.ensures.answer (without_got m) lpdu h.stands may.1 ∙ lpdu_told_apart m lpdu in
    let moves : Moves old t.new.pool s.side t.new.self =
    call_moves old t.new.pool s.side t.new.self (without_got r.0.side) r.1.holds.stands t.ensures.elsewhere in
    let took : Takes old t.new.pool s c.if-report.self (lpdu_input lpdu) = elim c.if-report.branch [
      | then-report w ↦
          let f = w.next_message.ensures in
          let same : option_map as_waiting w.next_message.result ≡ w.match-next_message.self =
          elim w.match-next_message.branch [ in-Some b ↦ grind arith | in-None b ↦ grind arith ] in
          subst (λ (x : Seat). Takes old t.new.pool s x (lpdu_input lpdu)) (sym w.self-is) (record {
            outside = lpdu_is_outside lpdu;
            stands = λ m h.
                let came : is_some (oldest (got_by m (lpdu_input lpdu))) ≡ _ = ap (λ (r : LinkReport). r.got) (sym (answer m h)) ∙ w.if-report.true in
                let none : s.waiting ≡ None = none_waited s.side s.waiting m lpdu h (held_there old s r.0 r.1 r.3) came in
                let h2 = subst (λ (o : Option Waiting). HoldsEnd old s.side o m) none h in
                let stands = subst (λ (n : Machine). EndStandsFor t.new.self t.new.pool (after_input n (lpdu_input lpdu)))
                (none_got old s.side m h2) (t.ensures.stands (without_got m) lpdu h.stands may.1) in
                let accounts = account_kept old t.new.pool s.side t.new.self (without_got m) None h2.stands t.ensures.elsewhere h2.accounts in
                let n : Machine = after_input m (lpdu_input lpdu) in
                subst (λ (o : Option Waiting). HoldsEnd t.new.pool w.next_message.new.self o n) same (fetches (record {
                  stands = stands;
                  next = f.stands t.new.pool n stands;
                  accounts = f.accounts t.new.pool n stands accounts;
                  answer = f.answer t.new.pool n stands;
                }));
            moves = moves_on old t.new.pool s.side t.new.self w.next_message.new.self moves
                (ap (λ (e : End). e.outbox.owner) f.rest, ap (λ (e : End). e.inbox.joiner.owner) f.rest);
            rest = refl;
          })
      | else-report w ↦ subst (λ (x : Seat). Takes old t.new.pool s x (lpdu_input lpdu)) (sym w.self-is) (record {
        outside = lpdu_is_outside lpdu;
        stands = λ m h.
            let none = none_came (got_by m (lpdu_input lpdu)) (ap (λ (r : LinkReport). r.got) (sym (answer m h)) ∙ w.if-report.false) in
            still_holds old t.new.pool s.side t.new.self s.waiting m (lpdu_input lpdu) h none (lpdu_is_outside lpdu) t.ensures.elsewhere
            (t.ensures.stands (without_got m) lpdu h.stands may.1);
        moves = moves;
        rest = refl;
      })
    ] in
    rw c.in-Frame.is (subst (λ i. SeatBecomes old t.new.pool s c.count.new.self (λ p. has_come p (Some i))) (frame_is _ lpdu may.1)
    (takes {t = c.if-report.self} {i = lpdu_input lpdu} {told = t.result} {kept = c.insert-report.result.now} took (λ p g. answer p.side g.holds)
    c.insert-report.ensures.value c.count.ensures))

pub returns-after-report-clause-told : goal.returns-after-report-clause-told
returns-after-report-clause-told c p g =
    let may = rw c.in-Frame.is at c.requires.may.4 in
    let told = c.take_read-report.ensures.answer (without_got p.side) may.0 g.holds.stands may.1 ∙ lpdu_told_apart p.side may.0 in
    rw c.in-Frame.is (ap (λ (r : LinkReport). Some r) (c.insert-report.ensures.value ∙ told)
    ∙ ap (λ (i : LinkInput). Some (report_told (report p.side i))) (frame_is _ may.0 may.1))

pub returns-in-Ok-clause-becomes : goal.returns-in-Ok-clause-becomes
returns-in-Ok-clause-becomes c =
    let may = c.requires.may in
    let t = c.reset in
    let w = c.in-Reset.window in
    rw c.in-Reset.is
    (takes {i = Reset w} {told = c.in-Ok.report} {kept = c.insert-report-in-Ok.result.now}
    (side_takes t.new.self (Reset w) refl (λ m. refl) (may.0.side, may.1.holds) t.ensures.elsewhere t.ensures.stands)
    (λ p g. reset_done p.side w c.in-Ok.report g.reached (sym c.in-Ok.is ∙ reset_so w t.ensures.answer p.side g.holds)) c.insert-report-in-Ok.ensures.value
    c.count-in-Ok.ensures)

pub returns-in-Ok-clause-refusal : goal.returns-in-Ok-clause-refusal
returns-in-Ok-clause-refusal c p g =
    rw c.in-Reset.is (not_refused p.side c.in-Reset.window c.in-Ok.report (sym c.in-Ok.is ∙ reset_so c.in-Reset.window c.reset.ensures.answer p.side g.holds))

pub returns-in-Ok-clause-told : goal.returns-in-Ok-clause-told
returns-in-Ok-clause-told c p g =
    rw c.in-Reset.is (ap (λ (r : LinkReport). Some r) (c.insert-report-in-Ok.ensures.value
    ∙ reset_done p.side c.in-Reset.window c.in-Ok.report g.reached (sym c.in-Ok.is ∙ reset_so c.in-Reset.window c.reset.ensures.answer p.side g.holds)))

pub returns-in-Err-clause-becomes : goal.returns-in-Err-clause-becomes
returns-in-Err-clause-becomes c =
    let may = c.requires.may in
    let t = c.reset in
    let w = c.in-Reset.window in
    rw c.in-Reset.is
    (refuses {window = w} {why = c.in-Err.why}
    (side_takes t.new.self (Reset w) refl (λ m. refl) (may.0.side, may.1.holds) t.ensures.elsewhere t.ensures.stands)
    (λ m h. sym c.in-Err.is ∙ reset_so w t.ensures.answer m h))

pub returns-in-Err-clause-refusal : goal.returns-in-Err-clause-refusal
returns-in-Err-clause-refusal c p g =
    rw c.in-Reset.is (why_refused p.side c.in-Reset.window c.in-Err.why (sym c.in-Err.is ∙ reset_so c.in-Reset.window c.reset.ensures.answer p.side g.holds))

pub returns-in-Start-clause-becomes : goal.returns-in-Start-clause-becomes
returns-in-Start-clause-becomes c =
    let may = c.requires.may in
    let t = c.activate in
    let v = c.in-Start.value in
    rw c.in-Start.is
    (takes {i = Start v} {told = t.result} {kept = c.insert-report-in-Start.result.now}
    (side_takes t.new.self (Start v) refl (λ m. refl) (may.0.side, may.1.holds) t.ensures.elsewhere t.ensures.stands)
    (λ p g. t.ensures.answer (without_got p.side) g.holds.stands ∙ start_told_apart p.side v) c.insert-report-in-Start.ensures.value
    c.count-in-Start.ensures)

pub returns-in-Start-clause-told : goal.returns-in-Start-clause-told
returns-in-Start-clause-told c p g =
    rw c.in-Start.is (ap (λ (r : LinkReport). Some r) (c.insert-report-in-Start.ensures.value
    ∙ (c.activate.ensures.answer (without_got p.side) g.holds.stands ∙ start_told_apart p.side c.in-Start.value)))

pub returns-in-Stop-clause-becomes : goal.returns-in-Stop-clause-becomes
returns-in-Stop-clause-becomes c =
    let may = c.requires.may in
    let t = c.deactivate in
    rw c.in-Stop.is
    (takes {i = Stop} {told = t.result} {kept = c.insert-report-in-Stop.result.now}
    (side_takes t.new.self Stop refl (λ m. refl) (may.0.side, may.1.holds) t.ensures.elsewhere t.ensures.stands)
    (λ p g. t.ensures.answer (without_got p.side) g.holds.stands ∙ stop_told_apart p.side) c.insert-report-in-Stop.ensures.value c.count-in-Stop.ensures)

pub returns-in-Stop-clause-told : goal.returns-in-Stop-clause-told
returns-in-Stop-clause-told c p g =
    rw c.in-Stop.is (ap (λ (r : LinkReport). Some r) (c.insert-report-in-Stop.ensures.value
    ∙ (c.deactivate.ensures.answer (without_got p.side) g.holds.stands ∙ stop_told_apart p.side)))
