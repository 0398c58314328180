use Rattle.nv_journal.proofs.Words.{IsFilled, ap, ap₂, arith, length, next_gate, subst, ◌+◌, ◌-◌, ◌∙◌, ◌≡◌, ◌≤◌}
use Rattle.nv_journal.proofs.Appending.{on_err}
use Rattle.nv_journal.proofs.PassedSteps.{filled_so_far, failed_so_far, filled_len, piece_says}
use Rattle.nv_journal.proofs.scan.Scan.read_on.Goals as goal

pub returns-in_err-fill-clause-unread : goal.returns-in_err-fill-clause-unread
returns-in_err-fill-clause-unread g c =
    let k = c.self.inside in
    let failed = c.in_err-fill.ensures.failed in
    on_err c.from_residual.result _ (λ first r.
    failed_so_far g.N.Nv.reads first k.nv c.fill.new.nv k.state k.ahead k.ended (rw (← c.self.view_is) at r) c.self.invariant.read
    (omega (arith, failed.0, c.left.ensures, ap length c.as_slice.ensures)) failed.1)

pub invariant_of-self-2 : goal.invariant_of-self-2
invariant_of-self-2 g c =
    let k = c.self.inside in
    let now = c.fill.new.ahead in
    let old = c.self.invariant in
    let len = ap length c.as_slice.ensures in
    let grown = filled_len g.N.Nv.reads _ k.nv k.ahead c.fill.new.nv now c.in_ok-fill.ensures.filled in
    let read : k.state.size + length now ≤ 32756 = omega (arith, grown.1, c.left.ensures, len, old.read) in
    record {
      size = c.in_ok-fill.ensures.size ∙ old.size;
      inside = old.inside;
      read = read;
      few = old.few;
      known = old.known;
      idle = old.idle;
      says = λ tells. rw (c.in_ok-fill.ensures.kept tells)
          (piece_says (old.says tells) (rw (← c.self.view_is) at c.requires) old.few old.inside old.known
          (ap₂ (λ a b. a + b) c.next_place.ensures.place len) grown.0 read (c.in_ok-fill.ensures.bytes tells));
    }

pub returns-clause-read : goal.returns-clause-read
returns-clause-read g c = λ first r.
    let k = c.self.inside in
    let left_is : c.left.result - length c.as_slice.result.now ≡ 32768 - (next_gate k.state + length k.ahead) =
    omega (arith, c.left.ensures, ap length c.as_slice.ensures) in
    filled_so_far g.N.Nv.reads first k.nv c.fill.new.nv k.state k.ahead c.fill.new.ahead k.ended (rw (← c.self.view_is) at r) c.self.invariant.read
    (subst (λ n. IsFilled g.N.Nv.reads n k.nv k.ahead c.fill.new.nv c.fill.new.ahead) left_is c.in_ok-fill.ensures.filled)
