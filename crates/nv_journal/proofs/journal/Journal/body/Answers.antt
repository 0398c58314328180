use Rattle.nv_journal.proofs.Words.{Some, ap, arith, false, left, min, next_place, no_reads, one_more_read, refl, slice_range, subst, sym, true, ◌+◌, ◌-◌, ◌<◌}
use Rattle.nv_journal.proofs.Words.{◌∙◌, ◌≡◌}
use Rattle.nv_journal.specs.Kept.{IsGate}
use Rattle.nv_journal.proofs.Compacting.{not_ok}
use Rattle.nv_journal.proofs.Standing.{at_end, has_room, body_there, next_there, next_is_gate}
use Rattle.nv_journal.proofs.journal.Journal.body.Goals as goal

pub returns-then-at-end-clause-read : goal.returns-then-at-end-clause-read
returns-then-at-end-clause-read g c = no_reads g.N.Nv.reads 1 c.args.self.now.nv

pub returns-then-at-end-clause-body : goal.returns-then-at-end-clause-body
returns-then-at-end-clause-body g c =
    let k = c.self.inside in
    rw (← c.self.view_is)
    (λ live tells i gate. at_end (g.N.Nv.content k.nv) k.state (c.self.invariant.says live tells) i c.args.at gate
    (omega (arith, c.next_place-end.ensures.place, c.if-at-end.true)))

pub returns-in_err-body-clause-read : goal.returns-in_err-body-clause-read
returns-in_err-body-clause-read g c =
    let k = c.self.inside in
    rw (← c.self.view_is, not_ok c.from_residual.result c.from_residual.ensures.0)
    (one_more_read g.N.Nv.reads 0 k.nv k.nv false c.read_record.new.nv (no_reads g.N.Nv.reads 0 k.nv) c.in_err-body.ensures.step)

pub returns-in_default-clause-read : goal.returns-in_default-clause-read
returns-in_default-clause-read g c =
    let k = c.self.inside in
    rw (← c.self.view_is)
    (one_more_read g.N.Nv.reads 0 k.nv k.nv true c.read_record.new.nv (no_reads g.N.Nv.reads 0 k.nv) c.in_ok-body.ensures.step)

pub returns-clause-read : goal.returns-clause-read
returns-clause-read g c =
    let k = c.self.inside in
    rw (← c.self.view_is)
    (one_more_read g.N.Nv.reads 0 k.nv k.nv true c.read_record.new.nv (no_reads g.N.Nv.reads 0 k.nv) c.in_ok-body.ensures.step)

pub returns-in_default-clause-body : goal.returns-in_default-clause-body
returns-in_default-clause-body g c =
    let k = c.self.inside in
    let rest = c.left.result + (c.next_place-end.result - c.args.at) in
    let content = g.N.Nv.content k.nv in
    let before : c.args.at < next_place k.state = omega (arith, c.next_place-end.ensures.place, c.if-at-end.false) in
    rw (← c.self.view_is)
    (λ live tells i gate. absurd (has_room content k.state (c.self.invariant.says live tells) i c.args.at (min 65 rest)
    rest (slice_range content c.args.at (c.args.at + min 65 rest)) gate before c.self.invariant.inside
    (omega (arith, c.left.ensures, c.next_place-end.ensures.place)) refl refl ((rw c.in_default.is at c.in_ok-body.ensures.record) tells)))

pub returns-clause-body : goal.returns-clause-body
returns-clause-body g c =
    let k = c.self.inside in
    let rest = c.left.result + (c.next_place-end.result - c.args.at) in
    let content = g.N.Nv.content k.nv in
    let before : c.args.at < next_place k.state = omega (arith, c.next_place-end.ensures.place, c.if-at-end.false) in
    let rest_is : rest ≡ left k.state + (next_place k.state - c.args.at) = omega (arith, c.left.ensures, c.next_place-end.ensures.place) in
    let read = slice_range content c.args.at (c.args.at + min 65 rest) in
    let some = rw c.in-Some.is at c.in_ok-body.ensures.record in
    rw (← c.self.view_is)
    (λ live tells i gate. (
      body_there content k.state (c.self.invariant.says live tells) i c.args.at (min 65 rest) rest read gate
          before c.self.invariant.inside rest_is refl refl
          ∙ ap Some (sym (some tells).0),
      ap (λ n. c.args.at + n) (some tells).1
          ∙ next_there content k.state (c.self.invariant.says live tells) i c.args.at (min 65 rest) rest read gate
          before c.self.invariant.inside rest_is refl refl,
    ))

pub returns-clause-next : goal.returns-clause-next
returns-clause-next g c =
    let k = c.self.inside in
    let rest = c.left.result + (c.next_place-end.result - c.args.at) in
    let content = g.N.Nv.content k.nv in
    let rest_is : rest ≡ left k.state + (next_place k.state - c.args.at) = omega (arith, c.left.ensures, c.next_place-end.ensures.place) in
    let read = slice_range content c.args.at (c.args.at + min 65 rest) in
    rw (← c.self.view_is)
    (λ live tells.
    let gate = rw (← c.self.view_is) at c.requires.gate live tells in
    subst (λ l. IsGate l (c.args.at + c.in-Some.gap)) (sym (c.in_ok-body.ensures.kept tells))
    (subst (λ n. IsGate content (c.args.at + n)) (sym ((rw c.in-Some.is at c.in_ok-body.ensures.record) tells).1)
    (next_is_gate content k.state (c.self.invariant.says live tells) gate.0 c.args.at (min 65 rest) rest read gate.1
    (omega (arith, c.next_place-end.ensures.place, c.if-at-end.false)) c.self.invariant.inside rest_is refl refl)))
