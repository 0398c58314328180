use Rattle.nv_journal.proofs.Words.{ap₂, arith, drop, gate_of, index_len, length-drop, refl, take, ◌+◌, ◌∙◌}
use Rattle.nv_journal.proofs.PassedSteps.{closed_so_far, ended_so_far, faulty_so_far, record_so_far, says_then}
use Rattle.nv_journal.proofs.scan.Scan.step.Goals as goal

pub invariant_of-self : goal.invariant_of-self
invariant_of-self g c =
    let k = c.self.inside in
    let old = c.self.invariant in
    let is = c.in-Closed.ensures.gate ∙ ap₂ (gate_of k.state.version k.state.many) c.left-rest.ensures c.as_slice.ensures in
    record {
      size = old.size;
      inside = old.inside;
      read = old.read;
      few = old.few;
      known = old.known;
      idle = λ none. refl;
      says = λ tells. ended_so_far (g.N.Nv.content k.nv) k.state k.ahead k.ended (old.says tells)
          (rw (← c.self.view_is) at c.requires.going) old.idle old.few old.inside old.known
          (rw (← c.self.view_is) at c.requires.enough) is;
    }

pub invariant_of-self-in-Record : goal.invariant_of-self-in-Record
invariant_of-self-in-Record g c =
    let k = c.self.inside in
    let old = c.self.invariant in
    let len = c.in-Record.len in
    let is = c.in-Record.ensures.gate ∙ ap₂ (gate_of k.state.version k.state.many) c.left-rest.ensures c.as_slice.ensures in
    let bounds = c.in-Record.ensures.record in
    let fits = rw c.left-rest.ensures at bounds.2 in
    rw (c.pass.ensures, c.index_len-from.ensures)
    record {
      size = old.size;
      inside = omega (arith, fits);
      read = omega (arith, fits, old.read, length-drop (2 + index_len k.state.version + len) k.ahead);
      few = omega (arith, old.few, bounds.0);
      known = old.known;
      idle = old.idle;
      says = λ tells. says_then (g.N.Nv.content k.nv) k.state k.ahead k.ended (old.says tells)
          (rw (← c.self.view_is) at c.requires.going) old.idle old.few old.inside old.known
          (rw (← c.self.view_is) at c.requires.enough) len is bounds.1 fits;
    }

pub returns-in-Closed-clause-body : goal.returns-in-Closed-clause-body
returns-in-Closed-clause-body g c = λ tells.
    let k = c.self.inside in
    let old = c.self.invariant in
    let is = c.in-Closed.ensures.gate ∙ ap₂ (gate_of k.state.version k.state.many) c.left-rest.ensures c.as_slice.ensures in
    rw (← c.self.view_is)
    (closed_so_far (g.N.Nv.content k.nv) k.state k.ahead k.ended (old.says tells)
    (rw (← c.self.view_is) at c.requires.going) old.idle old.few old.inside old.known
    (rw (← c.self.view_is) at c.requires.enough) is)

pub returns-in-Bad-clause-fault : goal.returns-in-Bad-clause-fault
returns-in-Bad-clause-fault g c =
    let k = c.self.inside in
    let old = c.self.invariant in
    let is = c.in-Bad.ensures.gate ∙ ap₂ (gate_of k.state.version k.state.many) c.left-rest.ensures c.as_slice.ensures in (
      tt,
      λ tells. rw (← c.self.view_is, c.next_place.ensures.place)
          (faulty_so_far (g.N.Nv.content k.nv) k.state k.ahead k.ended (old.says tells)
          (rw (← c.self.view_is) at c.requires.going) old.idle old.few old.inside old.known
          (rw (← c.self.view_is) at c.requires.enough) is),
    )

pub returns-in-Record-clause-body : goal.returns-in-Record-clause-body
returns-in-Record-clause-body g c = λ tells.
    let k = c.self.inside in
    let old = c.self.invariant in
    let len = c.in-Record.len in
    let is = c.in-Record.ensures.gate ∙ ap₂ (gate_of k.state.version k.state.many) c.left-rest.ensures c.as_slice.ensures in
    let bounds = c.in-Record.ensures.record in
    rw (← c.self.view_is, (c.body_of-body.ensures ∙ ap₂ (λ n l. take len (drop (2 + n) l)) c.index_len-from.ensures c.as_slice-in-Record.ensures))
    (record_so_far (g.N.Nv.content k.nv) k.state k.ahead k.ended (old.says tells)
    (rw (← c.self.view_is) at c.requires.going) old.idle old.few old.inside old.known
    (rw (← c.self.view_is) at c.requires.enough) len is bounds.1 (rw c.left-rest.ensures at bounds.2))
