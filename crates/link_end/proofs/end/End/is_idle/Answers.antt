use Rattle.link_end.proofs.Words.{[], ap, eqb-true, is_open, nil_from_length, sym, true, waiting_in, ◌∙◌, ◌≡◌}
use Rattle.link_end.proofs.IdleLemmas.{stands_whole, idle_end}
use Rattle.link_end.proofs.«end».End.is_idle.Goals as goal

pub returns : goal.returns
returns c pool m h t =
    let k = c.args.self.now in
    let s = c.is_idle.ensures in
    let whole = stands_whole k.shdlc (waiting_in pool k.outbox) m.shdlc h.halfway.link h.full (s.value.0 t).2 in
    let opens : is_open m.role ≡ true = sym (ap is_open h.halfway.role) ∙ (sym c.is_open.ensures ∙ c.if-not-is_open.false) in
    let none : k.acts.items ≡ [] = nil_from_length k.acts.items (eqb-true _ 0 (sym c.is_empty.ensures ∙ c.if-not-is_empty.false)) in
    idle_end k pool m h opens none (s.tick m.shdlc whole t).0 (s.tick m.shdlc whole t).1
    (s.frames m.shdlc whole t).0 (s.frames m.shdlc whole t).1
