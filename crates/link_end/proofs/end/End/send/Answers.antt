use Rattle.link_end.proofs.Words.{Err, Full, Message, SendFull, TooLong, Up, ap, blocks_for, length, refl, spare, subst, sym, ℕ, ◌∙◌, ◌≡◌, ◌≤◌}
use Rattle.link_end.specs.Reports.{by_refusal_told}
use Rattle.link_end.proofs.NodeLemmas.{spare_is, refused_long, refused_full, refused_none, refusal_stays, gives, message_given}
use Rattle.link_end.proofs.BoxLemmas.{leaves_same}
use Rattle.link_end.proofs.«end».End.send.Goals as goal

pub returns-then-message-clause-stands : goal.returns-then-message-clause-stands
returns-then-message-clause-stands c m h =
    let x : Message = (c.args.pipe, c.args.message.now) in
    let up : m.shdlc.phase ≡ Up = sym h.halfway.link.kept.phase ∙ (sym c.state.ensures.value ∙ c.in-Up.is) in
    rw (refusal_stays m x (TooLong (length x.1)) (refused_long m x up c.if-message.true)) h

pub returns-in-Ok-clause-stands : goal.returns-in-Ok-clause-stands
returns-in-Ok-clause-stands c m h =
    let x : Message = (c.args.pipe, c.args.message.now) in
    let up : m.shdlc.phase ≡ Up = sym h.halfway.link.kept.phase ∙ (sym c.state.ensures.value ∙ c.in-Up.is) in
    rw (gives m x (refused_none m x up c.if-message.false (rw (spare_is c.args.pool.now c.args.self.now m h) (c.in-Ok.ensures.room.0 refl))))
    (c.offer_more.ensures.stands _
    (message_given
    (record { before = h; up = sym c.state.ensures.value ∙ c.in-Up.is; sendable = c.requires.sendable; accepts = c.in-Ok.ensures.ok })
    c.in-Ok.ensures.elsewhere).0)

pub returns-in-Ok-clause-answer : goal.returns-in-Ok-clause-answer
returns-in-Ok-clause-answer c m h =
    let x : Message = (c.args.pipe, c.args.message.now) in
    let fits : blocks_for (length x.1) ≤ spare m = rw (spare_is c.args.pool.now c.args.self.now m h) (c.in-Ok.ensures.room.0 refl) in
    sym (ap by_refusal_told (refused_none m x (sym h.halfway.link.kept.phase ∙ (sym c.state.ensures.value ∙ c.in-Up.is)) c.if-message.false fits))

pub returns-in-Ok-clause-elsewhere : goal.returns-in-Ok-clause-elsewhere
returns-in-Ok-clause-elsewhere c =
    let given = message_given {x = (c.args.pipe, c.args.message.now)}
    (record { before = c.requires.stands.1; up = sym c.state.ensures.value ∙ c.in-Up.is; sendable = c.requires.sendable; accepts = c.in-Ok.ensures.ok })
    c.in-Ok.ensures.elsewhere in
    let boxes = c.offer_more.ensures.boxes in
    rw c.offer_more.ensures.pool (leaves_same c.offer_more.new.self.outbox c.offer_more.new.self.inbox given.1 boxes.1 boxes.0 boxes.2)

pub returns-in-Err-clause-stands : goal.returns-in-Err-clause-stands
returns-in-Err-clause-stands c m h =
    let x : Message = (c.args.pipe, c.args.message.now) in
    let k = c.args.self.now in
    let full = refused_full m x (sym h.halfway.link.kept.phase ∙ (sym c.state.ensures.value ∙ c.in-Up.is)) c.if-message.false
    (λ fits. (let n = c.in-Err.ensures.room.1 (subst (λ n. blocks_for (length x.1) ≤ n) (spare_is c.args.pool.now k m h) fits) in cc)) in
    rw (refusal_stays m x (Full (blocks_for (length x.1)) (spare m)) full, c.in-Err.ensures.err.1, c.in-Err.ensures.err.0) h

pub returns-in-Err-clause-answer : goal.returns-in-Err-clause-answer
returns-in-Err-clause-answer c m h =
    let x : Message = (c.args.pipe, c.args.message.now) in
    let spares = spare_is c.args.pool.now c.args.self.now m h in
    let full = refused_full m x (sym h.halfway.link.kept.phase ∙ (sym c.state.ensures.value ∙ c.in-Up.is)) c.if-message.false
    (λ fits. (let n = c.in-Err.ensures.room.1 (subst (λ n. blocks_for (length x.1) ≤ n) spares fits) in cc)) in
    ap (λ (n : ℕ). Err (SendFull n c.in-Err.field-0.spare)) c.in-Err.ensures.no_room.0
    ∙ (ap (λ (n : ℕ). Err (SendFull (blocks_for (length x.1)) n)) (c.in-Err.ensures.no_room.1 ∙ sym spares) ∙ sym (ap by_refusal_told full))
