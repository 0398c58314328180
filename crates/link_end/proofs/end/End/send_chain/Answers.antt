use Rattle.link_end.proofs.Words.{Err, Full, Message, SendFull, TooLong, Up, ap, arith, blocks_for, chain_bytes, length, refl, spare, subst, sym, ℕ, ◌∙◌, ◌≡◌}
use Rattle.link_end.proofs.Words.{◌≤◌}
use Rattle.block_pool.specs.declared.chain.Chain.{Chain as Blocks}
use Rattle.link_end.specs.Reports.{pass_by}
use Rattle.link_end.proofs.NodeLemmas.{spare_is, refused_long, refused_full, refused_none, refusal_stays, gives, message_passed}
use Rattle.link_end.proofs.«end».End.send_chain.Goals as goal

pub returns-then-len-gt-MAX_MESSAGE-clause-stands : goal.returns-then-len-gt-MAX_MESSAGE-clause-stands
returns-then-len-gt-MAX_MESSAGE-clause-stands c m h =
    let x : Message = (c.args.pipe, chain_bytes c.args.pool.now c.args.chain) in
    let up : m.shdlc.phase ≡ Up = sym h.halfway.link.kept.phase ∙ (sym c.state.ensures.value ∙ c.in-Up.is) in
    rw (refusal_stays m x (TooLong (length x.1)) (refused_long m x up (let l = c.len-len.ensures in omega (arith, l, c.if-len-gt-MAX_MESSAGE.true)))) h

pub returns-in-Ok-clause-stands : goal.returns-in-Ok-clause-stands
returns-in-Ok-clause-stands c m h =
    let x : Message = (c.args.pipe, chain_bytes c.args.pool.now c.args.chain) in
    let up : m.shdlc.phase ≡ Up = sym h.halfway.link.kept.phase ∙ (sym c.state.ensures.value ∙ c.in-Up.is) in
    let fits : blocks_for (length x.1) ≤ spare m = rw (spare_is c.args.pool.now c.args.self.now m h) (c.in-Ok.ensures.room.0 refl) in
    rw (gives m x (refused_none m x up (let l = c.len-len.ensures in omega (arith, l, c.if-len-gt-MAX_MESSAGE.false)) fits))
    (c.offer_more.ensures.stands _
    (message_passed
    (record { before = h; up = sym c.state.ensures.value ∙ c.in-Up.is; sendable = c.requires.sendable; accepts = c.in-Ok.ensures.ok }) c.requires.chain
    c.in-Ok.ensures.elsewhere))

pub returns-in-Ok-clause-answer : goal.returns-in-Ok-clause-answer
returns-in-Ok-clause-answer c m h =
    let x : Message = (c.args.pipe, chain_bytes c.args.pool.now c.args.chain) in
    let up : m.shdlc.phase ≡ Up = sym h.halfway.link.kept.phase ∙ (sym c.state.ensures.value ∙ c.in-Up.is) in
    let fits : blocks_for (length x.1) ≤ spare m = rw (spare_is c.args.pool.now c.args.self.now m h) (c.in-Ok.ensures.room.0 refl) in
    sym (ap (pass_by c.args.chain) (refused_none m x up (let l = c.len-len.ensures in omega (arith, l, c.if-len-gt-MAX_MESSAGE.false)) fits))

pub returns-in-Err-clause-stands : goal.returns-in-Err-clause-stands
returns-in-Err-clause-stands c m h =
    let x : Message = (c.args.pipe, chain_bytes c.args.pool.now c.args.chain) in
    let k = c.args.self.now in
    let up : m.shdlc.phase ≡ Up = sym h.halfway.link.kept.phase ∙ (sym c.state.ensures.value ∙ c.in-Up.is) in
    let full = refused_full m x up (let l = c.len-len.ensures in omega (arith, l, c.if-len-gt-MAX_MESSAGE.false))
    (λ fits. (let n = c.in-Err.ensures.room.1 (subst (λ n. blocks_for (length x.1) ≤ n) (spare_is c.args.pool.now k m h) fits) in cc)) in
    rw (refusal_stays m x (Full (blocks_for (length x.1)) (spare m)) full, c.in-Err.ensures.err.1, c.in-Err.ensures.err.0) h

pub returns-in-Err-clause-answer : goal.returns-in-Err-clause-answer
returns-in-Err-clause-answer c m h =
    let x : Message = (c.args.pipe, chain_bytes c.args.pool.now c.args.chain) in
    let up : m.shdlc.phase ≡ Up = sym h.halfway.link.kept.phase ∙ (sym c.state.ensures.value ∙ c.in-Up.is) in
    let spares = spare_is c.args.pool.now c.args.self.now m h in
    let full = refused_full m x up (let l = c.len-len.ensures in omega (arith, l, c.if-len-gt-MAX_MESSAGE.false))
    (λ fits. (let n = c.in-Err.ensures.room.1 (subst (λ n. blocks_for (length x.1) ≤ n) spares fits) in cc)) in
    let r = c.in-Err.ensures.no_room in
    ap (λ (q : Blocks). Err (q, SendFull c.in-Err.field-0-1.need c.in-Err.field-0-1.spare)) r.0
    ∙ (ap (λ (n : ℕ). Err (c.args.chain, SendFull n c.in-Err.field-0-1.spare)) r.1
    ∙ (ap (λ (n : ℕ). Err (c.args.chain, SendFull (blocks_for (length x.1)) n)) (r.2 ∙ sym spares) ∙ sym (ap (pass_by c.args.chain) full)))
