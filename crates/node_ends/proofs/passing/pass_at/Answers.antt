use Rattle.node_ends.proofs.Words.{Chain, End, EndStandsFor, Gives, IsLive, IsSendable, KeepsOthers, MayPass, Message, PoolState, Seat, ap, arith, chain_bytes}
use Rattle.node_ends.proofs.Words.{false, give_refusal, inl, inr, is_none, length-set, slice_index_or, subst, sym, takes_at, true, without_got, ◌∙◌, ◌≡◌}
use Rattle.node_ends.proofs.Changing.{within}
use Rattle.node_ends.proofs.Relaying.{first_read, first_holds, one_waits, message_is, may_be_sent, second, then_side, may_pass, handed}
use Rattle.node_ends.proofs.Relaying.{none_there_is, takes_still, told_passed, told_back}
use Rattle.node_ends.proofs.passing.pass_at.Goals as goal

pub offset_bounds-seats-i : goal.offset_bounds-seats-i
offset_bounds-seats-i c = let w = within c.args.from c.args.i c.requires.place c.requires.waits.2 in omega (arith, w.1)

pub bounds-seats-i : goal.bounds-seats-i
bounds-seats-i c = (within c.args.from c.args.i c.requires.place c.requires.waits.2).0

pub returns-in_default-clause-stands : goal.returns-in_default-clause-stands
returns-in_default-clause-stands c ports m e got =
    absurd (one_waits c.args.from c.args.i c.requires.place e got c.index-seats-i.result
    (sym c.take.ensures.value ∙ none_there_is c.take.result c.in_default.not-Some))

pub returns-in_default-clause-answer : goal.returns-in_default-clause-answer
returns-in_default-clause-answer c ports m e got =
    absurd (one_waits c.args.from c.args.i c.requires.place e got c.index-seats-i.result
    (sym c.take.ensures.value ∙ none_there_is c.take.result c.in_default.not-Some))

pub offset_bounds-seats-j : goal.offset_bounds-seats-j
offset_bounds-seats-j c = let w = within c.args.to c.args.j c.requires.other c.requires.waits.2 in omega (arith, w.1)

pub bounds-seats-j : goal.bounds-seats-j
bounds-seats-j c =
    let seats = c.args.seats.now in
    let l = length-set {A = Seat} seats c.args.i (record (slice_index_or seats c.args.i c.index-seats-i.result) { waiting = c.take.new.self }) in
    omega (arith, (within c.args.to c.args.j c.requires.other c.requires.waits.2).0, l)

pub send_chain-requires-clause-stands : goal.send_chain-requires-clause-stands
send_chain-requires-clause-stands c =
    let r = c.requires.waits in
    let d = c.index-seats-i.result in
    let t : Seat = record (slice_index_or c.args.seats.now c.args.i d) { waiting = c.take.new.self } in
    let s = second c.args.from c.args.i c.requires.place r.2 r.3 c.args.to c.args.j c.requires.other in
    let read = first_read c.args.from c.args.i c.requires.place r.2 r.3 d in
    let side = then_side c.args.from c.args.i c.requires.place r.2 r.3 c.args.to c.args.j c.requires.other t c.index-seats-j.result
    (ap (λ (x : Seat). x.side) read) in
    let P : End → Type 0 = λ l. EndStandsFor l c.args.pool.now (without_got s.port.side) in
    (without_got s.port.side, subst P (sym side) s.stands.holds.stands)

pub send_chain-requires-clause-chain : goal.send_chain-requires-clause-chain
send_chain-requires-clause-chain c =
    let r = c.requires.waits in
    let d = c.index-seats-i.result in
    let w = c.in-Some.field-0 in
    let t : Seat = record (slice_index_or c.args.seats.now c.args.i d) { waiting = c.take.new.self } in
    let read = first_read c.args.from c.args.i c.requires.place r.2 r.3 d in
    let side = then_side c.args.from c.args.i c.requires.place r.2 r.3 c.args.to c.args.j c.requires.other t c.index-seats-j.result
    (ap (λ (x : Seat). x.side) read) in
    let P : End → Type 0 = λ l. MayPass c.args.pool.now l w.chain in
    subst P (sym side) (may_pass c.args.from c.args.i c.requires.place r.2 r.3 c.args.to c.args.j c.requires.other d w
    (sym c.take.ensures.value ∙ c.in-Some.is))

pub send_chain-requires-clause-sendable : goal.send_chain-requires-clause-sendable
send_chain-requires-clause-sendable c =
    let r = c.requires.waits in
    let d = c.index-seats-i.result in
    let w = c.in-Some.field-0 in
    let P : Message → Type 0 = λ x. IsSendable x in
    subst P (sym (message_is c.args.from c.args.i c.requires.place r.2 r.3 d w (sym c.take.ensures.value ∙ c.in-Some.is)))
    (may_be_sent c.args.from c.args.i c.requires.place r.2 r.3)

pub give-requires : goal.give-requires
give-requires c =
    let r = c.requires.waits in
    let w = c.in-Some.field-0 in
    let h = first_holds c.args.from c.args.i c.requires.place r.2 r.3 c.index-seats-i.result w (sym c.take.ensures.value ∙ c.in-Some.is) in
    let P : PoolState → Type 0 = λ p. IsLive p w.chain in
    let Q : Chain → Type 0 = λ x. IsLive c.send_chain.new.pool x in
    subst Q (sym c.in-Err.ensures.back) (subst P (sym c.in-Err.ensures.refused.0) h.accounts.fetched.live)

pub returns-in-Ok-clause-stands : goal.returns-in-Ok-clause-stands
returns-in-Ok-clause-stands c ports m e got =
    let s = c.send_chain in
    handed c.args.from c.args.i c.args.to c.args.j c.requires.place c.requires.other e got c.index-seats-i.result c.index-seats-j.result c.take.new.self
    c.in-Some.field-0 s.new.self (sym c.take.ensures.value ∙ c.in-Some.is) c.take.ensures.after
    (inl (record { stands = s.ensures.stands; leaves = c.in-Ok.ensures.elsewhere; inbox = s.ensures.inbox; owner = s.ensures.owner }))

pub returns-in-Ok-clause-answer : goal.returns-in-Ok-clause-answer
returns-in-Ok-clause-answer c ports m e got =
    let d = c.index-seats-i.result in
    let w = c.in-Some.field-0 in
    let t : Seat = record (slice_index_or c.args.seats.now c.args.i d) { waiting = c.take.new.self } in
    let s = second c.args.from c.args.i c.requires.place e got c.args.to c.args.j c.requires.other in
    let side = then_side c.args.from c.args.i c.requires.place e got c.args.to c.args.j c.requires.other t c.index-seats-j.result
    (ap (λ (x : Seat). x.side) (first_read c.args.from c.args.i c.requires.place e got d)) in
    let P : End → Type 0 = λ l. EndStandsFor l c.args.pool.now (without_got s.port.side) in
    let Q : Message → Type 0 = λ x. true ≡ is_none (give_refusal s.port.side x) in
    let took = told_passed (without_got s.port.side) (w.pipe, chain_bytes c.args.pool.now w.chain) w.chain c.in-Ok.is
    (c.send_chain.ensures.answer (without_got s.port.side) (subst P (sym side) s.stands.holds.stands)) in
    subst Q (message_is c.args.from c.args.i c.requires.place e got d w (sym c.take.ensures.value ∙ c.in-Some.is)) took
    ∙ (ap (takes_at m) (sym s.port_is) ∙ takes_still m c.args.from c.args.to ports)

pub returns-in-Err-clause-stands : goal.returns-in-Err-clause-stands
returns-in-Err-clause-stands c ports m e got =
    let s = c.send_chain in
    let w = c.in-Some.field-0 in
    let refused = c.in-Err.ensures.refused in
    let Q : PoolState → Type 0 = λ p. Gives p c.give.new.self w.chain in
    let S : PoolState → Type 0 = λ p. KeepsOthers p c.give.new.self w.chain w.chain in
    handed c.args.from c.args.i c.args.to c.args.j c.requires.place c.requires.other e got c.index-seats-i.result c.index-seats-j.result c.take.new.self
    w s.new.self (sym c.take.ensures.value ∙ c.in-Some.is) c.take.ensures.after
    (inr (record {
      refused = λ n g. told_back n (w.pipe, chain_bytes c.args.pool.now w.chain) w.chain c.in-Err.is (s.ensures.answer n g);
      same = refused.1;
      gives = subst Q refused.0 (subst (λ x. Gives s.new.pool c.give.new.self x) c.in-Err.ensures.back c.give.ensures.given);
      keeps = subst S refused.0 (subst (λ x. KeepsOthers s.new.pool c.give.new.self x x) c.in-Err.ensures.back c.give.ensures.others);
    }))

pub returns-in-Err-clause-answer : goal.returns-in-Err-clause-answer
returns-in-Err-clause-answer c ports m e got =
    let d = c.index-seats-i.result in
    let w = c.in-Some.field-0 in
    let t : Seat = record (slice_index_or c.args.seats.now c.args.i d) { waiting = c.take.new.self } in
    let s = second c.args.from c.args.i c.requires.place e got c.args.to c.args.j c.requires.other in
    let side = then_side c.args.from c.args.i c.requires.place e got c.args.to c.args.j c.requires.other t c.index-seats-j.result
    (ap (λ (x : Seat). x.side) (first_read c.args.from c.args.i c.requires.place e got d)) in
    let P : End → Type 0 = λ l. EndStandsFor l c.args.pool.now (without_got s.port.side) in
    let Q : Message → Type 0 = λ x. false ≡ is_none (give_refusal s.port.side x) in
    let refused = told_back (without_got s.port.side) (w.pipe, chain_bytes c.args.pool.now w.chain) w.chain c.in-Err.is
    (c.send_chain.ensures.answer (without_got s.port.side) (subst P (sym side) s.stands.holds.stands)) in
    subst Q (message_is c.args.from c.args.i c.requires.place e got d w (sym c.take.ensures.value ∙ c.in-Some.is)) refused
    ∙ (ap (takes_at m) (sym s.port_is) ∙ takes_still m c.args.from c.args.to ports)
