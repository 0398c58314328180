use Rattle.link_end.proofs.Words.{Bool, EndStandsFor, Fragment, IfSome, Inbox, IsInboxReady, LeavesBoxes, Machine, Option, PoolState, ap, is_some}
use Rattle.link_end.proofs.Words.{messages_under_way, refl, subst, sym, ◌∙◌, ◌≡◌}
use Rattle.link_end.proofs.HearLemmas.{HasTaken, IsBroken, over_stands, over_told, may_receive, is_of_frame, cut_enough, GoesOn, goes_on, BreaksOff}
use Rattle.link_end.proofs.HearLemmas.{breaks_off, fault_lies, broken_elsewhere, received_lies, some_brought}
use Rattle.link_end.proofs.BoxLemmas.{leaves_more, leaves_same}
use Rattle.link_end.proofs.EndLemmas.{IsRefilled, refilled_none}
use Rattle.link_end.proofs.«end».End.hear.Goals as goal
use Rattle.link_end.proofs.«end».End.hear.Goals.{After-take-taken, After-acknowledge-acked, After-has_message, In-Err, After-stop}
use Rattle.link_end.proofs.«end».End.hear.Goals.{then-not-has_all_cut, else-not-has_all_cut}

took : (c : After-take-taken) (m : Machine) → EndStandsFor c.args.self.now c.args.pool.now m
    → HasTaken c.args.self.now c.args.pool.now m c.args.control.now c.take-taken.new.self c.take-taken.result
took c m h = record { before = h; stands = c.take-taken.ensures.stands; answer = c.take-taken.ensures.answer }

pub returns-then-is_some-clause-stands : goal.returns-then-is_some-clause-stands
returns-then-is_some-clause-stands c m h =
    over_stands (took (goal.at.returns-then-is_some-clause-stands c).After-take-taken m h) (sym c.is_some.ensures ∙ c.if-is_some.true) c.forget.ensures

pub returns-then-is_some-clause-answer : goal.returns-then-is_some-clause-answer
returns-then-is_some-clause-answer c m h =
    over_told (took (goal.at.returns-then-is_some-clause-answer c).After-take-taken m h) (sym c.is_some.ensures ∙ c.if-is_some.true) c.nothing.ensures

pub receive-requires-clause-ready : goal.receive-requires-clause-ready
receive-requires-clause-ready c = may_receive (took (goal.at.receive-requires-clause-ready c).After-take-taken _ c.requires.stands.1) c.requires.ready

pub receive-requires-clause-brought : goal.receive-requires-clause-brought
receive-requires-clause-brought c = is_of_frame (took (goal.at.receive-requires-clause-brought c).After-take-taken _ c.requires.stands.1)

pub acknowledge-acked-requires-clause-lies : goal.acknowledge-acked-requires-clause-lies
acknowledge-acked-requires-clause-lies c = received_lies c.requires.stands.1 c.in-Ok.ensures.ok

pub acknowledge-acked-requires-clause-cut : goal.acknowledge-acked-requires-clause-cut
acknowledge-acked-requires-clause-cut c =
    cut_enough (took (goal.at.acknowledge-acked-requires-clause-cut c).After-take-taken _ c.requires.stands.1) (sym c.is_some.ensures ∙ c.if-is_some.false)

on : (c : After-acknowledge-acked) (m : Machine) → EndStandsFor c.args.self.now c.args.pool.now m
    → GoesOn c.args.pool.now c.acknowledge-acked.new.pool c.args.self.now m c.args.control.now c.take-taken.new.self c.take-taken.result
    c.receive.new.inbox c.acknowledge-acked.new.self c.acknowledge-acked.result
on c m h =
    let t = c.take-taken.ensures in
    let g = c.acknowledge-acked.ensures in
    goes_on (record { before = h; stands = t.stands; answer = t.answer }) (sym c.is_some.ensures ∙ c.if-is_some.false) (c.in-Ok.ensures.taken.0 refl)
    c.in-Ok.ensures.ok (record { gives = g.gives; all = g.all; rest = g.rest })

refilled : (c : After-has_message) → IsRefilled c.acknowledge-acked.new.pool c.if-not-has_all_cut.pool
    (record c.args.self.now { shdlc = c.take-taken.new.self; inbox = c.receive.new.inbox; outbox = c.acknowledge-acked.new.self }) c.if-not-has_all_cut.self
refilled c =
    elim c.if-not-has_all_cut.branch [
      | then-not-has_all_cut w ↦
          let e = w.offer_more.ensures in
          rw (w.self-is, w.pool-is) (record { stands = e.stands; queue = e.boxes.0; owner = e.boxes.1; inbox = e.boxes.2; pool = e.pool })
      | else-not-has_all_cut w ↦
          rw (w.self-is, w.pool-is)
          (refilled_none c.acknowledge-acked.new.pool _ (λ lies. (c.has_all_cut.ensures c.acknowledge-acked.new.pool lies).0 w.if-not-has_all_cut.false))
    ]

pub returns-after-not-has_all_cut-clause-stands : goal.returns-after-not-has_all_cut-clause-stands
returns-after-not-has_all_cut-clause-stands c m h =
    let at = goal.at.returns-after-not-has_all_cut-clause-stands c in
    (refilled at.After-has_message).stands _ (on at.After-acknowledge-acked m h).stands

pub returns-after-not-has_all_cut-clause-answer : goal.returns-after-not-has_all_cut-clause-answer
returns-after-not-has_all_cut-clause-answer c m h =
    let at = goal.at.returns-after-not-has_all_cut-clause-answer c in
    let got : c.has_message.result ≡ is_some c.receive.new.inbox.got =
    c.has_message.ensures ∙ ap (λ (i : Inbox). is_some i.got) (refilled at.After-has_message).inbox in
    ap (λ (b : Bool). record c.nothing-in-Ok.result { began = c.take-taken.result.began; acked = c.acknowledge-acked.result; got = b }) got
    ∙ (on at.After-acknowledge-acked m h).told c.nothing-in-Ok.result c.nothing-in-Ok.ensures c.requires.ready.fetched

pub returns-after-not-has_all_cut-clause-elsewhere : goal.returns-after-not-has_all_cut-clause-elsewhere
returns-after-not-has_all_cut-clause-elsewhere c =
    let at = goal.at.returns-after-not-has_all_cut-clause-elsewhere c in
    let r = refilled at.After-has_message in
    let now = c.if-not-has_all_cut.self in
    let P : PoolState → Type 0 = λ p. LeavesBoxes c.args.pool.now p c.args.self.now.outbox c.args.self.now.inbox now.outbox now.inbox in
    let elsewhere = (on at.After-acknowledge-acked c.requires.stands.0 c.requires.stands.1).elsewhere in
    subst P (sym r.pool) (leaves_same now.outbox now.inbox elsewhere r.owner r.queue r.inbox)

broken : (c : In-Err) → IsBroken c.args.pool.now c.receive.new.pool c.args.self.now.inbox c.receive.new.inbox
broken c = let e = c.in-Err.ensures.err in record { lies = e.0; owner = e.1; none = e.2; used = e.3; elsewhere = e.4 }

breaks : (c : After-stop) (m : Machine) → EndStandsFor c.args.self.now c.args.pool.now m
    → BreaksOff c.forget-in-Err.new.pool c.forget-in-Err.new.self m c.args.control.now c.stop.new.self
breaks c m h =
    breaks_off (record { before = h; stands = c.take-taken.ensures.stands; answer = c.take-taken.ensures.answer })
    (λ taken. (let n = c.in-Err.ensures.taken.1 taken in cc)) c.requires.ready.fetched
    (let e = c.in-Err.ensures.err in record { lies = e.0; owner = e.1; none = e.2; used = e.3; elsewhere = e.4 }) c.forget-in-Err.ensures c.stop.ensures.stands

pub forget-requires-in-Err-clause-outbox : goal.forget-requires-in-Err-clause-outbox
forget-requires-in-Err-clause-outbox c = (fault_lies c.requires.stands.1 (broken (goal.at.forget-requires-in-Err-clause-outbox c).In-Err)).lies

pub returns-in-Err-clause-stands : goal.returns-in-Err-clause-stands
returns-in-Err-clause-stands c m h = (breaks (goal.at.returns-in-Err-clause-stands c).After-stop m h).stands

pub returns-in-Err-clause-answer : goal.returns-in-Err-clause-answer
returns-in-Err-clause-answer c m h =
    (breaks (goal.at.returns-in-Err-clause-answer c).After-stop m h).told c.nothing-in-Err.result c.nothing-in-Err.ensures

pub returns-in-Err-clause-elsewhere : goal.returns-in-Err-clause-elsewhere
returns-in-Err-clause-elsewhere c =
    let at = goal.at.returns-in-Err-clause-elsewhere c in
    let k = c.args.self.now in
    let some = some_brought (messages_under_way c.args.pool.now k.inbox) c.take-taken.result.accepted
    (λ taken. (let n = c.in-Err.ensures.taken.1 taken in cc)) in
    let P : Option Fragment → Type 0 = λ o. IfSome o (λ _. IsInboxReady c.args.pool.now k.inbox) in
    leaves_more (broken_elsewhere k (subst P some.1 (may_receive (took at.After-take-taken _ c.requires.stands.1) c.requires.ready)) (broken at.In-Err))
    c.forget-in-Err.ensures.elsewhere
