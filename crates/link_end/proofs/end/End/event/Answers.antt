use Rattle.link_end.proofs.Words.{EndStandsFor, Machine, PoolState, with_act}
use Rattle.link_end.proofs.EndLemmas.{act_made, stepped, event_stands, event_told}
use Rattle.link_end.proofs.«end».End.event.Goals as goal
use Rattle.link_end.proofs.«end».End.event.Goals.{After-nothing, in-Some, in_default}

pub put_down-ended-requires : goal.put_down-ended-requires
put_down-ended-requires c =
    let e = c.step-out.ensures in
    (_, stepped (record { before = c.requires.stands.1; role = e.role; answer = e.out }))

made : (c : After-nothing) (pool : PoolState) (m : Machine) → EndStandsFor c.put_down-ended.new.self pool m
    → EndStandsFor c.match-out.self pool (with_act c.step-out.result.send m)
made c pool m h =
    elim c.match-out.branch [
      | in-Some w ↦
          let behind = w.controls_due-behind in
          rw (w.self-is, w.in-Some.is)
          (act_made pool c.put_down-ended.new.self w.push.new.self w.in-Some.frame behind.result m w.push.ensures.items behind.ensures.value h)
      | in_default w ↦ rw (w.self-is, w.in_default.is) h
    ]

pub returns-clause-stands : goal.returns-clause-stands
returns-clause-stands c m h =
    let e = c.step-out.ensures in
    event_stands (record { before = h; role = e.role; answer = e.out }) c.put_down-ended.ensures.stands
    (made (goal.at.returns-clause-stands c).After-nothing)

pub returns-clause-answer : goal.returns-clause-answer
returns-clause-answer c m h =
    let e = c.step-out.ensures in
    event_told (record { before = h; role = e.role; answer = e.out }) c.put_down-ended.ensures.cause c.nothing.ensures
