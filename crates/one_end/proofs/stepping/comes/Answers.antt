-- What comes is a step, or a frame that is refused.
use Rattle.one_end.proofs.Words.{StartComes, StopComes, Stored, TickComes, [], ap, form_named, ◌∷◌}
use Rattle.one_end.proofs.Alone.{tick_taken, start_taken, stop_taken, answers_refused}
use Rattle.one_end.proofs.stepping.comes.Goals as goal

pub returns-in-Frame-clause-done : goal.returns-in-Frame-clause-done
returns-in-Frame-clause-done g c l a = rw c.in-Frame.is (c.take.ensures.done l a)

pub returns-in-Frame-clause-asks : goal.returns-in-Frame-clause-asks
returns-in-Frame-clause-asks g c l a = rw c.in-Frame.is (c.take.ensures.asks l a)

pub step-requires-clause-may : goal.step-requires-clause-may
step-requires-clause-may g c = let m = c.requires.may in (m.0, TickComes, tick_taken m.1)

pub returns-in-Tick-clause-done : goal.returns-in-Tick-clause-done
returns-in-Tick-clause-done g c l a = rw c.in-Tick.is (c.step.ensures.done l TickComes (tick_taken a))

pub returns-in-Tick-clause-asks : goal.returns-in-Tick-clause-asks
returns-in-Tick-clause-asks g c l a = rw c.in-Tick.is (c.step.ensures.asks l TickComes (tick_taken a))

pub step-requires-in-Start-clause-may : goal.step-requires-in-Start-clause-may
step-requires-in-Start-clause-may g c = let m = c.requires.may in (m.0, StartComes 1, start_taken m.1)

pub returns-in-Start-clause-done : goal.returns-in-Start-clause-done
returns-in-Start-clause-done g c l a = rw c.in-Start.is (c.step-in-Start.ensures.done l (StartComes 1) (start_taken a))

pub returns-in-Start-clause-asks : goal.returns-in-Start-clause-asks
returns-in-Start-clause-asks g c l a = rw c.in-Start.is (c.step-in-Start.ensures.asks l (StartComes 1) (start_taken a))

pub step-requires-in-Stop-clause-may : goal.step-requires-in-Stop-clause-may
step-requires-in-Stop-clause-may g c = let m = c.requires.may in (m.0, StopComes, stop_taken m.1)

pub returns-in-Stop-clause-done : goal.returns-in-Stop-clause-done
returns-in-Stop-clause-done g c l a = rw c.in-Stop.is (c.step-in-Stop.ensures.done l StopComes (stop_taken a))

pub returns-in-Stop-clause-asks : goal.returns-in-Stop-clause-asks
returns-in-Stop-clause-asks g c l a = rw c.in-Stop.is (c.step-in-Stop.ensures.asks l StopComes (stop_taken a))

pub returns-in-Refused-clause-done : goal.returns-in-Refused-clause-done
returns-in-Refused-clause-done g c l a =
    rw c.in-Refused.is (answers_refused g.N.Nv.writes (form_named c.args.form) l c.in-Refused.field-0 c.args.out.now.items a
    (c.refused.ensures.runs a.core (a.port ∷ []) a.runs) (ap (λ (x : Stored g.row.N.Denot). x.journal.nv) c.refused.ensures.store))
