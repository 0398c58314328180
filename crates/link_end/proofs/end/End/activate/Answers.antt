use Rattle.link_end.proofs.«end».End.activate.Goals as goal

pub event-report-requires-clause-stands : goal.event-report-requires-clause-stands
event-report-requires-clause-stands c = (_, c.drop_session.ensures.stands c.requires.stands.0 c.requires.stands.1)

pub returns-clause-stands : goal.returns-clause-stands
returns-clause-stands c m h = c.event-report.ensures.stands _ (c.drop_session.ensures.stands m h)
