use Rattle.world.proofs.Nodes.{gives}
use Rattle.world.proofs.node.Node.give.Goals as goal

pub returns-in-Ok-clause-stands : goal.returns-in-Ok-clause-stands
returns-in-Ok-clause-stands c m h =
    gives (c.args.pid, c.args.message.now) h
    (record { stands = c.send.ensures.stands m h.has.stands; elsewhere = c.send.ensures.elsewhere }) c.requires.sendable

pub returns-in-Err-NotUp-clause-stands : goal.returns-in-Err-NotUp-clause-stands
returns-in-Err-NotUp-clause-stands c m h =
    gives (c.args.pid, c.args.message.now) h
    (record { stands = c.send.ensures.stands m h.has.stands; elsewhere = c.send.ensures.elsewhere }) c.requires.sendable

pub returns-in-Err-TooLong-clause-stands : goal.returns-in-Err-TooLong-clause-stands
returns-in-Err-TooLong-clause-stands c m h =
    gives (c.args.pid, c.args.message.now) h
    (record { stands = c.send.ensures.stands m h.has.stands; elsewhere = c.send.ensures.elsewhere }) c.requires.sendable

pub returns-in-Err-Full-clause-stands : goal.returns-in-Err-Full-clause-stands
returns-in-Err-Full-clause-stands c m h =
    gives (c.args.pid, c.args.message.now) h
    (record { stands = c.send.ensures.stands m h.has.stands; elsewhere = c.send.ensures.elsewhere }) c.requires.sendable
