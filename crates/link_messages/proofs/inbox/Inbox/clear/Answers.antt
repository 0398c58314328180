use Rattle.std.proofs.Common.{refl}
use Rattle.link_messages.proofs.IncomingLemmas.{Cleared, front_holds, cleared}
use Rattle.link_messages.proofs.inbox.Inbox.clear.Goals as goal
use Rattle.link_messages.proofs.inbox.Inbox.clear.Goals.{After-clear}

pub clear-requires-clause-holds : goal.clear-requires-clause-holds
clear-requires-clause-holds c = let box = c.args.self.now in front_holds c.args.pool.now box.joiner.owner box.joiner.open.items box.got c.requires.holds

clears : (c : After-clear) → Cleared c.args.pool.now c.clear.new.pool c.args.self.now (record c.args.self.now { joiner = c.clear.new.self })
clears c = let e = c.clear.ensures in cleared _ _ _ _ c.requires e.owner e.«open» refl e.used e.others

pub returns-clause-lies : goal.returns-clause-lies
returns-clause-lies c = (clears (goal.at.returns-clause-lies c).After-clear).lies

pub returns-clause-message : goal.returns-clause-message
returns-clause-message c = (clears (goal.at.returns-clause-message c).After-clear).message

pub returns-clause-elsewhere : goal.returns-clause-elsewhere
returns-clause-elsewhere c = (clears (goal.at.returns-clause-elsewhere c).After-clear).elsewhere

pub returns-clause-counted : goal.returns-clause-counted
returns-clause-counted c = (clears (goal.at.returns-clause-counted c).After-clear).counted
