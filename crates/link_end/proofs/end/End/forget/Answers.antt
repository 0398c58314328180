use Rattle.std.proofs.Common.{[]}
use Rattle.link_end.proofs.BoxLemmas.{inbox_kept}
use Rattle.link_end.proofs.EndLemmas.{forgotten}
use Rattle.link_end.proofs.«end».End.forget.Goals as goal

pub clear-requires-2 : goal.clear-requires-2
clear-requires-2 c =
    let old = c.args.self.now in
    (inbox_kept c.args.pool.now c.clear.new.pool old.outbox.owner old.outbox.queue.items [] old.inbox c.requires.outbox.kept.own c.clear.ensures.elsewhere
    c.requires.inbox c.requires.differ).lies

pub returns : goal.returns
returns c =
    let out = c.clear.ensures in
    let come = c.clear-2.ensures in
    forgotten c.requires.outbox c.requires.inbox c.requires.differ
    (record { lies = out.lies; empty = out.empty; places = out.places; owner = out.owner; elsewhere = out.elsewhere })
    (record {
      lies = come.lies;
      empty = come.«open»;
      got = come.got;
      owner = come.owner;
      message = come.message;
      counted = come.counted;
      elsewhere = come.elsewhere;
    }) c.bring_to_front.ensures
