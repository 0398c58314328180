use Rattle.std.proofs.Common.{[]}
use Rattle.schedule_text.proofs.write.write_node.Goals as goal

pub returns : goal.returns
returns c = λ start h. c.byte.ensures start c.args.word.now [] (c.push.ensures start [] h)
