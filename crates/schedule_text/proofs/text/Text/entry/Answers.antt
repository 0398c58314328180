use Rattle.std.proofs.Common.{[]}
use Rattle.schedule_text.proofs.text.Text.entry.Goals as goal

pub returns : goal.returns
returns c = λ start h. c.parts.ensures start c.args.word.now [] (c.push.ensures start [] h)
