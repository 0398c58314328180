-- A line that is read is one that may stand below the header.
use Rattle.std.proofs.lemmas.Option.{IfSome_then}
use Rattle.schedule_text.proofs.Names.{None, Ok, Some, line_of, rules, ◌≡◌}
use Rattle.trace_model.specs.declared.line.Line.TheVariants as line
use Rattle.schedule_text.specs.declared.read.Read.TheVariants as read
use Rattle.schedule_text.proofs.LinesLemmas.{line_fits}
use Rattle.schedule_text.proofs.at_once.read_at_once.Goals as goal

pub returns-in-Some-end_at_once-clause-follows : goal.returns-in-Some-end_at_once-clause-follows
returns-in-Some-end_at_once-clause-follows c =
    let said = line.Deliver c.in-Some-end_at_once.at None in
    let is : line_of (Some c.args.header.now) c.args.bytes.now ≡ Ok (read.Line said) = search rules in
    line_fits (Some c.args.header.now) c.args.bytes.now (read.Line said) is

pub returns-in-Some-behind_send-clause-follows : goal.returns-in-Some-behind_send-clause-follows
returns-in-Some-behind_send-clause-follows c =
    IfSome_then c.send_at_once.new.line (search rules) (λ said h. line_fits (Some c.args.header.now) c.args.bytes.now (read.Line said) h)

pub returns-clause-follows : goal.returns-clause-follows
returns-clause-follows c =
    IfSome_then c.other_at_once.new.line (search rules) (λ said h. line_fits (Some c.args.header.now) c.args.bytes.now (read.Line said) h)
