-- What a host does by itself, and what is told where it doesn't.
use Rattle.std.specs.Prelude.{◌≡◌, ℕ, Bool, true, false, List, ◌++◌, map, Option, Some, None, Result, Ok, Err}
use Rattle.trace_model.specs.declared.entry.Entry.{Entry}
use Rattle.trace_model.specs.declared.entry.NoCause.{NoCause}
use Rattle.trace_model.specs.declared.entry.NoCause.TheVariants as no
use Rattle.link_end.specs.declared.report.SendRefused.{SendRefused}
use Rattle.link_end.specs.declared.report.SendRefused.TheVariants as at_end
use Rattle.node_machine.specs.Parts.{Work}
use Rattle.node_ends.specs.Holding.{kept_number}
use Rattle.node_core.specs.declared.node.Node.{Node}
use Rattle.node_core.specs.Noting.{unnumbered}
use Rattle.node_core.specs.Running.{RunsAs, HasNoneEnded}
use Rattle.node_core.specs.declared.giving.HostRefused.{HostRefused}
use Rattle.node_core.specs.declared.giving.HostRefused.TheVariants.{NotUp, Waiting, TooLong, Full}

-- as what a line of a schedule that is refused tells
abbrev pub refusal_noted : HostRefused → NoCause
refusal_noted NotUp = no.NotUp
refusal_noted Waiting = no.Waiting
refusal_noted (TooLong len) = no.TooLong
refusal_noted (Full need spare) = no.Full need spare

-- why a host doesn't send a message, as the end of its link tells
abbrev pub host_refused : SendRefused → HostRefused
host_refused at_end.NotUp = NotUp
host_refused (at_end.TooLong len) = TooLong len
host_refused (at_end.Full need spare) = Full need spare

-- a command on pipe 01 waits for its answer
abbrev pub ordered_if : Bool → List ℕ → Work → Work
ordered_if true message w = record w { core = record w.core { command = Some message } }
ordered_if false message w = w

-- why a call was refused, where it was
abbrev pub refused_as : Result (Unit {0}) HostRefused → Option NoCause
refused_as (Ok done) = None
refused_as (Err why) = Some (refusal_noted why)

-- a message that is too long has so many bytes; 4,294,967,295 stands for any greater number
abbrev pub TellsLength : ℕ → Option HostRefused → Type 0
TellsLength len (Some (TooLong told)) = told ≡ kept_number len
TellsLength len _ = Unit {0}

-- A node that is asked for something between its steps, also while its frames still go out.
pub record IsAsked {N : Type 0} (n : Node N) (noted : List Entry) (short : Bool) (start : List Entry) (w : Work) : Type 0 where
  pub runs : RunsAs n w.core w.ports
  pub none_ended : HasNoneEnded w.ports
  pub power : w.cut ≡ false
  pub noted_are : short ≡ false → noted ≡ start ++ map unnumbered w.entries
