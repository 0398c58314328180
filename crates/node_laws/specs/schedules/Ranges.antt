-- What the lines of a schedule of a world of nodes may say, apart from their text.
use Rattle.std.specs.Prelude.{ℕ, ◌+◌, List, [], ◌∷◌}
use Rattle.std.specs.List.{AllByRecursion}
use Rattle.trace_model.specs.declared.line.Header.{Header}
use Rattle.trace_model.specs.declared.line.Line.{Line}
use Rattle.trace_model.specs.declared.line.Line.TheVariants as line
use Rattle.trace_model.specs.Lines.{IsNodeOf, IsActivateLine, IsArmLine, IsInitLine, IsLineOf}

-- A line that may stand below this header: the forms of links have the ranges that they have everywhere, and the forms of nodes
-- these.
abbrev pub IsNodeLineOf : Header → Line → Type 0
IsNodeLineOf header (line.Boot node) = IsNodeOf header.hosts.items node
IsNodeLineOf header (line.Cut node) = IsNodeOf header.hosts.items node
IsNodeLineOf header (line.Activate host sync power) = IsActivateLine header host sync power
IsNodeLineOf header (line.Arm node nth fill) = IsArmLine header node nth fill.items
IsNodeLineOf header (line.Init e identity pipes) = IsInitLine header e identity pipes.items
IsNodeLineOf header (line.Tables node) = IsNodeOf header.hosts.items node
IsNodeLineOf header said = IsLineOf header said

abbrev pub AreNodeLinesOf : Header → List Line → Type 0
AreNodeLinesOf header lines = AllByRecursion (IsNodeLineOf header) lines

-- A line asks for something, unless by it only frames are taken or time passes.
abbrev pub asking : Line → ℕ
asking (line.Deliver e count) = 0
asking (line.Tick times) = 0
asking _ = 1

-- how many lines do
abbrev pub lines_asking : List Line → ℕ
lines_asking [] = 0
lines_asking (said ∷ lines) = asking said + lines_asking lines
