-- Of which node an entry tells, and that a cut ends its node's part of an event.
use Rattle.std.specs.Prelude.{◌≡◌, ℕ, ◌==◌, Bool, false, List, ◌∷◌, ◌++◌, Option, Some, None}
use Rattle.std.specs.List.{AllByRecursion}
use Rattle.std.specs.Option.{option_map_or}
use Rattle.trace_model.specs.declared.entry.Entry.{Entry}
use Rattle.trace_model.specs.declared.entry.Entry.TheVariants as entry
use Rattle.node_machine.specs.world.World.{node_of}
use Rattle.node_machine.specs.world.Lines.{Occurrence}
use Rattle.node_machine.specs.world.NodeHistories.{NodeHistory, occurrences_in}

-- The node of which an entry tells: of its commands, answers and power, of a host that it asks, or of one of its ends. A frame that is lost
-- is the link's.
abbrev pub node_told : Entry → Option ℕ
node_told (entry.Command n command) = Some n
node_told (entry.AnyOk n count) = Some n
node_told (entry.Booted n count) = Some n
node_told (entry.Cut n) = Some n
node_told (entry.Ask host message) = Some 0
node_told (entry.Up e n) = Some (node_of e)
node_told (entry.Down e cause) = Some (node_of e)
node_told (entry.Active e) = Some (node_of e)
node_told (entry.GaveUp e tries) = Some (node_of e)
node_told (entry.Sent e n pid message) = Some (node_of e)
node_told (entry.Got e n pid message) = Some (node_of e)
node_told (entry.Acked e n count) = Some (node_of e)
node_told (entry.Emit e lpdu) = Some (node_of e)
node_told (entry.Took e lpdu) = Some (node_of e)
node_told (entry.Turn e pid message) = Some (node_of e)
node_told (entry.Held e need spare) = Some (node_of e)
node_told (entry.Dropped e pid) = Some (node_of e)
node_told (entry.InitSame e) = Some (node_of e)
node_told (entry.InitMade e count) = Some (node_of e)
node_told (entry.InitFailed e code) = Some (node_of e)
node_told _ = None

-- an entry tells of this node
abbrev pub is_of_node : ℕ → Entry → Bool
is_of_node n x = option_map_or (λ k. k == n) (node_told x) false

-- none of these does
abbrev pub AreNotOf : ℕ → List Entry → Type 0
AreNotOf n es = AllByRecursion (λ x. is_of_node n x ≡ false) es

-- A cut ends its node's part of an event: behind it no entry of the event tells of that node.
abbrev pub CutsEndParts : NodeHistory → Type 0
CutsEndParts t =
    (past later : List Occurrence) (o : Occurrence) (before behind : List Entry) (n : ℕ)
    → occurrences_in t ≡ past ++ (o ∷ later) → o.entries ≡ before ++ (entry.Cut n ∷ behind) → AreNotOf n behind
