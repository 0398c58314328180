-- What a node owes where sessions ended, end by end.
use Rattle.std.specs.Prelude.{ℕ, Bool, if◌then◌else◌, List, [], ◌∷◌}
use Rattle.std.specs.Option.{option_map_or}
use Rattle.node_machine.specs.Parts.{Creation, Port, Deed}
use Rattle.node_machine.specs.Parts.Deed.{Releases, Sends}
use Rattle.node_machine.specs.Controller.{asked_at}
use Rattle.node_machine.specs.Node.{is_over_at, owed}
use Rattle.gate_answers.specs.declared.response.Response.{Response}
use Rattle.gate_answers.specs.Answers.{answer_of}

-- the block of this creation's asker is free, where the asker has lost its session
abbrev pub freed_for : List Port → Creation → List Deed
freed_for ports c = if is_over_at ports c.asker then Releases c.asker ∷ [] else []

-- that of the creation that waits at this end
abbrev pub freed_at : List Port → Port → List Deed
freed_at ports p = option_map_or (freed_for ports) (asked_at p) []

-- this answer is owed to an asker, whose block is free then
abbrev pub answers_owed : Response → ℕ → List Deed
answers_owed r asker = Releases asker ∷ Sends asker (1, answer_of r []) ∷ []

-- the session of an end ended in this step, as its notice was late or otherwise
abbrev pub has_ended_so : Bool → Port → Bool
has_ended_so late p = if late then p.late else p.ended

-- what is owed to the asker of the creation that waits at an end
abbrev pub owed_at : Bool → Response → Port → List Deed
owed_at late r p = if has_ended_so late p then owed r (asked_at p) else []
