-- The rounds of the link of a bare world.
use Rattle.std.specs.Prelude.{ℕ, zero, suc, List, [], ◌∷◌, ◌++◌, None}
use Rattle.trace_model.specs.declared.line.Line.TheVariants as line
use Rattle.link_laws.specs.messages.Links.{Link}
use Rattle.link_laws.specs.entries.Entries.End.{Controller, Host}
use Rattle.history.specs.Histories.{Cause}
use Rattle.history.specs.Histories.Cause.{Ticked}
use Rattle.history.specs.Steps.{end_of, link_after_all}
use Rattle.history.specs.Follows.{causes_in}

-- A round: the controller's end takes all that stands on its wire, then the host's end all that stands on its wire then, and then
-- time passes once.
abbrev pub causes_of_round : ℕ → Link → List Cause
causes_of_round h l =
    let near : List Cause = causes_in l (line.Deliver (end_of h Controller) None) in
    let far : List Cause = causes_in (link_after_all l near) (line.Deliver (end_of h Host) None) in
    near ++ (far ++ Ticked ∷ [])

abbrev pub link_after_round : ℕ → Link → Link
link_after_round h l = link_after_all l (causes_of_round h l)

-- the causes of so many rounds, one after another
abbrev pub causes_of_rounds : ℕ → ℕ → Link → List Cause
causes_of_rounds zero h l = []
causes_of_rounds (suc r) h l = causes_of_round h l ++ causes_of_rounds r h (link_after_round h l)
