-- What is told of a damaged frame.
use Rattle.std.specs.Prelude.{◌≡◌, ℕ, List, [], ◌∷◌, Option, Some, None, Result, Ok, Err}
use Rattle.swp_lpdu.specs.Controls.{lpdu_of}
use Rattle.trace_model.specs.declared.entry.LostCause.{LostCause}
use Rattle.link_laws.specs.sessions.Sessions.{OnWire}
use Rattle.link_laws.specs.messages.Links.{Loss}
use Rattle.history.specs.Damage.{Verdict, read_as}
use Rattle.history.specs.Damage.Verdict.{Same as ReadSame, LostFor, Undetected as ReadOther}
use Rattle.history.specs.Steps.{lost_as}
use Rattle.history.specs.Follows.{if_out_of_reach, first_verdict}
use Rattle.link_wires.specs.declared.damage.Verdict.{Verdict as Told}
use Rattle.link_wires.specs.declared.damage.Verdict.TheVariants as told
use Rattle.link_wires.specs.declared.finding.Damaged.{Damaged}
use Rattle.link_wires.specs.declared.finding.Damaged.TheVariants.{Refused, Same, Lost, Undetected}

-- a verdict as it is told
abbrev pub told_as : Verdict → Told
told_as ReadSame = told.Same
told_as (LostFor why) = told.Lost (lost_as why)
told_as (ReadOther read) = told.Undetected read

-- the verdict on a frame where this one was read in its place, or none for this cause
abbrev pub told_verdict : List ℕ → Result (List ℕ) LostCause → Told
told_verdict lpdu (Ok read) = told_as (read_as lpdu read)
told_verdict lpdu (Err why) = told.Lost why

-- the bytes of the first frame on a wire
abbrev pub first_lpdu : List OnWire → Option (List ℕ)
first_lpdu [] = None
first_lpdu (x ∷ xs) = Some (lpdu_of x.frame)

-- what a line that damages the first frame of a wire at these places finds there
abbrev pub Finds : List OnWire → List ℕ → Damaged → Type 0
Finds wire places (Refused why) = if_out_of_reach wire places ≡ Some why
Finds wire places Same = (if_out_of_reach wire places ≡ None) × (first_verdict wire places ≡ Some ReadSame)
Finds wire places (Lost cause) =
    (if_out_of_reach wire places ≡ None) × ((why : Loss) × (first_verdict wire places ≡ Some (LostFor why)) × (cause ≡ lost_as why))
Finds wire places (Undetected other) =
    (if_out_of_reach wire places ≡ None) × (first_verdict wire places ≡ Some (ReadOther other.read)) × (first_lpdu wire ≡ Some other.sent)
