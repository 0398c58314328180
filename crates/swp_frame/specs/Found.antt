-- What a bit gave, where the payload of a frame that ended stays where it lies.
use Rattle.std.specs.Prelude.{ℕ, ◌<◌, ◌≤◌, List, take}
use Rattle.swp_frame.specs.declared.fed.Fed.{Fed}
use Rattle.swp_frame.specs.declared.fed.Fed.TheVariants.{Nothing, Frame, Refused}
use Rattle.swp_frame.specs.declared.fed.Found.{Found}
use Rattle.swp_frame.specs.declared.fed.Found.TheVariants as found

-- what it gave, where a frame lies at the beginning of these bytes
abbrev pub fed_lying_in : List ℕ → Found → Fed
fed_lying_in bytes found.Nothing = Nothing
fed_lying_in bytes (found.Frame len) = Frame (take len bytes)
fed_lying_in bytes (found.Refused fault) = Refused fault

-- a frame that ended has a payload of 1 to 30 bytes
abbrev pub HasPayload : Found → Type 0
HasPayload found.Nothing = Unit {0}
HasPayload (found.Frame len) = (0 < len) × (len ≤ 30)
HasPayload (found.Refused fault) = Unit {0}
