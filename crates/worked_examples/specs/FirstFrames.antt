-- What the first frame on one direction of a line says.
use Rattle.std.specs.Prelude.{List, [], ◌∷◌, Option, None}
use Rattle.std.specs.Result.{result_ok}
use Rattle.swp_base.specs.declared.control_frames.Control.{Control}
use Rattle.swp_frame.specs.declared.fed.Fed.{Fed}
use Rattle.swp_frame.specs.declared.fed.Fed.TheVariants.{Nothing, Frame, Refused}
use Rattle.swp_lpdu.specs.Controls.{control_of}

-- of what is said at each place, what the first frame says; none where there is no frame, or it says nothing
abbrev pub first_said : List Fed → Option Control
first_said [] = None
first_said (Nothing ∷ later) = first_said later
first_said (Frame lpdu ∷ later) = result_ok (control_of lpdu)
first_said (Refused fault ∷ later) = first_said later
