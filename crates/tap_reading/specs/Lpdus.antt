-- What a passive tap reports over LPDUs, as they are on the wire. One that is outside the grammar is passed over.
use Rattle.std.specs.Prelude.{ℕ, Bool, List, [], ◌∷◌, ◌++◌, Ok, Err}
use Rattle.std.specs.declared.result.Result.{Result}
use Rattle.swp_base.specs.declared.control_frames.Control.{Control}
use Rattle.swp_lpdu.specs.declared.LpduFault.{LpduFault}
use Rattle.swp_lpdu.specs.Controls.{control_of}
use Rattle.tap_reading.specs.Tap.{TapReport, tapped}

-- the frame that the LPDU of a side is
abbrev pub frame_read : Bool → Result Control LpduFault → List (Bool × Control)
frame_read clf (Ok c) = (clf, c) ∷ []
frame_read clf (Err fault) = []

abbrev pub frames_read : List (Bool × List ℕ) → List (Bool × Control)
frames_read [] = []
frames_read (f ∷ lpdus) = frame_read f.0 (control_of f.1) ++ frames_read lpdus

-- what a new tap reports over these LPDUs, each with whether it is the CLF's
abbrev pub tapped_lpdus : Bool → List (Bool × List ℕ) → List TapReport
tapped_lpdus bare lpdus = tapped bare (frames_read lpdus)
