-- What comes to an end of a node: the input of its machine that it is, when it may come, and why it is refused.
use Rattle.std.specs.Prelude.{◌≡◌, ℕ, ◌≤◌, List, Option, Some, None, option_map, Result, Ok, Err, IfSome}
use Rattle.swp_base.specs.declared.control_frames.Control.{Control}
use Rattle.swp_lpdu.specs.declared.LpduFault.{LpduFault}
use Rattle.swp_lpdu.specs.Controls.{control_of}
use Rattle.link_laws.specs.machine.Machine.{LinkInput, reset_refusal}
use Rattle.link_laws.specs.machine.Machine.LinkInput.{Take, TakeUnknown, Reset, Start, Stop}
use Rattle.link_end.specs.declared.report.ResetRefused.{ResetRefused}
use Rattle.link_end.specs.Reports.{reset_refused}
use Rattle.node_machine.specs.Parts.{Port}
use Rattle.node_ends.specs.declared.inputs.LinkInput.{LinkInput as ToEnd}
use Rattle.node_ends.specs.declared.inputs.LinkInput.TheVariants as comes
use Rattle.node_ends.specs.Ends.{MayStartAt}

-- what an end takes of a frame whose LPDU says this
abbrev pub frame_said : Result Control LpduFault → LinkInput
frame_said (Ok c) = Take c
frame_said (Err fault) = TakeUnknown

-- what comes to an end, as an input of its machine
abbrev pub input_of_end : ToEnd → LinkInput
input_of_end (comes.Frame read) = frame_said read.now
input_of_end (comes.Reset window) = Reset window
input_of_end (comes.Start value) = Start value
input_of_end comes.Stop = Stop

-- It may come to an end: what is said of a frame was read of an LPDU, a window is 1 to 4, and activation begins as the end's role lets it.
abbrev pub MayComeAt : ToEnd → Option Port → Type 0
MayComeAt (comes.Frame read) port = (lpdu : List ℕ) × (read.now ≡ control_of lpdu)
MayComeAt (comes.Reset window) port = IfSome window (λ (w : ℕ). (1 ≤ w) × (w ≤ 4))
MayComeAt (comes.Start value) port = MayStartAt value port
MayComeAt comes.Stop port = Unit {0}

-- why a reset of an end is refused, where there is an end and it is
abbrev pub reset_refusal_at : Option Port → Option ResetRefused
reset_refusal_at None = None
reset_refusal_at (Some p) = option_map reset_refused (reset_refusal p.side)

-- why it is refused, where it is: only a reset is
abbrev pub refusal_at : ToEnd → Option Port → Option ResetRefused
refusal_at (comes.Frame read) port = None
refusal_at (comes.Reset window) port = reset_refusal_at port
refusal_at (comes.Start value) port = None
refusal_at comes.Stop port = None
