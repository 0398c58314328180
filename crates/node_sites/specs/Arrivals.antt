-- What comes to an end of a link of a world: off the wires, as an input of the machine of the end, and why it is refused.
use Rattle.std.specs.Prelude.{◌≡◌, ℕ, ◌≤◌, Bool, true, false, List, Option, Some, None, IfSome}
use Rattle.swp_lpdu.specs.Controls.{control_of}
use Rattle.trace_model.specs.declared.entry.Entry.{Entry}
use Rattle.trace_model.specs.declared.line.End.{End}
use Rattle.link_laws.specs.machine.Machine.{LinkInput}
use Rattle.link_laws.specs.machine.Machine.LinkInput.{Reset, Start}
use Rattle.link_laws.specs.messages.Links.{Link, Comes}
use Rattle.link_laws.specs.messages.Links.Comes.{NextFrame, AsksReset, Starts}
use Rattle.link_end.specs.declared.report.ResetRefused.{ResetRefused}
use Rattle.link_wires.specs.Notes.{side_of, AreNoted}
use Rattle.history.specs.Follows.{seen_from}
use Rattle.node_machine.specs.Parts.{Port}
use Rattle.node_machine.specs.world.World.{input_of, arrival}
use Rattle.node_ends.specs.Ends.{MayStartAt}
use Rattle.node_ends.specs.Inputs.{frame_said, reset_refusal_at}
use Rattle.node_sites.specs.declared.incoming.Incoming.{Incoming}
use Rattle.node_sites.specs.declared.incoming.Incoming.TheVariants as coming
use Rattle.node_sites.specs.declared.incoming.Arrived.{Arrived}
use Rattle.node_sites.specs.declared.incoming.Arrived.TheVariants as arrived
use Rattle.node_sites.specs.declared.wires.Wires.{Wires}
use Rattle.node_sites.specs.LinksKept.{WiresStandFor, as_it_comes}

-- what comes, in the words of the law of one link
abbrev pub as_comes : Incoming → Comes
as_comes coming.NextFrame = NextFrame
as_comes (coming.Reset window) = AsksReset window
as_comes (coming.Start value) = Starts value

-- it may come to an end of the controller, or of a host: a window is 1 to 4, and a power mode 00 or 01
abbrev pub MayArrive : Bool → Incoming → Type 0
MayArrive at_host coming.NextFrame = Unit {0}
MayArrive at_host (coming.Reset window) = IfSome window (λ (w : ℕ). (1 ≤ w) × (w ≤ 4))
MayArrive true (coming.Start value) = Unit {0}
MayArrive false (coming.Start value) = value ≤ 1

-- what has come, as an input of the machine of an end
abbrev pub input_arrived : Arrived → LinkInput
input_arrived (arrived.Frame read) = frame_said read
input_arrived (arrived.Reset window) = Reset window
input_arrived (arrived.Start value) = Start value

-- it may come to this end: what a frame says was read of an LPDU, a window is 1 to 4, and activation begins as the end's role lets it
abbrev pub MayArriveAt : Arrived → Option Port → Type 0
MayArriveAt (arrived.Frame read) port = (lpdu : List ℕ) × (read ≡ control_of lpdu)
MayArriveAt (arrived.Reset window) port = IfSome window (λ (w : ℕ). (1 ≤ w) × (w ≤ 4))
MayArriveAt (arrived.Start value) port = MayStartAt value port

-- why it is refused, where it is: only a reset is
abbrev pub refusal_arrived : Arrived → Option Port → Option ResetRefused
refusal_arrived (arrived.Frame read) port = None
refusal_arrived (arrived.Reset window) port = reset_refusal_at port
refusal_arrived (arrived.Start value) port = None

-- it is what had to come
abbrev pub IsArrivalOf : Incoming → Arrived → Type 0
IsArrivalOf coming.NextFrame (arrived.Frame read) = (lpdu : List ℕ) × (read ≡ control_of lpdu)
IsArrivalOf (coming.Reset window) a = a ≡ arrived.Reset window
IsArrivalOf (coming.Start value) a = a ≡ arrived.Start value
IsArrivalOf _ _ = ⊥

-- It has come to the near end of a link: a frame is off its wire and noted, and activation has emptied both wires.
pub record HasArrived (new : Wires) (to : End) (l : Link) (what : Incoming) (before now : List Entry) (a : Arrived) : Type 0 where
  pub is : IsArrivalOf what a
  pub input : input_of l (as_comes what) ≡ Some (input_arrived a)
  pub wires : WiresStandFor new (seen_from to (as_it_comes l (as_comes what)))
  pub noted : AreNoted to before now (arrival (side_of to) l (as_comes what))

-- nothing has come: no frame is on its way
pub record NoneArrived (new : Wires) (to : End) (l : Link) (what : Incoming) (before now : List Entry) : Type 0 where
  pub input : input_of l (as_comes what) ≡ None
  pub wires : WiresStandFor new (seen_from to l)
  pub noted : now ≡ before

abbrev pub ComesToEnd : Wires → End → Link → Incoming → List Entry → List Entry → Option Arrived → Type 0
ComesToEnd new to l what before now None = NoneArrived new to l what before now
ComesToEnd new to l what before now (Some a) = HasArrived new to l what before now a
