-- What is kept of the wires of a link and of the numbers of RSETs, and for which links it stands.
use Rattle.std.specs.Prelude.{◌≡◌, ℕ, List, [], ◌∷◌, ◌++◌, map, Option, Some, None, option_map, option_to_list, Ok}
use Rattle.swp_lpdu.specs.Controls.{lpdu_of, control_of}
use Rattle.trace_model.specs.declared.entry.Entry.{Entry}
use Rattle.trace_model.specs.declared.entry.Entry.TheVariants as note
use Rattle.trace_model.specs.declared.line.End.{End}
use Rattle.link_laws.specs.sessions.Sessions.{OnWire, took_with}
use Rattle.link_laws.specs.messages.Links.{NumberedEnd, Link, Comes}
use Rattle.link_laws.specs.messages.Links.Comes.{NextFrame, AsksReset, Starts, Stops, NoInput}
use Rattle.link_wires.specs.Wires.{WireStandsFor}
use Rattle.node_sites.specs.declared.incoming.Arrived.{Arrived}
use Rattle.node_sites.specs.declared.incoming.Arrived.TheVariants as arrived
use Rattle.node_sites.specs.declared.wires.WireEnd.{WireEnd}
use Rattle.node_sites.specs.declared.wires.Wires.{Wires}

-- one end: the frames on the way to it, and the greatest numbers of RSETs that it has sent and taken
pub record WireEndIs (k : WireEnd) (e : NumberedEnd) (wire : List OnWire) : Type 0 where
  pub emitted_is : k.emitted ≡ e.emitted
  pub took_is : k.took ≡ e.took
  pub wire_is : WireStandsFor k.wire wire

-- both ends of a link
pub record WiresStandFor (k : Wires) (l : Link) : Type 0 where
  pub here : WireEndIs k.controller l.controller l.to_controller
  pub there : WireEndIs k.host l.host l.to_host
  pub count : k.resets ≡ l.resets

-- a link without the frames on its wires
abbrev pub with_bare_wires : Link → Link
with_bare_wires l = record l { to_controller = []; to_host = [] }

-- The first frame on the way to the near end of a link is taken off its wire, and that end has heard of its number.
abbrev pub without_first : Link → Link
without_first l = first l.to_controller where
  first : List OnWire → Link
  first [] = l
  first (x ∷ xs) = record l { to_controller = xs; controller = record l.controller { took = took_with l.controller.took x } }

-- these bytes are those of the first frame of a wire
abbrev pub IsFirst : List OnWire → Option (List ℕ) → Type 0
IsFirst [] lpdu = lpdu ≡ None
IsFirst (x ∷ xs) lpdu = (lpdu ≡ Some (lpdu_of x.frame)) × (control_of (lpdu_of x.frame) ≡ Ok x.frame)

-- The first frame on its way to the near end of a link was taken, where there is one, and noted. This has come with it, and so it stands now.
pub record IsTakenFirst (at : End) (l : Link) (stands : Type 0) (before now : List Entry) (came : Option Arrived) : Type 0 where
  pub lpdu : Option (List ℕ)
  pub first : IsFirst l.to_controller lpdu
  pub says : came ≡ option_map (λ (bytes : List ℕ). arrived.Frame (control_of bytes)) lpdu
  pub stands_now : stands
  pub noted : now ≡ before ++ map (note.Took at) (option_to_list lpdu)

-- the same frames stand on the wires of two links, and the numbers of their RSETs are the same
pub record SameWires (l m : Link) : Type 0 where
  pub to_controller : m.to_controller ≡ l.to_controller
  pub to_host : m.to_host ≡ l.to_host
  pub resets : m.resets ≡ l.resets
  pub controller : (m.controller.emitted ≡ l.controller.emitted) × (m.controller.took ≡ l.controller.took)
  pub host : (m.host.emitted ≡ l.host.emitted) × (m.host.took ≡ l.host.took)

-- A link as this comes to its near end: the frame that is taken is off its wire, and activation empties both.
abbrev pub as_it_comes : Link → Comes → Link
as_it_comes l NextFrame = without_first l
as_it_comes l (AsksReset window) = l
as_it_comes l (Starts value) = with_bare_wires l
as_it_comes l Stops = with_bare_wires l
as_it_comes l NoInput = l
