-- Where nothing disturbed a session since it began at either end, and nothing is on its way, all of it was delivered, as it is noted.
use Rattle.std.specs.Prelude.{◌≡◌, ℕ, ◌==◌, Bool, true, false, if◌then◌else◌, List, [], ◌∷◌, length}
use Rattle.std.specs.List.{list_any}
use Rattle.swp_base.specs.declared.control_frames.Control.TheVariants.{S}
use Rattle.swp_base.specs.declared.control_frames.Kind.TheVariants.{Rnr}
use Rattle.shdlc_core.specs.declared.answers.LinkState.TheVariants.{Up as IsUp}
use Rattle.hcp_packet.specs.Packets.{good_of}
use Rattle.link_laws.specs.messages.Links.{Link, number_of}
use Rattle.link_laws.specs.entries.Entries.{End, Entry, far}
use Rattle.link_laws.specs.entries.Entries.Entry.{Up, Emit, Lost, Restarted, Cut}
use Rattle.link_laws.specs.entries.Filters.{sent_noted, got_noted, acked_noted}

-- a frame is lost, RNR is put on the link, or an end is started, stopped or cut off, which empties both wires
abbrev pub disturbs : Entry → Bool
disturbs (Lost who frame why) = true
disturbs (Restarted who) = true
disturbs (Cut who) = true
disturbs (Emit who (S Rnr nr)) = true
disturbs _ = false

-- an end comes up with this number
abbrev pub begins : ℕ → Entry → Bool
begins n (Up who k) = k == n
begins n _ = false

-- what was noted since an end first came up with this number
abbrev pub since : ℕ → List Entry → List Entry
since n [] = []
since n (e ∷ t) = if begins n e then t else since n t

-- Both ends are up with one number; since the first of them came up with it nothing disturbed the link; and both wires are empty.
pub record IsQuietSince (t : List Entry) (l : Link) : Type 0 where
  pub controller : l.controller.side.shdlc.phase ≡ IsUp
  pub host : l.host.side.shdlc.phase ≡ IsUp
  pub undisturbed : list_any disturbs (since (number_of l.controller) t) ≡ false
  pub to_controller : l.to_controller ≡ []
  pub to_host : l.to_host ≡ []

-- the other end got all good messages that this end sent in a session, and all that it sent are acknowledged
pub record IsDeliveredOnLink (t : List Entry) (who : End) (n : ℕ) : Type 0 where
  pub got : got_noted t (far who) n ≡ good_of (sent_noted t who n)
  pub acked : acked_noted t who n ≡ length (sent_noted t who n)
