-- What is said of every run of the machine of one end.
use Rattle.std.specs.Prelude.{◌≡◌, ℕ, zero, suc, ◌+◌, Bool, true, false, List, [], ◌∷◌, length, Option, Some, None}
use Rattle.shdlc_core.specs.Machine.{most_frames}
use Rattle.swp_base.specs.declared.control_frames.Control.{Control}
use Rattle.swp_base.specs.declared.control_frames.Control.TheVariants.{I, S, Rset, Ua, Act, Clt}
use Rattle.hcp_packet.specs.Packets.{IsSendable}
use Rattle.link_laws.specs.machine.Machine.{LinkEnd, Role, LinkInput, new_link_end, after_inputs, next_frame, frame_fetched}
use Rattle.link_laws.specs.machine.Machine.LinkInput.{FromNode}
use Rattle.link_laws.specs.machine.Machine.Turn.{Give}

-- a new end of this role after these inputs
abbrev pub end_after : Role → List LinkInput → LinkEnd
end_after role inputs = after_inputs (new_link_end role) inputs

-- each message that is given is on a pipe that isn't reserved, and not empty
abbrev pub AreSendableInputs : List LinkInput → Type 0
AreSendableInputs [] = Unit {0}
AreSendableInputs (FromNode (Give m) ∷ is) = IsSendable m × AreSendableInputs is
AreSendableInputs (_ ∷ is) = AreSendableInputs is

-- a frame of SHDLC
abbrev pub is_shdlc : Control → Bool
is_shdlc (I ns nr info) = true
is_shdlc (S kind nr) = true
is_shdlc (Rset window caps) = true
is_shdlc Ua = true
is_shdlc (Act act again) = false
is_shdlc Clt = false

-- an I frame
abbrev pub is_fragment : Control → Bool
is_fragment (I ns nr info) = true
is_fragment (S kind nr) = false
is_fragment (Rset window caps) = false
is_fragment Ua = false
is_fragment (Act act again) = false
is_fragment Clt = false

-- where a frame is due, it is none of this kind
abbrev pub IsNone : (Control → Bool) → Option Control → Type 0
IsNone is None = Unit {0}
IsNone is (Some c) = is c ≡ false

-- an end f has nothing of the session of e: neither messages that were given, nor fragments that came. The messages that came
-- whole are still there.
pub record Forgets (e f : LinkEnd) : Type 0 where
  pub sent : f.sent ≡ []
  pub out : f.shdlc.session.out ≡ []
  pub acc : f.shdlc.session.acc ≡ []
  pub got : f.got ≡ e.got

-- the frames that are fetched one after another, at most n
abbrev pub fetches : ℕ → LinkEnd → List Control
fetches zero e = []
fetches (suc n) e = with_first (next_frame e) (fetches n (frame_fetched e)) where
  with_first : Option Control → List Control → List Control
  with_first None later = []
  with_first (Some c) later = c ∷ later

-- the end after n fetches; where nothing is due they change nothing
abbrev pub after_fetches : ℕ → LinkEnd → LinkEnd
after_fetches zero e = e
after_fetches (suc n) e = after_fetches n (frame_fetched e)

-- how often a frame may be fetched before all are out: twelve frames of SHDLC, and those of activation
abbrev pub most_fetches : LinkEnd → ℕ
most_fetches e = most_frames + length e.acts
