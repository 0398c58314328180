-- What was lost on a link and whether an RNR was made, since an end last came up as the first of the two in a session. Frames
-- of activation don't count.
use Rattle.std.specs.Prelude.{◌≡◌, ℕ, Bool, true, false, ◌&&◌, ◌||◌, if◌then◌else◌, List, [], ◌∷◌, map, is_some, ◌==◌, Option, Some, None}
use Rattle.swp_base.specs.declared.control_frames.Control.{Control}
use Rattle.link_laws.specs.places.Wire.{with_frame, is_rnr}
pub use Rattle.link_laws.specs.places.Wire.{is_act, sans, counts_first, overflows, loses_aged}
use Rattle.shdlc_core.specs.declared.answers.LinkState.{LinkState}
use Rattle.shdlc_core.specs.declared.answers.LinkState.TheVariants.{Down, Up}
use Rattle.shdlc_core.specs.Machine.{EndState, taken, take_answer, ticked, tick_answer, is_waiting, reset_with, frames_of, most_frames}
use Rattle.link_laws.specs.sessions.Sessions.{OnWire, NumberedShdlc, ShdlcLink, shdlc_exchanged, shdlc_number_of, is_up, shdlc_put, shdlc_put_all}
use Rattle.link_laws.specs.sessions.Sessions.{with_shdlc_ended}
use Rattle.link_laws.specs.sessions.Sessions.{ShdlcTurn, shdlc_turned, act_frame, ShdlcEndEvent, took_with, shdlc_happens_at_controller, shdlc_aged}
use Rattle.link_laws.specs.sessions.Sessions.{ShdlcLinkEvent}
use Rattle.link_laws.specs.sessions.Sessions.{shdlc_all_at_controller, ticks_or_cut, ticks_if_waiting, shdlc_happens}
use Rattle.link_laws.specs.sessions.Sessions.ShdlcEndEvent.{Turns, Deliver, Ignore, Acts, Lose, Reset, Cut, Stop}
use Rattle.link_laws.specs.sessions.Sessions.ShdlcLinkEvent.{AtController, AtHost, Tick, TickWithout}

-- a frame was lost, an RNR was made
pub record Losses : Type 0 where
  pub lost : Bool
  pub rnr : Bool

abbrev pub no_losses : Losses
no_losses = record { lost = false; rnr = false }

-- a frame is put on the wire to the host
abbrev pub noted_loss : Losses → ShdlcLink → Control → Losses
noted_loss n l c =
    record { lost = n.lost || overflows (with_frame l.to_host c); rnr = n.rnr || is_rnr c }

abbrev pub noted_all : Losses → ShdlcLink → List Control → Losses
noted_all n l [] = n
noted_all n l (c ∷ cs) = noted_all (noted_loss n l c) (shdlc_put l c) cs

-- the controller's end has become e, and all that is due goes out
abbrev pub noted_out : Losses → ShdlcLink → EndState → Losses
noted_out n l e = noted_all n l (frames_of most_frames e)

-- an end is up with this number
abbrev pub is_up_with : NumberedShdlc → ℕ → Bool
is_up_with h n = is_up h.side.phase && shdlc_number_of h == n

-- the controller's end has come up: first in its session, where the other end isn't up with the same number
abbrev pub came_up : Losses → ShdlcLink → Bool → Losses
came_up n l false = n
came_up n l true = if is_up_with l.host (shdlc_number_of l.controller) then n else no_losses

-- it happens at the controller's end
abbrev pub noted_here : Losses → ShdlcLink → ShdlcEndEvent → Losses
noted_here n l (Turns ts) = noted_out n l (shdlc_turned l.controller.side ts)
noted_here n l (Deliver ts) = first l.to_controller where
  first : List OnWire → Losses
  first [] = n
  first (x ∷ xs) =
      let m : ShdlcLink = with_shdlc_ended (record l { to_controller = xs }) (is_some (take_answer l.controller.side x.frame).ended) in
      let t : ShdlcLink = record m { controller = record m.controller { took = took_with l.controller.took x } } in
      noted_out (came_up n t (take_answer l.controller.side x.frame).began) t (shdlc_turned (taken l.controller.side x.frame) ts)
noted_here n l (Ignore ts) = by_phase l.controller.side.phase l.to_controller where
  by_phase : LinkState → List OnWire → Losses
  by_phase Down (x ∷ xs) =
      noted_out n (record l { to_controller = xs; controller = record l.controller { took = took_with l.controller.took x } })
      (shdlc_turned l.controller.side ts)
  by_phase _ _ = n
noted_here n l (Acts acts ts) =
    noted_out (noted_all n l (map act_frame acts)) (shdlc_put_all l (map act_frame acts)) (shdlc_turned l.controller.side ts)
noted_here n l Lose = record n { lost = n.lost || counts_first l.to_controller }
noted_here n l (Reset w ts) = noted_out n (with_shdlc_ended l (is_up l.controller.side.phase)) (shdlc_turned (reset_with l.controller.side w) ts)
noted_here n l Cut = n
noted_here n l Stop = n

abbrev pub noted_turns : Losses → ShdlcLink → List ShdlcEndEvent → Losses
noted_turns n l [] = n
noted_turns n l (e ∷ es) = noted_turns (noted_here n l e) (shdlc_happens_at_controller l e) es

-- a tick of the controller's end
abbrev pub noted_tick : Losses → Option (List ShdlcTurn) → ShdlcLink → Losses
noted_tick n (Some ts) l = noted_out n (with_shdlc_ended l (is_some (tick_answer l.controller.side).ended)) (shdlc_turned (ticked l.controller.side) ts)
noted_tick n None l = n

abbrev pub noted_if_waiting : Losses → ShdlcLink → Losses
noted_if_waiting n l = if is_waiting l.controller.side then noted_tick n (Some []) l else n

abbrev pub noted_aged : Losses → ShdlcLink → Losses
noted_aged n l = record n { lost = n.lost || loses_aged (sans l.to_controller) || loses_aged (sans l.to_host) }

abbrev pub noted_event : Losses → ShdlcLink → ShdlcLinkEvent → Losses
noted_event n l (AtController e) = noted_here n l e
noted_event n l (AtHost e) = noted_here n (shdlc_exchanged l) e
noted_event n l (Tick c turns h) =
    let near : ShdlcLink = ticks_or_cut c (shdlc_aged l) in
    noted_tick (noted_turns (noted_tick (noted_aged n l) c (shdlc_aged l)) near turns) h (shdlc_exchanged (shdlc_all_at_controller near turns))
noted_event n l (TickWithout turns h) =
    let near : ShdlcLink = ticks_if_waiting (shdlc_aged l) in
    noted_tick (noted_turns (noted_if_waiting (noted_aged n l) (shdlc_aged l)) near turns) h (shdlc_exchanged (shdlc_all_at_controller near turns))

-- what was lost since the first end came up in its session, after these events
abbrev pub losses_after : Losses → ShdlcLink → List ShdlcLinkEvent → Losses
losses_after n l [] = n
losses_after n l (e ∷ es) = losses_after (noted_event n l e) (shdlc_happens l e) es

-- Both ends are up in one session, of which no frame was lost and no RNR made since the first of them came up in it, and no
-- frame is on its way but those of activation.
pub record IsShdlcQuiet (l : ShdlcLink) (n : Losses) : Type 0 where
  pub controller : l.controller.side.phase ≡ Up
  pub host : l.host.side.phase ≡ Up
  pub lost : n.lost ≡ false
  pub rnr : n.rnr ≡ false
  pub to_controller : sans l.to_controller ≡ []
  pub to_host : sans l.to_host ≡ []
