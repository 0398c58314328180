-- Whether a reset put the last RSET on the link while the other end wasn't Waiting, and since then no frame was lost but of
-- activation, no end was stopped, none was inactive and none lost power.
use Rattle.std.specs.Prelude.{◌≡◌, Bool, true, false, not, ◌&&◌, ◌||◌, if◌then◌else◌, List, [], ◌∷◌, map, is_some, Option, Some, None}
use Rattle.swp_base.specs.declared.control_frames.Control.{Control}
use Rattle.shdlc_core.specs.declared.answers.LinkState.{LinkState}
use Rattle.shdlc_core.specs.declared.answers.LinkState.TheVariants.{Down, Up}
use Rattle.shdlc_core.specs.Machine.{EndState, taken, take_answer, ticked, tick_answer, is_waiting, frames_of, most_frames}
use Rattle.link_laws.specs.places.Wire.{with_frame}
use Rattle.link_laws.specs.sessions.Sessions.{OnWire, ShdlcLink, shdlc_exchanged, shdlc_number_of, is_rset, shdlc_put, shdlc_put_all}
use Rattle.link_laws.specs.sessions.Sessions.{with_shdlc_ended, ShdlcTurn}
use Rattle.link_laws.specs.sessions.Sessions.{shdlc_turned, act_frame, ShdlcEndEvent, took_with, shdlc_happens_at_controller, shdlc_aged, ShdlcLinkEvent}
use Rattle.link_laws.specs.sessions.Sessions.{shdlc_all_at_controller, ticks_or_cut, ticks_if_waiting, shdlc_happens}
use Rattle.link_laws.specs.sessions.Sessions.ShdlcEndEvent.{Turns, Deliver, Ignore, Acts, Lose, Reset, Cut, Stop}
use Rattle.link_laws.specs.sessions.Sessions.ShdlcLinkEvent.{AtController, AtHost, Tick, TickWithout}
use Rattle.link_laws.specs.sessions.Losses.{sans, counts_first, overflows, loses_aged}

-- a frame is put on the wire to the host
abbrev pub sure_put : Bool → ShdlcLink → Control → Bool
sure_put s l c =
    if is_rset c then false else s && not (overflows (with_frame l.to_host c))

abbrev pub sure_all : Bool → ShdlcLink → List Control → Bool
sure_all s l [] = s
sure_all s l (c ∷ cs) = sure_all (sure_put s l c) (shdlc_put l c) cs

-- the controller's end has become e, and all that is due goes out
abbrev pub sure_out : Bool → ShdlcLink → EndState → Bool
sure_out s l e = sure_all s l (frames_of most_frames e)

-- it happens at the controller's end
abbrev pub sure_here : Bool → ShdlcLink → ShdlcEndEvent → Bool
sure_here s l (Turns ts) = sure_out s l (shdlc_turned l.controller.side ts)
sure_here s l (Deliver ts) = first l.to_controller where
  first : List OnWire → Bool
  first [] = s
  first (x ∷ xs) =
      let m : ShdlcLink = with_shdlc_ended (record l { to_controller = xs }) (is_some (take_answer l.controller.side x.frame).ended) in
      let t : ShdlcLink = record m { controller = record m.controller { took = took_with l.controller.took x } } in
      sure_out s t (shdlc_turned (taken l.controller.side x.frame) ts)
sure_here s l (Ignore ts) = by_phase l.controller.side.phase l.to_controller where
  by_phase : LinkState → List OnWire → Bool
  by_phase Down (x ∷ xs) = false
  by_phase _ _ = s
sure_here s l (Acts acts ts) =
    sure_out (sure_all s l (map act_frame acts)) (shdlc_put_all l (map act_frame acts)) (shdlc_turned l.controller.side ts)
sure_here s l Lose = s && not (counts_first l.to_controller)
sure_here s l (Reset w ts) =
    if is_waiting l.controller.side then sure_out s l (shdlc_turned l.controller.side ts) else not (is_waiting l.host.side)
sure_here s l Cut = false
sure_here s l Stop = false

abbrev pub sure_turns : Bool → ShdlcLink → List ShdlcEndEvent → Bool
sure_turns s l [] = s
sure_turns s l (e ∷ es) = sure_turns (sure_here s l e) (shdlc_happens_at_controller l e) es

-- a tick of the controller's end
abbrev pub sure_tick : Bool → Option (List ShdlcTurn) → ShdlcLink → Bool
sure_tick s (Some ts) l = sure_out s (with_shdlc_ended l (is_some (tick_answer l.controller.side).ended)) (shdlc_turned (ticked l.controller.side) ts)
sure_tick s None l = false

abbrev pub sure_if_waiting : Bool → ShdlcLink → Bool
sure_if_waiting s l = if is_waiting l.controller.side then sure_tick s (Some []) l else s

abbrev pub sure_aged : Bool → ShdlcLink → Bool
sure_aged s l = s && not (loses_aged (sans l.to_controller) || loses_aged (sans l.to_host))

abbrev pub sure_event : Bool → ShdlcLink → ShdlcLinkEvent → Bool
sure_event s l (AtController e) = sure_here s l e
sure_event s l (AtHost e) = sure_here s (shdlc_exchanged l) e
sure_event s l (Tick c turns h) =
    let near : ShdlcLink = ticks_or_cut c (shdlc_aged l) in
    sure_tick (sure_turns (sure_tick (sure_aged s l) c (shdlc_aged l)) near turns) h (shdlc_exchanged (shdlc_all_at_controller near turns))
sure_event s l (TickWithout turns h) =
    let near : ShdlcLink = ticks_if_waiting (shdlc_aged l) in
    sure_tick (sure_turns (sure_if_waiting (sure_aged s l) (shdlc_aged l)) near turns) h (shdlc_exchanged (shdlc_all_at_controller near turns))

abbrev pub sure_after : Bool → ShdlcLink → List ShdlcLinkEvent → Bool
sure_after s l [] = s
sure_after s l (e ∷ es) = sure_after (sure_event s l e) (shdlc_happens l e) es

-- The last RSET came of a reset while the other end wasn't Waiting, nothing has kept its answer back since then, and no frame
-- is on its way but those of activation.
pub record IsShdlcSettled (l : ShdlcLink) (s : Bool) : Type 0 where
  pub sure : s ≡ true
  pub to_controller : sans l.to_controller ≡ []
  pub to_host : sans l.to_host ≡ []

-- both ends are up with one number
pub record AreShdlcUpTogether (l : ShdlcLink) : Type 0 where
  pub controller : l.controller.side.phase ≡ Up
  pub host : l.host.side.phase ≡ Up
  pub number : shdlc_number_of l.controller ≡ shdlc_number_of l.host
