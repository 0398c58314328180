-- The rounds of a world of nodes: what is asked of it as its ends take what stands on their wires and time passes, and what stands then.
use Rattle.std.specs.Prelude.{◌≡◌, ◌≤◌, ◌&&◌, Bool, List, [], ◌∷◌, ◌++◌, length}
use Rattle.swp_act.specs.Activation.{new_uicc}
use Rattle.trace_model.specs.declared.entry.Entry.{Entry}
use Rattle.trace_model.specs.declared.line.End.{End}
use Rattle.link_laws.specs.machine.Machine.{new_link_end}
use Rattle.link_laws.specs.machine.Machine.Role.{Uicc}
use Rattle.link_laws.specs.machine.AtRest.{end_rests}
use Rattle.link_laws.specs.messages.Rest.{is_clear}
use Rattle.node_machine.specs.world.World.{NodeWorld, Site}
use Rattle.node_machine.specs.world.Lines.{Occurrence}
use Rattle.node_machine.specs.world.NodeHistories.{entries_in}
use Rattle.node_machine.specs.world.Rounds.{ends_in_order, ends_take_all}
use Rattle.node_laws.specs.telling.Telling.{IfItRuns, IfOff}
use Rattle.node_sites.specs.declared.places.HostSite.{HostSite}
use Rattle.node_world.specs.Bounds.{FewBehind}
use Rattle.node_world.specs.Controllers.{AreTimely, IsThere, MayGoOn, WorldIs}
use Rattle.node_sites.specs.declared.power.Power.{Power}

-- an end may take all that stands on its wire
pub record MayTakeAll (at : End) (w : NodeWorld) : Type 0 where
  pub goes_on : MayGoOn w
  pub few : FewBehind 290000000 w
  pub there : IsThere at.link w

-- all ends may, one after another, of seven links at most
pub record MayTakeInOrder (w : NodeWorld) : Type 0 where
  pub links : length w.sites ≤ 7
  pub goes_on : MayGoOn w
  pub few : FewBehind 250000000 w

-- a round may be gone through: time may pass behind what the ends take
pub record MayGoRound (w : NodeWorld) : Type 0 where
  pub takes : MayTakeInOrder w
  pub timely : AreTimely (ends_take_all w (ends_in_order w)).0

-- What is kept stands for the world that these events have made, and what they caused is noted behind what was noted before.
pub record WorldHasGone (k : Power) (ks : List HostSite) (before now : List Entry) (after : NodeWorld × List Occurrence) : Type 0 where
  pub world : WorldIs k ks after.0
  pub noted : now ≡ before ++ entries_in after.1

-- ## At rest

-- both wires of a host's link are empty, and its end of it is at rest
abbrev pub far_rests : Site → Bool
far_rests s = is_clear s.link.to_controller && is_clear s.link.to_host && end_rests s.link.host.side

-- the controller's end of a link is at rest
abbrev pub near_rests : Site → Bool
near_rests s = end_rests s.link.controller.side

-- a host that runs has the one end of its link, which is new while it doesn't
pub record IsToLookAt (s : Site) : Type 0 where
  pub ends : IfItRuns s.host (s.host ∷ []) s.node
  pub off : IfOff s.node (new_link_end (Uicc new_uicc)) s.link.host.side
