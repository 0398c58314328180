-- Interface activation (ETSI TS 102 613, section 9.4) as two machines: what each end does at one event. The timers, the
-- tries and what is ignored are this project's own.
use Rattle.std.specs.Prelude.{ℕ, ◌+◌, Bool, true, false, if◌then◌else◌, nat_le, IsTrue, Option, None, Some}
use Rattle.swp_base.specs.declared.control_frames.Act.{Act}
use Rattle.swp_base.specs.declared.control_frames.Act.TheVariants.{Ready, SyncId, PowerMode}
use Rattle.swp_act.specs.declared.ActEvent.{ActEvent}
use Rattle.swp_act.specs.declared.ActEvent.TheVariants.{Start, Take, Tick, Stop}
use Rattle.swp_act.specs.declared.ActOut.{ActOut}
use Rattle.swp_act.specs.declared.Phase.{Phase}
use Rattle.swp_act.specs.declared.Phase.TheVariants.{Inactive, Awaiting, Active}
use Rattle.swp_act.specs.declared.uicc.UiccAct.{UiccAct}
use Rattle.swp_act.specs.declared.clf.ClfAct.{ClfAct}

-- an end that never was started
abbrev pub new_uicc : UiccAct
new_uicc = record { phase = Inactive; last = None }

-- full power until a start names another mode
abbrev pub new_clf : ClfAct
new_clf = record { phase = Inactive; last = None; power = 1 }

abbrev pub is_active : Phase → Bool
is_active Inactive = false
is_active (Awaiting tries ticks) = false
is_active Active = true

-- an answer that says nothing
abbrev pub no_act_out : ActOut
no_act_out = record { send = None; became_active = false; ended_link = false; sync = None; gave_up = None }

-- a frame is sent, and nothing else
abbrev pub sends : Option Act → ActOut
sends frame = record { send = frame; became_active = false; ended_link = false; sync = None; gave_up = None }

-- the link goes down
abbrev pub ends_link : ActOut
ends_link = record { send = None; became_active = false; ended_link = true; sync = None; gave_up = None }

-- What the tenth tick since the timer started does to an end that waits: it tries again, or gives up after the third
-- try. Other ticks only count.
abbrev pub phase_ticked : Phase → Phase
phase_ticked Inactive = Inactive
phase_ticked (Awaiting tries ticks) =
    if nat_le 10 (ticks + 1) then (if nat_le 3 tries then Inactive else Awaiting (tries + 1) 0)
    else Awaiting tries (ticks + 1)
phase_ticked Active = Active

-- an end that waits sends its last frame again at the tenth tick, or tells that it gave up after the third try
abbrev pub out_ticked : Phase → Option Act → ActOut
out_ticked Inactive last = no_act_out
out_ticked (Awaiting tries ticks) last =
    if nat_le 10 (ticks + 1)
    then (if nat_le 3 tries
    then record { send = None; became_active = false; ended_link = false; sync = None; gave_up = Some 3 }
    else sends last)
    else no_act_out
out_ticked Active last = no_act_out

-- ACT_POWER_MODE of low or full power comes to a UICC: it answers ACT_READY where it waits for it or is active
abbrev pub uicc_powered : Phase → UiccAct → UiccAct × ActOut
uicc_powered Inactive s = (s, no_act_out)
uicc_powered (Awaiting tries ticks) s = (
  record { phase = Active; last = Some Ready },
  record { send = Some Ready; became_active = true; ended_link = false; sync = None; gave_up = None },
)
uicc_powered Active s = (record { phase = Active; last = Some Ready }, sends (Some Ready))

-- what a UICC does at one event
abbrev pub uicc_step : UiccAct → ActEvent → UiccAct × ActOut
uicc_step s (Start value) = (
  record { phase = Awaiting 1 0; last = Some (SyncId value) },
  record { send = Some (SyncId value); became_active = false; ended_link = true; sync = None; gave_up = None },
)
uicc_step s (Take act true) = (s, sends s.last)
uicc_step s (Take (PowerMode code) false) = if nat_le code 1 then uicc_powered s.phase s else (s, no_act_out)
uicc_step s (Take Ready false) = (s, no_act_out)
uicc_step s (Take (SyncId id) false) = (s, no_act_out)
uicc_step s Tick = (record { phase = phase_ticked s.phase; last = s.last }, out_ticked s.phase s.last)
uicc_step s Stop = (record { phase = Inactive; last = s.last }, ends_link)

-- ACT_SYNC_ID comes to a CLF: it answers ACT_POWER_MODE and waits for ACT_READY. Where it waits already only its timer
-- starts again; in any other state the link goes down and this is the first try.
abbrev pub clf_synced : Phase → ClfAct → ℕ → ClfAct × ActOut
clf_synced Inactive s id = (
  record { phase = Awaiting 1 0; last = Some (PowerMode s.power); power = s.power },
  record { send = Some (PowerMode s.power); became_active = false; ended_link = true; sync = Some id; gave_up = None },
)
clf_synced (Awaiting tries ticks) s id = (
  record { phase = Awaiting tries 0; last = Some (PowerMode s.power); power = s.power },
  record { send = Some (PowerMode s.power); became_active = false; ended_link = false; sync = Some id; gave_up = None },
)
clf_synced Active s id = (
  record { phase = Awaiting 1 0; last = Some (PowerMode s.power); power = s.power },
  record { send = Some (PowerMode s.power); became_active = false; ended_link = true; sync = Some id; gave_up = None },
)

-- ACT_READY comes to a CLF
abbrev pub clf_readied : Phase → ClfAct → ClfAct × ActOut
clf_readied Inactive s = (s, no_act_out)
clf_readied (Awaiting tries ticks) s = (
  record { phase = Active; last = s.last; power = s.power },
  record { send = None; became_active = true; ended_link = false; sync = None; gave_up = None },
)
clf_readied Active s = (s, no_act_out)

-- what a CLF does at one event
abbrev pub clf_step : ClfAct → ActEvent → ClfAct × ActOut
clf_step s (Start value) = (record { phase = Inactive; last = s.last; power = value }, ends_link)
clf_step s (Take act true) = (s, sends s.last)
clf_step s (Take (SyncId id) false) = clf_synced s.phase s id
clf_step s (Take Ready false) = clf_readied s.phase s
clf_step s (Take (PowerMode code) false) = (s, no_act_out)
clf_step s Tick = (record { phase = phase_ticked s.phase; last = s.last; power = s.power }, out_ticked s.phase s.last)
clf_step s Stop = (record { phase = Inactive; last = s.last; power = s.power }, ends_link)

-- a start of a CLF names low or full power
abbrev pub IsPowerStart : ActEvent → Type 0
IsPowerStart (Start value) = IsTrue (nat_le value 1)
IsPowerStart (Take act again) = Unit {0}
IsPowerStart Tick = Unit {0}
IsPowerStart Stop = Unit {0}
