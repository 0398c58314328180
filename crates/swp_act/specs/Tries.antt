-- How often and when an end of an activation tries, over lists of events.
use Rattle.std.specs.Prelude.{ℕ, suc, ◌-◌, ◌*◌, ◌%◌, ◌<◌, true, false, if◌then◌else◌, ◌==◌, List, [], ◌∷◌, Option, None, Some}
use Rattle.swp_base.specs.declared.control_frames.Act.{Act}
use Rattle.swp_base.specs.declared.control_frames.Act.TheVariants.{Ready, SyncId, PowerMode}
use Rattle.swp_act.specs.declared.ActEvent.{ActEvent}
use Rattle.swp_act.specs.declared.ActEvent.TheVariants.{Start, Take, Tick, Stop}
use Rattle.swp_act.specs.declared.ActOut.{ActOut}
use Rattle.swp_act.specs.declared.uicc.UiccAct.{UiccAct}
use Rattle.swp_act.specs.declared.clf.ClfAct.{ClfAct}
use Rattle.swp_act.specs.Activation.{uicc_step, clf_step, no_act_out, sends}

-- an end after these events
abbrev pub uicc_after : UiccAct → List ActEvent → UiccAct
uicc_after s [] = s
uicc_after s (e ∷ es) = uicc_after (uicc_step s e).0 es

abbrev pub clf_after : ClfAct → List ActEvent → ClfAct
clf_after s [] = s
clf_after s (e ∷ es) = clf_after (clf_step s e).0 es

-- the ticks among some events
abbrev pub ticks_in : List ActEvent → ℕ
ticks_in [] = 0
ticks_in (Start value ∷ es) = ticks_in es
ticks_in (Take act again ∷ es) = ticks_in es
ticks_in (Tick ∷ es) = suc (ticks_in es)
ticks_in (Stop ∷ es) = ticks_in es

-- what doesn't answer a UICC that waits: ticks, frames that ask for a repeat, and frames that it ignores
abbrev pub IsNoPowerMode : ActEvent → Type 0
IsNoPowerMode (Start value) = ⊥
IsNoPowerMode (Take act true) = Unit {0}
IsNoPowerMode (Take (PowerMode code) false) = 1 < code
IsNoPowerMode (Take Ready false) = Unit {0}
IsNoPowerMode (Take (SyncId id) false) = Unit {0}
IsNoPowerMode Tick = Unit {0}
IsNoPowerMode Stop = ⊥

-- what doesn't answer a CLF that waits, nor starts its timer again
abbrev pub IsNoReady : ActEvent → Type 0
IsNoReady (Start value) = ⊥
IsNoReady (Take act true) = Unit {0}
IsNoReady (Take (PowerMode code) false) = Unit {0}
IsNoReady (Take Ready false) = ⊥
IsNoReady (Take (SyncId id) false) = ⊥
IsNoReady Tick = Unit {0}
IsNoReady Stop = ⊥

-- how many ticks an end waits in all that has begun this try: ten for it and for each try after it, up to the third
abbrev pub ticks_from : ℕ → ℕ
ticks_from tries = 10 * (4 - tries)

-- what an end that sent this frame at this try answers to the n-th tick since: each tenth one sends the frame again, and
-- the last one gives up
abbrev pub answer_to_tick : Option Act → ℕ → ℕ → ActOut
answer_to_tick last tries n =
    if n % 10 == 0
    then (if n == ticks_from tries
    then record { send = None; became_active = false; ended_link = false; sync = None; gave_up = Some 3 }
    else sends last)
    else no_act_out
