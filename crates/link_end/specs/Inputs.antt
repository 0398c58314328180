-- What the frames, periods and units that come to a link end are to its machine.
use Rattle.std.specs.Prelude.{Bool, List, ◌∷◌, Option, None, Some}
use Rattle.swp_frame.specs.declared.fed.Fed.{Fed}
use Rattle.swp_frame.specs.declared.fed.Fed.TheVariants.{Nothing, Frame, Refused}
use Rattle.swp_base.specs.declared.link_terms.FrameFault.{FrameFault}
use Rattle.swp_frame.specs.Signal.{Symbol, symbol_of, break}
use Rattle.swp_frame.specs.Verdicts.{verdict}
use Rattle.swp_line.specs.declared.period.Period.{Period}
use Rattle.swp_line.specs.declared.period.Period.TheVariants.{Bits, Suspended, ResumeAsked, Deactivated}
use Rattle.byte_link.specs.declared.unit.Unit.{Unit as Given}
use Rattle.byte_link.specs.declared.unit.Unit.TheVariants.{Nothing as NoUnit, Tick as TickUnit, Frame as FrameUnit, Refused as RefusedUnit}
use Rattle.link_laws.specs.machine.Machine.{LinkEnd as Machine, LinkInput, Role, Bare, Clf, Uicc, after_input, lpdu_input, report}
use Rattle.link_laws.specs.machine.Machine.LinkInput.{TakeBroken, Tick, Stop}
use Rattle.link_end.specs.Reports.{report_told, nothing_told}
use Rattle.link_end.specs.declared.report.LinkReport.{LinkReport}

-- a frame that ended, if one did
abbrev pub fed_input : Fed → Option LinkInput
fed_input Nothing = None
fed_input (Frame lpdu) = Some (lpdu_input lpdu)
fed_input (Refused fault) = Some (TakeBroken fault)

-- a unit that ended, if one did
abbrev pub unit_input : Given → Option LinkInput
unit_input NoUnit = None
unit_input TickUnit = Some Tick
unit_input (FrameUnit lpdu) = Some (lpdu_input lpdu)
unit_input (RefusedUnit fault) = Some (TakeBroken fault)

-- the end after an input, if there is one, and what is told of it
abbrev pub after_some : Machine → Option LinkInput → Machine
after_some m None = m
after_some m (Some i) = after_input m i

abbrev pub told_some : Machine → Option LinkInput → LinkReport
told_some m None = nothing_told
told_some m (Some i) = report_told (report m i)

-- the bit that an end hears in a period: S2 at a CLF, S1 at a UICC
abbrev pub heard_bit : Role → Bool → Bool → Bool
heard_bit (Clf s) s1 s2 = s2
heard_bit (Uicc s) s1 s2 = s1
heard_bit Bare s1 s2 = s1

-- What was heard after one more period. A deactivated line, and a byte that is no period, break what is open.
abbrev pub heard_after : Role → List Symbol → Option Period → List Symbol
heard_after r seen None = break ∷ seen
heard_after r seen (Some (Bits s1 s2)) = symbol_of (heard_bit r s1 s2) ∷ seen
heard_after r seen (Some Suspended) = seen
heard_after r seen (Some ResumeAsked) = seen
heard_after r seen (Some Deactivated) = break ∷ seen

-- what is wrong with a frame that ended so
abbrev pub fault_in : Fed → Option FrameFault
fault_in Nothing = None
fault_in (Frame lpdu) = None
fault_in (Refused fault) = Some fault

-- The end after a period: the frame that ended there comes to it, and a deactivated line ends activation.
abbrev pub after_period : Machine → List Symbol → Option Period → Machine
after_period m seen None = after_some m (fed_input (verdict (break ∷ seen)))
after_period m seen (Some (Bits s1 s2)) = after_some m (fed_input (verdict (symbol_of (heard_bit m.role s1 s2) ∷ seen)))
after_period m seen (Some Suspended) = m
after_period m seen (Some ResumeAsked) = m
after_period m seen (Some Deactivated) = after_input m Stop

-- what is told of it
abbrev pub told_period : Machine → List Symbol → Option Period → LinkReport
told_period m seen None = told_some m (fed_input (verdict (break ∷ seen)))
told_period m seen (Some (Bits s1 s2)) = told_some m (fed_input (verdict (symbol_of (heard_bit m.role s1 s2) ∷ seen)))
told_period m seen (Some Suspended) = nothing_told
told_period m seen (Some ResumeAsked) = nothing_told
told_period m seen (Some Deactivated) = record (report_told (report m Stop)) { refused = fault_in (verdict (break ∷ seen)) }
