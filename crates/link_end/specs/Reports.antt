-- What a link end tells of an input.
use Rattle.std.specs.Prelude.{ℕ, ◌-◌, min, false, is_some, if◌then◌else◌, [], Option, None, Some, Result, Ok, Err}
use Rattle.swp_base.specs.declared.control_frames.Control.{Control}
use Rattle.swp_base.specs.declared.control_frames.Control.TheVariants.{I, S, Rset, Ua, Act, Clt}
use Rattle.swp_base.specs.declared.link_terms.Cause.TheVariants.{Chain, Asked}
use Rattle.shdlc_core.specs.Machine.{taken, take_answer}
use Rattle.block_pool.specs.declared.chain.Chain.{Chain as Blocks}
use Rattle.swp_act.specs.declared.ActEvent.{ActEvent}
use Rattle.swp_act.specs.declared.ActOut.{ActOut}
use Rattle.link_laws.specs.machine.Machine.{LinkEnd as Machine, Report, oldest, act_answer, ended_by_act, heard, is_faulty, news, whole_acked, Message, Refused}
use Rattle.link_laws.specs.machine.Machine.{give_refusal, reset_refusal, if_up}
use Rattle.link_laws.specs.machine.Machine.Refused.{NotUp, TooLong, Full, Inactive, IsWaiting}
use Rattle.link_end.specs.declared.report.SendRefused.{SendRefused}
use Rattle.link_end.specs.declared.report.SendRefused.TheVariants.{NotUp as SendNotUp, TooLong as SendTooLong, Full as SendFull}
use Rattle.link_end.specs.declared.report.ResetRefused.{ResetRefused}
use Rattle.link_end.specs.declared.report.ResetRefused.TheVariants.{Inactive as ResetInactive, Waiting as ResetWaiting}
use Rattle.link_end.specs.declared.report.LinkReport.{LinkReport}

-- the report as it is told: whether a message came, and not which
abbrev pub report_told : Report → LinkReport
report_told r = record {
  ended = r.ended;
  began = r.began;
  acked = r.acked;
  got = is_some (oldest r.got);
  became_active = r.became_active;
  sync = r.sync;
  gave_up = r.gave_up;
  refused = r.refused;
}

-- nothing happened
abbrev pub nothing_told : LinkReport
nothing_told = record {
  ended = None;
  began = false;
  acked = 0;
  got = false;
  became_active = false;
  sync = None;
  gave_up = None;
  refused = None;
}

-- what is told of an event of activation
abbrev pub act_told : Machine → ActEvent → LinkReport
act_told m event =
    let out : ActOut = act_answer m.role event in
    record nothing_told {
      ended = ended_by_act m event;
      became_active = out.became_active;
      sync = out.sync;
      gave_up = out.gave_up;
    }

-- what is told of a frame of SHDLC that an open end takes
abbrev pub heard_told : Machine → Control → LinkReport
heard_told m c = record nothing_told {
  ended = if is_faulty (taken m.shdlc c).session then Some Chain else (take_answer m.shdlc c).ended;
  began = (take_answer m.shdlc c).began;
  acked = whole_acked (heard m c) - whole_acked m;
  got = is_some (oldest (if is_faulty (taken m.shdlc c).session then [] else news m.shdlc.session (taken m.shdlc c)));
}

-- a frame of SHDLC
abbrev pub IsShdlc : Control → Type 0
IsShdlc (I ns nr info) = Unit {0}
IsShdlc (S kind nr) = Unit {0}
IsShdlc (Rset window caps) = Unit {0}
IsShdlc Ua = Unit {0}
IsShdlc (Act act again) = ⊥
IsShdlc Clt = ⊥

-- Why a message isn't taken, as it is told: 4,294,967,295 stands for any greater length. No message is refused as a reset is.
abbrev pub send_refused : Refused → SendRefused
send_refused NotUp = SendNotUp
send_refused (TooLong len) = SendTooLong (min len 4294967295)
send_refused (Full need spare) = SendFull need spare
send_refused Inactive = SendNotUp
send_refused IsWaiting = SendNotUp

abbrev pub by_refusal_told : Option Refused → Result (Unit {0}) SendRefused
by_refusal_told None = Ok tt
by_refusal_told (Some why) = Err (send_refused why)

-- what is told of a message that is given
abbrev pub give_told : Machine → Message → Result (Unit {0}) SendRefused
give_told m message = by_refusal_told (give_refusal m message)

-- why a link isn't reset, as it is told
abbrev pub reset_refused : Refused → ResetRefused
reset_refused Inactive = ResetInactive
reset_refused IsWaiting = ResetWaiting
reset_refused NotUp = ResetInactive
reset_refused (TooLong len) = ResetInactive
reset_refused (Full need spare) = ResetInactive

-- what is told of a reset
abbrev pub reset_told : Machine → Option ℕ → Result LinkReport ResetRefused
reset_told m window = by_refusal (reset_refusal m) where
  by_refusal : Option Refused → Result LinkReport ResetRefused
  by_refusal None = Ok (record nothing_told { ended = if_up m.shdlc Asked })
  by_refusal (Some why) = Err (reset_refused why)

-- what is told of a message in a chain that is given: where it is refused the chain comes back
abbrev pub pass_by : Blocks → Option Refused → Result (Unit {0}) (Blocks × SendRefused)
pass_by chain None = Ok tt
pass_by chain (Some why) = Err (chain, send_refused why)

abbrev pub pass_told : Machine → Message → Blocks → Result (Unit {0}) (Blocks × SendRefused)
pass_told m message chain = pass_by chain (give_refusal m message)
