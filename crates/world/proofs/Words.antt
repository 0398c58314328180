-- The words of definitions and lower crates that these proofs speak in, each from where it is at home.
pub use Rattle.std.proofs.Common.{Bool, IfSome, List, None, Ok, OnOk, Option, Result, Some, [], ap, append-nil, append_assoc, arith, drop, false, if◌then◌else◌}
pub use Rattle.std.proofs.Common.{is_some, length, length-append, map, max, not, option_map, refl, replicate, subst, suc, sym, true, true≢false, unwrap_or}
pub use Rattle.std.proofs.Common.{zero, ℕ, ◌*◌, ◌++◌, ◌+◌, ◌-◌, ◌<◌, ◌^◌, ◌∙◌, ◌∷◌, ◌≡◌, ◌≤◌}
pub use Rattle.std.proofs.lemmas.Result.{IfErr-weaker, on_ok_weaker}
pub use Rattle.std.specs.List.{AllByRecursion}
pub use Rattle.circular_buffer.specs.Buffer.{Buffer}
pub use Rattle.history.proofs.Leading.{lines_lead}
pub use Rattle.history.specs.Damage.{Verdict}
pub use Rattle.history.specs.Follows.{as_noted, causes_in, damage_causes, first_verdict, frames_to, host_of, link_after_line, link_after_lines, link_at}
pub use Rattle.history.specs.Follows.{misread, outcome_of, refusal, seen_from, taken_of, with_step}
pub use Rattle.history.specs.Histories.{Cause, History, Outcome, noted}
pub use Rattle.history.specs.Histories.Cause.{Given, Readied, Taken, Ticked, WasLost, WasReset}
pub use Rattle.history.specs.Histories.Outcome.{Caused}
pub use Rattle.history.specs.Steps.{entries_for, events_at, idle, link_after, link_after_all}
pub use Rattle.lines_told.proofs.lines.Told.{few_with_round, few_with_said, lines-append, played_more, takes_on}
pub use Rattle.lines_told.specs.lines.Below.{IsPlayedLine, bare_link_behind, memory_behind, misread_below, told_below}
pub use Rattle.lines_told.specs.lines.Plays.{IsPlayFor, Play, lines_played, lines_said, round_behind, round_on, rounds_played, taking_on, told_of_play}
pub use Rattle.lines_told.specs.lines.Plays.Play.{Round, Said}
pub use Rattle.link_end.specs.Ends.{EndStandsFor}
pub use Rattle.link_end.specs.Reports.{nothing_told, report_told as told_of}
pub use Rattle.link_end.specs.declared.report.LinkReport.{LinkReport}
pub use Rattle.link_end.specs.declared.«end».End.{End as Kept}
pub use Rattle.link_laws.proofs.machine.Reports.{Reports}
pub use Rattle.link_laws.proofs.machine.Runs.{Sound}
pub use Rattle.link_laws.specs.entries.Entries.{Entry as Noted, aged_entries, here_entries, left_after, puts_entries, tick_entries, told}
pub use Rattle.link_laws.specs.entries.Entries.End.{Controller, Host}
pub use Rattle.link_laws.specs.entries.Entries.Entry.{Got}
pub use Rattle.link_laws.specs.machine.Machine.{LinkEnd, LinkInput, Message, Refused, Report, after_input, after_inputs, ended_by, frame_fetched, frames_out}
pub use Rattle.link_laws.specs.machine.Machine.{give_refusal, given, lpdu_input, new_link_end, report, sent_all, took, turn, unless, whole_acked, whole_among}
pub use Rattle.link_laws.specs.machine.Machine.LinkInput.{Fetch, Reset, Take, Tick}
pub use Rattle.link_laws.specs.machine.Machine.Turn.{FetchMessage, Give, Hold}
pub use Rattle.link_laws.specs.messages.Links.{EndEvent, Link, Loss, aged, becomes, exchanged, happens, happens_at_controller, put_all, ticks_at_controller}
pub use Rattle.link_laws.specs.messages.Links.{with_controller, with_ended}
pub use Rattle.link_laws.specs.messages.Links.Comes.{NextFrame, NoInput}
pub use Rattle.link_laws.specs.messages.Links.EndEvent.{Lose, Step}
pub use Rattle.link_laws.specs.messages.Links.Ending.{GoesOut}
pub use Rattle.link_laws.specs.messages.Links.Loss.{OnDemand}
pub use Rattle.link_laws.specs.sessions.Sessions.{OnWire, aged_wire, took_with}
pub use Rattle.link_wires.proofs.Notes.{end_is, more_noted}
pub use Rattle.link_wires.proofs.Results.{on_ok}
pub use Rattle.link_wires.proofs.Wires.{IsTakenOff}
pub use Rattle.link_wires.specs.Notes.{AreNoted, side_of}
pub use Rattle.link_wires.specs.Wires.{WireStandsFor, kept_of}
pub use Rattle.link_wires.specs.declared.wire.Flying.{Flying}
pub use Rattle.shdlc_core.specs.Machine.{EndState, fetched}
pub use Rattle.shdlc_core.specs.declared.answers.Due.{Due}
pub use Rattle.swp_base.specs.declared.control_frames.Control.{Control}
pub use Rattle.swp_lpdu.specs.Controls.{control_of}
pub use Rattle.trace_model.specs.Ends.{other_end}
pub use Rattle.trace_model.specs.Lines.{IsLineOf}
pub use Rattle.trace_model.specs.declared.entry.Entry.{Entry}
pub use Rattle.trace_model.specs.declared.entry.Entry.TheVariants.{No}
pub use Rattle.trace_model.specs.declared.entry.NoCause.{NoCause}
pub use Rattle.trace_model.specs.declared.entry.NoCause.TheVariants.{Empty}
pub use Rattle.trace_model.specs.declared.line.End.{End}
pub use Rattle.trace_model.specs.declared.line.Header.{Header}
pub use Rattle.trace_model.specs.declared.line.Line.{Line}
pub use Rattle.world.specs.BareWorlds.{HasBareRoom, HasBareRoomToSettle, WorldStandsFor, bare_entries, with_steps}
pub use Rattle.world.specs.Lines.{Does, DoesAll, HasRepeated, HaveSent, SidesStandFor, end_for, told_on}
pub use Rattle.world.specs.Nodes.{NodeStandsFor, Reached}
pub use Rattle.world.specs.Noting.{acked_on, reported}
pub use Rattle.world.specs.Sides.{HasHappened, IsMidway, LinkStandsFor, SideStandsFor}
pub use Rattle.world.specs.Worlds.{IsFaultThere, MayCountBelow, MayOpen, StandsBelow}
pub use Rattle.world.specs.declared.bare_world.BareWorld.{BareWorld}
pub use Rattle.world.specs.declared.fault.WorldFault.{WorldFault}
pub use Rattle.world.specs.declared.node.Node.{Node}
pub use Rattle.world.specs.declared.node.Place.{Place}
pub use Rattle.world.specs.declared.side.Side.{Side}
pub use Rattle.world.specs.declared.world_steps.Below.{Below}
pub use Rattle.world.specs.declared.world_steps.Below.TheVariants.{Bare, Nodes}
pub use Rattle.world.specs.declared.world_steps.OpenLine.{OpenLine}
pub use Rattle.world.specs.declared.world_steps.World.{World}
