-- The words of definitions and lower crates that these proofs speak in, each from where it is at home.
pub use Rattle.std.proofs.Common.{Bool, Err, IfErr, IsSomeAnd, IsTrue, List, None, Ok, OnErr, OnOk, Option, Result, Some, [], ap, append-nil, append_assoc}
pub use Rattle.std.proofs.Common.{arith, codes, cond, eqb, eqb-true, false, get_or, inl, inr, length, length-append, length-take, map, refl, replicate}
pub use Rattle.std.proofs.Common.{string_bytes, subst, suc, sym, take, take_all, true, zero, ℕ, ◌++◌, ◌+◌, ◌-◌, ◌<◌, ◌==◌, ◌^◌, ◌∙◌, ◌∷◌, ◌≡◌, ◌≤◌, ◌⊎◌}
pub use Rattle.std.proofs.lemmas.Grind.{common_steps}
pub use Rattle.std.proofs.lemmas.List.{take_more}
pub use Rattle.std.proofs.lemmas.List.Concat.{flat_map-append}
pub use Rattle.std.proofs.lemmas.List.Elements.{filter-append}
pub use Rattle.std.proofs.lemmas.Result.{IfErr-weaker, on_ok_weaker}
pub use Rattle.std.specs.Fmt.{decimal}
pub use Rattle.std.specs.List.{AllByRecursion, flat_map, fold}
pub use Rattle.std.specs.Str.Lines.{lines, strip_carriage_return}
pub use Rattle.drawn_schedule.specs.Schedule.{the_header}
pub use Rattle.history.specs.Steps.{bare_link}
pub use Rattle.lines_told.specs.lines.Below.{bare_link_behind, is_settling, misread_below, nodes_behind, opening_told, told_below}
pub use Rattle.lines_told.specs.lines.Plays.{Play, lines_of_play, lines_played, lines_played_of, lines_said, plays_of, plays_of_line, round_behind}
pub use Rattle.lines_told.specs.lines.Plays.{rounds_to_rest, schedule_told, told_of_line, told_of_play, told_of_rounds}
pub use Rattle.lines_told.specs.lines.Plays.Play.{Round, Said}
pub use Rattle.link_laws.specs.messages.Links.{Link}
pub use Rattle.node_laws.proofs.bounds.Paying.{asking_few}
pub use Rattle.node_laws.proofs.schedules.Ranges.{in_range}
pub use Rattle.node_laws.proofs.worlds.Schedules.{played_legal}
pub use Rattle.node_laws.specs.answers.Headline.{IsPlayed}
pub use Rattle.node_laws.specs.answers.Headline.PlayedHistory.{OfLink, OfNodes}
pub use Rattle.node_laws.specs.schedules.Ranges.{AreNodeLinesOf}
pub use Rattle.node_machine.specs.world.Lines.{line_step}
pub use Rattle.node_machine.specs.world.NodeHistories.{NoneIsMisread}
pub use Rattle.node_machine.specs.world.World.{NodeWorld, new_world}
pub use Rattle.schedule_text.specs.Answers.{IsInGrammar}
pub use Rattle.schedule_text.specs.Entries.{entry_line, entry_lines}
pub use Rattle.schedule_text.specs.Lines.{line_of}
pub use Rattle.swp_tool.specs.Generated.{AreCountsOf, HasCounted, IsGen}
pub use Rattle.swp_tool.specs.Pieces.{AllLackLineFeed, Halts, HaltsAtEnd, HasRead, IsFrontTranscript, IsReading, LacksLineFeed, bytes_left, ended_line}
pub use Rattle.swp_tool.specs.Pieces.{schedule_read, schedule_so_far}
pub use Rattle.swp_tool.specs.Replays.{HaltsAt, HaltsBefore, HaltsOn, HasFew, HasGoneThrough, HasPlayed, HasRoundsLeft, IsAt, Runs, WasStepped, halt_of}
pub use Rattle.swp_tool.specs.Runs.{AppendsText, IsSomeTranscript, IsUnderWay, Replayed, status_of}
pub use Rattle.swp_tool.specs.Schedules.{AtFault, AtMisread, Schedule, Stop, Too_many, and_line, and_lines, and_said, ended, nothing_read, schedule_in}
pub use Rattle.swp_tool.specs.Transcripts.{IsDoneText, IsPlayedText, IsTextBelow, IsTranscript, StopsWithText, TellsPlayed, done_line, history_below}
pub use Rattle.swp_tool.specs.Transcripts.{link_history, link_steps_from, nodes_history, played_told, what_happened}
pub use Rattle.swp_tool.specs.declared.pieces.Pieces.{Pieces}
pub use Rattle.swp_tool.specs.declared.replay.Halt.{Halt}
pub use Rattle.swp_tool.specs.declared.replay.Replay.{Replay}
pub use Rattle.swp_words.proofs.Taken.{behind}
pub use Rattle.swp_words.specs.declared.status.Status.{Status}
pub use Rattle.told_laws.specs.told.NodesTold.{nodes_told}
pub use Rattle.trace_model.specs.Lines.{IsNodeHeader, MayFollow}
pub use Rattle.trace_model.specs.declared.entry.Entry.{Entry, Entry as Told}
pub use Rattle.trace_model.specs.declared.line.Header.{Header}
pub use Rattle.trace_model.specs.declared.line.Line.{Line}
pub use Rattle.world.specs.Worlds.{HasRoomForLine, IsWorldAt, world_header}
pub use Rattle.world.specs.declared.world_steps.World.{World}
