-- The words of schedules, lines, entries and nodes that these proofs speak in, each from where it is at home.
pub use Rattle.block_pool.proofs.HoldingLemmas.{all_joined, all_mapped}
pub use Rattle.gate_answers.specs.Answers.{answer_of, body_in, code_of, first_of, instruction_in, param_in, tests_to_get, value_in as value_behind}
pub use Rattle.gate_identity.specs.Identity.{identity_served}
pub use Rattle.gate_link.specs.Link.{count_in, link_served, link_unless_refused as link_unless, tests_to_set_errors}
pub use Rattle.hci_tables.specs.Commands.{is_command, is_dynamic}
pub use Rattle.hci_tables.specs.Tables.{AreTables, HciTables, after_commands, apply, is_kept_sync, is_opened, no_tables, static_place, sync_host, with_static}
pub use Rattle.hci_tables.specs.Tables.{without_identity}
pub use Rattle.hci_tables.specs.declared.command.Command.{Command}
pub use Rattle.hci_tables.specs.declared.command.Command.TheVariants.{Clear, Create, Delete, Set, SetOpened, Sync}
pub use Rattle.hcp_packet.specs.MessageHeader.{header_of}
pub use Rattle.hcp_packet.specs.Packets.{IsFrontOf, good_of, is_good, packet_bytes, packet_count, packets_in, packets_of, parts_of}
pub use Rattle.hcp_packet.specs.declared.MessageFault.{MessageFault}
pub use Rattle.hcp_packet.specs.declared.MessageKind.{MessageKind}
pub use Rattle.hcp_packet.specs.declared.MessageKind.TheVariants.{Command as IsCommand, Event as IsEvent, Response as IsResponse}
pub use Rattle.hex.specs.Hex.{encode_upper, upper_digits}
pub use Rattle.history.specs.Damage.{Verdict}
pub use Rattle.history.specs.Follows.{Follows, StepsFollow, as_noted, causes_in, damage_causes, first_verdict, frames_to, host_of, if_beyond, if_empty}
pub use Rattle.history.specs.Follows.{if_out_of_reach, link_after_line, machine_of, misread, opening_of, outcome_of, refusal, taken_of}
pub use Rattle.history.specs.Histories.{Event, History, Outcome, all_entries, all_events, causes_of, entries_of, events_of, noted}
pub use Rattle.history.specs.Histories.Cause.{Given, Readied, Taken, Ticked, WasLost, WasReset}
pub use Rattle.history.specs.Histories.Outcome.{Caused, Refused as LineRefused}
pub use Rattle.history.specs.Steps.{at, bare_link, end_of, entries_for, entry_of, event_of, events_at, idle, link_after, link_after_all}
pub use Rattle.journal_laws.specs.Planned.{after_planned, fails_within}
pub use Rattle.lines_told.proofs.lines.Told.{after-append, bare_lines, for_with, lines-append, lines_may_be_played, played-append}
pub use Rattle.lines_told.proofs.lines.Told.{played_more, plays_for, plays_more, round_first, round_is, round_known, round_lines, round_told, said-append}
pub use Rattle.lines_told.proofs.lines.Told.{sure_below, takes_so, told-append, told_in}
pub use Rattle.lines_told.specs.lines.Below.{IsPlayedLine, bare_link_behind, entries_below, misread_below, nodes_behind, opening_told, told_below}
pub use Rattle.lines_told.specs.lines.Plays.{AreFewPlays, IsPlayFor, Play, lines_of_play, lines_played, lines_played_of, lines_said, plays_of, plays_of_line}
pub use Rattle.lines_told.specs.lines.Plays.{round_behind, round_in, rounds_played, rounds_to_rest, schedule_told, taking_in, told_behind}
pub use Rattle.lines_told.specs.lines.Plays.{told_of_line, told_of_lines, told_of_rounds}
pub use Rattle.lines_told.specs.lines.Plays.Play.{Round, Said}
pub use Rattle.lines_told.specs.lines.RoundLines.{HostsStay, IsRoundLine}
pub use Rattle.link_laws.specs.entries.Entries.{End as Side, Entry as Noted, aged_entries, ending_entries, event_entries, far, first_lost, here_entries, if_so}
pub use Rattle.link_laws.specs.entries.Entries.{pushed_out, put_entries, puts_entries, rest_entries, step_entries, taken_entries, tick_entries}
pub use Rattle.link_laws.specs.entries.Entries.{told, told_of, turn_entries, turn_entry, wire_with}
pub use Rattle.link_laws.specs.entries.Entries.End.{Controller, Host}
pub use Rattle.link_laws.specs.entries.Entries.Entry.{Acked, Active, Emit, GaveUp, Got, Lost, Sent, Took, Up as Begins}
pub use Rattle.link_laws.specs.machine.Machine.{ActDue, LinkEnd, LinkInput, Message, Refused, Report, Role, Turn, act_answer, activated, after_input, among}
pub use Rattle.link_laws.specs.machine.Machine.{brought, deactivated, ended_by, frames_out, gave_up_by, give_refusal, given, had_tick, heard, if_up, in_front}
pub use Rattle.link_laws.specs.machine.Machine.{is_faulty, is_open, messages_got, moved, need, news, put_down, report, reset_by, reset_refusal, role_after}
pub use Rattle.link_laws.specs.machine.Machine.{sent_all, spare, started, took, turn, turned, unless, whole_acked, whole_among, window_of, with_act}
pub use Rattle.link_laws.specs.machine.Machine.LinkInput.{Reset, Start, Stop, Take, Tick, Tick as HasTick}
pub use Rattle.link_laws.specs.machine.Machine.Role.{Bare, Clf, Uicc}
pub use Rattle.link_laws.specs.machine.Machine.Turn.{FetchMessage, Give, Hold, Release, SetAside}
pub use Rattle.link_laws.specs.messages.Links.{Comes, EndEvent, Ending, Link, Loss, NumberedEnd, aged, becomes, exchanged, finished, happens}
pub use Rattle.link_laws.specs.messages.Links.{happens_at_controller, has_input, has_restarted, has_taken, new_link, number_of, put, put_all, silent}
pub use Rattle.link_laws.specs.messages.Links.{steps_at_controller, ticks_at_controller, with_controller, with_ended}
pub use Rattle.link_laws.specs.messages.Links.Comes.{AsksReset, NextFrame, NoInput, Starts, Stops}
pub use Rattle.link_laws.specs.messages.Links.EndEvent.{Lose, Step}
pub use Rattle.link_laws.specs.messages.Links.Ending.{CutOff, GoesOut}
pub use Rattle.link_laws.specs.messages.Links.Loss.{Broken, TooMany}
pub use Rattle.link_laws.specs.messages.Rest.{is_clear}
pub use Rattle.link_laws.specs.messages.Rsets.{EndIsLow, FewRsets, WireIsLow}
pub use Rattle.link_laws.specs.sessions.Sessions.{OnWire, aged_wire, fits, is_rset, is_up, took_with}
pub use Rattle.node_laws.proofs.Cases.{by_list, by_option, by_test}
pub use Rattle.node_laws.proofs.Each.{all_changed, all_map}
pub use Rattle.node_laws.proofs.acked.AckedRounds.{IsSound, each_amid, each_rounds, sound_new}
pub use Rattle.node_laws.proofs.answers.OneFact.{some_is}
pub use Rattle.node_laws.proofs.bounds.Paying.{other_twice}
pub use Rattle.node_laws.proofs.kept.Ticking.{MayAllHappen, few_front, first_none, line_may, world_goes}
pub use Rattle.node_laws.proofs.order.Lines.{hosts_stay, hosts_stay_behind}
pub use Rattle.node_laws.proofs.rsets.InWorlds.{each_longer, few_behind_step, few_in_new_world}
pub use Rattle.node_laws.specs.acked.AckedRounds.{AreAckedWithin, amid_round}
pub use Rattle.node_laws.specs.kept.Hosts.{AreDifferent, AreHosts, IsFew, IsSentByHost}
pub use Rattle.node_laws.specs.kept.Worlds.{AllKeep, IfRuns, MayHappen, SiteKeeps}
pub use Rattle.node_laws.specs.rsets.Causes.{FewRsetsOnEach, rsets_by}
pub use Rattle.node_laws.specs.schedules.Ranges.{AreNodeLinesOf, IsNodeLineOf, lines_asking}
pub use Rattle.node_machine.proofs.Walks.{all_owed_hold, anyone, forgotten_hold, ordered_holds, told_hold}
pub use Rattle.node_machine.proofs.world.Cases.{boot_found, boot_written, by_boot, by_coming, by_controller, by_controller_tick, by_host, by_host_tick, by_loss}
pub use Rattle.node_machine.proofs.world.Cases.{by_memory, by_power, by_running, host_tick, near_tick, site_lost}
pub use Rattle.node_machine.specs.Carrying.{after_turn, all_done, changed_if, commit, done, end_of_node, end_view, finds_room, lack, needs, noted_of, notified}
pub use Rattle.node_machine.specs.Carrying.{noting, own_side, own_view, port_at, turn_at, unless_cut, with_desk, with_port}
pub use Rattle.node_machine.specs.Controller.{about_at, answers_on, asks_for, controller_deeds, creation_deeds, creation_in, decision_deeds, gates}
pub use Rattle.node_machine.specs.Controller.{goes_through, has_link, kind_deeds, link_deeds, notice_deeds, own_gate, relayed_to, served_at, view_for, view_of}
pub use Rattle.node_machine.specs.Node.{NodeInput, after_sessions, all_come, all_owed, answers_and_passes, begins_with, boot_writes, forgets, forgotten}
pub use Rattle.node_machine.specs.Node.{has_come, input_at, is_late, new_desk, reset_late, steps, synced, times_out}
pub use Rattle.node_machine.specs.Node.{told_at, told_late, with_older, without_notice}
pub use Rattle.node_machine.specs.Node.NodeInput.{AtEnd, TimePasses}
pub use Rattle.node_machine.specs.Parts.{About, Core, Creation, Deed, Desk, Init, Port, Running, Work}
pub use Rattle.node_machine.specs.Parts.Deed.{Asks, Commits, Drops, Ends, GoesOn, Hears, IsAnswered, Orders, Releases, SaysOk, Sends, SetsErrors, Tells}
pub use Rattle.node_machine.specs.world.Lines.{LineOutcome, Occurrence, all_happen, can_happen, first_cause, frames_at, goes_on, happenings, happens_by}
pub use Rattle.node_machine.specs.world.Lines.{if_not_sent, if_off, if_waiting, is_running, line_step, machine_in, misread_in, noted_below, refusal_in}
pub use Rattle.node_machine.specs.world.Lines.{tables_told}
pub use Rattle.node_machine.specs.world.NodeFilters.{Book, book_after, commands_in, new_book, tables_in, with_command, with_found}
pub use Rattle.node_machine.specs.world.NodeHistories.{FollowsNodes, LineStep, NodeHistory, NoneIsMisread, entries_in, occurrences_of, steps_from, world_after}
pub use Rattle.node_machine.specs.world.Rounds.{end_takes_all, ends_in_order, ends_take_all, world_round}
pub use Rattle.node_machine.specs.world.World.{Happening, NodeWorld, Site, activates, after_controller, after_host, all_aged, arrival, beginning, boots}
pub use Rattle.node_machine.specs.world.World.{comes_at, comes_to, controller_does, controller_ticks, controller_work, counts, end_c, end_h, ending_of}
pub use Rattle.node_machine.specs.world.World.{frame_lost, frames_noted, host_cut, host_does, host_ticks, host_work, hosts_tick, input_of, is_late_at}
pub use Rattle.node_machine.specs.world.World.{link_after_controller, link_to, links_of, loses_power_at, memory_at, near_end_in, new_site, new_world, node_at}
pub use Rattle.node_machine.specs.world.World.{node_of, port_for, runs_on, sending, site_at, ticked_so, turns_at, wires_for, with_memory, with_node, with_site}
pub use Rattle.node_machine.specs.world.World.{work_of, world_step, world_ticks}
pub use Rattle.node_machine.specs.world.World.Happening.{Activates, Arms, Boots, Gives, Inits, IsCut, Loses, Resets, Takes, Ticks}
pub use Rattle.pipe_table.specs.PipeRows.{ArePipeRows, IsDynamic, all_closed, as_opened, ends_at, opened_on, pid_of, pipe_at, with_opened}
pub use Rattle.pipe_table.specs.declared.row.PipeRow.{PipeRow}
pub use Rattle.registry.proofs.ValueLemmas.{AllByRecursion-append as each-append, AllByRecursion-filter, AllByRecursion-get, AllByRecursion-take}
pub use Rattle.registry.specs.Values.{default_of, is_default, place_of_value, value_at, value_place, with_value}
pub use Rattle.registry.specs.declared.value.RegValue.{RegValue}
pub use Rattle.schedule_text.proofs.AgainLemmas.{IsWord, byte_again, bytes_again, end_again, end_word, hex_word, length-hex, number_word, own, words-spaced}
pub use Rattle.schedule_text.proofs.LinesLemmas.{MayFollow-line_of, Says, says_activate, says_arm, says_boot, says_busy, says_cut, says_damage, says_deliver}
pub use Rattle.schedule_text.proofs.LinesLemmas.{says_header, says_init, says_lose, says_nodes, says_ready, says_reset, says_send, says_settle, says_tables}
pub use Rattle.schedule_text.proofs.LinesLemmas.{says_tick}
pub use Rattle.schedule_text.proofs.ReadAgainLemmas.{found_in, header_hosts, node_fits}
pub use Rattle.schedule_text.specs.Entries.{byte_text, cause_words, command_words, count_words, end_text, entry_line, entry_text, entry_words}
pub use Rattle.schedule_text.specs.Entries.{header_words, line_words, lines_behind, number_words, two_bytes_text}
pub use Rattle.schedule_text.specs.Lines.{by_row, by_words, has_nodes, hosts_of, is_comment, line_of, may_stand, read_of, unless_fault}
pub use Rattle.schedule_text.specs.Words.{spaced, words}
pub use Rattle.shdlc_core.proofs.Histories.{in_phase}
pub use Rattle.shdlc_core.specs.Machine.{EndState, Fragment, Session, accepted, acknowledged, after_frames, ahead, all_frames, control_due, discarded}
pub use Rattle.shdlc_core.specs.Machine.{expected, fetched, fragment_due, frame_due, frames_of, is_waiting, place_of, put_out, received}
pub use Rattle.shdlc_core.specs.Machine.{reset_with, stopped, take_answer, taken, tick_answer, ticked}
pub use Rattle.shdlc_core.specs.declared.answers.Due.{Due}
pub use Rattle.shdlc_core.specs.declared.answers.LinkState.{LinkState}
pub use Rattle.shdlc_core.specs.declared.answers.LinkState.TheVariants.{Down, Up, Waiting}
pub use Rattle.sorted_rows.proofs.RowLemmas.{AreRows-filter, AreRows-map, AreRows-with_row, length-rows, row_of-within}
pub use Rattle.std.proofs.Common.{All, Bool, Contains, Err, IfSome, IsSome, IsTrue, List, None, Ok, Option, Result, Some, [], ap, append-nil, append_assoc}
pub use Rattle.std.proofs.Common.{arith, bytes_eq, codes, cond, decimal, drop, eqb, eqb-true, false, find, fold, if◌then◌else◌, inl, inr}
pub use Rattle.std.proofs.Common.{is_some, length, length-append, map, min, nat_le, nat_lt, not, refl, replicate, slice_get, slice_index, subst, suc, sym, take}
pub use Rattle.std.proofs.Common.{true, unwrap_or, zero, ℕ, ◌%◌, ◌&&◌, ◌*◌, ◌++◌, ◌+◌, ◌-◌, ◌/◌, ◌<◌, ◌==◌, ◌^◌, ◌↔◌, ◌∙◌, ◌∷◌, ◌≡◌, ◌≤◌}
pub use Rattle.std.proofs.lemmas.Bool.{cond_both, leb-true, ltb-false}
pub use Rattle.std.proofs.lemmas.Fmt.{decimal_injective, digits_decimal}
pub use Rattle.std.proofs.lemmas.Grind.{common_steps}
pub use Rattle.std.proofs.lemmas.List.{length-map, length-replicate}
pub use Rattle.std.proofs.lemmas.List.Concat.{flat_map-append}
pub use Rattle.std.proofs.lemmas.List.Folds.{list_all-append}
pub use Rattle.std.proofs.lemmas.List.Sums.{count_by-le-length}
pub use Rattle.std.specs.List.{AllByRecursion, cons_option, flat_map, list_all, list_any}
pub use Rattle.std.specs.Option.{option_map_or}
pub use Rattle.swp_act.specs.declared.ActEvent.{ActEvent}
pub use Rattle.swp_act.specs.declared.ActEvent.TheVariants.{Start as ActStart, Stop as ActStop, Take as ActTake, Tick as ActTick}
pub use Rattle.swp_base.specs.Bits.{IsByte, bits_of}
pub use Rattle.swp_base.specs.InMemory.{Memory, Plan}
pub use Rattle.swp_base.specs.declared.control_frames.Act.{Act}
pub use Rattle.swp_base.specs.declared.control_frames.Act.TheVariants.{PowerMode, Ready, SyncId}
pub use Rattle.swp_base.specs.declared.control_frames.Control.{Control}
pub use Rattle.swp_base.specs.declared.control_frames.Control.TheVariants.{Act as ActFrame, Clt, I, Rset, S, Ua}
pub use Rattle.swp_base.specs.declared.control_frames.Kind.TheVariants.{Rej, Rnr, Rr, Srej}
pub use Rattle.swp_base.specs.declared.link_terms.Cause.TheVariants.{Asked}
pub use Rattle.swp_frame.specs.Stuffing.{end_of_frame, frame_of, start_of_frame, stuffed, stuffed_after, with_crc}
pub use Rattle.swp_lpdu.specs.Controls.{lpdu_of}
pub use Rattle.tables_text.specs.Tables.{end_words, hex_or_dash, pipe_line, rows_text, state_as_word, static_line, sync_line, value_line}
pub use Rattle.told_laws.specs.texts.Ranges.{AreOctets, AreSaidTables, IsCause, IsEnd, IsEntry, IsLineSaid, IsNumber, IsSaidCommand, IsSaidPipe, IsSaidStatic}
pub use Rattle.told_laws.specs.texts.Ranges.{IsSaidSync, IsSaidValue, IsTwoBytes}
pub use Rattle.told_laws.specs.told.Told.{entries_told, step_told}
pub use Rattle.trace_model.specs.Lines.{IsEndOf, IsHeader, IsHost, IsLineOf, IsNodeHeader, IsNodeOf, MayBegin, MayFollow}
pub use Rattle.trace_model.specs.declared.entry.Entry.{Entry}
pub use Rattle.trace_model.specs.declared.entry.Entry.TheVariants.{Echo, InitFailed, InitMade, InitSame}
pub use Rattle.trace_model.specs.declared.entry.NoCause.{NoCause}
pub use Rattle.trace_model.specs.declared.line.End.{End, End as NamedEnd}
pub use Rattle.trace_model.specs.declared.line.Header.{Header}
pub use Rattle.trace_model.specs.declared.line.Line.{Line}
