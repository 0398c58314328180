-- The words of definitions and lower crates that these proofs speak in, each from where it is at home.
pub use Rattle.std.proofs.Common.{Bool, IfOk, IsSome, List, None, Ok, OnOk, Option, Result, Some, [], ap, append-nil, append_assoc, ap₂, arith, cond, drop}
pub use Rattle.std.proofs.Common.{eq-eqb, eqb, eqb-true, false, get_or, inl, inr, is_some, length, length-append, length-take, map, max, min, ne_eqb, not}
pub use Rattle.std.proofs.Common.{option_map, refl, replicate, rules, slice_index_or, slice_set, subst, suc, sym, take, true, true≢false, unwrap_or, zero, ℕ}
pub use Rattle.std.proofs.Common.{◌&&◌, ◌*◌, ◌++◌, ◌+◌, ◌-◌, ◌<◌, ◌==◌, ◌^◌, ◌∙◌, ◌∷◌, ◌≡◌, ◌≢◌, ◌≤◌, ◌⊎◌}
pub use Rattle.std.proofs.lemmas.Bool.{cases_Bool, eqb-false}
pub use Rattle.std.proofs.lemmas.Grind.{flat_map-append}
pub use Rattle.std.proofs.lemmas.List.{length-map, map-append, with_items_is}
pub use Rattle.std.proofs.lemmas.Result.{IfOk-at_ok, on_ok_weaker}
pub use Rattle.std.specs.List.{AllByRecursion, flat_map, fold, list_any}
pub use Rattle.std.specs.Option.{option_map_or}
pub use Rattle.std.specs.Vec.{with_items}
pub use Rattle.arrayvec.specs.ArrayVec.{ArrayVec}
pub use Rattle.gate_admin.proofs.ViewLemmas.{hosts_below}
pub use Rattle.gate_admin.specs.View.{hosts_where, mask_of}
pub use Rattle.hci_store.proofs.Committed.{sound_has_no_fault}
pub use Rattle.hci_store.specs.Image.{tables_of}
pub use Rattle.hci_tables.specs.Tables.{HciTables, close}
pub use Rattle.hcp_packet.specs.Packets.{AreSendable}
pub use Rattle.history.specs.Damage.Verdict.{LostFor, Same}
pub use Rattle.history.specs.Follows.{first_verdict, frames_to, seen_from, taken_of}
pub use Rattle.history.specs.Steps.{at, entries_for}
pub use Rattle.journal_laws.specs.Banks.{current}
pub use Rattle.journal_laws.specs.Journal.{count_of, state_by, state_of}
pub use Rattle.journal_laws.specs.Operations.{started_state}
pub use Rattle.journal_laws.specs.Planned.{after_planned, fails_within}
pub use Rattle.journal_laws.specs.declared.banks.Side.{Side}
pub use Rattle.journal_laws.specs.declared.state.State.{State}
pub use Rattle.lines_told.proofs.lines.Told.{after-append, lines_may_be_played}
pub use Rattle.lines_told.specs.lines.Below.{IsPlayedLine, nodes_behind}
pub use Rattle.lines_told.specs.lines.Plays.{IsPlayFor, Play, lines_of_play, lines_played, lines_said, round_behind}
pub use Rattle.lines_told.specs.lines.Plays.Play.{Round, Said}
pub use Rattle.link_end.specs.declared.report.ResetRefused.{ResetRefused}
pub use Rattle.link_laws.proofs.entries.Quieting.{same_number}
pub use Rattle.link_laws.specs.entries.Entries.{first_lost, put_entries, puts_entries}
pub use Rattle.link_laws.specs.entries.Entries.End.{Controller, Host}
pub use Rattle.link_laws.specs.machine.Machine.{LinkEnd, LinkInput, Message, Turn, after_input, ended_by, frames_out, new_link_end, next_frame, renewed}
pub use Rattle.link_laws.specs.machine.Machine.{sent_all, turned}
pub use Rattle.link_laws.specs.machine.Machine.LinkInput.{Reset, Start, Stop, Take, Tick}
pub use Rattle.link_laws.specs.machine.Machine.Role.{Clf, Uicc}
pub use Rattle.link_laws.specs.messages.Links.{Comes, Ending, Link, Loss, NumberedEnd, aged, becomes, cut, exchanged, happens, happens_at_controller, has_input}
pub use Rattle.link_laws.specs.messages.Links.{number_of, put, put_all, silent, ticks_at_controller, with_controller, with_ended}
pub use Rattle.link_laws.specs.messages.Links.Comes.{AsksReset, NextFrame, NoInput, Starts, Stops}
pub use Rattle.link_laws.specs.messages.Links.EndEvent.{Lose, Step}
pub use Rattle.link_laws.specs.messages.Links.Ending.{CutOff, GoesOut}
pub use Rattle.link_laws.specs.messages.Links.LinkEvent.{AtController}
pub use Rattle.link_laws.specs.messages.Links.Loss.{OnDemand}
pub use Rattle.link_laws.specs.messages.Rest.{is_clear}
pub use Rattle.link_laws.specs.sessions.Sessions.{OnWire, is_rset, is_up, took_with}
pub use Rattle.link_wires.proofs.Results.{on_ok}
pub use Rattle.link_wires.specs.Damages.{Finds}
pub use Rattle.link_wires.specs.Notes.{side_of}
pub use Rattle.link_wires.specs.declared.finding.Misread.{Misread}
pub use Rattle.node_core.proofs.Between.{all_one_by_one, kept_alike}
pub use Rattle.node_core.specs.Running.{RunsAs, SendsOneByOne, between}
pub use Rattle.node_core.specs.declared.node.Node.{Node}
pub use Rattle.node_ends.specs.Inputs.{input_of_end}
pub use Rattle.node_ends.specs.Making.{new_port}
pub use Rattle.node_laws.proofs.kept.Events.{site_found}
pub use Rattle.node_laws.proofs.order.Lines.{hosts_stay_behind}
pub use Rattle.node_laws.proofs.telling.Accounts.{AreMute, at_host}
pub use Rattle.node_laws.proofs.telling.Events.{host_opened, link_is, swapped}
pub use Rattle.node_laws.specs.kept.Books.{WouldFind, hosts_of_ends}
pub use Rattle.node_laws.specs.kept.Hosts.{AreDifferent, IsSentByHost}
pub use Rattle.node_laws.specs.kept.Worlds.{AllKeep, SiteKeeps}
pub use Rattle.node_laws.specs.links.Runs.{IsPlayable}
pub use Rattle.node_laws.specs.telling.Telling.{HasEnds, IfItRuns, IsOrderly, NoneDue, hosts_in, is_due}
pub use Rattle.node_machine.proofs.world.Cases.{boot_found, boot_written, by_boot, by_coming, by_controller, by_controller_tick, by_host, by_host_tick, by_loss}
pub use Rattle.node_machine.proofs.world.Cases.{by_memory, by_power, by_running, host_tick, near_tick, site_lost, site_ticked, site_unticked}
pub use Rattle.node_machine.specs.Carrying.{changed_if, port_at, with_port}
pub use Rattle.node_machine.specs.Node.{begins_with, boot_writes, found, has_come, input_at, new_desk, steps}
pub use Rattle.node_machine.specs.Node.NodeInput.{AtEnd, TimePasses}
pub use Rattle.node_machine.specs.Parts.{Core, Deed, Desk, Port, Running, Work}
pub use Rattle.node_machine.specs.world.Lines.{LineOutcome, Occurrence, all_happen, can_happen, frames_at, goes_on, if_off, is_running, line_step, machine_in}
pub use Rattle.node_machine.specs.world.Lines.{misread_in, refusal_in}
pub use Rattle.node_machine.specs.world.Lines.LineOutcome.{Occurred, WasRefused}
pub use Rattle.node_machine.specs.world.NodeFilters.{Book, book_in, commands_in, with_found}
pub use Rattle.node_machine.specs.world.NodeHistories.{FollowsNodes, NodeHistory, NoneIsMisread, entries_in, steps_from, world_after}
pub use Rattle.node_machine.specs.world.NodeLegal.{FindsCommands, Last, last_in}
pub use Rattle.node_machine.specs.world.Rounds.{end_takes_all, ends_in_order, ends_take_all, world_round}
pub use Rattle.node_machine.specs.world.World.{Happening, NodeWorld, NodeWorld as Machine, Site, activates, after_host, all_aged, arrival, beginning, boots}
pub use Rattle.node_machine.specs.world.World.{comes_at, comes_to, controller_does, controller_ticks, controller_work, counts, end_c, end_h, ending_of}
pub use Rattle.node_machine.specs.world.World.{frame_lost, frames_noted, host_cut, host_does, host_ticks, host_work, hosts_tick, input_of, is_late_at}
pub use Rattle.node_machine.specs.world.World.{link_after_controller, link_to, links_of, loses_power_at, memory_at, near_end_in, new_memory, new_site}
pub use Rattle.node_machine.specs.world.World.{new_world, node_at, node_of, port_for, sending, site_at, ticked_so, turns_at, wires_for, with_memory, with_node}
pub use Rattle.node_machine.specs.world.World.{with_site, work_of, world_step, world_ticks}
pub use Rattle.node_machine.specs.world.World.Happening.{Activates, Arms, Boots, Gives, Inits, IsCut, Loses, Resets, Takes, Ticks}
pub use Rattle.node_sites.proofs.Numbered.{arrival_numbered, none_noted, noted_behind, stepped, work_numbers}
pub use Rattle.node_sites.proofs.Powers.{kept_is}
pub use Rattle.node_sites.specs.Arrivals.{ComesToEnd, IsArrivalOf, MayArrive, as_comes, refusal_arrived}
pub use Rattle.node_sites.specs.Asking.{deeds_asked, message_asked}
pub use Rattle.node_sites.specs.FramesOut.{IsOnly, SendsFrom, sent_port}
pub use Rattle.node_sites.specs.LinksKept.{SameWires, WiresStandFor, as_it_comes, with_bare_wires, without_first}
pub use Rattle.node_sites.specs.Memories.{IsSoundMemory, KeepsSome}
pub use Rattle.node_sites.specs.Numbers.{AreNumbered, CountsFew, StaysCounted, session_at}
pub use Rattle.node_sites.specs.Places.{SiteIs}
pub use Rattle.node_sites.specs.Powers.{IsNodePlace, is_on, memory_kept, node_memory}
pub use Rattle.node_sites.specs.WorldBoots.{EndsBoot}
pub use Rattle.node_sites.specs.WorldNodes.{BeginsOver, HasGone}
pub use Rattle.node_sites.specs.declared.incoming.Arrived.{Arrived}
pub use Rattle.node_sites.specs.declared.incoming.Incoming.{Incoming}
pub use Rattle.node_sites.specs.declared.nodes.Asked.{Asked}
pub use Rattle.node_sites.specs.declared.noted.Noted.{Noted}
pub use Rattle.node_sites.specs.declared.places.HostSite.{HostSite}
pub use Rattle.node_sites.specs.declared.power.Power.{Power}
pub use Rattle.node_sites.specs.declared.power.Power.TheVariants.{Off, On}
pub use Rattle.node_sites.specs.declared.wires.Wires.{Wires}
pub use Rattle.node_world.specs.Bounds.{AcksWithin, FewBehind, FewOn, FewOnEach, IsFromOutside}
pub use Rattle.node_world.specs.Controllers.{AreSessions, AreTimely, EndsStep, FewAreCounted, GoesOnWith, HasOneEnd, HaveRoom, IsThere, MayGoOn, SendsTo}
pub use Rattle.node_world.specs.Controllers.{SitesAre, StandsAt, WentOffWith, WorldBecomes, WorldIs, as_it_comes_to, due_at, frames_emitted, has_frames}
pub use Rattle.node_world.specs.Controllers.{near_ticks, sent_to, with_bare_link}
pub use Rattle.node_world.specs.HostSteps.{BecomesUnless, CountsComing, CountsOn, EndDoes, HasBecome, IsHostOf, IsToSend, MayTick, host_behind, host_boots}
pub use Rattle.node_world.specs.HostSteps.{host_hears, host_stepped, refusal_coming, reset_noted, sending_refused, site_ages, site_loses}
pub use Rattle.node_world.specs.Rounds.{MayGoRound, MayTakeAll, MayTakeInOrder, WorldHasGone}
pub use Rattle.node_world.specs.Whole.{AreToTick, HostsPlayed, IsMisreadIn, IsWithinBounds, LinePlayed, MayPlay, SitesBecome, if_accepted, is_damaging}
pub use Rattle.node_world.specs.Whole.{line_asked}
pub use Rattle.nv_journal.proofs.Appending.{on_err}
pub use Rattle.shdlc_core.specs.Machine.{is_waiting}
pub use Rattle.swp_act.specs.Activation.{new_clf, new_uicc}
pub use Rattle.swp_base.specs.InMemory.{Memory, Plan}
pub use Rattle.swp_base.specs.declared.control_frames.Control.{Control}
pub use Rattle.swp_base.specs.declared.outside.NoMemory.{NoMemory}
pub use Rattle.trace_model.specs.Lines.{IsHost, IsNodeHeader, IsNodeOf}
pub use Rattle.trace_model.specs.declared.entry.Entry.{Entry}
pub use Rattle.trace_model.specs.declared.entry.NoCause.{NoCause}
pub use Rattle.trace_model.specs.declared.line.End.{End}
pub use Rattle.trace_model.specs.declared.line.Header.{Header}
pub use Rattle.trace_model.specs.declared.line.Line.{Line}
