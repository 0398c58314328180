-- What stands before the pass of a node in a step.
use Rattle.std.specs.Prelude.{if◌then◌else◌, List, [], ◌++◌, map, ℕ}
use Rattle.std.specs.List.{flat_map}
use Rattle.trace_model.specs.declared.entry.Entry.{Entry}
use Rattle.node_machine.specs.Parts.{Work, Deed, Running}
use Rattle.node_machine.specs.Carrying.{unless_cut, all_done}
use Rattle.node_machine.specs.Node.{NodeInput, input_at, told_at, all_come, with_older, told_late, times_out, forgotten, forgets, all_owed, without_notice}
use Rattle.node_machine.specs.Node.{after_sessions, synced}
use Rattle.node_machine.specs.Node.NodeInput.{AtEnd, TimePasses}
use Rattle.node_laws.specs.passes.Noting.{noted_by_deeds}
use Rattle.link_laws.specs.messages.Links.{Comes}
use Rattle.link_laws.specs.entries.Entries.End.{Controller}
use Rattle.history.specs.Steps.{entries_for}
use Rattle.node_machine.specs.world.World.{NodeWorld, link_to, near_end_in, arrival, comes_to, work_of}

-- something has come to a node, and late notices have reset their links
abbrev pub has_come_so : NodeInput → Work → Work
has_come_so input w = times_out input (all_come input w)

-- what is noted of links that late notices reset
abbrev pub told_of_late : NodeInput → Work → List Entry
told_of_late (AtEnd h i) w = []
told_of_late TimePasses w = flat_map (told_late w.core) (map with_older w.ports)

-- what is noted of what comes, and then of these
abbrev pub told_of_coming : NodeInput → Work → List Entry
told_of_coming input w = flat_map (λ p. told_at w.core p (input_at input p)) w.ports ++ told_of_late input (all_come input w)

-- the identifiers of UICCs that are kept in a step
abbrev pub syncs_in : NodeInput → Work → List Deed
syncs_in input w = flat_map (synced w.core input) w.ports

-- what is owed to askers in it
abbrev pub owed_in_step : NodeInput → Work → List Deed
owed_in_step input w = all_owed (map (forgets (has_come_so input w).ports) (has_come_so input w).ports)

-- Sessions have ended: their notices, commands and inits are forgotten, and the blocks of forgotten creations are free.
abbrev pub has_freed : NodeInput → Work → Work
has_freed input w =
    let came : Work = has_come_so input w in
    all_done 0 (forgotten came.ports) (record came {
      core = after_sessions came.core came.ports;
      ports = map without_notice (map (forgets came.ports) came.ports);
    })

-- identifiers are kept
abbrev pub has_synced : NodeInput → Work → Work
has_synced input w = all_done 0 (syncs_in input w) (has_freed input w)

-- and what is owed is given, unless the power has gone: the pass begins
abbrev pub comes_to_pass : NodeInput → Work → Work
comes_to_pass input w = unless_cut (all_done 0 (owed_in_step input w)) (has_synced input w)

-- What is noted in a step before its pass: what came, links that late notices reset, identifiers that are kept and what is owed; behind the
-- loss of power nothing.
abbrev pub noted_before_pass : NodeInput → Work → List Entry
noted_before_pass input w =
    told_of_coming input w
    ++ (noted_by_deeds 0 (syncs_in input w) (has_freed input w)
    ++ (if (has_synced input w).cut then [] else noted_by_deeds 0 (owed_in_step input w) (has_synced input w)))

-- ## Where steps of a controller begin

-- the controller as a step begins in which something comes to its end of the link with the host h
abbrev pub controller_begins : NodeWorld → Running → ℕ → Comes → Work
controller_begins w r h comes =
    work_of r w.memory.plan (λ k. near_end_in (link_to w.sites k) (comes_to h comes k)) (entries_for h (arrival Controller (link_to w.sites h) comes))

-- the controller as its tick begins
abbrev pub controller_tick_begins : NodeWorld → Running → Work
controller_tick_begins w r = work_of r w.memory.plan (λ k. (link_to w.sites k).controller) []
