-- The identifiers of UICCs that a node keeps, and what ends a step of it.
use Rattle.std.specs.Prelude.{ℕ, ◌&&◌, not, if◌then◌else◌, List, [], ◌∷◌, map, Option, None, Some}
use Rattle.std.specs.Option.{option_map_or}
use Rattle.journal_laws.specs.declared.state.State.{State}
use Rattle.hci_tables.specs.declared.command.Command.TheVariants.{Sync}
use Rattle.hci_tables.specs.Tables.{HciTables, is_kept_sync}
use Rattle.link_end.specs.declared.report.LinkReport.{LinkReport}
use Rattle.node_machine.specs.Parts.{Work, Deed}
use Rattle.node_machine.specs.Parts.Deed.{Commits}
use Rattle.node_machine.specs.Carrying.{has_room_for, unless_cut, all_done}
use Rattle.node_machine.specs.Node.{forgets, forgotten, all_owed, without_notice, after_sessions, answers_and_passes}

-- the identifier that a host sent is committed, where it isn't the one that is kept and there is room
abbrev pub id_kept : State → HciTables → ℕ × ℕ → List Deed
id_kept s t pair =
    if not (is_kept_sync t.syncs pair.0 pair.1) && has_room_for s (Sync pair.0 pair.1) then Commits (Sync pair.0 pair.1) ∷ [] else []

-- the same, where one came, with its host
abbrev pub sync_kept : State → HciTables → Option (ℕ × ℕ) → List Deed
sync_kept s t came = option_map_or (id_kept s t) came []

-- the identifier that came by what is told of the end of the link with this host, where one did
abbrev pub sync_told : ℕ → Option LinkReport → Option (ℕ × ℕ)
sync_told h None = None
sync_told h (Some told) = option_map_or (λ (id : ℕ). Some (h, id)) told.sync None

-- a node with its ends once sessions have ended there
abbrev pub left_over : Work → Work
left_over w = record w { core = after_sessions w.core w.ports; ports = map without_notice (map (forgets w.ports) w.ports) }

-- Behind what came in a step: blocks of askers are freed, identifiers are kept, and what is owed is given.
abbrev pub settles : List Deed → Work → Work
settles syncs w =
    unless_cut (all_done 0 (all_owed (map (forgets w.ports) w.ports))) (all_done 0 syncs (all_done 0 (forgotten w.ports) (left_over w)))

-- then the node has its turns
abbrev pub finishes : List Deed → Work → Work
finishes syncs w = answers_and_passes (forgotten w.ports) syncs (all_owed (map (forgets w.ports) w.ports)) (left_over w)
