-- A worked example of a link of nodes that settles and holds no message meanwhile, computed from the definitions.
use Rattle.world_laws.proofs.Words.{Activates, AnyOk, ArePoweredNotes, AreUnheldNotes, AreUpWith, Boots, Emit, Entry, Gives, Happening, List, NodeWorld, None}
use Rattle.world_laws.proofs.Words.{Occurrence, Resets, Sent, Takes, Took, [], all_happen, end_c, end_h, entries_in, fragments_noted, new_world, refl, true}
use Rattle.world_laws.proofs.Words.{world_settling, ◌∷◌, ◌≡◌}
use Rattle.hci_tables.specs.declared.command.Command.TheVariants as command
use Rattle.trace_model.specs.declared.entry.Entry.TheVariants.{Acked, Command, Got, Turn}
use Rattle.journal_laws.specs.Records.{found_from}
use Rattle.gate_admin.specs.View.{hosts_where}
use Rattle.pipe_table.specs.PipeRows.{lowest_free}

-- the link of host 02 is activated and reset, and the host sends ANY_OPEN_PIPE on pipe 01
abbrev causes : List Happening
causes =
    Boots 0
    ∷ Boots 2
    ∷ Activates 2 6699 1
    ∷ Takes (end_c 2)
    ∷ Takes (end_h 2)
    ∷ Takes (end_c 2)
    ∷ Resets (end_c 2) None
    ∷ Takes (end_h 2)
    ∷ Takes (end_c 2)
    ∷ Gives (end_h 2) (1, 3 ∷ [])
    ∷ []

-- the world then, and what is noted so far
abbrev begun : NodeWorld × List Occurrence
begun = all_happen (new_world (2 ∷ [])) causes

abbrev before : List Entry
before = entries_in begun.1

-- what two rounds note, which bring the command, its response and the acknowledgements of both
abbrev later : List Entry
later =
    Took (end_c 2) (128 ∷ 129 ∷ 3 ∷ [])
    ∷ Got (end_c 2) 1 1 (3 ∷ [])
    ∷ Turn (end_c 2) 1 (3 ∷ [])
    ∷ Command 0 (command.SetOpened 2 1 true)
    ∷ Sent (end_c 2) 1 1 (128 ∷ 0 ∷ [])
    ∷ AnyOk 0 2
    ∷ Emit (end_c 2) (193 ∷ [])
    ∷ Emit (end_c 2) (129 ∷ 129 ∷ 128 ∷ 0 ∷ [])
    ∷ Took (end_h 2) (193 ∷ [])
    ∷ Acked (end_h 2) 1 1
    ∷ Took (end_h 2) (129 ∷ 129 ∷ 128 ∷ 0 ∷ [])
    ∷ Got (end_h 2) 1 1 (128 ∷ 0 ∷ [])
    ∷ Turn (end_h 2) 1 (128 ∷ 0 ∷ [])
    ∷ Emit (end_h 2) (193 ∷ [])
    ∷ Took (end_c 2) (193 ∷ [])
    ∷ Acked (end_c 2) 1 1
    ∷ []

-- what a line that has the links settle with 48 rounds at most does behind them
is_noted_later : entries_in (world_settling 48 begun.0).1 ≡ later
unfolding found_from hosts_where lowest_free
is_noted_later = refl

-- Each message has its turn at once, and all else that the law asks for is noted too: with one fragment it asks for 48 rounds.
none_is_held : AreUnheldNotes before later 2
unfolding found_from hosts_where lowest_free
none_is_held = record { controller = refl; host = refl; none_held = refl }

nothing_disturbs : ArePoweredNotes later 2
nothing_disturbs = record { undisturbed = record { lasting = refl; lossless = refl }; powered = refl }

both_are_up : AreUpWith before 2 1
unfolding found_from hosts_where lowest_free
both_are_up = record { controller = refl; host = refl }

one_fragment : fragments_noted before 2 1 ≡ 1
unfolding found_from hosts_where lowest_free
one_fragment = refl
