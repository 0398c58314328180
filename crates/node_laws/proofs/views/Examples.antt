-- REC_ERROR and views as they are read off the entries of small runs.
use Rattle.node_laws.proofs.Words.{AnyOk, Booted, Entry, Line, LineOutcome, List, NodeWorld, Option, Some, [], end_c, end_h, entries_in, errors_in, errors_of}
use Rattle.node_laws.proofs.Words.{line_step, map, new_world, node_at, occurrences_of, refl, replicate, true, view_at, ℕ, ◌++◌, ◌∷◌, ◌≡◌}
use Rattle.trace_model.specs.declared.entry.Entry.TheVariants.{Ask, Command, Cut, Down, Lost, Sent, Turn, Up}
use Rattle.swp_base.specs.declared.link_terms.Cause.TheVariants as cause
use Rattle.trace_model.specs.declared.entry.LostCause.TheVariants as lost
use Rattle.journal_laws.specs.Records.{found_from}
use Rattle.hci_tables.specs.declared.command.Command.TheVariants as command
use Rattle.gate_admin.specs.View.{hosts_where}
use Rattle.pipe_table.specs.PipeRows.{lowest_free}
use Rattle.node_machine.proofs.world.Schedules.{one_host, asks, sends}

-- ## Entries

-- both ends of the link of host 02
abbrev read_after : List Entry → List ℕ
read_after t = map (errors_in t) (end_c 2 ∷ end_h 2 ∷ [])

-- frames to both ends are refused, and one is too old
abbrev refused : List Entry
refused =
    Booted 0 0 ∷ Booted 2 0 ∷ Lost (end_c 2) (193 ∷ []) lost.Crc ∷ Lost (end_c 2) (193 ∷ []) lost.Age ∷ Lost (end_h 2) (193 ∷ []) lost.Broken
    ∷ Lost (end_h 2) (193 ∷ []) lost.Length ∷ []

refused_counts : read_after refused ≡ 1 ∷ 2 ∷ []
refused_counts = refl

-- REC_ERROR of the controller's end is set in vain while pipe 00 is closed, and then to 0102
abbrev set_in_vain : List Entry
set_in_vain = refused ++ (Turn (end_c 2) 0 (1 ∷ 1 ∷ 0 ∷ 9 ∷ []) ∷ Sent (end_c 2) 1 0 (134 ∷ []) ∷ [])

vain_counts : read_after set_in_vain ≡ 1 ∷ 2 ∷ []
vain_counts = refl

abbrev set_right : List Entry
set_right =
    set_in_vain
    ++ (Turn (end_c 2) 0 (3 ∷ []) ∷ Command 0 (command.SetOpened 2 0 true) ∷ Sent (end_c 2) 1 0 (128 ∷ 0 ∷ []) ∷ AnyOk 0 1
    ∷ Turn (end_c 2) 0 (1 ∷ 1 ∷ 1 ∷ 2 ∷ []) ∷ Sent (end_c 2) 1 0 (128 ∷ []) ∷ [])

right_counts : read_after set_right ≡ 258 ∷ 2 ∷ []
right_counts = refl

-- one more frame is refused, and the power of the controller is cut
more_counts : read_after (set_right ++ Lost (end_c 2) (193 ∷ []) lost.Alignment ∷ []) ≡ 259 ∷ 2 ∷ []
more_counts = refl

booted_counts : read_after (set_right ++ (Cut 0 ∷ Booted 0 1 ∷ [])) ≡ 0 ∷ 2 ∷ []
booted_counts = refl

-- it stops at FFFF
full_counts : read_after (set_right ++ (Turn (end_c 2) 0 (1 ∷ 1 ∷ 255 ∷ 255 ∷ []) ∷ Sent (end_c 2) 1 0 (128 ∷ []) ∷ Lost (end_c 2) (193 ∷ []) lost.Crc ∷ []))
    ≡ 65535 ∷ 2 ∷ []
full_counts = refl

-- ## Views

-- host 01 asks for a pipe to host 02, which is asked
abbrev asked_for : List Entry
asked_for =
    Booted 0 0 ∷ Up (end_c 1) 1 ∷ Up (end_c 2) 1 ∷ Command 0 (command.SetOpened 1 1 true) ∷ Command 0 (command.SetOpened 2 1 true)
    ∷ Turn (end_c 1) 1 (16 ∷ 17 ∷ 2 ∷ 18 ∷ []) ∷ Ask 2 (18 ∷ 1 ∷ 17 ∷ 2 ∷ 18 ∷ 2 ∷ []) ∷ Sent (end_c 2) 1 1 (18 ∷ 1 ∷ 17 ∷ 2 ∷ 18 ∷ 2 ∷ []) ∷ []

asked_view : view_at (1 ∷ 2 ∷ 3 ∷ []) asked_for 1
    ≡ record { hosts = 14; connected = 6; noticed = 4; asked = 4; waiting = record { items = 2 ∷ [] }; errors = 0 }
unfolding hosts_where
asked_view = refl

-- the session of host 01 ends: its creation is forgotten, and its notice stays unanswered
forgotten_view : view_at (1 ∷ 2 ∷ 3 ∷ []) (asked_for ++ Down (end_c 1) cause.Asked ∷ []) 2
    ≡ record { hosts = 14; connected = 4; noticed = 4; asked = 4; waiting = record { items = [] }; errors = 0 }
unfolding hosts_where
forgotten_view = refl

-- ## A run

-- a link comes up, and the host sets REC_ERROR of the controller's end: in vain while pipe 00 is closed, and to 0102 once it is open
abbrev is_set : List Line
is_set = one_host ++ asks 2 0 (1 ∷ 1 ∷ 0 ∷ 9 ∷ []) ++ asks 2 0 (3 ∷ []) ++ sends 2 0 (1 ∷ 1 ∷ 1 ∷ 2 ∷ [])

-- as the controller keeps it, behind each line
abbrev all_kept : NodeWorld → List Line → List (Option ℕ)
all_kept w [] = []
all_kept w (l ∷ lines) =
    let o : NodeWorld × LineOutcome = line_step w l in errors_of (node_at o.0 0) 2 ∷ all_kept o.0 lines

-- as it is read off the entries
abbrev all_read : NodeWorld → List Entry → List Line → List ℕ
all_read w t [] = []
all_read w t (l ∷ lines) =
    let o : NodeWorld × LineOutcome = line_step w l in
    let now : List Entry = t ++ entries_in (occurrences_of o.1) in
    errors_in now (end_c 2) ∷ all_read o.0 now lines

kept : all_kept (new_world (2 ∷ [])) is_set
    ≡ replicate 16 (Some 0) ++ Some 258 ∷ []
unfolding found_from hosts_where lowest_free
kept = refl

read : all_read (new_world (2 ∷ [])) [] is_set ≡ replicate 16 0 ++ 258 ∷ []
unfolding found_from hosts_where lowest_free
read = refl
