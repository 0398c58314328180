-- Worked examples compute.
use Rattle.lone_laws.proofs.Words.{AnyOk, Dropped, Entry, FrameComes, FrameIsRefused, List, Lone, LoneCause, LoneEvent, Memory, None, OnBytes, OnLine}
use Rattle.lone_laws.proofs.Words.{ResetComes, Sent, StartComes, StopComes, [], end_c, end_causes, end_h, end_node, end_written, false, lone_after, lone_events}
use Rattle.lone_laws.proofs.Words.{map, new_memory, refl, replicate, take, true, ℕ, ◌++◌, ◌∷◌, ◌≡◌}
use Rattle.swp_base.specs.declared.link_terms.Cause.TheVariants as cause
use Rattle.hci_tables.specs.declared.command.Command.TheVariants as command
use Rattle.swp_base.specs.declared.link_terms.FrameFault.TheVariants as fault
use Rattle.swp_base.specs.Bits.{bits_of_byte}
use Rattle.trace_model.specs.declared.entry.Entry.TheVariants.{Up, Down, Active, Got, Acked, Emit, Took, Lost, Turn, Command}
use Rattle.journal_laws.specs.Records.{found_from}
use Rattle.gate_admin.specs.View.{hosts_where}
use Rattle.pipe_table.specs.PipeRows.{lowest_free}
use Rattle.trace_model.specs.declared.entry.LostCause.TheVariants as lost

-- both nodes over a blank memory
abbrev pub blank : Memory
blank = new_memory (replicate 65536 255)

abbrev pub clf : Lone
clf = end_node true blank

abbrev pub uicc : Lone
uicc = end_node false blank

abbrev pub entries_of : List LoneEvent → List (List Entry)
entries_of events = map (λ (o : LoneEvent). o.entries) events

-- ## On a byte link

-- a UICC starts before any byte
uicc_on_nothing : end_written OnBytes uicc [] ≡ 0 ∷ 3 ∷ 97 ∷ 0 ∷ 1 ∷ 143 ∷ 25 ∷ []
unfolding bits_of_byte found_from hosts_where lowest_free
uicc_on_nothing = refl

-- a CLF answers, and keeps the identifier
abbrev sync_unit : List ℕ
sync_unit = 0 ∷ 3 ∷ 97 ∷ 0 ∷ 1 ∷ 143 ∷ 25 ∷ []

clf_answers : end_written OnBytes clf sync_unit ≡ 0 ∷ 2 ∷ 98 ∷ 1 ∷ 159 ∷ 153 ∷ []
unfolding bits_of_byte found_from hosts_where lowest_free
clf_answers = refl

clf_keeps : take 21 (lone_after clf (end_causes OnBytes clf sync_unit)).memory.content
    ≡ 90 ∷ 2 ∷ 0 ∷ 0 ∷ 0 ∷ 1 ∷ 0 ∷ 0 ∷ 0 ∷ 0 ∷ 0 ∷ 0 ∷ 90 ∷ 4 ∷ 0 ∷ 0 ∷ 6 ∷ 2 ∷ 0 ∷ 1 ∷ 255 ∷ []
unfolding bits_of_byte found_from hosts_where lowest_free
clf_keeps = refl

-- it asks for a reset as soon as it is active
clf_resets : end_written OnBytes clf (sync_unit ++ (0 ∷ 1 ∷ 96 ∷ 114 ∷ 169 ∷ [])) ≡ 0 ∷ 2 ∷ 98 ∷ 1 ∷ 159 ∷ 153 ∷ 0 ∷ 3 ∷ 249 ∷ 4 ∷ 0 ∷ 130 ∷ 100 ∷ []
unfolding bits_of_byte found_from hosts_where lowest_free
clf_resets = refl

-- ten units of a tick, and a UICC that has had no answer tries again
ten_ticks : end_written OnBytes uicc (replicate 20 0) ≡ sync_unit ++ sync_unit
unfolding bits_of_byte found_from hosts_where lowest_free
ten_ticks = refl

-- a unit with a wrong CRC, and one that is too long, behind which nothing comes
refused_units : end_causes OnBytes clf (0 ∷ 1 ∷ 193 ∷ 215 ∷ 99 ∷ 0 ∷ 31 ∷ 0 ∷ 0 ∷ [])
    ≡ FrameIsRefused (fault.Crc 55138 55139) ∷ FrameIsRefused (fault.Length 248) ∷ []
unfolding bits_of_byte found_from hosts_where lowest_free
refused_units = refl

-- ## On a line

-- a UICC starts with the first bits, and again behind a deactivation
starts_again : end_causes OnLine uicc (85 ∷ 64 ∷ 64 ∷ 0 ∷ 85 ∷ 64 ∷ []) ≡ StartComes 1 ∷ StopComes ∷ StartComes 1 ∷ []
unfolding bits_of_byte found_from hosts_where lowest_free
starts_again = refl

-- a deactivation in the midst of a frame: first the refusal, then the deactivation
breaks_a_frame : end_causes OnLine uicc (64 ∷ 84 ∷ 84 ∷ 84 ∷ 84 ∷ 84 ∷ 84 ∷ 64 ∷ 0 ∷ []) ≡ StartComes 1 ∷ FrameIsRefused fault.Broken ∷ StopComes ∷ []
unfolding bits_of_byte found_from hosts_where lowest_free
breaks_a_frame = refl

-- the frame of C1 on S1 is read by a UICC, and not by a CLF
abbrev pub c1_record : List ℕ
c1_record =
    64 ∷ 84 ∷ 84 ∷ 84 ∷ 84 ∷ 84 ∷ 84 ∷ 64 ∷ 84 ∷ 84 ∷ 64 ∷ 64 ∷ 64 ∷ 64 ∷ 64 ∷ 84 ∷ 84 ∷ 84 ∷ 64 ∷ 84 ∷ 64 ∷ 84 ∷ 84 ∷ 84 ∷ 64 ∷ 84 ∷ 84 ∷ 64 ∷ 64 ∷ 64 ∷ 84 ∷
    64 ∷ 64 ∷ 84 ∷ 84 ∷ 84 ∷ 84 ∷ 84 ∷ 84 ∷ 84 ∷ []

uicc_reads : end_causes OnLine uicc c1_record ≡ StartComes 1 ∷ FrameComes (193 ∷ []) ∷ []
unfolding bits_of_byte found_from hosts_where lowest_free
uicc_reads = refl

clf_reads_nothing : end_causes OnLine clf c1_record ≡ []
unfolding bits_of_byte found_from hosts_where lowest_free
clf_reads_nothing = refl

-- ## Replies

-- a CLF becomes active and comes up in session 1
abbrev pub comes_up : List LoneCause
comes_up = FrameComes (97 ∷ 0 ∷ 1 ∷ []) ∷ FrameComes (96 ∷ []) ∷ ResetComes None ∷ FrameComes (230 ∷ []) ∷ []

clf_comes_up : entries_of (lone_events clf comes_up) ≡
    (Took (end_c 2) (97 ∷ 0 ∷ 1 ∷ []) ∷ Command 0 (command.Sync 2 1) ∷ Emit (end_c 2) (98 ∷ 1 ∷ []) ∷ []) ∷
    (Took (end_c 2) (96 ∷ []) ∷ Active (end_c 2) ∷ []) ∷
    (Emit (end_c 2) (249 ∷ 4 ∷ 0 ∷ []) ∷ []) ∷
    (Took (end_c 2) (230 ∷ []) ∷ Up (end_c 2) 1 ∷ []) ∷ []
unfolding bits_of_byte found_from hosts_where lowest_free
clf_comes_up = refl

-- ANY_OPEN_PIPE on pipe 00 and its answer, a frame that is refused, REC_ERROR, which counts it, and a response that answers nothing
abbrev pub asks_errors : List LoneCause
asks_errors =
    FrameComes (128 ∷ 128 ∷ 3 ∷ []) ∷ FrameIsRefused (fault.Crc 1 2) ∷ FrameComes (137 ∷ 128 ∷ 2 ∷ 1 ∷ []) ∷ FrameComes (146 ∷ 129 ∷ 128 ∷ []) ∷ []

errors_are_told : entries_of (lone_events (lone_after clf comes_up) asks_errors) ≡
    (Took (end_c 2) (128 ∷ 128 ∷ 3 ∷ []) ∷ Got (end_c 2) 1 0 (3 ∷ []) ∷ Turn (end_c 2) 0 (3 ∷ []) ∷ Command 0 (command.SetOpened 2 0 true) ∷
    Sent (end_c 2) 1 0 (128 ∷ 0 ∷ []) ∷ AnyOk 0 2 ∷ Emit (end_c 2) (193 ∷ []) ∷ Emit (end_c 2) (129 ∷ 128 ∷ 128 ∷ 0 ∷ []) ∷ []) ∷
    (Lost (end_c 2) [] lost.Crc ∷ []) ∷
    (Took (end_c 2) (137 ∷ 128 ∷ 2 ∷ 1 ∷ []) ∷ Acked (end_c 2) 1 1 ∷ Got (end_c 2) 1 0 (2 ∷ 1 ∷ []) ∷ Turn (end_c 2) 0 (2 ∷ 1 ∷ []) ∷
    Sent (end_c 2) 1 0 (128 ∷ 0 ∷ 1 ∷ []) ∷ Emit (end_c 2) (194 ∷ []) ∷ Emit (end_c 2) (138 ∷ 128 ∷ 128 ∷ 0 ∷ 1 ∷ []) ∷ []) ∷
    (Took (end_c 2) (146 ∷ 129 ∷ 128 ∷ []) ∷ Acked (end_c 2) 1 2 ∷ Got (end_c 2) 1 1 (128 ∷ []) ∷ Turn (end_c 2) 1 (128 ∷ []) ∷ Dropped (end_c 2) 1 ∷
    Emit (end_c 2) (195 ∷ []) ∷ []) ∷ []
unfolding bits_of_byte found_from hosts_where lowest_free
errors_are_told = refl

-- Where a head names seven records of a snapshot and there are none, the journal counts no command, and ANY_OK tells none.
abbrev pub clf_owing : Lone
clf_owing = end_node true (new_memory ((90 ∷ 2 ∷ 0 ∷ 0 ∷ 0 ∷ 1 ∷ 0 ∷ 0 ∷ 0 ∷ 0 ∷ 0 ∷ 7 ∷ []) ++ replicate 65524 255))

none_is_counted : entries_of (lone_events (lone_after clf_owing comes_up) (FrameComes (128 ∷ 128 ∷ 3 ∷ []) ∷ [])) ≡
    (Took (end_c 2) (128 ∷ 128 ∷ 3 ∷ []) ∷ Got (end_c 2) 1 0 (3 ∷ []) ∷ Turn (end_c 2) 0 (3 ∷ []) ∷ Command 0 (command.SetOpened 2 0 true) ∷
    Sent (end_c 2) 1 0 (128 ∷ 0 ∷ []) ∷ AnyOk 0 0 ∷ Emit (end_c 2) (193 ∷ []) ∷ Emit (end_c 2) (129 ∷ 128 ∷ 128 ∷ 0 ∷ []) ∷ []) ∷ []
unfolding bits_of_byte found_from hosts_where lowest_free
none_is_counted = refl

-- A UICC becomes active, and takes an RSET: its session is the first one.
abbrev pub uicc_comes : List LoneCause
uicc_comes = StartComes 1 ∷ FrameComes (98 ∷ 1 ∷ []) ∷ FrameComes (249 ∷ 4 ∷ 0 ∷ []) ∷ []

uicc_comes_up : entries_of (lone_events uicc uicc_comes) ≡
    (Emit (end_h 2) (97 ∷ 0 ∷ 1 ∷ []) ∷ []) ∷
    (Took (end_h 2) (98 ∷ 1 ∷ []) ∷ Active (end_h 2) ∷ Emit (end_h 2) (96 ∷ []) ∷ []) ∷
    (Took (end_h 2) (249 ∷ 4 ∷ 0 ∷ []) ∷ Up (end_h 2) 1 ∷ Emit (end_h 2) (230 ∷ []) ∷ []) ∷ []
unfolding bits_of_byte found_from hosts_where lowest_free
uicc_comes_up = refl

-- A second one begins the second.
uicc_comes_up_again : entries_of (lone_events (lone_after uicc uicc_comes) (FrameComes (249 ∷ 4 ∷ 0 ∷ []) ∷ [])) ≡
    (Took (end_h 2) (249 ∷ 4 ∷ 0 ∷ []) ∷ Down (end_h 2) cause.Peer ∷ Up (end_h 2) 2 ∷ Emit (end_h 2) (230 ∷ []) ∷ []) ∷ []
unfolding bits_of_byte found_from hosts_where lowest_free
uicc_comes_up_again = refl
