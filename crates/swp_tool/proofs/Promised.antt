-- The facts of each word, from what its command says.
use Rattle.std.specs.Prelude.{◌↔◌, ◌≢◌}
use Rattle.swp_tool.proofs.Words.{AppendsText, Bool, IsGen, IsTrue, List, None, Replayed, Some, Status, TellsPlayed, [], ap, append_assoc, arith, false, get_or}
use Rattle.swp_tool.proofs.Words.{length, refl, schedule_in, subst, true, ℕ, ◌++◌, ◌+◌, ◌<◌, ◌∙◌, ◌∷◌, ◌≡◌, ◌≤◌, ◌⊎◌}
use Rattle.swp_base.specs.Outside.{Rose}
use Rattle.nv_journal.specs.declared.JournalFault.{JournalFault}
use Rattle.hci_store.specs.Image.{image_fault}
use Rattle.hci_store.specs.Refusals.{IsOnlyRead}
use Rattle.swp_words.specs.Ends.{EndForm, IsTakenMemory, AnsweredSo, EndedSo, IsOfEndWord, HasNextGeneration, IsRefusedFor, IsEndCommand}
use Rattle.swp_words.specs.declared.status.Status.TheVariants as status
use Rattle.swp_tool.specs.Pieces.{IsReadAhead}
use Rattle.swp_words.specs.Records.{most_bytes, RecordedBy, IsOfRecord}
use Rattle.swp_words.specs.Decodings.{DecodedBy}
use Rattle.swp_words.specs.Taps.{TappedBy, IsOfTap, tap_lines}
use Rattle.swp_words.specs.Images.{Told, IsOfTables}
use Rattle.swp_tool.specs.Generated.{Generated, IsOfGen}
use Rattle.swp_tool.specs.Runs.{IsDecode, IsOfReplay, IsReplay, IsTables, IsTap}
use Rattle.swp_tool.specs.Words.{RunSource, RunSink, RunMemory, IsReplayRun, IsDecodeRun, IsTapRun, IsTablesRun, IsGenRun, IsEndRun}
use Rattle.swp_words.proofs.Outcomes.{more_came}
use Rattle.swp_words.proofs.Tapped.{known_reports}
use Rattle.world_laws.specs.histories.Tapping.{gots_on, lpdus_on}
use Rattle.world_laws.proofs.tapped_worlds.OnLinks.{taps_tell}

-- ## A replay

pub replay_run : {S K : Type 0} (source : RunSource S) (sink : RunSink K) (s : Status)
    → (IsTrue source.tells → Replayed sink.tells (source.end source.new).given s (source.left source.old) (source.left source.new)
    (sink.written sink.old) (sink.written sink.new))
    → (IsTrue source.tells → s ≡ status.Done
    → AppendsText sink.tells (TellsPlayed (schedule_in (source.left source.old))) (sink.written sink.old) (sink.written sink.new))
    → IsOfReplay s → (IsTrue source.tells → IsReadAhead 4096 (source.left source.old) (source.left source.new))
    → (s ≡ status.ReadFault → Rose (source.faults source.old) (source.faults source.new))
    → (s ≡ status.WriteFault → Rose (sink.faults sink.old) (sink.faults sink.new)) → IsReplayRun source sink s
replay_run source sink s replayed known ending ahead read write = grind arith

-- ## A record of a line

module _ (lines : List ℕ → List ℕ) (tells : Bool) (given : ℕ) (input left before after : List ℕ) where
  complete_record : (s : Status) → RecordedBy lines tells given s input left before after → length input ≤ most_bytes
      → ¬ (s ≡ status.ReadFault) → ¬ (s ≡ status.WriteFault) → s ≡ status.Done
  complete_record status.Done h few read write = refl
  complete_record (status.TooMany count) h few read write =
      let t = h.1.too_many in
      let is : input ≡ t.bytes ++ t.byte ∷ (t.rest ++ left) =
      h.1.input_is ∙ (ap (λ l. l ++ left) t.read_is ∙ append_assoc t.bytes (t.byte ∷ t.rest) left) in
      let more = more_came t.bytes (t.rest ++ left) input t.byte is t.most in
      absurd (omega (arith, more, few))
  complete_record status.ReadFault h few read write = absurd (read refl)
  complete_record status.WriteFault h few read write = absurd (write refl)
  complete_record status.NoMemory h few read write = absurd h
  complete_record status.BadWords h few read write = absurd h
  complete_record (status.BadSchedule line why) h few read write = absurd h
  complete_record (status.Undetected line) h few read write = absurd h
  complete_record status.NvFault h few read write = absurd h
  complete_record (status.BadImage why) h few read write = absurd h

  refused_record : (s : Status) → RecordedBy lines tells given s input left before after → most_bytes < length input
      → ¬ (s ≡ status.ReadFault) → ¬ (s ≡ status.WriteFault) → s ≡ status.TooMany 16777217
  refused_record s h many read write = grind arith

pub decode_run : {S K : Type 0} (source : RunSource S) (sink : RunSink K) (s : Status)
    → (IsTrue source.tells → DecodedBy sink.tells (source.end source.new).given s (source.left source.old) (source.left source.new)
    (sink.written sink.old) (sink.written sink.new))
    → IsOfRecord s → (IsTrue source.tells → length (source.left source.old) ≤ most_bytes + 4096 + length (source.left source.new))
    → (s ≡ status.ReadFault → Rose (source.faults source.old) (source.faults source.new))
    → (s ≡ status.WriteFault → Rose (sink.faults sink.old) (sink.faults sink.new)) → IsDecodeRun source sink s
decode_run source sink s decoded ending ahead read write =
    record {
      decoded = decoded;
      ending = ending;
      complete = λ tells few r w. complete_record _ sink.tells _ (source.left source.old) _ _ _ s (decoded tells) few (λ q. r (read q)) (λ q. w (write q));
      refused = λ tells many r w. refused_record _ sink.tells _ (source.left source.old) _ _ _ s (decoded tells) many (λ q. r (read q)) (λ q. w (write q));
      ahead = ahead;
    }

-- a tap ended for want of memory, or as any reading of a record does
tapped_as : (bare tells : Bool) (given : ℕ) (s : Status) (input left before after : List ℕ) → TappedBy bare tells given s input left before after
    → RecordedBy (tap_lines bare) tells given s input left before after ⊎ (s ≡ status.NoMemory)
tapped_as bare tells given s input left before after h = grind arith

or_for_want : {A B C : Type 0} → (A → B) → A ⊎ C → B ⊎ C
or_for_want f a = grind arith

pub tap_run : {S K : Type 0} (bare : Bool) (source : RunSource S) (sink : RunSink K) (s : Status)
    → (IsTrue source.tells → TappedBy bare sink.tells (source.end source.new).given s (source.left source.old) (source.left source.new)
    (sink.written sink.old) (sink.written sink.new))
    → IsOfTap s → (IsTrue source.tells → length (source.left source.old) ≤ most_bytes + 4096 + length (source.left source.new))
    → (s ≡ status.ReadFault → Rose (source.faults source.old) (source.faults source.new))
    → (s ≡ status.WriteFault → Rose (sink.faults sink.old) (sink.faults sink.new)) → IsTapRun bare source sink s
tap_run bare source sink s tapped ending ahead read write =
    record {
      tapped = tapped;
      got = λ tells done h t are frames told.
          (subst (λ (z : Status). TappedBy bare sink.tells (source.end source.new).given z (source.left source.old) (source.left source.new)
          (sink.written sink.old) (sink.written sink.new)) done (tapped tells)).2 told
          ∙ ap (λ (l : List ℕ). sink.written sink.old ++ l)
          (known_reports bare (source.left source.old) (lpdus_on h t) (gots_on h t) frames (taps_tell bare h t are));
      ending = ending;
      complete = λ tells few r w.
          or_for_want (λ h. complete_record _ sink.tells _ (source.left source.old) _ _ _ s h few (λ q. r (read q)) (λ q. w (write q)))
          (tapped_as bare sink.tells _ s (source.left source.old) _ _ _ (tapped tells));
      refused = grind arith;
      ahead = ahead;
    }

-- ## The tables of a memory

pub tables_run : {S K N : Type 0} (source : RunSource S) (sink : RunSink K) (memory : RunMemory N) (s : Status)
    → (IsTrue memory.tells → Told sink.tells s (memory.content memory.old) (sink.written sink.old) (sink.written sink.new))
    → (IsTrue memory.tells → memory.content memory.new ≡ memory.content memory.old) → source.new ≡ source.old → IsOfTables s
    → (s ≡ status.NvFault → Rose (memory.faults memory.old) (memory.faults memory.new))
    → (s ≡ status.WriteFault → Rose (sink.faults sink.old) (sink.faults sink.new)) → IsTablesRun source sink memory s
tables_run source sink memory s told kept unread ending nv write = grind arith

-- ## A generated run

pub gen_run : {S K : Type 0} (n : ℕ) (source : RunSource S) (sink : RunSink K) (s : Status)
    → Generated sink.tells s n (sink.written sink.old) (sink.written sink.new) → source.new ≡ source.old → IsOfGen s
    → (¬ Rose (sink.faults sink.old) (sink.faults sink.new) → (s ≡ status.Done) ⊎ (s ≡ status.NoMemory))
    → (m : ℕ) → n ≡ m → IsGenRun m source sink s
gen_run n source sink s generated unread ending complete m same = grind arith

-- ## One node over a memory

-- words ask for one end alone
same_end : (words : List (List ℕ)) (is_clf other : Bool) (form on : EndForm) → IsEndCommand is_clf form words → IsEndCommand other on words
    → (is_clf ≡ other) × (form ≡ on)
same_end words is_clf other form on is also = grind arith

pub end_run : {S K N : Type 0} (is_clf : Bool) (form : EndForm) (source : RunSource S) (sink : RunSink K) (memory : RunMemory N) (s : Status)
    → (IsTrue source.tells → IsTrue memory.tells
    → EndedSo memory.reads memory.writes memory.content sink.tells (source.end source.new).given form is_clf memory.old memory.new s
    (source.left source.old) (source.left source.new) (sink.written sink.old) (sink.written sink.new))
    → (IsTrue source.tells → IsTrue memory.tells → IsTakenMemory (memory.content memory.old)
    → AnsweredSo sink.tells form is_clf (memory.content memory.old) (memory.content memory.new) s
    (source.left source.old) (source.left source.new) (sink.written sink.old) (sink.written sink.new))
    → IsOfEndWord s
    → (IsTrue memory.tells → (f : JournalFault) → image_fault (memory.content memory.old) ≡ Some f
    → ¬ Rose (memory.faults memory.old) (memory.faults memory.new) → (s ≡ status.BadImage f) ⊎ (s ≡ status.NoMemory))
    → (IsTrue memory.tells → (f : JournalFault) → (s ≡ status.BadImage f)
    ↔ (IsRefusedFor f (memory.content memory.old) × (s ≢ status.NoMemory) × (s ≢ status.NvFault)))
    → ((f : JournalFault) → s ≡ status.BadImage f → (source.new ≡ source.old) × (sink.new ≡ sink.old))
    → (IsTrue memory.tells → (f : JournalFault) → IsRefusedFor f (memory.content memory.old) → (source.new ≡ source.old) × (sink.new ≡ sink.old))
    → ((f : JournalFault) → s ≡ status.BadImage f → IsOnlyRead memory.reads memory.tells memory.content memory.old memory.new)
    → (IsTrue source.tells → IsTrue memory.tells → image_fault (memory.content memory.old) ≡ None → HasNextGeneration (memory.content memory.old)
    → length (source.left source.old) ≤ most_bytes → ¬ Rose (source.faults source.old) (source.faults source.new)
    → ¬ Rose (sink.faults sink.old) (sink.faults sink.new) → ¬ Rose (memory.faults memory.old) (memory.faults memory.new)
    → (s ≡ status.Done) ⊎ (s ≡ status.NoMemory))
    → (IsTrue source.tells → IsTrue memory.tells → image_fault (memory.content memory.old) ≡ None → HasNextGeneration (memory.content memory.old)
    → most_bytes < length (source.left source.old) → ¬ Rose (source.faults source.old) (source.faults source.new)
    → ¬ Rose (sink.faults sink.old) (sink.faults sink.new) → ¬ Rose (memory.faults memory.old) (memory.faults memory.new)
    → (s ≡ status.TooMany 16777217) ⊎ (s ≡ status.NoMemory))
    → (IsTrue source.tells → IsTrue memory.tells → length (source.left source.old) ≤ most_bytes + 4096 + length (source.left source.new))
    → IsEndRun is_clf form source sink memory s
end_run is_clf form source sink memory s ended answered ending bad_image refuses untouched never_begins unwritten complete refused ahead =
    record {
      ended = ended;
      answered = answered;
      ending = ending;
      bad_image = bad_image;
      refuses = refuses;
      untouched = untouched;
      never_begins = never_begins;
      unwritten = unwritten;
      complete = complete;
      refused = refused;
      ahead = ahead;
    }

-- the end that words ask for is the one that ran
pub asked_end : {S K N : Type 0} (words : List (List ℕ)) (is_clf : Bool) (form : EndForm) (source : RunSource S) (sink : RunSink K) (memory : RunMemory N)
    (s : Status) → IsEndCommand is_clf form words → IsEndRun is_clf form source sink memory s
    → (other : Bool) (on : EndForm) → IsEndCommand other on words → IsEndRun other on source sink memory s
asked_end words is_clf form source sink memory s is ran other on also = grind arith

-- ## Words apart

-- the first letter of the first word, and its third: their sum tells the words apart by which something is asked for
abbrev mark : List (List ℕ) → ℕ
mark words = get_or (get_or words 0 []) 0 0 + get_or (get_or words 0 []) 2 0

decode_mark : (words : List (List ℕ)) → IsDecode words → mark words ≡ 199
decode_mark words is = ap (λ l. get_or (get_or l 0 []) 0 0 + get_or (get_or l 0 []) 2 0) is

end_mark : (is_clf : Bool) (form : EndForm) (words : List (List ℕ)) → IsEndCommand is_clf form words → mark words ≡ 201
end_mark is_clf form words is = ap (λ l. get_or (get_or l 0 []) 0 0 + get_or (get_or l 0 []) 2 0) is

pub replay_or_decode : (words : List (List ℕ)) → IsReplay words → IsDecode words → ⊥
replay_or_decode words is also = grind arith

pub replay_or_tables : (words : List (List ℕ)) → IsReplay words → IsTables words → ⊥
replay_or_tables words is also = grind arith

pub replay_or_tap : (bare : Bool) (words : List (List ℕ)) → IsReplay words → IsTap bare words → ⊥
replay_or_tap bare words is also = grind arith

pub replay_or_gen : (n : ℕ) (words : List (List ℕ)) → IsReplay words → IsGen n words → ⊥
replay_or_gen n words is also = grind arith

pub replay_or_end : (is_clf : Bool) (form : EndForm) (words : List (List ℕ)) → IsReplay words → IsEndCommand is_clf form words → ⊥
replay_or_end is_clf form words is also = grind arith

pub decode_or_tables : (words : List (List ℕ)) → IsDecode words → IsTables words → ⊥
decode_or_tables words is also = grind arith

pub decode_or_tap : (bare : Bool) (words : List (List ℕ)) → IsDecode words → IsTap bare words → ⊥
decode_or_tap bare words is also = grind arith

pub decode_or_gen : (n : ℕ) (words : List (List ℕ)) → IsDecode words → IsGen n words → ⊥
decode_or_gen n words is also = grind arith

pub decode_or_end : (is_clf : Bool) (form : EndForm) (words : List (List ℕ)) → IsDecode words → IsEndCommand is_clf form words → ⊥
decode_or_end is_clf form words is also = grind arith

pub tables_or_tap : (bare : Bool) (words : List (List ℕ)) → IsTables words → IsTap bare words → ⊥
tables_or_tap bare words is also = grind arith

pub tables_or_gen : (n : ℕ) (words : List (List ℕ)) → IsTables words → IsGen n words → ⊥
tables_or_gen n words is also = grind arith

pub tables_or_end : (is_clf : Bool) (form : EndForm) (words : List (List ℕ)) → IsTables words → IsEndCommand is_clf form words → ⊥
tables_or_end is_clf form words is also = grind arith

pub tap_or_gen : (bare : Bool) (n : ℕ) (words : List (List ℕ)) → IsTap bare words → IsGen n words → ⊥
tap_or_gen bare n words is also = grind arith

pub tap_or_end : (bare : Bool) (is_clf : Bool) (form : EndForm) (words : List (List ℕ)) → IsTap bare words → IsEndCommand is_clf form words → ⊥
tap_or_end bare is_clf form words is also = grind arith

pub gen_or_end : (n : ℕ) (is_clf : Bool) (form : EndForm) (words : List (List ℕ)) → IsGen n words → IsEndCommand is_clf form words → ⊥
gen_or_end n is_clf form words is also = grind arith

pub bare_or_hci : (words : List (List ℕ)) → IsTap true words → IsTap false words → ⊥
bare_or_hci words is also = grind arith

-- a branch that wasn't taken was not asked for
pub untaken : (b : Bool) → b ≡ false → IsTrue b → ⊥
untaken b failed asked = grind arith

-- what is said of the source, the sink and the status that a word left holds of the same ones under other names
pub moved : {A B C : Type 0} (P : A → B → C → Type 0) {a a' : A} {b b' : B} {c c' : C} → a' ≡ a → b' ≡ b → c' ≡ c → P a b c → P a' b' c'
moved P p q r h = grind arith
