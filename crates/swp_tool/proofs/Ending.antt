-- What a replay that ends has written.
use Rattle.std.specs.Prelude.{IfOk, is_err}
use Rattle.swp_tool.proofs.Words.{AppendsText, AtFault, AtMisread, Bool, Err, Halt, Halts, HaltsAtEnd, HasRead, Header, IfErr, IsDoneText, IsFrontTranscript}
use Rattle.swp_tool.proofs.Words.{IsReading, IsSomeTranscript, IsTextBelow, IsTranscript, IsTrue, IsUnderWay, Line, List, Ok, OnErr, OnOk, Option, Pieces}
use Rattle.swp_tool.proofs.Words.{Replayed, Result, Schedule, Stop, StopsWithText, Too_many, [], ap, append-nil, append_assoc, arith, behind, ended, false, inl}
use Rattle.swp_tool.proofs.Words.{inr, length, lines, map, refl, schedule_read, schedule_so_far, status_of, strip_carriage_return, subst, sym, take, true, ℕ}
use Rattle.swp_tool.proofs.Words.{◌++◌, ◌+◌, ◌∙◌, ◌≡◌, ◌≤◌}
use Rattle.swp_tool.specs.declared.replay.Halt.TheVariants as halt
use Rattle.swp_tool.specs.Pieces.{HasFed, IsRunning, IsWholeTranscript}
use Rattle.swp_tool.specs.Runs.{IsCutShort}
use Rattle.swp_tool.proofs.Reading.{front_so_far, played_transcript}

-- the end of a schedule adds no line
ended_same : (s : Schedule) → ((ended s).header ≡ s.header) × ((ended s).lines ≡ s.lines)
ended_same s = grind arith

-- the transcript of a schedule that stops is that of all its lines
stops_front : (bytes : List ℕ) (why : Stop) (count : ℕ) (text : List ℕ) → StopsWithText bytes why count text → IsFrontTranscript bytes text
stops_front bytes why count text h =
    let s = schedule_read bytes in
    let same = ended_same s in
    let P : Option Header → Type 0 = λ x. IsTextBelow x s.lines text in
    let Q : List Line → Type 0 = λ x. IsTextBelow (ended s).header x text in
    record { front = lines bytes; back = []; lines_are = sym (append-nil (lines bytes)); transcript = subst P same.0 (subst Q same.1 h.transcript) }

halts_front : (why : Halt) (count : ℕ) (bytes text rest : List ℕ) → Halts why count bytes text → IsFrontTranscript (bytes ++ rest) text
halts_front (halt.Fault f) count bytes text rest h = stops_front (bytes ++ rest) (AtFault f) (count + 1) text (h rest)
halts_front halt.Undetected count bytes text rest h = stops_front (bytes ++ rest) AtMisread (count + 1) text (h rest)
halts_front halt.TooMany count bytes text rest h = stops_front (bytes ++ rest) Too_many (count + 1) text (h rest)
halts_front halt.NoMemory count bytes text rest h = h rest

halts_end_front : (why : Halt) (count : ℕ) (bytes text : List ℕ) → HaltsAtEnd why count bytes text → IsFrontTranscript bytes text
halts_end_front (halt.Fault f) count bytes text h = stops_front bytes (AtFault f) (count + 1) text h
halts_end_front halt.Undetected count bytes text h = stops_front bytes AtMisread (count + 1) text h
halts_end_front halt.TooMany count bytes text h = absurd h
halts_end_front halt.NoMemory count bytes text h = h

-- the status of a halt says what was written
pub halted_replayed : (tells : Bool) (given : ℕ) (why : Halt) (count : ℕ) (bytes text rest before after : List ℕ) → Halts why count bytes text
    → (IsTrue tells → after ≡ before ++ text) → Replayed tells given (status_of why count) (bytes ++ rest) rest before after
halted_replayed tells given (halt.Fault f) count bytes text rest before after h is = (text, h rest, is)
halted_replayed tells given halt.Undetected count bytes text rest before after h is = (text, h rest, is)
halted_replayed tells given halt.TooMany count bytes text rest before after h is = (text, h rest, is)
halted_replayed tells given halt.NoMemory count bytes text rest before after h is =
    let read : IsFrontTranscript bytes text = subst (λ (b : List ℕ). IsFrontTranscript b text) (append-nil bytes) (h []) in
    (text, record { bytes = bytes; input_is = refl; read = read; front = h rest }, is)

pub halted_at_end : (tells : Bool) (given : ℕ) (why : Halt) (count : ℕ) (bytes text before after : List ℕ) → HaltsAtEnd why count bytes text
    → (IsTrue tells → after ≡ before ++ text) → Replayed tells given (status_of why count) bytes [] before after
halted_at_end tells given (halt.Fault f) count bytes text before after h is = (text, h, is)
halted_at_end tells given halt.Undetected count bytes text before after h is = (text, h, is)
halted_at_end tells given halt.TooMany count bytes text before after h is = absurd h
halted_at_end tells given halt.NoMemory count bytes text before after h is =
    (text, record { bytes = bytes; input_is = sym (append-nil bytes); read = h; front = h }, is)

-- before the first byte
pub nothing_played : (tells : Bool) (p : Pieces) (input before : List ℕ) → HasRead p [] [] → p.replay.text.items ≡ []
    → IsUnderWay tells p input input before before
nothing_played tells p input before read gathered = record {
  bytes = [];
  text = [];
  input_is = refl;
  after_is = λ told. sym (append-nil before);
  read = read;
  gathered = gathered;
}

-- what a replay goes on from has no line at fault
pub is_running : (p : Pieces) (bytes text : List ℕ) → HasRead p bytes text → IsReading p → IsRunning bytes
is_running p bytes text h reading = grind arith

-- ## Fronts of transcripts

-- an error, where one is
pub of_err : {T E : Type 0} (P : Type 0) (r : Result T E) (b : Bool) → b ≡ is_err r → b ≡ true → OnErr r P → P
of_err P r b is holds h = grind arith

pub of_ok : {T E : Type 0} (P : Type 0) (r : Result T E) (b : Bool) → b ≡ is_err r → b ≡ false → OnOk r P → P
of_ok P r b is holds h = grind arith

-- where nothing is gathered, the transcript of the whole lines was written
pub whole_transcript : (p : Pieces) (bytes text : List ℕ) → HasRead p bytes text → p.replay.text.items ≡ [] → IsWholeTranscript bytes text
whole_transcript p bytes text h gathered =
    let P : List ℕ → Type 0 = λ l. IsTranscript (schedule_so_far h.whole) l in
    record {
      whole = h.whole;
      rest = p.partial.items;
      cut = h.cut;
      lack = h.lack;
      rest_lacks = h.partial_lacks;
      transcript = subst P (ap (λ l. text ++ l) gathered ∙ append-nil text) (played_transcript p.replay (map strip_carriage_return h.whole) text h.played);
    }

-- a front of what was gathered of a piece stands behind what was written before it
pub cut_short : {tells : Bool} {p : Pieces} {input before written after : List ℕ} (given : ℕ) (piece left items : List ℕ)
    → (under : IsUnderWay tells p input (piece ++ left) before written) → length piece ≤ 4096 → length piece ≤ given
    → IsSomeTranscript input (under.text ++ items)
    → (n : ℕ) × (IsTrue tells → after ≡ written ++ take n items) → AppendsText tells (IsCutShort 4096 given input left) before after
cut_short {tells} {p} {before} {written} {after} given piece left items under few at_once some front = (
  under.text ++ take front.0 items,
  record {
    bytes = under.bytes;
    piece = piece;
    input_is = under.input_is;
    few = few;
    at_once = at_once;
    written = under.text;
    whole = whole_transcript p under.bytes under.text under.read under.gathered;
    behind = items;
    n = front.0;
    some = some;
    front_is = refl;
  },
  behind tells before under.text (take front.0 items) written after under.after_is front.1,
)

-- what is left of a piece stands behind what was read of it
pub left_behind : (bytes front left piece rest : List ℕ) → front ++ left ≡ piece → (bytes ++ front) ++ (left ++ rest) ≡ (bytes ++ piece) ++ rest
left_behind bytes front left piece rest is =
    sym (append_assoc (bytes ++ front) left rest) ∙ ap (λ l. l ++ rest) (append_assoc bytes front left ∙ ap (λ l. bytes ++ l) is)

-- what was gathered of a piece is the transcript of some of the first lines, whether the replay goes on or not
pub fed_front : {T : Type 0} (p q : Pieces) (r : Result T Halt) (now : T → List ℕ) (piece rest bytes text : List ℕ)
    → IfOk r (λ left. HasFed p q piece (now left))
    → IfErr r (λ why. (b w : List ℕ) → HasRead p b w → Halts why q.replay.count (b ++ piece) (w ++ q.replay.text.items))
    → HasRead p bytes text → IsFrontTranscript ((bytes ++ piece) ++ rest) (text ++ q.replay.text.items)
fed_front p q (Ok x) now piece rest bytes text fed halts h =
    let k = fed.read bytes text h in
    let left = now x in
    let P : List ℕ → Type 0 = λ b. IsFrontTranscript b (text ++ q.replay.text.items) in
    subst P (left_behind bytes fed.front left piece rest fed.piece_is)
    (front_so_far q (bytes ++ fed.front) text (left ++ rest) (text ++ q.replay.text.items) k
    (played_transcript q.replay (map strip_carriage_return k.whole) text k.played))
fed_front p q (Err why) now piece rest bytes text fed halts h =
    halts_front why q.replay.count (bytes ++ piece) (text ++ q.replay.text.items) rest (halts bytes text h)

-- the same at the end
pub finished_front : (p q : Pieces) (r : Result (Unit {0}) Halt) (bytes text : List ℕ)
    → OnOk r ((b w : List ℕ) → HasRead p b w → IsDoneText b (w ++ q.replay.text.items))
    → IfErr r (λ why. (b w : List ℕ) → HasRead p b w → HaltsAtEnd why q.replay.count b (w ++ q.replay.text.items))
    → HasRead p bytes text → IsSomeTranscript bytes (text ++ q.replay.text.items)
finished_front p q (Ok x) bytes text done halts h = inr (done bytes text h)
finished_front p q (Err why) bytes text done halts h = inl (halts_end_front why q.replay.count bytes (text ++ q.replay.text.items) (halts bytes text h))
