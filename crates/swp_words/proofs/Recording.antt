-- What a command that reads a line record has written and gathered.
use Rattle.std.proofs.Common.{min}
use Rattle.std.specs.Prelude.{OnErr, OnOk, Result}
use Rattle.std.proofs.lemmas.List.{take-append-le, take_min}
use Rattle.swp_words.proofs.Words.{Bool, DecoderStandsFor, EndedIn, IsFront, IsGathered, IsTrue, List, S1, S2, Status, [], ap, append-nil, append_assoc, arith}
use Rattle.swp_words.proofs.Words.{last_line, length, length-append, length-reverse, record_lines, refl, reverse, reverse-append, subst, sym, take}
use Rattle.swp_words.proofs.Words.{take-append-add, whole_record, ℕ, ◌++◌, ◌+◌, ◌∙◌, ◌∷◌, ◌≡◌, ◌≤◌}
use Rattle.swp_decode.specs.Decoded.{line_at, lines_with, transcript}
use Rattle.swp_decode.proofs.FurtherFrames.{record_lines-append}
use Rattle.swp_words.specs.declared.decoding.Decoding.{Decoding}
use Rattle.swp_words.specs.declared.status.Status.TheVariants as status
use Rattle.swp_words.specs.Records.{HasRecorded, RecordedBy, piece_of}
use Rattle.swp_words.specs.Decodings.{IsDecoding}
use Rattle.swp_words.proofs.Taken.{behind}

-- ## Text that is gathered

-- no more had to be written than there is
pub enough_text : {tells : Bool} {gathered : List ℕ} {least : ℕ} {text before after : List ℕ} → IsGathered tells gathered least text before after
    → least ≤ length text
enough_text {gathered} {text} h = omega (arith, h.enough, length-append h.written gathered, ap length h.text_is)

-- a front of what is gathered was written
pub cut_text : {tells : Bool} {gathered : List ℕ} {least : ℕ} {text before was after : List ℕ} → IsGathered tells gathered least text before was
    → (n : ℕ) × (IsTrue tells → after ≡ was ++ take n gathered) → IsFront tells least text before after
cut_text {tells} {gathered} {least} {text} {before} {was} {after} h front = record {
  n = length h.written + front.0;
  enough = omega (arith, h.enough);
  after_is = λ told. behind tells before h.written (take front.0 gathered) was after h.after_is front.1 told
      ∙ ap (λ l. before ++ l) (sym (take-append-add h.written gathered front.0) ∙ ap (λ l. take (length h.written + front.0) l) h.text_is);
}

-- all that was gathered was written, and nothing is gathered
pub written_out : {tells : Bool} {gathered : List ℕ} (none : List ℕ) {least : ℕ} {text before was after : List ℕ}
    → IsGathered tells gathered least text before was
    → none ≡ [] → (IsTrue tells → after ≡ was ++ gathered) → IsGathered tells none (length text) text before after
written_out {tells} {gathered} none {least} {text} {before} {was} {after} h is wrote = record {
  written = h.written ++ gathered;
  after_is = behind tells before h.written gathered was after h.after_is wrote;
  text_is = ap (λ l. (h.written ++ gathered) ++ l) is ∙ (append-nil (h.written ++ gathered) ∙ h.text_is);
  enough = omega (arith, ap length h.text_is);
}

-- more is gathered
pub more_gathered : {tells : Bool} {gathered : List ℕ} (now more : List ℕ) {least : ℕ} {text before after : List ℕ}
    → IsGathered tells gathered least text before after
    → now ≡ gathered ++ more → IsGathered tells now least (text ++ more) before after
more_gathered {gathered} now more h is = record {
  written = h.written;
  after_is = h.after_is;
  text_is = ap (λ l. h.written ++ l) is ∙ (sym (append_assoc h.written gathered more) ∙ ap (λ l. l ++ more) h.text_is);
  enough = h.enough;
}

-- a front of a text is one of a longer text
pub front_further : {tells : Bool} {least : ℕ} {text before after : List ℕ} (more : List ℕ) → least ≤ length text → IsFront tells least text before after
    → IsFront tells least (text ++ more) before after
front_further {least} {text} {before} more enough h =
    let n : ℕ = h.n in
    let m : ℕ = min n (length text) in
    let within : m ≤ length text = omega arith in
    let front : least ≤ n = h.enough in
    record {
      n = m;
      enough = omega (arith, front, enough);
      after_is = λ told. h.after_is told
          ∙ ap (λ l. before ++ l) (sym (take_min n text) ∙ sym (take-append-le m text more within));
    }

-- where nothing is gathered, all of the text was written
pub none_gathered : {tells : Bool} {gathered : List ℕ} {least : ℕ} {text before after : List ℕ} → IsGathered tells gathered least text before after
    → gathered ≡ []
    → IsTrue tells → after ≡ before ++ text
none_gathered {before} h none told =
    h.after_is told ∙ ap (λ l. before ++ l) (sym (append-nil h.written) ∙ (ap (λ l. h.written ++ l) (sym none) ∙ h.text_is))

-- what holds, holds of an error, and of what is none
pub on_err : {T E : Type 0} (P : Type 0) (r : Result T E) → P → OnErr r P
on_err P r h = grind arith

-- where one thing follows from another, it does so of an error and of what is none
pub map_err : {T E : Type 0} (P Q : Type 0) (r : Result T E) → (P → Q) → OnErr r P → OnErr r Q
map_err P Q r f h = grind arith

pub map_ok : {T E : Type 0} (P Q : Type 0) (r : Result T E) → (P → Q) → OnOk r P → OnOk r Q
map_ok P Q r f h = grind arith

-- ## Records

-- the newest byte of a record that goes on
pub newest : (bytes : List ℕ) (byte : ℕ) → reverse (bytes ++ byte ∷ []) ≡ byte ∷ reverse bytes
newest bytes byte = reverse-append bytes (byte ∷ [])

-- no more than 8,192 bytes are read at once
pub piece_fits : (count len : ℕ) → len ≤ piece_of count → len ≤ 8192
piece_fits count len h = grind arith

-- how reading a piece ended, said of the whole: the piece comes behind earlier bytes, and before what is left
pub ended_in : (lines : List ℕ → List ℕ) (tells : Bool) (given : ℕ) (why : Status) (earlier : List ℕ) {input : List ℕ} (piece left before after : List ℕ)
    → input ≡ earlier ++ (piece ++ left) → length piece ≤ 8192 → length piece ≤ given
    → EndedIn lines tells why earlier (earlier ++ piece) before after → RecordedBy lines tells given why input left before after
ended_in lines tells given (status.TooMany count) earlier piece left before after is few at_once h =
    (h.0, record { read = earlier ++ piece; input_is = is ∙ sym (append_assoc earlier piece left); too_many = h.1 })
ended_in lines tells given status.WriteFault earlier piece left before after is few at_once h = grind arith
ended_in lines tells given status.Done earlier piece left before after is few at_once h = absurd h
ended_in lines tells given status.ReadFault earlier piece left before after is few at_once h = absurd h
ended_in lines tells given status.NoMemory earlier piece left before after is few at_once h = absurd h
ended_in lines tells given status.BadWords earlier piece left before after is few at_once h = absurd h
ended_in lines tells given (status.BadSchedule line why) earlier piece left before after is few at_once h = absurd h
ended_in lines tells given (status.Undetected line) earlier piece left before after is few at_once h = absurd h
ended_in lines tells given status.NvFault earlier piece left before after is few at_once h = absurd h
ended_in lines tells given (status.BadImage why) earlier piece left before after is few at_once h = absurd h

-- before the first byte
pub nothing_recorded : (tells : Bool) (lines : List ℕ → List ℕ) (reads : List ℕ → Type 0) (count : ℕ) (input before : List ℕ) → reads []
    → count ≡ 0 → lines [] ≡ []
    → HasRecorded tells lines reads count input input before before
nothing_recorded tells lines reads count input before none zero no_lines = record {
  bytes = [];
  input_is = refl;
  reading = none;
  counted = zero;
  after_is = λ told. sym (append-nil before) ∙ ap (λ l. before ++ l) (sym no_lines);
}

-- ## Decodings

-- a step adds the lines of its byte
pub step_decodes : {tells : Bool} (e : Decoding) (byte : ℕ) {earlier before after : List ℕ} (bytes gathered : List ℕ)
    → IsGathered tells gathered (length (record_lines earlier)) (record_lines bytes) before after
    → DecoderStandsFor e.decoder (byte ∷ reverse bytes)
    → e.text.items ≡ (gathered ++ line_at S1 (byte ∷ reverse bytes)) ++ line_at S2 (byte ∷ reverse bytes)
    → IsDecoding tells e earlier (bytes ++ byte ∷ []) before after
step_decodes {tells} e byte {earlier} {before} {after} bytes gathered lines stands items =
    let first = line_at S1 (byte ∷ reverse bytes) in
    let second = line_at S2 (byte ∷ reverse bytes) in
    record {
      stands = subst (λ l. DecoderStandsFor e.decoder l) (sym (newest bytes byte)) stands;
      lines = subst (λ l. IsGathered tells e.text.items (length (record_lines earlier)) l before after)
          (sym (append_assoc (record_lines bytes) first second) ∙ ap transcript (sym (newest bytes byte)))
          (more_gathered e.text.items (first ++ second) lines (items ∙ append_assoc gathered first second));
    }

-- how many bytes were read
pub count_read : {tells : Bool} {d : Decoding} {earlier bytes before after : List ℕ} → IsDecoding tells d earlier bytes before after
    → d.decoder.count ≡ length bytes
count_read {bytes} h = h.stands.count ∙ length-reverse bytes

-- a step adds the lines of all its bytes
pub more_decoded : {tells : Bool} (e : Decoding) (more bytes : List ℕ) {earlier before after : List ℕ} (gathered : List ℕ)
    → IsGathered tells gathered (length (record_lines earlier)) (record_lines bytes) before after
    → DecoderStandsFor e.decoder (reverse more ++ reverse bytes) → e.text.items ≡ gathered ++ lines_with (reverse bytes) more
    → IsDecoding tells e earlier (bytes ++ more) before after
more_decoded {tells} e more bytes {earlier} {before} {after} gathered lines stands items = record {
  stands = subst (λ l. DecoderStandsFor e.decoder l) (sym (reverse-append bytes more)) stands;
  lines = subst (λ l. IsGathered tells e.text.items (length (record_lines earlier)) l before after) (sym (record_lines-append bytes more))
      (more_gathered e.text.items (lines_with (reverse bytes) more) lines items);
}

-- with the last line behind the lines, the whole text is gathered
pub whole_gathered : {tells : Bool} (lines : List ℕ → List ℕ) (now : List ℕ) (count : ℕ) {gathered bytes : List ℕ} {least : ℕ} {before after : List ℕ}
    → IsGathered tells gathered least (lines bytes) before after
    → count ≡ length bytes → now ≡ gathered ++ last_line count → IsGathered tells now least (whole_record lines bytes) before after
whole_gathered {tells} lines now count {gathered} {bytes} {least} {before} {after} h is items =
    more_gathered now (last_line (length bytes)) h (items ∙ ap (λ n. gathered ++ last_line n) is)
