-- What a piece of a schedule adds to what was read before it.
use Rattle.std.proofs.Common.{⊎_elim}
use Rattle.std.proofs.lemmas.Grind.{fold-append}
use Rattle.swp_tool.proofs.Words.{AllLackLineFeed, AtFault, AtMisread, Err, Halt, Halts, HaltsAt, HaltsAtEnd, HasPlayed, HasRead, Header, IsAt, IsDoneText}
use Rattle.swp_tool.proofs.Words.{IsFrontTranscript, IsReading, IsTextBelow, IsTranscript, LacksLineFeed, List, None, Option, Pieces, Replay, Schedule, Some}
use Rattle.swp_tool.proofs.Words.{Stop, StopsWithText, Too_many, World, [], and_line, and_lines, ap, append-nil, append_assoc, arith, common_steps, done_line}
use Rattle.swp_tool.proofs.Words.{ended, ended_line, eqb, false, flat_map, length, line_of, lines, map, nothing_read, refl, schedule_in, schedule_read}
use Rattle.swp_tool.proofs.Words.{schedule_so_far, strip_carriage_return, subst, sym, ℕ, ◌++◌, ◌+◌, ◌<◌, ◌∙◌, ◌∷◌, ◌≡◌, ◌⊎◌}
use Rattle.schedule_text.specs.declared.fault.LineFault.TheVariants as fault
use Rattle.schedule_text.specs.declared.read.Read.TheVariants as read
use Rattle.swp_tool.specs.declared.replay.Halt.TheVariants as halt
use Rattle.swp_tool.proofs.Fitting.{read_fits, text_played}
use Rattle.swp_tool.proofs.Cutting.{lines-ended, lines-all_ended, long_line, some_line, lacks_append, lines-lacks}

-- ## Schedules

and_lines-append : (s : Schedule) (a b : List (List ℕ)) → and_lines s (a ++ b) ≡ and_lines (and_lines s a) b
and_lines-append s a b = fold-append and_line s a b

-- behind a line at which it stopped nothing is read
and_line-stopped : (s : Schedule) (why : Stop) (bytes : List ℕ) → s.stop ≡ Some why → and_line s bytes ≡ s
and_line-stopped s why bytes stop = grind arith

pub and_lines-stopped : (s : Schedule) (why : Stop) (ls : List (List ℕ)) → s.stop ≡ Some why → and_lines s ls ≡ s
and_lines-stopped s why [] stop = refl
and_lines-stopped s why (l ∷ ls) stop = ap (λ x. and_lines x ls) (and_line-stopped s why l stop) ∙ and_lines-stopped s why ls stop

ended-stopped : (s : Schedule) (why : Stop) → s.stop ≡ Some why → ended s ≡ s
ended-stopped s why stop = grind arith

-- a line at which a schedule stops adds nothing but itself
pub record StopsThere (s s' : Schedule) : Type 0 where
  pub header_is : s'.header ≡ s.header
  pub lines_are : s'.lines ≡ s.lines
  pub count_is : s'.count ≡ s.count + 1

pub stops_there : (s : Schedule) (why : Stop) (bytes : List ℕ) → s.stop ≡ None → (and_line s bytes).stop ≡ Some why → StopsThere s (and_line s bytes)
stops_there s why bytes running stop = grind arith

-- what a replay has gathered is the transcript of the lines that it read
pub played_transcript : (r : Replay) (ls : List (List ℕ)) (written : List ℕ) → HasPlayed r (and_lines nothing_read ls) written
    → IsTranscript (and_lines nothing_read ls) (written ++ r.text.items)
played_transcript r ls written h = go r.world s.header refl h.at
  where
    s : Schedule
    s = and_lines nothing_read ls

    text : List ℕ
    text = written ++ r.text.items

    go : (w : Option World) (o : Option Header) → s.header ≡ o → IsAt w o s.lines text → IsTextBelow o s.lines text
    go None None is at = at.1
    go (Some w) (Some header) is at = text_played s header text is (read_fits ls) at.text_is
    go None (Some header) is at = absurd at
    go (Some w) None is at = absurd at

-- ## Pieces

-- how the lines go on behind what was read
pub lines_on : (p : Pieces) (bytes written rest : List ℕ) → (h : HasRead p bytes written)
    → lines (bytes ++ rest) ≡ map strip_carriage_return h.whole ++ lines (p.partial.items ++ rest)
lines_on p bytes written rest h =
    ap (λ b. lines (b ++ rest)) h.cut
    ∙ (ap lines (append_assoc (flat_map ended_line h.whole) p.partial.items rest) ∙ lines-all_ended h.whole (p.partial.items ++ rest) h.lack)

-- However the bytes go on, their schedule stops at the next line.
pub stops_next : {p : Pieces} {bytes written : List ℕ} (rest : List ℕ) {why : Stop} {text line : List ℕ} {more : List (List ℕ)} (h : HasRead p bytes written)
    → lines (p.partial.items ++ rest) ≡ line ∷ more → (and_line (schedule_so_far h.whole) line).stop ≡ Some why
    → IsTranscript (schedule_so_far h.whole) text → StopsWithText (bytes ++ rest) why (p.replay.count + 1) text
stops_next {p} {bytes} {written} rest {why} {text} {line} {more} h next stop transcript =
    let s = schedule_so_far h.whole in
    let s' = and_line s line in
    let is : schedule_in (bytes ++ rest) ≡ s' =
    ap (λ l. ended (and_lines nothing_read l)) (lines_on p bytes written rest h ∙ ap (λ l. map strip_carriage_return h.whole ++ l) next)
    ∙ (ap ended (and_lines-append nothing_read (map strip_carriage_return h.whole) (line ∷ more) ∙ and_lines-stopped s' why more stop)
    ∙ ended-stopped s' why stop) in
    let there = stops_there s why line h.played.running stop in
    let P : Schedule → Type 0 = λ x. IsTranscript x text in
    grind arith

-- the transcript of the whole lines so far is that of some of the first lines
pub front_so_far : (p : Pieces) (bytes written rest text : List ℕ) (h : HasRead p bytes written) → IsTranscript (schedule_so_far h.whole) text
    → IsFrontTranscript (bytes ++ rest) text
front_so_far p bytes written rest text h transcript =
    record {
      front = map strip_carriage_return h.whole;
      back = lines (p.partial.items ++ rest);
      lines_are = lines_on p bytes written rest h;
      transcript =
          transcript;
    }

-- what holds however the bytes go on holds behind more of them
pub halts_more : (why : Halt) (count : ℕ) (bytes more text : List ℕ) → Halts why count bytes text → Halts why count (bytes ++ more) text
halts_more (halt.Fault f) count bytes more text h =
    λ rest. (let P : List ℕ → Type 0 = λ b. StopsWithText b (AtFault f) (count + 1) text in subst P (sym (append_assoc bytes more rest)) (h (more ++ rest)))
halts_more halt.Undetected count bytes more text h =
    λ rest. (let P : List ℕ → Type 0 = λ b. StopsWithText b AtMisread (count + 1) text in subst P (sym (append_assoc bytes more rest)) (h (more ++ rest)))
halts_more halt.TooMany count bytes more text h =
    λ rest. (let P : List ℕ → Type 0 = λ b. StopsWithText b Too_many (count + 1) text in subst P (sym (append_assoc bytes more rest)) (h (more ++ rest)))
halts_more halt.NoMemory count bytes more text h =
    λ rest. (let P : List ℕ → Type 0 = λ b. IsFrontTranscript b text in subst P (sym (append_assoc bytes more rest)) (h (more ++ rest)))

-- ## A line too many, a line too long

pub halts_too_many : (p : Pieces) (bytes written : List ℕ) (byte : ℕ) → IsReading p → p.replay.count ≡ 20000 → HasRead p bytes written
    → Halts halt.TooMany p.replay.count (bytes ++ byte ∷ []) (written ++ p.replay.text.items)
halts_too_many p bytes written byte reading full h = λ rest.
    let line = some_line byte rest in
    let none : p.partial.items ≡ [] = no_partial p.partial.items (λ some. reading.begun some) in
    let next : lines (p.partial.items ++ byte ∷ rest) ≡ line.line ∷ line.more = ap (λ l. lines (l ++ byte ∷ rest)) none ∙ line.lines_are in
    let s = schedule_so_far h.whole in
    let stop : (and_line s line.line).stop ≡ Some Too_many = at_limit s line.line h.played.running (sym h.played.count_is ∙ full) in
    let P : List ℕ → Type 0 = λ b. StopsWithText b Too_many (p.replay.count + 1) (written ++ p.replay.text.items) in
    subst P (sym (append_assoc bytes (byte ∷ []) rest))
    (stops_next (byte ∷ rest) h next stop (played_transcript p.replay (map strip_carriage_return h.whole) written h.played))
  where
    no_partial : (l : List ℕ) → (0 < length l → p.replay.count < 20000) → l ≡ []
    no_partial [] begun = refl
    no_partial (x ∷ l) begun = absurd (let low = begun (omega arith) in omega arith)

    at_limit : (s : Schedule) (line : List ℕ) → s.stop ≡ None → s.count ≡ 20000 → (and_line s line).stop ≡ Some Too_many
    at_limit s line running count = grind arith

-- the same where more bytes than one come
pub halts_too_many_in : (p : Pieces) (before written bytes : List ℕ) → 0 < length bytes → IsReading p → p.replay.count ≡ 20000 → HasRead p before written
    → Halts halt.TooMany p.replay.count (before ++ bytes) (written ++ p.replay.text.items)
halts_too_many_in p before written [] some reading full h = absurd (omega arith)
halts_too_many_in p before written (byte ∷ more) some reading full h =
    let text = written ++ p.replay.text.items in
    let P : List ℕ → Type 0 = λ b. Halts halt.TooMany p.replay.count b text in
    subst P (append_assoc before (byte ∷ []) more)
    (halts_more halt.TooMany p.replay.count (before ++ byte ∷ []) more text (halts_too_many p before written byte reading full h))

pub halts_too_long : (p : Pieces) (before written bytes : List ℕ) → p.replay.count < 20000 → 9001 < length p.partial.items + length bytes
    → LacksLineFeed bytes → HasRead p before written
    → Halts (halt.Fault fault.TooLong) p.replay.count (before ++ bytes) (written ++ p.replay.text.items)
halts_too_long p before written bytes room long lacks h = λ rest.
    let x = p.partial.items ++ bytes in
    let line = long_line x rest 9000 (lacks_append p.partial.items bytes h.partial_lacks lacks)
    (let e : length x ≡ length p.partial.items + length bytes = Rattle.std.proofs.Common.length-append p.partial.items bytes in omega arith) in
    let next : lines (p.partial.items ++ (bytes ++ rest)) ≡ line.line ∷ line.more = ap lines (sym (append_assoc p.partial.items bytes rest)) ∙ line.lines_are in
    let s = schedule_so_far h.whole in
    let stop : (and_line s line.line).stop ≡ Some (AtFault fault.TooLong) =
    too_long s line.line h.played.running (omega (arith, h.played.count_is)) line.holds in
    let P : List ℕ → Type 0 = λ b. StopsWithText b (AtFault fault.TooLong) (p.replay.count + 1) (written ++ p.replay.text.items) in
    subst P (sym (append_assoc before bytes rest))
    (stops_next (bytes ++ rest) h next stop (played_transcript p.replay (map strip_carriage_return h.whole) written h.played))
  where
    too_long : (s : Schedule) (line : List ℕ) → s.stop ≡ None → s.count < 20000 → 9000 < length line → (and_line s line).stop ≡ Some (AtFault fault.TooLong)
    too_long s line running room' long' =
        let P : Option Stop → Type 0 = λ o. (and_line (record s { stop = o }) line).stop ≡ Some (AtFault fault.TooLong) in
        let below : eqb s.count 20000 ≡ false = grind (arith, common_steps) in
        let fault_is : line_of s.header line ≡ Err fault.TooLong = grind arith in
        subst P (sym running)
        (grind arith)

-- ## A line that has ended

flat_ended-push : (whole : List (List ℕ)) (line : List ℕ) → flat_map ended_line (whole ++ line ∷ []) ≡ flat_map ended_line whole ++ ended_line line
flat_ended-push [] line = append-nil (ended_line line)
flat_ended-push (x ∷ whole) line =
    ap (λ l. ended_line x ++ l) (flat_ended-push whole line) ∙ sym (append_assoc (ended_line x) (flat_map ended_line whole) (ended_line line))

lack-push : (whole : List (List ℕ)) (line : List ℕ) → AllLackLineFeed whole → LacksLineFeed line → AllLackLineFeed (whole ++ line ∷ [])
lack-push [] line lack this = (this, tt)
lack-push (x ∷ whole) line lack this = (lack.0, lack-push whole line lack.1 this)

strip-push : (whole : List (List ℕ)) (line : List ℕ)
    → map strip_carriage_return (whole ++ line ∷ []) ≡ map strip_carriage_return whole ++ strip_carriage_return line ∷ []
strip-push [] line = refl
strip-push (x ∷ whole) line = ap (λ l. strip_carriage_return x ∷ l) (strip-push whole line)

so_far-push : (whole : List (List ℕ)) (line : List ℕ) → schedule_so_far (whole ++ line ∷ []) ≡ and_line (schedule_so_far whole) (strip_carriage_return line)
so_far-push whole line =
    ap (λ l. and_lines nothing_read l) (strip-push whole line)
    ∙ and_lines-append nothing_read (map strip_carriage_return whole) (strip_carriage_return line ∷ [])

-- the line was played: with these bytes the one under way has ended
pub read_when : {p q : Pieces} {bytes written : List ℕ} (line tail : List ℕ) → HasRead p bytes written → p.partial.items ++ tail ≡ ended_line line
    → LacksLineFeed line → q.partial.items ≡ []
    → ((s : Schedule) (w : List ℕ) → HasPlayed p.replay s w → HasPlayed q.replay (and_line s (strip_carriage_return line)) w)
    → HasRead q (bytes ++ tail) written
read_when {p} {q} {bytes} {written} line tail h ends lacks none played =
    let whole = h.whole ++ line ∷ [] in
    let P : Schedule → Type 0 = λ s. HasPlayed q.replay s written in
    record {
      whole = whole;
      cut = ap (λ b. b ++ tail) h.cut
          ∙ (append_assoc (flat_map ended_line h.whole) p.partial.items tail
          ∙ (ap (λ l. flat_map ended_line h.whole ++ l) ends
          ∙ (sym (flat_ended-push h.whole line) ∙ (sym (append-nil (flat_map ended_line whole)) ∙ ap (λ l. flat_map ended_line whole ++ l) (sym none)))));
      lack = lack-push h.whole line h.lack lacks;
      partial_lacks = (let Q : List ℕ → Type 0 = λ l. LacksLineFeed l in subst Q (sym none) (λ k d within. absurd (omega arith)));
      played = subst P (sym (so_far-push h.whole line)) (played (schedule_so_far h.whole) written h.played);
    }

pub read_line_ended : {p q : Pieces} {bytes written : List ℕ} → HasRead p bytes written → q.partial.items ≡ []
    → ((s : Schedule) (w : List ℕ) → HasPlayed p.replay s w → HasPlayed q.replay (and_line s (strip_carriage_return p.partial.items)) w)
    → HasRead q (bytes ++ 10 ∷ []) written
read_line_ended {p} h none played = read_when p.partial.items (10 ∷ []) h refl h.partial_lacks none played

-- the same of a line that lies whole in a piece
pub read_whole_line : {p q : Pieces} {bytes written : List ℕ} (line : List ℕ) → HasRead p bytes written → p.partial.items ≡ []
    → LacksLineFeed line → q.partial.items ≡ []
    → ((s : Schedule) (w : List ℕ) → HasPlayed p.replay s w → HasPlayed q.replay (and_line s (strip_carriage_return line)) w)
    → HasRead q (bytes ++ ended_line line) written
read_whole_line line h nothing lacks none played = read_when line (ended_line line) h (ap (λ l. l ++ ended_line line) nothing) lacks none played

-- With these bytes the line under way has ended, and it was not played: it has a fault, or there was no memory.
pub halts_when : {p : Pieces} (why : Halt) {count : ℕ} {now bytes written : List ℕ} (line tail : List ℕ) → HasRead p bytes written → count ≡ p.replay.count
    → now ≡ p.replay.text.items
    → ((rest : List ℕ) → lines (p.partial.items ++ (tail ++ rest)) ≡ strip_carriage_return line ∷ lines rest)
    → ((s : Schedule) (w : List ℕ) → HasPlayed p.replay s w → HaltsAt why s (strip_carriage_return line))
    → Halts why count (bytes ++ tail) (written ++ now)
halts_when {p} why {count} {now} {bytes} {written} line tail h count_is now_is next halts =
    let P : ℕ → Type 0 = λ n. Halts why n (bytes ++ tail) (written ++ now) in
    let Q : List ℕ → Type 0 = λ l. Halts why p.replay.count (bytes ++ tail) (written ++ l) in
    subst P (sym count_is) (subst Q (sym now_is) (go why (halts (schedule_so_far h.whole) written h.played)))
  where
    text : List ℕ
    text = written ++ p.replay.text.items

    transcript : IsTranscript (schedule_so_far h.whole) text
    transcript = played_transcript p.replay (map strip_carriage_return h.whole) written h.played

    go : (w : Halt) → HaltsAt w (schedule_so_far h.whole) (strip_carriage_return line) → Halts w p.replay.count (bytes ++ tail) text
    go (halt.Fault f) stop = λ rest.
        let R : List ℕ → Type 0 = λ b. StopsWithText b (AtFault f) (p.replay.count + 1) text in
        subst R (sym (append_assoc bytes tail rest))
        (stops_next (tail ++ rest) h (next rest) stop transcript)
    go halt.Undetected stop = λ rest.
        let R : List ℕ → Type 0 = λ b. StopsWithText b AtMisread (p.replay.count + 1) text in
        subst R (sym (append_assoc bytes tail rest))
        (stops_next (tail ++ rest) h (next rest) stop transcript)
    go halt.TooMany never = absurd never
    go halt.NoMemory any = λ rest.
        let R : List ℕ → Type 0 = λ b. IsFrontTranscript b text in
        subst R (sym (append_assoc bytes tail rest)) (front_so_far p bytes written (tail ++ rest) text h transcript)

pub halts_at_line : {p : Pieces} (why : Halt) {count : ℕ} {now bytes written : List ℕ} → HasRead p bytes written → count ≡ p.replay.count
    → now ≡ p.replay.text.items
    → ((s : Schedule) (w : List ℕ) → HasPlayed p.replay s w → HaltsAt why s (strip_carriage_return p.partial.items))
    → Halts why count (bytes ++ 10 ∷ []) (written ++ now)
halts_at_line {p} why h count_is now_is halts =
    halts_when why p.partial.items (10 ∷ []) h count_is now_is (λ rest. lines-ended p.partial.items rest h.partial_lacks) halts

pub halts_at_whole_line : {p : Pieces} (why : Halt) {count : ℕ} {now bytes written : List ℕ} (line : List ℕ) → HasRead p bytes written → p.partial.items ≡ []
    → LacksLineFeed line
    → count ≡ p.replay.count → now ≡ p.replay.text.items → ((s : Schedule) (w : List ℕ) → HasPlayed p.replay s w → HaltsAt why s (strip_carriage_return line))
    → Halts why count (bytes ++ ended_line line) (written ++ now)
halts_at_whole_line why line h nothing lacks count_is now_is halts =
    halts_when why line (ended_line line) h count_is now_is
    (λ rest. ap (λ l. lines (l ++ (ended_line line ++ rest))) nothing ∙ (ap lines (append_assoc line (10 ∷ []) rest) ∙ lines-ended line rest lacks)) halts

-- ## The end of the bytes

end_of : (bytes : List ℕ) (P : List ℕ → Type 0) → P (bytes ++ []) → P bytes
end_of bytes P h = subst P (append-nil bytes) h

-- no line is under way
pub played_all : (p : Pieces) (bytes written : List ℕ) → HasRead p bytes written → p.partial.items ≡ [] → HasPlayed p.replay (schedule_read bytes) written
played_all p bytes written h none =
    let P : Schedule → Type 0 = λ s. HasPlayed p.replay s written in
    let is : lines bytes ≡ map strip_carriage_return h.whole =
    end_of bytes (λ b. lines b ≡ map strip_carriage_return h.whole ++ lines (p.partial.items ++ [])) (lines_on p bytes written [] h)
    ∙ (ap (λ l. map strip_carriage_return h.whole ++ lines (l ++ [])) none ∙ append-nil (map strip_carriage_return h.whole)) in
    subst P (ap (λ l. and_lines nothing_read l) (sym is)) h.played

rest_is : (p : Pieces) (bytes written : List ℕ) (h : HasRead p bytes written) → 0 < length p.partial.items
    → lines (p.partial.items ++ []) ≡ p.partial.items ∷ []
rest_is p bytes written h some = ap lines (append-nil p.partial.items) ∙ lines-lacks p.partial.items h.partial_lacks some

-- the line under way was played
pub played_rest : (p : Pieces) (r : Replay) (bytes written : List ℕ) → HasRead p bytes written → 0 < length p.partial.items
    → ((s : Schedule) (w : List ℕ) → HasPlayed p.replay s w → HasPlayed r (and_line s p.partial.items) w) → HasPlayed r (schedule_read bytes) written
played_rest p r bytes written h some played =
    let P : Schedule → Type 0 = λ s. HasPlayed r s written in
    let is : lines bytes ≡ map strip_carriage_return h.whole ++ p.partial.items ∷ [] =
    end_of bytes (λ b. lines b ≡ map strip_carriage_return h.whole ++ lines (p.partial.items ++ [])) (lines_on p bytes written [] h)
    ∙ ap (λ l. map strip_carriage_return h.whole ++ l) (rest_is p bytes written h some) in
    subst P (sym (ap (λ l. and_lines nothing_read l) is ∙ and_lines-append nothing_read (map strip_carriage_return h.whole) (p.partial.items ∷ [])))
    (played (schedule_so_far h.whole) written h.played)

-- the line under way was not played
pub halts_at_rest : {p : Pieces} (why : Halt) {count : ℕ} {now bytes written : List ℕ} → HasRead p bytes written → 0 < length p.partial.items
    → count ≡ p.replay.count → now ≡ p.replay.text.items
    → ((s : Schedule) (w : List ℕ) → HasPlayed p.replay s w → HaltsAt why s p.partial.items)
    → HaltsAtEnd why count bytes (written ++ now)
halts_at_rest {p} why {count} {now} {bytes} {written} h some count_is now_is halts =
    let P : ℕ → Type 0 = λ n. HaltsAtEnd why n bytes (written ++ now) in
    let Q : List ℕ → Type 0 = λ l. HaltsAtEnd why p.replay.count bytes (written ++ l) in
    subst P (sym count_is) (subst Q (sym now_is) (go why (halts (schedule_so_far h.whole) written h.played)))
  where
    text : List ℕ
    text = written ++ p.replay.text.items

    transcript : IsTranscript (schedule_so_far h.whole) text
    transcript = played_transcript p.replay (map strip_carriage_return h.whole) written h.played

    go : (w : Halt) → HaltsAt w (schedule_so_far h.whole) p.partial.items → HaltsAtEnd w p.replay.count bytes text
    go (halt.Fault f) stop =
        end_of bytes (λ b. StopsWithText b (AtFault f) (p.replay.count + 1) text)
        (stops_next [] h (rest_is p bytes written h some) stop transcript)
    go halt.Undetected stop =
        end_of bytes (λ b. StopsWithText b AtMisread (p.replay.count + 1) text)
        (stops_next [] h (rest_is p bytes written h some) stop transcript)
    go halt.TooMany never = never
    go halt.NoMemory any = end_of bytes (λ b. IsFrontTranscript b text) (front_so_far p bytes written [] text h transcript)

-- the last line was gathered
pub closed : (r : Replay) (bytes written text : List ℕ) → HasPlayed r (schedule_read bytes) written → (r.world ≡ None → ⊥)
    → text ≡ r.text.items ++ done_line r.count
    → IsDoneText bytes (written ++ text)
closed r bytes written text h up is =
    let s = schedule_read bytes in
    let same : schedule_in bytes ≡ s = go s.stop h.running s.header r.world h.at up in
    let P : Schedule → Type 0 = λ x. IsTranscript x (written ++ r.text.items) in
    record {
      running = ap (λ x. x.stop) same ∙ h.running;
      lines_text = written ++ r.text.items;
      transcript = subst P (sym same) (played_transcript r (lines bytes) written h);
      text_is = ap (λ l. written ++ l) is ∙ (sym (append_assoc written r.text.items (done_line r.count))
          ∙ ap (λ n. (written ++ r.text.items) ++ done_line n) (h.count_is ∙ ap (λ x. x.count) (sym same)));
    }
  where
    go : (o : Option Stop) → o ≡ None → (header : Option Header) (w : Option World)
        → IsAt w header (schedule_read bytes).lines (written ++ r.text.items) → (w ≡ None → ⊥)
        → ended (record (schedule_read bytes) { stop = o; header = header }) ≡ record (schedule_read bytes) { stop = o; header = header }
    go o is' header w at up' = grind arith

-- without a header the line after the last is out of order
pub no_header : (r : Replay) (bytes written : List ℕ) → HasPlayed r (schedule_read bytes) written → r.world ≡ None
    → StopsWithText bytes (AtFault fault.Order) (r.count + 1) (written ++ r.text.items)
no_header r bytes written h none = grind arith

-- without memory the transcript of all lines stands
pub no_memory_at_end : (r : Replay) (bytes written : List ℕ) → HasPlayed r (schedule_read bytes) written → IsFrontTranscript bytes (written ++ r.text.items)
no_memory_at_end r bytes written h =
    record { front = lines bytes; back = []; lines_are = sym (append-nil (lines bytes)); transcript = played_transcript r (lines bytes) written h }

pub halts_closing : (r : Replay) (why : Halt) (count : ℕ) (now bytes written : List ℕ) → HasPlayed r (schedule_read bytes) written → count ≡ r.count
    → now ≡ r.text.items
    → (why ≡ halt.NoMemory) ⊎ ((why ≡ halt.Fault fault.Order) × (r.world ≡ None)) → HaltsAtEnd why count bytes (written ++ now)
halts_closing r why count now bytes written h count_is now_is cause =
    let P : ℕ → Type 0 = λ n. HaltsAtEnd why n bytes (written ++ now) in
    let Q : List ℕ → Type 0 = λ l. HaltsAtEnd why r.count bytes (written ++ l) in
    let R : Halt → Type 0 = λ w. HaltsAtEnd w r.count bytes (written ++ r.text.items) in
    subst P (sym count_is) (subst Q (sym now_is)
    (⊎_elim (λ memory. subst R (sym memory) (no_memory_at_end r bytes written h)) (λ order. subst R (sym order.0) (no_header r bytes written h order.1)) cause))
