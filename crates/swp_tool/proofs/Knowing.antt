-- The text of a replay that is done tells what became of its schedule.
use Rattle.std.proofs.Common.{All}
use Rattle.swp_tool.proofs.Words.{AppendsText, Bool, Entry, Header, IsDoneText, IsPlayedText, IsTextBelow, List, None, Option, Replayed, Schedule, Some, Status}
use Rattle.swp_tool.proofs.Words.{Stop, TellsPlayed, [], and_lines, ap, arith, codes, decimal, done_line, ended, entry_lines, lines, nothing_read, refl}
use Rattle.swp_tool.proofs.Words.{schedule_in, schedule_told, subst, sym, ℕ, ◌++◌, ◌∙◌, ◌∷◌, ◌≡◌}
use Rattle.told_laws.specs.texts.Ranges.{IsNumber, IsEntry}
use Rattle.told_laws.proofs.texts.ShownLemmas.{IsCleanLine, number_clean, same_ended}
use Rattle.told_laws.proofs.told.Whole.{schedule_told_in}
use Rattle.swp_words.specs.declared.status.Status.TheVariants as status
use Rattle.swp_tool.specs.Transcripts.{TellsEntries, whole_text}
use Rattle.swp_tool.proofs.Fitting.{AreFit, AreRight, Fits, whole_fits, text_played}

-- a schedule that doesn't stop has a header
has_header : (s : Schedule) → (ended s).stop ≡ None → (header : Header) × ((ended s).header ≡ Some header)
has_header s running = go s.stop s.header running
  where
    go : (o : Option Stop) (h : Option Header) → (ended (record s { stop = o; header = h })).stop ≡ None
        → (header : Header) × ((ended (record s { stop = o; header = h })).header ≡ Some header)
    go None None is = absurd (cc)
    go None (Some header) is = (header, refl)
    go (Some why) h is = absurd (cc)

done_clean : (n : ℕ) → IsNumber n → IsCleanLine (codes "done" ∷ decimal n ∷ [])
done_clean n is = (((omega arith, refl), refl), (number_clean n is, tt))

-- the whole text of entries in their ranges tells them
tells_all : (entries : List Entry) (count : ℕ) → All IsEntry entries → IsNumber count → TellsEntries (whole_text entries count) entries
tells_all entries count in_range few =
    record {
      in_range = in_range;
      count = count;
      few = few;
      text_is = refl;
      alone = λ others n are is same.
          same_ended others entries (codes "done" ∷ decimal n ∷ []) (codes "done" ∷ decimal count ∷ []) (done_clean n is) (done_clean count few) are in_range
          (sym same);
    }

-- the whole transcript of an input tells what became of its schedule
tells_whole : (input text : List ℕ) → IsDoneText input text → TellsPlayed (schedule_in input) text
tells_whole input text h =
    let s = schedule_in input in
    let fits : Fits s = whole_fits input in
    let header = has_header (and_lines nothing_read (lines input)) h.running in
    let is : IsPlayedText header.0 s.lines h.lines_text = subst (λ o. IsTextBelow o s.lines h.lines_text) header.1 h.transcript in
    let right : AreRight header.0 s.lines = subst (λ o. AreFit o s.lines) header.1 fits.fit in
    let most = fits.most h.running in
    let text_is : text ≡ whole_text (schedule_told header.0 s.lines) s.count = h.text_is ∙ ap (λ t. t ++ done_line s.count) is.text_is in
    record {
      header = header.0;
      header_is = header.1;
      history = is.history;
      played = is.played;
      legal = is.legal;
      tells = is.tells;
      told = subst (λ t. TellsEntries t (schedule_told header.0 s.lines)) (sym text_is)
          (tells_all (schedule_told header.0 s.lines) s.count (schedule_told_in header.0 right.begun s.lines right.lines_are fits.short right.each)
          (omega (arith, most)));
    }

-- so does the one that is computed
pub tells_below : (input : List ℕ) (header : Header) → (schedule_in input).header ≡ Some header → (schedule_in input).stop ≡ None
    → TellsPlayed (schedule_in input) (entry_lines (schedule_told header (schedule_in input).lines) ++ done_line (schedule_in input).count)
tells_below input header is running =
    let s = schedule_in input in
    let text = entry_lines (schedule_told header s.lines) in
    tells_whole input (text ++ done_line s.count)
    (record {
      running = running;
      lines_text = text;
      transcript = subst (λ o. IsTextBelow o s.lines text) (sym is) (text_played s header text is (whole_fits input) refl);
      text_is = refl;
    })

done_replayed : (tells : Bool) (given : ℕ) (input left before after : List ℕ) → Replayed tells given status.Done input left before after
    → AppendsText tells (TellsPlayed (schedule_in input)) before after
done_replayed tells given input left before after h = (h.1.0, tells_whole input h.1.0 h.1.1, h.1.2)

-- so does what a replay has written that is done
pub known : (tells : Bool) (given : ℕ) (s : Status) (input left before after : List ℕ) → s ≡ status.Done → Replayed tells given s input left before after
    → AppendsText tells (TellsPlayed (schedule_in input)) before after
known tells given s input left before after is h =
    done_replayed tells given input left before after (subst (λ x. Replayed tells given x input left before after) is h)
