-- A run of one node answered every message, and its memory keeps what was committed.
use Rattle.swp_words.proofs.Words.{Bool, EndForm, EndedSo, HasRunAlone, HasWritten, List, Status, [], ap, append-nil, append_assoc, arith, false, inl, inr}
use Rattle.swp_words.proofs.Words.{length, ready_writes, refl, sym, take-append-add, take_all, true, ℕ, ◌++◌, ◌+◌, ◌∙◌, ◌∷◌, ◌≡◌}
use Rattle.swp_base.specs.Outside.{IsWritten}
use Rattle.lone_laws.specs.alone.Memories.{IsTakenMemory}
use Rattle.one_end.proofs.Ran.{ran_answered}
use Rattle.swp_words.specs.declared.status.Status.TheVariants as status
use Rattle.swp_words.specs.Ends.{AnsweredSo, BootedAndRan, IsAnsweredEnd}

module _ {N : Type 0} (reads : N → Bool → N → Type 0) (writes : N → ℕ → List ℕ → Bool → N → Type 0) (content : N → List ℕ)
    (told : (old : N) (at : ℕ) (bytes : List ℕ) (ok : Bool) (new : N) → writes old at bytes ok new → IsWritten ok (content old) (content new) at bytes)
    (tells : Bool) (given : ℕ) (form : EndForm) (is_clf : Bool) (old new : N) (input left before after : List ℕ)
    (taken : IsTakenMemory (content old)) where
  -- all that was written for some bytes went out
  whole : (s : Status) (first : N) → HasWritten reads writes content (ready_writes (content old)) old true first → (stopped : Bool) (bytes behind : List ℕ)
      → input ≡ bytes ++ behind → (s ≡ status.Done → behind ≡ []) → (s ≡ status.Done → stopped ≡ false)
      → HasRunAlone writes tells form is_clf (content old) first new stopped bytes before after
      → IsAnsweredEnd tells form is_clf (content old) (content new) s input before after
  whole s first booted stopped bytes behind is all runs h =
      record {
        bytes = bytes;
        behind = behind;
        input_is = is;
        all_came = all;
        stopped = stopped;
        runs = runs;
        written = h.written;
        answered = ran_answered writes content told reads old first new stopped form is_clf bytes h.written taken booted h.run;
        n = length h.written;
        went_out = inr refl;
        after_is = λ t. h.after_is t ∙ ap (λ l. before ++ l) (sym (take_all (length h.written) h.written (omega arith)));
      }

  ran : (s : Status) → BootedAndRan reads writes content tells given form is_clf old new s input left before after
      → AnsweredSo tells form is_clf (content old) (content new) s input left before after
  ran status.Done b = whole status.Done b.first b.booted false input [] (sym (append-nil input)) (λ q. refl) (λ q. refl) b.ran.2
  ran status.ReadFault b =
      whole status.ReadFault b.first b.booted false b.ran.bytes left b.ran.input_is (λ q. absurd (cc q)) (λ q. absurd (cc q)) b.ran.run
  ran status.WriteFault b =
      let r = b.ran in
      record {
        bytes = r.front ++ r.came;
        behind = r.ahead ++ left;
        input_is = r.input_is ∙ sym (append_assoc r.front r.came (r.ahead ++ left));
        all_came = λ q. absurd (cc q);
        stopped = r.stopped;
        runs = λ q. absurd (cc q);
        written = r.earlier ++ r.last;
        answered =
            ran_answered writes content told reads old b.first new r.stopped form is_clf (r.front ++ r.came) (r.earlier ++ r.last) taken b.booted r.run;
        n = length r.earlier + r.n;
        went_out = inl refl;
        after_is = λ t. r.after_is t ∙ ap (λ l. before ++ l) (sym (take-append-add r.earlier r.last r.n));
      }
  ran status.NvFault b =
      inr (whole status.NvFault b.first b.booted true b.ran.bytes (b.ran.ahead ++ left) b.ran.input_is (λ q. absurd (cc q)) (λ q. absurd (cc q)) b.ran.run)
  ran (status.TooMany count) b =
      let r = b.ran.1 in
      whole (status.TooMany count) b.first b.booted false r.bytes (r.byte ∷ (r.ahead ++ left)) r.input_is (λ q. absurd (cc q)) (λ q. absurd (cc q)) r.run
  ran status.NoMemory b = absurd b.ran
  ran status.BadWords b = absurd b.ran
  ran (status.BadSchedule line why) b = absurd b.ran
  ran (status.Undetected line) b = absurd b.ran
  ran (status.BadImage why) b = absurd b.ran

  pub end_answered : (s : Status) → EndedSo reads writes content tells given form is_clf old new s input left before after
      → AnsweredSo tells form is_clf (content old) (content new) s input left before after
  end_answered status.NoMemory h = h.1
  end_answered (status.BadImage why) h = h.nothing
  end_answered status.NvFault (inl h) = inl h.nothing
  end_answered status.NvFault (inr h) = ran status.NvFault h
  end_answered status.Done h = ran status.Done h
  end_answered status.ReadFault h = ran status.ReadFault h
  end_answered status.WriteFault h = ran status.WriteFault h
  end_answered (status.TooMany count) h = ran (status.TooMany count) h
  end_answered status.BadWords h = ran status.BadWords h
  end_answered (status.BadSchedule line why) h = ran (status.BadSchedule line why) h
  end_answered (status.Undetected line) h = ran (status.Undetected line) h
