-- How a run of one node ended.
use Rattle.std.proofs.Common.{cond}
use Rattle.swp_words.proofs.Words.{Began, Bool, BootFault, EndForm, EndedAlone, EndedSo, HasHeardAlone, HasNextGeneration, HasRun, HasRunAlone, HasWritten}
use Rattle.swp_words.proofs.Words.{IsBootRefused, IsCutAlone, IsOfEndWord, IsOfLone, IsTrue, IsWaitingAlone, List, NoMemory, None, OneEnd, RanSo, Rose, Status}
use Rattle.swp_words.proofs.Words.{[], ap, append-nil, append_assoc, arith, drop, false, form_named, get_or, image_fault, inl, inr, length, length-append}
use Rattle.swp_words.proofs.Words.{length-drop, length-take-le, most_bytes, ready_writes, refl, status_of_boot, subst, sym, take, take-add, take-append-drop}
use Rattle.swp_words.proofs.Words.{true, ℕ, ◌++◌, ◌+◌, ◌-◌, ◌<◌, ◌∙◌, ◌∷◌, ◌≡◌, ◌≤◌}
use Rattle.nv_journal.specs.declared.JournalFault.TheVariants as image
use Rattle.one_end.specs.Standing.{IsRunOfBytes}
use Rattle.one_end.proofs.Running.{is_run_of}
use Rattle.swp_words.specs.declared.status.Status.TheVariants as status
use Rattle.swp_words.specs.Ends.{HasGoneOut, IsBrokenAlone, IsEndBegun, IsHearing, IsRunBefore, IsRunBrokenOff, IsRunCutOff, IsRunStopped, IsStoppedAlone}
use Rattle.swp_words.specs.Ends.{IsTooLongAlone, IsWrittenBefore}
use Rattle.swp_words.proofs.Taken.{whole_after, whole_piece, left_of, front_of_both}

module _ {N : Type 0} (writes : N → ℕ → List ℕ → Bool → N → Type 0) (is_clf : Bool) (o : Began N) (role : o.number ≡ cond is_clf 0 2) where
  pub run_is : (e : OneEnd N) (stopped : Bool) (bytes written : List ℕ) → IsEndBegun o e → HasRun writes o.content o.first e stopped bytes written
      → IsRunOfBytes writes o.first e.node.store.journal.nv stopped (form_named o.form) is_clf o.content bytes written
  run_is e stopped bytes written same h =
      subst (λ f. IsRunOfBytes writes o.first e.node.store.journal.nv stopped (form_named f) is_clf o.content bytes written) same.0
      (is_run_of writes is_clf o.content o.first e stopped bytes written (same.1 ∙ role) h)

  heard_is : (tells : Bool) (e : OneEnd N) (stopped : Bool) (bytes before after : List ℕ)
      → HasHeardAlone writes tells o e stopped bytes before after
      → HasRunAlone writes tells (form_named o.form) is_clf o.content o.first e.node.store.journal.nv stopped bytes before after
  heard_is tells e stopped bytes before after h = record {
    written = h.written;
    run = run_is e stopped bytes h.written h.end_is h.run;
    after_is = h.after_is;
  }

  before_is : (front piece earlier : List ℕ) → IsWrittenBefore writes o front piece earlier
      → IsRunBefore writes (form_named o.form) is_clf o.content o.first front piece earlier
  before_is front piece earlier (inl none) = inl none
  before_is front piece earlier (inr h) = inr (h.0.node.store.journal.nv, run_is h.0 false front earlier h.1 h.2)

  pub broken_is : (tells : Bool) (given : ℕ) (e : OneEnd N) (input left before after : List ℕ)
      → IsBrokenAlone writes tells given o e input left before after
      → IsRunBrokenOff writes tells given (form_named o.form) is_clf o.content o.first e.node.store.journal.nv input left before after
  broken_is tells given e input left before after h = record {
    front = h.front;
    came = h.came;
    ahead = h.ahead;
    input_is = h.input_is;
    near = h.near;
    at_once = h.at_once;
    stopped = h.cut.stopped;
    earlier = h.earlier;
    last = h.cut.last;
    before_it = before_is h.front (h.came ++ h.ahead) h.earlier h.before_it;
    run = run_is e h.cut.stopped (h.front ++ h.came) (h.earlier ++ h.cut.last) h.cut.end_is h.cut.run;
    n = h.cut.n;
    after_is = h.cut.after_is;
  }

  pub stopped_is : (tells : Bool) (given : ℕ) (e : OneEnd N) (input left before after : List ℕ)
      → IsStoppedAlone writes tells given o e input left before after
      → IsRunStopped writes tells given (form_named o.form) is_clf o.content o.first e.node.store.journal.nv input left before after
  stopped_is tells given e input left before after h = record {
    bytes = h.bytes;
    ahead = h.ahead;
    input_is = h.input_is;
    near = h.near;
    at_once = h.at_once;
    run = heard_is tells e true h.bytes before after h.heard;
  }

  cut_off_is : (tells : Bool) (e : OneEnd N) (count : ℕ) (input left before after : List ℕ) → count ≤ most_bytes
      → IsHearing writes tells o e count input left before after
      → IsRunCutOff writes tells (form_named o.form) is_clf o.content o.first e.node.store.journal.nv input left before after
  cut_off_is tells e count input left before after few h = record {
    bytes = h.bytes;
    input_is = h.input_is;
    few = subst (λ n. n ≤ most_bytes) h.counted few;
    run = heard_is tells e false h.bytes before after h.heard;
  }

  pub ended_ran : (tells : Bool) (given : ℕ) (e : OneEnd N) (count : ℕ) (s : Status) (input left before after : List ℕ)
      → EndedAlone writes tells given o e count s input left before after
      → RanSo writes tells given (form_named o.form) is_clf o.content o.first e.node.store.journal.nv s input left before after
  ended_ran tells given e count status.Done input left before after h = (h.0, h.1, heard_is tells e false input before after h.2)
  ended_ran tells given e count status.ReadFault input left before after h = cut_off_is tells e count input left before after h.0 h.1
  ended_ran tells given e count status.WriteFault input left before after h = broken_is tells given e input left before after h
  ended_ran tells given e count status.NvFault input left before after h = stopped_is tells given e input left before after h
  ended_ran tells given e count (status.TooMany n) input left before after h = (
    h.0,
    record {
      bytes = h.1.bytes;
      byte = h.1.byte;
      ahead = h.1.ahead;
      input_is = h.1.input_is;
      near = h.1.near;
      at_once = h.1.at_once;
      most = h.1.most;
      run = heard_is tells e false h.1.bytes before after h.1.heard;
    },
  )
  ended_ran tells given e count status.BadWords input left before after h = absurd h
  ended_ran tells given e count (status.BadSchedule line why) input left before after h = absurd h
  ended_ran tells given e count (status.Undetected line) input left before after h = absurd h
  ended_ran tells given e count status.NoMemory input left before after h = absurd h
  ended_ran tells given e count (status.BadImage why) input left before after h = absurd h

-- ## Before the first byte

module _ {N : Type 0} (writes : N → ℕ → List ℕ → Bool → N → Type 0) (o : Began N) (tells : Bool) (e : OneEnd N) (same : IsEndBegun o e) where
  pub begins_broken : (given : ℕ) (stopped : Bool) (input was after items : List ℕ)
      → HasRun writes o.content o.first e stopped [] items → (n : ℕ) → (IsTrue tells → after ≡ was ++ take n items)
      → IsBrokenAlone writes tells given o e input input was after
  begins_broken given stopped input was after items h n is = record {
    front = [];
    came = [];
    ahead = [];
    input_is = refl;
    near = omega arith;
    at_once = omega arith;
    earlier = [];
    before_it = inl (refl, refl, refl);
    cut = record { end_is = same; stopped = stopped; last = items; run = h; n = n; after_is = is };
  }

  begun_heard : (stopped : Bool) (was after items : List ℕ)
      → HasRun writes o.content o.first e stopped [] items → (IsTrue tells → after ≡ was ++ items)
      → HasHeardAlone writes tells o e stopped [] was after
  begun_heard stopped was after items h is = record { end_is = same; written = items; run = h; after_is = is }

  pub begins_stopped : (given : ℕ) (input was after items : List ℕ)
      → HasRun writes o.content o.first e true [] items → (IsTrue tells → after ≡ was ++ items)
      → IsStoppedAlone writes tells given o e input input was after
  begins_stopped given input was after items h is = record {
    bytes = [];
    ahead = [];
    input_is = refl;
    near = omega arith;
    at_once = omega arith;
    heard = begun_heard true was after items h is;
  }

  pub begins_hearing : (count : ℕ) (input was after items : List ℕ) → count ≡ 0
      → HasRun writes o.content o.first e false [] items → (IsTrue tells → after ≡ was ++ items)
      → IsHearing writes tells o e count input input was after
  begins_hearing count input was after items none h is = grind arith

-- ## While bytes come

module _ {N : Type 0} (writes : N → ℕ → List ℕ → Bool → N → Type 0) (tells : Bool) (o : Began N) where
  -- nothing waits yet
  pub waits : (e : OneEnd N) (stopped : Bool) (bytes before after : List ℕ) (h : HasHeardAlone writes tells o e stopped bytes before after)
      (waiting : List ℕ) → waiting ≡ [] → IsWaitingAlone writes tells o e stopped bytes h.written waiting before after
  waits e stopped bytes before after h waiting none = record {
    end_is = h.end_is;
    sent = [];
    run = subst (HasRun writes o.content o.first e stopped bytes)
        (sym (append-nil h.written) ∙ (sym (append-nil (h.written ++ [])) ∙ ap (λ l. (h.written ++ []) ++ l) (sym none))) h.run;
    after_is = λ told. h.after_is told ∙ ap (λ l. before ++ l) (sym (append-nil h.written));
  }

  -- some of what waited went out
  pub waits_on : (e : OneEnd N) (stopped : Bool) (bytes earlier waited waiting before was now : List ℕ)
      → IsWaitingAlone writes tells o e stopped bytes earlier waited before was → HasGoneOut tells waited waiting was now
      → IsWaitingAlone writes tells o e stopped bytes earlier waiting before now
  waits_on e stopped bytes earlier waited waiting before was now h out =
      let all : (earlier ++ h.sent) ++ out.sent ≡ earlier ++ (h.sent ++ out.sent) = append_assoc earlier h.sent out.sent in
      record {
        end_is = h.end_is;
        sent = h.sent ++ out.sent;
        run = subst (HasRun writes o.content o.first e stopped bytes)
            (ap (λ l. (earlier ++ h.sent) ++ l) out.parts ∙ (sym (append_assoc (earlier ++ h.sent) out.sent waiting) ∙ ap (λ l. l ++ waiting) all)) h.run;
        after_is = λ told.
            out.now_is told ∙ (ap (λ l. l ++ out.sent) (h.after_is told) ∙ (append_assoc before (earlier ++ h.sent) out.sent ∙ ap (λ l. before ++ l) all));
      }

  -- the first of what is left of a piece came
  pub heard_more : (d e : OneEnd N) (stopped : Bool) (came piece : List ℕ) (at n : ℕ) (earlier waited waiting before after : List ℕ) → e.form ≡ d.form
      → e.node.number ≡ d.node.number → at ≤ length piece → (w : IsWaitingAlone writes tells o d false (came ++ take at piece) earlier waited before after)
      → HasRun writes o.content o.first e stopped ((came ++ take at piece) ++ take n (take (length piece - at) (drop at piece)))
      ((earlier ++ w.sent) ++ waiting)
      → IsWaitingAlone writes tells o e stopped (came ++ take (at + n) piece) earlier waiting before after
  heard_more d e stopped came piece at n earlier waited waiting before after same own within w run = record {
    end_is = (same ∙ w.end_is.0, own ∙ w.end_is.1);
    sent = w.sent;
    run = subst (λ l. HasRun writes o.content o.first e stopped l ((earlier ++ w.sent) ++ waiting))
        (append_assoc came (take at piece) (take n (take (length piece - at) (drop at piece)))
        ∙ ap (λ l. came ++ l) (ap (λ l. take at piece ++ take n l) (left_of piece at within) ∙ sym (take-add at n piece))) run;
    after_is = w.after_is;
  }

  -- all of it did
  pub waits_no_more : (e : OneEnd N) (stopped : Bool) (bytes earlier waited before was now : List ℕ)
      → IsWaitingAlone writes tells o e stopped bytes earlier waited before was → (IsTrue tells → now ≡ was ++ waited)
      → HasHeardAlone writes tells o e stopped bytes before now
  waits_no_more e stopped bytes earlier waited before was now h is = record {
    end_is = h.end_is;
    written = (earlier ++ h.sent) ++ waited;
    run = h.run;
    after_is = λ told. is told ∙ (ap (λ l. l ++ waited) (h.after_is told) ∙ append_assoc before (earlier ++ h.sent) waited);
  }

  -- a front of it did
  pub is_cut : (e : OneEnd N) (stopped : Bool) (bytes earlier waited before was now : List ℕ)
      → IsWaitingAlone writes tells o e stopped bytes earlier waited before was
      → (n : ℕ) × (IsTrue tells → now ≡ was ++ take n waited) → IsCutAlone writes tells o e bytes earlier before now
  is_cut e stopped bytes earlier waited before was now h part =
      let front = front_of_both part.0 h.sent waited in
      record {
        end_is = h.end_is;
        stopped = stopped;
        last = h.sent ++ waited;
        run = subst (HasRun writes o.content o.first e stopped bytes) (append_assoc earlier h.sent waited) h.run;
        n = front.0;
        after_is = λ told.
            part.1 told ∙ (ap (λ l. l ++ take part.0 waited) (h.after_is told) ∙ (append_assoc before (earlier ++ h.sent) (take part.0 waited)
            ∙ ap (λ l. before ++ l) (append_assoc earlier h.sent (take part.0 waited) ∙ ap (λ l. earlier ++ l) (sym front.1))));
      }

  -- a write failed behind the first bytes of a piece
  pub broken_in : (given : ℕ) (d e : OneEnd N) (bytes piece left before was now : List ℕ) (n : ℕ) → length piece ≤ 8192 → length piece ≤ given
      → (h : HasHeardAlone writes tells o d false bytes before was)
      → IsCutAlone writes tells o e (bytes ++ take n piece) h.written before now
      → IsBrokenAlone writes tells given o e (bytes ++ piece ++ left) left before now
  broken_in given d e bytes piece left before was now n near some h cut =
      let all : take n piece ++ drop n piece ≡ piece = take-append-drop n piece in
      record {
        front = bytes;
        came = take n piece;
        ahead = drop n piece;
        input_is = append_assoc bytes piece left ∙ ap (λ l. bytes ++ l) (sym (ap (λ l. l ++ left) all) ∙ append_assoc (take n piece) (drop n piece) left);
        near = subst (λ l. length l ≤ 8192) (sym all) near;
        at_once = subst (λ l. length l ≤ given) (sym all) some;
        earlier = h.written;
        before_it = inr (d, h.end_is, h.run);
        cut = cut;
      }

  -- the node lost its power in them
  pub stopped_in : (given : ℕ) (e : OneEnd N) (bytes piece left before now : List ℕ) (n : ℕ) → length piece ≤ 8192 → length piece ≤ given
      → HasHeardAlone writes tells o e true (bytes ++ take n piece) before now
      → IsStoppedAlone writes tells given o e (bytes ++ piece ++ left) left before now
  stopped_in given e bytes piece left before now n near some h = record {
    bytes = bytes ++ take n piece;
    ahead = drop n piece;
    input_is = whole_after bytes piece left n;
    near = let l = length-drop n piece in omega (arith, l, near);
    at_once = let l = length-drop n piece in omega (arith, l, some);
    heard = h;
  }

  -- the last of them is one too many
  pub too_long_in : (given : ℕ) (e : OneEnd N) (bytes piece left before now : List ℕ) (n : ℕ) → length piece ≤ 8192 → length piece ≤ given
      → n < length piece → length bytes + n ≡ most_bytes
      → HasHeardAlone writes tells o e false (bytes ++ take n piece) before now
      → IsTooLongAlone writes tells given o e (bytes ++ piece ++ left) left before now
  too_long_in given e bytes piece left before now n near some within most h =
      let front = bytes ++ take n piece in
      let byte = get_or piece n 0 in
      let rest = drop (n + 1) piece in
      record {
        bytes = front;
        byte = byte;
        ahead = rest;
        input_is = ap (λ l. l ++ left) (sym (whole_piece bytes piece n within))
            ∙ (append_assoc (front ++ byte ∷ []) rest left ∙ append_assoc front (byte ∷ []) (rest ++ left));
        near = let l = length-drop (n + 1) piece in omega (arith, l, near);
        at_once = let l = length-drop (n + 1) piece in omega (arith, l, some);
        most = let l1 = length-append bytes (take n piece) in
            let l2 = length-take-le n piece (omega (arith, within)) in
            omega (arith, most, l1, l2);
        heard = h;
      }

-- a boot that was refused
pub refused_ended : {N : Type 0} (reads : N → Bool → N → Type 0) (writes : N → ℕ → List ℕ → Bool → N → Type 0) (faults : N → ℕ) (nv_tells : Bool)
    (content : N → List ℕ) (tells : Bool) (given : ℕ) (form : EndForm) (is_clf : Bool) (old new : N) (fault : BootFault) (input before : List ℕ)
    → IsTrue nv_tells → IsBootRefused reads writes faults nv_tells content old new fault
    → EndedSo reads writes content tells given form is_clf old new (status_of_boot fault) input input before before
refused_ended reads writes faults nv_tells content tells given form is_clf old new fault input before told k = grind arith

-- ## A run behind a boot

pub booted_ended : {N : Type 0} (reads : N → Bool → N → Type 0) (writes : N → ℕ → List ℕ → Bool → N → Type 0) (content : N → List ℕ) (tells : Bool)
    (given : ℕ) (form : EndForm) (is_clf : Bool) (old first new : N) (s : Status) (input left before after : List ℕ) → IsOfLone s
    → image_fault (content old) ≡ None
    → HasNextGeneration (content old) → HasWritten reads writes content (ready_writes (content old)) old true first
    → RanSo writes tells given form is_clf (content old) first new s input left before after
    → EndedSo reads writes content tells given form is_clf old new s input left before after
booted_ended reads writes content tells given form is_clf old first new s input left before after kind sound next made ran = grind arith

-- ## How it can end

pub lone_kind : (s : Status) → IsOfLone s → IsOfEndWord s
lone_kind s k = grind arith

kind_of_boot : (fault : BootFault) → IsOfEndWord (status_of_boot fault)
kind_of_boot fault = grind arith

pub boot_kind : (fault : BootFault) (s : Status) → s ≡ status_of_boot fault → IsOfEndWord s
boot_kind fault s is = subst IsOfEndWord (sym is) (kind_of_boot fault)

-- where a fault of the memory refused a boot, its count rose
pub refused_rose : {N : Type 0} (reads : N → Bool → N → Type 0) (writes : N → ℕ → List ℕ → Bool → N → Type 0) (faults : N → ℕ) (nv_tells : Bool)
    (content : N → List ℕ) (old new : N) (fault : BootFault) (s : Status) → IsBootRefused reads writes faults nv_tells content old new fault
    → s ≡ status_of_boot fault → s ≡ status.NvFault → Rose (faults old) (faults new)
refused_rose reads writes faults nv_tells content old new fault s k is nv = grind arith
