-- An N(R) tells the same of what is kept and of what was heard, and what is kept then stands for what was heard then.
use Rattle.std.proofs.Common.{◌≡◌, ℕ, zero, suc, ◌+◌, ◌-◌, ◌%◌, ◌<◌, ◌≤◌, ◌==◌, Bool, true, false, not, cond, ◌&&◌, List, [], ◌∷◌, ◌++◌, length, take, drop}
use Rattle.std.proofs.Common.{map, Option, Some, None, refl, ap, sym, subst, ◌∙◌, arith, length-drop}
use Rattle.std.specs.Prelude.{nat_lt, ◌||◌}
use Rattle.std.proofs.lemmas.Bool.{eqb-true, ltb-true, le-ltb}
use Rattle.hcp_packet.specs.declared.Packet.{Packet}
use Rattle.hcp_packet.specs.Packets.{packet_of, packets_in, good_of}
use Rattle.hcp_chain.specs.Joining.{join_step, message_in, is_fault, are_taken, open_after}
use Rattle.swp_base.specs.declared.control_frames.Control.{Control}
use Rattle.swp_base.specs.declared.control_frames.Control.TheVariants.{I, S, Rset, Ua, Act, Clt}
use Rattle.tap_reading.specs.Tap.{TapSide, TapState, new_tap, tap_exchanged, renumbered, listed_at, tells_more, with_number}
use Rattle.tap_reading.specs.Tap.{with_fragment, news_behind, told_by}
use Rattle.tap_reading.specs.Tap.{is_in_session, tap_hears, tap_tells, reports_to, tap_after_frame, tap_reports, tap_after, tapped_from, tapped}
use Rattle.tap_reading.specs.keeping.Keeping.{KeptSide, KeptTap, new_kept_tap, kept_exchanged, kept_renumbered, kept_listed, kept_added, kept_tells_more}
use Rattle.tap_reading.specs.keeping.Keeping.{kept_joined, kept_news, first_packet, kept_numbered, kept_in_session, kept_hears, kept_tells}
use Rattle.tap_reading.specs.keeping.Keeping.{kept_after_frame, kept_reports, kept_after, kept_reported, StandsForSide, StandsForTap, IsSmall}
use Rattle.tap_reading.proofs.keeping.Joins.{taken-append, open-append, packets_with, packets-append, news_of, news_none, news_some}
use Rattle.tap_reading.proofs.keeping.Stands.{asked_near, asked_far, number_near, number_far, listed_near, listed_far, added_near, added_far, begun_list}

-- one element of a list and what stands behind it
record Parts (l : List (List ℕ)) (n : ℕ) : Type 0 where
  first : List ℕ
  rest : List (List ℕ)
  is : drop n l ≡ first ∷ rest
  front : take (n + 1) l ≡ take n l ++ first ∷ []
  behind : drop (n + 1) l ≡ rest

parts_at : (l : List (List ℕ)) (n : ℕ) → n < length l → Parts l n
parts_at [] n i = absurd (omega (arith, i))
parts_at (x ∷ l) zero i = record { first = x; rest = l; is = refl; front = refl; behind = refl }
parts_at (x ∷ l) (suc n) i =
    let p = parts_at l n (omega (arith, i)) in
    let e : suc n + 1 ≡ suc (n + 1) = omega arith in
    record { first = p.first; rest = p.rest; is = p.is; front = rw e (ap (λ z. x ∷ z) p.front); behind = rw e p.behind }

module _ (k j : KeptSide) (s t : TapSide) (h : StandsForSide k s t) (f : StandsForSide j t s) where
  next : (k.count + 1) % 8 ≡ (s.count + 1) % 8
  next = omega (arith, h.count)

  -- the other side's list is begun at the number of this one
  waiting_is : t.listed ≡ s.number → j.waiting ≡ drop s.count t.list
  waiting_is e = grind arith

  tells_same : (nr : ℕ) → kept_tells_more k j nr ≡ tells_more s t nr
  tells_same nr = ap (λ z. (nr == z) && ((j.listed == k.number) && nat_lt 0 (length j.waiting))) next ∙ ap
      (λ b. (nr == ((s.count + 1) % 8)) && b) (second (t.listed == s.number) refl)
    where
      tests : (j.listed == k.number) ≡ (t.listed == s.number)
      tests = rw (f.listed, h.number) refl

      some : (l c : ℕ) → nat_lt 0 (l - c) ≡ nat_lt c l
      some l c = grind arith

      second : (b : Bool) → (t.listed == s.number) ≡ b
          → ((j.listed == k.number) && nat_lt 0 (length j.waiting)) ≡ nat_lt s.count (length (listed_at t s.number))
      second false q = let o = tests ∙ q in rw (o, q) (sym (le-ltb s.count 0 (omega arith)))
      second true q =
          let o = tests ∙ q in
          let w : length j.waiting ≡ length t.list - s.count =
          ap (length {A = List ℕ}) (waiting_is (eqb-true t.listed s.number q)) ∙ length-drop s.count t.list in
          rw (o, q) (ap (nat_lt 0) w ∙ some (length t.list) s.count)

  -- what an N(R) that tells more rests on
  record More : Type 0 where
    begun : t.listed ≡ s.number
    list : listed_at t s.number ≡ t.list
    parts : Parts t.list s.count
    inside : s.count < length t.list

  more : (nr : ℕ) → tells_more s t nr ≡ true → More
  more nr q = go (t.listed == s.number) refl (ltb-true s.count (length (listed_at t s.number)) (grind arith))
    where
      second : (a b : Bool) → (a && b) ≡ true → b ≡ true
      second x0 b p = grind arith

      go : (b : Bool) → (t.listed == s.number) ≡ b → s.count < length (listed_at t s.number) → More
      go false p i = absurd (let l : length (listed_at t s.number) ≡ 0 = rw p refl in omega (arith, i, l))
      go true p i =
          let list : listed_at t s.number ≡ t.list = rw p refl in
          let i : s.count < length t.list = subst (λ z. s.count < length z) list i in
          record { begun = eqb-true t.listed s.number p; list = list; parts = parts_at t.list s.count i; inside = i }

  module _ (m : More) where
    abbrev joined_packets : List Packet
    joined_packets = packets_in (take s.count (listed_at t s.number))

    abbrev acked_one : List ℕ
    acked_one = m.parts.first

    first_is : first_packet j.waiting ≡ packet_of acked_one
    first_is = ap first_packet (waiting_is m.begun ∙ m.parts.is)

    packets_are : packets_in (take (s.count + 1) (listed_at t s.number)) ≡ packets_with joined_packets (packet_of acked_one)
    packets_are =
        ap (λ l. packets_in (take (s.count + 1) l)) m.list
        ∙ (ap packets_in m.parts.front ∙ (packets-append (take s.count t.list) acked_one ∙ ap
        (λ l. packets_with (packets_in (take s.count l)) (packet_of acked_one)) (sym m.list)))

    low : t.listed ≤ s.number
    low = omega (arith, m.begun)

    -- where all could be joined, the messages under way are those kept
    same_test : (p : Packet) → (k.joins && not (is_fault (join_step k.under_way p).0))
        ≡ (are_taken [] joined_packets && not (is_fault (join_step (open_after [] joined_packets) p).0))
    same_test p = grind arith

    -- the news
    news_same : kept_news k (packet_of acked_one) ≡ news_behind (listed_at t s.number) s.count
    news_same = go (packet_of acked_one) refl ∙ sym (ap (news_of joined_packets) packets_are)
      where
        some : (p : Packet) → kept_news k (Some p) ≡ news_of joined_packets (joined_packets ++ p ∷ [])
        some p = by k.joins refl ∙ sym (news_some joined_packets p)
          where
            by : (b : Bool) → k.joins ≡ b
                → kept_news k (Some p) ≡ cond (are_taken [] joined_packets && not (is_fault (join_step (open_after [] joined_packets) p).0)) (good_of
                (message_in (join_step (open_after [] joined_packets) p).0)) []
            by x0 e = grind arith

        go : (o : Option Packet) → packet_of acked_one ≡ o → kept_news k (packet_of acked_one)
            ≡ news_of joined_packets (packets_with joined_packets (packet_of acked_one))
        go None e = rw e (sym (news_none joined_packets))
        go (Some p) e = rw e (some p)

    abbrev counted : KeptSide
    counted = record (kept_joined k (packet_of acked_one)) { count = (k.count + 1) % 8 }

    near : StandsForSide counted (record s { count = s.count + 1 }) t
    near = go (packet_of acked_one) refl
      where
        P : Option Packet → Type 0
        P o = StandsForSide (record (kept_joined k o) { count = (k.count + 1) % 8 }) (record s { count = s.count + 1 }) t

        most : s.count + 1 ≤ length (listed_at t s.number)
        most = omega (arith, m.inside, ap (length {A = List ℕ}) m.list)

        go : (o : Option Packet) → packet_of acked_one ≡ o → StandsForSide counted (record s { count = s.count + 1 }) t
        go None e =
            let is : packets_in (take (s.count + 1) (listed_at t s.number)) ≡ joined_packets = packets_are ∙ ap (packets_with joined_packets) e in
            subst P (sym e) (grind arith)
        go (Some p) e =
            let is : packets_in (take (s.count + 1) (listed_at t s.number)) ≡ joined_packets ++ p ∷ [] = packets_are ∙ ap (packets_with joined_packets) e in
            subst P (sym e) (record {
              number = h.number;
              asked = h.asked;
              listed = h.listed;
              older = h.older;
              sent = h.sent;
              waiting = h.waiting;
              few = h.few;
              count = next;
              most = λ _. most;
              joins = λ i. same_test p ∙ (sym (taken-append [] joined_packets p) ∙ ap (are_taken []) (sym is));
              under_way = λ i y. ap (λ u. (join_step u p).1) (h.under_way i (first k.joins (not (is_fault (join_step k.under_way p).0)) y))
                  ∙ (sym (open-append [] joined_packets p) ∙ ap (open_after []) (sym is));
            })
          where
            first : (a b : Bool) → (a && b) ≡ true → a ≡ true
            first x0 b p = grind arith

    far : StandsForSide (record j { waiting = drop 1 j.waiting }) t (record s { count = s.count + 1 })
    far = grind arith

  told_same : (nr : ℕ) → (b : Bool) → tells_more s t nr ≡ b
      → cond (kept_tells_more k j nr) (map (λ (m : ℕ × List ℕ). (k.number, m.0, m.1)) (kept_news k (first_packet j.waiting))) [] ≡ told_by s t nr
  told_same nr false p = rw (tells_same nr ∙ p, p) refl
  told_same nr true p =
      let m = more nr p in
      rw (tells_same nr ∙ p, p)
      (ap (λ n. map (λ (m : ℕ × List ℕ). (n, m.0, m.1)) (kept_news k (first_packet j.waiting))) h.number
      ∙ ap (map (λ (m : ℕ × List ℕ). (s.number, m.0, m.1))) (ap (kept_news k) (first_is m) ∙ news_same m))

-- ## Frames

-- an N(R) of the CLF
numbered : (k : KeptTap) (t : TapState) (nr : ℕ) → StandsForTap k t → StandsForTap (kept_numbered k nr) (record t { clf = with_number t.clf t.uicc nr })
numbered k t nr h = go (tells_more t.clf t.uicc nr) refl
  where
    go : (b : Bool) → tells_more t.clf t.uicc nr ≡ b → StandsForTap (kept_numbered k nr) (record t { clf = with_number t.clf t.uicc nr })
    go false q = rw (tells_same k.clf k.uicc t.clf t.uicc h.clf h.uicc nr ∙ q, q) h
    go true q =
        let m = more k.clf k.uicc t.clf t.uicc h.clf h.uicc nr q in
        let P : KeptSide → Type 0 = λ z. StandsForSide z (record t.clf { count = t.clf.count + 1 }) t.uicc in
        let first = first_is k.clf k.uicc t.clf t.uicc h.clf h.uicc m in
        let n = near k.clf k.uicc t.clf t.uicc h.clf h.uicc m in
        rw (tells_same k.clf k.uicc t.clf t.uicc h.clf h.uicc nr ∙ q, q) (grind arith)

hears : (bare : Bool) (k : KeptTap) (t : TapState) (c : Control) → StandsForTap k t
    → StandsForTap (kept_hears bare k c) (tap_hears bare t c) × (kept_tells bare k c ≡ tap_tells bare t c)
hears bare k t (Act act again) h = (h, refl)
hears bare k t Clt h = (h, refl)
hears bare k t Ua h =
    let n : ℕ = t.uicc.asked in
    let P : ℕ → Type 0 = λ a. StandsForTap (record k { clf = kept_renumbered k.clf a }) (record t { clf = renumbered t.clf n }) in (
      subst P (sym h.uicc.asked)
          (record { clf = number_near k.clf t.clf t.uicc n h.clf; uicc = number_far k.uicc t.clf t.uicc n h.uicc; rsets = h.rsets }),
      refl,
    )
hears bare k t (Rset w c) h =
    let n : ℕ = t.rsets + 1 in
    let P : ℕ → Type 0 = λ r. StandsForTap (record k { clf = record (kept_renumbered k.clf (r + 1)) { asked = r + 1 }; rsets = r + 1 })
    (record t { clf = record (renumbered t.clf n) { asked = n }; rsets = n }) in (
      subst P (sym h.rsets) (record {
        clf = asked_near n (number_near k.clf t.clf t.uicc n h.clf);
        uicc = asked_far n (number_far k.uicc t.clf t.uicc n h.uicc);
        rsets = refl;
      }),
      refl,
    )
hears bare k t (S kind nr) h = go (is_in_session bare t.clf) refl
  where
    same : kept_in_session bare k.clf ≡ is_in_session bare t.clf
    same = ap (λ n. bare || nat_lt 0 n) h.clf.number

    go : (b : Bool) → is_in_session bare t.clf ≡ b
        → StandsForTap (kept_hears bare k (S kind nr)) (tap_hears bare t (S kind nr)) × (kept_tells bare k (S kind nr) ≡ tap_tells bare t (S kind nr))
    go false q = (rw (same ∙ q, q) h, rw (same ∙ q, q) refl)
    go true q = (
      rw (same ∙ q, q) (numbered k t nr h),
      rw (same ∙ q, q) (told_same k.clf k.uicc t.clf t.uicc h.clf h.uicc nr (tells_more t.clf t.uicc nr) refl),
    )
hears bare k t (I ns nr info) h = go (is_in_session bare t.clf) refl
  where
    same : kept_in_session bare k.clf ≡ is_in_session bare t.clf
    same = ap (λ n. bare || nat_lt 0 n) h.clf.number

    go : (b : Bool) → is_in_session bare t.clf ≡ b
        → StandsForTap (kept_hears bare k (I ns nr info)) (tap_hears bare t (I ns nr info)) × (kept_tells bare k (I ns nr info)
        ≡ tap_tells bare t (I ns nr info))
    go false q = (rw (same ∙ q, q) h, rw (same ∙ q, q) refl)
    go true q =
        let l : KeptSide = kept_listed k.clf in
        let z : TapSide = begun_list t.clf in
        let n : StandsForSide l z t.uicc = listed_near k.clf t.clf t.uicc h.clf in
        let f : StandsForSide k.uicc t.uicc z = listed_far k.uicc t.clf t.uicc h.clf.older h.uicc in
        let more : StandsForTap (record k { clf = kept_added l ns info }) (record t { clf = with_fragment t.clf t.uicc ns info }) = record {
          clf = added_near l k.uicc z t.uicc refl n f ns info;
          uicc = added_far l k.uicc z t.uicc refl n f ns info;
          rsets = h.rsets;
        } in (
          rw (same ∙ q, q) (numbered (record k { clf = kept_added l ns info }) (record t { clf = with_fragment t.clf t.uicc ns info }) nr more),
          rw (same ∙ q, q) (told_same k.clf k.uicc t.clf t.uicc h.clf h.uicc nr (tells_more t.clf t.uicc nr) refl),
        )

swap : {k : KeptTap} {t : TapState} → StandsForTap k t → StandsForTap (kept_exchanged k) (tap_exchanged t)
swap h = record { clf = h.uicc; uicc = h.clf; rsets = h.rsets }

-- one frame of either side
pub frame_stands : (bare : Bool) (k : KeptTap) (t : TapState) (clf : Bool) (c : Control) → StandsForTap k t
    → StandsForTap (kept_after_frame bare k clf c) (tap_after_frame bare t clf c) × (kept_reports bare k clf c ≡ tap_reports bare t clf c)
frame_stands bare k t true c h = let r = hears bare k t c h in (r.0, ap (reports_to true) r.1)
frame_stands bare k t false c h =
    let r = hears bare (kept_exchanged k) (tap_exchanged t) c (swap h) in (swap r.0, ap (reports_to false) r.1)

pub frames_stand : (bare : Bool) (frames : List (Bool × Control)) (k : KeptTap) (t : TapState) → StandsForTap k t
    → StandsForTap (kept_after bare k frames) (tap_after bare t frames) × (kept_reported bare k frames ≡ tapped_from bare t frames)
frames_stand bare [] k t h = (h, refl)
frames_stand bare (f ∷ frames) k t h =
    let one = frame_stands bare k t f.0 f.1 h in
    let more = frames_stand bare frames (kept_after_frame bare k f.0 f.1) (tap_after_frame bare t f.0 f.1) one.0 in
    (more.0, ap (λ z. z ++ kept_reported bare (kept_after_frame bare k f.0 f.1) frames) one.1 ∙ ap (λ z. tap_reports bare t f.0 f.1 ++ z) more.1)

pub start_stands : StandsForTap new_kept_tap new_tap
start_stands = grind arith

pub kept_is_enough : (bare : Bool) (frames : List (Bool × Control)) → kept_reported bare new_kept_tap frames ≡ tapped bare frames
kept_is_enough bare frames = (frames_stand bare frames new_kept_tap new_tap start_stands).1

pub kept_is_small : (bare : Bool) (frames : List (Bool × Control)) → IsSmall (kept_after bare new_kept_tap frames)
kept_is_small bare frames = let h0 = frames_stand bare frames new_kept_tap new_tap start_stands in grind arith
