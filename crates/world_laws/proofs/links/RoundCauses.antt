-- The rounds in which a bare link settles are rounds of the law of recovery: their causes, and that the number of the host is all the same.
use Rattle.std.proofs.lemmas.List.{length-append}
use Rattle.world_laws.proofs.Words.{AllAllowed, AllOrdinaryOnLink, AreLinkRounds, AreRoundCauses, AtController, AtHost, Bool, Cause, Controller, EarlierGot}
use Rattle.world_laws.proofs.Words.{FetchMessage, GoesOut, Host, IsFewWires, IsLinkRound, IsLinkUndisturbed, IsStart, Link, LinkEnd, LinkEvent, List, NextFrame}
use Rattle.world_laws.proofs.Words.{OnWire, Side, Step, Take, Taken, Ticked, Ticks, Turn, [], after_causes, after_events-append, after_few, after_input}
use Rattle.world_laws.proofs.Words.{after_link_events, after_steps, allowed-append, ap, arith, bare_link, bare_round_allowed, beside-put_all, cases_lt}
use Rattle.world_laws.proofs.Words.{causes_of_round, causes_of_rounds, come_to_controller, come_to_host, end_of, ended_by, event_at, event_of, events_at}
use Rattle.world_laws.proofs.Words.{exchanged, first_rest, fragments_left, frames_out, got_by_controller, got_by_host, happens, happens_at_controller, idle}
use Rattle.world_laws.proofs.Words.{inl, inr, is_some, length, length-replicate, link_after, link_after_all, link_after_round, link_rests, map, map-append}
use Rattle.world_laws.proofs.Words.{map-replicate, refl, replicate, rest_at_controller, rest_at_host, rounds_to_settle, settling_causes, settling_events}
use Rattle.world_laws.proofs.Words.{subst, suc, sym, take_one, talk_now, times_among, times_ticked, took_with, true, turned, with_ended, zero, ℕ}
use Rattle.world_laws.proofs.Words.{◌*◌, ◌++◌, ◌+◌, ◌<◌, ◌∙◌, ◌∷◌, ◌≡◌, ◌≤◌}

-- ## The rounds in which a link settles are rounds of the law of recovery

-- ### Frames that are taken

-- the first frame is gone from its wire
pub wire_after : (l : Link) (x : OnWire) (xs : List OnWire) (ts : List Turn)
    → (happens_at_controller (record l { to_controller = x ∷ xs }) (Step NextFrame ts GoesOut)).to_controller ≡ xs
wire_after l x xs ts =
    let b : Bool = is_some (ended_by l.controller.side (Take x.frame)) in
    let k : Link = with_ended (record (record l { to_controller = x ∷ xs }) { to_controller = xs }) b in
    let e : LinkEnd = turned (after_input l.controller.side (Take x.frame)) ts in
    (beside-put_all (frames_out e) (record k { controller = record k.controller { took = took_with l.controller.took x } })).to_controller ∙ (grind arith)

-- so many frames come to the controller's end, where so many stand on its wire
record Takes (l : Link) (es : List LinkEvent) (c h : ℕ) : Type 0 where
  ordinary : AllOrdinaryOnLink es
  controller : come_to_controller l es ≡ c
  host : come_to_host l es ≡ h
  times : times_among es ≡ 0

taken_near : (k : ℕ) (l : Link) → k ≤ length l.to_controller → Takes l (replicate k (AtController take_one)) k 0
taken_near zero l i = record { ordinary = tt; controller = refl; host = refl; times = refl }
taken_near (suc k) l i = go l.to_controller i (taken_near k)
  where
    go : (w : List OnWire) → suc k ≤ length w
        → ((m : Link) → k ≤ length m.to_controller → Takes m (replicate k (AtController take_one)) k 0)
        → Takes (record l { to_controller = w }) (replicate (suc k) (AtController take_one)) (suc k) 0
    go [] j later = absurd (omega (arith, j))
    go (x ∷ xs) j later =
        let m : Link = happens (record l { to_controller = x ∷ xs }) (AtController take_one) in
        let t = later m (omega (arith, j, ap (length {A = OnWire}) (wire_after l x xs (FetchMessage ∷ [])))) in
        grind arith

taken_far : (k : ℕ) (l : Link) → k ≤ length l.to_host → Takes l (replicate k (AtHost take_one)) 0 k
taken_far zero l i = record { ordinary = tt; controller = refl; host = refl; times = refl }
taken_far (suc k) l i = go l.to_host i (taken_far k)
  where
    go : (w : List OnWire) → suc k ≤ length w
        → ((m : Link) → k ≤ length m.to_host → Takes m (replicate k (AtHost take_one)) 0 k)
        → Takes (record l { to_host = w }) (replicate (suc k) (AtHost take_one)) 0 (suc k)
    go [] j later = absurd (omega (arith, j))
    go (x ∷ xs) j later =
        let m : Link = happens (record l { to_host = x ∷ xs }) (AtHost take_one) in
        let t = later m (omega (arith, j, ap (length {A = OnWire}) (wire_after (exchanged l) x xs (FetchMessage ∷ [])))) in
        grind arith

-- ### A round

abbrev near_causes : ℕ → Link → List Cause
near_causes h l = replicate (length l.to_controller) (Taken (end_of h Controller))

abbrev far_causes : ℕ → Link → List Cause
far_causes h l = replicate (length (link_after_all l (near_causes h l)).to_host) (Taken (end_of h Host))

-- a round is one of the law, and may happen
pub record Round (h : ℕ) (l : Link) : Type 0 where
  pub is : IsLinkRound l (map event_of (causes_of_round h l))
  pub allowed : AllAllowed l (map event_of (causes_of_round h l))
  pub end : after_link_events l (map event_of (causes_of_round h l)) ≡ link_after_round h l

pub round : (h : ℕ) (l : Link) → Round h l
round h l =
    let near : List LinkEvent = replicate (length l.to_controller) (AtController take_one) in
    let m : Link = after_link_events l near in
    let far : List LinkEvent = replicate (length m.to_host) (AtHost take_one) in
    let one = taken_near (length l.to_controller) l (omega arith) in
    let two = taken_far (length m.to_host) m (omega arith) in
    let time : List LinkEvent = Ticks idle [] idle ∷ [] in
    let first : map event_of (near_causes h l) ≡ near = map-replicate (length l.to_controller) (Taken (end_of h Controller)) in
    let second : map event_of (far_causes h l) ≡ far =
    map-replicate (length (link_after_all l (near_causes h l)).to_host) (Taken (end_of h Host))
    ∙ ap (λ (k : Link). replicate (length k.to_host) (AtHost take_one)) (after_causes (near_causes h l) l ∙ ap (after_link_events l) first) in
    let parts : map event_of (causes_of_round h l) ≡ near ++ (far ++ time) =
    map-append event_of (near_causes h l) (far_causes h l ++ Ticked ∷ [])
    ∙ (ap (λ es. es ++ map event_of (far_causes h l ++ Ticked ∷ [])) first
    ∙ ap (λ es. near ++ es) (map-append event_of (far_causes h l) (Ticked ∷ []) ∙ ap (λ es. es ++ time) second)) in
    record {
      is = grind arith;
      allowed = bare_round_allowed h l;
      end = sym (after_causes (causes_of_round h l) l);
    }

-- ### Rounds

-- so many rounds are those of the law, may happen, and lead as far
pub record Settles (r h : ℕ) (l : Link) : Type 0 where
  are : AreLinkRounds r l (map event_of (causes_of_rounds r h l))
  allowed : AllAllowed l (map event_of (causes_of_rounds r h l))
  pub end : after_link_events l (map event_of (causes_of_rounds r h l)) ≡ after_steps (link_after_round h) r l

pub rounds : (r h : ℕ) (l : Link) → Settles r h l
rounds zero h l = record { are = refl; allowed = tt; end = refl }
rounds (suc r) h l =
    let one = round h l in
    let m : Link = link_after_round h l in
    let more = rounds r h m in
    let first : List LinkEvent = map event_of (causes_of_round h l) in
    let rest : List LinkEvent = map event_of (causes_of_rounds r h m) in
    let parts : map event_of (causes_of_rounds (suc r) h l) ≡ first ++ rest = map-append event_of (causes_of_round h l) (causes_of_rounds r h m) in
    let Q : Link → Type 0 = λ k. AllAllowed k rest in
    record {
      are = (first, rest, parts, one.is, subst (λ k. AreLinkRounds r k rest) (sym one.end) more.are);
      allowed = subst (AllAllowed l) (sym parts) (allowed-append first rest l one.allowed (subst Q (sym one.end) more.allowed));
      end = ap (after_link_events l) parts ∙ (after_events-append first rest l ∙ (ap (λ k. after_link_events k rest) one.end ∙ more.end));
    }

module _ (h : ℕ) (l : Link) (s : IsStart l) (before : List LinkEvent) (a : AllAllowed l before) (n : ℕ)
    (u : IsLinkUndisturbed (after_link_events l before) (settling_events n h (after_link_events l before)))
    (fits : 24 * (fragments_left (after_link_events l before) + 1) ≤ n) where
  abbrev m : Link
  m = after_link_events l before

  abbrev events : List LinkEvent
  events = settling_events n h (after_link_events l before)

  abbrev count : ℕ
  count = rounds_to_settle n h (after_link_events l before)

  done : Settles (rounds_to_settle n h (after_link_events l before)) h (after_link_events l before)
  done = rounds count h m

  -- either all rounds were gone through, or the link is at rest
  rests : count < n → link_rests (after_link_events m events) ≡ true
  rests i = ap link_rests done.end ∙ (first_rest link_rests (link_after_round h) n m).rests_then i

  all : n ≤ count → 24 * (fragments_left m + 1) ≤ count
  all i = omega (arith, fits)

  pub settled_at_host : EarlierGot (talk_now m.controller.side) (talk_now (after_link_events m events).controller.side)
      (talk_now (after_link_events m events).host.side)
  settled_at_host = elim (cases_lt count n) [
    | inl i ↦ rest_at_host l s before a count events done.allowed done.are u (rests i)
    | inr i ↦ got_by_host l s before a count events done.allowed done.are u (all i)
  ]

  pub settled_at_controller : EarlierGot (talk_now m.host.side) (talk_now (after_link_events m events).host.side)
      (talk_now (after_link_events m events).controller.side)
  settled_at_controller = elim (cases_lt count n) [
    | inl i ↦ rest_at_controller l s before a count events done.allowed done.are u (rests i)
    | inr i ↦ got_by_controller l s before a count events done.allowed done.are u (all i)
  ]

-- ## The causes of the rounds of a bare link: what they are, what they do, and how many they are

-- ### One list behind another

pub events-append : (h : ℕ) (l : Link) (cs ds : List Cause) → events_at h l (cs ++ ds) ≡ events_at h l cs ++ events_at h (link_after_all l cs) ds
events-append h l [] ds = refl
events-append h l (c ∷ cs) ds = ap (λ es. event_at h l c ∷ es) (events-append h (link_after l c) cs ds)

-- ### What they do

pub settles : (n h : ℕ) (l : Link) → link_after_all l (settling_causes n h l) ≡ after_steps (link_after_round h) (rounds_to_settle n h l) l
settles n h l = after_causes (settling_causes n h l) l ∙ (rounds (rounds_to_settle n h l) h l).end

-- ### What they are

module _ (h : ℕ) where
  are_then : (l : Link) (cs ds : List Cause) → AreRoundCauses h l cs → AreRoundCauses h (link_after_all l cs) ds → AreRoundCauses h l (cs ++ ds)
  are_then l [] ds a b = b
  are_then l (c ∷ cs) ds a b = (a.0, are_then (link_after l c) cs ds a.1 b)

  near_are : (k : ℕ) (l : Link) → k ≤ length l.to_controller → AreRoundCauses h l (replicate k (Taken (end_of h Controller)))
  near_are zero l i = tt
  near_are (suc k) l i = go l.to_controller i (near_are k)
    where
      go : (w : List OnWire) → suc k ≤ length w
          → ((m : Link) → k ≤ length m.to_controller → AreRoundCauses h m (replicate k (Taken (end_of h Controller))))
          → AreRoundCauses h (record l { to_controller = w }) (replicate (suc k) (Taken (end_of h Controller)))
      go [] j later = absurd (omega (arith, j))
      go (x ∷ xs) j later =
          let m : Link = link_after (record l { to_controller = x ∷ xs }) (Taken (end_of h Controller)) in
          ((refl, omega arith), later m (omega (arith, j, ap (length {A = OnWire}) (wire_after l x xs (FetchMessage ∷ [])))))

  far_are : (k : ℕ) (l : Link) → k ≤ length l.to_host → AreRoundCauses h l (replicate k (Taken (end_of h Host)))
  far_are zero l i = tt
  far_are (suc k) l i = go l.to_host i (far_are k)
    where
      go : (w : List OnWire) → suc k ≤ length w
          → ((m : Link) → k ≤ length m.to_host → AreRoundCauses h m (replicate k (Taken (end_of h Host))))
          → AreRoundCauses h (record l { to_host = w }) (replicate (suc k) (Taken (end_of h Host)))
      go [] j later = absurd (omega (arith, j))
      go (x ∷ xs) j later =
          let m : Link = link_after (record l { to_host = x ∷ xs }) (Taken (end_of h Host)) in
          ((refl, omega arith), later m (omega (arith, j, ap (length {A = OnWire}) (wire_after (exchanged l) x xs (FetchMessage ∷ [])))))

  abbrev pub near : Link → List Cause
  near l = replicate (length l.to_controller) (Taken (end_of h Controller))

  abbrev pub far : Link → List Cause
  far l = replicate (length (link_after_all l (near l)).to_host) (Taken (end_of h Host))

  round_are : (l : Link) → AreRoundCauses h l (causes_of_round h l)
  round_are l =
      let m : Link = link_after_all l (near l) in
      are_then l (near l) (far l ++ Ticked ∷ []) (near_are (length l.to_controller) l (omega arith))
      (are_then m (far l) (Ticked ∷ []) (far_are (length m.to_host) m (omega arith)) (tt, tt))

  pub rounds_are : (r : ℕ) (l : Link) → AreRoundCauses h l (causes_of_rounds r h l)
  rounds_are zero l = tt
  rounds_are (suc r) l = are_then l (causes_of_round h l) (causes_of_rounds r h (link_after_round h l)) (round_are l) (rounds_are r (link_after_round h l))

  -- ### Time

  ticks-append : (cs ds : List Cause) → times_ticked (cs ++ ds) ≡ times_ticked cs + times_ticked ds
  ticks-append [] ds = omega arith
  ticks-append (Ticked ∷ cs) ds = let rest = ticks-append cs ds in omega (arith, rest)
  ticks-append (_ ∷ cs) ds = ticks-append cs ds

  no_ticks : (k : ℕ) (who : Side) → times_ticked (replicate k (Taken (end_of h who))) ≡ 0
  no_ticks zero who = refl
  no_ticks (suc k) who = no_ticks k who

  one_tick : (l : Link) → times_ticked (causes_of_round h l) ≡ 1
  one_tick l =
      let one = no_ticks (length l.to_controller) Controller in
      let two = no_ticks (length (link_after_all l (near l)).to_host) Host in
      omega (arith, ticks-append (near l) (far l ++ Ticked ∷ []), ticks-append (far l) (Ticked ∷ []), one, two)

  pub ticks_are : (r : ℕ) (l : Link) → times_ticked (causes_of_rounds r h l) ≡ r
  ticks_are zero l = refl
  ticks_are (suc r) l =
      let rest = ticks_are r (link_after_round h l) in
      omega (arith, ticks-append (causes_of_round h l) (causes_of_rounds r h (link_after_round h l)), one_tick l, rest)

  -- ### Their number

  causes_few : (l : Link) (cs : List Cause) → IsFewWires l → IsFewWires (link_after_all l cs)
  causes_few l cs a = subst IsFewWires (sym (after_causes cs l)) (after_few (map event_of cs) l a)

  round_few : (l : Link) → IsFewWires l → length (causes_of_round h l) ≤ 2 * 64 + 1
  round_few l a =
      let one = length-replicate (length l.to_controller) (Taken (end_of h Controller)) in
      let two = length-replicate (length (link_after_all l (near l)).to_host) (Taken (end_of h Host)) in
      let q = (causes_few l (near l) a).to_host in
      omega (arith, length-append (near l) (far l ++ Ticked ∷ []), length-append (far l) (Ticked ∷ []), one, two, a.to_controller, q)

  pub rounds_few : (r : ℕ) (l : Link) → IsFewWires l → length (causes_of_rounds r h l) ≤ (2 * 64 + 1) * r
  rounds_few zero l a = omega arith
  rounds_few (suc r) l a =
      let m : Link = link_after_round h l in
      let rest = rounds_few r m (causes_few l (causes_of_round h l) a) in
      omega (arith, length-append (causes_of_round h l) (causes_of_rounds r h m), round_few l a, rest)

pub bare_few : (cs : List Cause) → IsFewWires (link_after_all bare_link cs)
bare_few cs = subst IsFewWires (sym (after_causes cs bare_link)) (after_few (map event_of cs) bare_link (grind arith))

-- ## The rounds of a bare link are the same whatever number its host has

-- what is the same on the link leads to the same one
same_link : (l : Link) (cs ds : List Cause) → map event_of cs ≡ map event_of ds → link_after_all l cs ≡ link_after_all l ds
same_link l cs ds e = after_causes cs l ∙ (ap (after_link_events l) e ∙ sym (after_causes ds l))

same_near : (h k : ℕ) (l : Link) → map event_of (near h l) ≡ map event_of (near k l)
same_near h k l =
    map-replicate (length l.to_controller) (Taken (end_of h Controller)) ∙ sym (map-replicate (length l.to_controller) (Taken (end_of k Controller)))

abbrev take_one_of_any_host : LinkEvent
take_one_of_any_host = AtHost (Step NextFrame (FetchMessage ∷ []) GoesOut)

same_far : (h k : ℕ) (l : Link) → map event_of (far h l) ≡ map event_of (far k l)
same_far h k l =
    map-replicate (length (link_after_all l (near h l)).to_host) (Taken (end_of h Host))
    ∙ (ap (λ (m : Link). replicate (length m.to_host) take_one_of_any_host) (same_link l (near h l) (near k l) (same_near h k l))
    ∙ sym (map-replicate (length (link_after_all l (near k l)).to_host) (Taken (end_of k Host))))

same_round : (h k : ℕ) (l : Link) → map event_of (causes_of_round h l) ≡ map event_of (causes_of_round k l)
same_round h k l =
    let parts : (j : ℕ) → map event_of (causes_of_round j l) ≡ map event_of (near j l) ++ (map event_of (far j l) ++ map event_of (Ticked ∷ [])) =
    λ j. map-append event_of (near j l) (far j l ++ Ticked ∷ []) ∙ ap (λ es. map event_of (near j l) ++ es) (map-append event_of (far j l) (Ticked ∷ [])) in
    parts h
    ∙ (ap (λ es. es ++ (map event_of (far h l) ++ map event_of (Ticked ∷ []))) (same_near h k l)
    ∙ (ap (λ es. map event_of (near k l) ++ (es ++ map event_of (Ticked ∷ []))) (same_far h k l) ∙ sym (parts k)))

same_after : (h k : ℕ) (l : Link) → link_after_round h l ≡ link_after_round k l
same_after h k l = same_link l (causes_of_round h l) (causes_of_round k l) (same_round h k l)

same_rounds : (r h k : ℕ) (l : Link) → map event_of (causes_of_rounds r h l) ≡ map event_of (causes_of_rounds r k l)
same_rounds zero h k l = refl
same_rounds (suc r) h k l =
    let parts : (j : ℕ)
    → map event_of (causes_of_rounds (suc r) j l) ≡ map event_of (causes_of_round j l) ++ map event_of (causes_of_rounds r j (link_after_round j l)) =
    λ j. map-append event_of (causes_of_round j l) (causes_of_rounds r j (link_after_round j l)) in
    parts h
    ∙ (ap (λ es. es ++ map event_of (causes_of_rounds r h (link_after_round h l))) (same_round h k l)
    ∙ (ap (λ es. map event_of (causes_of_round k l) ++ es)
    (same_rounds r h k (link_after_round h l) ∙ ap (λ (m : Link). map event_of (causes_of_rounds r k m)) (same_after h k l))
    ∙ sym (parts k)))

pub same_count : (n h k : ℕ) (l : Link) → rounds_to_settle n h l ≡ rounds_to_settle n k l
same_count zero h k l = refl
same_count (suc n) h k l =
    let h0 = link_after_round k in let h1 = link_rests l in let h2 = same_count n h k (link_after_round h l) in let h3 = same_after h k l in grind arith

pub same_settling : (n h k : ℕ) (l : Link) → settling_events n h l ≡ settling_events n k l
same_settling n h k l = let h0 = same_count n h k l in let h1 = same_rounds (rounds_to_settle n k l) h k l in grind arith
