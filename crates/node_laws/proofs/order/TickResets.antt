-- A tick in which the controller's end of a link is reset is read off what is noted of it.
use Rattle.node_laws.proofs.Words.{Acked, Act, Active, AllByRecursion, Asked, AsksReset, Bool, Cause, Clt, Control, Controller, Cut, CutOff, Down, Emit, Ending}
use Rattle.node_laws.proofs.Words.{Entry, FindsReady, GaveUp, GoesOut, Got, HasTick, Host, I, IsRunOf, Link, LinkEnd, LinkEvent, LinkInput, List, Loss, Lost}
use Rattle.node_laws.proofs.Words.{Message, Node, None, Noted, OnWire, Option, Report, Reset, Restarted, Rset, S, Sent, Some, Step, TicksWithout, TooOld, Turn}
use Rattle.node_laws.proofs.Words.{Ua, [], after_input, aged, aged_entries, ap, append_assoc, arith, behind_reset_of, by_test, cond, cuts_on, end_c, end_h}
use Rattle.node_laws.proofs.Words.{end_of, ended_by, entries_for, event_entries, exchanged, false, far, frames_out, happens, happens_at_controller, if_so}
use Rattle.node_laws.proofs.Words.{is_act, is_own_reset, is_reset_down, is_rset, is_some, list_any, list_any-append, lost_as, lpdu_of, map, nat_lt, not}
use Rattle.node_laws.proofs.Words.{number_of, of_link, option_to_list, or_none, pushed_out, put, puts_entries, refl, report, reset_refusal, rest_entries, said}
use Rattle.node_laws.proofs.Words.{same_number, step_entries, sym, tells_of, tick_entries, ticks_at_controller, told, told_of, true, true≢false, turn}
use Rattle.node_laws.proofs.Words.{turn_entries, turn_entry, turned, whole_acked, wire_with, with_ended, withholds, ℕ, ◌++◌, ◌||◌, ◌∙◌, ◌∷◌, ◌≡◌}
use Rattle.link_laws.specs.entries.Entries.{End, End as Side}
use Rattle.link_laws.specs.entries.Entries.Entry.{Tick, Up}
use Rattle.node_laws.specs.order.Resets.{asks_at}
use Rattle.node_laws.proofs.order.Watches.{IsSince, IsStepOf, input_cut, is_cut, kept_act, loses_one_on, no_cut, since_reset, spoils_none}
use Rattle.node_laws.proofs.telling.Accounts.{untold}
use Rattle.node_laws.proofs.telling.Shapes.{rest_all}
use Rattle.node_laws.proofs.telling.WorldTicks.{tick_event}
use Rattle.trace_model.specs.declared.entry.Entry.TheVariants as entry

-- ## What holds of all notes that an end makes but for a few kinds of them holds of what is noted of its steps

-- It holds of the notes of messages, and of frames that go out of this end, or are lost.
pub record Holds (D : Noted → Type 0) (who : End) : Type 0 where
  pub up : (n : ℕ) → D (Up who n)
  pub gave_up : (tries : ℕ) → D (GaveUp who tries)
  pub acked : (n count : ℕ) → D (Acked who n count)
  pub got : (n : ℕ) (m : Message) → D (Got who n m)
  pub sent : (n : ℕ) (m : Message) → D (Sent who n m)
  pub emit : (c : Control) → D (Emit who c)
  pub lost : (w : End) (c : Control) (why : Loss) → D (Lost w c why)

module _ (D : Noted → Type 0) (who : End) (holds : Holds D who) where
  abbrev Are : List Noted → Type 0
  Are t = AllByRecursion D t

  pub are-append : (t u : List Noted) → Are t → Are u → Are (t ++ u)
  are-append [] u a b = b
  are-append (x ∷ t) u a b = (a.0, are-append t u a.1 b)

  pub are_so : (c : Bool) (x : Noted) → D x → Are (if_so c x)
  are_so c x a = grind arith

  pub are_mapped : {A : Type 0} (f : A → Noted) (xs : List A) → ((x : A) → D (f x)) → Are (map f xs)
  are_mapped f [] a = tt
  are_mapped f (x ∷ xs) a = (a x, are_mapped f xs a)

  -- what is told of an input behind that activation is done
  pub are_last : (n : ℕ) (r : Report) (acked : ℕ)
      → Are (map (GaveUp who) (option_to_list r.gave_up) ++ (if_so (nat_lt 0 r.acked) (Acked who n acked) ++ map (Got who n) r.got))
  are_last n r acked =
      are-append (map (GaveUp who) (option_to_list r.gave_up)) _ (are_mapped (GaveUp who) (option_to_list r.gave_up) holds.gave_up)
      (are-append (if_so (nat_lt 0 r.acked) (Acked who n acked)) _ (are_so (nat_lt 0 r.acked) (Acked who n acked) (holds.acked n acked))
      (are_mapped (Got who n) r.got (holds.got n)))

  pub are_turns : (n : ℕ) (e : LinkEnd) (ts : List Turn) → Are (turn_entries who n e ts)
  are_turns n e [] = tt
  are_turns n e (t ∷ ts) = are-append (turn_entry who n e t) (turn_entries who n (turn e t) ts) (grind arith) (are_turns n (turn e t) ts)

  pub are_puts : (cs : List Control) (l : Link) → Are (puts_entries who l cs)
  are_puts [] l = tt
  are_puts (c ∷ cs) l = (
    holds.emit c,
    are-append (pushed_out (far who) (wire_with l c)) (puts_entries who (put l c) cs) (grind arith) (are_puts cs (put l c)),
  )

  pub are_aged : (w : End) (xs : List OnWire) → Are (aged_entries w xs)
  are_aged w [] = tt
  are_aged w (x ∷ xs) = by_test (nat_lt x.age 4) (λ q. rw q (are_aged w xs)) (λ q. rw q (holds.lost w x.frame TooOld, are_aged w xs))

-- ## A tick in which the controller's end of a link is reset, as its notice is late, is read off what is noted of it

-- ### Notes of a reset

-- the controller's end was reset: its session ended so
abbrev asked : Noted → Bool
asked (Down Controller cause) = is_own_reset cause
asked _ = false

none_all : (f : Noted → Bool) (t : List Noted) → AllByRecursion (λ n. f n ≡ false) t → list_any f t ≡ false
none_all f [] a = refl
none_all f (n ∷ t) a = ap (λ b. b || list_any f t) a.0 ∙ none_all f t a.1

any_last : (f : Noted → Bool) (t u : List Noted) → list_any f t ≡ false → list_any f (t ++ u) ≡ true → list_any f u ≡ true
any_last f t u none some = sym (ap (λ b. b || list_any f u) none) ∙ (sym (list_any-append f t u) ∙ some)

any_first : (f : Noted → Bool) (t u : List Noted) → list_any f u ≡ false → list_any f (t ++ u) ≡ true → list_any f t ≡ true
any_first f t u none some = either (list_any f t) (list_any f u) none (sym (list_any-append f t u) ∙ some)
  where
    either : (a b : Bool) → b ≡ false → (a || b) ≡ true → a ≡ true
    either a b q r = grind arith

abbrev Unasked : Noted → Type 0
Unasked n = asked n ≡ false

unasked : (who : Side) → Holds Unasked who
unasked who = grind arith

-- behind the end of a session
rest_unasked : (who : Side) (n : ℕ) (r : Report) (acked : ℕ)
    → AllByRecursion Unasked (if_so r.began (Up who n) ++ (if_so r.became_active (Active who)
    ++ (map (GaveUp who) (option_to_list r.gave_up) ++ (if_so (nat_lt 0 r.acked) (Acked who n acked) ++ map (Got who n) r.got))))
rest_unasked who n r acked = rest_all Unasked who n acked refl refl (λ k. refl) refl (λ m. refl) r

told_asked : (n : ℕ) (r : Report) (acked : ℕ) → list_any asked (told Controller n r acked) ≡ true → r.ended ≡ Some Asked
told_asked n r acked q =
    go r.ended (any_first asked (map (Down Controller) (option_to_list r.ended)) _ (none_all asked _ (rest_unasked Controller n r acked)) q)
  where
    go : (o : Option Cause) → list_any asked (map (Down Controller) (option_to_list o)) ≡ true → o ≡ Some Asked
    go o z = grind arith

ending_unasked : (who : Side) (l : Link) (e : LinkEnd) (ts : List Turn) (ending : Ending) → AllByRecursion Unasked (rest_entries who l e ts ending)
ending_unasked who l e ts GoesOut =
    are-append Unasked who (unasked who) (turn_entries who (number_of l.controller) e ts) (puts_entries who l (frames_out (turned e ts)))
    (are_turns Unasked who (unasked who) (number_of l.controller) e ts) (are_puts Unasked who (unasked who) (frames_out (turned e ts)) l)
ending_unasked who l e ts CutOff =
    are-append Unasked who (unasked who) (turn_entries who (number_of l.controller) e ts) (Cut who ∷ [])
    (are_turns Unasked who (unasked who) (number_of l.controller) e ts) (refl, tt)

-- an input of the controller's end
input_asked : (l k : Link) (i : LinkInput) (ts : List Turn) (ending : Ending)
    → list_any asked (told_of Controller l.controller i ++ rest_entries Controller k (after_input l.controller.side i) ts ending) ≡ true
    → ended_by l.controller.side i ≡ Some Asked
input_asked l k i ts ending q =
    told_asked (number_of l.controller) (report l.controller.side i) (whole_acked (after_input l.controller.side i))
    (any_first asked (told_of Controller l.controller i) (rest_entries Controller k (after_input l.controller.side i) ts ending)
    (none_all asked _ (ending_unasked Controller k (after_input l.controller.side i) ts ending)) q)

-- a tick ends no session as asked
tick_unasked : (e : LinkEnd) → ended_by e HasTick ≡ Some Asked → ⊥
tick_unasked e q = grind arith

-- a reset that does is granted
reset_granted : (e : LinkEnd) (window : Option ℕ) → ended_by e (Reset window) ≡ Some Asked → reset_refusal e ≡ None
reset_granted e window q = grind arith

-- ### A tick

aged_none : (f : Noted → Bool) (l : Link) (t : List Noted) → Holds (λ n. f n ≡ false) Controller → f Tick ≡ false
    → list_any f (Tick ∷ (aged_entries Controller l.to_controller ++ (aged_entries Host l.to_host ++ t))) ≡ true → list_any f t ≡ true
aged_none f l t k tick q =
    let D : Noted → Type 0 = λ n. f n ≡ false in
    any_last f (aged_entries Host l.to_host) t (none_all f _ (are_aged D Controller k Host l.to_host))
    (any_last f (aged_entries Controller l.to_controller) (aged_entries Host l.to_host ++ t) (none_all f _ (are_aged D Controller k Controller l.to_controller))
    (any_last f (Tick ∷ []) (aged_entries Controller l.to_controller ++ (aged_entries Host l.to_host ++ t)) (ap (λ b. b || false) tick) q))

-- the host's tick says nothing of a reset of the controller's end
host_unasked : (k : Link) (n : Node) → list_any asked (tick_entries Host k n) ≡ false
host_unasked k n =
    let e : LinkEnd = k.controller.side in
    let m : Link = with_ended k (is_some (ended_by e HasTick)) in
    let r : Report = report e HasTick in
    none_all asked (tick_entries Host k n)
    (are-append Unasked Host (unasked Host) (told_of Host k.controller HasTick) (rest_entries Host m (after_input e HasTick) n.turns n.ending)
    (grind arith)
    (ending_unasked Host m (after_input e HasTick) n.turns n.ending))

-- where such a reset is noted of a tick, the tick had it, and it was granted
record IsResetInTick (late : Bool) (l : Link) : Type 0 where
  pub late_is : late ≡ true
  pub granted : reset_refusal l.controller.side ≡ None

tick_asked : (late : Bool) (l : Link) (c n : Node) → list_any asked (event_entries l (tick_event late c n)) ≡ true → IsResetInTick late l
tick_asked false l c n q =
    let near : List Noted = tick_entries Controller (aged l) c in
    let k : Link = exchanged (ticks_at_controller (aged l) c.turns c.ending) in
    absurd (tick_unasked l.controller.side
    (input_asked (aged l) (with_ended (aged l) (is_some (ended_by l.controller.side HasTick))) HasTick c.turns c.ending
    (any_first asked near (tick_entries Host k n) (host_unasked k n)
    (aged_none asked l (near ++ tick_entries Host k n) (unasked Controller) refl q))))
tick_asked true l c n q =
    let near : List Noted = step_entries Controller (aged l) (AsksReset None) c.turns c.ending in
    let k : Link = exchanged (happens_at_controller (aged l) (Step (AsksReset None) c.turns c.ending)) in
    record {
      late_is = refl;
      granted = reset_granted l.controller.side None
          (input_asked (aged l) (with_ended (aged l) (is_some (ended_by l.controller.side (Reset None)))) (Reset None) c.turns c.ending
          (any_first asked near [] refl
          (any_first asked (near ++ []) (tick_entries Host k n) (host_unasked k n)
          (aged_none asked l ((near ++ []) ++ tick_entries Host k n) (unasked Controller) refl q))));
    }

-- ### What is told of it

module _ (h : ℕ) where
  -- only what tells of the link counts
  kept_any : (f : Entry → Bool) → ((e : Entry) → tells_of h e ≡ false → f e ≡ false) → (t : List Entry) → list_any f t ≡ list_any f (of_link h t)
  kept_any f off [] = refl
  kept_any f off (e ∷ t) = by_test (tells_of h e)
      (λ q. rw q (ap (λ b. f e || b) (kept_any f off t)))
      (λ q. rw q (ap (λ b. b || list_any f t) (off e q) ∙ kept_any f off t))

  alike : (f : Entry → Bool) → ((e : Entry) → tells_of h e ≡ false → f e ≡ false) → (t u : List Entry) → of_link h t ≡ of_link h u
      → list_any f t ≡ list_any f u
  alike f off t u q = kept_any f off t ∙ (ap (list_any f) q ∙ sym (kept_any f off u))

  -- behind a reset of the controller's end
  kept_behind : (f : Entry → Bool) → ((e : Entry) → tells_of h e ≡ false → f e ≡ false)
      → ((e : Entry) → tells_of h e ≡ false → is_reset_down (end_c h) e ≡ false) → (t : List Entry)
      → list_any f (behind_reset_of (end_c h) t) ≡ list_any f (behind_reset_of (end_c h) (of_link h t))
  kept_behind f off down [] = refl
  kept_behind f off down (e ∷ t) = by_test (tells_of h e)
      (λ q. rw q (by_test (is_reset_down (end_c h) e) (λ q. rw q (kept_any f off t)) (λ q. rw q (kept_behind f off down t))))
      (λ q. rw q (ap (λ b. list_any f (cond b t (behind_reset_of (end_c h) t))) (down e q) ∙ kept_behind f off down t))

  alike_behind : (f : Entry → Bool) → ((e : Entry) → tells_of h e ≡ false → f e ≡ false)
      → ((e : Entry) → tells_of h e ≡ false → is_reset_down (end_c h) e ≡ false) → (t u : List Entry) → of_link h t ≡ of_link h u
      → list_any f (behind_reset_of (end_c h) t) ≡ list_any f (behind_reset_of (end_c h) u)
  alike_behind f off down t u q = kept_behind f off down t ∙ (ap (λ l. list_any f (behind_reset_of (end_c h) l)) q ∙ sym (kept_behind f off down u))

  down_off : (e : Entry) → tells_of h e ≡ false → is_reset_down (end_c h) e ≡ false
  down_off e q = grind arith

  lost_off : (e : Entry) → tells_of h e ≡ false → loses_one_on h e ≡ false
  lost_off e q = (or_none _ _ (spoils_none h (said e) (untold h e q))).0

  asks_off : (e : Entry) → tells_of h e ≡ false → asks_at (end_h h) e ≡ false
  asks_off e q = grind arith

  -- notes
  asked_notes : (t : List Noted) → list_any (is_reset_down (end_c h)) (entries_for h t) ≡ list_any asked t
  asked_notes [] = refl
  asked_notes (Down Controller cause ∷ t) = let q = same_number h in rw q (ap (λ b. is_own_reset cause || b) (asked_notes t))
  asked_notes (Down Host cause ∷ t) = let q = same_number h in rw q (asked_notes t)
  asked_notes (_ ∷ t) = asked_notes t

  -- a frame is lost that isn't of activation
  abbrev is_lost : Noted → Bool
  is_lost (Lost w c why) = not (is_act c)
  is_lost _ = false

  lost_notes : (t : List Noted) → list_any (loses_one_on h) (entries_for h t) ≡ false → list_any is_lost t ≡ false
  lost_notes [] q = refl
  lost_notes (Lost w c why ∷ t) q =
      let one = or_none (loses_one_on h (entry.Lost (end_of h w) (lpdu_of c) (lost_as why))) (list_any (loses_one_on h) (entries_for h t)) q in
      ap (λ b. b || list_any is_lost t) (kept_act h w c why one.0) ∙ lost_notes t one.1
  lost_notes (_ ∷ t) q = lost_notes t q

  -- what is noted behind such a reset
  abbrev behind_asked : List Noted → List Noted
  behind_asked [] = []
  behind_asked (n ∷ t) = cond (asked n) t (behind_asked t)

  lost_behind : (t : List Noted) → list_any (loses_one_on h) (behind_reset_of (end_c h) (entries_for h t)) ≡ false
      → list_any is_lost (behind_asked t) ≡ false
  lost_behind [] q = refl
  lost_behind (Down Controller cause ∷ t) q = by (is_own_reset cause) (let z = same_number h in rw z at q) (lost_behind t) where
    by : (b : Bool) → list_any (loses_one_on h) (cond b (entries_for h t) (behind_reset_of (end_c h) (entries_for h t))) ≡ false
        → (list_any (loses_one_on h) (behind_reset_of (end_c h) (entries_for h t)) ≡ false → list_any is_lost (behind_asked t) ≡ false)
        → list_any is_lost (cond b t (behind_asked t)) ≡ false
    by true z later = lost_notes t z
    by false z later = later z
  lost_behind (Down Host cause ∷ t) q = lost_behind t (let z = same_number h in rw z at q)
  lost_behind (_ ∷ t) q = lost_behind t q

  -- what stands last of them stands behind it
  behind_last : (u x : List Noted) → list_any asked x ≡ false → list_any asked (u ++ x) ≡ true → list_any is_lost (behind_asked (u ++ x)) ≡ false
      → list_any is_lost x ≡ false
  behind_last [] x none some q = absurd (true≢false (sym some ∙ none))
  behind_last (n ∷ u) x none some q = by (asked n) some q (behind_last u x none) where
    by : (b : Bool) → (b || list_any asked (u ++ x)) ≡ true → list_any is_lost (cond b (u ++ x) (behind_asked (u ++ x))) ≡ false
        → (list_any asked (u ++ x) ≡ true → list_any is_lost (behind_asked (u ++ x)) ≡ false → list_any is_lost x ≡ false)
        → list_any is_lost x ≡ false
    by true y z later = (or_none (list_any is_lost u) (list_any is_lost x) (sym (list_any-append is_lost u x) ∙ z)).1
    by false y z later = later y z

  abbrev asks_far : Noted → Bool
  asks_far (Emit Host c) = is_rset c
  asks_far _ = false

  -- what is told of a frame that goes out
  abbrev asks_by : Side → Control → Bool
  asks_by w c = asks_at (end_h h) (entry.Emit (end_of h w) (lpdu_of c))

  far_notes : (t : List Noted) → list_any (asks_at (end_h h)) (entries_for h t) ≡ false → list_any asks_far t ≡ false
  far_notes [] q = refl
  far_notes (Emit Controller c ∷ t) q = far_notes t (or_none (asks_by Controller c) (list_any (asks_at (end_h h)) (entries_for h t)) q).1
  far_notes (Emit Host (Rset window caps) ∷ t) q = grind arith
  far_notes (Emit Host (I ns nr info) ∷ t) q = far_notes t (or_none (asks_by Host (I ns nr info)) (list_any (asks_at (end_h h)) (entries_for h t)) q).1
  far_notes (Emit Host (S kind nr) ∷ t) q = far_notes t (or_none (asks_by Host (S kind nr)) (list_any (asks_at (end_h h)) (entries_for h t)) q).1
  far_notes (Emit Host Ua ∷ t) q = far_notes t (or_none (asks_by Host Ua) (list_any (asks_at (end_h h)) (entries_for h t)) q).1
  far_notes (Emit Host (Act act again) ∷ t) q = far_notes t (or_none (asks_by Host (Act act again)) (list_any (asks_at (end_h h)) (entries_for h t)) q).1
  far_notes (Emit Host Clt ∷ t) q = far_notes t (or_none (asks_by Host Clt) (list_any (asks_at (end_h h)) (entries_for h t)) q).1
  far_notes (_ ∷ t) q = far_notes t q

-- ### What withholds no answer

-- it is no frame that goes out of the controller's end, and begins or ends no activation
abbrev IsFar : Noted → Type 0
IsFar (Emit Controller c) = ⊥
IsFar (Restarted w) = ⊥
IsFar _ = Unit {0}

far_holds : Holds IsFar Host
far_holds = grind arith

far_ending : (k : Link) (e : LinkEnd) (ts : List Turn) (ending : Ending) → AllByRecursion IsFar (rest_entries Host k e ts ending)
far_ending k e ts GoesOut =
    are-append IsFar Host far_holds (turn_entries Host (number_of k.controller) e ts) (puts_entries Host k (frames_out (turned e ts)))
    (are_turns IsFar Host far_holds (number_of k.controller) e ts) (are_puts IsFar Host far_holds (frames_out (turned e ts)) k)
far_ending k e ts CutOff =
    are-append IsFar Host far_holds (turn_entries Host (number_of k.controller) e ts) (Cut Host ∷ [])
    (are_turns IsFar Host far_holds (number_of k.controller) e ts) (tt, tt)

far_tick : (k : Link) (n : Node) → AllByRecursion IsFar (tick_entries Host k n)
far_tick k n =
    let e : LinkEnd = k.controller.side in
    let r : Report = report e HasTick in
    are-append IsFar Host far_holds (told_of Host k.controller HasTick) _
    (grind arith)
    (far_ending (with_ended k (is_some (ended_by e HasTick))) (after_input e HasTick) n.turns n.ending)

left_alone : (h : ℕ) (t : List Noted) → AllByRecursion IsFar t → list_any (is_lost h) t ≡ false → list_any (asks_far h) t ≡ false → list_any is_cut t ≡ false
    → list_any withholds t ≡ false
left_alone h [] a q r s = refl
left_alone h (Lost w c why ∷ t) a q r s =
    let z = or_none (not (is_act c)) (list_any (is_lost h) t) q in ap (λ b. b || list_any withholds t) z.0 ∙ left_alone h t a.1 z.1 r s
left_alone h (Restarted w ∷ t) a q r s = absurd a.0
left_alone h (Cut w ∷ t) a q r s = absurd (true≢false s)
left_alone h (Emit Controller c ∷ t) a q r s = absurd a.0
left_alone h (Emit Host c ∷ t) a q r s =
    let z = or_none (is_rset c) (list_any (asks_far h) t) r in ap (λ b. b || list_any withholds t) z.0 ∙ left_alone h t a.1 q z.1 s
left_alone h (_ ∷ t) a q r s = left_alone h t a.1 q r s

-- ### The link behind it

-- of a tick with such a reset: what its entries say of the link
pub record IsAnsweredTick (h : ℕ) (u : List Entry) : Type 0 where
  pub reset : list_any (is_reset_down (end_c h)) u ≡ true
  pub powered : list_any (cuts_on h) u ≡ false
  pub lossless : list_any (loses_one_on h) (behind_reset_of (end_c h) u) ≡ false
  pub alone : list_any (asks_at (end_h h)) u ≡ false

module _ (h : ℕ) (l : Link) (c n : Node) (u : List Entry) (events : List LinkEvent) (run : IsRunOf events l) (says : IsAnsweredTick h u) where
  -- no later part of what is noted says anything
  parts_none : (f : Noted → Bool) (a b s x : List Noted) → list_any f (Tick ∷ (a ++ (b ++ (s ++ x)))) ≡ false → f Tick ≡ false → list_any f x ≡ false
  parts_none f a b s x q t =
      let one = or_none (f Tick) (list_any f (a ++ (b ++ (s ++ x)))) q in
      (or_none (list_any f s) (list_any f x) (sym (list_any-append f s x)
      ∙ (or_none (list_any f b) (list_any f (s ++ x)) (sym (list_any-append f b (s ++ x))
      ∙ (or_none (list_any f a) (list_any f (b ++ (s ++ x))) (sym (list_any-append f a (b ++ (s ++ x))) ∙ one.1)).1)).1)).1

  abbrev turned_out : Ending → LinkEvent
  turned_out ending = TicksWithout (Step (AsksReset None) c.turns ending ∷ []) n

  tick_reset : (ending : Ending) → IsStepOf h l (turned_out ending) u → list_any asked (event_entries l (turned_out ending)) ≡ true → FindsReady l
      → IsSince (happens l (turned_out ending))
  tick_reset CutOff m some ready =
      let cut : list_any is_cut (step_entries Controller (aged l) (AsksReset None) c.turns CutOff) ≡ true =
      input_cut Controller (aged l) (Reset None) c.turns in
      absurd (true≢false (sym cut ∙ first_none (no_cut h u (event_entries l (turned_out CutOff)) says.powered m.stands)))
    where
      first_none : list_any is_cut (event_entries l (turned_out CutOff)) ≡ false
          → list_any is_cut (step_entries Controller (aged l) (AsksReset None) c.turns CutOff) ≡ false
      first_none q =
          let s : List Noted = step_entries Controller (aged l) (AsksReset None) c.turns CutOff in
          (or_none (list_any is_cut s) _ (sym (list_any-append is_cut s []) ∙ (or_none (list_any is_cut (s ++ [])) _ (sym (list_any-append is_cut (s ++ []) _)
          ∙ (parts_none is_cut (aged_entries Controller l.to_controller) (aged_entries Host l.to_host) [] _ q refl))).0)).0
  tick_reset GoesOut m some ready =
      let e : LinkEvent = turned_out GoesOut in
      let notes : List Noted = event_entries l e in
      let k : Link = happens_at_controller (aged l) (Step (AsksReset None) c.turns GoesOut) in
      let s : List Noted = step_entries Controller (aged l) (AsksReset None) c.turns GoesOut in
      let x : List Noted = tick_entries Host (exchanged k) n in
      let a : List Noted = aged_entries Controller l.to_controller in
      let b : List Noted = aged_entries Host l.to_host in
      let tells : of_link h u ≡ of_link h (entries_for h notes) = m.tells in
      let first : List Noted = Tick ∷ (a ++ (b ++ (s ++ []))) in
      let parts : first ++ x ≡ notes =
      ap (λ z. Tick ∷ z) (append_assoc a (b ++ (s ++ [])) x ∙ ap (λ z. a ++ z) (append_assoc b (s ++ []) x)) in
      let behind : list_any (is_lost h) (behind_asked h notes) ≡ false =
      lost_behind h notes (sym (alike_behind h (loses_one_on h) (lost_off h) (down_off h) u (entries_for h notes) tells) ∙ says.lossless) in
      let lost : list_any (is_lost h) x ≡ false =
      behind_last h first x (host_unasked (exchanged k) n) (ap (list_any asked) parts ∙ some)
      (ap (λ z. list_any (is_lost h) (behind_asked h z)) parts ∙ behind) in
      let far : list_any (asks_far h) notes ≡ false =
      far_notes h notes (sym (alike h (asks_at (end_h h)) (asks_off h) u (entries_for h notes) tells) ∙ says.alone) in
      let last : list_any withholds x ≡ false =
      left_alone h x (far_tick (exchanged k) n) lost (parts_none (asks_far h) a b (s ++ []) x far refl)
      (parts_none is_cut a b (s ++ []) x (no_cut h u notes says.powered m.stands) refl) in
      since_reset l e events run m.can ready last

  -- where the host's end was ready
  pub reset_in_tick : (late : Bool) → IsStepOf h l (tick_event late c n) u → (reset_refusal l.controller.side ≡ None → FindsReady l)
      → IsSince (happens l (tick_event late c n))
  reset_in_tick late m ready =
      let notes : List Noted = event_entries l (tick_event late c n) in
      let some : list_any asked notes ≡ true =
      sym (asked_notes h notes) ∙ (sym (alike h (is_reset_down (end_c h)) (down_off h) u (entries_for h notes) m.tells) ∙ says.reset) in
      let it = tick_asked late l c n some in
      go late it.late_is m some (ready it.granted)
    where
      go : (b : Bool) → b ≡ true → IsStepOf h l (tick_event b c n) u → list_any asked (event_entries l (tick_event b c n)) ≡ true → FindsReady l
          → IsSince (happens l (tick_event b c n))
      go true q z y r = tick_reset c.ending z y r
      go false q z y r = absurd (true≢false (sym q))
