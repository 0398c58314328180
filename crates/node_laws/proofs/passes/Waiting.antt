-- What waits at an end, and whether it was noted as held, is read off what is noted of turns.
use Rattle.node_laws.proofs.Words.{AreNoTurns, Bool, ComesTo, Deed, Entry, IsWaitingRead, LastsOverTurns, List, Message, Work, [], ap, append-nil, append_assoc}
use Rattle.node_laws.proofs.Words.{arith, by_test, cond, deeds_of, drop, end_of_node, eqb-true, false, handles, holds_back, is_held_at, lets_go, noted_by_deeds}
use Rattle.node_laws.proofs.Words.{refl, subst, sym, takes_up, true, waiting_after, waiting_at, waits_behind, ℕ, ◌++◌, ◌==◌, ◌∙◌, ◌∷◌, ◌≡◌}
use Rattle.trace_model.specs.declared.entry.Entry.TheVariants as entry
use Rattle.node_laws.proofs.passes.Replying.{SeesAt, lets_see}
use Rattle.node_laws.proofs.passes.InSteps.{reply_none}
use Rattle.node_laws.proofs.passes.Passing.{comes_so, handles_entries, handles_sees, held_own, holds_notes, lets_notes, link_is, other_handles, other_holds}
use Rattle.node_laws.proofs.passes.Passing.{own_held}

abbrev State : Type 0
State = List Message × Bool

behind-append : (k : ℕ) (s : State) (es more : List Entry) → waits_behind k s (es ++ more) ≡ waits_behind k (waits_behind k s es) more
behind-append k s [] more = refl
behind-append k s (x ∷ es) more = behind-append k (waiting_after k s x) es more

no_turns_same : (k : ℕ) (s : State) (es : List Entry) → AreNoTurns es → waits_behind k s es ≡ s
no_turns_same k s [] a = refl
no_turns_same k s (x ∷ es) a = ap (λ z. waits_behind k z es) (grind arith) ∙ no_turns_same k s es a.1

module _ (k : ℕ) (w : Work) where
  abbrev start : State
  start = (waiting_at w.ports k, is_held_at w.ports k)

  abbrev Read : Work → Type 0
  Read v = IsWaitingRead k w v

  sees : (v : Work) (a : Read v) → SeesAt k (waits_behind k start a.more).0 (waits_behind k start a.more).1 v
  sees v a = (a.waits, a.held)

  -- more is noted
  further : (v u : Work) (a : Read v) (es : List Entry) → u.entries ≡ v.entries ++ es
      → SeesAt k (waits_behind k (waits_behind k start a.more) es).0 (waits_behind k (waits_behind k start a.more) es).1 u → Read u
  further v u a es entries s = record {
    more = a.more ++ es;
    entries = entries ∙ (ap (λ l. l ++ es) a.entries ∙ append_assoc w.entries a.more es);
    waits = s.0 ∙ ap (λ (z : State). z.0) (sym (behind-append k start a.more es));
    held = s.1 ∙ ap (λ (z : State). z.1) (sym (behind-append k start a.more es));
  }

  handled : (v : Work) (h : ℕ) (m : Message) (messages : List Message) → Read v → waiting_at v.ports h ≡ m ∷ messages
      → Read (handles h m (deeds_of v.core v.ports h m) v)
  handled v h m messages a waiting =
      further v u a (turn ∷ told) (handles_entries h m deeds v) (subst (λ (z : State). SeesAt k z.0 z.1 u) (sym same) (go (h == k) refl))
    where
      deeds : List Deed
      deeds = deeds_of v.core v.ports h m

      u : Work
      u = handles h m deeds v

      turn : Entry
      turn = entry.Turn (end_of_node v.core h) m.0 m.1

      told : List Entry
      told = noted_by_deeds h deeds (takes_up h m v)

      s : State
      s = waits_behind k start a.more

      same : waits_behind k s (turn ∷ told) ≡ cond (h == k) (drop 1 s.0, false) s
      same =
          no_turns_same k (waiting_after k s turn) told (reply_none v.core v.ports h m (takes_up h m v))
          ∙ ap (λ n. cond (n == k) (drop 1 s.0, false) s) (link_is v.core h)

      go : (b : Bool) → (h == k) ≡ b → SeesAt k (cond b (drop 1 s.0, false) s).0 (cond b (drop 1 s.0, false) s).1 u
      go false off = other_handles k s.0 s.1 h m deeds v off (sees v a)
      go true e =
          let rest : messages ≡ drop 1 s.0 = grind arith in
          subst (λ l. SeesAt k l false u) rest (subst (λ n. SeesAt n messages false u) (eqb-true h k e) (handles_sees h m messages deeds v waiting))

  held : (v : Work) (h : ℕ) (m : Message) (messages : List Message) (short : ℕ × ℕ) → Read v → waiting_at v.ports h ≡ m ∷ messages
      → Read (holds_back h short v)
  held v h m messages short a waiting =
      further v u a (own_held h short v) (holds_notes h short v).entries (by (is_held_at v.ports h) refl (h == k) refl)
    where
      u : Work
      u = holds_back h short v

      one : Entry
      one = entry.Held (end_of_node v.core h) short.0 short.1

      s : State
      s = waits_behind k start a.more

      told : (b : Bool) → State
      told b = waits_behind k s (cond b [] (one ∷ []))

      after : waiting_after k s one ≡ cond (h == k) (s.0, true) s
      after = ap (λ n. cond (n == k) (s.0, true) s) (link_is v.core h)

      own : h ≡ k → SeesAt k s.0 true u
      own is =
          subst (λ l. SeesAt k l true u) a.waits (subst (λ n. SeesAt n (waiting_at v.ports n) true u) is (held_own h short v m messages waiting))

      by : (b : Bool) → is_held_at v.ports h ≡ b → (c : Bool) → (h == k) ≡ c → SeesAt k (told b).0 (told b).1 u
      by b q false off =
          let other : SeesAt k s.0 s.1 u = other_holds k s.0 s.1 h short v off (sees v a) in
          subst (λ (z : State). SeesAt k z.0 z.1 u) (sym (by_test b (λ q. rw q refl) (λ q. rw q (after ∙ ap (λ c. cond c (s.0, true) s) off)))) other
      by true q true e =
          let is : h ≡ k = eqb-true h k e in
          subst (λ c. SeesAt k s.0 c u) (sym q ∙ (ap (is_held_at v.ports) is ∙ a.held)) (own is)
      by false q true e =
          subst (λ (z : State). SeesAt k z.0 z.1 u) (sym (after ∙ ap (λ c. cond c (s.0, true) s) e)) (own (eqb-true h k e))

  pub waiting_lasts : LastsOverTurns Read
  waiting_lasts = record {
    handled = λ v h m messages a on waiting room still. handled v h m messages a waiting;
    held = λ v h m messages short a on waiting lacks. held v h m messages short a waiting;
    let_go = λ v h a on waiting.
        further v (lets_go h v) a [] (lets_notes h v).entries
        (lets_see k (waits_behind k start a.more).0 (waits_behind k start a.more).1 h v (sees v a));
  }

  pub waiting_read : (v : Work) → ComesTo w v → Read v
  waiting_read v c = comes_so Read waiting_lasts w (record { more = []; entries = sym (append-nil w.entries); waits = refl; held = refl }) v c
