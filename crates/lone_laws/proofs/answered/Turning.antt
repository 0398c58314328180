-- What a node with one link keeps is read over each turn of its pass.
use Rattle.lone_laws.proofs.Words.{AreTables, Bool, ComesTo, Core, End, Entry, FetchMessage, Hold, JoinTwo, LastsOverTurns, List, Message, Port, Work, []}
use Rattle.lone_laws.proofs.Words.{after_turn, all_do, ap, arith, by_test, changed_if, comes_so, cond, deeds_of, drop, end_of_node, end_of_node_alone, eqb}
use Rattle.lone_laws.proofs.Words.{eqb-true, false, handles, holds_back, lets, noting, option_map_or, port_at, refl, same_end, same_end_itself, subst, sym}
use Rattle.lone_laws.proofs.Words.{takes_entries, takes_up, true, waiting_at, with_desk, with_port, ℕ, ◌++◌, ◌∙◌, ◌∷◌, ◌≡◌, ◌≤◌}
use Rattle.trace_model.specs.declared.entry.Entry.TheVariants as entry
use Rattle.lone_laws.proofs.answered.Memories.{AreOwnDeeds, IsOwnDeed, controller_own, host_own}
use Rattle.lone_laws.proofs.answered.Reading.{Read, read_all, reads_of, Alone, read_more, alone_turn, alone_does, alone_as}

-- ## Its end

-- the end of a node with this number
pub own_end : (core : Core) (number h k : ℕ) → core.node ≡ number → k ≡ h → end_of_node core k ≡ end_of_node_alone number h
own_end core number h k node q = grind arith

-- where messages wait, it is at the one end
pub record IsHere (p : Port) (k : ℕ) (m : Message) (messages : List Message) : Type 0 where
  pub own : eqb p.desk.host k ≡ true
  pub got : p.side.got ≡ m ∷ messages

module _ (number h : ℕ) (some : 1 ≤ h) (most : h ≤ 7) (r : Read) (t : List Entry) where
  abbrev e : End
  e = end_of_node_alone number h

  abbrev Of : Work → Type 0
  Of w = Alone number h r t w

  -- the end of the link is the one where messages wait
  pub alone_here : (k : ℕ) (m : Message) (messages : List Message) (w : Work) (a : Of w) → waiting_at w.ports k ≡ m ∷ messages → IsHere a.port k m messages
  alone_here k m messages w a waits = grind arith

  pub link_is : (k : ℕ) (p : Port) → p.desk.host ≡ h → eqb p.desk.host k ≡ true → k ≡ h
  link_is k p host own = sym (eqb-true p.desk.host k own) ∙ host

  -- ## A message that has its turn

  pub own_deeds : (k : ℕ) (m : Message) (w : Work) (a : Of w) → eqb a.port.desk.host k ≡ true → AreOwnDeeds number (deeds_of w.core w.ports k m)
  own_deeds k m w a own =
      subst (λ ps. AreOwnDeeds number (deeds_of w.core ps k m)) (sym a.ports_are) (go (eqb w.core.node 0) refl) where
        go : (b : Bool) → eqb w.core.node 0 ≡ b → AreOwnDeeds number (deeds_of w.core (a.port ∷ []) k m)
        go true q =
            let good : AreTables w.core.tables × JoinTwo w.core.tables.rows = a.good (ap (λ n. eqb n 0) (sym a.node) ∙ q) in
            rw q (controller_own number w.core a.port k m (eqb-true a.port.desk.host k own) a.none (subst (λ n. 1 ≤ n) (sym (grind arith)) some)
            (subst (λ n. n ≤ 7) (sym (link_is k a.port a.host own)) most) good.0 good.1)
        go false q = rw (q, own) (host_own number (ap (λ n. eqb n 0) (sym a.node) ∙ q) w.core a.port m a.command)

  pub alone_takes : (k : ℕ) (m : Message) (messages : List Message) (w : Work) → Of w → waiting_at w.ports k ≡ m ∷ messages → Of (takes_up k m w)
  alone_takes k m messages w a waits =
      let f : Port → Port = after_turn FetchMessage in
      let g : Port → Port = λ p. record p { desk = record p.desk { holds = false } } in
      let one : with_port k f (a.port ∷ []) ≡ f a.port ∷ [] = ap (λ b. changed_if b f a.port ∷ []) (alone_here k m messages w a waits).own in
      let own : same_end (end_of_node w.core k) e ≡ true = ap (λ x. same_end x e) (grind arith) ∙ same_end_itself e in
      let R : Read = reads_of w.core a.port in
      alone_as a (g (f a.port)) (takes_up k m w).ports (takes_up k m w).entries
      (ap (λ ps. with_port k g (with_port k f ps)) a.ports_are ∙ (ap (with_port k g) one ∙ (grind arith))) a.host a.none
      (ap (λ es. read_all e r (t ++ es)) (takes_entries k m w)
      ∙ read_more number h r t w (entry.Turn (end_of_node w.core k) m.0 m.1 ∷ []) R (reads_of w.core (g (f a.port))) a.read
      (ap (λ b. record R { left = cond b (drop 1 R.left) R.left; held = cond b false R.held }) own))

  abbrev While : Work → Type 0
  While w = w.cut ≡ false → Of w

  pub alone_handled : (k : ℕ) (m : Message) (messages : List Message) (w : Work) → Of w → waiting_at w.ports k ≡ m ∷ messages
      → (handles k m (deeds_of w.core w.ports k m) w).cut ≡ false → Of (handles k m (deeds_of w.core w.ports k m) w)
  alone_handled k m messages w a waits still =
      let here : IsHere a.port k m messages = alone_here k m messages w a waits in
      all_do While (IsOwnDeed number) (alone_does number h r t) k (deeds_of w.core w.ports k m) (takes_up k m w) (own_deeds k m w a here.own)
      (λ _. alone_takes k m messages w a waits) still

  -- ## One that is held

  alone_marked : (k : ℕ) (m : Message) (messages : List Message) (need spare : ℕ) (w : Work) → Of w → waiting_at w.ports k ≡ m ∷ messages
      → Of (with_desk k (λ d. record d { holds = true }) (noting (entry.Held (end_of_node w.core k) need spare ∷ []) w))
  alone_marked k m messages need spare w a waits =
      let here : IsHere a.port k m messages = alone_here k m messages w a waits in
      let g : Port → Port = λ p. record p { desk = record p.desk { holds = true } } in
      let held : List Entry = entry.Held (end_of_node w.core k) need spare ∷ [] in
      let own : same_end (end_of_node w.core k) e ≡ true = ap (λ x. same_end x e) (grind arith) ∙ same_end_itself e in
      let R : Read = reads_of w.core a.port in
      alone_as a (g a.port) (with_port k g w.ports) (w.entries ++ held) (ap (with_port k g) a.ports_are ∙ (grind arith)) a.host a.none
      (read_more number h r t w held R (reads_of w.core (g a.port)) a.read (ap (λ b. record R { held = cond b true R.held }) own))

  pub alone_held : (k : ℕ) (m : Message) (messages : List Message) (short : ℕ × ℕ) (w : Work) → Of w → waiting_at w.ports k ≡ m ∷ messages
      → Of (holds_back k short w)
  alone_held k m messages short w a waits = by_test (option_map_or (λ (p : Port). p.desk.holds) (port_at w.ports k) false)
      (λ q. rw q (alone_turn number h r t k (Hold true) w tt a))
      (λ q. rw q (alone_turn number h r t k (Hold true) marked tt (alone_marked k m messages short.0 short.1 w a waits))) where
        marked : Work
        marked = with_desk k (λ d. record d { holds = true }) (noting (entry.Held (end_of_node w.core k) short.0 short.1 ∷ []) w)

  -- ## All turns

  pub alone_lasts : LastsOverTurns Of
  alone_lasts = record {
    handled = λ w k m messages a on waits room still. alone_handled k m messages w a waits still;
    held = λ w k m messages short a on waits lacks. alone_held k m messages short w a waits;
    let_go = λ w k a on waits. lets Of (λ j flag v b. alone_turn number h r t j (Hold flag) v tt b) k w a;
  }

  pub alone_at : (w v : Work) → Of w → ComesTo w v → Of v
  alone_at w v a comes = comes_so Of alone_lasts w a v comes
