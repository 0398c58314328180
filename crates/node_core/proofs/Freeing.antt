-- Blocks of askers whose creations are forgotten are free.
use Rattle.node_core.proofs.Words.{Bool, Creation, Deed, Entry, IsInStep, List, Node, Port, Releases, Response, Some, Work, [], add-one, all_done}
use Rattle.node_core.proofs.Words.{answers_owed, ap, append-nil, append_assoc, arith, asked_at, done, false, filter, filter_map, flat_map, flat_map-append}
use Rattle.node_core.proofs.Words.{flat_map-cons, forgotten, freed_at, is_over_at, length, map, option_map_or, owed, owed_at, refl, slice_get, suc, sym, take}
use Rattle.node_core.proofs.Words.{true, unless_cut, zero, ℕ, ◌++◌, ◌+◌, ◌∙◌, ◌∷◌, ◌≡◌, ◌≤◌, ◌⊎◌}
use Rattle.node_core.specs.Owing.{has_ended_so}

-- ## All ends

all_freed : (all ports : List Port)
    → map (λ (c : Creation). Releases c.asker) (filter (λ (c : Creation). is_over_at all c.asker) (filter_map asked_at ports))
    ≡ flat_map (freed_at all) ports
all_freed all [] = refl
all_freed all (p ∷ ports) = (let h0 = asked_at p in let h1 = all_freed all ports in grind arith) ∙ sym (flat_map-cons (freed_at all) p ports)
  where
    one : (c : Creation) (b : Bool) → is_over_at all c.asker ≡ b → asked_at p ≡ Some c
        → map (λ (c : Creation). Releases c.asker) (filter (λ (c : Creation). is_over_at all c.asker) (filter_map asked_at ports))
        ≡ flat_map (freed_at all) ports
        → map (λ (c : Creation). Releases c.asker) (filter (λ (c : Creation). is_over_at all c.asker) (filter_map asked_at (p ∷ ports)))
        ≡ freed_at all p ++ flat_map (freed_at all) ports
    one c b over q later = grind arith

pub next_freed : (t : Port → List Deed) (i : ℕ) (ports : List Port)
    → flat_map t (take (suc i) ports) ≡ flat_map t (take i ports) ++ option_map_or t (slice_get ports i) []
next_freed t zero [] = refl
next_freed t (suc i) [] = refl
next_freed t zero (q ∷ ports) = flat_map-cons t q [] ∙ append-nil (t q)
next_freed t (suc i) (q ∷ ports) =
    flat_map-cons t q (take (suc i) ports)
    ∙ (ap (λ l. t q ++ l) (next_freed t i ports)
    ∙ (sym (append_assoc (t q) (flat_map t (take i ports)) (option_map_or t (slice_get ports i) []))
    ∙ ap (λ l. l ++ option_map_or t (slice_get ports i) []) (sym (flat_map-cons t q (take i ports)))))

past_freed : (t : Port → List Deed) (i : ℕ) (ports : List Port) → length ports ≤ i → flat_map t (take i ports) ≡ flat_map t ports
past_freed t zero [] past = refl
past_freed t (suc i) [] past = refl
past_freed t zero (p ∷ ports) past = absurd (omega (arith, past))
past_freed t (suc i) (p ∷ ports) past =
    flat_map-cons t p (take i ports) ∙ (ap (λ l. t p ++ l) (past_freed t i ports (omega (arith, past))) ∙ sym (flat_map-cons t p ports))

pub freed_all : (i : ℕ) (ports : List Port) → length ports ≤ i → flat_map (freed_at ports) (take i ports) ≡ forgotten ports
freed_all i ports past = past_freed (freed_at ports) i ports past ∙ sym (all_freed ports ports)

pub one_gathered : (t : Port → List Deed) (ports : List Port) (i : ℕ) (old fs : List Deed) → old ≡ flat_map t (take i ports)
    → fs ≡ option_map_or t (slice_get ports i) [] → old ++ fs ≡ flat_map t (take (i + 1) ports)
one_gathered t ports i old fs before next =
    ap (λ l. l ++ fs) before ∙ (ap (λ l. flat_map t (take i ports) ++ l) next ∙ (sym (next_freed t i ports)
    ∙ ap (λ n. flat_map t (take n ports)) (sym (add-one i))))

-- ## What is owed

owed_each : (late : Bool) (r : Response) (ports : List Port)
    → flat_map (owed_at late r) ports ≡ flat_map (λ (p : Port). owed r (asked_at p)) (filter (has_ended_so late) ports)
owed_each late r [] = refl
owed_each late r (p ∷ ports) = flat_map-cons (owed_at late r) p ports ∙ by (has_ended_so late p) refl (owed_each late r ports)
  where
    by : (b : Bool) → has_ended_so late p ≡ b
        → flat_map (owed_at late r) ports ≡ flat_map (λ (q : Port). owed r (asked_at q)) (filter (has_ended_so late) ports)
        → owed_at late r p ++ flat_map (owed_at late r) ports
        ≡ flat_map (λ (q : Port). owed r (asked_at q)) (filter (has_ended_so late) (p ∷ ports))
    by b q later = grind arith

pub owed_all : (late : Bool) (r : Response) (i : ℕ) (ports : List Port) → length ports ≤ i
    → flat_map (owed_at late r) (take i ports) ≡ flat_map (λ (p : Port). owed r (asked_at p)) (filter (has_ended_so late) ports)
owed_all late r i ports past = past_freed (owed_at late r) i ports past ∙ owed_each late r ports

pub one_answered : (r : Response) (askers : List ℕ) (a : ℕ) → flat_map (answers_owed r) (askers ++ a ∷ [])
    ≡ flat_map (answers_owed r) askers ++ answers_owed r a
one_answered r askers a =
    flat_map-append (answers_owed r) askers (a ∷ [])
    ∙ ap (λ l. flat_map (answers_owed r) askers ++ l) (flat_map-cons (answers_owed r) a [] ∙ append-nil (answers_owed r a))

-- ## Deeds without a write, one after another

-- The node has come to this state in its deeds; these are left.
pub record DoesOn {N : Type 0} (n : Node N) (noted : List Entry) (short : Bool) (start : List Entry) (left all : List Deed) (w : Work) : Type 0 where
  pub now : Work
  pub under : IsInStep n noted short start now
  pub onto : all_done 0 left now ≡ all_done 0 all w

-- one more is done
pub one_done : {N : Type 0} {n n2 : Node N} {noted noted2 start : List Entry} {short short2 : Bool} {d : Deed} {left all : List Deed} {w : Work}
    (k : DoesOn n noted short start (d ∷ left) all w) → n.store.journal.live ≡ true → (done 0 d k.now).cut ≡ k.now.cut
    → IsInStep n2 noted2 short2 start (done 0 d k.now) → DoesOn n2 noted2 short2 start left all w
one_done k live same under = grind arith

-- deeds, and those behind them
pub all_then : (xs ys : List Deed) (w : Work) → (all_done 0 (xs ++ ys) w ≡ unless_cut (all_done 0 ys) (all_done 0 xs w)) ⊎ (w.cut ≡ true)
all_then [] ys w = grind arith
all_then (d ∷ xs) ys w = let h0 = (done 0 d w).cut in let h1 = all_then xs ys (done 0 d w) in grind arith

-- where no write fails
pub all_joined : (xs ys : List Deed) (w : Work) → w.cut ≡ false → (all_done 0 xs w).cut ≡ false
    → all_done 0 ys (all_done 0 xs w) ≡ all_done 0 (xs ++ ys) w
all_joined xs ys w live on = let h0 = all_then xs ys w in grind arith
  where
    goes : all_done 0 ys (all_done 0 xs w) ≡ unless_cut (all_done 0 ys) (all_done 0 xs w)
    goes = rw on refl
