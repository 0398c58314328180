-- Over a memory whose failing write is planned, what a node did is what the machine does under that plan.
use Rattle.std.proofs.lemmas.Bool.{not-false, not-true}
use Rattle.node_core.proofs.Words.{AreMade, Bool, Brings, Foretells, List, Memory, None, WereMade, Work, Write, [], ap, append-nil, arith, fails_within, false}
use Rattle.node_core.proofs.Words.{inl, inr, length, not, plan_behind, plan_left, subst, sym, true, true≢false, ◌++◌, ◌∙◌, ◌∷◌, ◌≡◌}
use Rattle.swp_base.specs.InMemory.{WritesAsPlanned}
use Rattle.journal_laws.specs.Planned.{after_planned}
use Rattle.journal_laws.proofs.Planned.{plan_of_memory_after, planned_answer, planned_memory}
use Rattle.node_core.proofs.Joining.{made_append}

-- the plan behind writes that went through, and behind one that failed
plan_made : (ws : List Write) (m n : Memory) → AreMade WritesAsPlanned ws m true n → n.plan ≡ plan_behind ws m.plan
plan_made [] m n made = ap (λ (x : Memory). x.plan) made.1
plan_made (w ∷ ws) m n (inl failed) = absurd (true≢false failed.0)
plan_made (w ∷ ws) m n (inr rest) =
    plan_made ws rest.0 n rest.2
    ∙ ap (plan_behind ws) (ap (λ (x : Memory). x.plan) rest.1.memory ∙ plan_of_memory_after m w.at w.bytes (grind arith))

plan_spent : (ws : List Write) (m n : Memory) → AreMade WritesAsPlanned ws m false n → n.plan ≡ None
plan_spent [] m n made = absurd (true≢false (sym made.0))
plan_spent (w ∷ ws) m n (inl failed) = grind arith
plan_spent (w ∷ ws) m n (inr rest) = plan_spent ws rest.0 n rest.2

-- the plan foretells what was made, and this is left of it
as_planned : (cut : Bool) (sure torn : List Write) (m n : Memory) → WereMade WritesAsPlanned sure torn m cut n
    → Foretells m.plan sure torn cut × (plan_left cut sure m.plan ≡ n.plan)
as_planned false sure torn m n made = (
  not-true (fails_within (length sure) m.plan) (sym (planned_answer sure m true n made.1)),
  sym (plan_made sure m n made.1),
)
as_planned true sure torn m n made =
    let first = made.1 in
    let fails = not-false (fails_within (length torn) made.0.plan) (sym (planned_answer torn made.0 false n made.2)) in (
      (
        not-true (fails_within (length sure) m.plan) (sym (planned_answer sure m true made.0 first)),
        ap (fails_within (length torn)) (sym (plan_made sure m made.0 first)) ∙ fails,
      ),
      sym (plan_spent torn made.0 n made.2),
    )

all_made : (cut : Bool) (sure torn : List Write) (m n : Memory) → WereMade WritesAsPlanned sure torn m cut n
    → AreMade WritesAsPlanned (sure ++ torn) m (not cut) n
all_made false sure torn m n made =
    subst (λ ws. AreMade WritesAsPlanned ws m true n) (sym (append-nil sure) ∙ ap (λ t. sure ++ t) (sym made.0)) made.1
all_made true sure torn m n made = made_append WritesAsPlanned sure torn m made.0 n false made.1 made.2

-- What the node did is what the machine does under the plan of its memory, and the memory is that after the writes of the step.
pub planned_step : {S : Work → Type 0} {f : Work → Work} {w : Work} {m n : Memory} (b : Brings WritesAsPlanned m n S f w) → w.plan ≡ m.plan
    → f w ≡ record b.after { plan = n.plan }
planned_step {f = f} {w = w} {m = m} {n = n} b same =
    let a = as_planned b.after.cut b.sure b.torn m n b.made in
    ap (λ p. f (record w { plan = p })) same ∙ (b.is m.plan a.0 ∙ ap (λ p. record b.after { plan = p }) a.1)

pub planned_writes : {S : Work → Type 0} {f : Work → Work} {w : Work} {m n : Memory} (b : Brings WritesAsPlanned m n S f w)
    → n ≡ after_planned (b.sure ++ b.torn) m
planned_writes {m = m} {n = n} b = planned_memory (b.sure ++ b.torn) m (not b.after.cut) n (all_made b.after.cut b.sure b.torn m n b.made)
