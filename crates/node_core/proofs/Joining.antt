-- What a node does one thing after another, as far as its memory goes along.
use Rattle.std.proofs.lemmas.Bool.Decides.{nat_tests}
use Rattle.node_core.proofs.Words.{AreMade, Bool, Brings, Foretells, List, Option, Plan, WereMade, Work, Write, [], ap, append-nil, append_assoc, arith}
use Rattle.node_core.proofs.Words.{eqb-true, fails_within, false, inl, inr, length, nat_le, plan_after, plan_behind, plan_left, refl, subst, suc, sym, true}
use Rattle.node_core.proofs.Words.{true≢false, unless_cut, ℕ, ◌&&◌, ◌++◌, ◌==◌, ◌∙◌, ◌∷◌, ◌≡◌}

-- ## Plans

first_fails : (k n : ℕ) → (nat_le 1 k && nat_le k (suc n)) ≡ false → (k == 1) ≡ true → ⊥
first_fails k n none is = let e : k ≡ 1 = eqb-true k 1 is in grind (arith, nat_tests)

pub fewer_fail : (n : ℕ) (plan : Option Plan) → fails_within 0 plan ≡ false
fewer_fail n plan = grind arith

pub fails_parts : (a b : List Write) (plan : Option Plan) → fails_within (length (a ++ b)) plan ≡ false
    → (fails_within (length a) plan ≡ false) × (fails_within (length b) (plan_behind a plan) ≡ false)
fails_parts [] b plan none = (fewer_fail 0 plan, none)
fails_parts (w ∷ a) b plan none =
    let later = fails_parts a b (plan_after plan) (let h0 = length (a ++ b) in grind arith) in
    ((let h0 = length (a ++ b) in let h1 = length a in grind arith), later.1)

pub behind_append : (a b : List Write) (plan : Option Plan) → plan_behind (a ++ b) plan ≡ plan_behind b (plan_behind a plan)
behind_append [] b plan = refl
behind_append (w ∷ a) b plan = behind_append a b (plan_after plan)

pub foretold_parts : (cut : Bool) (a b torn : List Write) (plan : Option Plan) → Foretells plan (a ++ b) torn cut
    → (fails_within (length a) plan ≡ false) × Foretells (plan_behind a plan) b torn cut
foretold_parts false a b torn plan f = fails_parts a b plan f
foretold_parts true a b torn plan f =
    let p = fails_parts a b plan f.0 in
    (p.0, (p.1, ap (fails_within (length torn)) (sym (behind_append a b plan)) ∙ f.1))

left_append : (cut : Bool) (a b : List Write) (plan : Option Plan) → plan_left cut b (plan_behind a plan) ≡ plan_left cut (a ++ b) plan
left_append false a b plan = sym (behind_append a b plan)
left_append true a b plan = refl

pub stays_cut : (g : Work → Work) (w : Work) → w.cut ≡ true → unless_cut g w ≡ w
stays_cut g w q = rw q refl

pub goes_on : (g : Work → Work) (w : Work) → w.cut ≡ false → unless_cut g w ≡ g w
goes_on g w q = rw q refl

-- ## Writes

module _ {N : Type 0} (writes : N → ℕ → List ℕ → Bool → N → Type 0) where
  pub made_append : (a b : List Write) (old mid new : N) (ok : Bool) → AreMade writes a old true mid → AreMade writes b mid ok new
      → AreMade writes (a ++ b) old ok new
  made_append [] b old mid new ok first later = let P : N → Type 0 = λ m. AreMade writes b m ok new in subst P first.1 later
  made_append (w ∷ a) b old mid new ok (inl fails) later = absurd (true≢false fails.0)
  made_append (w ∷ a) b old mid new ok (inr goes) later = inr (goes.0, goes.1, made_append a b goes.0 mid new ok goes.2 later)

  pub made_on : (cut : Bool) (a b torn : List Write) (old mid new : N) → AreMade writes a old true mid → WereMade writes b torn mid cut new
      → WereMade writes (a ++ b) torn old cut new
  made_on false a b torn old mid new first later = (later.0, made_append a b old mid new true first later.1)
  made_on true a b torn old mid new first later = (later.0, made_append a b old mid later.0 true first later.1, later.2)

  -- ## One thing after another

  -- the memory stays and a node that has no power does nothing more
  pub brings_cut : {old mid new : N} {R S : Work → Type 0} {f : Work → Work} (g : Work → Work) {w : Work} (b : Brings writes old mid R f w) → b.after.cut ≡ true
      → mid ≡ new → S b.after → Brings writes old new S (λ v. unless_cut g (f v)) w
  brings_cut g b cut same stands = grind arith

  -- a node that has its power goes on
  pub brings_then : {old mid new : N} {R S : Work → Type 0} {f g : Work → Work} {w : Work} (b : Brings writes old mid R f w) → b.after.cut ≡ false
      → Brings writes mid new S g b.after → Brings writes old new S (λ v. unless_cut g (f v)) w
  brings_then {old} {mid} {new} {R} {S} {f} {g} {w} b live c =
      let P : Bool → Type 0 = λ t. WereMade writes b.sure b.torn old t mid in
      let first = subst P live b.made in
      let none : b.torn ≡ [] = first.0 in
      record {
        after = c.after;
        stands = c.stands;
        sure = b.sure ++ c.sure;
        torn = c.torn;
        written = c.written ∙ (ap (λ ws. ws ++ (c.sure ++ c.torn)) (b.written ∙ ap (λ t. w.writes ++ (b.sure ++ t)) none)
            ∙ (ap (λ s. (w.writes ++ s) ++ (c.sure ++ c.torn)) (append-nil b.sure) ∙ (append_assoc w.writes b.sure (c.sure ++ c.torn)
            ∙ ap (λ s. w.writes ++ s) (sym (append_assoc b.sure c.sure c.torn)))));
        made = made_on c.after.cut b.sure c.sure c.torn old mid new first.1 c.made;
        is = λ plan foretold.
            let parts = foretold_parts c.after.cut b.sure c.sure c.torn plan foretold in
            let Q : Bool → Type 0 = λ t. Foretells plan b.sure b.torn t in
            let R2 : Bool → Type 0 = λ t. f (record w { plan = plan }) ≡ record b.after { plan = plan_left t b.sure plan } in
            let one : f (record w { plan = plan }) ≡ record b.after { plan = plan_behind b.sure plan } = grind arith in
            ap (unless_cut g) one
            ∙ (goes_on g (record b.after { plan = plan_behind b.sure plan }) live
            ∙ (c.is (plan_behind b.sure plan) parts.1
            ∙ ap (λ p. record c.after { plan = p }) (left_append c.after.cut b.sure c.sure plan)));
      }

  -- what is done without a write
  pub brings_plain : {old : N} {S : Work → Type 0} {f : Work → Work} {w : Work} → S (f w) → (f w).cut ≡ false → (f w).writes ≡ w.writes
      → ((plan : Option Plan) → f (record w { plan = plan }) ≡ record (f w) { plan = plan }) → Brings writes old old S f w
  brings_plain {old} {S} {f} {w} stands live same is =
      record {
        after = f w;
        stands = stands;
        sure = [];
        torn = [];
        written = same ∙ sym (append-nil w.writes);
        made = subst (λ t. WereMade writes [] [] old t old) (sym live) (refl, (refl, refl));
        is = λ plan foretold. is plan ∙ ap (λ t. record (f w) { plan = plan_left t [] plan }) (sym live);
      }
