-- One word is the list of that word.
use Rattle.swp_tool.proofs.Words.{IsTrue, List, [], ap, arith, get_or, length, map, string_bytes, sym, ℕ, ◌<◌, ◌∙◌, ◌∷◌, ◌≡◌, ◌≤◌}
use Rattle.swp_tool.proofs.top.is_word.Goals as goal

one_word : {X : Type 0} (f : X → List ℕ) (ws : List X) (w : X) → 1 ≤ length ws → length ws < 2 → w ≡ get_or ws 0 w → map f ws ≡ f w ∷ []
one_word f [] w low high is = absurd (omega arith)
one_word f (x ∷ []) w low high is = ap (λ y. f y ∷ []) (sym is)
one_word f (x ∷ y ∷ ws) w low high is = absurd (omega arith)

head_is : (a b : List ℕ) (xs : List (List ℕ)) → xs ≡ a ∷ [] → xs ≡ b ∷ [] → a ≡ b
head_is a b xs p q = cc

pub returns-in-len1 : goal.returns-in-len1
returns-in-len1 c =
    let given = c.given-item.result in
    let words = map string_bytes c.args.words.now in
    let is : words ≡ string_bytes given ∷ [] = one_word string_bytes c.args.words.now given c.in-len1.len_at_least c.in-len1.len_below c.given-item.is in
    let bytes : c.as_bytes.result.now ≡ string_bytes given = c.as_bytes.ensures.value in (
      (λ (h : IsTrue c.is_same.result). is ∙ ap (λ l. l ∷ []) (sym bytes ∙ c.is_same.ensures.0 h)),
      (λ (h : words ≡ c.args.word.now ∷ []). c.is_same.ensures.1 (bytes ∙ head_is (string_bytes given) c.args.word.now words is h)),
    )
