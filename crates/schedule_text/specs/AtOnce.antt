-- What is known of words that are read at once.
use Rattle.std.specs.Prelude.{◌≡◌, ◌==◌, ℕ, true, List, [], ◌∷◌, Some}
use Rattle.std.specs.List.{list_any}
use Rattle.trace_model.specs.declared.line.End.{End}
use Rattle.schedule_text.specs.Values.{end_value}

-- two words, the first of which names an end of these hosts
abbrev pub EndAndWord : List ℕ → List (List ℕ) → End → List ℕ → Type 0
EndAndWord hosts ws at second =
    (first : List ℕ) × ((ws ≡ first ∷ second ∷ []) × ((end_value first ≡ Some at) × (list_any (λ known. known == at.link) hosts ≡ true)))
