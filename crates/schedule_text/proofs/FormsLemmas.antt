-- The table of the program is that of the definition.
use Rattle.std.proofs.Common.{find}
use Rattle.schedule_text.proofs.Names.{Bool, List, Some, [], arith, bytes_eq, cond, has_third, map, option_map, refl, row_in, row_of_form, ℕ, ◌&&◌, ◌∷◌, ◌≡◌}
use Rattle.schedule_text.specs.declared.forms.Form.{Form}

-- the row of the form that is found
pub row-find : (forms : List Form) (first : List ℕ) (ws : List (List ℕ))
    → option_map row_of_form (find (λ form. bytes_eq form.first.now first && has_third form.third.now ws) forms) ≡ row_in (map row_of_form forms) first ws
row-find [] first ws = refl
row-find (form ∷ forms) first ws = go (bytes_eq form.first.now first && has_third form.third.now ws) (row-find forms first ws)
  where
    go : (t : Bool)
        → option_map row_of_form (find (λ f. bytes_eq f.first.now first && has_third f.third.now ws) forms) ≡ row_in (map row_of_form forms) first ws
        → option_map row_of_form (cond t (Some form) (find (λ f. bytes_eq f.first.now first && has_third f.third.now ws) forms))
        ≡ cond t (Some (row_of_form form)) (row_in (map row_of_form forms) first ws)
    go t h = grind arith
