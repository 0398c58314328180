-- What is noted at an end, one thing behind another.
use Rattle.std.proofs.lemmas.List.Concat.{flat_map-append}
use Rattle.link_wires.proofs.Words.{AreNoted, End, Entry, List, Noted, ap, append_assoc, by_test, entries_for, refl, side_of, sym, ℕ, ◌++◌, ◌∙◌, ◌≡◌}
use Rattle.history.specs.Steps.{end_of, entry_of}

-- an end is the one on its side of its link
pub end_is : (at : End) → end_of at.link (side_of at) ≡ at
end_is at = by_test at.at_host (λ q. rw q refl) (λ q. rw q refl)

pub entries-append : (h : ℕ) (a b : List Noted) → entries_for h (a ++ b) ≡ entries_for h a ++ entries_for h b
entries-append h a b = flat_map-append (entry_of h) a b

-- what is noted behind what was noted
pub more_noted : {mid now : List Entry} (at : End) (before : List Entry) (a b : List Noted) → AreNoted at before mid a → AreNoted at mid now b
    → AreNoted at before now (a ++ b)
more_noted at before a b p q =
    q ∙ (ap (λ es. es ++ entries_for at.link b) p ∙ (append_assoc before (entries_for at.link a) (entries_for at.link b)
    ∙ ap (λ es. before ++ es) (sym (entries-append at.link a b))))
