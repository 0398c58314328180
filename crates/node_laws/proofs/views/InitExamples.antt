-- An init as it is read off the events of a small run.
use Rattle.node_laws.proofs.Words.{Booted, Boots, InitMade, Inits, IsCut, List, None, Occurrence, Some, Takes, [], end_h, init_in, refl, ◌++◌, ◌∷◌, ◌≡◌}
use Rattle.trace_model.specs.declared.entry.Entry.TheVariants.{Cut, Turn, Sent}

-- host 02 begins an init with one pipe, and its first two commands are answered
abbrev begun : List Occurrence
begun =
    record { cause = Boots 2; entries = Booted 2 0 ∷ [] }
    ∷ record { cause = Inits (end_h 2) (7 ∷ []) ((4 ∷ 0 ∷ 4 ∷ []) ∷ []); entries = Sent (end_h 2) 1 1 (3 ∷ []) ∷ [] }
    ∷ record { cause = Takes (end_h 2); entries = Turn (end_h 2) 1 (128 ∷ 0 ∷ []) ∷ Sent (end_h 2) 1 1 (2 ∷ 1 ∷ []) ∷ [] }
    ∷ record { cause = Takes (end_h 2); entries = Turn (end_h 2) 5 (128 ∷ []) ∷ [] }
    ∷ record { cause = Takes (end_h 2); entries = Turn (end_h 2) 1 (128 ∷ 255 ∷ []) ∷ Sent (end_h 2) 1 1 (20 ∷ []) ∷ [] }
    ∷ []

two_answers : init_in begun 2 ≡ Some (record { identity = 7 ∷ []; pipes = (4 ∷ 0 ∷ 4 ∷ []) ∷ []; answered = 2 })
two_answers = refl

none_elsewhere : init_in begun 1 ≡ None
none_elsewhere = refl

made : init_in (begun ++ record { cause = Takes (end_h 2); entries = Turn (end_h 2) 1 (128 ∷ []) ∷ InitMade (end_h 2) 1 ∷ [] } ∷ []) 2 ≡ None
made = refl

is_cut : init_in (begun ++ record { cause = IsCut 2; entries = Cut 2 ∷ [] } ∷ []) 2 ≡ None
is_cut = refl
