-- Which parameters the gates have (ETSI TS 102 622, sections 4.5 and 7.1).
use Rattle.std.specs.Prelude.{ℕ, ◌&&◌, ◌==◌, List, [], ◌∷◌}
use Rattle.std.specs.List.{find}
use Rattle.std.specs.Option.{option_map_or}
use Rattle.registry.specs.declared.access.Access.{Access}
use Rattle.registry.specs.declared.access.Access.TheVariants.{Unknown, ReadOnly, ReadWrite}

-- gate, parameter, what a command may do with it
abbrev pub parameters : List (ℕ × ℕ × Access)
parameters =
    (0, 1, ReadWrite)  -- administration: SESSION_IDENTITY
    ∷ (0, 2, ReadOnly)  -- MAX_PIPE
    ∷ (0, 3, ReadWrite)  -- WHITELIST
    ∷ (0, 4, ReadOnly)  -- HOST_LIST
    ∷ (5, 1, ReadOnly)  -- identity management: VERSION_SW
    ∷ (5, 2, ReadOnly)  -- HCI_VERSION
    ∷ (5, 3, ReadOnly)  -- VERSION_HARD
    ∷ (5, 4, ReadOnly)  -- VENDOR_NAME
    ∷ (5, 5, ReadOnly)  -- MODEL_ID
    ∷ (5, 6, ReadOnly)  -- GATES_LIST
    ∷ (6, 1, ReadWrite)  -- link management: REC_ERROR
    ∷ []

abbrev pub access_of : ℕ → ℕ → Access
access_of gate param = option_map_or (λ (row : ℕ × ℕ × Access). row.2) (find (λ row. row.0 == gate && row.1 == param) parameters) Unknown
