-- The identity management gate (ETSI TS 102 622, section 7.1): its parameters may all be read, and none set.
use Rattle.std.specs.Prelude.{ℕ, if◌then◌else◌, ◌==◌, List, [], ◌∷◌, Option, Some, None}
use Rattle.gate_answers.specs.declared.response.Response.{Response}
use Rattle.gate_answers.specs.declared.response.Response.TheVariants as response
use Rattle.gate_answers.specs.Answers.{answer_of, first_of, tests_to_set, tests_to_get, param_in}

-- the value of a parameter, at a host that has these gates
abbrev pub identity_value : List ℕ → ℕ → List ℕ
identity_value gates param =
    if param == 1 then 1 ∷ 0 ∷ 0 ∷ [] else  -- VERSION_SW
    (if param == 2 then 2 ∷ [] else  -- HCI_VERSION
    (if param == 3 then 1 ∷ 0 ∷ 0 ∷ [] else  -- VERSION_HARD
    (if param == 4 then 83 ∷ 87 ∷ 80 ∷ 32 ∷ 72 ∷ 67 ∷ 73 ∷ [] else  -- VENDOR_NAME, "SWP HCI"
    (if param == 5 then 1 ∷ [] else  -- MODEL_ID
    gates))))  -- GATES_LIST

-- an answer alone, or this one where no test holds
abbrev pub identity_unless_refused : Option Response → List ℕ → List ℕ
identity_unless_refused (Some r) otherwise = answer_of r []
identity_unless_refused None otherwise = otherwise

-- the answer to a command
abbrev pub identity_served : List ℕ → ℕ → List ℕ → List ℕ
identity_served gates instruction body =
    if instruction == 1 then identity_unless_refused (first_of (tests_to_set 5 body)) (answer_of response.RegistryAccessDenied []) else
    (if instruction == 2 then identity_unless_refused (first_of (tests_to_get 5 body)) (answer_of response.Ok (identity_value gates (param_in body))) else
    answer_of response.CommandNotSupported [])
