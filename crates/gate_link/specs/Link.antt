-- The link management gate (ETSI TS 102 622, section 7.1): REC_ERROR has two bytes, and may be read and set.
use Rattle.std.specs.Prelude.{ℕ, ◌+◌, ◌*◌, ◌/◌, ◌%◌, Bool, not, if◌then◌else◌, ◌==◌, List, [], ◌∷◌, ◌++◌, length, Option, Some, None, slice_index}
use Rattle.gate_answers.specs.declared.response.Response.{Response}
use Rattle.gate_answers.specs.declared.response.Response.TheVariants as response
use Rattle.gate_answers.specs.Answers.{answer_of, first_of, tests_to_set, tests_to_get, value_in}

-- a count as two bytes, the high one first
abbrev pub count_bytes : ℕ → List ℕ
count_bytes count = (count / 256) ∷ (count % 256) ∷ []

abbrev pub count_in : List ℕ → ℕ
count_in value = slice_index value 0 * 256 + slice_index value 1

-- ANY_SET_PARAMETER: a value that isn't two bytes isn't allowed
abbrev pub tests_to_set_errors : List ℕ → List (Bool × Response)
tests_to_set_errors body = tests_to_set 6 body ++ (not (length (value_in body) == 2), response.CommandParameterUnknown) ∷ []

-- an answer alone, or with what follows where no test holds
abbrev pub link_unless_refused : Option Response → List ℕ × Option ℕ → List ℕ × Option ℕ
link_unless_refused (Some r) otherwise = (answer_of r [], None)
link_unless_refused None otherwise = otherwise

-- The answer to a command, and REC_ERROR's new value where the command sets it.
abbrev pub link_served : ℕ → ℕ → List ℕ → List ℕ × Option ℕ
link_served errors instruction body =
    if instruction == 1 then link_unless_refused (first_of (tests_to_set_errors body)) (answer_of response.Ok [], Some (count_in (value_in body))) else
    (if instruction == 2 then link_unless_refused (first_of (tests_to_get 6 body)) (answer_of response.Ok (count_bytes errors), None) else
    (answer_of response.CommandNotSupported [], None))
