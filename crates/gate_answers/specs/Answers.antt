-- What the gates of a host controller say (ETSI TS 102 622, sections 6.1 to 6.3).
use Rattle.std.specs.Prelude.{◌≡◌, ℕ, ◌+◌, ◌*◌, ◌%◌, Bool, true, false, not, ◌==◌, List, [], ◌∷◌, length, drop, Option, Ok, slice_index}
use Rattle.std.specs.List.{find}
use Rattle.std.specs.Option.{option_map}
use Rattle.hcp_packet.specs.declared.MessageKind.TheVariants as kinds
use Rattle.hcp_packet.specs.MessageHeader.{header_of, type_bits_of}
use Rattle.registry.specs.declared.access.Access.{Access}
use Rattle.registry.specs.declared.access.Access.TheVariants.{Unknown, ReadOnly, ReadWrite}
use Rattle.registry.specs.Access.{access_of}
use Rattle.gate_answers.specs.declared.response.Response.{Response}
use Rattle.gate_answers.specs.declared.response.Response.TheVariants as response

-- the code of a response
abbrev pub code_of : Response → ℕ
code_of response.Ok = 0
code_of response.NotConnected = 1
code_of response.CommandParameterUnknown = 2
code_of response.NotOk = 3
code_of response.NoPipesAvailable = 4
code_of response.RegistryParameterUnknown = 5
code_of response.PipeNotOpened = 6
code_of response.CommandNotSupported = 7
code_of response.Inhibited = 8
code_of response.Timeout = 9
code_of response.RegistryAccessDenied = 10
code_of response.PipeAccessDenied = 11

-- an answer with this code, which carries these bytes
abbrev pub answer_of : Response → List ℕ → List ℕ
answer_of r value = (type_bits_of kinds.Response * 64 + code_of r) ∷ value

-- the instruction of a message, and what stands behind it
abbrev pub instruction_in : List ℕ → ℕ
instruction_in message = slice_index message 0 % 64

abbrev pub body_in : List ℕ → List ℕ
body_in message = drop 1 message

-- a message that is a command
abbrev pub IsCommandMessage : List ℕ → Type 0
IsCommandMessage message = header_of message ≡ Ok (kinds.Command, instruction_in message)

-- Tests one after another, each with the code of its refusal: the code of the first one that holds.
abbrev pub first_of : List (Bool × Response) → Option Response
first_of tests = option_map (λ (test : Bool × Response). test.1) (find (λ test. test.0) tests)

-- the parameter that the body of a command names, and the value that stands behind it
abbrev pub param_in : List ℕ → ℕ
param_in body = slice_index body 0

abbrev pub value_in : List ℕ → List ℕ
value_in body = drop 1 body

abbrev pub is_unknown_access : Access → Bool
is_unknown_access Unknown = true
is_unknown_access ReadOnly = false
is_unknown_access ReadWrite = false

abbrev pub is_read_only : Access → Bool
is_read_only ReadOnly = true
is_read_only Unknown = false
is_read_only ReadWrite = false

-- ANY_SET_PARAMETER at a gate, whatever the value
abbrev pub tests_to_set : ℕ → List ℕ → List (Bool × Response)
tests_to_set gate body =
    (length body == 0, response.CommandParameterUnknown)
    ∷ (is_unknown_access (access_of gate (param_in body)), response.RegistryParameterUnknown)
    ∷ (is_read_only (access_of gate (param_in body)), response.RegistryAccessDenied)
    ∷ []

-- ANY_GET_PARAMETER at a gate
abbrev pub tests_to_get : ℕ → List ℕ → List (Bool × Response)
tests_to_get gate body =
    (not (length body == 1), response.CommandParameterUnknown)
    ∷ (is_unknown_access (access_of gate (param_in body)), response.RegistryParameterUnknown)
    ∷ []
