-- What the header of a message says.
use Rattle.std.proofs.lemmas.Bool.{false≢true}
use Rattle.node_deeds.proofs.Words.{Bool, Err, List, MessageFault, MessageKind, Ok, Result, [], ap, cond_both, eqb, false, header_of, instruction_in, sym, true}
use Rattle.node_deeds.proofs.Words.{ℕ, ◌%◌, ◌/◌, ◌∙◌, ◌∷◌, ◌≡◌}
use Rattle.hcp_packet.specs.declared.MessageKind.TheVariants.{Command, Event, Response}
use Rattle.hcp_packet.specs.declared.MessageFault.TheVariants.{ReservedType}
use Rattle.gate_answers.specs.Answers.{IsCommandMessage}

-- the instruction that a header says
said : Result (MessageKind × ℕ) MessageFault → ℕ
said (Ok header) = header.1
said (Err fault) = 0

is_command_header : Result (MessageKind × ℕ) MessageFault → Bool
is_command_header (Ok (Command, n)) = true
is_command_header (Ok (Event, n)) = false
is_command_header (Ok (Response, n)) = false
is_command_header (Err fault) = false

-- a command has the instruction of its first byte
pub command_instruction : (message : List ℕ) (n : ℕ) → header_of message ≡ Ok (Command, n) → n ≡ instruction_in message
unfolding said is_command_header
command_instruction [] n e = absurd (cc e)
command_instruction (first ∷ rest) n e =
    cond_both (eqb (first / 64) 0) (Ok (Command, first % 64)) _ (λ (x : Result (MessageKind × ℕ) MessageFault). x ≡ Ok (Command, n) → n ≡ first % 64)
    (λ _ is. sym (ap said is))
    (λ _. cond_both (eqb (first / 64) 1) (Ok (Event, first % 64)) _ (λ (x : Result (MessageKind × ℕ) MessageFault). x ≡ Ok (Command, n) → n ≡ first % 64)
    (λ _ is. absurd (false≢true (ap is_command_header is)))
    (λ _. cond_both (eqb (first / 64) 2) (Ok (Response, first % 64)) (Err ReservedType)
    (λ (x : Result (MessageKind × ℕ) MessageFault). x ≡ Ok (Command, n) → n ≡ first % 64)
    (λ _ is. absurd (false≢true (ap is_command_header is))) (λ _ is. absurd (false≢true (ap is_command_header is))))) e

pub command_message : (message : List ℕ) (n : ℕ) → header_of message ≡ Ok (Command, n) → IsCommandMessage message
command_message message n e = e ∙ ap (λ k. Ok (Command, k)) (command_instruction message n e)
