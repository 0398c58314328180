-- A schedule of a world of nodes that is drawn from a number, line by line.
use Rattle.std.specs.Prelude.{◌≡◌, Ok, ℕ, zero, suc, ◌+◌, ◌*◌, ◌/◌, ◌%◌, ◌^◌, ◌==◌, nat_le, Bool, true, false, if◌then◌else◌, List, [], ◌∷◌, ◌++◌, None, Some}
use Rattle.std.specs.List.{flat_map}
use Rattle.trace_model.specs.declared.line.End.{End}
use Rattle.trace_model.specs.declared.line.Header.{Header}
use Rattle.trace_model.specs.declared.line.Line.{Line}
use Rattle.trace_model.specs.declared.line.Line.TheVariants as line
use Rattle.trace_model.specs.Lines.{MayFollow}
use Rattle.schedule_text.specs.declared.read.Read.TheVariants as read
use Rattle.schedule_text.specs.Words.{spaced}
use Rattle.schedule_text.specs.Entries.{header_words, line_text}
use Rattle.schedule_text.specs.Lines.{line_of}

-- the controller's end of the link of a host, and the host's
abbrev pub at_controller : ℕ → End
at_controller h = record { link = h; at_host = false }

abbrev pub at_host_of : ℕ → End
at_host_of h = record { link = h; at_host = true }

-- an end takes all frames on their way to it, or sends_on a message on a pipe
abbrev pub takes : End → Line
takes at = line.Deliver at None

abbrev pub sends_on : End → ℕ → List ℕ → Line
sends_on at pid message = line.Send at pid message

-- ## How it begins

-- hosts 01, 02 and 03
abbrev pub the_header : Header
the_header = record { hci = true; hosts = record { items = 1 ∷ 2 ∷ 3 ∷ [] } }

-- the controller takes a message of this host, the host the answer, the controller what acknowledges it
abbrev pub answered : ℕ → List Line
answered h = takes (at_controller h) ∷ takes (at_host_of h) ∷ takes (at_controller h) ∷ []

-- a host's link is activated and reset; the host opens pipe 01 and sets its whitelist to the two other hosts
abbrev pub joins : ℕ → ℕ → ℕ → List Line
joins h a b =
    (line.Activate h h 1 ∷ answered h) ++ (line.Reset (at_controller h) None ∷ takes (at_host_of h) ∷ takes (at_controller h) ∷ [])
    ++ (sends_on (at_host_of h) 1 (3 ∷ []) ∷ answered h) ++ (sends_on (at_host_of h) 1 (1 ∷ 3 ∷ a ∷ b ∷ []) ∷ answered h)

-- host 02 has a pipe made to gate 41 of host 01, which is asked, and opens it
abbrev pub makes_a_pipe : List Line
makes_a_pipe =
    sends_on (at_host_of 2) 1 (16 ∷ 32 ∷ 1 ∷ 65 ∷ []) ∷ takes (at_controller 2) ∷ takes (at_host_of 1) ∷ takes (at_controller 1)
    ∷ takes (at_host_of 2) ∷ takes (at_controller 2) ∷ sends_on (at_host_of 2) 2 (3 ∷ []) ∷ answered 2

abbrev pub first_lines : List Line
first_lines = line.Boot 0 ∷ line.Boot 1 ∷ line.Boot 2 ∷ line.Boot 3 ∷ joins 1 2 3 ++ joins 2 1 3 ++ joins 3 1 2 ++ makes_a_pipe

-- ## Its steps

-- a draw makes of a number the next one, and gives its upper 31 bits
abbrev pub next_number : ℕ → ℕ
next_number x = (x * 6364136223846793005 + 1442695040888963407) % 2 ^ 64

abbrev pub drawn_of : ℕ → ℕ
drawn_of x = x / 2 ^ 33

-- a step by a number from 0 to 15 and a host: 0 to 4 and 5 to 9 deliver to the ends of its link, 10 and 11 ask the controller for the
-- identity, 12 posts on pipe 02, 13 loses a frame, 14 lets three ticks pass, 15 resets the link
abbrev pub step_line : ℕ → ℕ → Line
step_line d h =
    if nat_le d 4 then takes (at_controller h)
    else if nat_le d 9 then takes (at_host_of h)
    else if nat_le d 11 then sends_on (at_host_of h) 1 (2 ∷ 1 ∷ [])
    else if d == 12 then sends_on (at_host_of h) 2 (66 ∷ 170 ∷ [])
    else if d == 13 then line.Lose (at_controller h)
    else if d == 14 then line.Tick (Some 3)
    else line.Reset (at_host_of h) None

-- what was drawn last, and the lines so far
pub record Drawn : Type 0 where
  pub x : ℕ
  pub lines : List Line

-- one step more, by two draws
abbrev pub one_step_more : Drawn → Drawn
one_step_more d = record {
  x = next_number (next_number d.x);
  lines = d.lines ++ step_line (drawn_of (next_number d.x) % 16) (1 + drawn_of (next_number (next_number d.x)) % 3) ∷ [];
}

-- so many steps from a number on
unfoldable pub so_many_steps : ℕ → ℕ → Drawn
so_many_steps n zero = record { x = n; lines = [] }
so_many_steps n (suc k) = one_step_more (so_many_steps n k)

-- ## The whole

-- the lines below the header: at the end the tables of the controller are told
abbrev pub drawn_lines : ℕ → List Line
drawn_lines n = first_lines ++ (so_many_steps n 2000).lines ++ line.Tables 0 ∷ []

-- a line with its end
abbrev pub drawn_line : Line → List ℕ
drawn_line l = line_text l ++ 10 ∷ []

abbrev pub lines_text : List Line → List ℕ
lines_text lines = flat_map drawn_line lines

-- the text of a schedule
abbrev pub text_of_schedule : Header → List Line → List ℕ
text_of_schedule header lines = spaced (header_words header) ++ (10 ∷ lines_text lines)

-- what is written of a line is read as it
abbrev pub IsReadAsWritten : Line → Type 0
IsReadAsWritten l = line_of (Some the_header) (line_text l) ≡ Ok (read.Line l)

-- ## How it is played

-- it damages no frame, and lets no world settle
abbrev pub is_harmless : Line → Bool
is_harmless (line.Damage at places) = false
is_harmless (line.Settle rounds) = false
is_harmless _ = true

-- a line that may stand below the header, and is harmless
abbrev pub IsHarmless : Line → Type 0
IsHarmless l = MayFollow the_header l × (is_harmless l ≡ true)
