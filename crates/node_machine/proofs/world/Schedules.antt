-- Schedules of worlds of nodes that examples are computed of, and the words that they are made of. What is told of them is computed from text
-- to text in `node_examples`.
use Rattle.std.proofs.Common.{ℕ, zero, suc, List, [], ◌∷◌, ◌++◌, replicate, Some, None}
use Rattle.trace_model.specs.declared.line.Line.{Line}
use Rattle.trace_model.specs.declared.line.Line.TheVariants as line
use Rattle.node_machine.specs.world.World.{end_c, end_h}

-- ## Words

-- so often the controller's end of the link with this host takes what stands on its wire, and then the host's
abbrev pub to_and_fro : ℕ → ℕ → List Line
to_and_fro zero h = []
to_and_fro (suc n) h = line.Deliver (end_c h) None ∷ line.Deliver (end_h h) None ∷ to_and_fro n h

-- the link is activated with this identifier, and the controller resets it
abbrev pub activates : ℕ → ℕ → List Line
activates h identifier =
    line.Activate h identifier 1 ∷ to_and_fro 1 h ++
    line.Deliver (end_c h) None ∷ line.Reset (end_c h) None ∷ line.Deliver (end_h h) None ∷ line.Deliver (end_c h) None ∷ []

-- this host sends a message, which comes; which is answered too; and whose answer is acknowledged
abbrev pub sends : ℕ → ℕ → List ℕ → List Line
sends h pid message = line.Send (end_h h) pid message ∷ line.Deliver (end_c h) None ∷ []

abbrev pub asks : ℕ → ℕ → List ℕ → List Line
asks h pid message = sends h pid message ++ line.Deliver (end_h h) None ∷ []

abbrev pub exchanges : ℕ → ℕ → List ℕ → List Line
exchanges h pid message = asks h pid message ++ line.Deliver (end_c h) None ∷ []

-- the link is activated with the number of the host, and pipe 01 is opened
abbrev pub connects : ℕ → List Line
connects h = activates h h ++ exchanges h 1 (3 ∷ [])

-- ## Of one host

-- its link is up
abbrev pub one_host : List Line
one_host = line.Boot 0 ∷ line.Boot 2 ∷ activates 2 6699

-- and its pipe 01 is open
abbrev pub first_pipe : List Line
first_pipe = one_host ++ asks 2 1 (3 ∷ [])

abbrev pub activation_and_first_pipe_lines : List Line
activation_and_first_pipe_lines = first_pipe ++ sends 2 1 (2 ∷ 1 ∷ [])

abbrev pub parameter_before_opening_lines : List Line
parameter_before_opening_lines = one_host ++ exchanges 2 1 (2 ∷ 1 ∷ [])

-- An init makes three pipes, the long message of the loopback pipe goes there and back, and the init is made over again behind a cut.
abbrev inits : Line
inits =
    line.Init (end_h 2) (1 ∷ 2 ∷ 3 ∷ 4 ∷ 5 ∷ 6 ∷ 7 ∷ 8 ∷ [])
    (record { items = (32 ∷ 0 ∷ 4 ∷ []) ∷ (33 ∷ 0 ∷ 4 ∷ []) ∷ (34 ∷ 0 ∷ 5 ∷ []) ∷ [] })

-- so often the controller takes one frame, and the host all
abbrev one_by_one : ℕ → List Line
one_by_one zero = []
one_by_one (suc n) = line.Deliver (end_c 2) (Some 1) ∷ line.Deliver (end_h 2) None ∷ one_by_one n

abbrev pub users_session_over_a_cut_lines : List Line
users_session_over_a_cut_lines =
    one_host ++ inits ∷ to_and_fro 8 2 ++ line.Deliver (end_c 2) None ∷
    exchanges 2 2 (3 ∷ []) ++ exchanges 2 3 (3 ∷ []) ++
    line.Send (end_h 2) 2 (66 ∷ replicate 250 51) ∷ one_by_one 8 ++ to_and_fro 3 2 ++ line.Deliver (end_c 2) None ∷
    line.Cut 2 ∷ line.Boot 2 ∷ activates 2 6699 ++ inits ∷ to_and_fro 2 2 ++ line.Deliver (end_c 2) None ∷
    line.Tables 2 ∷ line.Tables 0 ∷ []

-- ## Of cuts

-- this write of the first boot leaves this byte
abbrev boot_cut : ℕ → ℕ → List Line
boot_cut write byte = line.Arm 0 write (record { items = byte ∷ [] }) ∷ line.Boot 0 ∷ line.Boot 0 ∷ []

abbrev pub boot_cut_at_first_write_lines : List Line
boot_cut_at_first_write_lines = boot_cut 1 19

abbrev pub boot_cut_at_second_write_lines : List Line
boot_cut_at_second_write_lines = boot_cut 2 90

-- so does this write of the command that creates a pipe
abbrev command_cut : ℕ → ℕ → List Line
command_cut write byte =
    first_pipe ++ line.Send (end_h 2) 1 (16 ∷ 32 ∷ 0 ∷ 4 ∷ []) ∷ line.Arm 0 write (record { items = byte ∷ [] }) ∷
    line.Deliver (end_c 2) None ∷ line.Boot 0 ∷ line.Tables 0 ∷ []

abbrev pub cut_in_first_write_lines : List Line
cut_in_first_write_lines = command_cut 1 19

abbrev pub cut_in_second_write_13_lines : List Line
cut_in_second_write_13_lines = command_cut 2 19

abbrev pub cut_in_second_write_FF_lines : List Line
cut_in_second_write_FF_lines = command_cut 2 255

abbrev pub cut_in_second_write_5A_lines : List Line
cut_in_second_write_5A_lines = command_cut 2 90

abbrev pub pipes_closed_by_a_cut_lines : List Line
pipes_closed_by_a_cut_lines = first_pipe ++ sends 2 1 (2 ∷ 1 ∷ []) ++ line.Cut 0 ∷ line.Boot 0 ∷ activates 2 6699 ++ exchanges 2 1 (2 ∷ 1 ∷ [])

-- ## Of more hosts

-- both are connected
abbrev pub two_hosts : List Line
two_hosts = line.Boot 0 ∷ line.Boot 1 ∷ line.Boot 2 ∷ connects 1 ++ connects 2

-- host 01 allows host 02 to ask for pipes
abbrev pub allows : List Line
allows = exchanges 1 1 (1 ∷ 3 ∷ 2 ∷ [])

-- host 02 asks for a pipe to host 01
abbrev pub creation : List ℕ
creation = 16 ∷ 65 ∷ 1 ∷ 65 ∷ []

-- and gets it
abbrev pub agrees : List Line
agrees =
    line.Deliver (end_h 1) None ∷ line.Deliver (end_c 1) None ∷ line.Deliver (end_h 2) None ∷ line.Deliver (end_c 2) None ∷
    line.Deliver (end_h 1) None ∷ []

-- it asks in vain, is allowed to, and asks again
abbrev asks_twice : List Line
asks_twice = two_hosts ++ exchanges 2 1 creation ++ allows ++ sends 2 1 creation

abbrev pub creation_between_hosts_lines : List Line
creation_between_hosts_lines = asks_twice ++ agrees

abbrev pub notice_never_answered_lines : List Line
notice_never_answered_lines = asks_twice ++ line.Deliver (end_h 2) None ∷ line.Tick (Some 60) ∷ line.Deliver (end_h 2) None ∷ []

abbrev pub relay_and_strangers_lines : List Line
relay_and_strangers_lines =
    line.Boot 0 ∷ line.Boot 1 ∷ line.Boot 2 ∷ line.Boot 3 ∷ connects 1 ++ connects 2 ++ connects 3 ++
    allows ++ sends 2 1 creation ++ agrees ++ exchanges 1 2 (3 ∷ []) ++ sends 2 2 (64 ∷ 170 ∷ []) ++ exchanges 3 2 (3 ∷ [])
