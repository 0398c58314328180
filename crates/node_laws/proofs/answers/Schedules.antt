-- Schedules of further worked examples: a notice that is never answered while its link stays up, and a message that is held for room.
use Rattle.node_laws.proofs.Words.{Line, List, None, Some, [], end_c, end_h, replicate, ◌++◌, ◌∷◌}
use Rattle.trace_model.specs.declared.line.Line.TheVariants as line
use Rattle.node_machine.proofs.world.Schedules.{agrees, allows, connects, creation, exchanges, sends, to_and_fro, two_hosts}

-- host 01 allows host 02 to ask for pipes, and it asks for one
abbrev asked : List Line
asked = two_hosts ++ allows ++ sends 2 1 creation

-- host 01 takes what stands on its wire, and its answer is lost
abbrev late_answer : List Line
late_answer = line.Deliver (end_h 1) None ∷ line.Deliver (end_c 1) (Some 1) ∷ line.Lose (end_c 1) ∷ []

-- host 01 takes the notice and its answer is lost, until the notice is late
abbrev pub notice_late_lines : List Line
notice_late_lines = asked ++ line.Deliver (end_h 2) None ∷ late_answer ++ line.Tick (Some 100) ∷ line.Deliver (end_h 2) None ∷ []

-- a message of 4,096 bytes is posted back, while one of a block isn't acknowledged
abbrev pub held_lines : List Line
held_lines =
    line.Boot 0 ∷ line.Boot 2 ∷ connects 2 ++ exchanges 2 1 (16 ∷ 32 ∷ 0 ∷ 4 ∷ []) ++ exchanges 2 2 (3 ∷ []) ++
    sends 2 2 (66 ∷ 51 ∷ []) ++ line.Deliver (end_h 2) (Some 1) ∷ line.Lose (end_h 2) ∷
    line.Send (end_h 2) 2 (66 ∷ replicate 4095 51) ∷ to_and_fro 37 2 ++
    line.Tick (Some 10) ∷ line.Deliver (end_h 2) None ∷ line.Deliver (end_c 2) None ∷ []

-- ## Of two hosts

-- it deletes the pipe, and host 01 is told
abbrev deletes : List Line
deletes = sends 2 1 (17 ∷ 2 ∷ [])

-- the answer of host 01 to that is lost, until the notice is late
abbrev pub deletion_late_lines : List Line
deletion_late_lines =
    asked ++ agrees ++ deletes ++ late_answer ++ line.Deliver (end_h 2) None ∷ line.Deliver (end_c 2) None ∷ line.Tick (Some 100) ∷ []

-- the link of the host that asked is reset before host 01 agrees
abbrev pub forgotten_lines : List Line
forgotten_lines =
    asked ++ line.Reset (end_c 2) None ∷ line.Deliver (end_h 1) None ∷ line.Deliver (end_c 1) None ∷ line.Deliver (end_h 2) None ∷
    line.Deliver (end_c 2) None ∷ []

-- the link of the host that is asked is reset, and another one asks in vain
abbrev pub asked_reset_lines : List Line
asked_reset_lines = asked ++ line.Reset (end_c 1) None ∷ line.Deliver (end_h 2) None ∷ line.Deliver (end_c 2) None ∷ sends 2 9 (64 ∷ [])

-- the power of the controller is cut while a creation waits
abbrev pub cut_while_asked_lines : List Line
cut_while_asked_lines = asked ++ line.Cut 0 ∷ line.Boot 0 ∷ line.Tick (Some 3) ∷ line.Deliver (end_h 1) None ∷ connects 2

-- host 01 has no room for its answer to a notice, until its link is reset; its answer comes too late then
abbrev pub host_held_lines : List Line
host_held_lines =
    asked ++ agrees ++ line.Send (end_h 1) 2 (66 ∷ replicate 4095 51) ∷ deletes ++
    line.Deliver (end_h 1) None ∷ line.Tick None ∷ line.Reset (end_c 1) None ∷ line.Deliver (end_h 1) None ∷ line.Deliver (end_c 1) None ∷ []

-- ## Of REC_ERROR

-- a frame to the controller is damaged; the host reads REC_ERROR, sets it and reads it again
abbrev pub errors_lines : List Line
errors_lines =
    line.Boot 0 ∷ line.Boot 2 ∷ connects 2 ++ exchanges 2 0 (3 ∷ []) ++
    line.Send (end_h 2) 0 (2 ∷ 1 ∷ []) ∷ line.Damage (end_c 2) (record { items = 30 ∷ [] }) ∷ line.Tick (Some 10) ∷
    line.Deliver (end_c 2) None ∷ line.Deliver (end_h 2) None ∷ exchanges 2 0 (1 ∷ 1 ∷ 1 ∷ 2 ∷ []) ++ exchanges 2 0 (2 ∷ 1 ∷ [])
