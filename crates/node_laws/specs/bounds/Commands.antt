-- How many commands the nodes of a world may commit by what happens to it, however many frames are taken and however much time passes.
use Rattle.std.specs.Prelude.{◌≡◌, ℕ, ◌+◌, ◌*◌, true, List, [], ◌∷◌, length, map, is_some, None}
use Rattle.hcp_packet.specs.Packets.{IsSendable}
use Rattle.link_laws.specs.messages.Links.{IsWindow}
use Rattle.node_machine.specs.world.World.{NodeWorld, Happening, node_at, world_step}
use Rattle.node_machine.specs.world.Lines.{Occurrence}
use Rattle.node_machine.specs.world.World.Happening.{Boots, Gives, Inits, Resets, Activates}

-- This may happen: a node boots only while it doesn't run, what a host sends isn't empty and its pipe isn't reserved, a reset names a window
-- from 1 to 4, or none, and a link is activated while the controller runs.
abbrev pub MayBeCaused : NodeWorld → Happening → Type 0
MayBeCaused w (Boots n) = node_at w n ≡ None
MayBeCaused w (Gives e m) = IsSendable m
MayBeCaused w (Resets e window) = IsWindow window
MayBeCaused w (Activates h sync power) = is_some w.controller ≡ true
MayBeCaused w _ = Unit {0}

-- these may happen one after another
abbrev pub AllCome : NodeWorld → List Happening → Type 0
AllCome w [] = Unit {0}
AllCome w (c ∷ causes) = MayBeCaused w c × AllCome (world_step w c).0 causes

-- each of these events notes what its cause makes of the world before it, and may happen there
abbrev pub AreCausedSo : NodeWorld → List Occurrence → Type 0
AreCausedSo w [] = Unit {0}
AreCausedSo w (o ∷ events) = (o.entries ≡ (world_step w o.cause).1) × MayBeCaused w o.cause × AreCausedSo (world_step w o.cause).0 events

-- How many commands come of one that happens, at once or later: 18 of a message that a host sends, which may be a command, of which the
-- other hosts are told, and as many of each command of an init. Frames that are taken and time that passes bring about none of their own.
abbrev pub commands_by : Happening → ℕ
commands_by (Gives e m) = 18
commands_by (Inits e identity pipes) = 18 * (5 + length pipes)
commands_by (Activates h sync power) = 3
commands_by _ = 0

-- and of all of them
abbrev pub commands_by_all : List Happening → ℕ
commands_by_all [] = 0
commands_by_all (c ∷ causes) = commands_by c + commands_by_all causes

abbrev pub commands_by_events : List Occurrence → ℕ
commands_by_events events = commands_by_all (map (λ (o : Occurrence). o.cause) events)
