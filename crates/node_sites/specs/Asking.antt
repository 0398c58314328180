-- What a host of a world is asked to do by itself: with which deeds it does it, and with which message it is refused.
use Rattle.std.specs.Prelude.{ℕ, ◌≤◌, ◌==◌, ◌&&◌, is_some, List, [], ◌∷◌, length, Option}
use Rattle.hcp_packet.specs.Packets.{IsSendable}
use Rattle.trace_model.specs.declared.entry.NoCause.{NoCause}
use Rattle.link_laws.specs.machine.Machine.{Message, give_refusal}
use Rattle.node_machine.specs.Parts.{Core, Deed, Port}
use Rattle.node_machine.specs.Controller.{is_command_message}
use Rattle.node_machine.specs.world.World.{sending, beginning}
use Rattle.node_machine.specs.world.Lines.{if_waiting}
use Rattle.node_sites.specs.declared.nodes.Asked.{Asked}
use Rattle.node_sites.specs.declared.nodes.Asked.TheVariants.{Send, Init}

-- it may be asked for: a message isn't empty, on a pipe that isn't reserved, and an init makes at most eight pipes
abbrev pub MayBeAsked : Asked → Type 0
MayBeAsked (Send pipe message) = IsSendable (pipe, message.now)
MayBeAsked (Init identity pipes) = length pipes.now ≤ 8

-- what a host with this number does
abbrev pub deeds_asked : Asked → ℕ → List Deed
deeds_asked (Send pipe message) h = sending h (pipe, message.now)
deeds_asked (Init identity pipes) h = beginning identity.now pipes.now

-- the first message that it sends
abbrev pub message_asked : Asked → Message
message_asked (Send pipe message) = (pipe, message.now)
message_asked (Init identity pipes) = (1, 3 ∷ [])

-- why a node doesn't send a message, where it doesn't: a command waits, or the end of its link refuses it
abbrev pub message_refused : Message → Core → Port → Option NoCause
message_refused m core p = if_waiting (m.0 == 1 && is_command_message m.1 && is_some core.command) (give_refusal p.side m)
