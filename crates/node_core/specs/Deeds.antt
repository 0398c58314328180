-- When the deeds of a node may be done.
use Rattle.std.specs.Prelude.{ℕ, ◌≡◌, true, List, [], ◌∷◌, Option, None}
use Rattle.hcp_packet.specs.Packets.{IsSendable}
use Rattle.hci_tables.specs.Commands.{IsCommand}
use Rattle.hci_tables.specs.declared.command.Command.TheVariants.{Create}
use Rattle.link_laws.specs.machine.Machine.{Message}
use Rattle.node_machine.specs.Parts.{Init, Core, Work, Deed as DeedOf}
use Rattle.node_machine.specs.Parts.Deed.{Commits, Sends, SaysOk, Asks, Releases, Tells, IsAnswered, Drops, SetsErrors, Orders, Hears, GoesOn, Ends}
use Rattle.node_machine.specs.Carrying.{finds_room, done}
use Rattle.node_machine.specs.Orders.{IsOnOrder}
use Rattle.node_deeds.specs.declared.deeds.Deed.{Deed}
use Rattle.node_deeds.specs.declared.deeds.Deed.TheVariants as kept
use Rattle.node_deeds.specs.Shown.{Handling, deed_shown}
use Rattle.node_deeds.specs.Hosts.{init_running}
use Rattle.node_core.specs.declared.node.Node.{Node}

-- a message that a node handles as it stands
abbrev pub handling : {N : Type 0} → Node N → Message → Handling
handling n m = record { node = n.number; init = init_running n.tasks.init; message = m }

-- the deed of the machine, where a node as it stands handles this message
abbrev pub deed_of : {N : Type 0} → Node N → Message → Deed → DeedOf
deed_of n m d = deed_shown (handling n m) d

-- A deed may be done as this is handled: a command finds room and may be recorded, a pipe that is asked for may be made, what is sent isn't
-- empty and goes over a pipe, and an init that goes on is the one that runs.
abbrev pub IsDoableNow : Handling → Deed → Work → Type 0
IsDoableNow a (kept.Commits c) w = IsCommand c × (finds_room w.core c ≡ true)
IsDoableNow a (kept.PassesOn host) w = IsSendable a.message
IsDoableNow a (kept.Sends host pipe message) w = IsSendable (pipe, message.items)
IsDoableNow a kept.SaysOk w = Unit {0}
IsDoableNow a (kept.Asks row) w = IsCommand (Create row)
IsDoableNow a (kept.Releases asker) w = Unit {0}
IsDoableNow a (kept.Tells host message) w = IsSendable (1, message.items)
IsDoableNow a kept.IsAnswered w = Unit {0}
IsDoableNow a (kept.Drops pipe) w = Unit {0}
IsDoableNow a (kept.SetsErrors errors) w = Unit {0}
IsDoableNow a (kept.Orders order) w = IsSendable (1, order.items)
IsDoableNow a kept.Hears w = Unit {0}
IsDoableNow a (kept.GoesOn answered) w = w.core.init ≡ a.init
IsDoableNow a (kept.Ends e) w = Unit {0}

-- so may all, one after another, where no write fails
abbrev pub AreDoableInTurn : ℕ → Handling → List Deed → Work → Type 0
AreDoableInTurn h a [] w = Unit {0}
AreDoableInTurn h a (d ∷ deeds) w = IsDoableNow a d w × AreDoableInTurn h a deeds (done h (deed_shown a d) (record w { plan = None }))

-- A deed of a machine may be done here as far as its node knows more than its decision: a command finds room, and the init that ran as
-- it decided runs still where it goes on.
abbrev pub IsGranted : Option Init → DeedOf → Work → Type 0
IsGranted init (Commits c) w = finds_room w.core c ≡ true
IsGranted init (Sends to m) w = Unit {0}
IsGranted init SaysOk w = Unit {0}
IsGranted init (Asks to message c) w = Unit {0}
IsGranted init (Releases asker) w = Unit {0}
IsGranted init (Tells to message) w = Unit {0}
IsGranted init IsAnswered w = Unit {0}
IsGranted init (Drops pid) w = Unit {0}
IsGranted init (SetsErrors errors) w = Unit {0}
IsGranted init (Orders message) w = Unit {0}
IsGranted init Hears w = w.core.init ≡ init
IsGranted init (GoesOn i) w = w.core.init ≡ init
IsGranted init (Ends e) w = Unit {0}

-- what a node has under way: an init that runs waits for the answer to its command, and none runs at a controller
abbrev pub IsOnTask : Core → Type 0
IsOnTask core = IsOnOrder core.command core.init × (core.node ≡ 0 → core.init ≡ None)

-- so may all, one after another, where no write fails, and that is so behind them
abbrev pub AreGranted : ℕ → Option Init → List DeedOf → Work → Type 0
AreGranted h init [] w = IsOnTask w.core
AreGranted h init (d ∷ deeds) w = IsGranted init d w × AreGranted h init deeds (done h d (record w { plan = None }))
