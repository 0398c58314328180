-- What a host keeps of its unanswered command in a step, by what was noted before and in the step.
use Rattle.std.specs.Prelude.{◌≡◌, ℕ, ◌≤◌, ◌==◌, ◌&&◌, true, false, List, [], ◌∷◌, ◌++◌, length, is_some, Option, Some, None}
use Rattle.std.specs.List.{AllByRecursion}
use Rattle.trace_model.specs.declared.entry.Entry.{Entry}
use Rattle.shdlc_core.specs.declared.answers.LinkState.TheVariants.{Up}
use Rattle.link_laws.specs.machine.Machine.{give_refusal}
use Rattle.node_machine.specs.Parts.{Init, Running, Port, Work, Deed}
use Rattle.node_machine.specs.Parts.Deed.{Commits, Sends, SaysOk, Releases, Drops, SetsErrors, Orders, GoesOn, Ends}
use Rattle.history.specs.Filters.{same_end}
use Rattle.node_machine.specs.Carrying.{end_of_node}
use Rattle.node_machine.specs.Controller.{is_command_message}
use Rattle.node_machine.specs.HostReplies.{orders_of}
use Rattle.node_machine.specs.world.World.{runs_on, end_h}
use Rattle.node_machine.specs.world.NodeFilters.{awaited_after, order_in}

-- the unanswered command of a host, while it runs
abbrev pub order_of : Option Running → Option (List ℕ)
order_of None = None
order_of (Some r) = r.core.command

-- no command of an init is too long for a message
abbrev pub AreInitsShort : Option Init → Type 0
AreInitsShort None = Unit {0}
AreInitsShort (Some i) = AllByRecursion (λ order. length order ≤ 4096) (orders_of i)

-- the end of a host: no notice of a controller stands at it, and it is up while a command isn't answered
pub record IsItsEnd (h : ℕ) (command : Option (List ℕ)) (p : Port) : Type 0 where
  pub host : p.desk.host ≡ h
  pub no_notice : p.desk.notice ≡ None
  pub up : is_some command ≡ true → p.side.shdlc.phase ≡ Up

-- A host in a step, before which these entries were noted: it has one end, and its unanswered command is what is read off them and
-- those of the step, where it runs on.
pub record KeepsOrder (h : ℕ) (before : List Entry) (w : Work) : Type 0 where
  pub node : w.core.node ≡ h
  pub port : Port
  pub ports_are : w.ports ≡ port ∷ []
  pub its_end : IsItsEnd h w.core.command port
  pub short : AreInitsShort w.core.init
  pub order : order_in (before ++ w.entries) h ≡ order_of (runs_on w)

-- an end as a step begins
abbrev pub IsFresh : Port → Type 0
IsFresh p = (p.ended ≡ false) × (p.late ≡ false)

-- an entry tells nothing of the unanswered command of this host
abbrev pub IsSilent : ℕ → Entry → Type 0
IsSilent h e = (waits : Option (List ℕ)) → awaited_after is_command_message (end_h h) h waits e ≡ waits

-- these ends take a command on pipe 01
abbrev pub Fits : List Port → List ℕ → Type 0
Fits ports message = (p : Port) → ports ≡ p ∷ [] → give_refusal p.side (1, message) ≡ None

-- Deeds of a host that may follow each other: a command is given once at most, where it fits, before all other messages, and it
-- starts with the byte of a command; no other message on pipe 01 does.
abbrev pub MayDo : ℕ → (List ℕ → Type 0) → List Deed → Type 0
MayDo h F [] = Unit {0}
MayDo h F (Commits c ∷ deeds) = MayDo h F deeds
MayDo h F (Sends to m ∷ deeds) = ((m.0 == 1 && is_command_message m.1) ≡ false) × MayDo h (λ order. ⊥) deeds
MayDo h F (SaysOk ∷ deeds) = MayDo h F deeds
MayDo h F (Releases asker ∷ deeds) = MayDo h (λ order. ⊥) deeds
MayDo h F (Drops pid ∷ deeds) = MayDo h F deeds
MayDo h F (SetsErrors errors ∷ deeds) = MayDo h (λ order. ⊥) deeds
MayDo h F (Orders order ∷ deeds) = F order × (is_command_message order ≡ true) × MayDo h (λ other. ⊥) deeds
MayDo h F (GoesOn i ∷ deeds) = AreInitsShort (Some i) × MayDo h F deeds
MayDo h F (Ends e ∷ deeds) = IsSilent h e × MayDo h F deeds
MayDo h F (_ ∷ deeds) = ⊥

-- The node of a step isn't this host: it is the controller, or another host, whose ends are its own.
pub record IsAnother (h : ℕ) (w : Work) : Type 0 where
  pub other : (w.core.node == h) ≡ false
  pub ends : AllByRecursion (λ (p : Port). same_end (end_of_node w.core p.desk.host) (end_h h) ≡ false) w.ports
