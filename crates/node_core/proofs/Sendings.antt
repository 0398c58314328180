-- A host that sends a message by itself, and why it doesn't.
use Rattle.std.specs.Prelude.{IfErr, OnOk}
use Rattle.node_core.proofs.Words.{Bool, Deed, Entry, Err, Give, GoesOn, HostRefused, Init, IsInStep, List, Machine, Message, Node, None, Ok, OnErr, Option}
use Rattle.node_core.proofs.Words.{Orders, Port, Refused, Result, SendRefused, Sends, Some, TellsLength, TellsLengthOf, Work, [], all_done, ap, arith, cond}
use Rattle.node_core.proofs.Words.{done, false, give_refusal, given_at, has_link, if_waiting, is_command_message, is_some, is_up, length, nat_lt, ordered_if}
use Rattle.node_core.proofs.Words.{port_at, refl, refused_as, sending, subst, true, turn_at, ℕ, ◌&&◌, ◌==◌, ◌∙◌, ◌∷◌, ◌≡◌}
use Rattle.trace_model.specs.declared.entry.NoCause.TheVariants as no
use Rattle.link_laws.specs.machine.Machine.{need, spare}
use Rattle.link_laws.specs.machine.Machine.Refused.{TooLong, Full}
use Rattle.link_end.specs.declared.report.SendRefused.TheVariants as at_end
use Rattle.node_core.specs.Giving.{host_refused}

-- ## Refusals

-- an end that isn't up
pub down_refuses : (p : Port) (m : Message) (waits : Bool) → is_up p.side.shdlc.phase ≡ false → if_waiting waits (give_refusal p.side m) ≡ Some no.NotUp
down_refuses p m waits down = grind arith

-- why an end that is up refuses a message, by its length
abbrev sized : Machine → Message → Option Refused
sized e m = cond (nat_lt 4096 (length m.1)) (Some (TooLong (length m.1))) (cond (nat_lt (spare e) (need m.1)) (Some (Full (need m.1) (spare e))) None)

-- one that has to wait
pub waiting_refuses : (p : Port) (m : Message) → is_up p.side.shdlc.phase ≡ true → if_waiting true (give_refusal p.side m) ≡ Some no.Waiting
waiting_refuses p m up = grind arith

-- what is told where its end refuses a message
abbrev pub host_told : Result (Unit {0}) SendRefused → Result (Unit {0}) HostRefused
host_told (Ok done) = Ok done
host_told (Err why) = Err (host_refused why)

pub told_refusal : {r : Result (Unit {0}) SendRefused} (m : Message) (port : Option Port) (p : Port) → r ≡ given_at m port → port ≡ Some p
    → refused_as (host_told r) ≡ if_waiting false (give_refusal p.side m)
told_refusal m port p told at = grind arith

-- the length that is told is that of the message
pub told_length : (len : ℕ) (why : SendRefused) → TellsLengthOf len why → TellsLength len (Some (host_refused why))
told_length len why told = grind arith

-- ## Answers

pub was_ok : {E : Type 0} (r : Result (Unit {0}) E) → ((why : E) → r ≡ Err why → ⊥) → r ≡ Ok tt
was_ok r none = grind arith

pub where_ok : {A E : Type 0} {r : Result (Unit {0}) E} → r ≡ Ok tt → OnOk r A → A
where_ok {A} {E} is a = let P : Result (Unit {0}) E → Type 0 = λ x. OnOk x A in subst P is a

pub where_err : {A E : Type 0} {r : Result (Unit {0}) E} {why : E} → r ≡ Err why → OnErr r A → A
where_err {A} {E} is a = let P : Result (Unit {0}) E → Type 0 = λ x. OnErr x A in subst P is a

pub of_err : {E : Type 0} {r : Result (Unit {0}) E} {why : E} (Q : E → Type 0) → r ≡ Err why → IfErr r Q → Q why
of_err {E} Q is a = let P : Result (Unit {0}) E → Type 0 = λ x. IfErr x Q in subst P is a

-- ## Commands that wait

-- a command waits at a node exactly where one does in its core
pub waits_same : {N : Type 0} {n : Node N} {noted start : List Entry} {short : Bool} {w : Work} → IsInStep n noted short start w
    → n.store.journal.live ≡ true → is_some n.tasks.command ≡ is_some w.core.command
waits_same u live = grind arith

pub linked : (ports : List Port) (h : ℕ) (p : Port) → port_at ports h ≡ Some p → has_link ports h ≡ is_up p.side.shdlc.phase
linked ports h p at = rw at refl

-- ## What is given

pub alone : (h : ℕ) (d : Deed) (w : Work) → all_done h (d ∷ []) w ≡ done h d w
alone h d w = grind arith

pub given_order : (h pipe : ℕ) (message : List ℕ) (w : Work) → (pipe == 1 && is_command_message message) ≡ true
    → done h (Orders message) w ≡ all_done h (sending h (pipe, message)) w
given_order h pipe message w ordered = grind arith

pub given_other : (h pipe : ℕ) (message : List ℕ) (w : Work) → (pipe == 1 && is_command_message message) ≡ false
    → done h (Sends h (pipe, message)) w ≡ all_done h (sending h (pipe, message)) w
given_other h pipe message w other = grind arith

pub given_both : (h : ℕ) (d e : Deed) (w : Work) → (done h d w).cut ≡ false → done h e (done h d w) ≡ all_done h (d ∷ e ∷ []) w
given_both h d e w live = grind arith

-- a message that was sent, and waits for its answer where it is a command
both : (a b : Bool) → (a && b) ≡ true → a ≡ true
both a b e = grind arith

pub given_so : (h pipe : ℕ) (message : List ℕ) (w : Work) (order : Bool) → order ≡ (pipe == 1 && is_command_message message)
    → ordered_if order message (turn_at h (Give (pipe, message)) w) ≡ all_done h (sending h (pipe, message)) w
given_so h pipe message w order is = grind arith

-- an init begins behind its first command as before it
pub begun_so : (h : ℕ) (i : Init) (w : Work) → w.cut ≡ false
    → done h (GoesOn i) (all_done h (sending h (1, 3 ∷ [])) w) ≡ all_done h (GoesOn i ∷ Orders (3 ∷ []) ∷ []) w
begun_so h i w live = ap (done h (GoesOn i)) (alone h (Orders (3 ∷ [])) w) ∙ given_both h (GoesOn i) (Orders (3 ∷ [])) w live
