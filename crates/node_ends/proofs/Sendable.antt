-- The messages that came to an end may be sent: they aren't empty, and they came on pipes that aren't reserved.
use Rattle.node_ends.proofs.Words.{ActEvent, ActFrame, ActStart, ActStop, ActTake, AllByRecursion, AreSendable, Bool, Clt, Control, EndState, Fetch, FromNode}
use Rattle.node_ends.proofs.Words.{I, IsReached, IsSendable, LinkInput, List, Machine, Message, Option, Reset, Role, Rset, S, Start, Stop, Take, TakeBroken}
use Rattle.node_ends.proofs.Words.{TakeUnknown, Tick, Turn, Ua, [], activated, after_input, after_inputs, arith, cond, drop, frame_fetched, heard, is_faulty}
use Rattle.node_ends.proofs.Words.{is_open, moved, nat_lt, new_link_end, news, put_down, refl, stopped, subst, suc, sym, taken, took, true, turn, zero, ℕ, ◌%◌}
use Rattle.node_ends.proofs.Words.{◌++◌, ◌<◌, ◌∷◌, ◌≡◌}
use Rattle.hcp_packet.specs.declared.Packet.{Packet}
use Rattle.hcp_packet.specs.Packets.{good_of, is_good, packets_in}
use Rattle.hcp_chain.specs.Joining.{join_step, message_in, given_by}
use Rattle.shdlc_core.specs.Machine.{Session}

-- ## Messages of packets

abbrev OnPipe : Message → Type 0
OnPipe m = m.0 < 112

all_joined : {X : Type 0} (P : X → Type 0) (xs ys : List X) → AllByRecursion P xs → AllByRecursion P ys → AllByRecursion P (xs ++ ys)
all_joined P [] ys a b = b
all_joined P (x ∷ xs) ys a b = (a.0, all_joined P xs ys a.1 b)

all_dropped : {X : Type 0} (P : X → Type 0) (n : ℕ) (xs : List X) → AllByRecursion P xs → AllByRecursion P (drop n xs)
all_dropped P zero xs a = a
all_dropped P (suc n) [] a = tt
all_dropped P (suc n) (x ∷ xs) a = all_dropped P n xs a.1

given_on_pipe : (messages : List (ℕ × List ℕ)) (p : Packet) → p.pipe < 112 → AllByRecursion OnPipe (message_in (join_step messages p).0)
given_on_pipe messages p low = grind arith

abbrev OnPipes : List Packet → Type 0
OnPipes ps = AllByRecursion (λ (p : Packet). p.pipe < 112) ps

all_given_on_pipe : (messages : List (ℕ × List ℕ)) (ps : List Packet) → OnPipes ps → AllByRecursion OnPipe (given_by messages ps)
all_given_on_pipe messages [] all = tt
all_given_on_pipe messages (p ∷ ps) all =
    all_joined OnPipe (message_in (join_step messages p).0) (given_by (join_step messages p).1 ps) (given_on_pipe messages p all.0)
    (all_given_on_pipe (join_step messages p).1 ps all.1)

packets_on_pipe : (fragments : List (List ℕ)) → OnPipes (packets_in fragments)
packets_on_pipe [] = tt
packets_on_pipe ([] ∷ fragments) = packets_on_pipe fragments
packets_on_pipe ((first ∷ rest) ∷ fragments) = by (nat_lt (first % 128) 112) refl (packets_on_pipe fragments)
  where
    by : (b : Bool) → nat_lt (first % 128) 112 ≡ b → OnPipes (packets_in fragments) → OnPipes (packets_in ((first ∷ rest) ∷ fragments))
    by b q later = grind arith

good_sendable : (messages : List Message) → AllByRecursion OnPipe messages → AreSendable (good_of messages)
good_sendable [] all = tt
good_sendable (m ∷ messages) all = by (is_good m.1) refl (good_sendable messages all.1)
  where
    by : (b : Bool) → is_good m.1 ≡ b → AreSendable (good_of messages) → AreSendable (good_of (m ∷ messages))
    by b q later = grind arith

news_sendable : (s : Session) (e : EndState) → AreSendable (news s e)
news_sendable s e =
    all_dropped IsSendable _ (good_of (given_by [] (packets_in e.session.acc)))
    (good_sendable (given_by [] (packets_in e.session.acc)) (all_given_on_pipe [] (packets_in e.session.acc) (packets_on_pipe e.session.acc)))

-- ## What came to an end

abbrev Came : Machine → Type 0
Came m = AreSendable m.got

down_came : (b : Bool) (e : Machine) → Came e → Came (put_down b e)
down_came b e came = grind arith

activated_came : (e : Machine) (event : ActEvent) → Came e → Came (activated e event)
activated_came e event came = grind arith

either_came : (b : Bool) (e f : Machine) → Came e → Came f → Came (cond b e f)
either_came b e f one other = grind arith

got_moved : (e : Machine) (b : Bool) (s : EndState) → (moved e b s).got ≡ e.got
got_moved e b s = grind arith

heard_came : (e : Machine) (c : Control) → Came e → Came (heard e c)
heard_came e c came =
    either_came (is_faulty (taken e.shdlc c).session) (put_down true e) _ (down_came true e came)
    (all_joined IsSendable e.got (news e.shdlc.session (taken e.shdlc c)) came (news_sendable e.shdlc.session (taken e.shdlc c)))

took_came : (e : Machine) (c : Control) → Came e → Came (took e c)
took_came e (I ns nr info) came = either_came (is_open e.role) (heard e (I ns nr info)) e (heard_came e (I ns nr info) came) came
took_came e (S kind nr) came = either_came (is_open e.role) (heard e (S kind nr)) e (heard_came e (S kind nr) came) came
took_came e (Rset window caps) came = either_came (is_open e.role) (heard e (Rset window caps)) e (heard_came e (Rset window caps) came) came
took_came e Ua came = either_came (is_open e.role) (heard e Ua) e (heard_came e Ua came) came
took_came e (ActFrame act again) came = activated_came e (ActTake act again) came
took_came e Clt came = came

reset_came : (e : Machine) (window : Option ℕ) → Came e → Came (after_input e (Reset window))
reset_came e window came = grind arith

turn_came : (e : Machine) (t : Turn) → Came e → Came (turn e t)
turn_came e t came = grind arith

fetched_came : (e : Machine) → Came e → Came (frame_fetched e)
fetched_came e came = grind arith

input_came : (e : Machine) (i : LinkInput) → Came e → Came (after_input e i)
input_came e (Take c) came = took_came e c came
input_came e TakeUnknown came = came
input_came e (TakeBroken fault) came = came
input_came e Tick came = grind arith
input_came e (Reset window) came = reset_came e window came
input_came e (Start value) came = activated_came (moved e true (stopped e.shdlc)) (ActStart value) came
input_came e Stop came = activated_came (moved e true (stopped e.shdlc)) ActStop came
input_came e (FromNode t) came = turn_came e t came
input_came e Fetch came = fetched_came e came

inputs_came : (is : List LinkInput) (e : Machine) → Came e → Came (after_inputs e is)
inputs_came [] e came = came
inputs_came (i ∷ is) e came = inputs_came is (after_input e i) (input_came e i came)

new_came : (role : Role) → Came (new_link_end role)
new_came role = grind arith

-- so it is in each state to which an end comes
pub got_sendable : (m : Machine) → IsReached m → AreSendable m.got
got_sendable m r = let P : Machine → Type 0 = λ e. Came e in subst P (sym r.is) (inputs_came r.inputs (new_link_end r.role) (new_came r.role))
