-- A frame comes to an end, and the message that it brings is fetched.
use Rattle.std.specs.Prelude.{IfSome, option_to_list}
use Rattle.node_ends.proofs.Words.{Accounts, AllByRecursion, Chain, Control, End, EndStandsFor, Err, FetchMessage, HoldsEnd, List, LpduFault, Machine, Message}
use Rattle.node_ends.proofs.Words.{Moves, None, Ok, Open, Option, PoolState, Result, Some, Take, Waiting, [], ap, arith, chain_bytes, chain_of, control_of}
use Rattle.node_ends.proofs.Words.{drop, false, got_by, is_some, length, lpdu_input, messages_waiting, oldest, option_map, refl, report, report_told, subst}
use Rattle.node_ends.proofs.Words.{sym, true, true≢false, turn, without_got, ℕ, ◌++◌, ◌∙◌, ◌≡◌, ◌≤◌}
use Rattle.hcp_chain.specs.Holding.{IsOwnOpen, messages_in as messages_of}
use Rattle.hcp_chain.proofs.HoldingLemmas.{all_front}
use Rattle.link_messages.specs.declared.inbox.Got.{Got}
use Rattle.link_messages.specs.Incoming.{got_chains}
use Rattle.link_end.specs.Ends.{MayTake}
use Rattle.link_end.proofs.AccountLemmas.{rests, rests_may_take, may_take_held}
use Rattle.node_ends.proofs.Apart.{is_outside}
use Rattle.node_ends.proofs.Quiet.{held_gets_none}

-- while a message waits, the end is held
abbrev pub WaitsHeld : Option Waiting → End → Type 0
WaitsHeld waiting k = IfSome waiting (λ w. k.shdlc.ready ≡ false)

-- a message that was fetched waits
abbrev pub as_waiting : ℕ × Chain → Waiting
as_waiting x = record { pipe = x.0; chain = x.1 }

-- at most one message came
one_in : (pool : PoolState) (g : Option Got) → drop 1 (messages_of pool (got_chains g)) ≡ []
one_in pool g = grind arith

one_came : (pool : PoolState) (k : End) (m : Machine) → EndStandsFor k pool m → drop 1 m.got ≡ []
one_came pool k m h = ap (drop 1) (sym h.halfway.got) ∙ one_in pool k.inbox.got

is_oldest : (l : List Message) (o : Option Message) → drop 1 l ≡ [] → o ≡ oldest l → l ≡ option_to_list o
is_oldest l o one is = grind arith

-- it has no more bytes than a message has
short_in : (pool : PoolState) (owner : ℕ) (opens : List Open) (g : Option Got) → AllByRecursion (IsOwnOpen pool owner) (opens ++ got_chains g)
    → AllByRecursion (λ (x : Message). length x.1 ≤ 4096) (messages_of pool (got_chains g))
short_in pool owner opens None all = tt
short_in pool owner opens (Some g) all = ((all_front (IsOwnOpen pool owner) opens (record { pipe = g.pipe; chain = g.chain }) all).1.short, tt)

waits_of : (pool : PoolState) (o : Option (ℕ × Chain))
    → option_to_list (option_map (λ (x : ℕ × Chain). (x.0, chain_bytes pool x.1)) o) ≡ messages_waiting pool (option_map as_waiting o)
waits_of pool o = grind arith

chain_is : (o : Option (ℕ × Chain)) → option_map (λ (x : ℕ × Chain). x.1) o ≡ chain_of (option_map as_waiting o)
chain_is o = grind arith

-- the message that came was fetched, if one did, and waits from now on
pub record Fetches (pool : PoolState) (before after : End) (m : Machine) (o : Option (ℕ × Chain)) : Type 0 where
  pub stands : EndStandsFor before pool m
  pub next : EndStandsFor after pool (turn m FetchMessage)
  pub accounts : Accounts after pool (option_map (λ (x : ℕ × Chain). x.1) o)
  pub answer : option_map (λ (x : ℕ × Chain). (x.0, chain_bytes pool x.1)) o ≡ oldest m.got

pub fetches : {pool : PoolState} {before after : End} {m : Machine} {o : Option (ℕ × Chain)} → Fetches pool before after m o
    → HoldsEnd pool after (option_map as_waiting o) m
fetches {pool} {before} {after} {m} {o} f =
    let one = one_came pool before m f.stands in
    record {
      stands = subst (λ g. EndStandsFor after pool (record m { got = g })) one f.next;
      accounts = subst (λ c. Accounts after pool c) (chain_is o) f.accounts;
      waits = is_oldest m.got (option_map (λ (x : ℕ × Chain). (x.0, chain_bytes pool x.1)) o) one f.answer ∙ waits_of pool o;
      short = subst (λ l. AllByRecursion (λ (x : Message). length x.1 ≤ 4096) l) f.stands.halfway.got
          (short_in pool before.inbox.joiner.owner before.inbox.joiner.open.items before.inbox.got f.stands.halfway.receives.lies.holds.own);
    }

-- ## A frame may be taken

pub may_take : (pool : PoolState) (k : End) (waiting : Option Waiting) (m : Machine) → HoldsEnd pool k waiting m → WaitsHeld waiting k → MayTake k pool
may_take pool k None m h held = rests_may_take k pool (rests k pool (without_got m) h.stands h.accounts refl)
may_take pool k (Some w) m h held = may_take_held k pool (without_got m) h.stands (sym h.stands.halfway.link.kept.ready ∙ held) refl

-- where none waits, all was fetched
pub none_got : (pool : PoolState) (k : End) (m : Machine) → HoldsEnd pool k None m → without_got m ≡ m
none_got pool k m h = ap (λ g. record m { got = g }) (sym h.waits)

-- where none is told, none came
pub none_came : (l : List Message) → is_some (oldest l) ≡ false → l ≡ []
none_came l e = grind arith

-- where one came, none waited: an end at which one waits is held
pub none_waited : {pool : PoolState} (k : End) (waiting : Option Waiting) (m : Machine) (lpdu : List ℕ) → HoldsEnd pool k waiting m
    → WaitsHeld waiting k → is_some (oldest (got_by m (lpdu_input lpdu))) ≡ true → waiting ≡ None
none_waited k None m lpdu h held came = refl
none_waited k (Some w) m lpdu h held came =
    absurd (true≢false (sym came ∙ ap (λ l. is_some (oldest l)) (held_gets_none m lpdu (sym h.stands.halfway.link.kept.ready ∙ held))))

-- ## What is told

told_apart : (m : Machine) (c : Control) → report_told (report (without_got m) (Take c)) ≡ report_told (report m (Take c))
told_apart m c = grind arith

pub lpdu_told_apart : (m : Machine) (lpdu : List ℕ) → report_told (report (without_got m) (lpdu_input lpdu)) ≡ report_told (report m (lpdu_input lpdu))
lpdu_told_apart m lpdu = by (control_of lpdu) refl
  where
    by : (o : Result Control LpduFault) → control_of lpdu ≡ o
        → report_told (report (without_got m) (lpdu_input lpdu)) ≡ report_told (report m (lpdu_input lpdu))
    by (Ok c) q = rw q (told_apart m c)
    by (Err fault) q = rw q refl

pub lpdu_is_outside : (lpdu : List ℕ) → is_outside (lpdu_input lpdu) ≡ true
lpdu_is_outside lpdu = by (control_of lpdu) refl
  where
    by : (o : Result Control LpduFault) → control_of lpdu ≡ o → is_outside (lpdu_input lpdu) ≡ true
    by (Ok c) q = rw q refl
    by (Err fault) q = rw q refl

-- an end whose owners are the same moves the same
pub moves_on : (old new : PoolState) (before between after : End) → Moves old new before between
    → (after.outbox.owner ≡ between.outbox.owner) × (after.inbox.joiner.owner ≡ between.inbox.joiner.owner) → Moves old new before after
moves_on old new before between after m same = record { sender = same.0 ∙ m.sender; receiver = same.1 ∙ m.receiver; beside = m.beside }

pub none_waits : (o : Option Waiting) → is_some o ≡ false → o ≡ None
none_waits o e = grind arith
