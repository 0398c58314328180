-- The node of a bare end, from input to input.
use Rattle.std.specs.Prelude.{Err}
use Rattle.world.proofs.Words.{AreNoted, Bool, Control, End, EndStandsFor, Entry, Fetch, FetchMessage, Give, Got, Hold, Kept, LinkEnd, LinkInput, LinkReport}
use Rattle.world.proofs.Words.{List, Message, Node, NodeStandsFor, None, Ok, Option, Place, Reached, Refused, Reports, Reset, Some, Sound, Take, Tick, []}
use Rattle.world.proofs.Words.{acked_on, after_input, after_inputs, ap, append-nil, append_assoc, arith, control_of, drop, end_is, entries_for, fetched}
use Rattle.world.proofs.Words.{frame_fetched, give_refusal, length, lpdu_input, map, new_link_end, nothing_told, option_map, refl, report, reported, side_of}
use Rattle.world.proofs.Words.{subst, sym, told, told_of, turn, whole_acked, whole_among, ℕ, ◌++◌, ◌<◌, ◌^◌, ◌∙◌, ◌∷◌, ◌≡◌}
use Rattle.link_laws.specs.machine.Machine.{brought, oldest}
use Rattle.swp_base.specs.declared.link_terms.Cause.TheVariants.{Asked}
use Rattle.link_laws.specs.machine.Machine.{if_up, reset_refusal}
use Rattle.link_laws.specs.machine.Machine.Role.{Bare}
use Rattle.link_laws.specs.machine.Machine.LinkInput.{FromNode}
use Rattle.link_laws.specs.machine.Laws.{AreSendableInputs}
use Rattle.link_laws.proofs.machine.Runs.{parted, sound}
use Rattle.trace_model.specs.declared.entry.Entry.TheVariants as entry
use Rattle.block_pool.specs.declared.chain.Chain.{Chain}
use Rattle.block_pool.specs.Pool.{PoolState, IsLive, chain_bytes, Gives, KeepsOthers}
use Rattle.hcp_chain.specs.Holding.{messages_in as messages_of}
use Rattle.link_messages.specs.Incoming.{got_chains}
use Rattle.hcp_packet.specs.Packets.{IsSendable, packet_count}
use Rattle.link_laws.proofs.machine.Sound.{whole_given}
use Rattle.link_laws.proofs.machine.Reports.{took_got}
use Rattle.link_end.specs.declared.report.ResetRefused.{ResetRefused}
use Rattle.link_end.specs.Ends.{Accounts, EndLeavesOthers}
use Rattle.link_end.specs.Reports.{reset_told}
use Rattle.link_end.proofs.AccountLemmas.{account_kept, account_moved, given_own}
use Rattle.world.specs.Nodes.{CanFetch, HasInput}
use Rattle.world.proofs.Noting.{told_at, acked_told}

pub is_sound : (m : LinkEnd) → Reached m → Sound m
is_sound m r = let P : LinkEnd → Type 0 = λ e. Sound e in subst P (sym r.is) (sound Bare r.inputs r.sendable)

after-append : (e : LinkEnd) (is js : List LinkInput) → after_inputs e (is ++ js) ≡ after_inputs (after_inputs e is) js
after-append e [] js = refl
after-append e (i ∷ is) js = after-append (after_input e i) is js

joined : (i : LinkInput) (is : List LinkInput) → AreSendableInputs (i ∷ []) → AreSendableInputs is → AreSendableInputs (i ∷ is)
joined i is a b = grind arith

sendable-append : (is js : List LinkInput) → AreSendableInputs is → AreSendableInputs js → AreSendableInputs (is ++ js)
sendable-append [] js a b = b
sendable-append (i ∷ is) js a b = let p = parted i is a in joined i (is ++ js) p.0 (sendable-append is js p.1 b)

-- an end that was reached is reached after one input more
pub reached_on : (m : LinkEnd) (i : LinkInput) → AreSendableInputs (i ∷ []) → Reached m → Reached (after_input m i)
reached_on m i a r =
    record {
      inputs = r.inputs ++ i ∷ [];
      sendable = sendable-append r.inputs (i ∷ []) r.sendable a;
      is = ap (λ e. after_input e i) r.is ∙ sym (after-append (new_link_end Bare) r.inputs (i ∷ []));
    }

-- ## Messages that came are kept

pub ticked_got : (m : LinkEnd) → (after_input m Tick).got ≡ m.got
ticked_got m = grind arith

-- ## What a call leaves

-- what a call left of the end and of its pool stands for this state, and what lies elsewhere in the pool is as it was
pub record IsLeft (n : Node) (k : Kept) (pool : PoolState) (m : LinkEnd) : Type 0 where
  pub stands : EndStandsFor k pool m
  pub elsewhere : EndLeavesOthers n.pool pool n.«end» k

account_left : {n : Node} {k : Kept} {pool : PoolState} {m m2 : LinkEnd} → HasInput n m → IsLeft n k pool m2 → Accounts k pool None
account_left {n} {k} {pool} {m} h left = account_kept n.pool pool n.«end» k m None h.stands left.elsewhere h.accounts

-- ## An input with its report

-- the end took an input, and this is what it told of it
pub record HasTakenInput (n : Node) (k : Kept) (pool : PoolState) (m : LinkEnd) (i : LinkInput) (r : LinkReport) : Type 0 where
  pub has : HasInput n m
  pub left : IsLeft n k pool (after_input m i)
  pub told : r ≡ told_of (report m i)
  pub reports : Reports m i
  pub sendable : AreSendableInputs (i ∷ [])
  pub few : length m.sent < 2 ^ 32

-- what is noted of an input, but for the messages that came, is what its report tells
pub record IsReported (n : Node) (m : LinkEnd) (i : LinkInput) (place : Place) (before now : List Entry) : Type 0 where
  pub has : HasInput n (after_input m i)
  pub noted : now ≡ before ++ reported place.at place.session (told_of (report m i)) (whole_acked (after_input m i))

pub input_done : {n : Node} {k : Kept} {pool : PoolState} {m : LinkEnd} {i : LinkInput} {r : LinkReport} {new : Node} {place : Place}
    {before now : List Entry} → HasTakenInput n k pool m i r → new ≡ record { «end» = k; pool = pool; acked = acked_on n.acked r }
    → now ≡ before ++ reported place.at place.session r new.acked → IsReported new m i place before now
input_done {n} {k} {pool} {m} {i} {r} {new} {place} {before} d is noted =
    let count : new.acked ≡ whole_acked (after_input m i) =
    ap (λ (x : Node). x.acked) is
    ∙ (ap (acked_on n.acked) d.told ∙ acked_told m i n.acked d.has.acked d.few (is_sound m d.has.reached) d.reports) in
    let P : Node → Type 0 = λ x. EndStandsFor x.«end» x.pool (after_input m i) in
    let Q : Node → Type 0 = λ x. Accounts x.«end» x.pool None in
    record {
      has = record {
        stands = subst P (sym is) d.left.stands;
        accounts = subst Q (sym is) (account_left d.has d.left);
        reached = reached_on m i d.sendable d.has.reached;
        acked = count;
      };
      noted = grind arith;
    }

-- where no message came, that is all
pub without_message : {n : Node} {m : LinkEnd} {i : LinkInput} {place : Place} {before now : List Entry} → IsReported n m i place before now
    → m.got ≡ [] → (after_input m i).got ≡ m.got → (report m i).got ≡ []
    → NodeStandsFor n (after_input m i)
    × AreNoted place.at before now (told (side_of place.at) place.session (report m i) (whole_acked (after_input m i)))
without_message {m} {i} {place} {before} d none kept silent =
    let k : ℕ = whole_acked (after_input m i) in
    let head : List Entry = reported place.at place.session (told_of (report m i)) k in
    let all : entries_for place.at.link (told (side_of place.at) place.session (report m i) k) ≡ head =
    told_at place.at place.session k (report m i)
    ∙ (ap (λ ms. head ++ entries_for place.at.link (map (Got (side_of place.at) place.session) ms)) silent ∙ append-nil head) in
    (record { has = d.has; fetched = kept ∙ none }, d.noted ∙ ap (λ es. before ++ es) (sym all))

-- ## What the node does to its end

-- where the end, its pool and the number of acknowledged messages are such, the node stands for this state
pub kept_as : {n : Node} {k : Kept} {pool : PoolState} {m m2 : LinkEnd} → NodeStandsFor n m → EndStandsFor k pool m2
    → Accounts k pool None → Reached m2 → m2.got ≡ m.got → whole_acked m2 ≡ whole_acked m
    → NodeStandsFor (record { «end» = k; pool = pool; acked = n.acked }) m2
kept_as h stands accounts reached got acked = grind arith

-- a message that is given isn't acknowledged
given_acked : (m : LinkEnd) (x : Message) → IsSendable x → Sound m → whole_acked (turn m (Give x)) ≡ whole_acked m
given_acked m x s h = by (give_refusal m x) refl
  where
    count : 0 < packet_count (length x.1)
    count = let l = s.1 in omega (arith, l)

    whole : whole_among (m.sent ++ x ∷ []) m.shdlc.session.acked ≡ whole_acked m
    whole =
        let len = ap (λ (xs : List (List ℕ)). length xs) h.is.out in
        let i = h.is.acked in let r = h.is.reached in
        whole_given m.sent x m.shdlc.session.acked count (omega (arith, len, i, r))

    by : (o : Option Refused) → give_refusal m x ≡ o → whole_acked (turn m (Give x)) ≡ whole_acked m
    by None q = rw q whole
    by (Some why) q = rw q refl

given_got : (m : LinkEnd) (x : Message) → (turn m (Give x)).got ≡ m.got
given_got m x = grind arith

pub gives : {n : Node} {k : Kept} {pool : PoolState} {m : LinkEnd} (x : Message) → NodeStandsFor n m → IsLeft n k pool (turn m (Give x))
    → IsSendable x → NodeStandsFor (record { «end» = k; pool = pool; acked = n.acked }) (turn m (Give x))
gives {m} x h left sendable =
    kept_as h left.stands (account_left h.has left) (reached_on m (FromNode (Give x)) (sendable, tt) h.has.reached) (given_got m x)
    (given_acked m x sendable (is_sound m h.has.reached))

held_acked : (m : LinkEnd) (held : Bool) → whole_acked (turn m (Hold held)) ≡ whole_acked m
held_acked m held = grind arith

pub holds : {n : Node} {k : Kept} {m : LinkEnd} (held : Bool) → NodeStandsFor n m → EndStandsFor k n.pool (turn m (Hold held))
    → k.inbox ≡ n.«end».inbox → NodeStandsFor (record { «end» = k; pool = n.pool; acked = n.acked }) (turn m (Hold held))
holds {n} {k} {m} held h stands inbox =
    kept_as h stands (account_moved n.pool n.«end» k None inbox h.has.accounts)
    (reached_on m (FromNode (Hold held)) tt h.has.reached) refl (held_acked m held)

fetched_same : (m : LinkEnd) → ((frame_fetched m).got ≡ m.got) × (whole_acked (frame_fetched m) ≡ whole_acked m)
fetched_same m = grind arith

pub fetches_frame : {n : Node} {k : Kept} {m : LinkEnd} → NodeStandsFor n m → EndStandsFor k n.pool (frame_fetched m)
    → k.inbox ≡ n.«end».inbox → NodeStandsFor (record { «end» = k; pool = n.pool; acked = n.acked }) (frame_fetched m)
fetches_frame {n} {k} {m} h stands inbox =
    kept_as h stands (account_moved n.pool n.«end» k None inbox h.has.accounts) (reached_on m Fetch tt h.has.reached)
    (fetched_same m).0 (fetched_same m).1

-- ## Refused resets

pub refused_reset : (m : LinkEnd) (window : Option ℕ) (why : ResetRefused) → reset_told m window ≡ Err why → after_input m (Reset window) ≡ m
refused_reset m window why told = grind arith

reset_report : (m : LinkEnd) (window : Option ℕ) → Sound m → reset_refusal m ≡ None
    → record nothing_told { ended = if_up m.shdlc Asked } ≡ told_of (report m (Reset window))
reset_report m window h q = grind arith

pub answered_reset : (m : LinkEnd) (window : Option ℕ) (r : LinkReport) → Sound m → reset_told m window ≡ Ok r → r ≡ told_of (report m (Reset window))
answered_reset m window r h told = grind arith

pub reset_so_kept : {n : Node} {k : Kept} {pool : PoolState} {m after : LinkEnd} → NodeStandsFor n m → IsLeft n k pool after → after ≡ m
    → NodeStandsFor (record { «end» = k; pool = pool; acked = n.acked }) m
reset_so_kept {k} {pool} h left same = kept_as h (rw same at left.stands) (account_left h.has left) h.has.reached refl refl

-- ## Messages that come

nothing_oldest : (ms : List Message) → oldest ms ≡ None → ms ≡ []
nothing_oldest ms p = grind arith

only_oldest : (ms : List Message) (x : Message) → oldest ms ≡ Some x → drop 1 ms ≡ [] → ms ≡ x ∷ []
only_oldest ms x p q = grind arith

-- an end whose messages were fetched has none
fetched_none : (k : Kept) (pool : PoolState) (m : LinkEnd) → EndStandsFor k pool m → k.inbox.got ≡ None → m.got ≡ []
fetched_none k pool m h none = sym h.halfway.got ∙ ap (λ g. messages_of pool (got_chains g)) none

-- the oldest message that came was fetched from the end, where one had come, and lies in these blocks
pub record HasFetched (n : Node) (k : Kept) (m : LinkEnd) (fetched : Option (ℕ × Chain)) : Type 0 where
  pub has : HasInput n m
  pub stands : EndStandsFor k n.pool (turn m FetchMessage)
  pub accounts : Accounts k n.pool (option_map (λ (x : ℕ × Chain). x.1) fetched)
  pub oldest_is : option_map (λ (x : ℕ × Chain). (x.0, chain_bytes n.pool x.1)) fetched ≡ oldest m.got
  pub none_left : k.inbox.got ≡ None

-- nothing came
pub fetches_none : {n : Node} {k : Kept} {m : LinkEnd} {fetched : Option (ℕ × Chain)} (place : Place) (entries : List Entry)
    → HasFetched n k m fetched → fetched ≡ None
    → NodeStandsFor (record { «end» = k; pool = n.pool; acked = n.acked }) (turn m FetchMessage)
    × AreNoted place.at entries entries (map (Got (side_of place.at) place.session) m.got)
fetches_none {n} {k} {m} place entries h none =
    let got = nothing_oldest m.got (sym h.oldest_is ∙ ap (option_map (λ (x : ℕ × Chain). (x.0, chain_bytes n.pool x.1))) none) in
    let reached = reached_on m (FromNode FetchMessage) tt h.has.reached in (
      record {
        has = record { stands = h.stands; accounts = rw none at h.accounts; reached = reached; acked = h.has.acked };
        fetched = ap (drop 1) got;
      },
      sym (ap (λ ms. entries ++ entries_for place.at.link (map (Got (side_of place.at) place.session) ms)) got ∙ append-nil entries),
    )

-- a message came, and its blocks were given back
pub fetches_one : {n : Node} {k : Kept} {m : LinkEnd} {fetched : Option (ℕ × Chain)} {pid : ℕ} {chain : Chain} {pool : PoolState} {message : List ℕ}
    {now : List Entry} (place : Place) (before : List Entry) → HasFetched n k m fetched → fetched ≡ Some (pid, chain) → Gives n.pool pool chain
    → KeepsOthers n.pool pool chain chain → message ≡ chain_bytes n.pool chain
    → now ≡ before ++ entry.Got place.at place.session pid message ∷ []
    → NodeStandsFor (record { «end» = k; pool = pool; acked = n.acked }) (turn m FetchMessage)
    × AreNoted place.at before now (map (Got (side_of place.at) place.session) m.got)
fetches_one {n} {k} {m} {pid} {chain} {pool} place before h one gives keeps is noted =
    let first = sym h.oldest_is ∙ ap (option_map (λ (x : ℕ × Chain). (x.0, chain_bytes n.pool x.1))) one in
    let left = fetched_none k n.pool (turn m FetchMessage) h.stands h.none_left in
    let got = only_oldest m.got (pid, chain_bytes n.pool chain) first left in
    let given = given_own n.pool pool k (turn m FetchMessage) chain h.stands (rw one at h.accounts) gives keeps in
    let reached = reached_on m (FromNode FetchMessage) tt h.has.reached in (
      record {
        has = record { stands = given.0; accounts = given.1; reached = reached; acked = h.has.acked };
        fetched = left;
      },
      noted ∙ ap (λ (bytes : List ℕ). before ++ entry.Got place.at place.session pid bytes ∷ []) is
          ∙ ap (λ (z : End). before ++ entry.Got z place.session pid (chain_bytes n.pool chain) ∷ []) (sym (end_is place.at))
          ∙ sym (ap (λ ms. before ++ entries_for place.at.link (map (Got (side_of place.at) place.session) ms)) got),
    )

-- a message that was fetched is live
pub fetched_live : (k : Kept) (pool : PoolState) (chain : Chain) → Accounts k pool (Some chain) → IsLive pool chain
fetched_live k pool chain a = a.fetched.live

-- a message came with a frame, or none did, and it was fetched
pub with_message : {n fetched : Node} {m : LinkEnd} {c : Control} {place : Place} {before mid now : List Entry}
    → IsReported n m (Take c) place before mid → m.got ≡ []
    → NodeStandsFor fetched (turn (after_input m (Take c)) FetchMessage)
    × AreNoted place.at mid now (map (Got (side_of place.at) place.session) (after_input m (Take c)).got)
    → NodeStandsFor fetched (turn (after_input m (Take c)) FetchMessage)
    × AreNoted place.at before now (told (side_of place.at) place.session (report m (Take c)) (whole_acked (after_input m (Take c))))
with_message {m} {c} {place} {before} d none f =
    let k : ℕ = whole_acked (after_input m (Take c)) in
    let got : (after_input m (Take c)).got ≡ brought m c = took_got m c ∙ ap (λ ms. ms ++ brought m c) none in
    let head : List Entry = reported place.at place.session (told_of (report m (Take c))) k in
    let came : List Message → List Entry = λ ms. entries_for place.at.link (map (Got (side_of place.at) place.session) ms) in (
      f.0,
      f.1 ∙ ap (λ es. es ++ came (after_input m (Take c)).got) d.noted
          ∙ append_assoc before head (came (after_input m (Take c)).got)
          ∙ ap (λ ms. before ++ (head ++ came ms)) got
          ∙ ap (λ es. before ++ es) (sym (told_at place.at place.session k (report m (Take c)))),
    )

pub taken_input : (bytes : List ℕ) (c : Control) → control_of bytes ≡ Ok c → lpdu_input bytes ≡ Take c
taken_input bytes c q = rw q refl

-- what a call leaves of what may be fetched
pub can_fetch : {n : Node} {k : Kept} {pool : PoolState} {m m2 : LinkEnd} {acked : ℕ} {new : Node} → NodeStandsFor n m → IsLeft n k pool m2
    → new ≡ record { «end» = k; pool = pool; acked = acked } → CanFetch new m2
can_fetch {m2} h left is = rw is (record { stands = left.stands; accounts = account_left h.has left })
