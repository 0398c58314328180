-- The message that waits at one place is passed on to the end at another one, or at the same.
use Rattle.std.proofs.lemmas.List.{set-set}
use Rattle.node_ends.proofs.Words.{AreEnds, AreSendable, Bool, Chain, End, Err, FetchMessage, FromNode, Give, HaveOwners, HoldsEnd, IsSendable, List, Machine}
use Rattle.node_ends.proofs.Words.{MayPass, Message, None, Ok, Option, PoolState, Port, Refused, Result, Seat, SendRefused, Some, Waiting, [], after_turn, ap}
use Rattle.node_ends.proofs.Words.{arith, chain_bytes, eqb-true, false, get_or-set_other, get_or-set_same, give_refusal, inl, inr, is_none, kept_number}
use Rattle.node_ends.proofs.Words.{messages_waiting, place_in, port_at, refl, slice_get, slice_get_within, slice_index_or, slice_set, subst, sym, takes_at}
use Rattle.node_ends.proofs.Words.{true, turn, with_port, ℕ, ◌==◌, ◌∙◌, ◌∷◌, ◌≡◌, ◌≢◌, ◌⊎◌}
use Rattle.link_end.specs.Reports.{pass_by, pass_told}
use Rattle.link_end.proofs.AccountLemmas.{may_pass_on, may_send_back}
use Rattle.node_ends.specs.Ends.{got_at}
use Rattle.node_ends.proofs.Changing.{IsPlaced, placed_in, read_at, apart_places, OneChanges, one_changes}
use Rattle.node_ends.proofs.Counting.{reached_on, turn_acked}
use Rattle.node_ends.proofs.Blocks.{give_aside}
use Rattle.node_ends.proofs.Sendable.{got_sendable}
use Rattle.node_ends.proofs.Handing.{Takes, Refuses, GoesOver, GoesBack, taken_over, refused_over, taken_back, refused_back}
use Rattle.node_ends.proofs.PassingOn.{BothChange, both_change, own_places, not_same, twice}

-- ## What waits

pub none_there_is : {X : Type 0} (o : Option X) → ((x : X) → o ≡ Some x → ⊥) → o ≡ None
none_there_is o none = grind arith

-- what came to the end of a host
got_there : (ports : List Port) (h : ℕ) (p : Port) → port_at ports h ≡ Some p → got_at ports h ≡ p.side.got
got_there ports h p is = rw is refl

-- where there is no end, nothing came
pub none_came : (ports : List Port) (h : ℕ) (m : Message) → port_at ports h ≡ None → got_at ports h ≡ m ∷ [] → ⊥
none_came ports h m none got = let z : [] ≡ m ∷ [] = rw none at got in cc

waiting_message : (pool : PoolState) (o : Option Waiting) (w : Waiting) (m : Message) → o ≡ Some w → messages_waiting pool o ≡ m ∷ []
    → (w.pipe, chain_bytes pool w.chain) ≡ m
waiting_message pool o w m is got = grind arith

module _ {pool : PoolState} {seats : List Seat} {ports : List Port} {m : Message} (h i : ℕ) (place : place_in h seats ≡ Some i)
    (e : AreEnds pool seats ports) (got : got_at ports h ≡ m ∷ []) where
  -- the end at the first place
  pub first : IsPlaced pool seats ports i h
  first = placed_in h i place e

  pub first_read : (d : Seat) → slice_index_or seats i d ≡ first.seat
  first_read d = read_at seats i first.seat d first.seat_is

  came : first.port.side.got ≡ m ∷ []
  came = sym (got_there ports h first.port first.port_is) ∙ got

  pub one_waits : (d : Seat) → (slice_index_or seats i d).waiting ≡ None → ⊥
  one_waits d none =
      let none_here : first.seat.waiting ≡ None = ap (λ (s : Seat). s.waiting) (sym (first_read d)) ∙ none in
      let z : [] ≡ m ∷ [] = sym (ap (messages_waiting pool) none_here) ∙ (sym first.stands.holds.waits ∙ came) in
      cc

  pub message_is : (d : Seat) (w : Waiting) → (slice_index_or seats i d).waiting ≡ Some w → (w.pipe, chain_bytes pool w.chain) ≡ m
  message_is d w is =
      waiting_message pool first.seat.waiting w m (ap (λ (s : Seat). s.waiting) (sym (first_read d)) ∙ is) (sym first.stands.holds.waits ∙ came)

  pub may_be_sent : IsSendable m
  may_be_sent = (subst AreSendable came (got_sendable first.port.side first.stands.reached)).0

  pub first_holds : (d : Seat) (w : Waiting) → (slice_index_or seats i d).waiting ≡ Some w → HoldsEnd pool first.seat.side (Some w) first.port.side
  first_holds d w is =
      subst (λ o. HoldsEnd pool first.seat.side o first.port.side) (ap (λ (s : Seat). s.waiting) (sym (first_read d)) ∙ is) first.stands.holds

  module _ (k j : ℕ) (place2 : place_in k seats ≡ Some j) where
    -- the end at the second one
    pub second : IsPlaced pool seats ports j k
    second = placed_in k j place2 e

    pub same_end : i ≡ j → first.seat ≡ second.seat
    same_end same = grind arith

    pub two_owners : i ≢ j → HaveOwners first.seat.side second.seat.side
    two_owners differ =
        let a = own_places i seats first.seat first.seat_is e.owners in
        let b = own_places j seats second.seat second.seat_is e.owners in
        apart_places first.seat.side second.seat.side i j a.0 a.1 b.0 b.1 differ

    -- what is read there, once the message was taken
    pub then_read_same : (t d : Seat) → i ≡ j → slice_index_or (slice_set seats i t) j d ≡ t
    then_read_same t d same =
        let P : ℕ → Type 0 = λ n. slice_index_or (slice_set seats i t) n d ≡ t in
        subst P same (get_or-set_same seats i t d (slice_get_within seats i first.seat first.seat_is))

    pub then_read_other : (t d : Seat) → i ≢ j → slice_index_or (slice_set seats i t) j d ≡ second.seat
    then_read_other t d differ = get_or-set_other seats i j t d (λ q. differ (sym q)) ∙ read_at seats j second.seat d second.seat_is

    pub then_side : (t d : Seat) → t.side ≡ first.seat.side → (slice_index_or (slice_set seats i t) j d).side ≡ second.seat.side
    then_side t d side = by (i == j) refl
      where
        by : (b : Bool) → (i == j) ≡ b → (slice_index_or (slice_set seats i t) j d).side ≡ second.seat.side
        by true q =
            let same = eqb-true i j q in
            ap (λ (s : Seat). s.side) (then_read_same t d same) ∙ (side ∙ ap (λ (s : Seat). s.side) (same_end same))
        by false q = ap (λ (s : Seat). s.side) (then_read_other t d (not_same i j q))

    -- the chain may be passed to that end
    pub may_pass : (d : Seat) (w : Waiting) → (slice_index_or seats i d).waiting ≡ Some w → MayPass pool second.seat.side w.chain
    may_pass d w is = by (i == j) refl
      where
        h1 : HoldsEnd pool first.seat.side (Some w) first.port.side
        h1 = first_holds d w is

        by : (b : Bool) → (i == j) ≡ b → MayPass pool second.seat.side w.chain
        by true q =
            subst (λ s. MayPass pool s.side w.chain) (same_end (eqb-true i j q)) (may_send_back pool first.seat.side _ w.chain h1.stands h1.accounts)
        by false q =
            may_pass_on pool first.seat.side second.seat.side _ _ w.chain h1.stands h1.accounts (two_owners (not_same i j q))
            second.stands.holds.stands

-- ## The message goes over

pub record Relays (old new : PoolState) (a b : Seat) (m : Message) (w : Waiting) (t : End) : Type 0 where
  pub over : HaveOwners a.side b.side → GoesOver old new a.side b.side t m w
  pub back : a ≡ b → GoesBack old new a.side t m w

relayed_over : {old new : PoolState} {a b : Seat} {m : Message} {w : Waiting} {t : End} → a.waiting ≡ Some w → IsSendable m
    → GoesOver old new a.side b.side t m w
    → BothChange old new (after_turn FetchMessage) (after_turn (Give m)) a b (record a { waiting = None }) (record b { side = t })
relayed_over {old} {new} {a} {b} {m} {w} {t} is sendable o = record {
  one = λ p g. record {
    holds = (let P : Option Waiting → Type 0 = λ x. HoldsEnd old a.side x p.side in o.gives p.side (subst P is g.holds));
    desk = g.desk;
    late = g.late;
    ended = g.ended;
    reached = reached_on p.side (FromNode FetchMessage) tt g.reached;
    acked = g.acked;
    aside = g.aside;
    sound = g.sound;
  };
  other = λ p g. record {
    holds = o.takes b.waiting p.side g.holds;
    desk = g.desk;
    late = g.late;
    ended = g.ended;
    reached = reached_on p.side (FromNode (Give m)) (sendable, tt) g.reached;
    acked = g.acked ∙ ap kept_number (sym (turn_acked p.side (Give m) (sendable, tt) g.reached));
    aside = g.aside ∙ sym (give_aside p.side m);
    sound = g.sound;
  };
  beside = o.beside;
  first = record { sender = refl; receiver = refl; host = refl };
  second = record { sender = o.sender; receiver = o.receiver; host = refl };
  keeps = λ p. refl;
}

relayed_back : {old new : PoolState} {a : Seat} {m : Message} {w : Waiting} {t : End} → a.waiting ≡ Some w → IsSendable m
    → GoesBack old new a.side t m w
    → OneChanges old new a.desk.host (λ p. after_turn (Give m) (after_turn FetchMessage p)) a (record a { side = t; waiting = None })
relayed_back {old} {new} {a} {m} {w} {t} is sendable o = record {
  before = refl;
  after = refl;
  moves = o.moves;
  stands = λ p g.
      let f : Machine = turn p.side FetchMessage in
      let reached = reached_on p.side (FromNode FetchMessage) tt g.reached in
      record {
        holds = (let P : Option Waiting → Type 0 = λ x. HoldsEnd old a.side x p.side in o.stands p.side (subst P is g.holds));
        desk = g.desk;
        late = g.late;
        ended = g.ended;
        reached = reached_on f (FromNode (Give m)) (sendable, tt) reached;
        acked = g.acked ∙ ap kept_number (sym (turn_acked f (Give m) (sendable, tt) reached));
        aside = g.aside ∙ sym (give_aside f m);
        sound = g.sound;
      };
}

-- the ends of a node after a message was passed on
pub relayed : {old new : PoolState} {seats : List Seat} {h i k j : ℕ} {m : Message} {w : Waiting} (ports : List Port) (a b t u d : Seat)
    → place_in h seats ≡ Some i → place_in k seats ≡ Some j → AreEnds old seats ports → slice_get seats i ≡ Some a → slice_get seats j ≡ Some b
    → a.desk.host ≡ h → b.desk.host ≡ k → a.waiting ≡ Some w → IsSendable m → t ≡ record a { waiting = None }
    → u ≡ record (slice_index_or (slice_set seats i t) j d) { side = u.side } → Relays old new a b m w u.side
    → AreEnds new (slice_set (slice_set seats i t) j u) (with_port k (after_turn (Give m)) (with_port h (after_turn FetchMessage) ports))
relayed {old} {new} {seats} {h} {i} {k} {j} {m} {w} ports a b t u d place place2 e at there host host2 is sendable gone side r = by (i == j) refl
  where
    by : (v : Bool) → (i == j) ≡ v
        → AreEnds new (slice_set (slice_set seats i t) j u) (with_port k (after_turn (Give m)) (with_port h (after_turn FetchMessage) ports))
    by true q =
        let same : i ≡ j = eqb-true i j q in
        let b_at : slice_get seats i ≡ Some b = subst (λ n. slice_get seats n ≡ Some b) (sym same) there in
        let z : Some a ≡ Some b = sym at ∙ b_at in
        let a_is : a ≡ b = cc in
        let hosts : h ≡ k = sym host ∙ (ap (λ (s : Seat). s.desk.host) a_is ∙ host2) in
        let inside = slice_get_within seats i a at in
        let read : slice_index_or (slice_set seats i t) j d ≡ t = subst (λ n. slice_index_or (slice_set seats i t) n d ≡ t) same
        (get_or-set_same seats i t d inside) in
        let f : Port → Port = λ p. after_turn (Give m) (after_turn FetchMessage p) in
        let v : Seat = record a { side = u.side; waiting = None } in
        let u_is : u ≡ v = side ∙ ap (λ (s : Seat). record s { side = u.side }) (read ∙ gone) in
        let one = one_changes (relayed_back is sendable (r.back a_is)) i seats ports at e in
        let A : ℕ → Type 0 = λ n. AreEnds new (slice_set seats i v) (with_port n f ports) in
        let B : List Port → Type 0 = λ l. AreEnds new (slice_set seats i v) l in
        let C : Seat → Type 0 = λ x. AreEnds new (slice_set seats i x) (with_port h (after_turn (Give m)) (with_port h (after_turn FetchMessage) ports)) in
        let D : List Seat → Type 0 = λ l. AreEnds new l (with_port h (after_turn (Give m)) (with_port h (after_turn FetchMessage) ports)) in
        let E : ℕ → Type 0 = λ n. AreEnds new (slice_set (slice_set seats i t) n u)
        (with_port h (after_turn (Give m)) (with_port h (after_turn FetchMessage) ports)) in
        let F : ℕ → Type 0 = λ n. AreEnds new (slice_set (slice_set seats i t) j u)
        (with_port n (after_turn (Give m)) (with_port h (after_turn FetchMessage) ports)) in
        subst F hosts (subst E same (subst D (sym (set-set seats i t u)) (subst C (sym u_is)
        (subst B (twice h (after_turn FetchMessage) (after_turn (Give m)) (λ p. refl) ports) (subst A host one)))))
    by false q =
        let differ : i ≢ j = not_same i j q in
        let own = own_places i seats a at e.owners in
        let their = own_places j seats b there e.owners in
        let owners = apart_places a.side b.side i j own.0 own.1 their.0 their.1 differ in
        let read : slice_index_or (slice_set seats i t) j d ≡ b = get_or-set_other seats i j t d (λ z. differ (sym z)) ∙ read_at seats j b d there in
        let u_is : u ≡ record b { side = u.side } = side ∙ ap (λ (s : Seat). record s { side = u.side }) read in
        let both = both_change (relayed_over is sendable (r.over owners)) i j seats ports at there differ e in
        let A : ℕ → Type 0 = λ n. AreEnds new (slice_set (slice_set seats i (record a { waiting = None })) j (record b { side = u.side }))
        (with_port b.desk.host (after_turn (Give m)) (with_port n (after_turn FetchMessage) ports)) in
        let B : ℕ → Type 0 = λ n. AreEnds new (slice_set (slice_set seats i (record a { waiting = None })) j (record b { side = u.side }))
        (with_port n (after_turn (Give m)) (with_port h (after_turn FetchMessage) ports)) in
        let C : Seat → Type 0 = λ x. AreEnds new (slice_set (slice_set seats i x) j (record b { side = u.side }))
        (with_port k (after_turn (Give m)) (with_port h (after_turn FetchMessage) ports)) in
        let D : Seat → Type 0 = λ x. AreEnds new (slice_set (slice_set seats i t) j x)
        (with_port k (after_turn (Give m)) (with_port h (after_turn FetchMessage) ports)) in
        subst D (sym u_is) (subst C (sym gone) (subst B host2 (subst A host both)))

-- an end took the chain or didn't
abbrev pub Hands : PoolState → PoolState → End → End → Message → Chain → Type 0
Hands old new to after x chain = Takes old new to after x chain ⊎ Refuses old new to after x chain

over_by : {old new : PoolState} {from to after : End} {x : Message} {w : Waiting} {m n : Machine} {waiting : Option Waiting}
    → HoldsEnd old from (Some w) m → HoldsEnd old to waiting n → Hands old new to after x w.chain → HaveOwners from to
    → GoesOver old new from to after x w
over_by h s (inl t) differ = taken_over h s differ t
over_by h s (inr r) differ = refused_over h differ r

back_by : {old new : PoolState} {k after : End} {x : Message} {w : Waiting} {n : Machine} → HoldsEnd old k (Some w) n
    → Hands old new k after x w.chain → GoesBack old new k after x w
back_by h (inl t) = taken_back h t
back_by h (inr r) = refused_back h r

-- The message was taken from the first place, and its chain given to the end at the second one.
pub handed : {old new : PoolState} {seats : List Seat} {ports : List Port} {m : Message} (h i k j : ℕ) (place : place_in h seats ≡ Some i)
    (place2 : place_in k seats ≡ Some j) (e : AreEnds old seats ports) (got : got_at ports h ≡ m ∷ []) (c d : Seat) (gone : Option Waiting) (w : Waiting)
    (after : End) → (slice_index_or seats i c).waiting ≡ Some w → gone ≡ None
    → Hands old new (slice_index_or (slice_set seats i (record (slice_index_or seats i c) { waiting = gone })) j d).side after
    (w.pipe, chain_bytes old w.chain) w.chain
    → AreEnds new (slice_set (slice_set seats i (record (slice_index_or seats i c) { waiting = gone })) j
    (record (slice_index_or (slice_set seats i (record (slice_index_or seats i c) { waiting = gone })) j d) { side = after }))
    (with_port k (after_turn (Give m)) (with_port h (after_turn FetchMessage) ports))
handed {old} {new} {seats} {ports} {m} h i k j place place2 e got c d gone w after is none hands =
    let t : Seat = record (slice_index_or seats i c) { waiting = gone } in
    let u : Seat = record (slice_index_or (slice_set seats i t) j d) { side = after } in
    let f = first h i place e got in
    let s = second h i place e got k j place2 in
    let holds = first_holds h i place e got c w is in
    let read = first_read h i place e got c in
    let side = then_side h i place e got k j place2 t d (ap (λ (x : Seat). x.side) read) in
    let P : Message → Type 0 = λ x. Hands old new s.seat.side after x w.chain in
    let Q : End → Type 0 = λ l. Hands old new l after (w.pipe, chain_bytes old w.chain) w.chain in
    let there : P m = subst P (message_is h i place e got c w is) (subst Q side hands) in
    relayed {w = w} ports f.seat s.seat t u d place place2 e f.seat_is s.seat_is f.host s.host (ap (λ (x : Seat). x.waiting) (sym read) ∙ is)
    (may_be_sent h i place e got) (grind arith) refl (record {
      over = over_by holds s.stands.holds there;
      back = λ same.
          back_by holds (subst (λ x. Hands old new x.side after m w.chain) (sym same) there);
    })

-- ## What is told

-- an end takes a message or not, whether or not a message waits there
pub takes_still : (m : Message) (h k : ℕ) (ports : List Port) → takes_at m (port_at ports k)
    ≡ takes_at m (port_at (with_port h (after_turn FetchMessage) ports) k)
takes_still m h k [] = refl
takes_still m h k (p ∷ ports) = by (p.desk.host == h) (p.desk.host == k) refl refl (takes_still m h k ports)
  where
    by : (a b : Bool) → (p.desk.host == h) ≡ a → (p.desk.host == k) ≡ b
        → takes_at m (port_at ports k) ≡ takes_at m (port_at (with_port h (after_turn FetchMessage) ports) k)
        → takes_at m (port_at (p ∷ ports) k) ≡ takes_at m (port_at (with_port h (after_turn FetchMessage) (p ∷ ports)) k)
    by a b q r later = grind arith

passed_none : (chain : Chain) (o : Option Refused) → pass_by chain o ≡ Ok tt → true ≡ is_none o
passed_none chain o e = grind arith

passed_some : (chain : Chain) (o : Option Refused) (x : Chain × SendRefused) → pass_by chain o ≡ Err x → false ≡ is_none o
passed_some chain o x e = grind arith

pub told_passed : {r : Result (Unit {0}) (Chain × SendRefused)} (n : Machine) (m : Message) (chain : Chain) → r ≡ Ok tt → r ≡ pass_told n m chain
    → true ≡ is_none (give_refusal n m)
told_passed n m chain is told = passed_none chain (give_refusal n m) (sym told ∙ is)

pub told_back : {r : Result (Unit {0}) (Chain × SendRefused)} {x : Chain × SendRefused} (n : Machine) (m : Message) (chain : Chain) → r ≡ Err x
    → r ≡ pass_told n m chain → false ≡ is_none (give_refusal n m)
told_back {x = x} n m chain is told = passed_some chain (give_refusal n m) x (sym told ∙ is)
