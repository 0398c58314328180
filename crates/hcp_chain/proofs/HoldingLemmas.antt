-- Chains of messages under way: one taken out, one put behind, and a pool that changed elsewhere.
use Rattle.std.proofs.Common.{get_or, suc, zero}
use Rattle.std.proofs.lemmas.Bool.{eq-eqb, ne_eqb}
use Rattle.std.specs.Prelude.{remove}
use Rattle.std.specs.List.{prefix_len}
use Rattle.std.proofs.lemmas.List.{length-map}
use Rattle.std.proofs.lemmas.List.Sums.{sum_by-remove}
use Rattle.std.proofs.lemmas.List.Quantifiers.{position-Some}
use Rattle.std.proofs.lemmas.Option.{none-some}
use Rattle.hcp_chain.proofs.Words.{AllByRecursion, Bool, Chain, HasQuota, IsApart, Joiner, List, None, Open, PoolState, Some, [], ap, arith, blocks_for}
use Rattle.hcp_chain.proofs.Words.{chain_bytes, common_steps, cond, eqb, false, leb, length, ltb, not, position, refl, subst, sym, true, ℕ, ◌&&◌, ◌++◌, ◌+◌}
use Rattle.hcp_chain.proofs.Words.{◌<◌, ◌∙◌, ◌∷◌, ◌≡◌, ◌≢◌, ◌≤◌}
use Rattle.block_pool.specs.Names.{named_bytes, IsLiveAt}
use Rattle.block_pool.specs.Pool.{IsEmptyChain}
use Rattle.hcp_chain.specs.TakingOut.{TakesOut}
use Rattle.hcp_chain.specs.Joining.{is_message_open, so_far, others, is_fifth}
use Rattle.hcp_chain.specs.Holding.{message_of, messages_in, IsOwnOpen, AreApart, ArePairwiseApart, HoldsChains, held_blocks, IsApartFrom}

eqb_is : (a b : ℕ) → eqb a b ≡ true → a ≡ b
eqb_is a b e = grind (arith, common_steps)

-- ---- lists

all_at : (P : Open → Type 0) (d : Open) (xs : List Open) (i : ℕ) → AllByRecursion P xs → i < length xs → P (get_or xs i d)
all_at P d [] i all low = absurd (omega arith)
all_at P d (x ∷ xs) zero all low = all.0
all_at P d (x ∷ xs) (suc i) all low = all_at P d xs i all.1 (omega arith)

pub all_push : (P : Open → Type 0) (xs : List Open) (y : Open) → AllByRecursion P xs → P y → AllByRecursion P (xs ++ y ∷ [])
all_push P [] y all here = (here, tt)
all_push P (x ∷ xs) y all here = (all.0, all_push P xs y all.1 here)

pub all_front : (P : Open → Type 0) (xs : List Open) (y : Open) → AllByRecursion P (xs ++ y ∷ []) → AllByRecursion P xs × P y
all_front P [] y all = (tt, all.0)
all_front P (x ∷ xs) y all = let rest = all_front P xs y all.1 in ((all.0, rest.0), rest.1)

pub all_map : (P Q : Open → Type 0) (xs : List Open) → ((x : Open) → P x → Q x) → AllByRecursion P xs → AllByRecursion Q xs
all_map P Q [] f all = tt
all_map P Q (x ∷ xs) f all = (f x all.0, all_map P Q xs f all.1)

pub all_both : (P Q : Open → Type 0) (xs : List Open) → AllByRecursion P xs → AllByRecursion Q xs → AllByRecursion (λ x. P x × Q x) xs
all_both P Q [] p q = tt
all_both P Q (x ∷ xs) p q = ((p.0, q.0), all_both P Q xs p.1 q.1)

-- ---- apart

turned : (x y : Open) → AreApart x y → AreApart y x
turned x y a = record { pipes = λ e. a.pipes (sym e); chains = λ first p q. a.chains first q p }

pub apart_at : (d : Open) (xs : List Open) (i : ℕ) → ArePairwiseApart xs → i < length xs → AllByRecursion (AreApart (get_or xs i d)) (remove xs i)
apart_at d [] i apart low = absurd (omega arith)
apart_at d (x ∷ xs) zero apart low = apart.0
apart_at d (x ∷ xs) (suc i) apart low = (turned x (get_or xs i d) (all_at (AreApart x) d xs i apart.0 (omega arith)), apart_at d xs i apart.1 (omega arith))

pub apart_push : (xs : List Open) (y : Open) → ArePairwiseApart xs → AllByRecursion (AreApart y) xs → ArePairwiseApart (xs ++ y ∷ [])
apart_push [] y apart here = (tt, tt)
apart_push (x ∷ xs) y apart here = (all_push (AreApart x) xs y apart.0 (turned y x here.0), apart_push xs y apart.1 here.1)

pub apart_front : (xs : List Open) (y : Open) → ArePairwiseApart (xs ++ y ∷ []) → ArePairwiseApart xs × AllByRecursion (λ x. AreApart x y) xs
apart_front [] y apart = (tt, tt)
apart_front (x ∷ xs) y apart =
    let rest = apart_front xs y apart.1 in
    let here = all_front (AreApart x) xs y apart.0 in
    ((here.0, rest.0), (here.1, rest.1))

-- ---- messages of other pipes

-- no chain has the pipe
none_open : (pool : PoolState) (pipe : ℕ) (xs : List Open) → AllByRecursion (λ x. x.pipe ≢ pipe) xs
    → (is_message_open (messages_in pool xs) pipe ≡ false) × (so_far (messages_in pool xs) pipe ≡ [])
    × (others (messages_in pool xs) pipe ≡ messages_in pool xs)
none_open pool pipe [] all = (refl, refl, refl)
none_open pool pipe (x ∷ xs) all =
    let no = ne_eqb x.pipe pipe all.0 in
    let rest = none_open pool pipe xs all.1 in grind arith

-- the chain at a place has the pipe
pub one_open : (pool : PoolState) (pipe : ℕ) (d : Open) (xs : List Open) (i : ℕ) → ArePairwiseApart xs → i < length xs → (get_or xs i d).pipe ≡ pipe
    → (is_message_open (messages_in pool xs) pipe ≡ true) × (so_far (messages_in pool xs) pipe ≡ chain_bytes pool (get_or xs i d).chain)
    × (others (messages_in pool xs) pipe ≡ messages_in pool (remove xs i))
one_open pool pipe d [] i apart low at = absurd (omega arith)
one_open pool pipe d (x ∷ xs) zero apart low at =
    let yes = eq-eqb x.pipe pipe at in
    let rest = none_open pool pipe xs (all_map (AreApart x) (λ y. y.pipe ≢ pipe) xs (λ y a e. a.pipes (at ∙ sym e)) apart.0) in grind arith
one_open pool pipe d (x ∷ xs) (suc i) apart low at =
    let differs : x.pipe ≢ pipe = λ e. (all_at (AreApart x) d xs i apart.0 (omega arith)).pipes (e ∙ sym at) in
    let no = ne_eqb x.pipe pipe differs in
    let rest = one_open pool pipe d xs i apart.1 (omega arith) at in grind arith

-- a search for the pipe that finds none
none_far : (pipe : ℕ) (xs : List Open) → length xs ≤ prefix_len (λ x. not (eqb x.pipe pipe)) xs → AllByRecursion (λ x. x.pipe ≢ pipe) xs
none_far pipe [] far = tt
none_far pipe (x ∷ xs) far = by_pipe (eqb x.pipe pipe) refl far (λ f. none_far pipe xs f)
  where
    by_pipe : (b : Bool) → eqb x.pipe pipe ≡ b → suc (length xs) ≤ cond (not b) (1 + prefix_len (λ x. not (eqb x.pipe pipe)) xs) 0
        → (length xs ≤ prefix_len (λ x. not (eqb x.pipe pipe)) xs → AllByRecursion (λ x. x.pipe ≢ pipe) xs)
        → AllByRecursion (λ x. x.pipe ≢ pipe) (x ∷ xs)
    by_pipe b e far rest = grind arith

none_is : (n len : ℕ) → cond (ltb n len) (Some n) None ≡ None → len ≤ n
none_is n len e = grind arith

pub found_none : (pipe : ℕ) (xs : List Open) → position (λ x. eqb x.pipe pipe) xs ≡ None → AllByRecursion (λ x. x.pipe ≢ pipe) xs
found_none pipe xs e = none_far pipe xs (none_is (prefix_len (λ x. not (eqb x.pipe pipe)) xs) (length xs) e)

-- ---- taking out

length-messages : (pool : PoolState) (xs : List Open) → length (messages_in pool xs) ≡ length xs
length-messages pool xs = length-map xs (message_of pool)

-- a chain is under way on the pipe
pub taken_out : {pool : PoolState} {old new : Joiner} {pipe i : ℕ} {x : Open} → HoldsChains pool old.owner old.open.items
    → position (λ y. eqb y.pipe pipe) old.open.items ≡ Some i → x ≡ get_or old.open.items i x → new.owner ≡ old.owner
    → new.open.items ≡ remove old.open.items i → length new.open.items < 4 → TakesOut pool old new pipe x.chain
taken_out {pool} {old} {new} {pipe} {i} {x} holds found read owner items room =
    let xs = old.open.items in
    let at = position-Some (λ y. eqb y.pipe pipe) xs i x found in
    let low = at.0 in
    let pipe_is : (get_or xs i x).pipe ≡ pipe = eqb_is (get_or xs i x).pipe pipe at.1 in
    let one = one_open pool pipe x xs i holds.apart low pipe_is in
    let own = all_at (IsOwnOpen pool old.owner) x xs i holds.own low in
    let own_x : IsOwnOpen pool old.owner x = subst (IsOwnOpen pool old.owner) (sym read) own in
    let apart = apart_at x xs i holds.apart low in
    record {
      bytes = ap (λ y. chain_bytes pool y.chain) read ∙ sym one.1;
      rest = ap (messages_in pool) items ∙ sym one.2;
      room = room;
      live = own_x.live;
      owned = own_x.owned;
      short = own_x.short;
      apart = subst (AllByRecursion (λ y. (y.pipe ≢ pipe) × IsApart y.chain x.chain)) (sym items)
          (all_map (AreApart (get_or xs i x)) (λ y. (y.pipe ≢ pipe) × IsApart y.chain x.chain) (remove xs i)
          (λ y a. (λ e. a.pipes (pipe_is ∙ sym e), λ first p q. a.chains first (ap (λ z. z.chain.first) (sym read) ∙ q) p)) apart);
      holds = subst (HoldsChains pool new.owner) (sym items) (grind arith);
      blocks =
          (let sum = sum_by-remove (λ (y : Open). blocks_for (length (chain_bytes pool y.chain))) xs i x low in
          let here : blocks_for (length (chain_bytes pool x.chain)) ≡ blocks_for (length (chain_bytes pool (get_or xs i x).chain)) = grind arith in
          ap (λ ys. blocks_for (length (chain_bytes pool x.chain)) + held_blocks pool ys) items ∙ omega (arith, sum, here));
      outside = λ other away. (grind arith);
    }

-- none is, and there is room
pub begun : {pool : PoolState} {old new : Joiner} {pipe : ℕ} {chain : Chain} → HoldsChains pool old.owner old.open.items → HasQuota pool old.owner
    → position (λ y. eqb y.pipe pipe) old.open.items ≡ None → new.owner ≡ old.owner → new.open.items ≡ old.open.items → length old.open.items < 4
    → IsEmptyChain old.owner chain → TakesOut pool old new pipe chain
begun {pool} {old} {new} {pipe} {chain} holds quota found owner items room empty_chain =
    let owned = empty_chain.0 in
    let empty = empty_chain.1 in
    let xs = old.open.items in
    let away = found_none pipe xs found in
    let none = none_open pool pipe xs away in
    let no_bytes : chain_bytes pool chain ≡ [] = ap (named_bytes pool.slots) empty in
    record {
      bytes = no_bytes ∙ sym none.1;
      rest = ap (messages_in pool) items ∙ sym none.2;
      room = subst (λ ys. length ys < 4) (sym items) room;
      live = (subst (λ o. o < length pool.owners) (sym owned) quota, subst (IsLiveAt pool.slots chain.owner) (sym empty) tt);
      owned = owned;
      short = omega (arith, ap length no_bytes);
      apart = subst (AllByRecursion (λ y. (y.pipe ≢ pipe) × IsApart y.chain chain)) (sym items)
          (all_map (λ y. y.pipe ≢ pipe) (λ y. (y.pipe ≢ pipe) × IsApart y.chain chain) xs (λ y a. (a, λ first p q. none-some first (sym empty ∙ q))) away);
      holds = subst (HoldsChains pool new.owner) (sym items) (subst (λ o. HoldsChains pool o xs) (sym owner) holds);
      blocks = grind arith;
      outside = λ other apart. (λ first p q. none-some first (sym empty ∙ q), subst (λ ys. IsApartFrom ys other) (sym items) apart);
    }

pub fifth_not_found : (pool : PoolState) (pipe : ℕ) (xs : List Open) → position (λ y. eqb y.pipe pipe) xs ≡ None
    → is_fifth (messages_in pool xs) pipe ≡ leb 4 (length xs)
fifth_not_found pool pipe xs found =
    let none = none_open pool pipe xs (found_none pipe xs found) in
    ap (λ b. not b && leb 4 (length (messages_in pool xs))) none.0 ∙ ap (leb 4) (length-messages pool xs)
