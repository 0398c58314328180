-- The chains that a joiner keeps in a pool, and the messages under way that they stand for.
use Rattle.std.specs.Prelude.{◌≡◌, ◌≢◌, ℕ, ◌≤◌, List, [], ◌∷◌, ◌++◌, length, map}
use Rattle.std.specs.List.{sum_by, AllByRecursion}
use Rattle.block_pool.specs.declared.chain.Chain.{Chain}
use Rattle.block_pool.specs.Slots.{blocks_for}
use Rattle.block_pool.specs.Pool.{PoolState, HasQuota, quota_of, used_of, IsLive, IsApart, chain_bytes}
use Rattle.hcp_chain.specs.declared.joiner.Open.{Open}
use Rattle.hcp_chain.specs.declared.joiner.Joiner.{Joiner}
use Rattle.hcp_chain.specs.declared.joiner.Joined.{Joined}
use Rattle.hcp_chain.specs.declared.joiner.Joined.TheVariants.{More, Whole, Fault}
use Rattle.hcp_chain.specs.declared.joiner.ChainFault.TheVariants.{TooManyChains, MessageTooLong}
use Rattle.hcp_chain.specs.Joining.{JoinOutcome, Nothing, Message, Fifth, Long}

-- the message that a chain is under way
abbrev pub message_of : PoolState → Open → ℕ × List ℕ
message_of pool open_chain = (open_chain.pipe, chain_bytes pool open_chain.chain)

abbrev pub messages_in : PoolState → List Open → List (ℕ × List ℕ)
messages_in pool chains = map (message_of pool) chains

-- the messages under way at a joiner
abbrev pub open_messages : PoolState → Joiner → List (ℕ × List ℕ)
open_messages pool joiner = messages_in pool joiner.open.items

-- a live chain of the owner, with no more bytes than a message has
pub record IsOwnOpen (pool : PoolState) (owner : ℕ) (open_chain : Open) : Type 0 where
  pub live : IsLive pool open_chain.chain
  pub owned : open_chain.chain.owner ≡ owner
  pub short : length (chain_bytes pool open_chain.chain) ≤ 4096

-- two chains of two pipes, in two places of a pool
pub record AreApart (one other : Open) : Type 0 where
  pub pipes : one.pipe ≢ other.pipe
  pub chains : IsApart one.chain other.chain

abbrev pub ArePairwiseApart : List Open → Type 0
ArePairwiseApart [] = Unit {0}
ArePairwiseApart (x ∷ xs) = AllByRecursion (AreApart x) xs × ArePairwiseApart xs

-- what a joiner keeps lies in the pool
pub record HoldsChains (pool : PoolState) (owner : ℕ) (chains : List Open) : Type 0 where
  pub own : AllByRecursion (IsOwnOpen pool owner) chains
  pub apart : ArePairwiseApart chains

-- how many blocks some chains use
abbrev pub held_blocks : PoolState → List Open → ℕ
held_blocks pool chains = sum_by (λ x. blocks_for (length (chain_bytes pool x.chain))) chains

-- A joiner can take a packet: its owner has 512 blocks and uses none but those of the chains under way.
pub record IsJoinerReady (pool : PoolState) (joiner : Joiner) : Type 0 where
  pub holds : HoldsChains pool joiner.owner joiner.open.items
  pub has_quota : HasQuota pool joiner.owner
  pub quota : quota_of pool joiner.owner ≡ 512
  pub used : used_of pool joiner.owner ≡ held_blocks pool joiner.open.items

-- A joiner that gave this message has its chain still counted beside those under way.
pub record HoldsWhole (pool : PoolState) (joiner : Joiner) (whole : Open) : Type 0 where
  pub holds : HoldsChains pool joiner.owner (joiner.open.items ++ whole ∷ [])
  pub has_quota : HasQuota pool joiner.owner
  pub quota : quota_of pool joiner.owner ≡ 512
  pub used : used_of pool joiner.owner ≡ held_blocks pool (joiner.open.items ++ whole ∷ [])

-- a chain lies apart from some chains
abbrev pub IsApartFrom : List Open → Chain → Type 0
IsApartFrom chains other = AllByRecursion (λ x. IsApart other x.chain) chains

-- A call took a joiner's chains from `before` to `after`: it changed no other live chain.
abbrev pub KeepsOtherChains : PoolState → PoolState → List Open → List Open → Type 0
KeepsOtherChains old new before after =
    (other : Chain) → IsLive old other → IsApartFrom before other
    → IsLive new other × (chain_bytes new other ≡ chain_bytes old other) × IsApartFrom after other

-- the chain that a packet made whole
abbrev pub whole_in : Joined → List Open
whole_in More = []
whole_in (Whole pipe chain) = record { pipe = pipe; chain = chain } ∷ []
whole_in (Fault fault) = []

-- the answer says what came of the packet
abbrev pub AnswersOutcome : PoolState → Joined → JoinOutcome → Type 0
AnswersOutcome pool More outcome = outcome ≡ Nothing
AnswersOutcome pool (Whole pipe chain) outcome = outcome ≡ Message pipe (chain_bytes pool chain)
AnswersOutcome pool (Fault (TooManyChains pipe)) outcome = outcome ≡ Fifth pipe
AnswersOutcome pool (Fault (MessageTooLong len)) outcome = outcome ≡ Long len
