-- What the ends of a node show is what is kept of them.
use Rattle.node_ends.proofs.Words.{AreEnds, EndsStandFor, KeptEnds, List, PoolState, Port, Seat, ap, drop, length, subst, sym, take, take-append_seam, ℕ, ◌++◌}
use Rattle.node_ends.proofs.Words.{◌∙◌, ◌≡◌}

pub opened : {kept shown : KeptEnds} {ports : List Port} → kept ≡ shown → EndsStandFor shown ports → EndsStandFor kept ports
opened {ports = ports} is e = let P : KeptEnds → Type 0 = λ k. EndsStandFor k ports in subst P (sym is) e

-- where nothing of them was written, they show the same
pub kept_so : {kept shown : KeptEnds} {before after : List Port} → kept ≡ shown → EndsStandFor shown before
    → (EndsStandFor kept before → EndsStandFor kept after) → EndsStandFor shown after
kept_so {after = after} is e on = let P : KeptEnds → Type 0 = λ k. EndsStandFor k after in subst P is (on (opened is e))

-- the ends are lent as a slice, and what was written through it is in them
pub lent : {pool : PoolState} {slice seats : List Seat} {ports : List Port} → slice ≡ seats → AreEnds pool seats ports → AreEnds pool slice ports
lent {pool} {ports = ports} is e = let P : List Seat → Type 0 = λ l. AreEnds pool l ports in subst P (sym is) e

pub written : {pool : PoolState} {new : List Seat} {ports : List Port} {len : ℕ} (old : List Seat) → len ≡ length new → AreEnds pool new ports
    → AreEnds pool (take len (new ++ drop (length new) old)) ports
written {pool} {new} {ports} old is e =
    let rest : List Seat = drop (length new) old in
    subst (λ l. AreEnds pool l ports) (sym (ap (λ n. take n (new ++ rest)) is ∙ take-append_seam new rest)) e
