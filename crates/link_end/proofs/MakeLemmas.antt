-- A new end of a link.
use Rattle.link_end.proofs.Words.{End, EndStandsFor, HoldsChains, IsFree, List, Open, PoolState, ShdlcStandsFor, [], arith, chains_in, got_chains, new_link_end}
use Rattle.link_end.proofs.Words.{new_role, refl, role_of, subst, ℕ, ◌++◌, ◌∷◌, ◌≡◌}
use Rattle.circular_buffer.specs.Buffer.{buffer}
use Rattle.swp_base.specs.declared.link_terms.Role.{Role as Named}

none_in : (xs ys : List Open) → xs ++ ys ≡ [] → (xs ≡ []) × (ys ≡ [])
none_in [] ys e = (refl, e)
none_in (x ∷ xs) ys e = cc

-- what a new end of a link is made of
pub record IsMadeOf (role : Named) (sender receiver : ℕ) (k : End) : Type 0 where
  pub role_is : role_of k.activation ≡ new_role role
  pub stands : ShdlcStandsFor k.shdlc (new_link_end (new_role role)).shdlc
  pub sends_for : k.outbox.owner ≡ sender
  pub queue : k.outbox.queue ≡ buffer [] 128
  pub acked : k.outbox.acked ≡ 0
  pub cut : k.outbox.cut ≡ 0
  pub left : k.outbox.left ≡ 0
  pub receives_for : k.inbox.joiner.owner ≡ receiver
  pub none : chains_in k.inbox ≡ []
  pub no_acts : k.acts.items ≡ []
  pub passed_over : k.passed_over ≡ 0

-- a new session has no fragments
no_fragments : (role : Named) → ((new_link_end (new_role role)).shdlc.session.out ≡ []) × ((new_link_end (new_role role)).shdlc.session.acked ≡ 0)
    × ((new_link_end (new_role role)).shdlc.session.acc ≡ [])
no_fragments role = grind arith

new_stands : {pool : PoolState} {role : Named} {sender receiver : ℕ} {k : End} → IsMadeOf role sender receiver k → IsFree pool sender receiver
    → EndStandsFor (record k { outbox = record { owner = sender; queue = buffer [] 128; acked = 0; cut = 0; left = 0 } }) pool (new_link_end (new_role role))
new_stands {pool} {role} {sender} {receiver} {k} n free =
    let parts = none_in k.inbox.joiner.open.items (got_chains k.inbox.got) n.none in
    let e = no_fragments role in
    let P : List Open → Type 0 = λ l. HoldsChains pool k.inbox.joiner.owner l in
    grind arith

pub made : {role : Named} {sender receiver : ℕ} {k : End} → IsMadeOf role sender receiver k → (pool : PoolState) → IsFree pool sender receiver
    → EndStandsFor k pool (new_link_end (new_role role))
made {role} {sender} {receiver} {k} n pool free =
    let box = k.outbox in
    subst (λ b. EndStandsFor (record k { outbox = b }) pool (new_link_end (new_role role))) (grind arith) (new_stands n free)
