use Rattle.block_pool.proofs.Words.{Held, List, Option, ap, held_bytes, named_bytes, owner_of, sym, take, take-append-drop, with_chain, ℕ, ◌++◌, ◌∙◌, ◌≡◌}
use Rattle.block_pool.proofs.SlotLemmas.{bytes_of-put, owner_of-put, put-put}
use Rattle.block_pool.proofs.pool.append.Goals as goal

pub returns-clause-slots : goal.returns-clause-slots
returns-clause-slots c =
    let old = c.args.blocks.now.slots in
    let begun = c.begin-first.new.self.slots in
    let b = c.begin-first.result in
    let owner = c.args.chain.now.owner in
    let front = c.split_at.result.0.now in
    let rest = c.split_at.result.1.now in
    let put = c.begin-first.ensures.slots in
    let low = c.begin-first.ensures.fits in
    let whole : front ++ rest ≡ c.args.bytes.now =
    ap (λ (xs : List ℕ). xs ++ rest) c.split_at.ensures.front
    ∙ (ap (λ (xs : List ℕ). take c.min.result c.args.bytes.now ++ xs) c.split_at.ensures.back ∙ take-append-drop c.min.result c.args.bytes.now) in
    let owner_is : owner_of begun b ≡ owner = ap (λ (ss : List (Option Held)). owner_of ss b) put ∙ owner_of-put old b owner front low in
    let bytes_are : held_bytes begun b ≡ front = ap (λ (ss : List (Option Held)). held_bytes ss b) put ∙ bytes_of-put old b owner front low in
    c.extend-2.ensures.slots
    ∙ (ap (λ (o : ℕ). with_chain begun b o (held_bytes begun b ++ rest)) owner_is
    ∙ (ap (λ (bs : List ℕ). with_chain begun b owner (bs ++ rest)) bytes_are
    ∙ (ap (λ (ss : List (Option Held)). with_chain ss b owner (front ++ rest)) put
    ∙ (put-put old b owner owner front (front ++ rest)
    ∙ (ap (with_chain old b owner) whole
    ∙ ap (λ (n : Option ℕ). with_chain old b owner (named_bytes old n ++ c.args.bytes.now)) (sym c.in_default.is))))))
