use Rattle.hcp_chain.proofs.Words.{None, Open, Some, ap, arith, common_steps, eqb, length, position, refl, sym, ◌∙◌, ◌≡◌}
use Rattle.hcp_chain.proofs.HoldingLemmas.{taken_out, begun, fifth_not_found}
use Rattle.hcp_chain.proofs.joiner.Joiner.take_out.Goals as goal

pub returns-in-Some-clause-some : goal.returns-in-Some-clause-some
returns-in-Some-clause-some c =
    let found : position (λ (x : Open). eqb x.pipe c.args.pipe) c.args.self.now.open.items ≡ Some c.in-Some.at =
    ap (position (λ (x : Open). eqb x.pipe c.args.pipe)) (sym c.as_slice.ensures.value) ∙ (sym c.place_of.ensures ∙ c.in-Some.is) in
    taken_out c.requires.holds found c.remove.ensures.value refl c.remove.ensures.items
    (let fits = c.as_slice.ensures.fits in let value = ap length c.as_slice.ensures.value in omega (arith, fits, value, c.remove.ensures.len))

pub returns-in-None-clause-fifth : goal.returns-in-None-clause-fifth
returns-in-None-clause-fifth c =
    let found : position (λ (x : Open). eqb x.pipe c.args.pipe) c.args.self.now.open.items ≡ None =
    ap (position (λ (x : Open). eqb x.pipe c.args.pipe)) (sym c.as_slice.ensures.value) ∙ (sym c.place_of.ensures ∙ c.in-None.is) in
    let fifth = fifth_not_found c.args.pool.now c.args.pipe c.args.self.now.open.items found in
    let full = sym c.is_full.ensures.value ∙ c.if-is_full.true in
    grind (arith, common_steps, fifth, full)

pub returns-in-None-2-clause-some : goal.returns-in-None-2-clause-some
returns-in-None-2-clause-some c =
    let found : position (λ (x : Open). eqb x.pipe c.args.pipe) c.args.self.now.open.items ≡ None =
    ap (position (λ (x : Open). eqb x.pipe c.args.pipe)) (sym c.as_slice.ensures.value) ∙ (sym c.place_of.ensures ∙ c.in-None.is) in
    let fits = c.as_slice.ensures.fits in
    let value = ap length c.as_slice.ensures.value in
    let not_full = sym c.is_full.ensures.value ∙ c.if-is_full.false in
    begun c.requires.holds c.requires.quota found refl refl (grind (arith, common_steps, fits, value, not_full)) c.chain.ensures.chain
