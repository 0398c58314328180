use Rattle.std.proofs.Common.{List, not, eqb, rules, subst, sym, ◌∙◌, ap}
use Rattle.arrayvec.proofs.ArrayVecLemmas.{filter-from_retain}
use Rattle.registry.specs.declared.value.RegValue.{RegValue}
use Rattle.registry.specs.Values.{values_without_host, AreValues}
use Rattle.registry.proofs.ValueLemmas.{AreValues-filter}
use Rattle.registry.proofs.registry.Registry.clear_host.Goals as goal

pub invariant_of-self : goal.invariant_of-self
invariant_of-self c =
    let kept = filter-from_retain _ (λ (v : RegValue). not (eqb v.host c.args.host)) _ (λ x b f' y called. search rules) _ _ c.retain.ensures.filtered in
    subst AreValues (sym kept) (AreValues-filter (λ v. not (eqb v.host c.args.host)) c.self.inside.values.items c.self.invariant)

pub returns : goal.returns
returns c =
    let kept = filter-from_retain _ (λ (v : RegValue). not (eqb v.host c.args.host)) _ (λ x b f' y called. search rules) _ _ c.retain.ensures.filtered in
    kept ∙ ap (λ (values : List RegValue). values_without_host values c.args.host) c.self.view_is
