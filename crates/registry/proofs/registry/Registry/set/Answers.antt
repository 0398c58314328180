use Rattle.std.proofs.Common.{List, subst, sym, not, eqb}
use Rattle.registry.specs.declared.value.RegValue.{RegValue}
use Rattle.registry.specs.Values.{AreValues, place_of_value}
use Rattle.registry.proofs.ValueLemmas.{AreValues-filter}
use Rattle.registry.proofs.registry.Registry.set.Goals as goal

pub invariant_of-self : goal.invariant_of-self
invariant_of-self c =
    let P : List RegValue → Type 0 = AreValues in
    subst P (sym c.take_out.ensures) (AreValues-filter (λ v. not (eqb (place_of_value v) c.place.result)) c.self.inside.values.items c.self.invariant)
