use Rattle.std.proofs.Common.{List, subst, sym, ap, ◌∙◌}
use Rattle.registry.specs.declared.value.RegValue.{RegValue}
use Rattle.registry.specs.Values.{AreValues, place_of_value}
use Rattle.registry.proofs.ValueLemmas.{AreValues-with_row}
use Rattle.sorted_rows.specs.Rows.{with_row}
use Rattle.registry.proofs.registry.Registry.put.Goals as goal

pub invariant_of-self : goal.invariant_of-self
invariant_of-self c = subst AreValues (sym c.put_in.ensures) (AreValues-with_row c.args.value c.self.inside.values.items c.requires c.self.invariant)

pub returns : goal.returns
returns c = c.put_in.ensures ∙ ap (λ (values : List RegValue). with_row place_of_value c.args.value values) c.self.view_is
