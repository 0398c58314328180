use Rattle.std.proofs.Common.{rules, of_calls}
use Rattle.std.proofs.lemmas.Fn.{always_returns_same}
use Rattle.sorted_rows.proofs.PlaceLemmas.{place_from_search}
use Rattle.registry.specs.Values.{place_of_value}
use Rattle.registry.proofs.registry.place_in.Goals as goal

pub returns : goal.returns
returns c =
    place_from_search place_of_value c.args.place 2 16 c.args.values.now c.binary_search_by_key.result c.requires
    (c.binary_search_by_key.ensures.position place_of_value (always_returns_same _ _ _ (λ a r f k. search (rules, of_calls))))
    c.binary_search_by_key.ensures.bound
