use Rattle.std.proofs.Common.{rules, of_calls}
use Rattle.std.proofs.lemmas.Fn.{always_returns_same}
use Rattle.sorted_rows.proofs.PlaceLemmas.{place_from_search}
use Rattle.hci_tables.specs.Tables.{sync_host}
use Rattle.hci_tables.proofs.syncs.place_in.Goals as goal

pub returns : goal.returns
returns c =
    place_from_search sync_host c.args.host 1 8 c.args.syncs.now c.binary_search_by_key.result c.requires
    (c.binary_search_by_key.ensures.position sync_host (always_returns_same _ _ _ (λ a r f k. search (rules, of_calls)))) c.binary_search_by_key.ensures.bound
