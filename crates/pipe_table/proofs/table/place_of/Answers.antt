use Rattle.std.proofs.Common.{rules, of_calls}
use Rattle.std.proofs.lemmas.Fn.{always_returns_same}
use Rattle.sorted_rows.proofs.PlaceLemmas.{place_from_search}
use Rattle.pipe_table.specs.PipeRows.{pid_of}
use Rattle.pipe_table.proofs.table.place_of.Goals as goal

pub returns-in_default : goal.returns-in_default
returns-in_default c =
    place_from_search pid_of c.args.pid 2 112 c.args.rows.now c.binary_search_by_key.result c.requires
    (c.binary_search_by_key.ensures.position pid_of (always_returns_same _ _ _ (λ a r f k. search (rules, of_calls)))) c.binary_search_by_key.ensures.bound
