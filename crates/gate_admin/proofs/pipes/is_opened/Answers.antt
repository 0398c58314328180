use Rattle.std.proofs.Common.{ℕ, false, cond, eqb, ◌&&◌, sym, ap, ◌∙◌, rules, tests}
use Rattle.std.specs.List.{list_any}
use Rattle.std.specs.Option.{option_map_or}
use Rattle.std.proofs.lemmas.Bool.{lt-ltb}
use Rattle.std.proofs.lemmas.Iterator.{YieldsList-from_slice}
use Rattle.std.proofs.lemmas.Iterator.Search.{any_from_yields_List}
use Rattle.pipe_table.specs.declared.row.PipeRow.{PipeRow}
use Rattle.pipe_table.specs.PipeRows.{pipe_at}
use Rattle.gate_admin.proofs.pipes.is_opened.Goals as goal

pub returns-then-pipe-lt-FIRST_DYNAMIC : goal.returns-then-pipe-lt-FIRST_DYNAMIC
returns-then-pipe-lt-FIRST_DYNAMIC c =
    let t = c.args.tables.now in
    let found = any_from_yields_List (λ (static : ℕ × ℕ). eqb static.0 c.args.host && eqb static.1 c.args.pipe) _ _ _ c.any.ensures.ran
    (YieldsList-from_slice c.statics.result.now cc) (λ x b q k. search (rules, tests)) in
    found
    ∙ (ap (list_any (λ (static : ℕ × ℕ). eqb static.0 c.args.host && eqb static.1 c.args.pipe)) c.statics.ensures.statics
    ∙ ap (λ b. cond b (list_any (λ (static : ℕ × ℕ). eqb static.0 c.args.host && eqb static.1 c.args.pipe) t.statics)
    (option_map_or (λ (row : PipeRow). row.opened) (pipe_at t.rows c.args.pipe) false)) (sym (lt-ltb c.args.pipe 2 c.if-pipe-lt-FIRST_DYNAMIC.true)))
