use Rattle.std.proofs.Common.{◌≡◌, [], ◌++◌, length, sym, ap, subst, append-nil, arith}
use Rattle.lines_told.specs.lines.Plays.{lines_said}
use Rattle.world.specs.Worlds.{IsWorldAt, world_header}
use Rattle.worked_runs.proofs.PlaysLemmas.{one_more}
use Rattle.worked_runs.proofs.world_memories.plays_all.Goals as goal

pub loop-text-init : goal.loop-text-init
loop-text-init g c before at =
    let w = c.args.world.now in
    let same = ap lines_said (append-nil before) in
    ([], subst (IsWorldAt w (world_header w)) (sym (append-nil before)) at, omega (arith, same))

pub plays-requires : goal.plays-requires
plays-requires g c =
    let asked = c.requires in
    let so_far = c.loop-text.invariant asked.0 asked.1 in
    let said = so_far.2 in
    let few = asked.2 in
    record { plays = asked.0 ++ so_far.0; stands = so_far.1; few = omega (arith, said, few, c.loop-text-test.true) }

pub loop-text-preserved : goal.loop-text-preserved
loop-text-preserved g c before at =
    one_more c.loop-text.world c.plays.new.world before c.loop-text.text-index (c.loop-text.invariant before at) c.plays.ensures.stands
    c.plays.ensures.header

pub returns : goal.returns
returns g c before at =
    let so_far = c.loop-text.invariant before at in
    let said = so_far.2 in
    let all : c.loop-text.text-index ≡ length c.args.texts.now = omega (arith, c.loop-text-test.false, c.loop-text.auto.text-index-end) in
    (so_far.0, so_far.1, omega (arith, said, all))
