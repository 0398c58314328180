use Rattle.node_core.proofs.Words.{Deed, List, Option, Response, [], answers_owed, ap, append-nil, arith, flat_map, length, option_map_or, owed_at, sym, ℕ, ◌∙◌}
use Rattle.node_core.proofs.Ticking.{many_ports}
use Rattle.node_core.proofs.Freeing.{one_gathered, owed_all, one_answered}
use Rattle.node_core.proofs.node.Node.owed.Goals as goal
use Rattle.node_core.proofs.node.Node.owed.Goals.{in-Some, in_default}

pub push-requires : goal.push-requires
push-requires g c = let few = c.loop-i.invariant.few in let low = c.loop-i-test.true in omega (arith, few, low)

pub loop-i-preserved : goal.loop-i-preserved
loop-i-preserved g c =
    let i = c.loop-i.i in
    let so_far = c.loop-i.invariant in
    let few = so_far.few in
    let t : Response → Option ℕ → List Deed = λ r o. option_map_or (answers_owed r) o [] in
    elim c.match-owed_at.branch [
      | in-Some w ↦
          let same = ap (λ v. length v.items) w.askers-is in
          record {
            items = λ ports r e.
                ap (λ v. flat_map (answers_owed r) v.items) w.askers-is
                ∙ (ap (flat_map (answers_owed r)) w.push.ensures.items ∙ (one_answered r c.loop-i.askers.items w.in-Some.asker
                ∙ one_gathered (owed_at c.args.late r) ports i (flat_map (answers_owed r) c.loop-i.askers.items) (answers_owed r w.in-Some.asker)
                (so_far.items ports r e)
                (sym (ap (t r) w.in-Some.is) ∙ c.owed_at.ensures ports r e)));
            few = omega (arith, w.push.ensures.len, same, few);
          }
      | in_default w ↦
          let same = ap (λ v. length v.items) w.askers-is in
          record {
            items = λ ports r e.
                ap (λ v. flat_map (answers_owed r) v.items) w.askers-is
                ∙ (sym (append-nil (flat_map (answers_owed r) c.loop-i.askers.items))
                ∙ one_gathered (owed_at c.args.late r) ports i (flat_map (answers_owed r) c.loop-i.askers.items) [] (so_far.items ports r e)
                (sym (ap (t r) w.in_default.is) ∙ c.owed_at.ensures ports r e));
            few = omega (arith, same, few);
          }
    ]

pub returns : goal.returns
returns g c ports r e =
    let past = c.loop-i-test.false in
    c.loop-i.invariant.items ports r e ∙ owed_all c.args.late r c.loop-i.i ports (omega (arith, many_ports c.args.self.now.ends ports e, past))
