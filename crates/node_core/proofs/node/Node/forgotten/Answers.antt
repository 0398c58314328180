use Rattle.node_core.proofs.Words.{Deed, List, Option, Releases, [], ap, append-nil, arith, freed_at, length, map, map-append, option_map_or, sym, ℕ, ◌∙◌, ◌∷◌}
use Rattle.node_core.proofs.Ticking.{many_ports}
use Rattle.node_core.proofs.Freeing.{one_gathered, freed_all}
use Rattle.node_core.proofs.node.Node.forgotten.Goals as goal
use Rattle.node_core.proofs.node.Node.forgotten.Goals.{in-Some, in_default}

pub push-requires : goal.push-requires
push-requires g c = let few = c.loop-i.invariant.few in let low = c.loop-i-test.true in omega (arith, few, low)

pub loop-i-preserved : goal.loop-i-preserved
loop-i-preserved g c =
    let i = c.loop-i.i in
    let so_far = c.loop-i.invariant in
    let few = so_far.few in
    let t : Option ℕ → List Deed = λ o. option_map_or (λ asker. Releases asker ∷ []) o [] in
    elim c.match-forgotten_at.branch [
      | in-Some w ↦
          let same = ap (λ v. length v.items) w.askers-is in
          record {
            items = λ ports e.
                ap (λ v. map Releases v.items) w.askers-is
                ∙ (ap (map Releases) w.push.ensures.items ∙ (map-append Releases c.loop-i.askers.items (w.in-Some.asker ∷ [])
                ∙ one_gathered (freed_at ports) ports i (map Releases c.loop-i.askers.items) (Releases w.in-Some.asker ∷ []) (so_far.items ports e)
                (sym (ap t w.in-Some.is) ∙ c.forgotten_at.ensures ports e)));
            few = omega (arith, w.push.ensures.len, same, few);
          }
      | in_default w ↦
          let same = ap (λ v. length v.items) w.askers-is in
          record {
            items = λ ports e.
                ap (λ v. map Releases v.items) w.askers-is
                ∙ (sym (append-nil (map Releases c.loop-i.askers.items))
                ∙ one_gathered (freed_at ports) ports i (map Releases c.loop-i.askers.items) [] (so_far.items ports e)
                (sym (ap t w.in_default.is) ∙ c.forgotten_at.ensures ports e));
            few = omega (arith, same, few);
          }
    ]

pub returns : goal.returns
returns g c ports e =
    c.loop-i.invariant.items ports e ∙ freed_all c.loop-i.i ports (omega (arith, many_ports c.args.self.now.ends ports e, c.loop-i-test.false))
