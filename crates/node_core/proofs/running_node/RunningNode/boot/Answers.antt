use Rattle.node_core.proofs.Words.{AreAllDifferent, EndsStandFor, List, Named, hosts_linked, map, new_port, refl, subst, sym, ℕ, ◌∙◌}
use Rattle.node_core.proofs.Beginning.{linked_runs}
use Rattle.node_core.proofs.Masks.{linked_differ}
use Rattle.node_core.proofs.running_node.RunningNode.boot.Goals as goal

pub make-requires-clause-different : goal.make-requires-clause-different
make-requires-clause-different g c =
    subst (λ hs. AreAllDifferent hs) (sym (c.as_slice.ensures.value ∙ c.links_of-hosts.ensures)) (linked_differ c.args.number c.args.mask)

pub returns-in-Ok-start-clause-runs : goal.returns-in-Ok-start-clause-runs
returns-in-Ok-start-clause-runs g c =
    let E : List ℕ → Type 0 = λ hs. EndsStandFor c.in-Ok-make.ends (map (new_port c.role_of.result) hs) in
    let R : Named → Type 0 = λ role. EndsStandFor c.in-Ok-make.ends (map (new_port role) (hosts_linked c.args.number c.args.mask)) in
    let ends = subst R c.role_of.ensures (subst E (c.as_slice.ensures.value ∙ c.links_of-hosts.ensures) c.in-Ok-make.ensures) in
    let s = c.in-Ok-start.ensures in
    linked_runs _ c.args.number c.args.mask c.requires.number
    (record { number_is = refl; ends = ends; live = s.live; command = refl; init = refl })
    (record { started = λ live. s.used; version = λ live. s.version })
