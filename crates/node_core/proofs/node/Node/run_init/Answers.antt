use Rattle.node_core.proofs.Words.{Init, KeptInit, List, Some, Tasks, ap, refl, sym, ℕ}
use Rattle.node_core.proofs.Tasks.{init_changed}
use Rattle.node_core.proofs.node.Node.run_init.Goals as goal

pub returns-clause-runs_it : goal.returns-clause-runs_it
returns-clause-runs_it g c host noted short start w u =
    let i : KeptInit = record { identity = c.args.identity.now; pipes = c.pipes_of.result; answered = 0 } in
    let t : Tasks = record c.args.self.now.tasks { init = Some i } in
    let as_init : List (List ℕ) → Init = λ pipes. record { identity = c.args.identity.now; pipes = pipes; answered = 0 } in
    init_changed t (Some (as_init c.args.pipes.now)) u (ap (λ (l : List (List ℕ)). Some (as_init l)) (sym c.pipes_of.ensures)) refl
