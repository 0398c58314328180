use Rattle.node_laws.proofs.Words.{ComesTo, IsBehind, false, goes_through_ends, hosts_of_ends, subst, sym, ◌≡◌}
use Rattle.node_laws.specs.passes.Passing.ComesTo.{Begins}
use Rattle.node_laws.proofs.passes.Passing.{comes_lasts, leaves_behind, through}
use Rattle.node_laws.proofs.passes_of_steps.passes_have_turns.Goals as goal

pub returns-clause-walked : goal.returns-clause-walked
returns-clause-walked c = λ w on. through (ComesTo w) (comes_lasts w) (hosts_of_ends w.ports) w Begins on

pub returns-clause-left : goal.returns-clause-left
returns-clause-left c =
    λ w on still earlier h later is off.
    subst (λ hosts. IsBehind (ComesTo w) w (goes_through_ends hosts w) earlier h later) (sym is)
    (leaves_behind (ComesTo w) (comes_lasts w) earlier h later w Begins on off (subst (λ hosts. (goes_through_ends hosts w).cut ≡ false) is still))
