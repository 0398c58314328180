-- A controller is seen as its node: what its node's calls ensure.
use Rattle.node_core.proofs.Words.{Bool, Core, Entry, IsInStep, List, Node, None, Option, Port, ResetRefused, Result, RunsAs, Some, ap, arith, between, is_ok}
use Rattle.node_core.proofs.Words.{map, port_at, reset_refusal_at, subst, sym, true, ℕ, ◌∙◌, ◌≡◌}
use Rattle.std.specs.Prelude.{MatchResult}
use Rattle.node_core.specs.Running.{MayStep}
use Rattle.node_core.proofs.Between.{at_rest, kept_at}

pub seen_may : {N : Type 0} {n v : Node N} → n ≡ v → MayStep v → MayStep n
seen_may {N} same may = let P : Node N → Type 0 = λ x. MayStep x in subst P (sym same) may

pub seen_runs : {N : Type 0} {n v : Node N} {core : Core} {ports : List Port} → n ≡ v → RunsAs v core ports → RunsAs n core ports
seen_runs {N} {core = core} {ports = ports} same r = let P : Node N → Type 0 = λ x. RunsAs x core ports in subst P (sym same) r

pub kept_refusal : (h : ℕ) (ports : List Port) → reset_refusal_at (port_at (map between ports) h) ≡ reset_refusal_at (port_at ports h)
kept_refusal h ports = ap reset_refusal_at (kept_at h ports) ∙ (let h0 = port_at ports h in grind arith)

-- a node that stands for the same step runs as before
pub still_runs : {N : Type 0} {n n2 : Node N} {noted start : List Entry} {short : Bool} {core : Core} {ports : List Port} → RunsAs n core ports
    → IsInStep n2 noted short start (at_rest core ports) → n2.store ≡ n.store → RunsAs n2 core ports
still_runs r u store = grind arith

-- ## What a step ensures

-- a step that is never refused was done
pub never_refused : {X : Type 0} (r : Result X ResetRefused)
    → MatchResult r (λ done. ◌≡◌ {A = Option ResetRefused} None None) (λ (why : ResetRefused). ◌≡◌ {A = Option ResetRefused} None (Some why)) → is_ok r ≡ true
never_refused r m = grind arith
