use Rattle.node_sites.proofs.Words.{Core, IsSoundMemory, List, Memory, On, RunsAs, ap, length, map, refl, subst, sym, ℕ, ◌∙◌, ◌≡◌}
use Rattle.node_ends.specs.Making.{new_port}
use Rattle.node_core.specs.Booting.{hosts_linked, role_at}
use Rattle.node_sites.specs.WorldBoots.{EndsBoot}
use Rattle.node_sites.proofs.Powers.{found_as_booted, boots_so, refused_so, size_kept}
use Rattle.node_sites.proofs.power.booted.Goals as goal

pub returns-in-Ok-clause-booted : goal.returns-in-Ok-clause-booted
returns-in-Ok-clause-booted c =
    let e = c.in-Ok.ensures in
    let m : Memory = c.into_nv.result in
    let number : ℕ = c.args.with.1 in
    let hosts : List ℕ = hosts_linked number c.args.with.2 in
    let same : m ≡ _ = c.into_nv.ensures.nv ∙ c.into_memory.ensures in
    let may = subst IsSoundMemory (sym same) c.requires.memory in
    let booted = boots_so m may c.in-Ok.node.store.journal.nv (e.made refl) in
    let P : Core → Type 0 = λ core. RunsAs c.in-Ok.node core (map (new_port (role_at number)) hosts) in
    let E : Memory → Type 0 = λ x. EndsBoot number hosts x (On c.in-Ok.node) in
    subst E same (booted.0, booted.1, (subst P (e.found refl ∙ found_as_booted m.content may.version number hosts) e.runs))

pub of-requires-in-Journal : goal.of-requires-in-Journal
of-requires-in-Journal c =
    let m : Memory = c.into_nv.result in
    let same : m ≡ _ = c.into_nv.ensures.nv ∙ c.into_memory.ensures in
    let refused = refused_so m (subst IsSoundMemory (sym same) c.requires.memory) (λ (x : Memory). x.faults) c.in-Err.field-0.nv
    c.in-Journal.field-0 (rw c.in-Journal.is at c.in-Err.ensures.refused) in
    ap (λ (x : Memory). length x.content) refused.1 ∙ size_kept m c.into_nv.ensures.size

pub returns-in-Journal-clause-booted : goal.returns-in-Journal-clause-booted
returns-in-Journal-clause-booted c =
    let m : Memory = c.into_nv.result in
    let same : m ≡ _ = c.into_nv.ensures.nv ∙ c.into_memory.ensures in
    let refused = refused_so m (subst IsSoundMemory (sym same) c.requires.memory) (λ (x : Memory). x.faults) c.in-Err.field-0.nv
    c.in-Journal.field-0 (rw c.in-Journal.is at c.in-Err.ensures.refused) in
    rw (← same) (refused.0, c.of-in-Journal.ensures ∙ refused.1)
