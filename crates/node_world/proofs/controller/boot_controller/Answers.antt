use Rattle.node_world.proofs.Words.{EndsBoot, IsSoundMemory, List, Memory, On, ap, count_of, hosts_in, kept_is, link_to, memory_kept, on_ok, refl, subst, sym}
use Rattle.node_world.proofs.Words.{ℕ, ◌∙◌}
use Rattle.node_world.proofs.ControllersHear.{boot_runs, boot_lost}
use Rattle.node_world.proofs.controller.boot_controller.Goals as goal

pub boot-requires-clause-memory : goal.boot-requires-clause-memory
boot-requires-clause-memory c =
    let q = c.requires.state in
    subst IsSoundMemory (sym (kept_is c.args.controller.now q.0.memory q.0.controller (λ h. (link_to q.0.sites h).controller) q.1.controller)) q.3

pub returns-in-On-clause-stands : goal.returns-in-On-clause-stands
returns-in-On-clause-stands c w world may timely off same =
    on_ok c.note_last.result c.note_last.ensures.items
    (λ noted. (let k = c.args.controller.now in
    let taken = kept_is k w.memory w.controller (λ h. (link_to w.sites h).controller) world.controller in
    let E : List ℕ → Memory → Type 0 = λ hs m. EndsBoot 0 hs m c.boot.new.self in
    let booted : E (hosts_in w.sites) w.memory =
    subst (E (hosts_in w.sites)) taken (subst (λ hs. E hs (memory_kept k)) same c.in_ok-boot.ensures.booted) in
    boot_runs (On c.in-On.node) c.args.sites.now w c.args.noted.now.entries.items c.note_last.new.noted.entries.items
    c.in-On.node c.kept-count.result refl off may timely (subst (EndsBoot 0 (hosts_in w.sites) w.memory) c.in-On.is booted) world.sites
    (λ core ports r. c.kept-count.ensures ∙ (ap (λ s. count_of s.journal.state) c.store.ensures ∙ ap count_of (sym r.stands.journal))) noted))

pub returns-in-Off-clause-stands : goal.returns-in-Off-clause-stands
returns-in-Off-clause-stands c w world may timely off same =
    on_ok c.note_last-in-Off.result c.note_last-in-Off.ensures.items
    (λ noted. (let k = c.args.controller.now in
    let taken = kept_is k w.memory w.controller (λ h. (link_to w.sites h).controller) world.controller in
    let E : List ℕ → Memory → Type 0 = λ hs m. EndsBoot 0 hs m c.boot.new.self in
    boot_lost c.boot.new.self c.empty_all.new.sites w c.args.noted.now.entries.items c.note_last-in-Off.new.noted.entries.items _ c.in-Off.is
    (subst (E (hosts_in w.sites)) taken (subst (λ hs. E hs (memory_kept k)) same c.in_ok-boot.ensures.booted))
    (c.empty_all.ensures w.sites world.sites) noted))
