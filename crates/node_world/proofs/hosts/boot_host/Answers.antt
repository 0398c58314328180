use Rattle.node_world.proofs.Words.{IsSoundMemory, ap, arith, count_of, kept_is, on_ok, subst, sym, ℕ, ◌∙◌, ◌≡◌, ◌≤◌}
use Rattle.node_world.proofs.HostsDo.{boots_here, runs_now, lost_power}
use Rattle.node_world.proofs.hosts.boot_host.Goals as goal

low_host : (h : ℕ) → h ≤ 7 → (n : ℕ) → n ≡ h → n ≤ 7
low_host h low n same = omega (arith, low, same)

pub boot-requires-clause-number : goal.boot-requires-clause-number
boot-requires-clause-number c = let r = c.requires.state in low_host r.0.host r.2.low c.args.site.now.host r.1.host

pub boot-requires-clause-memory : goal.boot-requires-clause-memory
boot-requires-clause-memory c =
    let r = c.requires.state in
    subst IsSoundMemory (sym (kept_is c.args.site.now.power r.0.memory r.0.node (λ h. r.0.link.host) r.1.place)) r.4

pub returns-in-On-clause-stands : goal.returns-in-On-clause-stands
returns-in-On-clause-stands c s is host off side =
    on_ok c.note_last.result c.note_last.ensures.items
    (λ noted. runs_now c.args.site.now c.boot.new.self s c.in-On.running c.kept-count.result c.args.noted.now.entries.items c.in-On.is is side
    host.number (boots_here c.args.site.now c.boot.new.self s is host.number c.in_ok-boot.ensures.booted)
    (λ core ports r. c.kept-count.ensures ∙ (ap (λ s. count_of s.journal.state) c.store.ensures ∙ ap count_of (sym r.stands.journal))) noted)

pub returns-in-Off-clause-stands : goal.returns-in-Off-clause-stands
returns-in-Off-clause-stands c s is host off side =
    on_ok c.note_last-in-Off.result c.note_last-in-Off.ensures.items
    (λ noted. lost_power c.args.site.now c.boot.new.self s _ c.empty.new.self c.args.noted.now.entries.items c.in-Off.is is
    (boots_here c.args.site.now c.boot.new.self s is host.number c.in_ok-boot.ensures.booted) (c.empty.ensures s.link is.wires) noted)
