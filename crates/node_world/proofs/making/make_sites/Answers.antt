use Rattle.std.proofs.lemmas.List.{take_all, take_more}
use Rattle.node_world.proofs.Words.{List, Site, [], ap, get_or, map, map-append, new_site, replicate, take, ℕ, ◌++◌, ◌+◌, ◌∙◌, ◌∷◌, ◌≡◌}
use Rattle.node_world.proofs.SitesKept.{together}
use Rattle.node_world.proofs.making.make_sites.Goals as goal

abbrev made : ℕ → Site
made host = new_site (replicate 65536 255) host

pub loop-host-preserved : goal.loop-host-preserved
loop-host-preserved c =
    let hosts : List ℕ = c.args.hosts.now in
    let i : ℕ = c.loop-host.host-index in
    let before = c.loop-host.sites.items in
    let host : ℕ = get_or hosts i 0 in
    let same : map made (take (i + 1) hosts) ≡ map made (take i hosts) ++ made host ∷ [] =
    ap (map made) (take_more hosts i 0 c.loop-host-test.true) ∙ map-append made (take i hosts) (host ∷ []) in
    let longer = together before (map made (take i hosts)) (c.in_ok-site.site ∷ []) (made host ∷ []) c.loop-host.invariant (c.in_ok-site.ensures, tt) in
    rw c.in-Ok.ensures.items (rw (← same) at longer)

pub returns : goal.returns
returns c = rw (← take_all c.loop-host.host-index c.args.hosts.now c.loop-host-test.false) c.loop-host.invariant
