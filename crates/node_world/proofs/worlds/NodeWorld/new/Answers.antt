use Rattle.node_world.proofs.Words.{List, Off, ap, hosts_where, list_any, mask_of, refl, ℕ, ◌==◌, ◌∙◌}
use Rattle.node_world.proofs.WorldsStepped.{stands_at_first}
use Rattle.node_world.proofs.worlds.NodeWorld.new.Goals as goal

pub returns-clause-stands : goal.returns-clause-stands
returns-clause-stands c =
    let masked = c.mask_of.ensures
    ∙ ap (λ (hosts : List ℕ). mask_of (hosts_where (λ (host : ℕ). list_any (λ (k : ℕ). k == host) hosts))) c.as_slice-2.ensures.value in
    stands_at_first _ c.args.header.now c.requires (ap (λ m. Off m) c.in_ok-new.ensures)
    (rw c.as_slice.ensures.value at c.in_ok-make_sites.ensures) masked refl refl refl
