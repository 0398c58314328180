-- The view that a controller has of its links as a command of a host comes, as it is read off entries.
use Rattle.std.specs.Prelude.{◌≡◌, ℕ, ◌==◌, ◌&&◌, List, is_some}
use Rattle.std.specs.List.{list_any}
use Rattle.trace_model.specs.declared.entry.Entry.{Entry}
use Rattle.gate_admin.specs.declared.view.LinkView.{LinkView}
use Rattle.gate_admin.specs.View.{hosts_where, mask_of}
use Rattle.node_machine.specs.world.World.{end_c}
use Rattle.node_machine.specs.world.NodeFilters.{is_connected_in, notice_in}
use Rattle.node_laws.specs.notices.Notices.{is_of_creation}
use Rattle.node_laws.specs.creations.Creations.{asked_pipes}
use Rattle.node_laws.specs.cuts.Histories.{is_one_of}
use Rattle.node_laws.specs.views.Errors.{errors_in}

-- What a controller with links to these hosts knows as a command of the host h comes.
abbrev pub view_at : List ℕ → List Entry → ℕ → LinkView
view_at hosts t h = record {
  hosts = mask_of (hosts_where (is_one_of hosts));
  connected = mask_of (hosts_where (λ k. is_one_of hosts k && is_connected_in t k));
  noticed = mask_of (hosts_where (λ k. is_some (notice_in t k)));
  asked = mask_of (hosts_where (λ k. is_of_creation (notice_in t k)));
  waiting = record { items = asked_pipes t hosts };
  errors = errors_in t (end_c h);
}

-- two views say the same, in whatever order the pipes stand that wait
pub record IsSameView (v u : LinkView) : Type 0 where
  pub hosts : v.hosts ≡ u.hosts
  pub connected : v.connected ≡ u.connected
  pub noticed : v.noticed ≡ u.noticed
  pub asked : v.asked ≡ u.asked
  pub waiting : (pid : ℕ) → list_any (λ p. p == pid) v.waiting.items ≡ list_any (λ p. p == pid) u.waiting.items
  pub errors : v.errors ≡ u.errors
