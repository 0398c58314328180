-- What a controller knows of its links when it decides. In a mask bit h stands for host h.
use Rattle.std.specs.Prelude.{ℕ, ◌/◌, ◌%◌, ◌^◌, Bool, ◌&&◌, ◌==◌, nat_le, List, sum_by}
use Rattle.std.specs.List.{filter, range_with_len}
use Rattle.gate_admin.specs.declared.view.LinkView.{LinkView}

-- whether a host, 01 to 07, is in a mask
abbrev pub has : ℕ → ℕ → Bool
has mask host = nat_le 1 host && nat_le host 7 && mask / 2 ^ host % 2 == 1

abbrev pub is_configured : LinkView → ℕ → Bool
is_configured v host = has v.hosts host

abbrev pub is_connected : LinkView → ℕ → Bool
is_connected v host = has v.connected host

abbrev pub is_noticed : LinkView → ℕ → Bool
is_noticed v host = has v.noticed host

abbrev pub is_asked : LinkView → ℕ → Bool
is_asked v host = has v.asked host

-- The hosts from 01 to 07 that pass a test, ascending. A proof that computes with them unfolds it by name.
unfoldable pub hosts_where : (ℕ → Bool) → List ℕ
hosts_where test = filter test (range_with_len 1 7)

-- the mask of these hosts
abbrev pub mask_of : List ℕ → ℕ
mask_of hosts = sum_by (λ host. 2 ^ host) hosts
