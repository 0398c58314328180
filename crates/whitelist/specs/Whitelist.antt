-- Whitelists (ETSI TS 102 622, section 7.1).
use Rattle.std.specs.Prelude.{ℕ, Bool, true, not, ◌&&◌, ◌==◌, nat_le, List, [], ◌∷◌, length}
use Rattle.std.specs.List.{list_any}

-- whether a whitelist holds a host
abbrev pub holds : List ℕ → ℕ → Bool
holds value host = list_any (λ h. h == host) value

-- whether no host stands twice
abbrev pub all_differ : List ℕ → Bool
all_differ [] = true
all_differ (h ∷ hosts) = not (holds hosts h) && all_differ hosts

-- whether these bytes are a whitelist of the host `own`: at most seven, all different, none of them its own
abbrev pub is_whitelist : ℕ → List ℕ → Bool
is_whitelist own value = nat_le (length value) 7 && not (holds value own) && all_differ value
