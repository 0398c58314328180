-- When a link is at rest, and after how many steps something first is.
use Rattle.std.specs.Prelude.{◌≡◌, ℕ, zero, suc, ◌<◌, ◌≤◌, ◌&&◌, Bool, true, false, if◌then◌else◌, List, [], ◌∷◌}
use Rattle.link_laws.specs.places.Wire.{OnWire}
use Rattle.link_laws.specs.machine.AtRest.{end_rests}
use Rattle.link_laws.specs.messages.Links.{Link}

-- no frame stands on a wire
abbrev pub is_clear : List OnWire → Bool
is_clear [] = true
is_clear (x ∷ xs) = false

-- both wires are empty and both ends at rest
abbrev pub link_rests : Link → Bool
link_rests l = is_clear l.to_controller && is_clear l.to_host && end_rests l.controller.side && end_rests l.host.side

-- after how many steps something is at rest for the first time, or n where it isn't before
abbrev pub steps_to_rest : {W : Type 0} → (W → Bool) → (W → W) → ℕ → W → ℕ
steps_to_rest rests next zero w = 0
steps_to_rest rests next (suc n) w = if rests w then 0 else suc (steps_to_rest rests next n (next w))

-- what it is after so many steps
abbrev pub after_steps : {W : Type 0} → (W → W) → ℕ → W → W
after_steps next zero w = w
after_steps next (suc n) w = after_steps next n (next w)

-- r is the least number of steps after which it is at rest, or n where none below n is
pub record IsFirstRest {W : Type 0} (rests : W → Bool) (next : W → W) (n : ℕ) (w : W) (r : ℕ) : Type 0 where
  pub most : r ≤ n
  pub rests_then : r < n → rests (after_steps next r w) ≡ true
  pub moves_before : (k : ℕ) → k < r → rests (after_steps next k w) ≡ false
