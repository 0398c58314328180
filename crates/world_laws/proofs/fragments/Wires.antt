-- Whether a UA stands on a wire.
use Rattle.world_laws.proofs.Words.{Bool, Control, List, OnWire, Ua, [], aged_wire, arith, by_test, false, nat_lt, or_parts, refl, sans}
use Rattle.world_laws.proofs.Words.{true, uas, ◌++◌, ◌||◌, ◌∷◌, ◌≡◌}

abbrev pub is_ua : Control → Bool
is_ua Ua = true
is_ua _ = false

abbrev pub has_ua : List OnWire → Bool
has_ua [] = false
has_ua (x ∷ xs) = is_ua x.frame || has_ua xs

-- none stands there
abbrev pub NoUa : List OnWire → Type 0
NoUa w = has_ua w ≡ false

pub no_ua-push : (w : List OnWire) (x : OnWire) → is_ua x.frame ≡ false → NoUa w → NoUa (w ++ x ∷ [])
no_ua-push [] x q h = rw q refl
no_ua-push (y ∷ w) x q h =
    let p = or_parts (is_ua y.frame) (has_ua w) h in
    rw (p.0, no_ua-push w x q p.1) refl

pub no_ua-aged : (w : List OnWire) → NoUa w → NoUa (aged_wire w)
no_ua-aged [] h = refl
no_ua-aged (x ∷ xs) h = by_test (nat_lt x.age 4) (λ q. rw q (rw (p.0, no_ua-aged xs p.1) refl)) (λ q. rw q (no_ua-aged xs p.1))
  where
    p : (is_ua x.frame ≡ false) × NoUa xs
    p = or_parts (is_ua x.frame) (has_ua xs) h

-- as the handshake knows it
pub no_ua-from : (w : List OnWire) → uas (sans w) ≡ [] → NoUa w
no_ua-from [] h = refl
no_ua-from (x ∷ xs) h = let h0 = no_ua-from xs in grind arith
