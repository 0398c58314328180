-- What stands on a wire: RSETs, UAs, and the frames that the end will take in a session.
use Rattle.link_laws.proofs.Words.{Control, Down, LinkState, List, None, OnWire, Option, Rset, Some, Ua, Up, Waiting, [], ap, arith, inr, older, refl, ℕ, ◌++◌}
use Rattle.link_laws.proofs.Words.{◌+◌, ◌<◌, ◌∙◌, ◌∷◌, ◌≡◌, ◌≤◌, ◌⊎◌}

-- a frame of a session
abbrev pub IsData : Control → Type 0
IsData (Rset w c) = ⊥
IsData Ua = ⊥
IsData _ = Unit {0}

-- the ages of the RSETs, and of the UAs
abbrev pub add_rset : Control → ℕ → List ℕ → List ℕ
add_rset (Rset w c) a r = a ∷ r
add_rset _ a r = r

abbrev pub rsets : List OnWire → List ℕ
rsets [] = []
rsets (x ∷ xs) = add_rset x.frame x.age (rsets xs)

abbrev pub add_ua : Control → ℕ → List ℕ → List ℕ
add_ua Ua a r = a ∷ r
add_ua _ a r = r

abbrev pub uas : List OnWire → List ℕ
uas [] = []
uas (x ∷ xs) = add_ua x.frame x.age (uas xs)

-- each RSET has this number, and a window that isn't 0
abbrev pub NumberOk : ℕ → Control → ℕ → Type 0
NumberOk n (Rset w c) k = (k ≡ n) × (0 < w)
NumberOk n _ k = Unit {0}

abbrev pub Numbered : ℕ → List OnWire → Type 0
Numbered n [] = Unit {0}
Numbered n (x ∷ xs) = NumberOk n x.frame x.number × Numbered n xs

-- behind an RSET stands one UA at most
abbrev pub AfterRset : List OnWire → Type 0
AfterRset [] = Unit {0}
AfterRset (x ∷ []) = x.frame ≡ Ua
AfterRset (x ∷ y ∷ ys) = ⊥

abbrev pub tail_step : Control → List OnWire → Type 0 → Type 0
tail_step (Rset w c) xs later = AfterRset xs
tail_step _ xs later = later

abbrev pub Tail : List OnWire → Type 0
Tail [] = Unit {0}
Tail (x ∷ xs) = tail_step x.frame xs (Tail xs)

-- what stands behind the first UA, where no RSET stands before it
abbrev pub behind_step : Control → List OnWire → Option (List OnWire) → Option (List OnWire)
behind_step (Rset w c) xs later = None
behind_step Ua xs later = Some xs
behind_step _ xs later = later

abbrev pub behind_ua : List OnWire → Option (List OnWire)
behind_ua [] = None
behind_ua (x ∷ xs) = behind_step x.frame xs (behind_ua xs)

-- the part of the wire to an end that it will take in a session: all of it where it is Up, and what stands behind the UA
-- where it waits
abbrev pub live : LinkState → List OnWire → Option (List OnWire)
live Up w = Some w
live Waiting w = behind_ua w
live Down w = None

abbrev pub Young : ℕ → List OnWire → Type 0
Young b [] = Unit {0}
Young b (x ∷ xs) = (x.age ≤ b) × Young x.age xs

-- ## One frame more

pub rsets-append : (w : List OnWire) (x : OnWire) → rsets (w ++ x ∷ []) ≡ rsets w ++ rsets (x ∷ [])
rsets-append [] x = refl
rsets-append (y ∷ w) x = ap (add_rset y.frame y.age) (rsets-append w x) ∙ (let h0 = (rsets w) in let h1 = (rsets (x ∷ [])) in grind arith)

pub uas-append : (w : List OnWire) (x : OnWire) → uas (w ++ x ∷ []) ≡ uas w ++ uas (x ∷ [])
uas-append [] x = refl
uas-append (y ∷ w) x = ap (add_ua y.frame y.age) (uas-append w x) ∙ (let h0 = (uas w) in let h1 = (uas (x ∷ [])) in grind arith)

pub numbered-append : (n : ℕ) (w : List OnWire) (x : OnWire) → Numbered n w → Numbered n (x ∷ []) → Numbered n (w ++ x ∷ [])
numbered-append n [] x h e = e
numbered-append n (y ∷ w) x h e = (h.0, numbered-append n w x h.1 e)

abbrev pub NotRset : Control → Type 0
NotRset (Rset w c) = ⊥
NotRset _ = Unit {0}

abbrev pub NotUa : Control → Type 0
NotUa Ua = ⊥
NotUa _ = Unit {0}

pub no_rset_step : (c : Control) (a : ℕ) (r : List ℕ) → add_rset c a r ≡ [] → (r ≡ []) × NotRset c
no_rset_step c a r h = grind arith

pub no_ua_step : (c : Control) (a : ℕ) (r : List ℕ) → add_ua c a r ≡ [] → (r ≡ []) × NotUa c
no_ua_step c a r h = grind arith

pub numbered_none : (m : ℕ) (w : List OnWire) → rsets w ≡ [] → Numbered m w
numbered_none m [] h = tt
numbered_none m (x ∷ xs) h = (grind arith, numbered_none m xs (no_rset_step x.frame x.age (rsets xs) h).0)

pub tail_none : (w : List OnWire) → rsets w ≡ [] → Tail w
tail_none [] h = tt
tail_none (x ∷ xs) h =
    let h0 = Tail xs in let h1 = tail_none xs (no_rset_step x.frame x.age (rsets xs) h).0 in grind arith

-- any frame may stand behind frames without an RSET
pub tail_push : (w : List OnWire) (x : OnWire) → rsets w ≡ [] → Tail (w ++ x ∷ [])
tail_push [] x h = grind arith
tail_push (y ∷ w) x h =
    let h0 = w ++ x ∷ [] in let h1 = Tail (w ++ x ∷ []) in let h2 = tail_push w x (no_rset_step y.frame y.age (rsets w) h).0 in grind arith

-- a UA may stand behind an RSET where there is none yet
pub tail_push_ua : (w : List OnWire) (x : OnWire) → x.frame ≡ Ua → uas w ≡ [] → Tail w → Tail (w ++ x ∷ [])
tail_push_ua [] x e u h = grind arith
tail_push_ua (y ∷ w) x e u h =
    (let h0 = (Tail w) in let h1 = (Tail (w ++ x ∷ [])) in let h2 = (tail_push_ua w x e (no_ua_step y.frame y.age (uas w) u).0) in grind arith)

-- ## Behind a UA

pub behind_none : (w : List OnWire) → uas w ≡ [] → behind_ua w ≡ None
behind_none [] h = refl
behind_none (x ∷ xs) h =
    let s = no_ua_step x.frame x.age (uas xs) h in
    let h0 = behind_ua xs in let h1 = behind_none xs s.0 in grind arith

pub behind_push : (w ys : List OnWire) (x : OnWire) → behind_ua w ≡ Some ys → behind_ua (w ++ x ∷ []) ≡ Some (ys ++ x ∷ [])
behind_push [] ys x h = cc
behind_push (y ∷ w) ys x h = let h0 = (behind_ua w) in let h1 = (behind_ua (w ++ x ∷ [])) in let h2 = (behind_push w ys x) in grind arith

pub behind_push_none : (w : List OnWire) (x : OnWire) → NotUa x.frame → behind_ua w ≡ None → behind_ua (w ++ x ∷ []) ≡ None
behind_push_none [] x n h = grind arith
behind_push_none (y ∷ w) x n h = let h0 = (behind_ua w) in let h1 = (behind_ua (w ++ x ∷ [])) in let h2 = (behind_push_none w x n) in grind arith

-- a new UA leads into a session where no RSET stands before it
pub behind_new : (w : List OnWire) (x : OnWire) → x.frame ≡ Ua → uas w ≡ [] → (behind_ua (w ++ x ∷ []) ≡ None)
    ⊎ ((behind_ua (w ++ x ∷ []) ≡ Some []) × (rsets w ≡ []))
behind_new [] x e u = inr (rw e refl, refl)
behind_new (y ∷ w) x e u = let h0 = behind_new w x e in grind arith

-- no RSET stands before the UA, and one UA less behind it
pub behind_rsets : (w ys : List OnWire) → behind_ua w ≡ Some ys → (rsets w ≡ rsets ys) × ((a : ℕ) × (uas w ≡ a ∷ uas ys))
behind_rsets [] ys h = cc
behind_rsets (x ∷ xs) ys h = go x.frame x.age h (behind_rsets xs ys)
  where
    go : (c : Control) (a : ℕ) → behind_step c xs (behind_ua xs) ≡ Some ys
        → (behind_ua xs ≡ Some ys → (rsets xs ≡ rsets ys) × ((b : ℕ) × (uas xs ≡ b ∷ uas ys)))
        → (add_rset c a (rsets xs) ≡ rsets ys) × ((b : ℕ) × (add_ua c a (uas xs) ≡ b ∷ uas ys))
    go (Rset _ _) a q f = cc
    go Ua a q f = let e : xs ≡ ys = cc in (ap rsets e, (a, ap (λ (l : List OnWire). a ∷ uas l) e))
    go _ a q f = f q

-- ## Older wires

abbrev pub plus_one : List ℕ → List ℕ
plus_one [] = []
plus_one (a ∷ r) = (a + 1) ∷ plus_one r

pub rsets-older : (w : List OnWire) → rsets (older w) ≡ plus_one (rsets w)
rsets-older [] = refl
rsets-older (x ∷ xs) = ap (add_rset x.frame (x.age + 1)) (rsets-older xs) ∙ (let h0 = (rsets xs) in grind arith)

pub uas-older : (w : List OnWire) → uas (older w) ≡ plus_one (uas w)
uas-older [] = refl
uas-older (x ∷ xs) = ap (add_ua x.frame (x.age + 1)) (uas-older xs) ∙ (let h0 = (uas xs) in grind arith)

pub numbered_older : (m : ℕ) (w : List OnWire) → Numbered m w → Numbered m (older w)
numbered_older m [] h = tt
numbered_older m (x ∷ xs) h = (h.0, numbered_older m xs h.1)

pub tail_older : (w : List OnWire) → Tail w → Tail (older w)
tail_older [] h = tt
tail_older (x ∷ xs) h = let h0 = (Tail xs) in let h1 = (Tail (older xs)) in let h2 = (tail_older xs) in grind arith

abbrev pub older_part : Option (List OnWire) → Option (List OnWire)
older_part None = None
older_part (Some w) = Some (older w)

pub behind_ua-older : (w : List OnWire) → behind_ua (older w) ≡ older_part (behind_ua w)
behind_ua-older [] = refl
behind_ua-older (x ∷ xs) = ap (behind_step x.frame (older xs)) (behind_ua-older xs) ∙ (let h0 = (behind_ua xs) in grind arith)

pub live-older : (p : LinkState) (w : List OnWire) → live p (older w) ≡ older_part (live p w)
live-older Waiting w = behind_ua-older w
live-older _ w = refl

pub young_push : (b : ℕ) (w : List OnWire) (x : OnWire) → x.age ≡ 0 → Young b w → Young b (w ++ x ∷ [])
young_push b [] x e h = (omega arith, tt)
young_push b (y ∷ w) x e h = (h.0, young_push y.age w x e h.1)

pub young_later : (b c : ℕ) (w : List OnWire) → b ≤ c → Young b w → Young c w
young_later b c [] i h = tt
young_later b c (x ∷ xs) i h = (omega (arith, h.0), h.1)

pub young_older : (b : ℕ) (w : List OnWire) → Young b w → Young (b + 1) (older w)
young_older b [] h = tt
young_older b (x ∷ xs) h = (omega (arith, h.0), young_older x.age xs h.1)

-- ## A frame of a session changes none of these

pub data_not_rset : (c : Control) → IsData c → NotRset c
data_not_rset c h = grind arith

pub data_not_ua : (c : Control) → IsData c → NotUa c
data_not_ua c h = grind arith

pub data_behind : (c : Control) (w : List OnWire) (o : Option (List OnWire)) → IsData c → behind_step c w o ≡ o
data_behind c w o h = grind arith

pub rset_young : (b a : ℕ) (r : List ℕ) (w : List OnWire) → Young b w → rsets w ≡ a ∷ r → a ≤ b
rset_young b a r [] y h = cc
rset_young b a r (x ∷ xs) y h = (let h0 = (rset_young b a r xs (young_later x.age b xs y.0 y.1)) in grind arith)

pub ua_young : (b a : ℕ) (r : List ℕ) (w : List OnWire) → Young b w → uas w ≡ a ∷ r → a ≤ b
ua_young b a r [] y h = cc
ua_young b a r (x ∷ xs) y h = (let h0 = (ua_young b a r xs (young_later x.age b xs y.0 y.1)) in grind arith)
