-- What deeds lack, one after another.
use Rattle.std.proofs.Common.{ltb}
use Rattle.node_deeds.proofs.Words.{Bool, Commits, Deed, Drops, Ends, Hears, List, None, Option, Port, SaysOk, Sends, Some, Tells, [], ap, ap₂, cond, false}
use Rattle.node_deeds.proofs.Words.{lack_by, needs, option_map_or, port_at, refl, slice_index, sym, true, ℕ, ◌++◌, ◌∙◌, ◌∷◌, ◌≡◌}
use Rattle.link_laws.specs.machine.Machine.{spare}
use Rattle.node_machine.specs.Parts.Deed.{Asks, GoesOn, IsAnswered, Orders, Releases, SetsErrors}
use Rattle.node_machine.specs.Carrying.{lack}
use Rattle.node_deeds.specs.Room.{AreSpares, or_else, short_of}

-- what is lacked by what is spare at the ends
pub lack_there : (spares : List ℕ) (ports : List Port) → AreSpares spares ports → (ns : List (ℕ × ℕ))
    → lack_by (λ h. slice_index spares h) ns ≡ lack ports ns
lack_there spares ports same [] = refl
lack_there spares ports same (n ∷ later) =
    ap₂ (λ s behind. or_else (short_of s n.1) behind) (same.same n.0) (lack_there spares ports same later)
    ∙ chosen (option_map_or (λ (p : Port). spare p.side) (port_at ports n.0) 0) (lack ports later)
  where
    chosen : (s : ℕ) (behind : Option (ℕ × ℕ)) → or_else (short_of s n.1) behind ≡ cond (ltb s n.1) (Some (n.1, s)) behind
    chosen s behind = by (ltb s n.1) where
      by : (b : Bool) → or_else (cond b (Some (n.1, s)) None) behind ≡ cond b (Some (n.1, s)) behind
      by true = refl
      by false = refl

or_assoc : (a b c : Option (ℕ × ℕ)) → or_else a (or_else b c) ≡ or_else (or_else a b) c
or_assoc None b c = refl
or_assoc (Some x) b c = refl

lack_by-append : (f : ℕ → ℕ) (xs ys : List (ℕ × ℕ)) → lack_by f (xs ++ ys) ≡ or_else (lack_by f xs) (lack_by f ys)
lack_by-append f [] ys = refl
lack_by-append f (x ∷ xs) ys = ap (or_else (short_of (f x.0) x.1)) (lack_by-append f xs ys) ∙ or_assoc (short_of (f x.0) x.1) (lack_by f xs) (lack_by f ys)

needs-cons : (h : ℕ) (d : Deed) (ds : List Deed) → needs h (d ∷ ds) ≡ needs h (d ∷ []) ++ needs h ds
needs-cons h (Commits c) ds = refl
needs-cons h (Sends to m) ds = refl
needs-cons h SaysOk ds = refl
needs-cons h (Asks to message c) ds = refl
needs-cons h (Releases asker) ds = refl
needs-cons h (Tells to message) ds = refl
needs-cons h IsAnswered ds = refl
needs-cons h (Drops pid) ds = refl
needs-cons h (SetsErrors errors) ds = refl
needs-cons h (Orders message) ds = refl
needs-cons h Hears ds = refl
needs-cons h (GoesOn i) ds = refl
needs-cons h (Ends e) ds = refl

lack_first : (f : ℕ → ℕ) (h : ℕ) (d : Deed) (ds : List Deed) → lack_by f (needs h (d ∷ ds)) ≡ or_else (lack_by f (needs h (d ∷ []))) (lack_by f (needs h ds))
lack_first f h d ds = ap (lack_by f) (needs-cons h d ds) ∙ lack_by-append f (needs h (d ∷ [])) (needs h ds)

-- the first deed lacks this, or nothing
pub lack_found : (f : ℕ → ℕ) (h : ℕ) (d : Deed) (ds : List Deed) (l : ℕ × ℕ) → Some l ≡ lack_by f (needs h (d ∷ []))
    → Some l ≡ lack_by f (needs h (d ∷ ds))
lack_found f h d ds l found = ap (λ o. or_else o (lack_by f (needs h ds))) found ∙ sym (lack_first f h d ds)

pub lack_behind : (f : ℕ → ℕ) (h : ℕ) (d : Deed) (ds : List Deed) → None ≡ lack_by f (needs h (d ∷ []))
    → lack_by f (needs h (d ∷ ds)) ≡ lack_by f (needs h ds)
lack_behind f h d ds none = lack_first f h d ds ∙ ap (λ o. or_else o (lack_by f (needs h ds))) (sym none)
