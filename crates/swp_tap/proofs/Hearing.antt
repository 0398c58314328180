-- What a tap keeps after a frame of either side.
use Rattle.std.proofs.Common.{◌≡◌, ℕ, ◌+◌, Bool, true, false, List, [], ◌∷◌, ◌++◌, refl, sym, ap, ◌∙◌, subst, arith, append-nil}
use Rattle.std.proofs.Common.{append_assoc, length-append}
use Rattle.std.specs.Prelude.{◌≤◌, ◌-◌, ◌/◌, ◌%◌, Ok, Err, length, drop, slice_index}
use Rattle.std.proofs.lemmas.Bool.Decides.{nat_tests}
use Rattle.std.specs.declared.result.Result.{Result}
use Rattle.swp_base.specs.declared.control_frames.Control.{Control}
use Rattle.swp_base.specs.declared.control_frames.Control.TheVariants.{I, S, Rset, Ua, Act, Clt}
use Rattle.swp_lpdu.specs.declared.LpduFault.{LpduFault}
use Rattle.swp_lpdu.specs.Controls.{control_of}
use Rattle.tap_reading.specs.Tap.{TapState, new_tap, tap_after_frame, tap_reports, tap_after, tapped_from, tapped}
use Rattle.tap_reading.specs.Lpdus.{frame_read, frames_read, tapped_lpdus}
use Rattle.tap_reading.specs.keeping.Keeping.{KeptSide, KeptTap, kept_exchanged, kept_listed, kept_added, kept_tells_more, kept_numbered, kept_in_session}
use Rattle.tap_reading.specs.keeping.Keeping.{kept_hears, kept_after_frame, kept_reports, StandsForTap}
use Rattle.tap_reading.proofs.keeping.Acknowledging.{frame_stands}
use Rattle.swp_tap.specs.Hearing.{TapValue, rsets_behind, kept_after_lpdu, kept_reports_lpdu, StandsFor}

numbered_rsets : (k : KeptTap) (nr : ℕ) → (kept_numbered k nr).rsets ≡ k.rsets
numbered_rsets k nr = go (kept_tells_more k.clf k.uicc nr) refl
  where
    go : (b : Bool) → kept_tells_more k.clf k.uicc nr ≡ b → (kept_numbered k nr).rsets ≡ k.rsets
    go true q = rw q refl
    go false q = rw q refl

hears_rsets : (bare : Bool) (k : KeptTap) (c : Control) → (kept_hears bare k c).rsets ≡ rsets_behind k.rsets c
hears_rsets bare k (I ns nr info) = go (kept_in_session bare k.clf) refl
  where
    go : (b : Bool) → kept_in_session bare k.clf ≡ b → (kept_hears bare k (I ns nr info)).rsets ≡ k.rsets
    go true q = rw q (numbered_rsets (record k { clf = kept_added (kept_listed k.clf) ns info }) nr)
    go false q = rw q refl
hears_rsets bare k (S kind nr) = go (kept_in_session bare k.clf) refl
  where
    go : (b : Bool) → kept_in_session bare k.clf ≡ b → (kept_hears bare k (S kind nr)).rsets ≡ k.rsets
    go true q = rw q (numbered_rsets k nr)
    go false q = rw q refl
hears_rsets bare k (Rset w c) = refl
hears_rsets bare k Ua = refl
hears_rsets bare k (Act a b) = refl
hears_rsets bare k Clt = refl

made : (n f : KeptSide) (r : ℕ) (m : KeptTap) → n ≡ m.clf → f ≡ m.uicc → r ≡ m.rsets → record { clf = n; uicc = f; rsets = r } ≡ m
made n f r m a b c = rw (a, b, c) refl

after_is : (bare : Bool) (k : KeptTap) (clf : Bool) (lpdu : List ℕ) (c : Control) → control_of lpdu ≡ Ok c → kept_after_lpdu bare k clf lpdu
    ≡ kept_after_frame bare k clf c
after_is bare k clf lpdu c q = rw q refl

reports_are : (bare : Bool) (k : KeptTap) (clf : Bool) (lpdu : List ℕ) (c : Control) → control_of lpdu ≡ Ok c → kept_reports_lpdu bare k clf lpdu
    ≡ kept_reports bare k clf c
reports_are bare k clf lpdu c q = rw q refl

-- a frame of the CLF
pub near_heard : (bare : Bool) (k : KeptTap) (clf : Bool) (c : Control) (n f : KeptSide) (r : ℕ) → clf ≡ true
    → n ≡ (kept_hears bare k c).clf → f ≡ (kept_hears bare k c).uicc → r ≡ rsets_behind k.rsets c
    → record { clf = n; uicc = f; rsets = r } ≡ kept_after_frame bare k clf c
near_heard bare k clf c n f r side a b e =
    made n f r (kept_hears bare k c) a b (e ∙ sym (hears_rsets bare k c)) ∙ ap (λ z. kept_after_frame bare k z c) (sym side)

pub near_kept : (bare : Bool) (k : KeptTap) (clf : Bool) (lpdu : List ℕ) (c : Control) (n f : KeptSide) (r : ℕ) → clf ≡ true → control_of lpdu ≡ Ok c
    → n ≡ (kept_hears bare k c).clf → f ≡ (kept_hears bare k c).uicc → r ≡ rsets_behind k.rsets c
    → record { clf = n; uicc = f; rsets = r } ≡ kept_after_lpdu bare k clf lpdu
near_kept bare k clf lpdu c n f r side q a b e = near_heard bare k clf c n f r side a b e ∙ sym (after_is bare k clf lpdu c q)

-- one of the UICC
pub far_heard : (bare : Bool) (k : KeptTap) (clf : Bool) (c : Control) (n f : KeptSide) (r : ℕ) → clf ≡ false
    → n ≡ (kept_hears bare (kept_exchanged k) c).clf → f ≡ (kept_hears bare (kept_exchanged k) c).uicc → r ≡ rsets_behind k.rsets c
    → record { clf = f; uicc = n; rsets = r } ≡ kept_after_frame bare k clf c
far_heard bare k clf c n f r side a b e =
    ap kept_exchanged (made n f r (kept_hears bare (kept_exchanged k) c) a b (e ∙ sym (hears_rsets bare (kept_exchanged k) c)))
    ∙ ap (λ z. kept_after_frame bare k z c) (sym side)

pub far_kept : (bare : Bool) (k : KeptTap) (clf : Bool) (lpdu : List ℕ) (c : Control) (n f : KeptSide) (r : ℕ) → clf ≡ false → control_of lpdu ≡ Ok c
    → n ≡ (kept_hears bare (kept_exchanged k) c).clf → f ≡ (kept_hears bare (kept_exchanged k) c).uicc → r ≡ rsets_behind k.rsets c
    → record { clf = f; uicc = n; rsets = r } ≡ kept_after_lpdu bare k clf lpdu
far_kept bare k clf lpdu c n f r side q a b e = far_heard bare k clf c n f r side a b e ∙ sym (after_is bare k clf lpdu c q)

-- an LPDU of two bytes or more whose first byte is from 80 to BF is an I frame
pub fragment_says : (bytes : List ℕ) → 128 ≤ slice_index bytes 0 → slice_index bytes 0 ≤ 191 → 2 ≤ length bytes → length bytes ≤ 30
    → control_of bytes ≡ Ok (I ((slice_index bytes 0 - 128) / 8) (slice_index bytes 0 % 8) (drop 1 bytes))
fragment_says bytes low high some few = grind (arith, nat_tests)

-- what is kept after an I frame, and what is reported of it
pub fragment_kept : (bare : Bool) (k : KeptTap) (clf : Bool) (bytes : List ℕ) → 128 ≤ slice_index bytes 0 → slice_index bytes 0 ≤ 191
    → 2 ≤ length bytes → length bytes ≤ 30
    → kept_after_lpdu bare k clf bytes ≡ kept_after_frame bare k clf (I ((slice_index bytes 0 - 128) / 8) (slice_index bytes 0 % 8) (drop 1 bytes))
fragment_kept bare k clf bytes low high some few = after_is bare k clf bytes _ (fragment_says bytes low high some few)

pub fragment_reports : (bare : Bool) (k : KeptTap) (clf : Bool) (bytes : List ℕ) → 128 ≤ slice_index bytes 0 → slice_index bytes 0 ≤ 191
    → 2 ≤ length bytes → length bytes ≤ 30
    → kept_reports_lpdu bare k clf bytes ≡ kept_reports bare k clf (I ((slice_index bytes 0 - 128) / 8) (slice_index bytes 0 % 8) (drop 1 bytes))
fragment_reports bare k clf bytes low high some few = reports_are bare k clf bytes _ (fragment_says bytes low high some few)

-- ## Over a list of LPDUs

read-append : (fs : List (Bool × List ℕ)) (f : Bool × List ℕ) → frames_read (fs ++ f ∷ []) ≡ frames_read fs ++ frame_read f.0 (control_of f.1)
read-append [] f = append-nil (frame_read f.0 (control_of f.1))
read-append (x ∷ fs) f =
    ap (λ z. frame_read x.0 (control_of x.1) ++ z) (read-append fs f)
    ∙ sym (append_assoc (frame_read x.0 (control_of x.1)) (frames_read fs) (frame_read f.0 (control_of f.1)))

after-append : (bare : Bool) (t : TapState) (fs gs : List (Bool × Control)) → tap_after bare t (fs ++ gs) ≡ tap_after bare (tap_after bare t fs) gs
after-append bare t [] gs = refl
after-append bare t (f ∷ fs) gs = after-append bare (tap_after_frame bare t f.0 f.1) fs gs

pub tapped-append : (bare : Bool) (t : TapState) (fs gs : List (Bool × Control))
    → tapped_from bare t (fs ++ gs) ≡ tapped_from bare t fs ++ tapped_from bare (tap_after bare t fs) gs
tapped-append bare t [] gs = refl
tapped-append bare t (f ∷ fs) gs =
    let u : TapState = tap_after_frame bare t f.0 f.1 in
    ap (λ z. tap_reports bare t f.0 f.1 ++ z) (tapped-append bare u fs gs)
    ∙ sym (append_assoc (tap_reports bare t f.0 f.1) (tapped_from bare u fs) (tapped_from bare (tap_after bare u fs) gs))

-- one LPDU more
record OneMore (bare : Bool) (k : KeptTap) (t : TapState) (clf : Bool) (lpdu : List ℕ) : Type 0 where
  stands : StandsForTap (kept_after_lpdu bare k clf lpdu) (tap_after bare t (frame_read clf (control_of lpdu)))
  reports : kept_reports_lpdu bare k clf lpdu ≡ tapped_from bare t (frame_read clf (control_of lpdu))

one_more : (bare : Bool) (k : KeptTap) (t : TapState) (clf : Bool) (lpdu : List ℕ) → StandsForTap k t → OneMore bare k t clf lpdu
one_more bare k t clf lpdu h = go (control_of lpdu) refl
  where
    go : (r : Result Control LpduFault) → control_of lpdu ≡ r → OneMore bare k t clf lpdu
    go (Ok c) q =
        let s = frame_stands bare k t clf c h in
        record { stands = rw q s.0; reports = rw q (s.1 ∙ sym (append-nil (tap_reports bare t clf c))) }
    go (Err fault) q = record { stands = rw q h; reports = rw q refl }

-- the tap that has become w by an LPDU stands for the list with it, and reports what is reported over that list and was not before
pub stands_on : (v w : TapValue) (clf : Bool) (lpdu : List ℕ) → w.bare ≡ v.bare → w.taken ≡ v.taken + 1 → w.kept ≡ kept_after_lpdu v.bare v.kept clf lpdu
    → (lpdus : List (Bool × List ℕ)) → StandsFor v lpdus → StandsFor w (lpdus ++ (clf, lpdu) ∷ [])
stands_on v w clf lpdu bare taken kept lpdus h =
    let o = one_more v.bare v.kept (tap_after v.bare new_tap (frames_read lpdus)) clf lpdu h.heard in
    let is : tap_after v.bare new_tap (frames_read (lpdus ++ (clf, lpdu) ∷ []))
    ≡ tap_after v.bare (tap_after v.bare new_tap (frames_read lpdus)) (frame_read clf (control_of lpdu)) =
    ap (tap_after v.bare new_tap) (read-append lpdus (clf, lpdu)) ∙ after-append v.bare new_tap (frames_read lpdus) (frame_read clf (control_of lpdu)) in
    let P : KeptTap → Type 0 = λ k. StandsForTap k (tap_after v.bare new_tap (frames_read (lpdus ++ (clf, lpdu) ∷ []))) in
    let Q : TapState → Type 0 = λ t. StandsForTap (kept_after_lpdu v.bare v.kept clf lpdu) t in
    let R : Bool → Type 0 = λ b. StandsForTap w.kept (tap_after b new_tap (frames_read (lpdus ++ (clf, lpdu) ∷ []))) in
    record {
      taken = omega (arith, taken, h.taken, length-append lpdus ((clf, lpdu) ∷ []));
      heard = subst R (sym bare) (subst P (sym kept) (subst Q (sym is) o.stands));
    }

pub reports_on : (v : TapValue) (clf : Bool) (lpdu : List ℕ) (lpdus : List (Bool × List ℕ)) → StandsFor v lpdus
    → tapped_lpdus v.bare (lpdus ++ (clf, lpdu) ∷ []) ≡ tapped_lpdus v.bare lpdus ++ kept_reports_lpdu v.bare v.kept clf lpdu
reports_on v clf lpdu lpdus h =
    let t : TapState = tap_after v.bare new_tap (frames_read lpdus) in
    let o = one_more v.bare v.kept t clf lpdu h.heard in
    ap (tapped v.bare) (read-append lpdus (clf, lpdu))
    ∙ (tapped-append v.bare new_tap (frames_read lpdus) (frame_read clf (control_of lpdu)) ∙ ap (λ z. tapped_lpdus v.bare lpdus ++ z) (sym o.reports))
