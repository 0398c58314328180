-- What pages hold, and what a write and its steps make of it.
use Rattle.std.proofs.lemmas.List.{take-take, length-append, get_or_append_left, get_or-append_right}
use Rattle.flash_nv.proofs.Words.{AreCells, ArePages, AreSteps, Bool, HasSector, IsClean, IsFrontWritten, IsKeptBeside, IsPut, List, Map, None, Option, Some}
use Rattle.flash_nv.proofs.Words.{ap, ap₂, arith, cases_Bool, cases_eq, cases_lt, content_byte, data_byte, drop, eq-eqb, eqb-true, ext_get_or, false}
use Rattle.flash_nv.proofs.Words.{false≢true, get_or-drop, get_or-map-range_with_len, get_or-set_other, get_or-set_same, get_or-take, header_at, if◌then◌else◌}
use Rattle.flash_nv.proofs.Words.{inl, inr, is_page_of, is_valid, length, length-content_front, length-drop, length-take, length-take-le, min, page_below}
use Rattle.flash_nv.proofs.Words.{page_of, refl, sector_of, sectors, slice_index, slice_index_or, slice_range, slice_set, subst, suc, sym, take, true}
use Rattle.flash_nv.proofs.Words.{version_of, version_on, zero-add, ℕ, ◌%◌, ◌&&◌, ◌*◌, ◌++◌, ◌+◌, ◌-◌, ◌/◌, ◌<◌, ◌==◌, ◌^◌, ◌∙◌, ◌≡◌, ◌≤◌, ◌⊎◌}
use Rattle.flash_nv.specs.Pages.{content_front, page_header, sector_byte, sector_version}
use Rattle.flash_nv.specs.Writing.{AreLaid, HasSpent, IsSectorKept, IsSectorWritten}
use Rattle.flash_nv.proofs.PageLemmas.{of_header, of_is_valid, page_below-best, page_stays, page_replaced}
use Rattle.flash_nv.proofs.PutLemmas.{same_header, made_sector, made_version, made_valid, OthersStay, apart, within-true}
use Rattle.flash_nv.specs.Maps.{IsNextFree, page_behind}
use Rattle.flash_nv.specs.Steps.{IsStep, laid_byte, piece_byte}
use Rattle.swp_base.specs.Outside.{overwritten, IsTorn}

pub and_second : (a b : Bool) → a && b ≡ true → b ≡ true
and_second a b e = grind arith

of_made : (s v : ℕ) → of_header s (page_header s v) ≡ true
of_made s v = ap₂ (λ a b. a && b) (made_valid s v) (ap (λ n. n == s) (made_sector s v) ∙ eq-eqb s s refl)

of_one : (s t v : ℕ) → of_header t (page_header s v) ≡ true → s ≡ t
of_one s t v e =
    sym (made_sector s v) ∙ eqb-true (sector_of (page_header s v)) t (and_second (is_valid (page_header s v)) (sector_of (page_header s v) == t) e)

-- the headers of the other pages stay
pub headers_stay : (old new : List ℕ) (p : ℕ) → AreCells old → AreCells new → OthersStay old new p → (q : ℕ) → q < 272 → (q ≡ p → ⊥)
    → header_at new q ≡ header_at old q
headers_stay old new p before after others q below other =
    same_header old new q before.size after.size below (λ i small. others (512 * q + i) (apart p q i (omega arith) other))

-- a sector that has its page still, which is another one, is kept
kept_by : (old new : List ℕ) (p t : ℕ) → AreCells old → AreCells new → OthersStay old new p → (page_of old t ≡ Some p → ⊥)
    → page_of new t ≡ page_of old t → IsSectorKept old new t
kept_by old new p t before after others unused same = record {
  page = same;
  version = ap (version_on new) same ∙ version_same (page_below old t 272) refl;
  bytes_are = λ j small. ap (λ o. data_byte new o j) same ∙ (grind arith);
}
  where
    other : (r : ℕ) → page_of old t ≡ Some r → r ≡ p → ⊥
    other r e at = unused (e ∙ ap Some at)

    version_same : (o : Option ℕ) → page_of old t ≡ o → version_on new o ≡ version_on old o
    version_same None e = refl
    version_same (Some r) e =
        ap version_of (headers_stay old new p before after others r ((page_below-best old t 272).found r e).0 (other r e))

-- where no page became one of a sector, it is kept
kept_where : (old new : List ℕ) (p t : ℕ) → AreCells old → AreCells new → OthersStay old new p → (page_of old t ≡ Some p → ⊥)
    → (is_page_of new t p ≡ true → header_at new p ≡ header_at old p) → IsSectorKept old new t
kept_where old new p t before after others unused faded =
    kept_by old new p t before after others unused
    (page_stays old new t (record { was = λ q below of. by_page q below of (cases_eq q p) })
    (λ r e. headers_stay old new p before after others r ((page_below-best old t 272).found r e).0 (λ at. unused (e ∙ ap Some at))))
  where
    by_page : (q : ℕ) → q < 272 → is_page_of new t q ≡ true → (q ≡ p) ⊎ (q ≡ p → ⊥) → header_at new q ≡ header_at old q
    by_page q below of (inl at) = grind arith
    by_page q below of (inr other) = headers_stay old new p before after others q below other

-- a page that has a sector in a greater version is that sector's page
pub page_is_new : (old new : List ℕ) (p s v : ℕ) (whole : List ℕ) → AreCells old → AreCells new → OthersStay old new p → p < 272 → v < 2 ^ 64
    → sector_version old s < v → HasSector new p s v whole → page_of new s ≡ Some p
page_is_new old new p s v whole before after others below fits greater has =
    page_replaced old new s p below (ap (of_header s) has.header ∙ of_made s v)
    (subst (λ n. sector_version old s < n) (sym (ap version_of has.header ∙ made_version s v fits)) greater)
    (headers_stay old new p before after others)

-- a sector that was put into a page that no sector has is written, or torn, and all others are kept
pub put_written : (ok : Bool) (old new : List ℕ) (p s v from : ℕ) (bytes whole : List ℕ) → IsPut ok old new p s v whole → IsClean old
    → p < 272 → s < 256 → v < 2 ^ 64 → sector_version old s < v → ((t : ℕ) → t < 256 → page_of old t ≡ Some p → ⊥)
    → ((j : ℕ) → j < 256 → (j < from) ⊎ (from + length bytes ≤ j) → slice_index whole j ≡ sector_byte old s j)
    → ((j : ℕ) → j < length bytes → slice_index whole (from + j) ≡ slice_index bytes j) → from + length bytes ≤ 256
    → IsSectorWritten ok old new s from bytes
put_written ok old new p s v from bytes whole put clean below inside fits greater unused around within room = record {
  clean = put.clean clean;
  others = λ t small other.
      kept_where old new p t put.before put.after put.others (unused t small) (by_header t other (cases_Bool (is_valid (header_at new p))));
  beside = λ j small out. by_valid j small out (cases_Bool (is_valid (header_at new p)));
  there = λ e j small. has_byte (put.done e) (from + j) (omega arith) ∙ within j small;
}
  where
    has_byte : HasSector new p s v whole → (j : ℕ) → j < 256 → sector_byte new s j ≡ slice_index whole j
    has_byte has j small =
        ap (λ o. data_byte new o j) (page_is_new old new p s v whole put.before put.after put.others below fits greater has) ∙ has.bytes_are j small

    by_put : (t : ℕ) → (t ≡ s → ⊥) → is_page_of new t p ≡ true → (header_at new p ≡ header_at old p) ⊎ HasSector new p s v whole
        → header_at new p ≡ header_at old p
    by_put t other of (inl same) = same
    by_put t other of (inr has) = absurd (other (sym (of_one s t v (sym (ap (of_header t) has.header) ∙ of))))

    by_header : (t : ℕ) → (t ≡ s → ⊥) → (is_valid (header_at new p) ≡ true) ⊎ (is_valid (header_at new p) ≡ false) → is_page_of new t p ≡ true
        → header_at new p ≡ header_at old p
    by_header t other (inl valid) of = by_put t other of (put.valid clean valid)
    by_header t other (inr invalid) of = absurd (false≢true (sym invalid ∙ of_is_valid new t p of))

    by_has : (j : ℕ) → j < 256 → (j < from) ⊎ (from + length bytes ≤ j) → (header_at new p ≡ header_at old p) ⊎ HasSector new p s v whole
        → sector_byte new s j ≡ sector_byte old s j
    by_has j small out (inl same) = (kept_where old new p s put.before put.after put.others (unused s inside) (λ of. same)).bytes_are j small
    by_has j small out (inr has) = has_byte has j small ∙ around j small out

    by_valid : (j : ℕ) → j < 256 → (j < from) ⊎ (from + length bytes ≤ j) → (is_valid (header_at new p) ≡ true) ⊎ (is_valid (header_at new p) ≡ false)
        → sector_byte new s j ≡ sector_byte old s j
    by_valid j small out (inl valid) = by_has j small out (put.valid clean valid)
    by_valid j small out (inr invalid) =
        (kept_where old new p s put.before put.after put.others (unused s inside)
        (λ of. absurd (false≢true (sym invalid ∙ of_is_valid new s p of)))).bytes_are j small

-- the table with the new page
pub put_pages : (old new : List ℕ) (p s v from : ℕ) (bytes whole : List ℕ) (pages : List (Option ℕ)) → IsPut true old new p s v whole
    → IsSectorWritten true old new s from bytes → p < 272 → s < 256 → length pages ≡ 256 → v < 2 ^ 64 → sector_version old s < v
    → ArePages old pages → ArePages new (slice_set pages s (Some p))
put_pages old new p s v from bytes whole pages put written below inside len fits greater are t small = by_sector (cases_eq t s)
  where
    by_sector : (t ≡ s) ⊎ (t ≡ s → ⊥) → slice_index_or (slice_set pages s (Some p)) t None ≡ page_of new t
    by_sector (inl at) =
        ap (λ n. slice_index_or (slice_set pages s (Some p)) n None) at ∙ get_or-set_same pages s (Some p) None (subst (λ n. s < n) (sym len) inside)
        ∙ sym (page_is_new old new p s v whole put.before put.after put.others below fits greater (put.done refl)) ∙ ap (page_of new) (sym at)
    by_sector (inr other) = get_or-set_other pages s t (Some p) None other ∙ are t small ∙ sym (written.others t small other).page

-- ---- what reads and writes make of the content, sector by sector

-- a part of a list
pub part-at : (xs : List ℕ) (from to j : ℕ) → from + j < to → slice_index (slice_range xs from to) j ≡ slice_index xs (from + j)
part-at xs from to j inside = get_or-take (to - from) (drop from xs) j 0 (omega arith) ∙ get_or-drop from xs j 0

-- a sector whose old bytes are laid over is written
pub piece_written : (ok : Bool) (old mid new : List ℕ) (pages : List (Option ℕ)) (page : Option ℕ) (p s version from : ℕ) (bytes before whole : List ℕ)
    → mid ≡ old → IsPut ok mid new p s (version + 1) whole → IsClean old → ArePages old pages → page ≡ slice_index_or pages s None
    → version ≡ version_on old page → version + 1 < 2 ^ 64 → p < 272 → s < 256
    → ((t : ℕ) → t < 256 → slice_index_or pages t None ≡ Some p → ⊥) → ((j : ℕ) → j < 256 → slice_index before j ≡ data_byte old page j)
    → AreLaid before whole from bytes → from + length bytes ≤ 256 → IsSectorWritten ok old new s from bytes
piece_written ok old mid new pages page p s version from bytes before whole same put clean are page_is version_is fits below inside free was laid room =
    put_written ok old new p s (version + 1) from bytes whole (subst (λ m. IsPut ok m new p s (version + 1) whole) same put) clean below inside fits
    (omega (arith, version_is ∙ ap (version_on old) (page_is ∙ are s inside)))
    (λ t small e. free t small (are t small ∙ e))
    (λ j small out. laid.beside j out ∙ was j small ∙ ap (λ o. data_byte old o j) (page_is ∙ are s inside))
    laid.there room

pub piece_pages : (old mid new : List ℕ) (pages : List (Option ℕ)) (page : Option ℕ) (p s version from : ℕ) (bytes whole : List ℕ)
    → mid ≡ old → IsPut true mid new p s (version + 1) whole → IsSectorWritten true old new s from bytes → ArePages old pages
    → page ≡ slice_index_or pages s None → version ≡ version_on old page → version + 1 < 2 ^ 64 → p < 272 → s < 256 → length pages ≡ 256
    → ArePages new (slice_set pages s (Some p))
piece_pages old mid new pages page p s version from bytes whole same put written are page_is version_is fits below inside len =
    put_pages old new p s (version + 1) from bytes whole pages (subst (λ m. IsPut true m new p s (version + 1) whole) same put) written below inside len fits
    (omega (arith, version_is ∙ ap (version_on old) (page_is ∙ are s inside))) are

-- where the bytes of a range stand
pub in_sector : (at s from : ℕ) → at ≡ 256 * s + from → from < 256 → (at / 256 ≡ s) × (at % 256 ≡ from)
in_sector at s from is small = (omega arith, omega arith)

-- a byte that is beside a written piece is as it was
piece_beside : (ok : Bool) (mid new : List ℕ) (s from : ℕ) (piece : List ℕ) → IsSectorWritten ok mid new s from piece → (i : ℕ) → i < 65536
    → (i < 256 * s + from) ⊎ (256 * s + from + length piece ≤ i) → content_byte new i ≡ content_byte mid i
piece_beside ok mid new s from piece written i small out = grind arith

-- at the start nothing was written
pub front_none : (old : List ℕ) (at : ℕ) (bytes : List ℕ) → IsClean old → IsFrontWritten old old at bytes 0
front_none old at bytes clean = grind arith

-- a piece, written or torn, changes no byte beside the range
pub front_beside : (ok : Bool) (old mid new : List ℕ) (at : ℕ) (bytes : List ℕ) (done s from : ℕ) (piece : List ℕ) → at + done ≡ 256 * s + from
    → done + length piece ≤ length bytes → IsFrontWritten old mid at bytes done → IsSectorWritten ok mid new s from piece
    → IsKeptBeside old new at (length bytes)
front_beside ok old mid new at bytes done s from piece place room front written = grind arith

-- one more piece
pub front_more : (old mid new : List ℕ) (at : ℕ) (bytes : List ℕ) (done len s from : ℕ) → at + done ≡ 256 * s + from → from + len ≤ 256 → 0 < len
    → done + len ≤ length bytes → at + length bytes ≤ 65536 → length (slice_range bytes done (done + len)) ≡ len → IsFrontWritten old mid at bytes done
    → IsSectorWritten true mid new s from (slice_range bytes done (done + len)) → IsFrontWritten old new at bytes (done + len)
front_more old mid new at bytes done len s from place inside some room fits size front written = record {
  kept = front_beside true old mid new at bytes done s from piece place (omega (arith, size)) front written;
  there = λ i small. by_place i small (cases_lt i done);
  behind = λ t small out. kept_behind t small (is_other t out) (front.behind t small (grind arith));
}
  where
    piece : List ℕ
    piece = slice_range bytes done (done + len)

    by_place : (i : ℕ) → i < done + len → (i < done) ⊎ (done ≤ i) → content_byte new (at + i) ≡ slice_index bytes i
    by_place i small (inl before) =
        piece_beside true mid new s from piece written (at + i) (omega arith) (inl (omega arith)) ∙ front.there i before
    by_place i small (inr now) =
        let j : at + i ≡ 256 * s + (from + (i - done)) = omega arith in
        (grind arith) ∙ written.there refl (i - done) (omega (arith, size))
        ∙ part-at bytes done (done + len) (i - done) (omega arith) ∙ ap (slice_index bytes) (omega arith)

    is_other : (t : ℕ) → (done + len ≡ 0) ⊎ (at + (done + len) ≤ 256 * t) → t ≡ s → ⊥
    is_other t a e = grind arith

    kept_behind : (t : ℕ) → t < 256 → (t ≡ s → ⊥) → IsSectorKept old mid t → IsSectorKept old new t
    kept_behind t small other before = grind arith

-- a sector that is to be written and has the last version had it before
pub spent_before : (old mid new : List ℕ) (at : ℕ) (bytes : List ℕ) (done s from : ℕ) → at + done ≡ 256 * s + from → from < 256 → done < length bytes
    → at + length bytes ≤ 65536 → (done ≡ 0) ⊎ (from ≡ 0) → IsFrontWritten old mid at bytes done → sector_version mid s ≡ 2 ^ 64 - 1
    → new ≡ mid → HasSpent old new at (length bytes)
spent_before old mid new at bytes done s from place small more fits edge front last same = grind arith

pub part-length : (xs : List ℕ) (from len : ℕ) → from + len ≤ length xs → length (slice_range xs from (from + len)) ≡ len
part-length xs from len inside = length-take (from + len - from) (drop from xs) ∙ ap (min (from + len - from)) (length-drop from xs) ∙ omega arith

-- the header and the bytes of a page that was read whole
pub image_header : (cells image : List ℕ) (p : ℕ) → image ≡ slice_range cells (512 * p) (512 * p + 274) → take 18 image ≡ header_at cells p
image_header cells image p is =
    ap (take 18) is ∙ take-take 18 (512 * p + 274 - 512 * p) (drop (512 * p) cells) (omega arith)
    ∙ ap (λ n. take n (drop (512 * p) cells)) (same 18 (512 * p))
  where
    same : (n m : ℕ) → n ≡ m + n - m
    same n m = omega arith

pub image_byte : (cells image : List ℕ) (p : ℕ) → image ≡ slice_range cells (512 * p) (512 * p + 274) → (j : ℕ) → j < 256
    → slice_index image (18 + j) ≡ slice_index cells (512 * p + 18 + j)
image_byte cells image p is j small =
    ap (λ xs. slice_index xs (18 + j)) is ∙ part-at cells (512 * p) (512 * p + 274) (18 + j) (omega arith) ∙ ap (slice_index cells) (omega arith)

-- a piece ends at the end of a sector or of the bytes
pub edge_more : (at done total len : ℕ) → len ≡ min (256 - (at + done) % 256) (total - done) → done < total
    → (done + len ≡ 0) ⊎ ((done + len ≡ total) ⊎ ((at + (done + len)) % 256 ≡ 0))
edge_more at done total len is more = grind arith

pub at_edge : (done total from : ℕ) → done < total → (done ≡ 0) ⊎ ((done ≡ total) ⊎ (from ≡ 0)) → (done ≡ 0) ⊎ (from ≡ 0)
at_edge done total from more a = grind arith

-- ---- the pages that a write makes, sector by sector

-- the bytes that were put are those of the sector with the piece laid over them
pub piece_step : (old mid new : List ℕ) (before after : Map) (page : Option ℕ) (p s version from : ℕ) (bytes was whole : List ℕ) → mid ≡ old
    → IsPut true mid new p s (version + 1) whole → ArePages old before.pages → page ≡ slice_index_or before.pages s None → version ≡ version_on old page
    → s < 256 → IsNextFree before p → after ≡ record { pages = slice_set before.pages s (Some p); next = page_behind p }
    → ((j : ℕ) → j < 256 → slice_index was j ≡ data_byte old page j) → AreLaid was whole from bytes
    → IsStep old new before after s (piece_byte old s from bytes)
piece_step old mid new before after page p s version from bytes was whole same put are page_is version_is inside free map bytes_were laid = grind arith

-- a piece that ends at the end of its sector or of the bytes lays what the whole write lays there
piece_is_laid : (cells : List ℕ) (s at from : ℕ) (bytes : List ℕ) (done len : ℕ) → at + done ≡ 256 * s + from → from < 256
    → len ≡ min (256 - from) (length bytes - done) → done < length bytes → (done ≡ 0) ⊎ (from ≡ 0) → length (slice_range bytes done (done + len)) ≡ len
    → (j : ℕ) → j < 256 → piece_byte cells s from (slice_range bytes done (done + len)) j ≡ laid_byte cells s at bytes j
piece_is_laid cells s at from bytes done len place small_from is more edge size j small = by_low (cases_lt j from)
  where
    piece : List ℕ
    piece = slice_range bytes done (done + len)

    beside : (j < from) ⊎ (from + length piece ≤ j) → (256 * s + j < at) ⊎ (at + length bytes ≤ 256 * s + j)
        → piece_byte cells s from piece j ≡ laid_byte cells s at bytes j
    beside a b = grind arith

    by_high : from ≤ j → (j < from + len) ⊎ (from + len ≤ j) → piece_byte cells s from piece j ≡ laid_byte cells s at bytes j
    by_high low (inl high) =
        ap (λ t. if t then slice_index piece (j - from) else sector_byte cells s j) (within-true from (length piece) j low (omega (arith, size)))
        ∙ part-at bytes done (done + len) (j - from) (omega arith) ∙ ap (slice_index bytes) (omega arith)
        ∙ ap (λ t. if t then slice_index bytes (256 * s + j - at) else sector_byte cells s j)
        (sym (within-true at (length bytes) (256 * s + j) (omega arith) (omega arith)))
    by_high low (inr past) = beside (inr (omega (arith, size))) (inr (omega arith))

    by_low : (j < from) ⊎ (from ≤ j) → piece_byte cells s from piece j ≡ laid_byte cells s at bytes j
    by_low (inl low) = beside (inl low) (grind arith)
    by_low (inr low) = by_high low (cases_lt j (from + len))

more_sectors : (at done len s from : ℕ) → at + done ≡ 256 * s + from → from + len ≤ 256 → 0 < len → (done ≡ 0) ⊎ (from ≡ 0)
    → sectors at (done + len) ≡ suc (sectors at done)
more_sectors at done len s from place room some edge = grind arith

pub steps_none : (at : ℕ) (bytes old : List ℕ) (first : Map) → AreSteps (sectors at 0) at bytes old first old first
steps_none at bytes old first = (refl, refl)

-- one more sector
pub steps_more : (old mid new : List ℕ) (first map last : Map) (at : ℕ) (bytes : List ℕ) (done len s from : ℕ) → at + done ≡ 256 * s + from → from < 256
    → len ≡ min (256 - from) (length bytes - done) → done < length bytes → (done ≡ 0) ⊎ (from ≡ 0) → length (slice_range bytes done (done + len)) ≡ len
    → AreSteps (sectors at done) at bytes old first mid map → IsStep mid new map last s (piece_byte mid s from (slice_range bytes done (done + len)))
    → AreSteps (sectors at (done + len)) at bytes old first new last
steps_more old mid new first map last at bytes done len s from place small is more edge size so_far step =
    subst (λ n. AreSteps n at bytes old first new last) (sym (more_sectors at done len s from place (omega arith) (omega arith) edge))
    (mid, map, so_far, subst (λ t. IsStep mid new map last t (laid_byte mid t at bytes)) (sym (grind arith)) laid)
  where
    laid : IsStep mid new map last s (laid_byte mid s at bytes)
    laid = record {
      page = step.page;
      free = step.free;
      map = step.map;
      header = step.header;
      bytes_are = λ j inside. step.bytes_are j inside ∙ piece_is_laid mid s at from bytes done len place small is more edge size j inside;
      others = step.others;
    }

-- ---- the content as a list, as `Nv` tells of it

pub content_front-at : (cells : List ℕ) (n i : ℕ) → i < n → slice_index (content_front cells n) i ≡ content_byte cells i
unfolding content_front
content_front-at cells n i small = get_or-map-range_with_len (content_byte cells) 0 n i i 0 small (zero-add i)

-- bytes that are those of the content are a part of it
pub read_front : (cells : List ℕ) (n : ℕ) (buf : List ℕ) (at m : ℕ) → length buf ≡ m → at + m ≤ n
    → ((i : ℕ) → i < length buf → slice_index buf i ≡ content_byte cells (at + i)) → buf ≡ slice_range (content_front cells n) at (at + m)
read_front cells n buf at m size inside is =
    ext_get_or 0 buf (slice_range (content_front cells n) at (at + m))
    (size ∙ sym (part-length (content_front cells n) at m (omega (arith, length-content_front cells n))))
    (λ i small. is i small ∙ sym (content_front-at cells n (at + i) (omega arith)) ∙ sym (part-at (content_front cells n) at (at + m) i (omega arith)))

-- a list that has the bytes in a range and is as it was beside it is overwritten there
laid_over : (old new bytes : List ℕ) (at : ℕ) → length new ≡ length old → at + length bytes ≤ length old
    → ((i : ℕ) → i < length old → (i < at) ⊎ (at + length bytes ≤ i) → slice_index new i ≡ slice_index old i)
    → ((k : ℕ) → k < length bytes → slice_index new (at + k) ≡ slice_index bytes k) → new ≡ overwritten old at bytes
laid_over old new bytes at same room beside there =
    ext_get_or 0 new (overwritten old at bytes)
    (omega (arith, same, length-append (take at old ++ bytes) (drop (at + length bytes) old), both_long, length-drop (at + length bytes) old))
    (λ i small. by_low i (omega arith) (cases_lt i at))
  where
    front_long : length (take at old) ≡ at
    front_long = length-take-le at old (omega arith)

    both_long : length (take at old ++ bytes) ≡ at + length bytes
    both_long = length-append (take at old) bytes ∙ ap (λ n. n + length bytes) front_long

    by_high : (i : ℕ) → i < length old → at ≤ i → (i < at + length bytes) ⊎ (at + length bytes ≤ i)
        → slice_index new i ≡ slice_index (overwritten old at bytes) i
    by_high i small low (inl inside) =
        let e : at + (i - at) ≡ i = omega arith in
        subst (λ n. slice_index new n ≡ slice_index bytes (i - at)) e (there (i - at) (omega arith))
        ∙ sym (get_or-append_right (take at old) bytes at i 0 front_long low)
        ∙ sym (get_or_append_left (take at old ++ bytes) (drop (at + length bytes) old) 0 i (omega (arith, both_long)))
    by_high i small low (inr past) =
        let e : at + length bytes + (i - (at + length bytes)) ≡ i = omega arith in
        beside i small (inr past) ∙ ap (slice_index old) (sym e) ∙ sym (get_or-drop (at + length bytes) old (i - (at + length bytes)) 0)
        ∙ sym (get_or-append_right (take at old ++ bytes) (drop (at + length bytes) old) (at + length bytes) i 0 both_long past)

    by_low : (i : ℕ) → i < length old → (i < at) ⊎ (at ≤ i) → slice_index new i ≡ slice_index (overwritten old at bytes) i
    by_low i small (inl below) =
        beside i small (inl below) ∙ sym (get_or-take at old i 0 below)
        ∙ sym (get_or_append_left (take at old) bytes 0 i (omega (arith, front_long)))
        ∙ sym (get_or_append_left (take at old ++ bytes) (drop (at + length bytes) old) 0 i (omega (arith, both_long)))
    by_low i small (inr low) = by_high i small low (cases_lt i (at + length bytes))

-- a write that went through
pub written_front : (old new : List ℕ) (n at : ℕ) (bytes : List ℕ) → at + length bytes ≤ n
    → ((i : ℕ) → i < n → (i < at) ⊎ (at + length bytes ≤ i) → content_byte new i ≡ content_byte old i)
    → ((k : ℕ) → k < length bytes → content_byte new (at + k) ≡ slice_index bytes k) → content_front new n ≡ overwritten (content_front old n) at bytes
written_front old new n at bytes room beside there =
    laid_over (content_front old n) (content_front new n) bytes at (length-content_front new n ∙ sym (length-content_front old n))
    (omega (arith, length-content_front old n))
    (λ i small out. let inside : i < n = subst (λ m. i < m) (length-content_front old n) small in
    content_front-at new n i inside ∙ beside i inside out ∙ sym (content_front-at old n i inside))
    (λ k small. content_front-at new n (at + k) (omega arith) ∙ there k small)

-- a write that was torn
pub torn_front : (old new : List ℕ) (n at len : ℕ) → at + len ≤ n
    → ((i : ℕ) → i < n → (i < at) ⊎ (at + len ≤ i) → content_byte new i ≡ content_byte old i)
    → IsTorn (content_front old n) (content_front new n) at len
torn_front old new n at len room beside = (
  slice_range (content_front new n) at (at + len),
  long,
  laid_over (content_front old n) (content_front new n) (slice_range (content_front new n) at (at + len)) at
      (length-content_front new n ∙ sym (length-content_front old n)) (omega (arith, long, length-content_front old n))
      (λ i small out. let inside : i < n = subst (λ m. i < m) (length-content_front old n) small in
      content_front-at new n i inside ∙ beside i inside (subst (λ m. (i < at) ⊎ (at + m ≤ i)) long out) ∙ sym (content_front-at old n i inside))
      (λ k small. sym (part-at (content_front new n) at (at + len) k (omega (arith, long)))),
)
  where
    long : length (slice_range (content_front new n) at (at + len)) ≡ len
    long = part-length (content_front new n) at len (omega (arith, length-content_front new n))
