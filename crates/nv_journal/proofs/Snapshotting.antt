-- The bytes of a snapshot.
use Rattle.std.specs.List.{AllByRecursion}
use Rattle.nv_journal.proofs.Words.{AreRecords, Found, List, [], add-zero, ap, append-nil, append_assoc, ap₂, arith, behind, bodies_of, length, length-append}
use Rattle.nv_journal.proofs.Words.{record_bytes, refl, size_in, subst, sym, used, zero-add, ℕ, ◌++◌, ◌+◌, ◌-◌, ◌∙◌, ◌∷◌, ◌≡◌, ◌≤◌}
use Rattle.journal_laws.specs.Records.{IsBody, found_from, records_bytes}
use Rattle.journal_laws.proofs.Reading.{found_closed, records_are_read, length-records_bytes, few_records}

records_bytes-append : (position : ℕ) (bodies : List (List ℕ)) (body : List ℕ)
    → records_bytes position (bodies ++ body ∷ []) ≡ records_bytes position bodies ++ 90 ∷ record_bytes (position + length bodies) body
records_bytes-append position [] body = append-nil (90 ∷ record_bytes position body) ∙ ap (λ p. 90 ∷ record_bytes p body) (sym (add-zero position))
records_bytes-append position (first ∷ bodies) body =
    ap (λ l. (90 ∷ record_bytes position first) ++ l) (records_bytes-append (position + 1) bodies body)
    ∙ sym (append_assoc (90 ∷ record_bytes position first) (records_bytes (position + 1) bodies) (90 ∷ record_bytes (position + 1 + length bodies) body))
    ∙ ap (λ p. records_bytes position (first ∷ bodies) ++ 90 ∷ record_bytes p body) (omega arith)

pub size_in-append : (version : ℕ) (xs ys : List (List ℕ)) → size_in version (xs ++ ys) ≡ size_in version xs + size_in version ys
size_in-append version [] ys = omega arith
size_in-append version (x ∷ xs) ys = omega (arith, size_in-append version xs ys)

all-append : (xs : List (List ℕ)) (y : List ℕ) → AllByRecursion IsBody xs → IsBody y → AllByRecursion IsBody (xs ++ y ∷ [])
all-append [] y all short = (short, tt)
all-append (x ∷ xs) y all short = (all.0, all-append xs y all.1 short)

-- the bodies are read again
pub bodies_of_records : (bodies : List (List ℕ)) → AllByRecursion IsBody bodies → used bodies ≤ 2560 → bodies_of (records_bytes 0 bodies) ≡ bodies
bodies_of_records bodies short room =
    let size = length-records_bytes 0 bodies in
    let few = few_records bodies in
    ap (λ (f : Found). f.bodies)
    (fuel (length (records_bytes 0 bodies)) (omega arith)
    ∙ ap (λ r. behind bodies (length (records_bytes 0 bodies)) r) (found_closed 2 _ (0 + length bodies) (255 ∷ []) refl))
    ∙ append-nil bodies
  where
    fuel : (n : ℕ) → length bodies ≤ n → found_from 2 n 0 (records_bytes 0 bodies ++ 255 ∷ [])
        ≡ behind bodies (length (records_bytes 0 bodies)) (found_from 2 (n - length bodies) (0 + length bodies) (255 ∷ []))
    fuel n enough =
        ap (λ m. found_from 2 m 0 (records_bytes 0 bodies ++ 255 ∷ [])) (omega arith)
        ∙ records_are_read (n - length bodies) 0 bodies (255 ∷ []) (omega (arith, few_records bodies)) short (omega arith)

module _ (bytes : List ℕ) (many : ℕ) (body : List ℕ) (old : AreRecords bytes many (bodies_of bytes)) (short : IsBody body)
    (room : used (bodies_of bytes) + length body + 4 ≤ 2560) where
  abbrev bodies : List (List ℕ)
  bodies = bodies_of bytes

  abbrev longer : List ℕ
  longer = bytes ++ 90 ∷ record_bytes many body

  longer_is : longer ≡ records_bytes 0 (bodies ++ body ∷ [])
  longer_is =
      ap₂ (λ l m. l ++ 90 ∷ record_bytes m body) old.bytes_are (old.many_is ∙ sym (zero-add (length bodies)))
      ∙ sym (records_bytes-append 0 bodies body)

  room_then : used (bodies ++ body ∷ []) ≤ 2560
  room_then = omega (arith, size_in-append 2 bodies (body ∷ []), room)

  pub one_more_body : bodies_of longer ≡ bodies ++ body ∷ []
  one_more_body = ap bodies_of longer_is ∙ bodies_of_records (bodies ++ body ∷ []) (all-append bodies body old.short short) room_then

  pub still_records : AreRecords longer (many + 1) (bodies_of longer)
  still_records = record {
    bytes_are = longer_is ∙ ap (records_bytes 0) (sym one_more_body);
    many_is = ap (λ n. n + 1) old.many_is ∙ sym (length-append bodies (body ∷ [])) ∙ ap length (sym one_more_body);
    short = subst (AllByRecursion IsBody) (sym one_more_body) (all-append bodies body old.short short);
    room = subst (λ l. used l ≤ 2560) (sym one_more_body) room_then;
  }

pub size_of_bytes : (bytes : List ℕ) (many : ℕ) (bodies : List (List ℕ)) → AreRecords bytes many bodies → length bytes ≡ used bodies
size_of_bytes bytes many bodies are = ap length are.bytes_are ∙ length-records_bytes 0 bodies

pub few_bodies : (bytes : List ℕ) (many : ℕ) (bodies : List (List ℕ)) → AreRecords bytes many bodies → many ≤ 640
few_bodies bytes many bodies are = omega (arith, few_records bodies, are.many_is, are.room)

-- nothing is read of no bytes
pub no_bodies : (bytes : List ℕ) → bytes ≡ [] → bodies_of bytes ≡ []
unfolding found_from
no_bodies bytes none = ap bodies_of none

pub no_records : (bytes : List ℕ) → bytes ≡ [] → AreRecords bytes 0 (bodies_of bytes)
no_records bytes none = record {
  bytes_are = none ∙ ap (records_bytes 0) (sym (no_bodies bytes none));
  many_is = ap length (sym (no_bodies bytes none));
  short = subst (AllByRecursion IsBody) (sym (no_bodies bytes none)) tt;
  room = subst (λ l. used l ≤ 2560) (sym (no_bodies bytes none)) (omega arith);
}
