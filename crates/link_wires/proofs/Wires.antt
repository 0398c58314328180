-- The frames on a wire: one more is put there, and all grow older.
use Rattle.std.proofs.Common.{length-append}
use Rattle.std.proofs.lemmas.List.{append-nil}
use Rattle.std.proofs.lemmas.Grind.{common_steps}
use Rattle.std.proofs.lemmas.Bool.{ltb-true, ltb-false, lt-ltb, le-ltb}
use Rattle.std.specs.Prelude.{nat_lt, slice_get}
use Rattle.std.specs.List.{AllByRecursion}
use Rattle.link_wires.proofs.Words.{AreNoted, Buffer, End, Entry, Flying, IsMade, List, None, Noted, OnWire, Option, Some, WireStandsFor, [], ap, append_assoc}
use Rattle.link_wires.proofs.Words.{arith, by_test, cond, drop, entries_for, false, fits, kept_of, length, lpdu_of, map, pushed_out, refl, side_of, suc, sym}
use Rattle.link_wires.proofs.Words.{true, ℕ, ◌++◌, ◌+◌, ◌-◌, ◌<◌, ◌∙◌, ◌∷◌, ◌≡◌, ◌≤◌}
use Rattle.circular_buffer.specs.Buffer.{buffer, keep_last}
use Rattle.trace_model.specs.declared.entry.Entry.TheVariants as entry
use Rattle.trace_model.specs.declared.entry.LostCause.TheVariants.{Age, Full}
use Rattle.link_laws.specs.sessions.Sessions.{aged_wire}
use Rattle.link_laws.specs.entries.Entries.{aged_entries}
use Rattle.link_laws.specs.entries.Entries.Entry.{Lost}
use Rattle.link_laws.specs.messages.Links.Loss.{TooOld, TooMany}
use Rattle.link_wires.proofs.Notes.{end_is, more_noted}
use Rattle.link_laws.proofs.Cases.{by_list}

map-append : (a b : List OnWire) → map kept_of (a ++ b) ≡ map kept_of a ++ map kept_of b
map-append a b = grind (arith, common_steps)

length-map : (a : List OnWire) → length (map kept_of a) ≡ length a
length-map a = grind (arith, common_steps)

all_joined : (a b : List OnWire) → AllByRecursion IsMade a → AllByRecursion IsMade b → AllByRecursion IsMade (a ++ b)
all_joined [] b p q = q
all_joined (x ∷ a) b p q = (p.0, all_joined a b p.1 q)

keep_all : (n : ℕ) (xs : List Flying) → length xs ≤ n → keep_last n xs ≡ xs
keep_all n xs i = let z : length xs - n ≡ 0 = omega (arith, i) in ap (λ k. drop k xs) z

keep_but_one : (n : ℕ) (x : Flying) (xs : List Flying) → length xs ≡ n → keep_last n (x ∷ xs) ≡ xs
keep_but_one n x xs q = let z : suc (length xs) - n ≡ 1 = omega (arith, q) in ap (λ k. drop k (x ∷ xs)) z

abbrev or_this : Flying → Option Flying → Flying
or_this a None = a
or_this a (Some b) = b

some_is : (a b : Flying) → Some a ≡ Some b → a ≡ b
some_is a b p = ap (or_this a) p

-- a frame was lost on its way to an end
lost_entry : (to : End) (x : OnWire) → entries_for to.link (Lost (side_of to) x.frame TooMany ∷ []) ≡ entry.Lost to (lpdu_of x.frame) Full ∷ []
lost_entry to x = ap (λ z. entry.Lost z (lpdu_of x.frame) Full ∷ []) (end_is to)

lengths : (wire : Buffer Flying) (frames : List OnWire) → WireStandsFor wire frames → length wire.items ≡ length frames
lengths wire frames w = ap length w.frames ∙ length-map frames

some_first : (l : List Flying) (f : Flying) → slice_get (l ++ f ∷ []) 0 ≡ None → ⊥
some_first [] f p = cc
some_first (x ∷ l) f p = cc

-- a frame was put last on a wire, and this one was pushed out, where one was
pub record IsPutLast (wire new : Buffer Flying) (flying : Flying) (out : Option Flying) : Type 0 where
  pub out_is : out ≡ cond (nat_lt (length wire.items) wire.capacity) None (slice_get (wire.items ++ flying ∷ []) 0)
  pub new_is : new ≡ buffer (keep_last wire.capacity (wire.items ++ flying ∷ [])) wire.capacity

was_lost : {wire new : Buffer Flying} {flying lost : Flying} {frames : List OnWire} → WireStandsFor wire frames → IsPutLast wire new flying (Some lost)
    → (length frames ≡ 64) × (Some lost ≡ slice_get (wire.items ++ flying ∷ []) 0)
was_lost {wire} {flying} {lost} {frames} w put =
    by_test (nat_lt (length wire.items) wire.capacity)
    (λ q. absurd (let z : Some lost ≡ None = rw q at put.out_is in cc))
    (λ q.
    let z : Some lost ≡ slice_get (wire.items ++ flying ∷ []) 0 = rw q at put.out_is in
    let f = w.few in let k = w.capacity in (omega (arith, (ltb-false (length wire.items) wire.capacity q), (lengths wire frames w), f, k), z))

pub not_full : {wire new : Buffer Flying} {flying : Flying} {frames : List OnWire} → WireStandsFor wire frames → IsPutLast wire new flying None
    → length frames < 64
not_full {wire} {flying} {frames} w put =
    by_test (nat_lt (length wire.items) wire.capacity)
    (λ q.
    let l = lengths wire frames w in let k = w.capacity in omega (arith, (ltb-true (length wire.items) wire.capacity q), l, k))
    (λ q.
    absurd (some_first wire.items flying (sym (rw q at put.out_is))))

-- there was room
pub has_room : {wire new : Buffer Flying} {flying : Flying} {frames : List OnWire} (x : OnWire) (to : End) (entries : List Entry)
    → WireStandsFor wire frames → flying ≡ kept_of x → IsMade x → new ≡ buffer (keep_last wire.capacity (wire.items ++ flying ∷ [])) wire.capacity
    → length frames < 64
    → WireStandsFor new (fits (frames ++ x ∷ [])) × AreNoted to entries entries (pushed_out (side_of to) (frames ++ x ∷ []))
has_room {wire} {new} {flying} {frames} x to entries w is read made few =
    let all : List OnWire = frames ++ x ∷ [] in
    let len : length all ≡ length frames + 1 = length-append frames (x ∷ []) in
    let small : nat_lt 64 (length all) ≡ false = le-ltb 64 (length all) (omega (arith, len, few)) in
    let items : wire.items ++ flying ∷ [] ≡ map kept_of all =
    ap (λ l. l ++ flying ∷ []) w.frames ∙ (ap (λ f. map kept_of frames ++ f ∷ []) is ∙ sym (map-append frames (x ∷ []))) in
    let kept : keep_last 64 (map kept_of all) ≡ map kept_of all = keep_all 64 (map kept_of all) (let z = length-map all in omega (arith, z, len, few)) in
    let new_is : new ≡ buffer (map kept_of all) 64 =
    made ∙ ap (λ n. buffer (keep_last n (wire.items ++ flying ∷ [])) n) w.capacity ∙ ap (λ l. buffer (keep_last 64 l) 64) items
    ∙ ap (λ l. buffer l 64) kept in
    let stays : fits all ≡ all = rw small refl in (
      rw stays (record {
        frames = ap (λ (b : Buffer Flying). b.items) new_is;
        capacity = ap (λ (b : Buffer Flying). b.capacity) new_is;
        few = omega (arith, len, few);
        made = all_joined frames (x ∷ []) w.made (read, tt);
      }),
      (let z : pushed_out (side_of to) all ≡ [] = rw small refl in sym (ap (λ n. entries ++ entries_for to.link n) z ∙ append-nil entries)),
    )

-- the wire was full, so that its first frame was lost
pub was_full : {wire new : Buffer Flying} {flying lost : Flying} {now : List Entry} (frames : List OnWire) (x : OnWire) (to : End)
    (before : List Entry) → WireStandsFor wire frames → flying ≡ kept_of x → IsMade x → IsPutLast wire new flying (Some lost)
    → now ≡ before ++ entry.Lost to lost.lpdu Full ∷ []
    → WireStandsFor new (fits (frames ++ x ∷ [])) × AreNoted to before now (pushed_out (side_of to) (frames ++ x ∷ []))
was_full [] x to before w is read put noted = absurd (let full = (was_lost w put).0 in omega (arith, full))
was_full {wire} {new} {flying} {lost} (y ∷ frames) x to before w is read put noted =
    let full = (was_lost w put).0 in
    let all : List OnWire = frames ++ x ∷ [] in
    let len : length all ≡ length frames + 1 = length-append frames (x ∷ []) in
    let big : nat_lt 64 (suc (length all)) ≡ true = lt-ltb 64 (suc (length all)) (omega (arith, len, full)) in
    let items : wire.items ++ flying ∷ [] ≡ kept_of y ∷ map kept_of all =
    ap (λ l. l ++ flying ∷ []) w.frames
    ∙ (ap (λ f. kept_of y ∷ (map kept_of frames ++ f ∷ [])) is ∙ ap (λ l. kept_of y ∷ l) (sym (map-append frames (x ∷ [])))) in
    let kept : keep_last 64 (kept_of y ∷ map kept_of all) ≡ map kept_of all =
    keep_but_one 64 (kept_of y) (map kept_of all) (let z = length-map all in omega (arith, z, len, full)) in
    let new_is : new ≡ buffer (map kept_of all) 64 =
    put.new_is ∙ ap (λ n. buffer (keep_last n (wire.items ++ flying ∷ [])) n) w.capacity ∙ ap (λ l. buffer (keep_last 64 l) 64) items
    ∙ ap (λ l. buffer l 64) kept in
    let gone : lost ≡ kept_of y = some_is lost (kept_of y) ((was_lost w put).1 ∙ ap (λ l. slice_get l 0) items) in
    let stays : fits (y ∷ all) ≡ all = rw big refl in (
      rw stays (record {
        frames = ap (λ (b : Buffer Flying). b.items) new_is;
        capacity = ap (λ (b : Buffer Flying). b.capacity) new_is;
        few = omega (arith, len, full);
        made = all_joined frames (x ∷ []) w.made.1 (read, tt);
      }),
      (let z : pushed_out (side_of to) (y ∷ all) ≡ Lost (side_of to) y.frame TooMany ∷ [] = rw big refl in
          noted ∙ ap (λ (f : Flying). before ++ entry.Lost to f.lpdu Full ∷ []) gone
          ∙ ap (λ es. before ++ es) (sym (lost_entry to y)) ∙ ap (λ n. before ++ entries_for to.link n) (sym z)),
    )

-- ## All frames grow older

-- the first frame was taken off a wire, where there was one
pub record IsTakenOff (wire new : Buffer Flying) (first : Option Flying) : Type 0 where
  pub first_is : first ≡ slice_get wire.items 0
  pub new_is : new ≡ buffer (drop 1 wire.items) wire.capacity

pub first_is : {wire new : Buffer Flying} {flying : Flying} {x : OnWire} {frames : List OnWire} → WireStandsFor wire (x ∷ frames)
    → IsTakenOff wire new (Some flying) → flying ≡ kept_of x
first_is {flying} {x} w off = some_is flying (kept_of x) (off.first_is ∙ ap (λ l. slice_get l 0) w.frames)

pub there_is_one : {wire new : Buffer Flying} {x : OnWire} {frames : List OnWire} → WireStandsFor wire (x ∷ frames) → IsTakenOff wire new None → ⊥
there_is_one {x} w off = let z : None ≡ Some (kept_of x) = off.first_is ∙ ap (λ l. slice_get l 0) w.frames in cc

pub there_is_none : {wire new : Buffer Flying} {flying : Flying} → WireStandsFor wire [] → IsTakenOff wire new (Some flying) → ⊥
there_is_none {flying} w off = let z : Some flying ≡ None = off.first_is ∙ ap (λ l. slice_get l 0) w.frames in cc

-- the wire without its first frame
pub taken_off : {wire new : Buffer Flying} {first : Option Flying} {x : OnWire} {frames : List OnWire} → WireStandsFor wire (x ∷ frames)
    → IsTakenOff wire new first → WireStandsFor new frames
taken_off w off =
    record {
      frames = ap (λ (b : Buffer Flying). b.items) off.new_is ∙ ap (drop 1) w.frames;
      capacity = ap (λ (b : Buffer Flying). b.capacity) off.new_is ∙ w.capacity;
      few = omega (arith, w.few);
      made = w.made.1;
    }

pub too_old : {wire new : Buffer Flying} {flying : Flying} {x : OnWire} {frames : List OnWire} {now : List Entry} (to : End) (before : List Entry)
    → WireStandsFor wire (x ∷ frames) → IsTakenOff wire new (Some flying) → 4 ≤ flying.age → now ≡ before ++ entry.Lost to flying.lpdu Age ∷ []
    → WireStandsFor new (frames ++ aged_wire (x ∷ [])) × AreNoted to before now (aged_entries (side_of to) (x ∷ []))
too_old {new} {flying} {x} {frames} to before w off old noted =
    let first : flying ≡ kept_of x = first_is w off in
    let q : nat_lt x.age 4 ≡ false = le-ltb x.age 4 (let z = ap (λ (f : Flying). f.age) first in omega (arith, z, old)) in
    let none : frames ++ aged_wire (x ∷ []) ≡ frames = rw q (append-nil frames) in
    let told : aged_entries (side_of to) (x ∷ []) ≡ Lost (side_of to) x.frame TooOld ∷ [] = rw q refl in (
      rw (← none) at (taken_off w off),
      noted ∙ ap (λ (f : Flying). before ++ entry.Lost to f.lpdu Age ∷ []) first
          ∙ ap (λ es. before ++ es) (sym (grind arith)) ∙ ap (λ n. before ++ entries_for to.link n) (sym told),
    )

pub grows_older : {wire mid new : Buffer Flying} {flying : Flying} {x : OnWire} {frames : List OnWire} (to : End) (entries : List Entry)
    → WireStandsFor wire (x ∷ frames) → IsTakenOff wire mid (Some flying) → flying.age < 4
    → new ≡ buffer (keep_last mid.capacity (mid.items ++ record { lpdu = flying.lpdu; age = flying.age + 1; number = flying.number } ∷ [])) mid.capacity
    → WireStandsFor new (frames ++ aged_wire (x ∷ [])) × AreNoted to entries entries (aged_entries (side_of to) (x ∷ []))
grows_older {new} {flying} {x} {frames} to entries w off young made =
    let first : flying ≡ kept_of x = first_is w off in
    let age : x.age < 4 = let z = ap (λ (f : Flying). f.age) first in omega (arith, z, young) in
    let q : nat_lt x.age 4 ≡ true = lt-ltb x.age 4 age in
    let older : OnWire = record x { age = x.age + 1 } in
    let one : aged_wire (x ∷ []) ≡ older ∷ [] = rw q refl in
    let told : aged_entries (side_of to) (x ∷ []) ≡ [] = rw q refl in
    let few : length frames < 64 = let z = w.few in omega (arith, z) in
    let len : length (frames ++ older ∷ []) ≡ length frames + 1 = length-append frames (older ∷ []) in
    let small : nat_lt 64 (length (frames ++ older ∷ [])) ≡ false = le-ltb 64 (length (frames ++ older ∷ [])) (omega (arith, len, few)) in
    let fit : fits (frames ++ older ∷ []) ≡ frames ++ older ∷ [] = rw small refl in
    let put = has_room older to entries (taken_off w off)
    (ap (λ (f : Flying). record { lpdu = f.lpdu; age = f.age + 1; number = f.number }) first) w.made.0 made few in (
      rw (fit ∙ ap (λ l. frames ++ l) (sym one)) at put.0,
      sym (ap (λ n. entries ++ entries_for to.link n) told ∙ append-nil entries),
    )

-- a wire whose frames grow older one by one: these are left, those have grown older and stand behind them
pub record Aging (to : End) (frames : List OnWire) (wire : Buffer Flying) (before now : List Entry) (left : ℕ) : Type 0 where
  pub rest : List OnWire
  pub done : List OnWire
  pub notes : List Noted
  pub stands : WireStandsFor wire (rest ++ done)
  pub left_is : length rest ≡ left
  pub wire_is : aged_wire frames ≡ done ++ aged_wire rest
  pub notes_are : aged_entries (side_of to) frames ≡ notes ++ aged_entries (side_of to) rest
  pub noted : AreNoted to before now notes

pub aging_starts : {to : End} {frames : List OnWire} {wire : Buffer Flying} {entries : List Entry} {n : ℕ} → WireStandsFor wire frames
    → n ≡ length wire.items → Aging to frames wire entries entries n
aging_starts {frames} {wire} {entries} w q =
    record {
      rest = frames;
      done = [];
      notes = [];
      stands = rw (← append-nil frames) at w;
      left_is = sym (q ∙ lengths wire frames w);
      wire_is = refl;
      notes_are = refl;
      noted = sym (append-nil entries);
    }

one_note : (to : End) (x : OnWire) (xs : List OnWire) → aged_entries (side_of to) (x ∷ xs) ≡ aged_entries (side_of to) (x ∷ []) ++ aged_entries (side_of to) xs
one_note to x xs = by_test (nat_lt x.age 4) (λ q. rw q refl) (λ q. rw q refl)

-- what one frame that grows older leaves
abbrev pub Ages : End → Buffer Flying → Buffer Flying → List Entry → List Entry → Type 0
Ages to wire new before now =
    (x : OnWire) (frames : List OnWire) → WireStandsFor wire (x ∷ frames)
    → WireStandsFor new (frames ++ aged_wire (x ∷ [])) × AreNoted to before now (aged_entries (side_of to) (x ∷ []))

pub aging_goes_on : {to : End} {frames : List OnWire} {wire new : Buffer Flying} {before mid now : List Entry} {left : ℕ}
    → Aging to frames wire before mid (suc left) → Ages to wire new mid now → Aging to frames new before now left
aging_goes_on {to} {frames} {wire} {new} {before} {now} {left} a ages =
    by_list a.rest
    (λ q. absurd (let z = ap length q in let l = a.left_is in omega (arith, z, l)))
    (λ x xs q.
    let r = ages x (xs ++ a.done) (rw q at a.stands) in
    record {
      rest = xs;
      done = a.done ++ aged_wire (x ∷ []);
      notes = a.notes ++ aged_entries (side_of to) (x ∷ []);
      stands = rw (append_assoc xs a.done (aged_wire (x ∷ []))) at r.0;
      left_is = (let z = ap length q in let l = a.left_is in omega (arith, z, l));
      wire_is = a.wire_is ∙ (ap (λ l. a.done ++ aged_wire l) q ∙ (ap (λ l. a.done ++ l) (grind arith)
          ∙ sym (append_assoc a.done (aged_wire (x ∷ [])) (aged_wire xs))));
      notes_are = a.notes_are ∙ (ap (λ l. a.notes ++ aged_entries (side_of to) l) q ∙ (ap (λ l. a.notes ++ l) (one_note to x xs)
          ∙ sym (append_assoc a.notes (aged_entries (side_of to) (x ∷ [])) (aged_entries (side_of to) xs))));
      noted = more_noted to before a.notes (aged_entries (side_of to) (x ∷ [])) a.noted r.1;
    })

pub aging_ends : {to : End} {frames : List OnWire} {wire : Buffer Flying} {before now : List Entry} → Aging to frames wire before now 0
    → WireStandsFor wire (aged_wire frames) × AreNoted to before now (aged_entries (side_of to) frames)
aging_ends {to} {frames} {wire} {before} {now} a =
    by_list a.rest
    (λ q.
    let w : aged_wire frames ≡ a.rest ++ a.done =
    a.wire_is ∙ (ap (λ l. a.done ++ aged_wire l) q ∙ (append-nil a.done ∙ ap (λ l. l ++ a.done) (sym q))) in
    let n : aged_entries (side_of to) frames ≡ a.notes =
    a.notes_are ∙ (ap (λ l. a.notes ++ aged_entries (side_of to) l) q ∙ append-nil a.notes) in
    (rw (← w) at a.stands, a.noted ∙ ap (λ l. before ++ entries_for to.link l) (sym n)))
    (λ x xs q. absurd (let z = ap length q in let l = a.left_is in omega (arith, z, l)))
