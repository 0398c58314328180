-- Entries that are noted one after another.
use Rattle.node_core.proofs.Words.{Acked, Active, AreNotes, Bool, Cause, Down, EndsStandFor, Entry, GaveUp, Got, IsInStep, KeptEnds, List, Message, Node, None}
use Rattle.node_core.proofs.Words.{Option, Port, Some, Up, Work, [], ap, append-nil, append_assoc, arith, end_of, entries_for, false, flat_map-append, if_so}
use Rattle.node_core.proofs.Words.{is_none, is_some, kept_number, map, map-append, nat_lt, not, noting, oldest, option_to_list, refl, report_told, subst, sym}
use Rattle.node_core.proofs.Words.{told, true, unnumbered, without_message, ℕ, ◌&&◌, ◌++◌, ◌==◌, ◌∙◌, ◌∷◌, ◌≡◌}
use Rattle.link_laws.specs.entries.Entries.{End as Side, Entry as Noted}
use Rattle.history.specs.Steps.{entry_of}
use Rattle.trace_model.specs.declared.entry.Entry.TheVariants as entry
use Rattle.link_laws.specs.machine.Machine.{Report}
use Rattle.node_core.specs.Noting.{tells_nothing}

-- nothing is noted
pub no_notes : (short : Bool) (before : List Entry) → AreNotes short short before before []
no_notes short before = record { stays = λ q. q; noted = λ q. sym (append-nil before) }

-- one more is noted
pub one_note : {was short : Bool} {before now : List Entry} (e : Entry) → (was ≡ true → short ≡ true) → (short ≡ false → now ≡ before ++ e ∷ [])
    → AreNotes was short before now (e ∷ [])
one_note e stays more = record { stays = stays; noted = more }

pub notes_are : {a b : Bool} {x y es fs : List Entry} → AreNotes a b x y es → es ≡ fs → AreNotes a b x y fs
notes_are {a} {b} {x} {y} n same = let P : List Entry → Type 0 = λ l. AreNotes a b x y l in subst P same n

-- one more is noted by a watch, or none
pub noted_by : {V : Type 0} (noted : V → List Entry) (short : V → Bool) {old new after : V} {e : Entry} {es : List Entry} → after ≡ new
    → (short old ≡ true → short new ≡ true) → (short new ≡ false → noted new ≡ noted old ++ e ∷ []) → e ∷ [] ≡ es
    → AreNotes (short old) (short after) (noted old) (noted after) es
noted_by {V} noted short {old} {new} {after} {e} {es} is stays more same =
    subst (λ v. AreNotes (short old) (short v) (noted old) (noted v) es) (sym is) (notes_are (one_note e stays more) same)

pub unnoted_by : {V : Type 0} (noted : V → List Entry) (short : V → Bool) {old after : V} {es : List Entry} → after ≡ old → [] ≡ es
    → AreNotes (short old) (short after) (noted old) (noted after) es
unnoted_by {V} noted short {old} {after} {es} is same =
    subst (λ v. AreNotes (short old) (short v) (noted old) (noted v) es) (sym is) (notes_are (no_notes (short old) (noted old)) same)

still : (was short : Bool) → (was ≡ true → short ≡ true) → short ≡ false → was ≡ false
still was short stays kept = grind arith

-- some are noted, and then others
pub notes_then : {a b c : Bool} {x y z es fs : List Entry} → AreNotes a b x y es → AreNotes b c y z fs → AreNotes a c x z (es ++ fs)
notes_then {a} {b} {c} {x} {y} {z} {es} {fs} first later = record {
  stays = λ q. later.stays (first.stays q);
  noted = λ kept.
      later.noted kept ∙ (ap (λ l. l ++ fs) (first.noted (still b c later.stays kept)) ∙ append_assoc x es fs);
}

-- what is noted of a link, one part after another
pub parts : (h : ℕ) (xs ys : List Noted) → entries_for h (xs ++ ys) ≡ entries_for h xs ++ entries_for h ys
parts h xs ys = flat_map-append (entry_of h) xs ys

-- the five parts of what is told of an input that brought no message
pub whole : (h : ℕ) (d u a v k : List Noted)
    → entries_for h (d ++ (u ++ (a ++ (v ++ (k ++ [])))))
    ≡ entries_for h d ++ (entries_for h u ++ (entries_for h a ++ (entries_for h v ++ entries_for h k)))
whole h d u a v k =
    parts h d (u ++ (a ++ (v ++ (k ++ []))))
    ∙ ap (λ l. entries_for h d ++ l) (parts h u (a ++ (v ++ (k ++ [])))
    ∙ ap (λ l. entries_for h u ++ l) (parts h a (v ++ (k ++ []))
    ∙ ap (λ l. entries_for h a ++ l) (parts h v (k ++ [])
    ∙ ap (λ l. entries_for h v ++ l) (ap (entries_for h) (append-nil k)))))

-- ## Without the numbers of sessions

both : (h : ℕ) (xs ys : List Noted) {es fs : List Entry} → map unnumbered (entries_for h xs) ≡ es → map unnumbered (entries_for h ys) ≡ fs
    → map unnumbered (entries_for h (xs ++ ys)) ≡ es ++ fs
both h xs ys {es} {fs} one other =
    ap (map unnumbered) (parts h xs ys) ∙ (map-append unnumbered (entries_for h xs) (entries_for h ys)
    ∙ (ap (λ l. l ++ map unnumbered (entries_for h ys)) one ∙ ap (λ l. es ++ l) other))

up_plain : (h : ℕ) (who : Side) (n : ℕ) (b : Bool) → map unnumbered (entries_for h (if_so b (Up who n))) ≡ entries_for h (if_so b (Up who 0))
up_plain h who n b = grind arith

active_plain : (h : ℕ) (who : Side) (b : Bool) → map unnumbered (entries_for h (if_so b (Active who))) ≡ entries_for h (if_so b (Active who))
active_plain h who b = grind arith

gave_up_plain : (h : ℕ) (who : Side) (o : Option ℕ)
    → map unnumbered (entries_for h (map (GaveUp who) (option_to_list o))) ≡ entries_for h (map (GaveUp who) (option_to_list o))
gave_up_plain h who o = grind arith

acked_plain : (h : ℕ) (who : Side) (n count : ℕ) (b : Bool)
    → map unnumbered (entries_for h (if_so b (Acked who n count))) ≡ entries_for h (if_so b (Acked who 0 (kept_number count)))
acked_plain h who n count b = grind arith

got_plain : (h : ℕ) (who : Side) (n : ℕ) (ms : List Message)
    → map unnumbered (entries_for h (map (Got who n) ms)) ≡ entries_for h (map (Got who 0) ms)
got_plain h who n [] = refl
got_plain h who n (m ∷ ms) = ap (λ l. entry.Got (end_of h who) 0 m.0 m.1 ∷ l) (got_plain h who n ms)

-- what is told of an input, and then the message that it brought
pub told_plain : (h : ℕ) (who : Side) (n : ℕ) (x : Report) (acked : ℕ)
    → entries_for h (told who 0 (without_message (report_told x)) (kept_number acked)) ++ entries_for h (map (Got who 0) x.got)
    ≡ map unnumbered (entries_for h (told who n x acked))
told_plain h who n x acked =
    let d : List Noted = map (Down who) (option_to_list x.ended) in
    let u : List Noted = if_so x.began (Up who 0) in
    let a : List Noted = if_so x.became_active (Active who) in
    let v : List Noted = map (GaveUp who) (option_to_list x.gave_up) in
    let k : List Noted = if_so (nat_lt 0 x.acked) (Acked who 0 (kept_number acked)) in
    let g : List Entry = entries_for h (map (Got who 0) x.got) in
    let numbered = both h d _ (grind arith) (both h (if_so x.began (Up who n)) _ (up_plain h who n x.began)
    (both h a _ (active_plain h who x.became_active) (both h v _ (gave_up_plain h who x.gave_up)
    (both h (if_so (nat_lt 0 x.acked) (Acked who n acked)) (map (Got who n) x.got) (acked_plain h who n acked (nat_lt 0 x.acked))
    (got_plain h who n x.got))))) in
    ap (λ l. l ++ g) (whole h d u a v k)
    ∙ (append_assoc (entries_for h d) (entries_for h u ++ (entries_for h a ++ (entries_for h v ++ entries_for h k))) g
    ∙ (ap (λ l. entries_for h d ++ l) (grind arith)
    ∙ sym numbered))

-- ## Nothing is noted

nothing : (h : ℕ) (who : Side) (n acked : ℕ) (o : Option Cause) (b a : Bool) (v : Option ℕ) (k : ℕ) (ms : List Message)
    → (is_none o && (not b && (not a && (is_none v && ((k == 0) && not (is_some (oldest ms))))))) ≡ true
    → map (Down who) (option_to_list o) ++ (if_so b (Up who n) ++ (if_so a (Active who)
    ++ (map (GaveUp who) (option_to_list v) ++ (if_so (nat_lt 0 k) (Acked who n acked) ++ map (Got who n) ms)))) ≡ []
nothing h who n acked o b a v k ms q = grind arith

pub told_nothing : (h : ℕ) (who : Side) (n : ℕ) (x : Report) (acked : ℕ) → tells_nothing (report_told x) ≡ true
    → [] ≡ map unnumbered (entries_for h (told who n x acked))
told_nothing h who n x acked q = grind arith

-- ## A node in a step

-- its ends have changed, and that is noted
pub comes_noted : {N : Type 0} {n : Node N} {ends : KeptEnds} {before now start : List Entry} {was short : Bool} {w : Work} (es : List Entry)
    (ports : List Port) → IsInStep n before was start w → EndsStandFor ends ports → AreNotes was short before now (map unnumbered es)
    → IsInStep (record n { ends = ends }) now short start (noting es (record w { ports = ports }))
comes_noted {before = before} {start = start} {was = was} {short = short} {w = w} es ports u stands notes = record {
  node = u.node;
  core = λ live. (let k = u.core live in record { journal = k.journal; tables = k.tables; command = k.command; init = k.init });
  ends = stands;
  noted_are = λ kept.
      notes.noted kept ∙ (ap (λ l. l ++ map unnumbered es) (u.noted_are (still was short notes.stays kept))
      ∙ (append_assoc start (map unnumbered w.entries) (map unnumbered es) ∙ ap (λ l. start ++ l) (sym (map-append unnumbered w.entries es))));
  power = u.power;
}

pub no_some : {X : Type 0} (o : Option X) → ((x : X) → o ≡ Some x → ⊥) → o ≡ None
no_some o none = grind arith
