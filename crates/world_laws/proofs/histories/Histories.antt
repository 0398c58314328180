-- What a tap reports over a history of a bare link.
use Rattle.world_laws.proofs.Words.{AllByRecursion, AreOf, ArePlain, Controller, Cut, Event, Follows, Got, Header, History, Host, IsBare, IsLineOf, Line, List}
use Rattle.world_laws.proofs.Words.{Noted, Restarted, [], all_events, ap, bare_link, causes_of, entries_for, entries_of, eq-eqb, false, gots_noted, gots_on}
use Rattle.world_laws.proofs.Words.{host_of, is_cut, is_run, link_events, list_any, lpdu_of, lpdus_heard, lpdus_on, notes_of, of_allowed, of_front, plain_trace}
use Rattle.world_laws.proofs.Words.{refl, run_entries, subst, sym, tapped_lpdus, true, ℕ, ◌++◌, ◌==◌, ◌∙◌, ◌∷◌, ◌≡◌}
use Rattle.link_laws.specs.entries.Entries.Entry.{Emit}
use Rattle.world_laws.proofs.entries.Events.{tap_reports_lpdus}

pub lpdus_same : (h : ℕ) (t : List Noted) → lpdus_on h (entries_for h t) ≡ lpdus_heard t
lpdus_same h [] = refl
lpdus_same h (Emit Controller c ∷ t) = let q : (h == h) ≡ true = eq-eqb h h refl in rw q (ap (λ z. (true, lpdu_of c) ∷ z) (lpdus_same h t))
lpdus_same h (Emit Host c ∷ t) = let q : (h == h) ≡ true = eq-eqb h h refl in rw q (ap (λ z. (false, lpdu_of c) ∷ z) (lpdus_same h t))
lpdus_same h (_ ∷ t) = lpdus_same h t

pub gots_same : (h : ℕ) (t : List Noted) → gots_on h (entries_for h t) ≡ gots_noted t
gots_same h [] = refl
gots_same h (Got Controller n m ∷ t) =
    rw (eq-eqb h h refl) (ap (λ z. record { to_clf = true; session = n; pipe = m.0; body = m.1 } ∷ z) (gots_same h t))
gots_same h (Got Host n m ∷ t) = rw (eq-eqb h h refl) (ap (λ z. record { to_clf = false; session = n; pipe = m.0; body = m.1 } ∷ z) (gots_same h t))
gots_same h (_ ∷ t) = gots_same h t

-- no node of a bare world loses power
no_cut : (t : List Noted) → ArePlain t → list_any is_cut t ≡ false
no_cut [] a = refl
no_cut (Cut _ ∷ t) a = absurd a.0
no_cut (Restarted _ ∷ t) a = absurd a.0
no_cut (_ ∷ t) a = no_cut t a.1

pub tap_reports_history : (header : Header) (lines : List Line) (t : History) → AllByRecursion (IsLineOf header) lines → Follows header lines t
    → (front back : List Event) → all_events t ≡ front ++ back
    → tapped_lpdus true (lpdus_on (host_of header) (t.opening ++ entries_of front)) ≡ gots_on (host_of header) (t.opening ++ entries_of front)
tap_reports_history header lines t valid follows front back q =
    let h : ℕ = host_of header in
    let run = is_run header lines t valid follows in
    let of : AreOf h bare_link front = of_front h bare_link front back (subst (λ xs. AreOf h bare_link xs) q run.events) in
    let is : t.opening ++ entries_of front ≡ entries_for h (notes_of front) = run_entries h t.opening front run.opening of in
    let cut : list_any is_cut (notes_of front) ≡ false = no_cut (notes_of front) (plain_trace (causes_of front)) in
    ap (tapped_lpdus true) (ap (lpdus_on h) is ∙ lpdus_same h (notes_of front))
    ∙ (tap_reports_lpdus bare_link IsBare (link_events front) (of_allowed h bare_link front of) cut
    ∙ sym (ap (gots_on h) is ∙ gots_same h (notes_of front)))
