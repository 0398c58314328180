-- The frames of a node's end go out one by one.
use Rattle.std.proofs.Common.{take}
use Rattle.std.specs.Prelude.{IfSome}
use Rattle.node_sites.proofs.Words.{AllByRecursion, AreNoted, Bool, Control, End, Entry, Link, List, None, Noted, Ok, Option, Port, SendsOneByOne, Some, Wires}
use Rattle.node_sites.proofs.Words.{WiresStandFor, [], ap, append-nil, append_assoc, ap₂, arith, changed_if, control_of, drop, entries_for, false, lpdu_of}
use Rattle.node_sites.proofs.Words.{most_fetches, next_frame, option_map, port_at, put, put_all, puts_entries, refl, seen_from, sent_port, side_of, subst, suc}
use Rattle.node_sites.proofs.Words.{sym, true, with_port, zero, ℕ, ◌++◌, ◌+◌, ◌-◌, ◌==◌, ◌∙◌, ◌∷◌, ◌≡◌}
use Rattle.swp_base.specs.declared.control_frames.Control.TheVariants.{Act as ActFrame}
use Rattle.shdlc_core.specs.Machine.{frame_due, all_frames}
use Rattle.link_laws.proofs.places.Joined.{fetched_idle}
use Rattle.link_laws.specs.machine.Machine.{ActDue, LinkEnd, among, frame_fetched, frames_out, sent_all}
use Rattle.link_laws.specs.machine.Laws.{after_fetches, fetches}
use Rattle.link_laws.specs.entries.Entries.{put_entries}
use Rattle.link_wires.proofs.Notes.{more_noted}
use Rattle.node_ends.specs.Ends.{has_sent}
use Rattle.node_sites.specs.FramesOut.{IsOnly}

-- ## An end that has none

not_empty : (xs : List Control) (c : Control) (ys : List Control) → xs ++ c ∷ ys ≡ [] → ⊥
not_empty [] c ys q = cc
not_empty (x ∷ xs) c ys q = cc

no_acts : (e : LinkEnd) → frames_out e ≡ [] → e.acts ≡ []
no_acts e q = go e.acts refl
  where
    go : (acts : List ActDue) → e.acts ≡ acts → e.acts ≡ []
    go [] w = w
    go (a ∷ acts) w =
        let fs : List Control = all_frames e.shdlc in
        absurd (not_empty (take (a.behind - 0) fs) (ActFrame a.frame false) (among a.behind acts (drop (a.behind - 0) fs))
        (sym (ap (λ z. among 0 z fs) w) ∙ q))

none_first : (n : ℕ) (e : LinkEnd) → next_frame e ≡ None → fetches n e ≡ []
none_first zero e q = refl
none_first (suc n) e q = rw q refl

-- an end from which no frame can be fetched has sent all
idle_same : (e : LinkEnd) → SendsOneByOne e → next_frame e ≡ None → frame_fetched e ≡ e
idle_same e w q =
    let acts : e.acts ≡ [] = no_acts e (sym w.frames ∙ none_first (most_fetches e) e q) in
    (rw acts refl) ∙ ap (λ s. record e { shdlc = s }) (fetched_idle e.shdlc (let z : next_frame e ≡ frame_due e.shdlc = rw acts refl in sym z ∙ q))

pub idle_after : (n : ℕ) (e : LinkEnd) → SendsOneByOne e → next_frame e ≡ None → after_fetches n e ≡ e
idle_after zero e w q = refl
idle_after (suc n) e w q = ap (after_fetches n) (idle_same e w q) ∙ idle_after n e w q

-- ## Its place among the ends

-- an end with this machine
abbrev pub with_side : LinkEnd → Port → Port
with_side e p = record p { side = e }

pub same_with : (h : ℕ) (p : Port) (f g : Port → Port) (ports : List Port) → IsOnly h p ports → f p ≡ g p → with_port h f ports ≡ with_port h g ports
same_with h p f g [] only q = refl
same_with h p f g (x ∷ ports) only q = ap₂ (λ (y : Port) ys. y ∷ ys) (go (x.desk.host == h) refl) (same_with h p f g ports only.1 q)
  where
    go : (b : Bool) → (x.desk.host == h) ≡ b → changed_if (x.desk.host == h) f x ≡ changed_if (x.desk.host == h) g x
    go true r =
        let is : x ≡ p = only.0 r in
        rw r (ap f is ∙ (q ∙ ap g (sym is)))
    go false r = rw r refl

pub with_none : (h : ℕ) (ports : List Port) → with_port h (λ p. p) ports ≡ ports
with_none h [] = refl
with_none h (x ∷ ports) = ap₂ (λ (y : Port) ys. y ∷ ys) (go (x.desk.host == h)) (with_none h ports)
  where
    go : (b : Bool) → changed_if b (λ (p : Port). p) x ≡ x
    go true = refl
    go false = refl

pub with_twice : (h : ℕ) (e : LinkEnd) (ports : List Port)
    → with_port h has_sent (with_port h (with_side e) ports) ≡ with_port h (with_side (frame_fetched e)) ports
with_twice h e [] = refl
with_twice h e (x ∷ ports) = ap₂ (λ (y : Port) ys. y ∷ ys) (go (x.desk.host == h) refl) (with_twice h e ports)
  where
    go : (b : Bool) → (x.desk.host == h) ≡ b
        → changed_if ((changed_if (x.desk.host == h) (with_side e) x).desk.host == h) has_sent (changed_if (x.desk.host == h) (with_side e) x)
        ≡ changed_if (x.desk.host == h) (with_side (frame_fetched e)) x
    go true r = rw r (rw r refl)
    go false r = rw r (rw r refl)

pub found_with : (h : ℕ) (e : LinkEnd) (p : Port) (ports : List Port) → port_at ports h ≡ Some p
    → port_at (with_port h (with_side e) ports) h ≡ Some (with_side e p)
found_with h e p [] q = cc
found_with h e p (x ∷ ports) q = go (x.desk.host == h) refl (found_with h e p ports)
  where
    go : (b : Bool) → (x.desk.host == h) ≡ b
        → (port_at ports h ≡ Some p → port_at (with_port h (with_side e) ports) h ≡ Some (with_side e p))
        → port_at (with_port h (with_side e) (x ∷ ports)) h ≡ Some (with_side e p)
    go true r later =
        let is : Some x ≡ Some p = rw r at q in
        let one : x ≡ p = cc in
        rw r (rw r (ap (λ (z : Port). Some (with_side e z)) one))
    go false r later = rw r (rw r (later (rw r at q)))

-- ## One by one

-- The frames of an end p of a node go out on the link l: now the link is so and the end e, these were noted, and at most so many are left.
pub record Sending (Runs : List Port → Type 0) (kept : Wires) (at : End) (ports : List Port) (p : Port) (l : Link) (before now : List Entry)
    (left : ℕ) : Type 0 where
  pub link : Link
  pub e : LinkEnd
  pub notes : List Noted
  pub runs : Runs (with_port at.link (with_side e) ports)
  pub wires : WiresStandFor kept (seen_from at link)
  pub link_is : put_all link (fetches left e) ≡ put_all l (frames_out p.side)
  pub end_is : after_fetches left e ≡ sent_all p.side
  pub notes_are : puts_entries (side_of at) l (frames_out p.side) ≡ notes ++ puts_entries (side_of at) link (fetches left e)
  pub noted : AreNoted at before now notes

pub sending_starts : {runs : List Port → Type 0} {wires : Wires} {at : End} {ports : List Port} {p : Port} {l : Link} {entries : List Entry}
    → runs ports → IsOnly at.link p ports → SendsOneByOne p.side → WiresStandFor wires (seen_from at l)
    → Sending runs wires at ports p l entries entries (most_fetches p.side)
sending_starts {runs} {at = at} {ports} {p} {l} {entries} r only whole w =
    record {
      link = l;
      e = p.side;
      notes = [];
      runs = subst runs (sym (same_with at.link p (with_side p.side) (λ q. q) ports only refl ∙ with_none at.link ports)) r;
      wires = w;
      link_is = ap (put_all l) whole.frames;
      end_is = whole.rest;
      notes_are = ap (puts_entries (side_of at) l) (sym whole.frames);
      noted = sym (append-nil entries);
    }

pub sending_goes_on : {runs again : List Port → Type 0} {wires new : Wires} {at : End} {ports : List Port} {p : Port} {l : Link} {mid now : List Entry}
    {left : ℕ} (before : List Entry) (c : Control) (s : Sending runs wires at ports p l before mid (suc left)) → next_frame s.e ≡ Some c
    → again (with_port at.link has_sent (with_port at.link (with_side s.e) ports))
    → WiresStandFor new (seen_from at (put s.link c)) × AreNoted at mid now (put_entries (side_of at) s.link c)
    → Sending again new at ports p l before now left
sending_goes_on {again = again} {at = at} {ports} {left = left} before c s q runs r =
    let first : fetches (suc left) s.e ≡ c ∷ fetches left (frame_fetched s.e) = rw q refl in
    record {
      link = put s.link c;
      e = frame_fetched s.e;
      notes = s.notes ++ put_entries (side_of at) s.link c;
      runs = subst again (with_twice at.link s.e ports) runs;
      wires = r.0;
      link_is = sym (ap (put_all s.link) first) ∙ s.link_is;
      end_is = s.end_is;
      notes_are = s.notes_are ∙ (ap (λ cs. s.notes ++ puts_entries (side_of at) s.link cs) first
          ∙ sym (append_assoc s.notes (put_entries (side_of at) s.link c) (puts_entries (side_of at) (put s.link c) (fetches left (frame_fetched s.e)))));
      noted = more_noted at before s.notes (put_entries (side_of at) s.link c) s.noted r.1;
    }

-- what stands where all frames went out
abbrev pub AllSent : (List Port → Type 0) → Wires → End → List Port → Port → Link → List Entry → List Entry → Type 0
AllSent runs wires at ports p l before now =
    runs (with_port at.link sent_port ports) × WiresStandFor wires (seen_from at (put_all l (frames_out p.side)))
    × AreNoted at before now (puts_entries (side_of at) l (frames_out p.side))

pub sending_ends : {runs : List Port → Type 0} {wires : Wires} {at : End} {ports : List Port} {p : Port} {l : Link} {left : ℕ} {now : List Entry}
    (before : List Entry) (s : Sending runs wires at ports p l before now left) → IsOnly at.link p ports → fetches left s.e ≡ [] → after_fetches left s.e ≡ s.e
    → AllSent runs wires at ports p l before now
sending_ends {runs} {wires} {at} {ports} {p} {l} before s only none idle =
    let notes : puts_entries (side_of at) l (frames_out p.side) ≡ s.notes =
    s.notes_are ∙ (ap (λ cs. s.notes ++ puts_entries (side_of at) s.link cs) none ∙ append-nil s.notes) in
    let ends : with_port at.link (with_side s.e) ports ≡ with_port at.link sent_port ports =
    same_with at.link p (with_side s.e) sent_port ports only (ap (λ e. with_side e p) (sym idle ∙ s.end_is)) in (
      subst runs ends s.runs,
      rw (sym (ap (put_all s.link) none) ∙ s.link_is) at s.wires,
      s.noted ∙ ap (λ ns. before ++ entries_for at.link ns) (sym notes),
    )

-- ## What a node answers

pub at_found : (P : Port → Type 0) (h : ℕ) (p : Port) (ports : List Port) → AllByRecursion P ports → port_at ports h ≡ Some p → P p
at_found P h p [] a q = cc
at_found P h p (x ∷ ports) a q = go (x.desk.host == h) refl (at_found P h p ports a.1)
  where
    go : (b : Bool) → (x.desk.host == h) ≡ b → (port_at ports h ≡ Some p → P p) → P p
    go true r later =
        let is : Some x ≡ Some p = rw r at q in
        let one : x ≡ p = cc in subst P one a.0
    go false r later = later (rw r at q)

-- the frame that was fetched
pub record IsFetched (e : LinkEnd) (lpdu : List ℕ) : Type 0 where
  pub frame : Control
  pub next : next_frame e ≡ Some frame
  pub bytes : lpdu ≡ lpdu_of frame

pub fetched_is : (e : LinkEnd) (lpdu : List ℕ) → Some lpdu ≡ option_map lpdu_of (next_frame e) → IsFetched e lpdu
fetched_is e lpdu q = go (next_frame e) refl q
  where
    go : (o : Option Control) → next_frame e ≡ o → Some lpdu ≡ option_map lpdu_of o → IsFetched e lpdu
    go None r q = cc
    go (Some c) r q = record { frame = c; next = r; bytes = cc }

pub none_fetched : (o : Option Control) → None ≡ option_map lpdu_of o → o ≡ None
none_fetched None q = refl
none_fetched (Some c) q = cc

pub read_of : (o : Option Control) (c : Control) → o ≡ Some c → IfSome o (λ c. control_of (lpdu_of c) ≡ Ok c) → control_of (lpdu_of c) ≡ Ok c
read_of o c q r = let P : Option Control → Type 0 = λ x. IfSome x (λ c. control_of (lpdu_of c) ≡ Ok c) in subst P q r

pub sending_next : {Runs Again : List Port → Type 0} {wires new : Wires} {at : End} {ports : List Port} {p : Port} {l : Link} {mid now : List Entry}
    (before : List Entry) (n i left : ℕ) (c : Control) → left ≡ n - i → (s : Sending Runs wires at ports p l before mid left) → SendsOneByOne p.side
    → next_frame s.e ≡ Some c → Again (with_port at.link has_sent (with_port at.link (with_side s.e) ports))
    → WiresStandFor new (seen_from at (put s.link c)) × AreNoted at mid now (put_entries (side_of at) s.link c)
    → Sending Again new at ports p l before now (n - (i + 1))
sending_next before n i zero c q s whole next runs r = absurd (let z : Some c ≡ None = sym next ∙ (ap next_frame s.end_is ∙ whole.none) in cc)
sending_next {Again = Again} {new = new} {at = at} {ports} {p} {l} {now = now} before n i (suc left) c q s whole next runs r =
    let less : left ≡ n - (i + 1) = omega (arith, q) in
    rw (← less) (sending_goes_on before c s next runs r)

pub sending_stops : {Runs : List Port → Type 0} {wires : Wires} {at : End} {ports : List Port} {p : Port} {l : Link} {now : List Entry} {left : ℕ}
    (Again : List Port → Type 0) (before : List Entry) (s : Sending Runs wires at ports p l before now left) → IsOnly at.link p ports → SendsOneByOne s.e
    → next_frame s.e ≡ None → Again (with_port at.link has_sent (with_port at.link (with_side s.e) ports)) → AllSent Again wires at ports p l before now
sending_stops {at = at} {ports} {left = left} Again before s only whole none runs =
    sending_ends {runs = Again} before
    (record {
      link = s.link;
      e = s.e;
      notes = s.notes;
      runs = subst Again (with_twice at.link s.e ports ∙ ap (λ e. with_port at.link (with_side e) ports) (idle_same s.e whole none)) runs;
      wires = s.wires;
      link_is = s.link_is;
      end_is = s.end_is;
      notes_are = s.notes_are;
      noted = s.noted;
    })
    only (none_first left s.e none) (idle_after left s.e whole none)

-- the most frames that an end sends were sent
pub sending_over : {Runs : List Port → Type 0} {wires : Wires} {at : End} {ports : List Port} {p : Port} {l : Link} {now : List Entry} (before : List Entry)
    (left : ℕ) (s : Sending Runs wires at ports p l before now left) → IsOnly at.link p ports → left ≡ 0 → AllSent Runs wires at ports p l before now
sending_over before zero s only q = sending_ends before s only refl refl
sending_over before (suc left) s only q = cc
