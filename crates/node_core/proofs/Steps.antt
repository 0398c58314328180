-- The parts of deeds: what is noted, what is done to an end, and what is kept of it.
use Rattle.std.specs.Prelude.{slice_index_or}
use Rattle.node_core.proofs.Words.{AreDoableInTurn, Bool, Brings, Core, DeedOf, DeskOf, End, EndsStandFor, Entry, FetchMessage, Foretells, Handling, IsInStep}
use Rattle.node_core.proofs.Words.{KeptEnds, List, Node, None, Option, Plan, Port, Stored, Turn, Work, [], add-one, after_turn, all_done, ap, append-nil, arith}
use Rattle.node_core.proofs.Words.{deed_shown, done, drop, drop-cons, drop_all, end_of_node, false, has_turn, length, map, not, noted_of, noting, option_map_or}
use Rattle.node_core.proofs.Words.{plan_left, port_at, refl, subst, sym, true, turn_at, unnumbered, with_desk, with_port, ℕ, ◌++◌, ◌+◌, ◌<◌, ◌∙◌, ◌∷◌, ◌≡◌, ◌≤◌}
use Rattle.trace_model.specs.declared.entry.Entry.TheVariants as entry
use Rattle.node_deeds.specs.declared.deeds.Deed.{Deed}
use Rattle.node_deeds.specs.declared.deeds.Deed.TheVariants as kept
use Rattle.node_core.proofs.Joining.{brings_plain, brings_then}
use Rattle.node_core.proofs.Doing.{more_noted}

-- an entry without the number of a session is noted
pub plain_noted : {N : Type 0} {n : Node N} {noted now start : List Entry} {was short : Bool} {w : Work} (e : Entry) → unnumbered e ≡ e
    → IsInStep n noted was start w → (was ≡ true → short ≡ true) → (short ≡ false → now ≡ noted ++ e ∷ [])
    → IsInStep n now short start (noting (e ∷ []) w)
plain_noted {noted = noted} {start = start} {w = w} e same u stays more = record {
  node = u.node;
  core = u.core;
  ends = u.ends;
  noted_are = more_noted start w.entries e stays (λ kept. more kept ∙ ap (λ x. noted ++ x ∷ []) (sym same)) u.noted_are;
  power = u.power;
}

pub silent_notes : (core : Core) (x : Turn) (ports : List Port) (h : ℕ) → ((p : Port) → noted_of core x p ≡ [])
    → option_map_or (noted_of core x) (port_at ports h) [] ≡ []
silent_notes core x ports h silent = grind arith

-- something is done to an end of which nothing is noted
pub silent_turn : {N : Type 0} {n : Node N} {ends : KeptEnds} {noted start : List Entry} {was : Bool} {w : Work} (h : ℕ) (x : Turn)
    → ((p : Port) → noted_of w.core x p ≡ []) → IsInStep n noted was start w → EndsStandFor ends (with_port h (after_turn x) w.ports)
    → IsInStep (record n { ends = ends }) noted was start (turn_at h x w)
silent_turn {n = n} {noted = noted} {start = start} {w = w} h x silent u stands = record {
  node = u.node;
  core = λ live. (let k = u.core live in record { journal = k.journal; tables = k.tables; command = k.command; init = k.init });
  ends = stands;
  noted_are = λ kept.
      u.noted_are kept
      ∙ ap (λ es. start ++ map unnumbered es)
      (sym (ap (λ es. w.entries ++ es) (silent_notes w.core x w.ports h silent) ∙ append-nil w.entries));
  power = u.power;
}

-- what is kept of an end is changed
pub desk_changed : {N : Type 0} {n : Node N} {ends : KeptEnds} {noted start : List Entry} {was : Bool} {w : Work} (h : ℕ) (f : DeskOf → DeskOf)
    → IsInStep n noted was start w → EndsStandFor ends (with_port h (λ p. record p { desk = f p.desk }) w.ports)
    → IsInStep (record n { ends = ends }) noted was start (with_desk h f w)
desk_changed h f u stands = grind arith

-- a message has its turn: that is noted, its blocks are given back, and it isn't held
pub turn_begun : {N : Type 0} {n : Node N} {given ends : KeptEnds} {noted now start : List Entry} {was short : Bool} {w : Work} {e : End} (h pipe : ℕ)
    (message : List ℕ) → IsInStep n noted was start w → e ≡ end_of_node w.core h → (was ≡ true → short ≡ true)
    → (short ≡ false → now ≡ noted ++ entry.Turn e pipe message ∷ [])
    → ((ports : List Port) → EndsStandFor n.ends ports → EndsStandFor given (with_port h (after_turn FetchMessage) ports))
    → ((ports : List Port) → EndsStandFor given ports → EndsStandFor ends (with_port h (λ p. record p { desk = record p.desk { holds = false } }) ports))
    → IsInStep (record n { ends = ends }) now short start (has_turn h (pipe, message) w)
turn_begun {given = given} {ends = ends} {noted = noted} {w = w} h pipe message u at stays more give_back set_holds =
    let turn : Entry = entry.Turn (end_of_node w.core h) pipe message in
    let first : Work = noting (turn ∷ []) w in
    let begun = plain_noted turn refl u stays (λ kept. more kept ∙ ap (λ (x : End). noted ++ entry.Turn x pipe message ∷ []) at) in
    let fetched = silent_turn {ends = given} h FetchMessage (λ p. refl) begun (give_back first.ports begun.ends) in
    desk_changed {ends = ends} h (λ d. record d { holds = false }) fetched (set_holds (turn_at h FetchMessage first).ports fetched.ends)

-- a deed without a write
pub plainly : {N : Type 0} (writes : N → ℕ → List ℕ → Bool → N → Type 0) {n n2 : Node N} {noted now start : List Entry} {was short : Bool} {w : Work}
    (f : Work → Work) → IsInStep n noted was start w → n.store.journal.live ≡ true → n2.store ≡ n.store → IsInStep n2 now short start (f w)
    → (f w).cut ≡ w.cut → (f w).writes ≡ w.writes → ((plan : Option Plan) → f (record w { plan = plan }) ≡ record (f w) { plan = plan })
    → Brings writes n.store.journal.nv n2.store.journal.nv (IsInStep n2 now short start) f w
plainly {N} writes {n} {n2} {noted} {now} {start} {was} {short} {w} f u live same after cut written is =
    let P : N → Type 0 = λ m. Brings writes n.store.journal.nv m (IsInStep n2 now short start) f w in
    subst P (sym (ap (λ (s : Stored N). s.journal.nv) same)) (brings_plain writes after (cut ∙ (u.power ∙ ap not live)) written is)

-- the deed of an arm
pub of_deed : {N : Type 0} {writes : N → ℕ → List ℕ → Bool → N → Type 0} {old new : N} {S : Work → Type 0} {w : Work} (h : ℕ) (a : Handling) (deed d : Deed)
    → deed ≡ d → Brings writes old new S (done h (deed_shown a d)) w → Brings writes old new S (done h (deed_shown a deed)) w
of_deed h a deed d is b = grind arith

deeds_anyway : (h : ℕ) (a : Handling) (deeds : List Deed) (w : Work) (plan : Option Plan) → AreDoableInTurn h a deeds (record w { plan = plan })
    → AreDoableInTurn h a deeds w
deeds_anyway h a [] w plan all = tt
deeds_anyway h a (d ∷ deeds) w plan all = (grind arith, all.1)

-- those behind one that went through may be done
pub doable_then : {N : Type 0} {writes : N → ℕ → List ℕ → Bool → N → Type 0} {old new : N} {S : Work → Type 0} {w : Work} (h : ℕ) (a : Handling) (d : Deed)
    (deeds : List Deed) (b : Brings writes old new S (done h (deed_shown a d)) w) → b.after.cut ≡ false
    → AreDoableInTurn h a deeds (done h (deed_shown a d) (record w { plan = None })) → AreDoableInTurn h a deeds b.after
doable_then {w = w} h a d deeds b live all =
    let F : Bool → Type 0 = λ t. Foretells None b.sure b.torn t in
    let P : Work → Type 0 = λ v. AreDoableInTurn h a deeds v in
    deeds_anyway h a deeds b.after (plan_left b.after.cut b.sure None) (subst P (b.is None (subst F (sym live) refl)) all)

-- The node has come to this state in its deeds, and whatever these deeds bring from there, all deeds bring.
pub record GoesOn {N : Type 0} (writes : N → ℕ → List ℕ → Bool → N → Type 0) (first n : Node N) (noted : List Entry) (short : Bool) (start : List Entry)
    (left all : List DeedOf) (h : ℕ) (w : Work) : Type 0 where
  pub now : Work
  pub under : IsInStep n noted short start now
  pub onto : (last : Node N) (notes : List Entry) (full : Bool)
      → Brings writes n.store.journal.nv last.store.journal.nv (IsInStep last notes full start) (all_done h left) now
      → Brings writes first.store.journal.nv last.store.journal.nv (IsInStep last notes full start) (all_done h all) w

pub begins : {N : Type 0} {writes : N → ℕ → List ℕ → Bool → N → Type 0} {n : Node N} {noted start : List Entry} {short : Bool} {w : Work}
    (all : List DeedOf) (h : ℕ)
    → IsInStep n noted short start w → GoesOn writes n n noted short start all all h w
begins {w = w} all h u = record { now = w; under = u; onto = λ last notes full b. b }

-- one more deed went through
pub goes_on : {N : Type 0} {writes : N → ℕ → List ℕ → Bool → N → Type 0} {first n n2 : Node N} {noted noted2 start : List Entry}
    {short short2 : Bool} {w : Work}
    {d : DeedOf} {left all : List DeedOf} {h : ℕ} (k : GoesOn writes first n noted short start (d ∷ left) all h w)
    (b : Brings writes n.store.journal.nv n2.store.journal.nv (IsInStep n2 noted2 short2 start) (done h d) k.now) → b.after.cut ≡ false
    → GoesOn writes first n2 noted2 short2 start left all h w
goes_on {writes = writes} {d = d} {left = left} {h = h} k b live = record {
  now = b.after;
  under = b.stands;
  onto = λ last notes full c. k.onto last notes full (brings_then writes b live c);
}

-- a write of it failed
pub goes_no_further : {N : Type 0} {writes : N → ℕ → List ℕ → Bool → N → Type 0} {first n n2 : Node N} {noted noted2 start : List Entry} {short short2 : Bool}
    {w : Work} {d : DeedOf} {left all : List DeedOf} {h : ℕ} (k : GoesOn writes first n noted short start (d ∷ left) all h w)
    (b : Brings writes n.store.journal.nv n2.store.journal.nv (IsInStep n2 noted2 short2 start) (done h d) k.now) → b.after.cut ≡ true
    → Brings writes first.store.journal.nv n2.store.journal.nv (IsInStep n2 noted2 short2 start) (all_done h all) w
goes_no_further k b dead = grind arith

-- no deed is left
pub all_gone : {N : Type 0} {writes : N → ℕ → List ℕ → Bool → N → Type 0} {first n : Node N} {noted start : List Entry} {short : Bool} {w : Work}
    {all : List DeedOf} {h : ℕ} (k : GoesOn writes first n noted short start [] all h w) → n.store.journal.live ≡ true
    → Brings writes first.store.journal.nv n.store.journal.nv (IsInStep n noted short start) (all_done h all) w
all_gone {writes = writes} {n = n} {noted = noted} {short = short} {h = h} k live =
    k.onto n noted short (brings_plain writes k.under (k.under.power ∙ ap not live) refl (λ plan. refl))

-- ## A list of deeds, from a place on

pub split_at : (deeds : List Deed) (i : ℕ) (d : Deed) → i < length deeds → drop i deeds ≡ slice_index_or deeds i d ∷ drop (i + 1) deeds
split_at deeds i d low = rw (add-one, drop-cons deeds i d) refl

pub none_left : (deeds : List Deed) (i : ℕ) → length deeds ≤ i → drop i deeds ≡ []
none_left deeds i past = drop_all i deeds past

-- ## What goes before deeds

-- where what goes before has nothing to do with the plan and writes nothing
pub brings_after : {N : Type 0} {writes : N → ℕ → List ℕ → Bool → N → Type 0} {old old2 new : N} {S : Work → Type 0} {g : Work → Work} {w : Work}
    (f : Work → Work) → old2 ≡ old → ((plan : Option Plan) → f (record w { plan = plan }) ≡ record (f w) { plan = plan }) → (f w).writes ≡ w.writes
    → Brings writes old2 new S g (f w) → Brings writes old new S (λ v. g (f v)) w
brings_after f same is written b = grind arith
