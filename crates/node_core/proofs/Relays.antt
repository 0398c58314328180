-- A message that is relayed: it has its turn and is sent in one.
use Rattle.node_core.proofs.Words.{Bool, Brings, DeedOf, End, EndsStandFor, Entry, FetchMessage, Give, IsInStep, KeptEnds, List, Message, Node, Port, Sends}
use Rattle.node_core.proofs.Words.{Work, [], after_turn, all_done, ap, append-nil, arith, done, end_of_node, false, got_at, handles, has_turn, map, noted_of}
use Rattle.node_core.proofs.Words.{option_map_or, port_at, refl, subst, sym, takes_at, true, turn_at, unnumbered, with_desk, with_port, ℕ, ◌++◌, ◌==◌, ◌∙◌, ◌∷◌}
use Rattle.node_core.proofs.Words.{◌≡◌}
use Rattle.trace_model.specs.declared.entry.Entry.TheVariants as entry
use Rattle.node_core.proofs.Doing.{more_noted, sent_noted, none_noted}
use Rattle.node_core.proofs.Steps.{silent_notes, plainly}

-- ## Ports

-- the first message of an end isn't held any more
abbrev pub not_held : Port → Port
not_held p = record p { desk = record p.desk { holds = false } }

-- that has nothing to do with its turn
pub either_first : (h : ℕ) (ports : List Port) → with_port h (after_turn FetchMessage) (with_port h not_held ports)
    ≡ with_port h not_held (with_port h (after_turn FetchMessage) ports)
either_first h [] = refl
either_first h (p ∷ ports) = let h0 = p.desk.host == h in let h1 = either_first h ports in grind arith

pub got_still : (h : ℕ) (ports : List Port) → got_at (with_port h not_held ports) h ≡ got_at ports h
got_still h [] = refl
got_still h (p ∷ ports) = let h0 = p.desk.host == h in let h1 = got_still h ports in grind arith

-- ## Turns

-- the end that had a message, as it has its turn
abbrev pub turned : ℕ → Work → Work
turned h w = with_desk h (λ d. record d { holds = false }) (turn_at h FetchMessage w)

-- a message has its turn and goes to another end, of which this is noted
pub relayed : {N : Type 0} {n : Node N} {ends : KeptEnds} {noted now start notes : List Entry} {was short : Bool} {w : Work} (m : Message) (h to : ℕ)
    → IsInStep n noted was start w → EndsStandFor ends (turn_at to (Give m) (turned h w)).ports
    → option_map_or (noted_of w.core (Give m)) (port_at (turned h w).ports to) [] ≡ notes
    → (short ≡ false → now ≡ start ++ map unnumbered (w.entries ++ notes))
    → IsInStep (record n { ends = ends }) now short start (turn_at to (Give m) (turned h w))
relayed {n = n} {start = start} {notes = notes} {w = w} m h to u stands are kept = record {
  node = u.node;
  core = λ live. (let k = u.core live in record { journal = k.journal; tables = k.tables; command = k.command; init = k.init });
  ends = stands;
  noted_are = λ whole.
      kept whole ∙ ap (λ es. start ++ map unnumbered es)
      (ap (λ es. es ++ notes) (sym (ap (λ es. w.entries ++ es) (silent_notes w.core FetchMessage w.ports h (λ p. refl)) ∙ append-nil w.entries))
      ∙ ap (λ es. (w.entries ++ option_map_or (noted_of w.core FetchMessage) (port_at w.ports h) []) ++ es) (sym are));
  power = u.power;
}

pub relayed_sent : {N : Type 0} {n : Node N} {ends : KeptEnds} {noted now start : List Entry} {was short : Bool} {w : Work} {at : End} (m : Message) (h to : ℕ)
    → IsInStep n noted was start w → EndsStandFor ends (turn_at to (Give m) (turned h w)).ports → true ≡ takes_at m (port_at (turned h w).ports to)
    → (was ≡ true → short ≡ true) → (short ≡ false → now ≡ noted ++ entry.Sent at 0 m.0 m.1 ∷ []) → at ≡ end_of_node w.core to
    → IsInStep (record n { ends = ends }) now short start (turn_at to (Give m) (turned h w))
relayed_sent {noted = noted} {start = start} {w = w} {at = at} m h to u stands takes stays more is =
    let s = sent_noted w.core to m (turned h w).ports takes in
    relayed m h to u stands s.notes_are
    (λ kept. more_noted start w.entries (entry.Sent (end_of_node w.core to) s.session m.0 m.1) stays (λ k. more k ∙ (grind arith)) u.noted_are kept)

pub relayed_nowhere : {N : Type 0} {n : Node N} {ends : KeptEnds} {noted start : List Entry} {was : Bool} {w : Work} (m : Message) (h to : ℕ)
    → IsInStep n noted was start w → EndsStandFor ends (turn_at to (Give m) (turned h w)).ports → false ≡ takes_at m (port_at (turned h w).ports to)
    → IsInStep (record n { ends = ends }) noted was start (turn_at to (Give m) (turned h w))
relayed_nowhere {start = start} {w = w} m h to u stands refuses =
    relayed m h to u stands (none_noted w.core to m (turned h w).ports refuses)
    (λ kept. u.noted_are kept ∙ ap (λ es. start ++ map unnumbered es) (sym (append-nil w.entries)))

-- ## The whole turn

pub one_done : (h : ℕ) (d : DeedOf) (w : Work) → all_done h (d ∷ []) w ≡ done h d w
one_done h d w = grind arith

pub relay_handles : {N : Type 0} (writes : N → ℕ → List ℕ → Bool → N → Type 0) {n n2 : Node N} {noted now start : List Entry} {was short : Bool} {w : Work}
    (h to : ℕ) (m : Message) → IsInStep n noted was start w → n.store.journal.live ≡ true → n2.store ≡ n.store
    → IsInStep n2 now short start (done h (Sends to m) (has_turn h m w))
    → Brings writes n.store.journal.nv n2.store.journal.nv (IsInStep n2 now short start) (handles h m (Sends to m ∷ [])) w
relay_handles {N} writes {n} {n2} {noted} {now} {start} {was} {short} {w} h to m u live same after =
    let one : (v : Work) → handles h m (Sends to m ∷ []) v ≡ done h (Sends to m) (has_turn h m v) = λ v. one_done h (Sends to m) (has_turn h m v) in
    let P : Work → Type 0 = λ v. IsInStep n2 now short start v in
    plainly writes {n2 = n2} (handles h m (Sends to m ∷ [])) u live same (subst P (sym (one w)) after) (ap (λ (v : Work). v.cut) (one w))
    (ap (λ (v : Work). v.writes) (one w))
    (λ plan. one (record w { plan = plan }) ∙ ap (λ (v : Work). record v { plan = plan }) (sym (one w)))
