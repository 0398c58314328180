-- One deed, as it is done and as it is noted.
use Rattle.node_core.proofs.Words.{AreMade, Bool, Brings, Command, Core, End, EndsStandFor, Entry, Err, Give, IsInStep, KeptEnds, List, Message}
use Rattle.node_core.proofs.Words.{Node, None, Ok, Option, Port, Refused, Result, SendRefused, Some, State, Stored, WereMade, Work, Write, [], after_turn, ap}
use Rattle.node_core.proofs.Words.{append-nil, append_assoc, arith, body_of, commit, commit_writes, end_of_node, false, give_refusal, given_at, has_room_for}
use Rattle.node_core.proofs.Words.{is_none, is_ok, map, not, noted_of, noting, option_map_or, port_at, refl, subst, sym, takes_at, true, true≢false, turn_at}
use Rattle.node_core.proofs.Words.{unnumbered, with_port, ℕ, ◌++◌, ◌==◌, ◌∙◌, ◌∷◌, ◌≡◌, ◌≢◌, ◌⊎◌}
use Rattle.nv_journal.specs.declared.JournalFault.{JournalFault}
use Rattle.nv_journal.specs.declared.JournalFault.TheVariants.{NvFault, GenerationsSpent}
use Rattle.trace_model.specs.declared.entry.Entry.TheVariants as entry
use Rattle.hci_tables.specs.Tables.{apply}
use Rattle.hci_store.specs.Committing.{record_fits, committed}
use Rattle.node_machine.specs.Carrying.{keeps, loses_power}

-- ## Entries

mapped : (e : Entry) (es : List Entry) → map unnumbered (es ++ e ∷ []) ≡ map unnumbered es ++ unnumbered e ∷ []
mapped e [] = refl
mapped e (x ∷ es) = ap (λ l. unnumbered x ∷ l) (mapped e es)

-- one entry more is noted
pub more_noted : {before now : List Entry} {short was : Bool} (start old : List Entry) (e : Entry) → (was ≡ true → short ≡ true)
    → (short ≡ false → now ≡ before ++ unnumbered e ∷ []) → (was ≡ false → before ≡ start ++ map unnumbered old)
    → short ≡ false → now ≡ start ++ map unnumbered (old ++ e ∷ [])
more_noted {before} {now} {short} {was} start old e stays more told kept = by was refl
  where
    by : (b : Bool) → was ≡ b → now ≡ start ++ map unnumbered (old ++ e ∷ [])
    by true q = absurd (true≢false (sym (stays q) ∙ kept))
    by false q =
        more kept ∙ (ap (λ es. es ++ unnumbered e ∷ []) (told q) ∙ (append_assoc start (map unnumbered old) (unnumbered e ∷ [])
        ∙ ap (λ es. start ++ es) (sym (mapped e old))))

-- ## Messages

pub host_at : (h : ℕ) (ports : List Port) (p : Port) → port_at ports h ≡ Some p → p.desk.host ≡ h
host_at h [] p is = cc
host_at h (q ∷ ports) p is = let h0 = host_at h ports p in let h1 = q.desk.host == h in grind arith

-- what is noted of a message that an end takes for sending
pub record IsSent (core : Core) (h : ℕ) (m : Message) (notes : List Entry) : Type 0 where
  pub session : ℕ
  pub notes_are : notes ≡ entry.Sent (end_of_node core h) session m.0 m.1 ∷ []

pub sent_noted : (core : Core) (h : ℕ) (m : Message) (ports : List Port) → true ≡ takes_at m (port_at ports h)
    → IsSent core h m (option_map_or (noted_of core (Give m)) (port_at ports h) [])
sent_noted core h m ports takes = by (port_at ports h) refl
  where
    by_refusal : (p : Port) → port_at ports h ≡ Some p → (o : Option Refused) → give_refusal p.side m ≡ o
        → IsSent core h m (option_map_or (noted_of core (Give m)) (port_at ports h) [])
    by_refusal p at None q = record {
      session = p.session;
      notes_are = rw (at, q) (ap (λ n. entry.Sent (end_of_node core n) p.session m.0 m.1 ∷ []) (host_at h ports p at));
    }
    by_refusal p at (Some why) q = absurd (true≢false (takes ∙ (ap (takes_at m) at ∙ ap (λ o. is_none o) q)))

    by : (o : Option Port) → port_at ports h ≡ o → IsSent core h m (option_map_or (noted_of core (Give m)) (port_at ports h) [])
    by None at = absurd (true≢false (takes ∙ ap (takes_at m) at))
    by (Some p) at = by_refusal p at (give_refusal p.side m) refl

-- a message was taken for sending and noted
pub sent_under_way : {N : Type 0} {n : Node N} {ends : KeptEnds} {noted now start : List Entry} {was short : Bool} {w : Work} {at : End} (m : Message) (h : ℕ)
    → IsInStep n noted was start w → EndsStandFor ends (with_port h (after_turn (Give m)) w.ports) → true ≡ takes_at m (port_at w.ports h)
    → (was ≡ true → short ≡ true) → (short ≡ false → now ≡ noted ++ entry.Sent at 0 m.0 m.1 ∷ []) → at ≡ end_of_node w.core h
    → IsInStep (record n { ends = ends }) now short start (turn_at h (Give m) w)
sent_under_way {n = n} {noted = noted} {now = now} {start = start} {w = w} {at = at} m h u stands takes stays more is =
    let s = sent_noted w.core h m w.ports takes in
    record {
      node = u.node;
      core = λ live. (let k = u.core live in record { journal = k.journal; tables = k.tables; command = k.command; init = k.init });
      ends = stands;
      noted_are = λ kept.
          more_noted start w.entries (entry.Sent (end_of_node w.core h) s.session m.0 m.1) stays (λ k. more k ∙ (grind arith)) u.noted_are kept
          ∙ ap (λ es. start ++ map unnumbered (w.entries ++ es)) (sym s.notes_are);
      power = u.power;
    }

-- nothing is noted of a message that an end doesn't take
pub none_noted : (core : Core) (h : ℕ) (m : Message) (ports : List Port) → false ≡ takes_at m (port_at ports h)
    → option_map_or (noted_of core (Give m)) (port_at ports h) [] ≡ []
none_noted core h m ports refuses = grind arith

-- a message was refused, and nothing noted
pub refused_under_way : {N : Type 0} {n : Node N} {ends : KeptEnds} {noted start : List Entry} {was : Bool} {w : Work} (m : Message) (h : ℕ)
    → IsInStep n noted was start w → EndsStandFor ends (with_port h (after_turn (Give m)) w.ports) → false ≡ takes_at m (port_at w.ports h)
    → IsInStep (record n { ends = ends }) noted was start (turn_at h (Give m) w)
refused_under_way {start = start} {w = w} m h u stands refuses = record {
  node = u.node;
  core = λ live. (let k = u.core live in record { journal = k.journal; tables = k.tables; command = k.command; init = k.init });
  ends = stands;
  noted_are = λ kept.
      u.noted_are kept
      ∙ ap (λ es. start ++ map unnumbered es)
      (sym (ap (λ es. w.entries ++ es) (none_noted w.core h m w.ports refuses) ∙ append-nil w.entries));
  power = u.power;
}

-- whether an end takes a message, by what it tells
pub told_taken : (m : Message) (port : Option Port) → Ok tt ≡ given_at m port → true ≡ takes_at m port
told_taken m port is = grind arith

pub told_refused : (m : Message) (port : Option Port) (why : SendRefused) → Err why ≡ given_at m port → false ≡ takes_at m port
told_refused m port why is = grind arith

-- ## Commits

pub no_room : (s : State) (c : Command) → has_room_for s c ≡ true → record_fits s (body_of c) ≡ false → s.generation ≡ 4294967295 → ⊥
no_room s c room full spent = true≢false (sym room ∙ (rw (full, spent) refl))

-- what was made by a commit that went through, and by one that didn't
pub made_ok : (P : Bool → Type 0) (r : Result (Unit {0}) JournalFault) → r ≡ Ok tt → (r ≢ Err GenerationsSpent → P (is_ok r)) → P true
made_ok P r ok made = subst P (ap is_ok ok) (made (λ e. (let z : Ok tt ≡ Err GenerationsSpent = sym ok ∙ e in cc)))

pub made_err : (P : Bool → Type 0) (r : Result (Unit {0}) JournalFault) → r ≡ Err NvFault → (r ≢ Err GenerationsSpent → P (is_ok r)) → P false
made_err P r err made = grind arith

-- a commit for which there was room ends by a write that failed
pub nv_fault : (r : Result (Unit {0}) JournalFault) (f : JournalFault) → r ≡ Err f → (f ≡ NvFault) ⊎ (f ≡ GenerationsSpent)
    → (r ≡ Err GenerationsSpent → ⊥) → r ≡ Err NvFault
nv_fault r f is a never = grind arith

-- a store has kept a command, or lost its memory in it
pub record HasKept {N : Type 0} (writes : N → ℕ → List ℕ → Bool → N → Type 0) (old new : Stored N) (c : Command) : Type 0 where
  pub made : AreMade writes (commit_writes old.journal.state old.tables (body_of c)) old.journal.nv true new.journal.nv
  pub state : new.journal.state ≡ committed old.journal.state old.tables (body_of c)
  pub tables : new.tables ≡ apply old.tables c
  pub before : old.journal.live ≡ true
  pub live : new.journal.live ≡ true

pub record HasLost {N : Type 0} (writes : N → ℕ → List ℕ → Bool → N → Type 0) (old new : Stored N) (c : Command) : Type 0 where
  pub made : AreMade writes (commit_writes old.journal.state old.tables (body_of c)) old.journal.nv false new.journal.nv
  pub before : old.journal.live ≡ true
  pub dead : new.journal.live ≡ false

pub kept_brings : {N : Type 0} {writes : N → ℕ → List ℕ → Bool → N → Type 0} {n : Node N} {s : Stored N} {noted now start : List Entry} {short was : Bool}
    {w : Work} (c : Command) → HasKept writes n.store s c → IsInStep n noted was start w
    → (short ≡ false → now ≡ start ++ map unnumbered (w.entries ++ entry.Command w.core.node c ∷ []))
    → Brings writes n.store.journal.nv s.journal.nv (IsInStep (record n { store = s }) now short start) (commit c) w
kept_brings {N} {writes} {n} {s} {now = now} {start = start} {short = short} {w = w} c h u notes =
    let power = u.power ∙ ap not h.before in
    let k = u.core power in
    let ws : List Write = commit_writes w.core.journal w.core.tables (body_of c) in
    let after : Work = keeps c ws (noting (entry.Command w.core.node c ∷ []) w) in
    let P : List Write → Type 0 = λ l. AreMade writes l n.store.journal.nv true s.journal.nv in
    record {
      after = after;
      stands = grind arith;
      sure = ws;
      torn = [];
      written = ap (λ l. w.writes ++ l) (sym (append-nil ws));
      made = subst (λ t. WereMade writes ws [] n.store.journal.nv t s.journal.nv) (sym power) (refl, subst P (grind arith) h.made);
      is = grind arith;
    }

pub lost_brings : {N : Type 0} {writes : N → ℕ → List ℕ → Bool → N → Type 0} {n : Node N} {s : Stored N} {noted now start : List Entry} {short was : Bool}
    {w : Work} (c : Command) → HasLost writes n.store s c → IsInStep n noted was start w
    → (short ≡ false → now ≡ start ++ map unnumbered ((w.entries ++ entry.Command w.core.node c ∷ []) ++ entry.Cut w.core.node ∷ []))
    → Brings writes n.store.journal.nv s.journal.nv (IsInStep (record n { store = s }) now short start) (commit c) w
lost_brings {N} {writes} {n} {s} {now = now} {start = start} {short = short} {w = w} c h u notes =
    let power = u.power ∙ ap not h.before in
    let k = u.core power in
    let ws : List Write = commit_writes w.core.journal w.core.tables (body_of c) in
    let after : Work = loses_power ws (noting (entry.Command w.core.node c ∷ []) w) in
    record {
      after = after;
      stands = grind arith;
      sure = [];
      torn = ws;
      written = refl;
      made = (n.store.journal.nv, (refl, refl), subst (λ l. AreMade writes l n.store.journal.nv false s.journal.nv) (grind arith) h.made);
      is = λ plan foretold. rw foretold.1 refl;
    }
