-- The memory of a node that stands for a state of the world.
use Rattle.std.proofs.Common.{cond, inl, inr, min, ◌⊎◌}
use Rattle.std.proofs.lemmas.Bool.{cases_Bool, not-false, not-true}
use Rattle.node_sites.proofs.Words.{AllByRecursion, Bool, Core, Desk, IsNodePlace, IsSoundMemory, List, Loss, Memory, Node, None, NumberedEnd, On, Option, Port}
use Rattle.node_sites.proofs.Words.{Running, RunsAs, Some, Write, WritesAsPlanned, [], after_planned, ap, append-nil, ap₂, arith, changed_if, eq-eqb}
use Rattle.node_sites.proofs.Words.{fails_within, false, length, map, next_frame, node_memory, not, option_map_or, port_for, refl, subst, suc, sym, true}
use Rattle.node_sites.proofs.Words.{true≢false, with_port, zero, ℕ, ◌++◌, ◌+◌, ◌==◌, ◌∙◌, ◌∷◌, ◌≡◌, ◌≤◌}
use Rattle.swp_base.specs.InMemory.{ReadsAsPlanned, is_next_read, memory_read}
use Rattle.journal_laws.specs.declared.banks.Side.{Side}
use Rattle.journal_laws.specs.declared.state.State.{State}
use Rattle.journal_laws.specs.Banks.{other, is_opened_gate, head, current}
use Rattle.journal_laws.specs.Journal.{unformatted, journal_at, journal, state_by, state_of}
use Rattle.journal_laws.specs.Operations.{started_state, start_writes, compact_writes, compacted, format_writes}
use Rattle.journal_laws.specs.Writes.{AreMade, AreRead, FitIn}
use Rattle.journal_laws.proofs.Opening.{length-after, length-cut}
use Rattle.journal_laws.proofs.Planned.{planned_answer, planned_memory}
use Rattle.nv_journal.specs.declared.JournalFault.{JournalFault}
use Rattle.nv_journal.specs.declared.JournalFault.TheVariants.{NvFault, GenerationsSpent}
use Rattle.nv_journal.specs.Refusals.{IsImageFault}
use Rattle.hci_tables.specs.Tables.{close}
use Rattle.hci_store.specs.Committing.{snapshot_bodies}
use Rattle.hci_store.specs.Image.{tables_of}
use Rattle.hci_store.specs.Starting.{ready_writes, ready_state, HasWritten}
use Rattle.node_machine.specs.Node.{found, boot_writes, with_error}
use Rattle.node_core.specs.Booting.{found_in_memory, IsStartRefused}
use Rattle.node_laws.proofs.kept.Reckoned.{planned_cut, planned_whole}
use Rattle.link_laws.specs.messages.Links.Loss.{OnDemand, Broken, Unread, TooOld, TooMany}
use Rattle.node_machine.specs.world.World.{counts}
use Rattle.node_core.specs.Running.{one_more_error}
use Rattle.node_sites.specs.declared.power.Power.{Power}
use Rattle.node_sites.specs.declared.power.Power.TheVariants.{Off}
use Rattle.node_sites.specs.Powers.{is_broken, memory_kept}

pub kept_is : (k : Power) (m : Memory) (o : Option Running) (near : ℕ → NumberedEnd)
    → IsNodePlace k m o near → memory_kept k ≡ m
kept_is (On n) m (Some r) near place = place.0
kept_is (On n) m None near place = absurd place
kept_is (Off kept) m None near place = place
kept_is (Off kept) m (Some r) near place = absurd place

-- A boot of a controller or a host over a memory that keeps its bytes, none of whose reads is to fail.

-- ## Reads

one_read : (m n : Memory) (ok : Bool) → m.failing_read ≡ None → ReadsAsPlanned m ok n → (ok ≡ true) × (n ≡ m)
one_read m n ok none r = (
  r.answer ∙ ap (λ o. not (is_next_read o)) none,
  r.memory ∙ still,
)
  where
    still : memory_read m ≡ m
    still = rw none refl

-- reads go through, and change nothing
pub all_read : (most : ℕ) (m n : Memory) (ok : Bool) → m.failing_read ≡ None → AreRead ReadsAsPlanned most m ok n → (ok ≡ true) × (n ≡ m)
unfolding AreRead
all_read zero m n ok none r = r
all_read (suc most) m n ok none (inl done) = done
all_read (suc most) m n ok none (inr (inl failed)) = absurd (true≢false (sym (one_read m n false none failed.1).0))
all_read (suc most) m n ok none (inr (inr rest)) =
    let first = (one_read m rest.0 true none rest.1).1 in
    let later = all_read most rest.0 n ok (rw (← first) at none) rest.2 in
    (later.0, later.1 ∙ first)

-- ## What stands in the memory

-- the state of a memory, by the bank in use
abbrev state_at : List ℕ → Option Side → State
state_at content o =
    state_by o (option_map_or (journal_at content) o unformatted) (option_map_or (λ side. is_opened_gate (head content (other side)).gate) o false)

-- one of version 02 isn't of version 01
not_first : (content : List ℕ) → (started_state (state_of content)).version ≡ 2 → (journal content).head.version ≡ 1 → ⊥
not_first content two one = by (current content) two one
  where
    by : (o : Option Side) → (started_state (state_at content o)).version ≡ 2 → (state_at content o).version ≡ 1 → ⊥
    by None two one = omega (arith, one)
    by (Some side) two one = omega (arith, two, one)

module _ (content : List ℕ) (two : (started_state (state_of content)).version ≡ 2) where
  abbrev started : State
  started = started_state (state_of content)

  is_two : (started.version == 2) ≡ true
  is_two = eq-eqb started.version 2 two

  pub ready_as_boot : ready_writes content ≡ boot_writes content
  ready_as_boot =
      ap (λ b. start_writes (state_of content) ++ cond b [] (compact_writes started (snapshot_bodies (close (tables_of content))))) is_two
      ∙ append-nil (start_writes (state_of content))

  ready_as_started : ready_state content ≡ started_state (state_of content)
  ready_as_started = ap (λ b. cond b started (compacted started (snapshot_bodies (close (tables_of content))))) is_two

  pub found_as_booted : (node : ℕ) (hosts : List ℕ) → (found_in_memory node hosts content).core ≡ (found node hosts content).core
  found_as_booted node hosts = ap (λ (s : State). record (found node hosts content).core { journal = s }) ready_as_started

-- ## How a boot ends

module _ (m : Memory) (may : IsSoundMemory m) where
  written_as : (ok : Bool) (n : Memory) → HasWritten ReadsAsPlanned WritesAsPlanned (λ (x : Memory). x.content) (ready_writes m.content) m ok n
      → AreMade WritesAsPlanned (boot_writes m.content) m ok n
  written_as ok n h =
      let A : Memory → List Write → Type 0 = λ x ws. AreMade WritesAsPlanned ws x ok n in
      subst (A m) (ready_as_boot m.content may.version) (rw (all_read 37 m h.read true may.reads h.behind).1 at h.made)

  -- all writes went through, or one of them failed
  pub boots_so : (n : Memory) → HasWritten ReadsAsPlanned WritesAsPlanned (λ (x : Memory). x.content) (ready_writes m.content) m true n
      → (fails_within (length (boot_writes m.content)) m.plan ≡ false) × (n ≡ after_planned (boot_writes m.content) m)
  boots_so n h =
      let made = written_as true n h in (
        not-true (fails_within (length (boot_writes m.content)) m.plan) (sym (planned_answer (boot_writes m.content) m true n made)),
        planned_memory (boot_writes m.content) m true n made,
      )

  cut_so : (n : Memory) → HasWritten ReadsAsPlanned WritesAsPlanned (λ (x : Memory). x.content) (ready_writes m.content) m false n
      → (fails_within (length (boot_writes m.content)) m.plan ≡ true) × (n ≡ after_planned (boot_writes m.content) m)
  cut_so n h =
      let made = written_as false n h in (
        not-false (fails_within (length (boot_writes m.content)) m.plan) (sym (planned_answer (boot_writes m.content) m false n made)),
        planned_memory (boot_writes m.content) m false n made,
      )

  -- a start that is refused has lost its power in a write
  pub refused_so : (faults : Memory → ℕ) (n : Memory) (f : JournalFault)
      → IsStartRefused ReadsAsPlanned WritesAsPlanned faults true (λ (x : Memory). x.content) m n f
      → (fails_within (length (boot_writes m.content)) m.plan ≡ true) × (n ≡ after_planned (boot_writes m.content) m)
  refused_so faults n f r = by r.known
    where
      torn : f ≡ NvFault → (AreRead ReadsAsPlanned 37 m false n × (n.content ≡ m.content))
          ⊎ HasWritten ReadsAsPlanned WritesAsPlanned (λ (x : Memory). x.content) (ready_writes m.content) m false n
          → (fails_within (length (boot_writes m.content)) m.plan ≡ true) × (n ≡ after_planned (boot_writes m.content) m)
      torn is (inl unread) = absurd (true≢false (sym (all_read 37 m n false may.reads unread.0).0))
      torn is (inr written) = cut_so n written

      by : (f ≡ NvFault) ⊎ (f ≡ GenerationsSpent) ⊎ IsImageFault f
          → (fails_within (length (boot_writes m.content)) m.plan ≡ true) × (n ≡ after_planned (boot_writes m.content) m)
      by (inl is) = torn is (r.torn refl is)
      by (inr (inl spent)) = absurd (not_first m.content may.version (r.spent refl spent).version)
      by (inr (inr image)) = absurd (let z : None ≡ Some f = sym may.image ∙ r.image refl image in cc)

-- ## The size of a memory

boot_fits : (size : ℕ) (o : Option Side) → 65536 ≤ size → FitIn size (option_map_or (λ _. []) o format_writes)
boot_fits size None large = (omega (arith, large), (omega (arith, large), tt))
boot_fits size (Some side) large = tt

-- a boot leaves it as it was
pub size_kept : (m : Memory) → length m.content ≡ 65536 → length (after_planned (boot_writes m.content) m).content ≡ 65536
size_kept m size = by (cases_Bool (fails_within (length (boot_writes m.content)) m.plan))
  where
    fits : FitIn (length m.content) (boot_writes m.content)
    fits = boot_fits (length m.content) (state_of m.content).in_use (omega (arith, size))

    by : (fails_within (length (boot_writes m.content)) m.plan ≡ true) ⊎ (fails_within (length (boot_writes m.content)) m.plan ≡ false)
        → length (after_planned (boot_writes m.content) m).content ≡ 65536
    by (inl fails) =
        let cut = planned_cut (boot_writes m.content) m fails in
        length-cut cut.0 (boot_writes m.content) m.content (after_planned (boot_writes m.content) m).content fits cut.1 ∙ size
    by (inr none) =
        ap length (planned_whole (boot_writes m.content) m none).0 ∙ (length-after (boot_writes m.content) m.content fits ∙ size)

-- A frame that was refused on its way to an end of a node counts for REC_ERROR of that end, while the node runs.

counts_plain : (why : Loss) (h : ℕ) (node : Option Running) → is_broken why ≡ false → counts why h node ≡ node
counts_plain OnDemand h o q = refl
counts_plain (Broken fault) h o q = cc
counts_plain Unread h o q = refl
counts_plain TooOld h o q = refl
counts_plain TooMany h o q = refl

counts_none : (why : Loss) (h : ℕ) → counts why h None ≡ None
counts_none OnDemand h = refl
counts_none (Broken fault) h = refl
counts_none Unread h = refl
counts_none TooOld h = refl
counts_none TooMany h = refl

counts_one : (why : Loss) (h : ℕ) (r : Running) → is_broken why ≡ true → counts why h (Some r) ≡ Some (record r { desks = with_error h r.desks })
counts_one OnDemand h r q = cc
counts_one (Broken fault) h r q = refl
counts_one Unread h r q = cc
counts_one TooOld h r q = cc
counts_one TooMany h r q = cc

-- the ends of a node with one more error
error_ends : (h : ℕ) (near : ℕ → NumberedEnd) (desks : List Desk)
    → with_port h one_more_error (map (λ (d : Desk). port_for (near d.host) d) desks) ≡ map (λ (d : Desk). port_for (near d.host) d) (with_error h desks)
error_ends h near [] = refl
error_ends h near (d ∷ desks) = ap₂ (λ (x : Port) xs. x ∷ xs) (one (d.host == h)) (error_ends h near desks)
  where
    one : (b : Bool) → changed_if b one_more_error (port_for (near d.host) d)
        ≡ (let e : Desk = changed_if b (λ (x : Desk). record x { errors = min 65535 (x.errors + 1) }) d in port_for (near e.host) e)
    one true = refl
    one false = refl

still_sent : (h : ℕ) (near : ℕ → NumberedEnd) (desks : List Desk) → AllByRecursion (λ (d : Desk). next_frame (near d.host).side ≡ None) desks
    → AllByRecursion (λ (d : Desk). next_frame (near d.host).side ≡ None) (with_error h desks)
still_sent h near [] a = tt
still_sent h near (d ∷ desks) a = (one (d.host == h), still_sent h near desks a.1)
  where
    one : (b : Bool)
        → next_frame (near (changed_if b (λ (x : Desk). record x { errors = min 65535 (x.errors + 1) }) d).host).side ≡ None
    one true = a.0
    one false = a.0

module _ (m : Memory) (near : ℕ → NumberedEnd) (h : ℕ) (why : Loss) where
  -- nothing counts: it wasn't refused
  pub plain : (k : Power) (node : Option Running) → is_broken why ≡ false → IsNodePlace k m node near → IsNodePlace k m (counts why h node) near
  plain k node q place = let O : Option Running → Type 0 = λ o. IsNodePlace k m o near in subst O (sym (counts_plain why h node q)) place

  -- or the node doesn't run
  pub while_off : (k : Power) (o : Option Running) → ((n : Node Memory) → k ≡ On n → ⊥) → IsNodePlace k m o near
      → IsNodePlace k m (counts why h o) near
  while_off (On n) o off place = absurd (off n refl)
  while_off (Off kept) (Some r) off place = absurd place
  while_off (Off kept) None off place = let O : Option Running → Type 0 = λ o. IsNodePlace (Off kept) m o near in subst O (sym (counts_none why h)) place

  -- it counts
  pub counted : (n n2 : Node Memory) (node : Option Running) → is_broken why ≡ true → node_memory n2 ≡ node_memory n
      → ((core : Core) (ports : List Port) → RunsAs n core ports → RunsAs n2 core (with_port h one_more_error ports))
      → IsNodePlace (On n) m node near → IsNodePlace (On n2) m (counts why h node) near
  counted n n2 None broken memory runs place = absurd place
  counted n n2 (Some r) broken memory runs place =
      rw (counts_one why h r broken) (
        memory ∙ place.0,
        rw (error_ends h near r.desks) at (runs r.core (map (λ (d : Desk). port_for (near d.host) d) r.desks) place.1),
        still_sent h near r.desks place.2,
      )
