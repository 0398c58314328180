-- A node alone, for which states of its machine it stands, and for which bytes.
use Rattle.std.specs.Prelude.{◌≡◌, ℕ, Bool, false, if◌then◌else◌, List, [], ◌∷◌, ◌++◌, reverse, is_none, Some}
use Rattle.swp_base.specs.InMemory.{Memory}
use Rattle.journal_laws.specs.Writes.{Write}
use Rattle.journal_laws.specs.Planned.{after_planned}
use Rattle.link_laws.specs.machine.Machine.{new_link_end}
pub use Rattle.node_core.specs.Booting.{IsBootRefused}
pub use Rattle.node_core.specs.declared.booting.BootFault.{BootFault}
pub use Rattle.node_core.specs.declared.booting.BootFault.TheVariants.{Journal, NoMemory}
use Rattle.node_core.specs.Booting.{found_in_memory}
use Rattle.node_core.specs.Bringing.{WereMade, Foretells}
use Rattle.lone_laws.specs.alone.Lone.{Lone, LoneCause, role_alone, lone_after}
use Rattle.lone_laws.specs.alone.Ends.{EndForm, first_comes, bytes_bring, end_causes, end_written}
use Rattle.node_core.specs.declared.node.Node.{Node}
use Rattle.one_end.specs.Alone.{RunsAlone}
use Rattle.one_end.specs.declared.one_end.OneEnd.{OneEnd}
use Rattle.one_end.specs.Reading.{form_read, ReaderStandsFor}
use Rattle.one_end.specs.Running.{all_answered, BringsAlone, HasAnswered}
use Rattle.one_end.specs.Writing.{form_named}

-- it has its power and is in this state, all its frames out, and these bytes came to it, the newest first
pub record StandsAlone {N : Type 0} (e : OneEnd N) (l : Lone) (older : List ℕ) : Type 0 where
  pub runs : RunsAlone e.node l []
  pub form_is : form_read e.reader ≡ form_named e.form
  pub reads : ReaderStandsFor e.reader e.node.number older

-- it stands so, or has lost its power
abbrev pub IsAlone : {N : Type 0} → OneEnd N → List ℕ → Bool → Lone → Type 0
IsAlone e older stopped l = (stopped ≡ is_none l.node) × (stopped ≡ false → StandsAlone e l older)

-- These bytes came to the one end, which is the other then, and what it wrote was appended.
abbrev pub HearsAlone : {N : Type 0} → (N → ℕ → List ℕ → Bool → N → Type 0) → OneEnd N → OneEnd N → Bool → List ℕ → List ℕ → List ℕ → Type 0
HearsAlone writes d e stopped bytes before now =
    (l : Lone) (older : List ℕ) → StandsAlone d l older
    → HasAnswered writes d.node.store.journal.nv e.node.store.journal.nv (IsAlone e (reverse bytes ++ older) stopped)
    (λ m. all_answered (form_named d.form) (record l { memory = m }) (bytes_bring (form_named d.form) d.node.number older bytes)) before now

-- A node that found this content as it booted, the controller or host 02 by its number, with the link between them. It runs over this
-- memory, into which its boot has written what it writes. A memory of version 01 was written anew then, with its tables and its count.
abbrev pub booted_from : ℕ → List ℕ → Memory → Lone
booted_from number content m = record {
  number = number;
  link = 2;
  node = Some (found_in_memory number (2 ∷ []) content);
  memory = m;
  side = new_link_end (role_alone number);
  rsets = 0;
  session = 0;
}

-- the node of a run of `end`
abbrev pub end_booted : Bool → List ℕ → Memory → Lone
end_booted is_clf content m = booted_from (if is_clf then 0 else 2) content m

-- all that comes to the node over these bytes, the oldest first, but for the resets that it asks for itself
abbrev pub run_brings : EndForm → ℕ → List ℕ → List LoneCause
run_brings form number bytes = first_comes form number ++ bytes_bring form number [] bytes

-- A node found this content as it booted, and has its power: the first memory here is that behind the boot.
abbrev pub HasBooted : {N : Type 0} → (N → ℕ → List ℕ → Bool → N → Type 0) → List ℕ → N → Node N → Type 0
HasBooted writes content first n =
    BringsAlone writes first n.store.journal.nv (λ l. RunsAlone n l []) (λ m. (booted_from n.number content m, [])) []

-- A node found this content as it booted, over the first memory here, and these bytes came to it: so it wrote, and so it stands.
abbrev pub HasRun : {N : Type 0} → (N → ℕ → List ℕ → Bool → N → Type 0) → List ℕ → N → OneEnd N → Bool → List ℕ → List ℕ → Type 0
HasRun writes content first e stopped bytes written =
    BringsAlone writes first e.node.store.journal.nv (IsAlone e (reverse bytes) stopped)
    (λ m. all_answered (form_named e.form) (booted_from e.node.number content m) (run_brings (form_named e.form) e.node.number bytes)) written

-- A run over these bytes of a node whose boot found this content brought the memory from the first to the new one, and wrote this: so says
-- the definition of a whole run for each memory whose plan foretells what became of the writes.
pub record IsRunOfBytes {N : Type 0} (writes : N → ℕ → List ℕ → Bool → N → Type 0) (first new : N) (stopped : Bool) (form : EndForm) (is_clf : Bool)
    (content bytes written : List ℕ) : Type 0 where
  pub sure : List Write
  pub torn : List Write
  pub made : WereMade writes sure torn first stopped new
  pub wrote : (m : Memory) → Foretells m.plan sure torn stopped → end_written form (end_booted is_clf content m) bytes ≡ written
  pub behind : (m : Memory) → Foretells m.plan sure torn stopped
      → (lone_after (end_booted is_clf content m) (end_causes form (end_booted is_clf content m) bytes)).memory ≡ after_planned (sure ++ torn) m
  pub runs : (m : Memory) → Foretells m.plan sure torn stopped
      → is_none (lone_after (end_booted is_clf content m) (end_causes form (end_booted is_clf content m) bytes)).node ≡ stopped
