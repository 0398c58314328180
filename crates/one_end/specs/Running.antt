-- What a node alone does with what comes to it, and what it writes, while it doesn't know which write to its memory fails.
use Rattle.std.specs.Prelude.{◌≡◌, ℕ, Bool, true, false, if◌then◌else◌, List, [], ◌∷◌, ◌++◌, is_none, None}
use Rattle.std.specs.List.{flat_map}
use Rattle.swp_base.specs.InMemory.{Memory}
use Rattle.swp_base.specs.declared.control_frames.Control.{Control}
use Rattle.swp_lpdu.specs.Controls.{lpdu_of}
use Rattle.journal_laws.specs.Writes.{Write}
use Rattle.journal_laws.specs.Planned.{after_planned}
use Rattle.link_laws.specs.machine.Machine.{reset_refusal}
use Rattle.node_core.specs.Bringing.{WereMade, Foretells}
use Rattle.lone_laws.specs.alone.Lone.{Lone, LoneCause, lone_step}
use Rattle.lone_laws.specs.alone.Lone.LoneCause.{FrameComes, FrameIsRefused, TickComes, ResetComes, StartComes, StopComes}
use Rattle.lone_laws.specs.alone.Ends.{EndForm, entry_written, frame_written, asks_reset}
use Rattle.node_core.specs.declared.node.Node.{Node}
use Rattle.one_end.specs.Alone.{RunsAlone}
use Rattle.one_end.specs.declared.coming.Coming.{Coming}
use Rattle.one_end.specs.declared.coming.Coming.TheVariants as coming

-- what comes
abbrev pub cause_of : Coming → LoneCause
cause_of (coming.Frame lpdu) = FrameComes lpdu
cause_of (coming.Refused fault) = FrameIsRefused fault
cause_of coming.Tick = TickComes
cause_of coming.Start = StartComes 1
cause_of coming.Stop = StopComes

-- the bytes of these frames
abbrev pub frames_written : EndForm → ℕ → List Control → List ℕ
frames_written form number frames = flat_map (λ c. frame_written form number (lpdu_of c)) frames

-- the node behind what comes, and what it writes
abbrev pub does_alone : EndForm → Lone → LoneCause → Lone × List ℕ
does_alone form l c = ((lone_step l c).0, flat_map (entry_written form l.number) (lone_step l c).1)

-- so, and then with what comes next
abbrev pub then_does : (Lone → Lone × List ℕ) → Lone × List ℕ → Lone × List ℕ
then_does f x = let y : Lone × List ℕ = f x.0 in (y.0, x.1 ++ y.1)

-- the same with the reset that is asked for behind it, where one is
abbrev pub answers_alone : EndForm → Lone → LoneCause → Lone × List ℕ
answers_alone form l c =
    if asks_reset l c then then_does (λ after. does_alone form after (ResetComes None)) (does_alone form l c) else does_alone form l c

-- one after another
abbrev pub all_answered : EndForm → Lone → List LoneCause → Lone × List ℕ
all_answered form l [] = (l, [])
all_answered form l (c ∷ causes) = then_does (λ after. all_answered form after causes) (answers_alone form l c)

-- What a node did brought its memory from old to new, and it wrote these bytes, as f says of each memory whose plan foretells what became
-- of its writes.
pub record BringsAlone {N : Type 0} (writes : N → ℕ → List ℕ → Bool → N → Type 0) (old new : N) (Stands : Lone → Type 0)
    (f : Memory → Lone × List ℕ) (given : List ℕ) : Type 0 where
  pub after : Lone
  pub stands : Stands after
  pub sure : List Write
  pub torn : List Write
  pub made : WereMade writes sure torn old (is_none after.node) new
  pub is : (m : Memory) → Foretells m.plan sure torn (is_none after.node)
      → f m ≡ (record after { memory = after_planned (sure ++ torn) m }, given)

-- the node runs on behind what it did, or has lost its power
abbrev pub RunsYet : {N : Type 0} → Node N → Bool → Lone → Type 0
RunsYet n stopped l = (stopped ≡ is_none l.node) × (stopped ≡ false → RunsAlone n l [])

-- so it is, and where it asks for a reset and has its power, its end takes one
abbrev pub RunsReady : {N : Type 0} → Node N → Bool → Bool → Lone → Type 0
RunsReady n stopped asks l = RunsYet n stopped l × (asks ≡ true → stopped ≡ false → reset_refusal l.side ≡ None)

-- So a node did, and what it wrote was appended.
pub record HasAnswered {N : Type 0} (writes : N → ℕ → List ℕ → Bool → N → Type 0) (old new : N) (Stands : Lone → Type 0)
    (f : Memory → Lone × List ℕ) (before now : List ℕ) : Type 0 where
  pub given : List ℕ
  pub appended : now ≡ before ++ given
  pub brings : BringsAlone writes old new Stands f given
