-- What contracts see of sources, sinks and memories that are kept in memory and fail as planned.
use Rattle.std.specs.Prelude.{◌≡◌, ℕ, ◌-◌, ◌%◌, ◌==◌, Bool, true, false, not, if◌then◌else◌, List, [], None, Some, map, slice_index, length}
use Rattle.std.specs.List.{list_any, range_with_len}
use Rattle.std.specs.declared.option.Option.{Option}
use Rattle.swp_base.specs.Outside.{one_more, overwritten}
use Rattle.swp_base.specs.declared.outside.EndOfInput.{EndOfInput}

-- a source: the bytes that it has left, the numbers of the calls that fail, the most bytes of a call, how many calls
-- were made, how many of them failed, and what is known of its end
pub record Reading : Type 0 where
  pub left : List ℕ
  pub fails : List ℕ
  pub piece : ℕ
  pub calls : ℕ
  pub faults : ℕ
  pub end : EndOfInput

-- a source that never fails: the bytes that it has left, and what is known of its end
pub record SureReading : Type 0 where
  pub left : List ℕ
  pub end : EndOfInput

-- a sink: the bytes that it took, and the rest as of a source
pub record Writing : Type 0 where
  pub written : List ℕ
  pub fails : List ℕ
  pub piece : ℕ
  pub calls : ℕ
  pub faults : ℕ

-- the next call fails as planned, where so many were made: its number, from 1, is among these
abbrev pub is_planned : List ℕ → ℕ → Bool
is_planned fails calls = list_any (λ n. n == one_more calls) fails

-- the write that fails: it is the nth from now, where 1 is the next, and what its range is filled with
pub record Plan : Type 0 where
  pub nth : ℕ
  pub fill : List ℕ

-- a memory: its bytes, the write that fails and the number from now of the read that fails, where such are planned, and
-- how many calls failed
pub record Memory : Type 0 where
  pub content : List ℕ
  pub plan : Option Plan
  pub failing_read : Option ℕ
  pub faults : ℕ

-- the next write fails
abbrev pub is_next : Option Plan → Bool
is_next None = false
is_next (Some p) = p.nth == 1

-- the plan after a write: it is spent by the write that failed, and else one nearer
abbrev pub plan_after : Option Plan → Option Plan
plan_after None = None
plan_after (Some p) = if p.nth == 1 then None else Some (record p { nth = p.nth - 1 })

-- so many bytes, made of these over and over
abbrev pub cycled : List ℕ → ℕ → List ℕ
cycled fill len = map (λ i. slice_index fill (i % length fill)) (range_with_len 0 len)

-- what the next write leaves in its range of so many bytes, where it fails
abbrev pub torn_bytes : Option Plan → ℕ → List ℕ
torn_bytes None len = []
torn_bytes (Some p) len = cycled p.fill len

-- the next read fails
abbrev pub is_next_read : Option ℕ → Bool
is_next_read None = false
is_next_read (Some nth) = nth == 1

-- the plan for reads after a read: it is spent by the read that failed, and else one nearer
abbrev pub read_plan_after : Option ℕ → Option ℕ
read_plan_after None = None
read_plan_after (Some nth) = if nth == 1 then None else Some (nth - 1)

-- a memory after a read: its bytes stay, also where the read failed as planned
abbrev pub memory_read : Memory → Memory
memory_read m = record m {
  failing_read = read_plan_after m.failing_read;
  faults = if is_next_read m.failing_read then one_more m.faults else m.faults;
}

-- a read fails exactly where that was planned
pub record ReadsAsPlanned (old : Memory) (ok : Bool) (new : Memory) : Type 0 where
  pub answer : ok ≡ not (is_next_read old.failing_read)
  pub memory : new ≡ memory_read old

-- a memory after a write of these bytes from this place on: it fails where that was planned
abbrev pub memory_after : Memory → ℕ → List ℕ → Memory
memory_after m at bytes =
    if is_next m.plan
    then record m {
      content = overwritten m.content at (torn_bytes m.plan (length bytes));
      plan = None;
      faults = one_more m.faults;
    }
    else record m { content = overwritten m.content at bytes; plan = plan_after m.plan }

-- a write fails exactly where that was planned, and leaves what was planned
pub record WritesAsPlanned (old : Memory) (at : ℕ) (bytes : List ℕ) (ok : Bool) (new : Memory) : Type 0 where
  pub answer : ok ≡ not (is_next old.plan)
  pub memory : new ≡ memory_after old at bytes

-- every read of such a memory goes through, and changes nothing
pub record ReadsSurely (old : List ℕ) (ok : Bool) (new : List ℕ) : Type 0 where
  pub answer : ok ≡ true
  pub memory : new ≡ old

-- every write of such a memory goes through
pub record WritesSurely (old : List ℕ) (at : ℕ) (bytes : List ℕ) (ok : Bool) (new : List ℕ) : Type 0 where
  pub answer : ok ≡ true
  pub memory : new ≡ overwritten old at bytes
