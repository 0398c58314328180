-- What is noted where memory runs out.
use Rattle.std.specs.Prelude.{◌≡◌, List, ◌++◌}
use Rattle.trace_model.specs.declared.entry.Entry.{Entry}

-- of all that was to be noted a front is, behind what was noted before
pub record IsFrontNoted (before now whole : List Entry) : Type 0 where
  pub front : List Entry
  pub back : List Entry
  pub now_is : now ≡ before ++ front
  pub whole_is : whole ≡ front ++ back
