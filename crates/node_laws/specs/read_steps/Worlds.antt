-- What a world keeps of its controller at a moment between events, and the steps that its controller has.
use Rattle.std.specs.Prelude.{◌≡◌, ℕ, ◌==◌, true, List, Some, None}
use Rattle.std.specs.List.{AllByRecursion, fold}
use Rattle.trace_model.specs.Lines.{IsHost}
use Rattle.trace_model.specs.declared.entry.Entry.{Entry}
use Rattle.node_machine.specs.Parts.{Desk, Running, Work}
use Rattle.node_machine.specs.world.World.{NodeWorld, all_aged, end_c}
use Rattle.node_laws.specs.creations.Worlds.{KeepsCreations}
use Rattle.node_laws.specs.read_steps.Names.{AreNamed}
use Rattle.node_laws.specs.views.Errors.{errors_after, no_errors, errors_in}
use Rattle.node_laws.specs.passes.Steps.{controller_tick_begins}

-- no command that sets REC_ERROR of an end of the controller waits for its answer, and what a controller that runs keeps is what is read
pub record KeepsErrorsRead (t : List Entry) (r : Running) (h : ℕ) : Type 0 where
  pub settled : (fold (errors_after (end_c h)) no_errors t).sets ≡ None
  pub at_desks : AllByRecursion (λ (d : Desk). (d.host == h) ≡ true → d.errors ≡ errors_in t (end_c h)) r.desks

-- A world keeps of its controller what is read: tables, notices, creations, and REC_ERROR while it runs.
pub record KeepsBetween (hosts : List ℕ) (t : List Entry) (w : NodeWorld) : Type 0 where
  pub creations : KeepsCreations hosts t w
  pub errors : (r : Running) → w.controller ≡ Some r → (h : ℕ) → IsHost h → KeepsErrorsRead t r h

-- So it is, and each notice of a creation that was sent names the host that it went to.
pub record ReadsBetween (hosts : List ℕ) (t : List Entry) (w : NodeWorld) : Type 0 where
  pub keeps : KeepsBetween hosts t w
  pub named : AreNamed t

-- ## Steps

-- a controller as its tick begins, behind the frames that grew too old
abbrev pub as_it_ticks : NodeWorld → Running → Work
as_it_ticks w r = controller_tick_begins (all_aged w).0 r
