-- A node whose frames go out, and who carries them.
use Rattle.std.specs.Prelude.{◌≡◌, ◌≢◌, ℕ, zero, suc, ◌+◌, ◌≤◌, Bool, false, true, not, List, [], ◌∷◌, ◌++◌, map, Option, None, option_map}
use Rattle.std.specs.Option.{option_map_or}
use Rattle.swp_lpdu.specs.Controls.{lpdu_of}
use Rattle.trace_model.specs.declared.entry.Entry.{Entry}
use Rattle.link_laws.specs.machine.Machine.{frames_out, sent_all}
use Rattle.node_machine.specs.Parts.{Core, Port, Work}
use Rattle.node_machine.specs.Carrying.{port_at}
use Rattle.node_ends.specs.Ends.{frame_at}
use Rattle.node_core.specs.declared.node.Node.{Node}
use Rattle.node_core.specs.Noting.{unnumbered}
use Rattle.node_core.specs.Running.{RunsAs, IsAllSent}

-- the frames that are due at the end of the link with this host, where there is one, each with its host, in the order in which they go out
abbrev pub due_to : ℕ → List Port → List (ℕ × List ℕ)
due_to h ports = option_map_or (λ (p : Port). map (λ c. (h, lpdu_of c)) (frames_out p.side)) (port_at ports h) []

-- those to host 01, those to host 02, and so on, as far as this host
abbrev pub due_as_far_as : ℕ → List Port → List (ℕ × List ℕ)
due_as_far_as zero ports = []
due_as_far_as (suc h) ports = due_as_far_as h ports ++ due_to (suc h) ports

-- an end all of whose frames went out
abbrev pub has_sent_all : Port → Port
has_sent_all p = record p { side = sent_all p.side }

-- These frames were handed on behind those before. Nothing is said where there was no room for one, now or before.
pub record AreHandedOn (was_full is_full : Bool) (before now frames : List (ℕ × List ℕ)) : Type 0 where
  pub room : is_full ≡ false → was_full ≡ false
  pub behind : is_full ≡ false → now ≡ before ++ frames

-- A node whose ends were these, from which all frames to this host went out since, and no others.
pub record HasSentTo {N : Type 0} (n : Node N) (core : Core) (host : ℕ) (ports : List Port) : Type 0 where
  pub there : List Port
  pub runs : RunsAs n core there
  pub sent : frame_at (port_at there host) ≡ None
  pub whole : port_at there host ≡ option_map has_sent_all (port_at ports host)
  pub others : (k : ℕ) → k ≢ host → port_at there k ≡ port_at ports k

-- A node whose ends were these, from which all frames went out since.
pub record HasSentToAll {N : Type 0} (n : Node N) (core : Core) (ports : List Port) : Type 0 where
  pub there : List Port
  pub runs : RunsAs n core there
  pub sent : IsAllSent there
  pub whole : (k : ℕ) → 1 ≤ k → k ≤ 7 → port_at there k ≡ option_map has_sent_all (port_at ports k)

-- the frames that go out behind a step: all that are due, and none where the power went in it
abbrev pub out_behind : Work → List (ℕ × List ℕ)
out_behind w = unless w.cut where
  unless : Bool → List (ℕ × List ℕ)
  unless true = []
  unless false = due_as_far_as 7 w.ports

-- A node behind a step all of whose frames were handed on: it runs, unless it has lost its power. What was noted in the step stands behind
-- the entries from before, while there was memory for them.
pub record HasHandedOn {N : Type 0} (n : Node N) (noted : List Entry) (short : Bool) (start : List Entry) (was_full is_full : Bool)
    (before now : List (ℕ × List ℕ)) (w : Work) : Type 0 where
  pub power : w.cut ≡ not n.store.journal.live
  pub runs : w.cut ≡ false → HasSentToAll n w.core w.ports
  pub noted_are : short ≡ false → noted ≡ start ++ map unnumbered w.entries
  pub handed : AreHandedOn was_full is_full before now (out_behind w)
