-- A node with one link keeps over each event what is read.
use Rattle.std.proofs.Common.{Result, Ok, Err}
use Rattle.lone_laws.proofs.Words.{AllByRecursion, ArePassed, Bool, ComesTo, Control, End, Entry, FrameComes, FrameIsRefused, LinkInput, List, LoneCause}
use Rattle.lone_laws.proofs.Words.{LpduFault, NodeInput, ResetComes, Some, StartComes, StopComes, TickComes, Work, all_come, all_do, all_done, arith}
use Rattle.lone_laws.proofs.Words.{comes_lasts, comes_to_pass, control_of, end_of_node_alone, false, hosts_of_ends, lone_input, lpdu_input, node_input, passes}
use Rattle.lone_laws.proofs.Words.{refl, steps, steps_are, subst, sym, syncs_in, through, true, true≢false, unless_cut, ℕ, ◌∙◌, ◌≡◌, ◌≤◌}
use Rattle.node_laws.specs.passes.Passing.ComesTo.{Begins}
use Rattle.lone_laws.proofs.answered.Memories.{IsOwnDeed}
use Rattle.lone_laws.proofs.answered.Reading.{Read, Alone, alone_does}
use Rattle.lone_laws.proofs.answered.Turning.{alone_at}
use Rattle.lone_laws.proofs.answered.Coming.{IsLoneInput, alone_comes, pass_is}

-- ## What comes

pub lone_lpdu : (bytes : List ℕ) → IsLoneInput (lpdu_input bytes)
lone_lpdu bytes = go (control_of bytes) refl where
  go : (x : Result Control LpduFault) → control_of bytes ≡ x → IsLoneInput (lpdu_input bytes)
  go (Ok c) q = rw q tt
  go (Err fault) q = rw q tt

pub lone_comes : (c : LoneCause) (i : LinkInput) → lone_input c ≡ Some i → IsLoneInput i
lone_comes (FrameComes bytes) i q = let is : lpdu_input bytes ≡ i = cc in subst IsLoneInput is (lone_lpdu bytes)
lone_comes (FrameIsRefused fault) i q = absurd (cc q)
lone_comes TickComes i q = let is : Rattle.link_laws.specs.machine.Machine.LinkInput.Tick ≡ i = cc in subst IsLoneInput is tt
lone_comes (ResetComes window) i q = let is : Rattle.link_laws.specs.machine.Machine.LinkInput.Reset window ≡ i = cc in subst IsLoneInput is tt
lone_comes (StartComes value) i q = let is : Rattle.link_laws.specs.machine.Machine.LinkInput.Start value ≡ i = cc in subst IsLoneInput is tt
lone_comes StopComes i q = let is : Rattle.link_laws.specs.machine.Machine.LinkInput.Stop ≡ i = cc in subst IsLoneInput is tt

-- ## A step

module _ (number h : ℕ) (some : 1 ≤ h) (most : h ≤ 7) (r : Read) (t : List Entry) where
  abbrev e : End
  e = end_of_node_alone number h

  abbrev Of : Work → Type 0
  Of w = Alone number h r t w

  abbrev While : Work → Type 0
  While w = w.cut ≡ false → Of w

  pub syncs_own : (i : LinkInput) (w : Work) (a : Of w) → AllByRecursion (IsOwnDeed number) (syncs_in (node_input h i) w)
  syncs_own i w a = grind arith

  pub alone_begins : (i : LinkInput) → IsLoneInput i → (w : Work) → Of w → While (comes_to_pass (node_input h i) w)
  alone_begins i may w a still =
      let input : NodeInput = node_input h i in
      let is : comes_to_pass input w ≡ all_done 0 (syncs_in input w) (all_come input w) = pass_is number h r t i may w a in
      subst Of (sym is)
      (all_do While (IsOwnDeed number) (alone_does number h r t) 0 (syncs_in input w) (all_come input w) (syncs_own i w a)
      (λ _. alone_comes number h r t i may w a) (subst (λ v. v.cut ≡ false) is still))

  -- its pass
  pub passed : (v : Work) → v.cut ≡ false → ArePassed (ComesTo v) (hosts_of_ends v.ports) v (passes v)
  passed v on = through (ComesTo v) (comes_lasts v) (hosts_of_ends v.ports) v Begins on

  pub alone_steps : (i : LinkInput) → IsLoneInput i → (w : Work) → Of w → While (steps (node_input h i) w)
  alone_steps i may w a =
      let v : Work = comes_to_pass (node_input h i) w in
      subst While (sym (steps_are (node_input h i) w)) (go v.cut refl) where
        v : Work
        v = comes_to_pass (node_input h i) w

        go : (b : Bool) → v.cut ≡ b → While (unless_cut passes v)
        go true q = rw q (λ still. absurd (true≢false (sym q ∙ still)))
        go false q = rw q (λ still. alone_at number h some most r t v (passes v) (alone_begins i may w a q) ((passed v q).keeps still))
