use Rattle.swp_tool.proofs.Words.{HasGoneThrough, Header, IsWorldAt, List, Play, ◌-◌, ◌≤◌}
use Rattle.swp_tool.proofs.RoundLemmas.{MayNeedMore}
use Rattle.swp_tool.proofs.settling.gather.Given as goal

-- so many rounds were played, what they tell was gathered, and all of them were needed
abbrev pub invariant-rounds : goal.invariant-rounds
invariant-rounds l = record {
  few : l.rounds ≤ l.most;
  gone : (header : Header) (plays : List Play) → IsWorldAt l.initial.world header plays
      → HasGoneThrough l.world header plays l.rounds l.initial.text.items l.text.items;
  need : (header : Header) (plays : List Play) → IsWorldAt l.initial.world header plays → MayNeedMore header plays l.most l.rounds;
}

abbrev pub decreases-rounds : goal.decreases-rounds
decreases-rounds l = l.most - l.rounds
