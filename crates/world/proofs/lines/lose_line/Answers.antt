use Rattle.world.proofs.Words.{Empty, No, OnDemand, WasLost, [], ap, on_ok, refl, seen_from, ◌++◌, ◌∙◌, ◌∷◌}
use Rattle.world.proofs.RoundLemmas.{refused_does, happened_does, none_there, some_there}
use Rattle.world.proofs.Sending.{lost_is}
use Rattle.world.proofs.lines.lose_line.Goals as goal

pub returns-then-is_empty : goal.returns-then-is_empty
returns-then-is_empty c = record {
  stands = λ l h.
      refused_does (none_there h.here.has.wire_is c.if-is_empty.ensures) h
      (c.in_ok-push.ensures.items ∙ ap (λ es. es ++ No Empty ∷ []) c.requires.nothing);
}

pub returns : goal.returns
returns c = record {
  stands = λ l h.
      on_ok c.lose_first.result (c.lose_first.ensures (seen_from c.args.at l).to_controller OnDemand h.here.has.wire_is refl)
      (λ r. happened_does (lost_is h r) c.requires.nothing
      (record {
        cause = WasLost c.args.at OnDemand;
        none = some_there h.here.has.wire_is c.if-is_empty.ensures;
        causes = refl;
        is = refl;
      }));
}
