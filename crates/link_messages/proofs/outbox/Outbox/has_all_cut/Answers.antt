use Rattle.std.proofs.lemmas.Bool.{eqb-true, eq-eqb}
use Rattle.link_messages.proofs.OutgoingLemmas.{all_cut}
use Rattle.link_messages.proofs.outbox.Outbox.has_all_cut.Goals as goal

pub returns : goal.returns
returns c pool lies =
    let both = all_cut pool c.args.self.now lies in (
      λ t. both.0 (eqb-true c.args.self.now.left 0 t),
      λ none. eq-eqb c.args.self.now.left 0 (both.1 none),
    )
