use Rattle.link_messages.proofs.Words.{Buffer, Queued, ap, refl, sym, ◌∙◌, ◌∷◌}
use Rattle.link_messages.proofs.OutgoingLemmas.{gives_front, front_is}
use Rattle.link_messages.proofs.outbox.Outbox.give_front.Goals as goal

pub returns-in-Some-clause-given : goal.returns-in-Some-clause-given
returns-in-Some-clause-given c =
    let q = c.in-Some.first in
    gives_front c.requires
    (front_is c.args.self.now.queue.items q c.in-Some.ensures.value ∙ ap (λ (b : Buffer Queued). q ∷ b.items) (sym c.pop_front.ensures.items))
    (ap (λ (b : Buffer Queued). b.capacity) c.pop_front.ensures.items) (record { acked = refl; cut = refl; left = refl; owner = refl })
    c.give.ensures.given c.give.ensures.others
