use Rattle.std.proofs.Common.{ap, ◌∙◌}
use Rattle.link_messages.specs.declared.outbox.Outbox.{Outbox}
use Rattle.link_messages.specs.declared.inbox.Inbox.{Inbox}
use Rattle.link_end.proofs.AccountLemmas.{account_moved}
use Rattle.worked_examples.proofs.RelayLemmas.{owners_kept}
use Rattle.worked_examples.proofs.relays.Relay.next_back.Goals as goal

pub invariant_of-self : goal.invariant_of-self
invariant_of-self c =
    let i = c.self.invariant in
    let b = c.next_out.ensures.boxes in
    let first = c.self.inside.first.link in (
      record {
        state = _;
        stands = c.next_out.ensures.stands i.0.state i.0.stands;
        fetched = ap (λ (o : Inbox). o.got) b.1 ∙ i.0.fetched;
        accounts = account_moved c.self.inside.pool first c.next_out.new.self.link _ b.1 i.0.accounts;
      },
      i.1,
      owners_kept first c.next_out.new.self.link c.self.inside.second.link (ap (λ (o : Outbox). o.owner) b.0)
          (ap (λ (o : Inbox). o.joiner.owner) b.1) i.2,
    )
