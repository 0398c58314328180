use Rattle.std.proofs.Common.{ap, ◌∙◌}
use Rattle.link_messages.specs.declared.outbox.Outbox.{Outbox}
use Rattle.link_messages.specs.declared.inbox.Inbox.{Inbox}
use Rattle.link_end.proofs.AccountLemmas.{account_moved}
use Rattle.worked_examples.proofs.relays.Relay.next_out.Goals as goal

pub invariant_of-self : goal.invariant_of-self
invariant_of-self c =
    let i = c.self.invariant in
    let b = c.next_out.ensures.boxes in
    let sender = ap (λ (o : Outbox). o.owner) b.0 in
    let receiver = ap (λ (o : Inbox). o.joiner.owner) b.1 in (
      i.0,
      record {
        state = _;
        stands = c.next_out.ensures.stands i.1.state i.1.stands;
        fetched = ap (λ (o : Inbox). o.got) b.1 ∙ i.1.fetched;
        accounts = account_moved c.self.inside.pool c.self.inside.second.link c.next_out.new.self.link _ b.1 i.1.accounts;
      },
      record {
        senders = λ e. i.2.senders (e ∙ sender);
        receivers = λ e. i.2.receivers (e ∙ receiver);
        to = λ e. i.2.to (e ∙ receiver);
        from = λ e. i.2.from (e ∙ sender);
      },
    )
