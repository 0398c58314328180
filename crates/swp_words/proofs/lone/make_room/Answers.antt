-- What waits may go out.
use Rattle.std.proofs.Common.{◌++◌, ◌∙◌, [], refl, sym, ap, append-nil}
use Rattle.swp_words.proofs.lone.make_room.Goals as goal

pub returns-then-len-le-MOST_WAITING-clause-wrote : goal.returns-then-len-le-MOST_WAITING-clause-wrote
returns-then-len-le-MOST_WAITING-clause-wrote g c = record { sent = []; parts = refl; now_is = λ told. sym (append-nil (g.K.Sink.written c.args.sink.now)) }

pub returns-in-Ok-clause-wrote : goal.returns-in-Ok-clause-wrote
returns-in-Ok-clause-wrote g c = record {
  sent = c.args.out.now.items;
  parts = sym (append-nil c.args.out.now.items) ∙ ap (λ l. c.args.out.now.items ++ l) (sym c.in-Ok.ensures.none);
  now_is = c.in-Ok.ensures.wrote;
}
