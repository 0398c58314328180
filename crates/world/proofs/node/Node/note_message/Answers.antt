use Rattle.world.proofs.Words.{ap, option_map}
use Rattle.link_wires.proofs.Results.{none_is}
use Rattle.world.proofs.Nodes.{HasFetched, fetches_none, fetches_one, fetched_live}
use Rattle.world.proofs.node.Node.note_message.Goals as goal

pub returns-in_default : goal.returns-in_default
returns-in_default c m h =
    let f = c.next_message in
    let pool = c.args.self.now.pool in
    let fetched : HasFetched c.args.self.now f.new.self m f.result =
    record {
      has = h;
      stands = f.ensures.stands pool m h.stands;
      accounts = f.ensures.accounts pool m h.stands h.accounts;
      oldest_is = f.ensures.answer pool m h.stands;
      none_left = f.ensures.fetched;
    } in
    fetches_none c.args.place c.args.entries.now.items fetched (none_is f.result c.in_default.not-Some)

pub copied-requires : goal.copied-requires
copied-requires c =
    let f = c.next_message in
    let pool = c.args.self.now.pool in
    let m = c.requires.0 in
    fetched_live f.new.self pool c.in-Some.chain
    (rw (ap (option_map (λ x. x.1)) c.in-Some.is) at (f.ensures.accounts pool m c.requires.1.stands c.requires.1.accounts))

pub give-requires : goal.give-requires
give-requires c =
    let f = c.next_message in
    let pool = c.args.self.now.pool in
    let m = c.requires.0 in
    fetched_live f.new.self pool c.in-Some.chain
    (rw (ap (option_map (λ x. x.1)) c.in-Some.is) at (f.ensures.accounts pool m c.requires.1.stands c.requires.1.accounts))

pub returns : goal.returns
returns c m h =
    let f = c.next_message in
    let pool = c.args.self.now.pool in
    let fetched : HasFetched c.args.self.now f.new.self m f.result =
    record {
      has = h;
      stands = f.ensures.stands pool m h.stands;
      accounts = f.ensures.accounts pool m h.stands h.accounts;
      oldest_is = f.ensures.answer pool m h.stands;
      none_left = f.ensures.fetched;
    } in
    fetches_one c.args.place c.args.entries.now.items fetched c.in-Some.is c.give.ensures.given c.give.ensures.others c.in_ok-message.ensures
    c.in_ok-push.ensures.items
