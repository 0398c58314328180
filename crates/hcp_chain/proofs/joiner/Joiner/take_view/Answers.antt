use Rattle.hcp_chain.proofs.Words.{Chain, IsApart, IsLive, List, Open, [], append-nil, arith, chain_bytes, common_steps, rules, subst, sym}
use Rattle.hcp_chain.proofs.Words.{◌++◌, ◌∙◌, ◌∷◌, ◌≡◌, ◌≢◌}
use Rattle.hcp_chain.specs.Holding.{IsApartFrom, whole_in}
use Rattle.hcp_chain.proofs.HoldingLemmas.{all_map}
use Rattle.hcp_chain.proofs.ClearLemmas.{HasOneMore, all_given, ready_again}
use Rattle.hcp_packet.specs.Packets.{packet_seen}
use Rattle.hcp_chain.proofs.GrowLemmas.{CanGrow, Grown, of_ok, room_for, grows}
use Rattle.hcp_chain.proofs.joiner.Joiner.take_view.Goals as goal
use Rattle.hcp_chain.proofs.joiner.Joiner.take_view.Goals.{After-take}

pub returns-then-len-gt-MAX_MESSAGE-clause-used : goal.returns-then-len-gt-MAX_MESSAGE-clause-used
returns-then-len-gt-MAX_MESSAGE-clause-used c =
    let chain = c.in-Some.chain in
    let out = c.in-Some.ensures.some in
    let xs = c.take_out.new.self.open.items in
    let done = c.refuse-then-len-gt-MAX_MESSAGE in
    let more : HasOneMore c.args.pool.now c.args.self.now.owner chain xs = record {
      has_quota = c.requires.has_quota;
      owned = out.owned;
      holds = rw c.take_out.ensures.owner at out.holds;
      apart = all_map (λ x. (x.pipe ≢ c.args.packet.now.pipe) × IsApart x.chain chain) (λ x. IsApart x.chain chain) xs (λ x a. a.1) out.apart;
      used = c.requires.used ∙ sym out.blocks;
    } in
    let same = c.take_out.ensures.pool in
    let given = all_given done.new.pool more (rw same at c.give.ensures.given) (rw same at c.give.ensures.others)
    (rw c.take_out.ensures.owner at done.ensures.used) in
    rw (done.ensures.«open», done.ensures.fault) given

pub returns-then-len-gt-MAX_MESSAGE-clause-others : goal.returns-then-len-gt-MAX_MESSAGE-clause-others
returns-then-len-gt-MAX_MESSAGE-clause-others c other live away =
    let out = c.in-Some.ensures.some.outside other away in
    let done = c.refuse-then-len-gt-MAX_MESSAGE in
    let given = c.give.ensures.others other (rw c.take_out.ensures.pool live) out.0 in
    let cleared = done.ensures.others other given.1 out.1 in
    (cleared.0, cleared.1 ∙ (rw c.take_out.ensures.pool at given.2), rw (done.ensures.«open», done.ensures.fault) tt)

pub returns-then-len-gt-MAX_MESSAGE-clause-ready : goal.returns-then-len-gt-MAX_MESSAGE-clause-ready
returns-then-len-gt-MAX_MESSAGE-clause-ready c none =
    let done = c.refuse-then-len-gt-MAX_MESSAGE in
    ready_again c.args.pool.now done.new.pool c.args.self.now done.new.self (whole_in done.result) c.requires
    (done.ensures.owner ∙ c.take_out.ensures.owner) none (rw (done.ensures.«open», none) (record { own = tt; apart = tt }))
    (returns-then-len-gt-MAX_MESSAGE-clause-used c)

grown : (c : After-take) → Grown c.take_out.new.pool c.take.new.self c.take_out.new.self.owner c.args.packet.now.pipe c.in-Some.chain c.take.new.chain
    c.take_out.new.self.open.items (chain_bytes c.take_out.new.pool c.in-Some.chain ++ c.args.packet.now.bytes.now)
grown c =
    let out = c.in-Some.ensures.some in
    let can : CanGrow c.take_out.new.pool c.take_out.new.self (packet_seen c.args.packet.now) c.in-Some.chain = record {
      room = out.room;
      live = grind (arith, common_steps);
      owned = grind (arith, common_steps);
      fits = grind (arith, common_steps);
      apart = out.apart;
      holds = grind (arith, common_steps);
      quota = grind (arith, common_steps);
      used = grind (arith, common_steps);
    } in
    let t = c.take.ensures in
    let ok = t.room.1 (room_for c.take_out.new.pool c.take_out.new.self (packet_seen c.args.packet.now) c.in-Some.chain can) in
    grows can (of_ok c.take.result ok t.ok) (of_ok c.take.result ok t.appended) (of_ok c.take.result ok t.live) (of_ok c.take.result ok t.others)

kept : (c : After-take) (other : Chain) → IsLive c.args.pool.now other → IsApartFrom c.args.self.now.open.items other
    → IsLive c.take.new.self other × (chain_bytes c.take.new.self other ≡ chain_bytes c.args.pool.now other)
    × IsApartFrom (c.take_out.new.self.open.items ++ record { pipe = c.args.packet.now.pipe; chain = c.take.new.chain } ∷ []) other
kept c other live away =
    let out = c.in-Some.ensures.some.outside other away in
    rw (← c.take_out.ensures.pool) ((grown c).others other (rw c.take_out.ensures.pool live) out.1 out.0)

pub returns-then-packet : goal.returns-then-packet
returns-then-packet c =
    let g = grown (goal.at.returns-then-packet c).After-take in
    record {
      owner = c.take_out.ensures.owner;
      says = grind (arith, common_steps);
      «open» = grind (arith, common_steps);
      holds = grind (arith, common_steps);
      used = grind (arith, common_steps);
      others = kept (goal.at.returns-then-packet c).After-take;
      ready = λ none. cc;
    }

pub returns : goal.returns
returns c =
    let g = grown (goal.at.returns c).After-take in
    let pushed = sym (append-nil c.push.new.self.items ∙ c.push.ensures.items) in
    record {
      owner = c.take_out.ensures.owner;
      says = grind (arith, common_steps);
      «open» = grind (arith, common_steps);
      holds = grind (arith, common_steps);
      used = grind (arith, common_steps);
      others = λ other live away.
          let k = kept (goal.at.returns c).After-take other live away in
          (k.0, k.1, subst (λ (ys : List Open). IsApartFrom ys other) pushed k.2);
      ready = λ none. first_of (grind (arith, common_steps), search rules);
    }
