use Rattle.world.proofs.Words.{BareWorld, End, History, List, Play, WorldStandsFor, ap, false, link_at, refl, ◌+◌, ◌≡◌}
use Rattle.world.proofs.RoundLemmas.{seen_at_controller}
use Rattle.world.proofs.BareWorlds.{Law, WentRound, GoesRound, controller_of, round_goes, few_sent, few_rounds}
use Rattle.world.proofs.bare_world.BareWorld.round.Goals as goal
use Rattle.world.proofs.bare_world.BareWorld.round.Goals.{In_ok-play_round}

-- the world behind the round
abbrev behind : In_ok-play_round → BareWorld
behind c =
    let old : BareWorld = c.args.self.now in
    record {
      header = old.header;
      controller = c.play_round.new.near;
      host = c.play_round.new.far;
      resets = c.play_round.new.resets;
      stepped = old.stepped;
      rounds = old.rounds + 1;
      entries = c.play_round.new.entries;
      spare = c.play_round.new.spare;
    }

-- what the round adds
goes : (c : In_ok-play_round) (plays : List Play) (t : History) → WorldStandsFor c.args.self.now c.args.self.now.header plays t
    → GoesRound (behind c) c.args.self.now.header plays t
goes c plays t h =
    let e = c.every_history_is_legal.ensures in
    let law : Law = record { in_order = e.in_order; joined = e.joined; complete = e.complete; settled = e.settled } in
    let old : BareWorld = c.args.self.now in
    let went : WentRound old (behind c) old.header plays t =
    record { before = h; room = few_rounds c.requires h; header_is = refl; counted = refl; same = refl } in
    let at : End = c.controller_end.result in
    let is : at ≡ controller_of old.header = c.controller_end.ensures in
    let side : at.at_host ≡ false = ap (λ (e : End). e.at_host) is in
    round_goes at law went is (c.in_ok-play_round.ensures (link_at t) (seen_at_controller at side h.link) (few_sent h))

pub returns-clause-stands : goal.returns-clause-stands
returns-clause-stands c plays t h = (goes c plays t h).stands

pub returns-clause-entries : goal.returns-clause-entries
returns-clause-entries c plays t h = (goes c plays t h).entries_are
