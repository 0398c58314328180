use Rattle.world.proofs.Words.{ap, bare_link_behind, lines_lead, lines_played, link_at, sym, ◌+◌, ◌-◌, ◌∙◌, ◌≡◌}
use Rattle.world.proofs.BareWorlds.{plays_low}
use Rattle.world.proofs.bare_world.BareWorld.count_as_rounds.Goals as goal

pub returns-clause-stands : goal.returns-clause-stands
returns-clause-stands c plays others t h same are few said rounds =
    let header = c.args.self.now.header in
    let follows = rw same at h.follows in
    let leads : bare_link_behind header (lines_played header others) ≡ link_at t = sym (lines_lead header (lines_played header others) t follows) in
    let low = plays_low header h.is_header others are in
    record {
      header_is = h.header_is;
      is_header = h.is_header;
      plays_are = are;
      few = few;
      follows = follows;
      legal = h.legal;
      link = h.link;
      sent = rw leads at low.sent;
      resets = rw leads at low.resets;
      stepped = ap (λ n. n - c.args.lines) h.stepped ∙ sym said;
      rounds = ap (λ n. n + c.args.rounds) h.rounds ∙ sym rounds;
    }
