use Rattle.world_laws.proofs.Words.{arith, bare_lines, bare_link_behind, bare_rests, hosts_are, hosts_stay_behind, inl, inr, lines_may_be_played, lines_played}
use Rattle.world_laws.proofs.Words.{nodes_behind, nodes_rest, sym, ◌∙◌}
use Rattle.world_laws.proofs.schedules.NotedQuiet.{noted_quiet, noted_quiet_in_bare}
use Rattle.world_laws.proofs.schedules.Resting.{link_quiet, played_playable, site_quiet, sites_quiet, sites_resting}
use Rattle.world_laws.proofs.schedules_settle.links_at_rest_are_quiet.Goals as goal

pub returns-clause-nodes : goal.returns-clause-nodes
returns-clause-nodes c = λ header nodes plays rests.
    sites_quiet (nodes_behind header (lines_played header plays)).sites (sym (nodes_rest header nodes plays) ∙ rests)

pub returns-clause-nodes_only : goal.returns-clause-nodes_only
returns-clause-nodes_only c = λ header nodes plays quiet.
    nodes_rest header nodes plays ∙ sites_resting (nodes_behind header (lines_played header plays)).sites quiet

pub returns-clause-bare : goal.returns-clause-bare
returns-clause-bare c = grind arith

pub returns-clause-bare_only : goal.returns-clause-bare_only
returns-clause-bare_only c = grind arith

pub returns-clause-nodes_noted : goal.returns-clause-nodes_noted
returns-clause-nodes_noted c = λ header is plays may t follows rests h s found.
    let quiet = site_quiet (nodes_behind header (lines_played header plays)).sites h s
    (sites_quiet (nodes_behind header (lines_played header plays)).sites (sym (nodes_rest header is.nodes plays) ∙ rests)) found in
    noted_quiet header (lines_played header plays) t follows (hosts_are header is)
    (played_playable header (lines_played header plays) (lines_may_be_played header (inr is) (hosts_stay_behind header) plays may)) h s found quiet

pub returns-clause-bare_noted : goal.returns-clause-bare_noted
returns-clause-bare_noted c = λ header is plays may t follows rests.
    noted_quiet_in_bare header (lines_played header plays) t
    (bare_lines header is.bare (lines_played header plays) (lines_may_be_played header (inl is) (hosts_stay_behind header) plays may)) follows
    (link_quiet (bare_link_behind header (lines_played header plays)) (sym (bare_rests header is.bare plays) ∙ rests))
