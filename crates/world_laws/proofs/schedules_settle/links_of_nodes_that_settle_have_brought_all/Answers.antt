use Rattle.world_laws.proofs.Words.{ArePlayable, IsPlayFor, Round, all-append, hosts_are, hosts_stay_behind, inr, lines_may_be_played, lines_played, plays_for}
use Rattle.world_laws.proofs.Words.{plays_of, replicate, rounds_for, rounds_to_rest, subst, sym, ◌++◌}
use Rattle.world_laws.proofs.schedules.NotedQuiet.{nodes_settled, noted_settled, with_settle}
use Rattle.world_laws.proofs.schedules.Resting.{played_playable}
use Rattle.world_laws.proofs.schedules_settle.links_of_nodes_that_settle_have_brought_all.Goals as goal

pub returns-clause-plays : goal.returns-clause-plays
returns-clause-plays c = λ header is plays may sure.
    nodes_settled header is.nodes (hosts_are header is) plays
    (played_playable header (lines_played header plays) (lines_may_be_played header (inr is) (hosts_stay_behind header) plays may)) sure

pub returns-clause-noted : goal.returns-clause-noted
returns-clause-noted c = λ header is lines may n t later follows goes_on.
    let before = plays_for header lines may in
    let rounds = replicate (rounds_to_rest header (plays_of header lines) n) Round in
    let all = all-append (IsPlayFor header) (plays_of header lines) rounds before
    (rounds_for header (rounds_to_rest header (plays_of header lines) n)) in
    let played = lines_may_be_played header (inr is) (hosts_stay_behind header) in
    noted_settled header (hosts_are header is) lines n
    (played_playable header (lines_played header (plays_of header lines)) (played (plays_of header lines) before))
    (subst ArePlayable (sym (with_settle header lines n))
    (played_playable header (lines_played header (plays_of header lines ++ rounds)) (played (plays_of header lines ++ rounds) all))) t later follows goes_on
