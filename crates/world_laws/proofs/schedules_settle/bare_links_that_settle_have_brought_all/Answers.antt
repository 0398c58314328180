use Rattle.world_laws.proofs.Words.{AllByRecursion, IsLineOf, IsPlayFor, Round, all-append, bare_lines, hosts_stay_behind, inl, lines_may_be_played}
use Rattle.world_laws.proofs.Words.{lines_played, plays_for, plays_of, replicate, rounds_for, rounds_to_rest, subst, sym, ◌++◌}
use Rattle.world_laws.proofs.schedules.NotedQuiet.{bare_noted, bare_settled, with_settle}
use Rattle.world_laws.proofs.schedules_settle.bare_links_that_settle_have_brought_all.Goals as goal

pub returns-clause-plays : goal.returns-clause-plays
returns-clause-plays c = λ header is plays may t.
    bare_settled header is.bare plays t
    (bare_lines header is.bare (lines_played header plays) (lines_may_be_played header (inl is) (hosts_stay_behind header) plays may))

pub returns-clause-noted : goal.returns-clause-noted
returns-clause-noted c = λ header is lines may n t later.
    let before = plays_for header lines may in
    let rounds = replicate (rounds_to_rest header (plays_of header lines) n) Round in
    let all = all-append (IsPlayFor header) (plays_of header lines) rounds before
    (rounds_for header (rounds_to_rest header (plays_of header lines) n)) in
    let played = lines_may_be_played header (inl is) (hosts_stay_behind header) in
    bare_noted header is.bare lines n t later
    (bare_lines header is.bare (lines_played header (plays_of header lines)) (played (plays_of header lines) before))
    (subst (AllByRecursion (IsLineOf header)) (sym (with_settle header lines n))
    (bare_lines header is.bare (lines_played header (plays_of header lines ++ rounds)) (played (plays_of header lines ++ rounds) all)))
