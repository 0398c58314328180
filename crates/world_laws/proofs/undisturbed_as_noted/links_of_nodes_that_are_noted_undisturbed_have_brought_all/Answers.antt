use Rattle.world_laws.proofs.Words.{ArePlayable, FollowsNodes, Line, List, hosts_are, plays_of, subst}
use Rattle.world_laws.proofs.schedules.NotedQuiet.{noted_behind, with_settle}
use Rattle.world_laws.proofs.undisturbed.Nodes.{nodes_undisturbed, nodes_up_later}
use Rattle.world_laws.proofs.undisturbed.Playable.{playable, playable_with}
use Rattle.world_laws.proofs.undisturbed_as_noted.links_of_nodes_that_are_noted_undisturbed_have_brought_all.Goals as goal

pub returns-clause-undisturbed : goal.returns-clause-undisturbed
returns-clause-undisturbed c = λ header is lines may n t later follows goes_on h s found k up ready notes.
    let same = with_settle header lines n in
    nodes_undisturbed header (hosts_are header is) (plays_of header lines) n (playable header is lines may)
    (subst ArePlayable same (playable_with header is lines may n)) t later follows
    (subst (λ (ls : List Line). FollowsNodes header ls later) same goes_on) h s found k up ready notes

pub returns-clause-noted : goal.returns-clause-noted
returns-clause-noted c = λ header is lines may n t later follows goes_on h s found k up ready notes.
    let same = with_settle header lines n in
    let are = hosts_are header is in
    let plays = plays_of header lines in
    let before = playable header is lines may in
    let with_rounds = subst ArePlayable same (playable_with header is lines may n) in
    let goes = subst (λ (ls : List Line). FollowsNodes header ls later) same goes_on in
    noted_behind header are plays n before with_rounds t later follows goes h s found k up
    (nodes_up_later header are plays n before with_rounds t later follows goes h s found k up ready notes)
    (nodes_undisturbed header are plays n before with_rounds t later follows goes h s found k up ready notes)
