use Rattle.world_laws.proofs.Words.{ArePlayable, FollowsNodes, Line, List, hosts_are, plays_of, subst}
use Rattle.world_laws.proofs.schedules.Resting.{unheld_behind}
use Rattle.world_laws.proofs.schedules.NotedQuiet.{with_settle}
use Rattle.world_laws.proofs.undisturbed.Nodes.{nodes_undisturbed}
use Rattle.world_laws.proofs.undisturbed.Playable.{playable, playable_with}
use Rattle.world_laws.proofs.undisturbed.Unheld.{nodes_ready}
use Rattle.world_laws.proofs.undisturbed_as_noted.links_of_nodes_that_hold_no_message_have_brought_all.Goals as goal

pub returns-clause-ready : goal.returns-clause-ready
returns-clause-ready c = λ header is lines may n t later follows goes_on h s found unheld.
    let same = with_settle header lines n in
    nodes_ready header (hosts_are header is) (plays_of header lines) n (playable header is lines may)
    (subst ArePlayable same (playable_with header is lines may n)) t later follows
    (subst (λ (ls : List Line). FollowsNodes header ls later) same goes_on) h s found unheld

pub returns-clause-undisturbed : goal.returns-clause-undisturbed
returns-clause-undisturbed c = λ header is lines may n t later follows goes_on h s found k up unheld notes.
    let same = with_settle header lines n in
    let are = hosts_are header is in
    let plays = plays_of header lines in
    let before = playable header is lines may in
    let with_rounds = subst ArePlayable same (playable_with header is lines may n) in
    let goes = subst (λ (ls : List Line). FollowsNodes header ls later) same goes_on in
    nodes_undisturbed header are plays n before with_rounds t later follows goes h s found k up
    (nodes_ready header are plays n before with_rounds t later follows goes h s found unheld) notes

pub returns-clause-noted : goal.returns-clause-noted
returns-clause-noted c = λ header is lines may n t later follows goes_on h s found k up unheld notes.
    let same = with_settle header lines n in
    unheld_behind header (hosts_are header is) (plays_of header lines) n (playable header is lines may)
    (subst ArePlayable same (playable_with header is lines may n)) t later follows
    (subst (λ (ls : List Line). FollowsNodes header ls later) same goes_on) h s found k up unheld notes
