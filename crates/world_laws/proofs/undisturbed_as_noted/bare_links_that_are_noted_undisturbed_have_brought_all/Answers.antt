use Rattle.world_laws.proofs.Words.{AllByRecursion, AreBothReady, AreLeftReady, Follows, Header, IsHeader, IsLineOf, IsPlayFor, Line, List, MayFollow, Round}
use Rattle.world_laws.proofs.Words.{Settle, [], all-append, bare_lines, bare_link_behind, false, host_of, hosts_stay_behind, inl, lines_may_be_played}
use Rattle.world_laws.proofs.Words.{lines_played, lines_played_of, plays_for, plays_of, replicate, rounds_for, rounds_to_rest, subst, sym, true, ℕ, ◌++◌, ◌∷◌}
use Rattle.world_laws.proofs.schedules.NotedQuiet.{bare_behind, with_settle}
use Rattle.world_laws.proofs.undisturbed.Bare.{bare_undisturbed, schedule_ready, up_later}
use Rattle.world_laws.proofs.undisturbed_as_noted.bare_links_that_are_noted_undisturbed_have_brought_all.Goals as goal

valid : (header : Header) → IsHeader header → (lines : List Line) → AllByRecursion (MayFollow header) lines
    → AllByRecursion (IsLineOf header) (lines_played_of header lines)
valid header is lines may =
    bare_lines header is.bare (lines_played_of header lines)
    (lines_may_be_played header (inl is) (hosts_stay_behind header) (plays_of header lines) (plays_for header lines may))

valid_with : (header : Header) → IsHeader header → (lines : List Line) → AllByRecursion (MayFollow header) lines → (n : ℕ)
    → AllByRecursion (IsLineOf header) (lines_played_of header (lines ++ Settle n ∷ []))
valid_with header is lines may n =
    let rounds = replicate (rounds_to_rest header (plays_of header lines) n) Round in
    let all = all-append (IsPlayFor header) (plays_of header lines) rounds (plays_for header lines may)
    (rounds_for header (rounds_to_rest header (plays_of header lines) n)) in
    subst (AllByRecursion (IsLineOf header)) (sym (with_settle header lines n))
    (bare_lines header is.bare (lines_played header (plays_of header lines ++ rounds))
    (lines_may_be_played header (inl is) (hosts_stay_behind header) (plays_of header lines ++ rounds) all))

are_ready : (header : Header) → IsHeader header → (lines : List Line) → AllByRecursion (MayFollow header) lines → AreLeftReady lines (host_of header)
    → AreBothReady (bare_link_behind header (lines_played_of header lines))
are_ready header is lines may left =
    record { controller = schedule_ready header is false lines may left.controller; host = schedule_ready header is true lines may left.host }

pub returns-clause-undisturbed : goal.returns-clause-undisturbed
returns-clause-undisturbed c = λ header is lines may n t later follows goes k up left notes.
    let same = with_settle header lines n in
    bare_undisturbed header is.bare (plays_of header lines) n t later (valid header is lines may)
    (subst (AllByRecursion (IsLineOf header)) same (valid_with header is lines may n)) follows
    (subst (λ (ls : List Line). Follows header ls later) same goes) k up (are_ready header is lines may left) notes

pub returns-clause-noted : goal.returns-clause-noted
returns-clause-noted c = λ header is lines may n t later follows goes k up left notes.
    let same = with_settle header lines n in
    let plays = plays_of header lines in
    let before = valid header is lines may in
    let with_rounds = subst (AllByRecursion (IsLineOf header)) same (valid_with header is lines may n) in
    let goes_on = subst (λ (ls : List Line). Follows header ls later) same goes in
    let ready = are_ready header is lines may left in
    bare_behind header is.bare plays n t later before with_rounds follows goes_on k up
    (up_later header is.bare plays n t later before with_rounds follows goes_on k up ready notes)
    (bare_undisturbed header is.bare plays n t later before with_rounds follows goes_on k up ready notes)
