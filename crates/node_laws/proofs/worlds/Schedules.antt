-- A schedule whose header and lines are in their ranges meets what is asked for.
use Rattle.node_laws.proofs.Words.{AllByRecursion, Answered, AreDue, AreLeftShort, AreNodeLinesOf, AreReset, AtEachEntry, AtEachOccurrence, CutsEndParts}
use Rattle.node_laws.proofs.Words.{FollowsNodes, Header, IsBegunByHost, IsInitOfHost, IsNodeHeader, Line, List, NodeHistory, NodesHearFirst, Occurrence}
use Rattle.node_laws.proofs.Words.{TurnsAscend, [], all_so, append-nil, arith, commands_by_events, commands_noted, end_c, end_h, ends_in, is_left_short}
use Rattle.node_laws.proofs.Words.{lines_asking, node_entries, occurrences_in, sym, true, ℕ, ◌++◌, ◌∷◌, ◌≡◌, ◌≤◌}
use Rattle.trace_model.specs.declared.line.Line.TheVariants as line
use Rattle.node_laws.proofs.readings.Noticed.{numbers}
use Rattle.node_laws.proofs.power.Events.{cuts_end}
use Rattle.node_laws.proofs.schedules.Ranges.{hosts_are, hosts_few, inits_of_hosts, playable, sent_by_hosts}
use Rattle.node_laws.proofs.schedules.Few.{are_few}
use Rattle.std.proofs.lemmas.Map.Keys.{sorted_from_strictly_increasing}
use Rattle.node_laws.proofs.worlds.FramesLast.{rising, schedule_emits, turns_ascend}
use Rattle.node_laws.proofs.worlds.Late.{hear_first}
use Rattle.node_laws.proofs.worlds.Due.{resets_due}
use Rattle.history.specs.Histories.{History}
use Rattle.history.proofs.legal.Sessions.{in_order, joined}
use Rattle.history.proofs.legal.Settled.{complete, settled}
use Rattle.node_laws.proofs.turns.Worlds.{in_turn}
use Rattle.node_laws.proofs.order.Upheld.{legal}
use Rattle.node_laws.specs.answers.Headline.{IsLegal, IsPlayed, PlayedHistory}
use Rattle.node_laws.specs.answers.Headline.PlayedHistory.{OfLink, OfNodes}
use Rattle.node_laws.proofs.bounds.Paying.{front_asked, lines_bounded}
use Rattle.node_laws.proofs.hosts.Histories.{hosts_answer}
use Rattle.node_laws.proofs.shorts.Histories.{hosts_left_short}
use Rattle.node_laws.proofs.worlds.Done.{IsAnswered, IsAnsweredFar, controller_answers, everywhere, histories_done}
use Rattle.node_laws.proofs.dues.Events.{all_due}
use Rattle.node_laws.proofs.worlds.Short.{near_left_short}

begun_one : (l : Line) → IsInitOfHost l → IsBegunByHost l
begun_one l a = grind arith

begun_all : (lines : List Line) → AllByRecursion IsInitOfHost lines → AllByRecursion IsBegunByHost lines
begun_all lines a = all_so IsInitOfHost IsBegunByHost begun_one lines a

-- no more commands come of any first events than journals count
asked_low : (header : Header) (lines : List Line) (t : NodeHistory) → FollowsNodes header lines t → AreNodeLinesOf header lines
    → lines_asking lines ≤ 20000 → (front back : List Occurrence) → occurrences_in t ≡ front ++ back → commands_by_events front ≤ 4000000000
asked_low header lines t follows are most front back parts =
    let few = front_asked header lines t follows are front back parts in omega (arith, few, most)

-- nor are more noted in all
noted_low : (header : Header) (lines : List Line) (t : NodeHistory) → FollowsNodes header lines t → IsNodeHeader header → AreNodeLinesOf header lines
    → lines_asking lines ≤ 20000 → commands_noted (node_entries t) ≤ 4000000000
noted_low header lines t follows nodes are most =
    let few = lines_bounded header lines t follows nodes are (occurrences_in t) [] (sym (append-nil (occurrences_in t))) in omega (arith, few, most)

pub schedule_resets : (header : Header) (lines : List Line) (t : NodeHistory) → FollowsNodes header lines t → IsNodeHeader header
    → AreNodeLinesOf header lines → lines_asking lines ≤ 20000 → AtEachOccurrence t (AreReset t.header.hosts.items)
schedule_resets header lines t follows nodes are most =
    resets_due header lines t follows (hosts_are header nodes) (playable header lines are) (sent_by_hosts header lines nodes are)
    (begun_all lines (inits_of_hosts header lines are)) (are_few header lines t follows nodes are most)

pub schedule_ends : (header : Header) (lines : List Line) (t : NodeHistory) → FollowsNodes header lines t → IsNodeHeader header → CutsEndParts t
schedule_ends header lines t follows nodes =
    cuts_end header lines t follows (hosts_are header nodes).different (numbers header.hosts.items (hosts_are header nodes).all)

pub schedule_hears : (header : Header) (lines : List Line) (t : NodeHistory) → FollowsNodes header lines t → IsNodeHeader header → NodesHearFirst t
schedule_hears header lines t follows nodes =
    hear_first header lines t follows (hosts_are header nodes).different (numbers header.hosts.items (hosts_are header nodes).all)

pub schedule_ascends : (header : Header) (lines : List Line) (t : NodeHistory) → FollowsNodes header lines t → IsNodeHeader header
    → AreNodeLinesOf header lines → TurnsAscend t
schedule_ascends header lines t follows nodes are =
    turns_ascend header lines t follows (hosts_are header nodes) (playable header lines are)
    (rising header.hosts.items (sorted_from_strictly_increasing header.hosts.items nodes.rising))

pub schedule_dues : (header : Header) (lines : List Line) (t : NodeHistory) → FollowsNodes header lines t → IsNodeHeader header
    → AreNodeLinesOf header lines → lines_asking lines ≤ 20000 → AtEachOccurrence t (AreDue t.header.hosts.items)
schedule_dues header lines t follows nodes are most =
    all_due header lines t follows nodes (hosts_are header nodes) are (hosts_few header nodes) (sent_by_hosts header lines nodes are)
    (begun_all lines (inits_of_hosts header lines are)) (are_few header lines t follows nodes are most) (playable header lines are)
    (asked_low header lines t follows are most)

-- ## The headline

link_legal : (header : Header) (lines : List Line) (t : History) → IsPlayed header lines (OfLink t) → IsLegal (OfLink t)
link_legal header lines t played = record {
  in_order = in_order header lines t played.1 played.0 played.2;
  complete = complete header lines t played.1 played.0 played.2;
  settled = settled header lines t played.1 played.0 played.2;
  joined = joined header lines t played.1 played.0 played.2;
}

-- a host's replies, and what it holds
pub schedule_replies : (header : Header) (lines : List Line) (t : NodeHistory) → FollowsNodes header lines t → IsNodeHeader header
    → AreNodeLinesOf header lines → lines_asking lines ≤ 20000 → AtEachEntry t (IsAnsweredFar t.header.hosts.items)
schedule_replies header lines t follows nodes are most =
    hosts_answer header lines t follows (hosts_are header nodes) (playable header lines are) (sent_by_hosts header lines nodes are)
    (inits_of_hosts header lines are) (begun_all lines (inits_of_hosts header lines are)) (are_few header lines t follows nodes are most)
    (noted_low header lines t follows nodes are most)

-- and those of each node
schedule_answered : (header : Header) (lines : List Line) (t : NodeHistory) → FollowsNodes header lines t → IsNodeHeader header
    → AreNodeLinesOf header lines → lines_asking lines ≤ 20000 → AtEachEntry t (IsAnswered t.header.hosts.items)
schedule_answered header lines t follows nodes are most past back o front behind x parts split =
    everywhere t.header.hosts.items (record { past = past; cause = o.cause; so_far = front }) x behind
    (controller_answers header lines t follows (hosts_are header nodes) (hosts_few header nodes) (sent_by_hosts header lines nodes are)
    (are_few header lines t follows nodes are most) (playable header lines are) (asked_low header lines t follows are most)
    past back o front behind x parts split)
    (schedule_replies header lines t follows nodes are most past back o front behind x parts split)

-- what is left at the controller, and at hosts
both_short : (hosts : List ℕ) (past : List Occurrence) (o : Occurrence) (hs : List ℕ)
    → AllByRecursion (λ h. is_left_short hosts past o (end_c h) ≡ true) hs → AllByRecursion (λ h. is_left_short hosts past o (end_h h) ≡ true) hs
    → AllByRecursion (λ e. is_left_short hosts past o e ≡ true) (ends_in hs)
both_short hosts past o [] near far = tt
both_short hosts past o (h ∷ hs) near far = (near.0, (far.0, both_short hosts past o hs near.1 far.1))

schedule_short : (header : Header) (lines : List Line) (t : NodeHistory) → FollowsNodes header lines t → IsNodeHeader header
    → AreNodeLinesOf header lines → lines_asking lines ≤ 20000 → AtEachOccurrence t (AreLeftShort t.header.hosts.items)
schedule_short header lines t follows nodes are most past back o parts =
    both_short t.header.hosts.items past o t.header.hosts.items
    (near_left_short header lines t follows nodes (hosts_are header nodes) are (hosts_few header nodes) (sent_by_hosts header lines nodes are)
    (are_few header lines t follows nodes are most) (playable header lines are)
    (rising header.hosts.items (sorted_from_strictly_increasing header.hosts.items nodes.rising))
    (asked_low header lines t follows are most) past back o parts)
    (hosts_left_short header lines t follows (hosts_are header nodes) (playable header lines are) (sent_by_hosts header lines nodes are)
    (inits_of_hosts header lines are) (begun_all lines (inits_of_hosts header lines are)) (are_few header lines t follows nodes are most)
    (noted_low header lines t follows nodes are most) past back o parts)

schedule_answers : (header : Header) (lines : List Line) (t : NodeHistory) → FollowsNodes header lines t → IsNodeHeader header
    → AreNodeLinesOf header lines → lines_asking lines ≤ 20000 → Answered t
schedule_answers header lines t follows nodes are most = record {
  in_turn = in_turn header lines t follows (hosts_are header nodes).different (numbers header.hosts.items (hosts_are header nodes).all);
  done = histories_done header lines t follows (hosts_are header nodes) (playable header lines are);
  replied = λ past back o front behind x parts split.
      (schedule_answered header lines t follows nodes are most past back o front behind x parts split).0;
  held = λ past back o front behind x parts split.
      (schedule_answered header lines t follows nodes are most past back o front behind x parts split).1;
  short = schedule_short header lines t follows nodes are most;
  due = schedule_dues header lines t follows nodes are most;
  reset = schedule_resets header lines t follows nodes are most;
  ascending = schedule_ascends header lines t follows nodes are;
  heard = schedule_hears header lines t follows nodes;
}

pub played_legal : (header : Header) (lines : List Line) (t : PlayedHistory) → IsPlayed header lines t → IsLegal t
played_legal header lines (OfLink t) played = link_legal header lines t played
played_legal header lines (OfNodes t) played = record {
  legal = legal header lines t played.3 (hosts_are header played.0) (playable header lines played.1) (sent_by_hosts header lines played.0 played.1)
      (are_few header lines t played.3 played.0 played.1 played.2);
  ended = schedule_ends header lines t played.3 played.0;
  frames = schedule_emits header lines t played.3 played.0;
  answered = schedule_answers header lines t played.3 played.0 played.1 played.2;
}
