-- The definitions compute worked examples, entry by entry. Further ones are computed from text to text, in `node_examples`.
use Rattle.link_laws.proofs.Words.{Act, ActReady as Ready, Active, Asked, AtController, AtHost, ByAct, Control, Controller, Cut, CutOff, Emit, Entry, GaveUp}
use Rattle.link_laws.proofs.Words.{Give, Got, Host, I, IsQuietSince, IsSettledSince, LinkEvent, List, Lose, Lost, NextFrame, None, OnDemand, Peer, PowerMode}
use Rattle.link_laws.proofs.Words.{Restarted, Rset, Sent, Some, Step, SyncId, TooOld, Took, Ua, [], acked_noted, after_link_events, arith, disturbs, drop}
use Rattle.link_laws.proofs.Words.{entries, false, got_noted, list_any, refl, sent_noted, session_in, since, trace, true, withholds, ◌++◌, ◌∷◌, ◌≡◌}
use Rattle.link_laws.specs.entries.Entries.Entry.{Up, Down, Tick}
use Rattle.link_laws.proofs.messages.Examples.{bare, line, takes, resets, gives, ticks, activates, active, up, one}

-- what is noted, but for the ticks
abbrev shown : List Entry → List Entry
shown [] = []
shown (Tick ∷ t) = shown t
shown (e ∷ t) = e ∷ shown t

abbrev rset : Control
rset = Rset 4 0

-- the fifth RSET is taken as late as may be: its UA is lost before the end that waits for it gives up
late_answer_is_lost : shown (entries bare (AtHost resets ∷ ticks 44 ++ (AtController takes ∷ ticks 6)))
    ≡ Down Host Asked ∷ Emit Host rset
    ∷ Lost Controller rset TooOld ∷ Emit Host rset
    ∷ Lost Controller rset TooOld ∷ Emit Host rset
    ∷ Lost Controller rset TooOld ∷ Emit Host rset
    ∷ Lost Controller rset TooOld ∷ Emit Host rset
    ∷ Took Controller rset ∷ Down Controller Peer ∷ Up Controller 5 ∷ Emit Controller Ua
    ∷ Lost Host Ua TooOld ∷ GaveUp Host 5 ∷ []
late_answer_is_lost = refl

-- ## Activation and cuts

activation : entries line up
    ≡ Restarted Controller ∷ Restarted Host ∷ Emit Host (Act (SyncId 6699) false)
    ∷ Took Controller (Act (SyncId 6699) false) ∷ Emit Controller (Act (PowerMode 1) false)
    ∷ Took Host (Act (PowerMode 1) false) ∷ Active Host ∷ Emit Host (Act Ready false)
    ∷ Took Controller (Act Ready false) ∷ Active Controller
    ∷ Emit Controller rset
    ∷ Took Host rset ∷ Up Host 1 ∷ Emit Host Ua
    ∷ Took Controller Ua ∷ Up Controller 1 ∷ []
activation = refl

-- a message in each direction; the controller's node loses power as it takes the host's, and before its frames go out
abbrev cut : List LinkEvent
cut = up ++ (AtHost (gives (1, 3 ∷ [])) ∷ AtController (Step NextFrame (Give (1, 128 ∷ []) ∷ []) CutOff) ∷ AtHost (gives (1, 5 ∷ [])) ∷ [])

cut_in_a_step : drop 16 (entries line cut)
    ≡ Sent Host 1 (1, 3 ∷ []) ∷ Emit Host (I 0 0 (129 ∷ 3 ∷ []))
    ∷ Took Controller (I 0 0 (129 ∷ 3 ∷ [])) ∷ Got Controller 1 (1, 3 ∷ []) ∷ Sent Controller 1 (1, 128 ∷ []) ∷ Cut Controller
    ∷ Sent Host 1 (1, 5 ∷ []) ∷ Emit Host (I 1 0 (129 ∷ 5 ∷ [])) ∷ []
cut_in_a_step = refl

cut_got : got_noted (trace line cut) Controller 1 ≡ (1, 3 ∷ []) ∷ []
cut_got = refl

cut_sent : sent_noted (trace line cut) Host 1 ≡ (1, 3 ∷ []) ∷ (1, 5 ∷ []) ∷ []
cut_sent = refl

-- activation anew while frames are on their way
again : drop 16 (entries line (up ++ (AtHost (gives (1, 3 ∷ [])) ∷ activates ∷ [])))
    ≡ Sent Host 1 (1, 3 ∷ []) ∷ Emit Host (I 0 0 (129 ∷ 3 ∷ []))
    ∷ Restarted Controller ∷ Down Controller ByAct
    ∷ Restarted Host ∷ Down Host ByAct ∷ Emit Host (Act (SyncId 6699) false) ∷ []
again = refl

-- a message is acknowledged whole
acknowledged_counts : acked_noted (trace bare one) Host 0 ≡ 1
acknowledged_counts = refl

-- the second ACT_READY stands behind an RSET: ACT_POWER_MODE was sent twice
abbrev ready_again : List LinkEvent
ready_again =
    activates ∷ AtController takes ∷ ticks 10 ++ (AtController takes ∷ AtHost takes ∷ AtHost resets ∷ AtHost takes ∷ AtController takes ∷ AtController takes
    ∷ AtController takes ∷ [])

ready_behind_a_reset : shown (entries line ready_again)
    ≡ Restarted Controller ∷ Restarted Host ∷ Emit Host (Act (SyncId 6699) false)
    ∷ Took Controller (Act (SyncId 6699) false) ∷ Emit Controller (Act (PowerMode 1) false)
    ∷ Lost Host (Act (PowerMode 1) false) TooOld
    ∷ Emit Controller (Act (PowerMode 1) false) ∷ Emit Host (Act (SyncId 6699) false)
    ∷ Took Controller (Act (SyncId 6699) false) ∷ Emit Controller (Act (PowerMode 1) false)
    ∷ Took Host (Act (PowerMode 1) false) ∷ Active Host ∷ Emit Host (Act Ready false)
    ∷ Emit Host rset
    ∷ Took Host (Act (PowerMode 1) false) ∷ Emit Host (Act Ready false)
    ∷ Took Controller (Act Ready false) ∷ Active Controller
    ∷ Took Controller rset ∷ Up Controller 1 ∷ Emit Controller Ua
    ∷ Took Controller (Act Ready false) ∷ []
ready_behind_a_reset = refl

-- ## Quiet sessions

-- ACT_POWER_MODE was lost before the session began
abbrev quiet : List LinkEvent
quiet =
    activates ∷ AtController takes ∷ ticks 10 ++ (AtController takes ∷ AtHost takes ∷ AtHost takes ∷ AtController takes ∷ AtController takes
    ∷ AtController resets ∷ AtHost takes ∷ AtController takes ∷ one)

quiet_is_quiet : IsQuietSince (trace line quiet) (after_link_events line quiet)
quiet_is_quiet = record { controller = refl; host = refl; undisturbed = refl; to_controller = refl; to_host = refl }

-- a message is lost and sent once more
lost_disturbs : list_any disturbs (since 0 (trace bare (AtHost (gives (1, 3 ∷ [])) ∷ AtController (Lose OnDemand) ∷ ticks 5))) ≡ true
lost_disturbs = refl

-- ## Sessions that last, and resets

-- the end of a node that lost power has no session; the other one's goes on
cut_session : session_in (trace line cut) Controller ≡ None
cut_session = refl

cut_goes_on : session_in (trace line cut) Host ≡ Some 1
cut_goes_on = refl

-- a reset at the controller's end, once both ends are active
settled : IsSettledSince (trace line up) (after_link_events line active)
    (AtController resets)
    (AtHost takes ∷ AtController takes ∷ [])
settled = grind arith

settled_controller : session_in (trace line up) Controller ≡ Some 1
settled_controller = refl

settled_host : session_in (trace line up) Host ≡ Some 1
settled_host = refl

-- a second reset that crosses the first one, and a loss, withhold its answer
crossing_withholds : list_any withholds (entries (after_link_events bare (AtController resets ∷ [])) (AtHost resets ∷ [])) ≡ true
crossing_withholds = refl

loss_withholds : list_any withholds (entries (after_link_events bare (AtHost resets ∷ [])) (AtController (Lose OnDemand) ∷ [])) ≡ true
loss_withholds = refl
