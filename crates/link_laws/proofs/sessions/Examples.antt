-- The two machines, the wires and the numbers compute worked examples with losses and resets. What is noted of lost frames, of resets that cross
-- and of those whose RSET is lost is computed from text to text, in `node_examples`.
use Rattle.link_laws.proofs.Words.{CoreAtController as AtController, CoreAtHost as AtHost, CoreDeliver as Deliver, CoreLose as Lose, CoreReset as Reset}
use Rattle.link_laws.proofs.Words.{CoreStop as Stop, Down, Ignore, IsShdlcQuiet, IsShdlcSettled, List, Offer, ShdlcLinkEvent, Some, Tick, Turns, Up, Waiting}
use Rattle.link_laws.proofs.Words.{[], core_after as shdlc_after, false, losses_after, no_losses, refl, shdlc_number_of, start, start_down, suc, sure_after}
use Rattle.link_laws.proofs.Words.{true, zero, ℕ, ◌++◌, ◌∷◌, ◌≡◌}
use Rattle.link_laws.specs.sessions.Sessions.ShdlcEndEvent.{Cut}

abbrev ticks : ℕ → List ShdlcLinkEvent
ticks zero = []
ticks (suc n) = Tick (Some []) [] (Some []) ∷ ticks n

-- the one packet of the message 03 on pipe 01
abbrev packet : List ℕ
packet = 129 ∷ 3 ∷ []

abbrev send : ShdlcLinkEvent
send = AtHost (Turns (Offer (packet ∷ []) ∷ []))

-- nobody delivers: each frame is lost by its age, and the sixtieth tick ends the session
abbrev nobody : ℕ → List ShdlcLinkEvent
nobody n = send ∷ ticks n

nobody_goes_on : (shdlc_after start (nobody 59)).host.side.phase ≡ Up
nobody_goes_on = refl

nobody_ends : (shdlc_after start (nobody 60)).host.side.phase ≡ Waiting
nobody_ends = refl

-- what was lost in that session isn't counted in the next one
abbrev next_session : List ShdlcLinkEvent
next_session = nobody 60 ++ (AtController (Deliver []) ∷ AtHost (Deliver []) ∷ [])

next_session_number : shdlc_number_of (shdlc_after start next_session).host ≡ 1
next_session_number = refl

next_session_lost : (losses_after no_losses start next_session).lost ≡ false
next_session_lost = refl

-- a reset whose first RSET is lost
abbrev resent : List ShdlcLinkEvent
resent = AtHost (Reset 4 []) ∷ AtController Lose ∷ ticks 10 ++ (AtController (Deliver []) ∷ AtHost (Deliver []) ∷ [])

-- two resets that cross
abbrev crossed : List ShdlcLinkEvent
crossed =
    AtController (Reset 4 []) ∷ AtHost (Reset 4 []) ∷ AtController (Deliver []) ∷ AtHost (Deliver []) ∷ AtHost (Deliver []) ∷ AtController (Deliver []) ∷ []

-- a cut of the controller, while the host goes on; then an activation, and a reset
abbrev cut : List ShdlcLinkEvent
cut = AtController (Reset 4 []) ∷ AtHost (Deliver []) ∷ AtController (Deliver []) ∷ AtController Cut ∷ []

cut_is_down : (shdlc_after start cut).controller.side.phase ≡ Down
cut_is_down = refl

cut_goes_on : (shdlc_after start cut).host.side.phase ≡ Up
cut_goes_on = refl

abbrev active_again : List ShdlcLinkEvent
active_again = cut ++ (AtController Stop ∷ AtHost Stop ∷ AtHost (Reset 2 []) ∷ AtController (Deliver []) ∷ AtHost (Deliver []) ∷ [])

again_is_up : shdlc_number_of (shdlc_after start active_again).controller ≡ 2
again_is_up = refl

-- the controller, which is inactive, takes an RSET; once it is started it comes up with the next one, or by its own
abbrev ignored : List ShdlcLinkEvent
ignored = AtHost (Reset 4 []) ∷ AtController (Ignore []) ∷ []

ignored_is_down : (shdlc_after start_down ignored).controller.side.phase ≡ Down
ignored_is_down = refl

ignored_number : shdlc_number_of (shdlc_after start_down ignored).controller ≡ 1
ignored_number = refl

abbrev started : List ShdlcLinkEvent
started = ignored ++ ticks 10 ++ (AtController (Deliver []) ∷ AtHost (Deliver []) ∷ [])

started_is_up : (shdlc_after start_down started).controller.side.phase ≡ Up
started_is_up = refl

started_controller : shdlc_number_of (shdlc_after start_down started).controller ≡ 2
started_controller = refl

started_host : shdlc_number_of (shdlc_after start_down started).host ≡ 2
started_host = refl

abbrev asks_itself : List ShdlcLinkEvent
asks_itself = ignored ++ (AtController (Reset 4 []) ∷ AtHost (Deliver []) ∷ AtController (Deliver []) ∷ [])

asks_is_up : (shdlc_after start_down asks_itself).controller.side.phase ≡ Up
asks_is_up = refl

asks_number : shdlc_number_of (shdlc_after start_down asks_itself).controller ≡ 2
asks_number = refl

-- an end that is Up ignores nothing
up_ignores_nothing : shdlc_after start (AtHost (Reset 4 []) ∷ AtController (Ignore []) ∷ []) ≡ shdlc_after start (AtHost (Reset 4 []) ∷ [])
up_ignores_nothing = refl

-- a reset that is answered: both wires are empty, and it is known to be answered
abbrev answered : List ShdlcLinkEvent
answered = AtHost (Reset 4 []) ∷ AtController (Deliver []) ∷ AtHost (Deliver []) ∷ []

answered_is_settled : IsShdlcSettled (shdlc_after start answered) (sure_after false start answered)
answered_is_settled = record { sure = refl; to_controller = refl; to_host = refl }

-- one whose RSET was lost, and two that crossed, aren't known to be answered
resent_not_sure : sure_after false start resent ≡ false
resent_not_sure = refl

crossed_not_sure : sure_after false start crossed ≡ false
crossed_not_sure = refl

-- a frame is lost in session 0
abbrev broken : List ShdlcLinkEvent
broken = AtController (Turns (Offer ((1 ∷ []) ∷ []) ∷ [])) ∷ AtHost Lose ∷ []

broken_lost : (losses_after no_losses start broken).lost ≡ true
broken_lost = refl

-- in the next session nothing is, and fragments go both ways
abbrev told : List ShdlcLinkEvent
told =
    broken ++ answered
    ++ (AtController (Turns (Offer ((2 ∷ []) ∷ (3 ∷ []) ∷ []) ∷ [])) ∷ AtHost (Turns (Offer ((4 ∷ []) ∷ []) ∷ [])) ∷ [])
    ++ (AtHost (Deliver []) ∷ AtHost (Deliver []) ∷ AtController (Deliver []) ∷ AtController (Deliver []) ∷ AtController (Deliver [])
    ∷ AtHost (Deliver []) ∷ [])

told_is_quiet : IsShdlcQuiet (shdlc_after start told) (losses_after no_losses start told)
told_is_quiet = record { controller = refl; host = refl; lost = refl; rnr = refl; to_controller = refl; to_host = refl }

told_session : shdlc_number_of (shdlc_after start told).controller ≡ 1
told_session = refl

told_fragments : (shdlc_after start told).host.side.session.acc ≡ (2 ∷ []) ∷ (3 ∷ []) ∷ []
told_fragments = refl
