-- The definitions compute the worked examples, with activation, cuts and turns.
use Rattle.std.specs.Prelude.{replicate}
use Rattle.link_laws.proofs.Words.{Activate, AsksReset, AtController, AtHost, Bare, Chain, Clf, Down, EndEvent, Give, GoesOut, Hold, I, IsQuiet, Link, LinkEnd}
use Rattle.link_laws.proofs.Words.{LinkEvent, LinkInput, List, Lose, Message, NextFrame, NoInput, Node, None, OnDemand, OnWire, Rr, S, Some, Step, Take, Ticks}
use Rattle.link_laws.proofs.Words.{Uicc, [], after_input, after_link_events, ended_by, losses_of, map, messages_got, new_clf, new_link, new_link_end, new_uicc}
use Rattle.link_laws.proofs.Words.{number_of, refl, report, spare, suc, talk_of, true, turned, zero, ℕ, ◌++◌, ◌∷◌, ◌≡◌}

abbrev pub bare : Link
bare = new_link Bare Bare

abbrev pub line : Link
line = new_link (Clf new_clf) (Uicc new_uicc)

-- what happens at an end, where its frames go out
abbrev pub takes : EndEvent
takes = Step NextFrame [] GoesOut

abbrev pub resets : EndEvent
resets = Step (AsksReset None) [] GoesOut

abbrev pub gives : Message → EndEvent
gives m = Step NoInput (Give m ∷ []) GoesOut

abbrev pub idle : Node
idle = record { turns = []; ending = GoesOut }

abbrev pub ticks : ℕ → List LinkEvent
ticks zero = []
ticks (suc n) = Ticks idle [] idle ∷ ticks n

-- the link is activated, and the controller's end is reset once both are active
abbrev pub activates : LinkEvent
activates = Activate 1 idle 6699 idle

abbrev pub active : List LinkEvent
active = activates ∷ AtController takes ∷ AtHost takes ∷ AtController takes ∷ []

abbrev pub up : List LinkEvent
up = active ++ (AtController resets ∷ AtHost takes ∷ AtController takes ∷ [])

-- a message is given, taken and acknowledged
abbrev pub one : List LinkEvent
one = AtHost (gives (1, 3 ∷ [])) ∷ AtController takes ∷ AtHost takes ∷ []

-- the node that takes a frame becomes not ready and gives a message before its frames go out: RR goes first
abbrev answered : List LinkEvent
answered = AtHost (gives (1, 3 ∷ [])) ∷ AtController (Step NextFrame (Give (1, 128 ∷ []) ∷ Hold true ∷ []) GoesOut) ∷ []

answered_first : map (λ (x : OnWire). x.frame) (after_link_events bare answered).to_host ≡ S Rr 1 ∷ I 0 1 (129 ∷ 128 ∷ []) ∷ []
answered_first = refl

-- activation anew while frames are on their way, and a message in session 2
abbrev again : List LinkEvent
again =
    up ++ AtHost (gives (1, 3 ∷ [])) ∷ AtController (Step NextFrame (Give (1, 128 ∷ 0 ∷ []) ∷ []) GoesOut) ∷ up ++
    AtController (gives (1, 5 ∷ [])) ∷ AtHost takes ∷ []

again_number : number_of (after_link_events line again).host ≡ 2
again_number = refl

again_got : messages_got (talk_of (after_link_events line again).host 2).session ≡ (1, 5 ∷ []) ∷ []
again_got = refl

again_kept : messages_got (talk_of (after_link_events line again).controller 1).session ≡ (1, 3 ∷ []) ∷ []
again_kept = refl

-- an end that takes packets of a fifth message is Down: a chain fault
abbrev opens : ℕ → ℕ → LinkInput
opens n pipe = Take (I n 0 (pipe ∷ 7 ∷ []))

abbrev four_open : LinkEnd
four_open = after_input (after_input (after_input (after_input (new_link_end Bare) (opens 0 1)) (opens 1 2)) (opens 2 3)) (opens 3 4)

fifth_ends : ended_by four_open (opens 4 5) ≡ Some Chain
fifth_ends = refl

fifth_down : (after_input four_open (opens 4 5)).shdlc.phase ≡ Down
fifth_down = refl

fourth_goes_on : ended_by four_open (opens 4 1) ≡ None
fourth_goes_on = refl

-- of a message that is taken whole it is told
whole_told : (report (new_link_end Bare) (Take (I 0 0 (129 ∷ 3 ∷ [])))).got ≡ (1, 3 ∷ []) ∷ []
whole_told = refl

-- five messages of one byte wait in 5 of 128 blocks
given_spare : spare (turned (new_link_end Bare) (replicate 5 (Give (1, 3 ∷ [])))) ≡ 123
given_spare = refl

-- all that was given is delivered, also behind a session in which a frame was lost, and over activation
one_is_quiet : IsQuiet (after_link_events bare one) (losses_of bare one)
one_is_quiet = record { controller = refl; host = refl; lost = refl; rnr = refl; to_controller = refl; to_host = refl }

abbrev gone : List LinkEvent
gone = AtHost (gives (1, 3 ∷ [])) ∷ AtController (Lose OnDemand) ∷ []

gone_lost : (losses_of bare gone).lost ≡ true
gone_lost = refl

abbrev on_line : List LinkEvent
on_line = up ++ one

on_line_is_quiet : IsQuiet (after_link_events line on_line) (losses_of line on_line)
on_line_is_quiet = record { controller = refl; host = refl; lost = refl; rnr = refl; to_controller = refl; to_host = refl }

on_line_got : messages_got (talk_of (after_link_events line on_line).controller 1).session ≡ (1, 3 ∷ []) ∷ []
on_line_got = refl
