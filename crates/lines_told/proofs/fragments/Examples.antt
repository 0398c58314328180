-- The machines compute worked examples of rounds: what is asked of rounds can be met, and a fragment can take twelve of them.
use Rattle.lines_told.proofs.Words.{AreRounds, AreUndisturbed, AtController, AtHost, BothTakeFragments, Deliver, IsRound, List, Lose, Offer, SetReady}
use Rattle.lines_told.proofs.Words.{ShdlcLink, ShdlcLinkEvent, Some, Tick, Turns, [], arith, false, length, no_losses, noted_event, refl, shdlc_after}
use Rattle.lines_told.proofs.Words.{shdlc_happens, start, suc, to_deliver, true, zero, ℕ, ◌++◌, ◌∷◌, ◌≡◌}

abbrev time : List ShdlcLinkEvent
time = Tick (Some []) [] (Some []) ∷ []

-- rounds in which nothing stands on either wire
abbrev silent : ℕ → List ShdlcLinkEvent
silent zero = []
silent (suc n) = time ++ silent n

-- the controller's end sends a fragment, which is lost
abbrev lost : List ShdlcLinkEvent
lost = AtController (Turns (Offer ((129 ∷ 3 ∷ []) ∷ []) ∷ [])) ∷ AtHost Lose ∷ []

abbrev lost_link : ShdlcLink
lost_link = shdlc_after start lost

-- It is sent again in the tenth round, comes in the eleventh, and its answer comes in the twelfth.
abbrev eleven : List ShdlcLinkEvent
eleven = silent 10 ++ (AtHost (Deliver []) ∷ time)

abbrev twelve : List ShdlcLinkEvent
twelve = eleven ++ (AtController (Deliver []) ∷ time)

one_is_left : to_deliver lost_link ≡ 1
one_is_left = refl

eleven_are_few : (shdlc_after lost_link eleven).controller.side.session.acked ≡ 0
eleven_are_few = refl

twelve_are_enough : (shdlc_after lost_link twelve).controller.side.session.acked ≡ 1
twelve_are_enough = refl

-- what is lost at the host's end takes eleven
abbrev lost_there : List ShdlcLinkEvent
lost_there = AtHost (Turns (Offer ((129 ∷ 3 ∷ []) ∷ []) ∷ [])) ∷ AtController Lose ∷ []

abbrev both_ways : List ShdlcLinkEvent
both_ways = silent 10 ++ (AtController (Deliver []) ∷ AtHost (Deliver []) ∷ time)

eleven_are_enough_there : (shdlc_after (shdlc_after start lost_there) both_ways).host.side.session.acked ≡ 1
eleven_are_enough_there = refl

-- the answer RR to a fragment that waited for a busy end is lost: it is probed in the tenth round
abbrev busy : List ShdlcLinkEvent
busy =
    AtHost (Turns (SetReady false ∷ [])) ∷ AtController (Turns (Offer ((129 ∷ 3 ∷ []) ∷ []) ∷ [])) ∷ AtHost (Deliver []) ∷ AtController (Deliver [])
    ∷ AtHost (Turns (SetReady true ∷ [])) ∷ AtController Lose ∷ []

busy_eleven_are_few : (shdlc_after (shdlc_after start busy) eleven).controller.side.session.acked ≡ 0
busy_eleven_are_few = refl

busy_twelve_are_enough : (shdlc_after (shdlc_after start busy) twelve).controller.side.session.acked ≡ 1
busy_twelve_are_enough = refl

-- ## These are rounds

silent_round : (l : ShdlcLink) → l.to_controller ≡ [] → l.to_host ≡ [] → IsRound l time
silent_round l c h =
    record {
      first = [];
      second = [];
      third = time;
      parts = refl;
      to_controller = record { ordinary = tt; at_controller = rw c refl; at_host = refl; ticked = refl };
      to_host = record { ordinary = tt; at_controller = refl; at_host = rw h refl; ticked = refl };
      ticks = record { ordinary = (tt, tt); at_controller = refl; at_host = refl; ticked = refl };
    }

host_round : (l : ShdlcLink) → l.to_controller ≡ [] → length l.to_host ≡ 1 → IsRound l (AtHost (Deliver []) ∷ time)
host_round l c h =
    record {
      first = [];
      second = AtHost (Deliver []) ∷ [];
      third = time;
      parts = refl;
      to_controller = record { ordinary = tt; at_controller = rw c refl; at_host = refl; ticked = refl };
      to_host = record { ordinary = (tt, tt); at_controller = refl; at_host = rw h refl; ticked = refl };
      ticks = record { ordinary = (tt, tt); at_controller = refl; at_host = refl; ticked = refl };
    }

-- the eleventh round
abbrev before : ShdlcLink
before = shdlc_after lost_link (silent 10)

eleventh : AreRounds 1 before (AtHost (Deliver []) ∷ time)
eleventh = (AtHost (Deliver []) ∷ time, [], refl, host_round before refl refl, refl)

then_time : (l : ShdlcLink) → BothTakeFragments l → (noted_event no_losses l (Tick (Some []) [] (Some []))).lost ≡ false
    → BothTakeFragments (shdlc_happens l (Tick (Some []) [] (Some []))) → AreUndisturbed l time
then_time l a n b = (a, n, b)

abbrev taken : ShdlcLink
taken = shdlc_happens before (AtHost (Deliver []))

eleventh_undisturbed : AreUndisturbed before (AtHost (Deliver []) ∷ time)
eleventh_undisturbed = (grind arith, refl, grind arith)
