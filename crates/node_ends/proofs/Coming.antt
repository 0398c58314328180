-- What comes to an end and brings no message leaves the one that waits there.
use Rattle.node_ends.proofs.Words.{End, EndLeavesOthers, EndStandsFor, HoldsEnd, LinkInput, LinkReport, Machine, Option, PoolState, Reset, ResetRefused, Result}
use Rattle.node_ends.proofs.Words.{Start, Stop, Tick, Waiting, [], after_input, ap, append-nil, arith, ended_by, ends_by, got_by, is_some, refl, report}
use Rattle.node_ends.proofs.Words.{report_told, reset_told, subst, true, whole_acked, without_got, ℕ, ◌++◌, ◌-◌, ◌∙◌, ◌≡◌}
use Rattle.node_ends.proofs.Apart.{with_got, is_outside, input_apart}
use Rattle.node_ends.proofs.Moving.{call_holds}

-- an input that brings none leaves what waits
pub still_holds : (old new : PoolState) (k after : End) (waiting : Option Waiting) (m : Machine) (i : LinkInput) → HoldsEnd old k waiting m
    → got_by m i ≡ [] → is_outside i ≡ true → EndLeavesOthers old new k after
    → EndStandsFor after new (after_input (without_got m) i) → HoldsEnd new after waiting (after_input m i)
still_holds old new k after waiting m i h none out leaves stands =
    let before : after_input (without_got m) i ≡ without_got (after_input m i) =
    input_apart m [] i out ∙ ap (λ l. with_got l (after_input m i)) none in
    let all : after_input m i ≡ with_got m.got (after_input m i) =
    input_apart m m.got i out ∙ (ap (λ l. with_got (m.got ++ l) (after_input m i)) none ∙ ap (λ l. with_got l (after_input m i)) (append-nil m.got)) in
    call_holds old new k after waiting m (after_input m i) h leaves (subst (λ n. EndStandsFor after new n) before stands)
    (ap (λ (x : Machine). x.got) all)

-- a tick that changes nothing but for what waits changes nothing
pub same_apart : (m : Machine) → after_input (without_got m) Tick ≡ without_got m → after_input m Tick ≡ m
same_apart m same = grind arith

-- ## What is told

pub tick_told_apart : (m : Machine) → report_told (report (without_got m) Tick) ≡ report_told (report m Tick)
tick_told_apart m = ap (λ (x : Machine). record (report_told (report m Tick)) { acked = whole_acked x - whole_acked m }) (input_apart m [] Tick refl)

pub start_told_apart : (m : Machine) (value : ℕ) → report_told (report (without_got m) (Start value)) ≡ report_told (report m (Start value))
start_told_apart m value = grind arith

pub stop_told_apart : (m : Machine) → report_told (report (without_got m) Stop) ≡ report_told (report m Stop)
stop_told_apart m = ap (λ (x : Machine). record (report_told (report m Stop)) { acked = whole_acked x - whole_acked m }) (input_apart m [] Stop refl)

pub reset_told_apart : (m : Machine) (window : Option ℕ) → reset_told (without_got m) window ≡ reset_told m window
reset_told_apart m window = grind arith

pub reset_so : {pool : PoolState} {k : End} {waiting : Option Waiting} {r : Result LinkReport ResetRefused} (window : Option ℕ)
    → ((m : Machine) → EndStandsFor k pool m → r ≡ reset_told m window) → (m : Machine) → HoldsEnd pool k waiting m → r ≡ reset_told m window
reset_so window told m h = told (without_got m) h.stands ∙ reset_told_apart m window

-- a reset that is told ends the session where the definition says so
pub reset_ends : (m : Machine) (window : Option ℕ) → ends_by (reset_told m window) ≡ is_some (ended_by m (Reset window))
reset_ends m window = grind arith
