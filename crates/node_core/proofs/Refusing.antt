-- A reset that is refused changes nothing, and a tick brings no identifier.
use Rattle.node_core.proofs.Words.{AllByRecursion, AreAllDifferent, AreAtMostDue, AreFewDue, AreYoung, AtEnd, Bool, Core, Entry, Err, HasNoneEnded, List}
use Rattle.node_core.proofs.Words.{Machine, None, Option, Port, Reset, ResetRefused, Some, Tick, TimePasses, Work, [], after_input, all_come, ap, append-nil}
use Rattle.node_core.proofs.Words.{ap₂, arith, due_count, eqb-true, false, flat_map, has_come, input_at, is_late, map, option_map, port_at, refl, report}
use Rattle.node_core.proofs.Words.{reset_few_due, reset_late, reset_refusal_at, reset_told, subst, sym, synced, tick_few, true, with_older, with_port, ℕ, ◌++◌}
use Rattle.node_core.proofs.Words.{◌==◌, ◌∙◌, ◌∷◌, ◌≡◌, ◌≢◌, ◌≤◌}
use Rattle.node_core.proofs.Elsewhere.{host_at}
use Rattle.node_core.proofs.Arriving.{come_is}
use Rattle.node_core.proofs.Ticking.{none_with}
use Rattle.node_core.proofs.Stepping.{silent_synced}

-- ## Refusals

refused_ports : (h : ℕ) (window : Option ℕ) (why : ResetRefused) (ports : List Port) → AreAllDifferent (map host_at ports) → HasNoneEnded ports
    → Some (Err why) ≡ option_map (λ (p : Port). reset_told p.side window) (port_at ports h)
    → with_port h (λ p. has_come p (Some (Reset window))) ports ≡ ports
refused_ports h window why [] differ none is = refl
refused_ports h window why (p ∷ ports) differ none is = by (refused_ports h window why ports differ.1 none.1) (p.desk.host == h) refl
  where
    Told : Type 0
    Told = Some (Err why) ≡ option_map (λ (p : Port). reset_told p.side window) (port_at ports h)

    by : (Told → with_port h (λ p. has_come p (Some (Reset window))) ports ≡ ports) → (b : Bool) → (p.desk.host == h) ≡ b
        → with_port h (λ p. has_come p (Some (Reset window))) (p ∷ ports) ≡ p ∷ ports
    by later true q =
        let told : Err why ≡ reset_told p.side window = cc in
        let N : ℕ → Type 0 = λ m. AllByRecursion (λ (g : ℕ). g ≢ m) (map host_at ports) in
        rw q (ap₂ (λ (x : Port) xs. x ∷ xs) (grind arith)
        (none_with h (λ p. has_come p (Some (Reset window))) ports (subst N (eqb-true p.desk.host h q) differ.0)))
    by later false q = grind arith

-- a reset that is refused leaves a step as it was
pub refused_stays : (h : ℕ) (window : Option ℕ) (why : ResetRefused) (w : Work) → AreAllDifferent (map host_at w.ports) → HasNoneEnded w.ports
    → Some (Err why) ≡ option_map (λ (p : Port). reset_told p.side window) (port_at w.ports h) → all_come (AtEnd h (Reset window)) w ≡ w
refused_stays h window why w differ none is =
    sym (come_is h (Reset window) w differ)
    ∙ ap₂ (λ (es : List Entry) (ports : List Port). record w { ports = ports; entries = es })
    (ap (λ es. w.entries ++ es) (grind arith) ∙ append-nil w.entries)
    (refused_ports h window why w.ports differ none is)

-- so it was told
pub refused_is : (window : Option ℕ) (o : Option Port) (why : ResetRefused) → reset_refusal_at o ≡ Some why
    → Some (Err why) ≡ option_map (λ (p : Port). reset_told p.side window) o
refused_is window o why is = grind arith

-- ## Ticks

tick_silent : (e : Machine) → (report e Tick).sync ≡ None
tick_silent e = grind arith

pub tick_synced : (core : Core) (ports : List Port) → flat_map (synced core TimePasses) ports ≡ []
tick_synced core ports = silent_synced core TimePasses (λ p. (let s = tick_silent p.side in rw s refl)) ports

pub ticked_few : (ports : List Port) → AreAtMostDue 4 ports → AreFewDue (map (λ (p : Port). has_come p (input_at TimePasses p)) ports)
ticked_few [] few = tt
ticked_few (p ∷ ports) few = let f = few.0 in let t = tick_few p.side in (omega (arith, f, t), ticked_few ports few.1)

pub ticked_young : (ports : List Port) → AreYoung ports → AreYoung (map (λ (p : Port). has_come p (input_at TimePasses p)) ports)
ticked_young [] young = tt
ticked_young (p ∷ ports) young = (young.0, ticked_young ports young.1)

-- the ends once those with late notices were reset
abbrev pub timed_out : List Port → List Port
timed_out ports = map reset_late (map with_older (map (λ (p : Port). has_come p (input_at TimePasses p)) ports))

pub late_few : (ports : List Port) → AreAtMostDue 4 ports → AreFewDue (timed_out ports)
late_few [] few = tt
late_few (p ∷ ports) few = (one (is_late (with_older (has_come p (Some Tick)))) refl, late_few ports few.1)
  where
    q : Port
    q = with_older (has_come p (Some Tick))

    one : (b : Bool) → is_late q ≡ b → due_count (reset_late q).side ≤ 6
    one true z =
        let f = few.0 in
        let t = tick_few p.side in
        rw z (omega (arith, f, t, reset_few_due (after_input p.side Tick) None))
    one false z = let f = few.0 in let t = tick_few p.side in rw z (omega (arith, f, t))
