use Rattle.swp_decode.proofs.Names.{Deactivated, None, ReadsSignal, S1, S2, Some, ap, arith, length, period_at, signal, subst, sym, symbol_on, with_reading}
use Rattle.swp_decode.proofs.Names.{◌∙◌, ◌≡◌}
use Rattle.swp_decode.proofs.decoder.Decoder.hear.Goals as goal

pub returns-in-Some-Deactivated-clause-stands : goal.returns-in-Some-Deactivated-clause-stands
returns-in-Some-Deactivated-clause-stands c = λ bytes stands.
    let period : Some Deactivated ≡ period_at c.args.byte = ap (λ p. Some p) (sym c.in-Some-Deactivated.field-0-is) ∙ c.in-Some-Deactivated.ensures.value in
    let new = c.hear_breaks.new.self in
    record {
      count = omega (arith, stands.count, c.hear_breaks.ensures.count);
      s1 = subst (λ p. ReadsSignal new.s1 (with_reading (symbol_on S1 p) (length bytes) (signal S1 bytes))) period
          (c.hear_breaks.ensures.reads_s1 (length bytes) (signal S1 bytes) stands.s1);
      s2 = subst (λ p. ReadsSignal new.s2 (with_reading (symbol_on S2 p) (length bytes) (signal S2 bytes))) period
          (c.hear_breaks.ensures.reads_s2 (length bytes) (signal S2 bytes) stands.s2);
    }

pub returns-in-None-clause-stands : goal.returns-in-None-clause-stands
returns-in-None-clause-stands c = λ bytes stands.
    let period : None ≡ period_at c.args.byte = c.in-None.ensures.value in
    let new = c.hear_breaks-in-None.new.self in
    record {
      count = omega (arith, stands.count, c.hear_breaks-in-None.ensures.count);
      s1 = subst (λ p. ReadsSignal new.s1 (with_reading (symbol_on S1 p) (length bytes) (signal S1 bytes))) period
          (c.hear_breaks-in-None.ensures.reads_s1 (length bytes) (signal S1 bytes) stands.s1);
      s2 = subst (λ p. ReadsSignal new.s2 (with_reading (symbol_on S2 p) (length bytes) (signal S2 bytes))) period
          (c.hear_breaks-in-None.ensures.reads_s2 (length bytes) (signal S2 bytes) stands.s2);
    }
