-- Bytes come, up to the first one that brings something.
use Rattle.one_end.proofs.Words.{List, [], arith, causes_brought, get_or, length, subst, sym, take, ℕ, ◌+◌, ◌-◌, ◌∙◌}
use Rattle.one_end.proofs.Bringing.{nothing_brought}
use Rattle.one_end.proofs.Running.{HasReadOn, nothing_read, one_read, passed_further, heard_further}
use Rattle.one_end.proofs.reading.Reader.hear_stretch.Goals as goal

pub bytes-init : goal.bytes-init
bytes-init c = record { within = omega arith; quiet = nothing_read c.args.self.now }

pub bytes-preserved : goal.bytes-preserved
bytes-preserved c =
    let bytes : List ℕ = c.args.bytes.now in
    let kept = c.bytes.invariant in
    let passed : HasReadOn c.args.self.now c.pass-passed.new.self (take (c.bytes.count + c.pass-passed.result) bytes) [] =
    passed_further c.args.self.now c.bytes.self c.pass-passed.new.self bytes c.bytes.count c.pass-passed.result (length bytes - c.bytes.count)
    (omega arith) kept.quiet
    (record { form = c.pass-passed.ensures.form; stands = c.pass-passed.ensures.stands; brings = c.pass-passed.ensures.quiet }) in
    record {
      within = omega arith;
      quiet = subst (HasReadOn c.args.self.now c.hear-brought.new.self (take (c.bytes.count + c.pass-passed.result + 1) bytes))
          (nothing_brought c.hear-brought.result (sym c.is_nothing.ensures ∙ c.if-not-is_nothing.false))
          (heard_further c.args.self.now c.pass-passed.new.self c.hear-brought.new.self bytes (c.bytes.count + c.pass-passed.result)
          (causes_brought c.hear-brought.result) (omega arith) passed
          (one_read c.pass-passed.new.self c.hear-brought.new.self (get_or bytes (c.bytes.count + c.pass-passed.result) 0)
          (causes_brought c.hear-brought.result) c.hear-brought.ensures.form c.hear-brought.ensures.stands c.hear-brought.ensures.brings));
    }

-- all of them bring nothing
pub returns-then-count-bytes-clause-stands : goal.returns-then-count-bytes-clause-stands
returns-then-count-bytes-clause-stands c =
    (passed_further c.args.self.now c.bytes.self c.pass-passed.new.self c.args.bytes.now c.bytes.count c.pass-passed.result
    (length c.args.bytes.now - c.bytes.count) (omega arith) c.bytes.invariant.quiet
    (record { form = c.pass-passed.ensures.form; stands = c.pass-passed.ensures.stands; brings = c.pass-passed.ensures.quiet })).stands

pub returns-then-count-bytes-clause-brings : goal.returns-then-count-bytes-clause-brings
returns-then-count-bytes-clause-brings c number older s =
    c.nothing.ensures
    ∙ sym ((passed_further c.args.self.now c.bytes.self c.pass-passed.new.self c.args.bytes.now c.bytes.count c.pass-passed.result
    (length c.args.bytes.now - c.bytes.count) (omega arith) c.bytes.invariant.quiet
    (record { form = c.pass-passed.ensures.form; stands = c.pass-passed.ensures.stands; brings = c.pass-passed.ensures.quiet })).brings number older s)

-- the last one brings something
pub returns-then-not-is_nothing-clause-stands : goal.returns-then-not-is_nothing-clause-stands
returns-then-not-is_nothing-clause-stands c =
    (heard_further c.args.self.now c.pass-passed.new.self c.hear-brought.new.self c.args.bytes.now (c.bytes.count + c.pass-passed.result)
    (causes_brought c.hear-brought.result) (omega arith)
    (passed_further c.args.self.now c.bytes.self c.pass-passed.new.self c.args.bytes.now c.bytes.count c.pass-passed.result
    (length c.args.bytes.now - c.bytes.count) (omega arith) c.bytes.invariant.quiet
    (record { form = c.pass-passed.ensures.form; stands = c.pass-passed.ensures.stands; brings = c.pass-passed.ensures.quiet }))
    (one_read c.pass-passed.new.self c.hear-brought.new.self (get_or c.args.bytes.now (c.bytes.count + c.pass-passed.result) 0)
    (causes_brought c.hear-brought.result) c.hear-brought.ensures.form c.hear-brought.ensures.stands c.hear-brought.ensures.brings)).stands

pub returns-then-not-is_nothing-clause-brings : goal.returns-then-not-is_nothing-clause-brings
returns-then-not-is_nothing-clause-brings c number older s =
    sym ((heard_further c.args.self.now c.pass-passed.new.self c.hear-brought.new.self c.args.bytes.now (c.bytes.count + c.pass-passed.result)
    (causes_brought c.hear-brought.result) (omega arith)
    (passed_further c.args.self.now c.bytes.self c.pass-passed.new.self c.args.bytes.now c.bytes.count c.pass-passed.result
    (length c.args.bytes.now - c.bytes.count) (omega arith) c.bytes.invariant.quiet
    (record { form = c.pass-passed.ensures.form; stands = c.pass-passed.ensures.stands; brings = c.pass-passed.ensures.quiet }))
    (one_read c.pass-passed.new.self c.hear-brought.new.self (get_or c.args.bytes.now (c.bytes.count + c.pass-passed.result) 0)
    (causes_brought c.hear-brought.result) c.hear-brought.ensures.form c.hear-brought.ensures.stands c.hear-brought.ensures.brings)).brings number older s)
