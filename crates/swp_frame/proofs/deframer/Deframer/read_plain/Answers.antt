use Rattle.swp_frame.proofs.Words.{[], ap, arith, option_map, read_on, run_of, since_start, suc, symbol_of, ◌∙◌, ◌∷◌, ◌≡◌, ◌≢◌}
use Rattle.swp_frame.proofs.Places.{since_run, opened, still_open}
use Rattle.swp_frame.proofs.FurtherBits.{no_mark_after, quiet_since}
use Rattle.swp_frame.proofs.deframer.Deframer.read_plain.Goals as goal
use Rattle.swp_frame.proofs.deframer.Deframer.read_plain.Goals.{then-bit, else-bit}

-- the frame that is open stays open
pub returns-then-self-clause-stands : goal.returns-then-self-clause-stands
returns-then-self-clause-stands c = λ seen stands.
    let next = c.args.bit in
    let other : run_of seen ≢ 6 = λ six. c.requires (omega (arith, six, stands.ones)) in
    let open_frame = opened c.args.self.now.is_open c.args.self.now.content (since_start seen) stands.open_frame c.if-self.true in
    let inside = since_run seen open_frame.0 open_frame.1.0 in
    let since_is = quiet_since seen (next ∷ []) (no_mark_after seen next other, tt)
    ∙ ap (λ before. option_map (λ since. read_on since (next ∷ [])) before) open_frame.1.0 in
    record {
      ones = elim c.if-bit.branch [
        | then-bit w ↦ let more : run_of (symbol_of next ∷ seen) ≡ suc (run_of seen) =
            ap (λ b. run_of (symbol_of b ∷ seen)) w.if-bit.true in omega (arith, w.self-is, w.min-self.ensures, more, stands.ones)
        | else-bit w ↦ let none : run_of (symbol_of next ∷ seen) ≡ 0 = ap (λ b. run_of (symbol_of b ∷ seen)) w.if-bit.false in omega (arith, w.self-is, none)
      ];
      open_frame = still_open c.args.self.now.is_open c.push_bit.new.self _ _ c.if-self.true since_is
          (c.push_bit.ensures open_frame.0 open_frame.1.1 (omega (arith, inside.0, inside.1, stands.ones)));
    }
