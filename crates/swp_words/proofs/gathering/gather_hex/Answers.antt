use Rattle.std.proofs.Common.{take-add}
use Rattle.swp_words.proofs.Words.{IsFront, IsGathered, List, ap, arith, common_steps, drop, subst, sym, take, take-append-drop, ℕ, ◌++◌, ◌+◌, ◌-◌, ◌∙◌, ◌≡◌}
use Rattle.swp_decode.specs.Texts.{hex_of}
use Rattle.swp_decode.proofs.Numerals.{hex_more}
use Rattle.swp_words.proofs.Recording.{on_err, enough_text, front_further, more_gathered}
use Rattle.swp_words.proofs.gathering.gather_hex.Goals as goal

-- the digits of the first bytes, and of those behind them
all_digits : (lines bytes : List ℕ) (at : ℕ) → (lines ++ hex_of (take at bytes)) ++ hex_of (drop at bytes) ≡ lines ++ hex_of bytes
all_digits lines bytes at = hex_more lines (take at bytes) (drop at bytes) ∙ ap (λ l. lines ++ hex_of l) (take-append-drop at bytes)

more_digits : (lines bytes : List ℕ) (at to : ℕ) → at + (to - at) ≡ to
    → (lines ++ hex_of (take at bytes)) ++ hex_of (take (to - at) (drop at bytes)) ≡ lines ++ hex_of (take to bytes)
more_digits lines bytes at to is =
    hex_more lines (take at bytes) (take (to - at) (drop at bytes))
    ∙ ap (λ l. lines ++ hex_of l) (sym (take-add at (to - at) bytes) ∙ ap (λ k. take k bytes) is)

pub returns-in_err-make_room-clause-ends : goal.returns-in_err-make_room-clause-ends
returns-in_err-make_room-clause-ends g c =
    on_err _ c.from_residual.result (λ least lines before h.
    let bytes = c.args.bytes.now in
    let at = c.parts.gathered in
    let so_far = c.parts.invariant.so_far least lines before h in
    subst (λ l. IsFront g.K.Sink.tells least l before (g.K.Sink.written c.make_room.new.sink)) (all_digits lines bytes at)
    (front_further (hex_of (drop at bytes)) (enough_text so_far)
    (c.in_err-make_room.ensures.ends least (lines ++ hex_of (take at bytes)) before so_far)))

pub parts-preserved : goal.parts-preserved
parts-preserved g c = record {
  within = grind (arith, common_steps);
  writes = omega (arith, c.make_room.ensures.count, c.parts.invariant.writes);
  so_far = λ least lines before h.
      let bytes = c.args.bytes.now in
      let at = c.parts.gathered in
      let so_far = c.parts.invariant.so_far least lines before h in
      let sum : at + (c.min-to.result - at) ≡ c.min-to.result = grind (arith, common_steps) in
      subst (λ l. IsGathered g.K.Sink.tells c.push_hex.new.text.items least l before (g.K.Sink.written c.make_room.new.sink))
      (more_digits lines bytes at c.min-to.result sum)
      (more_gathered _ (hex_of (take (c.min-to.result - at) (drop at bytes)))
      (c.in_ok-make_room.ensures.goes least (lines ++ hex_of (take at bytes)) before so_far) c.push_hex.ensures.items);
}
