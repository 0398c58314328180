-- Three words that fit their kinds.
use Rattle.schedule_text.proofs.Names.{End, List, Some, [], arith, byte_value, common_steps, drop, end_value, get_or, length, not, refl, sym, take, true, words}
use Rattle.schedule_text.proofs.Names.{ℕ, ◌-◌, ◌||◌, ◌∙◌, ◌∷◌, ◌≡◌}
use Rattle.schedule_text.proofs.AtOnceLemmas.{sends, send_words, message_sizes}
use Rattle.schedule_text.proofs.at_once.send_at_once.Goals.{then-header, else-header}
use Rattle.schedule_text.proofs.at_once.send_at_once.Goals as goal

pub returns-in-Some-bytes_of : goal.returns-in-Some-bytes_of
returns-in-Some-bytes_of c =
    let rest = c.args.rest.now in
    let first : List ℕ = get_or rest 1 0 ∷ get_or rest 2 0 ∷ get_or rest 3 0 ∷ [] in
    let second : List ℕ = get_or rest 5 0 ∷ get_or rest 6 0 ∷ [] in
    let digits = take (length rest - 8) (drop 8 rest) in
    let bytes = c.in-Some-bytes_of.bytes.items in
    let at : End = record { link = c.in-Some.link; at_host = c.in-Some-side_of.at_host } in
    let pid = c.in-Some-pair_of.pid in
    let sizes = message_sizes digits bytes c.in-Some-bytes_of.ensures (omega arith) (omega arith) in
    let is_end : end_value first ≡ Some at = rw ((sym c.pair_of.ensures ∙ c.in-Some.is), (sym c.side_of.ensures ∙ c.in-Some-side_of.is)) refl in
    let is_byte : byte_value second ≡ Some pid = sym c.pair_of-2.ensures ∙ c.in-Some-pair_of.is in
    let may : (not c.args.header.now.hci || c.in-Some-side_of.at_host) ≡ true =
    elim c.if-header.branch [
      | then-header w ↦ grind (arith, common_steps, w.if-header.true, w.t-38-is)
      | else-header w ↦ grind (arith, common_steps, w.if-header.false, w.t-38-is)
    ] in
    sends c.args.header.now (words rest) first second digits
    (send_words rest at pid bytes (omega arith) (omega arith) (omega arith) (omega arith) is_end is_byte sizes.0 sizes.1)
    (at, is_end, sym c.knows.ensures ∙ c.if-not-knows.false, may) (pid, is_byte, omega (arith, c.if-pid-ge112.false)) (bytes, sizes.0, sizes.1, sizes.2)
