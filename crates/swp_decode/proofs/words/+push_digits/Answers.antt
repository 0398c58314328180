use Rattle.swp_decode.proofs.Names.{List, [], ap, append_assoc, arith, decimal, decimal_digit, get_or, length, length-append, sym, ℕ, ◌%◌, ◌++◌, ◌+◌, ◌/◌, ◌<◌}
use Rattle.swp_decode.proofs.Names.{◌^◌, ◌∙◌, ◌∷◌, ◌≡◌, ◌≤◌}
use Rattle.swp_decode.proofs.Numerals.{four_digits, two_digits_of, three_digits_of, four_digits_of, more_digits_of}
use Rattle.swp_decode.proofs.words.+push_digits.Goals as goal

-- the length of a number of five digits or more
length_more : (n : ℕ) → 10000 ≤ n → n < 2 ^ 32 → length (decimal n) ≡ length (decimal (n / 10000)) + 4
length_more n h small = ap length (more_digits_of n h small) ∙ length-append (decimal (n / 10000)) (four_digits (n % 10000))

-- what stands before the last four digits, with these
more_behind : (n : ℕ) (front text : List ℕ) → 10000 ≤ n → n < 2 ^ 32 → text ≡ front ++ decimal (n / 10000)
    → text ++ four_digits (n % 10000) ≡ front ++ decimal n
more_behind n front text h small is =
    ap (λ xs. xs ++ four_digits (n % 10000)) is
    ∙ append_assoc front (decimal (n / 10000)) (four_digits (n % 10000))
    ∙ ap (λ xs. front ++ xs) (sym (more_digits_of n h small))

pub push_digits-requires : goal.push_digits-requires
push_digits-requires t c =
    let more = length_more c.args.n (omega (arith, c.if-n-ge100000.true)) c.ranges.n.fits in
    (omega (arith, c.decreases, c.if-n-ge100000.true), (omega (arith, c.if-n-ge100000.true), omega (arith, more, c.requires.room)))

pub push-requires : goal.push-requires
push-requires t c = (omega arith, omega (arith, (length_more c.args.n c.if-n-ge10000.true c.ranges.n.fits), c.requires.room))

pub push_four_digits-requires-clause-room : goal.push_four_digits-requires-clause-room
push_four_digits-requires-clause-room t c =
    let more = length_more c.args.n (omega (arith, c.if-n-ge100000.true)) c.ranges.n.fits in
    omega (arith, more, ap length c.push_digits.ensures, length-append c.args.text.now.items (decimal (c.args.n / 10000)), c.requires.room)

-- the first digit of five
first_of_five : (n : ℕ) → n < 100000 → decimal (n / 10000) ≡ (48 + n / 10000) ∷ []
first_of_five n small = decimal_digit (n / 10000) (omega (arith, small))

pub push_four_digits-requires-then-n-ge10000-clause-room : goal.push_four_digits-requires-then-n-ge10000-clause-room
push_four_digits-requires-then-n-ge10000-clause-room t c =
    let more = length_more c.args.n c.if-n-ge10000.true c.ranges.n.fits in
    omega (arith, more, ap length (first_of_five c.args.n c.if-n-ge100000.false), c.push.ensures.len, c.requires.room)

pub push_four_digits-requires-then-n-ge1000-clause-room : goal.push_four_digits-requires-then-n-ge1000-clause-room
push_four_digits-requires-then-n-ge1000-clause-room t c =
    omega (arith, ap length (four_digits_of c.args.n c.if-n-ge1000.true c.if-n-ge10000.false), c.requires.room)

pub push_text-requires : goal.push_text-requires
push_text-requires t c = omega (arith, ap length (three_digits_of c.args.n c.if-n-ge100.true c.if-n-ge1000.false), c.requires.room)

pub push_text-requires-else-n-ge100 : goal.push_text-requires-else-n-ge100
push_text-requires-else-n-ge100 t c =
    omega (arith, ap length (two_digits_of c.args.n c.requires.some c.if-n-ge100.false), ap length c.two_digits-else-n-ge100.ensures, c.requires.room)

pub returns-then-n-ge100000 : goal.returns-then-n-ge100000
returns-then-n-ge100000 t c =
    c.push_four_digits.ensures
    ∙ more_behind c.args.n c.args.text.now.items c.push_digits.new.text.items (omega (arith, c.if-n-ge100000.true)) c.ranges.n.fits c.push_digits.ensures

pub returns-then-n-ge10000 : goal.returns-then-n-ge10000
returns-then-n-ge10000 t c =
    c.push_four_digits-then-n-ge10000.ensures
    ∙ more_behind c.args.n c.args.text.now.items c.push.new.self.items c.if-n-ge10000.true c.ranges.n.fits
    (c.push.ensures.items ∙ ap (λ xs. c.args.text.now.items ++ xs) (sym (first_of_five c.args.n c.if-n-ge100000.false)))

pub returns-then-n-ge1000 : goal.returns-then-n-ge1000
returns-then-n-ge1000 t c =
    c.push_four_digits-then-n-ge1000.ensures
    ∙ ap (λ xs. c.args.text.now.items ++ xs) (sym (four_digits_of c.args.n c.if-n-ge1000.true c.if-n-ge10000.false))

pub returns-then-n-ge100 : goal.returns-then-n-ge100
returns-then-n-ge100 t c =
    c.push_text.ensures.items
    ∙ ap (λ xs. c.args.text.now.items ++ (48 + c.args.n / 100) ∷ get_or xs 0 0 ∷ get_or xs 1 0 ∷ []) c.two_digits.ensures
    ∙ ap (λ xs. c.args.text.now.items ++ xs) (sym (three_digits_of c.args.n c.if-n-ge100.true c.if-n-ge1000.false))

pub returns-else-n-ge100 : goal.returns-else-n-ge100
returns-else-n-ge100 t c =
    c.push_text-else-n-ge100.ensures.items
    ∙ ap (λ xs. c.args.text.now.items ++ xs) (c.two_digits-else-n-ge100.ensures ∙ sym (two_digits_of c.args.n c.requires.some c.if-n-ge100.false))
