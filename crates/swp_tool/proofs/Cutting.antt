-- Cutting a stream of bytes into lines.
use Rattle.std.proofs.Common.{◌≡◌, ℕ, ◌+◌, ◌-◌, ◌<◌, Bool, true, false, cond, eqb, List, [], ◌∷◌, ◌++◌, length, map, take, drop, get_or, suc, refl, sym, ap}
use Rattle.std.proofs.Common.{◌∙◌, append_assoc, arith, length-append, length-take, Some, None, position}
use Rattle.std.specs.List.{flat_map, slice_split, onto_first}
use Rattle.std.specs.Str.Lines.{lines, lines_of_parts, strip_carriage_return}
use Rattle.std.proofs.lemmas.List.{take_more, take-append-drop, get_or-take}
use Rattle.std.proofs.lemmas.Bool.{eqb-true, ltb-false}
use Rattle.std.proofs.lemmas.List.Sums.{fails_before_first}
use Rattle.std.proofs.lemmas.List.Quantifiers.{position-Some}
use Rattle.std.proofs.lemmas.List.Splits.{slice_split_at, slice_split_none}
use Rattle.std.proofs.lemmas.List.Elements.{All-append}
use Rattle.std.proofs.lemmas.Grind.{common_steps}
use Rattle.swp_tool.specs.Pieces.{LacksLineFeed, ended_line, AllLackLineFeed}
use Rattle.schedule_text.proofs.WordsLemmas.{none_test}

-- cutting gives one part at least
split_some : (bytes : List ℕ) → (first : List ℕ) × (more : List (List ℕ)) × (slice_split (λ b. eqb b 10) bytes ≡ first ∷ more)
split_some [] = ([], [], refl)
split_some (b ∷ bytes) =
    let rest = split_some bytes in
    by_case (eqb b 10) rest
  where
    by_case : (t : Bool) → (first : List ℕ) × (more : List (List ℕ)) × (slice_split (λ c. eqb c 10) bytes ≡ first ∷ more)
        → (first : List ℕ) × (more : List (List ℕ))
        × (cond t ([] ∷ slice_split (λ c. eqb c 10) bytes) (onto_first b (slice_split (λ c. eqb c 10) bytes)) ≡ first ∷ more)
    by_case true rest = ([], slice_split (λ c. eqb c 10) bytes, refl)
    by_case false rest = (b ∷ rest.0, rest.1, ap (onto_first b) rest.2)

-- the first line of bytes that begin with an ended one
pub lines-ended : (line rest : List ℕ) → LacksLineFeed line → lines (line ++ 10 ∷ rest) ≡ strip_carriage_return line ∷ lines rest
lines-ended line rest lacks =
    let more = split_some rest in
    ap lines_of_parts (slice_split_at (λ b. eqb b 10) line 10 rest lacks refl)
    ∙ (grind arith)

-- the lines of bytes that begin with ended ones
pub lines-all_ended : (whole : List (List ℕ)) (rest : List ℕ) → AllLackLineFeed whole
    → lines (flat_map ended_line whole ++ rest) ≡ map strip_carriage_return whole ++ lines rest
lines-all_ended [] rest lack = refl
lines-all_ended (line ∷ whole) rest lack =
    ap lines (append_assoc (ended_line line) (flat_map ended_line whole) rest ∙ append_assoc line (10 ∷ []) (flat_map ended_line whole ++ rest))
    ∙ (lines-ended line (flat_map ended_line whole ++ rest) lack.0
    ∙ ap (λ ls. strip_carriage_return line ∷ ls) (lines-all_ended whole rest lack.1))

-- what begins without an LF is the front of the first part
split-lacks : (x rest f : List ℕ) (m : List (List ℕ)) → LacksLineFeed x → slice_split (λ b. eqb b 10) rest ≡ f ∷ m
    → slice_split (λ b. eqb b 10) (x ++ rest) ≡ (x ++ f) ∷ m
split-lacks [] rest f m lacks is = is
split-lacks (b ∷ x) rest f m lacks is =
    let first : eqb b 10 ≡ false = lacks 0 b (omega arith) in
    let later : LacksLineFeed x = λ k d within. lacks (suc k) d (omega arith) in
    ap (λ t. cond t ([] ∷ slice_split (λ c. eqb c 10) (x ++ rest)) (onto_first b (slice_split (λ c. eqb c 10) (x ++ rest)))) first
    ∙ ap (onto_first b) (split-lacks x rest f m later is)

-- a line, and what lines stand behind it
pub record FirstLine (bytes : List ℕ) (P : List ℕ → Type 0) : Type 0 where
  pub line : List ℕ
  pub more : List (List ℕ)
  pub lines_are : lines bytes ≡ line ∷ more
  pub holds : P line

strip_long : (l : List ℕ) (n : ℕ) → n + 1 < length l → n < length (strip_carriage_return l)
strip_long l n long = go (eqb (get_or l (length l - 1) 0) 13)
  where
    go : (b : Bool) → n < length (cond b (take (length l - 1) l) l)
    go true = omega (arith, length-take (length l - 1) l)
    go false = omega arith

long_first : (bytes g : List ℕ) (m : List (List ℕ)) (n : ℕ) → n + 1 < length g → slice_split (λ b. eqb b 10) bytes ≡ g ∷ m
    → FirstLine bytes (λ line. n < length line)
long_first bytes g [] n long is = grind arith
long_first bytes g (y ∷ ys) n long is =
    record { line = strip_carriage_return g; more = lines_of_parts (y ∷ ys); lines_are = ap lines_of_parts is; holds = strip_long g n long }

-- bytes that begin with many and no LF have a long first line
pub long_line : (x rest : List ℕ) (n : ℕ) → LacksLineFeed x → n + 1 < length x → FirstLine (x ++ rest) (λ line. n < length line)
long_line x rest n lacks long =
    let parts = split_some rest in
    long_first (x ++ rest) (x ++ parts.0) parts.1 n (omega (arith, length-append x parts.0)) (split-lacks x rest parts.0 parts.1 lacks parts.2)

-- where a byte stands there is a line
pub some_line : (b : ℕ) (rest : List ℕ) → FirstLine (b ∷ rest) (λ line. Unit {0})
some_line b rest =
    let parts = split_some rest in
    by_byte (eqb b 10) refl parts.0 parts.1 parts.2
  where
    split_is : (t : Bool) → eqb b 10 ≡ t
        → slice_split (λ c. eqb c 10) (b ∷ rest) ≡ cond t ([] ∷ slice_split (λ c. eqb c 10) rest) (onto_first b (slice_split (λ c. eqb c 10) rest))
    split_is t is = ap (λ u. cond u ([] ∷ slice_split (λ c. eqb c 10) rest) (onto_first b (slice_split (λ c. eqb c 10) rest))) is

    by_byte : (t : Bool) → eqb b 10 ≡ t → (f : List ℕ) (m : List (List ℕ)) → slice_split (λ c. eqb c 10) rest ≡ f ∷ m → FirstLine (b ∷ rest) (λ line. Unit {0})
    by_byte true is f m parts =
        record {
          line = strip_carriage_return [];
          more = lines_of_parts (f ∷ m);
          lines_are =
              ap lines_of_parts (split_is true is ∙ ap (λ p. [] ∷ p) parts);
          holds = tt;
        }
    by_byte false is f [] parts =
        let some : eqb (length (b ∷ f)) 0 ≡ false = grind (arith, common_steps) in
        record {
          line = b ∷ f;
          more = [];
          lines_are = grind arith;
          holds = tt;
        }
    by_byte false is f (y ∷ ys) parts =
        record {
          line = strip_carriage_return (b ∷ f);
          more = lines_of_parts (y ∷ ys);
          lines_are =
              ap lines_of_parts (split_is false is ∙ ap (onto_first b) parts);
          holds = tt;
        }

-- a line that no LF has ended
pub lines-lacks : (x : List ℕ) → LacksLineFeed x → 0 < length x → lines x ≡ x ∷ []
lines-lacks x lacks long =
    let some : eqb (length x) 0 ≡ false = grind (arith, common_steps) in
    ap lines_of_parts (slice_split_none (λ b. eqb b 10) x lacks) ∙ ap (λ b. cond b [] (x ∷ [])) some

-- more bytes of which none is an LF
pub lacks_append : (x more : List ℕ) → LacksLineFeed x → LacksLineFeed more → LacksLineFeed (x ++ more)
lacks_append x more = All-append (λ b. eqb b 10 ≡ false) x more

-- where no LF is found there is none
pub lacks_all : (bytes : List ℕ) → position (λ b. eqb b 10) bytes ≡ None → LacksLineFeed bytes
lacks_all bytes h =
    let far = ltb-false _ _ (none_test _ _ h) in
    λ k d within. fails_before_first (λ b. eqb b 10) bytes k d (omega (arith, far))

-- bytes are cut at the first LF
pub cut_at : (bytes : List ℕ) (end : ℕ) → position (λ b. eqb b 10) bytes ≡ Some end
    → (bytes ≡ ended_line (take end bytes) ++ drop (end + 1) bytes) × LacksLineFeed (take end bytes) × (end < length bytes)
cut_at bytes end h =
    let at = position-Some (λ b. eqb b 10) bytes end 0 h in
    let lf : get_or bytes end 0 ≡ 10 = eqb-true (get_or bytes end 0) 10 at.1 in
    let front : take (end + 1) bytes ≡ ended_line (take end bytes) = take_more bytes end 0 at.0 ∙ ap (λ b. take end bytes ++ b ∷ []) lf in (
      sym (ap (λ l. l ++ drop (end + 1) bytes) (sym front) ∙ take-append-drop (end + 1) bytes),
      λ k d within.
          let short : k < end = omega (arith, within, length-take end bytes) in
          let before = (position-Some (λ b. eqb b 10) bytes end d h).2 k short in
          ap (λ b. eqb b 10) (get_or-take end bytes k d short) ∙ before,
      at.0,
    )

-- ## Pieces

-- what was read before a line, the line and what follows it
pub whole_line : (bytes front line more left piece : List ℕ) → front ++ left ≡ piece → left ≡ line ++ more → ((bytes ++ front) ++ line) ++ more ≡ bytes ++ piece
whole_line bytes front line more left piece whole cut =
    append_assoc (bytes ++ front) line more ∙ append_assoc bytes front (line ++ more) ∙ ap (λ l. bytes ++ l) (ap (λ l. front ++ l) (sym cut) ∙ whole)
