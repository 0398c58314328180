-- One word that fits its kind.
use Rattle.schedule_text.proofs.Names.{List, Some, [], arith, drop, end_value, length, sym, take, words, ℕ, ◌-◌, ◌∙◌, ◌∷◌, ◌≡◌}
use Rattle.schedule_text.proofs.AtOnceLemmas.{end_alone, delivers, loses, resets, readies}
use Rattle.schedule_text.proofs.at_once.end_at_once.Goals.{Then-knows}
use Rattle.schedule_text.proofs.at_once.end_at_once.Goals as goal

abbrev word : Then-knows → List ℕ
word c = take (length c.args.rest.now - 1) (drop 1 c.args.rest.now)

is_end : (c : Then-knows) → end_value (word c) ≡ Some c.in_ok-at.at
is_end c = sym c.end_of.ensures ∙ c.in_ok-at.was

alone : (c : Then-knows) → words c.args.rest.now ≡ word c ∷ []
alone c = end_alone c.args.rest.now c.in_ok-at.at (omega arith) (omega arith) (is_end c)

pub returns-then-knows-clause-deliver : goal.returns-then-knows-clause-deliver
returns-then-knows-clause-deliver c =
    delivers c.args.header.now (words c.args.rest.now) (word c) (alone c) (c.in_ok-at.at, is_end c, sym c.knows.ensures ∙ c.if-knows.true)

pub returns-then-knows-clause-lose : goal.returns-then-knows-clause-lose
returns-then-knows-clause-lose c =
    loses c.args.header.now (words c.args.rest.now) (word c) (alone c) (c.in_ok-at.at, is_end c, sym c.knows.ensures ∙ c.if-knows.true)

pub returns-then-knows-clause-reset : goal.returns-then-knows-clause-reset
returns-then-knows-clause-reset c =
    resets c.args.header.now (words c.args.rest.now) (word c) (alone c) (c.in_ok-at.at, is_end c, sym c.knows.ensures ∙ c.if-knows.true)

pub returns-then-knows-clause-busy : goal.returns-then-knows-clause-busy
returns-then-knows-clause-busy c bare =
    let h0 = (words c.args.rest.now) in let h1 = (word c) in let h2 = (alone c) in grind arith

pub returns-then-knows-clause-ready : goal.returns-then-knows-clause-ready
returns-then-knows-clause-ready c bare =
    readies c.args.header.now (words c.args.rest.now) (word c) (alone c) bare (c.in_ok-at.at, is_end c, sym c.knows.ensures ∙ c.if-knows.true)
