use Rattle.link_end.proofs.Words.{Control, EndStandsFor, IfSome, LinkEnd, None, Ok, Option, ShdlcStandsFor, [], ap, behind_front, control_of, eqb-true}
use Rattle.link_end.proofs.Words.{frame_fetched, front_act, kept_nearer, lpdu_of, map, next_frame, nil_from_length, option_map, subst, sym, ◌∙◌, ◌≡◌}
use Rattle.link_end.proofs.NodeLemmas.{link_frame, link_fetched}
use Rattle.link_end.proofs.«end».End.next_out.Goals as goal

-- nothing is due, and a fetch changes nothing
none_due : (c : goal.Then-has_none_due) (m : LinkEnd) → EndStandsFor c.args.self.now c.args.pool.now m
    → (None ≡ next_frame m) × EndStandsFor c.args.self.now c.args.pool.now (frame_fetched m)
none_due c m h =
    let k = c.args.self.now in
    let none : k.acts.items ≡ [] = nil_from_length k.acts.items (eqb-true _ 0 (sym c.is_empty.ensures ∙ c.if-is_empty.true)) in
    let front = sym (ap front_act none) in (
      link_frame h front (λ e stands. sym (c.has_none_due.ensures e stands c.if-has_none_due.true).0),
      link_fetched h (record {
        front = front;
        nearer = none ∙ sym (ap (λ acts. map kept_nearer (behind_front acts)) none);
        stands = λ e stands. subst (ShdlcStandsFor k.shdlc) (sym (c.has_none_due.ensures e stands c.if-has_none_due.true).1) stands;
      }),
    )

pub returns-then-has_none_due-clause-stands : goal.returns-then-has_none_due-clause-stands
returns-then-has_none_due-clause-stands c m h = (none_due c m h).1

pub returns-then-has_none_due-clause-answer : goal.returns-then-has_none_due-clause-answer
returns-then-has_none_due-clause-answer c m h = ap (option_map lpdu_of) (none_due c m h).0

-- a frame is read again as it was made
abbrev IsReadAgain : Option Control → Type 0
IsReadAgain o = IfSome o (λ c. control_of (lpdu_of c) ≡ Ok c)

pub returns-then-has_none_due-clause-read : goal.returns-then-has_none_due-clause-read
returns-then-has_none_due-clause-read c m h = subst IsReadAgain (none_due c m h).0 tt
