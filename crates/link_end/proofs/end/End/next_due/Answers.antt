use Rattle.link_end.proofs.Words.{Bool, Control, End, EndStandsFor, EndState, HasNumbers, IfSome, LinkEnd, List, Ok, Option, PoolState, ShdlcStandsFor, Some}
use Rattle.link_end.proofs.Words.{[], ap, behind_front, control_of, eqb-true, frame_due, frame_fetched, front_act, kept_nearer, length, lpdu_of, map}
use Rattle.link_end.proofs.Words.{next_frame, nil_from_length, option_map, subst, sym, true, ℕ, ◌==◌, ◌∙◌, ◌≡◌}
use Rattle.shdlc_core.specs.Kept.{frame_shown}
use Rattle.link_end.proofs.FormLemmas.{next_numbers}
use Rattle.link_end.proofs.NodeLemmas.{act_sent, link_fetched, link_frame}
use Rattle.link_end.proofs.«end».End.next_due.Goals as goal
use Rattle.link_end.proofs.«end».End.next_due.Goals.{in-Some-next_act, in-None+in_ok-control-in-None}

-- a frame is read again as it was made
abbrev IsReadAgain : Option Control → Type 0
IsReadAgain o = IfSome o (λ c. control_of (lpdu_of c) ≡ Ok c)

-- ## A fragment is next

-- where no control frame waits, what the SHDLC end is to send next is the next frame of the end
next_is : {pool : PoolState} {k : End} {m : LinkEnd} {o : Option Control} {none : Bool} → EndStandsFor k pool m
    → none ≡ (length k.acts.items == 0) → none ≡ true → k.shdlc.due ≡ []
    → ((e : EndState) → ShdlcStandsFor k.shdlc e → k.shdlc.due ≡ [] → o ≡ frame_due e) → o ≡ next_frame m
next_is {k = k} h is none due frame =
    link_frame h (sym (ap front_act (nil_from_length k.acts.items (eqb-true _ 0 (sym is ∙ none))))) (λ e stands. frame e stands due)

pub write_fragment-lpdu-requires-clause-ns : goal.write_fragment-lpdu-requires-clause-ns
write_fragment-lpdu-requires-clause-ns c =
    let next = next_is c.requires.1 c.is_empty.ensures c.if-is_empty.true c.in-Some.ensures.due.due c.fragment_due.ensures.frame in
    (next_numbers c.requires.0 (frame_shown c.in-Some.field-0) (sym next ∙ ap (option_map frame_shown) c.in-Some.is)).0

pub write_fragment-lpdu-requires-clause-nr : goal.write_fragment-lpdu-requires-clause-nr
write_fragment-lpdu-requires-clause-nr c =
    let next = next_is c.requires.1 c.is_empty.ensures c.if-is_empty.true c.in-Some.ensures.due.due c.fragment_due.ensures.frame in
    (next_numbers c.requires.0 (frame_shown c.in-Some.field-0) (sym next ∙ ap (option_map frame_shown) c.in-Some.is)).1

pub returns-in-Some-clause-stands : goal.returns-in-Some-clause-stands
returns-in-Some-clause-stands c m h =
    let none : c.args.self.now.acts.items ≡ [] =
    nil_from_length c.args.self.now.acts.items (eqb-true _ 0 (sym c.is_empty.ensures ∙ c.if-is_empty.true)) in
    link_fetched h (record {
      front = sym (ap front_act none);
      nearer = none ∙ sym (ap (λ acts. map kept_nearer (behind_front acts)) none);
      stands = c.count_fragment.ensures.stands;
    })

pub returns-in-Some-clause-answer : goal.returns-in-Some-clause-answer
returns-in-Some-clause-answer c m h =
    let next = next_is h c.is_empty.ensures c.if-is_empty.true c.in-Some.ensures.due.due c.fragment_due.ensures.frame in
    ap (λ (l : List ℕ). Some l) c.write_fragment-lpdu.ensures.bytes
    ∙ ap (option_map lpdu_of) (sym (ap (option_map frame_shown) c.in-Some.is) ∙ next)

pub returns-in-Some-clause-read : goal.returns-in-Some-clause-read
returns-in-Some-clause-read c m h =
    let next = next_is h c.is_empty.ensures c.if-is_empty.true c.in-Some.ensures.due.due c.fragment_due.ensures.frame in
    subst IsReadAgain (sym (ap (option_map frame_shown) c.in-Some.is) ∙ next)
    (ap control_of (sym c.write_fragment-lpdu.ensures.bytes) ∙ c.write_fragment-lpdu.ensures.read_again)

-- ## No frame is next

pub returns-in_err-control-in-None-clause-stands : goal.returns-in_err-control-in-None-clause-stands
returns-in_err-control-in-None-clause-stands c m h =
    let a = c.in-None.ensures in
    link_fetched h (record { front = a.act; nearer = a.nearer; stands = c.next_out.ensures.stands })

pub returns-in_err-control-in-None-clause-answer : goal.returns-in_err-control-in-None-clause-answer
returns-in_err-control-in-None-clause-answer c m h =
    c.from_residual.ensures ∙ ap (option_map lpdu_of) (sym c.in_err-control-in-None.was ∙ link_frame h c.in-None.ensures.act c.next_out.ensures.frame)

pub returns-in_err-control-in-None-clause-read : goal.returns-in_err-control-in-None-clause-read
returns-in_err-control-in-None-clause-read c m h =
    subst IsReadAgain (sym c.in_err-control-in-None.was ∙ link_frame h c.in-None.ensures.act c.next_out.ensures.frame) tt

-- ## A control frame is next

-- which one, and the end once it was fetched
next : (c : goal.After-write_lpdu) (m : LinkEnd) → EndStandsFor c.args.self.now c.args.pool.now m
    → (Some c.match-next_act.control ≡ next_frame m) × EndStandsFor c.match-next_act.self c.args.pool.now (frame_fetched m)
next c m h =
    let stands : End → Type 0 = λ k. EndStandsFor k c.args.pool.now (frame_fetched m) in
    elim c.match-next_act.branch [
      | in-Some-next_act w ↦
          let a = w.in-Some-next_act.ensures in
          let sent = act_sent c.args.pool.now c.args.self.now c.next_act.new.acts m w.in-Some-next_act.act h a.act a.sent in
          (ap (λ (x : Control). Some x) w.control-is ∙ sent.0, subst stands (sym w.self-is) sent.1)
      | in-None+in_ok-control-in-None w ↦
          let a = w.in-None.ensures in (
            ap (λ (x : Control). Some x) w.control-is ∙ (sym w.in_ok-control-in-None.was ∙ link_frame h a.act w.next_out.ensures.frame),
            subst stands (sym w.self-is) (link_fetched h (record { front = a.act; nearer = a.nearer; stands = w.next_out.ensures.stands })),
          )
    ]

pub write_lpdu-requires : goal.write_lpdu-requires
write_lpdu-requires c =
    elim c.match-next_act.branch [
      | in-Some-next_act w ↦ subst HasNumbers (sym w.control-is) tt
      | in-None+in_ok-control-in-None w ↦
          let frame = link_frame c.requires.1 w.in-None.ensures.act w.next_out.ensures.frame in
          subst HasNumbers (sym w.control-is) (next_numbers c.requires.0 _ (sym frame ∙ w.in_ok-control-in-None.was))
    ]

pub returns-clause-stands : goal.returns-clause-stands
returns-clause-stands c m h = (next c m h).1

pub returns-clause-answer : goal.returns-clause-answer
returns-clause-answer c m h = ap (λ (l : List ℕ). Some l) c.write_lpdu.ensures.bytes ∙ ap (option_map lpdu_of) (next c m h).0

pub returns-clause-read : goal.returns-clause-read
returns-clause-read c m h = subst IsReadAgain (next c m h).0 (ap control_of (sym c.write_lpdu.ensures.bytes) ∙ c.write_lpdu.ensures.read_again)
