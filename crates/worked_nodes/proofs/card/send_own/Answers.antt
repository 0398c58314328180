use Rattle.worked_nodes.proofs.Words.{List, RunsAs, [], ap, arith, frame_at, has_sent, port_at, refl, subst, sym, with_port, ℕ, ◌++◌, ◌+◌, ◌∙◌, ◌∷◌, ◌≡◌}
use Rattle.worked_nodes.proofs.Fetching.{IsSendingTo, sending_begins, sending_goes_on, sending_ends, sending_done, may_step_alone, none_is_left, all_went}
use Rattle.worked_nodes.proofs.Fetching.{handed_none, handed_then, handed_as}
use Rattle.worked_nodes.proofs.card.send_own.Goals as goal

pub loop-init : goal.loop-init
loop-init g c = ((λ core ports r. ([], sending_begins c.args.number r, handed_none _ _)), refl)

pub next_out-requires : goal.next_out-requires
next_out-requires g c =
    let s = (c.loop.invariant.0 c.requires.runs.0 c.requires.runs.1 c.requires.runs.2).1 in record { runs = (c.requires.runs.0, s.there, s.runs) }

pub loop-preserved : goal.loop-preserved
loop-preserved g c =
    let e = c.next_out.ensures in
    let own = c.loop.invariant.1 ∙ c.requires.number in (
      λ core ports r.
          let i = c.loop.invariant.0 core ports r in
          let s = i.1 in (
            i.0 ++ (c.args.number, c.in-Some.lpdu) ∷ [],
            sending_goes_on s (sym c.in-Some.is ∙ (e.answer core s.there s.runs ∙ ap (λ h. frame_at (port_at s.there h)) own))
                (let P : ℕ → Type 0 = λ h. RunsAs c.next_out.new.self core (with_port h has_sent s.there) in subst P own (e.runs core s.there s.runs))
                (omega (arith, c.loop-test.true)),
            handed_then i.0 _ i.2 c.send.ensures,
          ),
      e.number ∙ c.loop.invariant.1,
    )

pub returns-in_default : goal.returns-in_default
returns-in_default g c =
    let e = c.next_out.ensures in
    let own = c.loop.invariant.1 ∙ c.requires.number in
    let i = c.loop.invariant.0 c.requires.runs.0 c.requires.runs.1 c.requires.runs.2 in
    let s = i.1 in
    let P : ℕ → Type 0 = λ h. RunsAs c.next_out.new.self c.requires.runs.0 (with_port h has_sent s.there) in
    record {
      may = may_step_alone
          (sending_ends s (sym c.in_default.is ∙ (e.answer _ s.there s.runs ∙ ap (λ h. frame_at (port_at s.there h)) own))
          (subst P own (e.runs _ s.there s.runs)))
          (e.number ∙ own) c.requires.low;
      handed = λ core ports r.
          let j = c.loop.invariant.0 core ports r in
          let t = j.1 in
          handed_as (all_went t (sym (sym c.in_default.is ∙ (e.answer core t.there t.runs ∙ ap (λ h. frame_at (port_at t.there h)) own)))) j.2;
      number = e.number ∙ c.loop.invariant.1;
    }

pub returns : goal.returns
returns g c =
    let nine : c.loop.counter ≡ 9 = omega (arith, c.loop-test.false, c.loop.auto.counter-end) in
    let own = c.loop.invariant.1 ∙ c.requires.number in
    let i = c.loop.invariant.0 c.requires.runs.0 c.requires.runs.1 c.requires.runs.2 in
    let P : ℕ → Type 0 = λ k. IsSendingTo c.loop.host c.requires.runs.0 c.args.number c.requires.runs.1 k i.0 in
    record {
      may = may_step_alone (sending_done (subst P nine i.1)) own c.requires.low;
      handed = λ core ports r.
          let j = c.loop.invariant.0 core ports r in
          let Q : ℕ → Type 0 = λ k. IsSendingTo c.loop.host core c.args.number ports k j.0 in
          let t = subst Q nine j.1 in
          handed_as (all_went t (none_is_left t)) j.2;
      number = c.loop.invariant.1;
    }
