use Rattle.std.proofs.Common.{◌≡◌, ℕ, List, [], ◌∷◌, ◌++◌, refl, sym, ◌∙◌, subst, arith}
use Rattle.worked_nodes.proofs.Fetching.{IsSendingTo, sending_begins, sending_goes_on, sending_ends, sending_done, none_is_left, all_went}
use Rattle.worked_nodes.proofs.Fetching.{handed_none, handed_then, handed_as}
use Rattle.worked_nodes.proofs.library.send_to.Goals as goal

pub loop-init : goal.loop-init
loop-init g c = ((λ core ports r. ([], sending_begins c.args.host r, handed_none _ _)), refl)

pub next_out-requires : goal.next_out-requires
next_out-requires g c =
    let s = (c.loop.invariant.0 c.requires.runs.0 c.requires.runs.1 c.requires.runs.2).1 in
    record { runs = (c.requires.runs.0, s.there, s.runs) }

pub loop-preserved : goal.loop-preserved
loop-preserved g c = (
  (λ core ports r.
      let i = c.loop.invariant.0 core ports r in
      let s = i.1 in (
        i.0 ++ (c.args.host, c.in-Some.lpdu) ∷ [],
        sending_goes_on s (sym c.in-Some.is ∙ c.next_out.ensures.answer core s.there s.runs) (c.next_out.ensures.runs core s.there s.runs)
            (omega (arith, c.loop-test.true)),
        handed_then i.0 _ i.2 c.send.ensures,
      )),
  c.next_out.ensures.store ∙ c.loop.invariant.1,
)

pub returns-in_default : goal.returns-in_default
returns-in_default g c =
    let e = c.next_out.ensures in
    record {
      sent = λ core ports r.
          let s = (c.loop.invariant.0 core ports r).1 in
          sending_ends s (sym c.in_default.is ∙ e.answer core s.there s.runs) (e.runs core s.there s.runs);
      handed = λ core ports r.
          let i = c.loop.invariant.0 core ports r in
          let s = i.1 in
          handed_as (all_went s (sym (sym c.in_default.is ∙ e.answer core s.there s.runs))) i.2;
      store = e.store ∙ c.loop.invariant.1;
    }

pub returns : goal.returns
returns g c =
    let nine : c.loop.counter ≡ 9 = omega (arith, c.loop-test.false, c.loop.auto.counter-end) in
    record {
      sent = λ core ports r.
          let i = c.loop.invariant.0 core ports r in
          let P : ℕ → Type 0 = λ k. IsSendingTo c.loop.controller core c.args.host ports k i.0 in
          sending_done (subst P nine i.1);
      handed = λ core ports r.
          let i = c.loop.invariant.0 core ports r in
          let P : ℕ → Type 0 = λ k. IsSendingTo c.loop.controller core c.args.host ports k i.0 in
          let s = subst P nine i.1 in
          handed_as (all_went s (none_is_left s)) i.2;
      store = c.loop.invariant.1;
    }
