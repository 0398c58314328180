use Rattle.swp_tool.proofs.Words.{Entry, Halt, Header, IsWorldAt, List, Play, Round, [], ap, append-nil, arith, entry_lines, false, halt_of, lines_played}
use Rattle.swp_tool.proofs.Words.{replicate, rounds_to_rest, subst, sym, told_of_play, true, ℕ, ◌++◌, ◌∙◌, ◌∷◌, ◌≡◌}
use Rattle.swp_tool.specs.declared.replay.Halt.TheVariants as halt
use Rattle.swp_tool.proofs.Playing.{under_own_header}
use Rattle.swp_tool.proofs.RoundLemmas.{all_needed, any_err, err_is, first_needed, line_more, none_gone, none_needed, one_gone, one_needed, rests_so}
use Rattle.swp_tool.proofs.RoundLemmas.{room_for_round, settled_text, stands_then}
use Rattle.swp_tool.proofs.settling.gather.Goals as goal
use Rattle.swp_tool.proofs.settling.gather.Goals.{then-rounds-test+else-not-quiet, else-rounds-test}

pub rounds-init : goal.rounds-init
rounds-init c = record {
  few = omega arith;
  gone = λ header plays stands. none_gone c.args.world.now header plays c.write_step.new.out.items stands;
  need = λ header plays stands. first_needed header plays c.args.most;
}

pub quiet-requires : goal.quiet-requires
quiet-requires c =
    let at =
    stands_then c.args.world.now c.rounds.world c.args.most c.rounds.rounds c.write_step.new.out.items c.rounds.text.items c.requires
    c.rounds.invariant.gone in
    (at.0, at.1.stands)

pub round-requires : goal.round-requires
round-requires c =
    room_for_round c.args.world.now c.rounds.world c.args.most c.rounds.rounds c.write_step.new.out.items c.rounds.text.items c.requires
    c.rounds-test.true c.rounds.invariant.gone

pub rounds-preserved : goal.rounds-preserved
rounds-preserved c =
    let n = c.rounds.rounds in
    let w = c.rounds.world in
    let text : List ℕ = c.rounds.text.items in
    record {
      few = omega (arith, c.rounds-test.true);
      gone = λ header plays stands.
          one_gone w c.round.new.self header plays n c.write_step.new.out.items text c.write_entries.new.out.items
          (c.rounds.invariant.gone header plays stands)
          (λ ps at. subst (λ (h : Header). IsWorldAt c.round.new.self h (ps ++ Round ∷ [])) at.header_is
          (c.in_ok-round.ensures.stands ps (under_own_header w header ps at)))
          (λ ps at. c.in_ok-write_entries.ensures.ok
          ∙ ap (λ (es : List Entry). text ++ entry_lines es)
          (c.entries.ensures ∙ (c.in_ok-round.ensures.entries ps (under_own_header w header ps at)
          ∙ ap (λ (h : Header). told_of_play h (lines_played h ps) Round) at.header_is)));
      need = λ header plays stands.
          one_needed header plays c.args.most n c.rounds-test.true
          (rests_so w header (plays ++ replicate n Round) c.quiet.result false (c.rounds.invariant.gone header plays stands).stands
          c.quiet.ensures c.if-not-quiet.true)
          (c.rounds.invariant.need header plays stands);
    }

pub returns-in_err-write_step-clause-more : goal.returns-in_err-write_step-clause-more
returns-in_err-write_step-clause-more c =
    let old : List ℕ = c.args.text.now.items in
    any_err ((more : List ℕ) × (c.write_step.new.out.items ≡ old ++ more)) c.from_residual.result
    ([], c.in_err-write_step.ensures.err ∙ sym (append-nil old))

pub returns-in_err-round-clause-more : goal.returns-in_err-round-clause-more
returns-in_err-round-clause-more c =
    let old : List ℕ = c.args.text.now.items in
    any_err ((more : List ℕ) × (c.rounds.text.items ≡ old ++ more)) c.from_residual-in_err-round.result
    (line_more c.args.world.now c.rounds.world c.args.most c.rounds.rounds old c.write_step.new.out.items c.rounds.text.items c.requires
    c.in_ok-write_step.ensures.ok c.rounds.invariant.gone)

pub returns-in_err-round-clause-halts : goal.returns-in_err-round-clause-halts
returns-in_err-round-clause-halts c =
    err_is (λ (why : Halt). why ≡ halt.NoMemory) c.from_residual-in_err-round.result (halt_of c.in_err-round.field-0.0)
    c.from_residual-in_err-round.ensures.1 (ap halt_of c.in_err-round.ensures.fault)

pub returns-in_err-write_entries-clause-more : goal.returns-in_err-write_entries-clause-more
returns-in_err-write_entries-clause-more c =
    let old : List ℕ = c.args.text.now.items in
    let more =
    line_more c.args.world.now c.rounds.world c.args.most c.rounds.rounds old c.write_step.new.out.items c.rounds.text.items c.requires
    c.in_ok-write_step.ensures.ok c.rounds.invariant.gone in
    any_err ((more : List ℕ) × (c.write_entries.new.out.items ≡ old ++ more)) c.from_residual-in_err-write_entries.result
    (more.0, c.in_err-write_entries.ensures.err ∙ more.1)

pub returns-in_err-write_entries-2-clause-more : goal.returns-in_err-write_entries-2-clause-more
returns-in_err-write_entries-2-clause-more c =
    let old : List ℕ = c.args.text.now.items in
    let more =
    line_more c.args.world.now c.rounds.world c.args.most c.rounds.rounds old c.write_step.new.out.items c.rounds.text.items c.requires
    c.in_ok-write_step.ensures.ok c.rounds.invariant.gone in
    any_err ((more : List ℕ) × (c.write_entries-2.new.out.items ≡ old ++ more)) c.from_residual-in_err-write_entries-2.result
    (more.0, c.in_err-write_entries-2.ensures.err ∙ more.1)

-- as many rounds were played as all links needed, or as there may be
needed : (c : goal.After-array_drop-2) (header : Header) (plays : List Play) → IsWorldAt c.args.world.now header plays
    → c.rounds.rounds ≡ rounds_to_rest header plays c.args.most
needed c header plays stands =
    let n = c.rounds.rounds in
    let most = c.args.most in
    let inv = c.rounds.invariant in
    let need = inv.need header plays stands in
    elim c.rounds-test.branch [
      | then-rounds-test+else-not-quiet w ↦
          none_needed header plays most n w.rounds-test.true
          (rests_so c.rounds.world header (plays ++ replicate n Round) w.quiet.result true (inv.gone header plays stands).stands w.quiet.ensures
          w.if-not-quiet.false) need
      | else-rounds-test w ↦
          (let few = inv.few in
          let all : n ≡ most = omega (arith, w.rounds-test.false, few) in
          all ∙ all_needed header plays most n all need)
    ]

pub returns-clause-stands : goal.returns-clause-stands
returns-clause-stands c header plays stands =
    subst (λ (n : ℕ). IsWorldAt c.rounds.world header (plays ++ replicate n Round)) (needed c header plays stands)
    (c.rounds.invariant.gone header plays stands).stands

pub returns-clause-told : goal.returns-clause-told
returns-clause-told c header plays stands =
    settled_text header plays c.args.most c.rounds.rounds c.args.text.now.items c.write_step.new.out.items c.rounds.text.items
    c.write_entries-2.new.out.items (needed c header plays stands) c.in_ok-write_step.ensures.ok
    (c.rounds.invariant.gone header plays stands).text_is c.in_ok-write_entries-2.ensures.ok
