use Rattle.std.proofs.Common.{refl, [], ◌++◌, ◌∙◌, ap, map, filter, sym, append-nil}
use Rattle.swp_frame.specs.Signal.{symbol_of}
use Rattle.swp_frame.specs.Stuffing.{end_of_frame}
use Rattle.swp_frame.specs.Verdicts.{answers_after, is_verdict}
use Rattle.frame_laws.proofs.Whole.{started, spelled_is_judged}
use Rattle.frame_laws.proofs.spelled_frame_is_judged.Goals as goal

pub returns-clause-apart : goal.returns-clause-apart
unfolding started
returns-clause-apart c seen spelling content spells =
    ap (λ xs. filter is_verdict (answers_after (started seen) xs)) (sym (append-nil (map symbol_of (spelling ++ end_of_frame))))
    ∙ spelled_is_judged seen spelling content [] spells

pub returns-clause-shared : goal.returns-clause-shared
returns-clause-shared c seen = refl
