use Rattle.tables_laws.proofs.Words.{None, Some, ap, cond-true, eqb, joins_host, not, not_from_false, option_and_then, pid_of, static_place, ℕ, ◌∙◌}
use Rattle.tables_laws.proofs.tables.LookUps.{row_of-filter, if_passes}
use Rattle.tables_laws.proofs.tables_changed.clearing_leaves_the_others.Goals as goal

pub returns-clause-pipes : goal.returns-clause-pipes
returns-clause-pipes c = λ t host pid row are is stranger.
    row_of-filter pid_of 2 112 (λ r. not (joins_host r host)) pid t.rows are.rows
    ∙ (ap (option_and_then (if_passes (λ r. not (joins_host r host)))) is
    ∙ cond-true (not (joins_host row host)) (Some row) None (not_from_false (joins_host row host) stranger))

pub returns-clause-statics : goal.returns-clause-statics
returns-clause-statics c = λ t host static are is stranger.
    row_of-filter static_place 0 16 (λ (s : ℕ × ℕ). not (eqb s.0 host)) (static_place static) t.statics are.statics
    ∙ (ap (option_and_then (if_passes (λ (s : ℕ × ℕ). not (eqb s.0 host)))) is
    ∙ cond-true (not (eqb static.0 host)) (Some static) None (not_from_false (eqb static.0 host) stranger))
