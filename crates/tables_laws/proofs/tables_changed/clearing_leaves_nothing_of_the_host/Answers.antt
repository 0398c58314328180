use Rattle.tables_laws.proofs.Words.{cond-true, default_of, eq-eqb, eqb, joins_host, not, refl, value_at, ◌∙◌}
use Rattle.tables_laws.proofs.tables.LookUps.{all-filter}
use Rattle.tables_laws.proofs.tables.Values.{value_at-without_host, kept_param}
use Rattle.tables_laws.proofs.tables_changed.clearing_leaves_nothing_of_the_host.Goals as goal

pub returns-clause-pipes : goal.returns-clause-pipes
returns-clause-pipes c = λ t host. all-filter (λ row. not (joins_host row host)) t.rows

pub returns-clause-statics : goal.returns-clause-statics
returns-clause-statics c = λ t host. all-filter (λ static. not (eqb static.0 host)) t.statics

pub returns-clause-values : goal.returns-clause-values
returns-clause-values c = λ t host param are kept.
    value_at-without_host t.values host host param (kept_param host 0 param kept) are.values
    ∙ cond-true (eqb host host) (default_of param) (value_at t.values host 0 param) (eq-eqb host host refl)
