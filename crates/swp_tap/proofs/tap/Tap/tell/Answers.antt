use Rattle.std.proofs.Common.{ap, sym, ◌∙◌, ◌++◌}
use Rattle.tap_reading.specs.Lpdus.{tapped_lpdus}
use Rattle.swp_tap.proofs.Hearing.{stands_on, reports_on}
use Rattle.swp_tap.proofs.tap.Tap.tell.Goals as goal

pub returns-clause-stands : goal.returns-clause-stands
returns-clause-stands c lpdus h =
    stands_on c.args.self.now c.hear.new.self c.args.from_clf c.args.lpdu.now c.hear.ensures.bare c.hear.ensures.taken c.hear.ensures.kept lpdus h

pub returns-clause-reports : goal.returns-clause-reports
returns-clause-reports c lpdus h =
    reports_on c.args.self.now c.args.from_clf c.args.lpdu.now lpdus h
    ∙ ap (λ z. tapped_lpdus c.args.self.now.bare lpdus ++ z) (sym c.hear.ensures.reports)
