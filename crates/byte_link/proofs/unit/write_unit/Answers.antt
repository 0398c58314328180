use Rattle.std.proofs.Common.{ap, subst, ◌∙◌}
use Rattle.swp_base.specs.DataUnits.{IsLpdu}
use Rattle.byte_link.specs.Units.{unit_of}
use Rattle.byte_link.specs.Reading.{units}
use Rattle.byte_link.proofs.ReadAgain.{read_again}
use Rattle.byte_link.proofs.unit.write_unit.Goals as goal

pub returns-clause-read_again : goal.returns-clause-read_again
returns-clause-read_again c =
    ap units (c.spelled_unit.ensures ∙ ap unit_of c.bytes.ensures.value) ∙ read_again c.args.lpdu.now (subst IsLpdu c.bytes.ensures.value c.bytes.ensures.sized)
