use Rattle.schedule_text.proofs.Names.{row_of_form, sym, words, ◌∙◌}
use Rattle.schedule_text.proofs.LinesLemmas.{can_be_read}
use Rattle.schedule_text.proofs.read.read_by_form.Goals as goal

pub said-requires : goal.said-requires
said-requires c =
    can_be_read c.nodes.result c.hosts.result.now c.args.first.now (row_of_form c.in-Some.form) (words c.args.rest.now) c.in-Some.ensures
    (sym c.fault_in.ensures ∙ c.in_default-fault_in.is)
