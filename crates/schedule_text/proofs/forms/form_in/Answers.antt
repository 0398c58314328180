use Rattle.schedule_text.proofs.Names.{ap, option_map, row_of_form, words, ◌∙◌}
use Rattle.schedule_text.proofs.FormsLemmas.{row-find}
use Rattle.schedule_text.proofs.forms.form_in.Goals as goal

pub returns : goal.returns
returns c = ap (option_map row_of_form) c.found.ensures ∙ row-find c.args.forms.now c.args.first.now (words c.args.rest.now)
