-- The text stands behind what there was, or it is as it was.
use Rattle.schedule_text.proofs.Names.{HoldsText, [], entry_lines, length, on_err_weaker, on_ok_weaker, refl, start_in, subst, take_at, ◌∙◌}
use Rattle.schedule_text.proofs.write.write_entries.Goals as goal

whole : (c : goal.After-finish) → HoldsText (start_in c.args.out.now.items) (entry_lines c.args.entries.now) c.write_each.new.text
whole c =
    let start = start_in c.args.out.now.items in
    c.write_each.ensures start [] (subst (λ v. HoldsText (start_in v.items) [] c.begin.new.self) c.out.view_is c.begin.ensures)

pub returns-clause-err : goal.returns-clause-err
returns-clause-err c =
    let old = c.args.out.now.items in
    on_err_weaker c.finish.result (λ back. back (start_in old) _ (whole c) ∙ take_at old _ (length old) refl) c.finish.ensures.err

pub returns-clause-ok : goal.returns-clause-ok
returns-clause-ok c = on_ok_weaker c.finish.result (λ behind. behind (start_in c.args.out.now.items) _ (whole c)) c.finish.ensures.ok
