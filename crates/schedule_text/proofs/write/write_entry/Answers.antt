-- The text of the entry stands behind what there was.
use Rattle.schedule_text.proofs.Names.{HoldsText, [], all_text, ap, entry_line, on_ok_weaker, start_in, subst, ◌++◌, ◌∙◌, ◌≡◌}
use Rattle.schedule_text.proofs.write.write_entry.Goals as goal

pub returns-clause-ok : goal.returns-clause-ok
returns-clause-ok c =
    let begun : HoldsText (start_in []) [] c.begin.new.self =
    subst (λ text. HoldsText (start_in text) [] c.begin.new.self) c.new-text.ensures c.begin.ensures in
    let text_is : all_text c.finish.new.self ≡ entry_line c.args.entry.now =
    c.in_ok-finish.ensures.ok (start_in []) _ (c.write_whole.ensures (start_in []) [] begun) in
    on_ok_weaker c.append_text.result (λ written. written ∙ ap (λ text. c.args.out.now.items ++ text) text_is) c.append_text.ensures.ok
