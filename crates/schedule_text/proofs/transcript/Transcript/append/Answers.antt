-- The bytes stand behind what there was, or it is as it was.
use Rattle.schedule_text.proofs.Names.{HoldsText, [], length, on_err_weaker, on_ok_weaker, refl, start_in, subst, take_at, ◌∙◌}
use Rattle.schedule_text.proofs.transcript.Transcript.append.Goals as goal

whole : (c : goal.After-finish) → HoldsText (start_in c.args.self.now.items) c.args.bytes.now c.push.new.self
whole c =
    c.push.ensures (start_in c.args.self.now.items) []
    (subst (λ v. HoldsText (start_in v.items) [] c.begin.new.self) c.self.view_is c.begin.ensures)

pub returns-clause-ok : goal.returns-clause-ok
returns-clause-ok c = on_ok_weaker c.finish.result (λ behind. behind (start_in c.args.self.now.items) _ (whole c)) c.finish.ensures.ok

pub returns-clause-err : goal.returns-clause-err
returns-clause-err c =
    let old = c.args.self.now.items in
    on_err_weaker c.finish.result (λ back. back (start_in old) _ (whole c) ∙ take_at old _ (length old) refl) c.finish.ensures.err
