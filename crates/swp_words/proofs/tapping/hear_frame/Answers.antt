use Rattle.swp_words.proofs.Words.{IsFront, IsGathered, [], ap, report_line, report_lines, report_of, subst, sym, ◌++◌, ◌∙◌, ◌∷◌}
use Rattle.swp_words.proofs.Recording.{map_err, map_ok}
use Rattle.swp_words.proofs.Hearing.{one_line}
use Rattle.swp_words.proofs.tapping.hear_frame.Goals as goal

pub returns-in-Some-clause-goes : goal.returns-in-Some-clause-goes
returns-in-Some-clause-goes g c =
    map_ok _ _ c.gather_report.result (λ goes bare least frames before h.
    let more = (c.args.from_clf, c.args.lpdu.now) ∷ [] in
    record {
      bare_is = c.tell.ensures.bare ∙ h.bare_is;
      stands = c.tell.ensures.stands frames h.stands;
      lines = subst (λ l. IsGathered g.K.Sink.tells c.gather_report.new.text.items least l before (g.K.Sink.written c.gather_report.new.sink))
          (sym (one_line bare c.args.tap.now frames more (report_of c.in-Some.head c.tell.new.self.body) h.bare_is (c.in-Some.ensures.reports frames h.stands)
          ∙ ap (λ body. report_lines bare frames ++ report_line (report_of c.in-Some.head body)) (sym c.body.ensures.value)))
          (goes least (report_lines bare frames) before h.lines);
    }) c.gather_report.ensures.goes

pub returns-in-Some-clause-ends : goal.returns-in-Some-clause-ends
returns-in-Some-clause-ends g c =
    map_err _ _ c.gather_report.result (λ ends bare least frames before h.
    let more = (c.args.from_clf, c.args.lpdu.now) ∷ [] in
    subst (λ l. IsFront g.K.Sink.tells least l before (g.K.Sink.written c.gather_report.new.sink))
    (sym (one_line bare c.args.tap.now frames more (report_of c.in-Some.head c.tell.new.self.body) h.bare_is (c.in-Some.ensures.reports frames h.stands)
    ∙ ap (λ body. report_lines bare frames ++ report_line (report_of c.in-Some.head body)) (sym c.body.ensures.value)))
    (ends least (report_lines bare frames) before h.lines)) c.gather_report.ensures.ends
