use Rattle.swp_tool.proofs.Words.{AreCountsOf, Header, IsWorldAt, Line, List, Play, Said, Told, [], ap, lines_played, map, nodes_history, nodes_told, subst}
use Rattle.swp_tool.proofs.Words.{sym, the_header, told_below, world_header, ◌++◌, ◌∙◌, ◌∷◌, ◌≡◌}
use Rattle.swp_tool.proofs.Playing.{under_own_header}
use Rattle.swp_tool.proofs.Summing.{line_counted, lines_run, run-append, run_room}
use Rattle.swp_tool.proofs.generating.Generating.play.Goals as goal

pub step-requires-clause-room : goal.step-requires-clause-room
step-requires-clause-room c = run_room c.args.self.now c.requires.room.0 c.requires.room.1 c.requires.room.2

pub returns-in-Ok : goal.returns-in-Ok
returns-in-Ok c =
    λ lines a.
    let line : Line = c.args.line.now in
    let plays : List Play = map Said lines in
    let header : world_header c.args.self.now.world ≡ the_header = a.stands.header_is in
    let at = under_own_header c.args.self.now.world the_header plays a.stands in
    let told : c.entries.result.now ≡ told_below the_header lines line =
    c.entries.ensures ∙ c.in-Ok.ensures.entries plays at ∙ ap (λ (h : Header). told_below h (lines_played h plays) line) header
    ∙ ap (λ (ls : List Line). told_below the_header ls line) (lines_run lines) in
    let before : List Told = nodes_told (nodes_history the_header lines) in
    record {
      stands = subst (IsWorldAt c.step.new.self the_header) (sym (run-append lines line))
          (subst (λ (h : Header). IsWorldAt c.step.new.self h (plays ++ Said line ∷ [])) header (c.in-Ok.ensures.stands plays at));
      counts = line_counted c.count_all.new.self lines line
          (subst (λ (l : List Told). AreCountsOf c.count_all.new.self (before ++ l)) told (c.count_all.ensures before a.counts));
    }
