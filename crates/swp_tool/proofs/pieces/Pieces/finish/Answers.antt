-- All lines were played, and the last line was gathered, or there is no header, or no memory.
use Rattle.swp_tool.proofs.Words.{IfErr-weaker, List, on_ok_weaker, ℕ}
use Rattle.swp_tool.proofs.Reading.{closed, halts_closing}
use Rattle.swp_tool.proofs.RoundLemmas.{err_both}
use Rattle.swp_tool.proofs.pieces.Pieces.finish.Goals as goal

pub returns-clause-done : goal.returns-clause-done
returns-clause-done c =
    on_ok_weaker c.close.result
    (λ done (bytes written : List ℕ) h.
    closed c.play_rest.new.self.replay bytes written c.close.new.self.text.items (c.in_ok-play_rest.ensures.played bytes written h) done.0 done.1)
    c.close.ensures.done

pub returns-clause-halts : goal.returns-clause-halts
returns-clause-halts c =
    let last = c.close in
    IfErr-weaker last.result _ _
    (λ why is (bytes written : List ℕ) h.
    halts_closing c.play_rest.new.self.replay why last.new.self.count last.new.self.text.items bytes written
    (c.in_ok-play_rest.ensures.played bytes written h) last.ensures.count is.0 is.2)
    (err_both _ _ _ last.result last.ensures.same last.ensures.same last.ensures.halts)
