use Rattle.std.specs.Option.{option_copied}
use Rattle.swp_tool.proofs.Words.{Some, World, ap, arith, sym, ◌∙◌, ◌≡◌}
use Rattle.swp_tool.proofs.Playing.{stepped_more, header_of_world, line_of_world}
use Rattle.swp_tool.proofs.replay.Replay.play_any.Goals as goal
use Rattle.swp_tool.proofs.replay.Replay.play_any.Goals.{in-Some, in-None}

-- a line that is skipped is counted
pub returns-in-Ok-Skip-clause-few : goal.returns-in-Ok-Skip-clause-few
returns-in-Ok-Skip-clause-few c =
    record {
      count = omega (arith, c.requires.next);
      steps = λ (w : World) (is : c.args.self.now.world ≡ Some w). stepped_more w c.args.self.now.count (c.requires.few.steps w is);
    }

-- what was read was read below the header of the world
pub go_on-requires-clause-world : goal.go_on-requires-clause-world
go_on-requires-clause-world c =
    let header_is : option_copied c.match-self.header ≡ header_of_world c.args.self.now.world = elim c.match-self.branch [
      | in-Some w ↦ ap option_copied w.header-is ∙ (ap (λ h. Some h) w.header.ensures ∙ sym (ap header_of_world w.in-Some.is))
      | in-None w ↦ ap option_copied w.header-is ∙ sym (ap header_of_world w.in-None.is)
    ] in
    line_of_world c.args.self.now.world (option_copied c.match-self.header) c.in-Ok-Line.line header_is
    (rw c.in-Ok-Line.field-0-is at c.in-Ok-Line.ensures.fits)
