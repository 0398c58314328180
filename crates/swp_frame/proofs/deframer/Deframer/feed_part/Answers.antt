use Rattle.swp_frame.proofs.Words.{Bool, List, Symbol, ap, arith, min, option_map, part_bits, read_on, run_after, run_of, since_start, subst, sym, ℕ, ◌∙◌, ◌≡◌}
use Rattle.swp_frame.specs.Words.{IsPartBehind}
use Rattle.swp_frame.proofs.Places.{since_run, opened, closed, still_open, same_run}
use Rattle.swp_frame.proofs.FurtherBits.{quiet_since, run_of-read_on}
use Rattle.swp_frame.proofs.deframer.Deframer.feed_part.Goals as goal

new_run : (ones after : ℕ) (seen : List Symbol) (more : List Bool) → ones ≡ min 7 (run_of seen) → after ≡ min 7 (run_after ones more)
    → after ≡ min 7 (run_of (read_on seen more))
new_run ones after seen more is e = e ∙ same_run ones (run_of seen) more (omega (arith, is)) ∙ ap (λ n. min 7 n) (sym (run_of-read_on seen more))

pub returns-else-self : goal.returns-else-self
returns-else-self c seen stands behind quiet =
    let more = part_bits c.args.part in
    let none = closed c.args.self.now.is_open c.args.self.now.content (since_start seen) stands.open_frame c.if-self.false in
    record {
      ones = new_run c.args.self.now.ones c.run_behind-self.result seen more stands.ones c.run_behind-self.ensures;
      open_frame = rw ((quiet_since seen more quiet ∙ ap (λ before. option_map (λ since. read_on since more) before) none), c.if-self.false) tt;
    }

pub returns-then-self : goal.returns-then-self
returns-then-self c seen stands behind quiet =
    let more = part_bits c.args.part in
    let open_frame = opened c.args.self.now.is_open c.args.self.now.content (since_start seen) stands.open_frame c.if-self.true in
    let inside = since_run seen open_frame.0 open_frame.1.0 in
    let since_is = quiet_since seen more quiet ∙ ap (λ before. option_map (λ since. read_on since more) before) open_frame.1.0 in
    record {
      ones = new_run c.args.self.now.ones c.run_behind-self.result seen more stands.ones c.run_behind-self.ensures;
      open_frame = still_open c.args.self.now.is_open c.push_part.new.self _ _ c.if-self.true since_is
          (c.push_part.ensures open_frame.0 open_frame.1.1 (subst (IsPartBehind c.args.part) (sym inside.0) behind));
    }
