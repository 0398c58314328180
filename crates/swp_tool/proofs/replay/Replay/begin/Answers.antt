use Rattle.swp_tool.proofs.Words.{Entry, Header, List, [], ap, append-nil, arith, entry_line, entry_lines, opening_told, refl, sym, ◌++◌, ◌+◌, ◌∙◌, ◌≡◌}
use Rattle.trace_model.specs.declared.entry.Entry.TheVariants as entry
use Rattle.swp_tool.proofs.Playing.{began, begun_few, never_stepped}
use Rattle.swp_tool.proofs.replay.Replay.begin.Goals as goal

-- the world of the header stands behind no line
pub returns-clause-played : goal.returns-clause-played
returns-clause-played c s written h none =
    let header : Header = c.args.header.now in
    let told : c.entries.result.now ≡ opening_told header ++ [] =
    c.entries.ensures ∙ (c.in_ok-world.ensures.entries ∙ sym (append-nil (opening_told header))) in
    began h none c.in_ok-world.ensures.stands refl refl
    (c.in_ok-write_opening.ensures.ok
    ∙ ap (λ (es : List Entry). c.args.self.now.text.items ++ (entry_line (entry.Head header) ++ entry_lines es)) told)

pub returns-clause-few : goal.returns-clause-few
returns-clause-few c =
    record {
      count = omega (arith, c.requires.next);
      steps = begun_few c.in_ok-world.world (c.args.self.now.count + 1)
          (never_stepped c.in_ok-world.world c.args.header.now c.in_ok-world.ensures.stands);
    }
