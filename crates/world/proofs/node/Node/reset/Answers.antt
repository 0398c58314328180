use Rattle.world.proofs.Words.{Reset, refl, sym, ◌∙◌}
use Rattle.link_laws.proofs.machine.Reports.{reset_got, reset_so}
use Rattle.world.proofs.Nodes.{HasTakenInput, IsReported, is_sound, input_done, without_message, refused_reset, answered_reset, reset_so_kept}
use Rattle.world.proofs.node.Node.reset.Goals as goal

pub returns-in_ok-note-in-Ok-clause-stands : goal.returns-in_ok-note-in-Ok-clause-stands
returns-in_ok-note-in-Ok-clause-stands c m h room few _ =
    let w = c.args.window in
    let told = answered_reset m w c.in-Ok.report (is_sound m h.has.reached) (sym (c.reset.ensures.answer m h.has.stands) ∙ c.in-Ok.is) in
    let taken : HasTakenInput c.args.self.now c.reset.new.self c.reset.new.pool m (Reset w) c.in-Ok.report =
    record {
      has = h.has;
      left = record { stands = c.reset.ensures.stands m h.has.stands; elsewhere = c.reset.ensures.elsewhere };
      told = told;
      reports = reset_so m w (is_sound m h.has.reached);
      sendable = tt;
      few = few;
    } in
    let done : IsReported c.note.new.self m (Reset w) c.args.place c.args.entries.now.items c.note.new.entries.items =
    input_done taken c.note.ensures.counted c.in_ok-note-in-Ok.ensures.noted in
    without_message done h.fetched (reset_got m w) refl

pub returns-in-Err-Inactive-clause-unchanged : goal.returns-in-Err-Inactive-clause-unchanged
returns-in-Err-Inactive-clause-unchanged c m h room = (
  reset_so_kept h (record { stands = c.reset.ensures.stands m h.has.stands; elsewhere = c.reset.ensures.elsewhere })
      (refused_reset m c.args.window c.in-Err-Inactive.field-0 (sym (c.reset.ensures.answer m h.has.stands) ∙ c.in-Err-Inactive.is)),
  refl,
)

pub returns-in-Err-Waiting-clause-unchanged : goal.returns-in-Err-Waiting-clause-unchanged
returns-in-Err-Waiting-clause-unchanged c m h room = (
  reset_so_kept h (record { stands = c.reset.ensures.stands m h.has.stands; elsewhere = c.reset.ensures.elsewhere })
      (refused_reset m c.args.window c.in-Err-Waiting.field-0 (sym (c.reset.ensures.answer m h.has.stands) ∙ c.in-Err-Waiting.is)),
  refl,
)
