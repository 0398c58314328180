use Rattle.world.proofs.Words.{Tick, on_ok, refl}
use Rattle.link_laws.proofs.machine.Reports.{tick_so}
use Rattle.world.proofs.Nodes.{HasTakenInput, IsReported, is_sound, input_done, without_message, ticked_got}
use Rattle.world.proofs.node.Node.tick.Goals as goal

pub returns : goal.returns
returns c m h room few =
    let t = c.tick-report in
    let taken : HasTakenInput c.args.self.now t.new.self t.new.pool m Tick t.result =
    record {
      has = h.has;
      left = record { stands = t.ensures.stands m h.has.stands; elsewhere = t.ensures.elsewhere };
      told = t.ensures.answer m h.has.stands;
      reports = tick_so m (is_sound m h.has.reached);
      sendable = tt;
      few = few;
    } in
    on_ok c.note.result c.note.ensures.noted (λ noted.
    let done : IsReported c.note.new.self m Tick c.args.place c.args.entries.now.items c.note.new.entries.items =
    input_done taken c.note.ensures.counted noted in
    without_message done h.fetched (ticked_got m) refl)
