use Rattle.node_sites.proofs.Words.{AreNoted, Control, Core, List, Memory, None, Port, RunsAs, SendsOneByOne, Stored, WiresStandFor, ap, append-nil, arith}
use Rattle.node_sites.proofs.Words.{control_of, lpdu_of, most_fetches, next_frame, option_map, put_all, puts_entries, refl, seen_from, sent_port, side_of}
use Rattle.node_sites.proofs.Words.{subst, sym, with_port, ℕ, ◌-◌, ◌∙◌, ◌≡◌}
use Rattle.node_ends.specs.Ends.{frame_at}
use Rattle.node_core.proofs.Between.{all_one_by_one}
use Rattle.node_sites.proofs.FramesGoOut.{Sending, sending_starts, sending_next, sending_stops, sending_over, at_found, found_with, with_side}
use Rattle.node_sites.proofs.FramesGoOut.{fetched_is, none_fetched, read_of, same_with, with_none}
use Rattle.node_sites.proofs.sending.send_frames.Goals as goal

pub has_none_due-requires : goal.has_none_due-requires
has_none_due-requires c =
    let r = c.requires.state in
    record { runs = (r.0, r.1, r.4.runs) }

-- an end that has none due has sent all
pub returns-then-has_none_due-clause-stands : goal.returns-then-has_none_due-clause-stands
returns-then-has_none_due-clause-stands c core ports p l is w =
    let at = c.args.at in
    let entries = c.args.entries.now.items in
    let none = c.has_none_due.ensures core ports p is.runs is.here c.if-has_none_due.true in
    let sent : ports ≡ with_port at.link sent_port ports =
    sym (same_with at.link p sent_port (λ q. q) ports is.only (ap (λ e. with_side e p) none.sent) ∙ with_none at.link ports) in
    let N : List Control → Type 0 = λ frames. AreNoted at entries entries (puts_entries (side_of at) l frames) in (
      subst (RunsAs c.args.node.now core) sent is.runs,
      subst (λ frames. WiresStandFor c.args.wires.now (seen_from at (put_all l frames))) (sym none.frames) w,
      subst N (sym none.frames) (sym (append-nil entries)),
    )

pub loop-init : goal.loop-init
loop-init c = record {
  goes = λ core ports p m is w.
      let whole = at_found (λ (q : Port). SendsOneByOne q.side) c.args.at.link p ports (all_one_by_one is.runs) is.here in
      let Runs : List Port → Type 0 = RunsAs c.args.node.now core in
      let P : ℕ → Type 0 = λ n. Sending Runs c.args.wires.now c.args.at ports p m c.args.entries.now.items c.args.entries.now.items n in
      subst P (omega arith) (sending_starts is.runs is.only whole w);
  memory = refl;
  grows = omega arith;
}

pub next_out-requires : goal.next_out-requires
next_out-requires c =
    let r = c.requires.state in
    let core : Core = r.0 in
    let ports : List Port = r.1 in
    let s = c.loop.invariant.goes core ports r.2 r.3 r.4 r.5 in
    record { runs = (core, with_port c.args.at.link (with_side s.e) ports, s.runs) }

pub returns-in_default-clause-stands : goal.returns-in_default-clause-stands
returns-in_default-clause-stands c core ports p l is w =
    let n = c.next_out in
    let h : ℕ = c.args.at.link in
    let s = c.loop.invariant.goes core ports p l is w in
    let now : List Port = with_port h (with_side s.e) ports in
    let found = found_with h s.e p ports is.here in
    let none : None ≡ option_map lpdu_of (next_frame s.e) = sym c.in_default.is ∙ (n.ensures.answer core now s.runs ∙ ap frame_at found) in
    let whole = at_found (λ (q : Port). SendsOneByOne q.side) h (with_side s.e p) now (all_one_by_one s.runs) found in
    sending_stops (RunsAs n.new.self core) c.args.entries.now.items s is.only whole (none_fetched (next_frame s.e) none)
    (n.ensures.runs core now s.runs)

pub loop-preserved : goal.loop-preserved
loop-preserved c =
    let n = c.next_out in
    let h : ℕ = c.args.at.link in
    record {
      goes = λ core ports p l is w.
          let s = c.loop.invariant.goes core ports p l is w in
          let now : List Port = with_port h (with_side s.e) ports in
          let found = found_with h s.e p ports is.here in
          let one = fetched_is s.e c.in-Some.lpdu (sym c.in-Some.is ∙ (n.ensures.answer core now s.runs ∙ ap frame_at found)) in
          let read = read_of (next_frame s.e) one.frame one.next (n.ensures.read core now (with_side s.e p) s.runs found) in
          let whole = at_found (λ (q : Port). SendsOneByOne q.side) h p ports (all_one_by_one is.runs) is.here in
          sending_next c.args.entries.now.items (most_fetches p.side) c.loop.counter (most_fetches p.side - c.loop.counter) one.frame refl s whole one.next
          (n.ensures.runs core now s.runs)
          (c.in_ok-put.ensures.stands s.link one.frame s.wires one.bytes (ap control_of one.bytes ∙ read));
      memory = ap (λ (s : Stored Memory). s.journal.nv) n.ensures.store ∙ c.loop.invariant.memory;
      grows = let i = c.loop.invariant.grows in let j = c.put.ensures.grows in omega (arith, i, j);
    }

pub returns-clause-stands : goal.returns-clause-stands
returns-clause-stands c core ports p l is w =
    let few = (at_found (λ (q : Port). SendsOneByOne q.side) c.args.at.link p ports (all_one_by_one is.runs) is.here).few in
    let over : most_fetches p.side - c.loop.counter ≡ 0 = omega (arith, few, c.loop-test.false) in
    sending_over c.args.entries.now.items (most_fetches p.side - c.loop.counter) (c.loop.invariant.goes core ports p l is w) is.only over
