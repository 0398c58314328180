use Rattle.node_core.proofs.Words.{AreNotes, At, AtEnd, IsInStep, LinkInput, LinkReport, None, Option, Port, Some, TimePasses, Work, [], after_input, all_come}
use Rattle.node_core.proofs.Words.{ap, entries_for, got_at, has_come, if◌then◌else◌, input_of_end, map, option_map, own_side, port_at, report, report_told}
use Rattle.node_core.proofs.Words.{subst, sym, sync_told, told, unnumbered, whole_acked, with_port, ℕ, ◌∙◌, ◌≡◌}
use Rattle.node_core.specs.Running.{becomes_active_by}
use Rattle.node_core.specs.Inputs.{IsWhatCame}
use Rattle.node_core.proofs.Doing.{host_at}
use Rattle.node_core.proofs.HavingTurns.{no_some}
use Rattle.node_core.proofs.Notes.{no_notes}
use Rattle.node_core.proofs.Arriving.{comes_to, comes_nowhere, comes_silently, brought_is, acked_is, no_port}
use Rattle.node_core.proofs.Elsewhere.{few_at, hosts_differ}
use Rattle.node_core.proofs.Refusing.{ticked_few, ticked_young}
use Rattle.node_core.proofs.Stepping.{five_few}
use Rattle.node_core.proofs.Between.{begins_in_step, runs_ready}
use Rattle.node_core.proofs.Behind.{ready_few, in_time_young, held_here}
use Rattle.node_core.proofs.Came.{refused_same, end_outside, silent_refused}
use Rattle.node_core.proofs.node.Node.comes.Goals as goal

told_active : (r : LinkReport) (i : LinkInput) (o : Option Port) → Some r ≡ option_map (λ (p : Port). report_told (report p.side i)) o
    → r.became_active ≡ becomes_active_by i o
told_active r i None is = cc
told_active r i (Some p) is = let one : r ≡ report_told (report p.side i) = cc in ap (λ (x : LinkReport). x.became_active) one

pub comes-requires : goal.comes-requires
comes-requires g c =
    let r = c.requires in
    let h = c.in-At.host in
    let runs = r.2.runs in record {
      stands = (
        r.1.ports,
        (begins_in_step r.2).ends,
        few_at r.1.ports h (five_few r.1.ports runs.few),
        held_here h r.1.ports runs.held,
        rw c.in-At.is at r.3,
      );
    }

pub time_passes-requires : goal.time_passes-requires
time_passes-requires g c = let r = c.requires in record { may = (r.0, r.1, begins_in_step r.2, five_few r.1.ports r.2.runs.few) }

pub times_out-requires : goal.times_out-requires
times_out-requires g c =
    let r = c.requires in
    let runs = r.2.runs in record {
      may = (
        r.0,
        all_come TimePasses r.1,
        c.time_passes.ensures.carried r.0 r.1 (begins_in_step r.2) (five_few r.1.ports runs.few),
        (ticked_few r.1.ports (ready_few r.1.ports (runs_ready runs r.2.sent)), ticked_young r.1.ports (in_time_young r.1.ports runs.in_time)),
      );
    }

pub returns-in-Err-clause-carried : goal.returns-in-Err-clause-carried
returns-in-Err-clause-carried g c start w b =
    let u = begins_in_step b in
    rw c.in-At.is
    (comes_silently c.in-At.host (input_of_end c.in-At.what) u (c.comes.ensures.stands w.ports u.ends)
    (silent_refused w.core w.ports c.in-At.host c.in-At.what c.in-Err.why (c.in-Err.ensures.refusal w.ports u.ends)))

pub returns-in-Err-clause-came : goal.returns-in-Err-clause-came
returns-in-Err-clause-came g c start w u = rw c.in-At.is (c.in-Err.ensures.refusal w.ports u.ends)

pub returns-in-Err-clause-unchanged : goal.returns-in-Err-clause-unchanged
returns-in-Err-clause-unchanged g c start w u none =
    let h = c.in-At.host in
    let what = c.in-At.what in
    let e = c.args.self.now.ends in
    let refused = c.in-Err.ensures.refusal w.ports u.ends in
    let P : Work → Type 0 = λ v. IsInStep (record c.args.self.now { ends = c.comes.new.self }) (g.W.Watch.noted c.args.watch.now)
    (g.W.Watch.is_short c.args.watch.now) start v in
    subst P (refused_same (At h what) c.in-Err.why w (hosts_differ e.pool e.seats w.ports u.ends.hosts u.ends.each) none refused)
    (comes_silently h (input_of_end what) u (c.comes.ensures.stands w.ports u.ends) (silent_refused w.core w.ports h what c.in-Err.why refused))

pub returns-in_default-told-clause-carried : goal.returns-in_default-told-clause-carried
returns-in_default-told-clause-carried g c start w b =
    let u = begins_in_step b in
    let i : LinkInput = input_of_end c.in-At.what in
    let none = no_port (λ (p : Port). report_told (report p.side i)) (port_at w.ports c.in-At.host)
    (sym (no_some c.comes.new.told c.in_default-told.not-Some) ∙ c.in_default.ensures.told w.ports u.ends) in
    rw c.in-At.is (comes_nowhere c.in-At.host i u (c.comes.ensures.stands w.ports u.ends) none (no_notes _ _))

pub returns-in_default-told-clause-came : goal.returns-in_default-told-clause-came
returns-in_default-told-clause-came g c start w u =
    let i : LinkInput = input_of_end c.in-At.what in
    let told = sym (no_some c.comes.new.told c.in_default-told.not-Some) ∙ c.in_default.ensures.told w.ports u.ends in
    let none = no_port (λ (p : Port). report_told (report p.side i)) (port_at w.ports c.in-At.host) told in
    rw c.in-At.is (
      subst (λ came. IsWhatCame (AtEnd c.in-At.host i) w.ports came) (sym c.nothing.ensures) (record {
        sync = ap (sync_told c.in-At.host) told;
        active = sym (ap (λ (o : Option Port). becomes_active_by i o) none);
      }),
      c.in_default.ensures.refusal w.ports u.ends,
    )

pub returns-in-Some-clause-carried : goal.returns-in-Some-clause-carried
returns-in-Some-clause-carried g c start w b =
    let h = c.in-At.host in
    let i : LinkInput = input_of_end c.in-At.what in
    let r = c.requires in
    let u = begins_in_step b in
    let stands = c.comes.ensures.stands w.ports u.ends in
    rw c.in-At.is
    (comes_to h i c.in-Some.report u stands (sym c.in-Some.is ∙ c.in_default.ensures.told w.ports u.ends)
    (λ p at told_is.
    let P : ℕ → Type 0 = λ n. AreNotes (g.W.Watch.is_short c.args.watch.now) (g.W.Watch.is_short c.note_input.new.watch)
    (g.W.Watch.noted c.args.watch.now) (g.W.Watch.noted c.note_input.new.watch)
    (map unnumbered (entries_for n (told (own_side w.core) p.session (report p.side i) (whole_acked (after_input p.side i))))) in
    let G : LinkReport → Type 0 = λ r. (report p.side i).got
    ≡ (if r.got then got_at (with_port h (λ q. has_come q (Some i)) w.ports) h else []) in
    subst P (sym (host_at h w.ports p at))
    (c.note_input.ensures.notes (with_port h (λ q. has_come q (Some i)) w.ports) w.core (report p.side i) p.session
    (whole_acked (after_input p.side i)) stands u.node told_is (acked_is w.ports h i p at)
    (subst G (sym told_is)
    (brought_is c.comes.new.self w.ports h i p (end_outside c.in-At.what (port_at r.1.ports h) (rw c.in-At.is at r.3)) stands at)))))

pub returns-in-Some-clause-came : goal.returns-in-Some-clause-came
returns-in-Some-clause-came g c start w u =
    let told = sym c.in-Some.is ∙ c.in_default.ensures.told w.ports u.ends in
    rw c.in-At.is (
      record {
        sync = c.sync_told.ensures ∙ ap (sync_told c.in-At.host) told;
        active = told_active c.in-Some.report (input_of_end c.in-At.what) (port_at w.ports c.in-At.host) told;
      },
      c.in_default.ensures.refusal w.ports u.ends,
    )

pub returns-in-Tick-clause-carried : goal.returns-in-Tick-clause-carried
returns-in-Tick-clause-carried g c start w b =
    let come = c.time_passes.ensures.carried start w (begins_in_step b) (five_few w.ports b.runs.few) in
    rw c.in-Tick.is (c.times_out.ensures.carried start (all_come TimePasses w) come (ticked_few w.ports (ready_few w.ports (runs_ready b.runs b.sent))))
