use Rattle.hci_store.proofs.Words.{HasRoomForBody, Keeps, ap, appended, apply, arith, body_of, count_of, false, length, subst, true, ◌∙◌, ◌⊎◌}
use Rattle.hci_store.proofs.Committed.{holds_more, is_body, recordable-apply, commit_made, commit_cut, append_left, keeps_then}
use Rattle.hci_store.proofs.store.Store.commit.Goals as goal

pub invariant_of-self : goal.invariant_of-self
invariant_of-self g c =
    let k = c.self.inside in
    rw c.apply.ensures
    record {
      recordable = recordable-apply k.tables c.args.command.now c.self.invariant.recordable c.requires.command;
      holds = λ live tells. holds_more (g.N.Nv.content k.journal.nv) (g.N.Nv.content c.append.new.self.nv) c.as_slice-in-Ok.result.now k.tables
          c.args.command.now (c.self.invariant.holds (rw (← c.self.view_is) at c.in-Ok.ensures.live) tells) (c.in-Ok-append.ensures.records tells)
          (c.as_slice-in-Ok.ensures.value ∙ c.write_command-body.ensures.body) c.requires.command;
    }

pub returns-in-Ok-append-clause-holds : goal.returns-in-Ok-append-clause-holds
returns-in-Ok-append-clause-holds g c = λ tells.
    let k = c.self.inside in
    rw c.apply.ensures
    (holds_more (g.N.Nv.content k.journal.nv) (g.N.Nv.content c.append.new.self.nv) c.as_slice-in-Ok.result.now k.tables c.args.command.now
    (c.self.invariant.holds (rw (← c.self.view_is) at c.in-Ok.ensures.live) tells) (c.in-Ok-append.ensures.records tells)
    (c.as_slice-in-Ok.ensures.value ∙ c.write_command-body.ensures.body) c.requires.command)

pub returns-in-Ok-append-clause-made : goal.returns-in-Ok-append-clause-made
returns-in-Ok-append-clause-made g c = λ not_spent.
    let old = c.args.self.now in
    let k = c.self.inside in
    let body_is = c.write_command-body.ensures.body in
    commit_made g.N.Nv.writes old.journal.state old.tables (body_of c.args.command.now) c.as_slice.result.now c.as_slice-in-Ok.result.now k.journal.state
    old.journal.nv k.journal.nv true c.append.new.self.nv (c.as_slice.ensures.value ∙ body_is) (c.as_slice-in-Ok.ensures.value ∙ body_is)
    (rw (← c.self.view_is) at c.in-Ok.ensures.state) (rw (← c.self.view_is) at (c.in-Ok.ensures.made (λ e. cc))) c.in-Ok-append.ensures.made

pub returns-in-Err-append-clause-made : goal.returns-in-Err-append-clause-made
returns-in-Err-append-clause-made g c = λ not_spent.
    let old = c.args.self.now in
    let k = c.self.inside in
    let body_is = c.write_command-body.ensures.body in
    commit_made g.N.Nv.writes old.journal.state old.tables (body_of c.args.command.now) c.as_slice.result.now c.as_slice-in-Ok.result.now k.journal.state
    old.journal.nv k.journal.nv false c.append.new.self.nv (c.as_slice.ensures.value ∙ body_is) (c.as_slice-in-Ok.ensures.value ∙ body_is)
    (rw (← c.self.view_is) at c.in-Ok.ensures.state) (rw (← c.self.view_is) at (c.in-Ok.ensures.made (λ e. cc))) c.in-Err-append.ensures.made

pub returns-in-Err-clause-made : goal.returns-in-Err-clause-made
returns-in-Err-clause-made g c = λ not_spent.
    let old = c.args.self.now in
    commit_cut g.N.Nv.writes old.journal.state old.tables (body_of c.args.command.now) c.as_slice.result.now old.journal.nv c.make_room.new.self.journal.nv
    (c.as_slice.ensures.value ∙ c.write_command-body.ensures.body) (c.in-Err.ensures.made not_spent)

pub returns-in-Err-append-clause-cut : goal.returns-in-Err-append-clause-cut
returns-in-Err-append-clause-cut g c = λ tells failed.
    let old = c.args.self.now in
    let k = c.self.inside in
    let left = g.N.Nv.content c.append.new.self.nv in
    let first = c.as_slice.ensures.value ∙ c.write_command-body.ensures.body in
    let second = c.as_slice-in-Ok.ensures.value ∙ c.write_command-body.ensures.body in
    let fits : HasRoomForBody k.journal.state c.as_slice-in-Ok.result.now = record {
      in_use = rw (← c.self.view_is) at c.in-Ok.ensures.used;
      version = rw (← c.self.view_is) at c.in-Ok.ensures.two;
      short = rw second (is_body c.args.command.now c.requires.command);
      room = omega (arith, ap length first, ap length second, rw (← c.self.view_is) at c.in-Ok.ensures.room);
    } in
    keeps_then left old.journal.state old.tables c.args.command.now first second (rw (← c.self.view_is) at c.in-Ok.ensures.state)
    (subst (λ t. Keeps left t (count_of k.journal.state) ⊎ Keeps left (apply t c.args.command.now)
    (count_of (appended k.journal.state c.as_slice-in-Ok.result.now)))
    (rw (← c.self.view_is) at c.in-Ok.ensures.tables)
    (append_left (g.N.Nv.content k.journal.nv) left k.journal.state k.tables (c.in-Err-append.ensures.said tells)
    (c.self.invariant.holds (rw (← c.self.view_is) at c.in-Ok.ensures.live) tells) c.as_slice-in-Ok.result.now c.args.command.now fits second c.requires.command
    (c.in-Err-append.ensures.cut tells)))
