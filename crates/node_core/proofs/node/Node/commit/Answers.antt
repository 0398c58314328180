use Rattle.node_core.proofs.Words.{AreMade, Bool, Command, Entry, [], ap, body_of, commit_writes, sym, ℕ, ◌++◌, ◌∙◌, ◌∷◌, ◌≡◌}
use Rattle.trace_model.specs.declared.entry.Entry.TheVariants as entry
use Rattle.node_core.proofs.Doing.{more_noted, kept_brings, lost_brings, made_ok, made_err, nv_fault, no_room}
use Rattle.node_core.proofs.Faults.{faults_kept, faults_rose}
use Rattle.node_core.proofs.node.Node.commit.Goals as goal

pub returns-in-Ok-clause-carried : goal.returns-in-Ok-clause-carried
returns-in-Ok-clause-carried g c start w u =
    let note : entry.Command c.args.self.now.number c.copied.result ≡ entry.Command w.core.node c.args.command.now =
    ap (λ (n : ℕ). entry.Command n c.copied.result) (sym u.node) ∙ ap (λ (x : Command). entry.Command w.core.node x) c.copied.ensures in
    let old = c.args.self.now.store in
    let P : Bool → Type 0 = λ b. AreMade g.N.Nv.writes (commit_writes old.journal.state old.tables (body_of c.args.command.now)) old.journal.nv b
    c.commit.new.self.journal.nv in
    kept_brings c.args.command.now (record {
      made = made_ok P c.commit.result c.in-Ok.is c.commit.ensures.made;
      state = c.in-Ok.ensures.state;
      tables = c.in-Ok.ensures.tables;
      before = c.requires.live;
      live = c.in-Ok.ensures.live;
    }) u
    (more_noted start w.entries (entry.Command w.core.node c.args.command.now) c.note.ensures.stays
    (λ kept. c.note.ensures.noted kept ∙ ap (λ (x : Entry). g.W.Watch.noted c.args.watch.now ++ x ∷ []) note) u.noted_are)

pub returns-clause-carried : goal.returns-clause-carried
returns-clause-carried g c start w u =
    let e = c.commit.ensures in
    let note : entry.Command c.args.self.now.number c.copied.result ≡ entry.Command w.core.node c.args.command.now =
    ap (λ (n : ℕ). entry.Command n c.copied.result) (sym u.node) ∙ ap (λ (x : Command). entry.Command w.core.node x) c.copied.ensures in
    let one = more_noted start w.entries (entry.Command w.core.node c.args.command.now) c.note.ensures.stays
    (λ kept. c.note.ensures.noted kept ∙ ap (λ (x : Entry). g.W.Watch.noted c.args.watch.now ++ x ∷ []) note) u.noted_are in
    let fault = nv_fault c.commit.result c.in-Err._fault c.in-Err.is c.in-Err.ensures.fault
    (λ s. (let t = e.spent.0 s in no_room c.args.self.now.store.journal.state c.args.command.now c.requires.room t.0 t.1)) in
    let old = c.args.self.now.store in
    let P : Bool → Type 0 = λ b. AreMade g.N.Nv.writes (commit_writes old.journal.state old.tables (body_of c.args.command.now)) old.journal.nv b
    c.commit.new.self.journal.nv in
    lost_brings c.args.command.now (record {
      made = made_err P c.commit.result fault e.made;
      before = c.requires.live;
      dead = e.dead fault;
    }) u
    (more_noted start (w.entries ++ entry.Command w.core.node c.args.command.now ∷ []) (entry.Cut w.core.node) c.note-2.ensures.stays
    (λ kept. c.note-2.ensures.noted kept ∙ ap (λ (n : ℕ). g.W.Watch.noted c.note.new.watch ++ entry.Cut n ∷ []) (sym u.node)) one)

pub returns-in-Ok-clause-faults : goal.returns-in-Ok-clause-faults
returns-in-Ok-clause-faults g c = faults_kept g.N.Nv.faults c.commit.ensures.count c.in-Ok.ensures.live

pub returns-clause-faults : goal.returns-clause-faults
returns-clause-faults g c =
    let e = c.commit.ensures in
    let fault = nv_fault c.commit.result c.in-Err._fault c.in-Err.is c.in-Err.ensures.fault
    (λ s. (let t = e.spent.0 s in no_room c.args.self.now.store.journal.state c.args.command.now c.requires.room t.0 t.1)) in
    faults_rose g.N.Nv.faults e.count (e.rose fault)
