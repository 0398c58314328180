use Rattle.node_core.proofs.Words.{Ends, Host, IsInStep, None, Tasks, done, end_of, end_shown, refl, subst, sym}
use Rattle.trace_model.specs.declared.entry.Entry.TheVariants as entry
use Rattle.node_deeds.specs.declared.deeds.InitEnd.{InitEnd}
use Rattle.node_core.proofs.Steps.{plain_noted}
use Rattle.node_core.proofs.Tasks.{init_changed}
use Rattle.node_core.proofs.node.Node.end_init.Goals as goal

pub returns-in-Same-clause-carried : goal.returns-in-Same-clause-carried
returns-in-Same-clause-carried g c host start w u =
    let n = c.args.self.now in
    let t : Tasks = record n.tasks { init = None } in
    let P : InitEnd → Type 0 = λ e. IsInStep (record n { tasks = t }) (g.W.Watch.noted c.note.new.watch) (g.W.Watch.is_short c.note.new.watch) start
    (done host (Ends (end_shown (end_of n.number Host) e)) w) in
    subst P (sym c.in-Same.is)
    (plain_noted (entry.InitSame (end_of n.number Host)) refl (init_changed t None u refl refl) c.note.ensures.stays (λ kept. c.note.ensures.noted kept))

pub returns-in-Made-clause-carried : goal.returns-in-Made-clause-carried
returns-in-Made-clause-carried g c host start w u =
    let n = c.args.self.now in
    let t : Tasks = record n.tasks { init = None } in
    let o = c.note-in-Made in
    let P : InitEnd → Type 0 = λ e. IsInStep (record n { tasks = t }) (g.W.Watch.noted o.new.watch) (g.W.Watch.is_short o.new.watch) start
    (done host (Ends (end_shown (end_of n.number Host) e)) w) in
    subst P (sym c.in-Made.is)
    (plain_noted (entry.InitMade (end_of n.number Host) c.in-Made.pipes) refl (init_changed t None u refl refl) o.ensures.stays
    (λ kept. o.ensures.noted kept))

pub returns-in-Failed-clause-carried : goal.returns-in-Failed-clause-carried
returns-in-Failed-clause-carried g c host start w u =
    let n = c.args.self.now in
    let t : Tasks = record n.tasks { init = None } in
    let o = c.note-in-Failed in
    let P : InitEnd → Type 0 = λ e. IsInStep (record n { tasks = t }) (g.W.Watch.noted o.new.watch) (g.W.Watch.is_short o.new.watch) start
    (done host (Ends (end_shown (end_of n.number Host) e)) w) in
    subst P (sym c.in-Failed.is)
    (plain_noted (entry.InitFailed (end_of n.number Host) c.in-Failed.code) refl (init_changed t None u refl refl) o.ensures.stays
    (λ kept. o.ensures.noted kept))
