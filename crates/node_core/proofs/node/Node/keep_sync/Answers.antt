use Rattle.std.proofs.lemmas.Bool.{and_from}
use Rattle.node_core.proofs.Words.{Bool, Brings, Commits, Deed, HciTables, IfSome, IsInStep, IsUsable, List, Option, Some, Stored, [], all_done, ap, false}
use Rattle.node_core.proofs.Words.{has_room_for, le-leb, not, refl, subst, sym, sync_kept, true, ℕ, ◌&&◌, ◌∙◌, ◌∷◌, ◌≡◌, ◌≤◌}
use Rattle.hci_tables.specs.Commands.{IsCommand}
use Rattle.hci_tables.specs.Tables.{is_kept_sync}
use Rattle.hci_tables.specs.declared.command.Command.TheVariants.{Sync}
use Rattle.node_core.specs.Syncing.{id_kept}
use Rattle.node_core.proofs.HavingTurns.{brings_same, no_some}
use Rattle.node_core.proofs.Sendings.{alone}
use Rattle.node_core.proofs.Settling.{nothing_kept}
use Rattle.node_core.proofs.node.Node.keep_sync.Goals as goal

-- the identifier of a host may be kept
may_keep : {came : Option (ℕ × ℕ)} (host id : ℕ) → came ≡ Some (host, id) → IfSome came (λ (pair : ℕ × ℕ). (1 ≤ pair.0) × (pair.0 ≤ 7))
    → IsCommand (Sync host id)
may_keep host id is may =
    let P : Option (ℕ × ℕ) → Type 0 = λ o. IfSome o (λ (pair : ℕ × ℕ). (1 ≤ pair.0) × (pair.0 ≤ 7)) in
    let low : P (Some (host, id)) = subst P is may in
    and_from _ _ (le-leb 1 host low.0) (le-leb host 7 low.1)

pub room-requires-clause-command : goal.room-requires-clause-command
room-requires-clause-command g c = may_keep c.in-Some.host c.in-Some.id c.in-Some.is c.requires.host

pub commit-requires-clause-command : goal.commit-requires-clause-command
commit-requires-clause-command g c = may_keep c.in-Some.host c.in-Some.id c.in-Some.is c.requires.host

pub commit-requires-clause-usable : goal.commit-requires-clause-usable
commit-requires-clause-usable g c = subst (λ (s : Stored g.row.N.Denot). IsUsable s) (sym c.room.ensures.unchanged) c.requires.usable

pub commit-requires-clause-live : goal.commit-requires-clause-live
commit-requires-clause-live g c = ap (λ (s : Stored g.row.N.Denot). s.journal.live) c.room.ensures.unchanged ∙ c.requires.live

pub commit-requires-clause-room : goal.commit-requires-clause-room
commit-requires-clause-room g c =
    ap (λ (s : Stored g.row.N.Denot). has_room_for s.journal.state (Sync c.in-Some.host c.in-Some.id)) c.room.ensures.unchanged
    ∙ (sym c.room.ensures.room ∙ c.if-not-room.false)

pub returns-in_default-clause-carried : goal.returns-in_default-clause-carried
returns-in_default-clause-carried g c start w u =
    let s = c.args.self.now.store in
    let none = no_some c.args.came c.in_default.not-Some in
    nothing_kept g.N.Nv.writes (sync_kept s.journal.state s.tables c.args.came) (ap (sync_kept s.journal.state s.tables) none) u c.requires.live

pub returns-then-is_kept-clause-carried : goal.returns-then-is_kept-clause-carried
returns-then-is_kept-clause-carried g c start w u =
    let s = c.args.self.now.store in
    let host = c.in-Some.host in
    let id = c.in-Some.id in
    let on : is_kept_sync s.tables.syncs host id ≡ true =
    ap (λ (t : HciTables). is_kept_sync t.syncs host id) (sym c.tables.ensures) ∙ (sym c.is_kept.ensures ∙ c.if-is_kept.true) in
    let none : id_kept s.journal.state s.tables (host, id) ≡ [] = rw on refl in
    nothing_kept g.N.Nv.writes (sync_kept s.journal.state s.tables c.args.came) (ap (sync_kept s.journal.state s.tables) c.in-Some.is ∙ none) u
    c.requires.live

pub returns-then-not-room-clause-carried : goal.returns-then-not-room-clause-carried
returns-then-not-room-clause-carried g c start w u =
    let s = c.args.self.now.store in
    let host = c.in-Some.host in
    let id = c.in-Some.id in
    let off : (not (is_kept_sync s.tables.syncs host id) && has_room_for s.journal.state (Sync host id)) ≡ false =
    ap (λ (t : HciTables). not (is_kept_sync t.syncs host id) && has_room_for s.journal.state (Sync host id)) (sym c.tables.ensures)
    ∙ (ap (λ (b : Bool). not b && has_room_for s.journal.state (Sync host id)) (sym c.is_kept.ensures ∙ c.if-is_kept.false)
    ∙ (sym c.room.ensures.room ∙ c.if-not-room.true)) in
    let none : id_kept s.journal.state s.tables (host, id) ≡ [] = rw off refl in
    let P : Stored g.row.N.Denot → Type 0 = λ t. Brings g.N.Nv.writes s.journal.nv t.journal.nv
    (IsInStep (record c.args.self.now { store = t }) (g.W.Watch.noted c.args.watch.now) (g.W.Watch.is_short c.args.watch.now) start)
    (all_done 0 (sync_kept s.journal.state s.tables c.args.came)) w in
    subst P (sym c.room.ensures.unchanged)
    (nothing_kept g.N.Nv.writes (sync_kept s.journal.state s.tables c.args.came) (ap (sync_kept s.journal.state s.tables) c.in-Some.is ∙ none) u
    c.requires.live)

pub returns-clause-carried : goal.returns-clause-carried
returns-clause-carried g c start w u =
    let s = c.args.self.now.store in
    let t = c.commit in
    let host = c.in-Some.host in
    let id = c.in-Some.id in
    let on : (not (is_kept_sync s.tables.syncs host id) && has_room_for s.journal.state (Sync host id)) ≡ true =
    ap (λ (t : HciTables). not (is_kept_sync t.syncs host id) && has_room_for s.journal.state (Sync host id)) (sym c.tables.ensures)
    ∙ (ap (λ (b : Bool). not b && has_room_for s.journal.state (Sync host id)) (sym c.is_kept.ensures ∙ c.if-is_kept.false)
    ∙ (sym c.room.ensures.room ∙ c.if-not-room.false)) in
    let one : id_kept s.journal.state s.tables (host, id) ≡ Commits (Sync host id) ∷ [] = rw on refl in
    let is = ap (sync_kept s.journal.state s.tables) c.in-Some.is ∙ one in
    let U : Stored g.row.N.Denot → Type 0 = λ x. IsInStep (record c.args.self.now { store = x }) (g.W.Watch.noted c.args.watch.now)
    (g.W.Watch.is_short c.args.watch.now) start w in
    let b = t.ensures.carried start w (subst U (sym c.room.ensures.unchanged) u) in
    let Q : Stored g.row.N.Denot → Type 0 = λ x. Brings g.N.Nv.writes x.journal.nv t.new.self.store.journal.nv
    (IsInStep t.new.self (g.W.Watch.noted t.new.watch) (g.W.Watch.is_short t.new.watch) start)
    (all_done 0 (sync_kept s.journal.state s.tables c.args.came)) w in
    subst Q c.room.ensures.unchanged (brings_same b (λ plan.
    ap (λ (ds : List Deed). all_done 0 ds (record w { plan = plan })) is ∙ alone 0 (Commits (Sync host id)) (record w { plan = plan })))
