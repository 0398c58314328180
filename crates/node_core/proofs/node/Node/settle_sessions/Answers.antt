use Rattle.node_core.proofs.Words.{Brings, Deed, IsInStep, List, Port, Releases, Stored, Work, after_sessions, all_done, all_owed, answers_owed, ap, ap₂}
use Rattle.node_core.proofs.Words.{flat_map, forgets, forgotten, left_over, map, not, settles, subst, sym, sync_kept, true, ◌++◌, ◌∙◌, ◌≡◌}
use Rattle.gate_answers.specs.declared.response.Response.TheVariants as response
use Rattle.node_core.proofs.Freeing.{all_joined}
use Rattle.node_core.proofs.Settling.{plain_freed, plain_owed, left_under_way, settle_stops, settle_goes}
use Rattle.node_core.proofs.Faults.{ran_is}
use Rattle.node_core.proofs.node.Node.settle_sessions.Goals as goal

pub keep_sync-requires-clause-live : goal.keep_sync-requires-clause-live
keep_sync-requires-clause-live g c =
    ap (λ (s : Stored g.row.N.Denot). s.journal.live)
    (c.release_all.ensures.store ∙ (c.drop_notices.ensures.store ∙ (c.forget.ensures.store ∙ c.drop_tasks.ensures.store))) ∙ c.requires.live

pub returns-then-not-is_done-clause-carried : goal.returns-then-not-is_done-clause-carried
returns-then-not-is_done-clause-carried g c start w u =
    let freed : map Releases c.as_slice.result.now ≡ forgotten w.ports =
    ap (map Releases) c.as_slice.ensures.value ∙ c.forgotten-freed.ensures w.ports u.ends in
    let begun : Work = record w { core = after_sessions w.core w.ports } in
    let u1 = c.forget.ensures.carried _ _ start begun (c.drop_tasks.ensures.carried _ _ start w u) in
    let u2 = left_under_way w (c.drop_notices.ensures.carried _ _ start (record begun { ports = (map (forgets w.ports) w.ports) }) u1) in
    let u3 = c.release_all.ensures.carried _ _ start (left_over w) u2 in
    let fs : List Deed = map Releases c.as_slice.result.now in
    let kept : c.release_all.new.self.store ≡ c.args.self.now.store =
    c.release_all.ensures.store ∙ (c.drop_notices.ensures.store ∙ (c.forget.ensures.store ∙ c.drop_tasks.ensures.store)) in
    let t = c.keep_sync in
    let K : Stored g.row.N.Denot → List Deed = λ s. sync_kept s.journal.state s.tables c.args.came in
    let b : Brings g.N.Nv.writes c.release_all.new.self.store.journal.nv t.new.self.store.journal.nv
    (IsInStep t.new.self (g.W.Watch.noted t.new.watch) (g.W.Watch.is_short t.new.watch) start) (all_done 0 (K c.release_all.new.self.store))
    (all_done 0 fs (left_over w)) = t.ensures.carried start (all_done 0 fs (left_over w)) u3 in
    let P : Stored g.row.N.Denot → Type 0 = λ s. Brings g.N.Nv.writes c.args.self.now.store.journal.nv t.new.self.store.journal.nv
    (IsInStep t.new.self (g.W.Watch.noted t.new.watch) (g.W.Watch.is_short t.new.watch) start) (settles (K s)) w in
    subst P kept (settle_stops g.N.Nv.writes (K c.release_all.new.self.store) fs (ap (λ (s : Stored g.row.N.Denot). s.journal.nv) kept) freed
    (plain_freed c.as_slice.result.now) b (b.stands.power ∙ ap not (ran_is t.ensures.ran c.is_done.ensures ∙ c.if-not-is_done.true)))

pub returns-clause-carried : goal.returns-clause-carried
returns-clause-carried g c start w u =
    let left : List Port = map (forgets w.ports) w.ports in
    let freed : map Releases c.as_slice.result.now ≡ forgotten w.ports =
    ap (map Releases) c.as_slice.ensures.value ∙ c.forgotten-freed.ensures w.ports u.ends in
    let begun : Work = record w { core = after_sessions w.core w.ports } in
    let u0 = c.drop_tasks.ensures.carried _ _ start w u in
    let u1 = c.forget.ensures.carried _ _ start begun u0 in
    let ended = ap (flat_map (answers_owed response.NotConnected)) c.as_slice-2.ensures.value ∙ c.owed-ended.ensures left response.NotConnected u1.ends in
    let late = ap (flat_map (answers_owed response.Timeout)) c.as_slice-3.ensures.value ∙ c.owed-late.ensures left response.Timeout u1.ends in
    let u2 = left_under_way w (c.drop_notices.ensures.carried _ _ start (record begun { ports = left }) u1) in
    let u3 = c.release_all.ensures.carried _ _ start (left_over w) u2 in
    let fs : List Deed = map Releases c.as_slice.result.now in
    let kept : c.release_all.new.self.store ≡ c.args.self.now.store =
    c.release_all.ensures.store ∙ (c.drop_notices.ensures.store ∙ (c.forget.ensures.store ∙ c.drop_tasks.ensures.store)) in
    let t = c.keep_sync in
    let K : Stored g.row.N.Denot → List Deed = λ s. sync_kept s.journal.state s.tables c.args.came in
    let b : Brings g.N.Nv.writes c.release_all.new.self.store.journal.nv t.new.self.store.journal.nv
    (IsInStep t.new.self (g.W.Watch.noted t.new.watch) (g.W.Watch.is_short t.new.watch) start) (all_done 0 (K c.release_all.new.self.store))
    (all_done 0 fs (left_over w)) = t.ensures.carried start (all_done 0 fs (left_over w)) u3 in
    let power : t.new.self.store.journal.live ≡ true = ran_is t.ensures.ran c.is_done.ensures ∙ c.if-not-is_done.false in
    let live = b.stands.power ∙ ap not power in
    let es : List Deed = flat_map (answers_owed response.NotConnected) c.as_slice-2.result.now in
    let ls : List Deed = flat_map (answers_owed response.Timeout) c.as_slice-3.result.now in
    let u4 = c.answer_all.ensures.carried start b.after b.stands in
    let u5 = c.answer_all-2.ensures.carried start (all_done 0 es b.after) u4 in
    let on = ap (λ (s : Stored g.row.N.Denot). s.journal.live) c.answer_all.ensures.store ∙ power in
    let joined = all_joined es ls b.after live (u4.power ∙ ap not on) in
    let owing : es ++ ls ≡ all_owed left = ap₂ (λ (a b : List Deed). a ++ b) ended late in
    let last = c.answer_all-2 in
    let S : Work → Type 0 = λ y. IsInStep last.new.self (g.W.Watch.noted last.new.watch) (g.W.Watch.is_short last.new.watch) start y in
    let end : t.new.self.store.journal.nv ≡ last.new.self.store.journal.nv =
    sym (ap (λ (s : Stored g.row.N.Denot). s.journal.nv) (last.ensures.store ∙ c.answer_all.ensures.store)) in
    let P : Stored g.row.N.Denot → Type 0 = λ s. Brings g.N.Nv.writes c.args.self.now.store.journal.nv last.new.self.store.journal.nv S
    (settles (K s)) w in
    subst P kept (settle_goes g.N.Nv.writes (K c.release_all.new.self.store) fs (es ++ ls) (ap (λ (s : Stored g.row.N.Denot). s.journal.nv) kept) freed
    (plain_freed c.as_slice.result.now) b live owing (plain_owed response.NotConnected response.Timeout c.as_slice-2.result.now c.as_slice-3.result.now)
    end (subst S joined u5))
