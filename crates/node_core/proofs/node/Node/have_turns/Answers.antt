use Rattle.node_core.proofs.Words.{AreSendable, Bool, Brings, EndsStandFor, FewAreDue, Handling, IsDecided, IsInStep, IsNodeInOrder, List, Message, Node}
use Rattle.node_core.proofs.Words.{Option, Work, [], ap, arith, deeds_shown, got_at, handling, have_turns, lack, lack_shown, lets_go, message_read, needs, not}
use Rattle.node_core.proofs.Words.{option_map, port_at, refl, subst, sym, take, ℕ, ◌∙◌, ◌∷◌, ◌≡◌}
use Rattle.node_deeds.specs.declared.deeds.Deed.{Deed}
use Rattle.trace_model.specs.declared.entry.Entry.{Entry}
use Rattle.node_core.proofs.Steps.{plainly}
use Rattle.node_core.proofs.HavingTurns.{no_some, let_cut, let_writes, let_anyway, decided}
use Rattle.node_core.proofs.Sendables.{got_at_sendable, hosts_low}
use Rattle.node_core.proofs.Deciders.{own_host}
use Rattle.node_core.proofs.node.Node.have_turns.Goals.{After-as_slice-2, In-Some-waits, Joined-lies, in-Some, in_default}
use Rattle.node_core.proofs.node.Node.have_turns.Given.{Over}
use Rattle.node_core.proofs.node.Node.have_turns.Goals as goal

-- the message that waits at the end is the one that lies in the buffer, or that was read into it
read : (g : Over) (c : Joined-lies g) (w : Work) → EndsStandFor c.args.self.now.ends w.ports
    → got_at w.ports c.args.host ≡ message_read c.match-lies.waits c.match-lies.buffer
read g c w ends =
    elim c.match-lies.branch [ in-Some b ↦ grind (arith, c.requires.lies) | in_default b ↦ grind (arith, b.read-waits.ensures.waits w.ports ends) ]

-- where one waits, it is this one
found : (g : Over) (c : In-Some-waits g) (w : Work) → got_at w.ports c.args.host ≡ message_read c.match-lies.waits c.match-lies.buffer
    → got_at w.ports c.args.host ≡ (c.in-Some-waits.pipe, take c.in-Some-waits.len c.match-lies.buffer) ∷ []
found g c w read = read ∙ ap (λ (o : Option (ℕ × ℕ)). message_read o c.match-lies.buffer) c.in-Some-waits.is

-- its turn is decided as the definition decides it
is_decided : (g : Over) (c : After-as_slice-2 g) (start : List Entry) (w : Work)
    → IsInStep c.args.self.now (g.W.Watch.noted c.args.watch.now) (g.W.Watch.is_short c.args.watch.now) start w → IsNodeInOrder w.core w.ports
    → FewAreDue (port_at w.ports c.args.host) → (let m : Message = (c.in-Some-waits.pipe, take c.in-Some-waits.len c.match-lies.buffer) in
    got_at w.ports c.args.host ≡ m ∷ []
    → IsInStep c.deeds_for.new.self (g.W.Watch.noted c.args.watch.now) (g.W.Watch.is_short c.args.watch.now) start w
    × IsDecided c.args.host (handling c.deeds_for.new.self m) c.as_slice-2.result.now c.lack-short.result c.is_held-held.result w)
is_decided g c start w u order few got =
    let h = c.args.host in
    let m : Message = (c.in-Some-waits.pipe, take c.in-Some-waits.len c.match-lies.buffer) in
    let sendable = subst AreSendable got (got_at_sendable c.args.self.now.ends.pool c.args.self.now.ends.seats w.ports h u.ends.each) in
    let a : Handling = handling c.args.self.now m in
    let d = c.deeds_for in
    let short = c.lack-short.result in
    let k = u.core (u.power ∙ ap not c.requires.live) in
    let L : List Deed → Type 0 = λ ds. option_map lack_shown short ≡ lack w.ports (needs h (deeds_shown a ds)) in
    let spares = c.spares-spares.ensures w.ports u.ends (hosts_low w.ports order.hosts) in
    let is = decided h a d.new.deeds.items short w (sym k.init) order.task few sendable.0 (d.ensures.deeds _ _ start w u order)
    d.ensures.doable (subst L c.as_slice.ensures.value (c.lack-short.ensures a w.ports refl spares)) in
    let H : Bool → Type 0 = λ b. IsDecided h a d.new.deeds.items short b w in
    let D : List Deed → Type 0 = λ ds. IsDecided h a ds short c.is_held-held.result w in
    let A : Node g.row.N.Denot → Type 0 = λ n. IsDecided h (handling n m) c.as_slice-2.result.now short c.is_held-held.result w in (
      subst (λ n. IsInStep n (g.W.Watch.noted c.args.watch.now) (g.W.Watch.is_short c.args.watch.now) start w) (sym d.ensures.same) u,
      subst A (sym d.ensures.same) (subst D (sym c.as_slice-2.ensures.value) (subst H (sym (c.is_held-held.ensures w.ports u.ends)) is)),
    )

pub returns-in_default-waits-clause-carried : goal.returns-in_default-waits-clause-carried
returns-in_default-waits-clause-carried g c start w u hosts few =
    let h = c.args.host in
    let none = read g (goal.at.returns-in_default-waits-clause-carried g c).Joined-lies w u.ends
    ∙ ap (λ (o : Option (ℕ × ℕ)). message_read o c.match-lies.buffer) (no_some c.match-lies.waits c.in_default-waits.not-Some) in
    let P : List Message → Type 0 = λ ms. Brings g.N.Nv.writes c.args.self.now.store.journal.nv c.let_go.new.self.store.journal.nv
    (IsInStep c.let_go.new.self (g.W.Watch.noted c.args.watch.now) (g.W.Watch.is_short c.args.watch.now) start) (have_turns h ms) w in
    subst P (sym none)
    (plainly g.N.Nv.writes {n2 = c.let_go.new.self} (lets_go h) u c.requires.live c.let_go.ensures.store
    (c.let_go.ensures.carried _ _ start w u (c.is_held-held.ensures w.ports u.ends)) (let_cut h w) (let_writes h w) (let_anyway h w))

pub deeds_for-requires-clause-sendable : goal.deeds_for-requires-clause-sendable
deeds_for-requires-clause-sendable g c =
    let at = goal.at.deeds_for-requires-clause-sendable g c in
    let w : Work = c.requires.may.1 in
    let ends = c.requires.may.2.ends in
    let got = found g at.In-Some-waits w (read g at.Joined-lies w ends) in
    (subst AreSendable got (got_at_sendable c.args.self.now.ends.pool c.args.self.now.ends.seats w.ports c.args.host ends.each)).0

pub deeds_for-requires-clause-own : goal.deeds_for-requires-clause-own
deeds_for-requires-clause-own g c =
    let at = goal.at.deeds_for-requires-clause-own g c in
    let r = c.requires.may in
    let w : Work = r.1 in
    let got = found g at.In-Some-waits w (read g at.Joined-lies w r.2.ends) in
    λ some. own_host w c.args.host (λ none. some (sym r.2.node ∙ none)) r.3.0.own got ∙ r.2.node

pub deeds_for-requires-clause-may : goal.deeds_for-requires-clause-may
deeds_for-requires-clause-may g c = let r = c.requires.may in (_, _, r.0, r.1, r.2, r.3.0)

pub turn_decided-requires-clause-decided : goal.turn_decided-requires-clause-decided
turn_decided-requires-clause-decided g c =
    let at = goal.at.turn_decided-requires-clause-decided g c in
    let r = c.requires.may in
    let w : Work = r.1 in
    let got = found g at.In-Some-waits w (read g at.Joined-lies w r.2.ends) in
    let is = is_decided g at.After-as_slice-2 r.0 w r.2 r.3.0 r.3.1 got in
    (r.0, w, is.0, (is.1, got))

pub returns-clause-carried : goal.returns-clause-carried
returns-clause-carried g c start w u order few =
    let at = goal.at.returns-clause-carried g c in
    let h = c.args.host in
    let got = found g at.In-Some-waits w (read g at.Joined-lies w u.ends) in
    let is = is_decided g at.After-as_slice-2 start w u order few got in
    let t = c.turn_decided in
    let P : List Message → Type 0 = λ ms. Brings g.N.Nv.writes c.args.self.now.store.journal.nv t.new.self.store.journal.nv
    (IsInStep t.new.self (g.W.Watch.noted t.new.watch) (g.W.Watch.is_short t.new.watch) start) (have_turns h ms) w in
    let m : Message = (c.in-Some-waits.pipe, take c.in-Some-waits.len c.match-lies.buffer) in
    let Q : Node g.row.N.Denot → Type 0 = λ n. Brings g.N.Nv.writes n.store.journal.nv t.new.self.store.journal.nv
    (IsInStep t.new.self (g.W.Watch.noted t.new.watch) (g.W.Watch.is_short t.new.watch) start) (have_turns h (m ∷ [])) w in
    subst P (sym got) (subst Q c.deeds_for.ensures.same (t.ensures.carried start w is.0 (is.1, got)))
