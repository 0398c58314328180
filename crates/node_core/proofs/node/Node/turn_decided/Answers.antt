use Rattle.node_core.proofs.Words.{Brings, DeedOf, Handling, IsInStep, List, Message, Sends, Stored, [], ap, deeds_shown, handles, handling, has_turn}
use Rattle.node_core.proofs.Words.{holds_back, lack, lack_shown, lets_go, needs, not, option_map, refl, sym, true, ℕ, ◌∙◌, ◌∷◌, ◌≡◌}
use Rattle.node_core.proofs.Joining.{brings_cut, brings_then}
use Rattle.node_core.proofs.Steps.{plainly, brings_after, turn_begun}
use Rattle.node_core.proofs.Quiet.{few_kept, held_kept}
use Rattle.node_core.proofs.HavingTurns.{no_some, has_room, has_none, held_cut, held_writes, held_anyway, let_cut, let_writes, let_anyway}
use Rattle.node_core.proofs.HavingTurns.{brings_same, quiet_after}
use Rattle.node_core.proofs.Relays.{relay_handles}
use Rattle.node_core.proofs.Faults.{ran_is}
use Rattle.node_core.proofs.node.Node.turn_decided.Goals as goal

pub returns-in-Some-clause-carried : goal.returns-in-Some-clause-carried
returns-in-Some-clause-carried g c start w u may =
    let d = may.0 in
    let h = c.args.host in
    let m : Message = (c.args.pipe, c.args.message.now) in
    let short : ℕ × ℕ = (c.in-Some.field-0.need, c.in-Some.field-0.spare) in
    let none = d.lacks ∙ ap (option_map lack_shown) c.in-Some.is in
    brings_same
    (plainly g.N.Nv.writes {n2 = c.hold_back.new.self} (holds_back h short) u c.requires.live c.hold_back.ensures.store (c.hold_back.ensures.carried start w u)
    (held_cut h short w) (held_writes h short w) (held_anyway h short w))
    (λ plan. has_none h m (deeds_shown (handling c.args.self.now m) c.args.deeds.now) short w d.deeds_are none plan)

pub hold_back-requires : goal.hold_back-requires
hold_back-requires g c = let r = c.requires.decided in record { few = (r.0, r.1, r.2, r.3.0.few) }

pub carry_all-requires-clause-doable : goal.carry_all-requires-clause-doable
carry_all-requires-clause-doable g c =
    let r = c.requires.decided in
    let h = c.args.host in
    let m : Message = (c.args.pipe, c.args.message.now) in
    let begun = turn_begun {given = c.give_back.new.self} {ends = c.set_holds.new.self} h m.0 m.1 r.2 (c.end_at.ensures r.1.core r.2.node)
    c.note.ensures.stays (λ kept. c.note.ensures.noted kept) c.give_back.ensures c.set_holds.ensures in
    (r.0, has_turn h m r.1, begun, r.3.0.doable)

pub relay-requires : goal.relay-requires
relay-requires g c = let r = c.requires.decided in record { waits = (r.0, r.1, r.2, r.3.1) }

pub let_go-requires : goal.let_go-requires
let_go-requires g c =
    let r = c.requires.decided in
    let h = c.args.host in
    let m : Message = (c.args.pipe, c.args.message.now) in
    let on : c.relay.new.self.store.journal.live ≡ true =
    ap (λ (s : Stored g.row.N.Denot). s.journal.live) c.relay.ensures.store ∙ c.requires.live in
    let b = relay_handles g.N.Nv.writes {n2 = c.relay.new.self} h c.in-Some-relayed_to.to m r.2 c.requires.live c.relay.ensures.store
    (c.relay.ensures.carried r.0 r.1 r.2 r.3.1) in record {
      few = (
        b.after.ports,
        b.stands.ends,
        few_kept r.1.ports b.after.ports h (sym (quiet_after h m (Sends c.in-Some-relayed_to.to m ∷ []) b (b.stands.power ∙ ap not on))) r.3.0.few,
      );
    }

pub returns-in-Some-relayed_to-clause-carried : goal.returns-in-Some-relayed_to-clause-carried
returns-in-Some-relayed_to-clause-carried g c start w u may =
    let d = may.0 in
    let h = c.args.host in
    let to = c.in-Some-relayed_to.to in
    let m : Message = (c.args.pipe, c.args.message.now) in
    let a : Handling = handling c.args.self.now m in
    let only : List DeedOf = Sends to m ∷ [] in
    let on : c.relay.new.self.store.journal.live ≡ true =
    ap (λ (s : Stored g.row.N.Denot). s.journal.live) c.relay.ensures.store ∙ c.requires.live in
    let b = relay_handles g.N.Nv.writes {n2 = c.relay.new.self} h to m u c.requires.live c.relay.ensures.store
    (c.relay.ensures.carried start w u may.1) in
    let power = b.stands.power ∙ ap not on in
    let held = d.held_is ∙ sym (held_kept b.after.ports w.ports h (quiet_after h m only b power)) in
    let later = plainly g.N.Nv.writes {n2 = c.let_go.new.self} (lets_go h) b.stands on c.let_go.ensures.store
    (c.let_go.ensures.carried _ _ start b.after b.stands held) (let_cut h b.after) (let_writes h b.after) (let_anyway h b.after) in
    let told = c.in-Some-relayed_to.ensures in
    let room = d.lacks ∙ ap (option_map lack_shown) (no_some c.args.short c.in_default.not-Some) in
    let is = d.deeds_are ∙ ap (deeds_shown a) told in
    let free = sym (ap (λ ds. lack w.ports (needs h (deeds_shown a ds))) told) ∙ room in
    brings_same (brings_then g.N.Nv.writes b power later) (λ plan. has_room h m only w is free plan)

pub let_go-requires-2 : goal.let_go-requires-2
let_go-requires-2 g c =
    let r = c.requires.decided in
    let h = c.args.host in
    let m : Message = (c.args.pipe, c.args.message.now) in
    let begun = turn_begun {given = c.give_back.new.self} {ends = c.set_holds.new.self} h m.0 m.1 r.2 (c.end_at.ensures r.1.core r.2.node)
    c.note.ensures.stays (λ kept. c.note.ensures.noted kept) c.give_back.ensures c.set_holds.ensures in
    let b : Brings g.N.Nv.writes c.args.self.now.store.journal.nv c.carry_all.new.self.store.journal.nv
    (IsInStep c.carry_all.new.self (g.W.Watch.noted c.carry_all.new.watch) (g.W.Watch.is_short c.carry_all.new.watch) r.0)
    (handles h m (deeds_shown (handling c.args.self.now m) c.args.deeds.now)) r.1 =
    brings_after (has_turn h m) refl (λ plan. refl) refl (c.carry_all.ensures.carried r.0 (has_turn h m r.1) begun) in
    let on : c.carry_all.new.self.store.journal.live ≡ true = ran_is c.carry_all.ensures.ran c.is_done.ensures ∙ c.if-not-is_done.false in record {
      few = (
        b.after.ports,
        b.stands.ends,
        few_kept r.1.ports b.after.ports h
            (sym (quiet_after h m (deeds_shown (handling c.args.self.now m) c.args.deeds.now) b (b.stands.power ∙ ap not on))) r.3.0.few,
      );
    }

pub returns-then-not-is_done-clause-carried : goal.returns-then-not-is_done-clause-carried
returns-then-not-is_done-clause-carried g c start w u may =
    let d = may.0 in
    let h = c.args.host in
    let m : Message = (c.args.pipe, c.args.message.now) in
    let deeds = deeds_shown (handling c.args.self.now m) c.args.deeds.now in
    let begun = turn_begun {given = c.give_back.new.self} {ends = c.set_holds.new.self} h m.0 m.1 u (c.end_at.ensures w.core u.node)
    c.note.ensures.stays (λ kept. c.note.ensures.noted kept) c.give_back.ensures c.set_holds.ensures in
    let b : Brings g.N.Nv.writes c.args.self.now.store.journal.nv c.carry_all.new.self.store.journal.nv
    (IsInStep c.carry_all.new.self (g.W.Watch.noted c.carry_all.new.watch) (g.W.Watch.is_short c.carry_all.new.watch) start)
    (handles h m deeds) w = brings_after (has_turn h m) refl (λ plan. refl) refl (c.carry_all.ensures.carried start (has_turn h m w) begun) in
    let dead = b.stands.power ∙ ap not (ran_is c.carry_all.ensures.ran c.is_done.ensures ∙ c.if-not-is_done.true) in
    let room = d.lacks ∙ ap (option_map lack_shown) (no_some c.args.short c.in_default.not-Some) in
    brings_same (brings_cut g.N.Nv.writes (lets_go h) b dead refl b.stands) (λ plan. has_room h m deeds w d.deeds_are room plan)

pub returns-clause-carried : goal.returns-clause-carried
returns-clause-carried g c start w u may =
    let d = may.0 in
    let h = c.args.host in
    let m : Message = (c.args.pipe, c.args.message.now) in
    let deeds = deeds_shown (handling c.args.self.now m) c.args.deeds.now in
    let begun = turn_begun {given = c.give_back.new.self} {ends = c.set_holds.new.self} h m.0 m.1 u (c.end_at.ensures w.core u.node)
    c.note.ensures.stays (λ kept. c.note.ensures.noted kept) c.give_back.ensures c.set_holds.ensures in
    let b : Brings g.N.Nv.writes c.args.self.now.store.journal.nv c.carry_all.new.self.store.journal.nv
    (IsInStep c.carry_all.new.self (g.W.Watch.noted c.carry_all.new.watch) (g.W.Watch.is_short c.carry_all.new.watch) start)
    (handles h m deeds) w = brings_after (has_turn h m) refl (λ plan. refl) refl (c.carry_all.ensures.carried start (has_turn h m w) begun) in
    let on : c.carry_all.new.self.store.journal.live ≡ true = ran_is c.carry_all.ensures.ran c.is_done.ensures ∙ c.if-not-is_done.false in
    let power = b.stands.power ∙ ap not on in
    let held = d.held_is ∙ sym (held_kept b.after.ports w.ports h (quiet_after h m deeds b power)) in
    let later = plainly g.N.Nv.writes {n2 = c.let_go-2.new.self} (lets_go h) b.stands on c.let_go-2.ensures.store
    (c.let_go-2.ensures.carried _ _ start b.after b.stands held) (let_cut h b.after) (let_writes h b.after) (let_anyway h b.after) in
    let room = d.lacks ∙ ap (option_map lack_shown) (no_some c.args.short c.in_default.not-Some) in
    brings_same (brings_then g.N.Nv.writes b power later) (λ plan. has_room h m deeds w d.deeds_are room plan)
