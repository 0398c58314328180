use Rattle.std.proofs.lemmas.Bool.Decides.{nat_tests}
use Rattle.std.proofs.lemmas.Iterator.Search.{any_from_yields_List}
use Rattle.node_deeds.proofs.Words.{YieldsList-from_slice, arith, list_any, row_waits_for, rules, tests, true, ◌≡◌, None, Ok, Some, ap, controller_core}
use Rattle.node_deeds.proofs.Words.{deeds_by_relay, deeds_shown, eqb, event_deeds, false, handled, ports_shown, relayed_to, sym, view_of, ◌&&◌, ◌∙◌}
use Rattle.node_deeds.proofs.Control.{desk_sound, kind_waits, kind_commands, kind_tells, kind_replies, deeds_of_core, not_relayed, own_done}
use Rattle.node_deeds.proofs.Views.{link_found, asks_shown, about_found}
use Rattle.node_deeds.proofs.controller.put_controller_deeds.Goals.{else-pipe-eq-ADMINISTRATION_PIPE-via-then-pipe-eq-ADMINISTRATION_PIPE+else-any}
use Rattle.node_deeds.proofs.controller.put_controller_deeds.Goals.{else-pipe-eq-ADMINISTRATION_PIPE-via-else-pipe-eq-ADMINISTRATION_PIPE}
use Rattle.node_deeds.proofs.controller.put_controller_deeds.Goals as goal

pub replied-requires-clause-sound : goal.replied-requires-clause-sound
replied-requires-clause-sound g c =
    desk_sound c.args.desks.now c.args.host c.in-Some-desk_at.desk.now c.requires.sound (sym c.in-Some-desk_at.ensures)

pub returns-in-Some-clause-deeds : goal.returns-in-Some-clause-deeds
returns-in-Some-clause-deeds g c = λ core ports kept seen.
    let s = c.args.store.now in
    let h = c.args.host in
    let up = c.args.up in
    let desks = c.args.desks.now in
    let a = handled c.args.pipe c.args.message.now in
    let to = ap (λ t. relayed_to t h a.message) (sym c.tables.ensures) ∙ (sym c.relayed_to.ensures ∙ c.in-Some.is) in
    c.relayed.ensures.deeds
    ∙ (ap (deeds_by_relay (view_of (controller_core s.journal.state s.tables) (ports_shown up desks)) h a.message) (sym to)
    ∙ deeds_of_core s core up desks ports h a.message kept seen)

pub returns-in_default-desk_at-clause-deeds : goal.returns-in_default-desk_at-clause-deeds
returns-in_default-desk_at-clause-deeds g c = λ core ports kept seen.
    let s = c.args.store.now in
    let h = c.args.host in
    let up = c.args.up in
    let desks = c.args.desks.now in
    let a = handled c.args.pipe c.args.message.now in
    not_relayed s core up desks ports h a.message kept seen _ c.tables.ensures c.in_default.ensures false
    (link_found up desks h None c.in_default-desk_at.ensures) _ (ap (deeds_shown a) c.dropped.ensures)

pub returns-then-not-is_in-clause-deeds : goal.returns-then-not-is_in-clause-deeds
returns-then-not-is_in-clause-deeds g c = λ core ports kept seen.
    let s = c.args.store.now in
    let h = c.args.host in
    let up = c.args.up in
    let desks = c.args.desks.now in
    let a = handled c.args.pipe c.args.message.now in
    not_relayed s core up desks ports h a.message kept seen _ c.tables.ensures c.in_default.ensures false
    (sym c.if-not-is_in.true ∙ (c.is_in.ensures ∙ link_found up desks h (Some c.in-Some-desk_at.desk.now) c.in-Some-desk_at.ensures)) _
    (ap (deeds_shown a) c.dropped-then-not-is_in.ensures)

pub returns-then-any-clause-deeds : goal.returns-then-any-clause-deeds
returns-then-any-clause-deeds g c = λ core ports kept seen.
    let s = c.args.store.now in
    let h = c.args.host in
    let up = c.args.up in
    let desks = c.args.desks.now in
    let a = handled c.args.pipe c.args.message.now in
    let core_is = controller_core s.journal.state s.tables in
    let arm = c.in-Ok-Command-default in
    let header = sym c.read_header.ensures.header ∙ (arm.is ∙ ap (λ kind. Ok (kind, arm._instruction)) arm.field-0-0-is) in
    let on : eqb c.args.pipe 1 ≡ true = ap (λ n. eqb n 1) c.if-pipe-eq-ADMINISTRATION_PIPE.true in
    let any : c.any.result ≡ list_any (row_waits_for h) desks =
    any_from_yields_List (row_waits_for h) _ _ _ c.any.ensures.ran (YieldsList-from_slice desks cc) (λ x b q k. search (rules, tests)) in
    let waits = ap (λ b. eqb c.args.pipe 1 && b) (sym (asks_shown up desks h)) ∙ rw on (sym any ∙ c.if-any.true) in
    own_done s core up desks ports h a.message kept seen _ c.tables.ensures c.in_default.ensures _ c.in-Some-desk_at.ensures _ c.is_in.ensures
    c.if-not-is_in.false _
    (ap (deeds_shown a) c.dropped-then-any.ensures ∙ kind_waits core_is (ports_shown up desks) h a.message arm._instruction header waits)

pub returns-else-pipe-eq-ADMINISTRATION_PIPE-clause-deeds : goal.returns-else-pipe-eq-ADMINISTRATION_PIPE-clause-deeds
returns-else-pipe-eq-ADMINISTRATION_PIPE-clause-deeds g c = λ core ports kept seen.
    let s = c.args.store.now in
    let h = c.args.host in
    let up = c.args.up in
    let desks = c.args.desks.now in
    let a = handled c.args.pipe c.args.message.now in
    let core_is = controller_core s.journal.state s.tables in
    let arm = c.in-Ok-Command-default in
    let header = sym c.read_header.ensures.header ∙ (arm.is ∙ ap (λ kind. Ok (kind, arm._instruction)) arm.field-0-0-is) in
    let none : (eqb c.args.pipe 1 && list_any (row_waits_for h) desks) ≡ false = elim c.else-pipe-eq-ADMINISTRATION_PIPE.branch [
      | else-pipe-eq-ADMINISTRATION_PIPE-via-then-pipe-eq-ADMINISTRATION_PIPE+else-any w ↦
          let any : w.any.result ≡ list_any (row_waits_for h) desks =
          any_from_yields_List (row_waits_for h) _ _ _ w.any.ensures.ran (YieldsList-from_slice desks cc) (λ x b q k. search (rules, tests)) in
          rw (ap (λ n. eqb n 1) w.if-pipe-eq-ADMINISTRATION_PIPE.true) (sym any ∙ w.if-any.false)
      | else-pipe-eq-ADMINISTRATION_PIPE-via-else-pipe-eq-ADMINISTRATION_PIPE w ↦ grind (arith, nat_tests)
    ] in
    let waits = ap (λ b. eqb c.args.pipe 1 && b) (sym (asks_shown up desks h)) ∙ none in
    own_done s core up desks ports h a.message kept seen _ c.tables.ensures c.in_default.ensures _ c.in-Some-desk_at.ensures _ c.is_in.ensures
    c.if-not-is_in.false _
    (c.commanded.ensures.deeds ∙ kind_commands core_is (ports_shown up desks) h a.message arm._instruction header waits)

pub returns-in-Ok-Event-default-clause-deeds : goal.returns-in-Ok-Event-default-clause-deeds
returns-in-Ok-Event-default-clause-deeds g c = λ core ports kept seen.
    let s = c.args.store.now in
    let h = c.args.host in
    let up = c.args.up in
    let desks = c.args.desks.now in
    let a = handled c.args.pipe c.args.message.now in
    let core_is = controller_core s.journal.state s.tables in
    let arm = c.in-Ok-Event-default in
    let header = sym c.read_header.ensures.header ∙ (arm.is ∙ ap (λ kind. Ok (kind, arm._instruction)) arm.field-0-0-is) in
    own_done s core up desks ports h a.message kept seen _ c.tables.ensures c.in_default.ensures _ c.in-Some-desk_at.ensures _ c.is_in.ensures
    c.if-not-is_in.false _
    (c.posted.ensures.deeds ∙ (ap (λ t. event_deeds t h a.message) c.tables-in-Ok-Event-default.ensures
    ∙ kind_tells core_is (ports_shown up desks) h a.message arm._instruction header))

pub returns-then-pipe-eq-ADMINISTRATION_PIPE-2-clause-deeds : goal.returns-then-pipe-eq-ADMINISTRATION_PIPE-2-clause-deeds
returns-then-pipe-eq-ADMINISTRATION_PIPE-2-clause-deeds g c = λ core ports kept seen.
    let s = c.args.store.now in
    let h = c.args.host in
    let up = c.args.up in
    let desks = c.args.desks.now in
    let a = handled c.args.pipe c.args.message.now in
    let core_is = controller_core s.journal.state s.tables in
    let arm = c.in-Ok-Response-default in
    let header = sym c.read_header.ensures.header ∙ (arm.is ∙ ap (λ kind. Ok (kind, arm.code)) arm.field-0-0-is) in
    own_done s core up desks ports h a.message kept seen _ c.tables.ensures c.in_default.ensures _ c.in-Some-desk_at.ensures _ c.is_in.ensures
    c.if-not-is_in.false _
    (c.replied.ensures.deeds a
    ∙ kind_replies core_is (ports_shown up desks) h a.message arm.code _ (about_found up desks h c.in-Some-desk_at.desk.now c.in-Some-desk_at.ensures) header
    c.if-pipe-eq-ADMINISTRATION_PIPE-2.true)
