use Rattle.world.proofs.Words.{BareWorld, End, History, Link, List, None, Play, WorldStandsFor, ap, end_for, false, link_at, refl, subst, sym, true, ◌+◌, ◌∙◌}
use Rattle.world.proofs.Words.{◌≡◌}
use Rattle.world.proofs.RoundLemmas.{seen_at_host, seen_at_controller}
use Rattle.world.proofs.BareWorlds.{Law, WasStepped, Grows, controller_of, host_grows, controller_grows, few_sent, few_said, none_misread, one_misread}
use Rattle.world.proofs.bare_world.BareWorld.step.Goals as goal
use Rattle.world.proofs.bare_world.BareWorld.step.Goals.{then-at+in_ok-play_line, else-at+in_ok-play_line-2}

-- what the line adds, on whichever side the end is from which it is seen
grown : (c : goal.In-None) (plays : List Play) (t : History) → WorldStandsFor c.args.self.now c.args.self.now.header plays t
    → Grows c.if-at.self c.args.self.now.header plays t c.args.line.now
grown c plays t h =
    let e = c.every_history_is_legal.ensures in
    let law : Law = record { in_order = e.in_order; joined = e.joined; complete = e.complete; settled = e.settled } in
    let seen : c.end_of-at.result ≡ end_for (controller_of c.args.self.now.header) c.args.line.now =
    c.end_of-at.ensures ∙ ap (λ x. end_for x c.args.line.now) c.controller_end.ensures in
    elim c.if-at.branch [
      | then-at+in_ok-play_line w ↦
          (let l : Link = link_at t in
          let old : BareWorld = c.args.self.now in
          let at : End = c.end_of-at.result in
          let now : BareWorld = record {
            header = old.header;
            controller = w.play_line.new.far;
            host = w.play_line.new.near;
            resets = w.play_line.new.resets;
            stepped = old.stepped + 1;
            rounds = old.rounds;
            entries = w.play_line.new.entries;
            spare = w.play_line.new.spare;
          } in
          let side : at.at_host ≡ true = w.if-at.true in
          let stands = seen_at_host at side h.link in
          let o = w.play_line.new.other in
          let none : o ≡ None = sym w.other-is ∙ c.in-None.is in
          let stepped : WasStepped old now old.header plays t c.args.line.now =
          record {
            before = h;
            is_line = c.requires.line;
            room = few_said c.requires.room h;
            header_is = refl;
            none_misread = none_misread l c.args.line.now o none (w.in_ok-play_line.ensures.misread l stands);
            counted = refl;
            same = refl;
          } in
          let P : BareWorld → Type 0 = λ x. Grows x old.header plays t c.args.line.now in
          subst P (sym w.self-is)
          (host_grows law stepped seen side (w.in_ok-play_line.ensures.stands l stands (few_sent h) none)))
      | else-at+in_ok-play_line-2 w ↦
          (let l : Link = link_at t in
          let old : BareWorld = c.args.self.now in
          let at : End = c.end_of-at.result in
          let now : BareWorld = record {
            header = old.header;
            controller = w.play_line-else-at.new.near;
            host = w.play_line-else-at.new.far;
            resets = w.play_line-else-at.new.resets;
            stepped = old.stepped + 1;
            rounds = old.rounds;
            entries = w.play_line-else-at.new.entries;
            spare = w.play_line-else-at.new.spare;
          } in
          let side : at.at_host ≡ false = w.if-at.false in
          let stands = seen_at_controller at side h.link in
          let o = w.play_line-else-at.new.other in
          let none : o ≡ None = sym w.other-is ∙ c.in-None.is in
          let stepped : WasStepped old now old.header plays t c.args.line.now =
          record {
            before = h;
            is_line = c.requires.line;
            room = few_said c.requires.room h;
            header_is = refl;
            none_misread = none_misread l c.args.line.now o none (w.in_ok-play_line-2.ensures.misread l stands);
            counted = refl;
            same = refl;
          } in
          let P : BareWorld → Type 0 = λ x. Grows x old.header plays t c.args.line.now in
          subst P (sym w.self-is)
          (controller_grows law stepped seen side (w.in_ok-play_line-2.ensures.stands l stands (few_sent h) none)))
    ]

pub returns-in-None-clause-stands : goal.returns-in-None-clause-stands
returns-in-None-clause-stands c plays t h = (grown c plays t h).stands

pub returns-in-None-clause-entries : goal.returns-in-None-clause-entries
returns-in-None-clause-entries c plays t h = (grown c plays t h).entries_are

pub returns-in-Some-clause-fault : goal.returns-in-Some-clause-fault
returns-in-Some-clause-fault c plays t h =
    elim c.if-at.branch [
      | then-at+in_ok-play_line w ↦
          (let old : BareWorld = c.args.self.now in
          let stands = seen_at_host c.end_of-at.result w.if-at.true h.link in
          one_misread (link_at t) c.args.line.now w.play_line.new.other c.in-Some.field-0 (sym w.other-is ∙ c.in-Some.is)
          (w.in_ok-play_line.ensures.misread (link_at t) stands))
      | else-at+in_ok-play_line-2 w ↦
          (let old : BareWorld = c.args.self.now in
          let stands = seen_at_controller c.end_of-at.result w.if-at.false h.link in
          one_misread (link_at t) c.args.line.now w.play_line-else-at.new.other c.in-Some.field-0 (sym w.other-is ∙ c.in-Some.is)
          (w.in_ok-play_line-2.ensures.misread (link_at t) stands))
    ]
