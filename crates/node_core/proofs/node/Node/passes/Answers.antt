use Rattle.node_core.proofs.Words.{Brings, IsInStep, add-one, ap, got_at, have_turns, not, refl, subst, sym, true, ℕ, ◌∙◌, ◌≡◌}
use Rattle.node_core.proofs.HavingTurns.{no_some}
use Rattle.node_core.proofs.Elsewhere.{is_host_at}
use Rattle.node_core.proofs.Passing.{PassesOn, pass_rests, pass_begins, next_few, pass_goes_on, pass_stops, pass_ends, pass_over, pass_full}
use Rattle.node_core.proofs.Faults.{faults_stay, faults_then, ran_is}
use Rattle.node_core.proofs.node.Node.passes.Goals as goal

pub loop-i-init : goal.loop-i-init
loop-i-init g c = record {
  usable = c.requires.usable;
  live = c.requires.live;
  number = refl;
  faults = faults_stay g.N.Nv.faults c.requires.live refl;
  lies = c.requires.lies;
  goes = λ start w u order few. pass_begins g.N.Nv.writes u order few;
}

pub returns-in_default-clause-carried : goal.returns-in_default-clause-carried
returns-in_default-clause-carried g c start w u may =
    let k = c.loop-i.invariant.goes start w u may.0 may.1 in
    pass_ends k (pass_over k (sym (no_some c.host.result c.in_default.not-Some) ∙ c.host.ensures k.now.ports k.under.ends)) c.loop-i.invariant.live

pub have_turns-requires-clause-some : goal.have_turns-requires-clause-some
have_turns-requires-clause-some g c =
    let r = c.requires.may in
    let k = c.loop-i.invariant.goes r.0 r.1 r.2 r.3.0 r.3.1 in
    (is_host_at c.loop-i.i k.now.ports c.in-Some.host k.order.hosts (sym c.in-Some.is ∙ c.host.ensures k.now.ports k.under.ends)).0

pub have_turns-requires-clause-host : goal.have_turns-requires-clause-host
have_turns-requires-clause-host g c =
    let r = c.requires.may in
    let k = c.loop-i.invariant.goes r.0 r.1 r.2 r.3.0 r.3.1 in
    (is_host_at c.loop-i.i k.now.ports c.in-Some.host k.order.hosts (sym c.in-Some.is ∙ c.host.ensures k.now.ports k.under.ends)).1

pub have_turns-requires-clause-may : goal.have_turns-requires-clause-may
have_turns-requires-clause-may g c =
    let r = c.requires.may in
    let k = c.loop-i.invariant.goes r.0 r.1 r.2 r.3.0 r.3.1 in
    (r.0, k.now, k.under, (k.order, next_few k c.in-Some.host (sym c.in-Some.is ∙ c.host.ensures k.now.ports k.under.ends)))

pub returns-then-not-is_done-clause-carried : goal.returns-then-not-is_done-clause-carried
returns-then-not-is_done-clause-carried g c start w u may =
    let h = c.in-Some.host in
    let k = c.loop-i.invariant.goes start w u may.0 may.1 in
    let is = sym c.in-Some.is ∙ c.host.ensures k.now.ports k.under.ends in
    let t = c.have_turns in
    let b : Brings g.N.Nv.writes c.loop-i.self.store.journal.nv t.new.self.store.journal.nv
    (IsInStep t.new.self (g.W.Watch.noted t.new.watch) (g.W.Watch.is_short t.new.watch) start) (have_turns h (got_at k.now.ports h)) k.now =
    t.ensures.carried start k.now k.under k.order (next_few k h is) in
    pass_stops k h is b (b.stands.power ∙ ap not (ran_is t.ensures.ran c.is_done.ensures ∙ c.if-not-is_done.true))

pub loop-i-preserved-then-rests : goal.loop-i-preserved-then-rests
loop-i-preserved-then-rests g c =
    let invariant = c.loop-i.invariant in
    record {
      usable = invariant.usable;
      live = invariant.live;
      number = invariant.number;
      faults = invariant.faults;
      lies = invariant.lies;
      goes = λ start w u order few.
          let k = invariant.goes start w u order few in
          let quiet = sym (c.rests.ensures k.now.ports k.under.ends) ∙ c.if-rests.true in
          let P : ℕ → Type 0 = λ m. PassesOn g.N.Nv.writes c.args.self.now c.loop-i.self (g.W.Watch.noted c.loop-i.watch)
          (g.W.Watch.is_short c.loop-i.watch) start m w in
          subst P (sym (add-one c.loop-i.i)) (pass_rests k quiet invariant.live);
    }

pub loop-i-preserved : goal.loop-i-preserved
loop-i-preserved g c =
    let t = c.have_turns in
    let on : t.new.self.store.journal.live ≡ true = ran_is t.ensures.ran c.is_done.ensures ∙ c.if-not-is_done.false in
    record {
      usable = t.ensures.usable;
      live = on;
      number = t.ensures.number ∙ c.loop-i.invariant.number;
      faults = faults_then g.N.Nv.faults c.loop-i.invariant.faults t.ensures.faults;
      lies = tt;
      goes = λ start w u order few.
          let h = c.in-Some.host in
          let k = c.loop-i.invariant.goes start w u order few in
          let is = sym c.in-Some.is ∙ c.host.ensures k.now.ports k.under.ends in
          let b : Brings g.N.Nv.writes c.loop-i.self.store.journal.nv t.new.self.store.journal.nv
          (IsInStep t.new.self (g.W.Watch.noted t.new.watch) (g.W.Watch.is_short t.new.watch) start) (have_turns h (got_at k.now.ports h)) k.now =
          t.ensures.carried start k.now k.under k.order (next_few k h is) in
          let P : ℕ → Type 0 = λ m. PassesOn g.N.Nv.writes c.args.self.now t.new.self (g.W.Watch.noted t.new.watch) (g.W.Watch.is_short t.new.watch)
          start m w in
          subst P (sym (add-one c.loop-i.i)) (pass_goes_on k h is b (b.stands.power ∙ ap not on) c.loop-i.invariant.live);
    }

pub returns-clause-carried : goal.returns-clause-carried
returns-clause-carried g c start w u may =
    let k = c.loop-i.invariant.goes start w u may.0 may.1 in
    pass_ends k (pass_full k c.loop-i-test.false) c.loop-i.invariant.live
