use Rattle.std.proofs.lemmas.List.{length-set}
use Rattle.node_world.proofs.Words.{List, ap, arith, length, refl, slice_set, subst, sym, ℕ, ◌+◌, ◌<◌, ◌∙◌, ◌≡◌}
use Rattle.node_world.proofs.SitesKept.{NumbersFound, no_numbers, number_found, number_passed, numbers_are}
use Rattle.node_world.proofs.controller_sites.sessions_of.Goals.{then-host-lt8, else-host-lt8}
use Rattle.node_world.proofs.controller_sites.sessions_of.Goals as goal

pub loop-i-init : goal.loop-i-init
loop-i-init c = record { eight = refl; goes = λ hosts a. no_numbers _ hosts }

pub loop-i-preserved : goal.loop-i-preserved
loop-i-preserved c = elim c.if-host-lt8.branch [
  | then-host-lt8 w ↦ record {
    eight = ap length w.sessions-is ∙ (length-set c.loop-i.sessions c.from-host.result w.session.result ∙ c.loop-i.invariant.eight);
    goes = λ hosts a.
        let k = c.index-sites-i.result in
        let F : List ℕ → Type 0 = λ s. NumbersFound (c.loop-i.i + 1) s hosts in
        let low : k.host < 8 = omega (arith, w.if-host-lt8.true, c.from-host.ensures) in
        let is : slice_set c.loop-i.sessions k.host w.session.result ≡ c.if-host-lt8.sessions =
        ap (λ h. slice_set c.loop-i.sessions h w.session.result) (sym c.from-host.ensures) ∙ sym w.sessions-is in
        subst F is (number_found c.loop-i.i c.args.sites.now hosts c.loop-i.sessions k w.session.result a
        (c.loop-i.invariant.goes hosts a) c.loop-i-test.true c.index-sites-i.is c.loop-i.invariant.eight low w.session.ensures);
  }
  | else-host-lt8 w ↦ record {
    eight = ap length w.sessions-is ∙ c.loop-i.invariant.eight;
    goes = λ hosts a.
        let k = c.index-sites-i.result in
        let F : List ℕ → Type 0 = λ s. NumbersFound (c.loop-i.i + 1) s hosts in
        subst F (sym w.sessions-is) (number_passed c.loop-i.i c.args.sites.now hosts c.loop-i.sessions k a
        (c.loop-i.invariant.goes hosts a) c.loop-i-test.true c.index-sites-i.is (omega (arith, w.if-host-lt8.false, c.from-host.ensures)));
  }
]

pub returns : goal.returns
returns c hosts a d h = numbers_are c.loop-i.i c.args.sites.now hosts c.loop-i.sessions a (c.loop-i.invariant.goes hosts a) c.loop-i-test.false d h
