use Rattle.node_world.proofs.Words.{Activates, AllByRecursion, Entry, FewBehind, HostSite, IsHost, IsThere, IsWithinBounds, List, MayGoOn, NodeWorld, None}
use Rattle.node_world.proofs.Words.{Power, Some, Starts, WorldBecomes, activates, ap, append_assoc, arith, comes_at, end_c, end_h, false, if_off, is_running}
use Rattle.node_world.proofs.Words.{on_ok_weaker, refl, subst, sym, true, ℕ, ◌++◌, ◌+◌, ◌∙◌, ◌≡◌}
use Rattle.trace_model.specs.declared.entry.NoCause.TheVariants as no
use Rattle.trace_model.specs.declared.line.Line.TheVariants as line
use Rattle.node_laws.proofs.telling.Events.{comes_goes}
use Rattle.node_world.proofs.HostsHear.{unrefused}
use Rattle.node_world.proofs.FewInWorlds.{few_behind_coming, longer}
use Rattle.node_world.proofs.RoundsGo.{hosts_come, there_still}
use Rattle.node_world.proofs.LinesGo.{first_is, line_goes, line_refused, off_is, on_is, second_is, is_there, within}
use Rattle.node_world.proofs.node_lines.activate_line.Goals as goal

-- the world behind the first step, which is as ready for the second one
abbrev near : NodeWorld → ℕ → ℕ → NodeWorld × List Entry
near w h power = comes_at w (end_c h) (Starts power)

near_within : (w : NodeWorld) (h power : ℕ) → MayGoOn w → FewBehind 250000000 w → IsWithinBounds (near w h power).0
near_within w h power may few = record {
  goes_on = record {
    orderly = (comes_goes w (end_c h) (Starts power) may.orderly).orderly;
    hosts = subst (AllByRecursion IsHost) (sym (hosts_come w (end_c h) (Starts power))) may.hosts;
  };
  few = longer (250000000 + 1) 300000000 (near w h power).0 (omega arith) (few_behind_coming 250000000 w (end_c h) (Starts power) few);
}

near_there : (w : NodeWorld) (h power : ℕ) → IsThere h w → IsThere h (near w h power).0
near_there w h power there = there_still h (near w h power).0 w (hosts_come w (end_c h) (Starts power)) there

-- what was noted of both steps, one behind the other
both_steps : (k : Power) (new : List HostSite) (w : NodeWorld) (h sync power : ℕ) (before mid now : List Entry)
    → mid ≡ before ++ (near w h power).1 → WorldBecomes k new mid now (comes_at (near w h power).0 (end_h h) (Starts sync))
    → WorldBecomes k new before now (activates w h sync power)
both_steps k new w h sync power before mid now first second =
    let far : NodeWorld × List Entry = comes_at (near w h power).0 (end_h h) (Starts sync) in
    record {
      world = second.world;
      noted = second.noted ∙ (ap (λ es. es ++ far.1) first ∙ append_assoc before (near w h power).1 far.1);
    }

pub comes_to-requires-clause-state : goal.comes_to-requires-clause-state
comes_to-requires-clause-state c =
    let s = c.requires.state in
    (s.1, s.2, within s.3, is_there c.args.host s.3 s.3.is_line.may_follow.1.known)

pub comes_to-requires-clause-may : goal.comes_to-requires-clause-may
comes_to-requires-clause-may c = c.requires.state.3.is_line.may_follow.1.code

pub comes_to-requires-2-clause-state : goal.comes_to-requires-2-clause-state
comes_to-requires-2-clause-state c =
    let s = c.requires.state in
    let h : ℕ = c.args.host in
    let there = is_there h s.3 s.3.is_line.may_follow.1.known in
    let e = c.in_ok-comes_to.ensures in
    let first = unrefused s.1 (e.refusal s.1 s.2 (within s.3) there) (e.stands s.1 s.2 (within s.3) there) in (
      (near s.1 h c.args.power).0,
      first.world,
      near_within s.1 h c.args.power s.3.goes_on s.3.few,
      near_there s.1 h c.args.power there,
    )

pub returns-then-not-runs-clause-stands : goal.returns-then-not-runs-clause-stands
returns-then-not-runs-clause-stands c header w world may =
    on_ok_weaker c.refuse.result (line_refused w (line.Activate c.args.host c.args.sync c.args.power)
    c.args.controller.now c.args.sites.now c.args.noted.now.entries.items c.refuse.new.noted.entries.items c.requires.nothing no.Off
    (first_is (if_off w 0) (if_off w c.args.host) no.Off (off_is w 0 (sym (c.runs.ensures w world may.goes_on) ∙ c.if-not-runs.true))) world)
    c.refuse.ensures.noted

pub returns-then-not-runs-2-clause-stands : goal.returns-then-not-runs-2-clause-stands
returns-then-not-runs-2-clause-stands c header w world may =
    let e : is_running w 0 ≡ true = sym (c.runs.ensures w world may.goes_on) ∙ c.if-not-runs.false in
    let f : is_running w c.args.host ≡ false = sym (c.runs-2.ensures w world may.goes_on) ∙ c.if-not-runs-2.true in
    on_ok_weaker c.refuse-then-not-runs-2.result (line_refused w (line.Activate c.args.host c.args.sync c.args.power)
    c.args.controller.now c.args.sites.now c.args.noted.now.entries.items c.refuse-then-not-runs-2.new.noted.entries.items c.requires.nothing no.Off
    (second_is (if_off w 0) (if_off w c.args.host) (Some no.Off) (on_is w 0 e) (off_is w c.args.host f)) world)
    c.refuse-then-not-runs-2.ensures.noted

pub returns-clause-stands : goal.returns-clause-stands
returns-clause-stands c header w world may =
    let h : ℕ = c.args.host in
    let power : ℕ = c.args.power in
    let on : is_running w 0 ≡ true = sym (c.runs.ensures w world may.goes_on) ∙ c.if-not-runs.false in
    let host_on : is_running w h ≡ true = sym (c.runs-2.ensures w world may.goes_on) ∙ c.if-not-runs-2.false in
    let there = is_there h may may.is_line.may_follow.1.known in
    let v = (near w h power).0 in
    let e = c.in_ok-comes_to.ensures in
    let f = c.in_ok-comes_to-2.ensures in
    let first = unrefused w (e.refusal w world (within may) there) (e.stands w world (within may) there) in
    let within_still = near_within w h power may.goes_on may.few in
    let still = near_there w h power there in
    let before : List Entry = c.args.noted.now.entries.items in
    let now : List Entry = c.comes_to-2.new.noted.entries.items in
    line_goes w (line.Activate h c.args.sync power) c.comes_to-2.new.controller c.comes_to-2.new.sites before now c.requires.nothing
    (Activates h c.args.sync power) refl (second_is (if_off w 0) (if_off w h) None (on_is w 0 on) (on_is w h host_on))
    (both_steps c.comes_to-2.new.controller c.comes_to-2.new.sites w h c.args.sync power before c.comes_to.new.noted.entries.items now first.noted
    (unrefused v (f.refusal v first.world within_still still) (f.stands v first.world within_still still)))
