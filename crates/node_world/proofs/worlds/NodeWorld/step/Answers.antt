use Rattle.node_world.proofs.Words.{Header, HostSite, IfOk, IsMisreadIn, Line, LinePlayed, List, Machine, MayPlay, Misread, NoMemory, None, Noted, Ok, Option}
use Rattle.node_world.proofs.Words.{Play, Power, Result, WorldIs, arith, length, line_step, lines_played, misread_in, nodes_behind, on_err, refl, subst, sym}
use Rattle.node_world.proofs.Words.{with_items, with_items_is, ◌+◌, ◌≡◌}
use Rattle.node_world.specs.declared.worlds.NodeWorld.{NodeWorld}
use Rattle.node_world.proofs.LinesGo.{is_sound, sound_reads}
use Rattle.node_world.proofs.WorldsStepped.{may_be_said, stands_answered, entries_answered, steps_few}
use Rattle.node_world.proofs.worlds.NodeWorld.step.Goals as goal

-- the world behind the plays before
abbrev behind : Header → List Play → Machine
behind header plays = nodes_behind header (lines_played header plays)

-- what is kept where these came back, and the hosts are written back as a vector
abbrev after : NodeWorld → Power → List HostSite → Noted → NodeWorld
after old k ks noted = record old { controller = k; sites = with_items old.sites ks; stepped = old.stepped + 1; noted = noted }

-- the hosts as a slice stand for those of the world
as_slice : (old : NodeWorld) (ks : List HostSite) (w : Machine) → ks ≡ old.sites.items → WorldIs old.controller old.sites.items w
    → WorldIs old.controller ks w
as_slice old ks w same stands = let W : List HostSite → Type 0 = λ xs. WorldIs old.controller xs w in subst W (sym same) stands

written : (old : NodeWorld) (said : Line) (w : Machine) (k : Power) (ks : List HostSite) (noted : Noted) (result : Result (Option Misread) NoMemory)
    → length ks ≡ old.sites.len → IfOk result (λ other. other ≡ None → LinePlayed k ks noted.entries.items (line_step w said))
    → IfOk result (λ other. other ≡ None → LinePlayed k (with_items old.sites ks).items noted.entries.items (line_step w said))
written old said w k ks noted result many played = rw (with_items_is old.sites ks many) played

pub damage_line-requires-clause-state : goal.damage_line-requires-clause-state
damage_line-requires-clause-state c =
    let r = c.requires.room in
    let old = c.args.self.now in
    let w = behind r.header r.plays in (
      r.header,
      w,
      as_slice old c.as_mut_slice-sites.result.now w c.as_mut_slice-sites.ensures.value r.stands.stands,
      rw c.in-Damage.is at (may_be_said old c.args.line.now r.header r.plays r.stands r.may),
    )

pub play_line-requires-clause-state : goal.play_line-requires-clause-state
play_line-requires-clause-state c =
    let r = c.requires.room in
    let old = c.args.self.now in
    let w = behind r.header r.plays in (
      r.header,
      w,
      as_slice old c.as_mut_slice-sites.result.now w c.as_mut_slice-sites.ensures.value r.stands.stands,
      may_be_said old c.args.line.now r.header r.plays r.stands r.may,
    )

pub play_line-requires-clause-sound : goal.play_line-requires-clause-sound
play_line-requires-clause-sound c = is_sound c.args.line.now c.in_default.not-Damage

pub returns-in-Damage-clause-stands : goal.returns-in-Damage-clause-stands
returns-in-Damage-clause-stands c header plays s may =
    let old = c.args.self.now in
    let line = c.args.line.now in
    let d = c.damage_line in
    let w = behind header plays in
    let world = as_slice old c.as_mut_slice-sites.result.now w c.as_mut_slice-sites.ensures.value s.stands in
    let p = may_be_said old line header plays s may in
    let many : length d.new.sites ≡ old.sites.len = omega (arith, d.auto.sites, c.as_mut_slice-sites.ensures.len) in
    let L : Line → Type 0 = λ l. MayPlay header l w → IfOk d.result (λ other. other ≡ None
    → LinePlayed d.new.controller d.new.sites d.new.noted.entries.items (line_step w l)) in
    stands_answered d.result old (after old d.new.controller d.new.sites d.new.noted) header plays line s may
    (steps_few old line c.requires.room header plays s)
    (written old line w d.new.controller d.new.sites d.new.noted d.result many (subst L (sym c.in-Damage.is) (d.ensures.stands header w world) p))
    (subst (λ l. IfOk d.result (IsMisreadIn w l)) (sym c.in-Damage.is) (d.ensures.misread w world p.goes_on)) d.ensures.memory refl refl refl

pub returns-in-Damage-clause-entries : goal.returns-in-Damage-clause-entries
returns-in-Damage-clause-entries c header plays s may =
    let old = c.args.self.now in
    let line = c.args.line.now in
    let d = c.damage_line in
    let w = behind header plays in
    let world = as_slice old c.as_mut_slice-sites.result.now w c.as_mut_slice-sites.ensures.value s.stands in
    let L : Line → Type 0 = λ l. MayPlay header l w → IfOk d.result (λ other. other ≡ None
    → LinePlayed d.new.controller d.new.sites d.new.noted.entries.items (line_step w l)) in
    entries_answered d.result old (after old d.new.controller d.new.sites d.new.noted) header plays line s may
    (written old line w d.new.controller d.new.sites d.new.noted d.result (omega (arith, d.auto.sites, c.as_mut_slice-sites.ensures.len))
    (subst L (sym c.in-Damage.is) (d.ensures.stands header w world) (may_be_said old line header plays s may)))

pub returns-in-Damage-clause-misread : goal.returns-in-Damage-clause-misread
returns-in-Damage-clause-misread c header plays s may =
    let old = c.args.self.now in
    let w = behind header plays in
    rw c.in-Damage.is (c.damage_line.ensures.misread w
    (as_slice old c.as_mut_slice-sites.result.now w c.as_mut_slice-sites.ensures.value s.stands)
    (may_be_said old c.args.line.now header plays s may).goes_on)

pub returns-in-Damage-clause-told : goal.returns-in-Damage-clause-told
returns-in-Damage-clause-told c header plays s may =
    let old = c.args.self.now in
    let w = behind header plays in
    rw c.in-Damage.is (c.damage_line.ensures.told w
    (as_slice old c.as_mut_slice-sites.result.now w c.as_mut_slice-sites.ensures.value s.stands)
    (may_be_said old c.args.line.now header plays s may).goes_on)

pub returns-clause-stands : goal.returns-clause-stands
returns-clause-stands c header plays s may =
    let old = c.args.self.now in
    let line = c.args.line.now in
    let d = c.play_line in
    let w = behind header plays in
    let world = as_slice old c.as_mut_slice-sites.result.now w c.as_mut_slice-sites.ensures.value s.stands in
    let p = may_be_said old line header plays s may in
    let many : length d.new.sites ≡ old.sites.len = omega (arith, d.auto.sites, c.as_mut_slice-sites.ensures.len) in
    let ok : Result (Option Misread) NoMemory = Ok None in
    stands_answered ok old (after old d.new.controller d.new.sites d.new.noted) header plays line s may
    (steps_few old line c.requires.room header plays s)
    (written old line w d.new.controller d.new.sites d.new.noted ok many (λ none. c.in_ok-play_line.ensures.stands header w world p s.mask_is))
    (sound_reads w line (is_sound line c.in_default.not-Damage)) c.in_ok-play_line.ensures.memory refl refl refl

pub returns-clause-entries : goal.returns-clause-entries
returns-clause-entries c header plays s may =
    let old = c.args.self.now in
    let line = c.args.line.now in
    let d = c.play_line in
    let w = behind header plays in
    let world = as_slice old c.as_mut_slice-sites.result.now w c.as_mut_slice-sites.ensures.value s.stands in
    let p = may_be_said old line header plays s may in
    let many : length d.new.sites ≡ old.sites.len = omega (arith, d.auto.sites, c.as_mut_slice-sites.ensures.len) in
    let ok : Result (Option Misread) NoMemory = Ok None in
    entries_answered ok old (after old d.new.controller d.new.sites d.new.noted) header plays line s may
    (written old line w d.new.controller d.new.sites d.new.noted ok many (λ none. c.in_ok-play_line.ensures.stands header w world p s.mask_is))

pub returns-clause-misread : goal.returns-clause-misread
returns-clause-misread c header plays s may = sound_reads (behind header plays) c.args.line.now (is_sound c.args.line.now c.in_default.not-Damage)

pub returns-in_err-play_line-clause-told : goal.returns-in_err-play_line-clause-told
returns-in_err-play_line-clause-told c header plays s may =
    on_err c.from_residual.result (misread_in (behind header plays) c.args.line.now ≡ None)
    (sound_reads (behind header plays) c.args.line.now (is_sound c.args.line.now c.in_default.not-Damage))
