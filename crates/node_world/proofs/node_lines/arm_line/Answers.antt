use Rattle.std.specs.List.{each_same}
use Rattle.node_world.proofs.Words.{Arms, ArrayVec, Entry, HostSite, LinePlayed, List, NodeWorld, None, Plan, Power, StandsAt, WorldIs, [], ap, append-nil}
use Rattle.node_world.proofs.Words.{false, length, line_step, link_to, memory_at, ne_eqb, refl, rules, site_at, subst, sym, world_step, ℕ, ◌<◌, ◌==◌, ◌∙◌, ◌≡◌}
use Rattle.trace_model.specs.declared.line.Line.TheVariants as line
use Rattle.node_world.proofs.HostsInWorlds.{reads, site_stands, armed_in_world, armed, none_changed, found_becomes}
use Rattle.node_world.proofs.LinesGo.{line_goes}
use Rattle.node_world.proofs.node_lines.arm_line.Goals as goal

-- where no host has this number, nothing changes
nothing_armed : (w : NodeWorld) (n : ℕ) (plan : Plan) → (n == 0) ≡ false → site_at w.sites n ≡ None → (world_step w (Arms n plan)).0 ≡ w
nothing_armed w n plan off none =
    (rw off refl) ∙ ap (λ xs. record w { sites = xs }) (none_changed n (λ s. record s { memory = armed plan (memory_at w n) }) w.sites none)

-- the line is played where the world is so behind it
armed_so : (w : NodeWorld) (n nth : ℕ) (fill : ArrayVec ℕ) (copy : List ℕ) (k : Power) (ks : List HostSite) (entries : List Entry) → entries ≡ []
    → copy ≡ fill.items → WorldIs k ks (world_step w (Arms n (record { nth = nth; fill = copy }))).0
    → LinePlayed k ks entries (line_step w (line.Arm n nth fill))
armed_so w n nth fill copy k ks entries nothing same world =
    line_goes w (line.Arm n nth fill) k ks entries entries nothing (Arms n (record { nth = nth; fill = fill.items })) refl refl
    (record { world = rw same at world; noted = sym (append-nil entries) })

long : (fill : List ℕ) (copy : List ℕ) → copy ≡ fill → 0 < length fill → 0 < length copy
long fill copy same some = let Some : List ℕ → Type 0 = λ xs. 0 < length xs in subst Some (sym same) some

pub arm-requires-clause-nth : goal.arm-requires-clause-nth
arm-requires-clause-nth c = c.requires.state.3.is_line.may_follow.1.which.0

pub arm-requires-clause-fill : goal.arm-requires-clause-fill
arm-requires-clause-fill c = long _ _ (each_same _ _ c.in_ok-fill.ensures.cases) c.requires.state.3.is_line.may_follow.1.long.0

pub arm-requires-in-Some-clause-nth : goal.arm-requires-in-Some-clause-nth
arm-requires-in-Some-clause-nth c = c.requires.state.3.is_line.may_follow.1.which.0

pub arm-requires-in-Some-clause-fill : goal.arm-requires-in-Some-clause-fill
arm-requires-in-Some-clause-fill c = long _ _ (each_same _ _ c.in_ok-fill.ensures.cases) c.requires.state.3.is_line.may_follow.1.long.0

pub returns-then-node-eq0 : goal.returns-then-node-eq0
returns-then-node-eq0 c = record {
  stands = λ header w world may.
      let zero : c.args.node ≡ 0 = c.if-node-eq0.true in
      let plan : Plan = record { nth = c.args.nth; fill = c.in_ok-fill.fill.items } in
      armed_so w c.args.node c.args.nth c.args.fill.now plan.fill c.arm.new.self c.args.sites.now c.args.noted.now.entries.items c.requires.nothing
      (each_same _ _ c.in_ok-fill.ensures.cases)
      (rw zero (record { controller = c.arm.ensures w.memory w.controller (λ h. (link_to w.sites h).controller) world.controller; sites = world.sites }));
}

pub returns-in-Some : goal.returns-in-Some
returns-in-Some c = record {
  stands = λ header w world may.
      let n = c.args.node in
      let o = may.goes_on.orderly in
      let plan : Plan = record { nth = c.args.nth; fill = c.in_ok-fill.fill.items } in
      let a : StandsAt c.in-Some.place n w.sites = c.in-Some.ensures.place w.sites world.sites in
      let is = rw c.index-sites-place.is at (reads c.args.sites.now w c.in-Some.place n a c.index-sites-place.result world.sites c.index-sites-place.is) in
      armed_so w n c.args.nth c.args.fill.now plan.fill _ _ c.args.noted.now.entries.items c.requires.nothing (each_same _ _ c.in_ok-fill.ensures.cases)
      (found_becomes w c.in-Some.place n a o (record a.site { memory = armed plan a.site.memory }, []) (world_step w (Arms n plan))
      (armed_in_world w n a.site (site_stands w c.in-Some.place n a o) (search (rules, ne_eqb)) plan) (record { host = refl; near = refl })
      c.args.controller.now c.args.sites.now _ [] [] world
      (record {
        site = record {
          host = is.host;
          wires = is.wires;
          place = c.arm-in-Some.ensures a.site.memory a.site.node (λ h. a.site.link.host) is.place;
        };
        noted = refl;
      })).world;
}

pub returns-in_default : goal.returns-in_default
returns-in_default c = record {
  stands = λ header w world may.
      let n = c.args.node in
      let plan : Plan = record { nth = c.args.nth; fill = c.in_ok-fill.fill.items } in
      armed_so w n c.args.nth c.args.fill.now plan.fill c.args.controller.now c.args.sites.now c.args.noted.now.entries.items c.requires.nothing
      (each_same _ _ c.in_ok-fill.ensures.cases)
      (rw (← nothing_armed w n plan (search (rules, ne_eqb)) (c.in_default.ensures.place w.sites world.sites)) at world);
}
