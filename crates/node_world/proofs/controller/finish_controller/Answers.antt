use Rattle.node_world.proofs.Words.{Bool, EndsStep, HostSite, List, Memory, Node, Off, On, Power, RunsAs, SendsTo, Site, Work, ap, arith, flat_map}
use Rattle.node_world.proofs.Words.{frames_emitted, length, memory_kept, node_memory, refl, slice_index_or, subst, sym, true, ℕ, ◌++◌, ◌<◌, ◌∙◌, ◌≡◌, ◌≤◌}
use Rattle.node_world.proofs.SitesKept.{sends_first, sends_next, all_sent, room_left}
use Rattle.node_world.proofs.controller.finish_controller.Goals as goal

pub returns-then-not-live-clause-cut : goal.returns-then-not-live-clause-cut
returns-then-not-live-clause-cut c n v hosts before e noted off = record {
  off = c.lose_controller.ensures.off ∙ ap (λ k. Off (memory_kept k)) e.on;
  sites = c.lose_controller.ensures.wires hosts e.sends.sites;
  noted = noted c.if-noted.false;
}

-- the node that is there is the one that the step left, and its frames may go out
frames_due : {k : Power} {ks : List HostSite} {n m : Node Memory} {live : Bool} {v : Work} {hosts : List Site} → EndsStep k ks n live v hosts → k ≡ On m
    → live ≡ true → SendsTo (RunsAs m v.core v.ports) v.ports ks hosts
frames_due {n = n} {m = m} {v = v} e there live =
    let on : On m ≡ On n = sym there ∙ e.on in
    record {
      runs = subst (λ x. RunsAs x v.core v.ports) (sym cc) (e.sends.runs live);
      sites = e.sends.sites;
      different = e.sends.different;
      ends = e.sends.ends;
    }

pub loop-i-init : goal.loop-i-init
loop-i-init c = record {
  goes = λ core ports hosts s.
      sends_first (RunsAs c.in-On.node core) ports c.args.sites.now hosts c.args.noted.now.entries.items s.runs s.sites;
  memory = refl;
  room = c.requires.room;
  short = c.if-noted.false;
}

pub send_frames-requires-clause-state : goal.send_frames-requires-clause-state
send_frames-requires-clause-state c =
    let r = c.requires.state in
    let v : Work = r.1 in
    let hosts : List Site = r.2 in
    let now = c.loop-i.sites in
    let i : ℕ = c.loop-i.i in
    let lt : i < length now = omega (arith, c.loop-i-test.true, c.loop-i.auto.sites) in
    let s = frames_due r.3 c.in-On.is c.if-not-live.false in
    let n = sends_next (RunsAs c.loop-i.node v.core) v.ports now hosts c.args.noted.now.entries.items
    c.loop-i.noted.entries.items i (slice_index_or now i c.index-sites-i.result) s.different s.ends (c.loop-i.invariant.goes v.core v.ports hosts s) lt
    (ap (slice_index_or now i) c.index-sites-i.is) in
    (v.core, n.ends, n.port, n.link, n.sends, n.wires)

pub loop-i-preserved : goal.loop-i-preserved
loop-i-preserved c =
    let now = c.loop-i.sites in
    let i : ℕ = c.loop-i.i in
    let k = slice_index_or now i c.index-sites-i.result in
    let lt : i < length now = omega (arith, c.loop-i-test.true, c.loop-i.auto.sites) in
    record {
      goes = λ core ports hosts s.
          let n = sends_next (RunsAs c.loop-i.node core) ports now hosts c.args.noted.now.entries.items
          c.loop-i.noted.entries.items i k s.different s.ends (c.loop-i.invariant.goes core ports hosts s) lt (ap (slice_index_or now i) c.index-sites-i.is) in
          let r = c.in_ok-send_frames.ensures.stands core n.ends n.port n.link n.sends n.wires in
          n.goes (RunsAs c.send_frames.new.node core) c.send_frames.new.wires c.send_frames.new.entries.items r.0 r.1 r.2;
      memory = c.send_frames.ensures.memory ∙ c.loop-i.invariant.memory;
      room = room_left now i (record k { wires = c.send_frames.new.wires }) lt c.loop-i.invariant.room;
      short = c.loop-i.invariant.short;
    }

pub returns-clause-goes_on : goal.returns-clause-goes_on
returns-clause-goes_on c n v hosts before e noted live =
    let on : On c.in-On.node ≡ On n = sym c.in-On.is ∙ e.on in
    let is : c.in-On.node ≡ n = cc in
    let now = c.loop-i.sites in
    let over : length now ≤ c.loop-i.i = omega (arith, c.loop-i-test.false, c.loop-i.auto.sites) in
    let r = all_sent (RunsAs c.loop-i.node v.core) v.ports now hosts c.args.noted.now.entries.items
    c.loop-i.noted.entries.items c.loop-i.i (c.loop-i.invariant.goes v.core v.ports hosts (frames_due e c.in-On.is live)) over in
    record {
      node = c.loop-i.node;
      on = refl;
      runs = r.0;
      memory = c.loop-i.invariant.memory ∙ ap node_memory is;
      sites = r.1;
      noted = r.2 ∙ ap (λ es. es ++ flat_map (frames_emitted v.ports) hosts) (noted c.if-noted.false);
    }
