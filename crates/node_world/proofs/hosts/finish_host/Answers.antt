use Rattle.node_world.proofs.Words.{Host, Off, On, RunsAs, SendsFrom, ap, entries_for, exchanged, frames_out, memory_kept, node_memory, port_at, puts_entries}
use Rattle.node_world.proofs.Words.{refl, subst, sym, true, ◌++◌, ◌∙◌, ◌≡◌}
use Rattle.node_world.proofs.HostsDo.{has_gone_off, has_run_on, only_here}
use Rattle.node_world.proofs.hosts.finish_host.Goals as goal

pub send_frames-requires-clause-state : goal.send_frames-requires-clause-state
send_frames-requires-clause-state c =
    let r = c.requires.state in
    let w = r.3 in
    let is = r.5 in
    let on : On c.in-On.node ≡ On is.node = sym c.in-On.is ∙ is.on in
    let same : c.in-On.node ≡ is.node = cc in (
      w.core,
      w.ports,
      is.here.port,
      is.here.link,
      record {
        runs = subst (λ x. RunsAs x w.core w.ports) (sym same) (is.runs c.if-not-live.false);
        here = ap (port_at w.ports) is.host ∙ is.here.here;
        only = only_here c.args.site.now c.args.live c.args.noted.now.entries.items c.args.noted.now.short r.4 r.0 r.1 r.2 w is;
      },
      is.wires,
    )

pub returns-then-not-live-clause-stands : goal.returns-then-not-live-clause-stands
returns-then-not-live-clause-stands c s step l w before is =
    has_gone_off c.args.site.now c.args.live c.args.noted.now.entries.items c.args.noted.now.short before s step l w is
    c.lose_power.new.site c.args.noted.now.entries.items c.if-not-live.true c.lose_power.ensures.host
    (record {
      off = c.lose_power.ensures.off ∙ ap (λ k. Off (memory_kept k)) is.on;
      wires = c.lose_power.ensures.wires (exchanged is.here.link) is.wires;
      noted = is.noted_are c.if-noted.false;
    })

pub returns-in_ok-send_frames-clause-stands : goal.returns-in_ok-send_frames-clause-stands
returns-in_ok-send_frames-clause-stands c s step l w before is =
    let on : On c.in-On.node ≡ On is.node = sym c.in-On.is ∙ is.on in
    let same : c.in-On.node ≡ is.node = cc in
    let host = c.args.site.now.host in
    let sends : SendsFrom (RunsAs c.in-On.node w.core w.ports) (record { link = host; at_host = true }) is.here.port w.ports = record {
      runs = subst (λ x. RunsAs x w.core w.ports) (sym same) (is.runs c.if-not-live.false);
      here = ap (port_at w.ports) is.host ∙ is.here.here;
      only = only_here c.args.site.now c.args.live c.args.noted.now.entries.items c.args.noted.now.short before s step l w is;
    } in
    let sent = c.in_ok-send_frames.ensures.stands w.core w.ports is.here.port is.here.link sends is.wires in
    let told = c.in_ok-send_frames.ensures.stands w.core w.ports is.here.port is.bare sends is.bare_wires in
    let memory = c.send_frames.ensures.memory ∙ ap node_memory same in
    let start = is.noted_are c.if-noted.false in
    has_run_on c.args.site.now c.args.live c.args.noted.now.entries.items c.args.noted.now.short before s step l w is
    (record { host = host; wires = c.send_frames.new.wires; power = On c.send_frames.new.node }) c.send_frames.new.entries.items
    c.if-not-live.false refl
    (record {
      node = c.send_frames.new.node;
      on = refl;
      runs = sent.0;
      memory = memory;
      wires = sent.1;
      noted = sent.2 ∙ ap (λ es. es ++ entries_for host (puts_entries Host is.here.link (frames_out is.here.port.side))) start;
    })
    (record {
      node = c.send_frames.new.node;
      on = refl;
      runs = told.0;
      memory = memory;
      wires = told.1;
      noted = told.2 ∙ ap (λ es. es ++ entries_for host (puts_entries Host is.bare (frames_out is.here.port.side))) start;
    })
