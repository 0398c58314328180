-- A host of the world behind a step of it: what is kept stands for the host as the definition leaves it.
use Rattle.node_world.proofs.Words.{AllByRecursion, Bool, Core, CutOff, Desk, End, EndDoes, Ending, EndsBoot, Entry, GoesOut, HasBecome, Host}
use Rattle.node_world.proofs.Words.{HostSite, IsNodePlace, IsOnly, IsToSend, Link, LinkEnd, List, Lose, Loss, MayTick, Memory, NoInput, Node, None, NumberedEnd}
use Rattle.node_world.proofs.Words.{Off, On, Option, Port, Power, Running, RunsAs, SameWires, SendsOneByOne, Site, SiteIs, Some, Tick, Turn, Uicc, Wires}
use Rattle.node_world.proofs.Words.{WiresStandFor, Work, [], after_input, after_planned, all_one_by_one, ap, append-nil, append_assoc, ap₂, arith, at, at_host}
use Rattle.node_world.proofs.Words.{becomes, between, boot_writes, changed_if, cond, count_of, counts, entries_for, exchanged, fails_within, false, found}
use Rattle.node_world.proofs.Words.{frames_noted, frames_out, happens, host_behind, host_boots, host_cut, host_ticks, hosts_of_ends, kept_alike, kept_is}
use Rattle.node_world.proofs.Words.{length, map, memory_kept, new_link_end, new_port, new_uicc, next_frame, node_memory, not, port_at, port_for, put_all}
use Rattle.node_world.proofs.Words.{puts_entries, refl, renewed, sent_all, sent_port, site_loses, subst, sym, ticks_at_controller, true, turns_at}
use Rattle.node_world.proofs.Words.{with_bare_wires, with_controller, with_port, ℕ, ◌++◌, ◌==◌, ◌∙◌, ◌∷◌, ◌≡◌}
use Rattle.node_sites.proofs.FramesGoOut.{at_found}
use Rattle.swp_base.specs.declared.link_terms.Role.{Role as Named}
use Rattle.swp_base.specs.declared.link_terms.Role.TheVariants as named
use Rattle.trace_model.specs.declared.entry.Entry.TheVariants as note
use Rattle.node_core.specs.Booting.{hosts_linked, role_at}
use Rattle.node_world.proofs.EndsGo.{same_stand, same_exchanged, silent_same, same_twice, ticks_on, goes_on, cut_same}

-- Its frames went out at its one end p on the wires of the link l as it sees it, and it runs on.
pub record RunsOn (old new : HostSite) (n : Node Memory) (w : Work) (p : Port) (l : Link) (before now : List Entry) : Type 0 where
  pub node : Node Memory
  pub on : new.power ≡ On node
  pub runs : RunsAs node w.core (with_port old.host sent_port w.ports)
  pub memory : node_memory node ≡ node_memory n
  pub wires : WiresStandFor new.wires (exchanged (put_all l (frames_out p.side)))
  pub noted : now ≡ (before ++ w.entries) ++ entries_for old.host (puts_entries Host l (frames_out p.side))

-- it has lost its power: both wires are empty
pub record WentOff (new : HostSite) (n : Node Memory) (w : Work) (l : Link) (before now : List Entry) : Type 0 where
  pub off : new.power ≡ Off (node_memory n)
  pub wires : WiresStandFor new.wires (exchanged (with_bare_wires l))
  pub noted : now ≡ before ++ w.entries

-- ## Its one end

pub one_port : (h : ℕ) (p : Port) (ports : List Port) → hosts_of_ends ports ≡ h ∷ [] → port_at ports h ≡ Some p → ports ≡ p ∷ []
one_port h p [] q f = absurd (cc q)
one_port h p (x ∷ y ∷ ports) q f = absurd (cc q)
one_port h p (x ∷ []) q f = grind arith

-- as the next step begins, it has sent all
ends_next : (h : ℕ) (p : Port) (near_end : NumberedEnd) (ports : List Port) → hosts_of_ends ports ≡ h ∷ [] → port_at ports h ≡ Some p
    → near_end.side ≡ sent_all p.side
    → map between (with_port h sent_port ports)
    ≡ map between (map (λ (d : Desk). port_for near_end d) (map (λ (x : Port). x.desk) ports))
ends_next h p near_end ports q f side =
    let sent : changed_if (p.desk.host == h) sent_port p ≡ sent_port p = rw (at_host ports h p f) refl in
    rw (one_port h p ports q f) (grind arith)

-- ## It runs on

module _ (s : Site) (step : List Turn → Ending → Link) (k : Work) (e : EndDoes s.host step k) (old new : HostSite) (n : Node Memory)
    (memory : node_memory n ≡ after_planned k.writes s.memory) (host : new.host ≡ s.host) where
  -- the host, where its link has become this one and it runs so
  abbrev goes_to : Link → Option Running → Site
  goes_to l node = record s { link = exchanged l; memory = after_planned k.writes s.memory; node = node }

  abbrev step_so : Bool → Link
  step_so b = step (turns_at k s.host) (cond b CutOff GoesOut)

  abbrev left : Running
  left = record { core = k.core; desks = map (λ (p : Port). p.desk) k.ports }

  all_sent : (desks : List Desk) (end : LinkEnd) → next_frame end ≡ None → AllByRecursion (λ (d : Desk). next_frame end ≡ None) desks
  all_sent [] end q = tt
  all_sent (d ∷ desks) end q = (q, all_sent desks end q)

  pub host_runs_on : {before now : List Entry} → k.cut ≡ false → old.host ≡ s.host → hosts_of_ends k.ports ≡ s.host ∷ []
      → next_frame (sent_all e.port.side) ≡ None → RunsOn old new n k e.port e.link before now → SiteIs new (host_behind s step k)
  host_runs_on on was hosts none r =
      let near_end : NumberedEnd = (becomes e.link e.port.side).controller in
      let ports : RunsAs r.node k.core (map (λ (d : Desk). port_for near_end d) left.desks) =
      kept_alike (with_port old.host sent_port k.ports) (map (λ (d : Desk). port_for near_end d) left.desks)
      (ap (λ h. map between (with_port h sent_port k.ports)) was ∙ ends_next s.host e.port near_end k.ports hosts e.here refl) r.runs in
      let Place : Power → Type 0 = λ a. IsNodePlace a (after_planned k.writes s.memory) (Some left) (λ h. near_end) in
      let place : Place (On r.node) = (r.memory ∙ memory, ports, all_sent left.desks (sent_all e.port.side) none) in
      let w = r.wires in
      rw (ap (λ (b : Bool). goes_to (step_so b) (cond b None (Some left))) on ∙ ap (λ (x : Link). goes_to x (Some left)) e.out) (record {
        host = host;
        wires = record {
          here = w.here;
          there = record { emitted_is = w.there.emitted_is; took_is = w.there.took_is; wire_is = w.there.wire_is };
          count = w.count;
        };
        place = subst Place (sym r.on) place;
      })

  -- its link where it has lost its power
  cut_so : SameWires (with_bare_wires e.link) (step_so true)
  cut_so =
      let m : Link = with_controller e.link (sent_all e.port.side) in
      let same : SameWires (with_bare_wires m) (with_bare_wires e.link) = grind arith in
      let silent = silent_same m (new_link_end (renewed m.controller.side.role)) in
      rw e.cut (record {
        to_controller = silent.to_controller;
        to_host = silent.to_host;
        resets = silent.resets;
        controller = silent.controller;
        host = silent.host;
      })

  pub host_went_off : {before now : List Entry} → k.cut ≡ true → WentOff new n k e.link before now → SiteIs new (host_behind s step k)
  host_went_off off r =
      let is : host_behind s step k ≡ goes_to (step_so true) None = ap (λ (b : Bool). goes_to (step_so b) (cond b None (Some left))) off in
      let Place : Power → Type 0 = λ a. IsNodePlace a (after_planned k.writes s.memory) None (λ h. (step_so true).controller) in
      let place : Place (Off (node_memory n)) = memory in
      rw is (record { host = host; wires = same_stand (same_exchanged cut_so) r.wires; place = subst Place (sym r.off) place })

-- What a host does in a step, as the world keeps it: proved once for whatever begins the step.

-- the one end of a host is its only one
pub only_one : (h : ℕ) (p : Port) (ports : List Port) → hosts_of_ends ports ≡ h ∷ [] → port_at ports h ≡ Some p → IsOnly h p ports
only_one h p ports q f = let P : List Port → Type 0 = λ ps. IsOnly h p ps in subst P (sym (one_port h p ports q f)) (λ r. refl, tt)

-- what goes out behind a step that has lost its power: nothing
frames_on : (h : ℕ) (l : Link) (k : Work) (p : Port) → k.cut ≡ false → port_at k.ports h ≡ Some p
    → frames_noted Host h l k ≡ entries_for h (puts_entries Host l (frames_out p.side))
frames_on h l k p on here = grind arith

module _ (mid : HostSite) (live : Bool) (noted : List Entry) (short : Bool) (before : List Entry) (s : Site) (step : List Turn → Ending → Link) (l : Link)
    (w : Work) (is : IsToSend mid live noted short before s step l w) where
  pub only_here : IsOnly mid.host is.here.port w.ports
  only_here = let Q : ℕ → Type 0 = λ h. IsOnly h is.here.port w.ports in subst Q (sym is.host) (only_one s.host is.here.port w.ports is.ends is.here.here)

  -- They went out: on the wires of the link that the law goes on with, and on those of the one of which they are noted.
  pub has_run_on : (new : HostSite) (now : List Entry) → live ≡ true → new.host ≡ mid.host
      → RunsOn mid new is.node w is.here.port is.here.link before now → RunsOn mid new is.node w is.here.port is.bare before now
      → HasBecome new before now (host_behind s step w, w.entries ++ frames_noted Host s.host l w)
  has_run_on new now up same r notes =
      let p : Port = is.here.port in
      let power : w.cut ≡ false = is.power ∙ ap not up in
      let none : next_frame (sent_all p.side) ≡ None =
      (at_found (λ (q : Port). SendsOneByOne q.side) s.host p w.ports (all_one_by_one (is.runs up)) is.here.here).none in
      record {
        site = host_runs_on s step w is.here mid new is.node is.memory (same ∙ is.host) power is.host is.ends none r;
        noted = notes.noted
            ∙ (append_assoc before w.entries (entries_for mid.host (puts_entries Host is.bare (frames_out p.side)))
            ∙ ap (λ es. before ++ (w.entries ++ es))
            (ap (λ h. entries_for h (puts_entries Host is.bare (frames_out p.side))) is.host
            ∙ (ap (entries_for s.host) is.same ∙ sym (frames_on s.host l w p power is.here.here))));
      }

  -- it has lost its power
  pub has_gone_off : (new : HostSite) (now : List Entry) → live ≡ false → new.host ≡ mid.host → WentOff new is.node w is.here.link before now
      → HasBecome new before now (host_behind s step w, w.entries ++ frames_noted Host s.host l w)
  has_gone_off new now down same r =
      let power : w.cut ≡ true = is.power ∙ ap not down in
      record {
        site = host_went_off s step w is.here mid new is.node is.memory (same ∙ is.host) power r;
        noted = r.noted
            ∙ ap (λ es. before ++ es)
            (sym (append-nil w.entries) ∙ ap (λ es. w.entries ++ es) (sym (grind arith)));
      }

-- A tick at a host that doesn't run: nothing is sent, and nothing is noted.

pub becomes_same : (m : Link) (e : LinkEnd) → frames_out e ≡ [] → SameWires m (becomes m e)
becomes_same m e q = rw q (record { to_controller = refl; to_host = refl; resets = refl; controller = (refl, refl); host = (refl, refl) })

-- an end that wasn't activated sends nothing at a tick
quiet : (e : LinkEnd) → e ≡ new_link_end (Uicc new_uicc) → frames_out (after_input e Tick) ≡ []
quiet e q = ap (λ x. frames_out (after_input x Tick)) q

pub still_wires : (l : Link) → l.controller.side ≡ new_link_end (Uicc new_uicc) → SameWires l (ticks_at_controller l [] GoesOut)
still_wires l q =
    let g = ticks_on l false [] (λ late. absurd (cc late)) in
    rw g.out (same_twice g.wires (becomes_same g.link (after_input l.controller.side Tick) (quiet l.controller.side q)))

pub tick_off : (k : HostSite) (s : Site) (entries : List Entry) → SiteIs k s → s.node ≡ None → MayTick s → HasBecome k entries entries (host_ticks s)
tick_off k s entries is off may =
    let none : host_ticks s ≡ (record s { link = (exchanged (ticks_at_controller (exchanged s.link) [] GoesOut)) }, []) = rw off refl in
    rw none (record {
      site = record {
        host = is.host;
        wires = same_stand (same_exchanged (still_wires (exchanged s.link) (rw off at may.off))) is.wires;
        place = rw (← off) at (same_place k.power (rw off at is.place));
      };
      noted = sym (append-nil entries);
    })
  where
    same_place : (k : Power) → IsNodePlace k s.memory None (λ h. s.link.host)
        → IsNodePlace k s.memory None (λ h. (exchanged (ticks_at_controller (exchanged s.link) [] GoesOut)).host)
    same_place (On n) p = p
    same_place (Off m) p = p

-- A frame is lost on the way to an end of the link of a host.

same_host : (to : End) (l : Link) (why : Loss) → (happens l (at to (Lose why))).host ≡ l.host
same_host to l why = grind arith

module _ (new : HostSite) (s : Site) (to : End) (why : Loss) (host : new.host ≡ s.host)
    (wires : WiresStandFor new.wires (happens s.link (at to (Lose why)))) where
  -- on its way to the controller
  pub lost_near : IsNodePlace new.power s.memory s.node (λ h. s.link.host) → SiteIs new (record s { link = happens s.link (at to (Lose why)) })
  lost_near place = record { host = host; wires = wires; place = rw (← same_host to s.link why) at place }

  -- or to the host, for whose REC_ERROR it may count
  pub lost_far : to.at_host ≡ true → IsNodePlace new.power s.memory (counts why s.host s.node) (λ h. s.link.host) → SiteIs new (site_loses to why s)
  lost_far far place =
      rw (ap (λ b. record s { link = happens s.link (at to (Lose why)); node = cond b (counts why s.host s.node) s.node }) far)
      (record { host = host; wires = wires; place = rw (← same_host to s.link why) at place })

-- A host of the world boots.

pub boot_goes : (s : Site) → fails_within (length (boot_writes s.memory.content)) s.memory.plan ≡ false
    → host_boots s ≡ (
      record s { memory = after_planned (boot_writes s.memory.content) s.memory; node = Some (found s.host (s.host ∷ []) s.memory.content) },
      note.Booted s.host (count_of (found s.host (s.host ∷ []) s.memory.content).core.journal) ∷ [],
    )
boot_goes s q = rw q refl

pub boot_stops : (s : Site) → fails_within (length (boot_writes s.memory.content)) s.memory.plan ≡ true
    → host_boots s ≡ (host_cut (record s { memory = after_planned (boot_writes s.memory.content) s.memory }), note.Cut s.host ∷ [])
boot_stops s q = rw q refl

-- how its boot ended, by what is kept of it
pub boots_here : (k : HostSite) (new : Power) (s : Site) → SiteIs k s → (s.host == 0) ≡ false
    → EndsBoot k.host (hosts_linked k.host 0) (memory_kept k.power) new → EndsBoot s.host (s.host ∷ []) s.memory new
boots_here k new s is other booted =
    let links : hosts_linked s.host 0 ≡ s.host ∷ [] = rw other refl in
    let E : ℕ → Memory → Type 0 = λ h m. EndsBoot h (hosts_linked h 0) m new in
    rw (← links) (subst (E s.host) (kept_is k.power s.memory s.node (λ h. s.link.host) is.place)
    (subst (λ h. E h (memory_kept k.power)) is.host booted))

pub runs_now : (k : HostSite) (new : Power) (s : Site) (n : Node Memory) (count : ℕ) (before : List Entry) {now : List Entry} → new ≡ On n
    → SiteIs k s → s.link.host.side ≡ new_link_end (Uicc new_uicc) → (s.host == 0) ≡ false → EndsBoot s.host (s.host ∷ []) s.memory new
    → ((core : Core) (ports : List Port) → RunsAs n core ports → count ≡ count_of core.journal) → now ≡ before ++ note.Booted k.host count ∷ []
    → HasBecome (record k { power = new }) before now (host_boots s)
runs_now k new s n count before {now} on is side other booted counts noted =
    let b = subst (EndsBoot s.host (s.host ∷ []) s.memory) on booted in
    let r : Running = found s.host (s.host ∷ []) s.memory.content in
    let role : role_at s.host ≡ named.Uicc = rw other refl in
    let R : Named → Type 0 = λ x. RunsAs n r.core (map (new_port x) (s.host ∷ [])) in
    subst (λ x. HasBecome (record k { power = new }) before now x) (sym (boot_goes s b.0))
    (record {
      site = grind arith;
      noted = noted ∙ ap₂ (λ h x. before ++ note.Booted h x ∷ []) is.host (counts r.core (map (new_port named.Uicc) (s.host ∷ [])) (grind arith));
    })

pub lost_power : (k : HostSite) (new : Power) (s : Site) (left : Memory) (wires : Wires) (before : List Entry) {now : List Entry} → new ≡ Off left
    → SiteIs k s → EndsBoot s.host (s.host ∷ []) s.memory new
    → WiresStandFor wires (with_bare_wires s.link) → now ≡ before ++ note.Cut k.host ∷ []
    → HasBecome (record { host = k.host; wires = wires; power = new }) before now (host_boots s)
lost_power k new s left wires before {now} off is booted empty noted =
    let b = subst (EndsBoot s.host (s.host ∷ []) s.memory) off booted in
    let gone : Site = host_cut (record s { memory = after_planned (boot_writes s.memory.content) s.memory }) in
    subst (λ x. HasBecome (record { host = k.host; wires = wires; power = new }) before now x) (sym (boot_stops s b.0))
    (record {
      site = record {
        host = is.host;
        wires = same_stand (same_exchanged (cut_same (goes_on (exchanged s.link) NoInput None [] refl tt))) empty;
        place = subst (λ a. IsNodePlace a gone.memory None (λ h. gone.link.host)) (sym off) b.1;
      };
      noted = noted ∙ ap (λ h. before ++ note.Cut h ∷ []) is.host;
    })

-- its power was cut
pub was_cut_off : (k new : HostSite) (s : Site) → SiteIs k s → new.host ≡ k.host → new.power ≡ Off (memory_kept k.power)
    → WiresStandFor new.wires (with_bare_wires s.link) → SiteIs new (host_cut s)
was_cut_off k new s is host off empty = grind arith
