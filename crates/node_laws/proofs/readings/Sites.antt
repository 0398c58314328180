-- A host with its link, and all hosts of a world, over events: unanswered commands stay those that are read.
use Rattle.std.proofs.lemmas.Bool.{eqb-false}
use Rattle.node_laws.proofs.Words.{AllByRecursion, AllRead, AreDifferent, AreHosts, AreInitsShort, AsksReset, AtEnd, Comes, Controller, CutOff, Deed, Desk, End}
use Rattle.node_laws.proofs.Words.{Ending, Entry, Fits, GoesOut, Host, HostRuns, IfHostRuns, IfZero, IsComing, IsHost, IsSilent, Link, LinkEnd, LinkInput}
use Rattle.node_laws.proofs.Words.{LinkState, List, Loss, MayDo, Memory, Message, NextFrame, NoInput, NodeWorld, None, NumberedEnd, OnWire, Option, Orders}
use Rattle.node_laws.proofs.Words.{Plan, Port, Reset, Running, Sends, Site, SiteReads, Some, Start, Starts, Step, Stop, Stops, Take, Tick, TimePasses, Turn}
use Rattle.node_laws.proofs.Words.{Work, [], activates, after_controller, after_host, after_host_step, after_input, after_near_tick, after_tick, aged}
use Rattle.node_laws.proofs.Words.{aged_entries, all_aged, and-false, ap, append-nil, append_assoc, ap₂, arith, arrival, beginning, begins_with, by_coming}
use Rattle.node_laws.proofs.Words.{by_controller, by_controller_tick, by_host, by_host_tick, by_list, by_option, by_test, cases_Bool, changed_if, comes_at}
use Rattle.node_laws.proofs.Words.{comes_to, cond, cond-true, cond_both, controller_does, controller_ticks, controller_work, end_c, end_h, ending_entries}
use Rattle.node_laws.proofs.Words.{ending_of, entries_for, eq-eqb, eqb, eqb-true, exchanged, false, first_lost, flat_map, found, frames_noted, give_refusal}
use Rattle.node_laws.proofs.Words.{has_come, host_cut, host_does, host_tick, host_ticks, host_work, hosts_tick, init_of, inl, input_at, input_of, inr}
use Rattle.node_laws.proofs.Words.{is_command_message, is_late_at, left_running, link_after_controller, link_to, map, most_frames, ne_eqb, near_end_in}
use Rattle.node_laws.proofs.Words.{near_tick, new_site, new_world, order_in, order_of, port_at, port_for, refl, replicate, runs_left, runs_none, runs_on}
use Rattle.node_laws.proofs.Words.{sending, sent_all, site_at, site_ticked, site_unticked, steps, steps_at_controller, subst, sym, tick_host}
use Rattle.node_laws.proofs.Words.{ticks_at_controller, true, turn, turned, turns_at, wires_for, with_site, work_of, world_ticks, ℕ, ◌&&◌, ◌++◌, ◌∙◌, ◌∷◌, ◌≡◌}
use Rattle.node_laws.proofs.Words.{◌⊎◌}
use Rattle.link_laws.proofs.sessions.Ties.{after_frames-phase}
use Rattle.link_laws.specs.entries.Entries.{End as Side}
use Rattle.node_laws.proofs.kept.Events.{hosts_same, hosts_with, site_found}
use Rattle.node_laws.proofs.links.Sites.{here_host}
use Rattle.node_laws.proofs.links.Noticing.{turn-phase}
use Rattle.node_laws.proofs.links.Worlds.{so_host}
use Rattle.node_laws.proofs.readings.Turning.{IsQuiet, Runs, Stands, all_stand, order_more, quiet_reads, reads}
use Rattle.node_laws.proofs.readings.Noting.{AreHushed, AreSilent, Away, IsAway, all_do_of_elsewhere as all_do, quiet_silent, silent-append, silent_flat}
use Rattle.node_laws.proofs.readings.Noting.{steps_away, steps_stand}
use Rattle.node_laws.proofs.telling.Ticks.{arrival_all, ending_all, lost_all, wires_all}
use Rattle.trace_model.specs.declared.entry.Entry.TheVariants as entry

-- ## A host with its link over what happens to it: its unanswered command stays the one that is read

-- ### Frames

pub lost_quiet : (who : Side) (why : Loss) (xs : List OnWire) → AllByRecursion IsQuiet (first_lost who why xs)
lost_quiet = lost_all IsQuiet (λ w c why. tt)

pub ending_quiet : (who : Side) (l : Link) (e : LinkEnd) (ending : Ending) → AllByRecursion IsQuiet (ending_entries who l e ending)
ending_quiet = ending_all IsQuiet (λ w c. tt) (λ w c. tt) (λ w. tt)

pub arrival_quiet : (who : Side) (l : Link) (comes : Comes) → AllByRecursion IsQuiet (arrival who l comes)
arrival_quiet = arrival_all IsQuiet (λ w c. tt)

frames_read : (h : ℕ) (who : Side) (k : ℕ) (l : Link) (w : Work) (c : Option (List ℕ)) → reads h (frames_noted who k l w) c ≡ c
frames_read h who k l w c = by_option (port_at w.ports k)
    (λ q. rw q refl)
    (λ p q. rw q (quiet_reads h k (ending_entries who l p.side (ending_of w)) c (ending_quiet who l p.side (ending_of w))))

pub arrival_read : (h : ℕ) (who : Side) (k : ℕ) (l : Link) (comes : Comes) (c : Option (List ℕ)) → reads h (entries_for k (arrival who l comes)) c ≡ c
arrival_read h who k l comes c = quiet_reads h k (arrival who l comes) c (arrival_quiet who l comes)

-- ### The phase of an end

turned_phase : (e : LinkEnd) (ts : List Turn) → (turned e ts).shdlc.phase ≡ e.shdlc.phase
turned_phase e [] = refl
turned_phase e (t ∷ ts) = turned_phase (turn e t) ts ∙ turn-phase e t

-- and frames that go out leave it
pub sent_phase : (e : LinkEnd) (ts : List Turn) → (sent_all (turned e ts)).shdlc.phase ≡ e.shdlc.phase
sent_phase e ts = after_frames-phase most_frames (turned e ts).shdlc ∙ turned_phase e ts

-- an end after something comes to it, in a step that doesn't lose its power
pub stepped_phase : (l : Link) (comes : Comes) (ts : List Turn) (i : LinkInput) → input_of l comes ≡ Some i
    → (steps_at_controller l comes ts GoesOut).controller.side.shdlc.phase ≡ (after_input l.controller.side i).shdlc.phase
stepped_phase l NextFrame ts i e = by_list l.to_controller
    (λ q. let z : None ≡ Some i = rw q at e in absurd (cc z))
    (λ x xs q. let z : Some (Take x.frame) ≡ Some i = rw q at e in
    let is : Take x.frame ≡ i = cc in
    rw q (sent_phase (after_input l.controller.side (Take x.frame)) ts ∙ ap (λ j. (after_input l.controller.side j).shdlc.phase) is))
stepped_phase l (AsksReset window) ts i e =
    let is : Reset window ≡ i = cc in
    sent_phase (after_input l.controller.side (Reset window)) ts ∙ ap (λ j. (after_input l.controller.side j).shdlc.phase) is
stepped_phase l (Starts value) ts i e =
    let is : Start value ≡ i = cc in
    sent_phase (after_input l.controller.side (Start value)) ts ∙ ap (λ j. (after_input l.controller.side j).shdlc.phase) is
stepped_phase l Stops ts i e =
    let is : Stop ≡ i = cc in
    sent_phase (after_input l.controller.side Stop) ts ∙ ap (λ j. (after_input l.controller.side j).shdlc.phase) is
stepped_phase l NoInput ts i e = let z : None ≡ Some i = e in absurd (cc z)

-- what comes so comes from outside
pub comes_outside : (l : Link) (comes : Comes) (i : LinkInput) → input_of l comes ≡ Some i → IsComing i
comes_outside l comes i e = grind arith

-- hearing of the number of an RSET leaves the machine of an end
pub near_end_side : (l : Link) (comes : Comes) → (near_end_in l comes).side ≡ l.controller.side
near_end_side l comes = grind arith

-- ### A host that runs

module _ (t : List Entry) (s : Site) (host : IsHost s.host) (r : Running) (so : HostRuns s.host s.link r) (read : order_in t s.host ≡ r.core.command) where
  -- its step begins, over what is noted first
  pub begun_stands : (comes : Comes) (near_end : NumberedEnd) (es : List Entry) → near_end.side ≡ s.link.host.side
      → ((c : Option (List ℕ)) → reads s.host es c ≡ c)
      → Runs s.host host t near_end.side.shdlc.phase (work_of r s.memory.plan (λ k. near_end) es)
  begun_stands comes near_end es side silent = record {
    on = refl;
    node = so.number;
    port = port_for near_end so.desk;
    is = ap (map (λ (d : Desk). port_for near_end d)) so.desks_are;
    its = record { host = so.host; no_notice = so.no_notice; up = λ some. ap (λ (e : LinkEnd). e.shdlc.phase) side ∙ so.up some };
    phase = refl;
    short = so.short;
    order = order_more t es s.host ∙ (ap (reads s.host es) read ∙ silent r.core.command);
  }

-- The step of a host is done, in which frames come to its end of l: its link becomes this one, in which its end is in this phase, its memory
-- that.
done_reads : (t : List Entry) (s : Site) (host : IsHost s.host) (now : LinkState) (k : Work) (l link : Link) (memory : Memory)
    → (k.cut ≡ false → link.host.side.shdlc.phase ≡ now) → Stands s.host host t now k
    → SiteReads (t ++ (k.entries ++ frames_noted Host s.host l k)) (record s { link = link; memory = memory; node = runs_on k })
done_reads t s host now k l link memory phase stands = by stands where
  frames : List Entry
  frames = frames_noted Host s.host l k

  order_is : (o : Option Running) → runs_on k ≡ o → order_in (t ++ k.entries) s.host ≡ order_of o
      → order_in (t ++ (k.entries ++ frames)) s.host ≡ order_of (runs_on k)
  order_is o is order =
      ap (λ l. order_in l s.host) (sym (append_assoc t k.entries frames))
      ∙ (order_more (t ++ k.entries) frames s.host ∙ (frames_read s.host Host s.host l k (order_in (t ++ k.entries) s.host) ∙ (order ∙ sym (ap order_of is))))

  by : Stands s.host host t now k → SiteReads (t ++ (k.entries ++ frames)) (record s { link = link; memory = memory; node = runs_on k })
  by (inl r) = record {
    order = order_is (Some (left_running k)) (runs_left k r.on) r.order;
    runs = subst (IfHostRuns s.host link) (sym (runs_left k r.on)) (grind arith);
  }
  by (inr r) = record { order = order_is None (runs_none k r.off) r.order; runs = subst (IfHostRuns s.host link) (sym (runs_none k r.off)) tt }

-- something comes to the end of a host that runs
pub comes_reads : (t : List Entry) (s : Site) (r : Running) (comes : Comes) (i : LinkInput) → IsHost s.host → SiteReads t s → s.node ≡ Some r
    → input_of (exchanged s.link) comes ≡ Some i
    → SiteReads (t ++ ((host_work s r comes (steps (AtEnd s.host i))).entries
    ++ frames_noted Host s.host (wires_for (exchanged s.link) comes) (host_work s r comes (steps (AtEnd s.host i)))))
    (after_host comes (host_work s r comes (steps (AtEnd s.host i))) s)
comes_reads t s r comes i host reads_so node input =
    done_reads t s host now k (wires_for (exchanged s.link) comes) (after_host comes k s).link (after_host comes k s).memory phase stands where
      k : Work
      k = host_work s r comes (steps (AtEnd s.host i))

      near_end : NumberedEnd
      near_end = near_end_in (exchanged s.link) comes

      so : HostRuns s.host s.link r
      so = subst (IfHostRuns s.host s.link) node reads_so.runs

      begun : Work
      begun = work_of r s.memory.plan (λ n. near_end) (entries_for s.host (arrival Host (exchanged s.link) comes))

      first : Runs s.host host t near_end.side.shdlc.phase begun
      first =
          begun_stands t s host r so (reads_so.order ∙ ap order_of node) comes near_end (entries_for s.host (arrival Host (exchanged s.link) comes))
          (near_end_side (exchanged s.link) comes) (arrival_read s.host Host s.host (exchanged s.link) comes)

      now : LinkState
      now = (after_input s.link.host.side i).shdlc.phase

      came : (p : Port) → p.desk.host ≡ s.host → p.side ≡ s.link.host.side → (has_come p (input_at (AtEnd s.host i) p)).side.shdlc.phase ≡ now
      came p at side = grind arith

      stands : Stands s.host host t now k
      stands =
          subst (λ n. Stands s.host host t n k)
          (came first.port first.its.host (ap (λ (p : Port). p.side) (sym (only first)) ∙ near_end_side (exchanged s.link) comes))
          (steps_stand s.host host t near_end.side.shdlc.phase (AtEnd s.host i) begun (comes_outside (exchanged s.link) comes i input) first
          (subst (λ (p : Port). (p.ended ≡ false) × (p.late ≡ false)) (only first) (refl, refl))) where
            only : (f : Runs s.host host t near_end.side.shdlc.phase begun) → port_for near_end so.desk ≡ f.port
            only f = let both : port_for near_end so.desk ∷ [] ≡ f.port ∷ [] = sym (ap (map (λ (d : Desk). port_for near_end d)) so.desks_are) ∙ f.is in cc

      phase : k.cut ≡ false → (after_host comes k s).link.host.side.shdlc.phase ≡ now
      phase on =
          ap (λ b. (steps_at_controller (exchanged s.link) comes (turns_at k s.host) (cond b CutOff GoesOut)).controller.side.shdlc.phase) on
          ∙ stepped_phase (exchanged s.link) comes (turns_at k s.host) i input

-- a host that runs does deeds of its own
pub acts_reads : (t : List Entry) (s : Site) (r : Running) (deeds : List Deed) → IsHost s.host → SiteReads t s → s.node ≡ Some r
    → MayDo s.host (λ order. give_refusal s.link.host.side (1, order) ≡ None) deeds
    → SiteReads (t ++ ((host_work s r NoInput (begins_with s.host deeds)).entries
    ++ frames_noted Host s.host (wires_for (exchanged s.link) NoInput) (host_work s r NoInput (begins_with s.host deeds))))
    (after_host NoInput (host_work s r NoInput (begins_with s.host deeds)) s)
acts_reads t s r deeds host reads_so node may =
    done_reads t s host now k (wires_for (exchanged s.link) NoInput) (after_host NoInput k s).link (after_host NoInput k s).memory phase stands where
      k : Work
      k = host_work s r NoInput (begins_with s.host deeds)

      so : HostRuns s.host s.link r
      so = subst (IfHostRuns s.host s.link) node reads_so.runs

      now : LinkState
      now = s.link.host.side.shdlc.phase

      begun : Work
      begun = work_of r s.memory.plan (λ n. s.link.host) []

      first : Runs s.host host t now begun
      first = begun_stands t s host r so (reads_so.order ∙ ap order_of node) NoInput s.link.host [] refl (λ c. refl)

      fits : (order : List ℕ) → give_refusal s.link.host.side (1, order) ≡ None → (s.host ≡ s.host) × Fits begun.ports order
      fits order taken = grind arith

      stands : Stands s.host host t now k
      stands = all_stand s.host host t now s.host (λ order. give_refusal s.link.host.side (1, order) ≡ None) deeds begun fits may first

      phase : k.cut ≡ false → (after_host NoInput k s).link.host.side.shdlc.phase ≡ now
      phase on =
          ap (λ b. (steps_at_controller (exchanged s.link) NoInput (turns_at k s.host) (cond b CutOff GoesOut)).controller.side.shdlc.phase) on
          ∙ sent_phase s.link.host.side (turns_at k s.host)

-- what a host sends or begins may be done, where its end takes it
pub sending_may : (h : ℕ) (e : LinkEnd) (m : Message) → give_refusal e m ≡ None → MayDo h (λ order. give_refusal e (1, order) ≡ None) (sending h m)
sending_may h e m taken = grind arith

pub beginning_may : (h : ℕ) (e : LinkEnd) (identity : List ℕ) (pipes : List (List ℕ)) → give_refusal e (1, 3 ∷ []) ≡ None
    → AreInitsShort (Some (record { identity = identity; pipes = pipes; answered = 0 }))
    → MayDo h (λ order. give_refusal e (1, order) ≡ None) (beginning identity pipes)
beginning_may h e identity pipes taken short = (short, (taken, refl, tt))

-- a tick of a host
pub ticks_read : (t : List Entry) (s : Site) → IsHost s.host → SiteReads t s → SiteReads (t ++ (host_ticks s).1) (host_ticks s).0
ticks_read t s host reads_so =
    by_host_tick (λ p. SiteReads (t ++ p.1) p.0) s
    (λ e. record {
      order = ap (λ l. order_in l s.host) (append-nil t) ∙ reads_so.order;
      runs = subst (IfHostRuns s.host (exchanged (ticks_at_controller (exchanged s.link) [] GoesOut))) (sym e) tt;
    }) on
  where
    on : (r : Running) → s.node ≡ Some r → SiteReads (t ++ (after_tick s (host_tick s r)).1) (after_tick s (host_tick s r)).0
    on r e = done_reads t s host now k (exchanged s.link) (after_tick s k).0.link (after_tick s k).0.memory phase stands where
      begun : Work
      begun = work_of r s.memory.plan (λ n. s.link.host) []

      k : Work
      k = host_tick s r

      so : HostRuns s.host s.link r
      so = subst (IfHostRuns s.host s.link) e reads_so.runs

      now : LinkState
      now = (after_input s.link.host.side Tick).shdlc.phase

      first : Runs s.host host t s.link.host.side.shdlc.phase begun
      first = begun_stands t s host r so (reads_so.order ∙ ap order_of e) NoInput s.link.host [] refl (λ c. refl)

      only : port_for s.link.host so.desk ≡ first.port
      only = let both : port_for s.link.host so.desk ∷ [] ≡ first.port ∷ [] = sym (ap (map (λ
          (d : Desk). port_for s.link.host d)) so.desks_are) ∙ first.is in cc

      stands : Stands s.host host t now k
      stands =
          subst (λ n. Stands s.host host t n k) (ap (λ (p : Port). (after_input p.side Tick).shdlc.phase) (sym only))
          (steps_stand s.host host t s.link.host.side.shdlc.phase TimePasses begun tt first (grind arith))

      phase : k.cut ≡ false → (after_tick s k).0.link.host.side.shdlc.phase ≡ now
      phase on =
          ap (λ b. (ticks_at_controller (exchanged s.link) (turns_at k s.host) (cond b CutOff GoesOut)).controller.side.shdlc.phase) on
          ∙ (sent_phase (after_input s.link.host.side Tick) (turns_at k s.host))

-- its power is cut
pub cut_reads : (t : List Entry) (s : Site) → SiteReads (t ++ entry.Cut s.host ∷ []) (host_cut s)
cut_reads t s = record {
  order = order_more t (entry.Cut s.host ∷ []) s.host ∙ cond-true (eqb s.host s.host) None (order_in t s.host) (eq-eqb s.host s.host refl);
  runs = tt;
}

-- it boots while it doesn't run
pub boot_reads : (t : List Entry) (s : Site) (m : Memory) (content : List ℕ) (n : ℕ) → SiteReads t s → s.node ≡ None
    → SiteReads (t ++ entry.Booted s.host n ∷ []) (record s { memory = m; node = Some (found s.host (s.host ∷ []) content) })
boot_reads t s m content n reads_so off = record {
  order = order_more t (entry.Booted s.host n ∷ []) s.host ∙ (reads_so.order ∙ ap order_of off);
  runs = grind arith;
}

-- others act: what is noted tells nothing of this host, and its end and its node stay
pub others_read : (t es : List Entry) (s v : Site) → AllByRecursion (IsSilent s.host) es → v.host ≡ s.host → v.node ≡ s.node
    → v.link.host.side ≡ s.link.host.side → SiteReads t s → SiteReads (t ++ es) v
others_read t es s v silent host node side reads_so = record {
  order =
      ap (order_in (t ++ es)) host
      ∙ (order_more t es s.host ∙ (all_silent es (order_in t s.host) silent ∙ (reads_so.order ∙ sym (ap order_of node))));
  runs = subst (λ n. IfHostRuns n v.link v.node) (sym host) (subst (IfHostRuns s.host v.link) (sym node) (grind arith));
} where
  all_silent : (es : List Entry) (c : Option (List ℕ)) → AllByRecursion (IsSilent s.host) es → reads s.host es c ≡ c
  all_silent [] c all = refl
  all_silent (e ∷ es) c all = ap (reads s.host es) (all.0 c) ∙ all_silent es c all.1

-- ## What is read of all hosts of a world over an event

-- the hosts
abbrev pub hosts_in : List Site → List ℕ
hosts_in sites = map (λ (s : Site). s.host) sites

-- ### Ends of others

all_ends : (P : ℕ → Type 0) (f : Desk → Port) → ((d : Desk) → (f d).desk.host ≡ d.host) → (desks : List Desk) → ((d : Desk) → P d.host)
    → AllByRecursion (λ (p : Port). P p.desk.host) (map f desks)
all_ends P f host [] all = tt
all_ends P f host (d ∷ desks) all = (subst P (sym (host d)) (all d), all_ends P f host desks all)

-- frames and arrivals tell nothing
frames_silent : (k : ℕ) (who : Side) (h : ℕ) (l : Link) (w : Work) → AreSilent k (frames_noted who h l w)
frames_silent k who h l w = by_option (port_at w.ports h) (λ q. rw q tt) (λ p q. rw q (quiet_silent k h _ (ending_quiet who l p.side (ending_of w))))

arrival_silent : (k : ℕ) (who : Side) (h : ℕ) (l : Link) (comes : Comes) → AreSilent k (entries_for h (arrival who l comes))
arrival_silent k who h l comes = quiet_silent k h (arrival who l comes) (arrival_quiet who l comes)

pub none_zero : (k : ℕ) → IsHost k → eqb 0 k ≡ false
none_zero k host = ne_eqb 0 k (λ e. omega (arith, e, host.0))

-- ### Sites

-- others act, and all sites keep their ends and nodes
pub map_reads : (t es : List Entry) (g : Site → Site) → ((s : Site) → (g s).host ≡ s.host) → ((s : Site) → (g s).node ≡ s.node)
    → ((s : Site) → (g s).link.host.side ≡ s.link.host.side) → ((k : ℕ) → IsHost k → AreSilent k es)
    → (sites : List Site) → AllByRecursion IsHost (hosts_in sites) → AllByRecursion (SiteReads t) sites → AllByRecursion (SiteReads (t ++ es)) (map g sites)
map_reads t es g host node side silent [] hosts all = tt
map_reads t es g host node side silent (s ∷ sites) hosts all = (
  others_read t es s (g s) (silent s.host hosts.0) (host s) (node s) (side s) all.0,
  map_reads t es g host node side silent sites hosts.1 all.1,
)

module _ (t es : List Entry) (h : ℕ) (f : Site → Site) (silent : (k : ℕ) → eqb h k ≡ false → AreSilent k es) where
  stays : (s : Site) → eqb s.host h ≡ false → SiteReads t s → SiteReads (t ++ es) s
  stays s off k = others_read t es s s (silent s.host (ne_eqb h s.host (λ e. eqb-false s.host h off (sym e)))) refl refl refl k

  pub others_stay : (sites : List Site) → AllByRecursion (λ k. eqb k h ≡ false) (hosts_in sites) → AllByRecursion (SiteReads t) sites
      → AllByRecursion (SiteReads (t ++ es)) (with_site h f sites)
  others_stay [] hosts all = tt
  others_stay (s ∷ sites) hosts all =
      (subst (λ b. SiteReads (t ++ es) (changed_if b f s)) (sym hosts.0) (stays s hosts.0 all.0), others_stay sites hosts.1 all.1)

  -- one host acts
  pub with_reads : (sites : List Site) (x : Site) → AreDifferent (hosts_in sites) → site_at sites h ≡ Some x → SiteReads (t ++ es) (f x)
      → AllByRecursion (SiteReads t) sites → AllByRecursion (SiteReads (t ++ es)) (with_site h f sites)
  with_reads [] x different e changed all = absurd (cc e)
  with_reads (s ∷ sites) x different e changed all = by_host (cases_Bool (eqb s.host h)) (λ found. with_reads sites x different.1 found changed all.1) where
    by_host : (eqb s.host h ≡ true) ⊎ (eqb s.host h ≡ false) → (site_at sites h ≡ Some x → AllByRecursion (SiteReads (t ++ es)) (with_site h f sites))
        → AllByRecursion (SiteReads (t ++ es)) (with_site h f (s ∷ sites))
    by_host (inl is) later =
        let here : Some s ≡ Some x = sym (cond-true (eqb s.host h) (Some s) (site_at sites h) is) ∙ e in
        let same : s ≡ x = cc in (
          subst (λ b. SiteReads (t ++ es) (changed_if b f s)) (sym is) (subst (λ y. SiteReads (t ++ es) (f y)) (sym same) changed),
          others_stay sites (subst (λ k. AllByRecursion (λ j. eqb j k ≡ false) (hosts_in sites)) (eqb-true s.host h is) different.0) all.1,
        )
    by_host (inr off) later =
        (subst (λ b. SiteReads (t ++ es) (changed_if b f s)) (sym off) (stays s off all.0), later (grind arith))

-- ### Nodes

-- a controller begins a step away from each host
controller_away : (r : Running) → r.core.node ≡ 0 → (k : ℕ) (host : IsHost k) (plan : Option Plan) (near_ends : ℕ → NumberedEnd) (es : List Entry)
    → AreSilent k es
    → IsAway k 0 (none_zero k host) Controller (work_of r plan near_ends es)
controller_away r number k host plan near_ends es silent = record {
  number = number;
  side = ap (λ m. cond (eqb m 0) Controller Host) number;
  ends = all_ends (Away k Controller) (λ d. port_for (near_ends d.host) d) (λ d. refl) r.desks (λ d. (and-false (eqb d.host k)));
  so = silent;
}

runs_zero : (k : Work) → k.core.node ≡ 0 → IfZero (runs_on k)
runs_zero k e = by_test k.cut (λ z. rw z tt) (λ z. rw z e)

-- ### What comes

module _ (hosts : List ℕ) (are : AreHosts hosts) where
  nothing : (t : List Entry) (w : NodeWorld) → AllRead hosts t w → AllRead hosts (t ++ []) w
  nothing t w all = subst (λ l. AllRead hosts l w) (sym (append-nil t)) all

  -- something comes to an end of the controller
  near_comes : (t : List Entry) (w : NodeWorld) (h : ℕ) (comes : Comes) (i : LinkInput) → AllRead hosts t w
      → AllRead hosts (t ++ (controller_does w h comes (steps (AtEnd h i))).1) (controller_does w h comes (steps (AtEnd h i))).0
  near_comes t w h comes i all =
      by_controller (λ p. AllRead hosts (t ++ p.1) p.0) w h comes (steps (AtEnd h i)) (nothing t w all) (λ r e. on r (subst IfZero e all.controller))
    where
      on : (r : Running) → IfZero (Some r) → AllRead hosts (t ++ (after_controller w h comes (controller_work w r h comes (steps (AtEnd h i)))).1)
          (after_controller w h comes (controller_work w r h comes (steps (AtEnd h i)))).0
      on r zero = record {
        controller = runs_zero k (away 1 (omega arith, omega arith)).number;
        hosts_are = hosts_same (link_after_controller h comes k) (λ s. refl) w.sites ∙ all.hosts_are;
        sites = map_reads t (k.entries ++ frames) (link_after_controller h comes k) (λ s. refl) (λ s. refl)
            (λ s. ap (λ (x : NumberedEnd). x.side) (here_host s.link (Step (comes_to h comes s.host) (turns_at k s.host) (ending_of k))))
            (λ n host. silent-append n k.entries frames (away n host).so (silent_flat n (λ (s : Site). frames_noted Controller s.host
            (wires_for s.link (comes_to h comes s.host)) k) (λ s. frames_silent n Controller s.host (wires_for s.link (comes_to h comes s.host)) k) w.sites))
            w.sites (subst (AllByRecursion IsHost) (sym all.hosts_are) are.all) all.sites;
      } where
        k : Work
        k = controller_work w r h comes (steps (AtEnd h i))

        frames : List Entry
        frames = flat_map (λ (s : Site). frames_noted Controller s.host (wires_for s.link (comes_to h comes s.host)) k) w.sites

        begun : Work
        begun =
            work_of r w.memory.plan (λ n. near_end_in (link_to w.sites n) (comes_to h comes n))
            (entries_for h (arrival Controller (link_to w.sites h) comes))

        away : (n : ℕ) (host : IsHost n) → IsAway n 0 (none_zero n host) Controller k
        away n host =
            steps_away n 0 (none_zero n host) Controller (AtEnd h i) begun
            (controller_away r zero n host w.memory.plan (λ n. near_end_in (link_to w.sites n) (comes_to h comes n)) (entries_for h (arrival Controller
            (link_to w.sites h) comes)) (arrival_silent n Controller h (link_to w.sites h) comes))

  -- something comes to the end of a host
  far_comes : (t : List Entry) (w : NodeWorld) (h : ℕ) (comes : Comes) (i : LinkInput) → AllRead hosts t w
      → input_of (exchanged (link_to w.sites h)) comes ≡ Some i
      → AllRead hosts (t ++ (host_does w h comes (steps (AtEnd h i))).1) (host_does w h comes (steps (AtEnd h i))).0
  far_comes t w h comes i all input =
      by_host (λ p. AllRead hosts (t ++ p.1) p.0) w h comes (steps (AtEnd h i)) (nothing t w all)
      (λ x r here e. let known = site_found (SiteReads t) IsHost w.sites h x all.sites (grind arith) here in
      on x r here e known.0 known.1 known.2) where
        on : (x : Site) (r : Running) → site_at w.sites h ≡ Some x → x.node ≡ Some r → SiteReads t x → IsHost x.host → x.host ≡ h
            → AllRead hosts (t ++ (after_host_step w h comes x (host_work x r comes (steps (AtEnd h i)))).1)
            (after_host_step w h comes x (host_work x r comes (steps (AtEnd h i)))).0
        on x r here e keeps host same = record {
          controller = all.controller;
          hosts_are = hosts_with h (after_host comes k) (λ s. refl) w.sites ∙ all.hosts_are;
          sites = with_reads t (k.entries ++ frames) h (after_host comes k)
              (λ n off. silent-append n k.entries frames (away n off).so (frames_silent n Host h (wires_for (exchanged x.link) comes) k)) w.sites x
              (subst AreDifferent (sym all.hosts_are) are.different) here changed all.sites;
        } where
          k : Work
          k = host_work x r comes (steps (AtEnd h i))

          frames : List Entry
          frames = frames_noted Host h (wires_for (exchanged x.link) comes) k

          link_is : link_to w.sites h ≡ x.link
          link_is = rw here refl

          changed : SiteReads (t ++ (k.entries ++ frames)) (after_host comes k x)
          changed =
              subst (λ n. SiteReads (t ++ ((host_work x r comes (steps (AtEnd n i))).entries
              ++ frames_noted Host n (wires_for (exchanged x.link) comes) (host_work x r comes (steps (AtEnd n i))))) (after_host comes (host_work x r comes
              (steps (AtEnd n i))) x)) same (comes_reads t x r comes i host keeps e (ap (λ l. input_of (exchanged l) comes) (sym link_is) ∙ input))

          away : (n : ℕ) (off : eqb h n ≡ false) → IsAway n x.host (ap (λ m. eqb m n) same ∙ off) Host k
          away n off =
              steps_away n x.host (ap (λ m. eqb m n) same ∙ off) Host (AtEnd h i)
              (work_of r x.memory.plan (λ m. near_end_in (exchanged x.link) comes) (entries_for
              x.host (arrival Host (exchanged x.link) comes)))
              (grind arith)

  pub comes_read : (t : List Entry) (w : NodeWorld) (e : End) (comes : Comes) → AllRead hosts t w
      → AllRead hosts (t ++ (comes_at w e comes).1) (comes_at w e comes).0
  comes_read t w e comes all =
      by_coming (λ p. AllRead hosts (t ++ p.1) p.0) w e comes (nothing t w all) (λ i at q. far_comes t w e.link comes i all q)
      (λ i at q. near_comes t w e.link comes i all)

  pub activates_read : (t : List Entry) (w : NodeWorld) (h sync power : ℕ) → AllRead hosts t w
      → AllRead hosts (t ++ (activates w h sync power).1) (activates w h sync power).0
  activates_read t w h sync power all =
      let near : NodeWorld × List Entry = comes_at w (end_c h) (Starts power) in
      let far : NodeWorld × List Entry = comes_at near.0 (end_h h) (Starts sync) in
      subst (λ l. AllRead hosts l far.0) (append_assoc t near.1 far.1)
      (comes_read (t ++ near.1) near.0 (end_h h) (Starts sync) (comes_read t w (end_c h) (Starts power) all))

-- ## What is read of all hosts of a world as one of them acts, and over a tick

-- ### The beginning

pub all_begin : (hosts : List ℕ) → AllRead hosts [] (new_world hosts)
all_begin hosts = record { controller = tt; hosts_are = same hosts; sites = each hosts } where
  same : (hosts : List ℕ) → hosts_in (map (new_site (replicate 65536 255)) hosts) ≡ hosts
  same [] = refl
  same (h ∷ hosts) = ap (λ l. h ∷ l) (same hosts)

  each : (hosts : List ℕ) → AllByRecursion (SiteReads []) (map (new_site (replicate 65536 255)) hosts)
  each [] = tt
  each (h ∷ hosts) = (record { order = refl; runs = tt }, each hosts)

module _ (hosts : List ℕ) (are : AreHosts hosts) where
  -- a host acts
  far_acts : (t : List Entry) (w : NodeWorld) (h : ℕ) (deeds : List Deed) → AllRead hosts t w → ((k : ℕ) → AreHushed k deeds)
      → ((x : Site) → site_at w.sites h ≡ Some x → MayDo h (λ order. give_refusal x.link.host.side (1, order) ≡ None) deeds)
      → AllRead hosts (t ++ (host_does w h NoInput (begins_with h deeds)).1) (host_does w h NoInput (begins_with h deeds)).0
  far_acts t w h deeds all hushed may =
      by_host (λ p. AllRead hosts (t ++ p.1) p.0) w h NoInput (begins_with h deeds) (subst (λ l. AllRead hosts l w) (sym (append-nil t)) all)
      (λ x r here e.
      let known = site_found (SiteReads t) IsHost w.sites h x all.sites (subst (AllByRecursion IsHost) (sym all.hosts_are) are.all) here in
      on x r here e known.0 known.1 known.2) where
        on : (x : Site) (r : Running) → site_at w.sites h ≡ Some x → x.node ≡ Some r → SiteReads t x → IsHost x.host → x.host ≡ h
            → AllRead hosts (t ++ (after_host_step w h NoInput x (host_work x r NoInput (begins_with h deeds))).1)
            (after_host_step w h NoInput x (host_work x r NoInput (begins_with h deeds))).0
        on x r here e keeps host same = record {
          controller = all.controller;
          hosts_are = hosts_with h (after_host NoInput k) (λ s. refl) w.sites ∙ all.hosts_are;
          sites = with_reads t (k.entries ++ frames) h (after_host NoInput k)
              (λ n off. silent-append n k.entries frames (away n off).so (frames_silent n Host h (wires_for (exchanged x.link) NoInput) k)) w.sites x
              (subst AreDifferent (sym all.hosts_are) are.different) here changed all.sites;
        } where
          k : Work
          k = host_work x r NoInput (begins_with h deeds)

          frames : List Entry
          frames = frames_noted Host h (wires_for (exchanged x.link) NoInput) k

          changed : SiteReads (t ++ (k.entries ++ frames)) (after_host NoInput k x)
          changed =
              subst (λ n. SiteReads (t ++ ((host_work x r NoInput (begins_with n deeds)).entries
              ++ frames_noted Host n (wires_for (exchanged x.link) NoInput) (host_work x r NoInput (begins_with n deeds)))) (after_host NoInput
              (host_work x r NoInput
              (begins_with n deeds)) x)) same (acts_reads t x r deeds host keeps e
              (grind arith))

          away : (n : ℕ) (off : eqb h n ≡ false) → IsAway n x.host (ap (λ m. eqb m n) same ∙ off) Host k
          away n off =
              all_do n x.host (ap (λ m. eqb m n) same ∙ off) Host h deeds (work_of r x.memory.plan (λ m. x.link.host) []) (hushed n)
              (grind arith)

  link_is : (w : NodeWorld) (h : ℕ) (x : Site) → site_at w.sites h ≡ Some x → link_to w.sites h ≡ x.link
  link_is w h x here = rw here refl

  pub gives_read : (t : List Entry) (w : NodeWorld) (h : ℕ) (m : Message) → AllRead hosts t w → give_refusal (link_to w.sites h).host.side m ≡ None
      → AllRead hosts (t ++ (host_does w h NoInput (begins_with h (sending h m))).1) (host_does w h NoInput (begins_with h (sending h m))).0
  gives_read t w h m all taken =
      far_acts t w h (sending h m) all
      (λ k. cond_both (eqb m.0 1 && is_command_message m.1) (Orders m.1 ∷ []) (Sends h m ∷ []) (AreHushed k) (λ _. (tt, tt)) (λ _. (tt, tt)))
      (λ x here. sending_may h x.link.host.side m (ap (λ (l : Link). give_refusal l.host.side m) (sym (link_is w h x here)) ∙ taken))

  pub inits_read : (t : List Entry) (w : NodeWorld) (h : ℕ) (identity : List ℕ) (pipes : List (List ℕ)) → AllRead hosts t w
      → give_refusal (link_to w.sites h).host.side (1, 3 ∷ []) ≡ None → AreInitsShort (Some (init_of identity pipes))
      → AllRead hosts (t ++ (host_does w h NoInput (begins_with h (beginning identity pipes))).1)
      (host_does w h NoInput (begins_with h (beginning identity pipes))).0
  inits_read t w h identity pipes all taken short =
      far_acts t w h (beginning identity pipes) all (λ k. (tt, (tt, tt)))
      (λ x here. grind arith)

  -- ### Ticks

  aged_read : (t : List Entry) (w : NodeWorld) → AllRead hosts t w → AllRead hosts (t ++ (all_aged w).1) (all_aged w).0
  aged_read t w all = record {
    controller = all.controller;
    hosts_are = hosts_same (λ (s : Site). record s { link = aged s.link }) (λ s. refl) w.sites ∙ all.hosts_are;
    sites = map_reads t (all_aged w).1 (λ (s : Site). record s { link = aged s.link }) (λ s. refl) (λ s. refl) (λ s. refl)
        (λ k host. silent_flat k (λ (s : Site). entries_for s.host (aged_entries Controller s.link.to_controller ++ aged_entries Host s.link.to_host))
        (λ s. quiet_silent k s.host _ (wires_all IsQuiet (λ w c. tt) Controller Host s.link.to_controller
        s.link.to_host)) w.sites) w.sites (subst (AllByRecursion IsHost) (sym all.hosts_are) are.all) all.sites;
  }

  near_ticks : (t : List Entry) (w : NodeWorld) → AllRead hosts t w → AllRead hosts (t ++ (controller_ticks w).1) (controller_ticks w).0
  near_ticks t w all =
      by_controller_tick (λ p. AllRead hosts (t ++ p.1) p.0) w
      (λ e. record {
        controller = subst IfZero (sym e) tt;
        hosts_are = hosts_same site_unticked (λ s. refl) w.sites ∙ all.hosts_are;
        sites = map_reads t [] site_unticked (λ s. refl) (λ s. refl) (λ s. ap (λ (x : NumberedEnd). x.side) (tick_host s.link [] GoesOut))
            (λ k host. tt) w.sites known all.sites;
      })
      (λ r e. on r (subst IfZero e all.controller))
    where
      known : AllByRecursion IsHost (hosts_in w.sites)
      known = subst (AllByRecursion IsHost) (sym all.hosts_are) are.all

      on : (r : Running) → IfZero (Some r) → AllRead hosts (t ++ (after_near_tick w (near_tick w r)).1) (after_near_tick w (near_tick w r)).0
      on r zero = record {
        controller = runs_zero k (away 1 (omega arith, omega arith)).number;
        hosts_are = hosts_same (site_ticked k) (λ s. refl) w.sites ∙ all.hosts_are;
        sites = map_reads t (k.entries ++ frames) (site_ticked k) (λ s. refl) (λ s. refl)
            (λ s. ap (λ (x : NumberedEnd). x.side) (so_host s.link (is_late_at k s.host) (turns_at k s.host) (ending_of k)))
            (λ n host. silent-append n k.entries frames (away n host).so (silent_flat n (λ (s : Site). frames_noted Controller s.host s.link k)
            (λ s. frames_silent n Controller s.host s.link k) w.sites)) w.sites known all.sites;
      } where
        begun : Work
        begun = work_of r w.memory.plan (λ h. (link_to w.sites h).controller) []

        k : Work
        k = steps TimePasses begun

        frames : List Entry
        frames = flat_map (λ (s : Site). frames_noted Controller s.host s.link k) w.sites

        away : (n : ℕ) (host : IsHost n) → IsAway n 0 (none_zero n host) Controller k
        away n host =
            steps_away n 0 (none_zero n host) Controller TimePasses begun (controller_away r zero n host w.memory.plan (λ h.
            (link_to w.sites h).controller) [] tt)

  -- what a host notes in a tick tells nothing of another one
  tick_silent : (t : List Entry) (s : Site) (k : ℕ) → IsHost s.host → eqb s.host k ≡ false → SiteReads t s → AreSilent k (host_ticks s).1
  tick_silent t s k host off keeps =
      by_host_tick (λ p. AreSilent k p.1) s (λ e. tt)
      (λ r e. let work : Work = host_tick s r in
      silent-append k work.entries (frames_noted Host s.host (exchanged s.link) work)
      (steps_away k s.host off Host TimePasses (work_of r s.memory.plan (λ n. s.link.host) [])
      (grind arith)).so
      (frames_silent k Host s.host (exchanged s.link) work))

  all_tick_silent : (t : List Entry) (k : ℕ) (sites : List Site) → AllByRecursion IsHost (hosts_in sites) → AllByRecursion (λ h. eqb h k ≡ false)
      (hosts_in sites)
      → AllByRecursion (SiteReads t) sites → AreSilent k (hosts_tick sites).1
  all_tick_silent t k [] known off all = tt
  all_tick_silent t k (s ∷ sites) known off all =
      silent-append k (host_ticks s).1 (hosts_tick sites).1 (tick_silent t s k known.0 off.0 all.0) (all_tick_silent t k sites known.1 off.1 all.1)

  moved : (t es : List Entry) (h : ℕ) → ((k : ℕ) → eqb h k ≡ false → AreSilent k es) → (sites : List Site) → AllByRecursion (λ k. eqb k h ≡ false)
      (hosts_in sites)
      → AllByRecursion (SiteReads t) sites → AllByRecursion (SiteReads (t ++ es)) sites
  moved t es h silent [] off all = tt
  moved t es h silent (s ∷ sites) off all = (
    others_read t es s s (silent s.host (ne_eqb h s.host (λ e. eqb-false s.host h off.0 (sym e)))) refl refl refl all.0,
    moved t es h silent sites off.1 all.1,
  )

  sites_tick : (sites : List Site) (t : List Entry) → AreDifferent (hosts_in sites) → AllByRecursion IsHost (hosts_in sites) → AllByRecursion
      (SiteReads t) sites
      → (hosts_in (hosts_tick sites).0 ≡ hosts_in sites) × AllByRecursion (SiteReads (t ++ (hosts_tick sites).1)) (hosts_tick sites).0
  sites_tick [] t different known all = (refl, tt)
  sites_tick (s ∷ sites) t different known all =
      let es : List Entry = (host_ticks s).1 in
      let later : List Entry = (hosts_tick sites).1 in
      let there : AllByRecursion (SiteReads (t ++ es)) sites =
      moved t es s.host (λ k off. tick_silent t s k known.0 off all.0) sites different.0 all.1 in
      let rest = sites_tick sites (t ++ es) different.1 known.1 there in
      let silent : AreSilent (host_ticks s).0.host later =
      subst (λ n. AreSilent n later) (sym (grind arith)) (all_tick_silent (t ++ es) s.host sites known.1 different.0 there) in (
        ap₂ (λ x l. x ∷ l) (grind arith) rest.0,
        (
          subst (λ l. SiteReads l (host_ticks s).0) (append_assoc t es later) (others_read (t ++ es) later (host_ticks s).0
              (host_ticks s).0 silent refl refl refl
              (ticks_read t s known.0 all.0)),
          subst (λ l. AllByRecursion (SiteReads l) (hosts_tick sites).0) (append_assoc t es later) rest.1,
        ),
      )

  far_ticks : (t : List Entry) (w : NodeWorld) → AllRead hosts t w → AllRead hosts (t ++ (hosts_tick w.sites).1) (record w { sites = (hosts_tick w.sites).0 })
  far_ticks t w all =
      let ticks = sites_tick w.sites t (subst AreDifferent (sym all.hosts_are) are.different) (grind arith) all.sites in
      record { controller = all.controller; hosts_are = ticks.0 ∙ all.hosts_are; sites = ticks.1 }

  pub ticks_read_all : (t : List Entry) (w : NodeWorld) → AllRead hosts t w → AllRead hosts (t ++ (world_ticks w).1) (world_ticks w).0
  ticks_read_all t w all =
      let old : NodeWorld × List Entry = all_aged w in
      let near : NodeWorld × List Entry = controller_ticks old.0 in
      let far : List Site × List Entry = hosts_tick near.0.sites in
      let two : AllRead hosts ((t ++ old.1) ++ near.1) near.0 = near_ticks (t ++ old.1) old.0 (aged_read t w all) in
      let three : AllRead hosts (((t ++ old.1) ++ near.1) ++ far.1) (record near.0 { sites = far.0 }) = far_ticks ((t ++ old.1) ++ near.1) near.0 two in
      subst (λ l. AllRead hosts l (record near.0 { sites = far.0 })) (append_assoc (t ++ old.1) near.1 far.1 ∙ append_assoc t old.1 (near.1 ++ far.1)) three
