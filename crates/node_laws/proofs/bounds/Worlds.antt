-- What is noted of an event of a world of nodes is paid for, with what its nodes keep, but for what comes of its cause.
use Rattle.node_laws.proofs.Words.{Activates, AllByRecursion, AreDifferent, Arms, AsksReset, AtController, AtEnd, Bare, Bool, Boots, Broken, Comes, Controller}
use Rattle.node_laws.proofs.Words.{CutOff, Deed, Desk, End, Entry, Gives, GoesOut, Happening, HasEnds, Host, IfItRuns, Inits, IsCut, IsOrderly, IsUicc, Link}
use Rattle.node_laws.proofs.Words.{LinkEnd, LinkInput, List, Loses, Loss, Memory, NextFrame, NoInput, NodeInput, NodeWorld, None, NumberedEnd, Option, Plan}
use Rattle.node_laws.proofs.Words.{Port, Reset, Resets, Running, Site, Some, Start, Starts, Step, Stop, Stops, Take, Takes, Tick, Ticks, TimePasses, Work, []}
use Rattle.node_laws.proofs.Words.{activates, after_host, after_planned, aged, aged_entries, all_aged, ap, arith, arrival, beginning, begins_with, boot_found}
use Rattle.node_laws.proofs.Words.{boot_writes, boot_written, boots, by_boot, by_coming, by_controller, by_controller_tick, by_host, by_host_tick, by_list}
use Rattle.node_laws.proofs.Words.{by_loss, by_memory, by_option, by_power, by_running, by_test, changed_if, comes_at, comes_to, commands_by, cond, cond_both}
use Rattle.node_laws.proofs.Words.{controller_does, controller_ticks, controller_work, counts, end_c, end_h, ending_entries, ending_of, entries_for, eq-eqb}
use Rattle.node_laws.proofs.Words.{eqb, eqb-true, exchanged, false, first_lost, flat_map, frame_lost, frames_noted, happens, host_cut, host_does, host_tick}
use Rattle.node_laws.proofs.Words.{host_ticks, hosts_in, hosts_of_ends, hosts_tick, input_at, input_of, is_late_at, length, length-map, link_after_controller}
use Rattle.node_laws.proofs.Words.{link_to, links_of, loses_power_at, map, memory_at, min, near_end_in, near_tick, new_desk, new_link, option_map_or, own_side}
use Rattle.node_laws.proofs.Words.{port_at, port_for, refl, report, runs_on, sending, site_at, site_lost, site_ticked, site_unticked, steps, subst, sym}
use Rattle.node_laws.proofs.Words.{true≢false, turns_at, wires_for, with_error, with_memory, with_node, with_site, work_of, world_step, world_ticks, ℕ, ◌*◌}
use Rattle.node_laws.proofs.Words.{◌++◌, ◌+◌, ◌==◌, ◌∙◌, ◌∷◌, ◌≡◌, ◌≤◌}
use Rattle.std.proofs.lemmas.List.{length-append}
use Rattle.link_laws.specs.entries.Entries.{End as Side}
use Rattle.node_laws.proofs.telling.Events.{comes_goes, hosts_same_of_nodes as hosts_same, link_is, site_host, site_is}
use Rattle.node_laws.proofs.links.Sites.{here_host}
use Rattle.node_laws.proofs.telling.WorldTicks.{aged_orderly, near_orderly}
use Rattle.node_laws.proofs.telling.Ticks.{ending_all, wires_all}
use Rattle.node_laws.proofs.bounds.Turns.{IsNoSent, Owes, core_holds, costs, costs-append, desks_are, desks_hold, less, node_holds, notes_free}
use Rattle.node_laws.proofs.bounds.Turns.{notice_holds, pays, pays-append, ports_hold, weights, worth}
use Rattle.node_laws.proofs.bounds.Syncs.{FirstOnce, IsCalm, IsResting, aged_holds, all_resting, far_cut_holds, far_holds, far_tick_holds, input_sync}
use Rattle.node_laws.proofs.bounds.Syncs.{link_holds, lost_holds, near_holds, near_tells, near_tick_holds, near_tick_host, start_by, still_rest, sync_frame}
use Rattle.node_laws.proofs.bounds.Syncs.{sync_told, taken_by, ticked_holds, ticked_host}
use Rattle.node_laws.proofs.bounds.SessionsNoted.{begins_owe, flat_costs, steps_owe, syncs_told}
use Rattle.node_laws.proofs.readings.Sites.{near_end_side}

-- ## What nodes keep

abbrev pub site_holds : Site → ℕ
site_holds s = node_holds s.node + link_holds s.link

abbrev pub sites_hold : List Site → ℕ
sites_hold [] = 0
sites_hold (s ∷ sites) = site_holds s + sites_hold sites

abbrev pub world_holds : NodeWorld → ℕ
world_holds w = node_holds w.controller + sites_hold w.sites

-- these are paid for, with what was kept before and is kept behind them, but for so much
abbrev pub Pays : ℕ → ℕ → ℕ → List Entry → Type 0
Pays before behind all t = costs t + behind ≤ pays t + (before + all)

abbrev pub IsPaid : ℕ → NodeWorld → NodeWorld × List Entry → Type 0
IsPaid all w after = Pays (world_holds w) (world_holds after.0) all after.1

pub pays_then : (a b c m n : ℕ) (s t : List Entry) → Pays a b m s → Pays b c n t → Pays a c (m + n) (s ++ t)
pays_then a b c m n s t first later =
    let cs = costs-append s t in let ps = pays-append s t in omega (arith, cs, ps, first, later)

-- ## Sites that change

sites_less : (g : Site → Site) → ((s : Site) → site_holds (g s) ≤ site_holds s) → (sites : List Site) → sites_hold (map g sites) ≤ sites_hold sites
sites_less g less [] = omega arith
sites_less g less (s ∷ sites) = let one = less s in let rest = sites_less g less sites in omega (arith, one, rest)

with_less : (h : ℕ) (g : Site → Site) → ((s : Site) → site_holds (g s) ≤ site_holds s) → (sites : List Site)
    → sites_hold (with_site h g sites) ≤ sites_hold sites
with_less h g less sites = sites_less (λ s. changed_if (eqb s.host h) g s) (λ s. grind arith) sites

-- what is taken of each is left out
abbrev pub all_taken : (Site → ℕ) → List Site → ℕ
all_taken taken [] = 0
all_taken taken (s ∷ sites) = taken s + all_taken taken sites

sites_take : (g : Site → Site) (taken : Site → ℕ) → ((s : Site) → site_holds (g s) + taken s ≤ site_holds s) → (sites : List Site)
    → sites_hold (map g sites) + all_taken taken sites ≤ sites_hold sites
sites_take g taken less [] = omega arith
sites_take g taken less (s ∷ sites) = let one = less s in let rest = sites_take g taken less sites in omega (arith, one, rest)

one_taken : (taken : Site → ℕ) (h : ℕ) (sites : List Site) (s : Site) → site_at sites h ≡ Some s → taken s ≤ all_taken taken sites
one_taken taken h [] s here = absurd (cc here)
one_taken taken h (x ∷ sites) s here = by_test (eqb x.host h)
    (λ q. grind arith)
    (λ q. let rest = one_taken taken h sites s (rw q at here) in omega (arith, rest))

-- a host that isn't there changes nothing
off_same : (h : ℕ) (g : Site → Site) (sites : List Site) → AllByRecursion (λ k. (k == h) ≡ false) (hosts_in sites)
    → sites_hold (with_site h g sites) ≡ sites_hold sites
off_same h g [] off = refl
off_same h g (s ∷ sites) off = let rest = off_same h g sites off.1 in rw off.0 (omega (arith, rest))

-- one host alone changes
one_swaps : (h : ℕ) (g : Site → Site) (sites : List Site) (s : Site) → AreDifferent (hosts_in sites) → site_at sites h ≡ Some s
    → sites_hold (with_site h g sites) + site_holds s ≡ sites_hold sites + site_holds (g s)
one_swaps h g [] s apart here = absurd (cc here)
one_swaps h g (x ∷ sites) s apart here = by_test (eqb x.host h)
    (λ q. let found : Some x ≡ Some s = rw q at here in
    let is : x ≡ s = cc in
    let rest = off_same h g sites (subst (λ n. AllByRecursion (λ k. (k == n) ≡ false) (hosts_in sites)) (eqb-true x.host h q) apart.0) in
    rw q (omega (arith, rest, ap site_holds is, ap (λ (y : Site). site_holds (g y)) is)))
    (λ q. let rest = one_swaps h g sites s apart.1 (rw q at here) in rw q (omega (arith, rest)))

-- ## Frames

frames_free : (who : Side) (h : ℕ) (l : Link) (k : Work) → costs (frames_noted who h l k) ≡ 0
frames_free who h l k = by_option (port_at k.ports h)
    (λ q. rw q refl)
    (λ p q. rw q (notes_free h (ending_entries who l p.side (ending_of k))
    (ending_all IsNoSent (λ w c. tt) (λ w c. tt) (λ w. tt) who l p.side (ending_of k))))

pub arrival_free : (who : Side) (h : ℕ) (l : Link) (comes : Comes) → costs (entries_for h (arrival who l comes)) ≡ 0
arrival_free who h l comes = grind arith

-- ## Nodes

ports_are : (near_ends : ℕ → NumberedEnd) (desks : List Desk) → ports_hold (map (λ (d : Desk). port_for (near_ends d.host) d) desks) ≡ desks_hold desks
ports_are near_ends [] = refl
ports_are near_ends (d ∷ desks) = ap (λ n. notice_holds d.notice + n) (ports_are near_ends desks)

-- a node that runs on keeps no more than its work
runs_hold : (k : Work) → node_holds (runs_on k) ≤ core_holds k.core + ports_hold k.ports
runs_hold k =
    cond_both k.cut None (Some (record { core = k.core; desks = map (λ (p : Port). p.desk) k.ports }))
    (λ (o : Option Running). node_holds o ≤ core_holds k.core + ports_hold k.ports) (λ _. omega arith) (λ _. omega (arith, desks_are k.ports))

-- a node begins with what it keeps, and may spend so much
pub begins_so : (side : Side) (n : ℕ) (hosts : List ℕ) (r : Running) (plan : Option Plan) (near_ends : ℕ → NumberedEnd) (es : List Entry) (left : ℕ)
    → own_side r.core ≡ side → HasEnds n hosts r → length hosts ≤ 7 → costs es ≡ 0
    → Owes side left (node_holds (Some r) + left) (work_of r plan near_ends es)
begins_so side n hosts r plan near_ends es left side_is has few none =
    let one = length-map r.desks (λ (d : Desk). port_for (near_ends d.host) d) in
    let three = ap length has.ends in
    let same = ports_are near_ends r.desks in
    record { side_is = side_is; few = omega (arith, one, length-map r.desks (λ (d : Desk). d.host), three, few); owes = omega (arith, none, same) }

-- its step is paid for, where frames go out behind it
step_pays : (side : Side) (before all : ℕ) (k : Work) (frames : List Entry) → Owes side 0 (before + all) k → costs frames ≡ 0
    → Pays before (node_holds (runs_on k)) all (k.entries ++ frames)
step_pays side before all k frames owed none = omega (arith, costs-append k.entries frames, pays-append k.entries frames, runs_hold k, owed.owes, none)

pub controller_side : (r : Running) (hosts : List ℕ) → HasEnds 0 hosts r → own_side r.core ≡ Controller
controller_side r hosts has = ap (λ n. cond (eqb n 0) Controller Host) has.number

host_side : (n : ℕ) (r : Running) (hosts : List ℕ) → (n == 0) ≡ false → HasEnds n hosts r → own_side r.core ≡ Host
host_side n r hosts off has = ap (λ n. cond (eqb n 0) Controller Host) has.number ∙ ap (λ b. cond b Controller Host) off

hosts_long : (sites : List Site) → length (hosts_in sites) ≡ length sites
hosts_long sites = length-map sites (λ (s : Site). s.host)

-- ## Identifiers

-- an end of a controller tells of an identifier as a frame with one comes
one_told : (h : ℕ) (i : LinkInput) (p : Port) → option_map_or (λ j. sync_told (report p.side j).sync) (input_at (AtEnd h i) p) 0
    ≤ worth (input_sync i) (eqb p.desk.host h)
one_told h i p = by_test (eqb p.desk.host h) (λ q. rw q (near_tells p.side i)) (λ q. rw q (omega arith))

none_told : (h : ℕ) (i : LinkInput) (ports : List Port) → AllByRecursion (λ k. (k == h) ≡ false) (hosts_of_ends ports) → syncs_told (AtEnd h i) ports ≡ 0
none_told h i [] off = refl
none_told h i (p ∷ ports) off = omega (arith, one_told h i p, ap (worth (input_sync i)) off.0, none_told h i ports off.1)

pub told_once : (h : ℕ) (i : LinkInput) (ports : List Port) → AreDifferent (hosts_of_ends ports) → syncs_told (AtEnd h i) ports ≤ input_sync i
told_once h i [] apart = omega arith
told_once h i (p ∷ ports) apart = by_test (eqb p.desk.host h)
    (λ q. let off : AllByRecursion (λ k. (k == h) ≡ false) (hosts_of_ends ports) =
    subst (λ n. AllByRecursion (λ k. (k == n) ≡ false) (hosts_of_ends ports)) (eqb-true p.desk.host h q) apart.0 in
    omega (arith, none_told h i ports off, one_told h i p, ap (worth (input_sync i)) q))
    (λ q. omega (arith, one_told h i p, ap (worth (input_sync i)) q, told_once h i ports apart.1))

-- nothing tells of one in a tick
pub ticks_told : (ports : List Port) → syncs_told TimePasses ports ≡ 0
ticks_told [] = refl
ticks_told (p ∷ ports) = let one = near_tells p.side Tick in let rest = ticks_told ports in omega (arith, one, rest)

-- nor does the end of a host
hosts_told : (input : NodeInput) (ports : List Port) → AllByRecursion (λ (p : Port). IsUicc p.side.role) ports → syncs_told input ports ≡ 0
hosts_told input [] are = refl
hosts_told input (p ∷ ports) are = let one = by (input_at input p) in let rest = hosts_told input ports are.1 in omega (arith, one, rest) where
  by : (o : Option LinkInput) → option_map_or (λ i. sync_told (report p.side i).sync) o 0 ≡ 0
  by None = refl
  by (Some i) = grind arith

-- an identifier that comes to the controller's end of this link was on the wire
pub came_from : (sites : List Site) (h : ℕ) (comes : Comes) (i : LinkInput) → input_of (link_to sites h) comes ≡ Some i
    → input_sync i ≤ all_taken (λ s. taken_by (comes_to h comes s.host) s.link.to_controller) sites
came_from sites h comes i seen = go (site_at sites h) refl where
  taken : Site → ℕ
  taken s = taken_by (comes_to h comes s.host) s.link.to_controller

  on_link : (l : Link) (comes : Comes) (i : LinkInput) → input_of l comes ≡ Some i → input_sync i ≤ taken_by comes l.to_controller
  on_link l NextFrame i is = by_list l.to_controller
      (λ q. rw q (absurd (cc (rw q at is))))
      (λ x xs q. rw q (let same : Take x.frame ≡ i = cc in let one : input_sync i ≡ sync_frame x.frame = ap input_sync (sym same) in omega (arith, one)))
  on_link l (AsksReset window) i is = let same : Reset window ≡ i = cc in let one : input_sync i ≡ 0 = ap input_sync (sym same) in omega (arith, one)
  on_link l (Starts value) i is = let same : Start value ≡ i = cc in let one : input_sync i ≡ 0 = ap input_sync (sym same) in omega (arith, one)
  on_link l Stops i is = let same : Stop ≡ i = cc in let one : input_sync i ≡ 0 = ap input_sync (sym same) in omega (arith, one)
  on_link l NoInput i is = absurd (cc is)

  go : (o : Option Site) → site_at sites h ≡ o → input_sync i ≤ all_taken taken sites
  go None none =
      let away : link_to sites h ≡ new_link Bare Bare = ap (λ o. option_map_or (λ (s : Site). s.link) o (new_link Bare Bare)) none in
      omega (arith, on_link (new_link Bare Bare) comes i (ap (λ l. input_of l comes) (sym away) ∙ seen), nothing comes)
    where
      nothing : (comes : Comes) → taken_by comes [] ≡ 0
      nothing NextFrame = refl
      nothing _ = refl
  go (Some s) here =
      let on : comes_to h comes s.host ≡ comes = ap (λ b. cond b comes NoInput) (eq-eqb s.host h (site_host sites h s here)) in
      let same : taken s ≡ taken_by comes s.link.to_controller = ap (λ c. taken_by c s.link.to_controller) on in
      omega (arith, on_link s.link comes i (ap (λ l. input_of l comes) (sym (link_is sites h s here)) ∙ seen), same, one_taken taken h sites s here)

-- what is taken off the wires was held there
pub all_took : (w : NodeWorld) (h : ℕ) (comes : Comes) → all_taken (λ s. taken_by (comes_to h comes s.host) s.link.to_controller) w.sites ≤ sites_hold w.sites
all_took w h comes =
    let taken : Site → ℕ = λ s. taken_by (comes_to h comes s.host) s.link.to_controller in
    let less =
    sites_take (λ s. record s { link = happens s.link (AtController (Step (comes_to h comes s.host) [] GoesOut)) }) taken
    (λ s. let most = near_holds s.link (comes_to h comes s.host) [] GoesOut in omega (arith, most)) w.sites in
    omega (arith, less)

-- ## Steps

-- the controller has a step, which begins with what comes of identifiers that are taken off the wires
near_paid : (w : NodeWorld) (r : Running) (near_ends : ℕ → NumberedEnd) (es : List Entry) (f : Work → Work) (memory : Memory) (g : Site → Site)
    (taken : Site → ℕ) (left : ℕ) (wires : Site → Link) → IsOrderly w → length w.sites ≤ 7 → w.controller ≡ Some r → costs es ≡ 0
    → ((s : Site) → site_holds (g s) + taken s ≤ site_holds s) → left ≤ all_taken taken w.sites
    → ((all : ℕ) → Owes Controller left all (work_of r w.memory.plan near_ends es) → Owes Controller 0 all (f (work_of r w.memory.plan near_ends es)))
    → IsPaid 0 w (
      record { memory = memory; controller = runs_on (f (work_of r w.memory.plan near_ends es)); sites = map g w.sites },
      (f (work_of r w.memory.plan near_ends es)).entries
          ++ flat_map (λ (s : Site). frames_noted Controller s.host (wires s) (f (work_of r w.memory.plan near_ends es))) w.sites,
    )
near_paid w r near_ends es f memory g taken left wires orderly few runs none holds came does =
    let has : HasEnds 0 (hosts_in w.sites) r = subst (IfItRuns 0 (hosts_in w.sites)) runs orderly.controller in
    let begun : Work = work_of r w.memory.plan near_ends es in
    let start : Owes Controller left (node_holds (Some r) + left) begun =
    begins_so Controller 0 (hosts_in w.sites) r w.memory.plan near_ends es left (controller_side r (hosts_in w.sites) has) has
    (omega (arith, hosts_long w.sites, few)) none in
    let frames : List Entry = flat_map (λ (s : Site). frames_noted Controller s.host (wires s) (f begun)) w.sites in
    let paid =
    step_pays Controller (node_holds (Some r)) left (f begun) frames (does (node_holds (Some r) + left) start)
    (flat_costs (λ (s : Site). frames_noted Controller s.host (wires s) (f begun)) (λ s. frames_free Controller s.host (wires s) (f begun)) w.sites) in
    omega (arith, paid, ap node_holds runs, sites_take g taken holds w.sites, came)

nothing_paid : (all : ℕ) (w : NodeWorld) → IsPaid all w (w, [])
nothing_paid all w = omega arith

controller_paid : (w : NodeWorld) (h : ℕ) (i : LinkInput) (comes : Comes) → IsOrderly w → length w.sites ≤ 7 → input_of (link_to w.sites h) comes ≡ Some i
    → IsPaid 0 w (controller_does w h comes (steps (AtEnd h i)))
controller_paid w h i comes orderly few seen =
    by_controller (IsPaid 0 w) w h comes (steps (AtEnd h i)) (nothing_paid 0 w)
    (λ r q.
    let near_ends : ℕ → NumberedEnd = λ j. near_end_in (link_to w.sites j) (comes_to h comes j) in
    let es : List Entry = entries_for h (arrival Controller (link_to w.sites h) comes) in
    let begun : Work = work_of r w.memory.plan near_ends es in
    let k : Work = steps (AtEnd h i) begun in
    let has : HasEnds 0 (hosts_in w.sites) r = subst (IfItRuns 0 (hosts_in w.sites)) q orderly.controller in
    let once = told_once h i begun.ports (subst AreDifferent (sym (hosts_same near_ends r.desks ∙ has.ends)) orderly.different) in
    near_paid w r near_ends es (steps (AtEnd h i)) (after_planned k.writes w.memory) (link_after_controller h comes k)
    (λ s. taken_by (comes_to h comes s.host) s.link.to_controller) (syncs_told (AtEnd h i) begun.ports)
    (λ s. wires_for s.link (comes_to h comes s.host)) orderly few q (arrival_free Controller h (link_to w.sites h) comes)
    (λ s. let most = near_holds s.link (comes_to h comes s.host) (turns_at k s.host) (ending_of k) in omega (arith, most))
    (omega (arith, once, came_from w.sites h comes i seen)) (λ all a. steps_owe Controller all (AtEnd h i) begun a))

-- the end of a host, whatever comes to it
uicc_ports : (near_ends : ℕ → NumberedEnd) (desks : List Desk) → ((k : ℕ) → IsUicc (near_ends k).side.role)
    → AllByRecursion (λ (p : Port). IsUicc p.side.role) (map (λ (d : Desk). port_for (near_ends d.host) d) desks)
uicc_ports near_ends [] are = tt
uicc_ports near_ends (d ∷ desks) are = (are d.host, uicc_ports near_ends desks are)

uicc_near : (l : Link) (comes : Comes) → IsUicc l.controller.side.role → IsUicc (near_end_in l comes).side.role
uicc_near l comes is = subst (λ (e : LinkEnd). IsUicc e.role) (sym (near_end_side l comes)) is

-- what holds of all sites holds of this one, and it is what is left to know of it
abbrev Known : List Site → Type 0
Known sites = AllByRecursion IsResting sites

-- a host has a step, or does something of itself
host_paid : (w : NodeWorld) (h : ℕ) (comes : Comes) (f : Work → Work) (left : ℕ)
    → ((all : ℕ) (v : Work) → AllByRecursion (λ (p : Port). IsUicc p.side.role) v.ports → Owes Host left all v → Owes Host 0 all (f v))
    → Known w.sites → ((s : Site) → site_at w.sites h ≡ Some s → comes ≡ NextFrame → FirstOnce s.link.to_host)
    → IsOrderly w → IsPaid (left + start_by comes) w (host_does w h comes f)
host_paid w h comes f left does known once orderly =
    by_host (IsPaid (left + start_by comes) w) w h comes f (nothing_paid (left + start_by comes) w)
    (λ s r here q.
    let has : HasEnds s.host (s.host ∷ []) r =
    subst (IfItRuns s.host (s.host ∷ [])) q (site_is (λ (x : Site). IfItRuns x.host (x.host ∷ []) x.node) w.sites h s orderly.nodes here) in
    let off : (s.host == 0) ≡ false = site_is (λ (x : Site). (x.host == 0) ≡ false) w.sites h s orderly.hosts here in
    let rests : IsResting s = site_is IsResting w.sites h s known here in
    let near_ends : ℕ → NumberedEnd = λ j. near_end_in (exchanged s.link) comes in
    let es : List Entry = entries_for s.host (arrival Host (exchanged s.link) comes) in
    let begun : Work = work_of r s.memory.plan near_ends es in
    let start : Owes Host left (node_holds (Some r) + left) begun =
    begins_so Host s.host (s.host ∷ []) r s.memory.plan near_ends es left (host_side s.host r (s.host ∷ []) off has) has (omega arith)
    (arrival_free Host s.host (exchanged s.link) comes) in
    let paid =
    step_pays Host (node_holds (Some r)) left (f begun) (frames_noted Host h (wires_for (exchanged s.link) comes) (f begun))
    (does (node_holds (Some r) + left) begun (uicc_ports near_ends r.desks (λ k. uicc_near (exchanged s.link) comes rests.uicc)) start)
    (frames_free Host h (wires_for (exchanged s.link) comes) (f begun)) in
    let link = far_holds s.link comes (turns_at (f begun) s.host) (ending_of (f begun)) rests (once s here) in
    omega (arith, paid, ap node_holds q, one_swaps h (after_host comes (f begun)) w.sites s orderly.different here, link))

-- in a step
host_steps_paid : (w : NodeWorld) (h : ℕ) (comes : Comes) (i : LinkInput) → Known w.sites
    → ((s : Site) → site_at w.sites h ≡ Some s → comes ≡ NextFrame → FirstOnce s.link.to_host) → IsOrderly w
    → IsPaid (start_by comes) w (host_does w h comes (steps (AtEnd h i)))
host_steps_paid w h comes i known once orderly =
    let paid =
    host_paid w h comes (steps (AtEnd h i)) 0
    (λ all v are a. let none = hosts_told (AtEnd h i) v.ports are in
    steps_owe Host all (AtEnd h i) v (less Host all 0 (syncs_told (AtEnd h i) v.ports) v (omega (arith, none)) a)) known once orderly in
    omega (arith, paid)

far_paid : (w : NodeWorld) (h : ℕ) (comes : Comes) → (comes ≡ NextFrame → ⊥) → Known w.sites → IsOrderly w
    → IsPaid (start_by comes) w (comes_at w (end_h h) comes)
far_paid w h comes other known orderly =
    by_coming (IsPaid (start_by comes) w) w (end_h h) comes (nothing_paid (start_by comes) w)
    (λ i side seen. host_steps_paid w h comes i known (λ s here is. absurd (other is)) orderly)
    (λ i side seen. absurd (true≢false side))

comes_paid : (w : NodeWorld) (e : End) (comes : Comes) → AllByRecursion IsCalm w.sites → IsOrderly w → length w.sites ≤ 7
    → IsPaid (start_by comes) w (comes_at w e comes)
comes_paid w e comes calm orderly few =
    by_coming (IsPaid (start_by comes) w) w e comes (nothing_paid (start_by comes) w)
    (λ i side seen. host_steps_paid w e.link comes i (all_resting w.sites calm) (λ s here is. (site_is IsCalm w.sites e.link s calm here).once) orderly)
    (λ i side seen. let paid = controller_paid w e.link i comes orderly few seen in omega (arith, paid))

-- the ends of hosts rest where something came to the controller's
still_known : (w : NodeWorld) (h : ℕ) (comes : Comes) → Known w.sites → Known (comes_at w (end_c h) comes).0.sites
still_known w h comes known =
    by_coming (λ p. Known p.0.sites) w (end_c h) comes known (λ i side seen. absurd (true≢false (sym side)))
    (λ i side seen.
    by_controller (λ p. Known p.0.sites) w h comes (steps (AtEnd h i)) known
    (λ r q.
    let k : Work = controller_work w r h comes (steps (AtEnd h i)) in
    still_rest (link_after_controller h comes k)
    (λ s. ap (λ (n : NumberedEnd). n.side) (here_host s.link (Step (comes_to h comes s.host) (turns_at k s.host) (ending_of k)))) w.sites known))

-- the controller's end begins an activation, which sends no identifier
near_starts : (w : NodeWorld) (h power : ℕ) → IsOrderly w → length w.sites ≤ 7 → IsPaid 0 w (comes_at w (end_c h) (Starts power))
near_starts w h power orderly few =
    by_coming (IsPaid 0 w) w (end_c h) (Starts power) (nothing_paid 0 w) (λ i side seen. absurd (true≢false (sym side)))
    (λ i side seen. controller_paid w h i (Starts power) orderly few seen)

activates_paid : (w : NodeWorld) (h sync power : ℕ) → AllByRecursion IsCalm w.sites → IsOrderly w → length w.sites ≤ 7
    → IsPaid 3 w (activates w h sync power)
activates_paid w h sync power calm orderly few =
    let near : NodeWorld × List Entry = comes_at w (end_c h) (Starts power) in
    let far : NodeWorld × List Entry = comes_at near.0 (end_h h) (Starts sync) in
    pays_then (world_holds w) (world_holds near.0) (world_holds far.0) 0 3 near.1 far.1 (near_starts w h power orderly few)
    (far_paid near.0 h (Starts sync) (λ is. cc is) (still_known w h (Starts power) (all_resting w.sites calm))
    (comes_goes w (end_c h) (Starts power) orderly).orderly)

-- what a host does of itself
begins_paid : (w : NodeWorld) (h : ℕ) (deeds : List Deed) (most : ℕ) → weights Host deeds ≤ most → AllByRecursion IsCalm w.sites → IsOrderly w
    → IsPaid most w (host_does w h NoInput (begins_with h deeds))
begins_paid w h deeds most few calm orderly =
    let paid =
    host_paid w h NoInput (begins_with h deeds) (weights Host deeds) (λ all v are a. begins_owe Host all h deeds v a) (all_resting w.sites calm)
    (λ s here is. absurd (cc is)) orderly in
    omega (arith, paid, few)

beginning_weighs : (identity : List ℕ) (pipes : List (List ℕ)) → weights Host (beginning identity pipes) ≤ 18 * (5 + length pipes)
beginning_weighs identity pipes =
    let h0 = length-map pipes (λ (pipe : List ℕ). 16 ∷ pipe) in let h1 = length-append (map (λ pipe. 16 ∷ pipe) pipes) ((1 ∷ 1 ∷ identity) ∷ []) in grind arith

-- ## Time

controller_tick_paid : (w : NodeWorld) → IsOrderly w → length w.sites ≤ 7 → IsPaid 0 w (controller_ticks w)
controller_tick_paid w orderly few =
    by_controller_tick (IsPaid 0 w) w
    (λ q. let less = sites_less site_unticked (λ s. let most = near_tick_holds s.link [] GoesOut in omega (arith, most)) w.sites in omega (arith, less))
    (λ r q.
    let near_ends : ℕ → NumberedEnd = λ j. (link_to w.sites j).controller in
    let begun : Work = work_of r w.memory.plan near_ends [] in
    let k : Work = near_tick w r in
    let none = ticks_told begun.ports in
    near_paid w r near_ends [] (steps TimePasses) (after_planned k.writes w.memory) (site_ticked k) (λ s. 0) 0 (λ s. s.link) orderly few q refl
    (λ s. let most = ticked_holds s.link (is_late_at k s.host) (turns_at k s.host) (ending_of k) in omega (arith, most)) (omega arith)
    (λ all a. steps_owe Controller all TimePasses begun (less Controller all 0 (syncs_told TimePasses begun.ports) begun (omega (arith, none)) a)))

-- a host is paid for, with what it keeps
host_tick_paid : (s : Site) → IfItRuns s.host (s.host ∷ []) s.node → (s.host == 0) ≡ false → IsResting s
    → Pays (site_holds s) (site_holds (host_ticks s).0) 0 (host_ticks s).1
host_tick_paid s has off rests =
    by_host_tick (λ (p : Site × List Entry). Pays (site_holds s) (site_holds p.0) 0 p.1) s
    (λ q. let link = far_tick_holds s.link [] GoesOut rests in omega (arith, link))
    (λ r q.
    let near_ends : ℕ → NumberedEnd = λ j. s.link.host in
    let begun : Work = work_of r s.memory.plan near_ends [] in
    let k : Work = host_tick s r in
    let ends : HasEnds s.host (s.host ∷ []) r = subst (IfItRuns s.host (s.host ∷ [])) q has in
    let start : Owes Host 0 (node_holds (Some r) + 0) begun =
    begins_so Host s.host (s.host ∷ []) r s.memory.plan near_ends [] 0 (host_side s.host r (s.host ∷ []) off ends) ends (omega arith) refl in
    let paid =
    step_pays Host (node_holds (Some r)) 0 k (frames_noted Host s.host (exchanged s.link) k)
    (steps_owe Host (node_holds (Some r) + 0) TimePasses begun
    (less Host (node_holds (Some r) + 0) 0 (syncs_told TimePasses begun.ports) begun (omega (arith, ticks_told begun.ports)) start))
    (frames_free Host s.host (exchanged s.link) k) in
    omega (arith, paid, ap node_holds q, far_tick_holds s.link (turns_at k s.host) (ending_of k) rests))

hosts_tick_paid : (sites : List Site) → AllByRecursion (λ (s : Site). IfItRuns s.host (s.host ∷ []) s.node) sites
    → AllByRecursion (λ (s : Site). (s.host == 0) ≡ false) sites → Known sites
    → Pays (sites_hold sites) (sites_hold (hosts_tick sites).0) 0 (hosts_tick sites).1
hosts_tick_paid [] has off known = omega arith
hosts_tick_paid (s ∷ sites) has off known =
    let ps = pays-append (host_ticks s).1 (hosts_tick sites).1 in
    omega (arith, host_tick_paid s has.0 off.0 known.0, hosts_tick_paid sites has.1 off.1 known.1, costs-append (host_ticks s).1 (hosts_tick sites).1, ps)

-- the ends of hosts rest behind the tick of the controller
near_known : (w : NodeWorld) → Known w.sites → Known (controller_ticks w).0.sites
near_known w known =
    by_controller_tick (λ p. Known p.0.sites) w (λ q. still_rest site_unticked (λ s. near_tick_host s.link [] GoesOut) w.sites known)
    (λ r q. still_rest (site_ticked (near_tick w r))
    (λ s. ticked_host s.link (is_late_at (near_tick w r) s.host) (turns_at (near_tick w r) s.host) (ending_of (near_tick w r))) w.sites known)

ticks_paid : (w : NodeWorld) → AllByRecursion IsCalm w.sites → IsOrderly w → length w.sites ≤ 7 → IsPaid 0 w (world_ticks w)
ticks_paid w calm orderly few =
    let age : Site → Site = λ s. record s { link = aged s.link } in
    let old : NodeWorld × List Entry = all_aged w in
    let near : NodeWorld × List Entry = controller_ticks old.0 in
    let far : List Site × List Entry = hosts_tick near.0.sites in
    let f : Site → List Entry = λ s. entries_for s.host (aged_entries Controller s.link.to_controller ++ aged_entries Host s.link.to_host) in
    let none : costs old.1 ≡ 0 =
    flat_costs f (λ s. notes_free s.host (aged_entries Controller s.link.to_controller ++ aged_entries Host s.link.to_host)
    (wires_all IsNoSent (λ w c. tt) Controller Host s.link.to_controller s.link.to_host)) w.sites in
    let fine : IsOrderly old.0 = aged_orderly w orderly in
    let less = sites_less age (λ s. let link = aged_holds s.link in omega (arith, link)) w.sites in
    let behind : IsOrderly (record { memory = old.0.memory; controller = None; sites = near.0.sites }) = near_orderly old.0 fine in
    let rest = hosts_tick_paid near.0.sites behind.nodes behind.hosts (near_known old.0 (still_rest age (λ s. refl) w.sites (all_resting w.sites calm))) in
    let ca = costs-append old.1 (near.1 ++ far.1) in
    let pa = pays-append old.1 (near.1 ++ far.1) in
    let pb = pays-append near.1 far.1 in
    omega (arith, none, less, controller_tick_paid old.0 fine (omega (arith, length-map w.sites age, few)), rest, ca, pa, costs-append near.1 far.1, pb)

-- ## Power, memories and losses

power_less : (n : ℕ) (w : NodeWorld) → world_holds (loses_power_at n w) ≤ world_holds w
power_less n w =
    by_power (λ v. world_holds v ≤ world_holds w) n w
    (λ q. let less =
    sites_less (λ (s : Site). record s { link = (happens s.link (AtController (Step NoInput [] CutOff))) })
    (λ s. let link = near_holds s.link NoInput [] CutOff in omega (arith, link)) w.sites in
    omega (arith, less))
    (λ q. let less = with_less n host_cut (λ s. let link = far_cut_holds s.link in omega (arith, link)) w.sites in omega (arith, less))

memory_less : (n : ℕ) (m : Memory) (w : NodeWorld) → world_holds (with_memory n m w) ≤ world_holds w
memory_less n m w =
    by_memory (λ v. world_holds v ≤ world_holds w) n w m (λ q. omega arith)
    (λ q. let less = with_less n (λ s. record s { memory = m }) (λ s. omega arith) w.sites in omega (arith, less))

running_less : (n : ℕ) (r : Running) (w : NodeWorld) → node_holds (Some r) ≡ 0 → world_holds (with_node n r w) ≤ world_holds w
running_less n r w none =
    by_running (λ v. world_holds v ≤ world_holds w) n w r (λ q. omega (arith, none))
    (λ q. let less = with_less n (λ s. record s { node = Some r }) (λ s. omega (arith, none)) w.sites in omega (arith, less))

new_hold : (hosts : List ℕ) → desks_hold (map new_desk hosts) ≡ 0
new_hold [] = refl
new_hold (h ∷ hosts) = let rest = new_hold hosts in omega (arith, rest)

boots_paid : (w : NodeWorld) (n : ℕ) → IsPaid 0 w (boots w n)
boots_paid w n =
    by_boot (IsPaid 0 w) w n
    (let two = power_less n (boot_written w n) in omega (arith, written, two))
    (
    let two = running_less n (boot_found w n) (boot_written w n) (omega (arith, new_hold (links_of w n))) in omega (arith, written, two))
  where
    written : world_holds (boot_written w n) ≤ world_holds w
    written = memory_less n (after_planned (boot_writes (memory_at w n).content) (memory_at w n)) w

errors_hold : (h : ℕ) (desks : List Desk) → desks_hold (with_error h desks) ≡ desks_hold desks
errors_hold h [] = refl
errors_hold h (d ∷ desks) =
    let one = if_same (eqb d.host h) d in let rest = errors_hold h desks in omega (arith, one, rest)
  where
    if_same : (b : Bool) (d : Desk)
        → notice_holds (changed_if b (λ (d : Desk). record d { errors = min 65535 (d.errors + 1) }) d).notice ≡ notice_holds d.notice
    if_same b d = grind arith

counts_hold : (why : Loss) (h : ℕ) (o : Option Running) → node_holds (counts why h o) ≡ node_holds o
counts_hold (Broken fault) h None = refl
counts_hold (Broken fault) h (Some r) = ap (λ n. core_holds r.core + n) (errors_hold h r.desks)
counts_hold _ h o = refl

lost_paid : (w : NodeWorld) (e : End) (why : Loss) → IsPaid 0 w (frame_lost w e why)
lost_paid w e why =
    by_loss (IsPaid 0 w) w e why
    (λ q.
    let none = notes_free e.link (first_lost Host why (link_to w.sites e.link).to_host) (grind arith) in
    let less =
    with_less e.link (λ s. record (site_lost e why s) { node = counts why e.link s.node })
    (λ s. let same = counts_hold why e.link s.node in let link = lost_holds s.link why e.at_host in omega (arith, same, link)) w.sites in
    omega (arith, none, less))
    (λ q.
    let none =
    notes_free e.link (first_lost Controller why (link_to w.sites e.link).to_controller) (grind arith) in
    let less = with_less e.link (site_lost e why) (λ s. let link = lost_holds s.link why e.at_host in omega (arith, link)) w.sites in
    omega (arith, none, less, counts_hold why e.link w.controller))

-- ## Events

pub event_paid : (w : NodeWorld) (c : Happening) → AllByRecursion IsCalm w.sites → IsOrderly w → length w.sites ≤ 7
    → IsPaid (commands_by c) w (world_step w c)
event_paid w (Boots n) calm orderly few = boots_paid w n
event_paid w (IsCut n) calm orderly few = let less = power_less n w in omega (arith, less)
event_paid w (Gives e m) calm orderly few = begins_paid w e.link (sending e.link m) 18 (grind arith) calm orderly
event_paid w (Inits e identity pipes) calm orderly few =
    begins_paid w e.link (beginning identity pipes) (18 * (5 + length pipes)) (beginning_weighs identity pipes) calm orderly
event_paid w (Takes e) calm orderly few = comes_paid w e NextFrame calm orderly few
event_paid w (Loses e why) calm orderly few = lost_paid w e why
event_paid w Ticks calm orderly few = ticks_paid w calm orderly few
event_paid w (Resets e window) calm orderly few = comes_paid w e (AsksReset window) calm orderly few
event_paid w (Activates h sync power) calm orderly few = activates_paid w h sync power calm orderly few
event_paid w (Arms n plan) calm orderly few = let less = memory_less n (record (memory_at w n) { plan = Some plan }) w in omega (arith, less)
