-- In each event all messages at the ends of nodes that run have had their turns, or all before one that is held.
use Rattle.std.proofs.Common.{arith}
use Rattle.node_laws.proofs.Words.{AllByRecursion, AreDifferent, AreNoTurns, AreNotOf, AtController, AtEnd, Bool, Broken, Comes, Controller, CutOff, Deed, End}
use Rattle.node_laws.proofs.Words.{Entry, Host, IsOrderly, LinkEnd, LinkInput, List, Loss, Memory, NoInput, NodeWorld, None, Noted, NumberedEnd, Option, Port}
use Rattle.node_laws.proofs.Words.{Running, Site, Some, Step, Work, [], after_host, after_planned, all_append, all_map, all_so, ap, append-nil, append_assoc}
use Rattle.node_laws.proofs.Words.{arrival, begins_with, boot_found, boot_writes, boot_written, boots, by_boot, by_coming, by_controller, by_host, by_loss}
use Rattle.node_laws.proofs.Words.{by_memory, by_power, by_running, by_test, changed_if, comes_at, comes_to, cond, controller_cut, controller_does}
use Rattle.node_laws.proofs.Words.{controller_work, count_of, counts, end_c, end_h, ending_of, entries_for, eqb, eqb-true, exchanged, false, first_lost}
use Rattle.node_laws.proofs.Words.{flat_map, fold-append, frame_lost, frames_noted, happens, holds_in, host_cut, host_does, host_work, hosts_in, input_of}
use Rattle.node_laws.proofs.Words.{is_done, is_held_at, is_some, link_after_controller, link_to, loses_power_at, map, memory_at, near_end_in, node_of}
use Rattle.node_laws.proofs.Words.{noted_by_deeds, own_side, refl, runs_on, same_number, site_at, site_lost, steps, subst, sym, true, true≢false, turns_at}
use Rattle.node_laws.proofs.Words.{unhandled_after, unhandled_in, waiting_at, wires_for, with_error, with_memory, with_site, ℕ, ◌++◌, ◌==◌, ◌∙◌, ◌∷◌, ◌≡◌}
use Rattle.trace_model.specs.declared.entry.Entry.TheVariants as entry
use Rattle.node_laws.proofs.telling.Accounts.{AreMute}
use Rattle.node_laws.proofs.telling.Events.{link_is, site_host}
use Rattle.node_laws.proofs.telling.Shapes.{entries_uncut}
use Rattle.node_laws.proofs.passes.InSteps.{NotesNoTurn, deeds_note_of_notes as deeds_note, links_none, noted_none}
use Rattle.node_laws.proofs.links.Sites.{here_host}
use Rattle.node_laws.proofs.passes.Replying.{SeesAt, deeds_see}
use Rattle.node_laws.proofs.power.Steps.{IsMine, IsPart, arrival_of_side, links_own, own_not, part_own, steps_fine}
use Rattle.node_laws.proofs.readings.Sites.{comes_outside, near_end_side}
use Rattle.node_laws.proofs.turns.Worlds.{AllWait, Waiting}
use Rattle.node_laws.proofs.turns.Passing.{AreNoGots, AreStill, Goes, notes_still}
use Rattle.node_laws.proofs.turns.Nodes.{ByPower, FarWaits, arrival_still, lost_none}
use Rattle.node_laws.proofs.views.Events.{orderly_fine}
use Rattle.node_laws.proofs.reply_passes.Ordered.{WaitsRead, deeds_still, near_goes}
use Rattle.node_laws.proofs.reply_passes.Held.{AreNoBoots, begins_unbooted, desks_held, error_held, is_held_among, notes_unbooted, ports_held, site_fine}
use Rattle.node_laws.proofs.worlds.Resting.{AreIdle, IsIdle, SiteRests, SiteWaits, done_empty, far_site, flat_idle, frames_idle, idle_done, idle_held}
use Rattle.node_laws.proofs.worlds.Resting.{near_rests, others_idle, quiet_idle, site_on}
use Rattle.node_laws.proofs.power.Events.{begins_part, controller_part, host_part}
use Rattle.node_laws.proofs.worlds.Ticking.{host_begins}

-- ## All sites

abbrev pub AllWaiting : List Entry → List Site → Type 0
AllWaiting t sites = AllByRecursion (SiteWaits t) sites

abbrev pub AllAtRest : List Entry → List Site → Type 0
AllAtRest t sites = AllByRecursion (SiteRests t) sites

pub same_sym : (a b : ℕ) → eqb a b ≡ false → eqb b a ≡ false
same_sym a b off = by_test (eqb b a) (λ q. absurd (true≢false (sym (subst (λ n. eqb a n ≡ true) (sym (eqb-true b a q)) (same_number a)) ∙ off))) (λ q. q)

-- each site of a world with different hosts is the one with its number
each_there : (sites : List Site) → AreDifferent (hosts_in sites) → AllByRecursion (λ (s : Site). site_at sites s.host ≡ Some s) sites
each_there [] d = tt
each_there (x ∷ sites) d = (rw (same_number x.host) refl, later sites d.0 (each_there sites d.1)) where
  later : (ys : List Site) → AllByRecursion (λ j. (j == x.host) ≡ false) (hosts_in ys) → AllByRecursion (λ (s : Site). site_at sites s.host ≡ Some s) ys
      → AllByRecursion (λ (s : Site). site_at (x ∷ sites) s.host ≡ Some s) ys
  later [] off all = tt
  later (y ∷ ys) off all = let other : eqb x.host y.host ≡ false = same_sym y.host x.host off.0 in (rw other all.0, later ys off.1 all.1)

pub all_two : (P Q R : Site → Type 0) → ((s : Site) → P s → Q s → R s) → (sites : List Site) → AllByRecursion P sites → AllByRecursion Q sites
    → AllByRecursion R sites
all_two P Q R one [] a b = tt
all_two P Q R one (s ∷ sites) a b = (one s a.0 b.0, all_two P Q R one sites a.1 b.1)

-- one site becomes another one
all_with : (P Q : Site → Type 0) (k : ℕ) (g : Site → Site) → ((s : Site) → (s.host == k) ≡ true → P s → Q (g s))
    → ((s : Site) → (s.host == k) ≡ false → P s → Q s) → (sites : List Site) → AllByRecursion P sites → AllByRecursion Q (with_site k g sites)
all_with P Q k g here there sites a = all_map P Q (λ (s : Site). changed_if (s.host == k) g s) (λ s p. grind arith) sites a

pub all_rests : (t : List Entry) (sites : List Site) → AllWaiting t sites → AllAtRest t sites
all_rests t [] a = tt
all_rests t (s ∷ sites) a = (a.0.rests, all_rests t sites a.1)

-- as an event begins
pub waiting_from : (t : List Entry) (w : NodeWorld) → AllWait t w → AllAtRest t w.sites → AllWaiting t w.sites
waiting_from t w a rests =
    all_two (SiteRests t) (λ (s : Site). site_at w.sites s.host ≡ Some s) (SiteWaits t)
    (λ s rest there. record { rests = rest; goes = λ r q. goes s r q there }) w.sites rests (each_there w.sites a.orderly.different) where
      goes : (s : Site) (r : Running) → s.node ≡ Some r → site_at w.sites s.host ≡ Some s → Goes (end_h s.host) [] t s.link.host.side.got
      goes s r q there =
          let all : Waiting t w true s.host = a.waiting true s.host in
          let power : ByPower (is_some s.node) all.messages s.link.host.side.got = subst (FarWaits all.messages) there all.waits in
          subst (Goes (end_h s.host) [] t) (subst (λ (o : Option Running). ByPower (is_some o) all.messages s.link.host.side.got) q power) all.goes

-- ## Entries of one node

zero_other : (s : Site) → (s.host == 0) ≡ false → (0 == s.host) ≡ false
zero_other s off = same_sym s.host 0 off

-- all stays at each site as entries tell nothing of it
pub idle_all : (t es : List Entry) (f : Site → Site) → ((s : Site) → (f s).host ≡ s.host) → ((s : Site) → (f s).node ≡ s.node)
    → ((s : Site) → (f s).link.host.side.got ≡ s.link.host.side.got) → ((e : End) → AreIdle e es) → (sites : List Site) → AllWaiting t sites
    → AllWaiting (t ++ es) (map f sites)
idle_all t es f host node got idle sites a =
    all_map (SiteWaits t) (SiteWaits (t ++ es)) f
    (λ s x. site_on t es s (f s) x (host s) (node s) (got s) (idle_done (end_c s.host) t es (idle (end_c s.host)) x.rests.near) (idle (end_h s.host))) sites a

-- those of one host nothing of the controller, and nothing of another host
pub far_idle : (n : ℕ) (es : List Entry) → IsPart n es → (k : ℕ) → (n == k) ≡ false → (e : End) → node_of e ≡ k → AreIdle e es
far_idle n es part k off e number = others_idle e es (subst (λ j. AreNotOf j es) (sym number) (own_not n k es off (part_own n es part)))

-- ## Steps of the controller

-- the controller notes these entries, and then frames
pub after_near : (t : List Entry) (sites : List Site) (f : Site → Site) → ((s : Site) → (f s).host ≡ s.host) → ((s : Site) → (f s).node ≡ s.node)
    → ((s : Site) → (f s).link.host.side.got ≡ s.link.host.side.got) → (es frames : List Entry) → IsPart 0 (es ++ frames)
    → ((e : End) → AreIdle e frames) → AllByRecursion (λ (s : Site). (s.host == 0) ≡ false) sites
    → AllByRecursion (λ (s : Site). is_done (t ++ es) (end_c s.host) ≡ true) sites
    → AllWaiting t sites → AllWaiting (t ++ (es ++ frames)) (map f sites)
after_near t [] f host node got es frames part idle off done b = tt
after_near t (s ∷ sites) f host node got es frames part idle off done b = (
  site_on t (es ++ frames) s (f s) b.0 (host s) (node s) (got s)
      (subst (λ l. is_done l (end_c s.host) ≡ true) (append_assoc t es frames)
      (idle_done (end_c s.host) (t ++ es) frames (idle (end_c s.host)) done.0))
      (others_idle (end_h s.host) (es ++ frames) (own_not 0 s.host (es ++ frames) (zero_other s off.0) (part_own 0 (es ++ frames) part))),
  after_near t sites f host node got es frames part idle off.1 done.1 b.1,
)

pub each_done : (t es : List Entry) (sites : List Site) → AreDifferent (hosts_in sites)
    → ((k : ℕ) (s : Site) → site_at sites k ≡ Some s → is_done (t ++ es) (end_c k) ≡ true)
    → AllByRecursion (λ (s : Site). is_done (t ++ es) (end_c s.host) ≡ true) sites
each_done t es sites d one = go sites (each_there sites d) where
  go : (ys : List Site) → AllByRecursion (λ (s : Site). site_at sites s.host ≡ Some s) ys
      → AllByRecursion (λ (s : Site). is_done (t ++ es) (end_c s.host) ≡ true) ys
  go ys a = all_so (λ (s : Site). site_at sites s.host ≡ Some s) (λ (s : Site). is_done (t ++ es) (end_c s.host) ≡ true) (λ y b. one y.host y b) ys a

module _ (t : List Entry) (w : NodeWorld) (reads : WaitsRead t w) (before : AllWaiting t w.sites) where
  abbrev a : IsOrderly w
  a = reads.all.orderly

  pub near_comes : (h : ℕ) (comes : Comes) (i : LinkInput) → input_of (link_to w.sites h) comes ≡ Some i
      → AllWaiting (t ++ (controller_does w h comes (steps (AtEnd h i))).1) (controller_does w h comes (steps (AtEnd h i))).0.sites
  near_comes h comes i input =
      by_controller (λ p. IsPart 0 p.1 → AllWaiting (t ++ p.1) p.0.sites) w h comes (steps (AtEnd h i))
      (λ part. subst (λ l. AllWaiting l w.sites) (sym (append-nil t)) before)
      (λ r q part.
      let v : Work = controller_work w r h comes (steps (AtEnd h i)) in
      let f : Site → List Entry = λ s. frames_noted Controller s.host (wires_for s.link (comes_to h comes s.host)) v in
      let es : List Entry = entries_for h (arrival Controller (link_to w.sites h) comes) in
      after_near t w.sites (link_after_controller h comes v) (λ s. refl) (λ s. refl)
      (λ s. ap (λ (x : NumberedEnd). x.side.got) (here_host s.link (Step (comes_to h comes s.host) (turns_at v s.host) (ending_of v))))
      v.entries (flat_map f w.sites) part
      (λ e. flat_idle e f (λ s. frames_idle e Controller s.host (wires_for s.link (comes_to h comes s.host)) v) w.sites) a.hosts
      (each_done t v.entries w.sites a.different
      (near_rests t w.sites w.memory.plan r (grind arith) a.different (λ k. near_end_in (link_to w.sites k) (comes_to h comes k)) es
      (λ k. near_end_side (link_to w.sites k) (comes_to h comes k)) (near_goes t w reads.all r q) (reads.holds r q)
      (links_none h (arrival Controller (link_to w.sites h) comes)) (notes_unbooted h (arrival Controller (link_to w.sites h) comes))
      (links_own 0 h Controller refl (arrival Controller (link_to w.sites h) comes) (arrival_of_side Controller (link_to w.sites h) comes))
      (entries_uncut h (arrival Controller (link_to w.sites h) comes)) (λ k. arrival_still (end_c k) Controller h (link_to w.sites h) comes)
      (AtEnd h i) (comes_outside (link_to w.sites h) comes i input)))
      before)
      (controller_part w h comes (steps (AtEnd h i)) (λ v r. steps_fine 0 (AtEnd h i) v r) a)

-- ## Steps of hosts

kept : (v : Work) (k : ℕ) (x : Running) → runs_on v ≡ Some x → is_held_at v.ports k ≡ is_held_among x.desks k
kept v k x q = by_test v.cut
    (λ lost. let off : runs_on v ≡ None = rw lost refl in let no : None ≡ Some x = sym off ∙ q in absurd (cc no))
    (λ on. let on_is : runs_on v ≡ Some (record { core = v.core; desks = map (λ (p : Port). p.desk) v.ports }) = rw on refl in
    let all : Some x ≡ Some (record { core = v.core; desks = map (λ (p : Port). p.desk) v.ports }) = sym q ∙ on_is in
    let is : x ≡ record { core = v.core; desks = map (λ (p : Port). p.desk) v.ports } = cc in
    sym (desks_held v.ports k) ∙ ap (λ (y : Running). is_held_among y.desks k) (sym is))

module _ (t : List Entry) (w : NodeWorld) (a : IsOrderly w) (before : AllWaiting t w.sites) where
  -- what tells of one host alone leaves the other ones
  other_rests : (k : ℕ) (es : List Entry) → IsPart k es → (k == 0) ≡ false → (s : Site) → (s.host == k) ≡ false → SiteWaits t s → SiteRests (t ++ es) s
  other_rests k es part off s other b =
      (site_on t es s s b refl refl refl (idle_done (end_c s.host) t es (far_idle k es part 0 off (end_c s.host) refl) b.rests.near)
      (far_idle k es part s.host (same_sym s.host k other) (end_h s.host) refl)).rests

  abbrev pub Stood : Site → Type 0
  Stood s = SiteWaits t s × (site_at w.sites s.host ≡ Some s)

  stood : AllByRecursion Stood w.sites
  stood = all_two (SiteWaits t) (λ (s : Site). site_at w.sites s.host ≡ Some s) Stood (λ s b there. (b, there)) w.sites before (each_there w.sites a.different)

  -- the host with this number becomes so, and what is noted tells of it alone
  pub one_rests : (h : ℕ) (s : Site) → site_at w.sites h ≡ Some s → (es : List Entry) → IsPart h es → (h == 0) ≡ false → (g : Site → Site)
      → (SiteWaits t s → SiteRests (t ++ es) (g s)) → AllAtRest (t ++ es) (with_site h g w.sites)
  one_rests h s here es part off g does =
      all_with Stood (SiteRests (t ++ es)) h g
      (λ x found b.
      let both : Some s ≡ Some x = sym here ∙ (ap (site_at w.sites) (sym (eqb-true x.host h found)) ∙ b.1) in
      let one : s ≡ x = cc in
      let P : Site → Type 0 = λ y. SiteRests (t ++ es) (g y) in subst P one (does (subst (SiteWaits t) (sym one) b.0)))
      (λ x other b. other_rests h es part off x other b.0) w.sites stood

  far_comes : (h : ℕ) (comes : Comes) (i : LinkInput) → input_of (exchanged (link_to w.sites h)) comes ≡ Some i
      → AllAtRest (t ++ (host_does w h comes (steps (AtEnd h i))).1) (host_does w h comes (steps (AtEnd h i))).0.sites
  far_comes h comes i input =
      by_host (λ p. IsPart h p.1 → AllAtRest (t ++ p.1) p.0.sites) w h comes (steps (AtEnd h i))
      (λ part. subst (λ l. AllAtRest l w.sites) (sym (append-nil t)) (all_rests t w.sites before))
      (λ s r here q part.
      let fine = site_fine h s r w.sites (orderly_fine w a) here q in
      let v : Work = host_work s r comes (steps (AtEnd h i)) in
      let frames : List Entry = frames_noted Host h (wires_for (exchanged s.link) comes) v in
      let off : (h == 0) ≡ false = subst (λ n. (n == 0) ≡ false) (site_host w.sites h s here) fine.1 in
      let there : link_to w.sites h ≡ s.link = link_is w.sites h s here in
      one_rests h s here (v.entries ++ frames) part off (after_host comes v)
      (λ b. far_site t s b r q fine.0 fine.1 (λ n. near_end_in (exchanged s.link) comes) (entries_for s.host (arrival Host (exchanged s.link) comes))
      (ap (λ (e : LinkEnd). e.got) (near_end_side (exchanged s.link) comes)) (links_none s.host (arrival Host (exchanged s.link) comes))
      (notes_unbooted s.host (arrival Host (exchanged s.link) comes))
      (links_own s.host s.host Host refl (arrival Host (exchanged s.link) comes) (arrival_of_side Host (exchanged s.link) comes))
      (entries_uncut s.host (arrival Host (exchanged s.link) comes)) (arrival_still (end_h s.host) Host s.host (exchanged s.link) comes) (AtEnd h i)
      (comes_outside (exchanged s.link) comes i (ap (λ l. input_of (exchanged l) comes) (sym there) ∙ input)) (after_host comes v s) frames refl refl
      (frames_idle (end_h s.host) Host h (wires_for (exchanged s.link) comes) v)
      (own_not h 0 (v.entries ++ frames) off (part_own h (v.entries ++ frames) part))))
      (host_part w h comes (steps (AtEnd h i)) (λ v r. steps_fine h (AtEnd h i) v r) a)

  pub far_coming : (h : ℕ) (comes : Comes) → AllAtRest (t ++ (comes_at w (end_h h) comes).1) (comes_at w (end_h h) comes).0.sites
  far_coming h comes =
      by_coming (λ p. AllAtRest (t ++ p.1) p.0.sites) w (end_h h) comes
      (subst (λ l. AllAtRest l w.sites) (sym (append-nil t)) (all_rests t w.sites before)) (λ i at q. far_comes h comes i q)
      (λ i at q. absurd (true≢false at))

  -- a host does this of its own
  pub far_begins : (h : ℕ) (deeds : List Deed) → AreMute deeds → AllByRecursion (IsMine h h) deeds → AllByRecursion NotesNoTurn deeds
      → AllAtRest (t ++ (host_does w h NoInput (begins_with h deeds)).1) (host_does w h NoInput (begins_with h deeds)).0.sites
  far_begins h deeds mute mine turnless =
      by_host (λ p. IsPart h p.1 → AllAtRest (t ++ p.1) p.0.sites) w h NoInput (begins_with h deeds)
      (λ part. subst (λ l. AllAtRest l w.sites) (sym (append-nil t)) (all_rests t w.sites before))
      (λ s r here q part.
      let is : s.host ≡ h = site_host w.sites h s here in
      let from : Work = host_begins s r NoInput in
      let v : Work = host_work s r NoInput (begins_with h deeds) in
      let frames : List Entry = frames_noted Host h (wires_for (exchanged s.link) NoInput) v in
      let off : (h == 0) ≡ false = subst (λ n. (n == 0) ≡ false) is (site_fine h s r w.sites (orderly_fine w a) here q).1 in
      one_rests h s here (v.entries ++ frames) part off (after_host NoInput v)
      (λ b. begun_rests s b r q h deeds mute turnless v frames refl (frames_idle (end_h s.host) Host h (wires_for (exchanged s.link) NoInput) v)
      (own_not h 0 (v.entries ++ frames) off (part_own h (v.entries ++ frames) part))))
      (begins_part w h deeds mine a)
    where
      begun_rests : (s : Site) → SiteWaits t s → (r : Running) → s.node ≡ Some r → (h : ℕ) (deeds : List Deed) → AreMute deeds
          → AllByRecursion NotesNoTurn deeds → (v : Work) (frames : List Entry) → begins_with h deeds (host_begins s r NoInput) ≡ v
          → AreIdle (end_h s.host) frames → AreNotOf 0 (v.entries ++ frames) → SiteRests (t ++ (v.entries ++ frames)) (after_host NoInput v s)
      begun_rests s b r q h deeds mute turnless v frames is idle other =
          let from : Work = host_begins s r NoInput in
          let noted : v.entries ≡ (noted_by_deeds h deeds from) = ap (λ (u : Work). u.entries) (sym is) ∙ deeds_note h deeds from in
          let unbooted : AreNoBoots v.entries =
          subst (λ (u : Work). AreNoBoots u.entries) is (begins_unbooted r.core.node (own_side r.core) h deeds from mute refl refl tt) in
          let own : AreIdle (end_h s.host) v.entries =
          quiet_idle (end_h s.host) v.entries (subst (AreStill (end_h s.host)) (sym noted) (deeds_still (end_h s.host) h deeds from mute))
          (subst AreNoTurns (sym noted) (noted_none h deeds from turnless)) unbooted in
          let all : AreIdle (end_h s.host) (v.entries ++ frames) = all_append (IsIdle (end_h s.host)) v.entries frames own idle in
          let sees : SeesAt s.host (waiting_at from.ports s.host) (is_held_at from.ports s.host) v =
          subst (SeesAt s.host (waiting_at from.ports s.host) (is_held_at from.ports s.host)) is
          (deeds_see s.host (waiting_at from.ports s.host) (is_held_at from.ports s.host) h deeds from (refl, refl)) in record {
            near = idle_done (end_c s.host) t (v.entries ++ frames) (others_idle (end_c s.host) (v.entries ++ frames) other) b.rests.near;
            holds = λ x z. idle_held (end_h s.host) t (v.entries ++ frames) all
                ∙ (b.rests.holds r q ∙ (sym (ports_held (λ n. near_end_in (exchanged s.link) NoInput) r.desks s.host) ∙ (sym sees.1 ∙ kept v s.host x z)));
            far = idle_done (end_h s.host) t (v.entries ++ frames) all b.rests.far;
          }

-- ## Power, losses and memories

pub rest_on : (t es : List Entry) (s v : Site) → SiteRests t s → v.host ≡ s.host
    → ((r : Running) → v.node ≡ Some r → holds_in t (end_h s.host) ≡ is_held_among r.desks s.host) → AreIdle (end_c s.host) es → AreIdle (end_h s.host) es
    → SiteRests (t ++ es) v
rest_on t es s v a host holds near far = record {
  near = subst (λ h. is_done (t ++ es) (end_c h) ≡ true) (sym host) (idle_done (end_c s.host) t es near a.near);
  holds = λ r q. subst (λ h. holds_in (t ++ es) (end_h h) ≡ is_held_among r.desks h) (sym host) (idle_held (end_h s.host) t es far ∙ holds r q);
  far = subst (λ h. is_done (t ++ es) (end_h h) ≡ true) (sym host) (idle_done (end_h s.host) t es far a.far);
}

-- entries that are idle at all ends, as all nodes run on, or stop
all_on : (t es : List Entry) (f : Site → Site) → ((s : Site) → (f s).host ≡ s.host)
    → ((s : Site) (r : Running) → (f s).node ≡ Some r → (x : Running) × (s.node ≡ Some x) × (is_held_among x.desks s.host ≡ is_held_among r.desks s.host))
    → ((e : End) → AreIdle e es) → (sites : List Site) → AllAtRest t sites → AllAtRest (t ++ es) (map f sites)
all_on t es f host node idle sites a =
    all_map (SiteRests t) (SiteRests (t ++ es)) f
    (λ s x. rest_on t es s (f s) x (host s) (λ r q. let was = node s r q in x.holds was.0 was.1 ∙ was.2) (idle (end_c s.host)) (idle (end_h s.host))) sites a

same_node : (s : Site) (r : Running) → s.node ≡ Some r → (x : Running) × (s.node ≡ Some x) × (is_held_among x.desks s.host ≡ is_held_among r.desks s.host)
same_node s r q = (r, q, refl)

module _ (t : List Entry) (sites : List Site) (a : AllAtRest t sites) where
  abbrev Kept : (Site → Site) → Type 0
  Kept f = (s : Site) (r : Running) → (f s).node ≡ Some r → (x : Running) × (s.node ≡ Some x) × (is_held_among x.desks s.host ≡ is_held_among r.desks s.host)

  -- at one site
  with_kept : (k : ℕ) (g : Site → Site) → Kept g → Kept (λ (s : Site). changed_if (s.host == k) g s)
  with_kept k g kept s = by (s.host == k) where
    by : (b : Bool) (r : Running) → (changed_if b g s).node ≡ Some r
        → (x : Running) × (s.node ≡ Some x) × (is_held_among x.desks s.host ≡ is_held_among r.desks s.host)
    by true r q = kept s r q
    by false r q = same_node s r q

  with_hosts : (k : ℕ) (g : Site → Site) → ((s : Site) → (g s).host ≡ s.host) → (s : Site) → (changed_if (s.host == k) g s).host ≡ s.host
  with_hosts k g host s = by_test (s.host == k) (λ q. rw q (host s)) (λ q. rw q refl)

  pub with_on : (es : List Entry) (k : ℕ) (g : Site → Site) → ((s : Site) → (g s).host ≡ s.host) → Kept g → ((e : End) → AreIdle e es)
      → AllAtRest (t ++ es) (with_site k g sites)
  with_on es k g host kept idle = all_on t es (λ (s : Site). changed_if (s.host == k) g s) (with_hosts k g host) (with_kept k g kept) idle sites a

pub quiet_links : (e : End) (h : ℕ) (xs : List Noted) → AreNoGots xs → AreIdle e (entries_for h xs)
quiet_links e h xs none = quiet_idle e (entries_for h xs) (notes_still e h xs none) (links_none h xs) (notes_unbooted h xs)

module _ (t : List Entry) (w : NodeWorld) (a : AllAtRest t w.sites) where
  pub cut_rests : (n : ℕ) (v : NodeWorld) → v.sites ≡ w.sites → AllAtRest (t ++ entry.Cut n ∷ []) (loses_power_at n v).sites
  cut_rests n v same =
      by_power (λ u. AllAtRest (t ++ entry.Cut n ∷ []) u.sites) n v
      (λ z. subst (λ l. AllAtRest (t ++ entry.Cut n ∷ []) (controller_cut (record v { sites = l })).sites) (sym same)
      (all_on t (entry.Cut n ∷ []) (λ (s : Site). record s { link = happens s.link (AtController (Step NoInput [] CutOff)) }) (λ s. refl)
      same_node (λ e. (tt, tt))
      w.sites a))
      (λ z. subst (λ l. AllAtRest (t ++ entry.Cut n ∷ []) (with_site n host_cut l)) (sym same)
      (with_on t w.sites a (entry.Cut n ∷ []) n host_cut (λ s. refl) (λ s r q. let no : None ≡ Some r = q in absurd (cc no)) (λ e. (tt, tt))))

  pub written : (n : ℕ) (m : Memory) → AllAtRest t (with_memory n m w).sites
  written n m =
      by_memory (λ u. AllAtRest t u.sites) n w m (λ z. a)
      (λ z. subst (λ l. AllAtRest l (with_site n (λ s. record s { memory = m }) w.sites)) (append-nil t)
      (with_on t w.sites a [] n (λ s. record s { memory = m }) (λ s. refl) same_node (λ e. tt)))

-- a host that boots has no messages, and holds none
booted_rests : (t : List Entry) (n k : ℕ) (s v : Site) → SiteRests t s → (s.host == n) ≡ true → (n == 0) ≡ false → v.host ≡ s.host
    → ((r : Running) → v.node ≡ Some r → is_held_among r.desks s.host ≡ false) → SiteRests (t ++ entry.Booted n k ∷ []) v
booted_rests t n k s v a found off host none =
    let here : (n == s.host) ≡ true = ap (λ j. n == j) (sym (sym (eqb-true s.host n found))) ∙ same_number n in record {
      near = subst (λ h. is_done (t ++ entry.Booted n k ∷ []) (end_c h) ≡ true) (sym host)
          (idle_done (end_c s.host) t (entry.Booted n k ∷ []) (off, tt) a.near);
      holds = λ r q. subst (λ h. holds_in (t ++ entry.Booted n k ∷ []) (end_h h) ≡ is_held_among r.desks h) (sym host)
          (fold-append _ false t (entry.Booted n k ∷ []) ∙ (ap (λ b. cond b false (holds_in t (end_h s.host))) here ∙ sym (none r q)));
      far = subst (λ h. is_done (t ++ entry.Booted n k ∷ []) (end_h h) ≡ true) (sym host)
          (done_empty (t ++ entry.Booted n k ∷ []) (end_h s.host)
          (fold-append (unhandled_after (end_h s.host)) [] t (entry.Booted n k ∷ [])
          ∙ ap (λ b. cond b [] (unhandled_in t (end_h s.host))) here));
    }

-- and so does a controller
booted_near : (t : List Entry) (k : ℕ) (s : Site) → SiteRests t s → (s.host == 0) ≡ false → SiteRests (t ++ entry.Booted 0 k ∷ []) s
booted_near t k s a off = record {
  near = done_empty (t ++ entry.Booted 0 k ∷ []) (end_c s.host) (fold-append (unhandled_after (end_c s.host)) [] t (entry.Booted 0 k ∷ []));
  holds = λ r q. idle_held (end_h s.host) t (entry.Booted 0 k ∷ []) (zero_other s off, tt) ∙ a.holds r q;
  far = idle_done (end_h s.host) t (entry.Booted 0 k ∷ []) (zero_other s off, tt) a.far;
}

module _ (t : List Entry) (w : NodeWorld) (o : IsOrderly w) (a : AllAtRest t w.sites) where
  pub boot_rests : (n : ℕ) → AllAtRest (t ++ (boots w n).1) (boots w n).0.sites
  boot_rests n = by_test (n == 0)
      (λ z. let same : boot_written w n ≡ record w { memory = (after_planned (boot_writes (memory_at w n).content) (memory_at w n)) } = rw z refl in
      by_boot (λ p. AllAtRest (t ++ p.1) p.0.sites) w n (cut_rests t w a n (boot_written w n) (ap (λ (v : NodeWorld). v.sites) same))
      (by_running (λ u. AllAtRest (t ++ told) u.sites) n (boot_written w n) (boot_found w n)
      (λ q. subst (λ (v : NodeWorld). AllAtRest (t ++ told) v.sites) (sym same)
      (subst (λ j. AllAtRest (t ++ entry.Booted j count ∷ []) w.sites) (sym (eqb-true n 0 z))
      (all_two (SiteRests t) (λ (s : Site). (s.host == 0) ≡ false) (SiteRests (t ++ entry.Booted 0 count ∷ []))
      (λ s x off. booted_near t count s x off) w.sites a o.hosts)))
      (λ q. absurd (true≢false (sym z ∙ q)))))
      (λ z. by_boot (λ p. AllAtRest (t ++ p.1) p.0.sites) w n
      (cut_rests t (boot_written w n) old n (boot_written w n) refl)
      (by_running (λ u. AllAtRest (t ++ told) u.sites) n (boot_written w n) (boot_found w n)
      (λ q. absurd (true≢false (sym q ∙ z)))
      (λ q. all_with (SiteRests t) (SiteRests (t ++ told)) n (λ s. record s { node = Some (boot_found w n) })
      (λ s found x. booted_rests t n count s (record s { node = Some (boot_found w n) }) x found z refl
      (λ r e. grind arith))
      (λ s other x. rest_on t told s s x refl x.holds (z, tt) (same_sym s.host n other, tt)) (boot_written w n).sites old))) where
        count : ℕ
        count = count_of (boot_found w n).core.journal

        told : List Entry
        told = entry.Booted n count ∷ []

        old : AllAtRest t (boot_written w n).sites
        old = written t w a n (after_planned (boot_writes (memory_at w n).content) (memory_at w n))

  -- ## Losses

  counted : (why : Loss) (h k : ℕ) (node : Option Running) (r : Running) → counts why h node ≡ Some r
      → (x : Running) × (node ≡ Some x) × (is_held_among x.desks k ≡ is_held_among r.desks k)
  counted (Broken fault) h k None r q = absurd (cc q)
  counted (Broken fault) h k (Some x) r q =
      let all : Some (record x { desks = with_error h x.desks }) ≡ Some r = q in
      let is : record x { desks = with_error h x.desks } ≡ r = cc in
      (x, refl, sym (error_held h x.desks k) ∙ ap (λ (y : Running). is_held_among y.desks k) is)
  counted _ h k node r q = (r, q, refl)

  pub lost_rests : (e : End) (why : Loss) → AllAtRest (t ++ (frame_lost w e why).1) (frame_lost w e why).0.sites
  lost_rests e why =
      by_loss (λ p. AllAtRest (t ++ p.1) p.0.sites) w e why
      (λ at. with_on t w.sites a (entries_for e.link (first_lost Host why (link_to w.sites e.link).to_host)) e.link
      (λ s. record (site_lost e why s) { node = counts why e.link s.node }) (λ s. refl) (λ s r q. counted why e.link s.host s.node r q)
      (λ f. quiet_links f e.link (first_lost Host why (link_to w.sites e.link).to_host) (lost_none Host why (link_to w.sites e.link).to_host)))
      (λ at. with_on t w.sites a (entries_for e.link (first_lost Controller why (link_to w.sites e.link).to_controller)) e.link (site_lost e why) (λ s. refl)
      same_node
      (λ f. grind arith))
