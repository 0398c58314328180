-- What is read of all hosts as frames are lost and as nodes lose their power and boot, and so over the lines of a schedule.
use Rattle.node_laws.proofs.Words.{Activates, AllByRecursion, AllRead, AreDifferent, AreHosts, Arms, AsksReset, AtController, AtHost, Bool, Boots, Controller}
use Rattle.node_laws.proofs.Words.{CutOff, End, Entry, FollowsNodes, Gives, Happening, Header, Host, Inits, IsCut, IsHost, IsInitOfHost, IsSentByHost, IsTrue}
use Rattle.node_laws.proofs.Words.{Line, Link, List, Lose, Loses, Loss, Memory, Message, NextFrame, NoInput, NodeHistory, NodeWorld, None, NumberedEnd}
use Rattle.node_laws.proofs.Words.{Occurrence, Resets, Running, Site, SiteReads, Some, Step, Takes, Ticks, [], after_planned, all_so, ap, append-nil, arith}
use Rattle.node_laws.proofs.Words.{boot_writes, boots, by_option, by_test, cases_Bool, changed_if, controller_cut, count_of, counts, entries_for, entries_in}
use Rattle.node_laws.proofs.Words.{eqb, eqb-true, fails_within, false, first_cause, first_lost, first_verdict, found, frame_lost, frames_at, give_refusal}
use Rattle.node_laws.proofs.Words.{happenings, happens, host_cut, if_not_sent, if_off, inl, inr, length, link_to, links_of, loses_power_at, map, memory_at}
use Rattle.node_laws.proofs.Words.{new_world, node_at, node_entries, node_of, occurrences_in, refl, refusal_in, site_at, subst, sym, taken_of, true, unwrap_or}
use Rattle.node_laws.proofs.Words.{with_memory, with_node, with_site, world_after, world_behind, world_step, ℕ, ◌++◌, ◌∙◌, ◌∷◌, ◌≡◌, ◌⊎◌}
use Rattle.node_laws.specs.readings.Worlds.{MayBeRead}
use Rattle.node_laws.proofs.kept.Events.{hosts_same, hosts_with, loses_is, none_found, site_found, with_site_twice}
use Rattle.node_laws.proofs.links.Sites.{here_host}
use Rattle.node_laws.proofs.readings.Noting.{AreSilent, quiet_silent}
use Rattle.node_laws.proofs.readings.Sites.{activates_read, all_begin, boot_reads, comes_read, cut_reads, gives_read, hosts_in, inits_read, lost_quiet}
use Rattle.node_laws.proofs.readings.Sites.{map_reads, others_read, others_stay, ticks_read_all, with_reads}
use Rattle.node_laws.proofs.telling.Lasting.{AllMay, damaged_may, entries_of_steps, history_holds, lines_last, repeated_may, stands_none}
use Rattle.trace_model.specs.declared.entry.Entry.TheVariants as entry
use Rattle.trace_model.specs.declared.line.Line.TheVariants as line

-- ## What is read of all hosts as a frame is lost on its way

each_site : (t es : List Entry) (g : Site → Site) → ((s : Site) → SiteReads t s → SiteReads (t ++ es) (g s)) → (sites : List Site)
    → AllByRecursion (SiteReads t) sites → AllByRecursion (SiteReads (t ++ es)) (map g sites)
each_site t es g one [] all = tt
each_site t es g one (s ∷ sites) all = (one s all.0, each_site t es g one sites all.1)

module _ (hosts : List ℕ) (t : List Entry) (w : NodeWorld) (all : AllRead hosts t w) where
  lost_read : (e : End) (why : Loss) → AllRead hosts (t ++ (frame_lost w e why).1) (frame_lost w e why).0
  lost_read e why = by_side e.at_host refl where
    l : Link
    l = link_to w.sites e.link

    near : Site → Site
    near s = record s { link = happens s.link (AtController (Lose why)) }

    lost : Site → Site
    lost s = record s { link = happens s.link (AtHost (Lose why)) }

    far : Site → Site
    far s = record (lost s) { node = counts why e.link s.node }

    -- what is noted tells nothing of a host, and the site at this link becomes another one
    site : (es : List Entry) (f : Site → Site) → ((k : ℕ) → AreSilent k es) → ((s : Site) → SiteReads t s → SiteReads (t ++ es) (f s))
        → AllByRecursion (SiteReads (t ++ es)) (with_site e.link f w.sites)
    site es f silent one = each_site t es (λ s. changed_if (eqb s.host e.link) f s)
        (λ s k. by_test (eqb s.host e.link) (λ q. rw q (one s k)) (λ q. rw q (others_read t es s s (silent s.host) refl refl refl k))) w.sites all.sites

    by_side : (b : Bool) → e.at_host ≡ b → (AllRead hosts (t ++ (frame_lost w e why).1) (frame_lost w e why).0)
    by_side false b =
        let es : List Entry = entries_for e.link (first_lost Controller why l.to_controller) in
        let silent : (k : ℕ) → AreSilent k es = grind arith in
        rw b (record {
          controller = grind arith;
          hosts_are = hosts_with e.link near (λ s. refl) w.sites ∙ all.hosts_are;
          sites = site es near silent (λ s k. others_read t es s (near s) (silent s.host) refl refl refl k);
        })
    by_side true b =
        let es : List Entry = entries_for e.link (first_lost Host why l.to_host) in
        let silent : (k : ℕ) → AreSilent k es = λ k. quiet_silent k e.link (first_lost Host why l.to_host) (lost_quiet Host why l.to_host) in
        rw b (record {
          controller = all.controller;
          hosts_are = hosts_with e.link far (λ s. refl) w.sites ∙ all.hosts_are;
          sites = site es far silent (λ s k.
              let so : SiteReads (t ++ es) (lost s) = others_read t es s (lost s) (silent s.host) refl refl refl k in
              record { order = so.order ∙ sym (grind arith); runs = grind arith });
        })

-- ## What is read of all hosts as a node loses its power, as it boots, and as a write to a memory is to fail

module _ (hosts : List ℕ) (are : AreHosts hosts) where
  known : (t : List Entry) (w : NodeWorld) → AllRead hosts t w → AllByRecursion IsHost (hosts_in w.sites)
  known t w all = subst (AllByRecursion IsHost) (sym all.hosts_are) are.all

  near_cut : (t : List Entry) (w : NodeWorld) → AllRead hosts t w → AllRead hosts (t ++ entry.Cut 0 ∷ []) (controller_cut w)
  near_cut t w all = record {
    controller = tt;
    hosts_are = hosts_same cut_here (λ s. refl) w.sites ∙ all.hosts_are;
    sites = map_reads t (entry.Cut 0 ∷ []) cut_here (λ s. refl) (λ s. refl)
        (λ s. ap (λ (x : NumberedEnd). x.side) (here_host s.link (Step NoInput [] CutOff))) (λ k host. grind arith) w.sites
        (known t w all) all.sites;
  } where
    cut_here : Site → Site
    cut_here s = record s { link = happens s.link (AtController (Step NoInput [] CutOff)) }

  -- a host is changed, and what is noted of it tells nothing of others
  alters : (t es : List Entry) (w : NodeWorld) (n : ℕ) (f : Site → Site) → ((s : Site) → (f s).host ≡ s.host)
      → ((k : ℕ) → eqb n k ≡ false → AreSilent k es) → AllRead hosts t w
      → ((x : Site) → site_at w.sites n ≡ Some x → SiteReads t x → x.host ≡ n → SiteReads (t ++ es) (f x))
      → AllRead hosts (t ++ es) (record w { sites = with_site n f w.sites })
  alters t es w n f host silent all changed = by_option (site_at w.sites n)
      (λ here. record {
        controller = all.controller;
        hosts_are = hosts_with n f host w.sites ∙ all.hosts_are;
        sites = others_stay t es n f silent w.sites (none_found w.sites n here) all.sites;
      })
      (λ x here. let known_x = site_found (SiteReads t) IsHost w.sites n x all.sites (known t w all) here in
      record {
        controller = all.controller;
        hosts_are = hosts_with n f host w.sites ∙ all.hosts_are;
        sites = with_reads t es n f silent w.sites x (subst AreDifferent (sym all.hosts_are) are.different) here
            (changed x here known_x.0 known_x.2) all.sites;
      })

  cut_read : (t : List Entry) (w : NodeWorld) (n : ℕ) → AllRead hosts t w → AllRead hosts (t ++ entry.Cut n ∷ []) (loses_power_at n w)
  cut_read t w n all = by_test (eqb n 0)
      (λ e. subst (AllRead hosts (t ++ entry.Cut n ∷ [])) (sym (rw e refl))
      (subst (λ m. AllRead hosts (t ++ entry.Cut m ∷ []) (controller_cut w)) (sym (eqb-true n 0 e)) (near_cut t w all)))
      (λ e. subst (AllRead hosts (t ++ entry.Cut n ∷ [])) (sym (loses_is w n e))
      (alters t (entry.Cut n ∷ []) w n host_cut (λ s. refl) (λ k off. grind arith) all
      (λ x here reads same. subst (λ m. SiteReads (t ++ entry.Cut m ∷ []) (host_cut x)) same (cut_reads t x))))

  memory_read : (t : List Entry) (w : NodeWorld) (n : ℕ) (m : Memory) → AllRead hosts t w → AllRead hosts (t ++ []) (with_memory n m w)
  memory_read t w n m all = by_test (eqb n 0)
      (λ e. rw e (subst (λ l. AllRead hosts l (record w { memory = m })) (sym (append-nil t))
      (record { controller = all.controller; hosts_are = all.hosts_are; sites = all.sites })))
      (λ e. rw e (record {
        controller = all.controller;
        hosts_are = hosts_with n has (λ s. refl) w.sites ∙ all.hosts_are;
        sites = map_reads t [] g (λ s. change (eqb s.host n) s (λ v. v.host ≡ s.host) refl refl) (λ s. change (eqb s.host n) s (λ v. v.node ≡ s.node) refl refl)
            (λ s. change (eqb s.host n) s (λ v. v.link.host.side ≡ s.link.host.side) refl refl) (λ k host. tt) w.sites (known t w all) all.sites;
      })) where
        has : Site → Site
        has s = record s { memory = m }

        change : (b : Bool) (s : Site) (P : Site → Type 0) → P s → P (has s) → P (changed_if b has s)
        change b s P x y = grind arith

        g : Site → Site
        g s = changed_if (eqb s.host n) has s

  -- ### A boot

  module _ (t : List Entry) (w : NodeWorld) (n : ℕ) (all : AllRead hosts t w) (stands : node_at w n ≡ None) where
    abbrev before : Memory
    before = memory_at w n

    abbrev after_it : Memory
    after_it = after_planned (boot_writes before.content) before

    abbrev found_it : Running
    found_it = found n (n ∷ []) before.content

    abbrev noted : List Entry
    noted = entry.Booted n (count_of found_it.core.journal) ∷ []

    abbrev Fine : NodeWorld × List Entry → Type 0
    Fine p = AllRead hosts (t ++ p.1) p.0

    lost_is : fails_within (length (boot_writes before.content)) before.plan ≡ true → boots w n
        ≡ (loses_power_at n (with_memory n after_it w), entry.Cut n ∷ [])
    lost_is e = rw e refl

    runs_is : fails_within (length (boot_writes before.content)) before.plan ≡ false → boots w n
        ≡ (with_node n (found n (links_of w n) before.content) (with_memory n after_it w), entry.Booted n (count_of found_it.core.journal) ∷ [])
    runs_is e = rw e refl

    near_runs : (r : Running) (m : Memory) → eqb n 0 ≡ true → with_node n r (with_memory n m w) ≡ record w { memory = m; controller = Some r }
    near_runs r m e = rw e refl

    far_node : (v : NodeWorld) (r : Running) → eqb n 0 ≡ false → with_node n r v
        ≡ record v { sites = with_site n (λ (s : Site). record s { node = Some r }) v.sites }
    far_node v r e = rw e refl

    far_links : eqb n 0 ≡ false → links_of w n ≡ n ∷ []
    far_links e = rw e refl

    -- an entry that tells nothing of any host
    booted_silent : (k : ℕ) → AreSilent k noted
    booted_silent k = ((λ c. refl), tt)

    all_stay : (sites : List Site) → AllByRecursion (SiteReads t) sites → AllByRecursion (SiteReads (t ++ noted)) sites
    all_stay sites a = all_so (SiteReads t) (SiteReads (t ++ noted)) (λ s b. others_read t noted s s (booted_silent s.host) refl refl refl b) sites a

    lost_reads : Fine (loses_power_at n (with_memory n after_it w), entry.Cut n ∷ [])
    lost_reads = subst (λ l. AllRead hosts (l ++ entry.Cut n ∷ []) (loses_power_at n (with_memory n after_it w))) (append-nil t)
        (cut_read (t ++ []) (with_memory n after_it w) n (memory_read t w n after_it all))

    runs_reads : (eqb n 0 ≡ true) ⊎ (eqb n 0 ≡ false) → AllRead hosts (t ++ noted) (with_node n (found n (links_of w n) before.content)
        (with_memory n after_it w))
    runs_reads (inl e) = subst (AllRead hosts (t ++ noted)) (sym (near_runs (found n (links_of w n) before.content) after_it e))
        (record { controller = eqb-true n 0 e; hosts_are = all.hosts_are; sites = all_stay w.sites all.sites })
    runs_reads (inr e) =
        subst (AllRead hosts (t ++ noted)) (sym (ap (λ l. with_node n (found n l before.content) (with_memory n after_it w)) (far_links e)
        ∙ ap (with_node n found_it) (rw e refl)
        ∙ far_node (record w { sites = with_site n (λ (s : Site). record s { memory = after_it }) w.sites }) found_it e
        ∙ ap (λ l. record w { sites = l }) (with_site_twice n (λ (s : Site). record s { memory = after_it })
        (λ (s : Site). record s { node = Some found_it }) (λ s. refl) w.sites)))
        (alters t noted w n (λ (s : Site). record s { memory = after_it; node = Some found_it }) (λ s. refl) (λ k off. booted_silent k) all
        (λ x here reads same. subst (λ j. SiteReads (t ++ entry.Booted j (count_of found_it.core.journal) ∷ [])
        (record x { memory = after_it; node = Some (found j (j ∷ []) before.content) })) same
        (boot_reads t x after_it before.content (count_of found_it.core.journal) reads (rw here at (rw e at stands)))))

    boots_read : Fine (boots w n)
    boots_read = by_test (fails_within (length (boot_writes before.content)) before.plan)
        (λ fails. subst Fine (sym (lost_is fails)) lost_reads)
        (λ none. subst Fine (sym (runs_is none)) (runs_reads (cases_Bool (eqb n 0))))

-- ## What is read of all hosts over the lines of a schedule

-- ### What a line that isn't refused says

pub is_taken : (w : NodeWorld) (e : End) (m : Message) → IsTrue e.at_host → first_cause (if_off w (node_of e)) (if_not_sent w e m) ≡ None
    → give_refusal (link_to w.sites e.link).host.side m ≡ None
is_taken w e m side none = grind arith

line_may : (w : NodeWorld) (l : Line) → IsSentByHost l → IsInitOfHost l → refusal_in w l ≡ None → AllMay MayBeRead w (happenings w l)
line_may w (line.Send e pid message) side init none = (is_taken w e (pid, message) side none, tt)
line_may w (line.Deliver e count) side init none = repeated_may MayBeRead (Takes e) (λ v. tt) (taken_of count (frames_at w e)) w
line_may w (line.Damage e places) side init none = damaged_may MayBeRead w e tt (λ why. tt) (first_verdict (frames_at w e) places.items)
line_may w (line.Tick times) side init none = repeated_may MayBeRead Ticks (λ v. tt) (unwrap_or times 1) w
line_may w (line.Busy e) side init none = tt
line_may w (line.Ready e) side init none = tt
line_may w (line.Boot n) side init none = (stands_none (node_at w n) none, tt)
line_may w (line.Init e identity pipes) side init none = ((is_taken w e (1, 3 ∷ []) init.0 none, init.1), tt)
line_may w (line.Tables n) side init none = tt
line_may w (line.Settle n) side init none = tt
line_may w _ side init none = (tt, tt)

module _ (hosts : List ℕ) (are : AreHosts hosts) where
  -- ### Events

  pub event_read : (t : List Entry) (w : NodeWorld) (c : Happening) → AllRead hosts t w → MayBeRead w c
      → AllRead hosts (t ++ (world_step w c).1) (world_step w c).0
  event_read t w (Boots n) all may = boots_read hosts are t w n all may
  event_read t w (IsCut n) all may = cut_read hosts are t w n all
  event_read t w (Gives e m) all may = gives_read hosts are t w e.link m all may
  event_read t w (Inits e identity pipes) all may = inits_read hosts are t w e.link identity pipes all may.0 may.1
  event_read t w (Takes e) all may = comes_read hosts are t w e NextFrame all
  event_read t w (Loses e why) all may = lost_read hosts t w all e why
  event_read t w Ticks all may = ticks_read_all hosts are t w all
  event_read t w (Resets e window) all may = comes_read hosts are t w e (AsksReset window) all
  event_read t w (Activates h sync power) all may = activates_read hosts are t w h sync power all
  event_read t w (Arms n plan) all may = memory_read hosts are t w n (record (memory_at w n) { plan = Some plan }) all

-- ### Schedules

-- a line sends as hosts do, and begins an init as it may
abbrev IsPlain : Line → Type 0
IsPlain l = IsSentByHost l × IsInitOfHost l

both : (lines : List Line) → AllByRecursion IsSentByHost lines → AllByRecursion IsInitOfHost lines → AllByRecursion IsPlain lines
both [] sides inits = tt
both (l ∷ lines) sides inits = ((sides.0, inits.0), both lines sides.1 inits.1)

pub schedule_read : (header : Header) (lines : List Line) (t : NodeHistory) → FollowsNodes header lines t → AreHosts header.hosts.items
    → AllByRecursion IsSentByHost lines → AllByRecursion IsInitOfHost lines
    → AllRead header.hosts.items (node_entries t) (world_after (new_world header.hosts.items) lines)
schedule_read header lines t follows are sides inits =
    let hosts : List ℕ = header.hosts.items in
    subst (λ l. AllRead hosts l (world_after (new_world hosts) lines)) (ap entries_of_steps (sym follows.steps_are))
    (lines_last (AllRead hosts) MayBeRead IsPlain (event_read hosts are) (λ w l is none. line_may w l is.0 is.1 none) lines [] (new_world hosts)
    (all_begin hosts) (both lines sides inits))

-- so it is behind any first events
pub events_read : (header : Header) (lines : List Line) (t : NodeHistory) → FollowsNodes header lines t → AreHosts header.hosts.items
    → AllByRecursion IsSentByHost lines → AllByRecursion IsInitOfHost lines → (front back : List Occurrence) → occurrences_in t ≡ front ++ back
    → AllRead header.hosts.items (entries_in front) (world_behind (new_world header.hosts.items) front)
events_read header lines t follows are sides inits front back parts =
    history_holds (AllRead header.hosts.items) MayBeRead IsPlain (event_read header.hosts.items are) (λ w l is none. line_may w l is.0 is.1 none) header lines t
    follows (all_begin header.hosts.items) (both lines sides inits) front back parts
