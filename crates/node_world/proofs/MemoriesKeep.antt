-- What a node of a world finds as it boots is of version 02.
use Rattle.std.proofs.lemmas.Bool.{cond_both}
use Rattle.node_world.proofs.Words.{Activates, AllByRecursion, AllKeep, Arms, AsksReset, AtController, AtEnd, Book, Bool, Boots, Comes, CutOff, Desk, End}
use Rattle.node_world.proofs.Words.{Entry, FindsCommands, Gives, Happening, HciTables, Inits, IsCut, IsHost, IsSentByHost, IsSome, IsSoundMemory, KeepsSome}
use Rattle.node_world.proofs.Words.{Last, Line, LineOutcome, List, Loses, Loss, Memory, NextFrame, NoCause, NoInput, NodeWorld, None, NumberedEnd, Occurrence}
use Rattle.node_world.proofs.Words.{Option, Port, Resets, Running, Side, Site, SiteKeeps, Some, Starts, State, Step, Takes, Ticks, WasRefused, Work, WouldFind}
use Rattle.node_world.proofs.Words.{[], after_host, after_planned, all_aged, all_happen, ap, arith, beginning, begins_with, book_in, boot_found, boot_writes}
use Rattle.node_world.proofs.Words.{boot_written, boots, by_boot, by_coming, by_controller, by_controller_tick, by_host, by_host_tick, by_loss, by_memory}
use Rattle.node_world.proofs.Words.{by_power, by_running, can_happen, cases_Bool, close, comes_at, commands_in, cond, controller_does}
use Rattle.node_world.proofs.Words.{controller_ticks, controller_work, count_of, counts, current, end_c, end_h, eq-eqb, eqb, eqb-true, fails_within, false}
use Rattle.node_world.proofs.Words.{found, frame_lost, goes_on, happens, host_cut, host_does, host_tick, host_work, hosts_tick, inl, inr, is_some, last_in}
use Rattle.node_world.proofs.Words.{length, length-take, line_step, link_after_controller, links_of, loses_power_at, map, memory_at, min, ne_eqb, near_tick}
use Rattle.node_world.proofs.Words.{new_desk, new_memory, new_site, new_world, node_at, option_map_or, port_at, port_for, refl, refusal_in, replicate, sending}
use Rattle.node_world.proofs.Words.{site_at, site_found, site_lost, site_ticked, sound_has_no_fault, started_state, state_by, state_of, steps, subst, sym}
use Rattle.node_world.proofs.Words.{tables_of, take, true, with_found, with_memory, with_node, with_site, world_after, world_step, world_ticks, ℕ, ◌++◌, ◌-◌}
use Rattle.node_world.proofs.Words.{◌==◌, ◌^◌, ◌∙◌, ◌∷◌, ◌≡◌, ◌≤◌, ◌⊎◌}
use Rattle.journal_laws.specs.Journal.{is_open_beside, journal}
use Rattle.trace_model.specs.declared.entry.Entry.TheVariants as entry
use Rattle.journal_laws.specs.Writes.{after_writes, Write}
use Rattle.journal_laws.specs.Operations.{format_writes, formatted}
use Rattle.hci_tables.specs.Tables.{after_commands, no_tables}
use Rattle.hci_store.proofs.Starting.{counted}
use Rattle.node_machine.specs.Parts.{Creation}
use Rattle.node_machine.specs.Controller.{asked_at}
use Rattle.node_laws.specs.kept.Finds.{Knows}
use Rattle.node_laws.specs.kept.Books.{WaitsFor}
use Rattle.node_laws.specs.kept.Worlds.{MayHappen, NodeKeeps}
use Rattle.node_laws.proofs.kept.Reckoned.{planned_whole}
use Rattle.node_laws.proofs.kept.Doing.{book_more, closed_book, finds_all}
use Rattle.node_laws.proofs.kept.Booting.{says, knows_used, knows_formatted, good_found, new_hosts, boot_lost}
use Rattle.trace_model.specs.declared.line.Line.TheVariants as line
use Rattle.node_machine.specs.world.Lines.{happenings}
use Rattle.node_laws.specs.kept.Hosts.{AreHosts}
use Rattle.node_laws.proofs.kept.Events.{Goes, activates_goes, arms_goes, boots_goes, comes_goes, controller_goes, cut_goes, gives_goes, host_goes, hosts_in}
use Rattle.node_laws.proofs.kept.Events.{inits_goes, loses_is, lost_goes, with_site_twice}
use Rattle.node_laws.proofs.kept.Ticking.{MayAllHappen, all_begin, line_may, ticks_goes}
use Rattle.node_sites.specs.Memories.{ReadsGoThrough}
use Rattle.swp_base.specs.InMemory.{is_next, memory_after}

pub boots_find_version_02 : (content : List ℕ) (book : Book) (last : Last) → WouldFind content book last → (started_state (state_of content)).version ≡ 2
boots_find_version_02 content book last w = go (current content)
  where
    go : (bank : Option Side) → (started_state (state_by bank (journal content) (is_open_beside content))).version ≡ 2
    go bank = grind arith

-- What a boot leaves of a world whose nodes keep what is read of some entries, however many commands these have.

waits_anew : (hosts : List ℕ) → AllByRecursion (λ (d : Desk). WaitsFor d.notice) (map new_desk hosts)
waits_anew [] = tt
waits_anew (h ∷ hosts) = (tt, waits_anew hosts)

asks_nobody : (near_ends : ℕ → NumberedEnd) (hosts : List ℕ) (x : ℕ) (q : Port) (c : Creation)
    → port_at (map (λ (d : Desk). port_for (near_ends d.host) d) (map new_desk hosts)) x ≡ Some q → asked_at q ≡ Some c → ⊥
asks_nobody near_ends [] x q c here asked = absurd (cc here)
asks_nobody near_ends (h ∷ hosts) x q c here asked =
    cond_both (eqb h x) (Some (port_for (near_ends h) (new_desk h))) (port_at (map (λ (d : Desk). port_for (near_ends d.host) d) (map new_desk hosts)) x)
    (λ o. o ≡ Some q → ⊥)
    (λ _ e. let same : port_for (near_ends h) (new_desk h) ≡ q = cc in let none : None ≡ Some c = ap asked_at same ∙ asked in cc none)
    (λ _ e. asks_nobody near_ends hosts x q c e asked) here

module _ (n : ℕ) (hosts : List ℕ) (t : List Entry) (m : Memory) (would : WouldFind m.content (book_in t n) (last_in t n)) where
  abbrev content : List ℕ
  content = m.content

  abbrev book : Book
  book = book_in t n

  abbrev tables : HciTables
  tables = after_commands no_tables (take would.many book.commands)

  abbrev now : State
  now = started_state (state_of content)

  -- the boot, with as many commands as it would find
  abbrev pub as_found : Entry
  as_found = entry.Booted n would.many

  pub told_as_found : FindsCommands t n would.many
  told_as_found = grind arith

  most : would.many ≤ length book.commands
  most = grind arith

  knows_now : (o : Option Side) → current content ≡ o → Knows (after_writes (boot_writes content) content) now (close (tables_of content))
  knows_now (Some side) is =
      subst (λ w. Knows (after_writes w content) now (close (tables_of content))) (sym (ap (λ p. option_map_or (λ _. []) p format_writes) is))
      (subst (λ s. Knows content s (close (tables_of content))) (sym (ap (λ p. option_map_or (λ _. state_of content) p formatted) is))
      (knows_used content tables _ would.finds (subst IsSome (sym is) refl)))
  knows_now None is =
      subst (λ w. Knows (after_writes w content) now (close (tables_of content))) (sym (ap (λ p. option_map_or (λ _. []) p format_writes) is))
      (subst (λ s. Knows (after_writes format_writes content) s (close (tables_of content)))
      (sym (ap (λ p. option_map_or (λ _. state_of content) p formatted) is))
      (knows_formatted content tables _ would.finds is))

  book_then : book_in (t ++ as_found ∷ []) n ≡ with_found would.many book
  book_then = book_more t (as_found ∷ []) n ∙ ap (λ b. cond b (with_found would.many book) book) (eq-eqb n n refl)

  tables_then : close (tables_of content) ≡ (book_in (t ++ as_found ∷ []) n).tables
  tables_then = would.finds.keeps.holds.tables_are ∙ ap (λ (b : Book). b.tables) (sym book_then)

  count_then : count_of now ≡ min (length (commands_in (t ++ as_found ∷ []) n)) (2 ^ 32 - 1)
  count_then =
      counted content (state_of content) now (says content tables _ would.finds) refl ∙ would.finds.keeps.count_is
      ∙ same would.many (length book.commands) (length (take would.many book.commands)) (length-take would.many book.commands) most
      ∙ ap (λ (b : Book). min (length b.commands) (2 ^ 32 - 1)) (sym book_then)
    where
      same : (many l k : ℕ) → k ≡ min many l → many ≤ l → min many (2 ^ 32 - 1) ≡ min k (2 ^ 32 - 1)
      same many l k a b = omega arith

  pub runs_as_found : fails_within (length (boot_writes content)) m.plan ≡ false
      → NodeKeeps n hosts (t ++ as_found ∷ []) (after_planned (boot_writes content) m) (Some (found n hosts content))
  runs_as_found none = record {
    would = finds_all _ (book_in (t ++ as_found ∷ []) n) (last_in (t ++ as_found ∷ []) n) (close (tables_of content)) (count_of now) knows.finds
        (ap close tables_then ∙ closed_book (t ++ as_found ∷ []) n) count_then;
    runs = record {
      number = refl;
      hosts_are = new_hosts hosts;
      knows = knows;
      sorted = (good_found content).0;
      recordable = (good_found content).1;
      tables_are = tables_then;
      count_is = count_then;
      on = tt;
      waits = waits_anew hosts;
      allowed = λ z near_ends x q c here asked. absurd (asks_nobody near_ends hosts x q c here asked);
    };
  } where
    knows : Knows (after_planned (boot_writes content) m).content now (close (tables_of content))
    knows = subst (λ x. Knows x now (close (tables_of content))) (sym (planned_whole (boot_writes content) m none).0) (knows_now (current content) refl)

-- Whatever happens to a world, no read of a memory is to fail.

-- ## One memory

pub planned_reads : (writes : List Write) (m : Memory) → (after_planned writes m).failing_read ≡ m.failing_read
planned_reads [] m = refl
planned_reads (w ∷ writes) m = let h0 = is_next m.plan in let h1 = planned_reads writes (memory_after m w.at w.bytes) in grind arith
  where
    one : (b : Bool) → is_next m.plan ≡ b → (memory_after m w.at w.bytes).failing_read ≡ m.failing_read
    one b q = grind arith

-- ## Sites

abbrev AreFine : List Site → Type 0
AreFine sites = AllByRecursion (λ (s : Site). s.memory.failing_read ≡ None) sites

each : (f : Site → Site) → ((s : Site) → (f s).memory.failing_read ≡ s.memory.failing_read) → (sites : List Site) → AreFine sites → AreFine (map f sites)
each f same [] a = tt
each f same (s ∷ sites) a = (same s ∙ a.0, each f same sites a.1)

one_of : (h : ℕ) (f : Site → Site) → ((s : Site) → s.memory.failing_read ≡ None → (f s).memory.failing_read ≡ None) → (sites : List Site) → AreFine sites
    → AreFine (with_site h f sites)
one_of h f keeps [] a = tt
one_of h f keeps (s ∷ sites) a = ((let h0 = s.host == h in grind arith), one_of h f keeps sites a.1)

pub reads_at_first : (hosts : List ℕ) → ReadsGoThrough (new_world hosts)
reads_at_first hosts = record { controller = refl; hosts = go hosts }
  where
    go : (hosts : List ℕ) → AreFine (map (new_site (replicate 65536 255)) hosts)
    go [] = tt
    go (h ∷ hosts) = (refl, go hosts)

memory_found : (n : ℕ) (w : NodeWorld) → ReadsGoThrough w → (memory_at w n).failing_read ≡ None
memory_found n w a = by_number (n == 0) refl
  where
    by_site : (sites : List Site) → AreFine sites → (option_map_or (λ (s : Site). s.memory) (site_at sites n) (new_memory [])).failing_read ≡ None
    by_site [] a = refl
    by_site (s ∷ sites) a = go (s.host == n) refl (by_site sites a.1)
      where
        go : (b : Bool) → (s.host == n) ≡ b → (option_map_or (λ (s : Site). s.memory) (site_at sites n) (new_memory [])).failing_read ≡ None
            → (option_map_or (λ (s : Site). s.memory) (site_at (s ∷ sites) n) (new_memory [])).failing_read ≡ None
        go true q later = rw q a.0
        go false q later = rw q later

    by_number : (b : Bool) → (n == 0) ≡ b → (memory_at w n).failing_read ≡ None
    by_number true q = rw q a.controller
    by_number false q = rw q (by_site w.sites a.hosts)

-- ## Steps

after_controller_reads : (w : NodeWorld) (h : ℕ) (comes : Comes) (f : Work → Work) → ReadsGoThrough w → ReadsGoThrough (controller_does w h comes f).0
after_controller_reads w h comes f a =
    by_controller (λ p. ReadsGoThrough p.0) w h comes f a
    (λ r q. let k : Work = controller_work w r h comes f in
    record { controller = planned_reads k.writes w.memory ∙ a.controller; hosts = each (link_after_controller h comes k) (λ s. refl) w.sites a.hosts })

after_host_reads : (w : NodeWorld) (h : ℕ) (comes : Comes) (f : Work → Work) → ReadsGoThrough w → ReadsGoThrough (host_does w h comes f).0
after_host_reads w h comes f a =
    by_host (λ p. ReadsGoThrough p.0) w h comes f a
    (λ s r found is. let k : Work = host_work s r comes f in
    record { controller = a.controller; hosts = one_of h (after_host comes k) (λ t b. planned_reads k.writes t.memory ∙ b) w.sites a.hosts })

coming_reads : (w : NodeWorld) (e : End) (comes : Comes) → ReadsGoThrough w → ReadsGoThrough (comes_at w e comes).0
coming_reads w e comes a =
    by_coming (λ p. ReadsGoThrough p.0) w e comes a (λ i is q. after_host_reads w e.link comes (steps (AtEnd e.link i)) a)
    (λ i is q. after_controller_reads w e.link comes (steps (AtEnd e.link i)) a)

power_reads : (n : ℕ) (w : NodeWorld) → ReadsGoThrough w → ReadsGoThrough (loses_power_at n w)
power_reads n w a =
    by_power ReadsGoThrough n w (λ q. record { controller = a.controller; hosts = each _ (λ s. refl) w.sites a.hosts })
    (λ q. record { controller = a.controller; hosts = one_of n host_cut (λ s b. b) w.sites a.hosts })

with_memory_reads : (n : ℕ) (m : Memory) (w : NodeWorld) → m.failing_read ≡ None → ReadsGoThrough w → ReadsGoThrough (with_memory n m w)
with_memory_reads n m w none a =
    by_memory ReadsGoThrough n w m (λ q. record { controller = none; hosts = a.hosts })
    (λ q. record { controller = a.controller; hosts = one_of n (λ s. record s { memory = m }) (λ s b. none) w.sites a.hosts })

with_node_reads : (n : ℕ) (r : Running) (w : NodeWorld) → ReadsGoThrough w → ReadsGoThrough (with_node n r w)
with_node_reads n r w a =
    by_running ReadsGoThrough n w r (λ q. record { controller = a.controller; hosts = a.hosts })
    (λ q. record { controller = a.controller; hosts = one_of n (λ s. record s { node = Some r }) (λ s b. b) w.sites a.hosts })

boot_reads : (w : NodeWorld) (n : ℕ) → ReadsGoThrough w → ReadsGoThrough (boots w n).0
boot_reads w n a =
    let m : Memory = memory_at w n in
    let none = planned_reads (boot_writes m.content) m ∙ memory_found n w a in
    let v : NodeWorld = boot_written w n in
    let b : ReadsGoThrough v = with_memory_reads n (after_planned (boot_writes m.content) m) w none a in
    by_boot (λ p. ReadsGoThrough p.0) w n (power_reads n v b) (with_node_reads n (boot_found w n) v b)

lost_reads : (w : NodeWorld) (e : End) (why : Loss) → ReadsGoThrough w → ReadsGoThrough (frame_lost w e why).0
lost_reads w e why a =
    by_loss (λ p. ReadsGoThrough p.0) w e why
    (λ q. record {
      controller = a.controller;
      hosts = one_of e.link (λ s. record (site_lost e why s) { node = counts why e.link s.node }) (λ s b. b) w.sites a.hosts;
    })
    (λ q. record { controller = a.controller; hosts = one_of e.link (site_lost e why) (λ s b. b) w.sites a.hosts })

-- ## Ticks

near_reads : (w : NodeWorld) → ReadsGoThrough w → ReadsGoThrough (controller_ticks w).0
near_reads w a =
    by_controller_tick (λ p. ReadsGoThrough p.0) w (λ q. record { controller = a.controller; hosts = each _ (λ s. refl) w.sites a.hosts })
    (λ r q. let k : Work = near_tick w r in
    record { controller = planned_reads k.writes w.memory ∙ a.controller; hosts = each (site_ticked k) (λ s. refl) w.sites a.hosts })

far_reads : (sites : List Site) → AreFine sites → AreFine (hosts_tick sites).0
far_reads [] a = tt
far_reads (s ∷ sites) a = (
  by_host_tick (λ p. p.0.memory.failing_read ≡ None) s (λ q. a.0) (λ r q. planned_reads (host_tick s r).writes s.memory ∙ a.0),
  far_reads sites a.1,
)

tick_reads : (w : NodeWorld) → ReadsGoThrough w → ReadsGoThrough (world_ticks w).0
tick_reads w a =
    let old : ReadsGoThrough (all_aged w).0 = record { controller = a.controller; hosts = each _ (λ s. refl) w.sites a.hosts } in
    let near : ReadsGoThrough (controller_ticks (all_aged w).0).0 = near_reads (all_aged w).0 old in
    record { controller = near.controller; hosts = far_reads (controller_ticks (all_aged w).0).0.sites near.hosts }

-- ## Whatever happens

pub reads_behind_step : (w : NodeWorld) (c : Happening) → ReadsGoThrough w → ReadsGoThrough (world_step w c).0
reads_behind_step w (Boots n) a = boot_reads w n a
reads_behind_step w (IsCut n) a = power_reads n w a
reads_behind_step w (Gives e m) a = after_host_reads w e.link NoInput (begins_with e.link (sending e.link m)) a
reads_behind_step w (Inits e identity pipes) a = after_host_reads w e.link NoInput (begins_with e.link (beginning identity pipes)) a
reads_behind_step w (Takes e) a = coming_reads w e NextFrame a
reads_behind_step w (Loses e why) a = lost_reads w e why a
reads_behind_step w Ticks a = tick_reads w a
reads_behind_step w (Resets e window) a = coming_reads w e (AsksReset window) a
reads_behind_step w (Activates h sync power) a =
    coming_reads (comes_at w (end_c h) (Starts power)).0 (end_h h) (Starts sync) (coming_reads w (end_c h) (Starts power) a)
reads_behind_step w (Arms n plan) a = with_memory_reads n (record (memory_at w n) { plan = Some plan }) w (memory_found n w a) a

-- In every world behind lines the memory of each node is in order, so that it boots.

map_same : (sites : List Site) → map (λ (s : Site). s) sites ≡ sites
map_same [] = refl
map_same (s ∷ sites) = ap (λ l. s ∷ l) (map_same sites)

-- all nodes of a world keep what is read of some entries
lost_is : (w : NodeWorld) (n : ℕ) → fails_within (length (boot_writes (memory_at w n).content)) (memory_at w n).plan ≡ true
    → (boots w n).0 ≡ loses_power_at n (with_memory n (after_planned (boot_writes (memory_at w n).content) (memory_at w n)) w)
lost_is w n fails = rw fails refl

runs_is : (w : NodeWorld) (n : ℕ) → fails_within (length (boot_writes (memory_at w n).content)) (memory_at w n).plan ≡ false
    → (boots w n).0 ≡ with_node n (found n (links_of w n) (memory_at w n).content)
    (with_memory n (after_planned (boot_writes (memory_at w n).content) (memory_at w n)) w)
runs_is w n none = rw none refl

with_memory_is : (w : NodeWorld) (n : ℕ) → eqb n 0 ≡ false → (m : Memory)
    → with_memory n m w ≡ record w { sites = with_site n (λ (s : Site). record s { memory = m }) w.sites }
with_memory_is w n off m = rw off refl

with_node_is : (w : NodeWorld) (n : ℕ) → eqb n 0 ≡ false → (r : Running)
    → with_node n r w ≡ record w { sites = with_site n (λ (s : Site). record s { node = Some r }) w.sites }
with_node_is w n off r = rw off refl

abbrev KeepSome : List ℕ → NodeWorld → Type 0
KeepSome hosts w = (t : List Entry) × AllKeep hosts t w

module _ (hosts : List ℕ) (are : AreHosts hosts) where
  some_of : (t : List Entry) (w : NodeWorld) (es : List Entry) → Goes hosts are t w es → KeepSome hosts w
  some_of t w es g = (t ++ es, g.keep)

  -- ## Boots

  module _ (t : List Entry) (w : NodeWorld) (all : AllKeep hosts t w) where
    near_boots : KeepSome hosts (boots w 0).0
    near_boots = go (cases_Bool (fails_within (length (boot_writes w.memory.content)) w.memory.plan))
      where
        go : (fails_within (length (boot_writes w.memory.content)) w.memory.plan ≡ true)
            ⊎ (fails_within (length (boot_writes w.memory.content)) w.memory.plan ≡ false) → KeepSome hosts (boots w 0).0
        go (inl fails) =
            let g = controller_goes hosts are t w (entry.Cut 0 ∷ []) (after_planned (boot_writes w.memory.content) w.memory) None
            (λ (s : Site). record s { link = happens s.link (AtController (Step NoInput [] CutOff)) }) all
            (boot_lost 0 hosts t w.memory all.controller.would fails) (tt, tt) (refl, tt) (λ s. refl) (λ s x. x) in
            rw fails (some_of t _ (entry.Cut 0 ∷ []) g)
        go (inr none) =
            let keeps = runs_as_found 0 hosts t w.memory all.controller.would none in
            let g = controller_goes hosts are t w (as_found 0 hosts t w.memory all.controller.would ∷ [])
            (after_planned (boot_writes w.memory.content) w.memory) (Some (found 0 hosts w.memory.content)) (λ s. s) all keeps
            (told_as_found 0 hosts t w.memory all.controller.would, tt) (refl, tt) (λ s. refl) (λ s x. x) in
            let now : KeepSome hosts (record {
              memory = after_planned (boot_writes w.memory.content) w.memory;
              controller = Some (found 0 hosts w.memory.content);
              sites = map (λ (s : Site). s) w.sites;
            }) = some_of t _ (as_found 0 hosts t w.memory all.controller.would ∷ []) g in
            rw none
            (subst (λ (l : List ℕ). KeepSome hosts (record w {
              memory = after_planned (boot_writes w.memory.content) w.memory;
              controller = Some (found 0 l w.memory.content);
            })) (sym all.hosts_are)
            (subst (λ (l : List Site). KeepSome hosts (record {
              memory = after_planned (boot_writes w.memory.content) w.memory;
              controller = Some (found 0 hosts w.memory.content);
              sites = l;
            })) (map_same w.sites) now))

    module _ (n : ℕ) (x : Site) (off : eqb n 0 ≡ false) (here : site_at w.sites n ≡ Some x) where
      abbrev after_it : Memory
      after_it = after_planned (boot_writes x.memory.content) x.memory

      abbrev found_it : Running
      found_it = found n (n ∷ []) x.memory.content

      abbrev written : List Site
      written = with_site n (λ (s : Site). record s { memory = after_it }) w.sites

      there : memory_at w n ≡ x.memory
      there = rw off (rw here refl)

      far_lost_is : fails_within (length (boot_writes x.memory.content)) x.memory.plan ≡ true
          → (boots w n).0 ≡ record w { sites = with_site n host_cut written }
      far_lost_is fails =
          lost_is w n (ap (λ (m : Memory). fails_within (length (boot_writes m.content)) m.plan) there ∙ fails)
          ∙ ap (λ (m : Memory). loses_power_at n (with_memory n (after_planned (boot_writes m.content) m) w)) there
          ∙ ap (loses_power_at n) (with_memory_is w n off after_it)
          ∙ loses_is (record w { sites = written }) n off

      far_runs_is : fails_within (length (boot_writes x.memory.content)) x.memory.plan ≡ false
          → (boots w n).0 ≡ record w { sites = with_site n (λ (s : Site). record s { node = Some found_it }) written }
      far_runs_is none =
          runs_is w n (ap (λ (m : Memory). fails_within (length (boot_writes m.content)) m.plan) there ∙ none)
          ∙ ap (λ (m : Memory). with_node n (found n (links_of w n) m.content) (with_memory n (after_planned (boot_writes m.content) m) w)) there
          ∙ ap (λ (l : List ℕ). with_node n (found n l x.memory.content) (with_memory n after_it w))
          (ap (λ b. cond b (map (λ (s : Site). s.host) w.sites) (n ∷ [])) off)
          ∙ ap (with_node n found_it) (with_memory_is w n off after_it)
          ∙ with_node_is (record w { sites = written }) n off found_it

      known : SiteKeeps t x × IsHost x.host × (x.host ≡ n)
      known = site_found (SiteKeeps t) IsHost w.sites n x all.sites (subst (AllByRecursion IsHost) (sym all.hosts_are) are.all) here

      keeps : NodeKeeps n (n ∷ []) t x.memory x.node
      keeps = subst (λ k. NodeKeeps k (k ∷ []) t x.memory x.node) known.2 known.0

      far_boots : KeepSome hosts (boots w n).0
      far_boots = go (cases_Bool (fails_within (length (boot_writes x.memory.content)) x.memory.plan))
        where
          go : (fails_within (length (boot_writes x.memory.content)) x.memory.plan ≡ true)
              ⊎ (fails_within (length (boot_writes x.memory.content)) x.memory.plan ≡ false) → KeepSome hosts (boots w n).0
          go (inl fails) =
              let lost = boot_lost n (n ∷ []) t x.memory keeps.would fails in
              let f : Site → Site = λ s. host_cut (record s { memory = after_it }) in
              let g = host_goes hosts are t w (entry.Cut n ∷ []) n x f all here
              (subst (λ k. NodeKeeps k (k ∷ []) (t ++ entry.Cut n ∷ []) after_it None) (sym known.2) lost) (tt, tt) (refl, tt) (λ s. refl) in
              let now : KeepSome hosts (record w { sites = with_site n f w.sites }) = some_of t _ (entry.Cut n ∷ []) g in
              subst (KeepSome hosts) (sym (far_lost_is fails))
              (subst (λ (l : List Site). KeepSome hosts (record w { sites = l }))
              (sym (with_site_twice n (λ (s : Site). record s { memory = after_it }) host_cut (λ s. refl) w.sites)) now)
          go (inr none) =
              let e : Entry = as_found n (n ∷ []) t x.memory keeps.would in
              let ran = runs_as_found n (n ∷ []) t x.memory keeps.would none in
              let f : Site → Site = λ s. record s { memory = after_it; node = Some found_it } in
              let g = host_goes hosts are t w (e ∷ []) n x f all here
              (subst (λ k. NodeKeeps k (k ∷ []) (t ++ e ∷ []) after_it (Some found_it)) (sym known.2) ran)
              (told_as_found n (n ∷ []) t x.memory keeps.would, tt) (refl, tt) (λ s. refl) in
              let now : KeepSome hosts (record w { sites = with_site n f w.sites }) = some_of t _ (e ∷ []) g in
              subst (KeepSome hosts) (sym (far_runs_is none))
              (subst (λ (l : List Site). KeepSome hosts (record w { sites = l }))
              (sym (with_site_twice n (λ (s : Site). record s { memory = after_it }) (λ (s : Site). record s { node = Some found_it }) (λ s. refl) w.sites))
              now)

    -- no host has this number
    none_found : (sites : List Site) (n : ℕ) → site_at sites n ≡ None → AllByRecursion (λ k. eqb k n ≡ false) (hosts_in sites)
    none_found [] n e = tt
    none_found (s ∷ sites) n e = let h0 = cases_Bool (eqb s.host n) in let h1 = none_found sites n in grind arith

    -- nothing is read of a node that isn't there
    nobody_boots : (n : ℕ) → eqb n 0 ≡ false → site_at w.sites n ≡ None → KeepSome hosts (boots w n).0
    nobody_boots n off here =
        let strange : AllByRecursion (λ k. eqb k n ≡ false) hosts =
        subst (AllByRecursion (λ k. eqb k n ≡ false)) all.hosts_are (none_found w.sites n here) in
        let blank = ap (λ (b : Book). length b.commands) (all.strangers n (off, strange)) in
        some_of t (boots w n).0 (boots w n).1 (boots_goes hosts are t w all n (omega (arith, blank)))

    boots_keep : (n : ℕ) → KeepSome hosts (boots w n).0
    boots_keep n = by_number (cases_Bool (eqb n 0))
      where
        by_site : eqb n 0 ≡ false → (o : Option Site) → site_at w.sites n ≡ o → KeepSome hosts (boots w n).0
        by_site off None here = nobody_boots n off here
        by_site off (Some x) here = far_boots n x off here

        by_number : (eqb n 0 ≡ true) ⊎ (eqb n 0 ≡ false) → KeepSome hosts (boots w n).0
        by_number (inl is) = subst (λ k. KeepSome hosts (boots w k).0) (sym (eqb-true n 0 is)) near_boots
        by_number (inr off) = by_site off (site_at w.sites n) refl

  -- ## Whatever happens

  node_there : (w : NodeWorld) (h : ℕ) (x : Site) (r : Running) → IsHost h → site_at w.sites h ≡ Some x → x.node ≡ Some r → node_at w h ≡ Some r
  node_there w h x r host here running = let off : eqb h 0 ≡ false = ne_eqb h 0 (λ z. omega (arith, z, host.0)) in rw off (rw here running)

  keep_behind_step : (w : NodeWorld) (c : Happening) → MayHappen w c → KeepSome hosts w → KeepSome hosts (world_step w c).0
  keep_behind_step w (Boots n) may k = boots_keep k.0 w k.1 n
  keep_behind_step w (IsCut n) may k = some_of k.0 _ _ (cut_goes hosts are k.0 w n may.0 k.1 may.1)
  keep_behind_step w (Gives e m) may k =
      some_of k.0 _ _ (gives_goes hosts are k.0 w e.link m k.1
      (λ x r here running is.
      let known = site_found (SiteKeeps k.0) IsHost w.sites e.link x k.1.sites (subst (AllByRecursion IsHost) (sym k.1.hosts_are) are.all) here in
      ap is_some (may r (node_there w e.link x r (subst IsHost known.2 known.1) here running) is)))
  keep_behind_step w (Inits e identity pipes) may k = some_of k.0 _ _ (inits_goes hosts are k.0 w e.link identity pipes k.1)
  keep_behind_step w (Takes e) may k = some_of k.0 _ _ (comes_goes hosts are k.0 w e NextFrame k.1)
  keep_behind_step w (Loses e why) may k = some_of k.0 _ _ (lost_goes hosts are k.0 w e why k.1)
  keep_behind_step w Ticks may k = some_of k.0 _ _ (ticks_goes hosts are k.0 w k.1)
  keep_behind_step w (Resets e window) may k = some_of k.0 _ _ (comes_goes hosts are k.0 w e (AsksReset window) k.1)
  keep_behind_step w (Activates h sync power) may k = some_of k.0 _ _ (activates_goes hosts are k.0 w h sync power k.1)
  keep_behind_step w (Arms n plan) may k = some_of k.0 _ _ (arms_goes hosts are k.0 w n plan k.1)

  pub keeps_behind_step : (w : NodeWorld) (c : Happening) → MayHappen w c → KeepsSome hosts w → KeepsSome hosts (world_step w c).0
  keeps_behind_step w c may k =
      let z = keep_behind_step w c may (k.entries, k.keep) in record { entries = z.0; keep = z.1; reads = reads_behind_step w c k.reads }

  pub keeps_at_first : KeepsSome hosts (new_world hosts)
  keeps_at_first = record { entries = []; keep = all_begin hosts; reads = reads_at_first hosts }

  -- ## Lines

  keeps_behind_all : (causes : List Happening) (w : NodeWorld) → MayAllHappen w causes → KeepsSome hosts w → KeepsSome hosts (all_happen w causes).0
  keeps_behind_all [] w may k = k
  keeps_behind_all (c ∷ causes) w may k = go (can_happen w c) (keeps_behind_all causes (world_step w c).0 may.1 (keeps_behind_step w c may.0 k))
    where
      by : Bool → NodeWorld × List Occurrence
      by true = (
        (all_happen (world_step w c).0 causes).0,
        record { cause = c; entries = (world_step w c).1 } ∷ (all_happen (world_step w c).0 causes).1,
      )
      by false = (w, [])

      go : (b : Bool) → KeepsSome hosts (all_happen (world_step w c).0 causes).0 → KeepsSome hosts (by b).0
      go true later = later
      go false later = k

  keeps_behind_going : (w : NodeWorld) (l : Line) → MayAllHappen w (happenings w l) → KeepsSome hosts w → KeepsSome hosts (goes_on w l).0
  keeps_behind_going w l may k = go l refl
    where
      by : (x : Line) → l ≡ x → (goes_on w x).0 ≡ (all_happen w (happenings w x)).0 → KeepsSome hosts (goes_on w x).0
      by x q is =
          subst (KeepsSome hosts) (sym is) (rw q at (keeps_behind_all (happenings w l) w may k))

      go : (x : Line) → l ≡ x → KeepsSome hosts (goes_on w x).0
      go (line.Tables n) q = k
      go (line.Send e pid message) q = by (line.Send e pid message) q refl
      go (line.Deliver e count) q = by (line.Deliver e count) q refl
      go (line.Lose e) q = by (line.Lose e) q refl
      go (line.Damage e places) q = by (line.Damage e places) q refl
      go (line.Tick times) q = by (line.Tick times) q refl
      go (line.Reset e window) q = by (line.Reset e window) q refl
      go (line.Busy e) q = by (line.Busy e) q refl
      go (line.Ready e) q = by (line.Ready e) q refl
      go (line.Boot n) q = by (line.Boot n) q refl
      go (line.Cut n) q = by (line.Cut n) q refl
      go (line.Activate host sync power) q = by (line.Activate host sync power) q refl
      go (line.Arm n nth fill) q = by (line.Arm n nth fill) q refl
      go (line.Init e identity pipes) q = by (line.Init e identity pipes) q refl
      go (line.Settle rounds) q = by (line.Settle rounds) q refl

  pub keeps_behind_line : (w : NodeWorld) (l : Line) → IsSentByHost l → KeepsSome hosts w → KeepsSome hosts (line_step w l).0
  keeps_behind_line w l side k = go (refusal_in w l) refl
    where
      by : Option NoCause → NodeWorld × LineOutcome
      by (Some cause) = (w, WasRefused cause)
      by None = goes_on w l

      go : (o : Option NoCause) → refusal_in w l ≡ o → KeepsSome hosts (by o).0
      go (Some cause) q = k
      go None q = keeps_behind_going w l (line_may hosts are w l side q) k

  -- behind lines whose messages hosts send
  pub keeps_behind_lines : (lines : List Line) (w : NodeWorld) → AllByRecursion IsSentByHost lines → KeepsSome hosts w → KeepsSome hosts (world_after w lines)
  keeps_behind_lines [] w sides k = k
  keeps_behind_lines (l ∷ lines) w sides k = keeps_behind_lines lines (line_step w l).0 sides.1 (keeps_behind_line w l sides.0 k)

  -- ## Memories

  in_order_by : (n : ℕ) (links : List ℕ) (t : List Entry) (m : Memory) (running : Option Running) → NodeKeeps n links t m running → m.failing_read ≡ None
      → IsSoundMemory m
  in_order_by n links t m running k reads =
      record {
        version = boots_find_version_02 m.content (book_in t n) (last_in t n) k.would;
        image = sound_has_no_fault m.content k.would.finds.keeps.holds.commands k.would.finds.keeps.sound;
        reads = reads;
      }

  -- that of the controller, and that of each host
  pub controller_in_order : (w : NodeWorld) → KeepsSome hosts w → IsSoundMemory w.memory
  controller_in_order w k = in_order_by 0 hosts k.entries w.memory w.controller k.keep.controller k.reads.controller

  pub hosts_in_order : (w : NodeWorld) → KeepsSome hosts w → AllByRecursion (λ (s : Site). IsSoundMemory s.memory) w.sites
  hosts_in_order w k = go w.sites k.keep.sites k.reads.hosts
    where
      go : (sites : List Site) → AllByRecursion (SiteKeeps k.entries) sites → AllByRecursion (λ (s : Site). s.memory.failing_read ≡ None) sites
          → AllByRecursion (λ (s : Site). IsSoundMemory s.memory) sites
      go [] a b = tt
      go (s ∷ sites) a b = (in_order_by s.host (s.host ∷ []) k.entries s.memory s.node a.0 b.0, go sites a.1 b.1)
