-- What is read of the controller's notices over whatever happens, and over the lines of a schedule.
use Rattle.node_laws.proofs.Words.{Activates, AllByRecursion, AreHosts, AreTables, AreTables-apply, AreTables-close, AreTables-none, Arms, AsksReset}
use Rattle.node_laws.proofs.Words.{AtController, AtHost, Boots, Broken, Command, Controller, ControllerReads, CutOff, Desk, End, Entry, FollowsNodes, Gives}
use Rattle.node_laws.proofs.Words.{Happening, HciTables, Header, Host, IfReads, Inits, IsCommand, IsCut, IsHost, IsKeptNotice, IsRightNotice, JoinTwo}
use Rattle.node_laws.proofs.Words.{KeepsNotices, Line, LineStep, Link, List, Lose, Loses, Loss, MayBoot, Memory, NextFrame, NoInput, NodeHistory, NodeWorld}
use Rattle.node_laws.proofs.Words.{None, NoticesAreRead, OnWire, Option, Resets, Running, Site, Some, Step, Takes, Ticks, [], after_planned, ap, append-nil}
use Rattle.node_laws.proofs.Words.{applied, apply, arith, asking_in, beginning, boot_found, boot_writes, boot_written, boots, by_boot, by_memory, by_power}
use Rattle.node_laws.proofs.Words.{by_running, by_test, close, command_of, controller_cut, count_of, counts, entries_for, entries_in, eqb, eqb-true, errors_all}
use Rattle.node_laws.proofs.Words.{false, first_lost, flat_map, fold, found, frame_lost, happens, host_cut, link_to, links_of, loses_power_at, map, memory_at}
use Rattle.node_laws.proofs.Words.{new_desk, new_site, new_world, no_tables, node_at, node_entries, notice_at, notice_in, occurrences_of, option_map_or}
use Rattle.node_laws.proofs.Words.{records, refl, replicate, sending, spelled_by, subst, sym, tables_of, true, with_error, with_memory, with_node, with_site}
use Rattle.node_laws.proofs.Words.{world_after, world_step, written_off, ℕ, ◌++◌, ◌∷◌, ◌≡◌}
use Rattle.link_laws.specs.entries.Entries.{End as Side}
use Rattle.tables_laws.proofs.tables.TwoHosts.{JoinTwo-after, JoinTwo-closed}
use Rattle.node_laws.proofs.kept.Booting.{command_read}
use Rattle.node_laws.proofs.notices.Near.{AreGood, AreHushed, Reads, activates_reads, asking_more, beginning_own, begins_reads, comes_reads, far_hushed}
use Rattle.node_laws.proofs.notices.Near.{far_shut, good_map, good_with, sending_own, still_reads, ticks_reads}
use Rattle.node_laws.proofs.notices.Turning.{notice_more}
use Rattle.node_laws.proofs.notices.Steps.{here_shut}
use Rattle.node_laws.proofs.readings.Noticed.{event_up, numbers}
use Rattle.node_laws.proofs.telling.Lasting.{AnyLine, all_lines, boots_may, lines_last, new_orderly, step_orderly}
use Rattle.trace_model.specs.declared.entry.Entry.TheVariants as entry

-- ## What is read of the controller's notices over whatever happens

-- ### The tables of a memory

-- tables are sorted, and each pipe joins two hosts
abbrev AreFine : HciTables → Type 0
AreFine t = AreTables t × JoinTwo t.rows

fine_one : (t : HciTables) (o : Option Command) → ((c : Command) → o ≡ Some c → IsCommand c) → AreFine t → AreFine (option_map_or (apply t) o t)
fine_one t None may fine = fine
fine_one t (Some c) may fine = (AreTables-apply t c (may c refl) fine.0, JoinTwo-after t (c ∷ []) (may c refl, tt) fine.1)

fine_fold : (t : HciTables) (bodies : List (List ℕ)) → AreFine t → AreFine (fold applied t bodies)
fine_fold t [] fine = fine
fine_fold t (body ∷ bodies) fine = fine_fold (applied t body) bodies (fine_one t (command_of body) (λ c e. command_read (spelled_by body) c e) fine)

fine_found : (content : List ℕ) → AreFine (close (tables_of content))
fine_found content =
    let fine = fine_fold no_tables (records content) (AreTables-none, refl) in
    (AreTables-close (tables_of content) fine.0, JoinTwo-closed (tables_of content).rows fine.1)

-- a controller that boots has no notices
pub none_noticed : (hosts : List ℕ) (x : ℕ) → notice_at (map new_desk hosts) x ≡ None
none_noticed [] x = refl
none_noticed (h ∷ hosts) x = by_test (eqb h x) (λ is. rw is refl) (λ off. rw off (none_noticed hosts x))

none_right : (hosts : List ℕ) → AllByRecursion (λ (d : Desk). IsRightNotice d.notice) (map new_desk hosts)
none_right [] = tt
none_right (h ∷ hosts) = (tt, none_right hosts)

found_reads : (t : List Entry) (hosts content : List ℕ) → IfReads t None → ControllerReads t (found 0 hosts content)
found_reads t hosts content none = record {
  sorted = (fine_found content).0;
  two = (fine_found content).1;
  right = none_right hosts;
  kept = λ x. subst (λ m. IsKeptNotice m (notice_at (map new_desk hosts) x)) (sym (none x).0) (subst (IsKeptNotice None) (sym (none_noticed hosts x)) tt);
}

module _ (t : List Entry) (w : NodeWorld) (a : Reads t w) where
  -- ### Memories

  memory_reads : (n : ℕ) (m : Memory) → Reads t (with_memory n m w)
  memory_reads n m =
      by_memory (Reads t) n w m (λ e. record { sites = a.sites; reads_so = a.reads_so })
      (λ e. record {
        sites = good_with n (λ (s : Site). record s { memory = m }) (λ s b. record { host = b.host; node = b.node; shut = b.shut }) w.sites a.sites;
        reads_so = a.reads_so;
      })

  -- ### Power

  near_cut : Reads (t ++ entry.Cut 0 ∷ []) (controller_cut w)
  near_cut = record {
    sites = good_map (λ (s : Site). record s { link = happens s.link (AtController (Step NoInput [] CutOff)) })
        (λ s b. record { host = b.host; node = b.node; shut = here_shut s.link (Step NoInput [] CutOff) b.shut }) w.sites a.sites;
    reads_so = λ x. (notice_more x t (entry.Cut 0 ∷ []), asking_more x t (entry.Cut 0 ∷ []));
  }

  far_cut : (n : ℕ) → eqb n 0 ≡ false → Reads (t ++ entry.Cut n ∷ []) (record w { sites = with_site n host_cut w.sites })
  far_cut n e = record {
    sites = good_with n host_cut (λ s b. record { host = b.host; node = tt; shut = far_shut s.link (Step NoInput [] CutOff) b.shut }) w.sites a.sites;
    reads_so = still_reads t (entry.Cut n ∷ []) w.controller (far_hushed (entry.Cut n ∷ []) (e, tt)) a.reads_so;
  }

  cut_reads : (n : ℕ) → Reads (t ++ entry.Cut n ∷ []) (loses_power_at n w)
  cut_reads n =
      by_power (Reads (t ++ entry.Cut n ∷ [])) n w
      (λ e. subst (λ m. Reads (t ++ entry.Cut m ∷ []) (controller_cut w)) (sym (eqb-true n 0 e)) near_cut) (λ e. far_cut n e)

booted_hushed : (n k : ℕ) → AreHushed (entry.Booted n k ∷ [])
booted_hushed n k x r = (refl, refl)

-- a node that doesn't run boots
runs_reads : (t : List Entry) (w : NodeWorld) (n k : ℕ) (hosts content : List ℕ) → Reads t w → (eqb n 0 ≡ true → w.controller ≡ None)
    → Reads (t ++ entry.Booted n k ∷ []) (with_node n (found n hosts content) w)
runs_reads t w n k hosts content a off =
    by_running (Reads (t ++ entry.Booted n k ∷ [])) n w (found n hosts content)
    (λ e. record {
      sites = a.sites;
      reads_so = still_reads t (entry.Booted n k ∷ []) (Some (found n hosts content)) (booted_hushed n k)
          (subst (λ m. ControllerReads t (found m hosts content)) (sym (eqb-true n 0 e))
          (found_reads t hosts content (subst (IfReads t) (off e) a.reads_so)));
    })
    (λ e. record {
      sites = good_with n (λ (s : Site). record s { node = Some (found n hosts content) })
          (λ s b. record { host = b.host; node = e; shut = b.shut }) w.sites a.sites;
      reads_so = still_reads t (entry.Booted n k ∷ []) w.controller (booted_hushed n k) a.reads_so;
    })

boots_reads : (t : List Entry) (w : NodeWorld) (n : ℕ) → Reads t w → node_at w n ≡ None → Reads (t ++ (boots w n).1) (boots w n).0
boots_reads t w n a stands =
    by_boot (λ p. Reads (t ++ p.1) p.0) w n (cut_reads t (boot_written w n) still n)
    (runs_reads t (boot_written w n) n (count_of (boot_found w n).core.journal) (links_of w n) (memory_at w n).content still (written_off w n stands))
  where
    still : Reads t (boot_written w n)
    still = memory_reads t w a n (after_planned (boot_writes (memory_at w n).content) (memory_at w n))

-- ### Losses

-- frames that are counted leave the notices
pub noticed_counted : (h : ℕ) (desks : List Desk) (x : ℕ) → notice_at (with_error h desks) x ≡ notice_at desks x
noticed_counted h [] x = refl
noticed_counted h (d ∷ desks) x = by_test (eqb d.host h)
    (λ q. rw q (by_test (eqb d.host x) (λ is. rw is refl) (λ off. rw off (noticed_counted h desks x))))
    (λ q. rw q (by_test (eqb d.host x) (λ is. rw is refl) (λ off. rw off (noticed_counted h desks x))))

counted_reads : (t : List Entry) (why : Loss) (h : ℕ) (o : Option Running) → IfReads t o → IfReads t (counts why h o)
counted_reads t (Broken fault) h None a = a
counted_reads t (Broken fault) h (Some r) a = record {
  sorted = a.sorted;
  two = a.two;
  right = errors_all (λ (d : Desk). IsRightNotice d.notice) (λ d n b. b) h r.desks a.right;
  kept = λ x. subst (IsKeptNotice (notice_in t x)) (sym (noticed_counted h r.desks x)) (a.kept x);
}
counted_reads t _ h o a = a

lost_reads : (t : List Entry) (w : NodeWorld) (e : End) (why : Loss) → Reads t w → Reads (t ++ (frame_lost w e why).1) (frame_lost w e why).0
lost_reads t w e why a = by_test e.at_host
    (λ b. rw b (record {
      sites = good_with e.link (λ s. record s { link = happens s.link (AtHost (Lose why)); node = counts why e.link s.node })
          (λ s k. record { host = k.host; node = grind arith; shut = far_shut s.link (Lose why) k.shut }) w.sites a.sites;
      reads_so = still_reads t (lost Host l.to_host) w.controller (grind arith) a.reads_so;
    }))
    (λ b. rw b (record {
      sites = good_with e.link (λ s. record s { link = happens s.link (AtController (Lose why)) })
          (λ s k. record { host = k.host; node = k.node; shut = here_shut s.link (Lose why) k.shut }) w.sites a.sites;
      reads_so = counted_reads (t ++ lost Controller l.to_controller) why e.link w.controller
          (still_reads t (lost Controller l.to_controller) w.controller (grind arith) a.reads_so);
    }))
  where
    l : Link
    l = link_to w.sites e.link

    lost : Side → List OnWire → List Entry
    lost who wire = entries_for e.link (first_lost who why wire)

-- ### Events

so_far : (t : List Entry) (w : NodeWorld) → KeepsNotices t w → Reads t w
so_far t w a = record { sites = a.sites; reads_so = a.controller }

event_so : (t : List Entry) (w : NodeWorld) (c : Happening) → KeepsNotices t w → MayBoot w c → Reads (t ++ (world_step w c).1) (world_step w c).0
event_so t w (Boots n) a may = boots_reads t w n (so_far t w a) may
event_so t w (IsCut n) a may = cut_reads t w (so_far t w a) n
event_so t w (Gives e m) a may = begins_reads t w (so_far t w a) e.link (sending e.link m) (sending_own e.link m)
event_so t w (Inits e identity pipes) a may = begins_reads t w (so_far t w a) e.link (beginning identity pipes) (beginning_own identity pipes)
event_so t w (Takes e) a may = comes_reads t w a.orderly a.up (so_far t w a) e NextFrame
event_so t w (Loses e why) a may = lost_reads t w e why (so_far t w a)
event_so t w Ticks a may = ticks_reads t w a.orderly a.up (so_far t w a)
event_so t w (Resets e window) a may = comes_reads t w a.orderly a.up (so_far t w a) e (AsksReset window)
event_so t w (Activates h sync power) a may = activates_reads t w a.orderly a.up (so_far t w a) h sync power
event_so t w (Arms n plan) a may =
    subst (λ l. Reads l (world_step w (Arms n plan)).0) (sym (append-nil t)) (memory_reads t w (so_far t w a) n (record (memory_at w n) { plan = Some plan }))

pub event_read : (t : List Entry) (w : NodeWorld) (c : Happening) → KeepsNotices t w → MayBoot w c → KeepsNotices (t ++ (world_step w c).1) (world_step w c).0
event_read t w c a may =
    let so : Reads (t ++ (world_step w c).1) (world_step w c).0 = event_so t w c a may in
    record { orderly = step_orderly w c a.orderly; up = event_up w c a.orderly a.up; sites = so.sites; controller = so.reads_so }

-- ### The beginning

new_good : (content : List ℕ) (hosts : List ℕ) → AllByRecursion IsHost hosts → AreGood (map (new_site content) hosts)
new_good content [] a = tt
new_good content (h ∷ hosts) a = (record { host = a.0; node = tt; shut = λ q. refl }, new_good content hosts a.1)

pub begins_read : (hosts : List ℕ) → AreHosts hosts → KeepsNotices [] (new_world hosts)
begins_read hosts are = record {
  orderly = new_orderly hosts are.different (numbers hosts are.all);
  up = tt;
  sites = new_good (replicate 65536 255) hosts are.all;
  controller = λ x. (refl, refl);
}

-- ## What is read of the controller's notices over the lines of a schedule

-- ### Schedules

-- the notices of a controller are those that are read
pub notices_of : (t : List Entry) (w : NodeWorld) → KeepsNotices t w → NoticesAreRead t w
notices_of t w a = grind arith

schedule_is : (header : Header) (lines : List Line) (t : NodeHistory) → FollowsNodes header lines t → AreHosts header.hosts.items
    → KeepsNotices (node_entries t) (world_after (new_world header.hosts.items) lines)
schedule_is header lines t follows are =
    subst (λ l. KeepsNotices l (world_after (new_world header.hosts.items) lines))
    (ap (λ (steps : List LineStep). entries_in (flat_map (λ (s : LineStep). occurrences_of s.outcome) steps)) (sym follows.steps_are))
    (lines_last KeepsNotices MayBoot AnyLine event_read boots_may lines [] (new_world header.hosts.items) (begins_read header.hosts.items are)
    (all_lines lines))

pub schedule_read : (header : Header) (lines : List Line) (t : NodeHistory) → FollowsNodes header lines t → AreHosts header.hosts.items
    → NoticesAreRead (node_entries t) (world_after (new_world header.hosts.items) lines)
schedule_read header lines t follows are =
    notices_of (node_entries t) (world_after (new_world header.hosts.items) lines) (schedule_is header lines t follows are)

-- no creation is read to wait while the controller doesn't run
pub none_waits : (t : List Entry) (w : NodeWorld) → KeepsNotices t w → w.controller ≡ None → (h : ℕ) → asking_in t h ≡ None
none_waits t w a off h = let none : IfReads t None = subst (IfReads t) off a.controller in (none h).1

pub schedule_waits : (header : Header) (lines : List Line) (t : NodeHistory) → FollowsNodes header lines t → AreHosts header.hosts.items
    → (world_after (new_world header.hosts.items) lines).controller ≡ None → (h : ℕ) → asking_in (node_entries t) h ≡ None
schedule_waits header lines t follows are =
    none_waits (node_entries t) (world_after (new_world header.hosts.items) lines) (schedule_is header lines t follows are)
