-- Over the lines of a schedule, and frames that are lost, inits, REC_ERROR and the whole view of a controller are those that are read.
use Rattle.std.proofs.lemmas.Grind.{flat_map-append}
use Rattle.node_laws.proofs.Words.{Activates, AllByRecursion, AllKeep, AreHosts, ArePlayable, Arms, AsksReset, AtController, AtHost, Book, Bool, Boots, Broken}
use Rattle.node_laws.proofs.Words.{Controller, Desk, End, Entry, ErrorCount, ErrorsAreRead, FollowsNodes, Gives, Happening, HasEnds, HciTables, Header, Host}
use Rattle.node_laws.proofs.Words.{IfItRuns, IfKnowsAsRead, IfRuns, Init, Inits, IsBegunByHost, IsCut, IsFew, IsHost, IsKeptNotice, IsOrderly, IsSameView}
use Rattle.node_laws.proofs.Words.{IsSentByHost, IsTrue, KeepsNotices, Line, Link, LinkEnd, LinkView, List, Lose, Loses, Loss, MayBoot, MayHappen, Message}
use Rattle.node_laws.proofs.Words.{NextFrame, NodeHistory, NodeWorld, None, NoticesAreRead, NumberedEnd, Occurrence, OnDemand, OnWire, Option, Port, Resets}
use Rattle.node_laws.proofs.Words.{Running, Site, Some, Takes, Ticks, TooMany, TooOld, Unread, Up, [], and-false, ap, append-nil, ap₂, arith, asked_pipes}
use Rattle.node_laws.proofs.Words.{asking_in, beginning, by_option, by_test, cases_Bool, changed_if, cond, cond_both, counts, decided, end_c, end_of}
use Rattle.node_laws.proofs.Words.{ends_between, entries_for, entries_in, eq-eqb, eqb, eqb-false, eqb-true, errors_after, errors_in, errors_of, false, filter}
use Rattle.node_laws.proofs.Words.{find, first_lost, first_verdict, fold, frame_lost, frames_at, give_refusal, happenings, happens, hosts_in, if_not_sent}
use Rattle.node_laws.proofs.Words.{if_off, if_waiting, init_begun, init_behind, init_in, init_of_running, inl, inr, is_asked_at, is_asked_pipe, is_connected_at}
use Rattle.node_laws.proofs.Words.{is_connected_in, is_of_creation, is_one_of, is_some, is_up, link_to, list_any, lost_as, lpdu_of, machine_in, map, mask_of}
use Rattle.node_laws.proofs.Words.{memory_at, min, ne_eqb, new_world, no_errors, node_at, node_entries, node_of, notice_at, notice_in, notice_of_running}
use Rattle.node_laws.proofs.Words.{occurrences_in, option_and_then, option_map, option_map_or, port_at, port_for, range_with_len, refl, refusal_in, same_end}
use Rattle.node_laws.proofs.Words.{sending, session_at, session_now, site_at, slice_index, steps_from, subst, sym, tables_in, taken_of, true, true≢false}
use Rattle.node_laws.proofs.Words.{unwrap_or, view_at, view_for, waiting_pipes, was_refused, with_error, with_site, world_after, world_behind, world_step, ℕ}
use Rattle.node_laws.proofs.Words.{◌&&◌, ◌++◌, ◌+◌, ◌||◌, ◌∙◌, ◌∷◌, ◌≡◌, ◌⊎◌}
use Rattle.gate_admin.specs.View.{hosts_where}
use Rattle.history.specs.Follows.{if_empty}
use Rattle.swp_base.specs.declared.link_terms.FrameFault.{FrameFault}
use Rattle.node_laws.specs.views.Errors.{MayBeCounted}
use Rattle.node_laws.proofs.creations.Knowing.{given_same, if_known}
use Rattle.node_laws.proofs.creations.Events.{history_keeps}
use Rattle.node_laws.proofs.kept.Ticking.{all_begin, few_front, first_none, off_none, send_may, world_goes}
use Rattle.node_laws.proofs.notices.Events.{begins_read, event_read, notices_of}
use Rattle.node_laws.proofs.notices.Steps.{asked_is, noticed_is}
use Rattle.node_laws.proofs.order.Lines.{IsSo, history_so, host_number}
use Rattle.node_laws.proofs.order.Sessions.{are_read}
use Rattle.node_laws.proofs.readings.Noticed.{numbers}
use Rattle.node_laws.proofs.telling.Events.{link_is, sending_mute}
use Rattle.node_laws.proofs.telling.Lasting.{AllMay, AreCaused, behind_lines, damaged_may, entries_of_steps, events_of_steps, history_holds, lines_caused}
use Rattle.node_laws.proofs.telling.Lasting.{lines_last, new_orderly, repeated_may, stands_none, step_orderly}
use Rattle.node_laws.proofs.views.Going.{reads_init}
use Rattle.node_laws.proofs.views.Doing.{Leaves, book_reads, reads, reads_append, still_leaves}
use Rattle.node_laws.proofs.views.Events.{After, Kept, Known, activates_kept, boots_kept, comes_kept, cut_kept, far_begins, far_node, host_node, left}
use Rattle.node_laws.proofs.views.Events.{memory_kept, near_node, orderly_fine, own_node, own_node_is, ticks_kept, with_kept, with_none, with_other, with_own}
use Rattle.node_laws.proofs.views.InitWorlds.{AtSite, Keeps, MayInit, MayKeep, event_keeps}
use Rattle.node_laws.proofs.views.Nodes.{IfKeeps}
use Rattle.swp_base.specs.declared.link_terms.FrameFault.TheVariants as fault
use Rattle.trace_model.specs.declared.entry.Entry.TheVariants as entry
use Rattle.trace_model.specs.declared.line.Line.TheVariants as line

-- ## The init that runs at a host over the lines of a schedule is the one that is read

-- ### Lines

-- an end that takes a message is up
pub taken_up : (waits : Bool) (e : LinkEnd) (m : Message) → if_waiting waits (give_refusal e m) ≡ None → e.shdlc.phase ≡ Up
taken_up waits e m none = grind arith

-- a line that isn't refused begins an init at a host that runs and whose end is up
init_may : (w : NodeWorld) (e : End) → IsTrue e.at_host → (if_off w (node_of e) ≡ None) × (if_not_sent w e (1, 3 ∷ []) ≡ None) → MayInit w e
init_may w e side none =
    let runs = off_none (node_at w (node_of e)) none.0 in (grind arith) where
      link_is : node_of e ≡ e.link
      link_is = rw side refl

      end_is : machine_in w e ≡ (link_to w.sites e.link).host.side
      end_is = rw side refl

pub line_may_of_init_lines : (w : NodeWorld) (l : Line) → IsBegunByHost l → refusal_in w l ≡ None → AllMay MayKeep w (happenings w l)
line_may_of_init_lines w (line.Deliver e count) side none = repeated_may MayKeep (Takes e) (λ v. tt) (taken_of count (frames_at w e)) w
line_may_of_init_lines w (line.Damage e places) side none = damaged_may MayKeep w e tt (λ why. tt) (first_verdict (frames_at w e) places.items)
line_may_of_init_lines w (line.Tick times) side none = repeated_may MayKeep Ticks (λ v. tt) (unwrap_or times 1) w
line_may_of_init_lines w (line.Busy e) side none = tt
line_may_of_init_lines w (line.Ready e) side none = tt
line_may_of_init_lines w (line.Boot n) side none = (stands_none (node_at w n) none, tt)
line_may_of_init_lines w (line.Init e identity pipes) side none =
    (init_may w e side (first_none (if_off w (node_of e)) (if_not_sent w e (1, 3 ∷ [])) none), tt)
line_may_of_init_lines w (line.Tables n) side none = tt
line_may_of_init_lines w (line.Settle n) side none = tt
line_may_of_init_lines w _ side none = (tt, tt)

module _ (h : ℕ) (host : IsHost h) where
  -- ### Events

  pub front_keeps : (front back : List Occurrence) (w : NodeWorld) (i : Option Init) → IsOrderly w → Keeps h host w i → AreCaused MayKeep w (front ++ back)
      → Keeps h host (world_behind w front) (fold (init_behind h) i front)
  front_keeps [] back w i orderly keeps caused = keeps
  front_keeps (o ∷ front) back w i orderly keeps caused =
      front_keeps front back (world_step w o.cause).0 (init_behind h i o) (step_orderly w o.cause orderly)
      (subst (λ es. Keeps h host (world_step w o.cause).0 (reads_init h es (init_begun h i o.cause))) (sym caused.0)
      (event_keeps h host w o.cause i orderly caused.1 keeps)) caused.2

  -- what is kept there is what runs
  kept_is : (w : NodeWorld) (i : Option Init) → Keeps h host w i → i ≡ init_of_running (node_at w h)
  kept_is w i keeps = grind arith

  -- none runs at the beginning
  pub new_keeps : (hosts : List ℕ) → Keeps h host (new_world hosts) None
  new_keeps [] = refl
  new_keeps (k ∷ hosts) = cond_both (eqb k h) _ _ (AtSite None) (λ _. record { read = refl; runs = tt }) (λ _. new_keeps hosts)

  -- ### Schedules

  pub inits_read_events : (header : Header) (lines : List Line) (t : NodeHistory) → FollowsNodes header lines t → AreHosts header.hosts.items
      → AllByRecursion IsBegunByHost lines → (front back : List Occurrence) → occurrences_in t ≡ front ++ back
      → init_in front h ≡ init_of_running (node_at (world_behind (new_world header.hosts.items) front) h)
  inits_read_events header lines t follows are sides front back parts =
      let hosts : List ℕ = header.hosts.items in
      let same : events_of_steps (steps_from (new_world hosts) lines) ≡ front ++ back = sym (ap events_of_steps follows.steps_are) ∙ parts in
      kept_is (world_behind (new_world hosts) front) (init_in front h) (front_keeps front back (new_world hosts) None
      (new_orderly hosts are.different (numbers hosts are.all)) (new_keeps hosts)
      (subst (AreCaused MayKeep (new_world hosts)) same (lines_caused MayKeep IsBegunByHost line_may_of_init_lines lines (new_world hosts) sides)))

  pub inits_read : (header : Header) (lines : List Line) (t : NodeHistory) → FollowsNodes header lines t → AreHosts header.hosts.items
      → AllByRecursion IsBegunByHost lines → init_in (occurrences_in t) h ≡ init_of_running (node_at (world_after (new_world header.hosts.items) lines) h)
  inits_read header lines t follows are sides =
      let hosts : List ℕ = header.hosts.items in
      let behind : world_behind (new_world hosts) (occurrences_in t) ≡ world_after (new_world hosts) lines =
      ap (λ steps. world_behind (new_world hosts) (events_of_steps steps)) follows.steps_are ∙ behind_lines lines (new_world hosts) in
      inits_read_events header lines t follows are sides (occurrences_in t) [] (sym (append-nil (occurrences_in t)))
      ∙ ap (λ w. init_of_running (node_at w h)) behind

-- ## What a controller knows is what is read

-- ### Lists

filter_same : (p q : ℕ → Bool) → ((h : ℕ) → p h ≡ q h) → (hosts : List ℕ) → filter p hosts ≡ filter q hosts
filter_same p q same hosts = grind arith

pub where_same : (p q : ℕ → Bool) → ((h : ℕ) → p h ≡ q h) → mask_of (hosts_where p) ≡ mask_of (hosts_where q)
unfolding hosts_where
where_same p q same = ap mask_of (filter_same p q same (range_with_len 1 7))

port_is : (f : Desk → Port) → ((d : Desk) → (f d).desk.host ≡ d.host) → (desks : List Desk) (h : ℕ)
    → port_at (map f desks) h ≡ option_map f (find (λ (d : Desk). eqb d.host h) desks)
port_is f host [] h = refl
port_is f host (d ∷ desks) h = by_test (eqb d.host h)
    (λ q. grind arith)
    (λ q. ap (λ b. cond b (Some (f d)) (port_at (map f desks) h)) ((grind arith) ∙ q)
    ∙ (port_is f host desks h ∙ sym (ap (λ b. option_map f (cond b (Some d) (find (λ (d : Desk). eqb d.host h) desks))) q)))

one_of_is : (desks : List Desk) (h : ℕ) → list_any (λ k. eqb k h) (map (λ (d : Desk). d.host) desks) ≡ is_some (find (λ (d : Desk). eqb d.host h) desks)
one_of_is [] h = refl
one_of_is (d ∷ desks) h = by_test (eqb d.host h) (λ q. rw q refl) (λ q. rw q (one_of_is desks h))

found_host : (desks : List Desk) (h : ℕ) (d : Desk) → find (λ (d : Desk). eqb d.host h) desks ≡ Some d → d.host ≡ h
found_host [] h d e = absurd (cc e)
found_host (x ∷ desks) h d e =
    cond_both (eqb x.host h) (Some x) (find (λ (d : Desk). eqb d.host h) desks) (λ o. o ≡ Some d → d.host ≡ h)
    (λ is f. let same : x ≡ d = cc in subst (λ (y : Desk). y.host ≡ h) same (eqb-true x.host h is)) (λ _ f. found_host desks h d f) e

-- a host with a desk at the controller is there
site_there : (desks : List Desk) (sites : List Site) (h : ℕ) (d : Desk) → map (λ (d : Desk). d.host) desks ≡ hosts_in sites
    → find (λ (d : Desk). eqb d.host h) desks ≡ Some d → (s : Site) × (site_at sites h ≡ Some s)
site_there [] sites h d same e = absurd (cc e)
site_there (x ∷ desks) [] h d same e = absurd (cc same)
site_there (x ∷ desks) (s ∷ sites) h d same e = by_test (eqb x.host h)
    (λ q. (s, ap (λ b. cond b (Some s) (site_at sites h)) (ap (λ n. eqb n h) (sym cc) ∙ q)))
    (λ q. let found = site_there desks sites h d rest (sym (ap (λ b. cond b (Some x) (find (λ (d : Desk). eqb d.host h) desks)) q) ∙ e) in
    (found.0, ap (λ b. cond b (Some s) (site_at sites h)) (ap (λ n. eqb n h) (sym cc) ∙ q) ∙ found.1)) where
      rest : map (λ (d : Desk). d.host) desks ≡ hosts_in sites
      rest = cc

-- ### Sessions

pub up_is : (near_end : NumberedEnd) → is_some (session_at near_end) ≡ is_up near_end.side.shdlc.phase
up_is near_end = grind arith

-- ### Pipes

-- the session that is read at each end of the controller is the one in which it is up, and none where it isn't
abbrev pub SessionsAreRead : List Entry → NodeWorld → Type 0
SessionsAreRead t w = (h : ℕ) (s : Site) → site_at w.sites h ≡ Some s → session_now t (end_c h) 0 ≡ session_at s.link.controller

-- of each pipe it is read whether it is that of a creation that waits
abbrev pub PipesAreRead : List ℕ → List Entry → List Port → Type 0
PipesAreRead hosts t ports = (pid : ℕ) → list_any (λ p. eqb p pid) (waiting_pipes ports) ≡ list_any (is_asked_pipe t pid) hosts

pub pipes_same : (t : List Entry) (pid : ℕ) (hosts : List ℕ) → list_any (is_asked_pipe t pid) hosts ≡ list_any (λ p. eqb p pid) (asked_pipes t hosts)
pipes_same t pid [] = refl
pipes_same t pid (h ∷ hosts) = by_option (asking_in t h)
    (λ q. rw q (pipes_same t pid hosts))
    (λ message q. rw q (ap (λ b. eqb (slice_index message 5) pid || b) (pipes_same t pid hosts)))

-- ### The view

module _ (t : List Entry) (w : NodeWorld) (r : Running) (runs : w.controller ≡ Some r) (has : HasEnds 0 (hosts_in w.sites) r)
    (tables : r.core.tables ≡ tables_in t 0) (notices : NoticesAreRead t w) (errors : ErrorsAreRead t w) (sessions : SessionsAreRead t w) where
  abbrev end_of_desk : Desk → Port
  end_of_desk d = port_for (link_to w.sites d.host).controller d

  abbrev desk_of : ℕ → Option Desk
  desk_of h = find (λ (d : Desk). eqb d.host h) r.desks

  at_is : (h : ℕ) → port_at (ends_between w.sites r) h ≡ option_map end_of_desk (desk_of h)
  at_is h = port_is end_of_desk (λ d. refl) r.desks h

  -- a test of the end of the link with a host
  tested : (test : Port → Bool) (h : ℕ) → option_map_or test (port_at (ends_between w.sites r) h) false
      ≡ option_map_or test (option_map end_of_desk (desk_of h)) false
  tested test h = ap (λ o. option_map_or test o false) (at_is h)

  kept : (h : ℕ) → IsKeptNotice (notice_in t h) (notice_at r.desks h)
  kept h = subst (λ o. IsKeptNotice (notice_in t h) (notice_of_running o h)) runs (notices h)

  kept_at : (h : ℕ) (o : Option Desk) → desk_of h ≡ o → IsKeptNotice (notice_in t h) (option_and_then (λ (d : Desk). d.notice) o)
  kept_at h o q = subst (λ o. IsKeptNotice (notice_in t h) (option_and_then (λ (d : Desk). d.notice) o)) q (kept h)

  none_read : (m : Option (List ℕ)) → IsKeptNotice m None → m ≡ None
  none_read m k = grind arith

  configured : (h : ℕ) → option_map_or (λ (p : Port). true) (port_at (ends_between w.sites r) h) false ≡ is_one_of (hosts_in w.sites) h
  configured h = tested (λ p. true) h ∙ (by (desk_of h) ∙ (sym (one_of_is r.desks h) ∙ ap (list_any (λ k. eqb k h)) has.ends)) where
    by : (o : Option Desk) → option_map_or (λ (p : Port). true) (option_map end_of_desk o) false ≡ is_some o
    by None = refl
    by (Some d) = refl

  connected : (h : ℕ) → option_map_or (is_connected_at r.core.tables) (port_at (ends_between w.sites r) h) false
      ≡ (is_one_of (hosts_in w.sites) h && is_connected_in t h)
  connected h = tested (is_connected_at r.core.tables) h ∙ (by (desk_of h) refl
      ∙ ap (λ b. b && is_connected_in t h) (sym (one_of_is r.desks h) ∙ ap (list_any (λ k. eqb k h)) has.ends)) where
        by : (o : Option Desk) → desk_of h ≡ o → option_map_or (is_connected_at r.core.tables) (option_map end_of_desk o) false
            ≡ (is_some (desk_of h) && is_connected_in t h)
        by None q = sym (ap (λ o. is_some o && is_connected_in t h) q)
        by (Some d) q =
            let there = site_there r.desks w.sites h d has.ends q in
            let host : d.host ≡ h = found_host r.desks h d q in
            let link : link_to w.sites d.host ≡ there.0.link = ap (link_to w.sites) host ∙ link_is w.sites h there.0 there.1 in
            let up : is_up (link_to w.sites d.host).controller.side.shdlc.phase ≡ is_some (session_now t (end_c h) 0) =
            ap (λ (l : Link). is_up l.controller.side.shdlc.phase) link
            ∙ (sym (up_is there.0.link.controller) ∙ ap is_some (sym (sessions h there.0 there.1))) in
            ap₂ (λ a b. a && b) up (grind arith) ∙ sym (ap (λ o. is_some o && is_connected_in t h) q)

  noticed : (h : ℕ) → option_map_or (λ (p : Port). is_some p.desk.notice) (port_at (ends_between w.sites r) h) false ≡ is_some (notice_in t h)
  noticed h = tested (λ p. is_some p.desk.notice) h ∙ by_option (desk_of h)
      (λ q. rw q (sym (ap is_some (none_read (notice_in t h) (kept_at h None q)))))
      (λ d q. rw q (noticed_is (notice_in t h) (end_of_desk d) (kept_at h (Some d) q)))

  asked : (h : ℕ) → option_map_or is_asked_at (port_at (ends_between w.sites r) h) false ≡ is_of_creation (notice_in t h)
  asked h = tested is_asked_at h ∙ by_option (desk_of h)
      (λ q. rw q (sym (ap is_of_creation (none_read (notice_in t h) (kept_at h None q)))))
      (λ d q. rw q (asked_is (notice_in t h) (end_of_desk d) (kept_at h (Some d) q)))

  counted : (h : ℕ) → IsHost h → is_one_of (hosts_in w.sites) h ≡ true → option_map_or (λ (p : Port). p.desk.errors) (port_at (ends_between w.sites r) h) 0
      ≡ errors_in t (end_c h)
  counted h host one = ap (λ o. option_map_or (λ (p : Port). p.desk.errors) o 0) (at_is h) ∙ by (desk_of h) refl where
    there : is_some (desk_of h) ≡ true
    there = sym (one_of_is r.desks h) ∙ (ap (list_any (λ k. eqb k h)) has.ends ∙ one)

    by : (o : Option Desk) → desk_of h ≡ o → option_map_or (λ (p : Port). p.desk.errors) (option_map end_of_desk o) 0 ≡ errors_in t (end_c h)
    by None q = let no : false ≡ true = sym (ap is_some q) ∙ there in absurd (true≢false (sym no))
    by (Some d) q = sym (errors (end_c h) d.errors host (ap (λ o. errors_of o h) runs ∙ ap (option_map (λ (d : Desk). d.errors)) q))

  same_view : (h : ℕ) → IsHost h → is_one_of (hosts_in w.sites) h ≡ true → PipesAreRead (hosts_in w.sites) t (ends_between w.sites r)
      → IsSameView (view_for r.core.tables (ends_between w.sites r) h) (view_at (hosts_in w.sites) t h)
  same_view h host one pipes = record {
    hosts = where_same (λ k. option_map_or (λ (p : Port). true) (port_at (ends_between w.sites r) k) false) (is_one_of (hosts_in w.sites)) configured;
    connected = where_same (λ k. option_map_or (is_connected_at r.core.tables) (port_at (ends_between w.sites r) k) false)
        (λ k. is_one_of (hosts_in w.sites) k && is_connected_in t k) connected;
    noticed =
        where_same (λ k. option_map_or (λ (p : Port). is_some p.desk.notice) (port_at (ends_between w.sites r) k) false) (λ k. is_some (notice_in t k)) noticed;
    asked = where_same (λ k. option_map_or is_asked_at (port_at (ends_between w.sites r) k) false) (λ k. is_of_creation (notice_in t k)) asked;
    waiting = λ pid. pipes pid ∙ pipes_same t pid (hosts_in w.sites);
    errors = counted h host one;
  }

-- ### What is decided

pub decided_same : (t : HciTables) (v u : LinkView) (h pipe instruction : ℕ) (body : List ℕ) → IsSameView v u
    → decided t v h pipe instruction body ≡ decided t u h pipe instruction body
decided_same t v u h pipe instruction body s =
    rw (s.hosts, s.connected, s.noticed, s.asked, (given_same t.rows v.waiting.items u.waiting.items s.waiting)) refl

-- ## A frame is lost on its way: where it was refused, the node of the end counts one more, which is what is read

-- one more, up to FFFF
abbrev one_more : ℕ → ℕ
one_more n = min 65535 (n + 1)

-- a frame was refused, and nothing else
abbrev IsRefusal : Loss → Type 0
IsRefusal (Broken fault) = ⊥
IsRefusal _ = Unit {0}

refused_is : (f : FrameFault) → was_refused (lost_as (Broken f)) ≡ true
refused_is f = grind arith

-- the desks of a node count one more at the end itself, or at another one
own_errors : (e : End) (h n : ℕ) → eqb h e.link ≡ true → (desks : List Desk) → AllByRecursion (λ (d : Desk). eqb d.host e.link ≡ true → d.errors ≡ n) desks
    → AllByRecursion (λ (d : Desk). eqb d.host e.link ≡ true → d.errors ≡ one_more n) (with_error h desks)
own_errors e h n is [] all = tt
own_errors e h n is (d ∷ desks) all = (by (eqb d.host h) refl, own_errors e h n is desks all.1) where
  more : Desk → Desk
  more d = record d { errors = min 65535 (d.errors + 1) }

  by : (b : Bool) → eqb d.host h ≡ b → eqb (changed_if b more d).host e.link ≡ true → (changed_if b more d).errors ≡ one_more n
  by true q = λ here. ap one_more (all.0 here)
  by false q = λ here. absurd (true≢false (sym (eq-eqb d.host h (eqb-true d.host e.link here ∙ sym (eqb-true h e.link is))) ∙ q))

other_errors : (e : End) (h n : ℕ) → eqb h e.link ≡ false → (desks : List Desk) → AllByRecursion (λ (d : Desk). eqb d.host e.link ≡ true → d.errors ≡ n) desks
    → AllByRecursion (λ (d : Desk). eqb d.host e.link ≡ true → d.errors ≡ n) (with_error h desks)
other_errors e h n off [] all = tt
other_errors e h n off (d ∷ desks) all = (by (eqb d.host h) refl, other_errors e h n off desks all.1) where
  more : Desk → Desk
  more d = record d { errors = min 65535 (d.errors + 1) }

  by : (b : Bool) → eqb d.host h ≡ b → eqb (changed_if b more d).host e.link ≡ true → (changed_if b more d).errors ≡ n
  by true q = λ here. absurd (true≢false (sym here ∙ (ap (λ k. eqb k e.link) (eqb-true d.host h q) ∙ off)))
  by false q = λ here. all.0 here

-- what is read of one refused frame
lost_reads : (e f : End) (lpdu : List ℕ) (why : FrameFault) (x : ErrorCount) → same_end f e ≡ true
    → (errors_after e x (entry.Lost f lpdu (lost_as (Broken why)))).errors ≡ one_more x.errors
lost_reads e f lpdu why x same = grind arith

lost_leaves : (e f : End) (lpdu : List ℕ) (why : FrameFault) → same_end f e ≡ false → Leaves e (entry.Lost f lpdu (lost_as (Broken why)))
lost_leaves e f lpdu why off = grind arith

counted_own : (e : End) (h : ℕ) (f : End) (lpdu : List ℕ) (why : FrameFault) (o : Option Running) (x : ErrorCount) → eqb h e.link ≡ true → same_end f e ≡ true
    → IfKeeps e o x → IfKeeps e (counts (Broken why) h o) (errors_after e x (entry.Lost f lpdu (lost_as (Broken why))))
counted_own e h f lpdu why None x is same k = refl
counted_own e h f lpdu why (Some r) x is same k = record {
  sets = refl;
  desks = subst (λ n. AllByRecursion (λ (d : Desk). eqb d.host e.link ≡ true → d.errors ≡ n) (with_error h r.desks)) (sym (lost_reads e f lpdu why x same))
      (own_errors e h x.errors is r.desks k.desks);
}

counted_other : (e : End) (h : ℕ) (why : FrameFault) (o : Option Running) (x : ErrorCount) → eqb h e.link ≡ false → IfKeeps e o x
    → IfKeeps e (counts (Broken why) h o) x
counted_other e h why None x off k = k
counted_other e h why (Some r) x off k = record { sets = k.sets; desks = other_errors e h x.errors off r.desks k.desks }

module _ (e : End) (real : e.at_host ≡ true → eqb e.link 0 ≡ false) where
  abbrev far_lost : End → Loss → Site → Site
  far_lost a why s = record s { link = happens s.link (AtHost (Lose why)); node = counts why a.link s.node }

  module _ (w : NodeWorld) (a : End) (x : ErrorCount) (k : Kept e real w x) where
    abbrev wire_near : List OnWire
    wire_near = (link_to w.sites a.link).to_controller

    abbrev wire_far : List OnWire
    wire_far = (link_to w.sites a.link).to_host

    abbrev near_v : Loss → NodeWorld
    near_v why =
        record w {
          controller = counts why a.link w.controller;
          sites = with_site a.link (λ (s : Site). record s { link = happens s.link (AtController (Lose why)) }) w.sites;
        }

    abbrev far_v : Loss → NodeWorld
    far_v why = record w { sites = with_site a.link (far_lost a why) w.sites }

    -- nodes where a frame is lost on its way to the controller
    near_controller : (why : Loss) → e.at_host ≡ false → own_node e real (near_v why) ≡ counts why a.link w.controller
    near_controller why near = near_node e real (near_v why) near

    near_hosts : (why : Loss) → e.at_host ≡ true → own_node e real (near_v why) ≡ own_node e real w
    near_hosts why far =
        host_node e real (near_v why) far
        ∙ (with_kept a.link (λ (s : Site). record s { link = happens s.link (AtController (Lose why)) }) (λ s. refl) (λ s. refl) w.sites e.link
        ∙ sym (host_node e real w far))

    -- and to a host
    far_hosts : (why : Loss) → e.at_host ≡ true → eqb a.link e.link ≡ true → own_node e real (far_v why) ≡ counts why a.link (own_node e real w)
    far_hosts why far is = by_option (site_at w.sites e.link)
        (λ here. host_node e real (far_v why) far
        ∙ (with_none a.link (far_lost a why) (λ s. refl) w.sites e.link here
        ∙ (sym (none_counts why) ∙ ap (counts why a.link) (sym (host_node e real w far ∙ ap far_node here)))))
        (λ s here. host_node e real (far_v why) far
        ∙ (ap (λ n. far_node (site_at (far_v why).sites n)) (sym link)
        ∙ (with_own a.link (far_lost a why) (λ s. refl) w.sites s (ap (site_at w.sites) link ∙ here)
        ∙ ap (counts why a.link) (sym (host_node e real w far ∙ ap far_node here))))) where
          link : a.link ≡ e.link
          link = eqb-true a.link e.link is

          none_counts : (why : Loss) → counts why a.link None ≡ None
          none_counts OnDemand = refl
          none_counts _ = refl

    far_others : (why : Loss) → e.at_host ≡ true → eqb a.link e.link ≡ false → own_node e real (far_v why) ≡ own_node e real w
    far_others why far off =
        host_node e real (far_v why) far
        ∙ (with_other a.link (far_lost a why) (λ s. refl) w.sites e.link (ne_eqb e.link a.link (λ z. eqb-false a.link e.link off (sym z)))
        ∙ sym (host_node e real w far))

    -- a loss that doesn't count
    near_plain : (why : Loss) → IsRefusal why → After e real (near_v why, entries_for a.link (first_lost Controller why wire_near)) x
    near_plain why not = left e real w (near_v why) (entries_for a.link (first_lost Controller why wire_near)) x (by e.at_host refl)
        (still_leaves e (entries_for a.link (first_lost Controller why wire_near)) (grind arith)) k where
          by : (b : Bool) → e.at_host ≡ b → own_node e real (near_v why) ≡ own_node e real w
          by true q = near_hosts why q
          by false q = near_controller why q ∙ ((grind arith) ∙ sym (near_node e real w q))

    far_plain : (why : Loss) → IsRefusal why → After e real (far_v why, entries_for a.link (first_lost Host why wire_far)) x
    far_plain why not =
        left e real w (far_v why) (entries_for a.link (first_lost Host why wire_far)) x (by (cases_Bool e.at_host) (cases_Bool (eqb a.link e.link)))
        (still_leaves e (entries_for a.link (first_lost Host why wire_far)) (grind arith)) k where
          by : (e.at_host ≡ true) ⊎ (e.at_host ≡ false) → (eqb a.link e.link ≡ true) ⊎ (eqb a.link e.link ≡ false)
              → own_node e real (far_v why) ≡ own_node e real w
          by (inr near) b = (near_node e real (far_v why) near ∙ sym (near_node e real w near))
          by (inl far) (inl is) = far_hosts why far is ∙ (grind arith)
          by (inl far) (inr off) = far_others why far off

    -- one that does
    near_counted : (f : FrameFault) (wire : List OnWire) → wire_near ≡ wire → (wire ≡ [] → ⊥)
        → After e real (near_v (Broken f), entries_for a.link (first_lost Controller (Broken f) wire)) x
    near_counted f [] here some = absurd (some refl)
    near_counted f (y ∷ wire) here some = by (cases_Bool e.at_host) (cases_Bool (eqb a.link e.link)) where
      noted : Entry
      noted = entry.Lost (end_of a.link Controller) (lpdu_of y.frame) (lost_as (Broken f))

      by : (e.at_host ≡ true) ⊎ (e.at_host ≡ false) → (eqb a.link e.link ≡ true) ⊎ (eqb a.link e.link ≡ false)
          → After e real (near_v (Broken f), noted ∷ []) x
      by (inl far) b = left e real w (near_v (Broken f)) (noted ∷ []) x (near_hosts (Broken f) far)
          (lost_leaves e (end_of a.link Controller) (lpdu_of y.frame) f (rw far (and-false (eqb a.link e.link))), tt) k
      by (inr near) (inl is) = subst (λ o. IfKeeps e o (errors_after e x noted)) (sym (near_controller (Broken f) near))
          (counted_own e a.link (end_of a.link Controller) (lpdu_of y.frame) f w.controller x is ((grind arith) ∙ is) (grind arith))
      by (inr near) (inr off) =
          let stays : IfKeeps e (own_node e real (near_v (Broken f))) x = subst (λ o. IfKeeps e o x) (sym (near_controller (Broken f) near))
          (counted_other e a.link f w.controller x off (subst (λ o. IfKeeps e o x) (near_node e real w near) k)) in
          left e real (near_v (Broken f)) (near_v (Broken f)) (noted ∷ []) x refl
          (lost_leaves e (end_of a.link Controller) (lpdu_of y.frame) f ((grind arith) ∙ off), tt) stays

    far_counted : (f : FrameFault) (wire : List OnWire) → wire_far ≡ wire → (wire ≡ [] → ⊥)
        → After e real (far_v (Broken f), entries_for a.link (first_lost Host (Broken f) wire)) x
    far_counted f [] here some = absurd (some refl)
    far_counted f (y ∷ wire) here some = by (cases_Bool e.at_host) (cases_Bool (eqb a.link e.link)) where
      noted : Entry
      noted = entry.Lost (end_of a.link Host) (lpdu_of y.frame) (lost_as (Broken f))

      by : (e.at_host ≡ true) ⊎ (e.at_host ≡ false) → (eqb a.link e.link ≡ true) ⊎ (eqb a.link e.link ≡ false)
          → After e real (far_v (Broken f), noted ∷ []) x
      by (inr near) b = left e real w (far_v (Broken f)) (noted ∷ []) x (near_node e real (far_v (Broken f)) near ∙ sym (near_node e real w near))
          (lost_leaves e (end_of a.link Host) (lpdu_of y.frame) f (rw near (and-false (eqb a.link e.link))), tt) k
      by (inl far) (inl is) = subst (λ o. IfKeeps e o (errors_after e x noted)) (sym (far_hosts (Broken f) far is))
          (counted_own e a.link (end_of a.link Host) (lpdu_of y.frame) f (own_node e real w) x is ((grind arith) ∙ is) k)
      by (inl far) (inr off) = left e real w (far_v (Broken f)) (noted ∷ []) x (far_others (Broken f) far off)
          (lost_leaves e (end_of a.link Host) (lpdu_of y.frame) f ((grind arith) ∙ off), tt) k

    lost_kept : (why : Loss) → (frames_at w a ≡ [] → ⊥) → After e real (frame_lost w a why) x
    lost_kept why some = by_test a.at_host
        (λ q. rw q (far_why why (λ none. some ((rw q refl) ∙ none))))
        (λ q. rw q (near_why why (λ none. some ((rw q refl) ∙ none)))) where
          near_why : (why : Loss) → (wire_near ≡ [] → ⊥) → After e real (near_v why, entries_for a.link (first_lost Controller why wire_near)) x
          near_why OnDemand there = near_plain OnDemand tt
          near_why (Broken f) there = near_counted f wire_near refl there
          near_why Unread there = near_plain Unread tt
          near_why TooOld there = near_plain TooOld tt
          near_why TooMany there = near_plain TooMany tt

          far_why : (why : Loss) → (wire_far ≡ [] → ⊥) → After e real (far_v why, entries_for a.link (first_lost Host why wire_far)) x
          far_why OnDemand there = far_plain OnDemand tt
          far_why (Broken f) there = far_counted f wire_far refl there
          far_why Unread there = far_plain Unread tt
          far_why TooOld there = far_plain TooOld tt
          far_why TooMany there = far_plain TooMany tt

-- ## What is read of REC_ERROR of all ends over the lines of a schedule

-- the end of the link with a host is no end of 00
pub real_of : (e : End) → IsHost e.link → e.at_host ≡ true → eqb e.link 0 ≡ false
real_of e host far = ne_eqb e.link 0 (λ z. omega (arith, z, host.0))

-- ### Events

module _ (e : End) (real : e.at_host ≡ true → eqb e.link 0 ≡ false) where
  event_kept : (w : NodeWorld) (c : Happening) (x : ErrorCount) → IsOrderly w → Known e real w x → MayBeCounted w c → Kept e real w x
      → After e real (world_step w c) x
  event_kept w (Boots n) x orderly known may k = boots_kept e real w n x k
  event_kept w (IsCut n) x orderly known may k = cut_kept e real w n x k
  event_kept w (Gives a m) x orderly known may k =
      far_begins e real w x a.link (sending a.link m) (orderly_fine w orderly) (grind arith) (sending_mute a.link m) k
  event_kept w (Inits a identity pipes) x orderly known may k =
      far_begins e real w x a.link (beginning identity pipes) (orderly_fine w orderly) (tt, (tt, tt)) (tt, (tt, tt)) k
  event_kept w (Takes a) x orderly known may k = comes_kept e real w x a NextFrame orderly known k
  event_kept w (Loses a why) x orderly known may k = lost_kept e real w a x k why may
  event_kept w Ticks x orderly known may k = ticks_kept e real w x orderly known k
  event_kept w (Resets a window) x orderly known may k = comes_kept e real w x a (AsksReset window) orderly known k
  event_kept w (Activates h sync power) x orderly known may k = activates_kept e real w x h sync power orderly known k
  event_kept w (Arms n plan) x orderly known may k = memory_kept e real w n (record (memory_at w n) { plan = Some plan }) x k

-- what is kept of all ends of links with hosts
abbrev pub AllKept : List Entry → NodeWorld → Type 0
AllKept t w = (e : End) (host : IsHost e.link) → Kept e (real_of e host) w (reads e t no_errors)

desk_found : (e : End) (k : ℕ) (desks : List Desk) (n : ℕ) → AllByRecursion (λ (d : Desk). eqb d.host e.link ≡ true → d.errors ≡ k) desks
    → option_map (λ (d : Desk). d.errors) (find (λ (d : Desk). eqb d.host e.link) desks) ≡ Some n → k ≡ n
desk_found e k [] n all q = absurd (cc q)
desk_found e k (d ∷ desks) n all q = by_test (eqb d.host e.link)
    (λ z. grind arith)
    (λ z. desk_found e k desks n all.1 (grind arith))

kept_read : (t : List Entry) (w : NodeWorld) → AllKept t w → ErrorsAreRead t w
kept_read t w all e n host q = by (node_at w (node_of e)) refl q where
  kept : (o : Option Running) → node_at w (node_of e) ≡ o → IfKeeps e o (reads e t no_errors)
  kept o is = subst (λ o. IfKeeps e o (reads e t no_errors)) (sym (own_node_is e (real_of e host) w) ∙ is) (all e host)

  by : (o : Option Running) → node_at w (node_of e) ≡ o → errors_of o e.link ≡ Some n → errors_in t e ≡ n
  by None is z = absurd (cc z)
  by (Some r) is z = desk_found e (reads e t no_errors).errors r.desks n (kept (Some r) is).desks z

-- a controller that runs has the tables that are read
known_tables : (hosts : List ℕ) (t : List Entry) (w : NodeWorld) (e : End) (real : e.at_host ≡ true → eqb e.link 0 ≡ false) → AllKeep hosts t w
    → Known e real w (reads e t no_errors)
known_tables hosts t w e real all near r q =
    let runs : IfRuns 0 hosts w.memory.content t (Some r) = subst (IfRuns 0 hosts w.memory.content t) q all.controller.runs in
    runs.tables_are ∙ sym (ap (λ (b : Book). b.tables) (book_reads e t no_errors))

-- ### What may happen

abbrev May : NodeWorld → Happening → Type 0
May w c = MayHappen w c × MayBeCounted w c × MayBoot w c

-- where no node has more commands than a journal counts, all nodes keep what is read
pub record IsSoOfLines (hosts : List ℕ) (t : List Entry) (w : NodeWorld) : Type 0 where
  pub keep : AllKeep hosts t w
  pub orderly : IsOrderly w
  pub notices : KeepsNotices t w
  pub errors : AllKept t w

abbrev IfFew : List ℕ → List Entry → NodeWorld → Type 0
IfFew hosts t w = IsFew t → IsSoOfLines hosts t w

event_so : (hosts : List ℕ) → AreHosts hosts → (t : List Entry) (w : NodeWorld) (c : Happening) → IfFew hosts t w → May w c
    → IfFew hosts (t ++ (world_step w c).1) (world_step w c).0
event_so hosts are t w c so may few =
    let es : List Entry = (world_step w c).1 in
    let before : IsSoOfLines hosts t w = so (few_front t es few) in
    record {
      keep = (world_goes hosts are t w c before.keep may.0 (λ n. few t es n refl)).keep;
      orderly = step_orderly w c before.orderly;
      notices = event_read t w c before.notices may.2;
      errors = λ e host. subst (Kept e (real_of e host) (world_step w c).0) (sym (reads_append e t es no_errors)) (event_kept e (real_of e host) w c
          (reads e t no_errors) before.orderly (known_tables hosts t w e (real_of e host) before.keep) may.1 (before.errors e host));
    }

-- ### Lines

not_empty : (wire : List OnWire) → if_empty wire ≡ None → wire ≡ [] → ⊥
not_empty wire none e = grind arith

line_may : (w : NodeWorld) (l : Line) → IsSentByHost l → refusal_in w l ≡ None → AllMay May w (happenings w l)
line_may w (line.Send e pid message) side none =
    ((send_may w e pid message side (first_none (if_off w (node_of e)) (if_not_sent w e (pid, message)) none).1, tt, tt), tt)
line_may w (line.Deliver e count) side none = repeated_may May (Takes e) (λ v. (tt, tt, tt)) (taken_of count (frames_at w e)) w
line_may w (line.Lose e) side none = ((tt, not_empty (frames_at w e) (first_none (if_off w (node_of e)) (if_empty (frames_at w e)) none).1, tt), tt)
line_may w (line.Damage e places) side none = grind arith
line_may w (line.Tick times) side none = repeated_may May Ticks (λ v. (tt, tt, tt)) (unwrap_or times 1) w
line_may w (line.Busy e) side none = tt
line_may w (line.Ready e) side none = tt
line_may w (line.Boot n) side none = ((tt, tt, stands_none (node_at w n) none), tt)
line_may w (line.Cut n) side none = ((off_none (node_at w n) none, tt, tt), tt)
line_may w (line.Tables n) side none = tt
line_may w (line.Settle n) side none = tt
line_may w _ side none = ((tt, tt, tt), tt)

-- ### Schedules

begun_kept : (hosts : List ℕ) → AllKept [] (new_world hosts)
begun_kept hosts e host = by_test e.at_host
    (λ q. subst (λ o. IfKeeps e o no_errors) (sym (host_node e real (new_world hosts) q ∙ none_runs hosts)) refl)
    (λ q. subst (λ o. IfKeeps e o no_errors) (sym (near_node e real (new_world hosts) q)) refl) where
      real : e.at_host ≡ true → eqb e.link 0 ≡ false
      real = real_of e host

      none_runs : (hosts : List ℕ) → far_node (site_at (new_world hosts).sites e.link) ≡ None
      none_runs [] = refl
      none_runs (h ∷ hosts) = cond_both (eqb h e.link) _ _ (λ o. far_node o ≡ None) (λ _. refl) (λ _. none_runs hosts)

begin_so : (hosts : List ℕ) → AreHosts hosts → IsSoOfLines hosts [] (new_world hosts)
begin_so hosts are = record {
  keep = all_begin hosts;
  orderly = new_orderly hosts are.different (numbers hosts are.all);
  notices = begins_read hosts are;
  errors = begun_kept hosts;
}

schedule_so : (header : Header) (lines : List Line) (t : NodeHistory) → FollowsNodes header lines t → AreHosts header.hosts.items
    → AllByRecursion IsSentByHost lines → IsFew (node_entries t)
    → IsSoOfLines header.hosts.items (node_entries t) (world_after (new_world header.hosts.items) lines)
schedule_so header lines t follows are sides few =
    let hosts : List ℕ = header.hosts.items in
    let all : IfFew hosts (node_entries t) (world_after (new_world hosts) lines) =
    subst (λ l. IfFew hosts l (world_after (new_world hosts) lines)) (ap entries_of_steps (sym follows.steps_are))
    (lines_last (IfFew hosts) May IsSentByHost (event_so hosts are) line_may lines [] (new_world hosts) (λ f. begin_so hosts are) sides) in all few

-- so it is at the end of each event
pub events_so : (header : Header) (lines : List Line) (t : NodeHistory) → FollowsNodes header lines t → AreHosts header.hosts.items
    → AllByRecursion IsSentByHost lines → IsFew (node_entries t) → (front back : List Occurrence) → occurrences_in t ≡ front ++ back
    → IsSoOfLines header.hosts.items (entries_in front) (world_behind (new_world header.hosts.items) front)
events_so header lines t follows are sides few front back parts =
    history_holds (IfFew header.hosts.items) May IsSentByHost (event_so header.hosts.items are) line_may header lines t follows
    (λ f. begin_so header.hosts.items are) sides front back parts
    (few_front (entries_in front) (entries_in back) (subst IsFew (ap entries_in parts ∙ flat_map-append (λ (o : Occurrence). o.entries) front back) few))

pub errors_read_events : (header : Header) (lines : List Line) (t : NodeHistory) → FollowsNodes header lines t → AreHosts header.hosts.items
    → AllByRecursion IsSentByHost lines → IsFew (node_entries t) → (front back : List Occurrence) → occurrences_in t ≡ front ++ back
    → ErrorsAreRead (entries_in front) (world_behind (new_world header.hosts.items) front)
errors_read_events header lines t follows are sides few front back parts =
    kept_read (entries_in front) (world_behind (new_world header.hosts.items) front) (events_so header lines t follows are sides few front back parts).errors

pub errors_read : (header : Header) (lines : List Line) (t : NodeHistory) → FollowsNodes header lines t → AreHosts header.hosts.items
    → AllByRecursion IsSentByHost lines → IsFew (node_entries t) → ErrorsAreRead (node_entries t) (world_after (new_world header.hosts.items) lines)
errors_read header lines t follows are sides few =
    kept_read (node_entries t) (world_after (new_world header.hosts.items) lines) (schedule_so header lines t follows are sides few).errors

-- ### Views

all_one : (hosts : List ℕ) (h : ℕ) → AllByRecursion IsHost hosts → is_one_of hosts h ≡ true → IsHost h
all_one [] h all one = absurd (true≢false (sym one))
all_one (k ∷ hosts) h all one = by_test (eqb k h)
    (λ q. subst IsHost (eqb-true k h q) all.0)
    (λ q. all_one hosts h all.1 (sym (ap (λ b. b || is_one_of hosts h) q) ∙ one))

-- the view that a controller has is the one that is read, where sessions and creations are
module _ (hosts : List ℕ) (are : AreHosts hosts) (t : List Entry) (w : NodeWorld) (so : IsSoOfLines hosts t w) (r : Running)
    (runs : w.controller ≡ Some r) where
  pub view_read : SessionsAreRead t w → PipesAreRead hosts t (ends_between w.sites r) → (h : ℕ) → is_one_of hosts h ≡ true
      → IsSameView (view_for r.core.tables (ends_between w.sites r) h) (view_at hosts t h)
  view_read sessions pipes h one =
      let has : HasEnds 0 (hosts_in w.sites) r = subst (IfItRuns 0 (hosts_in w.sites)) runs so.orderly.controller in
      let keeps : IfRuns 0 hosts w.memory.content t (Some r) = subst (IfRuns 0 hosts w.memory.content t) runs so.keep.controller.runs in
      subst (λ hs. IsSameView (view_for r.core.tables (ends_between w.sites r) h) (view_at hs t h)) so.keep.hosts_are
      (same_view t w r runs has keeps.tables_are (notices_of t w so.notices) (kept_read t w so.errors) sessions h (all_one hosts h are.all one)
      (subst (λ hs. is_one_of hs h ≡ true) (sym so.keep.hosts_are) one) (grind arith))

-- ## The view of a controller over whole histories: sessions and creations that wait are read there

sessions_are : (hosts : List ℕ) (os : List Occurrence) (w : NodeWorld) → IsSo hosts os w → SessionsAreRead (entries_in os) w
sessions_are hosts os w so h s found =
    (are_read h s.link (entries_in os) (host_number w h s so.well.orderly found) (so.each h s found).told).controller

pipes_are : (hosts : List ℕ) (t : List Entry) (w : NodeWorld) (r : Running) → w.controller ≡ Some r → IfKnowsAsRead hosts t w.sites w.controller
    → PipesAreRead hosts t (ends_between w.sites r)
pipes_are hosts t w r runs known = (subst (IfKnowsAsRead hosts t w.sites) runs known).waiting

-- the view that a controller has is the one that is read
module _ (header : Header) (lines : List Line) (t : NodeHistory) (follows : FollowsNodes header lines t) (are : AreHosts header.hosts.items)
    (playable : ArePlayable lines) (sent : AllByRecursion IsSentByHost lines) (few : IsFew (node_entries t)) (front back : List Occurrence)
    (parts : occurrences_in t ≡ front ++ back) where
  abbrev hosts : List ℕ
  hosts = header.hosts.items

  abbrev w : NodeWorld
  w = world_behind (new_world hosts) front

  pub view_is : (r : Running) → w.controller ≡ Some r → (h : ℕ) → is_one_of hosts h ≡ true
      → IsSameView (view_for r.core.tables (ends_between w.sites r) h) (view_at hosts (entries_in front) h)
  view_is r runs =
      view_read hosts are (entries_in front) w (events_so header lines t follows are sent few front back parts) r runs
      (sessions_are hosts front w (history_so header lines t follows are playable front back parts))
      (pipes_are hosts (entries_in front) w r runs (if_known hosts (entries_in front) w (history_keeps header lines t follows are sent few front back parts)))
