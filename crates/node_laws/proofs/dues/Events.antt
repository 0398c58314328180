-- In a tick, and in each event of a history, the controller answers before its first turn exactly what is due.
use Rattle.std.proofs.Common.{arith}
use Rattle.node_laws.proofs.Words.{Activates, AllByRecursion, AreDifferent, AreDue, AreHosts, AreNodeLinesOf, AreNotOf, ArePlayable, Arms, AsksReset}
use Rattle.node_laws.proofs.Words.{AtEachOccurrence, AtEnd, Bool, Boots, Comes, Controller, Deed, End, EndedBy, Entry, FollowsNodes, Gives, Happening, HasEnds}
use Rattle.node_laws.proofs.Words.{HciTables, Header, Host, IfReads, Inits, IsBegunByHost, IsClf, IsCut, IsDueAt, IsFew, IsNamed, IsNoAnswer, IsNodeHeader}
use Rattle.node_laws.proofs.Words.{IsNodeLineOf, IsOrderly, IsSentByHost, IsTrue, Line, Link, LinkEnd, LinkInput, List, Loses, Loss, NextFrame, NoInput}
use Rattle.node_laws.proofs.Words.{NodeHistory, NodeWorld, None, NumberedEnd, Occurrence, OnWire, Port, ReadsBetween, Resets, Running, Site, Some, Starts}
use Rattle.node_laws.proofs.Words.{Takes, Ticks, TimePasses, Work, [], after_near_tick, aged, aged_entries, all_aged, all_append, all_flat, ap, append-nil}
use Rattle.node_laws.proofs.Words.{append_assoc, ap₂, as_it_ticks, asking_in, beginning, begins_with, begun_at, boot_found, boots, by_boot, by_coming}
use Rattle.node_laws.proofs.Words.{by_controller, by_controller_tick, by_loss, by_option, by_test, comes_at, comes_to, commands_by_events, cond}
use Rattle.node_laws.proofs.Words.{controller_does, controller_ticks, controller_work, count_of, end_c, end_h, entries_for, entries_in, eqb, false, first_lost}
use Rattle.node_laws.proofs.Words.{first_verdict, flat_map, frame_lost, frames_at, frames_noted, happenings, has_come_so, host_does, hosts_in, hosts_of_ends}
use Rattle.node_laws.proofs.Words.{hosts_tick, input_of, is_answer_of, is_late, is_late_in, is_over, is_own_reset, is_tick, length, link_to, map, near_tick}
use Rattle.node_laws.proofs.Words.{new_sync, new_world, node_entries, node_of, notice_in, number_now, occurrences_in, port_at, refl, refusal_in, reset_late}
use Rattle.node_laws.proofs.Words.{sending, session_now, session_of_port, site_at, steps, subst, sym, syncs_in, tables_in, taken_of, told_of_coming, true}
use Rattle.node_laws.proofs.Words.{true≢false, unwrap_or, wires_for, world_behind, world_step, world_ticks, ℕ, ◌++◌, ◌==◌, ◌||◌, ◌∙◌, ◌∷◌, ◌≡◌, ◌≤◌}
use Rattle.link_laws.specs.entries.Entries.{End as Side}
use Rattle.node_laws.proofs.creations.Knowing.{far_reading}
use Rattle.node_laws.proofs.dues.Comes.{IsTookless, IsUnread, aged_tookless, comes_due, coming_tookless, first_tookless, frames_tookless, front_own}
use Rattle.node_laws.proofs.dues.Comes.{nothing_due, others_due, others_unread, owed_calm, owed_off, session_is, ticks_none, tookless_all, tookless_own}
use Rattle.node_laws.proofs.dues.Comes.{unread_flat}
use Rattle.node_laws.proofs.dues.Freed.{IsElse, any_cause, come_found, come_none, come_so, either_ends, ends_at, same_port}
use Rattle.node_laws.proofs.dues.Steps.{AreOfLink, IsOfLink, links_are, mute_both, near_due}
use Rattle.node_laws.proofs.links.Worlds.{IsFineSite}
use Rattle.node_laws.proofs.notices.Near.{AreFar, aged_far, far_reads}
use Rattle.node_laws.proofs.notices.Turning.{notice_more}
use Rattle.node_laws.proofs.order.Lines.{IsSo, history_so}
use Rattle.node_laws.proofs.passes.InSteps.{IsBehind, step_notes}
use Rattle.node_laws.proofs.passes.Replying.{session_in}
use Rattle.node_laws.proofs.power.Steps.{AreOwn, IsMine, own_not, part_own}
use Rattle.node_laws.proofs.power.Events.{begins_part, near_ticks_part, sending_mine, ticked_others}
use Rattle.node_laws.proofs.read_rooms.Beginning.{HasSite, site_for}
use Rattle.node_laws.proofs.read_steps.Reading.{IsBegun, far_named, history_reads, tick_starts}
use Rattle.node_laws.proofs.readings.Sites.{lost_quiet}
use Rattle.node_laws.proofs.replies.Creations.{all_found}
use Rattle.node_laws.proofs.reply_passes.Ordered.{port_begins}
use Rattle.node_laws.proofs.reply_passes.Roomy.{comes_roomy}
use Rattle.node_laws.proofs.telling.Events.{Stands, comes_goes, hosts_same_of_nodes as hosts_same, link_is, site_is, stands}
use Rattle.node_laws.proofs.telling.Lasting.{AllMay, AreCaused, damaged_may, events_of_steps, lines_caused, repeated_may}
use Rattle.node_laws.proofs.telling.WorldTicks.{aged_orderly}
use Rattle.node_laws.proofs.worlds.Ages.{otherwise}
use Rattle.node_laws.proofs.worlds.Ticking.{any_none, at, near_node, notes_downless, other_end_is, p as port_there, q as ticked_there, reset_is}
use Rattle.node_laws.proofs.worlds.Due.{AreDueAtHosts, ages_read, hosts_due, off_zero, read_before}
use Rattle.node_laws.proofs.worlds.Late.{aged_unanswered, lost_unanswered, others_answer, unanswered_all}
use Rattle.node_laws.proofs.worlds.Done.{far_not, frames_quiet, no_answer}
use Rattle.node_laws.proofs.worlds.Resetting.{IsReadBefore, near_is}
use Rattle.trace_model.specs.declared.entry.Entry.TheVariants as entry
use Rattle.trace_model.specs.declared.line.Line.TheVariants as line

-- ## In a tick of the world the controller answers before its first turn exactly what is due

reset_flag : (p : Port) → p.late ≡ false → (reset_late p).late ≡ is_late p
reset_flag p fresh = by_test (is_late p) (λ z. rw z refl) (λ z. rw z fresh)

every_cause : (cause : EndedBy) → (is_own_reset cause || otherwise cause) ≡ true
every_cause cause = by_test (is_own_reset cause) (λ q. rw q refl) (λ q. rw q refl)

module _ (hosts : List ℕ) (are : AreHosts hosts) (past : List Occurrence) (w : NodeWorld) (between : ReadsBetween hosts (entries_in past) w)
    (before : IsReadBefore past w)
    (clfs : (h : ℕ) (s : Site) → site_at w.sites h ≡ Some s → IsClf s.link.controller.side.role) where
  abbrev t : List Entry
  t = entries_in past

  abbrev old : NodeWorld
  old = (all_aged w).0

  abbrev lead : List Entry
  lead = (all_aged w).1

  abbrev far : List Entry
  far = (hosts_tick (controller_ticks old).0.sites).1

  abbrev DueOfTicks : List Entry → Type 0
  DueOfTicks es = IsDueAt hosts past (record { cause = Ticks; entries = es }) 0

  others_of_ticks : AreNotOf 0 far
  others_of_ticks = ticked_others w before.orderly

  lead_answers : AllByRecursion (λ x. is_answer_of 0 x ≡ false) lead
  lead_answers = unanswered_all 0 lead (aged_unanswered w.sites)

  lead_links : AreOfLink lead
  lead_links =
      all_flat IsOfLink (λ (s : Site). entries_for s.host (aged_entries Controller s.link.to_controller ++ aged_entries Host s.link.to_host))
      (λ s. links_are s.host (aged_entries Controller s.link.to_controller ++ aged_entries Host s.link.to_host)) w.sites

  quiet : AreFar lead
  quiet =
      aged_far t w between.keeps.creations.notices.orderly between.keeps.creations.notices.up
      (record { sites = between.keeps.creations.notices.sites; reads_so = between.keeps.creations.notices.controller })

  -- the controller doesn't run
  off_due : w.controller ≡ None → DueOfTicks (lead ++ ([] ++ far))
  off_due off =
      nothing_due hosts past (record { cause = Ticks; entries = lead ++ far }) refl
      (all_append (λ x. is_answer_of 0 x ≡ false) lead far lead_answers (others_answer 0 far others_of_ticks))
      (all_append (IsUnread (tables_in t 0)) lead far (tookless_all (tables_in t 0) lead (aged_tookless w.sites))
      (others_unread (tables_in t 0) far others_of_ticks))
      (owed_off hosts past (record { cause = Ticks; entries = lead ++ far })
      (λ k. (subst (IfReads t) off between.keeps.creations.notices.controller k).0))

  module _ (r : Running) (runs : w.controller ≡ Some r) where
    abbrev begun : Work
    begun = as_it_ticks w r

    abbrev near_ends : ℕ → NumberedEnd
    near_ends k = (link_to old.sites k).controller

    abbrev last : Work
    last = steps TimePasses begun

    abbrev frames : List Entry
    frames = flat_map (λ (s : Site). frames_noted Controller s.host s.link last) old.sites

    abbrev es : List Entry
    es = lead ++ (last.entries ++ (frames ++ far))

    has : HasEnds 0 (hosts_in w.sites) r
    has = near_node w r before.orderly runs

    hosts_are : hosts_of_ends begun.ports ≡ hosts_in w.sites
    hosts_are = hosts_same near_ends r.desks ∙ has.ends

    starts : IsBegun hosts (t ++ lead) TimePasses begun
    starts = tick_starts hosts are t w between.keeps r runs

    ticks_are : controller_ticks old ≡ after_near_tick old last
    ticks_are = rw runs refl

    all_is : es ≡ (world_ticks w).1
    all_is =
        ap (λ l. lead ++ l) (sym (append_assoc last.entries frames far))
        ∙ ap (λ (p : NodeWorld × List Entry). lead ++ (p.1 ++ far)) (sym ticks_are)

    -- the link of a site grew older
    old_near : (k : ℕ) (s : Site) → site_at w.sites k ≡ Some s → near_ends k ≡ s.link.controller
    old_near k s found = ap (λ (x : Link). x.controller) (link_is old.sites k (record s { link = aged s.link }) (aged_site w.sites found))
      where
        aged_site : (sites : List Site) → site_at sites k ≡ Some s
            → site_at (map (λ (x : Site). record x { link = aged x.link }) sites) k ≡ Some (record s { link = aged s.link })
        aged_site [] e = absurd (cc e)
        aged_site (x ∷ sites) e = by_test (eqb x.host k)
            (λ z. grind arith)
            (λ z. rw z (aged_site sites (rw z at e)))

    clf_at : (k : ℕ) (p : Port) → port_at begun.ports k ≡ Some p → IsClf p.side.role
    clf_at k p found =
        let site : HasSite w.sites k = site_for begun.ports w.sites k p hosts_are found in
        let side : p.side ≡ site.site.link.controller.side =
        (port_begins near_ends r.desks k p found).1 ∙ ap (λ (e : NumberedEnd). e.side) (old_near k site.site site.there) in
        subst (λ (e : LinkEnd). IsClf e.role) (sym side) (clfs k site.site site.there)

    syncs : syncs_in TimePasses begun ≡ []
    syncs =
        ticks_none begun.core begun.ports
        (all_found (λ (p : Port). IsClf p.side.role) begun.ports (subst AreDifferent (sym hosts_are) before.orderly.different) clf_at)

    own_part : IsBehind IsTookless (begun.entries ++ told_of_coming TimePasses begun) last.entries
    own_part = step_notes IsTookless tookless_own TimePasses begun

    taken : flat_map (new_sync (tables_in t 0)) es ≡ syncs_in TimePasses begun
    taken =
        let z : HciTables = tables_in t 0 in
        let own : AllByRecursion IsTookless last.entries =
        subst (AllByRecursion IsTookless) (sym own_part.is)
        (all_append IsTookless (told_of_coming TimePasses begun) own_part.more (coming_tookless TimePasses begun) own_part.all) in
        unread_flat z es
        (all_append (IsUnread z) lead (last.entries ++ (frames ++ far)) (tookless_all z lead (aged_tookless w.sites))
        (all_append (IsUnread z) last.entries (frames ++ far) (tookless_all z last.entries own)
        (all_append (IsUnread z) frames far
        (tookless_all z frames
        (all_flat IsTookless (λ (s : Site). frames_noted Controller s.host s.link last) (λ s. frames_tookless Controller s.host s.link last) old.sites))
        (others_unread z far others_of_ticks))))
        ∙ sym syncs

    -- ### Its sessions

    -- an end behind the tick is that of a site, as the tick came to it, and then as its late notice reset it
    record IsTicked (k : ℕ) (q : Port) : Type 0 where
      site : Site
      there : site_at w.sites k ≡ Some site
      same : q ≡ reset_late (ticked_there w before.orderly t before.notices k site there r runs)

    was : (k : ℕ) (q : Port) → port_at (has_come_so TimePasses begun).ports k ≡ Some q → IsTicked k q
    was k q found = by_option (port_at begun.ports k)
        (λ e. let none : port_at (has_come_so TimePasses begun).ports k ≡ None = come_none TimePasses begun k e in
        let no : None ≡ Some q = sym none ∙ found in absurd (cc no))
        (λ p e. let site : HasSite w.sites k = site_for begun.ports w.sites k p hosts_are e in
        let here : port_at begun.ports k ≡ Some (port_there w before.orderly t before.notices k site.site site.there r runs) =
        (at w before.orderly t before.notices k site.site site.there r runs).here in
        record {
          site = site.site;
          there = site.there;
          same = same_port q (come_so TimePasses (port_there w before.orderly t before.notices k site.site site.there r runs))
              (sym found ∙ come_found TimePasses begun k (port_there w before.orderly t before.notices k site.site site.there r runs) here);
        })

    ends : (k : ℕ) (q : Port) → port_at (has_come_so TimePasses begun).ports k ≡ Some q → ends_at k es ≡ is_over q
    ends k q found =
        let u : IsTicked k q = was k q found in
        let z : Port = ticked_there w before.orderly t before.notices k u.site u.there r runs in
        ap (ends_at k) all_is
        ∙ (either_ends is_own_reset otherwise every_cause (end_c k) (world_ticks w).1
        ∙ (ap₂ (λ a b. a || b) (reset_is w before.orderly t before.notices k u.site u.there r runs)
        (other_end_is w before.orderly t before.notices k u.site u.there r runs)
        ∙ (swap (is_late z) z.ended
        ∙ (ap₂ (λ a b. a || b) (sym (by_test (is_late z) (λ z. rw z refl) (λ z. rw z refl))) (sym (reset_flag z refl)) ∙ ap is_over (sym u.same)))))
      where
        swap : (a b : Bool) → (a || b) ≡ (b || a)
        swap true true = refl
        swap true false = refl
        swap false true = refl
        swap false false = refl

    late : (k : ℕ) (q : Port) → port_at (has_come_so TimePasses begun).ports k ≡ Some q → is_late_in past (record { cause = Ticks; entries = es }) k ≡ q.late
    late k q found =
        let u : IsTicked k q = was k q found in
        ap (λ l. is_late_in past (record { cause = Ticks; entries = l }) k) all_is
        ∙ (sym (near_is past w before k u.site u.there Ticks tt)
        ∙ (reset_is w before.orderly t before.notices k u.site u.there r runs
        ∙ (sym (reset_flag (ticked_there w before.orderly t before.notices k u.site u.there r runs) refl) ∙ ap (λ (x : Port). x.late) (sym u.same))))

    sessions : (a : ℕ) (p : Port) → port_at begun.ports a ≡ Some p → IsElse TimePasses a → session_of_port begun.ports a ≡ session_now t (end_c a) 0
    sessions a p found else =
        let site : HasSite w.sites a = site_for begun.ports w.sites a p hosts_are found in
        let s : Site = site.site in
        let there : Stands near_ends r.desks a = stands near_ends r.desks w.sites a s has.ends site.there in
        ap session_in there.here
        ∙ (session_is (near_ends a) there.desk ∙ (ap number_now (old_near a s site.there) ∙ sym (before.sessions a s site.there).controller))

    owned : AreOwn 0 last.entries
    owned =
        front_own last.entries frames
        (subst (λ (p : NodeWorld × List Entry). AreOwn 0 p.1) ticks_are
        (part_own 0 (controller_ticks old).1 (near_ticks_part old (aged_orderly w before.orderly))))

    on_due : DueOfTicks es
    on_due =
        near_due hosts are past Ticks refl lead (frames ++ far) TimePasses begun starts
        (all_append IsNamed (t ++ lead) [] (all_append IsNamed t lead between.named (far_named lead quiet)) tt)
        None syncs taken
        (λ k. ap (λ l. notice_in l k) (append-nil (t ++ lead)) ∙ (notice_more k t lead ∙ far_reads k lead quiet (notice_in t k)))
        (λ k. ap (λ l. asking_in l k) (append-nil (t ++ lead)) ∙ far_reading k t lead quiet)
        ends late sessions (mute_both lead lead_links lead_answers) tt owned
        (all_append IsNoAnswer frames far (frames_quiet (λ s. s.link) last old.sites) (no_answer far others_of_ticks))

-- ## In each event of a history what the controller answers before its first turn is exactly what is due

-- ### Lines

-- what begins, begins at a host
abbrev MayBegin : NodeWorld → Happening → Type 0
MayBegin w (Gives e m) = IsTrue e.at_host × ((e.link == 0) ≡ false)
MayBegin w (Inits e identity pipes) = IsTrue e.at_host × ((e.link == 0) ≡ false)
MayBegin w _ = Unit {0}

abbrev IsPlain : Header → Line → Type 0
IsPlain header l = IsNodeLineOf header l × IsSentByHost l × IsBegunByHost l

all_plain : (header : Header) (lines : List Line) → AreNodeLinesOf header lines → AllByRecursion IsSentByHost lines → AllByRecursion IsBegunByHost lines
    → AllByRecursion (IsPlain header) lines
all_plain header [] a b c = tt
all_plain header (l ∷ lines) a b c = ((a.0, b.0, c.0), all_plain header lines a.1 b.1 c.1)

module _ (header : Header) (nodes : IsNodeHeader header) where
  line_begins : (w : NodeWorld) (l : Line) → IsPlain header l → refusal_in w l ≡ None → AllMay MayBegin w (happenings w l)
  line_begins w (line.Send e pid message) is none = ((is.1, off_zero header nodes e.link is.0.known), tt)
  line_begins w (line.Deliver e count) is none = repeated_may MayBegin (Takes e) (λ v. tt) (taken_of count (frames_at w e)) w
  line_begins w (line.Damage e places) is none = damaged_may MayBegin w e tt (λ why. tt) (first_verdict (frames_at w e) places.items)
  line_begins w (line.Tick times) is none = repeated_may MayBegin Ticks (λ v. tt) (unwrap_or times 1) w
  line_begins w (line.Busy e) is none = tt
  line_begins w (line.Ready e) is none = tt
  line_begins w (line.Init e identity pipes) is none = ((is.2, off_zero header nodes e.link is.0.known), tt)
  line_begins w (line.Tables n) is none = tt
  line_begins w (line.Settle rounds) is none = tt
  line_begins w _ is none = (tt, tt)

-- ### Events

module _ (header : Header) (lines : List Line) (t : NodeHistory) (follows : FollowsNodes header lines t) (are : AreHosts header.hosts.items)
    (seven : length header.hosts.items ≤ 7) (sent : AllByRecursion IsSentByHost lines) (sides : AllByRecursion IsBegunByHost lines)
    (few : IsFew (node_entries t)) (playable : ArePlayable lines) (past back : List Occurrence) (parts : occurrences_in t ≡ past ++ back)
    (asked : commands_by_events past ≤ 4000000000) where
  abbrev hosts : List ℕ
  hosts = header.hosts.items

  abbrev w : NodeWorld
  w = world_behind (new_world header.hosts.items) past

  so : IsSo hosts past w
  so = history_so header lines t follows are playable past back parts

  abbrev a : IsOrderly w
  a = so.well.orderly

  between : ReadsBetween hosts (entries_in past) w
  between = history_reads header lines t follows are sent few past back parts

  before : IsReadBefore past w
  before = read_before header lines t follows are playable sent sides few past back parts (ages_read header lines t follows are past back parts)

  clfs : (h : ℕ) (s : Site) → site_at w.sites h ≡ Some s → IsClf s.link.controller.side.role
  clfs h s found =
      let fine : IsFineSite s = site_is IsFineSite w.sites h s so.well.fine.sites found in fine.link.line.clf

  abbrev Due : Happening → List Entry → Type 0
  Due c es = IsDueAt hosts past (record { cause = c; entries = es }) 0

  others : (c : Happening) (es : List Entry) → begun_at 0 c ≡ [] → is_tick c ≡ false → AreNotOf 0 es → Due c es
  others c es begun still other = others_due hosts past (record { cause = c; entries = es }) begun still other

  -- something comes to the controller, and behind it other nodes go on
  near : (c : Happening) (h : ℕ) (comes : Comes) (i : LinkInput) → input_of (link_to w.sites h) comes ≡ Some i → begun_at 0 c ≡ [] → is_tick c ≡ false
      → (rest : List Entry) → AreNotOf 0 rest → Due c ((controller_does w h comes (steps (AtEnd h i))).1 ++ rest)
  near c h comes i input begun still rest other =
      by_controller (λ p. Due c (p.1 ++ rest)) w h comes (steps (AtEnd h i)) (others c rest begun still other)
      (λ r q.
      let v : Work = controller_work w r h comes (steps (AtEnd h i)) in
      let frames : List Entry = flat_map (λ (s : Site). frames_noted Controller s.host (wires_for s.link (comes_to h comes s.host)) v) w.sites in
      subst (Due c) (sym (append_assoc v.entries frames rest))
      (comes_due hosts are past w a between clfs before.sessions r q h comes i input
      (comes_roomy header lines t follows are seven sent few past back parts asked playable w refl r q h comes i input) rest other c begun still))

  coming : (c : Happening) (e : End) (comes : Comes) → begun_at 0 c ≡ [] → is_tick c ≡ false → (rest : List Entry) → AreNotOf 0 rest
      → Due c ((comes_at w e comes).1 ++ rest)
  coming c e comes begun still rest other = by_test e.at_host
      (λ q. others c ((comes_at w e comes).1 ++ rest) begun still (all_append _ (comes_at w e comes).1 rest (far_not w e comes a q) other))
      (λ q. by_coming (λ p. Due c (p.1 ++ rest)) w e comes (others c rest begun still other) (λ i z seen. absurd (true≢false (sym z ∙ q)))
      (λ i z seen. near c e.link comes i seen begun still rest other))

  alone : (c : Happening) (e : End) (comes : Comes) → begun_at 0 c ≡ [] → is_tick c ≡ false → Due c (comes_at w e comes).1
  alone c e comes begun still = subst (Due c) (append-nil (comes_at w e comes).1) (coming c e comes begun still [] tt)

  -- a host begins something
  begins : (c : Happening) (e : End) (deeds : List Deed) → IsTrue e.at_host × ((e.link == 0) ≡ false) → AllByRecursion (IsMine e.link e.link) deeds
      → begun_at 0 c ≡ [] → is_tick c ≡ false → Due c (host_does w e.link NoInput (begins_with e.link deeds)).1
  begins c e deeds may mine begun still =
      let es : List Entry = (host_does w e.link NoInput (begins_with e.link deeds)).1 in
      others c es begun still (own_not e.link 0 es may.1 (part_own e.link es (begins_part w e.link deeds mine a)))

  far_off : (e : End) → IsTrue e.at_host × ((e.link == 0) ≡ false) → (node_of e == 0) ≡ false
  far_off e may = let far : IsTrue e.at_host = may.0 in let is : node_of e ≡ e.link = rw far refl in ap (λ n. n == 0) is ∙ may.1

  lost : (e : End) (why : Loss) → Due (Loses e why) (frame_lost w e why).1
  lost e why = by_loss (λ p. Due (Loses e why) p.1) w e why (λ z. one Host (link_to w.sites e.link).to_host)
      (λ z. one Controller (link_to w.sites e.link).to_controller) where
        one : (who : Side) (xs : List OnWire)
            → Due (Loses e why) (entries_for e.link (first_lost who why xs))
        one who xs =
            let es : List Entry = entries_for e.link (first_lost who why xs) in
            let o : Occurrence = record { cause = Loses e why; entries = es } in
            nothing_due hosts past o refl
            (unanswered_all 0 es (lost_unanswered e.link who why xs))
            (tookless_all (tables_in (entries_in past) 0) es (first_tookless e.link who why xs))
            (owed_calm hosts past o (λ k. any_none any_cause (end_c k) es (notes_downless e.link (first_lost who why xs) (lost_quiet who why xs)))
            (λ k. refl))

  booted : (n : ℕ) → Due (Boots n) (boots w n).1
  booted n =
      by_boot (λ p. Due (Boots n) p.1) w n (one (entry.Cut n ∷ []) (refl, tt) (refl, tt) (λ k. refl))
      (one (entry.Booted n (count_of (boot_found w n).core.journal) ∷ []) (refl, tt) (refl, tt) (λ k. refl)) where
        one : (es : List Entry) → AllByRecursion (λ x. is_answer_of 0 x ≡ false) es
            → AllByRecursion (IsUnread (tables_in (entries_in past) 0)) es
            → ((k : ℕ) → ends_at k es ≡ false) → Due (Boots n) es
        one es none unread still =
            let o : Occurrence = record { cause = Boots n; entries = es } in
            nothing_due hosts past o refl none unread (owed_calm hosts past o still (λ k. refl))

  ticks : Due Ticks (world_ticks w).1
  ticks =
      by_controller_tick (λ p. Due Ticks ((all_aged w).1 ++ (p.1 ++ far))) old (λ q. off_due hosts are past w between before clfs q)
      (λ r q.
      let v : Work = near_tick old r in
      let frames : List Entry = flat_map (λ (s : Site). frames_noted Controller s.host s.link v) old.sites in
      subst (λ es. Due Ticks ((all_aged w).1 ++ es)) (sym (append_assoc v.entries frames far)) (on_due hosts are past w between before clfs r q)) where
        old : NodeWorld
        old = (all_aged w).0

        far : List Entry
        far = (hosts_tick (controller_ticks old).0.sites).1

  event_due : (c : Happening) → MayBegin w c → Due c (world_step w c).1
  event_due (Boots n) may = booted n
  event_due (IsCut n) may =
      let o : Occurrence = record { cause = IsCut n; entries = (world_step w (IsCut n)).1 } in
      nothing_due hosts past o refl (refl, tt) (refl, tt) (owed_calm hosts past o (λ k. refl) (λ k. refl))
  event_due (Gives e m) may =
      begins (Gives e m) e (sending e.link m) may (sending_mine e.link m) (ap (λ b. cond b (sending 0 m) []) (far_off e may)) refl
  event_due (Inits e identity pipes) may =
      begins (Inits e identity pipes) e (beginning identity pipes) may (tt, (tt, tt)) (ap (λ b. cond b (beginning identity pipes) []) (far_off e may)) refl
  event_due (Takes e) may = alone (Takes e) e NextFrame refl refl
  event_due (Loses e why) may = lost e why
  event_due Ticks may = ticks
  event_due (Resets e window) may = alone (Resets e window) e (AsksReset window) refl refl
  event_due (Activates h sync power) may =
      let near : NodeWorld × List Entry = comes_at w (end_c h) (Starts power) in
      coming (Activates h sync power) (end_c h) (Starts power) refl refl (comes_at near.0 (end_h h) (Starts sync)).1
      (far_not near.0 (end_h h) (Starts sync) (comes_goes w (end_c h) (Starts power) a).orderly refl)
  event_due (Arms n plan) may =
      let o : Occurrence = record { cause = Arms n plan; entries = [] } in
      nothing_due hosts past o refl tt tt (owed_calm hosts past o (λ k. refl) (λ k. refl))

-- ### Histories

each_begins : (past back : List Occurrence) (o : Occurrence) (w : NodeWorld) → AreCaused MayBegin w (past ++ (o ∷ back))
    → (o.entries ≡ (world_step (world_behind w past) o.cause).1) × MayBegin (world_behind w past) o.cause
each_begins [] back o w caused = (caused.0, caused.1)
each_begins (x ∷ past) back o w caused = each_begins past back o (world_step w x.cause).0 caused.2

module _ (header : Header) (lines : List Line) (t : NodeHistory) (follows : FollowsNodes header lines t) (nodes : IsNodeHeader header)
    (are : AreHosts header.hosts.items) (in_range : AreNodeLinesOf header lines) (seven : length header.hosts.items ≤ 7)
    (sent : AllByRecursion IsSentByHost lines) (sides : AllByRecursion IsBegunByHost lines) (few : IsFew (node_entries t)) (playable : ArePlayable lines)
    (asked : (front back : List Occurrence) → occurrences_in t ≡ front ++ back → commands_by_events front ≤ 4000000000) where
  controller_due : (past back : List Occurrence) (o : Occurrence) → occurrences_in t ≡ past ++ (o ∷ back) → IsDueAt header.hosts.items past o 0
  controller_due past back o parts =
      subst (λ es. IsDueAt header.hosts.items past (record { cause = o.cause; entries = es }) 0) (sym may.0)
      (event_due header lines t follows are seven sent sides few playable past (o ∷ back) parts (asked past (o ∷ back) parts) o.cause may.1) where
        first : NodeWorld
        first = new_world header.hosts.items

        caused : AreCaused MayBegin first (past ++ (o ∷ back))
        caused =
            subst (AreCaused MayBegin first) (sym (ap events_of_steps follows.steps_are) ∙ parts)
            (lines_caused MayBegin (IsPlain header) (line_begins header nodes) lines first (all_plain header lines in_range sent sides))

        may : (o.entries ≡ (world_step (world_behind first past) o.cause).1) × MayBegin (world_behind first past) o.cause
        may = each_begins past back o first caused

  -- each node answers so
  pub all_due : AtEachOccurrence t (AreDue t.header.hosts.items)
  all_due past back o parts =
      let hosts : AreDueAtHosts t.header.hosts.items past o = hosts_due header lines t follows are playable sent sides few past back o parts in
      (subst (λ (h : Header). IsDueAt h.hosts.items past o 0) (sym follows.header_is) (controller_due past back o parts), hosts)
