-- Over histories sessions end by resets exactly where those are due, and before its first turn a host answers exactly what is due.
use Rattle.node_laws.proofs.Words.{Activates, AllByRecursion, AnswersSo, AreDifferent, AreHosts, ArePlayable, AreReset, AreSessionsRead, AreTaken, Arms}
use Rattle.node_laws.proofs.Words.{AsksReset, AtEachOccurrence, AtEnd, Bool, Boots, Contains, Control, CountsCommands, Deed, End, Entry, FollowsNodes, Gives}
use Rattle.node_laws.proofs.Words.{GoesOut, Happening, HasEnds, Header, Host, Init, Inits, IsBegunByHost, IsCut, IsDueAt, IsFew, IsGoodSite, IsHost}
use Rattle.node_laws.proofs.Words.{IsNodeHeader, IsNodeLineOf, IsOrderly, IsReplyNoted, IsSentByHost, IsTrue, KeepsNotices, Line, Link, LinkEnd, LinkInput}
use Rattle.node_laws.proofs.Words.{LinkState, List, Loses, MayBoot, Message, NextFrame, NoInput, NodeHistory, NodeWorld, None, NumberedEnd, Occurrence, OnWire}
use Rattle.node_laws.proofs.Words.{Option, Orders, Port, Resets, Running, Sends, Site, Some, Take, Takes, TakesMessage, Ticks, Turn, Up, Work, [], after_input}
use Rattle.node_laws.proofs.Words.{all_done, all_so, and_parts, ap, append-nil, arith, before_turn, beginning, begins_with, begun_at, by_coming, by_controller}
use Rattle.node_laws.proofs.Words.{by_test, cond, controller_does, controller_work, count_of, due, end_c, end_h, end_of_number, ended_by, ending_of, ends_in}
use Rattle.node_laws.proofs.Words.{entries_in, entries_of_reply, eq-eqb, eqb, eqb-false, eqb-true, exchanged, false, filter, first_cause, first_verdict}
use Rattle.node_laws.proofs.Words.{flat_map-append, fold, frames_at, frames_noted, frames_out, give_refusal, happenings, has_taken, host_does, host_work}
use Rattle.node_laws.proofs.Words.{hosts_in, if_not_sent, if_off, if_waiting, init_behind, is_answer_of, is_command_message, is_cut_of, is_down, is_reset_down}
use Rattle.node_laws.proofs.Words.{is_reset_due, is_some, is_turn_of, is_up, length, link_after_controller, link_to, list_any, map, near_end_in, new_world}
use Rattle.node_laws.proofs.Words.{node_at, node_entries, node_of, noted_by_deeds, noted_of_deeds, number_now, number_of, occurrences_in, option_and_then}
use Rattle.node_laws.proofs.Words.{option_map_or, put, put_all, refl, refusal_in, replicate, runs_on, same_number, sending, sent_in_session, session_now}
use Rattle.node_laws.proofs.Words.{session_of_port, site_at, steps, steps_at_controller, subst, suc, sym, taken_of, to_command, true, true≢false, turned}
use Rattle.node_laws.proofs.Words.{turns_at, unwrap_or, wires_for, with_ended, world_behind, world_step, zero, ℕ, ◌&&◌, ◌++◌, ◌==◌, ◌∙◌, ◌∷◌, ◌≡◌, ◌≤◌}
use Rattle.node_laws.proofs.creations.Events.{history_keeps}
use Rattle.node_laws.proofs.kept.Ticking.{first_none, off_none}
use Rattle.node_laws.proofs.links.Worlds.{IsFineSite}
use Rattle.node_laws.proofs.notices.Events.{begins_read, event_read}
use Rattle.node_laws.proofs.order.Upheld.{AreDone, done_back, history_done}
use Rattle.node_laws.proofs.order.Lines.{IsSo, history_so, host_number}
use Rattle.node_laws.proofs.order.Sessions.{are_read}
use Rattle.node_laws.proofs.passes.InSteps.{deeds_note_of_notes as deeds_note}
use Rattle.node_laws.proofs.passes.Replying.{noted_so}
use Rattle.node_laws.proofs.power.Steps.{IsMine, own_not, part_own}
use Rattle.node_laws.proofs.power.Events.{begins_part, sending_mine}
use Rattle.node_laws.proofs.readings.Noticed.{numbers}
use Rattle.node_laws.proofs.reply_passes.Ordered.{port_begins}
use Rattle.node_laws.proofs.telling.Lasting.{AllMay, AnyLine, AreCaused, EachHolds, all_lines, boots_may, damaged_may, events_of_steps, front_each}
use Rattle.node_laws.proofs.telling.Lasting.{lines_caused, lines_each, new_orderly, occurs, repeated_may}
use Rattle.node_laws.proofs.telling.Events.{Stands, site_host, site_is, stands}
use Rattle.node_laws.proofs.views.InitWorlds.{Keeps, MayKeep}
use Rattle.node_laws.proofs.views.Lines.{front_keeps, line_may_of_init_lines as line_may, new_keeps, taken_up}
use Rattle.node_laws.proofs.worlds.Resetting.{AgesAreRead, IsReadBefore, aged_read, far_is, near_is}
use Rattle.node_laws.proofs.worlds.Ticking.{AreDownless, IfNoNotices, NoNotices, far_node, far_number, frames_downless, host_begins}
use Rattle.node_laws.proofs.worlds.Events.{all_two}
use Rattle.node_laws.proofs.worlds.Late.{AreHostSites, IsHostSite, IsLate, NoAnswer, activates_late, answer_is, boots_late, coming_late, late_all, lost_late}
use Rattle.node_laws.proofs.worlds.Late.{others_answer, out_unanswered, ticks_late, unanswered_all}
use Rattle.trace_model.specs.declared.entry.Entry.TheVariants as entry
use Rattle.trace_model.specs.declared.line.Line.TheVariants as line

-- ## Over histories sessions end by resets exactly where those are due

-- ### Sites

pub of_hosts : (Q : ℕ → Type 0) (sites : List Site) → AllByRecursion Q (hosts_in sites) → AllByRecursion (λ (s : Site). Q s.host) sites
of_hosts Q [] a = tt
of_hosts Q (s ∷ sites) a = (a.0, of_hosts Q sites a.1)

-- so it is with each site where it is so with each that is found
pub all_found : (P : Site → Type 0) (sites : List Site) → AreDifferent (hosts_in sites) → ((h : ℕ) (s : Site) → site_at sites h ≡ Some s → P s)
    → AllByRecursion P sites
all_found P [] d f = tt
all_found P (s ∷ sites) d f = (f s.host s (rw (eq-eqb s.host s.host refl) refl), all_found P sites d.1 later) where
  later : (h : ℕ) (z : Site) → site_at sites h ≡ Some z → P z
  later h z found = by_test (eqb s.host h) (λ q. absurd (eqb-false h s.host other (sym (eqb-true s.host h q)))) (λ q. f h z (rw q found)) where
    other : eqb h s.host ≡ false
    other = subst (λ n. eqb n s.host ≡ false) (site_host sites h z found)
        (site_is (λ (x : Site). eqb x.host s.host ≡ false) sites h z (of_hosts (λ k. eqb k s.host ≡ false) sites d.0) found)

-- each host has its site
abbrev IsFound : List Site → ℕ → Type 0
IsFound sites h = (s : Site) × (site_at sites h ≡ Some s)

each_found : (sites : List Site) → AllByRecursion (IsFound sites) (hosts_in sites)
each_found [] = tt
each_found (s ∷ sites) = ((s, rw (eq-eqb s.host s.host refl) refl), more (hosts_in sites) (each_found sites)) where
  more : (hosts_of_histories : List ℕ) → AllByRecursion (IsFound sites) hosts_of_histories → AllByRecursion (IsFound (s ∷ sites)) hosts_of_histories
  more hosts_of_histories a = all_so (IsFound sites) (IsFound (s ∷ sites)) (λ h b. (by_test (eqb s.host h) (λ q. (s, rw q refl)) (λ q. (b.0, rw q b.1))))
      hosts_of_histories a

-- both ends of each link
all_ends : (P : End → Type 0) (hosts_of_histories : List ℕ) → AllByRecursion (λ h. P (end_c h) × P (end_h h)) hosts_of_histories
    → AllByRecursion P (ends_in hosts_of_histories)
all_ends P [] a = tt
all_ends P (h ∷ hosts_of_histories) a = (a.0.0, (a.0.1, all_ends P hosts_of_histories a.1))

-- ### Ages

-- a world whose notices are read, and are as old as is read
record IsAgedSo (past : List Occurrence) (w : NodeWorld) : Type 0 where
  notices : KeepsNotices (entries_in past) w
  ages : AgesAreRead past w.controller

aged_so : (past : List Occurrence) (w : NodeWorld) (c : Happening) → IsAgedSo past w → MayBoot w c → IsAgedSo (past ++ occurs w c ∷ []) (world_step w c).0
aged_so past w c a may =
    let es : List Entry = (world_step w c).1 in
    let same : entries_in (past ++ occurs w c ∷ []) ≡ entries_in past ++ es =
    flat_map-append (λ (o : Occurrence). o.entries) past (occurs w c ∷ []) ∙ ap (λ z. entries_in past ++ z) (append-nil es) in
    record {
      notices = subst (λ u. KeepsNotices u (world_step w c).0) (sym same) (event_read (entries_in past) w c a.notices may);
      ages = aged_read past w c a.notices a.ages;
    }

pub ages_read : (header : Header) (lines : List Line) (t : NodeHistory) → FollowsNodes header lines t → AreHosts header.hosts.items
    → (past back : List Occurrence) → occurrences_in t ≡ past ++ back → AgesAreRead past (world_behind (new_world header.hosts.items) past).controller
ages_read header lines t follows are past back parts =
    let hosts_of_histories : List ℕ = header.hosts.items in
    let P : List Occurrence → Type 0 = λ events. EachHolds IsAgedSo MayBoot AnyLine aged_so boots_may [] (new_world hosts_of_histories) events in
    (front_each IsAgedSo MayBoot AnyLine aged_so boots_may past back [] (new_world hosts_of_histories)
    (subst P (ap events_of_steps (sym follows.steps_are) ∙ parts) (lines_each IsAgedSo MayBoot AnyLine aged_so boots_may lines [] (new_world hosts_of_histories)
    (record { notices = begins_read hosts_of_histories are; ages = tt }) (all_lines lines)))).ages

module _ (header : Header) (lines : List Line) (t : NodeHistory) (follows : FollowsNodes header lines t) (are : AreHosts header.hosts.items)
    (playable : ArePlayable lines) (sent : AllByRecursion IsSentByHost lines) (sides : AllByRecursion IsBegunByHost lines)
    (few : IsFew (node_entries t)) where
  abbrev hosts_of_histories : List ℕ
  hosts_of_histories = header.hosts.items

  module _ (past back : List Occurrence) (parts : occurrences_in t ≡ past ++ back) where
    abbrev w : NodeWorld
    w = world_behind (new_world hosts_of_histories) past

    so : IsSo hosts_of_histories past w
    so = history_so header lines t follows are playable past back parts

    notices : KeepsNotices (entries_in past) w
    notices = (history_keeps header lines t follows are sent few past back parts).notices

    quiet : NoNotices w.sites
    quiet = all_found (λ (s : Site). IfNoNotices s.node) w.sites so.well.orderly.different one where
      one : (h : ℕ) (s : Site) → site_at w.sites h ≡ Some s → IfNoNotices s.node
      one h s found =
          let host : IsHost h = subst IsHost (site_host w.sites h s found) (site_is IsGoodSite w.sites h s notices.sites found).host in
          let i : Option Init = fold (init_behind h) None past in
          let keeps : Keeps h host w i =
          front_keeps h host past back (new_world hosts_of_histories) None (new_orderly hosts_of_histories are.different (numbers hosts_of_histories are.all))
          (new_keeps h host hosts_of_histories)
          (subst (AreCaused MayKeep (new_world hosts_of_histories)) (sym (ap events_of_steps follows.steps_are) ∙ parts)
          (lines_caused MayKeep IsBegunByHost line_may lines (new_world hosts_of_histories) sides)) in
          grind arith

    module _ (ages : AgesAreRead past w.controller) where
      pub read_before : IsReadBefore past w
      read_before = record {
        orderly = so.well.orderly;
        notices = notices;
        sessions = λ x s found. are_read x s.link (entries_in past) (host_number w x s so.well.orderly found) (so.each x s found).told;
        quiet = quiet;
        ages = ages;
      }

  -- Sessions end by resets exactly where those are due.
  pub resets_due : AtEachOccurrence t (AreReset t.header.hosts.items)
  resets_due past back o parts =
      subst (λ (h : Header). AreReset h.hosts.items past o) (sym follows.header_is)
      (all_ends (λ e. list_any (is_reset_down e) o.entries ≡ is_reset_due past o e) hosts_of_histories
      (subst (AllByRecursion (λ h. Due (end_c h) × Due (end_h h))) (so past (o ∷ back) parts).hosts_are
      (both (hosts_in v.sites) (each_found v.sites)))) where
        v : NodeWorld
        v = world_behind (new_world hosts_of_histories) past

        Due : End → Type 0
        Due e = list_any (is_reset_down e) o.entries ≡ is_reset_due past o e

        done : AreDone v (o ∷ back)
        done = done_back past (o ∷ back) (new_world hosts_of_histories)
            (subst (AreDone (new_world hosts_of_histories)) parts (history_done header lines t follows playable))

        before : IsReadBefore past v
        before = read_before past (o ∷ back) parts (ages_read header lines t follows are past (o ∷ back) parts)

        as_noted : (e : End) → list_any (is_reset_down e) (world_step v o.cause).1 ≡ is_reset_due past (record {
          cause = o.cause;
          entries =
              (world_step v o.cause).1;
        }) e
            → Due e
        as_noted e z =
            subst (λ es. list_any (is_reset_down e) es ≡ is_reset_due past (record { cause = o.cause; entries = es }) e) (sym done.0.0) z

        both : (hs : List ℕ) → AllByRecursion (IsFound v.sites) hs → AllByRecursion (λ h. Due (end_c h) × Due (end_h h)) hs
        both [] a = tt
        both (h ∷ hs) a = (
          (
            as_noted (end_c h) (near_is past v before h a.0.0 a.0.1 o.cause done.0.1.1),
            as_noted (end_h h) (far_is past v before h a.0.0 a.0.1 o.cause done.0.1.1),
          ),
          both hs a.1,
        )

-- ## Lines let the controller take no more frames than stand on its wire, and name ends of hosts of the world

-- the controller takes a frame only where one stands on its wire, while it runs; and a host whose end takes a frame, or is reset, is no
-- controller
abbrev pub MayStep : NodeWorld → Happening → Type 0
MayStep w (Takes e) = ((e.link == 0) ≡ false) × (e.at_host ≡ false → is_some w.controller ≡ true → frames_at w e ≡ [] → ⊥)
MayStep w (Resets e window) = (e.link == 0) ≡ false
MayStep w _ = Unit {0}

-- ### One frame less

puts_near : (l : Link) (cs : List Control) → (put_all l cs).to_controller ≡ l.to_controller
puts_near l [] = refl
puts_near l (c ∷ cs) = puts_near (put l c) cs ∙ (grind arith)

pub ended_near : (l : Link) (b : Bool) → (with_ended l b).to_controller ≡ l.to_controller
ended_near l b = grind arith

taken_near : (l : Link) (x : OnWire) (xs : List OnWire) (ts : List Turn) → (has_taken l x xs ts GoesOut).to_controller ≡ xs
taken_near l x xs ts =
    let b : Bool = is_some (ended_by l.controller.side (Take x.frame)) in
    puts_near _ (frames_out (turned (after_input l.controller.side (Take x.frame)) ts)) ∙ ended_near (record l { to_controller = xs }) b

pub step_near : (l : Link) (ts : List Turn) (n : ℕ) → suc n ≤ length l.to_controller → n ≤ length (steps_at_controller l NextFrame ts GoesOut).to_controller
step_near l ts n many = go l.to_controller many where
  by : List OnWire → Link
  by [] = l
  by (x ∷ xs) = has_taken l x xs ts GoesOut

  go : (xs : List OnWire) → suc n ≤ length xs → n ≤ length (by xs).to_controller
  go [] most = let low = many in omega (arith, low)
  go (x ∷ xs) most = let same = ap (λ (w : List OnWire). length w) (taken_near l x xs ts) in omega (arith, most, same)

-- so it is with the link at which the controller takes one
sites_near : (h : ℕ) (k : Work) (sites : List Site) (n : ℕ) → ending_of k ≡ GoesOut → suc n ≤ length (link_to sites h).to_controller
    → n ≤ length (link_to (map (link_after_controller h NextFrame k) sites) h).to_controller
sites_near h k [] n out many = omega (arith, many)
sites_near h k (s ∷ sites) n out many = by_test (eqb s.host h)
    (λ q. let now : link_to (map moved (s ∷ sites)) h ≡ steps_at_controller s.link NextFrame (turns_at k s.host) GoesOut =
    ap (λ b. option_map_or (λ (x : Site). x.link) (cond b (Some (moved s)) (site_at (map moved sites) h)) (link_to [] h)) q
    ∙ (grind arith) in
    omega (arith, step_near s.link (turns_at k s.host) n (rw q at many), ap (λ (l : Link). length l.to_controller) now))
    (λ q. let now : link_to (map moved (s ∷ sites)) h ≡ link_to (map moved sites) h =
    ap (λ b. option_map_or (λ (x : Site). x.link) (cond b (Some (moved s)) (site_at (map moved sites) h)) (link_to [] h)) q in
    omega (arith, sites_near h k sites n out (rw q at many), ap (λ (l : Link). length l.to_controller) now)) where
      moved : Site → Site
      moved = link_after_controller h NextFrame k

-- so many frames stand on the wire to the controller, while it runs
abbrev Stand : NodeWorld → ℕ → ℕ → Type 0
Stand w h n = is_some w.controller ≡ true → n ≤ length (link_to w.sites h).to_controller

fewer : (w : NodeWorld) (h n : ℕ) → Stand w h (suc n) → Stand w h n
fewer w h n many on = let some = many on in omega (arith, some)

near_stand : (w : NodeWorld) (h : ℕ) (i : LinkInput) (n : ℕ) → Stand w h (suc n) → Stand (controller_does w h NextFrame (steps (AtEnd h i))).0 h n
near_stand w h i n many =
    by_controller (λ p. Stand p.0 h n) w h NextFrame (steps (AtEnd h i)) (fewer w h n many) (λ r q.
    let k : Work = controller_work w r h NextFrame (steps (AtEnd h i)) in
    by_cut k (many (ap is_some q)) k.cut refl) where
      by_cut : (k : Work) → suc n ≤ length (link_to w.sites h).to_controller → (b : Bool) → k.cut ≡ b
          → is_some (runs_on k) ≡ true → n ≤ length (link_to (map (link_after_controller h NextFrame k) w.sites) h).to_controller
      by_cut k some true off on =
          let none : runs_on k ≡ None = rw off refl in
          absurd (true≢false (sym on ∙ ap is_some none))
      by_cut k some false still on = let out : ending_of k ≡ GoesOut = rw still refl in sites_near h k w.sites n out some

take_stands : (w : NodeWorld) (e : End) (n : ℕ) → e.at_host ≡ false → Stand w e.link (suc n) → Stand (world_step w (Takes e)).0 e.link n
take_stands w e n near many =
    by_coming (λ p. Stand p.0 e.link n) w e NextFrame (fewer w e.link n many) (λ i z seen. absurd (true≢false (sym z ∙ near)))
    (λ i z seen. near_stand w e.link i n many)

frames_near : (w : NodeWorld) (e : End) → e.at_host ≡ false → frames_at w e ≡ (link_to w.sites e.link).to_controller
frames_near w e near = rw near refl

takes_may : (n : ℕ) (w : NodeWorld) (e : End) → (e.link == 0) ≡ false → e.at_host ≡ false → Stand w e.link n → AllMay MayStep w (replicate n (Takes e))
takes_may zero w e off near many = tt
takes_may (suc n) w e off near many = (
  (grind arith),
  takes_may n (world_step w (Takes e)).0 e off near (take_stands w e n near many),
)

-- ### Lines

pub off_zero : (header : Header) → IsNodeHeader header → (h : ℕ) → Contains header.hosts.items h → (h == 0) ≡ false
off_zero header nodes h a = grind arith

pub taken_most : (count : Option ℕ) (wire : List OnWire) → taken_of count wire ≤ length wire
taken_most count wire = grind arith

module _ (header : Header) (nodes : IsNodeHeader header) where
  pub line_steps : (w : NodeWorld) (l : Line) → IsNodeLineOf header l → refusal_in w l ≡ None → AllMay MayStep w (happenings w l)
  line_steps w (line.Deliver e count) is none = by_test e.at_host
      (λ far. repeated_may MayStep (Takes e) (λ v. (off, λ near. absurd (true≢false (sym far ∙ near)))) (taken_of count (frames_at w e)) w)
      (λ near. takes_may (taken_of count (frames_at w e)) w e off near
      (λ on. let same = ap (λ (xs : List OnWire). length xs) (frames_near w e near) in omega (arith, taken_most count (frames_at w e), same))) where
        off : (e.link == 0) ≡ false
        off = off_zero header nodes e.link is.0
  line_steps w (line.Damage e places) is none = grind arith
  line_steps w (line.Tick times) is none = repeated_may MayStep Ticks (λ v. tt) (unwrap_or times 1) w
  line_steps w (line.Reset e window) is none = (off_zero header nodes e.link is.0, tt)
  line_steps w (line.Busy e) is none = tt
  line_steps w (line.Ready e) is none = tt
  line_steps w (line.Tables n) is none = tt
  line_steps w (line.Settle rounds) is none = tt
  line_steps w _ is none = (tt, tt)

-- ## Before its first turn in an event a host answers exactly what is due: the message of a line, or the first command of an init

-- what each host answers before its first turn in an event is exactly what is due
abbrev pub AreDueAtHosts : List ℕ → List Occurrence → Occurrence → Type 0
AreDueAtHosts hosts past o = AllByRecursion (IsDueAt hosts past o) hosts

-- ### Answers

neither : (b : Bool) (es : List Entry) → cond b es es ≡ es
neither b es = grind arith

late_due : (n : ℕ) (es : List Entry) → IsLate n es → AnswersSo n es []
late_due n es late = late ∙ sym (neither (list_any (is_cut_of n) (before_turn n es)) [])

-- one message that is sent is the only answer
one_due : (n : ℕ) (x : Entry) (frames : List Entry) → is_answer_of n x ≡ true → is_turn_of n x ≡ false
    → to_command (x ∷ []) ≡ x ∷ [] → AllByRecursion (NoAnswer n) frames → AnswersSo n (x ∷ frames) (x ∷ [])
one_due n x frames answers turn command none =
    answer_is n x frames turn answers
    ∙ (ap (λ es. x ∷ es) (late_all n frames none)
    ∙ sym (grind arith))

none_down : (es : List Entry) → AreDownless es → filter is_down es ≡ []
none_down [] a = refl
none_down (x ∷ es) a = ap (λ b. cond b (x ∷ filter is_down es) (filter is_down es)) a.0 ∙ none_down es a.1

-- ### What begins at a host

up_now : (h : NumberedEnd) → h.side.shdlc.phase ≡ Up → number_now h ≡ Some (number_of h)
up_now h up = rw up refl

-- the host does this, which sends one message
module _ (t : List Entry) (s : Site) (r : Running) (has : HasEnds s.host (s.host ∷ []) r) (off : (s.host == 0) ≡ false) (m : Message)
    (taken : give_refusal s.link.host.side m ≡ None) (session : session_now t (end_h s.host) s.host ≡ number_now s.link.host) where
  abbrev from : Work
  from = host_begins s r NoInput

  abbrev near_ends : ℕ → NumberedEnd
  near_ends k = near_end_in (exchanged s.link) NoInput

  abbrev K : ℕ
  K = number_of s.link.host

  abbrev X : Entry
  X = entry.Sent (end_of_number s.host s.host) K m.0 m.1

  up : s.link.host.side.shdlc.phase ≡ Up
  up = taken_up false s.link.host.side m (ap (if_waiting false) taken)

  takes : TakesMessage from.ports s.host m
  takes p here z = ap (λ (e : LinkEnd). give_refusal e m) (port_begins near_ends r.desks s.host p here).1 ∙ taken

  at : Stands near_ends r.desks s.host
  at = stands near_ends r.desks (s ∷ []) s.host s has.ends (rw (same_number s.host) refl)

  in_session : session_of_port from.ports s.host ≡ Some K
  in_session =
      ap (λ (o : Option Port). option_and_then (λ (p : Port). cond (is_up p.side.shdlc.phase) (Some p.session) None) o) at.here
      ∙ ap (λ (x : LinkState). cond (is_up x) (Some K) None) up

  is_read : session_now t (end_of_number s.host s.host) s.host ≡ Some K
  is_read = (rw off session) ∙ up_now s.link.host up

  module _ (D : List Deed) (are : AreTaken s.host D from) (counts : CountsCommands r.core.journal r.core.tables D)
      (on : (all_done s.host D from).cut ≡ false)
      (reply : (node : ℕ) (sessions : ℕ → Option ℕ) (count : ℕ) → entries_of_reply node sessions s.host count D ≡ sent_in_session node sessions s.host m ++ [])
    where
      noted : (all_done s.host D from).entries ≡ X ∷ []
      noted =
          deeds_note s.host D from
          ∙ (subst (λ b. IsReplyNoted b r.core.node (noted_by_deeds s.host D from) (entries_of_reply r.core.node (session_of_port from.ports) s.host
          (count_of r.core.journal) D)) on (noted_so (session_of_port from.ports) s.host D from refl (λ k. refl) are counts)
          ∙ (reply r.core.node (session_of_port from.ports) (count_of r.core.journal)
          ∙ (ap (λ o. option_map_or (λ n. entry.Sent (end_of_number r.core.node s.host) n m.0 m.1 ∷ []) o [] ++ []) in_session
          ∙ ap (λ k. entry.Sent (end_of_number k s.host) K m.0 m.1 ∷ []) has.number)))

      wanted : noted_of_deeds t s.host s.host D ≡ X ∷ []
      wanted = grind arith

      begun_due : (frames : List Entry) → AllByRecursion (NoAnswer s.host) frames → AreDownless frames
          → AnswersSo s.host ((all_done s.host D from).entries ++ frames)
          (noted_of_deeds (t ++ filter is_down ((all_done s.host D from).entries ++ frames)) s.host s.host D)
      begun_due frames none downless =
          subst (λ es. AnswersSo s.host (es ++ frames) (noted_of_deeds (t ++ filter is_down (es ++ frames)) s.host s.host D)) (sym noted)
          (subst (λ ds. AnswersSo s.host (X ∷ frames) (noted_of_deeds (t ++ ds) s.host s.host D)) (sym (none_down (X ∷ frames) (refl, downless)))
          (subst (λ u. AnswersSo s.host (X ∷ frames) (noted_of_deeds u s.host s.host D)) (sym (append-nil t))
          (subst (AnswersSo s.host (X ∷ frames)) (sym wanted)
          (one_due s.host X frames (rw off (same_number s.host)) refl refl none))))

-- ### Lines

-- what begins there may begin: the host runs, and its end takes the message
record MayStartAt (w : NodeWorld) (e : End) (m : Message) : Type 0 where
  side : IsTrue e.at_host
  node : Running
  runs : node_at w e.link ≡ Some node
  taken : give_refusal (link_to w.sites e.link).host.side m ≡ None

abbrev MayStart : NodeWorld → Happening → Type 0
MayStart w (Gives e m) = MayStartAt w e m
MayStart w (Inits e identity pipes) = MayStartAt w e (1, 3 ∷ [])
MayStart w _ = Unit {0}

abbrev IsPlain : Line → Type 0
IsPlain l = IsSentByHost l × IsBegunByHost l

start_at : (w : NodeWorld) (e : End) (m : Message) → IsTrue e.at_host → (if_off w (node_of e) ≡ None) × (if_not_sent w e m ≡ None)
    → first_cause (if_off w (node_of e)) (if_not_sent w e m) ≡ None → MayStartAt w e m
start_at w e m side parts none =
    let runs = off_none (node_at w (node_of e)) parts.0 in (grind arith) where
      link : node_of e ≡ e.link
      link = rw side refl

line_starts : (w : NodeWorld) (l : Line) → IsPlain l → refusal_in w l ≡ None → AllMay MayStart w (happenings w l)
line_starts w (line.Send e pid message) plain none =
    (start_at w e (pid, message) plain.0 (first_none (if_off w (node_of e)) (if_not_sent w e (pid, message)) none) none, tt)
line_starts w (line.Deliver e count) plain none = repeated_may MayStart (Takes e) (λ v. tt) (taken_of count (frames_at w e)) w
line_starts w (line.Damage e places) plain none = damaged_may MayStart w e tt (λ why. tt) (first_verdict (frames_at w e) places.items)
line_starts w (line.Tick times) plain none = repeated_may MayStart Ticks (λ v. tt) (unwrap_or times 1) w
line_starts w (line.Busy e) plain none = tt
line_starts w (line.Ready e) plain none = tt
line_starts w (line.Init e identity pipes) plain none =
    (start_at w e (1, 3 ∷ []) plain.1 (first_none (if_off w (node_of e)) (if_not_sent w e (1, 3 ∷ [])) none) none, tt)
line_starts w (line.Tables n) plain none = tt
line_starts w (line.Settle rounds) plain none = tt
line_starts w _ plain none = (tt, tt)

both_plain : (lines : List Line) → AllByRecursion IsSentByHost lines → AllByRecursion IsBegunByHost lines → AllByRecursion IsPlain lines
both_plain [] sent begun = tt
both_plain (l ∷ lines) sent begun = ((sent.0, begun.0), both_plain lines sent.1 begun.1)

-- ### Events

site_of : (w : NodeWorld) (k : ℕ) (r : Running) → (k == 0) ≡ false → node_at w k ≡ Some r
    → (s : Site) × (site_at w.sites k ≡ Some s) × (s.node ≡ Some r)
site_of w k r off runs = grind arith

begins_noted : (w : NodeWorld) (k : ℕ) (s : Site) (r : Running) (deeds : List Deed) → site_at w.sites k ≡ Some s → s.node ≡ Some r
    → (host_does w k NoInput (begins_with k deeds)).1
    ≡ (host_work s r NoInput (begins_with k deeds)).entries
    ++ frames_noted Host k (wires_for (exchanged s.link) NoInput) (host_work s r NoInput (begins_with k deeds))
begins_noted w k s r deeds found runs = rw (found, runs) refl

module _ (t : List Entry) (w : NodeWorld) (a : IsOrderly w) (sites : AreHostSites w.sites)
    (sessions : (x : ℕ) (s : Site) → site_at w.sites x ≡ Some s → AreSessionsRead t x s.link) (n : ℕ) (off : (n == 0) ≡ false) where
  abbrev IsDue : List Entry → List Deed → Type 0
  IsDue es D = AnswersSo n es (noted_of_deeds (t ++ filter is_down es) n n D)

  abbrev Begins : (ℕ → List Deed) → ℕ → List Entry
  Begins D k = (host_does w k NoInput (begins_with k (D k))).1

  -- this host begins so
  own_due : (e : End) (m : Message) → MayStartAt w e m → (e.link == n) ≡ true → (D : ℕ → List Deed)
      → ((s : Site) (r : Running) → TakesMessage (host_begins s r NoInput).ports s.host m → AreTaken s.host (D s.host) (host_begins s r NoInput))
      → ((s : Site) (r : Running) → CountsCommands r.core.journal r.core.tables (D s.host))
      → ((s : Site) (r : Running) → (all_done s.host (D s.host) (host_begins s r NoInput)).cut ≡ false)
      → ((h node : ℕ) (named : ℕ → Option ℕ) (count : ℕ) → entries_of_reply node named h count (D h) ≡ sent_in_session node named h m ++ [])
      → IsDue (Begins D e.link) (D n)
  own_due e m may here D taken counts on reply =
      let link : e.link ≡ n = eqb-true e.link n here in
      let found = site_of w e.link may.node (ap (λ k. k == 0) link ∙ off) may.runs in
      let s : Site = found.0 in
      let r : Running = may.node in
      let is : s.host ≡ e.link = site_host w.sites e.link s found.1 in
      let takes : give_refusal s.link.host.side m ≡ None = grind arith in
      let R : ℕ → Type 0 = λ k. session_now t (end_h k) k ≡ number_now s.link.host in
      let read : R s.host = subst R (sym is) (sessions e.link s found.1).host in
      let v : ℕ → Work = λ k. host_work s r NoInput (begins_with k (D k)) in
      let frames : ℕ → List Entry = λ k. frames_noted Host k (wires_for (exchanged s.link) NoInput) (v k) in
      let G : ℕ → Type 0 = λ k. AnswersSo k ((v k).entries ++ frames k) (noted_of_deeds (t ++ filter is_down ((v k).entries ++ frames k)) k k (D k)) in
      let own : G s.host =
      begun_due t s r (far_node w e.link s r a found.1 found.2) (far_number w e.link s a found.1) m takes read (D s.host)
      (taken s r (takes_message s r takes)) (counts s r) (on s r) (reply s.host)
      (frames s.host) (unanswered_all s.host (frames s.host) (out_unanswered Host s.host (wires_for (exchanged s.link) NoInput) (v s.host)))
      (frames_downless Host s.host (wires_for (exchanged s.link) NoInput) (v s.host)) in
      let noted : Begins D e.link ≡ (v e.link).entries ++ frames e.link = begins_noted w e.link s r (D e.link) found.1 found.2 in
      let there : G e.link = subst G is own in
      subst (λ k. AnswersSo k (Begins D e.link) (noted_of_deeds (t ++ filter is_down (Begins D e.link)) k k (D k))) link (grind arith)
    where
      takes_message : (s : Site) (r : Running) → give_refusal s.link.host.side m ≡ None → TakesMessage (host_begins s r NoInput).ports s.host m
      takes_message s r free p there z =
          ap (λ (x : LinkEnd). give_refusal x m) (port_begins (λ k. near_end_in (exchanged s.link) NoInput) r.desks s.host p there).1 ∙ free

  -- another host does
  other_due : (e : End) → (e.link == n) ≡ false → (D : List Deed) → AllByRecursion (IsMine e.link e.link) D
      → IsDue (host_does w e.link NoInput (begins_with e.link D)).1 []
  other_due e other D mine =
      let es : List Entry = (host_does w e.link NoInput (begins_with e.link D)).1 in
      late_due n es (late_all n es (others_answer n es (own_not e.link n es other (part_own e.link es (begins_part w e.link D mine a)))))

  gives_due : (e : End) (m : Message) → MayStartAt w e m → IsDue (world_step w (Gives e m)).1 (begun_at n (Gives e m))
  gives_due e m may = go (node_of e == n) refl where
    Goal : Bool → Type 0
    Goal b = IsDue (Begins (λ k. sending k m) e.link) (cond b (sending n m) [])

    same : (node_of e == n) ≡ (e.link == n)
    same = ap (λ k. k == n) (rw may.side refl)

    go : (b : Bool) → (node_of e == n) ≡ b → IsDue (world_step w (Gives e m)).1 (begun_at n (Gives e m))
    go false q = subst Goal (sym q) (other_due e (sym same ∙ q) (sending e.link m) (sending_mine e.link m))
    go true q = subst Goal (sym q) (by_kind (eqb m.0 1 && is_command_message m.1) refl) where
      pick : Bool → ℕ → List Deed
      pick b k = cond b (Orders m.1 ∷ []) (Sends k m ∷ [])

      by_kind : (b : Bool) → (eqb m.0 1 && is_command_message m.1) ≡ b → IsDue (Begins (λ k. sending k m) e.link) (sending n m)
      by_kind false z =
          subst (λ b. IsDue (Begins (pick b) e.link) (pick b n)) (sym z)
          (own_due e m may (sym same ∙ q) (λ k. Sends k m ∷ []) (λ s r taken. (taken, tt)) (λ s r. tt) (λ s r. refl) (λ h node named count. refl))
      by_kind true z =
          let one : eqb m.0 1 ≡ true = (and_parts (eqb m.0 1) (is_command_message m.1) z).0 in
          let M : ℕ → Type 0 = λ k. MayStartAt w e (k, m.1) in
          subst (λ b. IsDue (Begins (pick b) e.link) (pick b n)) (sym z)
          (own_due e (1, m.1) (subst M (eqb-true m.0 1 one) may) (sym same ∙ q) (λ k. Orders m.1 ∷ []) (λ s r taken. (taken, tt)) (λ s r. tt) (λ s r. refl)
          (λ h node named count. refl))

  inits_due : (e : End) (identity : List ℕ) (pipes : List (List ℕ)) → MayStartAt w e (1, 3 ∷ [])
      → IsDue (world_step w (Inits e identity pipes)).1 (begun_at n (Inits e identity pipes))
  inits_due e identity pipes may = by_test (node_of e == n)
      (λ q. subst Goal (sym q)
      (own_due e (1, 3 ∷ []) may (sym (grind arith) ∙ q) (λ k. beginning identity pipes) (λ s r taken. (tt, (taken, tt))) (λ s r. tt) (λ s r. refl)
      (λ h node named count. refl)))
      (λ q. subst Goal (sym q) (other_due e (sym (grind arith) ∙ q) (beginning identity pipes) (tt, (tt, tt)))) where
        Goal : Bool → Type 0
        Goal b = IsDue (Begins (λ k. beginning identity pipes) e.link) (cond b (beginning identity pipes) [])

  event_due : (c : Happening) → MayStart w c → IsDue (world_step w c).1 (begun_at n c)
  event_due (Boots k) may = late_due n (world_step w (Boots k)).1 (boots_late n off w k)
  event_due (IsCut k) may = late_due n (world_step w (IsCut k)).1 (late_all n (world_step w (IsCut k)).1 (refl, tt))
  event_due (Gives e m) may = gives_due e m may
  event_due (Inits e identity pipes) may = inits_due e identity pipes may
  event_due (Takes e) may = late_due n (world_step w (Takes e)).1 (coming_late n off w e NextFrame a sites)
  event_due (Loses e why) may = late_due n (world_step w (Loses e why)).1 (lost_late n off w e why)
  event_due Ticks may = late_due n (world_step w Ticks).1 (ticks_late n off w a sites)
  event_due (Resets e window) may = late_due n (world_step w (Resets e window)).1 (coming_late n off w e (AsksReset window) a sites)
  event_due (Activates h sync power) may = late_due n (world_step w (Activates h sync power)).1 (activates_late n off w h sync power a sites)
  event_due (Arms k plan) may = late_due n (world_step w (Arms k plan)).1 refl

-- ### Histories

each_starts : (past back : List Occurrence) (o : Occurrence) (w : NodeWorld) → AreCaused MayStart w (past ++ (o ∷ back))
    → (o.entries ≡ (world_step (world_behind w past) o.cause).1) × MayStart (world_behind w past) o.cause
each_starts [] back o w caused = (caused.0, caused.1)
each_starts (x ∷ past) back o w caused = each_starts past back o (world_step w x.cause).0 caused.2

module _ (header : Header) (lines : List Line) (t : NodeHistory) (follows : FollowsNodes header lines t) (are : AreHosts header.hosts.items)
    (playable : ArePlayable lines) (sent : AllByRecursion IsSentByHost lines) (sides : AllByRecursion IsBegunByHost lines)
    (few : IsFew (node_entries t)) where
  abbrev hosts : List ℕ
  hosts = header.hosts.items

  one_due_in : (past back : List Occurrence) (o : Occurrence) → occurrences_in t ≡ past ++ (o ∷ back) → (n : ℕ) → (n == 0) ≡ false → IsDueAt hosts past o n
  one_due_in past back o parts n off =
      subst (λ es. AnswersSo n es (noted_of_deeds (entries_in past ++ filter is_down es) n n (due hosts past (record { cause = o.cause; entries = es }) n)))
      (sym starts.0)
      (subst (AnswersSo n es) (ap (noted_of_deeds (entries_in past ++ filter is_down es) n n) (sym due_is))
      (event_due (entries_in past) w so.well.orderly there read n off o.cause starts.1)) where
        w : NodeWorld
        w = world_behind (new_world hosts) past

        es : List Entry
        es = (world_step w o.cause).1

        due_is : due hosts past (record { cause = o.cause; entries = es }) n ≡ begun_at n o.cause
        due_is = rw off (append-nil (begun_at n o.cause))

        so : IsSo hosts past w
        so = history_so header lines t follows are playable past (o ∷ back) parts

        there : AreHostSites w.sites
        there =
            all_two IsFineSite (λ (s : Site). IfNoNotices s.node) IsHostSite (λ s fine none. (fine.link.line.uicc, none)) w.sites so.well.fine.sites
            (quiet header lines t follows are playable sent sides few past (o ∷ back) parts)

        read : (x : ℕ) (s : Site) → site_at w.sites x ≡ Some s → AreSessionsRead (entries_in past) x s.link
        read x s found = are_read x s.link (entries_in past) (host_number w x s so.well.orderly found) (so.each x s found).told

        caused : AreCaused MayStart (new_world hosts) (past ++ (o ∷ back))
        caused =
            subst (AreCaused MayStart (new_world hosts)) (sym (ap events_of_steps follows.steps_are) ∙ parts)
            (lines_caused MayStart IsPlain line_starts lines (new_world hosts) (both_plain lines sent sides))

        starts : (o.entries ≡ es) × MayStart w o.cause
        starts = each_starts past back o (new_world hosts) caused

  pub hosts_due : AtEachOccurrence t (AreDueAtHosts t.header.hosts.items)
  hosts_due past back o parts =
      subst (λ (h : Header). AreDueAtHosts h.hosts.items past o) (sym follows.header_is)
      (each hosts (numbers hosts are.all)) where
        each : (hs : List ℕ) → AllByRecursion (λ h. (h == 0) ≡ false) hs → AllByRecursion (IsDueAt hosts past o) hs
        each hs a = all_so (λ h. (h == 0) ≡ false) (IsDueAt hosts past o) (one_due_in past back o parts) hs a
