-- What comes to a node is noted before what it answers, and a host answers nothing before its first turn but what it begins.
use Rattle.node_laws.proofs.Words.{AllByRecursion, AreDifferent, AreNotOf, ArePassed, AsksReset, AtEnd, BeginWithTurn, Bool, Comes, ComesTo, Controller, Core}
use Rattle.node_laws.proofs.Words.{Cut, Deed, Desk, Down, Emit, End, Entry, FollowsNodes, GoesOut, Header, Host, IsOrderly, IsTurnSo, IsUicc, Line, Link}
use Rattle.node_laws.proofs.Words.{LinkEnd, LinkInput, List, Loss, Lost, NodeHistory, NodeInput, NodeWorld, NodesHearFirst, None, Noted, NumberedEnd, OnWire}
use Rattle.node_laws.proofs.Words.{Port, Report, Response, Restarted, Sent, Site, Starts, Step, TimePasses, Took, Work, [], aged, aged_entries, all_aged}
use Rattle.node_laws.proofs.Words.{all_append, all_come, all_done, all_owed, all_so, answerer, ap, append-nil, append_assoc, arith, arrival, asked_at}
use Rattle.node_laws.proofs.Words.{before_turn, boots, by_boot, by_coming, by_controller, by_controller_tick, by_host, by_host_tick, by_option, by_test}
use Rattle.node_laws.proofs.Words.{comes_at, comes_to, comes_to_pass, cond, controller_does, controller_ticks, controller_work, end_c, end_h, ending_entries}
use Rattle.node_laws.proofs.Words.{ending_of, entries_for, eqb-true, exchanged, false, filter, first_lost, flat_map, forgets, frame_lost, frames_noted}
use Rattle.node_laws.proofs.Words.{has_come, has_come_so, has_freed, has_synced, hears, host_does, host_tick, host_ticks, host_work, hosts_in, hosts_of_ends}
use Rattle.node_laws.proofs.Words.{hosts_tick, input_at, is_answer_of, is_late_at, is_of_node, is_turn_of, is_waiting, link_after_controller, map, near_end_in}
use Rattle.node_laws.proofs.Words.{near_tick, not, noted_before_pass, noted_by_deeds, option_map_or, owed, owed_in_step, passes, port_at, refl, reset_late}
use Rattle.node_laws.proofs.Words.{same_number, site_ticked, site_unticked, steps, subst, sym, synced, ticks_host, told, told_of_coming, true, true≢false}
use Rattle.node_laws.proofs.Words.{turns_at, wires_for, with_older, work_of, world_ticks, ℕ, ◌&&◌, ◌++◌, ◌==◌, ◌∙◌, ◌∷◌, ◌≡◌}
use Rattle.link_laws.specs.entries.Entries.{End as Side}
use Rattle.link_laws.specs.entries.Entries.Entry.{Tick}
use Rattle.node_laws.specs.passes.Passing.ComesTo.{Begins}
use Rattle.node_laws.proofs.links.Sites.{here_host}
use Rattle.node_laws.proofs.passes.InSteps.{IsBehind, IsOfStep, NotesOnly, before_entries, beginning_notes, coming_all, deeds_note, of_deeds, sending_notes}
use Rattle.node_laws.proofs.passes.InSteps.{step_notes, steps_are}
use Rattle.node_laws.proofs.passes.Passing.{comes_lasts, through}
use Rattle.node_laws.proofs.power.Events.{AreNodes, controller_part, far_tick, host_part, near_ticks_part, others_tick, ticked_nodes}
use Rattle.node_laws.proofs.power.Steps.{AreOwn, IsPart, own_not, part_own, steps_fine}
use Rattle.node_laws.proofs.readings.Turning.{IsQuiet, rest_quiet, told_rest}
use Rattle.node_laws.proofs.readings.Sites.{near_end_side}
use Rattle.node_laws.proofs.telling.Events.{comes_goes, ports_for, site_is}
use Rattle.node_laws.proofs.telling.Ticks.{ending_all, lost_all, wires_all}
use Rattle.node_laws.proofs.telling.Lasting.{history_event}
use Rattle.node_laws.proofs.telling.WorldTicks.{aged_orderly, ticked_orderly}
use Rattle.node_laws.proofs.worlds.Events.{same_sym}
use Rattle.node_laws.proofs.worlds.FramesLast.{AreHalves, PartsHave, aged_calm, behind_first, event_has, halves_before, halves_behind, halves_so}
use Rattle.node_laws.proofs.worlds.Ticking.{IfNoNotices, host_begins}
use Rattle.gate_answers.specs.declared.response.Response.TheVariants as response
use Rattle.trace_model.specs.declared.entry.Entry.TheVariants as entry

-- ## In a step of a node what comes to it is noted before what it answers

-- an entry tells of something that comes to an end
abbrev pub comes_there : Entry → Bool
comes_there (entry.Up e k) = true
comes_there (entry.Down e cause) = true
comes_there (entry.Acked e k count) = true
comes_there (entry.Got e k pid message) = true
comes_there _ = false

abbrev pub IsUnheard : Entry → Type 0
IsUnheard x = comes_there x ≡ false

abbrev pub AreUnheard : List Entry → Type 0
AreUnheard es = AllByRecursion IsUnheard es

of_step : (x : Entry) → IsOfStep x → IsUnheard x
of_step x a = grind arith

-- it is no answer
abbrev pub IsUnanswered : Entry → Type 0
IsUnanswered x = answerer x ≡ None

abbrev pub AreUnanswered : List Entry → Type 0
AreUnanswered es = AllByRecursion IsUnanswered es

abbrev NotesUnheard : Deed → Type 0
NotesUnheard d = NotesOnly IsUnheard d

-- ### Links

-- a frame that comes, goes out or is lost
abbrev pub IsFrame : Noted → Type 0
IsFrame (Emit who frame) = Unit {0}
IsFrame (Took who frame) = Unit {0}
IsFrame (Lost who frame why) = Unit {0}
IsFrame (Cut who) = Unit {0}
IsFrame _ = ⊥

frames_unheard : (h : ℕ) (notes : List Noted) → AllByRecursion IsFrame notes → AreUnheard (entries_for h notes) × AreUnanswered (entries_for h notes)
frames_unheard h [] all = (tt, tt)
frames_unheard h (Emit who frame ∷ notes) all = let later = frames_unheard h notes all.1 in ((refl, later.0), (refl, later.1))
frames_unheard h (Took who frame ∷ notes) all = let later = frames_unheard h notes all.1 in ((refl, later.0), (refl, later.1))
frames_unheard h (Lost who frame why ∷ notes) all = let later = frames_unheard h notes all.1 in ((refl, later.0), (refl, later.1))
frames_unheard h (Cut who ∷ notes) all = frames_unheard h notes all.1
frames_unheard h (_ ∷ notes) all = absurd all.0

out_frames : (who : Side) (h : ℕ) (l : Link) (k : Work) → AreUnheard (frames_noted who h l k) × AreUnanswered (frames_noted who h l k)
out_frames who h l k = by_option (port_at k.ports h)
    (λ q. rw q (tt, tt))
    (λ p q. rw q (frames_unheard h (ending_entries who l p.side (ending_of k))
    (ending_all IsFrame (λ w c. tt) (λ w c. tt) (λ w. tt) who l p.side (ending_of k))))

out_unheard : (who : Side) (h : ℕ) (l : Link) (k : Work) → AreUnheard (frames_noted who h l k)
out_unheard who h l k = (out_frames who h l k).0

pub out_unanswered : (who : Side) (h : ℕ) (l : Link) (k : Work) → AreUnanswered (frames_noted who h l k)
out_unanswered who h l k = (out_frames who h l k).1

pub arrival_unanswered : (who : Side) (h : ℕ) (l : Link) (comes : Comes) → AreUnanswered (entries_for h (arrival who l comes))
arrival_unanswered who h l comes = grind arith

pub lost_unanswered : (h : ℕ) (who : Side) (why : Loss) (xs : List OnWire) → AreUnanswered (entries_for h (first_lost who why xs))
lost_unanswered h who why xs = (frames_unheard h (first_lost who why xs) (lost_all IsFrame (λ w c why. tt) who why xs)).1

-- ### What comes

quiet_unanswered : (h : ℕ) (notes : List Noted) → AllByRecursion IsQuiet notes → AreUnanswered (entries_for h notes)
quiet_unanswered h [] all = tt
quiet_unanswered h (Down who cause ∷ notes) all = absurd all.0
quiet_unanswered h (Sent who n m ∷ notes) all = absurd all.0
quiet_unanswered h (Tick ∷ notes) all = quiet_unanswered h notes all.1
quiet_unanswered h (Restarted who ∷ notes) all = quiet_unanswered h notes all.1
quiet_unanswered h (Cut who ∷ notes) all = quiet_unanswered h notes all.1
quiet_unanswered h (_ ∷ notes) all = (refl, quiet_unanswered h notes all.1)

told_unanswered : (h : ℕ) (who : Side) (n acked : ℕ) (r : Report) → AreUnanswered (entries_for h (told who n r acked))
told_unanswered h who n acked r = by_option r.ended
    (λ q. rw q (quiet_unanswered h rest (rest_quiet who n acked r)))
    (λ cause q. rw q (refl, quiet_unanswered h rest (rest_quiet who n acked r))) where
      rest : List Noted
      rest = told_rest who n acked r

pub coming_unanswered : (input : NodeInput) (w : Work) → AreUnanswered (told_of_coming input w)
coming_unanswered = coming_all IsUnanswered told_unanswered

-- ### A step

-- first nothing is answered, and then nothing comes
abbrev pub IsParted : List Entry → Type 0
IsParted es = AreHalves IsUnanswered IsUnheard es

parted_behind : (front es frames : List Entry) → AreUnanswered front → IsBehind IsUnheard front es → AreUnheard frames → IsParted (es ++ frames)
parted_behind front es frames quiet b out = record {
  front = front;
  back = b.more ++ frames;
  is = ap (λ l. l ++ frames) b.is ∙ append_assoc front b.more frames;
  first = quiet;
  second = all_append IsUnheard b.more frames b.all out;
}

pub step_parted : (input : NodeInput) (w : Work) (frames : List Entry) → AreUnanswered w.entries → AreUnheard frames
    → IsParted ((steps input w).entries ++ frames)
step_parted input w frames quiet out =
    let front : List Entry = w.entries ++ told_of_coming input w in
    parted_behind front (steps input w).entries frames (all_append IsUnanswered w.entries (told_of_coming input w) quiet (coming_unanswered input w))
    (step_notes IsUnheard of_step input w) out

deeds_parted : (h : ℕ) (deeds : List Deed) (w : Work) (frames : List Entry) → AllByRecursion NotesUnheard deeds → AreUnanswered w.entries
    → AreUnheard frames → IsParted ((all_done h deeds w).entries ++ frames)
deeds_parted h deeds w frames may quiet out =
    parted_behind w.entries (all_done h deeds w).entries frames quiet (deeds_note IsUnheard of_step h deeds w may) out

-- ## In each event of a history what comes to a node is noted before what it answers

module _ (n : ℕ) where
  abbrev NoAnswerOfOrder : Entry → Type 0
  NoAnswerOfOrder x = is_answer_of n x ≡ false

  abbrev NoHearing : Entry → Type 0
  NoHearing x = hears n x ≡ false

  -- first this node answers nothing, and then nothing comes to it
  abbrev pub IsPartedFor : List Entry → Type 0
  IsPartedFor es = AreHalves NoAnswerOfOrder NoHearing es

  unheard_one : (x : Entry) → IsUnheard x → NoHearing x
  unheard_one x q = grind arith

  unanswered_one : (x : Entry) → IsUnanswered x → NoAnswerOfOrder x
  unanswered_one x q = ap (λ o. option_map_or (λ k. k == n) o false) q

  pub unanswered_all : (es : List Entry) → AreUnanswered es → AllByRecursion NoAnswerOfOrder es
  unanswered_all es a = all_so IsUnanswered NoAnswerOfOrder unanswered_one es a

  -- so it is where no other node notes anything
  pub parted_for : (es : List Entry) → IsParted es → IsPartedFor es
  parted_for es p = halves_so IsUnanswered IsUnheard NoAnswerOfOrder NoHearing unanswered_one unheard_one es p

  -- what tells nothing of the node
  other_hears : (x : Entry) → is_of_node n x ≡ false → NoHearing x
  other_hears x q = grind arith

  pub other_answers : (x : Entry) → is_of_node n x ≡ false → NoAnswerOfOrder x
  other_answers x q = grind arith

  pub others_answer : (es : List Entry) → AreNotOf n es → AllByRecursion NoAnswerOfOrder es
  others_answer es a = all_so (λ x. is_of_node n x ≡ false) NoAnswerOfOrder other_answers es a

  others_behind : (es fs : List Entry) → IsPartedFor es → AreNotOf n fs → IsPartedFor (es ++ fs)
  others_behind es fs p a = halves_behind NoAnswerOfOrder NoHearing es fs p (all_so (λ x. is_of_node n x ≡ false) NoHearing other_hears fs a)

  not_of_before : (es fs : List Entry) → AreNotOf n fs → IsPartedFor es → IsPartedFor (fs ++ es)
  not_of_before es fs a p = halves_before NoAnswerOfOrder NoHearing es fs (others_answer fs a) p

  unanswered_before : (es fs : List Entry) → AreUnanswered fs → IsPartedFor es → IsPartedFor (fs ++ es)
  unanswered_before es fs a p = halves_before NoAnswerOfOrder NoHearing es fs (unanswered_all fs a) p

  -- behind an answer nothing comes
  pub first_heard : (es before behind : List Entry) (x : Entry) → IsPartedFor es → es ≡ before ++ (x ∷ behind) → is_answer_of n x ≡ true
      → AllByRecursion NoHearing behind
  first_heard es before behind x p q answers = behind_first NoAnswerOfOrder NoHearing es before behind x p q (λ none. true≢false (sym answers ∙ none))

-- ## In each event of a world what comes to a node is noted before what it answers

parts : PartsHave IsUnanswered IsUnheard NotesUnheard (λ ks. Unit {0}) IsParted
parts = record {
  alone = λ es a. record { front = es; back = []; is = sym (append-nil es); first = a; second = tt };
  boot = λ k many. refl;
  cut = λ k. refl;
  lost = lost_unanswered;
  aged = λ h one other xs ys.
      (frames_unheard h (aged_entries one xs ++ aged_entries other ys) (wires_all IsFrame (λ w c. tt) one other xs ys)).1;
  arrives = arrival_unanswered;
  frames = out_unheard;
  sends = (sending_notes IsUnheard (of_deeds IsUnheard of_step));
  begins = (beginning_notes IsUnheard (of_deeds IsUnheard of_step));
  deeds = deeds_parted;
  step = λ input w frames ends quiet out. step_parted input w frames quiet out;
}

pub aged_unanswered : (sites : List Site)
    → AreUnanswered (flat_map (λ (s : Site). entries_for s.host (aged_entries Controller s.link.to_controller ++ aged_entries Host s.link.to_host)) sites)
aged_unanswered = aged_calm IsUnanswered IsUnheard NotesUnheard (λ ks. Unit {0}) (λ k. tt) IsParted parts

pub hear_first : (header : Header) (lines : List Line) (t : NodeHistory) → FollowsNodes header lines t → AreDifferent header.hosts.items
    → AllByRecursion (λ h. (h == 0) ≡ false) header.hosts.items → NodesHearFirst t
hear_first header lines t follows different numbers past back o front behind x is split n answers =
    first_heard n o.entries front behind x
    (history_event (IsPartedFor n) (λ w c a. event_has IsUnanswered IsUnheard NotesUnheard (λ ks. Unit {0}) (λ k. tt) IsParted parts (IsPartedFor n) n
    (parted_for n) (others_behind n) (not_of_before n) (unanswered_before n) w c a tt) header lines t follows different numbers past back o is) split answers

-- ## A host takes no identifier of activation, and owes nothing to anyone: before it passes it notes only what came

-- ### Identifiers

-- the end of a host, at which no notice stands
abbrev IsOfHost : Port → Type 0
IsOfHost p = IsUicc p.side.role × (p.desk.notice ≡ None)

synced_none : (core : Core) (input : NodeInput) (p : Port) → IsUicc p.side.role → synced core input p ≡ []
synced_none core input p a = grind arith

syncs_none : (core : Core) (input : NodeInput) (ports : List Port) → AllByRecursion IsOfHost ports → flat_map (synced core input) ports ≡ []
syncs_none core input [] a = refl
syncs_none core input (p ∷ ports) a =
    ap (λ ds. ds ++ flat_map (synced core input) ports) (synced_none core input p a.0.0) ∙ syncs_none core input ports a.1

-- ### What is owed

abbrev HasNoNotice : Port → Type 0
HasNoNotice p = p.desk.notice ≡ None

ports_come : (input : NodeInput) (ports : List Port) → AllByRecursion IsOfHost ports
    → AllByRecursion HasNoNotice (map (λ p. has_come p (input_at input p)) ports)
ports_come input [] a = tt
ports_come input (p ∷ ports) a = (grind arith, ports_come input ports a.1)

ports_older : (ports : List Port) → AllByRecursion HasNoNotice ports → AllByRecursion HasNoNotice (map reset_late (map with_older ports))
ports_older [] a = tt
ports_older (p ∷ ports) a = (grind arith, ports_older ports a.1)

came_quiet : (input : NodeInput) (w : Work) → AllByRecursion IsOfHost w.ports → AllByRecursion HasNoNotice (has_come_so input w).ports
came_quiet (AtEnd h i) w a = ports_come (AtEnd h i) w.ports a
came_quiet TimePasses w a = ports_older (all_come TimePasses w).ports (ports_come TimePasses w.ports a)

none_forgets : (all ports : List Port) → AllByRecursion HasNoNotice ports → map (forgets all) ports ≡ ports
none_forgets all [] a = refl
none_forgets all (p ∷ ports) a = ap (λ q. q ∷ map (forgets all) ports) (rw a.0 refl) ∙ ap (λ l. p ∷ l) (none_forgets all ports a.1)

none_asked : (p : Port) → HasNoNotice p → asked_at p ≡ None
none_asked p a = rw a refl

owed_none : (r : Response) (f : Port → Bool) (ports : List Port) → AllByRecursion HasNoNotice ports
    → flat_map (λ p. owed r (asked_at p)) (filter f ports) ≡ []
owed_none r f [] a = refl
owed_none r f (p ∷ ports) a = by_test (f p)
    (λ q. ap (λ b. flat_map (λ p. owed r (asked_at p)) (cond b (p ∷ filter f ports) (filter f ports))) q
    ∙ (ap (λ o. owed r o ++ flat_map (λ p. owed r (asked_at p)) (filter f ports)) (none_asked p a.0) ∙ owed_none r f ports a.1))
    (λ q. ap (λ b. flat_map (λ p. owed r (asked_at p)) (cond b (p ∷ filter f ports) (filter f ports))) q ∙ owed_none r f ports a.1)

all_none : (ports : List Port) → AllByRecursion HasNoNotice ports → all_owed ports ≡ []
all_none ports a =
    ap (λ ds. ds ++ flat_map (λ p. owed response.Timeout (asked_at p)) (filter (λ p. p.late) ports))
    (owed_none response.NotConnected (λ p. p.ended) ports a)
    ∙ owed_none response.Timeout (λ p. p.late) ports a

owing_none : (input : NodeInput) (w : Work) → AllByRecursion IsOfHost w.ports → owed_in_step input w ≡ []
owing_none input w a =
    let ports : List Port = (has_come_so input w).ports in
    ap all_owed (none_forgets ports ports (came_quiet input w a)) ∙ all_none ports (came_quiet input w a)

-- A host notes nothing before its pass but what came.
only_coming : (input : NodeInput) (w : Work) → AllByRecursion IsOfHost w.ports → noted_before_pass input w ≡ told_of_coming input w
only_coming input w a =
    ap (λ ds. told_of_coming input w ++ (noted_by_deeds 0 ds (has_freed input w)
    ++ cond (has_synced input w).cut [] (noted_by_deeds 0 (owed_in_step input w) (has_synced input w)))) (syncs_none w.core input w.ports a)
    ∙ (ap (λ ds. told_of_coming input w ++ cond (has_synced input w).cut [] (noted_by_deeds 0 ds (has_synced input w))) (owing_none input w a)
    ∙ (ap (λ es. told_of_coming input w ++ es) (by_test (has_synced input w).cut (λ q. rw q refl) (λ q. rw q refl)) ∙ append-nil (told_of_coming input w)))

-- ## Unless a host begins something of its own, it answers nothing before its first turn in an event

-- ### Hosts

-- the end of a host on its link is that of a UICC, and no notice stands there
abbrev pub IsHostSite : Site → Type 0
IsHostSite s = IsUicc s.link.host.side.role × IfNoNotices s.node

abbrev pub AreHostSites : List Site → Type 0
AreHostSites sites = AllByRecursion IsHostSite sites

sites_map : (f : Site → Site) → ((s : Site) → (f s).link.host ≡ s.link.host) → ((s : Site) → (f s).node ≡ s.node) → (sites : List Site)
    → AreHostSites sites → AreHostSites (map f sites)
sites_map f far node [] a = tt
sites_map f far node (s ∷ sites) a = (
  (subst IsUicc (sym (ap (λ (e : NumberedEnd). e.side.role) (far s))) a.0.0, subst IfNoNotices (sym (node s)) a.0.1),
  sites_map f far node sites a.1,
)

ports_of : (e : ℕ → NumberedEnd) → ((k : ℕ) → IsUicc (e k).side.role) → (desks : List Desk) → AllByRecursion (λ (d : Desk). d.notice ≡ None) desks
    → AllByRecursion IsOfHost (ports_for e desks)
ports_of e uicc [] a = tt
ports_of e uicc (d ∷ desks) a = ((uicc d.host, a.0), ports_of e uicc desks a.1)

-- a held message is followed by a turn, or by nothing
abbrev pub BeginsBehind : Entry → List Entry → Type 0
BeginsBehind (entry.Held f need spare) back = BeginWithTurn back
BeginsBehind _ back = Unit {0}

pub ticked_host : (v : Work) (s : Site) → (site_ticked v s).link.host ≡ s.link.host
ticked_host v s = by_test (is_late_at v s.host && not (is_waiting s.link.controller.side.shdlc))
    (λ q. rw q (here_host s.link (Step (AsksReset None) (turns_at v s.host) (ending_of v))))
    (λ q. rw q (ticks_host s.link (turns_at v s.host) (ending_of v)))

module _ (n : ℕ) where
  -- nothing is answered before the first turn
  abbrev pub IsLate : List Entry → Type 0
  IsLate es = filter (is_answer_of n) (before_turn n es) ≡ []

  abbrev pub NoAnswer : Entry → Type 0
  NoAnswer x = is_answer_of n x ≡ false

  abbrev both : Entry → List Entry → Bool → List Entry
  both x es b = cond b (x ∷ filter (is_answer_of n) (before_turn n es)) (filter (is_answer_of n) (before_turn n es))

  pub before_first : (x : Entry) (es : List Entry) → is_turn_of n x ≡ false → before_turn n (x ∷ es) ≡ x ∷ before_turn n es
  before_first x es turn = grind arith

  pub answer_is : (x : Entry) (es : List Entry) → is_turn_of n x ≡ false → is_answer_of n x ≡ true
      → filter (is_answer_of n) (before_turn n (x ∷ es)) ≡ x ∷ filter (is_answer_of n) (before_turn n es)
  answer_is x es turn answers = ap (filter (is_answer_of n)) (before_first x es turn) ∙ ap (both x es) answers

  late_turn : (x : Entry) (es : List Entry) → is_turn_of n x ≡ true → IsLate (x ∷ es)
  late_turn x es q = grind arith

  late_one : (x : Entry) (es : List Entry) → NoAnswer x → IsLate es → IsLate (x ∷ es)
  late_one x es none late = by_test (is_turn_of n x) (λ q. late_turn x es q) (λ q. (grind arith) ∙ late)

  late_before : (front es : List Entry) → AllByRecursion NoAnswer front → IsLate es → IsLate (front ++ es)
  late_before [] es none late = late
  late_before (x ∷ front) es none late = late_one x (front ++ es) none.0 (late_before front es none.1 late)

  pub late_all : (es : List Entry) → AllByRecursion NoAnswer es → IsLate es
  late_all [] none = refl
  late_all (x ∷ es) none = late_one x es none.0 (late_all es none.1)

  late_behind : (es back : List Entry) → IsLate es → AllByRecursion NoAnswer back → IsLate (es ++ back)
  late_behind [] back late none = late_all back none
  late_behind (x ∷ es) back late none = go (is_turn_of n x) (is_answer_of n x) refl refl (λ a. late_behind es back a none) where
    go : (b c : Bool) → is_turn_of n x ≡ b → is_answer_of n x ≡ c → (IsLate es → IsLate (es ++ back)) → IsLate (x ∷ (es ++ back))
    go true c q z later = late_turn x (es ++ back) q
    go false true q z later =
        let one : x ∷ filter (is_answer_of n) (before_turn n es) ≡ [] =
        sym (answer_is x es q z) ∙ late in
        absurd (cc one)
    go false false q z later = late_one x (es ++ back) z (later (sym (ap (filter (is_answer_of n)) (before_first x es q) ∙ ap (both x es) z) ∙ late))

  -- ### Passes

  pass_late : (more frames : List Entry) → AreOwn n more → AllByRecursion NoAnswer frames → BeginWithTurn more
      → ((front back : List Entry) (x : Entry) → more ≡ front ++ (x ∷ back) → BeginsBehind x back) → IsLate (more ++ frames)
  pass_late [] frames own out begin each = late_all frames out
  pass_late (entry.Turn f pid message ∷ more) frames own out begin each =
      late_turn (entry.Turn f pid message) (more ++ frames) (ap (λ j. j == n) own.0 ∙ same_number n)
  pass_late (entry.Held f need spare ∷ more) frames own out begin each =
      late_one (entry.Held f need spare) (more ++ frames) refl
      (pass_late more frames own.1 out (each [] more (entry.Held f need spare) refl)
      (λ front back x q. each (entry.Held f need spare ∷ front) back x (ap (λ es. entry.Held f need spare ∷ es) q)))
  pass_late (_ ∷ more) frames own out begin each = absurd (cc begin)

  back_own : (xs ys : List Entry) → AreOwn n (xs ++ ys) → AreOwn n ys
  back_own [] ys a = a
  back_own (x ∷ xs) ys a = back_own xs ys a.1

  front_own : (xs ys : List Entry) → AreOwn n (xs ++ ys) → AreOwn n xs
  front_own [] ys a = tt
  front_own (x ∷ xs) ys a = (a.0, front_own xs ys a.1)

  step_late : (input : NodeInput) (w : Work) (frames : List Entry) → AllByRecursion IsOfHost w.ports → AreUnanswered w.entries
      → AllByRecursion NoAnswer frames → AreOwn n ((steps input w).entries ++ frames) → IsLate ((steps input w).entries ++ frames)
  step_late input w frames hosts quiet out own = go (comes_to_pass input w).cut refl where
    B : Work
    B = comes_to_pass input w

    none : AllByRecursion NoAnswer B.entries
    none =
        subst (AllByRecursion NoAnswer) (sym (before_entries input w ∙ ap (λ es. w.entries ++ es) (only_coming input w hosts)))
        (unanswered_all n (w.entries ++ told_of_coming input w)
        (all_append IsUnanswered w.entries (told_of_coming input w) quiet (coming_unanswered input w)))

    go : (b : Bool) → B.cut ≡ b → IsLate ((steps input w).entries ++ frames)
    go true q =
        let is : steps input w ≡ B = steps_are input w ∙ (rw q refl) in
        subst (λ (v : Work). IsLate (v.entries ++ frames)) (sym is) (late_before B.entries frames none (late_all frames out))
    go false q =
        let is : steps input w ≡ passes B = steps_are input w ∙ (rw q refl) in
        let p : ArePassed (ComesTo B) (hosts_of_ends B.ports) B (passes B) =
        through (ComesTo B) (comes_lasts B) (hosts_of_ends B.ports) B Begins q in
        let same : (steps input w).entries ++ frames ≡ B.entries ++ (p.more ++ frames) =
        ap (λ es. es ++ frames) (ap (λ (v : Work). v.entries) is ∙ p.entries) ∙ append_assoc B.entries p.more frames in
        subst IsLate (sym same)
        (late_before B.entries (p.more ++ frames) none
        (pass_late p.more frames (front_own p.more frames (back_own B.entries (p.more ++ frames) (subst (AreOwn n) same own))) out p.begin
        (λ front back x z. behind x front back (p.each front back x z))))
      where
        behind : (x : Entry) (front back : List Entry) → IsTurnSo (ComesTo B) B front x back → BeginsBehind x back
        behind (entry.Held f need spare) front back a = a.next
        behind (entry.Turn f pid message) front back a = tt
        behind _ front back a = tt

  -- ### Steps

  far_late : (w : NodeWorld) (h : ℕ) (comes : Comes) (i : LinkInput) → IsOrderly w → AreHostSites w.sites
      → IsLate (host_does w h comes (steps (AtEnd h i))).1
  far_late w h comes i a sites = go (h == n) refl (host_part w h comes (steps (AtEnd h i)) (λ v r. steps_fine h (AtEnd h i) v r) a) where
    go : (b : Bool) → (h == n) ≡ b → IsPart h (host_does w h comes (steps (AtEnd h i))).1 → IsLate (host_does w h comes (steps (AtEnd h i))).1
    go false q part =
        late_all (host_does w h comes (steps (AtEnd h i))).1
        (others_answer n (host_does w h comes (steps (AtEnd h i))).1
        (own_not h n (host_does w h comes (steps (AtEnd h i))).1 q (part_own h (host_does w h comes (steps (AtEnd h i))).1 part)))
    go true q part =
        by_host (λ p. IsPart h p.1 → IsLate p.1) w h comes (steps (AtEnd h i)) (λ same. refl)
        (λ s r found runs same.
        let v : Work = host_work s r comes (steps (AtEnd h i)) in
        let frames : List Entry = frames_noted Host h (wires_for (exchanged s.link) comes) v in
        let site : IsHostSite s = site_is IsHostSite w.sites h s sites found in
        let side : (near_end_in (exchanged s.link) comes).side ≡ s.link.host.side = near_end_side (exchanged s.link) comes in
        step_late (AtEnd h i) (host_begins s r comes) frames
        (ports_of (λ k. near_end_in (exchanged s.link) comes) (λ k. subst (λ (e : LinkEnd). IsUicc e.role) (sym side) site.0) r.desks
        (subst IfNoNotices runs site.1))
        (arrival_unanswered Host s.host (exchanged s.link) comes)
        (unanswered_all n frames (out_unanswered Host h (wires_for (exchanged s.link) comes) v))
        (subst (λ k. AreOwn k (v.entries ++ frames)) (eqb-true h n q) (part_own h (v.entries ++ frames) same))) part

  host_late : (s : Site) → (s.host == n) ≡ true → IsHostSite s → IsPart s.host (host_ticks s).1 → IsLate (host_ticks s).1
  host_late s q site part =
      by_host_tick (λ p. IsPart s.host p.1 → IsLate p.1) s (λ off same. refl)
      (λ r runs same.
      let v : Work = host_tick s r in
      let frames : List Entry = frames_noted Host s.host (exchanged s.link) v in
      step_late TimePasses (work_of r s.memory.plan (λ h. s.link.host) []) frames
      (ports_of (λ k. s.link.host) (λ k. site.0) r.desks (subst IfNoNotices runs site.1)) tt
      (unanswered_all n frames (out_unanswered Host s.host (exchanged s.link) v))
      (subst (λ k. AreOwn k (v.entries ++ frames)) (eqb-true s.host n q) (part_own s.host (v.entries ++ frames) same))) part

  hosts_late : (sites : List Site) → AreDifferent (hosts_in sites) → AreNodes sites → AreHostSites sites → IsLate (hosts_tick sites).1
  hosts_late [] d nodes a = refl
  hosts_late (s ∷ sites) d nodes a = by_test (s.host == n)
      (λ q. late_behind (host_ticks s).1 (hosts_tick sites).1 (host_late s q a.0 (far_tick s nodes.0.0 nodes.0.1))
      (others_answer n (hosts_tick sites).1
      (subst (λ m. AreNotOf m (hosts_tick sites).1) (eqb-true s.host n q) (others_tick s.host sites d.0 nodes.1))))
      (λ q. late_before (host_ticks s).1 (hosts_tick sites).1
      (others_answer n (host_ticks s).1 (own_not s.host n (host_ticks s).1 q (part_own s.host (host_ticks s).1 (far_tick s nodes.0.0 nodes.0.1))))
      (hosts_late sites d.1 nodes.1 a.1))

  -- ### Events

  module _ (off : (n == 0) ≡ false) where
    near_none : (es : List Entry) → IsPart 0 es → AllByRecursion NoAnswer es
    near_none es part = others_answer n es (own_not 0 n es (same_sym n 0 off) (part_own 0 es part))

    pub coming_late : (w : NodeWorld) (e : End) (comes : Comes) → IsOrderly w → AreHostSites w.sites → IsLate (comes_at w e comes).1
    coming_late w e comes a sites =
        by_coming (λ p. IsLate p.1) w e comes refl (λ i at seen. far_late w e.link comes i a sites)
        (λ i at seen. late_all (controller_does w e.link comes (steps (AtEnd e.link i))).1
        (near_none (controller_does w e.link comes (steps (AtEnd e.link i))).1
        (controller_part w e.link comes (steps (AtEnd e.link i)) (λ v r. steps_fine 0 (AtEnd e.link i) v r) a)))

    pub activates_late : (w : NodeWorld) (h sync power : ℕ) → IsOrderly w → AreHostSites w.sites
        → IsLate ((comes_at w (end_c h) (Starts power)).1 ++ (comes_at (comes_at w (end_c h) (Starts power)).0 (end_h h) (Starts sync)).1)
    activates_late w h sync power a sites =
        late_before near.1 (comes_at near.0 (end_h h) (Starts sync)).1 none
        (coming_late near.0 (end_h h) (Starts sync) (comes_goes w (end_c h) (Starts power) a).orderly there) where
          near : NodeWorld × List Entry
          near = comes_at w (end_c h) (Starts power)

          none : AllByRecursion NoAnswer near.1
          none =
              by_coming (λ p. AllByRecursion NoAnswer p.1) w (end_c h) (Starts power) tt (λ i at seen. absurd (true≢false (sym at)))
              (λ i at seen. near_none (controller_does w h (Starts power) (steps (AtEnd h i))).1
              (controller_part w h (Starts power) (steps (AtEnd h i)) (λ v r. steps_fine 0 (AtEnd h i) v r) a))

          there : AreHostSites near.0.sites
          there =
              by_coming (λ p. AreHostSites p.0.sites) w (end_c h) (Starts power) sites (λ i at seen. absurd (true≢false (sym at)))
              (λ i at seen. by_controller (λ p. AreHostSites p.0.sites) w h (Starts power) (steps (AtEnd h i)) sites
              (λ r q.
              let v : Work = controller_work w r h (Starts power) (steps (AtEnd h i)) in
              sites_map (link_after_controller h (Starts power) v)
              (λ s. here_host s.link (Step (comes_to h (Starts power) s.host) (turns_at v s.host) (ending_of v))) (λ s. refl) w.sites sites))

    pub ticks_late : (w : NodeWorld) → IsOrderly w → AreHostSites w.sites → IsLate (world_ticks w).1
    ticks_late w a sites =
        late_before (all_aged w).1 (near.1 ++ (hosts_tick near.0.sites).1) (unanswered_all n (all_aged w).1 (aged_unanswered w.sites))
        (late_before near.1 (hosts_tick near.0.sites).1 (near_none near.1 (near_ticks_part old (aged_orderly w a)))
        (hosts_late near.0.sites (ticked_orderly w a).different (ticked_nodes w a) there)) where
          old : NodeWorld
          old = (all_aged w).0

          near : NodeWorld × List Entry
          near = controller_ticks old

          before : AreHostSites old.sites
          before = sites_map (λ (x : Site). record x { link = aged x.link }) (λ s. refl) (λ s. refl) w.sites sites

          there : AreHostSites near.0.sites
          there =
              by_controller_tick (λ p. AreHostSites p.0.sites) old
              (λ q. sites_map site_unticked (λ s. ticks_host s.link [] GoesOut) (λ s. refl) old.sites before)
              (λ r q. sites_map (site_ticked (near_tick old r)) (ticked_host (near_tick old r)) (λ s. refl) old.sites before)

    pub lost_late : (w : NodeWorld) (e : End) (why : Loss) → IsLate (frame_lost w e why).1
    lost_late w e why = grind arith

    pub boots_late : (w : NodeWorld) (k : ℕ) → IsLate (boots w k).1
    boots_late w k = by_boot (λ p. IsLate p.1) w k refl refl
