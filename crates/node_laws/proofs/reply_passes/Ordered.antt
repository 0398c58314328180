-- The messages that wait as a pass begins are those that are read, and they have their turns in the order in which they came.
use Rattle.node_laws.proofs.Words.{AllByRecursion, AllByRecursion-append, AreDifferent, AreHosts, AreInTurn, AreNoTurns, AtEnd, Bool, Comes, ComesTo}
use Rattle.node_laws.proofs.Words.{Controller, Core, Deed, Desk, End, Entry, FollowsNodes, Give, Got, Handles, Happening, HasEnds, Header, Holds, Host}
use Rattle.node_laws.proofs.Words.{IsComing, IsOutside, LetsGo, Line, Link, LinkEnd, LinkInput, List, MayBoot, Message, MessagesAreRead, NodeHistory, NodeInput}
use Rattle.node_laws.proofs.Words.{NodeWorld, None, NumberedEnd, Occurrence, Option, Port, Refused, Running, Site, Some, TimePasses, Work, [], after_input}
use Rattle.node_laws.proofs.Words.{after_sessions, aged, aged_entries, all_aged, all_come, all_done, and-false, ap, append-nil, append_assoc, arith, arrival}
use Rattle.node_laws.proofs.Words.{as_it_ticks, by_option, by_test, comes_to, comes_to_pass, cond, controller_begins, deeds_of, done, drop, end_c, end_of}
use Rattle.node_laws.proofs.Words.{end_of_node, entries_for, entries_in, eqb, eqb-true, false, flat_map, fold-append, forgets, forgotten, handles, has_come}
use Rattle.node_laws.proofs.Words.{has_come_so, has_freed, has_synced, holds_back, holds_in, hosts_in, hosts_of_ends, input_at, input_of, is_held_at, is_one_of}
use Rattle.node_laws.proofs.Words.{is_some, lets_go, link_to, map, near_end_in, new_world, node_of, noted_before_pass, noted_by_deed, noted_by_deeds, noted_of}
use Rattle.node_laws.proofs.Words.{occurrences_in, option_map_or, owed_in_step, own_side, port_at, refl, report, reset_late, same_end, sent_unless, site_at}
use Rattle.node_laws.proofs.Words.{subst, sym, syncs_in, takes_up, times_out, told, told_at, told_late, told_of_coming, told_of_late, true, true≢false}
use Rattle.node_laws.proofs.Words.{unhandled_after, unhandled_in, waiting_at, whole_acked, with_older, without_notice, work_of, world_behind, world_step, ℕ}
use Rattle.node_laws.proofs.Words.{◌++◌, ◌||◌, ◌∙◌, ◌∷◌, ◌≡◌}
use Rattle.link_laws.specs.entries.Entries.{End as Side}
use Rattle.node_laws.specs.passes.Passing.ComesTo.{Begins}
use Rattle.node_laws.proofs.kept.Events.{hosts_same as sites_same}
use Rattle.node_laws.proofs.passes.InSteps.{before_entries, before_hosts, links_none}
use Rattle.node_laws.proofs.passes.Passing.{comes_so, handles_entries, handles_sees, held_own, holds_notes, lets_notes, other_handles, other_holds, own_held}
use Rattle.node_laws.proofs.passes.Replying.{SeesAt, lets_see}
use Rattle.node_laws.proofs.read_rooms.Beginning.{HasSite, site_for}
use Rattle.node_laws.proofs.readings.Noticed.{numbers}
use Rattle.node_laws.proofs.readings.Sites.{comes_outside, near_end_side}
use Rattle.node_laws.proofs.replies.Creations.{one_found}
use Rattle.node_laws.proofs.reply_passes.Held.{AreNoBoots, HoldsRead, aged_leave, begun_read, begun_side, event_holds, is_held_among, is_host_side}
use Rattle.node_laws.proofs.reply_passes.Held.{notes_unbooted, ports_held, side_comes}
use Rattle.node_laws.proofs.steps.StepWalks.{come_host, forgets_host, late_host, unless, without_host}
use Rattle.node_laws.proofs.telling.Steps.{at_map, come_turns, forgets_same, sessions_side, without_same}
use Rattle.node_laws.proofs.telling.Lasting.{AnyLine, all_lines, boots_may, history_holds, new_orderly, step_orderly}
use Rattle.node_laws.proofs.telling.Accounts.{AreMute, all_owed_mute, all_synced_mute, deeds_mute, forgotten_mute}
use Rattle.node_laws.proofs.telling.Events.{hosts_same_of_nodes as hosts_same, link_is, node_is, ports_for}
use Rattle.node_laws.proofs.telling.Ticks.{reset_turns}
use Rattle.node_laws.proofs.turns.Passing.{AreStill, At, Becomes, Front, Goes, Known, all_do as at_all, all_left, doing, front_goes, goes-append, gots_go}
use Rattle.node_laws.proofs.turns.Passing.{gots_still, has_side, input_got, known_map, left_by, notes_still, reset_side, same_is, still_goes, told_goes}
use Rattle.node_laws.proofs.turns.Worlds.{AllWait, Waiting, events_move, none_wait}
use Rattle.node_laws.proofs.turns.Passing.Doing.{Nothing, Takes}
use Rattle.node_laws.proofs.turns.Nodes.{ByPower, Leaves, Moves, NearWaits, aged_none, arrival_still, end_at, flat_leaves, sites_is, still_leaves}
use Rattle.trace_model.specs.declared.entry.Entry.TheVariants as entry

-- ## What is noted as a node comes from the beginning of a pass by turns has its turns in order, in whatever order the ends have them

-- ### Deeds

module _ (e : End) where
  sent_still : (h n : ℕ) (m : Message) (side : Side) (o : Option Refused) → AreStill e (entries_for h (sent_unless o side n m))
  sent_still h n m side o = grind arith

  given_still : (core : Core) (m : Message) (o : Option Port) → AreStill e (option_map_or (noted_of core (Give m)) o [])
  given_still core m o = grind arith

  pub deeds_still : (h : ℕ) (deeds : List Deed) (w : Work) → AreMute deeds → AreStill e (noted_by_deeds h deeds w)
  deeds_still h [] w mute = tt
  deeds_still h (d ∷ deeds) w mute =
      AllByRecursion-append (λ (x : Entry). doing e x ≡ Nothing) (noted_by_deed h d w) _ (grind arith)
      (by_test (done h d w).cut (λ q. rw q tt) (λ q. rw q (deeds_still h deeds (done h d w) mute.1)))

  held_still : (h : ℕ) (short : ℕ × ℕ) (w : Work) → AreStill e (own_held h short w)
  held_still h short w = by_test (option_map_or (λ (p : Port). p.desk.holds) (port_at w.ports h) false) (λ q. rw q tt) (λ q. rw q (refl, tt))

-- ### Turns

module _ (t : List Entry) (who : Side) (k : ℕ) (z : List Message) where
  abbrev e : End
  e = record { link = k; at_host = is_host_side who }

  -- at an end of the node's side
  abbrev pub Runs : Work → Type 0
  Runs v = Goes e [] (t ++ v.entries) (waiting_at v.ports k ++ z)

  further : (v u : Work) (es : List Entry) → u.entries ≡ v.entries ++ es → Goes e (waiting_at v.ports k ++ z) es (waiting_at u.ports k ++ z) → Runs v → Runs u
  further v u es is g a =
      subst (λ l. Goes e [] l (waiting_at u.ports k ++ z)) (append_assoc t v.entries es ∙ ap (λ l. t ++ l) (sym is))
      (goes-append e (t ++ v.entries) es [] (waiting_at v.ports k ++ z) (waiting_at u.ports k ++ z) a g)

  same_goes : (v u : Work) (es : List Entry) → AreStill e es → waiting_at u.ports k ≡ waiting_at v.ports k
      → Goes e (waiting_at v.ports k ++ z) es (waiting_at u.ports k ++ z)
  same_goes v u es still is = subst (λ l. Goes e (waiting_at v.ports k ++ z) es (l ++ z)) (sym is) (still_goes e es (waiting_at v.ports k ++ z) still)

  handled_runs : (v : Work) (h : ℕ) (m : Message) (messages : List Message) → own_side v.core ≡ who → waiting_at v.ports h ≡ m ∷ messages → Runs v
      → Runs (handles h m (deeds_of v.core v.ports h m) v)
  handled_runs v h m messages side waiting a =
      further v u (x ∷ noted) (handles_entries h m deeds v) (by (eqb h k) refl) a where
        deeds : List Deed
        deeds = deeds_of v.core v.ports h m

        u : Work
        u = handles h m deeds v

        x : Entry
        x = entry.Turn (end_of_node v.core h) m.0 m.1

        noted : List Entry
        noted = noted_by_deeds h deeds (takes_up h m v)

        still : AreStill e noted
        still = deeds_still e h deeds (takes_up h m v) (deeds_mute v.core v.ports h m)

        told_is : doing e x ≡ doing e (entry.Turn (end_of h who) m.0 m.1)
        told_is = ap (λ s. doing e (entry.Turn (end_of h s) m.0 m.1)) side

        by : (b : Bool) → eqb h k ≡ b → Goes e (waiting_at v.ports k ++ z) (x ∷ noted) (waiting_at u.ports k ++ z)
        by false off =
            let other : same_end (end_of h who) e ≡ false = same_is who h e ∙ rw off refl in
            let sees : SeesAt k (waiting_at v.ports k) (is_held_at v.ports k) u =
            other_handles k (waiting_at v.ports k) (is_held_at v.ports k) h m deeds v off (refl, refl) in
            same_goes v u (x ∷ noted) (told_is ∙ rw other refl, still) sees.0
        by true on =
            let side_on : has_side who e ≡ true = grind arith in
            let here : same_end (end_of h who) e ≡ true = same_is who h e ∙ rw (on, side_on) refl in
            let takes : doing e x ≡ Takes m = told_is ∙ rw here refl in
            let sees : SeesAt h messages false u = handles_sees h m messages deeds v waiting in
            let is : h ≡ k = eqb-true h k on in
            let first : waiting_at v.ports k ≡ m ∷ messages = ap (waiting_at v.ports) (sym is) ∙ waiting in
            let last : waiting_at u.ports k ≡ messages = ap (waiting_at u.ports) (sym is) ∙ sees.0 in (
              messages ++ z,
              (
                subst (λ d. Becomes d (waiting_at v.ports k ++ z) (messages ++ z)) (sym takes) (ap (λ l. l ++ z) first),
                subst (λ l. Goes e (messages ++ z) noted (l ++ z)) (sym last) (still_goes e noted (messages ++ z) still),
              ),
            )

  held_runs : (v : Work) (h : ℕ) (m : Message) (messages : List Message) (short : ℕ × ℕ) → waiting_at v.ports h ≡ m ∷ messages → Runs v
      → Runs (holds_back h short v)
  held_runs v h m messages short waiting a =
      further v (holds_back h short v) (own_held h short v) (holds_notes h short v).entries
      (same_goes v (holds_back h short v) (own_held h short v) (held_still e h short v) (by (eqb h k) refl)) a where
        by : (b : Bool) → eqb h k ≡ b → waiting_at (holds_back h short v).ports k ≡ waiting_at v.ports k
        by false off = (other_holds k (waiting_at v.ports k) (is_held_at v.ports k) h short v off (refl, refl)).0
        by true on =
            subst (λ n. waiting_at (holds_back h short v).ports n ≡ waiting_at v.ports n) (eqb-true h k on) (held_own h short v m messages waiting).0

  pub runs_comes : (w v : Work) → own_side w.core ≡ who → Runs w → ComesTo w v → Runs v
  runs_comes w v side a c = (comes_so (λ u. (own_side u.core ≡ who) × Runs u) (record {
    handled = λ u h m messages b on waiting room still. (
      side_comes who u (handles h m (deeds_of u.core u.ports h m) u) b.0
          (Handles u h m messages Begins on waiting room still),
      handled_runs u h m messages b.0 waiting b.1,
    );
    held = λ u h m messages short b on waiting lacks. (
      side_comes who u (holds_back h short u) b.0
          (Holds u h m messages short Begins on waiting lacks),
      held_runs u h m messages short waiting b.1,
    );
    let_go = λ u h b on waiting. (
      side_comes who u (lets_go h u) b.0
          (LetsGo u h Begins on waiting),
      further u (lets_go h u) [] (lets_notes h u).entries
          (same_goes u (lets_go h u) [] tt (lets_see k (waiting_at u.ports k) (is_held_at u.ports k) h u (refl, refl)).0) b.1,
    );
  }) w (side, a) v c).1

-- at ends of the other side
module _ (t : List Entry) (who : Side) (f : End) (off : has_side who f ≡ false) (z : List Message) where
  abbrev Apart : Work → Type 0
  Apart v = Goes f [] (t ++ v.entries) z

  apart_more : (v u : Work) (es : List Entry) → u.entries ≡ v.entries ++ es → AreStill f es → Apart v → Apart u
  apart_more v u es is still a =
      subst (λ l. Goes f [] l z) (append_assoc t v.entries es ∙ ap (λ l. t ++ l) (sym is))
      (goes-append f (t ++ v.entries) es [] z z a (still_goes f es z still))

  apart_comes : (w v : Work) → own_side w.core ≡ who → Apart w → ComesTo w v → Apart v
  apart_comes w v side a c = (comes_so (λ u. (own_side u.core ≡ who) × Apart u) (record {
    handled = λ u h m messages b on waiting room still. (
      side_comes who u (handles h m (deeds_of u.core u.ports h m) u) b.0 (Handles u h m messages Begins on waiting room still),
      handled_apart u h m b.0 b.1,
    );
    held = λ u h m messages short b on waiting lacks. (
      side_comes who u (holds_back h short u) b.0 (Holds u h m messages short Begins on waiting lacks),
      apart_more u (holds_back h short u) (own_held h short u) (holds_notes h short u).entries (held_still f h short u) b.1,
    );
    let_go = λ u h b on waiting. (
      side_comes who u (lets_go h u) b.0 (LetsGo u h Begins on waiting),
      apart_more u (lets_go h u) [] (lets_notes h u).entries tt b.1,
    );
  }) w (side, a) v c).1 where
    handled_apart : (u : Work) (h : ℕ) (m : Message) → own_side u.core ≡ who → Apart u → Apart (handles h m (deeds_of u.core u.ports h m) u)
    handled_apart u h m own b =
        let deeds : List Deed = deeds_of u.core u.ports h m in
        apart_more u (handles h m deeds u) (entry.Turn (end_of_node u.core h) m.0 m.1 ∷ noted_by_deeds h deeds (takes_up h m u))
        (handles_entries h m deeds u) (grind arith, deeds_still f h deeds (takes_up h m u) (deeds_mute u.core u.ports h m)) b

-- ### Until a pass begins

-- nothing comes at an end that isn't one of the node's
module _ (f : End) (who : Side) where
  abbrev AreOthers : List Port → Type 0
  AreOthers ports = AllByRecursion (λ (p : Port). same_end (end_of p.desk.host who) f ≡ false) ports

  other_told : (core : Core) (p : Port) (o : Option LinkInput) (q : List Message) → own_side core ≡ who → same_end (end_of p.desk.host who) f ≡ false
      → Goes f q (told_at core p o) q
  other_told core p None q side off = refl
  other_told core p (Some i) q side off =
      subst (λ x. Goes f q (entries_for p.desk.host (told x p.session (report p.side i) (whole_acked (after_input p.side i)))) q) (sym side)
      (told_goes f p.desk.host who p.session (whole_acked (after_input p.side i)) (report p.side i) q q
      (still_goes f _ q (gots_still f p.desk.host who p.session (report p.side i).got off)))

  others_told : (core : Core) (input : NodeInput) (ports : List Port) (q : List Message) → own_side core ≡ who → AreOthers ports
      → Goes f q (flat_map (λ p. told_at core p (input_at input p)) ports) q
  others_told core input [] q side all = refl
  others_told core input (p ∷ ports) q side all =
      goes-append f (told_at core p (input_at input p)) (flat_map (λ p. told_at core p (input_at input p)) ports) q q q
      (other_told core p (input_at input p) q side all.0) (others_told core input ports q side all.1)

  lates_told : (core : Core) (ports : List Port) (q : List Message) → Goes f q (flat_map (told_late core) ports) q
  lates_told core [] q = refl
  lates_told core (p ∷ ports) q = goes-append f (told_late core p) (flat_map (told_late core) ports) q q q (grind arith) (lates_told core ports q)

  late_told : (input : NodeInput) (w : Work) (q : List Message) → Goes f q (told_of_late input w) q
  late_told (AtEnd h i) w q = refl
  late_told TimePasses w q = lates_told w.core (map with_older w.ports) q

  others_before : (input : NodeInput) (w : Work) (q : List Message) → own_side w.core ≡ who → AreOthers w.ports → AreStill f w.entries
      → Goes f q (comes_to_pass input w).entries q
  others_before input w q side all still =
      subst (λ l. Goes f q l q) (sym (before_entries input w))
      (goes-append f w.entries (noted_before_pass input w) q q q (still_goes f w.entries q still)
      (goes-append f (told_of_coming input w) behind q q q
      (goes-append f (flat_map (λ p. told_at w.core p (input_at input p)) w.ports) (told_of_late input (all_come input w)) q q q
      (others_told w.core input w.ports q side all) (late_told input (all_come input w) q))
      (still_goes f behind q (AllByRecursion-append (λ (x : Entry). doing f x ≡ Nothing) (noted_by_deeds 0 (syncs_in input w) (has_freed input w)) _
      (deeds_still f 0 (syncs_in input w) (has_freed input w) (all_synced_mute w.core input w.ports)) (by_test (has_synced input w).cut
      (λ q. rw q tt)
      (λ q. rw q (deeds_still f 0 (owed_in_step input w) (has_synced input w) (all_owed_mute (map (forgets (has_come_so input w).ports)
      (has_come_so input w).ports))))))))) where
        behind : List Entry
        behind = noted_by_deeds 0 (syncs_in input w) (has_freed input w)
            ++ cond (has_synced input w).cut [] (noted_by_deeds 0 (owed_in_step input w) (has_synced input w))

-- ### In turn

pub in_turn_of : (s : List Entry) → ((e : End) → (r : List Message) × Goes e [] s r) → AreInTurn s
in_turn_of s goes front back e q =
    let all = goes e in
    let begun : Front e [] front = front_goes e front back [] all.0 (subst (λ l. Goes e [] l all.0) q all.1) in
    (begun.left, all_left e front [] [] begun.left refl begun.goes)

-- ## As the pass of a node begins, the messages that wait at its ends are what is read

-- ### What is read

module _ (e : End) where
  one_read : (s : List Entry) (x : Entry) (q r : List Message) → unhandled_in s e ≡ q → Becomes (doing e x) q r → unhandled_in (s ++ x ∷ []) e ≡ r
  one_read s (entry.Got f n pid message) q r is b =
      fold-append (unhandled_after e) [] s (entry.Got f n pid message ∷ []) ∙ by_test (same_end f e)
      (λ q. rw q (ap (λ l. l ++ (pid, message) ∷ []) is ∙ (rw q at b)))
      (λ q. rw q (is ∙ (rw q at b)))
  one_read s (entry.Turn f pid message) q r is b =
      fold-append (unhandled_after e) [] s (entry.Turn f pid message ∷ []) ∙ by_test (same_end f e)
      (λ q. rw q (ap (λ l. drop 1 l) (is ∙ (rw q at b))))
      (λ q. rw q (is ∙ (rw q at b)))
  one_read s (entry.Booted n k) q r is b =
      fold-append (unhandled_after e) [] s (entry.Booted n k ∷ []) ∙ by_test (eqb n (node_of e))
      (λ q. rw q (rw q at b))
      (λ q. rw q (is ∙ (rw q at b)))
  one_read s x q r is b = fold-append (unhandled_after e) [] s (x ∷ []) ∙ (is ∙ b)

  pub goes_read : (s es : List Entry) (q r : List Message) → unhandled_in s e ≡ q → Goes e q es r → unhandled_in (s ++ es) e ≡ r
  goes_read s [] q r is g = ap (λ l. unhandled_in l e) (append-nil s) ∙ (is ∙ g)
  goes_read s (x ∷ es) q r is g =
      ap (λ l. unhandled_in l e) (sym (append_assoc s (x ∷ []) es)) ∙ goes_read (s ++ x ∷ []) es g.0 r (one_read s x q g.0 is g.1.0) g.1.1

-- ### Something comes

abbrev IfComing : Option LinkInput → Type 0
IfComing None = Unit {0}
IfComing (Some i) = IsComing i

-- an end of a node on this side
module _ (k : ℕ) (who : Side) where
  abbrev pub its_end : End
  its_end = record { link = k; at_host = is_host_side who }

  pub mine : true ≡ true → has_side who its_end ≡ true
  mine q = grind arith

  others_go : (core : Core) (p : Port) (o : Option LinkInput) (q : List Message) → own_side core ≡ who → eqb p.desk.host k ≡ false
      → Goes its_end q (told_at core p o) q
  others_go core p None q side off = refl
  others_go core p (Some i) q side off =
      subst (λ x. Goes its_end q (entries_for p.desk.host (told x p.session (report p.side i) (whole_acked (after_input p.side i)))) q) (sym side)
      (told_goes its_end p.desk.host who p.session (whole_acked (after_input p.side i)) (report p.side i) q q
      (still_goes its_end _ q (gots_still its_end p.desk.host who p.session (report p.side i).got (same_is who p.desk.host its_end ∙ rw off refl))))

  own_goes : (core : Core) (p : Port) (o : Option LinkInput) → own_side core ≡ who → eqb p.desk.host k ≡ true → IfComing o
      → Goes its_end p.side.got (told_at core p o) (has_come p o).side.got
  own_goes core p None side on c = refl
  own_goes core p (Some i) side on c =
      subst (λ x. Goes its_end p.side.got (entries_for p.desk.host (told x p.session (report p.side i) (whole_acked (after_input p.side i))))
      (after_input p.side i).got) (sym side)
      (told_goes its_end p.desk.host who p.session (whole_acked (after_input p.side i)) (report p.side i) p.side.got (after_input p.side i).got
      (subst (λ z. Goes its_end p.side.got (entries_for p.desk.host (map (Got who p.session) (report p.side i).got)) z) (sym (input_got p.side i c))
      (gots_go its_end p.desk.host who p.session (report p.side i).got p.side.got (grind arith))))

  module _ (input : NodeInput) (outside : IsOutside input) (core : Core) (side : own_side core ≡ who) where
    abbrev noted : Port → List Entry
    noted p = told_at core p (input_at input p)

    others_all : (ports : List Port) (q : List Message) → AllByRecursion (λ j. (eqb j k) ≡ false) (hosts_of_ends ports)
        → Goes its_end q (flat_map noted ports) q
    others_all [] q a = refl
    others_all (p ∷ ports) q a =
        goes-append its_end (noted p) (flat_map noted ports) q q q (others_go core p (input_at input p) q side a.0) (others_all ports q a.1)

    all_go : (ports : List Port) (p : Port) → AreDifferent (hosts_of_ends ports) → port_at ports k ≡ Some p
        → Goes its_end p.side.got (flat_map noted ports) (has_come p (input_at input p)).side.got
    all_go [] p d here = absurd (cc here)
    all_go (x ∷ ports) p d here = by_test (eqb x.desk.host k)
        (λ q. let same : Some x ≡ Some p = rw q at here in
        let is : x ≡ p = cc in
        let A : ℕ → Type 0 = λ n. AllByRecursion (λ j. (eqb j n) ≡ false) (hosts_of_ends ports) in
        subst (λ (y : Port). Goes its_end y.side.got (flat_map noted (x ∷ ports)) (has_come y (input_at input y)).side.got) is
        (goes-append its_end (noted x) (flat_map noted ports) x.side.got (has_come x (input_at input x)).side.got (has_come x (input_at input x)).side.got
        (own_goes core x (input_at input x) side q (grind arith))
        (others_all ports (has_come x (input_at input x)).side.got (subst A (eqb-true x.desk.host k q) d.0))))
        (λ q. goes-append its_end (noted x) (flat_map noted ports) p.side.got p.side.got (has_come p (input_at input p)).side.got
        (others_go core x (input_at input x) p.side.got side q) (all_go ports p d.1 (rw q at here)))

  late_goes : (core : Core) (ports : List Port) (q : List Message) → Goes its_end q (flat_map (told_late core) ports) q
  late_goes core [] q = refl
  late_goes core (p ∷ ports) q = goes-append its_end (told_late core p) (flat_map (told_late core) ports) q q q (grind arith) (late_goes core ports q)

  -- ### A pass begins

  module _ (input : NodeInput) (outside : IsOutside input) (w : Work) (side : own_side w.core ≡ who) (different : AreDifferent (hosts_of_ends w.ports))
      (p : Port) (here : port_at w.ports k ≡ Some p) (fresh : p.turns ≡ []) (still : AreStill its_end w.entries) where
    abbrev pub ms : List Message
    ms = (has_come p (input_at input p)).side.got

    abbrev Is : Option Port → Type 0
    Is o = Known its_end who true mine p.side.got ms ms o

    first_known : Is (port_at (map (λ x. has_come x (input_at input x)) w.ports) k)
    first_known =
        subst Is (sym (at_map (λ x. has_come x (input_at input x)) (λ x. come_host x (input_at input x)) w.ports k p here))
        (ap (λ ts. left_by ts ms) (come_turns p (input_at input p) ∙ fresh), refl)

    came : (i : NodeInput) → i ≡ input → Is (port_at (has_come_so i w).ports k) × Goes its_end p.side.got (has_come_so i w).entries ms
    came (AtEnd h i) is =
        subst (λ (z : NodeInput). Is (port_at (all_come z w).ports k) × Goes its_end p.side.got (all_come z w).entries ms) (sym is)
        (first_known, first_goes) where
          first_goes : Goes its_end p.side.got (all_come input w).entries ms
          first_goes =
              goes-append its_end w.entries (flat_map (noted input outside w.core side) w.ports) p.side.got p.side.got ms
              (still_goes its_end w.entries p.side.got still) (all_go input outside w.core side w.ports p different here)
    came TimePasses is =
        subst (λ (z : NodeInput). Is (port_at (times_out TimePasses (all_come z w)).ports k)
        × Goes its_end p.side.got (times_out TimePasses (all_come z w)).entries ms) (sym is) (
          known_map its_end who true mine p.side.got ms reset_late late_host reset_turns reset_side ms (map with_older first.ports)
              (known_map its_end who true mine p.side.got ms with_older (λ x. refl) (λ x. refl) (λ x. refl) ms first.ports first_known),
          goes-append its_end first.entries (flat_map (told_late first.core) (map with_older first.ports)) p.side.got ms ms
              (goes-append its_end w.entries (flat_map (noted input outside w.core side) w.ports) p.side.got p.side.got ms
              (still_goes its_end w.entries p.side.got still) (all_go input outside w.core side w.ports p different here))
              (late_goes first.core (map with_older first.ports) ms),
        ) where
          first : Work
          first = all_come input w

    pub begun_at : At its_end who true mine p.side.got ms ms (comes_to_pass input w)
    begun_at =
        let come : Work = has_come_so input w in
        let so = came input refl in
        let start : Work = record come { core = after_sessions come.core come.ports; ports = map without_notice (map (forgets come.ports) come.ports) } in
        let zero : At its_end who true mine p.side.got ms ms start = record {
          side = sessions_side come.core come.ports ∙ (grind arith);
          port = known_map its_end who true mine p.side.got ms without_notice without_host (λ x. (without_same x).turns)
              (λ x. ap (λ (z : LinkEnd). z.got) (without_same x).side) ms (map (forgets come.ports) come.ports)
              (known_map its_end who true mine p.side.got ms (forgets come.ports) (forgets_host come.ports) (λ x. (forgets_same come.ports x).turns)
              (λ x. ap (λ (z : LinkEnd). z.got) (forgets_same come.ports x).side) ms come.ports so.0);
          goes = so.1;
        } in
        let Of : Work → Type 0 = λ v. At its_end who true mine p.side.got ms ms v in
        let does : (deeds : List Deed) (v : Work) → AreMute deeds → Of v → Of (all_done 0 deeds v) =
        λ deeds v mute a. at_all its_end who true mine p.side.got ms ms 0 deeds v mute a in
        let one : Of (has_freed input w) = does (forgotten come.ports) start (forgotten_mute come.ports) zero in
        let two : Of (has_synced input w) = does (syncs_in input w) (has_freed input w) (all_synced_mute w.core input w.ports) one in
        unless Of (all_done 0 (owed_in_step input w)) (has_synced input w)
        (λ v a. does (owed_in_step input w) v (all_owed_mute (map (forgets come.ports) come.ports)) a) two

    came_read : (t : List Entry) → unhandled_in t its_end ≡ p.side.got → (q : Port) → port_at (comes_to_pass input w).ports k ≡ Some q
        → unhandled_in (t ++ (comes_to_pass input w).entries) its_end ≡ q.side.got
    came_read t was q there =
        goes_read its_end t (comes_to_pass input w).entries p.side.got ms was begun_at.goes ∙ sym (subst Is there begun_at.port).1

-- ### Ends that are there

pub one_at : (ports : List Port) (k : ℕ) → is_one_of (hosts_of_ends ports) k ≡ true → (p : Port) × (port_at ports k ≡ Some p)
one_at [] k one = absurd (true≢false (sym one))
one_at (p ∷ ports) k one = by_test (eqb p.desk.host k)
    (λ is. (p, ap (λ b. cond b (Some p) (port_at ports k)) is))
    (λ off. let found = one_at ports k (sym (ap (λ b. b || is_one_of (hosts_of_ends ports) k) off) ∙ one) in
    (found.0, ap (λ b. cond b (Some p) (port_at ports k)) off ∙ found.1))

-- an end that a node has as its pass begins it had as its step began
was_there : (input : NodeInput) (w : Work) (k : ℕ) (q : Port) → port_at (comes_to_pass input w).ports k ≡ Some q → (p : Port) × (port_at w.ports k ≡ Some p)
was_there input w k q there =
    one_at w.ports k (ap (λ hs. is_one_of hs k) (sym (before_hosts input w)) ∙ one_found (comes_to_pass input w).ports k q there)

-- and the other way round
pub there_still : (input : NodeInput) (w : Work) (k : ℕ) (p : Port) → port_at w.ports k ≡ Some p
    → (q : Port) × (port_at (comes_to_pass input w).ports k ≡ Some q)
there_still input w k p there =
    one_at (comes_to_pass input w).ports k (ap (λ hs. is_one_of hs k) (before_hosts input w) ∙ one_found w.ports k p there)

-- ## In a history, as a pass of the controller begins, the messages that wait at its ends are those that are read

-- ### Worlds

-- what waits at the ends of a world, and what is held at those of the controller, is what is read
pub record WaitsRead (t : List Entry) (w : NodeWorld) : Type 0 where
  pub all : AllWait t w
  pub holds : HoldsRead t w

pub reads_last : (t : List Entry) (w : NodeWorld) (c : Happening) → WaitsRead t w → MayBoot w c → WaitsRead (t ++ (world_step w c).1) (world_step w c).0
reads_last t w c a may = record {
  all = record {
    orderly = step_orderly w c a.all.orderly;
    waiting = λ b h.
        let before : Waiting t w b h = a.all.waiting b h in
        let one : Moves b h (world_step w c).0 (world_step w c).1 before.messages =
        events_move w c a.all.orderly may b h before.messages before.waits in
        record {
          messages = one.left;
          goes = goes-append (end_at b h) t (world_step w c).1 [] before.messages one.left before.goes one.goes;
          waits = one.waits;
        };
  };
  holds = event_holds t w c a.holds a.all.orderly;
}

pub new_reads : (hosts : List ℕ) → AreHosts hosts → WaitsRead [] (new_world hosts)
new_reads hosts are = record {
  all = record {
    orderly = new_orderly hosts are.different (numbers hosts are.all);
    waiting = λ b h. record { messages = []; goes = refl; waits = none_wait hosts b h };
  };
  holds = λ r q k. let no : None ≡ Some r = q in absurd (cc no);
}

-- so it is behind any first events of a history
pub history_waits : (header : Header) (lines : List Line) (t : NodeHistory) → FollowsNodes header lines t → AreHosts header.hosts.items
    → (front back : List Occurrence) → occurrences_in t ≡ front ++ back → WaitsRead (entries_in front) (world_behind (new_world header.hosts.items) front)
history_waits header lines t follows are front back parts =
    history_holds WaitsRead MayBoot AnyLine reads_last boots_may header lines t follows (new_reads header.hosts.items are) (all_lines lines) front back parts

-- ### The controller

-- an end as a step begins
pub port_begins : (near_ends : ℕ → NumberedEnd) (desks : List Desk) (k : ℕ) (p : Port) → port_at (ports_for near_ends desks) k ≡ Some p
    → (p.turns ≡ []) × (p.side ≡ (near_ends k).side)
port_begins near_ends [] k p here = absurd (cc here)
port_begins near_ends (d ∷ desks) k p here = by_test (eqb d.host k)
    (λ q. grind arith)
    (λ q. port_begins near_ends desks k p (rw q at here))

-- what waits at an end of a controller that runs
near_read : (t : List Entry) (w : NodeWorld) → AllWait t w → (r : Running) → w.controller ≡ Some r → (k : ℕ) (s : Site) → site_at w.sites k ≡ Some s
    → unhandled_in t (end_c k) ≡ s.link.controller.side.got
near_read t w a r runs k s here =
    let all : Waiting t w false k = a.waiting false k in
    let power : ByPower (is_some w.controller) all.messages s.link.controller.side.got = subst (NearWaits w.controller all.messages) here all.waits in
    goes_read (end_c k) [] t [] all.messages refl all.goes ∙ (grind arith)

module _ (t : List Entry) (w : NodeWorld) (r : Running) (number : r.core.node ≡ 0) (ends : map (λ (d : Desk). d.host) r.desks ≡ hosts_in w.sites)
    (different : AreDifferent (hosts_in w.sites)) (near_ends : ℕ → NumberedEnd) (es : List Entry)
    (same : (k : ℕ) → (near_ends k).side ≡ (link_to w.sites k).controller.side)
    (waits : (k : ℕ) (s : Site) → site_at w.sites k ≡ Some s → unhandled_in t (end_c k) ≡ s.link.controller.side.got)
    (holds : (k : ℕ) → holds_in t (end_c k) ≡ is_held_among r.desks k) where
  abbrev start : Work
  start = work_of r w.memory.plan near_ends es

  hosts_are : hosts_of_ends start.ports ≡ hosts_in w.sites
  hosts_are = hosts_same near_ends r.desks ∙ ends

  side : own_side start.core ≡ Controller
  side = ap (λ m. cond (eqb m 0) Controller Host) number

  begins_read : (input : NodeInput) → IsOutside input → ((k : ℕ) → AreStill (end_c k) es)
      → AreNoTurns es → AreNoBoots es
      → MessagesAreRead (t ++ (comes_to_pass input start).entries) (comes_to_pass input start).ports
  begins_read input outside still none un = record {
    waiting = λ k q there.
        let p = was_there input start k q there in
        let begins = port_begins near_ends r.desks k p.0 p.1 in
        let site : HasSite w.sites k = site_for start.ports w.sites k p.0 hosts_are p.1 in
        came_read k Controller input outside start side (subst AreDifferent (sym hosts_are) different) p.0 p.1 begins.0 (still k) t
        (grind arith) q there;
    held = λ k q there.
        begun_read 0 Controller t input start number side none un (λ j. holds j ∙ sym (ports_held near_ends r.desks j)) k
        ∙ ap (λ o. option_map_or (λ (p : Port). p.desk.holds) o false) there;
  }

-- as something comes
pub comes_messages : (t : List Entry) (w : NodeWorld) → WaitsRead t w → (r : Running) → w.controller ≡ Some r → (h : ℕ) (comes : Comes) (i : LinkInput)
    → input_of (link_to w.sites h) comes ≡ Some i
    → MessagesAreRead (t ++ (comes_to_pass (AtEnd h i) (controller_begins w r h comes)).entries)
    (comes_to_pass (AtEnd h i) (controller_begins w r h comes)).ports
comes_messages t w a r runs h comes i input =
    let has : HasEnds 0 (hosts_in w.sites) r = node_is 0 (hosts_in w.sites) w.controller r a.all.orderly.controller runs in
    begins_read t w r has.number has.ends a.all.orderly.different (λ k. near_end_in (link_to w.sites k) (comes_to h comes k))
    (entries_for h (arrival Controller (link_to w.sites h) comes)) (λ k. near_end_side (link_to w.sites k) (comes_to h comes k))
    (near_read t w a.all r runs) (a.holds r runs) (AtEnd h i) (comes_outside (link_to w.sites h) comes i input)
    (λ k. arrival_still (end_c k) Controller h (link_to w.sites h) comes) (links_none h (arrival Controller (link_to w.sites h) comes))
    (notes_unbooted h (arrival Controller (link_to w.sites h) comes))

-- as time passes
pub tick_messages : (t : List Entry) (w : NodeWorld) → WaitsRead t w → (r : Running) → w.controller ≡ Some r
    → MessagesAreRead ((t ++ (all_aged w).1) ++ (comes_to_pass TimePasses (as_it_ticks w r)).entries)
    (comes_to_pass TimePasses (as_it_ticks w r)).ports
tick_messages t w a r runs =
    let has : HasEnds 0 (hosts_in w.sites) r = node_is 0 (hosts_in w.sites) w.controller r a.all.orderly.controller runs in
    let kept : hosts_in (all_aged w).0.sites ≡ hosts_in w.sites = sites_same older (λ s. refl) w.sites in
    begins_read (t ++ (all_aged w).1) (all_aged w).0 r has.number (has.ends ∙ sym kept) (subst AreDifferent (sym kept) a.all.orderly.different)
    (λ k. (link_to (all_aged w).0.sites k).controller) [] (λ k. refl) waits (λ k. aged_leave w t k ∙ a.holds r runs k) TimePasses tt (λ k. tt) tt tt
  where
    older : Site → Site
    older s = record s { link = aged s.link }

    gone : Site → List Entry
    gone s = entries_for s.host (aged_entries Controller s.link.to_controller ++ aged_entries Host s.link.to_host)

    quiet : (k : ℕ) → Leaves (end_c k) (all_aged w).1
    quiet k = flat_leaves (end_c k) gone (λ s. still_leaves (end_c k) (gone s) (notes_still (end_c k) s.host
        (aged_entries Controller s.link.to_controller ++ aged_entries Host s.link.to_host)
        (aged_none Controller Host s.link.to_controller s.link.to_host))) w.sites

    waits : (k : ℕ) (s : Site) → site_at (all_aged w).0.sites k ≡ Some s → unhandled_in (t ++ (all_aged w).1) (end_c k) ≡ s.link.controller.side.got
    waits k s here =
        sites_is older (λ x. refl) w.sites k
        (λ o. o ≡ Some s → unhandled_in (t ++ (all_aged w).1) (end_c k) ≡ s.link.controller.side.got)
        (λ z q. let no : None ≡ Some s = q in absurd (cc no))
        (λ x z q.
        let same : Some (older x) ≡ Some s = q in
        let is : older x ≡ s = cc in
        goes_read (end_c k) t (all_aged w).1 x.link.controller.side.got x.link.controller.side.got (near_read t w a.all r runs k x z)
        (quiet k x.link.controller.side.got)
        ∙ ap (λ (y : Site). y.link.controller.side.got) is) here

-- ## In the turns of a pass of the controller the messages at each end have them in the order in which they came

-- what waits at an end of the controller is what came there and had no turn
pub near_goes : (t : List Entry) (w : NodeWorld) → AllWait t w → (r : Running) → w.controller ≡ Some r → (k : ℕ) (s : Site) → site_at w.sites k ≡ Some s
    → Goes (end_c k) [] t s.link.controller.side.got
near_goes t w a r runs k s here =
    let all : Waiting t w false k = a.waiting false k in
    let power : ByPower (is_some w.controller) all.messages s.link.controller.side.got = subst (NearWaits w.controller all.messages) here all.waits in
    subst (Goes (end_c k) [] t) (grind arith) all.goes

module _ (t : List Entry) (w : NodeWorld) (r : Running) (number : r.core.node ≡ 0) (ends : map (λ (d : Desk). d.host) r.desks ≡ hosts_in w.sites)
    (different : AreDifferent (hosts_in w.sites)) (near_ends : ℕ → NumberedEnd) (es : List Entry)
    (same : (k : ℕ) → (near_ends k).side ≡ (link_to w.sites k).controller.side)
    (near : (k : ℕ) (s : Site) → site_at w.sites k ≡ Some s → Goes (end_c k) [] t s.link.controller.side.got)
    (any : (e : End) → (q : List Message) × Goes e [] t q)
    (input : NodeInput) (outside : IsOutside input) (still : (e : End) → AreStill e es) where
  abbrev start_of_in_turn : Work
  start_of_in_turn = work_of r w.memory.plan near_ends es

  abbrev begun : Work
  begun = comes_to_pass input start_of_in_turn

  hosts_are_of_in_turn : hosts_of_ends start_of_in_turn.ports ≡ hosts_in w.sites
  hosts_are_of_in_turn = hosts_same near_ends r.desks ∙ ends

  side_of_in_turn : own_side start_of_in_turn.core ≡ Controller
  side_of_in_turn = ap (λ m. cond (eqb m 0) Controller Host) number

  begun_own : own_side begun.core ≡ Controller
  begun_own = begun_side Controller input start_of_in_turn side_of_in_turn

  then_goes : (e : End) (q r : List Message) → Goes e [] t q → Goes e q begun.entries r → Goes e [] (t ++ begun.entries) r
  then_goes e q r a b = goes-append e t begun.entries [] q r a b

  none_off : (k : ℕ) (ports : List Port) → port_at ports k ≡ None
      → AllByRecursion (λ (p : Port). same_end (end_of p.desk.host Controller) (end_c k) ≡ false) ports
  none_off k [] here = tt
  none_off k (p ∷ ports) here = by_test (eqb p.desk.host k)
      (λ q. let no : Some p ≡ None = rw q at here in absurd (cc no))
      (λ q. (rw q refl, none_off k ports (rw q at here)))

  far_off : (k : ℕ) (ports : List Port)
      → AllByRecursion (λ (p : Port). same_end (end_of p.desk.host Controller) (record { link = k; at_host = true }) ≡ false) ports
  far_off k [] = tt
  far_off k (p ∷ ports) = (same_is Controller p.desk.host (record { link = k; at_host = true }) ∙ and-false (eqb p.desk.host k), far_off k ports)

  all_goes : (v : Work) → ComesTo begun v → (b : Bool) (k : ℕ)
      → (q : List Message) × Goes (record { link = k; at_host = b }) [] (t ++ v.entries) q
  all_goes v c true k =
      let f : End = record { link = k; at_host = true } in
      let z = any f in (
        z.0,
        apart_comes t Controller f refl z.0 begun v begun_own (then_goes f z.0 z.0 z.1
            (others_before f Controller input start_of_in_turn z.0 side_of_in_turn (far_off k start_of_in_turn.ports) (still f))) c,
      )
  all_goes v c false k = by (port_at start_of_in_turn.ports k) refl where
    by : (o : Option Port) → port_at start_of_in_turn.ports k ≡ o → (q : List Message) × Goes (end_c k) [] (t ++ v.entries) q
    by None here =
        let z = any (end_c k) in
        let none : waiting_at begun.ports k ≡ [] = by_option (port_at begun.ports k)
        (λ q. ap (λ o. option_map_or (λ (p : Port). p.side.got) o []) q)
        (λ p q. let was = was_there input start_of_in_turn k p q in
        let no : None ≡ Some was.0 = sym here ∙ was.1 in
        absurd (cc no)) in (
          waiting_at v.ports k ++ z.0,
          runs_comes t Controller k z.0 begun v begun_own
              (subst (λ l. Goes (end_c k) [] (t ++ begun.entries) (l ++ z.0)) (sym none)
              (then_goes (end_c k) z.0 z.0 z.1 (others_before (end_c k) Controller input start_of_in_turn z.0 side_of_in_turn
              (none_off k start_of_in_turn.ports here) (still (end_c k))))) c,
        )
    by (Some p) here = by_option (port_at begun.ports k)
        (λ q. let no = there_still input start_of_in_turn k p here in let bad : None ≡ Some no.0 = sym q ∙ no.1 in absurd (cc bad))
        (λ x q. let a = begun_at k Controller input outside start_of_in_turn side_of_in_turn apart p here begins.0 (still (end_c k)) in
        let known = subst (Known (end_c k) Controller true (mine k Controller) p.side.got all all) q a.port in
        let waits : waiting_at begun.ports k ++ [] ≡ all =
        append-nil (waiting_at begun.ports k) ∙ (ap (λ o. option_map_or (λ (p : Port). p.side.got) o []) q ∙ known.1) in (
          waiting_at v.ports k ++ [],
          runs_comes t Controller k [] begun v begun_own
              (subst (Goes (end_c k) [] (t ++ begun.entries)) (sym waits) (then_goes (end_c k) p.side.got all z a.goes)) c,
        )) where
          begins : (p.turns ≡ []) × (p.side ≡ (near_ends k).side)
          begins = port_begins near_ends r.desks k p here

          apart : AreDifferent (hosts_of_ends start_of_in_turn.ports)
          apart = subst AreDifferent (sym hosts_are_of_in_turn) different

          all : List Message
          all = ms k Controller input outside start_of_in_turn side_of_in_turn apart p here begins.0 (still (end_c k))

          z : Goes (end_c k) [] t p.side.got
          z =
              let site : HasSite w.sites k = site_for start_of_in_turn.ports w.sites k p hosts_are_of_in_turn here in
              let got : site.site.link.controller.side.got ≡ p.side.got =
              ap (λ (l : Link). l.controller.side.got) (sym (link_is w.sites k site.site site.there))
              ∙ ap (λ (e : LinkEnd). e.got) (sym (same k) ∙ sym begins.1) in
              subst (Goes (end_c k) [] t) got (near k site.site site.there)

  -- in whatever order the ends have their turns
  pub turns_in_order : (v : Work) → ComesTo begun v → AreInTurn (t ++ v.entries)
  turns_in_order v c = in_turn_of (t ++ v.entries) (λ e. all_goes v c e.at_host e.link)
