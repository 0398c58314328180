-- In the turns of a pass, in whatever order, no more commands are noted than are paid for, nor than came of causes.
use Rattle.std.proofs.lemmas.List.Elements.{filter-append}
use Rattle.node_laws.proofs.Words.{AreCausedSo, AreDifferent, AreHosts, AreInTurn, AsksReset, AtEnd, Bool, Comes, ComesTo, Controller, Core, End, Entry, Gets}
use Rattle.node_laws.proofs.Words.{Got, Happening, HasEnds, Host, IfItRuns, IsFrontOf, LinkInput, List, Message, NextFrame, NoInput, NodeInput, NodeWorld, None}
use Rattle.node_laws.proofs.Words.{Noted, NumberedEnd, Occurrence, Option, Port, Report, Reset, Running, Saying, Site, Some, Start, Starts, Stop, Stops, Takes}
use Rattle.node_laws.proofs.Words.{TimePasses, Work, [], after_input, aged, aged_entries, all_aged, all_come, ap, append-nil, append_assoc, arith, arrival}
use Rattle.node_laws.proofs.Words.{as_it_ticks, by_option, by_test, comes_to, comes_to_pass, commands_by_events, commands_noted, cond}
use Rattle.node_laws.proofs.Words.{controller_begins, controller_work, deeds_of, end_c, end_of_node, entries_for, entries_in, eqb, false, filter_map-append}
use Rattle.node_laws.proofs.Words.{flat_map, flat_map-append, forgets, frames_noted, goes_through_ends, good_of, got_in, got_in_session, handles, has_come_so}
use Rattle.node_laws.proofs.Words.{has_freed, has_synced, have_turns, holds_back, hosts_in, hosts_of_ends, input_at, input_of, is_good, lack, length}
use Rattle.node_laws.proofs.Words.{length-map, lets_go, link_to, map, near_end_in, needs, new_world, noted_by_deeds, option_map_or, other_end, owed_in_step}
use Rattle.node_laws.proofs.Words.{own_side, passes, port_at, refl, report, said, said_of, same_end, sent_by, sent_in, site_at, steps, subst, sym, syncs_in}
use Rattle.node_laws.proofs.Words.{takes_up, told, told_at, told_late, told_of_coming, told_of_late, true, true≢false, unless_cut, whole_acked, wires_for}
use Rattle.node_laws.proofs.Words.{with_older, world_behind, world_step, ℕ, ◌++◌, ◌+◌, ◌∙◌, ◌∷◌, ◌≡◌, ◌≤◌}
use Rattle.link_laws.specs.entries.Entries.{End as Side}
use Rattle.node_laws.proofs.bounds.Paying.{AreFronts, PaidSo, few_committed, other_twice, paid_so}
use Rattle.node_laws.proofs.bounds.Turns.{IsNoSent, Owes, costs, costs-append, less, node_holds, noted, notes_free, pays, pays-append}
use Rattle.node_laws.proofs.bounds.SessionsNoted.{begun_owes, handled, held, marked, syncs_told}
use Rattle.node_laws.proofs.bounds.Worlds.{all_took, arrival_free, begins_so, came_from, controller_side, ticks_told, told_once, world_holds}
use Rattle.node_laws.proofs.kept.Events.{hosts_same as sites_same}
use Rattle.node_laws.proofs.order.Lines.{IsSo, next_so, of_none}
use Rattle.node_laws.proofs.order.Sessions.{in_order_so}
use Rattle.node_laws.proofs.passes.InSteps.{before_entries}
use Rattle.node_laws.proofs.passes.Passing.{comes_so, handles_entries, holds_notes, lets_notes, own_held}
use Rattle.node_laws.proofs.readings.Sites.{comes_outside, near_end_side}
use Rattle.node_laws.proofs.reply_passes.Ordered.{deeds_still, near_goes, turns_in_order}
use Rattle.node_laws.proofs.steps.StepWalks.{got_at, holds_of_step_walks as holds, lets, unless}
use Rattle.node_laws.proofs.telling.Ticks.{wires_all}
use Rattle.node_laws.proofs.telling.Lasting.{occurs}
use Rattle.node_laws.proofs.telling.Accounts.{all_owed_mute, all_synced_mute, deeds_mute}
use Rattle.node_laws.proofs.telling.Events.{hosts_same_of_nodes as hosts_same}
use Rattle.node_laws.proofs.turns.Passing.{AreNoGots, AreStill, Goes, goes-append, notes_still}
use Rattle.node_laws.proofs.turns.Worlds.{AllWait}
use Rattle.node_laws.proofs.turns.Nodes.{Leaves, aged_none, arrival_still, flat_leaves, sites_is, still_leaves}
use Rattle.trace_model.specs.declared.entry.Entry.TheVariants as entry

-- ## In the turns of a pass too, in whatever order the ends have them, no more commands are noted than are paid for

-- ### What is paid

-- over turns, in whatever order
comes_owe : (side : Side) (all : ℕ) (w v : Work) → Owes side 0 all w → ComesTo w v → Owes side 0 all v
comes_owe side all w v a c = comes_so (Owes side 0 all) (record {
  handled = λ u h m messages b on waiting room still. handled side all h m u b;
  held = λ u h m messages short b on waiting lacks.
      holds (Owes side 0 all) (held side all) (λ k flag x d. marked side all 0 k flag x d)
      (λ k need spare x d. noted side all 0 0 (entry.Held (end_of_node x.core k) need spare ∷ []) x (omega arith) d) h short u b;
  let_go = λ u h b on waiting. lets (Owes side 0 all) (held side all) h u b;
}) w a v c

-- ### What came

-- no message comes by these
abbrev NoGets : List Entry → Type 0
NoGets es = (e : End) (n : ℕ) → got_in es e n ≡ []

gets-append : (s t : List Entry) → NoGets s → NoGets t → NoGets (s ++ t)
gets-append s t a b e n = let h0 = filter_map-append (λ x. got_in_session n (said_of e x)) s t in grind arith

-- it tells of no message that came
abbrev IsNoGet : Saying → Type 0
IsNoGet (Gets k m) = ⊥
IsNoGet _ = Unit {0}

abbrev SaysNoGet : Option (End × Saying) → Type 0
SaysNoGet None = Unit {0}
SaysNoGet (Some (f, saying)) = IsNoGet saying

-- what leaves the messages that wait at an end brings none there
still_gets : (e : End) (es : List Entry) (n : ℕ) → AreStill e es → got_in es e n ≡ []
still_gets e [] n a = refl
still_gets e (entry.Got f k pid m ∷ es) n a = let h0 = same_end f e in let h1 = still_gets e es n a.1 in grind arith
still_gets e (x ∷ es) n a = let h0 = got_in es e n in let h1 = said x in let h2 = still_gets e es n a.1 in grind arith

-- behind a node as its pass begins nothing came
record Behind (w v : Work) : Type 0 where
  es : List Entry
  is : v.entries ≡ w.entries ++ es
  none : NoGets es

more : (w u v : Work) (fs : List Entry) → Behind w u → v.entries ≡ u.entries ++ fs → NoGets fs → Behind w v
more w u v fs a is none = record {
  es = a.es ++ fs;
  is = is ∙ (ap (λ z. z ++ fs) a.is ∙ append_assoc w.entries a.es fs);
  none = gets-append a.es fs a.none none;
}

comes_behind : (w v : Work) → ComesTo w v → Behind w v
comes_behind w v c = comes_so (Behind w) (record {
  handled = λ u h m messages b on waiting room still.
      more w u (handles h m (deeds_of u.core u.ports h m) u) _ b (handles_entries h m (deeds_of u.core u.ports h m) u)
      (gets-append (entry.Turn (end_of_node u.core h) m.0 m.1 ∷ []) (noted_by_deeds h (deeds_of u.core u.ports h m) (takes_up h m u))
      (λ e n. refl)
      (λ e n. still_gets e (noted_by_deeds h (deeds_of u.core u.ports h m) (takes_up h m u)) n
      (deeds_still e h (deeds_of u.core u.ports h m) (takes_up h m u) (deeds_mute u.core u.ports h m))));
  held = λ u h m messages short b on waiting lacks.
      more w u (holds_back h short u) (own_held h short u) b (holds_notes h short u).entries (held_gets u h short);
  let_go = λ u h b on waiting. more w u (lets_go h u) [] b (lets_notes h u).entries (λ e n. refl);
}) w (record { es = []; is = sym (append-nil w.entries); none = λ e n. refl }) v c
  where
    held_gets : (u : Work) (h : ℕ) (short : ℕ × ℕ) → NoGets (own_held h short u)
    held_gets u h short e n = by_test (option_map_or (λ (p : Port). p.desk.holds) (port_at u.ports h) false) (λ q. rw q refl) (λ q. rw q refl)

-- ### Fronts stay fronts

front_more : (xs ys zs : List Message) → IsFrontOf xs ys → IsFrontOf xs (ys ++ zs)
front_more xs ys zs a = (a.0 ++ zs, sym (append_assoc xs a.0 zs) ∙ ap (λ l. l ++ zs) a.1)

fronts_more : (t es : List Entry) → NoGets es → AreFronts t → AreFronts (t ++ es)
fronts_more t es none fronts e n =
    let got : got_in (t ++ es) e n ≡ got_in t e n =
    filter_map-append (λ x. got_in_session n (said_of e x)) t es ∙ (ap (λ z. got_in t e n ++ z) (none e n) ∙ append-nil (got_in t e n)) in
    let sent : good_of (sent_in (t ++ es) (other_end e) n) ≡ good_of (sent_in t (other_end e) n) ++ good_of (sent_in es (other_end e) n) =
    ap good_of (filter_map-append (λ x. sent_by n (said_of (other_end e) x)) t es)
    ∙ filter-append (λ (m : Message). is_good m.1) (sent_in t (other_end e) n) (sent_in es (other_end e) n) in
    subst (λ z. IsFrontOf z (good_of (sent_in (t ++ es) (other_end e) n))) (sym got)
    (subst (IsFrontOf (got_in t e n)) (sym sent)
    (front_more (got_in t e n) (good_of (sent_in t (other_end e) n)) (good_of (sent_in es (other_end e) n)) (fronts e n)))

-- ### In a pass

-- Where what was noted before a step is paid for, with what the node keeps, and messages are in order as its pass begins and have their turns
-- in order, as many commands are noted as are paid for.
pass_few : (side : Side) (t : List Entry) (before here all : ℕ) (w v : Work) → costs t + before ≤ pays t + all → here ≤ before → Owes side 0 here w
    → ComesTo w v → AreFronts (t ++ w.entries) → AreInTurn (t ++ v.entries) → commands_noted (t ++ v.entries) ≤ all
pass_few side t before here all w v paid most begun reached fronts turned =
    let b : Behind w v = comes_behind w v reached in
    let later : AreFronts (t ++ v.entries) =
    subst AreFronts (append_assoc t w.entries b.es ∙ ap (λ z. t ++ z) (sym b.is)) (fronts_more (t ++ w.entries) b.es b.none fronts) in
    let ps = pays-append t v.entries in
    few_committed all (t ++ v.entries) turned later (omega (arith, paid, most, (comes_owe side here w v begun reached).owes, costs-append t v.entries, ps))

-- ## In each pass of the controller no more commands are noted than came of causes

-- ### Nothing comes

notes_get : (h : ℕ) (notes : List Noted) → AreNoGots notes → NoGets (entries_for h notes)
notes_get h notes none e n = still_gets e (entries_for h notes) n (notes_still e h notes none)

told_gets : (h : ℕ) (who : Side) (n : ℕ) (r : Report) (acked : ℕ) → r.got ≡ [] → NoGets (entries_for h (told who n r acked))
told_gets h who n r acked none = grind arith

flat_gets : {X : Type 0} (f : X → List Entry) → ((x : X) → NoGets (f x)) → (xs : List X) → NoGets (flat_map f xs)
flat_gets f one [] = λ e n. refl
flat_gets f one (x ∷ xs) = gets-append (f x) (flat_map f xs) (one x) (flat_gets f one xs)

-- an input that brings no message, at any end
abbrev BringsNone : NodeInput → Type 0
BringsNone input = (p : Port) → option_map_or (λ i. (report p.side i).got) (input_at input p) [] ≡ []

brings : (b : Bool) (i : LinkInput) (p : Port) → (report p.side i).got ≡ [] → option_map_or (λ j. (report p.side j).got) (cond b (Some i) None) [] ≡ []
brings b i p none = grind arith

module _ (input : NodeInput) (w : Work) (none : BringsNone input) where
  told_none : (core : Core) (p : Port) → NoGets (told_at core p (input_at input p))
  told_none core p = by_option (input_at input p)
      (λ q. rw q (λ e n. refl))
      (λ i q. rw q (told_gets p.desk.host (own_side core) p.session (report p.side i) (whole_acked (after_input p.side i)) (rw q at (none p))))

  late_none : (core : Core) (p : Port) → NoGets (told_late core p)
  late_none core p = grind arith

  lates_none : (input : NodeInput) → NoGets (told_of_late input (all_come input w))
  lates_none (AtEnd h i) = λ e n. refl
  lates_none TimePasses =
      flat_gets (told_late (all_come TimePasses w).core) (late_none (all_come TimePasses w).core) (map with_older (all_come TimePasses w).ports)

  owed_none : (b : Bool) → NoGets (cond b [] (noted_by_deeds 0 (owed_in_step input w) (has_synced input w)))
  owed_none true e n = refl
  owed_none false e n =
      still_gets e (noted_by_deeds 0 (owed_in_step input w) (has_synced input w)) n
      (deeds_still e 0 (owed_in_step input w) (has_synced input w) (all_owed_mute (map (forgets (has_come_so input w).ports) (has_come_so input w).ports)))

  begun_none : NoGets w.entries → NoGets (comes_to_pass input w).entries
  begun_none before =
      subst NoGets (sym (before_entries input w))
      (gets-append w.entries _ before
      (gets-append (told_of_coming input w) _
      (gets-append (flat_map (λ p. told_at w.core p (input_at input p)) w.ports) (told_of_late input (all_come input w))
      (flat_gets (λ p. told_at w.core p (input_at input p)) (told_none w.core) w.ports) (lates_none input))
      (gets-append (noted_by_deeds 0 (syncs_in input w) (has_freed input w)) _
      (λ e n. still_gets e (noted_by_deeds 0 (syncs_in input w) (has_freed input w)) n
      (deeds_still e 0 (syncs_in input w) (has_freed input w) (all_synced_mute w.core input w.ports))) (owed_none (has_synced input w).cut))))

-- ### A step notes more than its beginning

record Extends (w v : Work) : Type 0 where
  es : List Entry
  is : v.entries ≡ w.entries ++ es

module _ (w : Work) where
  ext : (u v : Work) (fs : List Entry) → v.entries ≡ u.entries ++ fs → Extends w u → Extends w v
  ext u v fs is a = record { es = a.es ++ fs; is = is ∙ (ap (λ z. z ++ fs) a.is ∙ append_assoc w.entries a.es fs) }

  having : (h : ℕ) (messages : List Message) (u : Work) → Extends w u → Extends w (have_turns h messages u)
  having h [] u a = ext u (lets_go h u) [] (lets_notes h u).entries a
  having h (m ∷ messages) u a = by_option (lack u.ports (needs h (deeds_of u.core u.ports h m)))
      (λ q. rw q (unless (Extends w) (have_turns h messages) (handles h m (deeds_of u.core u.ports h m) u) (λ v b. having h messages v b)
      (ext u (handles h m (deeds_of u.core u.ports h m) u) _ (handles_entries h m (deeds_of u.core u.ports h m) u) a)))
      (λ short q. rw q (ext u (holds_back h short u) (own_held h short u) (holds_notes h short u).entries a))

  going : (hosts : List ℕ) (u : Work) → Extends w u → Extends w (goes_through_ends hosts u)
  going [] u a = a
  going (h ∷ hosts) u a =
      unless (Extends w) (goes_through_ends hosts) (have_turns h (got_at h u) u) (λ v b. going hosts v b) (having h (got_at h u) u a)

  pass_extends : Extends w (unless_cut passes w)
  pass_extends =
      unless (Extends w) passes w (λ v b. going (map (λ (p : Port). p.desk.host) v.ports) v b) (record { es = []; is = sym (append-nil w.entries) })

-- ### The controller

module _ (hosts : List ℕ) (most : length hosts ≤ 7) (all : ℕ) (os : List Occurrence) (w : NodeWorld) (a : PaidSo hosts all os w) (r : Running)
    (runs : w.controller ≡ Some r) where
  t : List Entry
  t = entries_in os

  has : HasEnds 0 (hosts_in w.sites) r
  has = subst (IfItRuns 0 (hosts_in w.sites)) runs a.so.well.orderly.controller

  few : length w.sites ≤ 7
  few = let one = length-map w.sites (λ (s : Site). s.host) in let two = ap length a.so.hosts_are in omega (arith, one, two, most)

  waits : AllWait (entries_in os) w
  waits = record { orderly = a.so.well.orderly; waiting = a.waiting }

  any : (e : End) → (q : List Message) × Goes e [] (entries_in os) q
  any e = ((a.waiting e.at_host e.link).messages, (a.waiting e.at_host e.link).goes)

  -- messages came in order until the step
  before : AreFronts (entries_in os)
  before e n =
      subst (λ (f : End). IsFrontOf (got_in (entries_in os) f n) (good_of (sent_in (entries_in os) (other_end e) n))) (other_twice e)
      ((in_order_so hosts os w a.so (entries_in os) [] (sym (append-nil (entries_in os)))).delivered (other_end e) n)

  module _ (h : ℕ) where
    abbrev taking : Work
    taking = controller_begins w r h NextFrame

    -- as the first frame on its way is taken
    taken_fronts : (i : LinkInput) → input_of (link_to w.sites h) NextFrame ≡ Some i
        → AreFronts (entries_in os ++ (comes_to_pass (AtEnd h i) taking).entries)
    taken_fronts i seen e n =
        let begun : Work = comes_to_pass (AtEnd h i) taking in
        let k : Work = controller_work w r h NextFrame (steps (AtEnd h i)) in
        let on : Extends begun k = pass_extends begun in
        let frames : List Entry =
        flat_map (λ (s : Site). frames_noted Controller s.host (wires_for s.link (comes_to h NextFrame s.host)) k) w.sites in
        let c : Happening = Takes (end_c h) in
        let did : (world_step w c).1 ≡ k.entries ++ frames = (rw seen (rw runs refl)) in
        let so : IsSo hosts (os ++ occurs w c ∷ []) (world_step w c).0 = next_so of_none hosts os w c a.so tt (λ h q. absurd (true≢false (sym q))) in
        let whole : entries_in (os ++ occurs w c ∷ []) ≡ (entries_in os ++ begun.entries) ++ (on.es ++ frames) =
        flat_map-append (λ (o : Occurrence). o.entries) os (occurs w c ∷ [])
        ∙ (ap (λ z. entries_in os ++ z) (append-nil (world_step w c).1 ∙ (did ∙ (ap (λ z. z ++ frames) on.is ∙ append_assoc begun.entries on.es frames)))
        ∙ sym (append_assoc (entries_in os) begun.entries (on.es ++ frames))) in
        let order = in_order_so hosts (os ++ occurs w c ∷ []) (world_step w c).0 so (entries_in os ++ begun.entries) (on.es ++ frames) whole in
        subst (λ (f : End). IsFrontOf (got_in (entries_in os ++ begun.entries) f n) (good_of (sent_in (entries_in os ++ begun.entries) (other_end e) n)))
        (other_twice e) (order.delivered (other_end e) n)

    -- where no message comes
    quiet : (comes : Comes) (i : LinkInput) → BringsNone (AtEnd h i) → NoGets (controller_begins w r h comes).entries
        → AreFronts (entries_in os ++ (comes_to_pass (AtEnd h i) (controller_begins w r h comes)).entries)
    quiet comes i none first =
        fronts_more (entries_in os) (comes_to_pass (AtEnd h i) (controller_begins w r h comes)).entries
        (begun_none (AtEnd h i) (controller_begins w r h comes) none first) before

    -- whatever comes to the controller's end of this link
    comes_fronts : (comes : Comes) (i : LinkInput) → input_of (link_to w.sites h) comes ≡ Some i
        → AreFronts (entries_in os ++ (comes_to_pass (AtEnd h i) (controller_begins w r h comes)).entries)
    comes_fronts NextFrame i seen = taken_fronts i seen
    comes_fronts (AsksReset window) i seen = by i cc where
      by : (i : LinkInput) → Reset window ≡ i → AreFronts (entries_in os ++ (comes_to_pass (AtEnd h i) (controller_begins w r h (AsksReset window))).entries)
      by i is = subst (λ j. AreFronts (entries_in os ++ (comes_to_pass (AtEnd h j) (controller_begins w r h (AsksReset window))).entries)) is
          (quiet (AsksReset window) (Reset window) (λ p. brings (eqb p.desk.host h) (Reset window) p refl) (λ e n. refl))
    comes_fronts (Starts value) i seen = by i cc where
      by : (i : LinkInput) → Start value ≡ i → AreFronts (entries_in os ++ (comes_to_pass (AtEnd h i) (controller_begins w r h (Starts value))).entries)
      by i is = subst (λ j. AreFronts (entries_in os ++ (comes_to_pass (AtEnd h j) (controller_begins w r h (Starts value))).entries)) is
          (quiet (Starts value) (Start value) (λ p. brings (eqb p.desk.host h) (Start value) p refl) (λ e n. refl))
    comes_fronts Stops i seen = by i cc where
      by : (i : LinkInput) → Stop ≡ i → AreFronts (entries_in os ++ (comes_to_pass (AtEnd h i) (controller_begins w r h Stops)).entries)
      by i is = subst (λ j. AreFronts (entries_in os ++ (comes_to_pass (AtEnd h j) (controller_begins w r h Stops)).entries)) is
          (quiet Stops Stop (λ p. brings (eqb p.desk.host h) Stop p refl) (λ e n. refl))
    comes_fronts NoInput i seen = absurd (cc seen)

    comes_few : (comes : Comes) (i : LinkInput) → input_of (link_to w.sites h) comes ≡ Some i → (v : Work)
        → ComesTo (comes_to_pass (AtEnd h i) (controller_begins w r h comes)) v → commands_noted (entries_in os ++ v.entries) ≤ all
    comes_few comes i seen v reached =
        let near_ends : ℕ → NumberedEnd = λ j. near_end_in (link_to w.sites j) (comes_to h comes j) in
        let es : List Entry = entries_for h (arrival Controller (link_to w.sites h) comes) in
        let start : Work = controller_begins w r h comes in
        let left : ℕ = syncs_told (AtEnd h i) start.ports in
        let start_owes : Owes Controller left (node_holds (Some r) + left) start =
        begins_so Controller 0 (hosts_in w.sites) r w.memory.plan near_ends es left (controller_side r (hosts_in w.sites) has) has
        (omega (arith, (length-map w.sites (λ (s : Site). s.host)), few)) (arrival_free Controller h (link_to w.sites h) comes) in
        let apart : AreDifferent (hosts_of_ends start.ports) =
        subst AreDifferent (sym (hosts_same near_ends r.desks ∙ has.ends)) a.so.well.orderly.different in
        let once = told_once h i start.ports apart in
        let came = came_from w.sites h comes i seen in
        let took = all_took w h comes in
        let was : node_holds w.controller ≡ node_holds (Some r) = ap node_holds runs in
        let paid = a.paid in
        pass_few Controller (entries_in os) (world_holds w) (node_holds (Some r) + left) all (comes_to_pass (AtEnd h i) start) v paid
        (omega (arith, once, came, took, was)) (begun_owes Controller (node_holds (Some r) + left) (AtEnd h i) start start_owes) reached
        (comes_fronts comes i seen)
        (turns_in_order (entries_in os) w r has.number has.ends a.so.well.orderly.different near_ends es
        (λ k. near_end_side (link_to w.sites k) (comes_to h comes k)) (near_goes (entries_in os) w waits r runs) any (AtEnd h i)
        (comes_outside (link_to w.sites h) comes i seen) (λ e. arrival_still e Controller h (link_to w.sites h) comes) v reached)

  -- time passes
  abbrev since : List Entry
  since = entries_in os ++ (all_aged w).1

  abbrev gone : Site → List Entry
  gone s = entries_for s.host (aged_entries Controller s.link.to_controller ++ aged_entries Host s.link.to_host)

  gone_gets : NoGets (all_aged w).1
  gone_gets = flat_gets gone (λ s. notes_get s.host (aged_entries Controller s.link.to_controller ++ aged_entries Host s.link.to_host)
      (aged_none Controller Host s.link.to_controller s.link.to_host)) w.sites

  quiet_ends : (e : End) → Leaves e (all_aged w).1
  quiet_ends e = flat_leaves e gone (λ s. still_leaves e (gone s) (notes_still e s.host
      (aged_entries Controller s.link.to_controller ++ aged_entries Host s.link.to_host)
      (aged_none Controller Host s.link.to_controller s.link.to_host))) w.sites

  abbrev older : Site → Site
  older s = record s { link = aged s.link }

  old_hosts : hosts_in (all_aged w).0.sites ≡ hosts_in w.sites
  old_hosts = sites_same older (λ s. refl) w.sites

  old_near : (k : ℕ) (s : Site) → site_at (all_aged w).0.sites k ≡ Some s → Goes (end_c k) [] since s.link.controller.side.got
  old_near k s here =
      sites_is older (λ x. refl) w.sites k (λ o. o ≡ Some s → Goes (end_c k) [] since s.link.controller.side.got)
      (λ z q. let no : None ≡ Some s = q in absurd (cc no))
      (λ x z q.
      let same : Some (older x) ≡ Some s = q in
      let one : older x ≡ s = cc in
      subst (λ (y : Site). Goes (end_c k) [] since y.link.controller.side.got) one
      (goes-append (end_c k) (entries_in os) (all_aged w).1 [] x.link.controller.side.got x.link.controller.side.got
      (near_goes (entries_in os) w waits r runs k x z) (quiet_ends (end_c k) x.link.controller.side.got))) here

  old_any : (e : End) → (q : List Message) × Goes e [] since q
  old_any e = let z = any e in (z.0, goes-append e (entries_in os) (all_aged w).1 [] z.0 z.0 z.1 (quiet_ends e z.0))

  ticks_few : (v : Work) → ComesTo (comes_to_pass TimePasses (as_it_ticks w r)) v → commands_noted (since ++ v.entries) ≤ all
  ticks_few v reached =
      let near_ends : ℕ → NumberedEnd = λ k. (link_to (all_aged w).0.sites k).controller in
      let start : Work = as_it_ticks w r in
      let start_owes : Owes Controller 0 (node_holds (Some r) + 0) start =
      begins_so Controller 0 (hosts_in w.sites) r w.memory.plan near_ends [] 0 (controller_side r (hosts_in w.sites) has) has
      (omega (arith, length-map w.sites (λ (s : Site). s.host), few)) refl in
      let lost = gone_free w.sites in
      let cs = costs-append (entries_in os) (all_aged w).1 in
      let ps = pays-append (entries_in os) (all_aged w).1 in
      pass_few Controller since (world_holds w) (node_holds (Some r) + 0) all (comes_to_pass TimePasses start) v (omega (arith, a.paid, lost, cs, ps))
      (omega (arith, ap node_holds runs))
      (begun_owes Controller (node_holds (Some r) + 0) TimePasses start
      (less Controller (node_holds (Some r) + 0) 0 (syncs_told TimePasses start.ports) start (omega (arith, ticks_told start.ports)) start_owes)) reached
      (fronts_more since (comes_to_pass TimePasses start).entries (begun_none TimePasses start (λ p. refl) (λ e n. refl))
      (fronts_more (entries_in os) (all_aged w).1 gone_gets before))
      (turns_in_order since (all_aged w).0 r has.number (has.ends ∙ sym old_hosts)
      (subst AreDifferent (sym old_hosts) a.so.well.orderly.different) near_ends [] (λ k. refl) old_near old_any TimePasses tt (λ e. tt) v reached)
    where
      gone_free : (sites : List Site) → costs (flat_map gone sites) ≡ 0
      gone_free [] = refl
      gone_free (s ∷ sites) =
          let first = notes_free s.host (aged_entries Controller s.link.to_controller ++ aged_entries Host s.link.to_host)
          (wires_all IsNoSent (λ w c. tt) Controller Host s.link.to_controller s.link.to_host) in
          omega (arith, first, gone_free sites, costs-append (gone s) (flat_map gone sites))

-- ### Behind events

module _ (hosts : List ℕ) (events : List Occurrence) (are : AreHosts hosts) (most : length hosts ≤ 7) (caused : AreCausedSo (new_world hosts) events)
    (w : NodeWorld) (is : world_behind (new_world hosts) events ≡ w) (r : Running) (runs : w.controller ≡ Some r) where
  so : PaidSo hosts (0 + commands_by_events events) events w
  so = subst (PaidSo hosts (0 + commands_by_events events) events) is (paid_so hosts events are most caused)

  pub passes_bounded : (h : ℕ) (comes : Comes) (i : LinkInput) → input_of (link_to w.sites h) comes ≡ Some i → (v : Work)
      → ComesTo (comes_to_pass (AtEnd h i) (controller_begins w r h comes)) v
      → commands_noted (entries_in events ++ v.entries) ≤ commands_by_events events
  passes_bounded h comes i seen v reached =
      let few = comes_few hosts most (0 + commands_by_events events) events w so r runs h comes i seen v reached in omega (arith, few)

  pub ticks_bounded : (v : Work) → ComesTo (comes_to_pass TimePasses (as_it_ticks w r)) v
      → commands_noted ((entries_in events ++ (all_aged w).1) ++ v.entries) ≤ commands_by_events events
  ticks_bounded v reached = let few = ticks_few hosts most (0 + commands_by_events events) events w so r runs v reached in omega (arith, few)
