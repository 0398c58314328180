-- What one node notes in an event in its parts: its turns in the order of its ends, and the frames that go out behind all else.
use Rattle.std.proofs.lemmas.Cmp.{ranked}
use Rattle.std.proofs.lemmas.Map.Keys.{sorted_head, sorted_tail}
use Rattle.std.specs.List.Sorted.{IsStrictlySortedBy}
use Rattle.std.specs.Ordering.{nat_cmp}
use Rattle.std.specs.declared.cmp.Ordering.TheVariants.{Less}
use Rattle.node_laws.proofs.Words.{Activates, AllByRecursion, AreAlong, AreDifferent, AreHosts, AreNoTurns, AreNotOf, ArePassed, ArePlayable, Arms, AsksReset}
use Rattle.node_laws.proofs.Words.{AtEnd, Bool, Boots, Comes, ComesTo, Controller, Cut, Deed, Emit, End, Entry, FollowsNodes, Gives, Happening, Header, Host}
use Rattle.node_laws.proofs.Words.{IfItRuns, Inits, IsAscending, IsCut, IsNoTurn, IsNodeHeader, IsOrderly, Line, Link, LinkInput, List, Loses, Loss, Lost}
use Rattle.node_laws.proofs.Words.{Message, NextFrame, NoInput, NodeHistory, NodeInput, NodeWorld, None, Noted, OnWire, Option, Resets, Restarted, Site, Some}
use Rattle.node_laws.proofs.Words.{Starts, Takes, Ticks, TimePasses, TurnsAscend, Work, [], activates, aged_entries, all_aged, all_append, all_done, all_flat}
use Rattle.node_laws.proofs.Words.{all_so, ap, append-nil, append_assoc, arith, arrival, beginning, begins_with, by_boot, by_coming, by_controller}
use Rattle.node_laws.proofs.Words.{by_controller_tick, by_host, by_host_tick, by_loss, by_option, by_test, comes_at, comes_to, comes_to_pass, cond}
use Rattle.node_laws.proofs.Words.{controller_begins, controller_does, controller_tick_begins, controller_ticks, controller_work, end_c, end_h, ending_entries}
use Rattle.node_laws.proofs.Words.{ending_of, entries_for, eqb-true, exchanged, false, filter_map, first_lost, flat_map, frames_noted, host_does, host_tick}
use Rattle.node_laws.proofs.Words.{host_ticks, host_work, hosts_in, hosts_of_ends, hosts_tick, inl, inr, is_of_node, link_of_turn, link_to, links_of_turns}
use Rattle.node_laws.proofs.Words.{near_end_in, near_tick, new_world, not, noted_before_pass, noted_by_deeds, option_map_or, passes, port_at, refl, sending}
use Rattle.node_laws.proofs.Words.{steps, subst, sym, told, told_of_coming, true, true≢false, turn_link, unless_cut, wires_for, work_of, world_behind}
use Rattle.node_laws.proofs.Words.{world_step, world_ticks, ℕ, ◌&&◌, ◌++◌, ◌<◌, ◌==◌, ◌∙◌, ◌∷◌, ◌≡◌, ◌≤◌, ◌⊎◌}
use Rattle.link_laws.specs.entries.Entries.{End as Side}
use Rattle.link_laws.specs.entries.Entries.Entry.{Tick}
use Rattle.node_laws.specs.answers.Order.{NodesEmitLast, emits, emitter}
use Rattle.node_laws.specs.passes.Passing.ComesTo.{Begins}
use Rattle.node_laws.proofs.order.Upheld.{AreDone, done_back, history_done}
use Rattle.node_laws.proofs.order.Lines.{history_so}
use Rattle.node_laws.proofs.passes.InSteps.{IsOfStep, NotesNoTurn, NotesOnly, before_entries, before_hosts, before_none, beginning_notes, beginning_turnless}
use Rattle.node_laws.proofs.passes.InSteps.{coming_all, deeds_keep, deeds_note_of_notes as deeds_note, links_none, noted_none, of_deeds, sending_notes}
use Rattle.node_laws.proofs.passes.InSteps.{sending_turnless, step_keeps, steps_are}
use Rattle.node_laws.proofs.passes.Passing.{comes_lasts, links_behind, through}
use Rattle.node_laws.proofs.power.Events.{AreNodes, comes_part, far_tick, near_ticks_part, no_site, others_tick, ticked_nodes, ticked_others}
use Rattle.node_laws.proofs.power.Steps.{own_not, part_own}
use Rattle.node_laws.proofs.readings.Noticed.{numbers}
use Rattle.node_laws.proofs.schedules.Ranges.{hosts_are}
use Rattle.node_laws.proofs.telling.Events.{comes_goes, hosts_same_of_nodes as hosts_same}
use Rattle.node_laws.proofs.telling.Ticks.{arrival_all, ending_all, lost_all, wires_all}
use Rattle.node_laws.proofs.telling.Lasting.{history_event}
use Rattle.node_laws.proofs.telling.Shapes.{told_all}
use Rattle.node_laws.proofs.telling.WorldTicks.{aged_orderly, ticked_orderly}
use Rattle.node_laws.proofs.worlds.Ticking.{far_node, host_begins, near_node}
use Rattle.trace_model.specs.declared.entry.Entry.TheVariants as entry

-- ## Lists of entries in two halves: what holds of each entry of the first, and what of each entry of the second

pub record AreHalves (P Q : Entry → Type 0) (es : List Entry) : Type 0 where
  pub front : List Entry
  pub back : List Entry
  pub is : es ≡ front ++ back
  pub first : AllByRecursion P front
  pub second : AllByRecursion Q back

pub halves_so : (P Q A B : Entry → Type 0) → ((x : Entry) → P x → A x) → ((x : Entry) → Q x → B x) → (es : List Entry) → AreHalves P Q es → AreHalves A B es
halves_so P Q A B one other es a = record {
  front = a.front;
  back = a.back;
  is = a.is;
  first = all_so P A one a.front a.first;
  second = all_so Q B other a.back a.second;
}

module _ (P Q : Entry → Type 0) where
  pub halves_behind : (es fs : List Entry) → AreHalves P Q es → AllByRecursion Q fs → AreHalves P Q (es ++ fs)
  halves_behind es fs a later = record {
    front = a.front;
    back = a.back ++ fs;
    is = ap (λ l. l ++ fs) a.is ∙ append_assoc a.front a.back fs;
    first = a.first;
    second = all_append Q a.back fs a.second later;
  }

  pub halves_before : (es fs : List Entry) → AllByRecursion P fs → AreHalves P Q es → AreHalves P Q (fs ++ es)
  halves_before es fs before a = record {
    front = fs ++ a.front;
    back = a.back;
    is = ap (λ l. fs ++ l) a.is ∙ sym (append_assoc fs a.front a.back);
    first = all_append P fs a.front before a.first;
    second = a.second;
  }

  -- behind an entry that the first half can't have all are of the second
  pub behind_first : (es before behind : List Entry) (x : Entry) → AreHalves P Q es → es ≡ before ++ (x ∷ behind) → (P x → ⊥) → AllByRecursion Q behind
  behind_first es before behind x a is none = go a.front before a.first (sym a.is ∙ is) where
    in_back : (back before : List Entry) → AllByRecursion Q back → back ≡ before ++ (x ∷ behind) → AllByRecursion Q behind
    in_back back [] b z = let all : AllByRecursion Q (x ∷ behind) = subst (AllByRecursion Q) z b in all.1
    in_back [] (u ∷ before) b z = absurd (cc z)
    in_back (y ∷ back) (u ∷ before) b z = let rest : back ≡ before ++ (x ∷ behind) = cc in in_back back before b.1 rest

    go : (front before : List Entry) → AllByRecursion P front → front ++ a.back ≡ before ++ (x ∷ behind) → AllByRecursion Q behind
    go [] before b z = in_back a.back before a.second z
    go (y ∷ front) [] b z = let same : y ≡ x = cc in absurd (none (subst P same b.0))
    go (y ∷ front) (u ∷ before) b z = let rest : front ++ a.back ≡ before ++ (x ∷ behind) = cc in go front before b.1 rest

-- ## What entries of one node have, as a world goes on: a controller activates a link, or time passes

-- P is had by entries of the node n: it lasts as entries of other nodes come behind them, or before them.
module _ (P : List Entry → Type 0) (n : ℕ) (behind : (es fs : List Entry) → P es → AreNotOf n fs → P (es ++ fs))
    (before : (es fs : List Entry) → AreNotOf n fs → P es → P (fs ++ es)) where
  activates_part : (w : NodeWorld) → IsOrderly w → (h sync power : ℕ) → P (comes_at w (end_c h) (Starts power)).1
      → (IsOrderly (comes_at w (end_c h) (Starts power)).0 → P (comes_at (comes_at w (end_c h) (Starts power)).0 (end_h h) (Starts sync)).1)
      → P (activates w h sync power).1
  activates_part w a h sync power here there = by_test (0 == n)
      (λ q. behind near.1 far.1 here (subst (λ m. AreNotOf m far.1) (eqb-true 0 n q) (by_test (h == 0)
      (λ z. let is : far.1 ≡ [] = rw (no_site near.0.sites h z b.hosts) refl in
      subst (AreNotOf 0) (sym is) tt)
      (λ z. own_not h 0 far.1 z (part_own h far.1 (comes_part near.0 (end_h h) (Starts sync) b))))))
      (λ q. before far.1 near.1 (own_not 0 n near.1 q (part_own 0 near.1 (comes_part w (end_c h) (Starts power) a))) (there b)) where
        near : NodeWorld × List Entry
        near = comes_at w (end_c h) (Starts power)

        far : NodeWorld × List Entry
        far = comes_at near.0 (end_h h) (Starts sync)

        b : IsOrderly near.0
        b = (comes_goes w (end_c h) (Starts power) a).orderly

  module _ (empty : P []) (each : (s : Site) → IfItRuns s.host (s.host ∷ []) s.node → P (host_ticks s).1) where
    hosts_part : (sites : List Site) → AreDifferent (hosts_in sites) → AreNodes sites → P (hosts_tick sites).1
    hosts_part [] d a = empty
    hosts_part (s ∷ sites) d a = by_test (s.host == n)
        (λ q. behind (host_ticks s).1 (hosts_tick sites).1 (each s a.0.1)
        (subst (λ m. AreNotOf m (hosts_tick sites).1) (eqb-true s.host n q) (others_tick s.host sites d.0 a.1)))
        (λ q. before (hosts_tick sites).1 (host_ticks s).1 (own_not s.host n (host_ticks s).1 q (part_own s.host (host_ticks s).1 (far_tick s a.0.0 a.0.1)))
        (hosts_part sites d.1 a.1))

    ticks_part : (w : NodeWorld) → IsOrderly w → ((es : List Entry) → P es → P ((all_aged w).1 ++ es)) → P (controller_ticks (all_aged w).0).1
        → P (world_ticks w).1
    ticks_part w a aged_first first = aged_first (near.1 ++ (hosts_tick near.0.sites).1) (by_test (0 == n)
        (λ q. behind near.1 (hosts_tick near.0.sites).1 first
        (subst (λ m. AreNotOf m (hosts_tick near.0.sites).1) (eqb-true 0 n q) (ticked_others w a)))
        (λ q. before (hosts_tick near.0.sites).1 near.1 (own_not 0 n near.1 q (part_own 0 near.1 (near_ticks_part old (aged_orderly w a))))
        (hosts_part near.0.sites (ticked_orderly w a).different (ticked_nodes w a)))) where
          old : NodeWorld
          old = (all_aged w).0

          near : NodeWorld × List Entry
          near = controller_ticks old

-- ### Whatever happens

-- What each part of an event notes has Q: entries that are calm, what deeds note that begin at a host, and what a step notes that goes
-- through such ends. What comes, is lost or grows old is calm; behind it all frames go out.
pub record PartsHave (Calm Frame : Entry → Type 0) (May : Deed → Type 0) (Through : List ℕ → Type 0) (Q : List Entry → Type 0) : Type 0 where
  pub alone : (es : List Entry) → AllByRecursion Calm es → Q es
  pub boot : (k many : ℕ) → Calm (entry.Booted k many)
  pub cut : (k : ℕ) → Calm (entry.Cut k)
  pub lost : (h : ℕ) (who : Side) (why : Loss) (xs : List OnWire) → AllByRecursion Calm (entries_for h (first_lost who why xs))
  pub aged : (h : ℕ) (one other : Side) (xs ys : List OnWire) → AllByRecursion Calm (entries_for h (aged_entries one xs ++ aged_entries other ys))
  pub arrives : (who : Side) (h : ℕ) (l : Link) (comes : Comes) → AllByRecursion Calm (entries_for h (arrival who l comes))
  pub frames : (who : Side) (h : ℕ) (l : Link) (v : Work) → AllByRecursion Frame (frames_noted who h l v)
  pub sends : (h : ℕ) (m : Message) → AllByRecursion May (sending h m)
  pub begins : (identity : List ℕ) (pipes : List (List ℕ)) → AllByRecursion May (beginning identity pipes)
  pub deeds : (h : ℕ) (deeds : List Deed) (w : Work) (frames : List Entry) → AllByRecursion May deeds → AllByRecursion Calm w.entries
      → AllByRecursion Frame frames → Q ((all_done h deeds w).entries ++ frames)
  pub step : (input : NodeInput) (w : Work) (frames : List Entry) → Through (hosts_of_ends w.ports) → AllByRecursion Calm w.entries
      → AllByRecursion Frame frames → Q ((steps input w).entries ++ frames)

module _ (Calm Frame : Entry → Type 0) (May : Deed → Type 0) (Through : List ℕ → Type 0) (one : (k : ℕ) → Through (k ∷ [])) (Q : List Entry → Type 0)
    (have : PartsHave Calm Frame May Through Q) where
  controller_frames : (f : Site → Link) (v : Work) (sites : List Site)
      → AllByRecursion Frame (flat_map (λ (s : Site). frames_noted Controller s.host (f s) v) sites)
  controller_frames f v = all_flat Frame (λ (s : Site). frames_noted Controller s.host (f s) v) (λ s. have.frames Controller s.host (f s) v)

  near_has : (w : NodeWorld) → IsOrderly w → Through (hosts_in w.sites) → (k : ℕ) (comes : Comes) (i : LinkInput)
      → Q (controller_does w k comes (steps (AtEnd k i))).1
  near_has w a ends k comes i =
      by_controller (λ p. Q p.1) w k comes (steps (AtEnd k i)) (have.alone [] tt)
      (λ r q.
      let v : Work = controller_work w r k comes (steps (AtEnd k i)) in
      have.step (AtEnd k i) (controller_begins w r k comes)
      (flat_map (λ (s : Site). frames_noted Controller s.host (wires_for s.link (comes_to k comes s.host)) v) w.sites)
      (subst Through (sym (hosts_same (λ j. near_end_in (link_to w.sites j) (comes_to k comes j)) r.desks ∙ (near_node w r a q).ends)) ends)
      (have.arrives Controller k (link_to w.sites k) comes) (controller_frames (λ s. wires_for s.link (comes_to k comes s.host)) v w.sites))

  far_has : (w : NodeWorld) → IsOrderly w → (k : ℕ) (comes : Comes) (i : LinkInput) → Q (host_does w k comes (steps (AtEnd k i))).1
  far_has w a k comes i =
      by_host (λ p. Q p.1) w k comes (steps (AtEnd k i)) (have.alone [] tt)
      (λ s r found q.
      let v : Work = host_work s r comes (steps (AtEnd k i)) in
      have.step (AtEnd k i) (host_begins s r comes) (frames_noted Host k (wires_for (exchanged s.link) comes) v)
      (subst Through (sym (hosts_same (λ j. near_end_in (exchanged s.link) comes) r.desks ∙ (far_node w k s r a found q).ends)) (one s.host))
      (have.arrives Host s.host (exchanged s.link) comes) (have.frames Host k (wires_for (exchanged s.link) comes) v))

  comes_has : (w : NodeWorld) → IsOrderly w → (e : End) (comes : Comes) → (e.at_host ≡ false → Through (hosts_in w.sites)) → Q (comes_at w e comes).1
  comes_has w a e comes ends =
      by_coming (λ p. Q p.1) w e comes (have.alone [] tt) (λ i at q. far_has w a e.link comes i) (λ i at q. near_has w a (ends at) e.link comes i)

  begins_has : (w : NodeWorld) (h : ℕ) (deeds : List Deed) → AllByRecursion May deeds → Q (host_does w h NoInput (begins_with h deeds)).1
  begins_has w h deeds may =
      by_host (λ p. Q p.1) w h NoInput (begins_with h deeds) (have.alone [] tt)
      (grind arith)

  host_has : (s : Site) → IfItRuns s.host (s.host ∷ []) s.node → Q (host_ticks s).1
  host_has s runs =
      by_host_tick (λ p. Q p.1) s (λ q. have.alone [] tt)
      (λ r q.
      have.step TimePasses (work_of r s.memory.plan (λ h. s.link.host) []) (frames_noted Host s.host (exchanged s.link) (host_tick s r))
      (subst Through (sym (hosts_same (λ h. s.link.host) r.desks ∙ (subst (IfItRuns s.host (s.host ∷ [])) q runs).ends)) (one s.host)) tt
      (have.frames Host s.host (exchanged s.link) (host_tick s r)))

  near_tick_has : (w : NodeWorld) → IsOrderly w → Through (hosts_in w.sites) → Q (controller_ticks (all_aged w).0).1
  near_tick_has w a ends =
      by_controller_tick (λ p. Q p.1) old (λ q. have.alone [] tt)
      (λ r q. have.step TimePasses (controller_tick_begins old r) (flat_map (λ (s : Site). frames_noted Controller s.host s.link (near_tick old r)) old.sites)
      (subst Through (sym (hosts_same (λ k. (link_to old.sites k).controller) r.desks ∙ (near_node w r a q).ends)) ends) tt
      (controller_frames (λ s. s.link) (near_tick old r) old.sites)) where
        old : NodeWorld
        old = (all_aged w).0

  pub aged_calm : (sites : List Site)
      → AllByRecursion Calm (flat_map (λ (s : Site). entries_for s.host
      (aged_entries Controller s.link.to_controller ++ aged_entries Host s.link.to_host)) sites)
  aged_calm =
      all_flat Calm (λ (s : Site). entries_for s.host (aged_entries Controller s.link.to_controller ++ aged_entries Host s.link.to_host))
      (λ s. have.aged s.host Controller Host s.link.to_controller s.link.to_host)

  -- so have the entries of one node, as other nodes note more and frames grow old
  module _ (P : List Entry → Type 0) (n : ℕ) (of_part : (es : List Entry) → Q es → P es) (behind : (es fs : List Entry) → P es → AreNotOf n fs → P (es ++ fs))
      (before : (es fs : List Entry) → AreNotOf n fs → P es → P (fs ++ es)) (calmly : (es fs : List Entry) → AllByRecursion Calm fs → P es → P (fs ++ es)) where
    pub event_has : (w : NodeWorld) (c : Happening) → IsOrderly w → Through (hosts_in w.sites) → P (world_step w c).1
    event_has w (Boots k) a ends = of_part _ (by_boot (λ p. Q p.1) w k (have.alone _ (have.cut k, tt)) (have.alone _ (have.boot k _, tt)))
    event_has w (IsCut k) a ends = of_part _ (have.alone _ (have.cut k, tt))
    event_has w (Gives e m) a ends = of_part _ (begins_has w e.link (sending e.link m) (have.sends e.link m))
    event_has w (Inits e identity pipes) a ends = of_part _ (begins_has w e.link (beginning identity pipes) (have.begins identity pipes))
    event_has w (Takes e) a ends = of_part _ (comes_has w a e NextFrame (λ at. ends))
    event_has w (Loses e why) a ends =
        of_part _ (by_loss (λ p. Q p.1) w e why
        (λ at. have.alone _ (have.lost e.link Host why (link_to w.sites e.link).to_host))
        (λ at. have.alone _ (have.lost e.link Controller why (link_to w.sites e.link).to_controller)))
    event_has w Ticks a ends =
        ticks_part P n behind before (of_part [] (have.alone [] tt)) (λ s runs. of_part (host_ticks s).1 (host_has s runs)) w a
        (λ es p. calmly es (all_aged w).1 (aged_calm w.sites) p) (of_part _ (near_tick_has w a ends))
    event_has w (Resets e window) a ends = of_part _ (comes_has w a e (AsksReset window) (λ at. ends))
    event_has w (Activates h sync power) a ends =
        activates_part P n behind before w a h sync power (of_part _ (comes_has w a (end_c h) (Starts power) (λ at. ends)))
        (λ b. of_part _ (comes_has (comes_at w (end_c h) (Starts power)).0 b (end_h h) (Starts sync) (λ at. absurd (true≢false at))))
    event_has w (Arms k plan) a ends = of_part [] (have.alone [] tt)

-- ## In a step of a node messages have their turns in the order of its ends

-- ### Numbers

module _ (f : Entry → Option ℕ) where
  links_append : (a b : List Entry) → filter_map f (a ++ b) ≡ filter_map f a ++ filter_map f b
  links_append [] b = refl
  links_append (x ∷ a) b = by_option (f x) (λ q. rw q (links_append a b)) (λ n q. rw q (ap (λ l. n ∷ l) (links_append a b)))

  none_there : (es : List Entry) → AllByRecursion (λ x. f x ≡ None) es → filter_map f es ≡ []
  none_there [] a = refl
  none_there (x ∷ es) a = rw a.0 (none_there es a.1)

pub rising : (xs : List ℕ) → IsStrictlySortedBy nat_cmp xs → IsAscending xs
rising [] a = tt
rising (x ∷ xs) a = (low xs (sorted_head nat_cmp x xs a), rising xs (sorted_tail nat_cmp x xs a)) where
  low : (ys : List ℕ) → AllByRecursion (λ y. nat_cmp x y ≡ Less) ys → AllByRecursion (λ y. x ≤ y) ys
  low [] b = tt
  low (y ∷ ys) b = let less : x < y = ranked x y Less (sym b.0) in (omega (arith, less), low ys b.1)

along_low : (b : ℕ) (hosts links : List ℕ) → AllByRecursion (λ y. b ≤ y) hosts → AreAlong hosts links → AllByRecursion (λ y. b ≤ y) links
along_low b hosts [] low a = tt
along_low b [] (k ∷ links) low a = absurd a
along_low b (h ∷ hosts) (k ∷ links) low (inl a) = (subst (λ y. b ≤ y) (sym a.0) low.0, along_low b (h ∷ hosts) links low a.1)
along_low b (h ∷ hosts) (k ∷ links) low (inr a) = along_low b hosts (k ∷ links) low.1 a

same_low : (h : ℕ) → h ≤ h
same_low h = omega arith

along_ascends : (hosts links : List ℕ) → IsAscending hosts → AreAlong hosts links → IsAscending links
along_ascends hosts [] up a = tt
along_ascends [] (k ∷ links) up a = absurd a
along_ascends (h ∷ hosts) (k ∷ links) up (inl a) =
    (subst (λ b. AllByRecursion (λ y. b ≤ y) links) (sym a.0) (along_low h (h ∷ hosts) links (same_low h, up.0) a.1), along_ascends (h ∷ hosts) links up a.1)
along_ascends (h ∷ hosts) (k ∷ links) up (inr a) = along_ascends hosts (k ∷ links) up.1 a

-- ### Of one node

module _ (n : ℕ) where
  either : (b : Bool) (k : ℕ) → (cond b (Some k) None ≡ Some k) ⊎ (cond b (Some k) None ≡ None)
  either b k = grind arith

  -- what is read of this node is part of what is read of all
  part : (x : Entry) → (turn_link n x ≡ link_of_turn x) ⊎ (turn_link n x ≡ None)
  part x = grind arith

  low_part : (b : ℕ) (es : List Entry) → AllByRecursion (λ y. b ≤ y) (links_of_turns es) → AllByRecursion (λ y. b ≤ y) (filter_map (turn_link n) es)
  low_part b [] a = tt
  low_part b (x ∷ es) a = go (link_of_turn x) refl (part x) (low_part b es) where
    Low : List ℕ → Type 0
    Low ys = AllByRecursion (λ y. b ≤ y) ys

    go : (o : Option ℕ) → link_of_turn x ≡ o → (turn_link n x ≡ link_of_turn x) ⊎ (turn_link n x ≡ None)
        → (Low (links_of_turns es) → Low (filter_map (turn_link n) es)) → Low (filter_map (turn_link n) (x ∷ es))
    go None q (inl p) later = rw (p ∙ q) (later (rw q at a))
    go None q (inr p) later = rw p (later (rw q at a))
    go (Some k) q (inl p) later = let c : Low (k ∷ links_of_turns es) = rw q at a in rw (p ∙ q) (c.0, later c.1)
    go (Some k) q (inr p) later = let c : Low (k ∷ links_of_turns es) = rw q at a in rw p (later c.1)

  ascends_part : (es : List Entry) → IsAscending (links_of_turns es) → IsAscending (filter_map (turn_link n) es)
  ascends_part [] a = tt
  ascends_part (x ∷ es) a = go (link_of_turn x) refl (part x) (ascends_part es) where
    go : (o : Option ℕ) → link_of_turn x ≡ o → (turn_link n x ≡ link_of_turn x) ⊎ (turn_link n x ≡ None)
        → (IsAscending (links_of_turns es) → IsAscending (filter_map (turn_link n) es)) → IsAscending (filter_map (turn_link n) (x ∷ es))
    go None q (inl p) later = rw (p ∙ q) (later (rw q at a))
    go None q (inr p) later = rw p (later (rw q at a))
    go (Some k) q (inl p) later = let c : IsAscending (k ∷ links_of_turns es) = rw q at a in rw (p ∙ q) (low_part k es c.0, later c.1)
    go (Some k) q (inr p) later = let c : IsAscending (k ∷ links_of_turns es) = rw q at a in rw p (later c.1)

-- ### A step

abbrev AllAscend : List Entry → Type 0
AllAscend es = IsAscending (links_of_turns es)

turnless_ascend : (es : List Entry) → AreNoTurns es → AllAscend es
turnless_ascend es a = subst IsAscending (sym (none_there link_of_turn es a)) tt

pub frames_turnless : (who : Side) (h : ℕ) (l : Link) (k : Work) → AreNoTurns (frames_noted who h l k)
frames_turnless who h l k = by_option (port_at k.ports h) (λ q. rw q tt) (λ p q. rw q (links_none h (ending_entries who l p.side (ending_of k))))

links_back : (a b : List Entry) → AreNoTurns b → links_of_turns (a ++ b) ≡ links_of_turns a
links_back a b none = links_append link_of_turn a b ∙ (ap (λ l. links_of_turns a ++ l) (none_there link_of_turn b none) ∙ append-nil (links_of_turns a))

step_ascends : (input : NodeInput) (w : Work) (frames : List Entry) → AreNoTurns w.entries → IsAscending (hosts_of_ends w.ports) → AreNoTurns frames
    → AllAscend ((steps input w).entries ++ frames)
step_ascends input w frames quiet up out =
    subst IsAscending (sym (links_back (steps input w).entries frames out))
    (subst (λ (v : Work). AllAscend v.entries) (sym (steps_are input w)) (by_test k.cut
    (λ q. let is : unless_cut passes k ≡ k = rw q refl in subst (λ (v : Work). AllAscend v.entries) (sym is) (turnless_ascend k.entries none))
    (λ q. let is : unless_cut passes k ≡ passes k = rw q refl in
    let p : ArePassed (ComesTo k) (hosts_of_ends k.ports) k (passes k) = through (ComesTo k) (comes_lasts k) (hosts_of_ends k.ports) k Begins q in
    subst (λ (v : Work). AllAscend v.entries) (sym is)
    (subst AllAscend (sym p.entries) (subst IsAscending (sym (links_behind k.entries p.more none))
    (along_ascends (hosts_of_ends k.ports) (links_of_turns p.more) (subst IsAscending (sym (before_hosts input w)) up) p.along)))))) where
      k : Work
      k = comes_to_pass input w

      none : AreNoTurns k.entries
      none = subst AreNoTurns (sym (before_entries input w)) (all_append IsNoTurn w.entries (noted_before_pass input w) quiet (before_none input w))

-- ## In each event a node's turns are in the order of its ends

-- ### Events without turns

deeds_turnless : (h : ℕ) (deeds : List Deed) (w : Work) (frames : List Entry) → AllByRecursion NotesNoTurn deeds → AreNoTurns w.entries → AreNoTurns frames
    → AreNoTurns ((all_done h deeds w).entries ++ frames)
deeds_turnless h deeds w frames may none out =
    all_append IsNoTurn (all_done h deeds w).entries frames
    (subst AreNoTurns (sym (deeds_note h deeds w))
    (all_append IsNoTurn w.entries (noted_by_deeds h deeds w) none (noted_none h deeds w may))) out

pub begun_turnless : (w : NodeWorld) (h : ℕ) (deeds : List Deed) → AllByRecursion NotesNoTurn deeds
    → AreNoTurns (host_does w h NoInput (begins_with h deeds)).1
begun_turnless w h deeds may =
    by_host (λ p. AreNoTurns p.1) w h NoInput (begins_with h deeds) tt
    (λ s r found q.
    deeds_turnless h deeds (host_begins s r NoInput) _ may (links_none s.host (arrival Host (exchanged s.link) NoInput))
    (frames_turnless Host h (wires_for (exchanged s.link) NoInput) (host_work s r NoInput (begins_with h deeds))))

-- ### One node's turns

module _ (n : ℕ) where
  abbrev Own : List Entry → Type 0
  Own es = IsAscending (filter_map (turn_link n) es)

  other_turn : (x : Entry) → is_of_node n x ≡ false → turn_link n x ≡ None
  other_turn x q = grind arith

  pub other_turns : (es : List Entry) → AreNotOf n es → AllByRecursion (λ x. turn_link n x ≡ None) es
  other_turns es a = all_so (λ x. is_of_node n x ≡ false) (λ x. turn_link n x ≡ None) other_turn es a

  no_turns : (es : List Entry) → AreNotOf n es → filter_map (turn_link n) es ≡ []
  no_turns es a = none_there (turn_link n) es (other_turns es a)

  own_behind : (es fs : List Entry) → Own es → AreNotOf n fs → Own (es ++ fs)
  own_behind es fs p a =
      subst IsAscending (sym (links_append (turn_link n) es fs ∙ (ap (λ l. filter_map (turn_link n) es ++ l) (no_turns fs a) ∙ append-nil _))) p

  own_before : (es fs : List Entry) → AreNotOf n fs → Own es → Own (fs ++ es)
  own_before es fs a p = subst IsAscending (sym (links_append (turn_link n) fs es ∙ ap (λ l. l ++ filter_map (turn_link n) es) (no_turns fs a))) p

pub aged_turnless : (sites : List Site)
    → AreNoTurns (flat_map (λ (s : Site). entries_for s.host
    (aged_entries Controller s.link.to_controller ++ aged_entries Host s.link.to_host)) sites)
aged_turnless =
    all_flat IsNoTurn (λ (s : Site). entries_for s.host (aged_entries Controller s.link.to_controller ++ aged_entries Host s.link.to_host))
    (λ s. links_none s.host (aged_entries Controller s.link.to_controller ++ aged_entries Host s.link.to_host))

turnless_one : (n : ℕ) (x : Entry) → IsNoTurn x → turn_link n x ≡ None
turnless_one n x q = grind arith

-- where no message has its turn or is held, none is at this node
pub turnless_there : (n : ℕ) (es : List Entry) → AreNoTurns es → AllByRecursion (λ x. turn_link n x ≡ None) es
turnless_there n es a = all_so IsNoTurn (λ x. turn_link n x ≡ None) (turnless_one n) es a

-- ### Events

parts_of_turns : PartsHave IsNoTurn IsNoTurn NotesNoTurn IsAscending AllAscend
parts_of_turns = record {
  alone = turnless_ascend;
  boot = λ k many. refl;
  cut = λ k. refl;
  lost = λ h who why xs. links_none h (first_lost who why xs);
  aged = λ h one other xs ys. links_none h (aged_entries one xs ++ aged_entries other ys);
  arrives = λ who h l comes. links_none h (arrival who l comes);
  frames = frames_turnless;
  sends = sending_turnless;
  begins = beginning_turnless;
  deeds = λ h deeds w frames may none out. turnless_ascend ((all_done h deeds w).entries ++ frames) (deeds_turnless h deeds w frames may none out);
  step = λ input w frames ends none out. step_ascends input w frames none ends out;
}

event_own : (n : ℕ) (w : NodeWorld) (c : Happening) → IsOrderly w → IsAscending (hosts_in w.sites) → Own n (world_step w c).1
event_own n =
    event_has IsNoTurn IsNoTurn NotesNoTurn IsAscending (λ k. (tt, tt)) AllAscend parts_of_turns (Own n) n (ascends_part n) (own_behind n) (own_before n)
    (λ es fs none p. subst IsAscending (sym (links_append (turn_link n) fs es ∙ ap (λ l. l ++ filter_map (turn_link n) es)
    (none_there (turn_link n) fs (turnless_there n fs none)))) p)

-- ### Histories

pub turns_ascend : (header : Header) (lines : List Line) (t : NodeHistory) → FollowsNodes header lines t → AreHosts header.hosts.items
    → ArePlayable lines → IsAscending header.hosts.items → TurnsAscend t
turns_ascend header lines t follows are playable up past back o parts_of_turns n =
    let first : NodeWorld = new_world header.hosts.items in
    let w : NodeWorld = world_behind first past in
    let done : AreDone w (o ∷ back) = done_back past (o ∷ back) first (subst (AreDone first) parts_of_turns (history_done header lines t follows playable)) in
    let so = history_so header lines t follows are playable past (o ∷ back) parts_of_turns in
    subst (Own n) (sym done.0.0) (event_own n w o.cause so.well.orderly (subst IsAscending (sym so.hosts_are) up))

-- ## What a node notes in a step tells of no frame that goes out; the frames that go out of it stand behind that

-- it tells of no frame that goes out
abbrev IsInside : Entry → Type 0
IsInside x = emitter x ≡ None

abbrev AreInside : List Entry → Type 0
AreInside es = AllByRecursion IsInside es

of_step : (x : Entry) → IsOfStep x → IsInside x
of_step x a = grind arith

grown : (es more : List Entry) → AreInside more → AreInside es → AreInside (es ++ more)
grown es more later before = all_append IsInside es more before later

-- a frame goes out, or one is lost
abbrev is_out : Entry → Bool
is_out (entry.Emit e lpdu) = true
is_out (entry.Lost e lpdu cause) = true
is_out _ = false

abbrev IsOut : Entry → Type 0
IsOut x = is_out x ≡ true

abbrev AreOut : List Entry → Type 0
AreOut es = AllByRecursion IsOut es

-- ### Deeds

abbrev NotesInside : Deed → Type 0
NotesInside d = NotesOnly IsInside d

-- ### What is noted of a link

-- a frame that goes out
abbrev IsStaying : Noted → Type 0
IsStaying (Emit who frame) = ⊥
IsStaying _ = Unit {0}

notes_inside : (h : ℕ) (notes : List Noted) → AllByRecursion IsStaying notes → AreInside (entries_for h notes)
notes_inside h [] all = tt
notes_inside h (Emit who frame ∷ notes) all = absurd all.0
notes_inside h (Tick ∷ notes) all = notes_inside h notes all.1
notes_inside h (Restarted who ∷ notes) all = notes_inside h notes all.1
notes_inside h (Cut who ∷ notes) all = notes_inside h notes all.1
notes_inside h (_ ∷ notes) all = (refl, notes_inside h notes all.1)

arrival_inside : (who : Side) (h : ℕ) (l : Link) (comes : Comes) → AreInside (entries_for h (arrival who l comes))
arrival_inside who h l comes = notes_inside h (arrival who l comes) (arrival_all IsStaying (λ w c. tt) who l comes)

lost_inside : (h : ℕ) (who : Side) (why : Loss) (xs : List OnWire) → AreInside (entries_for h (first_lost who why xs))
lost_inside h who why xs = notes_inside h (first_lost who why xs) (lost_all IsStaying (λ w c why. tt) who why xs)

aged_inside : (h : ℕ) (one other : Side) (xs ys : List OnWire) → AreInside (entries_for h (aged_entries one xs ++ aged_entries other ys))
aged_inside h one other xs ys = notes_inside h (aged_entries one xs ++ aged_entries other ys) (wires_all IsStaying (λ w c. tt) one other xs ys)

-- ### Frames

-- a frame that goes out or is lost, or the loss of power
abbrev IsGoing : Noted → Type 0
IsGoing (Emit who frame) = Unit {0}
IsGoing (Lost who frame why) = Unit {0}
IsGoing (Cut who) = Unit {0}
IsGoing _ = ⊥

notes_out : (h : ℕ) (notes : List Noted) → AllByRecursion IsGoing notes → AreOut (entries_for h notes)
notes_out h [] all = tt
notes_out h (Emit who frame ∷ notes) all = (refl, notes_out h notes all.1)
notes_out h (Lost who frame why ∷ notes) all = (refl, notes_out h notes all.1)
notes_out h (Cut who ∷ notes) all = notes_out h notes all.1
notes_out h (_ ∷ notes) all = absurd all.0

frames_out_of : (who : Side) (h : ℕ) (l : Link) (k : Work) → AreOut (frames_noted who h l k)
frames_out_of who h l k = by_option (port_at k.ports h)
    (λ q. rw q tt)
    (λ p q. rw q (notes_out h (ending_entries who l p.side (ending_of k)) (ending_all IsGoing (λ w c. tt) (λ w c. tt) (λ w. tt) who l p.side (ending_of k))))

-- ### What comes

coming_inside : (input : NodeInput) (w : Work) → AreInside (told_of_coming input w)
coming_inside input w =
    coming_all IsInside
    (λ h who n acked r. notes_inside h (told who n r acked) (told_all IsStaying who n acked tt tt (λ k. tt) tt (λ m. tt) (λ c. tt) r)) input w

-- ### A step

step_inside : (input : NodeInput) (w : Work) → AreInside w.entries → AreInside (steps input w).entries
step_inside input w quiet =
    step_keeps IsInside of_step AreInside grown input w (grown w.entries (told_of_coming input w) (coming_inside input w) quiet)

deeds_inside : (h : ℕ) (deeds : List Deed) (w : Work) → AllByRecursion NotesInside deeds → AreInside w.entries → AreInside (all_done h deeds w).entries
deeds_inside h deeds w may quiet = deeds_keep IsInside of_step AreInside grown h deeds w may quiet

-- ## In lists of entries the frames that go out of a node stand behind all else that tells of it

-- first no frame goes out, and then nothing else happens
abbrev IsFramed : List Entry → Type 0
IsFramed es = AreHalves IsInside IsOut es

module _ (n : ℕ) where
  -- no frame goes out of this node
  abbrev NoFrame : Entry → Type 0
  NoFrame x = emits n x ≡ false

  -- nothing tells of it but that a frame goes out
  abbrev FrameAlone : Entry → Type 0
  FrameAlone x = (is_of_node n x && not (emits n x)) ≡ false

  -- first no frame goes out of this node, and then nothing else tells of it
  abbrev IsFramedFor : List Entry → Type 0
  IsFramedFor es = AreHalves NoFrame FrameAlone es

  out_one : (x : Entry) → IsOut x → FrameAlone x
  out_one x q = grind arith

  inside_one : (x : Entry) → IsInside x → NoFrame x
  inside_one x q = ap (λ o. option_map_or (λ k. k == n) o false) q

  -- so it is where no other node notes anything
  framed_for : (es : List Entry) → IsFramed es → IsFramedFor es
  framed_for es p = halves_so IsInside IsOut NoFrame FrameAlone inside_one out_one es p

  -- what tells nothing of the node
  other_frame : (x : Entry) → is_of_node n x ≡ false → NoFrame x
  other_frame x q = grind arith

  others_behind : (es fs : List Entry) → IsFramedFor es → AreNotOf n fs → IsFramedFor (es ++ fs)
  others_behind es fs p a =
      halves_behind NoFrame FrameAlone es fs p (all_so (λ x. is_of_node n x ≡ false) FrameAlone (λ x q. ap (λ b. b && not (emits n x)) q) fs a)

  others_before : (es fs : List Entry) → AreNotOf n fs → IsFramedFor es → IsFramedFor (fs ++ es)
  others_before es fs a p = halves_before NoFrame FrameAlone es fs (all_so (λ x. is_of_node n x ≡ false) NoFrame other_frame fs a) p

  inside_before : (es fs : List Entry) → AreInside fs → IsFramedFor es → IsFramedFor (fs ++ es)
  inside_before es fs a p = halves_before NoFrame FrameAlone es fs (all_so IsInside NoFrame inside_one fs a) p

  -- behind a frame that goes out nothing tells of the node but other frames
  frames_behind : (es before behind : List Entry) (x : Entry) → IsFramedFor es → es ≡ before ++ (x ∷ behind) → emits n x ≡ true
      → AllByRecursion FrameAlone behind
  frames_behind es before behind x p q goes = behind_first NoFrame FrameAlone es before behind x p q (λ none. true≢false (sym goes ∙ none))

-- ## In each event of a world the frames that go out of a node stand behind all else that tells of it

parts : PartsHave IsInside IsOut NotesInside (λ ks. Unit {0}) IsFramed
parts = record {
  alone = λ es a. record { front = es; back = []; is = sym (append-nil es); first = a; second = tt };
  boot = λ k many. refl;
  cut = λ k. refl;
  lost = lost_inside;
  aged = aged_inside;
  arrives = arrival_inside;
  frames = frames_out_of;
  sends = (sending_notes IsInside (of_deeds IsInside of_step));
  begins = (beginning_notes IsInside (of_deeds IsInside of_step));
  deeds = λ h deeds w frames may inside out. framed (all_done h deeds w) frames (deeds_inside h deeds w may inside) out;
  step = λ input w frames ends inside out. framed (steps input w) frames (step_inside input w inside) out;
} where
  framed : (v : Work) (frames : List Entry) → AreInside v.entries → AreOut frames → IsFramed (v.entries ++ frames)
  framed v frames inside out = record { front = v.entries; back = frames; is = refl; first = inside; second = out }

frames_go_last : (header : Header) (lines : List Line) (t : NodeHistory) → FollowsNodes header lines t → AreDifferent header.hosts.items
    → AllByRecursion (λ h. (h == 0) ≡ false) header.hosts.items → NodesEmitLast t
frames_go_last header lines t follows different numbers past back o front behind x is split n goes =
    frames_behind n o.entries front behind x
    (history_event (IsFramedFor n) (λ w c a. event_has IsInside IsOut NotesInside (λ ks. Unit {0}) (λ k. tt) IsFramed parts (IsFramedFor n) n (framed_for n)
    (others_behind n) (others_before n) (inside_before n) w c a tt) header lines t follows different numbers past back o is) split goes

pub schedule_emits : (header : Header) (lines : List Line) (t : NodeHistory) → FollowsNodes header lines t → IsNodeHeader header → NodesEmitLast t
schedule_emits header lines t follows nodes =
    frames_go_last header lines t follows (hosts_are header nodes).different (numbers header.hosts.items (hosts_are header nodes).all)
