-- Where no message is noted as held at either end of a link of nodes, both its ends take fragments throughout the rounds of the world.
use Rattle.std.proofs.lemmas.List.Sums.{fold-append}
use Rattle.world_laws.proofs.Words.{AllHold, AnyLine, AreBothReady, AreHosts, ArePassing, ArePlayable, AreReadyThroughout, AreUnheldNotes, Bool, End, Entry}
use Rattle.world_laws.proofs.Words.{FollowsNodes, GoesOnLink, Happening, Header, Line, Link, LinkEvent, List, MayBoot, NodeHistory, NodeWorld, None, Occurrence}
use Rattle.world_laws.proofs.Words.{Option, Play, Round, Running, Site, Some, Takes, TimePassing, [], after_link_events, all_go, all_happen, all_lines, ap}
use Rattle.world_laws.proofs.Words.{append-nil, append_assoc, arith, boots_may, by_test, can_happen, cond, end_c, end_h, end_takes_all, ends_events, ends_go}
use Rattle.world_laws.proofs.Words.{ends_in_order, ends_take_all, entries_in, entries_since, events_of_steps, events_on, false, flat_map-append, frames_at}
use Rattle.world_laws.proofs.Words.{front_holds, happenings, happens, is_held_among, is_held_on, length, lines_hold, lines_played, link_events_in, list_any}
use Rattle.world_laws.proofs.Words.{list_any-append, map, new_site, new_world, node_entries, node_of, nodes_behind, occurrences_in, or_none, refl, replicate}
use Rattle.world_laws.proofs.Words.{round_events, round_goes, rounds_events, rounds_of_world, rounds_to_rest, same_end, site_at, site_host, site_is, steps_from}
use Rattle.world_laws.proofs.Words.{subst, suc, sym, takes_go, takes_pass, ticks_go, true, true≢false, world_behind, world_round, world_step, zero, ℕ, ◌++◌}
use Rattle.world_laws.proofs.Words.{◌==◌, ◌∙◌, ◌∷◌, ◌≡◌}
use Rattle.trace_model.specs.declared.entry.Entry.TheVariants as entry
use Rattle.trace_model.specs.declared.line.Line.TheVariants as line
use Rattle.node_laws.specs.answers.Moments.{holds_in}
use Rattle.node_laws.proofs.reply_passes.Ordered.{reads_last}
use Rattle.node_laws.proofs.worlds.Resting.{SiteRests}
use Rattle.node_laws.proofs.worlds.Done.{IsAtRest, event_rests, history_rests}
use Rattle.world_laws.proofs.schedules.NotedQuiet.{last}
use Rattle.world_laws.proofs.undisturbed.Keeping.{HeldAt, HeldIn, IsHeldSo, SiteHeld, event_kept}
use Rattle.world_laws.proofs.undisturbed.Nodes.{since}
use Rattle.world_laws.proofs.worlds.FewCauses.{happens_first, none_happens}
use Rattle.world_laws.proofs.worlds.WorldRounds.{on_first}

-- ## What is read

module _ (e : End) where
  other_end : (f : End) → (f.link == e.link) ≡ false → same_end f e ≡ false
  other_end f q = rw q refl

  unheld_one : (t : List Entry) (x : Entry) → is_held_on e.link x ≡ false → holds_in t e ≡ false → holds_in (t ++ x ∷ []) e ≡ false
  unheld_one t (entry.Held f need spare) q a =
      fold-append _ false t (entry.Held f need spare ∷ []) ∙ (ap (λ b. cond b true (holds_in t e)) (other_end f q) ∙ a)
  unheld_one t (entry.Turn f pid message) q a = fold-append _ false t (entry.Turn f pid message ∷ []) ∙ by_test (same_end f e) (λ q. rw q refl) (λ q. rw q a)
  unheld_one t (entry.Booted n k) q a = fold-append _ false t (entry.Booted n k ∷ []) ∙ by_test (n == node_of e) (λ q. rw q refl) (λ q. rw q a)
  unheld_one t x q a = fold-append _ false t (x ∷ []) ∙ a

  unheld_more : (t es : List Entry) → list_any (is_held_on e.link) es ≡ false → holds_in t e ≡ false → holds_in (t ++ es) e ≡ false
  unheld_more t [] q a = subst (λ l. holds_in l e ≡ false) (sym (append-nil t)) a
  unheld_more t (x ∷ es) q a =
      let both = or_none (is_held_on e.link x) (list_any (is_held_on e.link) es) q in
      subst (λ l. holds_in l e ≡ false) (append_assoc t (x ∷ []) es) (unheld_more (t ++ x ∷ []) es both.1 (unheld_one t x both.0 a))

-- ## Events of a link

ready-append : (l : Link) (es fs : List LinkEvent) → AreReadyThroughout l es → AreReadyThroughout (after_link_events l es) fs
    → AreReadyThroughout l (es ++ fs)
ready-append l [] fs a b = b
ready-append l (e ∷ es) fs a b = (a.0, ready-append (happens l e) es fs a.1 b)

-- one of them at most
abbrev AreFewEvents : List LinkEvent → Type 0
AreFewEvents [] = Unit {0}
AreFewEvents (e ∷ []) = Unit {0}
AreFewEvents (e ∷ f ∷ es) = ⊥

few_ready : (l : Link) (es : List LinkEvent) → AreFewEvents es → AreBothReady l → AreBothReady (after_link_events l es) → AreReadyThroughout l es
few_ready l es few a b = grind arith

module _ (h : ℕ) where
  -- ## Moments

  -- what waits is read, and an end that takes no fragments is one with a held message
  record IsRead (t : List Entry) (w : NodeWorld) : Type 0 where
    rests : IsAtRest t w
    kept : HeldIn h w

  read_next : (t : List Entry) (w : NodeWorld) (c : Happening) → IsRead t w → MayBoot w c → IsRead (t ++ (world_step w c).1) (world_step w c).0
  read_next t w c a may = record {
    rests = record { reads = reads_last t w c a.rests.reads may; rests = event_rests t w a.rests.reads a.rests.rests c };
    kept = event_kept h w c a.rests.reads.all.orderly may a.kept;
  }

  new_kept : (content : List ℕ) (hosts : List ℕ) → HeldAt None (site_at (map (new_site content) hosts) h)
  new_kept content [] = tt
  new_kept content (k ∷ hosts) = by_test (k == h) (λ q. rw q (record { near = refl; far = refl })) (λ q. rw q (new_kept content hosts))

  history_read : (header : Header) (lines : List Line) (t : NodeHistory) → FollowsNodes header lines t → AreHosts header.hosts.items
      → IsRead (entries_in (occurrences_in t)) (world_behind (new_world header.hosts.items) (occurrences_in t))
  history_read header lines t follows are =
      let hosts : List ℕ = header.hosts.items in
      let events : List Occurrence = events_of_steps (steps_from (new_world hosts) lines) in
      let start : IsRead [] (new_world hosts) = record {
        rests = history_rests header lines t follows are [] (occurrences_in t) refl;
        kept = new_kept (replicate 65536 255) hosts;
      } in
      let all : AllHold IsRead MayBoot AnyLine read_next boots_may [] (new_world hosts) events =
      lines_hold IsRead MayBoot AnyLine read_next boots_may lines [] (new_world hosts) start (all_lines lines) in
      let same : events ≡ occurrences_in t ++ [] = sym (ap events_of_steps follows.steps_are) ∙ sym (append-nil (occurrences_in t)) in
      front_holds IsRead MayBoot AnyLine read_next boots_may (occurrences_in t) [] [] (new_world hosts)
      (subst (AllHold IsRead MayBoot AnyLine read_next boots_may [] (new_world hosts)) same all)

  -- and no message is held at either end
  record IsMoment (t : List Entry) (w : NodeWorld) : Type 0 where
    read : IsRead t w
    near : holds_in t (end_c h) ≡ false
    far : holds_in t (end_h h) ≡ false

  moment_next : (t : List Entry) (w : NodeWorld) (c : Happening) → IsMoment t w → MayBoot w c → list_any (is_held_on h) (world_step w c).1 ≡ false
      → IsMoment (t ++ (world_step w c).1) (world_step w c).0
  moment_next t w c m may none = record {
    read = read_next t w c m.read may;
    near = unheld_more (end_c h) t (world_step w c).1 none m.near;
    far = unheld_more (end_h h) t (world_step w c).1 none m.far;
  }

  ready_if : (b : Bool) → (b ≡ false → ⊥) → b ≡ true
  ready_if b busy = grind arith

  both_ready : (t : List Entry) (w : NodeWorld) (s : Site) → site_at w.sites h ≡ Some s → IsMoment t w → AreBothReady s.link
  both_ready t w s q m = record { controller = near w.controller refl; host = far s.node refl }
    where
      a : SiteHeld w.controller s
      a = subst (HeldAt w.controller) q m.read.kept

      number : s.host ≡ h
      number = site_host w.sites h s q

      near : (c : Option Running) → w.controller ≡ c → s.link.controller.side.shdlc.ready ≡ true
      near None z = subst (λ o. IsHeldSo o s.host s.link.controller.side) z a.near
      near (Some r) z =
          let held : IsHeldSo (Some r) s.host s.link.controller.side = subst (λ o. IsHeldSo o s.host s.link.controller.side) z a.near in
          ready_if s.link.controller.side.shdlc.ready
          (λ busy. true≢false (sym (held busy) ∙ (ap (is_held_among r.desks) number ∙ (sym (m.read.rests.reads.holds r z h) ∙ m.near))))

      rests : SiteRests t s
      rests = site_is (SiteRests t) w.sites h s m.read.rests.rests q

      far : (c : Option Running) → s.node ≡ c → s.link.host.side.shdlc.ready ≡ true
      far None z = subst (λ o. IsHeldSo o s.host s.link.host.side) z a.far
      far (Some r) z =
          let held : IsHeldSo (Some r) s.host s.link.host.side = subst (λ o. IsHeldSo o s.host s.link.host.side) z a.far in
          ready_if s.link.host.side.shdlc.ready
          (λ busy. true≢false (sym (held busy) ∙ (sym (rests.holds r z) ∙ (ap (λ k. holds_in t (end_h k)) number ∙ m.far))))

  -- ## Events of the world

  abbrev Step : Type 0
  Step = NodeWorld × List Occurrence

  -- both ends take fragments as the world becomes another one, and so it is then
  record StaysReady (t : List Entry) (l : Link) (es : List LinkEvent) (after : Step) : Type 0 where
    ready : AreReadyThroughout l es
    moment : IsMoment (t ++ entries_in after.1) after.0

  entries-append : (xs ys : List Occurrence) → entries_in (xs ++ ys) ≡ entries_in xs ++ entries_in ys
  entries-append xs ys = flat_map-append (λ (o : Occurrence). o.entries) xs ys

  none_parts : (xs ys : List Occurrence) → list_any (is_held_on h) (entries_in (xs ++ ys)) ≡ false
      → (list_any (is_held_on h) (entries_in xs) ≡ false) × (list_any (is_held_on h) (entries_in ys) ≡ false)
  none_parts xs ys q =
      or_none (list_any (is_held_on h) (entries_in xs)) (list_any (is_held_on h) (entries_in ys))
      (sym (list_any-append (is_held_on h) (entries_in xs) (entries_in ys)) ∙ (ap (list_any (is_held_on h)) (sym (entries-append xs ys)) ∙ q))

  then_ready : (t : List Entry) (l : Link) (es fs : List LinkEvent) (first second : Step) → StaysReady t l es first
      → StaysReady (t ++ entries_in first.1) (after_link_events l es) fs second → StaysReady t l (es ++ fs) (second.0, first.1 ++ second.1)
  then_ready t l es fs first second a b = record {
    ready = ready-append l es fs a.ready b.ready;
    moment = subst (λ es. IsMoment es second.0)
        (append_assoc t (entries_in first.1) (entries_in second.1) ∙ ap (λ z. t ++ z) (sym (entries-append first.1 second.1))) b.moment;
  }

  stays_ready : (t : List Entry) (w : NodeWorld) (s : Site) → site_at w.sites h ≡ Some s → IsMoment t w → StaysReady t s.link [] (w, [])
  stays_ready t w s q m = record { ready = both_ready t w s q m; moment = subst (λ l. IsMoment l w) (sym (append-nil t)) m }

  abbrev one_step : NodeWorld → Happening → Step
  one_step w c = ((world_step w c).0, record { cause = c; entries = (world_step w c).1 } ∷ [])

  one_ready : (t : List Entry) (w : NodeWorld) (s : Site) (c : Happening) → site_at w.sites h ≡ Some s → IsMoment t w → MayBoot w c
      → AreFewEvents (link_events_in h w c) → GoesOnLink (world_step w c).0 h s (link_events_in h w c)
      → list_any (is_held_on h) (entries_in (one_step w c).1) ≡ false → StaysReady t s.link (link_events_in h w c) (one_step w c)
  one_ready t w s c q m may few g none =
      let es : List Entry = (world_step w c).1 in
      let next : IsMoment (t ++ es) (world_step w c).0 =
      moment_next t w c m may (ap (list_any (is_held_on h)) (sym (append-nil es)) ∙ none) in
      record {
        ready = few_ready s.link (link_events_in h w c) few (both_ready t w s q m)
            (subst AreBothReady g.link (both_ready (t ++ es) (world_step w c).0 g.later g.is next));
        moment = subst (λ l. IsMoment (t ++ l) (world_step w c).0) (sym (append-nil es)) next;
      }

  all_ready : (causes : List Happening) (t : List Entry) (w : NodeWorld) (s : Site) → ArePassing causes → site_at w.sites h ≡ Some s → IsMoment t w
      → list_any (is_held_on h) (entries_in (all_happen w causes).1) ≡ false → StaysReady t s.link (events_on h w causes) (all_happen w causes)
  all_ready [] t w s p q m none = stays_ready t w s q m
  all_ready (Takes e ∷ causes) t w s p q m none = go (can_happen w (Takes e)) refl (λ u x. all_ready causes u (world_step w (Takes e)).0 x p)
    where
      v : NodeWorld
      v = (world_step w (Takes e)).0

      Rest : Type 0
      Rest = (u : List Entry) (x : Site) → site_at v.sites h ≡ Some x → IsMoment u v
          → list_any (is_held_on h) (entries_in (all_happen v causes).1) ≡ false → StaysReady u x.link (events_on h v causes) (all_happen v causes)

      go : (b : Bool) → can_happen w (Takes e) ≡ b → Rest → StaysReady t s.link (events_on h w (Takes e ∷ causes)) (all_happen w (Takes e ∷ causes))
      go false c rest =
          subst (λ o. StaysReady t s.link (events_on h w (Takes e ∷ causes)) o) (sym (none_happens w (Takes e) causes c))
          (subst (λ es. StaysReady t s.link es (w, [])) (sym (rw c refl)) (stays_ready t w s q m))
      go true c rest =
          let first : Step = one_step w (Takes e) in
          let second : Step = all_happen v causes in
          let is = happens_first w (Takes e) causes c in
          let both = none_parts first.1 second.1 (ap (λ (o : Step). list_any (is_held_on h) (entries_in o.1)) (sym is) ∙ none) in
          let g = takes_go w e h s q in
          let one = one_ready t w s (Takes e) q m tt (grind arith) g both.0 in
          let more = rest (t ++ entries_in first.1) g.later g.is one.moment both.1 in
          subst (λ o. StaysReady t s.link (events_on h w (Takes e ∷ causes)) o) (sym is)
          (subst (λ es. StaysReady t s.link es (second.0, first.1 ++ second.1)) (sym (on_first h w e causes c))
          (then_ready t s.link (link_events_in h w (Takes e)) (events_on h v causes) first second one
          (subst (λ l. StaysReady (t ++ entries_in first.1) l (events_on h v causes) second) g.link more)))
  all_ready (TimePassing ∷ causes) t w s p q m none =
      let v : NodeWorld = (world_step w TimePassing).0 in
      let first : Step = one_step w TimePassing in
      let second : Step = all_happen v causes in
      let both = none_parts first.1 second.1 none in
      let g = ticks_go w h s q in
      let one = one_ready t w s TimePassing q m tt (grind arith) g both.0 in
      let more = all_ready causes (t ++ entries_in first.1) v g.later p g.is one.moment both.1 in
      then_ready t s.link (link_events_in h w TimePassing) (events_on h v causes) first second one
      (subst (λ l. StaysReady (t ++ entries_in first.1) l (events_on h v causes) second) g.link more)
  all_ready (_ ∷ causes) t w s p q m none = absurd p

  -- ## Rounds

  ends_ready : (ends : List End) (t : List Entry) (w : NodeWorld) (s : Site) → site_at w.sites h ≡ Some s → IsMoment t w
      → list_any (is_held_on h) (entries_in (ends_take_all w ends).1) ≡ false → StaysReady t s.link (ends_events h w ends) (ends_take_all w ends)
  ends_ready [] t w s q m none = stays_ready t w s q m
  ends_ready (e ∷ ends) t w s q m none =
      let causes : List Happening = happenings w (line.Deliver e None) in
      let first : Step = end_takes_all w e in
      let second : Step = ends_take_all first.0 ends in
      let both = none_parts first.1 second.1 none in
      let pass : ArePassing causes = takes_pass (length (frames_at w e)) e in
      let g = all_go causes w h s pass q in
      let one = all_ready causes t w s pass q m both.0 in
      let more = ends_ready ends (t ++ entries_in first.1) first.0 g.later g.is one.moment both.1 in
      then_ready t s.link (events_on h w causes) (ends_events h first.0 ends) first second one
      (subst (λ l. StaysReady (t ++ entries_in first.1) l (ends_events h first.0 ends) second) g.link more)

  round_ready : (t : List Entry) (w : NodeWorld) (s : Site) → site_at w.sites h ≡ Some s → IsMoment t w
      → list_any (is_held_on h) (entries_in (world_round w).1) ≡ false → StaysReady t s.link (round_events h w) (world_round w)
  round_ready t w s q m none =
      let ends : List End = ends_in_order w in
      let first : Step = ends_take_all w ends in
      let second : Step = all_happen first.0 (TimePassing ∷ []) in
      let both = none_parts first.1 second.1 none in
      let g = ends_go ends w h s q in
      let one = ends_ready ends t w s q m both.0 in
      let more = all_ready (TimePassing ∷ []) (t ++ entries_in first.1) first.0 g.later tt g.is one.moment both.1 in
      then_ready t s.link (ends_events h w ends) (events_on h first.0 (TimePassing ∷ [])) first second one
      (subst (λ l. StaysReady (t ++ entries_in first.1) l (events_on h first.0 (TimePassing ∷ [])) second) g.link more)

  rounds_ready : (n : ℕ) (t : List Entry) (w : NodeWorld) (s : Site) → site_at w.sites h ≡ Some s → IsMoment t w
      → list_any (is_held_on h) (entries_in (rounds_of_world n w).1) ≡ false → StaysReady t s.link (rounds_events h n w) (rounds_of_world n w)
  rounds_ready zero t w s q m none = stays_ready t w s q m
  rounds_ready (suc n) t w s q m none =
      let first : Step = world_round w in
      let second : Step = rounds_of_world n first.0 in
      let both = none_parts first.1 second.1 none in
      let g = round_goes w h s q in
      let one = round_ready t w s q m both.0 in
      let more = rounds_ready n (t ++ entries_in first.1) first.0 g.later g.is one.moment both.1 in
      then_ready t s.link (round_events h w) (rounds_events h n first.0) first second one
      (subst (λ l. StaysReady (t ++ entries_in first.1) l (rounds_events h n first.0) second) g.link more)

-- ## Behind plays

module _ (header : Header) (are : AreHosts header.hosts.items) (plays : List Play) (n : ℕ) (p : ArePlayable (lines_played header plays))
    (later_p : ArePlayable (lines_played header (plays ++ replicate (rounds_to_rest header plays n) Round))) (t later : NodeHistory)
    (follows : FollowsNodes header (lines_played header plays) t)
    (goes_on : FollowsNodes header (lines_played header (plays ++ replicate (rounds_to_rest header plays n) Round)) later) where
  abbrev w : NodeWorld
  w = nodes_behind header (lines_played header plays)

  pub nodes_ready : (h : ℕ) (s : Site) → site_at (nodes_behind header (lines_played header plays)).sites h ≡ Some s
      → AreUnheldNotes (node_entries t) (entries_since (node_entries t) (node_entries later)) h
      → AreReadyThroughout s.link
      (rounds_events h (rounds_to_rest header plays n) (nodes_behind header (lines_played header plays)))
  nodes_ready h s found unheld =
      let before : List Line = lines_played header plays in
      let read : IsRead h (node_entries t) w =
      subst (IsRead h (node_entries t)) (last header before t follows are p) (history_read h header before t follows are) in
      let none : list_any (is_held_on h) (entries_in (rounds_of_world (rounds_to_rest header plays n) w).1) ≡ false =
      ap (list_any (is_held_on h)) (sym (since header are plays n p later_p t later follows goes_on)) ∙ unheld.none_held in
      (rounds_ready h (rounds_to_rest header plays n) (node_entries t) w s found
      (record { read = read; near = unheld.controller; far = unheld.host }) none).ready
