-- All that is told of plays in a world of nodes is in its range, and so is all that is told of a history that follows their lines.
use Rattle.told_laws.proofs.Words.{All, AllByRecursion, AreDifferent, AreFewPlays, AreNodeLinesOf, Bool, End, Entry, FollowsNodes, Happening, Header, IsByte}
use Rattle.told_laws.proofs.Words.{IsEntry, IsFew, IsHost, IsNodeHeader, IsNodeLineOf, IsPlayFor, IsPlayedLine, IsRoundLine, IsSentByHost, IsSound, Line}
use Rattle.told_laws.proofs.Words.{LineOutcome, LineStep, List, MayAllHappen, NoCause, NodeHistory, NodeWorld, None, NoneIsMisread, Occurrence, OnWire, Option}
use Rattle.told_laws.proofs.Words.{Play, Round, Running, Said, Site, Some, Takes, Ticks, [], after-append, all_happen, all_joined, all_map, all_mapped, ap}
use Rattle.told_laws.proofs.Words.{append-nil, append_assoc, arith, by_test, cond_both, each-append, end_takes_all, ends_in_order, ends_take_all, entries_below}
use Rattle.told_laws.proofs.Words.{entries_in, eqb, false, few_front, few_in_new_world, flat_map, flat_map-append, for_with, frames_at, goes_on, happenings}
use Rattle.told_laws.proofs.Words.{hosts_stay, hosts_stay_behind, if◌then◌else◌, inr, is_clear, is_running, length, line_may, line_step, lines_asking}
use Rattle.told_laws.proofs.Words.{lines_may_be_played, lines_of_play, lines_played, lines_said, new_site, new_world, node_at, node_of, nodes_behind, not}
use Rattle.told_laws.proofs.Words.{noted_below, occurrences_of, played-append, played_more, refl, refusal_in, replicate, round_behind, round_in, round_is}
use Rattle.told_laws.proofs.Words.{round_known, round_lines, round_told, rounds_played, said-append, site_at, sound_new, steps_from, subst, sym, tables_told}
use Rattle.told_laws.proofs.Words.{takes_so, taking_in, told-append, told_in, true, world_after, world_round, ℕ, ◌&&◌, ◌*◌, ◌++◌, ◌+◌, ◌∙◌, ◌∷◌, ◌≡◌, ◌≤◌}
use Rattle.trace_model.specs.declared.entry.Entry.TheVariants as entry
use Rattle.trace_model.specs.declared.line.Line.TheVariants as line
use Rattle.told_laws.proofs.texts.ShownLemmas.{said_in}
use Rattle.node_machine.specs.world.Lines.LineOutcome.{WasRefused, Occurred}
use Rattle.node_laws.proofs.kept.Ticking.{all_begin}
use Rattle.node_laws.proofs.links.Worlds.{world_fine}
use Rattle.node_laws.proofs.bounds.Paying.{asking-append, asking_few}
use Rattle.node_laws.proofs.schedules.Ranges.{hosts_are, playable, sent_by_hosts}
use Rattle.node_laws.proofs.schedules.Few.{are_few}
use Rattle.told_laws.specs.told.NodesTold.{line_told, nodes_told}
use Rattle.told_laws.proofs.told.BarePlays.{IfCause, back_each, each_all, front_each, lines_from, played_from, top}
use Rattle.told_laws.proofs.nodes.Commands.{IsIn}
use Rattle.told_laws.proofs.nodes.Happenings.{HappensIn, IsSiteIn}
use Rattle.told_laws.proofs.nodes.Rounds.{AllFull, IfFull, IsCounted, IsFull, Stands, all_full, caused_in, events_in, few_caused, number_low, refused_in}
use Rattle.told_laws.proofs.nodes.Rounds.{round_stands, said_tables, stands_more}

-- an entry is in its range, and what it counts is a number of a text
abbrev IsToldIn : Entry → Type 0
IsToldIn x = IsIn top x × IsCounted x

abbrev AreToldIn : List Entry → Type 0
AreToldIn t = AllByRecursion IsToldIn t

-- such an entry is in the range of the text law
told_entry : (x : Entry) → IsToldIn x → IsEntry x
told_entry (entry.Up at session) h = let a = h.0.1 in (h.0.0, omega (arith, a))
told_entry (entry.GaveUp at tries) h = let a = h.0.1 in (h.0.0, omega (arith, a))
told_entry (entry.Acked at session count) h = grind arith
told_entry (entry.Sent at session pid message) h =
    (h.0.0, omega (arith, h.0.1), omega (arith, h.0.2.pipe), (h.0.2.some, each_all IsByte message h.0.2.bytes))
told_entry (entry.Got at session pid message) h =
    (h.0.0, omega (arith, h.0.1), omega (arith, h.0.2.pipe), (h.0.2.some, each_all IsByte message h.0.2.bytes))
told_entry (entry.AnyOk node count) h = (h.0, h.1)
told_entry (entry.Booted node count) h = (h.0, h.1)
told_entry (entry.Command node command) h = (h.0.0, h.0.1)
told_entry _ h = h.0

module _ (header : Header) (nodes : IsNodeHeader header) where
  abbrev hosts : List ℕ
  hosts = header.hosts.items

  abbrev StandsIn : ℕ → List Entry → NodeWorld → Type 0
  StandsIn n t w = Stands hosts (hosts_are header nodes) n t w

  -- ## A line

  record LineIn (n : ℕ) (t : List Entry) (p : NodeWorld × LineOutcome) : Type 0 where
    stands : StandsIn n (t ++ entries_in (occurrences_of p.1)) p.0
    told : AreToldIn (entries_below (noted_below p.1))

  nothing : (n k : ℕ) (t : List Entry) (w : NodeWorld) → n ≤ k → StandsIn n t w → StandsIn k (t ++ []) w
  nothing n k t w more s = subst (λ u. StandsIn k u w) (sym (append-nil t)) (stands_more hosts (hosts_are header nodes) n k t w more s)

  by_events : (n : ℕ) (t : List Entry) (w : NodeWorld) (causes : List Happening) → length causes ≤ 100 → AllByRecursion HappensIn causes → MayAllHappen w causes
      → StandsIn n t w → n + 2600 ≤ top → IsFew (t ++ entries_in (all_happen w causes).1)
      → LineIn (n + 2600) t ((all_happen w causes).0, Occurred (all_happen w causes).1)
  by_events n t w causes short is may s small few =
      let es : List Entry = entries_in (all_happen w causes).1 in
      let after : StandsIn (n + 2600) (t ++ es) (all_happen w causes).0 =
      stands_more hosts (hosts_are header nodes) (n + 26 * length causes) (n + 2600) (t ++ es) (all_happen w causes).0 (omega (arith, short))
      (events_in hosts (hosts_are header nodes) causes n t w is may s (omega (arith, short, small)) few) in
      record {
        stands = after;
        told = all_joined Entry (IsIn top) IsCounted es (back_each (IsIn top) t es after.noted) (back_each IsCounted t es after.counted);
      }

  -- the node with this number that runs has full tables
  tables_at : (w : NodeWorld) → AllFull hosts (hosts_are header nodes) w → (k : ℕ) (o : Option Running) → node_at w k ≡ o → IfFull o
  tables_at w h k o q = subst IfFull q (by_test (eqb k 0) (λ e. rw e h.controller) (λ e. by_site e (site_at w.sites k) refl))
    where
      at_site : (sites : List Site) → AllByRecursion (λ (s : Site). IfFull s.node) sites → (s : Site) → site_at sites k ≡ Some s → IfFull s.node
      at_site [] a s z = absurd (cc z)
      at_site (x ∷ sites) a s z =
          cond_both (eqb x.host k) (Some x) (site_at sites k) (λ y. y ≡ Some s → IfFull s.node)
          (λ _ e. let same : x ≡ s = cc in subst (λ (y : Site). IfFull y.node) same a.0) (λ _ e. at_site sites a.1 s e) z

      by_site : eqb k 0 ≡ false → (x : Option Site) → site_at w.sites k ≡ x → IfFull (node_at w k)
      by_site off None here = rw off (rw here tt)
      by_site off (Some s) here = rw off (rw here (at_site w.sites h.sites s here))

  tells_in : (n : ℕ) (t : List Entry) (w : NodeWorld) (k : ℕ) → k ≤ 7 → StandsIn n t w → (o : Option Running) → node_at w k ≡ o
      → LineIn (n + 2600) t (w, tables_told k o)
  tells_in n t w k small s None q = record { stands = nothing n (n + 2600) t w (omega arith) s; told = tt }
  tells_in n t w k small s (Some r) q =
      let full : IsFull r = tables_at w (all_full hosts (hosts_are header nodes) n t w s) k (Some r) q in
      record {
        stands = nothing n (n + 2600) t w (omega arith) s;
        told = (((omega (arith, small), said_tables r.core.tables full.sorted full.tables), tt), tt);
      }

  caused : (n : ℕ) (t : List Entry) (w : NodeWorld) (l : Line) → IsNodeLineOf header l → IsSentByHost l → refusal_in w l ≡ None → StandsIn n t w
      → n + 2600 ≤ top
      → IsFew (t ++ entries_in (all_happen w (happenings w l)).1)
      → LineIn (n + 2600) t ((all_happen w (happenings w l)).0, Occurred (all_happen w (happenings w l)).1)
  caused n t w l is side none s big few =
      by_events n t w (happenings w l) (few_caused header nodes n w l is s.world) (caused_in header nodes w l is none)
      (line_may hosts (hosts_are header nodes) w l side none) s big few

  goes_in : (n : ℕ) (t : List Entry) (w : NodeWorld) (l : Line) → IsNodeLineOf header l → IsSentByHost l → refusal_in w l ≡ None → StandsIn n t w
      → n + 2600 ≤ top
      → IsFew (t ++ entries_in (occurrences_of (goes_on w l).1)) → LineIn (n + 2600) t (goes_on w l)
  goes_in n t w (line.Tables k) is side none s big few = tells_in n t w k (number_low header nodes k is) s (node_at w k) refl
  goes_in n t w (line.Settle rounds) is side none s big few = absurd is
  goes_in n t w l is side none s big few = caused n t w l is side none s big few

  line_in : (n : ℕ) (t : List Entry) (w : NodeWorld) (l : Line) → IsNodeLineOf header l → IsSentByHost l → StandsIn n t w → n + 2600 ≤ top
      → IsFew (t ++ entries_in (occurrences_of (line_step w l).1)) → LineIn (n + 2600) t (line_step w l)
  line_in n t w l is side s big few = go (refusal_in w l) refl (refused_in header nodes n w l s.world) few
    where
      by : Option NoCause → NodeWorld × LineOutcome
      by (Some cause) = (w, WasRefused cause)
      by None = goes_on w l

      go : (o : Option NoCause) → refusal_in w l ≡ o → IfCause o → IsFew (t ++ entries_in (occurrences_of (by o).1)) → LineIn (n + 2600) t (by o)
      go (Some cause) q why f = record { stands = nothing n (n + 2600) t w (omega arith) s; told = ((why, tt), tt) }
      go None q why f = goes_in n t w l is side q s big f

  -- ## Lines of a play

  abbrev w0 : NodeWorld
  w0 = new_world header.hosts.items

  abbrev entries_behind : NodeWorld → List Line → List Entry
  entries_behind w lines = entries_in (flat_map (λ (s : LineStep). occurrences_of s.outcome) (steps_from w lines))

  entries-append : (xs ys : List Line) (w : NodeWorld)
      → entries_behind w (xs ++ ys) ≡ entries_behind w xs ++ entries_behind (world_after w xs) ys
  entries-append [] ys w = refl
  entries-append (x ∷ xs) ys w =
      let o : NodeWorld × LineOutcome = line_step w x in
      let es : List Occurrence = occurrences_of o.1 in
      let near : List Occurrence = flat_map (λ (s : LineStep). occurrences_of s.outcome) (steps_from o.0 xs) in
      let far : List Entry = entries_behind (world_after o.0 xs) ys in
      flat_map-append (λ (x : Occurrence). x.entries) es (flat_map (λ (s : LineStep). occurrences_of s.outcome) (steps_from o.0 (xs ++ ys)))
      ∙ (ap (λ (u : List Entry). entries_in es ++ u) (entries-append xs ys o.0)
      ∙ (sym (append_assoc (entries_in es) (entries_behind o.0 xs) far)
      ∙ ap (λ (u : List Entry). u ++ far) (sym (flat_map-append (λ (x : Occurrence). x.entries) es near))))

  one_line : (w : NodeWorld) (l : Line) → entries_behind w (l ∷ []) ≡ entries_in (occurrences_of (line_step w l).1)
  one_line w l = ap entries_in (append-nil (occurrences_of (line_step w l).1))

  record PlayIn (n : ℕ) (t : List Entry) (w : NodeWorld) (lines : List Line) : Type 0 where
    stands : StandsIn n (t ++ entries_behind w lines) (world_after w lines)
    told : AreToldIn (told_in w lines)

  said_play : (n : ℕ) (t : List Entry) (w : NodeWorld) (l : Line) → IsNodeLineOf header l → IsSentByHost l → StandsIn n t w → n + 2600 ≤ top
      → IsFew (t ++ entries_behind w (l ∷ [])) → PlayIn (n + 2600) t w (l ∷ [])
  said_play n t w l is side s small few =
      let same : t ++ entries_behind w (l ∷ []) ≡ t ++ entries_in (occurrences_of (line_step w l).1) =
      ap (λ (u : List Entry). t ++ u) (one_line w l) in
      let one : LineIn (n + 2600) t (line_step w l) = line_in n t w l is side s small (subst IsFew same few) in
      record {
        stands = subst (λ (u : List Entry). StandsIn (n + 2600) u (line_step w l).0) (sym same) one.stands;
        told = subst AreToldIn (sym (append-nil (entries_below (noted_below (line_step w l).1)))) one.told;
      }

  -- ## A round

  taking_happens : (w : NodeWorld) (e : End) → entries_behind w (taking_in w e) ≡ entries_in (end_takes_all w e).1
  taking_happens w e = go (is_running w (node_of e)) (frames_at w e) refl refl
    where
      taken_if : Bool → List OnWire → List Line
      taken_if runs frames = if runs && not (is_clear frames) then line.Deliver e None ∷ [] else []

      none_taken : (k : ℕ) → is_running w (node_of e) ≡ false → all_happen w (replicate k (Takes e)) ≡ (w, [])
      none_taken k q = grind arith

      go : (runs : Bool) (frames : List OnWire) → is_running w (node_of e) ≡ runs → frames_at w e ≡ frames
          → entries_behind w (taking_in w e) ≡ entries_in (end_takes_all w e).1
      go false frames p q = grind arith
      go true [] p q = grind arith
      go true (x ∷ xs) p q =
          let said : Line = line.Deliver e None in
          let none : refusal_in w said ≡ None = rw (p, q) refl in
          let step : line_step w said ≡ goes_on w said = rw none refl in
          ap (entries_behind w) (ap (λ (b : Bool). taken_if b (frames_at w e)) p ∙ ap (taken_if true) q)
          ∙ (one_line w said ∙ ap (λ (o : NodeWorld × LineOutcome). entries_in (occurrences_of o.1)) step)

  round_happens : (ends : List End) (w : NodeWorld) → entries_behind w (round_in w ends)
      ≡ entries_in (ends_take_all w ends).1 ++ entries_in (all_happen (ends_take_all w ends).0 (Ticks ∷ [])).1
  round_happens [] w = one_line w (line.Tick None)
  round_happens (e ∷ ends) w =
      let v : NodeWorld = world_after w (taking_in w e) in
      let u : NodeWorld = (end_takes_all w e).0 in
      let now : List Entry = entries_in (end_takes_all w e).1 in
      let taken : NodeWorld × List Occurrence = ends_take_all u ends in
      let last : List Entry = entries_in (all_happen taken.0 (Ticks ∷ [])).1 in
      entries-append (taking_in w e) (round_in v ends) w
      ∙ (ap (λ (es : List Entry). es ++ entries_behind v (round_in v ends)) (taking_happens w e)
      ∙ (ap (λ (es : List Entry). now ++ es) (ap (λ (x : NodeWorld). entries_behind x (round_in x ends)) (takes_so w e).world ∙ round_happens ends u)
      ∙ (sym (append_assoc now (entries_in taken.1) last)
      ∙ ap (λ (es : List Entry). es ++ last) (sym (flat_map-append (λ (o : Occurrence). o.entries) (end_takes_all w e).1 taken.1)))))

  round_play : (n : ℕ) (t : List Entry) (w : NodeWorld) (lines : List Line) → lines ≡ round_in w (ends_in_order w) → IsSound w → StandsIn n t w
      → n + 30 ≤ top → IsFew (t ++ entries_behind w lines) → PlayIn (n + 6) t w lines
  round_play n t w lines is sound s small few =
      let taken : NodeWorld × List Occurrence = ends_take_all w (ends_in_order w) in
      let es : List Entry = entries_in (world_round w).1 in
      let same : entries_behind w lines ≡ es =
      ap (entries_behind w) is
      ∙ (round_happens (ends_in_order w) w
      ∙ sym (flat_map-append (λ (o : Occurrence). o.entries) taken.1 (all_happen taken.0 (Ticks ∷ [])).1)) in
      let round : StandsIn (n + 6) (t ++ es) (world_round w).0 =
      round_stands hosts (hosts_are header nodes) n t w sound small s (subst (λ (u : List Entry). IsFew (t ++ u)) same few) in
      let world : world_after w lines ≡ (world_round w).0 = ap (world_after w) is ∙ round_is w in
      record {
        stands = grind arith;
        told = subst AreToldIn (sym (ap (told_in w) is ∙ round_told w))
            (all_joined Entry (IsIn top) IsCounted es (back_each (IsIn top) t es round.noted) (back_each IsCounted t es round.counted));
      }

  -- ## Plays

  node_line : (l : Line) → IsPlayedLine header l → IsNodeLineOf header l
  node_line l may = grind arith

  plays_lines : (plays : List Play) → AllByRecursion (IsPlayFor header) plays → AreNodeLinesOf header (lines_played header plays)
  plays_lines plays may =
      all_mapped Line (IsPlayedLine header) (IsNodeLineOf header) (lines_played header plays) node_line
      (lines_may_be_played header (inr nodes) (hosts_stay_behind header) plays may)

  sound_behind : (lines : List Line) → AreNodeLinesOf header lines → IsSound (nodes_behind header lines)
  sound_behind lines is =
      record {
        fine = world_fine hosts lines (playable header lines is);
        different = subst AreDifferent (sym (hosts_stay lines w0)) (sound_new hosts (hosts_are header nodes).different).different;
      }

  play_in : (n : ℕ) (t : List Entry) (before : List Line) (p : Play) → IsPlayFor header p → AreNodeLinesOf header before
      → StandsIn n t (nodes_behind header before) → n + (2600 * lines_said (p ∷ []) + 6 * rounds_played (p ∷ [])) + 30 ≤ top
      → IsFew (t ++ entries_behind (nodes_behind header before) (lines_of_play header before p))
      → PlayIn (n + (2600 * lines_said (p ∷ []) + 6 * rounds_played (p ∷ []))) t (nodes_behind header before) (lines_of_play header before p)
  play_in n t before (Said l) may is s small few =
      let line : IsNodeLineOf header l = node_line l may in
      let one = said_play n t (nodes_behind header before) l line (sent_by_hosts header (l ∷ []) nodes (line, tt)).0 s (omega (arith, small)) few in
      grind arith
  play_in n t before Round may is s small few =
      let w : NodeWorld = nodes_behind header before in
      let one = round_play n t w (round_behind header before) (round_lines header nodes.nodes before) (sound_behind before is) s (omega (arith, small)) few in
      grind arith

  plays_told : (plays before : List Play) (n : ℕ) → AllByRecursion (IsPlayFor header) before → AllByRecursion (IsPlayFor header) plays
      → StandsIn n (entries_behind w0 (lines_played header before)) (nodes_behind header (lines_played header before))
      → n + (2600 * lines_said plays + 6 * rounds_played plays) + 30 ≤ top → IsFew (entries_behind w0 (lines_played header (before ++ plays)))
      → AreToldIn (told_in (nodes_behind header (lines_played header before)) (lines_from header before plays))
  plays_told [] before n so may s small few = tt
  plays_told (p ∷ plays) before n so may s small few =
      let lb : List Line = lines_played header before in
      let w : NodeWorld = nodes_behind header lb in
      let lp : List Line = lines_of_play header lb p in
      let after : List Play = before ++ p ∷ [] in
      let t : List Entry = entries_behind w0 lb in
      let next : lines_played header after ≡ lb ++ lp = played_more header before p in
      let whole : IsFew (entries_behind w0 (lines_played header (after ++ plays))) =
      subst (λ (ps : List Play). IsFew (entries_behind w0 (lines_played header ps))) (sym (append_assoc before (p ∷ []) plays)) few in
      let apart : entries_behind w0 (lines_played header (after ++ plays))
      ≡ entries_behind w0 (lines_played header after) ++ entries_behind (nodes_behind header (lines_played header after)) (lines_from header after plays) =
      ap (entries_behind w0) (played_from header plays after) ∙ entries-append (lines_played header after) (lines_from header after plays) w0 in
      let front : IsFew (entries_behind w0 (lines_played header after)) =
      few_front (entries_behind w0 (lines_played header after)) _ (subst IsFew apart whole) in
      let told : entries_behind w0 (lines_played header after) ≡ t ++ entries_behind w lp = ap (entries_behind w0) next ∙ entries-append lb lp w0 in
      let world : nodes_behind header (lines_played header after) ≡ world_after w lp = ap (nodes_behind header) next ∙ after-append lb lp w0 in
      let now : ℕ = 2600 * lines_said (p ∷ []) + 6 * rounds_played (p ∷ []) in
      let said = said-append (p ∷ []) plays in
      let rounds = played-append (p ∷ []) plays in
      let one : PlayIn (n + now) t w lp =
      play_in n t lb p may.0 (plays_lines before so) s (omega (arith, small, said, rounds)) (subst IsFew told front) in
      let later : AreToldIn (told_in (nodes_behind header (lines_played header after)) (lines_from header after plays)) =
      plays_told plays after (n + now) (for_with header before p so may.0) may.1 (grind arith) (omega (arith, small, said, rounds)) whole in
      subst AreToldIn (sym (told-append lp (lines_from header after plays) w))
      (each-append IsToldIn (told_in w lp) (told_in (world_after w lp) (lines_from header after plays)) one.told
      (subst (λ (v : NodeWorld). AreToldIn (told_in v (lines_from header after plays))) world later))

  -- ## What is asked for

  round_asks_nothing : (lines : List Line) → AllByRecursion (IsRoundLine header) lines → lines_asking lines ≡ 0
  round_asks_nothing [] is = refl
  round_asks_nothing (line.Deliver e None ∷ lines) is = let rest = round_asks_nothing lines is.1 in omega (arith, rest)
  round_asks_nothing (line.Tick None ∷ lines) is = let rest = round_asks_nothing lines is.1 in omega (arith, rest)
  round_asks_nothing (l ∷ lines) is = absurd is.0

  play_asks : (before : List Line) (p : Play) → lines_asking (lines_of_play header before p) ≤ lines_said (p ∷ [])
  play_asks before (Said l) = asking_few (l ∷ [])
  play_asks before Round =
      let none = round_asks_nothing (round_behind header before) (round_known header (inr nodes) (hosts_stay_behind header) before) in omega (arith, none)

  plays_ask : (plays before : List Play) → lines_asking (lines_from header before plays) ≤ lines_said plays
  plays_ask [] before = omega arith
  plays_ask (p ∷ plays) before =
      let both = asking-append (lines_of_play header (lines_played header before) p) (lines_from header (before ++ p ∷ []) plays) in
      omega (arith, play_asks (lines_played header before) p, plays_ask plays (before ++ p ∷ []), both, said-append (p ∷ []) plays)

  begins : StandsIn 0 [] (new_world hosts)
  begins = record {
    world = record {
      sites = all_map IsHost (IsSiteIn 0) (new_site (replicate 65536 255)) (λ h low. record { host = low.1; link = grind arith; node = tt }) hosts
          (hosts_are header nodes).all;
      controller = tt;
    };
    rsets = few_in_new_world hosts;
    noted = tt;
    counted = tt;
    keep = all_begin hosts;
  }

  -- what is told below the lines of plays
  pub told_below_plays : (plays : List Play) → AllByRecursion (IsPlayFor header) plays → AreFewPlays plays → NoneIsMisread w0 (lines_played header plays)
      → AllByRecursion IsEntry (told_in w0 (lines_played header plays))
  told_below_plays plays may most sure =
      all_mapped Entry IsToldIn IsEntry (told_in w0 (lines_played header plays)) told_entry
      (subst (λ (lines : List Line). AreToldIn (told_in w0 lines)) (sym whole) told)
    where
      lines : List Line
      lines = lines_played header plays

      whole : lines_played header plays ≡ lines_from header [] plays
      whole = played_from header plays []

      t : NodeHistory
      t = record { header = header; steps = steps_from w0 lines }

      follows : FollowsNodes header lines t
      follows = record { nodes = nodes.nodes; header_is = refl; steps_are = refl; sure = sure }

      asked : lines_asking lines ≤ 20000
      asked =
          let same = ap lines_asking whole in let few = plays_ask plays [] in let said = most.said in omega (arith, same, few, said)

      told : AreToldIn (told_in w0 (lines_from header [] plays))
      told =
          plays_told plays [] 0 tt may begins (let a = most.said in let b = most.rounds in omega (arith, a, b))
          (are_few header lines t follows nodes (plays_lines plays may) asked)

  -- lines, and what is told below them
  lines_told : (lines : List Line) (w : NodeWorld) → AllByRecursion (IsPlayedLine header) lines → AllByRecursion IsEntry (told_in w lines)
      → AllByRecursion IsEntry (flat_map line_told (steps_from w lines))
  lines_told [] w may told = tt
  lines_told (l ∷ lines) w may told =
      let o : NodeWorld × LineOutcome = line_step w l in
      let below : List Entry = entries_below (noted_below o.1) in
      each-append IsEntry (line_told (record { line = l; outcome = o.1 })) (flat_map line_told (steps_from o.0 lines))
      (said_in header (inr nodes) l may.0.may_follow, front_each IsEntry below (told_in o.0 lines) told)
      (lines_told lines o.0 may.1 (back_each IsEntry below (told_in o.0 lines) told))

  pub nodes_told_in : (plays : List Play) (t : NodeHistory) → AllByRecursion (IsPlayFor header) plays → AreFewPlays plays
      → FollowsNodes header (lines_played header plays) t → All IsEntry (nodes_told t)
  nodes_told_in plays t may most follows = each_all IsEntry (nodes_told t) ((inr (subst IsNodeHeader (sym follows.header_is) nodes)), all)
    where
      all : AllByRecursion IsEntry (flat_map line_told t.steps)
      all =
          subst (λ (steps : List LineStep). AllByRecursion IsEntry (flat_map line_told steps)) (sym follows.steps_are)
          (lines_told (lines_played header plays) w0
          (lines_may_be_played header (inr nodes) (hosts_stay_behind header) plays may) (told_below_plays plays may most follows.sure))
