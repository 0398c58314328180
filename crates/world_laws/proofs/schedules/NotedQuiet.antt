-- Where the links of a world settle behind plays they have brought all, as the history notes it.
use Rattle.std.specs.Prelude.{if◌then◌else◌, not, replicate, ◌&&◌}
use Rattle.world_laws.proofs.Words.{AllAllowed, AllByRecursion, AreBothUpIn, AreHosts, ArePlayable, AreReadOff, AreSessionsRead, AreUpWith, Bool, BothBrought}
use Rattle.world_laws.proofs.Words.{Controller, EarlierGot, End, Entry, Event, Follows, FollowsNodes, HasBrought, Header, History, Host, IsBare, IsEndQuiet}
use Rattle.world_laws.proofs.Words.{IsLineOf, IsLinkQuiet, IsLinkTold, IsLinkUndisturbed, IsRead, IsReadOff, IsRun, Known, Line, LineOutcome, Link, LinkBrought}
use Rattle.world_laws.proofs.Words.{LinkSettled, List, NodeHistory, NodeWorld, None, NoneIsMisread, Noted, NumberedEnd, Occurrence, Play, Round, Side, Site}
use Rattle.world_laws.proofs.Words.{Some, Talk, Up, [], acked_in, after_causes, after_link_events, after_steps, alike, all_entries, all_events, all_happen, ap}
use Rattle.world_laws.proofs.Words.{append-nil, append_assoc, are_read, arith, bare_comes_to_rest, bare_link, bare_link_behind, bare_played_rounds, bare_round}
use Rattle.world_laws.proofs.Words.{bare_round_goes, behind_lines, bytes_on, causes_of, controller_heard, end_c, end_h, end_of, end_takes_all, ends_in_order}
use Rattle.world_laws.proofs.Words.{ends_take_all, entries_for, events_in, events_of_steps, false, far_now, fragments_left, fragments_noted, frames_at}
use Rattle.world_laws.proofs.Words.{host_heard, host_number, host_of, is_clear, is_run, is_running, known_after, length, line_step, lines_lead, lines_played}
use Rattle.world_laws.proofs.Words.{lines_played_of, link_after_round, link_events, link_rests, near_now, new_world, node_entries, node_of, nodes_behind}
use Rattle.world_laws.proofs.Words.{nodes_come_to_rest, notes_of, number_of, occurrences_in, occurrences_of, of_allowed, of_can, of_steps, plain_trace}
use Rattle.world_laws.proofs.Words.{played_more, played_round, played_rounds, plays_more, plays_of, read_here, read_off, read_there, refl, refusal_in}
use Rattle.world_laws.proofs.Words.{round_behind, round_causes, round_first, round_in, round_lines, rounds_events, rounds_of_world, rounds_to_rest}
use Rattle.world_laws.proofs.Words.{rounds_to_settle, run_entries, sent_in, session-all, session_number, session_up, settling_causes, settling_events, site_at}
use Rattle.world_laws.proofs.Words.{start_good, start_reached, steps_from, subst, suc, sym, takes_so, taking_in, talk_now, talk_of, true, up_far, up_near}
use Rattle.world_laws.proofs.Words.{wire-controller, wire-host, world_after, world_after_round, world_behind, world_round, world_rounds_to_settle}
use Rattle.world_laws.proofs.Words.{world_settling, zero, ℕ, ◌*◌, ◌++◌, ◌+◌, ◌∙◌, ◌∷◌, ◌≡◌, ◌≤◌}
use Rattle.history.proofs.legal.Sessions.{acked-all, got-all, sent-all}
use Rattle.link_laws.proofs.entries.Seeing.{read_off as seen_off}
use Rattle.link_laws.specs.entries.Reading.{Seen, nothing_seen}
use Rattle.link_laws.specs.places.Wire.{OnWire}
use Rattle.node_machine.specs.world.Lines.{goes_on}
use Rattle.node_machine.specs.world.World.Happening.{Ticks}
use Rattle.world_laws.specs.worlds.NotedRest.{AreNotedQuiet, AreNotedQuietInBare}
use Rattle.world_laws.proofs.links.RoundCauses.{settled_at_controller, settled_at_host, settles}
use Rattle.world_laws.proofs.worlds.WorldRounds.{IsReached, end_left, link_left, reached_behind, world_settled}
use Rattle.trace_model.specs.declared.line.Line.TheVariants as saying

-- ## Where the link of a bare world settles behind plays, it has brought all

-- ### Rounds of plays are rounds of the link

round_same : (header : Header) (l : Link) → bare_round header l ≡ link_after_round (host_of header) l
round_same header l = round_causes (host_of header) (end_of (host_of header) Controller ∷ end_of (host_of header) Host ∷ []) l

module _ (header : Header) (bare : header.hci ≡ false) where
  pub one_round : (before : List Line)
      → bare_link_behind header (before ++ round_behind header before) ≡ link_after_round (host_of header) (bare_link_behind header before)
  one_round before = bare_round_goes header bare before ∙ round_same header (bare_link_behind header before)

  pub as_many : (plays : List Play) (n : ℕ)
      → rounds_to_rest header plays n ≡ rounds_to_settle n (host_of header) (bare_link_behind header (lines_played header plays))
  as_many plays n =
      bare_comes_to_rest header bare plays n
      ∙ alike link_rests (bare_round header) link_rests (link_after_round (host_of header)) (λ (k : Link). k) (λ k. refl) (round_same header) n
      (bare_link_behind header (lines_played header plays))

  -- the link behind them
  pub settled_link : (plays : List Play) (n : ℕ)
      → bare_link_behind header (lines_played header (plays ++ replicate (rounds_to_rest header plays n) Round))
      ≡ after_link_events (bare_link_behind header (lines_played header plays))
      (settling_events n (host_of header) (bare_link_behind header (lines_played header plays)))
  settled_link plays n =
      let h : ℕ = host_of header in
      let l : Link = bare_link_behind header (lines_played header plays) in
      bare_played_rounds header bare (rounds_to_rest header plays n) plays
      ∙ (ap (λ (r : ℕ). after_steps (bare_round header) r l) (as_many plays n)
      ∙ ((let h0 = (bare_round header) in let h1 = (link_after_round h) in let h2 = (round_same header) in let h3 = (rounds_to_settle n h l) in grind arith)
      ∙ (sym (settles n h l) ∙ after_causes (settling_causes n h l) l)))

-- ### Behind the lines of a history

module _ (header : Header) (lines : List Line) (t : History) (valid : AllByRecursion (IsLineOf header) lines) (follows : Follows header lines t) where
  happened_may : AllAllowed bare_link (link_events (all_events t))
  happened_may =
      of_allowed (host_of header) bare_link (events_in t.steps) (of_steps header (host_of header) bare_link lines t.steps valid follows.steps_follow)

  pub happened_leads : after_link_events bare_link (link_events (all_events t)) ≡ bare_link_behind header lines
  happened_leads = sym (after_causes (causes_of (all_events t)) bare_link) ∙ lines_lead header lines t follows

  brought_behind : (n : ℕ) → IsLinkUndisturbed (bare_link_behind header lines) (settling_events n (host_of header) (bare_link_behind header lines))
      → 24 * (fragments_left (bare_link_behind header lines) + 1) ≤ n
      → LinkBrought (bare_link_behind header lines)
      (after_link_events (bare_link_behind header lines) (settling_events n (host_of header) (bare_link_behind header lines)))
  brought_behind n u fits =
      let h : ℕ = host_of header in
      let P : Link → Type 0 =
      λ l. IsLinkUndisturbed l (settling_events n h l) → 24 * (fragments_left l + 1) ≤ n → LinkBrought l (after_link_events l (settling_events n h l)) in
      subst P happened_leads
      (λ calm most. record {
        to_host = settled_at_host h bare_link IsBare (link_events (all_events t)) happened_may n calm most;
        to_controller = settled_at_controller h bare_link IsBare (link_events (all_events t)) happened_may n calm most;
      }) u fits

-- ### Behind plays

module _ (header : Header) (bare : header.hci ≡ false) (plays : List Play) (t : History)
    (valid : AllByRecursion (IsLineOf header) (lines_played header plays)) (follows : Follows header (lines_played header plays) t) where
  pub bare_settled : (n : ℕ)
      → IsLinkUndisturbed (bare_link_behind header (lines_played header plays))
      (settling_events n (host_of header) (bare_link_behind header (lines_played header plays)))
      → 24 * (fragments_left (bare_link_behind header (lines_played header plays)) + 1) ≤ n
      → LinkBrought (bare_link_behind header (lines_played header plays))
      (bare_link_behind header (lines_played header (plays ++ replicate (rounds_to_rest header plays n) Round)))
  bare_settled n u fits =
      subst (LinkBrought (bare_link_behind header (lines_played header plays))) (sym (settled_link header bare plays n))
      (brought_behind header (lines_played header plays) t valid follows n u fits)

-- ## Where the links of a world of nodes settle behind plays, they have brought all

-- ### Behind the lines of a history

module _ (header : Header) (lines : List Line) (t : NodeHistory) (follows : FollowsNodes header lines t) (are : AreHosts header.hosts.items)
    (p : ArePlayable lines) where
  -- behind all its events the world is the one behind its lines
  pub last : world_behind (new_world header.hosts.items) (occurrences_in t) ≡ nodes_behind header lines
  last =
      ap (λ steps. world_behind (new_world header.hosts.items) (events_of_steps steps)) follows.steps_are
      ∙ behind_lines lines (new_world header.hosts.items)

  abbrev pub reached : IsReached header.hosts.items (world_behind (new_world header.hosts.items) (occurrences_in t))
  reached = reached_behind header lines t follows are p (occurrences_in t) [] (sym (append-nil (occurrences_in t)))

  -- a link settles
  settles_behind : (h : ℕ) (s : Site) → site_at (nodes_behind header lines).sites h ≡ Some s → (n : ℕ)
      → IsLinkUndisturbed s.link (rounds_events h (world_rounds_to_settle n (nodes_behind header lines)) (nodes_behind header lines))
      → 24 * (fragments_left s.link + 1) ≤ n → LinkSettled (world_settling n (nodes_behind header lines)).0 h s
  settles_behind h s found n u fits =
      let P : NodeWorld → Type 0 =
      λ w. site_at w.sites h ≡ Some s → IsLinkUndisturbed s.link (rounds_events h (world_rounds_to_settle n w) w) → LinkSettled (world_settling n w).0 h s in
      subst P last
      (λ q calm. world_settled header lines t follows are p (occurrences_in t) [] (sym (append-nil (occurrences_in t))) h s q n calm fits) found u

  -- what both ends have of the session in which they are up is what is noted
  record ReadNow (h : ℕ) (s : Site) (k : ℕ) : Type 0 where
    pub near : IsReadOff (node_entries t) (end_c h) k (talk_now s.link.controller.side)
    pub far : IsReadOff (node_entries t) (end_h h) k (talk_now s.link.host.side)
    pub left : fragments_left s.link ≤ fragments_noted (node_entries t) h k

  read_now : (h : ℕ) (s : Site) → site_at (nodes_behind header lines).sites h ≡ Some s → (k : ℕ) → AreUpWith (node_entries t) h k → ReadNow h s k
  read_now h s found k up =
      let w : NodeWorld = world_behind (new_world header.hosts.items) (occurrences_in t) in
      let q : site_at w.sites h ≡ Some s = ap (λ (v : NodeWorld). site_at v.sites h) last ∙ found in
      let told : IsLinkTold h s.link (node_entries t) = (reached.so.each h s q).told in
      let zero = host_number w h s reached.so.well.orderly q in
      let near = up_near h s.link (node_entries t) told zero k up in
      let far = up_far h s.link (node_entries t) told zero k up in
      let P : ℕ → Type 0 = λ n. IsReadOff (node_entries t) (end_c h) n (talk_now s.link.controller.side) in
      let Q : ℕ → Type 0 = λ n. IsReadOff (node_entries t) (end_h h) n (talk_now s.link.host.side) in
      record {
        near = subst P near.1 (near_now h s.link (node_entries t) told near.0);
        far = subst Q near.1 (far_now h s.link (node_entries t) told near.0 far);
        left = link_left header.hosts.items w h s reached q k up;
      }

-- what was brought, as it is noted
brought : (a b : List Entry) (e d : End) (k : ℕ) (before sender receiver : Talk) → IsReadOff a e k before → IsReadOff b e k sender
    → IsReadOff b d k receiver → EarlierGot before sender receiver → HasBrought a b e d k
brought a b e d k before sender receiver first last other got = grind arith

-- ### Behind plays

module _ (header : Header) (nodes : header.hci ≡ true) (are : AreHosts header.hosts.items) (plays : List Play) (p : ArePlayable (lines_played header plays))
    (sure : NoneIsMisread (new_world header.hosts.items) (lines_played header plays)) where
  abbrev played : NodeHistory
  played = record { header = header; steps = steps_from (new_world header.hosts.items) (lines_played header plays) }

  pub nodes_settled : (h : ℕ) (s : Site) → site_at (nodes_behind header (lines_played header plays)).sites h ≡ Some s → (n : ℕ)
      → IsLinkUndisturbed s.link (rounds_events h (rounds_to_rest header plays n) (nodes_behind header (lines_played header plays)))
      → 24 * (fragments_left s.link + 1) ≤ n
      → LinkSettled (nodes_behind header (lines_played header (plays ++ replicate (rounds_to_rest header plays n) Round))) h s
  nodes_settled h s found n u fits =
      let w : NodeWorld = nodes_behind header (lines_played header plays) in
      let many : rounds_to_rest header plays n ≡ world_rounds_to_settle n w = nodes_come_to_rest header nodes plays n in
      let end : nodes_behind header (lines_played header (plays ++ replicate (rounds_to_rest header plays n) Round)) ≡ (world_settling n w).0 =
      played_rounds header nodes (rounds_to_rest header plays n) plays ∙ ap (λ (r : ℕ). (rounds_of_world r w).0) many in
      subst (λ (v : NodeWorld). LinkSettled v h s) (sym end)
      (settles_behind header (lines_played header plays) played (grind arith) are p h s found n (grind arith) fits)

-- what is played of a schedule and of a line behind it that lets the links settle
pub with_settle : (header : Header) (lines : List Line) (n : ℕ)
    → lines_played_of header (lines ++ saying.Settle n ∷ [])
    ≡ lines_played header (plays_of header lines ++ replicate (rounds_to_rest header (plays_of header lines) n) Round)
with_settle header lines n = ap (lines_played header) (plays_more header lines (saying.Settle n))

-- behind these plays and the rounds in which the links settle then
module _ (header : Header) (are : AreHosts header.hosts.items) (plays : List Play) (n : ℕ) (p : ArePlayable (lines_played header plays))
    (later_p : ArePlayable (lines_played header (plays ++ replicate (rounds_to_rest header plays n) Round))) (t later : NodeHistory)
    (follows : FollowsNodes header (lines_played header plays) t)
    (goes_on : FollowsNodes header (lines_played header (plays ++ replicate (rounds_to_rest header plays n) Round)) later) where
  pub noted_behind : (h : ℕ) (s : Site) → site_at (nodes_behind header (lines_played header plays)).sites h ≡ Some s → (k : ℕ)
      → AreUpWith (node_entries t) h k → AreUpWith (node_entries later) h k
      → IsLinkUndisturbed s.link (rounds_events h (rounds_to_rest header plays n) (nodes_behind header (lines_played header plays)))
      → 24 * (fragments_noted (node_entries t) h k + 1) ≤ n → BothBrought (node_entries t) (node_entries later) h k
  noted_behind h s found k up up_later u fits =
      let left = (read_now header (lines_played header plays) t follows are p h s found k up).left in
      let there = nodes_settled header follows.nodes are plays p follows.sure h s found n u (omega (arith, left, fits)) in
      let all : List Line = lines_played header (plays ++ replicate (rounds_to_rest header plays n) Round) in
      let is : ReadNow header all later goes_on are later_p h there.later k =
      read_now header all later goes_on are later_p h there.later there.is k up_later in
      grind arith

-- behind the lines of a schedule and one that lets the links settle
module _ (header : Header) (are : AreHosts header.hosts.items) (lines : List Line) (n : ℕ) (p : ArePlayable (lines_played_of header lines))
    (later_p : ArePlayable (lines_played_of header (lines ++ saying.Settle n ∷ []))) (t later : NodeHistory)
    (follows : FollowsNodes header (lines_played_of header lines) t)
    (goes_on : FollowsNodes header (lines_played_of header (lines ++ saying.Settle n ∷ [])) later) where
  pub noted_settled : (h : ℕ) (s : Site) → site_at (nodes_behind header (lines_played_of header lines)).sites h ≡ Some s → (k : ℕ)
      → AreUpWith (node_entries t) h k → AreUpWith (node_entries later) h k
      → IsLinkUndisturbed s.link (rounds_events h (rounds_to_rest header (plays_of header lines) n) (nodes_behind header (lines_played_of header lines)))
      → 24 * (fragments_noted (node_entries t) h k + 1) ≤ n → BothBrought (node_entries t) (node_entries later) h k
  noted_settled =
      let is = with_settle header lines n in
      noted_behind header are (plays_of header lines) n p (subst ArePlayable is later_p) t later follows
      (subst (λ (ls : List Line). FollowsNodes header ls later) is goes_on)

-- ## The session of an end that is up

-- as many messages count as acknowledged at a quiet end as it sent, as it is noted
acked_all : (t : List Entry) (e : End) (n : ℕ) (k : NumberedEnd) → IsReadOff t e n (talk_of k n) → IsEndQuiet k.side → k.side.shdlc.phase ≡ Up
    → number_of k ≡ n → acked_in t e n ≡ length (sent_in t e n)
acked_all t e n k read quiet up is = grind arith

-- ## What the link of a bare world has brought behind a line that lets it settle, as the history of the schedule notes it

-- what both ends have of the session in which they are up is what is noted
record ReadInBare (t : List Entry) (h : ℕ) (l : Link) (n : ℕ) : Type 0 where
  near : IsReadOff t (end_c h) n (talk_now l.controller.side)
  far : IsReadOff t (end_h h) n (talk_now l.host.side)
  left : fragments_left l ≤ fragments_noted t h n

-- what is read of an end of the link is read in the history
history_read : (h : ℕ) (xs : List Event) (n : ℕ) (who : Side) (k : Talk) → IsRead (notes_of xs) who n k
    → IsReadOff (entries_for h (notes_of xs)) (end_of h who) n k
history_read h xs n who k r = record {
  sent = sent-all h (notes_of xs) who n ∙ r.sent;
  got = got-all h (notes_of xs) who n ∙ r.got;
  acked = acked-all h (notes_of xs) who n ∙ r.acked;
}

module _ (header : Header) (lines : List Line) (t : History) (valid : AllByRecursion (IsLineOf header) lines) (follows : Follows header lines t) where
  read_in_bare : (n : ℕ) → AreBothUpIn (all_entries t) (host_of header) n
      → ReadInBare (all_entries t) (host_of header) (bare_link_behind header lines) n
  read_in_bare n up =
      let h : ℕ = host_of header in
      let xs : List Event = all_events t in
      let run : IsRun h t = is_run header lines t valid follows in
      let told : all_entries t ≡ entries_for h (notes_of xs) = run_entries h t.opening xs run.opening run.events in
      let m : Link = after_link_events bare_link (link_events xs) in
      let may = of_allowed h bare_link xs run.events in
      let can = of_can h bare_link xs run.events in
      let plain = plain_trace (causes_of xs) in
      let near = session_up m.controller n
      (sym (session-all h (notes_of xs) Controller plain ∙ controller_heard (causes_of xs) can)
      ∙ (sym (ap (λ (es : List Entry). session_number es (end_of h Controller)) told) ∙ up.controller)) in
      let far = session_up m.host n
      (sym (session-all h (notes_of xs) Host plain ∙ host_heard (causes_of xs) can)
      ∙ (sym (ap (λ (es : List Entry). session_number es (end_of h Host)) told) ∙ up.host)) in
      let P : Talk → Type 0 = λ k. IsReadOff (entries_for h (notes_of xs)) (end_c h) n k in
      let Q : Talk → Type 0 = λ k. IsReadOff (entries_for h (notes_of xs)) (end_h h) n k in
      let here : P (talk_now m.controller.side) =
      subst P (grind arith) (history_read h xs n Controller _ (read_here bare_link IsBare (link_events xs) may n)) in
      let there : Q (talk_now m.host.side) =
      subst Q (grind arith) (history_read h xs n Host _ (read_there bare_link IsBare (link_events xs) may n)) in
      let known : Known m =
      (known_after (link_events xs) bare_link may (record { good = start_good bare_link IsBare; reached = start_reached bare_link IsBare })).0 in
      let one = end_left (entries_for h (notes_of xs)) (end_c h) n (talk_now m.controller.side) known.good.controller.now.says here in
      let two = end_left (entries_for h (notes_of xs)) (end_h h) n (talk_now m.host.side) known.good.host.now.says there in
      subst (λ (l : Link). ReadInBare (all_entries t) h l n) (happened_leads header lines t valid follows)
      (subst (λ (es : List Entry). ReadInBare es h m n) (sym told) (record { near = here; far = there; left = omega (arith, one, two) }))

-- behind these plays and the rounds in which the link settles then
module _ (header : Header) (bare : header.hci ≡ false) (plays : List Play) (n : ℕ) (t later : History)
    (valid : AllByRecursion (IsLineOf header) (lines_played header plays))
    (later_valid : AllByRecursion (IsLineOf header) (lines_played header (plays ++ replicate (rounds_to_rest header plays n) Round)))
    (follows : Follows header (lines_played header plays) t)
    (goes_on : Follows header (lines_played header (plays ++ replicate (rounds_to_rest header plays n) Round)) later) where
  pub bare_behind : (k : ℕ) → AreBothUpIn (all_entries t) (host_of header) k → AreBothUpIn (all_entries later) (host_of header) k
      → IsLinkUndisturbed (bare_link_behind header (lines_played header plays))
      (settling_events n (host_of header) (bare_link_behind header (lines_played header plays)))
      → 24 * (fragments_noted (all_entries t) (host_of header) k + 1) ≤ n → BothBrought (all_entries t) (all_entries later) (host_of header) k
  bare_behind k up up_later u fits =
      let l : Link = bare_link_behind header (lines_played header plays) in
      let all : List Line = lines_played header (plays ++ replicate (rounds_to_rest header plays n) Round) in
      let m : Link = bare_link_behind header all in
      let is : ReadInBare (all_entries later) (host_of header) m k = read_in_bare header all later later_valid goes_on k up_later in
      let left = (read_in_bare header (lines_played header plays) t valid follows k up).left in
      let come : LinkBrought l m = bare_settled header bare plays t valid follows n u (omega (arith, left, fits)) in
      grind arith

-- behind the lines of a schedule and one that lets the link settle
module _ (header : Header) (bare : header.hci ≡ false) (lines : List Line) (n : ℕ) (t later : History)
    (valid : AllByRecursion (IsLineOf header) (lines_played_of header lines))
    (later_valid : AllByRecursion (IsLineOf header) (lines_played_of header (lines ++ saying.Settle n ∷ [])))
    (follows : Follows header (lines_played_of header lines) t)
    (goes_on : Follows header (lines_played_of header (lines ++ saying.Settle n ∷ [])) later) where
  pub bare_noted : (k : ℕ) → AreBothUpIn (all_entries t) (host_of header) k → AreBothUpIn (all_entries later) (host_of header) k
      → IsLinkUndisturbed (bare_link_behind header (lines_played_of header lines))
      (settling_events n (host_of header) (bare_link_behind header (lines_played_of header lines)))
      → 24 * (fragments_noted (all_entries t) (host_of header) k + 1) ≤ n → BothBrought (all_entries t) (all_entries later) (host_of header) k
  bare_noted =
      let is = with_settle header lines n in
      bare_behind header bare (plays_of header lines) n t later valid (subst (AllByRecursion (IsLineOf header)) is later_valid) follows
      (subst (λ (ls : List Line). Follows header ls later) is goes_on)

-- ## What occurs over the lines of a round of a world of nodes is what occurs in the round, and so it is with more rounds

-- what occurs over these lines, one after another
abbrev occurring : NodeWorld → List Line → List Occurrence
occurring w lines = events_of_steps (steps_from w lines)

occurring-append : (xs ys : List Line) (w : NodeWorld) → occurring w (xs ++ ys) ≡ occurring w xs ++ occurring (world_after w xs) ys
occurring-append [] ys w = refl
occurring-append (x ∷ xs) ys w =
    let now : List Occurrence = occurrences_of (line_step w x).1 in
    let v : NodeWorld = (line_step w x).0 in
    ap (λ (os : List Occurrence). now ++ os) (occurring-append xs ys v)
    ∙ sym (append_assoc now (occurring v xs) (occurring (world_after v xs) ys))

-- ### An end takes all that stands on its wire

-- the lines of a taking, where its node runs or not and these frames stand
abbrev taken_if : End → Bool → List OnWire → List Line
taken_if e runs frames = if runs && not (is_clear frames) then saying.Deliver e None ∷ [] else []

taking_occurs : (w : NodeWorld) (e : End) → occurring w (taking_in w e) ≡ (end_takes_all w e).1
taking_occurs w e = go (is_running w (node_of e)) (frames_at w e) refl refl
  where
    go : (runs : Bool) (frames : List OnWire) → is_running w (node_of e) ≡ runs → frames_at w e ≡ frames
        → occurring w (taking_in w e) ≡ (end_takes_all w e).1
    go false frames p q = grind arith
    go true [] p q = grind arith
    go true (x ∷ xs) p q =
        let line : Line = saying.Deliver e None in
        let none : refusal_in w line ≡ None = rw (p, q) refl in
        let step : line_step w line ≡ goes_on w line = rw none refl in
        ap (λ (b : Bool). occurring w (taken_if e b (frames_at w e))) p
        ∙ (ap (λ (xs : List OnWire). occurring w (taken_if e true xs)) q
        ∙ (append-nil (occurrences_of (line_step w line).1)
        ∙ ap (λ (o : NodeWorld × LineOutcome). occurrences_of o.1) step))

-- ### Rounds

abbrev occurring_in : NodeWorld → List End → List Occurrence
occurring_in w ends = (ends_take_all w ends).1 ++ (all_happen (ends_take_all w ends).0 (Ticks ∷ [])).1

round_occurs : (ends : List End) (w : NodeWorld) → occurring w (round_in w ends) ≡ occurring_in w ends
round_occurs [] w = append-nil (all_happen w (Ticks ∷ [])).1
round_occurs (e ∷ ends) w =
    let v : NodeWorld = world_after w (taking_in w e) in
    let now : List Occurrence = (end_takes_all w e).1 in
    let taken : NodeWorld × List Occurrence = ends_take_all ((end_takes_all w e).0) ends in
    occurring-append (taking_in w e) (round_in v ends) w
    ∙ (ap (λ (os : List Occurrence). os ++ occurring v (round_in v ends)) (taking_occurs w e)
    ∙ (ap (λ (os : List Occurrence). now ++ os) (round_occurs ends v ∙ ap (λ (x : NodeWorld). occurring_in x ends) (takes_so w e).world)
    ∙ sym (append_assoc now taken.1 ((all_happen taken.0 (Ticks ∷ [])).1))))

module _ (header : Header) (nodes : header.hci ≡ true) where
  abbrev so_far : List Play → List Occurrence
  so_far plays = occurring (new_world header.hosts.items) (lines_played header plays)

  one_round_occurs : (plays : List Play)
      → so_far (plays ++ Round ∷ []) ≡ so_far plays ++ (world_round (nodes_behind header (lines_played header plays))).1
  one_round_occurs plays =
      let before : List Line = lines_played header plays in
      let w : NodeWorld = nodes_behind header before in
      ap (occurring (new_world header.hosts.items)) (played_more header plays Round)
      ∙ (occurring-append before (round_behind header before) (new_world header.hosts.items)
      ∙ ap (λ (os : List Occurrence). so_far plays ++ os)
      (ap (occurring w) (round_lines header nodes before) ∙ round_occurs (ends_in_order w) w))

  -- behind plays
  pub rounds_occur : (n : ℕ) (plays : List Play)
      → so_far (plays ++ replicate n Round) ≡ so_far plays ++ (rounds_of_world n (nodes_behind header (lines_played header plays))).1
  rounds_occur zero plays = ap so_far (append-nil plays) ∙ sym (append-nil (so_far plays))
  rounds_occur (suc n) plays =
      let w : NodeWorld = nodes_behind header (lines_played header plays) in
      let v : NodeWorld = world_after_round w in
      ap so_far (round_first plays n)
      ∙ (rounds_occur n (plays ++ Round ∷ [])
      ∙ (ap (λ (u : NodeWorld). so_far (plays ++ Round ∷ []) ++ (rounds_of_world n u).1) (played_round header nodes plays)
      ∙ (ap (λ (os : List Occurrence). os ++ (rounds_of_world n v).1) (one_round_occurs plays)
      ∙ append_assoc (so_far plays) ((world_round w).1) (rounds_of_world n v).1)))

-- ## Where links are at rest behind plays, the history of these plays notes it

-- ### In a world of nodes

module _ (header : Header) (lines : List Line) (t : NodeHistory) (follows : FollowsNodes header lines t) (are : AreHosts header.hosts.items)
    (p : ArePlayable lines) where
  pub noted_quiet : (h : ℕ) (s : Site) → site_at (nodes_behind header lines).sites h ≡ Some s → IsLinkQuiet s.link → AreNotedQuiet (occurrences_in t) h
  noted_quiet h s found quiet =
      let w : NodeWorld = world_behind (new_world header.hosts.items) (occurrences_in t) in
      let r = reached header lines t follows are p in
      let q : site_at w.sites h ≡ Some s = ap (λ (v : NodeWorld). site_at v.sites h) (last header lines t follows are p) ∙ found in
      let b = r.so.each h s q in
      let read : AreSessionsRead (node_entries t) h s.link = are_read h s.link (node_entries t) (host_number w h s r.so.well.orderly q) b.told in
      let off : AreReadOff (node_entries t) h s.link = read_off h s.link (node_entries t) b.told in
      grind arith

-- ### In a bare world

module _ (header : Header) (lines : List Line) (t : History) (valid : AllByRecursion (IsLineOf header) lines) (follows : Follows header lines t) where
  pub noted_quiet_in_bare : IsLinkQuiet (bare_link_behind header lines) → AreNotedQuietInBare (all_entries t) (host_of header)
  noted_quiet_in_bare rests =
      let h : ℕ = host_of header in
      let xs : List Event = all_events t in
      let run : IsRun h t = is_run header lines t valid follows in
      let notes : List Noted = notes_of xs in
      let m : Link = after_link_events bare_link (link_events xs) in
      let may = of_allowed h bare_link xs run.events in
      let can = of_can h bare_link xs run.events in
      let plain = plain_trace (causes_of xs) in
      let seen = seen_off bare_link IsBare (link_events xs) in
      let quiet : IsLinkQuiet m = subst IsLinkQuiet (sym (happened_leads header lines t valid follows)) rests in
      let all : AreNotedQuietInBare (entries_for h notes) h =
      record {
        to_controller = wire-controller h notes nothing_seen refl plain
            ∙ (ap (λ (x : Seen). bytes_on x.to_controller) seen ∙ ap (λ (w : List OnWire). bytes_on w) quiet.to_controller);
        to_host = wire-host h notes nothing_seen refl plain
            ∙ (ap (λ (x : Seen). bytes_on x.to_host) seen ∙ ap (λ (w : List OnWire). bytes_on w) quiet.to_host);
        controller = λ n up.
            let now = session_up m.controller n (sym (session-all h notes Controller plain ∙ controller_heard (causes_of xs) can) ∙ up) in
            acked_all (entries_for h notes) (end_c h) n m.controller (history_read h xs n Controller _ (read_here bare_link IsBare (link_events xs) may n))
            quiet.controller now.0 now.1;
        host = λ n up.
            let now = session_up m.host n (sym (session-all h notes Host plain ∙ host_heard (causes_of xs) can) ∙ up) in
            acked_all (entries_for h notes) (end_h h) n m.host (history_read h xs n Host _ (read_there bare_link IsBare (link_events xs) may n))
            quiet.host now.0 now.1;
      } in
      subst (λ (es : List Entry). AreNotedQuietInBare es h) (sym (run_entries h t.opening xs run.opening run.events)) all
