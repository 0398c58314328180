-- Behind plays a world that settles has brought all, and links at rest are quiet.
use Rattle.world_laws.proofs.Words.{AllByRecursion, AreBothReady, AreBothUpIn, AreHosts, AreLeftReady, ArePlayable, ArePoweredNotes, AreUndisturbedNotes}
use Rattle.world_laws.proofs.Words.{AreUnheldNotes, AreUpWith, Bool, BothBrought, Follows, FollowsNodes, Header, History, IsHeader, IsLinkQuiet, IsPlayFor}
use Rattle.world_laws.proofs.Words.{IsPlayedLine, Line, Link, List, MayBegin, NodeHistory, Play, Round, Site, Some, [], all-append, all_entries, and_parts, ap}
use Rattle.world_laws.proofs.Words.{arith, bare_lines, bare_link_behind, by_test, entries_since, false, fragments_noted, host_of, hosts_are, hosts_stay_behind}
use Rattle.world_laws.proofs.Words.{is_settling, lines_may_be_played, lines_played, link_rests, node_entries, nodes_behind, playable, refl, replicate}
use Rattle.world_laws.proofs.Words.{rounds_for, rounds_to_rest, site_at, sites_rest, subst, sym, true, true≢false, ℕ, ◌&&◌, ◌*◌, ◌++◌, ◌+◌, ◌==◌, ◌∙◌, ◌∷◌, ◌≡◌}
use Rattle.world_laws.proofs.Words.{◌≤◌}
use Rattle.node_laws.specs.schedules.Ranges.{AreNodeLinesOf}
use Rattle.world_laws.specs.worlds.BroughtBehind.{BringsAll}
use Rattle.world_laws.proofs.schedules.NotedQuiet.{bare_behind, noted_behind}
use Rattle.world_laws.proofs.undisturbed.Bare.{bare_undisturbed, played_ready, up_later}
use Rattle.world_laws.proofs.undisturbed.Nodes.{nodes_undisturbed, nodes_up_later}
use Rattle.world_laws.proofs.undisturbed.Unheld.{nodes_ready}
use Rattle.trace_model.specs.declared.line.Line.TheVariants as saying

-- ## What may be played below a header is what the laws of its worlds ask for

settles_not : (line : Line) (rounds : ℕ) → is_settling line ≡ false → line ≡ saying.Settle rounds → ⊥
settles_not line rounds plain is = true≢false (sym (ap is_settling is) ∙ plain)

module _ (header : Header) where
  in_ranges : (lines : List Line) → AllByRecursion (IsPlayedLine header) lines → AreNodeLinesOf header lines
  in_ranges [] may = tt
  in_ranges (line ∷ lines) may = let h0 = in_ranges lines may.1 in grind arith

  pub played_playable : (lines : List Line) → AllByRecursion (IsPlayedLine header) lines → ArePlayable lines
  played_playable lines may = playable header lines (in_ranges lines may)

-- ## Behind plays a world that settles has brought all, where nothing that disturbs it is noted of its rounds

-- the lines that plays come to with the rounds behind them in which the links settle
abbrev settled : Header → List Play → ℕ → List Play
settled header plays n = plays ++ replicate (rounds_to_rest header plays n) Round

-- below a header of nodes
module _ (header : Header) (are : AreHosts header.hosts.items) (plays : List Play) (n : ℕ) (p : ArePlayable (lines_played header plays))
    (later_p : ArePlayable (lines_played header (plays ++ replicate (rounds_to_rest header plays n) Round))) (t later : NodeHistory)
    (follows : FollowsNodes header (lines_played header plays) t)
    (goes_on : FollowsNodes header (lines_played header (plays ++ replicate (rounds_to_rest header plays n) Round)) later) where
  pub unheld_behind : (h : ℕ) (s : Site) → site_at (nodes_behind header (lines_played header plays)).sites h ≡ Some s → (k : ℕ)
      → AreUpWith (node_entries t) h k → AreUnheldNotes (node_entries t) (entries_since (node_entries t) (node_entries later)) h
      → ArePoweredNotes (entries_since (node_entries t) (node_entries later)) h
      → 24 * (fragments_noted (node_entries t) h k + 1) ≤ n → BothBrought (node_entries t) (node_entries later) h k
  unheld_behind h s found k up unheld notes =
      let ready = nodes_ready header are plays n p later_p t later follows goes_on h s found unheld in
      noted_behind header are plays n p later_p t later follows goes_on h s found k up
      (nodes_up_later header are plays n p later_p t later follows goes_on h s found k up ready notes)
      (nodes_undisturbed header are plays n p later_p t later follows goes_on h s found k up ready notes)

bare_header : (header : Header) → header.hci ≡ false → MayBegin header → IsHeader header
bare_header header bare a = grind arith

module _ (header : Header) (begun : MayBegin header) (plays : List Play) (may : AllByRecursion (IsPlayFor header) plays) (n : ℕ) where
  later_may : AllByRecursion (IsPlayFor header) (settled header plays n)
  later_may = all-append (IsPlayFor header) plays (replicate (rounds_to_rest header plays n) Round) may (rounds_for header (rounds_to_rest header plays n))

  first_played : AllByRecursion (IsPlayedLine header) (lines_played header plays)
  first_played = lines_may_be_played header begun (hosts_stay_behind header) plays may

  all_played : AllByRecursion (IsPlayedLine header) (lines_played header (settled header plays n))
  all_played = lines_may_be_played header begun (hosts_stay_behind header) (settled header plays n) later_may

  brings_least : BringsAll header plays n (rounds_to_rest header plays n)
  brings_least = record { nodes = of_nodes; bare = of_link } where
    of_nodes : header.hci ≡ true → (t later : NodeHistory) → FollowsNodes header (lines_played header plays) t
        → FollowsNodes header (lines_played header (settled header plays n)) later → (h : ℕ) (s : Site)
        → site_at (nodes_behind header (lines_played header plays)).sites h ≡ Some s → (k : ℕ)
        → AreUpWith (node_entries t) h k → AreUnheldNotes (node_entries t) (entries_since (node_entries t) (node_entries later)) h
        → ArePoweredNotes (entries_since (node_entries t) (node_entries later)) h
        → 24 * (fragments_noted (node_entries t) h k + 1) ≤ n → BothBrought (node_entries t) (node_entries later) h k
    of_nodes nodes t later follows goes_on =
        unheld_behind header (hosts_are header (grind arith)) plays n (played_playable header (lines_played header plays) first_played)
        (played_playable header (lines_played header (settled header plays n)) all_played) t later follows goes_on

    of_link : header.hci ≡ false → (t later : History) → Follows header (lines_played header plays) t
        → Follows header (lines_played header (settled header plays n)) later → (k : ℕ) → AreBothUpIn (all_entries t) (host_of header) k
        → AreLeftReady (lines_played header plays) (host_of header)
        → AreUndisturbedNotes (entries_since (all_entries t) (all_entries later)) (host_of header)
        → 24 * (fragments_noted (all_entries t) (host_of header) k + 1) ≤ n → BothBrought (all_entries t) (all_entries later) (host_of header) k
    of_link bare t later follows goes_on k up left notes =
        let is = bare_header header bare begun in
        let valid = bare_lines header bare (lines_played header plays) first_played in
        let later_valid = bare_lines header bare (lines_played header (settled header plays n)) all_played in
        let ready : AreBothReady (bare_link_behind header (lines_played header plays)) = record {
          controller = played_ready header is false (lines_played header plays) first_played left.controller;
          host = played_ready header is true (lines_played header plays) first_played left.host;
        } in
        bare_behind header bare plays n t later valid later_valid follows goes_on k up
        (up_later header bare plays n t later valid later_valid follows goes_on k up ready notes)
        (bare_undisturbed header bare plays n t later valid later_valid follows goes_on k up ready notes)

  -- in as many rounds as all links need to be at rest, or in n where they need more
  pub brings_all : (r : ℕ) → r ≡ rounds_to_rest header plays n → BringsAll header plays n r
  brings_all r is = subst (BringsAll header plays n) (sym is) brings_least

-- ## Links at rest are quiet, and quiet links are at rest

-- ### Links

record AllFour (a b c d : Bool) : Type 0 where
  first : a ≡ true
  second : b ≡ true
  third : c ≡ true
  fourth : d ≡ true

four : (a b c d : Bool) → (a && b && c && d) ≡ true → AllFour a b c d
four a b c d e = grind arith

pub link_quiet : (l : Link) → link_rests l ≡ true → IsLinkQuiet l
link_quiet l r = grind arith

-- ### Worlds

pub sites_quiet : (sites : List Site) → sites_rest sites ≡ true → AllByRecursion (λ (s : Site). IsLinkQuiet s.link) sites
sites_quiet [] r = tt
sites_quiet (s ∷ sites) r =
    let both = and_parts (link_rests s.link) (sites_rest sites) r in (link_quiet s.link both.0, sites_quiet sites both.1)

pub sites_resting : (sites : List Site) → AllByRecursion (λ (s : Site). IsLinkQuiet s.link) sites → sites_rest sites ≡ true
sites_resting [] a = refl
sites_resting (s ∷ sites) a = let h0 = sites_resting sites a.1 in grind arith

pub site_quiet : (sites : List Site) (h : ℕ) (s : Site) → AllByRecursion (λ (x : Site). IsLinkQuiet x.link) sites → site_at sites h ≡ Some s
    → IsLinkQuiet s.link
site_quiet [] h s a q = cc
site_quiet (x ∷ sites) h s a q = by_test (x.host == h)
    (λ p. grind arith)
    (λ p. site_quiet sites h s a.1 (rw p at q))
