-- The history of plays is legal.
use Rattle.node_world.proofs.Words.{AllByRecursion, AllKeep, Book, Bool, Entry, FindsCommands, FollowsNodes, Header, IsHost, IsNodeHeader, IsNodeOf, IsPlayFor}
use Rattle.node_world.proofs.Words.{IsPlayedLine, IsSome, Last, Line, List, Memory, NodeHistory, NodeWorld, NoneIsMisread, Play, Round, Said, Site, SiteKeeps}
use Rattle.node_world.proofs.Words.{Some, WouldFind, [], ap, append-nil, append_assoc, arith, book_in, cases_Bool, commands_in, cond, current, eq-eqb, eqb}
use Rattle.node_world.proofs.Words.{eqb-true, false, fold, hosts_stay_behind, inl, inr, last_in, length, length-append, length-take, lines_may_be_played}
use Rattle.node_world.proofs.Words.{lines_of_play, lines_played, lines_said, memory_at, min, new_world, nodes_behind, refl, round_behind, site_at, site_found}
use Rattle.node_world.proofs.Words.{sound_has_no_fault, steps_from, subst, suc, sym, true, true≢false, with_found, ℕ, ◌++◌, ◌+◌, ◌-◌, ◌==◌, ◌^◌, ◌∙◌, ◌∷◌, ◌≡◌}
use Rattle.node_world.proofs.Words.{◌≤◌, ◌⊎◌}
use Rattle.trace_model.specs.declared.line.Line.TheVariants as saying
use Rattle.trace_model.specs.Lines.{IsHeader, IsLineOf, MayBegin}
use Rattle.history.specs.Histories.{History}
use Rattle.history.specs.Follows.{Follows}
use Rattle.node_machine.specs.world.NodeHistories.{node_entries}
use Rattle.node_laws.specs.schedules.Ranges.{AreNodeLinesOf, asking, lines_asking}
use Rattle.node_laws.specs.answers.Headline.{IsPlayed}
use Rattle.node_laws.specs.answers.Headline.PlayedHistory.{OfLink, OfNodes}
use Rattle.node_laws.proofs.schedules.Ranges.{in_range, hosts_are, sent_by_hosts}
use Rattle.node_laws.proofs.bounds.Paying.{asking-append, asking_few}
use Rattle.node_laws.proofs.worlds.Schedules.{played_legal}
use Rattle.lines_told.specs.lines.Below.{is_settling, memory_behind}
use Rattle.lines_told.specs.lines.RoundLines.{IsRoundLine}
use Rattle.lines_told.proofs.lines.Told.{round_known}
use Rattle.trace_model.specs.declared.entry.Entry.TheVariants as entry
use Rattle.node_machine.specs.world.NodeFilters.{book_after}
use Rattle.node_machine.specs.world.NodeLegal.{AreFound, Kept, last_after}
use Rattle.node_machine.specs.world.NodeLegal.Last.{NothingYet, CommandLast, CutBehindCommand, OtherLast}
use Rattle.node_laws.specs.kept.Hosts.{IsFew}
use Rattle.node_laws.proofs.kept.Doing.{book_more, last_more}
use Rattle.node_laws.proofs.kept.Ticking.{all_keep, are_kept}
use Rattle.node_laws.proofs.schedules.Few.{are_few}
use Rattle.node_world.specs.Legal.{HaveLegalHistory, IsFoundAsKept, IsKeptBehind}
use Rattle.node_world.proofs.WorldsBehind.{node_there}

-- ## Lines in their ranges

not_settling : (l : Line) → is_settling l ≡ false → (rounds : ℕ) → l ≡ saying.Settle rounds → ⊥
not_settling l still rounds same = true≢false (sym (ap is_settling same) ∙ still)

-- at most 20,000 lines of these plays ask for something
abbrev pub AskFew : Header → List Play → Type 0
AskFew header plays = lines_asking (lines_played header plays) ≤ 20000

-- a line that asks for nothing
abbrev pub AsksNone : Line → Type 0
AsksNone l = asking l ≡ 0

module _ (header : Header) where
  pub in_ranges : (ls : List Line) → AllByRecursion (IsPlayedLine header) ls → AreNodeLinesOf header ls
  in_ranges [] are = tt
  in_ranges (l ∷ ls) are = (in_range header l are.0.may_follow (not_settling l are.0.settles_not), in_ranges ls are.1)

  module _ (bare : header.hci ≡ false) where
    bare_line : (l : Line) → IsPlayedLine header l → IsLineOf header l
    bare_line l may = grind arith

    in_bare_ranges : (ls : List Line) → AllByRecursion (IsPlayedLine header) ls → AllByRecursion (IsLineOf header) ls
    in_bare_ranges [] may = tt
    in_bare_ranges (l ∷ ls) may = (bare_line l may.0, in_bare_ranges ls may.1)

  -- ## What is asked for

  -- a round asks for nothing
  round_asks_none : (l : Line) → IsRoundLine header l → AsksNone l
  round_asks_none l is = grind arith

  rounds_ask_none : (ls : List Line) → AllByRecursion (IsRoundLine header) ls → lines_asking ls ≡ 0
  rounds_ask_none [] are = refl
  rounds_ask_none (l ∷ ls) are = let one = round_asks_none l are.0 in let rest = rounds_ask_none ls are.1 in omega (arith, one, rest)

  none_asked : (ls : List Line) → AllByRecursion AsksNone ls → lines_asking ls ≡ 0
  none_asked [] are = refl
  none_asked (l ∷ ls) are = let one = are.0 in let rest = none_asked ls are.1 in omega (arith, one, rest)

  asked : MayBegin header → (plays : List Play) (before : List Line)
      → lines_asking (fold (λ (ls : List Line) (p : Play). ls ++ lines_of_play header ls p) before plays) ≤ lines_asking before + lines_said plays
  asked begun [] before = omega arith
  asked begun (Said l ∷ plays) before = omega (arith, (asked begun plays (before ++ l ∷ [])), (asking-append before (l ∷ [])), (asking_few (l ∷ [])))
  asked begun (Round ∷ plays) before =
      let lines : List Line = round_behind header before in
      let none = rounds_ask_none lines (round_known header begun (hosts_stay_behind header) before) in
      omega (arith, (asked begun plays (before ++ lines)), (asking-append before lines), none)

  -- no more lines ask for something than are said
  pub said_ask_few : MayBegin header → (plays : List Play) → lines_said plays ≤ 20000 → AskFew header plays
  said_ask_few begun plays said = let most = asked begun plays [] in omega (arith, most, said)

  -- and none that asks for nothing is one more
  pub still_ask_few : (plays later : List Play) (lines : List Line) → lines_played header later ≡ lines_played header plays ++ lines
      → AllByRecursion AsksNone lines → AskFew header plays → AskFew header later
  still_ask_few plays later lines is are few =
      omega (arith, (ap lines_asking is ∙ asking-append (lines_played header plays) lines), (none_asked lines are), few)

  -- ## Histories

  -- the history of plays of nodes
  abbrev pub nodes_played : List Play → NodeHistory
  nodes_played plays = record { header = header; steps = steps_from (new_world header.hosts.items) (lines_played header plays) }

  pub nodes_follow : header.hci ≡ true → (plays : List Play) → NoneIsMisread (new_world header.hosts.items) (lines_played header plays)
      → FollowsNodes header (lines_played header plays) (nodes_played plays)
  nodes_follow nodes plays sure = record { nodes = nodes; header_is = refl; steps_are = refl; sure = sure }

  pub nodes_legal : IsNodeHeader header → (plays : List Play) → AllByRecursion (IsPlayFor header) plays
      → NoneIsMisread (new_world header.hosts.items) (lines_played header plays) → AskFew header plays → HaveLegalHistory header plays
  nodes_legal nodes plays may sure few =
      let lines : List Line = lines_played header plays in
      let played : IsPlayed header lines (OfNodes (nodes_played plays)) = (
        nodes,
        in_ranges lines (lines_may_be_played header (inr nodes) (hosts_stay_behind header) plays may),
        few,
        nodes_follow nodes.nodes plays sure,
      ) in
      record {
        history = OfNodes (nodes_played plays);
        played = played;
        legal = played_legal header lines (OfNodes (nodes_played plays)) played;
      }

  pub bare_legal : IsHeader header → (plays : List Play) → AllByRecursion (IsPlayFor header) plays → (t : History)
      → Follows header (lines_played header plays) t → HaveLegalHistory header plays
  bare_legal bare plays may t follows =
      let lines : List Line = lines_played header plays in
      let played : IsPlayed header lines (OfLink t) = (
        bare,
        in_bare_ranges bare.bare lines (lines_may_be_played header (inl bare) (hosts_stay_behind header) plays may),
        follows,
      ) in
      record { history = OfLink t; played = played; legal = played_legal header lines (OfLink t) played }

-- A boot over the memory of a node finds what is kept.

-- ## Commands that were answered

-- a command came last, or a cut behind it: it may be lost
abbrev IsOpen : Last → Type 0
IsOpen NothingYet = ⊥
IsOpen CommandLast = Unit {0}
IsOpen CutBehindCommand = Unit {0}
IsOpen OtherLast = ⊥

-- so many commands are there, also where the last one is lost
record AreThere (k : ℕ) (b : Book) (l : Last) : Type 0 where
  all : k ≤ length b.commands
  more : IsOpen l → suc k ≤ length b.commands

module _ (k n : ℕ) where
  abbrev Keeps : List Entry → Type 0
  Keeps t = AreThere k (book_in t n) (last_in t n)

  found_most : (j : ℕ) (t : List Entry) → Keeps t → FindsCommands t n j → k ≤ j
  found_most j t keeps a = grind arith

  found_least : (j : ℕ) (t : List Entry) → FindsCommands t n j → j ≤ length (commands_in t n)
  found_least j t a = grind arith

  -- they are still there behind an entry
  after_one : (t : List Entry) (e : Entry) → Keeps t → ((j : ℕ) → e ≡ entry.Booted n j → FindsCommands t n j)
      → AreThere k (book_after n (book_in t n) e) (last_after n (last_in t n) e)
  after_one t (entry.Command m c) keeps finds = by_node (cases_Bool (eqb m n)) where
    by_node : (eqb m n ≡ true) ⊎ (eqb m n ≡ false)
        → AreThere k (book_after n (book_in t n) (entry.Command m c)) (last_after n (last_in t n) (entry.Command m c))
    by_node (inl is) =
        let longer = length-append (commands_in t n) (c ∷ []) in
        rw is (record { all = omega (arith, longer, keeps.all); more = λ o. omega (arith, longer, keeps.all) })
    by_node (inr other) = rw other keeps
  after_one t (entry.AnyOk m j) keeps finds = grind arith
  after_one t (entry.Booted m j) keeps finds = by_node (cases_Bool (eqb m n)) where
    by_node : (eqb m n ≡ true) ⊎ (eqb m n ≡ false) → AreThere k (book_after n (book_in t n) (entry.Booted m j)) (last_after n (last_in t n) (entry.Booted m j))
    by_node (inl is) =
        let here = finds j (ap (λ x. entry.Booted x j) (eqb-true m n is)) in
        let least = found_least j t here in
        rw is (record { all = omega (arith, length-take j (commands_in t n), (found_most j t keeps here), least); more = λ o. absurd o })
    by_node (inr other) = rw other keeps
  after_one t (entry.Cut m) keeps finds = grind arith
  after_one t _ keeps finds = keeps

  then_one : (t : List Entry) (e : Entry) → Keeps t → ((j : ℕ) → e ≡ entry.Booted n j → FindsCommands t n j) → Keeps (t ++ e ∷ [])
  then_one t e keeps finds =
      subst (λ b. AreThere k b (last_in (t ++ e ∷ []) n)) (sym (book_more t (e ∷ []) n))
      (subst (λ l. AreThere k (book_after n (book_in t n) e) l) (sym (last_more t (e ∷ []) n)) (after_one t e keeps finds))

  -- and behind all further entries, where each boot finds its commands
  still_there : (rest t : List Entry) → AreFound (t ++ rest) → Keeps t → Keeps (t ++ rest)
  still_there [] t found keeps = subst Keeps (sym (append-nil t)) keeps
  still_there (e ∷ rest) t found keeps =
      let on = append_assoc t (e ∷ []) rest in
      subst Keeps on
      (still_there rest (t ++ e ∷ []) (subst AreFound (sym on) found)
      (then_one t e keeps (λ j is. found t rest n j (ap (λ x. t ++ x ∷ rest) is))))

  -- a boot behind them finds no fewer than an answer counted
  answered_before : (h : NodeHistory) → Kept h → (found : ℕ) → FindsCommands (node_entries h) n found → (front back : List Entry)
      → node_entries h ≡ front ++ (entry.AnyOk n k ∷ back) → k ≤ found
  answered_before h kept found finds front back is =
      let start : List Entry = front ++ entry.AnyOk n k ∷ [] in
      let counted : k ≡ length (commands_in front n) = kept.counted front back n k is in
      let book_is : book_in start n ≡ book_in front n = book_more front (entry.AnyOk n k ∷ []) n in
      let last_is : last_in start n ≡ OtherLast =
      last_more front (entry.AnyOk n k ∷ []) n ∙ ap (λ b. cond b OtherLast (last_in front n)) (eq-eqb n n refl) in
      let first : Keeps start = grind arith in
      let whole : start ++ back ≡ node_entries h = append_assoc front (entry.AnyOk n k ∷ []) back ∙ sym is in
      found_most found (node_entries h)
      (subst Keeps whole (still_there back start (subst AreFound (sym whole) kept.found) first)) finds

-- ## The memory of a node

module _ (header : Header) (nodes : IsNodeHeader header) (lines : List Line) (t : NodeHistory) (follows : FollowsNodes header lines t)
    (are : AreNodeLinesOf header lines) (most : lines_asking lines ≤ 20000) where
  abbrev entries : List Entry
  entries = node_entries t

  abbrev few : IsFew entries
  few = are_few header lines t follows nodes are most

  keep : AllKeep header.hosts.items entries (nodes_behind header lines)
  keep = all_keep header lines t follows (hosts_are header nodes) (sent_by_hosts header lines nodes are) few

  kept : Kept t
  kept = are_kept header lines t follows (hosts_are header nodes) (sent_by_hosts header lines nodes are) few

  -- a boot of a node would find its commands in its memory
  would_find : (n : ℕ) → ((n == 0) ≡ false → (s : Site) × (site_at (nodes_behind header lines).sites n ≡ Some s))
      → WouldFind (memory_at (nodes_behind header lines) n).content (book_in entries n) (last_in entries n)
  would_find n there = by_number (n == 0) refl where
    w : NodeWorld
    w = nodes_behind header lines

    by_number : (b : Bool) → (n == 0) ≡ b → WouldFind (memory_at w n).content (book_in entries n) (last_in entries n)
    by_number true q =
        let zero : n ≡ 0 = eqb-true n 0 q in
        rw q (subst (λ x. WouldFind w.memory.content (book_in entries x) (last_in entries x)) (sym zero) keep.controller.would)
    by_number false q =
        let s = there q in
        let known = site_found (SiteKeeps entries) IsHost w.sites n s.0 keep.sites
        (subst (AllByRecursion IsHost) (sym keep.hosts_are) (hosts_are header nodes).all) s.1 in
        let is : WouldFind s.0.memory.content (book_in entries n) (last_in entries n) = grind arith in
        rw (q, s.1) is

  found_as_kept : (n : ℕ) → ((n == 0) ≡ false → (s : Site) × (site_at (nodes_behind header lines).sites n ≡ Some s)) → (content : List ℕ)
      → content ≡ (memory_at (nodes_behind header lines) n).content → IsFoundAsKept entries n content
  found_as_kept n there content is = by_would (subst (λ c. WouldFind c (book_in entries n) (last_in entries n)) (sym is) (would_find n there)) where
    by_would : WouldFind content (book_in entries n) (last_in entries n) → IsFoundAsKept entries n content
    by_would would =
        let commands : FindsCommands entries n would.many = by_which would.which in
        let all = found_least 0 n would.many entries commands in
        let least = few entries [] n (sym (append-nil entries)) in
        record {
          found = would.many;
          commands = commands;
          answered = λ front back k parts. answered_before k n t kept would.many commands front back parts;
          sound = sound_has_no_fault content would.finds.keeps.holds.commands would.finds.keeps.sound;
          count_is = would.finds.keeps.count_is ∙ small would.many (2 ^ 32 - 1) (omega (arith, all, least));
          tables_are =
              would.finds.keeps.holds.tables_are
              ∙ sym (ap (λ (b : Book). b.tables) (book_more entries (entry.Booted n would.many ∷ []) n
              ∙ ap (λ b. cond b (with_found would.many (book_in entries n)) (book_in entries n)) (eq-eqb n n refl)));
        }
      where
        by_which : (would.many ≡ length (book_in entries n).commands)
            ⊎ ((suc would.many ≡ length (book_in entries n).commands) × (last_in entries n ≡ CutBehindCommand) × IsSome (current content))
            → FindsCommands entries n would.many
        by_which (inl every) = inl every
        by_which (inr less) = inr (less.0, less.1)

        small : (a b : ℕ) → a ≤ b → min a b ≡ a
        small a b le = omega (arith, le)

-- behind plays
pub kept_behind : (header : Header) → IsNodeHeader header → (plays : List Play) → AllByRecursion (IsPlayFor header) plays
    → NoneIsMisread (new_world header.hosts.items) (lines_played header plays) → AskFew header plays → (n : ℕ) → IsNodeOf header.hosts.items n
    → (m : Memory) → m ≡ memory_behind header (lines_played header plays) n → IsKeptBehind header plays n m.content
kept_behind header nodes plays may sure few n node m is =
    let lines : List Line = lines_played header plays in
    let played = lines_may_be_played header (inr nodes) (hosts_stay_behind header) plays may in
    let follows : FollowsNodes header lines (nodes_played header plays) = nodes_follow header nodes.nodes plays sure in
    record {
      history = nodes_played header plays;
      follows = follows;
      found = found_as_kept header nodes lines (nodes_played header plays) follows (in_ranges header lines played) few n
          (node_there header nodes lines played sure n node) m.content (ap (λ (x : Memory). x.content) is);
    }
