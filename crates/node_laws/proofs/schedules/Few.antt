-- No node has more commands than a journal counts behind a schedule of which 20,000 lines ask for something.
use Rattle.node_laws.proofs.Words.{AreNodeLinesOf, Book, Bool, Entry, FollowsNodes, Header, IsFew, IsNodeHeader, Line, List, NodeHistory, [], ap, append-nil}
use Rattle.node_laws.proofs.Words.{arith, book_after, commands_in, cond, false, fold, length, length-append, length-take, lines_asking, new_book, node_entries}
use Rattle.node_laws.proofs.Words.{occurrences_in, sym, true, with_command, with_found, ℕ, ◌*◌, ◌++◌, ◌+◌, ◌==◌, ◌∷◌, ◌≡◌, ◌≤◌}
use Rattle.trace_model.specs.declared.entry.Entry.TheVariants as entry
use Rattle.node_laws.specs.reply_passes.Counts.{commands_noted as commits}
use Rattle.node_laws.proofs.reply_passes.Roomy.{commits-append}
use Rattle.node_laws.proofs.bounds.Paying.{lines_bounded}

-- a node has no more commands than were committed
kept_few : (n : ℕ) (t : List Entry) (b : Book) → length (fold (book_after n) b t).commands ≤ length b.commands + commits t
kept_few n [] b = omega arith
kept_few n (entry.Command node c ∷ t) b = go (node == n) (λ d. kept_few n t d) where
  go : (x : Bool) → ((d : Book) → length (fold (book_after n) d t).commands ≤ length d.commands + commits t)
      → length (fold (book_after n) (cond x (with_command c b) b) t).commands ≤ length b.commands + commits (entry.Command node c ∷ t)
  go true rest =
      let most = rest (with_command c b) in let long = length-append b.commands (c ∷ []) in omega (arith, most, long)
  go false rest = let most = rest b in omega (arith, most)
kept_few n (entry.Booted node k ∷ t) b = go (node == n) (λ d. kept_few n t d) where
  go : (x : Bool) → ((d : Book) → length (fold (book_after n) d t).commands ≤ length d.commands + commits t)
      → length (fold (book_after n) (cond x (with_found k b) b) t).commands ≤ length b.commands + commits (entry.Booted node k ∷ t)
  go true rest = let most = rest (with_found k b) in let long = length-take k b.commands in omega (arith, most, long)
  go false rest = let most = rest b in omega (arith, most)
kept_few n (x ∷ t) b = kept_few n t b

module _ (header : Header) (lines : List Line) (t : NodeHistory) (follows : FollowsNodes header lines t) (nodes : IsNodeHeader header)
    (are : AreNodeLinesOf header lines) where
  -- each line that asks for something makes 234 commands at most
  pub bounded : (front back : List Entry) (n : ℕ) → node_entries t ≡ front ++ back → length (commands_in front n) ≤ 234 * lines_asking lines
  bounded front back n is =
      let all = lines_bounded header lines t follows nodes are (occurrences_in t) [] (sym (append-nil (occurrences_in t))) in
      omega (arith, kept_few n front new_book, commits-append front back, ap commits is, all)

  -- so behind 20,000 such lines no journal counts too many
  pub are_few : lines_asking lines ≤ 20000 → IsFew (node_entries t)
  are_few most front back n is = let all = bounded front back n is in omega (arith, all, most)
