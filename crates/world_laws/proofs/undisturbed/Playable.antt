-- The lines of a schedule of a world of nodes may be played, also with a line behind them that lets the links settle.
use Rattle.world_laws.proofs.Words.{AllByRecursion, ArePlayable, Header, IsNodeHeader, IsPlayFor, Line, List, MayFollow, Round, Settle, [], all-append}
use Rattle.world_laws.proofs.Words.{hosts_stay_behind, inr, lines_may_be_played, lines_played, lines_played_of, plays_for, plays_of, replicate, rounds_for}
use Rattle.world_laws.proofs.Words.{rounds_to_rest, subst, sym, ℕ, ◌++◌, ◌∷◌}
use Rattle.world_laws.proofs.schedules.NotedQuiet.{with_settle}
use Rattle.world_laws.proofs.schedules.Resting.{played_playable}

module _ (header : Header) (is : IsNodeHeader header) (lines : List Line) (may : AllByRecursion (MayFollow header) lines) where
  pub playable : ArePlayable (lines_played_of header lines)
  playable =
      played_playable header (lines_played_of header lines)
      (lines_may_be_played header (inr is) (hosts_stay_behind header) (plays_of header lines) (plays_for header lines may))

  pub playable_with : (n : ℕ) → ArePlayable (lines_played_of header (lines ++ Settle n ∷ []))
  playable_with n =
      let rounds = replicate (rounds_to_rest header (plays_of header lines) n) Round in
      let all = all-append (IsPlayFor header) (plays_of header lines) rounds (plays_for header lines may)
      (rounds_for header (rounds_to_rest header (plays_of header lines) n)) in
      subst ArePlayable (sym (with_settle header lines n))
      (played_playable header (lines_played header (plays_of header lines ++ rounds))
      (lines_may_be_played header (inr is) (hosts_stay_behind header) (plays_of header lines ++ rounds) all))
