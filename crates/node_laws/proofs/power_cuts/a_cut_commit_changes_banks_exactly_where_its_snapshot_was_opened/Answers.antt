use Rattle.node_laws.proofs.cuts.Commits.{bank_moved, bank_stayed}
use Rattle.node_laws.proofs.power_cuts.a_cut_commit_changes_banks_exactly_where_its_snapshot_was_opened.Goals as goal

pub returns : goal.returns
returns c = record { stayed = bank_stayed; moved = bank_moved }
