use Rattle.std.proofs.Common.{◌≡◌, ℕ, ◌<◌, ◌≤◌, true, slice_index_or}
use Rattle.flash_nv.proofs.page_map.first_free.Given as goal

abbrev pub invariant-loop-page : goal.invariant-loop-page
invariant-loop-page l = (q : ℕ) → l.from ≤ q → q < l.page → slice_index_or l.used q true ≡ true
