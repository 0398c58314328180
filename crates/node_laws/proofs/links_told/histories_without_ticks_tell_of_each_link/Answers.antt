use Rattle.node_laws.proofs.Words.{EachGoesSo, LineStep, List, entries_in, flat_map, new_world, occurrences_of, subst, sym, world_after}
use Rattle.node_laws.proofs.telling.Lasting.{lines_go, new_orderly}
use Rattle.node_laws.proofs.links_told.histories_without_ticks_tell_of_each_link.Goals as goal

pub returns : goal.returns
returns c = λ header lines t follows different hosts untimed.
    let P : List LineStep → Type 0 = λ steps. EachGoesSo (new_world header.hosts.items) (world_after (new_world header.hosts.items) lines)
    (entries_in (flat_map (λ (s : LineStep). occurrences_of s.outcome) steps)) in
    subst P (sym follows.steps_are) (lines_go lines (new_world header.hosts.items) untimed (new_orderly header.hosts.items different hosts))
