use Rattle.nv_journal.proofs.Words.{ap, arith, format_writes, made_in_part, made_whole, records, sym, ◌∙◌}
use Rattle.nv_journal.specs.Kept.{KeptMemory}
use Rattle.nv_journal.proofs.Appending.{left_by_cut}
use Rattle.nv_journal.proofs.Formatting.{none_of, says_formatted, format_all_or_nothing, no_records_then}
use Rattle.nv_journal.proofs.scan.Scan.start.Goals as goal

pub of-requires-in-Ok : goal.of-requires-in-Ok
of-requires-in-Ok g c =
    let k = c.self.inside in
    rw c.in-Ok.ensures.state
    record {
      kept = record {
        size = c.in-Ok.ensures.size ∙ c.self.invariant.size;
        inside = omega arith;
        few = omega arith;
        says = λ live tells.
            let says = (c.self.invariant.says tells).at_end (rw (← c.self.view_is) at c.requires) in
            rw (made_whole g.N.Nv.writes g.N.Nv.content
            (λ m at bytes ok n step. g.met.N.Nv.told m at bytes ok n tells step) format_writes k.nv c.format.new.nv c.in-Ok.ensures.made)
            (says_formatted (g.N.Nv.content k.nv) k.state says (none_of k.state.in_use (sym c.is_some.ensures ∙ c.if-is_some.false)));
      };
    }

pub returns-in-Err-clause-cut : goal.returns-in-Err-clause-cut
returns-in-Err-clause-cut g c = λ tells.
    let k = c.self.inside in
    let none = none_of k.state.in_use (sym c.is_some.ensures ∙ c.if-is_some.false) in
    let content = g.N.Nv.content k.nv in
    let says = (c.self.invariant.says tells).at_end (rw (← c.self.view_is) at c.requires) in
    rw (← c.self.view_is)
    (left_by_cut format_writes content (g.N.Nv.content c.format.new.nv) (format_all_or_nothing content k.state says none)
    (made_in_part g.N.Nv.writes g.N.Nv.content
    (λ m at bytes ok n step. g.met.N.Nv.told m at bytes ok n tells step) format_writes k.nv c.format.new.nv c.in-Err.ensures.made))

pub returns-in-Ok-clause-records : goal.returns-in-Ok-clause-records
returns-in-Ok-clause-records g c = λ tells.
    let k = c.self.inside in
    let none = none_of k.state.in_use (sym c.is_some.ensures ∙ c.if-is_some.false) in
    let content = g.N.Nv.content k.nv in
    let says = (c.self.invariant.says tells).at_end (rw (← c.self.view_is) at c.requires) in
    let whole = made_whole g.N.Nv.writes g.N.Nv.content
    (λ m at bytes ok n step. g.met.N.Nv.told m at bytes ok n tells step) format_writes k.nv c.format.new.nv c.in-Ok.ensures.made in
    rw (← c.self.view_is)
    (ap (λ (j : KeptMemory g.row.N.Denot). records (g.N.Nv.content j.nv)) c.of-in-Ok.ensures ∙ ap records whole ∙ no_records_then content k.state says none)
