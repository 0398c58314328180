use Rattle.nv_journal.proofs.Words.{State, ap, arith, compact_writes, made_in_part, made_whole, records, subst, sym, ◌*◌, ◌<◌, ◌∙◌, ◌≤◌}
use Rattle.journal_laws.proofs.Reading.{few_records}
use Rattle.nv_journal.proofs.Appending.{left_by_cut}
use Rattle.nv_journal.proofs.Compacting.{says_after, records_after, all_or_nothing}
use Rattle.nv_journal.proofs.journal.Journal.compact.Goals as goal

pub returns-in_err-self-inside-clause-cut : goal.returns-in_err-self-inside-clause-cut
returns-in_err-self-inside-clause-cut g c = λ tells failed.
    let k = c.self.inside in
    let bodies = c.args.snapshot.now in
    let made = c.in_err-self-inside.ensures in
    let cut = made_in_part g.N.Nv.writes g.N.Nv.content (λ m at bytes ok n step. g.met.N.Nv.told m at bytes ok n tells step)
    (compact_writes k.state bodies) k.nv c.write_snapshot.new.nv made.made in
    rw (← c.self.view_is)
    (left_by_cut (compact_writes k.state bodies) (g.N.Nv.content k.nv) (g.N.Nv.content c.write_snapshot.new.nv)
    (all_or_nothing (g.N.Nv.content k.nv) bodies k.state (c.self.invariant.says (rw (← c.self.view_is) at c.requires.live) tells) made.can) cut)

pub invariant_of-self-2 : goal.invariant_of-self-2
invariant_of-self-2 g c =
    let k = c.self.inside in
    let bodies = c.args.snapshot.now in
    let made = c.in_ok-self-inside.ensures in
    let few = few_records bodies in
    record {
      size = made.size ∙ c.self.invariant.size;
      inside = subst (λ (s : State). s.size < 32756) (sym made.state) (omega (arith, made.can.room));
      few = subst (λ (s : State). 3 * s.many ≤ s.size) (sym made.state) (omega (arith, few));
      says = λ live tells.
          let says = c.self.invariant.says (rw (← c.self.view_is) at c.requires.live) tells in
          let whole = made_whole g.N.Nv.writes g.N.Nv.content (λ m at bytes ok n step. g.met.N.Nv.told m at bytes ok n tells step)
          (compact_writes k.state bodies) k.nv c.write_snapshot.new.nv made.made in
          rw (whole, made.state) (says_after (g.N.Nv.content k.nv) bodies k.state says made.can);
    }

pub returns-clause-records : goal.returns-clause-records
returns-clause-records g c = λ tells.
    let k = c.self.inside in
    let bodies = c.args.snapshot.now in
    let made = c.in_ok-self-inside.ensures in
    let says = c.self.invariant.says (rw (← c.self.view_is) at c.requires.live) tells in
    let whole = made_whole g.N.Nv.writes g.N.Nv.content (λ m at bytes ok n step. g.met.N.Nv.told m at bytes ok n tells step)
    (compact_writes k.state bodies) k.nv c.write_snapshot.new.nv made.made in
    ap records whole ∙ records_after (g.N.Nv.content k.nv) bodies k.state says made.can
