use Rattle.node_ends.proofs.Words.{AreEnds, List, Port, Seat, ap, arith, asker_at, creation_of_row, false, forgets, forgotten_at, is_over_at, option_map}
use Rattle.node_ends.proofs.Words.{slice_get, slice_set, subst, sym, true, ◌∙◌, ◌≡◌}
use Rattle.node_ends.proofs.Seated.{lent_here, becomes_here, at_place_as, at_place_still, still_beyond}
use Rattle.node_ends.proofs.Beside.{creation_forgotten}
use Rattle.node_ends.proofs.Noticing.{asker, asker_is, forgets_none, forgets_by, none_at_all}
use Rattle.node_ends.proofs.Opening.{opened, kept_so}
use Rattle.node_ends.proofs.ends.Ends.forget.Goals as goal

pub returns-then-i-len : goal.returns-then-i-len
returns-then-i-len c ports stands =
    still_beyond c.args.i (forgets ports) (let l = c.len.ensures in let t = c.if-i-len.true in omega (arith, l, t)) c.self.view_is stands

pub returns-in_default : goal.returns-in_default
returns-in_default c ports stands =
    kept_so c.self.view_is stands (λ e.
    let l = lent_here c.args.i c.index-seat.result.now (let n = c.len.ensures in let t = c.if-i-len.false in omega (arith, n, t)) c.index-seat.ensures e in
    let asked : option_map asker (option_map creation_of_row c.awaited.result) ≡ asker_at (slice_get ports c.args.i) =
    ap (option_map asker) (ap (option_map creation_of_row) c.awaited.ensures) ∙ (asker_is _ l.port l.stands.desk ∙ ap asker_at (sym l.port_is)) in
    let none = ap (option_map asker) (ap (option_map creation_of_row) (none_at_all c.awaited.result c.in_default.not-Some)) in
    subst (λ l. AreEnds c.self.inside.pool c.self.inside.seats.items l) (sym (at_place_as c.args.i (forgets ports) (λ (p : Port). p) ports
    (λ p is. forgets_none ports p (ap asker_at (sym is) ∙ (sym asked ∙ none))) ∙ at_place_still c.args.i ports)) e)

pub returns-else-is_over : goal.returns-else-is_over
returns-else-is_over c ports stands =
    kept_so c.self.view_is stands (λ e.
    let l = lent_here c.args.i c.index-seat.result.now (let n = c.len.ensures in let t = c.if-i-len.false in omega (arith, n, t)) c.index-seat.ensures e in
    let asked : option_map asker (option_map creation_of_row c.awaited.result) ≡ asker_at (slice_get ports c.args.i) =
    ap (option_map asker) (ap (option_map creation_of_row) c.awaited.ensures) ∙ (asker_is _ l.port l.stands.desk ∙ ap asker_at (sym l.port_is)) in
    let some = ap (option_map asker) (ap (option_map creation_of_row) c.in-Some.is) in
    let over : is_over_at ports c.in-Some.row.creator ≡ false = sym (c.is_over.ensures ports stands) ∙ c.if-is_over.false in
    subst (λ l. AreEnds c.self.inside.pool c.self.inside.seats.items l) (sym (at_place_as c.args.i (forgets ports) (λ (p : Port). p) ports
    (λ p is. forgets_by ports p c.in-Some.row.creator false (ap asker_at (sym is) ∙ (sym asked ∙ some)) over) ∙ at_place_still c.args.i ports)) e)

pub returns-then-is_over : goal.returns-then-is_over
returns-then-is_over c ports stands =
    let e = opened c.self.view_is stands in
    let l = lent_here c.args.i c.index-seat.result.now (let n = c.len.ensures in let t = c.if-i-len.false in omega (arith, n, t)) c.index-seat.ensures e in
    let asked : option_map asker (option_map creation_of_row c.awaited.result) ≡ asker_at (slice_get ports c.args.i) =
    ap (option_map asker) (ap (option_map creation_of_row) c.awaited.ensures) ∙ (asker_is _ l.port l.stands.desk ∙ ap asker_at (sym l.port_is)) in
    let some = ap (option_map asker) (ap (option_map creation_of_row) c.in-Some.is) in
    let over : is_over_at ports c.in-Some.row.creator ≡ true = sym (c.is_over.ensures ports stands) ∙ c.if-is_over.true in
    let s : Seat = c.index_mut-seat.result.now in
    let r = becomes_here ports c.args.i s c.forget.new.self
    (let n = c.len.ensures in let t = c.if-i-len.false in omega (arith, n, t)) c.index_mut-seat.ensures.value
    (creation_forgotten c.self.inside.pool s c.forget.new.self c.forget.ensures) e in
    let P : List Port → Type 0 = λ l. AreEnds c.self.inside.pool (slice_set c.self.inside.seats.items c.args.i c.forget.new.self) l in
    subst P (sym (at_place_as c.args.i (forgets ports) forgotten_at ports
    (λ p is. forgets_by ports p c.in-Some.row.creator true (ap asker_at (sym is) ∙ (sym asked ∙ some)) over))) r

pub invariant_of-self : goal.invariant_of-self
invariant_of-self c =
    let i = c.self.invariant in
    let s : Seat = c.index_mut-seat.result.now in (
      _,
      becomes_here i.0 c.args.i s c.forget.new.self (let n = c.len.ensures in let t = c.if-i-len.false in omega (arith, n, t)) c.index_mut-seat.ensures.value
          (creation_forgotten c.self.inside.pool s c.forget.new.self c.forget.ensures) i.1,
    )
