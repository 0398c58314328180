use Rattle.nv_journal.proofs.Words.{AreRecords, [], ap, append_assoc, arith, bodies_of, length, record_bytes, rules, subst, sym, ◌++◌, ◌+◌, ◌∙◌, ◌∷◌, ◌≡◌}
use Rattle.nv_journal.proofs.Snapshotting.{one_more_body, still_records, size_of_bytes, few_bodies}
use Rattle.nv_journal.proofs.snapshot.Snapshot.push.Goals as goal

grown : (c : goal.After-self-1)
    → c.try_extend_from_slice-fits.new.self.items ≡ c.self.inside.bytes.items ++ 90 ∷ record_bytes c.self.inside.many c.args.body.now
grown c =
    let s = c.self.inside in
    let body = c.args.body.now in
    let size = size_of_bytes s.bytes.items s.many (bodies_of s.bytes.items) c.self.invariant in
    let room = rw (← c.self.view_is) at c.requires.room in
    let record_is = c.as_slice.ensures.value ∙ c.record-record.ensures in
    let fits = c.try_extend_from_slice-fits.ensures.variant.1 (omega (arith, c.push.ensures.len, size, room, ap length record_is)) in
    search (rules, fits, c.try_extend_from_slice-fits.ensures.ok)
    ∙ ap (λ l. c.push.new.self.items ++ l) record_is
    ∙ ap (λ l. l ++ record_bytes s.many body) c.push.ensures.items
    ∙ append_assoc s.bytes.items (90 ∷ []) (record_bytes s.many body)

pub push-requires : goal.push-requires
push-requires c =
    let s = c.self.inside in
    let room = rw (← c.self.view_is) at c.requires.room in
    (omega arith, omega (arith, (size_of_bytes s.bytes.items s.many (bodies_of s.bytes.items) c.self.invariant), room))

pub overflow_add-self : goal.overflow_add-self
overflow_add-self c =
    let s = c.self.inside in
    let few = few_bodies s.bytes.items s.many (bodies_of s.bytes.items) c.self.invariant in
    search rules

pub invariant_of-self : goal.invariant_of-self
invariant_of-self c =
    let s = c.self.inside in
    subst (λ l. AreRecords l (s.many + 1) (bodies_of l)) (sym (grown c))
    (still_records s.bytes.items s.many c.args.body.now c.self.invariant c.requires.short (rw (← c.self.view_is) at c.requires.room))

pub returns : goal.returns
returns c =
    let s = c.self.inside in
    ap bodies_of (grown c)
    ∙ one_more_body s.bytes.items s.many c.args.body.now c.self.invariant c.requires.short (rw (← c.self.view_is) at c.requires.room)
    ∙ ap (λ l. l ++ c.args.body.now ∷ []) c.self.view_is
