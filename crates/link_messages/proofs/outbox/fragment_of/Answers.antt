use Rattle.std.proofs.Common.{◌≡◌, ◌+◌, ◌-◌, ◌<◌, leb, length, List, ℕ, [], ◌∷◌, ◌++◌, take, ap, ◌∙◌, sym, arith, rules, length-take}
use Rattle.std.specs.Prelude.{if◌then◌else◌, IsOk}
use Rattle.std.proofs.lemmas.Bool.{le-leb, lt-leb}
use Rattle.block_pool.specs.Pool.{chain_bytes}
use Rattle.link_messages.proofs.Fragments.{fragment_is}
use Rattle.link_messages.proofs.outbox.fragment_of.Goals as goal
use Rattle.link_messages.proofs.outbox.fragment_of.Goals.{then-last, else-last}

pub returns-clause-fragment : goal.returns-clause-fragment
returns-clause-fragment c =
    let bytes = chain_bytes c.args.pool.now c.args.queued.now.chain in
    let pipe = c.args.queued.now.pipe in
    let low : c.args.from < length bytes = omega (arith, c.requires.len, c.requires.within) in
    let count = c.copy_on-count.ensures.count in
    let none : pipe ≡ 0 + pipe = omega arith in
    let first : c.if-last.first ≡ (if leb (c.args.len - c.args.from) 28 then 128 else 0) + pipe = elim c.if-last.branch [
      | then-last w ↦ w.first-is ∙ ap (λ b. (if b then 128 else 0) + pipe) (sym (le-leb (c.args.len - c.args.from) 28 w.if-last.true))
      | else-last w ↦ w.first-is ∙ (none ∙ ap (λ b. (if b then 128 else 0) + pipe) (sym (lt-leb (c.args.len - c.args.from) 28 w.if-last.false)))
    ] in
    let begun : c.bytes.inside.bytes.items ≡ c.if-last.first ∷ [] = c.bytes.view_is ∙ c.new.ensures in
    let e = c.try_extend_from_slice-fits.ensures in
    let fits : IsOk c.try_extend_from_slice-fits.result = e.variant.1 (omega (arith, (ap length begun), count, length-take {A = ℕ})) in
    (search (rules, fits, e.ok)) ∙ (ap (λ (l : List ℕ). l ++ (take c.copy_on-count.result c.copy_on-count.new.out)) begun
    ∙ fragment_is bytes c.copy_on-count.new.out _ pipe c.args.from c.args.len c.if-last.first c.copy_on-count.result low c.requires.len count first
    c.copy_on-count.ensures.copied)
