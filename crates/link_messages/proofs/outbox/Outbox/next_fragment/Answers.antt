use Rattle.link_messages.proofs.Words.{List, None, Outbox, OutboxLiesIn, PoolState, Queued, Some, ap, arith, chain_bytes, length, length-fragments, map}
use Rattle.link_messages.proofs.Words.{queued_message, queued_messages, refl, slice_get, slice_get_within, subst, sym, ℕ, ◌*◌, ◌<◌, ◌∙◌, ◌≡◌}
use Rattle.hcp_packet.specs.Packets.{packets_of, packet_at, packet_count, packet_bytes, fragments_of}
use Rattle.link_messages.proofs.Fragments.{fragment_stands}
use Rattle.link_messages.proofs.OutgoingLemmas.{LooksFor, looks_at, looks_on, slice_get_inside, drop_at, few_queued, cut_low, some_waits, all_cut, one_found}
use Rattle.link_messages.proofs.outbox.Outbox.next_fragment.Goals as goal

-- the fragment that begins there is the first that wasn't cut
stands : (pool old : PoolState) (box : Outbox) (at place len : ℕ) (q : Queued) → LooksFor pool box at place → pool ≡ old → Some q ≡ slice_get box.queue.items at
    → len ≡ length (chain_bytes pool q.chain) → place * 28 < len
    → Some (packet_bytes (packet_at q.pipe (chain_bytes pool q.chain) (place * 28))) ≡ slice_get (fragments_of (queued_messages old box)) box.cut
stands pool old box at place len q looks same found len_is within =
    let bytes = chain_bytes pool q.chain in
    let low : place * 28 < length bytes = omega (arith, len_is, within) in
    sym (fragment_stands bytes q.pipe place low)
    ∙ (sym (slice_get_inside (map packet_bytes (packets_of q.pipe bytes)) _ place (omega (arith, length-fragments (queued_message pool q), low)))
    ∙ ((looks_at pool box at place q looks found).2 ∙ ap (λ (p : PoolState). slice_get (fragments_of (queued_messages p box)) box.cut) same))

pub overflow_add-self : goal.overflow_add-self
overflow_add-self c = omega (arith, cut_low c.args.pool.now c.args.self.now c.requires)

pub returns-then-self-eq0-clause-none : goal.returns-then-self-eq0-clause-none
returns-then-self-eq0-clause-none c = (λ e. (all_cut c.args.pool.now c.args.self.now c.requires).0 (omega arith), λ e. refl)

pub overflow_mul-from : goal.overflow_mul-from
overflow_mul-from c = omega (arith, c.loop-queued.invariant.0.within, cut_low c.args.pool.now c.args.self.now c.requires)

pub len-len-requires : goal.len-len-requires
len-len-requires c =
    (looks_at c.loop-queued.pool c.args.self.now c.loop-queued.at c.loop-queued.place c.in-Some.queued.now c.loop-queued.invariant.0 c.in-Some.ensures).0

pub fragment_of-requires-clause-live : goal.fragment_of-requires-clause-live
fragment_of-requires-clause-live c =
    (looks_at c.loop-queued.pool c.args.self.now c.loop-queued.at c.loop-queued.place c.in-Some.queued.now c.loop-queued.invariant.0 c.in-Some.ensures).0

pub fragment_of-requires-clause-pipe : goal.fragment_of-requires-clause-pipe
fragment_of-requires-clause-pipe c =
    (looks_at c.loop-queued.pool c.args.self.now c.loop-queued.at c.loop-queued.place c.in-Some.queued.now c.loop-queued.invariant.0 c.in-Some.ensures).1

pub overflow_add-at : goal.overflow_add-at
overflow_add-at c =
    let within = slice_get_within c.args.self.now.queue.items c.loop-queued.at c.in-Some.queued.now (sym c.in-Some.ensures) in
    omega (arith, within, few_queued c.args.pool.now c.args.self.now c.requires)

pub loop-queued-smaller : goal.loop-queued-smaller
loop-queued-smaller c =
    let within = slice_get_within c.args.self.now.queue.items c.loop-queued.at c.in-Some.queued.now (sym c.in-Some.ensures) in
    omega arith

pub loop-queued-preserved : goal.loop-queued-preserved
loop-queued-preserved c =
    let count : c.div_ceil-place.result ≡ packet_count (length (chain_bytes c.loop-queued.pool c.in-Some.queued.now.chain)) =
    omega (arith, c.div_ceil-place.ensures, c.len-len.ensures) in (
      looks_on c.loop-queued.pool c.args.self.now c.loop-queued.at c.loop-queued.place c.div_ceil-place.result c.in-Some.queued.now
          c.loop-queued.invariant.0 c.in-Some.ensures count (omega (arith, count, c.len-len.ensures, c.if-from-len.false)),
      c.loop-queued.invariant.1,
    )

pub returns-then-from-len-clause-fragment : goal.returns-then-from-len-clause-fragment
returns-then-from-len-clause-fragment c =
    drop_at (fragments_of (queued_messages c.args.pool.now c.args.self.now)) c.args.self.now.cut c.fragment_of.result
    (ap (λ (l : List ℕ). Some l) c.fragment_of.ensures.fragment
    ∙ stands c.loop-queued.pool c.args.pool.now c.args.self.now c.loop-queued.at c.loop-queued.place c.len-len.result c.in-Some.queued.now
    c.loop-queued.invariant.0 c.loop-queued.invariant.1 c.in-Some.ensures c.len-len.ensures c.if-from-len.true)

pub returns-then-from-len-clause-none : goal.returns-then-from-len-clause-none
returns-then-from-len-clause-none c = (
  λ e. absurd cc,
  λ none. absurd (some_waits c.fragment_of.result _ _
      (drop_at (fragments_of (queued_messages c.args.pool.now c.args.self.now)) c.args.self.now.cut c.fragment_of.result
      (ap (λ (l : List ℕ). Some l) c.fragment_of.ensures.fragment
      ∙ stands c.loop-queued.pool c.args.pool.now c.args.self.now c.loop-queued.at c.loop-queued.place c.len-len.result c.in-Some.queued.now
      c.loop-queued.invariant.0 c.loop-queued.invariant.1 c.in-Some.ensures c.len-len.ensures c.if-from-len.true)) none),
)

pub returns-then-from-len-clause-lies : goal.returns-then-from-len-clause-lies
returns-then-from-len-clause-lies c =
    let lies = c.requires in
    record { kept = lies.kept; acked = omega (arith, lies.acked); cut = omega (arith, lies.cut) }

-- the loop doesn't come to the end
none_left : (pool old : PoolState) (box : Outbox) (at place : ℕ) → OutboxLiesIn old box → 0 < box.left → LooksFor pool box at place → pool ≡ old
    → None ≡ slice_get box.queue.items at → ⊥
none_left pool old box at place lies some looks same none =
    one_found old box at place lies some (subst (λ p. LooksFor p box at place) same looks) none

pub returns-clause-fragment : goal.returns-clause-fragment
returns-clause-fragment c =
    absurd (none_left c.loop-queued.pool c.args.pool.now c.args.self.now c.loop-queued.at c.loop-queued.place c.requires (omega arith)
    c.loop-queued.invariant.0 c.loop-queued.invariant.1 c.in_default.ensures)

pub returns-clause-none : goal.returns-clause-none
returns-clause-none c =
    absurd (none_left c.loop-queued.pool c.args.pool.now c.args.self.now c.loop-queued.at c.loop-queued.place c.requires (omega arith)
    c.loop-queued.invariant.0 c.loop-queued.invariant.1 c.in_default.ensures)

pub returns-clause-same : goal.returns-clause-same
returns-clause-same c =
    absurd (none_left c.loop-queued.pool c.args.pool.now c.args.self.now c.loop-queued.at c.loop-queued.place c.requires (omega arith)
    c.loop-queued.invariant.0 c.loop-queued.invariant.1 c.in_default.ensures)

pub returns-clause-lies : goal.returns-clause-lies
returns-clause-lies c =
    absurd (none_left c.loop-queued.pool c.args.pool.now c.args.self.now c.loop-queued.at c.loop-queued.place c.requires (omega arith)
    c.loop-queued.invariant.0 c.loop-queued.invariant.1 c.in_default.ensures)
