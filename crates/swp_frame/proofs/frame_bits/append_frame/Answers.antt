use Rattle.swp_frame.proofs.Words.{WritesOn, [], ap, arith, bits_of, byte_of_bit, crc_of, end_of_frame, get_or, length, length-append, length-take, map, rules}
use Rattle.swp_frame.proofs.Words.{start_of_frame, stuffed, subst, sym, take, take_more, ◌++◌, ◌∙◌, ◌∷◌}
use Rattle.swp_frame.proofs.WritingLemmas.{take_all, writes_nothing, writes_byte, start_length, room, room_for_end, frame_is_written, with_crc-pushed}
use Rattle.swp_frame.proofs.frame_bits.append_frame.Goals as goal

pub loop-byte-init : goal.loop-byte-init
loop-byte-init g c = writes_nothing c.args.bit_bytes 0 c.append.new.out.items (omega arith)

pub append_byte-ones-requires : goal.append_byte-ones-requires
append_byte-ones-requires g c =
    let items = c.bytes-byte-items.result.now in
    let i = c.loop-byte.byte-index in (
      search rules,
      (
        c.loop-byte.invariant.few,
        room c.args.bit_bytes (take i items) c.loop-byte.ones _ c.args.out.now.items c.append.new.out.items c.loop-byte.out.items
            (start_length c.args.bit_bytes c.args.out.now.items c.append.new.out.items c.append.ensures) c.loop-byte.invariant
            (omega (arith, length-take i items, c.bytes-byte-items.ensures.sized)) c.requires.room,
      ),
    )

pub loop-byte-preserved : goal.loop-byte-preserved
loop-byte-preserved g c =
    let items = c.bytes-byte-items.result.now in
    let i = c.loop-byte.byte-index in
    subst (λ bytes. WritesOn c.args.bit_bytes 0 (bits_of bytes) c.append_byte-ones.result c.append.new.out.items c.append_byte-ones.new.out.items)
    (sym (take_more items i 0 c.loop-byte-test.true))
    (writes_byte c.args.bit_bytes (take i items) (get_or items i 0) c.loop-byte.ones c.append_byte-ones.result c.append.new.out.items c.loop-byte.out.items
    c.append_byte-ones.new.out.items c.loop-byte.invariant c.append_byte-ones.ensures)

pub append_byte-ones-requires-2 : goal.append_byte-ones-requires-2
append_byte-ones-requires-2 g c =
    let items = c.bytes-byte-items.result.now in
    let i = c.loop-byte.byte-index in (
      search rules,
      (
        c.loop-byte.invariant.few,
        room c.args.bit_bytes (take i items) c.loop-byte.ones _ c.args.out.now.items c.append.new.out.items c.loop-byte.out.items
            (start_length c.args.bit_bytes c.args.out.now.items c.append.new.out.items c.append.ensures) c.loop-byte.invariant
            (omega (arith, length-take i items, c.bytes-byte-items.ensures.sized)) c.requires.room,
      ),
    )

pub append_byte-ones-requires-3 : goal.append_byte-ones-requires-3
append_byte-ones-requires-3 g c =
    let items = c.bytes-byte-items.result.now in
    let i = c.loop-byte.byte-index in
    let high = get_or c.to_be_bytes.result 0 0 in
    let written = writes_byte c.args.bit_bytes (take i items) high c.loop-byte.ones c.append_byte-ones-2.result c.append.new.out.items c.loop-byte.out.items
    c.append_byte-ones-2.new.out.items c.loop-byte.invariant c.append_byte-ones-2.ensures in (
      search rules,
      (
        c.append_byte-ones-2.ensures.few,
        room c.args.bit_bytes (take i items ++ high ∷ []) c.append_byte-ones-2.result _ c.args.out.now.items c.append.new.out.items
            c.append_byte-ones-2.new.out.items
            (start_length c.args.bit_bytes c.args.out.now.items c.append.new.out.items c.append.ensures) written
            (omega (arith, length-append (take i items) (high ∷ []), length-take i items, c.bytes-byte-items.ensures.sized)) c.requires.room,
      ),
    )

pub append-requires-2 : goal.append-requires-2
append-requires-2 g c =
    let items = c.bytes-byte-items.result.now in
    let i = c.loop-byte.byte-index in
    let high = get_or c.to_be_bytes.result 0 0 in
    let low = get_or c.to_be_bytes.result 1 0 in
    let first = writes_byte c.args.bit_bytes (take i items) high c.loop-byte.ones c.append_byte-ones-2.result c.append.new.out.items c.loop-byte.out.items
    c.append_byte-ones-2.new.out.items c.loop-byte.invariant c.append_byte-ones-2.ensures in
    let written = writes_byte c.args.bit_bytes (take i items ++ high ∷ []) low c.append_byte-ones-2.result c.append_byte-ones-3.result
    c.append.new.out.items c.append_byte-ones-2.new.out.items c.append_byte-ones-3.new.out.items first c.append_byte-ones-3.ensures in
    let short = room_for_end c.args.bit_bytes ((take i items ++ high ∷ []) ++ low ∷ []) c.append_byte-ones-3.result c.args.out.now.items
    c.append.new.out.items c.append_byte-ones-3.new.out.items
    (start_length c.args.bit_bytes c.args.out.now.items c.append.new.out.items c.append.ensures) written
    (omega (
      arith,
      length-append (take i items ++ high ∷ []) (low ∷ []),
      length-append (take i items) (high ∷ []),
      length-take i items,
      c.bytes-byte-items.ensures.sized,
    )) in
    (search rules, omega (arith, short, c.requires.room))

pub returns-clause-written : goal.returns-clause-written
returns-clause-written g c =
    let items = c.bytes-byte-items.result.now in
    let i = c.loop-byte.byte-index in
    let front = take i items in
    let high = get_or c.to_be_bytes.result 0 0 in
    let low = get_or c.to_be_bytes.result 1 0 in
    let first = writes_byte c.args.bit_bytes front high c.loop-byte.ones c.append_byte-ones-2.result c.append.new.out.items c.loop-byte.out.items
    c.append_byte-ones-2.new.out.items c.loop-byte.invariant c.append_byte-ones-2.ensures in
    let written = writes_byte c.args.bit_bytes (front ++ high ∷ []) low c.append_byte-ones-2.result c.append_byte-ones-3.result
    c.append.new.out.items c.append_byte-ones-2.new.out.items c.append_byte-ones-3.new.out.items first c.append_byte-ones-3.ensures in
    frame_is_written c.args.bit_bytes c.append_byte-ones-3.result (bits_of ((front ++ high ∷ []) ++ low ∷ [])) c.args.out.now.items
    c.append.new.out.items c.append_byte-ones-3.new.out.items c.append-2.new.out.items c.append.ensures written c.append-2.ensures
    ∙ ap (λ bytes. c.args.out.now.items ++ map (byte_of_bit c.args.bit_bytes) (start_of_frame ++ stuffed (bits_of bytes) ++ end_of_frame))
    (ap (λ bytes. (bytes ++ high ∷ []) ++ low ∷ []) (take_all items i (omega arith) ∙ c.bytes-byte-items.ensures.value)
    ∙ with_crc-pushed c.args.lpdu.now c.crc.result high low (c.crc.ensures ∙ ap crc_of c.bytes.ensures.value) c.crc.type_inv
    (ap (λ xs. get_or xs 0 0) c.to_be_bytes.ensures) (ap (λ xs. get_or xs 1 0) c.to_be_bytes.ensures))

pub returns-clause-sized : goal.returns-clause-sized
returns-clause-sized g c =
    let items = c.bytes-byte-items.result.now in
    let i = c.loop-byte.byte-index in
    let high = get_or c.to_be_bytes.result 0 0 in
    let low = get_or c.to_be_bytes.result 1 0 in
    let first = writes_byte c.args.bit_bytes (take i items) high c.loop-byte.ones c.append_byte-ones-2.result c.append.new.out.items c.loop-byte.out.items
    c.append_byte-ones-2.new.out.items c.loop-byte.invariant c.append_byte-ones-2.ensures in
    let written = writes_byte c.args.bit_bytes (take i items ++ high ∷ []) low c.append_byte-ones-2.result c.append_byte-ones-3.result
    c.append.new.out.items c.append_byte-ones-2.new.out.items c.append_byte-ones-3.new.out.items first c.append_byte-ones-3.ensures in
    let short = room_for_end c.args.bit_bytes ((take i items ++ high ∷ []) ++ low ∷ []) c.append_byte-ones-3.result c.args.out.now.items
    c.append.new.out.items c.append_byte-ones-3.new.out.items
    (start_length c.args.bit_bytes c.args.out.now.items c.append.new.out.items c.append.ensures) written
    (omega (
      arith,
      length-append (take i items ++ high ∷ []) (low ∷ []),
      length-append (take i items) (high ∷ []),
      length-take i items,
      c.bytes-byte-items.ensures.sized,
    )) in
    omega (
      arith,
      short,
      ap length c.append-2.ensures,
      length-append c.append_byte-ones-3.new.out.items (map (byte_of_bit c.args.bit_bytes) end_of_frame),
    )
