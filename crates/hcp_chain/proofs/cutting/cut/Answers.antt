use Rattle.hcp_chain.proofs.Words.{Packet, Some, ap, chain_bytes, sym, ◌∙◌}
use Rattle.hcp_chain.proofs.CutLemmas.{packet_is, packet_stands}
use Rattle.hcp_chain.proofs.cutting.cut.Goals as goal

pub returns-clause-packet : goal.returns-clause-packet
returns-clause-packet c =
    packet_is
    (chain_bytes c.args.pool.now c.args.chain.now) c.args.pipe c.args.from c.len.result c.data_at-bytes.result c.requires.in_chain c.len.ensures
    c.data_at-bytes.ensures

pub returns-clause-of_message : goal.returns-clause-of_message
returns-clause-of_message c =
    packet_stands (chain_bytes c.args.pool.now c.args.chain.now) c.args.pipe c.args.from c.requires.place c.requires.in_chain
    ∙ ap (λ (p : Packet). Some p) (sym (packet_is
    (chain_bytes c.args.pool.now c.args.chain.now) c.args.pipe c.args.from c.len.result c.data_at-bytes.result c.requires.in_chain c.len.ensures
    c.data_at-bytes.ensures))
