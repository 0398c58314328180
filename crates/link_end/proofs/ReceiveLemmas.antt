-- A fragment that was accepted, and its packet.
use Rattle.link_end.proofs.Words.{Fragment, Inbox, InboxLiesIn, IsInboxReady, PoolState, ReceivesOn, [], ap, append-nil, arith, came_whole, chains_in}
use Rattle.link_end.proofs.Words.{got_chains, held_blocks, option_to_list, packet_of, packets_in, refl, sym, used_of, ◌++◌, ◌∙◌, ◌∷◌, ◌≡◌}
use Rattle.block_pool.proofs.HoldingLemmas.{with_used-same}
use Rattle.link_messages.specs.Incoming.{Joins}

-- the packet of one fragment
pub packets_in-one : (f : Fragment) → packets_in (f ∷ []) ≡ option_to_list (packet_of f)
packets_in-one f = grind arith

pub received_one : (old new : PoolState) (before after : Inbox) (f : Fragment) → IsInboxReady old before
    → Joins old new before after (option_to_list (packet_of f)) → ReceivesOn old new before after (f ∷ [])
received_one old new before after f ready j =
    let chains : chains_in before ≡ before.joiner.open.items = ap (λ g. before.joiner.open.items ++ got_chains g) ready.fetched
    ∙ append-nil before.joiner.open.items in
    let used_new : used_of new before.joiner.owner ≡ held_blocks new (chains_in after) = ap (used_of new) (sym j.owner) ∙ j.used in
    grind arith

pub received_none : (pool : PoolState) (box : Inbox) → InboxLiesIn pool box → ReceivesOn pool pool box box []
received_none pool box lies = record {
  lies = lies;
  under = refl;
  got = sym (append-nil (came_whole pool box));
  owner = refl;
  counted = refl;
  elsewhere = record { owners = sym (with_used-same pool.owners box.joiner.owner); others = λ other live away. (live, refl, away) };
}
