-- What the two ends of a link were given, got and had acknowledged in a session, as it is noted.
use Rattle.std.specs.Prelude.{ℕ, ◌≤◌, Bool, true, false, List, length, take}
use Rattle.swp_base.specs.declared.link_terms.Cause.TheVariants.{Chain}
use Rattle.hcp_packet.specs.Packets.{good_of, IsFrontOf}
use Rattle.link_laws.specs.entries.Entries.{End, Entry, far}
use Rattle.link_laws.specs.entries.Entries.Entry.{Down}
use Rattle.link_laws.specs.entries.Filters.{sent_noted, got_noted, acked_noted}

-- In the session with this number the other end got a front of the good messages that this end sent, the good ones among those
-- that count as acknowledged are a front of what it got, and no more count than were sent.
pub record InOrderIn (t : List Entry) (who : End) (n : ℕ) : Type 0 where
  pub got : IsFrontOf (got_noted t (far who) n) (good_of (sent_noted t who n))
  pub acked : IsFrontOf (good_of (take (acked_noted t who n) (sent_noted t who n))) (got_noted t (far who) n)
  pub few : acked_noted t who n ≤ length (sent_noted t who n)

-- a session ends by a packet that can't be joined
abbrev pub is_noted_chain_fault : Entry → Bool
is_noted_chain_fault (Down who Chain) = true
is_noted_chain_fault _ = false
