-- The wires of a link and the numbers of its RSETs, read off the entries.
use Rattle.std.specs.Prelude.{ℕ, ◌+◌, if◌then◌else◌, List, [], ◌∷◌, ◌++◌, drop}
use Rattle.swp_base.specs.declared.control_frames.Control.{Control}
use Rattle.link_laws.specs.sessions.Sessions.{OnWire, is_rset, older, took_with}
use Rattle.link_laws.specs.messages.Links.{Link}
use Rattle.link_laws.specs.entries.Entries.{Entry}
use Rattle.link_laws.specs.entries.Entries.End.{Controller, Host}
use Rattle.link_laws.specs.entries.Entries.Entry.{Emit, Took, Lost, Tick, Restarted, Cut}

-- what is seen of a link: the frames on their way to each end, the one put first in front, each with its age in ticks; how many
-- RSETs were put on it; and the greatest number of an RSET that each end has put on it and has taken
pub record Seen : Type 0 where
  pub to_controller : List OnWire
  pub to_host : List OnWire
  pub resets : ℕ
  pub by_controller : ℕ
  pub by_host : ℕ
  pub at_controller : ℕ
  pub at_host : ℕ

-- nothing was put on it
abbrev pub nothing_seen : Seen
nothing_seen = record { to_controller = []; to_host = []; resets = 0; by_controller = 0; by_host = 0; at_controller = 0; at_host = 0 }

-- a frame with the number of its RSET, which RSETs have in the order in which they are put on the link
abbrev pub numbered : Seen → Control → OnWire
numbered s c = record { frame = c; age = 0; number = if is_rset c then s.resets + 1 else 0 }

-- the number of an end after it took the first frame of its wire
abbrev pub taken_first : ℕ → List OnWire → ℕ
taken_first n [] = n
taken_first n (x ∷ xs) = took_with n x

-- what is seen after one more entry
abbrev pub see : Seen → Entry → Seen
see s (Emit Controller c) =
    record s {
      to_host = s.to_host ++ numbered s c ∷ [];
      resets = if is_rset c then s.resets + 1 else s.resets;
      by_controller = if is_rset c then s.resets + 1 else s.by_controller;
    }
see s (Emit Host c) =
    record s {
      to_controller = s.to_controller ++ numbered s c ∷ [];
      resets = if is_rset c then s.resets + 1 else s.resets;
      by_host = if is_rset c then s.resets + 1 else s.by_host;
    }
see s (Took Controller c) = record s { to_controller = drop 1 s.to_controller; at_controller = taken_first s.at_controller s.to_controller }
see s (Took Host c) = record s { to_host = drop 1 s.to_host; at_host = taken_first s.at_host s.to_host }
see s (Lost Controller c why) = record s { to_controller = drop 1 s.to_controller }
see s (Lost Host c why) = record s { to_host = drop 1 s.to_host }
see s Tick = record s { to_controller = older s.to_controller; to_host = older s.to_host }
see s (Restarted who) = record s { to_controller = []; to_host = [] }
see s (Cut who) = record s { to_controller = []; to_host = [] }
see s _ = s

-- what is seen after these entries, one after another
abbrev pub see_all : Seen → List Entry → Seen
see_all s [] = s
see_all s (e ∷ t) = see_all (see s e) t

-- what the definition of the link keeps
abbrev pub kept : Link → Seen
kept l =
    record {
      to_controller = l.to_controller;
      to_host = l.to_host;
      resets = l.resets;
      by_controller = l.controller.emitted;
      by_host = l.host.emitted;
      at_controller = l.controller.took;
      at_host = l.host.took;
    }
