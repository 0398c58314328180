-- Entries as a node notes them: it sees one end of each link alone, and so notes the number of every session as 0. It counts messages that
-- are acknowledged up to 4,294,967,295, which stands for any greater number.
use Rattle.std.specs.Prelude.{◌≡◌, ◌==◌, ◌&&◌, not, is_none, Bool, true, false, List, ◌++◌}
use Rattle.trace_model.specs.declared.entry.Entry.{Entry}
use Rattle.trace_model.specs.declared.entry.Entry.TheVariants.{Up, Sent, Got, Acked}
use Rattle.link_laws.specs.machine.Machine.{Report}
use Rattle.link_end.specs.declared.report.LinkReport.{LinkReport}
use Rattle.std.specs.Prelude.{[]}
use Rattle.node_ends.specs.Holding.{kept_number}

abbrev pub unnumbered : Entry → Entry
unnumbered (Up at n) = Up at 0
unnumbered (Sent at n pid message) = Sent at 0 pid message
unnumbered (Got at n pid message) = Got at 0 pid message
unnumbered (Acked at n count) = Acked at 0 (kept_number count)
unnumbered e = e

-- these are noted, while there is memory for them
pub record AreNotes (was_short is_short : Bool) (before now entries : List Entry) : Type 0 where
  pub stays : was_short ≡ true → is_short ≡ true
  pub noted : is_short ≡ false → now ≡ before ++ entries

-- nothing of what an input did is noted
abbrev pub tells_nothing : LinkReport → Bool
tells_nothing r = is_none r.ended && (not r.began && (not r.became_active && (is_none r.gave_up && ((r.acked == 0) && not r.got))))

-- what is told of an input, without the message that it brought
abbrev pub without_message : LinkReport → Report
without_message r = record {
  ended = r.ended;
  began = r.began;
  acked = r.acked;
  got = [];
  became_active = r.became_active;
  sync = r.sync;
  gave_up = r.gave_up;
  refused = r.refused;
}
