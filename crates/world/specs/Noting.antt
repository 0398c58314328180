-- What is noted of an end.
use Rattle.std.specs.Prelude.{ℕ, ◌+◌, min, nat_lt, if◌then◌else◌, List, ◌++◌, map, option_to_list, is_some}
use Rattle.trace_model.specs.declared.entry.Entry.{Entry}
use Rattle.trace_model.specs.declared.entry.Entry.TheVariants as entry
use Rattle.trace_model.specs.declared.line.End.{End}
use Rattle.link_laws.specs.entries.Entries.{if_so}
use Rattle.link_end.specs.declared.report.LinkReport.{LinkReport}

-- how many messages of the session are acknowledged after an input, where so many were before; 4,294,967,295 stands for any
-- greater number
abbrev pub acked_on : ℕ → LinkReport → ℕ
acked_on before r = min ((if is_some r.ended then 0 else before) + r.acked) 4294967295

-- What is noted of an input at an end, in the session with this number, but for the message that came.
abbrev pub reported : End → ℕ → LinkReport → ℕ → List Entry
reported at n r acked =
    map (entry.Down at) (option_to_list r.ended) ++ (if_so r.began (entry.Up at n) ++ (if_so r.became_active (entry.Active at)
    ++ (map (entry.GaveUp at) (option_to_list r.gave_up) ++ if_so (nat_lt 0 r.acked) (entry.Acked at n acked))))
