-- The two ends of a link.
use Rattle.std.specs.Prelude.{not}
use Rattle.trace_model.specs.declared.line.End.{End}

-- the other end of the same link
abbrev pub other_end : End → End
other_end e = record { link = e.link; at_host = not e.at_host }
