-- ACT frames that are due, and how many control frames of SHDLC stand before them.
use Rattle.std.specs.Prelude.{◌-◌, ◌==◌, if◌then◌else◌, List, [], ◌∷◌, Option, None, Some}
use Rattle.swp_base.specs.declared.control_frames.Act.{Act}
use Rattle.link_end.specs.declared.acts.ActDue.{ActDue}

-- no SHDLC control frame stands before it any more
abbrev pub kept_in_front : ActDue → ActDue
kept_in_front a = record a { behind = 0 }

-- one fewer stands before it
abbrev pub kept_nearer : ActDue → ActDue
kept_nearer a = record a { behind = a.behind - 1 }

-- the first ACT frame, where no SHDLC control frame stands before it
abbrev pub front_act : List ActDue → Option Act
front_act [] = None
front_act (a ∷ acts) = if a.behind == 0 then Some a.frame else None

-- those that are left without it
abbrev pub behind_front : List ActDue → List ActDue
behind_front [] = []
behind_front (a ∷ acts) = if a.behind == 0 then acts else a ∷ acts
