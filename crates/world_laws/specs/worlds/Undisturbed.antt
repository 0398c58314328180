-- What is noted, and what was said, where nothing disturbs the link of a host while it settles.
use Rattle.std.specs.Prelude.{◌≡◌, ℕ, ◌==◌, Bool, true, false, if◌then◌else◌, List, [], ◌∷◌, length, drop, Option, Some}
use Rattle.std.specs.List.{fold, list_any}
use Rattle.trace_model.specs.declared.entry.Entry.{Entry}
use Rattle.trace_model.specs.declared.entry.Entry.TheVariants as entry
use Rattle.trace_model.specs.declared.line.End.{End}
use Rattle.trace_model.specs.declared.line.Line.{Line}
use Rattle.trace_model.specs.declared.line.Line.TheVariants as saying
use Rattle.link_laws.specs.messages.Links.{Link, LinkEvent, happens}
use Rattle.history.specs.Filters.{Saying, said, same_end}
use Rattle.history.specs.Filters.Saying.{Ends}
use Rattle.history.specs.Legal.{has_lost}
use Rattle.node_machine.specs.world.World.{end_c, end_h}
use Rattle.node_laws.specs.order.Resets.{cuts_on}
use Rattle.node_laws.specs.answers.Moments.{holds_in}

-- ## As it is noted

-- at an end of the link with this host a session ended
abbrev pub ends_on : ℕ → Option (End × Saying) → Bool
ends_on h (Some (e, Ends)) = e.link == h
ends_on h _ = false

abbrev pub has_ended : ℕ → List Entry → Bool
has_ended h t = list_any (λ x. ends_on h (said x)) t

-- what later entries have behind earlier ones
abbrev pub entries_since : List Entry → List Entry → List Entry
entries_since earlier later = drop (length earlier) later

-- in these entries no session of the link with this host ended, and no frame of it was lost
pub record AreUndisturbedNotes (t : List Entry) (h : ℕ) : Type 0 where
  pub lasting : has_ended h t ≡ false
  pub lossless : has_lost h t ≡ false

-- so it is with a link of a world of nodes, whose nodes keep their power
pub record ArePoweredNotes (t : List Entry) (h : ℕ) : Type 0 where
  pub undisturbed : AreUndisturbedNotes t h
  pub powered : list_any (cuts_on h) t ≡ false

-- a message at an end of the link with this host is noted as held
abbrev pub is_held_on : ℕ → Entry → Bool
is_held_on h (entry.Held e need spare) = e.link == h
is_held_on h _ = false

-- At neither end of the link with this host a message is held where the first of these entries end, and in those behind them none is noted as
-- held: each message that came there has had its turn, and each that comes has it at once.
pub record AreUnheldNotes (t since : List Entry) (h : ℕ) : Type 0 where
  pub controller : holds_in t (end_c h) ≡ false
  pub host : holds_in t (end_h h) ≡ false
  pub none_held : list_any (is_held_on h) since ≡ false

-- ## As it was said

-- whether an end of a bare world is busy after a line, where it was so or not before
abbrev pub busy_after : End → Bool → Line → Bool
busy_after e busy (saying.Busy f) = if same_end f e then true else busy
busy_after e busy (saying.Ready f) = if same_end f e then false else busy
busy_after e busy said = busy

-- the last line that says of an end whether it is busy says that it is
abbrev pub is_left_busy : End → List Line → Bool
is_left_busy e lines = fold (busy_after e) false lines

-- neither end of the link with this host is left busy
pub record AreLeftReady (lines : List Line) (h : ℕ) : Type 0 where
  pub controller : is_left_busy (end_c h) lines ≡ false
  pub host : is_left_busy (end_h h) lines ≡ false

-- ## As the machines keep it

-- both ends of a link take fragments
pub record AreBothReady (l : Link) : Type 0 where
  pub controller : l.controller.side.shdlc.ready ≡ true
  pub host : l.host.side.shdlc.ready ≡ true

-- they do so before these events, behind them and in between
abbrev pub AreReadyThroughout : Link → List LinkEvent → Type 0
AreReadyThroughout l [] = AreBothReady l
AreReadyThroughout l (e ∷ es) = AreBothReady l × AreReadyThroughout (happens l e) es
