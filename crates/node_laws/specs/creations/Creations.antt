-- The creations that wait at a controller, by their askers, and what is read of them.
use Rattle.std.specs.Prelude.{◌≡◌, ℕ, ◌==◌, Bool, false, List, [], ◌∷◌, is_some, slice_index, Option, Some, None}
use Rattle.std.specs.List.{filter, filter_map, list_any}
use Rattle.std.specs.Option.{option_map, option_map_or}
use Rattle.trace_model.specs.declared.entry.Entry.{Entry}
use Rattle.pipe_table.specs.declared.row.PipeRow.{PipeRow}
use Rattle.pipe_table.specs.PipeRows.{lowest_free}
use Rattle.node_machine.specs.Parts.{Creation, Desk, Running, Port}
use Rattle.node_machine.specs.Controller.{creation_in, asks_for, waiting_pipes}
use Rattle.node_machine.specs.world.World.{NodeWorld, Site, link_to, end_c, end_h}
use Rattle.node_machine.specs.world.NodeFilters.{asking_in, aside_in}
use Rattle.node_laws.specs.readings.Noticed.{ends_between}
use Rattle.node_laws.specs.notices.Notices.{IsNoticeOf}

-- the creations for which this host asked
abbrev pub of_asker : ℕ → List Creation → List Creation
of_asker h creations = filter (λ (c : Creation). c.asker == h) creations

-- those that wait at these desks
abbrev pub creations_at : List Desk → ℕ → List Creation
creations_at desks h = of_asker h (filter_map (λ (d : Desk). creation_in d.notice) desks)

-- a controller has none while it doesn't run
abbrev pub creations_of : Option Running → ℕ → List Creation
creations_of None h = []
creations_of (Some r) h = creations_at r.desks h

-- what is read is the notice of the one creation that waits, or nothing is read and none waits
abbrev pub IsReadSo : Option (List ℕ) → List Creation → Type 0
IsReadSo None [] = Unit {0}
IsReadSo (Some message) (c ∷ []) = IsNoticeOf c message
IsReadSo _ _ = ⊥

-- So it is with each host that asks.
abbrev pub CreationsAreRead : List Entry → NodeWorld → Type 0
CreationsAreRead t w = (h : ℕ) → IsReadSo (asking_in t h) (creations_of w.controller h)

-- ## What a controller knows

-- a host asked for this pipe, and its creation waits, as it is read off entries
abbrev pub is_asked_pipe : List Entry → ℕ → ℕ → Bool
is_asked_pipe t pid h = option_map_or (λ (message : List ℕ). slice_index message 5 == pid) (asking_in t h) false

-- the pipes for which these hosts asked, as they are read
abbrev pub asked_pipes : List Entry → List ℕ → List ℕ
asked_pipes t hosts = filter_map (λ h. option_map (λ (message : List ℕ). slice_index message 5) (asking_in t h)) hosts

-- Of each host it is read whether a creation that it asked for waits, and of each pipe whether it is that of a creation that waits; so
-- is the pipe that is given next, whatever pipes there are.
pub record KnowsAsRead (hosts : List ℕ) (t : List Entry) (ports : List Port) : Type 0 where
  pub asks : (h : ℕ) → asks_for ports h ≡ is_some (asking_in t h)
  pub waiting : (pid : ℕ) → list_any (λ p. p == pid) (waiting_pipes ports) ≡ list_any (is_asked_pipe t pid) hosts
  pub given : (rows : List PipeRow) → lowest_free rows (waiting_pipes ports) ≡ lowest_free rows (asked_pipes t hosts)

-- a controller knows it so, while it runs
abbrev pub IfKnowsAsRead : List ℕ → List Entry → List Site → Option Running → Type 0
IfKnowsAsRead hosts t sites None = Unit {0}
IfKnowsAsRead hosts t sites (Some r) = KnowsAsRead hosts t (ends_between sites r)

-- ## Blocks set aside

-- The blocks that each end has set aside are those that are read.
abbrev pub AsidesAreRead : List Entry → NodeWorld → Type 0
AsidesAreRead t w =
    (h : ℕ)
    → (aside_in t (end_c h) ≡ (link_to w.sites h).controller.side.aside) × (aside_in t (end_h h) ≡ (link_to w.sites h).host.side.aside)
