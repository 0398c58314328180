-- What is read at the desks of a controller.
use Rattle.std.specs.Prelude.{ℕ, ◌==◌, ◌&&◌, Bool, true, false, List, is_some, Option, Some, None}
use Rattle.std.specs.List.{find}
use Rattle.std.specs.Option.{option_map_or}
use Rattle.hci_tables.specs.Tables.{HciTables, is_opened}
use Rattle.gate_admin.specs.View.{has}
use Rattle.node_deeds.specs.declared.desks.About.{About as KeptAbout}
use Rattle.node_deeds.specs.declared.desks.About.TheVariants as about
use Rattle.node_deeds.specs.declared.desks.Unanswered.{Unanswered}
use Rattle.node_deeds.specs.declared.desks.Desk.{Desk as KeptDesk}

-- the desk of the end of the link with this host
abbrev pub desk_of : List KeptDesk → ℕ → Option KeptDesk
desk_of desks h = find (λ d. d.host == h) desks

-- a test of that desk, where there is one
abbrev pub desk_passes : (KeptDesk → Bool) → List KeptDesk → ℕ → Bool
desk_passes test desks h = option_map_or test (desk_of desks h) false

abbrev pub configured_by : List KeptDesk → ℕ → Bool
configured_by desks h = desk_passes (λ d. true) desks h

abbrev pub connected_by : HciTables → ℕ → List KeptDesk → ℕ → Bool
connected_by t up desks h = desk_passes (λ d. has up d.host && is_opened t d.host 1) desks h

abbrev pub noticed_by : List KeptDesk → ℕ → Bool
noticed_by desks h = desk_passes (λ d. is_some d.notice) desks h

-- a notice of a creation, also of one that was forgotten
abbrev pub asked_in : Option Unanswered → Bool
asked_in None = false
asked_in (Some n) = by_about n.about where
  by_about : KeptAbout → Bool
  by_about (about.Waits row) = true
  by_about about.Forgotten = true
  by_about about.Removed = false

abbrev pub asked_by : List KeptDesk → ℕ → Bool
asked_by desks h = desk_passes (λ d. asked_in d.notice) desks h

abbrev pub errors_by : List KeptDesk → ℕ → ℕ
errors_by desks h = option_map_or (λ (d : KeptDesk). d.errors) (desk_of desks h) 0
