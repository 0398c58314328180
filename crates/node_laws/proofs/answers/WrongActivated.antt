-- Small wrong histories of a link that is activated as its causes say aren't legal: those of a reset, and of a memory.
use Rattle.node_laws.proofs.Words.{Activates, Asked, Entry, IsUpheld, IsUpheldInTick, LegalWorld, List, Memory, None, Occurrence, Option, Resets, Site, Some}
use Rattle.node_laws.proofs.Words.{Ticks, [], ap, arith, end_c, end_h, get_or, is_some, new_site, new_world, refl, site_at, sym, true, true≢false, unwrap_or}
use Rattle.node_laws.proofs.Words.{world_behind, ◌++◌, ◌∷◌, ◌≡◌}
use Rattle.trace_model.specs.declared.entry.Entry.TheVariants.{Down, Emit, Took, Lost, Active, Command}
use Rattle.trace_model.specs.declared.entry.LostCause.TheVariants as lost
use Rattle.hci_tables.specs.declared.command.Command.TheVariants as command
use Rattle.journal_laws.specs.Records.{found_from}
use Rattle.gate_admin.specs.View.{hosts_where}
use Rattle.pipe_table.specs.PipeRows.{lowest_free}
use Rattle.node_laws.proofs.answers.Wrong.{told, boot, takes}
use Rattle.node_laws.proofs.answers.WrongWorlds.{boots_host, host_takes}

abbrev activates : List Entry → Occurrence
activates entries = record { cause = Activates 2 2 0; entries = entries }

-- the link with host 02 is activated, and all is noted
abbrev pub activated : List Occurrence
activated =
    boot ∷ boots_host 2
    ∷ activates (Emit (end_h 2) (97 ∷ 0 ∷ 2 ∷ []) ∷ [])
    ∷ takes (Took (end_c 2) (97 ∷ 0 ∷ 2 ∷ []) ∷ Command 0 (command.Sync 2 2) ∷ Emit (end_c 2) (98 ∷ 0 ∷ []) ∷ [])
    ∷ host_takes (Took (end_h 2) (98 ∷ 0 ∷ []) ∷ Active (end_h 2) ∷ Emit (end_h 2) (96 ∷ []) ∷ [])
    ∷ takes (Took (end_c 2) (96 ∷ []) ∷ Active (end_c 2) ∷ [])
    ∷ []

-- the site of host 02 behind these events
abbrev pub site_behind : List Occurrence → Option Site
site_behind events = site_at (world_behind (new_world (2 ∷ [])) events).sites 2

abbrev pub site : List Occurrence → Site
site events = unwrap_or (site_behind events) (new_site [] 2)

pub is_there : (s : Option Site) → is_some s ≡ true → s ≡ Some (unwrap_or s (new_site [] 2))
is_there s h = grind arith

-- ## Upheld

-- a host's end is reset, and no RSET is put on the wire
abbrev asks : Occurrence
asks = record { cause = Resets (end_h 2) None; entries = [] }

reset_and_not_up : LegalWorld (told (activated ++ asks ∷ [])) → ⊥
unfolding found_from hosts_where lowest_free
reset_and_not_up w = true≢false (sym (ap is_some (w.legal.complete.upheld activated asks [] [] (end_h 2) None refl upheld).up.host)) where
  upheld : IsUpheld activated asks [] (end_h 2) None
  upheld = record {
    cause = refl;
    active = refl;
    free = refl;
    powered = refl;
    left = record { undisturbed = refl; unopened = refl; to_controller = refl; to_host = refl };
  }

-- nor is it so where a frame of activation is lost behind that, and another one is on its way
abbrev activation_goes_on : Occurrence
activation_goes_on = host_takes (Lost (end_h 2) (98 ∷ 0 ∷ []) lost.Full ∷ Emit (end_h 2) (96 ∷ []) ∷ [])

reset_over_activation_and_not_up : LegalWorld (told (activated ++ asks ∷ activation_goes_on ∷ [])) → ⊥
unfolding found_from hosts_where lowest_free
reset_over_activation_and_not_up w =
    true≢false (sym (ap is_some (w.legal.complete.upheld activated asks (activation_goes_on ∷ []) [] (end_h 2) None refl upheld).up.host))
  where
    upheld : IsUpheld activated asks (activation_goes_on ∷ []) (end_h 2) None
    upheld = record {
      cause = refl;
      active = refl;
      free = refl;
      powered = refl;
      left = record { undisturbed = refl; unopened = refl; to_controller = refl; to_host = refl };
    }

-- the controller's end is reset in a tick, and no RSET is put on the wire
abbrev ends : Occurrence
ends = record { cause = Ticks; entries = Down (end_c 2) Asked ∷ [] }

reset_in_a_tick_and_not_up : LegalWorld (told (activated ++ ends ∷ [])) → ⊥
unfolding found_from hosts_where lowest_free
reset_in_a_tick_and_not_up w = true≢false (sym (ap is_some (w.legal.complete.upheld_in_ticks activated ends [] [] 2 refl upheld).up.host)) where
  upheld : IsUpheldInTick activated ends [] 2
  upheld = record {
    cause = refl;
    reset = refl;
    active = refl;
    free = refl;
    powered = refl;
    lossless = refl;
    alone = refl;
    left = record { undisturbed = refl; unopened = refl; to_controller = refl; to_host = refl };
  }

-- nor is it so where a frame was too old before that in its tick
abbrev ends_behind_an_old_frame : Occurrence
ends_behind_an_old_frame = record { cause = Ticks; entries = Lost (end_h 2) (230 ∷ []) lost.Age ∷ Down (end_c 2) Asked ∷ [] }

reset_behind_an_old_frame_and_not_up : LegalWorld (told (activated ++ ends_behind_an_old_frame ∷ [])) → ⊥
unfolding found_from hosts_where lowest_free
reset_behind_an_old_frame_and_not_up w =
    true≢false (sym (ap is_some (w.legal.complete.upheld_in_ticks activated ends_behind_an_old_frame [] [] 2 refl upheld).up.host))
  where
    upheld : IsUpheldInTick activated ends_behind_an_old_frame [] 2
    upheld = record {
      cause = refl;
      reset = refl;
      active = refl;
      free = refl;
      powered = refl;
      lossless = refl;
      alone = refl;
      left = record { undisturbed = refl; unopened = refl; to_controller = refl; to_host = refl };
    }

-- ## Frames

-- A frame that answers an identifier goes out before the command that keeps it is written. No other fact refuses that.
abbrev opened : List Occurrence
opened = boot ∷ boots_host 2 ∷ activates (Emit (end_h 2) (97 ∷ 0 ∷ 2 ∷ []) ∷ []) ∷ []

abbrev early : Occurrence
early = takes (Took (end_c 2) (97 ∷ 0 ∷ 2 ∷ []) ∷ Emit (end_c 2) (98 ∷ 0 ∷ []) ∷ Command 0 (command.Sync 2 2) ∷ [])

went_out_before_its_command : LegalWorld (told (opened ++ early ∷ [])) → ⊥
unfolding found_from hosts_where lowest_free
went_out_before_its_command w =
    true≢false (w.frames opened [] early (Took (end_c 2) (97 ∷ 0 ∷ 2 ∷ []) ∷ []) (Command 0 (command.Sync 2 2) ∷ []) (Emit (end_c 2) (98 ∷ 0 ∷ []))
    refl refl 0 refl).0

-- ## Memories

-- The controller takes a new identifier, which it writes to its memory, and nothing is noted of that.
abbrev silent : List Occurrence
silent = boot ∷ boots_host 2 ∷ activates [] ∷ takes [] ∷ []

wrote_what_is_not_noted : LegalWorld (told silent) → ⊥
unfolding found_from hosts_where lowest_free
wrote_what_is_not_noted w =
    let same : 90 ≡ 255 = ap (λ (m : Memory). get_or m.content 12 0) (w.legal.kept.stands silent [] 0 refl refl) in omega (arith, same)
