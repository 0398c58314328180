-- A small wrong history of a link that settles isn't legal, and the law of what has settled refuses it too.
use Rattle.node_laws.proofs.Words.{AsksReset, AtController, AtHost, Bare, Clf, GoesOut, HasSettled, IsActive, IsRunOf, IsUpheld, LegalWorld, Link, LinkEvent}
use Rattle.node_laws.proofs.Words.{List, NextFrame, None, NumberedEnd, Occurrence, PowerMode, Ready, Resets, Role, Some, Starts, Step, Uicc, [], ap, arith}
use Rattle.node_laws.proofs.Words.{end_c, end_h, entries_in, is_some, new_link_end, refl, sym, true≢false, ℕ, ◌++◌, ◌∙◌, ◌∷◌, ◌≡◌}
use Rattle.trace_model.specs.declared.entry.LostCause.TheVariants as lost
use Rattle.trace_model.specs.declared.entry.Entry.TheVariants.{Up, Emit, Took, Lost}
use Rattle.journal_laws.specs.Records.{found_from}
use Rattle.gate_admin.specs.View.{hosts_where}
use Rattle.pipe_table.specs.PipeRows.{lowest_free}
use Rattle.node_laws.proofs.answers.Wrong.{told, takes}
use Rattle.node_laws.proofs.answers.WrongWorlds.{host_takes}
use Rattle.node_laws.proofs.answers.WrongActivated.{activated, site}

-- It is reset, and its UA comes as the causes say; but it is noted as lost by a line, where no line loses a frame, and the host's end not as up.
abbrev resets : Occurrence
resets = record { cause = Resets (end_h 2) None; entries = Emit (end_h 2) (249 ∷ 4 ∷ 0 ∷ []) ∷ [] }

abbrev answers : List Occurrence
answers =
    takes (Took (end_c 2) (249 ∷ 4 ∷ 0 ∷ []) ∷ Up (end_c 2) 1 ∷ Emit (end_c 2) (230 ∷ []) ∷ [])
    ∷ host_takes (Lost (end_h 2) (230 ∷ []) lost.Asked ∷ [])
    ∷ []

abbrev settles : List Occurrence
settles = activated ++ resets ∷ answers

settled_and_not_up : LegalWorld (told settles) → ⊥
unfolding found_from hosts_where lowest_free
settled_and_not_up w = true≢false (sym (ap is_some (w.legal.complete.upheld activated resets answers [] (end_h 2) None refl upheld).up.host))
  where
    upheld : IsUpheld activated resets answers (end_h 2) None
    upheld = record {
      cause = refl;
      active = refl;
      free = refl;
      powered = refl;
      left = record { undisturbed = refl; unopened = refl; to_controller = refl; to_host = refl };
    }

-- ## By the law

-- what happens on the link as these events have it
abbrev happened : List LinkEvent
happened =
    AtController (Step (Starts 0) [] GoesOut) ∷ AtHost (Step (Starts 2) [] GoesOut)
    ∷ AtController (Step NextFrame [] GoesOut) ∷ AtHost (Step NextFrame [] GoesOut) ∷ AtController (Step NextFrame [] GoesOut)
    ∷ AtHost (Step (AsksReset None) [] GoesOut) ∷ AtController (Step NextFrame [] GoesOut) ∷ AtHost (Step NextFrame [] GoesOut) ∷ []

-- the link behind that: both ends are active, and up with number 1
abbrev comes_to_be : Role → ℕ → ℕ → NumberedEnd
comes_to_be role emitted took = record { side = record (new_link_end Bare) { role = role }; emitted = emitted; took = took; past = [] }

abbrev settled_link : Link
settled_link = record {
  controller = comes_to_be (Clf (record { phase = IsActive; last = Some (PowerMode 0); power = 0 })) 0 1;
  host = comes_to_be (Uicc (record { phase = IsActive; last = Some Ready })) 1 0;
  to_controller = [];
  to_host = [];
  resets = 1;
}

world_makes_it : (site settles).link ≡ settled_link
unfolding found_from hosts_where lowest_free
world_makes_it = refl

refused_by_law : HasSettled (entries_in settles) 2 (site settles).link → ⊥
unfolding found_from hosts_where lowest_free
refused_by_law law = true≢false (sym (ap is_some (law happened run (grind arith)).up.host))
  where
    run : IsRunOf happened (site settles).link
    run = record {
      allowed = (
        (tt, (tt, tt)),
        (
          (refl, (tt, tt)),
          (
            (tt, (tt, tt)),
            (
              (tt, (tt, tt)),
              ((tt, (tt, tt)), ((tt, (tt, tt)), ((tt, (tt, tt)), ((tt, (tt, tt)), tt)))),
            ),
          ),
        ),
      );
      is = (refl) ∙ sym world_makes_it;
    }
