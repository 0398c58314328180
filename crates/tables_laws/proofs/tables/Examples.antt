-- Worked examples, computed: a pipe to the controller, opened; the same behind a closing of all pipes; a second identifier.
use Rattle.tables_laws.proofs.Words.{Clear, Command, Create, List, PipeRow, Set, SetOpened, Sync, [], after_commands, close, false, no_tables, refl, true, ◌∷◌}
use Rattle.tables_laws.proofs.Words.{◌≡◌}

abbrev pipe : PipeRow
pipe = record { pid = 2; creator = 2; creator_gate = 32; dest = 0; dest_gate = 4; opened = false }

abbrev opened_pipe : PipeRow
opened_pipe = record pipe { opened = true }

abbrev told : List Command
told = Sync 2 6699 ∷ SetOpened 2 1 true ∷ Create pipe ∷ SetOpened 2 2 true ∷ Set 2 0 1 (record { items = 1 ∷ 2 ∷ 3 ∷ 4 ∷ 5 ∷ 6 ∷ 7 ∷ 8 ∷ [] }) ∷ []

a_pipe_is_opened : (after_commands no_tables told).rows ≡ opened_pipe ∷ []
a_pipe_is_opened = refl

its_static_pipe_is_opened : (after_commands no_tables told).statics ≡ (2, 1) ∷ []
its_static_pipe_is_opened = refl

closing_keeps_the_pipe : (close (after_commands no_tables told)).rows ≡ pipe ∷ []
closing_keeps_the_pipe = refl

another_identifier_takes_the_identity_back : (after_commands (after_commands no_tables told) (Sync 2 6700 ∷ [])).values ≡ []
another_identifier_takes_the_identity_back = refl

clearing_keeps_the_identifier : after_commands (after_commands no_tables told) (Clear 2 ∷ []) ≡ record no_tables { syncs = (2, 6699) ∷ [] }
clearing_keeps_the_identifier = refl
