-- Worked examples, computed: a creation between two hosts by the whitelist of the host that is asked, and a deletion.
use Rattle.tables_laws.proofs.Words.{Ask, Command, Create, Delete, HciTables, LinkView, List, PipeRow, Set, SetOpened, [], after_commands, decided, false}
use Rattle.tables_laws.proofs.Words.{no_tables, refl, true, ℕ, ◌∷◌, ◌≡◌}
use Rattle.pipe_table.specs.PipeRows.{lowest_free}
use Rattle.gate_admin.specs.declared.decision.Decision.TheVariants.{Answer, Commit}
use Rattle.gate_admin.specs.View.{hosts_where}

abbrev tables : List Command → HciTables
tables commands = after_commands no_tables (SetOpened 1 1 true ∷ SetOpened 2 1 true ∷ commands)

abbrev view : LinkView
view = record { hosts = 6; connected = 6; noticed = 0; asked = 0; waiting = record { items = [] }; errors = 0 }

abbrev pipe : ℕ → PipeRow
pipe pid = record { pid = pid; creator = 2; creator_gate = 65; dest = 1; dest_gate = 65; opened = false }

empty_whitelist_denies : decided (tables []) view 2 1 16 (65 ∷ 1 ∷ 65 ∷ []) ≡ Answer (record { items = 139 ∷ [] })
unfolding lowest_free
empty_whitelist_denies = refl

whitelist_lets_it_be_asked : decided (tables (Set 1 0 3 (record { items = 2 ∷ [] }) ∷ [])) view 2 1 16 (65 ∷ 1 ∷ 65 ∷ [])
    ≡ Ask 1 (record { items = 18 ∷ 2 ∷ 65 ∷ 1 ∷ 65 ∷ 2 ∷ [] }) (Create (pipe 2)) (record { items = 128 ∷ 2 ∷ 65 ∷ 1 ∷ 65 ∷ 2 ∷ [] })
unfolding lowest_free
whitelist_lets_it_be_asked = refl

deletion_tells_the_other_host : decided (tables (Create (pipe 2) ∷ [])) view 2 1 17 (2 ∷ [])
    ≡ Commit (Delete 2) (record { items = 128 ∷ [] }) 2 (record { items = 19 ∷ 2 ∷ [] })
deletion_tells_the_other_host = refl

host_list_is_read : decided (tables []) view 2 1 2 (4 ∷ []) ≡ Answer (record { items = 128 ∷ 0 ∷ 1 ∷ 2 ∷ [] })
unfolding hosts_where
host_list_is_read = refl
