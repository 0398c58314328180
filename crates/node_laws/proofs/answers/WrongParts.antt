-- Small wrong histories of nodes aren't legal: those that a part of a fact refuses.
use Rattle.node_laws.proofs.Words.{Activates, LegalWorld, List, Occurrence, [], refl, sym, true≢false, ◌++◌, ◌∷◌}
use Rattle.trace_model.specs.declared.entry.Entry.TheVariants.{Command}
use Rattle.hci_tables.specs.declared.command.Command.TheVariants as command
use Rattle.journal_laws.specs.Records.{found_from}
use Rattle.gate_admin.specs.View.{hosts_where}
use Rattle.pipe_table.specs.PipeRows.{lowest_free}
use Rattle.node_laws.proofs.answers.Wrong.{told, ticks}
use Rattle.node_laws.proofs.answers.WrongWorlds.{host_alone, gives, sent, emitted, got}

-- A message comes as activation begins, in which the controller makes a step, and it has no turn. It isn't done either, as nothing holds it.
abbrev before : List Occurrence
before = host_alone ++ gives 2 (sent 2 ∷ emitted 2 ∷ []) ∷ []

abbrev left : Occurrence
left = record { cause = Activates 2 2 0; entries = got 2 ∷ [] }

left_behind_as_activation_begins : LegalWorld (told (before ++ left ∷ [])) → ⊥
unfolding found_from hosts_where lowest_free
left_behind_as_activation_begins w = true≢false (sym (w.answered.short before [] left refl).0)

-- A node that is off commits. Where its memory stands refuses it too, and what is due.
abbrev commits : Occurrence
commits = ticks (Command 0 (command.Sync 2 6699) ∷ [])

committed_without_power : LegalWorld (told (commits ∷ [])) → ⊥
committed_without_power w = true≢false (sym ((w.legal.kept.cut [] [] commits 0 refl refl).0.1 refl))
