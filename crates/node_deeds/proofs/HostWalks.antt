-- What a host does, case by case, over what its code keeps.
use Rattle.std.proofs.lemmas.Bool.{le-leb}
use Rattle.node_deeds.proofs.Words.{Bool, Command, Core, Create, Deed, Ends, Err, Handling, HciTables, Hears, IsCommand, IsEvent, IsHostAt, IsResponse}
use Rattle.node_deeds.proofs.Words.{KeptDeed, KeptDesk, KeptInit, List, Message, MessageFault, MessageKind, None, Ok, Option, PipeRow, Port, Result, Sends}
use Rattle.node_deeds.proofs.Words.{Some, Stored, [], ap, append_assoc, ap₂, arith, body_in, cond, deed_shown, deeds_shown, eqb, false, gate_in, get_or}
use Rattle.node_deeds.proofs.Words.{handled_by, header_of, heard_deeds, host_core, host_kind_deeds, init_deeds, init_running, init_shown, instruction_in}
use Rattle.node_deeds.proofs.Words.{is_gate, is_same, is_some, is_up, learned_of, length, map-append, ne_eqb, option_map, option_map_or, orders_of, own_view}
use Rattle.node_deeds.proofs.Words.{pipe_at, pipe_created, pipe_deleted, pipes_cleared, refl, slice_get, sym, true, ℕ, ◌&&◌, ◌++◌, ◌+◌, ◌∙◌, ◌∷◌, ◌≡◌, ◌≤◌}
use Rattle.journal_laws.specs.declared.state.State.{State}
use Rattle.history.specs.Steps.{end_of}
use Rattle.link_laws.specs.entries.Entries.End.{Controller, Host}
use Rattle.trace_model.specs.declared.entry.Entry.TheVariants.{InitSame, InitMade}
use Rattle.hci_tables.specs.declared.command.Command.TheVariants.{Clear, Delete, Set}
use Rattle.gate_answers.specs.declared.response.Response.TheVariants as response
use Rattle.gate_loopback.specs.Loopback.{is_post_data}
use Rattle.node_machine.specs.Parts.{Init}
use Rattle.node_machine.specs.Carrying.{end_of_node, end_view}
use Rattle.node_machine.specs.HostReplies.{accepts, created_by, deleted_by, gate_of_pipe, host_deeds, init_agreed, is_welcome, learned, learns, pipe_named_in}
use Rattle.node_machine.specs.HostReplies.{replies, response_deeds}
use Rattle.node_deeds.specs.declared.inits.Ordered.{Ordered}
use Rattle.node_deeds.specs.declared.inits.Ordered.TheVariants.{Creation as ToCreate, Clearing, Other}
use Rattle.node_deeds.specs.declared.host.Tasks.{Tasks}
use Rattle.node_deeds.specs.declared.deeds.InitEnd.TheVariants.{Made}
use Rattle.node_deeds.specs.declared.deeds.Deed.TheVariants as kept
use Rattle.node_deeds.specs.Shown.{deletion_in, ordered_by}
use Rattle.node_deeds.specs.Hosts.{next_deeds}

-- ## Notices

pub created_welcome : (core : Core) (body : List ℕ) (row : PipeRow) → pipe_named_in body ≡ Some row → is_welcome core.node row ≡ true
    → accepts (own_view core) (Create row) ≡ pipe_created (own_view core) body
created_welcome core body row named welcome =
    let chosen : cond (is_welcome core.node row) (accepts (own_view core) (Create row)) (replies (own_view core) response.NotOk)
    ≡ pipe_created (own_view core) body = rw named refl in
    sym (ap (λ b. cond b (accepts (own_view core) (Create row)) (replies (own_view core) response.NotOk)) welcome) ∙ chosen

pub deleted_kept : (core : Core) (body : List ℕ) → length body ≡ 1 → is_some (pipe_at core.tables.rows (get_or body 0 0)) ≡ true
    → accepts (own_view core) (Delete (get_or body 0 0)) ≡ pipe_deleted (own_view core) body
deleted_kept core [] one kept = absurd (omega arith)
deleted_kept core (pid ∷ []) one kept = sym (ap (λ b. cond b (accepts (own_view core) (Delete pid)) (replies (own_view core) response.Ok)) kept)
deleted_kept core (pid ∷ x ∷ more) one kept = absurd (omega arith)

pub cleared_host : (core : Core) (body : List ℕ) → length body ≡ 1 → get_or body 0 0 ≤ 7
    → accepts (own_view core) (Clear (get_or body 0 0)) ≡ pipes_cleared (own_view core) body
cleared_host core [] one host = absurd (omega arith)
cleared_host core (x ∷ []) one host =
    sym (ap (λ b. cond b (accepts (own_view core) (Clear x)) (replies (own_view core) response.CommandParameterUnknown)) (le-leb x 7 host))
cleared_host core (x ∷ y ∷ more) one host = absurd (omega arith)

-- ## Responses

pub learned_creation : (core : Core) (order : Ordered) (value : List ℕ) (row : PipeRow) → order ≡ ToCreate → pipe_named_in value ≡ Some row
    → learns (own_view core) (Create row) ≡ learned_of core order value
learned_creation core order value row is named =
    ap (λ o. option_map_or (λ row. learns (own_view core) (Create row)) o []) (sym named) ∙ ap (λ o. learned_of core o value) (sym is)

-- what is learned goes by what was ordered
learned_by_order : (core : Core) (order value : List ℕ) → learned_of core (ordered_by order) value ≡ learned (own_view core) order value
learned_by_order core order value = by (eqb (instruction_in order) 16) (eqb (instruction_in order) 17) (eqb (instruction_in order) 20)
  where
    deleted : (body : List ℕ) → learned_of core (deletion_in body) value ≡ deleted_by (own_view core) body
    deleted [] = refl
    deleted (pid ∷ []) = refl
    deleted (pid ∷ x ∷ more) = refl

    by : (a b c : Bool) → learned_of core (cond a ToCreate (cond b (deletion_in (body_in order)) (cond c Clearing Other))) value
        ≡ cond a (created_by (own_view core) value) (cond b (deleted_by (own_view core) (body_in order)) (cond c (learns (own_view core) (Clear core.node)) []))
    by true b c = refl
    by false true c = deleted (body_in order)
    by false false true = refl
    by false false false = refl

-- the end of a host is its own
pub host_end : (core : Core) → 1 ≤ core.node → end_of_node core core.node ≡ end_of core.node Host
host_end core some = ap (λ b. end_of core.node (cond b Controller Host)) (ne_eqb core.node 0 (λ none. absurd (omega arith)))

pub init_same : (core : Core) (i : Init) (code : ℕ) (value : List ℕ) → code ≡ 0 → is_same (own_view core) i value ≡ true → 1 ≤ core.node
    → Ends (InitSame (end_of core.node Host)) ∷ [] ≡ init_deeds (own_view core) code value (Some i)
init_same core i code value ok same some =
    ap (λ e. Ends (InitSame e) ∷ []) (sym (host_end core some))
    ∙ (agreed ∙ ap (λ n. init_deeds (own_view core) n value (Some i)) (sym ok))
  where
    agreed : Ends (InitSame (end_of_node core core.node)) ∷ [] ≡ init_agreed (own_view core) i value
    agreed = sym (ap (λ b. cond b (Ends (InitSame (end_of_node core core.node)) ∷ []) (next_deeds core i (slice_get (orders_of i) (i.answered + 1)))) same)

pub init_next : (core : Core) (i : Init) (code : ℕ) (value : List ℕ) → code ≡ 0 → is_same (own_view core) i value ≡ false
    → next_deeds core i (slice_get (orders_of i) (i.answered + 1)) ≡ init_deeds (own_view core) code value (Some i)
init_next core i code value ok differs = agreed ∙ ap (λ n. init_deeds (own_view core) n value (Some i)) (sym ok) where
  agreed : next_deeds core i (slice_get (orders_of i) (i.answered + 1)) ≡ init_agreed (own_view core) i value
  agreed = sym (ap (λ b. cond b (Ends (InitSame (end_of_node core core.node)) ∷ []) (next_deeds core i (slice_get (orders_of i) (i.answered + 1)))) differs)

-- an init has made all
pub init_made : (host : ℕ) (journal : State) (tables : HciTables) (i : KeptInit) (pipe : ℕ) (message : List ℕ) (before : List Deed)
    (items more : List KeptDeed) (c : Command) (count : ℕ) (o : Option (List ℕ)) → 1 ≤ host
    → deeds_shown (handled_by host (Some (init_shown i)) pipe message) items
    ≡ before ++ learns (own_view (host_core host journal tables (Some (init_shown i)))) c
    → c ≡ Set host 0 1 (record { items = i.identity }) → count ≡ length i.pipes.items → more ≡ items ++ kept.Ends (Made count) ∷ [] → None ≡ o
    → deeds_shown (handled_by host (Some (init_shown i)) pipe message) more
    ≡ before ++ next_deeds (host_core host journal tables (Some (init_shown i))) (init_shown i) o
init_made host journal tables i pipe message before items more c count o some learned sets counted is none =
    ap (deeds_shown a) is
    ∙ (map-append (deed_shown a) items (kept.Ends (Made count) ∷ [])
    ∙ (ap (λ xs. xs ++ Ends (InitMade (end_of host Host) count) ∷ []) learned
    ∙ (append_assoc before (learns (own_view core) c) (Ends (InitMade (end_of host Host) count) ∷ [])
    ∙ ap (λ xs. before ++ xs)
    (ap₂ (λ c n. learns (own_view core) c ++ Ends (InitMade (end_of host Host) n) ∷ []) sets counted
    ∙ (ap (λ e. learns (own_view core) (Set host 0 1 (record { items = i.identity })) ++ Ends (InitMade e (length i.pipes.items)) ∷ [])
    (sym (host_end core some))
    ∙ ap (next_deeds core (init_shown i)) none)))))
  where
    a : Handling
    a = handled_by host (Some (init_shown i)) pipe message

    core : Core
    core = host_core host journal tables (Some (init_shown i))

-- ## Cores

module _ (core : Core) (p : Port) (m : Message) where
  abbrev bare : Core
  bare = host_core core.node core.journal core.tables core.init

  gate_same : (o : Option PipeRow) → pipe_at core.tables.rows m.0 ≡ o → gate_in (pipe_at core.tables.rows m.0) core.node ≡ gate_of_pipe (own_view core) m.0
  gate_same None is = rw is refl
  gate_same (Some row) is = rw is refl

  heard_bare : (code : ℕ) (value : List ℕ) (o : Option (List ℕ)) → core.command ≡ o
      → heard_deeds bare code value (option_map ordered_by o) ≡ response_deeds (own_view core) code value
  heard_bare code value None is = rw is refl
  heard_bare code value (Some order) is =
      rw is (ap (λ ds. Hears ∷ cond (eqb code 0) ds [] ++ init_deeds (own_view core) code value core.init) (learned_by_order core order value))

  kind_bare : (x : Result (MessageKind × ℕ) MessageFault) → header_of m.1 ≡ x → is_up p.side.shdlc.phase ≡ true
      → host_kind_deeds bare p.desk.errors (option_map ordered_by core.command) m x ≡ host_deeds (own_view core) (end_view p) m
  kind_bare (Ok (IsCommand, n)) is up = rw (up, is) refl
  kind_bare (Ok (IsEvent, n)) is up =
      rw (up, is)
      (ap₂ (λ gate posts. cond (is_gate 4 gate && posts) (Sends core.node m ∷ []) []) (gate_same (pipe_at core.tables.rows m.0) refl)
      (sym (ap is_post_data is)))
  kind_bare (Ok (IsResponse, code)) is up = rw (up, is) (ap (λ ds. cond (eqb m.0 1) ds []) (heard_bare code (body_in m.1) core.command refl))
  kind_bare (Err fault) is up = rw (up, is) refl

  pub host_of_core : {N : Type 0} (s : Stored N) (d : KeptDesk) (tasks : Tasks) → IsHostAt s d true tasks core p
      → host_kind_deeds (host_core d.host s.journal.state s.tables (init_running tasks.init)) d.errors tasks.command m (header_of m.1)
      ≡ host_deeds (own_view core) (end_view p) m
  host_of_core s d tasks at =
      let k = at.kept in
      let errors = ap (λ seen. seen.0.errors) at.seen in
      ap (λ n. host_kind_deeds (host_core n s.journal.state s.tables (init_running tasks.init)) d.errors tasks.command m (header_of m.1)) (sym at.node)
      ∙ (ap (λ j. host_kind_deeds (host_core core.node j s.tables (init_running tasks.init)) d.errors tasks.command m (header_of m.1)) (sym k.journal)
      ∙ (ap (λ t. host_kind_deeds (host_core core.node core.journal t (init_running tasks.init)) d.errors tasks.command m (header_of m.1)) (sym k.tables)
      ∙ (ap (λ i. host_kind_deeds (host_core core.node core.journal core.tables i) d.errors tasks.command m (header_of m.1)) (sym at.init)
      ∙ (ap (λ e. host_kind_deeds bare e tasks.command m (header_of m.1)) (sym errors)
      ∙ (ap (λ o. host_kind_deeds bare p.desk.errors o m (header_of m.1)) (sym at.command)
      ∙ kind_bare (header_of m.1) refl (ap (λ seen. seen.1) at.seen))))))
