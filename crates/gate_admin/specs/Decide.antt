-- How a host controller answers a command about pipes and parameters (ETSI TS 102 622, sections 6.1, 7.1 and
-- 8.1). Each command has its tests in their order, and what is done where none of them holds.
use Rattle.std.specs.Prelude.{ℕ, Bool, true, false, not, if◌then◌else◌, ◌&&◌, ◌||◌, ◌==◌, nat_lt, nat_le, IsTrue, List, [], ◌∷◌, ◌++◌, length, Option, Some}
use Rattle.std.specs.Prelude.{None, is_none, unwrap_or, slice_index}
use Rattle.std.specs.List.{list_any}
use Rattle.std.specs.Option.{option_map_or, option_and_then}
use Rattle.whitelist.specs.Whitelist.{holds}
use Rattle.registry.specs.Values.{value_at}
use Rattle.pipe_table.specs.declared.row.PipeRow.{PipeRow}
use Rattle.pipe_table.specs.PipeRows.{pipe_at, joins_host, opened_on, lowest_free}
use Rattle.hci_tables.specs.declared.command.Command.{Command}
use Rattle.hci_tables.specs.declared.command.Command.TheVariants.{Create, Delete, Clear, SetOpened, Set}
use Rattle.hci_tables.specs.Commands.{is_allowed, is_command}
use Rattle.hci_tables.specs.Tables.{HciTables, is_opened}
use Rattle.gate_answers.specs.declared.response.Response.{Response}
use Rattle.gate_answers.specs.declared.response.Response.TheVariants as response
use Rattle.gate_answers.specs.Answers.{answer_of, first_of, tests_to_set, tests_to_get, param_in, value_in}
use Rattle.gate_admin.specs.declared.view.LinkView.{LinkView}
use Rattle.gate_admin.specs.declared.decision.Decision.{Decision}
use Rattle.gate_admin.specs.declared.decision.Decision.TheVariants.{Answer, Commit, Ask}
use Rattle.gate_admin.specs.View.{is_configured, is_connected, is_noticed, is_asked, hosts_where, mask_of}

-- the command of a decision may be recorded, if there is one
abbrev pub is_recordable : Decision → Bool
is_recordable (Answer answer) = true
is_recordable (Commit command answer tell notice) = is_command command
is_recordable (Ask host notice command answer) = is_command command

abbrev pub IsRecordableDecision : Decision → Type 0
IsRecordableDecision decision = IsTrue (is_recordable decision)

-- an answer alone
abbrev pub answers : Response → List ℕ → Decision
answers r value = Answer (record { items = answer_of r value })

-- a command that is committed and then answered by ANY_OK, and of which nobody is told
abbrev pub commits : Command → List ℕ → Decision
commits command value = Commit command (record { items = answer_of response.Ok value }) 0 (record { items = [] })

-- a notice, where there is somebody to tell
abbrev pub if_told : List ℕ → List ℕ → List ℕ
if_told [] notice = []
if_told (host ∷ hosts) notice = notice

-- a command that is committed and then answered by ANY_OK, and of which these hosts are told by this notice
abbrev pub commits_and_tells : Command → List ℕ → List ℕ → Decision
commits_and_tells command told notice = Commit command (record { items = answer_of response.Ok [] }) (mask_of told) (record { items = if_told told notice })

-- an answer alone where a test holds
abbrev pub unless_refused : Option Response → Decision → Decision
unless_refused (Some r) otherwise = answers r []
unless_refused None otherwise = otherwise

-- The end of a pipe that isn't the host's: a host and a gate. A dynamic pipe that isn't the host's has none; pipe 00 leads to
-- the controller's link management gate, pipe 01 to its administration gate.
abbrev pub far_end_of : ℕ → PipeRow → Option (ℕ × ℕ)
far_end_of host row =
    if row.creator == host then Some (row.dest, row.dest_gate) else
    (if row.dest == host then Some (row.creator, row.creator_gate) else None)

abbrev pub far_end : HciTables → ℕ → ℕ → Option (ℕ × ℕ)
far_end t host pipe =
    if pipe == 0 then Some (0, 6) else
    (if pipe == 1 then Some (0, 0) else option_and_then (far_end_of host) (pipe_at t.rows pipe))

-- Any command: the pipe is the host's, and it is opened or the command opens it.
abbrev pub tests_of_pipe : HciTables → ℕ → ℕ → ℕ → List (Bool × Response)
tests_of_pipe t host pipe instruction =
    (is_none (far_end t host pipe), response.NotConnected)
    ∷ (not (is_opened t host pipe) && not (instruction == 3), response.PipeNotOpened)
    ∷ []

-- ANY_OPEN_PIPE and ANY_CLOSE_PIPE have no body
abbrev pub tests_to_open : List ℕ → List (Bool × Response)
tests_to_open body = (not (length body == 0), response.CommandParameterUnknown) ∷ []

-- the other opened dynamic pipes, of any host, that end where this one does: none for a static pipe
abbrev pub others_opened : HciTables → ℕ → ℕ → ℕ
others_opened t host pipe =
    if nat_lt pipe 2 then 0 else option_map_or (λ end. opened_on t.rows end.0 end.1 pipe) (far_end t host pipe) 0

-- ANY_OPEN_PIPE: an opened pipe is answered too
abbrev pub opening : HciTables → ℕ → ℕ → List ℕ → Decision
opening t host pipe body = unless_refused (first_of (tests_to_open body))
    (if is_opened t host pipe then answers response.Ok (others_opened t host pipe ∷ []) else
    commits (SetOpened host pipe true) (others_opened t host pipe ∷ []))

-- ANY_CLOSE_PIPE
abbrev pub closing : ℕ → ℕ → List ℕ → Decision
closing host pipe body = unless_refused (first_of (tests_to_open body)) (commits (SetOpened host pipe false) [])

-- ANY_SET_PARAMETER of the administration gate: a whitelist isn't set while the host has a creation to answer
abbrev pub tests_to_set_it : LinkView → ℕ → List ℕ → List (Bool × Response)
tests_to_set_it v host body =
    tests_to_set 0 body
    ++ (not (is_allowed host (param_in body) (value_in body)), response.CommandParameterUnknown)
    ∷ (param_in body == 3 && is_asked v host, response.Inhibited)
    ∷ []

abbrev pub setting : LinkView → ℕ → List ℕ → Decision
setting v host body = unless_refused (first_of (tests_to_set_it v host body))
    (commits (Set host 0 (param_in body) (record { items = value_in body })) [])

-- the value of a parameter of the administration gate: MAX_PIPE is 6E, HOST_LIST the controller and the configured hosts
abbrev pub value_of : HciTables → LinkView → ℕ → ℕ → List ℕ
value_of t v host param =
    if param == 2 then 110 ∷ [] else
    (if param == 4 then 0 ∷ hosts_where (is_configured v) else
    (if param == 1 || param == 3 then value_at t.values host 0 param else []))

-- ANY_GET_PARAMETER of the administration gate
abbrev pub getting : HciTables → LinkView → ℕ → List ℕ → Decision
getting t v host body = unless_refused (first_of (tests_to_get 0 body)) (answers response.Ok (value_of t v host (param_in body)))

-- what the body of ADM_CREATE_PIPE names: a gate of its own host, and a gate of another host
abbrev pub source_gate_in : List ℕ → ℕ
source_gate_in body = slice_index body 0

abbrev pub dest_in : List ℕ → ℕ
dest_in body = slice_index body 1

abbrev pub dest_gate_in : List ℕ → ℕ
dest_gate_in body = slice_index body 2

-- whether the whitelist of the host `dest` holds a host
abbrev pub allows : HciTables → ℕ → ℕ → Bool
allows t dest host = nat_le 1 dest && nat_le dest 7 && holds (value_at t.values dest 0 3) host

-- ADM_CREATE_PIPE. The controller has the loopback gate 04 and the identity gate 05 for it.
abbrev pub tests_to_create : HciTables → LinkView → ℕ → List ℕ → List (Bool × Response)
tests_to_create t v host body =
    let dest = dest_in body in
    let gate = dest_gate_in body in
    (not (length body == 3), response.CommandParameterUnknown)
    ∷ (not (dest == 0) && not (is_configured v dest), response.NotConnected)
    ∷ (dest == host, response.NotOk)
    ∷ (dest == 0 && not (gate == 4 || gate == 5), response.NotOk)
    ∷ (not (dest == 0) && not (is_connected v dest), response.NotConnected)
    ∷ (not (dest == 0) && not (allows t dest host), response.PipeAccessDenied)
    ∷ (not (dest == 0) && is_noticed v dest, response.Inhibited)
    ∷ (is_none (lowest_free t.rows v.waiting.items), response.NoPipesAvailable)
    ∷ []

-- the pipe that a host asks for
abbrev pub created : ℕ → List ℕ → ℕ → PipeRow
created host body pid = record {
  pid = pid;
  creator = host;
  creator_gate = source_gate_in body;
  dest = dest_in body;
  dest_gate = dest_gate_in body;
  opened = false;
}

-- a pipe's two ends and its number, as the answer and the notice of its creation carry them
abbrev pub ends_of : PipeRow → List ℕ
ends_of row = row.creator ∷ row.creator_gate ∷ row.dest ∷ row.dest_gate ∷ row.pid ∷ []

-- a pipe to the controller is made at once, for one to another host that host is asked
abbrev pub creation : PipeRow → Decision
creation row =
    if row.dest == 0 then commits (Create row) (ends_of row) else
    Ask row.dest (record { items = 18 ∷ ends_of row }) (Create row) (record { items = answer_of response.Ok (ends_of row) })

abbrev pub creating : HciTables → LinkView → ℕ → List ℕ → Decision
creating t v host body = unless_refused (first_of (tests_to_create t v host body))
    (creation (created host body (unwrap_or (lowest_free t.rows v.waiting.items) 0)))

-- the other end of a pipe of a host, where it is a connected host
abbrev pub told_of_deletion : HciTables → LinkView → ℕ → ℕ → List ℕ
told_of_deletion t v host pid =
    option_map_or (λ end. if is_connected v end.0 then end.0 ∷ [] else []) (option_and_then (far_end_of host) (pipe_at t.rows pid)) []

-- ADM_DELETE_PIPE
abbrev pub tests_to_delete : HciTables → LinkView → ℕ → List ℕ → List (Bool × Response)
tests_to_delete t v host body =
    (not (length body == 1), response.CommandParameterUnknown)
    ∷ (is_none (option_and_then (far_end_of host) (pipe_at t.rows (param_in body))), response.NotConnected)
    ∷ (list_any (is_noticed v) (told_of_deletion t v host (param_in body)), response.Inhibited)
    ∷ []

abbrev pub deleting : HciTables → LinkView → ℕ → List ℕ → Decision
deleting t v host body = unless_refused (first_of (tests_to_delete t v host body))
    (commits_and_tells (Delete (param_in body)) (told_of_deletion t v host (param_in body)) (19 ∷ param_in body ∷ []))

-- whether another host is connected and shares a pipe with a host
abbrev pub shares : HciTables → LinkView → ℕ → ℕ → Bool
shares t v host other = is_connected v other && not (other == host) && list_any (λ row. joins_host row host && joins_host row other) t.rows

-- the connected hosts that share a pipe with a host
abbrev pub told_of_clearing : HciTables → LinkView → ℕ → List ℕ
told_of_clearing t v host = hosts_where (shares t v host)

-- ADM_CLEAR_ALL_PIPE: the two bytes that may stand in it aren't used
abbrev pub tests_to_clear : HciTables → LinkView → ℕ → List ℕ → List (Bool × Response)
tests_to_clear t v host body =
    (not (length body == 0 || length body == 2), response.CommandParameterUnknown)
    ∷ (is_asked v host, response.Inhibited)
    ∷ (list_any (is_noticed v) (told_of_clearing t v host), response.Inhibited)
    ∷ []

abbrev pub clearing : HciTables → LinkView → ℕ → List ℕ → Decision
clearing t v host body = unless_refused (first_of (tests_to_clear t v host body))
    (commits_and_tells (Clear host) (told_of_clearing t v host) (21 ∷ host ∷ []))

-- the commands that the administration gate knows
abbrev pub administration : HciTables → LinkView → ℕ → ℕ → List ℕ → Decision
administration t v host instruction body =
    if instruction == 1 then setting v host body else
    (if instruction == 2 then getting t v host body else
    (if instruction == 16 then creating t v host body else
    (if instruction == 17 then deleting t v host body else
    (if instruction == 20 then clearing t v host body else
    answers response.CommandNotSupported []))))

-- what is done with a command where no test of the pipe holds
abbrev pub carried_out : HciTables → LinkView → ℕ → ℕ → ℕ → List ℕ → Decision
carried_out t v host pipe instruction body =
    if instruction == 3 then opening t host pipe body else
    (if instruction == 4 then closing host pipe body else
    administration t v host instruction body)

-- What is done with a command of a host on a pipe: the tests of the pipe, its opening and closing, and the administration
-- gate.
abbrev pub decided : HciTables → LinkView → ℕ → ℕ → ℕ → List ℕ → Decision
decided t v host pipe instruction body =
    unless_refused (first_of (tests_of_pipe t host pipe instruction)) (carried_out t v host pipe instruction body)
