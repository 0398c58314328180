-- What is read of a node at a moment of a history, off events and entries, and its reply to a message there.
use Rattle.std.specs.Prelude.{◌≡◌, ℕ, ◌-◌, ◌^◌, ◌==◌, ◌&&◌, min, Bool, true, false, if◌then◌else◌, List, [], ◌∷◌, ◌++◌, drop, length, is_some, Option, Some}
use Rattle.std.specs.Prelude.{None}
use Rattle.std.specs.List.{fold}
use Rattle.std.specs.Option.{option_map, option_map_or, option_and_then}
use Rattle.trace_model.specs.declared.entry.Entry.{Entry}
use Rattle.trace_model.specs.declared.entry.Entry.TheVariants as entry
use Rattle.trace_model.specs.declared.line.End.{End}
use Rattle.pipe_table.specs.declared.row.PipeRow.{PipeRow}
use Rattle.hci_tables.specs.declared.command.Command.TheVariants.{Create}
use Rattle.gate_answers.specs.declared.response.Response.TheVariants as response
use Rattle.gate_answers.specs.Answers.{answer_of, instruction_in, body_in}
use Rattle.gate_admin.specs.Decide.{ends_of}
use Rattle.link_laws.specs.machine.Machine.{Message, oldest}
use Rattle.history.specs.Filters.{same_end}
use Rattle.history.specs.Damage.{same_bytes}
use Rattle.node_machine.specs.Parts.{Creation, About, Deed, OwnView, EndView, NodeView}
use Rattle.node_machine.specs.Parts.About.{Waits, Forgotten, Removed}
use Rattle.node_machine.specs.Carrying.{end_of_number, needs, first_lack}
use Rattle.node_machine.specs.Controller.{creation_of}
use Rattle.node_machine.specs.HostReplies.{pipe_named_in}
use Rattle.node_machine.specs.Turns.{deeds_for}
use Rattle.node_machine.specs.world.World.{Happening, node_of}
use Rattle.node_machine.specs.world.Lines.{Occurrence}
use Rattle.node_machine.specs.world.NodeHistories.{NodeHistory, entries_in, occurrences_in}
use Rattle.node_machine.specs.world.NodeFilters.{commands_in, tables_in, notice_in, order_in, asking_in, session_now, spare_at}
use Rattle.node_laws.specs.passes.Noting.{entries_of_reply}
use Rattle.node_laws.specs.cuts.Histories.{is_one_of}
use Rattle.node_laws.specs.views.Errors.{errors_in}
use Rattle.node_laws.specs.views.Inits.{init_after, init_begun, init_in}
use Rattle.node_laws.specs.views.Views.{view_at}

-- a moment within an event: the events before it, what causes it, and the entries that were noted of it so far
pub record Moment : Type 0 where
  pub past : List Occurrence
  pub cause : Happening
  pub so_far : List Entry

-- all entries until a moment
abbrev pub until : Moment → List Entry
until m = entries_in m.past ++ m.so_far

-- So it is with each entry, as it is noted, and the entries of its event behind it.
abbrev pub AtEachEntry : NodeHistory → (Moment → Entry → List Entry → Type 0) → Type 0
AtEachEntry t P =
    (past back : List Occurrence) (o : Occurrence) (front behind : List Entry) (x : Entry)
    → occurrences_in t ≡ past ++ (o ∷ back) → o.entries ≡ front ++ (x ∷ behind)
    → P (record { past = past; cause = o.cause; so_far = front }) x behind

-- So it is with each event and the events before it.
abbrev pub AtEachOccurrence : NodeHistory → (List Occurrence → Occurrence → Type 0) → Type 0
AtEachOccurrence t P = (past back : List Occurrence) (o : Occurrence) → occurrences_in t ≡ past ++ (o ∷ back) → P past o

-- ## What came

-- the messages that came at an end and had no turn since its node booted, after an entry
abbrev pub unhandled_after : End → List Message → Entry → List Message
unhandled_after e messages (entry.Got f n pid message) = if same_end f e then messages ++ (pid, message) ∷ [] else messages
unhandled_after e messages (entry.Turn f pid message) = if same_end f e then drop 1 messages else messages
unhandled_after e messages (entry.Booted n k) = if n == node_of e then [] else messages
unhandled_after e messages _ = messages

-- the messages that came at an end since its node booted and had no turn, in order
abbrev pub unhandled_in : List Entry → End → List Message
unhandled_in t e = fold (unhandled_after e) [] t

-- the first of them was noted as held, after an entry
abbrev pub holds_after : End → Bool → Entry → Bool
holds_after e holds (entry.Held f need spare) = if same_end f e then true else holds
holds_after e holds (entry.Turn f pid message) = if same_end f e then false else holds
holds_after e holds (entry.Booted n k) = if n == node_of e then false else holds
holds_after e holds _ = holds

-- the first of them was noted as held
abbrev pub holds_in : List Entry → End → Bool
holds_in t e = fold (holds_after e) false t

-- a node runs
abbrev pub runs_in : List Entry → ℕ → Bool
runs_in t n = fold after false t where
  after : Bool → Entry → Bool
  after runs (entry.Booted node k) = if node == n then true else runs
  after runs (entry.Cut node) = if node == n then false else runs
  after runs _ = runs

-- ## What is known

-- what the notice with this message is about: the creation for which its asker asked, while that waits; another notice tells of pipes
-- that were removed
abbrev pub about_in : List Entry → List ℕ → About
about_in t message = if instruction_in message == 18 then by_row (pipe_named_in (body_in message)) else Removed where
  by_asking : PipeRow → Bool → About
  by_asking row true = Waits (record { asker = row.creator; command = Create row; answer = answer_of response.Ok (ends_of row) })
  by_asking row false = Forgotten

  by_row : Option PipeRow → About
  by_row None = Forgotten
  by_row (Some row) = by_asking row (option_map_or (same_bytes message) (asking_in t row.creator) false)

-- what an unanswered notice is about, as it is read
abbrev pub about_read : List Entry → Option (List ℕ) → Option About
about_read t message = option_map (about_in t) message

-- the creation that waits for the answer to a notice, as it is read
abbrev pub creation_read : List Entry → Option (List ℕ) → Option Creation
creation_read t message = option_and_then creation_of (about_read t message)

-- a node of a world with these hosts has a link with this one: the controller with each, and a host its own
abbrev pub is_linked : List ℕ → ℕ → ℕ → Bool
is_linked hosts n h = is_one_of (if n == 0 then hosts else n ∷ []) h

-- an end of a node is up
abbrev pub is_up_read : List Entry → ℕ → ℕ → Bool
is_up_read t n h = is_some (session_now t (end_of_number n h) n)

-- an end of a node, as it is read
abbrev pub end_read : List Entry → ℕ → ℕ → EndView
end_read t n h = record { up = is_up_read t n h; errors = errors_in t (end_of_number n h) }

-- the blocks that an end of a node has to spare: none where there is no such link
abbrev pub spare_read : List ℕ → List Entry → ℕ → ℕ → ℕ
spare_read hosts t n h = if is_linked hosts n h then spare_at t (end_of_number n h) else 0

-- What a node keeps itself, as it is read. Its memory has room for any command: where a record no longer fits into a bank, a snapshot goes
-- into the other one.
abbrev pub own_read : Moment → ℕ → OwnView
own_read m n = record {
  node = n;
  tables = tables_in (until m) n;
  has_room = λ c. true;
  command = order_in (until m) n;
  init = fold (init_after n) (init_begun n (init_in m.past n) m.cause) m.so_far;
}

-- All that a node goes by, as it is read.
abbrev pub view_read : List ℕ → Moment → ℕ → NodeView
view_read hosts m n = record {
  own = own_read m n;
  up = λ h. is_linked hosts n h && is_up_read (until m) n h;
  asks = λ h. is_some (asking_in (until m) h);
  notice = λ h. about_read (until m) (notice_in (until m) h);
  links = view_at hosts (until m);
  ends = λ h. if is_linked hosts n h then Some (end_read (until m) n h) else None;
  spare = spare_read hosts (until m) n;
}

-- ## Replies

-- What the node of an end does with a message that came there.
abbrev pub reply : List ℕ → Moment → End → Message → List Deed
reply hosts m e message = deeds_for (view_read hosts m (node_of e)) e.link message

-- the first number of blocks that this needs and that isn't spare, with what is
abbrev pub lack_of : List ℕ → Moment → End → Message → Option (ℕ × ℕ)
lack_of hosts m e message = first_lack (spare_read hosts (until m) (node_of e)) (needs e.link (reply hosts m e message))

-- that of the first message that came there and had no turn
abbrev pub lack_at : List ℕ → Moment → End → Option (ℕ × ℕ)
lack_at hosts m e = option_and_then (lack_of hosts m e) (oldest (unhandled_in (until m) e))

-- What is noted of deeds of a node, one after another, where it handles a message of the link with the host h: its ends have the sessions that
-- are read, one without a session sends nothing, and of the commands that are read at most 4,294,967,295 are counted.
abbrev pub noted_of_deeds : List Entry → ℕ → ℕ → List Deed → List Entry
noted_of_deeds t n h deeds =
    entries_of_reply n (λ k. session_now t (end_of_number n k) n) h (min (length (commands_in t n)) (2 ^ 32 - 1)) deeds
