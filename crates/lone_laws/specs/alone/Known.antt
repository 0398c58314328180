-- What is read of a node alone, off what its boot found and what was noted since.
use Rattle.std.specs.Prelude.{ℕ, ◌==◌, ◌&&◌, false, if◌then◌else◌, List, [], Option, Some, None}
use Rattle.std.specs.List.{fold}
use Rattle.std.specs.Option.{option_and_then}
use Rattle.trace_model.specs.declared.entry.Entry.{Entry}
use Rattle.trace_model.specs.declared.entry.Entry.TheVariants as entry
use Rattle.trace_model.specs.declared.line.End.{End}
use Rattle.hci_tables.specs.declared.command.Command.{Command}
use Rattle.hci_tables.specs.Bodies.{body_of}
use Rattle.hci_tables.specs.Tables.{apply, is_opened}
use Rattle.hci_store.specs.Committing.{committed}
use Rattle.gate_admin.specs.View.{hosts_where, mask_of}
use Rattle.link_laws.specs.machine.Machine.{Message, oldest}
use Rattle.node_machine.specs.Parts.{Core, Deed, EndView, NodeView}
use Rattle.node_machine.specs.Carrying.{own_view, needs, first_lack}
use Rattle.node_machine.specs.Turns.{deeds_for}
use Rattle.node_machine.specs.world.NodeFilters.{new_book, spare_at}
use Rattle.node_laws.specs.answers.Moments.{is_up_read, unhandled_in}
use Rattle.node_laws.specs.views.Errors.{ErrorCount, no_errors, errors_after}
use Rattle.lone_laws.specs.alone.Lone.{end_of_node_alone}

-- ## What it keeps

-- a node commits a command: it is in its tables, and its journal has a record more, over a snapshot where it didn't fit
abbrev pub core_with : Core → Command → Core
core_with c x = record c { journal = committed c.journal c.tables (body_of x); tables = apply c.tables x }

abbrev pub core_noted : Core → Entry → Core
core_noted c (entry.Command n x) = if n == c.node then core_with c x else c
core_noted c _ = c

-- What a node keeps behind these entries, where its boot found this.
abbrev pub core_since : Core → List Entry → Core
core_since found t = fold core_noted found t

-- ## REC_ERROR

-- nothing was refused yet at a node whose boot found this: its tables say where pipes lead
abbrev pub errors_found : Core → ErrorCount
errors_found found = record no_errors { book = record new_book { tables = found.tables } }

-- REC_ERROR of an end, as it is read behind these entries.
abbrev pub errors_since : Core → End → List Entry → ℕ
errors_since found e t = (fold (errors_after e) (errors_found found) t).errors

-- ## Its view

-- a node has one link, with the host h, and so many blocks to spare there
abbrev pub spare_with_link : ℕ → ℕ → ℕ → ℕ
spare_with_link h blocks k = if h == k then blocks else 0

-- What a node that keeps this goes by, which has one link, with the host h, and such an end there with so many blocks to spare: where there is
-- one link no creation waits, and no notice is sent.
abbrev pub view_with_link : Core → ℕ → EndView → ℕ → NodeView
view_with_link core h e blocks = record {
  own = own_view core;
  up = λ k. h == k && e.up;
  asks = λ k. false;
  notice = λ k. None;
  links = λ k. record {
    hosts = mask_of (hosts_where (λ x. h == x));
    connected = mask_of (hosts_where (λ x. h == x && (e.up && is_opened core.tables x 1)));
    noticed = mask_of (hosts_where (λ x. false));
    asked = mask_of (hosts_where (λ x. false));
    waiting = record { items = [] };
    errors = e.errors;
  };
  ends = λ k. if h == k then Some e else None;
  spare = spare_with_link h blocks;
}

-- the end of a node on the link with this host, as it is read
abbrev pub end_since : Core → ℕ → List Entry → EndView
end_since found h t = record { up = is_up_read t found.node h; errors = errors_since found (end_of_node_alone found.node h) t }

-- the blocks that it has to spare
abbrev pub spare_since : Core → ℕ → List Entry → ℕ
spare_since found h t = spare_at t (end_of_node_alone found.node h)

-- What the node goes by, as it is read.
abbrev pub view_since : Core → ℕ → List Entry → NodeView
view_since found h t = view_with_link (core_since found t) h (end_since found h t) (spare_since found h t)

-- ## Replies

-- What the node does with a message that came at its end.
abbrev pub reply_since : Core → ℕ → List Entry → Message → List Deed
reply_since found h t m = deeds_for (view_since found h t) h m

-- the first number of blocks that this needs and that isn't spare, with what is
abbrev pub lack_since : Core → ℕ → List Entry → Message → Option (ℕ × ℕ)
lack_since found h t m = first_lack (spare_with_link h (spare_since found h t)) (needs h (reply_since found h t m))

-- that of the first message that came there and had no turn
abbrev pub first_lack_since : Core → ℕ → List Entry → Option (ℕ × ℕ)
first_lack_since found h t = option_and_then (lack_since found h t) (oldest (unhandled_in t (end_of_node_alone found.node h)))
