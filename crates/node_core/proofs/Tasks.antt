-- What a host has under way, as its deeds change it.
use Rattle.node_core.proofs.Words.{Bool, Core, Entry, Handling, Init, IsDoableNow, IsInStep, List, Message, Node, None, Option, Plan, Port, Tasks, Work}
use Rattle.node_core.proofs.Words.{after_sessions, ap, arith, deed_of, deed_shown, done, false, goes_on_with, handling, init_running, is_over, list_any, not}
use Rattle.node_core.proofs.Words.{option_map, refl, true, ℕ, ◌∙◌, ◌≡◌}
use Rattle.node_deeds.specs.declared.deeds.Deed.{Deed}
use Rattle.node_deeds.specs.declared.deeds.Deed.TheVariants as kept
use Rattle.node_deeds.specs.Shown.{ordered_by}

-- ## An init that goes on

pub going_cut : (h : ℕ) (o : Option Init) (answered : ℕ) (w : Work) → (done h (goes_on_with o answered) w).cut ≡ w.cut
going_cut h o answered w = grind arith

pub going_writes : (h : ℕ) (o : Option Init) (answered : ℕ) (w : Work) → (done h (goes_on_with o answered) w).writes ≡ w.writes
going_writes h o answered w = grind arith

pub going_anyway : (h : ℕ) (o : Option Init) (answered : ℕ) (w : Work) (plan : Option Plan)
    → done h (goes_on_with o answered) (record w { plan = plan }) ≡ record (done h (goes_on_with o answered) w) { plan = plan }
going_anyway h o answered w plan = grind arith

-- ## What a node keeps of it

-- another command waits for its response
pub command_changed : {N : Type 0} {n : Node N} {noted start : List Entry} {short : Bool} {w : Work} (t : Tasks) (command : Option (List ℕ))
    → IsInStep n noted short start w → option_map ordered_by command ≡ t.command → t.init ≡ n.tasks.init
    → IsInStep (record n { tasks = t }) noted short start (record w { core = record w.core { command = command } })
command_changed t command u ordered same = grind arith

-- another init runs
pub init_changed : {N : Type 0} {n : Node N} {noted start : List Entry} {short : Bool} {w : Work} (t : Tasks) (init : Option Init)
    → IsInStep n noted short start w → init ≡ init_running t.init → t.command ≡ n.tasks.command
    → IsInStep (record n { tasks = t }) noted short start (record w { core = record w.core { init = init } })
init_changed t init u running same = grind arith

-- nothing is under way
pub tasks_dropped : {N : Type 0} {n : Node N} {noted start : List Entry} {short : Bool} {w : Work} (t : Tasks)
    → IsInStep n noted short start w → t.command ≡ None → t.init ≡ None
    → IsInStep (record n { tasks = t }) noted short start (record w { core = record w.core { command = None; init = None } })
tasks_dropped t u command init = grind arith

-- a message is handled the same where nothing that this goes by has changed
pub handled_same : {N : Type 0} (n n2 : Node N) (m : Message) → n2.number ≡ n.number → n2.tasks ≡ n.tasks → handling n2 m ≡ handling n m
handled_same n n2 m number tasks = grind arith

-- ## One deed after another

shown_same : (a b : Handling) (d : Deed) (w : Work) → b.node ≡ a.node → b.message ≡ a.message → w.core.init ≡ b.init → IsDoableNow a d w
    → deed_shown b d ≡ deed_shown a d
shown_same a b d w node message runs may = grind arith

doable_same : (a b : Handling) (d : Deed) (w : Work) → b.message ≡ a.message → w.core.init ≡ b.init → IsDoableNow a d w → IsDoableNow b d w
doable_same a b d w message runs may = grind arith

-- the next deed of a node, as it stands now and as it stood before its deeds
runs_now : {N : Type 0} {n : Node N} {noted start : List Entry} {short : Bool} {w : Work} → IsInStep n noted short start w → n.store.journal.live ≡ true
    → w.core.init ≡ init_running n.tasks.init
runs_now u live = (u.core (u.power ∙ ap not live)).init

pub next_shown : {N : Type 0} {n : Node N} {noted start : List Entry} {short : Bool} {w : Work} (first : Node N) (m : Message) (d : Deed)
    → IsInStep n noted short start w → n.store.journal.live ≡ true → n.number ≡ first.number → IsDoableNow (handling first m) d w
    → deed_of n m d ≡ deed_of first m d
next_shown {N} {n} {w = w} first m d u live number may = shown_same (handling first m) (handling n m) d w number refl (runs_now u live) may

pub next_doable : {N : Type 0} {n : Node N} {noted start : List Entry} {short : Bool} {w : Work} (first : Node N) (m : Message) (d : Deed)
    → IsInStep n noted short start w → n.store.journal.live ≡ true → n.number ≡ first.number → IsDoableNow (handling first m) d w
    → IsDoableNow (handling n m) d w
next_doable {N} {n} {w = w} first m d u live number may = doable_same (handling first m) (handling n m) d w refl (runs_now u live) may

-- ## Sessions that ended

-- a host has nothing under way once a session of it ended
pub over : (core : Core) (ports : List Port) → list_any is_over ports ≡ true → after_sessions core ports ≡ record core { command = None; init = None }
over core ports q = rw q refl

pub not_over : (core : Core) (ports : List Port) → list_any is_over ports ≡ false → after_sessions core ports ≡ core
not_over core ports q = rw q refl
