-- What a node does in a step doesn't depend on what was noted before.
use Rattle.std.specs.Prelude.{◌&&◌}
use Rattle.node_sites.proofs.Words.{AtEnd, Bool, Deed, Entry, List, Memory, Message, Node, None, Option, Port, RunsAs, Some, Stored, TimePasses, Work, Write}
use Rattle.node_sites.proofs.Words.{WritesAsPlanned, [], after_planned, ap, append-nil, as_told, beginning, by_test, fails_within, false, flat_map, length, map}
use Rattle.node_sites.proofs.Words.{node_memory, not, option_map_or, port_at, refl, sending, subst, sym, true, ℕ, ◌++◌, ◌==◌, ◌∙◌, ◌∷◌, ◌≡◌}
use Rattle.hci_tables.specs.declared.command.Command.{Command}
use Rattle.hci_tables.specs.Bodies.{body_of}
use Rattle.hci_store.specs.Committing.{commit_writes}
use Rattle.link_laws.specs.machine.Machine.{is_held}
use Rattle.node_machine.specs.Parts.Deed.{Commits, Sends, SaysOk, Asks, Releases, Tells, IsAnswered, Drops, SetsErrors, Orders, Hears, GoesOn, Ends}
use Rattle.node_machine.specs.Carrying.{all_done, commit, done, lack, needs, unless_cut}
use Rattle.node_machine.specs.Turns.{deeds_of, handles, holds_back, lets_go, have_turns, goes_through_ends, passes}
use Rattle.node_machine.specs.Node.{NodeInput, all_come, times_out, forgets, forgotten, all_owed, synced, answers_and_passes, steps}
use Rattle.node_core.specs.Syncing.{left_over}
use Rattle.node_core.proofs.Joining.{stays_cut, goes_on}
use Rattle.node_core.specs.Bringing.{Brings}
use Rattle.node_core.specs.Running.{BeginsStep, HasStepped, ran_so}
use Rattle.node_core.proofs.Planned.{planned_step, planned_writes}
use Rattle.node_machine.specs.Controller.{is_command_message}
use Rattle.node_core.specs.Giving.{IsAsked}
use Rattle.node_core.proofs.Sendings.{given_order, given_other, given_both}
use Rattle.node_sites.specs.WorldNodes.{BeginsOver, HasGone, IsNotedSo}
use Rattle.node_sites.specs.declared.noted.Noted.{Noted}
use Rattle.node_sites.proofs.Numbered.{as_watched, as_noted}

-- a node in a step, without what was noted
abbrev pub bare : Work → Work
bare w = record w { entries = [] }

-- what is done is the same whatever was noted before
abbrev pub IsRegardless : (Work → Work) → Type 0
IsRegardless f = (w : Work) → bare (f w) ≡ bare (f (bare w))

-- one thing behind the other
then_regardless : (f g : Work → Work) → IsRegardless f → IsRegardless g → IsRegardless (λ w. g (f w))
then_regardless f g one other w = other (f w) ∙ (ap (λ (v : Work). bare (g v)) (one w) ∙ sym (other (f (bare w))))

unless_regardless : (f : Work → Work) → IsRegardless f → IsRegardless (unless_cut f)
unless_regardless f reg w =
    by_test w.cut
    (λ q. ap bare (stays_cut f w q) ∙ sym (ap bare (stays_cut f (bare w) q))) (λ q. ap bare (goes_on f w q) ∙ (reg w ∙ sym (ap bare (goes_on f (bare w) q))))

-- ## Deeds

commit_regardless : (c : Command) → IsRegardless (commit c)
commit_regardless c w = by_test (fails_within (length (commit_writes w.core.journal w.core.tables (body_of c))) w.plan) (λ q. rw q refl) (λ q. rw q refl)

done_regardless : (h : ℕ) (d : Deed) → IsRegardless (done h d)
done_regardless h (Commits c) w = commit_regardless c w
done_regardless h (Sends to m) w = refl
done_regardless h SaysOk w = refl
done_regardless h (Asks to message c) w = refl
done_regardless h (Releases asker) w = refl
done_regardless h (Tells to message) w = refl
done_regardless h IsAnswered w = refl
done_regardless h (Drops pid) w = refl
done_regardless h (SetsErrors errors) w = refl
done_regardless h (Orders message) w = refl
done_regardless h Hears w = refl
done_regardless h (GoesOn i) w = refl
done_regardless h (Ends e) w = refl

pub all_regardless : (h : ℕ) (deeds : List Deed) → IsRegardless (all_done h deeds)
all_regardless h [] w = refl
all_regardless h (d ∷ deeds) w =
    then_regardless (done h d) (unless_cut (all_done h deeds)) (done_regardless h d) (unless_regardless (all_done h deeds) (all_regardless h deeds)) w

-- ## Turns

handles_regardless : (h : ℕ) (m : Message) (deeds : List Deed) → IsRegardless (handles h m deeds)
handles_regardless h m deeds w = all_regardless h deeds _ ∙ sym (all_regardless h deeds _)

holds_regardless : (h : ℕ) (short : ℕ × ℕ) → IsRegardless (holds_back h short)
holds_regardless h short w = by_test (option_map_or (λ (p : Port). p.desk.holds) (port_at w.ports h) false) (λ q. rw q refl) (λ q. rw q refl)

lets_regardless : (h : ℕ) → IsRegardless (lets_go h)
lets_regardless h w = by_test (option_map_or (λ (p : Port). is_held p.side) (port_at w.ports h) false) (λ q. rw q refl) (λ q. rw q refl)

turns_regardless : (h : ℕ) (messages : List Message) → IsRegardless (have_turns h messages)
turns_regardless h [] w = lets_regardless h w
turns_regardless h (m ∷ messages) w = by (lack w.ports (needs h deeds)) refl (turns_regardless h messages)
  where
    deeds : List Deed
    deeds = deeds_of w.core w.ports h m

    room : (v : Work) → lack v.ports (needs h (deeds_of v.core v.ports h m)) ≡ None
        → have_turns h (m ∷ messages) v ≡ unless_cut (have_turns h messages) (handles h m (deeds_of v.core v.ports h m) v)
    room v q = rw q refl

    none : (v : Work) (short : ℕ × ℕ) → lack v.ports (needs h (deeds_of v.core v.ports h m)) ≡ Some short
        → have_turns h (m ∷ messages) v ≡ holds_back h short v
    none v short q = rw q refl

    by : (o : Option (ℕ × ℕ)) → lack w.ports (needs h deeds) ≡ o → IsRegardless (have_turns h messages)
        → bare (have_turns h (m ∷ messages) w) ≡ bare (have_turns h (m ∷ messages) (bare w))
    by None q later =
        ap bare (room w q)
        ∙ (then_regardless (handles h m deeds) (unless_cut (have_turns h messages)) (handles_regardless h m deeds)
        (unless_regardless (have_turns h messages) later) w ∙ sym (ap bare (room (bare w) q)))
    by (Some short) q later = ap bare (none w short q) ∙ (holds_regardless h short w ∙ sym (ap bare (none (bare w) short q)))

ends_regardless : (hosts : List ℕ) → IsRegardless (goes_through_ends hosts)
ends_regardless [] w = refl
ends_regardless (h ∷ hosts) w =
    let got : List Message = option_map_or (λ (p : Port). p.side.got) (port_at w.ports h) [] in
    then_regardless (have_turns h got) (unless_cut (goes_through_ends hosts)) (turns_regardless h got)
    (unless_regardless (goes_through_ends hosts) (ends_regardless hosts)) w

passes_regardless : IsRegardless passes
passes_regardless w = ends_regardless (map (λ (p : Port). p.desk.host) w.ports) w

-- ## Steps

answers_regardless : (freed syncs owing : List Deed) → IsRegardless (answers_and_passes freed syncs owing)
answers_regardless freed syncs owing w =
    then_regardless (λ v. unless_cut (all_done 0 owing) (all_done 0 syncs (all_done 0 freed v))) (unless_cut passes)
    (then_regardless (λ v. all_done 0 syncs (all_done 0 freed v)) (unless_cut (all_done 0 owing))
    (then_regardless (all_done 0 freed) (all_done 0 syncs) (all_regardless 0 freed) (all_regardless 0 syncs))
    (unless_regardless (all_done 0 owing) (all_regardless 0 owing)))
    (unless_regardless passes passes_regardless) w

-- the same is done behind two states that differ in what was noted alone
behind : (freed syncs owing : List Deed) (v u : Work) → bare v ≡ bare u
    → bare (answers_and_passes freed syncs owing v) ≡ bare (answers_and_passes freed syncs owing u)
behind freed syncs owing v u same =
    answers_regardless freed syncs owing v
    ∙ (ap (λ (x : Work). bare (answers_and_passes freed syncs owing x)) same ∙ sym (answers_regardless freed syncs owing u))

came_so : (input : NodeInput) (w v u : Work) → bare v ≡ bare u → v.ports ≡ u.ports
    → bare (answers_and_passes (forgotten v.ports) (flat_map (synced w.core input) w.ports) (all_owed (map (forgets v.ports) v.ports)) (left_over v))
    ≡ bare (answers_and_passes (forgotten u.ports) (flat_map (synced w.core input) w.ports) (all_owed (map (forgets u.ports) u.ports)) (left_over u))
came_so input w v u same ports =
    behind (forgotten v.ports) syncs (all_owed (map (forgets v.ports) v.ports)) (left_over v) (left_over u)
    (ap (λ (x : Work). bare (left_over x)) same)
    ∙ ap (λ (ps : List Port). bare (answers_and_passes (forgotten ps) syncs (all_owed (map (forgets ps) ps)) (left_over u))) ports
  where
    syncs : List Deed
    syncs = flat_map (synced w.core input) w.ports

pub steps_regardless : (input : NodeInput) → IsRegardless (steps input)
steps_regardless (AtEnd h i) w = came_so (AtEnd h i) w (all_come (AtEnd h i) w) (all_come (AtEnd h i) (bare w)) refl refl
steps_regardless TimePasses w =
    came_so TimePasses w (times_out TimePasses (all_come TimePasses w)) (times_out TimePasses (all_come TimePasses (bare w))) refl refl

-- A node over a memory that keeps its bytes does what the world asks for.

-- ## As a step begins

-- behind what was noted before
pub begins_so : {n : Node Memory} {noted : Noted} {sessions : List ℕ} {start : List Entry} {w : Work} → BeginsOver n w
    → IsNotedSo noted sessions start w.entries → BeginsStep n (as_told noted.sessions noted.entries.items) noted.short (as_told sessions start) w
begins_so b noted = record { runs = b.runs; sent = b.sent; none_ended = b.fresh; power = b.power; noted_are = as_watched noted }

-- or without that
pub begins_bare : {n : Node Memory} (noted : List Entry) (short : Bool) {w : Work} → BeginsOver n w → BeginsStep n noted short noted (bare w)
begins_bare noted short b = record { runs = b.runs; sent = b.sent; none_ended = b.fresh; power = b.power; noted_are = λ kept. sym (append-nil noted) }

-- ## Behind it

-- it is told as it ran
pub told_so : (told live : Bool) → ran_so live ≡ ran_so told → told ≡ live
told_so true true q = refl
told_so false false q = refl
told_so true false q = cc
told_so false true q = cc

-- what the world knows of a node that has stepped
pub goes_so : {n n2 : Node Memory} {noted start : List Entry} {short : Bool} {w : Work} {f : Work → Work} (live : Bool) → IsRegardless f → BeginsOver n w
    → Brings WritesAsPlanned (node_memory n) (node_memory n2) (HasStepped n2 noted short start) f (bare w) → live ≡ n2.store.journal.live
    → HasGone n n2 (f w) live
goes_so {n} {n2} {w = w} {f = f} live regardless begins b is =
    let made : List Write = b.sure ++ b.torn in
    let same : bare (f w) ≡ bare (record b.after { plan = (node_memory n2).plan }) = regardless w ∙ ap bare (planned_step b begins.plan) in
    record {
      power = ap (λ (v : Work). v.cut) same ∙ (b.stands.power ∙ ap not (sym is));
      memory = rw (← ap (λ (v : Work). v.writes) same ∙ (b.written ∙ ap (λ (ws : List Write). ws ++ made) begins.writes)) at (planned_writes b);
      runs = λ up. subst (λ v. RunsAs n2 v.core v.ports) (sym same) (b.stands.runs (b.stands.power ∙ ap not (sym is ∙ up)));
    }

-- what was noted of the step
pub noted_so : {m m2 : Memory} {n2 : Node Memory} (noted : Noted) {sessions : List ℕ} {start : List Entry} {w : Work} {f : Work → Work} → w.plan ≡ m.plan
    → Brings WritesAsPlanned m m2 (HasStepped n2 (as_told noted.sessions noted.entries.items) noted.short (as_told sessions start)) f w
    → IsNotedSo noted sessions start (f w).entries
noted_so noted {sessions} {start} plan b = rw (planned_step b plan) (as_noted noted sessions start b.after.entries b.stands.noted_are)

-- A host that sends a message by itself, or begins an init, does what the world asks for.

-- ## As it begins

pub asked_so : {n : Node Memory} {noted : Noted} {sessions : List ℕ} {start : List Entry} {w : Work} → BeginsOver n w
    → IsNotedSo noted sessions start w.entries → IsAsked n (as_told noted.sessions noted.entries.items) noted.short (as_told sessions start) w
asked_so b noted = record { runs = b.runs; none_ended = b.fresh; power = b.power; noted_are = as_watched noted }

pub asked_bare : {n : Node Memory} (noted : List Entry) (short : Bool) {w : Work} → BeginsOver n w
    → IsAsked n noted short noted (bare w)
asked_bare noted short b = record { runs = b.runs; none_ended = b.fresh; power = b.power; noted_are = λ kept. sym (append-nil noted) }

-- ## Without a write

pub sending_writes : (h pipe : ℕ) (message : List ℕ) (w : Work) → (all_done h (sending h (pipe, message)) w).writes ≡ w.writes
sending_writes h pipe message w =
    by_test (pipe == 1 && is_command_message message)
    (λ q. ap (λ (v : Work). v.writes) (sym (given_order h pipe message w q))) (λ q. ap (λ (v : Work). v.writes) (sym (given_other h pipe message w q)))

pub beginning_writes : (h : ℕ) (identity : List ℕ) (pipes : List (List ℕ)) (w : Work) → w.cut ≡ false
    → (all_done h (beginning identity pipes) w).writes ≡ w.writes
beginning_writes h identity pipes w live =
    ap (λ (v : Work). v.writes)
    (sym (given_both h (GoesOn (record { identity = identity; pipes = pipes; answered = 0 })) (Orders (3 ∷ [])) w live))

-- ## Behind it

-- the host runs on over its memory
pub gives_so : {n n2 : Node Memory} {noted start : List Entry} {short : Bool} {w : Work} (h : ℕ) (deeds : List Deed) → BeginsOver n w
    → n2.store ≡ n.store → (all_done h deeds w).writes ≡ w.writes
    → HasStepped n2 noted short start (all_done h deeds (bare w)) → HasGone n n2 (all_done h deeds w) true
gives_so {n} {n2} {w = w} h deeds b store writes stepped =
    let same : bare (all_done h deeds w) ≡ bare (all_done h deeds (bare w)) = all_regardless h deeds w in
    let power : (all_done h deeds (bare w)).cut ≡ false = stepped.power ∙ ap not (ap (λ (s : Stored Memory). s.journal.live) store ∙ b.runs.live) in
    let W : List Write → Type 0 = λ ws. node_memory n2 ≡ after_planned ws (node_memory n) in
    record {
      power = ap (λ (v : Work). v.cut) same ∙ power;
      memory = subst W (sym (writes ∙ b.writes)) (ap (λ (s : Stored Memory). s.journal.nv) store);
      runs = λ up. subst (λ v. RunsAs n2 v.core v.ports) (sym same) (stepped.runs power);
    }
