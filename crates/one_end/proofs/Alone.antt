-- A node that runs alone: its steps, the frames that it sends, and what comes of what comes to it.
use Rattle.std.proofs.Common.{inl, inr, ◌⊎◌}
use Rattle.std.specs.Prelude.{Result, min, option_map}
use Rattle.std.specs.List.{AllByRecursion}
use Rattle.std.proofs.lemmas.Grind.{flat_map-append}
use Rattle.std.proofs.lemmas.List.{length-map}
use Rattle.std.proofs.lemmas.Bool.{and_right}
use Rattle.one_end.proofs.Words.{Bool, Control, Core, EndForm, Foretells, FrameComes, HasAnswered, List, Lone, LoneCause, Memory, Node, None, Option}
use Rattle.one_end.proofs.Words.{ResetComes, Running, RunsAlone, RunsReady, Some, StartComes, StopComes, TickComes, WereMade, [], after_planned, ap, append-nil}
use Rattle.one_end.proofs.Words.{append_assoc, arith, asks_reset, cond, does_alone, does_by_power, drop, false, flat_map, frames_written, is_none, is_some}
use Rattle.one_end.proofs.Words.{length, map, new_link_end, not, refl, reset_refusal, role_alone, subst, suc, sym, take, true, true≢false, zero, ℕ, ◌&&◌, ◌*◌}
use Rattle.one_end.proofs.Words.{◌++◌, ◌+◌, ◌-◌, ◌==◌, ◌∙◌, ◌∷◌, ◌≡◌, ◌≤◌}
use Rattle.swp_base.specs.declared.control_frames.Control.TheVariants.{Act as ActFrame}
use Rattle.swp_base.specs.declared.link_terms.FrameFault.{FrameFault}
use Rattle.swp_lpdu.specs.Controls.{lpdu_of, control_of}
use Rattle.swp_lpdu.specs.declared.LpduFault.{LpduFault}
use Rattle.trace_model.specs.declared.entry.Entry.{Entry}
use Rattle.trace_model.specs.declared.entry.Entry.TheVariants as entry
use Rattle.trace_model.specs.declared.line.End.{End}
use Rattle.lone_laws.specs.alone.Ends.{entry_written, frame_written}
use Rattle.lone_laws.proofs.alone.Walks.{IsUnwritten, steps_unwritten}
use Rattle.lone_laws.specs.alone.Lone.{emits_behind, frames_behind, lone_arrival, lone_behind_step, lone_end, lone_input, lone_port, lone_work, node_input}
use Rattle.lone_laws.specs.alone.Lone.{session_with, side_behind, with_refusal}
use Rattle.lone_laws.specs.alone.Lone.LoneCause.{FrameIsRefused}
use Rattle.lone_laws.proofs.answered.Knowing.{step_is}
use Rattle.one_end.specs.Alone.{TakesAlone}
use Rattle.one_end.proofs.Running.{over, StepsAlone, stepped_ready}
use Rattle.link_laws.specs.machine.Machine.{ActDue, LinkEnd, LinkInput, among, frame_fetched, frames_out, next_frame, sent_all}
use Rattle.link_laws.specs.machine.Machine.{nearer, report, lpdu_input}
use Rattle.link_laws.specs.machine.Laws.{fetches, after_fetches, most_fetches}
use Rattle.link_laws.specs.machine.Machine.LinkInput.{Tick, Reset, Start, Stop}
use Rattle.node_machine.specs.Parts.{Desk, Port, Work}
use Rattle.node_machine.specs.Node.{NodeInput, steps, with_error}
use Rattle.node_machine.specs.world.World.{runs_on}
use Rattle.node_machine.specs.Carrying.{port_at, with_port, changed_if}
use Rattle.node_machine.specs.Node.NodeInput.{AtEnd, TimePasses}
use Rattle.node_core.specs.Bringing.{Brings, plan_left}
use Rattle.node_core.specs.Running.{SendsOneByOne, RunsAs, BeginsStep, HasStepped, IsAllSent, between, ran_so, one_more_error}
use Rattle.node_core.specs.declared.inputs.NodeInput.{NodeInput as ToNode}
use Rattle.node_core.specs.declared.inputs.NodeInput.TheVariants.{At, Tick as ToTick}
use Rattle.node_core.specs.Inputs.{input_of_node, makes_active, MayComeToNode, refusal_by}
use Rattle.node_core.proofs.Between.{all_one_by_one, kept_alike}
use Rattle.shdlc_core.specs.Machine.{all_frames}
use Rattle.link_end.specs.Reports.{reset_refused}
use Rattle.node_ends.specs.Ends.{has_sent, frame_at, MayStartAt}
use Rattle.node_ends.specs.Inputs.{frame_said, reset_refusal_at}
use Rattle.node_ends.specs.declared.inputs.LinkInput.TheVariants as comes
use Rattle.node_laws.specs.kept.Books.{hosts_of_ends}
use Rattle.node_laws.proofs.telling.Steps.{Keeps, steps_keep, tick_keeps}

pub none_written : (form : EndForm) (number : ℕ) (es : List Entry) → AllByRecursion IsUnwritten es → flat_map (entry_written form number) es ≡ []
none_written form number [] all = refl
none_written form number (x ∷ es) all = ap (λ z. z ++ flat_map (entry_written form number) es) (all.0 form number) ∙ none_written form number es all.1

pub emits_written : (form : EndForm) (number : ℕ) (e : End) (frames : List Control)
    → flat_map (entry_written form number) (map (λ c. entry.Emit e (lpdu_of c)) frames) ≡ frames_written form number frames
emits_written form number e [] = refl
emits_written form number e (c ∷ frames) = ap (λ z. entry_written form number (entry.Emit e (lpdu_of c)) ++ z) (emits_written form number e frames)

-- ---- a step of a node that its memory goes along with is a step of it alone

arrival_unwritten : (l : Lone) (c : LoneCause) → AllByRecursion IsUnwritten (lone_arrival l c)
arrival_unwritten l c = grind arith

-- what is written for a step
step_written : (form : EndForm) (l : Lone) (es : List Entry) (w : Work) → AllByRecursion IsUnwritten es
    → flat_map (entry_written form l.number) (es ++ emits_behind l w) ≡ frames_written form l.number (frames_behind l w)
step_written form l es w none =
    flat_map-append (entry_written form l.number) es (emits_behind l w)
    ∙ (ap (λ z. z ++ flat_map (entry_written form l.number) (emits_behind l w)) (none_written form l.number es none)
    ∙ emits_written form l.number (lone_end l) (frames_behind l w))

pub does_step : (form : EndForm) (l : Lone) (n : Running) (c : LoneCause) (i : LinkInput) → l.node ≡ Some n → lone_input c ≡ Some i
    → (let w : Work = steps (node_input l.link i) (lone_work l n i (lone_arrival l c)) in
    does_alone form l c ≡ (lone_behind_step l i w, frames_written form l.number (frames_behind l w)))
does_step form l n c i runs comes =
    let w : Work = steps (node_input l.link i) (lone_work l n i (lone_arrival l c)) in
    ap (λ (x : Lone × List Entry). (x.0, flat_map (entry_written form l.number) x.1)) (step_is l n c i runs comes)
    ∙ ap (λ bytes. (lone_behind_step l i w, bytes))
    (step_written form l w.entries w (steps_unwritten (node_input l.link i) (lone_work l n i (lone_arrival l c)) (arrival_unwritten l c)))

-- no frame goes out of a new end
new_silent : (number : ℕ) → frames_out (new_link_end (role_alone number)) ≡ []
new_silent number = grind arith

pub gone_silent : (l : Lone) (w : Work) → w.cut ≡ true → frames_behind l w ≡ []
gone_silent l w cut = rw cut (new_silent l.number)

module _ {N : Type 0} (writes : N → ℕ → List ℕ → Bool → N → Type 0) where
  pub steps_so : {old new : N} {S : Work → Type 0} (node : Node N) (l : Lone) (n : Running) (c : LoneCause) (i : LinkInput)
      (x : NodeInput) → l.node ≡ Some n → lone_input c ≡ Some i → x ≡ node_input l.link i
      → (b : Brings writes old new S (steps x) (lone_work l n i (lone_arrival l c))) → length (frames_behind l b.after) ≤ 17
      → (stopped : Bool) → b.after.cut ≡ stopped → (stopped ≡ false → RunsAlone node (lone_behind_step l i b.after) (frames_behind l b.after))
      → (asks_reset l c ≡ true → stopped ≡ false → reset_refusal (lone_behind_step l i b.after).side ≡ None)
      → StepsAlone writes old new node stopped c l
  steps_so {old} {new} node l n c i x is_on comes x_is b few stopped cut later ready = record {
    after = lone_behind_step l i b.after;
    frames = frames_behind l b.after;
    few = few;
    stopped_is = sym cut ∙ runs_none b.after;
    runs = later;
    none = λ gone. gone_silent l b.after (cut ∙ gone);
    ready = ready;
    sure = b.sure;
    torn = b.torn;
    made = let P : Bool → Type 0 = λ t. WereMade writes b.sure b.torn old t new in subst P cut b.made;
    is = λ form m foretold.
        let k : Lone = over l m in
        let v : Work = record b.after { plan = plan_left b.after.cut b.sure m.plan } in
        let q : steps (node_input l.link i) (lone_work k n i (lone_arrival l c)) ≡ v =
        ap (λ y. steps y (lone_work k n i (lone_arrival l c))) (sym x_is)
        ∙ b.is m.plan (let P : Bool → Type 0 = λ t. Foretells m.plan b.sure b.torn t in subst P (sym cut) foretold) in
        does_step form k n c i is_on comes
        ∙ (ap (λ w. (lone_behind_step k i w, frames_written form l.number (frames_behind k w))) q
        ∙ ap (λ ws. (record (lone_behind_step l i b.after) { memory = after_planned ws m }, frames_written form l.number (frames_behind l b.after))) b.written);
  } where
    runs_none : (w : Work) → w.cut ≡ is_none (runs_on w)
    runs_none w = grind arith

-- ---- the frames of an end go out one by one

few_fetched : (n : ℕ) (e : LinkEnd) → length (fetches n e) ≤ n
few_fetched zero e = omega arith
few_fetched (suc n) e = go (few_fetched n (frame_fetched e)) (next_frame e) refl where
  go : length (fetches n (frame_fetched e)) ≤ n → (o : Option Control) → next_frame e ≡ o → length (fetches (suc n) e) ≤ suc n
  go later o q = grind arith

-- at most seventeen go out
pub few_out : (e : LinkEnd) → SendsOneByOne e → length (frames_out e) ≤ 17
few_out e s =
    let few = few_fetched (most_fetches e) e in
    let acts = s.few in
    subst (λ (fs : List Control). length fs ≤ 17) s.frames (omega (arith, few, acts))

-- ## None is due

never_empty : (xs : List Control) (c : Control) (ys : List Control) → xs ++ c ∷ ys ≡ [] → ⊥
never_empty [] c ys q = cc
never_empty (x ∷ xs) c ys q = cc

no_acts_out : (e : LinkEnd) → frames_out e ≡ [] → e.acts ≡ []
no_acts_out e q = go e.acts refl where
  go : (acts : List ActDue) → e.acts ≡ acts → e.acts ≡ []
  go [] w = w
  go (a ∷ acts) w =
      let fs : List Control = all_frames e.shdlc in
      absurd (never_empty (take (a.behind - 0) fs) (ActFrame a.frame false) (among a.behind acts (drop (a.behind - 0) fs))
      (sym (ap (λ z. among 0 z fs) w) ∙ q))

next_none : (n : ℕ) (e : LinkEnd) → 1 ≤ n → fetches n e ≡ [] → next_frame e ≡ None
next_none n e some q = grind arith

-- an end from which no frame can be fetched stays as it is
idle_end : (e : LinkEnd) → e.acts ≡ [] → next_frame e ≡ None → frame_fetched e ≡ e
idle_end e acts none = grind arith

idle_stays : (n : ℕ) (e : LinkEnd) → frame_fetched e ≡ e → after_fetches n e ≡ e
idle_stays zero e same = refl
idle_stays (suc n) e same = ap (after_fetches n) same ∙ idle_stays n e same

pub none_goes : (e : LinkEnd) → SendsOneByOne e → frames_out e ≡ [] → (next_frame e ≡ None) × (frame_fetched e ≡ e) × (sent_all e ≡ e)
none_goes e s q =
    let none : next_frame e ≡ None = next_none (most_fetches e) e (omega arith) (s.frames ∙ q) in
    let same : frame_fetched e ≡ e = idle_end e (no_acts_out e q) none in (none, same, sym s.rest ∙ idle_stays (most_fetches e) e same)

-- ## One goes

next_some : (n : ℕ) (e : LinkEnd) (c : Control) (fs : List Control) → fetches n e ≡ c ∷ fs
    → (next_frame e ≡ Some c) × (fetches (n - 1) (frame_fetched e) ≡ fs)
next_some n e c fs q = grind arith

-- where none is due behind n fetches one more changes nothing
idle_behind : (n : ℕ) (x : LinkEnd) → next_frame (after_fetches n x) ≡ None → frame_fetched (after_fetches n x) ≡ after_fetches n x
    → (fetches (suc n) x ≡ fetches n x) × (after_fetches (suc n) x ≡ after_fetches n x)
idle_behind zero x none same = (rw none refl, same)
idle_behind (suc n) x none same = go (idle_behind n (frame_fetched x) none same) (next_frame x) refl where
  Later : Type 0
  Later = (fetches (suc n) (frame_fetched x) ≡ fetches n (frame_fetched x)) × (after_fetches (suc n) (frame_fetched x) ≡ after_fetches n (frame_fetched x))

  go : Later → (o : Option Control) → next_frame x ≡ o
      → (fetches (suc (suc n)) x ≡ fetches (suc n) x) × (after_fetches (suc (suc n)) x ≡ after_fetches (suc n) x)
  go later o r = grind arith

fetched_acts : (e : LinkEnd) → (length (frame_fetched e).acts + 1 ≡ length e.acts) ⊎ (length (frame_fetched e).acts ≡ length e.acts)
fetched_acts e = go e.acts refl where
  go : (acts : List ActDue) → e.acts ≡ acts → (length (frame_fetched e).acts + 1 ≡ length e.acts) ⊎ (length (frame_fetched e).acts ≡ length e.acts)
  go [] w = inr (rw w refl)
  go (a ∷ acts) w = by (a.behind == 0) refl where
    by : (b : Bool) → (a.behind == 0) ≡ b → (length (frame_fetched e).acts + 1 ≡ length e.acts) ⊎ (length (frame_fetched e).acts ≡ length e.acts)
    by true z = inl (rw (w, z) (omega arith))
    by false z = let same = length-map (a ∷ acts) nearer in inr (rw (w, z) same)

-- The first frame that is due goes, and the others are due then.
pub one_goes : (e : LinkEnd) (c : Control) (fs : List Control) → SendsOneByOne e → SendsOneByOne (frame_fetched e) → frames_out e ≡ c ∷ fs
    → (next_frame e ≡ Some c) × (frames_out (frame_fetched e) ≡ fs) × (sent_all (frame_fetched e) ≡ sent_all e)
one_goes e c fs s t q = by (fetched_acts e) where
  n : ℕ
  n = most_fetches e

  f : LinkEnd
  f = frame_fetched e

  first : (next_frame e ≡ Some c) × (fetches (n - 1) f ≡ fs)
  first = next_some n e c fs (s.frames ∙ q)

  last : after_fetches (n - 1) f ≡ sent_all e
  last = let k : n ≡ suc (n - 1) = omega arith in subst (λ m. after_fetches m e ≡ sent_all e) k s.rest

  more : (fetches (suc (n - 1)) f ≡ fetches (n - 1) f) × (after_fetches (suc (n - 1)) f ≡ after_fetches (n - 1) f)
  more = idle_behind (n - 1) f (ap next_frame last ∙ s.none) (ap frame_fetched last ∙ (idle_end (sent_all e) refl s.none ∙ sym last))

  Gone : Type 0
  Gone = (next_frame e ≡ Some c) × (frames_out f ≡ fs) × (sent_all f ≡ sent_all e)

  by : (length f.acts + 1 ≡ length e.acts) ⊎ (length f.acts ≡ length e.acts) → Gone
  by (inl r) =
      let k : most_fetches f ≡ n - 1 = omega (arith, r) in
      (first.0, sym t.frames ∙ (ap (λ m. fetches m f) k ∙ first.1), sym t.rest ∙ (ap (λ m. after_fetches m f) k ∙ last))
  by (inr r) =
      let k : most_fetches f ≡ suc (n - 1) = omega (arith, r) in (
        first.0,
        sym t.frames ∙ (ap (λ m. fetches m f) k ∙ (more.0 ∙ first.1)),
        sym t.rest ∙ (ap (λ m. after_fetches m f) k ∙ (more.1 ∙ last)),
      )

-- ---- frames that go out one after another

-- the first of these frames was fetched, where there is one: the others are to go out in this state
abbrev pub HasSentFirst : (Lone → List Control → Type 0) → Lone → Option (List ℕ) → List Control → Type 0
HasSentFirst Runs l sent [] = (sent ≡ None) × Runs l []
HasSentFirst Runs l sent (c ∷ frames) = (sent ≡ Some (lpdu_of c)) × Runs l frames

-- of these frames some went out and were written, and others are left, at most so many
pub record HasSent (Runs : Lone → List Control → Type 0) (form : EndForm) (number i : ℕ) (before now : List ℕ) (l : Lone) (frames : List Control)
    : Type 0 where
  pub sent : List Control
  pub left : List Control
  pub parts : frames ≡ sent ++ left
  pub runs : Runs l left
  pub written : now ≡ before ++ frames_written form number sent
  pub few : length left + i ≤ 17

pub record Sends (First Runs : Lone → List Control → Type 0) (form : EndForm) (number i : ℕ) (before now : List ℕ) : Type 0 where
  pub some : (l : Lone) × (frames : List Control) × Runs l frames
  pub all : (l : Lone) (frames : List Control) → First l frames → length frames ≤ 17 → HasSent Runs form number i before now l frames
  pub sized : length now ≤ length before + i * 323

written_more : (form : EndForm) (number : ℕ) (xs ys : List Control)
    → frames_written form number (xs ++ ys) ≡ frames_written form number xs ++ frames_written form number ys
written_more form number [] ys = refl
written_more form number (x ∷ xs) ys =
    let first : List ℕ = frame_written form number (lpdu_of x) in
    ap (λ z. first ++ z) (written_more form number xs ys) ∙ sym (append_assoc first (frames_written form number xs) (frames_written form number ys))

-- none is left
pub all_sent : {Runs : Lone → List Control → Type 0} {form : EndForm} {number i : ℕ} {before now : List ℕ} {l : Lone} {frames : List Control}
    → HasSent Runs form number i before now l frames → (Later : Lone → List Control → Type 0)
    → ((left : List Control) → Runs l left → HasSentFirst Later l None left) → Later l [] × (now ≡ before ++ frames_written form number frames)
all_sent {Runs} {form} {number} {i} {before} {now} {l} {frames} h Later last = go h.left h.parts (last h.left h.runs) where
  go : (left : List Control) → frames ≡ h.sent ++ left → HasSentFirst Later l None left → Later l [] × (now ≡ before ++ frames_written form number frames)
  go [] parts s = (s.1, h.written ∙ ap (λ z. before ++ frames_written form number z) (sym (parts ∙ append-nil h.sent)))
  go (c ∷ left) parts s = absurd (let none : None ≡ Some (lpdu_of c) = s.0 in cc none)

-- none is left, since so many went out
pub sent_most : {Runs : Lone → List Control → Type 0} {form : EndForm} {number : ℕ} {before now : List ℕ} {l : Lone} {frames : List Control}
    → HasSent Runs form number 17 before now l frames → Runs l [] × (now ≡ before ++ frames_written form number frames)
sent_most {Runs} {form} {number} {before} {now} {l} {frames} h = go h.left h.parts h.runs h.few where
  go : (left : List Control) → frames ≡ h.sent ++ left → Runs l left → length left + 17 ≤ 17 → Runs l [] × (now ≡ before ++ frames_written form number frames)
  go [] parts r few = (r, h.written ∙ ap (λ z. before ++ frames_written form number z) (sym (parts ∙ append-nil h.sent)))
  go (c ∷ left) parts r few = absurd (omega (arith, few))

-- one more goes out
pub one_sent : {Runs : Lone → List Control → Type 0} {form : EndForm} {number i : ℕ} {before now next lpdu : List ℕ} {l : Lone} {frames : List Control}
    → HasSent Runs form number i before now l frames → (Later : Lone → List Control → Type 0)
    → ((left : List Control) → Runs l left → HasSentFirst Later l (Some lpdu) left)
    → next ≡ now ++ frame_written form number lpdu → HasSent Later form number (i + 1) before next l frames
one_sent {Runs} {form} {number} {i} {before} {now} {next} {lpdu} {l} {frames} h Later first more = go h.left h.parts h.few (first h.left h.runs) where
  go : (left : List Control) → frames ≡ h.sent ++ left → length left + i ≤ 17 → HasSentFirst Later l (Some lpdu) left
      → HasSent Later form number (i + 1) before next l frames
  go [] parts few s = absurd (let none : Some lpdu ≡ None = s.0 in cc none)
  go (c ∷ left) parts few s =
      let same : lpdu ≡ lpdu_of c = (let e : Some lpdu ≡ Some (lpdu_of c) = s.0 in cc e) in
      let one : frames_written form number (c ∷ []) ≡ frame_written form number lpdu =
      append-nil (frame_written form number (lpdu_of c)) ∙ ap (frame_written form number) (sym same) in
      record {
        sent = h.sent ++ c ∷ [];
        left = left;
        parts = parts ∙ sym (append_assoc h.sent (c ∷ []) left);
        runs = s.1;
        written =
            more ∙ ap (λ z. z ++ frame_written form number lpdu) h.written
            ∙ append_assoc before (frames_written form number h.sent) (frame_written form number lpdu)
            ∙ ap (λ z. before ++ z) (ap (λ z. frames_written form number h.sent ++ z) (sym one) ∙ sym (written_more form number h.sent (c ∷ [])));
        few = omega (arith, few);
      }

-- frames are left
pub left_then : (Runs : Lone → List Control → Type 0) (l : Lone) (o : Option (List ℕ)) (frames : List Control) → HasSentFirst Runs l o frames
    → (k : Lone) × (left : List Control) × Runs k left
left_then Runs l o frames s = grind arith

-- ---- the steps of a node that runs alone

-- its one end is found
pub found_there : (p : Port) → p.desk.host ≡ 2 → port_at (p ∷ []) 2 ≡ Some p
found_there p q = ap (λ n. cond (n == 2) (Some p) None) q

-- the node that runs in it
abbrev pub running : {N : Type 0} {n : Node N} {l : Lone} {frames : List Control} → RunsAlone n l frames → Running
running a = record { core = a.core; desks = a.port.desk ∷ [] }

-- the number of a node is what it was as long as its state is that of the same core
same_number : {N : Type 0} {n new : Node N} {core : Core} {ports others : List Port} (l : Lone) → l.number ≡ n.number → RunsAs n core ports
    → RunsAs new core others → l.number ≡ new.number
same_number l is was now = is ∙ (sym was.node ∙ now.node)

-- ## Its end has sent all

module _ {N : Type 0} {n : Node N} {l : Lone} (a : RunsAlone n l []) where
  pub is_idle : (next_frame a.port.side ≡ None) × (frame_fetched a.port.side ≡ a.port.side) × (sent_all a.port.side ≡ a.port.side)
  is_idle = none_goes a.port.side (all_one_by_one a.runs).0 a.due

  pub same_side : l.side ≡ a.port.side
  same_side = a.side_is ∙ is_idle.2

  pub begins_step : (i : LinkInput) (es : List Entry) → BeginsStep n [] true [] (lone_work l (running a) i es)
  begins_step i es = record {
    runs = kept_alike (a.port ∷ []) (lone_port l.side (session_with l i) a.port.desk ∷ [])
        (ap (λ e. between (record a.port { side = e }) ∷ []) (sym same_side)) a.runs;
    sent = (ap next_frame same_side ∙ is_idle.0, tt);
    none_ended = ((refl, refl), tt);
    power = refl;
    noted_are = λ q. absurd (true≢false q);
  }

  pub not_refused : reset_refusal l.side ≡ None → reset_refusal_at (port_at (a.port ∷ []) 2) ≡ None
  not_refused q =
      ap reset_refusal_at (found_there a.port a.host)
      ∙ ap (λ e. option_map reset_refused (reset_refusal e)) (sym same_side) ∙ ap (option_map reset_refused) q

  pub may_start : MayStartAt 1 (port_at (a.port ∷ []) 2)
  may_start = grind arith

  pub may_step : (input : ToNode) → MayComeToNode input (a.port ∷ [])
      → (core : Core) × (ports : List Port) × RunsAs n core ports × IsAllSent ports × MayComeToNode input ports
  may_step input may = (a.core, a.port ∷ [], a.runs, (is_idle.0, tt), may)

-- ## Its frames go out

pub sends_first : {N : Type 0} {n new : Node N} (l : Lone) (frames : List Control) (a : RunsAlone n l frames)
    (sent : Option (List ℕ)) → sent ≡ frame_at (port_at (a.port ∷ []) 2) → RunsAs new a.core (with_port 2 has_sent (a.port ∷ []))
    → HasSentFirst (RunsAlone new) l sent frames
sends_first {N} {n} {new} l frames a sent is runs = go frames a.due where
  p : Port
  p = a.port

  e : LinkEnd
  e = p.side

  q : Port
  q = has_sent p

  next : sent ≡ option_map lpdu_of (next_frame e)
  next = is ∙ ap frame_at (found_there p a.host)

  there : with_port 2 has_sent (p ∷ []) ≡ q ∷ []
  there = ap (λ k. changed_if (k == 2) has_sent p ∷ []) a.host

  later : RunsAs new a.core (q ∷ [])
  later = subst (λ ps. RunsAs new a.core ps) there runs

  behind : (fs : List Control) → frames_out q.side ≡ fs → sent_all q.side ≡ sent_all e → RunsAlone new l fs
  behind fs due all = record {
    core = a.core;
    port = q;
    runs = later;
    host = a.host;
    node_is = a.node_is;
    number_is = same_number l a.number_is a.runs later;
    link_is = a.link_is;
    side_is = a.side_is ∙ sym all;
    due = due;
  }

  go : (fs : List Control) → frames_out e ≡ fs → HasSentFirst (RunsAlone new) l sent fs
  go [] due =
      let idle = none_goes e (all_one_by_one a.runs).0 due in
      let none : sent ≡ None = next ∙ ap (option_map lpdu_of) idle.0 in
      (none, behind [] (ap frames_out idle.1 ∙ due) (ap sent_all idle.1))
  go (c ∷ fs) due =
      let one = one_goes e c fs (all_one_by_one a.runs).0 (all_one_by_one later).0 due in
      (next ∙ ap (option_map lpdu_of) one.0, behind fs one.1 one.2)

-- ## A frame that is refused

-- no reset is asked for then
refused_asks_none : (l : Lone) (fault : FrameFault) → asks_reset l (FrameIsRefused fault) ≡ false
refused_asks_none l fault = and_right (l.number == 0 && is_some l.node) false refl

counts_refused : {N : Type 0} {n new : Node N} (writes : N → ℕ → List ℕ → Bool → N → Type 0)
    (old_nv new_nv : N) (l : Lone) (fault : FrameFault) (a : RunsAlone n l []) → RunsAs new a.core (with_port 2 one_more_error (a.port ∷ []))
    → new_nv ≡ old_nv → StepsAlone writes old_nv new_nv new false (FrameIsRefused fault) l
counts_refused {N} {n} {new} writes old_nv new_nv l fault a runs same = record {
  after = record l { node = Some (with_refusal l.link (running a)) };
  frames = [];
  few = omega arith;
  stopped_is = refl;
  runs = λ live. record {
    core = a.core;
    port = p;
    runs = subst (λ ps. RunsAs new a.core ps) there runs;
    host = a.host;
    node_is = ap (λ ds. Some (record { core = a.core; desks = ds })) desks;
    number_is = same_number l a.number_is a.runs runs;
    link_is = a.link_is;
    side_is = a.side_is;
    due = a.due;
  };
  none = λ q. refl;
  ready = λ asks live. absurd (true≢false (sym asks ∙ refused_asks_none l fault));
  sure = [];
  torn = [];
  made = (refl, (refl, same));
  is = λ form m foretold. ap (λ o. does_so form m o) a.node_is;
} where
  p : Port
  p = one_more_error a.port

  there : with_port 2 one_more_error (a.port ∷ []) ≡ p ∷ []
  there = ap (λ k. changed_if (k == 2) one_more_error a.port ∷ []) a.host

  more : Desk → Desk
  more d = record d { errors = min 65535 (d.errors + 1) }

  desks : with_error l.link (a.port.desk ∷ []) ≡ p.desk ∷ []
  desks = grind arith

  does_so : EndForm → Memory → Option Running → Lone × List ℕ
  does_so form m o =
      let x : Lone × List Entry = does_by_power (record l { memory = m }) (FrameIsRefused fault) o in
      (x.0, flat_map (entry_written form l.number) x.1)

-- nothing is written for it
pub answers_refused : {N : Type 0} {n new : Node N} (writes : N → ℕ → List ℕ → Bool → N → Type 0) (form : EndForm) {old_nv new_nv : N} (l : Lone)
    (fault : FrameFault) (before : List ℕ) (a : RunsAlone n l []) → RunsAs new a.core (with_port 2 one_more_error (a.port ∷ [])) → new_nv ≡ old_nv
    → HasAnswered writes old_nv new_nv (RunsReady new false false) (λ m. does_alone form (over l m) (FrameIsRefused fault)) before before
unfolding counts_refused
answers_refused {n = n} {new} writes form {old_nv} {new_nv} l fault before a runs same =
    let s = counts_refused writes old_nv new_nv l fault a runs same in
    stepped_ready writes form new new (FrameIsRefused fault) l s (sym (append-nil before)) s.runs (sym (refused_asks_none l fault))

-- ## Its one end behind a step

-- a node in a step whose one end is of the link with host 02
record HasOne (w : Work) : Type 0 where
  port : Port
  ports_are : w.ports ≡ port ∷ []
  host : port.desk.host ≡ 2

one_behind : (p : Port) (x : NodeInput) (w : Work) → w.ports ≡ p ∷ [] → p.desk.host ≡ 2 → HasOne (steps x w)
one_behind p x w ports host = go v.ports refl (keeps x).ends where
  v : Work
  v = steps x w

  first : Keeps w.core.node (2 ∷ []) w
  first = record { number = refl; ends = ap hosts_of_ends ports ∙ ap (λ h. h ∷ []) host }

  keeps : (x : NodeInput) → Keeps w.core.node (2 ∷ []) (steps x w)
  keeps (AtEnd k i) = steps_keep w.core.node (2 ∷ []) k i w first
  keeps TimePasses = tick_keeps w.core.node (2 ∷ []) w first

  go : (ports : List Port) → v.ports ≡ ports → hosts_of_ends ports ≡ 2 ∷ [] → HasOne v
  go [] q ends = absurd (cc ends)
  go (p ∷ []) q ends = record { port = p; ports_are = q; host = cc }
  go (p ∷ x ∷ ports) q ends = absurd (cc ends)

-- ## A step

side_found : (l : Lone) (w : Work) (p : Port) → w.cut ≡ false → w.ports ≡ p ∷ [] → p.desk.host ≡ 2 → l.link ≡ 2 → side_behind l w ≡ p.side
side_found l w p live ports host link = grind arith

runs_found : (w : Work) (p : Port) → w.cut ≡ false → w.ports ≡ p ∷ [] → runs_on w ≡ Some (record { core = w.core; desks = p.desk ∷ [] })
runs_found w p live ports = rw live (ap (λ ps. Some (record { core = w.core; desks = map (λ (q : Port). q.desk) ps })) ports)

-- a reset is asked for only by what makes the end active
became_by : (l : Lone) (c : LoneCause) (i : LinkInput) → lone_input c ≡ Some i → asks_reset l c ≡ true → (report l.side i).became_active ≡ true
became_by l c i comes asks = grind arith

-- an end becomes active by this as a step says
made_active : (i : LinkInput) (p : Port) → p.desk.host ≡ 2 → makes_active (node_input 2 i) (p ∷ []) ≡ (report p.side i).became_active
made_active i p host = grind arith

-- The end that becomes active in a step takes a reset behind it.
abbrev pub IsReadyBehind : {N : Type 0} → Node N → Type 0
IsReadyBehind n =
    (w : Work) (i : LinkInput) (p : Port) → BeginsStep n [] true [] w → port_at w.ports 2 ≡ Some p → (report p.side i).became_active ≡ true
    → (q : Port) × (port_at (steps (AtEnd 2 i) w).ports 2 ≡ Some q) × (reset_refusal (sent_all q.side) ≡ None)

ready_by : {N : Type 0} {n : Node N} → IsReadyBehind n → (i : LinkInput) (w : Work) (p : Port) → BeginsStep n [] true [] w
    → port_at w.ports 2 ≡ Some p → (report p.side i).became_active ≡ true
    → (q : Port) × (port_at (steps (node_input 2 i) w).ports 2 ≡ Some q) × (reset_refusal (sent_all q.side) ≡ None)
ready_by law i w p b at became = grind arith

pub steps_alone : {N : Type 0} (writes : N → ℕ → List ℕ → Bool → N → Type 0) {n new : Node N} {l : Lone} {c : LoneCause} {input : ToNode}
    (t : TakesAlone n l c input) {old_nv new_nv : N} (stopped : Bool) → new.number ≡ n.number → stopped ≡ not new.store.journal.live → IsReadyBehind n
    → ((w : Work) → BeginsStep n [] true [] w → Brings writes old_nv new_nv (HasStepped new [] true []) (steps (input_of_node input)) w)
    → StepsAlone writes old_nv new_nv new stopped c l
steps_alone {N} writes {n} {new} {l} {c} {input} t {old_nv} {new_nv} stopped own stops law made =
    steps_so writes new l (running a) c i (node_input 2 i) a.node_is t.comes (ap (λ k. node_input k i) (sym a.link_is)) b
    few stopped (b.stands.power ∙ sym stops) runs ready
  where
    a : RunsAlone n l []
    a = t.alone

    i : LinkInput
    i = t.what

    w : Work
    w = lone_work l (running a) i (lone_arrival l c)

    b : Brings writes old_nv new_nv (HasStepped new [] true []) (steps (node_input 2 i)) w
    b = subst (λ x. Brings writes old_nv new_nv (HasStepped new [] true []) (steps x) w) t.is (made w (begins_step a i (lone_arrival l c)))

    v : Work
    v = b.after

    -- under no plan it goes through
    same_ports : v.cut ≡ false → (steps (node_input 2 i) (record w { plan = None })).ports ≡ v.ports
    same_ports live =
        ap (λ (x : Work). x.ports) (b.is None (subst (λ t. Foretells None b.sure b.torn t) (sym live) refl))

    one : v.cut ≡ false → HasOne v
    one live =
        let h = one_behind (lone_port l.side (session_with l i) a.port.desk) (node_input 2 i) (record w { plan = None }) refl a.host in
        record { port = h.port; ports_are = sym (same_ports live) ∙ h.ports_are; host = h.host }

    side_at : (live : v.cut ≡ false) → side_behind l v ≡ (one live).port.side
    side_at live = let h = one live in side_found l v h.port live h.ports_are h.host a.link_is

    runs_there : (live : v.cut ≡ false) → RunsAs new v.core ((one live).port ∷ [])
    runs_there live = subst (λ ps. RunsAs new v.core ps) (one live).ports_are (b.stands.runs live)

    few : length (frames_behind l v) ≤ 17
    few = go v.cut refl where
      go : (t : Bool) → v.cut ≡ t → length (frames_behind l v) ≤ 17
      go true gone = subst (λ fs. length fs ≤ 17) (sym (gone_silent l v gone)) (omega arith)
      go false live =
          subst (λ e. length (frames_out e) ≤ 17) (sym (side_at live)) (few_out (one live).port.side (all_one_by_one (runs_there live)).0)

    runs : stopped ≡ false → RunsAlone new (lone_behind_step l i v) (frames_behind l v)
    runs on =
        let live : v.cut ≡ false = b.stands.power ∙ (sym stops ∙ on) in
        let h = one live in
        record {
          core = v.core;
          port = h.port;
          runs = runs_there live;
          host = h.host;
          node_is = runs_found v h.port live h.ports_are;
          number_is = a.number_is ∙ sym own;
          link_is = a.link_is;
          side_is = ap sent_all (side_at live);
          due = ap frames_out (sym (side_at live));
        }

    ready : asks_reset l c ≡ true → stopped ≡ false → reset_refusal (lone_behind_step l i v).side ≡ None
    ready asks on =
        let live : v.cut ≡ false = b.stands.power ∙ (sym stops ∙ on) in
        let x : Work = record w { plan = None } in
        let p : Port = lone_port l.side (session_with l i) a.port.desk in
        let begun = begins_step a i (lone_arrival l c) in
        let unplanned : BeginsStep n [] true [] x = grind arith in
        let r = ready_by law i x p unplanned (found_there p a.host) (became_by l c i t.comes asks) in
        let found : port_at (steps (node_input 2 i) x).ports 2 ≡ Some (one live).port =
        ap (λ ps. port_at ps 2) (same_ports live ∙ (one live).ports_are) ∙ found_there (one live).port (one live).host in
        let same : r.0 ≡ (one live).port = (let q : Some r.0 ≡ Some (one live).port = sym r.1 ∙ found in cc) in
        ap (λ e. reset_refusal (sent_all e)) (side_at live ∙ ap (λ (q : Port). q.side) (sym same)) ∙ r.2

-- it asks for a reset as its step says
pub asks_so : {N : Type 0} {n : Node N} {l : Lone} {c : LoneCause} {input : ToNode} {active : Bool} (t : TakesAlone n l c input)
    → ((w : Work) → BeginsStep n [] true [] w → active ≡ makes_active (input_of_node input) w.ports) → (n.number == 0 && active) ≡ asks_reset l c
asks_so {n = n} {l} {c} {input} {active} t told = ap (λ b. n.number == 0 && b) is ∙ sym says where
  a : RunsAlone n l []
  a = t.alone

  f : LinkInput → Bool
  f i = (report l.side i).became_active

  p : Port
  p = lone_port l.side (session_with l t.what) a.port.desk

  is : active ≡ f t.what
  is =
      told (lone_work l (running a) t.what (lone_arrival l c)) (begins_step a t.what (lone_arrival l c))
      ∙ (ap (λ x. makes_active x (p ∷ [])) t.is ∙ made_active t.what p a.host)

  with_power : (b : Bool) → ((b && true) && f t.what) ≡ (b && f t.what)
  with_power b = grind arith

  says : asks_reset l c ≡ (n.number == 0 && f t.what)
  says = grind arith

-- ## What comes as a frame

pub frame_at_end : {x : Result Control LpduFault} (bytes : List ℕ) → x ≡ control_of bytes → AtEnd 2 (frame_said x) ≡ node_input 2 (lpdu_input bytes)
frame_at_end bytes is = grind arith

-- ## What comes makes a step

module _ {N : Type 0} {n : Node N} {l : Lone} (a : RunsAlone n l []) where
  pub frame_taken : {input : ToNode} (lpdu : List ℕ) → input_of_node input ≡ node_input 2 (lpdu_input lpdu) → MayComeToNode input (a.port ∷ [])
      → refusal_by input (a.port ∷ []) ≡ None → TakesAlone n l (FrameComes lpdu) input
  frame_taken lpdu is may free = record { alone = a; what = lpdu_input lpdu; comes = refl; is = is; may = may; free = free }

  pub tick_taken : TakesAlone n l TickComes ToTick
  tick_taken = record { alone = a; what = Tick; comes = refl; is = refl; may = tt; free = refl }

  pub start_taken : TakesAlone n l (StartComes 1) (At 2 (comes.Start 1))
  start_taken = record { alone = a; what = Start 1; comes = refl; is = refl; may = may_start a; free = refl }

  pub stop_taken : TakesAlone n l StopComes (At 2 comes.Stop)
  stop_taken = record { alone = a; what = Stop; comes = refl; is = refl; may = tt; free = refl }

  -- a reset that isn't refused
  pub reset_taken : reset_refusal l.side ≡ None → TakesAlone n l (ResetComes None) (At 2 (comes.Reset None))
  reset_taken free = record { alone = a; what = Reset None; comes = refl; is = refl; may = tt; free = not_refused a free }

-- how a step ran says whether the node has its power
pub ran_alike : (live done : Bool) → ran_so live ≡ ran_so done → live ≡ done
ran_alike live done q = grind arith
