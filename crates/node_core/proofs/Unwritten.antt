-- A step behind which the link of a host isn't up commits nothing: all that waits there is dropped.
use Rattle.std.proofs.lemmas.Bool.{and_right, cond_both, lt-leb, not-false}
use Rattle.node_core.proofs.Words.{ActStart, AllByRecursion, AreMade, AtEnd, BeginsStep, Bool, Brings, Core, Deed, Drops, Entry}
use Rattle.node_core.proofs.Words.{FetchMessage, Foretells, Give, HasOwnLink, HasStepped, IfSome, IsAskedOf, IsTrue, LinkInput, List, Machine, Message, Node}
use Rattle.node_core.proofs.Words.{None, Option, Plan, Port, Release, Releases, Reset, Sends, Some, Start, Stop, ToEnd, WereMade, Work, Write, []}
use Rattle.node_core.proofs.Words.{after_input, after_turn, all_come, all_done, all_owed, ap, ap₂, arith, deeds_of, done, fails_within}
use Rattle.node_core.proofs.Words.{false, flat_map, forgets, forgotten, got_at, handles, has_come, has_turn, have_turns, inl, input_at}
use Rattle.node_core.proofs.Words.{input_of_end, inr, is_over, is_up, lack, le-leb, left_over, length, map, moved, nat_le, needs, passes, plan_after}
use Rattle.node_core.proofs.Words.{plan_behind, plan_left, port_at, refl, refusal_at, reset_refusal, reset_refusal_at, settles, steps, subst, suc, sym, synced}
use Rattle.node_core.proofs.Words.{true, true≢false, unless_cut, with_port, without_notice, ℕ, ◌++◌, ◌+◌, ◌==◌, ◌∙◌, ◌∷◌, ◌≡◌, ◌≢◌, ◌⊎◌}
use Rattle.shdlc_core.specs.Machine.{stopped}
use Rattle.node_machine.proofs.Walks.{forgotten_hold, all_owed_hold}
use Rattle.node_ends.specs.declared.inputs.LinkInput.TheVariants as asks
use Rattle.node_core.proofs.Stepping.{reset_synced, start_synced, stop_synced}
use Rattle.node_core.proofs.Joining.{goes_on, fewer_fail}
use Rattle.node_core.proofs.Elsewhere.{host_at, same_hosts}
use Rattle.node_core.proofs.Sendables.{found_all}
use Rattle.node_core.proofs.HavingTurns.{let_cut, let_writes, at_host, no_host}
use Rattle.node_core.proofs.Settling.{settled_quiet}

-- ## Links that aren't up

abbrev pub AreDown : List Port → Type 0
AreDown ports = AllByRecursion (λ (p : Port). is_up p.side.shdlc.phase ≡ false) ports

give_phase : (m : Message) (p : Port) → (after_turn (Give m) p).side.shdlc.phase ≡ p.side.shdlc.phase
give_phase m p = grind arith

down_port : (h : ℕ) (f : Port → Port) → ((p : Port) → (f p).side.shdlc.phase ≡ p.side.shdlc.phase) → (ports : List Port) → AreDown ports
    → AreDown (with_port h f ports)
down_port h f same [] down = tt
down_port h f same (p ∷ ports) down = ((let h0 = p.desk.host == h in grind arith), down_port h f same ports down.1)

down_at : (ports : List Port) (h : ℕ) (p : Port) → AreDown ports → port_at ports h ≡ Some p → is_up p.side.shdlc.phase ≡ false
down_at ports h p down at =
    let P : Option Port → Type 0 = λ o. IfSome o (λ (q : Port). is_up q.side.shdlc.phase ≡ false) in
    subst P at (found_all (λ (q : Port). is_up q.side.shdlc.phase ≡ false) ports h down)

-- ## What is done without a write

-- nothing was written, the node has its power, and its links aren't up
pub record IsUnwritten (v w : Work) : Type 0 where
  pub written : v.writes ≡ w.writes
  pub power : v.cut ≡ false
  pub core : v.core.node ≡ w.core.node
  pub down : AreDown v.ports

-- ## Turns

-- what a host decides while its link isn't up
decides_down : (core : Core) (ports : List Port) (h : ℕ) (m : Message) → core.node ≢ 0 → AreDown ports
    → (deeds_of core ports h m ≡ []) ⊎ (deeds_of core ports h m ≡ Drops m.0 ∷ [])
decides_down core ports h m some down = by (port_at ports h) refl
  where
    by : (o : Option Port) → port_at ports h ≡ o → (deeds_of core ports h m ≡ []) ⊎ (deeds_of core ports h m ≡ Drops m.0 ∷ [])
    by None at = inl (no_host core ports h m some at)
    by (Some p) at = inr (at_host core ports h m p some at ∙ (rw (down_at ports h p down at) refl))

turned : (h : ℕ) (m : Message) (w : Work) → w.cut ≡ false → AreDown w.ports → IsUnwritten (has_turn h m w) w
turned h m w live down = record {
  written = refl;
  power = live;
  core = refl;
  down = down_port h (λ p. record p { desk = record p.desk { holds = false } }) (λ p. refl) (with_port h (after_turn FetchMessage) w.ports)
      (down_port h (after_turn FetchMessage) (λ p. refl) w.ports down);
}

handled : (h : ℕ) (m : Message) (deeds : List Deed) (w : Work) → (deeds ≡ []) ⊎ (deeds ≡ Drops m.0 ∷ []) → w.cut ≡ false → AreDown w.ports
    → IsUnwritten (handles h m deeds w) w
handled h m deeds w (inl none) live down =
    let P : List Deed → Type 0 = λ ds. IsUnwritten (handles h m ds w) w in subst P (sym none) (turned h m w live down)
handled h m deeds w (inr drops) live down =
    let t = turned h m w live down in
    let Q : Work → Type 0 = λ v. IsUnwritten v w in
    subst (λ ds. IsUnwritten (handles h m ds w) w) (sym drops) (grind arith)

no_lack : (h : ℕ) (m : Message) (deeds : List Deed) (ports : List Port) → (deeds ≡ []) ⊎ (deeds ≡ Drops m.0 ∷ []) → lack ports (needs h deeds) ≡ None
no_lack h m deeds ports a = grind arith

then_done : (v u w : Work) → u.writes ≡ w.writes → v.writes ≡ u.writes → v.cut ≡ false → (v.writes ≡ w.writes) × (v.cut ≡ false)
then_done v u w first second live = (second ∙ first, live)

turns_unwritten : (h : ℕ) (ms : List Message) (w : Work) → w.core.node ≢ 0 → AreDown w.ports → w.cut ≡ false
    → ((have_turns h ms w).writes ≡ w.writes) × ((have_turns h ms w).cut ≡ false)
turns_unwritten h [] w some down live = (let_writes h w, let_cut h w ∙ live)
turns_unwritten h (m ∷ ms) w some down live =
    let deeds : List Deed = deeds_of w.core w.ports h m in
    let which = decides_down w.core w.ports h m some down in
    let u = handled h m deeds w which live down in
    let same : have_turns h (m ∷ ms) w ≡ have_turns h ms (handles h m deeds w) = step (no_lack h m deeds w.ports which) u.power in
    let later = turns_unwritten h ms (handles h m deeds w) (λ none. some (sym u.core ∙ none)) u.down u.power in
    (ap (λ (v : Work). v.writes) same ∙ (later.0 ∙ u.written), ap (λ (v : Work). v.cut) same ∙ later.1)
  where
    step : lack w.ports (needs h (deeds_of w.core w.ports h m)) ≡ None → (handles h m (deeds_of w.core w.ports h m) w).cut ≡ false
        → have_turns h (m ∷ ms) w ≡ have_turns h ms (handles h m (deeds_of w.core w.ports h m) w)
    step room power = rw (room, power) refl

passes_unwritten : (w : Work) → w.core.node ≢ 0 → map host_at w.ports ≡ w.core.node ∷ [] → AreDown w.ports → w.cut ≡ false
    → ((passes w).writes ≡ w.writes) × ((passes w).cut ≡ false)
passes_unwritten w some own down live =
    let n = w.core.node in
    let same : passes w ≡ have_turns n (got_at w.ports n) w = grind arith in
    let t = turns_unwritten n (got_at w.ports n) w some down live in
    (ap (λ (v : Work). v.writes) same ∙ t.0, ap (λ (v : Work). v.cut) same ∙ t.1)

-- ## What sessions leave

abbrev IsFree : Deed → Type 0
IsFree (Releases asker) = Unit {0}
IsFree (Sends to m) = Unit {0}
IsFree _ = ⊥

one_free : (d : Deed) (w : Work) → IsFree d → w.cut ≡ false → AreDown w.ports → IsUnwritten (done 0 d w) w
one_free (Releases asker) w free live down =
    record { written = refl; power = live; core = refl; down = down_port asker (after_turn Release) (λ p. refl) w.ports down }
one_free (Sends to m) w free live down =
    record { written = refl; power = live; core = refl; down = down_port to (after_turn (Give m)) (give_phase m) w.ports down }
one_free _ w free live down = absurd free

all_free : (deeds : List Deed) → AllByRecursion IsFree deeds → (w : Work) → w.cut ≡ false → AreDown w.ports → IsUnwritten (all_done 0 deeds w) w
all_free [] free w live down = record { written = refl; power = live; core = refl; down = down }
all_free (d ∷ deeds) free w live down =
    let u = one_free d w free.0 live down in
    let later = all_free deeds free.1 (done 0 d w) u.power u.down in
    subst (λ v. IsUnwritten v w) (sym (goes_on (all_done 0 deeds) (done 0 d w) u.power))
    (record { written = later.written ∙ u.written; power = later.power; core = later.core ∙ u.core; down = later.down })

-- ## Whole steps

mapped_down : (f : Port → Port) → ((p : Port) → (f p).side.shdlc.phase ≡ p.side.shdlc.phase) → (ports : List Port) → AreDown ports → AreDown (map f ports)
mapped_down f same [] down = tt
mapped_down f same (p ∷ ports) down = (ap is_up (same p) ∙ down.0, mapped_down f same ports down.1)

forgets_phase : (all : List Port) (p : Port) → (forgets all p).side.shdlc.phase ≡ p.side.shdlc.phase
forgets_phase all p = grind arith

without_phase : (p : Port) → (without_notice p).side.shdlc.phase ≡ p.side.shdlc.phase
without_phase p = cond_both (is_over p) _ p (λ (q : Port). q.side.shdlc.phase ≡ p.side.shdlc.phase) (λ _. refl) (λ _. refl)

left_down : (w : Work) → AreDown w.ports → AreDown (left_over w).ports
left_down w down =
    mapped_down without_notice without_phase (map (forgets w.ports) w.ports) (mapped_down (forgets w.ports) (forgets_phase w.ports) w.ports down)

settles_unwritten : (w : Work) → w.cut ≡ false → AreDown w.ports → IsUnwritten (settles [] w) w
settles_unwritten w live down =
    let owing : List Deed = all_owed (map (forgets w.ports) w.ports) in
    let freed : Work = all_done 0 (forgotten w.ports) (left_over w) in
    let a = all_free (forgotten w.ports) (forgotten_hold (λ d. IsFree d) (λ asker. tt) w.ports) (left_over w) live (left_down w down) in
    let b = all_free owing (all_owed_hold (λ d. IsFree d) (λ asker. tt) (λ to r. tt) (map (forgets w.ports) w.ports)) freed a.power a.down in
    subst (λ v. IsUnwritten v w) (sym (goes_on (all_done 0 owing) freed a.power))
    (record { written = b.written ∙ a.written; power = b.power; core = b.core ∙ (a.core ∙ (grind arith)); down = b.down })

-- the end of a host's own link isn't up behind what came
come_down : (w : Work) (i : LinkInput) → map host_at w.ports ≡ w.core.node ∷ []
    → AllByRecursion (λ (p : Port). is_up (after_input p.side i).shdlc.phase ≡ false) w.ports → AreDown (all_come (AtEnd w.core.node i) w).ports
come_down w i own goes = all w.ports own goes
  where
    one : (p : Port) (b : Bool) → (p.desk.host == w.core.node) ≡ b → b ≡ true → is_up (after_input p.side i).shdlc.phase ≡ false
        → is_up (has_come p (input_at (AtEnd w.core.node i) p)).side.shdlc.phase ≡ false
    one p b q same goes = grind arith

    all : (ports : List Port) → map host_at ports ≡ w.core.node ∷ []
        → AllByRecursion (λ (p : Port). is_up (after_input p.side i).shdlc.phase ≡ false) ports
        → AreDown (map (λ (p : Port). has_come p (input_at (AtEnd w.core.node i) p)) ports)
    all [] own goes = cc
    all (p ∷ q ∷ ports) own goes = cc
    all (p ∷ []) own goes = grind arith

come_hosts : (h : ℕ) (i : LinkInput) (ports : List Port) → map host_at (map (λ (p : Port). has_come p (input_at (AtEnd h i) p)) ports) ≡ map host_at ports
come_hosts h i [] = refl
come_hosts h i (p ∷ ports) = ap₂ (λ (n : ℕ) ns. n ∷ ns) (let h0 = input_at (AtEnd h i) p in grind arith) (come_hosts h i ports)

-- A step of a host commits nothing, where something comes to its end behind which that isn't up, and no identifier came.
pub step_unwritten : (w : Work) (i : LinkInput) → w.core.node ≢ 0 → HasOwnLink w.core.node w.ports → w.cut ≡ false
    → flat_map (synced w.core (AtEnd w.core.node i)) w.ports ≡ []
    → AllByRecursion (λ (p : Port). is_up (after_input p.side i).shdlc.phase ≡ false) w.ports
    → ((steps (AtEnd w.core.node i) w).writes ≡ w.writes) × ((steps (AtEnd w.core.node i) w).cut ≡ false)
step_unwritten w i some own live none goes =
    let came : Work = all_come (AtEnd w.core.node i) w in
    let s = settles_unwritten came live (come_down w i (own some) goes) in
    let settled : Work = settles [] came in
    let hosts : map host_at settled.ports ≡ settled.core.node ∷ [] = same_hosts settled.ports came.ports (settled_quiet [] came)
    ∙ (come_hosts w.core.node i w.ports ∙ (own some ∙ ap (λ (n : ℕ). n ∷ []) (sym s.core))) in
    let p = passes_unwritten settled (λ zero. some (sym s.core ∙ zero)) hosts s.down s.power in
    let P : List Deed → Type 0 = λ syncs. ((unless_cut passes (settles syncs came)).writes ≡ w.writes)
    × ((unless_cut passes (settles syncs came)).cut ≡ false) in
    let same = goes_on passes settled s.power in
    subst P (sym none) (ap (λ (v : Work). v.writes) same ∙ (p.0 ∙ s.written), ap (λ (v : Work). v.cut) same ∙ p.1)

-- ## Inputs behind which an end isn't up

pub reset_down : (e : Machine) (window : Option ℕ) → reset_refusal e ≡ None → is_up (after_input e (Reset window)).shdlc.phase ≡ false
reset_down e window none = grind arith

pub start_down : (e : Machine) (value : ℕ) → is_up (after_input e (Start value)).shdlc.phase ≡ false
start_down e value = let h0 = moved e true (stopped e.shdlc) in let h1 = ActStart value in grind arith

pub stop_down : (e : Machine) → is_up (after_input e Stop).shdlc.phase ≡ false
stop_down e = let h0 = moved e true (stopped e.shdlc) in grind arith

-- the same for the end of a host's own link, and for all
resets_down : (node : ℕ) (window : Option ℕ) (ports : List Port) → map host_at ports ≡ node ∷ [] → reset_refusal_at (port_at ports node) ≡ None
    → AllByRecursion (λ (p : Port). is_up (after_input p.side (Reset window)).shdlc.phase ≡ false) ports
resets_down node window [] own none = tt
resets_down node window (p ∷ q ∷ ports) own none = cc
resets_down node window (p ∷ []) own none = grind arith

starts_down : (value : ℕ) (ports : List Port) → AllByRecursion (λ (p : Port). is_up (after_input p.side (Start value)).shdlc.phase ≡ false) ports
starts_down value [] = tt
starts_down value (p ∷ ports) = (start_down p.side value, starts_down value ports)

stops_down : (ports : List Port) → AllByRecursion (λ (p : Port). is_up (after_input p.side Stop).shdlc.phase ≡ false) ports
stops_down [] = tt
stops_down (p ∷ ports) = (stop_down p.side, stops_down ports)

-- ## Nothing is brought about in the memory

nothing_more : (xs ys : List Write) → xs ≡ xs ++ ys → ys ≡ []
nothing_more [] ys same = sym same
nothing_more (x ∷ xs) ys same = nothing_more xs ys cc

front_empty : (a b : List Write) → a ++ b ≡ [] → a ≡ []
front_empty [] b none = refl
front_empty (x ∷ a) b none = cc

behind_all : (sure : List Write) → plan_behind sure (Some (record { nth = length sure + 1; fill = [] })) ≡ Some (record { nth = 1; fill = [] })
behind_all [] = refl
behind_all (x ∷ sure) =
    let one : plan_after (Some (record { nth = length (x ∷ sure) + 1; fill = [] })) ≡ Some (record { nth = length sure + 1; fill = [] }) = after (length sure)
    in ap (plan_behind sure) one ∙ behind_all sure
  where
    after : (n : ℕ) → plan_after (Some (record { nth = suc n + 1; fill = [] })) ≡ Some (record { nth = n + 1; fill = [] })
    after n = grind arith

none_before : (n : ℕ) → fails_within n (Some (record { nth = n + 1; fill = [] })) ≡ false
none_before n = and_right (nat_le 1 (n + 1)) (nat_le (n + 1) n) (lt-leb (n + 1) n (omega arith))

first_of : (n : ℕ) → fails_within (suc n) (Some (record { nth = 1; fill = [] })) ≡ true
first_of n = le-leb 1 (suc n) (omega arith)

module _ {N : Type 0} (writes : N → ℕ → List ℕ → Bool → N → Type 0) where
  -- What commits nothing under any plan leaves the memory, and is what the definition says under each.
  pub brings_nothing : {old new : N} {S : Work → Type 0} {f : Work → Work} {w : Work} (b : Brings writes old new S f w)
      → ((plan : Option Plan) → ((f (record w { plan = plan })).writes ≡ w.writes) × ((f (record w { plan = plan })).cut ≡ false))
      → ((v : Work) (plan : Option Plan) → S v → S (record v { plan = plan })) → (new ≡ old) × S (f w)
  brings_nothing {old} {new} {S} {f} {w} b nothing any = by b.after.cut refl
    where
      torn_so : (torn : List Write) → b.torn ≡ torn → b.after.cut ≡ true → ⊥
      torn_so [] is cut = grind arith
      torn_so (t ∷ torn) is cut =
          let plan : Option Plan = Some (record { nth = length b.sure + 1; fill = [] }) in
          let F : Bool → Type 0 = λ c. Foretells plan b.sure b.torn c in
          let fails : fails_within (length b.torn) (plan_behind b.sure plan) ≡ true =
          ap (fails_within (length b.torn)) (behind_all b.sure)
          ∙ (ap (λ (l : List Write). fails_within (length l) (Some (record { nth = 1; fill = [] }))) is ∙ first_of (length torn)) in
          let same = b.is plan (subst F (sym cut) (none_before (length b.sure), fails)) in
          true≢false (sym cut ∙ (ap (λ (v : Work). v.cut) (sym same) ∙ (nothing plan).1))

      by : (c : Bool) → b.after.cut ≡ c → (new ≡ old) × S (f w)
      by true cut = absurd (torn_so b.torn refl cut)
      by false live =
          let F : Option Plan → Bool → Type 0 = λ plan c. Foretells plan b.sure b.torn c in
          let still = b.is None (subst (F None) (sym live) refl) in
          let sure : b.sure ≡ [] = front_empty b.sure b.torn (nothing_more w.writes (b.sure ++ b.torn) (grind arith)) in
          let made = subst (λ t. WereMade writes b.sure b.torn old t new) live b.made in
          let none = subst (λ ws. AreMade writes ws old true new) sure made.1 in
          let foretold : fails_within (length b.sure) w.plan ≡ false = ap (λ (ws : List Write). fails_within (length ws) w.plan) sure ∙ fewer_fail 0 w.plan in
          let same = b.is w.plan (subst (F w.plan) (sym live) foretold) in
          (none.1, subst S (sym same) (any b.after (plan_left b.after.cut b.sure w.plan) b.stands))

-- A host has stepped so, left its memory, and has its power, where something came to its end behind which that isn't up.
pub stepped_still : {N : Type 0} (writes : N → ℕ → List ℕ → Bool → N → Type 0) {old new : N} {n : Node N} {noted start : List Entry} {short : Bool}
    {w : Work} (i : LinkInput) → Brings writes old new (HasStepped n noted short start) (steps (AtEnd w.core.node i)) w → w.core.node ≢ 0
    → HasOwnLink w.core.node w.ports → w.cut ≡ false → flat_map (synced w.core (AtEnd w.core.node i)) w.ports ≡ []
    → AllByRecursion (λ (p : Port). is_up (after_input p.side i).shdlc.phase ≡ false) w.ports
    → (new ≡ old) × HasStepped n noted short start (steps (AtEnd w.core.node i) w) × IsTrue n.store.journal.live
stepped_still writes {n = n} {w = w} i b some own live none goes =
    let r = brings_nothing writes b (λ plan. step_unwritten (record w { plan = plan }) i some own live none goes)
    (λ v plan s. record { power = s.power; runs = s.runs; noted_are = s.noted_are }) in
    (r.0, r.1, not-false n.store.journal.live (sym r.1.power ∙ (step_unwritten w i some own live none goes).1))

-- ## What is asked of a host

still_synced : (core : Core) (h : ℕ) (what : ToEnd) (ports : List Port) → IsAskedOf what
    → flat_map (synced core (AtEnd h (input_of_end what))) ports ≡ []
still_synced core h (asks.Frame read) ports asked = absurd asked
still_synced core h (asks.Reset window) ports asked = reset_synced core h window ports
still_synced core h (asks.Start value) ports asked = start_synced core h value ports
still_synced core h asks.Stop ports asked = stop_synced core h ports

still_down : (node : ℕ) (what : ToEnd) (ports : List Port) → IsAskedOf what → map host_at ports ≡ node ∷ [] → refusal_at what (port_at ports node) ≡ None
    → AllByRecursion (λ (p : Port). is_up (after_input p.side (input_of_end what)).shdlc.phase ≡ false) ports
still_down node (asks.Frame read) ports asked own none = absurd asked
still_down node (asks.Reset window) ports asked own none = resets_down node window ports own none
still_down node (asks.Start value) ports asked own none = starts_down value ports
still_down node asks.Stop ports asked own none = stops_down ports

-- A step of a host that was asked for something at its end leaves its memory, and the host has its power behind it.
pub host_still : {N : Type 0} (writes : N → ℕ → List ℕ → Bool → N → Type 0) {n n2 : Node N} {noted noted2 start : List Entry} {short short2 : Bool}
    {w : Work} (what : ToEnd) → IsAskedOf what → n.number ≢ 0 → refusal_at what (port_at w.ports n.number) ≡ None → BeginsStep n noted short start w
    → Brings writes n.store.journal.nv n2.store.journal.nv (HasStepped n2 noted2 short2 start) (steps (AtEnd n.number (input_of_end what))) w
    → (n2.store.journal.nv ≡ n.store.journal.nv) × HasStepped n2 noted2 short2 start (steps (AtEnd n.number (input_of_end what)) w)
    × IsTrue n2.store.journal.live
host_still writes {n} {n2} {noted2 = noted2} {start = start} {short2 = short2} {w = w} what asked some none begins whole =
    let node = begins.runs.node in
    let i : LinkInput = input_of_end what in
    let P : ℕ → Type 0 = λ k. Brings writes n.store.journal.nv n2.store.journal.nv (HasStepped n2 noted2 short2 start) (steps (AtEnd k i)) w in
    let R : ℕ → Type 0 = λ k. refusal_at what (port_at w.ports k) ≡ None in
    let nonzero : w.core.node ≢ 0 = λ zero. some (sym node ∙ zero) in
    let r = stepped_still writes i (subst P (sym node) whole) nonzero begins.runs.order.own begins.power (still_synced w.core w.core.node what w.ports asked)
    (still_down w.core.node what w.ports asked (begins.runs.order.own nonzero) (subst R (sym node) none)) in
    (r.0, subst (λ k. HasStepped n2 noted2 short2 start (steps (AtEnd k i) w)) node r.1, r.2)
