-- Whether the first message at an end of a node is held is what is read, whatever happens to a world.
use Rattle.node_laws.proofs.Words.{Activates, AllByRecursion, AllByRecursion-append, AreNoTurns, ArePassed, Arms, AsksReset, AtEnd, Bool, Boots, Broken, Comes}
use Rattle.node_laws.proofs.Words.{ComesTo, Controller, Cut, Deed, Desk, End, Entry, Gives, Happening, HasEnds, Host, IfItRuns, Inits, IsCut, IsNoTurn}
use Rattle.node_laws.proofs.Words.{IsOrderly, IsTurnSo, IsWaitingRead, Link, LinkInput, List, Loses, Loss, Memory, Message, NextFrame, NoInput, NodeInput}
use Rattle.node_laws.proofs.Words.{NodeWorld, None, Noted, NumberedEnd, Option, Plan, Port, Resets, Running, Site, Some, Starts, Takes, Ticks, TimePasses, Turn}
use Rattle.node_laws.proofs.Words.{Work, [], activates, after_controller, after_host_step, after_near_tick, after_sessions, aged, aged_entries, all_aged}
use Rattle.node_laws.proofs.Words.{all_done, ap, append-nil, append_assoc, append_cancel_left, arith, arrival, asked_at, beginning, begins_with, boot_found}
use Rattle.node_laws.proofs.Words.{boot_written, boots, by_boot, by_coming, by_controller, by_controller_tick, by_host, by_host_tick, by_loss, by_memory}
use Rattle.node_laws.proofs.Words.{by_option, by_power, by_running, by_test, comes_at, comes_to, comes_to_pass, cond, controller_cut, controller_does}
use Rattle.node_laws.proofs.Words.{controller_ticks, controller_work, count_of, counts, deeds_of, end_c, end_h, end_of, ending_entries, ending_of, entries_for}
use Rattle.node_laws.proofs.Words.{entry_of, eqb, exchanged, false, find, first_lost, flat_map, fold-append, forgets, forgotten, frame_lost, frames_noted}
use Rattle.node_laws.proofs.Words.{has_come, has_come_so, has_freed, has_synced, holds_in, host_cut, host_does, host_tick, host_ticks, host_work, hosts_in}
use Rattle.node_laws.proofs.Words.{hosts_of_ends, hosts_tick, input_at, is_forgotten, is_held, is_held_at, is_late, is_over, left_running}
use Rattle.node_laws.proofs.Words.{link_after_controller, link_to, links_of, loses_power_at, map, memory_at, near_end_in, near_tick, new_desk, not}
use Rattle.node_laws.proofs.Words.{noted_before_pass, noted_by_deed, option_map_or, owed_in_step, own_side, passes, port_at, port_for, refl, reset_late}
use Rattle.node_laws.proofs.Words.{runs_left, runs_none, runs_on, same_end, sending, site_at, site_ticked, site_unticked, steps, subst, sym, syncs_in, true}
use Rattle.node_laws.proofs.Words.{true≢false, waiting_after, waiting_at, waits_behind, wires_for, with_error, with_memory, with_node, with_older, with_site}
use Rattle.node_laws.proofs.Words.{without_notice, work_of, world_step, world_ticks, ℕ, ◌++◌, ◌∙◌, ◌∷◌, ◌≡◌}
use Rattle.link_laws.specs.entries.Entries.{End as Side}
use Rattle.node_laws.specs.passes.Passing.ComesTo.{Begins}
use Rattle.node_laws.proofs.passes.InSteps.{before_entries, before_none, deeds_note_of_notes as deeds_note, links_none, noted_none, steps_are}
use Rattle.node_laws.proofs.passes.Replying.{SeesAt, deeds_see}
use Rattle.node_laws.proofs.passes.Passing.{comes_lasts, comes_so, through}
use Rattle.node_laws.proofs.passes.Waiting.{waiting_read}
use Rattle.node_laws.proofs.readings.Noting.{IsBeside, Notes, NotesSo, all_do as notes_do, steps_note}
use Rattle.node_laws.proofs.steps.StepWalks.{come_host, forgets_host, late_host, unless, without_host}
use Rattle.node_laws.proofs.telling.Events.{node_is, sending_mute, site_is}
use Rattle.node_laws.proofs.telling.Accounts.{AreMute, all_last, all_owed_mute, all_synced_mute, deeds_mute, forgotten_mute, handling}
use Rattle.node_laws.proofs.telling.Steps.{sessions_side}
use Rattle.node_laws.proofs.turns.Passing.{map_is}
use Rattle.node_laws.proofs.views.Events.{AreFine, map_fine, orderly_fine}
use Rattle.trace_model.specs.declared.entry.Entry.TheVariants as entry

-- ## Turns and messages that are held are noted at the node's own ends

-- ### No boots

abbrev pub IsNoBoot : Entry → Type 0
IsNoBoot (entry.Booted n k) = ⊥
IsNoBoot _ = Unit {0}

abbrev pub AreNoBoots : List Entry → Type 0
AreNoBoots es = AllByRecursion IsNoBoot es

note_unbooted : (h : ℕ) (x : Noted) → AreNoBoots (entry_of h x)
note_unbooted h x = grind arith

pub notes_unbooted : (h : ℕ) (xs : List Noted) → AreNoBoots (entries_for h xs)
notes_unbooted h [] = tt
notes_unbooted h (x ∷ xs) = AllByRecursion-append IsNoBoot (entry_of h x) (entries_for h xs) (note_unbooted h x) (notes_unbooted h xs)

beside_unbooted : (n : ℕ) (x : Entry) → IsBeside n x → IsNoBoot x
beside_unbooted n x b = grind arith

mute_unbooted : (deeds : List Deed) → AreMute deeds → AllByRecursion (NotesSo IsNoBoot) deeds
mute_unbooted [] all = tt
mute_unbooted (d ∷ deeds) all = (grind arith, mute_unbooted deeds all.1)

any_ends : (ports : List Port) → AllByRecursion (λ (p : Port). Unit {0}) ports
any_ends [] = tt
any_ends (p ∷ ports) = (tt, any_ends ports)

module _ (n : ℕ) (who : Side) where
  abbrev Any : ℕ → Type 0
  Any h = Unit {0}

  from_here : (w : Work) → w.core.node ≡ n → own_side w.core ≡ who → AreNoBoots w.entries → Notes IsNoBoot n who Any w
  from_here w number side none = record { number = number; side = side; ends = any_ends w.ports; so = none }

  pub steps_unbooted : (input : NodeInput) (w : Work) → w.core.node ≡ n → own_side w.core ≡ who → AreNoBoots w.entries → AreNoBoots (steps input w).entries
  steps_unbooted input w number side none =
      (steps_note IsNoBoot n who Any (λ h x at own. note_unbooted h x) (λ h pid message at. tt) (beside_unbooted n)
      (λ core ports h m is. mute_unbooted (deeds_of core ports h m) (deeds_mute core ports h m)) input w (from_here w number side none)).so

  pub begins_unbooted : (h : ℕ) (deeds : List Deed) (w : Work) → AreMute deeds → w.core.node ≡ n → own_side w.core ≡ who → AreNoBoots w.entries
      → AreNoBoots (begins_with h deeds w).entries
  begins_unbooted h deeds w mute number side none =
      (notes_do IsNoBoot n who Any (λ h x at own. note_unbooted h x) (λ h pid message at. tt) (beside_unbooted n)
      (λ core ports h m is. mute_unbooted (deeds_of core ports h m) (deeds_mute core ports h m)) h deeds w (mute_unbooted deeds mute)
      (from_here w number side none)).so

pub front_unbooted : (xs ys : List Entry) → AreNoBoots (xs ++ ys) → AreNoBoots xs × AreNoBoots ys
front_unbooted [] ys a = (tt, a)
front_unbooted (x ∷ xs) ys a = let rest = front_unbooted xs ys a.1 in ((a.0, rest.0), rest.1)

-- ### Sides

abbrev pub is_host_side : Side → Bool
is_host_side Controller = false
is_host_side Host = true

-- a turn, and a message that is held, stand at an end of this side, and no boot is noted
abbrev pub IsOnSide : Bool → Entry → Type 0
IsOnSide b (entry.Turn f pid message) = f.at_host ≡ b
IsOnSide b (entry.Held f need spare) = f.at_host ≡ b
IsOnSide b (entry.Booted n k) = ⊥
IsOnSide b _ = Unit {0}

abbrev pub AreOnSide : Bool → List Entry → Type 0
AreOnSide b es = AllByRecursion (IsOnSide b) es

quiet_sided : (b : Bool) (es : List Entry) → AreNoTurns es → AreNoBoots es → AreOnSide b es
quiet_sided b [] none un = tt
quiet_sided b (x ∷ es) none un = (grind arith, quiet_sided b es none.1 un.1)

-- what holds of each entry holds of all
each_all : (P : Entry → Type 0) (es : List Entry) → ((front back : List Entry) (x : Entry) → es ≡ front ++ (x ∷ back) → P x) → AllByRecursion P es
each_all P [] each = tt
each_all P (x ∷ es) each = (each [] es x refl, each_all P es (λ front back y e. each (x ∷ front) back y (ap (λ l. x ∷ l) e)))

-- ### A pass

-- a node keeps its side over its turns
module _ (who : Side) where
  abbrev IsSide : Work → Type 0
  IsSide w = own_side w.core ≡ who

  pub side_comes : (w v : Work) → IsSide w → ComesTo w v → IsSide v
  side_comes w v side c = comes_so IsSide (record {
    handled = λ v h m messages a on waiting room still.
        handling IsSide (λ es u s p a. a) (λ k f u host a. a) (λ k t u a. a) (λ x y cut core ports entries a. grind arith)
        (λ writes u a. a) h m (deeds_of v.core v.ports h m) v (deeds_mute v.core v.ports h m) a;
    held = grind arith;
    let_go = λ v h a on waiting. by_test (option_map_or (λ (p : Port). is_held p.side) (port_at v.ports h) false) (λ q. rw q a) (λ q. rw q a);
  }) w side v c

  turn_sided : (w : Work) → IsSide w → (front back : List Entry) (x : Entry) → IsTurnSo (ComesTo w) w front x back → IsNoBoot x
      → IsOnSide (is_host_side who) x
  turn_sided w side front back (entry.Turn e pid message) t un =
      ap (λ (f : End). f.at_host) t.its_end
      ∙ (ap (λ s. (end_of t.host s).at_host) (side_comes w t.work side t.keeps) ∙ (grind arith))
  turn_sided w side front back (entry.Held e need spare) t un =
      ap (λ (f : End). f.at_host) t.its_end
      ∙ (ap (λ s. (end_of t.host s).at_host) (side_comes w t.work side t.keeps) ∙ (grind arith))
  turn_sided w side front back (entry.Booted n k) t un = absurd un
  turn_sided w side front back x t un = tt

  pub pass_sided : (w v : Work) (hosts : List ℕ) → IsSide w → (p : ArePassed (ComesTo w) hosts w v) → AreNoBoots p.more → AreOnSide (is_host_side who) p.more
  pass_sided w v hosts side p un = each_all (IsOnSide (is_host_side who)) p.more (λ front back x e.
      turn_sided w side front back x (p.each front back x e) ((front_unbooted front (x ∷ back) (subst AreNoBoots e un)).1.0))

-- ### What is read of messages that are held

same_by : (f : End) (k : ℕ) (b : Bool) → f.at_host ≡ b → same_end f (record { link = k; at_host = b }) ≡ eqb f.link k
same_by f k b q = grind arith

other_by : (f : End) (k : ℕ) (b : Bool) → f.at_host ≡ not b → same_end f (record { link = k; at_host = b }) ≡ false
other_by f k b q = grind arith

module _ (k : ℕ) (b : Bool) where
  abbrev e : End
  e = record { link = k; at_host = b }

  told_one : (s : List Entry) (x : Entry) (ms : List Message) → IsOnSide b x
      → holds_in (s ++ x ∷ []) e ≡ (waiting_after k (ms, holds_in s e) x).1
  told_one s (entry.Turn f pid message) ms on =
      fold-append _ false s (entry.Turn f pid message ∷ [])
      ∙ (ap (λ c. cond c false (holds_in s e)) (same_by f k b on) ∙ by_test (eqb f.link k) (λ q. rw q refl) (λ q. rw q refl))
  told_one s (entry.Held f need spare) ms on =
      fold-append _ false s (entry.Held f need spare ∷ [])
      ∙ (ap (λ c. cond c true (holds_in s e)) (same_by f k b on) ∙ by_test (eqb f.link k) (λ q. rw q refl) (λ q. rw q refl))
  told_one s (entry.Booted n count) ms on = absurd on
  told_one s x ms on = fold-append _ false s (x ∷ [])

  -- what is noted of turns at this side
  pub told_all : (s es : List Entry) (ms : List Message) → AreOnSide b es → holds_in (s ++ es) e ≡ (waits_behind k (ms, holds_in s e) es).1
  told_all s [] ms on = ap (λ l. holds_in l e) (append-nil s)
  told_all s (x ∷ es) ms on =
      ap (λ l. holds_in l e) (sym (append_assoc s (x ∷ []) es))
      ∙ (told_all (s ++ x ∷ []) es (waiting_after k (ms, holds_in s e) x).0 on.1
      ∙ ap (λ c. (waits_behind k ((waiting_after k (ms, holds_in s e) x).0, c) es).1) (told_one s x ms on.0))

  far_one : (s : List Entry) (x : Entry) → IsOnSide (not b) x → holds_in (s ++ x ∷ []) e ≡ holds_in s e
  far_one s (entry.Turn f pid message) on =
      fold-append _ false s (entry.Turn f pid message ∷ []) ∙ ap (λ c. cond c false (holds_in s e)) (other_by f k b on)
  far_one s (entry.Held f need spare) on =
      fold-append _ false s (entry.Held f need spare ∷ []) ∙ ap (λ c. cond c true (holds_in s e)) (other_by f k b on)
  far_one s (entry.Booted n count) on = absurd on
  far_one s x on = fold-append _ false s (x ∷ [])

  -- what is noted at the other side of links leaves it
  far_all : (s es : List Entry) → AreOnSide (not b) es → holds_in (s ++ es) e ≡ holds_in s e
  far_all s [] on = ap (λ l. holds_in l e) (append-nil s)
  far_all s (x ∷ es) on = ap (λ l. holds_in l e) (sym (append_assoc s (x ∷ []) es)) ∙ (far_all (s ++ x ∷ []) es on.1 ∙ far_one s x on.0)

  -- and so does what tells of no turn
  quiet_all : (s es : List Entry) → AreNoTurns es → AreNoBoots es → holds_in (s ++ es) e ≡ holds_in s e
  quiet_all s es none un = far_all s es (quiet_sided (not b) es none un)

-- a node keeps its side until its pass begins
module _ (who : Side) where
  all_side : (h : ℕ) (deeds : List Deed) (v : Work) → AreMute deeds → own_side v.core ≡ who → own_side (all_done h deeds v).core ≡ who
  all_side h deeds v mute a =
      all_last (λ (x : Work). own_side x.core ≡ who) (λ es u s p a. a) (λ k f u host a. a) (λ k t u a. a)
      (λ x y cut core ports entries a. ap (λ (m : ℕ). cond (eqb m 0) Controller Host) core ∙ a) (λ writes u a. a) h deeds v mute a

  pub begun_side : (input : NodeInput) (w : Work) → own_side w.core ≡ who → own_side (comes_to_pass input w).core ≡ who
  begun_side input w a =
      let came : Work = has_come_so input w in
      let start : Work = record came { core = after_sessions came.core came.ports; ports = map without_notice (map (forgets came.ports) came.ports) } in
      let freed : own_side (has_freed input w).core ≡ who =
      all_side 0 (forgotten came.ports) start (forgotten_mute came.ports) (sessions_side came.core came.ports ∙ (grind arith)) in
      let synced : own_side (has_synced input w).core ≡ who =
      all_side 0 (syncs_in input w) (has_freed input w) (all_synced_mute w.core input w.ports) freed in
      unless (λ (x : Work). own_side x.core ≡ who) (all_done 0 (owed_in_step input w)) (has_synced input w)
      (λ v b. all_side 0 (owed_in_step input w) v (all_owed_mute (map (forgets came.ports) came.ports)) b) synced

-- ## Whether the first message at an end of a node is held is what is read, as its pass begins and as its step ends

-- ### Ends that stay held

same_held : (f : Port → Port) → ((p : Port) → (f p).desk.host ≡ p.desk.host) → ((p : Port) → (f p).desk.holds ≡ p.desk.holds) → (ports : List Port) (k : ℕ)
    → is_held_at (map f ports) k ≡ is_held_at ports k
same_held f host holds ports k =
    map_is f host ports k (λ o. option_map_or (λ (p : Port). p.desk.holds) o false ≡ is_held_at ports k)
    (λ q. sym (ap (λ o. option_map_or (λ (p : Port). p.desk.holds) o false) q))
    (λ p q. holds p ∙ sym (ap (λ o. option_map_or (λ (p : Port). p.desk.holds) o false) q))

late_holds : (p : Port) → (reset_late p).desk.holds ≡ p.desk.holds
late_holds p = by_test (is_late p) (λ q. rw q refl) (λ q. rw q refl)

without_holds : (p : Port) → (without_notice p).desk.holds ≡ p.desk.holds
without_holds p = by_test (is_over p) (λ q. rw q refl) (λ q. rw q refl)

forgets_holds : (ports : List Port) (p : Port) → (forgets ports p).desk.holds ≡ p.desk.holds
forgets_holds ports p = by_test (is_forgotten ports (asked_at p)) (λ q. rw q refl) (λ q. rw q refl)

-- ### As a pass begins

come_held : (input : NodeInput) (w : Work) (k : ℕ) → is_held_at (has_come_so input w).ports k ≡ is_held_at w.ports k
come_held (AtEnd h i) w k = same_held (λ p. has_come p (input_at (AtEnd h i) p)) (λ p. come_host p (input_at (AtEnd h i) p))
    (λ p. grind arith) w.ports k
come_held TimePasses w k =
    let came : List Port = map (λ p. has_come p (input_at TimePasses p)) w.ports in
    same_held reset_late late_host late_holds (map with_older came) k
    ∙ (same_held with_older (λ p. refl) (λ p. refl) came k
    ∙ same_held (λ p. has_come p (input_at TimePasses p)) (λ p. come_host p (input_at TimePasses p)) (λ p. grind arith) w.ports k)

-- what waits as a pass begins is what waited as something had come
module _ (input : NodeInput) (w : Work) (k : ℕ) where
  abbrev freed_start : Work
  freed_start =
      let came : Work = has_come_so input w in
      record came {
        core = after_sessions came.core came.ports;
        ports = map without_notice (map (forgets came.ports) came.ports);
      }

  begun_sees : SeesAt k (waiting_at freed_start.ports k) (is_held_at freed_start.ports k) (comes_to_pass input w)
  begun_sees =
      let ms : List Message = waiting_at freed_start.ports k in
      let b : Bool = is_held_at freed_start.ports k in
      let one : SeesAt k ms b (has_freed input w) = deeds_see k ms b 0 (forgotten (has_come_so input w).ports) freed_start (refl, refl) in
      let two : SeesAt k ms b (has_synced input w) = deeds_see k ms b 0 (syncs_in input w) (has_freed input w) one in
      unless (SeesAt k ms b) (all_done 0 (owed_in_step input w)) (has_synced input w) (λ v s. deeds_see k ms b 0 (owed_in_step input w) v s) two

  begun_held : is_held_at (comes_to_pass input w).ports k ≡ is_held_at w.ports k
  begun_held =
      let came : Work = has_come_so input w in
      begun_sees.1
      ∙ (same_held without_notice without_host without_holds (map (forgets came.ports) came.ports) k
      ∙ (same_held (forgets came.ports) (forgets_host came.ports) (forgets_holds came.ports) came.ports k ∙ come_held input w k))

-- ### A step

module _ (n : ℕ) (who : Side) (t : List Entry) (input : NodeInput) (w : Work) (number : w.core.node ≡ n) (side : own_side w.core ≡ who)
    (none : AreNoTurns w.entries) (unbooted : AreNoBoots w.entries) where
  abbrev begun : Work
  begun = comes_to_pass input w

  abbrev ended : Work
  ended = steps input w

  abbrev at_end : ℕ → End
  at_end k = record { link = k; at_host = is_host_side who }

  -- what is read is what the node keeps
  abbrev pub HeldAsRead : List Entry → List Port → Type 0
  HeldAsRead s ports = (k : ℕ) → holds_in s (at_end k) ≡ is_held_at ports k

  abbrev all_unbooted : AreNoBoots ended.entries
  all_unbooted = steps_unbooted n who input w number side unbooted

  on_is : begun.cut ≡ false → ended ≡ passes begun
  on_is on = steps_are input w ∙ rw on refl

  off_is : begun.cut ≡ true → ended ≡ begun
  off_is off = steps_are input w ∙ rw off refl

  walk : begun.cut ≡ false → ArePassed (ComesTo begun) (hosts_of_ends begun.ports) begun (passes begun)
  walk on = through (ComesTo begun) (comes_lasts begun) (hosts_of_ends begun.ports) begun Begins on

  -- what is noted before the pass tells of no turn, and of no boot
  begun_unbooted : AreNoBoots begun.entries
  begun_unbooted = by_test begun.cut
      (λ off. subst (λ (v : Work). AreNoBoots v.entries) (off_is off) all_unbooted)
      (λ on. (front_unbooted begun.entries (walk on).more (subst AreNoBoots (ap (λ (v : Work). v.entries) (on_is on) ∙ (walk on).entries) all_unbooted)).0)

  begun_quiet : AreNoTurns begun.entries
  begun_quiet = subst AreNoTurns (sym (before_entries input w))
      (AllByRecursion-append IsNoTurn w.entries (noted_before_pass input w) none (before_none input w))

  pub begun_read_at : (k : ℕ) → holds_in t (at_end k) ≡ is_held_at w.ports k → holds_in (t ++ begun.entries) (at_end k) ≡ is_held_at begun.ports k
  begun_read_at k read = quiet_all k (is_host_side who) t begun.entries begun_quiet begun_unbooted ∙ (read ∙ sym (begun_held input w k))

  pub begun_read : HeldAsRead t w.ports → HeldAsRead (t ++ begun.entries) begun.ports
  begun_read read k = begun_read_at k (read k)

  more_unbooted : (on : begun.cut ≡ false) → AreNoBoots (walk on).more
  more_unbooted on =
      (front_unbooted begun.entries (walk on).more (subst AreNoBoots (ap (λ (v : Work). v.entries) (on_is on) ∙ (walk on).entries) all_unbooted)).1

  more_sided : (on : begun.cut ≡ false) → AreOnSide (is_host_side who) (walk on).more
  more_sided on = pass_sided who begun (passes begun) (hosts_of_ends begun.ports) (begun_side who input w side) (walk on) (more_unbooted on)

  -- all that is noted in the step of turns stands at this side
  all_sided : AreOnSide (is_host_side who) ended.entries
  all_sided = by_test begun.cut
      (λ off. subst (λ (v : Work). AreOnSide (is_host_side who) v.entries) (sym (off_is off)) first)
      (λ on. subst (AreOnSide (is_host_side who)) (sym (ap (λ (v : Work). v.entries) (on_is on) ∙ (walk on).entries))
      (AllByRecursion-append (IsOnSide (is_host_side who)) begun.entries (walk on).more first (more_sided on))) where
        first : AreOnSide (is_host_side who) begun.entries
        first = quiet_sided (is_host_side who) begun.entries begun_quiet begun_unbooted

  -- at one end
  pub ended_read_at : (k : ℕ) → ended.cut ≡ false → holds_in t (at_end k) ≡ is_held_at w.ports k
      → holds_in (t ++ ended.entries) (at_end k) ≡ is_held_at ended.ports k
  ended_read_at k still read = by_test begun.cut
      (λ off. absurd (true≢false (sym off ∙ (sym (ap (λ (v : Work). v.cut) (off_is off)) ∙ still))))
      (λ on. let v : Work = passes begun in
      let p : ArePassed (ComesTo begun) (hosts_of_ends begun.ports) begun v = walk on in
      let a : IsWaitingRead k begun v = waiting_read k begun v (p.keeps (sym (ap (λ (v : Work). v.cut) (on_is on)) ∙ still)) in
      let same : a.more ≡ p.more = append_cancel_left begun.entries a.more p.more (sym a.entries ∙ p.entries) in
      let now : List Entry = t ++ begun.entries in
      let told : holds_in (now ++ p.more) (at_end k) ≡ (waits_behind k (waiting_at begun.ports k, holds_in now (at_end k)) p.more).1 =
      told_all k (is_host_side who) now p.more (waiting_at begun.ports k) (more_sided on) in
      ap (λ (u : Work). holds_in (t ++ u.entries) (at_end k)) (on_is on)
      ∙ (ap (λ l. holds_in l (at_end k)) (ap (λ l. t ++ l) p.entries ∙ sym (append_assoc t begun.entries p.more))
      ∙ (told ∙ (ap (λ b. (waits_behind k (waiting_at begun.ports k, b) p.more).1) (begun_read_at k read)
      ∙ (grind arith)))))

  ended_read : ended.cut ≡ false → HeldAsRead t w.ports → HeldAsRead (t ++ ended.entries) ended.ports
  ended_read still read k = ended_read_at k still (read k)

-- ## Whatever happens to a world, whether the first message at an end of the controller is held is what is read

-- ### What a node keeps

abbrev pub is_held_among : List Desk → ℕ → Bool
is_held_among desks k = option_map_or (λ (d : Desk). d.holds) (find (λ (d : Desk). eqb d.host k) desks) false

pub ports_held : (near_ends : ℕ → NumberedEnd) (desks : List Desk) (k : ℕ)
    → is_held_at (map (λ (d : Desk). port_for (near_ends d.host) d) desks) k ≡ is_held_among desks k
ports_held near_ends [] k = refl
ports_held near_ends (d ∷ desks) k = by_test (eqb d.host k) (λ q. rw q refl) (λ q. rw q (ports_held near_ends desks k))

pub desks_held : (ports : List Port) (k : ℕ) → is_held_among (map (λ (p : Port). p.desk) ports) k ≡ is_held_at ports k
desks_held [] k = refl
desks_held (p ∷ ports) k = by_test (eqb p.desk.host k) (λ q. rw q refl) (λ q. rw q (desks_held ports k))

pub error_held : (h : ℕ) (desks : List Desk) (k : ℕ) → is_held_among (with_error h desks) k ≡ is_held_among desks k
error_held h [] k = refl
error_held h (d ∷ desks) k = by (eqb d.host h) refl (eqb d.host k) refl (error_held h desks k) where
  by : (c : Bool) → eqb d.host h ≡ c → (b : Bool) → eqb d.host k ≡ b → is_held_among (with_error h desks) k ≡ is_held_among desks k
      → is_held_among (with_error h (d ∷ desks)) k ≡ is_held_among (d ∷ desks) k
  by c z b q later = grind arith

pub new_held : (hosts : List ℕ) (k : ℕ) → is_held_among (map new_desk hosts) k ≡ false
new_held [] k = refl
new_held (h ∷ hosts) k = by_test (eqb h k) (λ q. rw q refl) (λ q. rw q (new_held hosts k))

-- ### Entries that tell nothing of it

-- these leave what is read at the ends of the controller
abbrev pub Leaves : List Entry → Type 0
Leaves es = (s : List Entry) (k : ℕ) → holds_in (s ++ es) (end_c k) ≡ holds_in s (end_c k)

leaves-append : (xs ys : List Entry) → Leaves xs → Leaves ys → Leaves (xs ++ ys)
leaves-append xs ys a b s k = ap (λ l. holds_in l (end_c k)) (sym (append_assoc s xs ys)) ∙ (b (s ++ xs) k ∙ a s k)

none_leaves : Leaves []
none_leaves s k = ap (λ l. holds_in l (end_c k)) (append-nil s)

quiet_leaves : (es : List Entry) → AreNoTurns es → AreNoBoots es → Leaves es
quiet_leaves es none un s k = quiet_all k false s es none un

far_leaves : (es : List Entry) → AreOnSide true es → Leaves es
far_leaves es on s k = far_all k false s es on

links_leave : (h : ℕ) (xs : List Rattle.link_laws.specs.entries.Entries.Entry) → Leaves (entries_for h xs)
links_leave h xs = quiet_leaves (entries_for h xs) (links_none h xs) (notes_unbooted h xs)

flat_leaves : {X : Type 0} (f : X → List Entry) → ((x : X) → Leaves (f x)) → (xs : List X) → Leaves (flat_map f xs)
flat_leaves f one [] = none_leaves
flat_leaves f one (x ∷ xs) = leaves-append (f x) (flat_map f xs) (one x) (flat_leaves f one xs)

frames_leave : (who : Side) (h : ℕ) (l : Link) (v : Work) → Leaves (frames_noted who h l v)
frames_leave who h l v = by_option (port_at v.ports h) (λ q. rw q none_leaves) (λ p q. rw q (links_leave h (ending_entries who l p.side (ending_of v))))

pub aged_leave : (w : NodeWorld) → Leaves (all_aged w).1
aged_leave w =
    flat_leaves (λ (s : Site). entries_for s.host (aged_entries Controller s.link.to_controller ++ aged_entries Host s.link.to_host))
    (λ s. links_leave s.host (aged_entries Controller s.link.to_controller ++ aged_entries Host s.link.to_host)) w.sites

-- ### Hosts

-- what a host notes in a step
host_leaves : (h : ℕ) (r : Running) (plan : Option Plan) (near_ends : ℕ → NumberedEnd) (es : List Entry) (input : NodeInput) → HasEnds h (h ∷ []) r
    → eqb h 0 ≡ false → AreNoTurns es → AreNoBoots es → Leaves (steps input (work_of r plan near_ends es)).entries
host_leaves h r plan near_ends es input has off none un =
    far_leaves (steps input (work_of r plan near_ends es)).entries
    (all_sided h Host [] input (work_of r plan near_ends es) has.number (grind arith) none un)

-- what it notes as it begins something of itself
begins_leave : (h n : ℕ) (r : Running) (plan : Option Plan) (near_ends : ℕ → NumberedEnd) (deeds : List Deed) → r.core.node ≡ n
    → AreMute deeds → AllByRecursion (λ (d : Deed). (k : ℕ) (w : Work) → AreNoTurns (noted_by_deed k d w)) deeds
    → Leaves (begins_with h deeds (work_of r plan near_ends [])).entries
begins_leave h n r plan near_ends deeds number mute none =
    let w : Work = work_of r plan near_ends [] in
    quiet_leaves (begins_with h deeds w).entries (subst AreNoTurns (sym (deeds_note h deeds w)) (noted_none h deeds w none))
    (begins_unbooted n (own_side r.core) h deeds w mute number refl tt)

-- ### Sites

pub site_fine : (h : ℕ) (s : Site) (r : Running) (sites : List Site) → AreFine sites → site_at sites h ≡ Some s → s.node ≡ Some r
    → HasEnds s.host (s.host ∷ []) r × (eqb s.host 0 ≡ false)
site_fine h s r sites fine here q = (
  subst (IfItRuns s.host (s.host ∷ [])) q (site_is (λ (s : Site). IfItRuns s.host (s.host ∷ []) s.node) sites h s fine.nodes here),
  site_is (λ (s : Site). (eqb s.host 0) ≡ false) sites h s fine.hosts here,
)

-- ### Events

-- a controller that runs keeps what is read
abbrev pub HoldsRead : List Entry → NodeWorld → Type 0
HoldsRead t w = (r : Running) → w.controller ≡ Some r → (k : ℕ) → holds_in t (end_c k) ≡ is_held_among r.desks k

abbrev pub ThenRead : List Entry → NodeWorld × List Entry → Type 0
ThenRead t p = HoldsRead (t ++ p.1) p.0

module _ (t : List Entry) (w : NodeWorld) (before : HoldsRead t w) where
  stays : (v : NodeWorld) (es : List Entry) → v.controller ≡ w.controller → Leaves es → ThenRead t (v, es)
  stays v es same leaves r q k = leaves t k ∙ before r (sym same ∙ q) k

  nothing : ThenRead t (w, [])
  nothing = stays w [] refl none_leaves

  off : (v : NodeWorld) (es : List Entry) → v.controller ≡ None → ThenRead t (v, es)
  off v es none r q k = let no : None ≡ Some r = sym none ∙ q in absurd (cc no)

  -- the controller has had a step
  near_ended : (r : Running) → w.controller ≡ Some r → r.core.node ≡ 0 → (plan : Option Plan) (near_ends : ℕ → NumberedEnd) (es frames : List Entry)
      (input : NodeInput) → AreNoTurns es → AreNoBoots es → Leaves frames → (v : NodeWorld)
      → v.controller ≡ runs_on (steps input (work_of r plan near_ends es))
      → ThenRead t (v, (steps input (work_of r plan near_ends es)).entries ++ frames)
  near_ended r runs number plan near_ends es frames input none un leaves v node = by c.cut refl where
    begun : Work
    begun = work_of r plan near_ends es

    c : Work
    c = steps input begun

    by : (b : Bool) → c.cut ≡ b → ThenRead t (v, c.entries ++ frames)
    by true lost = off v (c.entries ++ frames) (node ∙ runs_none c lost)
    by false still = on where
      on : ThenRead t (v, c.entries ++ frames)
      on x q k =
          let same : Some x ≡ Some (left_running c) = sym q ∙ (node ∙ runs_left c still) in
          let is : x ≡ left_running c = cc in
          let read : holds_in (t ++ c.entries) (end_c k) ≡ is_held_at c.ports k =
          ended_read 0 Controller t input begun number (ap (λ m. cond (eqb m 0) Controller Host) number) none un still
          (λ j. before r runs j ∙ sym (ports_held near_ends r.desks j)) k in
          ap (λ l. holds_in l (end_c k)) (sym (append_assoc t c.entries frames))
          ∙ (leaves (t ++ c.entries) k ∙ (read ∙ (sym (desks_held c.ports k) ∙ ap (λ (y : Running). is_held_among y.desks k) (sym is))))

  -- ### Something comes

  module _ (orderly : IsOrderly w) where
    number_of : (r : Running) → w.controller ≡ Some r → r.core.node ≡ 0
    number_of r runs = (node_is 0 (hosts_in w.sites) w.controller r orderly.controller runs).number

    near_does : (h : ℕ) (comes : Comes) (i : LinkInput) → ThenRead t (controller_does w h comes (steps (AtEnd h i)))
    near_does h comes i =
        by_controller (ThenRead t) w h comes (steps (AtEnd h i)) nothing
        (λ r q. near_ended r q (number_of r q) w.memory.plan (λ n. near_end_in (link_to w.sites n) (comes_to h comes n))
        (entries_for h (arrival Controller (link_to w.sites h) comes)) (flat_map (λ (s : Site). frames_noted Controller s.host
        (wires_for s.link (comes_to h comes s.host)) (controller_work w r h comes (steps (AtEnd h i)))) w.sites) (AtEnd h i)
        (links_none h (arrival Controller (link_to w.sites h) comes)) (notes_unbooted h (arrival Controller (link_to w.sites h) comes))
        (flat_leaves (λ (s : Site). frames_noted Controller s.host (wires_for s.link (comes_to h comes s.host))
        (controller_work w r h comes (steps (AtEnd h i))))
        (λ s. frames_leave Controller s.host (wires_for s.link (comes_to h comes s.host)) (controller_work w r h comes (steps (AtEnd h i)))) w.sites)
        (after_controller w h comes (controller_work w r h comes (steps (AtEnd h i)))).0 refl)

  module _ (fine : AreFine w.sites) where
    far_does : (h : ℕ) (comes : Comes) (i : LinkInput) → ThenRead t (host_does w h comes (steps (AtEnd h i)))
    far_does h comes i =
        by_host (ThenRead t) w h comes (steps (AtEnd h i)) nothing
        (λ s r here q.
        let c : Work = host_work s r comes (steps (AtEnd h i)) in
        let has = site_fine h s r w.sites fine here q in
        stays (after_host_step w h comes s c).0 (after_host_step w h comes s c).1 refl
        (leaves-append c.entries (frames_noted Host h (wires_for (exchanged s.link) comes) c)
        (host_leaves s.host r s.memory.plan (λ n. near_end_in (exchanged s.link) comes) (entries_for s.host (arrival Host (exchanged s.link) comes))
        (AtEnd h i) has.0 has.1 (links_none s.host (arrival Host (exchanged s.link) comes)) (notes_unbooted s.host (arrival Host (exchanged s.link) comes)))
        (frames_leave Host h (wires_for (exchanged s.link) comes) c)))

    far_begins : (h : ℕ) (deeds : List Deed) → AreMute deeds
        → AllByRecursion (λ (d : Deed). (k : ℕ) (w : Work) → AreNoTurns (noted_by_deed k d w)) deeds
        → ThenRead t (host_does w h NoInput (begins_with h deeds))
    far_begins h deeds mute none =
        by_host (ThenRead t) w h NoInput (begins_with h deeds) nothing
        (λ s r here q.
        let c : Work = host_work s r NoInput (begins_with h deeds) in
        stays (after_host_step w h NoInput s c).0 (after_host_step w h NoInput s c).1 refl
        (leaves-append c.entries (frames_noted Host h (wires_for (exchanged s.link) NoInput) c)
        (begins_leave h r.core.node r s.memory.plan (λ n. near_end_in (exchanged s.link) NoInput) deeds refl mute none)
        (frames_leave Host h (wires_for (exchanged s.link) NoInput) c)))

    far_comes : (h : ℕ) (comes : Comes) → ThenRead t (comes_at w (end_h h) comes)
    far_comes h comes = by_coming (ThenRead t) w (end_h h) comes nothing (λ i at q. far_does h comes i) (λ i at q. absurd (true≢false at))

  comes_read : IsOrderly w → (e : End) (comes : Comes) → ThenRead t (comes_at w e comes)
  comes_read orderly e comes =
      by_coming (ThenRead t) w e comes nothing (λ i at q. far_does (orderly_fine w orderly) e.link comes i) (λ i at q. near_does orderly e.link comes i)

  -- ### Power and memories

  written_same : (n : ℕ) (m : Memory) → (with_memory n m w).controller ≡ w.controller
  written_same n m = by_memory (λ v. v.controller ≡ w.controller) n w m (λ z. refl) (λ z. refl)

  cut_leaves : (n : ℕ) → Leaves (entry.Cut n ∷ [])
  cut_leaves n = quiet_leaves (entry.Cut n ∷ []) (refl, tt) (tt, tt)

  loses_read : (n : ℕ) (v : NodeWorld) → v.controller ≡ w.controller → ThenRead t (loses_power_at n v, entry.Cut n ∷ [])
  loses_read n v same =
      by_power (λ u. ThenRead t (u, entry.Cut n ∷ [])) n v (λ z. off (controller_cut v) (entry.Cut n ∷ []) refl)
      (λ z. stays (record v { sites = with_site n host_cut v.sites }) (entry.Cut n ∷ []) same (cut_leaves n))

  boots_read : (n : ℕ) → ThenRead t (boots w n)
  boots_read n = by_boot (ThenRead t) w n (loses_read n (boot_written w n) (written_same n _)) runs where
    count : ℕ
    count = count_of (boot_found w n).core.journal

    told : (b : Bool) → eqb n 0 ≡ b → (k : ℕ) → holds_in (t ++ entry.Booted n count ∷ []) (end_c k) ≡ cond b false (holds_in t (end_c k))
    told b z k = fold-append _ false t (entry.Booted n count ∷ []) ∙ ap (λ c. cond c false (holds_in t (end_c k))) z

    runs : ThenRead t (with_node n (boot_found w n) (boot_written w n), entry.Booted n count ∷ [])
    runs =
        by_running (λ u. ThenRead t (u, entry.Booted n count ∷ [])) n (boot_written w n) (boot_found w n)
        (λ z r q k.
        let same : Some (boot_found w n) ≡ Some r = q in
        let is : boot_found w n ≡ r = cc in
        told true z k ∙ (sym (new_held (links_of w n) k) ∙ ap (λ (y : Running). is_held_among y.desks k) is))
        (λ z r q k. told false z k ∙ before r (sym (written_same n _) ∙ q) k)

  -- ### Losses

  counted : (why : Loss) (h : ℕ) (o : Option Running) → o ≡ w.controller → (r : Running) → counts why h o ≡ Some r → (k : ℕ)
      → holds_in t (end_c k) ≡ is_held_among r.desks k
  counted (Broken fault) h None same r q k = absurd (cc q)
  counted (Broken fault) h (Some x) same r q k =
      let all : Some (record x { desks = with_error h x.desks }) ≡ Some r = q in
      let is : record x { desks = with_error h x.desks } ≡ r = cc in
      before x (sym same) k ∙ (sym (error_held h x.desks k) ∙ ap (λ (y : Running). is_held_among y.desks k) is)
  counted _ h o same r q k = before r (sym same ∙ q) k

  lost_read : (e : End) (why : Loss) → ThenRead t (frame_lost w e why)
  lost_read e why =
      by_loss (ThenRead t) w e why
      (λ at r q k. links_leave e.link (first_lost Host why (link_to w.sites e.link).to_host) t k ∙ before r q k)
      (λ at r q k.
      links_leave e.link (first_lost Controller why (link_to w.sites e.link).to_controller) t k ∙ counted why e.link w.controller refl r q k)

-- ### Time

hosts_leave : (sites : List Site) → AllByRecursion (λ (s : Site). (eqb s.host 0) ≡ false) sites
    → AllByRecursion (λ (s : Site). IfItRuns s.host (s.host ∷ []) s.node) sites → Leaves (hosts_tick sites).1
hosts_leave [] numbers nodes = none_leaves
hosts_leave (s ∷ sites) numbers nodes =
    leaves-append (host_ticks s).1 (hosts_tick sites).1
    (by_host_tick (λ p. Leaves p.1) s (λ z. none_leaves)
    (λ r q. leaves-append (host_tick s r).entries (frames_noted Host s.host (exchanged s.link) (host_tick s r))
    (host_leaves s.host r s.memory.plan (λ h. s.link.host) [] TimePasses (subst (IfItRuns s.host (s.host ∷ [])) q nodes.0) numbers.0 tt tt)
    (frames_leave Host s.host (exchanged s.link) (host_tick s r))))
    (hosts_leave sites numbers.1 nodes.1)

near_tick_read : (t : List Entry) (w : NodeWorld) → HoldsRead t w → ((r : Running) → w.controller ≡ Some r → r.core.node ≡ 0)
    → ThenRead t (controller_ticks w)
near_tick_read t w before number =
    by_controller_tick (ThenRead t) w (λ z. off t w before (record w { sites = map site_unticked w.sites }) [] z)
    (λ r q. near_ended t w before r q (number r q) w.memory.plan (λ h. (link_to w.sites h).controller) []
    (flat_map (λ (s : Site). frames_noted Controller s.host s.link (near_tick w r)) w.sites) TimePasses tt tt
    (flat_leaves (λ (s : Site). frames_noted Controller s.host s.link (near_tick w r)) (λ s. frames_leave Controller s.host s.link (near_tick w r)) w.sites)
    (after_near_tick w (near_tick w r)).0 refl)

near_tick_fine : (w : NodeWorld) → AreFine w.sites → AreFine (controller_ticks w).0.sites
near_tick_fine w fine =
    by_controller_tick (λ p. AreFine p.0.sites) w (λ z. map_fine site_unticked (λ s. refl) (λ s. refl) w.sites fine)
    (λ r q. map_fine (site_ticked (near_tick w r)) (λ s. refl) (λ s. refl) w.sites fine)

ticks_read : (t : List Entry) (w : NodeWorld) → HoldsRead t w → IsOrderly w → ThenRead t (world_ticks w)
ticks_read t w before orderly =
    let old : NodeWorld × List Entry = all_aged w in
    let near : NodeWorld × List Entry = controller_ticks old.0 in
    let far : List Site × List Entry = hosts_tick near.0.sites in
    let second : HoldsRead ((t ++ old.1) ++ near.1) near.0 =
    near_tick_read (t ++ old.1) old.0 (stays t w before old.0 old.1 refl (aged_leave w)) (λ r q. number_of t w before orderly r q) in
    let fine : AreFine near.0.sites = near_tick_fine old.0 (map_fine (λ (s : Site). record s { link = aged s.link }) (λ s. refl) (λ s. refl) w.sites
    (orderly_fine w orderly)) in
    let third : HoldsRead (((t ++ old.1) ++ near.1) ++ far.1) (record near.0 { sites = far.0 }) =
    stays ((t ++ old.1) ++ near.1) near.0 second (record near.0 { sites = far.0 }) far.1 refl (hosts_leave near.0.sites fine.hosts fine.nodes) in
    subst (λ l. HoldsRead l (record near.0 { sites = far.0 }))
    (append_assoc (t ++ old.1) near.1 far.1 ∙ append_assoc t old.1 (near.1 ++ far.1)) third

-- ### All that happens

near_fine : (w : NodeWorld) (h : ℕ) (comes : Comes) → AreFine w.sites → AreFine (comes_at w (end_c h) comes).0.sites
near_fine w h comes fine =
    by_coming (λ p. AreFine p.0.sites) w (end_c h) comes fine (λ i at q. absurd (true≢false (sym at)))
    (λ i at q. by_controller (λ p. AreFine p.0.sites) w h comes (steps (AtEnd h i)) fine
    (λ r z. map_fine (link_after_controller h comes (controller_work w r h comes (steps (AtEnd h i)))) (λ s. refl) (λ s. refl) w.sites fine))

activates_read : (t : List Entry) (w : NodeWorld) → HoldsRead t w → IsOrderly w → (h sync power : ℕ) → ThenRead t (activates w h sync power)
activates_read t w before orderly h sync power =
    let near : NodeWorld × List Entry = comes_at w (end_c h) (Starts power) in
    let far : NodeWorld × List Entry = comes_at near.0 (end_h h) (Starts sync) in
    let first : HoldsRead (t ++ near.1) near.0 = comes_read t w before orderly (end_c h) (Starts power) in
    subst (λ l. HoldsRead l far.0) (append_assoc t near.1 far.1)
    (far_comes (t ++ near.1) near.0 first (near_fine w h (Starts power) (orderly_fine w orderly)) h (Starts sync))

pub event_holds : (t : List Entry) (w : NodeWorld) (c : Happening) → HoldsRead t w → IsOrderly w → ThenRead t (world_step w c)
event_holds t w (Boots n) before orderly = boots_read t w before n
event_holds t w (IsCut n) before orderly = loses_read t w before n w refl
event_holds t w (Gives e m) before orderly =
    far_begins t w before (orderly_fine w orderly) e.link (sending e.link m) (sending_mute e.link m) (grind arith)
event_holds t w (Inits e identity pipes) before orderly =
    far_begins t w before (orderly_fine w orderly) e.link (beginning identity pipes) (tt, (tt, tt))
    ((λ k v. tt), ((λ k v. grind arith), tt))
event_holds t w (Takes e) before orderly = comes_read t w before orderly e NextFrame
event_holds t w (Loses e why) before orderly = lost_read t w before e why
event_holds t w Ticks before orderly = ticks_read t w before orderly
event_holds t w (Resets e window) before orderly = comes_read t w before orderly e (AsksReset window)
event_holds t w (Activates h sync power) before orderly = activates_read t w before orderly h sync power
event_holds t w (Arms n plan) before orderly =
    let m : Memory = record (memory_at w n) { plan = Some plan } in
    stays t w before (with_memory n m w) [] (written_same t w before n m) none_leaves
