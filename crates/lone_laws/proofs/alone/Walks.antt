-- What one walk over a history of a node alone finds says whether a fact of its answers holds; ticks are computed, and nothing is written
-- in a step.
use Rattle.lone_laws.proofs.Words.{AllByRecursion, AnsweredAlone, AreInTurn, Ascending, AtEachLoneEvent, AtEachNoted, Bool, Core, Deed, Done, Due, EndForm}
use Rattle.lone_laws.proofs.Words.{Entry, Fact, FrameComes, FrameIsRefused, Heard, HearsFirstAlone, Held, InTurn, IsDueAlone, IsHeldAlone, IsRepliedAlone}
use Rattle.lone_laws.proofs.Words.{IsResetAlone, List, LoneEvent, NodeInput, None, OnLine, Option, Port, Replied, Short, Some, StartComes}
use Rattle.lone_laws.proofs.Words.{StopComes, TickComes, TurnsAscendAlone, Work, [], arith, core_since, deeds_of, end_causes, entries_of_events_alone}
use Rattle.lone_laws.proofs.Words.{entry_written, false, first_lack_since, holds_in, is_asked_down, is_done_alone, is_fact, is_reset_alone, is_short_alone}
use Rattle.lone_laws.proofs.Words.{lack_since, list_any, noted_since, own_side, refl, replicate, reply_since, steps, sync_due, true, ℕ, ◌++◌, ◌∷◌, ◌≡◌}
use Rattle.gate_admin.specs.View.{hosts_where}
use Rattle.journal_laws.specs.Records.{found_from}
use Rattle.node_laws.proofs.answers.OneFact.{AllOthers, OnlyFails, all_others_hold, answers_found, answers_wanted, at_each, first_found, first_so, first_wanted}
use Rattle.node_laws.proofs.answers.OneFact.{heard_so, itself, none_behind, rise_ascends, same_at, same_behind, turns_rise}
use Rattle.node_laws.proofs.answers.OneFact.Fact.{Reset}
use Rattle.node_laws.proofs.readings.Noting.{NotesSo, steps_note}
use Rattle.node_laws.proofs.telling.Accounts.{AreMute, deeds_mute}
use Rattle.pipe_table.specs.PipeRows.{lowest_free}
use Rattle.swp_base.specs.Bits.{bits_of_byte}
use Rattle.lone_laws.proofs.alone.Examples.{c1_record, clf, uicc}
use Rattle.lone_laws.proofs.answered.Knowing.{are_in_turn}
use Rattle.swp_base.specs.declared.link_terms.FrameFault.TheVariants as fault
use Rattle.trace_model.specs.declared.entry.Entry.TheVariants as entry

-- ## Which periods of a line are ticks, and in what order a byte brings what it brings: computed

-- so many periods without bits
abbrev quiet : ℕ → List ℕ
quiet many = replicate many 85

-- ### The 512th period

not_the_511th : end_causes OnLine clf (quiet 511) ≡ []
unfolding bits_of_byte found_from hosts_where lowest_free
not_the_511th = refl

the_512th : end_causes OnLine clf (quiet 512) ≡ TickComes ∷ []
unfolding bits_of_byte found_from hosts_where lowest_free
the_512th = refl

-- ### What counts

-- an invalid byte isn't the 512th period
invalid_is_none : end_causes OnLine clf (quiet 511 ++ 1 ∷ []) ≡ []
unfolding bits_of_byte found_from hosts_where lowest_free
invalid_is_none = refl

-- nor is it a tick where it comes behind that one, or before all
invalid_behind : end_causes OnLine clf (quiet 512 ++ 1 ∷ []) ≡ TickComes ∷ []
unfolding bits_of_byte found_from hosts_where lowest_free
invalid_behind = refl

invalid_first : end_causes OnLine clf (1 ∷ []) ≡ []
unfolding bits_of_byte found_from hosts_where lowest_free
invalid_first = refl

-- a deactivation is a period, and the count goes on behind it
not_yet_behind : end_causes OnLine clf (quiet 300 ++ 0 ∷ quiet 210) ≡ StopComes ∷ []
unfolding bits_of_byte found_from hosts_where lowest_free
not_yet_behind = refl

goes_on_behind : end_causes OnLine clf (quiet 300 ++ 0 ∷ quiet 211) ≡ StopComes ∷ TickComes ∷ []
unfolding bits_of_byte found_from hosts_where lowest_free
goes_on_behind = refl

-- ### The order in a byte: start, frame or refusal, deactivation, tick

start_and_tick : end_causes OnLine uicc (quiet 511 ++ 64 ∷ []) ≡ StartComes 1 ∷ TickComes ∷ []
unfolding bits_of_byte found_from hosts_where lowest_free
start_and_tick = refl

frame_and_tick : end_causes OnLine uicc (quiet 472 ++ c1_record) ≡ StartComes 1 ∷ FrameComes (193 ∷ []) ∷ TickComes ∷ []
unfolding bits_of_byte found_from hosts_where lowest_free
frame_and_tick = refl

deactivation_and_tick : end_causes OnLine clf (quiet 511 ++ 0 ∷ []) ≡ StopComes ∷ TickComes ∷ []
unfolding bits_of_byte found_from hosts_where lowest_free
deactivation_and_tick = refl

all_in_one : end_causes OnLine uicc (quiet 503 ++ (64 ∷ 84 ∷ 84 ∷ 84 ∷ 84 ∷ 84 ∷ 84 ∷ 64 ∷ 0 ∷ []))
    ≡ StartComes 1 ∷ FrameIsRefused fault.Broken ∷ StopComes ∷ TickComes ∷ []
unfolding bits_of_byte found_from hosts_where lowest_free
all_in_one = refl

-- ## In a step of a node nothing is written for what it notes: its frames go out behind it

-- nothing is written for an entry
abbrev pub IsUnwritten : Entry → Type 0
IsUnwritten x = (form : EndForm) (number : ℕ) → entry_written form number x ≡ []

mute_unwritten : (deeds : List Deed) → AreMute deeds → AllByRecursion (NotesSo IsUnwritten) deeds
mute_unwritten [] all = tt
mute_unwritten (d ∷ deeds) all = let h0 = mute_unwritten deeds all.1 in grind arith

any_ends : (ports : List Port) → AllByRecursion (λ (p : Port). Unit {0}) ports
any_ends [] = tt
any_ends (p ∷ ports) = (tt, any_ends ports)

pub steps_unwritten : (input : NodeInput) (w : Work) → AllByRecursion IsUnwritten w.entries → AllByRecursion IsUnwritten (steps input w).entries
steps_unwritten input w none =
    (steps_note IsUnwritten w.core.node (own_side w.core) (λ h. Unit {0}) (λ h x at own. grind arith)
    (λ h pid message at form number. refl) (λ x own. grind arith)
    (λ core ports h m is. mute_unwritten (deeds_of core ports h m) (deeds_mute core ports h m)) input w
    (record { number = refl; side = refl; ends = any_ends w.ports; so = none })).so

-- ## What one walk over a history of a node alone finds says whether a fact of its answers holds

-- ### Walks

abbrev entries_of : LoneEvent → List Entry
entries_of o = o.entries

-- Two things agree at each event, behind the entries before it, or at each entry.
abbrev AgreeAtEvents : {X : Type 0} → (List Entry → LoneEvent → X) → (List Entry → LoneEvent → X) → List LoneEvent → Type 0
AgreeAtEvents f g events = at_each entries_of (λ t o back. f t o) [] events ≡ at_each entries_of (λ t o back. g t o) [] events

abbrev AgreeAtEntries : {X : Type 0} → (List Entry → Entry → List Entry → X) → (List Entry → Entry → List Entry → X) → List LoneEvent → Type 0
AgreeAtEntries f g events = AgreeAtEvents (λ t o. at_each itself f t o.entries) (λ t o. at_each itself g t o.entries) events

agree_here : {X : Type 0} (f g : List Entry → LoneEvent → X) (events : List LoneEvent) → AgreeAtEvents f g events
    → AtEachLoneEvent events (λ t o. f t o ≡ g t o)
agree_here f g events same past back o at = same_at entries_of (λ t o back. f t o) (λ t o back. g t o) [] events past back o same at

agree_inside : {X : Type 0} (f g : List Entry → Entry → List Entry → X) (events : List LoneEvent) → AgreeAtEntries f g events
    → AtEachNoted events (λ t x behind. f t x behind ≡ g t x behind)
agree_inside f g events same past back o front behind x at inside =
    same_behind f g (entries_of_events_alone past) o.entries front behind x
    (agree_here (λ t o. at_each itself f t o.entries) (λ t o. at_each itself g t o.entries) events same past back o at) inside

-- ### What is found, and what is wanted

module _ (core : Core) (h : ℕ) where
  -- at a turn what lacks, and the answers behind it
  abbrev turn_found : List Entry → Entry → List Entry → Option (Option (ℕ × ℕ) × List Entry)
  turn_found t (entry.Turn e pid message) behind = Some (lack_since core h t (pid, message), answers_found core.node behind)
  turn_found t _ behind = None

  abbrev turn_wanted : List Entry → Entry → List Entry → Option (Option (ℕ × ℕ) × List Entry)
  turn_wanted t (entry.Turn e pid message) behind = Some (None, answers_wanted core.node behind (noted_since core h t (reply_since core h t (pid, message))))
  turn_wanted t _ behind = None

  turn_so : (t : List Entry) (x : Entry) (behind : List Entry) → turn_found t x behind ≡ turn_wanted t x behind → IsRepliedAlone core h t x behind
  turn_so t x behind same = grind arith

  -- where a message is noted as held, whether it was so before, and what the first one lacks
  abbrev held_found : List Entry → Entry → List Entry → Option (Bool × Option (ℕ × ℕ))
  held_found t (entry.Held e need spare) behind = Some (holds_in t e, first_lack_since core h t)
  held_found t _ behind = None

  abbrev held_wanted : List Entry → Entry → List Entry → Option (Bool × Option (ℕ × ℕ))
  held_wanted t (entry.Held e need spare) behind = Some (false, Some (need, spare))
  held_wanted t _ behind = None

  held_so : (t : List Entry) (x : Entry) (behind : List Entry) → held_found t x behind ≡ held_wanted t x behind → IsHeldAlone core h t x behind
  held_so t x behind same = grind arith

  -- ### Facts

  abbrev pub FactOf : Fact → List LoneEvent → Type 0
  FactOf InTurn events = AreInTurn (entries_of_events_alone events)
  FactOf Replied events = AtEachNoted events (IsRepliedAlone core h)
  FactOf Held events = AtEachNoted events (IsHeldAlone core h)
  FactOf Done events = AtEachLoneEvent events (λ t o. is_done_alone core h t o ≡ true)
  FactOf Short events = AtEachLoneEvent events (λ t o. is_short_alone core h t o ≡ true)
  FactOf Due events = AtEachLoneEvent events (IsDueAlone core h)
  FactOf Reset events = AtEachLoneEvent events (IsResetAlone core h)
  FactOf Ascending events = AtEachLoneEvent events TurnsAscendAlone
  FactOf Heard events = AtEachNoted events (λ t x behind. HearsFirstAlone x behind)

  -- what a walk finds of it is what is wanted
  abbrev pub IsFound : Fact → List LoneEvent → Type 0
  IsFound InTurn events = AgreeAtEntries first_found first_wanted events
  IsFound Replied events = AgreeAtEntries turn_found turn_wanted events
  IsFound Held events = AgreeAtEntries held_found held_wanted events
  IsFound Done events = AgreeAtEvents (is_done_alone core h) (λ t o. true) events
  IsFound Short events = AgreeAtEvents (is_short_alone core h) (λ t o. true) events
  IsFound Due events =
      AgreeAtEvents (λ t o. answers_found core.node o.entries)
      (λ t o. answers_wanted core.node o.entries (noted_since core h t (sync_due (core_since core t) h o.cause))) events
  IsFound Reset events = AgreeAtEvents (λ t o. list_any is_asked_down o.entries) (λ t o. is_reset_alone core h t o.cause) events
  IsFound Ascending events = AgreeAtEvents (λ t o. turns_rise o.entries) (λ t o. true) events
  IsFound Heard events = AgreeAtEntries (λ t x behind. none_behind x behind) (λ t x behind. true) events

  found_holds : (g : Fact) (events : List LoneEvent) → IsFound g events → FactOf g events
  found_holds InTurn events q =
      are_in_turn events (λ past back o front behind x at inside.
      first_so (entries_of_events_alone past ++ front) x behind (agree_inside first_found first_wanted events q past back o front behind x at inside))
  found_holds Replied events q =
      λ past back o front behind x at inside.
      turn_so (entries_of_events_alone past ++ front) x behind (agree_inside turn_found turn_wanted events q past back o front behind x at inside)
  found_holds Held events q =
      λ past back o front behind x at inside.
      held_so (entries_of_events_alone past ++ front) x behind (agree_inside held_found held_wanted events q past back o front behind x at inside)
  found_holds Done events q = agree_here (is_done_alone core h) (λ t o. true) events q
  found_holds Short events q = agree_here (is_short_alone core h) (λ t o. true) events q
  found_holds Due events q =
      agree_here (λ t o. answers_found core.node o.entries)
      (λ t o. answers_wanted core.node o.entries (noted_since core h t (sync_due (core_since core t) h o.cause))) events q
  found_holds Reset events q = agree_here (λ t o. list_any is_asked_down o.entries) (λ t o. is_reset_alone core h t o.cause) events q
  found_holds Ascending events q =
      λ past back o at n.
      rise_ascends n o.entries (agree_here (λ t o. turns_rise o.entries) (λ t o. true) events q past back o at)
  found_holds Heard events q =
      λ past back o front behind x at inside.
      heard_so x behind (agree_inside (λ t x behind. none_behind x behind) (λ t x behind. true) events q past back o front behind x at inside)

  -- this fact refuses a history, and each other one holds of it
  abbrev pub RefusedByOnly : Fact → List LoneEvent → Type 0
  RefusedByOnly f events = OnlyFails (λ g. FactOf g events) f

  pub others_hold : (f : Fact) (events : List LoneEvent) → AllOthers (λ g. IsFound g events) f → (g : Fact) → is_fact f g ≡ false → FactOf g events
  others_hold f events all = all_others_hold (λ g. FactOf g events) (λ g. IsFound g events) (λ g. found_holds g events) f all

  -- A history of which all facts are found is answered.
  pub all_found : (events : List LoneEvent) → ((g : Fact) → IsFound g events) → AnsweredAlone core h events
  all_found events found = record {
    in_turn = found_holds InTurn events (found InTurn);
    replied = found_holds Replied events (found Replied);
    held = found_holds Held events (found Held);
    done = found_holds Done events (found Done);
    short = found_holds Short events (found Short);
    due = found_holds Due events (found Due);
    reset = found_holds Reset events (found Reset);
    ascending = found_holds Ascending events (found Ascending);
    heard = found_holds Heard events (found Heard);
  }
