-- What a host keeps in the midst of a step is what is read off all entries until there, and no end of it has a block set aside.
use Rattle.node_laws.proofs.Words.{AtEnd, ComesTo, Deed, Entry, ErrorCount, Init, IsHost, IsOnOrder, IsOutside, LastsOverTurns, LinkState, List, Memory}
use Rattle.node_laws.proofs.Words.{Message, NodeInput, None, Option, Port, Reset, StillRuns, Tick, TimePasses, Work, [], after_sessions, all_come, all_done}
use Rattle.node_laws.proofs.Words.{all_map, ap, arith, by_test, comes_to_pass, deeds_of, end_h, eqb, false, forgets, forgotten, handles, has_come, has_come_so}
use Rattle.node_laws.proofs.Words.{has_freed, has_synced, holds_back, input_at, inr, is_late, is_over, lacking, lets_go, map, owed_in_step, refl, reset_late}
use Rattle.node_laws.proofs.Words.{subst, sym, syncs_in, true, waiting_at, with_older, without_notice, ℕ, ◌∙◌, ◌∷◌, ◌≡◌}
use Rattle.node_laws.proofs.creations.Coming.{input_aside}
use Rattle.node_laws.proofs.creations.HostSides.{EachEndHas, ends_last, turn_none}
use Rattle.node_laws.proofs.kept.Doing.{GoesOn_or_lost}
use Rattle.node_laws.proofs.kept.Stepping.{deeds_fit, deeds_may, handles_fine, holds_fine, lets_fine}
use Rattle.node_laws.proofs.notices.Near.{IsOwn, all_owed_own, all_synced_own, deeds_own, forgotten_own}
use Rattle.node_laws.proofs.passes.Replying.{HasFirst, has_first}
use Rattle.node_laws.proofs.passes.Passing.{comes_so, holds_notes, lets_notes}
use Rattle.node_laws.proofs.read_rooms.Beginning.{only_end}
use Rattle.node_laws.proofs.readings.Turning.{Runs, Stands, deeds_stand, holds_stand, lets_stand}
use Rattle.node_laws.proofs.steps.StepWalks.{Lasts, all_last, handled, holds_of_step_walks as holds, lets, sessions_node, unless}
use Rattle.node_laws.proofs.views.Doing.{Right, holds as holds_right, lets as lets_right}
use Rattle.node_laws.proofs.views.Going.{Stands as Inits, deeds_is, handled as handled_of_going, holds as holds_of_going, lets as lets_of_going}
use Rattle.node_laws.proofs.views.Turning.{handled as handled_right}

-- ## No end of a host has a block set aside, at each turn of a step

-- no block is set aside at an end
abbrev pub HasNone : Port → Type 0
HasNone p = p.side.aside ≡ 0

-- so it is with each end of a node that isn't the controller
abbrev pub HaveNone : Work → Type 0
HaveNone w = EachEndHas HasNone w

abbrev Any : ℕ → Message → Type 0
Any h m = Unit {0}

none_lasts : Lasts HaveNone IsOwn Any
none_lasts = ends_last HasNone (λ t p is b. turn_none p.side t is b) (λ f p b. b)

-- ### Steps

come_none : (input : NodeInput) (p : Port) → IsOutside input → HasNone p → HasNone (has_come p (input_at input p))
come_none (AtEnd h i) p outside a = by_test (eqb p.desk.host h) (λ q. rw q (input_aside p.side i outside ∙ a)) (λ q. rw q a)
come_none TimePasses p outside a = input_aside p.side Tick tt ∙ a

late_none : (p : Port) → HasNone p → HasNone (reset_late p)
late_none p a = by_test (is_late p) (λ q. rw q (input_aside p.side (Reset None) tt ∙ a)) (λ q. rw q a)

all_came : (input : NodeInput) (w : Work) → IsOutside input → HaveNone w → HaveNone (all_come input w)
all_came input w outside a =
    record { number = a.number; ends = all_map HasNone HasNone (λ p. has_come p (input_at input p)) (λ p b. come_none input p outside b) w.ports a.ends }

came_none : (input : NodeInput) (w : Work) → IsOutside input → HaveNone w → HaveNone (has_come_so input w)
came_none (AtEnd h i) w outside a = all_came (AtEnd h i) w outside a
came_none TimePasses w outside a =
    let b : HaveNone (all_come TimePasses w) = all_came TimePasses w outside a in record {
      number = b.number;
      ends = all_map HasNone HasNone reset_late late_none (map with_older (all_come TimePasses w).ports)
          (all_map HasNone HasNone with_older (λ p c. c) (all_come TimePasses w).ports b.ends);
    }

without_none : (p : Port) → HasNone p → HasNone (without_notice p)
without_none p a = by_test (is_over p) (λ q. rw q a) (λ q. rw q a)

-- as its pass begins
pub begun_none : (input : NodeInput) (w : Work) → IsOutside input → HaveNone w → HaveNone (comes_to_pass input w)
begun_none input w outside a =
    let came : Work = has_come_so input w in
    let b : HaveNone came = came_none input w outside a in
    let start : Work = record came { core = after_sessions came.core came.ports; ports = map without_notice (map (forgets came.ports) came.ports) } in
    let first : HaveNone start = record {
      number = ap (λ n. eqb n 0) (sessions_node came.core came.ports) ∙ b.number;
      ends = all_map HasNone HasNone without_notice without_none (map (forgets came.ports) came.ports)
          (all_map HasNone HasNone (forgets came.ports) (λ p c. grind arith) came.ports b.ends);
    } in
    let one : HaveNone (has_freed input w) = all_last HaveNone IsOwn Any none_lasts 0 (forgotten came.ports) start (forgotten_own came.ports) first in
    let two : HaveNone (has_synced input w) =
    all_last HaveNone IsOwn Any none_lasts 0 (syncs_in input w) (has_freed input w) (all_synced_own w.core input w.ports) one in
    unless HaveNone (all_done 0 (owed_in_step input w)) (has_synced input w)
    (λ v c. all_last HaveNone IsOwn Any none_lasts 0 (owed_in_step input w) v (all_owed_own (map (forgets came.ports) came.ports)) c) two

-- and at each of its turns
pub comes_none : (w v : Work) → HaveNone w → ComesTo w v → HaveNone v
comes_none w v a c = comes_so HaveNone (record {
  handled = λ u h m messages b on waiting room still. handled HaveNone IsOwn Any none_lasts h m (deeds_of u.core u.ports h m) u tt
      (deeds_own u.core u.ports h m b.number) b;
  held = λ u h m messages short b on waiting lacks. holds HaveNone none_lasts.held none_lasts.marked none_lasts.held_told h short u b;
  let_go = λ u h b on waiting. lets HaveNone none_lasts.held h u b;
}) w a v c

-- ## What a host keeps in the midst of a step is what is read off all entries until there
-- Its command, its init, REC_ERROR, its tables and the count of its commands. It lasts over its turns.

module _ (n : ℕ) (host : IsHost n) (u : List Entry) (i0 : Option Init) (x0 : ErrorCount) (memory : Memory) (order_phase init_phase : LinkState) where
  -- A host in a step, before which these entries were noted, behind which this init ran, and REC_ERROR was that.
  pub record HostKnows (w : Work) : Type 0 where
    pub order : Runs n host u order_phase w
    pub inits : Inits n host i0 init_phase w
    pub errors : Right (end_h n) (n ∷ []) x0 w
    pub kept : StillRuns n (n ∷ []) memory u w
    pub on : IsOnOrder w.core.command w.core.init

  pub single : (end_h n).at_host ≡ true → n ∷ [] ≡ (end_h n).link ∷ []
  single far = refl

  still_kept : (w : Work) → w.cut ≡ false → GoesOn_or_lost n (n ∷ []) memory u w → StillRuns n (n ∷ []) memory u w × IsOnOrder w.core.command w.core.init
  still_kept w still a = grind arith

  -- so it is, where the power is on
  pub host_knows : (w : Work) → w.cut ≡ false → Stands n host u order_phase w → Inits n host i0 init_phase w → Right (end_h n) (n ∷ []) x0 w
      → GoesOn_or_lost n (n ∷ []) memory u w → HostKnows w
  host_knows w still order inits errors kept =
      let both = still_kept w still kept in
      record { order = grind arith; inits = inits; errors = errors; kept = both.0; on = both.1 }

  -- messages wait at its own end alone
  pub own_end : (w : Work) (h : ℕ) (m : Message) (messages : List Message) → HostKnows w → waiting_at w.ports h ≡ m ∷ messages → n ≡ h
  own_end w h m messages k waiting =
      let first : HasFirst w.ports h m messages = has_first w.ports h m messages waiting in only_end w.ports n h first.port k.kept.hosts_are first.here

  handled_knows : (w : Work) (h : ℕ) (m : Message) (messages : List Message) → HostKnows w → w.cut ≡ false → waiting_at w.ports h ≡ m ∷ messages
      → lacking w h m ≡ None → (handles h m (deeds_of w.core w.ports h m) w).cut ≡ false → HostKnows (handles h m (deeds_of w.core w.ports h m) w)
  handled_knows w h m messages k on waiting room still = subst P (own_end w h m messages k waiting) own waiting room still where
    P : ℕ → Type 0
    P j = waiting_at w.ports j ≡ m ∷ messages → lacking w j m ≡ None → (handles j m (deeds_of w.core w.ports j m) w).cut ≡ false
        → HostKnows (handles j m (deeds_of w.core w.ports j m) w)

    deeds : List Deed
    deeds = deeds_of w.core w.ports n m

    own : P n
    own waits roomy uncut =
        let first : HasFirst w.ports n m messages = has_first w.ports n m messages waits in
        host_knows (handles n m deeds w) uncut (deeds_stand n host u order_phase w m k.order roomy)
        (subst (λ d. Inits n host i0 init_phase (handles n m d w)) (sym (deeds_is n host i0 init_phase m w k.inits.base))
        (handled_of_going n host i0 init_phase m w on k.inits k.inits.base))
        (handled_right (end_h n) (n ∷ []) x0 single n m first.port w on first.here roomy k.errors)
        (handles_fine n (n ∷ []) memory u (inr host) w n m deeds k.kept (deeds_may n (n ∷ []) memory u (inr host) w n m k.kept k.on host)
        (deeds_fit n (n ∷ []) memory u (inr host) w n m k.kept))

  pub knows_lasts : LastsOverTurns HostKnows
  knows_lasts = record {
    handled = handled_knows;
    held = λ w h m messages short k on waiting lacks.
        host_knows (holds_back h short w) ((holds_notes h short w).power ∙ on) (holds_stand n host u order_phase h short w k.order)
        (holds_of_going n host i0 init_phase h short w k.inits) (holds_right (end_h n) (n ∷ []) x0 h short w k.errors)
        (holds_fine n (n ∷ []) memory u (inr host) w h short k.kept k.on);
    let_go = λ w h k on waiting.
        host_knows (lets_go h w) ((lets_notes h w).power ∙ on) (lets_stand n host u order_phase h w k.order) (lets_of_going n host i0 init_phase h w k.inits)
        (lets_right (end_h n) (n ∷ []) x0 h w k.errors) (lets_fine n (n ∷ []) memory u (inr host) w h k.kept k.on);
  }
