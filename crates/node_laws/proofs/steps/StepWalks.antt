-- What lasts over each thing that a node does lasts over its step: so do whitelists while a host is asked, and creations that wait allowed.
use Rattle.std.proofs.lemmas.List.Sums.{sum_by-cons}
use Rattle.node_laws.proofs.Words.{AllByRecursion, Answer, AreTables, Ask, Asks, AsksAsAllowed, Bool, Command, Commit, Commits, Core, Decision, Deed}
use Rattle.node_laws.proofs.Words.{FetchMessage, HciTables, Hold, IsAllowedBy, IsAllowedFor, IsAllowedStill, IsCommand, IsTrue, LinkInput, LinkView, List}
use Rattle.node_laws.proofs.Words.{MayWait, Message, OfDecision, Option, Plain, Port, Some, Sync, Tells, Work, [], after_sessions, all_done, all_false}
use Rattle.node_laws.proofs.Words.{all_of_controller, answers_and_passes, anyone, ap, apply, arith, asked_at, body_in, by_option, by_test, changed_if}
use Rattle.node_laws.proofs.Words.{cond_both, controller_deeds, decided, decided_as_allowed, decided_holds, deeds_of, done, end_of_node, eqb, false, filter}
use Rattle.node_laws.proofs.Words.{forgets, goes_through_ends, handles, has, has_come, have_turns, holds_back, inl, inr, is_asked_at, is_forgotten, is_held}
use Rattle.node_laws.proofs.Words.{is_kept, is_late, is_over, lack, lets_go, list_any, mask_of, needs, noting, option_map_or, passes, port_at, refl, reset_late}
use Rattle.node_laws.proofs.Words.{subst, suc, sym, tests_to_clear, tests_to_set_it, true, turn_at, unless_cut, value_at, view_for, view_of, with_desk}
use Rattle.node_laws.proofs.Words.{without_notice, zero, ℕ, ◌%◌, ◌*◌, ◌+◌, ◌/◌, ◌^◌, ◌∙◌, ◌∷◌, ◌≡◌, ◌≤◌, ◌⊎◌}
use Rattle.gate_admin.proofs.CreationLemmas.{AllFalse}
use Rattle.gate_admin.specs.View.{hosts_where, is_asked}
use Rattle.tables_laws.proofs.tables.Values.{values-apply}
use Rattle.tables_laws.specs.gate.Rules.{EndsAtController}
use Rattle.tables_laws.specs.tables.Changes.{told_value}
use Rattle.whitelist.specs.Whitelist.{holds}
use Rattle.node_laws.specs.steps.Creations.{AreAllowedDeeds, DeedLeavesWhitelist, IsAllowedDeed, IsBeingAsked, IsWaitedFor, LeavesWhitelist, WaitsForPipes}
use Rattle.trace_model.specs.declared.entry.Entry.TheVariants as entry

-- ## What an input leaves of a port of a node, and of its core

pub come_host : (p : Port) (o : Option LinkInput) → (has_come p o).desk.host ≡ p.desk.host
come_host p o = grind arith

pub forgets_host : (ports : List Port) (p : Port) → (forgets ports p).desk.host ≡ p.desk.host
forgets_host ports p = cond_both (is_forgotten ports (asked_at p)) _ p (λ q. q.desk.host ≡ p.desk.host) (λ _. refl) (λ _. refl)

pub late_host : (p : Port) → (reset_late p).desk.host ≡ p.desk.host
late_host p = cond_both (is_late p) _ p (λ q. q.desk.host ≡ p.desk.host) (λ _. refl) (λ _. refl)

pub without_host : (p : Port) → (without_notice p).desk.host ≡ p.desk.host
without_host p = cond_both (is_over p) _ p (λ q. q.desk.host ≡ p.desk.host) (λ _. refl) (λ _. refl)

pub changed_host : (b : Bool) (g : Port → Port) (p : Port) → ((q : Port) → (g q).desk.host ≡ q.desk.host) → (changed_if b g p).desk.host ≡ p.desk.host
changed_host b g p keeps = grind arith

pub sessions_node : (core : Core) (ports : List Port) → (after_sessions core ports).node ≡ core.node
sessions_node core ports = by_test (list_any is_over ports) (λ q. rw q refl) (λ q. rw q refl)

-- what holds of all ends holds of the end with this host
pub at_port : (P : Port → Type 0) (ports : List Port) (h : ℕ) (p : Port) → AllByRecursion P ports → port_at ports h ≡ Some p → P p
at_port P [] h p all here = absurd (cc here)
at_port P (q ∷ ports) h p all here =
    cond_both (eqb q.desk.host h) (Some q) (port_at ports h) (λ o. o ≡ Some p → P p) (λ _ is. let same : q ≡ p = cc in subst P same all.0)
    (λ _ is. at_port P ports h p all.1 is) here

-- ## What a controller does with a message commits and asks for creations only as it may

plain : (t : HciTables) (ports : List Port) (h : ℕ) → Plain (IsAllowedDeed t ports h)
plain t ports h = record { sends = λ to x. tt; says_ok = tt; releases = λ asker. tt; is_answered = tt; drops = λ pid. tt }

decision_fine : (t : HciTables) (ports : List Port) (h : ℕ) (d : Decision) → AsksAsAllowed t (view_for t ports h) h d → OfDecision (IsAllowedDeed t ports h) h d
decision_fine t ports h (Answer answer) fine = tt
decision_fine t ports h (Commit c answer tell notice) fine =
    (inl fine, anyone (λ y. IsAllowedDeed t ports h (Tells y notice.items)) (λ y. tt) (hosts_where (has tell)))
decision_fine t ports h (Ask asked notice c answer) fine = (fine, refl)

pub controller_fine : (core : Core) (ports : List Port) (h : ℕ) (m : Message) → AreAllowedDeeds core.tables ports h (controller_deeds (view_of core ports) h m)
controller_fine core ports h m =
    all_of_controller (IsAllowedDeed core.tables ports h) (plain core.tables ports h) core ports h m
    (λ n. decision_fine core.tables ports h (decided core.tables (view_for core.tables ports h) h m.0 n (body_in m.1))
    (decided_as_allowed core.tables (view_for core.tables ports h) h m.0 n (body_in m.1)))
    (λ p c here asked. inr (record { port = p; creation = c; here = here; asked = asked; command = refl }))
    (λ errors n value command gate is. tt)

-- ## A command that neither sets nor clears the whitelist of a host leaves it as it is

synced : (t : HciTables) (h id x : ℕ) → told_value t (Sync h id) x 3 ≡ value_at t.values x 0 3
synced t h id x = grind arith

left : (t : HciTables) (c : Command) (x : ℕ) → LeavesWhitelist x c → told_value t c x 3 ≡ value_at t.values x 0 3
left t c x leaves = grind arith

kept : (x : ℕ) → 1 ≤ x → x ≤ 7 → IsTrue (is_kept x 0 3)
kept x some most = grind arith

pub whitelist_left : (t : HciTables) (c : Command) (x : ℕ) → AreTables t → IsCommand c → 1 ≤ x → x ≤ 7 → LeavesWhitelist x c
    → value_at (apply t c).values x 0 3 ≡ value_at t.values x 0 3
whitelist_left t c x are may some most leaves = values-apply t c x 3 are may (kept x some most) ∙ left t c x leaves

-- ## A host that passes a test is in the mask of the hosts that pass it

-- one where it is so
pub bit : Bool → ℕ
bit true = 1
bit false = 0

bit_one : (b : Bool) → b ≡ true → bit b ≡ 1
unfolding bit
bit_one b e = grind arith

pub bit_most : (b : Bool) → bit b ≤ 1
unfolding bit
bit_most b = grind arith

once : (p s : ℕ) → p + s ≡ 1 * p + s
once p s = omega arith

never : (p s : ℕ) → s ≡ 0 * p + s
never p s = omega arith

pub bit_none : (b : Bool) → b ≡ false → bit b ≡ 0
unfolding bit
bit_none b e = grind arith

more : (test : ℕ → Bool) (x : ℕ) (xs : List ℕ) → mask_of (filter test (x ∷ xs)) ≡ bit (test x) * 2 ^ x + mask_of (filter test xs)
more test x xs =
    let s : ℕ = mask_of (filter test xs) in
    cond_both (test x) (x ∷ filter test xs) (filter test xs) (λ ys. mask_of ys ≡ bit (test x) * 2 ^ x + s)
    (λ passed. sum_by-cons (λ h. 2 ^ h) x (filter test xs) ∙ (once (2 ^ x) s ∙ ap (λ b. b * 2 ^ x + s) (sym (bit_one (test x) passed))))
    (λ failed. never (2 ^ x) s ∙ ap (λ b. b * 2 ^ x + s) (sym (bit_none (test x) failed)))

-- a mask is the sum of the places of the hosts that pass
pub digits : (test : ℕ → Bool) → mask_of (hosts_where test)
    ≡ 2 * bit (test 1) + 4 * bit (test 2) + 8 * bit (test 3) + 16 * bit (test 4) + 32 * bit (test 5) + 64 * bit (test 6) + 128 * bit (test 7)
unfolding hosts_where
digits test =
    let a = more test 1 (2 ∷ 3 ∷ 4 ∷ 5 ∷ 6 ∷ 7 ∷ []) in
    let b = more test 2 (3 ∷ 4 ∷ 5 ∷ 6 ∷ 7 ∷ []) in
    let c = more test 3 (4 ∷ 5 ∷ 6 ∷ 7 ∷ []) in
    let d = more test 4 (5 ∷ 6 ∷ 7 ∷ []) in
    let e = more test 5 (6 ∷ 7 ∷ []) in
    let f = more test 6 (7 ∷ []) in
    let g = more test 7 [] in
    let last : mask_of (filter test []) ≡ 0 = refl in
    omega arith

pub is_in_mask : (test : ℕ → Bool) (x : ℕ) → 1 ≤ x → x ≤ 7 → test x ≡ true → has (mask_of (hosts_where test)) x ≡ true
is_in_mask test x some most passed = by_host x some most passed where
  m : ℕ
  m = mask_of (hosts_where test)

  one : (k : ℕ) → m / k % 2 ≡ 1 → eqb (m / k % 2) 1 ≡ true
  one k e = ap (λ n. eqb n 1) e

  by_host : (x : ℕ) → 1 ≤ x → x ≤ 7 → test x ≡ true → has m x ≡ true
  by_host zero some most passed = absurd (omega arith)
  by_host (suc zero) some most passed = one 2 (omega (
    arith,
    digits test,
    bit_one (test 1) passed,
    bit_most (test 2),
    bit_most (test 3),
    bit_most
        (test 4),
    bit_most (test 5),
    bit_most (test 6),
    bit_most (test 7),
  ))
  by_host (suc (suc zero)) some most passed = one 4 (omega (
    arith,
    digits test,
    bit_one (test 2) passed,
    bit_most (test 1),
    bit_most (test 3),
    bit_most
        (test 4),
    bit_most (test 5),
    bit_most (test 6),
    bit_most (test 7),
  ))
  by_host (suc (suc (suc zero))) some most passed = one 8 (omega (
    arith,
    digits test,
    bit_one (test 3) passed,
    bit_most (test 1),
    bit_most (test 2),
    bit_most
        (test 4),
    bit_most (test 5),
    bit_most (test 6),
    bit_most (test 7),
  ))
  by_host (suc (suc (suc (suc zero)))) some most passed = one 16 (omega (
    arith,
    digits test,
    bit_one (test 4) passed,
    bit_most (test 1),
    bit_most
        (test 2),
    bit_most (test 3),
    bit_most (test 5),
    bit_most (test 6),
    bit_most (test 7),
  ))
  by_host (suc (suc (suc (suc (suc zero))))) some most passed = one 32 (omega (
    arith,
    digits test,
    bit_one (test 5) passed,
    bit_most (test 1),
    bit_most
        (test 2),
    bit_most (test 3),
    bit_most (test 4),
    bit_most (test 6),
    bit_most (test 7),
  ))
  by_host (suc (suc (suc (suc (suc (suc zero)))))) some most passed = one 64 (omega (
    arith,
    digits test,
    bit_one (test 6) passed,
    bit_most (test 1),
    bit_most
        (test 2),
    bit_most (test 3),
    bit_most (test 4),
    bit_most (test 5),
    bit_most (test 7),
  ))
  by_host (suc (suc (suc (suc (suc (suc (suc zero))))))) some most passed = one 128 (omega (
    arith,
    digits test,
    bit_one (test 7) passed,
    bit_most
        (test 1),
    bit_most (test 2),
    bit_most (test 3),
    bit_most (test 4),
    bit_most (test 5),
    bit_most (test 6),
  ))
  by_host (suc (suc (suc (suc (suc (suc (suc (suc n)))))))) some most passed = absurd (omega arith)

-- ## While a host is asked for a creation, nothing that a controller commits sets or clears its whitelist

-- ### Decisions

-- what is decided leaves the whitelist of this host
abbrev Leaves : ℕ → Decision → Type 0
Leaves x (Answer answer) = Unit {0}
Leaves x (Commit command answer tell notice) = LeavesWhitelist x command
Leaves x (Ask host notice command answer) = Unit {0}

decided_leaves : (t : HciTables) (v : LinkView) (h pipe instruction x : ℕ) (body : List ℕ) → is_asked v x ≡ true
    → Leaves x (decided t v h pipe instruction body)
unfolding AllFalse
decided_leaves t v h pipe instruction x body asked =
    decided_holds (Leaves x) t v h pipe body instruction (λ r value. tt) (λ _. record {
      opens = tt;
      closes = tt;
      sets = λ passed.
          let none = all_false (tests_to_set_it v h body) passed in (grind arith);
      makes = λ _ controller. tt;
      asks = λ _ other. tt;
      deletes = λ _. tt;
      clears = λ passed. let none = all_false (tests_to_clear t v h body) passed in (grind arith);
    })

-- ### Deeds

decision_fine_of_whitelists : (x h : ℕ) (d : Decision) → Leaves x d → OfDecision (DeedLeavesWhitelist x) h d
decision_fine_of_whitelists x h (Answer answer) leaves = tt
decision_fine_of_whitelists x h (Commit c answer tell notice) leaves =
    (leaves, anyone (λ y. DeedLeavesWhitelist x (Tells y notice.items)) (λ y. tt) (hosts_where (has tell)))
decision_fine_of_whitelists x h (Ask asked notice c answer) leaves = tt

-- the view shows that the host is asked
seen : (t : HciTables) (ports : List Port) (h x : ℕ) → IsBeingAsked ports x → is_asked (view_for t ports h) x ≡ true
seen t ports h x asks =
    is_in_mask (λ y. option_map_or is_asked_at (port_at ports y) false) x asks.some asks.most
    (ap (λ o. option_map_or is_asked_at o false) asks.here ∙ asks.asked)

pub whitelists_stay : (core : Core) (ports : List Port) (h : ℕ) (m : Message) (x : ℕ) → IsBeingAsked ports x → WaitsForPipes ports h
    → AllByRecursion (DeedLeavesWhitelist x) (controller_deeds (view_of core ports) h m)
whitelists_stay core ports h m x asked waits =
    let v : LinkView = view_for core.tables ports h in
    all_of_controller (DeedLeavesWhitelist x) (grind arith) core ports h m
    (λ n. decision_fine_of_whitelists x h (decided core.tables v h m.0 n (body_in m.1))
    (decided_leaves core.tables v h m.0 n x (body_in m.1) (seen core.tables ports h x asked)))
    (λ p c here asks. grind arith) (λ errors n value command gate is. tt)

-- ## Creations that wait stay allowed

-- ### One command

-- the host is one from 01 to 07
pub within : (t : HciTables) (h : ℕ) (c : Command) → IsAllowedFor t h c → (1 ≤ h) × (h ≤ 7)
within t h c is = grind arith

-- tables with the same whitelist allow the same
pub same_list : (t u : HciTables) (h : ℕ) (c : Command) → value_at u.values h 0 3 ≡ value_at t.values h 0 3 → IsAllowedFor t h c → IsAllowedFor u h c
same_list t u h c same is = grind arith

at_once : (t : HciTables) (c : Command) → EndsAtController c → IsAllowedBy t c
at_once t c ends = grind arith

-- ### Hosts that are asked

waits_for_pipes : (t : HciTables) (ports : List Port) (h : ℕ) → MayWait t ports → WaitsForPipes ports h
waits_for_pipes t ports h may p c here asked = grind arith

-- ### A message

-- for each host that is asked, and so for all of them
swapped : {X : Type 0} (P : X → Deed → Type 0) (deeds : List Deed) → ((x : X) → AllByRecursion (P x) deeds) → AllByRecursion (λ d. (x : X) → P x d) deeds
swapped P [] all = tt
swapped P (d ∷ deeds) all = ((λ x. (all x).0), swapped P deeds (λ x. (all x).1))

-- a host that is asked
record Asked (ports : List Port) : Type 0 where
  host : ℕ
  asked : IsBeingAsked ports host

module _ (core : Core) (ports : List Port) (h : ℕ) (sorted : AreTables core.tables) (may : MayWait core.tables ports) where
  one : (d : Deed) → IsAllowedDeed core.tables ports h d → ((x : Asked ports) → DeedLeavesWhitelist x.host d) → IsAllowedStill core.tables ports d
  one (Commits c) allowed leaves = (by_way allowed, kept) where
    by_way : EndsAtController c ⊎ IsWaitedFor ports h c → IsAllowedBy core.tables c
    by_way a = grind arith

    kept : IsCommand c → MayWait (apply core.tables c) ports
    kept command x p made here asked =
        let now = may x p made here asked in
        let host = within core.tables x made.command now in
        let seen : Asked ports = grind arith in
        same_list core.tables (apply core.tables c) x made.command (whitelist_left core.tables c x sorted command host.0 host.1 (leaves seen)) now
  one (Asks to message creation) allowed leaves = grind arith
  one _ allowed leaves = tt

  all_of : (deeds : List Deed) → AllByRecursion (IsAllowedDeed core.tables ports h) deeds → AllByRecursion (λ d. (x : Asked ports)
      → DeedLeavesWhitelist x.host d) deeds
      → AllByRecursion (IsAllowedStill core.tables ports) deeds
  all_of [] a b = tt
  all_of (d ∷ deeds) a b = (one d a.0 b.0, all_of deeds a.1 b.1)

  pub message_allowed : (m : Message) → AllByRecursion (IsAllowedStill core.tables ports) (controller_deeds (view_of core ports) h m)
  message_allowed m =
      all_of (controller_deeds (view_of core ports) h m) (controller_fine core ports h m)
      (swapped (λ (x : Asked ports). DeedLeavesWhitelist x.host) (controller_deeds (view_of core ports) h m)
      (λ x. whitelists_stay core ports h m x.host x.asked (waits_for_pipes core.tables ports h may)))

-- ## What lasts over each thing that a node does lasts over all that it does in a step

-- the messages that came at the end of the link with this host
abbrev pub got_at : ℕ → Work → List Message
got_at h w = option_map_or (λ (p : Port). p.side.got) (port_at w.ports h) []

module _ (J : Work → Type 0) where
  pub unless : (f : Work → Work) (w : Work) → ((v : Work) → J v → J (f v)) → J w → J (unless_cut f w)
  unless f w one a = grind arith

  -- ### Deeds

  module _ (May : Deed → Type 0) (does : (h : ℕ) (d : Deed) (w : Work) → May d → J w → J (done h d w)) where
    pub all_do : (h : ℕ) (deeds : List Deed) (w : Work) → AllByRecursion May deeds → J w → J (all_done h deeds w)
    all_do h [] w may a = a
    all_do h (d ∷ deeds) w may a = unless (all_done h deeds) (done h d w) (λ v b. all_do h deeds v may.1 b) (does h d w may.0 a)

  -- ### Held messages

  -- an end takes no more fragments, or takes them again
  module _ (held : (h : ℕ) (flag : Bool) (w : Work) → J w → J (turn_at h (Hold flag) w)) where
    pub lets : (h : ℕ) (w : Work) → J w → J (lets_go h w)
    lets h w a = by_test (option_map_or (λ (p : Port). is_held p.side) (port_at w.ports h) false) (λ q. rw q (held h false w a)) (λ q. rw q a)

    -- that is noted
    module _ (marked : (h : ℕ) (flag : Bool) (w : Work) → J w → J (with_desk h (λ d. record d { holds = flag }) w))
        (told : (h need spare : ℕ) (w : Work) → J w → J (noting (entry.Held (end_of_node w.core h) need spare ∷ []) w)) where
      pub holds_of_step_walks : (h : ℕ) (short : ℕ × ℕ) (w : Work) → J w → J (holds_back h short w)
      holds_of_step_walks h short w a = by_test (option_map_or (λ (p : Port). p.desk.holds) (port_at w.ports h) false)
          (λ q. rw q (held h true w a))
          (λ q. rw q (held h true (with_desk h (λ d. record d { holds = true }) noted) (marked h true noted (told h short.0 short.1 w a)))) where
            noted : Work
            noted = noting (entry.Held (end_of_node w.core h) short.0 short.1 ∷ []) w

  -- ### Steps

  -- what lasts over deeds and over the turns of each end
  module _ (May : Deed → Type 0) (all : (h : ℕ) (deeds : List Deed) (w : Work) → AllByRecursion May deeds → J w → J (all_done h deeds w))
      (having : (h : ℕ) (w : Work) → J w → J (have_turns h (got_at h w) w)) where
    going : (hosts : List ℕ) (w : Work) → J w → J (goes_through_ends hosts w)
    going [] w a = a
    going (h ∷ hosts) w a = unless (goes_through_ends hosts) (have_turns h (got_at h w) w) (λ v b. going hosts v b) (having h w a)

    -- what is left to do in a step once something has come: blocks are freed, identifiers kept, answers given, and messages have turns
    pub rest : (freed syncs owing : List Deed) (w : Work) → AllByRecursion May freed → AllByRecursion May syncs → AllByRecursion May owing → J w
        → J (answers_and_passes freed syncs owing w)
    rest freed syncs owing w f s o a =
        unless passes (unless_cut (all_done 0 owing) (all_done 0 syncs (all_done 0 freed w))) (λ v b. going _ v b)
        (grind arith)

  -- ### All of it

  -- it lasts over each deed that may be done, and over each part of a turn of a message that comes
  pub record Lasts (May : Deed → Type 0) (Comes : ℕ → Message → Type 0) : Type 0 where
    pub does : (h : ℕ) (d : Deed) (w : Work) → May d → J w → J (done h d w)
    pub turn_told : (h : ℕ) (m : Message) (w : Work) → Comes h m → J w → J (noting (entry.Turn (end_of_node w.core h) m.0 m.1 ∷ []) w)
    pub held_told : (h need spare : ℕ) (w : Work) → J w → J (noting (entry.Held (end_of_node w.core h) need spare ∷ []) w)
    pub fetched : (h : ℕ) (w : Work) → J w → J (turn_at h FetchMessage w)
    pub held : (h : ℕ) (flag : Bool) (w : Work) → J w → J (turn_at h (Hold flag) w)
    pub marked : (h : ℕ) (flag : Bool) (w : Work) → J w → J (with_desk h (λ d. record d { holds = flag }) w)
    -- these messages come, and what they cause may be done
    pub come : (h : ℕ) (w : Work) → J w → AllByRecursion (Comes h) (got_at h w)
    pub causes : (h : ℕ) (m : Message) (w : Work) → Comes h m → J w → AllByRecursion May (deeds_of w.core w.ports h m)

  module _ (May : Deed → Type 0) (Comes : ℕ → Message → Type 0) (l : Lasts May Comes) where
    pub handled : (h : ℕ) (m : Message) (deeds : List Deed) (w : Work) → Comes h m → AllByRecursion May deeds → J w → J (handles h m deeds w)
    handled h m deeds w comes may a =
        let told : Work = noting (entry.Turn (end_of_node w.core h) m.0 m.1 ∷ []) w in
        let fetched : Work = turn_at h FetchMessage told in
        all_do May l.does h deeds (with_desk h (λ d. record d { holds = false }) fetched) may
        (l.marked h false fetched (l.fetched h told (l.turn_told h m w comes a)))

    having : (h : ℕ) (messages : List Message) (w : Work) → AllByRecursion (Comes h) messages → J w → J (have_turns h messages w)
    having h [] w comes a = lets l.held h w a
    having h (m ∷ messages) w comes a = by_option (lack w.ports (needs h deeds))
        (λ q. rw q (unless (have_turns h messages) (handles h m deeds w) (λ v b. having h messages v comes.1 b)
        (handled h m deeds w comes.0 (l.causes h m w comes.0 a) a)))
        (λ short q. rw q (holds_of_step_walks l.held l.marked l.held_told h short w a)) where
          deeds : List Deed
          deeds = deeds_of w.core w.ports h m

    pub all_last : (h : ℕ) (deeds : List Deed) (w : Work) → AllByRecursion May deeds → J w → J (all_done h deeds w)
    all_last h deeds w may a = all_do May l.does h deeds w may a

    pub rest_lasts : (freed syncs owing : List Deed) (w : Work) → AllByRecursion May freed → AllByRecursion May syncs → AllByRecursion May owing → J w
        → J (answers_and_passes freed syncs owing w)
    rest_lasts freed syncs owing w f s o a = rest May all_last (λ h v b. having h (got_at h v) v (l.come h v b) b) freed syncs owing w f s o a
