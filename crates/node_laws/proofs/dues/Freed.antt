-- What a controller owes to askers as sessions end: each answer is taken, and goes out in the session that its asker had.
use Rattle.node_laws.proofs.Words.{AllByRecursion, AreDifferent, AreHosts, AreTaken, AtEnd, Bool, Commits, CountsCommands, Creation, Deed, End, EndedBy, Entry}
use Rattle.node_laws.proofs.Words.{Give, HciTables, IsFresh, IsOutside, LinkInput, LinkState, List, Message, NodeInput, None, Option, Port, Release, Releases}
use Rattle.node_laws.proofs.Words.{Response, Sends, Some, State, TakesMessage, Tick, TimePasses, Up, Work, [], after_sessions, after_turn, all_append, all_done}
use Rattle.node_laws.proofs.Words.{all_owed, all_synced_hold, answer_of, ap, append-nil, append_assoc, arith, asked_at, asking_in, by_test, cond, creation_read}
use Rattle.node_laws.proofs.Words.{done, end_c, end_of_number, ends_session, entries_of_reply, eq-eqb, eqb, eqb-true, false, filter, filter_map, flat_map}
use Rattle.node_laws.proofs.Words.{fold-append, forgets, forgotten, forgotten_hold, has_come, has_come_so, has_freed, has_synced, hosts_of_ends, in_use}
use Rattle.node_laws.proofs.Words.{input_at, is_down, is_over, is_over_at, is_up, length, length-append, map, option_map_or, owed, owed_in_step, port_at, refl}
use Rattle.node_laws.proofs.Words.{reset_late, same_end, session_now, session_of_port, subst, sym, syncs_in, true, true≢false, turn_at, with_older}
use Rattle.node_laws.proofs.Words.{without_notice, ℕ, ◌++◌, ◌+◌, ◌||◌, ◌∙◌, ◌∷◌, ◌≡◌, ◌≤◌}
use Rattle.node_laws.proofs.creations.Outcomes.{Asked, asked_of, owes, waits}
use Rattle.node_laws.proofs.creations.Coming.{ComeAt, HasCome, all_kept, answer_response, begins, came_near, came_tick, frees, keeps_all, over_at, shared}
use Rattle.node_laws.proofs.creations.Doing.{EndAt, Good, IsOn, at_here, many, on_is, pays, takes_short}
use Rattle.node_laws.proofs.links.Noticing.{at_host}
use Rattle.node_laws.proofs.passes.Replying.{commit_sessions, session_in, session_map, turn_sessions}
use Rattle.node_laws.proofs.read_steps.Knowing.{to_creations, to_notices}
use Rattle.node_laws.proofs.read_steps.Reading.{IsBegun}
use Rattle.node_laws.proofs.replies.Passes.{AreReplyEntries, commands_told}
use Rattle.node_laws.proofs.replies.Creations.{IsIn, all_found, in_waits}
use Rattle.node_laws.proofs.steps.StepWalks.{at_port, come_host, forgets_host, late_host, without_host}
use Rattle.node_laws.proofs.telling.Steps.{at_map, none_map}
use Rattle.node_laws.proofs.worlds.Ticking.{ends_in_list}
use Rattle.gate_answers.specs.declared.response.Response.TheVariants as response
use Rattle.trace_model.specs.declared.entry.Entry.TheVariants as entry

-- ## What is read behind the sessions that end in an event: sessions, and creations that wait

-- ### Entries that tell of sessions that end

abbrev pub any_cause : EndedBy → Bool
any_cause cause = true

-- the session of the controller's end on this link ends
abbrev pub ends_at : ℕ → List Entry → Bool
ends_at x es = ends_in_list any_cause (end_c x) es

abbrev pub AreDowns : List Entry → Type 0
AreDowns es = AllByRecursion (λ x. is_down x ≡ true) es

pub downs_are : (es : List Entry) → AreDowns (filter is_down es)
downs_are [] = tt
downs_are (x ∷ es) = by_test (is_down x)
    (λ q. subst (λ b. AreDowns (cond b (x ∷ filter is_down es) (filter is_down es))) (sym q) (q, downs_are es))
    (λ q. subst (λ b. AreDowns (cond b (x ∷ filter is_down es) (filter is_down es))) (sym q) (downs_are es))

module _ (test : EndedBy → Bool) (e : End) where
  pub downs_end : (es : List Entry) → ends_in_list test e (filter is_down es) ≡ ends_in_list test e es
  downs_end [] = refl
  downs_end (x ∷ es) = let h0 = is_down x in let h1 = downs_end es in grind arith

-- two causes together
pub either_ends : (one other : EndedBy → Bool) → ((cause : EndedBy) → (one cause || other cause) ≡ true) → (e : End) → (es : List Entry)
    → ends_in_list any_cause e es ≡ (ends_in_list one e es || ends_in_list other e es)
either_ends one other all e [] = refl
either_ends one other all e (x ∷ es) = let h0 = either_ends one other all e es in grind arith

-- ### What is read behind them

module _ (x : ℕ) where
  down_session : (t : List Entry) (y : Entry) → is_down y ≡ true
      → session_now (t ++ y ∷ []) (end_c x) 0 ≡ cond (ends_session any_cause (end_c x) y) None (session_now t (end_c x) 0)
  down_session t (entry.Down f cause) q = fold-append _ None t (entry.Down f cause ∷ []) ∙ by_test (same_end f (end_c x)) (λ q. rw q refl) (λ q. rw q refl)
  down_session t _ q = absurd (true≢false (sym q))

  down_asking : (t : List Entry) (y : Entry) → is_down y ≡ true
      → asking_in (t ++ y ∷ []) x ≡ cond (ends_session any_cause (end_c x) y) None (asking_in t x)
  down_asking t (entry.Down f cause) q = fold-append _ None t (entry.Down f cause ∷ []) ∙ by_test (same_end f (end_c x)) (λ q. rw q refl) (λ q. rw q refl)
  down_asking t _ q = absurd (true≢false (sym q))

  module _ {X : Type 0} (read : List Entry → Option X)
      (one : (t : List Entry) (y : Entry) → is_down y ≡ true → read (t ++ y ∷ []) ≡ cond (ends_session any_cause (end_c x) y) None (read t)) where
    behind : (ds t : List Entry) → AreDowns ds → read (t ++ ds) ≡ cond (ends_at x ds) None (read t)
    behind [] t a = ap read (append-nil t)
    behind (y ∷ ds) t a = let h0 = append_assoc t (y ∷ []) ds in let h1 = behind ds (t ++ y ∷ []) a.1 in grind arith

  pub session_behind : (t ds : List Entry) → AreDowns ds → session_now (t ++ ds) (end_c x) 0 ≡ cond (ends_at x ds) None (session_now t (end_c x) 0)
  session_behind t ds a = behind (λ l. session_now l (end_c x) 0) down_session ds t a

  pub asking_behind : (t ds : List Entry) → AreDowns ds → asking_in (t ++ ds) x ≡ cond (ends_at x ds) None (asking_in t x)
  asking_behind t ds a = behind (λ l. asking_in l x) down_asking ds t a

-- ### Creations that still wait

-- none waits any more whose asker has lost its session
abbrev pub unless_over : (ℕ → Bool) → Option Creation → Option Creation
unless_over over None = None
unless_over over (Some c) = cond (over c.asker) None (Some c)

pub read_behind : (over : ℕ → Bool) (t u : List Entry) → ((k : ℕ) → asking_in u k ≡ cond (over k) None (asking_in t k)) → (r : Option (List ℕ))
    → creation_read u r ≡ unless_over over (creation_read t r)
read_behind over t u reads r = grind arith

-- so it is with what an end keeps
pub kept_behind : (all : List Port) (p : Port) → asked_at (forgets all p) ≡ unless_over (is_over_at all) (asked_at p)
kept_behind all p = grind arith

-- ## What a controller owes to askers is sent, since the blocks for it are free, and what is noted of that are these messages

-- ### Room

module _ (hosts : List ℕ) (t : List Entry) where
  -- so it is with each asker
  abbrev pub AllGood : Asked → List Creation → Work → Type 0
  AllGood asked owing w = (x : ℕ) → Good x t hosts asked owing w

  takes_owed : (asked : Asked) (owing : List Creation) (c : Creation) (answer : List ℕ) (w : Work) → length answer ≤ 32
      → Good c.asker t hosts asked (c ∷ owing) w → TakesMessage (turn_at c.asker Release w).ports c.asker (1, answer)
  takes_owed asked owing c answer w short a p here up = takes_short p.side answer up short (room (port_at w.ports c.asker) refl a.end) where
    l : List Creation
    l = waits c.asker asked ++ owes c.asker (c ∷ owing)

    own : eqb c.asker c.asker ≡ true
    own = eq-eqb c.asker c.asker refl

    some : 1 ≤ length l
    some =
        let is : l ≡ waits c.asker asked ++ (c ∷ owes c.asker owing) = ap (λ b. waits c.asker asked ++ (cond b (c ∷ []) [] ++ owes c.asker owing)) own in
        omega (arith, ap length is, length-append (waits c.asker asked) (c ∷ owes c.asker owing))

    room : (o : Option Port) → port_at w.ports c.asker ≡ o → EndAt (length l) l o → in_use p.side + p.side.aside ≤ 127
    room None e z = let none = z.0 in absurd (omega (arith, some, none))
    room (Some q) e z =
        let is : Some (after_turn Release q) ≡ Some p = sym (at_here c.asker c.asker (after_turn Release) w.ports q (λ j. refl) own e) ∙ here in
        let one : after_turn Release q ≡ p = cc in
        subst (λ (j : Port). in_use j.side + j.side.aside ≤ 127) one (omega (arith, z.within.room, z.aside, some))

  -- the messages of these deeds are taken, and the power stays on
  abbrev pub Goes : List Deed → Work → Type 0
  Goes deeds w = AreTaken 0 deeds w × ((all_done 0 deeds w).cut ≡ false)

  owed_taken : (asked : Asked) (r : Response) (ports : List Port) (owing : List Creation) (rest : List Deed) (w : Work)
      → AllGood asked (filter_map asked_at ports ++ owing) w → ((v : Work) → AllGood asked owing v → Goes rest v)
      → Goes (flat_map (λ p. owed r (asked_at p)) ports ++ rest) w
  owed_taken asked r [] owing rest w a next = next w a
  owed_taken asked r (p ∷ ports) owing rest w a next = by (asked_at p) refl (λ v b. owed_taken asked r ports owing rest v b next) where
    later : List Deed
    later = flat_map (λ p. owed r (asked_at p)) ports ++ rest

    by : (o : Option Creation) → asked_at p ≡ o → ((v : Work) → AllGood asked (filter_map asked_at ports ++ owing) v → Goes later v)
        → Goes (flat_map (λ p. owed r (asked_at p)) (p ∷ ports) ++ rest) w
    by None q more =
        let same : flat_map (λ p. owed r (asked_at p)) (p ∷ ports) ++ rest ≡ later = rw q refl in
        let list : filter_map asked_at (p ∷ ports) ≡ filter_map asked_at ports = rw q refl in
        subst (λ d. Goes d w) (sym same) (more w (subst (λ l. AllGood asked (l ++ owing) w) list a))
    by (Some c) q more =
        let answer : List ℕ = answer_of r [] in
        let left : List Creation = filter_map asked_at ports ++ owing in
        let same : flat_map (λ p. owed r (asked_at p)) (p ∷ ports) ++ rest ≡ Releases c.asker ∷ Sends c.asker (1, answer) ∷ later = rw q refl in
        let list : filter_map asked_at (p ∷ ports) ≡ c ∷ filter_map asked_at ports = rw q refl in
        let b : AllGood asked (c ∷ left) w = subst (λ l. AllGood asked (l ++ owing) w) list a in
        let v : Work = turn_at c.asker Release w in
        let u : Work = turn_at c.asker (Give (1, answer)) v in
        let goes : Goes later u = more u (λ x. pays x t hosts asked left c answer w (answer_response r) (omega arith) (b x)) in
        subst (λ d. Goes d w) (sym same) (
          (tt, (takes_owed asked left c answer w (omega arith) (b c.asker), goes.0)),
          ap (λ (z : Work). z.cut) (on_is 0 t hosts (all_done 0 (Sends c.asker (1, answer) ∷ later)) v (b 0).on ∙ on_is 0 t hosts (all_done 0 later) u (b 0).on)
              ∙ goes.1,
        )

-- ### What is noted

-- a message that is owed goes out, and its block is free before
abbrev pub IsOwing : Deed → Type 0
IsOwing (Releases asker) = Unit {0}
IsOwing (Sends to m) = Unit {0}
IsOwing _ = ⊥

pub owed_counts : (s : State) (tables : HciTables) (deeds : List Deed) → AllByRecursion IsOwing deeds → CountsCommands s tables deeds
owed_counts s tables [] a = tt
owed_counts s tables (Releases asker ∷ deeds) a = owed_counts s tables deeds a.1
owed_counts s tables (Sends to m ∷ deeds) a = owed_counts s tables deeds a.1
owed_counts s tables (_ ∷ deeds) a = absurd a.0

module _ (sessions : ℕ → Option ℕ) where
  pub owed_entries : (count : ℕ) (deeds : List Deed) → AllByRecursion IsOwing deeds
      → AreReplyEntries (entries_of_reply 0 sessions 0 count deeds) × (commands_told (entries_of_reply 0 sessions 0 count deeds) ≡ 0)
  owed_entries count [] a = (tt, refl)
  owed_entries count (Releases asker ∷ deeds) a = owed_entries count deeds a.1
  owed_entries count (Sends to m ∷ deeds) a = let h0 = owed_entries count deeds a.1 in grind arith
  owed_entries count (_ ∷ deeds) a = absurd a.0

-- its message goes out in the session that is read
abbrev pub SentSo : (ℕ → Option ℕ) → (ℕ → Option ℕ) → Deed → Type 0
SentSo s t (Releases asker) = Unit {0}
SentSo s t (Sends to m) = s to ≡ t to
SentSo s t _ = ⊥

pub owed_same : (s t : ℕ → Option ℕ) (j k : ℕ) (deeds : List Deed) → AllByRecursion (SentSo s t) deeds
    → entries_of_reply 0 s 0 j deeds ≡ entries_of_reply 0 t 0 k deeds
owed_same s t j k [] a = refl
owed_same s t j k (Releases asker ∷ deeds) a = owed_same s t j k deeds a.1
owed_same s t j k (Sends to m ∷ deeds) a = let h0 = end_of_number 0 to in let h1 = owed_same s t j k deeds a.1 in grind arith
owed_same s t j k (_ ∷ deeds) a = absurd a.0

-- what holds of the two deeds for each creation whose host has lost its session holds of all that is owed
module _ (Q : Deed → Type 0) where
  abbrev IfOwed : Port → Type 0
  IfOwed p = (p.ended || p.late) ≡ true → (c : Creation) → asked_at p ≡ Some c → Q (Releases c.asker) × ((m : Message) → Q (Sends c.asker m))

  some_owed : (r : Response) (test : Port → Bool) → ((p : Port) → test p ≡ true → (p.ended || p.late) ≡ true) → (ports : List Port)
      → AllByRecursion IfOwed ports → AllByRecursion Q (flat_map (λ p. owed r (asked_at p)) (filter test ports))
  some_owed r test over [] a = tt
  some_owed r test over (p ∷ ports) a = let h0 = owed r (asked_at p) in let h1 = some_owed r test over ports a.1 in grind arith

  owed_all : (ports : List Port) → AllByRecursion IfOwed ports → AllByRecursion Q (all_owed ports)
  owed_all ports a =
      all_append Q (flat_map (λ p. owed response.NotConnected (asked_at p)) (filter (λ p. p.ended) ports))
      (flat_map (λ p. owed response.Timeout (asked_at p)) (filter (λ p. p.late) ports))
      (some_owed response.NotConnected (λ p. p.ended) (λ p z. ap (λ b. b || p.late) z) ports a)
      (some_owed response.Timeout (λ p. p.late) (λ p z. grind arith) ports a)

-- ## A step of a controller: as its pass begins each answer that it owes is taken, and goes out in the session that its asker had as the step began

-- ### Sessions

-- a deed that sends nothing
abbrev SendsNothing : Deed → Type 0
SendsNothing (Commits c) = Unit {0}
SendsNothing (Releases asker) = Unit {0}
SendsNothing _ = ⊥

one_session : (d : Deed) (w : Work) (k : ℕ) → SendsNothing d → session_of_port (done 0 d w).ports k ≡ session_of_port w.ports k
one_session (Commits c) w k is = commit_sessions c w k
one_session (Releases asker) w k is = turn_sessions asker Release w k
one_session _ w k is = absurd is

deeds_session : (deeds : List Deed) (w : Work) (k : ℕ) → AllByRecursion SendsNothing deeds
    → session_of_port (all_done 0 deeds w).ports k ≡ session_of_port w.ports k
deeds_session [] w k a = refl
deeds_session (d ∷ deeds) w k a = by_test v.cut (λ q. rw q (one_session d w k a.0)) (λ q. rw q (deeds_session deeds v k a.1 ∙ one_session d w k a.0)) where
  v : Work
  v = done 0 d w

-- ### Ends behind what came

-- an end behind what came
abbrev pub come_so : NodeInput → Port → Port
come_so (AtEnd h i) p = has_come p (input_at (AtEnd h i) p)
come_so TimePasses p = reset_late (with_older (has_come p (Some Tick)))

pub come_found : (input : NodeInput) (w : Work) (k : ℕ) (p : Port) → port_at w.ports k ≡ Some p
    → port_at (has_come_so input w).ports k ≡ Some (come_so input p)
come_found (AtEnd h i) w k p here = at_map (λ p. has_come p (input_at (AtEnd h i) p)) (λ p. come_host p (input_at (AtEnd h i) p)) w.ports k p here
come_found TimePasses w k p here =
    let came : List Port = map (λ p. has_come p (input_at TimePasses p)) w.ports in
    at_map reset_late late_host (map with_older came) k (with_older (has_come p (Some Tick)))
    (at_map with_older (λ q. refl) came k (has_come p (Some Tick))
    (at_map (λ p. has_come p (input_at TimePasses p)) (λ p. come_host p (input_at TimePasses p)) w.ports k p here))

pub come_none : (input : NodeInput) (w : Work) (k : ℕ) → port_at w.ports k ≡ None → port_at (has_come_so input w).ports k ≡ None
come_none (AtEnd h i) w k none = none_map (λ p. has_come p (input_at (AtEnd h i) p)) (λ p. come_host p (input_at (AtEnd h i) p)) w.ports k none
come_none TimePasses w k none =
    let came : List Port = map (λ p. has_come p (input_at TimePasses p)) w.ports in
    none_map reset_late late_host (map with_older came) k
    (none_map with_older (λ q. refl) came k
    (none_map (λ p. has_come p (input_at TimePasses p)) (λ p. come_host p (input_at TimePasses p)) w.ports k none))

pub same_port : (p q : Port) → Some p ≡ Some q → p ≡ q
same_port p q e = cc

come_number : (input : NodeInput) (p : Port) → (come_so input p).session ≡ p.session
come_number input p = grind arith

-- the end isn't the one to which something comes
abbrev pub IsElse : NodeInput → ℕ → Type 0
IsElse (AtEnd h i) k = eqb k h ≡ false
IsElse TimePasses k = Unit {0}

-- nothing ends the session of another end
else_goes : (h : ℕ) (i : LinkInput) (p : Port) → IsFresh p → is_over (come_so (AtEnd h i) p) ≡ true → eqb p.desk.host h ≡ true
else_goes h i p fresh over = grind arith

-- a creation that waits still waited before, and its asker has its session
record WaitsStill (over : ℕ → Bool) (o : Option Creation) (c : Creation) : Type 0 where
  was : o ≡ Some c
  goes : over c.asker ≡ false

-- ### A step

module _ (hosts : List ℕ) (are : AreHosts hosts) (t : List Entry) (input : NodeInput) (w : Work) (b : IsBegun hosts t input w) where
  abbrev pub asked : Asked
  asked = asked_of w.ports

  abbrev pub came : Work
  came = has_come_so input w

  abbrev pub left : List Port
  left = map (forgets came.ports) came.ports

  abbrev pub now : Asked
  now = asked_of (map without_notice left)

  abbrev pub ended : List Port
  ended = filter (λ (p : Port). p.ended) left

  abbrev pub lates : List Port
  lates = filter (λ (p : Port). p.late) left

  abbrev pub owing : List Creation
  owing = filter_map asked_at ended ++ filter_map asked_at lates

  abbrev pub good : (x : ℕ) → Good x t hosts asked [] w
  good x = to_creations hosts t w b.keeps x

  pub come : (x : ℕ) → HasCome x t hosts asked (many x t hosts asked []) w (good x) are.different b.fresh came
  come x = go input b.outside where
    go : (input : NodeInput) → IsOutside input → HasCome x t hosts asked (many x t hosts asked []) w (good x) are.different b.fresh (has_come_so input w)
    go (AtEnd h i) outside = came_near x t hosts asked (many x t hosts asked []) w (good x) are.different b.fresh h i outside
    go TimePasses outside =
        came_tick x t hosts asked (many x t hosts asked []) w (good x) are.different b.fresh (to_notices hosts t w b.keeps are.all x).up b.shut

  pub freed_good : AllGood hosts t now owing (has_freed input w)
  freed_good x =
      let begun : Work = record came { core = after_sessions came.core came.ports; ports = map without_notice left } in
      frees x t hosts now owing (many x t hosts now owing) (filter (λ (c : Creation). is_over_at came.ports c.asker) (filter_map asked_at came.ports)) begun
      (subst (λ k. IsOn x t hosts now owing k begun) (shared x t hosts are.all are.different asked w (good x) b.fresh came (come x))
      (begins x t hosts are.all are.different asked w (good x) b.fresh came (come x)))

  synced_good : (has_synced input w).cut ≡ false → AllGood hosts t now owing (has_synced input w)
  synced_good on x =
      (let h0 = (keeps_all x t hosts now owing (syncs_in input w) (has_freed input w) (all_kept x t hosts w.core input w.ports) (freed_good x)) in grind arith)

  pub owed_goes : (has_synced input w).cut ≡ false → Goes hosts t (owed_in_step input w) (has_synced input w)
  owed_goes on =
      owed_taken hosts t now response.NotConnected ended (filter_map asked_at lates) second (has_synced input w) (synced_good on)
      (λ v a. subst (λ ds. Goes hosts t ds v) (append-nil second)
      (owed_taken hosts t now response.Timeout lates [] [] v
      (λ x. subst (λ l. Good x t hosts now l v) (sym (append-nil (filter_map asked_at lates))) (a x))
      (λ u c. (tt, (c 0).on))))
    where
      second : List Deed
      second = flat_map (λ p. owed response.Timeout (asked_at p)) lates

  -- ### The sessions of askers

  synced_session : (k : ℕ) → session_of_port (has_synced input w).ports k ≡ session_of_port came.ports k
  synced_session k =
      let begun : Work = record came { core = after_sessions came.core came.ports; ports = map without_notice left } in
      deeds_session (syncs_in input w) (has_freed input w) k (all_synced_hold SendsNothing (λ host id. tt) w.core input w.ports)
      ∙ (deeds_session (forgotten came.ports) begun k (forgotten_hold SendsNothing (λ asker. tt) came.ports)
      ∙ (session_map without_notice without_host (λ p. grind arith) left k
      ∙ session_map (forgets came.ports) (forgets_host came.ports)
      (λ p. grind arith) came.ports k))

  pub come_different : AreDifferent (hosts_of_ends came.ports)
  come_different = subst AreDifferent (sym (come 0).hosts_are) are.different

  -- an asker whose creation waits has the session that it had
  asker_session : (read : ℕ → Option ℕ) (k : ℕ) (q : Port) (c : Creation) → port_at came.ports k ≡ Some q → asked_at q ≡ Some c
      → is_over_at came.ports c.asker ≡ false
      → ((p : Port) → port_at w.ports c.asker ≡ Some p → session_of_port w.ports c.asker ≡ read c.asker) → session_of_port came.ports c.asker ≡ read c.asker
  asker_session read k q c found waiting goes same = by (port_at w.ports c.asker) refl (good c.asker).end where
    l : List Creation
    l = waits c.asker asked ++ []

    some : IsIn c (waits c.asker asked)
    some = subst (λ a. IsIn c (waits c.asker a)) (come 0).asked_are (in_waits c.asker came.ports k q c found waiting refl)

    filled : l ≡ [] → ⊥
    filled none = go some.front (sym some.is ∙ (sym (append-nil (waits c.asker asked)) ∙ none)) where
      go : (front : List Creation) → front ++ (c ∷ some.back) ≡ [] → ⊥
      go [] e = cc e
      go (d ∷ front) e = cc e

    session_up : (p : Port) → p.side.shdlc.phase ≡ Up → session_in (Some p) ≡ Some p.session
    session_up p up = ap (λ (s : LinkState). cond (is_up s) (Some p.session) None) up

    by : (o : Option Port) → port_at w.ports c.asker ≡ o → EndAt (many c.asker t hosts asked []) l o → session_of_port came.ports c.asker ≡ read c.asker
    by None e z = absurd (filled z.1)
    by (Some p) e z =
        let r : Port = come_so input p in
        let there : port_at came.ports c.asker ≡ Some r = come_found input w c.asker p e in
        let has : ComeAt (many c.asker t hosts asked []) l (Some r) =
        subst (ComeAt (many c.asker t hosts asked []) l) there (come c.asker).end in
        let over : is_over r ≡ false =
        sym (ap (λ o. option_map_or is_over o false) there) ∙ (sym (over_at came.ports c.asker come_different) ∙ goes) in
        ap session_in there
        ∙ (session_up r (has.up over filled)
        ∙ (ap (λ n. Some n) (come_number input p) ∙ (sym (session_up p (z.up filled)) ∙ (sym (ap session_in e) ∙ same p e))))

  -- and it isn't the end at which something came
  asker_else : (k : ℕ) (q : Port) (c : Creation) → port_at came.ports k ≡ Some q → is_over q ≡ true → is_over_at came.ports c.asker ≡ false
      → IsElse input c.asker
  asker_else k q c found over goes = go input refl where
    away : (h : ℕ) (i : LinkInput) → input ≡ AtEnd h i → (o : Option Port) → port_at w.ports k ≡ o → eqb c.asker h ≡ false
    away h i is None e =
        let no : None ≡ Some q = sym (come_none input w k e) ∙ found in absurd (cc no)
    away h i is (Some p) e = by_test (eqb c.asker h)
        (λ z. let asker : c.asker ≡ k = eqb-true c.asker h z ∙ sym host in
        let lost : is_over_at came.ports c.asker ≡ true =
        over_at came.ports c.asker come_different
        ∙ ap (λ o. option_map_or is_over o false) (ap (port_at came.ports) asker ∙ found) ∙ over in
        absurd (true≢false (sym lost ∙ goes)))
        (λ z. z) where
          same : Some q ≡ Some (come_so input p)
          same = sym found ∙ come_found input w k p e

          one : q ≡ come_so input p
          one = same_port q (come_so input p) same

          here : eqb p.desk.host h ≡ true
          here =
              else_goes h i p (at_port IsFresh w.ports k p b.fresh e)
              (subst (λ j. is_over (come_so j p) ≡ true) is (subst (λ z. is_over z ≡ true) one over))

          host : k ≡ h
          host = sym (at_host w.ports k p e) ∙ eqb-true p.desk.host h here

    go : (j : NodeInput) → input ≡ j → IsElse j c.asker
    go (AtEnd h i) is = away h i is (port_at w.ports k) refl
    go TimePasses is = tt

  -- Each answer that is owed goes out in the session that is read, where that is so of each end whose session goes on, but for the one to which
  -- something came.
  pub owed_sent : (read : ℕ → Option ℕ)
      → ((a : ℕ) (p : Port) → port_at w.ports a ≡ Some p → IsElse input a → is_over_at came.ports a ≡ false → session_of_port w.ports a ≡ read a)
      → AllByRecursion (SentSo (session_of_port (has_synced input w).ports) read) (owed_in_step input w)
  owed_sent read same =
      owed_all Q left (mapped came.ports (all_found P came.ports come_different each)) where
        Q : Deed → Type 0
        Q = SentSo (session_of_port (has_synced input w).ports) read

        P : Port → Type 0
        P q = IfOwed Q (forgets came.ports q)

        each : (k : ℕ) (q : Port) → port_at came.ports k ≡ Some q → P q
        each k q found over c waiting =
            let still : WaitsStill (is_over_at came.ports) (asked_at q) c = grind arith in
            let sent : session_of_port (has_synced input w).ports c.asker ≡ read c.asker =
            synced_session c.asker
            ∙ asker_session read k q c found still.was still.goes
            (λ p there. same c.asker p there (asker_else k q c found (sym (grind arith) ∙ over) still.goes) still.goes) in
            (tt, λ m. sent)

        mapped : (ports : List Port) → AllByRecursion P ports → AllByRecursion (IfOwed Q) (map (forgets came.ports) ports)
        mapped [] a = tt
        mapped (p ∷ ports) a = (a.0, mapped ports a.1)
