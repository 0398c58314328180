-- Which notices a controller decides on and sends, which message answers one, and that it asks and tells only hosts that have none.
use Rattle.node_laws.proofs.Words.{AllByRecursion, Answer, AreDifferent, AreTables, Ask, Asks, AsksAsAllowed, Bool, Clear, Command, Commit, Commits, Core}
use Rattle.node_laws.proofs.Words.{Create, Creation, Decision, Deed, Delete, Drops, GoesToFree, HciTables, IsAbout, IsAnswered, IsAskedFor, IsCommand}
use Rattle.node_laws.proofs.Words.{IsNoticeOf, IsRecordableDecision, IsRightNotice, JoinTwo, LinkView, List, Message, None, Notice, OfDecision, Option, PipeRow}
use Rattle.node_laws.proofs.Words.{Plain, Port, Releases, Removed, Response, SaysOk, Sends, Set, SetOpened, SetsErrors, Some, Tells, [], agreed, all_false}
use Rattle.node_laws.proofs.Words.{all_of_controller, all_so, and_parts, answer_of, answers_on, arith, asked_at, body_in, by_test, commit_deeds, commits}
use Rattle.node_laws.proofs.Words.{commits_and_tells, cond, cond_both, controller_deeds, controller_holds, creation_in, decided, decided_as_allowed}
use Rattle.node_laws.proofs.Words.{decided_holds, decision_deeds, ends_of, eqb, eqb-false, eqb-true, false, far_end_of, filter, finds_room, gates, has}
use Rattle.node_laws.proofs.Words.{has_notice, identity_served, is_connected, is_notice, is_response, length, list_any, map, mask_of, ne_eqb, new_row}
use Rattle.node_laws.proofs.Words.{option_and_then, option_map_or, others_opened, own_view, param_in, pipe_at, port_at, refl, shares, suc, sym, tests_to_clear}
use Rattle.node_laws.proofs.Words.{tests_to_create, tests_to_delete, told_of_clearing, told_of_deletion, true, true≢false, value_in, view_for, view_of, zero, ℕ}
use Rattle.node_laws.proofs.Words.{◌&&◌, ◌||◌, ◌∙◌, ◌∷◌, ◌≡◌, ◌≤◌}
use Rattle.gate_admin.proofs.CreationLemmas.{AllFalse}
use Rattle.gate_admin.specs.View.{hosts_where, is_noticed}
use Rattle.node_machine.proofs.Walks.{AnswersNone}
use Rattle.tables_laws.proofs.gate.Decisions.{joins_two}
use Rattle.node_laws.specs.notices.Worlds.{IsRight}
use Rattle.node_laws.proofs.kept.Stepping.{decided_recordable}
use Rattle.node_laws.proofs.links.Noticing.{UpAt, all_in, alone, from_mask, has_small, nobody}
use Rattle.node_laws.proofs.steps.StepWalks.{at_port, is_in_mask}
use Rattle.gate_answers.specs.declared.response.Response.TheVariants as response

-- ## Which notices the administration gate decides on

-- it is no notice
abbrev pub IsOther : List ℕ → Type 0
IsOther message = is_notice message ≡ false

-- it is one about removal, and not too long
pub record IsRemoval (message : List ℕ) : Type 0 where
  pub test : is_notice message ≡ true
  pub short : length message ≤ 4096
  pub about : IsAbout Removed message

-- it is one of a creation that this host asks for, and the answer that it gets then is none
pub record IsAsking (h : ℕ) (notice : List ℕ) (c : Command) (answer : List ℕ) : Type 0 where
  pub row : PipeRow
  pub command : c ≡ Create row
  pub creator : row.creator ≡ h
  pub notice_is : notice ≡ 18 ∷ ends_of row
  pub other : IsOther answer

pub answer_other : (r : Response) (value : List ℕ) → IsOther (answer_of r value)
answer_other r value = grind arith

-- each of these is told of a removal, and isn't this host
abbrev pub AreTold : ℕ → List ℕ → List ℕ → Type 0
AreTold h notice hosts = AllByRecursion (λ (y : ℕ). IsRemoval notice × (eqb y h ≡ false)) hosts

-- so it is with a decision on a message of this host
abbrev pub Says : ℕ → Decision → Type 0
Says h (Answer answer) = IsOther answer.items
Says h (Commit c answer tell notice) = IsOther answer.items × AreTold h notice.items (hosts_where (has tell))
Says h (Ask dest notice c answer) = IsAsking h notice.items c answer.items

module _ (v : LinkView) (h : ℕ) where
  -- none of these is this host
  abbrev AreElse : List ℕ → Type 0
  AreElse hosts = AllByRecursion (λ (y : ℕ). eqb y h ≡ false) hosts

  none_else : AreElse (hosts_where (has 0))
  none_else = rw nobody tt

  none_told : (notice : List ℕ) → AreTold h notice (hosts_where (has 0))
  none_told notice = rw nobody tt

  all_told : (notice : List ℕ) → IsRemoval notice → (hosts : List ℕ) → AreElse hosts → AreTold h notice hosts
  all_told notice is [] a = tt
  all_told notice is (y ∷ hosts) a = ((is, a.0), all_told notice is hosts a.1)

  abbrev one_told : Option (ℕ × ℕ) → List ℕ
  one_told o = option_map_or (λ (end : ℕ × ℕ). cond (is_connected v end.0) (end.0 ∷ []) []) o []

  one_else : (y g : ℕ) → eqb y h ≡ false → AreElse (hosts_where (has (mask_of (one_told (Some (y, g))))))
  one_else y g e = by_test (is_connected v y) (λ q. rw q (alone (λ k. eqb k h ≡ false) v.connected y q e)) (λ q. rw q none_else)

  deletion_else : (o : Option PipeRow) → ((row : PipeRow) → o ≡ Some row → eqb row.creator row.dest ≡ false)
      → AreElse (hosts_where (has (mask_of (one_told (option_and_then (far_end_of h) o)))))
  deletion_else None two = none_else
  deletion_else (Some row) two =
      cond_both (eqb row.creator h) (Some (row.dest, row.dest_gate)) (cond (eqb row.dest h) (Some (row.creator, row.creator_gate)) None)
      (λ o. AreElse (hosts_where (has (mask_of (one_told o)))))
      (λ own. one_else row.dest row.dest_gate
      (ne_eqb row.dest h (λ same. eqb-false row.creator row.dest (two row refl) (eqb-true row.creator h own ∙ sym same))))
      (λ stranger. cond_both (eqb row.dest h) (Some (row.creator, row.creator_gate)) None (λ o. AreElse (hosts_where (has (mask_of (one_told o)))))
      (λ here. one_else row.creator row.creator_gate stranger) (λ none. none_else))

  -- each that is in the mask of the hosts that share a pipe is another one
  sharing : (t : HciTables) (hosts : List ℕ) → AllByRecursion (λ y. has (mask_of (told_of_clearing t v h)) y ≡ true) hosts → AreElse hosts
  sharing t [] a = tt
  sharing t (y ∷ hosts) a = (first (is_connected v y) (eqb y h) refl refl (from_mask (shares t v h) y a.0), sharing t hosts a.1)
    where
      first : (b c : Bool) → is_connected v y ≡ b → eqb y h ≡ c → shares t v h y ≡ true → eqb y h ≡ false
      first b c p q s = grind arith

  tells_say : (c : Command) (told notice : List ℕ) → IsRemoval notice → AreElse (hosts_where (has (mask_of told))) → Says h (commits_and_tells c told notice)
  tells_say c [] notice is a = (answer_other response.Ok [], none_told [])
  tells_say c (y ∷ told) notice is a = (answer_other response.Ok [], all_told notice is (hosts_where (has (mask_of (y ∷ told)))) a)

  commits_say : (c : Command) (value : List ℕ) → Says h (commits c value)
  commits_say c value = (answer_other response.Ok value, none_told [])

  decided_says : (t : HciTables) (pipe instruction : ℕ) (body : List ℕ) → JoinTwo t.rows → Says h (decided t v h pipe instruction body)
  decided_says t pipe n body two =
      let row : PipeRow = new_row t v h body in
      decided_holds (Says h) t v h pipe body n answer_other (λ _. record {
        opens = commits_say (SetOpened h pipe true) (others_opened t h pipe ∷ []);
        closes = commits_say (SetOpened h pipe false) [];
        sets = λ _. commits_say (Set h 0 (param_in body) (record { items = value_in body })) [];
        makes = λ _ controller. commits_say (Create row) (ends_of row);
        asks = λ _ other. record { row = row; command = refl; creator = refl; notice_is = refl; other = answer_other response.Ok (ends_of row) };
        deletes = λ _.
            tells_say (Delete (param_in body)) (told_of_deletion t v h (param_in body)) (19 ∷ param_in body ∷ []) (grind arith)
            (deletion_else (pipe_at t.rows (param_in body)) (λ r e. joins_two t.rows (param_in body) r two e));
        clears = λ _.
            tells_say (Clear h) (told_of_clearing t v h) (21 ∷ h ∷ []) (grind arith)
            (sharing t (hosts_where (has (mask_of (told_of_clearing t v h)))) (all_in (has (mask_of (told_of_clearing t v h)))));
      })

-- ## Which notices a controller sends as it handles a message, and which message answers one

-- ### Creations

abbrev pub AreRight : List Port → Type 0
AreRight ports = AllByRecursion (λ (p : Port). IsRightNotice p.desk.notice) ports

-- the notice to this host that isn't answered
abbrev pub noticed : List Port → ℕ → Option Notice
noticed ports x = option_and_then (λ (p : Port). p.desk.notice) (port_at ports x)

-- a creation for which this host is asked by this message
pub record IsAsked (to : ℕ) (message : List ℕ) (c : Creation) : Type 0 where
  pub test : is_notice message ≡ true
  pub notice : IsNoticeOf c message
  pub right : IsRight c
  pub else : eqb c.asker to ≡ false

-- it isn't too long
abbrev pub IsShort : List ℕ → Type 0
IsShort message = length message ≤ 4096

module _ (x : ℕ) where
  -- Deeds of a controller that may follow each other, by what may go to the host x: a notice goes to it once at most, and before all
  -- other messages to it.
  abbrev pub MayTell : (List ℕ → Type 0) → List Deed → Type 0
  MayTell F [] = Unit {0}
  MayTell F (Commits c ∷ deeds) = IsCommand c × MayTell F deeds
  MayTell F (Sends to m ∷ deeds) = ((eqb m.0 1 && is_notice m.1) ≡ false) × MayTell (λ n. (eqb to x ≡ false) × F n) deeds
  MayTell F (SaysOk ∷ deeds) = MayTell F deeds
  MayTell F (Asks to message c ∷ deeds) = (eqb to x ≡ true → F message) × IsAsked to message c × MayTell (λ n. ⊥) deeds
  MayTell F (Releases asker ∷ deeds) = MayTell (λ n. ⊥) deeds
  MayTell F (Tells to message ∷ deeds) = (eqb to x ≡ true → F message) × IsRemoval message × MayTell (λ n. (eqb to x ≡ false) × F n) deeds
  MayTell F (Drops pid ∷ deeds) = MayTell F deeds
  MayTell F (SetsErrors errors ∷ deeds) = MayTell F deeds
  MayTell F (_ ∷ deeds) = ⊥

  -- ### Answers

  no_and : (a b : Bool) → b ≡ false → (a && b) ≡ false
  no_and a b e = grind arith

  either : (F : List ℕ → Type 0) (b : Bool) (d e : List Deed) → MayTell F d → MayTell F e → MayTell F (cond b d e)
  either F b d e y z = grind arith

  other_may : (F : List ℕ → Type 0) (h pipe : ℕ) (answer : List ℕ) → (eqb pipe 1 && is_notice answer) ≡ false → MayTell F (answers_on h pipe answer)
  other_may F h pipe answer e = (e, tt)

  answer_may : (F : List ℕ → Type 0) (h pipe : ℕ) (answer : List ℕ) → IsOther answer → MayTell F (answers_on h pipe answer)
  answer_may F h pipe answer e = (no_and (eqb pipe 1) (is_notice answer) e, tt)

  abbrev May : List Deed → Type 0
  May deeds = MayTell IsShort deeds

  -- ### Decisions

  module _ (h : ℕ) where
    -- hosts are told one after another
    told_may : (F : List ℕ → Type 0) (notice : List ℕ) (hosts : List ℕ) → AreDifferent hosts → AreTold h notice hosts
        → AllByRecursion (λ (y : ℕ). eqb y x ≡ true → F notice) hosts → MayTell F (map (λ y. Tells y notice) hosts)
    told_may F notice [] different told all = tt
    told_may F notice (y ∷ hosts) different told all =
        (all.0, told.0.0, told_may (λ n. (eqb y x ≡ false) × F n) notice hosts different.1 told.1 (later hosts different.0 all.1)) where
          later : (hosts : List ℕ) → AllByRecursion (λ (k : ℕ). eqb k y ≡ false) hosts → AllByRecursion (λ (k : ℕ). eqb k x ≡ true → F notice) hosts
              → AllByRecursion (λ (k : ℕ). eqb k x ≡ true → (eqb y x ≡ false) × F notice) hosts
          later [] d a = tt
          later (k ∷ hosts) d a = ((λ e. (ne_eqb y x (λ s. eqb-false k y d.0 (eqb-true k x e ∙ sym s)), a.0 e)), later hosts d.1 a.1)

    behind_answer : (notice : List ℕ) (hosts : List ℕ) → AreTold h notice hosts
        → AllByRecursion (λ (y : ℕ). eqb y x ≡ true → (eqb h x ≡ false) × IsShort notice) hosts
    behind_answer notice [] told = tt
    behind_answer notice (y ∷ hosts) told =
        ((λ e. (ne_eqb h x (λ s. eqb-false y h told.0.1 (eqb-true y x e ∙ sym s)), told.0.0.short)), behind_answer notice hosts told.1)

    commit_may : (room : Bool) (pipe : ℕ) (c : Command) (answer notice : List ℕ) (hosts : List ℕ) → IsCommand c → IsOther answer
        → AreDifferent hosts → AreTold h notice hosts → May (commit_deeds room h pipe c answer (map (λ y. Tells y notice) hosts))
    commit_may true pipe c answer notice hosts may other different told = (
      may,
      (
        no_and (eqb pipe 1) (is_notice answer) other,
        told_may (λ n. (eqb h x ≡ false) × IsShort n) notice hosts different told (behind_answer notice hosts told),
      ),
    )
    commit_may false pipe c answer notice hosts may other different told = grind arith

    -- the two hosts of a pipe that may be made
    apart : (row : PipeRow) → IsCommand (Create row) → eqb row.creator row.dest ≡ false
    apart row may = grind arith

    asked_may : (t : HciTables) (v : LinkView) (asked : ℕ) (notice : List ℕ) (c : Command) (answer : List ℕ) → IsAsking h notice c answer → IsCommand c
        → IsAskedFor t v h asked c → May (Asks asked notice (record { asker = h; command = c; answer = answer }) ∷ [])
    asked_may t v asked notice c answer says may allowed = grind arith

    mask_different : (test : ℕ → Bool) → AreDifferent (hosts_where test)
    unfolding hosts_where
    mask_different test = grind arith

    decision_may : (core : Core) (v : LinkView) (pipe : ℕ) (d : Decision) → Says h d → IsRecordableDecision d → AsksAsAllowed core.tables v h d
        → May (decision_deeds (own_view core) h pipe d)
    decision_may core v pipe (Answer answer) says may allowed = answer_may IsShort h pipe answer.items says
    decision_may core v pipe (Commit c answer tell notice) says may allowed =
        commit_may (finds_room core c) pipe c answer.items notice.items (hosts_where (has tell)) may says.0 (mask_different (has tell)) says.1
    decision_may core v pipe (Ask asked notice c answer) says may allowed = asked_may core.tables v asked notice.items c answer.items says may allowed

    -- ### Of a controller

    -- a message of the host h answers a notice to it
    abbrev pub answers : Message → Bool
    answers m = eqb m.0 1 && is_response m.1

    -- What a message does: it leaves the notice to x, or it answers the one to h.
    pub data Outcome (ports : List Port) (m : Message) (deeds : List Deed) : Type 0 where
      Leaves : ((eqb h x && answers m) ≡ true → noticed ports x ≡ None) → May deeds → Outcome ports m deeds
      IsHeard : (rest : List Deed) → deeds ≡ IsAnswered ∷ rest → answers m ≡ true → May rest → Outcome ports m deeds

    no_reply : (ports : List Port) (m : Message) → answers m ≡ false → (eqb h x && answers m) ≡ true → noticed ports x ≡ None
    no_reply ports m off e = absurd (true≢false (sym (and_parts (eqb h x) (answers m) e).1 ∙ off))

    module _ (core : Core) (ports : List Port) (sorted : AreTables core.tables) (two : JoinTwo core.tables.rows) (some : 1 ≤ h) (most : h ≤ 7)
        (right : AreRight ports) (up : UpAt (port_at ports x)) where
      right_there : (p : Port) (c : Creation) → port_at ports h ≡ Some p → asked_at p ≡ Some c → IsRight c
      right_there p c here waits = go p.desk.notice (at_port (λ (p : Port). IsRightNotice p.desk.notice) ports h p right here) waits where
        go : (o : Option Notice) → IsRightNotice o → creation_in o ≡ Some c → IsRight c
        go o r w = grind arith

      heard : (m : Message) (c : Creation) → answers m ≡ true → IsRight c → (flag : Bool) → Outcome ports m (agreed flag c)
      heard m c reply is_right true =
          IsHeard (Commits c.command ∷ Releases c.asker ∷ Sends c.asker (1, c.answer) ∷ SaysOk ∷ []) refl reply (is_right.0, (is_right.1, tt))
      heard m c reply is_right false =
          IsHeard (Releases c.asker ∷ Sends c.asker (1, answer_of response.NotOk []) ∷ []) refl reply (answer_other response.NotOk [], tt)

      dropped : (m : Message) → AnswersNone core ports h m → (eqb h x && answers m) ≡ true → noticed ports x ≡ None
      dropped m none e = grind arith

      pub controller_outcome : (m : Message) → Outcome ports m (controller_deeds (view_of core ports) h m)
      controller_outcome m =
          let v : LinkView = view_for core.tables ports h in
          controller_holds (Outcome ports m) core ports h m (record {
            drops = λ pid none. Leaves (dropped m none) tt;
            goes_on = λ to off. Leaves (no_reply ports m (rw off refl)) (grind arith, tt);
            goes_back =
                λ n event. Leaves (no_reply ports m (no_and (eqb m.0 1) (is_response m.1) (rw event refl)))
                (no_and (eqb m.0 1) (is_notice m.1) (rw event refl), tt);
            refuses = λ r off free. Leaves (no_reply ports m off) (answer_may IsShort h m.0 (answer_of r []) (answer_other r []));
            names =
                λ n served gate. Leaves (no_reply ports m (no_and (eqb m.0 1) (is_response m.1) (rw served.command refl)))
                (other_may IsShort h m.0 (identity_served gates n (body_in m.1)) (grind arith));
            counts =
                λ errors n served gate. Leaves (no_reply ports m (no_and (eqb m.0 1) (is_response m.1) (rw served.command refl)))
                (grind arith);
            decides =
                λ n served gate. Leaves (no_reply ports m (no_and (eqb m.0 1) (is_response m.1) (rw served.command refl)))
                (decision_may core v m.0 (decided core.tables v h m.0 n (body_in m.1)) (decided_says v h core.tables m.0 n (body_in m.1) two)
                (decided_recordable core.tables v h m.0 n (body_in m.1) sorted some most) (decided_as_allowed core.tables v h m.0 n (body_in m.1)));
            hears = λ p reply here none. IsHeard [] refl reply tt;
            agrees = λ flag p c reply here waits room. heard m c reply (right_there p c here waits) flag;
          })

-- ## A controller asks and tells only hosts that have no notice to answer

-- ### Decisions

-- each of these has no notice to answer, and is one of the hosts from 01 to 07
abbrev IsFree : LinkView → ℕ → Type 0
IsFree v y = (is_noticed v y ≡ false) × (1 ≤ y) × (y ≤ 7)

abbrev Frees : LinkView → Decision → Type 0
Frees v (Answer answer) = Unit {0}
Frees v (Commit c answer tell notice) = AllByRecursion (IsFree v) (hosts_where (has tell))
Frees v (Ask dest notice c answer) = IsFree v dest

module _ (v : LinkView) where
  free_of : (m y : ℕ) → has m y ≡ true → is_noticed v y ≡ false → IsFree v y
  free_of m y q e = (e, grind arith, has_small m y q)

  none_told_of_freeing : AllByRecursion (IsFree v) (hosts_where (has 0))
  none_told_of_freeing = rw nobody tt

  -- none of the hosts that pass a test passes another one
  none_both : (p q : ℕ → Bool) (hosts : List ℕ) → list_any p (filter q hosts) ≡ false → AllByRecursion (λ (y : ℕ). q y ≡ true → p y ≡ false) hosts
  none_both p q [] e = tt
  none_both p q (y ∷ hosts) e = by_test (q y)
      (λ is. let both = parts (p y) (list_any p (filter q hosts)) (rw is at e) in
      ((λ z. both.0), (none_both p q hosts) both.1))
      (λ off. ((λ z. absurd (true≢false (sym z ∙ off))), (none_both p q hosts) (rw off at e))) where
        parts : (a b : Bool) → (a || b) ≡ false → (a ≡ false) × (b ≡ false)
        parts a b f = grind arith

  one_of : (p q : ℕ → Bool) → list_any p (hosts_where q) ≡ false → (y : ℕ) → 1 ≤ y → y ≤ 7 → q y ≡ true → p y ≡ false
  unfolding hosts_where
  one_of p q e y some most passed = by y some most passed where
    all : AllByRecursion (λ (y : ℕ). q y ≡ true → p y ≡ false) (1 ∷ 2 ∷ 3 ∷ 4 ∷ 5 ∷ 6 ∷ 7 ∷ [])
    all = none_both p q (1 ∷ 2 ∷ 3 ∷ 4 ∷ 5 ∷ 6 ∷ 7 ∷ []) e

    by : (y : ℕ) → 1 ≤ y → y ≤ 7 → q y ≡ true → p y ≡ false
    by zero some most z = absurd (omega arith)
    by (suc zero) some most z = all.0 z
    by (suc (suc zero)) some most z = all.1.0 z
    by (suc (suc (suc zero))) some most z = all.1.1.0 z
    by (suc (suc (suc (suc zero)))) some most z = all.1.1.1.0 z
    by (suc (suc (suc (suc (suc zero))))) some most z = all.1.1.1.1.0 z
    by (suc (suc (suc (suc (suc (suc zero)))))) some most z = all.1.1.1.1.1.0 z
    by (suc (suc (suc (suc (suc (suc (suc zero))))))) some most z = all.1.1.1.1.1.1.0 z
    by (suc (suc (suc (suc (suc (suc (suc (suc n)))))))) some most z = absurd (omega arith)

  abbrev one_told_of_freeing : Option (ℕ × ℕ) → List ℕ
  one_told_of_freeing o = option_map_or (λ (end : ℕ × ℕ). cond (is_connected v end.0) (end.0 ∷ []) []) o []

  deletion_frees : (o : Option (ℕ × ℕ)) → list_any (is_noticed v) (one_told_of_freeing o) ≡ false
      → AllByRecursion (IsFree v) (hosts_where (has (mask_of (one_told_of_freeing o))))
  deletion_frees None e = none_told_of_freeing
  deletion_frees (Some end) e = go (is_connected v end.0) refl e where
    go : (b : Bool) → is_connected v end.0 ≡ b → list_any (is_noticed v) (cond b (end.0 ∷ []) []) ≡ false
        → AllByRecursion (IsFree v) (hosts_where (has (mask_of (cond b (end.0 ∷ []) []))))
    go true q f = alone (IsFree v) v.connected end.0 q (free_of v.connected end.0 q (grind arith))
    go false q f = none_told_of_freeing

  sharing_frees : (t : HciTables) (h : ℕ) → list_any (is_noticed v) (told_of_clearing t v h) ≡ false → (hosts : List ℕ)
      → AllByRecursion (λ y. has (mask_of (told_of_clearing t v h)) y ≡ true) hosts → AllByRecursion (IsFree v) hosts
  sharing_frees t h e [] a = tt
  sharing_frees t h e (y ∷ hosts) a =
      let m : ℕ = mask_of (told_of_clearing t v h) in (
        free_of m y a.0 (one_of (is_noticed v) (shares t v h) e y (grind arith) (has_small m y a.0) (from_mask (shares t v h) y a.0)),
        sharing_frees t h e hosts a.1,
      )

  tells_free : (c : Command) (told notice : List ℕ) → AllByRecursion (IsFree v) (hosts_where (has (mask_of told))) → Frees v (commits_and_tells c told notice)
  tells_free c told notice a = grind arith

  decided_frees : (t : HciTables) (h pipe instruction : ℕ) (body : List ℕ) → Frees v (decided t v h pipe instruction body)
  unfolding AllFalse
  decided_frees t h pipe instruction body =
      decided_holds (Frees v) t v h pipe body instruction (λ r value. tt) (λ _. record {
        opens = none_told_of_freeing;
        closes = none_told_of_freeing;
        sets = λ _. none_told_of_freeing;
        makes = λ _ controller. none_told_of_freeing;
        asks = λ passed other.
            let none = all_false (tests_to_create t v h body) passed in (grind arith);
        deletes = λ passed.
            let none = all_false (tests_to_delete t v h body) passed in
            tells_free (Delete (param_in body)) (told_of_deletion t v h (param_in body)) (19 ∷ param_in body ∷ [])
            (deletion_frees (option_and_then (far_end_of h) (pipe_at t.rows (param_in body))) none.1.1.0);
        clears = λ passed.
            let none = all_false (tests_to_clear t v h body) passed in
            tells_free (Clear h) (told_of_clearing t v h) (21 ∷ h ∷ [])
            (sharing_frees t h none.1.1.0 (hosts_where (has (mask_of (told_of_clearing t v h)))) (all_in (has (mask_of (told_of_clearing t v h)))));
      })

-- ### Deeds

-- a host that isn't in the view's mask has no notice
no_notice : (t : HciTables) (ports : List Port) (h y : ℕ) → IsFree (view_for t ports h) y → has_notice ports y ≡ false
no_notice t ports h y free = by_test (has_notice ports y)
    (λ e. absurd (true≢false (sym (is_in_mask (has_notice ports) y free.1 free.2 e) ∙ free.0)))
    (λ e. e)

plain : (ports : List Port) → Plain (GoesToFree ports)
plain ports = record { sends = λ to x. tt; says_ok = tt; releases = λ asker. tt; is_answered = tt; drops = λ pid. tt }

decision_free : (t : HciTables) (ports : List Port) (h : ℕ) (d : Decision) → Frees (view_for t ports h) d → OfDecision (GoesToFree ports) h d
decision_free t ports h (Answer answer) a = tt
decision_free t ports h (Commit c answer tell notice) a = (tt, each (hosts_where (has tell)) a) where
  each : (hosts : List ℕ) → AllByRecursion (IsFree (view_for t ports h)) hosts → AllByRecursion (λ y. has_notice ports y ≡ false) hosts
  each hosts a = all_so (IsFree (view_for t ports h)) (λ y. has_notice ports y ≡ false) (no_notice t ports h) hosts a
decision_free t ports h (Ask asked notice c answer) a = no_notice t ports h asked a

pub controller_free : (core : Core) (ports : List Port) (h : ℕ) (m : Message) → AllByRecursion (GoesToFree ports) (controller_deeds (view_of core ports) h m)
controller_free core ports h m =
    let v : LinkView = view_for core.tables ports h in
    all_of_controller (GoesToFree ports) (plain ports) core ports h m
    (λ n. decision_free core.tables ports h (decided core.tables v h m.0 n (body_in m.1)) (decided_frees v core.tables h m.0 n (body_in m.1)))
    (λ p c here asked. tt) (λ errors n value command gate is. tt)
