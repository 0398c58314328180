-- What a node alone notes of a message that has its turn is the reply that is read: all is its own, of few shapes, and as for any node.
use Rattle.lone_laws.proofs.Words.{AllByRecursion, Answer, AnswersSo, AreNoBoots, AreOwn, Ask, Bool, Clear, Command, Commit, Commits, Control, Core, Create}
use Rattle.lone_laws.proofs.Words.{Decision, Deed, Delete, Desk, Drops, End, Entry, IsAnswered, IsDueAlone, IsOwn, IsRepliedAlone, IsUpNow, JoinTwo, LinkInput}
use Rattle.lone_laws.proofs.Words.{LinkView, List, Lone, LoneCause, LoneEvent, Message, NodeInput, None, Option, Port, Running, SaysOk, Sends, SetsErrors, Some}
use Rattle.lone_laws.proofs.Words.{Tells, Work, Write, [], accepts, all_append, all_done, answer_of, ap, ap₂, arith, before_turn, body_in, body_of, by_option}
use Rattle.lone_laws.proofs.Words.{by_test, commit_deeds, commit_writes, cond, controller_deeds, controller_holds, core_since, core_with, count_of, decided}
use Rattle.lone_laws.proofs.Words.{decided_tells_others, decision_deeds, done, end_of_node, end_of_node_alone, end_of_number, end_view, entries_of_reply, eqb}
use Rattle.lone_laws.proofs.Words.{eqb-true, false, filter, finds_room, gates, give_refusal, goes_in, has, host_deeds, host_holds, hosts_where, if◌then◌else◌}
use Rattle.lone_laws.proofs.Words.{inl, inr, is_answer_of, is_cut_of, is_turn_of, is_up, keeps, lack, lack_since, link_deeds, list_any, lone_arrival, lone_end}
use Rattle.lone_laws.proofs.Words.{lone_work, loses_power, lpdu_of, map, needs, not, noted_by_deeds, noted_since, noting, option_map_or, ordered_deeds}
use Rattle.lone_laws.proofs.Words.{ordered_holds, own_view, port_at, refl, reply_since, steps, subst, sym, sync_due, take_while-cons, telling_count, to_command}
use Rattle.lone_laws.proofs.Words.{true, uncut, view_for, view_of, ℕ, ◌++◌, ◌||◌, ◌∙◌, ◌∷◌, ◌≡◌}
use Rattle.gate_identity.specs.Identity.{identity_served}
use Rattle.gate_link.specs.Link.{link_served}
use Rattle.node_laws.proofs.power.Steps.{Fine, IsEndOf, steps_fine}
use Rattle.lone_laws.proofs.answered.Memories.{TellsNobody, asks_nobody, tells_nobody}
use Rattle.gate_answers.specs.declared.response.Response.TheVariants as response
use Rattle.trace_model.specs.declared.entry.Entry.TheVariants as entry

-- ## All that a node alone notes is its own, so its answers are read as those of a node among others

-- ### Answers of any node

-- an entry is an answer of a node: it commits, sends, counts, asks, drops, or ends an init
abbrev pub is_own_answer : Entry → Bool
is_own_answer (entry.Command n command) = true
is_own_answer (entry.Sent e n pid message) = true
is_own_answer (entry.AnyOk n count) = true
is_own_answer (entry.Ask host message) = true
is_own_answer (entry.Dropped e pid) = true
is_own_answer (entry.InitSame e) = true
is_own_answer (entry.InitMade e count) = true
is_own_answer (entry.InitFailed e code) = true
is_own_answer _ = false

-- a message has its turn
abbrev pub is_own_turn : Entry → Bool
is_own_turn (entry.Turn e pid message) = true
is_own_turn _ = false

-- the power goes
abbrev pub is_own_cut : Entry → Bool
is_own_cut (entry.Cut n) = true
is_own_cut _ = false

-- these entries up to the next turn
abbrev pub to_turn : List Entry → List Entry
to_turn [] = []
to_turn (x ∷ entries) = if is_own_turn x then [] else x ∷ to_turn entries

-- the node answers so until its next turn
abbrev pub AnswersOwn : List Entry → List Entry → Type 0
AnswersOwn entries answers = filter is_own_answer (to_turn entries) ≡ (if list_any is_own_cut (to_turn entries) then to_command answers else answers)

-- a message that has its turn is replied to so
abbrev pub IsRepliedOwn : Core → ℕ → List Entry → Entry → List Entry → Type 0
IsRepliedOwn found h t (entry.Turn e pid message) behind =
    (lack_since found h t (pid, message) ≡ None)
    × AnswersOwn behind (noted_since found h t (reply_since found h t (pid, message)))
IsRepliedOwn found h t _ behind = Unit {0}

-- before the first turn in an event it answers what is due
abbrev pub IsDueOwn : Core → ℕ → List Entry → LoneEvent → Type 0
IsDueOwn found h t o = AnswersOwn o.entries (noted_since found h t (sync_due (core_since found t) h o.cause))

-- ### Entries of one node

module _ (n : ℕ) where
  agree : (x : Entry) → IsOwn n x → (is_answer_of n x ≡ is_own_answer x) × (is_turn_of n x ≡ is_own_turn x) × (is_cut_of n x ≡ is_own_cut x)
  agree x own = grind arith

  before_same : (es : List Entry) → AreOwn n es → before_turn n es ≡ to_turn es
  before_same [] own = refl
  before_same (x ∷ es) own =
      take_while-cons (λ y. not (is_turn_of n y)) x es
      ∙ (ap (λ b. cond (not b) (x ∷ before_turn n es) []) (agree x own.0).1 ∙ by (is_own_turn x) (before_same es own.1)) where
        by : (b : Bool) → before_turn n es ≡ to_turn es → cond (not b) (x ∷ before_turn n es) [] ≡ cond b [] (x ∷ to_turn es)
        by b later = grind arith

  filter_same : (es : List Entry) → AreOwn n es → filter (is_answer_of n) es ≡ filter is_own_answer es
  filter_same [] own = refl
  filter_same (x ∷ es) own = ap₂ (λ b l. cond b (x ∷ l) l) (agree x own.0).0 (filter_same es own.1)

  pub cut_same : (es : List Entry) → AreOwn n es → list_any (is_cut_of n) es ≡ list_any is_own_cut es
  cut_same [] own = refl
  cut_same (x ∷ es) own = ap₂ (λ b c. b || c) (agree x own.0).2 (cut_same es own.1)

  turn_own : (es : List Entry) → AreOwn n es → AreOwn n (to_turn es)
  turn_own [] own = tt
  turn_own (x ∷ es) own = by_test (is_own_turn x) (λ q. rw q tt) (λ q. rw q (own.0, turn_own es own.1))

  answers_are : (es answers : List Entry) → AreOwn n es → AnswersOwn es answers → AnswersSo n es answers
  answers_are es answers own a =
      let before : before_turn n es ≡ to_turn es = before_same es own in
      let all : AreOwn n (to_turn es) = turn_own es own in
      ap (filter (is_answer_of n)) before
      ∙ (filter_same (to_turn es) all
      ∙ (a ∙ sym (ap (λ b. cond b (to_command answers) answers) (ap (list_any (is_cut_of n)) before ∙ cut_same (to_turn es) all))))

  pub own_behind : (front behind : List Entry) (x : Entry) → AreOwn n (front ++ (x ∷ behind)) → AreOwn n behind
  own_behind [] behind x own = own.1
  own_behind (y ∷ front) behind x own = own_behind front behind x own.1

pub replied_is : (found : Core) (h : ℕ) (t : List Entry) (x : Entry) (behind : List Entry) → AreOwn found.node behind
    → IsRepliedOwn found h t x behind → IsRepliedAlone found h t x behind
replied_is found h t (entry.Turn e pid message) behind own a =
    (a.0, answers_are found.node behind (noted_since found h t (reply_since found h t (pid, message))) own a.1)
replied_is found h t _ behind own a = tt

pub due_is : (found : Core) (h : ℕ) (t : List Entry) (o : LoneEvent) → AreOwn found.node o.entries → IsDueOwn found h t o → IsDueAlone found h t o
due_is found h t o own a = answers_are found.node o.entries (noted_since found h t (sync_due (core_since found t) h o.cause)) own a

-- ### A step

module _ (l : Lone) (its : eqb l.number 0 ≡ false → l.number ≡ l.link) where
  end_is : IsEndOf l.number l.link
  end_is = by_test (eqb l.number 0) (λ q. rw q (sym (eqb-true l.number 0 q))) (λ q. rw q (sym (its q)))

  frames_own : (frames : List Control) → AreOwn l.number (map (λ c. entry.Emit (lone_end l) (lpdu_of c)) frames)
  frames_own [] = tt
  frames_own (c ∷ frames) = (grind arith, frames_own frames)

  fine_own : (w : Work) → Fine l.number w → AreOwn l.number w.entries
  fine_own w (inl r) = r.own
  fine_own w (inr lost) =
      subst (AreOwn l.number) (sym lost.entries) (all_append (IsOwn l.number) lost.front (entry.Cut l.number ∷ []) lost.own (refl, tt))

  -- all that it notes in a step is its own
  pub step_own : (n : Running) (d : Desk) → n.desks ≡ d ∷ [] → d.host ≡ l.link → n.core.node ≡ l.number → (c : LoneCause) (i : LinkInput)
      → (input : NodeInput) (frames : List Control)
      → AreOwn l.number ((steps input (lone_work l n i (lone_arrival l c))).entries ++ map (λ c. entry.Emit (lone_end l) (lpdu_of c)) frames)
  step_own n d desks host number c i input frames =
      all_append (IsOwn l.number) (steps input begun).entries (map (λ c. entry.Emit (lone_end l) (lpdu_of c)) frames)
      (fine_own (steps input begun) (steps_fine l.number input begun (grind arith))) (frames_own frames)
    where
      begun : Work
      begun = lone_work l n i (lone_arrival l c)

-- ## What a node with one link does with a message: nothing, or one message is dropped or sent, behind a command or REC_ERROR, if at all

pub data IsLoneReply : List Deed → Type 0 where
  IsNone : IsLoneReply []
  IsDrop : (pid : ℕ) → IsLoneReply (Drops pid ∷ [])
  IsSend : (to : ℕ) (m : Message) → IsLoneReply (Sends to m ∷ [])
  IsCommit : (c : Command) (to : ℕ) (m : Message) → IsLoneReply (Commits c ∷ Sends to m ∷ SaysOk ∷ [])
  IsSet : (v to : ℕ) (m : Message) → IsLoneReply (SetsErrors v ∷ Sends to m ∷ [])
  IsHeard : IsLoneReply (IsAnswered ∷ [])

commit_reply : (b : Bool) (h pipe : ℕ) (c : Command) (answer notice : List ℕ) (hosts : List ℕ) → AllByRecursion (λ (y : ℕ). ⊥) hosts
    → IsLoneReply (commit_deeds b h pipe c answer (map (λ told. Tells told notice) hosts))
commit_reply true h pipe c answer notice [] a = IsCommit c h (pipe, answer)
commit_reply false h pipe c answer notice [] a = IsSend h (pipe, answer_of response.NotOk [])
commit_reply b h pipe c answer notice (y ∷ hosts) a = absurd a.0

decision_reply : (core : Core) (h pipe : ℕ) (d : Decision) → TellsNobody d → IsLoneReply (decision_deeds (own_view core) h pipe d)
decision_reply core h pipe (Answer answer) a = IsSend h (pipe, answer.items)
decision_reply core h pipe (Commit c answer tell notice) a =
    commit_reply (finds_room core c) h pipe c answer.items notice.items (hosts_where (has tell)) a
decision_reply core h pipe (Ask dest notice c answer) a = absurd a

link_reply : (h pipe : ℕ) (answer : List ℕ × Option ℕ) → IsLoneReply (link_deeds h pipe answer)
link_reply h pipe answer = by_option answer.1 (λ q. rw q (IsSend h (pipe, answer.0))) (λ v q. rw q (IsSet v h (pipe, answer.0)))

pub controller_reply : (core : Core) (p : Port) (h : ℕ) (m : Message) → p.desk.host ≡ h → p.desk.notice ≡ None → JoinTwo core.tables.rows
    → IsLoneReply (controller_deeds (view_of core (p ∷ [])) h m)
controller_reply core p h m host none two =
    let v : LinkView = view_for core.tables (p ∷ []) h in
    controller_holds IsLoneReply core (p ∷ []) h m (record {
      drops = λ pid none. IsDrop pid;
      goes_on = λ to off. IsSend to m;
      goes_back = λ n event. IsSend h m;
      refuses = λ r off free. IsSend h (m.0, answer_of r []);
      names = λ n served gate. IsSend h (m.0, identity_served gates n (body_in m.1));
      counts = λ errors n served gate. link_reply h m.0 (link_served errors n (body_in m.1));
      decides = λ n served gate.
          let d : Decision = decided core.tables v h m.0 n (body_in m.1) in
          decision_reply core h m.0 d
          (tells_nobody core.tables p h host d (decided_tells_others core.tables v h m.0 n (body_in m.1) two) (asks_nobody core.tables p h host m.0 n
          (body_in m.1)));
      hears = λ q reply here asked. IsHeard;
      agrees = λ flag q c reply here asked room. absurd (grind arith);
    })
  where
    same : (q : Port) → port_at (p ∷ []) h ≡ Some q → p ≡ q
    same q here = grind arith

accepts_reply : (core : Core) (c : Command) → IsLoneReply (accepts (own_view core) c)
accepts_reply core c = by_test (finds_room core c)
    (λ q. rw q (IsCommit c core.node (1, answer_of response.Ok [])))
    (λ q. rw q (IsSend core.node (1, answer_of response.NotOk [])))

ordered_reply : (core : Core) (errors pipe n : ℕ) (body : List ℕ) → IsLoneReply (ordered_deeds (own_view core) errors pipe n body)
ordered_reply core errors pipe n body = ordered_holds IsLoneReply core errors pipe n body (record {
  none = IsNone;
  refuses = λ r. IsSend core.node (1, answer_of r []);
  creates = λ row named welcome. accepts_reply core (Create row);
  deletes = λ pid kept. accepts_reply core (Delete pid);
  clears = λ x host. accepts_reply core (Clear x);
  counts = λ link. link_reply core.node 0 (link_served errors n body);
  names = λ off. IsSend core.node (pipe, identity_served gates n body);
})

pub host_reply : (core : Core) (p : Port) (m : Message) → core.command ≡ None → IsLoneReply (host_deeds (own_view core) (end_view p) m)
host_reply core p m none = host_holds IsLoneReply core p m (record {
  none = IsNone;
  drops = IsDrop m.0;
  goes = IsSend core.node m;
  ordered = λ n is. ordered_reply core p.desk.errors m.0 n (body_in m.1);
  heard = λ code order is. let gone : None ≡ Some order = sym none ∙ is in absurd (cc gone);
})

-- ## What is noted of the deeds of a node alone, one after another, are the entries of a reply of such a node among others

-- What deeds note of a node that keeps this, one after another, where its end has this session: as they are done, the count is the journal's.
abbrev pub entries_of_deeds : Core → End → Option ℕ → List Deed → List Entry
entries_of_deeds core e_of_told session [] = []
entries_of_deeds core e_of_told session (Commits c ∷ deeds) = entry.Command core.node c ∷ entries_of_deeds (core_with core c) e_of_told session deeds
entries_of_deeds core e_of_told session (Sends to m ∷ deeds) =
    cond (eqb to e_of_told.link) (option_map_or (λ n. entry.Sent e_of_told n m.0 m.1 ∷ []) session []) [] ++ entries_of_deeds core e_of_told session deeds
entries_of_deeds core e_of_told session (SaysOk ∷ deeds) = entry.AnyOk core.node (count_of core.journal) ∷ entries_of_deeds core e_of_told session deeds
entries_of_deeds core e_of_told session (Drops pid ∷ deeds) = entry.Dropped e_of_told pid ∷ entries_of_deeds core e_of_told session deeds
entries_of_deeds core e_of_told session (_ ∷ deeds) = entries_of_deeds core e_of_told session deeds

pub same_number : (number h : ℕ) → end_of_number number h ≡ end_of_node_alone number h
same_number number h = by_test (eqb number 0) (λ q. rw q refl) (λ q. rw q refl)

module _ (number h : ℕ) (session : Option ℕ) where
  abbrev e_of_told : End
  e_of_told = end_of_node_alone number h

  abbrev sessions : ℕ → Option ℕ
  sessions k = cond (eqb k h) session None

  abbrev sent : ℕ → Message → List Entry
  sent to m = cond (eqb to e_of_told.link) (option_map_or (λ n. entry.Sent e_of_told n m.0 m.1 ∷ []) session []) []

  -- so the entries of a reply are told
  abbrev pub noted_as_reply : Core → ℕ → List Deed → List Entry
  noted_as_reply core count deeds =
      let entries : List Entry = entries_of_reply number sessions h count deeds in map (telling_count (core_since core entries)) entries

  module _ (core : Core) (node : core.node ≡ number) where
    -- a reply of a node alone
    pub reply_told : (count : ℕ) (deeds : List Deed) → IsLoneReply deeds → noted_as_reply core count deeds ≡ entries_of_deeds core e_of_told session deeds
    reply_told count deeds a = grind arith

-- ## What a node alone notes of a message that has its turn is the reply that is read

-- the session of an end, while it is up
abbrev pub session_of_end : Port → Option ℕ
session_of_end p = cond (is_up p.side.shdlc.phase) (Some p.session) None

-- this end takes the message, where it is the one to which it is sent, and up
abbrev pub TakesIt : Port → ℕ → Message → Type 0
TakesIt p to m = eqb p.desk.host to ≡ true → p.side.shdlc.phase ≡ IsUpNow → give_refusal p.side m ≡ None

-- after one deed that leaves the power on
one_cut : (k : ℕ) (d : Deed) (u : Work) → (done k d u).cut ≡ false → (all_done k (d ∷ []) u).cut ≡ false
one_cut k d u q = ap (λ (w : Work). w.cut) (uncut (all_done k []) (done k d u) q) ∙ q

module _ (number h : ℕ) where
  abbrev e : End
  e = end_of_node_alone number h

  -- ### A reply

  -- What deeds noted is the reply that is read; where the power went, it is the command in whose writes it went, and its loss.
  abbrev pub IsNotedSo : Bool → List Entry → List Entry → Type 0
  IsNotedSo false noted reply = noted ≡ reply
  IsNotedSo true noted reply =
      (c : Command) × (back : List Entry) × (reply ≡ entry.Command number c ∷ back) × (noted ≡ entry.Command number c ∷ entry.Cut number ∷ [])

  module _ (k : ℕ) (u : Work) (p : Port) (on : u.cut ≡ false) (ports : u.ports ≡ p ∷ []) (node : u.core.node ≡ number) (host : p.desk.host ≡ h)
      (own : end_of_node u.core k ≡ e) where
    abbrev reads : List Deed → List Entry
    reads deeds = entries_of_deeds u.core e (session_of_end p) deeds

    commit_noted : (c : Command) (to : ℕ) (m : Message) → TakesIt p to m
        → IsNotedSo (all_done k (Commits c ∷ Sends to m ∷ SaysOk ∷ []) u).cut (noted_by_deeds k (Commits c ∷ Sends to m ∷ SaysOk ∷ []) u)
        (reads (Commits c ∷ Sends to m ∷ SaysOk ∷ []))
    commit_noted c to m takes = go (goes_in c u) refl where
      writes : List Write
      writes = commit_writes u.core.journal u.core.tables (body_of c)

      by : Bool → Work
      by true = (loses_power writes (noting (entry.Command u.core.node c ∷ []) u))
      by false = (keeps c writes (noting (entry.Command u.core.node c ∷ []) u))

      its : (b : Bool) → goes_in c u ≡ b → done k (Commits c) u ≡ by b
      its b q = grind arith

      D : List Deed
      D = Sends to m ∷ SaysOk ∷ []

      go : (b : Bool) → goes_in c u ≡ b
          → IsNotedSo (all_done k (Commits c ∷ D) u).cut (noted_by_deeds k (Commits c ∷ D) u) (reads (Commits c ∷ D))
      go true q = grind arith
      go false q = grind arith

    pub reply_noted : (deeds : List Deed) → IsLoneReply deeds → ((to : ℕ) (m : Message) → lack u.ports (needs k (Sends to m ∷ [])) ≡ None → TakesIt p to m)
        → lack u.ports (needs k deeds) ≡ None → IsNotedSo (all_done k deeds u).cut (noted_by_deeds k deeds u) (reads deeds)
    reply_noted _ IsNone takes room = subst (λ b. IsNotedSo b [] []) (sym on) refl
    reply_noted _ (IsDrop pid) takes room = grind arith
    reply_noted _ (IsSend to m) takes room = grind arith
    reply_noted _ (IsCommit c to m) takes room = commit_noted c to m (takes to m room)
    reply_noted _ (IsSet v to m) takes room = grind arith
    reply_noted _ IsHeard takes room = grind arith

-- ### Answers until the next turn

-- an entry is no answer, no turn and no loss of power
abbrev pub IsMuteEntry : Entry → Type 0
IsMuteEntry x = (is_own_answer x ≡ false) × (is_own_turn x ≡ false) × (is_own_cut x ≡ false)

-- the answers until the next turn are these, and the power stays on or goes
abbrev pub AreUntil : List Entry → Bool → List Entry → Type 0
AreUntil answers cut es = (filter is_own_answer (to_turn es) ≡ answers) × (list_any is_own_cut (to_turn es) ≡ cut)

pub mute_then : (x : Entry) (es answers : List Entry) (cut : Bool) → IsMuteEntry x → AreUntil answers cut es → AreUntil answers cut (x ∷ es)
mute_then x es answers cut mute a = grind arith

pub mutes_then : (xs es answers : List Entry) (cut : Bool) → AllByRecursion IsMuteEntry xs → AreUntil answers cut es → AreUntil answers cut (xs ++ es)
mutes_then [] es answers cut mute a = a
mutes_then (x ∷ xs) es answers cut mute a = mute_then x (xs ++ es) answers cut mute.0 (mutes_then xs es answers cut mute.1 a)

-- these are answers alone
abbrev pub IsAnswerEntry : Entry → Type 0
IsAnswerEntry x = (is_own_answer x ≡ true) × (is_own_turn x ≡ false) × (is_own_cut x ≡ false)

answers_then : (xs es : List Entry) → AllByRecursion IsAnswerEntry xs → AreUntil [] false es → AreUntil xs false (xs ++ es)
answers_then [] es are a = a
answers_then (x ∷ xs) es are a = let h0 = (xs ++ es) in let h1 = (answers_then xs es are.1 a) in grind arith

-- the entries of deeds are answers
pub deeds_answer : (e : End) (session : Option ℕ) (deeds : List Deed) (core : Core) → AllByRecursion IsAnswerEntry (entries_of_deeds core e session deeds)
deeds_answer e session [] core = tt
deeds_answer e session (Commits c ∷ deeds) core = ((refl, refl, refl), deeds_answer e session deeds (core_with core c))
deeds_answer e session (Sends to m ∷ deeds) core = let h0 = deeds_answer e session deeds core in grind arith
deeds_answer e session (SaysOk ∷ deeds) core = ((refl, refl, refl), deeds_answer e session deeds core)
deeds_answer e session (Drops pid ∷ deeds) core = ((refl, refl, refl), deeds_answer e session deeds core)
deeds_answer e session (_ ∷ deeds) core = deeds_answer e session deeds core

pub answers_unbooted : (es : List Entry) → AllByRecursion IsAnswerEntry es → AreNoBoots es
answers_unbooted [] a = tt
answers_unbooted (x ∷ es) a = (grind arith, answers_unbooted es a.1)

-- What is noted as a reply, and then nothing until the next turn, are the answers that are read.
pub noted_answers : (number h : ℕ) (cut : Bool) (noted reply rest : List Entry) → AllByRecursion IsAnswerEntry reply → IsNotedSo number h cut noted reply
    → (cut ≡ false → AreUntil [] false rest) → (cut ≡ true → AreUntil [] false rest) → AnswersOwn (noted ++ rest) reply
noted_answers number h false noted reply rest are so later gone =
    let a : AreUntil reply false (reply ++ rest) = answers_then reply rest are (later refl) in
    subst (λ es. AnswersOwn (es ++ rest) reply) (sym so) (a.0 ∙ sym (ap (λ b. cond b (to_command reply) reply) a.1))
noted_answers number h true noted reply rest are so later gone = grind arith
