-- What a host does and answers as it handles a message, at its turn and over its pass, is what is read.
use mathlib.Core.Path.{fun_ext}
use Rattle.node_laws.proofs.Words.{AllByRecursion, AnswersSo, ArePassed, ArePortsRead, Asks, BeginWithTurn, Bool, ComesTo, Command, Commits, Core, Deed, Drops}
use Rattle.node_laws.proofs.Words.{End, Ends, Entry, ErrorCount, GiveOnce, GoesOn, HadTurn, HasRoomForAll, Hears, Host, Init, IsAnswered, IsHeldFor, IsHost}
use Rattle.node_laws.proofs.Words.{IsPlain, IsReplied, IsReplyNoted, IsWaitingRead, LinkState, List, MayBeDone, Memory, Message, Moment, None, Option, Orders}
use Rattle.node_laws.proofs.Words.{Port, Releases, SaysOk, Sends, SetsErrors, Some, State, Tells, WasHeld, Work, [], ap, append-nil, append_assoc}
use Rattle.node_laws.proofs.Words.{append_cancel_left, ap₂, arith, before_turn, body_in, by_option, by_test, cases_Bool, commands_in, commands_noted, cond}
use Rattle.node_laws.proofs.Words.{cond-true, cond_both, count_of, deeds_of, end_h, end_of, end_of_node, end_of_number, end_read, end_view, entries_of_reply}
use Rattle.node_laws.proofs.Words.{eq-eqb, eqb, eqb-true, errors_in, false, filter, finds_room, first_lack, handles, holds_in, host_deeds, host_holds}
use Rattle.node_laws.proofs.Words.{hosts_of_ends, init_deeds, inl, inr, is_answer_of, is_cut_of, is_held_at, is_one_of, is_some, is_turn_of, is_up, is_up_read}
use Rattle.node_laws.proofs.Words.{lack, lack_at, lack_of, lacking, learned, learned_holds, length, list_any, min, ne_eqb, needs, next_count, no_errors}
use Rattle.node_laws.proofs.Words.{node_of, not, noted_by_deeds, noted_of_deeds, oldest, option_and_then, option_map_or, or-false, order_in, ordered_deeds}
use Rattle.node_laws.proofs.Words.{own_read, own_side, own_view, passes, port_at, prefix_len, refl, reply, sent_in_session, session_now, session_of_port, spare}
use Rattle.node_laws.proofs.Words.{spare_at, spare_read, spare_with, subst, sym, tables_in, take, takes_up, to_command, true, true≢false, unhandled_in, until}
use Rattle.node_laws.proofs.Words.{waiting_at, ℕ, ◌++◌, ◌+◌, ◌-◌, ◌^◌, ◌||◌, ◌∙◌, ◌∷◌, ◌≡◌, ◌≤◌, ◌⊎◌}
use Rattle.node_laws.specs.passes.Passing.ComesTo.{Begins}
use Rattle.node_laws.specs.reply_passes.Counts.{commands_noted as commits}
use Rattle.node_laws.proofs.hosts.Knowing.{HasNone, HaveNone, HostKnows, comes_none, knows_lasts, own_end}
use Rattle.node_laws.proofs.kept.Stepping.{deeds_may}
use Rattle.node_laws.proofs.passes.Replying.{counts_one, reply_noted}
use Rattle.node_laws.proofs.passes.Passing.{comes_lasts, comes_so, through}
use Rattle.node_laws.proofs.passes.Waiting.{waiting_read}
use Rattle.node_laws.proofs.readings.Turning.{host_side}
use Rattle.node_laws.proofs.replies.Passes.{lack_alike, most_of, some_if}
use Rattle.node_laws.proofs.reply_passes.Ordered.{goes_read, runs_comes}
use Rattle.node_laws.proofs.reply_passes.Roomy.{Grows, comes_grow, commits-append, few_find_room}
use Rattle.node_laws.proofs.reply_passes.Held.{AreNoBoots, AreOnSide, front_unbooted, pass_sided, told_all}
use Rattle.node_laws.proofs.turns.Passing.{Goes}
use Rattle.node_laws.proofs.views.Going.{deeds_is, reads_init}
use Rattle.node_laws.proofs.views.Doing.{HasErrors, reads, reads_append}
use Rattle.node_laws.proofs.worlds.Late.{before_first}
use Rattle.trace_model.specs.declared.entry.Entry.TheVariants as entry

-- ## What a host answers until its next turn, as it is read off what was noted behind its turn

-- ### Up to a command

-- behind entries that tell of no command this is the first one
first_command : (front back : List Entry) (n : ℕ) (c : Command) → commands_noted front ≡ 0
    → to_command (front ++ (entry.Command n c ∷ back)) ≡ front ++ (entry.Command n c ∷ [])
first_command [] back n c none = refl
first_command (entry.Command m d ∷ front) back n c none = absurd (omega (arith, none))
first_command (x ∷ front) back n c none = ap (λ l. x ∷ l) (first_command front back n c none)

module _ (n : ℕ) where
  -- ### Until the next turn

  abbrev answers_until : List Entry → List Entry
  answers_until es = filter (is_answer_of n) (before_turn n es)

  abbrev cut_until : List Entry → Bool
  cut_until es = list_any (is_cut_of n) (before_turn n es)

  -- nothing is answered until the next turn, and the power stays on
  abbrev IsSilent : List Entry → Type 0
  IsSilent es = (answers_until es ≡ []) × (cut_until es ≡ false)

  before_stop : (x : Entry) (es : List Entry) → is_turn_of n x ≡ true → before_turn n (x ∷ es) ≡ []
  before_stop x es turn = ap (λ b. take (cond (not b) (1 + prefix_len (λ x. not (is_turn_of n x)) es) 0) (x ∷ es)) turn

  -- what an entry adds that is no turn of the host
  first_until : (x : Entry) (es : List Entry) → is_turn_of n x ≡ false
      → (answers_until (x ∷ es) ≡ cond (is_answer_of n x) (x ∷ answers_until es) (answers_until es)) × (cut_until (x ∷ es) ≡ (is_cut_of n x || cut_until es))
  first_until x es off = (ap (filter (is_answer_of n)) (before_first n x es off), ap (list_any (is_cut_of n)) (before_first n x es off))

  stop_until : (x : Entry) (es : List Entry) → is_turn_of n x ≡ true → IsSilent (x ∷ es)
  stop_until x es turn = (ap (filter (is_answer_of n)) (before_stop x es turn), ap (list_any (is_cut_of n)) (before_stop x es turn))

  quiet_until : (x : Entry) (es : List Entry) → is_turn_of n x ≡ false → is_answer_of n x ≡ false → is_cut_of n x ≡ false → IsSilent es → IsSilent (x ∷ es)
  quiet_until x es off none kept silent = grind arith

  -- an answer is no turn, and no loss of power
  answer_alone : (x : Entry) → is_answer_of n x ≡ true → (is_turn_of n x ≡ false) × (is_cut_of n x ≡ false)
  answer_alone x is = grind arith

  reply_until : (xs : List Entry) → AllByRecursion (λ x. is_answer_of n x ≡ true) xs → (es : List Entry)
      → (answers_until (xs ++ es) ≡ xs ++ answers_until es) × (cut_until (xs ++ es) ≡ cut_until es)
  reply_until [] all es = (refl, refl)
  reply_until (x ∷ xs) all es =
      let one = first_until x (xs ++ es) (answer_alone x all.0).0 in
      let later = reply_until xs all.1 es in grind arith

  -- entries that are neither answers of the host nor a loss of its power
  abbrev pub AreUnanswered : List Entry → Type 0
  AreUnanswered es = AllByRecursion (λ x. (is_answer_of n x ≡ false) × (is_cut_of n x ≡ false)) es

  silent_rest : (es : List Entry) → AreUnanswered es → IsSilent es
  silent_rest [] all = (refl, refl)
  silent_rest (x ∷ es) all = by_test (is_turn_of n x)
      (λ turn. stop_until x es turn)
      (λ none. quiet_until x es none all.0.0 all.0.1 (silent_rest es all.1))

  -- messages are held until the next turn of the host, or until all is told
  abbrev TrailsOff : List Entry → Type 0
  TrailsOff [] = Unit {0}
  TrailsOff (entry.Turn e pid message ∷ es) = node_of e ≡ n
  TrailsOff (entry.Held e need spare ∷ es) = TrailsOff es
  TrailsOff (_ ∷ es) = ⊥

  silent_trails : (later rest : List Entry) → TrailsOff later → AreUnanswered rest → IsSilent (later ++ rest)
  silent_trails [] rest trails none = silent_rest rest none
  silent_trails (entry.Turn e pid message ∷ later) rest trails none = grind arith
  silent_trails (entry.Held e need spare ∷ later) rest trails none =
      quiet_until (entry.Held e need spare) (later ++ rest) refl refl refl (silent_trails later rest trails none)
  silent_trails (_ ∷ later) rest trails none = absurd trails

  front_answers : (front back : List Entry) → AllByRecursion (λ x. is_answer_of n x ≡ true) (front ++ back)
      → AllByRecursion (λ x. is_answer_of n x ≡ true) front
  front_answers [] back all = tt
  front_answers (x ∷ front) back all = (all.0, front_answers front back all.1)

  one_more : (front : List Entry) (c : Command) → AllByRecursion (λ x. is_answer_of n x ≡ true) front
      → AllByRecursion (λ x. is_answer_of n x ≡ true) (front ++ entry.Command n c ∷ [])
  one_more [] c all = (eq-eqb n n refl, tt)
  one_more (x ∷ front) c all = (all.0, one_more front c all.1)

  -- ### A reply that is noted

  answers_so : (off : Bool) (noted reply later rest : List Entry) → IsReplyNoted off n noted reply
      → AllByRecursion (λ x. is_answer_of n x ≡ true) reply → commands_noted reply ≤ 1 → TrailsOff later → (off ≡ true → later ≡ []) → AreUnanswered rest
      → AnswersSo n ((noted ++ later) ++ rest) reply
  answers_so false noted reply later rest is all few trails power none =
      let silent : IsSilent (later ++ rest) = silent_trails later rest trails none in
      let parts = reply_until reply all (later ++ rest) in
      let es : (noted ++ later) ++ rest ≡ reply ++ (later ++ rest) = append_assoc noted later rest ∙ ap (λ l. l ++ (later ++ rest)) is in
      ap answers_until es
      ∙ ((parts.0 ∙ (ap (λ l. reply ++ l) silent.0 ∙ append-nil reply))
      ∙ sym (ap (λ b. cond b (to_command reply) reply) (ap cut_until es ∙ (parts.1 ∙ silent.1))))
  answers_so true noted reply later rest is all few trails power none =
      let front : List Entry = is.0 in
      let c : Command = is.1 in
      let told : List Entry = front ++ entry.Command n c ∷ [] in
      let first : AllByRecursion (λ x. is_answer_of n x ≡ true) told =
      one_more front c (front_answers front (entry.Command n c ∷ is.2) (subst (AllByRecursion (λ x. is_answer_of n x ≡ true)) is.3 all)) in
      let none_before : commands_noted front ≡ 0 =
      (let one = commits-append front (entry.Command n c ∷ is.2) in let two = ap commands_noted is.3 in omega (arith, one, two, few)) in
      let es : (noted ++ later) ++ rest ≡ told ++ (entry.Cut n ∷ rest) =
      ap₂ (λ a b. (a ++ b) ++ rest) is.4 (power refl)
      ∙ (ap (λ l. l ++ rest) (append-nil (front ++ (entry.Command n c ∷ entry.Cut n ∷ [])))
      ∙ (append_assoc front (entry.Command n c ∷ entry.Cut n ∷ []) rest ∙ sym (append_assoc front (entry.Command n c ∷ []) (entry.Cut n ∷ rest)))) in
      let parts = reply_until told first (entry.Cut n ∷ rest) in
      let cut = first_until (entry.Cut n) rest refl in
      let is_cut : cut_until (entry.Cut n ∷ rest) ≡ true = cut.1 ∙ ap (λ b. b || cut_until rest) (eq-eqb n n refl) in
      ap answers_until es
      ∙ ((parts.0 ∙ (ap (λ l. told ++ l) (cut.0 ∙ (silent_rest rest none).0) ∙ append-nil told))
      ∙ sym (ap (λ b. cond b (to_command reply) reply) (ap cut_until es ∙ (parts.1 ∙ is_cut))
      ∙ (ap to_command is.3 ∙ first_command front is.2 n c none_before)))

-- ## As it handles a message a host gives its own end one message at most, and tells of nothing but itself

-- ### Deeds

-- deeds of the host n, which give its own end one message at most, and none where this is false; what they note of an init is its own
abbrev GivesOnce : ℕ → Bool → List Deed → Type 0
GivesOnce n may [] = Unit {0}
GivesOnce n may (Commits c ∷ deeds) = GivesOnce n may deeds
GivesOnce n may (Sends to m ∷ deeds) = (may ≡ true) × (to ≡ n) × GivesOnce n false deeds
GivesOnce n may (SaysOk ∷ deeds) = GivesOnce n may deeds
GivesOnce n may (Drops pid ∷ deeds) = GivesOnce n may deeds
GivesOnce n may (SetsErrors errors ∷ deeds) = GivesOnce n may deeds
GivesOnce n may (Orders message ∷ deeds) = (may ≡ true) × GivesOnce n false deeds
GivesOnce n may (Hears ∷ deeds) = GivesOnce n may deeds
GivesOnce n may (GoesOn i ∷ deeds) = GivesOnce n may deeds
GivesOnce n may (Ends e ∷ deeds) = (is_answer_of n e ≡ true) × GivesOnce n may deeds
GivesOnce n may (_ ∷ deeds) = ⊥

module _ (core : Core) (off : eqb core.node 0 ≡ false) where
  abbrev Once : List Deed → Type 0
  Once deeds = GivesOnce core.node true deeds

  ordered_once : (errors pipe n : ℕ) (body : List ℕ) → Once (ordered_deeds (own_view core) errors pipe n body)
  ordered_once errors pipe n body = grind arith

  learned_then : (b : Bool) (order value : List ℕ) (behind : List Deed) → Once behind → Once (cond b (learned (own_view core) order value) [] ++ behind)
  learned_then b order value behind may =
      cond_both b (learned (own_view core) order value) [] (λ deeds. Once (deeds ++ behind))
      (λ _. learned_holds (λ deeds. Once (deeds ++ behind)) core may (λ c is room. may) order value) (λ _. may)

  host_once : (p : Port) (m : Message) → Once (host_deeds (own_view core) (end_view p) m)
  host_once p m = host_holds Once core p m (record {
    none = tt;
    drops = tt;
    goes = (refl, refl, tt);
    ordered = λ n is. ordered_once p.desk.errors m.0 n (body_in m.1);
    heard = λ code order is. learned_then (eqb code 0) order (body_in m.1) (init_deeds (own_view core) code (body_in m.1) core.init)
        (grind arith);
  })

-- ### What they note

module _ (n : ℕ) where
  -- each end gets one message at most
  once_given : (may : Bool) (deeds : List Deed) → GivesOnce n may deeds → GiveOnce n (cond may [] (n ∷ [])) deeds
  once_given may [] o = tt
  once_given may (Sends to m ∷ deeds) o = let h0 = once_given false deeds o.2 in grind arith
  once_given may (Asks to message c ∷ deeds) o = absurd o
  once_given may (Releases asker ∷ deeds) o = absurd o
  once_given may (Tells to message ∷ deeds) o = absurd o
  once_given may (IsAnswered ∷ deeds) o = absurd o
  once_given may (Orders message ∷ deeds) o = let h0 = once_given false deeds o.1 in grind arith
  once_given may (Ends e ∷ deeds) o = once_given may deeds o.1
  once_given may (_ ∷ deeds) o = once_given may deeds o

  module _ (off : eqb n 0 ≡ false) where
    abbrev AreAnswers : List Entry → Type 0
    AreAnswers es = AllByRecursion (λ x. is_answer_of n x ≡ true) es

    module _ (sessions : ℕ → Option ℕ) where
      -- all that they note is answers of the host
      reply_answers : (count : ℕ) (may : Bool) (deeds : List Deed) → GivesOnce n may deeds → AreAnswers (entries_of_reply n sessions n count deeds)
      reply_answers count may [] o = tt
      reply_answers count may (Commits c ∷ deeds) o = (eq-eqb n n refl, reply_answers (next_count count) may deeds o)
      reply_answers count may (Sends to m ∷ deeds) o = let h0 = reply_answers count false deeds o.2 in grind arith
      reply_answers count may (SaysOk ∷ deeds) o = (eq-eqb n n refl, reply_answers count may deeds o)
      reply_answers count may (Drops pid ∷ deeds) o = ((rw off (eq-eqb n n refl)), reply_answers count may deeds o)
      reply_answers count may (SetsErrors errors ∷ deeds) o = reply_answers count may deeds o
      reply_answers count may (Orders message ∷ deeds) o = let h0 = reply_answers count false deeds o.1 in grind arith
      reply_answers count may (Hears ∷ deeds) o = reply_answers count may deeds o
      reply_answers count may (GoesOn i ∷ deeds) o = reply_answers count may deeds o
      reply_answers count may (Ends e ∷ deeds) o = (o.0, reply_answers count may deeds o.1)
      reply_answers count may (_ ∷ deeds) o = absurd o

  -- of the sessions the host's own one counts
  module _ (sessions others : ℕ → Option ℕ) (same : sessions n ≡ others n) where
    sent_same : (to : ℕ) (m : Message) → to ≡ n → sent_in_session n sessions to m ≡ sent_in_session n others to m
    sent_same to m is = grind arith

    reply_sessions : (count : ℕ) (may : Bool) (deeds : List Deed) → GivesOnce n may deeds
        → entries_of_reply n sessions n count deeds ≡ entries_of_reply n others n count deeds
    reply_sessions count may [] o = refl
    reply_sessions count may (Commits c ∷ deeds) o = ap (λ l. entry.Command n c ∷ l) (reply_sessions (next_count count) may deeds o)
    reply_sessions count may (Sends to m ∷ deeds) o = ap₂ (λ a b. a ++ b) (sent_same to m o.1) (reply_sessions count false deeds o.2)
    reply_sessions count may (SaysOk ∷ deeds) o = ap (λ l. entry.AnyOk n count ∷ l) (reply_sessions count may deeds o)
    reply_sessions count may (Drops pid ∷ deeds) o = ap (λ l. entry.Dropped (end_of_number n n) pid ∷ l) (reply_sessions count may deeds o)
    reply_sessions count may (SetsErrors errors ∷ deeds) o = reply_sessions count may deeds o
    reply_sessions count may (Orders message ∷ deeds) o = ap₂ (λ a b. a ++ b) (sent_same n (1, message) refl) (reply_sessions count false deeds o.1)
    reply_sessions count may (Hears ∷ deeds) o = reply_sessions count may deeds o
    reply_sessions count may (GoesOn i ∷ deeds) o = reply_sessions count may deeds o
    reply_sessions count may (Ends e ∷ deeds) o = ap (λ l. e ∷ l) (reply_sessions count may deeds o.1)
    reply_sessions count may (_ ∷ deeds) o = absurd o

-- ### Commands

module _ (n : ℕ) (sessions : ℕ → Option ℕ) (h : ℕ) where
  sent_none : (to : ℕ) (m : Message) (es : List Entry) → commands_noted (sent_in_session n sessions to m ++ es) ≡ commands_noted es
  sent_none to m es = by_option (sessions to) (λ q. rw q refl) (λ k q. rw q refl)

  plain_none : (e : Entry) (es : List Entry) → IsPlain e → commands_noted (e ∷ es) ≡ commands_noted es
  plain_none e es plain = grind arith

  below : (es rest : List Entry) (most : ℕ) → commands_noted es ≡ commands_noted rest → commands_noted rest ≤ most → commands_noted es ≤ most
  below es rest most same few = omega (arith, same, few)

  -- a reply tells of one command at most
  reply_few : (count : ℕ) (journal : Option State) (command : Option (List ℕ)) (init : Option Init) (deeds : List Deed)
      → MayBeDone journal command init deeds → commands_noted (entries_of_reply n sessions h count deeds) ≤ most_of journal
  reply_few count journal command init [] may = omega arith
  reply_few count None command init (Commits c ∷ deeds) may = absurd may.0
  reply_few count (Some s) command init (Commits c ∷ deeds) may =
      let later = reply_few (next_count count) None command init deeds may.1 in omega (arith, later)
  reply_few count journal command init (Sends to m ∷ deeds) may =
      let h0 = most_of journal in let h1 = reply_few count journal command init deeds may in grind arith
  reply_few count None command init (Asks to message c ∷ deeds) may = absurd may.0
  reply_few count (Some s) command init (Asks to message c ∷ deeds) may =
      let later = reply_few count None command init deeds may.1 in
      let one = sent_none to (1, message) (entries_of_reply n sessions h count deeds) in omega (arith, later, one)
  reply_few count journal command init (Tells to message ∷ deeds) may =
      let h0 = most_of journal in let h1 = reply_few count journal command init deeds may in grind arith
  reply_few count journal command init (Orders message ∷ deeds) may =
      let h0 = most_of journal in let h1 = reply_few count journal (Some message) init deeds may in grind arith
  reply_few count journal command init (Hears ∷ deeds) may = reply_few count journal None init deeds may
  reply_few count journal command init (GoesOn i ∷ deeds) may = reply_few count journal command (Some i) deeds may
  reply_few count journal command init (Ends e ∷ deeds) may =
      let h0 = most_of journal in let h1 = reply_few count journal command None deeds may.1 in grind arith
  reply_few count journal command init (_ ∷ deeds) may = reply_few count journal command init deeds may

-- ## At its turn a message gets from a host the reply that is read, and lacks what is read

-- REC_ERROR of a host's end, and what is read of the controller beside, behind these entries
abbrev pub errors_behind : ℕ → List Entry → ErrorCount
errors_behind n u = reads (end_h n) u no_errors

-- the reply of a host, by what is read of it and of its end
pub far_reply : (hosts : List ℕ) (n : ℕ) → eqb n 0 ≡ false → (m : Moment) (message : Message)
    → reply hosts m (end_h n) message ≡ host_deeds (own_read m n) (end_read (until m) n n) message
far_reply hosts n off m message = grind arith

module _ (hosts : List ℕ) (n : ℕ) (host : IsHost n) (u : List Entry) (i0 : Option Init) (memory : Memory) (order_phase init_phase : LinkState) where
  abbrev pub Knows : Work → Type 0
  Knows w = HostKnows n host u i0 (errors_behind n u) memory order_phase init_phase w

  -- a moment in a step of the host, behind these entries of the step
  pub record IsMomentOf (es : List Entry) (m : Moment) : Type 0 where
    pub at : until m ≡ u ++ es
    pub init : (own_read m n).init ≡ reads_init n es i0

  pub zero : eqb n 0 ≡ false
  zero = ne_eqb n 0 (λ z. omega (arith, z, host.0))

  module _ (w : Work) (k : Knows w) (ends : ArePortsRead Host u w) (none : HaveNone w) (room : HasRoomForAll w) (m : Moment)
      (is : IsMomentOf w.entries m) where
    abbrev its_port : Port
    its_port = k.inits.base.port

    here : port_at w.ports n ≡ Some its_port
    here =
        ap (λ ps. port_at ps n) k.inits.base.is
        ∙ cond-true (eqb its_port.desk.host n) (Some its_port) None (eq-eqb its_port.desk.host n k.inits.base.at)

    number_is : end_of_number n n ≡ end_h n
    number_is = rw zero refl

    -- ### What is read

    session_is : session_now (until m) (end_of_number n n) n ≡ cond (is_up its_port.side.shdlc.phase) (Some its_port.session) None
    session_is = ap₂ (λ t e. session_now t e n) is.at number_is ∙ (ends n its_port here).session

    up_is : is_up its_port.side.shdlc.phase ≡ is_up_read (until m) n n
    up_is = sym (ap is_some session_is ∙ some_if (is_up its_port.side.shdlc.phase) its_port.session)

    errors_is : its_port.desk.errors ≡ errors_in (until m) (end_of_number n n)
    errors_is =
        let has : AllByRecursion (HasErrors (end_h n) k.errors.errors) (its_port ∷ []) = grind arith in
        has.0 (eq-eqb its_port.desk.host n k.inits.base.at)
        ∙ (sym k.errors.read.is
        ∙ (ap (λ (x : ErrorCount). x.errors) (sym (reads_append (end_h n) u w.entries no_errors))
        ∙ ap₂ (λ t e. errors_in t e) (sym is.at) (sym number_is)))

    end_is_of_turns : end_view its_port ≡ end_read (until m) n n
    end_is_of_turns = λ i. record { up = up_is i; errors = errors_is i }

    tables_is : w.core.tables ≡ tables_in (until m) n
    tables_is = k.kept.tables_are ∙ ap (λ t. tables_in t n) (sym is.at)

    room_is : finds_room w.core ≡ (λ c. true)
    room_is = fun_ext room

    command_is : w.core.command ≡ order_in (until m) n
    command_is = sym k.order.order ∙ ap (λ t. order_in t n) (sym is.at)

    init_is : w.core.init ≡ (own_read m n).init
    init_is = sym (k.inits.on k.order.on).0 ∙ sym is.init

    own_is : own_view w.core ≡ own_read m n
    own_is = λ i. record { node = k.order.node i; tables = tables_is i; has_room = room_is i; command = command_is i; init = init_is i }

    module _ (message : Message) where
      abbrev deeds : List Deed
      deeds = deeds_of w.core w.ports n message

      own : deeds ≡ host_deeds (own_view w.core) (end_view its_port) message
      own = deeds_is n host i0 init_phase message w k.inits.base

      reply_is : reply hosts m (end_h n) message ≡ deeds
      reply_is = far_reply hosts n zero m message ∙ sym (own ∙ ap₂ (λ o e. host_deeds o e message) own_is end_is_of_turns)

      -- ### What a message lacks

      spare_is : spare_at (until m) (end_of_number n n) ≡ spare its_port.side
      spare_is =
          ap₂ (λ t e. spare_at t e) is.at number_is
          ∙ (ends n its_port here).spare (sym (subst (AllByRecursion HasNone) k.inits.base.is none.ends).0)

      spares_alike : (j : ℕ) → spare_read hosts (until m) n j ≡ spare_with (its_port ∷ []) j
      spares_alike j =
          ap (λ b. cond b (spare_at (until m) (end_of_number n j)) 0) (ap (λ b. is_one_of (cond b hosts (n ∷ [])) j) zero ∙ or-false (eqb n j))
          ∙ (by (cases_Bool (eqb n j))
          ∙ ap (λ h. option_map_or (λ (p : Port). spare p.side) (cond (eqb h j) (Some its_port) None) 0) (sym k.inits.base.at)) where
            there : Bool → ℕ
            there b = option_map_or (λ (p : Port). spare p.side) (cond b (Some its_port) None) 0

            read : Bool → ℕ
            read b = cond b (spare_at (until m) (end_of_number n j)) 0

            by : (eqb n j ≡ true) ⊎ (eqb n j ≡ false) → read (eqb n j) ≡ there (eqb n j)
            by (inl z) =
                let own : spare_at (until m) (end_of_number n j) ≡ spare its_port.side =
                subst (λ x. spare_at (until m) (end_of_number n x) ≡ spare its_port.side) (eqb-true n j z) spare_is in
                ap read z ∙ (own ∙ sym (ap there z))
            by (inr z) = ap read z ∙ sym (ap there z)

      pub lack_is : lack_of hosts m (end_h n) message ≡ lacking w n message
      lack_is =
          ap (λ d. first_lack (spare_read hosts (until m) n) (needs n d)) reply_is
          ∙ (lack_alike (spare_read hosts (until m) n) (spare_with (its_port ∷ [])) spares_alike (needs n deeds)
          ∙ ap (λ ps. lack ps (needs n deeds)) (sym k.inits.base.is))

      -- ### What is noted

      once : GivesOnce n true deeds
      once =
          let off : eqb w.core.node 0 ≡ false = ap (λ j. eqb j 0) k.order.node ∙ zero in
          subst (λ j. GivesOnce j true deeds) k.order.node (subst (GivesOnce w.core.node true) (sym own) (host_once w.core off its_port message))

      abbrev told : List Entry
      told = entries_of_reply n (session_of_port w.ports) n (count_of w.core.journal) deeds

      noted_is : noted_of_deeds (until m) n n (reply hosts m (end_h n) message) ≡ told
      noted_is =
          ap (noted_of_deeds (until m) n n) reply_is
          ∙ (ap (λ c. entries_of_reply n (λ j. session_now (until m) (end_of_number n j) n) n c deeds)
          (ap (λ t. min (length (commands_in t n)) (2 ^ 32 - 1)) is.at ∙ sym k.kept.count_is)
          ∙ reply_sessions n (λ j. session_now (until m) (end_of_number n j) n) (session_of_port w.ports)
          (session_is ∙ sym (ap (λ o. option_and_then (λ (p : Port). cond (is_up p.side.shdlc.phase) (Some p.session) None) o) here))
          (count_of w.core.journal) true deeds once)

      may : MayBeDone (Some w.core.journal) w.core.command w.core.init deeds
      may = deeds_may n (n ∷ []) memory u (inr host) w n message k.kept k.on host

      noted_so : w.cut ≡ false → lacking w n message ≡ None
          → IsReplyNoted (handles n message deeds w).cut n (noted_by_deeds n deeds (takes_up n message w)) told
      noted_so on roomy =
          subst (λ j. IsReplyNoted (handles n message deeds w).cut j (noted_by_deeds n deeds (takes_up n message w))
          (entries_of_reply j (session_of_port w.ports) n (count_of w.core.journal) deeds)) k.order.node
          (reply_noted n message deeds w on (once_given n true deeds once) roomy
          (counts_one k.kept.memory.content w.core.journal w.core.tables k.kept.knows k.kept.sorted k.kept.recordable w.core.command w.core.init deeds may))

      -- a message has its turn
      replied_here : w.cut ≡ false → lacking w n message ≡ None → (later rest : List Entry) → TrailsOff n later
          → ((handles n message deeds w).cut ≡ true → later ≡ []) → AreUnanswered n rest
          → IsReplied hosts m (entry.Turn (end_h n) message.0 message.1) ((noted_by_deeds n deeds (takes_up n message w) ++ later) ++ rest)
      replied_here on roomy later rest trails power quiet =
          let noted : List Entry = noted_by_deeds n deeds (takes_up n message w) in (
            lack_is ∙ roomy,
            subst (AnswersSo n ((noted ++ later) ++ rest)) (sym noted_is)
                (answers_so n (handles n message deeds w).cut noted told later rest (noted_so on roomy)
                (reply_answers n zero (session_of_port w.ports) (count_of w.core.journal) true deeds once)
                (reply_few n (session_of_port w.ports) n (count_of w.core.journal) (Some w.core.journal) w.core.command w.core.init deeds may)
                trails power quiet),
          )

-- ## Each message that has its turn in a pass of a host is replied to as is read, and each that is held is the first one there, and lacks what is noted

-- Of a host whose pass begins: what is known of it, and of its end at each turn.
pub record BeginsSo (n : ℕ) (host : IsHost n) (u : List Entry) (i0 : Option Init) (w : Work) : Type 0 where
  pub memory : Memory
  pub order_phase : LinkState
  pub init_phase : LinkState
  pub knows : HostKnows n host u i0 (errors_behind n u) memory order_phase init_phase w
  pub ends : (v : Work) → ComesTo w v → ArePortsRead Host u v
  pub none : HaveNone w
  pub grows : Grows u w
  pub waits : Goes (end_h n) [] (u ++ w.entries) (waiting_at w.ports n)
  pub held : holds_in (u ++ w.entries) (end_h n) ≡ is_held_at w.ports n

module _ (hosts : List ℕ) (n : ℕ) (host : IsHost n) (u : List Entry) (i0 : Option Init) (w : Work) (on : w.cut ≡ false) (b : BeginsSo n host u i0 w)
    (unbooted : AreNoBoots (passes w).entries) (few : commits (u ++ (passes w).entries) ≤ 4000000000) where
  abbrev K : Work → Type 0
  K v = HostKnows n host u i0 (errors_behind n u) b.memory b.order_phase b.init_phase v

  pub known : (v : Work) → ComesTo w v → K v
  known v c = comes_so K (knows_lasts n host u i0 (errors_behind n u) b.memory b.order_phase b.init_phase) w b.knows v c

  walk : ArePassed (ComesTo w) (hosts_of_ends w.ports) w (passes w)
  walk = through (ComesTo w) (comes_lasts w) (hosts_of_ends w.ports) w Begins on

  abbrev now : List Entry
  now = u ++ w.entries

  -- any command finds room before the pass has ended
  pub room_at : (v : Work) → ComesTo w v → (back : List Entry) → (passes w).entries ≡ v.entries ++ back → HasRoomForAll v
  room_at v c back is =
      few_find_room u v (comes_grow u w v b.grows c)
      (let one = commits-append u (v.entries ++ back) in let two = commits-append v.entries back in
      let three = commits-append u v.entries in let four = ap (λ l. commits (u ++ l)) is in omega (arith, one, two, three, four, few))

  -- ### Messages that wait

  w_side : own_side w.core ≡ Host
  w_side = host_side w.core n host b.knows.order.node

  pub waits_read : (v : Work) → ComesTo w v → unhandled_in (u ++ v.entries) (end_h n) ≡ waiting_at v.ports n
  waits_read v c =
      goes_read (end_h n) [] (u ++ v.entries) [] (waiting_at v.ports n ++ []) refl
      (runs_comes u Host n [] w v w_side (subst (Goes (end_h n) [] now) (sym (append-nil (waiting_at w.ports n))) b.waits) c)
      ∙ append-nil (waiting_at v.ports n)

  all_sided : AreOnSide true walk.more
  all_sided =
      pass_sided Host w (passes w) (hosts_of_ends w.ports) w_side walk
      (front_unbooted w.entries walk.more (subst AreNoBoots walk.entries unbooted)).1

  front_sided : (front back : List Entry) → AreOnSide true (front ++ back) → AreOnSide true front
  front_sided [] back all = tt
  front_sided (x ∷ front) back all = (all.0, front_sided front back all.1)

  held_read : (v : Work) → ComesTo w v → (front back : List Entry) → v.entries ≡ w.entries ++ front → walk.more ≡ front ++ back
      → holds_in (now ++ front) (end_h n) ≡ is_held_at v.ports n
  held_read v c front back entries more =
      let a : IsWaitingRead n w v = waiting_read n w v c in
      let same : a.more ≡ front = append_cancel_left w.entries a.more front (sym a.entries ∙ entries) in
      told_all n true now front (waiting_at w.ports n) (front_sided front back (subst (AreOnSide true) more all_sided))
      ∙ (grind arith)

  -- ### Turns

  end_is : (v : Work) → K v → (h : ℕ) → end_of_node v.core h ≡ end_h h
  end_is v k h = ap (end_of h) (host_side v.core n host k.order.node)

  trails : (later front : List Entry) → walk.more ≡ front ++ later → BeginWithTurn later → TrailsOff n later
  trails [] front e begin = tt
  trails (entry.Turn f pid message ∷ later) front e begin =
      let t : HadTurn (ComesTo w) w front f (pid, message) later = walk.each front later (entry.Turn f pid message) e in
      let k : K t.work = known t.work t.keeps in
      ap node_of (t.its_end ∙ end_is t.work k t.host)
      ∙ sym (own_end n host u i0 (errors_behind n u) b.memory b.order_phase b.init_phase t.work t.host (pid, message) t.messages k t.waiting)
  trails (entry.Held f need spare ∷ later) front e begin =
      let t : WasHeld (ComesTo w) w front f (need, spare) later = walk.each front later (entry.Held f need spare) e in
      trails later (front ++ (entry.Held f need spare ∷ [])) (e ∙ sym (append_assoc front (entry.Held f need spare ∷ []) later)) t.next
  trails (_ ∷ later) front e begin = absurd (true≢false (sym begin))

  module _ (front back rest : List Entry) (m : Moment) (at : IsMomentOf hosts n host u i0 b.memory b.order_phase b.init_phase (w.entries ++ front) m)
      (quiet : AreUnanswered n rest) where
    moment_of : (v : Work) → v.entries ≡ w.entries ++ front → IsMomentOf hosts n host u i0 b.memory b.order_phase b.init_phase v.entries m
    moment_of v entries = grind arith

    entries_of : (v : Work) (x : Entry) → v.entries ≡ w.entries ++ front → walk.more ≡ front ++ (x ∷ back) → (passes w).entries ≡ v.entries ++ (x ∷ back)
    entries_of v x entries more =
        walk.entries ∙ (ap (λ l. w.entries ++ l) more ∙ (sym (append_assoc w.entries front (x ∷ back)) ∙ ap (λ l. l ++ (x ∷ back)) (sym entries)))

    turn_replied : (e : End) (pid : ℕ) (message : List ℕ) → walk.more ≡ front ++ (entry.Turn e pid message ∷ back)
        → IsReplied hosts m (entry.Turn e pid message) (back ++ rest)
    turn_replied e pid message more =
        subst (λ f. IsReplied hosts m (entry.Turn f pid message) (back ++ rest)) (sym (t.its_end ∙ end_is t.work k t.host))
        (subst P eq own t.room t.notes t.power) where
          t : HadTurn (ComesTo w) w front e (pid, message) back
          t = walk.each front back (entry.Turn e pid message) more

          v : Work
          v = t.work

          k : K v
          k = known v t.keeps

          eq : n ≡ t.host
          eq = own_end n host u i0 (errors_behind n u) b.memory b.order_phase b.init_phase v t.host (pid, message) t.messages k t.waiting

          P : ℕ → Type 0
          P j =
              lacking v j (pid, message) ≡ None
              → back ≡ noted_by_deeds j (deeds_of v.core v.ports j (pid, message)) (takes_up j (pid, message) v) ++ t.later
              → ((handles j (pid, message) (deeds_of v.core v.ports j (pid, message)) v).cut ≡ true → t.later ≡ [])
              → IsReplied hosts m (entry.Turn (end_h j) pid message) (back ++ rest)

          own : P n
          own roomy notes power =
              let noted : List Entry = noted_by_deeds n (deeds_of v.core v.ports n (pid, message)) (takes_up n (pid, message) v) in
              let behind : walk.more ≡ (front ++ (entry.Turn e pid message ∷ noted)) ++ t.later =
              more ∙ (ap (λ l. front ++ (entry.Turn e pid message ∷ l)) notes
              ∙ sym (append_assoc front (entry.Turn e pid message ∷ noted) t.later)) in
              subst (λ l. IsReplied hosts m (entry.Turn (end_h n) pid message) (l ++ rest)) (sym notes)
              (replied_here hosts n host u i0 b.memory b.order_phase b.init_phase v k (b.ends v t.keeps) (comes_none w v b.none t.keeps)
              (room_at v t.keeps (entry.Turn e pid message ∷ back) (entries_of v (entry.Turn e pid message) t.entries more)) m
              (moment_of v t.entries) (pid, message) t.on roomy t.later rest
              (trails t.later (front ++ (entry.Turn e pid message ∷ noted)) behind t.next) power quiet)

    held_for : (e : End) (need spare : ℕ) → walk.more ≡ front ++ (entry.Held e need spare ∷ back)
        → IsHeldFor hosts m (entry.Held e need spare) (back ++ rest)
    held_for e need spare more =
        subst (λ f. IsHeldFor hosts m (entry.Held f need spare) (back ++ rest)) (sym (t.its_end ∙ end_is t.work k t.host))
        (subst P eq own t.waiting t.lacks t.fresh) where
          t : WasHeld (ComesTo w) w front e (need, spare) back
          t = walk.each front back (entry.Held e need spare) more

          v : Work
          v = t.work

          k : K v
          k = known v t.keeps

          eq : n ≡ t.host
          eq = own_end n host u i0 (errors_behind n u) b.memory b.order_phase b.init_phase v t.host t.message t.messages k t.waiting

          P : ℕ → Type 0
          P j =
              waiting_at v.ports j ≡ t.message ∷ t.messages → lacking v j t.message ≡ Some (need, spare) → is_held_at v.ports j ≡ false
              → IsHeldFor hosts m (entry.Held (end_h j) need spare) (back ++ rest)

          own : P n
          own waiting lacks fresh =
              let is = moment_of v t.entries in
              let held : holds_in (until m) (end_h n) ≡ false =
              ap (λ l. holds_in l (end_h n)) (is.at ∙ (ap (λ l. u ++ l) t.entries ∙ sym (append_assoc u w.entries front)))
              ∙ (held_read v t.keeps front (entry.Held e need spare ∷ back) t.entries more ∙ fresh) in
              let waits : unhandled_in (until m) (end_h n) ≡ t.message ∷ t.messages =
              ap (λ l. unhandled_in l (end_h n)) is.at ∙ (waits_read v t.keeps ∙ waiting) in
              let lacks_so : lack_at hosts m (end_h n) ≡ Some (need, spare) =
              ap (λ l. option_and_then (lack_of hosts m (end_h n)) (oldest l)) waits
              ∙ (lack_is hosts n host u i0 b.memory b.order_phase b.init_phase v k (b.ends v t.keeps) (comes_none w v b.none t.keeps)
              (room_at v t.keeps (entry.Held e need spare ∷ back) (entries_of v (entry.Held e need spare) t.entries more)) m is t.message
              ∙ lacks) in
              (held, lacks_so)

    -- what is noted in the pass
    pub pass_replies : (x : Entry) → (passes w).entries ≡ w.entries ++ (front ++ (x ∷ back))
        → IsReplied hosts m x (back ++ rest) × IsHeldFor hosts m x (back ++ rest)
    pass_replies x is = go x (append_cancel_left w.entries walk.more (front ++ (x ∷ back)) (sym walk.entries ∙ is)) where
      go : (x : Entry) → walk.more ≡ front ++ (x ∷ back) → IsReplied hosts m x (back ++ rest) × IsHeldFor hosts m x (back ++ rest)
      go (entry.Turn e pid message) more = (turn_replied e pid message more, tt)
      go (entry.Held e need spare) more = (tt, held_for e need spare more)
      go _ more = (tt, tt)
