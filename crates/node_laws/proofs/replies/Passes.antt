-- A controller knows what is read, so each message that has its turn in a pass gets the reply that is read.
use Rattle.node_laws.proofs.Words.{AllByRecursion, AllReach, AnswersSo, AreHosts, AreNamed, ArePassed, Asks, BeginWithTurn, Bool, Command, Commits, Core}
use Rattle.node_laws.proofs.Words.{Creation, Deed, Drops, End, Ends, EndsAreRead, Entry, GiveOnce, GoesOn, HadTurn, HasAsideAt, HasRoomForAll, Hears, Init}
use Rattle.node_laws.proofs.Words.{IsHeldFor, IsHost, IsKeptNotice, IsNoAnswer, IsReplied, IsReplyNoted, IsSameView, KeepsBeside, KeepsInStep, KnowsTheSame}
use Rattle.node_laws.proofs.Words.{LastsOverTurns, LinksAreRead, List, MayBeDone, Message, MessagesAreRead, Moment, None, Option, Orders, Port, SaysOk, Sends}
use Rattle.node_laws.proofs.Words.{Some, State, StillRuns, Tells, WasHeld, Work, [], about_at, about_read, all_append, and_parts, ap, append-nil, append_assoc}
use Rattle.node_laws.proofs.Words.{append_cancel_left, ap₂, arith, asked_at, asking_in, before_turn, by_option, by_test, cond, controller_deeds, count_of}
use Rattle.node_laws.proofs.Words.{creation_of, creations_at, deeds_of, desks_of, end_c, end_of, end_of_node, entries_of_reply, eq-eqb, eqb, false, filter}
use Rattle.node_laws.proofs.Words.{first_lack, handles, has_link, holds_in, hosts_of_ends, is_answer_of, is_cut_of, is_one_of, is_some, is_turn_of, is_up}
use Rattle.node_laws.proofs.Words.{is_up_read, lack, lack_at, lack_of, lacking, list_any, needs, next_count, node_of, not, noted_by_deeds, noted_of_deeds}
use Rattle.node_laws.proofs.Words.{notice_in, oldest, option_and_then, option_map, option_map_or, passes, port_at, prefix_len, refl, reply, sent_in_session}
use Rattle.node_laws.proofs.Words.{session_now, session_of_port, spare_at, spare_read, spare_with, subst, sym, tables_in, take, takes_up, to_command, true}
use Rattle.node_laws.proofs.Words.{true≢false, unhandled_in, until, view_at, view_for, view_of, view_read, waiting_at, ℕ, ◌&&◌, ◌++◌, ◌+◌, ◌||◌, ◌∙◌, ◌∷◌, ◌≡◌}
use Rattle.node_laws.proofs.Words.{◌≤◌}
use Rattle.node_laws.proofs.creations.Outcomes.{desks_wait}
use Rattle.node_laws.proofs.kept.Stepping.{controller_may}
use Rattle.node_laws.proofs.links.Noticing.{controller_reach}
use Rattle.node_laws.proofs.notices.Turning.{Holds, controller_side, kept_none}
use Rattle.node_laws.proofs.passes.Replying.{HasFirst, counts_one, has_first, reply_noted}
use Rattle.node_laws.proofs.passes.Passing.{through}
use Rattle.node_laws.proofs.read_steps.Knowing.{creations_known, found_end, handles_keeps, holds_keeps, lets_keeps, notice_is, same_deeds, there_is, to_notices}
use Rattle.node_laws.proofs.read_steps.Knowing.{view_known}
use Rattle.node_laws.proofs.replies.Creations.{FirstSent, IsIn, SendsOver, awaited_same, controller_apart, controller_sends, in_waits, one_found, same_noted}
use Rattle.trace_model.specs.declared.entry.Entry.TheVariants as entry

-- ## What a node answers until its next turn, as it is read off what was noted behind its turn

-- ### The entries of a reply

-- an entry is an answer of the controller, and no end of an init
abbrev pub IsReplyEntry : Entry → Type 0
IsReplyEntry (entry.Command n c) = n ≡ 0
IsReplyEntry (entry.Sent e n pid message) = node_of e ≡ 0
IsReplyEntry (entry.AnyOk n k) = n ≡ 0
IsReplyEntry (entry.Ask to message) = Unit {0}
IsReplyEntry (entry.Dropped e pid) = node_of e ≡ 0
IsReplyEntry _ = ⊥

abbrev pub AreReplyEntries : List Entry → Type 0
AreReplyEntries es = AllByRecursion IsReplyEntry es

-- how many commands entries tell
abbrev pub commands_told : List Entry → ℕ
commands_told [] = 0
commands_told (entry.Command n c ∷ es) = 1 + commands_told es
commands_told (_ ∷ es) = commands_told es

-- these are entries of a reply, which tell no more commands than this
pub record AreOfReply (most : ℕ) (es : List Entry) : Type 0 where
  pub entries : AreReplyEntries es
  pub few : commands_told es ≤ most

entries_front : (a b : List Entry) → AreReplyEntries (a ++ b) → AreReplyEntries a
entries_front [] b x = tt
entries_front (e ∷ a) b x = (x.0, entries_front a b x.1)

-- deeds that may be done to a journal commit one command at most, and others none
abbrev pub most_of : Option State → ℕ
most_of None = 0
most_of (Some s) = 1

module _ (ports : List Port) (sessions : ℕ → Option ℕ) (h : ℕ) where
  -- a message that is sent tells no command
  with_sent : (to : ℕ) (m : Message) (es : List Entry) (most : ℕ) → AreOfReply most es → AreOfReply most (sent_in_session 0 sessions to m ++ es)
  with_sent to m es most a = by_option (sessions to) (λ e. rw e a) (λ n e. rw e (record { entries = (refl, a.entries); few = a.few }))

  reply_entries : (count : ℕ) (journal : Option State) (command : Option (List ℕ)) (init : Option Init) (deeds : List Deed)
      → AllByRecursion (SendsOver ports) deeds → MayBeDone journal command init deeds
      → AreOfReply (most_of journal) (entries_of_reply 0 sessions h count deeds)
  reply_entries count journal command init [] over may = record { entries = tt; few = omega arith }
  reply_entries count None command init (Commits c ∷ deeds) over may = absurd may.0
  reply_entries count (Some s) command init (Commits c ∷ deeds) over may =
      let later = reply_entries (next_count count) None command init deeds over.1 may.1 in
      let none = later.few in record { entries = (refl, later.entries); few = omega (arith, none) }
  reply_entries count journal command init (Sends to m ∷ deeds) over may =
      with_sent to m (entries_of_reply 0 sessions h count deeds) (most_of journal) (reply_entries count journal command init deeds over.1 may)
  reply_entries count journal command init (SaysOk ∷ deeds) over may =
      let later = reply_entries count journal command init deeds over.1 may in
      record { entries = (refl, later.entries); few = later.few }
  reply_entries count None command init (Asks to message c ∷ deeds) over may = absurd may.0
  reply_entries count (Some s) command init (Asks to message c ∷ deeds) over may =
      let later = with_sent to (1, message) (entries_of_reply 0 sessions h count deeds) 0 (reply_entries count None command init deeds over.1 may.1) in
      let none = later.few in record { entries = (tt, later.entries); few = omega (arith, none) }
  reply_entries count journal command init (Tells to message ∷ deeds) over may =
      with_sent to (1, message) (entries_of_reply 0 sessions h count deeds) (most_of journal) (reply_entries count journal command init deeds over.1 may)
  reply_entries count journal command init (Drops pid ∷ deeds) over may =
      let later = reply_entries count journal command init deeds over.1 may in
      record { entries = (refl, later.entries); few = later.few }
  reply_entries count journal command init (Orders message ∷ deeds) over may = absurd over.0
  reply_entries count journal command init (Hears ∷ deeds) over may = absurd over.0
  reply_entries count journal command init (GoesOn i ∷ deeds) over may = absurd over.0
  reply_entries count journal command init (Ends e ∷ deeds) over may = absurd over.0
  reply_entries count journal command init (_ ∷ deeds) over may = reply_entries count journal command init deeds over.1 may

-- ### Until the next turn

abbrev pub answers_until : List Entry → List Entry
answers_until es = filter (is_answer_of 0) (before_turn 0 es)

abbrev pub cut_until : List Entry → Bool
cut_until es = list_any (is_cut_of 0) (before_turn 0 es)

-- nothing is answered until the next turn, and the power stays on
abbrev pub IsSilent : List Entry → Type 0
IsSilent es = (answers_until es ≡ []) × (cut_until es ≡ false)

before_first : (x : Entry) (es : List Entry) → is_turn_of 0 x ≡ false → before_turn 0 (x ∷ es) ≡ x ∷ before_turn 0 es
before_first x es off = grind arith

before_stop : (x : Entry) (es : List Entry) → is_turn_of 0 x ≡ true → before_turn 0 (x ∷ es) ≡ []
before_stop x es turn = ap (λ b. take (cond (not b) (1 + prefix_len (λ x. not (is_turn_of 0 x)) es) 0) (x ∷ es)) turn

-- what an entry adds that is no turn of the controller
first_until : (x : Entry) (es : List Entry) → is_turn_of 0 x ≡ false
    → (answers_until (x ∷ es) ≡ cond (is_answer_of 0 x) (x ∷ answers_until es) (answers_until es)) × (cut_until (x ∷ es) ≡ (is_cut_of 0 x || cut_until es))
first_until x es off = (ap (filter (is_answer_of 0)) (before_first x es off), ap (list_any (is_cut_of 0)) (before_first x es off))

stop_until : (x : Entry) (es : List Entry) → is_turn_of 0 x ≡ true → IsSilent (x ∷ es)
stop_until x es turn = (ap (filter (is_answer_of 0)) (before_stop x es turn), ap (list_any (is_cut_of 0)) (before_stop x es turn))

quiet_until : (x : Entry) (es : List Entry) → is_turn_of 0 x ≡ false → is_answer_of 0 x ≡ false → is_cut_of 0 x ≡ false → IsSilent es → IsSilent (x ∷ es)
quiet_until x es off none kept silent = grind arith

reply_first : (x : Entry) → IsReplyEntry x → (es : List Entry) → (answers_until (x ∷ es) ≡ x ∷ answers_until es) × (cut_until (x ∷ es) ≡ cut_until es)
reply_first x is es = grind arith

reply_until : (xs : List Entry) → AreReplyEntries xs → (es : List Entry)
    → (answers_until (xs ++ es) ≡ xs ++ answers_until es) × (cut_until (xs ++ es) ≡ cut_until es)
reply_until [] all es = (refl, refl)
reply_until (x ∷ xs) all es =
    let one = reply_first x all.0 (xs ++ es) in
    let later = reply_until xs all.1 es in
    (one.0 ∙ ap (λ l. x ∷ l) later.0, one.1 ∙ later.1)

silent_rest : (es : List Entry) → AllByRecursion IsNoAnswer es → IsSilent es
silent_rest [] all = (refl, refl)
silent_rest (x ∷ es) all = by_test (is_turn_of 0 x)
    (λ turn. stop_until x es turn)
    (λ none. quiet_until x es none all.0.0 all.0.1 (silent_rest es all.1))

-- messages are held until the next turn of the controller, or until all is told
abbrev pub Trails : List Entry → Type 0
Trails [] = Unit {0}
Trails (entry.Turn e pid message ∷ es) = node_of e ≡ 0
Trails (entry.Held e need spare ∷ es) = Trails es
Trails (_ ∷ es) = ⊥

silent_trails : (later rest : List Entry) → Trails later → AllByRecursion IsNoAnswer rest → IsSilent (later ++ rest)
silent_trails [] rest trails none = silent_rest rest none
silent_trails (entry.Turn e pid message ∷ later) rest trails none =
    stop_until (entry.Turn e pid message) (later ++ rest) (eq-eqb (node_of e) 0 trails)
silent_trails (entry.Held e need spare ∷ later) rest trails none =
    quiet_until (entry.Held e need spare) (later ++ rest) refl refl refl (silent_trails later rest trails none)
silent_trails (_ ∷ later) rest trails none = absurd trails

-- ### Up to a command

some_told : (front back : List Entry) (c : Command) → 1 ≤ commands_told (front ++ (entry.Command 0 c ∷ back))
some_told [] back c = omega arith
some_told (entry.Command n d ∷ front) back c = omega arith
some_told (_ ∷ front) back c = some_told front back c

-- of entries that tell one command these are those up to it
first_command : (front back : List Entry) (c : Command) → commands_told (front ++ (entry.Command 0 c ∷ back)) ≤ 1
    → to_command (front ++ (entry.Command 0 c ∷ back)) ≡ front ++ (entry.Command 0 c ∷ [])
first_command [] back c few = refl
first_command (entry.Command n d ∷ front) back c few = let some = some_told front back c in absurd (omega (arith, some, few))
first_command (x ∷ front) back c few = ap (λ l. x ∷ l) (first_command front back c few)

-- ### A reply that is noted

pub answers_so : (off : Bool) (noted reply later rest : List Entry) → IsReplyNoted off 0 noted reply → AreOfReply 1 reply → Trails later
    → (off ≡ true → later ≡ []) → AllByRecursion IsNoAnswer rest → AnswersSo 0 ((noted ++ later) ++ rest) reply
answers_so false noted reply later rest is all trails power none =
    let silent : IsSilent (later ++ rest) = silent_trails later rest trails none in
    let parts = reply_until reply all.entries (later ++ rest) in
    let es : (noted ++ later) ++ rest ≡ reply ++ (later ++ rest) = append_assoc noted later rest ∙ ap (λ l. l ++ (later ++ rest)) is in
    ap answers_until es
    ∙ ((parts.0 ∙ (ap (λ l. reply ++ l) silent.0 ∙ append-nil reply))
    ∙ sym (ap (λ b. cond b (to_command reply) reply) (ap cut_until es ∙ (parts.1 ∙ silent.1))))
answers_so true noted reply later rest is all trails power none =
    let front : List Entry = is.0 in
    let c : Command = is.1 in
    let fronts : AreReplyEntries front = entries_front front (entry.Command 0 c ∷ is.2) (subst AreReplyEntries is.3 all.entries) in
    let first : AreReplyEntries (front ++ (entry.Command 0 c ∷ [])) = all_append IsReplyEntry front (entry.Command 0 c ∷ []) fronts (refl, tt) in
    let es : (noted ++ later) ++ rest ≡ (front ++ (entry.Command 0 c ∷ [])) ++ (entry.Cut 0 ∷ rest) =
    ap₂ (λ a b. (a ++ b) ++ rest) is.4 (power refl)
    ∙ (ap (λ l. l ++ rest) (append-nil (front ++ (entry.Command 0 c ∷ entry.Cut 0 ∷ [])))
    ∙ (append_assoc front (entry.Command 0 c ∷ entry.Cut 0 ∷ []) rest ∙ sym (append_assoc front (entry.Command 0 c ∷ []) (entry.Cut 0 ∷ rest)))) in
    let parts = reply_until (front ++ (entry.Command 0 c ∷ [])) first (entry.Cut 0 ∷ rest) in
    let cut = first_until (entry.Cut 0) rest refl in
    ap answers_until es
    ∙ ((parts.0 ∙ (ap (λ l. (front ++ (entry.Command 0 c ∷ [])) ++ l) (cut.0 ∙ (silent_rest rest none).0) ∙ append-nil (front ++ (entry.Command 0 c ∷ []))))
    ∙ sym (ap (λ b. cond b (to_command reply) reply) (ap cut_until es ∙ (parts.1 ∙ cut.1))
    ∙ (ap to_command is.3 ∙ first_command front is.2 c (subst (λ l. commands_told l ≤ 1) is.3 all.few))))

-- ## A controller knows what is read, so that it does with a message what is read

own_deeds : (core : Core) (ports : List Port) (h : ℕ) (message : Message) → core.node ≡ 0
    → deeds_of core ports h message ≡ controller_deeds (view_of core ports) h message
own_deeds core ports h message zero_is = let zero : eqb core.node 0 ≡ true = eq-eqb core.node 0 zero_is in rw zero refl

-- each end is up exactly where a session of it is read
abbrev pub AreUpAsRead : List Entry → List Port → Type 0
AreUpAsRead t ports = (k : ℕ) (p : Port) → port_at ports k ≡ Some p → is_up p.side.shdlc.phase ≡ is_some (session_now t (end_c k) 0)

pub up_by_links : (hosts : List ℕ) (t : List Entry) (ports : List Port) → hosts_of_ends ports ≡ hosts → LinksAreRead hosts t ports → AreUpAsRead t ports
up_by_links hosts t ports is links k p e =
    sym (ap (λ o. option_map_or (λ (p : Port). is_up p.side.shdlc.phase) o false) e)
    ∙ links k (ap (λ hs. is_one_of hs k) (sym is) ∙ one_found ports k p e)

-- ### What the controller knows

module _ (hosts : List ℕ) (are : AreHosts hosts) (t : List Entry) (w : Work) (a : KeepsInStep hosts t w)
    (ups : AreUpAsRead (t ++ w.entries) w.ports) (room : HasRoomForAll w) (names : AreNamed (t ++ w.entries)) where
  abbrev now : List Entry
  now = t ++ w.entries

  none_at : (k : ℕ) → port_at w.ports k ≡ None → false ≡ is_one_of hosts k
  none_at k q = sym (ap is_some q) ∙ there_is hosts are t w a k

  links_same : (k : ℕ) → has_link w.ports k ≡ (is_one_of hosts k && is_up_read now 0 k)
  links_same k = by_option (port_at w.ports k)
      (λ q. rw q (ap (λ b. b && is_up_read now 0 k) (none_at k q)))
      (λ p q. rw q (ups k p q ∙ sym (ap (λ b. b && is_up_read now 0 k) (sym (there_is hosts are t w a k) ∙ ap is_some q))))

  links_read : LinksAreRead hosts now w.ports
  links_read k one = links_same k ∙ ap (λ b. b && is_up_read now 0 k) one

  notices_same : (k : ℕ) → option_map creation_of (about_at (port_at w.ports k)) ≡ option_map creation_of (about_read now (notice_in now k))
  notices_same k = by_option (port_at w.ports k)
      (λ q. rw q (let kept : IsKeptNotice (notice_in now k) None =
      subst (λ o. IsKeptNotice (notice_in now k) (option_and_then (λ (p : Port). p.desk.notice) o)) q (notice_is hosts are t w a k) in
      sym (ap (λ r. option_map creation_of (about_read now r)) (kept_none (notice_in now k) None refl kept))))
      (λ p q. rw q (awaited_same hosts are t w a names k p q))

  view_same : (h : ℕ) → has_link w.ports h ≡ true → IsSameView (view_for w.core.tables w.ports h) (view_at hosts now h)
  view_same h up = view_known hosts are t w a links_read h ((and_parts (is_one_of hosts h) (is_up_read now 0 h) (sym (links_same h) ∙ up)).0)

  module _ (m : Moment) (same : until m ≡ now) where
    pub known_so : (h : ℕ) → KnowsTheSame (view_of w.core w.ports) (view_read hosts m 0) h
    known_so h = record {
      tables = a.tables ∙ ap (λ l. tables_in l 0) (sym same);
      room = room;
      links = λ k. links_same k ∙ ap (λ l. is_one_of hosts k && is_up_read l 0 k) (sym same);
      asks = (creations_known hosts are t w a).asks h ∙ ap (λ l. is_some (asking_in l h)) (sym same);
      view = λ up. subst (λ l. IsSameView (view_for w.core.tables w.ports h) (view_at hosts l h)) (sym same) (view_same h up);
      notice = notices_same h ∙ ap (λ l. option_map creation_of (about_read l (notice_in l h))) (sym same);
    }

    pub reply_so : (h : ℕ) (message : Message) → reply hosts m (end_c h) message ≡ deeds_of w.core w.ports h message
    reply_so h message =
        sym (own_deeds w.core w.ports h message a.node ∙ same_deeds (view_of w.core w.ports) (view_read hosts m 0) h (known_so h) message)

-- ## At its turn a message gets from a controller the reply that is read

-- ### Ends that are read

pub some_if : (b : Bool) (n : ℕ) → is_some (cond b (Some n) None) ≡ b
some_if b n = grind arith

up_by_ends : (t : List Entry) (ports : List Port) → EndsAreRead t ports → AreUpAsRead t ports
up_by_ends t ports ends k p e = sym (some_if (is_up p.side.shdlc.phase) p.session) ∙ ap is_some (sym (ends.sessions k p e))

pub lack_alike : (f g : ℕ → ℕ) → ((k : ℕ) → f k ≡ g k) → (ns : List (ℕ × ℕ)) → first_lack f ns ≡ first_lack g ns
lack_alike f g same ns = grind arith

-- ### What a message lacks

module _ (hosts : List ℕ) (are : AreHosts hosts) (t : List Entry) (w : Work) (a : KeepsInStep hosts t w)
    (ends : EndsAreRead (t ++ w.entries) w.ports) (room : HasRoomForAll w) (names : AreNamed (t ++ w.entries)) where
  abbrev now_of_turns : List Entry
  now_of_turns = t ++ w.entries

  spares_alike : (k : ℕ) → spare_with w.ports k ≡ spare_read hosts now_of_turns 0 k
  spares_alike k = by_option (port_at w.ports k)
      (λ q. rw q (ap (λ b. cond b (spare_at now_of_turns (end_c k)) 0) (sym (ap is_some q) ∙ there_is hosts are t w a k)))
      (λ p q. rw q (sym (ends.spares k p q) ∙ ap (λ b. cond b (spare_at now_of_turns (end_c k)) 0) (sym (ap is_some q) ∙ there_is hosts are t w a k)))

  pub lack_so : (m : Moment) → until m ≡ now_of_turns → (h : ℕ) (message : Message) → lack_of hosts m (end_c h) message ≡ lacking w h message
  lack_so m same h message =
      ap (λ l. first_lack (spare_read hosts l 0) (needs h (reply hosts m (end_c h) message))) same
      ∙ (sym (lack_alike (spare_with w.ports) (spare_read hosts now_of_turns 0) spares_alike (needs h (reply hosts m (end_c h) message)))
      ∙ ap (λ d. lack w.ports (needs h d)) (reply_so hosts are t w a (up_by_ends now_of_turns w.ports ends) room names m same h message))

-- ### What is noted of a reply

module _ (hosts : List ℕ) (are : AreHosts hosts) (t : List Entry) (w : Work) (k : KeepsBeside hosts t w) (h : ℕ) (host : IsHost h) (message : Message) where
  abbrev a : KeepsInStep hosts t w
  a = k.reads.runs.keeps

  abbrev deeds : List Deed
  deeds = deeds_of w.core w.ports h message

  abbrev reply_told : List Entry
  reply_told = entries_of_reply 0 (session_of_port w.ports) h (count_of w.core.journal) deeds

  own : deeds ≡ controller_deeds (view_of w.core w.ports) h message
  own = own_deeds w.core w.ports h message a.node

  -- an asker whose creation waits is up
  asker_up : (p : Port) (c : Creation) → port_at w.ports h ≡ Some p → asked_at p ≡ Some c → has_link w.ports c.asker ≡ true
  asker_up p c found asked = by_option (port_at w.ports c.asker)
      (λ q. absurd (filled (subst (HasAsideAt (creations_at (desks_of w.ports) c.asker)) q (a.asides c.asker))))
      (λ x q. let aside : HasAsideAt (creations_at (desks_of w.ports) c.asker) (Some x) =
      subst (HasAsideAt (creations_at (desks_of w.ports) c.asker)) q (a.asides c.asker) in
      ap (λ o. option_map_or (λ (p : Port). is_up p.side.shdlc.phase) o false) q ∙ ap is_up (aside.up filled)) where
        some : IsIn c (creations_at (desks_of w.ports) c.asker)
        some = subst (IsIn c) (sym (desks_wait c.asker w.ports)) (in_waits c.asker w.ports h p c found asked refl)

        filled : creations_at (desks_of w.ports) c.asker ≡ [] → ⊥
        filled none = by some.front (sym some.is ∙ none) where
          by : (front : List Creation) → front ++ (c ∷ some.back) ≡ [] → ⊥
          by [] e = cc e
          by (d ∷ front) e = cc e

  sends : FirstSent true (controller_deeds (view_of w.core w.ports) h message)
      × AllByRecursion (SendsOver w.ports) (controller_deeds (view_of w.core w.ports) h message)
  sends = controller_sends w.ports h w.core asker_up message

  over : AllByRecursion (SendsOver w.ports) deeds
  over = subst (AllByRecursion (SendsOver w.ports)) (sym own) sends.1

  -- what is done gives each end one message at most
  apart : GiveOnce h [] deeds
  apart =
      let held : (x : ℕ) → Holds x t IsKeptNotice w = to_notices hosts t w a are.all in
      subst (GiveOnce h []) (sym own)
      (controller_apart w.core w.ports h a.sorted a.two host.0 host.1 (held 0).right (λ x. (held x).up) message sends.0)

  -- as it would be of a controller with no command, which never has any
  may : MayBeDone (Some w.core.journal) None None deeds
  may =
      subst (MayBeDone (Some w.core.journal) None None) (sym (own ∙ same_deeds (view_of w.core w.ports) (view_of alone w.ports) h same message))
      (controller_may alone tt a.sorted w.ports k.reads.runs.kept.waits h host.0 host.1 message)
    where
      alone : Core
      alone = record w.core { command = None; init = None }

      same : KnowsTheSame (view_of w.core w.ports) (view_of alone w.ports) h
      same = grind arith

  pub told_so : AreOfReply 1 reply_told
  told_so = reply_entries w.ports (session_of_port w.ports) h (count_of w.core.journal) (Some w.core.journal) None None deeds over may

  pub noted_so_far : w.cut ≡ false → lacking w h message ≡ None
      → IsReplyNoted (handles h message deeds w).cut 0 (noted_by_deeds h deeds (takes_up h message w)) reply_told
  noted_so_far on room_there =
      let runs : StillRuns 0 hosts k.reads.runs.memory t w = k.reads.runs.kept in
      subst (λ n. IsReplyNoted (handles h message deeds w).cut n (noted_by_deeds h deeds (takes_up h message w))
      (entries_of_reply n (session_of_port w.ports) h (count_of w.core.journal) deeds)) a.node
      (reply_noted h message deeds w on apart room_there
      (counts_one runs.memory.content w.core.journal w.core.tables runs.knows runs.sorted runs.recordable None None deeds may))

  pub noted_read : (m : Moment) → until m ≡ t ++ w.entries → noted_of_deeds (until m) 0 h (reply hosts m (end_c h) message) ≡ reply_told
  noted_read m same =
      ap₂ (λ l d. noted_of_deeds l 0 h d) same
      (reply_so hosts are t w a (up_by_ends (t ++ w.entries) w.ports k.ends) k.room k.reads.named m same h message)
      ∙ (ap (λ n. entries_of_reply 0 (λ x. session_now (t ++ w.entries) (end_c x) 0) h n deeds) (sym k.reads.runs.kept.count_is)
      ∙ same_noted (t ++ w.entries) w.ports k.ends h (count_of w.core.journal) deeds over
      (subst (AllReach w.ports) (sym own) (controller_reach w.core w.ports h message)))

-- ## Each message that has its turn in a pass of a controller is replied to, and each that is held lacks what is noted

-- an end of a controller
pub own_end_is : (core : Core) (h : ℕ) → core.node ≡ 0 → end_of_node core h ≡ end_c h
own_end_is core h node = ap (end_of h) (controller_side core node)

module _ (hosts : List ℕ) (are : AreHosts hosts) (t : List Entry) (K : Work → Type 0) (lasts : LastsOverTurns K)
    (beside : (v : Work) → K v → KeepsBeside hosts t v) where
  abbrev J : Work → Type 0
  J v = KeepsInStep hosts t v × K v

  both_last : LastsOverTurns J
  both_last = record {
    handled = λ w h m messages j on waiting room still.
        (handles_keeps hosts are t h m messages w j.0 waiting room still, lasts.handled w h m messages j.1 on waiting room still);
    held = λ w h m messages short j on waiting lacks. (holds_keeps hosts are t h short w j.0, lasts.held w h m messages short j.1 on waiting lacks);
    let_go = λ w h j on waiting. (lets_keeps hosts are t h w j.0, lasts.let_go w h j.1 on waiting);
  }

  pub walked : (w : Work) → J w → ArePassed J (hosts_of_ends w.ports) w (passes w)
  walked w j = through J both_last (hosts_of_ends w.ports) w j j.0.on

  -- ### A turn

  -- a message has its turn in a controller that stays as it is read
  replied_here : (x : Work) (k : KeepsBeside hosts t x) (h : ℕ) → IsHost h → (pid : ℕ) (message : List ℕ) → lacking x h (pid, message) ≡ None
      → (later rest : List Entry) → Trails later → ((handles h (pid, message) (deeds_of x.core x.ports h (pid, message)) x).cut ≡ true → later ≡ [])
      → AllByRecursion IsNoAnswer rest → (m : Moment) → until m ≡ t ++ x.entries
      → IsReplied hosts m (entry.Turn (end_c h) pid message)
      ((noted_by_deeds h (deeds_of x.core x.ports h (pid, message)) (takes_up h (pid, message) x) ++ later) ++ rest)
  replied_here x k h host pid message room later rest trails power none m same =
      let deeds : List Deed = deeds_of x.core x.ports h (pid, message) in
      let noted : List Entry = noted_by_deeds h deeds (takes_up h (pid, message) x) in
      let told : List Entry = entries_of_reply 0 (session_of_port x.ports) h (count_of x.core.journal) deeds in (
        lack_so hosts are t x k.reads.runs.keeps k.ends k.room k.reads.named m same h (pid, message) ∙ room,
        subst (AnswersSo 0 ((noted ++ later) ++ rest)) (sym (noted_read hosts are t x k h host (pid, message) m same))
            (answers_so (handles h (pid, message) deeds x).cut noted told later rest
            (noted_so_far hosts are t x k h host (pid, message) k.reads.runs.keeps.on room) (told_so hosts are t x k h host (pid, message))
            trails power none),
      )

  -- ### A pass

  module _ (w v : Work) (hs : List ℕ) (p : ArePassed J hs w v) where
    end_so : (x : Work) → J x → (h : ℕ) → end_of_node x.core h ≡ end_c h
    end_so x j h = own_end_is x.core h j.0.node

    host_so : (x : Work) → J x → (h : ℕ) (m : Message) (messages : List Message) → waiting_at x.ports h ≡ m ∷ messages → IsHost h
    host_so x j h m messages waiting =
        let first : HasFirst x.ports h m messages = has_first x.ports h m messages waiting in
        found_end IsHost x.ports h first.port first.here (subst (AllByRecursion IsHost) (sym j.0.hosts_are) are.all)

    -- what the next turn of a pass stands behind
    trails : (later front : List Entry) → p.more ≡ front ++ later → BeginWithTurn later → Trails later
    trails [] front e begin = tt
    trails (entry.Turn f pid message ∷ later) front e begin = grind arith
    trails (entry.Held f need spare ∷ later) front e begin =
        let u : WasHeld J w front f (need, spare) later = p.each front later (entry.Held f need spare) e in
        trails later (front ++ (entry.Held f need spare ∷ [])) (e ∙ sym (append_assoc front (entry.Held f need spare ∷ []) later)) u.next
    trails (_ ∷ later) front e begin = absurd (true≢false (sym begin))

    -- until a turn
    until_so : (m : Moment) (front entries : List Entry) → until m ≡ (t ++ w.entries) ++ front → entries ≡ w.entries ++ front → until m ≡ t ++ entries
    until_so m front entries same is = same ∙ (append_assoc t w.entries front ∙ ap (λ l. t ++ l) (sym is))

    pub turn_replied : (front back : List Entry) (e : End) (pid : ℕ) (message : List ℕ)
        → p.more ≡ front ++ (entry.Turn e pid message ∷ back) → (m : Moment) → until m ≡ (t ++ w.entries) ++ front → (rest : List Entry)
        → AllByRecursion IsNoAnswer rest → IsReplied hosts m (entry.Turn e pid message) (back ++ rest)
    turn_replied front back e pid message is m same rest none =
        let u : HadTurn J w front e (pid, message) back = p.each front back (entry.Turn e pid message) is in
        let host : IsHost u.host = host_so u.work u.keeps u.host (pid, message) u.messages u.waiting in
        let noted : List Entry = noted_by_deeds u.host (deeds_of u.work.core u.work.ports u.host (pid, message)) (takes_up u.host (pid, message) u.work) in
        let behind : p.more ≡ (front ++ (entry.Turn e pid message ∷ noted)) ++ u.later =
        is ∙ (ap (λ l. front ++ (entry.Turn e pid message ∷ l)) u.notes ∙ sym (append_assoc front (entry.Turn e pid message ∷ noted) u.later)) in
        subst (λ f. IsReplied hosts m (entry.Turn f pid message) (back ++ rest)) (sym (u.its_end ∙ end_so u.work u.keeps u.host))
        (subst (λ l. IsReplied hosts m (entry.Turn (end_c u.host) pid message) (l ++ rest)) (sym u.notes)
        (replied_here u.work (beside u.work u.keeps.1) u.host host pid message u.room u.later rest
        (trails u.later (front ++ (entry.Turn e pid message ∷ noted)) behind u.next) u.power none m (until_so m front u.work.entries same u.entries)))

    -- ### Messages that are held

    pub held_lacks : (front back : List Entry) (e : End) (need spare : ℕ) → p.more ≡ front ++ (entry.Held e need spare ∷ back) → (m : Moment)
        → until m ≡ (t ++ w.entries) ++ front → (message : Message) × (lack_of hosts m e message ≡ Some (need, spare))
    held_lacks front back e need spare is m same =
        let u : WasHeld J w front e (need, spare) back = p.each front back (entry.Held e need spare) is in
        let k : KeepsBeside hosts t u.work = beside u.work u.keeps.1 in
        let end_is : e ≡ end_c u.host = u.its_end ∙ end_so u.work u.keeps u.host in (
          u.message,
          ap (λ f. lack_of hosts m f u.message) end_is
              ∙ (lack_so hosts are t u.work u.keeps.0 k.ends k.room k.reads.named m (until_so m front u.work.entries same u.entries) u.host u.message
              ∙ u.lacks),
        )

    pub held_for : ((x : Work) → K x → MessagesAreRead (t ++ x.entries) x.ports) → (front back : List Entry) (e : End) (need spare : ℕ)
        → p.more ≡ front ++ (entry.Held e need spare ∷ back) → (m : Moment) → until m ≡ (t ++ w.entries) ++ front → (rest : List Entry)
        → IsHeldFor hosts m (entry.Held e need spare) (back ++ rest)
    held_for read front back e need spare is m same rest =
        let u : WasHeld J w front e (need, spare) back = p.each front back (entry.Held e need spare) is in
        let k : KeepsBeside hosts t u.work = beside u.work u.keeps.1 in
        let r : MessagesAreRead (t ++ u.work.entries) u.work.ports = read u.work u.keeps.1 in
        let at : until m ≡ t ++ u.work.entries = until_so m front u.work.entries same u.entries in
        let first : HasFirst u.work.ports u.host u.message u.messages = has_first u.work.ports u.host u.message u.messages u.waiting in
        let fresh : first.port.desk.holds ≡ false = sym (ap (λ o. option_map_or (λ (p : Port). p.desk.holds) o false) first.here) ∙ u.fresh in
        let held : holds_in (until m) (end_c u.host) ≡ false =
        ap (λ l. holds_in l (end_c u.host)) at ∙ (r.held u.host first.port first.here ∙ fresh) in
        let waits : unhandled_in (until m) (end_c u.host) ≡ u.message ∷ u.messages =
        ap (λ l. unhandled_in l (end_c u.host)) at ∙ (r.waiting u.host first.port first.here ∙ first.got) in
        let lacks : lack_at hosts m (end_c u.host) ≡ Some (need, spare) =
        ap (λ l. option_and_then (lack_of hosts m (end_c u.host)) (oldest l)) waits
        ∙ (lack_so hosts are t u.work u.keeps.0 k.ends k.room k.reads.named m at u.host u.message ∙ u.lacks) in
        subst (λ f. IsHeldFor hosts m (entry.Held f need spare) (back ++ rest)) (sym (u.its_end ∙ end_so u.work u.keeps u.host)) (held, lacks)

  -- ### The pass of a step

  -- what is noted in it
  pub split_of : (w : Work) (j : J w) (es : List Entry) → (passes w).entries ≡ w.entries ++ es → (walked w j).more ≡ es
  unfolding walked
  split_of w j es is = append_cancel_left w.entries (walked w j).more es (sym (walked w j).entries ∙ is)
