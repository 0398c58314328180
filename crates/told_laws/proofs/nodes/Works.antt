-- A node in a step, whatever comes to it: its ends, what it keeps and what it notes are in their ranges.
use Rattle.told_laws.proofs.Words.{About, AllByRecursion, Asks, AtEnd, Bool, Command, Commits, Core, Deed, Desk, Drops, Ends, Entry, FetchMessage, Give, GoesOn}
use Rattle.told_laws.proofs.Words.{Hears, Hold, IsAnswered, IsByte, LinkInput, List, Message, NodeInput, None, Option, Orders, Port, Release, Releases, Reset}
use Rattle.told_laws.proofs.Words.{SaysOk, Sends, SetAside, SetsErrors, Some, Tells, TimePasses, Turn, Work, [], after_input, after_sessions, after_turn}
use Rattle.told_laws.proofs.Words.{all_changed, all_come, all_done, all_map, all_mapped, all_owed, all_owed_hold, answer_of, answers_and_passes, arith}
use Rattle.told_laws.proofs.Words.{by_option, by_test, commit, cond_both, creation_in, done, each-append, end_of_node, eqb, eqb-true, fails_within, false}
use Rattle.told_laws.proofs.Words.{flat_map, forgets, forgotten, forgotten_hold, has_come, input_at, is_late, lack, length, map, nat_lt, need, needs, noted_of}
use Rattle.told_laws.proofs.Words.{notified, noting, option_map_or, own_side, port_at, refl, report, reset_late, spare, steps, subst, synced, times_out, told}
use Rattle.told_laws.proofs.Words.{told_at, told_late, true, turn_at, turn_entry, unless_cut, whole_acked, with_desk, with_older, with_port, without_notice, ℕ}
use Rattle.told_laws.proofs.Words.{◌++◌, ◌+◌, ◌<◌, ◌==◌, ◌∷◌, ◌≡◌, ◌≤◌}
use Rattle.trace_model.specs.declared.entry.Entry.TheVariants as entry
use Rattle.hci_tables.specs.Bodies.{body_of}
use Rattle.hci_store.specs.Committing.{commit_writes}
use Rattle.node_machine.specs.Parts.About.{Waits, Removed}
use Rattle.node_machine.specs.Turns.{deeds_of, handles, holds_back, have_turns, goes_through_ends, passes}
use Rattle.node_laws.proofs.steps.StepWalks.{got_at, lets, unless}
use Rattle.told_laws.proofs.told.BarePlays.{each_all}
use Rattle.told_laws.proofs.nodes.Machines.{AreMail, AreTurnsIn, IfSync, IsInputIn, IsMail, IsTurnIn, SideIn, acked_in, report_in, side_input, side_reset_at}
use Rattle.told_laws.proofs.nodes.Machines.{side_turn}
use Rattle.told_laws.proofs.nodes.Commands.{AreIn, IsCommandIn, all_entries_in, all_in_more, applied_in, each_in, in-append, rows_applied, told_in_range}
use Rattle.told_laws.proofs.nodes.Hosts.{AreDeedsIn, IfCreation, IsCoreIn, IsDeedIn, IsDeskIn, IsSaying, answer_in, controller_in, host_in, low, own_end}
use Rattle.told_laws.proofs.nodes.Hosts.{saying}

-- ## A node at work

-- an end of a controller, or of a host
pub record IsPortIn (b : Bool) (n : ℕ) (p : Port) : Type 0 where
  pub desk : IsDeskIn p.desk
  pub side : SideIn b n p.side
  pub session : p.session ≤ n
  pub turns : AreTurnsIn p.turns

abbrev pub ArePortsIn : Bool → ℕ → List Port → Type 0
ArePortsIn b n ports = AllByRecursion (IsPortIn b n) ports

pub record IsWorkIn (b : Bool) (n : ℕ) (w : Work) : Type 0 where
  pub core : IsCoreIn w.core
  pub ports : ArePortsIn b n w.ports
  pub entries : AreIn n w.entries

pub port_more : (b : Bool) (n k : ℕ) → n ≤ k → (p : Port) → IsPortIn b n p → IsPortIn b k p
port_more b n k more p h = grind arith

module _ (b : Bool) (n : ℕ) where
  port_in : (h : ℕ) (f : Port → Port) → ((q : Port) → IsPortIn b n q → IsPortIn b n (f q)) → (ports : List Port) → ArePortsIn b n ports
      → ArePortsIn b n (with_port h f ports)
  port_in h f one ports a = all_changed (IsPortIn b n) (λ (p : Port). p.desk.host == h) f one ports a

  -- the end of the link with a host is one of them
  record IsAt (h : ℕ) (p : Port) : Type 0 where
    is : IsPortIn b n p
    host : p.desk.host ≡ h

  at_in : (ports : List Port) (h : ℕ) (p : Port) → ArePortsIn b n ports → port_at ports h ≡ Some p → IsAt h p
  at_in [] h p a q = absurd (cc q)
  at_in (x ∷ ports) h p a q =
      cond_both (eqb x.desk.host h) (Some x) (port_at ports h) (λ o. o ≡ Some p → IsAt h p)
      (λ e z. let same : x ≡ p = cc in subst (IsAt h) same (record { is = a.0; host = eqb-true x.desk.host h e })) (λ _ z. at_in ports h p a.1 z) q

  -- ## Turns

  noting_in : (es : List Entry) (w : Work) → AreIn n es → IsWorkIn b n w → IsWorkIn b n (noting es w)
  noting_in es w is a = record { core = a.core; ports = a.ports; entries = in-append n w.entries es a.entries is }

  desk_in : (h : ℕ) (f : Desk → Desk) (w : Work) → ((d : Desk) → IsDeskIn d → IsDeskIn (f d)) → IsWorkIn b n w → IsWorkIn b n (with_desk h f w)
  desk_in h f w one a = record {
    core = a.core;
    ports = port_in h (λ p. record p { desk = f p.desk })
        (λ p is. record { desk = one p.desk is.desk; side = is.side; session = is.session; turns = is.turns }) w.ports a.ports;
    entries = a.entries;
  }

  turn_in : (h : ℕ) (t : Turn) (w : Work) → IsTurnIn t → IsWorkIn b n w → IsWorkIn b n (turn_at h t w)
  turn_in h t w is a =
      noting_in (option_map_or (noted_of w.core t) (port_at w.ports h) []) (record w { ports = with_port h (after_turn t) w.ports })
      (go (port_at w.ports h) refl)
      (record {
        core = a.core;
        ports = port_in h (after_turn t)
            (λ p q. record {
              desk = q.desk;
              side = side_turn b n p.side t is q.side;
              session = q.session;
              turns = each-append IsTurnIn p.turns (t ∷ []) q.turns (is, tt);
            }) w.ports a.ports;
        entries = a.entries;
      })
    where
      go : (o : Option Port) → port_at w.ports h ≡ o → AreIn n (option_map_or (noted_of w.core t) o [])
      go None q = tt
      go (Some p) q =
          let there = at_in w.ports h p a.ports q in
          all_entries_in p.desk.host n (omega (arith, there.is.desk.host)) (turn_entry (own_side w.core) p.session p.side t)
          (grind arith)

  notified_in : (h : ℕ) (about : About) (message : List ℕ) (w : Work) → IsSaying message
      → IfCreation (creation_in (Some (record { about = about; age = 0 }))) → IsWorkIn b n w → IsWorkIn b n (notified h about message w)
  notified_in h about message w spoken creation a =
      desk_in h (λ d. record d { notice = Some (record { about = about; age = 0 }) }) (turn_at h (Give (1, message)) w)
      (λ d is. record { host = is.host; creation = creation; errors = is.errors }) (turn_in h (Give (1, message)) w (saying 1 message low spoken) a)

  -- ## Deeds

  node_byte : (w : Work) → IsWorkIn b n w → w.core.node < 256
  node_byte w a = let small = a.core.node in omega (arith, small)

  commit_in : (c : Command) (w : Work) → IsCommandIn c → IsWorkIn b n w → IsWorkIn b n (commit c w)
  commit_in c w is a = by_test (fails_within (length (commit_writes w.core.journal w.core.tables (body_of c))) w.plan)
      (λ q. rw q (record {
        core = a.core;
        ports = a.ports;
        entries = in-append n (w.entries ++ entry.Command w.core.node c ∷ []) (entry.Cut w.core.node ∷ []) begun (node_byte w a, tt);
      }))
      (λ q. rw q (record {
        core = record {
          node = a.core.node;
          tables = applied_in c w.core.tables is.said is.short a.core.tables;
          rows = rows_applied c w.core.tables is.made a.core.rows;
          command = a.core.command;
          init = a.core.init;
        };
        ports = a.ports;
        entries = begun;
      }))
    where
      begun : AreIn n (w.entries ++ entry.Command w.core.node c ∷ [])
      begun = in-append n w.entries (entry.Command w.core.node c ∷ []) a.entries ((node_byte w a, is.said, is.short), tt)

  -- deeds are done at an end of the node
  abbrev IsHostNumber : ℕ → Type 0
  IsHostNumber h = h ≤ 7

  done_in : (h : ℕ) (d : Deed) (w : Work) → IsHostNumber h × IsDeedIn d → IsWorkIn b n w → IsWorkIn b n (done h d w)
  done_in h (Commits c) w f a = commit_in c w f.1 a
  done_in h (Sends to m) w f a = turn_in to (Give m) w f.1 a
  done_in h SaysOk w f a = noting_in _ w (node_byte w a, tt) a
  done_in h (Asks to message c) w f a =
      let octets = each_all IsByte message f.1.1.bytes in
      notified_in to (Waits c) message (noting (entry.Ask to message ∷ []) (turn_at c.asker SetAside w)) f.1.1 f.1.2
      (noting_in (entry.Ask to message ∷ []) (turn_at c.asker SetAside w) ((f.1.0, (f.1.1.some, octets)), tt) (turn_in c.asker SetAside w tt a))
  done_in h (Releases asker) w f a = turn_in asker Release w tt a
  done_in h (Tells to message) w f a = notified_in to Removed message w f.1 tt a
  done_in h IsAnswered w f a = desk_in h (λ d. record d { notice = None }) w (λ d is. record { host = is.host; creation = tt; errors = is.errors }) a
  done_in h (Drops pid) w f a = noting_in _ w ((own_end w.core h f.0, f.1), tt) a
  done_in h (SetsErrors errors) w f a =
      desk_in h (λ d. record d { errors = errors }) w (λ d is. record { host = is.host; creation = is.creation; errors = f.1 }) a
  done_in h (Orders message) w f a =
      turn_in h (Give (1, message)) (record w { core = record w.core { command = Some message } }) (saying 1 message low f.1)
      (grind arith)
  done_in h Hears w f a = grind arith
  done_in h (GoesOn i) w f a = grind arith
  done_in h (Ends e) w f a =
      noting_in (e ∷ []) (record w { core = record w.core { init = None } }) (f.1 n, tt)
      (grind arith)

  -- ## Room

  -- a need is at most 200 blocks
  abbrev AreFewNeeds : List (ℕ × ℕ) → Type 0
  AreFewNeeds needs = AllByRecursion (λ (x : ℕ × ℕ). x.1 ≤ 200) needs

  need_few : (message : List ℕ) → length message ≤ 4096 → need message ≤ 200
  need_few message few = omega (arith, few)

  needs_few : (h : ℕ) (deeds : List Deed) → AreDeedsIn deeds → AreFewNeeds (needs h deeds)
  needs_few h [] is = tt
  needs_few h (Sends to m ∷ deeds) is = (need_few m.1 is.0.short, needs_few h deeds is.1)
  needs_few h (Asks to message c ∷ deeds) is = (omega arith, (need_few message is.0.1.short, needs_few h deeds is.1))
  needs_few h (Tells to message ∷ deeds) is = (need_few message is.0.short, needs_few h deeds is.1)
  needs_few h (Orders message ∷ deeds) is = (need_few message is.0.short, needs_few h deeds is.1)
  needs_few h (_ ∷ deeds) is = needs_few h deeds is.1

  abbrev IfLack : Option (ℕ × ℕ) → Type 0
  IfLack None = Unit {0}
  IfLack (Some short) = (short.0 ≤ 200) × (short.1 ≤ 200)

  lack_few : (ports : List Port) (xs : List (ℕ × ℕ)) → AreFewNeeds xs → IfLack (lack ports xs)
  lack_few ports [] is = tt
  lack_few ports (x ∷ xs) is =
      cond_both (nat_lt (option_map_or (λ (p : Port). spare p.side) (port_at ports x.0) 0) x.1)
      (Some (x.1, option_map_or (λ (p : Port). spare p.side) (port_at ports x.0) 0)) (lack ports xs) IfLack
      (λ _. (is.0, by_option (port_at ports x.0) (λ q. rw q (omega arith)) (λ p q. rw q (omega arith)))) (λ _. lack_few ports xs is.1)

  -- ## The pass

  abbrev J : Work → Type 0
  J w = IsWorkIn b n w

  held_in : (h : ℕ) (flag : Bool) (w : Work) → J w → J (turn_at h (Hold flag) w)
  held_in h flag w a = turn_in h (Hold flag) w tt a

  marked_in : (h : ℕ) (flag : Bool) (w : Work) → J w → J (with_desk h (λ d. record d { holds = flag }) w)
  marked_in h flag w a = desk_in h (λ d. record d { holds = flag }) w (λ d is. record { host = is.host; creation = is.creation; errors = is.errors }) a

  all_deeds_in : (h : ℕ) (deeds : List Deed) (w : Work) → IsHostNumber h → AreDeedsIn deeds → J w → J (all_done h deeds w)
  all_deeds_in h [] w small is a = a
  all_deeds_in h (d ∷ deeds) w small is a =
      unless J (all_done h deeds) (done h d w) (λ v c. all_deeds_in h deeds v small is.1 c) (done_in h d w (small, is.0) a)

  handled_in : (h : ℕ) (m : Message) (deeds : List Deed) (w : Work) → IsHostNumber h → IsMail m → AreDeedsIn deeds → J w → J (handles h m deeds w)
  handled_in h m deeds w small mail is a =
      let told : Work = noting (entry.Turn (end_of_node w.core h) m.0 m.1 ∷ []) w in
      let fetched : Work = turn_at h FetchMessage told in
      all_deeds_in h deeds (with_desk h (λ d. record d { holds = false }) fetched) small is
      (marked_in h false fetched (turn_in h FetchMessage told tt
      (noting_in _ w ((own_end w.core h small, omega (arith, mail.pipe), (mail.some, (each_all IsByte m.1 mail.bytes))), tt) a)))

  held_back_in : (h : ℕ) (short : ℕ × ℕ) (w : Work) → IsHostNumber h → IfLack (Some short) → J w → J (holds_back h short w)
  held_back_in h short w small few a = by_test (option_map_or (λ (p : Port). p.desk.holds) (port_at w.ports h) false)
      (λ q. rw q (held_in h true w a))
      (λ q. rw q (held_in h true (with_desk h (λ d. record d { holds = true }) noted) (marked_in h true noted noted_in))) where
        noted : Work
        noted = noting (entry.Held (end_of_node w.core h) short.0 short.1 ∷ []) w

        noted_in : J noted
        noted_in = let one = few.0 in let two = few.1 in
            noting_in _ w ((own_end w.core h small, omega (arith, one), omega (arith, two)), tt) a

  deeds_in : (w : Work) (h : ℕ) (m : Message) → IsHostNumber h → IsMail m → J w → AreDeedsIn (deeds_of w.core w.ports h m)
  deeds_in w h m small mail a = go (eqb w.core.node 0) (port_at w.ports h) refl refl
    where
      go : (c : Bool) (o : Option Port) → eqb w.core.node 0 ≡ c → port_at w.ports h ≡ o → AreDeedsIn (deeds_of w.core w.ports h m)
      go true o q r =
          rw q (controller_in w.core w.ports h m a.core.tables a.core.rows
          (all_mapped Port (IsPortIn b n) (λ (p : Port). IsDeskIn p.desk) w.ports (λ p is. is.desk) a.ports) small mail)
      go false None q r = rw (q, r) tt
      go false (Some p) q r = rw (q, r) (host_in w.core a.core p m (at_in w.ports h p a.ports r).is.desk mail)

  having_in : (h : ℕ) (messages : List Message) (w : Work) → IsHostNumber h → AreMail messages → J w → J (have_turns h messages w)
  having_in h [] w small mail a = lets J held_in h w a
  having_in h (m ∷ messages) w small mail a = go (lack w.ports (needs h deeds)) (lack_few w.ports (needs h deeds) (needs_few h deeds are))
      (λ v c. having_in h messages v small mail.1 c) where
        deeds : List Deed
        deeds = deeds_of w.core w.ports h m

        are : AreDeedsIn deeds
        are = deeds_in w h m small mail.0 a

        by : Option (ℕ × ℕ) → Work
        by None = unless_cut (have_turns h messages) (handles h m deeds w)
        by (Some short) = holds_back h short w

        go : (o : Option (ℕ × ℕ)) → IfLack o → ((v : Work) → J v → J (have_turns h messages v)) → J (by o)
        go None few later = unless J (have_turns h messages) (handles h m deeds w) later (handled_in h m deeds w small mail.0 are a)
        go (Some short) few later = held_back_in h short w small few a

  come_in : (h : ℕ) (w : Work) → J w → AreMail (got_at h w)
  come_in h w a = by_option (port_at w.ports h) (λ q. rw q tt) (λ p q. rw q (at_in w.ports h p a.ports q).is.side.got)

  going_in : (hosts : List ℕ) (w : Work) → AllByRecursion IsHostNumber hosts → J w → J (goes_through_ends hosts w)
  going_in [] w small a = a
  going_in (h ∷ hosts) w small a =
      unless J (goes_through_ends hosts) (have_turns h (got_at h w) w) (λ v c. going_in hosts v small.1 c)
      (having_in h (got_at h w) w small.0 (come_in h w a) a)

  passes_in : (w : Work) → J w → J (passes w)
  passes_in w a =
      going_in (map (λ (p : Port). p.desk.host) w.ports) w
      (all_map (IsPortIn b n) IsHostNumber (λ (p : Port). p.desk.host) (λ p is. is.desk.host) w.ports a.ports) a

  rest_in : (freed syncs owing : List Deed) (w : Work) → AreDeedsIn freed → AreDeedsIn syncs → AreDeedsIn owing → J w
      → J (answers_and_passes freed syncs owing w)
  rest_in freed syncs owing w f s o a =
      let none : IsHostNumber 0 = omega arith in
      unless J passes (unless_cut (all_done 0 owing) (all_done 0 syncs (all_done 0 freed w))) (λ v c. passes_in v c)
      (unless J (all_done 0 owing) (all_done 0 syncs (all_done 0 freed w)) (λ v c. all_deeds_in 0 owing v none o c)
      (all_deeds_in 0 syncs (all_done 0 freed w) none s (all_deeds_in 0 freed w none f a)))

  -- ## What comes

  older_in : (p : Port) → IsPortIn b n p → IsPortIn b n (with_older p)
  older_in p a = grind arith

  late_in : (p : Port) → IsPortIn b n p → IsPortIn b n (reset_late p)
  late_in p a =
      cond_both (is_late p) _ p (IsPortIn b n)
      (λ _. record { desk = a.desk; side = side_reset_at b n p.side a.side; session = a.session; turns = a.turns }) (λ _. a)

  -- a reset is told
  told_late_in : (core : Core) (p : Port) → IsPortIn b n p → AreIn n (told_late core p)
  told_late_in core p a =
      cond_both (is_late p) (told_at core p (Some (Reset None))) [] (AreIn n)
      (λ _. let small = a.desk.host in
      all_entries_in p.desk.host n (omega (arith, small))
      (told (own_side core) p.session (report p.side (Reset None)) (whole_acked (after_input p.side (Reset None))))
      (told_in_range n (own_side core) p.session (report p.side (Reset None)) (whole_acked (after_input p.side (Reset None))) a.session
      (acked_in b n (after_input p.side (Reset None)) (side_reset_at b n p.side a.side)) (report_in b n p.side (Reset None) tt a.side)))
      (λ _. tt)

  time_in : (input : NodeInput) (w : Work) → J w → J (times_out input w)
  time_in (AtEnd h i) w a = a
  time_in TimePasses w a =
      let ports : List Port = map with_older w.ports in
      let old : ArePortsIn b n ports = all_map (IsPortIn b n) (IsPortIn b n) with_older older_in w.ports a.ports in
      noting_in (flat_map (told_late w.core) ports) (record w { ports = map reset_late ports })
      (each_in n (IsPortIn b n) (told_late w.core) (told_late_in w.core) ports old)
      (record { core = a.core; ports = all_map (IsPortIn b n) (IsPortIn b n) reset_late late_in ports old; entries = a.entries })

  after_in : (core : Core) (ports : List Port) → IsCoreIn core → IsCoreIn (after_sessions core ports)
  after_in core ports a = grind arith

-- ## Steps

abbrev pub IsNodeInputIn : Bool → NodeInput → Type 0
IsNodeInputIn b (AtEnd h i) = IsInputIn b i
IsNodeInputIn b TimePasses = Unit {0}

abbrev IfInput : Bool → Option LinkInput → Type 0
IfInput b None = Unit {0}
IfInput b (Some i) = IsInputIn b i

if_input : (b : Bool) (input : NodeInput) (p : Port) → IsNodeInputIn b input → IfInput b (input_at input p)
if_input b input p is = grind arith

module _ (b : Bool) (n : ℕ) where
  come_port : (p : Port) (o : Option LinkInput) → IfInput b o → IsPortIn b n p → IsPortIn b (n + 8) (has_come p o)
  come_port p None is a = port_more b n (n + 8) (omega arith) p a
  come_port p (Some i) is a = record { desk = a.desk; side = side_input b n p.side i is a.side; session = omega (arith, a.session); turns = a.turns }

  told_port : (core : Core) (p : Port) (o : Option LinkInput) → IfInput b o → IsPortIn b n p → AreIn (n + 8) (told_at core p o)
  told_port core p None is a = tt
  told_port core p (Some i) is a =
      let small = a.desk.host in
      all_entries_in p.desk.host (n + 8) (omega (arith, small)) (told (own_side core) p.session (report p.side i) (whole_acked (after_input p.side i)))
      (told_in_range (n + 8) (own_side core) p.session (report p.side i) (whole_acked (after_input p.side i)) (omega (arith, a.session))
      (acked_in b (n + 8) (after_input p.side i) (side_input b n p.side i is a.side)) (report_in b n p.side i is a.side))

  all_come_in : (input : NodeInput) (w : Work) → IsNodeInputIn b input → IsWorkIn b n w → IsWorkIn b (n + 8) (all_come input w)
  all_come_in input w is a =
      noting_in b (n + 8) (flat_map (λ p. told_at w.core p (input_at input p)) w.ports)
      (record w { ports = map (λ p. has_come p (input_at input p)) w.ports })
      (each_in (n + 8) (IsPortIn b n) (λ p. told_at w.core p (input_at input p))
      (λ p h. told_port w.core p (input_at input p) (if_input b input p is) h) w.ports a.ports)
      (record {
        core = a.core;
        ports = all_map (IsPortIn b n) (IsPortIn b (n + 8)) (λ p. has_come p (input_at input p))
            (λ p h. come_port p (input_at input p) (if_input b input p is) h) w.ports a.ports;
        entries = all_in_more n (n + 8) w.entries (omega arith) a.entries;
      })

  sync_in : (core : Core) (input : NodeInput) (p : Port) → IsNodeInputIn b input → IsPortIn b n p → AreDeedsIn (synced core input p)
  sync_in core input p is a = go (input_at input p) (if_input b input p is) refl
    where
      go : (o : Option LinkInput) → IfInput b o → input_at input p ≡ o → AreDeedsIn (synced core input p)
      go None may q = rw q tt
      go (Some i) may q = by (report p.side i).sync (report_in b n p.side i may a.side).sync refl where
        by : (o : Option ℕ) → IfSync o → (report p.side i).sync ≡ o → AreDeedsIn (synced core input p)
        by None id_in e = rw (q, e) tt
        by (Some id) id_in e =
            rw (q, e) (grind arith)

  syncs_in : (core : Core) (input : NodeInput) (ports : List Port) → IsNodeInputIn b input → ArePortsIn b n ports
      → AreDeedsIn (flat_map (synced core input) ports)
  syncs_in core input [] is a = tt
  syncs_in core input (p ∷ ports) is a =
      each-append IsDeedIn (synced core input p) (flat_map (synced core input) ports) (sync_in core input p is a.0) (syncs_in core input ports is a.1)

  -- a step of a node keeps all in its range
  pub steps_in : (input : NodeInput) (w : Work) → IsNodeInputIn b input → IsWorkIn b n w → IsWorkIn b (n + 8) (steps input w)
  steps_in input w is a =
      let came : Work = times_out input (all_come input w) in
      let now : IsWorkIn b (n + 8) came = time_in b (n + 8) input (all_come input w) (all_come_in input w is a) in
      let left : List Port = map (forgets came.ports) came.ports in
      let begun : Work = record came { core = after_sessions came.core came.ports; ports = map without_notice left } in
      rest_in b (n + 8) (forgotten came.ports) (flat_map (synced w.core input) w.ports) (all_owed left) begun (forgotten_hold IsDeedIn (λ asker. tt) came.ports)
      (syncs_in w.core input w.ports is a.ports)
      (all_owed_hold IsDeedIn (λ asker. tt) (λ to r. saying 1 (answer_of r []) low (answer_in r [] tt (omega arith))) left)
      (record {
        core = after_in b (n + 8) came.core came.ports now.core;
        ports = all_map (IsPortIn b (n + 8)) (IsPortIn b (n + 8)) without_notice (grind arith) left
            (all_map (IsPortIn b (n + 8)) (IsPortIn b (n + 8)) (forgets came.ports) (grind arith) came.ports now.ports);
        entries = now.entries;
      })

  -- deeds that begin a step
  pub begins_in : (h : ℕ) (deeds : List Deed) (w : Work) → h ≤ 7 → AreDeedsIn deeds → IsWorkIn b n w → IsWorkIn b n (all_done h deeds w)
  begins_in h deeds w small is a = all_deeds_in b n h deeds w small is a
