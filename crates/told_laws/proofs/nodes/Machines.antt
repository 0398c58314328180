-- The ends of the links of a world of nodes, with their activation and messages, are in their ranges, whatever comes to them.
use Rattle.told_laws.proofs.Words.{Act, ActDue, ActEvent, ActFrame, ActStart, ActStop, ActTake, ActTick, AllByRecursion, AllByRecursion-filter}
use Rattle.told_laws.proofs.Words.{AllByRecursion-take, Asked, Bare, Bool, Clf, Clt, Control, Down, EndState, FetchMessage, Fragment, Give, Hold, I}
use Rattle.told_laws.proofs.Words.{IsByte, LinkEnd, LinkInput, LinkState, List, Message, None, Option, PowerMode, Ready, Refused, Release, Report, Reset}
use Rattle.told_laws.proofs.Words.{Role, Rset, S, Session, SetAside, Some, Start, Stop, SyncId, Take, Tick, Turn, Ua, Uicc, Up, Waiting, [], accepted}
use Rattle.told_laws.proofs.Words.{acknowledged, act_answer, activated, after_frames, after_input, ahead, all_frames, all_map, all_mapped, among, arith}
use Rattle.told_laws.proofs.Words.{brought, cond, cond_both, deactivated, discarded, drop, each-append, false, fetched, frames_out}
use Rattle.told_laws.proofs.Words.{give_refusal, given, good_of, had_tick, heard, if_up, in_front, in_phase, is_faulty, is_good, is_open, is_some, leb-true}
use Rattle.told_laws.proofs.Words.{length, ltb-false, map, messages_got, moved, nat_le, nat_lt, news, not, packet_bytes, packet_count, packets_in}
use Rattle.told_laws.proofs.Words.{packets_of, place_of, put_down, put_out, received, refl, report, reset_by, reset_refusal, reset_with, role_after, sent_all}
use Rattle.told_laws.proofs.Words.{started, stopped, suc, take, take_answer, taken, tick_answer, ticked, took, true, turn, turned, unless, whole_acked}
use Rattle.told_laws.proofs.Words.{whole_among, window_of, with_act, zero, ℕ, ◌+◌, ◌-◌, ◌<◌, ◌==◌, ◌∷◌, ◌≡◌, ◌≤◌}
use Rattle.hcp_chain.specs.Joining.{given_by, grown, is_fifth, join_step, message_in, others, so_far}
use Rattle.hcp_packet.specs.declared.Packet.{Packet}
use Rattle.swp_act.specs.declared.ActOut.{ActOut}
use Rattle.told_laws.proofs.told.Links.{IfTries, IsFragment, IsFrame, IsLowWindow, Ranged, drop_each, fragments_in, frames_in, ranged_after, ranged_out}

-- ## The ends of the links of a world of nodes are in their ranges, whatever comes to them: frames and messages are bytes, and no count is above a bound

-- ### Frames

abbrev pub AreBytes : List ℕ → Type 0
AreBytes bytes = AllByRecursion IsByte bytes

-- a frame of activation
abbrev pub IsAct : Act → Type 0
IsAct Ready = Unit {0}
IsAct (SyncId id) = id < 65536
IsAct (PowerMode power) = power < 256

-- a frame of a link
abbrev pub IsLineFrame : Control → Type 0
IsLineFrame (ActFrame act again) = IsAct act
IsLineFrame Clt = Unit {0}
IsLineFrame c = IsFrame c

plain_frame : (c : Control) → IsFrame c → IsLineFrame c
plain_frame c h = grind arith

-- ### An SHDLC end

-- the fragments that it accepted are bytes, and no more than n count as acknowledged
pub record HeardIn (n : ℕ) (e : EndState) : Type 0 where
  pub acc : AllByRecursion AreBytes e.session.acc
  pub acked : e.session.acked ≤ n

place_low : (s : Session) (nr x : ℕ) → place_of s nr ≡ Some x → x ≤ s.acked + 8
place_low s nr x q = grind arith

received_in : (n : ℕ) (f : EndState) (ns : ℕ) (info : Fragment) → AreBytes info → HeardIn n f → HeardIn n (received f ns info)
received_in n f ns info bytes h =
    cond_both f.ready _ (discarded f) (HeardIn n)
    (λ _. cond_both (ahead f.session ns == 0) (accepted f info) _ (HeardIn n)
    (λ _. record { acc = each-append AreBytes f.session.acc (info ∷ []) h.acc (bytes, tt); acked = h.acked })
    (λ _. grind arith))
    (λ _. record { acc = h.acc; acked = h.acked })

module _ (n : ℕ) where
  fragment_heard : (e : EndState) (ns nr : ℕ) (info : Fragment) (o : Option ℕ) → place_of e.session nr ≡ o → AreBytes info → HeardIn n e
      → HeardIn (n + 8) (taken (in_phase Up e) (I ns nr info))
  fragment_heard e ns nr info None q bytes h = rw q (grind arith)
  fragment_heard e ns nr info (Some x) q bytes h =
      let low = place_low e.session nr x q in
      rw q (received_in (n + 8) (acknowledged (in_phase Up e) x) ns info bytes (record { acc = h.acc; acked = omega (arith, low, h.acked) }))

  heard_in : (e : EndState) (p : LinkState) (c : Control) → IsLineFrame c → HeardIn n e → HeardIn (n + 8) (taken (in_phase p e) c)
  heard_in e Up (I ns nr info) is h = fragment_heard e ns nr info _ refl is.2.0 h
  heard_in e Up (S kind nr) is h = grind arith
  heard_in e Waiting Ua is h = record { acc = tt; acked = omega arith }
  heard_in e p (Rset w caps) is h = grind arith
  heard_in e Up _ is h = let a = h.acked in record { acc = h.acc; acked = omega (arith, a) }
  heard_in e Waiting _ is h = let a = h.acked in record { acc = h.acc; acked = omega (arith, a) }
  heard_in e Down _ is h = let a = h.acked in record { acc = h.acc; acked = omega (arith, a) }

  tick_heard : (e : EndState) (p : LinkState) → HeardIn n e → HeardIn n (ticked (in_phase p e))
  tick_heard e p h = grind arith

  asks_heard : (e : EndState) (p : LinkState) (w : ℕ) → HeardIn n e → HeardIn n (reset_with (in_phase p e) w)
  asks_heard e p w h = grind arith

  after_heard : (k : ℕ) (e : EndState) → HeardIn n e → HeardIn n (after_frames k e)
  after_heard zero e h = h
  after_heard (suc k) e h = after_heard k (fetched e) (grind arith)

-- an end whose fragments are bytes
pub record EndIn (n : ℕ) (e : EndState) : Type 0 where
  pub ranged : Ranged e
  pub heard : HeardIn n e

end_taken : (n : ℕ) (e : EndState) (c : Control) → IsLineFrame c → EndIn n e → EndIn (n + 8) (taken e c)
end_taken n e c is h = record { ranged = grind arith; heard = heard_in n e e.phase c is h.heard }

end_out : (n : ℕ) (e : EndState) (fragments : List Fragment) → AllByRecursion IsFragment fragments → EndIn n e → EndIn n (put_out e fragments)
end_out n e fragments more h = record { ranged = ranged_out e fragments more h.ranged; heard = record { acc = h.heard.acc; acked = h.heard.acked } }

end_sent : (n k : ℕ) (e : EndState) → EndIn n e → EndIn n (after_frames k e)
end_sent n k e h = record { ranged = ranged_after k e h.ranged; heard = after_heard n k e h.heard }

-- ### Messages

-- a message that an end takes, or brings
pub record IsMail (m : Message) : Type 0 where
  pub pipe : m.0 < 112
  pub some : 0 < length m.1
  pub bytes : AreBytes m.1
  pub short : length m.1 ≤ 4096

abbrev pub AreMail : List Message → Type 0
AreMail ms = AllByRecursion IsMail ms

record IsPacketIn (p : Packet) : Type 0 where
  pipe : p.pipe < 112
  bytes : AreBytes p.bytes.items

packets_are : (fs : List (List ℕ)) → AllByRecursion AreBytes fs → AllByRecursion IsPacketIn (packets_in fs)
packets_are [] h = tt
packets_are ([] ∷ fs) h = packets_are fs h.1
packets_are ((first ∷ rest) ∷ fs) h = let h0 = packets_are fs h.1 in grind arith

-- a message that is under way, or whole
record IsBegun (m : Message) : Type 0 where
  pipe : m.0 < 112
  bytes : AreBytes m.1
  short : length m.1 ≤ 4096

so_far_in : (begun : List Message) (pipe : ℕ) → AllByRecursion IsBegun begun → AreBytes (so_far begun pipe)
so_far_in [] pipe h = tt
so_far_in (m ∷ begun) pipe h = cond_both (m.0 == pipe) m.1 (so_far begun pipe) AreBytes (λ _. h.0.bytes) (λ _. so_far_in begun pipe h.1)

record IsJoined (begun : List Message) (p : Packet) : Type 0 where
  given : AllByRecursion IsBegun (message_in (join_step begun p).0)
  left : AllByRecursion IsBegun (join_step begun p).1

joined_in : (begun : List Message) (p : Packet) → IsPacketIn p → AllByRecursion IsBegun begun → IsJoined begun p
joined_in begun p is h = go (is_fifth begun p.pipe) (nat_lt 4096 (length (grown begun p))) p.last refl refl refl
  where
    whole : AreBytes (grown begun p)
    whole = each-append IsByte (so_far begun p.pipe) p.bytes.items (so_far_in begun p.pipe h) is.bytes

    rest : AllByRecursion IsBegun (others begun p.pipe)
    rest = AllByRecursion-filter IsBegun (λ m. not (m.0 == p.pipe)) begun h

    go : (a b c : Bool) → is_fifth begun p.pipe ≡ a → nat_lt 4096 (length (grown begun p)) ≡ b → p.last ≡ c → IsJoined begun p
    go true b c x y z = record { given = rw x tt; left = rw x tt }
    go false true c x y z = record { given = rw (x, y) tt; left = rw (x, y) tt }
    go false false true x y z =
        let few = ltb-false 4096 (length (grown begun p)) y in
        record { given = rw (x, y, z) (record { pipe = is.pipe; bytes = whole; short = few }, tt); left = rw (x, y, z) rest }
    go false false false x y z =
        let few = ltb-false 4096 (length (grown begun p)) y in
        record {
          given = rw (x, y, z) tt;
          left = rw (x, y, z) (each-append IsBegun (others begun p.pipe) _ rest (record { pipe = is.pipe; bytes = whole; short = few }, tt));
        }

given_in : (begun : List Message) (ps : List Packet) → AllByRecursion IsPacketIn ps → AllByRecursion IsBegun begun → AllByRecursion IsBegun (given_by begun ps)
given_in begun [] is h = tt
given_in begun (p ∷ ps) is h =
    let one = joined_in begun p is.0 h in
    each-append IsBegun (message_in (join_step begun p).0) (given_by (join_step begun p).1 ps) one.given (given_in (join_step begun p).1 ps is.1 one.left)

good_in : (ms : List Message) → AllByRecursion IsBegun ms → AreMail (good_of ms)
good_in [] h = tt
good_in (m ∷ ms) h = let h0 = is_good m.1 in let h1 = good_in ms h.1 in grind arith

-- the messages that came of a session
got_in : (s : Session) → AllByRecursion AreBytes s.acc → AreMail (messages_got s)
got_in s h = good_in (given_by [] (packets_in s.acc)) (given_in [] (packets_in s.acc) (packets_are s.acc h) tt)

-- no more messages than fragments are acknowledged whole
whole_low : (ms : List Message) (places : ℕ) → AreMail ms → whole_among ms places ≤ places
whole_low [] places h = omega arith
whole_low (m ∷ ms) places h =
    let later = whole_low ms (places - packet_count (length m.1)) h.1 in
    cond_both (nat_le (packet_count (length m.1)) places) (suc (whole_among ms (places - packet_count (length m.1)))) 0 (λ k. k ≤ places)
    (λ q. let fits = leb-true (packet_count (length m.1)) places q in omega (arith, later, h.0.some, fits)) (λ _. omega arith)

-- ## An end of a link of a world of nodes with its activation and its messages is in its range, whatever comes to it and whatever its node does to it

-- ### Activation

abbrev pub IfAct : Option Act → Type 0
IfAct None = Unit {0}
IfAct (Some act) = IsAct act

-- an identifier of a UICC
abbrev pub IfSync : Option ℕ → Type 0
IfSync None = Unit {0}
IfSync (Some id) = id < 65536

-- the role of an end of a controller, or of a host
abbrev pub IsRoleIn : Bool → Role → Type 0
IsRoleIn b Bare = Unit {0}
IsRoleIn false (Clf s) = IfAct s.last × (s.power < 256)
IsRoleIn true (Uicc s) = IfAct s.last
IsRoleIn true (Clf s) = ⊥
IsRoleIn false (Uicc s) = ⊥

-- activation begins with an identifier at a host, and with a power code at a controller
abbrev pub IsStartIn : Bool → ℕ → Type 0
IsStartIn true value = value < 65536
IsStartIn false value = value < 256

abbrev IsActEventIn : Bool → ActEvent → Type 0
IsActEventIn b (ActStart value) = IsStartIn b value
IsActEventIn b (ActTake act again) = IsAct act
IsActEventIn b _ = Unit {0}

record IsOutIn (out : ActOut) : Type 0 where
  pub send : IfAct out.send
  pub sync : IfSync out.sync
  pub tries : IfTries out.gave_up

-- a step of activation
record IsStepIn (b : Bool) (r : Role) (event : ActEvent) : Type 0 where
  role : IsRoleIn b (role_after r event)
  out : IsOutIn (act_answer r event)

step_in : (b : Bool) (r : Role) (event : ActEvent) → IsActEventIn b event → IsRoleIn b r → IsStepIn b r event
step_in b r event is h = grind arith

-- ### An end

abbrev IsActDue : ActDue → Type 0
IsActDue a = IsAct a.frame

abbrev pub AreActs : List ActDue → Type 0
AreActs acts = AllByRecursion IsActDue acts

-- an end of a controller, or of a host
pub record SideIn (b : Bool) (n : ℕ) (e : LinkEnd) : Type 0 where
  pub role : IsRoleIn b e.role
  pub end : EndIn n e.shdlc
  pub sent : AreMail e.sent
  pub acts : AreActs e.acts
  pub got : AreMail e.got

pub side_more : (b : Bool) (n k : ℕ) (e : LinkEnd) → n ≤ k → SideIn b n e → SideIn b k e
side_more b n k e more h = record { role = h.role; end = grind arith; sent = h.sent; acts = h.acts; got = h.got }

side_moved : (b : Bool) (n k : ℕ) (e : LinkEnd) (ends : Bool) (s : EndState) → EndIn k s → SideIn b n e → SideIn b k (moved e ends s)
side_moved b n k e false s is h = record { role = h.role; end = is; sent = h.sent; acts = h.acts; got = h.got }
side_moved b n k e true s is h =
    record { role = h.role; end = is; sent = tt; acts = all_map IsActDue IsActDue in_front (λ a is. is) e.acts h.acts; got = h.got }

side_down : (b : Bool) (n : ℕ) (e : LinkEnd) (ends : Bool) → SideIn b n e → SideIn b n (put_down ends e)
side_down b n e false h = h
side_down b n e true h = by e.shdlc.phase refl
  where
    by : (p : LinkState) → e.shdlc.phase ≡ p → SideIn b n (put_down true e)
    by Up p = rw p (side_moved b n n e true (stopped e.shdlc) (grind arith) h)
    by Waiting p = rw p (side_moved b n n e true (stopped e.shdlc) (grind arith) h)
    by Down p =
        rw p (record {
          role = h.role;
          end = grind arith;
          sent = h.sent;
          acts = all_map IsActDue IsActDue in_front (λ a is. is) e.acts h.acts;
          got = h.got;
        })

side_act : (b : Bool) (n : ℕ) (o : Option Act) (e : LinkEnd) → IfAct o → SideIn b n e → SideIn b n (with_act o e)
side_act b n None e is h = h
side_act b n (Some act) e is h =
    record { role = h.role; end = h.end; sent = h.sent; acts = each-append (λ (a : ActDue). IsAct a.frame) e.acts _ h.acts (is, tt); got = h.got }

side_activated : (b : Bool) (n : ℕ) (e : LinkEnd) (event : ActEvent) → IsActEventIn b event → SideIn b n e → SideIn b n (activated e event)
side_activated b n e event is h =
    let step = step_in b e.role event is h.role in
    let down = side_down b n e (act_answer e.role event).ended_link h in
    side_act b n (act_answer e.role event).send (record (put_down (act_answer e.role event).ended_link e) { role = role_after e.role event }) step.out.send
    (record { role = step.role; end = down.end; sent = down.sent; acts = down.acts; got = down.got })

side_ended : (b : Bool) (n : ℕ) (e : LinkEnd) → SideIn b n e → SideIn b n (moved e true (stopped e.shdlc))
side_ended b n e h = side_moved b n n e true (stopped e.shdlc) (grind arith) h

news_in : (b : Bool) (n : ℕ) (e : LinkEnd) (c : Control) → IsLineFrame c → SideIn b n e → AreMail (news e.shdlc.session (taken e.shdlc c))
news_in b n e c is h =
    drop_each IsMail (length (messages_got e.shdlc.session)) (messages_got (taken e.shdlc c).session)
    (got_in (taken e.shdlc c).session (end_taken n e.shdlc c is h.end).heard.acc)

module _ (b : Bool) (n : ℕ) where
  side_heard : (e : LinkEnd) (c : Control) → IsLineFrame c → SideIn b n e → SideIn b (n + 8) (heard e c)
  side_heard e c is h =
      let f = side_moved b n (n + 8) e (is_some (take_answer e.shdlc c).ended) (taken e.shdlc c) (end_taken n e.shdlc c is h.end) h in
      cond_both (is_faulty (taken e.shdlc c).session) (put_down true e) _ (SideIn b (n + 8))
      (λ _. side_more b n (n + 8) (put_down true e) (omega arith) (side_down b n e true h))
      (λ _. record {
        role = f.role;
        end = f.end;
        sent = f.sent;
        acts = f.acts;
        got = each-append IsMail e.got (news e.shdlc.session (taken e.shdlc c)) h.got (news_in b n e c is h);
      })

  side_opened : (e : LinkEnd) (c : Control) → IsLineFrame c → SideIn b n e → SideIn b (n + 8) (cond (is_open e.role) (heard e c) e)
  side_opened e c is h =
      cond_both (is_open e.role) (heard e c) e (SideIn b (n + 8)) (λ _. side_heard e c is h) (λ _. side_more b n (n + 8) e (omega arith) h)

  side_took : (e : LinkEnd) (c : Control) → IsLineFrame c → SideIn b n e → SideIn b (n + 8) (took e c)
  side_took e (ActFrame act again) is h =
      side_more b n (n + 8) (activated e (ActTake act again)) (omega arith) (side_activated b n e (ActTake act again) is h)
  side_took e Clt is h = grind arith
  side_took e c is h = side_opened e c is h

  side_ticked : (e : LinkEnd) → SideIn b n e → SideIn b n (had_tick e)
  side_ticked e h =
      cond_both (is_open e.role) (moved e (is_some (tick_answer e.shdlc).ended) (ticked e.shdlc)) (activated e ActTick) (SideIn b n)
      (λ _. side_moved b n n e (is_some (tick_answer e.shdlc).ended) (ticked e.shdlc) (grind arith) h)
      (λ _. side_activated b n e ActTick tt h)

  side_unless : (o : Option Refused) (e f : LinkEnd) → SideIn b n e → SideIn b n f → SideIn b n (unless o e f)
  side_unless o e f p q = grind arith

  side_reset : (e : LinkEnd) (window : Option ℕ) → IsLowWindow window → SideIn b n e → SideIn b n (after_input e (Reset window))
  side_reset e window low h =
      side_unless (reset_refusal e) e (reset_by e (window_of e window)) h
      (side_moved b n n e (is_some (if_up e.shdlc Asked)) (reset_with e.shdlc (window_of e window))
      (grind arith) h)

-- ### What its node does to it

abbrev pub IsTurnIn : Turn → Type 0
IsTurnIn (Give m) = IsMail m
IsTurnIn _ = Unit {0}

abbrev pub AreTurnsIn : List Turn → Type 0
AreTurnsIn turns = AllByRecursion IsTurnIn turns

pub side_turn : (b : Bool) (n : ℕ) (e : LinkEnd) (t : Turn) → IsTurnIn t → SideIn b n e → SideIn b n (turn e t)
side_turn b n e (Give m) is h =
    side_unless b n (give_refusal e m) e (given e m) h (record {
      role = h.role;
      end = end_out n e.shdlc (map packet_bytes (packets_of m.0 m.1)) (fragments_in m (record { pipe = is.pipe; some = is.some; bytes = is.bytes })) h.end;
      sent = each-append IsMail e.sent (m ∷ []) h.sent (is, tt);
      acts = h.acts;
      got = h.got;
    })
side_turn b n e (Hold held) is h = grind arith
side_turn b n e FetchMessage is h = record { role = h.role; end = h.end; sent = h.sent; acts = h.acts; got = drop_each IsMail 1 e.got h.got }
side_turn b n e SetAside is h = grind arith
side_turn b n e Release is h = record { role = h.role; end = h.end; sent = h.sent; acts = h.acts; got = h.got }

pub side_turned : (b : Bool) (n : ℕ) (ts : List Turn) (e : LinkEnd) → AreTurnsIn ts → SideIn b n e → SideIn b n (turned e ts)
side_turned b n [] e is h = h
side_turned b n (t ∷ ts) e is h = side_turned b n ts (turn e t) is.1 (side_turn b n e t is.0 h)

-- ### What comes to it

abbrev pub IsInputIn : Bool → LinkInput → Type 0
IsInputIn b (Take c) = IsLineFrame c
IsInputIn b (Reset window) = IsLowWindow window
IsInputIn b (Start value) = IsStartIn b value
IsInputIn b Tick = Unit {0}
IsInputIn b Stop = Unit {0}
IsInputIn b _ = ⊥

side_started : (b : Bool) (n : ℕ) (e : LinkEnd) (value : ℕ) → IsStartIn b value → SideIn b n e → SideIn b n (started e value)
side_started b n e value is h = side_activated b n (moved e true (stopped e.shdlc)) (ActStart value) is (side_ended b n e h)

side_stopped : (b : Bool) (n : ℕ) (e : LinkEnd) → SideIn b n e → SideIn b n (deactivated e)
side_stopped b n e h = side_activated b n (moved e true (stopped e.shdlc)) ActStop tt (side_ended b n e h)

pub side_input : (b : Bool) (n : ℕ) (e : LinkEnd) (i : LinkInput) → IsInputIn b i → SideIn b n e → SideIn b (n + 8) (after_input e i)
side_input b n e (Take c) is h = side_took b n e c is h
side_input b n e Tick is h = side_more b n (n + 8) (had_tick e) (omega arith) (side_ticked b n e h)
side_input b n e (Reset window) is h = side_more b n (n + 8) (after_input e (Reset window)) (omega arith) (side_reset b n e window is h)
side_input b n e (Start value) is h = side_more b n (n + 8) (started e value) (omega arith) (side_started b n e value is h)
side_input b n e Stop is h = side_more b n (n + 8) (deactivated e) (omega arith) (side_stopped b n e h)
side_input b n e _ is h = absurd is

-- a reset moves no count
pub side_reset_at : (b : Bool) (n : ℕ) (e : LinkEnd) → SideIn b n e → SideIn b n (after_input e (Reset None))
side_reset_at b n e h = side_reset b n e None tt h

-- ### What is told of it

pub record ReportIn (r : Report) : Type 0 where
  pub got : AreMail r.got
  pub tries : IfTries r.gave_up
  pub sync : IfSync r.sync

brought_in : (b : Bool) (n : ℕ) (e : LinkEnd) (c : Control) → IsLineFrame c → SideIn b n e → AreMail (brought e c)
brought_in b n e (ActFrame act again) is h = tt
brought_in b n e Clt is h = tt
brought_in b n e c is h =
    cond_both (is_open e.role) _ [] AreMail
    (λ _. cond_both (is_faulty (taken e.shdlc c).session) [] _ AreMail (λ _. tt) (λ _. news_in b n e c is h)) (λ _. tt)

pub report_in : (b : Bool) (n : ℕ) (e : LinkEnd) (i : LinkInput) → IsInputIn b i → SideIn b n e → ReportIn (report e i)
report_in b n e (Take (ActFrame act again)) is h = record { got = tt; tries = tt; sync = (step_in b e.role (ActTake act again) is h.role).out.sync }
report_in b n e (Take Clt) is h = record { got = tt; tries = tt; sync = tt }
report_in b n e (Take (I ns nr info)) is h = record { got = brought_in b n e (I ns nr info) is h; tries = tt; sync = tt }
report_in b n e (Take (S kind nr)) is h = record { got = brought_in b n e (S kind nr) is h; tries = tt; sync = tt }
report_in b n e (Take (Rset window caps)) is h = record { got = brought_in b n e (Rset window caps) is h; tries = tt; sync = tt }
report_in b n e (Take Ua) is h = record { got = brought_in b n e Ua is h; tries = tt; sync = tt }
report_in b n e Tick is h = grind arith
report_in b n e (Reset window) is h = record { got = tt; tries = tt; sync = tt }
report_in b n e (Start value) is h = record { got = tt; tries = tt; sync = (step_in b e.role (ActStart value) is h.role).out.sync }
report_in b n e Stop is h = record { got = tt; tries = tt; sync = (step_in b e.role ActStop tt h.role).out.sync }
report_in b n e _ is h = absurd is

pub acked_in : (b : Bool) (n : ℕ) (e : LinkEnd) → SideIn b n e → whole_acked e ≤ n
acked_in b n e h = let w = whole_low e.sent e.shdlc.session.acked h.sent in let a = h.end.heard.acked in omega (arith, w, a)

-- ### What goes out of it

abbrev pub AreFramesIn : List Control → Type 0
AreFramesIn cs = AllByRecursion IsLineFrame cs

among_in : (n : ℕ) (acts : List ActDue) (cs : List Control) → AreActs acts → AreFramesIn cs → AreFramesIn (among n acts cs)
among_in n [] cs a h = h
among_in n (x ∷ acts) cs a h =
    each-append IsLineFrame (take (x.behind - n) cs) (ActFrame x.frame false ∷ among x.behind acts (drop (x.behind - n) cs))
    (AllByRecursion-take IsLineFrame (x.behind - n) cs h)
    (a.0, among_in x.behind acts (drop (x.behind - n) cs) a.1 (drop_each IsLineFrame (x.behind - n) cs h))

pub out_in : (b : Bool) (n : ℕ) (e : LinkEnd) → SideIn b n e → AreFramesIn (frames_out e)
out_in b n e h = among_in 0 e.acts (all_frames e.shdlc) h.acts
    (all_mapped Control IsFrame IsLineFrame (all_frames e.shdlc) plain_frame (frames_in 12 e.shdlc h.end.ranged))

pub side_sent : (b : Bool) (n : ℕ) (e : LinkEnd) → SideIn b n e → SideIn b n (sent_all e)
side_sent b n e h = record { role = h.role; end = end_sent n 12 e.shdlc h.end; sent = h.sent; acts = tt; got = h.got }
