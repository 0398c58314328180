-- What a node asks of a link end: resets, messages fetched and given, and frames fetched.
use Rattle.std.specs.Prelude.{unwrap_or}
use Rattle.std.proofs.lemmas.List.{drop-append-le}
use Rattle.std.proofs.lemmas.Bool.{lt-ltb}
use Rattle.link_end.proofs.Words.{Act, ActDue, ActFrame, ArrayVec, Bool, Chain, Control, Down, Due, End, EndStandsFor, EndState, ForgetsMessages}
use Rattle.link_end.proofs.Words.{Full, Halfway, HoldsChains, IfSome, Inbox, InboxLiesIn, KeptEnd, LeavesBoxes, LeavesOthersBut, LinkState, List, Machine}
use Rattle.link_end.proofs.Words.{MayPass, Message, None, Option, Outbox, OutboxLeaves, PoolState, Queued, Session, ShdlcStandsFor, Some, StandsBefore, TooLong}
use Rattle.link_end.proofs.Words.{Up, [], after_input, ap, append-nil, arith, aside-with_used, aside_of, behind_front, blocks_for, came_whole, chain_bytes}
use Rattle.link_end.proofs.Words.{chain_in, drop, due_of, false, fragments_of, frame_due, frame_fetched, front_act, front_holds, got_chains, held_blocks}
use Rattle.link_end.proofs.Words.{held_both, is_open, kept_nearer, left_waiting, length, length-append, map, messages_of, messages_of_all, messages_under_way}
use Rattle.link_end.proofs.Words.{moved, next_frame, not, owner_at, refl, spare, subst, sum_by-cons, sym, true, used_of, waiting_in, whole_among, whole_few}
use Rattle.link_end.proofs.Words.{with_out, ℕ, ◌++◌, ◌+◌, ◌-◌, ◌<◌, ◌∙◌, ◌∷◌, ◌≡◌, ◌≤◌}
use Rattle.block_pool.specs.Pool.{spare_of}
use Rattle.block_pool.specs.Holdings.{all_blocks}
use Rattle.block_pool.proofs.HoldingLemmas.{all_pushed}
use Rattle.shdlc_core.specs.declared.answers.LinkState.TheVariants.{Waiting}
use Rattle.shdlc_core.specs.Machine.{fetched, fragment_due, is_waiting, no_session, put_out, reset_with}
use Rattle.shdlc_core.specs.Offering.{StandsWith}
use Rattle.shdlc_core.proofs.Offering.{stands_reset, stands_fetched, fetched_alike, stands_put}
use Rattle.hcp_packet.specs.Packets.{IsSendable, packet_bytes, packets_of}
use Rattle.link_laws.specs.machine.Machine.{Refused, give_refusal, given, in_use, nearer as due_nearer, need_of_all, turn, unless, window_of}
use Rattle.link_laws.specs.machine.Machine.Turn.{Give}
use Rattle.link_laws.specs.machine.Machine.LinkInput.{Reset}
use Rattle.link_messages.specs.Outgoing.{Accepts}
use Rattle.link_messages.proofs.Among.{whole-push, fragments-push}
use Rattle.link_end.proofs.EndLemmas.{session_ended, carries}
use Rattle.link_end.proofs.StepLemmas.{same_session}
use Rattle.link_end.proofs.BoxLemmas.{inbox_kept, inbox_passed, leaves_out}

-- ---- a reset

pub reset_closed : (m : Machine) (window : Option ℕ) → is_open m.role ≡ false → after_input m (Reset window) ≡ m
reset_closed m window o = rw o

pub reset_up : (m : Machine) (window : Option ℕ) → is_open m.role ≡ true → m.shdlc.phase ≡ Up
    → after_input m (Reset window) ≡ moved m true (reset_with m.shdlc (window_of m window))
reset_up m window o up = rw (o, up)

pub reset_down : (m : Machine) (window : Option ℕ) → is_open m.role ≡ true → m.shdlc.phase ≡ Down
    → after_input m (Reset window) ≡ moved m false (reset_with m.shdlc (window_of m window))
reset_down m window o down = rw (o, down)

reset_empty : (p : LinkState) (e : EndState) (w : ℕ) → (p ≡ Waiting → ⊥) → e.phase ≡ p → (reset_with e w).session ≡ no_session
reset_empty p e w other is = grind arith

waits_not : (p : LinkState) (e : EndState) → (p ≡ Waiting → ⊥) → e.phase ≡ p → is_waiting e ≡ false
waits_not p e other is = grind arith

-- the SHDLC end of a link end was reset, with a window that it can have
pub record HasReset (k : End) (pool : PoolState) (m : Machine) (s : KeptEnd) (window : Option ℕ) : Type 0 where
  pub before : EndStandsFor k pool m
  pub small : IfSome window (λ w. (1 ≤ w) × (w ≤ 4))
  pub stands : (e : EndState) → ShdlcStandsFor k.shdlc e → ShdlcStandsFor s (reset_with e (unwrap_or window e.own_window))

reset_link : {k : End} {pool : PoolState} {m : Machine} {s : KeptEnd} {window : Option ℕ} (p : LinkState) → HasReset k pool m s window → (p ≡ Waiting → ⊥)
    → m.shdlc.phase ≡ p → StandsBefore s [] (reset_with m.shdlc (window_of m window))
reset_link {k} {pool} {m} {s} {window} p h other is =
    let link = h.before.halfway.link in
    let next = stands_reset k.shdlc s (waiting_in pool k.outbox) m.shdlc (window_of m window) link (grind arith)
    (h.stands (with_out m.shdlc link.offered) link.kept) in
    let P : Bool → Type 0 = λ b. StandsBefore s (left_waiting (not b) (waiting_in pool k.outbox)) (reset_with m.shdlc (window_of m window)) in
    subst P (waits_not p m.shdlc other is) next

pub reset_ends : {k k1 : End} {pool new : PoolState} {m : Machine} {s : KeptEnd} {window : Option ℕ} → HasReset k pool m s window → m.shdlc.phase ≡ Up
    → ForgetsMessages pool new (record k { shdlc = s }) k1 → EndStandsFor k1 new (moved m true (reset_with m.shdlc (window_of m window)))
reset_ends {m = m} {window = window} h up f =
    let empty = reset_empty Up m.shdlc (window_of m window) (λ x. cc) up in
    session_ended (carries h.before.halfway) f (record {
      stands = reset_link Up h (λ x. cc) up;
      out = ap (λ (x : Session). x.out) empty;
      acked = ap (λ (x : Session). x.acked) empty;
      acc = ap (λ (x : Session). x.acc) empty;
    })

pub reset_begins : {k : End} {pool : PoolState} {m : Machine} {s : KeptEnd} {window : Option ℕ} → HasReset k pool m s window → m.shdlc.phase ≡ Down
    → Halfway (record k { shdlc = s }) pool (moved m false (reset_with m.shdlc (window_of m window)))
reset_begins {k} {pool} {m} {s} {window} h down =
    let link = h.before.halfway.link in
    let e = reset_with m.shdlc (window_of m window) in
    let same : e.session ≡ m.shdlc.session = (reset_empty Down m.shdlc (window_of m window) (λ x. cc) down) ∙ sym (grind arith) in
    same_session h.before.halfway (subst (λ l. StandsBefore s l e) (sym (grind arith)) (reset_link Down h (λ x. cc) down))
    (ap (λ (x : Session). x.out) same) (ap (λ (x : Session). x.acked) same) (ap (λ (x : Session). x.acc) same)

-- ---- a message is fetched

pub fetched_lies : (pool : PoolState) (old new : Inbox) → InboxLiesIn pool old → new.joiner ≡ old.joiner → new.got ≡ None → InboxLiesIn pool new
fetched_lies pool old new lies same none =
    let xs = old.joiner.open.items in
    subst (λ b. InboxLiesIn pool b) (sym (ap (λ g. record new { got = g }) none ∙ ap (λ j. record { joiner = j; got = None }) same)) (record {
      holds = subst (HoldsChains pool old.joiner.owner) (sym (append-nil xs)) (front_holds pool old.joiner.owner xs old.got lies.holds);
      has_quota = lies.has_quota;
      quota = lies.quota;
      used = (let n = ap (held_blocks pool) (append-nil xs) in omega (arith, n, held_both pool xs (got_chains old.got), lies.used));
    })

pub message_fetched : (pool : PoolState) (k : End) (inbox : Inbox) (m : Machine) → inbox.joiner ≡ k.inbox.joiner → inbox.got ≡ None → EndStandsFor k pool m
    → EndStandsFor (record k { inbox = inbox }) pool (record m { got = drop 1 m.got })
message_fetched pool k inbox m same none h =
    let before = h.halfway in
    record {
      halfway = record {
        role = before.role;
        link = before.link;
        acts = before.acts;
        sends = before.sends;
        receives = record {
          lies = fetched_lies pool k.inbox inbox before.receives.lies same none;
          under = grind arith;
          sound = before.receives.sound;
        };
        got = ap (λ g. messages_of pool (got_chains g)) none ∙ ((grind arith) ∙ ap (drop 1) before.got);
        aside = before.aside;
        passed_over = before.passed_over;
        differ = λ d. before.differ (d ∙ ap (λ j. j.owner) same);
      };
      full = h.full;
    }

-- ---- a frame is fetched

nearer_same : (xs : List ActDue) → map due_of (map kept_nearer xs) ≡ map due_nearer (map due_of xs)
nearer_same [] = refl
nearer_same (x ∷ xs) = ap (λ (l : List Due). record { frame = x.frame; behind = x.behind - 1 } ∷ l) (nearer_same xs)

-- an ACT frame is next
act_next : (m : Machine) (xs : List ActDue) (act : Act) → Some act ≡ front_act xs
    → (next_frame (record m { acts = map due_of xs }) ≡ Some (ActFrame act false))
    × (frame_fetched (record m { acts = map due_of xs }) ≡ record m { acts = map due_of (behind_front xs) })
act_next m xs act is = grind arith

-- none is
link_next : (m : Machine) (xs : List ActDue) → None ≡ front_act xs
    → (next_frame (record m { acts = map due_of xs }) ≡ frame_due m.shdlc)
    × (frame_fetched (record m { acts = map due_of xs }) ≡ record m { shdlc = fetched m.shdlc; acts = map due_nearer (map due_of xs) })
    × (behind_front xs ≡ xs)
link_next m xs is = grind arith

pub act_sent : (pool : PoolState) (k : End) (acts : ArrayVec ActDue) (m : Machine) (act : Act) → EndStandsFor k pool m
    → Some act ≡ front_act k.acts.items → acts.items ≡ behind_front k.acts.items
    → (Some (ActFrame act false) ≡ next_frame m) × EndStandsFor (record k { acts = acts }) pool (frame_fetched m)
act_sent pool k acts m act h front rest =
    let n = act_next m k.acts.items act front in
    let is : record m { acts = map due_of k.acts.items } ≡ m = ap (λ a. record m { acts = a }) h.halfway.acts in
    let P : Machine → Type 0 = λ x. EndStandsFor (record k { acts = acts }) pool x in (
      sym (sym (ap next_frame is) ∙ n.0),
      subst P (sym n.1 ∙ ap frame_fetched is) (record {
        halfway = grind arith;
        full = h.full;
      }),
    )

-- the next frame of a link end is that of its SHDLC end, where no ACT frame is next
pub link_frame : {pool : PoolState} {k : End} {m : Machine} {frame : Option Control} → EndStandsFor k pool m → None ≡ front_act k.acts.items
    → ((e : EndState) → ShdlcStandsFor k.shdlc e → frame ≡ frame_due e) → frame ≡ next_frame m
link_frame {pool} {k} {m} h front frame =
    let link = h.halfway.link in
    let is : record m { acts = map due_of k.acts.items } ≡ m = ap (λ a. record m { acts = a }) h.halfway.acts in
    let a = fetched_alike m.shdlc link.offered (waiting_in pool k.outbox) link.out link.narrow.session h.full in
    frame (with_out m.shdlc link.offered) link.kept ∙ (a.frame ∙ sym (sym (ap next_frame is) ∙ (link_next m k.acts.items front).0))

-- the SHDLC end of a link end sent its next frame, where no ACT frame is next
pub record HasFetchedFrame (k : End) (s : KeptEnd) (acts : ArrayVec ActDue) : Type 0 where
  pub front : None ≡ front_act k.acts.items
  pub nearer : acts.items ≡ map kept_nearer (behind_front k.acts.items)
  pub stands : (e : EndState) → ShdlcStandsFor k.shdlc e → ShdlcStandsFor s (fetched e)

pub link_fetched : {pool : PoolState} {k : End} {s : KeptEnd} {acts : ArrayVec ActDue} {m : Machine} → EndStandsFor k pool m
    → HasFetchedFrame k s acts → EndStandsFor (record k { shdlc = s; acts = acts }) pool (frame_fetched m)
link_fetched {pool} {k} {s} {acts} {m} h f =
    let before = h.halfway in
    let link = before.link in
    let both : StandsWith k.shdlc (waiting_in pool k.outbox) m.shdlc = record { stands = link; full = h.full } in
    let n = link_next m k.acts.items f.front in
    let P : Machine → Type 0 = λ x. EndStandsFor (record k { shdlc = s; acts = acts }) pool x in
    let a = fetched_alike m.shdlc link.offered (waiting_in pool k.outbox) link.out link.narrow.session h.full in
    let w = stands_fetched k.shdlc s (waiting_in pool k.outbox) m.shdlc both (f.stands (with_out m.shdlc link.offered) link.kept) in
    let acc : (fetched m.shdlc).session.acc ≡ m.shdlc.session.acc = let h0 = fragment_due m.shdlc.session in grind arith in
    let sent = same_session before w.stands a.out a.acked acc in
    subst P (sym n.1 ∙ ap frame_fetched (ap (λ a. record m { acts = a }) before.acts)) (record {
      halfway = record {
        role = sent.role;
        link = w.stands;
        acts = ap (map due_of) (f.nearer ∙ ap (map kept_nearer) n.2) ∙ nearer_same k.acts.items;
        sends = sent.sends;
        receives = sent.receives;
        got = sent.got;
        aside = sent.aside;
        passed_over = sent.passed_over;
        differ = sent.differ;
      };
      full = w.full;
    })

-- ---- a message is given

-- what the messages need are the blocks that they use
needs : (pool : PoolState) (queue : List Queued) → need_of_all (messages_of_all pool queue) ≡ all_blocks Queued chain_in pool queue
needs pool [] = refl
needs pool (q ∷ queue) =
    ap (λ n. blocks_for (length (chain_bytes pool q.chain)) + n) (needs pool queue)
    ∙ sym (sum_by-cons (λ (x : Queued). blocks_for (length (chain_bytes pool x.chain))) q queue)

pub spare_is : (pool : PoolState) (k : End) (m : Machine) → EndStandsFor k pool m → spare m ≡ spare_of pool k.outbox.owner
spare_is pool k m h =
    let sends = h.halfway.sends in
    let used : in_use m ≡ all_blocks Queued chain_in pool k.outbox.queue.items = sym (ap need_of_all sends.messages) ∙ needs pool k.outbox.queue.items in
    omega (arith, used, h.halfway.aside, sends.lies.kept.used, sends.lies.kept.quota)

pub refused_long : (m : Machine) (x : Message) → m.shdlc.phase ≡ Up → 4096 < length x.1 → give_refusal m x ≡ Some (TooLong (length x.1))
refused_long m x up long = let t = lt-ltb 4096 (length x.1) long in rw (up, t)

pub refused_full : (m : Machine) (x : Message) → m.shdlc.phase ≡ Up → length x.1 ≤ 4096 → (blocks_for (length x.1) ≤ spare m → ⊥)
    → give_refusal m x ≡ Some (Full (blocks_for (length x.1)) (spare m))
refused_full m x up short full = grind arith

pub refused_none : (m : Machine) (x : Message) → m.shdlc.phase ≡ Up → length x.1 ≤ 4096 → blocks_for (length x.1) ≤ spare m → give_refusal m x ≡ None
refused_none m x up short room = grind arith

pub refusal_stays : (m : Machine) (x : Message) (why : Refused) → give_refusal m x ≡ Some why → turn m (Give x) ≡ m
refusal_stays m x why e = ap (λ o. unless o m (given m x)) e

pub gives : (m : Machine) (x : Message) → give_refusal m x ≡ None → turn m (Give x) ≡ given m x
gives m x e = ap (λ o. unless o m (given m x)) e

-- an end whose link is up has accepted a message
pub record HasAccepted (old new : PoolState) (k : End) (box : Outbox) (m : Machine) (x : Message) : Type 0 where
  pub before : EndStandsFor k old m
  pub up : k.shdlc.phase ≡ Up
  pub sendable : IsSendable x
  pub accepts : Accepts old new k.outbox box x

-- it stands for the state after, where what comes and what is set aside are as before
accepted_stands : {old new : PoolState} {k : End} {box : Outbox} {m : Machine} {x : Message} → HasAccepted old new k box m x → InboxLiesIn new k.inbox
    → messages_under_way new k.inbox ≡ messages_under_way old k.inbox → came_whole new k.inbox ≡ came_whole old k.inbox
    → aside_of new k.outbox.owner ≡ aside_of old k.outbox.owner → Halfway (record k { outbox = box }) new (given m x)
accepted_stands {old} {new} {k} {box} {m} {x} h lies under got aside =
    let before = h.before.halfway in
    let a = h.accepts in
    let link = before.link in
    let sends = before.sends in
    let n = m.shdlc.session.acked in
    let len : length (fragments_of m.sent) ≡ length link.offered + length (waiting_in old k.outbox) = ap length (sym sends.out ∙ link.out)
    ∙ length-append link.offered (waiting_in old k.outbox) in
    let push = whole-push m.sent x n h.sendable (omega (arith, len, link.kept.sender.offered)) in
    record {
      role = before.role;
      link = subst (λ w. StandsBefore k.shdlc w (put_out m.shdlc (map packet_bytes (packets_of x.0 x.1)))) (sym a.waiting)
          (stands_put k.shdlc (waiting_in old k.outbox) (map packet_bytes (packets_of x.0 x.1)) m.shdlc (sym link.kept.phase ∙ h.up) link);
      acts = before.acts;
      sends = record {
        lies = a.lies;
        all = all_pushed Message IsSendable m.sent x sends.all h.sendable;
        out = ap (λ l. l ++ map packet_bytes (packets_of x.0 x.1)) sends.out ∙ sym (fragments-push m.sent x);
        messages = a.messages ∙ (ap (λ (l : List Message). l ++ x ∷ []) sends.messages
            ∙ (sym (drop-append-le (whole_among m.sent n) m.sent (x ∷ []) (whole_few m.sent n)) ∙ ap (λ w. drop w (m.sent ++ x ∷ [])) (sym push.0)));
        acked = a.acked ∙ (sends.acked ∙ sym push.1);
      };
      receives = record { lies = lies; under = under ∙ before.receives.under; sound = before.receives.sound };
      got = got ∙ before.got;
      aside = ap (aside_of new) a.owner ∙ (aside ∙ before.aside);
      passed_over = before.passed_over;
      differ = λ d. before.differ (sym a.owner ∙ d);
    }

pub message_given : {old new : PoolState} {k : End} {box : Outbox} {m : Machine} {x : Message} → HasAccepted old new k box m x
    → OutboxLeaves old new k.outbox.owner k.outbox.queue.items box.queue.items
    → Halfway (record k { outbox = box }) new (given m x) × LeavesBoxes old new k.outbox k.inbox box k.inbox
message_given {old} {new} {k} {box} h leaves =
    let before = h.before.halfway in
    let o = k.outbox.owner in
    let kept = before.sends.lies.kept in
    let i = inbox_kept old new o k.outbox.queue.items box.queue.items k.inbox kept.own leaves before.receives.lies before.differ in
    let aside : aside_of new o ≡ aside_of old o = ap (λ os. (owner_at os o).aside) leaves.owners
    ∙ aside-with_used old.owners o (used_of new o) kept.has_quota in
    (accepted_stands h i.lies i.under i.got aside, leaves_out old new k.outbox box k.inbox leaves h.accepts.owner i)

-- a message in a chain of another owner
pub message_passed : {old new : PoolState} {k : End} {box : Outbox} {chain : Chain} {m : Machine} {x : Message} → HasAccepted old new k box m x
    → MayPass old k chain → LeavesOthersBut old new k.outbox.owner chain k.outbox.queue.items box.queue.items
    → Halfway (record k { outbox = box }) new (given m x)
message_passed h may leaves = let i = inbox_passed h.before.halfway may leaves in accepted_stands h i.0 i.1 i.2 leaves.aside
