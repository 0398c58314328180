-- What parts of a step leave of a link end.
use Rattle.link_end.proofs.Words.{Act, ActDue, ArrayVec, Cause, Due, End, EndStandsFor, EndState, ForgetsMessages, Fragment, Halfway, Inbox, InboxLeaves}
use Rattle.link_end.proofs.Words.{InboxLiesIn, KeptEnd, LinkReport, List, Machine, None, Option, Outbox, OutboxLeaves, OutboxLiesIn, PoolState, Role}
use Rattle.link_end.proofs.Words.{ShdlcStandsFor, Some, StandsBefore, Up, [], act_told, activated, ap, arith, aside-with_used, aside_of, came_whole, chains_in}
use Rattle.link_end.proofs.Words.{drop, due_of, fragments_of, held_blocks, if◌then◌else◌, inl, inr, kept_in_front, length, map, messages_of_all}
use Rattle.link_end.proofs.Words.{min, moved, nothing_told, owner_at, put_down, queued_messages, refl, role_of, stopped, subst, sym, true}
use Rattle.link_end.proofs.Words.{used_of, waiting_in, with_act, with_out, ℕ, ◌++◌, ◌+◌, ◌-◌, ◌<◌, ◌∙◌, ◌∷◌, ◌≡◌, ◌≢◌, ◌⊎◌}
use Rattle.std.proofs.lemmas.List.{map_push}
use Rattle.shdlc_core.specs.Machine.{offered}
use Rattle.shdlc_core.proofs.Offering.{stands_offered, stands_idle, stands_stopped}
use Rattle.swp_base.specs.declared.link_terms.Cause.TheVariants.{Act as ByAct}
use Rattle.swp_act.specs.declared.ActEvent.{ActEvent}
use Rattle.swp_act.specs.declared.ActOut.{ActOut}
use Rattle.link_laws.specs.machine.Machine.{act_answer, if_up, role_after, in_front as due_in_front}
use Rattle.link_end.proofs.BoxLemmas.{inbox_kept, outbox_kept, leaves_out, leaves_in, leaves_more}
use Rattle.link_end.specs.declared.activation.Activation.{Activation}

-- ---- offering what waits

-- how far the fragments that wait were offered
pub record Refills (pool : PoolState) (before box : End) : Type 0 where
  pub lies : OutboxLiesIn pool box.outbox
  pub stands : (m : Machine) → Halfway before pool m → Halfway box pool m
  pub queue : box.outbox.queue ≡ before.outbox.queue
  pub owner : box.outbox.owner ≡ before.outbox.owner
  pub inbox : box.inbox ≡ before.inbox
  pub acts : box.acts ≡ before.acts

pub refills_none : (pool : PoolState) (k : End) → OutboxLiesIn pool k.outbox → Refills pool k k
refills_none pool k lies = record { lies = lies; stands = λ m h. h; queue = refl; owner = refl; inbox = refl; acts = refl }

-- one more was offered: the first fragment that waits was cut, and the SHDLC end, which has room for it, has taken it
pub record HasOffered (pool : PoolState) (k : End) (s : KeptEnd) (box : Outbox) (info : Fragment) : Type 0 where
  pub waits : waiting_in pool k.outbox ≡ info ∷ waiting_in pool box
  pub cut : box ≡ record k.outbox { cut = k.outbox.cut + 1; left = k.outbox.left - 1 }
  pub lies : OutboxLiesIn pool box
  pub up : k.shdlc.phase ≡ Up
  pub room : length k.shdlc.sender.queue < 4
  pub stands : (e : EndState) → ShdlcStandsFor k.shdlc e → ShdlcStandsFor s (offered e info)

offered_one : {pool : PoolState} {k : End} {s : KeptEnd} {box : Outbox} {info : Fragment} {m : Machine} → HasOffered pool k s box info → Halfway k pool m
    → Halfway (record k { shdlc = s; outbox = box }) pool m
offered_one {pool} {k} {s} {box} {info} {m} o h =
    let link : StandsBefore k.shdlc (info ∷ waiting_in pool box) m.shdlc = subst (λ w. StandsBefore k.shdlc w m.shdlc) o.waits h.link in
    let owner = ap (λ (b : Outbox). b.owner) o.cut in
    record {
      role = h.role;
      link = stands_offered k.shdlc s info (waiting_in pool box) m.shdlc link o.up o.room (o.stands (with_out m.shdlc link.offered) link.kept);
      acts = h.acts;
      sends = grind arith;
      receives = h.receives;
      got = h.got;
      aside = ap (aside_of pool) owner ∙ h.aside;
      passed_over = h.passed_over;
      differ = λ e. h.differ (sym owner ∙ e);
    }

pub refills_more : {pool : PoolState} {before k : End} {s : KeptEnd} {box : Outbox} {info : Fragment} → HasOffered pool k s box info → Refills pool before k
    → Refills pool before (record k { shdlc = s; outbox = box })
refills_more o r = record {
  lies = o.lies;
  stands = λ m h. offered_one o (r.stands m h);
  queue = ap (λ (b : Outbox). b.queue) o.cut ∙ r.queue;
  owner = ap (λ (b : Outbox). b.owner) o.cut ∙ r.owner;
  inbox = r.inbox;
  acts = r.acts;
}

-- there is no room, or no session
pub refilled : (pool : PoolState) (k : End) (m : Machine) → (k.shdlc.phase ≢ Up) ⊎ (length k.shdlc.sender.queue ≡ 4) → Halfway k pool m → EndStandsFor k pool m
refilled pool k m (inl idle) h = record { halfway = h; full = inl (stands_idle k.shdlc (waiting_in pool k.outbox) m.shdlc h.link idle) }
refilled pool k m (inr four) h = record { halfway = h; full = inr (h.link.kept.sender.offered ∙ ap (λ n. m.shdlc.session.acked + n) four) }

-- the fragments that wait were offered, where some do
pub record IsRefilled (old new : PoolState) (k box : End) : Type 0 where
  pub stands : (m : Machine) → Halfway k old m → EndStandsFor box new m
  pub queue : box.outbox.queue ≡ k.outbox.queue
  pub owner : box.outbox.owner ≡ k.outbox.owner
  pub inbox : box.inbox ≡ k.inbox
  pub pool : new ≡ old

-- nothing waits
pub refilled_none : (pool : PoolState) (k : End) → (OutboxLiesIn pool k.outbox → waiting_in pool k.outbox ≡ []) → IsRefilled pool pool k k
refilled_none pool k none = record {
  stands = λ m h. record { halfway = h; full = inl (none h.sends.lies) };
  queue = refl;
  owner = refl;
  inbox = refl;
  pool = refl;
}

-- ---- forgetting

-- the messages that were to be sent are gone
pub record HasClearedOutbox (old new : PoolState) (before box : Outbox) : Type 0 where
  pub lies : OutboxLiesIn new box
  pub empty : box.queue.items ≡ []
  pub places : (box.acked ≡ 0) × (box.cut ≡ 0)
  pub owner : box.owner ≡ before.owner
  pub elsewhere : OutboxLeaves old new before.owner before.queue.items []

-- the messages under way are gone, and the one that came whole is still there
pub record HasClearedInbox (old new : PoolState) (before box : Inbox) : Type 0 where
  pub lies : InboxLiesIn new box
  pub empty : box.joiner.open.items ≡ []
  pub got : box.got ≡ before.got
  pub owner : box.joiner.owner ≡ before.joiner.owner
  pub message : came_whole new box ≡ came_whole old before
  pub counted : used_of new before.joiner.owner + held_blocks old (chains_in before) ≡ used_of old before.joiner.owner + held_blocks new (chains_in box)
  pub elsewhere : InboxLeaves old new before.joiner.owner (chains_in before) (chains_in box)

pub forgotten : {old mid new : PoolState} {k : End} {box : Outbox} {inbox : Inbox} {acts : ArrayVec ActDue} → OutboxLiesIn old k.outbox
    → InboxLiesIn old k.inbox → k.outbox.owner ≢ k.inbox.joiner.owner → HasClearedOutbox old mid k.outbox box → HasClearedInbox mid new k.inbox inbox
    → acts.items ≡ map kept_in_front k.acts.items → ForgetsMessages old new k (record k { outbox = box; inbox = inbox; acts = acts })
forgotten {old} {mid} {new} {k} {box} {inbox} sends receives differ out come moved =
    let sender = k.outbox.owner in
    let receiver = k.inbox.joiner.owner in
    let queue = k.outbox.queue.items in
    let i = inbox_kept old mid sender queue [] k.inbox sends.kept.own out.elsewhere receives differ in
    let o = outbox_kept mid new receiver (chains_in k.inbox) (chains_in inbox) box i.lies.holds.own come.elsewhere out.lies (λ e. differ (sym out.owner ∙ e)) in
    let aside : aside_of mid sender ≡ aside_of old sender = ap (λ os. (owner_at os sender).aside) out.elsewhere.owners
    ∙ aside-with_used old.owners sender (used_of mid sender) sends.kept.has_quota in
    record {
      activation = refl;
      shdlc = refl;
      passed_over = refl;
      acts = moved;
      sends = o.lies;
      none = out.empty;
      acked = out.places.0;
      cut = out.places.1;
      receives = come.lies;
      under = come.empty;
      kept = come.got;
      got = come.message ∙ i.got;
      aside = ap (aside_of new) (sym out.owner) ∙ (o.aside ∙ (ap (aside_of mid) out.owner ∙ aside));
      elsewhere = leaves_more
          (leaves_out old mid k.outbox box k.inbox (subst (λ l. OutboxLeaves old mid sender queue l) (sym out.empty) out.elsewhere) out.owner i)
          (leaves_in mid new box k.inbox inbox come.elsewhere come.owner come.counted);
    }

-- ---- a session that is over

pub front_same : (xs : List ActDue) → map due_of (map kept_in_front xs) ≡ map due_in_front (map due_of xs)
front_same [] = refl
front_same (x ∷ xs) = ap (λ (l : List Due). record { frame = x.frame; behind = 0 } ∷ l) (front_same xs)

-- what is no part of a session
pub record Carries (k : End) (pool : PoolState) (m : Machine) : Type 0 where
  pub role : role_of k.activation ≡ m.role
  pub acts : map due_of k.acts.items ≡ m.acts
  pub got : came_whole pool k.inbox ≡ m.got
  pub aside : aside_of pool k.outbox.owner ≡ m.aside
  pub passed_over : k.passed_over ≡ min m.passed_over 4294967295
  pub differ : k.outbox.owner ≢ k.inbox.joiner.owner

pub carries : {k : End} {pool : PoolState} {m : Machine} → Halfway k pool m → Carries k pool m
carries h = record { role = h.role; acts = h.acts; got = h.got; aside = h.aside; passed_over = h.passed_over; differ = h.differ }

-- an SHDLC end stands for a state that has nothing of a session
pub record HasNoSession (s : KeptEnd) (e : EndState) : Type 0 where
  pub stands : StandsBefore s [] e
  pub out : e.session.out ≡ []
  pub acked : e.session.acked ≡ 0
  pub acc : e.session.acc ≡ []

-- What is kept after the messages of a session were forgotten stands for an end whose SHDLC end has nothing of a session.
pub session_over : {old new : PoolState} {k k1 : End} {s0 s : KeptEnd} {m : Machine} {e : EndState} → Carries k old m
    → ForgetsMessages old new (record k { shdlc = s0 }) k1 → HasNoSession s e → EndStandsFor (record k1 { shdlc = s }) new (moved m true e)
session_over {new = new} {k = k} {k1 = k1} {s = s} {e = e} h f none =
    let messages : queued_messages new k1.outbox ≡ [] = ap (messages_of_all new) f.none in
    let waiting : waiting_in new k1.outbox ≡ [] = ap (λ n. drop n (fragments_of (queued_messages new k1.outbox))) f.cut ∙ ap (λ ms. fragments_of ms) messages in
    record {
      halfway = record {
        role = ap role_of f.activation ∙ h.role;
        link = subst (λ w. StandsBefore s w e) (sym waiting) none.stands;
        acts = ap (map due_of) f.acts ∙ (front_same k.acts.items ∙ ap (map due_in_front) h.acts);
        sends = grind arith;
        receives = grind arith;
        got = f.got ∙ h.got;
        aside = ap (aside_of new) f.elsewhere.sender ∙ (f.aside ∙ h.aside);
        passed_over = f.passed_over ∙ h.passed_over;
        differ = λ d. h.differ (sym f.elsewhere.sender ∙ (d ∙ f.elsewhere.receiver));
      };
      full = inl waiting;
    }

-- the same where the SHDLC end was left alone meanwhile
pub session_ended : {old new : PoolState} {k k1 : End} {s : KeptEnd} {m : Machine} {e : EndState} → Carries k old m
    → ForgetsMessages old new (record k { shdlc = s }) k1 → HasNoSession s e → EndStandsFor k1 new (moved m true e)
session_ended {e = e} h f none = session_over h f (subst (λ x. HasNoSession x e) (sym f.shdlc) none)

pub dropped : (pool : PoolState) (k : End) (s : KeptEnd) (acts : ArrayVec ActDue) (m : Machine)
    → ((e : EndState) → ShdlcStandsFor k.shdlc e → ShdlcStandsFor s (record e { due = [] }))
    → acts.items ≡ map kept_in_front k.acts.items → EndStandsFor k pool m
    → EndStandsFor (record k { shdlc = s; acts = acts }) pool (record m { shdlc = record m.shdlc { due = [] }; acts = map due_in_front m.acts })
dropped pool k s acts m drops moved_acts h =
    let before = h.halfway in
    record {
      halfway = record {
        role = before.role;
        link = (let l = before.link in
            let n = l.narrow in
            record {
              offered = l.offered;
              out = l.out;
              kept = drops (with_out m.shdlc l.offered) l.kept;
              narrow =
                  record { own = n.own; peer = n.peer; session = n.session };
              session = l.session;
            });
        acts = ap (map due_of) moved_acts ∙ (front_same k.acts.items ∙ ap (map due_in_front) before.acts);
        sends = before.sends;
        receives = before.receives;
        got = before.got;
        aside = before.aside;
        passed_over = before.passed_over;
        differ = before.differ;
      };
      full = h.full;
    }

pub act_made : (pool : PoolState) (k : End) (acts : ArrayVec ActDue) (frame : Act) (behind : ℕ) (m : Machine)
    → acts.items ≡ k.acts.items ++ record { frame = frame; behind = behind } ∷ []
    → behind ≡ length k.shdlc.due → EndStandsFor k pool m → EndStandsFor (record k { acts = acts }) pool (with_act (Some frame) m)
act_made pool k acts frame behind m pushed counted h =
    let before = h.halfway in
    let here : behind ≡ length m.shdlc.due = counted ∙ ap length before.link.kept.due in
    record {
      halfway = record {
        role = before.role;
        link = before.link;
        acts = ap (map due_of) pushed ∙ (map_push due_of k.acts.items (record { frame = frame; behind = behind })
            ∙ (grind arith));
        sends = before.sends;
        receives = before.receives;
        got = before.got;
        aside = before.aside;
        passed_over = before.passed_over;
        differ = before.differ;
      };
      full = h.full;
    }

-- another state of activation
pub with_role : (pool : PoolState) (k : End) (a : Activation) (m : Machine) (r : Role) → role_of a ≡ r → EndStandsFor k pool m
    → EndStandsFor (record k { activation = a }) pool (record m { role = r })
with_role pool k a m r is h =
    let before = h.halfway in
    record {
      halfway = grind arith;
      full = h.full;
    }

-- an end took an event of activation, and gave this answer
pub record HasStepped (k : End) (pool : PoolState) (m : Machine) (event : ActEvent) (a : Activation) (out : ActOut) : Type 0 where
  pub before : EndStandsFor k pool m
  pub role : role_of a ≡ role_after (role_of k.activation) event
  pub answer : out ≡ act_answer (role_of k.activation) event

pub stepped : {k : End} {pool : PoolState} {m : Machine} {event : ActEvent} {a : Activation} {out : ActOut} → HasStepped k pool m event a out
    → EndStandsFor (record k { activation = a }) pool (record m { role = role_after m.role event })
stepped {k} {pool} {m} {event} {a} s = with_role pool k a m (role_after m.role event) (s.role ∙ ap (λ x. role_after x event) s.before.halfway.role) s.before

step_answer : {k : End} {pool : PoolState} {m : Machine} {event : ActEvent} {a : Activation} {out : ActOut} → HasStepped k pool m event a out
    → out ≡ act_answer m.role event
step_answer {event = event} s = s.answer ∙ ap (λ x. act_answer x event) s.before.halfway.role

pub event_stands : {pool new : PoolState} {k k2 k3 : End} {a : Activation} {m : Machine} {event : ActEvent} {out : ActOut} → HasStepped k pool m event a out
    → ((x : Machine) → EndStandsFor (record k { activation = a }) pool x → EndStandsFor k2 new (put_down out.ended_link x))
    → ((p : PoolState) (x : Machine) → EndStandsFor k2 p x → EndStandsFor k3 p (with_act out.send x)) → EndStandsFor k3 new (activated m event)
event_stands {new = new} {k2 = k2} {k3 = k3} {m = m} {event = event} {out = out} s down made =
    let r = role_after m.role event in
    let Q : ActOut → Type 0 = λ o. EndStandsFor k3 new (with_act o.send (record (put_down o.ended_link m) { role = r })) in
    let h = subst (λ x. EndStandsFor k2 new x) (grind arith) (down (record m { role = r }) (stepped s)) in
    subst Q (step_answer s) (made new (record (put_down out.ended_link m) { role = r }) h)

pub stopped_before : {s s1 new : KeptEnd} {waiting : List Fragment} {e : EndState} → StandsBefore s waiting e → s1 ≡ s
    → ((x : EndState) → ShdlcStandsFor s1 x → ShdlcStandsFor new (stopped x)) → StandsBefore new [] (stopped e)
stopped_before {s} {s1} {new} {waiting} {e} h same stops =
    (stands_stopped s new waiting e h (stops (with_out e h.offered) (subst (λ x. ShdlcStandsFor x (with_out e h.offered)) (sym same) h.kept))).stands

pub event_told : {pool : PoolState} {k : End} {a : Activation} {m : Machine} {event : ActEvent} {out : ActOut} {ended : Option Cause} {nothing : LinkReport}
    → HasStepped k pool m event a out
    → ((x : Machine) → EndStandsFor (record k { activation = a }) pool x → ended ≡ (if out.ended_link then if_up x.shdlc ByAct else None))
    → nothing ≡ nothing_told
    → record nothing { ended = ended; became_active = out.became_active; sync = out.sync; gave_up = out.gave_up } ≡ act_told m event
event_told {m = m} {event = event} {out = out} {ended = ended} s cause none =
    let e = cause (record m { role = role_after m.role event }) (stepped s) in
    ap (λ (n : LinkReport). record n { ended = ended; became_active = out.became_active; sync = out.sync; gave_up = out.gave_up }) none
    ∙ (grind arith)
