-- What a frame of SHDLC does to a link end that is open.
use Rattle.std.specs.Prelude.{◌&&◌}
use Rattle.std.proofs.lemmas.List.{drop-drop}
use Rattle.std.proofs.lemmas.List.Elements.{filter_map-append}
use Rattle.std.proofs.Math.Seq.{drop-append_seam}
use Rattle.link_end.proofs.Words.{Bool, Cause, Control, End, EndStandsFor, EndState, ForgetsMessages, Fragment, Halfway, IfSome, Inbox, InboxLeaves}
use Rattle.link_end.proofs.Words.{InboxLiesIn, IsTrue, KeptEnd, LeavesBoxes, LinkReport, LinkState, List, Machine, MayTake, Message, None, Open, Option, Outbox}
use Rattle.link_end.proofs.Words.{OutboxLiesIn, PoolState, ReceivesOn, Session, ShdlcStandsFor, Some, StandsBefore, Up, [], ap, append-nil, arith}
use Rattle.link_end.proofs.Words.{aside-with_used, aside_of, came_whole, chains_in, drop, false, fragments_of, got_chains, heard, heard_told, held_blocks}
use Rattle.link_end.proofs.Words.{if◌then◌else◌, in_phase, inl, inr, is_some, left_waiting, length, length-append, length-drop, messages_of, messages_under_way}
use Rattle.link_end.proofs.Words.{moved, not, nothing_told, option_to_list, owner_at, packet_of, packets_in, put_down, queued_messages, refl, stopped, subst}
use Rattle.link_end.proofs.Words.{sym, take_answer, true, used_of, waiting_in, whole_among, with_out, ℕ, ◌++◌, ◌+◌, ◌-◌, ◌∙◌, ◌∷◌, ◌≡◌, ◌≤◌, ◌⊎◌}
use Rattle.swp_base.specs.declared.link_terms.Cause.TheVariants.{Chain}
use Rattle.shdlc_core.specs.declared.answers.Taken.{Taken}
use Rattle.shdlc_core.specs.Machine.{taken}
use Rattle.shdlc_core.proofs.Offering.{stands_taken, takes_on, TakesOn, brings_fragment}
use Rattle.hcp_packet.specs.Packets.{good_of}
use Rattle.hcp_chain.specs.Joining.{are_taken, given_by, open_after}
use Rattle.hcp_chain.proofs.ReadyLemmas.{open_after-append, given_by-append, are_taken-append}
use Rattle.link_laws.specs.machine.Machine.{is_faulty, messages_got, news}
use Rattle.link_messages.specs.Outgoing.{GivesBack, acked_more, rest_among}
use Rattle.link_messages.specs.Incoming.{IsInboxReady as InboxIsReady}
use Rattle.link_messages.proofs.Among.{whole-more, whole-length}
use Rattle.link_end.specs.Ends.{OutboxStandsFor}
use Rattle.link_end.specs.Received.{fragment_in}
use Rattle.link_end.proofs.EndLemmas.{Carries, carries, session_over, session_ended, stopped_before}
use Rattle.link_end.proofs.BoxLemmas.{OutboxKept, inbox_kept, outbox_kept, leaves_out, leaves_in, leaves_more}
use Rattle.link_laws.proofs.machine.Reports.{good-append, empty_news}
use Rattle.shdlc_core.proofs.OfferedFrames.{taken_alike}

-- ---- what came

packets-append : (xs ys : List Fragment) → packets_in (xs ++ ys) ≡ packets_in xs ++ packets_in ys
packets-append xs ys = filter_map-append packet_of xs ys

-- the messages that come with further fragments
pub news_is : (s : Session) (e : EndState) (more : List Fragment) → e.session.acc ≡ s.acc ++ more
    → news s e ≡ good_of (given_by (open_after [] (packets_in s.acc)) (packets_in more))
news_is s e more acc =
    let ps = packets_in s.acc in
    let qs = packets_in more in
    let all : messages_got e.session ≡ good_of (given_by [] ps) ++ good_of (given_by (open_after [] ps) qs) =
    ap (λ l. good_of (given_by [] (packets_in l))) acc ∙ (ap (λ l. good_of (given_by [] l)) (packets-append s.acc more)
    ∙ (ap good_of (given_by-append [] ps qs) ∙ good-append (given_by [] ps) (given_by (open_after [] ps) qs))) in
    ap (drop (length (messages_got s))) all ∙ drop-append_seam (good_of (given_by [] ps)) (good_of (given_by (open_after [] ps) qs))

-- whether their packets can all be joined
pub taken_is : (s : Session) (e : EndState) (more : List Fragment) → e.session.acc ≡ s.acc ++ more → are_taken [] (packets_in s.acc) ≡ true
    → are_taken [] (packets_in e.session.acc) ≡ are_taken (open_after [] (packets_in s.acc)) (packets_in more)
taken_is s e more acc sound =
    ap (λ l. are_taken [] (packets_in l)) acc ∙ (ap (are_taken []) (packets-append s.acc more)
    ∙ (are_taken-append [] (packets_in s.acc) (packets_in more) ∙ ap (λ b. b && are_taken (open_after [] (packets_in s.acc)) (packets_in more)) sound))

pub under_is : (s : Session) (e : EndState) (more : List Fragment) → e.session.acc ≡ s.acc ++ more
    → open_after [] (packets_in e.session.acc) ≡ open_after (open_after [] (packets_in s.acc)) (packets_in more)
under_is s e more acc =
    ap (λ l. open_after [] (packets_in l)) acc ∙ (ap (open_after []) (packets-append s.acc more) ∙ open_after-append [] (packets_in s.acc) (packets_in more))

drop_of_none : (n : ℕ) → drop n (let l : List Message = [] in l) ≡ []
drop_of_none n = grind arith

-- ---- the SHDLC end

abbrev pub ended_in : Machine → Control → Bool
ended_in m c = is_some (take_answer m.shdlc c).ended

-- the SHDLC end of a link end took a frame, and answered this
pub record HasTaken (k : End) (pool : PoolState) (m : Machine) (c : Control) (s : KeptEnd) (t : Taken) : Type 0 where
  pub before : EndStandsFor k pool m
  pub stands : (e : EndState) → ShdlcStandsFor k.shdlc e → ShdlcStandsFor s (taken e c)
  pub answer : (e : EndState) → ShdlcStandsFor k.shdlc e → t ≡ take_answer e c

module _ {k : End} {pool : PoolState} {m : Machine} {c : Control} {s : KeptEnd} {t : Taken} (h : HasTaken k pool m c s t) where
  took_answer : t ≡ take_answer m.shdlc c
  took_answer =
      let link = h.before.halfway.link in
      h.answer (with_out m.shdlc link.offered) link.kept ∙ (taken_alike m.shdlc link.offered c).answer

  -- whether it ended the session
  ended_by : {b : Bool} → is_some t.ended ≡ b → ended_in m c ≡ b
  ended_by ended = sym (ap (λ (x : Taken). is_some x.ended) took_answer) ∙ ended

  -- what the SHDLC end stands for then
  took_link : {b : Bool} → ended_in m c ≡ b → StandsBefore s (left_waiting b (waiting_in pool k.outbox)) (taken m.shdlc c)
  took_link over =
      let link = h.before.halfway.link in
      subst (λ w. StandsBefore s w (taken m.shdlc c)) (grind arith)
      (stands_taken k.shdlc s (waiting_in pool k.outbox) m.shdlc c link (h.stands (with_out m.shdlc link.offered) link.kept))

-- ---- a session that the frame ends

pub heard-over : (m : Machine) (c : Control) → ended_in m c ≡ true → (taken m.shdlc c).session.acc ≡ [] → heard m c ≡ moved m true (taken m.shdlc c)
heard-over m c over acc =
    let e = taken m.shdlc c in
    let faulty : is_faulty e.session ≡ false = ap (λ l. not (are_taken [] (packets_in l))) acc in
    ap (λ b. if b then put_down true m else record (moved m (ended_in m c) e) { got = m.got ++ news m.shdlc.session e }) faulty
    ∙ (ap (λ b. record (moved m b e) { got = m.got ++ news m.shdlc.session e }) over
    ∙ (ap (λ l. record (moved m true e) { got = m.got ++ l }) (empty_news m.shdlc.session e acc)
    ∙ ap (λ l. record (moved m true e) { got = l }) (append-nil m.got)))

pub over_acc : (m : Machine) (c : Control) → TakesOn m.shdlc c → ended_in m c ≡ true → (taken m.shdlc c).session.acc ≡ []
over_acc m c on over = on.acc ∙ ap (λ b. left_waiting b (m.shdlc.session.acc ++ option_to_list (take_answer m.shdlc c).accepted)) over

module _ {k : End} {pool : PoolState} {m : Machine} {c : Control} {s : KeptEnd} {t : Taken} (h : HasTaken k pool m c s t) where
  pub over_stands : {k1 : End} {new : PoolState} → is_some t.ended ≡ true → ForgetsMessages pool new (record k { shdlc = s }) k1
      → EndStandsFor k1 new (heard m c)
  over_stands {k1} {new} ended f =
      let on = takes_on m.shdlc c h.before.halfway.link.session in
      let over = ended_by h ended in
      let acc = over_acc m c on over in
      subst (λ x. EndStandsFor k1 new x) (sym (heard-over m c over acc)) (session_ended (carries h.before.halfway) f (record {
        stands = took_link h over;
        out = on.out ∙ ap (λ b. left_waiting b m.shdlc.session.out) over;
        acked = on.acked ∙ ap (λ b. if b then 0 else m.shdlc.session.acked + (take_answer m.shdlc c).acked) over;
        acc = acc;
      }))

  pub over_told : {n : LinkReport} → is_some t.ended ≡ true → n ≡ nothing_told → record n { ended = t.ended; began = t.began } ≡ heard_told m c
  over_told ended none =
      let e = taken m.shdlc c in
      let over = ended_by h ended in
      let acc = over_acc m c (takes_on m.shdlc c h.before.halfway.link.session) over in
      ap (λ (x : LinkReport). record x { ended = t.ended; began = t.began }) none
      ∙ (ap (λ (x : Taken). record nothing_told { ended = x.ended; began = x.began }) (took_answer h)
      ∙ sym (grind arith))

-- ---- what is acknowledged

-- so many more fragments are acknowledged, and the messages that are acknowledged whole were given back
pub record HasAcknowledged (old new : PoolState) (box after : Outbox) (count whole : ℕ) : Type 0 where
  pub gives : GivesBack old new (acked_more box count) after whole
  pub all : whole_among (queued_messages new after) after.acked ≡ 0
  pub rest : rest_among (queued_messages new after) after.acked ≡ after.acked

-- more of what is sent is acknowledged
sends_on : {old new : PoolState} {box after : Outbox} {sent : List Message} {s s' : Session} {count whole : ℕ} → OutboxStandsFor old box sent s
    → HasAcknowledged old new box after count whole → s'.out ≡ s.out → s'.acked ≡ s.acked + count
    → OutboxStandsFor new after sent s' × (whole_among sent s'.acked ≡ whole_among sent s.acked + whole)
sends_on {old} {new} {box} {after} {sent} {s} {s'} {count} {whole} o a same_out counted =
    let g = a.gives in
    let w = whole_among sent s.acked in
    let more = whole-more sent s.acked count in
    let left : whole_among (queued_messages old box) (box.acked + count) ≡ whole_among (drop w sent) (rest_among sent s.acked + count) = grind arith in
    let among : whole_among sent s'.acked ≡ w + whole = ap (whole_among sent) counted ∙ omega (arith, more.0, left, g.among, a.all) in (
      record {
        lies = g.lies;
        all = o.all;
        out = same_out ∙ o.out;
        messages = g.messages ∙ (ap (drop whole) o.messages ∙ (drop-drop whole w sent ∙ ap (λ n. drop n sent) (sym among)));
        acked = sym a.rest ∙ (g.rest ∙ ((grind arith) ∙ (sym more.1 ∙ ap (rest_among sent) (sym counted))));
      },
      among,
    )

-- all that is acknowledged was cut
pub cut_enough : {k : End} {pool : PoolState} {m : Machine} {c : Control} {s : KeptEnd} {t : Taken} → HasTaken k pool m c s t → is_some t.ended ≡ false
    → k.outbox.acked + t.acked ≤ k.outbox.cut
cut_enough {k} {pool} {m} {c} {t = t} h going =
    let sends = h.before.halfway.sends in
    let link = h.before.halfway.link in
    let on = takes_on m.shdlc c link.session in
    let is = took_answer h in
    let over = ended_by h going in
    let next = took_link h over in
    let acked : (taken m.shdlc c).session.acked ≡ m.shdlc.session.acked + t.acked = grind arith in
    let out : (taken m.shdlc c).session.out ≡ fragments_of m.sent = on.out ∙ (ap (λ b. left_waiting b m.shdlc.session.out) over ∙ sends.out) in
    let len_now : length (fragments_of m.sent) ≡ length next.offered + length (waiting_in pool k.outbox) = ap length (sym out ∙ next.out)
    ∙ length-append next.offered (waiting_in pool k.outbox) in
    let len_old : length (fragments_of m.sent) ≡ length link.offered + length (waiting_in pool k.outbox) = ap length (sym sends.out ∙ link.out)
    ∙ length-append link.offered (waiting_in pool k.outbox) in
    let waits : length (waiting_in pool k.outbox) ≡ length (fragments_of (queued_messages pool k.outbox)) - k.outbox.cut =
    length-drop k.outbox.cut (fragments_of (queued_messages pool k.outbox)) in
    let whole = whole-length m.sent m.shdlc.session.acked (omega (arith, len_old, link.kept.sender.offered)) in
    let left : length (fragments_of (queued_messages pool k.outbox)) ≡ length
    (fragments_of (drop (whole_among m.sent m.shdlc.session.acked) m.sent)) = grind arith in
    omega (arith, acked, len_now, next.kept.sender.offered, waits, whole.0, whole.1, left, sends.lies.cut, sends.acked)

-- ---- a session that goes on

pub heard-on : (m : Machine) (c : Control) → ended_in m c ≡ false → is_faulty (taken m.shdlc c).session ≡ false
    → heard m c ≡ record (moved m false (taken m.shdlc c)) { got = m.got ++ news m.shdlc.session (taken m.shdlc c) }
heard-on m c over faulty = grind arith

-- the fragments that the frame brought
abbrev pub brought : Taken → List Fragment
brought t = option_to_list t.accepted

pub record GoesOn (old new : PoolState) (k : End) (m : Machine) (c : Control) (s : KeptEnd) (t : Taken) (inbox : Inbox) (outbox : Outbox)
    (whole : ℕ) : Type 0 where
  pub stands : Halfway (record k { shdlc = s; outbox = outbox; inbox = inbox }) new (heard m c)
  pub told : (n : LinkReport) → n ≡ nothing_told → k.inbox.got ≡ None → record n { began = t.began; acked = whole; got = is_some inbox.got } ≡ heard_told m c
  pub elsewhere : LeavesBoxes old new k.outbox k.inbox outbox inbox

pub goes_on : {old mid new : PoolState} {k : End} {m : Machine} {c : Control} {s : KeptEnd} {t : Taken} {inbox : Inbox} {outbox : Outbox} {whole : ℕ}
    → HasTaken k old m c s t → is_some t.ended ≡ false → IsTrue (are_taken (messages_under_way old k.inbox) (packets_in (brought t)))
    → ReceivesOn old mid k.inbox inbox (brought t) → HasAcknowledged mid new k.outbox outbox t.acked whole
    → GoesOn old new k m c s t inbox outbox whole
goes_on {old} {mid} {new} {k} {m} {c} {s} {t} {inbox} {outbox} {whole} h going joined r a =
    let before = h.before.halfway in
    let g = a.gives in
    let e = taken m.shdlc c in
    let on = takes_on m.shdlc c before.link.session in
    let is = took_answer h in
    let over = ended_by h going in
    let acc : e.session.acc ≡ m.shdlc.session.acc ++ brought t = grind arith in
    let acked : e.session.acked ≡ m.shdlc.session.acked + t.acked = grind arith in
    let out : e.session.out ≡ m.shdlc.session.out = on.out ∙ ap (λ b. left_waiting b m.shdlc.session.out) over in
    let under = before.receives.under in
    let all_taken : are_taken (messages_under_way old k.inbox) (packets_in (brought t)) ≡ true = grind arith in
    let sound : are_taken [] (packets_in e.session.acc) ≡ true =
    taken_is m.shdlc.session e (brought t) acc before.receives.sound ∙ (ap (λ u. are_taken u (packets_in (brought t))) (sym under) ∙ all_taken) in
    let faulty : is_faulty e.session ≡ false = ap not sound in
    let new_ones = news_is m.shdlc.session e (brought t) acc in
    let o = outbox_kept old mid k.inbox.joiner.owner (chains_in k.inbox)
    (chains_in inbox) k.outbox before.receives.lies.holds.own r.elsewhere before.sends.lies before.differ in
    let i =
    inbox_kept mid new k.outbox.owner k.outbox.queue.items outbox.queue.items inbox o.lies.kept.own g.elsewhere r.lies (λ d. before.differ (d ∙ r.owner)) in
    let kept : OutboxStandsFor mid k.outbox m.sent m.shdlc.session = grind arith in
    let sends = sends_on {s' = e.session} kept a out acked in
    let waiting : waiting_in old k.outbox ≡ waiting_in new outbox = sym (g.waiting ∙ ap (λ l. drop k.outbox.cut (fragments_of l)) o.messages) in
    let P : List Fragment → Type 0 = λ w. StandsBefore s w e in
    let came : came_whole new inbox ≡ m.got ++ news m.shdlc.session e = grind arith in
    let Q : Machine → Type 0 = λ x. Halfway (record k { shdlc = s; outbox = outbox; inbox = inbox }) new x in
    let aside : aside_of new k.outbox.owner ≡ aside_of mid k.outbox.owner =
    ap (λ os. (owner_at os k.outbox.owner).aside) g.elsewhere.owners
    ∙ aside-with_used mid.owners k.outbox.owner (used_of new k.outbox.owner) o.lies.kept.has_quota in
    record {
      stands = subst Q (sym (heard-on m c over faulty)) (record {
        role = before.role;
        link = subst P waiting (took_link h over);
        acts = before.acts;
        sends = sends.0;
        receives = record {
          lies = i.lies;
          under = i.under
              ∙ (r.under ∙ (ap (λ u. open_after u (packets_in (brought t))) under ∙ sym (under_is m.shdlc.session e (brought t) acc)));
          sound = sound;
        };
        got = came;
        aside = ap (aside_of new) g.owner ∙ (aside ∙ (o.aside ∙ before.aside));
        passed_over = before.passed_over;
        differ = λ d. before.differ (sym g.owner ∙ (d ∙ r.owner));
      });
      told = grind arith;
      elsewhere = leaves_more
          (leaves_in old mid k.outbox k.inbox inbox r.elsewhere r.owner r.counted) (leaves_out mid new k.outbox outbox inbox g.elsewhere g.owner i);
    }
  where
    none_ended : (o : Option Cause) → is_some o ≡ false → o ≡ None
    none_ended o e = grind arith

-- ---- when a fragment may be taken

-- an end that accepts a fragment is ready
pub accepted_ready : (e : EndState) (c : Control) (f : Fragment) → (take_answer e c).accepted ≡ Some f → e.ready ≡ true
accepted_ready e c f is = grind arith

pub may_receive : {k : End} {pool : PoolState} {m : Machine} {c : Control} {s : KeptEnd} {t : Taken} → HasTaken k pool m c s t → MayTake k pool
    → IfSome t.accepted (λ _. InboxIsReady pool k.inbox)
may_receive {k} {pool} {m} {c} {s} {t} h may = go t.accepted refl
  where
    free : (f : Fragment) → (used_of pool k.inbox.joiner.owner ≡ held_blocks pool k.inbox.joiner.open.items) ⊎ (k.shdlc.ready ≡ false) → t.accepted ≡ Some f
        → used_of pool k.inbox.joiner.owner ≡ held_blocks pool k.inbox.joiner.open.items
    free f (inl used) is = used
    free f (inr held) is =
        let kept : k.shdlc.ready ≡ m.shdlc.ready = h.before.halfway.link.kept.ready in
        let ready : m.shdlc.ready ≡ true = accepted_ready m.shdlc c f (sym (ap (λ (x : Taken). x.accepted) (took_answer h)) ∙ is) in
        let no : false ≡ true = sym held ∙ (kept ∙ ready) in cc

    go : (o : Option Fragment) → t.accepted ≡ o → IfSome o (λ _. InboxIsReady pool k.inbox)
    go None is = tt
    go (Some f) is = record { fetched = may.fetched; used = free f may.free is }

-- ---- a fragment that was accepted is that of its frame

brought_in : (p : LinkState) (e : EndState) (c : Control) (f : Fragment) → (take_answer (in_phase p e) c).accepted ≡ Some f → fragment_in c ≡ Some f
brought_in p e c f is = grind arith

pub is_of_frame : {k : End} {pool : PoolState} {m : Machine} {c : Control} {s : KeptEnd} {t : Taken} → HasTaken k pool m c s t
    → IfSome t.accepted (λ f. fragment_in c ≡ Some f)
is_of_frame {k} {pool} {m} {c} {s} {t} h = go t.accepted refl
  where
    go : (o : Option Fragment) → t.accepted ≡ o → IfSome o (λ f. fragment_in c ≡ Some f)
    go None is = tt
    go (Some f) is = brought_in m.shdlc.phase m.shdlc c f (sym (ap (λ (x : Taken). x.accepted) (took_answer h)) ∙ is)

-- ---- a packet that can't be joined

pub some_brought : (ms : List Message) (o : Option Fragment) → (IsTrue (are_taken ms (packets_in (option_to_list o))) → ⊥) → (f : Fragment) × (o ≡ Some f)
some_brought ms o never = grind arith

nil_back : (xs ys : List Open) → xs ++ ys ≡ [] → ys ≡ []
nil_back [] ys e = e
nil_back (x ∷ xs) ys e = cc

-- what became of what comes, where a packet can't be joined
pub record IsBroken (old mid : PoolState) (before after : Inbox) : Type 0 where
  pub lies : InboxLiesIn mid after
  pub owner : after.joiner.owner ≡ before.joiner.owner
  pub none : chains_in after ≡ []
  pub used : used_of mid before.joiner.owner ≡ 0
  pub elsewhere : InboxLeaves old mid before.joiner.owner (chains_in before) []

pub record BreaksOff (new : PoolState) (k1 : End) (m : Machine) (c : Control) (s : KeptEnd) : Type 0 where
  pub stands : EndStandsFor (record k1 { shdlc = s }) new (heard m c)
  pub told : (n : LinkReport) → n ≡ nothing_told → record n { ended = Some Chain } ≡ heard_told m c

pub fault_lies : {old mid : PoolState} {k : End} {m : Machine} {inbox : Inbox} → EndStandsFor k old m → IsBroken old mid k.inbox inbox
    → OutboxKept old mid k.outbox
fault_lies {old} {mid} {k} h b =
    outbox_kept old mid k.inbox.joiner.owner (chains_in k.inbox) [] k.outbox h.halfway.receives.lies.holds.own b.elsewhere h.halfway.sends.lies h.halfway.differ

pub breaks_off : {old mid new : PoolState} {k k1 : End} {m : Machine} {c : Control} {s0 s : KeptEnd} {t : Taken} {inbox : Inbox} → HasTaken k old m c s0 t
    → (IsTrue (are_taken (messages_under_way old k.inbox) (packets_in (brought t))) → ⊥) → k.inbox.got ≡ None → IsBroken old mid k.inbox inbox
    → ForgetsMessages mid new (record k { shdlc = s0; inbox = inbox }) k1 → ((e : EndState) → ShdlcStandsFor k1.shdlc e → ShdlcStandsFor s (stopped e))
    → BreaksOff new k1 m c s
breaks_off {old} {mid} {new} {k} {k1} {m} {c} {s0} {s} {t} {inbox} h broken fetched b f stops =
    let before = h.before.halfway in
    let e = taken m.shdlc c in
    let on = takes_on m.shdlc c before.link.session in
    let is = took_answer h in
    let some = some_brought (messages_under_way old k.inbox) t.accepted broken in
    let brings = brings_fragment m.shdlc c some.0 (sym (ap (λ (x : Taken). x.accepted) is) ∙ some.1) in
    let over : ended_in m c ≡ false = ap (λ (x : Option Cause). is_some x) brings.stays in
    let acc : e.session.acc ≡ m.shdlc.session.acc ++ brought t = grind arith in
    let none_taken : are_taken [] (packets_in e.session.acc) ≡ false =
    taken_is m.shdlc.session e (brought t) acc before.receives.sound ∙ (grind arith) in
    let faulty : is_faulty e.session ≡ true = ap not none_taken in
    let down : put_down true m ≡ moved m true (stopped m.shdlc) = down_up m brings.up in
    let heard_is : heard m c ≡ moved m true (stopped m.shdlc) = grind arith in
    let o = fault_lies h.before b in
    let got_none : got_chains inbox.got ≡ [] = nil_back inbox.joiner.open.items (got_chains inbox.got) b.none in
    let nothing_got : m.got ≡ [] = sym before.got ∙ ap (λ x. messages_of old (got_chains x)) fetched in
    let P : Machine → Type 0 = λ x. EndStandsFor (record k1 { shdlc = s }) new x in
    let Q : EndState → Type 0 = λ x. StandsBefore s [] x in
    let carried : Carries (record k { inbox = inbox }) mid m = grind arith in
    record {
      stands = subst P (sym heard_is) (session_over carried f (record {
        stands = subst Q brings.stopped_is (stopped_before (took_link h refl) f.shdlc stops);
        out = refl;
        acked = refl;
        acc = refl;
      }));
      told = grind arith;
    }
  where
    down_in : (p : LinkState) (x : Machine) → p ≡ Up → put_down true (record x { shdlc = record x.shdlc { phase = p } }) ≡ moved x true (stopped x.shdlc)
    down_in p x e = grind arith

    down_up : (x : Machine) → x.shdlc.phase ≡ Up → put_down true x ≡ moved x true (stopped x.shdlc)
    down_up x up = down_in x.shdlc.phase x up

-- what it left elsewhere
pub broken_elsewhere : {old mid : PoolState} (k : End) {inbox : Inbox} → InboxIsReady old k.inbox → IsBroken old mid k.inbox inbox
    → LeavesBoxes old mid k.outbox k.inbox k.outbox inbox
broken_elsewhere {old} {mid} k {inbox} ready b =
    let chains : chains_in k.inbox ≡ k.inbox.joiner.open.items = ap (λ g. k.inbox.joiner.open.items ++ got_chains g) ready.fetched
    ∙ append-nil k.inbox.joiner.open.items in
    let held = ap (held_blocks old) chains in
    let left = ap (held_blocks mid) b.none in
    let P : List Open → Type 0 = λ l. InboxLeaves old mid k.inbox.joiner.owner (chains_in k.inbox) l in
    leaves_in old mid k.outbox k.inbox inbox (subst P (sym b.none) b.elsewhere) b.owner (omega (arith, ready.used, held, left, b.used))

pub received_lies : {old mid : PoolState} {k : End} {m : Machine} {inbox : Inbox} {more : List Fragment} → EndStandsFor k old m
    → ReceivesOn old mid k.inbox inbox more → OutboxLiesIn mid k.outbox
received_lies {old} {mid} {k} {inbox = inbox} h r =
    (outbox_kept old mid k.inbox.joiner.owner (chains_in k.inbox)
    (chains_in inbox) k.outbox h.halfway.receives.lies.holds.own r.elsewhere h.halfway.sends.lies h.halfway.differ).lies
