-- The messages that wait at a controller, and what it keeps, stay what is read over its turns; so each of its passes replies as is read.
use Rattle.node_laws.proofs.Words.{AllByRecursion, AreHosts, ArePassed, ArePlayable, AreRepliedIn, AtEnd, BeginsPass, Bool, Comes, ComesTo, Controller, Deed}
use Rattle.node_laws.proofs.Words.{Desk, End, EndsAreRead, Entry, FollowsNodes, Handles, HasEnds, HasRoomForAll, Header, IsFew, IsHost, IsReplyNoted}
use Rattle.node_laws.proofs.Words.{IsSentByHost, KeepsBeside, KeepsInStep, LastsOverTurns, LetsGo, Line, LinkInput, List, Message, MessagesAreRead, NodeHistory}
use Rattle.node_laws.proofs.Words.{NodeWorld, None, Occurrence, Port, ReadsBetween, ReadsInStep, Running, Site, Some, TimePasses, Work, [], aged, all_aged, ap}
use Rattle.node_laws.proofs.Words.{append-nil, append_assoc, ap₂, as_it_ticks, cases_Bool, comes_to_pass, cond, controller_begins, count_of, deeds_of, drop}
use Rattle.node_laws.proofs.Words.{end_c, entries_in, entries_of_reply, eq-eqb, eqb, eqb-true, false, fold-append, handles, holds_back, holds_in, hosts_in}
use Rattle.node_laws.proofs.Words.{hosts_of_ends, inl, input_of, inr, is_held_at, is_one_of, lacking, lets_go, link_to, map, new_world, node_entries}
use Rattle.node_laws.proofs.Words.{noted_by_deeds, occurrences_in, option_map_or, passes, port_at, refl, same_end, session_of_port, subst, sym, takes_up, true}
use Rattle.node_laws.proofs.Words.{unhandled_after, unhandled_in, waiting_at, world_behind, ℕ, ◌++◌, ◌∙◌, ◌∷◌, ◌≡◌, ◌⊎◌}
use Rattle.node_laws.specs.passes.Passing.ComesTo.{Begins, Holds as HoldsBack}
use Rattle.node_laws.proofs.kept.Events.{hosts_same}
use Rattle.node_laws.proofs.order.Lines.{IsSo, history_so}
use Rattle.node_laws.proofs.order.Ticking.{timely}
use Rattle.node_laws.proofs.passes.Passing.{handles_entries, handles_sees, held_own, holds_notes, lets_notes, other_handles, other_holds}
use Rattle.node_laws.proofs.passes.Replying.{HasFirst, SeesAt, has_first, lets_see}
use Rattle.node_laws.proofs.read_rooms.Beginning.{comes_carried}
use Rattle.node_laws.proofs.read_rooms.Carrying.{IsCarried, handles_last, holds_last, lets_last, ports_read as carried_read}
use Rattle.node_laws.proofs.read_rooms.Ticking.{tick_carried}
use Rattle.node_laws.proofs.read_steps.Knowing.{aside_known, found_end}
use Rattle.node_laws.proofs.read_steps.Reading.{comes_reads_of_reading as comes_reads, handles_reads, history_reads, holds_reads, lets_reads, tick_reads}
use Rattle.node_laws.proofs.replies.Passes.{AreReplyEntries, IsReplyEntry, held_for, noted_so_far, own_end_is, split_of, told_so, turn_replied, walked}
use Rattle.node_laws.proofs.replies.Creations.{one_found}
use Rattle.node_laws.proofs.reply_passes.Ordered.{one_at}
use Rattle.node_laws.proofs.telling.Events.{node_is}
use Rattle.trace_model.specs.declared.entry.Entry.TheVariants as entry

-- ## The messages that wait at the ends of a controller stay those that are read, over its turns

-- ### Entries

got_still : (s : List Entry) (x : Entry) (e : End) → IsReplyEntry x → unhandled_in (s ++ x ∷ []) e ≡ unhandled_in s e
got_still s (entry.Command n c) e is = fold-append (unhandled_after e) [] s (entry.Command n c ∷ [])
got_still s (entry.Sent f n pid message) e is = fold-append (unhandled_after e) [] s (entry.Sent f n pid message ∷ [])
got_still s (entry.AnyOk n k) e is = fold-append (unhandled_after e) [] s (entry.AnyOk n k ∷ [])
got_still s (entry.Ask to message) e is = fold-append (unhandled_after e) [] s (entry.Ask to message ∷ [])
got_still s (entry.Dropped f pid) e is = fold-append (unhandled_after e) [] s (entry.Dropped f pid ∷ [])
got_still s _ e is = absurd is

holds_still : (s : List Entry) (x : Entry) (e : End) → IsReplyEntry x → holds_in (s ++ x ∷ []) e ≡ holds_in s e
holds_still s (entry.Command n c) e is = fold-append _ false s (entry.Command n c ∷ [])
holds_still s (entry.Sent f n pid message) e is = fold-append _ false s (entry.Sent f n pid message ∷ [])
holds_still s (entry.AnyOk n k) e is = fold-append _ false s (entry.AnyOk n k ∷ [])
holds_still s (entry.Ask to message) e is = fold-append _ false s (entry.Ask to message ∷ [])
holds_still s (entry.Dropped f pid) e is = fold-append _ false s (entry.Dropped f pid ∷ [])
holds_still s _ e is = absurd is

all_still : (s es : List Entry) (e : End) → AreReplyEntries es
    → (unhandled_in (s ++ es) e ≡ unhandled_in s e) × (holds_in (s ++ es) e ≡ holds_in s e)
all_still s [] e all = (ap (λ l. unhandled_in l e) (append-nil s), ap (λ l. holds_in l e) (append-nil s))
all_still s (x ∷ es) e all =
    let later = all_still (s ++ x ∷ []) es e all.1 in
    let is : s ++ (x ∷ es) ≡ (s ++ x ∷ []) ++ es = sym (append_assoc s (x ∷ []) es) in (
      ap (λ l. unhandled_in l e) is ∙ (later.0 ∙ got_still s x e all.0),
      ap (λ l. holds_in l e) is ∙ (later.1 ∙ holds_still s x e all.0),
    )

-- a message has its turn
turned : (s : List Entry) (f e : End) (pid : ℕ) (message : List ℕ)
    → (unhandled_in (s ++ entry.Turn f pid message ∷ []) e ≡ cond (same_end f e) (drop 1 (unhandled_in s e)) (unhandled_in s e))
    × (holds_in (s ++ entry.Turn f pid message ∷ []) e ≡ cond (same_end f e) false (holds_in s e))
turned s f e pid message =
    (fold-append (unhandled_after e) [] s (entry.Turn f pid message ∷ []), fold-append _ false s (entry.Turn f pid message ∷ []))

-- or is held
held_so : (s : List Entry) (f e : End) (need spare : ℕ) → (unhandled_in (s ++ entry.Held f need spare ∷ []) e ≡ unhandled_in s e)
    × (holds_in (s ++ entry.Held f need spare ∷ []) e ≡ cond (same_end f e) true (holds_in s e))
held_so s f e need spare = (fold-append (unhandled_after e) [] s (entry.Held f need spare ∷ []), fold-append _ false s (entry.Held f need spare ∷ []))

same_ends : (h k : ℕ) (b : Bool) → eqb h k ≡ b → same_end (end_c h) (end_c k) ≡ b
same_ends h k true q = rw q refl
same_ends h k false q = rw q refl

-- ### Ends

got_found : (ports : List Port) (k : ℕ) (p : Port) → port_at ports k ≡ Some p → waiting_at ports k ≡ p.side.got
got_found ports k p e = ap (λ o. option_map_or (λ (p : Port). p.side.got) o []) e

holds_found : (ports : List Port) (k : ℕ) (p : Port) → port_at ports k ≡ Some p → is_held_at ports k ≡ p.desk.holds
holds_found ports k p e = ap (λ o. option_map_or (λ (p : Port). p.desk.holds) o false) e

module _ (t : List Entry) (w v : Work) (read : MessagesAreRead (t ++ w.entries) w.ports) (hosts : hosts_of_ends v.ports ≡ hosts_of_ends w.ports) where
  abbrev now : List Entry
  now = t ++ w.entries

  -- what waited at an end that is there
  was_read : (k : ℕ) (p : Port) → port_at v.ports k ≡ Some p
      → (unhandled_in now (end_c k) ≡ waiting_at w.ports k) × (holds_in now (end_c k) ≡ is_held_at w.ports k)
  was_read k p e =
      let old = one_at w.ports k (ap (λ hs. is_one_of hs k) (sym hosts) ∙ one_found v.ports k p e) in (
        read.waiting k old.0 old.1 ∙ sym (got_found w.ports k old.0 old.1),
        read.held k old.0 old.1 ∙ sym (holds_found w.ports k old.0 old.1),
      )

  -- the same waits at this end, as it is read
  stays_so : (es : List Entry) → v.entries ≡ w.entries ++ es → (k : ℕ) (p : Port) → port_at v.ports k ≡ Some p
      → SeesAt k (waiting_at w.ports k) (is_held_at w.ports k) v
      → (unhandled_in (now ++ es) (end_c k) ≡ unhandled_in now (end_c k)) × (holds_in (now ++ es) (end_c k) ≡ holds_in now (end_c k))
      → (unhandled_in (t ++ v.entries) (end_c k) ≡ p.side.got) × (holds_in (t ++ v.entries) (end_c k) ≡ p.desk.holds)
  stays_so es is k p e sees same =
      let shape : t ++ v.entries ≡ now ++ es = ap (λ l. t ++ l) is ∙ sym (append_assoc t w.entries es) in
      let was = was_read k p e in (
        ap (λ l. unhandled_in l (end_c k)) shape ∙ (same.0 ∙ (was.0 ∙ (sym sees.0 ∙ got_found v.ports k p e))),
        ap (λ l. holds_in l (end_c k)) shape ∙ (same.1 ∙ (was.1 ∙ (sym sees.1 ∙ holds_found v.ports k p e))),
      )

  -- an end is as it is read
  abbrev ReadAt : ℕ → Port → Type 0
  ReadAt k p = (unhandled_in (t ++ v.entries) (end_c k) ≡ p.side.got) × (holds_in (t ++ v.entries) (end_c k) ≡ p.desk.holds)

  as_read : ((k : ℕ) (p : Port) → port_at v.ports k ≡ Some p → ReadAt k p) → MessagesAreRead (t ++ v.entries) v.ports
  as_read each = record { waiting = λ k p e. (each k p e).0; held = λ k p e. (each k p e).1 }

-- ### Turns

module _ (t : List Entry) (w : Work) (read : MessagesAreRead (t ++ w.entries) w.ports) (h : ℕ) where
  -- the first message is handled
  messages_handled : (pid : ℕ) (message : List ℕ) (messages : List Message) (deeds : List Deed) (reply : List Entry)
      → waiting_at w.ports h ≡ (pid, message) ∷ messages → hosts_of_ends (handles h (pid, message) deeds w).ports ≡ hosts_of_ends w.ports
      → (handles h (pid, message) deeds w).entries ≡ w.entries ++ (entry.Turn (end_c h) pid message ∷ reply) → AreReplyEntries reply
      → MessagesAreRead (t ++ (handles h (pid, message) deeds w).entries) (handles h (pid, message) deeds w).ports
  messages_handled pid message messages deeds reply waiting hosts entries all = as_read t w v read hosts each where
    v : Work
    v = handles h (pid, message) deeds w

    told : List Entry
    told = t ++ w.entries

    turn_so : (k : ℕ) → (unhandled_in (told ++ (entry.Turn (end_c h) pid message ∷ reply)) (end_c k)
        ≡ cond (same_end (end_c h) (end_c k)) (drop 1 (unhandled_in told (end_c k))) (unhandled_in told (end_c k)))
        × (holds_in (told ++ (entry.Turn (end_c h) pid message ∷ reply)) (end_c k) ≡ cond (same_end (end_c h) (end_c k)) false (holds_in told (end_c k)))
    turn_so k =
        let first = turned told (end_c h) (end_c k) pid message in
        let later = all_still (told ++ entry.Turn (end_c h) pid message ∷ []) reply (end_c k) all in
        let is = sym (append_assoc told (entry.Turn (end_c h) pid message ∷ []) reply) in
        (ap (λ l. unhandled_in l (end_c k)) is ∙ (later.0 ∙ first.0), ap (λ l. holds_in l (end_c k)) is ∙ (later.1 ∙ first.1))

    first : HasFirst w.ports h (pid, message) messages
    first = has_first w.ports h (pid, message) messages waiting

    sees : SeesAt h messages false v
    sees = handles_sees h (pid, message) messages deeds w waiting

    shape : t ++ v.entries ≡ told ++ (entry.Turn (end_c h) pid message ∷ reply)
    shape = ap (λ l. t ++ l) entries ∙ sym (append_assoc t w.entries (entry.Turn (end_c h) pid message ∷ reply))

    here : (p : Port) → port_at v.ports h ≡ Some p → ReadAt t w v read hosts h p
    here p e =
        let same : same_end (end_c h) (end_c h) ≡ true = same_ends h h true (eq-eqb h h refl) in
        let all_got : unhandled_in told (end_c h) ≡ (pid, message) ∷ messages = read.waiting h first.port first.here ∙ first.got in
        let now = turn_so h in (
          ap (λ l. unhandled_in l (end_c h)) shape
              ∙ (now.0 ∙ (ap₂ (λ b l. cond b (drop 1 l) l) same all_got ∙ (sym sees.0 ∙ got_found v.ports h p e))),
          ap (λ l. holds_in l (end_c h)) shape
              ∙ (now.1 ∙ (ap (λ b. cond b false (holds_in told (end_c h))) same ∙ (sym sees.1 ∙ holds_found v.ports h p e))),
        )

    there : (k : ℕ) (p : Port) → port_at v.ports k ≡ Some p → eqb h k ≡ false → ReadAt t w v read hosts k p
    there k p e off =
        let other : same_end (end_c h) (end_c k) ≡ false = same_ends h k false off in
        let now = turn_so k in
        stays_so t w v read hosts (entry.Turn (end_c h) pid message ∷ reply) entries k p e
        (other_handles k (waiting_at w.ports k) (is_held_at w.ports k) h (pid, message) deeds w off (refl, refl)) (
          now.0 ∙ ap (λ b. cond b (drop 1 (unhandled_in told (end_c k))) (unhandled_in told (end_c k))) other,
          now.1 ∙ ap (λ b. cond b false (holds_in told (end_c k))) other,
        )

    each : (k : ℕ) (p : Port) → port_at v.ports k ≡ Some p → ReadAt t w v read hosts k p
    each k p e = go (cases_Bool (eqb h k)) where
      go : (eqb h k ≡ true) ⊎ (eqb h k ≡ false) → ReadAt t w v read hosts k p
      go (inl is) =
          let one : h ≡ k = eqb-true h k is in
          subst (λ n. ReadAt t w v read hosts n p) one (here p (subst (λ n. port_at v.ports n ≡ Some p) (sym one) e))
      go (inr off) = there k p e off

  -- it is held
  messages_held : (m : Message) (messages : List Message) (short : ℕ × ℕ) → waiting_at w.ports h ≡ m ∷ messages
      → hosts_of_ends (holds_back h short w).ports ≡ hosts_of_ends w.ports
      → (holds_back h short w).entries ≡ w.entries ++ cond (is_held_at w.ports h) [] (entry.Held (end_c h) short.0 short.1 ∷ [])
      → MessagesAreRead (t ++ (holds_back h short w).entries) (holds_back h short w).ports
  messages_held m messages short waiting hosts entries = as_read t w v read hosts each where
    v : Work
    v = holds_back h short w

    told : List Entry
    told = t ++ w.entries

    first : HasFirst w.ports h m messages
    first = has_first w.ports h m messages waiting

    one : List Entry
    one = entry.Held (end_c h) short.0 short.1 ∷ []

    -- nothing that is held changes what is read elsewhere
    still : (k : ℕ) → eqb h k ≡ false → (b : Bool) → (unhandled_in (told ++ cond b [] one) (end_c k) ≡ unhandled_in told (end_c k))
        × (holds_in (told ++ cond b [] one) (end_c k) ≡ holds_in told (end_c k))
    still k off true = (ap (λ l. unhandled_in l (end_c k)) (append-nil told), ap (λ l. holds_in l (end_c k)) (append-nil told))
    still k off false =
        let so = held_so told (end_c h) (end_c k) short.0 short.1 in
        (so.0, so.1 ∙ ap (λ b. cond b true (holds_in told (end_c k))) (same_ends h k false off))

    own : (b : Bool) → is_held_at w.ports h ≡ b → (unhandled_in (told ++ cond b [] one) (end_c h) ≡ unhandled_in told (end_c h))
        × (holds_in (told ++ cond b [] one) (end_c h) ≡ true)
    own true q = (
      ap (λ l. unhandled_in l (end_c h)) (append-nil told),
      ap (λ l. holds_in l (end_c h)) (append-nil told) ∙ (read.held h first.port first.here ∙ (sym (holds_found w.ports h first.port first.here) ∙ q)),
    )
    own false q =
        let so = held_so told (end_c h) (end_c h) short.0 short.1 in
        (so.0, so.1 ∙ ap (λ b. cond b true (holds_in told (end_c h))) (same_ends h h true (eq-eqb h h refl)))

    sees : SeesAt h (waiting_at w.ports h) true v
    sees = held_own h short w m messages waiting

    shape : t ++ v.entries ≡ told ++ cond (is_held_at w.ports h) [] one
    shape = ap (λ l. t ++ l) entries ∙ sym (append_assoc t w.entries (cond (is_held_at w.ports h) [] one))

    here : (p : Port) → port_at v.ports h ≡ Some p → ReadAt t w v read hosts h p
    here p e =
        let now = own (is_held_at w.ports h) refl in
        let was = was_read t w v read hosts h p e in (
          ap (λ l. unhandled_in l (end_c h)) shape ∙ (now.0 ∙ (was.0 ∙ (sym sees.0 ∙ got_found v.ports h p e))),
          ap (λ l. holds_in l (end_c h)) shape ∙ (now.1 ∙ (sym sees.1 ∙ holds_found v.ports h p e)),
        )

    each : (k : ℕ) (p : Port) → port_at v.ports k ≡ Some p → ReadAt t w v read hosts k p
    each k p e = go (cases_Bool (eqb h k)) where
      go : (eqb h k ≡ true) ⊎ (eqb h k ≡ false) → ReadAt t w v read hosts k p
      go (inl is) =
          let same : h ≡ k = eqb-true h k is in
          subst (λ n. ReadAt t w v read hosts n p) same (here p (subst (λ n. port_at v.ports n ≡ Some p) (sym same) e))
      go (inr off) =
          stays_so t w v read hosts (cond (is_held_at w.ports h) [] one) entries k p e
          (other_holds k (waiting_at w.ports k) (is_held_at w.ports k) h short w off (refl, refl)) (still k off (is_held_at w.ports h))

  -- none is
  messages_left : hosts_of_ends (lets_go h w).ports ≡ hosts_of_ends w.ports → (lets_go h w).entries ≡ w.entries ++ []
      → MessagesAreRead (t ++ (lets_go h w).entries) (lets_go h w).ports
  messages_left hosts entries =
      as_read t w (lets_go h w) read hosts
      (λ k p e. stays_so t w (lets_go h w) read hosts [] entries k p e (lets_see k (waiting_at w.ports k) (is_held_at w.ports k) h w (refl, refl))
      (ap (λ l. unhandled_in l (end_c k)) (append-nil (t ++ w.entries)), ap (λ l. holds_in l (end_c k)) (append-nil (t ++ w.entries))))

-- ## What a controller keeps beside what it knows stays what is read, over its turns

module _ (hosts : List ℕ) (are : AreHosts hosts) (t : List Entry) (begun : Work) (room_for : (v : Work) → ComesTo begun v → HasRoomForAll v) where
  -- all that stays over the turns of a pass
  pub record Stays (v : Work) : Type 0 where
    pub comes : ComesTo begun v
    pub step : ReadsInStep hosts t v
    pub carried : IsCarried t Controller v
    pub messages : MessagesAreRead (t ++ v.entries) v.ports

  ends_of : (v : Work) → Stays v → EndsAreRead (t ++ v.entries) v.ports
  ends_of v s = record {
    sessions = λ k p e. (carried_read t Controller v s.step.runs.keeps.on s.carried k p e).session;
    spares = λ k p e. (carried_read t Controller v s.step.runs.keeps.on s.carried k p e).spare (aside_known hosts are t v s.step.runs.keeps k p e);
  }

  pub beside_of : (v : Work) → Stays v → KeepsBeside hosts t v
  beside_of v s = record { reads = s.step; ends = ends_of v s; room = room_for v s.comes }

  handled_stays : (v : Work) (h : ℕ) (m : Message) (messages : List Message) → Stays v → v.cut ≡ false → waiting_at v.ports h ≡ m ∷ messages
      → lacking v h m ≡ None → (handles h m (deeds_of v.core v.ports h m) v).cut ≡ false → Stays (handles h m (deeds_of v.core v.ports h m) v)
  handled_stays v h m messages s on waiting room still =
      let deeds : List Deed = deeds_of v.core v.ports h m in
      let u : Work = handles h m deeds v in
      let k : KeepsBeside hosts t v = beside_of v s in
      let first : HasFirst v.ports h m messages = has_first v.ports h m messages waiting in
      let host : IsHost h = found_end IsHost v.ports h first.port first.here (subst (AllByRecursion IsHost) (sym s.step.runs.keeps.hosts_are) are.all) in
      let noted : List Entry = noted_by_deeds h deeds (takes_up h m v) in
      let reply : List Entry = entries_of_reply 0 (session_of_port v.ports) h (count_of v.core.journal) deeds in
      let is : IsReplyNoted false 0 noted reply = subst (λ b. IsReplyNoted b 0 noted reply) still (noted_so_far hosts are t v k h host m on room) in
      let entries : u.entries ≡ v.entries ++ (entry.Turn (end_c h) m.0 m.1 ∷ reply) =
      handles_entries h m deeds v
      ∙ (ap (λ f. v.entries ++ (entry.Turn f m.0 m.1 ∷ noted)) (own_end_is v.core h s.step.runs.keeps.node)
      ∙ ap (λ l. v.entries ++ (entry.Turn (end_c h) m.0 m.1 ∷ l)) is) in
      let step : ReadsInStep hosts t u = handles_reads hosts are t h m messages v s.step waiting room still in
      record {
        comes = Handles v h m messages s.comes on waiting room still;
        step = step;
        carried = handles_last t Controller h m v first.port messages first.here first.got s.carried;
        messages = messages_handled t v s.messages h m.0 m.1 messages deeds reply waiting
            (step.runs.keeps.hosts_are ∙ sym s.step.runs.keeps.hosts_are) entries (told_so hosts are t v k h host m).entries;
      }

  held_stays : (v : Work) (h : ℕ) (m : Message) (messages : List Message) (short : ℕ × ℕ) → Stays v → v.cut ≡ false → waiting_at v.ports h ≡ m ∷ messages
      → lacking v h m ≡ Some short → Stays (holds_back h short v)
  held_stays v h m messages short s on waiting lacks =
      let u : Work = holds_back h short v in
      let step : ReadsInStep hosts t u = holds_reads hosts are t h short v s.step in
      let entries : u.entries ≡ v.entries ++ (cond (is_held_at v.ports h) [] (entry.Held (end_c h) short.0 short.1 ∷ [])) =
      (holds_notes h short v).entries
      ∙ ap (λ f. v.entries ++ cond (is_held_at v.ports h) [] (entry.Held f short.0 short.1 ∷ [])) (own_end_is v.core h s.step.runs.keeps.node) in
      record {
        comes = HoldsBack v h m messages short s.comes on waiting lacks;
        step = step;
        carried = holds_last t Controller h short v s.carried;
        messages = messages_held t v s.messages h m messages short waiting (step.runs.keeps.hosts_are ∙ sym s.step.runs.keeps.hosts_are) entries;
      }

  left_stays : (v : Work) (h : ℕ) → Stays v → v.cut ≡ false → waiting_at v.ports h ≡ [] → Stays (lets_go h v)
  left_stays v h s on waiting =
      let step : ReadsInStep hosts t (lets_go h v) = lets_reads hosts are t h v s.step in
      record {
        comes = LetsGo v h s.comes on waiting;
        step = step;
        carried = lets_last t Controller h v s.carried;
        messages = messages_left t v s.messages h (step.runs.keeps.hosts_are ∙ sym s.step.runs.keeps.hosts_are) ((lets_notes h v).entries);
      }

  pub all_stays : LastsOverTurns Stays
  all_stays = record { handled = handled_stays; held = held_stays; let_go = left_stays }

-- ## In a history each pass of the controller replies to messages as is read

module _ (hosts : List ℕ) (are : AreHosts hosts) (t : List Entry) (w : Work) (step : ReadsInStep hosts t w) (carried : IsCarried t Controller w)
    (b : BeginsPass t w) where
  abbrev K : Work → Type 0
  K v = Stays hosts are t w b.room v

  abbrev lasts : LastsOverTurns K
  lasts = all_stays hosts are t w b.room

  abbrev beside : (v : Work) → K v → KeepsBeside hosts t v
  beside v s = beside_of hosts are t w b.room v s

  begins : K w
  begins = record { comes = Begins; step = step; carried = carried; messages = b.messages }

  abbrev walk : ArePassed (λ v. KeepsInStep hosts t v × K v) (hosts_of_ends w.ports) w (passes w)
  walk = walked hosts are t K lasts beside w (step.runs.keeps, begins)

  more_is : (es : List Entry) → (passes w).entries ≡ w.entries ++ es → walk.more ≡ es
  more_is es is = split_of hosts are t K lasts beside w (step.runs.keeps, begins) es is

  pass_replies : AreRepliedIn hosts t w
  pass_replies front back rest (entry.Turn e pid message) m is same none = (
    turn_replied hosts are t K lasts beside w (passes w) (hosts_of_ends w.ports) walk front back e pid message (more_is _ is) m same rest none,
    tt,
  )
  pass_replies front back rest (entry.Held e need spare) m is same none = (
    tt,
    held_for hosts are t K lasts beside w (passes w) (hosts_of_ends w.ports) walk (λ x s. s.messages) front back e need spare (more_is _ is) m same rest,
  )
  pass_replies front back rest _ m is same none = (tt, tt)

module _ (header : Header) (lines : List Line) (t : NodeHistory) (follows : FollowsNodes header lines t) (are : AreHosts header.hosts.items)
    (playable : ArePlayable lines) (sent : AllByRecursion IsSentByHost lines) (few : IsFew (node_entries t)) where
  abbrev hosts : List ℕ
  hosts = header.hosts.items

  module _ (front back : List Occurrence) (parts : occurrences_in t ≡ front ++ back) (w : NodeWorld)
      (is : world_behind (new_world header.hosts.items) front ≡ w) (r : Running) (runs : w.controller ≡ Some r) where
    so : IsSo hosts front w
    so = subst (λ v. IsSo hosts front v) is (history_so header lines t follows are playable front back parts)

    between : ReadsBetween hosts (entries_in front) w
    between = subst (ReadsBetween hosts (entries_in front)) is (history_reads header lines t follows are sent few front back parts)

    -- what is known as the pass begins
    pub comes_known : (h : ℕ) (comes : Comes) (i : LinkInput) → input_of (link_to w.sites h) comes ≡ Some i
        → (comes_to_pass (AtEnd h i) (controller_begins w r h comes)).cut ≡ false
        → ReadsInStep hosts (entries_in front) (comes_to_pass (AtEnd h i) (controller_begins w r h comes))
        × IsCarried (entries_in front) Controller (comes_to_pass (AtEnd h i) (controller_begins w r h comes))
    comes_known h comes i input on = (
      comes_reads hosts are (entries_in front) w between r runs h comes i input on,
      comes_carried w (entries_in front) so.well.orderly so.well.fine (λ h s found. (so.each h s found).told) r runs h comes i input,
    )

    pub comes_replied : (h : ℕ) (comes : Comes) (i : LinkInput) → input_of (link_to w.sites h) comes ≡ Some i
        → (comes_to_pass (AtEnd h i) (controller_begins w r h comes)).cut ≡ false
        → BeginsPass (entries_in front) (comes_to_pass (AtEnd h i) (controller_begins w r h comes))
        → AreRepliedIn hosts (entries_in front) (comes_to_pass (AtEnd h i) (controller_begins w r h comes))
    comes_replied h comes i input on begins =
        let known = comes_known h comes i input on in
        pass_replies hosts are (entries_in front) (comes_to_pass (AtEnd h i) (controller_begins w r h comes)) known.0 known.1 begins

    pub tick_known : (comes_to_pass TimePasses (as_it_ticks w r)).cut ≡ false
        → ReadsInStep hosts (entries_in front ++ (all_aged w).1) (comes_to_pass TimePasses (as_it_ticks w r))
        × IsCarried (entries_in front ++ (all_aged w).1) Controller (comes_to_pass TimePasses (as_it_ticks w r))
    tick_known on =
        let node : HasEnds 0 (hosts_in w.sites) r = node_is 0 (hosts_in w.sites) w.controller r so.well.orderly.controller runs in
        let ends : map (λ (d : Desk). d.host) r.desks ≡ hosts_in (all_aged w).0.sites =
        node.ends ∙ sym (hosts_same (λ (s : Site). record s { link = aged s.link }) (λ s. refl) w.sites) in (
          tick_reads hosts are (entries_in front) w between r runs on,
          tick_carried w (entries_in front) so.well.orderly so.well.fine (λ h s found. (so.each h s found).told)
              (λ h s found. timely w (entries_in front) _ h s so.up found (so.each h s found)) r runs ends,
        )

    pub tick_replied : (comes_to_pass TimePasses (as_it_ticks w r)).cut ≡ false
        → BeginsPass (entries_in front ++ (all_aged w).1) (comes_to_pass TimePasses (as_it_ticks w r))
        → AreRepliedIn hosts (entries_in front ++ (all_aged w).1) (comes_to_pass TimePasses (as_it_ticks w r))
    tick_replied on begins =
        let known = tick_known on in
        pass_replies hosts are (entries_in front ++ (all_aged w).1) (comes_to_pass TimePasses (as_it_ticks w r)) known.0 known.1 begins
