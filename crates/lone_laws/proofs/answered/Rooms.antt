-- The session of the end of a node alone, and the blocks that it has to spare, are what is read at each turn of a step.
use Rattle.lone_laws.proofs.Words.{Bool, Command, Commits, Deed, Desk, Drops, End, Entry, Give, Hold, IsAnswered, IsFine, IsSendable, LinkEnd, List, Message}
use Rattle.lone_laws.proofs.Words.{None, Port, Release, Releases, SaysOk, Sends, SetAside, SetsErrors, Side, Some, Sound, Turn, Work, [], after_turn, ap}
use Rattle.lone_laws.proofs.Words.{append-nil, append_assoc, arith, body_of, by_option, by_test, changed_if, commit, commit_writes, cond, done, end_of}
use Rattle.lone_laws.proofs.Words.{end_of_node, end_of_node_alone, entries_for, eqb, eqb-true, fails_within, false, fetched_acked, fragments_of, give_refusal}
use Rattle.lone_laws.proofs.Words.{given, is_up, keeps, length, loses_power, most_frames, noted_of, noting, option_map_or, own_side, port_at}
use Rattle.lone_laws.proofs.Words.{refl, same_end, same_end_itself, sent_all, sound_turn, spare, spare_at, subst, sym, true, true≢false, turn}
use Rattle.lone_laws.proofs.Words.{turn_at, turn_entry, whole_acked, whole_among, whole_given, with_desk, with_port, ℕ, ◌++◌, ◌∙◌, ◌∷◌, ◌≡◌}
use Rattle.trace_model.specs.declared.entry.Entry.TheVariants as entry
use Rattle.link_laws.proofs.sessions.Ties.{after_frames-phase}
use Rattle.lone_laws.proofs.answered.Memories.{IsOwnDeed}
use Rattle.lone_laws.proofs.answered.Talking.{AreSilent, Reads, kind_of, reads_sent, reads_silent, talk_of_side}
use Rattle.lone_laws.proofs.answered.Turning.{own_end}

-- ## A turn of its node

-- what a node alone does to its end
abbrev pub IsLoneTurn : Turn → Type 0
IsLoneTurn (Give m) = IsSendable m
IsLoneTurn SetAside = ⊥
IsLoneTurn _ = Unit {0}

pub lone_turn_sound : (s : LinkEnd) (x : Turn) → IsLoneTurn x → Sound s → Sound (turn s x)
lone_turn_sound s (Give m) may a = sound_turn s (Give m) (may, tt) a
lone_turn_sound s SetAside may a = absurd may
lone_turn_sound s x may a = sound_turn s x tt a

given_talk : (s : LinkEnd) (m : Message) (k : ℕ) → IsSendable m → Sound s
    → talk_of_side (given s m) k ≡ record (talk_of_side s k) { sent = s.sent ++ m ∷ [] }
given_talk s m k may sound =
    let len : length s.shdlc.session.out ≡ length (fragments_of s.sent) = ap (λ (xs : List (List ℕ)). length xs) sound.is.out in
    ap (λ c. record (talk_of_side s k) { sent = s.sent ++ m ∷ []; acked = c })
    (whole_given s.sent m s.shdlc.session.acked (let n = may.1 in omega (arith, n)) (omega (arith, len, sound.is.acked, sound.is.reached)))

module _ (e : End) (n : ℕ) (who : Side) (h : ℕ) (own : same_end (end_of h who) e ≡ true) (t : List Entry) where
  none_more : (k : ℕ) (s : LinkEnd) → Reads e n k t (talk_of_side s k) → Reads e n k (t ++ []) (talk_of_side s k)
  none_more k s r = subst (λ l. Reads e n k l (talk_of_side s k)) (sym (append-nil t)) r

  sent_reads : (s : LinkEnd) (k : ℕ) (m : Message) → IsSendable m → Sound s → Reads e n k t (talk_of_side s k)
      → Reads e n k (t ++ entries_for h (turn_entry who k s (Give m))) (talk_of_side (turn s (Give m)) k)
  sent_reads s k m may sound r = by_option (give_refusal s m)
      (λ q. rw q (subst (Reads e n k (t ++ entry.Sent (end_of h who) k m.0 m.1 ∷ [])) (sym (given_talk s m k may sound))
      (reads_sent e n t (end_of h who) own k (talk_of_side s k) k m.0 m.1 (grind arith) r)))
      (λ why q. rw q (none_more k s r))

  pub turn_reads : (s : LinkEnd) (k : ℕ) (x : Turn) → IsLoneTurn x → Sound s → Reads e n k t (talk_of_side s k)
      → Reads e n k (t ++ entries_for h (turn_entry who k s x)) (talk_of_side (turn s x) k)
  turn_reads s k (Give m) may sound r = sent_reads s k m may sound r
  turn_reads s k (Hold held) may sound r = let h0 = none_more k s r in grind arith
  turn_reads s k SetAside may sound r = absurd may
  turn_reads s k _ may sound r = none_more k s r

-- ## A node alone in a step

-- What is read of the session of its one end, which has this number, is what the end has.
pub record Talks (number h s : ℕ) (t : List Entry) (w : Work) : Type 0 where
  pub port : Port
  pub ports_are : w.ports ≡ port ∷ []
  pub host : port.desk.host ≡ h
  pub node : w.core.node ≡ number
  pub same : port.session ≡ s
  pub aside : port.side.aside ≡ 0
  pub role : kind_of port.side.role ≡ Some (eqb number 0)
  pub sound : Sound port.side
  pub talk : Reads (end_of_node_alone number h) number s (t ++ w.entries) (talk_of_side port.side s)

-- so it stays where no more than the desk of its end changes
talks_as : {number h s : ℕ} {t : List Entry} {w : Work} (a : Talks number h s t w) (d : Desk) (ps : List Port) (es : List Entry)
    → ps ≡ record a.port { desk = d } ∷ [] → d.host ≡ h → Reads (end_of_node_alone number h) number s (t ++ es) (talk_of_side a.port.side s)
    → Talks number h s t (record w { ports = ps; entries = es })
talks_as a d ps es ports host talk = grind arith

module _ (number h s : ℕ) (t : List Entry) where
  abbrev e : End
  e = end_of_node_alone number h

  abbrev Of : Work → Type 0
  Of w = Talks number h s t w

  -- more is noted
  then_noted : (w : Work) (es : List Entry) (side : LinkEnd) → Reads e number s ((t ++ w.entries) ++ es) (talk_of_side side s)
      → Reads e number s (t ++ (w.entries ++ es)) (talk_of_side side s)
  then_noted w es side r = subst (λ l. Reads e number s l (talk_of_side side s)) (append_assoc t w.entries es) r

  pub talks_note : (es : List Entry) (w : Work) → AreSilent es → Of w → Of (noting es w)
  talks_note es w silent a =
      talks_as a a.port.desk w.ports (w.entries ++ es) a.ports_are a.host
      (then_noted w es a.port.side (reads_silent e number s (t ++ w.entries) es (talk_of_side a.port.side s) silent a.talk))

  -- what is kept of the end changes
  pub talks_desk : (k : ℕ) (f : Desk → Desk) (w : Work) → ((d : Desk) → (f d).host ≡ d.host) → Of w → Of (with_desk k f w)
  talks_desk k f w keeps a = grind arith

  -- its node does something to it
  pub talks_turn : (k : ℕ) (y : Turn) (w : Work) → IsLoneTurn y → Of w → Of (turn_at k y w)
  talks_turn k y w may a = by_test (eqb a.port.desk.host k)
      (λ q. let noted : es ≡ noted_of w.core y a.port =
      ap (λ ps. option_map_or (noted_of w.core y) (port_at ps k) []) a.ports_are
      ∙ ap (λ b. option_map_or (noted_of w.core y) (cond b (Some a.port) None) []) q in
      record {
        port = f a.port;
        ports_are = ap (with_port k f) a.ports_are ∙ ap (λ b. changed_if b f a.port ∷ []) q;
        host = a.host;
        node = a.node;
        same = a.same;
        aside = grind arith;
        role = (grind arith) ∙ a.role;
        sound = lone_turn_sound a.port.side y may a.sound;
        talk = then_noted w es (turn a.port.side y)
            (subst (λ l. Reads e number s ((t ++ w.entries) ++ l) (talk_of_side (turn a.port.side y) s))
            (sym (noted ∙ ap (λ k. entries_for a.port.desk.host (turn_entry (own_side w.core) k a.port.side y)) a.same))
            (turn_reads e number (own_side w.core) a.port.desk.host own (t ++ w.entries) a.port.side s y may a.sound a.talk));
      })
      (λ q. let noted : es ≡ [] =
      ap (λ ps. option_map_or (noted_of w.core y) (port_at ps k) []) a.ports_are
      ∙ ap (λ b. option_map_or (noted_of w.core y) (cond b (Some a.port) None) []) q in
      talks_as a a.port.desk (turn_at k y w).ports (w.entries ++ es) (ap (with_port k f) a.ports_are ∙ ap (λ b. changed_if b f a.port ∷ []) q) a.host
      (then_noted w es a.port.side
      (subst (λ l. Reads e number s ((t ++ w.entries) ++ l) (talk_of_side a.port.side s)) (sym noted)
      (none_more e number (own_side w.core) a.port.desk.host own (t ++ w.entries) s a.port.side a.talk)))) where
        f : Port → Port
        f = after_turn y

        own : same_end (end_of a.port.desk.host (own_side w.core)) e ≡ true
        own = ap (λ z. same_end z e) (own_end w.core number h a.port.desk.host a.node a.host) ∙ same_end_itself e

        es : List Entry
        es = option_map_or (noted_of w.core y) (port_at w.ports k) []

  -- ## Deeds

  abbrev While : Work → Type 0
  While w = w.cut ≡ false → Of w

  talks_commit : (c : Command) (w : Work) → While w → While (commit c w)
  talks_commit c w a = go (fails_within (length (commit_writes w.core.journal w.core.tables (body_of c))) w.plan) where
    begun : Work
    begun = noting (entry.Command w.core.node c ∷ []) w

    by : Bool → Work
    by true = loses_power (commit_writes w.core.journal w.core.tables (body_of c)) begun
    by false = keeps c (commit_writes w.core.journal w.core.tables (body_of c)) begun

    go : (b : Bool) → While (by b)
    go true = λ q. absurd (true≢false q)
    go false = λ q.
        let b : Of begun = talks_note (entry.Command w.core.node c ∷ []) w (tt, tt) (a q) in
        grind arith

  pub talks_does : (k : ℕ) (d : Deed) (w : Work) → IsFine d × IsOwnDeed number d → While w → While (done k d w)
  talks_does k (Commits c) w may a = talks_commit c w a
  talks_does k (Sends to m) w may a = λ q. talks_turn to (Give m) w may.0 (a q)
  talks_does k SaysOk w may a = λ q. talks_note (entry.AnyOk w.core.node _ ∷ []) w (tt, tt) (a q)
  talks_does k (Releases asker) w may a = λ q. talks_turn asker Release w tt (a q)
  talks_does k IsAnswered w may a = λ q. talks_desk k (λ d. record d { notice = None }) w (λ d. refl) (a q)
  talks_does k (Drops pid) w may a = λ q. talks_note (entry.Dropped (end_of_node w.core k) pid ∷ []) w (tt, tt) (a q)
  talks_does k (SetsErrors errors) w may a = λ q. talks_desk k (λ d. record d { errors = errors }) w (λ d. refl) (a q)
  talks_does k _ w may a = absurd may.1

-- ## Spare blocks

-- the node of the end
node_is : (number h : ℕ) → (eqb number 0 ≡ false → number ≡ h)
    → cond (end_of_node_alone number h).at_host (end_of_node_alone number h).link 0 ≡ number
node_is number h its = by_test (eqb number 0) (λ q. rw q (sym (eqb-true number 0 q))) (λ q. rw q (sym (its q)))

-- The blocks that the end has to spare are read.
pub spare_is : (number h s : ℕ) (t : List Entry) (side : LinkEnd) → (eqb number 0 ≡ false → number ≡ h) → Sound side → side.aside ≡ 0
    → Reads (end_of_node_alone number h) number s t (talk_of_side side s) → spare_at t (end_of_node_alone number h) ≡ spare side
spare_is number h s t side its sound none r = grind arith

-- ## Frames go out

pub sent_same : (s : LinkEnd) (k : ℕ) → talk_of_side (sent_all s) k ≡ talk_of_side s k
sent_same s k =
    ap (λ p. record { session = cond (is_up p) (Some k) None; sent = s.sent; acked = whole_acked (sent_all s) }) (after_frames-phase most_frames s.shdlc)
    ∙ ap (λ n. record { session = cond (is_up s.shdlc.phase) (Some k) None; sent = s.sent; acked = whole_among s.sent n }) (fetched_acked most_frames s.shdlc)
