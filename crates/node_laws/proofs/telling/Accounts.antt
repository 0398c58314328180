-- A fact of a node is carried through its step, and what the node notes of the end of a link there is what the law of one link notes.
use Rattle.node_laws.proofs.Words.{About, Acked, Active, AllByRecursion, Asks, Bool, Command, Commits, Core, Deed, Desk, Down, Drops, Emit, Ends, Entry}
use Rattle.node_laws.proofs.Words.{FetchMessage, GaveUp, Give, GoesOn, Got, Hears, Hold, IsAnswered, LinkEnd, List, Lost, Message, NodeInput, None, Noted}
use Rattle.node_laws.proofs.Words.{OfHost, Option, Orders, Plain, Port, Release, Releases, Removed, SaysOk, Sends, Sent, SetAside, SetsErrors, Some, Tells}
use Rattle.node_laws.proofs.Words.{Took, Turn, Waits, Work, Write, [], after_turn, all_done, all_of_host, all_owed, all_owed_hold, all_synced_hold}
use Rattle.node_laws.proofs.Words.{answers_and_passes, any_of_controller, anyone, ap, append-nil, append_assoc, arith, body_of, by_test, changed_if, commit}
use Rattle.node_laws.proofs.Words.{commit_writes, count_of, deeds_hold, deeds_of, done, end_of, end_of_node, entries_for, entry_of, eqb-true, fails_within}
use Rattle.node_laws.proofs.Words.{false, flat_map, flat_map-append, forgotten, forgotten_hold, handles, holds_back, is_of, keeps, length, lets_go, loses_power}
use Rattle.node_laws.proofs.Words.{ne_eqb, noted_of, notified, noting, of_link, option_map_or, own_side, port_at, refl, said, same_number, subst, sym, synced}
use Rattle.node_laws.proofs.Words.{tells_of, true, true≢false, turn, turn_at, turn_entries, turn_entry, turned, with_desk, with_port, ℕ, ◌++◌, ◌==◌, ◌∙◌, ◌∷◌}
use Rattle.node_laws.proofs.Words.{◌≡◌}
use Rattle.link_laws.specs.entries.Entries.{End as Side}
use Rattle.link_laws.specs.entries.Entries.Entry.{Up}
use Rattle.node_laws.proofs.steps.StepWalks.{Lasts, all_do as all_done_so, changed_host, got_at, handled, holds_of_step_walks as holds_as, lets as lets_as}
use Rattle.node_laws.proofs.steps.StepWalks.{rest_lasts as rest_as}
use Rattle.trace_model.specs.declared.entry.Entry.TheVariants as entry

-- ## What nodes do notes nothing of a link but by what it does to an end

-- what a node notes beside its links, its turns, its boots and its power
abbrev pub IsPlain : Entry → Type 0
IsPlain (entry.Held e need spare) = Unit {0}
IsPlain (entry.Ask host message) = Unit {0}
IsPlain (entry.Dropped e pid) = Unit {0}
IsPlain (entry.Command node command) = Unit {0}
IsPlain (entry.AnyOk node count) = Unit {0}
IsPlain (entry.InitSame e) = Unit {0}
IsPlain (entry.InitMade e count) = Unit {0}
IsPlain (entry.InitFailed e code) = Unit {0}
IsPlain _ = ⊥

-- it tells of no link
plain_untold : (x : Entry) → IsPlain x → (h : ℕ) → tells_of h x ≡ false
plain_untold x p h = grind arith

-- what is noted as an init ends is so
abbrev pub IsMute : Deed → Type 0
IsMute (Ends x) = IsPlain x
IsMute _ = Unit {0}

abbrev pub AreMute : List Deed → Type 0
AreMute deeds = AllByRecursion IsMute deeds

plain : Plain IsMute
plain = record { sends = λ to x. tt; says_ok = tt; releases = λ asker. tt; is_answered = tt; drops = λ pid. tt }

own : (core : Core) → OfHost IsMute core
own core = record { commits = λ c. tt; hears = tt; goes_on = λ i. tt; orders = λ i k order is. tt; same = tt; made = λ count. tt; failed = λ code. tt }

-- ### All that is done in a step

pub deeds_mute : (core : Core) (ports : List Port) (h : ℕ) (m : Message) → AreMute (deeds_of core ports h m)
deeds_mute core ports h m =
    deeds_hold AreMute core ports h m
    (any_of_controller IsMute plain (λ c. tt) (λ to message. tt) (λ to message c. tt) (λ errors. tt) core ports h m) tt
    (λ p. all_of_host IsMute core plain (own core) p m (λ n value command zero sets. tt))

pub forgotten_mute : (ports : List Port) → AreMute (forgotten ports)
forgotten_mute ports = forgotten_hold IsMute (λ asker. tt) ports

pub all_owed_mute : (ports : List Port) → AreMute (all_owed ports)
all_owed_mute ports = all_owed_hold IsMute (λ asker. tt) (λ to r. tt) ports

pub all_synced_mute : (core : Core) (input : NodeInput) (ports : List Port) → AreMute (flat_map (synced core input) ports)
all_synced_mute core input ports = all_synced_hold IsMute (λ host id. tt) core input ports

-- ## A fact of a node is carried through all that it does in a step

-- they tell of no link
abbrev pub AreSilent : List Entry → Type 0
AreSilent t = AllByRecursion (λ (x : Entry). (h : ℕ) → tells_of h x ≡ false) t

-- they are noted beside links, turns and boots
abbrev pub ArePlain : List Entry → Type 0
ArePlain t = AllByRecursion IsPlain t

plain_silent : (t : List Entry) → ArePlain t → AreSilent t
plain_silent [] a = tt
plain_silent (x ∷ t) a = (plain_untold x a.0, plain_silent t a.1)

-- they tell of no loss of power
abbrev pub IsUncut : Entry → Type 0
IsUncut (entry.Cut node) = ⊥
IsUncut _ = Unit {0}

abbrev pub AreUncut : List Entry → Type 0
AreUncut t = AllByRecursion IsUncut t

plain_uncut : (t : List Entry) → ArePlain t → AreUncut t
plain_uncut [] a = tt
plain_uncut (x ∷ t) a = (grind arith, plain_uncut t a.1)

-- a turn of a node that fetches no message
abbrev pub IsNoFetch : Turn → Type 0
IsNoFetch FetchMessage = ⊥
IsNoFetch _ = Unit {0}

-- ### Deeds

-- what lasts over deeds, and as a message is held or none is any more
module _ (Of : Work → Type 0)
    (note : (es : List Entry) (w : Work) → ArePlain es → Of w → Of (noting es w))
    (desk : (k : ℕ) (f : Desk → Desk) (w : Work) → ((d : Desk) → (f d).host ≡ d.host) → Of w → Of (with_desk k f w))
    (turns : (k : ℕ) (t : Turn) (w : Work) → IsNoFetch t → Of w → Of (turn_at k t w))
    (beside : (w v : Work) → v.cut ≡ w.cut → v.core.node ≡ w.core.node → v.ports ≡ w.ports → v.entries ≡ w.entries → Of w → Of v)
    (loses : (writes : List Write) (w : Work) → Of w → Of (loses_power writes w)) where
  commits : (c : Command) (w : Work) → Of w → Of (commit c w)
  commits c w a = by_test (fails_within (length writes) w.plan)
      (λ q. rw q (loses writes begun (note (entry.Command w.core.node c ∷ []) w (tt, tt) a)))
      (λ q. rw q (beside begun (keeps c writes begun) refl refl refl refl (note (entry.Command w.core.node c ∷ []) w (tt, tt) a)))
    where
      writes : List Write
      writes = commit_writes w.core.journal w.core.tables (body_of c)

      begun : Work
      begun = noting (entry.Command w.core.node c ∷ []) w

  tells : (k : ℕ) (about : About) (message : List ℕ) (w : Work) → Of w → Of (notified k about message w)
  tells k about message w a =
      desk k (λ d. record d { notice = Some (record { about = about; age = 0 }) }) (turn_at k (Give (1, message)) w) (λ d. refl)
      (turns k (Give (1, message)) w tt a)

  does : (k : ℕ) (d : Deed) (w : Work) → IsMute d → Of w → Of (done k d w)
  does k (Commits c) w i a = commits c w a
  does k (Sends to m) w i a = turns to (Give m) w tt a
  does k SaysOk w i a = note (entry.AnyOk w.core.node (count_of w.core.journal) ∷ []) w (tt, tt) a
  does k (Asks to message c) w i a =
      tells to (Waits c) message (noting (entry.Ask to message ∷ []) (turn_at c.asker SetAside w))
      (note (entry.Ask to message ∷ []) (turn_at c.asker SetAside w) (tt, tt) (turns c.asker SetAside w tt a))
  does k (Releases asker) w i a = turns asker Release w tt a
  does k (Tells to message) w i a = tells to Removed message w a
  does k IsAnswered w i a = desk k (λ d. record d { notice = None }) w (λ d. refl) a
  does k (Drops pid) w i a = note (entry.Dropped (end_of_node w.core k) pid ∷ []) w (tt, tt) a
  does k (SetsErrors errors) w i a = desk k (λ d. record d { errors = errors }) w (λ d. refl) a
  does k (Orders message) w i a = grind arith
  does k Hears w i a = beside w (record w { core = record w.core { command = None } }) refl refl refl refl a
  does k (GoesOn x) w i a = beside w (record w { core = record w.core { init = Some x } }) refl refl refl refl a
  does k (Ends x) w i a = grind arith

  pub every_do : (k : ℕ) (deeds : List Deed) (w : Work) → AreMute deeds → Of w → Of (all_done k deeds w)
  every_do k deeds w i a = all_done_so Of IsMute does k deeds w i a

  held : (k : ℕ) (flag : Bool) (w : Work) → Of w → Of (turn_at k (Hold flag) w)
  held k flag w a = turns k (Hold flag) w tt a

  marked : (k : ℕ) (flag : Bool) (w : Work) → Of w → Of (with_desk k (λ d. record d { holds = flag }) w)
  marked k flag w a = desk k (λ d. record d { holds = flag }) w (λ d. refl) a

  held_told : (k need spare : ℕ) (w : Work) → Of w → Of (noting (entry.Held (end_of_node w.core k) need spare ∷ []) w)
  held_told k need spare w a = note (entry.Held (end_of_node w.core k) need spare ∷ []) w (tt, tt) a

  pub holds : (k : ℕ) (short : ℕ × ℕ) (w : Work) → Of w → Of (holds_back k short w)
  holds k short w a = holds_as Of held marked held_told k short w a

  pub lets : (k : ℕ) (w : Work) → Of w → Of (lets_go k w)
  lets k w a = lets_as Of held k w a

-- ### Steps

-- what lasts over all that is noted of no link and tells of no power, over all turns, and over the loss of power
module _ (Of : Work → Type 0)
    (note : (es : List Entry) (w : Work) → AreSilent es → AreUncut es → Of w → Of (noting es w))
    (desk : (k : ℕ) (f : Desk → Desk) (w : Work) → ((d : Desk) → (f d).host ≡ d.host) → Of w → Of (with_desk k f w))
    (turns : (k : ℕ) (t : Turn) (w : Work) → Of w → Of (turn_at k t w))
    (beside : (w v : Work) → v.cut ≡ w.cut → v.core.node ≡ w.core.node → v.ports ≡ w.ports → v.entries ≡ w.entries → Of w → Of v)
    (loses : (writes : List Write) (w : Work) → Of w → Of (loses_power writes w)) where
  pub plainly : (es : List Entry) (w : Work) → ArePlain es → Of w → Of (noting es w)
  plainly es w p a = note es w (plain_silent es p) (plain_uncut es p) a

  pub any : (k : ℕ) (t : Turn) (w : Work) → IsNoFetch t → Of w → Of (turn_at k t w)
  any k t w n a = turns k t w a

  pub all_last : (k : ℕ) (deeds : List Deed) (w : Work) → AreMute deeds → Of w → Of (all_done k deeds w)
  all_last k deeds w i a = every_do Of plainly desk any beside loses k deeds w i a

  abbrev Any : ℕ → Message → Type 0
  Any k m = Unit {0}

  all_of_it : Lasts Of IsMute Any
  all_of_it = record {
    does = does Of plainly desk any beside loses;
    turn_told = λ k m w comes a. note (entry.Turn (end_of_node w.core k) m.0 m.1 ∷ []) w ((λ h. refl), tt) (tt, tt) a;
    held_told = held_told Of plainly desk any beside loses;
    fetched = λ k w a. turns k FetchMessage w a;
    held = held Of plainly desk any beside loses;
    marked = marked Of plainly desk any beside loses;
    come = λ k w a. anyone (Any k) (λ m. tt) (got_at k w);
    causes = λ k m w comes a. deeds_mute w.core w.ports k m;
  }

  pub handling : (k : ℕ) (m : Message) (deeds : List Deed) (w : Work) → AreMute deeds → Of w → Of (handles k m deeds w)
  handling k m deeds w f a = handled Of IsMute Any all_of_it k m deeds w tt f a

  pub rest_lasts : (freed syncs owing : List Deed) (w : Work) → AreMute freed → AreMute syncs → AreMute owing → Of w
      → Of (answers_and_passes freed syncs owing w)
  rest_lasts freed syncs owing w f s o a = rest_as Of IsMute Any all_of_it freed syncs owing w f s o a

-- what lasts over all that is noted of no link, also of power, and over all turns
module _ (Of : Work → Type 0)
    (note : (es : List Entry) (w : Work) → AreSilent es → Of w → Of (noting es w))
    (desk : (k : ℕ) (f : Desk → Desk) (w : Work) → ((d : Desk) → (f d).host ≡ d.host) → Of w → Of (with_desk k f w))
    (turns : (k : ℕ) (t : Turn) (w : Work) → Of w → Of (turn_at k t w))
    (beside : (w v : Work) → v.core.node ≡ w.core.node → v.ports ≡ w.ports → v.entries ≡ w.entries → Of w → Of v) where
  lost : (writes : List Write) (w : Work) → Of w → Of (loses_power writes w)
  lost writes w a = grind arith

  pub all_do : (k : ℕ) (deeds : List Deed) (w : Work) → AreMute deeds → Of w → Of (all_done k deeds w)
  all_do k deeds w i a = all_last Of (λ es v s u b. note es v s b) desk turns (λ x v c n p q b. beside x v n p q b) lost k deeds w i a

  pub rest : (freed syncs owing : List Deed) (w : Work) → AreMute freed → AreMute syncs → AreMute owing → Of w
      → Of (answers_and_passes freed syncs owing w)
  rest freed syncs owing w f s o a =
      rest_lasts Of (λ es v s u b. note es v s b) desk turns (λ x v c n p q b. beside x v n p q b) lost freed syncs owing w f s o a

-- ## What a node notes of the end of a link in a step is what the law of one link notes of the turns that it has there

-- ### Entries

pub of-append : (h : ℕ) (a b : List Entry) → of_link h (a ++ b) ≡ of_link h a ++ of_link h b
of-append h [] b = refl
of-append h (x ∷ a) b = by_test (tells_of h x) (λ q. rw q (ap (λ z. x ∷ z) (of-append h a b))) (λ q. rw q (of-append h a b))

-- what tells nothing of it says nothing of it
pub untold : (h : ℕ) (x : Entry) → tells_of h x ≡ false → is_of h (said x) ≡ false
untold h x q = grind arith

pub of_silent : (h : ℕ) (t : List Entry) → AreSilent t → of_link h t ≡ []
of_silent h [] a = refl
of_silent h (x ∷ t) a = let none = a.0 h in rw none (of_silent h t a.1)

other_end : (k h : ℕ) (w : Side) → (k == h) ≡ false → ((end_of k w).link == h) ≡ false
other_end k h w q = grind arith

-- what is noted of another link
pub of_other : (k h : ℕ) (t : List Noted) → (k == h) ≡ false → of_link h (entries_for k t) ≡ []
of_other k h [] q = refl
of_other k h (Up w n ∷ t) q = let z = other_end k h w q in rw z (of_other k h t q)
of_other k h (Down w cause ∷ t) q = let z = other_end k h w q in rw z (of_other k h t q)
of_other k h (Active w ∷ t) q = let z = other_end k h w q in rw z (of_other k h t q)
of_other k h (GaveUp w tries ∷ t) q = let z = other_end k h w q in rw z (of_other k h t q)
of_other k h (Acked w n count ∷ t) q = let z = other_end k h w q in rw z (of_other k h t q)
of_other k h (Got w n m ∷ t) q = let z = other_end k h w q in rw z (of_other k h t q)
of_other k h (Sent w n m ∷ t) q = let z = other_end k h w q in rw z (of_other k h t q)
of_other k h (Emit w c ∷ t) q = let z = other_end k h w q in rw z (of_other k h t q)
of_other k h (Took w c ∷ t) q = let z = other_end k h w q in rw z (of_other k h t q)
of_other k h (Lost w c why ∷ t) q = let z = other_end k h w q in rw z (of_other k h t q)
of_other k h (_ ∷ t) q = of_other k h t q

-- ### Ends

pub at_changed : (ports : List Port) (h k : ℕ) (g : Port → Port) (p : Port) → ((q : Port) → (g q).desk.host ≡ q.desk.host) → port_at ports h ≡ Some p
    → port_at (with_port k g ports) h ≡ Some (changed_if (p.desk.host == k) g p)
at_changed [] h k g p keeps q = cc
at_changed (x ∷ ports) h k g p keeps q = by_test (x.desk.host == h)
    (λ e. grind arith)
    (λ e. let rest : port_at ports h ≡ Some p = rw e at q in
    rw (same ∙ e) (at_changed ports h k g p keeps rest))
  where
    y : Port
    y = changed_if (x.desk.host == k) g x

    same : (y.desk.host == h) ≡ (x.desk.host == h)
    same = ap (λ z. z == h) (changed_host (x.desk.host == k) g x keeps)

pub at_host : (ports : List Port) (h : ℕ) (p : Port) → port_at ports h ≡ Some p → (p.desk.host == h) ≡ true
at_host [] h p q = cc
at_host (x ∷ ports) h p q = by_test (x.desk.host == h)
    (λ e. grind arith)
    (λ e. at_host ports h p (rw e at q))

-- ### Turns

pub turned-append : (e : LinkEnd) (ts : List Turn) (t : Turn) → turned e (ts ++ t ∷ []) ≡ turn (turned e ts) t
turned-append e [] t = refl
turned-append e (x ∷ ts) t = turned-append (turn e x) ts t

turn_entries-append : (who : Side) (n : ℕ) (e : LinkEnd) (ts : List Turn) (t : Turn)
    → turn_entries who n e (ts ++ t ∷ []) ≡ turn_entries who n e ts ++ turn_entry who n (turned e ts) t
turn_entries-append who n e [] t = append-nil (turn_entry who n e t)
turn_entries-append who n e (x ∷ ts) t =
    ap (λ z. turn_entry who n e x ++ z) (turn_entries-append who n (turn e x) ts t)
    ∙ sym (append_assoc (turn_entry who n e x) (turn_entries who n (turn e x) ts) (turn_entry who n (turned (turn e x) ts) t))

-- ### What is known of one end in a step

-- the end of the link with this host began as e, in the session n, its notice is late or not, and all that was noted of its link
-- since these entries is of its turns
pub record Account (h : ℕ) (who : Side) (n : ℕ) (e : LinkEnd) (before : List Entry) (late : Bool) (w : Work) : Type 0 where
  pub side : own_side w.core ≡ who
  pub port : Port
  pub here : port_at w.ports h ≡ Some port
  pub session : port.session ≡ n
  pub late_is : port.late ≡ late
  pub is : port.side ≡ turned e port.turns
  pub told : of_link h w.entries ≡ before ++ of_link h (entries_for h (turn_entries who n e port.turns))

-- an end that differs in what its node keeps of it alone
pub record SameEnd (p q : Port) : Type 0 where
  pub session : q.session ≡ p.session
  pub late : q.late ≡ p.late
  pub side : q.side ≡ p.side
  pub turns : q.turns ≡ p.turns

module _ (h : ℕ) (who : Side) (n : ℕ) (e : LinkEnd) (before : List Entry) (late : Bool) where
  abbrev pub Of : Work → Type 0
  Of w = Account h who n e before late w

  pub note : (es : List Entry) (w : Work) → AreSilent es → Of w → Of (noting es w)
  note es w silent a =
      record {
        side = a.side;
        port = a.port;
        here = a.here;
        session = a.session;
        late_is = a.late_is;
        is = a.is;
        told = of-append h w.entries es ∙ (ap (λ z. of_link h w.entries ++ z) (of_silent h es silent) ∙ (append-nil (of_link h w.entries) ∙ a.told));
      }

  changed_same : (b : Bool) (g : Port → Port) (p : Port) → ((q : Port) → SameEnd q (g q)) → SameEnd p (changed_if b g p)
  changed_same b g p one = grind arith

  pub desk : (k : ℕ) (f : Desk → Desk) (w : Work) → ((d : Desk) → (f d).host ≡ d.host) → Of w → Of (with_desk k f w)
  desk k f w keeps a =
      let g : Port → Port = λ p. record p { desk = f p.desk } in
      let b : Bool = a.port.desk.host == k in
      let same : SameEnd a.port (changed_if b g a.port) = grind arith in
      record {
        side = a.side;
        port = changed_if b g a.port;
        here = at_changed w.ports h k g a.port (λ q. keeps q.desk) a.here;
        session = same.session ∙ a.session;
        late_is = same.late ∙ a.late_is;
        is = same.side ∙ (a.is ∙ ap (turned e) (sym same.turns));
        told = a.told ∙ ap (λ ts. before ++ of_link h (entries_for h (turn_entries who n e ts))) (sym same.turns);
      }

  pub turns : (k : ℕ) (t : Turn) (w : Work) → Of w → Of (turn_at k t w)
  turns k t w a = by_test (h == k) (λ q. mine (eqb-true h k q)) (λ q. others q)
    where
      p : Port
      p = a.port

      p_host : p.desk.host ≡ h
      p_host = eqb-true p.desk.host h (at_host w.ports h p a.here)

      here : port_at (turn_at k t w).ports h ≡ Some (changed_if (p.desk.host == k) (after_turn t) p)
      here = at_changed w.ports h k (after_turn t) p (λ q. refl) a.here

      new : List Entry
      new = option_map_or (noted_of w.core t) (port_at w.ports k) []

      all : of_link h (turn_at k t w).entries ≡ of_link h w.entries ++ of_link h new
      all = of-append h w.entries new

      old : List Entry
      old = of_link h (entries_for h (turn_entries who n e p.turns))

      -- it is this end
      mine : h ≡ k → Of (turn_at k t w)
      mine q =
          let one : (p.desk.host == k) ≡ true = let z = at_host w.ports h p a.here in let P : ℕ → Type 0 = λ x. (p.desk.host == x) ≡ true in subst P q z in
          let found : port_at w.ports k ≡ Some p = ap (port_at w.ports) (sym q) ∙ a.here in
          let noted : new ≡ entries_for h (turn_entry who n (turned e p.turns) t) = grind arith in
          let more : old ++ of_link h (entries_for h (turn_entry who n (turned e p.turns) t))
          ≡ of_link h (entries_for h (turn_entries who n e (p.turns ++ t ∷ []))) =
          sym (ap (λ z. of_link h (entries_for h z)) (turn_entries-append who n e p.turns t)
          ∙ (ap (of_link h) (flat_map-append (entry_of h) (turn_entries who n e p.turns) (turn_entry who n (turned e p.turns) t))
          ∙ of-append h (entries_for h (turn_entries who n e p.turns)) (entries_for h (turn_entry who n (turned e p.turns) t)))) in
          record {
            side = a.side;
            port = after_turn t p;
            here = here ∙ ap (λ b. Some (changed_if b (after_turn t) p)) one;
            session = a.session;
            late_is = a.late_is;
            is = ap (λ x. turn x t) a.is ∙ sym (turned-append e p.turns t);
            told =
                all ∙ (ap (λ z. z ++ of_link h new) a.told ∙ (append_assoc before old (of_link h new)
                ∙ ap (λ z. before ++ z) (ap (λ z. old ++ of_link h z) noted ∙ more)));
          }

      -- it is another one
      others : (h == k) ≡ false → Of (turn_at k t w)
      others q =
          let one : (p.desk.host == k) ≡ false = ap (λ x. x == k) p_host ∙ q in
          record {
            side = a.side;
            port = p;
            here = here ∙ ap (λ b. Some (changed_if b (after_turn t) p)) one;
            session = a.session;
            late_is = a.late_is;
            is = a.is;
            told = all ∙ (ap (λ z. of_link h w.entries ++ z) (none (port_at w.ports k) refl) ∙ (append-nil (of_link h w.entries) ∙ a.told));
          }
        where
          none : (o : Option Port) → port_at w.ports k ≡ o → of_link h new ≡ []
          none None r = ap (λ o. of_link h (option_map_or (noted_of w.core t) o [])) r
          none (Some x) r =
              ap (λ o. of_link h (option_map_or (noted_of w.core t) o [])) r
              ∙ of_other x.desk.host h (turn_entry (own_side w.core) x.session x.side t)
              (ap (λ y. y == h) (eqb-true x.desk.host k (at_host w.ports k x r)) ∙ swapped)
            where
              swapped : (k == h) ≡ false
              swapped = ne_eqb k h (λ z. true≢false (sym (ap (λ y. h == y) z ∙ same_number h) ∙ q))

  -- what is no end and no entry may change
  pub beside : (w v : Work) → v.core.node ≡ w.core.node → v.ports ≡ w.ports → v.entries ≡ w.entries → Of w → Of v
  beside w v core ports entries a = grind arith
