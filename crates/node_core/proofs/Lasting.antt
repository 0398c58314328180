-- What lasts at the ends of a node while it carries out deeds and has its turns: how many control frames wait there, the age of the
-- notice, and that an end is held while a message waits there.
use Rattle.node_core.proofs.Words.{AllByRecursion, AreAllDifferent, Asks, Bool, Commits, Deed, DeskOf, Drops, EndState, Ends, FetchMessage, Give, GoesOn, Hears}
use Rattle.node_core.proofs.Words.{Hold, IsAnswered, List, Machine, Message, None, Option, Orders, Port, Release, Releases, SaysOk, Sends, SetAside, SetsErrors}
use Rattle.node_core.proofs.Words.{Some, Tells, Turn, Work, [], after_turn, all_done, ap, arith, changed_if, deeds_of, done, drop, eq-eqb, eqb-true, false}
use Rattle.node_core.proofs.Words.{goes_through_ends, got_at, handles, have_turns, held_at, holds_back, lack, length, length-append, lets_go, map, needs, not}
use Rattle.node_core.proofs.Words.{option_map_or, passes, port_at, refl, subst, sym, true, true≢false, with_port, with_ready, ℕ, ◌+◌, ◌==◌, ◌||◌, ◌∙◌, ◌∷◌, ◌≡◌}
use Rattle.node_core.proofs.Words.{◌≢◌, ◌≤◌}
use Rattle.shdlc_core.specs.declared.answers.Due.TheVariants.{Rr as Rr_due}
use Rattle.node_machine.specs.Parts.{Notice}
use Rattle.link_laws.specs.machine.Machine.{turn}
use Rattle.node_core.proofs.Quiet.{commit_ports}
use Rattle.node_core.proofs.Joining.{stays_cut, goes_on}
use Rattle.node_core.proofs.Elsewhere.{host_at, turns_hosts}

-- ## What is looked at

-- at an end: how many control frames wait to be sent, the messages that came, and whether it takes fragments
abbrev pub Seen : Type 0
Seen = ℕ × List Message × Bool

abbrev pub seen_of : Machine → Seen
seen_of e = (length e.acts + length e.shdlc.due, e.got, e.shdlc.ready)

-- the age of the notice of a desk, where there is one
abbrev pub notice_age : DeskOf → ℕ
notice_age d = option_map_or (λ (n : Notice). n.age) d.notice 0

-- it is so of an end: of what is seen there, of its host, and of the age of its notice
abbrev pub Fact : Type 1
Fact = Seen → ℕ → ℕ → Type 0

abbrev pub Of : Fact → Port → Type 0
Of F p = F (seen_of p.side) p.desk.host (notice_age p.desk)

-- of each end
abbrev pub OfAll : Fact → List Port → Type 0
OfAll F ports = AllByRecursion (λ (p : Port). Of F p) ports

-- it stays so with a younger notice
abbrev pub StaysYounger : Fact → Type 0
StaysYounger F = (s : Seen) (h a b : ℕ) → a ≤ b → F s h b → F s h a

-- ## What is done to one end

turned_so : (F : Fact) (t : Turn) (p : Port) → seen_of (turn p.side t) ≡ seen_of p.side → Of F p → Of F (after_turn t p)
turned_so F t p same is = let P : Seen → Type 0 = λ s. F s p.desk.host (notice_age p.desk) in subst P (sym same) is

given_so : (F : Fact) (m : Message) (p : Port) → Of F p → Of F (after_turn (Give m) p)
given_so F m p is = turned_so F (Give m) p (grind arith) is

aside_so : (F : Fact) (p : Port) → Of F p → Of F (after_turn SetAside p)
aside_so F p is = turned_so F SetAside p (grind arith) is

freed_so : (F : Fact) (p : Port) → Of F p → Of F (after_turn Release p)
freed_so F p is = turned_so F Release p refl is

-- ## All ends

pub each_so : (P Q : Port → Type 0) (f : Port → Port) → ((p : Port) → P p → Q (f p)) → (ports : List Port) → AllByRecursion P ports
    → AllByRecursion Q (map f ports)
each_so P Q f on [] all = tt
each_so P Q f on (p ∷ ports) all = (on p all.0, each_so P Q f on ports all.1)

pub each_is : (P Q : Port → Type 0) → ((p : Port) → P p → Q p) → (ports : List Port) → AllByRecursion P ports → AllByRecursion Q ports
each_is P Q on [] all = tt
each_is P Q on (p ∷ ports) all = (on p all.0, each_is P Q on ports all.1)

pub port_so : (F : Fact) (h : ℕ) (f : Port → Port) → ((p : Port) → Of F p → Of F (f p)) → (ports : List Port) → OfAll F ports
    → OfAll F (with_port h f ports)
port_so F h f on ports all =
    each_so (λ (p : Port). Of F p) (λ (p : Port). Of F p) (λ (p : Port). changed_if (p.desk.host == h) f p) (λ p. one p (p.desk.host == h)) ports all
  where
    one : (p : Port) (b : Bool) → Of F p → Of F (changed_if b f p)
    one p b is = grind arith

desk_so : (F : Fact) → StaysYounger F → (h : ℕ) (f : DeskOf → DeskOf) → ((d : DeskOf) → (f d).host ≡ d.host)
    → ((d : DeskOf) → notice_age (f d) ≤ notice_age d) → (ports : List Port) → OfAll F ports
    → OfAll F (with_port h (λ p. record p { desk = f p.desk }) ports)
desk_so F stays h f same younger ports all =
    port_so F h (λ p. record p { desk = f p.desk })
    (λ p is. (let P : ℕ → Type 0 = λ n. F (seen_of p.side) n (notice_age (f p.desk)) in
    subst P (sym (same p.desk)) (stays (seen_of p.side) p.desk.host (notice_age (f p.desk)) (notice_age p.desk) (younger p.desk) is))) ports all

-- ## Deeds

pub done_so : (F : Fact) → StaysYounger F → (h : ℕ) (d : Deed) (w : Work) → OfAll F w.ports → OfAll F (done h d w).ports
done_so F stays h (Commits c) w all = let P : List Port → Type 0 = λ ports. OfAll F ports in subst P (sym (commit_ports c w)) all
done_so F stays h (Sends to m) w all = port_so F to (after_turn (Give m)) (given_so F m) w.ports all
done_so F stays h SaysOk w all = all
done_so F stays h (Asks to message c) w all =
    desk_so F stays to _ (λ d. refl) (λ d. omega arith) (with_port to (after_turn (Give (1, message))) (with_port c.asker (after_turn SetAside) w.ports))
    (port_so F to (after_turn (Give (1, message))) (given_so F (1, message)) (with_port c.asker (after_turn SetAside) w.ports)
    (port_so F c.asker (after_turn SetAside) (aside_so F) w.ports all))
done_so F stays h (Releases asker) w all = port_so F asker (after_turn Release) (freed_so F) w.ports all
done_so F stays h (Tells to message) w all =
    desk_so F stays to _ (λ d. refl) (λ d. omega arith) (with_port to (after_turn (Give (1, message))) w.ports)
    (port_so F to (after_turn (Give (1, message))) (given_so F (1, message)) w.ports all)
done_so F stays h IsAnswered w all = desk_so F stays h _ (λ d. refl) (λ d. omega arith) w.ports all
done_so F stays h (Drops pid) w all = all
done_so F stays h (SetsErrors errors) w all = desk_so F stays h _ (λ d. refl) (λ d. omega arith) w.ports all
done_so F stays h (Orders message) w all = port_so F h (after_turn (Give (1, message))) (given_so F (1, message)) w.ports all
done_so F stays h Hears w all = all
done_so F stays h (GoesOn i) w all = all
done_so F stays h (Ends e) w all = all

pub all_done_so : (F : Fact) → StaysYounger F → (h : ℕ) (deeds : List Deed) (w : Work) → OfAll F w.ports → OfAll F (all_done h deeds w).ports
all_done_so F stays h [] w all = all
all_done_so F stays h (d ∷ deeds) w all = by (all_done_so F stays h deeds (done h d w)) (done h d w).cut refl
  where
    first : OfAll F (done h d w).ports
    first = done_so F stays h d w all

    P : Work → Type 0
    P v = OfAll F v.ports

    by : (OfAll F (done h d w).ports → OfAll F (all_done h deeds (done h d w)).ports) → (b : Bool) → (done h d w).cut ≡ b
        → OfAll F (all_done h (d ∷ deeds) w).ports
    by later true q = subst P (sym (stays_cut (all_done h deeds) (done h d w) q)) first
    by later false q = subst P (sym (goes_on (all_done h deeds) (done h d w) q)) (later first)

-- ## The end whose messages have their turns

abbrev pub pick : Bool → Type 0 → Type 0 → Type 0
pick true A B = A
pick false A B = B

-- one thing is so of the end of this host, and another of the others
abbrev pub Either : ℕ → Fact → Fact → Fact
Either h F G s k a = pick (k == h) (F s k a) (G s k a)

either_stays : (h : ℕ) (F G : Fact) → StaysYounger F → StaysYounger G → StaysYounger (Either h F G)
either_stays h F G one other s k a b less = grind arith

-- the end of this host is changed
change_so : (h : ℕ) (F F2 G : Fact) (f : Port → Port) → ((p : Port) → (f p).desk.host ≡ p.desk.host) → ((p : Port) → Of F p → Of F2 (f p))
    → (ports : List Port) → OfAll (Either h F G) ports → OfAll (Either h F2 G) (with_port h f ports)
change_so h F F2 G f same on ports all =
    each_so (λ (p : Port). Of (Either h F G) p) (λ (p : Port). Of (Either h F2 G) p) (λ (p : Port). changed_if (p.desk.host == h) f p)
    (λ p. one p (p.desk.host == h) refl) ports all
  where
    there : (p : Port) → (p.desk.host == h) ≡ true → Of F2 (f p) → Of (Either h F2 G) (f p)
    there p q is = grind arith

    one : (p : Port) (b : Bool) → (p.desk.host == h) ≡ b → Of (Either h F G) p → Of (Either h F2 G) (changed_if b f p)
    one p b q is = grind arith

either_is : (h : ℕ) (F F2 G : Fact) → ((p : Port) → Of F p → Of F2 p) → (ports : List Port) → OfAll (Either h F G) ports
    → OfAll (Either h F2 G) ports
either_is h F F2 G on ports all =
    each_is (λ (p : Port). Of (Either h F G) p) (λ (p : Port). Of (Either h F2 G) p) (λ p. one p (p.desk.host == h)) ports all
  where
    one : (p : Port) (b : Bool) → pick b (Of F p) (Of G p) → pick b (Of F2 p) (Of G p)
    one p b is = grind arith

-- ## What is so before its turns and behind them

-- at most n control frames wait, and the notice is in time
abbrev pub Ready : ℕ → Fact
Ready n s h a = (s.0 ≤ n) × (a ≤ 99)

-- and these messages wait
abbrev pub Waits : ℕ → List Message → Fact
Waits n ms s h a = Ready n s h a × (s.1 ≡ ms)

-- one more control frame may wait, and the end is held while a message waits
abbrev pub Rests : ℕ → Fact
Rests n s h a = Ready (n + 1) s h a × ((s.1 ≡ [] → ⊥) → not s.2 ≡ true)

pub ready_stays : (n : ℕ) → StaysYounger (Ready n)
ready_stays n s h a b less is = let t = is.1 in (is.0, omega (arith, less, t))

waits_stays : (n : ℕ) (ms : List Message) → StaysYounger (Waits n ms)
waits_stays n ms s h a b less is = (ready_stays n s h a b less is.0, is.1)

pub rests_stays : (n : ℕ) → StaysYounger (Rests n)
rests_stays n s h a b less is = (ready_stays (n + 1) s h a b less is.0, is.1)

-- ## An end is held, or let go

held_ready : (e : EndState) (r : Bool) → (with_ready e r).ready ≡ r
held_ready e r = grind arith

held_due : (e : EndState) (r : Bool) → length (with_ready e r).due ≤ length e.due + 1
held_due e r = go e.ready r refl
  where
    go : (a b : Bool) → e.ready ≡ a → length (with_ready e b).due ≤ length e.due + 1
    go true true q = rw q (omega arith)
    go false false q = rw q (omega arith)
    go true false q = rw q (omega arith)
    go false true q = by e.session.answered_rnr refl
      where
        by : (c : Bool) → e.session.answered_rnr ≡ c → length (with_ready e true).due ≤ length e.due + 1
        by true x = let l = length-append e.due (Rr_due ∷ []) in rw (q, x) (omega (arith, l))
        by false x = rw (q, x) (omega arith)

hold_ready : (n : ℕ) (b : Bool) (p : Port) → Of (Ready n) p → Of (Ready (n + 1)) (after_turn (Hold b) p)
hold_ready n b p is = (omega (arith, is.0, held_due p.side.shdlc (not b)), is.1)

hold_rests : (n : ℕ) (ms : List Message) (p : Port) → Of (Waits n ms) p → Of (Rests n) (after_turn (Hold true) p)
hold_rests n ms p is = (hold_ready n true p is.0, λ some. ap not (held_ready p.side.shdlc false))

go_rests : (n : ℕ) (p : Port) → Of (Waits n []) p → Of (Rests n) (after_turn (Hold false) p)
go_rests n p is = (hold_ready n false p is.0, λ some. absurd (some is.1))

none_rests : (n : ℕ) (p : Port) → Of (Waits n []) p → Of (Rests n) p
none_rests n p is = grind arith

fetched_waits : (n : ℕ) (m : Message) (ms : List Message) (p : Port) → Of (Waits n (m ∷ ms)) p → Of (Waits n ms) (after_turn FetchMessage p)
fetched_waits n m ms p is = (is.0, ap (λ (got : List Message). drop 1 got) is.1)

-- ## Turns at one end

let_go_rests : (n h : ℕ) (G : Fact) (w : Work) → OfAll (Either h (Waits n []) G) w.ports → OfAll (Either h (Rests n) G) (lets_go h w).ports
let_go_rests n h G w all = by (held_at w.ports h) refl
  where
    P : Work → Type 0
    P v = OfAll (Either h (Rests n) G) v.ports

    by : (b : Bool) → held_at w.ports h ≡ b → OfAll (Either h (Rests n) G) (lets_go h w).ports
    by true q = rw q (change_so h (Waits n []) (Rests n) G (after_turn (Hold false)) (λ p. refl) (go_rests n) w.ports all)
    by false q = rw q (either_is h (Waits n []) (Rests n) G (none_rests n) w.ports all)

hold_back_rests : (n h : ℕ) (ms : List Message) (G : Fact) → StaysYounger G → (short : ℕ × ℕ) (w : Work) → OfAll (Either h (Waits n ms) G) w.ports
    → OfAll (Either h (Rests n) G) (holds_back h short w).ports
hold_back_rests n h ms G stays short w all = by (option_map_or (λ (p : Port). p.desk.holds) (port_at w.ports h) false) refl
  where
    by : (b : Bool) → option_map_or (λ (p : Port). p.desk.holds) (port_at w.ports h) false ≡ b
        → OfAll (Either h (Rests n) G) (holds_back h short w).ports
    by true q = rw q (change_so h (Waits n ms) (Rests n) G (after_turn (Hold true)) (λ p. refl) (hold_rests n ms) w.ports all)
    by false q =
        rw q (change_so h (Waits n ms) (Rests n) G (after_turn (Hold true)) (λ p. refl) (hold_rests n ms)
        (with_port h (λ p. record p { desk = record p.desk { holds = true } }) w.ports)
        (desk_so (Either h (Waits n ms) G) (either_stays h (Waits n ms) G (waits_stays n ms) stays) h _ (λ d. refl) (λ d. omega arith) w.ports all))

handled_waits : (n h : ℕ) (m : Message) (ms : List Message) (G : Fact) → StaysYounger G → (deeds : List Deed) (w : Work)
    → OfAll (Either h (Waits n (m ∷ ms)) G) w.ports → OfAll (Either h (Waits n ms) G) (handles h m deeds w).ports
handled_waits n h m ms G stays deeds w all =
    let F : Fact = Either h (Waits n ms) G in
    let young : StaysYounger F = either_stays h (Waits n ms) G (waits_stays n ms) stays in
    all_done_so F young h deeds _
    (desk_so F young h (λ d. record d { holds = false }) (λ d. refl) (λ d. omega arith) (with_port h (after_turn FetchMessage) w.ports)
    (change_so h (Waits n (m ∷ ms)) (Waits n ms) G (after_turn FetchMessage) (λ p. refl) (fetched_waits n m ms) w.ports all))

turns_rest : (n h : ℕ) (G : Fact) → StaysYounger G → (ms : List Message) (w : Work) → OfAll (Either h (Waits n ms) G) w.ports
    → (have_turns h ms w).cut ≡ false → OfAll (Either h (Rests n) G) (have_turns h ms w).ports
turns_rest n h G stays [] w all live = let_go_rests n h G w all
turns_rest n h G stays (m ∷ ms) w all live =
    by (turns_rest n h G stays ms (handles h m (deeds_of w.core w.ports h m) w)) (lack w.ports (needs h (deeds_of w.core w.ports h m))) refl
  where
    done_so_far : Work
    done_so_far = handles h m (deeds_of w.core w.ports h m) w

    P : Work → Type 0
    P v = OfAll (Either h (Rests n) G) v.ports

    stop : done_so_far.cut ≡ true → lack w.ports (needs h (deeds_of w.core w.ports h m)) ≡ None → have_turns h (m ∷ ms) w ≡ done_so_far
    stop c q = rw (q, c) refl

    on : done_so_far.cut ≡ false → lack w.ports (needs h (deeds_of w.core w.ports h m)) ≡ None
        → have_turns h (m ∷ ms) w ≡ have_turns h ms done_so_far
    on c q = rw (q, c) refl

    back : (short : ℕ × ℕ) → lack w.ports (needs h (deeds_of w.core w.ports h m)) ≡ Some short → have_turns h (m ∷ ms) w ≡ holds_back h short w
    back short q = rw q refl

    Later : Type 0
    Later = OfAll (Either h (Waits n ms) G) done_so_far.ports → (have_turns h ms done_so_far).cut ≡ false
        → OfAll (Either h (Rests n) G) (have_turns h ms done_so_far).ports

    behind : Later → (b : Bool) → done_so_far.cut ≡ b → lack w.ports (needs h (deeds_of w.core w.ports h m)) ≡ None
        → OfAll (Either h (Rests n) G) (have_turns h (m ∷ ms) w).ports
    behind later true c q = absurd (true≢false (sym (ap (λ (v : Work). v.cut) (stop c q) ∙ c) ∙ live))
    behind later false c q =
        let is = on c q in
        subst P (sym is) (later (handled_waits n h m ms G stays (deeds_of w.core w.ports h m) w all)
        (sym (ap (λ (v : Work). v.cut) is) ∙ live))

    by : Later → (o : Option (ℕ × ℕ)) → lack w.ports (needs h (deeds_of w.core w.ports h m)) ≡ o
        → OfAll (Either h (Rests n) G) (have_turns h (m ∷ ms) w).ports
    by later None q = behind later done_so_far.cut refl q
    by later (Some short) q = subst P (sym (back short q)) (hold_back_rests n h (m ∷ ms) G stays short w all)

-- ## All ends

abbrev pub is_among : ℕ → List ℕ → Bool
is_among g [] = false
is_among g (h ∷ hosts) = (g == h) || is_among g hosts

-- the ends of these hosts had no turns yet
abbrev pub Mixed : ℕ → List ℕ → Fact
Mixed n hosts s h a = pick (is_among h hosts) (Ready n s h a) (Rests n s h a)

mixed_stays : (n : ℕ) (hosts : List ℕ) → StaysYounger (Mixed n hosts)
mixed_stays n hosts s k a b less = by (is_among k hosts)
  where
    by : (t : Bool) → pick t (Ready n s k b) (Rests n s k b) → pick t (Ready n s k a) (Rests n s k a)
    by true is = ready_stays n s k a b less is
    by false is = rests_stays n s k a b less is

none_among : (g : ℕ) (hosts : List ℕ) → AllByRecursion (λ (k : ℕ). k ≢ g) hosts → is_among g hosts ≡ false
none_among g [] differ = refl
none_among g (h ∷ hosts) differ = let h0 = g == h in let h1 = none_among g hosts differ.1 in grind arith

turn_begins : (n h : ℕ) (hosts : List ℕ) (ports : List Port) → AreAllDifferent (map host_at ports) → OfAll (Mixed n (h ∷ hosts)) ports
    → OfAll (Either h (Waits n (got_at ports h)) (Mixed n hosts)) ports
turn_begins n h hosts [] differ all = tt
turn_begins n h hosts (p ∷ ports) differ all = by (turn_begins n h hosts ports differ.1 all.1) (p.desk.host == h) refl
  where
    X : List Message → Fact
    X ms = Either h (Waits n ms) (Mixed n hosts)

    elsewhere_so : (ms : List Message) (q : Port) → (q.desk.host == h) ≡ false → Of (Mixed n (h ∷ hosts)) q → Of (X ms) q
    elsewhere_so ms q is so = grind arith

    others : (ms : List Message) (qs : List Port) → AllByRecursion (λ (g : ℕ). g ≢ h) (map host_at qs) → OfAll (Mixed n (h ∷ hosts)) qs
        → OfAll (X ms) qs
    others ms [] apart so = tt
    others ms (q ∷ qs) apart so = (elsewhere_so ms q (grind arith) so.0, others ms qs apart.1 so.1)

    here_got : (p.desk.host == h) ≡ true → got_at (p ∷ ports) h ≡ p.side.got
    here_got q = rw q refl

    behind_got : (p.desk.host == h) ≡ false → got_at (p ∷ ports) h ≡ got_at ports h
    behind_got q = rw q refl

    by : OfAll (X (got_at ports h)) ports → (b : Bool) → (p.desk.host == h) ≡ b → OfAll (X (got_at (p ∷ ports) h)) (p ∷ ports)
    by later true q =
        let N : ℕ → Type 0 = λ m. AllByRecursion (λ (g : ℕ). g ≢ m) (map host_at ports) in
        let P : Bool → Type 0 = λ t. pick t (Of (Waits n (got_at (p ∷ ports) h)) p) (Of (Mixed n hosts) p) in (
          subst P (sym q) (grind arith, sym (here_got q)),
          others (got_at (p ∷ ports) h) ports (subst N (eqb-true p.desk.host h q) differ.0) all.1,
        )
    by later false q =
        (elsewhere_so (got_at (p ∷ ports) h) p q all.0, subst (λ ms. OfAll (X ms) ports) (sym (behind_got q)) later)

turn_ends : (n h : ℕ) (hosts : List ℕ) → AllByRecursion (λ (k : ℕ). k ≢ h) hosts → (ports : List Port)
    → OfAll (Either h (Rests n) (Mixed n hosts)) ports → OfAll (Mixed n hosts) ports
turn_ends n h hosts differ ports all =
    each_is (λ (p : Port). Of (Either h (Rests n) (Mixed n hosts)) p) (λ (p : Port). Of (Mixed n hosts) p) (λ p. one p (p.desk.host == h) refl) ports all
  where
    none : (p : Port) → (p.desk.host == h) ≡ true → is_among p.desk.host hosts ≡ false
    none p q = ap (λ k. is_among k hosts) (eqb-true p.desk.host h q) ∙ none_among h hosts differ

    one : (p : Port) (b : Bool) → (p.desk.host == h) ≡ b → Of (Either h (Rests n) (Mixed n hosts)) p → Of (Mixed n hosts) p
    one p true q is =
        let P : Bool → Type 0 = λ t. pick t (Of (Rests n) p) (Of (Mixed n hosts) p) in
        subst (λ t. pick t (Of (Ready n) p) (Of (Rests n) p)) (sym (none p q)) (subst P q is)
    one p false q is = let P : Bool → Type 0 = λ t. pick t (Of (Rests n) p) (Of (Mixed n hosts) p) in subst P q is

goes_rests : (n : ℕ) (hosts : List ℕ) (w : Work) → AreAllDifferent hosts → AreAllDifferent (map host_at w.ports) → OfAll (Mixed n hosts) w.ports
    → (goes_through_ends hosts w).cut ≡ false → OfAll (Rests n) (goes_through_ends hosts w).ports
goes_rests n [] w different differ all live = all
goes_rests n (h ∷ hosts) w different differ all live = by (goes_rests n hosts (have_turns h (got_at w.ports h) w)) v.cut refl
  where
    v : Work
    v = have_turns h (got_at w.ports h) w

    P : Work → Type 0
    P u = OfAll (Rests n) u.ports

    Later : Type 0
    Later = AreAllDifferent hosts → AreAllDifferent (map host_at v.ports) → OfAll (Mixed n hosts) v.ports
        → (goes_through_ends hosts v).cut ≡ false → OfAll (Rests n) (goes_through_ends hosts v).ports

    by : Later → (b : Bool) → v.cut ≡ b → OfAll (Rests n) (goes_through_ends (h ∷ hosts) w).ports
    by later true q = absurd (true≢false (sym (ap (λ (u : Work). u.cut) (stays_cut (goes_through_ends hosts) v q) ∙ q) ∙ live))
    by later false q =
        let is = goes_on (goes_through_ends hosts) v q in
        let rest = turns_rest n h (Mixed n hosts) (mixed_stays n hosts) (got_at w.ports h) w (turn_begins n h hosts w.ports differ all) q in
        subst P (sym is) (later different.1 (subst (λ ns. AreAllDifferent ns) (sym (turns_hosts h (got_at w.ports h) w)) differ)
        (turn_ends n h hosts different.0 v.ports rest) (sym (ap (λ (u : Work). u.cut) is) ∙ live))

all_mixed : (n : ℕ) (hosts : List ℕ) (ports : List Port) → ((g : ℕ) → is_among g (map host_at ports) ≡ true → is_among g hosts ≡ true)
    → OfAll (Ready n) ports → OfAll (Mixed n hosts) ports
all_mixed n hosts [] sub all = tt
all_mixed n hosts (p ∷ ports) sub all =
    let here : (p.desk.host == p.desk.host) ≡ true = eq-eqb p.desk.host p.desk.host refl in
    let P : Bool → Type 0 = λ t. pick t (Of (Ready n) p) (Of (Rests n) p) in
    (subst P (sym (sub p.desk.host (grind arith))) all.0, all_mixed n hosts ports (λ g q. sub g (let h0 = g == p.desk.host in grind arith)) all.1)

-- What a pass leaves at the ends, where no write fails.
pub passes_rest : (n : ℕ) (w : Work) → AreAllDifferent (map host_at w.ports) → OfAll (Ready n) w.ports → (passes w).cut ≡ false
    → OfAll (Rests n) (passes w).ports
passes_rest n w differ all live = goes_rests n (map host_at w.ports) w differ differ (all_mixed n (map host_at w.ports) w.ports (λ g q. q) all) live
