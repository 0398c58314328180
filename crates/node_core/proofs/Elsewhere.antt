-- What the turns of the messages at one end leave of the other ends.
use Rattle.node_core.proofs.Words.{AllByRecursion, AreAllDifferent, AreFewDue, AreOfHosts, Bool, DeedOf, FewAreDue, Hold, LinkState, List, Message, None}
use Rattle.node_core.proofs.Words.{Option, PoolState, Port, Seat, SeatsStandFor, Some, Work, [], after_turn, ap, ap₂, arith, deeds_of, drop, false, handles}
use Rattle.node_core.proofs.Words.{have_turns, held_at, holds_back, lack, length, lets_go, map, needs, not, option_map, option_map_or, port_at, refl, slice_get}
use Rattle.node_core.proofs.Words.{subst, suc, sym, true, with_port, zero, ℕ, ◌==◌, ◌∙◌, ◌∷◌, ◌≡◌, ◌≢◌, ◌≤◌}
use Rattle.node_ends.specs.Ends.{HaveOwnHosts}
use Rattle.node_ends.proofs.Changing.{host_is}
use Rattle.node_core.proofs.Quiet.{Quiet, LinkSeen, quiet_at, link_at, handles_quiet, few_kept}
use Rattle.node_core.proofs.Sendables.{found_all}

-- ## Hosts

abbrev pub host_at : Port → ℕ
host_at p = p.desk.host

quiet_hosts : (ports : List Port) → map (λ (q : Quiet). q.0) (map quiet_at ports) ≡ map host_at ports
quiet_hosts [] = refl
quiet_hosts (p ∷ ports) = ap (λ ns. p.desk.host ∷ ns) (quiet_hosts ports)

pub same_hosts : (a b : List Port) → map quiet_at a ≡ map quiet_at b → map host_at a ≡ map host_at b
same_hosts a b same = sym (quiet_hosts a) ∙ (ap (map (λ (q : Quiet). q.0)) same ∙ quiet_hosts b)

quiet_links : (ports : List Port) → map (λ (q : Quiet). (q.0, q.3, q.4)) (map quiet_at ports) ≡ map link_at ports
quiet_links [] = refl
quiet_links (p ∷ ports) = ap (λ (ls : List LinkSeen). link_at p ∷ ls) (quiet_links ports)

pub same_links : (a b : List Port) → map quiet_at a ≡ map quiet_at b → map link_at a ≡ map link_at b
same_links a b same = sym (quiet_links a) ∙ (ap (map (λ (q : Quiet). (q.0, q.3, q.4))) same ∙ quiet_links b)

link_hosts : (ports : List Port) → map (λ (l : LinkSeen). l.0) (map link_at ports) ≡ map host_at ports
link_hosts [] = refl
link_hosts (p ∷ ports) = ap (λ ns. p.desk.host ∷ ns) (link_hosts ports)

hosts_there : (a b : List Port) → map link_at a ≡ map link_at b → map host_at a ≡ map host_at b
hosts_there a b same = sym (link_hosts a) ∙ (ap (map (λ (l : LinkSeen). l.0)) same ∙ link_hosts b)

-- a change of one end that leaves what is seen of its link
port_links : (h : ℕ) (f : Port → Port) → ((p : Port) → link_at (f p) ≡ link_at p) → (ports : List Port)
    → map link_at (with_port h f ports) ≡ map link_at ports
port_links h f same [] = refl
port_links h f same (p ∷ ports) = ap₂ (λ (l : LinkSeen) ls. l ∷ ls) (let h0 = p.desk.host == h in grind arith) (port_links h f same ports)

-- an end that is held, or let go
hold_link : (held : Bool) (p : Port) → link_at (after_turn (Hold held) p) ≡ link_at p
hold_link held p = ap (λ (s : LinkState). (p.desk.host, p.side.role, s)) (let h0 = not held in grind arith)

pub port_hosts : (h : ℕ) (f : Port → Port) → ((p : Port) → (f p).desk.host ≡ p.desk.host) → (ports : List Port)
    → map host_at (with_port h f ports) ≡ map host_at ports
port_hosts h f same [] = refl
port_hosts h f same (p ∷ ports) = ap₂ (λ (n : ℕ) ns. n ∷ ns) (let h0 = p.desk.host == h in grind arith) (port_hosts h f same ports)

-- the end of another host is as it was
pub elsewhere : (h k : ℕ) (f : Port → Port) → k ≢ h → ((p : Port) → (f p).desk.host ≡ p.desk.host) → (ports : List Port)
    → port_at (with_port h f ports) k ≡ port_at ports k
elsewhere h k f other same [] = refl
elsewhere h k f other same (p ∷ ports) = by (p.desk.host == h) (p.desk.host == k) refl refl (elsewhere h k f other same ports)
  where
    by : (a b : Bool) → (p.desk.host == h) ≡ a → (p.desk.host == k) ≡ b → port_at (with_port h f ports) k ≡ port_at ports k
        → port_at (with_port h f (p ∷ ports)) k ≡ port_at (p ∷ ports) k
    by a b q r later = grind arith

-- ## Turns

-- what the turns at the end of one host keep of the ends
record Keeps (h : ℕ) (v w : Work) : Type 0 where
  links : map link_at v.ports ≡ map link_at w.ports
  few : (k : ℕ) → k ≢ h → FewAreDue (port_at w.ports k) → FewAreDue (port_at v.ports k)

keeps_port : (h : ℕ) (f : Port → Port) → ((p : Port) → link_at (f p) ≡ link_at p) → (v w : Work) → v.ports ≡ with_port h f w.ports → Keeps h v w
keeps_port h f same v w is = record {
  links = ap (map link_at) is ∙ port_links h f same w.ports;
  few = λ k other few.
      let P : Option Port → Type 0 = λ o. FewAreDue o in
      subst P (sym (ap (λ ports. port_at ports k) is ∙ elsewhere h k f other (λ p. ap (λ (l : LinkSeen). l.0) (same p)) w.ports)) few;
}

keeps_let : (h : ℕ) (w : Work) → Keeps h (lets_go h w) w
keeps_let h w = by (held_at w.ports h) refl
  where
    by : (b : Bool) → held_at w.ports h ≡ b → Keeps h (lets_go h w) w
    by true q = keeps_port h (after_turn (Hold false)) (hold_link false) (lets_go h w) w (rw q refl)
    by false q = grind arith

twice_links : (h : ℕ) (f g : Port → Port) → ((p : Port) → link_at (f p) ≡ link_at p) → ((p : Port) → link_at (g p) ≡ link_at p)
    → (v w : Work) → v.ports ≡ with_port h f (with_port h g w.ports) → Keeps h v w
twice_links h f g same other v w is =
    let mid : Work = record w { ports = with_port h g w.ports } in
    let h0 = keeps_port h f same v mid is in let h1 = keeps_port h g other mid w refl in grind arith

keeps_held : (h : ℕ) (short : ℕ × ℕ) (w : Work) → Keeps h (holds_back h short w) w
keeps_held h short w = by (option_map_or (λ (p : Port). p.desk.holds) (port_at w.ports h) false) refl
  where
    by : (b : Bool) → option_map_or (λ (p : Port). p.desk.holds) (port_at w.ports h) false ≡ b → Keeps h (holds_back h short w) w
    by true q = keeps_port h (after_turn (Hold true)) (hold_link true) (holds_back h short w) w (rw q refl)
    by false q = twice_links h (after_turn (Hold true)) (λ p. record p { desk = record p.desk { holds = true } }) (hold_link true) (λ p. refl)
        (holds_back h short w) w (rw q refl)

keeps_handled : (h : ℕ) (m : Message) (deeds : List DeedOf) (w : Work) → Keeps h (handles h m deeds w) w
keeps_handled h m deeds w =
    let same = handles_quiet h m deeds w in
    record {
      links = same_links (handles h m deeds w).ports w.ports same;
      few = λ k other few. few_kept w.ports (handles h m deeds w).ports k (sym same) few;
    }

keeps_turns : (h : ℕ) (ms : List Message) (w : Work) → Keeps h (have_turns h ms w) w
keeps_turns h [] w = keeps_let h w
keeps_turns h (m ∷ ms) w =
    by (lack w.ports (needs h (deeds_of w.core w.ports h m))) refl (keeps_turns h ms (handles h m (deeds_of w.core w.ports h m) w))
  where
    done : Work
    done = handles h m (deeds_of w.core w.ports h m) w

    behind : (b : Bool) → done.cut ≡ b → lack w.ports (needs h (deeds_of w.core w.ports h m)) ≡ None → Keeps h (have_turns h ms done) done
        → Keeps h (have_turns h (m ∷ ms) w) w
    behind true c q later =
        let P : Work → Type 0 = λ v. Keeps h v w in
        subst P (sym (stop c q)) (keeps_handled h m (deeds_of w.core w.ports h m) w)
      where
        stop : done.cut ≡ true → lack w.ports (needs h (deeds_of w.core w.ports h m)) ≡ None → have_turns h (m ∷ ms) w ≡ done
        stop c q = rw (q, c) refl
    behind false c q later =
        let P : Work → Type 0 = λ v. Keeps h v w in
        subst P (sym (on c q)) (let h0 = have_turns h ms done in let h1 = keeps_handled h m (deeds_of w.core w.ports h m) w in grind arith)
      where
        on : done.cut ≡ false → lack w.ports (needs h (deeds_of w.core w.ports h m)) ≡ None → have_turns h (m ∷ ms) w ≡ have_turns h ms done
        on c q = rw (q, c) refl

    by : (o : Option (ℕ × ℕ)) → lack w.ports (needs h (deeds_of w.core w.ports h m)) ≡ o → Keeps h (have_turns h ms done) done
        → Keeps h (have_turns h (m ∷ ms) w) w
    by None q later = behind done.cut refl q later
    by (Some short) q later = let P : Work → Type 0 = λ v. Keeps h v w in subst P (sym (held q)) (keeps_held h short w)
      where
        held : lack w.ports (needs h (deeds_of w.core w.ports h m)) ≡ Some short → have_turns h (m ∷ ms) w ≡ holds_back h short w
        held q = rw q refl

pub let_links : (h : ℕ) (w : Work) → map link_at (lets_go h w).ports ≡ map link_at w.ports
let_links h w = (keeps_let h w).links

pub held_links : (h : ℕ) (short : ℕ × ℕ) (w : Work) → map link_at (holds_back h short w).ports ≡ map link_at w.ports
held_links h short w = (keeps_held h short w).links

pub handled_links : (h : ℕ) (m : Message) (deeds : List DeedOf) (w : Work) → map link_at (handles h m deeds w).ports ≡ map link_at w.ports
handled_links h m deeds w = (keeps_handled h m deeds w).links

pub turns_links : (h : ℕ) (ms : List Message) (w : Work) → map link_at (have_turns h ms w).ports ≡ map link_at w.ports
turns_links h ms w = (keeps_turns h ms w).links

pub turns_hosts : (h : ℕ) (ms : List Message) (w : Work) → map host_at (have_turns h ms w).ports ≡ map host_at w.ports
turns_hosts h ms w = hosts_there (have_turns h ms w).ports w.ports (turns_links h ms w)

pub turns_few : (h : ℕ) (ms : List Message) (w : Work) (k : ℕ) → k ≢ h → FewAreDue (port_at w.ports k)
    → FewAreDue (port_at (have_turns h ms w).ports k)
turns_few h ms w = (keeps_turns h ms w).few

-- ## All ends

pub of_hosts : (a b : List Port) → map host_at a ≡ map host_at b → AreOfHosts b → AreOfHosts a
of_hosts [] b same all = tt
of_hosts (p ∷ a) [] same all = cc
of_hosts (p ∷ a) (q ∷ b) same all =
    let there : map host_at a ≡ map host_at b = cc in
    (subst (λ n. (1 ≤ n) × (n ≤ 7)) (sym cc) all.0, of_hosts a b there all.1)

pub few_at : (ports : List Port) (k : ℕ) → AreFewDue ports → FewAreDue (port_at ports k)
few_at ports k all = let h0 = port_at ports k in let h1 = found_all _ ports k all in grind arith

pub few_at_all : (ports : List Port) (hosts : List ℕ) → AreFewDue ports → AllByRecursion (λ (k : ℕ). FewAreDue (port_at ports k)) hosts
few_at_all ports [] all = tt
few_at_all ports (h ∷ hosts) all = (few_at ports h all, few_at_all ports hosts all)

differ_behind : (pool : PoolState) (n : ℕ) (seats : List Seat) (ports : List Port) → AllByRecursion (λ (t : Seat). t.desk.host ≢ n) seats
    → SeatsStandFor pool seats ports → AllByRecursion (λ (g : ℕ). g ≢ n) (map host_at ports)
differ_behind pool n [] [] differ g = tt
differ_behind pool n [] (p ∷ ports) differ g = absurd g
differ_behind pool n (s ∷ seats) [] differ g = absurd g
differ_behind pool n (s ∷ seats) (p ∷ ports) differ g = (λ e. differ.0 (host_is g.0 ∙ e), differ_behind pool n seats ports differ.1 g.1)

pub hosts_differ : (pool : PoolState) (seats : List Seat) (ports : List Port) → HaveOwnHosts seats → SeatsStandFor pool seats ports
    → AreAllDifferent (map host_at ports)
hosts_differ pool [] [] own g = tt
hosts_differ pool [] (p ∷ ports) own g = absurd g
hosts_differ pool (s ∷ seats) [] own g = absurd g
hosts_differ pool (s ∷ seats) (p ∷ ports) own g =
    let P : ℕ → Type 0 = λ n. AllByRecursion (λ (k : ℕ). k ≢ n) (map host_at ports) in
    (subst P (host_is g.0) (differ_behind pool s.desk.host seats ports own.0 g.1), hosts_differ pool seats ports own.1 g.1)

pub different_left : (i : ℕ) (hosts : List ℕ) → AreAllDifferent hosts → AreAllDifferent (drop i hosts)
different_left zero hosts d = d
different_left (suc i) [] d = tt
different_left (suc i) (h ∷ hosts) d = different_left i hosts d.1

-- the host of the end at a place is the next one
pub next_host : (i : ℕ) (ports : List Port) (h : ℕ) → Some h ≡ option_map host_at (slice_get ports i)
    → drop i (map host_at ports) ≡ h ∷ drop (suc i) (map host_at ports)
next_host i [] h is = cc
next_host zero (p ∷ ports) h is = let e : h ≡ p.desk.host = cc in ap (λ n. n ∷ map host_at ports) (sym e)
next_host (suc i) (p ∷ ports) h is = next_host i ports h is

-- behind the last one there is none
pub no_host : (i : ℕ) (ports : List Port) → None ≡ option_map host_at (slice_get ports i) → drop i (map host_at ports) ≡ []
no_host zero [] is = refl
no_host (suc i) [] is = refl
no_host zero (p ∷ ports) is = cc
no_host (suc i) (p ∷ ports) is = no_host i ports is

pub as_many_hosts : (pool : PoolState) (seats : List Seat) (ports : List Port) → SeatsStandFor pool seats ports
    → length (map host_at ports) ≡ length seats
as_many_hosts pool [] [] g = refl
as_many_hosts pool [] (p ∷ ports) g = absurd g
as_many_hosts pool (s ∷ seats) [] g = absurd g
as_many_hosts pool (s ∷ seats) (p ∷ ports) g = ap suc (as_many_hosts pool seats ports g.1)

-- each of them is a host
pub is_host_at : (i : ℕ) (ports : List Port) (h : ℕ) → AreOfHosts ports → Some h ≡ option_map host_at (slice_get ports i) → (1 ≤ h) × (h ≤ 7)
is_host_at i [] h all is = cc
is_host_at zero (p ∷ ports) h all is = grind arith
is_host_at (suc i) (p ∷ ports) h all is = is_host_at i ports h all.1 is
