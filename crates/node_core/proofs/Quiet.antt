-- What deeds leave at the ends of a node as it was: how many control frames wait there to be sent, whether they are held, what goes before
-- their links, and the states of these.
use Rattle.node_core.proofs.Words.{Asks, Bool, Command, Commits, Deed, DeskOf, Drops, Ends, FetchMessage, FewAreDue, Give, GoesOn, Hears, IsAnswered, LinkState}
use Rattle.node_core.proofs.Words.{List, Message, None, Option, Orders, Port, Release, Releases, Role, SaysOk, Sends, SetAside, SetsErrors, Some, Tells, Work}
use Rattle.node_core.proofs.Words.{[], after_turn, all_done, ap, ap₂, arith, commit, done, false, find, find-map, handles, held_at, length, map}
use Rattle.node_core.proofs.Words.{not, option_map, option_map_or, port_at, refl, subst, sym, true, with_port, ℕ, ◌+◌, ◌==◌, ◌∙◌, ◌∷◌, ◌≡◌, ◌≤◌}

-- the host of an end, how many control frames wait there, whether it takes fragments, what goes before its link, and the state of that
abbrev pub Quiet : Type 0
Quiet = ℕ × ℕ × Bool × Role × LinkState

abbrev pub quiet_at : Port → Quiet
quiet_at p = (p.desk.host, length p.side.acts + length p.side.shdlc.due, p.side.shdlc.ready, p.side.role, p.side.shdlc.phase)

-- the host of an end, what goes before its link, and the state of that
abbrev pub LinkSeen : Type 0
LinkSeen = ℕ × Role × LinkState

abbrev pub link_at : Port → LinkSeen
link_at p = (p.desk.host, p.side.role, p.side.shdlc.phase)

-- ## What is done to one end

give_quiet : (m : Message) (p : Port) → quiet_at (after_turn (Give m) p) ≡ quiet_at p
give_quiet m p = grind arith

aside_quiet : (p : Port) → quiet_at (after_turn SetAside p) ≡ quiet_at p
aside_quiet p = grind arith

-- ## All ends

pub with_port_quiet : (h : ℕ) (f : Port → Port) → ((p : Port) → quiet_at (f p) ≡ quiet_at p) → (ports : List Port)
    → map quiet_at (with_port h f ports) ≡ map quiet_at ports
with_port_quiet h f same [] = refl
with_port_quiet h f same (p ∷ ports) = ap₂ (λ (q : Quiet) qs. q ∷ qs) (let h0 = p.desk.host == h in grind arith) (with_port_quiet h f same ports)

-- ## Deeds

gives : (h : ℕ) (m : Message) (ports : List Port) → map quiet_at (with_port h (after_turn (Give m)) ports) ≡ map quiet_at ports
gives h m ports = with_port_quiet h (after_turn (Give m)) (give_quiet m) ports

keeps_desk : (h : ℕ) (f : DeskOf → DeskOf) → ((d : DeskOf) → (f d).host ≡ d.host) → (ports : List Port)
    → map quiet_at (with_port h (λ p. record p { desk = f p.desk }) ports) ≡ map quiet_at ports
keeps_desk h f same ports =
    with_port_quiet h (λ p. record p { desk = f p.desk })
    (λ p. ap (λ (n : ℕ). (n, length p.side.acts + length p.side.shdlc.due, p.side.shdlc.ready, p.side.role, p.side.shdlc.phase)) (same p.desk)) ports

pub commit_ports : (c : Command) (w : Work) → (commit c w).ports ≡ w.ports
commit_ports c w = grind arith

pub done_quiet : (h : ℕ) (d : Deed) (w : Work) → map quiet_at (done h d w).ports ≡ map quiet_at w.ports
done_quiet h (Commits c) w = ap (map quiet_at) (commit_ports c w)
done_quiet h (Sends to m) w = gives to m w.ports
done_quiet h SaysOk w = refl
done_quiet h (Asks to message c) w =
    keeps_desk to _ (λ d. refl) (with_port to (after_turn (Give (1, message))) (with_port c.asker (after_turn SetAside) w.ports))
    ∙ (gives to (1, message) (with_port c.asker (after_turn SetAside) w.ports)
    ∙ with_port_quiet c.asker (after_turn SetAside) aside_quiet w.ports)
done_quiet h (Releases asker) w = with_port_quiet asker (after_turn Release) (λ p. refl) w.ports
done_quiet h (Tells to message) w =
    keeps_desk to _ (λ d. refl) (with_port to (after_turn (Give (1, message))) w.ports) ∙ gives to (1, message) w.ports
done_quiet h IsAnswered w = keeps_desk h _ (λ d. refl) w.ports
done_quiet h (Drops pid) w = refl
done_quiet h (SetsErrors errors) w = keeps_desk h _ (λ d. refl) w.ports
done_quiet h (Orders message) w = gives h (1, message) w.ports
done_quiet h Hears w = refl
done_quiet h (GoesOn i) w = refl
done_quiet h (Ends e) w = refl

pub all_quiet : (h : ℕ) (deeds : List Deed) (w : Work) → map quiet_at (all_done h deeds w).ports ≡ map quiet_at w.ports
all_quiet h [] w = refl
all_quiet h (d ∷ deeds) w = by (all_quiet h deeds (done h d w)) (done h d w).cut refl
  where
    by : map quiet_at (all_done h deeds (done h d w)).ports ≡ map quiet_at (done h d w).ports → (b : Bool) → (done h d w).cut ≡ b
        → map quiet_at (all_done h (d ∷ deeds) w).ports ≡ map quiet_at w.ports
    by later true q = rw q (done_quiet h d w)
    by later false q = rw q (later ∙ done_quiet h d w)

pub handles_quiet : (h : ℕ) (m : Message) (deeds : List Deed) (w : Work) → map quiet_at (handles h m deeds w).ports ≡ map quiet_at w.ports
handles_quiet h m deeds w =
    all_quiet h deeds _
    ∙ (keeps_desk h (λ d. record d { holds = false }) (λ d. refl) (with_port h (after_turn FetchMessage) w.ports)
    ∙ with_port_quiet h (after_turn FetchMessage) (λ p. refl) w.ports)

-- ## One end of them

pub same_at : (a b : List Port) (h : ℕ) → map quiet_at a ≡ map quiet_at b → option_map quiet_at (port_at a h) ≡ option_map quiet_at (port_at b h)
same_at a b h same =
    sym (find-map (λ (q : Quiet). q.0 == h) quiet_at a) ∙ (ap (find (λ (q : Quiet). q.0 == h)) same ∙ find-map (λ (q : Quiet). q.0 == h) quiet_at b)

abbrev FewIn : Option Quiet → Type 0
FewIn None = Unit {0}
FewIn (Some q) = q.1 ≤ 6

in_few : (o : Option Port) → FewIn (option_map quiet_at o) → FewAreDue o
in_few o few = grind arith

pub few_kept : (a b : List Port) (h : ℕ) → map quiet_at a ≡ map quiet_at b → FewAreDue (port_at a h) → FewAreDue (port_at b h)
few_kept a b h same few = in_few (port_at b h) (subst FewIn (same_at a b h same) (let h0 = port_at a h in grind arith))

held_in : (o : Option Port) → option_map_or (λ (p : Port). not p.side.shdlc.ready) o false
    ≡ option_map_or (λ (q : Quiet). not q.2) (option_map quiet_at o) false
held_in o = grind arith

pub held_kept : (a b : List Port) (h : ℕ) → map quiet_at a ≡ map quiet_at b → held_at a h ≡ held_at b h
held_kept a b h same =
    held_in (port_at a h) ∙ (ap (λ o. option_map_or (λ (q : Quiet). not q.2) o false) (same_at a b h same) ∙ sym (held_in (port_at b h)))
