-- A node with one link in a step before its pass: something comes to its end, and an identifier may be kept; nothing else is done.
use Rattle.lone_laws.proofs.Words.{ActStart, ActStop, AtEnd, End, Entry, LinkEnd, LinkInput, List, NodeInput, None, Port, Reset, Some, Start, Stop, Take}
use Rattle.lone_laws.proofs.Words.{TakeUnknown, Tick, TimePasses, Work, [], after_input, after_sessions, all_come, all_done, all_owed, ap, append-nil, ap₂}
use Rattle.lone_laws.proofs.Words.{arith, comes_to_pass, deactivated, end_of, end_of_node_alone, flat_map, forgets, forgotten, got_by, has_come}
use Rattle.lone_laws.proofs.Words.{has_come_so, has_freed, has_synced, input_at, is_open, map, moved, node_input, own_side, refl, report, same_end}
use Rattle.lone_laws.proofs.Words.{same_end_itself, started, stopped, sym, syncs_in, times_out, told_at, told_late, true, unless_cut, whole_acked, with_older}
use Rattle.lone_laws.proofs.Words.{without_notice, ℕ, ◌++◌, ◌∙◌, ◌∷◌, ◌≡◌}
use Rattle.link_laws.proofs.machine.Reports.{activated_got, moved_got, reset_got, took_got}
use Rattle.lone_laws.proofs.answered.Reading.{Read, read_all, told_read, reads_of, Alone, read_more, alone_as}
use Rattle.lone_laws.proofs.answered.Turning.{own_end}

-- ## What comes

-- this may come to the end of a node alone
abbrev pub IsLoneInput : LinkInput → Type 0
IsLoneInput (Take c) = Unit {0}
IsLoneInput TakeUnknown = Unit {0}
IsLoneInput Tick = Unit {0}
IsLoneInput (Reset window) = Unit {0}
IsLoneInput (Start value) = Unit {0}
IsLoneInput Stop = Unit {0}
IsLoneInput _ = ⊥

nothing_more : (e f : LinkEnd) → f.got ≡ e.got → f.got ≡ e.got ++ []
nothing_more e f q = q ∙ sym (append-nil e.got)

pub lone_got : (e : LinkEnd) (i : LinkInput) → IsLoneInput i → (after_input e i).got ≡ e.got ++ got_by e i
lone_got e (Take c) a = took_got e c
lone_got e TakeUnknown a = nothing_more e (after_input e TakeUnknown) refl
lone_got e Tick a = nothing_more e (after_input e Tick) (let h0 = is_open e.role in grind arith)
lone_got e (Reset window) a = nothing_more e (after_input e (Reset window)) (reset_got e window)
lone_got e (Start value) a =
    nothing_more e (started e value) (activated_got (moved e true (stopped e.shdlc)) (ActStart value) ∙ moved_got e true (stopped e.shdlc))
lone_got e Stop a = nothing_more e (deactivated e) (activated_got (moved e true (stopped e.shdlc)) ActStop ∙ moved_got e true (stopped e.shdlc))
lone_got e _ a = absurd a

-- it comes to the end
pub comes_there : (h : ℕ) (i : LinkInput) (p : Port) → p.desk.host ≡ h → input_at (node_input h i) p ≡ Some i
comes_there h i p q = grind arith

-- ## Without notices

older_none : (p : Port) → p.desk.notice ≡ None → with_older p ≡ p
older_none p q = rw q refl

without_none : (p : Port) → p.desk.notice ≡ None → without_notice p ≡ p
without_none p q = grind arith

-- ## Before the pass

-- no notice is late
times_none : (input : NodeInput) (v : Work) (q : Port) → v.ports ≡ q ∷ [] → q.desk.notice ≡ None → times_out input v ≡ v
times_none (AtEnd k i) v q ports none = refl
times_none TimePasses v q ports none =
    let es : flat_map (told_late v.core) (map with_older v.ports) ≡ [] = grind arith in
    ap₂ (λ z es. record v { ports = z; entries = v.entries ++ es }) (grind arith) es ∙ ap (λ z. record v { entries = z }) (append-nil v.entries)

owed_left : (v : Work) (q : Port) → v.ports ≡ q ∷ [] → q.desk.notice ≡ None → all_owed (map (forgets v.ports) v.ports) ≡ []
owed_left v q ports none = grind arith

module _ (number h : ℕ) (r : Read) (t : List Entry) where
  abbrev e : End
  e = end_of_node_alone number h

  abbrev Of : Work → Type 0
  Of w = Alone number h r t w

  module _ (i : LinkInput) (may : IsLoneInput i) (w : Work) (a : Of w) where
    abbrev input : NodeInput
    input = node_input h i

    -- the end as this has come there
    abbrev pub came_port : Port
    came_port = has_come a.port (Some i)

    pub came_ports : (all_come input w).ports ≡ came_port ∷ []
    came_ports = ap (map (λ p. has_come p (input_at input p))) a.ports_are ∙ ap (λ o. has_come a.port o ∷ []) (comes_there h i a.port a.host)

    pub came_entries : (all_come input w).entries ≡ w.entries ++ told_at w.core a.port (Some i)
    came_entries =
        ap (λ z. w.entries ++ flat_map (λ p. told_at w.core p (input_at input p)) z) a.ports_are
        ∙ (ap (λ o. w.entries ++ (told_at w.core a.port o ++ [])) (comes_there h i a.port a.host)
        ∙ ap (λ z. w.entries ++ z) (append-nil (told_at w.core a.port (Some i))))

    pub own_side_end : same_end (end_of a.port.desk.host (own_side w.core)) e ≡ true
    own_side_end = ap (λ x. same_end x e) (own_end w.core number h a.port.desk.host a.node a.host) ∙ same_end_itself e

    pub alone_comes : Of (all_come input w)
    alone_comes =
        let R : Read = reads_of w.core a.port in
        alone_as a came_port (all_come input w).ports (all_come input w).entries came_ports a.host a.none
        (ap (λ es. read_all e r (t ++ es)) came_entries
        ∙ read_more number h r t w (told_at w.core a.port (Some i)) R (reads_of w.core came_port) a.read
        (told_read e a.port.desk.host (own_side w.core) a.port.session (whole_acked (after_input a.port.side i)) (report a.port.side i) R own_side_end
        ∙ ap (λ z. record R { left = z }) (sym (lone_got a.port.side i may))))

    pub came_is : has_come_so input w ≡ all_come input w
    came_is = times_none input (all_come input w) came_port came_ports a.none

    freed_is : has_freed input w ≡ all_come input w
    freed_is =
        ap (λ v. all_done 0 (forgotten v.ports)
        (record v { core = after_sessions v.core v.ports; ports = map without_notice (map (forgets v.ports) v.ports) })) came_is
        ∙ (grind arith)

    -- As its pass begins, something has come to the end, and an identifier may have been kept.
    pub pass_is : comes_to_pass input w ≡ all_done 0 (syncs_in input w) (all_come input w)
    pass_is =
        ap (λ d. unless_cut (all_done 0 d) (has_synced input w))
        (ap (λ v. all_owed (map (forgets v.ports) v.ports)) came_is ∙ owed_left (all_come input w) came_port came_ports a.none)
        ∙ ((grind arith) ∙ ap (all_done 0 (syncs_in input w)) freed_is)
