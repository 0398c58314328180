-- What a node notes in a step has the numbers of the sessions of its ends.
use Rattle.std.specs.Prelude.{nat_lt}
use Rattle.std.proofs.lemmas.Bool.{eqb-true}
use Rattle.std.proofs.lemmas.List.{map-append}
use Rattle.node_sites.proofs.Words.{AllByRecursion, AtEnd, Bool, Controller, Core, Deed, Desk, Entry, Host, Link, List, Message, NextFrame, None, Noted}
use Rattle.node_sites.proofs.Words.{NumberedEnd, OnWire, Option, Port, Running, Some, TimePasses, Work, [], ap, append-nil, ap₂, arith, arrival, as_told}
use Rattle.node_sites.proofs.Words.{by_test, changed_if, entries_for, eq-eqb, false, flat_map, map, option_map_or, option_to_list, port_at, port_for, refl}
use Rattle.node_sites.proofs.Words.{subst, sym, true, true≢false, with_port, ℕ, ◌++◌, ◌==◌, ◌∙◌, ◌∷◌, ◌≡◌, ◌≤◌}
use Rattle.swp_base.specs.declared.link_terms.Cause.{Cause}
use Rattle.registry.proofs.ValueLemmas.{AllByRecursion-append as all_append}
use Rattle.trace_model.specs.declared.entry.Entry.TheVariants as entry
use Rattle.link_laws.specs.machine.Machine.{LinkInput, Refused, Report, Turn, after_input, give_refusal, report, whole_acked}
use Rattle.link_laws.specs.machine.Machine.LinkInput.{Reset}
use Rattle.link_laws.specs.machine.Machine.Turn.{Give}
use Rattle.link_laws.specs.entries.Entries.{End as Side, if_so, sent_unless, told}
use Rattle.link_laws.specs.entries.Entries.Entry.{Up, Down, Active, GaveUp, Acked, Got, Sent, Emit, Took, Lost, Tick, Restarted, Cut}
use Rattle.link_laws.proofs.entries.Quieting.{same_number}
use Rattle.history.specs.Steps.{end_of, entry_of}
use Rattle.node_machine.specs.Carrying.{after_turn, noted_of, noting, own_side, turn_at, with_desk}
use Rattle.node_machine.specs.Node.{NodeInput, input_at, has_come, told_at, all_come, with_older, is_late, reset_late, told_late, times_out, forgotten}
use Rattle.node_machine.specs.Node.{forgets, is_forgotten, all_owed, is_over, without_notice, after_sessions, synced, steps, begins_with}
use Rattle.node_machine.specs.Controller.{asked_at}
use Rattle.node_laws.specs.telling.Telling.{tells_of}
use Rattle.node_laws.proofs.telling.Accounts.{AreMute, AreSilent, all_do, all_owed_mute, all_synced_mute, forgotten_mute, rest}
use Rattle.swp_base.specs.InMemory.{Plan}
use Rattle.link_laws.specs.messages.Links.{Comes, number_of}
use Rattle.link_laws.specs.messages.Links.Comes.{AsksReset, NoInput, Starts, Stops}
use Rattle.node_machine.specs.world.World.{work_of}
use Rattle.node_ends.specs.Holding.{kept_number}
use Rattle.node_core.specs.Noting.{unnumbered}
use Rattle.node_sites.specs.Numbers.{IsNumbered, AreNumbered, CountsFew, StaysCounted, swapped_number, with_swapped_number, with_session_number, session_at}
use Rattle.node_sites.specs.declared.noted.Noted.{Noted as Kept}
use Rattle.node_sites.specs.WorldNodes.{IsNotedSo, IsNotedBehind}

end_link : (h : ℕ) (who : Side) → (end_of h who).link ≡ h
end_link h Controller = refl
end_link h Host = refl

module _ (session : ℕ → ℕ) where
  silent_one : (x : Entry) → ((h : ℕ) → tells_of h x ≡ false) → IsNumbered session x
  silent_one (entry.Up e n) q = absurd (true≢false (sym (same_number e.link) ∙ q e.link))
  silent_one (entry.Sent e n pid message) q = absurd (true≢false (sym (same_number e.link) ∙ q e.link))
  silent_one (entry.Got e n pid message) q = absurd (true≢false (sym (same_number e.link) ∙ q e.link))
  silent_one (entry.Acked e n count) q = absurd (true≢false (sym (same_number e.link) ∙ q e.link))
  silent_one x q = tt

  silent_numbered : (t : List Entry) → AreSilent t → AreNumbered session t
  silent_numbered [] s = tt
  silent_numbered (x ∷ t) s = (silent_one x s.0, silent_numbered t s.1)

  -- ## What is noted of one end

  -- this is noted of a link in its session, and no more messages are counted than are
  abbrev IsFine : ℕ → Noted → Type 0
  IsFine h (Up who n) = n ≡ session h
  IsFine h (Acked who n count) = (n ≡ session h) × (count ≤ 4294967295)
  IsFine h (Got who n m) = n ≡ session h
  IsFine h (Sent who n m) = n ≡ session h
  IsFine h _ = Unit {0}

  fine_one : (h : ℕ) (x : Noted) → IsFine h x → AreNumbered session (entry_of h x)
  fine_one h (Up who n) q = (q ∙ ap session (sym (end_link h who)), tt)
  fine_one h (Acked who n count) q = ((q.0 ∙ ap session (sym (end_link h who)), q.1), tt)
  fine_one h (Got who n m) q = (q ∙ ap session (sym (end_link h who)), tt)
  fine_one h (Sent who n m) q = (q ∙ ap session (sym (end_link h who)), tt)
  fine_one h (Down who cause) q = (tt, tt)
  fine_one h (Active who) q = (tt, tt)
  fine_one h (GaveUp who tries) q = (tt, tt)
  fine_one h (Emit who frame) q = (tt, tt)
  fine_one h (Took who frame) q = (tt, tt)
  fine_one h (Lost who frame why) q = (tt, tt)
  fine_one h Tick q = tt
  fine_one h (Restarted who) q = tt
  fine_one h (Cut who) q = tt

  fine : (h : ℕ) (xs : List Noted) → AllByRecursion (IsFine h) xs → AreNumbered session (entries_for h xs)
  fine h [] a = tt
  fine h (x ∷ xs) a = all_append (IsNumbered session) (entry_of h x) (entries_for h xs) (fine_one h x a.0) (fine h xs a.1)

  fine_down : (h : ℕ) (who : Side) (o : Option Cause) → AllByRecursion (IsFine h) (map (Down who) (option_to_list o))
  fine_down h who None = tt
  fine_down h who (Some cause) = (tt, tt)

  fine_tries : (h : ℕ) (who : Side) (o : Option ℕ) → AllByRecursion (IsFine h) (map (GaveUp who) (option_to_list o))
  fine_tries h who None = tt
  fine_tries h who (Some tries) = (tt, tt)

  fine_if : (h : ℕ) (b : Bool) (x : Noted) → IsFine h x → AllByRecursion (IsFine h) (if_so b x)
  fine_if h false x q = tt
  fine_if h true x q = (q, tt)

  fine_got : (h : ℕ) (who : Side) (n : ℕ) (ms : List Message) → n ≡ session h → AllByRecursion (IsFine h) (map (Got who n) ms)
  fine_got h who n [] q = tt
  fine_got h who n (m ∷ ms) q = (q, fine_got h who n ms q)

  fine_told : (h : ℕ) (who : Side) (n : ℕ) (r : Report) (count : ℕ) → n ≡ session h → count ≤ 4294967295
      → AllByRecursion (IsFine h) (told who n r count)
  fine_told h who n r count q few =
      let P : Noted → Type 0 = IsFine h in
      let b : List Noted = if_so r.began (Up who n) in
      let c : List Noted = if_so r.became_active (Active who) in
      let d : List Noted = map (GaveUp who) (option_to_list r.gave_up) in
      let e : List Noted = if_so (nat_lt 0 r.acked) (Acked who n count) in
      let g : List Noted = map (Got who n) r.got in
      all_append P (map (Down who) (option_to_list r.ended)) (b ++ (c ++ (d ++ (e ++ g)))) (fine_down h who r.ended)
      (all_append P b (c ++ (d ++ (e ++ g))) (fine_if h r.began (Up who n) q)
      (all_append P c (d ++ (e ++ g)) (fine_if h r.became_active (Active who) tt)
      (all_append P d (e ++ g) (fine_tries h who r.gave_up)
      (all_append P e g (fine_if h (nat_lt 0 r.acked) (Acked who n count) (q, few)) (fine_got h who n r.got q)))))

  -- ## Ends

  -- an end is in the session of its link
  abbrev pub IsOf : Port → Type 0
  IsOf p = p.session ≡ session p.desk.host

  told_numbered : (core : Core) (p : Port) (o : Option LinkInput) → IsOf p → StaysCounted p.side o → AreNumbered session (told_at core p o)
  told_numbered core p None q few = tt
  told_numbered core p (Some i) q few =
      fine p.desk.host (told (own_side core) p.session (report p.side i) (whole_acked (after_input p.side i)))
      (fine_told p.desk.host (own_side core) p.session (report p.side i) (whole_acked (after_input p.side i)) q few)

  -- a node in a step, whose entries have the numbers of the sessions of its ends
  pub record Numbers (w : Work) : Type 0 where
    pub entries : AreNumbered session w.entries
    pub ports : AllByRecursion IsOf w.ports

  all_of : (f : Port → Port) → ((p : Port) → IsOf p → IsOf (f p)) → (ports : List Port) → AllByRecursion IsOf ports → AllByRecursion IsOf (map f ports)
  all_of f keeps [] a = tt
  all_of f keeps (p ∷ ports) a = (keeps p a.0, all_of f keeps ports a.1)

  if_changed : (b : Bool) (f : Port → Port) → ((p : Port) → IsOf p → IsOf (f p)) → (p : Port) → IsOf p → IsOf (changed_if b f p)
  if_changed true f keeps p q = keeps p q
  if_changed false f keeps p q = q

  with_one : (k : ℕ) (f : Port → Port) → ((p : Port) → IsOf p → IsOf (f p)) → (ports : List Port) → AllByRecursion IsOf ports
      → AllByRecursion IsOf (with_port k f ports)
  with_one k f keeps ports a = all_of (λ (p : Port). changed_if (p.desk.host == k) f p) (λ p q. if_changed (p.desk.host == k) f keeps p q) ports a

  -- ## What is done

  note : (es : List Entry) (w : Work) → AreSilent es → Numbers w → Numbers (noting es w)
  note es w s a = record { entries = all_append (IsNumbered session) w.entries es a.entries (silent_numbered es s); ports = a.ports }

  desk : (k : ℕ) (f : Desk → Desk) (w : Work) → ((d : Desk) → (f d).host ≡ d.host) → Numbers w → Numbers (with_desk k f w)
  desk k f w keeps a =
      record {
        entries = a.entries;
        ports = with_one k (λ p. record p { desk = f p.desk }) (λ p q. q ∙ ap session (sym (keeps p.desk))) w.ports a.ports;
      }

  one_noted : (core : Core) (t : Turn) (p : Port) → IsOf p → AreNumbered session (noted_of core t p)
  one_noted core (Give m) p q = go (give_refusal p.side m)
    where
      go : (o : Option Refused) → AreNumbered session (entries_for p.desk.host (sent_unless o (own_side core) p.session m))
      go None = fine p.desk.host (Sent (own_side core) p.session m ∷ []) (q, tt)
      go (Some why) = tt
  one_noted core t p q = tt

  found_noted : (core : Core) (t : Turn) (k : ℕ) (ports : List Port) → AllByRecursion IsOf ports
      → AreNumbered session (option_map_or (noted_of core t) (port_at ports k) [])
  found_noted core t k [] a = tt
  found_noted core t k (p ∷ ports) a = go (p.desk.host == k) refl (found_noted core t k ports a.1)
    where
      go : (b : Bool) → (p.desk.host == k) ≡ b → AreNumbered session (option_map_or (noted_of core t) (port_at ports k) [])
          → AreNumbered session (option_map_or (noted_of core t) (port_at (p ∷ ports) k) [])
      go true q later = rw q (one_noted core t p a.0)
      go false q later = rw q later

  turns : (k : ℕ) (t : Turn) (w : Work) → Numbers w → Numbers (turn_at k t w)
  turns k t w a =
      record {
        entries = all_append (IsNumbered session) w.entries (option_map_or (noted_of w.core t) (port_at w.ports k) []) a.entries
            (found_noted w.core t k w.ports a.ports);
        ports = with_one k (after_turn t) (λ p q. q) w.ports a.ports;
      }

  beside : (w v : Work) → v.core.node ≡ w.core.node → v.ports ≡ w.ports → v.entries ≡ w.entries → Numbers w → Numbers v
  beside w v core ports entries a =
      record {
        entries = subst (AreNumbered session) (sym entries) a.entries;
        ports = subst (AllByRecursion IsOf) (sym ports) a.ports;
      }

  -- ## What comes

  come_of : (p : Port) (o : Option LinkInput) → IsOf p → IsOf (has_come p o)
  come_of p None q = q
  come_of p (Some i) q = q

  all_told : (core : Core) (input : NodeInput) (ports : List Port) → AllByRecursion IsOf ports
      → AllByRecursion (λ (p : Port). StaysCounted p.side (input_at input p)) ports
      → AreNumbered session (flat_map (λ p. told_at core p (input_at input p)) ports)
  all_told core input [] a few = tt
  all_told core input (p ∷ ports) a few =
      all_append (IsNumbered session) (told_at core p (input_at input p)) (flat_map (λ p. told_at core p (input_at input p)) ports)
      (told_numbered core p (input_at input p) a.0 few.0) (all_told core input ports a.1 few.1)

  come : (input : NodeInput) (w : Work) → CountsFew input w.ports → Numbers w → Numbers (all_come input w)
  come input w few a =
      record {
        entries = all_append (IsNumbered session) w.entries (flat_map (λ p. told_at w.core p (input_at input p)) w.ports) a.entries
            (all_told w.core input w.ports a.ports few.come);
        ports = all_of (λ p. has_come p (input_at input p)) (λ p q. come_of p (input_at input p) q) w.ports a.ports;
      }

  late_of : (p : Port) → IsOf p → IsOf (reset_late p)
  late_of p q = by_test (is_late p) (λ z. rw z q) (λ z. rw z q)

  late_noted : (core : Core) (p : Port) → IsOf p → StaysCounted p.side (Some (Reset None)) → AreNumbered session (told_late core p)
  late_noted core p q few = by_test (is_late p) (λ z. rw z (told_numbered core p (Some (Reset None)) q few)) (λ z. rw z tt)

  -- all notices that come to their hundredth tick
  all_late : (core : Core) (ports : List Port) → AllByRecursion IsOf ports
      → AllByRecursion (λ (p : Port). StaysCounted (has_come p (input_at TimePasses p)).side (Some (Reset None))) ports
      → AreNumbered session (flat_map (told_late core) (map with_older (map (λ p. has_come p (input_at TimePasses p)) ports)))
  all_late core [] a few = tt
  all_late core (p ∷ ports) a few =
      let aged : Port = with_older (has_come p (input_at TimePasses p)) in
      all_append (IsNumbered session) (told_late core aged)
      (flat_map (told_late core) (map with_older (map (λ p. has_come p (input_at TimePasses p)) ports))) (late_noted core aged a.0 few.0)
      (all_late core ports a.1 few.1)

  out : (input : NodeInput) (w : Work) → CountsFew input w.ports → Numbers w → Numbers (times_out input (all_come input w))
  out (AtEnd h i) w few a = come (AtEnd h i) w few a
  out TimePasses w few a =
      let came : Numbers (all_come TimePasses w) = come TimePasses w few a in
      let ports : List Port = map with_older (map (λ p. has_come p (input_at TimePasses p)) w.ports) in
      record {
        entries = all_append (IsNumbered session) (all_come TimePasses w).entries (flat_map (told_late w.core) ports) came.entries
            (all_late w.core w.ports a.ports few.late);
        ports = all_of reset_late late_of ports (all_of with_older (λ p q. q) (map (λ p. has_come p (input_at TimePasses p)) w.ports) came.ports);
      }

  forgets_of : (ports : List Port) (p : Port) → IsOf p → IsOf (forgets ports p)
  forgets_of ports p q = by_test (is_forgotten ports (asked_at p)) (λ z. rw z q) (λ z. rw z q)

  without_of : (p : Port) → IsOf p → IsOf (without_notice p)
  without_of p q = by_test (is_over p) (λ z. rw z q) (λ z. rw z q)

  -- ## Steps

  pub stepped : (input : NodeInput) (w : Work) → CountsFew input w.ports → Numbers w → Numbers (steps input w)
  stepped input w few a =
      let v : Work = times_out input (all_come input w) in
      let left : List Port = map (forgets v.ports) v.ports in
      let came : Numbers v = out input w few a in
      let first : Numbers (record v { core = after_sessions v.core v.ports; ports = map without_notice left }) = record {
        entries = came.entries;
        ports = all_of without_notice without_of left (all_of (forgets v.ports) (forgets_of v.ports) v.ports came.ports);
      } in
      rest Numbers note desk turns beside (forgotten v.ports) (flat_map (synced w.core input) w.ports) (all_owed left)
      (record v { core = after_sessions v.core v.ports; ports = map without_notice left })
      (forgotten_mute v.ports) (all_synced_mute w.core input w.ports) (all_owed_mute left) first

  pub begun : (h : ℕ) (deeds : List Deed) (w : Work) → AreMute deeds → Numbers w → Numbers (begins_with h deeds w)
  begun h deeds w m a = all_do Numbers note desk turns beside h deeds w m a

-- What was noted of a node is what the definition of its step notes.

-- as a step begins, each end of a node is in the session with the number of its end
pub work_numbers : (session : ℕ → ℕ) (r : Running) (plan : Option Plan) (near_ends : ℕ → NumberedEnd) (entries : List Entry)
    → AreNumbered session entries → AllByRecursion (λ (d : Desk). number_of (near_ends d.host) ≡ session d.host) r.desks
    → Numbers session (work_of r plan near_ends entries)
work_numbers session r plan near_ends entries noted a = record { entries = noted; ports = all r.desks a }
  where
    all : (desks : List Desk) → AllByRecursion (λ (d : Desk). number_of (near_ends d.host) ≡ session d.host) desks
        → AllByRecursion (IsOf session) (map (λ (d : Desk). port_for (near_ends d.host) d) desks)
    all [] a = tt
    all (d ∷ desks) a = (a.0, all desks a.1)

-- a frame that arrives has no number of a session
pub arrival_numbered : (session : ℕ → ℕ) (h : ℕ) (who : Side) (l : Link) (comes : Comes) → AreNumbered session (entries_for h (arrival who l comes))
arrival_numbered session h who l NextFrame = go l.to_controller
  where
    go : (w : List OnWire) → AreNumbered session (entries_for h (arrival who (record l { to_controller = w }) NextFrame))
    go [] = tt
    go (x ∷ xs) = (tt, tt)
arrival_numbered session h who l (AsksReset window) = tt
arrival_numbered session h who l (Starts value) = tt
arrival_numbered session h who l Stops = tt
arrival_numbered session h who l NoInput = tt

kept_few : (n : ℕ) → n ≤ 4294967295 → kept_number n ≡ n
kept_few n few = omega (arith, few)

swapped_twice : (k n : ℕ) → swapped_number k (swapped_number k n) ≡ n
swapped_twice k n = go (n == 0) refl
  where
    back : (b : Bool) → (k == 0) ≡ b → swapped_number k k ≡ 0
    back true z = rw z (eqb-true k 0 z)
    back false z = rw (z, eq-eqb k k refl) refl

    others : (b : Bool) → (n == 0) ≡ false → (n == k) ≡ b → swapped_number k (swapped_number k n) ≡ n
    others true z q = rw (z, q) (sym (eqb-true n k q))
    others false z q = rw (z, q) (rw (z, q) refl)

    go : (b : Bool) → (n == 0) ≡ b → swapped_number k (swapped_number k n) ≡ n
    go true z = rw z (back (k == 0) refl ∙ sym (eqb-true n 0 z))
    go false z = others (n == k) z refl

module _ (session : ℕ → ℕ) where
  twice : (e : Entry) → with_swapped_number session (with_swapped_number session e) ≡ e
  twice (entry.Up at n) = ap (entry.Up at) (swapped_twice (session at.link) n)
  twice (entry.Sent at n pid message) = ap (λ k. entry.Sent at k pid message) (swapped_twice (session at.link) n)
  twice (entry.Got at n pid message) = ap (λ k. entry.Got at k pid message) (swapped_twice (session at.link) n)
  twice (entry.Acked at n count) = ap (λ k. entry.Acked at k count) (swapped_twice (session at.link) n)
  twice e = refl

  all_twice : (t : List Entry) → map (with_swapped_number session) (map (with_swapped_number session) t) ≡ t
  all_twice [] = refl
  all_twice (e ∷ t) = ap₂ (λ x xs. x ∷ xs) (twice e) (all_twice t)

  told_back : (t : List Entry) → map (with_swapped_number session) (map (with_session_number session) t) ≡ map unnumbered t
  told_back [] = refl
  told_back (e ∷ t) = ap₂ (λ x xs. x ∷ xs) (twice (unnumbered e)) (told_back t)

  noted_back : (t : List Entry) → map (with_swapped_number session) (map unnumbered t) ≡ map (with_session_number session) t
  noted_back [] = refl
  noted_back (e ∷ t) = ap (λ xs. with_session_number session e ∷ xs) (noted_back t)

  one : (e : Entry) → IsNumbered session e → with_session_number session e ≡ e
  one (entry.Up at n) q = ap (entry.Up at) (sym q)
  one (entry.Sent at n pid message) q = ap (λ k. entry.Sent at k pid message) (sym q)
  one (entry.Got at n pid message) q = ap (λ k. entry.Got at k pid message) (sym q)
  one (entry.Acked at n count) q = ap₂ (entry.Acked at) (sym q.0) (kept_few count q.1)
  one e q = refl

  all_numbered : (t : List Entry) → AreNumbered session t → map (with_session_number session) t ≡ t
  all_numbered [] a = refl
  all_numbered (e ∷ t) a = ap₂ (λ x xs. x ∷ xs) (one e a.0) (all_numbered t a.1)

-- what was noted so, as a watch was told of it
pub as_watched : {n : Kept} {sessions : List ℕ} {start t : List Entry} → IsNotedSo n sessions start t
    → n.short ≡ false → as_told n.sessions n.entries.items ≡ as_told sessions start ++ map unnumbered t
as_watched {n} {sessions} {start} {t} noted off =
    let is = noted.are off in
    let f : Entry → Entry = with_swapped_number (session_at sessions) in
    ap₂ (λ k es. as_told k es) is.0 is.1
    ∙ ap (λ es. entry.Ask 0 sessions ∷ es)
    (map-append f start (map (with_session_number (session_at sessions)) t) ∙ ap (λ es. map f start ++ es) (told_back (session_at sessions) t))

-- and back
pub as_noted : (n : Kept) (sessions : List ℕ) (start t : List Entry)
    → (n.short ≡ false → as_told n.sessions n.entries.items ≡ as_told sessions start ++ map unnumbered t) → IsNotedSo n sessions start t
as_noted n sessions start t told = record { are = λ off. by n.sessions (told off) }
  where
    f : Entry → Entry
    f = with_swapped_number (session_at sessions)

    by : (k : List ℕ) → as_told k n.entries.items ≡ as_told sessions start ++ map unnumbered t
        → (k ≡ sessions) × (n.entries.items ≡ start ++ map (with_session_number (session_at sessions)) t)
    by k q =
        let same : k ≡ sessions = cc in
        let rest : map (with_swapped_number (session_at k)) n.entries.items ≡ map f start ++ map unnumbered t = cc in (
          same,
          sym (all_twice (session_at sessions) n.entries.items)
              ∙ (ap (map f) (rw same at rest)
              ∙ (map-append f (map f start) (map unnumbered t)
              ∙ ap₂ (λ x y. x ++ y) (all_twice (session_at sessions) start) (noted_back (session_at sessions) t))),
        )

-- what has the numbers of its sessions was noted as it is
pub noted_behind : {n : Kept} {sessions : List ℕ} {start t : List Entry} → IsNotedSo n sessions start t → AreNumbered (session_at sessions) t
    → IsNotedBehind n start t
noted_behind {sessions = sessions} {start} {t} noted a off = (noted.are off).1 ∙ ap (λ es. start ++ es) (all_numbered (session_at sessions) t a)

-- as nothing was noted yet
pub none_noted : (n : Kept) → IsNotedSo n n.sessions n.entries.items []
none_noted n = record { are = λ off. (refl, sym (append-nil n.entries.items)) }
