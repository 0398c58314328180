-- What a node notes in a step tells of it alone, and ends with its cut where it loses its power.
use Rattle.node_laws.proofs.Words.{About, Acked, Active, AllByRecursion, AreNotOf, Asks, AtEnd, Bool, Comes, Command, Commits, Control, Core, Creation, Deed}
use Rattle.node_laws.proofs.Words.{Desk, Down, Drops, Emit, Ends, Entry, FetchMessage, GaveUp, Give, GoesOn, GoesOut, Got, Hears, Hold, IsAnswered, Link}
use Rattle.node_laws.proofs.Words.{LinkInput, List, Message, NodeInput, None, Noted, Option, Orders, Port, Release, Releases, Removed, Report, SaysOk, Sends}
use Rattle.node_laws.proofs.Words.{Sent, SetAside, SetsErrors, Some, Tells, TimePasses, Took, Turn, Waits, Work, Write, [], after_input, after_sessions}
use Rattle.node_laws.proofs.Words.{after_turn, all_append, all_come, all_done, all_of_host, all_owed, any_of_controller, ap, append-nil, append_assoc, arith}
use Rattle.node_laws.proofs.Words.{arrival, asked_at, body_of, by_option, by_test, changed_if, comes_to_pass, commit, commit_writes, cond, count_of, deeds_of}
use Rattle.node_laws.proofs.Words.{done, end_of, end_of_node, end_of_number, ending_entries, entries_for, entry_of, eqb-true, false, filter, flat_map, forgets}
use Rattle.node_laws.proofs.Words.{frames_noted, frames_out, goes_in, goes_through_ends, handles, has_come_so, has_freed, has_synced, have_turns, holds_back}
use Rattle.node_laws.proofs.Words.{hosts_of_ends, inl, input_at, inr, is_held, is_held_at, keeps, lacking, lets_go, loses_power, map, node_of, noted_of}
use Rattle.node_laws.proofs.Words.{notified, noting, option_map_or, owed, owed_in_step, own_side, passes, port_at, put, put_entries, puts_entries, refl, report}
use Rattle.node_laws.proofs.Words.{steps, subst, sym, synced, syncs_in, takes_up, told, told_at, told_late, told_of_coming, told_of_late, true, turn_at}
use Rattle.node_laws.proofs.Words.{unless_cut, waiting_at, whole_acked, with_desk, with_older, with_port, without_notice, ℕ, ◌++◌, ◌==◌, ◌∙◌, ◌∷◌, ◌≡◌, ◌⊎◌}
use Rattle.link_laws.specs.entries.Entries.{End as Side}
use Rattle.link_laws.specs.entries.Entries.Entry.{Up}
use Rattle.node_laws.specs.power.Powers.{node_told}
use Rattle.node_laws.proofs.kept.Doing.{hosts_map, uncut as on_goes}
use Rattle.node_laws.proofs.passes.InSteps.{come_entries, come_hosts, coming_all}
use Rattle.node_laws.proofs.passes.Passing.{have_handled, have_held}
use Rattle.node_laws.proofs.steps.StepWalks.{changed_host, come_host, forgets_host, sessions_node, without_host}
use Rattle.node_laws.proofs.telling.Shapes.{entries_uncut, frames_none, told_all}
use Rattle.node_laws.proofs.telling.Accounts.{AreUncut, IsUncut}
use Rattle.gate_answers.specs.declared.response.Response.TheVariants as response
use Rattle.trace_model.specs.declared.entry.Entry.TheVariants as entry

-- ## Entries of one node, and lists in which nothing of a node stands behind its cut

-- where a node is told of it is this one
abbrev pub IsAt : ℕ → Option ℕ → Type 0
IsAt k None = Unit {0}
IsAt k (Some m) = m ≡ k

abbrev pub IsOwn : ℕ → Entry → Type 0
IsOwn k x = IsAt k (node_told x)

abbrev pub AreOwn : ℕ → List Entry → Type 0
AreOwn k es = AllByRecursion (IsOwn k) es

pub own_not : (k n : ℕ) (es : List Entry) → (k == n) ≡ false → AreOwn k es → AreNotOf n es
own_not k n [] off a = tt
own_not k n (x ∷ es) off a = (grind arith, own_not k n es off a.1)

-- ### Behind cuts

-- behind a cut nothing tells of its node
abbrev IfCut : Entry → List Entry → Type 0
IfCut (entry.Cut n) es = AreNotOf n es
IfCut _ es = Unit {0}

abbrev pub AreOver : List Entry → Type 0
AreOver [] = Unit {0}
AreOver (x ∷ es) = IfCut x es × AreOver es

pub over_split : (es before behind : List Entry) (n : ℕ) → AreOver es → es ≡ before ++ (entry.Cut n ∷ behind) → AreNotOf n behind
over_split [] [] behind n a e = absurd (cc e)
over_split [] (y ∷ before) behind n a e = absurd (cc e)
over_split (x ∷ es) [] behind n a e =
    let same : x ≡ entry.Cut n = cc in
    let rest : es ≡ behind = cc in
    subst (λ l. AreNotOf n l) rest (subst (λ y. IfCut y es) same a.0)
over_split (x ∷ es) (y ∷ before) behind n a e =
    let rest : es ≡ before ++ (entry.Cut n ∷ behind) = cc in over_split es before behind n a.1 rest

pub over_front : (front es : List Entry) → AreUncut front → AreOver es → AreOver (front ++ es)
over_front [] es u a = a
over_front (x ∷ front) es u a = (grind arith, over_front front es u.1 a)

-- ### What one node notes in an event

-- it is of this node, and a cut ends it
pub record IsPart (k : ℕ) (t : List Entry) : Type 0 where
  pub front : List Entry
  pub lost : Bool
  pub is : t ≡ front ++ cond lost (entry.Cut k ∷ []) []
  pub uncut : AreUncut front
  pub own : AreOwn k front

pub part_own : (k : ℕ) (t : List Entry) → IsPart k t → AreOwn k t
part_own k t p = subst (AreOwn k) (sym p.is) (all_append (IsOwn k) p.front (cond p.lost (entry.Cut k ∷ []) []) p.own (grind arith))

-- other nodes go on behind it
pub over_part : (k : ℕ) (t es : List Entry) → IsPart k t → AreNotOf k es → AreOver es → AreOver (t ++ es)
over_part k t es p none a =
    subst (λ l. AreOver (l ++ es)) (sym p.is)
    (subst AreOver (sym (append_assoc p.front (cond p.lost (entry.Cut k ∷ []) []) es))
    (over_front p.front (cond p.lost (entry.Cut k ∷ []) [] ++ es) p.uncut (by_test p.lost (λ q. rw q (none, a)) (λ q. rw q a))))

pub nothing_part : (k : ℕ) → IsPart k []
nothing_part k = record { front = []; lost = false; is = refl; uncut = tt; own = tt }

pub part_over : (k : ℕ) (t : List Entry) → IsPart k t → AreOver t
part_over k t p = subst AreOver (append-nil t) (over_part k t [] p tt tt)

-- ## What is noted of an end tells of its node, and of no loss of power

-- ### Its node

-- it is noted of this end, or of a frame that is lost
abbrev pub IsOfSide : Side → Noted → Type 0
IsOfSide who (Up s n) = s ≡ who
IsOfSide who (Down s cause) = s ≡ who
IsOfSide who (Active s) = s ≡ who
IsOfSide who (GaveUp s tries) = s ≡ who
IsOfSide who (Acked s n count) = s ≡ who
IsOfSide who (Got s n m) = s ≡ who
IsOfSide who (Sent s n m) = s ≡ who
IsOfSide who (Emit s frame) = s ≡ who
IsOfSide who (Took s frame) = s ≡ who
IsOfSide who _ = Unit {0}

abbrev pub AreOfSide : Side → List Noted → Type 0
AreOfSide who xs = AllByRecursion (IsOfSide who) xs

module _ (k h : ℕ) (who : Side) (own : node_of (end_of h who) ≡ k) where
  at : (s : Side) → s ≡ who → node_of (end_of h s) ≡ k
  at s e = rw e own

  pub links_own : (xs : List Noted) → AreOfSide who xs → AreOwn k (entries_for h xs)
  links_own [] a = tt
  links_own (x ∷ xs) a = all_append (IsOwn k) (entry_of h x) (entries_for h xs) (grind arith) (links_own xs a.1)

-- ### What is noted of one end

told_of_side : (who : Side) (n : ℕ) (r : Report) (acked : ℕ) → AreOfSide who (told who n r acked)
told_of_side who n r acked = told_all (IsOfSide who) who n acked refl refl (λ k. refl) refl (λ m. refl) (λ c. refl) r

puts_of_side : (who : Side) (l : Link) (cs : List Control) → AreOfSide who (puts_entries who l cs)
puts_of_side who l [] = tt
puts_of_side who l (c ∷ cs) =
    all_append (IsOfSide who) (put_entries who l c) (puts_entries who (put l c) cs) (refl, grind arith)
    (puts_of_side who (put l c) cs)

pub arrival_of_side : (who : Side) (l : Link) (comes : Comes) → AreOfSide who (arrival who l comes)
arrival_of_side who l comes = grind arith

-- ## What a node notes in a step tells of it, and ends with its cut where it loses its power

module _ (k : ℕ) where
  -- the end of this node on the link with this host is one of its own
  abbrev pub IsEndOf : ℕ → Type 0
  IsEndOf h = node_of (end_of_number k h) ≡ k

  abbrev pub AreEnds : List Port → Type 0
  AreEnds ports = AllByRecursion (λ (p : Port). IsEndOf p.desk.host) ports

  -- the node runs on, and no loss of power is noted
  pub record Runs (w : Work) : Type 0 where
    pub on : w.cut ≡ false
    pub number : w.core.node ≡ k
    pub ends : AreEnds w.ports
    pub own : AreOwn k w.entries
    pub uncut : AreUncut w.entries

  -- it has lost its power, which is noted last
  pub record HasLost (w : Work) : Type 0 where
    pub off : w.cut ≡ true
    pub front : List Entry
    pub entries : w.entries ≡ front ++ entry.Cut k ∷ []
    pub own : AreOwn k front
    pub uncut : AreUncut front

  abbrev pub Fine : Work → Type 0
  Fine w = Runs w ⊎ HasLost w

  then_on : (f : Work → Work) (w : Work) → Fine w → ((v : Work) → Runs v → Fine (f v)) → Fine (unless_cut f w)
  then_on f w a later = grind arith

  -- ### Ends

  at_own : (core : Core) (h : ℕ) → core.node ≡ k → IsEndOf h → node_of (end_of h (own_side core)) ≡ k
  at_own core h number is = subst (λ n. node_of (end_of_number n h) ≡ k) (sym number) is

  map_ends : (f : Port → Port) → ((p : Port) → (f p).desk.host ≡ p.desk.host) → (ports : List Port) → AreEnds ports → AreEnds (map f ports)
  map_ends f host [] a = tt
  map_ends f host (p ∷ ports) a = (subst IsEndOf (sym (host p)) a.0, map_ends f host ports a.1)

  with_ends : (j : ℕ) (f : Port → Port) → ((p : Port) → (f p).desk.host ≡ p.desk.host) → (ports : List Port) → AreEnds ports
      → AreEnds (with_port j f ports)
  with_ends j f host ports a = map_ends (λ p. changed_if (p.desk.host == j) f p) (λ p. changed_host (p.desk.host == j) f p host) ports a

  port_end : (ports : List Port) (j : ℕ) (p : Port) → AreEnds ports → port_at ports j ≡ Some p → IsEndOf p.desk.host
  port_end [] j p a q = absurd (cc q)
  port_end (x ∷ ports) j p a q = by_test (x.desk.host == j)
      (λ e. grind arith)
      (λ e. port_end ports j p a.1 (rw e at q))

  -- ### What a node does

  note_runs : (es : List Entry) (w : Work) → AreOwn k es → AreUncut es → Runs w → Runs (noting es w)
  note_runs es w own uncut r = record {
    on = r.on;
    number = r.number;
    ends = r.ends;
    own = all_append (IsOwn k) w.entries es r.own own;
    uncut = all_append IsUncut w.entries es r.uncut uncut;
  }

  turn_own : (t : Turn) (w : Work) (o : Option Port) → Runs w → ((p : Port) → o ≡ Some p → IsEndOf p.desk.host)
      → AreOwn k (option_map_or (noted_of w.core t) o [])
  turn_own t w o r is = grind arith

  turn_runs : (j : ℕ) (t : Turn) (w : Work) → Runs w → Runs (turn_at j t w)
  turn_runs j t w r = record {
    on = r.on;
    number = r.number;
    ends = with_ends j (after_turn t) (λ p. refl) w.ports r.ends;
    own = all_append (IsOwn k) w.entries _ r.own (turn_own t w (port_at w.ports j) r (λ p q. port_end w.ports j p r.ends q));
    uncut = all_append IsUncut w.entries _ r.uncut (grind arith);
  }

  desk_runs : (j : ℕ) (f : Desk → Desk) (w : Work) → ((d : Desk) → (f d).host ≡ d.host) → Runs w → Runs (with_desk j f w)
  desk_runs j f w host r = record {
    on = r.on;
    number = r.number;
    ends = with_ends j (λ p. record p { desk = f p.desk }) (λ p. host p.desk) w.ports r.ends;
    own = r.own;
    uncut = r.uncut;
  }

  beside_runs : (w v : Work) → v.cut ≡ w.cut → v.core.node ≡ w.core.node → v.ports ≡ w.ports → v.entries ≡ w.entries → Runs w → Runs v
  beside_runs w v cut node ports entries r = grind arith

  notified_runs : (j : ℕ) (about : About) (message : List ℕ) (w : Work) → Runs w → Runs (notified j about message w)
  notified_runs j about message w r =
      desk_runs j (λ d. record d { notice = Some (record { about = about; age = 0 }) }) (turn_at j (Give (1, message)) w) (λ d. refl)
      (turn_runs j (Give (1, message)) w r)

  commit_fine : (c : Command) (w : Work) → Runs w → Fine (commit c w)
  commit_fine c w r = by_test (goes_in c w) (λ q. rw q (inr lost)) (λ q. rw q (inl (beside_runs begun (keeps c writes begun) refl refl refl refl noted)))
    where
      writes : List Write
      writes = commit_writes w.core.journal w.core.tables (body_of c)

      begun : Work
      begun = noting (entry.Command w.core.node c ∷ []) w

      noted : Runs begun
      noted = note_runs (entry.Command w.core.node c ∷ []) w (r.number, tt) (tt, tt) r

      lost : HasLost (loses_power writes begun)
      lost = record {
        off = refl;
        front = begun.entries;
        entries = ap (λ n. begun.entries ++ entry.Cut n ∷ []) r.number;
        own = noted.own;
        uncut = noted.uncut;
      }

  -- ### Deeds

  -- a deed that is done as a message of the end with the host h is handled tells of the node
  abbrev pub IsMine : ℕ → Deed → Type 0
  IsMine h (Asks to message c) = 0 ≡ k
  IsMine h (Drops pid) = IsEndOf h
  IsMine h (Ends x) = IsOwn k x × IsUncut x
  IsMine h _ = Unit {0}

  deed_fine : (h : ℕ) (d : Deed) (w : Work) → IsMine h d → Runs w → Fine (done h d w)
  deed_fine h (Commits c) w m r = commit_fine c w r
  deed_fine h (Sends to message) w m r = inl (turn_runs to (Give message) w r)
  deed_fine h SaysOk w m r = inl (note_runs (entry.AnyOk w.core.node (count_of w.core.journal) ∷ []) w (r.number, tt) (tt, tt) r)
  deed_fine h (Asks to message c) w m r =
      inl (notified_runs to (Waits c) message (noting (entry.Ask to message ∷ []) (turn_at c.asker SetAside w))
      (note_runs (entry.Ask to message ∷ []) (turn_at c.asker SetAside w) (m, tt) (tt, tt) (turn_runs c.asker SetAside w r)))
  deed_fine h (Releases asker) w m r = inl (turn_runs asker Release w r)
  deed_fine h (Tells to message) w m r = inl (notified_runs to Removed message w r)
  deed_fine h IsAnswered w m r = inl (desk_runs h (λ d. record d { notice = None }) w (λ d. refl) r)
  deed_fine h (Drops pid) w m r = inl (note_runs (entry.Dropped (end_of_node w.core h) pid ∷ []) w (at_own w.core h r.number m, tt) (tt, tt) r)
  deed_fine h (SetsErrors errors) w m r = inl (desk_runs h (λ d. record d { errors = errors }) w (λ d. refl) r)
  deed_fine h (Orders message) w m r =
      let v : Work = record w { core = record w.core { command = Some message } } in
      inl (turn_runs h (Give (1, message)) v (beside_runs w v refl refl refl refl r))
  deed_fine h Hears w m r = inl (beside_runs w (done h Hears w) refl refl refl refl r)
  deed_fine h (GoesOn i) w m r = inl (beside_runs w (done h (GoesOn i) w) refl refl refl refl r)
  deed_fine h (Ends x) w m r =
      let v : Work = record w { core = record w.core { init = None } } in
      inl (note_runs (x ∷ []) v (m.0, tt) (m.1, tt) (beside_runs w v refl refl refl refl r))

  pub deeds_fine : (h : ℕ) (deeds : List Deed) (w : Work) → AllByRecursion (IsMine h) deeds → Runs w → Fine (all_done h deeds w)
  deeds_fine h [] w m r = inl r
  deeds_fine h (d ∷ deeds) w m r = then_on (all_done h deeds) (done h d w) (deed_fine h d w m.0 r) (λ v s. deeds_fine h deeds v m.1 s)

  -- ### Messages

  reply_mine : (h : ℕ) (m : Message) (w : Work) → IsEndOf h → Runs w → AllByRecursion (IsMine h) (deeds_of w.core w.ports h m)
  reply_mine h m w is r = go (w.core.node == 0) (port_at w.ports h) refl refl
    where
      go : (b : Bool) (o : Option Port) → (w.core.node == 0) ≡ b → port_at w.ports h ≡ o → AllByRecursion (IsMine h) (deeds_of w.core w.ports h m)
      go true o zero here =
          rw zero (any_of_controller (IsMine h) (grind arith) (λ c. tt) (λ to message. tt)
          (λ to message c. sym (eqb-true w.core.node 0 zero) ∙ r.number) (λ errors. tt) w.core w.ports h m)
      go false None zero here = rw (zero, here) tt
      go false (Some p) zero here =
          rw (zero, here) (all_of_host (IsMine h) w.core (grind arith) (grind arith) p m (λ n value command zero sets. tt))

  handles_fine : (h : ℕ) (m : Message) (deeds : List Deed) (w : Work) → IsEndOf h → AllByRecursion (IsMine h) deeds → Runs w
      → Fine (handles h m deeds w)
  handles_fine h m deeds w is mine r =
      let told : Work = noting (entry.Turn (end_of_node w.core h) m.0 m.1 ∷ []) w in
      let noted : Runs told = note_runs (entry.Turn (end_of_node w.core h) m.0 m.1 ∷ []) w (at_own w.core h r.number is, tt) (tt, tt) r in
      deeds_fine h deeds (takes_up h m w) mine
      (desk_runs h (λ d. record d { holds = false }) (turn_at h FetchMessage told) (λ d. refl) (turn_runs h FetchMessage told noted))

  holds_fine : (h : ℕ) (short : ℕ × ℕ) (w : Work) → IsEndOf h → Runs w → Fine (holds_back h short w)
  holds_fine h short w is r = by_test (is_held_at w.ports h)
      (λ q. rw q (inl (turn_runs h (Hold true) w r)))
      (λ q. rw q (inl (turn_runs h (Hold true) (with_desk h (λ d. record d { holds = true }) told)
      (desk_runs h (λ d. record d { holds = true }) told (λ d. refl) noted))))
    where
      told : Work
      told = noting (entry.Held (end_of_node w.core h) short.0 short.1 ∷ []) w

      noted : Runs told
      noted = note_runs (entry.Held (end_of_node w.core h) short.0 short.1 ∷ []) w (at_own w.core h r.number is, tt) (tt, tt) r

  lets_fine : (h : ℕ) (w : Work) → Runs w → Fine (lets_go h w)
  lets_fine h w r = by_test (option_map_or (λ (p : Port). is_held p.side) (port_at w.ports h) false)
      (λ q. rw q (inl (turn_runs h (Hold false) w r)))
      (λ q. rw q (inl r))

  turns_fine : (h : ℕ) (messages : List Message) (w : Work) → IsEndOf h → Runs w → Fine (have_turns h messages w)
  turns_fine h [] w is r = lets_fine h w r
  turns_fine h (m ∷ messages) w is r = by_option (lacking w h m)
      (λ q. subst Fine (sym (have_handled h m messages w q))
      (then_on (have_turns h messages) (handles h m deeds w) (handles_fine h m deeds w is (reply_mine h m w is r) r) (λ v s. turns_fine h messages v is s)))
      (λ short q. subst Fine (sym (have_held h m messages w short q)) (holds_fine h short w is r))
    where
      deeds : List Deed
      deeds = deeds_of w.core w.ports h m

  ends_fine : (hosts : List ℕ) (w : Work) → AllByRecursion IsEndOf hosts → Runs w → Fine (goes_through_ends hosts w)
  ends_fine [] w is r = inl r
  ends_fine (h ∷ hosts) w is r =
      then_on (goes_through_ends hosts) (have_turns h (waiting_at w.ports h) w) (turns_fine h (waiting_at w.ports h) w is.0 r)
      (λ v s. ends_fine hosts v is.1 s)

  hosts_ends : (ports : List Port) → AreEnds ports → AllByRecursion IsEndOf (map (λ (p : Port). p.desk.host) ports)
  hosts_ends [] a = tt
  hosts_ends (p ∷ ports) a = (a.0, hosts_ends ports a.1)

  passes_fine : (w : Work) → Runs w → Fine (passes w)
  passes_fine w r = ends_fine (map (λ (p : Port). p.desk.host) w.ports) w (hosts_ends w.ports r.ends) r

-- ## A step of a node, and what begins at a host

-- ### What comes

come_core : (input : NodeInput) (w : Work) → (has_come_so input w).core ≡ w.core
come_core input w = grind arith

module _ (k : ℕ) where
  ends_by_hosts : (ps qs : List Port) → hosts_of_ends ps ≡ hosts_of_ends qs → AreEnds k ps → AreEnds k qs
  ends_by_hosts [] [] e a = tt
  ends_by_hosts [] (q ∷ qs) e a = absurd (cc e)
  ends_by_hosts (p ∷ ps) [] e a = absurd (cc e)
  ends_by_hosts (p ∷ ps) (q ∷ qs) e a =
      let one : p.desk.host ≡ q.desk.host = cc in
      let rest : hosts_of_ends ps ≡ hosts_of_ends qs = cc in (subst (IsEndOf k) one a.0, ends_by_hosts ps qs rest a.1)

  at_told : (core : Core) (p : Port) (o : Option LinkInput) → core.node ≡ k → IsEndOf k p.desk.host → AreOwn k (told_at core p o)
  at_told core p None number is = tt
  at_told core p (Some i) number is =
      links_own k p.desk.host (own_side core) (at_own k core p.desk.host number is)
      (told (own_side core) p.session (report p.side i) (whole_acked (after_input p.side i)))
      (told_of_side (own_side core) p.session (report p.side i) (whole_acked (after_input p.side i)))

  flat_own : (f : Port → List Entry) (ports : List Port) → AreEnds k ports → ((p : Port) → IsEndOf k p.desk.host → AreOwn k (f p))
      → AreOwn k (flat_map f ports)
  flat_own f [] a one = tt
  flat_own f (p ∷ ports) a one = all_append (IsOwn k) (f p) (flat_map f ports) (one p a.0) (flat_own f ports a.1 one)

  all_late_own : (input : NodeInput) (w : Work) → w.core.node ≡ k → AreEnds k w.ports → AreOwn k (told_of_late input w)
  all_late_own (AtEnd h i) w number a = tt
  all_late_own TimePasses w number a =
      flat_own (told_late w.core) (map with_older w.ports) (map_ends k with_older (λ p. refl) w.ports a) (λ p is. grind arith)

  come_ends : (input : NodeInput) (w : Work) → AreEnds k w.ports → AreEnds k (all_come input w).ports
  come_ends input w a = map_ends k _ (λ p. come_host p (input_at input p)) w.ports a

  coming_own : (input : NodeInput) (w : Work) → Runs k w → AreOwn k (told_of_coming input w)
  coming_own input w r =
      all_append (IsOwn k) (flat_map (λ p. told_at w.core p (input_at input p)) w.ports) (told_of_late input (all_come input w))
      (flat_own (λ p. told_at w.core p (input_at input p)) w.ports r.ends (λ p is. at_told w.core p (input_at input p) r.number is))
      (all_late_own input (all_come input w) r.number (come_ends input w r.ends))

  coming_uncut : (input : NodeInput) (w : Work) → AreUncut (told_of_coming input w)
  coming_uncut input w = coming_all IsUncut (λ h who n acked r. entries_uncut h (told who n r acked)) input w

  begun : NodeInput → Work → Work
  begun input w = record (has_come_so input w) {
    core = after_sessions (has_come_so input w).core (has_come_so input w).ports;
    ports = map without_notice (map (forgets (has_come_so input w).ports) (has_come_so input w).ports);
  }

  begun_runs : (input : NodeInput) (w : Work) → Runs k w → Runs k (begun input w)
  unfolding begun
  begun_runs input w r =
      let came : Work = has_come_so input w in
      record {
        on = (grind arith) ∙ r.on;
        number = sessions_node came.core came.ports ∙ (ap (λ (c : Core). c.node) (come_core input w) ∙ r.number);
        ends = ends_by_hosts w.ports _
            (sym (hosts_map without_notice without_host (map (forgets came.ports) came.ports)
            ∙ (hosts_map (forgets came.ports) (forgets_host came.ports) came.ports ∙ come_hosts input w))) r.ends;
        own = subst (AreOwn k) (sym (come_entries input w)) (all_append (IsOwn k) w.entries (told_of_coming input w) r.own (coming_own input w r));
        uncut = subst AreUncut (sym (come_entries input w)) (all_append IsUncut w.entries (told_of_coming input w) r.uncut (coming_uncut input w));
      }

  -- ### Beyond messages

  abbrev AreMine : List Deed → Type 0
  AreMine deeds = AllByRecursion (IsMine k 0) deeds

  flat_mine : (f : Port → List Deed) → ((p : Port) → AreMine (f p)) → (ports : List Port) → AreMine (flat_map f ports)
  flat_mine f one [] = tt
  flat_mine f one (p ∷ ports) = all_append (IsMine k 0) (f p) (flat_map f ports) (one p) (flat_mine f one ports)

  all_owed_mine : (ports : List Port) → AreMine (all_owed ports)
  all_owed_mine ports =
      all_append (IsMine k 0) (flat_map (λ p. owed response.NotConnected (asked_at p)) (filter (λ p. p.ended) ports)) _
      (flat_mine (λ p. owed response.NotConnected (asked_at p)) (λ p. grind arith) (filter (λ p. p.ended) ports))
      (flat_mine (λ p. owed response.Timeout (asked_at p)) (λ p. grind arith) (filter (λ p. p.late) ports))

  synced_mine : (core : Core) (input : NodeInput) (p : Port) → AreMine (synced core input p)
  synced_mine core input p = grind arith

  -- ### A step

  freed_runs : (cs : List Creation) (v : Work) → Runs k v → Runs k (all_done 0 (map (λ (c : Creation). Releases c.asker) cs) v)
  freed_runs [] v r = r
  freed_runs (c ∷ cs) v r =
      let u : Work = turn_at c.asker Release v in
      let s : Runs k u = turn_runs k c.asker Release v r in
      subst (Runs k) (sym (on_goes (all_done 0 (map (λ (c : Creation). Releases c.asker) cs)) u s.on)) (freed_runs cs u s)

  pub steps_fine : (input : NodeInput) (w : Work) → Runs k w → Fine k (steps input w)
  unfolding begun
  steps_fine input w r =
      let came : Work = has_come_so input w in
      let freed : Runs k (has_freed input w) = freed_runs _ (begun input w) (begun_runs input w r) in
      then_on k passes (comes_to_pass input w)
      (then_on k (all_done 0 (owed_in_step input w)) (has_synced input w)
      (deeds_fine k 0 (syncs_in input w) (has_freed input w) (flat_mine (synced w.core input) (synced_mine w.core input) w.ports) freed)
      (λ v s. deeds_fine k 0 (owed_in_step input w) v (all_owed_mine (map (forgets came.ports) came.ports)) s))
      (λ v s. passes_fine k v s)

  -- ### What it leaves

  -- what it noted, with frames that go out only while its power is on
  pub work_part : (v : Work) (frames : List Entry) → Fine k v → (v.cut ≡ true → frames ≡ []) → AreOwn k frames → AreUncut frames
      → IsPart k (v.entries ++ frames)
  work_part v frames (inl r) none own uncut = record {
    front = v.entries ++ frames;
    lost = false;
    is = sym (append-nil (v.entries ++ frames));
    uncut = all_append IsUncut v.entries frames r.uncut uncut;
    own = all_append (IsOwn k) v.entries frames r.own own;
  }
  work_part v frames (inr l) none own uncut = record {
    front = l.front;
    lost = true;
    is = ap (λ es. v.entries ++ es) (none l.off) ∙ (append-nil v.entries ∙ l.entries);
    uncut = l.uncut;
    own = l.own;
  }

-- ### Frames

pub frames_own : (k : ℕ) (who : Side) (h : ℕ) (l : Link) (v : Work) → node_of (end_of h who) ≡ k → AreOwn k (frames_noted who h l v)
frames_own k who h l v at = by_test v.cut
    (λ off. subst (AreOwn k) (sym (frames_none who h l v off)) tt)
    (λ on. by_option (port_at v.ports h)
    (λ q. rw q tt)
    (λ p q. rw (q, on) (links_own k h who at (ending_entries who l p.side GoesOut) (puts_of_side who l (frames_out p.side)))))
