-- What a node notes of what comes, of its deeds and before its pass is of a few kinds, and what lasts over these lasts over its steps.
use Rattle.node_laws.proofs.Words.{AllByRecursion, AreNoTurns, Asks, AtEnd, Bool, Command, Commits, Core, Creation, Cut, Deed, Entry, FetchMessage, Give}
use Rattle.node_laws.proofs.Words.{GoesOn, Hears, Hold, IsAnswered, IsNoTurn, LinkInput, List, Message, NodeInput, None, OfHost, Option, Plain, Port, Refused}
use Rattle.node_laws.proofs.Words.{Release, Releases, Report, Reset, SetAside, SetsErrors, Some, Sync, Tells, TimePasses, Turn, Work, [], after_input}
use Rattle.node_laws.proofs.Words.{after_sessions, after_turn, all_append, all_come, all_done, all_flat, all_of_host, all_owed, all_owed_hold, all_synced_hold}
use Rattle.node_laws.proofs.Words.{answer_of, any_of_controller, anyone, ap, append-nil, append_assoc, arith, beginning, by_test, comes_to_pass, commit, cond}
use Rattle.node_laws.proofs.Words.{deeds_hold, deeds_of, done, end_of_node, entries_for, entry_of, flat_map, forgets, forgotten, forgotten_hold, goes_in}
use Rattle.node_laws.proofs.Words.{has_come, has_come_so, has_freed, has_synced, hosts_of_ends, input_at, is_late, map, noted_before_pass, noted_by_deed}
use Rattle.node_laws.proofs.Words.{noted_by_deeds, noted_of, option_map_or, owed_in_step, own_side, passes, port_at, refl, report, reset_late, sending}
use Rattle.node_laws.proofs.Words.{sent_unless, steps, subst, sym, synced, syncs_in, times_out, told, told_at, told_late, told_of_coming, told_of_late, turn_at}
use Rattle.node_laws.proofs.Words.{unless_cut, whole_acked, with_older, without_notice, ℕ, ◌++◌, ◌∙◌, ◌∷◌, ◌≡◌}
use Rattle.link_laws.specs.entries.Entries.{End as Side, Entry as Told}
use Rattle.node_laws.specs.passes.Noting.{noted_at}
use Rattle.node_laws.proofs.kept.Doing.{hosts_map}
use Rattle.node_laws.proofs.steps.StepWalks.{Lasts, all_last, come_host, forgets_host, late_host, rest_lasts, unless, without_host}
use Rattle.node_laws.proofs.telling.Accounts.{AreMute, all_owed_mute, all_synced_mute, every_do, forgotten_mute}
use Rattle.node_laws.proofs.views.Turning.{with_hosts}
use Rattle.trace_model.specs.declared.entry.Entry.TheVariants as entry

-- ## What holds of all that is told of an input to an end holds of all that is noted as something comes to a node

module _ (P : Entry → Type 0) (told_one : (h : ℕ) (who : Side) (n acked : ℕ) (r : Report) → AllByRecursion P (entries_for h (told who n r acked))) where
  at_one : (core : Core) (p : Port) (o : Option LinkInput) → AllByRecursion P (told_at core p o)
  at_one core p None = tt
  at_one core p (Some i) = told_one p.desk.host (own_side core) p.session (whole_acked (after_input p.side i)) (report p.side i)

  late : (core : Core) (p : Port) → AllByRecursion P (told_late core p)
  late core p = by_test (is_late p) (λ q. rw q (at_one core p (Some (Reset None)))) (λ q. rw q tt)

  lates : (input : NodeInput) (w : Work) → AllByRecursion P (told_of_late input w)
  lates (AtEnd h i) w = tt
  lates TimePasses w = all_flat P (told_late w.core) (late w.core) (map with_older w.ports)

  pub coming_all : (input : NodeInput) (w : Work) → AllByRecursion P (told_of_coming input w)
  coming_all input w =
      all_append P (flat_map (λ p. told_at w.core p (input_at input p)) w.ports) (told_of_late input (all_come input w))
      (all_flat P (λ p. told_at w.core p (input_at input p)) (λ p. at_one w.core p (input_at input p)) w.ports) (lates input (all_come input w))

-- ## What deeds note, and what they leave as it is

commit_notes : (c : Command) (w : Work) → (commit c w).entries ≡ w.entries ++ noted_by_deed 0 (Commits c) w
commit_notes c w = by_test (goes_in c w) (λ q. rw q (append_assoc w.entries (entry.Command w.core.node c ∷ []) (entry.Cut w.core.node ∷ []))) (λ q. rw q refl)

-- one deed
pub deed_notes : (h : ℕ) (d : Deed) (w : Work) → (done h d w).entries ≡ w.entries ++ noted_by_deed h d w
deed_notes h (Commits c) w = commit_notes c w
deed_notes h (Asks to message c) w =
    let more : List Entry = noted_at to (Give (1, message)) (turn_at c.asker SetAside w) in
    ap (λ es. ((w.entries ++ es) ++ entry.Ask to message ∷ []) ++ more) (grind arith)
    ∙ (ap (λ es. (es ++ entry.Ask to message ∷ []) ++ more) (append-nil w.entries) ∙ append_assoc w.entries (entry.Ask to message ∷ []) more)
deed_notes h (Releases asker) w = ap (λ es. w.entries ++ es) (grind arith)
deed_notes h IsAnswered w = sym (append-nil w.entries)
deed_notes h (SetsErrors errors) w = sym (append-nil w.entries)
deed_notes h Hears w = sym (append-nil w.entries)
deed_notes h (GoesOn i) w = sym (append-nil w.entries)
deed_notes h _ w = refl

-- deeds, one after another
pub deeds_note_of_notes : (h : ℕ) (deeds : List Deed) (w : Work) → (all_done h deeds w).entries ≡ w.entries ++ noted_by_deeds h deeds w
deeds_note_of_notes h [] w = sym (append-nil w.entries)
deeds_note_of_notes h (d ∷ deeds) w = by_test (done h d w).cut
    (λ q. rw q (deed_notes h d w ∙ ap (λ es. w.entries ++ es) (sym (append-nil one))))
    (λ q. rw q (deeds_note_of_notes h deeds (done h d w) ∙ (ap (λ es. es ++ noted_by_deeds h deeds v) (deed_notes h d w) ∙ append_assoc w.entries one
    (noted_by_deeds h deeds v))))
  where
    v : Work
    v = done h d w

    one : List Entry
    one = noted_by_deed h d w

-- ## What deeds note is of a few kinds: where a fact holds of each entry of these kinds, it holds of all that a deed notes

-- an entry of a kind that deeds note
abbrev pub IsOfDeed : Entry → Type 0
IsOfDeed (entry.Sent e n pid message) = Unit {0}
IsOfDeed (entry.Ask host message) = Unit {0}
IsOfDeed (entry.Dropped e pid) = Unit {0}
IsOfDeed (entry.Command node command) = Unit {0}
IsOfDeed (entry.AnyOk node count) = Unit {0}
IsOfDeed (entry.InitSame e) = Unit {0}
IsOfDeed (entry.InitMade e count) = Unit {0}
IsOfDeed (entry.InitFailed e code) = Unit {0}
IsOfDeed (entry.Cut node) = Unit {0}
IsOfDeed _ = ⊥

-- it holds of what a deed notes, whatever the node is
abbrev pub NotesOnly : (Entry → Type 0) → Deed → Type 0
NotesOnly P d = (h : ℕ) (w : Work) → AllByRecursion P (noted_by_deed h d w)

module _ (P : Entry → Type 0) (of_deed : (x : Entry) → IsOfDeed x → P x) where
  sent : (h n : ℕ) (m : Message) (side : Side) (o : Option Refused) → AllByRecursion P (entries_for h (sent_unless o side n m))
  sent h n m side o = grind arith

  given : (core : Core) (m : Message) (o : Option Port) → AllByRecursion P (option_map_or (noted_of core (Give m)) o [])
  given core m o = grind arith

  -- what a turn notes
  turn_notes : (core : Core) (y : Turn) (o : Option Port) → AllByRecursion P (option_map_or (noted_of core y) o [])
  turn_notes core y o = grind arith

  cut : (b : Bool) (n : ℕ) → AllByRecursion P (cond b (entry.Cut n ∷ []) [])
  cut b n = grind arith

  plain : Plain (NotesOnly P)
  plain = grind arith

  commits : (c : Command) → NotesOnly P (Commits c)
  commits c h w = (of_deed (entry.Command w.core.node c) tt, cut (goes_in c w) w.core.node)

  tells : (to : ℕ) (message : List ℕ) → NotesOnly P (Tells to message)
  tells to message h w = given w.core (1, message) (port_at w.ports to)

  asks : (to : ℕ) (message : List ℕ) (c : Creation) → NotesOnly P (Asks to message c)
  asks to message c h w = (of_deed (entry.Ask to message) tt, given w.core (1, message) (port_at (turn_at c.asker SetAside w).ports to))

  own : (core : Core) → OfHost (NotesOnly P) core
  own core = grind arith

  -- what a message that a node handles causes
  causes_note : (core : Core) (ports : List Port) (h : ℕ) (m : Message) → AllByRecursion (NotesOnly P) (deeds_of core ports h m)
  causes_note core ports h m =
      deeds_hold (AllByRecursion (NotesOnly P)) core ports h m
      (any_of_controller (NotesOnly P) plain commits tells asks (λ errors h w. tt) core ports h m) tt
      (λ p. all_of_host (NotesOnly P) core plain (own core) p m (λ n value is zero sets h w. tt))

  forgotten_note : (ports : List Port) → AllByRecursion (NotesOnly P) (forgotten ports)
  forgotten_note ports = forgotten_hold (NotesOnly P) plain.releases ports

  owed_note : (ports : List Port) → AllByRecursion (NotesOnly P) (all_owed ports)
  owed_note ports = all_owed_hold (NotesOnly P) (λ asker. plain.releases asker) (λ to r. plain.sends to (1, answer_of r [])) ports

  synced_note : (core : Core) (input : NodeInput) (ports : List Port) → AllByRecursion (NotesOnly P) (flat_map (synced core input) ports)
  synced_note core input ports = all_synced_hold (NotesOnly P) (λ host id. commits (Sync host id)) core input ports

  -- what begins at a host
  pub sending_notes : (h : ℕ) (m : Message) → AllByRecursion (NotesOnly P) (sending h m)
  sending_notes h m = grind arith

  pub beginning_notes : (identity : List ℕ) (pipes : List (List ℕ)) → AllByRecursion (NotesOnly P) (beginning identity pipes)
  beginning_notes identity pipes = ((λ k w. tt), ((λ k w. given w.core (1, 3 ∷ []) (port_at w.ports k)), tt))

-- ## What deeds note tells of no turn

of_deed : (x : Entry) → IsOfDeed x → IsNoTurn x
of_deed x a = grind arith

-- what a deed notes, whatever the node is
abbrev pub NotesNoTurn : Deed → Type 0
NotesNoTurn d = NotesOnly IsNoTurn d

pub noted_none : (h : ℕ) (deeds : List Deed) (w : Work) → AllByRecursion NotesNoTurn deeds → AreNoTurns (noted_by_deeds h deeds w)
noted_none h [] w a = tt
noted_none h (d ∷ deeds) w a =
    all_append IsNoTurn (noted_by_deed h d w) _ (a.0 h w) (by_test (done h d w).cut (λ q. rw q tt) (λ q. rw q (noted_none h deeds (done h d w) a.1)))

pub reply_none : (core : Core) (ports : List Port) (h : ℕ) (m : Message) (w : Work) → AreNoTurns (noted_by_deeds h (deeds_of core ports h m) w)
reply_none core ports h m w = noted_none h (deeds_of core ports h m) w (causes_note IsNoTurn of_deed core ports h m)

owed_none : (core : Core) (ports : List Port) (w : Work) → AreNoTurns (noted_by_deeds 0 (all_owed ports) w)
owed_none core ports w = noted_none 0 (all_owed ports) w (owed_note IsNoTurn of_deed ports)

synced_none : (core : Core) (input : NodeInput) (ports : List Port) (w : Work) → AreNoTurns (noted_by_deeds 0 (flat_map (synced core input) ports) w)
synced_none core input ports w = noted_none 0 (flat_map (synced core input) ports) w (synced_note IsNoTurn of_deed core input ports)

-- what begins at a host
pub sending_turnless : (h : ℕ) (m : Message) → AllByRecursion NotesNoTurn (sending h m)
sending_turnless = sending_notes IsNoTurn of_deed

pub beginning_turnless : (identity : List ℕ) (pipes : List (List ℕ)) → AllByRecursion NotesNoTurn (beginning identity pipes)
beginning_turnless = beginning_notes IsNoTurn of_deed

-- ## What a node notes in a step before its pass

-- ### What is noted

pub come_entries : (input : NodeInput) (w : Work) → (has_come_so input w).entries ≡ w.entries ++ told_of_coming input w
come_entries (AtEnd h i) w = ap (λ es. w.entries ++ es) (sym (append-nil _))
come_entries TimePasses w =
    append_assoc w.entries (flat_map (λ p. told_at w.core p (input_at TimePasses p)) w.ports) (told_of_late TimePasses (all_come TimePasses w))

-- blocks that are free aren't noted
releases_none : (cs : List Creation) (w : Work) → noted_by_deeds 0 (map (λ (c : Creation). Releases c.asker) cs) w ≡ []
releases_none [] w = refl
releases_none (c ∷ cs) w = go w.cut (releases_none cs (turn_at c.asker Release w))
  where
    go : (b : Bool) {es : List Entry} → es ≡ [] → cond b [] es ≡ []
    go b later = grind arith

freed_entries : (input : NodeInput) (w : Work) → (has_freed input w).entries ≡ w.entries ++ told_of_coming input w
freed_entries input w =
    let came : Work = has_come_so input w in
    let begun : Work = record came { core = after_sessions came.core came.ports; ports = map without_notice (map (forgets came.ports) came.ports) } in
    deeds_note_of_notes 0 (forgotten came.ports) begun
    ∙ (ap (λ es. came.entries ++ es) (releases_none _ begun) ∙ (append-nil came.entries ∙ come_entries input w))

synced_entries : (input : NodeInput) (w : Work)
    → (has_synced input w).entries ≡ w.entries ++ (told_of_coming input w ++ noted_by_deeds 0 (syncs_in input w) (has_freed input w))
synced_entries input w =
    let more : List Entry = noted_by_deeds 0 (syncs_in input w) (has_freed input w) in
    deeds_note_of_notes 0 (syncs_in input w) (has_freed input w)
    ∙ (ap (λ es. es ++ more) (freed_entries input w) ∙ append_assoc w.entries (told_of_coming input w) more)

pub before_entries : (input : NodeInput) (w : Work) → (comes_to_pass input w).entries ≡ w.entries ++ noted_before_pass input w
before_entries input w = by_test v.cut
    (λ q. rw q (synced_entries input w ∙ ap (λ es. w.entries ++ (first ++ es)) (sym (append-nil syncs))))
    (λ q. rw q (deeds_note_of_notes 0 (owed_in_step input w) v
    ∙ (ap (λ es. es ++ owing) (synced_entries input w)
    ∙ (append_assoc w.entries (first ++ syncs) owing ∙ ap (λ es. w.entries ++ es) (append_assoc first syncs owing)))))
  where
    v : Work
    v = has_synced input w

    first : List Entry
    first = told_of_coming input w

    syncs : List Entry
    syncs = noted_by_deeds 0 (syncs_in input w) (has_freed input w)

    owing : List Entry
    owing = noted_by_deeds 0 (owed_in_step input w) v

pub steps_are : (input : NodeInput) (w : Work) → steps input w ≡ unless_cut passes (comes_to_pass input w)
steps_are input w = refl

-- ### No turns

one_none : (h : ℕ) (x : Told) → AreNoTurns (entry_of h x)
one_none h x = grind arith

pub links_none : (h : ℕ) (xs : List Told) → AreNoTurns (entries_for h xs)
links_none h xs = all_flat IsNoTurn (entry_of h) (one_none h) xs

coming_none : (input : NodeInput) (w : Work) → AreNoTurns (told_of_coming input w)
coming_none input w = coming_all IsNoTurn (λ h who n acked r. links_none h (told who n r acked)) input w

pub before_none : (input : NodeInput) (w : Work) → AreNoTurns (noted_before_pass input w)
before_none input w =
    all_append IsNoTurn (told_of_coming input w) (syncs ++ cond v.cut [] owing) (coming_none input w)
    (all_append IsNoTurn syncs (cond v.cut [] owing) (synced_none w.core input w.ports (has_freed input w)) (by_test v.cut
    (λ q. rw q tt)
    (λ q. rw q (owed_none w.core (map (forgets (has_come_so input w).ports) (has_come_so input w).ports) v))))
  where
    v : Work
    v = has_synced input w

    syncs : List Entry
    syncs = noted_by_deeds 0 (syncs_in input w) (has_freed input w)

    owing : List Entry
    owing = noted_by_deeds 0 (owed_in_step input w) v

-- ### Ends

abbrev HasHosts : List ℕ → Work → Type 0
HasHosts hosts w = hosts_of_ends w.ports ≡ hosts

done_hosts : (hosts : List ℕ) (h : ℕ) (deeds : List Deed) (w : Work) → AreMute deeds → HasHosts hosts w → HasHosts hosts (all_done h deeds w)
done_hosts hosts h deeds w mute a =
    every_do (HasHosts hosts) (λ es v p b. b) (λ k f v host b. with_hosts k (λ p. record p { desk = f p.desk }) (λ p. host p.desk) v.ports ∙ b)
    (λ k t v n b. with_hosts k (after_turn t) (λ p. refl) v.ports ∙ b) (λ u v c n ports e b. ap hosts_of_ends ports ∙ b) (λ writes v b. b) h deeds w mute a

pub come_hosts : (input : NodeInput) (w : Work) → hosts_of_ends (has_come_so input w).ports ≡ hosts_of_ends w.ports
come_hosts (AtEnd h i) w = hosts_map (λ p. has_come p (input_at (AtEnd h i) p)) (λ p. come_host p (input_at (AtEnd h i) p)) w.ports
come_hosts TimePasses w =
    hosts_map reset_late late_host (map with_older (all_come TimePasses w).ports)
    ∙ (hosts_map with_older (λ p. refl) (all_come TimePasses w).ports
    ∙ hosts_map (λ p. has_come p (input_at TimePasses p)) (λ p. come_host p (input_at TimePasses p)) w.ports)

pub before_hosts : (input : NodeInput) (w : Work) → hosts_of_ends (comes_to_pass input w).ports ≡ hosts_of_ends w.ports
before_hosts input w =
    unless (HasHosts hosts) (all_done 0 (owed_in_step input w)) (has_synced input w)
    (λ v a. done_hosts hosts 0 (owed_in_step input w) v (all_owed_mute (map (forgets came.ports) came.ports)) a)
    (done_hosts hosts 0 (syncs_in input w) (has_freed input w) (all_synced_mute w.core input w.ports)
    (done_hosts hosts 0 (forgotten came.ports) begun (forgotten_mute came.ports)
    (hosts_map without_notice without_host (map (forgets came.ports) came.ports)
    ∙ (hosts_map (forgets came.ports) (forgets_host came.ports) came.ports ∙ come_hosts input w))))
  where
    hosts : List ℕ
    hosts = hosts_of_ends w.ports

    came : Work
    came = has_come_so input w

    begun : Work
    begun = record came { core = after_sessions came.core came.ports; ports = map without_notice (map (forgets came.ports) came.ports) }

-- ## What lasts as entries of the kinds that deeds and turns note are added lasts over a step of a node, once something has come

-- an entry of a kind that deeds and turns note
abbrev pub IsOfStep : Entry → Type 0
IsOfStep (entry.Turn e pid message) = Unit {0}
IsOfStep (entry.Held e need spare) = Unit {0}
IsOfStep x = IsOfDeed x

-- these entries, and behind them more, of which this holds
pub record IsBehind (P : Entry → Type 0) (front es : List Entry) : Type 0 where
  pub more : List Entry
  pub is : es ≡ front ++ more
  pub all : AllByRecursion P more

nothing : (P : Entry → Type 0) (front : List Entry) → IsBehind P front front
nothing P front = record { more = []; is = sym (append-nil front); all = tt }

grown : (P : Entry → Type 0) (front es more : List Entry) → AllByRecursion P more → IsBehind P front es → IsBehind P front (es ++ more)
grown P front es more all a = record {
  more = a.more ++ more;
  is = ap (λ l. l ++ more) a.is ∙ append_assoc front a.more more;
  all = all_append P a.more more a.all all;
}

module _ (P : Entry → Type 0) (of_step : (x : Entry) → IsOfStep x → P x) where
  -- so is each that deeds note
  pub of_deeds : (x : Entry) → IsOfDeed x → P x
  of_deeds x a = grind arith

  module _ (front : List Entry) where
    abbrev Has : Work → Type 0
    Has w = IsBehind P front w.entries

    adds : (w : Work) (more : List Entry) → AllByRecursion P more → Has w → IsBehind P front (w.entries ++ more)
    adds w more all a = grown P front w.entries more all a

    lasts : Lasts Has (NotesOnly P) (λ h m. Unit {0})
    lasts = record {
      does = λ h d w may a. subst (IsBehind P front) (sym (deed_notes h d w)) (adds w (noted_by_deed h d w) (may h w) a);
      turn_told = λ h m w c a. adds w (entry.Turn (end_of_node w.core h) m.0 m.1 ∷ []) (of_step (entry.Turn (end_of_node w.core h) m.0 m.1) tt, tt) a;
      held_told = λ h need spare w a. adds w (entry.Held (end_of_node w.core h) need spare ∷ [])
          (of_step (entry.Held (end_of_node w.core h) need spare) tt, tt) a;
      fetched = λ h w a. adds w (option_map_or (noted_of w.core FetchMessage) (port_at w.ports h) [])
          (turn_notes P of_deeds w.core FetchMessage (port_at w.ports h)) a;
      held = λ h flag w a. adds w (option_map_or (noted_of w.core (Hold flag)) (port_at w.ports h) [])
          (turn_notes P of_deeds w.core (Hold flag) (port_at w.ports h)) a;
      marked = λ h flag w a. record { more = a.more; is = a.is; all = a.all };
      come = λ h w a. anyone (λ m. Unit {0}) (λ m. tt) _;
      causes = λ h m w c a. causes_note P of_deeds w.core w.ports h m;
    }

  pub deeds_note : (h : ℕ) (deeds : List Deed) (w : Work) → AllByRecursion (NotesOnly P) deeds → IsBehind P w.entries (all_done h deeds w).entries
  deeds_note h deeds w may = all_last (Has w.entries) (NotesOnly P) (λ h m. Unit {0}) (lasts w.entries) h deeds w may (nothing P w.entries)

  -- behind what is noted as something comes, a step notes such entries alone
  pub step_notes : (input : NodeInput) (w : Work) → IsBehind P (w.entries ++ told_of_coming input w) (steps input w).entries
  step_notes input w =
      let front : List Entry = w.entries ++ told_of_coming input w in
      let came : Work = times_out input (all_come input w) in
      let left : List Port = map (forgets came.ports) came.ports in
      rest_lasts (Has front) (NotesOnly P)
      (λ h m. Unit {0}) (lasts front) (forgotten came.ports) (flat_map (synced w.core input) w.ports) (all_owed left)
      (record came { core = after_sessions came.core came.ports; ports = map without_notice left })
      (forgotten_note P of_deeds came.ports) (synced_note P of_deeds w.core input w.ports) (owed_note P of_deeds left)
      (subst (IsBehind P front) (sym (come_entries input w)) (nothing P front))

  -- so what lasts as such entries are added lasts
  module _ (F : List Entry → Type 0) (grows : (es more : List Entry) → AllByRecursion P more → F es → F (es ++ more)) where
    pub deeds_keep : (h : ℕ) (deeds : List Deed) (w : Work) → AllByRecursion (NotesOnly P) deeds → F w.entries → F (all_done h deeds w).entries
    deeds_keep h deeds w may a = let b = deeds_note h deeds w may in subst F (sym b.is) (grows w.entries b.more b.all a)

    pub step_keeps : (input : NodeInput) (w : Work) → F (w.entries ++ told_of_coming input w) → F (steps input w).entries
    step_keeps input w a = let b = step_notes input w in subst F (sym b.is) (grows (w.entries ++ told_of_coming input w) b.more b.all a)
