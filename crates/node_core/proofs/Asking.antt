-- What a host does by itself leaves it running.
use Rattle.node_core.proofs.Words.{BeginsStep, Bool, Core, Deed, EndsStandFor, Entry, GoesOn, HasStepped, Init, IsAllSent, IsAsked, IsAskedOf, IsInStep}
use Rattle.node_core.proofs.Words.{IsNodeInOrder, IsOnTask, IsUicc, IsUsable, List, MayComeAt, Node, None, Option, Orders, Port, Refused, RunsAs, Sends, Some}
use Rattle.node_core.proofs.Words.{Stored, ToEnd, Work, [], all_done, ap, append-nil, arith, beginning, between, done, false, give_refusal, if_waiting}
use Rattle.node_core.proofs.Words.{is_command_message, is_some, map, not, port_at, refl, sending, subst, sym, true, ℕ, ◌&&◌, ◌==◌, ◌∙◌, ◌∷◌, ◌≡◌, ◌≢◌, ◌≤◌}
use Rattle.node_ends.specs.declared.inputs.LinkInput.TheVariants as asks
use Rattle.node_core.proofs.Quiet.{done_quiet}
use Rattle.node_core.proofs.Elsewhere.{same_links}
use Rattle.node_core.proofs.EndKinds.{same_kinds}
use Rattle.node_core.proofs.Lasting.{OfAll, Rests, rests_stays, all_done_so}
use Rattle.node_core.proofs.Between.{ends_back, runs_rest, runs_so, core_with, at_rest, kept_alike, kept_twice, kept_none_ended, usable_with}
use Rattle.node_core.proofs.Ordering.{in_order_at, with_task}
use Rattle.node_core.proofs.Deciders.{only, found_one}
use Rattle.node_core.proofs.Sendings.{given_order, given_other, given_both}
use Rattle.node_core.proofs.Sendables.{found_all}

pub not_zero : (n : ℕ) → 1 ≤ n → n ≢ 0
not_zero n low none = omega (arith, low, none)

-- ## As it begins

pub asked_in_step : {N : Type 0} {n : Node N} {noted start : List Entry} {short : Bool} {w : Work} → IsAsked n noted short start w
    → IsInStep n noted short start w
asked_in_step {n = n} {w = w} a = record {
  node = a.runs.node;
  core = λ live. a.runs.stands;
  ends = ends_back n.ends w.ports a.runs.ends a.none_ended;
  noted_are = a.noted_are;
  power = a.power ∙ sym (ap not a.runs.live);
}

sent_kept : (ports : List Port) → IsAllSent ports → IsAllSent (map between ports)
sent_kept [] sent = tt
sent_kept (p ∷ ports) sent = (sent.0, sent_kept ports sent.1)

-- a node that may step begins a step so
pub begins_at_rest : {N : Type 0} {n : Node N} {core : Core} {ports : List Port} (noted : List Entry) (short : Bool) → RunsAs n core ports
    → IsAllSent ports → BeginsStep n noted short noted (at_rest core ports)
begins_at_rest {ports = ports} noted short runs sent = record {
  runs = kept_alike ports (map between ports) (sym (kept_twice ports)) runs;
  sent = sent_kept ports sent;
  none_ended = kept_none_ended ports;
  power = refl;
  noted_are = λ kept. sym (append-nil noted);
}

-- ## What is under way

-- a message that isn't refused doesn't wait
pub never_waits : (b : Bool) (why : Option Refused) → if_waiting b why ≡ None → b ≡ false
never_waits b why none = grind arith

one_order : (h : ℕ) (d : Deed) (w : Work) → (done h d w).core.node ≡ w.core.node → IsOnTask (done h d w).core → IsNodeInOrder w.core w.ports
    → IsNodeInOrder (done h d w).core (done h d w).ports
one_order h d w node task order =
    with_task w.core (done h d w).core (done h d w).ports node task
    (in_order_at w.core w.ports (done h d w).ports (same_kinds (done h d w).ports w.ports (same_links (done h d w).ports w.ports (done_quiet h d w))) order)

-- a host that sends a message stays in order
pub sending_order : (h pipe : ℕ) (message : List ℕ) (w : Work)
    → ((pipe == 1 && is_command_message message) && is_some w.core.command) ≡ false → IsNodeInOrder w.core w.ports
    → IsNodeInOrder (all_done h (sending h (pipe, message)) w).core (all_done h (sending h (pipe, message)) w).ports
sending_order h pipe message w free order = by (pipe == 1 && is_command_message message) refl
  where
    P : Work → Type 0
    P v = IsNodeInOrder v.core v.ports

    by : (b : Bool) → (pipe == 1 && is_command_message message) ≡ b → P (all_done h (sending h (pipe, message)) w)
    by true q =
        let none : is_some w.core.command ≡ false = sym (ap (λ b. b && is_some w.core.command) q) ∙ free in
        subst P (given_order h pipe message w q)
        (one_order h (Orders message) w refl (grind arith, order.task.1) order)
    by false q = subst P (given_other h pipe message w q) (one_order h (Sends h (pipe, message)) w refl order.task order)

-- so does one that begins an init
pub beginning_order : (h : ℕ) (identity : List ℕ) (pipes : List (List ℕ)) (w : Work) → w.cut ≡ false → w.core.node ≢ 0 → IsNodeInOrder w.core w.ports
    → IsNodeInOrder (all_done h (beginning identity pipes) w).core (all_done h (beginning identity pipes) w).ports
beginning_order h identity pipes w live some order =
    let i : Init = record { identity = identity; pipes = pipes; answered = 0 } in
    let first : Work = done h (GoesOn i) w in
    let second : Work = done h (Orders (3 ∷ [])) first in
    let ports = in_order_at w.core w.ports second.ports
    (same_kinds second.ports w.ports (same_links second.ports w.ports (done_quiet h (Orders (3 ∷ [])) first))) order in
    subst (λ v. IsNodeInOrder v.core v.ports) (given_both h (GoesOn i) (Orders (3 ∷ [])) w live)
    (with_task w.core second.core second.ports refl (refl, λ none. absurd (some none)) ports)

-- ## As it ends

-- the ends rest as they did
pub given_rests : {N : Type 0} {n : Node N} {noted start : List Entry} {short : Bool} {w : Work} (h : ℕ) (deeds : List Deed)
    → IsAsked n noted short start w → OfAll (Rests 4) (all_done h deeds w).ports
given_rests {w = w} h deeds a = all_done_so (Rests 4) (rests_stays 4) h deeds w (runs_rest w.ports a.runs.few a.runs.in_time a.runs.held)

-- it runs on, and what was done to its ends isn't kept
pub has_given : {N : Type 0} {n n2 : Node N} {noted start : List Entry} {short : Bool} {w : Work} → IsInStep n noted short start w
    → n.store.journal.live ≡ true → EndsStandFor n2.ends (map between w.ports) → n2.store ≡ n.store → n2.number ≡ n.number → n2.tasks ≡ n.tasks
    → IsUsable n2.store → IsNodeInOrder w.core w.ports → OfAll (Rests 4) w.ports → HasStepped n2 noted short start w
has_given {N} {n} {n2} {w = w} u live ends store number tasks usable order rest =
    let k = u.core (u.power ∙ ap not live) in
    record {
      power = subst (λ s. w.cut ≡ not s.journal.live) (sym store) u.power;
      runs = λ power.
          runs_so 4 w.ports (omega arith) usable (ap (λ (s : Stored N). s.journal.live) store ∙ live) (u.node ∙ sym number) (core_with store tasks k)
          ends order rest;
      noted_are = u.noted_are;
    }

-- ## Activation

-- what is asked of a host may come to its end
pub asked_may : (what : ToEnd) (host : ℕ) (core : Core) (ports : List Port) → IsAskedOf what → core.node ≢ 0 → IsNodeInOrder core ports
    → MayComeAt what (port_at ports host)
asked_may (asks.Frame read) host core ports asked some order = absurd asked
asked_may (asks.Reset window) host core ports asked some order = asked
asked_may (asks.Start value) host core ports asked some order =
    let h0 = port_at ports host in let h1 = found_all (λ (p : Port). IsUicc p.side.role) ports host (order.roles.uicc some) in grind arith
asked_may asks.Stop host core ports asked some order = tt

-- ## A host that was asked

-- the end of a host's own link
pub record HasOwnPort (core : Core) (ports : List Port) : Type 0 where
  pub port : Port
  pub at : port_at ports core.node ≡ Some port

pub own_port : (core : Core) (ports : List Port) → core.node ≢ 0 → IsNodeInOrder core ports → HasOwnPort core ports
own_port core ports some order =
    let o = only core.node ports (order.own some) in
    record { port = o.port; at = ap (λ (l : List Port). port_at l core.node) o.ports_are ∙ found_one core.node o.port o.host }

-- it sent a message that wasn't refused
pub has_sent_so : {N : Type 0} {n n1 n2 : Node N} {noted noted2 start : List Entry} {short short2 : Bool} {w : Work} (pipe : ℕ) (message : List ℕ)
    → IsAsked n noted short start w → n.number ≢ 0
    → ((p : Port) → port_at w.ports n.number ≡ Some p
    → None ≡ if_waiting ((pipe == 1 && is_command_message message) && is_some w.core.command) (give_refusal p.side (pipe, message)))
    → IsInStep n1 noted2 short2 start (all_done n.number (sending n.number (pipe, message)) w) → n1.store ≡ n.store
    → ((ports : List Port) → EndsStandFor n1.ends ports → EndsStandFor n2.ends (map between ports)) → n2.store ≡ n1.store
    → n2.number ≡ n1.number → n2.tasks ≡ n1.tasks
    → HasStepped n2 noted2 short2 start (all_done n.number (sending n.number (pipe, message)) w)
has_sent_so {N} {n} {n1} {n2} {w = w} pipe message a some taken u kept ended store number tasks =
    let node = a.runs.node in
    let at = ap (port_at w.ports) (sym node) ∙ (own_port w.core w.ports (λ none. some (sym node ∙ none)) a.runs.order).at in
    let v : Work = all_done n.number (sending n.number (pipe, message)) w in
    has_given u (ap (λ (s : Stored N). s.journal.live) kept ∙ a.runs.live) (ended v.ports u.ends) store number tasks (usable_with (store ∙ kept) a.runs.usable)
    (sending_order n.number pipe message w (grind arith) a.runs.order) (given_rests n.number (sending n.number (pipe, message)) a)

-- it began an init that wasn't refused
pub has_begun_so : {N : Type 0} {n n1 n2 : Node N} {noted noted2 start : List Entry} {short short2 : Bool} {w : Work} (identity : List ℕ)
    (pipes : List (List ℕ)) → IsAsked n noted short start w → n.number ≢ 0
    → IsInStep n1 noted2 short2 start (all_done n.number (beginning identity pipes) w) → n1.store ≡ n.store
    → ((ports : List Port) → EndsStandFor n1.ends ports → EndsStandFor n2.ends (map between ports)) → n2.store ≡ n1.store
    → n2.number ≡ n1.number → n2.tasks ≡ n1.tasks
    → HasStepped n2 noted2 short2 start (all_done n.number (beginning identity pipes) w)
has_begun_so {N} {n} {n1} {n2} {w = w} identity pipes a some u kept ended store number tasks =
    let v : Work = all_done n.number (beginning identity pipes) w in
    has_given u (ap (λ (s : Stored N). s.journal.live) kept ∙ a.runs.live) (ended v.ports u.ends) store number tasks (usable_with (store ∙ kept) a.runs.usable)
    (beginning_order n.number identity pipes w a.power (λ none. some (sym a.runs.node ∙ none)) a.runs.order)
    (given_rests n.number (beginning identity pipes) a)
