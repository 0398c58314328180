-- At each turn of a step a node alone replies to its message as is read, and REC_ERROR is what is read.
use Rattle.std.specs.Prelude.{None, Option, Some}
use Rattle.lone_laws.proofs.Words.{AllByRecursion, AllByRecursion-append, AreNoBoots, AreUnset, Bool, Core, Deed, End, Entry, ErrorCount}
use Rattle.lone_laws.proofs.Words.{FetchMessage, IsNoBoot, IsUpAt, IsUpNow, List, Message, NodeView, Noted, Port, Report, Sends, SetDeeds, SetsNone}
use Rattle.lone_laws.proofs.Words.{Side, Turn, Work, [], after_turn, all_done, ap, append_assoc, ap₂, arith, by_test, cond, controller_deeds, controller_sets}
use Rattle.lone_laws.proofs.Words.{controller_unset, core_noted, core_since, deeds_for, deeds_near, deeds_note, deeds_of, done, end_of_node, end_of_node_alone}
use Rattle.lone_laws.proofs.Words.{end_since, end_view, entries_for, entry_of, eqb, eqb-true, errors_after, errors_found, errors_set_by, errors_since, false}
use Rattle.lone_laws.proofs.Words.{first_lack, fold, fold-append, handles, host_deeds, host_sets, host_unset, is_asked_at, is_link_gate, is_up, is_up_read}
use Rattle.lone_laws.proofs.Words.{lack, lack_since, lacking, leads_to_link_gate, needs, noted_by_deeds, own_gate, own_view, port_at, refl, reply_since}
use Rattle.lone_laws.proofs.Words.{same_end, same_end_itself, session_now, spare, spare_since, spare_with, spare_with_link, subst, sym, takes_entries, takes_up}
use Rattle.lone_laws.proofs.Words.{told, told_all, true, uncut, view_of, view_with_link, waiting_at, ℕ, ◌&&◌, ◌++◌, ◌∙◌, ◌∷◌, ◌≡◌, ◌≤◌}
use Rattle.node_laws.proofs.read_steps.Knowing.{same_deeds}
use Rattle.node_laws.proofs.replies.Passes.{lack_alike}
use Rattle.node_laws.proofs.views.Doing.SetDeeds.{IsDropped as IsDroppedSo, IsRefused as IsRefusedSo, IsSet as IsSetSo}
use Rattle.node_laws.specs.read_steps.Alike.{KnowsTheSame}
use Rattle.node_laws.specs.views.Views.{IsSameView}
use Rattle.lone_laws.proofs.answered.Knowing.{KnowsAlone, begin_read}
use Rattle.lone_laws.proofs.answered.Reading.{Alone, Read, core_is, eqb_same}
use Rattle.lone_laws.proofs.answered.Replying.{IsLoneReply, IsNotedSo, TakesIt, answers_unbooted, controller_reply, deeds_answer, entries_of_deeds, host_reply}
use Rattle.lone_laws.proofs.answered.Replying.{reply_noted, session_of_end}
use Rattle.lone_laws.proofs.answered.Rooms.{Talks}
use Rattle.lone_laws.proofs.answered.Turning.{IsHere, alone_here, link_is, own_end}
use Rattle.gate_answers.specs.declared.response.Response.TheVariants as response
use Rattle.trace_model.specs.declared.entry.Entry.TheVariants as entry

-- ## REC_ERROR of a node alone is what is read, over each message that it handles

-- ### What is read

abbrev pub errs_all : End → ErrorCount → List Entry → ErrorCount
errs_all e x t = fold (errors_after e) x t

pub errs-append : (e : End) (x : ErrorCount) (t u : List Entry) → errs_all e x (t ++ u) ≡ errs_all e (errs_all e x t) u
errs-append e x t u = fold-append (errors_after e) x t u

-- ### Where pipes lead

module _ (number h : ℕ) where
  abbrev its_end : End
  its_end = end_of_node_alone number h

  -- a controller's tables are read as those that it keeps
  abbrev HasTables : ErrorCount → Core → Type 0
  HasTables x c = (c.node ≡ number) × (eqb number 0 ≡ true → x.book.tables ≡ c.tables)

  tables_all : (t : List Entry) (x : ErrorCount) (c : Core) → AreNoBoots t → HasTables x c → HasTables (errs_all its_end x t) (fold core_noted c t)
  tables_all [] x c none a = a
  tables_all (y ∷ t) x c none a = tables_all t (errors_after its_end x y) (core_noted c y) none.1 (grind arith)

  -- Where a pipe leads is read off the tables that the node keeps.
  gate_read : (found : Core) (t : List Entry) (pid : ℕ) → found.node ≡ number → AreNoBoots t
      → leads_to_link_gate (errs_all its_end (errors_found found) t).book.tables its_end pid
      ≡ leads_to_link_gate (fold core_noted found t).tables its_end pid
  gate_read found t pid node none = go (eqb number 0) refl where
    go : (b : Bool) → eqb number 0 ≡ b
        → leads_to_link_gate (errs_all its_end (errors_found found) t).book.tables its_end pid
        ≡ leads_to_link_gate (fold core_noted found t).tables its_end pid
    go true zero =
        ap (λ d. leads_to_link_gate d its_end pid) ((tables_all t (errors_found found) found none (node, λ _. refl)).1 zero)
    go false another = grind arith

-- ### What leaves it

-- an entry leaves REC_ERROR, and is no boot
abbrev pub IsSettled : End → Entry → Type 0
IsSettled e y = ((x : ErrorCount) → (errors_after e x y).errors ≡ x.errors) × IsNoBoot y

pub settled_errs : (e : End) (es : List Entry) → AllByRecursion (IsSettled e) es → (x : ErrorCount) → (errs_all e x es).errors ≡ x.errors
settled_errs e [] a x = refl
settled_errs e (y ∷ es) a x = settled_errs e es a.1 (errors_after e x y) ∙ a.0.0 x

settled_unbooted : (e : End) (es : List Entry) → AllByRecursion (IsSettled e) es → AreNoBoots es
settled_unbooted e [] a = tt
settled_unbooted e (y ∷ es) a = (a.0.1, settled_unbooted e es a.1)

-- REC_ERROR is read so, off entries in which the node doesn't boot again.
pub record ErrorsAre (e : End) (begin : ErrorCount) (t : List Entry) (errors : ℕ) : Type 0 where
  pub are : (errs_all e begin t).errors ≡ errors
  pub unbooted : AreNoBoots t

pub errors_then : (e : End) (begin : ErrorCount) (t es : List Entry) (errors : ℕ) → AllByRecursion (IsSettled e) es → ErrorsAre e begin t errors
    → ErrorsAre e begin (t ++ es) errors
errors_then e begin t es errors settled a = record {
  are = ap (λ (r : ErrorCount). r.errors) (errs-append e begin t es) ∙ (settled_errs e es settled (errs_all e begin t) ∙ a.are);
  unbooted = AllByRecursion-append IsNoBoot t es a.unbooted (settled_unbooted e es settled);
}

-- what holds of the entries of each note holds of all entries
pub notes_hold : (P : Entry → Type 0) (h : ℕ) (xs : List Noted) → AllByRecursion (λ x. AllByRecursion P (entry_of h x)) xs
    → AllByRecursion P (entries_for h xs)
notes_hold P h [] a = tt
notes_hold P h (x ∷ xs) a = AllByRecursion-append P (entry_of h x) (entries_for h xs) a.0 (notes_hold P h xs a.1)

pub told_settled : (e : End) (h : ℕ) (who : Side) (n acked : ℕ) (rep : Report) → AllByRecursion (IsSettled e) (entries_for h (told who n rep acked))
told_settled e h who n acked rep =
    notes_hold (IsSettled e) h (told who n rep acked)
    (told_all (λ x. AllByRecursion (IsSettled e) (entry_of h x)) who n acked (((λ x. refl), tt), tt) (((λ x. refl), tt), tt)
    (λ k. (((λ x. refl), tt), tt)) (((λ x. refl), tt), tt) (λ m. (((λ x. refl), tt), tt)) (λ c. (((λ x. refl), tt), tt)) rep)

-- ### What is kept

abbrev pub desk_errors : List Port → ℕ
desk_errors [] = 0
desk_errors (p ∷ ports) = p.desk.errors

-- ### A message that has its turn

-- what a message sets at the one end of a node with this number
abbrev sets_there : Core → End → Message → Option ℕ
sets_there core e m = cond (leads_to_link_gate core.tables e m.0) (errors_set_by m.1) None

-- what is done with a message fits what it sets: it sets nothing, or it is set and answered by ANY_OK, answered otherwise, or dropped
data FitsErrors (ports : List Port) (k pid : ℕ) (deeds : List Deed) : Option ℕ → Type 0 where
  SetsNothing : AreUnset deeds → FitsErrors ports k pid deeds None
  SetsIt : (v : ℕ) → SetDeeds ports k pid v deeds → FitsErrors ports k pid deeds (Some v)

fits_by : (ports : List Port) (k : ℕ) (m : Message) (deeds : List Deed) (here : Bool) (sets : Option ℕ)
    → (SetsNone here sets → AreUnset deeds) → ((v : ℕ) → here ≡ true → sets ≡ Some v → SetDeeds ports k m.0 v deeds)
    → FitsErrors ports k m.0 deeds (cond here sets None)
fits_by ports k m deeds true None unset set = SetsNothing (unset refl)
fits_by ports k m deeds true (Some v) unset set = SetsIt v (set v refl refl)
fits_by ports k m deeds false sets unset set = SetsNothing (unset refl)

-- of a controller
controller_fits : (core : Core) (ports : List Port) (k number h : ℕ) (m : Message) → eqb number 0 ≡ true → k ≡ h
    → FitsErrors ports k m.0 (controller_deeds (view_of core ports) k m) (sets_there core (end_of_node_alone number h) m)
controller_fits core ports k number h m zero same =
    subst (FitsErrors ports k m.0 (controller_deeds (view_of core ports) k m)) (sym (ap (λ b. cond b (errors_set_by m.1) None) (grind arith)))
    (fits_by ports k m (controller_deeds (view_of core ports) k m) (is_link_gate (own_gate core.tables k m.0)) (errors_set_by m.1)
    (controller_unset core ports k m) (λ v leads sets. controller_sets core ports k m v leads sets))

-- and of a host
host_fits : (core : Core) (ports : List Port) (p : Port) (k number h : ℕ) (m : Message) → eqb number 0 ≡ false → core.node ≡ k → port_at ports k ≡ Some p
    → FitsErrors ports k m.0 (host_deeds (own_view core) (end_view p) m) (sets_there core (end_of_node_alone number h) m)
host_fits core ports p k number h m another node here =
    subst (FitsErrors ports k m.0 (host_deeds (own_view core) (end_view p) m)) (sym (ap (λ b. cond b (errors_set_by m.1) None) (grind arith)))
    (fits_by ports k m (host_deeds (own_view core) (end_view p) m) (eqb m.0 0) (errors_set_by m.1) (host_unset core p m)
    (λ v leads sets. subst (λ n. SetDeeds ports n m.0 v (host_deeds (own_view core) (end_view p) m)) node
    (host_sets core ports p m v (subst (λ n. port_at ports n ≡ Some p) (sym node) here) leads sets)))

-- ### Its deeds

module _ (e : End) where
  -- deeds that set nothing, where no command that sets it waits for its answer
  unset_errs : (core : Core) (session : Option ℕ) (deeds : List Deed) → IsLoneReply deeds → AreUnset deeds → (z : ErrorCount) → z.sets ≡ None
      → (errs_all e z (entries_of_deeds core e session deeds)).errors ≡ z.errors
  unset_errs core session deeds a unset z none = grind arith

-- ### What is kept after them

module _ (k : ℕ) (u : Work) (on : u.cut ≡ false) where
  one_done : (d : Deed) → (done k d u).cut ≡ false → all_done k (d ∷ []) u ≡ done k d u
  one_done d q = uncut (all_done k []) (done k d u) q

  unset_kept : (deeds : List Deed) → IsLoneReply deeds → AreUnset deeds → (all_done k deeds u).cut ≡ false
      → desk_errors (all_done k deeds u).ports ≡ desk_errors u.ports
  unset_kept deeds a unset still = grind arith

  -- What is read behind deeds that fit what their message sets is what is kept behind them.
  deeds_errs : (e : End) (core : Core) (p : Port) (ports : List Port) (pid : ℕ) (deeds : List Deed) (z : ErrorCount) → IsLoneReply deeds
      → u.ports ≡ p ∷ [] → eqb p.desk.host k ≡ true → eqb k e.link ≡ true → (IsUpAt ports k → p.side.shdlc.phase ≡ IsUpNow)
      → z.errors ≡ desk_errors u.ports → FitsErrors ports k pid deeds z.sets → (all_done k deeds u).cut ≡ false
      → (errs_all e z (entries_of_deeds core e (session_of_end p) deeds)).errors ≡ desk_errors (all_done k deeds u).ports
  deeds_errs e core p ports pid deeds z shape one own there up same fits still = by z.sets refl fits where
    by : (o : Option ℕ) → z.sets ≡ o → FitsErrors ports k pid deeds o
        → (errs_all e z (entries_of_deeds core e (session_of_end p) deeds)).errors ≡ desk_errors (all_done k deeds u).ports
    by None q (SetsNothing unset) =
        unset_errs e core (session_of_end p) deeds shape unset z q ∙ (same ∙ sym (unset_kept deeds shape unset still))
    by (Some v) q (SetsIt _ (IsSetSo is_up_there is)) = grind arith
    by (Some v) q (SetsIt _ (IsRefusedSo is_up_there is)) = grind arith
    by (Some v) q (SetsIt _ (IsDroppedSo is)) = grind arith

-- ## A node with one link goes by what is said of such a node, and does by that what it does

module _ (core : Core) (p : Port) (h : ℕ) (host : p.desk.host ≡ h) where
  here : eqb p.desk.host h ≡ true
  here = ap (λ n. eqb n h) host ∙ eqb_same h

  one_spare : (k : ℕ) → spare_with (p ∷ []) k ≡ spare_with_link h (spare p.side) k
  one_spare k = by_test (eqb p.desk.host k) (λ q. rw q refl) (λ q. rw q refl) ∙ ap (λ n. cond (eqb n k) (spare p.side) 0) host

  one_lack : (ns : List (ℕ × ℕ)) → lack (p ∷ []) ns ≡ first_lack (spare_with_link h (spare p.side)) ns
  one_lack ns = lack_alike (spare_with (p ∷ [])) (spare_with_link h (spare p.side)) one_spare ns

  module _ (none : p.desk.notice ≡ None) where
    abbrev machine : NodeView
    machine = view_of core (p ∷ [])

    abbrev said : NodeView
    said = view_with_link core h (end_view p) (spare p.side)

    nobody : is_asked_at p ≡ false
    nobody = ap (λ n. is_asked_at (record p { desk = record p.desk { notice = n } })) none

    same_links : IsSameView (machine.links h) (said.links h)
    same_links = grind arith

    knows : KnowsTheSame machine said h
    knows = grind arith

    one_deeds : (m : Message) → deeds_of core (p ∷ []) h m ≡ deeds_for (view_with_link core h (end_view p) (spare p.side)) h m
    one_deeds m = by_test (eqb core.node 0)
        (λ q. deeds_near machine h m q ∙ (same_deeds machine said h knows m ∙ sym (deeds_near said h m q)))
        (λ q. grind arith)

-- ## At each turn of a step a node alone replies to its message as is read

module _ (rest : Core) (number h : ℕ) (some : 1 ≤ h) (most : h ≤ 7) (s : ℕ) (t : List Entry) where
  -- what the boot of this node found
  abbrev pub found : Core
  found = record rest { node = number }

  abbrev e : End
  e = end_of_node_alone number h

  -- What is known of it in a step.
  pub record KnowsAll (w : Work) : Type 0 where
    pub known : KnowsAlone number h s (begin_read found) t w
    pub errs : ErrorsAre e (errors_found found) (t ++ w.entries) (desk_errors w.ports)

  -- ### What is read

  module _ (w : Work) (a : KnowsAll w) where
    abbrev pub alone : Alone number h (begin_read found) t w
    alone = a.known.keeps

    abbrev talks : Talks number h s t w
    talks = a.known.talks

    abbrev pub its_port : Port
    its_port = alone.port

    pub same_port : talks.port ≡ its_port
    same_port = let both : (talks.port ∷ []) ≡ (its_port ∷ []) = sym talks.ports_are ∙ alone.ports_are in cc

    abbrev all : List Entry
    all = t ++ w.entries

    pub core_read : core_since found all ≡ w.core
    core_read = sym (core_is e all (begin_read found)) ∙ ap (λ (z : Read). z.core) alone.read

    pub session_read : session_now all e number ≡ session_of_end its_port
    session_read = grind arith

    up_is : is_up_read all number h ≡ is_up its_port.side.shdlc.phase
    up_is = grind arith

    errors_is : errors_since found e all ≡ its_port.desk.errors
    errors_is = a.errs.are ∙ ap desk_errors alone.ports_are

    end_is : end_since found h all ≡ end_view its_port
    end_is = λ i. record { up = up_is i; errors = errors_is i }

    module _ (its : eqb number 0 ≡ false → number ≡ h) where
      spare_at_it : spare_since found h all ≡ spare its_port.side
      spare_at_it = grind arith

      pub deeds_read : (k : ℕ) (m : Message) → k ≡ h → reply_since found h all m ≡ deeds_of w.core w.ports k m
      deeds_read k m same =
          ap (λ c. deeds_for (view_with_link c h (end_since found h all) (spare_since found h all)) h m) core_read
          ∙ (ap₂ (λ x n. deeds_for (view_with_link w.core h x n) h m) end_is spare_at_it
          ∙ (sym (one_deeds w.core its_port h alone.host alone.none m)
          ∙ (ap (λ n. deeds_of w.core (its_port ∷ []) n m) (sym same) ∙ ap (λ ps. deeds_of w.core ps k m) (sym alone.ports_are))))

      pub lack_read : (k : ℕ) (m : Message) → k ≡ h → lack_since found h all m ≡ lacking w k m
      lack_read k m same =
          ap₂ (λ n d. first_lack (spare_with_link h n) (needs h d)) spare_at_it (deeds_read k m same)
          ∙ (sym (one_lack w.core its_port h alone.host (needs h (deeds_of w.core w.ports k m)))
          ∙ (grind arith))

  -- ### A message that has its turn

  pub deeds_shape : (k : ℕ) (m : Message) (w : Work) (a : Alone number h (begin_read found) t w) → eqb a.port.desk.host k ≡ true
      → IsLoneReply (deeds_of w.core w.ports k m)
  deeds_shape k m w a own =
      subst (λ ps. IsLoneReply (deeds_of w.core ps k m)) (sym a.ports_are) (go (eqb w.core.node 0) refl) where
        go : (b : Bool) → eqb w.core.node 0 ≡ b → IsLoneReply (deeds_of w.core (a.port ∷ []) k m)
        go true q =
            rw q (controller_reply w.core a.port k m (eqb-true a.port.desk.host k own) a.none (a.good (ap (λ n. eqb n 0) (sym a.node) ∙ q)).1)
        go false q = rw (q, own) (host_reply w.core a.port m a.command)

  module _ (its : eqb number 0 ≡ false → number ≡ h) where
    -- what is done with a message fits what it sets
    deeds_fit : (k : ℕ) (m : Message) (w : Work) (a : Alone number h (begin_read found) t w) → eqb a.port.desk.host k ≡ true → k ≡ h
        → FitsErrors w.ports k m.0 (deeds_of w.core w.ports k m) (sets_there w.core e m)
    deeds_fit k m w a own same = by_test (eqb w.core.node 0)
        (λ q. subst (λ d. FitsErrors w.ports k m.0 d (sets_there w.core e m)) (rw q refl)
        (controller_fits w.core w.ports k number h m (ap (λ n. eqb n 0) (sym a.node) ∙ q) same))
        (λ q. let another : eqb number 0 ≡ false = ap (λ n. eqb n 0) (sym a.node) ∙ q in
        subst (λ d. FitsErrors w.ports k m.0 d (sets_there w.core e m)) (rw (q, here) refl)
        (host_fits w.core w.ports a.port k number h m another (a.node ∙ (its another ∙ sym same)) here)) where
          here : port_at w.ports k ≡ Some a.port
          here = ap (λ ps. port_at ps k) a.ports_are ∙ ap (λ b. cond b (Some a.port) None) own

    module _ (w : Work) (a : KnowsAll w) (on : w.cut ≡ false) (k : ℕ) (m : Message) (messages : List Message)
        (waits : waiting_at w.ports k ≡ m ∷ messages) where
      abbrev al : Alone number h (begin_read found) t w
      al = a.known.keeps

      abbrev pub own_port : Port
      own_port = its_port w a

      at_here : IsHere own_port k m messages
      at_here = alone_here number h some most (begin_read found) t k m messages w al waits

      pub same_link : k ≡ h
      same_link = link_is number h some most (begin_read found) t k own_port al.host at_here.own

      abbrev D : List Deed
      D = deeds_of w.core w.ports k m

      abbrev u : Work
      u = takes_up k m w

      abbrev f : Port → Port
      f = after_turn FetchMessage

      abbrev g : Port → Port
      g p = record p { desk = record p.desk { holds = false } }

      abbrev q : Port
      q = g (f own_port)

      u_ports : u.ports ≡ q ∷ []
      u_ports = grind arith

      room_then : (ns : List (ℕ × ℕ)) → lack w.ports ns ≡ None → lack u.ports ns ≡ None
      room_then ns room = grind arith

      takes_it : (to : ℕ) (x : Message) → lack u.ports (needs k (Sends to x ∷ [])) ≡ None → TakesIt q to x
      takes_it to x room own up = grind arith

      its_end_is : end_of_node w.core k ≡ e
      its_end_is = own_end w.core number h k al.node same_link

      -- what its deeds note
      pub noted_so : lacking w k m ≡ None
          → IsNotedSo number h (all_done k D u).cut (noted_by_deeds k D u) (entries_of_deeds w.core e (session_of_end own_port) D)
      noted_so room =
          reply_noted number h k u q on u_ports al.node al.host its_end_is D (deeds_shape k m w al at_here.own) takes_it (room_then (needs k D) room)

      -- ### REC_ERROR

      abbrev pub x : ErrorCount
      x = errs_all e (errors_found found) (t ++ w.entries)

      abbrev z : ErrorCount
      z = errs_all e (errors_found found) (t ++ u.entries)

      abbrev turned : Entry
      turned = entry.Turn (end_of_node w.core k) m.0 m.1

      z_is : z ≡ errors_after e x turned
      z_is =
          ap (λ es. errs_all e (errors_found found) (t ++ es)) (takes_entries k m w)
          ∙ (ap (errs_all e (errors_found found)) (sym (append_assoc t w.entries (turned ∷ [])))
          ∙ errs-append e (errors_found found) (t ++ w.entries) (turned ∷ []))

      x_gate : leads_to_link_gate x.book.tables e m.0 ≡ leads_to_link_gate w.core.tables e m.0
      x_gate = gate_read number h found (t ++ w.entries) m.0 refl a.errs.unbooted ∙ ap (λ (c : Core). leads_to_link_gate c.tables e m.0) (core_read w a)

      z_sets : z.sets ≡ sets_there w.core e m
      z_sets =
          ap (λ (r : ErrorCount). r.sets) z_is
          ∙ (ap (λ (b : Bool). cond (b && leads_to_link_gate x.book.tables e m.0) (errors_set_by m.1) None)
          (ap (λ d. same_end d e) its_end_is ∙ same_end_itself e)
          ∙ ap (λ (b : Bool). cond b (errors_set_by m.1) None) x_gate)

      z_errors : z.errors ≡ desk_errors u.ports
      z_errors = ap (λ (r : ErrorCount). r.errors) z_is ∙ (a.errs.are ∙ (ap desk_errors al.ports_are ∙ ap desk_errors (sym u_ports)))

      up_then : IsUpAt w.ports k → q.side.shdlc.phase ≡ IsUpNow
      up_then i = grind arith

      link_here : eqb k e.link ≡ true
      link_here = ap₂ eqb same_link (grind arith) ∙ eqb_same h

      pub errs_handled : lacking w k m ≡ None → (handles k m D w).cut ≡ false
          → ErrorsAre e (errors_found found) (t ++ (handles k m D w).entries) (desk_errors (handles k m D w).ports)
      errs_handled room still =
          subst (λ es. ErrorsAre e (errors_found found) es (desk_errors (handles k m D w).ports)) (sym all_entries) (record {
            are = ap (λ (r : ErrorCount). r.errors) (errs-append e (errors_found found) (t ++ u.entries) reply)
                ∙ deeds_errs k u on e w.core q w.ports m.0 D z (deeds_shape k m w al at_here.own) u_ports at_here.own link_here up_then z_errors
                (subst (FitsErrors w.ports k m.0 D) (sym z_sets) (deeds_fit k m w al at_here.own same_link)) still;
            unbooted =
                AllByRecursion-append IsNoBoot (t ++ u.entries) reply
                (subst AreNoBoots (sym turned_entries) (AllByRecursion-append IsNoBoot (t ++ w.entries) (turned ∷ []) a.errs.unbooted (tt, tt)))
                (answers_unbooted reply (deeds_answer e (session_of_end own_port) D w.core));
          })
        where
          reply : List Entry
          reply = entries_of_deeds w.core e (session_of_end own_port) D

          noted : noted_by_deeds k D u ≡ reply
          noted = subst (λ b. IsNotedSo number h b (noted_by_deeds k D u) reply) still (noted_so room)

          all_entries : t ++ (handles k m D w).entries ≡ (t ++ u.entries) ++ reply
          all_entries = ap (λ es. t ++ es) (deeds_note k D u ∙ ap (λ es. u.entries ++ es) noted) ∙ sym (append_assoc t u.entries reply)

          turned_entries : t ++ u.entries ≡ (t ++ w.entries) ++ turned ∷ []
          turned_entries = ap (λ es. t ++ es) (takes_entries k m w) ∙ sym (append_assoc t w.entries (turned ∷ []))
