-- A node has its turns, in which REC_ERROR of its end may be set: what is read of it stays what the node keeps.
use Rattle.node_laws.proofs.Words.{AllByRecursion, Book, Bool, Core, Deed, End, Entry, ErrorCount, FetchMessage, Give, List, Message, None, Option, Port, Sends}
use Rattle.node_laws.proofs.Words.{Some, Work, [], after_turn, answer_of, ap, append-nil, arith, by_option, by_test, cases_Bool, changed_if, changed_same, cond}
use Rattle.node_laws.proofs.Words.{controller_deeds, deeds_of, end_of, end_of_node, end_view, entries_for, eq-eqb, eqb, eqb-true, errors_after, errors_set_by}
use Rattle.node_laws.proofs.Words.{false, give_refusal, goes_through_ends, handles, have_turns, host_deeds, hosts_of_ends, inl, inr, lack, leads_to_link_gate}
use Rattle.node_laws.proofs.Words.{map, needs, noted_of, noting, option_map_or, own_gate, own_side, own_view, passes, port_at, refl, sent_unless, subst, sym}
use Rattle.node_laws.proofs.Words.{true, turn_at, view_of, with_desk, with_port, ℕ, ◌&&◌, ◌++◌, ◌∙◌, ◌∷◌, ◌≡◌, ◌⊎◌}
use Rattle.trace_model.specs.declared.entry.Entry.TheVariants as entry
use Rattle.gate_answers.specs.declared.response.Response.TheVariants as response
use Rattle.node_laws.proofs.telling.Steps.{at_map}
use Rattle.node_laws.proofs.links.Noticing.{at_host}
use Rattle.node_laws.proofs.views.Doing.{HasErrors, IsFine, IsRead, Right, SetDeeds, all_do, controller_sets, controller_unset, desks, holds, host_sets}
use Rattle.node_laws.proofs.views.Doing.{host_unset, is_link_gate, lets, map_has, reads, reads_append, side_of, turns, unless, unset_fine}
use Rattle.node_laws.proofs.views.Doing.SetDeeds.{IsDropped, IsRefused, IsSet}
use Rattle.node_laws.proofs.kept.Doing.{hosts_map}

-- ## Messages that are sent

-- the end of the link with this host takes a message
record Takes (ports : List Port) (h : ℕ) (m : Message) : Type 0 where
  port : Port
  here : port_at ports h ≡ Some port
  takes : give_refusal port.side m ≡ None

takes_with : (ports : List Port) (h : ℕ) (m : Message) (k : ℕ) (f : Port → Port) → ((p : Port) → (f p).desk.host ≡ p.desk.host)
    → ((p : Port) → give_refusal (f p).side m ≡ give_refusal p.side m) → Takes ports h m → Takes (with_port k f ports) h m
takes_with ports h m k f host same t = record {
  port = changed_if (eqb t.port.desk.host k) f t.port;
  here = at_map (λ p. changed_if (eqb p.desk.host k) f p) (λ p. changed_same (λ (q : Port). q.desk.host) (eqb p.desk.host k) f p host) ports h t.port t.here;
  takes = changed_same (λ (q : Port). give_refusal q.side m) (eqb t.port.desk.host k) f t.port same ∙ t.takes;
}

-- which is noted
sent_noted : (w : Work) (h : ℕ) (m : Message) (t : Takes w.ports h m)
    → (turn_at h (Give m) w).entries ≡ w.entries ++ entry.Sent (end_of_node w.core h) t.port.session m.0 m.1 ∷ []
sent_noted w h m t = ap (λ es. w.entries ++ es) (ap (λ o. option_map_or (noted_of w.core (Give m)) o []) t.here
    ∙ (ap (λ o. entries_for t.port.desk.host (sent_unless o (own_side w.core) t.port.session m)) t.takes
    ∙ ap (λ n. entry.Sent (end_of n (own_side w.core)) t.port.session m.0 m.1 ∷ []) (at_host w.ports h t.port t.here)))

pub with_hosts : (k : ℕ) (f : Port → Port) → ((p : Port) → (f p).desk.host ≡ p.desk.host) → (ports : List Port)
    → hosts_of_ends (with_port k f ports) ≡ hosts_of_ends ports
with_hosts k f host ports = hosts_map (λ p. changed_if (eqb p.desk.host k) f p)
    (λ p. changed_same (λ (q : Port). q.desk.host) (eqb p.desk.host k) f p host) ports

with_has : (e : End) (n k : ℕ) (f : Port → Port) → ((p : Port) → (f p).desk.host ≡ p.desk.host) → ((p : Port) → (f p).desk.errors ≡ p.desk.errors)
    → (ports : List Port) → AllByRecursion (HasErrors e n) ports → AllByRecursion (HasErrors e n) (with_port k f ports)
with_has e n k f host errors ports all = map_has e n (λ p. changed_if (eqb p.desk.host k) f p) (grind arith) ports all

-- it is set at the end itself
set_has : (e : End) (h v : ℕ) → eqb h e.link ≡ true → (ports : List Port)
    → AllByRecursion (HasErrors e v) (with_port h (λ (p : Port). record p { desk = record p.desk { errors = v } }) ports)
set_has e h v here [] = tt
set_has e h v here (p ∷ ports) = (grind arith, set_has e h v here ports)

-- ## A message is handled

both_so : (a b : Bool) (x : Option ℕ) → a ≡ true → cond (a && b) x None ≡ cond b x None
both_so a b x q = rw q refl

some_so : (b : Bool) (x : Option ℕ) (v : ℕ) → cond b x None ≡ Some v → (b ≡ true) × (x ≡ Some v)
some_so b x v q = grind arith

module _ (e : End) (hosts : List ℕ) (x0 : ErrorCount) (single : e.at_host ≡ true → hosts ≡ e.link ∷ []) where
  abbrev So : Work → Type 0
  So w = Right e hosts x0 w

  -- what was read before
  abbrev seen : Work → ErrorCount
  seen w = reads e w.entries x0

  abbrev turn_of : Work → ℕ → Message → Entry
  turn_of w h m = entry.Turn (end_of_node w.core h) m.0 m.1

  -- the value that a command sets whose turn it is
  abbrev sets_now : Work → ℕ → Message → Option ℕ
  sets_now w h m = cond (eqb h e.link && leads_to_link_gate w.core.tables e m.0) (errors_set_by m.1) None

  turn_reads : (w : Work) (h : ℕ) (m : Message) → w.cut ≡ false → So w → errors_after e (seen w) (turn_of w h m) ≡ record (seen w) { sets = sets_now w h m }
  turn_reads w h m on r = grind arith

  -- the message is the node's, and nothing is done with it yet
  abbrev fetched : ℕ → Message → Work → Work
  fetched h m w = with_desk h (λ d. record d { holds = false }) (turn_at h FetchMessage (noting (turn_of w h m ∷ []) w))

  -- where it sets nothing
  fetched_right : (h : ℕ) (m : Message) (w : Work) → w.cut ≡ false → sets_now w h m ≡ None → So w → So (fetched h m w)
  fetched_right h m w on none r =
      desks e hosts x0 h (λ d. record d { holds = false }) (turn_at h FetchMessage (noting (turn_of w h m ∷ []) w)) (λ d. refl) (λ d. refl)
      (turns e hosts x0 h FetchMessage (noting (turn_of w h m ∷ []) w) (record {
        number = r.number;
        side = r.side;
        hosts_are = r.hosts_are;
        errors = r.errors;
        read = subst (λ x. IsRead x r.errors) (sym (reads_append e w.entries (turn_of w h m ∷ []) x0 ∙ turn_reads w h m on r))
            (record { sets = none; is = r.read.is });
        ends = r.ends;
        tables = λ on near. r.tables on near ∙ sym (ap (λ (x : ErrorCount). x.book.tables) (reads_append e w.entries (turn_of w h m ∷ []) x0));
      }))

  plain_handled : (h : ℕ) (m : Message) (deeds : List Deed) (w : Work) → w.cut ≡ false → sets_now w h m ≡ None → AllByRecursion (IsFine e hosts x0 h) deeds
      → So w → So (handles h m deeds w)
  plain_handled h m deeds w on none fine r = all_do e hosts x0 h deeds (fetched h m w) fine (fetched_right h m w on none r)

  -- one more entry closes the setting
  closing : (h : ℕ) (m : Message) (w k : Work) (y : Entry) (n : ℕ) → w.cut ≡ false → So w → k.core ≡ w.core → hosts_of_ends k.ports ≡ hosts_of_ends w.ports
      → k.entries ≡ (w.entries ++ turn_of w h m ∷ []) ++ y ∷ [] → AllByRecursion (HasErrors e n) k.ports
      → IsRead (errors_after e (record (seen w) { sets = sets_now w h m }) y) n
      → (errors_after e (record (seen w) { sets = sets_now w h m }) y).book ≡ (seen w).book → So k
  closing h m w k y n on r core same entries ends read book = record {
    number = ap (λ (c : Core). c.node) core ∙ r.number;
    side = ap own_side core ∙ r.side;
    hosts_are = same ∙ r.hosts_are;
    errors = n;
    read = subst (λ x. IsRead x n) (sym is) read;
    ends = ends;
    tables = λ at near. ap (λ (c : Core). c.tables) core
        ∙ (r.tables on near ∙ sym (ap (λ (x : ErrorCount). x.book.tables) is ∙ ap (λ (b : Book). b.tables) book));
  } where
    is : reads e k.entries x0 ≡ errors_after e (record (seen w) { sets = sets_now w h m }) y
    is =
        ap (λ es. reads e es x0) entries
        ∙ (reads_append e (w.entries ++ turn_of w h m ∷ []) (y ∷ []) x0
        ∙ (ap (λ x. errors_after e x y) (reads_append e w.entries (turn_of w h m ∷ []) x0 ∙ turn_reads w h m on r)))

  fetched_entries : (h : ℕ) (m : Message) (w : Work) → (fetched h m w).entries ≡ w.entries ++ turn_of w h m ∷ []
  fetched_entries h m w = ap (λ es. (w.entries ++ turn_of w h m ∷ []) ++ es) (grind arith)
      ∙ append-nil (w.entries ++ turn_of w h m ∷ [])

  fetched_hosts : (h : ℕ) (m : Message) (w : Work) → hosts_of_ends (fetched h m w).ports ≡ hosts_of_ends w.ports
  fetched_hosts h m w =
      with_hosts h (λ p. record p { desk = record p.desk { holds = false } }) (λ p. refl) (with_port h (after_turn FetchMessage) w.ports)
      ∙ with_hosts h (after_turn FetchMessage) (λ p. refl) w.ports

  fetched_takes : (h : ℕ) (m : Message) (w : Work) (a : Message) → Takes w.ports h a → Takes (fetched h m w).ports h a
  fetched_takes h m w a t =
      takes_with (with_port h (after_turn FetchMessage) w.ports) h a h (λ p. record p { desk = record p.desk { holds = false } }) (λ p. refl) (λ p. refl)
      (takes_with w.ports h a h (after_turn FetchMessage) (λ p. refl) (λ p. refl) t)

  fetched_has : (h : ℕ) (m : Message) (w : Work) (n : ℕ) → AllByRecursion (HasErrors e n) w.ports → AllByRecursion (HasErrors e n) (fetched h m w).ports
  fetched_has h m w n all =
      with_has e n h (λ p. record p { desk = record p.desk { holds = false } }) (λ p. refl) (λ p. refl) (with_port h (after_turn FetchMessage) w.ports)
      (with_has e n h (after_turn FetchMessage) (λ p. refl) (λ p. refl) w.ports all)

  -- a command that sets it at the end itself
  set_handled : (h : ℕ) (m : Message) (deeds : List Deed) (v : ℕ) (w : Work) → w.cut ≡ false → eqb h e.link ≡ true → sets_now w h m ≡ Some v
      → lack w.ports (needs h deeds) ≡ None → SetDeeds w.ports h m.0 v deeds → So w → So (handles h m deeds w)
  set_handled h m deeds v w on here sets room (IsSet up is) r = subst (λ d. So (handles h m d w)) (sym is) (subst So (sym (rw on refl)) right) where
    answer : Message
    answer = (m.0, answer_of response.Ok [])

    set : Work
    set = with_desk h (λ d. record d { errors = v }) (fetched h m w)

    finished : Work
    finished = turn_at h (Give answer) set

    takes : Takes set.ports h answer
    takes = takes_with (fetched h m w).ports h answer h (λ p. record p { desk = record p.desk { errors = v } }) (λ p. refl) (λ p. refl)
        (fetched_takes h m w answer (grind arith))

    right : So finished
    right = closing h m w finished (entry.Sent (end_of_node w.core h) takes.port.session answer.0 answer.1) v on r refl
        (with_hosts h (after_turn (Give answer)) (λ p. refl) set.ports
        ∙ (with_hosts h (λ p. record p { desk = record p.desk { errors = v } }) (λ p. refl) (fetched h m w).ports ∙ fetched_hosts h m w))
        (sent_noted set h answer takes ∙ ap (λ es. es ++ entry.Sent (end_of_node w.core h) takes.port.session answer.0 answer.1 ∷ []) (fetched_entries h m w))
        (with_has e v h (after_turn (Give answer)) (λ p. refl) (λ p. refl) set.ports (set_has e h v here (fetched h m w).ports))
        (grind arith) refl
  set_handled h m deeds v w on here sets room (IsRefused up is) r = subst (λ d. So (handles h m d w)) (sym is) (subst So (sym done_is) right) where
    answer : Message
    answer = (m.0, answer_of response.PipeNotOpened [])

    finished : Work
    finished = turn_at h (Give answer) (fetched h m w)

    done_is : handles h m (Sends h answer ∷ []) w ≡ finished
    done_is = rw on refl

    takes : Takes (fetched h m w).ports h answer
    takes = fetched_takes h m w answer (grind arith)

    right : So finished
    right = closing h m w finished (entry.Sent (end_of_node w.core h) takes.port.session answer.0 answer.1) r.errors on r refl
        (with_hosts h (after_turn (Give answer)) (λ p. refl) (fetched h m w).ports ∙ fetched_hosts h m w)
        (sent_noted (fetched h m w) h answer takes
        ∙ ap (λ es. es ++ entry.Sent (end_of_node w.core h) takes.port.session answer.0 answer.1 ∷ []) (fetched_entries h m w))
        (with_has e r.errors h (after_turn (Give answer)) (λ p. refl) (λ p. refl) (fetched h m w).ports (fetched_has h m w r.errors r.ends))
        (grind arith) refl
  set_handled h m deeds v w on here sets room (IsDropped is) r = subst (λ d. So (handles h m d w)) (sym is) (subst So (sym (rw on refl)) right) where
    finished : Work
    finished = noting (entry.Dropped (end_of_node w.core h) m.0 ∷ []) (fetched h m w)

    right : So finished
    right = closing h m w finished (entry.Dropped (end_of_node w.core h) m.0) r.errors on r refl (fetched_hosts h m w)
        (ap (λ es. es ++ entry.Dropped (end_of_node w.core h) m.0 ∷ []) (fetched_entries h m w)) (fetched_has h m w r.errors r.ends)
        (record { sets = refl; is = r.read.is }) refl

  -- ## Which end

  -- a host's one end is the end itself
  alone : (ports : List Port) (h : ℕ) (p : Port) → hosts_of_ends ports ≡ e.link ∷ [] → port_at ports h ≡ Some p → h ≡ e.link
  alone [] h p same q = absurd (cc q)
  alone (x ∷ y ∷ ports) h p same q = absurd (cc same)
  alone (x ∷ []) h p same q = grind arith

  set_fine : (ports : List Port) (h pid v : ℕ) (deeds : List Deed) → eqb h e.link ≡ false → SetDeeds ports h pid v deeds
      → AllByRecursion (IsFine e hosts x0 h) deeds
  set_fine ports h pid v deeds off a = grind arith

  side_zero : (core : Core) → own_side core ≡ side_of e → e.at_host ≡ true → eqb core.node 0 ≡ false
  side_zero core side near = grind arith

  pub handled : (h : ℕ) (m : Message) (p : Port) (w : Work) → w.cut ≡ false → port_at w.ports h ≡ Some p
      → lack w.ports (needs h (deeds_of w.core w.ports h m)) ≡ None → So w → So (handles h m (deeds_of w.core w.ports h m) w)
  handled h m p w on there room r = by_test e.at_host (λ q. subst Fine (sym (deeds_far q)) (far q) room) (λ q. subst Fine (sym (deeds_near q)) (near_by q) room)
    where
      Fine : List Deed → Type 0
      Fine deeds = lack w.ports (needs h deeds) ≡ None → So (handles h m deeds w)

      -- at a host
      far : e.at_host ≡ true → Fine (host_deeds (own_view w.core) (end_view p) m)
      far near = by_option (cond (eqb m.0 0) (errors_set_by m.1) None)
          (λ q. λ none. plain_handled h m (host_deeds (own_view w.core) (end_view p) m) w on (now_is ∙ q)
          (unset_fine e hosts x0 h (host_deeds (own_view w.core) (end_view p) m) (host_unset w.core p m q)) r)
          (λ v q. λ none.
          let both = some_so (eqb m.0 0) (errors_set_by m.1) v q in
          set_handled h m (host_deeds (own_view w.core) (end_view p) m) v w on (eq-eqb h e.link link) (now_is ∙ q) none
          (subst (λ n. SetDeeds w.ports n m.0 v (host_deeds (own_view w.core) (end_view p) m)) node
          (host_sets w.core w.ports p m v (ap (port_at w.ports) node ∙ there) both.0 both.1)) r) where
            link : h ≡ e.link
            link = alone w.ports h p (r.hosts_are ∙ single near) there

            node : w.core.node ≡ h
            node = r.number ∙ (rw near refl ∙ sym link)

            now_is : sets_now w h m ≡ cond (eqb m.0 0) (errors_set_by m.1) None
            now_is = both_so (eqb h e.link) (leads_to_link_gate w.core.tables e m.0) (errors_set_by m.1) (eq-eqb h e.link link) ∙ rw near refl

      -- at the controller
      near_by : e.at_host ≡ false → Fine (controller_deeds (view_of w.core w.ports) h m)
      near_by near = by_set (cond (is_link_gate (own_gate w.core.tables h m.0)) (errors_set_by m.1) None) refl where
        here_is : eqb h e.link ≡ true → sets_now w h m ≡ cond (is_link_gate (own_gate w.core.tables h m.0)) (errors_set_by m.1) None
        here_is z =
            both_so (eqb h e.link) (leads_to_link_gate w.core.tables e m.0) (errors_set_by m.1) z
            ∙ (ap (λ b. cond (cond b (eqb m.0 0) (is_link_gate (own_gate w.core.tables e.link m.0))) (errors_set_by m.1) None) near
            ∙ ap (λ l. cond (is_link_gate (own_gate w.core.tables l m.0)) (errors_set_by m.1) None) (sym (eqb-true h e.link z)))

        away_is : eqb h e.link ≡ false → sets_now w h m ≡ None
        away_is z = (rw z refl)

        by_set : (o : Option ℕ) → cond (is_link_gate (own_gate w.core.tables h m.0)) (errors_set_by m.1) None ≡ o
            → Fine (controller_deeds (view_of w.core w.ports) h m)
        by_set None q = λ none. plain_handled h m (controller_deeds (view_of w.core w.ports) h m) w on (by_host (cases_Bool (eqb h e.link)))
            (unset_fine e hosts x0 h (controller_deeds (view_of w.core w.ports) h m) (controller_unset w.core w.ports h m q)) r where
              by_host : (eqb h e.link ≡ true) ⊎ (eqb h e.link ≡ false) → sets_now w h m ≡ None
              by_host (inl z) = here_is z ∙ q
              by_host (inr z) = away_is z
        by_set (Some v) q = λ none. by_host none (cases_Bool (eqb h e.link)) where
          both : (is_link_gate (own_gate w.core.tables h m.0) ≡ true) × (errors_set_by m.1 ≡ Some v)
          both = some_so (is_link_gate (own_gate w.core.tables h m.0)) (errors_set_by m.1) v q

          set : SetDeeds w.ports h m.0 v (controller_deeds (view_of w.core w.ports) h m)
          set = controller_sets w.core w.ports h m v both.0 both.1

          by_host : lack w.ports (needs h (controller_deeds (view_of w.core w.ports) h m)) ≡ None → (eqb h e.link ≡ true) ⊎ (eqb h e.link ≡ false)
              → So (handles h m (controller_deeds (view_of w.core w.ports) h m) w)
          by_host none (inl z) = set_handled h m (controller_deeds (view_of w.core w.ports) h m) v w on z (here_is z ∙ q) none set r
          by_host none (inr z) =
              plain_handled h m (controller_deeds (view_of w.core w.ports) h m) w on (away_is z)
              (set_fine w.ports h m.0 v (controller_deeds (view_of w.core w.ports) h m) z set) r

      deeds_far : e.at_host ≡ true → deeds_of w.core w.ports h m ≡ host_deeds (own_view w.core) (end_view p) m
      deeds_far near = rw (side_zero w.core r.side near, there) refl

      deeds_near : e.at_host ≡ false → deeds_of w.core w.ports h m ≡ controller_deeds (view_of w.core w.ports) h m
      deeds_near near = let zero : w.core.node ≡ 0 = r.number ∙ rw near refl in rw zero refl

  -- ## Turns

  -- the hosts of ends stay as a node does something, so an end that was there is there
  is_there : (ports qs : List Port) (h : ℕ) (p : Port) → hosts_of_ends ports ≡ hosts_of_ends qs → port_at ports h ≡ Some p
      → (q : Port) × (port_at qs h ≡ Some q)
  is_there [] qs h p same e = absurd (cc e)
  is_there (x ∷ ports) [] h p same e = absurd (cc same)
  is_there (x ∷ ports) (y ∷ qs) h p same e = by_test (eqb x.desk.host h)
      (λ z. (y, ap (λ b. cond b (Some y) (port_at qs h)) (ap (λ n. eqb n h) (sym cc) ∙ z)))
      (λ z. let found = is_there ports qs h p rest (sym (ap (λ b. cond b (Some x) (port_at ports h)) z) ∙ e) in
      (found.0, ap (λ b. cond b (Some y) (port_at qs h)) (ap (λ n. eqb n h) (sym cc) ∙ z) ∙ found.1)) where
        rest : hosts_of_ends ports ≡ hosts_of_ends qs
        rest = cc

  have_right : (h : ℕ) (messages : List Message) (p : Port) (w : Work) → w.cut ≡ false → port_at w.ports h ≡ Some p → So w → So (have_turns h messages w)
  have_right h [] p w on there r = lets e hosts x0 h w r
  have_right h (m ∷ messages) p w on there r = by_option (lack w.ports (needs h deeds))
      (λ q. rw q (let s : So (handles h m deeds w) = handled h m p w on there q r in
      unless e hosts x0 (have_turns h messages) (handles h m deeds w) (λ still v.
      let found = is_there w.ports (handles h m deeds w).ports h p (r.hosts_are ∙ sym s.hosts_are) there in
      have_right h messages found.0 (handles h m deeds w) still found.1 v) s))
      (λ short q. rw q (holds e hosts x0 h short w r)) where
        deeds : List Deed
        deeds = deeds_of w.core w.ports h m

  ends_right : (all : List ℕ) (w : Work) → w.cut ≡ false → So w → So (goes_through_ends all w)
  ends_right [] w on r = r
  ends_right (h ∷ all) w on r =
      let messages : List Message = option_map_or (λ (p : Port). p.side.got) (port_at w.ports h) [] in
      unless e hosts x0 (goes_through_ends all) (have_turns h messages w) (λ still s. ends_right all (have_turns h messages w) still s)
      (by (port_at w.ports h) refl) where
        by : (o : Option Port) → port_at w.ports h ≡ o → So (have_turns h (option_map_or (λ (p : Port). p.side.got) (port_at w.ports h) []) w)
        by None q = subst (λ ms. So (have_turns h ms w)) (sym (ap (λ o. option_map_or (λ (p : Port). p.side.got) o []) q)) (lets e hosts x0 h w r)
        by (Some p) q = have_right h (option_map_or (λ (p : Port). p.side.got) (port_at w.ports h) []) p w on q r

  pub passes_right : (w : Work) → w.cut ≡ false → So w → So (passes w)
  passes_right w on r = ends_right (map (λ (p : Port). p.desk.host) w.ports) w on r
