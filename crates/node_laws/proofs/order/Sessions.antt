-- Sessions are read off a history, messages are in order at each moment of it, and quiet or still links have delivered all.
use Rattle.node_laws.proofs.Words.{AreHosts, ArePlayable, AreReadOff, AreSessionsRead, AreUpTogether, Bool, Controller, Cut, Down, Emit, End, Entry}
use Rattle.node_laws.proofs.Words.{FollowsNodes, HasSettled, Header, Host, IsLine, IsLinkTold, IsRead, IsReadOff, IsStillInSession, Line, Link, List, Message}
use Rattle.node_laws.proofs.Words.{NodeHistory, NodeWorld, None, Noted, Occurrence, Option, Restarted, Saying, Site, Some, Standing, Up as IsUpNow, []}
use Rattle.node_laws.proofs.Words.{acked-all, acked_after, acked_in, ap, arith, at_end, begins, by_option, by_test, cond, cons_option, end_c, end_h, end_of}
use Rattle.node_laws.proofs.Words.{entries, entries_for, entries_in, entry_of, false, filter, filter_map, flat_map, fold, good_of, got-all, got_in}
use Rattle.node_laws.proofs.Words.{got_in_session, hosts_in, if◌then◌else◌, is_of, law_noted, length, list_any, new_line, new_standing, new_world, node_entries}
use Rattle.node_laws.proofs.Words.{number_of, occurrences_in, of_link, one_number, or_none, other_end, read_here, read_there, refl, said, said_far, said_near}
use Rattle.node_laws.proofs.Words.{said_of, same_end, same_number, sent-all, sent_by, sent_in, session_at, session_now, silences, since, site_at, standing}
use Rattle.node_laws.proofs.Words.{standing_by_law, stands_noted, subst, sym, talk_now, talk_of, tells_of, true, true≢false, world_behind, ℕ, ◌++◌, ◌==◌, ◌||◌}
use Rattle.node_laws.proofs.Words.{◌∙◌, ◌∷◌, ◌≡◌}
use Rattle.history.proofs.legal.Sessions.{ArePlain, AtEnd, empty, fault-all, front_given, if_said, order_at, read_as}
use Rattle.history.proofs.legal.Settled.{no_bytes, or_right, since-all, undisturbed}
use Rattle.history.specs.Filters.{session_after}
use Rattle.history.specs.Filters.Saying.{Ends}
use Rattle.history.specs.Legal.{IsDelivered, IsInOrder, begins_on, has_lost, has_rnr, is_chain_fault, loses_on, rejects_on, since_up}
use Rattle.link_laws.proofs.entries.Disturbing.{no_chain_noted}
use Rattle.link_laws.proofs.entries.Hearing.{controller_heard, host_heard, session_up}
use Rattle.link_laws.proofs.entries.Running.{at_each_moment}
use Rattle.link_laws.proofs.entries.Together.{quiet_here, quiet_there}
use Rattle.link_laws.specs.entries.Entries.{End as Side}
use Rattle.link_laws.specs.entries.Entries.Entry.{Up}
use Rattle.link_laws.specs.entries.Order.{InOrderIn}
use Rattle.link_laws.specs.entries.Quiet.{IsDeliveredOnLink as LinkDelivered, IsQuietSince, disturbs}
use Rattle.link_laws.specs.entries.Sessions.{hear}
use Rattle.link_laws.specs.messages.Links.{Talk, after_link_events as link_after}
use Rattle.link_laws.specs.messages.Quiet.{AllDelivered, IsQuiet, losses_of}
use Rattle.link_laws.specs.sessions.Losses.{Losses}
use Rattle.node_laws.specs.order.Legal.{PrefixNodes}
use Rattle.node_laws.specs.order.Told.{AreUpWith, AreWiresRead, HasDelivered, HasDeliveredAll, IsUntroubled}
use Rattle.node_laws.proofs.kept.Events.{none_found}
use Rattle.node_laws.proofs.links.Blocks.{delivers_to_controller, delivers_to_host, settles}
use Rattle.node_laws.proofs.order.Lines.{IsSo, IsStrange, all_so_behind, history_so, host_number}
use Rattle.node_laws.proofs.order.Wires.{misnumbered, misnumbered_mute, none_silenced, numbered}
use Rattle.node_laws.proofs.order.Gone.{events_mute}
use Rattle.node_laws.proofs.telling.Accounts.{of-append, untold}
use Rattle.trace_model.specs.declared.entry.Entry.TheVariants as entry

-- ## The session of each end of a link that is told is read off a history

-- the session of an end
abbrev pub part : Side → Standing → Option ℕ
part Controller x = x.controller
part Host x = x.host

-- ### What is said of an end

near_far : (s : Saying) (x : Standing) → (said_far s x).controller ≡ x.controller
near_far s x = grind arith

far_near : (s : Saying) (x : Standing) → (said_near s x).host ≡ x.host
far_near s x = grind arith

-- ### What a history notes

-- the node of an end
abbrev pub node_on : ℕ → Side → ℕ
node_on h Controller = 0
node_on h Host = h

module _ (e : End) (node : ℕ) where
  abbrev pub after : Option ℕ → Entry → Option ℕ
  after s (entry.Up f n) = if same_end f e then Some n else s
  after s (entry.Down f cause) = if same_end f e then None else s
  after s (entry.Cut n) = if n == node then None else s
  after s _ = s

ends_same : (b : Bool) (s : Option ℕ) → session_after s (if_said b Ends) ≡ cond b None s
ends_same b s = grind arith

module _ (h : ℕ) (who : Side) (host : (h == 0) ≡ false) where
  abbrev e : End
  e = end_of h who

  one_read : (x : Standing) (y : Entry) → part who (stands_noted h x y) ≡ after e (node_on h who) (part who x) y
  one_read x y = grind arith

  pub all_read : (t : List Entry) (x : Standing) → part who (standing h x t) ≡ fold (after e (node_on h who)) (part who x) t
  all_read [] x = refl
  all_read (y ∷ t) x = all_read t (stands_noted h x y) ∙ ap (λ s. fold (after e (node_on h who)) s t) (one_read x y)

  -- ### What the law of one link notes

  pub all_law : (notes : List Noted) (x : Standing) → part who (standing_by_law h x notes) ≡ fold (hear who) (part who x) notes
  all_law [] x = refl
  all_law (n ∷ notes) x = all_law notes (law_noted h x n) ∙ ap (λ s. fold (hear who) s notes) (grind arith)

  -- ### A link that is told

  -- the sessions that are read off both
  sessions_alike : (l : Link) (t : List Entry) (a : IsLinkTold h l t)
      → fold (after e (node_on h who)) (part who new_standing) t ≡ fold (hear who) (part who new_standing) (entries new_line a.events)
  sessions_alike l t a = sym (all_read t new_standing) ∙ (ap (part who) a.stands ∙ all_law (entries new_line a.events) new_standing)

pub are_read : (h : ℕ) (l : Link) (t : List Entry) → (h == 0) ≡ false → IsLinkTold h l t → AreSessionsRead t h l
are_read h l t host a =
    record {
      controller = sessions_alike h Controller host l t a
          ∙ (controller_heard new_line IsLine a.events a.run.allowed ∙ ap (λ (k : Link). session_at k.controller) a.run.is);
      host = sessions_alike h Host host l t a
          ∙ (host_heard new_line IsLine a.events a.run.allowed ∙ ap (λ (k : Link). session_at k.host) a.run.is);
    }

-- ## At each moment of a history messages are in order on each link

-- ### What is said of an end is said of its link

unheard : (h : ℕ) (e : End) (x : Option (End × Saying)) → e.link ≡ h → is_of h x ≡ false → at_end e x ≡ None
unheard h e x q r = grind arith

filter_kept : {Y : Type 0} (g : Option Saying → Option Y) → g None ≡ None → (h : ℕ) (e : End) → e.link ≡ h → (t : List Entry)
    → filter_map (λ x. g (said_of e x)) t ≡ filter_map (λ x. g (said_of e x)) (of_link h t)
filter_kept g none h e q [] = refl
filter_kept {Y} g none h e q (x ∷ t) = by_test (tells_of h x)
    (λ r. rw r (ap (cons_option (g (said_of e x))) (filter_kept g none h e q t)))
    (λ r. let off : g (said_of e x) ≡ None = ap g (unheard h e (said x) q (untold h x r)) ∙ none in
    rw r (ap (λ o. cons_option o (filter_map (λ x. g (said_of e x)) t)) off ∙ filter_kept g none h e q t))

acked_kept : (n : ℕ) (h : ℕ) (e : End) → e.link ≡ h → (t : List Entry) (before : ℕ)
    → fold (λ before x. acked_after n before (said_of e x)) before t ≡ fold (λ before x. acked_after n before (said_of e x)) before (of_link h t)
acked_kept n h e q [] before = refl
acked_kept n h e q (x ∷ t) before = by_test (tells_of h x)
    (λ r. rw r (acked_kept n h e q t (acked_after n before (said_of e x))))
    (λ r. let off : acked_after n before (said_of e x) ≡ before = ap (acked_after n before) (unheard h e (said x) q (untold h x r)) in
    rw r (ap (λ b. fold (λ before x. acked_after n before (said_of e x)) b t) off ∙ acked_kept n h e q t before))

-- where the entries of its link are alike, so is what is read of an end
pub sent_alike : (t v : List Entry) (e : End) (n : ℕ) → of_link e.link t ≡ of_link e.link v → sent_in t e n ≡ sent_in v e n
sent_alike t v e n q =
    filter_kept (sent_by n) refl e.link e refl t
    ∙ (ap (λ x. filter_map (λ y. sent_by n (said_of e y)) x) q ∙ sym (filter_kept (sent_by n) refl e.link e refl v))

pub got_alike : (t v : List Entry) (e : End) (n : ℕ) → of_link e.link t ≡ of_link e.link v → got_in t e n ≡ got_in v e n
got_alike t v e n q =
    filter_kept (got_in_session n) refl e.link e refl t
    ∙ (ap (λ x. filter_map (λ y. got_in_session n (said_of e y)) x) q ∙ sym (filter_kept (got_in_session n) refl e.link e refl v))

pub acked_alike : (t v : List Entry) (e : End) (n : ℕ) → of_link e.link t ≡ of_link e.link v → acked_in t e n ≡ acked_in v e n
acked_alike t v e n q =
    acked_kept n e.link e refl t 0
    ∙ (ap (λ x. fold (λ before y. acked_after n before (said_of e y)) 0 x) q ∙ sym (acked_kept n e.link e refl v 0))

end_alike : (t v : List Entry) (e : End) (n : ℕ) → of_link e.link t ≡ of_link e.link v → AtEnd v e n → AtEnd t e n
end_alike t v e n q a =
    read_as t e n (sent_in v e n) (got_in v (other_end e) n) (acked_in v e n) (sent_alike t v e n q) (acked_alike t v e n q)
    (got_alike t v (other_end e) n q) a

-- ### Fronts of what is noted

of_flat : (h : ℕ) (notes : List Noted) → of_link h (entries_for h notes) ≡ flat_map (λ x. of_link h (entry_of h x)) notes
of_flat h [] = refl
of_flat h (x ∷ notes) = of-append h (entry_of h x) (entries_for h notes) ∙ ap (λ z. of_link h (entry_of h x) ++ z) (of_flat h notes)

-- a moment of a link that is told
at_moment : (h : ℕ) (l : Link) (t front back : List Entry) → IsLinkTold h l t → t ≡ front ++ back → (e : End) (n : ℕ) → e.link ≡ h → AtEnd front e n
at_moment h l t front back a q e n is =
    let notes : List Noted = entries new_line a.events in
    let parts = front_given (λ x. of_link h (entry_of h x)) (λ x. grind arith) notes
    (of_link h front) (of_link h back) (sym (of_flat h notes) ∙ (sym a.told ∙ (ap (of_link h) q ∙ of-append h front back))) in
    let p : List Noted = parts.0 in
    let order : (who : Side) (n : ℕ) → InOrderIn p who n = at_each_moment new_line IsLine a.events a.run.allowed p parts.1 in
    let same : of_link h front ≡ of_link h (entries_for h p) = parts.2 ∙ sym (of_flat h p) in
    end_alike front (entries_for h p) e n (subst (λ (k : ℕ). of_link k front ≡ of_link k (entries_for h p)) (sym is) same) (order_at h p order e n)

-- a moment of an end of which nothing was noted
at_none : (t front back : List Entry) (e : End) (n : ℕ) → of_link e.link t ≡ [] → t ≡ front ++ back → AtEnd front e n
at_none t front back e n none q =
    let both : of_link e.link front ++ of_link e.link back ≡ [] = sym (of-append e.link front back) ∙ (ap (of_link e.link) (sym q) ∙ none) in
    end_alike front [] e n (first (of_link e.link front) (of_link e.link back) both) empty
  where
    first : (xs ys : List Entry) → xs ++ ys ≡ [] → xs ≡ []
    first [] ys e = refl
    first (x ∷ xs) ys e = absurd (cc e)

-- ### Chain faults

none_filtered : (p q : Entry → Bool) (xs : List Entry) → list_any p xs ≡ false → list_any p (filter q xs) ≡ false
none_filtered p q [] a = refl
none_filtered p q (x ∷ xs) a = by_test (q x)
    (λ r. rw r (both (p x) a (none_filtered p q xs (or_right (p x) (list_any p xs) a))))
    (λ r. rw r (none_filtered p q xs (or_right (p x) (list_any p xs) a)))
  where
    both : (c : Bool) → (c || list_any p xs) ≡ false → list_any p (filter q xs) ≡ false → (c || list_any p (filter q xs)) ≡ false
    both c e z = grind arith

told_chains : (h : ℕ) (l : Link) (t : List Entry) → IsLinkTold h l t → list_any is_chain_fault (of_link h t) ≡ false
told_chains h l t a =
    let notes : List Noted = entries new_line a.events in
    ap (list_any is_chain_fault) a.told
    ∙ none_filtered is_chain_fault (tells_of h) (entries_for h notes)
    (fault-all h notes ∙ no_chain_noted new_line IsLine a.events a.run.allowed)

-- a chain fault is told of a link
record TellsOf (x : Entry) : Type 0 where
  link : ℕ
  is : tells_of link x ≡ true

fault_tells : (x : Entry) → is_chain_fault x ≡ true → TellsOf x
fault_tells (entry.Down e cause) q = record { link = e.link; is = same_number e.link }
fault_tells _ q = let z : false ≡ true = q in absurd (cc z)

no_faults : (t : List Entry) → ((h : ℕ) → list_any is_chain_fault (of_link h t) ≡ false) → list_any is_chain_fault t ≡ false
no_faults [] a = refl
no_faults (x ∷ t) a = by_test (is_chain_fault x)
    (λ r. let tells : TellsOf x = fault_tells x r in
    absurd (cc (rw r at (rw tells.is at (a tells.link)))))
    (λ r. rw r (no_faults t (λ h. less h)))
  where
    less : (h : ℕ) → list_any is_chain_fault (of_link h t) ≡ false
    less h = by_test (tells_of h x) (λ r. or_right (is_chain_fault x) (list_any is_chain_fault (of_link h t)) (rw r at (a h))) (λ r. rw r at (a h))

-- ## Messages are in order in each history of a world of nodes

-- a link of the world, or none with this number
pub data Whether (w : NodeWorld) (h : ℕ) : Type 0 where
  Stands : (s : Site) → site_at w.sites h ≡ Some s → Whether w h
  IsNone : IsStrange h (hosts_in w.sites) → Whether w h

pub whether : (w : NodeWorld) (h : ℕ) → Whether w h
whether w h = by_option (site_at w.sites h) (λ q. IsNone (none w.sites q)) (λ s q. Stands s q)
  where
    none : (sites : List Site) → site_at sites h ≡ None → IsStrange h (hosts_in sites)
    none [] q = tt
    none (x ∷ sites) q = by_test (x.host == h) (λ e. let is : Some x ≡ None = rw e at q in absurd (cc is)) (λ e. (e, none sites (rw e at q)))

module _ (hosts : List ℕ) (os : List Occurrence) (w : NodeWorld) (a : IsSo hosts os w) where
  abbrev t : List Entry
  t = entries_in os

  -- at each end of each link
  order_so : (front back : List Entry) → t ≡ front ++ back → (e : End) (n : ℕ) → AtEnd front e n
  order_so front back q e n = go (whether w e.link)
    where
      go : Whether w e.link → AtEnd front e n
      go (Stands s found) = at_moment e.link s.link t front back (a.each e.link s found).told q e n refl
      go (IsNone strange) = at_none t front back e n (a.strange e.link (subst (IsStrange e.link) a.hosts_are strange)) q

  pub in_order_so : (front back : List Entry) → t ≡ front ++ back → IsInOrder front
  in_order_so front back q =
      record {
        delivered = λ e n. (order_so front back q e n).delivered;
        acknowledged = λ e n. (order_so front back q e n).acknowledged;
        counted = λ e n. (order_so front back q e n).counted;
      }

  joined_so : list_any is_chain_fault t ≡ false
  joined_so = no_faults t (λ h. go h (whether w h))
    where
      go : (h : ℕ) → Whether w h → list_any is_chain_fault (of_link h t) ≡ false
      go h (Stands s found) = told_chains h s.link t (a.each h s found).told
      go h (IsNone strange) = ap (list_any is_chain_fault) (a.strange h (subst (IsStrange h) a.hosts_are strange))

pub in_order : (header : Header) (lines : List Line) (t : NodeHistory) → FollowsNodes header lines t → AreHosts header.hosts.items → ArePlayable lines
    → PrefixNodes t
in_order header lines t follows are p front back q =
    in_order_so header.hosts.items (occurrences_in t) (world_behind (new_world header.hosts.items) (occurrences_in t))
    (all_so_behind header lines t follows are p) front back q

pub joined : (header : Header) (lines : List Line) (t : NodeHistory) → FollowsNodes header lines t → AreHosts header.hosts.items → ArePlayable lines
    → list_any is_chain_fault (node_entries t) ≡ false
joined header lines t follows are p =
    joined_so header.hosts.items (occurrences_in t) (world_behind (new_world header.hosts.items) (occurrences_in t))
    (all_so_behind header lines t follows are p)

-- ## What the ends of a link have of their sessions is read off a history, and so is that a quiet link has delivered all

module _ (h : ℕ) (l : Link) (t : List Entry) (a : IsLinkTold h l t) where
  abbrev notes : List Noted
  notes = entries new_line a.events

  read_controller : (n : ℕ) → IsReadOff t (end_c h) n (talk_of l.controller n)
  read_controller n =
      let P : Link → Type 0 = λ k. IsRead notes Controller n (talk_of k.controller n) in
      let r : IsRead notes Controller n (talk_of l.controller n) = subst P a.run.is (read_here new_line IsLine a.events a.run.allowed n) in
      record {
        sent = sent_alike t (entries_for h notes) (end_c h) n a.told ∙ (sent-all h notes Controller n ∙ r.sent);
        got = got_alike t (entries_for h notes) (end_c h) n a.told ∙ (got-all h notes Controller n ∙ r.got);
        acked = acked_alike t (entries_for h notes) (end_c h) n a.told ∙ (acked-all h notes Controller n ∙ r.acked);
      }

  read_host : (n : ℕ) → IsReadOff t (end_h h) n (talk_of l.host n)
  read_host n =
      let P : Link → Type 0 = λ k. IsRead notes Host n (talk_of k.host n) in
      let r : IsRead notes Host n (talk_of l.host n) = subst P a.run.is (read_there new_line IsLine a.events a.run.allowed n) in
      record {
        sent = sent_alike t (entries_for h notes) (end_h h) n a.told ∙ (sent-all h notes Host n ∙ r.sent);
        got = got_alike t (entries_for h notes) (end_h h) n a.told ∙ (got-all h notes Host n ∙ r.got);
        acked = acked_alike t (entries_for h notes) (end_h h) n a.told ∙ (acked-all h notes Host n ∙ r.acked);
      }

  pub read_off : AreReadOff t h l
  read_off = record { controller = read_controller; host = read_host }

  numbers : l.controller.side.shdlc.phase ≡ IsUpNow → l.host.side.shdlc.phase ≡ IsUpNow → number_of l.controller ≡ number_of l.host
  numbers =
      let P : Link → Type 0 = λ k. k.controller.side.shdlc.phase ≡ IsUpNow → k.host.side.shdlc.phase ≡ IsUpNow → number_of k.controller ≡ number_of k.host in
      subst P a.run.is (one_number new_line IsLine a.events a.run.allowed)

  -- both ends have this of the session that goes on
  pub near_now : l.controller.side.shdlc.phase ≡ IsUpNow → IsReadOff t (end_c h) (number_of l.controller) (talk_now l.controller.side)
  near_now up =
      let P : Talk
      → Type 0 = λ k. IsReadOff t (end_c h) (number_of l.controller) k in subst P (grind arith) (read_controller (number_of l.controller))

  pub far_now : l.controller.side.shdlc.phase ≡ IsUpNow → l.host.side.shdlc.phase ≡ IsUpNow
      → IsReadOff t (end_h h) (number_of l.controller) (talk_now l.host.side)
  far_now near up =
      let Q : ℕ → Type 0 = λ n. IsReadOff t (end_h h) n (talk_now l.host.side) in
      subst Q (sym (numbers near up)) (subst (λ (k : Talk). IsReadOff t (end_h h) (number_of l.host) k) (grind arith) (read_host (number_of l.host)))

  module _ (host : (h == 0) ≡ false) where
    -- what is read of both ends says that they are up, and the number
    pub up_near : (n : ℕ) → AreUpWith t h n → (l.controller.side.shdlc.phase ≡ IsUpNow) × (number_of l.controller ≡ n)
    up_near n u = session_up l.controller n (sym (are_read h l t host a).controller ∙ u.controller)

    pub up_far : (n : ℕ) → AreUpWith t h n → l.host.side.shdlc.phase ≡ IsUpNow
    up_far n u = (session_up l.host n (sym (are_read h l t host a).host ∙ u.host)).0

    quiet : (n : ℕ) (m : Losses) → AreUpWith t h n → IsUntroubled l m → IsQuiet l m
    quiet n m u s =
        record {
          controller = (up_near n u).0;
          host = up_far n u;
          lost = s.lost;
          rnr = s.rnr;
          to_controller = s.to_controller;
          to_host = s.to_host;
        }

    pub delivered : HasDelivered t h l
    delivered = record {
      to_host = λ n u events r s.
          let q : IsQuiet l (losses_of new_line events) = quiet n (losses_of new_line events) u s in
          let near = near_now q.controller in
          let far = far_now q.controller q.host in
          let all : AllDelivered (talk_now l.controller.side) (talk_now l.host.side) = delivers_to_host l events r q in
          subst (λ (m : ℕ). IsDelivered t (end_c h) m) (up_near n u).1 (grind arith);
      to_controller = λ n u events r s.
          let q : IsQuiet l (losses_of new_line events) = quiet n (losses_of new_line events) u s in
          let near = near_now q.controller in
          let far = far_now q.controller q.host in
          let all : AllDelivered (talk_now l.host.side) (talk_now l.controller.side) = delivers_to_controller l events r q in
          subst (λ (m : ℕ). IsDelivered t (end_h h) m) (up_near n u).1 (grind arith);
    }

    pub has_settled : HasSettled t h l
    has_settled events r s =
        let both : AreUpTogether l = settles l events r s in
        let read : AreSessionsRead t h l = are_read h l t host a in
        grind arith

-- ## A link that is still, as it is read off the events of a history, has delivered all

-- ### What is read since an end came up is read of the entries of its link

module _ (h : ℕ) where
  begins_of : (n : ℕ) (o : Option (End × Saying)) → is_of h o ≡ false → begins_on h n o ≡ false
  begins_of n o q = grind arith

  loses_of : (o : Option (End × Saying)) → is_of h o ≡ false → loses_on h o ≡ false
  loses_of o q = grind arith

  rejects_of : (o : Option (End × Saying)) → is_of h o ≡ false → rejects_on h o ≡ false
  rejects_of o q = grind arith

  since_of : (n : ℕ) (t_of_still : List Entry) → of_link h (since_up h n t_of_still) ≡ since_up h n (of_link h t_of_still)
  since_of n [] = refl
  since_of n (x ∷ t_of_still) = by_test (tells_of h x)
      (λ p. by_test (begins_on h n (said x)) (λ q. rw (p, q) refl) (λ q. rw (p, q) (since_of n t_of_still)))
      (λ p. let z = begins_of n (said x) (untold h x p) in rw (p, z) (since_of n t_of_still))

  any_of : (f : Option (End × Saying) → Bool) → ((o : Option (End × Saying)) → is_of h o ≡ false → f o ≡ false) → (t_of_still : List Entry)
      → list_any (λ x. f (said x)) t_of_still ≡ list_any (λ x. f (said x)) (of_link h t_of_still)
  any_of f off [] = refl
  any_of f off (x ∷ t_of_still) = by_test (tells_of h x)
      (λ p. rw p (ap (λ b. f (said x) || b) (any_of f off t_of_still)))
      (λ p. let z = off (said x) (untold h x p) in rw (p, z) (any_of f off t_of_still))

  since_alike : (f : Option (End × Saying) → Bool) → ((o : Option (End × Saying)) → is_of h o ≡ false → f o ≡ false) → (n : ℕ) (t_of_still v : List Entry)
      → of_link h t_of_still ≡ of_link h v → list_any (λ x. f (said x)) (since_up h n t_of_still) ≡ list_any (λ x. f (said x)) (since_up h n v)
  since_alike f off n t_of_still v q =
      any_of f off (since_up h n t_of_still)
      ∙ (ap (list_any (λ x. f (said x))) (since_of n t_of_still ∙ (ap (since_up h n) q ∙ sym (since_of n v))) ∙ sym (any_of f off (since_up h n v)))

  lost_alike : (n : ℕ) (t_of_still v : List Entry) → of_link h t_of_still ≡ of_link h v → has_lost h (since_up h n t_of_still) ≡ has_lost h (since_up h n v)
  lost_alike n t_of_still v q = since_alike (loses_on h) loses_of n t_of_still v q

  rnr_alike : (n : ℕ) (t_of_still v : List Entry) → of_link h t_of_still ≡ of_link h v → has_rnr h (since_up h n t_of_still) ≡ has_rnr h (since_up h n v)
  rnr_alike n t_of_still v q = since_alike (rejects_on h) rejects_of n t_of_still v q

-- ### Entries in which no activation begins

since_none : (f : Noted → Bool) (n : ℕ) (t_of_still : List Noted) → list_any f t_of_still ≡ false → list_any f (since n t_of_still) ≡ false
since_none f n [] q = refl
since_none f n (e ∷ t_of_still) q = by_test (begins n e) (λ p. rw p (grind arith)) (λ p. rw p (since_none f n t_of_still (grind arith)))

are_plain : (t_of_still : List Noted) → list_any silences t_of_still ≡ false → list_any misnumbered t_of_still ≡ false → ArePlain t_of_still
are_plain [] a b = tt
are_plain (Restarted who ∷ t_of_still) a b = absurd (true≢false a)
are_plain (Cut who ∷ t_of_still) a b = absurd (true≢false a)
are_plain (Emit who c ∷ t_of_still) a b =
    let x = or_none (misnumbered (Emit who c)) (list_any misnumbered t_of_still) b in (numbered who c x.0, are_plain t_of_still a x.1)
are_plain (_ ∷ t_of_still) a b = (tt, are_plain t_of_still a b)

-- ### A link that is still

module _ (h : ℕ) (l : Link) (events : List Occurrence) (host : (h == 0) ≡ false) (a : IsLinkTold h l (entries_in events))
    (wires : AreWiresRead events h l) where
  abbrev t_of_still : List Entry
  t_of_still = entries_in events

  abbrev notes_of_still : List Noted
  notes_of_still = entries new_line a.events

  abbrev v : List Entry
  v = entries_for h notes_of_still

  -- as the law of one link has it
  record IsStillByLaw (n : ℕ) : Type 0 where
    quiet : IsQuietSince notes_of_still (link_after new_line a.events)
    number : number_of (link_after new_line a.events).controller ≡ n

  still_by_law : (n : ℕ) → IsStillInSession events h n → IsStillByLaw n
  still_by_law n s =
      let k : Link = link_after new_line a.events in
      let read = are_read h l t_of_still host a in
      let near = session_up l.controller n (sym read.controller ∙ s.up.controller) in
      let far = session_up l.host n (sym read.host ∙ s.up.host) in
      let is : l ≡ k = sym a.run.is in
      let here : k.controller.side.shdlc.phase ≡ IsUpNow = subst (λ (z : Link). z.controller.side.shdlc.phase ≡ IsUpNow) is near.0 in
      let there : k.host.side.shdlc.phase ≡ IsUpNow = subst (λ (z : Link). z.host.side.shdlc.phase ≡ IsUpNow) is far.0 in
      let mine : number_of k.controller ≡ n = ap (λ (z : Link). number_of z.controller) a.run.is ∙ near.1 in
      let late : List Noted = since n notes_of_still in
      let uncut : list_any silences late ≡ false = none_silenced n a.events a.run.allowed here there mine (grind arith) in
      let fits : list_any misnumbered late ≡ false = since_none misnumbered n notes_of_still (events_mute misnumbered misnumbered_mute a.events new_line) in
      let lost : has_lost h (entries_for h late) ≡ false =
      sym (ap (has_lost h) (since-all h n notes_of_still)) ∙ (sym (lost_alike h n t_of_still v a.told) ∙ s.lossless) in
      let rnr : has_rnr h (entries_for h late) ≡ false = sym (ap (has_rnr h) (since-all h n notes_of_still))
      ∙ (sym (rnr_alike h n t_of_still v a.told) ∙ s.ready) in
      let none_disturbs : list_any disturbs late ≡ false = undisturbed h late (are_plain late uncut fits) lost rnr in
      record {
        quiet = record {
          controller = here;
          host = there;
          undisturbed = subst (λ (z : ℕ). list_any disturbs (since z notes_of_still) ≡ false) (sym mine) none_disturbs;
          to_controller = ap (λ (z : Link). z.to_controller) a.run.is ∙ no_bytes l.to_controller (sym wires.to_controller ∙ s.to_controller);
          to_host = ap (λ (z : Link). z.to_host) a.run.is ∙ no_bytes l.to_host (sym wires.to_host ∙ s.to_host);
        };
        number = mine;
      }

  delivered_all : HasDeliveredAll events h
  delivered_all = record {
    to_host = λ n s.
        let b = still_by_law n s in
        let P : ℕ → Type 0 = λ z. LinkDelivered notes_of_still Controller z in
        let d : LinkDelivered notes_of_still Controller n = subst P b.number (quiet_here new_line IsLine a.events a.run.allowed b.quiet) in
        let sent = sent_alike t_of_still v (end_c h) n a.told ∙ sent-all h notes_of_still Controller n in
        record {
          got = got_alike t_of_still v (end_h h) n a.told ∙ (got-all h notes_of_still Host n ∙ (d.got ∙ ap good_of (sym sent)));
          acked = acked_alike t_of_still v (end_c h) n a.told
              ∙ (acked-all h notes_of_still Controller n ∙ (d.acked ∙ ap (λ (ms : List Message). length ms) (sym sent)));
        };
    to_controller = λ n s.
        let b = still_by_law n s in
        let P : ℕ → Type 0 = λ z. LinkDelivered notes_of_still Host z in
        let d : LinkDelivered notes_of_still Host n = subst P b.number (quiet_there new_line IsLine a.events a.run.allowed b.quiet) in
        let sent = sent_alike t_of_still v (end_h h) n a.told ∙ sent-all h notes_of_still Host n in
        record {
          got = got_alike t_of_still v (end_c h) n a.told ∙ (got-all h notes_of_still Controller n ∙ (d.got ∙ ap good_of (sym sent)));
          acked = acked_alike t_of_still v (end_h h) n a.told
              ∙ (acked-all h notes_of_still Host n ∙ (d.acked ∙ ap (λ (ms : List Message). length ms) (sym sent)));
        };
  }

-- ### A host that isn't there has no session

unread : (h : ℕ) (far : Bool) (node : ℕ) (t_of_still : List Entry) → of_link h t_of_still ≡ []
    → session_now t_of_still (record { link = h; at_host = far }) node ≡ None
unread h far node [] q = refl
unread h far node (x ∷ t_of_still) q = by_test (tells_of h x)
    (λ p. absurd (cc (rw p at q)))
    (λ p. let others : of_link h t_of_still ≡ [] = rw p at q in
    ap (λ s. fold (after e node) s t_of_still) (grind arith) ∙ unread h far node t_of_still others)
  where
    e : End
    e = record { link = h; at_host = far }

-- ### Each history

pub history_delivered : (header : Header) (lines : List Line) (t_of_still : NodeHistory) → FollowsNodes header lines t_of_still → AreHosts header.hosts.items
    → ArePlayable lines → (front back : List Occurrence) → occurrences_in t_of_still ≡ front ++ back → (h : ℕ) → HasDeliveredAll front h
history_delivered header lines t_of_still follows are playable front back q h = by_option (site_at w.sites h)
    (λ found. let strange : IsStrange h header.hosts.items = subst (IsStrange h) a.hosts_are (none_found w.sites h found) in
    record { to_host = λ n s. absurd (never n strange s); to_controller = λ n s. absurd (never n strange s) })
    (λ s found. let b = a.each h s found in
    delivered_all h s.link front (host_number w h s a.well.orderly found) b.told
    (record { to_controller = b.shown.wires.to_controller; to_host = b.shown.wires.to_host }))
  where
    w : NodeWorld
    w = world_behind (new_world header.hosts.items) front

    a : IsSo header.hosts.items front w
    a = history_so header lines t_of_still follows are playable front back q

    never : (n : ℕ) → IsStrange h header.hosts.items → IsStillInSession front h n → ⊥
    never n strange s = absurd (cc (sym (unread h false 0 (entries_in front) (a.strange h strange)) ∙ s.up.controller))
