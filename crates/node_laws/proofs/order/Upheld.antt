-- In each history a reset whose answer nothing withheld has brought both ends up, and every history is legal.
use Rattle.node_laws.proofs.Words.{Activates, AllByRecursion, AreBothUp, AreHosts, ArePlayable, AreSessionsRead, AreUpTogether, AsksReset, AtController, AtEnd}
use Rattle.node_laws.proofs.Words.{AtHost, Bool, Comes, Controller, CutOff, End, Ending, Entry, FindsReady, FollowsNodes, GoesOut, Happening, Header, Host}
use Rattle.node_laws.proofs.Words.{IsFew, IsFreeOfLinkFrames, IsLine, IsPlayable, IsRunOf, IsSentByHost, IsUpheld, IsUpheldInTick, IsWindow, Line, Link}
use Rattle.node_laws.proofs.Words.{LinkEvent, List, NoInput, NodeHistory, NodeWorld, None, Occurrence, Option, Readiness, Refused, Reset, Resets, Running, Site}
use Rattle.node_laws.proofs.Words.{Some, Standing, Step, Takes, Ticks, Turn, Work, [], after_controller, after_host, ap, append-nil, append_assoc, arith}
use Rattle.node_laws.proofs.Words.{as_event_begins, as_event_ends, as_noted, behind_reset_of, by_option, by_some, by_test, changed_if, cond, controller_work}
use Rattle.node_laws.proofs.Words.{cuts_on, end_c, ending_of, entries_in, eqb-true, event_entries, exchanged, false, first_verdict, fold, frames_at, frames_on}
use Rattle.node_laws.proofs.Words.{happenings, happens, host_does, host_work, hosts_in, if_off, is_open, is_some, is_waiting, link_after_controller, list_any}
use Rattle.node_laws.proofs.Words.{machine_in, machine_of, new_line, new_standing, new_world, node_at, node_entries, node_of, occurrences_in, of_link, or_none}
use Rattle.node_laws.proofs.Words.{other_end, readiness_of, refl, refusal_in, reset_refusal, same_number, sans, site_at, standing, standing_behind}
use Rattle.node_laws.proofs.Words.{stands_noted, steps, steps_from, subst, sym, taken_of, tells_of, true, true≢false, turns_at, unwrap_or, with_site}
use Rattle.node_laws.proofs.Words.{withholds_in, world_behind, world_step, world_ticks, ℕ, ◌++◌, ◌==◌, ◌∙◌, ◌∷◌, ◌≡◌}
use Rattle.link_laws.proofs.entries.Together.{together}
use Rattle.node_laws.specs.order.Legal.{CompleteNodes, LegalNodes}
use Rattle.node_laws.specs.order.Resets.{IsLeftAlone, ResetNodes, TickResetNodes, opens_on, ready_at, withheld_in}
use Rattle.node_laws.proofs.cuts.Histories.{kept_exactly}
use Rattle.node_laws.proofs.kept.Ticking.{are_allowed, first_none}
use Rattle.node_laws.proofs.kept.Events.{none_found}
use Rattle.node_laws.proofs.links.Worlds.{MayHappen, plain_reach}
use Rattle.node_laws.proofs.links.Works.{steps_fine}
use Rattle.node_laws.proofs.order.Watches.{AreBelieved, IsSince, IsStepOf, WatchedLink, event_believed, input_cut, loses_one_on, no_cut, none_lost_behind}
use Rattle.node_laws.proofs.order.Watches.{none_withheld_on, sans_none, since_reset, untouched, watch_begins, watched, withholds_on}
use Rattle.node_laws.proofs.order.Events.{Each, IsWell, Knows, far_step, near_step, was_there}
use Rattle.node_laws.proofs.order.Lines.{IsSo, IsSoSince, IsStrange, LeavesKnown, history_so, host_number, line_may, next_so, of_none, watches}
use Rattle.node_laws.proofs.order.Sessions.{are_read, history_delivered, in_order, joined}
use Rattle.node_laws.proofs.order.Wires.{AreReady}
use Rattle.node_laws.proofs.order.Ticking.{ticked_since}
use Rattle.node_laws.proofs.order.Marking.{steps_none}
use Rattle.node_laws.proofs.readings.Noticed.{numbers}
use Rattle.node_laws.proofs.telling.Accounts.{of-append}
use Rattle.node_laws.proofs.telling.Events.{host_does_step, site_host, site_map}
use Rattle.node_laws.proofs.telling.Lasting.{AllMay, EachHolds, behind_push, damaged_may, events_of_steps, front_each, lines_each, occurs, repeated_may}
use Rattle.node_laws.proofs.turns.Worlds.{in_turn}
use Rattle.trace_model.specs.declared.entry.Entry.TheVariants as entry
use Rattle.trace_model.specs.declared.entry.NoCause.TheVariants as no
use Rattle.trace_model.specs.declared.line.Line.TheVariants as line

-- ## Each event of a history is what its world does, and an end is reset only where that isn't refused

-- an end that is reset is one that may be
abbrev pub IsAskedIn : NodeWorld → Happening → Type 0
IsAskedIn w (Resets e window) = refusal_in w (line.Reset e window) ≡ None
IsAskedIn w _ = Unit {0}

-- it may happen there, and is asked for so
abbrev pub MayBeAsked : NodeWorld → Happening → Type 0
MayBeAsked w c = MayHappen w c × IsAskedIn w c

asked_may : (w : NodeWorld) (l : Line) → refusal_in w l ≡ None → AllMay IsAskedIn w (happenings w l)
asked_may w (line.Deliver e count) none = repeated_may IsAskedIn (Takes e) (λ v. tt) (taken_of count (frames_at w e)) w
asked_may w (line.Damage e places) none = damaged_may IsAskedIn w e tt (λ why. tt) (first_verdict (frames_at w e) places.items)
asked_may w (line.Tick times) none = repeated_may IsAskedIn Ticks (λ v. tt) (unwrap_or times 1) w
asked_may w (line.Reset e window) none = (none, tt)
asked_may w (line.Busy e) none = tt
asked_may w (line.Ready e) none = tt
asked_may w (line.Tables n) none = tt
asked_may w (line.Settle n) none = tt
asked_may w _ none = (tt, tt)

both_may : (causes : List Happening) (w : NodeWorld) → AllMay MayHappen w causes → AllMay IsAskedIn w causes → AllMay MayBeAsked w causes
both_may [] w a b = tt
both_may (c ∷ causes) w a b = ((a.0, b.0), both_may causes (world_step w c).0 a.1 b.1)

both_line : (w : NodeWorld) (l : Line) → IsPlayable l → refusal_in w l ≡ None → AllMay MayBeAsked w (happenings w l)
both_line w l p none = both_may (happenings w l) w (line_may w l p none) (asked_may w l none)

-- these events, one after another, are what the world does
abbrev pub AreDone : NodeWorld → List Occurrence → Type 0
AreDone w [] = Unit {0}
AreDone w (o ∷ events) = ((o.entries ≡ (world_step w o.cause).1) × MayBeAsked w o.cause) × AreDone (world_step w o.cause).0 events

done_push : (os : List Occurrence) (w v : NodeWorld) (c : Happening) → v ≡ world_behind w os → MayBeAsked v c → AreDone w os → AreDone w (os ++ occurs v c ∷ [])
done_push [] w v c is may a = grind arith
done_push (o ∷ os) w v c is may a = (a.0, done_push os (world_step w o.cause).0 v c is may a.1)

pub done_back : (xs ys : List Occurrence) (w : NodeWorld) → AreDone w (xs ++ ys) → AreDone (world_behind w xs) ys
done_back [] ys w a = a
done_back (x ∷ xs) ys w a = done_back xs ys (world_step w x.cause).0 a.1

done_front : (xs ys : List Occurrence) (w : NodeWorld) → AreDone w (xs ++ ys) → AreDone w xs
done_front [] ys w a = tt
done_front (x ∷ xs) ys w a = (a.0, done_front xs ys (world_step w x.cause).0 a.1)

-- a world behind events of a new one, which are what that one does
record IsDoneSo (first : NodeWorld) (os : List Occurrence) (w : NodeWorld) : Type 0 where
  is : w ≡ world_behind first os
  done : AreDone first os

module _ (first : NodeWorld) where
  step_done : (os : List Occurrence) (w : NodeWorld) (c : Happening) → IsDoneSo first os w → MayBeAsked w c
      → IsDoneSo first (os ++ occurs w c ∷ []) (world_step w c).0
  step_done os w c a may =
      record {
        is = ap (λ z. (world_step z c).0) a.is ∙ sym (behind_push os (occurs w c) first);
        done = done_push os first w c a.is may a.done;
      }

-- all events of a history
pub history_done : (header : Header) (lines : List Line) (t : NodeHistory) → FollowsNodes header lines t → ArePlayable lines
    → AreDone (new_world header.hosts.items) (occurrences_in t)
history_done header lines t follows p =
    let w : NodeWorld = new_world header.hosts.items in
    let P : List Occurrence → Type 0 = λ events. EachHolds (IsDoneSo w) MayBeAsked IsPlayable (step_done w) both_line [] w events in
    let is : events_of_steps (steps_from w lines) ≡ occurrences_in t ++ [] = ap events_of_steps (sym follows.steps_are) ∙ sym (append-nil (occurrences_in t)) in
    (front_each (IsDoneSo w) MayBeAsked IsPlayable (step_done w) both_line (occurrences_in t) [] [] w
    (subst P is (lines_each (IsDoneSo w) MayBeAsked IsPlayable (step_done w) both_line lines [] w (record { is = refl; done = tt }) p))).done

-- ## A reset whose answer nothing withheld has brought both ends of its link up, in each history

-- ### A reset on a link

module _ (h : ℕ) (l : Link) (window : Option ℕ) (ts : List Turn) (u : List Entry) (events : List LinkEvent) (run : IsRunOf events l)
    (powered : list_any (cuts_on h) u ≡ false) where
  near_reset : (ending : Ending) → IsStepOf h l (AtController (Step (AsksReset window) ts ending)) u → FindsReady l
      → IsSince (happens l (AtController (Step (AsksReset window) ts ending)))
  near_reset GoesOut n ready = since_reset l (AtController (Step (AsksReset window) ts GoesOut)) events run n.can ready refl
  near_reset CutOff n ready =
      absurd (true≢false (sym (input_cut Controller l (Reset window) ts)
      ∙ no_cut h u (event_entries l (AtController (Step (AsksReset window) ts CutOff))) powered n.stands))

  far_reset : (ending : Ending) → IsStepOf h l (AtHost (Step (AsksReset window) ts ending)) u → FindsReady (exchanged l)
      → IsSince (happens l (AtHost (Step (AsksReset window) ts ending)))
  far_reset GoesOut n ready = since_reset l (AtHost (Step (AsksReset window) ts GoesOut)) events run n.can ready refl
  far_reset CutOff n ready =
      absurd (true≢false (sym (input_cut Host (exchanged l) (Reset window) ts)
      ∙ no_cut h u (event_entries l (AtHost (Step (AsksReset window) ts CutOff))) powered n.stands))

-- ### A reset in a world

pub none_refused : (o : Option Refused) → as_noted o ≡ None → o ≡ None
none_refused o q = grind arith

module _ (w : NodeWorld) (t : List Entry) (X : ℕ → WatchedLink) (a : IsWell w) (each : Each t X w) (k : ℕ) (window : Option ℕ) (may : IsWindow window)
    (s : Site)
    (there : site_at w.sites k ≡ Some s) where
  abbrev comes : Comes
  comes = AsksReset window

  abbrev side : Bool → End
  side b = record { link = k; at_host = b }

  abbrev HasReset : NodeWorld × List Entry → Type 0
  HasReset z = list_any (cuts_on k) z.1 ≡ false → (v : Site) → site_at z.0.sites k ≡ Some v → IsSince v.link

  -- at the controller's end
  near_so : FindsReady s.link → is_some w.controller ≡ true → HasReset (world_step w (Resets (side false) window))
  near_so ready on = by_some w.controller on (λ r e. rw e (so r e))
    where
      so : (r : Running) → w.controller ≡ Some r → HasReset (after_controller w k comes (controller_work w r k comes (steps (AtEnd k (Reset window)))))
      so r e powered v found =
          let work : Work = controller_work w r k comes (steps (AtEnd k (Reset window))) in
          let u : List Entry = (after_controller w k comes work).1 in
          let was = was_there (link_after_controller k comes work) (λ x. refl) w.sites k v found in
          let z : Site = was.site in
          let same : Some s ≡ Some z = sym there ∙ was.there in
          let one : s ≡ z = cc in
          let told = (each k z was.there).told in
          let ts : List Turn = turns_at work z.host in
          let here : (z.host == k) ≡ true = ap (λ n. n == k) (site_host w.sites k z was.there) ∙ same_number k in
          let E : Bool → LinkEvent = λ b. AtController (Step (cond b comes NoInput) ts (ending_of work)) in
          let T : Bool → Type 0 = λ b. IsStepOf k z.link (E b) u → IsSince (happens z.link (E b)) in
          let F : Site → Type 0 = λ y. FindsReady y.link in
          let law : T true = λ n. near_reset k z.link window ts u told.events told.run powered (ending_of work) n (subst F one ready) in
          subst (λ (y : Site). IsSince y.link) was.is (subst T (sym here) law (near_step w t X a each k comes (Reset window) may refl r e k z was.there))

  -- at the host's
  far_so : FindsReady (exchanged s.link) → is_some s.node ≡ true → HasReset (world_step w (Resets (side true) window))
  far_so ready on = by_some s.node on so
    where
      f : Work → Work
      f = steps (AtEnd k (Reset window))

      after_site : Running → Site → Site
      after_site r = after_host comes (host_work s r comes f)

      changed : Running → Site → Site
      changed r x = changed_if (x.host == k) (after_site r) x

      keeps : (r : Running) (x : Site) → (changed r x).host ≡ x.host
      keeps r x = by_test (x.host == k) (λ q. rw q refl) (λ q. rw q refl)

      on_is : (r : Running) → s.node ≡ Some r → (host_does w k comes f).0 ≡ record w { sites = with_site k (after_site r) w.sites }
      on_is r e = rw (there, e) refl

      so : (r : Running) → s.node ≡ Some r → HasReset (host_does w k comes f)
      so r e powered v found =
          let work : Work = host_work s r comes f in
          let u : List Entry = (host_does w k comes f).1 in
          let N : NodeWorld → Type 0 = λ z. site_at z.sites k ≡ Some v in
          let now : Some (changed r s) ≡ Some v = sym (site_map (changed r) (keeps r) w.sites k s there) ∙ subst N (on_is r e) found in
          let one : changed r s ≡ v = cc in
          let here : (s.host == k) ≡ true = ap (λ n. n == k) (site_host w.sites k s there) ∙ same_number k in
          let told = (each k s there).told in
          let n : IsStepOf k s.link (AtHost (Step comes (turns_at work s.host) (ending_of work))) u =
          far_step w t X a each k comes f (plain_reach k comes may w.sites)
          (λ x m there runs. host_does_step w x m k a.orderly there runs comes (Reset window) refl)
          (λ v b. steps_fine (AtEnd k (Reset window)) v b) (λ v b. steps_none (AtEnd k (Reset window)) v b) (Some (Reset window)) tt (λ x there. refl)
          (λ x there. refl) s there r e in
          let C : Bool → Type 0 = λ b. IsSince (changed_if b (after_site r) s).link in
          let S : Site → Type 0 = λ y. IsSince y.link in
          subst S one (subst C (sym here) (far_reset k s.link window (turns_at work s.host) u told.events told.run powered (ending_of work) n ready))

  -- at either end
  reset_since : (b : Bool) → refusal_in w (line.Reset (side b) window) ≡ None → is_open (machine_of s.link (other_end (side b))).role ≡ true
      → is_waiting (machine_of s.link (other_end (side b))).shdlc ≡ false → HasReset (world_step w (Resets (side b) window))
  reset_since b none active free = go b (first_none (if_off w (node_of (side b))) (as_noted (reset_refusal (machine_in w (side b)))) none) active free
    where
      granted : (b : Bool) → as_noted (reset_refusal (machine_in w (side b))) ≡ None → reset_refusal (machine_of s.link (side b)) ≡ None
      granted b q = grind arith

      runs : is_some (node_at w k) ≡ true → is_some s.node ≡ true
      runs q =
          sym (ap (λ (o : Option Running). is_some o) (rw ((host_number w k s a.orderly there), there) refl)) ∙ q

      go : (b : Bool) → (if_off w (node_of (side b)) ≡ None) × (as_noted (reset_refusal (machine_in w (side b))) ≡ None)
          → is_open (machine_of s.link (other_end (side b))).role ≡ true → is_waiting (machine_of s.link (other_end (side b))).shdlc ≡ false
          → HasReset (world_step w (Resets (side b) window))
      go false q active free =
          near_so (record { granted = granted false q.1; active = active; free = free }) (grind arith)
      go true q active free =
          far_so (record { granted = granted true q.1; active = active; free = free }) (runs (grind arith))

-- ### Both ends are up

-- where nothing withheld the answer and both wires hold no frames but of activation
brought_up : (h : ℕ) (l : Link) (t : List Entry) (x : Standing) → AreSessionsRead t h l → IsSince l → x.to_controller ≡ frames_on l.to_controller
    → x.to_host ≡ frames_on l.to_host → IsFreeOfLinkFrames x.to_controller → IsFreeOfLinkFrames x.to_host → AreBothUp t h
brought_up h l t x read a near far to_controller to_host =
    let P : Link → Type 0 = λ k. sans k.to_controller ≡ [] → sans k.to_host ≡ [] → AreUpTogether k in
    let law : P l = subst P a.run.is (together new_line IsLine a.before a.reset a.behind a.run.allowed a.asked a.undisturbed) in
    let both : AreUpTogether l =
    law (sans_none l.to_controller (subst IsFreeOfLinkFrames near to_controller)) (sans_none l.to_host (subst IsFreeOfLinkFrames far to_host)) in
    grind arith

-- ## In each history a reset whose answer nothing withheld has brought both ends of its link up

-- ### What is known of one link

-- it is known of the link with this host
abbrev of_one : ℕ → ℕ → Bool
of_one k h = h == k

module _ (k : ℕ) (hosts : List ℕ) where
  -- from where it is so on
  known_from : (os : List Occurrence) (w : NodeWorld) → IsSo hosts os w → ((s : Site) → site_at w.sites k ≡ Some s → IsSince s.link)
      → IsSoSince (of_one k) hosts os w
  known_from os w a since =
      record {
        hosts_are = a.hosts_are;
        well = a.well;
        up = a.up;
        each = λ h s found.
            let b : Knows (entries_in os) (watches of_none os h) w.controller h s = a.each h s found in
            grind arith;
        strange = a.strange;
      }

  -- an event that withholds nothing
  leaves : (c : Happening) (u : List Entry) → opens_on k c ≡ false → list_any (withholds_on k) u ≡ false
      → (watched k (watch_begins k c untouched) u).since ≡ true
  leaves c u p q = grind arith

  leaves_known : (w : NodeWorld) (c : Happening) → opens_on k c ≡ false → list_any (withholds_on k) (world_step w c).1 ≡ false
      → LeavesKnown (of_one k) hosts w c
  leaves_known w c p q h is =
      subst (λ (n : ℕ). (watched n (watch_begins n c untouched) (world_step w c).1).since ≡ true) (sym (eqb-true h k is)) (leaves c (world_step w c).1 p q)

  -- over events that withhold nothing
  known_behind : (events os : List Occurrence) (w : NodeWorld) → AreDone w events → list_any (withheld_in k) events ≡ false
      → list_any (λ (o : Occurrence). opens_on k o.cause) events ≡ false → IsSoSince (of_one k) hosts os w
      → IsSoSince (of_one k) hosts (os ++ events) (world_behind w events)
  known_behind [] os w done q p a = subst (λ z. IsSoSince (of_one k) hosts z w) (sym (append-nil os)) a
  known_behind (o ∷ events) os w done q p a =
      let c : Happening = o.cause in
      let u : List Entry = o.entries in
      let both = or_none (withheld_in k o) (list_any (withheld_in k) events) q in
      let opens = or_none (opens_on k c) (list_any (λ (x : Occurrence). opens_on k x.cause) events) p in
      let left : list_any (withholds_on k) (world_step w c).1 ≡ false =
      none_withheld_on k c (world_step w c).1 (event_believed k w c) (ap (list_any (withholds_in k c)) (sym done.0.0) ∙ both.0) in
      let P : Occurrence → Type 0 = λ z. IsSoSince (of_one k) hosts (os ++ z ∷ []) (world_step w c).0 in
      let next : IsSoSince (of_one k) hosts (os ++ o ∷ []) (world_step w c).0 =
      subst P (grind arith) (next_so (of_one k) hosts os w c a done.0.1.0 (leaves_known w c opens.0 left)) in
      subst (λ z. IsSoSince (of_one k) hosts z (world_behind w (o ∷ events))) (append_assoc os (o ∷ []) events)
      (known_behind events (os ++ o ∷ []) (world_step w c).0 done.1 both.1 opens.1 next)

-- ### How ready ends are

-- what is read of an end of a told link is how ready it is
ready_machine : (l : Link) (x : Standing) → AreReady l x → (e : End) → ready_at e x ≡ readiness_of (machine_of l e)
ready_machine l x a e = by_test e.at_host (λ q. rw q a.far) (λ q. rw q a.near)

-- no end is active
abbrev IsIdle : Standing → Type 0
IsIdle x = (x.near.active ≡ false) × (x.far.active ≡ false)

module _ (k : ℕ) where
  -- entries that tell nothing of a link let none become so
  idle_noted : (x : Standing) (e : Entry) → tells_of k e ≡ false → IsIdle x → IsIdle (stands_noted k x e)
  idle_noted x e q a = grind arith

  idle_all : (t : List Entry) (x : Standing) → of_link k t ≡ [] → IsIdle x → IsIdle (standing k x t)
  idle_all [] x q a = a
  idle_all (e ∷ t) x q a = by_test (tells_of k e) (λ p. absurd (cc (rw p at q))) (λ p. idle_all t (stands_noted k x e) (rw p at q) (idle_noted x e p a))

  idle_event : (c : Happening) (t : List Entry) (x : Standing) → of_link k t ≡ [] → IsIdle x
      → IsIdle (as_event_ends k c (standing k (as_event_begins k c x) t))
  idle_event (Activates j sync power) t x q a = by_test (k == j) (λ is. rw is (refl, refl)) (λ is. rw is (idle_all t x q a))
  idle_event c t x q a = idle_all t x q a

  idle_from : (events : List Occurrence) (x : Standing) → of_link k (entries_in events) ≡ [] → IsIdle x
      → IsIdle (fold (λ y (o : Occurrence). as_event_ends k o.cause (standing k (as_event_begins k o.cause y) o.entries)) x events)
  idle_from [] x q a = a
  idle_from (o ∷ events) x q a =
      let both = none_both (of_link k o.entries) (of_link k (entries_in events)) (sym (of-append k o.entries (entries_in events)) ∙ q) in
      idle_from events (as_event_ends k o.cause (standing k (as_event_begins k o.cause x) o.entries)) both.1 (idle_event o.cause o.entries x both.0 a)
    where
      none_both : (xs ys : List Entry) → xs ++ ys ≡ [] → (xs ≡ []) × (ys ≡ [])
      none_both [] ys e = (refl, e)
      none_both (x ∷ xs) ys e = absurd (cc e)

  idle_behind : (events : List Occurrence) → of_link k (entries_in events) ≡ [] → IsIdle (standing_behind k events)
  idle_behind events q = idle_from events new_standing q (refl, refl)

-- ### Sites stay

record IsFound (sites : List Site) (h : ℕ) : Type 0 where
  site : Site
  there : site_at sites h ≡ Some site

found_too : (xs ys : List Site) → hosts_in xs ≡ hosts_in ys → (h : ℕ) (s : Site) → site_at xs h ≡ Some s → IsFound ys h
found_too [] ys q h s found = absurd (cc found)
found_too (x ∷ xs) [] q h s found = absurd (cc q)
found_too (x ∷ xs) (y ∷ ys) q h s found = by_test (x.host == h)
    (λ e. let z : (y.host == h) ≡ true = ap (λ n. n == h) (sym host) ∙ e in record { site = y; there = rw z refl })
    (λ e. let z : (y.host == h) ≡ false = ap (λ n. n == h) (sym host) ∙ e in
    let later : IsFound ys h = found_too xs ys rest h s (rw e at found) in
    record { site = later.site; there = rw z later.there })
  where
    host : x.host ≡ y.host
    host = cc

    rest : hosts_in xs ≡ hosts_in ys
    rest = cc

-- ### Histories

module _ (header : Header) (lines : List Line) (t : NodeHistory) (follows : FollowsNodes header lines t) (are : AreHosts header.hosts.items)
    (playable : ArePlayable lines) where
  abbrev hosts_of : List ℕ
  hosts_of = header.hosts.items

  abbrev first : NodeWorld
  first = new_world hosts_of

  -- an event in which an end of the link with this host was reset, and nothing has withheld the answer since
  left_alone : (before : List Occurrence) (reset : Occurrence) (behind back : List Occurrence) (k : ℕ) (s : Site)
      → occurrences_in t ≡ before ++ (reset ∷ behind ++ back) → site_at (world_behind first before).sites k ≡ Some s
      → ((x : Site) → site_at (world_step (world_behind first before) reset.cause).0.sites k ≡ Some x → IsSince x.link)
      → IsLeftAlone before reset behind k → AreBothUp (entries_in (before ++ reset ∷ behind)) k
  left_alone before reset behind back k s q there since a =
      let w : NodeWorld = world_behind first before in
      let v : NodeWorld = (world_step w reset.cause).0 in
      let all : AreDone first (before ++ (reset ∷ behind ++ back)) = subst (AreDone first) q (history_done header lines t follows playable) in
      let done : AreDone w (reset ∷ behind ++ back) = done_back before (reset ∷ behind ++ back) first all in
      let so : IsSo hosts_of before w = history_so header lines t follows are playable before (reset ∷ behind ++ back) q in
      let after : IsSo hosts_of (before ++ reset ∷ []) (world_behind first (before ++ reset ∷ [])) =
      history_so header lines t follows are playable (before ++ reset ∷ []) (behind ++ back)
      (q ∙ sym (append_assoc before (reset ∷ []) (behind ++ back))) in
      let next : IsSo hosts_of (before ++ reset ∷ []) v = subst (IsSo hosts_of (before ++ reset ∷ [])) (behind_push before reset first) after in
      let known : IsSoSince (of_one k) hosts_of (before ++ reset ∷ []) v = known_from k hosts_of (before ++ reset ∷ []) v next since in
      let last : IsSoSince (of_one k) hosts_of ((before ++ reset ∷ []) ++ behind) (world_behind v behind) =
      known_behind k hosts_of behind (before ++ reset ∷ []) v (done_front behind back v done.1) a.undisturbed a.unopened known in
      let P : List Occurrence → Type 0 = λ z. IsSoSince (of_one k) hosts_of z (world_behind v behind) in
      let end : IsSoSince (of_one k) hosts_of (before ++ reset ∷ behind) (world_behind v behind) = subst P (append_assoc before (reset ∷ []) behind) last in
      let found : IsFound (world_behind v behind).sites k =
      found_too w.sites (world_behind v behind).sites (so.hosts_are ∙ sym end.hosts_are) k s there in
      let x : Site = found.site in
      let b = end.each k x found.there in
      brought_up k x.link (entries_in (before ++ reset ∷ behind)) (standing_behind k (before ++ reset ∷ behind))
      (are_read k x.link (entries_in (before ++ reset ∷ behind)) (host_number (world_behind v behind) k x end.well.orderly found.there) b.told)
      (b.shown.since (same_number k)) b.shown.wires.to_controller b.shown.wires.to_host a.to_controller a.to_host

  -- what a world does in an event
  done_at : (before : List Occurrence) (o : Occurrence) (after : List Occurrence) → occurrences_in t ≡ before ++ (o ∷ after)
      → (o.entries ≡ (world_step (world_behind first before) o.cause).1) × MayBeAsked (world_behind first before) o.cause
  done_at before o after q = (done_back before (o ∷ after) first (subst (AreDone first) q (history_done header lines t follows playable))).0

  both_up_at : (before : List Occurrence) (reset : Occurrence) (behind back : List Occurrence) (e : End) (window : Option ℕ) (s : Site)
      → occurrences_in t ≡ before ++ (reset ∷ behind ++ back) → site_at (world_behind first before).sites e.link ≡ Some s
      → IsUpheld before reset behind e window → AreBothUp (entries_in (before ++ reset ∷ behind)) e.link
  both_up_at before reset behind back e window s q there a =
      let w : NodeWorld = world_behind first before in
      let k : ℕ = e.link in
      let done = done_at before reset (behind ++ back) q in
      let so : IsSo hosts_of before w = history_so header lines t follows are playable before (reset ∷ behind ++ back) q in
      let ready : ready_at (other_end e) (standing_behind k before) ≡ readiness_of (machine_of s.link (other_end e)) =
      ready_machine s.link (standing_behind k before) ((so.each k s there).shown.ready refl) (other_end e) in
      let may : MayBeAsked w (Resets e window) = subst (λ (c : Happening). MayBeAsked w c) a.cause done.1 in
      let told : list_any (cuts_on k) (world_step w (Resets e window)).1 ≡ false = grind arith in
      let N : Happening → Type 0 = λ c. (x : Site) → site_at (world_step w c).0.sites k ≡ Some x → IsSince x.link in
      let active = ap (λ (r : Readiness). r.active) (sym ready) ∙ a.active in
      let free = ap (λ (r : Readiness). r.waits) (sym ready) ∙ a.free in
      let since : N reset.cause =
      subst N (sym a.cause)
      (reset_since w (entries_in before) (watches of_none before) so.well so.each k window may.0 s there e.at_host may.1 active free told) in
      left_alone before reset behind back k s q there since a.left

  ticked_up_at : (before : List Occurrence) (tick : Occurrence) (behind back : List Occurrence) (h : ℕ) (s : Site)
      → occurrences_in t ≡ before ++ (tick ∷ behind ++ back) → site_at (world_behind first before).sites h ≡ Some s
      → IsUpheldInTick before tick behind h → AreBothUp (entries_in (before ++ tick ∷ behind)) h
  ticked_up_at before tick behind back h s q there a =
      let w : NodeWorld = world_behind first before in
      let done = done_at before tick (behind ++ back) q in
      let so : IsSo hosts_of before w = history_so header lines t follows are playable before (tick ∷ behind ++ back) q in
      let ready : AreReady s.link (standing_behind h before) = (so.each h s there).shown.ready refl in
      let entries : tick.entries ≡ (world_ticks w).1 = done.0 ∙ ap (λ c. (world_step w c).1) a.cause in
      let believed : AreBelieved h tick.cause tick.entries =
      subst (AreBelieved h tick.cause) (sym done.0) (event_believed h w tick.cause) in
      let lossless : list_any (loses_one_on h) (behind_reset_of (end_c h) tick.entries) ≡ false =
      none_lost_behind h tick.cause (end_c h) tick.entries believed a.lossless in
      let N : Happening → Type 0 = λ c. (x : Site) → site_at (world_step w c).0.sites h ≡ Some x → IsSince x.link in
      let active = ap (λ (r : Readiness). r.active) (sym ready.far) ∙ a.active in
      let free = ap (λ (r : Readiness). r.waits) (sym ready.far) ∙ a.free in
      let since : N tick.cause =
      subst N (sym a.cause)
      (λ x found. ticked_since w (entries_in before) (watches of_none before) so.well so.up so.each h s there (grind arith)
      (λ granted. record { granted = granted; active = active; free = free }) x found) in
      left_alone before tick behind back h s q there since a.left

  both_up : (before : List Occurrence) (reset : Occurrence) (behind back : List Occurrence) (e : End) (window : Option ℕ)
      → occurrences_in t ≡ before ++ (reset ∷ behind ++ back) → IsUpheld before reset behind e window
      → AreBothUp (entries_in (before ++ reset ∷ behind)) e.link
  both_up before reset behind back e window q a = by_option (site_at w.sites e.link)
      (λ none. let strange : IsStrange e.link hosts_of = subst (IsStrange e.link) so.hosts_are (none_found w.sites e.link none) in
      let idle = idle_behind e.link before (so.strange e.link strange) in
      absurd (true≢false (sym a.active ∙ (grind arith))))
      (λ s there. both_up_at before reset behind back e window s q there a)
    where
      w : NodeWorld
      w = world_behind first before

      so : IsSo hosts_of before w
      so = history_so header lines t follows are playable before (reset ∷ behind ++ back) q

  ticked_up : (before : List Occurrence) (tick : Occurrence) (behind back : List Occurrence) (h : ℕ)
      → occurrences_in t ≡ before ++ (tick ∷ behind ++ back) → IsUpheldInTick before tick behind h → AreBothUp (entries_in (before ++ tick ∷ behind)) h
  ticked_up before tick behind back h q a = by_option (site_at w.sites h)
      (λ none. let strange : IsStrange h hosts_of = subst (IsStrange h) so.hosts_are (none_found w.sites h none) in
      absurd (true≢false (sym a.active ∙ (idle_behind h before (so.strange h strange)).1)))
      (λ s there. ticked_up_at before tick behind back h s q there a)
    where
      w : NodeWorld
      w = world_behind first before

      so : IsSo hosts_of before w
      so = history_so header lines t follows are playable before (tick ∷ behind ++ back) q

  pub ticks_upheld : TickResetNodes t
  ticks_upheld = ticked_up

  pub resets_upheld : ResetNodes t
  resets_upheld = both_up

-- ## Every history of a world of nodes is legal

module _ (header : Header) (lines : List Line) (t : NodeHistory) (follows : FollowsNodes header lines t) (are : AreHosts header.hosts.items)
    (playable : ArePlayable lines) where
  complete : CompleteNodes t
  complete = record {
    delivered = history_delivered header lines t follows are playable;
    upheld = resets_upheld header lines t follows are playable;
    upheld_in_ticks = ticks_upheld header lines t follows are playable;
    joined = joined header lines t follows are playable;
  }

pub legal : (header : Header) (lines : List Line) (t : NodeHistory) → FollowsNodes header lines t → AreHosts header.hosts.items → ArePlayable lines
    → AllByRecursion IsSentByHost lines → IsFew (node_entries t) → LegalNodes t
legal header lines t follows are playable sent few =
    record {
      in_order = in_order header lines t follows are playable;
      complete = complete header lines t follows are playable;
      allowed = are_allowed header lines t follows are sent few;
      kept = kept_exactly header lines t follows are sent few;
      in_turn = in_turn header lines t follows are.different (numbers header.hosts.items are.all);
    }
