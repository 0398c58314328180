-- Why sessions end, and the ages of a controller's notices, which are read over its steps.
use Rattle.node_laws.proofs.Words.{About, AllByRecursion, Asks, AtEnd, Bool, Commits, Control, Core, Creation, Deed, Desk, Drops, EndedBy, Ends, Entry}
use Rattle.node_laws.proofs.Words.{FetchMessage, Give, GoesToFree, Hold, IsAnswered, IsHost, IsKeptNotice, LastsOverTurns, LinkEnd, LinkInput, List, Message}
use Rattle.node_laws.proofs.Words.{NodeInput, None, Noted, Notice, Option, Orders, Port, Refused, Release, Releases, Report, Reset, SaysOk, Sends, SetAside}
use Rattle.node_laws.proofs.Words.{SetsErrors, Some, Take, Tells, Tick, TimePasses, Turn, Work, [], after_input, after_sessions, after_turn, all_come, all_done}
use Rattle.node_laws.proofs.Words.{all_owed_hold, all_synced_hold, ap, ap₂, arith, asked_at, by_option, by_test, changed_if, comes_to_pass, cond}
use Rattle.node_laws.proofs.Words.{controller_deeds, done, end_of_node, ended_by, entries_for, eqb, eqb-true, false, flat_map, forgets, forgotten}
use Rattle.node_laws.proofs.Words.{forgotten_hold, give_refusal, goes_in, handles, has_come, has_come_so, has_freed, has_notice, has_synced, holds_back}
use Rattle.node_laws.proofs.Words.{hosts_of_ends, input_at, is_late, is_notice, is_over, is_own_reset, is_up, list_any, map, nat_le, not, noted_by_deed}
use Rattle.node_laws.proofs.Words.{noted_of, notice_in, noting, option_and_then, option_map, option_map_or, or-false, or-true, or_parts, owed_in_step, own_side}
use Rattle.node_laws.proofs.Words.{passes, port_at, refl, report, reset_late, reset_refusal, sent_unless, steps, subst, sym, synced, syncs_in, takes_up, told}
use Rattle.node_laws.proofs.Words.{told_at, told_late, told_of_coming, told_of_late, true, true≢false, turn_at, unless_cut, view_of, waiting_at, whole_acked}
use Rattle.node_laws.proofs.Words.{with_desk, with_older, with_port, without_notice, ℕ, ◌&&◌, ◌++◌, ◌+◌, ◌||◌, ◌∙◌, ◌∷◌, ◌≡◌, ◌≤◌}
use Rattle.link_laws.specs.entries.Entries.{End as Side}
use Rattle.node_laws.specs.answers.Unasked.{notifies}
use Rattle.node_laws.proofs.links.Noticing.{at_all, at_host}
use Rattle.node_laws.proofs.notices.Telling.{MayTell, Outcome, answer_other, controller_free, controller_outcome, noticed}
use Rattle.node_laws.proofs.notices.Turning.{AreHostEnds, IsOn, Stands, all_stand, commit_ports, else_same, handled_stand, holds_stand, kept_none, lets_stand}
use Rattle.node_laws.proofs.notices.Turning.{read_more, reads, then}
use Rattle.node_laws.proofs.notices.Near.{AreFar, IsFar, quiet_far}
use Rattle.node_laws.proofs.notices.Steps.{HasCome, TellNoNotices, begun, frees, no_notices_flat, no_notices_may, owed_all, synced_no_notices}
use Rattle.node_laws.proofs.notices.Telling.Outcome.{IsHeard, Leaves}
use Rattle.node_laws.proofs.passes.InSteps.{come_entries, deed_notes, steps_are}
use Rattle.node_laws.proofs.passes.Passing.{takes_entries, through}
use Rattle.node_laws.proofs.readings.Turning.{rest_quiet, told_rest}
use Rattle.node_laws.proofs.steps.StepWalks.{all_do, at_port, forgets_host, holds_of_step_walks as holds, lets, unless, without_host}
use Rattle.swp_base.specs.declared.control_frames.Control.TheVariants as control
use Rattle.trace_model.specs.declared.entry.Entry.TheVariants as entry

-- ## Why sessions end: by a reset of the end itself only as that is asked for

-- it is a reset on demand
abbrev pub asked : Option EndedBy → Bool
asked o = option_map_or is_own_reset o false

-- it is none
abbrev pub otherwise : EndedBy → Bool
otherwise cause = not (is_own_reset cause)

pub frame_asked : (s : LinkEnd) (c : Control) → asked (ended_by s (Take c)) ≡ false
frame_asked s c = grind arith

pub ticked_asked : (s : LinkEnd) → asked (ended_by s Tick) ≡ false
ticked_asked s = grind arith

-- a reset that isn't refused ends the session where the end is up
pub reset_asked : (s : LinkEnd) (window : Option ℕ) → reset_refusal s ≡ None → asked (ended_by s (Reset window)) ≡ is_up s.shdlc.phase
reset_asked s window free = grind arith

-- ## As a controller handles messages the ages of its notices are the ticks since they were sent

module _ (x : ℕ) where
  -- a notice to the host x is sent among these
  abbrev pub notified : List Entry → Bool
  notified es = list_any (notifies x) es

  pub more_notified : (a b : List Entry) → notified (a ++ b) ≡ (notified a || notified b)
  more_notified [] b = refl
  more_notified (e ∷ a) b = ap (λ z. notifies x e || z) (more_notified a b) ∙ by_test (notifies x e) (λ q. rw q refl) (λ q. rw q refl)

  pub still_notified : (a b : List Entry) → notified b ≡ false → notified (a ++ b) ≡ notified a
  still_notified a b q = more_notified a b ∙ (ap (λ z. notified a || z) q ∙ or-false (notified a))

  one_far : (e : Entry) → IsFar e → notifies x e ≡ false
  one_far e a = grind arith

  pub far_notifies : (es : List Entry) → AreFar es → notified es ≡ false
  far_notifies [] a = refl
  far_notifies (e ∷ es) a = ap₂ (λ b c. b || c) (one_far e a.0) (far_notifies es a.1)

  abbrev nothing : Option (List ℕ)
  nothing = None

  none_reads : (es : List Entry) → notified es ≡ false → reads x es None ≡ None
  none_reads [] q = refl
  none_reads (e ∷ es) q =
      let parts = or_parts (notifies x e) (notified es) q in ap (reads x es) (grind arith) ∙ none_reads es parts.1

  -- ### What deeds note

  sent_else : (h n : ℕ) (m : Message) (side : Side) (o : Option Refused) → eqb h x ≡ false → notified (entries_for h (sent_unless o side n m)) ≡ false
  sent_else h n m side o q = grind arith

  gives_else : (core : Core) (m : Message) (ports : List Port) (to : ℕ) → eqb to x ≡ false
      → notified (option_map_or (noted_of core (Give m)) (port_at ports to) []) ≡ false
  gives_else core m ports to q = by_option (port_at ports to)
      (λ z. rw z refl)
      (λ p z. rw z (sent_else p.desk.host p.session m (own_side core) (give_refusal p.side m) (ap (λ n. eqb n x) (at_host ports to p z) ∙ q)))

  -- it notifies another host, or none
  abbrev IsElse : Deed → Type 0
  IsElse (Sends to m) = (eqb m.0 1 && is_notice m.1) ≡ false
  IsElse (Asks to message c) = eqb to x ≡ false
  IsElse (Tells to message) = eqb to x ≡ false
  IsElse (Orders message) = ⊥
  IsElse (Ends e) = ⊥
  IsElse _ = Unit {0}

  else_notes : (h : ℕ) (d : Deed) (w : Work) → IsElse d → notified (noted_by_deed h d w) ≡ false
  else_notes h (Commits c) w a = by_test (goes_in c w) (λ q. rw q refl) (λ q. rw q refl)
  else_notes h (Sends to m) w a = grind arith
  else_notes h (Asks to message c) w a = gives_else w.core (1, message) (turn_at c.asker SetAside w).ports to a
  else_notes h (Tells to message) w a = gives_else w.core (1, message) w.ports to a
  else_notes h (Orders message) w a = absurd a
  else_notes h (Ends e) w a = absurd a
  else_notes h _ w a = refl

  -- ### What they keep

  changed : {X : Type 0} (f : Port → X) (b : Bool) (g : Port → Port) (p : Port) → f (g p) ≡ f p → f (changed_if b g p) ≡ f p
  changed f b g p q = grind arith

  noticed_map : (f : Port → Port) → ((q : Port) → (f q).desk.host ≡ q.desk.host) → ((q : Port) → (f q).desk.notice ≡ q.desk.notice)
      → (ports : List Port) → noticed (map f ports) x ≡ noticed ports x
  noticed_map f host notice ports = ap (λ o. option_and_then (λ (p : Port). p.desk.notice) o) (at_all ports x f host) ∙ by_option (port_at ports x)
      (λ q. rw q refl)
      (λ p q. rw q (notice p))

  noticed_with : (k : ℕ) (g : Port → Port) → ((q : Port) → (g q).desk.host ≡ q.desk.host) → ((q : Port) → (g q).desk.notice ≡ q.desk.notice)
      → (ports : List Port) → noticed (with_port k g ports) x ≡ noticed ports x
  noticed_with k g host notice ports =
      noticed_map (λ p. changed_if (eqb p.desk.host k) g p) (λ q. changed (λ (p : Port). p.desk.host) (eqb q.desk.host k) g q (host q))
      (λ q. changed (λ (p : Port). p.desk.notice) (eqb q.desk.host k) g q (notice q)) ports

  turn_noticed : (k : ℕ) (t : Turn) (w : Work) → noticed (turn_at k t w).ports x ≡ noticed w.ports x
  turn_noticed k t w = noticed_with k (after_turn t) (λ q. refl) (λ q. refl) w.ports

  desk_noticed : (k : ℕ) (f : Desk → Desk) (w : Work) → ((d : Desk) → (f d).host ≡ d.host) → ((d : Desk) → (f d).notice ≡ d.notice)
      → noticed (with_desk k f w).ports x ≡ noticed w.ports x
  desk_noticed k f w host notice = noticed_with k (λ (p : Port). record p { desk = f p.desk }) (λ q. host q.desk) (λ q. notice q.desk) w.ports

  -- what holds of every notice holds where there is none, or another one of which it holds
  module _ (P : Notice → Type 0) where
    abbrev pub Each : Work → Type 0
    Each w = (n : Notice) → noticed w.ports x ≡ Some n → P n

    each_same : (w v : Work) → noticed v.ports x ≡ noticed w.ports x → Each w → Each v
    each_same w v same a n q = a n (sym same ∙ q)

    each_set : (k : ℕ) (o : Option Notice) (w : Work) → ((n : Notice) → o ≡ Some n → P n) → Each w → Each (with_desk k (λ d. record d { notice = o }) w)
    each_set k o w new a n q = by_option (port_at w.ports x)
        (λ z. let none : None ≡ Some n = rw z at there in absurd (cc none))
        (λ p z. by (eqb p.desk.host k) p z (rw z at there)) where
          g : Port → Port
          g p = record p { desk = record p.desk { notice = o } }

          is : port_at (with_port k g w.ports) x ≡ option_map (λ (p : Port). changed_if (eqb p.desk.host k) g p) (port_at w.ports x)
          is = at_all w.ports x (λ p. changed_if (eqb p.desk.host k) g p) (λ q. changed (λ (p : Port). p.desk.host) (eqb q.desk.host k) g q refl)

          there : option_and_then (λ (p : Port). p.desk.notice) (option_map (λ (p : Port). changed_if (eqb p.desk.host k) g p) (port_at w.ports x)) ≡ Some n
          there = ap (λ z. option_and_then (λ (p : Port). p.desk.notice) z) (sym is) ∙ q

          by : (b : Bool) (p : Port) → port_at w.ports x ≡ Some p → (changed_if b g p).desk.notice ≡ Some n → P n
          by b p z y = grind arith

    notified_each : (to : ℕ) (about : About) (message : List ℕ) (w : Work)
        → ((n : Notice) → n.age ≡ 0 → P n) → Each w → Each (Rattle.node_machine.specs.Carrying.notified to about message w)
    notified_each to about message w new a =
        each_set to (Some (record { about = about; age = 0 })) (turn_at to (Give (1, message)) w)
        (λ n q. let is : record { about = about; age = 0 } ≡ n = cc in new n (sym (ap (λ (m : Notice). m.age) is)))
        (each_same w (turn_at to (Give (1, message)) w) (turn_noticed to (Give (1, message)) w) a)

    -- over all deeds, where it holds of new ones
    each_done : ((n : Notice) → n.age ≡ 0 → P n) → (h : ℕ) (d : Deed) (w : Work) → Each w → Each (done h d w)
    each_done new h (Commits c) w a = each_same w (done h (Commits c) w) (ap (λ ps. noticed ps x) (commit_ports x [] c w)) a
    each_done new h (Sends to m) w a = each_same w (done h (Sends to m) w) (turn_noticed to (Give m) w) a
    each_done new h (Asks to message c) w a =
        notified_each to (Rattle.node_machine.specs.Parts.About.Waits c) message
        (Rattle.node_machine.specs.Carrying.noting (entry.Ask to message ∷ []) (turn_at c.asker SetAside w)) new
        (each_same w (turn_at c.asker SetAside w) (turn_noticed c.asker SetAside w) a)
    each_done new h (Releases asker) w a = each_same w (done h (Releases asker) w) (turn_noticed asker Release w) a
    each_done new h (Tells to message) w a = notified_each to Rattle.node_machine.specs.Parts.About.Removed message w new a
    each_done new h IsAnswered w a = each_set h None w (λ n q. absurd (cc q)) a
    each_done new h (SetsErrors errors) w a =
        each_same w (done h (SetsErrors errors) w) (desk_noticed h (λ d. record d { errors = errors }) w (λ d. refl) (λ d. refl)) a
    each_done new h (Orders message) w a =
        each_same w (done h (Orders message) w) (turn_noticed h (Give (1, message))
        (record w { core = record w.core { command = Some message } })) a
    each_done new h _ w a = a

    else_same_at : (to : ℕ) (about : About) (message : List ℕ) (w : Work) → eqb to x ≡ false
        → noticed (Rattle.node_machine.specs.Carrying.notified to about message w).ports x ≡ noticed w.ports x
    else_same_at to about message w off =
        ap (λ z. option_and_then (λ (p : Port). p.desk.notice) z)
        (else_same to x (λ p. record p { desk = record p.desk { notice = Some (record { about = about; age = 0 }) } })
        (turn_at to (Give (1, message)) w).ports (λ q. refl) off) ∙ turn_noticed to (Give (1, message)) w

    -- over those that notify others
    else_done : (h : ℕ) (d : Deed) (w : Work) → IsElse d → Each w → Each (done h d w)
    else_done h (Commits c) w may a = each_same w (done h (Commits c) w) (ap (λ ps. noticed ps x) (commit_ports x [] c w)) a
    else_done h (Sends to m) w may a = each_same w (done h (Sends to m) w) (turn_noticed to (Give m) w) a
    else_done h (Asks to message c) w may a =
        each_same w (done h (Asks to message c) w)
        (else_same_at to (Rattle.node_machine.specs.Parts.About.Waits c) message
        (Rattle.node_machine.specs.Carrying.noting (entry.Ask to message ∷ []) (turn_at c.asker SetAside w)) may ∙ turn_noticed c.asker SetAside w) a
    else_done h (Releases asker) w may a = each_same w (done h (Releases asker) w) (turn_noticed asker Release w) a
    else_done h (Tells to message) w may a =
        each_same w (done h (Tells to message) w) (else_same_at to Rattle.node_machine.specs.Parts.About.Removed message w may) a
    else_done h IsAnswered w may a = each_set h None w (λ n q. absurd (cc q)) a
    else_done h (SetsErrors errors) w may a =
        each_same w (done h (SetsErrors errors) w) (desk_noticed h (λ d. record d { errors = errors }) w (λ d. refl) (λ d. refl)) a
    else_done h (Orders message) w may a = absurd may
    else_done h (Ends e) w may a = absurd may
    else_done h _ w may a = a

  -- ### A message

  -- the age that is read: none since a notice was sent, and this before
  abbrev pub AgeIs : ℕ → Bool → Notice → Type 0
  AgeIs base sent n = (n.age ≡ cond sent 0 base) × (n.age ≤ 99)

  abbrev pub AgesIn : ℕ → Work → Type 0
  AgesIn base w = Each (AgeIs base (notified w.entries)) w

  free_else : (F : List ℕ → Type 0) (ports : List Port) (deeds : List Deed) → has_notice ports x ≡ true → MayTell x F deeds
      → AllByRecursion (GoesToFree ports) deeds → AllByRecursion IsElse deeds
  free_else F ports [] has may free = tt
  free_else F ports (Commits c ∷ deeds) has may free = (tt, free_else F ports deeds has may.1 free.1)
  free_else F ports (Sends to m ∷ deeds) has may free = (may.0, free_else (λ n. (eqb to x ≡ false) × F n) ports deeds has may.1 free.1)
  free_else F ports (SaysOk ∷ deeds) has may free = (tt, free_else F ports deeds has may free.1)
  free_else F ports (Asks to message c ∷ deeds) has may free = (
    by_test (eqb to x)
        (λ q. absurd (true≢false (sym has ∙ (ap (has_notice ports) (sym (eqb-true to x q)) ∙ free.0))))
        (λ q. q),
    free_else (λ n. ⊥) ports deeds has may.2 free.1,
  )
  free_else F ports (Releases asker ∷ deeds) has may free = (tt, free_else (λ n. ⊥) ports deeds has may free.1)
  free_else F ports (Tells to message ∷ deeds) has may free = (
    by_test (eqb to x) (λ q. absurd (true≢false (sym has ∙ (ap (has_notice ports) (sym (eqb-true to x q)) ∙ free.0)))) (λ q. q),
    free_else
        (λ n. (eqb to x ≡ false) × F n) ports deeds has may.2 free.1,
  )
  free_else F ports (Drops pid ∷ deeds) has may free = (tt, free_else F ports deeds has may free.1)
  free_else F ports (SetsErrors errors ∷ deeds) has may free = (tt, free_else F ports deeds has may free.1)
  free_else F ports (_ ∷ deeds) has may free = absurd may

  -- deeds that notify others leave the ages that are read
  else_ages : (base : ℕ) (h : ℕ) (deeds : List Deed) (w : Work) → AllByRecursion IsElse deeds → AgesIn base w → AgesIn base (all_done h deeds w)
  else_ages base h deeds w may a =
      all_do (AgesIn base) IsElse one h deeds w may a where
        one : (h : ℕ) (d : Deed) (w : Work) → IsElse d → AgesIn base w → AgesIn base (done h d w)
        one h d w may a =
            let same : notified (done h d w).entries ≡ notified w.entries =
            ap notified (deed_notes h d w) ∙ still_notified w.entries (noted_by_deed h d w) (else_notes h d w may) in
            subst (λ b. Each (AgeIs base b) (done h d w)) (sym same) (else_done (AgeIs base (notified w.entries)) h d w may a)

  module _ (t : List Entry) (base k : ℕ) (m : Message) (w : Work) (host : IsHost k) (a : IsOn x t w) (old : AgesIn base w) where
    abbrev deeds : List Deed
    deeds = controller_deeds (view_of w.core w.ports) k m

    abbrev after : Work
    after = handles k m deeds w

    abbrev begun_of_ages : Work
    begun_of_ages = takes_up k m w

    begun_noticed : noticed begun_of_ages.ports x ≡ noticed w.ports x
    begun_noticed =
        desk_noticed k (λ d. record d { holds = false }) (turn_at k FetchMessage (Rattle.node_machine.specs.Carrying.noting
        (entry.Turn (Rattle.node_machine.specs.Carrying.end_of_node w.core k) m.0 m.1 ∷ []) w)) (λ d. refl) (λ d. refl)
        ∙ turn_noticed k FetchMessage (Rattle.node_machine.specs.Carrying.noting
        (entry.Turn (Rattle.node_machine.specs.Carrying.end_of_node w.core k) m.0 m.1 ∷ []) w)

    begun_notified : notified begun_of_ages.entries ≡ notified w.entries
    begun_notified = ap notified (takes_entries k m w) ∙ still_notified w.entries _ refl

    begun_ages : AgesIn base begun_of_ages
    begun_ages =
        subst (λ b. Each (AgeIs base b) begun_of_ages) (sym begun_notified) (each_same (AgeIs base (notified w.entries)) w begun_of_ages begun_noticed old)

    -- a notice that was there stays, or is answered
    some_ages : (n : Notice) → noticed w.ports x ≡ Some n → AgesIn base after
    some_ages n q = else_ages base k deeds begun_of_ages
        (by deeds free (controller_outcome x k w.core w.ports a.sorted a.two host.0 host.1 a.right a.up m)) begun_ages where
          free : AllByRecursion (GoesToFree w.ports) deeds
          free = controller_free w.core w.ports k m

          by : (ds : List Deed) → AllByRecursion (GoesToFree w.ports) ds → Outcome x k w.ports m ds → AllByRecursion IsElse ds
          by ds free (Leaves none may) = free_else _ w.ports ds (grind arith) may free
          by ds free (IsHeard rest e is may) =
              let f : AllByRecursion (GoesToFree w.ports) (IsAnswered ∷ rest) = subst (AllByRecursion (GoesToFree w.ports)) e free in
              subst (AllByRecursion IsElse) (sym e) (tt, free_else _ w.ports rest (grind arith) may f.1)

    -- where there was none, one that is there is new
    none_ages : IsOn x t after → noticed w.ports x ≡ None → AgesIn base after
    none_ages b q n there = (zero ∙ sym (ap (λ c. cond c 0 base) sent), subst (λ i. i ≤ 99) (sym zero) (omega arith)) where
      zero : n.age ≡ 0
      zero =
          all_do (Each (λ n. n.age ≡ 0)) (λ d. Unit {0}) (λ h d v may z. each_done (λ n. n.age ≡ 0) (λ n z. z) h d v z) k deeds begun_of_ages
          (Rattle.node_machine.proofs.Walks.anyone (λ d. Unit {0}) (λ d. tt) deeds)
          (λ n z. let none : None ≡ Some n = sym (begun_noticed ∙ q) ∙ z in absurd (cc none)) n there

      more : List Entry
      more = entry.Turn (Rattle.node_machine.specs.Carrying.end_of_node w.core k) m.0 m.1 ∷ Rattle.node_laws.specs.passes.Noting.noted_by_deeds k deeds
          begun_of_ages

      entries : after.entries ≡ w.entries ++ more
      entries = Rattle.node_laws.proofs.passes.Passing.handles_entries k m deeds w

      sent : notified after.entries ≡ true
      sent = ap notified entries ∙ (more_notified w.entries more ∙ (ap (λ c. notified w.entries || c) (by_test (notified more)
          (λ z. z)
          (λ z. let read : notice_in (t ++ after.entries) x ≡ None =
          ap (λ es. notice_in (t ++ es) x) entries ∙ read_more x t w.entries more None None
          (kept_none (notice_in (t ++ w.entries) x) (noticed w.ports x) q a.kept) (none_reads more z) in
          absurd (subst (λ o. IsKeptNotice o (Some n)) read (subst (IsKeptNotice (notice_in (t ++ after.entries) x)) there b.kept)))) ∙ or-true
          (notified w.entries)))

    handled_ages : IsOn x t after → AgesIn base after
    handled_ages b = by_option (noticed w.ports x) (λ q. none_ages b q) (λ n q. some_ages n q)

-- ## Over a step of a controller the ages of its notices are read

-- ### A pass

module _ (x : ℕ) (t : List Entry) (base : ℕ) where
  -- more is noted, but no notice to x is sent, and that to x stays
  ages_same : (w v : Work) (es : List Entry) → noticed v.ports x ≡ noticed w.ports x → v.entries ≡ w.entries ++ es → notified x es ≡ false
      → AgesIn x base w → AgesIn x base v
  ages_same w v es same entries none a =
      subst (λ b. Each x (AgeIs x base b) v) (sym (ap (notified x) entries ∙ still_notified x w.entries es none))
      (each_same x (AgeIs x base (notified x w.entries)) w v same a)

  abbrev G : Work → Type 0
  G v = IsOn x t v × AgesIn x base v

  held_ages : (h : ℕ) (flag : Bool) (w : Work) → AgesIn x base w → AgesIn x base (turn_at h (Hold flag) w)
  held_ages h flag w a =
      ages_same w (turn_at h (Hold flag) w) (option_map_or (noted_of w.core (Hold flag)) (port_at w.ports h) []) (turn_noticed x h (Hold flag) w) refl
      (by_option (port_at w.ports h) (λ q. rw q refl) (λ p q. rw q refl)) a

  holds_ages : (h : ℕ) (short : ℕ × ℕ) (w : Work) → AgesIn x base w → AgesIn x base (holds_back h short w)
  holds_ages h short w a =
      holds (AgesIn x base) held_ages
      (λ h flag w a. each_same x (AgeIs x base (notified x w.entries)) w (with_desk h (λ d. record d { holds = flag }) w)
      (desk_noticed x h (λ d. record d { holds = flag }) w (λ d. refl) (λ d. refl)) a)
      (λ h need spare w a. ages_same w (noting (entry.Held (end_of_node w.core h) need spare ∷ []) w) (entry.Held (end_of_node w.core h) need spare ∷ [])
      refl refl refl a) h short w a

  waiting_host : (ports : List Port) (h : ℕ) (m : Message) (messages : List Message) → AreHostEnds ports → waiting_at ports h ≡ m ∷ messages → IsHost h
  waiting_host ports h m messages hosts q = by_option (port_at ports h)
      (λ z. let none : [] ≡ m ∷ messages = rw z at q in absurd (cc none))
      (λ p z. subst IsHost (at_host ports h p z) (at_port (λ (u : Port). IsHost u.desk.host) ports h p hosts z))

  on_of : (v : Work) → Stands x t v → v.cut ≡ false → IsOn x t v
  on_of v a on = grind arith

  lasts : LastsOverTurns G
  lasts = record {
    handled = λ w h m messages a on waits room still.
        let host : IsHost h = waiting_host w.ports h m messages a.0.hosts waits in
        let deeds : List Deed = controller_deeds (view_of w.core w.ports) h m in
        subst (λ ds. (handles h m ds w).cut ≡ false → G (handles h m ds w)) (sym (grind arith))
        (λ on.
        let b : IsOn x t (handles h m deeds w) = on_of (handles h m deeds w) (handled_stand x t h m w host a.0 (grind arith)) on in
        (b, handled_ages x t base h m w host a.0 a.1 b)) still;
    held = λ w h m messages short a on waits lacks. (holds_stand x t h short w a.0, holds_ages h short w a.1);
    let_go = λ w h a on waits. (lets_stand x t h w a.0, lets (AgesIn x base) held_ages h w a.1);
  }

  pass_ages : (w : Work) → w.cut ≡ false → IsOn x t w → AgesIn x base w → (passes w).cut ≡ false → AgesIn x base (passes w)
  pass_ages w on a ages still = ((through G lasts (hosts_of_ends w.ports) w (a, ages) on).keeps still).1

-- ### Before a pass

module _ (x : ℕ) where
  told_mute : (h : ℕ) (who : Side) (n acked : ℕ) (r : Report) → notified x (entries_for h (told who n r acked)) ≡ false
  told_mute h who n acked r = by_option r.ended (λ q. rw q quiet) (λ cause q. rw q quiet) where
    rest : List Noted
    rest = told_rest who n acked r

    quiet : notified x (entries_for h rest) ≡ false
    quiet = far_notifies x (entries_for h rest) (quiet_far h rest (rest_quiet who n acked r))

  at_mute : (core : Core) (p : Port) (o : Option LinkInput) → notified x (told_at core p o) ≡ false
  at_mute core p None = refl
  at_mute core p (Some i) = told_mute p.desk.host (own_side core) p.session (whole_acked (after_input p.side i)) (report p.side i)

  late_mute : (core : Core) (p : Port) → notified x (told_late core p) ≡ false
  late_mute core p = by_test (is_late p) (λ q. rw q (at_mute core p (Some (Reset None)))) (λ q. rw q refl)

  flat_mute : (f : Port → List Entry) → ((p : Port) → notified x (f p) ≡ false) → (ports : List Port) → notified x (flat_map f ports) ≡ false
  flat_mute f one [] = refl
  flat_mute f one (p ∷ ports) = more_notified x (f p) (flat_map f ports) ∙ ap₂ (λ a b. a || b) (one p) (flat_mute f one ports)

  coming_mute : (input : NodeInput) (w : Work) → notified x (told_of_coming input w) ≡ false
  coming_mute input w =
      more_notified x (flat_map (λ p. told_at w.core p (input_at input p)) w.ports) (told_of_late input (all_come input w))
      ∙ ap₂ (λ a b. a || b) (flat_mute (λ p. told_at w.core p (input_at input p)) (λ p. at_mute w.core p (input_at input p)) w.ports) (late input) where
        late : (input : NodeInput) → notified x (told_of_late input (all_come input w)) ≡ false
        late (AtEnd h i) = refl
        late TimePasses = flat_mute (told_late w.core) (late_mute w.core) (map with_older (all_come TimePasses w).ports)

  -- a notice that stays at an end
  record Stayed (q : Port) (n : Notice) : Type 0 where
    was : Notice
    here : q.desk.notice ≡ Some was
    age : n.age ≡ was.age
    off : is_over q ≡ false

  stayed : (ports : List Port) (q : Port) (n : Notice) → (without_notice (forgets ports q)).desk.notice ≡ Some n → Stayed q n
  stayed ports q n is = grind arith

  -- how old it was, and is as the turns begin
  abbrev pub grown : NodeInput → ℕ → ℕ
  grown (AtEnd h i) age = age
  grown TimePasses age = age + 1

  -- an end as something has come to it, and late notices have reset its link
  abbrev came : NodeInput → Port → Port
  came (AtEnd h i) p = has_come p (input_at (AtEnd h i) p)
  came TimePasses p = reset_late (with_older (has_come p (Some Tick)))

  come_host : (p : Port) (o : Option LinkInput) → (has_come p o).desk ≡ p.desk
  come_host p o = grind arith

  came_is : (input : NodeInput) (w : Work) → port_at (has_come_so input w).ports x ≡ option_map (came input) (port_at w.ports x)
  came_is (AtEnd h i) w = at_all w.ports x (λ p. has_come p (input_at (AtEnd h i) p)) (λ q. grind arith)
  came_is TimePasses w =
      at_all (map with_older (map (λ p. has_come p (Some Tick)) w.ports)) x reset_late (λ q. grind arith)
      ∙ (ap (option_map reset_late) (at_all (map (λ p. has_come p (Some Tick)) w.ports) x with_older (λ q. refl)
      ∙ ap (option_map with_older) (at_all w.ports x (λ p. has_come p (Some Tick)) (λ q. refl))) ∙ by_option (port_at w.ports x)
      (λ q. rw q refl)
      (λ p q. rw q refl))

  young : (n : ℕ) → nat_le 100 n ≡ false → n ≤ 99
  young n q = grind (arith, q)

  -- a notice is as old as is read while it stays
  came_age : (input : NodeInput) (p : Port) (age0 : ℕ) (n : Notice) → ((m : Notice) → p.desk.notice ≡ Some m → (m.age ≡ age0) × (m.age ≤ 99))
      → Stayed (came input p) n → (n.age ≡ grown input age0) × (n.age ≤ 99)
  came_age input p age0 n old s = grind arith

  -- as a step begins to do what it owes
  module _ (input : NodeInput) (w : Work) (age0 : ℕ) (quiet : notified x w.entries ≡ false) (old : Each x (λ n. (n.age ≡ age0) × (n.age ≤ 99)) w) where
    abbrev v : Work
    v = has_come_so input w

    abbrev u : Work
    u = record v { core = after_sessions v.core v.ports; ports = map without_notice (map (forgets v.ports) v.ports) }

    is : noticed u.ports x
        ≡ option_and_then (λ (p : Port). p.desk.notice) (option_map without_notice (option_map (forgets v.ports) (option_map (came input) (port_at w.ports x))))
    is =
        ap (λ o. option_and_then (λ (p : Port). p.desk.notice) o)
        (at_all (map (forgets v.ports) v.ports) x without_notice without_host
        ∙ ap (option_map without_notice) (at_all v.ports x (forgets v.ports) (forgets_host v.ports) ∙ ap (option_map (forgets v.ports)) (came_is input w)))

    ages : (n : Notice) → noticed u.ports x ≡ Some n → (n.age ≡ grown input age0) × (n.age ≤ 99)
    ages n q = go (port_at w.ports x) refl (sym is ∙ q) where
      go : (o : Option Port) → port_at w.ports x ≡ o
          → option_and_then (λ (p : Port). p.desk.notice) (option_map without_notice (option_map (forgets v.ports) (option_map (came input) o))) ≡ Some n
          → (n.age ≡ grown input age0) × (n.age ≤ 99)
      go None z y = absurd (cc y)
      go (Some p) z y =
          came_age input p age0 n (λ m e. old m (ap (λ o. option_and_then (λ (p : Port). p.desk.notice) o) z ∙ e)) (stayed v.ports (came input p) n y)

    none : notified x u.entries ≡ false
    none = ap (notified x) (come_entries input w) ∙ (still_notified x w.entries (told_of_coming input w) (coming_mute input w) ∙ quiet)

    begins_ages : AgesIn x (grown input age0) u
    begins_ages = λ n q. let a = ages n q in (a.0 ∙ sym (ap (λ b. cond b 0 (grown input age0)) none), a.1)

    before_ages : AgesIn x (grown input age0) (comes_to_pass input w)
    before_ages =
        unless (AgesIn x (grown input age0)) (all_done 0 (owed_in_step input w)) (has_synced input w)
        (λ k a. else_ages x (grown input age0) 0 (owed_in_step input w) k
        (all_owed_hold (IsElse x) (λ asker. tt) (λ to r. answer_other r []) (map (forgets v.ports) v.ports)) a)
        (else_ages x (grown input age0) 0 (syncs_in input w) (has_freed input w) (all_synced_hold (IsElse x) (λ host id. tt) w.core input w.ports)
        (else_ages x (grown input age0) 0 (forgotten v.ports) u (forgotten_hold (IsElse x) (λ asker. tt) v.ports) begins_ages))

  -- ### A step

  module _ (t : List Entry) (input : NodeInput) (w : Work) (a : IsOn x t w) (c : HasCome x t w a (has_come_so input w)) (age0 : ℕ)
      (quiet : notified x w.entries ≡ false) (old : Each x (λ n. (n.age ≡ age0) × (n.age ≤ 99)) w) where
    syncs_none : TellNoNotices (syncs_in input w)
    syncs_none =
        no_notices_flat (synced w.core input) (λ (p : Port). IsHost p.desk.host) (λ p host. synced_no_notices w.core input p host) w.ports a.hosts

    stands : Stands x t (comes_to_pass input w)
    stands =
        let come : Work = has_come_so input w in
        then x t (all_done 0 (owed_in_step input w)) (has_synced input w)
        (all_stand x t 0 (λ n. ⊥) (syncs_in input w) (has_freed input w) (λ n f. absurd f) (no_notices_may x (λ n. ⊥) (syncs_in input w) syncs_none)
        (frees x t w a (Rattle.std.specs.List.filter (λ (c : Creation). Rattle.node_machine.specs.Node.is_over_at come.ports c.asker)
        (Rattle.std.specs.List.filter_map asked_at come.ports)) (u input w age0 quiet old) (begun x t w a come c)))
        (λ d. all_stand x t 0 (λ n. ⊥) (owed_in_step input w) (has_synced input w) (λ n f. absurd f)
        (no_notices_may x (λ n. ⊥) (owed_in_step input w) (owed_all x t w a (map (forgets come.ports) come.ports))) d)

    -- behind a step in which it keeps its power
    pub step_ages : (steps input w).cut ≡ false → AgesIn x (grown input age0) (steps input w)
    step_ages on = subst (AgesIn x (grown input age0)) (sym (steps_are input w)) (by_test (comes_to_pass input w).cut
        (λ z. let is : unless_cut passes k ≡ k = rw z refl in subst (AgesIn x (grown input age0)) (sym is) (before_ages input w age0 quiet old))
        (λ z. let is : unless_cut passes k ≡ passes k = rw z refl in
        subst (AgesIn x (grown input age0)) (sym is)
        (pass_ages x t (grown input age0) k z (on_of x t (grown input age0) k stands z) (before_ages input w age0 quiet old)
        (ap (λ (y : Work). y.cut) (sym is) ∙ (ap (λ (z : Work). z.cut) (sym (steps_are input w)) ∙ on))))) where
          k : Work
          k = comes_to_pass input w
