-- A controller does the deeds of a message and has its turns: its unanswered notice to a host stays the one that is read.
use Rattle.node_laws.proofs.Words.{About, AllByRecursion, AllReach, AreTables, AreTables-apply, Asks, Bool, Cause, Command, Commits, Controller, Core, Deed}
use Rattle.node_laws.proofs.Words.{Desk, Down, Drops, Entry, FetchMessage, Give, Hold, IsAbout, IsAnswered, IsCommand, IsHost, IsKeptNotice, IsRightAbout}
use Rattle.node_laws.proofs.Words.{IsRightNotice, JoinTwo, LinkInput, List, Message, None, Noted, Notice, Option, Port, Refused, Release, Releases, Removed}
use Rattle.node_laws.proofs.Words.{SaysOk, Sends, Sent, SetAside, SetsErrors, Some, Tells, Turn, Waits, Work, Write, [], after_input, after_turn, all_done}
use Rattle.node_laws.proofs.Words.{all_map, and-false, ap, append_assoc, arith, awaited_after, body_of, by_option, by_test, cases_Bool, changed_if, commit}
use Rattle.node_laws.proofs.Words.{commit_writes, cond, controller_deeds, done, end_c, end_of, end_of_node, ended_by, entries_for, eq-eqb, eqb, eqb-false}
use Rattle.node_laws.proofs.Words.{eqb-true, fails_within, false, fold, fold-append, give_refusal, goes_through_ends, handles, has_link, have_turns, holds_back}
use Rattle.node_laws.proofs.Words.{inl, inr, is_held, is_notice, is_some, keeps, lack, length, lets_go, map, nat_lt, ne_eqb, need, needs, noted_of, notice_in}
use Rattle.node_laws.proofs.Words.{notified, noting, option_and_then, option_map, option_map_or, option_to_list, own_side, passes, port_at, refl, report}
use Rattle.node_laws.proofs.Words.{same_end, sent_unless, spare, subst, sym, told_at, true, turn_at, unless_cut, view_of, whole_acked, with_desk, with_port, ℕ}
use Rattle.node_laws.proofs.Words.{◌&&◌, ◌++◌, ◌∙◌, ◌∷◌, ◌≡◌, ◌⊎◌}
use Rattle.link_laws.specs.entries.Entries.{End as Side}
use Rattle.tables_laws.proofs.tables.TwoHosts.{JoinTwo-after}
use Rattle.node_laws.proofs.links.Noticing.{UpAt, at_all, at_host, controller_reach, turn-phase}
use Rattle.node_laws.proofs.notices.Telling.{AreRight, IsShort, MayTell, Outcome, answers, controller_outcome, noticed}
use Rattle.node_laws.proofs.notices.Telling.Outcome.{IsHeard, Leaves}
use Rattle.node_laws.proofs.readings.Turning.{IsQuiet, lack_parts, rest_quiet, told_rest}
use Rattle.node_laws.proofs.steps.StepWalks.{changed_host}
use Rattle.trace_model.specs.declared.entry.Entry.TheVariants as entry

-- ## What is read of the unanswered notice to a host

module _ (x : ℕ) where
  -- what is read after these entries, where this was read before
  abbrev pub reads : List Entry → Option (List ℕ) → Option (List ℕ)
  reads es waits = fold (awaited_after is_notice (end_c x) 0) waits es

  pub notice_more : (t es : List Entry) → notice_in (t ++ es) x ≡ reads es (notice_in t x)
  notice_more t es = fold-append (awaited_after is_notice (end_c x) 0) None t es

  pub reads_append : (xs ys : List Entry) (c : Option (List ℕ)) → reads (xs ++ ys) c ≡ reads ys (reads xs c)
  reads_append xs ys c = fold-append (awaited_after is_notice (end_c x) 0) c xs ys

  -- what is read behind more entries
  pub read_more : (before now es : List Entry) (c d : Option (List ℕ)) → notice_in (before ++ now) x ≡ c → reads es c ≡ d
      → notice_in (before ++ (now ++ es)) x ≡ d
  read_more before now es c d was more = let h0 = append_assoc before now es in let h1 = notice_more (before ++ now) es in grind arith

  -- ### Notes

  quiet_reads : (k : ℕ) (notes : List Noted) (c : Option (List ℕ)) → AllByRecursion IsQuiet notes → reads (entries_for k notes) c ≡ c
  quiet_reads k [] c all = refl
  quiet_reads k (Down who cause ∷ notes) c all = absurd all.0
  quiet_reads k (Sent who n m ∷ notes) c all = absurd all.0
  quiet_reads k (_ ∷ notes) c all = quiet_reads k notes c all.1

  -- with the session of its link a notice is read no more
  pub told_reads : (core : Core) (p : Port) (i : LinkInput) (c : Option (List ℕ)) → own_side core ≡ Controller
      → reads (told_at core p (Some i)) c ≡ cond (eqb p.desk.host x && is_some (ended_by p.side i)) None c
  told_reads core p i c side = rw side (go (ended_by p.side i))
    where
      rest : List Noted
      rest = told_rest Controller p.session (whole_acked (after_input p.side i)) (report p.side i)

      quiet : AllByRecursion IsQuiet rest
      quiet = rest_quiet Controller p.session (whole_acked (after_input p.side i)) (report p.side i)

      go : (o : Option Cause) → reads (entries_for p.desk.host (map (Down Controller) (option_to_list o) ++ rest)) c
          ≡ cond (eqb p.desk.host x && is_some o) None c
      go None = quiet_reads p.desk.host rest c quiet ∙ ap (λ b. cond b None c) (sym (and-false (eqb p.desk.host x)))
      go (Some cause) = quiet_reads p.desk.host rest (cond (same_end (end_of p.desk.host Controller) (end_c x)) None c) quiet

  sent_reads : (k : ℕ) (who : Side) (n : ℕ) (m : Message) (o : Option Refused) (c : Option (List ℕ)) → (eqb m.0 1 && is_notice m.1) ≡ false
      → reads (entries_for k (sent_unless o who n m)) c ≡ c
  sent_reads k who n m o c e = grind arith

  sent_elsewhere : (k n : ℕ) (m : Message) (o : Option Refused) (c : Option (List ℕ)) → eqb k x ≡ false
      → reads (entries_for k (sent_unless o Controller n m)) c ≡ c
  sent_elsewhere k n m o c e = grind arith

-- ## A controller does the deeds of a message: its unanswered notice to a host stays the one that is read

abbrev pub AreHostEnds : List Port → Type 0
AreHostEnds ports = AllByRecursion (λ (p : Port). IsHost p.desk.host) ports

-- an end takes this notice, where there is one
abbrev pub Takes : Option Port → List ℕ → Type 0
Takes None message = Unit {0}
Takes (Some p) message = give_refusal p.side (1, message) ≡ None

pub controller_side : (core : Core) → core.node ≡ 0 → own_side core ≡ Controller
controller_side core e = rw e refl

changed_is : (P : Port → Port → Type 0) (b : Bool) (g : Port → Port) (p : Port) → P p p → P p (g p) → P p (changed_if b g p)
changed_is P b g p same one = grind arith

-- what is done to the end with another host leaves this one
pub else_same : (k x : ℕ) (g : Port → Port) (ports : List Port) → ((q : Port) → (g q).desk.host ≡ q.desk.host) → eqb k x ≡ false
    → port_at (with_port k g ports) x ≡ port_at ports x
else_same k x g ports host off =
    at_all ports x (λ p. changed_if (eqb p.desk.host k) g p)
    (λ p. changed_is (λ q r. r.desk.host ≡ q.desk.host) (eqb p.desk.host k) g p refl (host p)) ∙ go (port_at ports x) refl
  where
    go : (o : Option Port) → port_at ports x ≡ o → option_map (λ (p : Port). changed_if (eqb p.desk.host k) g p) o ≡ o
    go None e = refl
    go (Some p) e =
        ap (λ b. Some (changed_if b g p)) (ne_eqb p.desk.host k (λ s. eqb-false k x off (sym s ∙ at_host ports x p e)))

module _ (x : ℕ) (before : List Entry) where
  -- what is read of the notice to the host x
  abbrev pub read_in : Work → Option (List ℕ)
  read_in w = notice_in (before ++ w.entries) x

  -- a controller runs, and what is read and what it keeps are so
  pub record Holds (K : Option (List ℕ) → Option Notice → Type 0) (w : Work) : Type 0 where
    pub on : w.cut ≡ false
    pub node : w.core.node ≡ 0
    pub sorted : AreTables w.core.tables
    pub two : JoinTwo w.core.tables.rows
    pub hosts : AreHostEnds w.ports
    pub right : AreRight w.ports
    pub up : UpAt (port_at w.ports x)
    pub kept : K (read_in w) (noticed w.ports x)

  -- its power is cut, which was noted last
  pub record IsOff (w : Work) : Type 0 where
    pub off : w.cut ≡ true
    pub front : List Entry
    pub ends : before ++ w.entries ≡ front ++ entry.Cut 0 ∷ []

  abbrev pub IsOn : Work → Type 0
  IsOn w = Holds IsKeptNotice w

  abbrev pub Stands : Work → Type 0
  Stands w = IsOn w ⊎ IsOff w

  -- one thing after another, unless the power is cut
  pub then : (f : Work → Work) (w : Work) → Stands w → (IsOn w → Stands (f w)) → Stands (unless_cut f w)
  then f w a next = grind arith

  -- it is noted so
  pub notes : (K L : Option (List ℕ) → Option Notice → Type 0) (es : List Entry) (w : Work)
      → ((r : Option (List ℕ)) (n : Option Notice) → K r n → L (reads x es r) n) → Holds K w → Holds L (noting es w)
  notes K L es w one a = record {
    on = a.on;
    node = a.node;
    sorted = a.sorted;
    two = a.two;
    hosts = a.hosts;
    right = a.right;
    up = a.up;
    kept = subst (λ r. L r (noticed w.ports x)) (sym (read_more x before w.entries es (read_in w) (reads x es (read_in w)) refl refl))
        (one (read_in w) (noticed w.ports x) a.kept);
  }

  -- it is noted what tells nothing
  hushed : (K : Option (List ℕ) → Option Notice → Type 0) (es : List Entry) (w : Work) → ((r : Option (List ℕ)) → reads x es r ≡ r)
      → Holds K w → Holds K (noting es w)
  hushed K es w silent a = notes K K es w (λ r n k. subst (λ z. K z n) (sym (silent r)) k) a

  -- ### Ends

  -- ends are changed that keep their hosts, phases and notices
  alters : (K : Option (List ℕ) → Option Notice → Type 0) (f : Port → Port) (w : Work) → ((q : Port) → (f q).desk.host ≡ q.desk.host)
      → ((q : Port) → (f q).side.shdlc.phase ≡ q.side.shdlc.phase) → ((q : Port) → (f q).desk.notice ≡ q.desk.notice)
      → Holds K w → Holds K (record w { ports = map f w.ports })
  alters K f w host phase notice a = record {
    on = a.on;
    node = a.node;
    sorted = a.sorted;
    two = a.two;
    hosts = all_map (λ (p : Port). IsHost p.desk.host) (λ (p : Port). IsHost p.desk.host) f (λ p b. subst IsHost (sym (host p)) b) w.ports a.hosts;
    right = all_map (λ (p : Port). IsRightNotice p.desk.notice) (λ (p : Port). IsRightNotice p.desk.notice) f
        (λ p b. subst IsRightNotice (sym (notice p)) b) w.ports a.right;
    up = subst UpAt (sym (at_all w.ports x f host)) (grind arith);
    kept = subst (K (read_in w)) (sym (ap (λ o. option_and_then (λ (p : Port). p.desk.notice) o) (at_all w.ports x f host)
        ∙ (grind arith))) a.kept;
  }

  alters_one : (K : Option (List ℕ) → Option Notice → Type 0) (k : ℕ) (g : Port → Port) (w : Work) → ((q : Port) → (g q).desk.host ≡ q.desk.host)
      → ((q : Port) → (g q).side.shdlc.phase ≡ q.side.shdlc.phase) → ((q : Port) → (g q).desk.notice ≡ q.desk.notice)
      → Holds K w → Holds K (record w { ports = with_port k g w.ports })
  alters_one K k g w host phase notice a =
      alters K (λ p. changed_if (eqb p.desk.host k) g p) w
      (λ p. changed_is (λ q r. r.desk.host ≡ q.desk.host) (eqb p.desk.host k) g p refl (host p))
      (λ p. changed_is (λ q r. r.side.shdlc.phase ≡ q.side.shdlc.phase) (eqb p.desk.host k) g p refl (phase p))
      (λ p. changed_is (λ q r. r.desk.notice ≡ q.desk.notice) (eqb p.desk.host k) g p refl (notice p)) a

  pub turns : (K : Option (List ℕ) → Option Notice → Type 0) (k : ℕ) (t : Turn) (w : Work)
      → ((p : Port) (r : Option (List ℕ)) → reads x (noted_of w.core t p) r ≡ r) → Holds K w → Holds K (turn_at k t w)
  turns K k t w silent a =
      hushed K (option_map_or (noted_of w.core t) (port_at w.ports k) []) (record w { ports = with_port k (after_turn t) w.ports })
      (λ r. go (port_at w.ports k) r) (alters_one K k (after_turn t) w (λ q. refl) (λ q. turn-phase q.side t) (λ q. refl) a)
    where
      go : (o : Option Port) (r : Option (List ℕ)) → reads x (option_map_or (noted_of w.core t) o []) r ≡ r
      go None r = refl
      go (Some p) r = silent p r

  -- a message that is no notice is given
  gives : (k : ℕ) (m : Message) (w : Work) → (eqb m.0 1 && is_notice m.1) ≡ false → IsOn w → IsOn (turn_at k (Give m) w)
  gives k m w other a =
      turns IsKeptNotice k (Give m) w (λ p r. sent_reads x p.desk.host (own_side w.core) p.session m (give_refusal p.side m) r other) a

  pub desks : (K : Option (List ℕ) → Option Notice → Type 0) (k : ℕ) (f : Desk → Desk) (w : Work) → ((d : Desk) → (f d).host ≡ d.host)
      → ((d : Desk) → (f d).notice ≡ d.notice) → Holds K w → Holds K (with_desk k f w)
  desks K k f w host notice a = alters_one K k (λ p. record p { desk = f p.desk }) w (λ q. host q.desk) (λ q. refl) (λ q. notice q.desk) a

  -- ### Notices

  module _ (k : ℕ) (about : About) (message : List ℕ) where
    abbrev new : Desk → Desk
    new d = record d { notice = Some (record { about = about; age = 0 }) }

    abbrev as_new : Port → Port
    as_new p = record p { desk = new p.desk }

    abbrev given : Port → Port
    given p = changed_if (eqb p.desk.host k) (after_turn (Give (1, message))) p

    abbrev told : Port → Port
    told p = changed_if (eqb p.desk.host k) as_new p

    given_host : (p : Port) → (given p).desk.host ≡ p.desk.host
    given_host p = changed_is (λ q r. r.desk.host ≡ q.desk.host) (eqb p.desk.host k) (after_turn (Give (1, message))) p refl refl

    told_host : (p : Port) → (told p).desk.host ≡ p.desk.host
    told_host p = changed_is (λ q r. r.desk.host ≡ q.desk.host) (eqb p.desk.host k) as_new p refl refl

    given_right : (p : Port) → IsRightNotice p.desk.notice → IsRightNotice (given p).desk.notice
    given_right p a = changed_is (λ q r. IsRightNotice r.desk.notice) (eqb p.desk.host k) (after_turn (Give (1, message))) p a a

    told_right : IsRightAbout about → (p : Port) → IsRightNotice p.desk.notice → IsRightNotice (told p).desk.notice
    told_right right p a = changed_is (λ q r. IsRightNotice r.desk.notice) (eqb p.desk.host k) as_new p a right

    at_told : (ports : List Port) → port_at (with_port k as_new (with_port k (after_turn (Give (1, message))) ports)) x
        ≡ option_map told (option_map given (port_at ports x))
    at_told ports = at_all (with_port k (after_turn (Give (1, message))) ports) x told told_host ∙ ap (option_map told) (at_all ports x given given_host)

    -- it is told to another host
    told_elsewhere : (w : Work) → eqb k x ≡ false → IsRightAbout about → IsOn w → IsOn (notified k about message w)
    told_elsewhere w off right a = record {
      on = a.on;
      node = a.node;
      sorted = a.sorted;
      two = a.two;
      hosts = all_map (λ (p : Port). IsHost p.desk.host) (λ (p : Port). IsHost p.desk.host) told (λ p b. subst IsHost (sym (told_host p)) b)
          (map given w.ports) (all_map (λ (p : Port). IsHost p.desk.host) (λ (p : Port). IsHost p.desk.host) given
          (λ p b. subst IsHost (sym (given_host p)) b) w.ports a.hosts);
      right = all_map (λ (p : Port). IsRightNotice p.desk.notice) (λ (p : Port). IsRightNotice p.desk.notice) told (told_right right)
          (map given w.ports) (all_map (λ (p : Port). IsRightNotice p.desk.notice) (λ (p : Port). IsRightNotice p.desk.notice) given given_right w.ports
          a.right);
      up = subst UpAt (sym same) a.up;
      kept = subst (λ r. IsKeptNotice r (noticed (notified k about message w).ports x))
          (sym (read_more x before w.entries (option_map_or (noted_of w.core (Give (1, message))) (port_at w.ports k) []) (read_in w) (read_in w) refl
          (silent (port_at w.ports k) refl (read_in w))))
          (subst (λ o. IsKeptNotice (read_in w) (option_and_then (λ (p : Port). p.desk.notice) o)) (sym same) a.kept);
    } where
      same : port_at (notified k about message w).ports x ≡ port_at w.ports x
      same =
          else_same k x as_new (with_port k (after_turn (Give (1, message))) w.ports) (λ q. refl) off
          ∙ else_same k x (after_turn (Give (1, message))) w.ports (λ q. refl) off

      silent : (o : Option Port) → port_at w.ports k ≡ o → (r : Option (List ℕ)) → reads x (option_map_or (noted_of w.core (Give (1, message))) o []) r ≡ r
      silent None e r = refl
      silent (Some p) e r =
          ap (λ s. reads x (entries_for p.desk.host (sent_unless (give_refusal p.side (1, message)) s p.session (1, message))) r)
          (controller_side w.core a.node)
          ∙ sent_elsewhere x p.desk.host p.session (1, message) (give_refusal p.side (1, message)) r
          (ap (λ n. eqb n x) (at_host w.ports k p e) ∙ off)

    -- it is told to this one
    told_here : (w : Work) → eqb k x ≡ true → Takes (port_at w.ports x) message → is_notice message ≡ true → IsAbout about message → IsRightAbout about
        → IsOn w → IsOn (notified k about message w)
    told_here w here takes is says right a = record {
      on = a.on;
      node = a.node;
      sorted = a.sorted;
      two = a.two;
      hosts = all_map (λ (p : Port). IsHost p.desk.host) (λ (p : Port). IsHost p.desk.host) told (λ p b. subst IsHost (sym (told_host p)) b)
          (map given w.ports) (all_map (λ (p : Port). IsHost p.desk.host) (λ (p : Port). IsHost p.desk.host) given
          (λ p b. subst IsHost (sym (given_host p)) b) w.ports a.hosts);
      right = all_map (λ (p : Port). IsRightNotice p.desk.notice) (λ (p : Port). IsRightNotice p.desk.notice) told (told_right right)
          (map given w.ports) (all_map (λ (p : Port). IsRightNotice p.desk.notice) (λ (p : Port). IsRightNotice p.desk.notice) given given_right w.ports
          a.right);
      up = subst UpAt (sym (at_told w.ports)) (grind arith);
      kept = subst (λ r. IsKeptNotice r (noticed (notified k about message w).ports x))
          (sym (read_more x before w.entries (option_map_or (noted_of w.core (Give (1, message))) (port_at w.ports k) []) (read_in w)
          (reads x (option_map_or (noted_of w.core (Give (1, message))) (port_at w.ports k) []) (read_in w)) refl refl))
          (subst (λ o. IsKeptNotice (reads x (option_map_or (noted_of w.core (Give (1, message))) (port_at w.ports k) []) (read_in w))
          (option_and_then (λ (p : Port). p.desk.notice) o)) (sym (at_told w.ports))
          (subst (λ n. IsKeptNotice (reads x (option_map_or (noted_of w.core (Give (1, message))) (port_at w.ports n) []) (read_in w))
          (option_and_then (λ (p : Port). p.desk.notice) (option_map told (option_map given (port_at w.ports x))))) (sym (eqb-true k x here))
          (grind arith)));
    } where
      is_told : (p : Port) → port_at w.ports x ≡ Some p → told (given p) ≡ as_new (after_turn (Give (1, message)) p)
      is_told p e =
          let there : eqb p.desk.host k ≡ true = eq-eqb p.desk.host k (at_host w.ports x p e ∙ sym (eqb-true k x here)) in
          ap (λ b. told (changed_if b (after_turn (Give (1, message))) p)) there
          ∙ ap (λ b. changed_if b as_new (after_turn (Give (1, message)) p)) there

    pub tells : (w : Work) → (eqb k x ≡ true → Takes (port_at w.ports x) message) → is_notice message ≡ true → IsAbout about message
        → IsRightAbout about → IsOn w → IsOn (notified k about message w)
    tells w takes is says right a = by_test (eqb k x) (λ e. told_here w e (takes e) is says right a) (λ e. told_elsewhere w e right a)

  -- ### Commits

  beside : (w v : Work) → v.cut ≡ w.cut → v.core.node ≡ w.core.node → AreTables v.core.tables → JoinTwo v.core.tables.rows → v.ports ≡ w.ports
      → v.entries ≡ w.entries → IsOn w → IsOn v
  beside w v cut node sorted two ports entries a = grind arith

  pub commit_ports : (c : Command) (w : Work) → (commit c w).ports ≡ w.ports
  commit_ports c w = by_test (fails_within (length (commit_writes w.core.journal w.core.tables (body_of c))) w.plan) (λ e. rw e refl) (λ e. rw e refl)

  commits : (c : Command) (w : Work) → IsCommand c → IsOn w → Stands (commit c w)
  commits c w may a = by_plan (cases_Bool (fails_within (length writes) w.plan)) where
    writes : List Write
    writes = commit_writes w.core.journal w.core.tables (body_of c)

    noted : Work
    noted = noting (entry.Command w.core.node c ∷ []) w

    begun : IsOn noted
    begun = hushed IsKeptNotice (entry.Command w.core.node c ∷ []) w (λ r. refl) a

    by_plan : (fails_within (length writes) w.plan ≡ true) ⊎ (fails_within (length writes) w.plan ≡ false) → Stands (commit c w)
    by_plan (inl e) = rw e (inr record {
      off = refl;
      front = before ++ noted.entries;
      ends = sym (append_assoc before noted.entries (entry.Cut w.core.node ∷ []))
          ∙ ap (λ n. (before ++ noted.entries) ++ entry.Cut n ∷ []) a.node;
    })
    by_plan (inr e) =
        rw e (inl (beside noted (keeps c writes noted) refl refl (AreTables-apply w.core.tables c may a.sorted)
        (JoinTwo-after w.core.tables (c ∷ []) (may, tt) a.two) refl refl begun))

  -- ### Deeds

  still_takes : (to : ℕ) (g : Port → Port) (ports : List Port) → ((q : Port) → (g q).desk.host ≡ q.desk.host) → (message : List ℕ) → eqb to x ≡ false
      → Takes (port_at ports x) message → Takes (port_at (with_port to g ports) x) message
  still_takes to g ports host message off takes = subst (λ o. Takes o message) (sym (else_same to x g ports host off)) takes

  pub all_stand : (k : ℕ) (F : List ℕ → Type 0) (deeds : List Deed) (w : Work) → ((m : List ℕ) → F m → Takes (port_at w.ports x) m)
      → MayTell x F deeds → IsOn w → Stands (all_done k deeds w)
  all_stand k F [] w fits may a = inl a
  all_stand k F (Commits c ∷ deeds) w fits may a =
      then (all_done k deeds) (commit c w) (commits c w may.0 a) (λ b. all_stand k F deeds (commit c w)
      (subst (λ ps. (m : List ℕ) → F m → Takes (port_at ps x) m) (sym (commit_ports c w)) fits) may.1 b)
  all_stand k F (Sends to m ∷ deeds) w fits may a =
      then (all_done k deeds) (turn_at to (Give m) w) (inl (gives to m w may.0 a)) (all_stand k (λ n. (eqb to x ≡ false) × F n) deeds
      (turn_at to (Give m) w)
      (λ n f. still_takes to (after_turn (Give m)) w.ports (λ q. refl) n f.0 (fits n f.1)) may.1)
  all_stand k F (SaysOk ∷ deeds) w fits may a =
      then (all_done k deeds) (done k SaysOk w) (inl (hushed IsKeptNotice _ w (λ r. refl) a)) (all_stand k F deeds (done k SaysOk w) fits may)
  all_stand k F (Asks to message c ∷ deeds) w fits may a =
      let aside : Work = turn_at c.asker SetAside w in
      let asked : Work = noting (entry.Ask to message ∷ []) aside in
      let b : IsOn asked = hushed IsKeptNotice (entry.Ask to message ∷ []) aside (λ r. refl) (turns IsKeptNotice c.asker SetAside w (λ p r. refl) a) in
      then (all_done k deeds) (done k (Asks to message c) w) (inl (tells to (Waits c) message asked
      (λ e. still_takes c.asker (after_turn SetAside) w.ports (λ q. refl) message (ap (λ n. eqb c.asker n) (sym (eqb-true to x e)) ∙ may.1.else)
      (fits message (may.0 e)))
      may.1.test may.1.notice may.1.right b)) (all_stand k (λ n. ⊥) deeds (done k (Asks to message c) w) (λ n f. absurd f) may.2)
  all_stand k F (Releases asker ∷ deeds) w fits may a =
      then (all_done k deeds) (turn_at asker Release w) (inl (turns IsKeptNotice asker Release w (λ p r. refl) a)) (all_stand k (λ n. ⊥) deeds
      (turn_at asker Release w) (λ n f. absurd f) may)
  all_stand k F (Tells to message ∷ deeds) w fits may a =
      then (all_done k deeds) (notified to Removed message w) (inl (tells to Removed message w (λ e. fits message (may.0 e)) may.1.test may.1.about tt a))
      (all_stand k (λ n. (eqb to x ≡ false) × F n) deeds (notified to Removed message w)
      (λ n f. still_takes to (λ p. record p { desk = record p.desk { notice = Some (record { about = Removed; age = 0 }) } })
      (with_port to (after_turn (Give (1, message))) w.ports) (λ q. refl) n f.0
      (still_takes to (after_turn (Give (1, message))) w.ports (λ q. refl) n f.0 (fits n f.1))) may.2)
  all_stand k F (Drops pid ∷ deeds) w fits may a =
      then (all_done k deeds) (done k (Drops pid) w) (inl (hushed IsKeptNotice _ w (λ r. refl) a)) (all_stand k F deeds (done k (Drops pid) w) fits may)
  all_stand k F (SetsErrors errors ∷ deeds) w fits may a =
      then (all_done k deeds) (done k (SetsErrors errors) w) (inl (desks IsKeptNotice k (λ d. record d { errors = errors }) w (λ d. refl) (λ d. refl) a))
      (all_stand k F deeds (done k (SetsErrors errors) w) (set_takes fits) may) where
        set_takes : ((m : List ℕ) → F m → Takes (port_at w.ports x) m) → (m : List ℕ) → F m → Takes (port_at (done k (SetsErrors errors) w).ports x) m
        set_takes fits m f =
            subst (λ o. Takes o m) (sym (at_all w.ports x (λ p. changed_if (eqb p.desk.host k) set p)
            (λ p. changed_is (λ q r. r.desk.host ≡ q.desk.host) (eqb p.desk.host k) set p refl refl))) (go (port_at w.ports x) (fits m f)) where
              set : Port → Port
              set p = record p { desk = record p.desk { errors = errors } }

              go : (o : Option Port) → Takes o m → Takes (option_map (λ (p : Port). changed_if (eqb p.desk.host k) set p) o) m
              go None t = tt
              go (Some p) t = changed_is (λ q r. give_refusal r.side (1, m) ≡ None) (eqb p.desk.host k) set p t t
  all_stand k F (_ ∷ deeds) w fits may a = absurd may

-- ## A controller has its turns: its unanswered notice to a host stays the one that is read

-- ### Room

-- there is room for a notice at the end of the link with this host, which is up
pub record HasRoom (ports : List Port) (k : ℕ) (message : List ℕ) : Type 0 where
  pub room : nat_lt (option_map_or (λ (p : Port). spare p.side) (port_at ports k) 0) (need message) ≡ false
  pub up : has_link ports k ≡ true

-- it takes one that isn't too long
takes_it : (ports : List Port) (x : ℕ) (message : List ℕ) → IsShort message → HasRoom ports x message → Takes (port_at ports x) message
takes_it ports x message short has = grind arith

module _ (x : ℕ) where
  -- where no deed lacks room, each notice to x finds it
  ready : (k : ℕ) (F G : List ℕ → Type 0) (ports : List Port) → ((m : List ℕ) → F m → HasRoom ports x m → G m) → (deeds : List Deed)
      → MayTell x F deeds → AllReach ports deeds → lack ports (needs k deeds) ≡ None → MayTell x G deeds
  ready k F G ports gives [] may reach none = tt
  ready k F G ports gives (Commits c ∷ deeds) may reach none = (may.0, ready k F G ports gives deeds may.1 reach.1 none)
  ready k F G ports gives (Sends to m ∷ deeds) may reach none =
      let parts = lack_parts ports to (need m.1) (needs k deeds) none in (
        may.0,
        ready k (λ n. (eqb to x ≡ false) × F n) (λ n. (eqb to x ≡ false) × G n) ports (λ n f has. (f.0, gives n f.1 has)) deeds may.1 reach.1 parts.1,
      )
  ready k F G ports gives (SaysOk ∷ deeds) may reach none = ready k F G ports gives deeds may reach.1 none
  ready k F G ports gives (Asks to message c ∷ deeds) may reach none = grind arith
  ready k F G ports gives (Releases asker ∷ deeds) may reach none = ready k (λ n. ⊥) (λ n. ⊥) ports (λ n f has. f) deeds may reach.1 none
  ready k F G ports gives (Tells to message ∷ deeds) may reach none =
      let parts = lack_parts ports to (need message) (needs k deeds) none in (
        (λ e. gives message (may.0 e) (subst (λ n. HasRoom ports n message) (eqb-true to x e) (record { room = parts.0; up = reach.0 }))),
        may.1,
        ready k (λ n. (eqb to x ≡ false) × F n) (λ n. (eqb to x ≡ false) × G n) ports (λ n f has. (f.0, gives n f.1 has)) deeds may.2 reach.1 parts.1,
      )
  ready k F G ports gives (Drops pid ∷ deeds) may reach none = ready k F G ports gives deeds may reach.1 none
  ready k F G ports gives (SetsErrors errors ∷ deeds) may reach none = ready k F G ports gives deeds may reach.1 none
  ready k F G ports gives (_ ∷ deeds) may reach none = absurd may

-- an end takes what it took before it was changed so
takes_with : (k x : ℕ) (g : Port → Port) (ports : List Port) (m : List ℕ) → ((q : Port) → (g q).desk.host ≡ q.desk.host)
    → ((q : Port) → give_refusal (g q).side (1, m) ≡ give_refusal q.side (1, m)) → Takes (port_at ports x) m → Takes (port_at (with_port k g ports) x) m
takes_with k x g ports m host same takes =
    subst (λ o. Takes o m) (sym (at_all ports x (λ p. changed_if (eqb p.desk.host k) g p) (λ p. changed_host (eqb p.desk.host k) g p host)))
    (grind arith)

pub kept_none : (r : Option (List ℕ)) (n : Option Notice) → n ≡ None → IsKeptNotice r n → r ≡ None
kept_none r n e k = grind arith

three : (a b c : Bool) (y z : Option (List ℕ)) → cond (a && b && c) y z ≡ cond (a && (b && c)) y z
three a b c y z = grind arith

module _ (x : ℕ) (before : List Entry) (k : ℕ) where
  abbrev On : Work → Type 0
  On w = IsOn x before w

  abbrev Fine : Work → Type 0
  Fine w = Stands x before w

  -- the work as a message is the node's, and nothing is done with it yet
  abbrev fetched : Message → Work → Work
  fetched m w = with_desk k (λ d. record d { holds = false }) (turn_at k FetchMessage (noting (entry.Turn (end_of_node w.core k) m.0 m.1 ∷ []) w))

  -- what is left of a notice to x as an answer of k has its turn
  abbrev pending : Message → Option (List ℕ) → Option Notice → Type 0
  pending m r n = ((eqb k x && answers x k m) ≡ true → r ≡ None) × ((eqb k x && answers x k m) ≡ false → IsKeptNotice r n)

  fetched_holds : (K : Option (List ℕ) → Option Notice → Type 0) (m : Message) (w : Work)
      → ((r : Option (List ℕ)) (n : Option Notice) → IsKeptNotice r n → K (cond (eqb k x && answers x k m) None r) n) → On w
      → Holds x before K (fetched m w)
  fetched_holds K m w one a =
      let noted : Work = noting (entry.Turn (end_of_node w.core k) m.0 m.1 ∷ []) w in
      desks x before K k (λ d. record d { holds = false }) (turn_at k FetchMessage noted) (λ d. refl) (λ d. refl)
      (turns x before K k FetchMessage noted (λ p r. refl)
      (notes x before IsKeptNotice K (entry.Turn (end_of_node w.core k) m.0 m.1 ∷ []) w
      (λ r n b. subst (λ z. K z n) (sym (grind arith)) (one r n b)) a))

  fetched_takes : (m : Message) (w : Work) (message : List ℕ) → Takes (port_at w.ports x) message → Takes (port_at (fetched m w).ports x) message
  fetched_takes m w message takes =
      takes_with k x (λ p. record p { desk = record p.desk { holds = false } }) (with_port k (after_turn FetchMessage) w.ports) message (λ q. refl) (λ q. refl)
      (takes_with k x (after_turn FetchMessage) w.ports message (λ q. refl) (λ q. refl) takes)

  -- with the answer the notice is neither read nor kept
  answered : (m : Message) (w : Work) → answers x k m ≡ true → Holds x before (pending m) w → On (done k IsAnswered w)
  answered m w is a = record {
    on = a.on;
    node = a.node;
    sorted = a.sorted;
    two = a.two;
    hosts = all_map (λ (p : Port). IsHost p.desk.host) (λ (p : Port). IsHost p.desk.host) f (λ p b. subst IsHost (sym (host p)) b) w.ports a.hosts;
    right = all_map (λ (p : Port). IsRightNotice p.desk.notice) (λ (p : Port). IsRightNotice p.desk.notice) f right w.ports a.right;
    up = subst UpAt (sym (at_all w.ports x f host)) (grind arith);
    kept = subst (λ o. IsKeptNotice (read_in x before w) (option_and_then (λ (p : Port). p.desk.notice) o)) (sym (at_all w.ports x f host))
        (go (cases_Bool (eqb k x)) (port_at w.ports x) refl a.kept);
  } where
    none : Port → Port
    none p = record p { desk = record p.desk { notice = None } }

    f : Port → Port
    f p = changed_if (eqb p.desk.host k) none p

    host : (p : Port) → (f p).desk.host ≡ p.desk.host
    host p = changed_host (eqb p.desk.host k) none p (λ q. refl)

    right : (p : Port) → IsRightNotice p.desk.notice → IsRightNotice (f p).desk.notice
    right p b = by_test (eqb p.desk.host k) (λ q. rw q tt) (λ q. rw q b)

    go : (eqb k x ≡ true) ⊎ (eqb k x ≡ false) → (o : Option Port) → port_at w.ports x ≡ o
        → pending m (read_in x before w) (option_and_then (λ (p : Port). p.desk.notice) o)
        → IsKeptNotice (read_in x before w) (option_and_then (λ (p : Port). p.desk.notice) (option_map f o))
    go (inl e) o q b = by o q where
      gone : read_in x before w ≡ None
      gone = b.0 (rw (e, is) refl)

      by : (o : Option Port) → port_at w.ports x ≡ o
          → IsKeptNotice (read_in x before w) (option_and_then (λ (p : Port). p.desk.notice) (option_map f o))
      by None q = subst (λ r. IsKeptNotice r None) (sym gone) tt
      by (Some p) q =
          let there : eqb p.desk.host k ≡ true = eq-eqb p.desk.host k (at_host w.ports x p q ∙ sym (eqb-true k x e)) in
          subst (λ r. IsKeptNotice r (f p).desk.notice) (sym gone) (subst (λ c. IsKeptNotice None (changed_if c none p).desk.notice) (sym there) tt)
    go (inr e) None q b = b.1 (rw e refl)
    go (inr e) (Some p) q b =
        let other : eqb p.desk.host k ≡ false = ne_eqb p.desk.host k (λ s. eqb-false k x e (sym s ∙ at_host w.ports x p q)) in
        subst (λ c. IsKeptNotice (read_in x before w) (changed_if c none p).desk.notice) (sym other) (b.1 (rw e refl))

  -- ### Messages

  leaves_stand : (m : Message) (deeds : List Deed) (w : Work) → On w
      → ((eqb k x && answers x k m) ≡ true → noticed w.ports x ≡ None)
      → MayTell x IsShort deeds → AllReach w.ports deeds → lack w.ports (needs k deeds) ≡ None → Fine (handles k m deeds w)
  leaves_stand m deeds w a leaves may reach room =
      all_stand x before k (λ n. Takes (port_at w.ports x) n) deeds (fetched m w) (λ n t. fetched_takes m w n t)
      (ready x k IsShort (λ n. Takes (port_at w.ports x) n) w.ports (λ n short has. takes_it w.ports x n short has) deeds may reach room)
      (begun)
    where
      begun : Holds x before IsKeptNotice (fetched m w)
      begun = by_test (eqb k x && answers x k m)
          (λ e. let nothing : noticed w.ports x ≡ None = leaves e in
          let gone : read_in x before w ≡ None = kept_none (read_in x before w) (noticed w.ports x) nothing a.kept in
          let K : Option (List ℕ) → Option Notice → Type 0 = λ r n. (r ≡ None) × (n ≡ None) in
          let none_kept : (r : Option (List ℕ)) (n : Option Notice) → (r ≡ None) × (n ≡ None) → IsKeptNotice r n = grind arith in
          let noted : Work = noting (entry.Turn (end_of_node w.core k) m.0 m.1 ∷ []) w in
          desks x before IsKeptNotice k (λ d. record d { holds = false }) (turn_at k FetchMessage noted) (λ d. refl) (λ d. refl)
          (turns x before IsKeptNotice k FetchMessage noted (λ p r. refl)
          (notes x before K IsKeptNotice (entry.Turn (end_of_node w.core k) m.0 m.1 ∷ []) w
          (λ r n b. grind arith)
          (grind arith))))
          (λ e. fetched_holds IsKeptNotice m w (λ r n kept. subst (λ c. IsKeptNotice (cond c None r) n) (sym e) kept) a)

  heard_stand : (m : Message) (deeds : List Deed) (w : Work) → On w → answers x k m ≡ true
      → MayTell x IsShort deeds → AllReach w.ports deeds → lack w.ports (needs k deeds) ≡ None → Fine (handles k m (IsAnswered ∷ deeds) w)
  heard_stand m deeds w a is may reach room =
      then x before (all_done k deeds) (done k IsAnswered (fetched m w)) (inl (answered m (fetched m w) is (fetched_holds (pending m) m w one a)))
      (λ b. all_stand x before k (λ n. Takes (port_at w.ports x) n) deeds (done k IsAnswered (fetched m w))
      (λ n t. takes_with k x (λ p. record p { desk = record p.desk { notice = None } }) (fetched m w).ports n (λ q. refl) (λ q. refl) (fetched_takes m w n t))
      (ready x k IsShort (λ n. Takes (port_at w.ports x) n) w.ports (λ n short has. takes_it w.ports x n short has) deeds may reach room) b)
    where
      one : (r : Option (List ℕ)) (n : Option Notice) → IsKeptNotice r n → pending m (cond (eqb k x && answers x k m) None r) n
      one r n b = grind arith

  reached : (ports : List Port) (deeds rest : List Deed) → deeds ≡ IsAnswered ∷ rest → AllReach ports deeds → AllReach ports rest
  reached ports deeds rest e reach = let P : List Deed → Type 0 = λ d. AllReach ports d in let a : AllReach ports (IsAnswered ∷ rest) = subst P e reach in a.1

  pub handled_stand : (m : Message) (w : Work) → IsHost k → On w → lack w.ports (needs k (controller_deeds (view_of w.core w.ports) k m)) ≡ None
      → Fine (handles k m (controller_deeds (view_of w.core w.ports) k m) w)
  handled_stand m w host a room =
      go (controller_outcome x k w.core w.ports a.sorted a.two host.0 host.1 a.right a.up m) where
        go : Outcome x k w.ports m (controller_deeds (view_of w.core w.ports) k m) → Fine (handles k m (controller_deeds (view_of w.core w.ports) k m) w)
        go (Leaves none may) =
            leaves_stand m (controller_deeds (view_of w.core w.ports) k m) w a none may (controller_reach w.core w.ports k m) room
        go (IsHeard rest e is may) =
            subst (λ d. Fine (handles k m d w)) (sym e) (heard_stand m rest w a is may
            (reached w.ports (controller_deeds (view_of w.core w.ports) k m) rest e (controller_reach w.core w.ports k m))
            (ap (λ d. lack w.ports (needs k d)) (sym e) ∙ room))

  pub holds_stand : (short : ℕ × ℕ) (w : Work) → On w → On (holds_back k short w)
  holds_stand short w a = by_test (option_map_or (λ (p : Port). p.desk.holds) (port_at w.ports k) false)
      (λ q. rw q (turns x before IsKeptNotice k (Hold true) w (λ p r. refl) a))
      (λ q. rw q (turns x before IsKeptNotice k (Hold true) (with_desk k (λ d. record d { holds = true }) told) (λ p r. refl)
      (desks x before IsKeptNotice k (λ d. record d { holds = true }) told (λ d. refl) (λ d. refl)
      (hushed x before IsKeptNotice (entry.Held (end_of_node w.core k) short.0 short.1 ∷ []) w (λ r. refl) a)))) where
        told : Work
        told = noting (entry.Held (end_of_node w.core k) short.0 short.1 ∷ []) w

  pub lets_stand : (w : Work) → On w → On (lets_go k w)
  lets_stand w a = by_test (option_map_or (λ (p : Port). is_held p.side) (port_at w.ports k) false)
      (λ q. rw q (turns x before IsKeptNotice k (Hold false) w (λ p r. refl) a))
      (λ q. rw q a)

  have_stand : (messages : List Message) (w : Work) → IsHost k → On w → Fine (have_turns k messages w)
  have_stand [] w host a = inl (lets_stand w a)
  have_stand (m ∷ messages) w host a =
      let zero : eqb w.core.node 0 ≡ true = eq-eqb w.core.node 0 a.node in
      by_option (lack w.ports (needs k deeds))
      (λ e. rw (zero, e) (then x before (have_turns k messages) (handles k m deeds w) (handled_stand m w host a e)
      (λ b. have_stand messages (handles k m deeds w) host b)))
      (λ short e. rw (zero, e) (inl (holds_stand short w a))) where
        deeds : List Deed
        deeds = controller_deeds (view_of w.core w.ports) k m

module _ (x : ℕ) (before : List Entry) where
  ends_stand : (hosts : List ℕ) (w : Work) → AllByRecursion IsHost hosts → IsOn x before w → Stands x before (goes_through_ends hosts w)
  ends_stand [] w all a = inl a
  ends_stand (k ∷ hosts) w all a =
      let messages : List Message = option_map_or (λ (p : Port). p.side.got) (port_at w.ports k) [] in
      then x before (goes_through_ends hosts) (have_turns k messages w) (have_stand x before k messages w all.0 a)
      (λ b. ends_stand hosts (have_turns k messages w) all.1 b)

  hosts_all : (ports : List Port) → AreHostEnds ports → AllByRecursion IsHost (map (λ (p : Port). p.desk.host) ports)
  hosts_all [] a = tt
  hosts_all (p ∷ ports) a = (a.0, hosts_all ports a.1)

  pub passes_stand : (w : Work) → IsOn x before w → Stands x before (passes w)
  passes_stand w a = ends_stand (map (λ (p : Port). p.desk.host) w.ports) w (hosts_all w.ports a.hosts) a
