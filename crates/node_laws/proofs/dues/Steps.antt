-- Before its first turn in a step a controller answers with the identifier that it keeps and with what it owes, which is what is read.
use Rattle.node_laws.proofs.Words.{AllByRecursion, AnswersSo, AreDifferent, AreHosts, AreNamed, ArePassed, BeginWithTurn, Bool, ComesTo, Command, Commits}
use Rattle.node_laws.proofs.Words.{Creation, Cut, Deed, Entry, Happening, IsDueAt, IsNoAnswer, IsReplyNoted, List, NodeInput, None, Noted, Occurrence, Option}
use Rattle.node_laws.proofs.Words.{Port, Response, Restarted, Some, Ticked, Work, [], all_append, all_done, all_owed_hold, ap, append-nil, append_assoc, ap₂}
use Rattle.node_laws.proofs.Words.{arith, asked_at, asking_in, before_turn, begun_at, by_option, by_test, comes_to_pass, commands_in, commit, cond, count_of}
use Rattle.node_laws.proofs.Words.{creation_read, down_in, due, end_c, entries_for, entries_in, entries_of_reply, false, filter, flat_map, forgets, goes_down}
use Rattle.node_laws.proofs.Words.{goes_in, has_come_so, has_freed, has_synced, hosts_of_ends, is_answer_of, is_cut_of, is_late_in, is_over, is_over_at}
use Rattle.node_laws.proofs.Words.{is_turn_of, length, list_any, map, min, new_sync, next_count, not, noted_by_deeds, notice_in, option_map_or, owed, owed_in}
use Rattle.node_laws.proofs.Words.{owed_in_step, passes, port_at, refl, session_now, session_of_port, steps, still_asked, subst, sym, syncs_in, tables_in, told}
use Rattle.node_laws.proofs.Words.{told_of_coming, true, true≢false, unless_cut, ℕ, ◌&&◌, ◌++◌, ◌-◌, ◌^◌, ◌∙◌, ◌∷◌, ◌≡◌}
use Rattle.node_laws.specs.passes.Passing.ComesTo.{Begins}
use Rattle.node_laws.proofs.creations.Outcomes.{Asked, asked_of, waits}
use Rattle.node_laws.proofs.creations.Coming.{ComeAt, forgets_ended, over_at}
use Rattle.node_laws.proofs.creations.Doing.{many, off_is, on_is}
use Rattle.node_laws.proofs.dues.Freed.{Goes, IsElse, IsOwing, SentSo, any_cause, asking_behind, come, come_different, come_found, come_so, downs_are}
use Rattle.node_laws.proofs.dues.Freed.{downs_end, freed_good, kept_behind, owed_counts, owed_entries, owed_goes, owed_same, owed_sent, read_behind}
use Rattle.node_laws.proofs.dues.Freed.{session_behind, unless_over}
use Rattle.node_laws.proofs.links.Noticing.{at_host}
use Rattle.node_laws.proofs.passes.InSteps.{before_entries, coming_all, steps_are}
use Rattle.node_laws.proofs.passes.Passing.{comes_lasts, through}
use Rattle.node_laws.proofs.passes.Replying.{noted_so}
use Rattle.node_laws.proofs.power.Steps.{AreOwn}
use Rattle.node_laws.proofs.read_steps.Reading.{IsBegun}
use Rattle.node_laws.proofs.replies.Passes.{AreOfReply, Trails, answers_so}
use Rattle.node_laws.proofs.replies.Creations.{IsIn, all_found, asked_same, awaited_same, in_waits}
use Rattle.node_laws.proofs.telling.Steps.{forgets_same}
use Rattle.node_laws.proofs.worlds.Late.{AreUnanswered, BeginsBehind, coming_unanswered, late_all, unanswered_all}
use Rattle.gate_answers.specs.declared.response.Response.TheVariants as response
use Rattle.trace_model.specs.declared.entry.Entry.TheVariants as entry

-- ## What a controller notes in a step of its deeds before its pass: the identifier that it keeps, and what it owes

-- one command, or none, is committed
abbrev pub one_command : Option Command → List Deed
one_command None = []
one_command (Some c) = Commits c ∷ []

module _ (hosts : List ℕ) (t : List Entry) (read : ℕ → Option ℕ) (owed : List Deed) (owing : AllByRecursion IsOwing owed) where
  -- what is owed is noted so
  paid_so : (s : Work) → s.cut ≡ false → s.core.node ≡ 0 → Goes hosts t owed s → AllByRecursion (SentSo (session_of_port s.ports) read) owed → (count : ℕ)
      → noted_by_deeds 0 owed s ≡ entries_of_reply 0 read 0 count owed
  paid_so s on node goes sent count =
      let there : IsReplyNoted false s.core.node (noted_by_deeds 0 owed s) (entries_of_reply s.core.node (session_of_port s.ports) 0 (count_of s.core.journal)
      owed) =
      subst
      (λ b. IsReplyNoted b s.core.node (noted_by_deeds 0 owed s) (entries_of_reply s.core.node (session_of_port s.ports) 0 (count_of s.core.journal) owed))
      goes.1 (noted_so (session_of_port s.ports) 0 owed s on (λ k. refl) goes.0 (owed_counts s.core.journal s.core.tables owed owing)) in
      there
      ∙ (ap (λ n. entries_of_reply n (session_of_port s.ports) 0 (count_of s.core.journal) owed) node
      ∙ owed_same (session_of_port s.ports) read (count_of s.core.journal) count owed sent)

  -- behind the commit of one command, or of none
  abbrev NotedSo : Option Command → Work → ℕ → Type 0
  NotedSo few f count = IsReplyNoted (unless_cut (all_done 0 owed) (all_done 0 (one_command few) f)).cut 0
      (noted_by_deeds 0 (one_command few) f
      ++ cond (all_done 0 (one_command few) f).cut [] (noted_by_deeds 0 owed (all_done 0 (one_command few) f)))
      (entries_of_reply 0 read 0 count (one_command few ++ owed))

  module _ (f : Work) (on : f.cut ≡ false) (node : f.core.node ≡ 0) (count : ℕ) where
    none_noted : (f.cut ≡ false → Goes hosts t owed f) → AllByRecursion (SentSo (session_of_port f.ports) read) owed → NotedSo None f count
    none_noted goes sent =
        let off : (unless_cut (all_done 0 owed) f).cut ≡ false = ap (λ (x : Work). x.cut) (on_is 0 t hosts (all_done 0 owed) f on) ∙ (goes on).1 in
        let is : cond f.cut [] (noted_by_deeds 0 owed f) ≡ entries_of_reply 0 read 0 count owed =
        ap (λ b. cond b [] (noted_by_deeds 0 owed f)) on ∙ paid_so f on node (goes on) sent count in
        subst (λ b. IsReplyNoted b 0 (cond f.cut [] (noted_by_deeds 0 owed f)) (entries_of_reply 0 read 0 count owed)) (sym off) is

    module _ (c : Command) where
      abbrev v : Work
      v = commit c f

      abbrev rest : List Entry
      rest = entries_of_reply 0 read 0 (next_count count) owed

      abbrev first : List Entry
      first = (entry.Command f.core.node c ∷ cond (goes_in c f) (entry.Cut f.core.node ∷ []) []) ++ cond v.cut [] []

      abbrev Goal : Work → Type 0
      Goal s = IsReplyNoted (unless_cut (all_done 0 owed) s).cut 0 (first ++ cond s.cut [] (noted_by_deeds 0 owed s)) (entry.Command 0 c ∷ rest)

      one_is : all_done 0 (Commits c ∷ []) f ≡ v
      one_is = by_test v.cut (λ q. rw q refl) (λ q. rw q refl)

      lost : goes_in c f ≡ true → v.cut ≡ true
      lost q = rw q refl

      kept : goes_in c f ≡ false → (v.cut ≡ false) × (v.core.node ≡ 0)
      kept q = rw q (on, node)

      gone : goes_in c f ≡ true → Goal v
      gone q =
          let off : v.cut ≡ true = lost q in
          let cut : (unless_cut (all_done 0 owed) v).cut ≡ true = ap (λ (x : Work). x.cut) (off_is 0 t hosts (all_done 0 owed) v off) ∙ off in
          let X : List Entry = noted_by_deeds 0 owed v in
          subst (λ b. IsReplyNoted b 0 (first ++ cond v.cut [] X) (entry.Command 0 c ∷ rest)) (sym cut) ([], c, rest, refl, grind arith)

      goes_on : goes_in c f ≡ false → (v.cut ≡ false → Goes hosts t owed v) → AllByRecursion (SentSo (session_of_port v.ports) read) owed → Goal v
      goes_on q goes sent =
          let still : v.cut ≡ false = (kept q).0 in
          let cut : (unless_cut (all_done 0 owed) v).cut ≡ false = ap (λ (x : Work). x.cut) (on_is 0 t hosts (all_done 0 owed) v still) ∙ (goes still).1 in
          let X : List Entry = noted_by_deeds 0 owed v in
          let is : first ++ cond v.cut [] X ≡ entry.Command 0 c ∷ rest =
          ap (λ b. ((entry.Command f.core.node c ∷ cond b (entry.Cut f.core.node ∷ []) []) ++ cond v.cut [] []) ++ cond v.cut [] X) q
          ∙ (ap (λ b. ((entry.Command f.core.node c ∷ []) ++ cond b [] []) ++ cond b [] X) still
          ∙ (ap (λ n. entry.Command n c ∷ X) node
          ∙ ap (λ es. entry.Command 0 c ∷ es) (paid_so v still (kept q).1 (goes still) sent (next_count count)))) in
          subst (λ b. IsReplyNoted b 0 (first ++ cond v.cut [] X) (entry.Command 0 c ∷ rest)) (sym cut) is

      some_noted : (v.cut ≡ false → Goes hosts t owed v) → AllByRecursion (SentSo (session_of_port v.ports) read) owed → NotedSo (Some c) f count
      some_noted goes sent = subst Goal (sym one_is) (by_test (goes_in c f) (λ q. gone q) (λ q. goes_on q goes sent))

    -- The deeds before a pass are noted so.
    both_noted : (few : Option Command) → ((all_done 0 (one_command few) f).cut ≡ false → Goes hosts t owed (all_done 0 (one_command few) f))
        → AllByRecursion (SentSo (session_of_port (all_done 0 (one_command few) f).ports) read) owed → NotedSo few f count
    both_noted None goes sent = none_noted goes sent
    both_noted (Some c) goes sent =
        some_noted c (subst (λ (s : Work). s.cut ≡ false → Goes hosts t owed s) (one_is c) goes)
        (subst (λ (s : Work). AllByRecursion (SentSo (session_of_port s.ports) read) owed) (one_is c) sent)

  of_reply : (few : Option Command) (count : ℕ) → AreOfReply 1 (entries_of_reply 0 read 0 count (one_command few ++ owed))
  of_reply None count =
      let es = owed_entries read count owed owing in
      let none = es.1 in record { entries = es.0; few = omega (arith, none) }
  of_reply (Some c) count =
      let es = owed_entries read (next_count count) owed owing in
      let none = es.1 in record { entries = (refl, es.0); few = omega (arith, none) }

-- ## The answers of the controller before its first turn, behind entries that tell of none

-- an entry is no turn of the controller, no answer of it and no loss of its power
abbrev pub IsMute : Entry → Type 0
IsMute x = (is_turn_of 0 x ≡ false) × (is_answer_of 0 x ≡ false) × (is_cut_of 0 x ≡ false)

abbrev pub AreMute : List Entry → Type 0
AreMute es = AllByRecursion IsMute es

mute_answers : (x : Entry) (es answers : List Entry) → IsMute x → AnswersSo 0 es answers → AnswersSo 0 (x ∷ es) answers
mute_answers x es answers mute a = grind arith

mutes_answer : (xs es answers : List Entry) → AreMute xs → AnswersSo 0 es answers → AnswersSo 0 (xs ++ es) answers
mutes_answer [] es answers mute a = a
mutes_answer (x ∷ xs) es answers mute a = mute_answers x (xs ++ es) answers mute.0 (mutes_answer xs es answers mute.1 a)

-- where nothing is answered nothing is due
pub none_due : (es : List Entry) → AllByRecursion (λ x. is_answer_of 0 x ≡ false) es → AnswersSo 0 es []
none_due es none = late_all 0 es none ∙ sym (by_test (list_any (is_cut_of 0) (before_turn 0 es)) (λ q. rw q refl) (λ q. rw q refl))

-- ## What a controller owes in a step is what is read: by the sessions that end, and by the notices that are late

-- ### Lists

-- each end and its host pass the tests alike, and the same is asked of both
abbrev IsAsRead : (Port → Port) → (Port → Bool) → (ℕ → Bool) → (ℕ → Option Creation) → Port → Type 0
IsAsRead F f g S p = (f (F p) ≡ g p.desk.host) × (asked_at (F p) ≡ S p.desk.host)

same_owed : (r : Response) (F : Port → Port) (f : Port → Bool) (g : ℕ → Bool) (S : ℕ → Option Creation) (ports : List Port)
    → AllByRecursion (IsAsRead F f g S) ports
    → flat_map (λ p. owed r (asked_at p)) (filter f (map F ports)) ≡ flat_map (λ h. owed r (S h)) (filter g (hosts_of_ends ports))
same_owed r F f g S [] a = refl
same_owed r F f g S (p ∷ ports) a = by (g p.desk.host) refl (same_owed r F f g S ports a.1) where
  left : List Port
  left = filter f (map F ports)

  right : List ℕ
  right = filter g (hosts_of_ends ports)

  by : (b : Bool) → g p.desk.host ≡ b → flat_map (λ p. owed r (asked_at p)) left ≡ flat_map (λ h. owed r (S h)) right
      → flat_map (λ p. owed r (asked_at p)) (cond (f (F p)) (F p ∷ left) left) ≡ flat_map (λ h. owed r (S h)) (cond (g p.desk.host) (p.desk.host ∷ right) right)
  by b q later =
      ap (λ c. flat_map (λ p. owed r (asked_at p)) (cond c (F p ∷ left) left)) (a.0.0 ∙ q)
      ∙ (both b later ∙ sym (ap (λ c. flat_map (λ h. owed r (S h)) (cond c (p.desk.host ∷ right) right)) q))
    where
      both : (b : Bool) → flat_map (λ p. owed r (asked_at p)) left ≡ flat_map (λ h. owed r (S h)) right
          → flat_map (λ p. owed r (asked_at p)) (cond b (F p ∷ left) left) ≡ flat_map (λ h. owed r (S h)) (cond b (p.desk.host ∷ right) right)
      both true later = ap₂ (λ o ds. owed r o ++ ds) a.0.1 later
      both false later = later

same_over : (one other : ℕ → Bool) (o : Option Creation) → ((c : Creation) → o ≡ Some c → one c.asker ≡ other c.asker)
    → unless_over one o ≡ unless_over other o
same_over one other o same = grind arith

-- ### A step

module _ (hosts : List ℕ) (are : AreHosts hosts) (t : List Entry) (input : NodeInput) (w : Work) (b : IsBegun hosts t input w)
    (named : AreNamed (t ++ w.entries)) (past : List Occurrence) (o : Occurrence)
    (notices : (k : ℕ) → notice_in (t ++ w.entries) k ≡ notice_in (entries_in past) k)
    (asking : (k : ℕ) → asking_in (t ++ w.entries) k ≡ asking_in (entries_in past) k)
    (ends : (k : ℕ) (p : Port) → port_at (has_come_so input w).ports k ≡ Some p → goes_down o k ≡ is_over p)
    (late : (k : ℕ) (p : Port) → port_at (has_come_so input w).ports k ≡ Some p → is_late_in past o k ≡ p.late) where
  abbrev now : List Entry
  now = t ++ w.entries

  abbrev ports : List Port
  ports = (has_come_so input w).ports

  abbrev read : ℕ → Option Creation
  read k = creation_read now (notice_in now k)

  asked_begun : AllByRecursion (λ (p : Port). asked_at p ≡ read p.desk.host) w.ports
  asked_begun =
      all_found (λ (p : Port). asked_at p ≡ read p.desk.host) w.ports (subst AreDifferent (sym b.keeps.hosts_are) are.different)
      (λ k p e.
      asked_same now p (notice_in now k) (awaited_same hosts are t w b.keeps named k p e) ∙ ap read (sym (at_host w.ports k p e)))

  pairs : (ps : List Port) → AllByRecursion (λ (p : Port). asked_at p ≡ read p.desk.host) ps
      → AllByRecursion (λ (e : ℕ × Option Creation). e.1 ≡ read e.0) (asked_of ps)
  pairs [] a = tt
  pairs (p ∷ ps) a = (a.0, pairs ps a.1)

  unpaired : (ps : List Port) → AllByRecursion (λ (e : ℕ × Option Creation). e.1 ≡ read e.0) (asked_of ps)
      → AllByRecursion (λ (p : Port). asked_at p ≡ read p.desk.host) ps
  unpaired [] a = tt
  unpaired (p ∷ ps) a = (a.0, unpaired ps a.1)

  asked_come : AllByRecursion (λ (p : Port). asked_at p ≡ read p.desk.host) ports
  asked_come =
      unpaired ports (subst (AllByRecursion (λ (e : ℕ × Option Creation). e.1 ≡ read e.0)) (sym (come hosts are t input w b 0).asked_are)
      (pairs w.ports asked_begun))

  -- an asker has an end
  asker_over : (k : ℕ) (p : Port) (c : Creation) → port_at ports k ≡ Some p → asked_at p ≡ Some c → is_over_at ports c.asker ≡ goes_down o c.asker
  asker_over k p c found waiting = by_option (port_at ports c.asker)
      (λ e. let at : ComeAt (many c.asker t hosts (asked_of w.ports) []) (waits c.asker (asked_of w.ports) ++ []) None =
      subst (ComeAt (many c.asker t hosts (asked_of w.ports) []) (waits c.asker (asked_of w.ports) ++ [])) e (come hosts are t input w b c.asker).end in
      absurd (filled at.1))
      (λ q e. over_at ports c.asker (come_different hosts are t input w b)
      ∙ (ap (λ o. option_map_or is_over o false) e ∙ sym (ends c.asker q e))) where
        some : IsIn c (waits c.asker (asked_of w.ports))
        some = subst (λ (a : Asked). IsIn c (waits c.asker a)) (come hosts are t input w b 0).asked_are (in_waits c.asker ports k p c found waiting refl)

        filled : waits c.asker (asked_of w.ports) ++ [] ≡ [] → ⊥
        filled none = by some.front (sym some.is ∙ (sym (append-nil (waits c.asker (asked_of w.ports))) ∙ none)) where
          by : (front : List Creation) → front ++ (c ∷ some.back) ≡ [] → ⊥
          by [] e = cc e
          by (d ∷ front) e = cc e

  asking_read : (k : ℕ) → asking_in (entries_in past ++ down_in o) k ≡ cond (goes_down o k) None (asking_in now k)
  asking_read k =
      asking_behind k (entries_in past) (down_in o) (downs_are o.entries)
      ∙ ap₂ (λ b r. cond b None r) (downs_end any_cause (end_c k) o.entries) (sym (asking k))

  -- what still waits of it is read
  still_read : (k : ℕ) (p : Port) → port_at ports k ≡ Some p → asked_at p ≡ read p.desk.host → asked_at (forgets ports p) ≡ still_asked past o p.desk.host
  still_read k p found is =
      kept_behind ports p
      ∙ (same_over (is_over_at ports) (goes_down o) (asked_at p) (λ c waiting. asker_over k p c found waiting)
      ∙ (ap (unless_over (goes_down o)) is
      ∙ (sym (read_behind (goes_down o) now (entries_in past ++ down_in o) asking_read (notice_in now p.desk.host))
      ∙ ap (λ r. creation_read (entries_in past ++ down_in o) r) (notices p.desk.host))))

  -- ### Tests

  abbrev F : Port → Port
  F = forgets ports

  abbrev Ends : Port → Type 0
  Ends = IsAsRead F (λ (p : Port). p.ended) (λ h. goes_down o h && not (is_late_in past o h)) (still_asked past o)

  abbrev Lates : Port → Type 0
  Lates = IsAsRead F (λ (p : Port). p.late) (is_late_in past o) (still_asked past o)

  one_read : (k : ℕ) (p : Port) → port_at ports k ≡ Some p → asked_at p ≡ read p.desk.host → (p.late ≡ true → p.ended ≡ false) → Ends p × Lates p
  one_read k p found is flag =
      let host : p.desk.host ≡ k = at_host ports k p found in
      let lates : is_late_in past o p.desk.host ≡ p.late = ap (is_late_in past o) host ∙ late k p found in
      let still : asked_at (F p) ≡ still_asked past o p.desk.host = still_read k p found is in (
        (forgets_ended ports p ∙ ((grind arith) ∙ sym (ap₂ (λ a c. a && not c) (ap (goes_down o) host ∙ ends k p found) lates)), still),
        ((forgets_same ports p).late ∙ sym lates, still),
      )

  all_three : (P Q R S : Port → Type 0) → ((p : Port) → P p → Q p → R p → S p) → (ps : List Port) → AllByRecursion P ps → AllByRecursion Q ps
      → AllByRecursion R ps → AllByRecursion S ps
  all_three P Q R S one [] a c d = tt
  all_three P Q R S one (p ∷ ps) a c d = (one p a.0 c.0 d.0, all_three P Q R S one ps a.1 c.1 d.1)

  abbrev IsFlagged : Port → Type 0
  IsFlagged p = p.late ≡ true → p.ended ≡ false

  each : AllByRecursion (λ p. Ends p × Lates p) ports
  each =
      all_three (λ (p : Port). asked_at p ≡ read p.desk.host → IsFlagged p → Ends p × Lates p) (λ (p : Port). asked_at p ≡ read p.desk.host) IsFlagged
      (λ p. Ends p × Lates p) (λ p so is flag. so is flag) ports
      (all_found (λ (p : Port). asked_at p ≡ read p.desk.host → IsFlagged p → Ends p × Lates p) ports (come_different hosts are t input w b)
      (λ k p found is flag. one_read k p found is flag)) asked_come (come hosts are t input w b 0).flags

  firsts : (ps : List Port) → AllByRecursion (λ p. Ends p × Lates p) ps → AllByRecursion Ends ps × AllByRecursion Lates ps
  firsts [] a = (tt, tt)
  firsts (p ∷ ps) a = let rest = firsts ps a.1 in ((a.0.0, rest.0), (a.0.1, rest.1))

  -- What is owed in the step is what is owed as it is read.
  owed_read : owed_in_step input w ≡ owed_in hosts past o
  owed_read =
      let both = firsts ports each in
      ap₂ (λ x y. x ++ y)
      (same_owed response.NotConnected F (λ (p : Port). p.ended) (λ h. goes_down o h && not (is_late_in past o h)) (still_asked past o) ports both.0)
      (same_owed response.Timeout F (λ (p : Port). p.late) (is_late_in past o) (still_asked past o) ports both.1)
      ∙ ap (λ hs. flat_map (λ h. owed response.NotConnected (still_asked past o h)) (filter (λ h. goes_down o h && not (is_late_in past o h)) hs)
      ++ flat_map (λ h. owed response.Timeout (still_asked past o h)) (filter (is_late_in past o) hs)) (come hosts are t input w b 0).hosts_are

-- ## Before its first turn in a step a controller answers with the identifier that it keeps and with what it owes, and with nothing else

-- ### What comes first

-- what links note is no turn, and no loss of power
abbrev pub IsOfLink : Entry → Type 0
IsOfLink x = (is_turn_of 0 x ≡ false) × (is_cut_of 0 x ≡ false)

abbrev pub AreOfLink : List Entry → Type 0
AreOfLink es = AllByRecursion IsOfLink es

pub links_are : (h : ℕ) (xs : List Noted) → AreOfLink (entries_for h xs)
links_are h [] = tt
links_are h (Ticked ∷ xs) = links_are h xs
links_are h (Restarted who ∷ xs) = links_are h xs
links_are h (Cut who ∷ xs) = links_are h xs
links_are h (_ ∷ xs) = ((refl, refl), links_are h xs)

coming_are : (input : NodeInput) (w : Work) → AreOfLink (told_of_coming input w)
coming_are input w = coming_all IsOfLink (λ h who n acked r. links_are h (told who n r acked)) input w

pub mute_both : (es : List Entry) → AreOfLink es → AllByRecursion (λ x. is_answer_of 0 x ≡ false) es → AreMute es
mute_both [] a b = tt
mute_both (x ∷ es) a b = ((a.0.0, b.0, a.0.1), mute_both es a.1 b.1)

pub links_mute : (h : ℕ) (xs : List Noted) → AreUnanswered (entries_for h xs) → AreMute (entries_for h xs)
links_mute h xs none = mute_both (entries_for h xs) (links_are h xs) (unanswered_all 0 (entries_for h xs) none)

coming_mute : (input : NodeInput) (w : Work) → AreMute (told_of_coming input w)
coming_mute input w = mute_both (told_of_coming input w) (coming_are input w) (unanswered_all 0 (told_of_coming input w) (coming_unanswered input w))

-- ### The pass

back_own : (xs ys : List Entry) → AreOwn 0 (xs ++ ys) → AreOwn 0 ys
back_own [] ys a = a
back_own (x ∷ xs) ys a = back_own xs ys a.1

trails : (more : List Entry) → AreOwn 0 more → BeginWithTurn more → ((front back : List Entry) (x : Entry) → more ≡ front ++ (x ∷ back) → BeginsBehind x back)
    → Trails more
trails [] own begin each = tt
trails (entry.Turn f pid message ∷ more) own begin each = own.0
trails (entry.Held f need spare ∷ more) own begin each =
    trails more own.1 (each [] more (entry.Held f need spare) refl)
    (λ front back x q. each (entry.Held f need spare ∷ front) back x (ap (λ es. entry.Held f need spare ∷ es) q))
trails (_ ∷ more) own begin each = absurd (true≢false (sym begin))

-- what is noted of the pass
record PassNoted (input : NodeInput) (w : Work) : Type 0 where
  more : List Entry
  entries : (steps input w).entries ≡ (comes_to_pass input w).entries ++ more
  trails : Trails more
  power : (comes_to_pass input w).cut ≡ true → more ≡ []

pass_noted : (input : NodeInput) (w : Work) → AreOwn 0 (steps input w).entries → PassNoted input w
pass_noted input w own = by_test v.cut
    (λ q. let is : steps input w ≡ v = steps_are input w ∙ (rw q refl) in
    record {
      more = [];
      entries = ap (λ (u : Work). u.entries) is ∙ sym (append-nil v.entries);
      trails = tt;
      power = λ z. refl;
    })
    (λ q. let is : steps input w ≡ passes v = steps_are input w ∙ (rw q refl) in
    let p : ArePassed (ComesTo v) (hosts_of_ends v.ports) v (passes v) = through (ComesTo v) (comes_lasts v) (hosts_of_ends v.ports) v Begins q in
    let all : (steps input w).entries ≡ v.entries ++ p.more = ap (λ (u : Work). u.entries) is ∙ p.entries in
    record {
      more = p.more;
      entries = all;
      trails = trails p.more (back_own v.entries p.more (subst (AreOwn 0) all own)) p.begin (λ front back x z. grind arith);
      power = λ z. absurd (true≢false (sym z ∙ q));
    }) where
      v : Work
      v = comes_to_pass input w

-- ### A step

module _ (hosts : List ℕ) (are : AreHosts hosts) (t : List Entry) (input : NodeInput) (w : Work) (b : IsBegun hosts t input w) (few : Option Command)
    (syncs : syncs_in input w ≡ one_command few) (read : ℕ → Option ℕ)
    (same : (a : ℕ) (p : Port) → port_at w.ports a ≡ Some p → IsElse input a → is_over_at (has_come_so input w).ports a ≡ false
    → session_of_port w.ports a ≡ read a) where
  abbrev owed_of_steps : List Deed
  owed_of_steps = owed_in_step input w

  owing : AllByRecursion IsOwing owed_of_steps
  owing = all_owed_hold IsOwing (λ asker. tt) (λ to r. tt) (map (forgets (has_come_so input w).ports) (has_come_so input w).ports)

  abbrev noted : List Entry
  noted = noted_by_deeds 0 (syncs_in input w) (has_freed input w) ++ cond (has_synced input w).cut [] (noted_by_deeds 0 owed_of_steps (has_synced input w))

  noted_so_here : (count : ℕ) → IsReplyNoted (comes_to_pass input w).cut 0 noted (entries_of_reply 0 read 0 count (one_command few ++ owed_of_steps))
  noted_so_here count =
      let f : Work = has_freed input w in
      let first = freed_good hosts are t input w b 0 in
      subst (λ ds. IsReplyNoted (unless_cut (all_done 0 owed_of_steps) (all_done 0 ds f)).cut 0
      (noted_by_deeds 0 ds f ++ cond (all_done 0 ds f).cut [] (noted_by_deeds 0 owed_of_steps (all_done 0 ds f)))
      (entries_of_reply 0 read 0 count (one_command few ++ owed_of_steps))) (sym syncs)
      (both_noted hosts t read owed_of_steps owing f first.on first.node count few
      (subst (λ ds. (all_done 0 ds f).cut ≡ false → Goes hosts t owed_of_steps (all_done 0 ds f)) syncs
      (owed_goes hosts are t input w b))
      (subst (λ ds. AllByRecursion (SentSo (session_of_port (all_done 0 ds f).ports) read) owed_of_steps) syncs
      (owed_sent hosts are t input w b read same)))

  step_due : (lead rest : List Entry) (count : ℕ) → AreMute lead → AreMute w.entries → AreOwn 0 (steps input w).entries → AllByRecursion IsNoAnswer rest
      → AnswersSo 0 (lead ++ ((steps input w).entries ++ rest)) (entries_of_reply 0 read 0 count (syncs_in input w ++ owed_of_steps))
  step_due lead rest count mute arrived own none =
      subst (λ es. AnswersSo 0 es (entries_of_reply 0 read 0 count (syncs_in input w ++ owed_of_steps))) (sym shape)
      (mutes_answer before ((noted ++ p.more) ++ rest) (entries_of_reply 0 read 0 count (syncs_in input w ++ owed_of_steps))
      (all_append IsMute lead (w.entries ++ told) mute (all_append IsMute w.entries told arrived (coming_mute input w)))
      (subst (AnswersSo 0 ((noted ++ p.more) ++ rest)) (ap (λ ds. entries_of_reply 0 read 0 count (ds ++ owed_of_steps)) (sym syncs))
      (answers_so (comes_to_pass input w).cut noted (entries_of_reply 0 read 0 count (one_command few ++ owed_of_steps)) p.more rest (noted_so_here count)
      (of_reply hosts t read owed_of_steps owing few count) p.trails p.power none))) where
        told : List Entry
        told = told_of_coming input w

        p : PassNoted input w
        p = pass_noted input w own

        before : List Entry
        before = lead ++ (w.entries ++ told)

        parts : (steps input w).entries ≡ (w.entries ++ told) ++ (noted ++ p.more)
        parts =
            p.entries
            ∙ (ap (λ es. es ++ p.more) (before_entries input w ∙ sym (append_assoc w.entries told noted)) ∙ append_assoc (w.entries ++ told) noted p.more)

        shape : lead ++ ((steps input w).entries ++ rest) ≡ before ++ ((noted ++ p.more) ++ rest)
        shape =
            ap (λ es. lead ++ (es ++ rest)) parts
            ∙ (ap (λ es. lead ++ es) (append_assoc (w.entries ++ told) (noted ++ p.more) rest)
            ∙ sym (append_assoc lead (w.entries ++ told) ((noted ++ p.more) ++ rest)))

-- ## In an event in which the controller has a step it answers before its first turn exactly what is due

module _ (hosts : List ℕ) (are : AreHosts hosts) (past : List Occurrence) (c : Happening) (begun_none : begun_at 0 c ≡ []) (lead rest : List Entry)
    (input : NodeInput) (w : Work) (b : IsBegun hosts (entries_in past ++ lead) input w) (named : AreNamed ((entries_in past ++ lead) ++ w.entries))
    (few : Option Command) (syncs : syncs_in input w ≡ one_command few) where
  abbrev t : List Entry
  t = entries_in past

  abbrev es : List Entry
  es = lead ++ ((steps input w).entries ++ rest)

  abbrev o : Occurrence
  o = record { cause = c; entries = es }

  module _ (taken : flat_map (new_sync (tables_in t 0)) es ≡ syncs_in input w)
      (notices : (k : ℕ) → notice_in ((t ++ lead) ++ w.entries) k ≡ notice_in t k)
      (asking : (k : ℕ) → asking_in ((t ++ lead) ++ w.entries) k ≡ asking_in t k)
      (ends : (k : ℕ) (p : Port) → port_at (has_come_so input w).ports k ≡ Some p → goes_down o k ≡ is_over p)
      (late : (k : ℕ) (p : Port) → port_at (has_come_so input w).ports k ≡ Some p → is_late_in past o k ≡ p.late)
      (sessions : (a : ℕ) (p : Port) → port_at w.ports a ≡ Some p → IsElse input a → session_of_port w.ports a ≡ session_now t (end_c a) 0)
      (mute : AreMute lead) (arrived : AreMute w.entries) (own : AreOwn 0 (steps input w).entries) (none : AllByRecursion IsNoAnswer rest) where
    abbrev read_of_near : ℕ → Option ℕ
    read_of_near a = session_now (t ++ down_in o) (end_c a) 0

    same : (a : ℕ) (p : Port) → port_at w.ports a ≡ Some p → IsElse input a → is_over_at (has_come_so input w).ports a ≡ false
        → session_of_port w.ports a ≡ read_of_near a
    same a p found else goes =
        let there : port_at (has_come_so input w).ports a ≡ Some (come_so input p) = come_found input w a p found in
        let on : goes_down o a ≡ false =
        ends a (come_so input p) there
        ∙ (sym (ap (λ o. option_map_or is_over o false) there)
        ∙ (sym (over_at (has_come_so input w).ports a (come_different hosts are (t ++ lead) input w b)) ∙ goes)) in
        sessions a p found else
        ∙ sym (session_behind a t (down_in o) (downs_are es)
        ∙ ap (λ b. cond b None (session_now t (end_c a) 0)) (downs_end any_cause (end_c a) es ∙ on))

    due_is : due hosts past o 0 ≡ syncs_in input w ++ owed_in_step input w
    due_is =
        ap (λ ds. ds ++ (flat_map (new_sync (tables_in t 0)) es ++ owed_in hosts past o)) begun_none
        ∙ ap₂ (λ x y. x ++ y) taken (sym (owed_read hosts are (t ++ lead) input w b named past o notices asking ends late))

    pub near_due : IsDueAt hosts past o 0
    near_due =
        let count : ℕ = min (length (commands_in (t ++ down_in o) 0)) (2 ^ 32 - 1) in
        subst (λ (ds : List Deed). AnswersSo 0 es (entries_of_reply 0 read_of_near 0 count ds)) (sym due_is)
        (step_due hosts are (t ++ lead) input w b few syncs read_of_near same lead rest count mute arrived own none)
