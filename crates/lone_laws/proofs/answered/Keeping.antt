-- Between events of a node alone all that is read of it is what it keeps.
use Rattle.std.specs.Prelude.{◌+◌, length, Some, None}
use Rattle.lone_laws.proofs.Words.{AllByRecursion, ComesTo, Commits, Control, Core, Deed, Desk, End, Entry, LinkEnd, LinkInput, List, Lone, LoneCause, Port}
use Rattle.lone_laws.proofs.Words.{Running, Work, [], after_input, all_come, all_do, all_done, all_synced_hold, ap, append_assoc, arith, by_list, by_test, cond}
use Rattle.lone_laws.proofs.Words.{done, emits_behind, eqb, errors_found, false, filter, fine_at, frames_behind, frames_out, goes_in, is_rset, lone_arrival}
use Rattle.lone_laws.proofs.Words.{lone_behind_step, lone_end, lone_input, lpdu_of, map, node_input, own_side, passes, refl, report, rsets_since, sent_all}
use Rattle.lone_laws.proofs.Words.{session_with, side_behind, sound_sent, steps_are, subst, sym, syncs_in, told_at, true, true≢false, whole_acked, ℕ, ◌++◌, ◌∙◌}
use Rattle.lone_laws.proofs.Words.{◌∷◌, ◌≡◌, ◌≤◌}
use Rattle.trace_model.specs.declared.entry.Entry.TheVariants as entry
use Rattle.lone_laws.proofs.answered.Reading.{eqb_same, Read, Alone}
use Rattle.lone_laws.proofs.answered.Coming.{IsLoneInput, pass_is, came_is, came_ports, came_entries}
use Rattle.lone_laws.proofs.answered.Stepping.{lone_comes, passed}
use Rattle.lone_laws.proofs.answered.Knowing.{LoneKeeps, LoneTalks, arrival_nothing, begin_read, begins_alone, begun, ended, passing_known, side_is, start}
use Rattle.lone_laws.proofs.answered.Knowing.{start_alone, was_on}
use Rattle.lone_laws.proofs.answered.Talking.{AreSilent, Reads, reads_silent, talk_of_side}
use Rattle.lone_laws.proofs.answered.Growing.{IsTurned, AreTurned, IsTurnedWork, IsNumbered, steps_turned, numbered_then}
use Rattle.lone_laws.proofs.answered.Rooms.{Talks, sent_same}
use Rattle.lone_laws.proofs.answered.Replied.{ErrorsAre, IsSettled, KnowsAll, desk_errors, errors_then, same_port, told_settled}
use Rattle.lone_laws.proofs.answered.Answering.{errs_more, all_at}

abbrev pub errors_of : List Desk → ℕ
errors_of [] = 0
errors_of (d ∷ desks) = d.errors

abbrev pub core_of : Core → ℕ → Core
core_of rest number = record rest { node = number }

-- what is kept between events of a node that runs, whose boot found this
pub record KeepsAll (rest : Core) (t : List Entry) (l : Lone) (n : Running) : Type 0 where
  pub keep : LoneKeeps (begin_read (core_of rest l.number)) t l n
  pub talks : LoneTalks t l
  pub errs : ErrorsAre (lone_end l) (errors_found (core_of rest l.number)) t (errors_of n.desks)

pub emits_settled : (e f : End) (frames : List Control) → AllByRecursion (IsSettled e) (map (λ c. entry.Emit f (lpdu_of c)) frames)
emits_settled e f [] = tt
emits_settled e f (c ∷ frames) = (((λ z. refl), tt), emits_settled e f frames)

emits_silent : (f : End) (frames : List Control) → AreSilent (map (λ c. entry.Emit f (lpdu_of c)) frames)
emits_silent f [] = tt
emits_silent f (c ∷ frames) = (tt, emits_silent f frames)

-- it is a commit
abbrev IsCommits : Deed → Type 0
IsCommits (Commits c) = Unit {0}
IsCommits _ = ⊥

-- ## A step

module _ (rest : Core) (t : List Entry) (l : Lone) (some : 1 ≤ l.link) (most : l.link ≤ 7) (its : eqb l.number 0 ≡ false → l.number ≡ l.link) (n : Running)
    (k : KeepsAll rest t l n) (c : LoneCause) (i : LinkInput) (comes : lone_input c ≡ Some i) where
  abbrev s : ℕ
  s = session_with l i

  abbrev e : End
  e = lone_end l

  abbrev G : Core
  G = core_of rest l.number

  abbrev R : Read
  R = begin_read G

  abbrev first : Work
  first = start G t l some most n k.keep c i comes

  abbrev passing : Work
  passing = begun G t l some most n k.keep c i comes

  abbrev last : Work
  last = ended G t l some most n k.keep c i comes

  abbrev Errs : Work → Type 0
  Errs w = ErrorsAre e (errors_found G) (t ++ w.entries) (desk_errors w.ports)

  errs_first : Errs first
  errs_first =
      subst (ErrorsAre e (errors_found G) (t ++ lone_arrival l c)) (sym (grind arith))
      (errors_then e (errors_found G) t (lone_arrival l c) (errors_of n.desks) (grind arith) k.errs)

  abbrev a : Alone l.number l.link R t first
  a = begins_alone R t l n i (lone_arrival l c) (arrival_nothing l c) k.keep

  abbrev come : Work
  come = all_come (node_input l.link i) first

  errs_come : Errs come
  errs_come =
      let may : IsLoneInput i = lone_comes c i comes in
      let told_it : List Entry = told_at first.core a.port (Some i) in
      subst (λ es. ErrorsAre e (errors_found G) (t ++ es) (desk_errors come.ports)) (sym (came_entries l.number l.link R t i may first a))
      (subst (ErrorsAre e (errors_found G) (t ++ (first.entries ++ told_it)))
      (ap desk_errors a.ports_are ∙ ap desk_errors (sym (came_ports l.number l.link R t i may first a)))
      (errs_more rest l.number l.link some most s t its first told_it
      (told_settled e a.port.desk.host (own_side first.core) s (whole_acked (after_input l.side i)) (report l.side i)) errs_first))

  commits_errs : (h : ℕ) (d : Deed) (v : Work) → IsCommits d → (v.cut ≡ false → Errs v) → (done h d v).cut ≡ false → Errs (done h d v)
  commits_errs h (Commits x) v may b = by_test (goes_in x v)
      (λ q. rw q (λ still. absurd (true≢false still)))
      (λ q. rw q (λ still. errs_more rest l.number l.link some most s t its v (entry.Command v.core.node x ∷ []) (((λ z. refl), tt), tt) (b still)))
  commits_errs h _ v may b = absurd may

  pub all_passing : passing.cut ≡ false → KnowsAll rest l.number l.link some most s t passing
  all_passing on =
      let may : IsLoneInput i = lone_comes c i comes in
      let syncs : List Deed = syncs_in (node_input l.link i) first in
      let is : passing ≡ all_done 0 syncs come = pass_is l.number l.link R t i may first (start_alone G t l some most n k.keep c i comes) in
      record {
        known = passing_known G t l some most n k.keep k.talks c i comes on;
        errs = subst Errs (sym is)
            (all_do (λ v. v.cut ≡ false → Errs v) IsCommits commits_errs 0 syncs come
            (all_synced_hold IsCommits (λ host id. tt) first.core (node_input l.link i) first.ports) (λ _. errs_come) (subst (λ v. v.cut ≡ false) is on));
      }

  pub all_ended : last.cut ≡ false → KnowsAll rest l.number l.link some most s t last
  all_ended still =
      let on : passing.cut ≡ false = was_on G t l some most n k.keep c i comes still in
      let is : last ≡ passes passing = steps_are (node_input l.link i) first ∙ (rw on refl) in
      let comes_last : ComesTo passing last =
      subst (ComesTo passing) (sym is) ((passed l.number l.link some most R t passing on).keeps (sym (ap (λ (w : Work). w.cut) is) ∙ still)) in
      all_at rest l.number l.link some most s t its passing last (all_passing on) comes_last

  -- ## Behind it

  abbrev emits : List Entry
  emits = emits_behind l last

  abbrev behind : Lone
  behind = lone_behind_step l i last

  -- its end had its turns
  last_turned : AreTurned (after_input l.side i) last.ports
  last_turned =
      steps_turned (after_input l.side i) (node_input l.link i) first
      (subst (IsTurnedWork (after_input l.side i))
      (sym (came_is l.number l.link R t i (lone_comes c i comes) first (start_alone G t l some most n k.keep c i comes)))
      (subst (AreTurned (after_input l.side i)) (sym (came_ports l.number l.link R t i (lone_comes c i comes) first a))
      (record { waits = refl; asks = omega arith; few = omega arith }, tt)))

  talks_behind : last.cut ≡ false → LoneTalks (t ++ (last.entries ++ emits)) behind
  talks_behind still =
      let b : KnowsAll rest l.number l.link some most s t last = all_ended still in
      let alone : Alone l.number l.link R t last = b.known.keeps in
      let talks : Talks l.number l.link s t last = b.known.talks in
      let ports : talks.port ≡ alone.port = same_port rest l.number l.link some most s t last b in
      let side : side_behind l last ≡ talks.port.side = side_is R t l last alone still ∙ ap (λ (p : Port). p.side) (sym ports) in
      let own : eqb talks.port.desk.host l.link ≡ true = ap (λ x. eqb x l.link) talks.host ∙ eqb_same l.link in
      let its_turns : IsTurned (after_input l.side i) talks.port.side = (subst (AreTurned (after_input l.side i)) talks.ports_are last_turned).0 in
      subst (λ (x : LinkEnd). LoneTalks (t ++ (last.entries ++ emits)) (record behind { side = sent_all x })) (sym side)
      (record {
        talk =
            subst (Reads e l.number s (t ++ (last.entries ++ emits))) (sym (sent_same talks.port.side s))
            (subst (λ es. Reads e l.number s es (talk_of_side talks.port.side s)) (append_assoc t last.entries emits)
            (reads_silent e l.number s (t ++ last.entries) emits (talk_of_side talks.port.side s) (emits_silent e (frames_behind l last)) talks.talk));
        numbers =
            subst (λ (x : LinkEnd). IsNumbered (sent_all talks.port.side) s (rsets_since i l.rsets + length (filter is_rset (frames_out x)))) (sym side)
            (numbered_then l.side l.session l.rsets k.talks.numbers k.talks.sound i (lone_comes c i comes) talks.port.side its_turns);
        sound = sound_sent talks.port.side talks.sound;
        aside = talks.aside;
        role = talks.role;
        clean = (fine_at last.ports l.link talks.port b.known.fine (grind arith)).clean;
      })

  errs_behind : last.cut ≡ false → ErrorsAre e (errors_found G) (t ++ (last.entries ++ emits)) (errors_of (map (λ (p : Port). p.desk) last.ports))
  errs_behind still =
      subst (ErrorsAre e (errors_found G) (t ++ (last.entries ++ emits))) (sym (by_list last.ports (λ q. rw q refl) (λ p ports q. rw q refl)))
      (errs_more rest l.number l.link some most s t its last emits (emits_settled e e (frames_behind l last)) (all_ended still).errs)

  abbrev now : Running
  now = record { core = last.core; desks = map (λ (p : Port). p.desk) last.ports }

  pub keeps_behind : (m : Running) → behind.node ≡ Some m → LoneKeeps R (t ++ (last.entries ++ emits)) behind m
      → KeepsAll rest (t ++ (last.entries ++ emits)) behind m
  keeps_behind m runs keep = by_test last.cut
      (λ off. let gone : None ≡ Some m = sym (ap (λ b. cond b None (Some now)) off) ∙ runs in absurd (cc gone))
      (λ on. let both : Some now ≡ Some m = sym (ap (λ b. cond b None (Some now)) on) ∙ runs in
      let is : now ≡ m = cc in
      record {
        keep = keep;
        talks = talks_behind on;
        errs = subst (λ (x : Running). ErrorsAre e (errors_found G) (t ++ (last.entries ++ emits)) (errors_of x.desks)) is (errs_behind on);
      })
