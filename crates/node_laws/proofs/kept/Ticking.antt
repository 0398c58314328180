-- What all nodes keep over a tick and over the lines of a schedule; commands are kept over power cuts.
use Rattle.std.proofs.lemmas.Bool.{eqb-false}
use Rattle.std.proofs.lemmas.Grind.{flat_map-append}
use Rattle.node_laws.proofs.Words.{Activates, AllByRecursion, AllKeep, AreDifferent, AreHosts, AreToldBehind, Arms, AsksReset, Book, Boots, CommandLast}
use Rattle.node_laws.proofs.Words.{Controller, CutBehindCommand, End, Entry, FindsCommands, FollowsNodes, Gives, Happening, HciTables, Header, Host, IfRuns}
use Rattle.node_laws.proofs.Words.{Inits, IsCut, IsFew, IsHost, IsOf, IsSentByHost, IsTold, IsTrue, Last, Line, LineOutcome, LineStep, List, Loses, MayHappen}
use Rattle.node_laws.proofs.Words.{NextFrame, NoCause, NodeHistory, NodeKeeps, NodeWorld, None, NothingYet, Occurrence, Option, Resets, Running, Site}
use Rattle.node_laws.proofs.Words.{SiteKeeps, Some, Takes, Ticks, TimePasses, ToldTables, Work, [], after_planned, aged, aged_entries, all_aged, all_happen, ap}
use Rattle.node_laws.proofs.Words.{append-nil, append_assoc, ap₂, arith, book_after, book_in, by_controller_tick, by_host_tick, by_option, by_test, can_happen}
use Rattle.node_laws.proofs.Words.{cases_Bool, commands_in, cond, controller_ticks, entries_for, entries_in, eq-eqb, eqb, eqb-true, exchanged, false}
use Rattle.node_laws.proofs.Words.{first_cause, flat_map, frames_at, frames_noted, goes_on, happenings, host_tick, host_ticks, hosts_tick, if_not_sent, inl}
use Rattle.node_laws.proofs.Words.{inr, is_some, last_after, last_in, length, length-append, length-take, line_step, link_to, map, min, ne_eqb, near_tick}
use Rattle.node_laws.proofs.Words.{new_memory, new_site, new_world, node_at, node_entries, occurrences_of, refl, refusal_in, replicate, runs_on, site_at}
use Rattle.node_laws.proofs.Words.{site_ticked, site_unticked, steps_from, subst, suc, sym, tables_in, tables_told, taken_of, true, work_of, world_after}
use Rattle.node_laws.proofs.Words.{world_step, world_ticks, zero, ℕ, ◌++◌, ◌-◌, ◌^◌, ◌∙◌, ◌∷◌, ◌≡◌, ◌≤◌, ◌⊎◌}
use Rattle.node_machine.specs.world.NodeLegal.{Allowed, AreAllAnswered, AreAnswered, AreFound, Kept}
use Rattle.node_machine.specs.world.NodeLegal.Last.{OtherLast}
use Rattle.node_laws.proofs.kept.Doing.{GoesOn_or_lost, book_more, last_more, plain_entries, plain_flat, told_append}
use Rattle.node_laws.proofs.kept.Events.{Goes, GoesBy, IsSame, activates_goes, arms_goes, boots_goes, comes_goes, controller_goes, cut_goes, gives_goes}
use Rattle.node_laws.proofs.kept.Events.{goes_not, goes_then, hosts_in, inits_goes, keeps_same, lost_goes, other_same, plain_frames, plain_goes, runs_begun}
use Rattle.node_laws.proofs.kept.Events.{same_then, site_found, step_keeps}
use Rattle.node_laws.proofs.kept.Stepping.{steps_fine}
use Rattle.node_laws.proofs.readings.Noticed.{numbers}
use Rattle.node_laws.proofs.telling.Lasting.{told_nothing}
use Rattle.trace_model.specs.declared.entry.Entry.TheVariants as entry
use Rattle.trace_model.specs.declared.entry.NoCause.TheVariants as cause
use Rattle.trace_model.specs.declared.line.Line.TheVariants as line

-- ## What all nodes keep over a tick

-- ### Hosts

-- the tick of a host
record SiteTicks (t : List Entry) (s : Site) (p : Site × List Entry) : Type 0 where
  host : p.0.host ≡ s.host
  keeps : NodeKeeps s.host (s.host ∷ []) (t ++ p.1) p.0.memory p.0.node
  told : AreToldBehind t p.1
  own : AllByRecursion (IsOf s.host) p.1

site_ticks : (t : List Entry) (s : Site) → IsHost s.host → SiteKeeps t s → SiteTicks t s (host_ticks s)
site_ticks t s is k =
    by_host_tick (SiteTicks t s) s
    (λ e. record { host = refl; keeps = subst (λ l. NodeKeeps s.host (s.host ∷ []) l s.memory s.node) (sym (append-nil t)) k; told = tt; own = tt })
    (λ r e.
    let runs = (subst (NodeKeeps s.host (s.host ∷ []) t s.memory) e k).runs in
    let work : Work = host_tick s r in
    let fine : GoesOn_or_lost s.host (s.host ∷ []) s.memory t work =
    steps_fine s.host (s.host ∷ []) s.memory t (inr is) (record { all = (is, tt); different = (tt, tt) }) TimePasses
    (work_of r s.memory.plan (λ h. s.link.host) []) (runs_begun s.host (s.host ∷ []) t s.memory r (λ h. s.link.host) [] tt runs) runs.on in
    let done = step_keeps s.host (s.host ∷ []) t s.memory work (frames_noted Host s.host (exchanged s.link) work) fine
    (plain_frames Host s.host (exchanged s.link) work) in
    record { host = refl; keeps = done.0; told = done.1; own = done.2 })

-- the ticks of hosts
record SitesTick (t : List Entry) (sites : List Site) (p : List Site × List Entry) : Type 0 where
  hosts : hosts_in p.0 ≡ hosts_in sites
  keep : AllByRecursion (SiteKeeps (t ++ p.1)) p.0
  told : AreToldBehind t p.1
  others : (n : ℕ) → AllByRecursion (λ k. eqb k n ≡ false) (hosts_in sites) → IsSame n t (t ++ p.1)

pub moved : (t u : List Entry) (h : ℕ) (es : List Entry) → u ≡ t ++ es → AllByRecursion (IsOf h) es → (sites : List Site)
    → AllByRecursion (λ k. eqb k h ≡ false) (hosts_in sites)
    → AllByRecursion (SiteKeeps t) sites → AllByRecursion (SiteKeeps u) sites
moved t u h es is own [] off all = tt
moved t u h es is own (s ∷ sites) off all = (
  subst (λ l. SiteKeeps l s) (sym is) (keeps_same s.host (s.host ∷ []) t (t ++ es) s.memory s.node (other_same h s.host t es
      (λ e. eqb-false s.host h off.0 (sym e)) own) all.0),
  moved t u h es is own sites off.1 all.1,
)

sites_tick : (sites : List Site) (t : List Entry) → AreDifferent (hosts_in sites) → AllByRecursion IsHost (hosts_in sites)
    → AllByRecursion (SiteKeeps t) sites → SitesTick t sites (hosts_tick sites)
sites_tick [] t different hosts all = record {
  hosts = refl;
  keep = tt;
  told = tt;
  others = λ n off. record { book = ap (λ l. book_in l n) (append-nil t); last = ap (λ l. last_in l n) (append-nil t) };
}
sites_tick (s ∷ sites) t different hosts all =
    let first = host_ticks s in
    let one = site_ticks t s hosts.0 all.0 in
    let rest = sites_tick sites (t ++ first.1) different.1 hosts.1 (moved t (t ++ first.1) s.host first.1 refl one.own sites different.0 all.1) in
    joined s sites t first (hosts_tick sites) different one rest
  where
    joined : (s : Site) (sites : List Site) (t : List Entry) (first : Site × List Entry) (later : List Site × List Entry)
        → AreDifferent (hosts_in (s ∷ sites)) → SiteTicks t s first
        → SitesTick (t ++ first.1) sites later → SitesTick t (s ∷ sites) (first.0 ∷ later.0, first.1 ++ later.1)
    joined s sites t first later different one rest =
        let whole : (t ++ first.1) ++ later.1 ≡ t ++ (first.1 ++ later.1) = append_assoc t first.1 later.1 in
        let here : NodeKeeps s.host (s.host ∷ []) (t ++ (first.1 ++ later.1)) first.0.memory first.0.node =
        subst (λ l. NodeKeeps s.host (s.host ∷ []) l first.0.memory first.0.node) whole
        (keeps_same s.host (s.host ∷ []) (t ++ first.1) ((t ++ first.1) ++ later.1) first.0.memory first.0.node (rest.others s.host different.0) one.keeps) in
        record {
          hosts = ap₂ (λ x l. x ∷ l) one.host rest.hosts;
          keep = grind arith;
          told = told_append t first.1 later.1 one.told rest.told;
          others = λ n off. subst (λ l. IsSame n t l) whole
              (same_then n t (t ++ first.1) ((t ++ first.1) ++ later.1) (other_same s.host n t first.1 (eqb-false s.host n off.0) one.own)
              (rest.others n off.1));
        }

module _ (hosts : List ℕ) (are : AreHosts hosts) where
  pub aged_goes : (t : List Entry) (w : NodeWorld) → AllKeep hosts t w → GoesBy hosts are t (all_aged w)
  aged_goes t w all =
      plain_goes hosts are t w (all_aged w).0 (all_aged w).1 (λ (s : Site). record s { link = aged s.link }) all
      (plain_flat (λ (s : Site). entries_for s.host (aged_entries Controller s.link.to_controller ++ aged_entries Host s.link.to_host))
      (λ s. plain_entries s.host (aged_entries Controller s.link.to_controller ++ aged_entries Host s.link.to_host)) w.sites)
      refl all.controller (λ s. refl) (λ s k. k)

  pub near_ticks : (t : List Entry) (w : NodeWorld) → AllKeep hosts t w → GoesBy hosts are t (controller_ticks w)
  near_ticks t w all =
      by_controller_tick (GoesBy hosts are t) w
      (λ e. plain_goes hosts are t w (record w { sites = map site_unticked w.sites }) [] site_unticked all tt refl all.controller (λ s. refl) (λ s x. x))
      (λ r e.
      let runs = (subst (NodeKeeps 0 hosts t w.memory) e all.controller).runs in
      let work : Work = near_tick w r in
      let frames : List Entry = flat_map (λ (s : Site). frames_noted Controller s.host s.link work) w.sites in
      let fine : GoesOn_or_lost 0 hosts w.memory t work =
      steps_fine 0 hosts w.memory t (inl refl) are TimePasses (work_of r w.memory.plan (λ h. (link_to w.sites h).controller) [])
      (runs_begun 0 hosts t w.memory r (λ h. (link_to w.sites h).controller) [] tt runs) runs.on in
      let done = step_keeps 0 hosts t w.memory work frames fine
      (plain_flat (λ (s : Site). frames_noted Controller s.host s.link work) (λ s. plain_frames Controller s.host s.link work) w.sites) in
      controller_goes hosts are t w (work.entries ++ frames) (after_planned work.writes w.memory) (runs_on work) (site_ticked work) all
      done.0 done.1 done.2 (λ s. refl) (λ s x. x))

  far_ticks : (t : List Entry) (w : NodeWorld) → AllKeep hosts t w → Goes hosts are t (record w { sites = (hosts_tick w.sites).0 }) (hosts_tick w.sites).1
  far_ticks t w all =
      let ticks = sites_tick w.sites t (subst AreDifferent (sym all.hosts_are) are.different) (grind arith) all.sites in
      record {
        keep = record {
          controller = keeps_same 0 hosts t (t ++ (hosts_tick w.sites).1) w.memory w.controller (ticks.others 0 (subst (AllByRecursion
              (λ k. eqb k 0 ≡ false)) (sym all.hosts_are) (numbers hosts are.all))) all.controller;
          hosts_are = ticks.hosts ∙ all.hosts_are;
          sites = ticks.keep;
          strangers = λ n strange. (ticks.others n (subst (AllByRecursion (λ k. eqb k n ≡ false))
              (sym all.hosts_are) strange.1)).book ∙ all.strangers n strange;
        };
        told = ticks.told;
      }

  pub ticks_goes : (t : List Entry) (w : NodeWorld) → AllKeep hosts t w → GoesBy hosts are t (world_ticks w)
  ticks_goes t w all =
      let old = all_aged w in
      let a = aged_goes t w all in
      let near = controller_ticks old.0 in
      let b = near_ticks (t ++ old.1) old.0 a.keep in
      let far = hosts_tick near.0.sites in
      goes_then hosts are t (record near.0 { sites = far.0 }) old.1 (near.1 ++ far.1) a.told
      (goes_then hosts are (t ++ old.1) (record near.0 { sites = far.0 }) near.1 far.1 b.told (far_ticks ((t ++ old.1) ++ near.1) near.0 b.keep))

-- ## What all nodes keep over the lines of a schedule

-- ### What may happen

abbrev pub MayAllHappen : NodeWorld → List Happening → Type 0
MayAllHappen w [] = Unit {0}
MayAllHappen w (c ∷ causes) = MayHappen w c × MayAllHappen (world_step w c).0 causes

pub few_front : (xs ys : List Entry) → IsFew (xs ++ ys) → IsFew xs
few_front xs ys few front back n is = few front (back ++ ys) n (ap (λ l. l ++ ys) is ∙ append_assoc front back ys)

-- ### Messages that may be sent

pub first_none : (a b : Option NoCause) → first_cause a b ≡ None → (a ≡ None) × (b ≡ None)
first_none a b e = grind arith

pub off_none : (o : Option Running) → (cond (is_some o) None (Some cause.Off)) ≡ None → (r : Running) × (o ≡ Some r)
off_none o e = grind arith

none_of : (o : Option (List ℕ)) → is_some o ≡ false → o ≡ None
none_of o e = grind arith

pub send_may : (w : NodeWorld) (e : End) (pid : ℕ) (message : List ℕ) → IsTrue e.at_host → if_not_sent w e (pid, message) ≡ None
    → MayHappen w (Gives e (pid, message))
send_may w e pid message side sent r running is = grind arith

module _ (hosts : List ℕ) (are : AreHosts hosts) where
  known : (t : List Entry) (w : NodeWorld) (h : ℕ) (x : Site) → AllKeep hosts t w → site_at w.sites h ≡ Some x → SiteKeeps t x × IsHost x.host × (x.host ≡ h)
  known t w h x all here = site_found (SiteKeeps t) IsHost w.sites h x all.sites (subst (AllByRecursion IsHost) (sym all.hosts_are) are.all) here

  node_there : (w : NodeWorld) (h : ℕ) (x : Site) (r : Running) → IsHost h → site_at w.sites h ≡ Some x → x.node ≡ Some r → node_at w h ≡ Some r
  node_there w h x r host here running = let off : eqb h 0 ≡ false = ne_eqb h 0 (λ z. omega (arith, z, host.0)) in rw off (rw here running)

  pub world_goes : (t : List Entry) (w : NodeWorld) (c : Happening) → AllKeep hosts t w → MayHappen w c → ((n : ℕ) → length (commands_in t n) ≤ 2 ^ 32 - 1)
      → GoesBy hosts are t (world_step w c)
  world_goes t w (Boots n) all may few = boots_goes hosts are t w all n (few n)
  world_goes t w (IsCut n) all may few = cut_goes hosts are t w n may.0 all may.1
  world_goes t w (Gives e m) all may few =
      gives_goes hosts are t w e.link m all
      (λ x r here running is.
      let k = known t w e.link x all here in
      ap is_some (may r (node_there w e.link x r (subst IsHost k.2 k.1) here running) is))
  world_goes t w (Inits e identity pipes) all may few = inits_goes hosts are t w e.link identity pipes all
  world_goes t w (Takes e) all may few = comes_goes hosts are t w e NextFrame all
  world_goes t w (Loses e why) all may few = lost_goes hosts are t w e why all
  world_goes t w Ticks all may few = ticks_goes hosts are t w all
  world_goes t w (Resets e window) all may few = comes_goes hosts are t w e (AsksReset window) all
  world_goes t w (Activates h sync power) all may few = activates_goes hosts are t w h sync power all
  world_goes t w (Arms n plan) all may few = arms_goes hosts are t w n plan all

  -- what happens, one after another
  happen_goes : (causes : List Happening) (t : List Entry) (w : NodeWorld) → AllKeep hosts t w → MayAllHappen w causes
      → IsFew (t ++ entries_in (all_happen w causes).1)
      → Goes hosts are t (all_happen w causes).0 (entries_in (all_happen w causes).1)
  happen_goes [] t w all may few = goes_not hosts are t w all
  happen_goes (c ∷ causes) t w all may few = by_can (λ u g m f. happen_goes causes u g m f) (cases_Bool (can_happen w c)) where
    next : NodeWorld × List Entry
    next = world_step w c

    later : NodeWorld × List Occurrence
    later = all_happen next.0 causes

    on_is : can_happen w c ≡ true → all_happen w (c ∷ causes) ≡ (later.0, record { cause = c; entries = next.1 } ∷ later.1)
    on_is e = rw e refl

    Fine : NodeWorld × List Occurrence → Type 0
    Fine p = Goes hosts are t p.0 (entries_in p.1)

    by_can : ((u : List Entry) (v : NodeWorld) → AllKeep hosts u v → MayAllHappen v causes → IsFew (u ++ entries_in (all_happen v causes).1)
        → Goes hosts are u (all_happen v causes).0 (entries_in (all_happen v causes).1))
        → (can_happen w c ≡ true) ⊎ (can_happen w c ≡ false) → Fine (all_happen w (c ∷ causes))
    by_can rest (inl e) =
        let all_few : IsFew (t ++ (next.1 ++ entries_in later.1)) = subst (λ (p : NodeWorld × List Occurrence). IsFew (t ++ entries_in p.1)) (on_is e) few in
        let first = world_goes t w c all may.0 (λ n. all_few t (next.1 ++ entries_in later.1) n refl) in
        rw e (goes_then hosts are t later.0 next.1 (entries_in later.1) first.told
        (rest (t ++ next.1) next.0 first.keep may.1 (subst IsFew (sym (append_assoc t next.1 (entries_in later.1))) all_few)))
    by_can rest (inr e) = rw e (goes_not hosts are t w all)

  -- ### Lines

  takes_may : (e : End) (n : ℕ) (w : NodeWorld) → MayAllHappen w (replicate n (Takes e))
  takes_may e zero w = tt
  takes_may e (suc n) w = (tt, takes_may e n (world_step w (Takes e)).0)

  ticks_may : (n : ℕ) (w : NodeWorld) → MayAllHappen w (replicate n Ticks)
  ticks_may zero w = tt
  ticks_may (suc n) w = (tt, ticks_may n (world_step w Ticks).0)

  pub line_may : (w : NodeWorld) (l : Line) → IsSentByHost l → refusal_in w l ≡ None → MayAllHappen w (happenings w l)
  line_may w (line.Send e pid message) side e2 = grind arith
  line_may w (line.Deliver e count) side none = takes_may e (taken_of count (frames_at w e)) w
  line_may w (line.Damage e places) side none = grind arith
  line_may w (line.Tick times) side none = ticks_may _ w
  line_may w (line.Busy e) side none = tt
  line_may w (line.Ready e) side none = tt
  line_may w (line.Cut n) side none = (off_none (node_at w n) none, tt)
  line_may w (line.Tables n) side none = tt
  line_may w (line.Settle n) side none = tt
  line_may w _ side none = (tt, tt)

  -- a line goes on, but for one that tells tables
  abbrev LineFine : List Entry → NodeWorld × LineOutcome → Type 0
  LineFine t p = Goes hosts are t p.0 (entries_in (occurrences_of p.1))

  on_goes : (t : List Entry) (w : NodeWorld) (l : Line) → AllKeep hosts t w → MayAllHappen w (happenings w l)
      → IsFew (t ++ entries_in (occurrences_of (goes_on w l).1)) → LineFine t (goes_on w l)
  on_goes t w (line.Tables n) all may few =
      subst (λ (os : List Occurrence). Goes hosts are t w (entries_in os)) (sym (told_nothing n (node_at w n))) (goes_not hosts are t w all)
  on_goes t w (line.Send e pid message) all may few = happen_goes (happenings w (line.Send e pid message)) t w all may few
  on_goes t w (line.Deliver e count) all may few = happen_goes (happenings w (line.Deliver e count)) t w all may few
  on_goes t w (line.Lose e) all may few = happen_goes (happenings w (line.Lose e)) t w all may few
  on_goes t w (line.Damage e places) all may few = happen_goes (happenings w (line.Damage e places)) t w all may few
  on_goes t w (line.Tick times) all may few = happen_goes (happenings w (line.Tick times)) t w all may few
  on_goes t w (line.Reset e window) all may few = happen_goes (happenings w (line.Reset e window)) t w all may few
  on_goes t w (line.Busy e) all may few = happen_goes (happenings w (line.Busy e)) t w all may few
  on_goes t w (line.Settle n) all may few = happen_goes (happenings w (line.Settle n)) t w all may few
  on_goes t w (line.Ready e) all may few = happen_goes (happenings w (line.Ready e)) t w all may few
  on_goes t w (line.Boot n) all may few = happen_goes (happenings w (line.Boot n)) t w all may few
  on_goes t w (line.Cut n) all may few = happen_goes (happenings w (line.Cut n)) t w all may few
  on_goes t w (line.Activate host sync power) all may few = happen_goes (happenings w (line.Activate host sync power)) t w all may few
  on_goes t w (line.Arm n nth fill) all may few = happen_goes (happenings w (line.Arm n nth fill)) t w all may few
  on_goes t w (line.Init e identity pipes) all may few = happen_goes (happenings w (line.Init e identity pipes)) t w all may few

  goes_is : (w : NodeWorld) (l : Line) → refusal_in w l ≡ None → line_step w l ≡ goes_on w l
  goes_is w l e = rw e refl

  line_goes : (t : List Entry) (w : NodeWorld) (l : Line) → AllKeep hosts t w → IsSentByHost l
      → IsFew (t ++ entries_in (occurrences_of (line_step w l).1)) → LineFine t (line_step w l)
  line_goes t w l all side few = by_option (refusal_in w l)
      (λ e. rw e (on_goes t w l all (line_may w l side e)
      (subst (λ (p : NodeWorld × LineOutcome). IsFew (t ++ entries_in (occurrences_of p.1))) (goes_is w l e) few)))
      (λ cause e. rw e (goes_not hosts are t w all))

  -- ### Tables that are told

  abbrev TellsRight : List Entry → LineOutcome → Type 0
  TellsRight t (ToldTables n tables) = tables ≡ tables_in t n
  TellsRight t _ = Unit {0}

  node_tables : (t : List Entry) (w : NodeWorld) (n : ℕ) (r : Running) → AllKeep hosts t w → node_at w n ≡ Some r → r.core.tables ≡ tables_in t n
  node_tables t w n r all is = by_test (eqb n 0)
      (λ zero_is. let running : w.controller ≡ Some r = rw zero_is at is in
      let runs : IfRuns 0 hosts w.memory.content t (Some r) = subst (IfRuns 0 hosts w.memory.content t) running all.controller.runs in
      runs.tables_are ∙ ap (tables_in t) (sym (eqb-true n 0 zero_is)))
      (λ off. by_site off (site_at w.sites n) refl) where
        by_site : eqb n 0 ≡ false → (o : Option Site) → site_at w.sites n ≡ o → r.core.tables ≡ tables_in t n
        by_site off None here = let gone : None ≡ Some r = rw here at (rw off at is) in absurd (cc gone)
        by_site off (Some x) here =
            let running : x.node ≡ Some r = rw here at (rw off at is) in
            let k = known t w n x all here in
            let runs : IfRuns x.host (x.host ∷ []) x.memory.content t (Some r) = subst (IfRuns x.host (x.host ∷ []) x.memory.content t) running k.0.runs in
            runs.tables_are ∙ ap (tables_in t) k.2

  told_right : (t : List Entry) (w : NodeWorld) (n : ℕ) → AllKeep hosts t w → (o : Option Running) → node_at w n ≡ o → TellsRight t (tables_told n o)
  told_right t w n all None e = tt
  told_right t w n all (Some r) e = node_tables t w n r all e

  on_right : (t : List Entry) (w : NodeWorld) (l : Line) → AllKeep hosts t w → TellsRight t (goes_on w l).1
  on_right t w (line.Tables n) all = told_right t w n all (node_at w n) refl
  on_right t w _ all = tt

  line_right : (t : List Entry) (w : NodeWorld) (l : Line) → AllKeep hosts t w → TellsRight t (line_step w l).1
  line_right t w l all = by_option (refusal_in w l)
      (λ e. rw e (on_right t w l all))
      (λ cause e. rw e tt)

  -- ### Schedules

  -- the entries of steps
  abbrev entries_of : List LineStep → List Entry
  entries_of steps = entries_in (flat_map (λ (s : LineStep). occurrences_of s.outcome) steps)

  entries_append : (xs ys : List Occurrence) → entries_in (xs ++ ys) ≡ entries_in xs ++ entries_in ys
  entries_append xs ys = flat_map-append (λ (o : Occurrence). o.entries) xs ys

  abbrev TellRight : List Entry → List LineStep → Type 0
  TellRight t [] = Unit {0}
  TellRight t (s ∷ steps) = TellsRight t s.outcome × TellRight (t ++ entries_in (occurrences_of s.outcome)) steps

  record Schedule (t : List Entry) (w : NodeWorld) (lines : List Line) : Type 0 where
    pub goes : Goes hosts are t (world_after w lines) (entries_of (steps_from w lines))
    pub right : TellRight t (steps_from w lines)

  schedule_goes : (lines : List Line) (t : List Entry) (w : NodeWorld) → AllKeep hosts t w → AllByRecursion IsSentByHost lines
      → IsFew (t ++ entries_of (steps_from w lines))
      → Schedule t w lines
  schedule_goes [] t w all sides few = record { goes = goes_not hosts are t w all; right = tt }
  schedule_goes (l ∷ lines) t w all sides few =
      let o = line_step w l in
      let es = entries_in (occurrences_of o.1) in
      let parts : entries_of (steps_from w (l ∷ lines)) ≡ es ++ entries_of (steps_from o.0 lines) =
      entries_append (occurrences_of o.1) (flat_map (λ (s : LineStep). occurrences_of s.outcome) (steps_from o.0 lines)) in
      let all_few : IsFew ((t ++ es) ++ entries_of (steps_from o.0 lines)) =
      subst IsFew (ap (λ x. t ++ x) parts ∙ sym (append_assoc t es (entries_of (steps_from o.0 lines)))) few in
      let first = line_goes t w l all sides.0 (few_front (t ++ es) (entries_of (steps_from o.0 lines)) all_few) in
      let rest = schedule_goes lines (t ++ es) o.0 first.keep sides.1 all_few in
      record {
        goes = subst (Goes hosts are t (world_after o.0 lines)) (sym parts) (goes_then hosts are t (world_after o.0 lines) es (entries_of
            (steps_from o.0 lines)) first.told rest.goes);
        right = (line_right t w l all, rest.right);
      }

-- ## Commands are kept over power cuts

-- ### The beginning

begins : (n : ℕ) (hosts : List ℕ) → NodeKeeps n hosts [] (new_memory (replicate 65536 255)) None
begins n hosts = grind arith

begin_hosts : (content : List ℕ) (hosts : List ℕ) → map (λ (s : Site). s.host) (map (new_site content) hosts) ≡ hosts
begin_hosts content [] = refl
begin_hosts content (h ∷ hosts) = ap (λ l. h ∷ l) (begin_hosts content hosts)

begin_sites : (hosts : List ℕ) → AllByRecursion (SiteKeeps []) (map (new_site (replicate 65536 255)) hosts)
begin_sites [] = tt
begin_sites (h ∷ hosts) = (begins h (h ∷ []), begin_sites hosts)

pub all_begin : (hosts : List ℕ) → AllKeep hosts [] (new_world hosts)
all_begin hosts = record {
  controller = begins 0 hosts;
  hosts_are = begin_hosts (replicate 65536 255) hosts;
  sites = begin_sites hosts;
  strangers = λ n strange. refl;
}

-- ### What is told of entries

told_at : (front back : List Entry) (x : Entry) (t : List Entry) → AreToldBehind t (front ++ x ∷ back)
    → IsTold (t ++ front) x × AreToldBehind (t ++ (front ++ x ∷ [])) back
told_at [] back x t told = (subst (λ l. IsTold l x) (sym (append-nil t)) told.0, told.1)
told_at (y ∷ front) back x t told =
    let later = told_at front back x (t ++ y ∷ []) told.1 in
    (subst (λ l. IsTold l x) (append_assoc t (y ∷ []) front) later.0, subst (λ l. AreToldBehind l back) (append_assoc t (y ∷ []) (front ++ x ∷ [])) later.1)

-- a command came last, or a cut behind it
abbrev IsOpen : Last → Type 0
IsOpen NothingYet = ⊥
IsOpen CommandLast = Unit {0}
IsOpen CutBehindCommand = Unit {0}
IsOpen OtherLast = ⊥

-- so many commands are safe
record AreSafe (k : ℕ) (b : Book) (l : Last) : Type 0 where
  all : k ≤ length b.commands
  more : IsOpen l → suc k ≤ length b.commands

found_most : (k j n : ℕ) (t : List Entry) → AreSafe k (book_in t n) (last_in t n) → FindsCommands t n j → k ≤ j
found_most k j n t safe a = grind arith

found_least : (j n : ℕ) (t : List Entry) → FindsCommands t n j → j ≤ length (commands_in t n)
found_least j n t a = grind arith

safe_one : (k n : ℕ) (t : List Entry) (e : Entry) → AreSafe k (book_in t n) (last_in t n) → IsTold t e
    → AreSafe k (book_after n (book_in t n) e) (last_after n (last_in t n) e)
safe_one k n t (entry.Command m c) safe told = by_test (eqb m n)
    (λ is. let longer = length-append (commands_in t n) (c ∷ []) in
    rw is (record { all = omega (arith, longer, safe.all); more = λ o. omega (arith, longer, safe.all) }))
    (λ other. rw other safe)
safe_one k n t (entry.AnyOk m j) safe told = grind arith
safe_one k n t (entry.Booted m j) safe told = by_test (eqb m n)
    (λ is. let here : FindsCommands t n j = subst (λ x. FindsCommands t x j) (eqb-true m n is) told in
    let most = found_most k j n t safe here in
    rw is (record { all = omega (arith, length-take j (commands_in t n), most, found_least j n t here); more = λ o. absurd o }))
    (λ other. rw other safe)
safe_one k n t (entry.Cut m) safe told = grind arith
safe_one k n t _ safe told = safe

safe_then : (k n : ℕ) (t : List Entry) (e : Entry) → AreSafe k (book_in t n) (last_in t n) → IsTold t e
    → AreSafe k (book_in (t ++ e ∷ []) n) (last_in (t ++ e ∷ []) n)
safe_then k n t e safe told =
    subst (λ b. AreSafe k b (last_in (t ++ e ∷ []) n)) (sym (book_more t (e ∷ []) n))
    (subst (λ l. AreSafe k (book_after n (book_in t n) e) l) (sym (last_more t (e ∷ []) n)) (safe_one k n t e safe told))

safe_until : (k n j : ℕ) (between back t : List Entry) → AreSafe k (book_in t n) (last_in t n) → AreToldBehind t (between ++ entry.Booted n j ∷ back) → k ≤ j
safe_until k n j [] back t safe told = found_most k j n t safe told.0
safe_until k n j (e ∷ between) back t safe told = safe_until k n j between back (t ++ e ∷ []) (safe_then k n t e safe told.0) told.1

module _ (t : List Entry) (told : AreToldBehind [] t) (few : IsFew t) where
  at_front : (front back : List Entry) (x : Entry) → t ≡ front ++ (x ∷ back) → IsTold front x × AreToldBehind (front ++ x ∷ []) back
  at_front front back x is = told_at front back x [] (subst (AreToldBehind []) is told)

  are_found : AreFound t
  are_found front back n k is = (at_front front back (entry.Booted n k) is).0

  are_counted : AreAllAnswered t
  are_counted front back n k is = small k (length (commands_in front n)) (at_front front back (entry.AnyOk n k) is).0 (grind arith) where
    small : (k l : ℕ) → k ≡ min l (2 ^ 32 - 1) → l ≤ 2 ^ 32 - 1 → k ≡ l
    small k l a b = omega arith

  are_answered : AreAnswered t
  are_answered front between back n k found is =
      let rest = between ++ (entry.Booted n found ∷ back) in
      let counted : k ≡ length (commands_in front n) = are_counted front rest n k is in
      let book_is : book_in (front ++ entry.AnyOk n k ∷ []) n ≡ book_in front n = book_more front (entry.AnyOk n k ∷ []) n in
      let last_is : last_in (front ++ entry.AnyOk n k ∷ []) n ≡ OtherLast =
      last_more front (entry.AnyOk n k ∷ []) n ∙ ap (λ b. cond b OtherLast (last_in front n)) (eq-eqb n n refl) in
      safe_until k n found between back (front ++ entry.AnyOk n k ∷ [])
      (record { all = omega (arith, counted, ap (λ (b : Book). length b.commands) book_is); more = λ o. absurd (subst IsOpen last_is o) })
      (at_front front rest (entry.AnyOk n k) is).1

right_at : (hosts : List ℕ) (are : AreHosts hosts) (before behind : List LineStep) (step : LineStep) (n : ℕ) (tables : HciTables) (t : List Entry)
    → TellRight hosts are t (before ++ step ∷ behind) → step.outcome ≡ ToldTables n tables → tables ≡ tables_in (t ++ entries_of hosts are before) n
right_at hosts are [] behind step n tables t right is = (subst (TellsRight hosts are t) is right.0) ∙ ap (λ l. tables_in l n) (sym (append-nil t))
right_at hosts are (s ∷ before) behind step n tables t right is =
    right_at hosts are before behind step n tables (t ++ entries_in (occurrences_of s.outcome)) right.1 is
    ∙ ap (λ l. tables_in l n) (append_assoc t (entries_in (occurrences_of s.outcome)) (entries_of hosts are before)
    ∙ ap (λ l. t ++ l) (sym (flat_map-append (λ o. o.entries) (occurrences_of s.outcome) (flat_map (λ (x : LineStep). occurrences_of x.outcome) before))))

module _ (header : Header) (lines : List Line) (t : NodeHistory) (follows : FollowsNodes header lines t) (are : AreHosts header.hosts.items)
    (sides : AllByRecursion IsSentByHost lines) (few : IsFew (node_entries t)) where
  entries_are : node_entries t ≡ entries_of header.hosts.items are (steps_from (new_world header.hosts.items) lines)
  entries_are = ap (λ steps. entries_of header.hosts.items are steps) follows.steps_are

  schedule : Schedule header.hosts.items are [] (new_world header.hosts.items) lines
  schedule = schedule_goes header.hosts.items are lines [] (new_world header.hosts.items) (all_begin header.hosts.items) sides (subst IsFew entries_are few)

  pub all_keep : AllKeep header.hosts.items (node_entries t) (world_after (new_world header.hosts.items) lines)
  all_keep = subst (λ l. AllKeep header.hosts.items l (world_after (new_world header.hosts.items) lines)) (sym entries_are) schedule.goes.keep

  pub are_kept : Kept t
  are_kept =
      let told : AreToldBehind [] (node_entries t) = subst (AreToldBehind []) (sym entries_are) schedule.goes.told in
      record {
        found = are_found (node_entries t) told few;
        counted = are_counted (node_entries t) told few;
        answered = are_answered (node_entries t) told few;
        told = λ before behind step n tables is outcome.
            right_at header.hosts.items are before behind step n tables [] (subst (TellRight header.hosts.items are [])
            (sym follows.steps_are ∙ is) schedule.right) outcome;
      }

  pub are_allowed : Allowed (node_entries t)
  are_allowed front back c is =
      let told : AreToldBehind [] (node_entries t) = subst (AreToldBehind []) (sym entries_are) schedule.goes.told in
      (at_front (node_entries t) told few front back (entry.Command 0 c) is).0 refl
