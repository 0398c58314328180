-- A round of a world: its causes, which are few, what these do, and that its ends take the frames on their wires.
use Rattle.std.proofs.lemmas.List.{length-append}
use Rattle.std.specs.Prelude.{is_some, replicate}
use Rattle.world_laws.proofs.Words.{AllByRecursion, AllCanHappen, AreFewOnWires, AreOfRounds, ArePassing, AtEnd, Bool, End, Ending, GoesOnLink, GoesOut}
use Rattle.world_laws.proofs.Words.{Happening, IsFewWires, IsOfRound, IsOrderly, IsTakeOrTick, LinkEvent, List, MayBoot, NextFrame, NodeWorld, None, Occurrence}
use Rattle.world_laws.proofs.Words.{OnWire, Option, Running, Site, Some, Step, Take, Takes, TimePassing, Work, [], after_controller, after_few, after_host}
use Rattle.world_laws.proofs.Words.{all_happen, ap, arith, by_option, by_test, can_happen, changed_if, changed_site, comes_to, controller_work, end_c, end_h}
use Rattle.world_laws.proofs.Words.{end_takes_all, ending_of, ends_in_order, ends_take_all, eq-eqb, exchanged, false, fine_there, flat_map, frames_at}
use Rattle.world_laws.proofs.Words.{happened_in, happenings, happens_at_controller, host_work, hosts_in, input_of, is_running, length, length-map}
use Rattle.world_laws.proofs.Words.{length-replicate, link_after_controller, link_events_in, link_to, map-append, node_of, refl, rounds_of_world, run_few}
use Rattle.world_laws.proofs.Words.{site_at, site_host, site_is, site_map, step_kept, step_orderly, steps, subst, suc, sym, takes_go, takes_pass, ticks_go}
use Rattle.world_laws.proofs.Words.{true, turns_at, with_site, world_after_round, world_round, world_round_causes, world_rounds_to_settle, world_settling}
use Rattle.world_laws.proofs.Words.{world_step, world_ticks_in, zero, ℕ, ◌*◌, ◌++◌, ◌+◌, ◌<◌, ◌==◌, ◌∙◌, ◌∷◌, ◌≡◌, ◌≤◌}
use Rattle.node_laws.specs.kept.Worlds.{MayHappen}
use Rattle.node_laws.specs.readings.Worlds.{MayBeRead}
use Rattle.node_machine.specs.world.World.Happening.{Ticks}
use Rattle.world_laws.proofs.links.RoundCauses.{wire_after}
use Rattle.world_laws.proofs.worlds.WorldRounds.{IsReached}
use Rattle.trace_model.specs.declared.line.Line.TheVariants as line

-- ## What the causes of events do is what happened, and so with rounds of a world

-- what happens first, and then
abbrev pub with_first : NodeWorld → Happening → NodeWorld × List Occurrence → NodeWorld × List Occurrence
with_first w c later = (later.0, record { cause = c; entries = (world_step w c).1 } ∷ later.1)

pub happens_first : (w : NodeWorld) (c : Happening) (causes : List Happening) → can_happen w c ≡ true
    → all_happen w (c ∷ causes) ≡ with_first w c (all_happen (world_step w c).0 causes)
happens_first w c causes q = rw q refl

pub none_happens : (w : NodeWorld) (c : Happening) (causes : List Happening) → can_happen w c ≡ false → all_happen w (c ∷ causes) ≡ (w, [])
none_happens w c causes q = rw q refl

-- ### Causes of events

pub again : (w : NodeWorld) (causes : List Happening) → all_happen w (happened_in (all_happen w causes).1) ≡ all_happen w causes
again w [] = refl
again w (c ∷ causes) = let h0 = can_happen w c in let h1 = again (world_step w c).0 causes in grind arith

pub each_can : (w : NodeWorld) (causes : List Happening) → AllCanHappen w (happened_in (all_happen w causes).1)
each_can w [] = tt
each_can w (c ∷ causes) = let h0 = can_happen w c in let h1 = each_can (world_step w c).0 causes in grind arith

-- ### One list behind another

-- what happens behind these events
abbrev pub behind : NodeWorld × List Occurrence → List Happening → NodeWorld × List Occurrence
behind first causes = ((all_happen first.0 causes).0, first.1 ++ (all_happen first.0 causes).1)

pub one_behind_other : (w : NodeWorld) (first second : List Happening) → AllCanHappen w first
    → all_happen w (first ++ second) ≡ behind (all_happen w first) second
one_behind_other w [] second can = refl
one_behind_other w (c ∷ first) second can =
    let later = one_behind_other ((world_step w c).0) first second can.1 in
    happens_first w c (first ++ second) can.0
    ∙ (ap (with_first w c) later ∙ ap (λ (r : NodeWorld × List Occurrence). behind r second) (sym (happens_first w c first can.0)))

can_behind : (w : NodeWorld) (first second : List Happening) → AllCanHappen w first → AllCanHappen (all_happen w first).0 second
    → AllCanHappen w (first ++ second)
can_behind w [] second can more = more
can_behind w (c ∷ first) second can more =
    (can.0, can_behind ((world_step w c).0) first second can.1 (subst (λ u. AllCanHappen u second) (grind arith) more))

-- ### What happened is what its causes do

pub record IsWhole (w : NodeWorld) (r : NodeWorld × List Occurrence) : Type 0 where
  pub each : AllCanHappen w (happened_in r.1)
  pub is : all_happen w (happened_in r.1) ≡ r

whole_all : (w : NodeWorld) (causes : List Happening) → IsWhole w (all_happen w causes)
whole_all w causes = record { each = each_can w causes; is = again w causes }

causes-append : (a b : List Occurrence) → happened_in (a ++ b) ≡ happened_in a ++ happened_in b
causes-append a b = map-append (λ (o : Occurrence). o.cause) a b

abbrev both : NodeWorld × List Occurrence → NodeWorld × List Occurrence → NodeWorld × List Occurrence
both first later = (later.0, first.1 ++ later.1)

whole_then : (w : NodeWorld) (first later : NodeWorld × List Occurrence) → IsWhole w first → IsWhole first.0 later → IsWhole w (both first later)
whole_then w first later one two =
    let a : List Happening = happened_in first.1 in
    let b : List Happening = happened_in later.1 in
    let parts : happened_in (first.1 ++ later.1) ≡ a ++ b = causes-append first.1 later.1 in
    record {
      each = subst (AllCanHappen w) (sym parts) (can_behind w a b one.each (subst (λ v. AllCanHappen v b) (sym (grind arith)) two.each));
      is = ap (all_happen w) parts
          ∙ (one_behind_other w a b one.each
          ∙ (ap (λ (r : NodeWorld × List Occurrence). behind r b) one.is ∙ ap (both first) two.is));
    }

-- ### Rounds

whole_ends : (ends : List End) (w : NodeWorld) → IsWhole w (ends_take_all w ends)
whole_ends [] w = record { each = tt; is = refl }
whole_ends (e ∷ ends) w =
    let v : NodeWorld = (end_takes_all w e).0 in
    whole_then w (end_takes_all w e) (ends_take_all v ends) (whole_all w (happenings w (line.Deliver e None))) (whole_ends ends v)

whole_round : (w : NodeWorld) → IsWhole w (world_round w)
whole_round w =
    let taken : NodeWorld × List Occurrence = ends_take_all w (ends_in_order w) in
    whole_then w taken (all_happen taken.0 (Ticks ∷ [])) (whole_ends (ends_in_order w) w) (whole_all taken.0 (Ticks ∷ []))

pub whole_rounds : (r : ℕ) (w : NodeWorld) → IsWhole w (rounds_of_world r w)
whole_rounds zero w = record { each = tt; is = refl }
whole_rounds (suc r) w =
    let first : NodeWorld × List Occurrence = world_round w in
    whole_then w first (rounds_of_world r first.0) (whole_round w) (whole_rounds r first.0)

pub whole_settling : (n : ℕ) (w : NodeWorld) → IsWhole w (world_settling n w)
whole_settling n w = whole_rounds (world_rounds_to_settle n w) w

-- ## In a round each end takes frames that stand on its wire, while its node runs, and then time passes

-- ### A frame is gone from its wire

module _ (w : NodeWorld) (h : ℕ) (s : Site) (q : site_at w.sites h ≡ Some s) where
  number : (s.host == h) ≡ true
  number = eq-eqb s.host h (site_host w.sites h s q)

  near_gone : (r : Running) → w.controller ≡ Some r → (x : OnWire) (xs : List OnWire) → s.link.to_controller ≡ x ∷ xs
      → is_running (world_step w (Takes (end_c h))).0 0 ≡ true → frames_at (world_step w (Takes (end_c h))).0 (end_c h) ≡ xs
  near_gone r runs x xs wire on =
      let work : Work = controller_work w r h NextFrame (steps (AtEnd h (Take x.frame))) in
      let v : NodeWorld = (after_controller w h NextFrame work).0 in
      let link : link_to w.sites h ≡ s.link = rw q refl in
      let input : input_of (link_to w.sites h) NextFrame ≡ Some (Take x.frame) = ap (λ l. input_of l NextFrame) link ∙ rw wire refl in
      let world : (world_step w (Takes (end_c h))).0 ≡ v = rw (input, runs) refl in
      let out : ending_of work ≡ GoesOut = grind arith in
      let F : Site → Site = link_after_controller h NextFrame work in
      let came : comes_to h NextFrame s.host ≡ NextFrame = rw number refl in
      let gone : (F s).link.to_controller ≡ xs =
      ap (λ c. (happens_at_controller s.link (Step c (turns_at work s.host) (ending_of work))).to_controller) came
      ∙ (ap (λ (d : Ending). (happens_at_controller s.link (Step NextFrame (turns_at work s.host) d)).to_controller) out
      ∙ (let h0 = wire_after s.link x xs (turns_at work s.host) in grind arith)) in
      ap (λ (u : NodeWorld). frames_at u (end_c h)) world ∙ ((rw ((site_map F (λ x. refl) w.sites h s q).0) refl) ∙ gone)

  far_gone : (h == 0) ≡ false → (r : Running) → s.node ≡ Some r → (x : OnWire) (xs : List OnWire) → s.link.to_host ≡ x ∷ xs
      → is_running (world_step w (Takes (end_h h))).0 h ≡ true → frames_at (world_step w (Takes (end_h h))).0 (end_h h) ≡ xs
  far_gone host r runs x xs wire on =
      let work : Work = host_work s r NextFrame (steps (AtEnd h (Take x.frame))) in
      let F : Site → Site = after_host NextFrame work in
      let v : NodeWorld = record w { sites = with_site h F w.sites } in
      let link : link_to w.sites h ≡ s.link = rw q refl in
      let input : input_of (exchanged s.link) NextFrame ≡ Some (Take x.frame) = rw wire refl in
      let world : (world_step w (Takes (end_h h))).0 ≡ v = rw (link, input, q, runs) refl in
      let at : site_at v.sites h ≡ Some (F s) =
      changed_site h F (λ x. refl) w.sites h s q ∙ ap (λ (b : Bool). Some (changed_if b F s)) number in
      let out : ending_of work ≡ GoesOut = grind arith in
      let gone : (F s).link.to_host ≡ xs =
      ap (λ (d : Ending). (happens_at_controller (exchanged s.link) (Step NextFrame (turns_at work s.host) d)).to_controller) out
      ∙ (let h0 = wire_after (exchanged s.link) x xs (turns_at work s.host) in grind arith) in
      ap (λ (u : NodeWorld). frames_at u (end_h h)) world ∙ ((rw at refl) ∙ gone)

-- ### Frames that stand

-- where a frame stands, there is a link
there_where_stands : (w : NodeWorld) (e : End) → 0 < length (frames_at w e) → (s : Site) × (site_at w.sites e.link ≡ Some s)
there_where_stands w e stands = grind arith

-- a wire on which a frame stands
record First (xs : List OnWire) : Type 0 where
  first : OnWire
  rest : List OnWire
  is : xs ≡ first ∷ rest

first_of_wire : (xs : List OnWire) → 0 < length xs → First xs
first_of_wire [] i = absurd (omega (arith, i))
first_of_wire (x ∷ xs) i = record { first = x; rest = xs; is = refl }

-- a node that runs
running : (o : Option Running) → is_some o ≡ true → (r : Running) × (o ≡ Some r)
running o q = grind arith

-- an end that took a frame, and whose node runs on, has one frame less on its wire
one_less : (w : NodeWorld) (e : End) → IsOrderly w → is_running w (node_of e) ≡ true → 0 < length (frames_at w e)
    → is_running (world_step w (Takes e)).0 (node_of e) ≡ true → length (frames_at w e) ≡ suc (length (frames_at (world_step w (Takes e)).0 e))
one_less w e orderly runs stands on = go e.at_host runs stands on (there_where_stands w e stands)
  where
    go : (b : Bool) → is_running w (node_of (record { link = e.link; at_host = b })) ≡ true
        → 0 < length (frames_at w (record { link = e.link; at_host = b }))
        → is_running (world_step w (Takes (record { link = e.link; at_host = b }))).0 (node_of (record { link = e.link; at_host = b })) ≡ true
        → (s : Site) × (site_at w.sites e.link ≡ Some s)
        → length (frames_at w (record { link = e.link; at_host = b }))
        ≡ suc (length (frames_at (world_step w (Takes (record { link = e.link; at_host = b }))).0 (record { link = e.link; at_host = b })))
    go false r i o (s, q) =
        let wire : frames_at w (end_c e.link) ≡ s.link.to_controller = rw q refl in
        let f : First s.link.to_controller = first_of_wire s.link.to_controller (subst (λ (xs : List OnWire). 0 < length xs) wire i) in
        let n = running w.controller r in
        let gone : frames_at (world_step w (Takes (end_c e.link))).0 (end_c e.link) ≡ f.rest = near_gone w e.link s q n.0 n.1 f.first f.rest f.is o in
        ap (length {A = OnWire}) (wire ∙ f.is) ∙ ap (λ (xs : List OnWire). suc (length xs)) (sym gone)
    go true r i o (s, q) =
        let wire : frames_at w (end_h e.link) ≡ s.link.to_host = rw q refl in
        let f : First s.link.to_host = first_of_wire s.link.to_host (subst (λ (xs : List OnWire). 0 < length xs) wire i) in
        let host : (e.link == 0) ≡ false =
        ap (λ (k : ℕ). k == 0) (sym (site_host w.sites e.link s q)) ∙ site_is (λ (x : Site). (x.host == 0) ≡ false) w.sites e.link s orderly.hosts q in
        let n = running s.node (subst (λ (x : Option Running). is_some x ≡ true) (rw (host, q) refl) r) in
        let gone : frames_at (world_step w (Takes (end_h e.link))).0 (end_h e.link) ≡ f.rest =
        far_gone w e.link s q host n.0 n.1 f.first f.rest f.is o in
        ap (length {A = OnWire}) (wire ∙ f.is) ∙ ap (λ (xs : List OnWire). suc (length xs)) (sym gone)

-- ### Frames that are taken

takes_of : (k : ℕ) (w : NodeWorld) (e : End) → IsOrderly w → k ≤ length (frames_at w e)
    → AreOfRounds w (happened_in (all_happen w (replicate k (Takes e))).1)
takes_of zero w e orderly few = tt
takes_of (suc k) w e orderly few = go (can_happen w (Takes e)) refl (takes_of k (world_step w (Takes e)).0 e (step_orderly w (Takes e) orderly))
  where
    v : NodeWorld
    v = (world_step w (Takes e)).0

    Rest : Type 0
    Rest = AreOfRounds v (happened_in (all_happen v (replicate k (Takes e))).1)

    none : (j : ℕ) → can_happen v (Takes e) ≡ false → AreOfRounds v (happened_in (all_happen v (replicate j (Takes e))).1)
    none j q = grind arith

    rest : (b : Bool) → can_happen v (Takes e) ≡ b → can_happen w (Takes e) ≡ true → (k ≤ length (frames_at v e) → Rest) → Rest
    rest true p q later = let less = one_less w e orderly q (omega (arith, few)) p in later (omega (arith, few, less))
    rest false p q later = none k p

    go : (b : Bool) → can_happen w (Takes e) ≡ b → (k ≤ length (frames_at v e) → Rest)
        → AreOfRounds w (happened_in (all_happen w (replicate (suc k) (Takes e))).1)
    go true q later =
        let stands : 0 < length (frames_at w e) = omega (arith, few) in
        let there = there_where_stands w e stands in
        subst (λ (r : NodeWorld × List Occurrence). AreOfRounds w (happened_in r.1)) (sym (happens_first w (Takes e) (replicate k (Takes e)) q))
        ((record { site = there.0; there = there.1; runs = q; stands = stands }), rest (can_happen v (Takes e)) refl q later)
    go false q later = grind arith

-- ## The causes of the rounds of a world: what they are, how often time passes among them, and how many they are

-- ### What holds of a world over rounds

module _ (P : NodeWorld → Type 0) (takes : (w : NodeWorld) (e : End) → P w → P (world_step w (Takes e)).0)
    (ticks : (w : NodeWorld) → P w → P (world_step w Ticks).0) where
  kept_all : (causes : List Happening) (w : NodeWorld) → ArePassing causes → P w → P (all_happen w causes).0
  kept_all [] w p a = a
  kept_all (Takes e ∷ causes) w p a = by_test (can_happen w (Takes e))
      (λ q. subst (λ (r : NodeWorld × List Occurrence). P r.0) (sym (happens_first w (Takes e) causes q))
      (kept_all causes (world_step w (Takes e)).0 p (takes w e a)))
      (λ q. subst (λ (r : NodeWorld × List Occurrence). P r.0) (sym (none_happens w (Takes e) causes q)) a)
  kept_all (Ticks ∷ causes) w p a = kept_all causes (world_step w Ticks).0 p (ticks w a)
  kept_all (_ ∷ causes) w p a = absurd p

  kept_end : (w : NodeWorld) (e : End) → P w → P (end_takes_all w e).0
  kept_end w e a = kept_all (happenings w (line.Deliver e None)) w (takes_pass (length (frames_at w e)) e) a

  kept_ends : (ends : List End) (w : NodeWorld) → P w → P (ends_take_all w ends).0
  kept_ends [] w a = a
  kept_ends (e ∷ ends) w a = kept_ends ends (end_takes_all w e).0 (kept_end w e a)

  kept_round : (w : NodeWorld) → P w → P (world_after_round w)
  kept_round w a = kept_all (Ticks ∷ []) (ends_take_all w (ends_in_order w)).0 tt (kept_ends (ends_in_order w) w a)

  kept_rounds : (r : ℕ) (w : NodeWorld) → P w → P (rounds_of_world r w).0
  kept_rounds zero w a = a
  kept_rounds (suc r) w a = kept_rounds r (world_after_round w) (kept_round w a)

-- ### What the causes are

of_then : (w : NodeWorld) (a b : List Happening) → AllCanHappen w a → AreOfRounds w a → AreOfRounds (all_happen w a).0 b → AreOfRounds w (a ++ b)
of_then w [] b can one two = two
of_then w (c ∷ a) b can one two =
    let v : NodeWorld = (world_step w c).0 in
    (one.0, of_then v a b can.1 one.1 (subst (λ u. AreOfRounds u b) (ap (λ (r : NodeWorld × List Occurrence). r.0) (happens_first w c a can.0)) two))

both_of : (w : NodeWorld) (first later : NodeWorld × List Occurrence) → IsWhole w first → AreOfRounds w (happened_in first.1)
    → AreOfRounds first.0 (happened_in later.1) → AreOfRounds w (happened_in (both first later).1)
both_of w first later whole one two =
    let a : List Happening = happened_in first.1 in
    let b : List Happening = happened_in later.1 in
    subst (AreOfRounds w) (sym (causes-append first.1 later.1)) (of_then w a b whole.each one (subst (λ v. AreOfRounds v b) (sym (grind arith)) two))

orderly_takes : (w : NodeWorld) (e : End) → IsOrderly w → IsOrderly (world_step w (Takes e)).0
orderly_takes w e a = step_orderly w (Takes e) a

orderly_ticks : (w : NodeWorld) → IsOrderly w → IsOrderly (world_step w Ticks).0
orderly_ticks w a = step_orderly w Ticks a

of_end : (w : NodeWorld) (e : End) → IsOrderly w → AreOfRounds w (happened_in (end_takes_all w e).1)
of_end w e a = takes_of (length (frames_at w e)) w e a (omega arith)

of_ends : (ends : List End) (w : NodeWorld) → IsOrderly w → AreOfRounds w (happened_in (ends_take_all w ends).1)
of_ends [] w a = tt
of_ends (e ∷ ends) w a =
    let v : NodeWorld = (end_takes_all w e).0 in
    both_of w (end_takes_all w e) (ends_take_all v ends) (whole_all w (happenings w (line.Deliver e None))) (of_end w e a)
    (of_ends ends v (kept_end IsOrderly orderly_takes orderly_ticks w e a))

of_round : (w : NodeWorld) → IsOrderly w → AreOfRounds w (happened_in (world_round w).1)
of_round w a =
    let taken : NodeWorld × List Occurrence = ends_take_all w (ends_in_order w) in
    both_of w taken (all_happen taken.0 (Ticks ∷ [])) (whole_ends (ends_in_order w) w) (of_ends (ends_in_order w) w a) (tt, tt)

pub of_rounds : (r : ℕ) (w : NodeWorld) → IsOrderly w → AreOfRounds w (world_round_causes r w)
of_rounds zero w a = tt
of_rounds (suc r) w a =
    let first : NodeWorld × List Occurrence = world_round w in
    both_of w first (rounds_of_world r first.0) (whole_round w) (of_round w a)
    (of_rounds r first.0 (kept_round IsOrderly orderly_takes orderly_ticks w a))

-- such a cause is one that the laws of these worlds ask for
pub may_be : (w : NodeWorld) (c : Happening) → IsOfRound w c → (can_happen w c ≡ true) × MayHappen w c × MayBoot w c × MayBeRead w c
may_be w c a = grind arith

-- whatever the world, they are such causes
takes_only : (k : ℕ) (w : NodeWorld) (e : End) → AllByRecursion IsTakeOrTick (happened_in (all_happen w (replicate k (Takes e))).1)
takes_only zero w e = tt
takes_only (suc k) w e = let h0 = can_happen w (Takes e) in let h1 = takes_only k (world_step w (Takes e)).0 e in grind arith

only-append : (a b : List Happening) → AllByRecursion IsTakeOrTick a → AllByRecursion IsTakeOrTick b → AllByRecursion IsTakeOrTick (a ++ b)
only-append [] b p q = q
only-append (c ∷ a) b p q = (p.0, only-append a b p.1 q)

only_both : (first later : NodeWorld × List Occurrence) → AllByRecursion IsTakeOrTick (happened_in first.1) → AllByRecursion IsTakeOrTick (happened_in later.1)
    → AllByRecursion IsTakeOrTick (happened_in (both first later).1)
only_both first later p q = let h0 = causes-append first.1 later.1 in let h1 = only-append (happened_in first.1) (happened_in later.1) p q in grind arith

ends_only : (ends : List End) (w : NodeWorld) → AllByRecursion IsTakeOrTick (happened_in (ends_take_all w ends).1)
ends_only [] w = tt
ends_only (e ∷ ends) w =
    let v : NodeWorld = (end_takes_all w e).0 in
    only_both (end_takes_all w e) (ends_take_all v ends) (takes_only (length (frames_at w e)) w e) (ends_only ends v)

round_only : (w : NodeWorld) → AllByRecursion IsTakeOrTick (happened_in (world_round w).1)
round_only w =
    let taken : NodeWorld × List Occurrence = ends_take_all w (ends_in_order w) in
    only_both taken (all_happen taken.0 (Ticks ∷ [])) (ends_only (ends_in_order w) w) (tt, tt)

pub rounds_only : (r : ℕ) (w : NodeWorld) → AllByRecursion IsTakeOrTick (world_round_causes r w)
rounds_only zero w = tt
rounds_only (suc r) w =
    let first : NodeWorld × List Occurrence = world_round w in
    only_both first (rounds_of_world r first.0) (round_only w) (rounds_only r first.0)

-- ### Time

ticks-append : (a b : List Happening) → world_ticks_in (a ++ b) ≡ world_ticks_in a + world_ticks_in b
ticks-append [] b = omega arith
ticks-append (Ticks ∷ a) b = let rest = ticks-append a b in omega (arith, rest)
ticks-append (_ ∷ a) b = ticks-append a b

ticks_both : (first later : NodeWorld × List Occurrence)
    → world_ticks_in (happened_in (both first later).1) ≡ world_ticks_in (happened_in first.1) + world_ticks_in (happened_in later.1)
ticks_both first later = ap world_ticks_in (causes-append first.1 later.1) ∙ ticks-append (happened_in first.1) (happened_in later.1)

no_ticks : (k : ℕ) (w : NodeWorld) (e : End) → world_ticks_in (happened_in (all_happen w (replicate k (Takes e))).1) ≡ 0
no_ticks zero w e = refl
no_ticks (suc k) w e = let h0 = can_happen w (Takes e) in let h1 = no_ticks k (world_step w (Takes e)).0 e in grind arith

no_ticks_of_ends : (ends : List End) (w : NodeWorld) → world_ticks_in (happened_in (ends_take_all w ends).1) ≡ 0
no_ticks_of_ends [] w = refl
no_ticks_of_ends (e ∷ ends) w =
    let v : NodeWorld = (end_takes_all w e).0 in
    omega (arith, ticks_both (end_takes_all w e) (ends_take_all v ends), no_ticks (length (frames_at w e)) w e, no_ticks_of_ends ends v)

one_tick : (w : NodeWorld) → world_ticks_in (happened_in (world_round w).1) ≡ 1
one_tick w =
    let taken : NodeWorld × List Occurrence = ends_take_all w (ends_in_order w) in
    let last : world_ticks_in (happened_in (all_happen taken.0 (Ticks ∷ [])).1) ≡ 1 = refl in
    omega (arith, ticks_both taken (all_happen taken.0 (Ticks ∷ [])), no_ticks_of_ends (ends_in_order w) w, last)

pub ticks_are : (r : ℕ) (w : NodeWorld) → world_ticks_in (world_round_causes r w) ≡ r
ticks_are zero w = refl
ticks_are (suc r) w =
    let first : NodeWorld × List Occurrence = world_round w in
    omega (arith, ticks_both first (rounds_of_world r first.0), one_tick w, ticks_are r first.0)

-- ## No wire of a world holds more than 64 frames, and so it stays over its rounds

-- frames on the wires of a site
frames_of : (w : NodeWorld) (e : End) (s : Site) → site_at w.sites e.link ≡ Some s → IsFewWires s.link → length (frames_at w e) ≤ 64
frames_of w e s q a = by_test e.at_host (λ is. rw is (rw q a.to_host)) (λ is. rw is (rw q a.to_controller))

-- all are few where those of each site are
few_by_sites : (w : NodeWorld) → ((h : ℕ) (s : Site) → site_at w.sites h ≡ Some s → IsFewWires s.link) → AreFewOnWires w
few_by_sites w a e = by_option (site_at w.sites e.link) (λ q. grind arith) (λ s q. frames_of w e s q (a e.link s q))

wires_of : (w : NodeWorld) (h : ℕ) (s : Site) → AreFewOnWires w → site_at w.sites h ≡ Some s → IsFewWires s.link
wires_of w h s a q =
    let near : length (frames_at w (end_c h)) ≡ length s.link.to_controller = rw q refl in
    let far : length (frames_at w (end_h h)) ≡ length s.link.to_host = rw q refl in
    record { to_controller = omega (arith, near, a (end_c h)); to_host = omega (arith, far, a (end_h h)) }

-- worlds with the same hosts have links with the same ones
none_alike : (xs ys : List Site) (h : ℕ) → hosts_in xs ≡ hosts_in ys → site_at xs h ≡ None → site_at ys h ≡ None
none_alike [] [] h e q = refl
none_alike [] (y ∷ ys) h e q = absurd (cc e)
none_alike (x ∷ xs) [] h e q = absurd (cc e)
none_alike (x ∷ xs) (y ∷ ys) h e q = by_test (x.host == h)
    (λ p. let z : Some x ≡ None = rw p at q in absurd (cc z))
    (λ p. let off : (y.host == h) ≡ false = ap (λ (k : ℕ). k == h) (sym (cc e)) ∙ p in
    rw off (none_alike xs ys h rest (rw p at q)))
  where
    rest : hosts_in xs ≡ hosts_in ys
    rest = cc e

few_after : (w v : NodeWorld) → hosts_in v.sites ≡ hosts_in w.sites
    → ((h : ℕ) (s : Site) → site_at w.sites h ≡ Some s → (es : List LinkEvent) × GoesOnLink v h s es) → AreFewOnWires w → AreFewOnWires v
few_after w v same goes a e = by_option (site_at w.sites e.link)
    (λ q. (let h0 = none_alike w.sites v.sites e.link (sym same) q in grind arith))
    (λ s q. let g = goes e.link s q in
    frames_of v e g.1.later g.1.is (subst IsFewWires (sym g.1.link) (after_few g.0 s.link (wires_of w e.link s a q))))

takes_few : (w : NodeWorld) (e : End) → AreFewOnWires w → AreFewOnWires (world_step w (Takes e)).0
takes_few w e a = few_after w (world_step w (Takes e)).0 (step_kept w (Takes e)) (λ h s q. (link_events_in h w (Takes e), takes_go w e h s q)) a

ticks_few : (w : NodeWorld) → AreFewOnWires w → AreFewOnWires (world_step w TimePassing).0
ticks_few w a = few_after w (world_step w TimePassing).0 (step_kept w TimePassing) (λ h s q. (link_events_in h w TimePassing, ticks_go w h s q)) a

-- ## A round of a world has few causes: no more than 64 frames stand on each wire

count_both : (first later : NodeWorld × List Occurrence)
    → length (happened_in (both first later).1) ≡ length (happened_in first.1) + length (happened_in later.1)
count_both first later = ap (length {A = Happening}) (causes-append first.1 later.1) ∙ length-append (happened_in first.1) (happened_in later.1)

-- no more happens than is to happen
at_most : (causes : List Happening) (w : NodeWorld) → length (happened_in (all_happen w causes).1) ≤ length causes
at_most [] w = omega arith
at_most (c ∷ causes) w = let h0 = can_happen w c in let h1 = at_most causes (world_step w c).0 in grind arith

end_few : (w : NodeWorld) (e : End) → AreFewOnWires w → length (happened_in (end_takes_all w e).1) ≤ 64
end_few w e few = omega (arith, at_most (replicate (length (frames_at w e)) (Takes e)) w, length-replicate (length (frames_at w e)) (Takes e), few e)

ends_few : (ends : List End) (w : NodeWorld) → AreFewOnWires w → length (happened_in (ends_take_all w ends).1) ≤ 64 * length ends
ends_few [] w few = omega arith
ends_few (e ∷ ends) w few =
    let v : NodeWorld = (end_takes_all w e).0 in
    let rest = ends_few ends v (kept_end AreFewOnWires takes_few ticks_few w e few) in
    omega (arith, count_both (end_takes_all w e) (ends_take_all v ends), end_few w e few, rest)

-- each link has two ends
two_ends : (sites : List Site) → length (flat_map (λ (s : Site). end_c s.host ∷ end_h s.host ∷ []) sites) ≡ 2 * length sites
two_ends [] = refl
two_ends (s ∷ sites) = let rest = two_ends sites in omega (arith, rest)

pub round_few : (w : NodeWorld) → AreFewOnWires w → length (happened_in (world_round w).1) ≤ 128 * length w.sites + 1
round_few w few =
    let taken : NodeWorld × List Occurrence = ends_take_all w (ends_in_order w) in
    let last = at_most (Ticks ∷ []) taken.0 in
    omega (arith, count_both taken (all_happen taken.0 (Ticks ∷ [])), ends_few (ends_in_order w) w few, two_ends w.sites, last)

-- ### Rounds

-- few frames stand on the wires of a world, and it has seven hosts at most
record IsSmall (w : NodeWorld) : Type 0 where
  wires : AreFewOnWires w
  hosts : length w.sites ≤ 7

small_step : (w : NodeWorld) (c : Happening) → length w.sites ≤ 7 → length (world_step w c).0.sites ≤ 7
small_step w c few =
    let now = length-map (world_step w c).0.sites (λ (s : Site). s.host) in
    omega (arith, ap (length {A = ℕ}) (step_kept w c), (length-map w.sites (λ (s : Site). s.host)), now, few)

small_takes : (w : NodeWorld) (e : End) → IsSmall w → IsSmall (world_step w (Takes e)).0
small_takes w e a = record { wires = takes_few w e a.wires; hosts = small_step w (Takes e) a.hosts }

small_ticks : (w : NodeWorld) → IsSmall w → IsSmall (world_step w Ticks).0
small_ticks w a = record { wires = ticks_few w a.wires; hosts = small_step w Ticks a.hosts }

all_few : (r : ℕ) (w : NodeWorld) → IsSmall w → length (world_round_causes r w) ≤ (14 * 64 + 1) * r
all_few zero w a = omega arith
all_few (suc r) w a =
    let first : NodeWorld × List Occurrence = world_round w in
    let rest = all_few r first.0 (kept_round IsSmall small_takes small_ticks w a) in
    omega (arith, count_both first (rounds_of_world r first.0), round_few w a.wires, a.hosts, rest)

pub rounds_few : (r : ℕ) (w : NodeWorld) → AreFewOnWires w → length w.sites ≤ 7 → length (world_round_causes r w) ≤ (14 * 64 + 1) * r
rounds_few r w wires hosts = all_few r w (record { wires = wires; hosts = hosts })

pub wires_few : (r : ℕ) (w : NodeWorld) → AreFewOnWires w → AreFewOnWires (rounds_of_world r w).0
wires_few r w a = kept_rounds AreFewOnWires takes_few ticks_few r w a

-- ### Worlds of histories

pub reached_few : (hosts : List ℕ) (w : NodeWorld) → IsReached hosts w → AreFewOnWires w
reached_few hosts w r = few_by_sites w (λ h s q. run_few s.link (fine_there w h s r.so.well.fine q).link.run)

pub reached_small : (hosts : List ℕ) (w : NodeWorld) → IsReached hosts w → length hosts ≤ 7 → length w.sites ≤ 7
reached_small hosts w r few = omega (arith, ap (length {A = ℕ}) r.so.hosts_are, (length-map w.sites (λ (s : Site). s.host)), few)
