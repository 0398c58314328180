-- What a step of a node leaves at its ends for the next one, where no write fails.
use Rattle.node_core.proofs.Words.{AllByRecursion, AreAllDifferent, AtEnd, Bool, Deed, LinkInput, List, Machine, NodeInput, None, Option, Port, Some, Tick}
use Rattle.node_core.proofs.Words.{TimePasses, Work, [], after_input, all_come, all_done, all_owed, ap, ap₂, arith, due_count, false, flat_map, forgets}
use Rattle.node_core.proofs.Words.{forgotten, has_come, input_at, is_late, is_over, left_over, map, passes, refl, reset_few_due, reset_late, settles, steps}
use Rattle.node_core.proofs.Words.{subst, sym, synced, tick_few, times_out, true, true≢false, unless_cut, with_older, without_notice, ℕ, ◌+◌, ◌||◌, ◌∙◌, ◌∷◌}
use Rattle.node_core.proofs.Words.{◌≡◌, ◌≤◌}
use Rattle.node_core.proofs.Joining.{stays_cut, goes_on}
use Rattle.node_core.proofs.Elsewhere.{host_at, same_hosts}
use Rattle.node_core.proofs.Settling.{settled_quiet}
use Rattle.node_core.proofs.Lasting.{notice_age, Of, OfAll, Ready, Rests, all_done_so, each_so, ready_stays, passes_rest}

-- an input makes at most one more control frame
abbrev pub MakesOneMore : LinkInput → Type 0
MakesOneMore i = (e : Machine) → due_count (after_input e i) ≤ due_count e + 1

abbrev pub MakeOneMore : NodeInput → Type 0
MakeOneMore (AtEnd h i) = MakesOneMore i
MakeOneMore TimePasses = Unit {0}

-- ## What comes

-- at most n control frames wait at an end, and the notice is in time unless the session ended in this step
pub record HasCome (n : ℕ) (p : Port) : Type 0 where
  pub few : due_count p.side ≤ n
  pub in_time : is_over p ≡ false → notice_age p.desk ≤ 99

-- an input comes to an end that is at rest
come_one : (o : Option LinkInput) → ((i : LinkInput) → o ≡ Some i → MakesOneMore i) → (p : Port) → Of (Ready 0) p → HasCome 1 (has_come p o)
come_one o more p r = grind arith

input_more : (input : NodeInput) → MakeOneMore input → (p : Port) (i : LinkInput) → input_at input p ≡ Some i → MakesOneMore i
input_more (AtEnd h j) more p i is = grind arith
input_more TimePasses more p i is =
    let e : Tick ≡ i = cc in
    subst (λ x. MakesOneMore x) e tick_few

come_all : (input : NodeInput) → MakeOneMore input → (w : Work) → OfAll (Ready 0) w.ports → AllByRecursion (HasCome 1) (all_come input w).ports
come_all input more w all =
    each_so (λ (p : Port). Of (Ready 0) p) (HasCome 1) (λ (p : Port). has_come p (input_at input p))
    (λ p r. come_one (input_at input p) (λ i is. input_more input more p i is) p r) w.ports all

-- ## Notices that are late

older_age : (p : Port) → notice_age (with_older p).desk ≤ notice_age p.desk + 1
older_age p = grind arith

reset_one : (p : Port) → HasCome 1 p → HasCome 2 (reset_late (with_older p))
reset_one p has = by (is_late (with_older p)) refl
  where
    by : (b : Bool) → is_late (with_older p) ≡ b → HasCome 2 (reset_late (with_older p))
    by true q =
        let few = has.few in
        let one = reset_few_due p.side None in
        rw q (grind arith)
      where
        is_over_late : (p.ended || true) ≡ false → ⊥
        is_over_late over = go p.ended over
          where
            go : (c : Bool) → (c || true) ≡ false → ⊥
            go true e = true≢false e
            go false e = true≢false e
    by false q = grind arith

more_few : (p : Port) → HasCome 1 p → HasCome 2 p
more_few p has = let few = has.few in record { few = omega (arith, few); in_time = has.in_time }

out_all : (input : NodeInput) (w : Work) → AllByRecursion (HasCome 1) w.ports → AllByRecursion (HasCome 2) (times_out input w).ports
out_all (AtEnd h i) w all = each_is_so w.ports all
  where
    each_is_so : (ports : List Port) → AllByRecursion (HasCome 1) ports → AllByRecursion (HasCome 2) ports
    each_is_so [] all = tt
    each_is_so (p ∷ ports) all = (more_few p all.0, each_is_so ports all.1)
out_all TimePasses w all = each_twice w.ports all
  where
    each_twice : (ports : List Port) → AllByRecursion (HasCome 1) ports → AllByRecursion (HasCome 2) (map reset_late (map with_older ports))
    each_twice [] all = tt
    each_twice (p ∷ ports) all = (reset_one p all.0, each_twice ports all.1)

-- ## Sessions that ended

without_one : (p : Port) → HasCome 2 p → Of (Ready 2) (without_notice p)
without_one p has = grind arith

left_all : (w : Work) → AllByRecursion (HasCome 2) w.ports → OfAll (Ready 2) (left_over w).ports
left_all w all = go w.ports all
  where
    go : (ports : List Port) → AllByRecursion (HasCome 2) ports → OfAll (Ready 2) (map without_notice (map (forgets w.ports) ports))
    go [] all = tt
    go (p ∷ ports) all = (without_one (forgets w.ports p) (grind arith), go ports all.1)

settled_all : (syncs : List Deed) (w : Work) → AllByRecursion (HasCome 2) w.ports → OfAll (Ready 2) (settles syncs w).ports
settled_all syncs w all =
    unless (all_done_so (Ready 2) (ready_stays 2) 0 syncs _ (all_done_so (Ready 2) (ready_stays 2) 0 (forgotten w.ports) (left_over w) (left_all w all)))
  where
    owing : List Deed
    owing = all_owed (map (forgets w.ports) w.ports)

    before : Work
    before = all_done 0 syncs (all_done 0 (forgotten w.ports) (left_over w))

    P : Work → Type 0
    P v = OfAll (Ready 2) v.ports

    unless : OfAll (Ready 2) before.ports → OfAll (Ready 2) (unless_cut (all_done 0 owing) before).ports
    unless ready = by before.cut refl
      where
        by : (b : Bool) → before.cut ≡ b → OfAll (Ready 2) (unless_cut (all_done 0 owing) before).ports
        by true q = subst P (sym (stays_cut (all_done 0 owing) before q)) ready
        by false q = subst P (sym (goes_on (all_done 0 owing) before q)) (all_done_so (Ready 2) (ready_stays 2) 0 owing before ready)

-- ## Hosts

come_hosts_all : (input : NodeInput) (ports : List Port) → map host_at (map (λ (p : Port). has_come p (input_at input p)) ports) ≡ map host_at ports
come_hosts_all input [] = refl
come_hosts_all input (p ∷ ports) = ap₂ (λ (n : ℕ) ns. n ∷ ns) (let h0 = input_at input p in grind arith) (come_hosts_all input ports)

late_hosts : (ports : List Port) → map host_at (map reset_late (map with_older ports)) ≡ map host_at ports
late_hosts [] = refl
late_hosts (p ∷ ports) = ap₂ (λ (n : ℕ) ns. n ∷ ns) (let h0 = is_late (with_older p) in grind arith) (late_hosts ports)

out_hosts : (input : NodeInput) (w : Work) → map host_at (times_out input w).ports ≡ map host_at w.ports
out_hosts (AtEnd h i) w = refl
out_hosts TimePasses w = late_hosts w.ports

-- ## A whole step

-- What a step leaves at the ends that were at rest before it: few control frames, notices that are in time, and each end is held while a
-- message waits there.
pub step_rests : (input : NodeInput) → MakeOneMore input → (w : Work) → AreAllDifferent (map host_at w.ports) → OfAll (Ready 0) w.ports
    → (steps input w).cut ≡ false → OfAll (Rests 2) (steps input w).ports
step_rests input more w differ all live = by settled.cut refl
  where
    came : Work
    came = times_out input (all_come input w)

    syncs : List Deed
    syncs = flat_map (synced w.core input) w.ports

    settled : Work
    settled = settles syncs came

    whole : steps input w ≡ unless_cut passes settled
    whole = refl

    hosts : map host_at settled.ports ≡ map host_at w.ports
    hosts =
        same_hosts settled.ports came.ports (settled_quiet syncs came)
        ∙ (out_hosts input (all_come input w) ∙ come_hosts_all input w.ports)

    ready : OfAll (Ready 2) settled.ports
    ready = settled_all syncs came (out_all input (all_come input w) (come_all input more w all))

    P : Work → Type 0
    P v = OfAll (Rests 2) v.ports

    by : (b : Bool) → settled.cut ≡ b → OfAll (Rests 2) (steps input w).ports
    by true q = absurd (true≢false (sym (ap (λ (v : Work). v.cut) (whole ∙ stays_cut passes settled q) ∙ q) ∙ live))
    by false q =
        let is = whole ∙ goes_on passes settled q in
        let D : List ℕ → Type 0 = λ ns. AreAllDifferent ns in
        subst P (sym is) (passes_rest 2 settled (subst D (sym hosts) differ) ready (sym (ap (λ (v : Work). v.cut) is) ∙ live))
