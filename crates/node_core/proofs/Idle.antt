-- Where nothing is left to do at the ends of a node and no identifier came, its step is over.
use Rattle.node_core.proofs.Words.{AllByRecursion, Bool, Deed, IfSome, List, Message, None, Option, Port, Some, Work, [], all_done, ap, ap₂, arith, false}
use Rattle.node_core.proofs.Words.{finishes, goes_through_ends, have_turns, is_held, is_over, is_some, list_any, map, not, option_map_or, passes, port_at, refl}
use Rattle.node_core.proofs.Words.{rests, sym, true, true≢false, unless_cut, ℕ, ◌&&◌, ◌||◌, ◌∙◌, ◌∷◌, ◌≡◌}
use Rattle.node_ends.specs.Ends.{are_idle, is_idle}
use Rattle.node_core.proofs.Joining.{goes_on}
use Rattle.node_core.proofs.HavingTurns.{stays}
use Rattle.node_core.proofs.Passing.{none_waits, not_held}
use Rattle.node_core.proofs.Sendables.{found_all}
use Rattle.node_core.proofs.Undisturbed.{nothing_ended}

pub none_came : {X : Type 0} (o : Option X) → is_some o ≡ false → o ≡ None
none_came o q = grind arith

both : (a b : Bool) → (a && b) ≡ true → (a ≡ true) × (b ≡ true)
both a b q = grind arith

-- an end at which nothing is left to do
idle_parts : (p : Port) → is_idle p ≡ true → (is_over p ≡ false) × (p.side.got ≡ []) × (is_held p.side ≡ false)
idle_parts p idle = by (is_over p) refl idle
  where
    by : (b : Bool) → is_over p ≡ b → (not b && rests p) ≡ true → (is_over p ≡ false) × (p.side.got ≡ []) × (is_held p.side ≡ false)
    by true q z = absurd (true≢false (sym z))
    by false q z = (q, none_waits p.side.got (is_held p.side) z, not_held p.side.got (is_held p.side) z)

all_idle : (ports : List Port) → are_idle ports ≡ true → AllByRecursion (λ (p : Port). is_idle p ≡ true) ports
all_idle [] q = tt
all_idle (p ∷ ports) q = let b = both (is_idle p) (are_idle ports) q in (b.0, all_idle ports b.1)

none_over : (ports : List Port) → AllByRecursion (λ (p : Port). is_idle p ≡ true) ports → list_any is_over ports ≡ false
none_over [] a = refl
none_over (p ∷ ports) a = ap₂ (λ x y. x || y) (idle_parts p a.0).0 (none_over ports a.1)

-- no message waits at the end of the link with a host, and it isn't held
idle_at : (h : ℕ) (ports : List Port) → AllByRecursion (λ (p : Port). is_idle p ≡ true) ports
    → (option_map_or (λ (p : Port). p.side.got) (port_at ports h) [] ≡ []) × (option_map_or (λ (p : Port). is_held p.side) (port_at ports h) false ≡ false)
idle_at h ports a = by (port_at ports h) (found_all _ ports h a)
  where
    by : (o : Option Port) → IfSome o (λ (p : Port). is_idle p ≡ true)
        → (option_map_or (λ (p : Port). p.side.got) o [] ≡ []) × (option_map_or (λ (p : Port). is_held p.side) o false ≡ false)
    by None idle = (refl, refl)
    by (Some p) idle = let i = idle_parts p idle in (i.1, i.2)

-- the node goes through these ends, and does nothing
goes_idly : (hosts : List ℕ) (w : Work) → w.cut ≡ false → AllByRecursion (λ (p : Port). is_idle p ≡ true) w.ports → goes_through_ends hosts w ≡ w
goes_idly [] w live a = refl
goes_idly (h ∷ hosts) w live a =
    let i = idle_at h w.ports a in
    ap (λ (ms : List Message). unless_cut (goes_through_ends hosts) (have_turns h ms w)) i.0
    ∙ (ap (unless_cut (goes_through_ends hosts)) (stays h w i.1) ∙ (goes_on (goes_through_ends hosts) w live ∙ goes_idly hosts w live a))

-- where no session ended and no identifier came, a step ends with its turns
pub only_passes : (syncs : List Deed) (w : Work) → syncs ≡ [] → w.cut ≡ false → list_any is_over w.ports ≡ false → finishes syncs w ≡ passes w
only_passes syncs w none live over =
    ap (unless_cut passes) (nothing_ended syncs w over ∙ ap (λ (ds : List Deed). all_done 0 ds w) none) ∙ goes_on passes w live

pub idle_finishes : (syncs : List Deed) (w : Work) → syncs ≡ [] → w.cut ≡ false → are_idle w.ports ≡ true → finishes syncs w ≡ w
idle_finishes syncs w none live idle =
    let a = all_idle w.ports idle in
    only_passes syncs w none live (none_over w.ports a) ∙ goes_idly (map (λ (p : Port). p.desk.host) w.ports) w live a
