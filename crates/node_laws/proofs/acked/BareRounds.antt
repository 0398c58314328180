-- In a round of a bare world a window of fragments more counts as acknowledged at each end at most, and four may indeed.
use Rattle.node_laws.proofs.Words.{AcksAtMost, AllAllowed, AllAtController, AllAtHost, AreTakenInTurn, AtController, Bare, Controller, Give, GoesOut, Good}
use Rattle.node_laws.proofs.Words.{Host, IsStart, Link, LinkEvent, List, NoInput, Reached, Step, [], acked_at_controller, after_link_events, ap, append-nil}
use Rattle.node_laws.proofs.Words.{arith, core_of, end_of, event_of, from_start, happens, length, link_after_all, map, map-append, new_link, reached, refl}
use Rattle.node_laws.proofs.Words.{replicate, subst, suc, sym, zero, ℕ, ◌*◌, ◌++◌, ◌∙◌, ◌∷◌, ◌≡◌}
use Rattle.history.specs.Histories.{Cause}
use Rattle.history.specs.Histories.Cause.{Taken, Ticked}
use Rattle.node_laws.specs.rounds.BareRounds.{causes_of_round, causes_of_rounds, link_after_round}
use Rattle.node_laws.proofs.acked.InTurn.{front_acks, good_after}
use Rattle.node_laws.proofs.rounds.Allowing.{after_causes, bare_round_allowed}

-- ## In a round of a bare world the ends take frames one after the other, so at most a window of fragments more count as acknowledged at each

near_taken : (k h : ℕ) → AllAtController (map event_of (replicate k (Taken (end_of h Controller))))
near_taken zero h = tt
near_taken (suc k) h = near_taken k h

far_taken : (k h : ℕ) → AllAtHost (map event_of (replicate k (Taken (end_of h Host))))
far_taken zero h = tt
far_taken (suc k) h = far_taken k h

bare_in_turn : (h : ℕ) (l : Link) → AreTakenInTurn (map event_of (causes_of_round h l))
bare_in_turn h l =
    let near : List Cause = replicate (length l.to_controller) (Taken (end_of h Controller)) in
    let k : ℕ = length (link_after_all l near).to_host in
    let far : List Cause = replicate k (Taken (end_of h Host)) in
    record {
      near = map event_of near;
      far = map event_of far;
      rest = map event_of (Ticked ∷ []);
      parts = map-append event_of near (far ++ Ticked ∷ []) ∙ ap (λ es. map event_of near ++ es) (map-append event_of far (Ticked ∷ []));
      at_controller = near_taken (length l.to_controller) h;
      at_host = far_taken k h;
      none_taken = tt;
    }

pub good_start : (l : Link) → IsStart l → (before : List LinkEvent) → AllAllowed l before
    → Good (after_link_events l before) × Reached (core_of (after_link_events l before))
good_start l s before a = ((from_start l s before a).good, reached l s before a)

pub bare_round_acks : (h : ℕ) (l : Link) → Good l × Reached (core_of l) → (front back : List Cause) → causes_of_round h l ≡ front ++ back
    → AcksAtMost 4 4 l (link_after_all l front)
bare_round_acks h l k front back q =
    let parts : map event_of (causes_of_round h l) ≡ map event_of front ++ map event_of back = ap (map event_of) q ∙ map-append event_of front back in
    subst (AcksAtMost 4 4 l) (sym (after_causes front l))
    (front_acks (map event_of (causes_of_round h l)) (map event_of front) (map event_of back) l parts (bare_round_allowed h l) k (bare_in_turn h l))

all-append : (cs ds : List Cause) (l : Link) → link_after_all l (cs ++ ds) ≡ link_after_all (link_after_all l cs) ds
all-append [] ds l = refl
all-append (c ∷ cs) ds l = all-append cs ds _

pub bare_rounds_acks : (r h : ℕ) (l : Link) → Good l × Reached (core_of l) → AcksAtMost (4 * r) (4 * r) l (link_after_all l (causes_of_rounds r h l))
bare_rounds_acks zero h l k = record { controller = omega arith; host = omega arith }
bare_rounds_acks (suc r) h l k =
    let now : List Cause = causes_of_round h l in
    let m : Link = link_after_round h l in
    let later : List Cause = causes_of_rounds r h m in
    let one : AcksAtMost 4 4 l m = bare_round_acks h l k now [] (sym (append-nil now)) in
    let K : Link → Type 0 = λ o. Good o × Reached (core_of o) in
    let known : K m = subst K (sym (after_causes now l)) (good_after (map event_of now) l (bare_round_allowed h l) k) in
    let more : AcksAtMost (4 * r) (4 * r) m (link_after_all m later) = bare_rounds_acks r h m known in
    let c1 = one.controller in
    let h1 = one.host in
    let c2 = more.controller in
    let h2 = more.host in
    subst (AcksAtMost (4 * suc r) (4 * suc r) l) (sym (all-append now later l)) (grind arith)

-- ## Four fragments more may indeed count as acknowledged in one round

-- the controller's end of a bare link has sent the first four fragments of a message
abbrev sent_four : Link
sent_four = happens (new_link Bare Bare) (AtController (Step NoInput (Give (5, replicate 120 7) ∷ []) GoesOut))

-- in the first round they are taken and answered, in the second the answers are taken
none_at_first : acked_at_controller (link_after_round 1 sent_four) ≡ 0
none_at_first = refl

four_then : acked_at_controller (link_after_round 1 (link_after_round 1 sent_four)) ≡ 4
four_then = refl
