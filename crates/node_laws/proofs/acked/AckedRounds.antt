-- In rounds and in whatever happens in a world, an end that takes a frame has a window of fragments more acknowledged at most.
use Rattle.node_laws.proofs.Words.{AcksAtMost, Activates, AllAllowed, AllAtController, AllAtHost, AllByRecursion, AreDifferent, AreHosts, ArePlayable}
use Rattle.node_laws.proofs.Words.{AreSendableTurns, AreTakenInTurn, Arms, AsksReset, AtController, AtEnd, AtHost, Bool, Boots, CanCome, Comes, CutOff, Deed}
use Rattle.node_laws.proofs.Words.{End, Ending, FollowsNodes, Gives, GoesOnLink, Good, Happening, Header, Inits, IsAckedWithin, IsCut, IsLine, Line, Link}
use Rattle.node_laws.proofs.Words.{LinkEvent, List, Loses, Loss, Memory, NextFrame, NoInput, NodeHistory, NodeWorld, None, NumberedEnd, Occurrence, Reached}
use Rattle.node_laws.proofs.Words.{Resets, Running, Site, Some, Start, Starts, Step, TakeNoFrames, Takes, TimePassing, Turn, Work, [], after_host}
use Rattle.node_laws.proofs.Words.{after_link_events, after_planned, all_happen, ap, append_assoc, arith, beginning, begins_with, boot_found, boot_writes}
use Rattle.node_laws.proofs.Words.{boot_written, boots, by_boot, by_coming, by_controller, by_host, by_loss, by_memory, by_option, by_power, by_running}
use Rattle.node_laws.proofs.Words.{by_test, can_happen, changed_if, comes_at, comes_to, cond, controller_does, controller_work, core_of, counts, end_c, end_h}
use Rattle.node_laws.proofs.Words.{end_takes_all, ending_of, ends_events, ends_in_order, ends_take_all, eqb-true, events_on, exchanged, false, frame_lost}
use Rattle.node_laws.proofs.Words.{frames_at, from_start, happenings, happens, host_cut, host_does, host_work, hosts_in, length, link_after_controller}
use Rattle.node_laws.proofs.Words.{link_events_in, link_to, loses_power_at, map, memory_at, near_end_in, new_line, new_site, new_world, occurrences_in, reached}
use Rattle.node_laws.proofs.Words.{refl, replicate, round_events, rounds_of_world, sending, site_at, site_lost, steps, subst, suc, sym, true, turns_at}
use Rattle.node_laws.proofs.Words.{with_memory, with_node, with_site, work_of, world_after_round, world_behind, world_step, zero, ℕ, ◌*◌, ◌++◌, ◌+◌, ◌==◌, ◌∙◌}
use Rattle.node_laws.proofs.Words.{◌∷◌, ◌≡◌, ◌≤◌}
use Rattle.node_laws.specs.acked.AckedRounds.{AllMayCome, AreAckedWithin, HostAcksAtMost, Leg, amid_round, frames_taken, rounds_gone, taken_in}
use Rattle.node_laws.specs.acked.AckedRounds.{world_after_legs}
use Rattle.node_laws.specs.acked.AckedRounds.Leg.{Comes as LegComes, Rounds}
use Rattle.node_laws.specs.acked.InTurn.{CountsFit, CountsWithin}
use Rattle.node_laws.proofs.acked.InTurn.{far_acks, front_acks, in_turn_acks, near_acks, none_acks, whole_few}
use Rattle.node_laws.proofs.links.Works.{AreFine, IsFineWork, all_done_fine, steps_fine}
use Rattle.node_laws.proofs.links.Worlds.{AreFineSites, AtHostOnly, CanReach, IsFineNode, IsFineSite, IsFineWorld, KeepsFine, MayHappen, fine_clean, may_here}
use Rattle.node_laws.proofs.links.Worlds.{memory_fine, near_clean, near_end_clean, plain_reach, ports_fine, sending_fine, starts_fine, starts_then, step_fine}
use Rattle.node_laws.proofs.links.Worlds.{turns_fine, world_fine}
use Rattle.node_laws.proofs.links.Sites.{IsFineLink, MayCome}
use Rattle.node_laws.proofs.order.Lines.{history_so, step_kept}
use Rattle.node_laws.proofs.rounds.Allowing.{AreOthers, ArePassing, Split, all_go, ends-append, ends_go, ends_of, events-append, fine_there, order_is}
use Rattle.node_laws.proofs.rounds.Allowing.{round_allowed, round_goes, split, takes_allowed, takes_go, takes_pass, ticks_allowed, ticks_go}
use Rattle.node_laws.proofs.telling.Events.{after-append, site_host, site_is, swapped}
use Rattle.node_laws.proofs.worlds.Due.{all_found}
use Rattle.trace_model.specs.declared.line.Line.TheVariants as line

-- ## In a round of a world the ends of each link take frames one after the other: first the controller's, then the host's

-- ### One frame

pub near_takes : (h k : ℕ) (w : NodeWorld) → AllAtController (link_events_in h w (Takes (end_c k)))
near_takes h k w = by_option (site_at w.sites h) (λ q. rw q tt) (λ s q. rw q (grind arith))

pub far_takes : (h k : ℕ) (w : NodeWorld) → AllAtHost (link_events_in h w (Takes (end_h k)))
far_takes h k w = grind arith

-- the end of another link
other_near : (h k : ℕ) → (h == k) ≡ false → (w : NodeWorld) → TakeNoFrames (link_events_in h w (Takes (end_c k)))
other_near h k other w = by_option (site_at w.sites h)
    (λ q. rw q tt)
    (λ s q. rw q (let number : s.host ≡ h = site_host w.sites h s q in
    (grind arith)))

other_far : (h k : ℕ) → (h == k) ≡ false → (w : NodeWorld) → link_events_in h w (Takes (end_h k)) ≡ []
other_far h k other w = by_option (site_at w.sites h)
    (λ q. rw q refl)
    (λ s q. rw q (let number : s.host ≡ h = site_host w.sites h s q in
    rw (ap (λ n. n == k) number ∙ other) refl))

-- ### Many frames

-- it holds of nothing, and of two lists one after the other
record Joins (P : List LinkEvent → Type 0) : Type 1 where
  none : P []
  both : (es fs : List LinkEvent) → P es → P fs → P (es ++ fs)

near_joins : Joins AllAtController
near_joins = record { none = tt; both = both }
  where
    both : (es fs : List LinkEvent) → AllAtController es → AllAtController fs → AllAtController (es ++ fs)
    both [] fs a b = b
    both (AtController e ∷ es) fs a b = both es fs a b
    both (_ ∷ es) fs a b = absurd a

far_joins : Joins AllAtHost
far_joins = record { none = tt; both = both }
  where
    both : (es fs : List LinkEvent) → AllAtHost es → AllAtHost fs → AllAtHost (es ++ fs)
    both [] fs a b = b
    both (AtHost e ∷ es) fs a b = both es fs a b
    both (_ ∷ es) fs a b = absurd a

none_joins : Joins TakeNoFrames
none_joins = record { none = tt; both = both }
  where
    both : (es fs : List LinkEvent) → TakeNoFrames es → TakeNoFrames fs → TakeNoFrames (es ++ fs)
    both [] fs a b = b
    both (AtController e ∷ es) fs a b = (a.0, both es fs a.1 b)
    both (AtHost e ∷ es) fs a b = (a.0, both es fs a.1 b)
    both (_ ∷ es) fs a b = both es fs a b

-- so many frames are taken at an end
many : (P : List LinkEvent → Type 0) → Joins P → (h : ℕ) (e : End) → ((w : NodeWorld) → P (link_events_in h w (Takes e))) → (n : ℕ) (w : NodeWorld)
    → P (events_on h w (replicate n (Takes e)))
many P joins h e each zero w = joins.none
many P joins h e each (suc n) w = let h0 = can_happen w (Takes e) in let h1 = many P joins h e each n (world_step w (Takes e)).0 in grind arith

-- the ends of other links take frames
others : (P : List LinkEvent → Type 0) → Joins P → (h : ℕ) → ((k : ℕ) → (h == k) ≡ false → (w : NodeWorld) → P (link_events_in h w (Takes (end_c k))))
    → (ks : List ℕ) (w : NodeWorld) → AreOthers h ks → P (ends_events h w (ends_of ks))
others P joins h near [] w a = joins.none
others P joins h near (k ∷ ks) w a =
    let v : NodeWorld = (end_takes_all w (end_c k)).0 in
    let o : NodeWorld = (end_takes_all v (end_h k)).0 in
    let first : List LinkEvent = events_on h w (happenings w (line.Deliver (end_c k) None)) in
    let second : List LinkEvent = events_on h v (happenings v (line.Deliver (end_h k) None)) in
    let rest : List LinkEvent = ends_events h o (ends_of ks) in
    let none : (u : NodeWorld) → P (link_events_in h u (Takes (end_h k))) = λ u. subst P (sym (other_far h k a.0 u)) joins.none in
    joins.both first (second ++ rest) (many P joins h (end_c k) (near k a.0) (length (frames_at w (end_c k))) w)
    (joins.both second rest (many P joins h (end_h k) none (length (frames_at v (end_h k))) v) (others P joins h near ks o a.1))

-- ### A round

round_in_turn : (w : NodeWorld) (h : ℕ) (s : Site) → AreDifferent (hosts_in w.sites) → site_at w.sites h ≡ Some s → AreTakenInTurn (round_events h w)
round_in_turn w h s different q =
    let p : Split h (hosts_in w.sites) = split w.sites h s different q in
    let a : List End = ends_of p.before in
    let b : List End = ends_of p.behind in
    let w1 : NodeWorld = (ends_take_all w a).0 in
    let w2 : NodeWorld = (end_takes_all w1 (end_c h)).0 in
    let w3 : NodeWorld = (end_takes_all w2 (end_h h)).0 in
    let f1 : List LinkEvent = ends_events h w a in
    let f2 : List LinkEvent = events_on h w1 (happenings w1 (line.Deliver (end_c h) None)) in
    let f3 : List LinkEvent = events_on h w2 (happenings w2 (line.Deliver (end_h h) None)) in
    let f4 : List LinkEvent = ends_events h w3 b in
    let v : NodeWorld = (ends_take_all w (ends_in_order w)).0 in
    let time : List LinkEvent = events_on h v (TimePassing ∷ []) in
    let order : ends_in_order w ≡ a ++ (end_c h ∷ end_h h ∷ b) =
    order_is w.sites ∙ (ap ends_of p.parts ∙ ends-append p.before (h ∷ p.behind)) in
    let is : ends_events h w (ends_in_order w) ≡ f1 ++ (f2 ++ (f3 ++ f4)) =
    ap (ends_events h w) order ∙ events-append h a (end_c h ∷ end_h h ∷ b) w in
    let parts : round_events h w ≡ (f1 ++ f2) ++ (f3 ++ (f4 ++ time)) =
    ap (λ es. es ++ time) (is ∙ sym (append_assoc f1 f2 (f3 ++ f4)))
    ∙ (append_assoc (f1 ++ f2) (f3 ++ f4) time ∙ ap (λ es. (f1 ++ f2) ++ es) (append_assoc f3 f4 time)) in
    record {
      near = f1 ++ f2;
      far = f3;
      rest = f4 ++ time;
      parts = parts;
      at_controller = near_joins.both f1 f2 (others AllAtController near_joins h (λ k z u. near_takes h k u) p.before w p.first)
          (many AllAtController near_joins h (end_c h) (near_takes h h) (length (frames_at w1 (end_c h))) w1);
      at_host = many AllAtHost far_joins h (end_h h) (far_takes h h) (length (frames_at w2 (end_h h))) w2;
      none_taken = none_joins.both f4 time (others TakeNoFrames none_joins h (λ k z u. other_near h k z u) p.behind w3 p.last) (grind arith);
    }

-- ## Rounds of a world have at most a window of fragments more count as acknowledged at each end of each link, for each round

-- ### Worlds that may be reached

-- hosts are all different, and nodes send what may be sent
pub record IsSound (w : NodeWorld) : Type 0 where
  pub fine : IsFineWorld w
  pub different : AreDifferent (hosts_in w.sites)

pub sound_step : (w : NodeWorld) (c : Happening) → MayHappen w c → IsSound w → IsSound (world_step w c).0
sound_step w c m s = record { fine = step_fine w c m s.fine; different = subst AreDifferent (sym (step_kept w c)) s.different }

pub sound_many : (causes : List Happening) (w : NodeWorld) → ArePassing causes → IsSound w → IsSound (all_happen w causes).0
sound_many [] w p s = s
sound_many (Takes e ∷ causes) w p s =
    by_test (can_happen w (Takes e)) (λ q. rw q (sound_many causes (world_step w (Takes e)).0 p (sound_step w (Takes e) tt s))) (λ q. rw q s)
sound_many (TimePassing ∷ causes) w p s = sound_many causes (world_step w TimePassing).0 p (sound_step w TimePassing tt s)
sound_many (_ ∷ causes) w p s = absurd p

sound_ends : (ends : List End) (w : NodeWorld) → IsSound w → IsSound (ends_take_all w ends).0
sound_ends [] w s = s
sound_ends (e ∷ ends) w s =
    sound_ends ends (end_takes_all w e).0 (sound_many (happenings w (line.Deliver e None)) w (takes_pass (length (frames_at w e)) e) s)

pub sound_round : (w : NodeWorld) → IsSound w → IsSound (world_after_round w)
sound_round w s = sound_many (TimePassing ∷ []) (ends_take_all w (ends_in_order w)).0 tt (sound_ends (ends_in_order w) w s)

sound_rounds : (r : ℕ) (w : NodeWorld) → IsSound w → IsSound (rounds_of_world r w).0
sound_rounds zero w s = s
sound_rounds (suc r) w s = sound_rounds r (world_after_round w) (sound_round w s)

-- ### Rounds

-- a link is a run of the law of one link
good_line : (l : Link) → IsFineLink l → Good l × Reached (core_of l)
good_line l a =
    let run = a.run.run in
    subst (λ (m : Link). Good m × Reached (core_of m)) run.is
    ((from_start new_line IsLine a.run.events run.allowed).good, reached new_line IsLine a.run.events run.allowed)

pub good_of : (w : NodeWorld) (h : ℕ) (s : Site) → IsSound w → site_at w.sites h ≡ Some s → Good s.link × Reached (core_of s.link)
good_of w h s a q = good_line s.link (fine_there w h s a.fine q).link

pub of_goes : (more : ℕ) (v : NodeWorld) (h : ℕ) (s : Site) (es : List LinkEvent) → GoesOnLink v h s es
    → AcksAtMost more more s.link (after_link_events s.link es) → HostAcksAtMost more h s v
of_goes more v h s es g a = grind arith

round_acks : (w : NodeWorld) (h : ℕ) (s : Site) → IsSound w → site_at w.sites h ≡ Some s → HostAcksAtMost 4 h s (world_after_round w)
round_acks w h s a q =
    let es : List LinkEvent = round_events h w in
    of_goes 4 (world_after_round w) h s es (round_goes w h s q)
    (in_turn_acks es s.link (round_allowed w h s a.fine q).0 (good_of w h s a q) (round_in_turn w h s a.different q))

pub rounds_acks : (r : ℕ) (w : NodeWorld) (h : ℕ) (s : Site) → IsSound w → site_at w.sites h ≡ Some s → HostAcksAtMost (4 * r) h s (rounds_of_world r w).0
rounds_acks zero w h s a q = record { later = s; is = q; acks = record { controller = omega arith; host = omega arith } }
rounds_acks (suc r) w h s a q =
    let one = round_acks w h s a q in
    let more = rounds_acks r (world_after_round w) h one.later (sound_round w a) one.is in
    let h1 = one.acks.host in
    let c2 = more.acks.controller in
    let h2 = more.acks.host in
    record { later = more.later; is = more.is; acks = record { controller = omega (arith, one.acks.controller, c2); host = omega (arith, h1, h2) } }

-- ### In the midst of a round

-- the first of so many frames
first_of : (h : ℕ) (e : End) (k n : ℕ) (w : NodeWorld) → k ≤ n
    → (rest : List LinkEvent) × (events_on h w (replicate n (Takes e)) ≡ events_on h w (replicate k (Takes e)) ++ rest)
first_of h e zero n w i = (events_on h w (replicate n (Takes e)), refl)
first_of h e (suc k) zero w i = absurd (omega (arith, i))
first_of h e (suc k) (suc n) w i = go (can_happen w (Takes e)) (first_of h e k n (world_step w (Takes e)).0 (omega (arith, i)))
  where
    now : List LinkEvent
    now = link_events_in h w (Takes e)

    v : NodeWorld
    v = (world_step w (Takes e)).0

    go : (b : Bool) → (rest : List LinkEvent) × (events_on h v (replicate n (Takes e)) ≡ events_on h v (replicate k (Takes e)) ++ rest)
        → (rest : List LinkEvent)
        × (cond b (now ++ events_on h v (replicate n (Takes e))) [] ≡ cond b (now ++ events_on h v (replicate k (Takes e))) [] ++ rest)
    go true (rest, q) = (rest, ap (λ es. now ++ es) q ∙ sym (append_assoc now (events_on h v (replicate k (Takes e))) rest))
    go false more = ([], refl)

pub amid_acks : (w : NodeWorld) (h : ℕ) (s : Site) → IsSound w → site_at w.sites h ≡ Some s → (front back : List End) (e : End) (k : ℕ)
    → ends_in_order w ≡ front ++ e ∷ back → k ≤ length (frames_at (ends_take_all w front).0 e) → HostAcksAtMost 4 h s (amid_round w front e k)
amid_acks w h s a q front back e k order few =
    let v : NodeWorld = (ends_take_all w front).0 in
    let f1 : List LinkEvent = ends_events h w front in
    let f2 : List LinkEvent = events_on h v (replicate k (Takes e)) in
    let g = ends_go front w h s q in
    let f = all_go (replicate k (Takes e)) v h g.later (takes_pass k e) g.is in
    let cut = first_of h e k (length (frames_at v e)) v few in
    let rest : List LinkEvent = ends_events h ((end_takes_all v e).0) back in
    let time : List LinkEvent = events_on h (ends_take_all w (ends_in_order w)).0 (TimePassing ∷ []) in
    let behind : List LinkEvent = cut.0 ++ (rest ++ time) in
    let taken : ends_events h w (ends_in_order w) ≡ f1 ++ ((f2 ++ cut.0) ++ rest) =
    ap (ends_events h w) order ∙ (events-append h front (e ∷ back) w ∙ ap (λ es. f1 ++ (es ++ rest)) cut.1) in
    let parts : round_events h w ≡ (f1 ++ f2) ++ behind =
    ap (λ es. es ++ time) taken
    ∙ (append_assoc f1 ((f2 ++ cut.0) ++ rest) time
    ∙ (ap (λ es. f1 ++ es) (append_assoc (f2 ++ cut.0) rest time ∙ append_assoc f2 cut.0 (rest ++ time)) ∙ sym (append_assoc f1 f2 behind))) in
    let both : f.later.link ≡ after_link_events s.link (f1 ++ f2) =
    f.link ∙ (ap (λ (l : Link). after_link_events l f2) g.link ∙ sym (after-append f1 f2 s.link)) in
    let acks : AcksAtMost 4 4 s.link (after_link_events s.link (f1 ++ f2)) =
    front_acks (round_events h w) (f1 ++ f2) behind s.link parts (round_allowed w h s a.fine q).0 (good_of w h s a q)
    (round_in_turn w h s a.different q) in
    record { later = f.later; is = f.is; acks = (let P : Link → Type 0 = AcksAtMost 4 4 s.link in subst P (sym both) acks) }

-- ### All links

-- a site with this number stands among others that have others
other_number : (sites : List Site) (h n : ℕ) (s : Site) → AllByRecursion (λ k. (k == n) ≡ false) (hosts_in sites) → site_at sites h ≡ Some s
    → (n == h) ≡ false
other_number [] h n s a q = cc
other_number (x ∷ sites) h n s a q = by_test (x.host == h)
    (λ p. let same : x.host ≡ h = eqb-true x.host h p in swapped h n (ap (λ k. k == n) (sym same) ∙ a.0))
    (λ p. other_number sites h n s a.1 (rw p at q))

-- where hosts stay, a site is found where one was found
found_before : (sites later : List Site) (h : ℕ) (t : Site) → hosts_in later ≡ hosts_in sites → site_at later h ≡ Some t
    → (s : Site) × (site_at sites h ≡ Some s)
found_before sites [] h t same q = absurd (cc q)
found_before [] (y ∷ later) h t same q = absurd (let z : y.host ∷ hosts_in later ≡ [] = same in cc)
found_before (x ∷ sites) (y ∷ later) h t same q = by_test (x.host == h)
    (λ p. (x, rw p refl))
    (λ p. let not_here : (y.host == h) ≡ false = ap (λ k. k == h) (let z : y.host ∷ hosts_in later ≡ x.host ∷ hosts_in sites = same in cc) ∙ p in
    let there = found_before sites later h t rest (rw not_here at q) in
    (there.0, rw p there.1))
  where
    rest : hosts_in later ≡ hosts_in sites
    rest = let z : y.host ∷ hosts_in later ≡ x.host ∷ hosts_in sites = same in cc

pub all_within : (more b : ℕ) (w v : NodeWorld) → IsSound w → hosts_in v.sites ≡ hosts_in w.sites
    → ((h : ℕ) (s : Site) → site_at w.sites h ≡ Some s → HostAcksAtMost more h s v) → AreAckedWithin b w → AreAckedWithin (b + more) v
all_within more b w v s same each a = all_found (λ (t : Site). IsAckedWithin (b + more) t.link) v.sites (subst AreDifferent (sym same) s.different) one
  where
    one : (h : ℕ) (t : Site) → site_at v.sites h ≡ Some t → IsAckedWithin (b + more) t.link
    one h t q =
        let was = found_before w.sites v.sites h t same q in
        let x : Site = was.0 in
        let before : IsAckedWithin b x.link = site_is (λ (y : Site). IsAckedWithin b y.link) w.sites h x a was.1 in
        let k = each h x was.1 in
        let is : k.later ≡ t = (let z : Some k.later ≡ Some t = sym k.is ∙ q in cc) in
        let c1 = before.controller in
        let c2 = k.acks.controller in
        let h2 = k.acks.host in
        let there : IsAckedWithin (b + more) k.later.link = record { controller = omega (arith, c1, c2); host = omega (arith, before.host, h2) } in
        subst (λ (y : Site). IsAckedWithin (b + more) y.link) is there

-- hosts stay as frames are taken and time passes
many_kept : (causes : List Happening) (w : NodeWorld) → ArePassing causes → hosts_in (all_happen w causes).0.sites ≡ hosts_in w.sites
many_kept [] w p = refl
many_kept (Takes e ∷ causes) w p = by_test (can_happen w (Takes e))
    (λ q. rw q (many_kept causes (world_step w (Takes e)).0 p ∙ step_kept w (Takes e)))
    (λ q. rw q refl)
many_kept (TimePassing ∷ causes) w p = many_kept causes (world_step w TimePassing).0 p ∙ step_kept w TimePassing
many_kept (_ ∷ causes) w p = absurd p

ends_kept : (ends : List End) (w : NodeWorld) → hosts_in (ends_take_all w ends).0.sites ≡ hosts_in w.sites
ends_kept [] w = refl
ends_kept (e ∷ ends) w =
    ends_kept ends (end_takes_all w e).0 ∙ many_kept (happenings w (line.Deliver e None)) w (takes_pass (length (frames_at w e)) e)

round_kept : (w : NodeWorld) → hosts_in (world_after_round w).sites ≡ hosts_in w.sites
round_kept w = many_kept (TimePassing ∷ []) (ends_take_all w (ends_in_order w)).0 tt ∙ ends_kept (ends_in_order w) w

rounds_kept : (r : ℕ) (w : NodeWorld) → hosts_in (rounds_of_world r w).0.sites ≡ hosts_in w.sites
rounds_kept zero w = refl
rounds_kept (suc r) w = rounds_kept r (world_after_round w) ∙ round_kept w

pub each_rounds : (r : ℕ) (w : NodeWorld) (b : ℕ) → IsSound w → AreAckedWithin b w → AreAckedWithin (b + 4 * r) (rounds_of_world r w).0
each_rounds r w b s a = all_within (4 * r) b w (rounds_of_world r w).0 s (rounds_kept r w) (λ h x q. rounds_acks r w h x s q) a

pub each_amid : (w : NodeWorld) (b : ℕ) → IsSound w → (front back : List End) (e : End) (k : ℕ) → ends_in_order w ≡ front ++ e ∷ back
    → k ≤ length (frames_at (ends_take_all w front).0 e) → AreAckedWithin b w → AreAckedWithin (b + 4) (amid_round w front e k)
each_amid w b s front back e k order few a =
    all_within 4 b w (amid_round w front e k) s (many_kept (replicate k (Takes e)) ((ends_take_all w front).0) (takes_pass k e) ∙ ends_kept front w)
    (λ h x q. amid_acks w h x s q front back e k order few) a

-- ### Whole messages

pub counts_within : (w : NodeWorld) (h : ℕ) (s : Site) → IsSound w → site_at w.sites h ≡ Some s
    → CountsWithin s.link.controller.side × CountsWithin s.link.host.side
counts_within w h s a q =
    let k = good_of w h s a q in (whole_few s.link.controller k.0.controller, whole_few s.link.host k.0.host)

-- ### Worlds that go through rounds

sound_legs : (legs : List Leg) (w : NodeWorld) → AllMayCome w legs → IsSound w → IsSound (world_after_legs w legs)
sound_legs [] w m s = s
sound_legs (LegComes c ∷ legs) w m s = sound_legs legs (world_step w c).0 m.1 (sound_step w c (grind arith) s)
sound_legs (Rounds r ∷ legs) w m s = sound_legs legs (rounds_of_world r w).0 m (sound_rounds r w s)

pub sound_new : (hosts : List ℕ) → AreDifferent hosts → IsSound (new_world hosts)
sound_new hosts d = record { fine = world_fine hosts [] tt; different = subst AreDifferent (sym (same hosts)) d }
  where
    same : (hosts : List ℕ) → hosts_in (map (new_site (replicate 65536 255)) hosts) ≡ hosts
    same [] = refl
    same (h ∷ hosts) = ap (λ ks. h ∷ ks) (same hosts)

pub sound_behind : (hosts : List ℕ) (legs : List Leg) → AreDifferent hosts → AllMayCome (new_world hosts) legs
    → IsSound (world_after_legs (new_world hosts) legs)
sound_behind hosts legs d m = sound_legs legs (new_world hosts) m (sound_new hosts d)

-- ### Histories

pub sound_of : (header : Header) (lines : List Line) (t : NodeHistory) → FollowsNodes header lines t → AreHosts header.hosts.items → ArePlayable lines
    → (front back : List Occurrence) → occurrences_in t ≡ front ++ back → IsSound (world_behind (new_world header.hosts.items) front)
sound_of header lines t follows are p front back q =
    let so = history_so header lines t follows are p front back q in record { fine = so.well.fine; different = so.well.orderly.different }

-- ## Whatever happens in a world, only an end that takes a frame has more fragments acknowledged, and at most a window of them

-- ### One thing that happens on a link

within_after : (b : ℕ) (l m : Link) → AcksAtMost 0 0 l m → IsAckedWithin b l → IsAckedWithin b m
within_after b l m k a = grind arith

-- what begins a step is no frame
abbrev IsNoFrame : Comes → Type 0
IsNoFrame NextFrame = ⊥
IsNoFrame _ = Unit {0}

near_quiet : (b : ℕ) (l : Link) (comes : Comes) (ts : List Turn) (ending : Ending) → IsNoFrame comes → MayCome comes → AreSendableTurns ts → IsFineLink l
    → IsAckedWithin b l → IsAckedWithin b (happens l (AtController (Step comes ts ending)))
near_quiet b l comes ts ending n may send fine a =
    let e : LinkEvent = AtController (Step comes ts ending) in
    within_after b l (happens l e) (none_acks (e ∷ []) l (grind arith, tt) (good_line l fine) (grind arith, tt)) a

far_quiet : (b : ℕ) (l : Link) (comes : Comes) (ts : List Turn) (ending : Ending) → IsNoFrame comes → CanCome (exchanged l) comes → AreSendableTurns ts
    → IsFineLink l → IsAckedWithin b l → IsAckedWithin b (happens l (AtHost (Step comes ts ending)))
far_quiet b l comes ts ending n can send fine a =
    let e : LinkEvent = AtHost (Step comes ts ending) in
    within_after b l (happens l e) (none_acks (e ∷ []) l (grind arith, tt) (good_line l fine) (grind arith, tt)) a

-- ### Sites

abbrev AckedOn : ℕ → List Site → Type 0
AckedOn b sites = AllByRecursion (λ (s : Site). IsAckedWithin b s.link) sites

module _ (b : ℕ) where
  -- a site whose link may be reached so, and that is changed to another one
  abbrev Quiet : (Site → Type 0) → (Site → Site) → Type 0
  Quiet P f = (s : Site) → P s → IsFineSite s → IsAckedWithin b s.link → IsAckedWithin b (f s).link

  each_site : (f : Site → Site) → ((s : Site) → IsFineSite s → IsAckedWithin b s.link → IsAckedWithin b (f s).link) → (sites : List Site)
      → AreFineSites sites → AckedOn b sites → AckedOn b (map f sites)
  each_site f one [] fine a = tt
  each_site f one (s ∷ sites) fine a = (one s fine.0 a.0, each_site f one sites fine.1 a.1)

  changed : (P : Site → Type 0) (h : ℕ) (f : Site → Site) → Quiet P f → (s : Site) → AtHostOnly P h s → IsFineSite s → IsAckedWithin b s.link
      → IsAckedWithin b (changed_if (s.host == h) f s).link
  changed P h f one s known fine a = grind arith

  one_site : (P : Site → Type 0) (h : ℕ) (f : Site → Site) → Quiet P f → (sites : List Site) → AllByRecursion (AtHostOnly P h) sites
      → AreFineSites sites → AckedOn b sites → AckedOn b (with_site h f sites)
  one_site P h f one [] known fine a = tt
  one_site P h f one (s ∷ sites) known fine a = (changed P h f one s known.0 fine.0 a.0, one_site P h f one sites known.1 fine.1 a.1)

  any_site : (h : ℕ) (f : Site → Site) → ((s : Site) → IsFineSite s → IsAckedWithin b s.link → IsAckedWithin b (f s).link) → (sites : List Site)
      → AreFineSites sites → AckedOn b sites → AckedOn b (with_site h f sites)
  any_site h f one sites fine a = one_site (λ s. Unit {0}) h f (λ s k g c. one s g c) sites (nothing sites) fine a
    where
      nothing : (sites : List Site) → AllByRecursion (AtHostOnly (λ s. Unit {0}) h) sites
      nothing [] = tt
      nothing (s ∷ sites) = ((λ q. tt), nothing sites)

  -- ### Steps of nodes

  controller_quiet : (w : NodeWorld) (h : ℕ) (comes : Comes) (f : Work → Work) → IsNoFrame comes → MayCome comes → KeepsFine f → IsFineWorld w
      → AreAckedWithin b w → AreAckedWithin b (controller_does w h comes f).0
  controller_quiet w h comes f n may keeps fine a =
      by_controller (λ p. AreAckedWithin b p.0) w h comes f a
      (λ r is.
      let near_ends : ℕ → NumberedEnd = λ k. near_end_in (link_to w.sites k) (comes_to h comes k) in
      let k : Work = controller_work w r h comes f in
      let done : IsFineWork k =
      keeps (work_of r w.memory.plan near_ends _)
      (ports_fine near_ends (λ j. near_end_clean (link_to w.sites j) (comes_to h comes j) (near_clean w.sites j (fine_clean w.sites fine.sites)))
      r.desks (subst IsFineNode is fine.controller)) in
      each_site (link_after_controller h comes k)
      (λ s g c. near_quiet b s.link (comes_to h comes s.host) (turns_at k s.host) (ending_of k) (grind arith) (may_here h comes s.host may)
      (turns_fine k s.host done) g.link c) w.sites fine.sites a)

  host_quiet : (w : NodeWorld) (h : ℕ) (comes : Comes) (f : Work → Work) → IsNoFrame comes → AllByRecursion (AtHostOnly (CanReach comes) h) w.sites
      → KeepsFine f → IsFineWorld w → AreAckedWithin b w → AreAckedWithin b (host_does w h comes f).0
  host_quiet w h comes f n can keeps fine a =
      by_host (λ p. AreAckedWithin b p.0) w h comes f a
      (λ s r found is.
      let here : IsFineSite s = site_is IsFineSite w.sites h s fine.sites found in
      let k : Work = host_work s r comes f in
      let near_ends : ℕ → NumberedEnd = λ j. near_end_in (exchanged s.link) comes in
      let done : IsFineWork k =
      keeps (work_of r s.memory.plan near_ends _)
      (ports_fine near_ends (λ j. near_end_clean (exchanged s.link) comes here.link.line.far) r.desks (subst IsFineNode is here.node)) in
      one_site (CanReach comes) h (after_host comes k)
      (λ t can g c. far_quiet b t.link comes (turns_at k t.host) (ending_of k) n can (turns_fine k t.host done) g.link c) w.sites can fine.sites a)

  coming_quiet : (w : NodeWorld) (e : End) (comes : Comes) → IsNoFrame comes → MayCome comes → AllByRecursion (AtHostOnly (CanReach comes) e.link) w.sites
      → IsFineWorld w → AreAckedWithin b w → AreAckedWithin b (comes_at w e comes).0
  coming_quiet w e comes n may reach fine a =
      by_coming (λ p. AreAckedWithin b p.0) w e comes a
      (λ i is q. host_quiet w e.link comes (steps (AtEnd e.link i)) n reach (λ v c. steps_fine (AtEnd e.link i) v c) fine a)
      (λ i is q. controller_quiet w e.link comes (steps (AtEnd e.link i)) n may (λ v c. steps_fine (AtEnd e.link i) v c) fine a)

  begins_quiet : (w : NodeWorld) (h : ℕ) (deeds : List Deed) → AreFine deeds → IsFineWorld w → AreAckedWithin b w
      → AreAckedWithin b (host_does w h NoInput (begins_with h deeds)).0
  begins_quiet w h deeds d fine a =
      host_quiet w h NoInput (begins_with h deeds) tt (plain_reach h NoInput tt w.sites) (λ v c. all_done_fine h deeds v d c) fine a

  -- ### Power, memories and losses

  power_quiet : (n : ℕ) (w : NodeWorld) → IsFineWorld w → AreAckedWithin b w → AreAckedWithin b (loses_power_at n w)
  power_quiet n w fine a =
      by_power (AreAckedWithin b) n w
      (λ z. each_site _ (λ s g c. near_quiet b s.link NoInput [] CutOff tt tt tt g.link c) w.sites fine.sites a)
      (λ z. any_site n host_cut (λ s g c. far_quiet b s.link NoInput [] CutOff tt tt tt g.link c) w.sites fine.sites a)

  memory_quiet : (n : ℕ) (m : Memory) (w : NodeWorld) → IsFineWorld w → AreAckedWithin b w → AreAckedWithin b (with_memory n m w)
  memory_quiet n m w fine a =
      by_memory (AreAckedWithin b) n w m (λ z. a) (λ z. any_site n (λ s. record s { memory = m }) (λ s g c. c) w.sites fine.sites a)

  node_quiet : (n : ℕ) (r : Running) (w : NodeWorld) → IsFineWorld w → AreAckedWithin b w → AreAckedWithin b (with_node n r w)
  node_quiet n r w fine a =
      by_running (AreAckedWithin b) n w r (λ z. a) (λ z. any_site n (λ s. record s { node = Some r }) (λ s g c. c) w.sites fine.sites a)

  boots_quiet : (w : NodeWorld) (n : ℕ) → IsFineWorld w → AreAckedWithin b w → AreAckedWithin b (boots w n).0
  boots_quiet w n fine a =
      let m : Memory = after_planned (boot_writes (memory_at w n).content) (memory_at w n) in
      let v : NodeWorld = boot_written w n in
      let kept : IsFineWorld v = memory_fine n m w fine in
      let still : AreAckedWithin b v = memory_quiet n m w fine a in
      by_boot (λ p. AreAckedWithin b p.0) w n (power_quiet n v kept still) (node_quiet n (boot_found w n) v kept still)

  lost_quiet_all : (w : NodeWorld) (e : End) (why : Loss) → IsFineWorld w → AreAckedWithin b w → AreAckedWithin b (frame_lost w e why).0
  lost_quiet_all w e why fine a =
      by_loss (λ p. AreAckedWithin b p.0) w e why
      (λ q. any_site e.link (λ s. record (site_lost e why s) { node = counts why e.link s.node }) (λ s g c. grind arith)
      w.sites fine.sites a)
      (λ q. any_site e.link (site_lost e why) (λ s g c. grind arith) w.sites fine.sites a)

-- ### A frame, and time

took_acks : (w : NodeWorld) (e : End) (h : ℕ) (s : Site) → IsSound w → site_at w.sites h ≡ Some s → HostAcksAtMost 4 h s (world_step w (Takes e)).0
took_acks w e h s a q = go e.at_host (takes_go w e h s q) (takes_allowed w h s a.fine q e) (near_takes h e.link w) (far_takes h e.link w)
  where
    at : Bool → End
    at b = record { link = e.link; at_host = b }

    events : Bool → List LinkEvent
    events b = link_events_in h w (Takes (at b))

    go : (b : Bool) → GoesOnLink (world_step w (Takes (at b))).0 h s (events b) → AllAllowed s.link (events b) → AllAtController (events false)
        → AllAtHost (events true) → HostAcksAtMost 4 h s (world_step w (Takes (at b))).0
    go false g may near far =
        let k = near_acks (events false) s.link may (good_of w h s a q) near in
        let far = k.host in
        of_goes 4 (world_step w (Takes (at false))).0 h s (events false) g (record { controller = k.controller; host = omega (arith, far) })
    go true g may near far =
        let k = far_acks (events true) s.link may (good_of w h s a q) far in
        let near = k.controller in
        of_goes 4 (world_step w (Takes (at true))).0 h s (events true) g (record { controller = omega (arith, near); host = k.host })

time_acks : (w : NodeWorld) (h : ℕ) (s : Site) → IsSound w → site_at w.sites h ≡ Some s → HostAcksAtMost 0 h s (world_step w TimePassing).0
time_acks w h s a q =
    let events : List LinkEvent = link_events_in h w TimePassing in
    of_goes 0 (world_step w TimePassing).0 h s events (ticks_go w h s q)
    (none_acks events s.link (ticks_allowed w h s a.fine q) (good_of w h s a q) (grind arith))

-- ### Whatever happens

within_longer : (b c : ℕ) (w : NodeWorld) → b ≤ c → AreAckedWithin b w → AreAckedWithin c w
within_longer b c w q a = go w.sites a
  where
    go : (sites : List Site) → AckedOn b sites → AckedOn c sites
    go [] a = tt
    go (s ∷ sites) a = (grind arith, go sites a.1)

pub step_acks : (b : ℕ) (w : NodeWorld) (c : Happening) → MayHappen w c → IsSound w → AreAckedWithin b w
    → AreAckedWithin (b + 4 * taken_in c) (world_step w c).0
step_acks b w (Takes e) m s a = all_within 4 b w (world_step w (Takes e)).0 s (step_kept w (Takes e)) (λ h x q. took_acks w e h x s q) a
step_acks b w TimePassing m s a =
    within_longer (b + 0) (b + 4 * 0) (world_step w TimePassing).0 (omega arith)
    (all_within 0 b w (world_step w TimePassing).0 s (step_kept w TimePassing) (λ h x q. time_acks w h x s q) a)
step_acks b w (Boots n) m s a = within_longer b (b + 4 * 0) (world_step w (Boots n)).0 (omega arith) (boots_quiet b w n s.fine a)
step_acks b w (IsCut n) m s a = within_longer b (b + 4 * 0) (world_step w (IsCut n)).0 (omega arith) (power_quiet b n w s.fine a)
step_acks b w (Gives e message) m s a =
    within_longer b (b + 4 * 0) (world_step w (Gives e message)).0 (omega arith)
    (begins_quiet b w e.link (sending e.link message) (sending_fine e.link message m) s.fine a)
step_acks b w (Inits e identity pipes) m s a =
    within_longer b (b + 4 * 0) (world_step w (Inits e identity pipes)).0 (omega arith)
    (begins_quiet b w e.link (beginning identity pipes) (tt, (omega arith, tt)) s.fine a)
step_acks b w (Loses e why) m s a = within_longer b (b + 4 * 0) (world_step w (Loses e why)).0 (omega arith) (lost_quiet_all b w e why s.fine a)
step_acks b w (Resets e window) m s a =
    within_longer b (b + 4 * 0) (world_step w (Resets e window)).0 (omega arith)
    (coming_quiet b w e (AsksReset window) tt m (plain_reach e.link (AsksReset window) m w.sites) s.fine a)
step_acks b w (Activates h sync power) m s a =
    let near : NodeWorld = (comes_at w (end_c h) (Starts power)).0 in
    let first : AreAckedWithin b near =
    controller_first in
    within_longer b (b + 4 * 0) (world_step w (Activates h sync power)).0 (omega arith)
    (coming_quiet b near (end_h h) (Starts sync) tt tt (starts_then w h sync power m s.fine) (starts_fine w h power s.fine) first)
  where
    controller_first : AreAckedWithin b (comes_at w (end_c h) (Starts power)).0
    controller_first = controller_quiet b w h (Starts power) (steps (AtEnd h (Start power))) tt tt (λ v c. steps_fine (AtEnd h (Start power)) v c) s.fine a
step_acks b w (Arms n plan) m s a =
    within_longer b (b + 4 * 0) (world_step w (Arms n plan)).0 (omega arith)
    (memory_quiet b n (record (memory_at w n) { plan = Some plan }) w s.fine a)

-- ### Legs

at_first : (hosts : List ℕ) → AreAckedWithin 0 (new_world hosts)
at_first [] = tt
at_first (h ∷ hosts) = (record { controller = omega arith; host = omega arith }, at_first hosts)

legs_acks : (legs : List Leg) (b : ℕ) (w : NodeWorld) → AllMayCome w legs → IsSound w → AreAckedWithin b w
    → AreAckedWithin (b + 4 * (frames_taken legs + rounds_gone legs)) (world_after_legs w legs)
legs_acks [] b w m s a = within_longer b (b + 4 * (0 + 0)) w (omega arith) a
legs_acks (LegComes c ∷ legs) b w m s a =
    let v : NodeWorld = (world_step w c).0 in
    let may : MayHappen w c = grind arith in
    let n : ℕ = taken_in c in
    let t : ℕ = frames_taken legs in
    let r : ℕ = rounds_gone legs in
    within_longer (b + 4 * n + 4 * (t + r)) (b + 4 * (n + t + r)) (world_after_legs v legs) (omega arith)
    (legs_acks legs (b + 4 * n) v m.1 (sound_step w c may s) (step_acks b w c may s a))
legs_acks (Rounds n ∷ legs) b w m s a =
    let v : NodeWorld = (rounds_of_world n w).0 in
    let t : ℕ = frames_taken legs in
    let r : ℕ = rounds_gone legs in
    within_longer (b + 4 * n + 4 * (t + r)) (b + 4 * (t + (n + r))) (world_after_legs v legs) (omega arith)
    (legs_acks legs (b + 4 * n) v m (sound_rounds n w s) (each_rounds n w b s a))

pub all_acks : (hosts : List ℕ) (legs : List Leg) → AreDifferent hosts → AllMayCome (new_world hosts) legs
    → AreAckedWithin (4 * (frames_taken legs + rounds_gone legs)) (world_after_legs (new_world hosts) legs)
all_acks hosts legs d m =
    within_longer (0 + 4 * (frames_taken legs + rounds_gone legs)) (4 * (frames_taken legs + rounds_gone legs)) (world_after_legs (new_world hosts) legs)
    (omega arith) (legs_acks legs 0 (new_world hosts) m (sound_new hosts d) (at_first hosts))

-- ### 32 bits

fit : (b : ℕ) (w : NodeWorld) (h : ℕ) (s : Site) → b ≤ 4000000004 → IsSound w → AreAckedWithin b w → site_at w.sites h ≡ Some s → CountsFit s.link
fit b w h s few sound a q =
    let within : IsAckedWithin b s.link = site_is (λ (x : Site). IsAckedWithin b x.link) w.sites h s a q in
    let whole = counts_within w h s sound q in
    let near = within.controller in
    let far = within.host in
    let near_whole = whole.0 in
    let far_whole = whole.1 in
    grind arith

pub legs_fit : (hosts : List ℕ) (legs : List Leg) → AreDifferent hosts → AllMayCome (new_world hosts) legs
    → frames_taken legs + rounds_gone legs ≤ 1000000000 → (h : ℕ) (s : Site) → site_at (world_after_legs (new_world hosts) legs).sites h ≡ Some s
    → CountsFit s.link
legs_fit hosts legs d m few h s q =
    let n : ℕ = frames_taken legs + rounds_gone legs in
    fit (4 * n) (world_after_legs (new_world hosts) legs) h s (omega (arith, few)) (sound_behind hosts legs d m) (all_acks hosts legs d m) q

pub amid_fit : (hosts : List ℕ) (legs : List Leg) → AreDifferent hosts → AllMayCome (new_world hosts) legs
    → frames_taken legs + rounds_gone legs ≤ 1000000000 → (front back : List End) (e : End) (k : ℕ)
    → ends_in_order (world_after_legs (new_world hosts) legs) ≡ front ++ e ∷ back
    → k ≤ length (frames_at (ends_take_all (world_after_legs (new_world hosts) legs) front).0 e) → (h : ℕ) (s : Site)
    → site_at (amid_round (world_after_legs (new_world hosts) legs) front e k).sites h ≡ Some s → CountsFit s.link
amid_fit hosts legs d m few front back e k order most h s q =
    let n : ℕ = frames_taken legs + rounds_gone legs in
    let w : NodeWorld = world_after_legs (new_world hosts) legs in
    let sound : IsSound w = sound_behind hosts legs d m in
    fit (4 * n + 4) (amid_round w front e k) h s (omega (arith, few))
    (sound_many (replicate k (Takes e)) (ends_take_all w front).0 (takes_pass k e) (sound_ends front w sound))
    (each_amid w (4 * n) sound front back e k order most (all_acks hosts legs d m)) q
