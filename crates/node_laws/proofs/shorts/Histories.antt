-- Lines let a host take frames that are there, and behind each event the first message that is left at a host lacks room.
use Rattle.node_laws.proofs.Words.{AllByRecursion, AreHosts, ArePlayable, AtEachOccurrence, AtEnd, End, Ending, Entry, FollowsNodes, GoesOut, Happening, Header}
use Rattle.node_laws.proofs.Words.{IsBegunByHost, IsFew, IsHost, IsInitOfHost, IsNodeOf, IsSentByHost, Line, LinkInput, List, NextFrame, NodeHistory, NodeWorld}
use Rattle.node_laws.proofs.Words.{None, Occurrence, OnWire, Site, Some, Takes, Ticks, Work, [], after_host, ap, append_assoc, ap₂, arith, by_coming, by_host}
use Rattle.node_laws.proofs.Words.{by_option, by_test, end_h, ending_of, entries_in, eqb, exchanged, false, frames_at, happenings, host_does, host_work, inl}
use Rattle.node_laws.proofs.Words.{inr, is_left_short, is_some, length, list_any, ne_eqb, new_world, node_entries, occurrences_in, refl, refusal_in, replicate}
use Rattle.node_laws.proofs.Words.{same_number, site_at, steps, steps_at_controller, subst, suc, sym, taken_of, true, true≢false, turns_at, unwrap_or}
use Rattle.node_laws.proofs.Words.{world_behind, world_step, zero, ℕ, ◌++◌, ◌||◌, ◌∙◌, ◌∷◌, ◌≡◌, ◌≤◌}
use Rattle.node_laws.specs.reply_passes.Counts.{commands_noted as commits}
use Rattle.node_laws.proofs.cuts.Ticking.{with_here}
use Rattle.node_laws.proofs.hosts.Events.{E, IsMissing, event_parted, short_so}
use Rattle.node_laws.proofs.hosts.Histories.{low, so, stands}
use Rattle.node_laws.proofs.order.Lines.{IsSo}
use Rattle.node_laws.proofs.shorts.Left.{AreCalmAt, runs_calm}
use Rattle.node_laws.proofs.telling.Lasting.{AllMay, AreCaused, events_of_steps, lines_caused, repeated_may}
use Rattle.node_laws.proofs.worlds.Short.{each_steps, off_read, short_off, short_still}
use Rattle.node_laws.proofs.worlds.Due.{step_near, taken_most}
use Rattle.trace_model.specs.declared.line.Line.TheVariants as line

-- ## Lines let a host take no more frames than stand on its wire

-- a host takes a frame only where one stands on its wire, while it runs
abbrev pub MayTake : NodeWorld → Happening → Type 0
MayTake w (Takes e) = e.at_host ≡ true → (s : Site) → site_at w.sites e.link ≡ Some s → is_some s.node ≡ true → frames_at w e ≡ [] → ⊥
MayTake w _ = Unit {0}

-- so many frames stand on the wire to this host, while it runs
abbrev Stand : NodeWorld → ℕ → ℕ → Type 0
Stand w h n = (s : Site) → site_at w.sites h ≡ Some s → is_some s.node ≡ true → n ≤ length s.link.to_host

fewer : (w : NodeWorld) (h n : ℕ) → Stand w h (suc n) → Stand w h n
fewer w h n many s found on = let some = many s found on in omega (arith, some)

far_stand : (w : NodeWorld) (h : ℕ) (i : LinkInput) (n : ℕ) → Stand w h (suc n) → Stand (host_does w h NextFrame (steps (AtEnd h i))).0 h n
far_stand w h i n many =
    by_host (λ p. Stand p.0 h n) w h NextFrame (steps (AtEnd h i)) (fewer w h n many) (λ s r found q.
    let k : Work = host_work s r NextFrame (steps (AtEnd h i)) in
    λ x there on.
    let same : Some (after_host NextFrame k s) ≡ Some x = sym (with_here (after_host NextFrame k) (λ y. refl) w.sites h s found) ∙ there in
    let one : after_host NextFrame k s ≡ x = cc in
    subst (λ (y : Site). n ≤ length y.link.to_host) one (by_test k.cut
    (λ off. grind arith)
    (λ still. let out : ending_of k ≡ GoesOut = rw still refl in
    subst (λ (g : Ending). n ≤ length (steps_at_controller (exchanged s.link) NextFrame (turns_at k s.host) g).to_controller) (sym out)
    (step_near (exchanged s.link) (turns_at k s.host) n (many s found (ap is_some q))))))

take_stands : (w : NodeWorld) (e : End) (n : ℕ) → e.at_host ≡ true → Stand w e.link (suc n) → Stand (world_step w (Takes e)).0 e.link n
take_stands w e n far many =
    by_coming (λ p. Stand p.0 e.link n) w e NextFrame (fewer w e.link n many) (λ i z seen. far_stand w e.link i n many)
    (λ i z seen. absurd (true≢false (sym far ∙ z)))

frames_far : (w : NodeWorld) (e : End) (s : Site) → e.at_host ≡ true → site_at w.sites e.link ≡ Some s → frames_at w e ≡ s.link.to_host
frames_far w e s far found = grind arith

takes_may : (n : ℕ) (w : NodeWorld) (e : End) → e.at_host ≡ true → Stand w e.link n → AllMay MayTake w (replicate n (Takes e))
takes_may zero w e far many = tt
takes_may (suc n) w e far many = (
  λ at s found on none.
      absurd (omega (arith, many s found on, ap (λ (xs : List OnWire). length xs) (sym (frames_far w e s far found) ∙ none))),
  takes_may n (world_step w (Takes e)).0 e far (take_stands w e n far many),
)

line_takes : (w : NodeWorld) (l : Line) → IsSentByHost l → refusal_in w l ≡ None → AllMay MayTake w (happenings w l)
line_takes w (line.Deliver e count) is none = by_test e.at_host
    (λ far. takes_may (taken_of count (frames_at w e)) w e far
    (λ s found on. let same = ap (λ (xs : List OnWire). length xs) (frames_far w e s far found) in omega (arith, taken_most count (frames_at w e), same)))
    (λ near. repeated_may MayTake (Takes e) (λ v far. absurd (true≢false (sym far ∙ near))) (taken_of count (frames_at w e)) w)
line_takes w (line.Damage e places) is none = grind arith
line_takes w (line.Tick times) is none = repeated_may MayTake Ticks (λ v. tt) (unwrap_or times 1) w
line_takes w (line.Busy e) is none = tt
line_takes w (line.Ready e) is none = tt
line_takes w (line.Tables n) is none = tt
line_takes w (line.Settle rounds) is none = tt
line_takes w _ is none = (tt, tt)

-- ## At the end of each event in which a host made a step and runs on, the first message that is left at its end lacks room

module _ (header : Header) (lines : List Line) (t : NodeHistory) (follows : FollowsNodes header lines t) (are : AreHosts header.hosts.items)
    (playable : ArePlayable lines) (sent : AllByRecursion IsSentByHost lines) (inits : AllByRecursion IsInitOfHost lines)
    (sides : AllByRecursion IsBegunByHost lines) (few : IsFew (node_entries t)) (noted : commits (node_entries t) ≤ 4000000000) where
  abbrev hosts : List ℕ
  hosts = header.hosts.items

  -- one of the hosts
  is_one : (earlier : List ℕ) (h : ℕ) (later : List ℕ) → list_any (λ k. eqb k h) (earlier ++ h ∷ later) ≡ true
  is_one [] h later = ap (λ b. b || list_any (λ k. eqb k h) later) (same_number h)
  is_one (x ∷ earlier) h later = by_test (eqb x h) (λ q. rw q refl) (λ q. rw q (is_one earlier h later))

  module _ (past back : List Occurrence) (o : Occurrence) (parts : occurrences_in t ≡ past ++ (o ∷ back)) where
    abbrev here : NodeWorld
    here = world_behind (new_world hosts) past

    may : (o.entries ≡ (world_step here o.cause).1) × MayTake here o.cause
    may =
        each_steps MayTake past back o (new_world hosts)
        (subst (AreCaused MayTake (new_world hosts)) (sym (ap events_of_steps follows.steps_are) ∙ parts)
        (lines_caused MayTake IsSentByHost line_takes lines (new_world hosts) sent))

    module _ (n : ℕ) (off : eqb n 0 ≡ false) (node : IsNodeOf t.header.hosts.items n) where
      abbrev Short : Happening → List Entry → Type 0
      Short c es = is_left_short hosts past (record { cause = c; entries = es }) (end_h n) ≡ true

      abbrev IsOff : Type 0
      IsOff = (s : Site) → site_at here.sites n ≡ Some s → s.node ≡ None

      -- a host that doesn't run doesn't run behind what is noted of others
      off_short : (c : Happening) (es : List Entry) → IsOff → AreCalmAt n es → Short c es
      off_short c es all calm =
          short_off hosts past (record { cause = c; entries = es }) (end_h n)
          (runs_calm n (entries_in past) es calm ∙ off_read n header lines t follows are sent few node past (o ∷ back) parts (grind arith))

      -- what is known of the world
      abbrev is_so : IsSo hosts past here
      is_so = so header lines t follows are playable sent inits sides few past (o ∷ back) parts

      -- where no frame is there, it doesn't run
      missing_off : (c : Happening) → MayTake here c → IsMissing hosts past here is_so n off c → IsOff
      missing_off (Takes e) takes missing = λ s found. by_option s.node
          (λ q. q)
          (λ r q. absurd (takes (ap (λ (f : End). f.at_host) missing.0) s (ap (λ (f : End). site_at here.sites f.link) missing.0 ∙ found)
          (ap is_some q) missing.1))
      missing_off _ takes missing = absurd missing

      event_short : (c : Happening) → MayTake here c → commits (entries_in past ++ (world_step here c).1) ≤ 4000000000 → Short c (world_step here c).1
      event_short c takes low_here =
          by (event_parted hosts past here is_so n off
          (stands header lines t follows are playable sent inits sides few past (o ∷ back) parts n) c low_here) where
            es : List Entry
            es = (world_step here c).1

            by : E hosts past here is_so n off c es → Short c es
            by (inl (none, inl still)) = short_still hosts past (record { cause = c; entries = es }) (end_h n) still
            by (inl (none, inr (inl missing, calm))) = off_short c es (missing_off c takes missing) calm
            by (inl (none, inr (inr is, calm))) = off_short c es is calm
            by (inr a) = short_so hosts past n c es a

      host_short : Short o.cause o.entries
      host_short =
          subst (Short o.cause) (sym may.0)
          (event_short o.cause may.1 (subst (λ l. commits (entries_in past ++ l) ≤ 4000000000) may.0
          (low header lines t follows are playable sent inits sides few noted past back o parts)))

  pub hosts_left_short : AtEachOccurrence t (λ past o. AllByRecursion (λ h. is_left_short t.header.hosts.items past o (end_h h) ≡ true) t.header.hosts.items)
  hosts_left_short past back o parts =
      subst (λ (h : Header). AllByRecursion (λ n. is_left_short h.hosts.items past o (end_h n) ≡ true) h.hosts.items) (sym follows.header_is)
      (each [] hosts refl are.all) where
        each : (earlier hs : List ℕ) → hosts ≡ earlier ++ hs → AllByRecursion IsHost hs
            → AllByRecursion (λ n. is_left_short hosts past o (end_h n) ≡ true) hs
        each earlier [] at all = tt
        each earlier (h ∷ hs) at all =
            let zero_off : eqb h 0 ≡ false = ne_eqb h 0 (λ (z : h ≡ 0). omega (arith, all.0.0, z)) in
            let node : IsNodeOf hosts h = ap₂ (λ a b. a || b) zero_off (ap (λ l. list_any (λ k. eqb k h) l) at ∙ is_one earlier h hs) in (
              host_short past back o parts h zero_off (subst (λ (x : Header). IsNodeOf x.hosts.items h) (sym follows.header_is) node),
              each (earlier ++ h ∷ []) hs (at ∙ sym (append_assoc earlier (h ∷ []) hs)) all.1,
            )
