-- Few RSETs are put on the links of a world behind plays, and few fragments count as acknowledged at their ends: in a round time passes once
-- and each end takes what stands on its wire, and a line has time pass a hundred times at most, or one end take frames.
use Rattle.std.specs.Prelude.{Err}
use Rattle.node_world.proofs.Words.{Activates, AllByRecursion, AreTimely, Arms, AtController, Bool, Boots, End, Entry, FewBehind, FewOnEach, Gives, Happening}
use Rattle.node_world.proofs.Words.{Header, HostSite, IfOk, Inits, IsCut, IsMisreadIn, IsNodeHeader, IsNodeOf, IsPlayFor, IsPlayable, IsPlayedLine, Line}
use Rattle.node_world.proofs.Words.{LineOutcome, LinePlayed, List, Loses, LostFor, Machine, MayGoOn, MayGoRound, MayPlay, Memory, Misread, NoCause, None}
use Rattle.node_world.proofs.Words.{Occurrence, Off, Ok, OnDemand, OnOk, Option, Play, Resets, Result, Round, Said, Same, Site, SiteIs, SitesAre, Some}
use Rattle.node_world.proofs.Words.{StandsAt, Takes, Ticks, WasRefused, WorldHasGone, [], after-append, all_happen, ap, arith, can_happen, cond, end_takes_all}
use Rattle.node_world.proofs.Words.{ends_in_order, ends_take_all, entries_in, false, first_verdict, fold, frames_at, get_or, goes_on, hosts_stay_behind}
use Rattle.node_world.proofs.Words.{hosts_where, if_off, inr, is_some, kept_is, length, line_step, lines_may_be_played, lines_of_play, lines_played, lines_said}
use Rattle.node_world.proofs.Words.{list_any, map, mask_of, memory_at, memory_kept, misread_in, new_memory, new_site, new_world, nodes_behind, on_ok_weaker}
use Rattle.node_world.proofs.Words.{refl, refusal_in, replicate, round_behind, site_at, subst, suc, sym, taken_of, true, unwrap_or, world_round, world_step}
use Rattle.node_world.proofs.Words.{zero, ℕ, ◌*◌, ◌++◌, ◌+◌, ◌<◌, ◌==◌, ◌∙◌, ◌∷◌, ◌≡◌, ◌≤◌}
use Rattle.node_world.specs.Worlds.{AreFewWithParts}
use Rattle.lines_told.specs.lines.Plays.{rounds_played}
use Rattle.history.specs.Histories.{noted}
use Rattle.node_machine.specs.world.Lines.{happens_by}
use Rattle.lines_told.specs.lines.Below.{told_below}
use Rattle.lines_told.specs.lines.Plays.{AreFewPlays, told_of_play}
use Rattle.lines_told.proofs.lines.Told.{for_with, no_more_rounds, no_more_said, one_round, one_said, played_round, played_said, sure_with_round}
use Rattle.lines_told.proofs.lines.Told.{sure_with_said, told_round, round_behind_goes}
use Rattle.trace_model.specs.declared.line.Line.TheVariants as line
use Rattle.link_laws.specs.messages.Links.{AllAllowed, LinkEvent, after_link_events}
use Rattle.link_laws.specs.messages.Links.LinkEvent.{AtHost}
use Rattle.history.specs.Damage.{Verdict}
use Rattle.history.specs.Damage.Verdict.{Undetected}
use Rattle.node_machine.specs.world.Rounds.{world_after_round}
use Rattle.node_laws.specs.acked.AckedRounds.{AreAckedWithin, HostAcksAtMost, taken_in}
use Rattle.node_laws.specs.acked.InTurn.{AcksAtMost, AllAtController, AllAtHost, IsAckedWithin}
use Rattle.node_laws.specs.rounds.LinkEvents.{link_events_in}
use Rattle.node_laws.specs.rounds.RoundEvents.{events_on}
use Rattle.node_laws.specs.rsets.Causes.{FewRsetsOnEach, rsets_by}
use Rattle.node_laws.proofs.acked.AckedRounds.{IsSound, all_within, each_rounds, far_takes, good_of, near_takes, of_goes, sound_many, sound_new, sound_round}
use Rattle.node_laws.proofs.acked.AckedRounds.{sound_step, step_acks}
use Rattle.node_laws.proofs.acked.InTurn.{far_acks, near_acks}
use Rattle.node_laws.proofs.links.Worlds.{MayHappen, runs_then}
use Rattle.node_laws.proofs.rounds.Allowing.{all_go, on_allowed, takes_pass}
use Rattle.node_laws.proofs.rsets.InWorlds.{each_longer, few_behind_step, few_in_new_world}
use Rattle.node_world.specs.declared.worlds.NodeWorld.{NodeWorld}
use Rattle.node_world.specs.Worlds.{IsNodeWorldBehind, HasRoomForNodeLine, HasRoomForRound, nodes_entries, IsPeekedSo}
use Rattle.node_world.proofs.HostsInWorlds.{site_stands, nowhere}
use Rattle.node_world.proofs.SitesKept.{read_there}
use Rattle.node_world.proofs.WorldsBehind.{peeked, masked, may_go_round, may_play, are_playable, goes_on_behind, node_there, sound_behind, timely_behind}
use Rattle.node_world.proofs.WorldsBehind.{are_hosts, playable}
use Rattle.node_world.proofs.CountsStay.{ticks_within}
use Rattle.node_world.proofs.RoundsGo.{happens_first, happens_not, taken_hosts}

-- so many RSETs were made on each link at most, and so many fragments count as acknowledged at each end
record IsLow (n m : ℕ) (w : Machine) : Type 0 where
  sound : IsSound w
  rsets : FewRsetsOnEach n w.sites
  acked : AreAckedWithin m w

low_longer : (n m more most : ℕ) (w : Machine) → n ≤ more → m ≤ most → IsLow n m w → IsLow more most w
low_longer n m more most w p q a = record { sound = a.sound; rsets = each_longer n more w.sites p a.rsets; acked = acked w.sites a.acked }
  where
    acked : (sites : List Site) → AllByRecursion (λ (s : Site). IsAckedWithin m s.link) sites
        → AllByRecursion (λ (s : Site). IsAckedWithin most s.link) sites
    acked [] b = tt
    acked (s ∷ sites) b =
        (record { controller = omega (arith, b.0.controller, q); host = omega (arith, b.0.host, q) }, acked sites b.1)

-- ## What happens at a line

one_low : (n m : ℕ) (w : Machine) (c : Happening) → MayHappen w c → IsLow n m w → IsLow (n + rsets_by c) (m + 4 * taken_in c) (world_step w c).0
one_low n m w c may a =
    record { sound = sound_step w c may a.sound; rsets = few_behind_step n w c a.rsets; acked = step_acks m w c may a.sound a.acked }

-- a thing at which at most 200 RSETs are made, and at most one frame is taken
once_low : (n m : ℕ) (w : Machine) (c : Happening) → rsets_by c ≤ 200 → taken_in c ≤ 1 → MayHappen w c → IsLow n m w
    → IsLow (n + 200) (m + 4) (world_step w c).0
once_low n m w c rsets taken may a =
    low_longer (n + rsets_by c) (m + 4 * taken_in c) (n + 200) (m + 4) (world_step w c).0 (omega (arith, rsets)) (omega (arith, taken))
    (one_low n m w c may a)

none_low : (n m : ℕ) (w : Machine) → IsLow n m w → IsLow (n + 200) (m + 4) w
none_low n m w a = low_longer n m (n + 200) (m + 4) w (omega arith) (omega arith) a

ticks_low : (k n m : ℕ) (w : Machine) → IsLow n m w → IsLow (n + 2 * k) m (all_happen w (replicate k Ticks)).0
ticks_low zero n m w a = low_longer n m (n + 2 * 0) m w (omega arith) (omega arith) a
ticks_low (suc k) n m w a =
    let v : Machine = (world_step w Ticks).0 in
    let one : IsLow (n + 2) m v = low_longer (n + 2) (m + 4 * 0) (n + 2) m v (omega arith) (omega arith) (one_low n m w Ticks tt a) in
    low_longer (n + 2 + 2 * k) m (n + 2 * suc k) m (all_happen v (replicate k Ticks)).0 (omega arith) (omega arith) (ticks_low k (n + 2) m v one)

damage_low : (n m : ℕ) (w : Machine) (e : End) (v : Option Verdict) → IsLow n m w → IsLow (n + 200) (m + 4) (all_happen w (happens_by e v)).0
damage_low n m w e None a = none_low n m w a
damage_low n m w e (Some Same) a = taken_once (can_happen w (Takes e)) refl
  where
    taken_once : (b : Bool) → can_happen w (Takes e) ≡ b → IsLow (n + 200) (m + 4) (all_happen w (Takes e ∷ [])).0
    taken_once true q = rw q (once_low n m w (Takes e) (omega arith) (omega arith) tt a)
    taken_once false q = rw q (none_low n m w a)
damage_low n m w e (Some (LostFor why)) a = once_low n m w (Loses e why) (omega arith) (omega arith) tt a
damage_low n m w e (Some (Undetected read)) a = none_low n m w a

-- ## An end takes frames

-- it holds of what it is on a link that an end takes so many frames, where it does for each frame
many_taken : (P : List LinkEvent → Type 0) → P [] → ((es fs : List LinkEvent) → P es → P fs → P (es ++ fs)) → (h : ℕ) (e : End)
    → ((w : Machine) → P (link_events_in h w (Takes e))) → (n : ℕ) (w : Machine) → P (events_on h w (replicate n (Takes e)))
many_taken P none both h e each zero w = none
many_taken P none both h e each (suc n) w = go (can_happen w (Takes e)) (many_taken P none both h e each n (world_step w (Takes e)).0)
  where
    now : List LinkEvent
    now = link_events_in h w (Takes e)

    later : List LinkEvent
    later = events_on h (world_step w (Takes e)).0 (replicate n (Takes e))

    go : (b : Bool) → P later → P (cond b (now ++ later) [])
    go true more = both now later (each w) more
    go false more = none

near_both : (es fs : List LinkEvent) → AllAtController es → AllAtController fs → AllAtController (es ++ fs)
near_both [] fs a b = b
near_both (AtController e ∷ es) fs a b = near_both es fs a b
near_both (_ ∷ es) fs a b = absurd a

far_both : (es fs : List LinkEvent) → AllAtHost es → AllAtHost fs → AllAtHost (es ++ fs)
far_both [] fs a b = b
far_both (AtHost e ∷ es) fs a b = far_both es fs a b
far_both (_ ∷ es) fs a b = absurd a

taken_acks : (k : ℕ) (w : Machine) (e : End) (h : ℕ) (s : Site) → IsSound w → site_at w.sites h ≡ Some s
    → HostAcksAtMost 4 h s (all_happen w (replicate k (Takes e))).0
taken_acks k w e h s a q = go e.at_host
  where
    at : Bool → End
    at b = record { link = e.link; at_host = b }

    events : Bool → List LinkEvent
    events b = events_on h w (replicate k (Takes (at b)))

    on : (b : Bool) → AcksAtMost 4 4 s.link (after_link_events s.link (events b)) → HostAcksAtMost 4 h s (all_happen w (replicate k (Takes (at b)))).0
    on b acks =
        of_goes 4 (all_happen w (replicate k (Takes (at b)))).0 h s (events b) (all_go (replicate k (Takes (at b))) w h s (takes_pass k (at b)) q) acks

    may : (b : Bool) → AllAllowed s.link (events b)
    may b = on_allowed (replicate k (Takes (at b))) w h s (takes_pass k (at b)) a.fine q

    go : (b : Bool) → HostAcksAtMost 4 h s (all_happen w (replicate k (Takes (at b)))).0
    go false =
        let here = many_taken AllAtController tt near_both h (at false) (λ v. near_takes h e.link v) k w in
        let acks = near_acks (events false) s.link (may false) (good_of w h s a q) here in
        on false (record { controller = acks.controller; host = omega (arith, acks.host) })
    go true =
        let there = many_taken AllAtHost tt far_both h (at true) (λ v. far_takes h e.link v) k w in
        let acks = far_acks (events true) s.link (may true) (good_of w h s a q) there in
        on true (record { controller = omega (arith, acks.controller); host = acks.host })

taken_rsets : (k n : ℕ) (w : Machine) (e : End) → FewRsetsOnEach n w.sites → FewRsetsOnEach n (all_happen w (replicate k (Takes e))).0.sites
taken_rsets zero n w e a = a
taken_rsets (suc k) n w e a =
    go (can_happen w (Takes e)) refl
    (taken_rsets k n (world_step w (Takes e)).0 e (each_longer (n + 0) n (world_step w (Takes e)).0.sites (omega arith) (few_behind_step n w (Takes e) a)))
  where
    go : (b : Bool) → can_happen w (Takes e) ≡ b → FewRsetsOnEach n (all_happen (world_step w (Takes e)).0 (replicate k (Takes e))).0.sites
        → FewRsetsOnEach n (all_happen w (replicate (suc k) (Takes e))).0.sites
    go true q later =
        subst (λ (p : Machine × List Occurrence). FewRsetsOnEach n p.0.sites) (sym (happens_first w (Takes e) k q)) later
    go false q later = subst (λ (p : Machine × List Occurrence). FewRsetsOnEach n p.0.sites) (sym (happens_not w (Takes e) (suc k) q)) a

taken_low : (k n m : ℕ) (w : Machine) (e : End) → IsLow n m w → IsLow n (m + 4) (all_happen w (replicate k (Takes e))).0
taken_low k n m w e a =
    record {
      sound = sound_many (replicate k (Takes e)) w (takes_pass k e) a.sound;
      rsets = taken_rsets k n w e a.rsets;
      acked = all_within 4 m w (all_happen w (replicate k (Takes e))).0 a.sound (taken_hosts k w e) (λ h s q. taken_acks k w e h s a.sound q) a.acked;
    }

-- ## Lines

goes_low : (header : Header) (n m : ℕ) (w : Machine) (l : Line) → IsPlayedLine header l → IsPlayable l → refusal_in w l ≡ None → IsLow n m w
    → IsLow (n + 200) (m + 4) (goes_on w l).0
goes_low header n m w (line.Send e pid message) may p q a = once_low n m w (Gives e (pid, message)) (omega arith) (omega arith) p a
goes_low header n m w (line.Deliver e count) may p q a =
    let k : ℕ = taken_of count (frames_at w e) in
    low_longer n (m + 4) (n + 200) (m + 4) (all_happen w (replicate k (Takes e))).0 (omega arith) (omega arith) (taken_low k n m w e a)
goes_low header n m w (line.Lose e) may p q a = once_low n m w (Loses e OnDemand) (omega arith) (omega arith) tt a
goes_low header n m w (line.Damage e places) may p q a = damage_low n m w e (first_verdict (frames_at w e) places.items) a
goes_low header n m w (line.Tick times) may p q a =
    let k : ℕ = unwrap_or times 1 in
    let most : k ≤ 100 = ticks_within times may.may_follow in
    low_longer (n + 2 * k) m (n + 200) (m + 4) (all_happen w (replicate k Ticks)).0 (omega (arith, most)) (omega arith) (ticks_low k n m w a)
goes_low header n m w (line.Reset e window) may p q a = once_low n m w (Resets e window) (omega arith) (omega arith) p a
goes_low header n m w (line.Busy e) may p q a = none_low n m w a
goes_low header n m w (line.Ready e) may p q a = none_low n m w a
goes_low header n m w (line.Settle rounds) may p q a = none_low n m w a
goes_low header n m w (line.Boot node) may p q a = once_low n m w (Boots node) (omega arith) (omega arith) tt a
goes_low header n m w (line.Cut node) may p q a = once_low n m w (IsCut node) (omega arith) (omega arith) tt a
goes_low header n m w (line.Activate host sync power) may p q a =
    once_low n m w (Activates host sync power) (omega arith) (omega arith) (runs_then (is_some w.controller) (if_off w host) q) a
goes_low header n m w (line.Arm node nth fill) may p q a =
    once_low n m w (Arms node (record { nth = nth; fill = fill.items })) (omega arith) (omega arith) tt a
goes_low header n m w (line.Init e identity pipes) may p q a = once_low n m w (Inits e identity pipes.items) (omega arith) (omega arith) tt a
goes_low header n m w (line.Tables node) may p q a = none_low n m w a

line_low : (header : Header) (n m : ℕ) (w : Machine) (l : Line) → IsPlayedLine header l → IsLow n m w → IsLow (n + 200) (m + 4) (line_step w l).0
line_low header n m w l may a = go (refusal_in w l) refl
  where
    by : Option NoCause → Machine × LineOutcome
    by (Some cause) = (w, WasRefused cause)
    by None = goes_on w l

    go : (o : Option NoCause) → refusal_in w l ≡ o → IsLow (n + 200) (m + 4) (by o).0
    go (Some cause) q = none_low n m w a
    go None q = goes_low header n m w l may (playable header l may.may_follow) q a

-- ## Rounds

ends_rsets : (ends : List End) (n : ℕ) (w : Machine) → FewRsetsOnEach n w.sites → FewRsetsOnEach n (ends_take_all w ends).0.sites
ends_rsets [] n w a = a
ends_rsets (e ∷ ends) n w a = ends_rsets ends n (end_takes_all w e).0 (taken_rsets (length (frames_at w e)) n w e a)

round_low : (n m : ℕ) (w : Machine) → IsLow n m w → IsLow (n + 2) (m + 4) (world_after_round w)
round_low n m w a =
    record {
      sound = sound_round w a.sound;
      rsets = few_behind_step n ((ends_take_all w (ends_in_order w)).0) Ticks (ends_rsets (ends_in_order w) n w a.rsets);
      acked = each_rounds 1 w m a.sound a.acked;
    }

-- ## Plays

plays_low : (header : Header) → IsNodeHeader header → (plays : List Play) (before : List Line) (n m : ℕ) → AllByRecursion (IsPlayFor header) plays
    → IsLow n m (nodes_behind header before)
    → IsLow (n + (200 * lines_said plays + 2 * rounds_played plays)) (m + 4 * (lines_said plays + rounds_played plays))
    (nodes_behind header (fold (λ (ls : List Line) (p : Play). ls ++ lines_of_play header ls p) before plays))
plays_low header is [] before n m may a =
    low_longer n m (n + (200 * 0 + 2 * 0)) (m + 4 * (0 + 0)) (nodes_behind header before) (omega arith) (omega arith) a
plays_low header is (Said l ∷ plays) before n m may a =
    let w : Machine = nodes_behind header before in
    let now : IsLow (n + 200) (m + 4) (nodes_behind header (before ++ l ∷ [])) =
    subst (IsLow (n + 200) (m + 4)) (sym (after-append before (l ∷ []) (new_world header.hosts.items))) (line_low header n m w l may.0 a) in
    let s : ℕ = lines_said plays in
    let r : ℕ = rounds_played plays in
    low_longer (n + 200 + (200 * s + 2 * r)) (m + 4 + 4 * (s + r)) (n + (200 * suc s + 2 * r)) (m + 4 * (suc s + r))
    (nodes_behind header (fold (λ (ls : List Line) (p : Play). ls ++ lines_of_play header ls p) (before ++ l ∷ []) plays))
    (omega arith) (omega arith) (plays_low header is plays (before ++ l ∷ []) (n + 200) (m + 4) may.1 now)
plays_low header is (Round ∷ plays) before n m may a =
    let more : List Line = before ++ round_behind header before in
    let now : IsLow (n + 2) (m + 4) (nodes_behind header more) =
    subst (IsLow (n + 2) (m + 4)) (sym (round_behind_goes header is.nodes before)) (round_low n m (nodes_behind header before) a) in
    let s : ℕ = lines_said plays in
    let r : ℕ = rounds_played plays in
    low_longer (n + 2 + (200 * s + 2 * r)) (m + 4 + 4 * (s + r)) (n + (200 * s + 2 * suc r)) (m + 4 * (s + suc r))
    (nodes_behind header (fold (λ (ls : List Line) (p : Play). ls ++ lines_of_play header ls p) more plays))
    (omega arith) (omega arith) (plays_low header is plays more (n + 2) (m + 4) may.1 now)

first_acked : (hosts : List ℕ) → AreAckedWithin 0 (new_world hosts)
first_acked [] = tt
first_acked (h ∷ hosts) = (record { controller = omega arith; host = omega arith }, first_acked hosts)

few_of_low : (n m k : ℕ) (sites : List Site) → n ≤ 12 * k → m ≤ 7 * k → FewRsetsOnEach n sites
    → AllByRecursion (λ (s : Site). IsAckedWithin m s.link) sites → FewOnEach k sites
few_of_low n m k [] p q a b = tt
few_of_low n m k (s ∷ sites) p q a b =
    let far = b.0.host in (
      record { resets = omega (arith, a.0.made, p); controller = omega (arith, b.0.controller, q); host = omega (arith, far, q) },
      few_of_low n m k sites p q a.1 b.1,
    )

-- At most 320,000 lines and 400,000,000 rounds make few of them.
pub few_behind_plays : (header : Header) (plays : List Play) → IsNodeHeader header → AllByRecursion (IsPlayFor header) plays → AreFewWithParts plays
    → FewBehind 250000000 (nodes_behind header (lines_played header plays))
few_behind_plays header plays is may few =
    let hosts = header.hosts.items in
    let first : IsLow 0 0 (nodes_behind header []) =
    record { sound = sound_new hosts (are_hosts header is).different; rsets = few_in_new_world hosts; acked = first_acked hosts } in
    let all = plays_low header is plays [] 0 0 may first in
    let s : ℕ = lines_said plays in
    let r : ℕ = rounds_played plays in
    let said = few.said in
    let rounds = few.rounds in
    few_of_low (0 + (200 * s + 2 * r)) (0 + 4 * (s + r)) 250000000 (nodes_behind header (lines_played header plays)).sites
    (omega (arith, said, rounds)) (omega (arith, said, rounds)) all.rsets all.acked

-- Plays with one line or one round more, or with the parts of a line that lets the links settle, are few.

-- a line or a round more leaves few of them
pub few_with_line : (plays : List Play) (line : Line) → AreFewWithParts plays → lines_said plays < 320000 → AreFewWithParts (plays ++ Said line ∷ [])
few_with_line plays line few room =
    let said = one_said plays line in
    let rounds = no_more_rounds plays line in
    record { said = omega (arith, said, room); rounds = omega (arith, rounds, few.rounds) }

pub few_with_one_round : (plays : List Play) → AreFewWithParts plays → rounds_played plays < 400000000 → AreFewWithParts (plays ++ Round ∷ [])
few_with_one_round plays few room =
    let said = no_more_said plays in
    let rounds = one_round plays in
    record { said = omega (arith, said, few.said); rounds = omega (arith, rounds, room) }

-- those of a schedule are
pub few_at_all : (plays : List Play) → AreFewPlays plays → AreFewWithParts plays
few_at_all plays few = let said = few.said in record { said = omega (arith, said); rounds = few.rounds }

-- What is kept of a world of nodes stands for the world behind one line or one round more, and where lines count as rounds.

-- how many lines were stepped, and how many rounds were gone through, is the same for all plays of which it stands
pub steps_few : (k : NodeWorld) (said : Line) → HasRoomForNodeLine k said → (header : Header) (plays : List Play) → IsNodeWorldBehind k header plays
    → lines_said plays < 320000
steps_few k said room header plays s = subst (λ n. n < 320000) (sym room.stands.stepped ∙ s.stepped) room.few

pub rounds_few : (k : NodeWorld) → HasRoomForRound k → (header : Header) (plays : List Play) → IsNodeWorldBehind k header plays
    → rounds_played plays < 400000000
rounds_few k room header plays s = subst (λ n. n < 400000000) (sym room.stands.rounds ∙ s.rounds) room.few

-- the lines that its plays come to are lines that are played
pub lines_are : (k : NodeWorld) (header : Header) (plays : List Play) → IsNodeWorldBehind k header plays
    → AllByRecursion (IsPlayedLine header) (lines_played header plays)
lines_are k header plays s = lines_may_be_played header (inr s.is_header) (hosts_stay_behind header) plays s.plays_are

module _ (old new : NodeWorld) (header : Header) (plays : List Play) (s : IsNodeWorldBehind old header plays) where
  abbrev w : Machine
  w = nodes_behind header (lines_played header plays)

  pub stands_behind_more : (said : Line) → IsPlayedLine header said → lines_said plays < 320000 → misread_in w said ≡ None
      → LinePlayed new.controller new.sites.items new.noted.entries.items (line_step w said)
      → new.mask ≡ old.mask → new.stepped ≡ old.stepped + 1 → new.rounds ≡ old.rounds → new.noted.short ≡ false
      → IsNodeWorldBehind new header (plays ++ Said said ∷ [])
  stands_behind_more said may room none played mask stepped rounds short =
      record {
        is_header = s.is_header;
        plays_are = for_with header plays (Said said) s.plays_are may;
        few = few_with_line plays said s.few room;
        sure = sure_with_said header s.is_header.nodes plays said s.sure none;
        stands = rw (← played_said header s.is_header.nodes plays said) at played.world;
        mask_is = rw (← mask) at s.mask_is;
        stepped = omega (arith, stepped, s.stepped, (one_said plays said));
        rounds = rounds ∙ (s.rounds ∙ sym (no_more_rounds plays said));
        quiet = short;
      }

  -- behind one round more
  pub stands_behind_round : (before : List Entry) → rounds_played plays < 400000000
      → WorldHasGone new.controller new.sites.items before new.noted.entries.items (world_round w)
      → new.mask ≡ old.mask → new.stepped ≡ old.stepped → new.rounds ≡ old.rounds + 1 → new.noted.short ≡ false
      → IsNodeWorldBehind new header (plays ++ Round ∷ [])
  stands_behind_round before room gone mask stepped rounds short =
      record {
        is_header = s.is_header;
        plays_are = for_with header plays Round s.plays_are tt;
        few = few_with_one_round plays s.few room;
        sure = sure_with_round header s.is_header.nodes plays s.sure;
        stands = rw (← played_round header s.is_header.nodes plays) at gone.world;
        mask_is = rw (← mask) at s.mask_is;
        stepped = stepped ∙ (s.stepped ∙ sym (no_more_said plays));
        rounds = omega (arith, rounds, s.rounds, (one_round plays));
        quiet = short;
      }

  pub round_is_told : (before : List Entry) → before ≡ [] → WorldHasGone new.controller new.sites.items before new.noted.entries.items (world_round w)
      → nodes_entries new ≡ told_of_play header (lines_played header plays) Round
  round_is_told before none gone =
      gone.noted
      ∙ (ap (λ es. es ++ entries_in (world_round w).1) none ∙ sym (told_round header s.is_header.nodes (lines_played header plays)))

-- Behind other plays that come to the same lines it stands as well, where its numbers of lines and rounds are theirs.
pub stands_alike : (old new : NodeWorld) (header : Header) (plays others : List Play) → IsNodeWorldBehind old header plays
    → lines_played header plays ≡ lines_played header others → AllByRecursion (IsPlayFor header) others → AreFewWithParts others
    → new.controller ≡ old.controller → new.sites ≡ old.sites → new.mask ≡ old.mask → new.noted ≡ old.noted → new.stepped ≡ lines_said others
    → new.rounds ≡ rounds_played others → IsNodeWorldBehind new header others
stands_alike old new header plays others s same are few controller sites mask noted stepped rounds =
    record {
      is_header = s.is_header;
      plays_are = are;
      few = few;
      sure = rw same at s.sure;
      stands = rw (controller, sites) (rw same at s.stands);
      mask_is = rw (← mask) at s.mask_is;
      stepped = stepped;
      rounds = rounds;
      quiet = rw noted s.quiet;
    }

-- before any play
pub stands_at_first : (new : NodeWorld) (header : Header) → IsNodeHeader header → new.controller ≡ Off (new_memory (replicate 65536 255))
    → SitesAre new.sites.items (map (new_site (replicate 65536 255)) header.hosts.items)
    → new.mask ≡ mask_of (hosts_where (λ (host : ℕ). list_any (λ (k : ℕ). k == host) header.hosts.items)) → new.stepped ≡ 0
    → new.rounds ≡ 0 → new.noted.short ≡ false → IsNodeWorldBehind new header []
stands_at_first new header is off sites mask stepped rounds short =
    record {
      is_header = is;
      plays_are = tt;
      few = record { said = omega arith; rounds = omega arith };
      sure = tt;
      stands = record {
        controller = rw off refl;
        sites = sites;
      };
      mask_is = rw (← mask) at (masked header is);
      stepped = stepped;
      rounds = rounds;
      quiet = short;
    }

-- ## What a line answers

module _ {E : Type 0} (result : Result (Option Misread) E) (old new : NodeWorld) (header : Header) (plays : List Play) (said : Line)
    (s : IsNodeWorldBehind old header plays) (may : IsPlayedLine header said) where
  abbrev now : Machine
  now = nodes_behind header (lines_played header plays)

  abbrev WasPlayed : Type 0
  WasPlayed = LinePlayed new.controller new.sites.items new.noted.entries.items (line_step now said)

  pub stands_answered : lines_said plays < 320000 → IfOk result (λ other. other ≡ None → WasPlayed) → IfOk result (IsMisreadIn now said)
      → OnOk result (new.noted.short ≡ false) → new.mask ≡ old.mask → new.stepped ≡ old.stepped + 1 → new.rounds ≡ old.rounds
      → IfOk result (λ other. other ≡ None → IsNodeWorldBehind new header (plays ++ Said said ∷ []))
  stands_answered room played misread short mask stepped rounds = go result played misread short
    where
      go : (r : Result (Option Misread) E) → IfOk r (λ other. other ≡ None → WasPlayed) → IfOk r (IsMisreadIn now said)
          → OnOk r (new.noted.short ≡ false) → IfOk r (λ other. other ≡ None → IsNodeWorldBehind new header (plays ++ Said said ∷ []))
      go (Err e) p m q = tt
      go (Ok other) p m q =
          λ none.
          stands_behind_more old new header plays s said may room (grind arith) (p none) mask stepped rounds q

  pub entries_answered : IfOk result (λ other. other ≡ None → WasPlayed)
      → IfOk result (λ other. other ≡ None → nodes_entries new ≡ told_below header (lines_played header plays) said)
  entries_answered played = grind arith

module _ {T E : Type 0} (result : Result T E) (old new : NodeWorld) (header : Header) (plays : List Play) (s : IsNodeWorldBehind old header plays)
    (before : List Entry) where
  abbrev HasGone : Type 0
  HasGone = WorldHasGone new.controller new.sites.items before new.noted.entries.items (world_round (nodes_behind header (lines_played header plays)))

  pub round_answered : rounds_played plays < 400000000 → OnOk result HasGone → OnOk result (new.noted.short ≡ false) → new.mask ≡ old.mask
      → new.stepped ≡ old.stepped → new.rounds ≡ old.rounds + 1 → OnOk result (IsNodeWorldBehind new header (plays ++ Round ∷ []))
  round_answered room gone short mask stepped rounds = go result gone short
    where
      go : (r : Result T E) → OnOk r HasGone → OnOk r (new.noted.short ≡ false) → OnOk r (IsNodeWorldBehind new header (plays ++ Round ∷ []))
      go (Err e) g q = tt
      go (Ok x) g q = stands_behind_round old new header plays s before room g mask stepped rounds q

  pub round_told_so : before ≡ [] → OnOk result HasGone → OnOk result (nodes_entries new ≡ told_of_play header (lines_played header plays) Round)
  round_told_so none gone = on_ok_weaker result (λ g. round_is_told old new header plays s before none g) gone

-- a world goes on with one line more, and through one round more
pub may_be_said : (k : NodeWorld) (said : Line) (header : Header) (plays : List Play) → IsNodeWorldBehind k header plays → IsPlayedLine header said
    → MayPlay header said (nodes_behind header (lines_played header plays))
may_be_said k said header plays s may =
    may_play header (lines_played header plays) said s.is_header (lines_are k header plays s) s.sure
    (few_behind_plays header plays s.is_header s.plays_are s.few) may

pub may_be_gone : (k : NodeWorld) (header : Header) (plays : List Play) → IsNodeWorldBehind k header plays
    → MayGoRound (nodes_behind header (lines_played header plays))
may_be_gone k header plays s =
    may_go_round header s.is_header (lines_played header plays) (lines_are k header plays s) s.sure
    (few_behind_plays header plays s.is_header s.plays_are s.few)

pub in_order_behind : (k : NodeWorld) (header : Header) (plays : List Play) → IsNodeWorldBehind k header plays
    → MayGoOn (nodes_behind header (lines_played header plays))
in_order_behind k header plays s =
    goes_on_behind header s.is_header (lines_played header plays) (are_playable header (lines_played header plays) (lines_are k header plays s)) s.sure

pub timely_so : (k : NodeWorld) (header : Header) (plays : List Play) → IsNodeWorldBehind k header plays
    → AreTimely (nodes_behind header (lines_played header plays))
timely_so k header plays s =
    timely_behind header s.is_header (lines_played header plays) (are_playable header (lines_played header plays) (lines_are k header plays s)) s.sure

-- ## Memories

-- what is kept of a node's memory is what its store reads
pub found_behind : (k : NodeWorld) (header : Header) (plays : List Play) (n : ℕ) → IsNodeWorldBehind k header plays → IsNodeOf header.hosts.items n
    → (m : Memory) → m ≡ memory_at (nodes_behind header (lines_played header plays)) n
    → IsPeekedSo (nodes_behind header (lines_played header plays)) n m.content
found_behind k header plays n s node m is =
    let w : Machine = nodes_behind header (lines_played header plays) in
    subst (λ (x : Memory). IsPeekedSo w n x.content) (sym is)
    (peeked w n (node_there header s.is_header (lines_played header plays) (lines_are k header plays s) s.sure n node)
    (sound_behind header s.is_header (lines_played header plays) (lines_are k header plays s) s.sure n node))

-- the memory of the controller
pub controller_kept : (k : NodeWorld) (header : Header) (plays : List Play) (n : ℕ) → IsNodeWorldBehind k header plays → (n == 0) ≡ true → (m : Memory)
    → m ≡ memory_kept k.controller → m ≡ memory_at (nodes_behind header (lines_played header plays)) n
controller_kept k header plays n s off m kept = grind arith

-- a host at its place
pub stands_there : (k : NodeWorld) (header : Header) (plays : List Play) (i n : ℕ) → IsNodeWorldBehind k header plays
    → (a : StandsAt i n (nodes_behind header (lines_played header plays)).sites) → (site : HostSite) → site ≡ get_or k.sites.items i site → SiteIs site a.site
stands_there k header plays i n s a site read = read_there k.sites.items a.front a.site a.back i site a.place (rw a.is at s.stands.sites) read

-- the memory of a host
pub host_kept : (k : NodeWorld) (header : Header) (plays : List Play) (n i : ℕ) → IsNodeWorldBehind k header plays → IsNodeOf header.hosts.items n
    → (n == 0) ≡ false → StandsAt i n (nodes_behind header (lines_played header plays)).sites → (site : HostSite)
    → site ≡ get_or k.sites.items i site → (m : Memory) → m ≡ memory_kept site.power → m ≡ memory_at (nodes_behind header (lines_played header plays)) n
host_kept k header plays n i s node off a site read m kept =
    let is : m ≡ a.site.memory = kept ∙ kept_is site.power a.site.memory a.site.node _ (stands_there k header plays i n s a site read).place in
    rw (off, (site_stands (nodes_behind header (lines_played header plays)) i n a ((in_order_behind k header plays s).orderly))) is

pub host_is_there : {A : Type 0} (k : NodeWorld) (header : Header) (plays : List Play) (n : ℕ) → IsNodeWorldBehind k header plays
    → IsNodeOf header.hosts.items n → (n == 0) ≡ false → site_at (nodes_behind header (lines_played header plays)).sites n ≡ None → A
host_is_there k header plays n s node off none =
    nowhere (nodes_behind header (lines_played header plays)).sites n
    (node_there header s.is_header (lines_played header plays) (lines_are k header plays s) s.sure n node off) none
