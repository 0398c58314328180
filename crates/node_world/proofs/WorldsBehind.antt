-- What may stand below a header of nodes is what the laws of worlds of nodes ask for.
use Rattle.std.specs.Prelude.{if◌then◌else◌, ◌||◌}
use Rattle.std.specs.List.{filter, range_with_len}
use Rattle.std.specs.List.Sorted.{IsStrictlySortedBy}
use Rattle.std.specs.declared.cmp.Ordering.TheVariants.{Less}
use Rattle.std.specs.Ordering.{nat_cmp}
use Rattle.std.proofs.lemmas.Cmp.{ranked}
use Rattle.std.proofs.lemmas.List.Elements.{recursion_from_All}
use Rattle.std.proofs.lemmas.Map.Keys.{sorted_head, sorted_tail, sorted_from_strictly_increasing}
use Rattle.std.specs.Option.{option_map}
use Rattle.node_world.proofs.Words.{AllByRecursion, AreTimely, Bool, End, Entry, FewBehind, FollowsNodes, Header, IsHost, IsNodeHeader, IsNodeOf, IsPlayable}
use Rattle.node_world.proofs.Words.{IsPlayedLine, IsSentByHost, IsSoundMemory, KeepsSome, Line, List, MayGoOn, MayGoRound, MayPlay, Memory, NodeHistory}
use Rattle.node_world.proofs.Words.{NodeWorld, None, NoneIsMisread, Option, Running, Side, Site, Some, State, [], after-append, after_planned, ap, append_assoc}
use Rattle.node_world.proofs.Words.{arith, boot_found, boot_writes, boot_written, boots, close, count_of, current, ends_in_order, ends_take_all, eq-eqb}
use Rattle.node_world.proofs.Words.{fails_within, false, frames_at, host_cut, hosts_in, is_clear, is_running, length, length-map, list_any, loses_power_at}
use Rattle.node_world.proofs.Words.{mask_of, memory_at, ne_eqb, new_world, node_at, node_of, nodes_behind, not, option_map_or, refl, site_at, started_state}
use Rattle.node_world.proofs.Words.{state_by, state_of, steps_from, subst, suc, sym, tables_of, true, true≢false, with_memory, with_node, with_site}
use Rattle.node_world.proofs.Words.{world_after, zero, ℕ, ◌&&◌, ◌++◌, ◌+◌, ◌<◌, ◌==◌, ◌∙◌, ◌∷◌, ◌≡◌, ◌≢◌, ◌≤◌}
use Rattle.gate_admin.specs.View.{has}
use Rattle.trace_model.specs.Lines.{MayFollow}
use Rattle.trace_model.specs.declared.line.Line.TheVariants as line
use Rattle.node_machine.specs.world.NodeHistories.{occurrences_in}
use Rattle.node_laws.specs.links.Runs.{ArePlayable}
use Rattle.node_laws.proofs.order.Lines.{watches, of_none, IsSo, all_so_behind, behind_history}
use Rattle.node_laws.proofs.order.Ticking.{timely}
use Rattle.lines_told.proofs.lines.Told.{all-append, sure-append, sure_round, takes_so}
use Rattle.gate_admin.specs.View.{hosts_where}
use Rattle.node_laws.proofs.steps.StepWalks.{is_in_mask}
use Rattle.node_laws.proofs.links.Noticing.{from_mask}
use Rattle.trace_model.specs.declared.entry.Entry.TheVariants as entry
use Rattle.journal_laws.specs.Banks.{other, is_opened_gate, head}
use Rattle.journal_laws.specs.Journal.{count, journal_at, unformatted}
use Rattle.lines_told.specs.lines.Plays.{round_in, taking_in}
use Rattle.node_world.specs.Whole.{after_ticks}
use Rattle.node_world.specs.Worlds.{IsPeekedSo, at_rest}
use Rattle.node_world.proofs.MemoriesKeep.{keeps_at_first, keeps_behind_lines, controller_in_order, hosts_in_order}
pub use Rattle.node_laws.proofs.schedules.Ranges.{hosts_are as are_hosts, hosts_few as links_few}
use Rattle.node_laws.proofs.creations.Knowing.{two_ways as agree}

-- ## Hosts

abbrev pub IsAbove : ℕ → ℕ → Type 0
IsAbove x y = nat_cmp x y ≡ Less

pub above : (x y : ℕ) → IsAbove x y → x < y
above x y a = ranked x y Less (sym a)

-- ## Lines

pub each_line : (P Q : Line → Type 0) → ((l : Line) → P l → Q l) → (lines : List Line) → AllByRecursion P lines → AllByRecursion Q lines
each_line P Q one [] a = tt
each_line P Q one (l ∷ lines) a = (one l a.0, each_line P Q one lines a.1)

pub playable : (header : Header) (l : Line) → MayFollow header l → IsPlayable l
playable header l is = grind arith

-- What is asked of a world behind lines holds there.

-- ## Behind lines

module _ (header : Header) (is : IsNodeHeader header) (lines : List Line) (play : ArePlayable lines)
    (sure : NoneIsMisread (new_world header.hosts.items) lines) where
  abbrev hosts : List ℕ
  hosts = header.hosts.items

  abbrev told : NodeHistory
  told = record { header = header; steps = steps_from (new_world hosts) lines }

  follows : FollowsNodes header lines told
  follows = record { nodes = is.nodes; header_is = refl; steps_are = refl; sure = sure }

  so : IsSo hosts (occurrences_in told) (nodes_behind header lines)
  so =
      subst (IsSo hosts (occurrences_in told)) (behind_history header lines told follows)
      (all_so_behind header lines told follows (are_hosts header is) play)

  pub timely_behind : AreTimely (nodes_behind header lines)
  timely_behind h s found = timely (nodes_behind header lines) _ (watches of_none (occurrences_in told) h) h s so.up found (so.each h s found)

  pub hosts_behind : hosts_in (nodes_behind header lines).sites ≡ hosts
  hosts_behind = so.hosts_are

  pub goes_on_behind : MayGoOn (nodes_behind header lines)
  goes_on_behind = record { orderly = so.well.orderly; hosts = subst (AllByRecursion IsHost) (sym so.hosts_are) (are_hosts header is).all }

-- so it is also behind some ticks
pub timely_ticking : (header : Header) → IsNodeHeader header → (lines : List Line) → ArePlayable lines
    → NoneIsMisread (new_world header.hosts.items) lines → (n : ℕ) → AreTimely (after_ticks n (nodes_behind header lines))
timely_ticking header is lines play sure n =
    subst AreTimely (after-append lines (line.Tick (Some n) ∷ []) (new_world header.hosts.items))
    (timely_behind header is (lines ++ line.Tick (Some n) ∷ []) (all-append IsPlayable lines (line.Tick (Some n) ∷ []) play (tt, tt))
    (sure-append lines (line.Tick (Some n) ∷ []) (new_world header.hosts.items) sure (refl, tt)))

-- ## Memories

site_there : (n : ℕ) (sites : List Site) → list_any (λ k. k == n) (hosts_in sites) ≡ true → AllByRecursion (λ (s : Site). IsSoundMemory s.memory) sites
    → (s : Site) × (site_at sites n ≡ Some s) × IsSoundMemory s.memory
site_there n [] here a = absurd (true≢false (sym here))
site_there n (s ∷ sites) here a = let h0 = s.host == n in let h1 = site_there n sites in grind arith

sound_memory : (hosts : List ℕ) (w : NodeWorld) → hosts_in w.sites ≡ hosts → IsSoundMemory w.memory
    → AllByRecursion (λ (s : Site). IsSoundMemory s.memory) w.sites → (n : ℕ) → IsNodeOf hosts n → IsSoundMemory (memory_at w n)
sound_memory hosts w are near far n node = go (n == 0) refl
  where
    go : (b : Bool) → (n == 0) ≡ b → IsSoundMemory (memory_at w n)
    go true q = rw q near
    go false q =
        let found = site_there n w.sites (subst (λ hs. list_any (λ k. k == n) hs ≡ true) (sym are) (rw q at node)) far in
        rw (q, found.1) found.2

sent_line : (header : Header) → IsNodeHeader header → (l : Line) → IsPlayedLine header l → IsSentByHost l
sent_line header is l a = grind arith

play_line : (header : Header) (l : Line) → IsPlayedLine header l → IsPlayable l
play_line header l a = playable header l a.may_follow

pub are_playable : (header : Header) (lines : List Line) → AllByRecursion (IsPlayedLine header) lines → ArePlayable lines
are_playable header lines a = each_line (IsPlayedLine header) IsPlayable (play_line header) lines a

keeps_behind : (header : Header) → IsNodeHeader header → (lines : List Line) → AllByRecursion (IsPlayedLine header) lines
    → KeepsSome header.hosts.items (nodes_behind header lines)
keeps_behind header is lines a =
    keeps_behind_lines header.hosts.items (are_hosts header is) lines (new_world header.hosts.items)
    (each_line (IsPlayedLine header) IsSentByHost (sent_line header is) lines a) (keeps_at_first header.hosts.items (are_hosts header is))

-- a node's memory is in order
pub sound_behind : (header : Header) → IsNodeHeader header → (lines : List Line) → AllByRecursion (IsPlayedLine header) lines
    → NoneIsMisread (new_world header.hosts.items) lines → (n : ℕ) → IsNodeOf header.hosts.items n → IsSoundMemory (memory_at (nodes_behind header lines) n)
sound_behind header is lines a sure n node =
    let w : NodeWorld = nodes_behind header lines in
    let k : KeepsSome header.hosts.items w = keeps_behind header is lines a in
    sound_memory header.hosts.items w (hosts_behind header is lines (are_playable header lines a) sure)
    (controller_in_order header.hosts.items (are_hosts header is) w k) (hosts_in_order header.hosts.items (are_hosts header is) w k) n node

-- a node other than the controller is there
pub node_there : (header : Header) → IsNodeHeader header → (lines : List Line) → AllByRecursion (IsPlayedLine header) lines
    → NoneIsMisread (new_world header.hosts.items) lines → (n : ℕ) → IsNodeOf header.hosts.items n → (n == 0) ≡ false
    → (s : Site) × (site_at (nodes_behind header lines).sites n ≡ Some s)
node_there header is lines a sure n node q =
    let w : NodeWorld = nodes_behind header lines in
    let k : KeepsSome header.hosts.items w = keeps_behind header is lines a in
    let either : (n == 0 || list_any (λ k. k == n) header.hosts.items) ≡ true = node in
    let here = subst (λ hs. list_any (λ k. k == n) hs ≡ true) (sym (hosts_behind header is lines (are_playable header lines a) sure)) (grind arith) in
    let found = site_there n w.sites here (hosts_in_order header.hosts.items (are_hosts header is) w k) in
    (found.0, found.1)

-- ## A line

pub may_play : (header : Header) (lines : List Line) (said : Line) → IsNodeHeader header → AllByRecursion (IsPlayedLine header) lines
    → NoneIsMisread (new_world header.hosts.items) lines → FewBehind 250000000 (nodes_behind header lines) → IsPlayedLine header said
    → MayPlay header said (nodes_behind header lines)
may_play header lines said is a sure few may =
    let play : ArePlayable lines = are_playable header lines a in
    record {
      is_header = is;
      hosts_are = hosts_behind header is lines play sure;
      is_line = may;
      goes_on = goes_on_behind header is lines play sure;
      few = few;
      timely = timely_behind header is lines play sure;
      ticks = λ times q n m. timely_ticking header is lines play sure n;
      boots = λ n node off. sound_behind header is lines a sure n node;
    }

-- The mask of the hosts of a header stands for them.

-- ## Rising numbers

abbrev IsRisingFrom : ℕ → List ℕ → Type 0
IsRisingFrom a [] = Unit {0}
IsRisingFrom a (x ∷ xs) = (a ≤ x) × IsRisingFrom (x + 1) xs

all_above : (x : ℕ) (xs : List ℕ) → AllByRecursion (IsAbove x) xs → AllByRecursion (λ y. x + 1 ≤ y) xs
all_above x [] a = tt
all_above x (y ∷ xs) a = (let more = above x y a.0 in omega (arith, more), all_above x xs a.1)

rising : (a : ℕ) (xs : List ℕ) → AllByRecursion (λ x. a ≤ x) xs → IsStrictlySortedBy nat_cmp xs → IsRisingFrom a xs
rising a [] low sorted = tt
rising a (x ∷ xs) low sorted = (low.0, rising (x + 1) xs (all_above x xs (sorted_head nat_cmp x xs sorted)) (sorted_tail nat_cmp x xs sorted))

none_below : (a x : ℕ) (xs : List ℕ) → x < a → IsRisingFrom a xs → list_any (λ k. k == x) xs ≡ false
none_below a x [] low r = refl
none_below a x (y ∷ ys) low r =
    let from = r.0 in
    rw (ne_eqb y x (λ z. omega (arith, z, from, low))) (none_below (y + 1) x ys (omega (arith, from, low)) r.1)

-- those of a range that stand in a list of rising numbers within it are that list
found : (n a top : ℕ) (xs : List ℕ) (test : ℕ → Bool) → a + n ≡ top → ((h : ℕ) → a ≤ h → test h ≡ list_any (λ k. k == h) xs) → IsRisingFrom a xs
    → AllByRecursion (λ x. x < top) xs → filter test (range_with_len a n) ≡ xs
found zero a top [] test e is r small = refl
found zero a top (x ∷ xs) test e is r small = absurd (let from = r.0 in let below = small.0 in omega (arith, from, below, e))
found (suc n) a top [] test e is r small =
    rw (is a (omega arith)) (found n (a + 1) top [] test (omega (arith, e)) (λ h low. is h (omega (arith, low))) tt tt)
found (suc n) a top (x ∷ xs) test e is r small =
    go (x == a) refl (λ up is2. found n (a + 1) top xs test (omega (arith, e)) is2 up small.1)
    (λ up. found n (a + 1) top (x ∷ xs) test (omega (arith, e)) (λ h low. is h (omega (arith, low))) up small)
  where
    from : a ≤ x
    from = r.0

    go : (b : Bool) → (x == a) ≡ b
        → (IsRisingFrom (a + 1) xs → ((h : ℕ) → a + 1 ≤ h → test h ≡ list_any (λ k. k == h) xs) → filter test (range_with_len (a + 1) n) ≡ xs)
        → (IsRisingFrom (a + 1) (x ∷ xs) → filter test (range_with_len (a + 1) n) ≡ x ∷ xs) → filter test (range_with_len a (suc n)) ≡ x ∷ xs
    go true q later last = grind arith
    go false q later last =
        let more : a ≢ x = λ z. true≢false (sym (eq-eqb x a (sym z)) ∙ q) in
        let none : test a ≡ false = is a (omega arith) ∙ rw q (none_below (x + 1) a xs (omega (arith, from)) r.1) in
        rw none (last (omega (arith, from, more), r.1))

-- ## Masks

filter_same : (p q : ℕ → Bool) → ((n : ℕ) → p n ≡ q n) → (ns : List ℕ) → filter p ns ≡ filter q ns
filter_same p q same ns = grind arith

one_of_hosts : (n : ℕ) (hosts : List ℕ) → AllByRecursion IsHost hosts → list_any (λ k. k == n) hosts ≡ true → IsHost n
one_of_hosts n [] a q = absurd (true≢false (sym q))
one_of_hosts n (h ∷ hosts) a q = let h0 = h == n in let h1 = one_of_hosts n hosts a.1 in grind arith

small : (hosts : List ℕ) → AllByRecursion IsHost hosts → AllByRecursion (λ x. x < 8) hosts
small [] a = tt
small (h ∷ hosts) a = (let most = a.0.1 in omega (arith, most), small hosts a.1)

some : (hosts : List ℕ) → AllByRecursion IsHost hosts → AllByRecursion (λ x. 1 ≤ x) hosts
some [] a = tt
some (h ∷ hosts) a = (a.0.0, some hosts a.1)

pub masked : (header : Header) → IsNodeHeader header
    → hosts_where (has (mask_of (hosts_where (λ (host : ℕ). list_any (λ (k : ℕ). k == host) header.hosts.items)))) ≡ header.hosts.items
unfolding hosts_where
masked header is =
    let hosts : List ℕ = header.hosts.items in
    let test : ℕ → Bool = λ host. list_any (λ k. k == host) hosts in
    let are : AllByRecursion IsHost hosts = recursion_from_All IsHost hosts is.hosts in
    let same : (n : ℕ) → has (mask_of (hosts_where test)) n ≡ test n =
    λ n. agree (has (mask_of (hosts_where test)) n) (test n) (from_mask test n)
    (λ q. let host = one_of_hosts n hosts are q in is_in_mask test n host.0 host.1 q) in
    filter_same (has (mask_of (hosts_where test))) test same (range_with_len 1 7)
    ∙ found 7 1 8 hosts test refl (λ h low. refl)
    (rising 1 hosts (some hosts are) (sorted_from_strictly_increasing hosts is.rising)) (small hosts are)

-- A memory in order that is read while its node is at rest is what a boot of the node would find.

-- ## A host that is changed

site_with : (n : ℕ) (f : Site → Site) → ((x : Site) → (f x).host ≡ x.host) → (sites : List Site) (s : Site) → site_at sites n ≡ Some s
    → site_at (with_site n f sites) n ≡ Some (f s)
site_with n f same [] s q = absurd (cc q)
site_with n f same (x ∷ sites) s q = let h0 = x.host == n in let h1 = site_with n f same sites s in grind arith

-- ## Boots

module _ (v : NodeWorld) (n : ℕ) (there : (n == 0) ≡ false → (s : Site) × (site_at v.sites n ≡ Some s)) where
  boots_so : fails_within (length (boot_writes (memory_at v n).content)) (memory_at v n).plan ≡ false
      → boots v n ≡ (with_node n (boot_found v n) (boot_written v n), entry.Booted n (count_of (boot_found v n).core.journal) ∷ [])
  boots_so none = rw none refl

  -- a node is there as it was put there
  node_put : (r : Running) (m : Memory) → node_at (with_node n r (with_memory n m v)) n ≡ Some r
  node_put r m = go (n == 0) refl
    where
      f : Site → Site
      f = λ s. record s { memory = m }

      g : Site → Site
      g = λ s. record s { node = Some r }

      go : (b : Bool) → (n == 0) ≡ b → node_at (with_node n r (with_memory n m v)) n ≡ Some r
      go true q = rw q refl
      go false q =
          let s = there q in
          rw (q, (site_with n g (λ x. refl) (with_site n f v.sites) (f s.0) (site_with n f (λ x. refl) v.sites s.0 s.1))) refl

  -- its memory is what was put there
  memory_put : (m : Memory) → memory_at (with_memory n m v) n ≡ m
  memory_put m = go (n == 0) refl
    where
      go : (b : Bool) → (n == 0) ≡ b → memory_at (with_memory n m v) n ≡ m
      go true q = rw q refl
      go false q =
          let s = there q in
          rw (q, (site_with n (λ (x : Site). record x { memory = m }) (λ x. refl) v.sites s.0 s.1)) refl

  still_there : (m : Memory) → (n == 0) ≡ false → (s : Site) × (site_at (with_memory n m v).sites n ≡ Some s)
  still_there m q =
      let s = there q in
      let f : Site → Site = λ (x : Site). record x { memory = m } in
      let is : (with_memory n m v).sites ≡ with_site n f v.sites = rw q refl in
      (f s.0, ap (λ xs. site_at xs n) is ∙ site_with n f (λ x. refl) v.sites s.0 s.1)

-- the state of a memory, by the bank in use
abbrev state_in : List ℕ → Option Side → State
state_in content o =
    state_by o (option_map_or (journal_at content) o unformatted) (option_map_or (λ side. is_opened_gate (head content (other side)).gate) o false)

counted_anew : (content : List ℕ) → count_of (started_state (state_of content)) ≡ count content
counted_anew content = go (current content)
  where
    go : (o : Option Side) → count_of (started_state (state_in content o)) ≡ count_of (state_in content o)
    go o = grind arith

-- the memory of a node at rest
module _ (w : NodeWorld) (n : ℕ) (there : (n == 0) ≡ false → (s : Site) × (site_at w.sites n ≡ Some s)) where
  abbrev resting : Memory
  resting = record (memory_at w n) { plan = None }

  lost_there : (n == 0) ≡ false → (s : Site) × (site_at (loses_power_at n w).sites n ≡ Some s)
  lost_there q =
      let s = there q in
      let is : (loses_power_at n w).sites ≡ with_site n host_cut w.sites = rw q refl in
      (host_cut s.0, ap (λ xs. site_at xs n) is ∙ site_with n host_cut (λ x. refl) w.sites s.0 s.1)

  rest_there : (n == 0) ≡ false → (s : Site) × (site_at (at_rest n w).sites n ≡ Some s)
  rest_there q = still_there (loses_power_at n w) n lost_there resting q

  memory_rests : memory_at (at_rest n w) n ≡ resting
  memory_rests = memory_put (loses_power_at n w) n lost_there resting

  pub peeked : IsSoundMemory (memory_at w n) → IsPeekedSo w n (memory_at w n).content
  peeked sound =
      let v : NodeWorld = at_rest n w in
      let content : List ℕ = (memory_at w n).content in
      let same : (memory_at v n).content ≡ content = ap (λ (m : Memory). m.content) memory_rests in
      let so = boots_so v n rest_there (ap (λ (m : Memory). fails_within (length (boot_writes m.content)) m.plan) memory_rests) in
      let put = node_put v n rest_there (boot_found v n) (after_planned (boot_writes (memory_at v n).content) (memory_at v n)) in
      record {
        sound = sound.image;
        booted =
            ap (λ (p : NodeWorld × List Entry). p.1) so
            ∙ ap (λ k. entry.Booted n k ∷ []) (ap (λ c. count_of (started_state (state_of c))) same ∙ counted_anew content);
        tables =
            ap (λ (p : NodeWorld × List Entry). option_map (λ (r : Running). r.core.tables) (node_at p.0 n)) so
            ∙ (ap (λ (o : Option Running). option_map (λ (r : Running). r.core.tables) o) put ∙ ap (λ c. Some (close (tables_of c))) same);
      }

-- A world behind lines may go through a round.

-- ## At most seven links

above_few : (x : ℕ) (xs : List ℕ) → x ≤ 7 → AllByRecursion (IsAbove x) xs → AllByRecursion IsHost xs → IsStrictlySortedBy nat_cmp xs → x + length xs ≤ 7
above_few x [] low a hosts s = omega (arith, low)
above_few x (y ∷ ys) low a hosts s =
    omega (arith, (above x y a.0), (above_few y ys hosts.0.1 (sorted_head nat_cmp y ys s) hosts.1 (sorted_tail nat_cmp y ys s)))

hosts_few : (hosts : List ℕ) → AllByRecursion IsHost hosts → IsStrictlySortedBy nat_cmp hosts → length hosts ≤ 7
hosts_few [] a s = omega arith
hosts_few (x ∷ xs) a s = omega (arith, (above_few x xs a.0.1 (sorted_head nat_cmp x xs s) a.1 (sorted_tail nat_cmp x xs s)), a.0.0)

-- ## What the ends take, as lines

-- the lines of a round without its tick
abbrev takings_in : NodeWorld → List End → List Line
takings_in w [] = []
takings_in w (e ∷ ends) = taking_in w e ++ takings_in (world_after w (taking_in w e)) ends

takings_first : (ends : List End) (w : NodeWorld) → round_in w ends ≡ takings_in w ends ++ line.Tick None ∷ []
takings_first [] w = refl
takings_first (e ∷ ends) w =
    let v : NodeWorld = world_after w (taking_in w e) in
    ap (λ ls. taking_in w e ++ ls) (takings_first ends v) ∙ sym (append_assoc (taking_in w e) (takings_in v ends) (line.Tick None ∷ []))

takings_go : (ends : List End) (w : NodeWorld) → world_after w (takings_in w ends) ≡ (ends_take_all w ends).0
takings_go [] w = refl
takings_go (e ∷ ends) w =
    let v : NodeWorld = world_after w (taking_in w e) in
    after-append (taking_in w e) (takings_in v ends) w ∙ (takings_go ends v ∙ ap (λ (u : NodeWorld). (ends_take_all u ends).0) (takes_so w e).world)

takings_play : (ends : List End) (w : NodeWorld) → ArePlayable (takings_in w ends)
takings_play [] w = tt
takings_play (e ∷ ends) w =
    let v : NodeWorld = world_after w (taking_in w e) in
    all-append IsPlayable (taking_in w e) (takings_in v ends) (one (is_running w (node_of e) && not (is_clear (frames_at w e)))) (takings_play ends v)
  where
    one : (b : Bool) → ArePlayable (if b then line.Deliver e None ∷ [] else [])
    one b = grind arith

sure_first : (xs ys : List Line) (w : NodeWorld) → NoneIsMisread w (xs ++ ys) → NoneIsMisread w xs
sure_first [] ys w sure = tt
sure_first (x ∷ xs) ys w sure = (sure.0, sure_first xs ys _ sure.1)

-- ## Behind lines

module _ (header : Header) (is : IsNodeHeader header) (lines : List Line) (a : AllByRecursion (IsPlayedLine header) lines)
    (sure : NoneIsMisread (new_world header.hosts.items) lines) where
  abbrev w : NodeWorld
  w = nodes_behind header lines

  abbrev more : List Line
  more = takings_in w (ends_in_order w)

  timely_then : AreTimely (ends_take_all w (ends_in_order w)).0
  timely_then =
      let quiet : NoneIsMisread w more =
      sure_first more (line.Tick None ∷ []) w (subst (NoneIsMisread w) (takings_first (ends_in_order w) w) (sure_round (ends_in_order w) w)) in
      subst AreTimely (after-append lines more (new_world header.hosts.items) ∙ takings_go (ends_in_order w) w)
      (timely_behind header is (lines ++ more)
      (all-append IsPlayable lines more (are_playable header lines a) (takings_play (ends_in_order w) w))
      (sure-append lines more (new_world header.hosts.items) sure quiet))

  pub may_go_round : FewBehind 250000000 w → MayGoRound w
  may_go_round few =
      let hosts : hosts_in w.sites ≡ header.hosts.items = hosts_behind header is lines (are_playable header lines a) sure in
      record {
        takes = record {
          links = omega (arith, (length-map w.sites (λ (s : Site). s.host)), (ap (λ (ns : List ℕ). length ns) hosts), (links_few header is));
          goes_on = goes_on_behind header is lines (are_playable header lines a) sure;
          few = few;
        };
        timely = timely_then;
      }
