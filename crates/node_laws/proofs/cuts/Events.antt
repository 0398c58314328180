-- What a boot, a cut, a plan or anything else leaves of what is known of each node, the one that is changed and the others.
use Rattle.node_laws.proofs.Words.{Activates, AllByRecursion, AllKeep, AreHosts, Arms, AsksReset, AtEnd, Book, Bool, BootFinds, Boots, Comes, Core}
use Rattle.node_laws.proofs.Words.{EachIsAsRead, End, Entry, FindsBy, FindsExactly, Gives, Happening, HciTables, IfRuns, Inits, IsCut, IsCutAsPlanned, IsHost}
use Rattle.node_laws.proofs.Words.{IsOnOrder, List, Loses, Loss, MayBeDone, MayHappen, Memory, Message, NextFrame, NoInput, NodeWorld, None, Option, Orders}
use Rattle.node_laws.proofs.Words.{Plan, Reckoning, Resets, Running, RunsSo, Sends, Site, SiteKeeps, Some, Starts, Takes, Ticks, [], activates, after_commands}
use Rattle.node_laws.proofs.Words.{after_planned, ap, append-nil, arith, beginning, begins_with, begun_by, book_in, boot_writes, boots, by_coming, by_list}
use Rattle.node_laws.proofs.Words.{by_loss, by_option, by_test, cases_Bool, close, comes_at, commands_in, cond, cond_both, controller_cut, count_of, counts}
use Rattle.node_laws.proofs.Words.{current, end_c, end_h, eq-eqb, eqb, eqb-false, eqb-true, fails_within, false, fold, format_writes, found, frame_lost}
use Rattle.node_laws.proofs.Words.{host_cut, host_does, inl, inr, is_command_message, is_some, length, links_of, loses_power_at, map, memory_at, min, ne_eqb}
use Rattle.node_laws.proofs.Words.{no_tables, node_at, none_within, option_map_or, reckoned, reckoned_within, refl, sending, site_at, site_lost, started_state}
use Rattle.node_laws.proofs.Words.{state_of, steps, subst, sym, take, true, true≢false, with_found, with_memory, with_node, with_site, world_step, ℕ, ◌&&◌}
use Rattle.node_laws.proofs.Words.{◌++◌, ◌-◌, ◌^◌, ◌∙◌, ◌∷◌, ◌≡◌, ◌≤◌, ◌⊎◌}
use Rattle.hci_store.proofs.Starting.{counted}
use Rattle.node_laws.specs.cuts.Histories.{IsBootedBy}
use Rattle.node_laws.proofs.cuts.Standing.{Stands, all_found, book_then, exact_idle, stands_same, still_booted}
use Rattle.node_laws.proofs.cuts.Ticking.{ExactAt, IsThere, StandsAt, controller_exact, exact_both, host_exact, memory_far, node_far, none_exact, plain_exact}
use Rattle.node_laws.proofs.cuts.Ticking.{ticks_exact, with_here, with_there}
use Rattle.node_laws.proofs.kept.Doing.{all_fine, closed_book, same_new}
use Rattle.node_laws.proofs.kept.Booting.{left_formatted}
use Rattle.node_laws.proofs.kept.Reckoned.{IsNothingFor, finds_closed, other_idles, planned_cut, used_of}
use Rattle.node_laws.proofs.kept.Events.{comes_goes, loses_is, no_order, site_found}
use Rattle.node_laws.proofs.kept.Stepping.{steps_fine}
use Rattle.node_laws.proofs.telling.Events.{site_map}
use Rattle.trace_model.specs.declared.entry.Entry.TheVariants as entry

-- ## A node of a world that is changed, and the others, which stay

-- this node has the same as before
record IsSameAt (n : ℕ) (w v : NodeWorld) : Type 0 where
  pub memory : memory_at v n ≡ memory_at w n
  pub node : node_at v n ≡ node_at w n
  pub there : IsThere v n

same_then : (n : ℕ) (w v u : NodeWorld) → IsSameAt n w v → IsSameAt n v u → IsSameAt n w u
same_then n w v u a b = record { memory = b.memory ∙ a.memory; node = b.node ∙ a.node; there = b.there }

-- the controller is changed, and links are
record ChangesNear (w v : NodeWorld) : Type 0 where
  change : Site → Site
  sites : v.sites ≡ map change w.sites
  host : (s : Site) → (change s).host ≡ s.host
  memory : (s : Site) → (change s).memory ≡ s.memory
  node : (s : Site) → (change s).node ≡ s.node

-- a host is changed
record ChangesFar (k : ℕ) (w v : NodeWorld) : Type 0 where
  change : Site → Site
  host : (s : Site) → (change s).host ≡ s.host
  is : v ≡ record w { sites = with_site k change w.sites }

same_far : (n : ℕ) (w v : NodeWorld) (s x : Site) → eqb n 0 ≡ false → site_at w.sites n ≡ Some s → site_at v.sites n ≡ Some x → x.memory ≡ s.memory
    → x.node ≡ s.node → IsSameAt n w v
same_far n w v s x off was is memory node = grind arith

same_at : (k n : ℕ) (w v : NodeWorld) → (k ≡ n → ⊥) → (k ≡ 0 → ChangesNear w v) → (eqb k 0 ≡ false → ChangesFar k w v) → IsThere w n → IsSameAt n w v
same_at k n w v other near far there = by_number (cases_Bool (eqb k 0)) there where
  by_number : (eqb k 0 ≡ true) ⊎ (eqb k 0 ≡ false) → IsThere w n → IsSameAt n w v
  by_number (inl is) (inl zero_is) = absurd (other (eqb-true k 0 is ∙ sym zero_is))
  by_number (inl is) (inr host) =
      let a : ChangesNear w v = near (eqb-true k 0 is) in
      let s : Site = host.1.0 in
      same_far n w v s (a.change s) host.0 host.1.1 (ap (λ l. site_at l n) a.sites ∙ site_map a.change a.host w.sites n s host.1.1) (a.memory s) (a.node s)
  by_number (inr off) (inl zero_is) = grind arith
  by_number (inr off) (inr host) =
      let a : ChangesFar k w v = far off in
      let s : Site = host.1.0 in
      subst (IsSameAt n w) (sym a.is)
      (same_far n w (record w { sites = with_site k a.change w.sites }) s s host.0 host.1.1
      (with_there a.change a.host w.sites k n s (ne_eqb k n other) host.1.1) refl refl)

same_sites : (sites : List Site) → sites ≡ map (λ (s : Site). s) sites
same_sites [] = refl
same_sites (s ∷ sites) = ap (λ l. s ∷ l) (same_sites sites)

-- ### A memory, a node that runs, and power that is lost

abbrev with_its : Memory → Site → Site
with_its m s = record s { memory = m }

abbrev running_so : Running → Site → Site
running_so q s = record s { node = Some q }

memory_is : (w : NodeWorld) (k : ℕ) (m : Memory) → eqb k 0 ≡ false → with_memory k m w ≡ record w { sites = with_site k (with_its m) w.sites }
memory_is w k m off = rw off refl

node_is : (w : NodeWorld) (k : ℕ) (q : Running) → eqb k 0 ≡ false → with_node k q w ≡ record w { sites = with_site k (running_so q) w.sites }
node_is w k q off = rw off refl

same_memory : (k n : ℕ) (w : NodeWorld) (m : Memory) → (k ≡ n → ⊥) → IsThere w n → IsSameAt n w (with_memory k m w)
same_memory k n w m other =
    same_at k n w (with_memory k m w) other
    (λ z. subst (λ j. ChangesNear w (with_memory j m w)) (sym z)
    (record { change = λ s. s; sites = same_sites w.sites; host = λ s. refl; memory = λ s. refl; node = λ s. refl }))
    (λ off. record { change = with_its m; host = λ s. refl; is = memory_is w k m off })

same_node : (k n : ℕ) (w : NodeWorld) (q : Running) → (k ≡ n → ⊥) → IsThere w n → IsSameAt n w (with_node k q w)
same_node k n w q other =
    same_at k n w (with_node k q w) other
    (λ z. subst (λ j. ChangesNear w (with_node j q w)) (sym z)
    (record { change = λ s. s; sites = same_sites w.sites; host = λ s. refl; memory = λ s. refl; node = λ s. refl }))
    (λ off. record { change = running_so q; host = λ s. refl; is = node_is w k q off })

same_loses : (k n : ℕ) (w : NodeWorld) → (k ≡ n → ⊥) → IsThere w n → IsSameAt n w (loses_power_at k w)
same_loses k n w other =
    same_at k n w (loses_power_at k w) other
    (λ z. subst (λ j. ChangesNear w (loses_power_at j w)) (sym z) (grind arith))
    (λ off. record { change = host_cut; host = λ s. refl; is = loses_is w k off })

-- ### The node itself

-- this node has this memory and runs so
record IsNowAt (n : ℕ) (v : NodeWorld) (m : Memory) (node : Option Running) : Type 0 where
  pub memory : memory_at v n ≡ m
  pub running : node_at v n ≡ node
  pub there : IsThere v n

now_far : (k : ℕ) (w : NodeWorld) (s : Site) (f : Site → Site) → ((x : Site) → (f x).host ≡ x.host) → eqb k 0 ≡ false → site_at w.sites k ≡ Some s
    → IsNowAt k (record w { sites = with_site k f w.sites }) (f s).memory (f s).node
now_far k w s f host off here =
    let found : site_at (with_site k f w.sites) k ≡ Some (f s) = with_here f host w.sites k s here in
    let v : NodeWorld = record w { sites = with_site k f w.sites } in
    record { memory = memory_far v k (f s) off found; running = node_far v k (f s) off found; there = inr (off, (f s, found)) }

now_near : (k : ℕ) (v : NodeWorld) → k ≡ 0 → IsNowAt k v v.memory v.controller
now_near k v z = subst (λ j. IsNowAt j v v.memory v.controller) (sym z) (record { memory = refl; running = refl; there = inl refl })

now_memory : (k : ℕ) (w : NodeWorld) (m : Memory) → IsThere w k → IsNowAt k (with_memory k m w) m (node_at w k)
now_memory k w m (inl z) = subst (λ j. IsNowAt j (with_memory j m w) m (node_at w j)) (sym z) (now_near 0 (record w { memory = m }) refl)
now_memory k w m (inr far) =
    subst (λ v. IsNowAt k v m (node_at w k)) (sym (memory_is w k m far.0))
    (subst (IsNowAt k (record w { sites = with_site k (with_its m) w.sites }) m) (sym (node_far w k far.1.0 far.0 far.1.1))
    (now_far k w far.1.0 (with_its m) (λ x. refl) far.0 far.1.1))

now_node : (k : ℕ) (w : NodeWorld) (q : Running) → IsThere w k → IsNowAt k (with_node k q w) (memory_at w k) (Some q)
now_node k w q (inl z) = subst (λ j. IsNowAt j (with_node j q w) (memory_at w j) (Some q)) (sym z) (now_near 0 (record w { controller = Some q }) refl)
now_node k w q (inr far) =
    subst (λ v. IsNowAt k v (memory_at w k) (Some q)) (sym (node_is w k q far.0))
    (subst (λ m. IsNowAt k (record w { sites = with_site k (running_so q) w.sites }) m (Some q)) (sym (memory_far w k far.1.0 far.0 far.1.1))
    (now_far k w far.1.0 (running_so q) (λ x. refl) far.0 far.1.1))

now_loses : (k : ℕ) (w : NodeWorld) → IsThere w k → IsNowAt k (loses_power_at k w) (memory_at w k) None
now_loses k w (inl z) = subst (λ j. IsNowAt j (loses_power_at j w) (memory_at w j) None) (sym z) (now_near 0 (controller_cut w) refl)
now_loses k w (inr far) =
    let h0 = memory_at w k in let h1 = loses_is w k far.0 in let h2 = memory_far w k far.1.0 far.0 far.1.1 in
    let h3 = now_far k w far.1.0 host_cut (λ x. refl) far.0 far.1.1 in grind arith

-- ### What it keeps

-- a node that runs, with links to some hosts
runs_of : (hosts : List ℕ) (are : AreHosts hosts) (t : List Entry) (v : NodeWorld) (n : ℕ) (q : Running) → AllKeep hosts t v → IsThere v n
    → node_at v n ≡ Some q → (links : List ℕ) × RunsSo n links (memory_at v n).content t q
runs_of hosts are t v n q all (inl z) running = grind arith
runs_of hosts are t v n q all (inr far) running =
    let s : Site = far.1.0 in
    let known = site_found (SiteKeeps t) IsHost v.sites n s all.sites (subst (AllByRecursion IsHost) (sym all.hosts_are) are.all) far.1.1 in
    let was : s.node ≡ Some q = sym (node_far v n s far.0 far.1.1) ∙ running in
    let here : RunsSo s.host (s.host ∷ []) s.memory.content t q = subst (IfRuns s.host (s.host ∷ []) s.memory.content t) was known.0.runs in grind arith

-- ## What a boot, a cut or a plan leaves of what is known of each node

-- a boot whose writes are cut leaves what it would have found
finds_cut : (m : Memory) (t : HciTables) (many : ℕ) → BootFinds m.content t many → fails_within (length (boot_writes m.content)) m.plan ≡ true
    → BootFinds (after_planned (boot_writes m.content) m).content t many
finds_cut m t many f fails = by_option (current m.content)
    (λ is. let cut = planned_cut (boot_writes m.content) m fails in
    left_formatted m.content t many f is cut.0 (after_planned (boot_writes m.content) m).content
    (grind arith))
    (λ side is. absurd (true≢false (sym fails ∙ ap (λ p. fails_within (length (option_map_or (λ _. []) p format_writes)) m.plan) is ∙ none_within m.plan)))

-- only a boot that formats can be cut
blank_then : (m : Memory) → fails_within (length (boot_writes m.content)) m.plan ≡ true → current m.content ≡ None
blank_then m fails = by_option (current m.content)
    (λ is. is)
    (λ side is. absurd (true≢false (sym fails ∙ ap (λ p. fails_within (length (option_map_or (λ _. []) p format_writes)) m.plan) is ∙ none_within m.plan)))

least : (lost : Bool) (many all : ℕ) → FindsBy lost many all → many ≤ all
least lost many all is = grind arith

module _ (n : ℕ) (t : List Entry) (r : Reckoning) (m : Memory) where
  -- as a boot of the node begins
  abbrev booting : Reckoning
  booting = record r { memory = after_planned (boot_writes r.memory.content) r.memory }

  uncut_is : fold (reckoned n) booting (entry.Cut n ∷ []) ≡ record booting { runs = false; due = false }
  uncut_is = ap (λ b. cond b (record booting { runs = false; due = false }) booting) (eq-eqb n n refl)

  boot_cut : (node : Option Running) → Stands n t r m node → fails_within (length (boot_writes m.content)) m.plan ≡ true
      → Stands n (t ++ entry.Cut n ∷ []) (fold (reckoned n) booting (entry.Cut n ∷ [])) (after_planned (boot_writes m.content) m) None
  boot_cut node s fails = subst (λ x. Stands n (t ++ entry.Cut n ∷ []) x (after_planned (boot_writes m.content) m) None) (sym uncut_is) (record {
    runs_is = refl;
    book_is = ap (λ (x : Reckoning). x.book) (sym uncut_is) ∙ book_then n t booting (entry.Cut n ∷ []) s.book_is;
    memory_is = grind arith;
    none_due = refl;
    none_lost = λ on. absurd (true≢false (sym on));
    many = s.many;
    which = s.which;
    finds = finds_cut m (after_commands no_tables (take s.many r.book.commands)) (min s.many (2 ^ 32 - 1)) s.finds fails;
    used = λ on.
        absurd (true≢false (sym (s.used (sym (still_booted n t (entry.Cut n ∷ []) refl) ∙ on)) ∙ ap is_some (blank_then m fails)));
  })

  boot_found : (links : List ℕ) (node : Option Running) → Stands n t r m node → length r.book.commands ≤ 2 ^ 32 - 1
      → FindsExactly r (count_of (found n links m.content).core.journal)
  boot_found links node s few = subst (λ k. FindsBy r.lost k (length r.book.commands)) (sym now) s.which where
    now : count_of (found n links m.content).core.journal ≡ s.many
    now =
        counted m.content (state_of m.content) (started_state (state_of m.content)) (grind arith) refl
        ∙ s.finds.keeps.count_is ∙ (omega (arith, least r.lost s.many (length r.book.commands) s.which, few))

  boot_run : (links : List ℕ) (k : ℕ) (node : Option Running) (q : Running) → Stands n t r m node
      → RunsSo n links (after_planned (boot_writes m.content) m).content (t ++ entry.Booted n k ∷ []) q
      → Stands n (t ++ entry.Booted n k ∷ []) (fold (reckoned n) booting (entry.Booted n k ∷ [])) (after_planned (boot_writes m.content) m) (Some q)
  boot_run links k node q s runs = record {
    runs_is = ap (λ (x : Reckoning). x.runs) booted_is;
    book_is = book;
    memory_is = ap (λ (x : Reckoning). x.memory) booted_is ∙ (grind arith);
    none_due = ap (λ (x : Reckoning). x.due) booted_is ∙ s.none_due;
    none_lost = λ on. none;
    many = length now.book.commands;
    which = subst (λ b. FindsBy b (length now.book.commands) (length now.book.commands)) (sym none) refl;
    finds = all_found content now.book.commands
        (subst (λ x. BootFinds content (after_commands no_tables now.book.commands) x)
        (runs.count_is ∙ ap (λ (b : Book). min (length b.commands) (2 ^ 32 - 1)) (sym book))
        (finds_closed content q.core.tables (after_commands no_tables now.book.commands) (count_of q.core.journal) runs.knows.finds
        (ap close runs.tables_are ∙ closed_book (t ++ entry.Booted n k ∷ []) n
        ∙ ap (λ (b : Book). close (after_commands no_tables b.commands)) (sym book))));
    used = λ on. used_of content q.core.journal q.core.tables runs.knows;
  }
    where
      now : Reckoning
      now = fold (reckoned n) booting (entry.Booted n k ∷ [])

      content : List ℕ
      content = (after_planned (boot_writes m.content) m).content

      book : now.book ≡ book_in (t ++ entry.Booted n k ∷ []) n
      book = book_then n t booting (entry.Booted n k ∷ []) s.book_is

      booted_is : fold (reckoned n) booting (entry.Booted n k ∷ []) ≡ record booting { runs = true; book = with_found k r.book; lost = false }
      booted_is = ap (λ b. cond b (record booting { runs = true; book = with_found k r.book; lost = false }) booting) (eq-eqb n n refl)

      none : now.lost ≡ false
      none = ap (λ (x : Reckoning). x.lost) booted_is

  -- the power of the node is cut while it runs
  cut_stands : (q : Running) → Stands n t r m (Some q) → Stands n (t ++ entry.Cut n ∷ []) (fold (reckoned n) r (entry.Cut n ∷ [])) m None
  cut_stands q s = subst (λ x. Stands n (t ++ entry.Cut n ∷ []) x m None) (sym cut_is) (record {
    runs_is = refl;
    book_is = ap (λ (x : Reckoning). x.book) (sym cut_is) ∙ book_then n t r (entry.Cut n ∷ []) s.book_is;
    memory_is = s.memory_is;
    none_due = refl;
    none_lost = λ on. absurd (true≢false (sym on));
    many = s.many;
    which = s.which;
    finds = s.finds;
    used = λ on. s.used (sym (still_booted n t (entry.Cut n ∷ []) refl) ∙ on);
  }) where
    cut_is : fold (reckoned n) r (entry.Cut n ∷ []) ≡ record r { runs = false; due = false }
    cut_is = ap (λ b. cond b (record r { runs = false; due = false }) r) (eq-eqb n n refl)

  -- a write of its memory is to fail
  armed_stands : (plan : Plan) (node : Option Running) → Stands n t r m node
      → Stands n (t ++ []) (record r { memory = record r.memory { plan = Some plan } }) (record m { plan = Some plan }) node
  armed_stands plan node s = subst (λ l. Stands n l (record r { memory = record r.memory { plan = Some plan } }) (record m { plan = Some plan }) node)
      (sym (append-nil t)) (grind arith)

-- ## What whatever happens leaves of what is known of each node, and how its entries come

-- how the entries of an event come, and what is known of the node after it
pub record GoesExactly (n : ℕ) (t : List Entry) (r : Reckoning) (c : Happening) (p : NodeWorld × List Entry) : Type 0 where
  pub planned : IsCutAsPlanned n r c p.1
  pub booted : (before behind : List Entry) (many : ℕ) → p.1 ≡ before ++ (entry.Booted n many ∷ behind) → FindsExactly (reckoned_within n c r before) many
  pub stands : StandsAt n (t ++ p.1) (reckoned_within n c r p.1) p.0
  pub there : IsThere p.0 n

-- ### Boots that are noted

-- none is where the node doesn't boot
none_booted : (P : Type 0) (n : ℕ) (r : Reckoning) (before behind : List Entry) (many : ℕ) → EachIsAsRead n r (before ++ (entry.Booted n many ∷ behind)) → P
none_booted P n r [] behind many each = absurd (each.1 refl)
none_booted P n r (e ∷ before) behind many each = none_booted P n (reckoned n r e) before behind many each.2

one_booted : (n j many : ℕ) (r : Reckoning) (before behind : List Entry) → entry.Booted n j ∷ [] ≡ before ++ (entry.Booted n many ∷ behind)
    → FindsExactly r j → FindsExactly (fold (reckoned n) r before) many
one_booted n j many r [] behind is right = grind arith
one_booted n j many r (e ∷ []) behind is right = absurd (cc is)
one_booted n j many r (e ∷ f ∷ before) behind is right = absurd (cc is)

none_in_cut : (P : Type 0) (k n many : ℕ) (before behind : List Entry) → entry.Cut k ∷ [] ≡ before ++ (entry.Booted n many ∷ behind) → P
none_in_cut P k n many [] behind is = absurd (cc is)
none_in_cut P k n many (e ∷ []) behind is = absurd (cc is)
none_in_cut P k n many (e ∷ f ∷ before) behind is = absurd (cc is)

-- ### What happens to no memory from outside

usual : (n : ℕ) (t : List Entry) (r : Reckoning) (c : Happening) (p : NodeWorld × List Entry) → begun_by n c r ≡ r
    → (EachIsAsRead n r p.1 × ((fold (reckoned n) r p.1).due ≡ false) → IsCutAsPlanned n r c p.1) → ExactAt n t r p → GoesExactly n t r c p
usual n t r c p same planned a = record {
  planned = planned (a.exact.each, a.exact.stands.none_due);
  booted = λ before behind many is. none_booted _ n r before behind many (subst (EachIsAsRead n r) is a.exact.each);
  stands = subst (λ x. StandsAt n (t ++ p.1) (fold (reckoned n) x p.1) p.0) (sym same) a.exact.stands;
  there = a.there;
}

module _ (hosts : List ℕ) (are : AreHosts hosts) (n : ℕ) where
  -- ### Steps

  comes_exact : (t : List Entry) (r : Reckoning) (w : NodeWorld) (e : End) (comes : Comes) → AllKeep hosts t w → IsThere w n → StandsAt n t r w
      → ExactAt n t r (comes_at w e comes)
  comes_exact t r w e comes all there stands =
      by_coming (ExactAt n t r) w e comes (none_exact n t r w there stands)
      (λ i at seen. host_exact hosts are n t r w e.link comes (steps (AtEnd e.link i)) all
      (λ x q here running host on before work same k.
      steps_fine x.host (x.host ∷ []) x.memory before (inr host) (record { all = (host, tt); different = (tt, tt) }) (AtEnd e.link i) work k
      (subst (λ (c : Core). IsOnOrder c.command c.init) (sym same) on)) there stands)
      (λ i at seen. controller_exact hosts are n t r w e.link comes (steps (AtEnd e.link i)) all
      (λ old before work k on. steps_fine 0 hosts old before (inl refl) are (AtEnd e.link i) work k on) there stands)

  activates_exact : (t : List Entry) (r : Reckoning) (w : NodeWorld) (h sync power : ℕ) → AllKeep hosts t w → IsThere w n → StandsAt n t r w
      → ExactAt n t r (activates w h sync power)
  activates_exact t r w h sync power all there stands =
      let near : NodeWorld × List Entry = comes_at w (end_c h) (Starts power) in
      let a : ExactAt n t r near = comes_exact t r w (end_c h) (Starts power) all there stands in
      exact_both n t r near (comes_at near.0 (end_h h) (Starts sync)) a
      (comes_exact (t ++ near.1) (fold (reckoned n) r near.1) near.0 (end_h h) (Starts sync) (comes_goes hosts are t w (end_c h) (Starts power) all).keep
      a.there a.exact.stands)

  gives_exact : (t : List Entry) (r : Reckoning) (w : NodeWorld) (h : ℕ) (m : Message) → AllKeep hosts t w
      → ((x : Site) (q : Running) → site_at w.sites h ≡ Some x → x.node ≡ Some q → (eqb m.0 1 && is_command_message m.1) ≡ true
      → is_some q.core.command ≡ false)
      → IsThere w n → StandsAt n t r w → ExactAt n t r (host_does w h NoInput (begins_with h (sending h m)))
  gives_exact t r w h m all free there stands =
      host_exact hosts are n t r w h NoInput (begins_with h (sending h m)) all
      (λ x q here running host on before work same k.
      let on_now : IsOnOrder work.core.command work.core.init = subst (λ (c : Core). IsOnOrder c.command c.init) (sym same) on in
      all_fine x.host (x.host ∷ []) x.memory before h (sending h m) work (Some work.core.journal) k refl
      (cond_both (eqb m.0 1 && is_command_message m.1) (Orders m.1 ∷ []) (Sends h m ∷ []) (MayBeDone (Some work.core.journal) work.core.command work.core.init)
      (λ is. no_order work.core.command (Some m.1) work.core.init (ap (λ (c : Core). is_some c.command) same ∙ free x q here running is) on_now) (λ _. on_now))
      work.ports (same_new work.ports)
      (λ z. grind arith)) there stands

  inits_exact : (t : List Entry) (r : Reckoning) (w : NodeWorld) (h : ℕ) (identity : List ℕ) (pipes : List (List ℕ)) → AllKeep hosts t w
      → IsThere w n → StandsAt n t r w → ExactAt n t r (host_does w h NoInput (begins_with h (beginning identity pipes)))
  inits_exact t r w h identity pipes all there stands =
      host_exact hosts are n t r w h NoInput (begins_with h (beginning identity pipes)) all
      (λ x q here running host on before work same k.
      all_fine x.host (x.host ∷ []) x.memory before h (beginning identity pipes) work (Some work.core.journal) k refl refl work.ports
      (same_new work.ports) (λ z. (tt, (tt, tt)))) there stands

  -- ### Losses

  lost_exact : (t : List Entry) (r : Reckoning) (w : NodeWorld) (e : End) (why : Loss) → IsThere w n → StandsAt n t r w → ExactAt n t r (frame_lost w e why)
  lost_exact t r w e why there stands =
      by_loss (ExactAt n t r) w e why
      (λ side. plain_exact n t r w _ (grind arith) there stands)
      (λ side. plain_exact n t r w _ (grind arith) there stands) where
        far : Site → Site
        far s = record (site_lost e why s) { node = counts why e.link s.node }

  -- ### Power

  -- where this node has the same as before, and nothing is noted of it
  same_exact : (t : List Entry) (r : Reckoning) (w v : NodeWorld) (es : List Entry) → IsSameAt n w v → AllByRecursion (IsNothingFor n) es → StandsAt n t r w
      → ExactAt n t r (v, es)
  same_exact t r w v es a idle stands = record {
    exact = exact_idle n t r es (memory_at v n) (node_at v n)
        (stands_same n t r (memory_at w n) (memory_at v n) (node_at w n) (node_at v n) stands a.memory (ap is_some a.node)) idle;
    there = a.there;
  }

  stands_now : (t : List Entry) (r : Reckoning) (v : NodeWorld) (m : Memory) (node : Option Running) → IsNowAt n v m node → Stands n t r m node
      → StandsAt n t r v
  stands_now t r v m node a s = subst (λ x. Stands n t r x (node_at v n)) (sym a.memory) (subst (Stands n t r m) (sym a.running) s)

  cut_exact : (t : List Entry) (r : Reckoning) (w : NodeWorld) (k : ℕ) (q : Running) → node_at w k ≡ Some q → IsThere w n → StandsAt n t r w
      → GoesExactly n t r (IsCut k) (loses_power_at k w, entry.Cut k ∷ [])
  cut_exact t r w k q running there stands = by_test (eqb k n)
      (λ is. let same : k ≡ n = eqb-true k n is in
      subst (λ j. GoesExactly n t r (IsCut j) (loses_power_at j w, entry.Cut j ∷ [])) (sym same) (record {
        planned = refl;
        booted = λ before behind many at_it. none_in_cut _ n n many before behind at_it;
        stands = stands_now (t ++ entry.Cut n ∷ []) (fold (reckoned n) r (entry.Cut n ∷ [])) (loses_power_at n w) (memory_at w n) None
            (now_loses n w there) (cut_stands n t r (memory_at w n) q (subst (Stands n t r (memory_at w n)) (sym (ap (node_at w) same) ∙ running) stands));
        there = (now_loses n w there).there;
      }))
      (λ other. let a : ExactAt n t r (loses_power_at k w, entry.Cut k ∷ []) =
      same_exact t r w (loses_power_at k w) (entry.Cut k ∷ []) (same_loses k n w (eqb-false k n other) there)
      (other_idles k n (entry.Cut k ∷ []) (eqb-false k n other) (refl, tt)) stands in
      record {
        planned = refl;
        booted = λ before behind many at_it. none_in_cut _ k n many before behind at_it;
        stands = a.exact.stands;
        there = a.there;
      })

  arms_exact : (t : List Entry) (r : Reckoning) (w : NodeWorld) (k : ℕ) (plan : Plan) → IsThere w n → StandsAt n t r w
      → GoesExactly n t r (Arms k plan) (with_memory k (record (memory_at w k) { plan = Some plan }) w, [])
  arms_exact t r w k plan there stands = by_test (eqb k n)
      (λ is. let armed : Memory = record (memory_at w n) { plan = Some plan } in
      let now : IsNowAt n (with_memory n armed w) armed (node_at w n) = now_memory n w armed there in
      let here : begun_by n (Arms n plan) r ≡ record r { memory = record r.memory { plan = Some plan } } =
      ap (λ b. cond b (record r { memory = record r.memory { plan = Some plan } }) r) (eq-eqb n n refl) in
      let after_it : StandsAt n (t ++ []) (begun_by n (Arms n plan) r) (with_memory n armed w) =
      subst (λ x. StandsAt n (t ++ []) x (with_memory n armed w)) (sym here)
      (stands_now (t ++ []) (record r { memory = record r.memory { plan = Some plan } }) (with_memory n armed w) armed (node_at w n) now
      (armed_stands n t r (memory_at w n) plan (node_at w n) stands)) in
      subst (λ j. GoesExactly n t r (Arms j plan) (with_memory j (record (memory_at w j) { plan = Some plan }) w, [])) (sym (eqb-true k n is)) (record {
        planned = (tt, ap (λ (x : Reckoning). x.due) here ∙ stands.none_due);
        booted = λ before behind many at_it. by_list before
            (λ q. rw q (absurd (cc (rw q at at_it))))
            (λ e before q. rw q (absurd (cc (rw q at at_it))));
        stands = after_it;
        there = now.there;
      }))
      (λ other. usual n t r (Arms k plan) (with_memory k (record (memory_at w k) { plan = Some plan }) w, [])
      (ap (λ b. cond b (record r { memory = record r.memory { plan = Some plan } }) r) other) (λ z. rw other z)
      (same_exact t r w (with_memory k (record (memory_at w k) { plan = Some plan }) w) []
      (same_memory k n w (record (memory_at w k) { plan = Some plan }) (eqb-false k n other) there) tt stands))

  -- ### Boots

  module _ (w : NodeWorld) (k : ℕ) where
    abbrev memory : Memory
    memory = memory_at w k

    abbrev fails : Bool
    fails = fails_within (length (boot_writes memory.content)) memory.plan

    abbrev written : NodeWorld
    written = with_memory k (after_planned (boot_writes memory.content) memory) w

    abbrev starts : Running
    starts = found k (links_of w k) memory.content

    cut_is : fails ≡ true → boots w k ≡ (loses_power_at k written, entry.Cut k ∷ [])
    cut_is e = rw e refl

    run_is : fails ≡ false → boots w k ≡ (with_node k starts written, entry.Booted k (count_of starts.core.journal) ∷ [])
    run_is e = rw e refl

  boots_other : (t : List Entry) (r : Reckoning) (w : NodeWorld) (k : ℕ) → (k ≡ n → ⊥) → IsThere w n → StandsAt n t r w → ExactAt n t r (boots w k)
  boots_other t r w k other there stands = by_test (fails w k)
      (λ e. subst (ExactAt n t r) (sym (cut_is w k e))
      (same_exact t r w (loses_power_at k (written w k)) (entry.Cut k ∷ [])
      (same_then n w (written w k) (loses_power_at k (written w k)) first (same_loses k n (written w k) other first.there))
      (other_idles k n (entry.Cut k ∷ []) other (refl, tt)) stands))
      (λ e. let many : ℕ = count_of (starts w k).core.journal in
      subst (ExactAt n t r) (sym (run_is w k e))
      (same_exact t r w (with_node k (starts w k) (written w k)) (entry.Booted k many ∷ [])
      (same_then n w (written w k) (with_node k (starts w k) (written w k)) first (same_node k n (written w k) (starts w k) other first.there))
      (other_idles k n (entry.Booted k many ∷ []) other (refl, tt)) stands)) where
        first : IsSameAt n w (written w k)
        first = same_memory k n w (after_planned (boot_writes (memory w k).content) (memory w k)) other there

  boots_own : (t : List Entry) (r : Reckoning) (w : NodeWorld) → length (commands_in t n) ≤ 2 ^ 32 - 1 → AllKeep hosts (t ++ (boots w n).1) (boots w n).0
      → IsThere w n → StandsAt n t r w → GoesExactly n t r (Boots n) (boots w n)
  boots_own t r w few keep there stands = by_test (fails w n)
      (λ e. let v : NodeWorld = loses_power_at n (written w n) in
      let off : IsNowAt n v (memory_at (written w n) n) None = now_loses n (written w n) first.there in
      let now : IsNowAt n v (after_planned (boot_writes (memory w n).content) (memory w n)) None =
      record { memory = off.memory ∙ first.memory; running = off.running; there = off.there } in
      let es : List Entry = entry.Cut n ∷ [] in
      subst (GoesExactly n t r (Boots n)) (sym (cut_is w n e)) (record {
        planned = planned_is es true e refl;
        booted = λ before behind many at_it. none_in_cut _ n n many before behind at_it;
        stands = subst (λ x. StandsAt n (t ++ es) (fold (reckoned n) x es) v) (sym here)
            (stands_now (t ++ es) (fold (reckoned n) (booting n t r (memory w n)) es) v (after_planned (boot_writes (memory w n).content) (memory w n)) None
            now (boot_cut n t r (memory w n) (node_at w n) stands e));
        there = now.there;
      }))
      (λ e. let v : NodeWorld = with_node n (starts w n) (written w n) in
      let on : IsNowAt n v (memory_at (written w n) n) (Some (starts w n)) = now_node n (written w n) (starts w n) first.there in
      let now : IsNowAt n v (after_planned (boot_writes (memory w n).content) (memory w n)) (Some (starts w n)) =
      record { memory = on.memory ∙ first.memory; running = on.running; there = on.there } in
      let many : ℕ = count_of (starts w n).core.journal in
      let es : List Entry = entry.Booted n many ∷ [] in
      let right : FindsExactly r many =
      boot_found n t r (memory w n) (links_of w n) (node_at w n) stands
      (subst (λ b. length b ≤ 2 ^ 32 - 1) (sym (ap (λ b. b.commands) stands.book_is)) few) in
      let kept : AllKeep hosts (t ++ es) v = subst (λ (p : NodeWorld × List Entry). AllKeep hosts (t ++ p.1) p.0) (run_is w n e) keep in
      let runs = runs_of hosts are (t ++ es) v n (starts w n) kept now.there now.running in
      subst (GoesExactly n t r (Boots n)) (sym (run_is w n e)) (record {
        planned = planned_is es false e (many, refl, right);
        booted = λ before behind found at_it.
            subst (λ x. FindsExactly (fold (reckoned n) x before) found) (sym here)
            (one_booted n many found (booting n t r (memory w n)) before behind at_it right);
        stands = subst (λ x. StandsAt n (t ++ es) (fold (reckoned n) x es) v) (sym here)
            (stands_now (t ++ es) (fold (reckoned n) (booting n t r (memory w n)) es) v (after_planned (boot_writes (memory w n).content) (memory w n))
            (Some (starts w n)) now
            (boot_run n t r (memory w n) runs.0 many (node_at w n) (starts w n) stands
            (subst (λ (m : Memory). Rattle.node_laws.specs.kept.Worlds.RunsSo n runs.0 m.content (t ++ es) (starts w n)) now.memory runs.1)));
        there = now.there;
      })) where
        here : begun_by n (Boots n) r ≡ booting n t r (memory w n)
        here = ap (λ b. cond b (booting n t r (memory w n)) r) (eq-eqb n n refl)

        planned_is : (es : List Entry) (b : Bool) → fails w n ≡ b → IsBootedBy b n r es → IsCutAsPlanned n r (Boots n) es
        planned_is es b e x =
            let same : fails_within (length (boot_writes r.memory.content)) r.memory.plan ≡ b =
            ap (λ (m : Memory). fails_within (length (boot_writes m.content)) m.plan) stands.memory_is ∙ e in
            rw (eq-eqb n n refl) (rw same x)

        first : IsNowAt n (written w n) (after_planned (boot_writes (memory w n).content) (memory w n)) (node_at w n)
        first = now_memory n w (after_planned (boot_writes (memory w n).content) (memory w n)) there

  boots_exact : (t : List Entry) (r : Reckoning) (w : NodeWorld) (k : ℕ) → length (commands_in t n) ≤ 2 ^ 32 - 1
      → AllKeep hosts (t ++ (boots w k).1) (boots w k).0 → IsThere w n → StandsAt n t r w → GoesExactly n t r (Boots k) (boots w k)
  boots_exact t r w k few keep there stands = by_test (eqb k n)
      (λ is. let same : k ≡ n = eqb-true k n is in
      subst (λ j. GoesExactly n t r (Boots j) (boots w j)) (sym same)
      (boots_own t r w few (subst (λ j. AllKeep hosts (t ++ (boots w j).1) (boots w j).0) same keep) there stands))
      (λ other. usual n t r (Boots k) (boots w k)
      (ap (λ b. cond b (record r { memory = after_planned (boot_writes r.memory.content) r.memory }) r) other) (λ z. rw other z.0)
      (boots_other t r w k (eqb-false k n other) there stands))

  -- ### Whatever happens

  node_there : (w : NodeWorld) (h : ℕ) (x : Site) (q : Running) → IsHost h → site_at w.sites h ≡ Some x → x.node ≡ Some q → node_at w h ≡ Some q
  node_there w h x q host here running = grind arith

  pub event_exact : (t : List Entry) (r : Reckoning) (w : NodeWorld) (c : Happening) → AllKeep hosts t w → MayHappen w c → length (commands_in t n) ≤ 2 ^ 32 - 1
      → AllKeep hosts (t ++ (world_step w c).1) (world_step w c).0 → IsThere w n → StandsAt n t r w → GoesExactly n t r c (world_step w c)
  event_exact t r w (Boots k) all may few keep there stands = boots_exact t r w k few keep there stands
  event_exact t r w (IsCut k) all may few keep there stands = cut_exact t r w k may.0 may.1 there stands
  event_exact t r w (Gives e m) all may few keep there stands =
      usual n t r (Gives e m) (world_step w (Gives e m)) refl (λ z. z) (gives_exact t r w e.link m all
      (λ x q here running is.
      let k = site_found (SiteKeeps t) IsHost w.sites e.link x all.sites (subst (AllByRecursion IsHost) (sym all.hosts_are) are.all) here in
      ap is_some (may q (node_there w e.link x q (subst IsHost k.2 k.1) here running) is)) there stands)
  event_exact t r w (Inits e identity pipes) all may few keep there stands =
      usual n t r (Inits e identity pipes) (world_step w (Inits e identity pipes)) refl (λ z. z) (inits_exact t r w e.link identity pipes all there stands)
  event_exact t r w (Takes e) all may few keep there stands =
      usual n t r (Takes e) (world_step w (Takes e)) refl (λ z. z) (comes_exact t r w e NextFrame all there stands)
  event_exact t r w (Loses e why) all may few keep there stands =
      usual n t r (Loses e why) (world_step w (Loses e why)) refl (λ z. z) (lost_exact t r w e why there stands)
  event_exact t r w Ticks all may few keep there stands =
      usual n t r Ticks (world_step w Ticks) refl (λ z. z) (ticks_exact hosts are n t r w all there stands)
  event_exact t r w (Resets e window) all may few keep there stands =
      usual n t r (Resets e window) (world_step w (Resets e window)) refl (λ z. z) (comes_exact t r w e (AsksReset window) all there stands)
  event_exact t r w (Activates h sync power) all may few keep there stands =
      usual n t r (Activates h sync power) (world_step w (Activates h sync power)) refl (λ z. z) (activates_exact t r w h sync power all there stands)
  event_exact t r w (Arms k plan) all may few keep there stands = arms_exact t r w k plan there stands
