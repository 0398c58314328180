-- New ends of a node stand for new ports.
use Rattle.std.proofs.Common.{append_assoc}
use Rattle.node_ends.proofs.Words.{AddsNew, AllByRecursion, AreEnds, Desk, HaveOwnHosts, HaveOwnersFrom, HoldsEnd, IsNewSeat, IsReached, IsSoundDesk, List}
use Rattle.node_ends.proofs.Words.{OnOk, Option, PoolState, Result, Seat, SeatStandsFor, SeatsStandFor, Some, Waiting, [], ap, arith, desk_shown, length}
use Rattle.node_ends.proofs.Words.{length-append, map, new_link_end, refl, slice_get, subst, suc, sym, take, used_of, zero, ℕ, ◌*◌, ◌++◌, ◌+◌, ◌<◌, ◌∙◌, ◌∷◌}
use Rattle.node_ends.proofs.Words.{◌≡◌, ◌≢◌, ◌≤◌}
use Rattle.swp_base.specs.declared.outside.NoMemory.{NoMemory}
use Rattle.swp_base.specs.declared.link_terms.Role.{Role as Named}
use Rattle.block_pool.specs.Pool.{IsNew}
use Rattle.link_end.specs.Roles.{new_role}
use Rattle.link_end.specs.Ends.{IsFree}
use Rattle.link_end.proofs.AccountLemmas.{new_free, new_unused}
use Rattle.node_ends.specs.Making.{AreAllDifferent, AreNewFrom, new_port}

-- ## Quotas

-- the quotas of seven ends
abbrev pub all_quotas : List ℕ
all_quotas = 128 ∷ 512 ∷ 128 ∷ 512 ∷ 128 ∷ 512 ∷ 128 ∷ 512 ∷ 128 ∷ 512 ∷ 128 ∷ 512 ∷ 128 ∷ 512 ∷ []

taken_get : (m j : ℕ) (xs : List ℕ) → j < m → slice_get (take m xs) j ≡ slice_get xs j
taken_get zero j xs low = absurd (omega (arith, low))
taken_get (suc m) j [] low = refl
taken_get (suc m) zero (x ∷ xs) low = refl
taken_get (suc m) (suc j) (x ∷ xs) low = taken_get m j xs (omega (arith, low))

quota_at : (k : ℕ) → k < 7 → (slice_get all_quotas (2 * k) ≡ Some 128) × (slice_get all_quotas (2 * k + 1) ≡ Some 512)
quota_at k low = grind arith

pub is_free : (pool : PoolState) (n k : ℕ) → IsNew pool (take (2 * n) all_quotas) → k < n → n ≤ 7 → IsFree pool (2 * k) (2 * k + 1)
is_free pool n k new low few =
    let q = quota_at k (omega (arith, low, few)) in
    new_free pool (take (2 * n) all_quotas) (2 * k) (2 * k + 1) new (taken_get (2 * n) (2 * k) all_quotas (omega (arith, low)) ∙ q.0)
    (taken_get (2 * n) (2 * k + 1) all_quotas (omega (arith, low)) ∙ q.1)

-- ## Ends

reached_new : (role : Named) → IsReached (new_link_end (new_role role))
reached_new role = record { role = new_role role; inputs = []; sendable = tt; is = refl }

none_came : (role : Named) → (new_link_end (new_role role)).got ≡ []
none_came role = refl

new_stands : (pool : PoolState) (role : Named) (k h : ℕ) (s : Seat) → IsNewSeat role k h s → IsFree pool (2 * k) (2 * k + 1)
    → used_of pool (2 * k + 1) ≡ 0 → SeatStandsFor pool s (new_port role h)
new_stands pool role k h s n free unused =
    let W : Option Waiting → Type 0 = λ w. HoldsEnd pool s.side w (new_link_end (new_role role)) in
    record {
      holds = subst W (sym n.waiting) (record { stands = n.stands pool free; accounts = n.accounts pool unused; waits = refl; short = tt });
      desk = ap desk_shown n.desk;
      late = n.late;
      ended = n.ended;
      reached = reached_new role;
      acked = n.acked;
      aside = n.aside;
      sound = subst IsSoundDesk (sym n.desk) tt;
    }

each_stands : (pool : PoolState) (role : Named) (k : ℕ) (hosts : List ℕ) (seats : List Seat) → AreNewFrom role k hosts seats
    → ((j : ℕ) → k ≤ j → j < k + length hosts → IsFree pool (2 * j) (2 * j + 1) × (used_of pool (2 * j + 1) ≡ 0))
    → SeatsStandFor pool seats (map (new_port role) hosts)
each_stands pool role k [] [] n free = tt
each_stands pool role k [] (s ∷ seats) n free = absurd n
each_stands pool role k (h ∷ hosts) [] n free = absurd n
each_stands pool role k (h ∷ hosts) (s ∷ seats) n free =
    let f = free k (omega arith) (omega arith) in (
      new_stands pool role k h s n.0 f.0 f.1,
      each_stands pool role (k + 1) hosts seats n.1 (λ j low high. free j (omega (arith, low)) (omega (arith, high))),
    )

own_owners : (role : Named) (k : ℕ) (hosts : List ℕ) (seats : List Seat) → AreNewFrom role k hosts seats → HaveOwnersFrom k seats
own_owners role k [] [] n = tt
own_owners role k [] (s ∷ seats) n = absurd n
own_owners role k (h ∷ hosts) [] n = absurd n
own_owners role k (h ∷ hosts) (s ∷ seats) n = (n.0.sender, n.0.receiver, own_owners role (k + 1) hosts seats n.1)

others : (role : Named) (k h : ℕ) (hosts : List ℕ) (seats : List Seat) → AreNewFrom role k hosts seats → AllByRecursion (λ (g : ℕ). g ≢ h) hosts
    → AllByRecursion (λ (t : Seat). t.desk.host ≢ h) seats
others role k h [] [] n d = tt
others role k h [] (s ∷ seats) n d = absurd n
others role k h (g ∷ hosts) [] n d = absurd n
others role k h (g ∷ hosts) (s ∷ seats) n d = (λ e. d.0 (ap (λ (x : Desk). x.host) (sym n.0.desk) ∙ e), others role (k + 1) h hosts seats n.1 d.1)

own_hosts : (role : Named) (k : ℕ) (hosts : List ℕ) (seats : List Seat) → AreNewFrom role k hosts seats → AreAllDifferent hosts → HaveOwnHosts seats
own_hosts role k [] [] n d = tt
own_hosts role k [] (s ∷ seats) n d = absurd n
own_hosts role k (h ∷ hosts) [] n d = absurd n
own_hosts role k (h ∷ hosts) (s ∷ seats) n d =
    let is : h ≡ s.desk.host = sym (ap (λ (x : Desk). x.host) n.0.desk) in
    (others role (k + 1) s.desk.host hosts seats n.1 (subst (λ x. AllByRecursion (λ (g : ℕ). g ≢ x) hosts) is d.0), own_hosts role (k + 1) hosts seats n.1 d.1)

same_count : (role : Named) (k : ℕ) (hosts : List ℕ) (seats : List Seat) → AreNewFrom role k hosts seats → length seats ≡ length hosts
same_count role k [] [] n = refl
same_count role k [] (s ∷ seats) n = absurd n
same_count role k (h ∷ hosts) [] n = absurd n
same_count role k (h ∷ hosts) (s ∷ seats) n = ap suc (same_count role (k + 1) hosts seats n.1)

pub new_ends : (pool : PoolState) (role : Named) (hosts : List ℕ) (seats : List Seat) → IsNew pool (take (2 * length hosts) all_quotas)
    → length hosts ≤ 7 → AreAllDifferent hosts → AddsNew role hosts [] seats → AreEnds pool seats (map (new_port role) hosts)
new_ends pool role hosts seats new few different adds =
    let made = adds.0 in
    let n : AreNewFrom role 0 hosts made = adds.2 in
    subst (λ l. AreEnds pool l (map (new_port role) hosts)) (sym adds.1) (record {
      each = each_stands pool role 0 hosts made n
          (λ j low high. (is_free pool (length hosts) j new (omega (arith, high)) few, new_unused pool (take (2 * length hosts) all_quotas) (2 * j + 1) new));
      owners = own_owners role 0 hosts made n;
      hosts = own_hosts role 0 hosts made n different;
      few = (let l = same_count role 0 hosts made n in omega (arith, l, few));
    })

-- ## One more

pub none_more : (role : Named) (hosts : List ℕ) (before : List Seat) → hosts ≡ [] → before ≡ before ++ [] → AddsNew role hosts before before
none_more role hosts before none same = grind arith

pub one_more : (role : Named) (h : ℕ) (hosts : List ℕ) (before now : List Seat) (s : Seat) → IsNewSeat role (length before) h s
    → AddsNew role hosts (before ++ s ∷ []) now → AddsNew role (h ∷ hosts) before now
one_more role h hosts before now s n adds =
    let P : ℕ → Type 0 = λ k. AreNewFrom role k hosts adds.0 in
    (s ∷ adds.0, adds.1 ∙ append_assoc before (s ∷ []) adds.0, (n, subst P (length-append before (s ∷ [])) adds.2))

-- what follows of a call that went well
pub on_ok : {P Q : Type 0} (r : Result (Unit {0}) NoMemory) → (P → Q) → OnOk r P → OnOk r Q
on_ok r f h = grind arith
