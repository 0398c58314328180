-- How many frames wait at an end, and that none waits behind so many fetches.
use Rattle.std.proofs.Common.{Bool, append-nil, append_assoc, eq-eqb, false, length, map, true, zero, ◌≢◌, ◌≤◌}
use Rattle.std.specs.Prelude.{IsTrue, Option, Some, not, option_map, ◌==◌}
use Rattle.std.specs.List.{AllByRecursion}
use Rattle.std.specs.Option.{option_map_or}
use Rattle.std.proofs.lemmas.List.{length-map, map-append}
use Rattle.std.proofs.lemmas.Bool.{eqb-true, eqb-false}
use Rattle.worked_nodes.proofs.Words.{AreHandedOn, BeginsStep, Brings, Clf, Core, Entry, HasStepped, List, Node, None, Port, RunsAs, Stored, Uicc, Work, [], ap}
use Rattle.worked_nodes.proofs.Words.{arith, due_as_far_as, frame_at, has_sent, port_at, refl, subst, suc, sym, with_port, ℕ, ◌++◌, ◌+◌, ◌∙◌, ◌∷◌, ◌≡◌}
use Rattle.swp_base.specs.declared.control_frames.Control.{Control}
use Rattle.shdlc_core.specs.declared.answers.Due.{Due}
use Rattle.shdlc_core.specs.Machine.{EndState, Fragment, all_frames, fetched, fragment_due, frame_due}
use Rattle.shdlc_core.proofs.Histories.{fragment_due-within}
use Rattle.link_laws.proofs.places.Joined.{fetched_idle, left}
use Rattle.link_laws.specs.machine.Machine.{LinkEnd as Machine, ActDue, among, next_frame, frame_fetched, nearer, frames_out, sent_all}
use Rattle.link_laws.specs.machine.Laws.{fetches, after_fetches, most_fetches}
use Rattle.node_ends.specs.declared.seat.Seat.{Seat}
use Rattle.block_pool.specs.Pool.{PoolState}
use Rattle.swp_lpdu.specs.Controls.{lpdu_of}
use Rattle.node_ends.specs.Ends.{AreOfHosts, HaveOwnHosts, SeatStandsFor, SeatsStandFor}
use Rattle.node_core.specs.Bringing.{WereMade}
use Rattle.swp_base.specs.declared.link_terms.Role.{Role as Named}
use Rattle.swp_base.specs.declared.link_terms.Role.TheVariants.{Bare}
use Rattle.node_ends.specs.Making.{new_port}
use Rattle.node_core.specs.Running.{IsAllSent, MayStep, SendsOneByOne, between, ran_so}
use Rattle.node_core.specs.declared.running.Ran.TheVariants.{Done}
use Rattle.node_core.specs.Giving.{IsAsked}
use Rattle.node_core.proofs.Between.{few_wait, all_one_by_one}
use Rattle.worked_nodes.specs.FramesOut.{HasHandedOn, HasSentTo, HasSentToAll, due_to, has_sent_all, out_behind}

-- ## One end

-- so many frames wait at most
abbrev pub to_fetch : Machine → ℕ
to_fetch e = length e.acts + left e.shdlc

shdlc_fewer : (s : EndState) (c : Control) → frame_due s ≡ Some c → left (fetched s) + 1 ≤ left s
shdlc_fewer s c is = go s.due refl (fragment_due s.session) refl
  where
    go : (due : List Due) → s.due ≡ due → (o : Option Fragment) → fragment_due s.session ≡ o → left (fetched s) + 1 ≤ left s
    go [] p None q = absurd (let z = rw (p, q) at is in cc)
    go [] p (Some info) q = rw (p, q) (let tells = fragment_due-within s.session info q in omega (arith, tells.0))
    go (d ∷ ds) p o q = rw p (let l = ap (λ (xs : List Due). length xs) p in omega (arith, l))

-- a frame that is fetched leaves one fewer
pub fewer : (e : Machine) (c : Control) → next_frame e ≡ Some c → to_fetch (frame_fetched e) + 1 ≤ to_fetch e
fewer e c is = go e.acts refl
  where
    go : (acts : List ActDue) → e.acts ≡ acts → to_fetch (frame_fetched e) + 1 ≤ to_fetch e
    go [] p = rw p (let due : frame_due e.shdlc ≡ Some c = rw p at is in let less = shdlc_fewer e.shdlc c due in omega (arith, less))
    go (a ∷ acts) p = by (a.behind == 0) refl
      where
        by : (b : Bool) → (a.behind == 0) ≡ b → to_fetch (frame_fetched e) + 1 ≤ to_fetch e
        by true z = rw (p, z) (omega arith)
        by false z =
            let due : frame_due e.shdlc ≡ Some c = rw (p, z) at is in
            let less = shdlc_fewer e.shdlc c due in
            let same = length-map (a ∷ acts) nearer in
            rw (p, z) (omega (arith, less, same))

-- where none is left none goes out
pub none_left : (e : Machine) → to_fetch e ≡ 0 → next_frame e ≡ None
none_left e zero_is = go (next_frame e) refl
  where
    go : (o : Option Control) → next_frame e ≡ o → next_frame e ≡ None
    go None is = is
    go (Some c) is = absurd (let less = fewer e c is in omega (arith, less, zero_is))

no_fetches : (n : ℕ) (e : Machine) → next_frame e ≡ None → fetches n e ≡ []
no_fetches zero e none = refl
no_fetches (suc n) e none = rw none refl

not_empty : (xs : List Control) (y : Control) (ys : List Control) → xs ++ y ∷ ys ≡ [] → ⊥
not_empty [] y ys is = cc
not_empty (x ∷ xs) y ys is = cc

-- where none goes out a fetch changes nothing
pub stays : (e : Machine) → SendsOneByOne e → next_frame e ≡ None → frame_fetched e ≡ e
stays e one none = go e.acts refl
  where
    out : among 0 e.acts (all_frames e.shdlc) ≡ []
    out = sym one.frames ∙ no_fetches (most_fetches e) e none

    go : (acts : List ActDue) → e.acts ≡ acts → frame_fetched e ≡ e
    go [] p =
        let due : frame_due e.shdlc ≡ None = rw p at none in
        rw p (ap (λ (s : EndState). record e { shdlc = s; acts = [] }) (fetched_idle e.shdlc due))
    go (a ∷ acts) p = absurd (let z = rw p at out in not_empty _ _ _ z)

-- An end p, of which these frames were fetched one after another: it is q now, and so many fetches bring the others.
pub record HasFetched (p q : Machine) (frames : List Control) (left : ℕ) : Type 0 where
  pub whole : frames ++ fetches left q ≡ frames_out p
  pub rest : after_fetches left q ≡ sent_all p

fetching_goes_on : {p q : Machine} {frames : List Control} {left : ℕ} {c : Control} → HasFetched p q frames (suc left) → next_frame q ≡ Some c
    → HasFetched p (frame_fetched q) (frames ++ c ∷ []) left
fetching_goes_on {q = q} {frames = frames} {left = left} {c = c} h is =
    let first : fetches (suc left) q ≡ c ∷ fetches left (frame_fetched q) = rw is refl in
    record {
      whole = append_assoc frames (c ∷ []) (fetches left (frame_fetched q)) ∙ (ap (λ cs. frames ++ cs) (sym first) ∙ h.whole);
      rest = h.rest;
    }

stays_after : (n : ℕ) (e : Machine) → SendsOneByOne e → next_frame e ≡ None → after_fetches n e ≡ e
stays_after zero e one none = refl
stays_after (suc n) e one none = ap (after_fetches n) (stays e one none) ∙ stays_after n e one none

fetching_ends : {p q : Machine} {frames : List Control} {left : ℕ} → HasFetched p q frames left → SendsOneByOne q → next_frame q ≡ None
    → (frames ≡ frames_out p) × (q ≡ sent_all p)
fetching_ends {q = q} {frames = frames} {left = left} h one none = (
  sym (append-nil frames) ∙ (ap (λ cs. frames ++ cs) (sym (no_fetches left q none)) ∙ h.whole),
  sym (stays_after left q one none) ∙ h.rest,
)

-- ## Ends of a node

-- what is so of all ends is so of this one
pub so_at : (F : Port → Type 0) (h : ℕ) (ports : List Port) → AllByRecursion F ports → (p : Port) → port_at ports h ≡ Some p → F p
so_at F h [] all p is = cc
so_at F h (q ∷ ports) all p is = by (q.desk.host == h) refl (so_at F h ports all.1 p)
  where
    by : (b : Bool) → (q.desk.host == h) ≡ b → (port_at ports h ≡ Some p → F p) → F p
    by true z behind = let same : q ≡ p = (let there : Some q ≡ Some p = rw z at is in cc) in subst F same all.0
    by false z behind = behind (rw z at is)

-- an end that is changed, and the others
pub changed_at : (h : ℕ) (ports : List Port) (p : Port) → port_at ports h ≡ Some p → port_at (with_port h has_sent ports) h ≡ Some (has_sent p)
changed_at h [] p is = cc
changed_at h (q ∷ ports) p is = by (q.desk.host == h) refl (changed_at h ports p)
  where
    by : (b : Bool) → (q.desk.host == h) ≡ b → (port_at ports h ≡ Some p → port_at (with_port h has_sent ports) h ≡ Some (has_sent p))
        → port_at (with_port h has_sent (q ∷ ports)) h ≡ Some (has_sent p)
    by true z behind = let same : q ≡ p = (let there : Some q ≡ Some p = rw z at is in cc) in rw (z, z) (ap (λ x. Some (has_sent x)) same)
    by false z behind = rw (z, z) (behind (rw z at is))

pub none_there : (h : ℕ) (ports : List Port) → port_at ports h ≡ None → port_at (with_port h has_sent ports) h ≡ None
none_there h [] is = refl
none_there h (q ∷ ports) is = by (q.desk.host == h) refl (none_there h ports)
  where
    by : (b : Bool) → (q.desk.host == h) ≡ b → (port_at ports h ≡ None → port_at (with_port h has_sent ports) h ≡ None)
        → port_at (with_port h has_sent (q ∷ ports)) h ≡ None
    by true z behind = absurd (let there : Some q ≡ None = rw z at is in cc)
    by false z behind = rw (z, z) (behind (rw z at is))

pub beside : (h k : ℕ) → k ≢ h → (ports : List Port) → port_at (with_port h has_sent ports) k ≡ port_at ports k
beside h k differ [] = refl
beside h k differ (q ∷ ports) = by (q.desk.host == h) (q.desk.host == k) refl refl (beside h k differ ports)
  where
    by : (a b : Bool) → (q.desk.host == h) ≡ a → (q.desk.host == k) ≡ b → port_at (with_port h has_sent ports) k ≡ port_at ports k
        → port_at (with_port h has_sent (q ∷ ports)) k ≡ port_at (q ∷ ports) k
    by true true y z behind = absurd (differ (sym (eqb-true q.desk.host k z) ∙ eqb-true q.desk.host h y))
    by true false y z behind = rw (y, z) behind
    by false true y z behind = rw (y, z) refl
    by false false y z behind = rw (y, z) behind

same_host : (pool : PoolState) (s : Seat) (p : Port) → SeatStandsFor pool s (between p) → s.desk.host ≡ p.desk.host
same_host pool s p k = ap (λ d. d.host) k.desk

none_of : (pool : PoolState) (h : ℕ) (seats : List Seat) (ports : List Port) → SeatsStandFor pool seats (map between ports)
    → AllByRecursion (λ (t : Seat). t.desk.host ≢ h) seats → port_at ports h ≡ None
none_of pool h seats [] g differ = refl
none_of pool h [] (p ∷ ports) g differ = absurd g
none_of pool h (s ∷ seats) (p ∷ ports) g differ = by (p.desk.host == h) refl (none_of pool h seats ports g.1 differ.1)
  where
    by : (b : Bool) → (p.desk.host == h) ≡ b → port_at ports h ≡ None → port_at (p ∷ ports) h ≡ None
    by true z behind = absurd (differ.0 (same_host pool s p g.0 ∙ eqb-true p.desk.host h z))
    by false z behind = rw z behind

no_frame_at : (p : Port) → frame_at (Some p) ≡ None → next_frame p.side ≡ None
no_frame_at p is = go (next_frame p.side) refl
  where
    go : (o : Option Control) → next_frame p.side ≡ o → next_frame p.side ≡ None
    go None q = q
    go (Some c) q = absurd (let there : Some (lpdu_of c) ≡ None = rw q at is in cc)

-- where no frame waits for any host, none waits at any end
all_sent : (pool : PoolState) (seats : List Seat) (ports : List Port) → SeatsStandFor pool seats (map between ports) → HaveOwnHosts seats
    → AreOfHosts ports → ((k : ℕ) → 1 ≤ k → k ≤ 7 → frame_at (port_at ports k) ≡ None) → IsAllSent ports
all_sent pool seats [] g own hosts none = tt
all_sent pool [] (p ∷ ports) g own hosts none = absurd g
all_sent pool (s ∷ seats) (p ∷ ports) g own hosts none = (here, all_sent pool seats ports g.1 own.1 hosts.1 later)
  where
    here : next_frame p.side ≡ None
    here = no_frame_at p (rw (eq-eqb p.desk.host p.desk.host refl) at (none p.desk.host hosts.0.0 hosts.0.1))

    later : (k : ℕ) → 1 ≤ k → k ≤ 7 → frame_at (port_at ports k) ≡ None
    later k low high = by (p.desk.host == k) refl
      where
        by : (b : Bool) → (p.desk.host == k) ≡ b → frame_at (port_at ports k) ≡ None
        by true z =
            let P : ℕ → Type 0 = λ h. port_at ports h ≡ None in
            let there : port_at ports k ≡ None = subst P (same_host pool s p g.0 ∙ eqb-true p.desk.host k z) (none_of pool s.desk.host seats ports g.1 own.0) in
            rw there refl
        by false z = rw z at (none k low high)

none_waits : {N : Type 0} {n : Node N} {core : Core} {ports : List Port} → RunsAs n core ports
    → ((k : ℕ) → 1 ≤ k → k ≤ 7 → frame_at (port_at ports k) ≡ None) → IsAllSent ports
none_waits {n = n} {ports = ports} r none = all_sent n.ends.pool n.ends.seats ports r.ends.each r.ends.hosts r.order.hosts none

may_step : {N : Type 0} {n : Node N} {core : Core} {ports : List Port} → RunsAs n core ports
    → ((k : ℕ) → 1 ≤ k → k ≤ 7 → frame_at (port_at ports k) ≡ None) → MayStep n
may_step {core = core} {ports = ports} r none = record { core = core; ports = ports; runs = r; sent = none_waits r none }

-- ## One host after another

-- An end p of a node, of which so many frames were fetched: these, each with its host. It is q now.
pub record HasGoneOut (host : ℕ) (out : List (ℕ × List ℕ)) (count : ℕ) (p q : Port) : Type 0 where
  pub frames : List Control
  pub left : ℕ
  pub fetched : HasFetched p.side q.side frames left
  pub enough : 12 ≤ left + count
  pub rest : q ≡ record p { side = q.side }
  pub out_are : out ≡ map (λ c. (host, lpdu_of c)) frames

-- so where there is one
abbrev pub HasGoneFrom : ℕ → List (ℕ × List ℕ) → ℕ → Option Port → Option Port → Type 0
HasGoneFrom host out count None None = out ≡ []
HasGoneFrom host out count (Some p) (Some q) = HasGoneOut host out count p q
HasGoneFrom host out count _ _ = ⊥

gone_begins : (host : ℕ) (o : Option Port) → ((p : Port) → o ≡ Some p → SendsOneByOne p.side) → HasGoneFrom host [] 0 o o
gone_begins host None one = refl
gone_begins host (Some p) one =
    let s = one p refl in
    record {
      frames = [];
      left = most_fetches p.side;
      fetched = record { whole = s.frames; rest = s.rest };
      enough = omega arith;
      rest = refl;
      out_are = refl;
    }

gone_on : (host : ℕ) (out : List (ℕ × List ℕ)) (count : ℕ) (lpdu : List ℕ) (o q : Option Port) → HasGoneFrom host out count o q
    → Some lpdu ≡ frame_at q → count + 1 ≤ 9 → HasGoneFrom host (out ++ (host, lpdu) ∷ []) (count + 1) o (option_map has_sent q)
gone_on host out count lpdu None None g is less = absurd (let none : Some lpdu ≡ None = is in cc)
gone_on host out count lpdu None (Some q) g is less = absurd g
gone_on host out count lpdu (Some p) None g is less = absurd g
gone_on host out count lpdu (Some p) (Some q) g is less = by (next_frame q.side) refl g.left refl
  where
    by : (n : Option Control) → next_frame q.side ≡ n → (left : ℕ) → g.left ≡ left
        → HasGoneOut host (out ++ (host, lpdu) ∷ []) (count + 1) p (has_sent q)
    by None z left w = absurd (let none : Some lpdu ≡ None = is ∙ ap (option_map lpdu_of) z in cc)
    by (Some c) z zero w = let enough = g.enough in absurd (omega (arith, enough, w, less))
    by (Some c) z (suc left) w =
        let same : Some lpdu ≡ Some (lpdu_of c) = is ∙ ap (option_map lpdu_of) z in
        let bytes : lpdu ≡ lpdu_of c = cc in
        let F : ℕ → Type 0 = λ n. HasFetched p.side q.side g.frames n in
        let enough = g.enough in
        record {
          frames = g.frames ++ c ∷ [];
          left = left;
          fetched = fetching_goes_on (subst F w g.fetched) z;
          enough = omega (arith, enough, w);
          rest = ap (λ (y : Port). record y { side = frame_fetched q.side }) g.rest;
          out_are = ap (λ xs. xs ++ (host, lpdu) ∷ []) g.out_are
              ∙ (ap (λ b. map (λ (d : Control). (host, lpdu_of d)) g.frames ++ (host, b) ∷ []) bytes
              ∙ sym (map-append (λ (d : Control). (host, lpdu_of d)) g.frames (c ∷ [])));
        }

gone_ends : (host : ℕ) (out : List (ℕ × List ℕ)) (count : ℕ) (o q : Option Port) → HasGoneFrom host out count o q
    → ((p : Port) → q ≡ Some p → SendsOneByOne p.side) → frame_at q ≡ None
    → (q ≡ option_map has_sent_all o)
    × (out ≡ option_map_or (λ (p : Port). map (λ c. (host, lpdu_of c)) (frames_out p.side)) o [])
gone_ends host out count None None g one none = (refl, g)
gone_ends host out count None (Some q) g one none = absurd g
gone_ends host out count (Some p) None g one none = absurd g
gone_ends host out count (Some p) (Some q) g one none =
    let e = fetching_ends g.fetched (one q refl) (no_frame_at q none) in (
      ap Some (g.rest ∙ ap (λ m. record p { side = m }) e.1),
      g.out_are ∙ ap (map (λ c. (host, lpdu_of c))) e.0,
    )

-- A node from which these frames to a host went out, so many, at most nine of which waited.
pub record IsSendingTo {N : Type 0} (n : Node N) (core : Core) (host : ℕ) (ports : List Port) (count : ℕ) (out : List (ℕ × List ℕ)) : Type 0 where
  pub there : List Port
  pub runs : RunsAs n core there
  pub few : (p : Port) → port_at there host ≡ Some p → to_fetch p.side + count ≤ 9
  pub gone : HasGoneFrom host out count (port_at ports host) (port_at there host)
  pub others : (k : ℕ) → k ≢ host → port_at there k ≡ port_at ports k

one_at : {N : Type 0} {n : Node N} {core : Core} {ports : List Port} (host : ℕ) → RunsAs n core ports
    → (p : Port) → port_at ports host ≡ Some p → SendsOneByOne p.side
one_at {ports = ports} host r p is = so_at (λ (x : Port). SendsOneByOne x.side) host ports (all_one_by_one r) p is

pub sending_begins : {N : Type 0} {n : Node N} {core : Core} (host : ℕ) {ports : List Port} → RunsAs n core ports
    → IsSendingTo n core host ports 0 []
sending_begins host {ports} r = record {
  there = ports;
  runs = r;
  few = λ p is. let i = so_at (λ (q : Port). to_fetch q.side ≤ 9) host ports (few_wait r) p is in omega (arith, i);
  gone = gone_begins host (port_at ports host) (one_at host r);
  others = λ k differ. refl;
}

sent_at : (h : ℕ) (ports : List Port) → port_at (with_port h has_sent ports) h ≡ option_map has_sent (port_at ports h)
sent_at h ports = by (port_at ports h) refl
  where
    by : (o : Option Port) → port_at ports h ≡ o → port_at (with_port h has_sent ports) h ≡ option_map has_sent (port_at ports h)
    by None z = none_there h ports z ∙ sym (ap (option_map has_sent) z)
    by (Some p) z = changed_at h ports p z ∙ sym (ap (option_map has_sent) z)

-- one more frame went out
pub sending_goes_on : {N : Type 0} {n n2 : Node N} {core : Core} {host : ℕ} {ports : List Port} {count : ℕ} {out : List (ℕ × List ℕ)} {lpdu : List ℕ}
    (s : IsSendingTo n core host ports count out) → Some lpdu ≡ frame_at (port_at s.there host) → RunsAs n2 core (with_port host has_sent s.there)
    → count + 1 ≤ 9 → IsSendingTo n2 core host ports (count + 1) (out ++ (host, lpdu) ∷ [])
sending_goes_on {host = host} {ports = ports} {count = count} {out = out} {lpdu = lpdu} s is r less = record {
  there = with_port host has_sent s.there;
  runs = r;
  few = few (port_at s.there host) refl;
  gone = let G : Option Port → Type 0 = λ q. HasGoneFrom host (out ++ (host, lpdu) ∷ []) (count + 1) (port_at ports host) q in
      subst G (sym (sent_at host s.there)) (gone_on host out count lpdu (port_at ports host) (port_at s.there host) s.gone is less);
  others = λ k differ. beside host k differ s.there ∙ s.others k differ;
}
  where
    few : (o : Option Port) → port_at s.there host ≡ o → (p : Port) → port_at (with_port host has_sent s.there) host ≡ Some p
        → to_fetch p.side + (count + 1) ≤ 9
    few None q p there = absurd (let none : Some lpdu ≡ None = is ∙ ap frame_at q in cc)
    few (Some old) q p there = next (next_frame old.side) refl
      where
        next : (o : Option Control) → next_frame old.side ≡ o → to_fetch p.side + (count + 1) ≤ 9
        next None z = absurd (let none : Some lpdu ≡ None = is ∙ (ap frame_at q ∙ ap (option_map lpdu_of) z) in cc)
        next (Some c) z =
            let same : has_sent old ≡ p = (let both : Some (has_sent old) ≡ Some p = sym (changed_at host s.there old q) ∙ there in cc) in
            let F : Port → Type 0 = λ x. to_fetch x.side + (count + 1) ≤ 9 in
            let less = fewer old.side c z in
            let before = s.few old q in
            let after : to_fetch (frame_fetched old.side) + (count + 1) ≤ 9 = omega (arith, less, before) in
            subst F same after

-- no frame waits for this host any more: all went out
all_gone : {N : Type 0} {n : Node N} {core : Core} {host : ℕ} {ports : List Port} {count : ℕ} {out : List (ℕ × List ℕ)}
    (s : IsSendingTo n core host ports count out) → frame_at (port_at s.there host) ≡ None
    → (port_at s.there host ≡ option_map has_sent_all (port_at ports host)) × (out ≡ due_to host ports)
all_gone {host = host} {ports = ports} {count = count} {out = out} s none =
    gone_ends host out count (port_at ports host) (port_at s.there host) s.gone (one_at host s.runs) none

-- where no frame waits a fetch changes nothing
none_fetched : (h : ℕ) (ports : List Port) → ((p : Port) → port_at ports h ≡ Some p → SendsOneByOne p.side) → frame_at (port_at ports h) ≡ None
    → port_at (with_port h has_sent ports) h ≡ port_at ports h
none_fetched h ports one none = sent_at h ports ∙ by (port_at ports h) refl
  where
    by : (o : Option Port) → port_at ports h ≡ o → option_map has_sent (port_at ports h) ≡ port_at ports h
    by None z = ap (option_map has_sent) z ∙ sym z
    by (Some p) z =
        let idle = stays p.side (one p z) (no_frame_at p (ap frame_at (sym z) ∙ none)) in
        ap (option_map has_sent) z ∙ (ap (λ e. Some (record p { side = e })) idle ∙ sym z)

-- none goes out any more
pub sending_ends : {N : Type 0} {n n2 : Node N} {core : Core} {host : ℕ} {ports : List Port} {count : ℕ} {out : List (ℕ × List ℕ)}
    (s : IsSendingTo n core host ports count out) → None ≡ frame_at (port_at s.there host) → RunsAs n2 core (with_port host has_sent s.there)
    → HasSentTo n2 core host ports
sending_ends {host = host} s is r =
    let same = none_fetched host s.there (one_at host s.runs) (sym is) in
    record {
      there = with_port host has_sent s.there;
      runs = r;
      sent = ap frame_at same ∙ sym is;
      whole = same ∙ (all_gone s (sym is)).0;
      others = λ k differ. beside host k differ s.there ∙ s.others k differ;
    }

pub none_is_left : {N : Type 0} {n : Node N} {core : Core} {host : ℕ} {ports : List Port} {out : List (ℕ × List ℕ)}
    (s : IsSendingTo n core host ports 9 out) → frame_at (port_at s.there host) ≡ None
none_is_left {host = host} s = go (port_at s.there host) refl
  where
    go : (o : Option Port) → port_at s.there host ≡ o → frame_at (port_at s.there host) ≡ None
    go None q = ap frame_at q
    go (Some p) q =
        let few = s.few p q in ap frame_at q ∙ ap (option_map lpdu_of) (none_left p.side (omega (arith, few)))

-- nine went out
pub sending_done : {N : Type 0} {n : Node N} {core : Core} {host : ℕ} {ports : List Port} {out : List (ℕ × List ℕ)} → IsSendingTo n core host ports 9 out
    → HasSentTo n core host ports
sending_done s = let none = none_is_left s in
    record { there = s.there; runs = s.runs; sent = none; whole = (all_gone s none).0; others = s.others }

-- ## Who carries them

pub handed_none : (full : Bool) (before : List (ℕ × List ℕ)) → AreHandedOn full full before before []
handed_none full before = record { room = λ e. e; behind = λ e. sym (append-nil before) }

pub handed_then : {a b c : Bool} {x y z : List (ℕ × List ℕ)} (fs gs : List (ℕ × List ℕ)) → AreHandedOn a b x y fs → AreHandedOn b c y z gs
    → AreHandedOn a c x z (fs ++ gs)
handed_then {x = x} fs gs f g = record {
  room = λ e. f.room (g.room e);
  behind = λ e. g.behind e ∙ (ap (λ now. now ++ gs) (f.behind (g.room e)) ∙ append_assoc x fs gs);
}

pub handed_as : {a b : Bool} {x y fs gs : List (ℕ × List ℕ)} → fs ≡ gs → AreHandedOn a b x y fs → AreHandedOn a b x y gs
handed_as {a} {b} {x} {y} same h = let H : List (ℕ × List ℕ) → Type 0 = λ fs. AreHandedOn a b x y fs in subst H same h

-- these were all that were due to this host
pub all_went : {N : Type 0} {n : Node N} {core : Core} {host : ℕ} {ports : List Port} {count : ℕ} {out : List (ℕ × List ℕ)}
    (s : IsSendingTo n core host ports count out) → frame_at (port_at s.there host) ≡ None → out ≡ due_to host ports
all_went s none = (all_gone s none).1

-- ## All hosts

-- A node whose ends were these, from which all frames to the hosts below this one went out.
pub record HasSentBelow {N : Type 0} (n : Node N) (core : Core) (host : ℕ) (start : List Port) : Type 0 where
  pub ports : List Port
  pub runs : RunsAs n core ports
  pub sent : (k : ℕ) → 1 ≤ k → k + 1 ≤ host → frame_at (port_at ports k) ≡ None
  pub whole : (k : ℕ) → 1 ≤ k → k + 1 ≤ host → port_at ports k ≡ option_map has_sent_all (port_at start k)
  pub later : (k : ℕ) → host ≤ k → port_at ports k ≡ port_at start k

pub one_more_host : {N : Type 0} {n n2 : Node N} {core : Core} {host : ℕ} {start : List Port} (b : HasSentBelow n core host start)
    → HasSentTo n2 core host b.ports → HasSentBelow n2 core (host + 1) start
one_more_host {core = core} {host = host} {start = start} b s = record {
  ports = s.there;
  runs = s.runs;
  sent = λ k low high. so (λ h. frame_at (port_at s.there h) ≡ None) s.sent
      (λ j differ early. ap frame_at (s.others j differ) ∙ b.sent j early.0 early.1) k low high;
  whole = λ k low high. so (λ h. port_at s.there h ≡ option_map has_sent_all (port_at start h))
      (s.whole ∙ ap (option_map has_sent_all) (b.later host (omega arith)))
      (λ j differ early. s.others j differ ∙ b.whole j early.0 early.1) k low high;
  later = λ k high. s.others k (λ same. omega (arith, same, high)) ∙ b.later k (omega (arith, high));
}
  where
    so : (P : ℕ → Type 0) → P host → ((k : ℕ) → k ≢ host → (1 ≤ k) × (k + 1 ≤ host) → P k) → (k : ℕ) → 1 ≤ k → k + 1 ≤ host + 1 → P k
    so P here early k low high = by (k == host) refl
      where
        by : (t : Bool) → (k == host) ≡ t → P k
        by true z = subst P (sym (eqb-true k host z)) here
        by false z = let differ : k ≢ host = eqb-false k host z in early k differ (low, omega (arith, high, differ))

pub sending_all_begins : {N : Type 0} {n : Node N} {core : Core} {ports : List Port} → RunsAs n core ports → HasSentBelow n core 1 ports
sending_all_begins {ports = ports} r = record {
  ports = ports;
  runs = r;
  sent = λ k low high. absurd (omega (arith, low, high));
  whole = λ k low high. absurd (omega (arith, low, high));
  later = λ k high. refl;
}

pub all_hosts_had : {N : Type 0} {n : Node N} {core : Core} {host : ℕ} {start : List Port} → 8 ≤ host → HasSentBelow n core host start
    → HasSentToAll n core start
all_hosts_had eight b = record {
  there = b.ports;
  runs = b.runs;
  sent = none_waits b.runs (λ k low high. b.sent k low (omega (arith, high, eight)));
  whole = λ k low high. b.whole k low (omega (arith, high, eight));
}

-- the frames to one more host
pub one_more_handed : {a b c : Bool} {x y z : List (ℕ × List ℕ)} {j host : ℕ} (start ports : List Port) → host ≡ suc j
    → port_at ports host ≡ port_at start host → AreHandedOn a b x y (due_as_far_as j start) → AreHandedOn b c y z (due_to host ports)
    → AreHandedOn a c x z (due_as_far_as (suc j) start)
one_more_handed {j = j} {host = host} start ports is same f g =
    let D : ℕ → List (ℕ × List ℕ) = λ h. due_to h start in
    let there = ap (λ o. option_map_or (λ (p : Port). map (λ c. (host, lpdu_of c)) (frames_out p.side)) o []) same in
    handed_then (due_as_far_as j start) (due_to (suc j) start) f (handed_as (there ∙ ap D is) g)

-- ## Steps

-- no frame waits at a new end
new_sends : (role : Named) (h : ℕ) → next_frame (new_port role h).side ≡ None
new_sends Clf h = refl
new_sends Uicc h = refl
new_sends Bare h = refl

pub new_sent : (role : Named) (hosts : List ℕ) → IsAllSent (map (new_port role) hosts)
new_sent role [] = tt
new_sent role (h ∷ hosts) = (new_sends role h, new_sent role hosts)

-- a node that has its power behind a step runs
pub runs_behind : {N : Type 0} {n : Node N} {noted : List Entry} {short : Bool} {start : List Entry} {w : Work} → HasStepped n noted short start w
    → IsTrue n.store.journal.live → RunsAs n w.core w.ports
runs_behind h live = h.runs (h.power ∙ ap not live)

-- a step that was done left the power on
pub is_done : {live : Bool} → ran_so live ≡ Done → IsTrue live
is_done {live = true} is = refl
is_done {live = false} is = cc

-- a node from which all went out may step
pub may_again : {N : Type 0} {n : Node N} {core : Core} {ports : List Port} → HasSentToAll n core ports → MayStep n
may_again {core = core} s = record { core = core; ports = s.there; runs = s.runs; sent = s.sent }

-- where a step brought the node down, nothing was handed on
pub none_behind : {N : Type 0} {n : Node N} {noted : List Entry} {short : Bool} {start : List Entry} {w : Work} (full : Bool) (before : List (ℕ × List ℕ))
    → HasStepped n noted short start w → n.store.journal.live ≡ false → HasHandedOn n noted short start full full before before w
none_behind {w = w} full before h dead =
    let cut : w.cut ≡ true = h.power ∙ ap not dead in
    let none : [] ≡ out_behind w = rw cut refl in
    record {
      power = h.power;
      runs = λ on. absurd (let both : true ≡ false = sym cut ∙ on in cc);
      noted_are = h.noted_are;
      handed = handed_as none (handed_none full before);
    }

-- where it kept its power, all frames were handed on
pub all_behind : {N : Type 0} {n n2 : Node N} {noted : List Entry} {short : Bool} {start : List Entry} {w : Work} {was full : Bool}
    {before now : List (ℕ × List ℕ)} → HasStepped n noted short start w → n2.store ≡ n.store → n.store.journal.live ≡ true
    → ((core : Core) (ports : List Port) → RunsAs n core ports → HasSentToAll n2 core ports)
    → ((core : Core) (ports : List Port) → RunsAs n core ports → AreHandedOn was full before now (due_as_far_as 7 ports))
    → HasHandedOn n2 noted short start was full before now w
all_behind {N} {w = w} h store live sent handed =
    let on : w.cut ≡ false = h.power ∙ ap not live in
    let runs = h.runs on in
    let all : due_as_far_as 7 w.ports ≡ out_behind w = rw on refl in
    record {
      power = h.power ∙ ap (λ (s : Stored N). not s.journal.live) (sym store);
      runs = λ still. sent w.core w.ports runs;
      noted_are = h.noted_are;
      handed = handed_as all (handed w.core w.ports runs);
    }

-- what stands behind what a node did, where its memory stays
pub brings_also : {N : Type 0} {writes : N → ℕ → List ℕ → Bool → N → Type 0} {old new new2 : N} {S T : Work → Type 0} {f : Work → Work} {w : Work}
    → new2 ≡ new → ((k : Work) → S k → T k) → Brings writes old new S f w → Brings writes old new2 T f w
brings_also {N} {writes = writes} {old = old} same also b =
    let M : N → Type 0 = λ m. WereMade writes b.sure b.torn old b.after.cut m in
    record {
      after = b.after;
      stands = also b.after b.stands;
      sure = b.sure;
      torn = b.torn;
      written = b.written;
      made = subst M (sym same) b.made;
      is = b.is;
    }

-- one that wasn't done took the power
pub not_done : {live : Bool} → (ran_so live ≡ Done → ⊥) → live ≡ false
not_done {live = true} differ = absurd (differ refl)
not_done {live = false} differ = refl

-- ## A host, which has one link

alone : (node k : ℕ) (ports : List Port) → map (λ (p : Port). p.desk.host) ports ≡ node ∷ [] → k ≢ node → port_at ports k ≡ None
alone node k [] own differ = refl
alone node k (p ∷ []) own differ = by (p.desk.host == k) refl
  where
    here : p.desk.host ≡ node
    here = cc

    by : (b : Bool) → (p.desk.host == k) ≡ b → port_at (p ∷ []) k ≡ None
    by true z = absurd (differ (sym (eqb-true p.desk.host k z) ∙ here))
    by false z = rw z refl
alone node k (p ∷ q ∷ ports) own differ = absurd (let none : q.desk.host ∷ map (λ (x : Port). x.desk.host) ports ≡ [] = cc in cc)

-- a host all frames of which went out may step
pub may_step_alone : {N : Type 0} {n : Node N} {core : Core} {host : ℕ} {ports : List Port} → HasSentTo n core host ports → n.number ≡ host → 1 ≤ host
    → MayStep n
may_step_alone {n = n} {core = core} {host = host} s number low = may_step s.runs (λ k some high. by k (k == host) refl)
  where
    node : core.node ≡ host
    node = s.runs.node ∙ number

    own : map (λ (p : Port). p.desk.host) s.there ≡ core.node ∷ []
    own = s.runs.order.own (λ zero_is. omega (arith, zero_is, node, low))

    by : (k : ℕ) (b : Bool) → (k == host) ≡ b → frame_at (port_at s.there k) ≡ None
    by k true z = let P : ℕ → Type 0 = λ h. frame_at (port_at s.there h) ≡ None in subst P (sym (eqb-true k host z)) s.sent
    by k false z = let differ = eqb-false k host z in ap frame_at (alone core.node k s.there own (λ same. differ (same ∙ node)))

-- a node that begins a step may be asked for something
pub asked_then : {N : Type 0} {n : Node N} {noted start : List Entry} {short : Bool} {w : Work} → BeginsStep n noted short start w
    → IsAsked n noted short start w
asked_then b = record { runs = b.runs; none_ended = b.none_ended; power = b.power; noted_are = b.noted_are }
