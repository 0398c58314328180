-- What is kept of hosts, one by one, as something happens to each of them.
use Rattle.std.proofs.lemmas.List.{drop-set-lt, drop_more, get_or-set_same, get_or_at, length-take-le, set_at, get_or-set_other, take-append-drop}
use Rattle.node_world.proofs.Words.{AllByRecursion, AreDifferent, AreSessions, Bool, Control, Controller, Entry, HasOneEnd, HaveRoom, HostSite, IsHost}
use Rattle.node_world.proofs.Words.{IsNodePlace, IsOnly, Link, List, None, Port, SendsFrom, Site, SiteIs, SitesAre, Some, StandsAt, Wires}
use Rattle.node_world.proofs.Words.{WiresStandFor, [], ap, append-nil, append_assoc, arith, changed_if, drop, due_at, entries_for, eqb-false, false}
use Rattle.node_world.proofs.Words.{flat_map, flat_map-append, frames_emitted, frames_out, get_or, has_frames, hosts_in, length, length-append, length-map, map}
use Rattle.node_world.proofs.Words.{map-append, max, number_of, option_map_or, port_at, put_all, puts_entries, refl, sent_port, sent_to, site_at, slice_set}
use Rattle.node_world.proofs.Words.{subst, suc, swapped, sym, take, true, with_port, ℕ, ◌++◌, ◌+◌, ◌<◌, ◌==◌, ◌∙◌, ◌∷◌, ◌≡◌, ◌≤◌}
use Rattle.node_world.proofs.EndsGo.{all_far}

pub as_many : (ks : List HostSite) (sites : List Site) → SitesAre ks sites → length ks ≡ length sites
as_many [] [] a = refl
as_many (k ∷ ks) (s ∷ sites) a = ap suc (as_many ks sites a.1)
as_many [] (s ∷ sites) a = absurd a
as_many (k ∷ ks) [] a = absurd a

-- what is kept of a host between others
pub record Between (ks : List HostSite) (front : List Site) (s : Site) (back : List Site) : Type 0 where
  pub before : List HostSite
  pub k : HostSite
  pub behind : List HostSite
  pub is : ks ≡ before ++ k ∷ behind
  pub place : length before ≡ length front
  pub first : SitesAre before front
  pub here : SiteIs k s
  pub rest : SitesAre behind back

pub between : (ks : List HostSite) (front : List Site) (s : Site) (back : List Site) → SitesAre ks (front ++ s ∷ back) → Between ks front s back
between [] [] s back a = absurd a
between [] (x ∷ front) s back a = absurd a
between (k ∷ ks) [] s back a = record { before = []; k = k; behind = ks; is = refl; place = refl; first = tt; here = a.0; rest = a.1 }
between (k ∷ ks) (x ∷ front) s back a =
    let b : Between ks front s back = between ks front s back a.1 in
    record {
      before = k ∷ b.before;
      k = b.k;
      behind = b.behind;
      is = ap (λ zs. k ∷ zs) b.is;
      place = ap suc b.place;
      first = (a.0, b.first);
      here = b.here;
      rest = b.rest;
    }

pub together : (ks : List HostSite) (sites : List Site) (more : List HostSite) (others : List Site) → SitesAre ks sites
    → SitesAre more others → SitesAre (ks ++ more) (sites ++ others)
together [] [] more others a b = b
together (k ∷ ks) (s ∷ sites) more others a b = (a.0, together ks sites more others a.1 b)
together [] (s ∷ sites) more others a b = absurd a
together (k ∷ ks) [] more others a b = absurd a

-- what is read at the place of a host
pub read_there : (ks : List HostSite) (front : List Site) (s : Site) (back : List Site) (i : ℕ) (k : HostSite) → length front ≡ i
    → SitesAre ks (front ++ s ∷ back) → k ≡ get_or ks i k → SiteIs k s
read_there ks front s back i k place a read =
    let b : Between ks front s back = between ks front s back a in
    rw (read ∙ (ap (λ zs. get_or zs i k) b.is ∙ get_or_at b.before b.k b.behind k i (b.place ∙ place))) b.here

-- and written there
pub written_there : (ks : List HostSite) (front : List Site) (s t : Site) (back : List Site) (i : ℕ) (k : HostSite) → length front ≡ i
    → SitesAre ks (front ++ s ∷ back) → SiteIs k t → SitesAre (slice_set ks i k) (front ++ t ∷ back)
written_there ks front s t back i k place a now =
    let b : Between ks front s back = between ks front s back a in
    let same : slice_set ks i k ≡ b.before ++ k ∷ b.behind =
    ap (λ zs. slice_set zs i k) b.is ∙ set_at b.before b.k b.behind k i (b.place ∙ place) in
    rw same (together b.before front (k ∷ b.behind) (t ∷ back) b.first (now, b.rest))

-- The first hosts have become what f makes of them, of which g was noted.
pub record Walked (f : Site → Site) (g : Site → List Entry) (now : List HostSite) (sites : List Site) (before after : List Entry) (i : ℕ)
    : Type 0 where
  pub done : List Site
  pub left : List Site
  pub is : sites ≡ done ++ left
  pub place : length done ≡ i
  pub stands : SitesAre now (map f done ++ left)
  pub noted : after ≡ before ++ flat_map g done

-- these are the ones
pub record Longer (f : Site → Site) (g : Site → List Entry) (now : List HostSite) (sites : List Site) (before after : List Entry) (i : ℕ)
    (done : List Site) : Type 0 where
  pub walked : Walked f g now sites before after i
  pub done_is : walked.done ≡ done

pub walk_begins : (f : Site → Site) (g : Site → List Entry) (now : List HostSite) (sites : List Site) (entries : List Entry)
    → SitesAre now sites → Longer f g now sites entries entries 0 []
walk_begins f g now sites entries a = record {
  walked = record { done = []; left = sites; is = refl; place = refl; stands = a; noted = sym (append-nil entries) };
  done_is = refl;
}

-- the next of them
pub record Next (f : Site → Site) (g : Site → List Entry) (now : List HostSite) (sites : List Site) (before after : List Entry) (i : ℕ)
    (k : HostSite) (front : List Site) : Type 0 where
  pub site : Site
  pub back : List Site
  pub is : sites ≡ front ++ site ∷ back
  pub here : SiteIs k site
  pub goes : (new : HostSite) (later : List Entry) → SiteIs new (f site) → later ≡ after ++ g site
      → Longer f g (slice_set now i new) sites before later (i + 1) (front ++ site ∷ [])

pub walk_next : (f : Site → Site) (g : Site → List Entry) (now : List HostSite) (sites : List Site) (before after : List Entry) (i : ℕ)
    (k : HostSite) (w : Walked f g now sites before after i) → i < length now → k ≡ get_or now i k → Next f g now sites before after i k w.done
walk_next f g now sites before after i k w lt read = go w.left refl
  where
    go : (left : List Site) → w.left ≡ left → Next f g now sites before after i k w.done
    go [] q =
        let none : length (map f w.done ++ w.left) ≡ i =
        ap (λ xs. length (map f w.done ++ xs)) q ∙ (ap length (append-nil (map f w.done)) ∙ (length-map w.done f ∙ w.place)) in
        absurd (let over : length now ≡ i = (as_many now (map f w.done ++ w.left) w.stands) ∙ none in omega (arith, over, lt))
    go (s ∷ back) q =
        let there : SitesAre now (map f w.done ++ s ∷ back) = rw q at w.stands in
        let long : length (map f w.done) ≡ i = length-map w.done f ∙ w.place in
        let parts : sites ≡ w.done ++ s ∷ back = w.is ∙ ap (λ xs. w.done ++ xs) q in
        record {
          site = s;
          back = back;
          is = parts;
          here = read_there now (map f w.done) s back i k long there read;
          goes = λ new later stands noted.
              record {
                walked = record {
                  done = w.done ++ s ∷ [];
                  left = back;
                  is = parts ∙ sym (append_assoc w.done (s ∷ []) back);
                  place = length-append w.done (s ∷ []) ∙ ap (λ n. n + 1) w.place;
                  stands = rw (← (more w.done)) at (written_there now (map f w.done) s (f s) back i new long there stands);
                  noted = noted ∙ (ap (λ es. es ++ g s) w.noted ∙ (append_assoc before (flat_map g w.done) (g s)
                      ∙ ap (λ es. before ++ es) (sym (flat_map-append g w.done (s ∷ []) ∙ ap (λ es. flat_map g w.done ++ es) (append-nil (g s))))));
                };
                done_is = refl;
              };
        }
      where
        more : (xs : List Site) → map f (xs ++ s ∷ []) ++ back ≡ map f xs ++ f s ∷ back
        more [] = refl
        more (x ∷ xs) = ap (λ zs. f x ∷ zs) (more xs)

-- all of them
pub walk_ends : (f : Site → Site) (g : Site → List Entry) (now : List HostSite) (sites : List Site) (before after : List Entry) (i : ℕ)
    (w : Walked f g now sites before after i) → length now ≤ i → SitesAre now (map f sites) × (after ≡ before ++ flat_map g sites) × (w.done ≡ sites)
walk_ends f g now sites before after i w over = go w.left refl
  where
    go : (left : List Site) → w.left ≡ left → SitesAre now (map f sites) × (after ≡ before ++ flat_map g sites) × (w.done ≡ sites)
    go [] q =
        let all : sites ≡ w.done = w.is ∙ (ap (λ xs. w.done ++ xs) q ∙ append-nil w.done) in
        let same : map f w.done ++ w.left ≡ map f sites =
        ap (λ xs. map f w.done ++ xs) q ∙ (append-nil (map f w.done) ∙ ap (map f) (sym all)) in
        (rw same at w.stands, w.noted ∙ ap (λ xs. before ++ flat_map g xs) (sym all), sym all)
    go (s ∷ back) q =
        let long : length (map f w.done ++ w.left) ≡ i + length (s ∷ back) =
        ap (λ xs. length (map f w.done ++ xs)) q ∙ (length-append (map f w.done) (s ∷ back)
        ∙ ap (λ n. n + length (s ∷ back)) (length-map w.done f ∙ w.place)) in
        absurd (let more : length now ≡ i + length (s ∷ back) = (as_many now (map f w.done ++ w.left) w.stands) ∙ long in omega (arith, more, over))

-- The frames of a node go out at its ends of the links to all hosts.

-- ## Ends to which nothing was sent yet

one_stays : (k h : ℕ) (ports : List Port) (p : Port) → (k == h) ≡ false → IsOnly h p ports → IsOnly h p (with_port k sent_port ports)
one_stays k h [] p q a = tt
one_stays k h (x ∷ ports) p q a = (go (x.desk.host == k) refl, one_stays k h ports p q a.1)
  where
    go : (b : Bool) → (x.desk.host == k) ≡ b → ((changed_if (x.desk.host == k) sent_port x).desk.host == h) ≡ true
        → changed_if (x.desk.host == k) sent_port x ≡ p
    go b e is = grind arith

found_stays : (k h : ℕ) (ports : List Port) (p : Port) → (k == h) ≡ false → port_at ports h ≡ Some p → port_at (with_port k sent_port ports) h ≡ Some p
found_stays k h [] p q f = absurd (cc f)
found_stays k h (x ∷ ports) p q f = let h0 = x.desk.host == k in let h1 = x.desk.host == h in let h2 = found_stays k h ports p q in grind arith

-- an end stays as it is while frames go out to others
pub stays : (hosts : List ℕ) (h : ℕ) (ports : List Port) (p : Port) → AllByRecursion (λ k. (k == h) ≡ false) hosts → port_at ports h ≡ Some p
    → IsOnly h p ports → (port_at (sent_to hosts ports) h ≡ Some p) × IsOnly h p (sent_to hosts ports)
stays [] h ports p a f only = (f, only)
stays (k ∷ hosts) h ports p a f only = stays hosts h (with_port k sent_port ports) p a.1 (found_stays k h ports p a.0 f) (one_stays k h ports p a.0 only)

pub sent_last : (hosts : List ℕ) (h : ℕ) (ports : List Port) → sent_to (hosts ++ h ∷ []) ports ≡ with_port h sent_port (sent_to hosts ports)
sent_last [] h ports = refl
sent_last (k ∷ hosts) h ports = sent_last hosts h (with_port k sent_port ports)

-- those before one of different hosts are others
pub others_before : (front : List ℕ) (h : ℕ) (back : List ℕ) → AreDifferent (front ++ h ∷ back) → AllByRecursion (λ k. (k == h) ≡ false) front
others_before [] h back d = tt
others_before (x ∷ front) h back d = (swapped h x (last front d.0), others_before front h back d.1)
  where
    last : (xs : List ℕ) → AllByRecursion (λ k. (k == x) ≡ false) (xs ++ h ∷ back) → (h == x) ≡ false
    last [] a = a.0
    last (y ∷ xs) a = last xs a.1

pub of_these : {X : Type 0} (Q : X → Type 0) (front : List X) (x : X) (back : List X) → AllByRecursion Q (front ++ x ∷ back) → Q x
of_these Q [] x back a = a.0
of_these Q (y ∷ front) x back a = of_these Q front x back a.1

-- ## One host after another

-- the frames went out to the first hosts
pub record SendingOn (Runs : List Port → Type 0) (ports : List Port) (now : List HostSite) (hosts : List Site) (before after : List Entry) (i : ℕ)
    : Type 0 where
  pub walked : Walked (has_frames ports) (frames_emitted ports) now hosts before after i
  pub runs : Runs (sent_to (hosts_in walked.done) ports)

pub sends_first : (Runs : List Port → Type 0) (ports : List Port) (now : List HostSite) (hosts : List Site) (entries : List Entry)
    → Runs ports → SitesAre now hosts → SendingOn Runs ports now hosts entries entries 0
sends_first Runs ports now hosts entries runs a =
    let first = walk_begins (has_frames ports) (frames_emitted ports) now hosts entries a in
    record { walked = first.walked; runs = subst Runs (ap (λ xs. sent_to (hosts_in xs) ports) (sym first.done_is)) runs }

-- those to the next one
pub record SendsNext (Runs : List Port → Type 0) (ports : List Port) (now : List HostSite) (hosts : List Site) (before after : List Entry) (i : ℕ)
    (k : HostSite) : Type 1 where
  pub ends : List Port
  pub port : Port
  pub link : Link
  pub sends : SendsFrom (Runs ends) (record { link = k.host; at_host = false }) port ends
  pub wires : WiresStandFor k.wires link
  pub goes : (Again : List Port → Type 0) (new : Wires) (later : List Entry) → Again (with_port k.host sent_port ends)
      → WiresStandFor new (put_all link (frames_out port.side)) → later ≡ after ++ entries_for k.host (puts_entries Controller link (frames_out port.side))
      → SendingOn Again ports (slice_set now i (record k { wires = new })) hosts before later (i + 1)

pub sends_next : (Runs : List Port → Type 0) (ports : List Port) (now : List HostSite) (hosts : List Site) (before after : List Entry) (i : ℕ)
    (k : HostSite) → AreDifferent (hosts_in hosts) → AllByRecursion (HasOneEnd ports) (hosts_in hosts)
    → SendingOn Runs ports now hosts before after i → i < length now → k ≡ get_or now i k → SendsNext Runs ports now hosts before after i k
sends_next Runs ports now hosts before after i k different ends s lt read =
    let done : List Site = s.walked.done in
    let n : Next (has_frames ports) (frames_emitted ports) now hosts before after i k done =
    walk_next (has_frames ports) (frames_emitted ports) now hosts before after i k s.walked lt read in
    let x : Site = n.site in
    let all : hosts_in hosts ≡ hosts_in done ++ x.host ∷ hosts_in n.back = ap hosts_in n.is ∙ map-append (λ (z : Site). z.host) done (x ∷ n.back) in
    let one : HasOneEnd ports x.host =
    of_these (HasOneEnd ports) (hosts_in done) x.host (hosts_in n.back) (subst (AllByRecursion (HasOneEnd ports)) all ends) in
    let others : AllByRecursion (λ h. (h == x.host) ≡ false) (hosts_in done) =
    others_before (hosts_in done) x.host (hosts_in n.back) (subst AreDifferent all different) in
    let now_ends : List Port = sent_to (hosts_in done) ports in
    let there = stays (hosts_in done) x.host ports one.port others one.here one.only in
    let At : ℕ → Type 0 = λ h. SendsFrom (Runs now_ends) (record { link = h; at_host = false }) one.port now_ends in
    let due : due_at ports x.host ≡ frames_out one.port.side = ap (λ o. option_map_or (λ (p : Port). frames_out p.side) o []) one.here in
    record {
      ends = now_ends;
      port = one.port;
      link = x.link;
      sends = subst At (sym n.here.host) (record { runs = s.runs; here = there.0; only = there.1 });
      wires = n.here.wires;
      goes = λ Again new later runs wires noted.
          let site : SiteIs (record k { wires = new }) (has_frames ports x) =
          with_frames k new x (due_at ports x.host) n.here (subst (λ cs. WiresStandFor new (put_all x.link cs)) (sym due) wires) in
          let longer = n.goes (record k { wires = new }) later site (grind arith) in
          let names : sent_to (hosts_in longer.walked.done) ports ≡ with_port x.host sent_port now_ends =
          ap (λ xs. sent_to (hosts_in xs) ports) longer.done_is
          ∙ (ap (λ hs. sent_to hs ports) (map-append (λ (z : Site). z.host) done (x ∷ [])) ∙ sent_last (hosts_in done) x.host ports) in
          record {
            walked = longer.walked;
            runs = subst Again (ap (λ h. with_port h sent_port now_ends) n.here.host ∙ sym names) runs;
          };
    }
  where
    with_frames : (k : HostSite) (new : Wires) (x : Site) (cs : List Control) → SiteIs k x → WiresStandFor new (put_all x.link cs)
        → SiteIs (record k { wires = new }) (record x { link = put_all x.link cs })
    with_frames k new x cs a wires =
        record { host = a.host; wires = wires; place = subst (λ e. IsNodePlace k.power x.memory x.node (λ h. e)) (sym (all_far x.link cs)) a.place }

pub all_sent : (Runs : List Port → Type 0) (ports : List Port) (now : List HostSite) (hosts : List Site) (before after : List Entry) (i : ℕ)
    → SendingOn Runs ports now hosts before after i → length now ≤ i → Runs (sent_to (hosts_in hosts) ports) × SitesAre now (map (has_frames ports) hosts)
    × (after ≡ before ++ flat_map (frames_emitted ports) hosts)
all_sent Runs ports now hosts before after i s over =
    let e = walk_ends (has_frames ports) (frames_emitted ports) now hosts before after i s.walked over in
    (subst Runs (ap (λ xs. sent_to (hosts_in xs) ports) e.2) s.runs, e.0, e.1)

-- the room that is left on the wires to the hosts behind one to which frames went out
pub room_left : (now : List HostSite) (i : ℕ) (k : HostSite) → i < length now → HaveRoom (drop i now) → HaveRoom (drop (i + 1) (slice_set now i k))
room_left now i k lt a = rw (drop-set-lt (i + 1) now i k (omega arith)) (rw (drop_more now i k lt) at a).1

-- The place of a host in what is kept of all hosts, and the numbers of the sessions of the controller's ends.

-- none of the first ones has this number
pub record PassedBy (i h : ℕ) (sites : List Site) : Type 0 where
  pub front : List Site
  pub back : List Site
  pub is : sites ≡ front ++ back
  pub place : length front ≡ i
  pub others : AllByRecursion (λ (s : Site). (s.host == h) ≡ false) front

pub none_passed : (h : ℕ) (sites : List Site) → PassedBy 0 h sites
none_passed h sites = record { front = []; back = sites; is = refl; place = refl; others = tt }

all_last : {X : Type 0} (Q : X → Type 0) (xs : List X) (x : X) → AllByRecursion Q xs → Q x → AllByRecursion Q (xs ++ x ∷ [])
all_last Q [] x a q = (q, tt)
all_last Q (y ∷ xs) x a q = (a.0, all_last Q xs x a.1 q)

not_found : (h : ℕ) (sites : List Site) → AllByRecursion (λ (s : Site). (s.host == h) ≡ false) sites → site_at sites h ≡ None
not_found h [] a = refl
not_found h (s ∷ sites) a = let q : (s.host == h) ≡ false = a.0 in rw q (not_found h sites a.1)

-- what is read at a place stands for the host there
pub record There (i : ℕ) (ks : List HostSite) (front back : List Site) (k : HostSite) : Type 0 where
  pub site : Site
  pub rest : List Site
  pub is : back ≡ site ∷ rest
  pub here : SiteIs k site

pub there : (i : ℕ) (ks : List HostSite) (front back : List Site) (k : HostSite) → SitesAre ks (front ++ back)
    → length front ≡ i → i < length ks → k ≡ get_or ks i k → There i ks front back k
there i ks front [] k a place lt read =
    absurd (let over : length ks ≡ i = (as_many ks (front ++ []) a) ∙ (ap length (append-nil front) ∙ place) in omega (arith, over, lt))
there i ks front (s ∷ rest) k a place lt read = record { site = s; rest = rest; is = refl; here = read_there ks front s rest i k place a read }

-- it is the host with this number
pub place_found : (i h : ℕ) (ks : List HostSite) (sites : List Site) (k : HostSite) → SitesAre ks sites → PassedBy i h sites
    → i < length ks → k ≡ get_or ks i k → k.host ≡ h → StandsAt i h sites
place_found i h ks sites k a p lt read host =
    let t = there i ks p.front p.back k (subst (SitesAre ks) p.is a) p.place lt read in
    grind arith

-- so it is wherever it was looked for
pub place_is : (i h : ℕ) (ks : List HostSite) (sites : List Site) (k : HostSite) → SitesAre ks sites
    → i < length ks → k ≡ get_or ks i k → k.host ≡ h → StandsAt i h sites
place_is i h ks sites k a lt read host =
    let parts : take i sites ++ drop i sites ≡ sites = take-append-drop i sites in
    let many : length ks ≡ length sites = as_many ks sites a in
    let long : length (take i sites) ≡ i = length-take-le i sites (omega (arith, many, lt)) in
    let t = there i ks (take i sites) (drop i sites) k (subst (SitesAre ks) (sym parts) a) long lt read in
    grind arith

-- or not
pub passes_by : (i h : ℕ) (ks : List HostSite) (sites : List Site) (k : HostSite) → SitesAre ks sites → PassedBy i h sites
    → i < length ks → k ≡ get_or ks i k → (k.host == h) ≡ false → PassedBy (i + 1) h sites
passes_by i h ks sites k a p lt read other =
    let t = there i ks p.front p.back k (subst (SitesAre ks) p.is a) p.place lt read in
    record {
      front = p.front ++ t.site ∷ [];
      back = t.rest;
      is = p.is ∙ (ap (λ xs. p.front ++ xs) t.is ∙ sym (append_assoc p.front (t.site ∷ []) t.rest));
      place = length-append p.front (t.site ∷ []) ∙ ap (λ n. n + 1) p.place;
      others = all_last (λ (s : Site). (s.host == h) ≡ false) p.front t.site p.others (ap (λ n. n == h) (sym t.here.host) ∙ other);
    }

pub none_there : (i h : ℕ) (ks : List HostSite) (sites : List Site) → SitesAre ks sites → PassedBy i h sites → length ks ≤ i → site_at sites h ≡ None
none_there i h ks sites a p over = go p.back refl
  where
    go : (back : List Site) → p.back ≡ back → site_at sites h ≡ None
    go [] q =
        ap (λ xs. site_at xs h) (p.is ∙ (ap (λ xs. p.front ++ xs) q ∙ append-nil p.front)) ∙ not_found h p.front p.others
    go (s ∷ rest) q =
        let long : length sites ≡ i + length (s ∷ rest) =
        ap length p.is ∙ (ap (λ xs. length (p.front ++ xs)) q ∙ (length-append p.front (s ∷ rest) ∙ ap (λ n. n + length (s ∷ rest)) p.place)) in
        absurd (let more : length ks ≡ i + length (s ∷ rest) = (as_many ks sites a) ∙ long in omega (arith, more, over))

-- ## Numbers of sessions

-- the numbers of the first ends are there
pub record NumbersFound (i : ℕ) (sessions : List ℕ) (sites : List Site) : Type 0 where
  pub front : List Site
  pub back : List Site
  pub is : sites ≡ front ++ back
  pub place : length front ≡ i
  pub numbers : AreDifferent (hosts_in sites) → AllByRecursion IsHost (hosts_in sites) → AreSessions sessions front

pub no_numbers : (sessions : List ℕ) (sites : List Site) → NumbersFound 0 sessions sites
no_numbers sessions sites = record { front = []; back = sites; is = refl; place = refl; numbers = λ d a. tt }

kept_numbers : (front : List Site) (h n : ℕ) (sessions : List ℕ) → AllByRecursion (λ k. (k == h) ≡ false) (hosts_in front)
    → AreSessions sessions front → AreSessions (slice_set sessions h n) front
kept_numbers [] h n sessions d a = tt
kept_numbers (s ∷ front) h n sessions d a =
    (get_or-set_other sessions h s.host n 0 (eqb-false s.host h d.0) ∙ a.0, kept_numbers front h n sessions d.1 a.1)

-- one more number
pub number_found : (i : ℕ) (ks : List HostSite) (sites : List Site) (sessions : List ℕ) (k : HostSite) (n : ℕ) → SitesAre ks sites
    → NumbersFound i sessions sites → i < length ks → k ≡ get_or ks i k → length sessions ≡ 8 → k.host < 8
    → n ≡ max k.wires.controller.emitted k.wires.controller.took → NumbersFound (i + 1) (slice_set sessions k.host n) sites
number_found i ks sites sessions k n a f lt read eight low number =
    let t = there i ks f.front f.back k (subst (SitesAre ks) f.is a) f.place lt read in
    let x : Site = t.site in
    let parts : sites ≡ f.front ++ x ∷ t.rest = f.is ∙ ap (λ xs. f.front ++ xs) t.is in
    let all : hosts_in sites ≡ hosts_in f.front ++ x.host ∷ hosts_in t.rest = ap hosts_in parts ∙ map-append (λ (z : Site). z.host) f.front (x ∷ t.rest) in
    let is : n ≡ number_of x.link.controller = grind arith in
    record {
      front = f.front ++ x ∷ [];
      back = t.rest;
      is = parts ∙ sym (append_assoc f.front (x ∷ []) t.rest);
      place = length-append f.front (x ∷ []) ∙ ap (λ m. m + 1) f.place;
      numbers = λ different hosts.
          let others = others_before (hosts_in f.front) x.host (hosts_in t.rest) (subst AreDifferent all different) in
          let there : x.host < length sessions = omega (arith, t.here.host, low, eight) in
          rw (← t.here.host) at (all_last (λ (s : Site). get_or (slice_set sessions x.host n) s.host 0 ≡ number_of s.link.controller) f.front x
          (kept_numbers f.front x.host n sessions others (f.numbers different hosts)) (get_or-set_same sessions x.host n 0 there ∙ is));
    }

-- a number of no host
pub number_passed : (i : ℕ) (ks : List HostSite) (sites : List Site) (sessions : List ℕ) (k : HostSite) → SitesAre ks sites
    → NumbersFound i sessions sites → i < length ks → k ≡ get_or ks i k → 8 ≤ k.host → NumbersFound (i + 1) sessions sites
number_passed i ks sites sessions k a f lt read high =
    let t = there i ks f.front f.back k (subst (SitesAre ks) f.is a) f.place lt read in
    let x : Site = t.site in
    let parts : sites ≡ f.front ++ x ∷ t.rest = f.is ∙ ap (λ xs. f.front ++ xs) t.is in
    let all : hosts_in sites ≡ hosts_in f.front ++ x.host ∷ hosts_in t.rest = ap hosts_in parts ∙ map-append (λ (z : Site). z.host) f.front (x ∷ t.rest) in
    record {
      front = f.front ++ x ∷ [];
      back = t.rest;
      is = parts ∙ sym (append_assoc f.front (x ∷ []) t.rest);
      place = length-append f.front (x ∷ []) ∙ ap (λ m. m + 1) f.place;
      numbers = λ different hosts.
          let low = (of_these IsHost (hosts_in f.front) x.host (hosts_in t.rest) (subst (AllByRecursion IsHost) all hosts)).1 in
          absurd (omega (arith, t.here.host, low, high));
    }

pub numbers_are : (i : ℕ) (ks : List HostSite) (sites : List Site) (sessions : List ℕ) → SitesAre ks sites
    → NumbersFound i sessions sites → length ks ≤ i → AreDifferent (hosts_in sites) → AllByRecursion IsHost (hosts_in sites) → AreSessions sessions sites
numbers_are i ks sites sessions a f over different hosts = go f.back refl
  where
    go : (back : List Site) → f.back ≡ back → AreSessions sessions sites
    go [] q =
        subst (AreSessions sessions) (sym (f.is ∙ (ap (λ xs. f.front ++ xs) q ∙ append-nil f.front))) (f.numbers different hosts)
    go (s ∷ rest) q =
        let long : length sites ≡ i + length (s ∷ rest) =
        ap length f.is ∙ (ap (λ xs. length (f.front ++ xs)) q ∙ (length-append f.front (s ∷ rest) ∙ ap (λ n. n + length (s ∷ rest)) f.place)) in
        absurd (let more : length ks ≡ i + length (s ∷ rest) = (as_many ks sites a) ∙ long in omega (arith, more, over))
