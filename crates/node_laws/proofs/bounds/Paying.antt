-- What messages pay was paid for by the ends that sent them, and so in the end by causes: a history notes as many commands as its lines ask
-- for.
use Rattle.node_laws.proofs.Words.{AreCausedSo, AreHosts, AreInTurn, AreNodeLinesOf, ArePlayable, Bool, End, Entry, FollowsNodes, Happening, Header, IsFrontOf}
use Rattle.node_laws.proofs.Words.{IsNodeHeader, IsNodeLineOf, IsPlayable, Line, List, MayBeCaused, Message, NodeHistory, NodeWorld, None}
use Rattle.node_laws.proofs.Words.{Occurrence, Option, Running, Saying, Site, Some, Takes, Ticks, Verdict, [], all_happen, ap, append-nil, append_assoc, arith}
use Rattle.node_laws.proofs.Words.{at_end, by_option, by_test, can_happen, commands_by, commands_by_all, commands_by_events, commands_noted, cons_option}
use Rattle.node_laws.proofs.Words.{entries_in, eqb-false, eqb-true, false, filter_map, filter_map-append, first_verdict, flat_map-append}
use Rattle.node_laws.proofs.Words.{frames_at, goes_on, good_of, got_entry, got_in, got_in_session, happenings, happens_by, is_good, length}
use Rattle.node_laws.proofs.Words.{length-map, line_step, lines_asking, ne_eqb, new_world, node_at, node_number, not, occurrences_in, occurrences_of, other_end}
use Rattle.node_laws.proofs.Words.{refl, refusal_in, replicate, said, said_of, same_end, same_end_itself, sent_by, sent_in, since_boot, steps_from, subst, suc}
use Rattle.node_laws.proofs.Words.{sym, tables_told, taken_of, true, true≢false, turn_entry_at, unwrap_or, world_behind, world_step, zero, ℕ, ◌*◌, ◌++◌, ◌+◌}
use Rattle.node_laws.proofs.Words.{◌<◌, ◌==◌, ◌∙◌, ◌∷◌, ◌≡◌, ◌≤◌}
use Rattle.history.specs.Filters.Saying.{Sends}
use Rattle.node_laws.specs.bounds.Commands.{AllCome}
use Rattle.node_laws.specs.schedules.Ranges.{asking}
use Rattle.node_laws.proofs.bounds.Syncs.{all_calm}
use Rattle.node_laws.proofs.bounds.Turns.{costs, costs-append, message_cost, pays, pays-append, worth}
use Rattle.node_laws.proofs.bounds.Worlds.{event_paid, sites_hold, world_holds}
use Rattle.node_laws.proofs.order.Lines.{IsSo, history_so, next_so, of_none}
use Rattle.node_laws.proofs.order.Sessions.{in_order_so}
use Rattle.node_laws.proofs.reply_passes.Ordered.{in_turn_of}
use Rattle.node_laws.proofs.schedules.Ranges.{count, fewer, hosts_are, hosts_few, one_at, playable}
use Rattle.node_laws.proofs.telling.Lasting.{AllMay, damaged_may, events_of_steps, lines_caused, occurs, repeated_may, stands_none}
use Rattle.node_laws.proofs.turns.Worlds.{Waiting, events_move, none_wait}
use Rattle.node_laws.proofs.turns.Passing.{goes-append}
use Rattle.node_laws.proofs.turns.Nodes.{Moves, end_at}
use Rattle.trace_model.specs.declared.entry.Entry.TheVariants as entry
use Rattle.trace_model.specs.declared.entry.NoCause.TheVariants as no
use Rattle.trace_model.specs.declared.line.Line.TheVariants as line

-- ## Messages that have their turns were sent: what they pay was paid for, message by message, by the end from which they came

-- ### Messages that weigh

-- what messages pay that come to an end of this side
abbrev worth_of : Bool → List Message → ℕ
worth_of b [] = 0
worth_of b (m ∷ ms) = message_cost (not b) m.0 m.1 + worth_of b ms

worth-append : (b : Bool) (xs ys : List Message) → worth_of b (xs ++ ys) ≡ worth_of b xs + worth_of b ys
worth-append b [] ys = omega arith
worth-append b (m ∷ xs) ys = let rest = worth-append b xs ys in omega (arith, rest)

front_worth : (b : Bool) (xs ys : List Message) → IsFrontOf xs ys → worth_of b xs ≤ worth_of b ys
front_worth b xs ys front = let both = worth-append b xs front.0 in let all = ap (worth_of b) front.1 in omega (arith, both, all)

good_worth : (b : Bool) (xs : List Message) → worth_of b (good_of xs) ≤ worth_of b xs
good_worth b [] = omega arith
good_worth b (m ∷ xs) = by_test (is_good m.1) (λ q. rw q (omega (arith, good_worth b xs))) (λ q. rw q (omega (arith, good_worth b xs)))

-- ### At one end

module _ (e : End) where
  abbrev turns : List Entry → ℕ
  turns t = worth_of e.at_host (filter_map (turn_entry_at e) t)

  abbrev gots : List Entry → ℕ
  gots t = worth_of e.at_host (filter_map (got_entry e) t)

  turns-append : (s t : List Entry) → turns (s ++ t) ≡ turns s + turns t
  turns-append s t =
      ap (worth_of e.at_host) (filter_map-append (turn_entry_at e) s t)
      ∙ worth-append e.at_host (filter_map (turn_entry_at e) s) (filter_map (turn_entry_at e) t)

  gots-append : (s t : List Entry) → gots (s ++ t) ≡ gots s + gots t
  gots-append s t =
      ap (worth_of e.at_host) (filter_map-append (got_entry e) s t)
      ∙ worth-append e.at_host (filter_map (got_entry e) s) (filter_map (got_entry e) t)

  -- since each boot no more had its turn than came
  abbrev AreFewer : List Entry → List Entry → Type 0
  AreFewer since t = (front back : List Entry) → t ≡ front ++ back
      → turns (since_boot (node_number e) since front) ≤ gots (since_boot (node_number e) since front)

  at_end_of_moving : (t since : List Entry) → AreFewer since t → turns since + turns t ≤ gots since + gots t
  at_end_of_moving [] since are = let now = are [] [] refl in omega (arith, now)
  at_end_of_moving (entry.Booted node k ∷ t) since are = by_test (node == node_number e)
      (λ q. let fresh : AreFewer [] t = (λ front back is. let z = are (x ∷ front) back (ap (λ l. x ∷ l) is) in rw q at z) in
      omega (arith, at_end_of_moving t [] fresh, are [] (x ∷ t) refl))
      (λ q. let on : AreFewer (since ++ x ∷ []) t = (λ front back is. let z = are (x ∷ front) back (ap (λ l. x ∷ l) is) in rw q at z) in
      omega (arith, (at_end_of_moving t (since ++ entry.Booted node k ∷ [])) on, turns-append since (x ∷ []), gots-append since (x ∷ []))) where
        x : Entry
        x = entry.Booted node k
  at_end_of_moving (x ∷ t) since are =
      let b = gots-append since (x ∷ []) in
      let c = turns-append (x ∷ []) t in
      let d = gots-append (x ∷ []) t in
      omega (arith, at_end_of_moving t (since ++ x ∷ []) (λ front back is. are (x ∷ front) back (ap (λ l. x ∷ l) is)), turns-append since (x ∷ []), b, c, d)

  turned_came : (t : List Entry) → AreInTurn t → turns t ≤ gots t
  turned_came t are =
      let fewer : AreFewer [] t =
      (λ front back is. front_worth e.at_host _ (filter_map (got_entry e) (since_boot (node_number e) [] front)) (are front back e is)) in
      omega (arith, at_end_of_moving t [] fewer)

  -- ### In all sessions

  -- what this end got in the sessions below this number, or the other end sent in them
  abbrev got_below : List Entry → ℕ → ℕ
  got_below t zero = 0
  got_below t (suc n) = worth_of e.at_host (got_in t e n) + got_below t n

  abbrev sent_below : List Entry → ℕ → ℕ
  sent_below t zero = 0
  sent_below t (suc n) = worth_of e.at_host (sent_in t (other_end e) n) + sent_below t n

  fewer_below : (t : List Entry) → ((n : ℕ) → IsFrontOf (got_in t e n) (good_of (sent_in t (other_end e) n))) → (n : ℕ) → got_below t n ≤ sent_below t n
  fewer_below t fronts zero = omega arith
  fewer_below t fronts (suc n) =
      let good = good_worth e.at_host (sent_in t (other_end e) n) in
      omega (arith, front_worth e.at_host (got_in t e n) (good_of (sent_in t (other_end e) n)) (fronts n), good, fewer_below t fronts n)

-- ### Messages that were noted are those of sessions

-- a message that may be there
abbrev worth_if : Bool → Option Message → ℕ
worth_if b None = 0
worth_if b (Some m) = message_cost (not b) m.0 m.1

cons_worth : (b : Bool) (o : Option Message) (ms : List Message) → worth_of b (cons_option o ms) ≡ worth_if b o + worth_of b ms
cons_worth b o ms = grind arith

-- so much at one number below this one
abbrev hits : ℕ → ℕ → ℕ → ℕ
hits k w zero = 0
hits k w (suc n) = worth w (k == n) + hits k w n

not_yet : (k w n : ℕ) → n ≤ k → hits k w n ≡ 0
not_yet k w zero below = refl
not_yet k w (suc n) below = omega (arith, ap (worth w) (ne_eqb k n (λ is. omega (arith, below, is))), not_yet k w n (omega (arith, below)))

hits_most : (k w n : ℕ) → hits k w n ≤ w
hits_most k w zero = omega arith
hits_most k w (suc n) = by_test (k == n)
    (λ q. omega (arith, ap (worth w) q, not_yet k w n (omega (arith, eqb-true k n q))))
    (λ q. omega (arith, ap (worth w) q, hits_most k w n))

hits_once : (k w n : ℕ) → k < n → w ≤ hits k w n
hits_once k w zero below = absurd (omega (arith, below))
hits_once k w (suc n) below = by_test (k == n)
    (λ q. let one : worth w (k == n) ≡ w = ap (worth w) q in omega (arith, one))
    (λ q. omega (arith, hits_once k w n (omega (arith, below, eqb-false k n q))))

module _ (e : End) where
  -- what one entry tells of the sessions below a number
  abbrev got_by : Entry → ℕ → ℕ
  got_by x zero = 0
  got_by x (suc n) = worth_if e.at_host (got_in_session n (said_of e x)) + got_by x n

  abbrev sent_of : Entry → ℕ → ℕ
  sent_of x zero = 0
  sent_of x (suc n) = worth_if e.at_host (sent_by n (said_of (other_end e) x)) + sent_of x n

  got_more : (x : Entry) (t : List Entry) (n : ℕ) → got_below e (x ∷ t) n ≡ got_by x n + got_below e t n
  got_more x t zero = refl
  got_more x t (suc n) =
      let one = cons_worth e.at_host (got_in_session n (said_of e x)) (got_in t e n) in let rest = got_more x t n in omega (arith, one, rest)

  sent_more : (x : Entry) (t : List Entry) (n : ℕ) → sent_below e (x ∷ t) n ≡ sent_of x n + sent_below e t n
  sent_more x t zero = refl
  sent_more x t (suc n) = omega (arith, cons_worth e.at_host (sent_by n (said_of (other_end e) x)) (sent_in t (other_end e) n), sent_more x t n)

  -- a message that came is told in its session
  hit_got : (f : End) (k pid : ℕ) (m : List ℕ) (n : ℕ) → same_end f e ≡ true
      → got_by (entry.Got f k pid m) n ≡ hits k (message_cost (not e.at_host) pid m) n
  hit_got f k pid m zero on = refl
  hit_got f k pid m (suc n) on = let h0 = hit_got f k pid m n on in grind arith

  -- the greatest number of a session in which a message came, and one more
  abbrev top : List Entry → ℕ
  top [] = 0
  top (entry.Got f k pid m ∷ t) = suc k + top t
  top (x ∷ t) = top t

  all_got : (t : List Entry) (n : ℕ) → top t ≤ n → gots e t ≤ got_below e t n
  all_got [] n most = omega arith
  all_got (entry.Got f k pid m ∷ t) n most = by_test (same_end f e)
      (λ q. let is : gots e (x ∷ t) ≡ message_cost (not e.at_host) pid m + gots e t = rw q refl in
      let more = got_more x t n in
      let once = hits_once k (message_cost (not e.at_host) pid m) n (omega (arith, most)) in
      omega (arith, is, more, hit_got f k pid m n q, once, (all_got t n (omega (arith, most)))))
      (λ q. let is : gots e (x ∷ t) ≡ gots e t = rw q refl in let more = got_more x t n in omega (arith, is, more, (all_got t n (omega (arith, most))))) where
        x : Entry
        x = entry.Got f k pid m
  all_got (x ∷ t) n most =
      let rest = all_got t n most in let more = got_more x t n in omega (arith, more, rest)

-- ## All messages that have their turns were sent, at all ends: so what is noted is paid for by causes alone

-- ### Ends as often as they are paid for

-- where messages have their turns, as often as they pay
abbrev turn_list : List Entry → List End
turn_list [] = []
turn_list (entry.Turn f pid m ∷ t) = replicate (message_cost (not f.at_host) pid m) f ++ turn_list t
turn_list (x ∷ t) = turn_list t

-- where messages that are sent go to, as often as they cost
abbrev sent_list : List Entry → List End
sent_list [] = []
sent_list (entry.Sent f n pid m ∷ t) = replicate (message_cost f.at_host pid m) (other_end f) ++ sent_list t
sent_list (x ∷ t) = sent_list t

long_many : (n : ℕ) (f : End) (fs : List End) → length (replicate n f ++ fs) ≡ n + length fs
long_many zero f fs = omega arith
long_many (suc n) f fs = let rest = long_many n f fs in omega (arith, rest)

pays_are : (t : List Entry) → length (turn_list t) ≡ pays t
pays_are [] = refl
pays_are (entry.Turn f pid m ∷ t) =
    let rest = pays_are t in let many = long_many (message_cost (not f.at_host) pid m) f (turn_list t) in omega (arith, rest, many)
pays_are (x ∷ t) = let rest = pays_are t in omega (arith, rest)

costs_are : (t : List Entry) → costs t ≡ commands_noted t + length (sent_list t)
costs_are [] = refl
costs_are (entry.Command node c ∷ t) = let rest = costs_are t in omega (arith, rest)
costs_are (entry.Sent f n pid m ∷ t) =
    let rest = costs_are t in let many = long_many (message_cost f.at_host pid m) (other_end f) (sent_list t) in omega (arith, rest, many)
costs_are (x ∷ t) = let rest = costs_are t in omega (arith, rest)

-- ### At one end

count_on : (e f : End) (n : ℕ) (fs : List End) → same_end f e ≡ true → count e (replicate n f ++ fs) ≡ n + count e fs
count_on e f zero fs on = omega arith
count_on e f (suc n) fs on = let rest = count_on e f n fs on in let one : one_at (same_end f e) ≡ 1 = ap one_at on in omega (arith, rest, one)

count_more : (e f : End) (n : ℕ) (fs : List End) → count e fs ≤ count e (replicate n f ++ fs)
count_more e f zero fs = omega arith
count_more e f (suc n) fs = let rest = count_more e f n fs in omega (arith, rest)

count_off : (e f : End) (n : ℕ) (fs : List End) → same_end f e ≡ false → count e (replicate n f ++ fs) ≡ count e fs
count_off e f zero fs off = refl
count_off e f (suc n) fs off = let rest = count_off e f n fs off in let one : one_at (same_end f e) ≡ 0 = ap one_at off in omega (arith, rest, one)

module _ (e : End) where
  turns_are : (t : List Entry) → count e (turn_list t) ≡ turns e t
  turns_are [] = refl
  turns_are (entry.Turn f pid m ∷ t) = let h0 = turns_are t in grind arith
  turns_are (x ∷ t) = turns_are t

-- ### What was sent

-- it tells of no message that is sent
abbrev IsNoSend : Saying → Type 0
IsNoSend (Sends k m) = ⊥
IsNoSend _ = Unit {0}

abbrev SaysNoSend : Option (End × Saying) → Type 0
SaysNoSend None = Unit {0}
SaysNoSend (Some (f, saying)) = IsNoSend saying

unsent : (n : ℕ) (f : End) (o : Option (End × Saying)) → SaysNoSend o → sent_by n (at_end f o) ≡ None
unsent n f o none = grind arith

pub other_twice : (e : End) → other_end (other_end e) ≡ e
other_twice e = by_test e.at_host (λ q. rw q refl) (λ q. rw q refl)

module _ (e : End) where
  none_sent : (x : Entry) → SaysNoSend (said x) → (n : ℕ) → sent_of e x n ≡ 0
  none_sent x none zero = refl
  none_sent x none (suc n) = omega (arith, ap (worth_if e.at_host) (unsent n (other_end e) (said x) none), none_sent x none n)

  hit_sent : (f : End) (k pid : ℕ) (m : List ℕ) (n : ℕ) → same_end f (other_end e) ≡ true
      → sent_of e (entry.Sent f k pid m) n ≡ hits k (message_cost (not e.at_host) pid m) n
  hit_sent f k pid m zero on = refl
  hit_sent f k pid m (suc n) on = let h0 = hit_sent f k pid m n on in grind arith

  miss_sent : (f : End) (k pid : ℕ) (m : List ℕ) (n : ℕ) → same_end f (other_end e) ≡ false → sent_of e (entry.Sent f k pid m) n ≡ 0
  miss_sent f k pid m zero off = refl
  miss_sent f k pid m (suc n) off = let h0 = miss_sent f k pid m n off in grind arith

  all_sent : (t : List Entry) (n : ℕ) → sent_below e t n ≤ count e (sent_list t)
  all_sent [] n = none_below n where
    none_below : (n : ℕ) → sent_below e [] n ≤ 0
    none_below zero = omega arith
    none_below (suc n) = let rest = none_below n in omega (arith, rest)
  all_sent (entry.Sent f k pid m ∷ t) n = by_test (same_end f (other_end e))
      (λ q. let is : f ≡ other_end e = grind arith in
      let many = count_on e (other_end f) c (sent_list t) (ap (λ g. same_end g e) (ap other_end is ∙ other_twice e) ∙ same_end_itself e) in
      let more = sent_more e (entry.Sent f k pid m) t n in
      let most = hits_most k (message_cost (not e.at_host) pid m) n in
      omega (arith, many, ap (λ (g : End). message_cost g.at_host pid m) is, more, hit_sent f k pid m n q, most, all_sent t n))
      (λ q. let more = sent_more e (entry.Sent f k pid m) t n in
      omega (arith, more, miss_sent f k pid m n q, count_more e (other_end f) c (sent_list t), all_sent t n)) where
        c : ℕ
        c = message_cost f.at_host pid m
  all_sent (x ∷ t) n = let rest = all_sent t n in let more = sent_more e x t n in let none = none_sent x tt n in omega (arith, rest, more, none)

-- ### At all ends

-- in each session an end got a front of what the other one sent
abbrev pub AreFronts : List Entry → Type 0
AreFronts t = (e : End) (n : ℕ) → IsFrontOf (got_in t e n) (good_of (sent_in t (other_end e) n))

-- What messages pay that have their turns was paid for as they were sent.
paid_before : (t : List Entry) → AreInTurn t → AreFronts t → pays t ≤ length (sent_list t)
paid_before t turned fronts =
    let few =
    fewer (turn_list t) (sent_list t)
    (λ e. let d = fewer_below e t (fronts e) (top e t) in
    let f = all_sent e t (top e t) in omega (arith, turns_are e t, turned_came e t turned, all_got e t (top e t) (omega arith), d, f)) in
    omega (arith, few, pays_are t)

-- So what is committed is paid for by what came of causes.
pub few_committed : (all : ℕ) (t : List Entry) → AreInTurn t → AreFronts t → costs t ≤ pays t + all → commands_noted t ≤ all
few_committed all t turned fronts paid =
    let few = paid_before t turned fronts in let is = costs_are t in omega (arith, few, is, paid)

-- ## Whatever happens to a new world, what its nodes commit is paid for by what came of the causes

-- A world and what happened until then: its links are told, what waits at its ends is read, and all was paid for, but for what came of
-- the causes.
pub record PaidSo (hosts : List ℕ) (all : ℕ) (os : List Occurrence) (w : NodeWorld) : Type 0 where
  pub so : IsSo hosts os w
  pub waiting : (b : Bool) (h : ℕ) → Waiting (entries_in os) w b h
  pub paid : costs (entries_in os) + world_holds w ≤ pays (entries_in os) + all

module _ (hosts : List ℕ) (most : length hosts ≤ 7) where
  more_so : (all : ℕ) (os : List Occurrence) (w : NodeWorld) (c : Happening) → PaidSo hosts all os w → MayBeCaused w c
      → PaidSo hosts (all + commands_by c) (os ++ occurs w c ∷ []) (world_step w c).0
  more_so all os w c a may =
      let t : List Entry = entries_in os in
      let u : List Entry = (world_step w c).1 in
      let same : entries_in (os ++ occurs w c ∷ []) ≡ t ++ u =
      flat_map-append (λ (o : Occurrence). o.entries) os (occurs w c ∷ []) ∙ ap (λ z. t ++ z) (append-nil u) in
      let one = length-map w.sites (λ (s : Site). s.host) in
      let event = event_paid w c (all_calm w.sites a.so.well.fine.sites) a.so.well.orderly (omega (arith, one, ap length a.so.hosts_are, most)) in
      let cs = costs-append t u in
      let ps = pays-append t u in
      record {
        so = next_so of_none hosts os w c a.so (grind arith) (λ h q. absurd (true≢false (sym q)));
        waiting = λ b h.
            let was : Waiting t w b h = a.waiting b h in
            let moved : Moves b h (world_step w c).0 u was.messages =
            events_move w c a.so.well.orderly (grind arith) b h was.messages was.waits in
            subst (λ z. Waiting z (world_step w c).0 b h) (sym same) (record {
              messages = moved.left;
              goes = goes-append (end_at b h) t u [] was.messages moved.left was.goes moved.goes;
              waits = moved.waits;
            });
        paid = subst (λ z. costs z + world_holds (world_step w c).0 ≤ pays z + (all + commands_by c)) (sym same) (omega (arith, event, cs, ps, a.paid));
      }

  -- so few are committed
  few_so : (all : ℕ) (os : List Occurrence) (w : NodeWorld) → PaidSo hosts all os w → commands_noted (entries_in os) ≤ all
  few_so all os w a =
      let t : List Entry = entries_in os in
      let order = in_order_so hosts os w a.so t [] (sym (append-nil t)) in
      few_committed all t (in_turn_of t (λ e. ((a.waiting e.at_host e.link).messages, (a.waiting e.at_host e.link).goes)))
      (λ e n. subst (λ (f : End). IsFrontOf (got_in t f n) (good_of (sent_in t (other_end e) n))) (other_twice e) (order.delivered (other_end e) n))
      (omega (arith, a.paid))

  all_so : (causes : List Happening) (all : ℕ) (os : List Occurrence) (w : NodeWorld) → PaidSo hosts all os w → AllCome w causes
      → commands_noted (entries_in (os ++ (all_happen w causes).1)) ≤ all + commands_by_all causes
  all_so [] all os w a may = let h0 = entries_in (os ++ []) in let h1 = entries_in os in let h2 = append-nil os in let h3 = few_so all os w a in grind arith
  all_so (c ∷ causes) all os w a may =
      by_test (can_happen w c)
      (λ q. rw q (let same : commands_noted (entries_in ((os ++ occurs w c ∷ []) ++ later.1)) ≡ commands_noted (entries_in (os ++ (occurs w c ∷ later.1))) =
      ap (λ l. commands_noted (entries_in l)) (append_assoc os (occurs w c ∷ []) later.1) in
      omega (arith, all_so causes (all + commands_by c) (os ++ occurs w c ∷ []) (world_step w c).0 (more_so all os w c a may.0) may.1, same)))
      (λ q. rw q (omega (arith, few_so all os w a, ap (λ l. commands_noted (entries_in l)) (append-nil os))))
    where
      later : NodeWorld × List Occurrence
      later = all_happen (world_step w c).0 causes

  all_events : (events : List Occurrence) (all : ℕ) (os : List Occurrence) (w : NodeWorld) → PaidSo hosts all os w → AreCausedSo w events
      → commands_noted (entries_in (os ++ events)) ≤ all + commands_by_events events
  all_events [] all os w a are = let h0 = entries_in (os ++ []) in let h1 = entries_in os in let h2 = append-nil os in let h3 = few_so all os w a in grind arith
  all_events (o ∷ events) all os w a are =
      let is : occurs w o.cause ≡ o = ap (λ es. let made : Occurrence = record { cause = o.cause; entries = es } in made) (sym are.0) in
      let next : PaidSo hosts (all + commands_by o.cause) (os ++ o ∷ []) (world_step w o.cause).0 =
      subst (λ x. PaidSo hosts (all + commands_by o.cause) (os ++ x ∷ []) (world_step w o.cause).0) is (more_so all os w o.cause a are.1) in
      let same : commands_noted (entries_in ((os ++ o ∷ []) ++ events)) ≡ commands_noted (entries_in (os ++ (o ∷ events))) =
      ap (λ l. commands_noted (entries_in l)) (append_assoc os (o ∷ []) events) in
      omega (arith, all_events events (all + commands_by o.cause) (os ++ o ∷ []) (world_step w o.cause).0 next are.2, same)

-- a world in which nothing has happened yet
new_so : (hosts : List ℕ) → AreHosts hosts → PaidSo hosts 0 [] (new_world hosts)
new_so hosts are =
    let header : Header = record { hci = true; hosts = record { items = hosts } } in
    let t : NodeHistory = record { header = header; steps = [] } in
    record {
      so = history_so header [] t (record { nodes = refl; header_is = refl; steps_are = refl; sure = tt }) are tt [] [] refl;
      waiting = λ b h. record { messages = []; goes = refl; waits = none_wait hosts b h };
      paid = omega (arith, new_hold hosts);
    }
  where
    new_hold : (hosts : List ℕ) → sites_hold (new_world hosts).sites ≡ 0
    new_hold [] = refl
    new_hold (h ∷ hosts) = let rest = new_hold hosts in omega (arith, rest)

pub bounded : (hosts : List ℕ) (causes : List Happening) → AreHosts hosts → length hosts ≤ 7 → AllCome (new_world hosts) causes
    → commands_noted (entries_in (all_happen (new_world hosts) causes).1) ≤ commands_by_all causes
bounded hosts causes are most may =
    let few = all_so hosts most causes 0 [] (new_world hosts) (new_so hosts are) may in omega (arith, few)

pub events_bounded : (hosts : List ℕ) (events : List Occurrence) → AreHosts hosts → length hosts ≤ 7 → AreCausedSo (new_world hosts) events
    → commands_noted (entries_in events) ≤ commands_by_events events
events_bounded hosts events are most caused =
    let few = all_events hosts most events 0 [] (new_world hosts) (new_so hosts are) caused in omega (arith, few)

-- behind these events
paid_behind : (hosts : List ℕ) (most : length hosts ≤ 7) (events : List Occurrence) (all : ℕ) (os : List Occurrence) (w : NodeWorld)
    → PaidSo hosts all os w → AreCausedSo w events → PaidSo hosts (all + commands_by_events events) (os ++ events) (world_behind w events)
paid_behind hosts most [] all os w a are = let h0 = append-nil os in grind arith
paid_behind hosts most (o ∷ events) all os w a are =
    let v : NodeWorld = (world_step w o.cause).0 in
    let next : PaidSo hosts (all + commands_by o.cause) (os ++ o ∷ []) v =
    subst (λ x. PaidSo hosts (all + commands_by o.cause) (os ++ x ∷ []) v) (grind arith) (more_so hosts most all os w o.cause a are.1) in
    let rest : PaidSo hosts ((all + commands_by o.cause) + commands_by_events events) ((os ++ o ∷ []) ++ events) (world_behind v events) =
    paid_behind hosts most events (all + commands_by o.cause) (os ++ o ∷ []) v next are.2 in
    let paid = rest.paid in
    subst (λ l. PaidSo hosts (all + commands_by_events (o ∷ events)) l (world_behind v events)) (append_assoc os (o ∷ []) events)
    (record { so = rest.so; waiting = rest.waiting; paid = omega (arith, paid) })

pub paid_so : (hosts : List ℕ) (events : List Occurrence) → AreHosts hosts → length hosts ≤ 7 → AreCausedSo (new_world hosts) events
    → PaidSo hosts (0 + commands_by_events events) events (world_behind (new_world hosts) events)
paid_so hosts events are most caused = paid_behind hosts most events 0 [] (new_world hosts) (new_so hosts are) caused

-- ## Over a history that follows a schedule, as many commands are noted as its lines ask for

-- ### What lines cause may come

line_may : (w : NodeWorld) (l : Line) → IsPlayable l → refusal_in w l ≡ None → AllMay MayBeCaused w (happenings w l)
line_may w (line.Send e pid message) p q = (p, tt)
line_may w (line.Deliver e count) p q = repeated_may MayBeCaused (Takes e) (λ v. tt) (taken_of count (frames_at w e)) w
line_may w (line.Damage e places) p q = damaged_may MayBeCaused w e tt (λ why. tt) (first_verdict (frames_at w e) places.items)
line_may w (line.Tick times) p q = repeated_may MayBeCaused Ticks (λ v. tt) (unwrap_or times 1) w
line_may w (line.Reset e window) p q = (p, tt)
line_may w (line.Busy e) p q = tt
line_may w (line.Ready e) p q = tt
line_may w (line.Boot n) p q = (stands_none (node_at w n) q, tt)
line_may w (line.Activate host sync power) p q = (grind arith, tt)
line_may w (line.Tables n) p q = tt
line_may w (line.Settle n) p q = tt
line_may w _ p q = (tt, tt)

front_caused : (front back : List Occurrence) (w : NodeWorld) → AreCausedSo w (front ++ back) → AreCausedSo w front
front_caused [] back w are = tt
front_caused (o ∷ front) back w are = (are.0, are.1, front_caused front back (world_step w o.cause).0 are.2)

-- ### How many commands come of lines

pub asking-append : (xs ys : List Line) → lines_asking (xs ++ ys) ≡ lines_asking xs + lines_asking ys
asking-append [] ys = omega arith
asking-append (l ∷ xs) ys = let rest = asking-append xs ys in omega (arith, rest)

-- no more lines ask for something than there are
pub asking_few : (lines : List Line) → lines_asking lines ≤ length lines
asking_few [] = omega arith
asking_few (l ∷ lines) = let one = once l in let rest = asking_few lines in omega (arith, one, rest) where
  once : (l : Line) → asking l ≤ 1
  once l = grind arith

none_by : (n : ℕ) (c : Happening) → commands_by c ≡ 0 → commands_by_all (replicate n c) ≡ 0
none_by zero c none = refl
none_by (suc n) c none = let rest = none_by n c none in omega (arith, none, rest)

damaged_by : (e : End) (o : Option Verdict) → commands_by_all (happens_by e o) ≡ 0
damaged_by e o = grind arith

line_most : (header : Header) (w : NodeWorld) (l : Line) → IsNodeLineOf header l → commands_by_all (happenings w l) ≤ 234 * asking l
line_most header w (line.Deliver e count) is = let none = none_by (taken_of count (frames_at w e)) (Takes e) refl in omega (arith, none)
line_most header w (line.Damage e places) is = let none = damaged_by e (first_verdict (frames_at w e) places.items) in omega (arith, none)
line_most header w (line.Tick times) is = let none = none_by (unwrap_or times 1) Ticks refl in omega (arith, none)
line_most header w (line.Init e identity pipes) is = let few = is.few in omega (arith, few)
line_most header w _ is = omega arith

by-append : (xs ys : List Occurrence) → commands_by_events (xs ++ ys) ≡ commands_by_events xs + commands_by_events ys
by-append [] ys = omega arith
by-append (o ∷ xs) ys = let rest = by-append xs ys in omega (arith, rest)

-- what happens comes of no more than was to happen
happened_most : (causes : List Happening) (w : NodeWorld) → commands_by_events (all_happen w causes).1 ≤ commands_by_all causes
happened_most [] w = omega arith
happened_most (c ∷ causes) w = by_test (can_happen w c) (λ q. rw q (omega (arith, happened_most causes (world_step w c).0))) (λ q. rw q (omega arith))

told_none : (n : ℕ) (o : Option Running) → commands_by_events (occurrences_of (tables_told n o)) ≡ 0
told_none n o = grind arith

goes_most : (w : NodeWorld) (l : Line) → commands_by_events (occurrences_of (goes_on w l).1) ≤ commands_by_all (happenings w l)
goes_most w (line.Tables n) = let none = told_none n (node_at w n) in omega (arith, none)
goes_most w (line.Send e pid message) = happened_most (happenings w (line.Send e pid message)) w
goes_most w (line.Deliver e count) = happened_most (happenings w (line.Deliver e count)) w
goes_most w (line.Lose e) = happened_most (happenings w (line.Lose e)) w
goes_most w (line.Damage e places) = happened_most (happenings w (line.Damage e places)) w
goes_most w (line.Tick times) = happened_most (happenings w (line.Tick times)) w
goes_most w (line.Reset e window) = happened_most (happenings w (line.Reset e window)) w
goes_most w (line.Boot n) = happened_most (happenings w (line.Boot n)) w
goes_most w (line.Cut n) = happened_most (happenings w (line.Cut n)) w
goes_most w (line.Activate host sync power) = happened_most (happenings w (line.Activate host sync power)) w
goes_most w (line.Arm n nth fill) = happened_most (happenings w (line.Arm n nth fill)) w
goes_most w (line.Init e identity pipes) = happened_most (happenings w (line.Init e identity pipes)) w
goes_most w _ = happened_most [] w

step_most : (header : Header) (w : NodeWorld) (l : Line) → IsNodeLineOf header l → commands_by_events (occurrences_of (line_step w l).1) ≤ 234 * asking l
step_most header w l is = by_option (refusal_in w l)
    (λ q. rw q (let one = goes_most w l in let most = line_most header w l is in omega (arith, one, most)))
    (λ why q. rw q (omega arith))

steps_most : (header : Header) (lines : List Line) (w : NodeWorld) → AreNodeLinesOf header lines
    → commands_by_events (events_of_steps (steps_from w lines)) ≤ 234 * lines_asking lines
steps_most header [] w are = omega arith
steps_most header (l ∷ lines) w are =
    let v : NodeWorld = (line_step w l).0 in
    let rest = steps_most header lines v are.1 in
    omega (arith, by-append (occurrences_of (line_step w l).1) (events_of_steps (steps_from v lines)), step_most header w l are.0, rest)

-- ### Histories

-- the first events of a history, each caused in the world behind those before it
pub front_so : (header : Header) (lines : List Line) (t : NodeHistory) → FollowsNodes header lines t → ArePlayable lines → (front back : List Occurrence)
    → occurrences_in t ≡ front ++ back → AreCausedSo (new_world header.hosts.items) front
front_so header lines t follows play front back parts =
    let first : NodeWorld = new_world header.hosts.items in
    let events : List Occurrence = events_of_steps (steps_from first lines) in
    let all : AreCausedSo first events = let h0 = (lines_caused MayBeCaused IsPlayable line_may lines first play) in grind arith in
    front_caused front back first (subst (AreCausedSo first) (ap events_of_steps (sym follows.steps_are) ∙ parts) all)

-- few commands come of them
pub front_asked : (header : Header) (lines : List Line) (t : NodeHistory) → FollowsNodes header lines t → AreNodeLinesOf header lines
    → (front back : List Occurrence) → occurrences_in t ≡ front ++ back → commands_by_events front ≤ 234 * lines_asking lines
front_asked header lines t follows are front back parts =
    let first : NodeWorld = new_world header.hosts.items in
    omega (arith, steps_most header lines first are, by-append front back, ap commands_by_events (ap events_of_steps (sym follows.steps_are) ∙ parts))

-- and few are noted
pub lines_bounded : (header : Header) (lines : List Line) (t : NodeHistory) → FollowsNodes header lines t → IsNodeHeader header
    → AreNodeLinesOf header lines → (front back : List Occurrence) → occurrences_in t ≡ front ++ back
    → commands_noted (entries_in front) ≤ 234 * lines_asking lines
lines_bounded header lines t follows nodes are front back parts =
    let caused = front_so header lines t follows (playable header lines are) front back parts in
    let few = events_bounded header.hosts.items front (hosts_are header nodes) (hosts_few header nodes) caused in
    omega (arith, few, front_asked header lines t follows are front back parts)
