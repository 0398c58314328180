-- How a link stands, and whether nothing has withheld the answer to a reset of it, as it is read off entries.
use Rattle.node_laws.proofs.Words.{Acked, Act, Activates, Active, AllByRecursion, Arms, Begins, Bool, Boots, Clt, Comes, Control, Controller, Counts, Cut}
use Rattle.node_laws.proofs.Words.{CutOff, Down, Emit, End, Entry, GaveUp, Gets, Gives, Got, Happening, Host, I, Inits, IsCut, IsEvent, IsFreeOfLinkFrames}
use Rattle.node_laws.proofs.Words.{IsRunOf, Link, LinkEnd, LinkEvent, LinkInput, List, Loses, Loss, Lost, LpduRow, NodeWorld, None, Noted, Option, Puts, Resets}
use Rattle.node_laws.proofs.Words.{Restarted, Rset, S, Saying, Sent, Some, Standing, StandsOf, Starts, Stops, Takes, TellOf, Ticks, Took, Turn, Ua, []}
use Rattle.node_laws.proofs.Words.{after_input, after_link_events, and-false, and_parts, ap, append-nil, append_assoc, arith, behind_reset_of, by_loss, by_test}
use Rattle.node_laws.proofs.Words.{cond, cuts_on, drop, drops_on, end_of, ended_by, entries, entries_for, event_entries, false, find, first_lost, fold-append}
use Rattle.node_laws.proofs.Words.{frames_on, happens, if◌then◌else◌, input_entries, is_act, is_act_lpdu, is_lost_by_line, is_of, is_reset_down, is_some}
use Rattle.node_laws.proofs.Words.{is_within, kind_number, law_noted, length, length-append, length-replicate, link_to, list_any, list_any-append, lost_as}
use Rattle.node_laws.proofs.Words.{lpdu_of, new_line, new_standing, not, number_of, of_link, or-true, or_none, read_by, refl, replicate, rest_entries, said}
use Rattle.node_laws.proofs.Words.{said_far, said_near, sans, slice_index, standing, standing_by_law, stands_noted, stands_said, stands_told, subst, suc, sym}
use Rattle.node_laws.proofs.Words.{table, tells_of, told_of, true, true≢false, turn_entries, with_empty_wires, with_ended, withholds, withholds_in, world_step}
use Rattle.node_laws.proofs.Words.{ℕ, ◌&&◌, ◌*◌, ◌++◌, ◌+◌, ◌<◌, ◌==◌, ◌||◌, ◌∙◌, ◌∷◌, ◌≡◌, ◌≤◌, ◌⊎◌}
use Rattle.history.proofs.legal.Settled.{link_same}
use Rattle.history.specs.Filters.Saying.{Ends, Loses as SayingLoses, Sends, Takes as SayingTakes}
use Rattle.history.specs.Legal.{resets_on}
use Rattle.link_laws.proofs.entries.Settling.{Spared, Stands, none_withheld, spoils}
use Rattle.link_laws.specs.entries.Entries.{End as Side}
use Rattle.link_laws.specs.entries.Entries.Entry.{Tick, Up}
use Rattle.link_laws.specs.entries.Settled.{IsReset, rest_of}
use Rattle.link_laws.specs.places.Wire.{OnWire}
use Rattle.node_laws.specs.order.Resets.{is_act_read, loses_at, loses_one_in, spoils_in}
use Rattle.node_laws.specs.telling.Standing.{with_inactive_ends}
use Rattle.node_laws.proofs.links.Sites.{run_of_more}
use Rattle.node_laws.proofs.telling.Accounts.{untold}
use Rattle.node_laws.proofs.telling.Events.{after-append, entries-append}
use Rattle.node_laws.proofs.worlds.Lineless.{AreLineless, event_lineless}
use Rattle.trace_model.specs.declared.entry.Entry.TheVariants as entry

-- ## What withholds the answer to a reset in an event of a world, as it is read off the entries alone

-- a frame of a link is lost, but of activation
abbrev pub loses_one_on : ℕ → Entry → Bool
loses_one_on h e = drops_on h (said e)

-- so it is, or RSET is put on the link
abbrev pub spoils_on : ℕ → Entry → Bool
spoils_on h e = loses_one_on h e || resets_on h (said e)

-- what withholds the answer to a reset of it
abbrev pub withholds_on : ℕ → Entry → Bool
withholds_on h e = cuts_on h e || spoils_on h e

-- ### Frames that a line loses

-- an entry is believed: it tells of no frame of the link that a line loses, but where one does
abbrev pub IsBelieved : ℕ → Happening → Entry → Type 0
IsBelieved h c x = (loses_one_on h x && not (loses_at h c || not (is_lost_by_line x))) ≡ false

abbrev pub AreBelieved : ℕ → Happening → List Entry → Type 0
AreBelieved h c es = AllByRecursion (IsBelieved h c) es

lineless_believed : (h : ℕ) (c : Happening) (es : List Entry) → AreLineless es → AreBelieved h c es
lineless_believed h c [] a = tt
lineless_believed h c (x ∷ es) a = (
  ap (λ b. loses_one_on h x && not (loses_at h c || not b)) a.0 ∙ (grind arith),
  lineless_believed h c es a.1,
)

-- a line loses a frame of one link
lost_believed : (h k : ℕ) (who : Side) (why : Loss) (e : End) (loss : Loss) (w : List OnWire) → e.link ≡ k
    → AreBelieved h (Loses e loss) (entries_for k (first_lost who why w))
lost_believed h k who why e loss [] same = tt
lost_believed h k who why e loss (x ∷ w) same = (by (e.link == h) refl, tt) where
  lost : Entry
  lost = entry.Lost (end_of k who) (lpdu_of x.frame) (lost_as why)

  kept : Bool
  kept = not (is_act_lpdu (lpdu_of x.frame))

  link : (end_of k who).link ≡ k
  link = grind arith

  by : (b : Bool) → (e.link == h) ≡ b → IsBelieved h (Loses e loss) lost
  by true q = ap (λ b. loses_one_on h lost && not (b || not (is_lost_by_line lost))) q ∙ and-false (loses_one_on h lost)
  by false q = grind arith

-- So it is with each entry of an event.
pub event_believed : (h : ℕ) (w : NodeWorld) (c : Happening) → AreBelieved h c (world_step w c).1
event_believed h w (Loses e why) =
    by_loss (λ p. AreBelieved h (Loses e why) p.1) w e why (λ z. lost_believed h e.link Host why e why (link_to w.sites e.link).to_host refl)
    (λ z. lost_believed h e.link Controller why e why (link_to w.sites e.link).to_controller refl)
event_believed h w (Boots n) = lineless_believed h (Boots n) (world_step w (Boots n)).1 (event_lineless w (Boots n) tt)
event_believed h w (IsCut n) = lineless_believed h (IsCut n) (world_step w (IsCut n)).1 (event_lineless w (IsCut n) tt)
event_believed h w (Gives e m) = lineless_believed h (Gives e m) (world_step w (Gives e m)).1 (event_lineless w (Gives e m) tt)
event_believed h w (Inits e identity pipes) =
    lineless_believed h (Inits e identity pipes) (world_step w (Inits e identity pipes)).1 (event_lineless w (Inits e identity pipes) tt)
event_believed h w (Takes e) = lineless_believed h (Takes e) (world_step w (Takes e)).1 (event_lineless w (Takes e) tt)
event_believed h w Ticks = lineless_believed h Ticks (world_step w Ticks).1 (event_lineless w Ticks tt)
event_believed h w (Resets e window) = lineless_believed h (Resets e window) (world_step w (Resets e window)).1 (event_lineless w (Resets e window) tt)
event_believed h w (Activates k sync power) =
    lineless_believed h (Activates k sync power) (world_step w (Activates k sync power)).1 (event_lineless w (Activates k sync power) tt)
event_believed h w (Arms n plan) = lineless_believed h (Arms n plan) (world_step w (Arms n plan)).1 (event_lineless w (Arms n plan) tt)

-- ### What is read by events and by entries

one_lost : (a b : Bool) → (a && not b) ≡ false → (a && b) ≡ false → a ≡ false
one_lost a b p q = grind arith

none_lost : (h : ℕ) (c : Happening) (es : List Entry) → AreBelieved h c es → list_any (loses_one_in h c) es ≡ false → list_any (loses_one_on h) es ≡ false
none_lost h c [] a q = refl
none_lost h c (x ∷ es) a q =
    let both = or_none (loses_one_in h c x) (list_any (loses_one_in h c) es) q in
    ap (λ b. b || list_any (loses_one_on h) es) (one_lost (loses_one_on h x) (loses_at h c || not (is_lost_by_line x)) a.0 both.0)
    ∙ none_lost h c es a.1 both.1

pub none_withheld_on : (h : ℕ) (c : Happening) (es : List Entry) → AreBelieved h c es → list_any (withholds_in h c) es ≡ false
    → list_any (withholds_on h) es ≡ false
none_withheld_on h c [] a q = refl
none_withheld_on h c (x ∷ es) a q =
    let both = or_none (withholds_in h c x) (list_any (withholds_in h c) es) q in
    let cut = or_none (cuts_on h x) (spoils_in h c x) both.0 in
    let spoilt = or_none (loses_one_in h c x) (resets_on h (said x)) cut.1 in
    let lost : loses_one_on h x ≡ false = one_lost (loses_one_on h x) (loses_at h c || not (is_lost_by_line x)) a.0 spoilt.0 in
    ap (λ b. (b || spoils_on h x) || list_any (withholds_on h) es) cut.0
    ∙ (ap (λ b. (b || resets_on h (said x)) || list_any (withholds_on h) es) lost
    ∙ (ap (λ b. b || list_any (withholds_on h) es) spoilt.1 ∙ none_withheld_on h c es a.1 both.1))

-- behind a reset in a tick
believed_behind : (h : ℕ) (c : Happening) (e : End) (es : List Entry) → AreBelieved h c es → AreBelieved h c (behind_reset_of e es)
believed_behind h c e [] a = tt
believed_behind h c e (x ∷ es) a = by_test (is_reset_down e x) (λ q. rw q a.1) (λ q. rw q (believed_behind h c e es a.1))

pub none_lost_behind : (h : ℕ) (c : Happening) (e : End) (es : List Entry) → AreBelieved h c es
    → list_any (loses_one_in h c) (behind_reset_of e es) ≡ false → list_any (loses_one_on h) (behind_reset_of e es) ≡ false
none_lost_behind h c e es a q = none_lost h c (behind_reset_of e es) (believed_behind h c e es a) q

-- ## Frames of activation are read off the bytes of frames

-- ### Bytes

-- a row says no frame of activation, or isn't that of this first byte
abbrev IsFree : ℕ → LpduRow → Type 0
IsFree byte r = (is_within r.first r.last byte ≡ false) ⊎ ((bytes : List ℕ) → is_act (r.says bytes) ≡ false)

-- the row of a first byte
row_free : (byte : ℕ) (rows : List LpduRow) → AllByRecursion (IsFree byte) rows → (bytes : List ℕ)
    → is_act_read (read_by (find (λ (r : LpduRow). is_within r.first r.last byte) rows) bytes) ≡ false
row_free byte [] a bytes = refl
row_free byte (r ∷ rows) a bytes = by_test (is_within r.first r.last byte)
    (λ q. rw q (grind arith))
    (λ q. rw q (row_free byte rows a.1 bytes))

-- frames of SHDLC have greater first bytes than those of activation
high_free : (n : ℕ) → 0x80 ≤ n → (bytes : List ℕ) → slice_index bytes 0 ≡ n → is_act_lpdu bytes ≡ false
high_free n high bytes first =
    ap (λ k. is_act_read (read_by (find (λ (r : LpduRow). is_within r.first r.last k) table) bytes)) first ∙ row_free n table rows bytes
  where
    apart : (k : ℕ) → k < 0x80 → is_within k k n ≡ false
    apart k less = grind arith

    acts : AllByRecursion (IsFree n) (drop 7 table)
    acts = grind arith

    rows : AllByRecursion (IsFree n) table
    rows = grind arith

-- what is read as a frame of activation is one
act_read : (c : Control) → is_act c ≡ false → is_act_lpdu (lpdu_of c) ≡ false
act_read (I ns nr info) other = high_free (0x80 + 8 * ns + nr) (omega arith) (lpdu_of (I ns nr info)) refl
act_read (S kind nr) other = high_free (0xC0 + 8 * kind_number kind + nr) (omega arith) (lpdu_of (S kind nr)) refl
act_read (Act act again) other = absurd (true≢false other)
act_read _ other = refl

kept_act_lpdu : (c : Control) → not (is_act_lpdu (lpdu_of c)) ≡ false → not (is_act c) ≡ false
kept_act_lpdu c q = by_test (is_act c) (λ z. rw z refl) (λ z. rw z (absurd (true≢false (sym (ap not (act_read c z)) ∙ q))))

-- ### What is lost

-- where no frame is told as lost but of activation
pub kept_act : (h : ℕ) (w : Side) (c : Control) (why : Loss) → loses_one_on h (entry.Lost (end_of h w) (lpdu_of c) (lost_as why)) ≡ false
    → not (is_act c) ≡ false
kept_act h w c why q = kept_act_lpdu c (sym (ap (λ b. b && not (is_act_lpdu (lpdu_of c))) (link_same h w)) ∙ q)

-- ### Wires

pub sans_none : (w : List OnWire) → IsFreeOfLinkFrames (frames_on w) → sans w ≡ []
sans_none [] q = refl
sans_none (x ∷ w) q =
    let both = or_none (not (is_act_lpdu (lpdu_of x.frame))) (list_any (λ lpdu. not (is_act_lpdu lpdu)) (frames_on w)) q in
    by_test (is_act x.frame) (λ z. rw z (sans_none w both.1)) (λ z. absurd (true≢false (sym (ap not z) ∙ kept_act_lpdu x.frame both.0)))

-- ## How a link stands, and whether nothing has withheld the answer to a reset of it

-- ### A link since a reset

-- how a link stands, whether it is known that nothing withheld the answer to a reset, and whether its ends are as they are read, as they
-- aren't between the two steps by which activation begins
pub record WatchedLink : Type 0 where
  pub stands : Standing
  pub since : Bool
  pub whole : Bool

-- behind more entries
abbrev pub watched : ℕ → WatchedLink → List Entry → WatchedLink
watched h x u = record { stands = standing h x.stands u; since = x.since && not (list_any (withholds_on h) u); whole = x.whole }

-- Events of a new link in which a reset found the other end ready, and nothing that was noted behind it withheld the answer, have made
-- this link.
pub record IsSince (l : Link) : Type 0 where
  pub before : List LinkEvent
  pub reset : LinkEvent
  pub behind : List LinkEvent
  pub run : IsRunOf (before ++ reset ∷ behind) l
  pub asked : IsReset (after_link_events new_line before) reset
  pub undisturbed : list_any withholds (rest_of (after_link_events new_line before) reset ++ entries (happens (after_link_events new_line before) reset) behind)
      ≡ false

-- one event more
since_more : (l : Link) (e : LinkEvent) → IsEvent l e → list_any withholds (event_entries l e) ≡ false → IsSince l → IsSince (happens l e)
since_more l e can none a =
    let first : Link = after_link_events new_line a.before in
    let m : Link = happens first a.reset in
    let es : List LinkEvent = a.before ++ a.reset ∷ a.behind in
    let rest : List Noted = rest_of first a.reset in
    let is : after_link_events m a.behind ≡ l = sym (after-append a.before (a.reset ∷ a.behind) new_line) ∙ a.run.is in
    let last : entries (after_link_events m a.behind) (e ∷ []) ≡ event_entries l e =
    append-nil (event_entries (after_link_events m a.behind) e) ∙ ap (λ k. event_entries k e) is in
    let all : rest ++ entries m (a.behind ++ e ∷ []) ≡ (rest ++ entries m a.behind) ++ event_entries l e =
    ap (λ z. rest ++ z) (entries-append a.behind (e ∷ []) m ∙ ap (λ z. entries m a.behind ++ z) last)
    ∙ sym (append_assoc rest (entries m a.behind) (event_entries l e)) in
    record {
      before = a.before;
      reset = a.reset;
      behind = a.behind ++ e ∷ [];
      run = subst (λ (z : List LinkEvent). IsRunOf z (happens l e)) (append_assoc a.before (a.reset ∷ a.behind) (e ∷ [])) (run_of_more es l e can a.run);
      asked = a.asked;
      undisturbed = ap (list_any withholds) all
          ∙ (list_any-append withholds (rest ++ entries m a.behind) (event_entries l e)
          ∙ (ap (λ b. b || list_any withholds (event_entries l e)) a.undisturbed ∙ none));
    }

-- ### What is told of power

-- the frames on the wire to a host are at most one more, or one less
record IsOneOff (x y : Standing) : Type 0 where
  less : length x.to_host ≤ suc (length y.to_host)
  more : length y.to_host ≤ suc (length x.to_host)

near_same : (x y : Standing) → y.to_host ≡ x.to_host → IsOneOff x y
near_same x y q = grind arith

near_put : (x y : Standing) (f : List ℕ) → y.to_host ≡ x.to_host ++ f ∷ [] → IsOneOff x y
near_put x y f q =
    let n : length y.to_host ≡ length x.to_host + 1 = ap (λ (w : List (List ℕ)). length w) q ∙ length-append x.to_host (f ∷ []) in
    record { less = omega (arith, n); more = omega (arith, n) }

near_said : (s : Saying) (x : Standing) → IsOneOff x (said_near s x)
near_said (Begins n) x = near_same x (said_near (Begins n) x) refl
near_said Ends x = near_same x (said_near Ends x) refl
near_said (Puts f) x = near_put x (said_near (Puts f) x) f refl
near_said (SayingTakes f) x = near_same x (said_near (SayingTakes f) x) refl
near_said (SayingLoses f) x = near_same x (said_near (SayingLoses f) x) refl
near_said _ x = near_same x x refl

abbrev pub is_cut : Noted → Bool
is_cut (Cut who) = true
is_cut _ = false

module _ (h : ℕ) where
  one_off : (x : Standing) (o : Option (End × Saying)) → IsOneOff x (stands_said h x o)
  one_off x None = near_same x x refl
  one_off x (Some (e, s)) = go (e.link == h) e.at_host
    where
      go : (b c : Bool) → IsOneOff x (cond b (cond c (said_far s x) (said_near s x)) x)
      go true true = grind arith
      go true false = near_said s x
      go false c = near_same x x refl

  told_one : (x : Standing) (e : Entry) → IsOneOff x (stands_told h x e)
  told_one x (entry.Active e) = grind arith
  told_one x (entry.GaveUp e tries) = grind arith
  told_one x e = one_off x (said e)

  -- entries that cut no power of its nodes take at most one frame each
  uncut_one : (x : Standing) (e : Entry) → cuts_on h e ≡ false → length x.to_host ≤ suc (length (stands_noted h x e).to_host)
  uncut_one x (entry.Cut n) q = grind arith
  uncut_one x e q = (told_one x e).less

  uncut_all : (u : List Entry) (x : Standing) → list_any (cuts_on h) u ≡ false → length x.to_host ≤ length (standing h x u).to_host + length u
  uncut_all [] x q = omega arith
  uncut_all (e ∷ u) x q =
      let a = or_none (cuts_on h e) (list_any (cuts_on h) u) q in
      omega (arith, uncut_one x e a.0, uncut_all u (stands_noted h x e) a.1)

  -- each thing that is noted puts at most one, and a cut leaves none
  law_one : (x : Standing) (n : Noted) → length (law_noted h x n).to_host ≤ suc (length x.to_host)
  law_one x (Up w k) = (one_off x (Some (end_of h w, Begins k))).more
  law_one x (Down w cause) = (one_off x (Some (end_of h w, Ends))).more
  law_one x (Active w) = (told_one x (entry.Active (end_of h w))).more
  law_one x (GaveUp w tries) = (told_one x (entry.GaveUp (end_of h w) tries)).more
  law_one x (Acked w k count) = (one_off x (Some (end_of h w, Counts k count))).more
  law_one x (Got w k m) = (one_off x (Some (end_of h w, Gets k m))).more
  law_one x (Sent w k m) = (one_off x (Some (end_of h w, Sends k m))).more
  law_one x (Emit w c) = (one_off x (Some (end_of h w, Puts (lpdu_of c)))).more
  law_one x (Took w c) = (one_off x (Some (end_of h w, SayingTakes (lpdu_of c)))).more
  law_one x (Lost w c why) = (one_off x (Some (end_of h w, SayingLoses (lpdu_of c)))).more
  law_one x Tick = omega arith
  law_one x (Restarted w) = omega arith
  law_one x (Cut Controller) = omega arith
  law_one x (Cut Host) = omega arith

  law_all : (notes : List Noted) (x : Standing) → length (standing_by_law h x notes).to_host ≤ length x.to_host + length notes
  law_all [] x = omega arith
  law_all (n ∷ notes) x = omega (arith, law_one x n, law_all notes (law_noted h x n))

  cut_all : (notes : List Noted) (x : Standing) → list_any is_cut notes ≡ true → length (standing_by_law h x notes).to_host ≤ length notes
  cut_all [] x q = absurd (true≢false (sym q))
  cut_all (Cut Controller ∷ notes) x q = let more = law_all notes (law_noted h x (Cut Controller)) in omega (arith, more)
  cut_all (Cut Host ∷ notes) x q = let more = law_all notes (law_noted h x (Cut Host)) in omega (arith, more)
  cut_all (n ∷ notes) x q = let more = cut_all notes (law_noted h x n) q in omega (arith, more)

  -- where entries tell of no power that is cut, the law of the link notes none
  pub no_cut : (u : List Entry) (notes : List Noted) → list_any (cuts_on h) u ≡ false → ((x : Standing) → standing h x u ≡ standing_by_law h x notes)
      → list_any is_cut notes ≡ false
  no_cut u notes q stands = by_test (list_any is_cut notes)
      (λ e. let long : length x.to_host ≡ suc (length u + length notes) = length-replicate (suc (length u + length notes)) [] in
      absurd (omega (arith, long, uncut_all u x q, cut_all notes x e, (ap (λ (z : Standing). length z.to_host) (stands x)))))
      (λ e. e)
    where
      x : Standing
      x = record new_standing { to_host = replicate (suc (length u + length notes)) [] }

-- ### What is told of frames

module _ (h : ℕ) where
  pub spoils_none : (o : Option (End × Saying)) → is_of h o ≡ false → (drops_on h o || resets_on h o) ≡ false
  spoils_none o q = grind arith

  -- only what says something of the link spoils
  spoils_of : (t : List Entry) → list_any (spoils_on h) t ≡ list_any (spoils_on h) (of_link h t)
  spoils_of [] = refl
  spoils_of (e ∷ t) = by_test (tells_of h e)
      (λ q. rw q (ap (λ b. spoils_on h e || b) (spoils_of t)))
      (λ q. rw q (ap (λ b. b || list_any (spoils_on h) t) (spoils_none (said e) (untold h e q)) ∙ spoils_of t))

  -- where no frame was lost and no RSET put on the link, as entries tell it, the law of the link notes none
  spared_of : (t : List Noted) → list_any (spoils_on h) (entries_for h t) ≡ false → Spared t
  spared_of [] q = refl
  spared_of (Emit w (I ns nr info) ∷ t) q = spared_of t (or_none _ _ q).1
  spared_of (Emit w (S kind nr) ∷ t) q = spared_of t (or_none _ _ q).1
  spared_of (Emit w (Rset window caps) ∷ t) q = grind arith
  spared_of (Emit w Ua ∷ t) q = spared_of t (or_none _ _ q).1
  spared_of (Emit w (Act act again) ∷ t) q = spared_of t (or_none _ _ q).1
  spared_of (Emit w Clt ∷ t) q = spared_of t (or_none _ _ q).1
  spared_of (Lost w c why ∷ t) q =
      let one = or_none (loses_one_on h (entry.Lost (end_of h w) (lpdu_of c) (lost_as why)) || false) (list_any (spoils_on h) (entries_for h t)) q in
      let mine = (or_none (loses_one_on h (entry.Lost (end_of h w) (lpdu_of c) (lost_as why))) false one.0).0 in
      ap (λ b. b || list_any spoils t) (kept_act h w c why mine) ∙ spared_of t one.1
  spared_of (_ ∷ t) q = spared_of t q

  withheld_parts : (u : List Entry) → list_any (withholds_on h) u ≡ false → (list_any (cuts_on h) u ≡ false) × (list_any (spoils_on h) u ≡ false)
  withheld_parts [] q = (refl, refl)
  withheld_parts (e ∷ u) q =
      let a = or_none (withholds_on h e) (list_any (withholds_on h) u) q in
      let b = or_none (cuts_on h e) (spoils_on h e) a.0 in
      let more = withheld_parts u a.1 in
      (ap (λ z. z || list_any (cuts_on h) u) b.0 ∙ more.0, ap (λ z. z || list_any (spoils_on h) u) b.1 ∙ more.1)

-- ### Notes in which no activation begins

abbrev pub IsUnstarted : Noted → Type 0
IsUnstarted (Restarted who) = ⊥
IsUnstarted _ = Unit {0}

abbrev pub AreUnstarted : List Noted → Type 0
AreUnstarted notes = AllByRecursion IsUnstarted notes

stands_of : (h : ℕ) (t : List Noted) → AreUnstarted t → list_any is_cut t ≡ false → Stands t
stands_of h [] a q = refl
stands_of h (Restarted who ∷ t) a q = absurd a.0
stands_of h (Cut who ∷ t) a q = absurd (true≢false q)
stands_of h (_ ∷ t) a q = stands_of h t a.1 q

-- ### One event

kept_both : (a b : Bool) → (a && not b) ≡ true → (a ≡ true) × (b ≡ false)
kept_both a b q = grind arith

-- an event that may happen, and entries that tell of it
pub record IsStepOf (h : ℕ) (l : Link) (e : LinkEvent) (u : List Entry) : Type 0 where
  pub can : IsEvent l e
  pub tells : TellOf h l e u
  pub stands : StandsOf h l e u

pub since_step : (h : ℕ) (l : Link) (e : LinkEvent) (u : List Entry) → IsStepOf h l e u → AreUnstarted (event_entries l e) → (x : WatchedLink)
    → (x.since ≡ true → IsSince l) → (watched h x u).since ≡ true → IsSince (happens l e)
since_step h l e u n plain x since q =
    let notes : List Noted = event_entries l e in
    let a = kept_both x.since (list_any (withholds_on h) u) q in
    let b = withheld_parts h u a.1 in
    let spared : list_any (spoils_on h) (entries_for h notes) ≡ false =
    spoils_of h (entries_for h notes) ∙ (ap (list_any (spoils_on h)) (sym n.tells) ∙ (sym (spoils_of h u) ∙ b.1)) in
    since_more l e n.can
    (none_withheld notes (spared_of h notes spared) (stands_of h notes plain (no_cut h u notes b.0 n.stands))) (since a.0)

-- activation that begins or ends empties the wires, and may withhold an answer
abbrev pub unwatched : WatchedLink → WatchedLink
unwatched x = record { stands = with_empty_wires x.stands; since = false; whole = false }

abbrev pub opened : Comes → WatchedLink → WatchedLink
opened (Starts value) x = unwatched x
opened Stops x = unwatched x
opened _ x = x

-- as an event begins
abbrev pub watch_begins : ℕ → Happening → WatchedLink → WatchedLink
watch_begins h (Activates k sync power) x = if h == k then unwatched x else x
watch_begins h _ x = x

-- as it ends
abbrev pub rewatched : WatchedLink → WatchedLink
rewatched x = record { stands = with_inactive_ends x.stands; since = x.since; whole = true }

abbrev pub watch_ends : ℕ → Happening → WatchedLink → WatchedLink
watch_ends h (Activates k sync power) x = if h == k then rewatched x else x
watch_ends h _ x = x

pub kept_left : (a b : Bool) → (a && b) ≡ true → a ≡ true
kept_left a b q = (and_parts a b q).0

pub watched-append : (h : ℕ) (x : WatchedLink) (u v : List Entry) → watched h (watched h x u) v ≡ watched h x (u ++ v)
watched-append h x u v =
    let stands : standing h (standing h x.stands u) v ≡ standing h x.stands (u ++ v) = sym (fold-append (stands_noted h) x.stands u v) in
    let since : ((x.since && not (list_any (withholds_on h) u)) && not (list_any (withholds_on h) v)) ≡ (x.since && not (list_any (withholds_on h) (u ++ v))) =
    (grind arith)
    ∙ ap (λ b. x.since && not b) (sym (list_any-append (withholds_on h) u v)) in
    ap (λ z. record { stands = z; since = (watched h (watched h x u) v).since; whole = x.whole }) stands
    ∙ ap (λ b. record { stands = standing h x.stands (u ++ v); since = b; whole = x.whole }) since

-- nothing was noted yet, and nothing withheld an answer
abbrev pub untouched : WatchedLink
untouched = record { stands = new_standing; since = true; whole = true }

-- ### A link with a reset

pub since_reset : (l : Link) (e : LinkEvent) (events : List LinkEvent) → IsRunOf events l → IsEvent l e → IsReset l e
    → list_any withholds (rest_of l e) ≡ false → IsSince (happens l e)
since_reset l e events run can ready alone =
    record {
      before = events;
      reset = e;
      behind = [];
      run = run_of_more events l e can run;
      asked = subst (λ (k : Link). IsReset k e) (sym run.is) ready;
      undisturbed = ap (λ k. list_any withholds (rest_of k e ++ [])) run.is ∙ (ap (list_any withholds) (append-nil (rest_of l e)) ∙ alone);
    }

cut_behind : (xs ys : List Noted) → list_any is_cut ys ≡ true → list_any is_cut (xs ++ ys) ≡ true
cut_behind xs ys q = list_any-append is_cut xs ys ∙ (ap (λ b. list_any is_cut xs || b) q ∙ or-true (list_any is_cut xs))

-- where the power goes in a step, that is noted
rest_cut : (who : Side) (l : Link) (e : LinkEnd) (ts : List Turn) → list_any is_cut (rest_entries who l e ts CutOff) ≡ true
rest_cut who l e ts = cut_behind (turn_entries who (number_of l.controller) e ts) (Cut who ∷ []) refl

pub input_cut : (who : Side) (l : Link) (i : LinkInput) (ts : List Turn) → list_any is_cut (input_entries who l i ts CutOff) ≡ true
input_cut who l i ts =
    let m : Link = with_ended l (is_some (ended_by l.controller.side i)) in
    let e : LinkEnd = after_input l.controller.side i in
    cut_behind (told_of who l.controller i) (rest_entries who m e ts CutOff) (rest_cut who m e ts)
