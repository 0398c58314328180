-- How a link stands as it is read off a step of a node, also where the node loses its power.
use Rattle.node_laws.proofs.Words.{Acked, Active, AllByRecursion, AsksReset, AtEnd, Bool, Cause, Comes, Control, Core, Cut, CutOff, Deed, Desk, Down, Ending}
use Rattle.node_laws.proofs.Words.{Entry, GaveUp, GoesOut, Got, HasTick, Link, LinkEnd, LinkInput, List, Loss, Message, NextFrame, NoInput, Node, NodeInput}
use Rattle.node_laws.proofs.Words.{None, Noted, NumberedEnd, OnWire, Option, Port, Report, Reset, Restarted, Site, Some, Standing, Start, Starts, Stop, Stops}
use Rattle.node_laws.proofs.Words.{Take, TimePasses, Took, Turn, Work, Write, [], after_input, after_power, after_sessions, aged_entries, all_append, all_come}
use Rattle.node_laws.proofs.Words.{all_owed, ap, append-nil, append_assoc, arith, begins_with, by_option, by_test, cond, ended_by, ending_entries, ending_of}
use Rattle.node_laws.proofs.Words.{entries_for, entry_of, false, far, first_lost, flat_map, fold, fold-append, forgets, forgotten, frames_noted, frames_out}
use Rattle.node_laws.proofs.Words.{if_so, input_at, input_entries, input_of, is_late, is_some, law_noted, left_after, loses_power, map, nat_lt, noted_of}
use Rattle.node_laws.proofs.Words.{noting, number_of, of_link, option_map_or, option_to_list, own_side, port_at, pushed_out, put, puts_entries, refl, report}
use Rattle.node_laws.proofs.Words.{rest_entries, silent, standing, standing_by_law, stands_noted, stands_told, step_entries, steps, sym, synced, tells_of}
use Rattle.node_laws.proofs.Words.{tick_entries, times_out, told, told_at, told_late, told_of, took_with, true, turn, turn_at, turn_entries, turn_entry, turned}
use Rattle.node_laws.proofs.Words.{whole_acked, wire_with, with_desk, with_ended, with_older, without_notice, without_power, ℕ, ◌++◌, ◌∙◌, ◌∷◌, ◌≡◌}
use Rattle.link_laws.specs.entries.Entries.{End as Side}
use Rattle.link_laws.specs.entries.Entries.Entry.{Up}
use Rattle.node_laws.proofs.telling.Accounts.{AreMute, AreSilent, AreUncut, IsUncut, all_last, all_owed_mute, all_synced_mute, forgotten_mute, rest_lasts}
use Rattle.node_laws.proofs.telling.Steps.{IsStep}
use Rattle.trace_model.specs.declared.entry.Entry.TheVariants as entry

-- ## How a link stands as it is read off a step of a node: what its end has and both wires, also where the node loses its power

-- ### Entries that tell of no power

-- how a link stands behind entries, as far as they say something of it
abbrev pub standing_said : ℕ → Standing → List Entry → Standing
standing_said h x t = fold (stands_told h) x t

uncut_said : (h : ℕ) (t : List Entry) → AreUncut t → (x : Standing) → standing h x t ≡ standing_said h x t
uncut_said h [] u x = refl
uncut_said h (e ∷ t) u x = ap (λ y. standing h y t) (grind arith) ∙ uncut_said h t u.1 (stands_told h x e)

other_told : (h : ℕ) (x : Standing) (e : Entry) → tells_of h e ≡ false → stands_told h x e ≡ x
other_told h x e q = grind arith

said_of_link : (h : ℕ) (t : List Entry) (x : Standing) → standing_said h x t ≡ standing_said h x (of_link h t)
said_of_link h [] x = refl
said_of_link h (e ∷ t) x = by_test (tells_of h e)
    (λ q. rw q (said_of_link h t (stands_told h x e)))
    (λ q. rw q (ap (λ y. standing_said h y t) (other_told h x e q) ∙ said_of_link h t x))

-- ### What the law of one link notes

-- no power is cut, and no activation begins or ends
abbrev pub IsClear : Noted → Type 0
IsClear (Cut who) = ⊥
IsClear (Restarted who) = ⊥
IsClear _ = Unit {0}

abbrev pub AreClear : List Noted → Type 0
AreClear notes = AllByRecursion IsClear notes

clear_said : (h : ℕ) (notes : List Noted) → AreClear notes → (x : Standing) → standing_by_law h x notes ≡ standing_said h x (entries_for h notes)
clear_said h [] c x = refl
clear_said h (n ∷ notes) c x =
    ap (λ y. standing_by_law h y notes) (grind arith)
    ∙ (clear_said h notes c.1 (standing_said h x (entry_of h n))
    ∙ sym (fold-append (stands_told h) x (entry_of h n) (entries_for h notes)))

pub uncut_flat : {X : Type 0} (f : X → List Entry) → ((x : X) → AreUncut (f x)) → (xs : List X) → AreUncut (flat_map f xs)
uncut_flat f one [] = tt
uncut_flat f one (x ∷ xs) = all_append IsUncut (f x) (flat_map f xs) (one x) (uncut_flat f one xs)

entry_uncut : (h : ℕ) (n : Noted) → AreUncut (entry_of h n)
entry_uncut h n = grind arith

pub entries_uncut : (h : ℕ) (notes : List Noted) → AreUncut (entries_for h notes)
entries_uncut h notes = uncut_flat (entry_of h) (entry_uncut h) notes

-- where no power is cut, what is told of a link tells how it stands
pub clear_stands : (h : ℕ) (t : List Entry) (notes : List Noted) → AreUncut t → AreClear notes → of_link h t ≡ of_link h (entries_for h notes)
    → (x : Standing) → standing h x t ≡ standing_by_law h x notes
clear_stands h t notes u c told x =
    uncut_said h t u x
    ∙ (said_of_link h t x
    ∙ (ap (standing_said h x) told ∙ (sym (said_of_link h (entries_for h notes) x) ∙ sym (clear_said h notes c x))))

-- ### A step of a node

-- these entries tell nothing of how a link stands
abbrev IsNeutral : ℕ → List Entry → Type 0
IsNeutral h t = (x : Standing) → (standing h x t ≡ x) × (standing_said h x t ≡ x)

silent_said : (h : ℕ) (t : List Entry) → AreSilent t → (x : Standing) → standing_said h x t ≡ x
silent_said h [] s x = refl
silent_said h (e ∷ t) s x = ap (λ y. standing_said h y t) (other_told h x e (s.0 h)) ∙ silent_said h t s.1 x

silent_neutral : (h : ℕ) (t : List Entry) → AreSilent t → AreUncut t → IsNeutral h t
silent_neutral h t s u x = (uncut_said h t u x ∙ silent_said h t s x, silent_said h t s x)

at_neutral : (h : ℕ) (core : Core) (t : Turn) (o : Option Port) → IsNeutral h (option_map_or (noted_of core t) o [])
at_neutral h core t o x = grind arith

-- where the loss of power of the node n changes how the link with this host stands so
module _ (h n : ℕ) (off : Standing → Standing) (powers : (x : Standing) → after_power h n x ≡ off x) (twice : (x : Standing) → off (off x) ≡ off x) where
  -- how it stands is what is said of it, or the power of the node was cut behind that
  pub record Powered (w : Work) : Type 0 where
    pub node : w.core.node ≡ n
    pub stands : (x : Standing) → standing h x w.entries ≡ cond w.cut (off (standing_said h x w.entries)) (standing_said h x w.entries)

  more : (es : List Entry) (w v : Work) → IsNeutral h es → v.core.node ≡ w.core.node → v.cut ≡ w.cut → v.entries ≡ w.entries ++ es → Powered w → Powered v
  more es w v z node cut entries a =
      let same : (x : Standing) → standing_said h x v.entries ≡ standing_said h x w.entries = λ x.
      ap (standing_said h x) entries ∙ (fold-append (stands_told h) x w.entries es ∙ (z (standing_said h x w.entries)).1) in
      record {
        node = node ∙ a.node;
        stands = λ x.
            ap (standing h x) entries ∙ (fold-append (stands_noted h) x w.entries es
            ∙ (grind arith));
      }

  note : (es : List Entry) (w : Work) → AreSilent es → AreUncut es → Powered w → Powered (noting es w)
  note es w s u a = more es w (noting es w) (silent_neutral h es s u) refl refl refl a

  desk : (k : ℕ) (f : Desk → Desk) (w : Work) → ((d : Desk) → (f d).host ≡ d.host) → Powered w → Powered (with_desk k f w)
  desk k f w keeps a = record { node = a.node; stands = a.stands }

  turns : (k : ℕ) (t : Turn) (w : Work) → Powered w → Powered (turn_at k t w)
  turns k t w a =
      more (option_map_or (noted_of w.core t) (port_at w.ports k) []) w (turn_at k t w) (at_neutral h w.core t (port_at w.ports k)) refl refl refl a

  beside : (w v : Work) → v.cut ≡ w.cut → v.core.node ≡ w.core.node → v.ports ≡ w.ports → v.entries ≡ w.entries → Powered w → Powered v
  beside w v cut node ports entries a = grind arith

  loses : (writes : List Write) (w : Work) → Powered w → Powered (loses_power writes w)
  loses writes w a =
      record {
        node = a.node;
        stands = λ x.
            fold-append (stands_noted h) x w.entries (entry.Cut w.core.node ∷ [])
            ∙ (ap (λ m. after_power h m (standing h x w.entries)) a.node
            ∙ (powers (standing h x w.entries)
            ∙ (ap off (a.stands x)
            ∙ ((grind arith)
            ∙ ap off (sym (fold-append (stands_told h) x w.entries (entry.Cut w.core.node ∷ [])))))));
      }

  -- a node as a step begins
  fresh : (w : Work) → w.core.node ≡ n → w.cut ≡ false → AreUncut w.entries → Powered w
  fresh w node cut uncut =
      record {
        node = node;
        stands = λ x.
            uncut_said h w.entries uncut x
            ∙ sym (ap (λ b. cond b (off (standing_said h x w.entries)) (standing_said h x w.entries)) cut);
      }

  pub begins_powered : (k : ℕ) (deeds : List Deed) (w : Work) → AreMute deeds → w.core.node ≡ n → w.cut ≡ false → AreUncut w.entries
      → Powered (begins_with k deeds w)
  begins_powered k deeds w m node cut uncut = all_last Powered note desk turns beside loses k deeds w m (fresh w node cut uncut)

  -- ### What comes first

  told_uncut : (core : Core) (p : Port) (o : Option LinkInput) → AreUncut (told_at core p o)
  told_uncut core p None = tt
  told_uncut core p (Some i) = entries_uncut p.desk.host (told (own_side core) p.session (report p.side i) (whole_acked (after_input p.side i)))

  late_uncut : (core : Core) (p : Port) → AreUncut (told_late core p)
  late_uncut core p = by_test (is_late p) (λ q. rw q (told_uncut core p (Some (Reset None)))) (λ q. rw q tt)

  pub came_uncut : (input : NodeInput) (w : Work) → AreUncut w.entries → AreUncut (times_out input (all_come input w)).entries
  came_uncut (AtEnd k i) w u =
      all_append IsUncut w.entries _ u (uncut_flat (λ p. told_at w.core p (input_at (AtEnd k i) p)) (λ p. told_uncut w.core p (input_at (AtEnd k i) p)) w.ports)
  came_uncut TimePasses w u =
      all_append IsUncut _ _
      (all_append IsUncut w.entries _ u (uncut_flat (λ p. told_at w.core p (input_at TimePasses p)) (λ p. told_uncut w.core p (input_at TimePasses p)) w.ports))
      (uncut_flat (told_late w.core) (late_uncut w.core) (map with_older (all_come TimePasses w).ports))

  came_core : (input : NodeInput) (w : Work) → (times_out input (all_come input w)).core ≡ w.core
  came_core input w = grind arith

  pub steps_powered : (input : NodeInput) (w : Work) → w.core.node ≡ n → w.cut ≡ false → AreUncut w.entries → Powered (steps input w)
  steps_powered input w node cut uncut =
      let v : Work = times_out input (all_come input w) in
      let left : List Port = map (forgets v.ports) v.ports in
      let start : Work = record v { core = after_sessions v.core v.ports; ports = map without_notice left } in
      rest_lasts Powered note desk turns beside loses (forgotten v.ports) (flat_map (synced w.core input) w.ports) (all_owed left) start
      (forgotten_mute v.ports) (all_synced_mute w.core input w.ports) (all_owed_mute left)
      (fresh start (grind arith) ((grind arith) ∙ cut) (came_uncut input w uncut))

-- ## Where a fact holds of each kind of note, it holds of all that is told of an input that comes to an end

module _ (P : Noted → Type 0) (who : Side) (n acked : ℕ) (up : P (Up who n)) (active : P (Active who)) (gave_up : (tries : ℕ) → P (GaveUp who tries))
    (some_acked : P (Acked who n acked)) (got : (m : Message) → P (Got who n m)) where
  so : (b : Bool) (x : Noted) → P x → AllByRecursion P (if_so b x)
  so b x a = grind arith

  each : {X : Type 0} (f : X → Noted) → ((x : X) → P (f x)) → (xs : List X) → AllByRecursion P (map f xs)
  each f one [] = tt
  each f one (x ∷ xs) = (one x, each f one xs)

  -- behind the end of a session
  pub rest_all : (r : Report)
      → AllByRecursion P (if_so r.began (Up who n) ++ (if_so r.became_active (Active who) ++ (map (GaveUp who) (option_to_list r.gave_up)
      ++ (if_so (nat_lt 0 r.acked) (Acked who n acked) ++ map (Got who n) r.got))))
  rest_all r =
      all_append P (if_so r.began (Up who n)) _ (so r.began (Up who n) up)
      (all_append P (if_so r.became_active (Active who)) _ (so r.became_active (Active who) active)
      (all_append P (map (GaveUp who) (option_to_list r.gave_up)) _ (each (GaveUp who) gave_up (option_to_list r.gave_up))
      (all_append P (if_so (nat_lt 0 r.acked) (Acked who n acked)) _ (so (nat_lt 0 r.acked) (Acked who n acked) some_acked) (each (Got who n) got r.got))))

  pub told_all : ((cause : Cause) → P (Down who cause)) → (r : Report) → AllByRecursion P (told who n r acked)
  told_all down r = all_append P (map (Down who) (option_to_list r.ended)) _ (each (Down who) down (option_to_list r.ended)) (rest_all r)

-- ## What the law of one link notes of a step ends with a cut exactly where the step does, and tells of no other one
-- So how the link stands by that law is read off the step of a node.

-- ### Clear notes

pub clear-append : (xs ys : List Noted) → AreClear xs → AreClear ys → AreClear (xs ++ ys)
clear-append [] ys a b = b
clear-append (Cut w ∷ xs) ys a b = absurd a.0
clear-append (Restarted w ∷ xs) ys a b = absurd a.0
clear-append (x ∷ xs) ys a b = (a.0, clear-append xs ys a.1 b)

pub clear_told : (who : Side) (n : ℕ) (r : Report) (acked : ℕ) → AreClear (told who n r acked)
clear_told who n r acked = told_all IsClear who n acked tt tt (λ k. tt) tt (λ m. tt) (λ c. tt) r

pub clear_turns : (who : Side) (n : ℕ) (e : LinkEnd) (ts : List Turn) → AreClear (turn_entries who n e ts)
clear_turns who n e [] = tt
clear_turns who n e (t ∷ ts) = clear-append (turn_entry who n e t) (turn_entries who n (turn e t) ts) (grind arith) (clear_turns who n (turn e t) ts)

pub clear_lost : (who : Side) (why : Loss) (xs : List OnWire) → AreClear (first_lost who why xs)
clear_lost who why xs = grind arith

clear_puts : (who : Side) (l : Link) (cs : List Control) → AreClear (puts_entries who l cs)
clear_puts who l [] = tt
clear_puts who l (c ∷ cs) = (
  tt,
  clear-append (pushed_out (far who) (wire_with l c)) (puts_entries who (put l c) cs) (grind arith)
      (clear_puts who (put l c) cs),
)

pub clear_aged : (who : Side) (xs : List OnWire) → AreClear (aged_entries who xs)
clear_aged who [] = tt
clear_aged who (x ∷ xs) = by_test (nat_lt x.age 4) (λ q. rw q (clear_aged who xs)) (λ q. rw q (tt, clear_aged who xs))

-- ### Steps

-- the last note of a step
abbrev pub last_of : Side → Ending → List Noted
last_of who GoesOut = []
last_of who CutOff = Cut who ∷ []

-- notes that end so, and are clear before that
pub record IsShaped (who : Side) (ending : Ending) (notes : List Noted) : Type 0 where
  pub body : List Noted
  pub clear : AreClear body
  pub is : notes ≡ body ++ last_of who ending

shaped_behind : (who : Side) (ending : Ending) (front notes : List Noted) → AreClear front → IsShaped who ending notes → IsShaped who ending (front ++ notes)
shaped_behind who ending front notes c s =
    record {
      body = front ++ s.body;
      clear = clear-append front s.body c s.clear;
      is = ap (λ z. front ++ z) s.is ∙ sym (append_assoc front s.body (last_of who ending));
    }

shaped_rest : (who : Side) (l : Link) (e : LinkEnd) (ts : List Turn) (ending : Ending) → IsShaped who ending (rest_entries who l e ts ending)
shaped_rest who l e ts GoesOut =
    let body : List Noted = rest_entries who l e ts GoesOut in
    record {
      body = body;
      clear = clear-append (turn_entries who (number_of l.controller) e ts) (puts_entries who l (frames_out (turned e ts)))
          (clear_turns who (number_of l.controller) e ts) (clear_puts who l (frames_out (turned e ts)));
      is = sym (append-nil body);
    }
shaped_rest who l e ts CutOff =
    record { body = turn_entries who (number_of l.controller) e ts; clear = clear_turns who (number_of l.controller) e ts; is = refl }

-- what is told of an input, and then the rest of a step
shaped_told : (who : Side) (i : LinkInput) (h : NumberedEnd) (m : Link) (e : LinkEnd) (ts : List Turn) (ending : Ending)
    → IsShaped who ending (told_of who h i ++ rest_entries who m e ts ending)
shaped_told who i h m e ts ending =
    shaped_behind who ending (told_of who h i) (rest_entries who m e ts ending)
    (clear_told who (number_of h) (report h.side i) (whole_acked (after_input h.side i))) (shaped_rest who m e ts ending)

shaped_input : (who : Side) (l : Link) (i : LinkInput) (ts : List Turn) (ending : Ending) → IsShaped who ending (input_entries who l i ts ending)
shaped_input who l i ts ending =
    shaped_told who i l.controller (with_ended l (is_some (ended_by l.controller.side i))) (after_input l.controller.side i) ts ending

pub shaped_tick : (who : Side) (l : Link) (node : Node) → IsShaped who node.ending (tick_entries who l node)
shaped_tick who l node = shaped_input who l HasTick node.turns node.ending

-- what is noted of a step behind the beginning of activation
abbrev pub opened_by : Side → Comes → List Noted
opened_by who (Starts value) = Restarted who ∷ []
opened_by who Stops = Restarted who ∷ []
opened_by who _ = []

-- a step, behind the beginning or the end of activation where it has one
pub record IsStepShaped (who : Side) (comes : Comes) (ending : Ending) (notes : List Noted) : Type 0 where
  pub rest : List Noted
  pub shaped : IsShaped who ending rest
  pub is : notes ≡ opened_by who comes ++ rest

pub shaped_step : (who : Side) (l : Link) (comes : Comes) (ts : List Turn) (ending : Ending) (o : Option LinkInput) → input_of l comes ≡ o → IsStep comes o
    → IsStepShaped who comes ending (step_entries who l comes ts ending)
shaped_step who l NextFrame ts ending None q c = absurd c
shaped_step who l NextFrame ts ending (Some i) q c = go l.to_controller q
  where
    at_wire : List OnWire → Link
    at_wire w = record l { to_controller = w }

    go : (w : List OnWire) → input_of (at_wire w) NextFrame ≡ Some i → IsStepShaped who NextFrame ending (step_entries who (at_wire w) NextFrame ts ending)
    go [] e = absurd (cc e)
    go (x ∷ xs) e =
        let k : Link = at_wire (x ∷ xs) in
        let near : NumberedEnd = record k.controller { took = took_with k.controller.took x } in
        let rest : List Noted =
        told_of who near (Take x.frame) ++ rest_entries who (left_after k x xs) (after_input k.controller.side (Take x.frame)) ts ending in
        record {
          rest = Took who x.frame ∷ rest;
          shaped = shaped_behind who ending (Took who x.frame ∷ []) rest (tt, tt)
              (shaped_told who (Take x.frame) near (left_after k x xs) (after_input k.controller.side (Take x.frame)) ts ending);
          is = refl;
        }
shaped_step who l (AsksReset window) ts ending o q c = record { rest = _; shaped = shaped_input who l (Reset window) ts ending; is = refl }
shaped_step who l (Starts value) ts ending o q c =
    let e : LinkEnd = after_input l.controller.side (Start value) in
    record {
      rest = told_of who l.controller (Start value) ++ rest_entries who (silent l e) e ts ending;
      shaped = shaped_told who (Start value) l.controller (silent l e) e ts ending;
      is = refl;
    }
shaped_step who l Stops ts ending o q c =
    let e : LinkEnd = after_input l.controller.side Stop in
    record {
      rest = told_of who l.controller Stop ++ rest_entries who (silent l e) e ts ending;
      shaped = shaped_told who Stop l.controller (silent l e) e ts ending;
      is = refl;
    }
shaped_step who l NoInput ts ending o q c = record { rest = _; shaped = shaped_rest who l l.controller.side ts ending; is = refl }

-- ### Nodes

-- how a link stands behind notes that end so
law_last : (h : ℕ) (who : Side) (ending : Ending) (notes : List Noted) (s : IsShaped who ending notes) (x : Standing)
    → standing_by_law h x notes ≡ standing_by_law h (standing_by_law h x s.body) (last_of who ending)
law_last h who ending notes s x = ap (standing_by_law h x) s.is ∙ fold-append (law_noted h) x s.body (last_of who ending)

-- what these notes say of the link, whether its power was cut or not
body_said : (h : ℕ) (who : Side) (ending : Ending) (notes : List Noted) (s : IsShaped who ending notes) (x : Standing)
    → standing_said h x (entries_for h notes) ≡ standing_by_law h x s.body
body_said h who ending notes s x =
    ap (λ z. standing_said h x (entries_for h z)) s.is
    ∙ ((ap (standing_said h x) (split s.body ending))
    ∙ sym (clear_said h s.body s.clear x))
  where
    split : (b : List Noted) (e : Ending) → entries_for h (b ++ last_of who e) ≡ entries_for h b
    split [] e = grind arith
    split (y ∷ b) e = ap (λ z. entry_of h y ++ z) (split b e)

pub twice : (who : Side) (x : Standing) → without_power who (without_power who x) ≡ without_power who x
twice who x = grind arith

-- a node in a step at whose end of this link power is lost so
abbrev pub IsAtEnd : (h n : ℕ) (who : Side) → ((x : Standing) → after_power h n x ≡ without_power who x) → Work → Type 0
IsAtEnd h n who powers w = Powered h n (without_power who) powers (twice who) w

-- its step with the frames that go out, of which there are none where it lost its power
module _ (h n : ℕ) (who : Side) (powers : (x : Standing) → after_power h n x ≡ without_power who x) (w : Work) (frames : List Entry)
    (a : IsAtEnd h n who powers w) (out : AreUncut frames × (w.cut ≡ true → frames ≡ [])) where
  pub step_stands : (notes : List Noted) → IsShaped who (ending_of w) notes → of_link h (w.entries ++ frames) ≡ of_link h (entries_for h notes)
      → (x : Standing) → standing h x (w.entries ++ frames) ≡ standing_by_law h x notes
  step_stands notes s told x = by_test w.cut
      (λ q. let all : w.entries ++ frames ≡ w.entries = ap (λ z. w.entries ++ z) (out.1 q) ∙ append-nil w.entries in
      ap (standing h x) all
      ∙ (a.stands x
      ∙ (ap here q
      ∙ (ap (without_power who) (ap (standing_said h x) (sym all) ∙ said_is) ∙ sym (law_is true q)))))
      (λ q. fold-append (stands_noted h) x w.entries frames
      ∙ (ap (λ y. standing h y frames) (a.stands x ∙ ap here q)
      ∙ (uncut_said h frames out.0 (standing_said h x w.entries)
      ∙ (sym (fold-append (stands_told h) x w.entries frames)
      ∙ (said_is ∙ sym (law_is false q))))))
    where
      by_body : Standing
      by_body = standing_by_law h x s.body

      said_is : standing_said h x (w.entries ++ frames) ≡ by_body
      said_is =
          said_of_link h (w.entries ++ frames) x
          ∙ (ap (standing_said h x) told ∙ (sym (said_of_link h (entries_for h notes) x) ∙ body_said h who (ending_of w) notes s x))

      law_is : (b : Bool) → w.cut ≡ b → standing_by_law h x notes ≡ standing_by_law h by_body (last_of who (cond b CutOff GoesOut))
      law_is b q = law_last h who (ending_of w) notes s x ∙ ap (λ c. standing_by_law h by_body (last_of who (cond c CutOff GoesOut))) q

      here : Bool → Standing
      here b = cond b (without_power who (standing_said h x w.entries)) (standing_said h x w.entries)

  -- so it is with the step of an end
  pub comes_stands : (comes : Comes) (notes : List Noted) → IsStepShaped who comes (ending_of w) notes
      → of_link h (w.entries ++ frames) ≡ of_link h (entries_for h notes) → (x : Standing) → standing h x (w.entries ++ frames) ≡ standing_by_law h x notes
  comes_stands comes notes s told x = step_stands s.rest s.shaped (told ∙ (grind arith)) x ∙ sym (grind arith)

-- a step of a node that has no end on the link
pub step_away : (h n : ℕ) (powers : (x : Standing) → after_power h n x ≡ x) (w : Work) (frames : List Entry) → Powered h n (λ x. x) powers (λ x. refl) w
    → AreUncut frames → of_link h (w.entries ++ frames) ≡ [] → (x : Standing) → standing h x (w.entries ++ frames) ≡ x
step_away h n powers w frames a uncut none x =
    fold-append (stands_noted h) x w.entries frames
    ∙ (ap (λ y. standing h y frames) (a.stands x ∙ (grind arith))
    ∙ (uncut_said h frames uncut (standing_said h x w.entries)
    ∙ (sym (fold-append (stands_told h) x w.entries frames)
    ∙ (said_of_link h (w.entries ++ frames) x ∙ ap (standing_said h x) none))))

-- ### Frames

pub frames_uncut : (who : Side) (h : ℕ) (l : Link) (w : Work) → AreUncut (frames_noted who h l w)
frames_uncut who h l w = by_option (port_at w.ports h) (λ q. rw q tt) (λ p q. rw q (entries_uncut h (ending_entries who l p.side (ending_of w))))

pub frames_none : (who : Side) (h : ℕ) (l : Link) (w : Work) → w.cut ≡ true → frames_noted who h l w ≡ []
frames_none who h l w q = grind arith

pub own_frames : (who : Side) (h : ℕ) (l : Link) (w : Work) → AreUncut (frames_noted who h l w) × (w.cut ≡ true → frames_noted who h l w ≡ [])
own_frames who h l w = (frames_uncut who h l w, frames_none who h l w)

-- those on all links
pub all_frames : (who : Side) (f : Site → Link) (w : Work) (sites : List Site)
    → AreUncut (flat_map (λ (s : Site). frames_noted who s.host (f s) w) sites)
    × (w.cut ≡ true → flat_map (λ (s : Site). frames_noted who s.host (f s) w) sites ≡ [])
all_frames who f w sites = (uncut_flat (λ (s : Site). frames_noted who s.host (f s) w) (λ s. frames_uncut who s.host (f s) w) sites, λ q. none q sites)
  where
    none : w.cut ≡ true → (xs : List Site) → flat_map (λ (s : Site). frames_noted who s.host (f s) w) xs ≡ []
    none q [] = refl
    none q (s ∷ xs) = ap (λ z. z ++ flat_map (λ (s : Site). frames_noted who s.host (f s) w) xs) (frames_none who s.host (f s) w q) ∙ none q xs
