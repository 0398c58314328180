-- Sessions of a node alone end by resets exactly where they are asked for.
use Rattle.std.specs.Prelude.{nat_lt}
use Rattle.lone_laws.proofs.Words.{Acked, Active, AllByRecursion, Asked, Bool, Control, Core, Down, End, EndedBy, Entry, Err, FrameComes, FrameIsRefused}
use Rattle.lone_laws.proofs.Words.{GaveUp, Got, IsResetAlone, LinkEnd, LinkInput, List, Lone, LoneCause, LpduFault, NodeInput, Noted, Ok, Option, Report}
use Rattle.lone_laws.proofs.Words.{ResetComes, Result, Running, Side, Some, Sound, StartComes, StopComes, TickComes, Up, Work, [], after_input, all_come, ap}
use Rattle.lone_laws.proofs.Words.{arith, come_entries, control_of, emits_behind, ended_by, ended_by_reset, entries_for, entry_of, eqb, false, frames_behind}
use Rattle.lone_laws.proofs.Words.{if_so, is_asked_down, is_up, is_up_read, list_any, lone_arrival, lone_end, lone_input, lpdu_input, lpdu_of, map, node_input}
use Rattle.lone_laws.proofs.Words.{option_to_list, own_side, refl, report, reset_refusal, rest_all, session_with, subst, sym, told, told_at, whole_acked, ℕ}
use Rattle.lone_laws.proofs.Words.{◌++◌, ◌||◌, ◌∙◌, ◌∷◌, ◌≡◌, ◌≤◌}
use Rattle.trace_model.specs.declared.entry.Entry.TheVariants as entry
use Rattle.node_laws.proofs.passes.InSteps.{IsOfStep, step_keeps}
use Rattle.lone_laws.proofs.answered.Reading.{Alone}
use Rattle.lone_laws.proofs.answered.Coming.{came_entries, came_is}
use Rattle.lone_laws.proofs.answered.Stepping.{lone_comes}
use Rattle.lone_laws.proofs.answered.Knowing.{arrival_nothing, begin_read, begins_alone, ended, start}
use Rattle.lone_laws.proofs.answered.Keeping.{core_of, KeepsAll}
use Rattle.lone_laws.proofs.answered.Replied.{notes_hold}
use Rattle.node_laws.proofs.worlds.Ages.{asked, frame_asked}

-- an entry tells of no reset that was asked for
abbrev pub IsQuietEntry : Entry → Type 0
IsQuietEntry x = is_asked_down x ≡ false

abbrev pub AreQuiet : List Entry → Type 0
AreQuiet es = AllByRecursion IsQuietEntry es

of_step : (x : Entry) → IsOfStep x → IsQuietEntry x
of_step x a = grind arith

-- ## What is noted behind what comes

any_quiet : (a es : List Entry) → AreQuiet es → list_any is_asked_down (a ++ es) ≡ list_any is_asked_down a
any_quiet [] [] quiet = refl
any_quiet [] (x ∷ es) quiet = ap (λ b. b || list_any is_asked_down es) quiet.0 ∙ any_quiet [] es quiet.1
any_quiet (x ∷ a) es quiet = ap (λ z. (is_asked_down x) || z) (any_quiet a es quiet)

-- ## What an input tells

-- what is told of an input tells so where the session is ended by a reset on demand
told_asked : (h : ℕ) (who : Side) (n acked : ℕ) (rep : Report) → list_any is_asked_down (entries_for h (told who n rep acked)) ≡ asked rep.ended
told_asked h who n acked rep = go rep.ended where
  others : List Noted
  others =
      if_so rep.began (Up who n) ++ (if_so rep.became_active (Active who)
      ++ (map (GaveUp who) (option_to_list rep.gave_up) ++ (if_so (nat_lt 0 rep.acked) (Acked who n acked) ++ map (Got who n) rep.got)))

  quiet : list_any is_asked_down (entries_for h others) ≡ false
  quiet =
      any_quiet [] (entries_for h others)
      (notes_hold IsQuietEntry h others
      (rest_all (λ x. AllByRecursion IsQuietEntry (entry_of h x)) who n acked (refl, tt) (refl, tt) (λ k. (refl, tt)) (refl, tt) (λ m. (refl, tt)) rep))

  go : (o : Option EndedBy) → list_any is_asked_down (entries_for h (map (Down who) (option_to_list o) ++ others)) ≡ asked o
  go (Some Asked) = refl
  go _ = quiet

-- ## Why a session ends

lpdu_asked : (s : LinkEnd) (bytes : List ℕ) → asked (ended_by s (lpdu_input bytes)) ≡ false
lpdu_asked s bytes = go (control_of bytes) refl where
  go : (x : Result Control LpduFault) → control_of bytes ≡ x → asked (ended_by s (lpdu_input bytes)) ≡ false
  go (Ok c) q = rw q (frame_asked s c)
  go (Err fault) q = rw q refl

reset_asked : (s : LinkEnd) → Sound s → asked (ended_by_reset s (reset_refusal s)) ≡ is_up s.shdlc.phase
reset_asked s sound = grind arith

-- a reset that comes ends the session where the end is up, and nothing else that comes ends it so
abbrev pub resets : LoneCause → Bool → Bool
resets (ResetComes window) up = up
resets _ up = false

input_asked : (s : LinkEnd) (c : LoneCause) (i : LinkInput) → lone_input c ≡ Some i → Sound s → asked (ended_by s i) ≡ resets c (is_up s.shdlc.phase)
input_asked s (FrameComes bytes) i q sound = let is : lpdu_input bytes ≡ i = cc in subst (λ x. asked (ended_by s x) ≡ false) is (lpdu_asked s bytes)
input_asked s (FrameIsRefused fault) i q sound = absurd (cc q)
input_asked s TickComes i q sound = grind arith
input_asked s (ResetComes window) i q sound = grind arith
input_asked s (StartComes value) i q sound = grind arith
input_asked s StopComes i q sound = grind arith

-- ## A step

any_front : (a es : List Entry) → AreQuiet a → list_any is_asked_down (a ++ es) ≡ list_any is_asked_down es
any_front [] es quiet = refl
any_front (x ∷ a) es quiet = ap (λ b. b || list_any is_asked_down (a ++ es)) quiet.0 ∙ any_front a es quiet.1

emits_quiet : (f : End) (frames : List Control) → AreQuiet (map (λ c. entry.Emit f (lpdu_of c)) frames)
emits_quiet f [] = tt
emits_quiet f (c ∷ frames) = (refl, emits_quiet f frames)

module _ (rest : Core) (t : List Entry) (l : Lone) (some : 1 ≤ l.link) (most : l.link ≤ 7) (its : eqb l.number 0 ≡ false → l.number ≡ l.link) (n : Running)
    (k : KeepsAll rest t l n) (c : LoneCause) (i : LinkInput) (comes : lone_input c ≡ Some i) where
  abbrev G : Core
  G = core_of rest l.number

  abbrev first : Work
  first = start G t l some most n k.keep c i comes

  abbrev last : Work
  last = ended G t l some most n k.keep c i comes

  abbrev a : Alone l.number l.link (begin_read G) t first
  a = begins_alone (begin_read G) t l n i (lone_arrival l c) (arrival_nothing l c) k.keep

  abbrev input : NodeInput
  input = node_input l.link i

  came_tells : list_any is_asked_down (all_come input first).entries ≡ resets c (is_up l.side.shdlc.phase)
  came_tells =
      ap (list_any is_asked_down) (came_entries l.number l.link (begin_read G) t i (lone_comes c i comes) first a)
      ∙ (any_front (lone_arrival l c) (told_at first.core a.port (Some i)) (grind arith)
      ∙ (told_asked a.port.desk.host (own_side first.core) (session_with l i) (whole_acked (after_input l.side i)) (report l.side i)
      ∙ input_asked l.side c i comes k.talks.sound))

  last_tells : list_any is_asked_down last.entries ≡ resets c (is_up l.side.shdlc.phase)
  last_tells =
      step_keeps IsQuietEntry of_step (λ es. list_any is_asked_down es ≡ resets c (is_up l.side.shdlc.phase))
      (λ es more quiet a. any_quiet es more quiet ∙ a) input first
      (ap (list_any is_asked_down) (sym (come_entries input first))
      ∙ (ap (λ (w : Work). list_any is_asked_down w.entries) (came_is l.number l.link (begin_read G) t i (lone_comes c i comes) first a) ∙ came_tells))

  -- Its session ends by a reset exactly where that is asked for.
  pub reset_in_step : IsResetAlone G l.link t (record { cause = c; entries = last.entries ++ emits_behind l last })
  reset_in_step =
      any_quiet last.entries (emits_behind l last) (emits_quiet (lone_end l) (frames_behind l last)) ∙ (last_tells ∙ (grind arith)) where
        up : is_up l.side.shdlc.phase ≡ is_up_read t l.number l.link
        up = grind arith
