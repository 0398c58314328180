-- What taking a frame does where only some fragments were offered is what it does with all of them.
use Rattle.shdlc_core.proofs.Words.{Act, Bool, Clt, Control, Down, EndState, Fragment, HasSession, I, IsNarrow, Kind, LinkState, List, None, Option, Rej, Rnr}
use Rattle.shdlc_core.proofs.Words.{Rr, Rset, S, Some, Srej, Ua, Up, Waiting, [], accepted, acknowledged, append-nil, arith, false, fragment_accepted}
use Rattle.shdlc_core.proofs.Words.{if◌then◌else◌, left_waiting, made_busy, min, nat_lt, option_to_list, place_of, ready_again, received, refl, rejected, sym}
use Rattle.shdlc_core.proofs.Words.{take_answer, taken, true, up_with, with_out, ℕ, ◌&&◌, ◌++◌, ◌+◌, ◌==◌, ◌∙◌, ◌∷◌, ◌≡◌}
use Rattle.shdlc_core.specs.declared.answers.Due.TheVariants.{Rej as Rej_due}
use Rattle.shdlc_core.specs.Machine.{ahead, discarded, repeated}
use Rattle.shdlc_core.proofs.Histories.{in_phase, place_of-within}

-- ## Taking a frame

-- what a frame does to a machine, and to one to which only these fragments were offered
pub record TakesAlike (e : EndState) (o : List Fragment) (c : Control) : Type 0 where
  pub same : taken (with_out e o) c ≡ with_out (taken e c) (left_waiting (take_answer e c).began o)
  pub answer : take_answer (with_out e o) c ≡ take_answer e c
  pub out : (taken e c).session.out ≡ left_waiting (take_answer e c).began e.session.out
  pub narrow : IsNarrow e → IsNarrow (taken e c)
  pub session : HasSession e.phase e.session → HasSession (taken e c).phase (taken e c).session
  pub acked : (taken e c).session.acked ≡ (if (take_answer e c).began then 0 else e.session.acked + (take_answer e c).acked)
  pub acc : (taken e c).session.acc ≡ left_waiting (take_answer e c).began (e.session.acc ++ option_to_list (take_answer e c).accepted)

pub same_windows : (old new : EndState) → new.own_window ≡ old.own_window → new.peer_window ≡ old.peer_window → new.session.window ≡ old.session.window
    → IsNarrow old → IsNarrow new
same_windows old new own peer session h = grind arith

received_alike : (e : EndState) (o : List Fragment) (x ns : ℕ) (info : Fragment)
    → (received (acknowledged (with_out (in_phase Up e) o) x) ns info ≡ with_out (received (acknowledged (in_phase Up e) x) ns info) o)
    × ((received (acknowledged (in_phase Up e) x) ns info).session.out ≡ e.session.out)
    × (IsNarrow (in_phase Up e) → IsNarrow (received (acknowledged (in_phase Up e) x) ns info))
    × (Unit {0} → HasSession (received (acknowledged (in_phase Up e) x) ns info).phase (received (acknowledged (in_phase Up e) x) ns info).session)
    × ((received (acknowledged (in_phase Up e) x) ns info).session.acked ≡ x)
    × ((received (acknowledged (in_phase Up e) x) ns info).session.acc ≡ e.session.acc ++ option_to_list (fragment_accepted e ns info))
received_alike e o x ns info = go e.ready (ahead e.session ns == 0) (nat_lt (ahead e.session ns) 4) e.session.gap_open
  where
    f : EndState
    f = acknowledged (in_phase Up e) x

    g : EndState
    g = acknowledged (with_out (in_phase Up e) o) x

    gap : EndState → EndState
    gap h = record h { due = h.due ++ Rej_due ∷ []; session = record h.session { gap_open = true } }

    all : (h : EndState) → h.own_window ≡ e.own_window → h.peer_window ≡ e.peer_window → h.session.window ≡ e.session.window
        → IsNarrow (in_phase Up e) → IsNarrow h
    all h = same_windows (in_phase Up e) h

    go : (r b c d : Bool) →
        ((if r then (if b then accepted g info else (if c then (if d then g else gap g) else repeated g)) else discarded g)
        ≡ with_out (if r then (if b then accepted f info else (if c then (if d then f else gap f) else repeated f)) else discarded f) o)
        × ((if r then (if b then accepted f info else (if c then (if d then f else gap f) else repeated f)) else discarded f).session.out ≡ e.session.out)
        × (IsNarrow (in_phase Up e)
        → IsNarrow (if r then (if b then accepted f info else (if c then (if d then f else gap f) else repeated f)) else discarded f))
        × (Unit {0} → HasSession (if r then (if b then accepted f info else (if c then (if d then f else gap f) else repeated f)) else discarded f).phase
        (if r then (if b then accepted f info else (if c then (if d then f else gap f) else repeated f)) else discarded f).session)
        × ((if r then (if b then accepted f info else (if c then (if d then f else gap f) else repeated f)) else discarded f).session.acked ≡ x)
        × ((if r then (if b then accepted f info else (if c then (if d then f else gap f) else repeated f)) else discarded f).session.acc
        ≡ e.session.acc ++ option_to_list (if r && b then Some info else None))
    go true true c d = (refl, refl, all (accepted f info) refl refl refl, λ h. h, refl, refl)
    go true false true true = (refl, refl, all f refl refl refl, λ h. h, refl, sym (append-nil e.session.acc))
    go true false true false = (refl, refl, all (gap f) refl refl refl, λ h. h, refl, sym (append-nil e.session.acc))
    go true false false d = (refl, refl, all (repeated f) refl refl refl, λ h. h, refl, sym (append-nil e.session.acc))
    go false b c d = (refl, refl, all (discarded f) refl refl refl, λ h. h, refl, sym (append-nil e.session.acc))

fragment_alike : (e : EndState) (o : List Fragment) (ns nr : ℕ) (info : Fragment) (q : Option ℕ) → place_of e.session nr ≡ q
    → TakesAlike (in_phase Up e) o (I ns nr info)
fragment_alike e o ns nr info None at =
    record {
      same = rw at;
      answer = rw at;
      out = rw at;
      narrow = rw at (λ h. h);
      session = rw at (λ h. h);
      acked = rw at (omega arith);
      acc =
          rw at (sym (append-nil e.session.acc));
    }
fragment_alike e o ns nr info (Some x) at =
    let r = received_alike e o x ns info in
    let w = place_of-within e.session nr x at in
    record { same = rw at r.0; answer = rw at; out = rw at r.1; narrow = rw at r.2; session = rw at r.3; acked = rw at (r.4 ∙ omega arith); acc = rw at r.5 }

pub some_narrow : (e new : EndState) → new.own_window ≡ e.own_window → new.peer_window ≡ e.peer_window → new.session.window ≡ e.session.window
    → IsNarrow (in_phase Up e) → IsNarrow new
some_narrow e new own peer session h = same_windows (in_phase Up e) new own peer session h

kind_alike : (e : EndState) (o : List Fragment) (k : Kind) (nr : ℕ) (q : Option ℕ) → place_of e.session nr ≡ q → TakesAlike (in_phase Up e) o (S k nr)
kind_alike e o Rr nr None at =
    record {
      same = rw at;
      answer = rw at;
      out = rw at;
      narrow = rw at (λ h. h);
      session = rw at (λ h. h);
      acked = rw at (omega arith);
      acc =
          rw at (sym (append-nil e.session.acc));
    }
kind_alike e o Rr nr (Some x) at =
    let w = place_of-within e.session nr x at in
    record {
      same = rw at;
      answer = rw at;
      out = rw at;
      narrow = rw at (some_narrow e (ready_again (in_phase Up e) x) refl refl refl);
      session =
          rw at (λ h. h);
      acked = rw at (omega arith);
      acc = rw at (sym (append-nil e.session.acc));
    }
kind_alike e o Rej nr None at =
    record {
      same = rw at;
      answer = rw at;
      out = rw at;
      narrow = rw at (λ h. h);
      session = rw at (λ h. h);
      acked = rw at (omega arith);
      acc =
          rw at (sym (append-nil e.session.acc));
    }
kind_alike e o Rej nr (Some x) at =
    let w = place_of-within e.session nr x at in
    record {
      same = rw at;
      answer = rw at;
      out = rw at;
      narrow = rw at (some_narrow e (rejected (in_phase Up e) x) refl refl refl);
      session =
          rw at (λ h. h);
      acked = rw at (omega arith);
      acc = rw at (sym (append-nil e.session.acc));
    }
kind_alike e o Rnr nr None at =
    record {
      same = rw at;
      answer = rw at;
      out = rw at;
      narrow = rw at (λ h. h);
      session = rw at (λ h. h);
      acked = rw at (omega arith);
      acc =
          rw at (sym (append-nil e.session.acc));
    }
kind_alike e o Rnr nr (Some x) at =
    let w = place_of-within e.session nr x at in
    record {
      same = rw at;
      answer = rw at;
      out = rw at;
      narrow = rw at (some_narrow e (made_busy (in_phase Up e) x) refl refl refl);
      session =
          rw at (λ h. h);
      acked = rw at (omega arith);
      acc = rw at (sym (append-nil e.session.acc));
    }
kind_alike e o Srej nr q at =
    record { same = refl; answer = refl; out = refl; narrow = λ h. h; session = λ h. h; acked = omega arith; acc = sym (append-nil e.session.acc) }

reset_alike : (p : LinkState) (e : EndState) (o : List Fragment) (w caps : ℕ) (b : Bool) → (w == 0) ≡ b → TakesAlike (in_phase p e) o (Rset w caps)
reset_alike Up e o w caps true at =
    record {
      same = rw at;
      answer = rw at;
      out = rw at;
      narrow = rw at (λ h. h);
      session = rw at (λ h. h);
      acked = rw at (omega arith);
      acc =
          rw at (sym (append-nil e.session.acc));
    }
reset_alike Up e o w caps false at = grind arith
reset_alike Down e o w caps true at =
    record {
      same = rw at;
      answer = rw at;
      out = rw at;
      narrow = rw at (λ h. h);
      session = rw at (λ h. h);
      acked = rw at (omega arith);
      acc =
          rw at (sym (append-nil e.session.acc));
    }
reset_alike Down e o w caps false at = grind arith
reset_alike Waiting e o w caps true at =
    record {
      same = rw at;
      answer = refl;
      out = rw at;
      narrow = rw at (λ h. h);
      session = rw at (λ h. h);
      acked = rw at (omega arith);
      acc =
          rw at (sym (append-nil e.session.acc));
    }
reset_alike Waiting e o w caps false at = record {
  same = rw at;
  answer = refl;
  out = rw at;
  narrow = rw at (λ h. record { own = h.own; peer = omega arith; session = h.session });
  session = rw at (λ h. h);
  acked = rw at (omega arith);
  acc = rw at (sym (append-nil e.session.acc));
}

accepted_narrow : (e : EndState) → IsNarrow (in_phase Waiting e) → IsNarrow (up_with (in_phase Waiting e) (min e.own_window e.peer_window))
accepted_narrow e h = record { own = h.own; peer = h.peer; session = (grind arith) }

pub alike_in : (p : LinkState) (e : EndState) (o : List Fragment) (c : Control) → TakesAlike (in_phase p e) o c
alike_in Up e o (I ns nr info) = fragment_alike e o ns nr info (place_of e.session nr) refl
alike_in Up e o (S k nr) = kind_alike e o k nr (place_of e.session nr) refl
alike_in Up e o (Rset w caps) = reset_alike Up e o w caps (w == 0) refl
alike_in Up e o Ua =
    record { same = refl; answer = refl; out = refl; narrow = λ h. h; session = λ h. h; acked = omega arith; acc = sym (append-nil e.session.acc) }
alike_in Up e o (Act act again) =
    record { same = refl; answer = refl; out = refl; narrow = λ h. h; session = λ h. h; acked = omega arith; acc = sym (append-nil e.session.acc) }
alike_in Up e o Clt =
    record { same = refl; answer = refl; out = refl; narrow = λ h. h; session = λ h. h; acked = omega arith; acc = sym (append-nil e.session.acc) }
alike_in Down e o (I ns nr info) =
    record { same = refl; answer = refl; out = refl; narrow = λ h. h; session = λ h. h; acked = omega arith; acc = sym (append-nil e.session.acc) }
alike_in Down e o (S k nr) =
    record { same = refl; answer = refl; out = refl; narrow = λ h. h; session = λ h. h; acked = omega arith; acc = sym (append-nil e.session.acc) }
alike_in Down e o (Rset w caps) = reset_alike Down e o w caps (w == 0) refl
alike_in Down e o Ua =
    record { same = refl; answer = refl; out = refl; narrow = λ h. h; session = λ h. h; acked = omega arith; acc = sym (append-nil e.session.acc) }
alike_in Down e o (Act act again) =
    record { same = refl; answer = refl; out = refl; narrow = λ h. h; session = λ h. h; acked = omega arith; acc = sym (append-nil e.session.acc) }
alike_in Down e o Clt =
    record { same = refl; answer = refl; out = refl; narrow = λ h. h; session = λ h. h; acked = omega arith; acc = sym (append-nil e.session.acc) }
alike_in Waiting e o (I ns nr info) =
    record { same = refl; answer = refl; out = refl; narrow = λ h. h; session = λ h. h; acked = omega arith; acc = sym (append-nil e.session.acc) }
alike_in Waiting e o (S k nr) =
    record { same = refl; answer = refl; out = refl; narrow = λ h. h; session = λ h. h; acked = omega arith; acc = sym (append-nil e.session.acc) }
alike_in Waiting e o (Rset w caps) = reset_alike Waiting e o w caps (w == 0) refl
alike_in Waiting e o Ua = record { same = refl; answer = refl; out = refl; narrow = accepted_narrow e; session = λ h. tt; acked = refl; acc = refl }
alike_in Waiting e o (Act act again) =
    record { same = refl; answer = refl; out = refl; narrow = λ h. h; session = λ h. h; acked = omega arith; acc = sym (append-nil e.session.acc) }
alike_in Waiting e o Clt =
    record { same = refl; answer = refl; out = refl; narrow = λ h. h; session = λ h. h; acked = omega arith; acc = sym (append-nil e.session.acc) }

pub taken_alike : (e : EndState) (o : List Fragment) (c : Control) → TakesAlike e o c
taken_alike e o c = alike_in e.phase e o c
