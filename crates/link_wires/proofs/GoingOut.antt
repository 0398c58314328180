-- A frame is put on the wire to the other end, or the first one on a wire is lost.
use Rattle.std.proofs.Common.{subst}
use Rattle.link_wires.proofs.Words.{AreNoted, Bool, Buffer, End, Entry, Flying, IsMade, List, Loss, LostCause, Ok, OnWire, Some, WireStandsFor, [], ap, by_test}
use Rattle.link_wires.proofs.Words.{cond, control_of, drop, false, fits, kept_of, lost_as, lpdu_of, other_end, pushed_out, refl, side_of, sym, true, ℕ, ◌++◌}
use Rattle.link_wires.proofs.Words.{◌+◌, ◌∙◌, ◌∷◌, ◌≡◌}
use Rattle.swp_base.specs.declared.control_frames.Control.{Control}
use Rattle.trace_model.specs.declared.entry.Entry.TheVariants as entry
use Rattle.link_laws.specs.sessions.Sessions.{is_rset}
use Rattle.link_laws.specs.messages.Links.{Link, put}
use Rattle.link_laws.specs.entries.Entries.Entry.{Emit as NotedEmit}
use Rattle.link_laws.specs.entries.Entries.{far as far_side, first_lost, put_entries, wire_with}
use Rattle.link_wires.specs.Putting.{GoesOutOf}
use Rattle.link_wires.proofs.Notes.{end_is, more_noted}
use Rattle.link_wires.proofs.Wires.{IsTakenOff, first_is, there_is_none, taken_off}

other_side : (at : End) → side_of (other_end at) ≡ far_side (side_of at)
other_side at = by_test at.at_host (λ q. rw q refl) (λ q. rw q refl)

emit_noted : (at : End) (before mid : List Entry) (c : Control) → mid ≡ before ++ entry.Emit at (lpdu_of c) ∷ []
    → AreNoted at before mid (NotedEmit (side_of at) c ∷ [])
emit_noted at before mid c q = q ∙ ap (λ z. before ++ entry.Emit z (lpdu_of c) ∷ []) (sym (end_is at))

-- a frame that its end puts on the link has this number, and then these are the greatest number of the end and that of the link
pub record IsNumbered (c : Control) (emitted resets number now_emitted now_resets : ℕ) : Type 0 where
  pub number_is : number ≡ cond (is_rset c) (resets + 1) 0
  pub resets_is : now_resets ≡ cond (is_rset c) (resets + 1) resets
  pub emitted_is : now_emitted ≡ cond (is_rset c) (resets + 1) emitted

pub put_is : {resets : ℕ} {l : Link} {c : Control} {old e n k : ℕ} {kept wire : Buffer Flying} {mid now : List Entry} (at : End)
    (before : List Entry) → GoesOutOf old kept resets l → IsNumbered c old resets k e n → mid ≡ before ++ entry.Emit at (lpdu_of c) ∷ []
    → WireStandsFor wire (fits (l.to_host ++ record { frame = c; age = 0; number = k } ∷ []))
    × AreNoted (other_end at) mid now (pushed_out (side_of (other_end at)) (l.to_host ++ record { frame = c; age = 0; number = k } ∷ []))
    → GoesOutOf e wire n (put l c) × AreNoted at before now (put_entries (side_of at) l c)
put_is {resets} {l} {c} {old} {e} {n} {k} {kept} {wire} {mid} {now} at before h numbered noted put_last = (by (is_rset c) refl, all)
  where
    number : k ≡ cond (is_rset c) (l.resets + 1) 0
    number = numbered.number_is ∙ ap (λ r. cond (is_rset c) (r + 1) 0) h.count

    all_wire : l.to_host ++ record { frame = c; age = 0; number = k } ∷ [] ≡ wire_with l c
    all_wire = ap (λ x. l.to_host ++ record { frame = c; age = 0; number = x } ∷ []) number

    all : AreNoted at before now (put_entries (side_of at) l c)
    all =
        more_noted at before (NotedEmit (side_of at) c ∷ []) (pushed_out (far_side (side_of at)) (wire_with l c))
        (emit_noted at before mid c noted) (rw all_wire at (rw (other_side at) at put_last.1))

    wire_is : WireStandsFor wire (fits (wire_with l c))
    wire_is = let P : List OnWire → Type 0 = λ w. WireStandsFor wire (fits w) in subst P all_wire put_last.0

    by : (b : Bool) → is_rset c ≡ b → GoesOutOf e wire n (put l c)
    by true q =
        let w : WireStandsFor wire (fits (l.to_host ++ record { frame = c; age = 0; number = l.resets + 1 } ∷ [])) = rw q at wire_is in
        let count : n ≡ l.resets + 1 = (let z : n ≡ resets + 1 = rw q at numbered.resets_is in z ∙ ap (λ r. r + 1) h.count) in
        let emitted : e ≡ l.resets + 1 = (let z : e ≡ resets + 1 = rw q at numbered.emitted_is in z ∙ ap (λ r. r + 1) h.count) in
        rw q (record { emitted_is = emitted; wire_is = w; count = count })
    by false q =
        let w : WireStandsFor wire (fits (l.to_host ++ record { frame = c; age = 0; number = 0 } ∷ [])) = rw q at wire_is in
        let count : n ≡ l.resets = (let z : n ≡ resets = rw q at numbered.resets_is in z ∙ h.count) in
        let emitted : e ≡ l.controller.emitted = (let z : e ≡ old = rw q at numbered.emitted_is in z ∙ h.emitted_is) in
        rw q (record { emitted_is = emitted; wire_is = w; count = count })

-- What else a frame that goes out changes: nothing at the other end, nor what the own end took.
pub record Stays (l m : Link) : Type 0 where
  pub host : m.host ≡ l.host
  pub wire : m.to_controller ≡ l.to_controller
  pub took : m.controller.took ≡ l.controller.took

pub put_stays : (l : Link) (c : Control) → Stays l (put l c)
put_stays l c =
    by_test (is_rset c)
    (λ q. rw q (record { host = refl; wire = refl; took = refl })) (λ q. rw q (record { host = refl; wire = refl; took = refl }))

pub flying_is : (lpdu : List ℕ) (c : Control) (k : ℕ) → lpdu ≡ lpdu_of c
    → record { lpdu = lpdu; age = 0; number = k } ≡ kept_of (record { frame = c; age = 0; number = k })
flying_is lpdu c k is = ap (λ (b : List ℕ). record { lpdu = b; age = 0; number = k }) is

-- a frame that was put there is as an end makes it
pub made_is : (lpdu : List ℕ) (c : Control) (k n : ℕ) → lpdu ≡ lpdu_of c → control_of lpdu ≡ Ok c → k ≡ cond (is_rset c) n 0
    → IsMade (record { frame = c; age = 0; number = k })
made_is lpdu c k n is read number = (ap control_of (sym is) ∙ read, λ q. number ∙ ap (λ b. cond b n 0) q)

-- ## The first frame is lost

pub lost_first : {cause : LostCause} {wire new : Buffer Flying} {flying : Flying} {now : List Entry} (why : Loss) (before : List Entry) (to : End)
    (frames : List OnWire) → WireStandsFor wire frames → cause ≡ lost_as why → IsTakenOff wire new (Some flying)
    → now ≡ before ++ entry.Lost to flying.lpdu cause ∷ []
    → WireStandsFor new (drop 1 frames) × AreNoted to before now (first_lost (side_of to) why frames)
lost_first why before to [] kept so off noted = absurd (there_is_none kept off)
lost_first {cause} {flying = flying} why before to (x ∷ xs) kept so off noted =
    let first : flying ≡ kept_of x = first_is kept off in (
      taken_off kept off,
      noted ∙ ap (λ (f : Flying). before ++ entry.Lost to f.lpdu cause ∷ []) first ∙ ap (λ c. before ++ entry.Lost to (lpdu_of x.frame) c ∷ []) so
          ∙ ap (λ z. before ++ entry.Lost z (lpdu_of x.frame) (lost_as why) ∷ []) (sym (end_is to)),
    )
