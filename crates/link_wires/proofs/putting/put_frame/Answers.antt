use Rattle.link_wires.proofs.Words.{Flying, List, None, Ok, OnWire, Some, [], ap, cond, control_of, other_end, sym, ℕ, ◌++◌, ◌+◌, ◌∙◌, ◌∷◌, ◌≡◌}
use Rattle.swp_base.specs.declared.control_frames.Control.{Control as Frame}
use Rattle.trace_model.specs.declared.entry.Entry.TheVariants as entry
use Rattle.link_wires.proofs.Results.{none_is}
use Rattle.link_wires.proofs.Wires.{IsPutLast, has_room, was_full, not_full}
use Rattle.link_wires.proofs.GoingOut.{IsNumbered, put_is, flying_is, made_is}
use Rattle.link_wires.proofs.putting.put_frame.Goals as goal
use Rattle.link_wires.proofs.putting.put_frame.Goals.{After-push_back, then-is_reset, else-is_reset}

numbered : (c : After-push_back) (frame : Frame) → control_of c.args.lpdu ≡ Ok frame
    → IsNumbered frame c.args.emitted.now c.args.resets.now c.if-is_reset.number c.if-is_reset.emitted c.if-is_reset.resets
numbered c frame read =
    let e = c.args.emitted.now in
    let n = c.args.resets.now in
    let is = c.is_reset.ensures frame read in
    elim c.if-is_reset.branch [
      | then-is_reset w ↦
          let q = sym w.if-is_reset.true ∙ is in
          record {
            number_is = w.number-is ∙ ap (λ b. cond b (n + 1) 0) q;
            resets_is = w.resets-is ∙ ap (λ b. cond b (n + 1) n) q;
            emitted_is = w.emitted-is ∙ ap (λ b. cond b (n + 1) e) q;
          }
      | else-is_reset w ↦
          let q = sym w.if-is_reset.false ∙ is in
          record {
            number_is = w.number-is ∙ ap (λ b. cond b (n + 1) 0) q;
            resets_is = w.resets-is ∙ ap (λ b. cond b (n + 1) n) q;
            emitted_is = w.emitted-is ∙ ap (λ b. cond b (n + 1) e) q;
          }
    ]

pub returns-in_ok-push-2-clause-stands : goal.returns-in_ok-push-2-clause-stands
returns-in_ok-push-2-clause-stands c l frame h is read =
    let k = c.if-is_reset.number in
    let x : OnWire = record { frame = frame; age = 0; number = k } in
    let flying : Flying = record { lpdu = c.args.lpdu; age = 0; number = k } in
    let b = c.push_back in
    let numbers = numbered (goal.at.returns-in_ok-push-2-clause-stands c).After-push_back frame read in
    let put : IsPutLast c.args.wire.now b.new.self flying (Some c.in-Some.lost) =
    record { out_is = sym c.in-Some.is ∙ b.ensures.value; new_is = b.ensures.items } in
    put_is c.args.at c.args.entries.now.items h numbers
    (c.in_ok-push.ensures.items ∙ ap (λ (b : List ℕ). c.args.entries.now.items ++ entry.Emit c.args.at b ∷ []) (c.copied.ensures ∙ is))
    (rw c.other.ensures at (was_full l.to_host x c.other.result c.push.new.self.items h.wire_is (flying_is c.args.lpdu frame k is)
    (made_is c.args.lpdu frame k (c.args.resets.now + 1) is read numbers.number_is) put c.in_ok-push-2.ensures.items))

pub returns-in_default-clause-stands : goal.returns-in_default-clause-stands
returns-in_default-clause-stands c l frame h is read =
    let k = c.if-is_reset.number in
    let x : OnWire = record { frame = frame; age = 0; number = k } in
    let flying : Flying = record { lpdu = c.args.lpdu; age = 0; number = k } in
    let b = c.push_back in
    let numbers = numbered (goal.at.returns-in_default-clause-stands c).After-push_back frame read in
    let put : IsPutLast c.args.wire.now b.new.self flying None =
    record { out_is = sym (none_is b.result c.in_default.not-Some) ∙ b.ensures.value; new_is = b.ensures.items } in
    put_is c.args.at c.args.entries.now.items h numbers
    (c.in_ok-push.ensures.items ∙ ap (λ (b : List ℕ). c.args.entries.now.items ++ entry.Emit c.args.at b ∷ []) (c.copied.ensures ∙ is))
    (has_room x (other_end c.args.at) c.push.new.self.items h.wire_is (flying_is c.args.lpdu frame k is)
    (made_is c.args.lpdu frame k (c.args.resets.now + 1) is read numbers.number_is) put.new_is (not_full h.wire_is put))
