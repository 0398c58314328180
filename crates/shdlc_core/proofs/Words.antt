-- The words of definitions and lower crates that these proofs speak in, each from where it is at home.
pub use Rattle.std.proofs.Common.{Bool, List, None, Option, Some, [], ap, append-nil, append_assoc, arith, cond, false, if◌then◌else◌, inl, inr, length}
pub use Rattle.std.proofs.Common.{length-append, max, min, nat_lt, not, refl, slice_get, subst, suc, sym, true, zero, ℕ, ◌%◌, ◌&&◌, ◌++◌, ◌+◌, ◌-◌, ◌<◌, ◌==◌}
pub use Rattle.std.proofs.Common.{◌||◌, ◌∙◌, ◌∷◌, ◌≡◌, ◌≤◌, ◌⊎◌}
pub use Rattle.std.proofs.lemmas.Grind.{common_steps}
pub use Rattle.std.specs.Option.{option_to_list}
pub use Rattle.shdlc_core.specs.Histories.{CarriesNr, SessionHistory, no_history, shdlc_end_after}
pub use Rattle.shdlc_core.specs.Kept.{KeptEnd, ShdlcStandsFor}
pub use Rattle.shdlc_core.specs.Machine.{EndInput, EndState, Fragment, Session, Timed, accepted, acknowledged, begun, end_step, fetched, fragment_accepted}
pub use Rattle.shdlc_core.specs.Machine.{fragment_due, frame_due, is_waiting, made_busy, new_end, new_session, no_session, place_of, ready_again, received}
pub use Rattle.shdlc_core.specs.Machine.{rejected, reset_with, runs_timer, shdlc_after_inputs, stopped, take_answer, taken, tick_answer, ticked, timed, up_with}
pub use Rattle.shdlc_core.specs.Machine.{waiting_from}
pub use Rattle.shdlc_core.specs.Machine.EndInput.{Begin, NextOut, Offer, Reset, SetReady, Stop, Take, Tick}
pub use Rattle.shdlc_core.specs.Offering.{HasSession, IsNarrow, left_waiting, with_out}
pub use Rattle.shdlc_core.specs.declared.answers.Due.{Due}
pub use Rattle.shdlc_core.specs.declared.answers.LinkState.{LinkState}
pub use Rattle.shdlc_core.specs.declared.answers.LinkState.TheVariants.{Down, Up, Waiting}
pub use Rattle.shdlc_core.specs.declared.answers.Taken.{Taken}
pub use Rattle.swp_base.specs.declared.control_frames.Control.{Control}
pub use Rattle.swp_base.specs.declared.control_frames.Control.TheVariants.{Act, Clt, I, Rset, S, Ua}
pub use Rattle.swp_base.specs.declared.control_frames.Kind.{Kind}
pub use Rattle.swp_base.specs.declared.control_frames.Kind.TheVariants.{Rej, Rnr, Rr, Srej}
