use Rattle.shdlc_core.proofs.Words.{CarriesNr, Fragment, List, length, shdlc_end_after, subst, ◌%◌}
use Rattle.shdlc_core.proofs.FramesDue.{frame-nr}
use Rattle.shdlc_core.proofs.Histories.{new-Holds}
use Rattle.shdlc_core.proofs.laws.numbers_count_what_was_accepted.Goals as goal

pub returns : goal.returns
returns c = λ w inputs frame due.
    subst (λ (fragments : List Fragment). CarriesNr (length fragments % 8) frame) (new-Holds w inputs).accepted
    (frame-nr (shdlc_end_after w inputs) frame due)
