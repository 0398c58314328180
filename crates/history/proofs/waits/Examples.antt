-- An end waits once RSET goes out of it, until its session begins or it gives up.
use Rattle.history.proofs.Words.{Entry, List, [], false, opening_of, refl, true, waits_in, ◌++◌, ◌∷◌, ◌≡◌}
use Rattle.swp_base.specs.declared.link_terms.Cause.TheVariants as cause
use Rattle.trace_model.specs.declared.entry.Entry.TheVariants.{Up, Down, Emit, Took, GaveUp}
use Rattle.history.proofs.Examples.{end_c, end_h}

-- the host's end of the link with host 02 is reset
abbrev asked : List Entry
asked = opening_of 2 ++ Down (end_h 2) cause.Asked ∷ Emit (end_h 2) (249 ∷ 4 ∷ 0 ∷ []) ∷ []

-- the controller's end takes the RSET, is up with 1, and answers by UA
abbrev answered : List Entry
answered = asked ++ Took (end_c 2) (249 ∷ 4 ∷ 0 ∷ []) ∷ Down (end_c 2) cause.Peer ∷ Up (end_c 2) 1 ∷ Emit (end_c 2) (230 ∷ []) ∷ []

none_waits_at_first : waits_in (opening_of 2) (end_h 2) ≡ false
none_waits_at_first = refl

the_end_that_was_reset_waits : waits_in asked (end_h 2) ≡ true
the_end_that_was_reset_waits = refl

the_other_doesnt : waits_in asked (end_c 2) ≡ false
the_other_doesnt = refl

who_answers_doesnt_wait : waits_in answered (end_c 2) ≡ false
who_answers_doesnt_wait = refl

it_waits_until_the_answer_comes : waits_in answered (end_h 2) ≡ true
it_waits_until_the_answer_comes = refl

it_waits_no_more_as_it_is_up : waits_in (answered ++ Took (end_h 2) (230 ∷ []) ∷ Up (end_h 2) 1 ∷ []) (end_h 2) ≡ false
it_waits_no_more_as_it_is_up = refl

it_waits_no_more_as_it_gives_up : waits_in (asked ++ GaveUp (end_h 2) 5 ∷ []) (end_h 2) ≡ false
it_waits_no_more_as_it_gives_up = refl
