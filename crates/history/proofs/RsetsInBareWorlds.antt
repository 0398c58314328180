-- Few RSETs are put on the link of a bare world.
use Rattle.history.proofs.Words.{Cause, End, EndEvent, IsBare, Link, List, [], arith, at, bare_link, event_of, link_after, link_after_all, ℕ, ◌+◌, ◌∷◌, ◌≡◌}
use Rattle.link_laws.specs.messages.Rsets.{FewRsets, NumbersWithin, rset_causes, resets_in_event}
use Rattle.history.specs.BareRsets.{rsets_by_bare, rsets_by_all_bare}
use Rattle.link_laws.proofs.messages.RsetNumbers.{event_numbered, made_by_event, numbers_within, start_numbered}

at_end : (e : End) (event : EndEvent) → rset_causes (at e event) ≡ resets_in_event event
at_end e event = grind arith

one_cause : (c : Cause) → rset_causes (event_of c) ≡ rsets_by_bare c
one_cause c = grind arith

-- what happens has the link make so many more RSETs at most
pub few_after : (n : ℕ) (l : Link) (c : Cause) → FewRsets n l → FewRsets (n + rsets_by_bare c) (link_after l c)
few_after n l c f =
    record {
      made = let z = made_by_event l (event_of c) in let o = one_cause c in let a = f.made in omega (arith, z, o, a);
      numbered = event_numbered l (event_of c) f.numbered;
    }

by_one_more : (c : Cause) (causes : List Cause) → rsets_by_all_bare (c ∷ causes) ≡ rsets_by_bare c + rsets_by_all_bare causes
by_one_more c causes = grind arith

few_after_all : (causes : List Cause) (n : ℕ) (l : Link) → FewRsets n l → FewRsets (n + rsets_by_all_bare causes) (link_after_all l causes)
few_after_all [] n l f = record { made = let z = f.made in omega (arith, z); numbered = f.numbered }
few_after_all (c ∷ causes) n l f =
    let a = few_after_all causes (n + rsets_by_bare c) (link_after l c) (few_after n l c f) in
    record { made = let z = a.made in let o = by_one_more c causes in omega (arith, z, o); numbered = a.numbered }

pub numbers_in_bare : (causes : List Cause) → NumbersWithin (rsets_by_all_bare causes) (link_after_all bare_link causes)
numbers_in_bare causes =
    let a = few_after_all causes 0 bare_link (record { made = omega arith; numbered = start_numbered bare_link IsBare }) in
    numbers_within (rsets_by_all_bare causes) (link_after_all bare_link causes) (let z = a.made in omega (arith, z)) a.numbered
