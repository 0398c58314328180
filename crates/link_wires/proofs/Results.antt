-- What holds of a call that succeeded.
use Rattle.std.specs.Prelude.{◌≡◌, refl, Option, Some, None, Result, Ok, Err, OnOk}

-- what follows from what holds where a call succeeded
pub on_ok : {A E P Q : Type 0} (r : Result A E) → OnOk r P → (P → Q) → OnOk r Q
on_ok (Ok a) p f = f p
on_ok (Err e) p f = tt

-- what is none of all things is nothing
pub none_is : {X : Type 0} (o : Option X) → ((x : X) → o ≡ Some x → ⊥) → o ≡ None
none_is None f = refl
none_is (Some x) f = absurd (f x refl)
