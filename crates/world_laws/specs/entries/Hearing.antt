-- What a tap hears of a link and what the ends of the link got, as it is noted.
use Rattle.std.specs.Prelude.{ℕ, Bool, true, false, List, [], ◌∷◌, map}
use Rattle.swp_base.specs.declared.control_frames.Control.{Control}
use Rattle.swp_lpdu.specs.Controls.{lpdu_of}
use Rattle.link_laws.specs.machine.Machine.{Role}
use Rattle.link_laws.specs.machine.Machine.Role.{Bare, Clf, Uicc}
use Rattle.link_laws.specs.entries.Entries.{End, Entry}
use Rattle.link_laws.specs.entries.Entries.End.{Controller, Host}
use Rattle.link_laws.specs.entries.Entries.Entry.{Emit, Got, Cut}
use Rattle.tap_reading.specs.Tap.{TapReport}

-- the controller's end is the CLF, and the host's the UICC
abbrev pub is_clf : End → Bool
is_clf Controller = true
is_clf Host = false

-- the frames that the ends put on the link, in order, each with whether it is the CLF's
abbrev pub frames_heard : List Entry → List (Bool × Control)
frames_heard [] = []
frames_heard (Emit who c ∷ t) = (is_clf who, c) ∷ frames_heard t
frames_heard (_ ∷ t) = frames_heard t

-- their LPDUs
abbrev pub lpdus_heard : List Entry → List (Bool × List ℕ)
lpdus_heard t = map (λ f. (f.0, lpdu_of f.1)) (frames_heard t)

-- the messages that the ends got, in order
abbrev pub gots_noted : List Entry → List TapReport
gots_noted [] = []
gots_noted (Got who n m ∷ t) = record { to_clf = is_clf who; session = n; pipe = m.0; body = m.1 } ∷ gots_noted t
gots_noted (_ ∷ t) = gots_noted t

-- a node loses power
abbrev pub is_cut : Entry → Bool
is_cut (Cut who) = true
is_cut _ = false

-- a link without activation
abbrev pub is_bare : Role → Bool
is_bare Bare = true
is_bare (Clf _) = false
is_bare (Uicc _) = false
