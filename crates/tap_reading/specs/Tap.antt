-- What a passive tap on one link reports. It hears every frame that either end puts on the link, and takes no part: it tells a
-- message once the end that it was sent to has acknowledged its last fragment.
use Rattle.std.specs.Prelude.{ℕ, ◌+◌, ◌%◌, ◌==◌, ◌&&◌, ◌||◌, nat_lt, Bool, true, false, if◌then◌else◌, List, [], ◌∷◌, ◌++◌, length, take, drop, map}
use Rattle.swp_base.specs.declared.control_frames.Control.{Control}
use Rattle.swp_base.specs.declared.control_frames.Control.TheVariants.{I, S, Rset, Ua, Act, Clt}
use Rattle.hcp_packet.specs.Packets.{packets_in, good_of}
use Rattle.hcp_chain.specs.Joining.{are_taken, given_by}

-- what was heard of one side
pub record TapSide : Type 0 where
  -- its number: the greatest of those of its own RSETs and of those that its UAs answered, and 0 before any
  pub number : ℕ
  -- the number of its last RSET, and 0 where it sent none
  pub asked : ℕ
  -- the number at which its last I frame was sent
  pub listed : ℕ
  -- the fragments of its I frames at that number, each once
  pub list : List (List ℕ)
  -- how many fragments of the other side it has acknowledged at its number
  pub count : ℕ

-- what was heard of a link, seen from one of its sides: the CLF's, where nothing else is said
pub record TapState : Type 0 where
  pub clf : TapSide
  pub uicc : TapSide
  -- how many RSETs were heard
  pub rsets : ℕ

abbrev pub new_tap_side : TapSide
new_tap_side = record { number = 0; asked = 0; listed = 0; list = []; count = 0 }

-- nothing was heard yet
abbrev pub new_tap : TapState
new_tap = record { clf = new_tap_side; uicc = new_tap_side; rsets = 0 }

-- the link seen from the other side
abbrev pub tap_exchanged : TapState → TapState
tap_exchanged t = record t { clf = t.uicc; uicc = t.clf }

-- the fragments of a side at a number
abbrev pub listed_at : TapSide → ℕ → List (List ℕ)
listed_at s n = if s.listed == n then s.list else []

-- how many a side has acknowledged at a number
abbrev pub counted_at : TapSide → ℕ → ℕ
counted_at s n = if s.number == n then s.count else 0

-- a side has this number from now on, where it is above the one that it had; its count begins anew
abbrev pub renumbered : TapSide → ℕ → TapSide
renumbered s n = if nat_lt s.number n then record s { number = n; count = 0 } else s

-- An I frame adds its fragment where its N(S) is the length of the list so far, modulo 8, and the list is less than four longer
-- than what the other side has acknowledged of it.
abbrev pub adds : List (List ℕ) → ℕ → ℕ → Bool
adds list count ns = (ns == length list % 8) && nat_lt (length list) (count + 4)

-- the side s, whose other side is t, after an I frame of it
abbrev pub with_fragment : TapSide → TapSide → ℕ → List ℕ → TapSide
with_fragment s t ns info =
    let so_far : List (List ℕ) = listed_at s s.number in
    record s { listed = s.number; list = if adds so_far (counted_at t s.number) ns then so_far ++ info ∷ [] else so_far }

-- An N(R) of the side s acknowledges one fragment more where it is the next number and the other side t has sent the fragment.
abbrev pub tells_more : TapSide → TapSide → ℕ → Bool
tells_more s t nr = (nr == (s.count + 1) % 8) && nat_lt s.count (length (listed_at t s.number))

abbrev pub with_number : TapSide → TapSide → ℕ → TapSide
with_number s t nr = if tells_more s t nr then record s { count = s.count + 1 } else s

-- a frame of a session: at number 0 only a bare link has one
abbrev pub is_in_session : Bool → TapSide → Bool
is_in_session bare s = bare || nat_lt 0 s.number

-- what was heard after a frame of the CLF
abbrev pub tap_hears : Bool → TapState → Control → TapState
tap_hears bare t (I ns nr info) =
    if is_in_session bare t.clf then record t { clf = with_number (with_fragment t.clf t.uicc ns info) t.uicc nr } else t
tap_hears bare t (S kind nr) = if is_in_session bare t.clf then record t { clf = with_number t.clf t.uicc nr } else t
tap_hears bare t (Rset window caps) = record t { clf = record (renumbered t.clf (t.rsets + 1)) { asked = t.rsets + 1 }; rsets = t.rsets + 1 }
tap_hears bare t Ua = record t { clf = renumbered t.clf t.uicc.asked }
tap_hears bare t (Act act again) = t
tap_hears bare t Clt = t

-- The good messages that the fragment behind the first n completes: at most one. Once a packet can't be joined there is none.
abbrev pub news_behind : List (List ℕ) → ℕ → List (ℕ × List ℕ)
news_behind fragments n =
    let joined : ℕ → List (ℕ × List ℕ) = λ k. good_of (given_by [] (packets_in (take k fragments))) in
    if are_taken [] (packets_in (take (n + 1) fragments)) then drop (length (joined n)) (joined (n + 1)) else []

-- what an N(R) of the side s tells: messages that it got, with the number of their session
abbrev pub told_by : TapSide → TapSide → ℕ → List (ℕ × ℕ × List ℕ)
told_by s t nr = if tells_more s t nr then map (λ m. (s.number, m.0, m.1)) (news_behind (listed_at t s.number) s.count) else []

-- what a frame of the CLF tells
abbrev pub tap_tells : Bool → TapState → Control → List (ℕ × ℕ × List ℕ)
tap_tells bare t (I ns nr info) = if is_in_session bare t.clf then told_by t.clf t.uicc nr else []
tap_tells bare t (S kind nr) = if is_in_session bare t.clf then told_by t.clf t.uicc nr else []
tap_tells bare t (Rset window caps) = []
tap_tells bare t Ua = []
tap_tells bare t (Act act again) = []
tap_tells bare t Clt = []

-- one message that a side got
pub record TapReport : Type 0 where
  pub to_clf : Bool
  pub session : ℕ
  pub pipe : ℕ
  pub body : List ℕ

abbrev pub reports_to : Bool → List (ℕ × ℕ × List ℕ) → List TapReport
reports_to to_clf told = map (λ m. record { to_clf = to_clf; session = m.0; pipe = m.1; body = m.2 }) told

-- what was heard after a frame of either side
abbrev pub tap_after_frame : Bool → TapState → Bool → Control → TapState
tap_after_frame bare t true c = tap_hears bare t c
tap_after_frame bare t false c = tap_exchanged (tap_hears bare (tap_exchanged t) c)

-- what is reported at it
abbrev pub tap_reports : Bool → TapState → Bool → Control → List TapReport
tap_reports bare t true c = reports_to true (tap_tells bare t c)
tap_reports bare t false c = reports_to false (tap_tells bare (tap_exchanged t) c)

-- what was heard after these frames, each with whether it is the CLF's, one after another
abbrev pub tap_after : Bool → TapState → List (Bool × Control) → TapState
tap_after bare t [] = t
tap_after bare t (f ∷ frames) = tap_after bare (tap_after_frame bare t f.0 f.1) frames

-- what is reported over them
abbrev pub tapped_from : Bool → TapState → List (Bool × Control) → List TapReport
tapped_from bare t [] = []
tapped_from bare t (f ∷ frames) = tap_reports bare t f.0 f.1 ++ tapped_from bare (tap_after_frame bare t f.0 f.1) frames

-- What a new tap, on a link that is bare or not, reports over these frames.
abbrev pub tapped : Bool → List (Bool × Control) → List TapReport
tapped bare frames = tapped_from bare new_tap frames
