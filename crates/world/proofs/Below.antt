-- The world below a bare header: what it stands for, what is told of a line there, and what can be asked of it.
use Rattle.std.specs.Prelude.{IfErr}
use Rattle.world.proofs.Words.{AllByRecursion, Bare, BareWorld, Below, End, HasBareRoom, HasBareRoomToSettle, Header, History, IfErr-weaker, IsFaultThere}
use Rattle.world.proofs.Words.{IsLineOf, IsPlayFor, IsPlayedLine, Line, Link, List, Nodes, None, OnOk, Play, Result, Round, Said, StandsBelow, WorldFault}
use Rattle.world.proofs.Words.{WorldStandsFor, [], ap, arith, bare_entries, bare_link_behind, false, frames_to, host_of, lines_lead, lines_played, lines_said}
use Rattle.world.proofs.Words.{link_at, misread, misread_below, noted, on_ok_weaker, outcome_of, round_behind, rounds_played, subst, sym, told_below}
use Rattle.world.proofs.Words.{told_of_play, with_step, with_steps, ℕ, ◌++◌, ◌+◌, ◌-◌, ◌<◌, ◌∙◌, ◌∷◌, ◌≡◌}
use Rattle.node_world.specs.Worlds.{AreFewWithParts, IsNodeWorldBehind}
use Rattle.node_world.specs.declared.worlds.NodeWorld.{NodeWorld}
use Rattle.link_laws.specs.messages.Rest.{link_rests}
use Rattle.lines_told.specs.lines.Plays.{rests_behind}
use Rattle.lines_told.proofs.lines.Told.{bare_rests}
use Rattle.world.specs.declared.fault.WorldFault.TheVariants as fault
use Rattle.world.proofs.BareWorlds.{bare_line}
use Rattle.world.specs.BareWorlds.{IsFaultOf, bare_header}
use Rattle.lines_told.specs.lines.Below.{frames_below}

-- ## On the link that lines leave

module _ (header : Header) (off : header.hci ≡ false) (before : List Line) (l : Link) (leads : l ≡ bare_link_behind header before) where
  frames_there : (e : End) → frames_below header before e ≡ frames_to l e
  frames_there e = rw off (ap (λ (m : Link). frames_to m e) (sym leads))

  module _ (said : Line) where
    told_there : told_below header before said ≡ noted (outcome_of (host_of header) l said)
    told_there = rw off (ap (λ m. noted (outcome_of (host_of header) m said)) (sym leads))

    misread_there : misread_below header before said ≡ misread l said
    misread_there = rw off (ap (λ m. misread m said) (sym leads))

    fault_there : (why : WorldFault) → IsFaultOf l said why → IsFaultThere header before said why
    fault_there why is = grind arith

-- ## What is told, and what can be asked

module _ (w : BareWorld) (header : Header) (plays : List Play) (t : History) (h : WorldStandsFor w header plays t) where
  leads : link_at t ≡ bare_link_behind header (lines_played header plays)
  leads = lines_lead header (lines_played header plays) t h.follows

  pub rests_bare : rests_behind header plays ≡ link_rests (link_at t)
  rests_bare = bare_rests header h.is_header.bare plays ∙ ap link_rests (sym leads)

  pub frames_bare : (e : End) → frames_below header (lines_played header plays) e ≡ frames_to (link_at t) e
  frames_bare = frames_there header h.is_header.bare (lines_played header plays) (link_at t) leads

  pub told_bare : (said : Line) → told_below header (lines_played header plays) said ≡ noted (outcome_of (host_of header) (link_at t) said)
  told_bare = told_there header h.is_header.bare (lines_played header plays) (link_at t) leads

  pub misread_bare : (said : Line) → misread_below header (lines_played header plays) said ≡ misread (link_at t) said
  misread_bare = misread_there header h.is_header.bare (lines_played header plays) (link_at t) leads

  pub fault_bare : (said : Line) (why : WorldFault) → IsFaultOf (link_at t) said why → IsFaultThere header (lines_played header plays) said why
  fault_bare = fault_there header h.is_header.bare (lines_played header plays) (link_at t) leads

-- ## What a world stands for

pub stands_bare : (b : Below) (w : BareWorld) (header : Header) (plays : List Play) → b ≡ Bare w → StandsBelow b header plays
    → (t : History) × WorldStandsFor w header plays t
stands_bare b w header plays is h = let P : Below → Type 0 = λ x. StandsBelow x header plays in subst P is h

pub stands_nodes : (b : Below) (w : NodeWorld) (header : Header) (plays : List Play) → b ≡ Nodes w → StandsBelow b header plays
    → IsNodeWorldBehind w header plays
stands_nodes b w header plays is h = let P : Below → Type 0 = λ x. StandsBelow x header plays in subst P is h

-- a bare world stands so for the header that it was made of
pub of_its_header : (w : BareWorld) (header : Header) (plays : List Play) (t : History) → WorldStandsFor w header plays t
    → WorldStandsFor w (bare_header w) plays t
of_its_header w header plays t h = let P : Header → Type 0 = λ x. WorldStandsFor w x plays t in subst P (sym h.header_is) h

-- ## A bare world plays a line

module _ (b : Below) (w : BareWorld) (is : b ≡ Bare w) (header : Header) (plays : List Play) (at : StandsBelow b header plays) where
  abbrev history : History
  history = (stands_bare b w header plays is at).0

  stood : WorldStandsFor w header plays history
  stood = (stands_bare b w header plays is at).1

  own : WorldStandsFor w (bare_header w) plays history
  own = of_its_header w header plays history stood

  pub bare_room : lines_said plays < 320000 → HasBareRoom w
  bare_room few = record { plays = plays; history = history; stands = own; few = few }

  pub bare_room_to_settle : rounds_played plays < 400000000 → HasBareRoomToSettle w
  bare_room_to_settle few = record { plays = plays; history = history; stands = own; few = few }

  pub bare_may : (said : Line) → IsPlayedLine header said → IsLineOf (bare_header w) said
  bare_may said may = let P : Header → Type 0 = λ x. IsLineOf x said in subst P (sym stood.header_is) (bare_line header said stood.is_header.bare may)

  -- so many of its lines count as so many rounds
  pub bare_counts : (next : BareWorld) (others : List Play) (lines rounds : ℕ)
      → ((ps os : List Play) (t : History) → WorldStandsFor w (bare_header w) ps t → lines_played (bare_header w) ps ≡ lines_played (bare_header w) os
      → AllByRecursion (IsPlayFor (bare_header w)) os → AreFewWithParts os → lines_said os ≡ lines_said ps - lines
      → rounds_played os ≡ rounds_played ps + rounds → WorldStandsFor next (bare_header w) os t)
      → lines_played header plays ≡ lines_played header others → AllByRecursion (IsPlayFor header) others → AreFewWithParts others
      → lines_said others ≡ lines_said plays - lines → rounds_played others ≡ rounds_played plays + rounds → StandsBelow (Bare next) header others
  bare_counts next others lines rounds counts same are few said played =
      let its : header ≡ bare_header w = sym stood.header_is in
      let P : Header → Type 0 = λ x. WorldStandsFor next x others history in
      let S : Header → Type 0 = λ x. lines_played x plays ≡ lines_played x others in
      let A : Header → Type 0 = λ x. AllByRecursion (IsPlayFor x) others in
      (history, subst P stood.header_is (counts plays others history own (subst S its same) (subst A its are) few said played))

  module _ {T : Type 0} (next : BareWorld) (said : Line) (r : Result T WorldFault) where
    pub bare_stands : ((ps : List Play) (t : History) → WorldStandsFor w (bare_header w) ps t
        → OnOk r (WorldStandsFor next (bare_header w) (ps ++ Said said ∷ []) (with_step t said)))
        → OnOk r (StandsBelow (Bare next) header (plays ++ Said said ∷ []))
    bare_stands steps = grind arith

    pub bare_tells : ((ps : List Play) (t : History) → WorldStandsFor w (bare_header w) ps t
        → OnOk r (bare_entries next ≡ noted (outcome_of (host_of (bare_header w)) (link_at t) said)))
        → OnOk r (bare_entries next ≡ told_below header (lines_played header plays) said)
    bare_tells tells =
        on_ok_weaker r
        (λ (e : bare_entries next ≡ noted (outcome_of (host_of (bare_header w)) (link_at history) said)).
        e ∙ ap (λ x. noted (outcome_of (host_of x) (link_at history) said)) stood.header_is ∙ sym (told_bare w header plays history stood said))
        (tells plays history own)

  module _ {T E : Type 0} (next : BareWorld) (r : Result T E) where
    pub bare_goes : ((ps : List Play) (t : History) → WorldStandsFor w (bare_header w) ps t
        → OnOk r (WorldStandsFor next (bare_header w) (ps ++ Round ∷ []) (with_steps t (round_behind (bare_header w) (lines_played (bare_header w) ps)))))
        → OnOk r (StandsBelow (Bare next) header (plays ++ Round ∷ []))
    bare_goes goes =
        let P : Header → Type 0 = λ x. WorldStandsFor next x (plays ++ Round ∷ []) (with_steps history (round_behind x (lines_played x plays))) in
        on_ok_weaker r (λ (s : P (bare_header w)). (with_steps history (round_behind header (lines_played header plays)), subst P stood.header_is s))
        (goes plays history own)

    pub bare_told : ((ps : List Play) (t : History) → WorldStandsFor w (bare_header w) ps t
        → OnOk r (bare_entries next ≡ told_of_play (bare_header w) (lines_played (bare_header w) ps) Round))
        → OnOk r (bare_entries next ≡ told_of_play header (lines_played header plays) Round)
    bare_told tells = grind arith

  module _ {T : Type 0} (said : Line) (r : Result T WorldFault) where
    pub bare_faults : ((ps : List Play) (t : History) → WorldStandsFor w (bare_header w) ps t → IfErr r (IsFaultOf (link_at t) said))
        → IfErr r (IsFaultThere header (lines_played header plays) said)
    bare_faults faults =
        IfErr-weaker r (IsFaultOf (link_at history) said) (IsFaultThere header (lines_played header plays) said)
        (fault_bare w header plays history stood said) (faults plays history own)

    pub bare_sure : ((ps : List Play) (t : History) → WorldStandsFor w (bare_header w) ps t → OnOk r (misread (link_at t) said ≡ None))
        → OnOk r (misread_below header (lines_played header plays) said ≡ None)
    bare_sure sure =
        on_ok_weaker r (λ (e : misread (link_at history) said ≡ None). misread_bare w header plays history stood said ∙ e) (sure plays history own)
