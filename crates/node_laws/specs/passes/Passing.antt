-- The turns of a pass of a node through its ends, and how a fact of the node is carried to each of them.
use Rattle.std.specs.Prelude.{◌≡◌, ◌⊎◌, ℕ, ◌==◌, drop, Bool, true, false, if◌then◌else◌, List, [], ◌∷◌, ◌++◌, is_some, Option, Some, None}
use Rattle.std.specs.Option.{option_map_or}
use Rattle.std.specs.List.{filter_map, fold, AllByRecursion}
use Rattle.trace_model.specs.declared.entry.Entry.{Entry}
use Rattle.trace_model.specs.declared.entry.Entry.TheVariants as entry
use Rattle.trace_model.specs.declared.line.End.{End}
use Rattle.link_laws.specs.machine.Machine.{Message}
use Rattle.link_laws.specs.machine.Machine.Turn.{FetchMessage}
use Rattle.node_machine.specs.Parts.{Port, Work}
use Rattle.node_machine.specs.Carrying.{noting, with_desk, turn_at, end_of_node, port_at, needs, lack}
use Rattle.node_machine.specs.Turns.{deeds_of, handles, holds_back, lets_go}
use Rattle.node_laws.specs.passes.Noting.{noted_by_deeds}

-- ## Entries

-- the link at whose end a message has its turn or is held from now on
abbrev pub link_of_turn : Entry → Option ℕ
link_of_turn (entry.Turn e pid message) = Some e.link
link_of_turn (entry.Held e need spare) = Some e.link
link_of_turn _ = None

-- an entry tells neither of a turn nor of a message that is held
abbrev pub IsNoTurn : Entry → Type 0
IsNoTurn x = link_of_turn x ≡ None

abbrev pub AreNoTurns : List Entry → Type 0
AreNoTurns es = AllByRecursion IsNoTurn es

-- nothing more is noted, or first that a message has its turn or is held
abbrev pub BeginWithTurn : List Entry → Type 0
BeginWithTurn [] = Unit {0}
BeginWithTurn (x ∷ es) = is_some (link_of_turn x) ≡ true

-- the links of the turns, and of the messages that are held, are among these, in their order
abbrev pub AreAlong : List ℕ → List ℕ → Type 0
AreAlong hosts [] = Unit {0}
AreAlong [] (link ∷ links) = ⊥
AreAlong (h ∷ hosts) (link ∷ links) = ((link ≡ h) × AreAlong (h ∷ hosts) links) ⊎ AreAlong hosts (link ∷ links)

abbrev pub links_of_turns : List Entry → List ℕ
links_of_turns es = filter_map link_of_turn es

-- ## What waits at an end

-- the messages that came at the end of the link with this host and had no turn
abbrev pub waiting_at : List Port → ℕ → List Message
waiting_at ports h = option_map_or (λ (p : Port). p.side.got) (port_at ports h) []

-- the first of them was noted as held
abbrev pub is_held_at : List Port → ℕ → Bool
is_held_at ports h = option_map_or (λ (p : Port). p.desk.holds) (port_at ports h) false

-- the first need above what is spare, as this message has its turn at the end of the link with this host
abbrev pub lacking : Work → ℕ → Message → Option (ℕ × ℕ)
lacking w h m = lack w.ports (needs h (deeds_of w.core w.ports h m))

-- the message is the node's from now on, and nothing was done with it yet
abbrev pub takes_up : ℕ → Message → Work → Work
takes_up h m w =
    with_desk h (λ d. record d { holds = false })
    (turn_at h FetchMessage (noting (entry.Turn (end_of_node w.core h) m.0 m.1 ∷ []) w))

-- ## Facts that last

-- A fact of a node lasts as it handles messages, holds them and lets ends go.
pub record LastsOverTurns (J : Work → Type 0) : Type 0 where
  pub handled :
      (w : Work) (h : ℕ) (m : Message) (messages : List Message)
      → J w → w.cut ≡ false → waiting_at w.ports h ≡ m ∷ messages → lacking w h m ≡ None
      → (handles h m (deeds_of w.core w.ports h m) w).cut ≡ false
      → J (handles h m (deeds_of w.core w.ports h m) w)
  pub held :
      (w : Work) (h : ℕ) (m : Message) (messages : List Message) (short : ℕ × ℕ)
      → J w → w.cut ≡ false → waiting_at w.ports h ≡ m ∷ messages → lacking w h m ≡ Some short
      → J (holds_back h short w)
  pub let_go : (w : Work) (h : ℕ) → J w → w.cut ≡ false → waiting_at w.ports h ≡ [] → J (lets_go h w)

-- A node in w becomes so by turns: it handles messages that lack nothing, while its power stays on, holds those that do, and lets ends go.
pub data ComesTo (w : Work) : Work → Type 0 where
  Begins : ComesTo w w
  Handles :
      (v : Work) (h : ℕ) (m : Message) (messages : List Message)
      → ComesTo w v → v.cut ≡ false → waiting_at v.ports h ≡ m ∷ messages → lacking v h m ≡ None
      → (handles h m (deeds_of v.core v.ports h m) v).cut ≡ false
      → ComesTo w (handles h m (deeds_of v.core v.ports h m) v)
  Holds :
      (v : Work) (h : ℕ) (m : Message) (messages : List Message) (short : ℕ × ℕ)
      → ComesTo w v → v.cut ≡ false → waiting_at v.ports h ≡ m ∷ messages → lacking v h m ≡ Some short
      → ComesTo w (holds_back h short v)
  LetsGo : (v : Work) (h : ℕ) → ComesTo w v → v.cut ≡ false → waiting_at v.ports h ≡ [] → ComesTo w (lets_go h v)

-- ## Turns of a pass

-- A message had its turn at this end, behind these entries of a pass that begins in w and before those: just before that the node was so,
-- and nothing that the message needs was lacking. What is noted behind it is what its deeds note; then comes the next turn of the pass, or
-- nothing where the power has gone.
pub record HadTurn (J : Work → Type 0) (w : Work) (front : List Entry) (e : End) (m : Message) (back : List Entry) : Type 0 where
  pub work : Work
  pub host : ℕ
  pub keeps : J work
  pub on : work.cut ≡ false
  pub entries : work.entries ≡ w.entries ++ front
  pub its_end : e ≡ end_of_node work.core host
  pub messages : List Message
  pub waiting : waiting_at work.ports host ≡ m ∷ messages
  pub room : lacking work host m ≡ None
  pub later : List Entry
  pub notes : back ≡ noted_by_deeds host (deeds_of work.core work.ports host m) (takes_up host m work) ++ later
  pub next : BeginWithTurn later
  pub power : (handles host m (deeds_of work.core work.ports host m) work).cut ≡ true → later ≡ []

-- The first message at this end is held from now on, behind these entries of a pass that begins in w and before those: just before that the
-- node was so, the message lacked this, and it wasn't noted as held.
pub record WasHeld (J : Work → Type 0) (w : Work) (front : List Entry) (e : End) (short : ℕ × ℕ) (back : List Entry) : Type 0 where
  pub work : Work
  pub host : ℕ
  pub keeps : J work
  pub on : work.cut ≡ false
  pub entries : work.entries ≡ w.entries ++ front
  pub its_end : e ≡ end_of_node work.core host
  pub message : Message
  pub messages : List Message
  pub waiting : waiting_at work.ports host ≡ message ∷ messages
  pub lacks : lacking work host message ≡ Some short
  pub fresh : is_held_at work.ports host ≡ false
  pub next : BeginWithTurn back

-- what an entry of a pass tells
abbrev pub IsTurnSo : (Work → Type 0) → Work → List Entry → Entry → List Entry → Type 0
IsTurnSo J w front (entry.Turn e pid message) back = HadTurn J w front e (pid, message) back
IsTurnSo J w front (entry.Held e need spare) back = WasHeld J w front e (need, spare) back
IsTurnSo J w front _ back = Unit {0}

-- each entry of these, which are noted as w becomes v in its turns at ends with these hosts, tells so
pub record ArePassed (J : Work → Type 0) (hosts : List ℕ) (w v : Work) : Type 0 where
  pub more : List Entry
  pub entries : v.entries ≡ w.entries ++ more
  pub keeps : v.cut ≡ false → J v
  pub begin : BeginWithTurn more
  pub each : (front back : List Entry) (x : Entry) → more ≡ front ++ (x ∷ back) → IsTurnSo J w front x back
  pub along : AreAlong hosts (links_of_turns more)

-- ## Behind a pass

-- what stays at an end, where these messages waited as the node left it: none, or the first one lacked this and is held
abbrev pub Stays : Work → Work → ℕ → List Entry → List Message → Type 0
Stays work v h own [] = own ≡ []
Stays work v h own (m ∷ messages) =
    (short : ℕ × ℕ) × (lacking work h m ≡ Some short) × (is_held_at v.ports h ≡ true)
    × (own ≡ (if is_held_at work.ports h then [] else entry.Held (end_of_node work.core h) short.0 short.1 ∷ []))

-- As w has become v by a pass, in which the node went through the ends with the first of these hosts, then through the one with h, and then
-- through those with the others: as it left the one with h it was so, behind what had its turns until then, and what waited there stays.
pub record IsBehind (J : Work → Type 0) (w v : Work) (earlier : List ℕ) (h : ℕ) (later : List ℕ) : Type 0 where
  pub work : Work
  pub keeps : J work
  pub on : work.cut ≡ false
  pub front : List Entry
  pub own : List Entry
  pub back : List Entry
  pub entries : work.entries ≡ w.entries ++ front
  pub all : v.entries ≡ (w.entries ++ front) ++ (own ++ back)
  pub before : AreAlong (earlier ++ h ∷ []) (links_of_turns front)
  pub behind : AreAlong later (links_of_turns back)
  pub next : BeginWithTurn back
  pub waits : waiting_at v.ports h ≡ waiting_at work.ports h
  pub stays : Stays work v h own (waiting_at work.ports h)

-- ## What waits, as it is read

-- the messages that wait at the end of the link with this host, and whether the first of them was noted as held, after an entry of a pass
abbrev pub waiting_after : ℕ → List Message × Bool → Entry → List Message × Bool
waiting_after h s (entry.Turn e pid message) = if e.link == h then (drop 1 s.0, false) else s
waiting_after h s (entry.Held e need spare) = if e.link == h then (s.0, true) else s
waiting_after h s _ = s

-- behind these entries
abbrev pub waits_behind : ℕ → List Message × Bool → List Entry → List Message × Bool
waits_behind h s es = fold (waiting_after h) s es

-- what waits at that end as a node has come from w by turns is read off what was noted since
pub record IsWaitingRead (h : ℕ) (w v : Work) : Type 0 where
  pub more : List Entry
  pub entries : v.entries ≡ w.entries ++ more
  pub waits : waiting_at v.ports h ≡ (waits_behind h (waiting_at w.ports h, is_held_at w.ports h) more).0
  pub held : is_held_at v.ports h ≡ (waits_behind h (waiting_at w.ports h, is_held_at w.ports h) more).1
