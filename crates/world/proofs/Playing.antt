-- A world behind one line, one round or one part more, and a line that lets the links settle, opened and closed.
use Rattle.world.proofs.Words.{AllByRecursion, Bare, Below, Bool, Header, IsFaultThere, IsPlayFor, Line, List, MayCountBelow, MayOpen, Nodes, None, OnOk}
use Rattle.world.proofs.Words.{OpenLine, Option, Play, Result, Round, Said, Some, StandsBelow, World, WorldFault, [], ap, append-nil, append_assoc, arith}
use Rattle.world.proofs.Words.{few_with_round, few_with_said, if◌then◌else◌, length, length-append, lines_played, lines_said, map, memory_behind, misread_below}
use Rattle.world.proofs.Words.{on_ok_weaker, played_more, refl, replicate, rounds_played, subst, sym, true, true≢false, ℕ, ◌++◌, ◌+◌, ◌-◌, ◌<◌, ◌∙◌, ◌∷◌, ◌≡◌}
use Rattle.world.proofs.Words.{◌≤◌}
use Rattle.trace_model.specs.declared.line.Line.TheVariants as saying
use Rattle.trace_model.specs.Lines.{MayBegin, IsNodeOf}
use Rattle.lines_told.specs.lines.Plays.{AreFewPlays, rounds_to_rest}
use Rattle.lines_told.proofs.lines.Told.{all-append, at_most, none_said, played-append, rounds_for, said-append}
use Rattle.lines_told.proofs.lines.Told.{so_many_rounds}
use Rattle.swp_base.specs.InMemory.{Memory}
use Rattle.node_world.specs.Legal.{HaveLegalHistory, IsKeptBehind}
use Rattle.node_world.proofs.LegalPlays.{kept_behind, AskFew, AsksNone, bare_legal, nodes_legal, said_ask_few, still_ask_few}
use Rattle.world.specs.declared.fault.WorldFault.TheVariants as fault
use Rattle.world.specs.Worlds.{HasRoomForLine, HasRoomForPart, HasRoomToSettle, IsWorldAt, IsWorldWithin, is_part, world_header}
use Rattle.world.specs.Worlds.{IsPartLine}

-- ## Counts

pub as_many_rounds : (b : Below) (header other : Header) (plays others : List Play) → StandsBelow b header plays → StandsBelow b other others
    → rounds_played plays ≡ rounds_played others
as_many_rounds b header other plays others s t = grind arith

pub line_fits : (w : World) (header : Header) (plays : List Play) → HasRoomForLine w → StandsBelow w.below header plays → lines_said plays < 20000
line_fits w header plays room s = grind arith

pub round_fits : (w : World) (header : Header) (plays : List Play) → HasRoomToSettle w → StandsBelow w.below header plays
    → rounds_played plays < 400000000
round_fits w header plays room s = grind arith

-- the header of a world is one that a schedule may begin with
pub begins_so : (b : Below) (header : Header) (plays : List Play) → StandsBelow b header plays → MayBegin header
begins_so b header plays s = grind arith

-- ## Parts

-- parts are played as lines
pub played_parts : (header : Header) (parts : List Line) (plays : List Play)
    → lines_played header (plays ++ map Said parts) ≡ lines_played header plays ++ parts
played_parts header [] plays = ap (lines_played header) (append-nil plays) ∙ sym (append-nil (lines_played header plays))
played_parts header (part ∷ parts) plays =
    ap (lines_played header) (sym (append_assoc plays (Said part ∷ []) (map Said parts)))
    ∙ (played_parts header parts (plays ++ Said part ∷ [])
    ∙ (ap (λ (lines : List Line). lines ++ parts) (played_more header plays (Said part))
    ∙ append_assoc (lines_played header plays) (part ∷ []) parts))

pub parts_said : (parts : List Line) → lines_said (map Said parts) ≡ length parts
parts_said [] = refl
parts_said (part ∷ parts) = let rest = parts_said parts in omega (arith, rest)

parts_rounds : (parts : List Line) → rounds_played (map Said parts) ≡ 0
parts_rounds [] = refl
parts_rounds (part ∷ parts) = parts_rounds parts

pub said_within : (plays : List Play) (parts : List Line) → lines_said (plays ++ map Said parts) ≡ lines_said plays + length parts
said_within plays parts = said-append plays (map Said parts) ∙ ap (λ n. lines_said plays + n) (parts_said parts)

pub rounds_within : (plays : List Play) (parts : List Line) → rounds_played (plays ++ map Said parts) ≡ rounds_played plays
rounds_within plays parts =
    let sum = played-append plays (map Said parts) in
    let none = parts_rounds parts in
    omega (arith, sum, none)

-- one part more is played last
pub part_last : (plays : List Play) (parts : List Line) (part : Line)
    → (plays ++ map Said parts) ++ Said part ∷ [] ≡ plays ++ map Said (parts ++ part ∷ [])
part_last plays parts part = append_assoc plays (map Said parts) (Said part ∷ []) ∙ ap (λ (ps : List Play). plays ++ ps) (sym (mapped parts))
  where
    mapped : (xs : List Line) → map Said (xs ++ part ∷ []) ≡ map Said xs ++ Said part ∷ []
    mapped [] = refl
    mapped (x ∷ xs) = ap (λ (ps : List Play). Said x ∷ ps) (mapped xs)

either : {X : Type 0} (o : Option X) (b : Bool) → (if b then o else o) ≡ o
either o b = grind arith

-- a part is never misread
pub part_sure : (header : Header) (before : List Line) (said : Line) → is_part said ≡ true → misread_below header before said ≡ None
part_sure header before said is = grind arith

-- why a line stops a world is want of memory, where it is never misread
pub never_undetected : (header : Header) (before : List Line) (said : Line) (why : WorldFault) → misread_below header before said ≡ None
    → IsFaultThere header before said why → why ≡ fault.NoMemory
never_undetected header before said why none is = grind arith

-- how many parts of an open line were done
pub parts_done : {most n : ℕ} (o : Option OpenLine) (l : OpenLine) → o ≡ Some (record { most = most; parts = n }) → o ≡ Some l → l.parts ≡ n
parts_done o l p q = grind arith

-- ## One more

module _ {T E : Type 0} (result : Result T E) (w new : World) (header : Header) (plays : List Play) where
  pub stands_with_line : (said : Line) → IsWorldAt w header plays → HasRoomForLine w → new.header ≡ w.header → new.opened ≡ w.opened
      → OnOk result (StandsBelow new.below header (plays ++ Said said ∷ [])) → OnOk result (IsWorldAt new header (plays ++ Said said ∷ []))
  stands_with_line said at room same still stands =
      on_ok_weaker result
      (λ (s : StandsBelow new.below header (plays ++ Said said ∷ [])).
      record {
        header_is = same ∙ at.header_is;
        closed = still ∙ at.closed;
        few = few_with_said plays said at.few (line_fits w header plays room at.stands);
        stands = s;
      }) stands

  pub stands_with_round : IsWorldAt w header plays → HasRoomToSettle w → new.header ≡ w.header → new.opened ≡ w.opened
      → OnOk result (StandsBelow new.below header (plays ++ Round ∷ [])) → OnOk result (IsWorldAt new header (plays ++ Round ∷ []))
  stands_with_round at room same still stands =
      on_ok_weaker result
      (λ (s : StandsBelow new.below header (plays ++ Round ∷ [])).
      record {
        header_is = same ∙ at.header_is;
        closed = still ∙ at.closed;
        few = few_with_round plays at.few (round_fits w header plays room at.stands);
        stands = s;
      }) stands

  -- behind whichever plays a line is open, as many parts were done
  pub part_fits : (most : ℕ) (parts : List Line) → HasRoomForPart w → IsWorldWithin w header plays most parts → length parts < 300000
  part_fits most parts room within = grind arith

  pub stands_with_part : (most : ℕ) (parts : List Line) (part : Line) → IsWorldWithin w header plays most parts → HasRoomForPart w
      → new.header ≡ w.header → new.opened ≡ Some (record { most = most; parts = length parts + 1 })
      → OnOk result (StandsBelow new.below header ((plays ++ map Said parts) ++ Said part ∷ []))
      → OnOk result (IsWorldWithin new header plays most (parts ++ part ∷ []))
  stands_with_part most parts part within room same counted stands =
      on_ok_weaker result
      (λ (s : StandsBelow new.below header ((plays ++ map Said parts) ++ Said part ∷ [])).
      (let B : List Play → Type 0 = λ ps. StandsBelow new.below header ps in
      let long : length parts + 1 ≡ length (parts ++ part ∷ []) = sym (length-append parts (part ∷ [])) in
      let fits = part_fits most parts room within in
      record {
        header_is = same ∙ within.header_is;
        opened = rw long at counted;
        few = within.few;
        room = within.room;
        some_left = omega (arith, sym long, fits);
        stands = subst B (part_last plays parts part) s;
      })) stands

-- ## A line that is opened and closed

pub opens : (w new : World) (header : Header) (plays : List Play) (most : ℕ) → MayOpen w most → IsWorldAt w header plays → new.header ≡ w.header
    → new.below ≡ w.below → new.opened ≡ Some (record { most = most; parts = 0 }) → IsWorldWithin new header plays most []
opens w new header plays most may at same below is =
    let count = as_many_rounds w.below header (world_header w) plays may.plays at.stands may.stands.stands in
    let room = may.room in
    record {
      header_is = same ∙ at.header_is;
      opened = is;
      few = at.few;
      room = omega (arith, count, room);
      some_left = omega arith;
      stands = rw below (rw (← append-nil plays) at at.stands);
    }

-- the plays of a line that was closed
module _ (w : World) (header : Header) (plays : List Play) (most : ℕ) (parts : List Line) (within : IsWorldWithin w header plays most parts) (rounds : ℕ)
    (is : rounds ≡ rounds_to_rest header plays most) where
  abbrev next : List Play
  next = plays ++ replicate rounds Round

  pub closes_at_most : rounds ≤ most
  closes_at_most = let z = at_most header plays most in omega (arith, is, z)

  said_next : lines_said next ≡ lines_said plays
  said_next = let sum = said-append plays (replicate rounds Round) in let none = none_said rounds in omega (arith, sum, none)

  rounds_next : rounds_played next ≡ rounds_played plays + rounds
  rounds_next = let sum = played-append plays (replicate rounds Round) in let all = so_many_rounds rounds in omega (arith, sum, all)

  pub closes_few : AreFewPlays next
  closes_few =
      let few = within.few.said in
      let room = within.room in
      let least = closes_at_most in
      let a = said_next in
      let b = rounds_next in
      record { said = omega (arith, few, a); rounds = omega (arith, b, room, least) }

  pub closes_said : lines_said next ≡ lines_said (plays ++ map Said parts) - length parts
  closes_said = let a = said_next in let b = said_within plays parts in omega (arith, a, b)

  pub closes_rounds : rounds_played next ≡ rounds_played (plays ++ map Said parts) + rounds
  closes_rounds = rounds_next ∙ ap (λ n. n + rounds) (sym (rounds_within plays parts))

  pub closes_for : AllByRecursion (IsPlayFor header) plays → AllByRecursion (IsPlayFor header) next
  closes_for may = all-append (IsPlayFor header) plays (replicate rounds Round) may (rounds_for header rounds)

-- all of its plays are such as its header may have
front_for : (header : Header) (plays more : List Play) → AllByRecursion (IsPlayFor header) (plays ++ more) → AllByRecursion (IsPlayFor header) plays
front_for header [] more a = tt
front_for header (p ∷ plays) more a = (a.0, front_for header plays more a.1)

pub plays_are : (b : Below) (header : Header) (plays more : List Play) → StandsBelow b header (plays ++ more) → AllByRecursion (IsPlayFor header) plays
plays_are (Bare w) header plays more s = front_for header plays more s.1.plays_are
plays_are (Nodes w) header plays more s = front_for header plays more s.plays_are

-- the parts may count as so many rounds
pub may_count : (b : Below) (header : Header) (plays : List Play) (parts : List Line) (most rounds : ℕ) → StandsBelow b header (plays ++ map Said parts)
    → rounds_played plays + most ≤ 400000000 → rounds ≤ most → MayCountBelow b (length parts) rounds
may_count (Bare w) header plays parts most rounds s room few =
    let said = said_within plays parts in
    let played = rounds_within plays parts in
    let a = s.1.stepped in
    let b = s.1.rounds in
    record { stepped = omega (arith, said, a); room = omega (arith, played, b, room, few) }
may_count (Nodes w) header plays parts most rounds s room few =
    let said = said_within plays parts in
    let played = rounds_within plays parts in
    let a = s.stepped in
    let b = s.rounds in
    record { stepped = omega (arith, said, a); room = omega (arith, played, b, room, few) }

-- The history of what a world was made to play is legal, and what its nodes committed is kept.

part_asks_none : (l : Line) → is_part l ≡ true → AsksNone l
part_asks_none l is = grind arith

module _ (header : Header) where
  parts_ask_none : (parts : List Line) → AllByRecursion (IsPartLine header) parts → AllByRecursion AsksNone parts
  parts_ask_none [] are = tt
  parts_ask_none (l ∷ ls) are = (part_asks_none l are.0.part, parts_ask_none ls are.1)

  -- the plays behind which a world stands are its own
  pub plays_may : (b : Below) (plays : List Play) → StandsBelow b header plays → AllByRecursion (IsPlayFor header) plays
  plays_may b plays s = grind arith

  stands_legal : (b : Below) (plays : List Play) → StandsBelow b header plays → AskFew header plays → HaveLegalHistory header plays
  stands_legal (Bare w) plays s few = bare_legal header s.1.is_header plays s.1.plays_are s.0 s.1.follows
  stands_legal (Nodes w) plays s few = nodes_legal header s.is_header plays s.plays_are s.sure few

  world_asks_few : (w : World) (plays : List Play) → IsWorldAt w header plays → AskFew header plays
  world_asks_few w plays at = said_ask_few header (begins_so w.below header plays at.stands) plays at.few.said

  -- what a world was made to play
  pub world_legal : (w : World) (plays : List Play) → IsWorldAt w header plays → HaveLegalHistory header plays
  world_legal w plays at = stands_legal w.below plays at.stands (world_asks_few w plays at)

  -- so it is within a line that lets the links settle
  pub within_legal : (w : World) (plays : List Play) (most : ℕ) (parts : List Line) → IsWorldWithin w header plays most parts
      → AllByRecursion (IsPartLine header) parts → HaveLegalHistory header (plays ++ map Said parts)
  within_legal w plays most parts within are =
      let later : List Play = plays ++ map Said parts in
      let before = said_ask_few header (begins_so w.below header later within.stands) plays within.few.said in
      stands_legal w.below later within.stands
      (still_ask_few header plays later parts (played_parts header parts plays) (parts_ask_none parts are) before)

  -- one part more
  pub parts_with : (parts : List Line) (part : Line) → AllByRecursion (IsPartLine header) parts → IsPartLine header part
      → AllByRecursion (IsPartLine header) (parts ++ part ∷ [])
  parts_with parts part are is = all-append (IsPartLine header) parts (part ∷ []) are (is, tt)

  -- the memory of a node
  module _ (plays : List Play) (node : ℕ) (known : IsNodeOf header.hosts.items node) (m : Memory)
      (is : m ≡ memory_behind header (lines_played header plays) node) where
    below_kept : (b : Below) → header.hci ≡ true → StandsBelow b header plays → AskFew header plays → IsKeptBehind header plays node m.content
    below_kept (Bare w) nodes s few = absurd (true≢false (sym nodes ∙ s.1.is_header.bare))
    below_kept (Nodes w) nodes s few = kept_behind header s.is_header plays s.plays_are s.sure few node known m is

    pub world_kept : (w : World) → header.hci ≡ true → IsWorldAt w header plays → IsKeptBehind header plays node m.content
    world_kept w nodes at = below_kept w.below nodes at.stands (world_asks_few w plays at)
