-- The schedule that is drawn from a number has a legal history, and what is told of it is counted line by line.
use Rattle.std.specs.Prelude.{min}
use Rattle.std.specs.List.{filter}
use Rattle.swp_tool.proofs.Words.{AllByRecursion, AreCountsOf, AreNodeLinesOf, Bool, Entry, HasCounted, HasRoomForLine, IsNodeHeader, IsPlayed, Line, List}
use Rattle.swp_tool.proofs.Words.{NodeWorld, None, NoneIsMisread, OfNodes, Play, Said, [], ap, append-nil, append_assoc, arith, asking_few, cond, false}
use Rattle.swp_tool.proofs.Words.{filter-append, fold, get_or, in_range, is_settling, length, length-append, length-take, line_step, lines_of_play}
use Rattle.swp_tool.proofs.Words.{lines_played, lines_said, map, new_world, nodes_history, nodes_told, played_legal, refl, subst, suc, sym, take, take_all}
use Rattle.swp_tool.proofs.Words.{the_header, told_below, true, zero, ℕ, ◌++◌, ◌+◌, ◌-◌, ◌<◌, ◌^◌, ◌∙◌, ◌∷◌, ◌≡◌, ◌≤◌}
use Rattle.hci_tables.specs.declared.command.Command.{Command}
use Rattle.trace_model.specs.declared.entry.Entry.TheVariants as entry
use Rattle.trace_model.specs.declared.line.End.{End}
use Rattle.trace_model.specs.declared.line.Line.TheVariants as saying
use Rattle.node_machine.specs.world.Lines.{misread_in}
use Rattle.drawn_schedule.specs.Schedule.{IsHarmless, drawn_lines, is_harmless}
use Rattle.drawn_schedule.proofs.HarmlessLemmas.{lines_may_be_played}
use Rattle.drawn_schedule.proofs.ReadLemmas.{lines_count}
use Rattle.swp_tool.specs.declared.counts.Counts.{Counts}
use Rattle.swp_tool.specs.Generated.{count_of_kind, is_noted_acked, is_noted_command, is_noted_got, is_noted_sent, is_noted_up}
use Rattle.swp_tool.specs.declared.generating.Generating.{Generating}
use Rattle.swp_tool.specs.Generated.{IsSummary, summary_line, told_line}
use Rattle.swp_tool.proofs.Playing.{under_own_header}
use Rattle.swp_tool.proofs.Texts.{nodes_told-push}

-- ## Counts

-- one entry more, by whether it is of the kind
kind_more : (kind : Entry → Bool) (es : List Entry) (e : Entry)
    → count_of_kind kind (es ++ e ∷ []) ≡ cond (kind e) (min (count_of_kind kind es + 1) (2 ^ 64 - 1)) (count_of_kind kind es)
kind_more kind es e = go (kind e) refl
  where
    long : length (filter kind (es ++ e ∷ [])) ≡ length (filter kind es) + length (filter kind (e ∷ []))
    long = ap length (filter-append kind es (e ∷ [])) ∙ length-append (filter kind es) (filter kind (e ∷ []))

    go : (b : Bool) → kind e ≡ b → count_of_kind kind (es ++ e ∷ []) ≡ cond b (min (count_of_kind kind es + 1) (2 ^ 64 - 1)) (count_of_kind kind es)
    go true q = let one : length (filter kind (e ∷ [])) ≡ 1 = rw q refl in let z = long in omega (arith, z, one)
    go false q = let none : length (filter kind (e ∷ [])) ≡ 0 = rw q refl in let z = long in omega (arith, z, none)

-- a count that is one more where an entry is of its kind
abbrev pub IsOneMoreIf : ℕ → ℕ → Bool → Type 0
IsOneMoreIf old new is_one = new ≡ cond is_one (min (old + 1) (2 ^ 64 - 1)) old

more_of : (kind : Entry → Bool) (es : List Entry) (e : Entry) (old new : ℕ) → IsOneMoreIf old new (kind e) → old ≡ count_of_kind kind es
    → new ≡ count_of_kind kind (es ++ e ∷ [])
more_of kind es e old new new_is old_is = new_is ∙ ap (λ n. cond (kind e) (min (n + 1) (2 ^ 64 - 1)) n) old_is ∙ sym (kind_more kind es e)

-- five counts, each one more where an entry is of its kind
pub counts_more : (a b : Counts) (e : Entry) → IsOneMoreIf a.sent b.sent (is_noted_sent e) → IsOneMoreIf a.got b.got (is_noted_got e)
    → IsOneMoreIf a.acked b.acked (is_noted_acked e) → IsOneMoreIf a.up b.up (is_noted_up e) → IsOneMoreIf a.commands b.commands (is_noted_command e)
    → (es : List Entry) → AreCountsOf a es → AreCountsOf b (es ++ e ∷ [])
counts_more a b e s g k u c es old =
    record {
      sent = more_of is_noted_sent es e a.sent b.sent s old.sent;
      got = more_of is_noted_got es e a.got b.got g old.got;
      acked = more_of is_noted_acked es e a.acked b.acked k old.acked;
      up = more_of is_noted_up es e a.up b.up u old.up;
      commands = more_of is_noted_command es e a.commands b.commands c old.commands;
    }

-- an entry of none of the five kinds is counted nowhere
pub of_no_kind : (a : Counts) (e : Entry) → ((at : End) (session pid : ℕ) (message : List ℕ) → e ≡ entry.Sent at session pid message → ⊥)
    → ((at : End) (session pid : ℕ) (message : List ℕ) → e ≡ entry.Got at session pid message → ⊥)
    → ((at : End) (session count : ℕ) → e ≡ entry.Acked at session count → ⊥) → ((at : End) (session : ℕ) → e ≡ entry.Up at session → ⊥)
    → ((node : ℕ) (command : Command) → e ≡ entry.Command node command → ⊥) → (es : List Entry) → AreCountsOf a es → AreCountsOf a (es ++ e ∷ [])
of_no_kind a (entry.Sent at session pid message) s g k u c es old = absurd (s at session pid message refl)
of_no_kind a (entry.Got at session pid message) s g k u c es old = absurd (g at session pid message refl)
of_no_kind a (entry.Acked at session count) s g k u c es old = absurd (k at session count refl)
of_no_kind a (entry.Up at session) s g k u c es old = absurd (u at session refl)
of_no_kind a (entry.Command node command) s g k u c es old = absurd (c node command refl)
of_no_kind a e s g k u c es old = counts_more a a e refl refl refl refl refl es old

-- an entry of no kind between others isn't counted
skipped : (kind : Entry → Bool) (es : List Entry) (x : Entry) (more : List Entry) → kind x ≡ false
    → count_of_kind kind (es ++ more) ≡ count_of_kind kind (es ++ x ∷ more)
skipped kind es x more q =
    let one : filter kind (x ∷ more) ≡ filter kind more = rw q refl in
    ap (λ l. min (length l) (2 ^ 64 - 1)) (filter-append kind es more ∙ ap (λ l. filter kind es ++ l) (sym one) ∙ sym (filter-append kind es (x ∷ more)))

echo_skipped : (c : Counts) (es : List Entry) (line : Line) (more : List Entry) → AreCountsOf c (es ++ more) → AreCountsOf c (es ++ entry.Echo line ∷ more)
echo_skipped c es line more a =
    record {
      sent = a.sent ∙ skipped is_noted_sent es (entry.Echo line) more refl;
      got = a.got ∙ skipped is_noted_got es (entry.Echo line) more refl;
      acked = a.acked ∙ skipped is_noted_acked es (entry.Echo line) more refl;
      up = a.up ∙ skipped is_noted_up es (entry.Echo line) more refl;
      commands = a.commands ∙ skipped is_noted_command es (entry.Echo line) more refl;
    }

-- what is told of one line more is counted
pub line_counted : (c : Counts) (lines : List Line) (line : Line)
    → AreCountsOf c (nodes_told (nodes_history the_header lines) ++ told_below the_header lines line)
    → AreCountsOf c (nodes_told (nodes_history the_header (lines ++ line ∷ [])))
line_counted c lines line a =
    subst (AreCountsOf c) (sym (nodes_told-push the_header lines line))
    (echo_skipped c (nodes_told (nodes_history the_header lines)) line (told_below the_header lines line) a)

-- ## Lines

settles_not : (l : Line) → is_harmless l ≡ true → is_settling l ≡ false
settles_not l q = grind arith

read_right : (w : NodeWorld) (l : Line) → is_harmless l ≡ true → misread_in w l ≡ None
read_right w l q = grind arith

none_misread : (lines : List Line) (w : NodeWorld) → AllByRecursion IsHarmless lines → NoneIsMisread w lines
none_misread [] w a = tt
none_misread (l ∷ lines) w a = (read_right w l a.0.1, none_misread lines (line_step w l).0 a.1)

never_settles : (l : Line) → is_settling l ≡ false → (rounds : ℕ) → l ≡ saying.Settle rounds → ⊥
never_settles l still rounds same = grind arith

in_ranges : (lines : List Line) → AllByRecursion IsHarmless lines → AreNodeLinesOf the_header lines
in_ranges [] a = tt
in_ranges (l ∷ lines) a = (in_range the_header l a.0.0 (never_settles l (settles_not l a.0.1)), in_ranges lines a.1)

-- ## Its history

pub drawn_is_played : (n : ℕ) → IsNodeHeader the_header → IsPlayed the_header (drawn_lines n) (OfNodes (nodes_history the_header (drawn_lines n)))
drawn_is_played n header =
    let are = lines_may_be_played n in (
      header,
      in_ranges (drawn_lines n) are,
      (let count = lines_count n in let few = asking_few (drawn_lines n) in omega (arith, count, few)),
      record {
        nodes = refl;
        header_is = refl;
        steps_are = refl;
        sure = none_misread (drawn_lines n) (new_world the_header.hosts.items) are;
      },
    )

-- a text with the counts of what is told of it is its summary
pub drawn_summary : (n : ℕ) (text : List ℕ) → IsNodeHeader the_header
    → text ≡ summary_line n (nodes_told (nodes_history the_header (drawn_lines n))) → IsSummary n text
drawn_summary n text header is =
    let t = nodes_history the_header (drawn_lines n) in
    let played = drawn_is_played n header in
    record { history = t; played = played; legal = played_legal the_header (drawn_lines n) (OfNodes t) played; text_is = is }

-- ## Its text

pub told_as_counted : (n : ℕ) (c : Counts) (t : List Entry) → AreCountsOf c t → told_line n c.sent c.got c.acked c.up c.commands ≡ summary_line n t
told_as_counted n c t a = grind arith

-- ## The lines that were run

-- they are what is played of them
pub run-append : (lines : List Line) (line : Line) → map Said (lines ++ line ∷ []) ≡ map Said lines ++ Said line ∷ []
run-append [] line = refl
run-append (l ∷ lines) line = ap (λ ps. Said l ∷ ps) (run-append lines line)

all_said : (lines before : List Line) → fold (λ (ls : List Line) (p : Play). ls ++ lines_of_play the_header ls p) before (map Said lines) ≡ before ++ lines
all_said [] before = sym (append-nil before)
all_said (l ∷ lines) before = all_said lines (before ++ l ∷ []) ∙ append_assoc before (l ∷ []) lines

pub lines_run : (lines : List Line) → lines_played the_header (map Said lines) ≡ lines
lines_run lines = all_said lines []

many_run : (lines : List Line) → lines_said (map Said lines) ≡ length lines
many_run [] = refl
many_run (l ∷ lines) = ap suc (many_run lines)

pub run_room : (g : Generating) (lines : List Line) → HasCounted g lines → length lines < 20000 → HasRoomForLine g.world
run_room g lines counted few =
    record {
      plays = map Said lines;
      stands = under_own_header g.world the_header (map Said lines) counted.stands;
      few = (let many = many_run lines in omega (arith, many, few));
    }

pub few_run : (i : ℕ) (items : List Line) → length items < 20000 → length (take i items) < 20000
few_run i items few = let some = length-take i items in omega (arith, few, some)

pub few_drawn : (n : ℕ) (items : List Line) → items ≡ drawn_lines n → length items < 20000
few_drawn n items is = let all = lines_count n in let same = ap length is in omega (arith, all, same)

pub harmless_drawn : (n : ℕ) (items : List Line) → items ≡ drawn_lines n → AllByRecursion IsHarmless items
harmless_drawn n items is = subst (AllByRecursion IsHarmless) (sym is) (lines_may_be_played n)

all_at : (lines : List Line) (i : ℕ) (d : Line) → AllByRecursion IsHarmless lines → i < length lines → IsHarmless (get_or lines i d)
all_at [] i d a q = absurd (omega (arith, q))
all_at (l ∷ lines) zero d a q = a.0
all_at (l ∷ lines) (suc i) d a q = all_at lines i d a.1 (omega (arith, q))

pub harmless_at : (i : ℕ) (items : List Line) (l : Line) → AllByRecursion IsHarmless items → i < length items → l ≡ get_or items i l → IsHarmless l
harmless_at i items l harmless within at = subst IsHarmless (sym at) (all_at items i l harmless within)

pub all_run : (g : Generating) (i : ℕ) (items : List Line) → length items ≤ i → HasCounted g (take i items)
    → AreCountsOf g.counts (nodes_told (nodes_history the_header items))
all_run g i items all run =
    let P : List Line → Type 0 = λ l. AreCountsOf g.counts (nodes_told (nodes_history the_header l)) in
    subst P (take_all i items all) run.counts

pub drawn_header_is : IsNodeHeader the_header
drawn_header_is = grind arith

-- a line that tells these counts is the summary of a legal history
pub counts_are_summary : (n : ℕ) (c : Counts) (text : List ℕ) → AreCountsOf c (nodes_told (nodes_history the_header (drawn_lines n)))
    → text ≡ told_line n c.sent c.got c.acked c.up c.commands → IsSummary n text
counts_are_summary n c text a is =
    drawn_summary n text drawn_header_is (is ∙ told_as_counted n c (nodes_told (nodes_history the_header (drawn_lines n))) a)
