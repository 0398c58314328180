-- Text that is gathered behind text.
use Rattle.swp_tool.proofs.Words.{Bool, Entry, Header, Line, Link, List, NodeWorld, OfLink, OfNodes, [], ap, append-nil, append_assoc, arith, bare_link}
use Rattle.swp_tool.proofs.Words.{bare_link_behind, common_steps, cond, eqb, false, flat_map, flat_map-append, history_below, length, line_step, link_history}
use Rattle.swp_tool.proofs.Words.{link_steps_from, new_world, nodes_behind, nodes_history, nodes_told, played_told, refl, sym, told_below, true, ℕ, ◌++◌, ◌<◌}
use Rattle.swp_tool.proofs.Words.{◌∙◌, ◌∷◌, ◌≡◌}
use Rattle.trace_model.specs.declared.entry.Entry.TheVariants as entry
use Rattle.history.specs.Histories.{Step, noted}
use Rattle.history.specs.Follows.{host_of, opening_of, link_after_line, link_after_lines, outcome_of}
use Rattle.node_machine.specs.world.NodeHistories.{LineStep, steps_from, world_after}
use Rattle.told_laws.specs.told.Told.{step_told, entries_told}
use Rattle.told_laws.specs.told.NodesTold.{line_told}

-- ## What a line adds to a history

link_steps-push : (h : ℕ) (l : Link) (lines : List Line) (line : Line)
    → link_steps_from h l (lines ++ line ∷ [])
    ≡ link_steps_from h l lines ++ record { line = line; outcome = outcome_of h (link_after_lines h l lines) line } ∷ []
link_steps-push h l [] line = refl
link_steps-push h l (x ∷ lines) line =
    let step : Step = record { line = x; outcome = outcome_of h l x } in
    ap (λ (steps : List Step). step ∷ steps) (link_steps-push h (link_after_line l step.outcome) lines line)

node_steps-push : (w : NodeWorld) (lines : List Line) (line : Line)
    → steps_from w (lines ++ line ∷ []) ≡ steps_from w lines ++ record { line = line; outcome = (line_step (world_after w lines) line).1 } ∷ []
node_steps-push w [] line = refl
node_steps-push w (x ∷ lines) line =
    let step : LineStep = record { line = x; outcome = (line_step w x).1 } in
    ap (λ (steps : List LineStep). step ∷ steps) (node_steps-push (line_step w x).0 lines line)

-- what is told of steps, and of one more
told-push : {X : Type 0} (told : X → List Entry) (steps : List X) (step : X) → flat_map told (steps ++ step ∷ []) ≡ flat_map told steps ++ told step
told-push told steps step = flat_map-append told steps (step ∷ []) ∙ ap (λ l. flat_map told steps ++ l) (append-nil (told step))

link_told-push : (header : Header) (lines : List Line) (line : Line)
    → entries_told (link_history header (lines ++ line ∷ []))
    ≡ entries_told (link_history header lines) ++ (entry.Echo line ∷ noted (outcome_of (host_of header) (bare_link_behind header lines) line))
link_told-push header lines line =
    let h = host_of header in
    let steps = link_steps_from h bare_link lines in
    let step : Step = record { line = line; outcome = outcome_of h (bare_link_behind header lines) line } in
    ap (λ l. entry.Head header ∷ (opening_of h ++ l)) (ap (flat_map step_told) (link_steps-push h bare_link lines line) ∙ told-push step_told steps step)
    ∙ ap (λ l. entry.Head header ∷ l) (sym (append_assoc (opening_of h) (flat_map step_told steps) (step_told step)))

pub nodes_told-push : (header : Header) (lines : List Line) (line : Line)
    → nodes_told (nodes_history header (lines ++ line ∷ []))
    ≡ nodes_told (nodes_history header lines) ++ line_told (record { line = line; outcome = (line_step (nodes_behind header lines) line).1 })
nodes_told-push header lines line =
    let w = new_world header.hosts.items in
    let step : LineStep = record { line = line; outcome = (line_step (nodes_behind header lines) line).1 } in
    ap (λ l. entry.Head header ∷ l) (ap (flat_map line_told) (node_steps-push w lines line) ∙ told-push line_told (steps_from w lines) step)

pub told_more : (header : Header) (lines : List Line) (line : Line)
    → played_told (history_below header (lines ++ line ∷ [])) ≡ played_told (history_below header lines) ++ (entry.Echo line ∷ told_below header lines line)
told_more header lines line = go header.hci
  where
    more : List Line
    more = lines ++ line ∷ []

    go : (nodes : Bool) → played_told (cond nodes (OfNodes (nodes_history header more)) (OfLink (link_history header more)))
        ≡ played_told (cond nodes (OfNodes (nodes_history header lines)) (OfLink (link_history header lines)))
        ++ (entry.Echo line ∷ told_below (record header { hci = nodes }) lines line)
    go true = nodes_told-push header lines line
    go false = link_told-push header lines line

-- ## Answers

-- a list that tests as empty, or doesn't
pub tests_empty : {X : Type 0} (xs : List X) (b : Bool) → b ≡ eqb (length xs) 0 → b ≡ true → xs ≡ []
tests_empty [] b is holds = refl
tests_empty (x ∷ xs) b is holds = absurd (let e : eqb (length (x ∷ xs)) 0 ≡ false = grind (arith, common_steps) in cc)

pub tests_some : {X : Type 0} (xs : List X) (b : Bool) → b ≡ eqb (length xs) 0 → b ≡ false → 0 < length xs
tests_some xs b is fails = grind arith
