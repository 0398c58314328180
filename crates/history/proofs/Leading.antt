-- Where events, steps and lines lead a link.
use Rattle.history.proofs.Words.{Cause, Event, Follows, Header, History, Line, Link, List, Outcome, Step, StepsFollow, [], ap, bare_link, causes_of, events_of}
use Rattle.history.proofs.Words.{flat_map, host_of, link_after, link_after_all, link_after_line, link_after_lines, link_at, refl, ℕ, ◌++◌, ◌∙◌, ◌∷◌, ◌≡◌}

-- the events of steps
abbrev pub events_in : List Step → List Event
events_in steps = flat_map (λ (step : Step). events_of step.outcome) steps

causes_of-append : (a b : List Event) → causes_of (a ++ b) ≡ causes_of a ++ causes_of b
causes_of-append [] b = refl
causes_of-append (x ∷ a) b = ap (λ cs. x.cause ∷ cs) (causes_of-append a b)

after_both : (l : Link) (cs ds : List Cause) → link_after_all l (cs ++ ds) ≡ link_after_all (link_after_all l cs) ds
after_both l [] ds = refl
after_both l (c ∷ cs) ds = after_both (link_after l c) cs ds

-- the link after these events, and then those
pub after_events : (l : Link) (a b : List Event) → link_after_all l (causes_of (a ++ b)) ≡ link_after_all (link_after_all l (causes_of a)) (causes_of b)
after_events l a b = ap (link_after_all l) (causes_of-append a b) ∙ after_both l (causes_of a) (causes_of b)

-- steps that follow lines lead where the lines lead
steps_lead : (h : ℕ) (l : Link) (lines : List Line) (steps : List Step) → StepsFollow h l lines steps
    → link_after_all l (causes_of (events_in steps)) ≡ link_after_lines h l lines
steps_lead h l [] [] follows = refl
steps_lead h l [] (step ∷ steps) follows = absurd follows
steps_lead h l (line ∷ lines) [] follows = absurd follows
steps_lead h l (line ∷ lines) (step ∷ steps) follows =
    let now : Outcome → Link = λ o. link_after_line l o in
    after_events l (events_of step.outcome) (events_in steps)
    ∙ steps_lead h (now step.outcome) lines steps follows.3
    ∙ ap (λ o. link_after_lines h (now o) lines) follows.1

-- a history that follows lines leaves the link where they lead
pub lines_lead : (header : Header) (lines : List Line) (t : History) → Follows header lines t
    → link_at t ≡ link_after_lines (host_of header) bare_link lines
lines_lead header lines t h = steps_lead (host_of header) bare_link lines t.steps h.steps_follow
