use Rattle.std.proofs.lemmas.List.{take_more}
use Rattle.std.proofs.lemmas.List.Elements.{filter_map-append}
use Rattle.node_deeds.proofs.Words.{KeptDesk, List, None, Option, PipeRow, Some, [], ap, append-nil, arith, awaited_pipe, cons_option, false, filter_map}
use Rattle.node_deeds.proofs.Words.{get_or, length, option_map, sym, take, ℕ, ◌++◌, ◌+◌, ◌<◌, ◌∙◌, ◌∷◌, ◌≡◌}
use Rattle.node_deeds.specs.Shown.{awaited_row}
use Rattle.node_deeds.proofs.view.waiting_pipes.Goals as goal
use Rattle.node_deeds.proofs.view.waiting_pipes.Goals.{in-Some, in_default}

-- one desk more
more : (desks : List KeptDesk) (i : ℕ) (d : KeptDesk) (o : Option PipeRow) → i < length desks → awaited_row (get_or desks i d) ≡ o
    → filter_map awaited_pipe (take (i + 1) desks) ≡ filter_map awaited_pipe (take i desks) ++ cons_option (option_map (λ (row : PipeRow). row.pid) o) []
more desks i d o below is =
    ap (filter_map awaited_pipe) (take_more desks i d below)
    ∙ (filter_map-append awaited_pipe (take i desks) (get_or desks i d ∷ [])
    ∙ ap (λ a. filter_map awaited_pipe (take i desks) ++ cons_option (option_map (λ (row : PipeRow). row.pid) a) []) is)

none_more : (xs : List ℕ) → xs ≡ xs ++ []
none_more xs = sym (append-nil xs)

pub loop-desk-preserved : goal.loop-desk-preserved
loop-desk-preserved c =
    let desks = c.args.desks.now in
    let i = c.loop-desk.desk-index in
    let d : KeptDesk = record { host = 0; notice = None; holds = false; errors = 0 } in
    let here = sym c.awaited.ensures in
    let so_far = c.loop-desk.invariant in
    elim c.match-awaited.branch [
      | in-Some w ↦
          let len = w.push.ensures.len in
          let same = ap (λ v. length v.items) w.pipes-is in
          record {
            items = ap (λ v. v.items) w.pipes-is
                ∙ (w.push.ensures.items
                ∙ (ap (λ xs. xs ++ w.in-Some.row.pid ∷ []) so_far.items
                ∙ sym (more desks i d (Some w.in-Some.row) c.loop-desk-test.true (here ∙ w.in-Some.is))));
            few = omega arith;
          }
      | in_default w ↦
          let same = ap (λ v. length v.items) w.pipes-is in
          record {
            items = ap (λ v. v.items) w.pipes-is
                ∙ (so_far.items ∙ (none_more _ ∙ sym (more desks i d None c.loop-desk-test.true (here ∙ w.in_default.is))));
            few = omega arith;
          }
    ]
