-- The text of the line and of what it caused stands behind that of the lines before it.
use Rattle.swp_tool.proofs.Words.{Halt, HaltsBefore, HaltsOn, HasFew, HasPlayed, Header, IsWorldAt, Line, List, MayFollow, None, Ok, Play, Replay, Runs, Said}
use Rattle.swp_tool.proofs.Words.{Schedule, WasStepped, [], and_said, ap, append_assoc, arith, entry_line, entry_lines, halt_of, lines_played, misread_below}
use Rattle.swp_tool.proofs.Words.{plays_of, refl, schedule_told, subst, sym, told_below, world_header, ℕ, ◌++◌, ◌+◌, ◌∙◌, ◌∷◌, ◌≡◌}
use Rattle.trace_model.specs.declared.entry.Entry.TheVariants as entry
use Rattle.schedule_text.specs.declared.read.Read.TheVariants as read
use Rattle.lines_told.proofs.lines.Told.{no_more_rounds, one_said}
use Rattle.swp_tool.proofs.Playing.{few_more, has_room, has_rounds_left, settles_few, settles_not, settles_well, under_own_header, halts_on, went_on}
use Rattle.swp_tool.proofs.Playing.{halted_there}
use Rattle.swp_tool.proofs.Happened.{said_plays, said_text-push}
use Rattle.swp_tool.proofs.RoundLemmas.{err_is}
use Rattle.swp_tool.proofs.replay.Replay.go_on.Goals.{in-Settle+in_ok-settle-in-Settle}
use Rattle.swp_tool.proofs.replay.Replay.go_on.Goals.{in_default-line+in_ok-step-in_default-line+in_ok-write_step-in_default-line}
use Rattle.swp_tool.proofs.replay.Replay.go_on.Goals as goal

-- the world was stepped by no more lines than were read
pub settle-requires-clause-room : goal.settle-requires-clause-room
settle-requires-clause-room c =
    let w = c.in-Some.world in
    let may : MayFollow (world_header w) c.args.line.now = rw c.in-Some.is at c.requires.world in
    has_rounds_left w c.args.self.now.count c.in-Settle.rounds (c.requires.few.steps w c.in-Some.is) c.requires.next
    (settles_few (world_header w) c.args.line.now c.in-Settle.rounds c.in-Settle.is may)

-- any other line is a step
pub step-requires : goal.step-requires
step-requires c =
    let w = c.in-Some.world in
    let may : MayFollow (world_header w) c.args.line.now = rw c.in-Some.is at c.requires.world in
    record {
      line = record { may_follow = may; settles_not = settles_not c.args.line.now c.in_default-line.not-Settle };
      room = has_room w c.args.self.now.count (c.requires.few.steps w c.in-Some.is) c.requires.next;
    }

-- the line was played
pub returns-clause-played : goal.returns-clause-played
returns-clause-played c s written h =
    let line = c.args.line.now in
    let P : Replay → Type 0 = λ r. HasPlayed (record r { count = r.count + 1 }) (and_said s (Ok (read.Line line))) written in
    elim c.match-line.branch [
      | in-Settle+in_ok-settle-in-Settle w ↦
          subst P (sym w.self-is)
          (went_on line h c.in-Some.is refl refl
          (λ header lines before was.
          subst (λ (l : Line). Runs w.settle.new.world header (lines ++ l ∷ []) (before ++ w.settle.new.text.items)) (sym w.in-Settle.is)
          (w.in_ok-settle-in-Settle.ensures.runs header lines before was))
          (λ header plays stands. subst (λ (l : Line). misread_below header (lines_played header plays) l ≡ None) (sym w.in-Settle.is)
          (settles_well header (lines_played header plays) w.in-Settle.rounds)))
      | in_default-line+in_ok-step-in_default-line+in_ok-write_step-in_default-line w ↦
          subst P (sym w.self-is)
          (went_on line h c.in-Some.is refl refl
          (λ header lines before runs.
          let plays = plays_of header lines in
          let same = runs.stands.header_is in
          let still = settles_not line w.in_default-line.not-Settle in
          let stands = under_own_header c.in-Some.world header plays runs.stands in
          let Q : Header → Type 0 = λ h. IsWorldAt w.step.new.self h (plays ++ Said line ∷ []) in
          let below : w.entries.result.now ≡ told_below header (lines_played header plays) line =
          w.entries.ensures ∙ (w.in_ok-step-in_default-line.ensures.entries plays stands ∙ ap (λ h. told_below h (lines_played h plays) line) same) in
          let more = entry_line (entry.Echo line) ++ entry_lines w.entries.result.now in
          let was = entry_lines (schedule_told header lines) in
          record {
            stands = subst (IsWorldAt w.step.new.self header) (sym (said_plays header lines line still))
                (subst Q same (w.in_ok-step-in_default-line.ensures.stands plays stands));
            text_is = ap (λ l. before ++ l) w.in_ok-write_step-in_default-line.ensures.ok
                ∙ (sym (append_assoc before c.args.self.now.text.items more)
                ∙ (ap (λ l. l ++ more) runs.text_is
                ∙ (ap (λ l. was ++ (entry_line (entry.Echo line) ++ entry_lines l)) below ∙ sym (said_text-push header lines line still))));
          })
          (λ header plays stands.
          ap (λ h. misread_below h (lines_played h plays) line) (sym stands.header_is)
          ∙ w.in_ok-step-in_default-line.ensures.told plays (under_own_header c.in-Some.world header plays stands)))
    ]

pub returns-clause-few : goal.returns-clause-few
returns-clause-few c =
    let line = c.args.line.now in
    let w = c.in-Some.world in
    let count = c.args.self.now.count in
    let was : WasStepped w count = c.requires.few.steps w c.in-Some.is in
    let P : Replay → Type 0 = λ r. HasFew (record r { count = r.count + 1 }) in
    elim c.match-line.branch [
      | in-Settle+in_ok-settle-in-Settle v ↦
          subst P (sym v.self-is) (few_more c.requires.next refl refl (v.in_ok-settle-in-Settle.ensures.stepped count was))
      | in_default-line+in_ok-step-in_default-line+in_ok-write_step-in_default-line v ↦
          let said = one_said was.plays line in
          let rounds = no_more_rounds was.plays line in
          let few = was.few in
          let so_far = was.rounds in
          let next : List Play = was.plays ++ Said line ∷ [] in
          let now : WasStepped v.step.new.self (count + 1) =
          record {
            plays = next;
            stands = under_own_header v.step.new.self (world_header w) next (v.in_ok-step-in_default-line.ensures.stands was.plays was.stands);
            few = omega (arith, said, few);
            rounds = omega (arith, rounds, so_far);
          } in
          subst P (sym v.self-is) (few_more c.requires.next refl refl now)
    ]

-- the world halted at the line
pub returns-in_err-step-in_default-line-clause-halts : goal.returns-in_err-step-in_default-line-clause-halts
returns-in_err-step-in_default-line-clause-halts c =
    let line = c.args.line.now in
    let w = c.in-Some.world in
    let fault = c.in_err-step-in_default-line.field-0.0 in
    err_is
    (λ (e : Halt). (s : Schedule) (written : List ℕ) → HasPlayed c.args.self.now s written → HaltsBefore e (and_said s (Ok (read.Line line))))
    c.from_residual-in_err-step-in_default-line.result (halt_of fault) c.from_residual-in_err-step-in_default-line.ensures.1
    (λ s written h. halted_there line (halt_of fault) h c.in-Some.is
    (λ (header : Header) (plays : List Play) (stands : IsWorldAt w header plays).
    subst (λ (h : Header). HaltsOn (halt_of fault) (misread_below h (lines_played h plays) line)) stands.header_is
    (halts_on fault (world_header w) (lines_played (world_header w) plays) line
    (c.in_err-step-in_default-line.ensures.fault plays (under_own_header w header plays stands)))))
