use Rattle.std.proofs.Common.{◌≡◌, ℕ, false, true, List, [], ◌∷◌, ◌++◌, replicate, refl, ap, subst, ◌∙◌, arith}
use Rattle.trace_model.specs.declared.entry.Entry.{Entry}
use Rattle.trace_model.specs.declared.line.Header.{Header}
use Rattle.lines_told.specs.lines.Plays.{lines_played, rounds_to_rest, told_of_play}
use Rattle.lines_told.specs.lines.Plays.Play.{Round}
use Rattle.world.specs.declared.world_steps.World.{World}
use Rattle.world.specs.Worlds.{IsWorldAt, world_header}
use Rattle.world.proofs.Playing.{plays_may, begins_so}
use Rattle.world_laws.proofs.schedules.Resting.{brings_all}
use Rattle.world_settle.specs.Fronts.{IsFrontNoted}
use Rattle.world_settle.proofs.Rounds.{all_needed, none_needed, rests_so, room_behind, under_own_header}
use Rattle.world_settle.proofs.Going.{any_err, breaks_off, noted_whole, told_whole, was_long, went_more, went_none}
use Rattle.world_settle.proofs.settling.settle.Goals as goal
use Rattle.world_settle.proofs.settling.settle.Goals.{then-rounds-test+else-not-quiet, else-rounds-test}

pub rounds-init : goal.rounds-init
rounds-init g c = record {
  few = omega arith;
  goes = λ plays at. went_none c.args.rounds at;
  stays = λ short. short;
  header = refl;
}

pub quiet-requires : goal.quiet-requires
quiet-requires g c =
    let r = c.requires.room in
    let header : Header = world_header c.args.world.now in
    let h = c.rounds.invariant.goes r.plays r.stands in
    let plays = r.plays ++ replicate c.rounds.done Round in
    (plays, (under_own_header c.rounds.world header plays h.stands).stands)

pub round-requires : goal.round-requires
round-requires g c =
    let r = c.requires.room in
    let h = c.rounds.invariant.goes r.plays r.stands in
    room_behind c.rounds.world (world_header c.args.world.now) r.plays c.args.rounds c.rounds.done r.few c.rounds-test.true h.stands

pub rounds-preserved : goal.rounds-preserved
rounds-preserved g c =
    let short = g.W.Watch.is_short in
    let noted = g.W.Watch.noted in
    let header : Header = world_header c.args.world.now in
    let w : World = c.rounds.world in
    let next : World = c.round.new.self in
    let k : ℕ = c.rounds.done in
    let inv = c.rounds.invariant in
    let mid : List Entry = noted c.rounds.watch in
    let later = c.note_all.new.watch in
    record {
      few = omega (arith, c.rounds-test.true);
      goes = λ plays at.
          (let h = inv.goes plays at in
          let before = plays ++ replicate k Round in
          let own = under_own_header w header before h.stands in
          let moves = rests_so w header before c.quiet.result false h.stands c.quiet.ensures c.if-not-quiet.true in
          let S : Header → Type 0 = λ x. IsWorldAt next x (before ++ Round ∷ []) in
          let T : List Entry → Type 0 = λ es. short later ≡ false → noted later ≡ mid ++ es in
          let told : c.entries.result.now ≡ told_of_play header (lines_played header before) Round =
          c.entries.ensures ∙ (c.in_ok-round.ensures.entries before own ∙ ap (λ x. told_of_play x (lines_played x before) Round) h.stands.header_is) in
          went_more h c.rounds-test.true moves (subst S h.stands.header_is (c.in_ok-round.ensures.stands before own))
          (was_long (short c.rounds.watch) (short later) c.note_all.ensures.stays) (subst T told c.note_all.ensures.noted));
      stays = λ s. c.note_all.ensures.stays (inv.stays s);
      header = c.in_ok-round.ensures.header ∙ inv.header;
    }

-- memory ran out in a round
pub returns-in_err-round-clause-broken : goal.returns-in_err-round-clause-broken
returns-in_err-round-clause-broken g c plays at =
    let short = g.W.Watch.is_short in
    let noted = g.W.Watch.noted in
    let header : Header = world_header c.args.world.now in
    let n : ℕ = c.args.rounds in
    let h = c.rounds.invariant.goes plays at in
    let broken : short c.rounds.watch ≡ false
    → IsFrontNoted (noted c.args.watch.now) (noted c.rounds.watch) (told_whole header plays n (rounds_to_rest header plays n)) = λ long.
    breaks_off (noted c.args.watch.now) h
    (c.note.ensures.noted (was_long (short c.note.new.self) (short c.rounds.watch) c.rounds.invariant.stays long)) long in
    any_err c.from_residual.result broken

-- as many rounds were gone through as all links needed, or as there may be
pub returns-clause-settled : goal.returns-clause-settled
returns-clause-settled g c plays at =
    let header : Header = world_header c.args.world.now in
    let n : ℕ = c.args.rounds in
    let k : ℕ = c.rounds.done in
    let inv = c.rounds.invariant in
    let h = inv.goes plays at in
    elim c.rounds-test.branch [
      | then-rounds-test+else-not-quiet w ↦
          none_needed header plays n k w.rounds-test.true
          (rests_so c.rounds.world header (plays ++ replicate k Round) w.quiet.result true h.stands w.quiet.ensures w.if-not-quiet.false) h.need
      | else-rounds-test w ↦
          (let few = inv.few in
          let all : k ≡ n = omega (arith, w.rounds-test.false, few) in
          all ∙ all_needed header plays n k all h.need)
    ]

pub returns-clause-stands : goal.returns-clause-stands
returns-clause-stands g c plays at = (c.rounds.invariant.goes plays at).stands

pub returns-clause-brought : goal.returns-clause-brought
returns-clause-brought g c plays at =
    let w : World = c.args.world.now in
    let begun = begins_so w.below (world_header w) plays at.stands in
    let may = plays_may (world_header w) w.below plays at.stands in
    brings_all (world_header w) begun plays may c.args.rounds c.rounds.done (returns-clause-settled g c plays at)

pub returns-clause-noted : goal.returns-clause-noted
returns-clause-noted g c plays at long =
    let short = g.W.Watch.is_short in
    let noted = g.W.Watch.noted in
    let header : Header = world_header c.args.world.now in
    let start : List Entry = noted c.args.watch.now in
    let last : List Entry = noted c.note-2.new.self in
    let gone = was_long (short c.rounds.watch) (short c.note-2.new.self) c.note-2.ensures.stays long in
    let begun = was_long (short c.note.new.self) (short c.rounds.watch) c.rounds.invariant.stays gone in
    let whole : last ≡ start ++ told_whole header plays c.args.rounds c.rounds.done =
    noted_whole start last (c.rounds.invariant.goes plays at) gone (c.note.ensures.noted begun) (c.note-2.ensures.noted long) in
    let P : ℕ → Type 0 = λ r. last ≡ start ++ told_whole header plays c.args.rounds r in
    subst P (returns-clause-settled g c plays at) whole
