use Rattle.world.proofs.Words.{Below, Entry, List, MayCountBelow, MayOpen, OpenLine, Play, Round, Said, Some, World, ap, lines_said, map, refl, replicate}
use Rattle.world.proofs.Words.{rounds_played, subst, sym, ℕ, ◌++◌, ◌+◌, ◌-◌, ◌∙◌, ◌≡◌}
use Rattle.trace_model.specs.declared.entry.Entry.TheVariants.{Echo, Settled}
use Rattle.trace_model.specs.declared.line.Line.TheVariants as line
use Rattle.node_world.proofs.WorldsStepped.{few_at_all}
use Rattle.world.specs.Worlds.{MayBeMarked, MayClose}
use Rattle.world.proofs.Below.{bare_counts, stands_nodes}
use Rattle.world.proofs.Playing.{closes_at_most, closes_few, closes_for, closes_rounds, closes_said, may_count, opens, parts_done, plays_are}
use Rattle.world.proofs.world_steps.World.mark.Goals as goal

pub returns-in-Settle-clause-opens : goal.returns-in-Settle-clause-opens
returns-in-Settle-clause-opens c plays most at is =
    let old : World = c.args.self.now in
    let rounds = c.in-Settle.rounds in
    let echo : Echo (line.Settle most) ≡ Echo c.in-Echo.line = sym is ∙ c.in-Echo.is in
    let first : line.Settle most ≡ c.in-Echo.line = cc in
    let both : line.Settle most ≡ line.Settle rounds = first ∙ c.in-Settle.is in
    let same : most ≡ rounds = cc in
    let may : MayOpen old most = subst (MayBeMarked old) is c.requires in
    let new : World = record old { opened = Some (record { most = rounds; parts = 0 }) } in
    opens old new old.header plays most may at refl refl (ap (λ n. Some (record { most = n; parts = 0 })) (sym same))

-- its parts may count as the rounds that they come to
may_be_counted : (old : World) (entry : Entry) (rounds : ℕ) (l : OpenLine) → MayBeMarked old entry → entry ≡ Settled rounds → old.opened ≡ Some l
    → MayCountBelow old.below l.parts rounds
may_be_counted old entry rounds l marked is opened =
    let may : MayClose old rounds = subst (MayBeMarked old) is marked in
    let s = may.settled in
    let least = closes_at_most old old.header may.plays may.most may.parts s.within rounds s.rounds_are in
    subst (λ n. MayCountBelow old.below n rounds) (sym (parts_done old.opened l s.within.opened opened))
    (may_count old.below old.header may.plays may.parts may.most rounds s.within.stands s.within.room least)

pub count_as_rounds-requires : goal.count_as_rounds-requires
count_as_rounds-requires c =
    let l : OpenLine = c.in-Some.opened in
    let P : Below → Type 0 = λ b. MayCountBelow b l.parts c.in-Settled.rounds in
    subst P c.in-Bare.is
    (may_be_counted c.args.self.now c.args.entry.now c.in-Settled.rounds l c.requires c.in-Settled.is (sym c.take.ensures.value ∙ c.in-Some.is))

pub count_as_rounds-requires-in-Nodes : goal.count_as_rounds-requires-in-Nodes
count_as_rounds-requires-in-Nodes c =
    let l : OpenLine = c.in-Some.opened in
    let P : Below → Type 0 = λ b. MayCountBelow b l.parts c.in-Settled.rounds in
    subst P c.in-Nodes.is
    (may_be_counted c.args.self.now c.args.entry.now c.in-Settled.rounds l c.requires c.in-Settled.is (sym c.take.ensures.value ∙ c.in-Some.is))

pub returns-in-Bare-clause-closes : goal.returns-in-Bare-clause-closes
returns-in-Bare-clause-closes c plays most parts rounds is s =
    let old : World = c.args.self.now in
    let header = old.header in
    let same : c.in-Settled.rounds ≡ rounds = (let z : Settled c.in-Settled.rounds ≡ Settled rounds = sym c.in-Settled.is ∙ is in cc) in
    let done = parts_done old.opened c.in-Some.opened s.within.opened (sym c.take.ensures.value ∙ c.in-Some.is) in
    let next : List Play = plays ++ replicate rounds Round in
    let few = closes_few old header plays most parts s.within rounds s.rounds_are in
    let may = closes_for old header plays most parts s.within rounds s.rounds_are (plays_are old.below header plays (map Said parts) s.within.stands) in
    let said = closes_said old header plays most parts s.within rounds s.rounds_are in
    let played = closes_rounds old header plays most parts s.within rounds s.rounds_are in
    record {
      header_is = refl;
      closed = c.take.ensures.after;
      few = few;
      stands = bare_counts old.below c.in-Bare.world c.in-Bare.is header (plays ++ map Said parts) s.within.stands c.count_as_rounds.new.self next
          c.in-Some.opened.parts c.in-Settled.rounds c.count_as_rounds.ensures.stands s.lines_are may (few_at_all next few)
          (said ∙ ap (λ n. lines_said (plays ++ map Said parts) - n) (sym done)) (played ∙ ap (λ n. rounds_played (plays ++ map Said parts) + n) (sym same));
    }

pub returns-in-Nodes-clause-closes : goal.returns-in-Nodes-clause-closes
returns-in-Nodes-clause-closes c plays most parts rounds is s =
    let old : World = c.args.self.now in
    let header = old.header in
    let same : c.in-Settled.rounds ≡ rounds = (let z : Settled c.in-Settled.rounds ≡ Settled rounds = sym c.in-Settled.is ∙ is in cc) in
    let done = parts_done old.opened c.in-Some.opened s.within.opened (sym c.take.ensures.value ∙ c.in-Some.is) in
    let next : List Play = plays ++ replicate rounds Round in
    let few = closes_few old header plays most parts s.within rounds s.rounds_are in
    let may = closes_for old header plays most parts s.within rounds s.rounds_are (plays_are old.below header plays (map Said parts) s.within.stands) in
    let said = closes_said old header plays most parts s.within rounds s.rounds_are in
    let played = closes_rounds old header plays most parts s.within rounds s.rounds_are in
    record {
      header_is = refl;
      closed = c.take.ensures.after;
      few = few;
      stands = c.count_as_rounds-in-Nodes.ensures.stands header (plays ++ map Said parts) next
          (stands_nodes old.below c.in-Nodes.world header (plays ++ map Said parts) c.in-Nodes.is s.within.stands) s.lines_are may (few_at_all next few)
          (said ∙ ap (λ n. lines_said (plays ++ map Said parts) - n) (sym done)) (played ∙ ap (λ n. rounds_played (plays ++ map Said parts) + n) (sym same));
    }
