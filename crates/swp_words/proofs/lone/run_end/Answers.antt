-- One node runs alone over a memory.
use Rattle.swp_words.proofs.Words.{EndedSo, IsOnlyRead, Rose, arith, form_named, refl, subst, sym}
use Rattle.swp_words.proofs.Alone.{booted_ended, refused_ended, lone_kind, boot_kind, refused_rose}
use Rattle.swp_words.proofs.Answered.{end_answered}
use Rattle.swp_words.proofs.Outcomes.{boot_unfailed, complete_ended, too_many_ended, image_refused, image_unwritten, runs_on_image}
use Rattle.swp_words.proofs.Outcomes.{refused_exactly, unrefused_exactly, boots_unrefused}
use Rattle.swp_words.proofs.lone.run_end.Goals as goal

pub returns-in-Ok-clause-ended : goal.returns-in-Ok-clause-ended
returns-in-Ok-clause-ended g c told tells =
    booted_ended g.N.Nv.reads g.N.Nv.writes g.N.Nv.content g.K.Sink.tells
    (g.S.Source.end c.run_alone.new.source).given (form_named c.args.asked.form) c.args.asked.is_clf c.args.nv _ c.run_alone.result.nv
    c.run_alone.result.status _ _ _ _ c.run_alone.ensures.kind (c.in-Ok.ensures.image tells) (c.in-Ok.ensures.unspent tells)
    (c.in-Ok.ensures.made tells)
    (c.run_alone.ensures.ran told (g.N.Nv.content c.args.nv) (c.in-Ok.ensures.booted tells))

pub returns-in-Err-clause-ended : goal.returns-in-Err-clause-ended
returns-in-Err-clause-ended g c told tells =
    let input = g.S.Source.left c.args.source.now in
    let before = g.K.Sink.written c.args.sink.now in
    let old = c.args.nv in
    subst (λ n. EndedSo g.N.Nv.reads g.N.Nv.writes g.N.Nv.content g.K.Sink.tells
    (g.S.Source.end c.args.source.now).given (form_named c.args.asked.form) c.args.asked.is_clf old n c.refused_boot.result.status
    input input before before) (sym c.refused_boot.ensures.memory)
    (subst (λ s. EndedSo g.N.Nv.reads g.N.Nv.writes g.N.Nv.content g.K.Sink.tells
    (g.S.Source.end c.args.source.now).given (form_named c.args.asked.form) c.args.asked.is_clf old c.in-Err.unbooted.nv s
    input input before before) (sym c.refused_boot.ensures.status)
    (refused_ended g.N.Nv.reads g.N.Nv.writes g.N.Nv.faults g.N.Nv.tells g.N.Nv.content g.K.Sink.tells
    (g.S.Source.end c.args.source.now).given (form_named c.args.asked.form) c.args.asked.is_clf old
    c.in-Err.unbooted.nv c.in-Err.unbooted.fault input before tells c.in-Err.ensures.refused))

pub returns-in-Ok-clause-kind : goal.returns-in-Ok-clause-kind
returns-in-Ok-clause-kind g c = lone_kind c.run_alone.result.status c.run_alone.ensures.kind

pub returns-in-Err-clause-kind : goal.returns-in-Err-clause-kind
returns-in-Err-clause-kind g c = boot_kind c.in-Err.unbooted.fault c.refused_boot.result.status c.refused_boot.ensures.status

pub returns-in-Err-clause-nv_fault : goal.returns-in-Err-clause-nv_fault
returns-in-Err-clause-nv_fault g c failed =
    subst (λ n. Rose (g.N.Nv.faults c.args.nv) (g.N.Nv.faults n)) (sym c.refused_boot.ensures.memory)
    (refused_rose g.N.Nv.reads g.N.Nv.writes g.N.Nv.faults g.N.Nv.tells g.N.Nv.content c.args.nv c.in-Err.unbooted.nv c.in-Err.unbooted.fault
    c.refused_boot.result.status c.in-Err.ensures.refused c.refused_boot.ensures.status failed)

pub returns-in-Ok-clause-nv_fault : goal.returns-in-Ok-clause-nv_fault
returns-in-Ok-clause-nv_fault g c q = let rose = c.run_alone.ensures.nv_fault q in let count = c.in-Ok.ensures.count in omega (arith, rose, count)

pub returns-in-Ok-clause-ahead : goal.returns-in-Ok-clause-ahead
returns-in-Ok-clause-ahead g c told tells = c.run_alone.ensures.ahead told (g.N.Nv.content c.args.nv) (c.in-Ok.ensures.booted tells)

pub returns-in-Ok-clause-image : goal.returns-in-Ok-clause-image
returns-in-Ok-clause-image g c tells f bad still = let sound = c.in-Ok.ensures.image tells in absurd (cc)

pub returns-in-Err-clause-image : goal.returns-in-Err-clause-image
returns-in-Err-clause-image g c tells f bad still =
    image_refused g.N.Nv.reads g.N.Nv.writes g.N.Nv.faults g.N.Nv.tells g.N.Nv.content c.args.nv c.in-Err.unbooted.nv c.in-Err.unbooted.fault
    c.refused_boot.result.status f c.in-Err.ensures.refused c.refused_boot.ensures.status tells bad
    (λ failed. still (subst (λ n. Rose (g.N.Nv.faults c.args.nv) (g.N.Nv.faults n)) (sym c.refused_boot.ensures.memory)
    (refused_rose g.N.Nv.reads g.N.Nv.writes g.N.Nv.faults g.N.Nv.tells g.N.Nv.content c.args.nv c.in-Err.unbooted.nv c.in-Err.unbooted.fault
    c.refused_boot.result.status c.in-Err.ensures.refused c.refused_boot.ensures.status failed)))

pub returns-in-Ok-clause-untouched : goal.returns-in-Ok-clause-untouched
returns-in-Ok-clause-untouched g c f is = absurd (runs_on_image c.run_alone.result.status f c.run_alone.ensures.kind is)

pub returns-in-Ok-clause-refuses : goal.returns-in-Ok-clause-refuses
returns-in-Ok-clause-refuses g c tells f =
    unrefused_exactly c.run_alone.result.status f (g.N.Nv.content c.args.nv) c.run_alone.ensures.kind (c.in-Ok.ensures.image tells)
    (c.in-Ok.ensures.unspent tells)

pub returns-in-Err-clause-refuses : goal.returns-in-Err-clause-refuses
returns-in-Err-clause-refuses g c tells f =
    refused_exactly g.N.Nv.reads g.N.Nv.writes g.N.Nv.faults g.N.Nv.tells g.N.Nv.content c.args.nv c.in-Err.unbooted.nv c.in-Err.unbooted.fault
    c.refused_boot.result.status f c.in-Err.ensures.refused c.refused_boot.ensures.status tells

pub returns-in-Ok-clause-never_begins : goal.returns-in-Ok-clause-never_begins
returns-in-Ok-clause-never_begins g c tells f why =
    absurd (boots_unrefused f (g.N.Nv.content c.args.nv) (c.in-Ok.ensures.image tells) (c.in-Ok.ensures.unspent tells) why)

pub returns-in-Err-clause-never_begins : goal.returns-in-Err-clause-never_begins
returns-in-Err-clause-never_begins g c tells f why = (refl, refl)

pub returns-in-Ok-clause-unwritten : goal.returns-in-Ok-clause-unwritten
returns-in-Ok-clause-unwritten g c f is = absurd (runs_on_image c.run_alone.result.status f c.run_alone.ensures.kind is)

pub returns-in-Err-clause-unwritten : goal.returns-in-Err-clause-unwritten
returns-in-Err-clause-unwritten g c f is =
    subst (IsOnlyRead g.N.Nv.reads g.N.Nv.tells g.N.Nv.content c.args.nv) (sym c.refused_boot.ensures.memory)
    (image_unwritten g.N.Nv.reads g.N.Nv.writes g.N.Nv.faults g.N.Nv.tells g.N.Nv.content c.args.nv c.in-Err.unbooted.nv c.in-Err.unbooted.fault
    c.refused_boot.result.status f c.in-Err.ensures.refused c.refused_boot.ensures.status is)

pub returns-in-Ok-clause-answered : goal.returns-in-Ok-clause-answered
returns-in-Ok-clause-answered g c told tells taken =
    let k = c.run_alone in
    end_answered g.N.Nv.reads g.N.Nv.writes g.N.Nv.content (λ m at sent ok n step. g.met.N.Nv.told m at sent ok n tells step) g.K.Sink.tells
    (g.S.Source.end k.new.source).given (form_named c.args.asked.form) c.args.asked.is_clf c.args.nv k.result.nv (g.S.Source.left c.args.source.now)
    (g.S.Source.left k.new.source) (g.K.Sink.written c.args.sink.now) (g.K.Sink.written k.new.sink) taken k.result.status
    (returns-in-Ok-clause-ended g c told tells)

pub returns-in-Err-clause-answered : goal.returns-in-Err-clause-answered
returns-in-Err-clause-answered g c told tells taken =
    let k = c.refused_boot.result in
    let input = g.S.Source.left c.args.source.now in
    let before = g.K.Sink.written c.args.sink.now in
    end_answered g.N.Nv.reads g.N.Nv.writes g.N.Nv.content (λ m at sent ok n step. g.met.N.Nv.told m at sent ok n tells step) g.K.Sink.tells
    (g.S.Source.end c.args.source.now).given (form_named c.args.asked.form) c.args.asked.is_clf c.args.nv k.nv input input before before taken k.status
    (returns-in-Err-clause-ended g c told tells)

pub returns-in-Ok-clause-complete : goal.returns-in-Ok-clause-complete
returns-in-Ok-clause-complete g c told tells sound next few read write nv =
    let k = c.run_alone in
    complete_ended g.N.Nv.reads g.N.Nv.writes g.N.Nv.content g.K.Sink.tells (g.S.Source.end k.new.source).given (form_named c.args.asked.form)
    c.args.asked.is_clf c.args.nv k.result.nv (g.S.Source.left c.args.source.now) (g.S.Source.left k.new.source) (g.K.Sink.written c.args.sink.now)
    (g.K.Sink.written k.new.sink) sound next k.result.status (returns-in-Ok-clause-ended g c told tells) (returns-in-Ok-clause-kind g c) few
    (λ q. read (k.ensures.read_fault q)) (λ q. write (k.ensures.write_fault q)) (λ q. nv (returns-in-Ok-clause-nv_fault g c q))

pub returns-in-Err-clause-complete : goal.returns-in-Err-clause-complete
returns-in-Err-clause-complete g c told tells sound next few read write nv =
    let k = c.refused_boot.result in
    let input = g.S.Source.left c.args.source.now in
    let before = g.K.Sink.written c.args.sink.now in
    let unfailed = boot_unfailed c.in-Err.unbooted.fault k.status c.refused_boot.ensures.status in
    complete_ended g.N.Nv.reads g.N.Nv.writes g.N.Nv.content g.K.Sink.tells (g.S.Source.end c.args.source.now).given (form_named c.args.asked.form)
    c.args.asked.is_clf c.args.nv k.nv input input before before sound next k.status (returns-in-Err-clause-ended g c told tells)
    (returns-in-Err-clause-kind g c) few unfailed.0 unfailed.1 (λ q. nv (returns-in-Err-clause-nv_fault g c q))

pub returns-in-Ok-clause-too_many : goal.returns-in-Ok-clause-too_many
returns-in-Ok-clause-too_many g c told tells sound next many read write nv =
    let k = c.run_alone in
    too_many_ended g.N.Nv.reads g.N.Nv.writes g.N.Nv.content g.K.Sink.tells (g.S.Source.end k.new.source).given (form_named c.args.asked.form)
    c.args.asked.is_clf c.args.nv k.result.nv (g.S.Source.left c.args.source.now) (g.S.Source.left k.new.source) (g.K.Sink.written c.args.sink.now)
    (g.K.Sink.written k.new.sink) sound next k.result.status (returns-in-Ok-clause-ended g c told tells) (returns-in-Ok-clause-kind g c) many
    (λ q. read (k.ensures.read_fault q)) (λ q. write (k.ensures.write_fault q)) (λ q. nv (returns-in-Ok-clause-nv_fault g c q))

pub returns-in-Err-clause-too_many : goal.returns-in-Err-clause-too_many
returns-in-Err-clause-too_many g c told tells sound next many read write nv =
    let k = c.refused_boot.result in
    let input = g.S.Source.left c.args.source.now in
    let before = g.K.Sink.written c.args.sink.now in
    let unfailed = boot_unfailed c.in-Err.unbooted.fault k.status c.refused_boot.ensures.status in
    too_many_ended g.N.Nv.reads g.N.Nv.writes g.N.Nv.content g.K.Sink.tells (g.S.Source.end c.args.source.now).given (form_named c.args.asked.form)
    c.args.asked.is_clf c.args.nv k.nv input input before before sound next k.status (returns-in-Err-clause-ended g c told tells)
    (returns-in-Err-clause-kind g c) many unfailed.0 unfailed.1 (λ q. nv (returns-in-Err-clause-nv_fault g c q))
