-- Bytes come, which begin with a whole unit of a byte link, or not.
use Rattle.std.proofs.Common.{◌+◌, length, take, refl}
use Rattle.one_end.proofs.Running.{unit_heard, has_heard, goes_on}
use Rattle.one_end.proofs.one_end.hear.Goals as goal

-- they begin with a whole unit
pub returns-in-Some-clause-run : goal.returns-in-Some-clause-run
returns-in-Some-clause-run g c content came written first b =
    let d = c.args.end.now in
    let k = c.answer-stopped in
    let unit = take (length c.in-Some.lpdu.now + 4) c.args.bytes.now in
    has_heard g.N.Nv.writes content first d (record d { node = k.new.node }) unit k.result came written c.args.out.now.items k.new.out.items
    refl k.ensures.number b
    (unit_heard g.N.Nv.writes d k.new.node unit c.in-Some.lpdu.now c.lpdu_of.result c.lpdu_of.ensures k.ensures.number c.in-Some.ensures.stands
    c.in-Some.ensures.brings k.ensures.done)

pub returns-in-Some-clause-may : goal.returns-in-Some-clause-may
returns-in-Some-clause-may g c on =
    let d = c.args.end.now in
    let k = c.answer-stopped in
    let unit = take (length c.in-Some.lpdu.now + 4) c.args.bytes.now in
    goes_on g.N.Nv.writes d (record d { node = k.new.node }) unit k.result
    (unit_heard g.N.Nv.writes d k.new.node unit c.in-Some.lpdu.now c.lpdu_of.result c.lpdu_of.ensures k.ensures.number c.in-Some.ensures.stands
    c.in-Some.ensures.brings k.ensures.done) c.requires.may on

pub returns-clause-run : goal.returns-clause-run
returns-clause-run g c content came written first b =
    let k = c.hear_in_parts in
    has_heard g.N.Nv.writes content first c.args.end.now k.new.end (take k.result.count c.args.bytes.now) k.result.stopped came written
    c.args.out.now.items k.new.out.items k.ensures.form k.ensures.number b k.ensures.heard

pub returns-clause-may : goal.returns-clause-may
returns-clause-may g c on =
    let k = c.hear_in_parts in
    goes_on g.N.Nv.writes c.args.end.now k.new.end (take k.result.count c.args.bytes.now) k.result.stopped k.ensures.heard c.requires.may on
