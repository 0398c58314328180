-- A node begins.
use Rattle.one_end.proofs.Words.{HasAnswered, IsAlone, OneEnd, RunsYet, [], all_answered, ap, cause_of, first_comes, form_named, map, subst, sym, ◌==◌, ◌∙◌}
use Rattle.one_end.proofs.Words.{◌≡◌}
use Rattle.one_end.proofs.Running.{over, stands_as, same_causes, has_begun}
use Rattle.one_end.proofs.one_end.begin.Goals as goal

pub returns-clause-begun : goal.returns-clause-begun
returns-clause-begun g c l runs =
    let form = form_named c.args.form in
    let number = c.args.node.number in
    let behind = c.answer_all-stopped.new.node in
    let role : (number == 0) ≡ (c.number-is_clf.result == 0) = ap (λ n. n == 0) (sym c.number-is_clf.ensures) in
    let given : map cause_of c.as_slice.result.now ≡ first_comes form number =
    ap (map cause_of) c.as_slice.ensures.value ∙ c.first_comings-comings.ensures.causes number role in
    same_causes g.N.Nv.writes form (first_comes form number) l given
    (stands_as g.N.Nv.writes form (RunsYet behind c.answer_all-stopped.result)
    (IsAlone (record { form = c.args.form; reader = c.new.result; node = behind }) [] c.answer_all-stopped.result) (map cause_of c.as_slice.result.now) l
    (λ k b. (
      b.0,
      λ on. record {
        runs = b.1 on;
        form_is = c.new.ensures.form;
        reads = c.new.ensures.stands behind.number (ap (λ n. n == 0) c.answer_all-stopped.ensures.number ∙ role);
      },
    )) (c.answer_all-stopped.ensures.done l runs))

pub returns-clause-may : goal.returns-clause-may
returns-clause-may g c on =
    let may = c.requires.may in
    let b = (returns-clause-begun g c may.0 may.1).brings in
    (b.after, [], b.stands.1 on)

pub returns-clause-run : goal.returns-clause-run
returns-clause-run g c content first b =
    let behind = c.answer_all-stopped.new.node in
    let e : OneEnd g.row.N.Denot = record { form = c.args.form; reader = c.new.result; node = behind } in
    has_begun g.N.Nv.writes content first c.args.node e c.answer_all-stopped.result c.answer_all-stopped.new.out.items c.answer_all-stopped.ensures.number b
    (λ l runs. subst (λ z. HasAnswered g.N.Nv.writes c.args.node.store.journal.nv behind.store.journal.nv (IsAlone e [] c.answer_all-stopped.result)
    (λ m. all_answered (form_named c.args.form) (over l m) (first_comes (form_named c.args.form) c.args.node.number)) z
    c.answer_all-stopped.new.out.items) c.requires.empty (returns-clause-begun g c l runs))
