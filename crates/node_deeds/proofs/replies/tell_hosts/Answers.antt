use Rattle.node_deeds.proofs.Words.{AreDoable, Tells, ap, arith, deeds_shown, has, hosts_below, length, map, subst, sym, ℕ, ◌++◌, ◌<◌, ◌∙◌, ◌≡◌}
use Rattle.gate_admin.specs.View.{hosts_where}
use Rattle.node_deeds.proofs.Telling.{told_more, told_no_more, many_more, many_no_more, is_said, has_place, doable_more}
use Rattle.node_deeds.proofs.replies.tell_hosts.Goals as goal
use Rattle.node_deeds.proofs.replies.tell_hosts.Goals.{then-is_in, else-is_in}

pub push-requires : goal.push-requires
push-requires c =
    let passed = sym c.is_in.ensures ∙ c.if-is_in.true in
    let place : length c.loop-host.deeds.items < 9 =
    has_place c.args.tell c.args.notice.now.items c.loop-host.host c.loop-host.deeds.items c.requires.few c.loop-host.auto.host
    c.loop-host-test.true passed c.loop-host.invariant.many in
    (omega arith, place)

pub loop-host-preserved : goal.loop-host-preserved
loop-host-preserved c =
    let tell = c.args.tell in
    let notice = c.args.notice.now.items in
    let host = c.loop-host.host in
    let items = c.loop-host.deeds.items in
    let from = c.loop-host.auto.host in
    let so_far = c.loop-host.invariant in
    elim c.if-is_in.branch [
      | then-is_in w ↦
          let passed = sym c.is_in.ensures ∙ w.if-is_in.true in
          let grown = ap (λ v. v.items) w.deeds-is ∙ w.push.ensures.items in
          let said = is_said tell notice host c.requires.few from c.loop-host-test.true passed in
          let copy = w.copy_of.ensures in
          record {
            told = λ a. told_more a (has tell) host items _ (deeds_shown a c.args.deeds.now.items) notice w.copy_of.result.items from passed
                (so_far.told a) copy grown;
            many = many_more (has tell) host items _ _ from passed so_far.many grown;
            doable = doable_more items _ host w.copy_of.result.items so_far.doable (subst (λ (bytes : _). 0 < length bytes) (sym copy) said) grown;
          }
      | else-is_in w ↦
          let failed = sym c.is_in.ensures ∙ w.if-is_in.false in
          let same = ap (λ v. v.items) w.deeds-is in
          record {
            told = λ a. ap (deeds_shown a) same
                ∙ told_no_more a (has tell) host items (deeds_shown a c.args.deeds.now.items) notice from failed (so_far.told a);
            many = ap length same ∙ many_no_more (has tell) host items from failed so_far.many;
            doable = subst AreDoable (sym same) so_far.doable;
          }
    ]

pub returns-clause-told : goal.returns-clause-told
unfolding hosts_where
returns-clause-told c =
    let last : c.loop-host.host ≡ 8 = omega arith in
    λ a. c.loop-host.invariant.told a
    ∙ ap
    (λ (host : ℕ). deeds_shown a c.args.deeds.now.items
    ++ map (λ (told : ℕ). Tells told c.args.notice.now.items) (hosts_below (has c.args.tell) host)) last
