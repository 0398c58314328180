use Rattle.node_deeds.proofs.Words.{arith, asked_by, configured_by, connected_by, noticed_by, refl, ◌≡◌}
use Rattle.node_deeds.proofs.Views.{mask_grows, view_read}
use Rattle.node_deeds.proofs.view.view_for.Goals as goal

pub loop-other-preserved : goal.loop-other-preserved
loop-other-preserved c =
    let desks = c.args.desks.now in
    let host = c.loop-other.other in
    let from = c.loop-other.auto.other in
    let so_far = c.loop-other.invariant in
    record {
      hosts = mask_grows (configured_by desks) host c.loop-other.hosts _ c.place_if-hosts.result c.host_view-seen.result.configured from so_far.hosts
          c.host_view-seen.ensures.configured c.place_if-hosts.ensures.place refl;
      connected = mask_grows (connected_by c.args.tables.now c.args.up desks) host c.loop-other.connected _ c.place_if-connected.result
          c.host_view-seen.result.connected from so_far.connected c.host_view-seen.ensures.connected c.place_if-connected.ensures.place refl;
      noticed = mask_grows (noticed_by desks) host c.loop-other.noticed _ c.place_if-noticed.result c.host_view-seen.result.noticed from so_far.noticed
          c.host_view-seen.ensures.noticed c.place_if-noticed.ensures.place refl;
      asked = mask_grows (asked_by desks) host c.loop-other.asked _ c.place_if-asked.result c.host_view-seen.result.asked from so_far.asked
          c.host_view-seen.ensures.asked c.place_if-asked.ensures.place refl;
    }

pub returns : goal.returns
returns c =
    let last : c.loop-other.other ≡ 8 = omega arith in
    let all = c.loop-other.invariant in
    view_read c.args.tables.now c.args.up c.args.desks.now c.args.host c.loop-other.other c.loop-other.hosts c.loop-other.connected
    c.loop-other.noticed c.loop-other.asked c.errors_at.result c.waiting_pipes.result.items last all.hosts all.connected all.noticed all.asked
    c.waiting_pipes.ensures c.errors_at.ensures
