-- Over histories hosts stand as is read, so each message that has its turn at a host, or is noted as held there, is answered as is read.
use Rattle.node_laws.proofs.Words.{AllByRecursion, AreHosts, ArePlayable, AtEachEntry, Entry, FollowsNodes, HasNoneAside, Header, IsBegunByHost, IsFew}
use Rattle.node_laws.proofs.Words.{IsHeldFor, IsHost, IsInitOfHost, IsReplied, IsSentByHost, Line, List, NodeHistory, NodeWorld, None, Occurrence, Site}
use Rattle.node_laws.proofs.Words.{SiteKeeps, SiteReads, Some, ap, arith, end_h, entries_in, flat_map-append, init_in, new_world, node_entries, occurrences_in}
use Rattle.node_laws.proofs.Words.{refl, site_at, subst, sym, world_behind, ℕ, ◌++◌, ◌∙◌, ◌∷◌, ◌≡◌, ◌≤◌}
use Rattle.node_laws.proofs.telling.Lasting.{AreCaused, lines_caused, new_orderly}
use Rattle.node_laws.proofs.telling.Events.{site_host, site_is}
use Rattle.node_laws.proofs.order.Upheld.{AreDone, done_back, history_done}
use Rattle.node_laws.proofs.order.Lines.{IsSo, history_so}
use Rattle.node_laws.proofs.readings.Lines.{events_read}
use Rattle.node_laws.proofs.creations.Events.{history_keeps}
use Rattle.node_laws.proofs.views.InitWorlds.{AtSite, Keeps, MayKeep}
use Rattle.node_laws.proofs.views.Lines.{IsSoOfLines as AllSo, events_so, front_keeps, line_may_of_init_lines as line_may, new_keeps, real_of}
use Rattle.node_laws.proofs.views.Nodes.{IfKeeps}
use Rattle.node_laws.proofs.views.Events.{far_node, host_node}
use Rattle.node_laws.specs.reply_passes.Counts.{commands_noted as commits}
use Rattle.node_laws.proofs.reply_passes.Roomy.{commits-append}
use Rattle.node_laws.proofs.worlds.Resting.{SiteWaits}
use Rattle.node_laws.proofs.worlds.Done.{IsAnsweredFar, IsAtRest, history_rests}
use Rattle.node_laws.proofs.worlds.Events.{waiting_from}
use Rattle.node_laws.proofs.worlds.Due.{of_hosts}
use Rattle.node_laws.proofs.hosts.Events.{event_so}
use Rattle.node_laws.proofs.hosts.Beginning.{HostStands, IsGrownAt, history_sites}
use Rattle.node_laws.proofs.hosts.Passes.{errors_behind}
use Rattle.node_laws.proofs.readings.Noticed.{numbers}

module _ (header : Header) (lines : List Line) (t : NodeHistory) (follows : FollowsNodes header lines t) (are : AreHosts header.hosts.items)
    (playable : ArePlayable lines) (sent : AllByRecursion IsSentByHost lines) (inits : AllByRecursion IsInitOfHost lines)
    (sides : AllByRecursion IsBegunByHost lines) (few : IsFew (node_entries t)) where
  abbrev hosts : List ℕ
  hosts = header.hosts.items

  -- ## Hosts between events

  module _ (past back : List Occurrence) (parts : occurrences_in t ≡ past ++ back) where
    abbrev pub w : NodeWorld
    w = world_behind (new_world hosts) past

    abbrev u : List Entry
    u = entries_in past

    pub so : IsSo hosts past w
    so = history_so header lines t follows are playable past back parts

    all_so : AllSo hosts u w
    all_so = events_so header lines t follows are sent few past back parts

    rests : IsAtRest u w
    rests = history_rests header lines t follows are past back parts

    -- what is read of the init that runs at a host
    keeps : (n : ℕ) (host : IsHost n) → Keeps n host w (init_in past n)
    keeps n host =
        front_keeps n host past back (new_world hosts) None (new_orderly hosts are.different (numbers hosts are.all)) (new_keeps n host hosts)
        (subst (AreCaused MayKeep (new_world hosts)) (grind arith) (lines_caused MayKeep IsBegunByHost line_may lines (new_world hosts) sides))

    pub stands : (n : ℕ) (s : Site) → site_at w.sites n ≡ Some s → HostStands u (init_in past n) s
    stands n s found =
        let at : s.host ≡ n = site_host w.sites n s found in
        let here : site_at w.sites s.host ≡ Some s = ap (site_at w.sites) at ∙ found in
        let host : IsHost s.host =
        site_is (λ (x : Site). IsHost x.host) w.sites n s (of_hosts IsHost w.sites (subst (AllByRecursion IsHost) (sym so.hosts_are) are.all)) found in
        let waits : SiteWaits u s = site_is (SiteWaits u) w.sites n s (waiting_from u w rests.reads.all rests.rests) found in
        record {
          host = host;
          order = site_is (SiteReads u) w.sites n s (events_read header lines t follows are sent inits past back parts).sites found;
          init = subst (AtSite (init_in past n)) found (keeps n (subst IsHost at host));
          errors = subst (λ o. IfKeeps (end_h s.host) o (errors_behind s.host u))
              (host_node (end_h s.host) (real_of (end_h s.host) host) w refl ∙ ap far_node here) (all_so.errors (end_h s.host) host);
          kept = site_is (SiteKeeps u) w.sites n s all_so.keep.sites found;
          grown = site_is (IsGrownAt u) w.sites n s (history_sites header lines t follows are sent few past back parts) found;
          none = site_is HasNoneAside w.sites n s (history_keeps header lines t follows are sent few past back parts).hosts_aside found;
          holds = waits.rests.holds;
          goes = waits.goes;
        }

  -- ## Commands

  -- where few commands are noted in all
  module _ (noted : commits (node_entries t) ≤ 4000000000) where
    pub low : (past back : List Occurrence) (o : Occurrence) → occurrences_in t ≡ past ++ (o ∷ back) → commits (entries_in past ++ o.entries) ≤ 4000000000
    low past back o parts =
        let is : node_entries t ≡ entries_in past ++ (o.entries ++ entries_in back) =
        ap entries_in parts ∙ flat_map-append (λ (x : Occurrence). x.entries) past (o ∷ back) in
        let two = commits-append o.entries (entries_in back) in
        let three = commits-append (entries_in past) o.entries in
        omega (arith, ap commits is, commits-append (entries_in past) (o.entries ++ entries_in back), two, three, noted)

    -- ## Each event

    pub hosts_answer : AtEachEntry t (IsAnsweredFar t.header.hosts.items)
    hosts_answer past back o front behind x parts split n k off turn =
        subst (λ (h : Header). IsReplied h.hosts.items (record { past = past; cause = o.cause; so_far = front }) x behind
        × IsHeldFor h.hosts.items (record { past = past; cause = o.cause; so_far = front }) x behind) (sym follows.header_is)
        (event_so hosts past (w past (o ∷ back) parts) (so past (o ∷ back) parts) n off (stands past (o ∷ back) parts n) o.cause
        (subst (λ l. commits (entries_in past ++ l) ≤ 4000000000) done.0.0 (low past back o parts)) front behind x k (sym done.0.0 ∙ split) turn)
      where
        done : AreDone (world_behind (new_world hosts) past) (o ∷ back)
        done =
            done_back past (o ∷ back) (new_world hosts) (subst (AreDone (new_world hosts)) parts (history_done header lines t follows playable))
