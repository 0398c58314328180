-- What a tap reports over a history of a world of nodes is what was got.
use Rattle.world_laws.proofs.Words.{AreHosts, ArePlayable, Bool, End, Entry, FollowsNodes, Header, IsLine, IsLinkTold, IsSo, IsStrange, Line, Link, List}
use Rattle.world_laws.proofs.Words.{NodeHistory, None, Noted, Occurrence, Option, Saying, [], ap, arith, cons_option, cuts_on, entries, entries_for}
use Rattle.world_laws.proofs.Words.{entries_in, entries_of, false, filter_map, got_on, gots_noted, gots_on, history_so, hosts_are, is_of, list_any}
use Rattle.world_laws.proofs.Words.{lpdus_heard, lpdus_on, new_line, new_world, no_cut, occurrences_in, of_link, playable, put_on, refl, said, subst, sym}
use Rattle.world_laws.proofs.Words.{tapped_lpdus, true, world_behind, ℕ, ◌++◌, ◌∙◌, ◌∷◌, ◌≡◌}
use Rattle.node_laws.proofs.order.Sessions.{Whether, whether}
use Rattle.node_laws.proofs.order.Sessions.Whether.{IsNone, Stands}
use Rattle.world_laws.specs.histories.OnLinks.{AreOfLink}
use Rattle.world_laws.proofs.entries.Events.{tap_reports_lpdus}
use Rattle.world_laws.proofs.histories.Histories.{gots_same, lpdus_same, tap_reports_history}

-- ## What a tap reports over a history of a world of nodes

-- ### What tells nothing of a link

module _ (h : ℕ) where
  put_none : (o : Option (End × Saying)) → is_of h o ≡ false → put_on h o ≡ None
  put_none o q = grind arith

  got_none : (o : Option (End × Saying)) → is_of h o ≡ false → got_on h o ≡ None
  got_none o q = grind arith

  -- where nothing is made of what tells nothing of a link, all is made of what tells of it
  of_link_alone : {X : Type 0} (f : Option (End × Saying) → Option X) → ((o : Option (End × Saying)) → is_of h o ≡ false → f o ≡ None) → (t : List Entry)
      → filter_map (λ x. f (said x)) t ≡ filter_map (λ x. f (said x)) (of_link h t)
  of_link_alone f none [] = refl
  of_link_alone {X} f none (x ∷ t) =
      let h0 = cons_option (f (said x)) in let h1 = filter_map (λ y. f (said y)) t in let h2 = said x in let h3 = of_link_alone f none t in grind arith

  lpdus_alone : (t : List Entry) → lpdus_on h t ≡ lpdus_on h (of_link h t)
  lpdus_alone t = of_link_alone (put_on h) put_none t

  gots_alone : (t : List Entry) → gots_on h t ≡ gots_on h (of_link h t)
  gots_alone t = of_link_alone (got_on h) got_none t

-- ### Of a link that is told

told_reports : (h : ℕ) (l : Link) (t : List Entry) → IsLinkTold h l t → list_any (cuts_on h) t ≡ false
    → tapped_lpdus false (lpdus_on h t) ≡ gots_on h t
told_reports h l t a uncut =
    let notes : List Noted = entries new_line a.events in
    let heard : lpdus_on h t ≡ lpdus_heard notes =
    lpdus_alone h t ∙ (ap (lpdus_on h) a.told ∙ (sym (lpdus_alone h (entries_for h notes)) ∙ lpdus_same h notes)) in
    let got : gots_on h t ≡ gots_noted notes =
    gots_alone h t ∙ (ap (gots_on h) a.told ∙ (sym (gots_alone h (entries_for h notes)) ∙ gots_same h notes)) in
    ap (tapped_lpdus false) heard ∙ (tap_reports_lpdus new_line IsLine a.events a.run.allowed (no_cut h t notes uncut a.stands_from) ∙ sym got)

-- no link has this number
strange_reports : (h : ℕ) (t : List Entry) → of_link h t ≡ [] → tapped_lpdus false (lpdus_on h t) ≡ gots_on h t
strange_reports h t none = let h0 = gots_on h in let h1 = lpdus_on h in let h2 = gots_alone h t in let h3 = lpdus_alone h t in grind arith

pub tap_reports_world : (header : Header) (lines : List Line) (t : NodeHistory) → FollowsNodes header lines t → AreHosts header.hosts.items
    → ArePlayable lines → (front back : List Occurrence) → occurrences_in t ≡ front ++ back → (h : ℕ) → list_any (cuts_on h) (entries_in front) ≡ false
    → tapped_lpdus false (lpdus_on h (entries_in front)) ≡ gots_on h (entries_in front)
tap_reports_world header lines t follows are p front back q h uncut = go (whether (world_behind (new_world header.hosts.items) front) h)
  where
    so : IsSo header.hosts.items front (world_behind (new_world header.hosts.items) front)
    so = history_so header lines t follows are p front back q

    go : Whether (world_behind (new_world header.hosts.items) front) h
        → tapped_lpdus false (lpdus_on h (entries_in front)) ≡ gots_on h (entries_in front)
    go (Stands s found) = told_reports h s.link (entries_in front) (so.each h s found).told uncut
    go (IsNone strange) = strange_reports h (entries_in front) (so.strange h (subst (IsStrange h) so.hosts_are strange))

-- ## A tap that was there from the beginning of a history tells what was got

pub taps_tell : (bare : Bool) (h : ℕ) (t : List Entry) → AreOfLink bare h t → tapped_lpdus bare (lpdus_on h t) ≡ gots_on h t
taps_tell true h t are =
    let told : List Entry = are.history.opening ++ entries_of are.front in
    subst (λ (es : List Entry). tapped_lpdus true (lpdus_on h es) ≡ gots_on h es) (sym are.entries_are)
    (subst (λ (k : ℕ). tapped_lpdus true (lpdus_on k told) ≡ gots_on k told) (sym are.host_is)
    (tap_reports_history are.header are.lines are.history are.valid are.follows are.front are.back are.events_are))
taps_tell false h t are =
    subst (λ (es : List Entry). tapped_lpdus false (lpdus_on h es) ≡ gots_on h es) (sym are.entries_are)
    (tap_reports_world are.header are.lines are.history are.follows (hosts_are are.header are.nodes) (playable are.header are.lines are.valid)
    are.front are.back are.events_are h (subst (λ (es : List Entry). list_any (cuts_on h) es ≡ false) are.entries_are are.uncut))
