-- What is known of the ends of the controller as it begins to go through them in its tick.
use Rattle.node_laws.proofs.Words.{AsksReset, Controller, Desk, Entry, HasEnds, Host, IfDue, IsLinkTold, IsOrderly, IsTimely, Link, List, Lost, NoInput}
use Rattle.node_laws.proofs.Words.{NodeWorld, None, Noted, NumberedEnd, OnWire, Option, Port, Reset, Running, Site, Some, Tick, TimePasses, TooOld, Work, []}
use Rattle.node_laws.proofs.Words.{after_sessions, aged, aged_entries, all_aged, all_come, by_test, comes_to_pass, controller_tick_begins, false, forgets}
use Rattle.node_laws.proofs.Words.{has_come, hosts_in, hosts_of_ends, is_late, link_to, map, nat_lt, refl, reset_late, site_at, subst, times_out, true}
use Rattle.node_laws.proofs.Words.{with_older, without_notice, without_power, ℕ, ◌++◌, ◌==◌, ◌∙◌, ◌∷◌, ◌≡◌}
use Rattle.link_laws.specs.entries.Entries.{End as Side}
use Rattle.link_laws.proofs.entries.Books.{Silent, silent-append, silent_cons}
use Rattle.link_laws.proofs.entries.Hearing.{passes-append, passes_aged}
use Rattle.node_laws.proofs.kept.Doing.{hosts_map}
use Rattle.node_laws.proofs.links.Worlds.{IsFineWorld, near_clean, ports_fine}
use Rattle.node_laws.proofs.telling.Shapes.{AreClear, came_uncut, clear-append, clear_aged, twice}
use Rattle.node_laws.proofs.telling.Steps.{Opening}
use Rattle.node_laws.proofs.telling.Ticks.{in_time, older, too_late}
use Rattle.node_laws.proofs.telling.Events.{hosts_same_of_nodes as hosts_same, node_is}
use Rattle.node_laws.proofs.telling.WorldTicks.{opened, up_late, old_orderly, old_found, old_told, aged_uncut}
use Rattle.node_laws.proofs.steps.StepWalks.{forgets_host, late_host, without_host}
use Rattle.node_laws.proofs.order.Lines.{host_number}
use Rattle.node_laws.proofs.order.Events.{WasThere, was_there}
use Rattle.node_laws.proofs.order.Ticking.{some_desks, aged_clean}
use Rattle.node_laws.proofs.read_rooms.Carrying.{AreNoted, Carries, IsCarried, Says, are_noted, has_come_so, has_ticked_so, its_notes, near_says, noted_more}
use Rattle.node_laws.proofs.read_rooms.Carrying.{says_silent}
use Rattle.node_laws.proofs.read_rooms.Beginning.{carries_from, HasSite, site_for, pass_carried, begun_fine}

-- ## Frames that are too old

silent_aged : (who : Side) (xs : List OnWire) → Silent (aged_entries who xs)
silent_aged who [] = λ w n. refl
silent_aged who (x ∷ xs) = by_test (nat_lt x.age 4)
    (λ q. rw q (silent_aged who xs))
    (λ q. rw q (silent_cons (Lost who x.frame TooOld) (aged_entries who xs) (λ w n. refl) (silent_aged who xs)))

abbrev pub aged_notes : Link → List Noted
aged_notes l = aged_entries Controller l.to_controller ++ aged_entries Host l.to_host

pub aged_notes_clear : (l : Link) → AreClear (aged_notes l)
aged_notes_clear l =
    clear-append (aged_entries Controller l.to_controller) (aged_entries Host l.to_host) (clear_aged Controller l.to_controller) (clear_aged Host l.to_host)

pub says_aged : (t : List Noted) (who : Side) (k : NumberedEnd) (l : Link) → Says t who k → Says (t ++ aged_notes l) who k
says_aged t who k l a =
    says_silent t (aged_notes l) who k
    (silent-append (aged_entries Controller l.to_controller) (aged_entries Host l.to_host) (silent_aged Controller l.to_controller)
    (silent_aged Host l.to_host))
    (passes-append who (aged_entries Controller l.to_controller) (aged_entries Host l.to_host) (passes_aged who Controller l.to_controller)
    (passes_aged who Host l.to_host)) a

-- ## The tick of the controller

module _ (w : NodeWorld) (t : List Entry) (orderly : IsOrderly w) (fine : IsFineWorld w)
    (told : (h : ℕ) (s : Site) → site_at w.sites h ≡ Some s → IsLinkTold h s.link t)
    (timely : (h : ℕ) (s : Site) → site_at w.sites h ≡ Some s → IsTimely w h s) (r : Running) (runs : w.controller ≡ Some r) where
  abbrev old : NodeWorld
  old = (all_aged w).0

  abbrev since : List Entry
  since = t ++ (all_aged w).1

  abbrev start : Work
  start = controller_tick_begins old r

  abbrev come : Work
  come = times_out TimePasses (all_come TimePasses start)

  abbrev begun : Work
  begun = record come { core = after_sessions come.core come.ports; ports = map without_notice (map (forgets come.ports) come.ports) }

  abbrev older_site : Site → Site
  older_site s = record s { link = aged s.link }

  module _ (h : ℕ) (s : Site) (found : site_at w.sites h ≡ Some s) where
    abbrev its_orderly : IsOrderly old
    its_orderly = old_orderly w h s orderly found (timely h s found)

    abbrev node : HasEnds 0 (hosts_in old.sites) r
    node = node_is 0 (hosts_in old.sites) w.controller r its_orderly.controller runs

    abbrev due : IfDue (Some r) h s.link.controller.side
    due = let P : Option Running → Type 0 = λ o. IfDue o h s.link.controller.side in subst P runs (timely h s found).up

    abbrev begins : Opening h Controller (aged s.link) NoInput start
    begins = opened old h (older_site s) its_orderly (old_found w h s orderly found (timely h s found)) r runs node due

    abbrev link : IsLinkTold h s.link t
    link = told h s found

    abbrev notes : List Noted
    notes = its_notes h s.link t link ++ aged_notes s.link

    noted : AreNoted h since notes
    noted =
        noted_more h t (all_aged w).1 (its_notes h s.link t link) (aged_notes s.link) (aged_uncut w h s orderly found (timely h s found) w.sites)
        (aged_notes_clear s.link) (old_told w h s orderly found (timely h s found)) (are_noted h s.link t link)

    says : Says notes Controller s.link.controller
    says = says_aged (its_notes h s.link t link) Controller s.link.controller s.link (near_says h s.link t link)

    number : (h == 0) ≡ false
    number = host_number w h s orderly found

    carries_tick : Carries since h Controller begun
    carries_tick = by_test (is_late (older begins.port))
        (λ q. carries_from since h Controller (aged s.link) (AsksReset None) (Some (Reset None)) true notes begun number noted
        (has_come_so notes Controller (aged s.link) (AsksReset None) (Some (Reset None)) refl tt tt says)
        (too_late h Controller (aged s.link) start begins come.ports q
        (up_late old h (older_site s) its_orderly (old_found w h s orderly found (timely h s found)) r runs node due true q)))
        (λ q. carries_from since h Controller (aged s.link) NoInput (Some Tick) false notes begun number noted
        (has_ticked_so notes Controller (aged s.link) says) (in_time h Controller (aged s.link) start begins come.ports q))

  begun_hosts : map (λ (d : Desk). d.host) r.desks ≡ hosts_in old.sites → hosts_of_ends begun.ports ≡ hosts_in old.sites
  begun_hosts ends =
      let ticked : List Port = map (λ p. has_come p (Some Tick)) start.ports in
      hosts_map without_notice without_host (map (forgets come.ports) come.ports)
      ∙ (hosts_map (forgets come.ports) (forgets_host come.ports) come.ports
      ∙ (hosts_map reset_late late_host (map with_older ticked)
      ∙ (hosts_map with_older (λ p. refl) ticked
      ∙ (hosts_map (λ p. has_come p (Some Tick)) (λ p. refl) start.ports ∙ (hosts_same (λ j. (link_to old.sites j).controller) r.desks ∙ ends)))))

  pub tick_carried : map (λ (d : Desk). d.host) r.desks ≡ hosts_in old.sites → IsCarried since Controller (comes_to_pass TimePasses start)
  tick_carried ends =
      pass_carried since Controller TimePasses start (record {
        carry = record {
          uncut = λ _. came_uncut 0 0 (without_power Controller) (λ x. refl) (twice Controller) TimePasses start tt;
          each = λ h p here.
              let v : HasSite old.sites h = site_for begun.ports old.sites h p (begun_hosts ends) here in
              let was : WasThere older_site w.sites h v.site = was_there older_site (λ s. refl) w.sites h v.site v.there in
              carries_tick h was.site was.there;
        };
        fine = begun_fine TimePasses start
            (ports_fine (λ j. (link_to old.sites j).controller) (λ j. near_clean old.sites j (aged_clean w.sites fine.sites)) r.desks
            (some_desks w.controller r runs fine.controller));
      })
