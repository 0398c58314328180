-- What a world of nodes does, case by case: what holds of the world and of what is noted in each case holds of all that happens so.
use Rattle.std.proofs.Common.{◌≡◌, ℕ, ◌==◌, Bool, true, false, List, [], ◌∷◌, ◌++◌, length, map, Option, Some, None, refl, ap, ◌∙◌}
use Rattle.std.specs.List.{flat_map}
use Rattle.swp_base.specs.InMemory.{Memory}
use Rattle.trace_model.specs.declared.entry.Entry.{Entry}
use Rattle.trace_model.specs.declared.entry.Entry.TheVariants as entry
use Rattle.trace_model.specs.declared.line.End.{End}
use Rattle.journal_laws.specs.Journal.{count_of}
use Rattle.journal_laws.specs.Planned.{fails_within, after_planned}
use Rattle.link_laws.specs.machine.Machine.{LinkInput}
use Rattle.link_laws.specs.messages.Links.{Comes, Loss, exchanged, ticks_at_controller, happens}
use Rattle.link_laws.specs.messages.Links.Ending.{GoesOut}
use Rattle.link_laws.specs.messages.Links.EndEvent.{Lose}
use Rattle.link_laws.specs.entries.Entries.{first_lost}
use Rattle.link_laws.specs.entries.Entries.End.{Controller, Host}
use Rattle.history.specs.Follows.{seen_from}
use Rattle.history.specs.Steps.{at, entries_for}
use Rattle.node_machine.specs.Parts.{Running, Work}
use Rattle.node_machine.specs.Node.{steps, found, boot_writes}
use Rattle.node_machine.specs.Node.NodeInput.{AtEnd, TimePasses}
use Rattle.node_machine.specs.world.World.{NodeWorld, Site, site_at, with_site, link_to, input_of, ending_of, runs_on, turns_at, wires_for, frames_noted}
use Rattle.node_machine.specs.world.World.{work_of, controller_work, after_controller, controller_does, host_work, after_host, host_does, controller_cut}
use Rattle.node_machine.specs.world.World.{host_cut, node_at, loses_power_at, memory_at, with_memory, with_node, links_of, boots, counts, frame_lost}
use Rattle.node_machine.specs.world.World.{is_late_at, ticked_so, controller_ticks, host_ticks, comes_at}

-- ## Steps

-- the world after a step of a host, and what is noted of it
abbrev pub after_host_step : NodeWorld → ℕ → Comes → Site → Work → NodeWorld × List Entry
after_host_step w k comes s v =
    (record w { sites = with_site k (after_host comes v) w.sites }, v.entries ++ frames_noted Host k (wires_for (exchanged s.link) comes) v)

module _ (P : NodeWorld × List Entry → Type 0) where
  -- the controller has a step where it runs
  pub by_controller : (w : NodeWorld) (k : ℕ) (comes : Comes) (f : Work → Work) → P (w, [])
      → ((r : Running) → w.controller ≡ Some r → P (after_controller w k comes (controller_work w r k comes f)))
      → P (controller_does w k comes f)
  by_controller w k comes f none runs = go w.controller refl
    where
      by : Option Running → NodeWorld × List Entry
      by None = (w, [])
      by (Some r) = after_controller w k comes (controller_work w r k comes f)

      go : (o : Option Running) → w.controller ≡ o → P (by o)
      go None q = none
      go (Some r) q = runs r q

  -- a host has one where it is there and runs
  pub by_host : (w : NodeWorld) (k : ℕ) (comes : Comes) (f : Work → Work) → P (w, [])
      → ((s : Site) (r : Running) → site_at w.sites k ≡ Some s → s.node ≡ Some r → P (after_host_step w k comes s (host_work s r comes f)))
      → P (host_does w k comes f)
  by_host w k comes f none runs = go (site_at w.sites k) refl
    where
      of_site : (s : Site) → site_at w.sites k ≡ Some s → (o : Option Running) → s.node ≡ o → P (host_does w k comes f)
      of_site s found None q = rw (found, q) none
      of_site s found (Some r) q = rw (found, q) (runs s r found q)

      go : (o : Option Site) → site_at w.sites k ≡ o → P (host_does w k comes f)
      go None q = rw q none
      go (Some s) q = of_site s q s.node refl

  -- nothing comes to an end, or something comes to that of a host, or of the controller
  pub by_coming : (w : NodeWorld) (e : End) (comes : Comes) → P (w, [])
      → ((i : LinkInput) → e.at_host ≡ true → input_of (exchanged (link_to w.sites e.link)) comes ≡ Some i
      → P (host_does w e.link comes (steps (AtEnd e.link i))))
      → ((i : LinkInput) → e.at_host ≡ false → input_of (link_to w.sites e.link) comes ≡ Some i
      → P (controller_does w e.link comes (steps (AtEnd e.link i))))
      → P (comes_at w e comes)
  by_coming w e comes none host controller = go (input_of (seen_from e (link_to w.sites e.link)) comes) e.at_host refl refl
    where
      go : (o : Option LinkInput) (b : Bool) → input_of (seen_from e (link_to w.sites e.link)) comes ≡ o → e.at_host ≡ b → P (comes_at w e comes)
      go None b q is = rw q none
      go (Some i) true q is = rw q (rw is (host i is (rw is at q)))
      go (Some i) false q is = rw q (rw is (controller i is (rw is at q)))

-- ## Power and memories

-- the world that has lost the power of a node, has another memory of it, or in which it runs so: it is the controller, or a host
module _ (P : NodeWorld → Type 0) (n : ℕ) (w : NodeWorld) where
  pub by_power : ((n == 0) ≡ true → P (controller_cut w)) → ((n == 0) ≡ false → P (record w { sites = with_site n host_cut w.sites }))
      → P (loses_power_at n w)
  by_power near far = go (n == 0) refl
    where
      go : (b : Bool) → (n == 0) ≡ b → P (loses_power_at n w)
      go true q = rw q (near q)
      go false q = rw q (far q)

  pub by_memory : (m : Memory) → ((n == 0) ≡ true → P (record w { memory = m }))
      → ((n == 0) ≡ false → P (record w { sites = with_site n (λ s. record s { memory = m }) w.sites })) → P (with_memory n m w)
  by_memory m near far = go (n == 0) refl
    where
      go : (b : Bool) → (n == 0) ≡ b → P (with_memory n m w)
      go true q = rw q (near q)
      go false q = rw q (far q)

  pub by_running : (r : Running) → ((n == 0) ≡ true → P (record w { controller = Some r }))
      → ((n == 0) ≡ false → P (record w { sites = with_site n (λ s. record s { node = Some r }) w.sites })) → P (with_node n r w)
  by_running r near far = go (n == 0) refl
    where
      go : (b : Bool) → (n == 0) ≡ b → P (with_node n r w)
      go true q = rw q (near q)
      go false q = rw q (far q)

-- a world in which a boot has written to the memory of a node
abbrev pub boot_written : NodeWorld → ℕ → NodeWorld
boot_written w n = with_memory n (after_planned (boot_writes (memory_at w n).content) (memory_at w n)) w

-- and what the node has found there
abbrev pub boot_found : NodeWorld → ℕ → Running
boot_found w n = found n (links_of w n) (memory_at w n).content

-- a controller that didn't run before doesn't run as its boot has written
pub written_off : (w : NodeWorld) (n : ℕ) → node_at w n ≡ None → (n == 0) ≡ true → (boot_written w n).controller ≡ None
written_off w n stands e =
    let same : boot_written w n ≡ record w { memory = after_planned (boot_writes (memory_at w n).content) (memory_at w n) } = rw e refl in
    let none : w.controller ≡ None = rw e at stands in
    ap (λ (v : NodeWorld). v.controller) same ∙ none

-- a site at whose end a frame is lost
abbrev pub site_lost : End → Loss → Site → Site
site_lost e why s = record s { link = happens s.link (at e (Lose why)) }

module _ (P : NodeWorld × List Entry → Type 0) where
  -- a boot loses the power, or goes through
  pub by_boot : (w : NodeWorld) (n : ℕ) → P (loses_power_at n (boot_written w n), entry.Cut n ∷ [])
      → P (with_node n (boot_found w n) (boot_written w n), entry.Booted n (count_of (boot_found w n).core.journal) ∷ [])
      → P (boots w n)
  by_boot w n lost runs = go (fails_within (length (boot_writes (memory_at w n).content)) (memory_at w n).plan) refl
    where
      go : (b : Bool) → fails_within (length (boot_writes (memory_at w n).content)) (memory_at w n).plan ≡ b → P (boots w n)
      go true q = rw q lost
      go false q = rw q runs

  -- the end that loses a frame is that of a host, or of the controller
  pub by_loss : (w : NodeWorld) (e : End) (why : Loss)
      → (e.at_host ≡ true → P (
        record w { sites = with_site e.link (λ s. record (site_lost e why s) { node = counts why e.link s.node }) w.sites },
        entries_for e.link (first_lost Host why (link_to w.sites e.link).to_host),
      ))
      → (e.at_host ≡ false → P (
        record w { controller = counts why e.link w.controller; sites = with_site e.link (site_lost e why) w.sites },
        entries_for e.link (first_lost Controller why (link_to w.sites e.link).to_controller),
      ))
      → P (frame_lost w e why)
  by_loss w e why host controller = go e.at_host refl
    where
      lost : Site → Site
      lost s = record s { link = happens s.link (at e (Lose why)) }

      by : Bool → NodeWorld × List Entry
      by false = (
        record w { controller = counts why e.link w.controller; sites = with_site e.link lost w.sites },
        entries_for e.link (first_lost Controller why (link_to w.sites e.link).to_controller),
      )
      by true = (
        record w { sites = with_site e.link (λ s. record (lost s) { node = counts why e.link s.node }) w.sites },
        entries_for e.link (first_lost Host why (link_to w.sites e.link).to_host),
      )

      go : (b : Bool) → e.at_host ≡ b → P (by b)
      go true q = host q
      go false q = controller q

-- ## Ticks

-- a link of the controller after a tick in which it doesn't run, or does so
abbrev pub site_unticked : Site → Site
site_unticked s = record s { link = ticks_at_controller s.link [] GoesOut }

abbrev pub site_ticked : Work → Site → Site
site_ticked v s = record s { link = ticked_so s.link (is_late_at v s.host) (turns_at v s.host) (ending_of v) }

-- the work of the controller's tick, and the world behind it
abbrev pub near_tick : NodeWorld → Running → Work
near_tick w r = steps TimePasses (work_of r w.memory.plan (λ h. (link_to w.sites h).controller) [])

abbrev pub after_near_tick : NodeWorld → Work → NodeWorld × List Entry
after_near_tick w v = (
  record { memory = after_planned v.writes w.memory; controller = runs_on v; sites = map (site_ticked v) w.sites },
  v.entries ++ flat_map (λ (s : Site). frames_noted Controller s.host s.link v) w.sites,
)

-- the work of a host's tick, and the host behind it
abbrev pub host_tick : Site → Running → Work
host_tick s r = steps TimePasses (work_of r s.memory.plan (λ h. s.link.host) [])

abbrev pub after_tick : Site → Work → Site × List Entry
after_tick s v = (
  record s {
    link = exchanged (ticks_at_controller (exchanged s.link) (turns_at v s.host) (ending_of v));
    memory = after_planned v.writes s.memory;
    node = runs_on v;
  },
  v.entries ++ frames_noted Host s.host (exchanged s.link) v,
)

pub by_controller_tick : (P : NodeWorld × List Entry → Type 0) (w : NodeWorld) → (w.controller ≡ None → P (record w { sites = map site_unticked w.sites }, []))
    → ((r : Running) → w.controller ≡ Some r → P (after_near_tick w (near_tick w r))) → P (controller_ticks w)
by_controller_tick P w none runs = go w.controller refl
  where
    by : Option Running → NodeWorld × List Entry
    by None = (record w { sites = map site_unticked w.sites }, [])
    by (Some r) = after_near_tick w (near_tick w r)

    go : (o : Option Running) → w.controller ≡ o → P (by o)
    go None q = none q
    go (Some r) q = runs r q

pub by_host_tick : (P : Site × List Entry → Type 0) (s : Site)
    → (s.node ≡ None → P (record s { link = exchanged (ticks_at_controller (exchanged s.link) [] GoesOut) }, []))
    → ((r : Running) → s.node ≡ Some r → P (after_tick s (host_tick s r))) → P (host_ticks s)
by_host_tick P s none runs = go s.node refl
  where
    by : Option Running → Site × List Entry
    by None = (record s { link = exchanged (ticks_at_controller (exchanged s.link) [] GoesOut) }, [])
    by (Some r) = after_tick s (host_tick s r)

    go : (o : Option Running) → s.node ≡ o → P (by o)
    go None q = none q
    go (Some r) q = runs r q
