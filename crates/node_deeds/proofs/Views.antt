-- What code reads at the desks that it keeps is what the definition reads at the ends.
use Rattle.node_deeds.proofs.Words.{Bool, Creation, HciTables, KeptDesk, List, None, Option, PipeRow, Port, Some, Unanswered, [], about_at, about_of}
use Rattle.node_deeds.proofs.Words.{about_shown, ap, ap₂, arith, asked_by, asks_for, awaited_pipe, cond, configured_by, connected_by, cons_option, creation_in}
use Rattle.node_deeds.proofs.Words.{desk_of, eqb, false, filter_map, has, has_link, hosts_below, hosts_below-left, is_asked_at, is_opened, is_some, is_up}
use Rattle.node_deeds.proofs.Words.{list_any, mask_of, notice_shown, noticed_by, option_and_then, option_map, option_map_or, pipe_of, port_at, ports_shown}
use Rattle.node_deeds.proofs.Words.{refl, row_waits_for, suc, sym, true, view_for, waiting_pipes, zero, ℕ, ◌&&◌, ◌+◌, ◌<◌, ◌^◌, ◌||◌, ◌∙◌, ◌∷◌, ◌≡◌, ◌≤◌}
use Rattle.shdlc_core.specs.declared.answers.LinkState.TheVariants.{Down, Up}
use Rattle.gate_admin.specs.View.{hosts_where}
use Rattle.gate_admin.proofs.ViewLemmas.{double, mask_of-taken}
use Rattle.node_machine.specs.Controller.{asked_at, is_connected_at}
use Rattle.node_deeds.specs.declared.desks.About.{About as KeptAbout}
use Rattle.node_deeds.specs.declared.desks.About.TheVariants as about
use Rattle.node_deeds.specs.Shown.{port_shown, row_about, row_noticed}
use Rattle.node_deeds.specs.Desks.{asked_in, errors_by}
use Rattle.node_deeds.proofs.Ports.{find-map, hosts_same, view_with, view_made}

-- ## One end

up_shown : (up : Bool) → is_up (cond up Up Down) ≡ up
up_shown true = refl
up_shown false = refl

-- the end of the link with a host, by the desk that is found
port_found : (up : ℕ) (desks : List KeptDesk) (h : ℕ) (o : Option KeptDesk) → o ≡ desk_of desks h
    → option_map (port_shown up) o ≡ port_at (ports_shown up desks) h
port_found up desks h o found = ap (option_map (port_shown up)) found ∙ sym (find-map (λ (p : Port). eqb p.desk.host h) (port_shown up) desks)

-- what is read at a desk is what is read at its end
read_found : {X : Type 0} (g : KeptDesk → X) (f : Port → X) (x : X) (up : ℕ) → ((d : KeptDesk) → g d ≡ f (port_shown up d))
    → (desks : List KeptDesk) (h : ℕ) (o : Option KeptDesk) → o ≡ desk_of desks h
    → option_map_or g o x ≡ option_map_or f (port_at (ports_shown up desks) h) x
read_found {X} g f x up same desks h o found = by o ∙ ap (λ p. option_map_or f p x) (port_found up desks h o found) where
  by : (o : Option KeptDesk) → option_map_or g o x ≡ option_map_or f (option_map (port_shown up) o) x
  by None = refl
  by (Some d) = same d

pub link_found : (up : ℕ) (desks : List KeptDesk) (h : ℕ) (o : Option KeptDesk) → o ≡ desk_of desks h
    → option_map_or (λ (d : KeptDesk). has up d.host) o false ≡ has_link (ports_shown up desks) h
link_found up desks h o found =
    read_found (λ d. has up d.host) (λ p. is_up p.side.shdlc.phase) false up (λ d. sym (up_shown (has up d.host))) desks h o found

pub errors_shown : (up : ℕ) (desks : List KeptDesk) (h : ℕ)
    → errors_by desks h ≡ option_map_or (λ (p : Port). p.desk.errors) (port_at (ports_shown up desks) h) 0
errors_shown up desks h = read_found (λ d. d.errors) (λ p. p.desk.errors) 0 up (λ d. refl) desks h (desk_of desks h) refl

-- ## All ends

waits_shown : (up h : ℕ) (d : KeptDesk) → row_waits_for h d ≡ option_map_or (λ (c : Creation). eqb c.asker h) (asked_at (port_shown up d)) false
waits_shown up h d = by d.notice where
  by_about : (age : ℕ) (a : KeptAbout) → option_map_or (λ (row : PipeRow). eqb row.creator h) (row_about a) false
      ≡ option_map_or (λ (c : Creation). eqb c.asker h) (creation_in (Some (record { about = about_shown a; age = age }))) false
  by_about age (about.Waits row) = refl
  by_about age about.Forgotten = refl
  by_about age about.Removed = refl

  by : (o : Option Unanswered) → option_map_or (λ (row : PipeRow). eqb row.creator h) (row_noticed o) false
      ≡ option_map_or (λ (c : Creation). eqb c.asker h) (creation_in (option_map notice_shown o)) false
  by None = refl
  by (Some n) = by_about n.age n.about

pub asks_shown : (up : ℕ) (desks : List KeptDesk) (h : ℕ) → list_any (row_waits_for h) desks ≡ asks_for (ports_shown up desks) h
asks_shown up [] h = refl
asks_shown up (d ∷ desks) h = ap₂ (λ a b. a || b) (waits_shown up h d) (asks_shown up desks h)

pipe_shown : (o : Option Unanswered) → option_map (λ (row : PipeRow). row.pid) (row_noticed o)
    ≡ option_and_then (λ (c : Creation). pipe_of c.command) (creation_in (option_map notice_shown o))
pipe_shown None = refl
pipe_shown (Some n) = by_about n.age n.about where
  by_about : (age : ℕ) (a : KeptAbout) → option_map (λ (row : PipeRow). row.pid) (row_about a)
      ≡ option_and_then (λ (c : Creation). pipe_of c.command) (creation_in (Some (record { about = about_shown a; age = age })))
  by_about age (about.Waits row) = refl
  by_about age about.Forgotten = refl
  by_about age about.Removed = refl

waiting_shown : (up : ℕ) (desks : List KeptDesk) → filter_map awaited_pipe desks ≡ waiting_pipes (ports_shown up desks)
waiting_shown up [] = refl
waiting_shown up (d ∷ desks) = ap₂ (λ o pipes. cons_option o pipes) (pipe_shown d.notice) (waiting_shown up desks)

-- what the notice to the host of the desk that is found is about
pub about_found : (up : ℕ) (desks : List KeptDesk) (h : ℕ) (d : KeptDesk) → Some d ≡ desk_of desks h
    → about_of (option_map notice_shown d.notice) ≡ about_at (port_at (ports_shown up desks) h)
about_found up desks h d found = ap about_at (port_found up desks h (Some d) found)

-- ## Masks

-- the places of hosts fit a byte
pub places_fit : (h : ℕ) → h < 8 → 2 ^ h + 2 ^ h ≤ 256
places_fit zero small = omega arith
places_fit (suc zero) small = omega arith
places_fit (suc (suc zero)) small = omega arith
places_fit (suc (suc (suc zero))) small = omega arith
places_fit (suc (suc (suc (suc zero)))) small = omega arith
places_fit (suc (suc (suc (suc (suc zero))))) small = omega arith
places_fit (suc (suc (suc (suc (suc (suc zero)))))) small = omega arith
places_fit (suc (suc (suc (suc (suc (suc (suc zero))))))) small = omega arith
places_fit (suc (suc (suc (suc (suc (suc (suc (suc n)))))))) small = absurd (omega arith)

-- the mask of the hosts below one that pass a test
pub record IsMaskBelow (test : ℕ → Bool) (host mask : ℕ) : Type 0 where
  pub is : mask ≡ mask_of (hosts_below test host)
  pub below : mask < 2 ^ host

pub mask_grows : (test : ℕ → Bool) (host : ℕ) (mask next place : ℕ) (passes : Bool) → 1 ≤ host → IsMaskBelow test host mask → passes ≡ test host
    → place ≡ cond passes (2 ^ host) 0 → next ≡ mask + place → IsMaskBelow test (host + 1) next
mask_grows test host mask next place true from so_far passed is grown =
    let more = mask_of-taken test host from (sym passed) in
    let twice = double host in
    let mask_is = so_far.is in
    let below = so_far.below in
    record { is = omega arith; below = omega arith }
mask_grows test host mask next place false from so_far passed is grown =
    let same = ap mask_of (hosts_below-left test host from (sym passed)) in
    let twice = double host in
    let mask_is = so_far.is in
    let below = so_far.below in
    record { is = omega arith; below = omega arith }

mask_all : (test other : ℕ → Bool) (host mask : ℕ) → host ≡ 8 → IsMaskBelow test host mask → ((h : ℕ) → test h ≡ other h)
    → mask ≡ mask_of (hosts_where other)
unfolding hosts_where
mask_all test other host mask last m same = m.is ∙ (ap (λ h. mask_of (hosts_below test h)) last ∙ ap mask_of (hosts_same test other same))

asked_shown : (up : ℕ) (d : KeptDesk) → asked_in d.notice ≡ is_asked_at (port_shown up d)
asked_shown up d = by d.notice d.host d.holds d.errors where
  by : (o : Option Unanswered) (host : ℕ) (holds : Bool) (errors : ℕ)
      → asked_in o ≡ is_asked_at (port_shown up (record { host = host; notice = o; holds = holds; errors = errors }))
  by None host holds errors = refl
  by (Some n) host holds errors = by_about n.about where
    by_about : (a : KeptAbout)
        → asked_in (Some (record { about = a; age = n.age }))
        ≡ is_asked_at (port_shown up (record { host = host; notice = Some (record { about = a; age = n.age }); holds = holds; errors = errors }))
    by_about (about.Waits row) = refl
    by_about about.Forgotten = refl
    by_about about.Removed = refl

some_shown : (o : Option Unanswered) → is_some o ≡ is_some (option_map notice_shown o)
some_shown None = refl
some_shown (Some n) = refl

pub view_read : (t : HciTables) (up : ℕ) (desks : List KeptDesk) (host other a b c d e : ℕ) (w : List ℕ) → other ≡ 8
    → IsMaskBelow (configured_by desks) other a → IsMaskBelow (connected_by t up desks) other b → IsMaskBelow (noticed_by desks) other c
    → IsMaskBelow (asked_by desks) other d → w ≡ filter_map awaited_pipe desks → e ≡ errors_by desks host
    → view_with a b c d w e ≡ view_for t (ports_shown up desks) host
view_read t up desks host other a b c d e w last hosts links notices asks waits errors =
    view_made _ _ _ _ _ _ _ _ _ _ _ _
    (mask_all (configured_by desks) _ other a last hosts (λ h. read_found (λ d. true) (λ p. true) false up (λ d. refl) desks h (desk_of desks h) refl))
    (mask_all (connected_by t up desks) _ other b last links
    (λ h. read_found (λ d. has up d.host && is_opened t d.host 1) (is_connected_at t) false up
    (λ d. ap (λ up. up && is_opened t d.host 1) (sym (up_shown (has up d.host)))) desks h (desk_of desks h) refl))
    (mask_all (noticed_by desks) _ other c last notices
    (λ h. read_found (λ d. is_some d.notice) (λ p. is_some p.desk.notice) false up (λ d. some_shown d.notice) desks h (desk_of desks h) refl))
    (mask_all (asked_by desks) _ other d last asks
    (λ h. read_found (λ d. asked_in d.notice) is_asked_at false up (asked_shown up) desks h (desk_of desks h) refl))
    (waits ∙ waiting_shown up desks) (errors ∙ errors_shown up desks host)
