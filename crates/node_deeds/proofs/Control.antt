-- What a controller does, case by case, over what its code keeps.
use Rattle.node_deeds.proofs.Words.{Bool, Command, Commits, Core, Create, Deed, Drops, HciTables, IsCommand, IsEvent, IsResponse, KeptDesk, LinkView, List}
use Rattle.node_deeds.proofs.Words.{Message, None, Ok, Option, PipeRow, Port, SaysOk, Sends, Some, Stored, Tells, Unanswered, [], about_at, about_of}
use Rattle.node_deeds.proofs.Words.{about_shown, ap, ap₂, asks_for, body_in, cond, cond_both, controller_core, controller_deeds, decided, decision_deeds}
use Rattle.node_deeds.proofs.Words.{deeds_by_relay, desk_of, eq-eqb, eqb, event_deeds, false, gate_deeds, goes_through, has, has_link, has_room_for, header_of}
use Rattle.node_deeds.proofs.Words.{hosts_where, if_notice, instruction_in, kind_deeds, map, notice_deeds, notice_shown, option_map, option_map_or, own_deeds}
use Rattle.node_deeds.proofs.Words.{own_gate, own_view, port_at, ports_shown, refl, relayed_to, served_at, subst, sym, true, unless_asking, view_for, view_of}
use Rattle.node_deeds.proofs.Words.{ℕ, ◌&&◌, ◌∙◌, ◌∷◌, ◌≡◌}
use Rattle.gate_admin.specs.declared.decision.Decision.{Decision}
use Rattle.gate_admin.specs.declared.decision.Decision.TheVariants.{Commit}
use Rattle.node_machine.specs.Parts.{About}
use Rattle.node_machine.specs.Controller.{agreed, command_deeds, commit_deeds}
use Rattle.node_deeds.specs.declared.desks.About.TheVariants as about
use Rattle.node_deeds.specs.Shown.{AreSeen, creation_of_row}
use Rattle.node_deeds.specs.Cores.{AreSoundDesks, IsCoreOf, IsSoundDesk}
use Rattle.node_deeds.proofs.Headers.{command_instruction}
use Rattle.node_deeds.proofs.Ports.{deeds_alike}
use Rattle.node_deeds.proofs.Views.{link_found}

-- ## Messages

module _ (core : Core) (ports : List Port) (h : ℕ) (m : Message) where
  pub kind_waits : (n : ℕ) → header_of m.1 ≡ Ok (IsCommand, n) → (eqb m.0 1 && asks_for ports h) ≡ true
      → Drops m.0 ∷ [] ≡ kind_deeds (view_of core ports) h m (header_of m.1)
  kind_waits n e waits = ap (λ b. unless_asking (view_of core ports) h m n b) (sym waits) ∙ ap (λ x. kind_deeds (view_of core ports) h m x) (sym e)

  pub kind_commands : (n : ℕ) → header_of m.1 ≡ Ok (IsCommand, n) → (eqb m.0 1 && asks_for ports h) ≡ false
      → command_deeds (view_of core ports) h m.0 (instruction_in m.1) (body_in m.1) ≡ kind_deeds (view_of core ports) h m (header_of m.1)
  kind_commands n e free =
      ap (λ k. command_deeds (view_of core ports) h m.0 k (body_in m.1)) (sym (command_instruction m.1 n e))
      ∙ (ap (λ b. unless_asking (view_of core ports) h m n b) (sym free) ∙ ap (λ x. kind_deeds (view_of core ports) h m x) (sym e))

  pub kind_tells : (n : ℕ) → header_of m.1 ≡ Ok (IsEvent, n) → event_deeds core.tables h m ≡ kind_deeds (view_of core ports) h m (header_of m.1)
  kind_tells n e = ap (λ x. kind_deeds (view_of core ports) h m x) (sym e)

  pub kind_replies : (code : ℕ) (what : Option About) → what ≡ about_at (port_at ports h) → header_of m.1 ≡ Ok (IsResponse, code) → m.0 ≡ 1
      → notice_deeds (own_view core) code what ≡ kind_deeds (view_of core ports) h m (header_of m.1)
  kind_replies code what same e one =
      ap (λ o. notice_deeds (own_view core) code o) same
      ∙ (ap (λ b. if_notice (view_of core ports) h m code b) (sym (eq-eqb m.0 1 one)) ∙ ap (λ x. kind_deeds (view_of core ports) h m x) (sym e))

  pub gate_serves : (pipe n gate errors : ℕ) (body : List ℕ) → cond (goes_through core.tables h pipe n) (own_gate core.tables h pipe) None ≡ Some gate
      → errors ≡ option_map_or (λ (p : Port). p.desk.errors) (port_at ports h) 0
      → gate_deeds gate errors h pipe n body ≡ command_deeds (view_of core ports) h pipe n body
  gate_serves pipe n gate errors body e same =
      ap (λ k. gate_deeds gate k h pipe n body) same ∙ ap (λ o. served_at (own_view core) (view_for core.tables ports h) h pipe n body o) (sym e)

  pub gate_decides : (pipe n : ℕ) (body : List ℕ) (view : LinkView) → cond (goes_through core.tables h pipe n) (own_gate core.tables h pipe) None ≡ None
      → view ≡ view_for core.tables ports h
      → decision_deeds (own_view core) h pipe (decided core.tables view h pipe n body) ≡ command_deeds (view_of core ports) h pipe n body
  gate_decides pipe n body view e same =
      ap (λ v. decision_deeds (own_view core) h pipe (decided core.tables v h pipe n body)) same
      ∙ ap (λ o. served_at (own_view core) (view_for core.tables ports h) h pipe n body o) (sym e)

-- ## Decisions and replies

pub decision_commits : (core : Core) (h pipe : ℕ) (decision : Decision) (c : Command) (answer : _) (tell : ℕ) (notice : _)
    → decision ≡ Commit c answer tell notice → has_room_for core.journal c ≡ true
    → Commits c ∷ Sends h (pipe, answer.items) ∷ SaysOk ∷ map (λ told. Tells told notice.items) (hosts_where (has tell))
    ≡ decision_deeds (own_view core) h pipe decision
decision_commits core h pipe decision c answer tell notice e room =
    ap (λ b. commit_deeds b h pipe c answer.items (map (λ told. Tells told notice.items) (hosts_where (has tell)))) (sym room)
    ∙ ap (decision_deeds (own_view core) h pipe) (sym e)

-- an answer to a notice about a creation that waits
pub agreed_or_not : (core : Core) (code : ℕ) (o : Option Unanswered) (n : Unanswered) (row : PipeRow) (agrees : Bool) → o ≡ Some n
    → n.about ≡ about.Waits row → (eqb code 0 && has_room_for core.journal (Create row)) ≡ agrees
    → agreed agrees (creation_of_row row) ≡ notice_deeds (own_view core) code (about_of (option_map notice_shown o))
agreed_or_not core code o n row agrees some waits both =
    ap (λ b. agreed b (creation_of_row row)) (sym both)
    ∙ (ap (λ what. notice_deeds (own_view core) code (Some (about_shown what))) (sym waits)
    ∙ ap (λ o. notice_deeds (own_view core) code (about_of (option_map notice_shown o))) (sym some))

pub second_fails : (a b : Bool) → b ≡ false → (a && b) ≡ false
second_fails true b e = e
second_fails false b e = refl

pub first_fails : (a b : Bool) → a ≡ false → (a && b) ≡ false
first_fails true b e = absurd (cc e)
first_fails false b e = refl

-- the desk that is found is one of them
pub desk_sound : (desks : List KeptDesk) (h : ℕ) (d : KeptDesk) → AreSoundDesks desks → desk_of desks h ≡ Some d → IsSoundDesk d
desk_sound [] h d all here = absurd (cc here)
desk_sound (e ∷ desks) h d all here =
    cond_both (eqb e.host h) (Some e) (desk_of desks h) (λ o. o ≡ Some d → IsSoundDesk d)
    (λ _ is. let same : e ≡ d = cc in subst IsSoundDesk same all.0) (λ _ is. desk_sound desks h d all.1 is) here

-- ## Cores

same_core : (core : Core) (ports : List Port) (h : ℕ) (m : Message)
    → controller_deeds (view_of (controller_core core.journal core.tables) ports) h m ≡ controller_deeds (view_of core ports) h m
same_core core ports h m = refl

-- what is done over what the code keeps is done at the core and the ends that it stands for
pub deeds_of_core : {N : Type 0} (s : Stored N) (core : Core) (up : ℕ) (desks : List KeptDesk) (ports : List Port) (h : ℕ) (m : Message)
    → IsCoreOf s core → AreSeen up desks ports
    → controller_deeds (view_of (controller_core s.journal.state s.tables) (ports_shown up desks)) h m ≡ controller_deeds (view_of core ports) h m
deeds_of_core s core up desks ports h m kept seen =
    deeds_alike (ports_shown up desks) ports (sym seen.same) (controller_core s.journal.state s.tables) h m
    ∙ (ap₂ (λ journal tables. controller_deeds (view_of (controller_core journal tables) ports) h m) (sym kept.journal) (sym kept.tables)
    ∙ same_core core ports h m)

-- a message that isn't relayed
pub not_relayed : {N : Type 0} (s : Stored N) (core : Core) (up : ℕ) (desks : List KeptDesk) (ports : List Port) (h : ℕ) (m : Message)
    → IsCoreOf s core → AreSeen up desks ports → (t : HciTables) → t ≡ s.tables → None ≡ relayed_to t h m
    → (linked : Bool) → linked ≡ has_link (ports_shown up desks) h → (done : List Deed)
    → done ≡ own_deeds (view_of (controller_core s.journal.state s.tables) (ports_shown up desks)) h m linked
    → done ≡ controller_deeds (view_of core ports) h m
not_relayed s core up desks ports h m kept seen t same none linked link done own =
    let v = view_of (controller_core s.journal.state s.tables) (ports_shown up desks) in
    own
    ∙ (ap (own_deeds v h m) link
    ∙ (ap (deeds_by_relay v h m) (none ∙ ap (λ t. relayed_to t h m) same) ∙ deeds_of_core s core up desks ports h m kept seen))

-- one of a host whose link is up
pub own_done : {N : Type 0} (s : Stored N) (core : Core) (up : ℕ) (desks : List KeptDesk) (ports : List Port) (h : ℕ) (m : Message)
    → IsCoreOf s core → AreSeen up desks ports → (t : HciTables) → t ≡ s.tables → None ≡ relayed_to t h m
    → (d : KeptDesk) → Some d ≡ desk_of desks h → (b : Bool) → b ≡ has up d.host → b ≡ true → (done : List Deed)
    → done ≡ kind_deeds (view_of (controller_core s.journal.state s.tables) (ports_shown up desks)) h m (header_of m.1)
    → done ≡ controller_deeds (view_of core ports) h m
own_done s core up desks ports h m kept seen t same none d found b up_is on done own =
    not_relayed s core up desks ports h m kept seen t same none true (sym on ∙ (up_is ∙ link_found up desks h (Some d) found)) done own
