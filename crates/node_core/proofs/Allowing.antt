-- What a node decides may be done: a command finds room.
use Rattle.node_core.proofs.Words.{AllByRecursion, AreGranted, Asks, Bool, Command, Commits, Core, Deed, Drops, Ends, Err, GoesOn, Hears, Init, IsAnswered}
use Rattle.node_core.proofs.Words.{IsOnTask, List, Message, None, Ok, Option, Orders, Releases, Result, SaysOk, Sends, SetsErrors, Some, Tells, Work}
use Rattle.node_core.proofs.Words.{[], arith, body_in, cond, controller_deeds, done, false, has, has_link, has_turn, hosts_where, map, own_view, refl, subst}
use Rattle.node_core.proofs.Words.{sym, true, view_of, ℕ, ◌∷◌, ◌≡◌}
use Rattle.hcp_packet.specs.declared.MessageKind.{MessageKind}
use Rattle.hcp_packet.specs.declared.MessageKind.TheVariants.{Command as IsCommand, Event as IsEvent, Response as IsResponse}
use Rattle.hcp_packet.specs.declared.MessageFault.{MessageFault}
use Rattle.hcp_packet.specs.MessageHeader.{header_of}
use Rattle.gate_answers.specs.declared.response.Response.TheVariants as response
use Rattle.gate_admin.specs.declared.view.LinkView.{LinkView}
use Rattle.gate_admin.specs.declared.decision.Decision.{Decision}
use Rattle.gate_admin.specs.declared.decision.Decision.TheVariants.{Answer, Commit, Ask}
use Rattle.gate_admin.specs.Decide.{decided}
use Rattle.node_machine.specs.Carrying.{finds_room}
use Rattle.node_machine.specs.Controller.{commit_deeds, decision_deeds, served_at, relayed_to, unless_asking, kind_deeds, own_deeds}
use Rattle.node_machine.specs.Controller.{deeds_by_relay, own_gate, view_for, goes_through}

-- ## Deeds that may always be done

abbrev IsPlain : Deed → Type 0
IsPlain (Commits c) = ⊥
IsPlain (Sends to m) = Unit {0}
IsPlain SaysOk = Unit {0}
IsPlain (Asks to message c) = Unit {0}
IsPlain (Releases asker) = ⊥
IsPlain (Tells to message) = Unit {0}
IsPlain IsAnswered = Unit {0}
IsPlain (Drops pid) = Unit {0}
IsPlain (SetsErrors errors) = Unit {0}
IsPlain (Orders message) = ⊥
IsPlain Hears = ⊥
IsPlain (GoesOn i) = ⊥
IsPlain (Ends e) = ⊥

abbrev ArePlain : List Deed → Type 0
ArePlain deeds = AllByRecursion IsPlain deeds

plain_core : (h : ℕ) (d : Deed) (w : Work) → IsPlain d → (done h d w).core ≡ w.core
plain_core h d w plain = grind arith

all_plain : (h : ℕ) (init : Option Init) (deeds : List Deed) (w : Work) → ArePlain deeds → IsOnTask w.core → AreGranted h init deeds w
all_plain h init [] w plain on = on
all_plain h init (d ∷ deeds) w plain on =
    let same = plain_core h d (record w { plan = None }) plain.0 in (
      (grind arith),
      all_plain h init deeds (done h d (record w { plan = None })) plain.1 (subst (λ (c : Core). IsOnTask c) (sym same) on),
    )

either : {X : Type 0} (P : X → Type 0) (b : Bool) (x y : X) → P x → P y → P (cond b x y)
either P b x y one other = grind arith

tells_plain : (notice : List ℕ) (hosts : List ℕ) → ArePlain (map (λ told. Tells told notice) hosts)
tells_plain notice [] = tt
tells_plain notice (h ∷ hosts) = (tt, tells_plain notice hosts)

-- ## Decisions

module _ (h : ℕ) (m : Message) (init : Option Init) (w : Work) (on : IsOnTask w.core) where
  commit_allowed : (b : Bool) (pipe : ℕ) (c : Command) (answer : List ℕ) (told : List Deed) → (b ≡ true → finds_room w.core c ≡ true) → ArePlain told
      → AreGranted h init (commit_deeds b h pipe c answer told) (has_turn h m w)
  commit_allowed true pipe c answer told room plain =
      (room refl, all_plain h init (Sends h (pipe, answer) ∷ SaysOk ∷ told) (done h (Commits c) (record (has_turn h m w) { plan = None })) (tt, (tt, plain)) on)
  commit_allowed false pipe c answer told room plain = (tt, on)

  decision_allowed : (pipe : ℕ) (d : Decision) → AreGranted h init (decision_deeds (own_view w.core) h pipe d) (has_turn h m w)
  decision_allowed pipe (Answer answer) = (tt, on)
  decision_allowed pipe (Commit c answer tell notice) =
      commit_allowed (finds_room w.core c) pipe c answer.items (map (λ told. Tells told notice.items) (hosts_where (has tell))) (λ q. q)
      (tells_plain notice.items (hosts_where (has tell)))
  decision_allowed pipe (Ask asked notice c answer) = (tt, on)

  served_allowed : (view : LinkView) (pipe instruction : ℕ) (body : List ℕ) (o : Option ℕ)
      → AreGranted h init (served_at (own_view w.core) view h pipe instruction body o) (has_turn h m w)
  served_allowed view pipe instruction body None = decision_allowed pipe (decided w.core.tables view h pipe instruction body)
  served_allowed view pipe instruction body (Some gate) = grind arith

  asking_allowed : (instruction : ℕ) (b : Bool) → AreGranted h init (unless_asking (view_of w.core w.ports) h m instruction b) (has_turn h m w)
  asking_allowed instruction true = (tt, on)
  asking_allowed instruction false =
      served_allowed (view_for w.core.tables w.ports h) m.0 instruction (body_in m.1)
      (cond (goes_through w.core.tables h m.0 instruction) (own_gate w.core.tables h m.0) None)

  kind_allowed : (r : Result (MessageKind × ℕ) MessageFault) → AreGranted h init (kind_deeds (view_of w.core w.ports) h m r) (has_turn h m w)
  kind_allowed (Ok (IsCommand, instruction)) = asking_allowed instruction _
  kind_allowed (Ok (IsEvent, instruction)) = grind arith
  kind_allowed (Ok (IsResponse, code)) = grind arith
  kind_allowed (Err fault) = (tt, on)

  own_allowed : (b : Bool) → AreGranted h init (own_deeds (view_of w.core w.ports) h m b) (has_turn h m w)
  own_allowed true = kind_allowed (header_of m.1)
  own_allowed false = (tt, on)

  by_relay_allowed : (o : Option ℕ) → AreGranted h init (deeds_by_relay (view_of w.core w.ports) h m o) (has_turn h m w)
  by_relay_allowed (Some other) = let h0 = has_link w.ports other in grind arith
  by_relay_allowed None = own_allowed (has_link w.ports h)

  -- what a controller decides may be done, once the message has its turn
  pub controller_allowed : AreGranted h init (controller_deeds (view_of w.core w.ports) h m) (has_turn h m w)
  controller_allowed = by_relay_allowed (relayed_to w.core.tables h m)
