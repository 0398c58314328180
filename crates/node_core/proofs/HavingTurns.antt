-- A message that has its turn.
use Rattle.node_core.proofs.Words.{AreDecided, AreGranted, Bool, Brings, Core, DeedOf, FewAreDue, Foretells, Handling, Hold, Init, IsDecided, IsOnTask}
use Rattle.node_core.proofs.Words.{IsSendable, List, Message, None, Option, Plan, Port, Some, Work, [], ap, arith, controller_deeds, deeds_of, deeds_shown}
use Rattle.node_core.proofs.Words.{end_view, false, handles, has_turn, have_turns, held_at, holds_back, host_deeds, lack, lack_shown, lets_go, map, needs}
use Rattle.node_core.proofs.Words.{option_map, own_view, port_at, refl, subst, sym, true, turn_at, unless_cut, view_of, ℕ, ◌==◌, ◌∙◌, ◌∷◌, ◌≡◌, ◌≢◌}
use Rattle.std.proofs.lemmas.Bool.{ne_eqb}
use Rattle.node_deeds.specs.declared.deeds.Deed.{Deed}
use Rattle.node_deeds.specs.declared.room.Shortfall.{Shortfall}
use Rattle.node_core.proofs.Ordering.{node_allowed}
use Rattle.node_core.proofs.Deciding.{all_doable}
use Rattle.node_core.proofs.Quiet.{quiet_at, handles_quiet}

pub goes : (h : ℕ) (w : Work) → held_at w.ports h ≡ true → lets_go h w ≡ turn_at h (Hold false) w
goes h w q = rw q refl

pub stays : (h : ℕ) (w : Work) → held_at w.ports h ≡ false → lets_go h w ≡ w
stays h w q = rw q refl

-- one message waits, and its deeds find room
pub has_room : (h : ℕ) (m : Message) (deeds : List DeedOf) (w : Work) → deeds_of w.core w.ports h m ≡ deeds → lack w.ports (needs h deeds) ≡ None
    → (plan : Option Plan) → have_turns h (m ∷ []) (record w { plan = plan }) ≡ unless_cut (lets_go h) (handles h m deeds (record w { plan = plan }))
has_room h m deeds w is room plan = rw (is, room) refl

-- one message waits, and they find none
pub has_none : (h : ℕ) (m : Message) (deeds : List DeedOf) (short : ℕ × ℕ) (w : Work) → deeds_of w.core w.ports h m ≡ deeds
    → lack w.ports (needs h deeds) ≡ Some short → (plan : Option Plan)
    → have_turns h (m ∷ []) (record w { plan = plan }) ≡ holds_back h short (record w { plan = plan })
has_none h m deeds short w is none plan = rw (is, none) refl

-- nothing is lacking
pub no_some : {X : Type 0} (o : Option X) → ((x : X) → o ≡ Some x → ⊥) → o ≡ None
no_some o none = grind arith

-- ## What is done without a write

pub held_cut : (h : ℕ) (short : ℕ × ℕ) (w : Work) → (holds_back h short w).cut ≡ w.cut
held_cut h short w = grind arith

pub held_writes : (h : ℕ) (short : ℕ × ℕ) (w : Work) → (holds_back h short w).writes ≡ w.writes
held_writes h short w = grind arith

pub held_anyway : (h : ℕ) (short : ℕ × ℕ) (w : Work) (plan : Option Plan)
    → holds_back h short (record w { plan = plan }) ≡ record (holds_back h short w) { plan = plan }
held_anyway h short w plan = grind arith

pub let_cut : (h : ℕ) (w : Work) → (lets_go h w).cut ≡ w.cut
let_cut h w = grind arith

pub let_writes : (h : ℕ) (w : Work) → (lets_go h w).writes ≡ w.writes
let_writes h w = grind arith

pub let_anyway : (h : ℕ) (w : Work) (plan : Option Plan) → lets_go h (record w { plan = plan }) ≡ record (lets_go h w) { plan = plan }
let_anyway h w plan = grind arith

-- ## Definitions that are the same

pub brings_same : {N : Type 0} {writes : N → ℕ → List ℕ → Bool → N → Type 0} {old new : N} {S : Work → Type 0} {f g : Work → Work} {w : Work}
    → Brings writes old new S f w → ((plan : Option Plan) → g (record w { plan = plan }) ≡ f (record w { plan = plan })) → Brings writes old new S g w
brings_same b same = grind arith

-- the ends after a message was handled, where no write failed
pub quiet_after : {N : Type 0} {writes : N → ℕ → List ℕ → Bool → N → Type 0} {old new : N} {S : Work → Type 0} {w : Work} (h : ℕ) (m : Message)
    (deeds : List DeedOf) (b : Brings writes old new S (handles h m deeds) w) → b.after.cut ≡ false
    → map quiet_at b.after.ports ≡ map quiet_at w.ports
quiet_after {w = w} h m deeds b live =
    let F : Bool → Type 0 = λ t. Foretells None b.sure b.torn t in
    ap (λ (v : Work). map quiet_at v.ports) (sym (b.is None (subst F (sym live) refl))) ∙ handles_quiet h m deeds (record w { plan = None })

-- ## What a node decides

pub at_controller : (core : Core) (ports : List Port) (h : ℕ) (m : Message) → core.node ≡ 0
    → deeds_of core ports h m ≡ controller_deeds (view_of core ports) h m
at_controller core ports h m q = let e : (core.node == 0) ≡ true = ap (λ n. n == 0) q in rw e refl

pub at_host : (core : Core) (ports : List Port) (h : ℕ) (m : Message) (p : Port) → core.node ≢ 0 → port_at ports h ≡ Some p
    → deeds_of core ports h m ≡ host_deeds (own_view core) (end_view p) m
at_host core ports h m p some at = let e : (core.node == 0) ≡ false = ne_eqb core.node 0 some in rw (e, at) refl

pub no_host : (core : Core) (ports : List Port) (h : ℕ) (m : Message) → core.node ≢ 0 → port_at ports h ≡ None → deeds_of core ports h m ≡ []
no_host core ports h m some none = let e : (core.node == 0) ≡ false = ne_eqb core.node 0 some in rw (e, none) refl

-- what a node decided of the message that waits
pub decided : (h : ℕ) (a : Handling) (deeds : List Deed) (short : Option Shortfall) (w : Work) → a.init ≡ w.core.init → IsOnTask w.core
    → FewAreDue (port_at w.ports h) → IsSendable a.message → deeds_of w.core w.ports h a.message ≡ deeds_shown a deeds → AreDecided deeds
    → option_map lack_shown short ≡ lack w.ports (needs h (deeds_shown a deeds)) → IsDecided h a deeds short (held_at w.ports h) w
decided h a deeds short w runs on few sendable told made lacks =
    let A : List DeedOf → Type 0 = λ ds. AreGranted h w.core.init ds (has_turn h a.message w) in
    let B : Option Init → Type 0 = λ o. AreGranted h o (deeds_shown a deeds) (has_turn h a.message w) in
    record {
      deeds_are = told;
      lacks = sym lacks;
      doable = all_doable h a deeds (has_turn h a.message w) sendable made (subst B (sym runs) (subst A told (node_allowed h a.message w on)));
      held_is = refl;
      few = few;
    }
