-- What a host decides may be done: a command finds room, also behind another one, since behind the last command of an init nothing else
-- is kept.
use Rattle.std.proofs.Common.{eqb}
use Rattle.node_core.proofs.Words.{AreGranted, Bool, Commits, Core, Deed, Ends, Hears, Init, IsOnOrder, IsOnTask, List, Message, None, Option, Port, Some, Work}
use Rattle.node_core.proofs.Words.{[], add-one, ap, arith, body_in, cond, done, end_of_node, end_view, false, has_turn, host_deeds, map, own_view, refl}
use Rattle.node_core.proofs.Words.{slice_get, subst, suc, sym, true, zero, ℕ, ◌++◌, ◌+◌, ◌∙◌, ◌∷◌, ◌≡◌, ◌≢◌}
use Rattle.trace_model.specs.declared.entry.Entry.TheVariants.{InitFailed}
use Rattle.gate_answers.specs.declared.response.Response.TheVariants as response
use Rattle.node_machine.specs.HostReplies.{orders_of, init_agreed, init_deeds, learned, ordered_deeds}
use Rattle.node_machine.proofs.Walks.{ordered_holds, learned_holds, host_holds}

-- the last of a list is the one behind which there is none
last_is : (front : List (List ℕ)) (l order : List ℕ) (k : ℕ) → slice_get (front ++ l ∷ []) k ≡ Some order
    → slice_get (front ++ l ∷ []) (suc k) ≡ None → order ≡ l
last_is [] l order zero is none = cc
last_is [] l order (suc k) is none = cc
last_is (x ∷ []) l order zero is none = cc
last_is (x ∷ y ∷ front) l order zero is none = cc
last_is (x ∷ front) l order (suc k) is none = last_is front l order k is none

-- behind the last command of an init nothing else is kept
nothing_learned : (core : Core) (i : Init) (order value : List ℕ) → slice_get (orders_of i) i.answered ≡ Some order
    → slice_get (orders_of i) (i.answered + 1) ≡ None → learned (own_view core) order value ≡ []
nothing_learned core i order value is none =
    let front : List (List ℕ) = (3 ∷ []) ∷ (2 ∷ 1 ∷ []) ∷ (20 ∷ []) ∷ (3 ∷ []) ∷ map (λ pipe. 16 ∷ pipe) i.pipes in
    ap (λ (o : List ℕ). learned (own_view core) o value)
    (last_is front (1 ∷ 1 ∷ i.identity) order i.answered is (ap (slice_get (orders_of i)) (sym (add-one i.answered)) ∙ none))

module _ (h : ℕ) (m : Message) (w : Work) (on : IsOnTask w.core) (own : w.core.node ≢ 0) where
  abbrev Fine : List Deed → Type 0
  Fine deeds = AreGranted h w.core.init deeds (has_turn h m w)

  -- ## Commands

  ordered_fine : (errors pipe n : ℕ) (body : List ℕ) → Fine (ordered_deeds (own_view w.core) errors pipe n body)
  ordered_fine errors pipe n body = ordered_holds (λ deeds. Fine deeds) w.core errors pipe n body (grind arith)

  -- ## Responses

  -- the node as the response was heard
  abbrev heard : Work
  heard = done h Hears (record (has_turn h m w) { plan = None })

  -- what may be done of a host whose init runs as before
  abbrev MayFollow : List Deed → Type 0
  MayFollow deeds = (v : Work) → v.core.init ≡ w.core.init → v.core.node ≡ w.core.node → AreGranted h w.core.init deeds v

  ended : (v : Work) → IsOnTask (record v.core { init = None })
  ended v = (tt, λ zero. refl)

  behind_learned : (order value : List ℕ) (behind : List Deed) → MayFollow behind
      → AreGranted h w.core.init (learned (own_view w.core) order value ++ behind) heard
  behind_learned order value behind follows =
      learned_holds (λ deeds. AreGranted h w.core.init (deeds ++ behind) heard) w.core (follows heard refl refl)
      (λ c may room. (room, follows (done h (Commits c) (record heard { plan = None })) refl refl)) order value

  idle : w.core.init ≡ None → MayFollow []
  idle none v same node = grind arith

  agreed_on : (i : Init) (value order : List ℕ) → slice_get (orders_of i) (i.answered + 1) ≡ Some order → MayFollow (init_agreed (own_view w.core) i value)
  agreed_on i value order next v same node = grind arith

  agreed_last : (i : Init) (value : List ℕ) → slice_get (orders_of i) (i.answered + 1) ≡ None
      → AreGranted h w.core.init (init_agreed (own_view w.core) i value) heard
  agreed_last i value none = grind arith

  agreed_fine : (i : Init) (order value : List ℕ) → slice_get (orders_of i) i.answered ≡ Some order → (o : Option (List ℕ))
      → slice_get (orders_of i) (i.answered + 1) ≡ o
      → AreGranted h w.core.init (learned (own_view w.core) order value ++ init_agreed (own_view w.core) i value) heard
  agreed_fine i order value runs (Some next) is = behind_learned order value (init_agreed (own_view w.core) i value) (agreed_on i value next is)
  agreed_fine i order value runs None is =
      let P : List Deed → Type 0 = λ deeds. AreGranted h w.core.init (deeds ++ init_agreed (own_view w.core) i value) heard in
      subst P (sym (nothing_learned w.core i order value runs is)) (agreed_last i value is)

  answered_fine : (code : ℕ) (order value : List ℕ) (o : Option Init) → w.core.init ≡ o → IsOnOrder (Some order) o
      → AreGranted h w.core.init (cond (eqb code 0) (learned (own_view w.core) order value) [] ++ init_deeds (own_view w.core) code value o) heard
  answered_fine code order value None is runs = by (eqb code 0)
    where
      by : (b : Bool) → AreGranted h w.core.init (cond b (learned (own_view w.core) order value) [] ++ []) heard
      by true = behind_learned order value [] (idle is)
      by false = idle is heard refl refl
  answered_fine code order value (Some i) is runs = by (eqb code 0)
    where
      by : (b : Bool) → AreGranted h w.core.init
          (cond b (learned (own_view w.core) order value) []
          ++ cond b (init_agreed (own_view w.core) i value) (Ends (InitFailed (end_of_node w.core w.core.node) code) ∷ [])) heard
      by true = agreed_fine i order value runs (slice_get (orders_of i) (i.answered + 1)) refl
      by false = (tt, ended heard)

  -- what a host decides may be done, once the message has its turn
  pub host_allowed : (p : Port) → Fine (host_deeds (own_view w.core) (end_view p) m)
  host_allowed p = host_holds (λ deeds. Fine deeds) w.core p m (record {
    none = on;
    drops = (tt, on);
    goes = (tt, on);
    ordered = λ n is. ordered_fine p.desk.errors m.0 n (body_in m.1);
    heard = λ code order is.
        (refl, answered_fine code order (body_in m.1) w.core.init refl (subst (λ o. IsOnOrder o w.core.init) is on.0));
  })
