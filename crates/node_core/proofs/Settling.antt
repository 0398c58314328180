-- What is settled behind what came in a step, and what that leaves at the ends.
use Rattle.node_core.proofs.Words.{AreFewDue, Bool, Brings, Deed, Entry, Foretells, IsInStep, List, Node, None, Option, Plan, Port, Releases, Response, Sends}
use Rattle.node_core.proofs.Words.{Work, [], after_sessions, all_done, all_owed, answer_of, answers_owed, ap, append-nil, append_assoc, ap₂, arith, done, false}
use Rattle.node_core.proofs.Words.{flat_map, flat_map-cons, forgets, forgotten, left_over, map, not, refl, settles, subst, sym, true, unless_cut}
use Rattle.node_core.proofs.Words.{without_notice, ℕ, ◌++◌, ◌∙◌, ◌∷◌, ◌≡◌, ◌≤◌}
use Rattle.node_core.proofs.Joining.{brings_plain, brings_cut, brings_then, stays_cut, goes_on}
use Rattle.node_core.proofs.Steps.{brings_after}
use Rattle.node_core.proofs.HavingTurns.{brings_same}
use Rattle.node_core.proofs.Quiet.{Quiet, quiet_at, all_quiet}

-- ## What is done without a write

-- nothing of it depends on the plan, and nothing is written
pub record IsPlain (f : Work → Work) : Type 0 where
  pub planned : (w : Work) (plan : Option Plan) → f (record w { plan = plan }) ≡ record (f w) { plan = plan }
  pub written : (w : Work) → (f w).writes ≡ w.writes
  pub power : (w : Work) → (f w).cut ≡ w.cut

plain_none : IsPlain (all_done 0 [])
plain_none = record { planned = λ w plan. refl; written = λ w. refl; power = λ w. refl }

plain_more : (d : Deed) (deeds : List Deed) → IsPlain (done 0 d) → IsPlain (all_done 0 deeds) → IsPlain (all_done 0 (d ∷ deeds))
plain_more d deeds one later = grind arith

pub plain_freed : (askers : List ℕ) → IsPlain (all_done 0 (map Releases askers))
plain_freed [] = plain_none
plain_freed (a ∷ askers) = plain_more (Releases a) (map Releases askers) (grind arith) (plain_freed askers)

owed_one : (r : Response) (asker : ℕ) (behind : List Deed) → IsPlain (all_done 0 behind) → IsPlain (all_done 0 (answers_owed r asker ++ behind))
owed_one r asker behind plain =
    let m : ℕ × List ℕ = (1, answer_of r []) in
    plain_more (Releases asker) (Sends asker m ∷ behind) (grind arith) (plain_more (Sends asker m) behind (grind arith) plain)

owed_before : (r : Response) (askers : List ℕ) (behind : List Deed) → IsPlain (all_done 0 behind)
    → IsPlain (all_done 0 (flat_map (answers_owed r) askers ++ behind))
owed_before r [] behind plain = plain
owed_before r (a ∷ askers) behind plain =
    subst (λ ds. IsPlain (all_done 0 ds)) (sym (ap (λ ds. ds ++ behind) (flat_map-cons (answers_owed r) a askers)
    ∙ append_assoc (answers_owed r a) (flat_map (answers_owed r) askers) behind))
    (owed_one r a (flat_map (answers_owed r) askers ++ behind) (owed_before r askers behind plain))

pub plain_owed : (r s : Response) (ended late : List ℕ)
    → IsPlain (all_done 0 (flat_map (answers_owed r) ended ++ flat_map (answers_owed s) late))
plain_owed r s ended late =
    owed_before r ended (flat_map (answers_owed s) late)
    (subst (λ ds. IsPlain (all_done 0 ds)) (append-nil (flat_map (answers_owed s) late)) (owed_before s late [] plain_none))

-- ## Sessions that ended

-- what a node keeps once sessions have ended
pub left_under_way : {N : Type 0} {n : Node N} {noted start : List Entry} {short : Bool} (w : Work) → IsInStep n noted short start
    (record w { core = after_sessions w.core w.ports; ports = map without_notice (map (forgets w.ports) w.ports) })
    → IsInStep n noted short start (left_over w)
left_under_way w u = u

-- ## What is left at the ends

quiet_forgets : (all : List Port) (p : Port) → quiet_at (forgets all p) ≡ quiet_at p
quiet_forgets all p = grind arith

quiet_without : (p : Port) → quiet_at (without_notice p) ≡ quiet_at p
quiet_without p = grind arith

map_quiet : (f : Port → Port) → ((p : Port) → quiet_at (f p) ≡ quiet_at p) → (ports : List Port) → map quiet_at (map f ports) ≡ map quiet_at ports
map_quiet f same [] = refl
map_quiet f same (p ∷ ports) = ap₂ (λ (q : Quiet) qs. q ∷ qs) (same p) (map_quiet f same ports)

pub quiet_left : (w : Work) → map quiet_at (left_over w).ports ≡ map quiet_at w.ports
quiet_left w = map_quiet without_notice quiet_without (map (forgets w.ports) w.ports) ∙ map_quiet (forgets w.ports) (quiet_forgets w.ports) w.ports

quiet_unless : (deeds : List Deed) (w : Work) → map quiet_at (unless_cut (all_done 0 deeds) w).ports ≡ map quiet_at w.ports
quiet_unless deeds w = by w.cut refl
  where
    by : (b : Bool) → w.cut ≡ b → map quiet_at (unless_cut (all_done 0 deeds) w).ports ≡ map quiet_at w.ports
    by true q = ap (λ (v : Work). map quiet_at v.ports) (stays_cut (all_done 0 deeds) w q)
    by false q = ap (λ (v : Work). map quiet_at v.ports) (goes_on (all_done 0 deeds) w q) ∙ all_quiet 0 deeds w

pub settled_quiet : (syncs : List Deed) (w : Work) → map quiet_at (settles syncs w).ports ≡ map quiet_at w.ports
settled_quiet syncs w =
    let freed : Work = all_done 0 (forgotten w.ports) (left_over w) in
    quiet_unless (all_owed (map (forgets w.ports) w.ports)) (all_done 0 syncs freed)
    ∙ (all_quiet 0 syncs freed ∙ (all_quiet 0 (forgotten w.ports) (left_over w) ∙ quiet_left w))

-- the ends once it is settled, where no write failed
pub settled_ports : {N : Type 0} {writes : N → ℕ → List ℕ → Bool → N → Type 0} {old new : N} {S : Work → Type 0} {w : Work} (syncs : List Deed)
    (b : Brings writes old new S (settles syncs) w) → b.after.cut ≡ false → map quiet_at b.after.ports ≡ map quiet_at w.ports
settled_ports {w = w} syncs b live =
    let F : Bool → Type 0 = λ t. Foretells None b.sure b.torn t in
    ap (λ (v : Work). map quiet_at v.ports) (sym (b.is None (subst F (sym live) refl))) ∙ settled_quiet syncs (record w { plan = None })

pub quiet_few : (a b : List Port) → map quiet_at a ≡ map quiet_at b → AreFewDue b → AreFewDue a
quiet_few [] b same few = tt
quiet_few (p ∷ a) [] same few = cc
quiet_few (p ∷ a) (q ∷ b) same few =
    let here : quiet_at p ≡ quiet_at q = cc in
    let there : map quiet_at a ≡ map quiet_at b = cc in
    (subst (λ x. x.1 ≤ 6) (sym here) few.0, quiet_few a b there few.1)

-- ## Identifiers

-- none is to be kept
pub nothing_kept : {N : Type 0} (writes : N → ℕ → List ℕ → Bool → N → Type 0) {n : Node N} {noted start : List Entry} {short : Bool} {w : Work}
    (deeds : List Deed) → deeds ≡ [] → IsInStep n noted short start w → n.store.journal.live ≡ true
    → Brings writes n.store.journal.nv n.store.journal.nv (IsInStep n noted short start) (all_done 0 deeds) w
nothing_kept writes {n} {noted} {start} {short} {w} deeds none u live =
    let P : List Deed → Type 0 = λ ds. Brings writes n.store.journal.nv n.store.journal.nv (IsInStep n noted short start) (all_done 0 ds) w in
    subst P (sym none) (brings_plain writes u (u.power ∙ ap not live) refl (λ plan. refl))

-- ## All of it

settles_by : (syncs freed owing : List Deed) (w : Work) → freed ≡ forgotten w.ports → owing ≡ all_owed (map (forgets w.ports) w.ports)
    → settles syncs w ≡ unless_cut (all_done 0 owing) (all_done 0 syncs (all_done 0 freed (left_over w)))
settles_by syncs freed owing w free owe = grind arith

module _ {N : Type 0} (writes : N → ℕ → List ℕ → Bool → N → Type 0) where
  -- the write of an identifier failed: nothing that is owed is given
  pub settle_stops : {old mid new : N} {S : Work → Type 0} {w : Work} (syncs freed : List Deed) → mid ≡ old → freed ≡ forgotten w.ports
      → IsPlain (all_done 0 freed) → (b : Brings writes mid new S (all_done 0 syncs) (all_done 0 freed (left_over w))) → b.after.cut ≡ true
      → Brings writes old new S (settles syncs) w
  settle_stops {w = w} syncs freed same free plain b dead =
      let owing : List Deed = all_owed (map (forgets w.ports) w.ports) in
      brings_same (brings_after (λ v. all_done 0 freed (left_over v)) same (λ plan. plain.planned (left_over w) plan) (plain.written (left_over w))
      (brings_cut writes (all_done 0 owing) b dead refl b.stands)) (λ plan. settles_by syncs freed owing (record w { plan = plan }) free refl)

  -- the node has its power still
  pub settle_goes : {old mid last new : N} {R S : Work → Type 0} {w : Work} (syncs freed owing : List Deed) → mid ≡ old → freed ≡ forgotten w.ports
      → IsPlain (all_done 0 freed) → (b : Brings writes mid last R (all_done 0 syncs) (all_done 0 freed (left_over w))) → b.after.cut ≡ false
      → owing ≡ all_owed (map (forgets w.ports) w.ports) → IsPlain (all_done 0 owing) → last ≡ new → S (all_done 0 owing b.after)
      → Brings writes old new S (settles syncs) w
  settle_goes {old} {mid} {last} {new} {R} {S} {w} syncs freed owing same free plain b live owe plain_owing end stands =
      let P : N → Type 0 = λ m. Brings writes last m S (all_done 0 owing) b.after in
      let c = subst P end (brings_plain writes stands (plain_owing.power b.after ∙ live) (plain_owing.written b.after)
      (λ plan. plain_owing.planned b.after plan)) in
      brings_same (brings_after (λ v. all_done 0 freed (left_over v)) same (λ plan. plain.planned (left_over w) plan) (plain.written (left_over w))
      (brings_then writes b live c)) (λ plan. settles_by syncs freed owing (record w { plan = plan }) free owe)
