-- Whether an end is that of a CLF or of a UICC: nothing that comes to it, and nothing that its node does, changes that.
use Rattle.node_core.proofs.Words.{AllByRecursion, Bool, EndState, HaveOwnRoles, IsClf, IsUicc, LinkInput, List, Machine, Named, Option, Port, Role, []}
use Rattle.node_core.proofs.Words.{after_input, ap, ap₂, arith, between, changed_if, has_come, has_sent, map, moved, refl, reset_late, sym, true}
use Rattle.node_core.proofs.Words.{with_port, ℕ, ◌==◌, ◌∙◌, ◌∷◌, ◌≡◌}
use Rattle.swp_base.specs.declared.link_terms.Role.TheVariants.{Bare as BareName, Clf as ClfName, Uicc as UiccName}
use Rattle.link_laws.specs.machine.Machine.{put_down}
use Rattle.link_laws.specs.machine.Machine.Role.{Bare, Clf, Uicc}
use Rattle.node_core.proofs.Quiet.{LinkSeen, link_at}
use Rattle.node_core.proofs.Elsewhere.{host_at}

-- ## One end

abbrev pub kind_of : Role → Named
kind_of Bare = BareName
kind_of (Clf s) = ClfName
kind_of (Uicc s) = UiccName

-- the host of an end, and whose end it is
abbrev pub Kind : Type 0
Kind = ℕ × Named

abbrev pub kind_at : Port → Kind
kind_at p = (p.desk.host, kind_of p.side.role)

-- two ends are of one kind
abbrev Alike : Machine → Machine → Type 0
Alike e f = kind_of f.role ≡ kind_of e.role

moved_role : (e : Machine) (b : Bool) (s : EndState) → (moved e b s).role ≡ e.role
moved_role e b s = grind arith

down_role : (e : Machine) → (put_down true e).role ≡ e.role
down_role e = grind arith

input_kind : (e : Machine) (i : LinkInput) → Alike e (after_input e i)
input_kind e i = grind arith

-- ## Ends of a node

pub come_kind : (p : Port) (o : Option LinkInput) → kind_at (has_come p o) ≡ kind_at p
come_kind p o = grind arith

pub late_kind : (p : Port) → kind_at (reset_late p) ≡ kind_at p
late_kind p = grind arith

pub sent_kind : (p : Port) → kind_at (has_sent p) ≡ kind_at p
sent_kind p = ap (λ (r : Role). (p.desk.host, kind_of r)) (grind arith)

pub all_kinds : (f : Port → Port) → ((p : Port) → kind_at (f p) ≡ kind_at p) → (ports : List Port) → map kind_at (map f ports) ≡ map kind_at ports
all_kinds f same [] = refl
all_kinds f same (p ∷ ports) = ap₂ (λ (k : Kind) ks. k ∷ ks) (same p) (all_kinds f same ports)

pub port_kinds : (h : ℕ) (f : Port → Port) → ((p : Port) → kind_at (f p) ≡ kind_at p) → (ports : List Port)
    → map kind_at (with_port h f ports) ≡ map kind_at ports
port_kinds h f same ports = all_kinds (λ (p : Port). changed_if (p.desk.host == h) f p) (λ p. (let h0 = p.desk.host == h in grind arith)) ports

pub kept_kinds : (ports : List Port) → map kind_at (map between ports) ≡ map kind_at ports
kept_kinds ports = all_kinds between (λ p. refl) ports

link_kinds : (ports : List Port) → map (λ (l : LinkSeen). (l.0, kind_of l.1)) (map link_at ports) ≡ map kind_at ports
link_kinds [] = refl
link_kinds (p ∷ ports) = ap (λ (ks : List Kind). kind_at p ∷ ks) (link_kinds ports)

-- where the same is seen of their links
pub same_kinds : (a b : List Port) → map link_at a ≡ map link_at b → map kind_at a ≡ map kind_at b
same_kinds a b same = sym (link_kinds a) ∙ (ap (map (λ (l : LinkSeen). (l.0, kind_of l.1))) same ∙ link_kinds b)

kind_hosts : (ports : List Port) → map (λ (k : Kind). k.0) (map kind_at ports) ≡ map host_at ports
kind_hosts [] = refl
kind_hosts (p ∷ ports) = ap (λ ns. p.desk.host ∷ ns) (kind_hosts ports)

pub hosts_alike : (a b : List Port) → map kind_at a ≡ map kind_at b → map host_at a ≡ map host_at b
hosts_alike a b same = sym (kind_hosts a) ∙ (ap (map (λ (k : Kind). k.0)) same ∙ kind_hosts b)

clf_so : (r s : Role) → kind_of s ≡ kind_of r → IsClf r → IsClf s
clf_so r s same is = grind arith

uicc_so : (r s : Role) → kind_of s ≡ kind_of r → IsUicc r → IsUicc s
uicc_so r s same is = grind arith

all_so : (R : Role → Type 0) → ((r s : Role) → kind_of s ≡ kind_of r → R r → R s) → (a b : List Port) → map kind_at b ≡ map kind_at a
    → AllByRecursion (λ (p : Port). R p.side.role) a → AllByRecursion (λ (p : Port). R p.side.role) b
all_so R so [] [] same all = tt
all_so R so [] (q ∷ b) same all = cc
all_so R so (p ∷ a) [] same all = cc
all_so R so (p ∷ a) (q ∷ b) same all =
    let here : kind_at q ≡ kind_at p = cc in
    let there : map kind_at b ≡ map kind_at a = cc in
    (so p.side.role q.side.role (ap (λ (k : Kind). k.1) here) all.0, all_so R so a b there all.1)

-- ends of the same kinds have the roles of their node alike
pub roles_alike : (node : ℕ) (a b : List Port) → map kind_at b ≡ map kind_at a → HaveOwnRoles node a → HaveOwnRoles node b
roles_alike node a b same roles = record {
  clf = λ none. all_so IsClf clf_so a b same (roles.clf none);
  uicc = λ some. all_so IsUicc uicc_so a b same (roles.uicc some);
}
