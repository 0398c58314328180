-- Each pipe joins two different hosts, whatever commands come.
use Rattle.std.proofs.Common.{◌++◌}
use Rattle.tables_laws.proofs.Words.{AllByRecursion, Bool, Clear, Command, Create, Delete, HciTables, IsCommand, List, PipeRow, Set, SetOpened, Sync, []}
use Rattle.tables_laws.proofs.Words.{after_commands, all_closed, and_from, and_parts, apply, as_opened, cond, cond_both, eqb, false, filter, is_dynamic}
use Rattle.tables_laws.proofs.Words.{is_host, joins_host, list_all, ltb, map, not, pid_of, refl, rows_before, rows_behind, true, with_opened, with_static, ℕ}
use Rattle.tables_laws.proofs.Words.{◌&&◌, ◌∙◌, ◌∷◌, ◌≡◌}
use Rattle.tables_laws.specs.tables.Changes.{JoinTwo}

joins_two : PipeRow → Bool
joins_two row = not (eqb row.creator row.dest)

all-kept : {X : Type 0} (p q : X → Bool) (xs : List X) → list_all p xs ≡ true → list_all p (filter q xs) ≡ true
all-kept p q [] e = refl
all-kept p q (x ∷ xs) e =
    let parts = and_parts (p x) (list_all p xs) e in
    let rest = all-kept p q xs parts.1 in
    cond_both (q x) (x ∷ filter q xs) (filter q xs) (λ ys. list_all p ys ≡ true) (λ kept. and_from (p x) (list_all p (filter q xs)) parts.0 rest) (λ gone. rest)

all-append : {X : Type 0} (p : X → Bool) (xs ys : List X) → list_all p xs ≡ true → list_all p ys ≡ true → list_all p (xs ++ ys) ≡ true
all-append p [] ys e f = f
all-append p (x ∷ xs) ys e f =
    let parts = and_parts (p x) (list_all p xs) e in
    and_from (p x) (list_all p (xs ++ ys)) parts.0 (all-append p xs ys parts.1 f)

all-map : {X : Type 0} (p : X → Bool) (f : X → X) (xs : List X) → ((x : X) → p (f x) ≡ p x) → list_all p xs ≡ true → list_all p (map f xs) ≡ true
all-map p f [] keeps e = refl
all-map p f (x ∷ xs) keeps e =
    let parts = and_parts (p x) (list_all p xs) e in
    and_from (p (f x)) (list_all p (map f xs)) (keeps x ∙ parts.0) (all-map p f xs keeps parts.1)

JoinTwo-opened : (rows : List PipeRow) (pid : ℕ) (opened : Bool) → JoinTwo rows → JoinTwo (with_opened rows pid opened)
unfolding joins_two
JoinTwo-opened rows pid opened two =
    all-map joins_two (λ row. cond (eqb row.pid pid) (as_opened opened row) row) rows
    (λ row. cond_both (eqb row.pid pid) (as_opened opened row) row (λ r. joins_two r ≡ joins_two row) (λ here. refl) (λ other. refl)) two

pub JoinTwo-closed : (rows : List PipeRow) → JoinTwo rows → JoinTwo (all_closed rows)
unfolding joins_two
JoinTwo-closed rows two = all-map joins_two (as_opened false) rows (λ row. refl) two

JoinTwo-apply : (t : HciTables) (command : Command) → IsCommand command → JoinTwo t.rows → JoinTwo (apply t command).rows
unfolding joins_two
JoinTwo-apply t (Create row) may two =
    let closed = and_parts (is_dynamic row.pid && is_host row.creator && is_host row.dest && not (eqb row.creator row.dest)) (not row.opened) may in
    let apart = (and_parts (is_dynamic row.pid && is_host row.creator && is_host row.dest) (not (eqb row.creator row.dest)) closed.0).1 in
    let behind = rows_behind pid_of row.pid t.rows in
    all-append joins_two (rows_before pid_of row.pid t.rows) (as_opened false row ∷ behind)
    (all-kept joins_two (λ r. ltb r.pid row.pid) t.rows two)
    (and_from (joins_two (as_opened false row)) (list_all joins_two behind) apart (all-kept joins_two (λ r. ltb row.pid r.pid) t.rows two))
JoinTwo-apply t (Delete pid) may two = all-kept joins_two (λ row. not (eqb row.pid pid)) t.rows two
JoinTwo-apply t (Clear host) may two = all-kept joins_two (λ row. not (joins_host row host)) t.rows two
JoinTwo-apply t (SetOpened host pid opened) may two =
    cond_both (ltb pid 2) (record t { statics = with_static t.statics host pid opened }) (record t { rows = with_opened t.rows pid opened })
    (λ u. JoinTwo u.rows)
    (λ static. two) (λ dynamic. JoinTwo-opened t.rows pid opened two)
JoinTwo-apply t (Set host gate param value) may two = two
JoinTwo-apply t (Sync host id) may two = two

pub JoinTwo-after : (t : HciTables) (commands : List Command) → AllByRecursion IsCommand commands → JoinTwo t.rows → JoinTwo (after_commands t commands).rows
JoinTwo-after t [] may two = two
JoinTwo-after t (command ∷ commands) may two = JoinTwo-after (apply t command) commands may.1 (JoinTwo-apply t command may.0 two)
