-- What is read is inside the grammar: a line for each form, by what its words are.
use Rattle.std.proofs.Common.{IsSome}
use Rattle.schedule_text.proofs.Names.{All, Bool, Contains, Err, FormRow, FromHexError, Header, IfSome, IsStrictlyIncreasing, Line, LineFault, List, None, Ok}
use Rattle.schedule_text.proofs.Names.{Option, Read, Result, Some, [], activate_row, ap, arith, arm_row, boot_row, busy_row, by_row, by_words, byte_value}
use Rattle.schedule_text.proofs.Names.{bytes_value, cond, cut_row, damage_row, decode_of, decode_of-ok, decode_sized-twice, deliver_row, each_word, eqb-true}
use Rattle.schedule_text.proofs.Names.{false, get_or, get_or_default, header_row, init_row, inl, inr, is_comment, length, line_of, list_any, lose_row, nat_lt}
use Rattle.schedule_text.proofs.Names.{nodes_row, not, number_in, option_map_or, read_of, ready_row, refl, reset_row, result_ok, rising, row_for, rows}
use Rattle.schedule_text.proofs.Names.{send_row, settle_row, sized_value, slice_get, slice_index, slots, subst, suc, sym, tables_row, tick_row, true, two_bytes}
use Rattle.schedule_text.proofs.Names.{unless_fault, words, words_fault, zero, ℕ, ◌+◌, ◌<◌, ◌==◌, ◌>>=◌, ◌||◌, ◌∙◌, ◌∷◌, ◌≡◌, ◌≤◌}
use Rattle.trace_model.specs.declared.line.Line.TheVariants as line
use Rattle.trace_model.specs.Lines.{IsHost, IsHeader, IsNodeHeader, MayBegin, MayFollow}
use Rattle.schedule_text.specs.declared.fault.LineFault.TheVariants as fault
use Rattle.schedule_text.specs.declared.forms.Kind.TheVariants as kind
use Rattle.schedule_text.specs.declared.forms.Name.TheVariants as name
use Rattle.schedule_text.specs.declared.read.Read.TheVariants as read
use Rattle.schedule_text.specs.Lines.{number_at}
use Rattle.schedule_text.specs.Answers.{CanBeRead, IsInGrammar}
use Rattle.schedule_text.proofs.RowsLemmas.{AllFit, Right, no_fault, row_cases}
use Rattle.schedule_text.proofs.PlacesLemmas.{number-range, places-read, rise-increasing, rise-below}

found_at : (t : Bool) (x q : ℕ) (xs : List ℕ) → (x == q) ≡ t → (list_any (λ y. y == q) xs ≡ true → Contains xs q)
    → (t || list_any (λ y. y == q) xs) ≡ true → Contains (x ∷ xs) q
found_at true x q xs e behind h = (0, omega arith, eqb-true x q e)
found_at false x q xs e behind h = let found = behind h in (suc found.0, omega arith, found.2)

-- an element that a test finds
pub contains_found : (xs : List ℕ) (q : ℕ) → list_any (λ x. x == q) xs ≡ true → Contains xs q
contains_found [] q h = cc
contains_found (x ∷ xs) q h = found_at (x == q) x q xs refl (contains_found xs q) h

pub ok_of : (r : Result (List ℕ) FromHexError) (bytes : List ℕ) → result_ok r ≡ Some bytes → r ≡ Ok bytes
ok_of r bytes h = grind arith

-- what digits stand for are bytes
are_bytes : (word bytes : List ℕ) → bytes_value word ≡ Some bytes → All (λ b. b < 256) bytes
are_bytes word bytes h =
    λ k d within. subst (λ b. b < 256) (get_or_default bytes k 0 d within) (((decode_of-ok word bytes (ok_of (decode_of word) bytes h)).3) k)

-- a number that may be absent is in its range
number_ranges : (high : ℕ) (o : Option (List ℕ)) → IfSome (o >>= number_in 1 high) (λ n. (1 ≤ n) × (n ≤ high))
number_ranges high o = grind arith

-- what the words of a line say that have no fault
abbrev pub Says : Header → FormRow → List (List ℕ) → Type 0
Says header row ws = Right header.hci header.hosts.items row ws → (said : Line) × (read_of row.name ws ≡ Some (read.Line said)) × MayFollow header said

pub says_send : (header : Header) (ws : List (List ℕ)) → Says header send_row ws
says_send header (a ∷ b ∷ c ∷ ws) right =
    let at = right.words.0 in
    let pid = right.words.1.0 in
    let message = right.words.1.1.0 in (
      line.Send at.0 pid.0 message.0,
      rw (at.1, pid.1, message.1) refl,
      record {
        known = contains_found header.hosts.items at.0.link at.2;
        sender = λ t. grind arith;
        pipe = pid.2;
        some = message.2;
        bytes = are_bytes c message.0 message.1;
      },
    )
says_send header ws right = absurd (let h = right.least in omega arith)

pub says_deliver : (header : Header) (ws : List (List ℕ)) → Says header deliver_row ws
says_deliver header [] right = absurd (let h = right.least in omega arith)
says_deliver header (a ∷ ws) right =
    let at = right.words.0 in
    (line.Deliver at.0 (number_at 64 (a ∷ ws) 1), rw at.1 refl, (contains_found header.hosts.items at.0.link at.2, number_ranges 64 (slice_get ws 0)))

pub says_lose : (header : Header) (ws : List (List ℕ)) → Says header lose_row ws
says_lose header [] right = absurd (let h = right.least in omega arith)
says_lose header (a ∷ ws) right = let at = right.words.0 in (line.Lose at.0, rw at.1 refl, contains_found header.hosts.items at.0.link at.2)

pub says_damage : (header : Header) (ws : List (List ℕ)) → Says header damage_row ws
says_damage header [] right = absurd (let h = right.least in omega arith)
says_damage header (a ∷ ws) right =
    let at = right.words.0 in
    let places = places-read header.hci header.hosts.items 0 ws right.words.1 in
    let least = right.least in
    let most = right.most in (
      line.Damage at.0 (record { items = places.0 }),
      rw (at.1, places.1) refl,
      (
        contains_found header.hosts.items at.0.link at.2,
        record {
          some = let long = places.2 in omega arith;
          most = let long = places.2 in omega arith;
          rising = rise-increasing 0 places.0 places.3;
          inside = rise-below 0 places.0 places.3;
        },
      ),
    )

pub says_tick : (header : Header) (ws : List (List ℕ)) → Says header tick_row ws
says_tick header ws right = (line.Tick (number_at 100 ws 0), refl, number_ranges 100 (slice_get ws 0))

pub says_reset : (header : Header) (ws : List (List ℕ)) → Says header reset_row ws
says_reset header [] right = absurd (let h = right.least in omega arith)
says_reset header (a ∷ ws) right =
    let at = right.words.0 in
    (line.Reset at.0 (number_at 4 (a ∷ ws) 1), rw at.1 refl, (contains_found header.hosts.items at.0.link at.2, number_ranges 4 (slice_get ws 0)))

pub says_busy : (header : Header) (ws : List (List ℕ)) → header.hci ≡ false → Says header busy_row ws
says_busy header [] bare right = absurd (let h = right.least in omega arith)
says_busy header (a ∷ ws) bare right = let at = right.words.0 in (line.Busy at.0, rw at.1 refl, (bare, contains_found header.hosts.items at.0.link at.2))

pub says_ready : (header : Header) (ws : List (List ℕ)) → header.hci ≡ false → Says header ready_row ws
says_ready header [] bare right = absurd (let h = right.least in omega arith)
says_ready header (a ∷ ws) bare right = let at = right.words.0 in (line.Ready at.0, rw at.1 refl, (bare, contains_found header.hosts.items at.0.link at.2))

-- ## Lines of nodes

pub says_boot : (header : Header) (ws : List (List ℕ)) → header.hci ≡ true → Says header boot_row ws
says_boot header [] nodes right = absurd (let h = right.least in omega arith)
says_boot header (a ∷ ws) nodes right = let node = right.words.0 in (line.Boot node.0, rw node.1 refl, (nodes, node.2))

pub says_cut : (header : Header) (ws : List (List ℕ)) → header.hci ≡ true → Says header cut_row ws
says_cut header [] nodes right = absurd (let h = right.least in omega arith)
says_cut header (a ∷ ws) nodes right = let node = right.words.0 in (line.Cut node.0, rw node.1 refl, (nodes, node.2))

pub says_tables : (header : Header) (ws : List (List ℕ)) → header.hci ≡ true → Says header tables_row ws
says_tables header [] nodes right = absurd (let h = right.least in omega arith)
says_tables header (a ∷ ws) nodes right = let node = right.words.0 in (line.Tables node.0, rw node.1 refl, (nodes, node.2))

-- so many bytes are read where there are so many
pub sized_read : (n : ℕ) (word bytes : List ℕ) → bytes_value word ≡ Some bytes → length bytes ≡ n → sized_value n word ≡ Some bytes
sized_read n word bytes h long =
    let is = ok_of (decode_of word) bytes h in
    ap result_ok (decode_sized-twice word n (omega (arith, (decode_of-ok word bytes is).2, long)) ∙ is)

bytes_below : (bytes : List ℕ) (k : ℕ) → All (λ b. b < 256) bytes → k < length bytes → slice_index bytes k < 256
bytes_below bytes k small within = small k 0 within

pub says_activate : (header : Header) (ws : List (List ℕ)) → header.hci ≡ true → Says header activate_row ws
says_activate header (a ∷ b ∷ c ∷ ws) nodes right =
    let host = right.words.0 in
    let sync = right.words.1.0 in
    let power = right.words.1.1.0 in
    let low = sync.2 in
    let small = are_bytes b sync.0 sync.1 in
    let second = bytes_below sync.0 1 small (omega (arith, low)) in (
      line.Activate host.0 (two_bytes sync.0) power.0,
      rw (host.1, sized_read 2 b sync.0 sync.1 (omega (arith, low, sync.3)), power.1) refl,
      (
        nodes,
        record {
          known = contains_found header.hosts.items host.0 host.2;
          identifier = omega (arith, (bytes_below sync.0 0 small (omega (arith, low))), second);
          code = let below = power.2 in omega (arith, below);
        },
      ),
    )
says_activate header ws nodes right = absurd (let h = right.least in omega arith)

number_there : (high : ℕ) (word : List ℕ) (n : ℕ) → number_in 1 high word ≡ Some n → (1 ≤ n) × (n ≤ high)
number_there high word n h = let range = number-range 1 high n word h in (range.1, range.2)

pub says_arm : (header : Header) (ws : List (List ℕ)) → header.hci ≡ true → Says header arm_row ws
says_arm header (a ∷ b ∷ c ∷ ws) nodes right =
    let node = right.words.0 in
    let nth = right.words.1.0 in
    let fill = right.words.1.1.0 in (
      line.Arm node.0 nth.0 (record { items = fill.0 }),
      rw (node.1, nth.1, fill.1) refl,
      (
        nodes,
        record {
          known = node.2;
          which = number_there 1000 b nth.0 nth.1;
          long = (fill.2, fill.3);
          bytes = are_bytes c fill.0 fill.1;
        },
      ),
    )
says_arm header ws nodes right = absurd (let h = right.least in omega arith)

-- pipes, each of three bytes
abbrev IsPipe : List ℕ → Type 0
IsPipe pipe = (length pipe ≡ 3) × All (λ b. b < 256) pipe

all_more : (pipe : List ℕ) (pipes : List (List ℕ)) → IsPipe pipe → All IsPipe pipes → All IsPipe (pipe ∷ pipes)
all_more pipe pipes one more zero d within = one
all_more pipe pipes one more (suc k) d within = more k d (omega arith)

pipes_read : (hci : Bool) (hosts : List ℕ) (from : ℕ) (ws : List (List ℕ)) → AllFit hci hosts from (slots (kind.Bytes 3 3 ∷ []) ws)
    → (pipes : List (List ℕ)) × (each_word (sized_value 3) ws ≡ Some pipes) × (length pipes ≡ length ws) × All IsPipe pipes
pipes_read hci hosts from [] h = ([], refl, refl, λ k d within. absurd (omega arith))
pipes_read hci hosts from (w ∷ ws) h =
    let pipe = h.0 in
    let long : length pipe.0 ≡ 3 = omega (arith, pipe.2, pipe.3) in
    let more = pipes_read hci hosts from ws h.1 in (
      pipe.0 ∷ more.0,
      rw (sized_read 3 w pipe.0 pipe.1 long, more.1) refl,
      ap suc more.2,
      all_more pipe.0 more.0 (long, are_bytes w pipe.0 pipe.1) more.3,
    )

pub says_init : (header : Header) (ws : List (List ℕ)) → header.hci ≡ true → Says header init_row ws
says_init header (a ∷ b ∷ ws) nodes right =
    let at = right.words.0 in
    let identity = right.words.1.0 in
    let long : length identity.0 ≡ 8 = omega (arith, identity.2, identity.3) in
    let pipes = pipes_read header.hci header.hosts.items 0 ws right.words.1.1 in
    let most = right.most in
    let count = pipes.2 in (
      line.Init at.0 identity.0 (record { items = pipes.0 }),
      rw (at.1, sized_read 8 b identity.0 identity.1 long, pipes.1) refl,
      (
        nodes,
        record {
          known = contains_found header.hosts.items at.0.link at.2;
          host = grind arith;
          long = long;
          bytes = are_bytes b identity.0 identity.1;
          few = omega (arith, most, count);
          each = pipes.3;
        },
      ),
    )
says_init header ws nodes right = absurd (let h = right.least in omega arith)

pub says_settle : (header : Header) (ws : List (List ℕ)) → Says header settle_row ws
says_settle header [] right = absurd (let h = right.least in omega arith)
says_settle header (a ∷ ws) right = let rounds = right.words.0 in (line.Settle rounds.0, rw rounds.1 refl, number_there 20000 a rounds.0 rounds.1)

-- ## Headers

one_host : (host : ℕ) → IsHost host → All IsHost (host ∷ [])
one_host host range = λ k d within. let z : k ≡ 0 = omega arith in subst (λ n. IsHost (get_or (host ∷ []) n d)) (sym z) range

-- what a header says
pub says_header : (ws : List (List ℕ)) → Right false [] header_row ws → (said : Header) × (read_of name.Header ws ≡ Some (read.Header said)) × IsHeader said
says_header (a ∷ b ∷ c ∷ ws) right =
    let host = right.words.1.1.0 in (
      record { hci = false; hosts = record { items = host.0 ∷ [] } },
      rw host.1 refl,
      record { bare = refl; one = refl; hosts = one_host host.0 (host.2, host.4) },
    )
says_header ws right = absurd (let h = right.least in omega arith)

-- hosts that rise from one on
abbrev pub HostsFrom : ℕ → List ℕ → Type 0
HostsFrom from [] = Unit {0}
HostsFrom from (h ∷ hs) = (1 ≤ h) × (from ≤ h) × (h ≤ 7) × HostsFrom (h + 1) hs

pub hosts_read : (from : ℕ) (ws : List (List ℕ)) → AllFit false [] from (slots (kind.NewHost ∷ []) ws)
    → (hosts : List ℕ) × (each_word byte_value ws ≡ Some hosts) × (length hosts ≡ length ws) × HostsFrom from hosts
hosts_read from [] h = ([], refl, refl, tt)
hosts_read from (w ∷ ws) h =
    let host = h.0 in
    let next : option_map_or (λ n. n + 1) (byte_value w) from ≡ host.0 + 1 = ap (λ o. option_map_or (λ n. n + 1) o from) host.1 in
    let more = hosts_read (host.0 + 1) ws (subst (λ n. AllFit false [] n (slots (kind.NewHost ∷ []) ws)) next h.1) in
    (host.0 ∷ more.0, rw (host.1, more.1) refl, ap suc more.2, (host.2, host.3, host.4, more.3))

hosts_all : (from : ℕ) (hosts : List ℕ) → HostsFrom from hosts → All IsHost hosts
hosts_all from [] h k d within = absurd (omega arith)
hosts_all from (x ∷ xs) h zero d within = (h.0, h.2)
hosts_all from (x ∷ xs) h (suc k) d within = hosts_all (x + 1) xs h.3 k d (omega arith)

hosts_rise : (from : ℕ) (hosts : List ℕ) → HostsFrom from hosts → IsStrictlyIncreasing hosts
hosts_rise from [] h k within = absurd (omega arith)
hosts_rise from (p ∷ []) h k within = absurd (omega arith)
hosts_rise from (p ∷ q ∷ ps) h zero within = let next : p + 1 ≤ q = h.3.1 in omega arith
hosts_rise from (p ∷ q ∷ ps) h (suc k) within =
    let next : suc (k + 1) ≡ suc k + 1 = omega arith in
    subst (λ m. slice_index (q ∷ ps) k < slice_index (p ∷ q ∷ ps) m) next (hosts_rise (p + 1) (q ∷ ps) h.3 k (omega arith))

few_from : (from : ℕ) (hosts : List ℕ) → 1 ≤ from → from ≤ 8 → HostsFrom from hosts → length hosts + from ≤ 8
few_from from [] some most h = omega (arith, most)
few_from from (x ∷ xs) some most h = omega (arith, (few_from (x + 1) xs (omega arith) (omega (arith, h.2)) h.3), h.1)

pub hosts_few : (hosts : List ℕ) → HostsFrom 0 hosts → length hosts ≤ 7
hosts_few [] h = omega arith
hosts_few (x ∷ xs) h = omega (arith, (few_from (x + 1) xs (omega arith) (omega (arith, h.2)) h.3), h.0)

pub says_nodes : (ws : List (List ℕ)) → Right false [] nodes_row ws
    → (said : Header) × (read_of name.NodesHeader ws ≡ Some (read.Header said)) × IsNodeHeader said × (length ws ≤ 9)
says_nodes (a ∷ b ∷ ws) right =
    let hosts = hosts_read 0 ws right.words.1.1 in
    let least = right.least in
    let long = hosts.2 in
    let few = hosts_few hosts.0 hosts.3 in (
      record { hci = true; hosts = record { items = hosts.0 } },
      rw hosts.1 refl,
      record {
        nodes = refl;
        some = omega (arith, least, long);
        hosts = hosts_all 0 hosts.0 hosts.3;
        rising = hosts_rise 0 hosts.0 hosts.3;
      },
      omega (arith, few, long),
    )
says_nodes ws right = absurd (let h = right.least in omega arith)

-- a header, or a line below it
abbrev pub IsWhole : Option Header → Read → Type 0
IsWhole None (read.Header said) = MayBegin said
IsWhole (Some header) (read.Line said) = MayFollow header said
IsWhole header r = ⊥

unless_ok : (f : Option LineFault) (said : Option Read) (r : Read) → unless_fault f said ≡ Ok r → (f ≡ None) × (said ≡ Some r)
unless_ok f said r h = grind arith

same_read : (a b : Read) → Some a ≡ Some b → a ≡ b
same_read a b h = cc

ok_is : (a b : Read) → Ok a ≡ (let r : Result Read LineFault = Ok b in r) → a ≡ b
ok_is a b h = cc

whole_line : (header : Header) (row : FormRow) (ws : List (List ℕ)) (r : Read) → Says header row ws
    → unless_fault (words_fault header.hci header.hosts.items row ws) (read_of row.name ws) ≡ Ok r → IsWhole (Some header) r
whole_line header row ws r says h =
    let right = unless_ok _ _ _ h in
    let said = says (no_fault header.hci header.hosts.items row ws right.0) in
    subst (IsWhole (Some header)) (same_read _ _ (sym said.1 ∙ right.1)) said.2

whole_header : (ws : List (List ℕ)) (r : Read) → unless_fault (words_fault false [] header_row ws) (read_of name.Header ws) ≡ Ok r → IsWhole None r
whole_header ws r h =
    let right = unless_ok _ _ _ h in
    let said = says_header ws (no_fault false [] header_row ws right.0) in
    subst (IsWhole None) (same_read _ _ (sym said.1 ∙ right.1)) (inl said.2)

whole_nodes_header : (ws : List (List ℕ)) (r : Read) → unless_fault (words_fault false [] nodes_row ws) (read_of name.NodesHeader ws) ≡ Ok r
    → IsWhole None r
whole_nodes_header ws r h =
    let right = unless_ok _ _ _ h in
    let said = says_nodes ws (no_fault false [] nodes_row ws right.0) in
    subst (IsWhole None) (same_read _ _ (sym said.1 ∙ right.1)) (inr said.2)

whole_bare : (header : Header) (row : FormRow) (ws : List (List ℕ)) (r : Read) (t : Bool) → header.hci ≡ t → (header.hci ≡ false → Says header row ws)
    → cond (not t) (unless_fault (words_fault header.hci header.hosts.items row ws) (read_of row.name ws)) (Err fault.Order) ≡ Ok r → IsWhole (Some header) r
whole_bare header row ws r true e says h = cc
whole_bare header row ws r false e says h = whole_line header row ws r (says e) h

whole_node : (header : Header) (row : FormRow) (ws : List (List ℕ)) (r : Read) (t : Bool) → header.hci ≡ t → (header.hci ≡ true → Says header row ws)
    → cond t (unless_fault (words_fault header.hci header.hosts.items row ws) (read_of row.name ws)) (Err fault.Order) ≡ Ok r → IsWhole (Some header) r
whole_node header row ws r true e says h = whole_line header row ws r (says e) h
whole_node header row ws r false e says h = cc

-- a line by its row
pub row_whole : (header : Option Header) (first : List ℕ) (ws : List (List ℕ)) (r : Read) → by_row header (row_for first ws) ws ≡ Ok r → IsWhole header r
row_whole None first ws r =
    row_cases (λ o. by_row None o ws ≡ Ok r → IsWhole None r) rows first ws (
      λ e h. whole_nodes_header ws r h,
      (
        λ e h. whole_header ws r h,
        (grind arith),
      ),
    ) (λ e h. cc)
row_whole (Some header) first ws r =
    row_cases (λ o. by_row (Some header) o ws ≡ Ok r → IsWhole (Some header) r) rows first ws (
      λ e h. cc,
      (
        λ e h. cc,
        (
          λ e. whole_line header send_row ws r (says_send header ws),
          (
            λ e. whole_line header deliver_row ws r (says_deliver header ws),
            (
              λ e. whole_line header lose_row ws r (says_lose header ws),
              (
                λ e. whole_line header damage_row ws r (says_damage header ws),
                (
                  λ e. whole_line header tick_row ws r (says_tick header ws),
                  (
                    λ e. whole_line header reset_row ws r (says_reset header ws),
                    (
                      λ e. whole_bare header busy_row ws r header.hci refl (says_busy header ws),
                      (
                        λ e. whole_bare header ready_row ws r header.hci refl (says_ready header ws),
                        (
                          λ e. whole_node header boot_row ws r header.hci refl (says_boot header ws),
                          (
                            λ e. whole_node header cut_row ws r header.hci refl (says_cut header ws),
                            (
                              λ e. whole_node header activate_row ws r header.hci refl (says_activate header ws),
                              (
                                λ e. whole_node header arm_row ws r header.hci refl (says_arm header ws),
                                (
                                  λ e. whole_node header init_row ws r header.hci refl (says_init header ws),
                                  (
                                    λ e. whole_node header tables_row ws r header.hci refl (says_tables header ws),
                                    (λ e. whole_line header settle_row ws r (says_settle header ws), tt),
                                  ),
                                ),
                              ),
                            ),
                          ),
                        ),
                      ),
                    ),
                  ),
                ),
              ),
            ),
          ),
        ),
      ),
    ) (λ e h. cc)

fits_whole : (header : Option Header) (r : Read) → IsWhole header r → IsInGrammar header r
fits_whole None (read.Header said) h = h
fits_whole None (read.Line said) h = absurd h
fits_whole (Some header) (read.Header said) h = absurd h
fits_whole (Some header) (read.Line said) h = h
fits_whole header said h = tt

pub row_fits : (header : Option Header) (first : List ℕ) (ws : List (List ℕ)) (r : Read) → by_row header (row_for first ws) ws ≡ Ok r → IsInGrammar header r
row_fits header first ws r h = fits_whole header r (row_whole header first ws r h)

-- a line of a form isn't skipped
pub never_skipped : (header : Option Header) (first : List ℕ) (ws : List (List ℕ)) → by_row header (row_for first ws) ws ≡ Ok read.Skip → ⊥
never_skipped header first ws h = let h0 = (row_whole header first ws read.Skip h) in grind arith

skip_fits : (header : Option Header) → IsInGrammar header read.Skip
skip_fits header = grind arith

words_fit : (header : Option Header) (ws : List (List ℕ)) (r : Read) → by_words header ws ≡ Ok r → IsInGrammar header r
words_fit header [] r h = subst (IsInGrammar header) (ok_is _ _ h) (skip_fits header)
words_fit header (first ∷ ws) r h = go (is_comment first) h
  where
    go : (t : Bool) → cond t (Ok read.Skip) (by_row header (row_for first ws) ws) ≡ Ok r → IsInGrammar header r
    go true e = subst (IsInGrammar header) (ok_is _ _ e) (skip_fits header)
    go false e = row_fits header first ws r e

-- what is read may stand there
pub line_fits : (header : Option Header) (bytes : List ℕ) (r : Read) → line_of header bytes ≡ Ok r → IsInGrammar header r
line_fits header bytes r h = go (nat_lt 9000 (length bytes)) h
  where
    go : (t : Bool) → cond t (Err fault.TooLong) (by_words header (words bytes)) ≡ Ok r → IsInGrammar header r
    go true e = cc
    go false e = words_fit header (words bytes) r e

-- the same of a line below a header, and of a header
pub MayFollow-line_of : (header : Header) (bytes : List ℕ) (said : Line) → line_of (Some header) bytes ≡ Ok (read.Line said) → MayFollow header said
MayFollow-line_of header bytes said h = line_fits (Some header) bytes (read.Line said) h

pub MayBegin-line_of : (bytes : List ℕ) (header : Header) → line_of None bytes ≡ Ok (read.Header header) → MayBegin header
MayBegin-line_of bytes header h = line_fits None bytes (read.Header header) h

-- a message is read, and no more hosts, places, bytes and pipes than a line has
abbrev Ready : Bool → List ℕ → List (List ℕ) → Option FormRow → Type 0
Ready hci hosts ws None = Unit {0}
Ready hci hosts ws (Some row) = Right hci hosts row ws → CanBeRead row.name ws

ready_send : (hci : Bool) (hosts : List ℕ) (ws : List (List ℕ)) → Ready hci hosts ws (Some send_row)
ready_send hci hosts (a ∷ b ∷ c ∷ ws) right = let message = right.words.1.1.0 in subst IsSome (sym message.1) refl
ready_send hci hosts ws right = absurd (let h = right.least in omega arith)

ready_arm : (hci : Bool) (hosts : List ℕ) (ws : List (List ℕ)) → Ready hci hosts ws (Some arm_row)
ready_arm hci hosts (a ∷ b ∷ c ∷ ws) right =
    let fill = right.words.1.1.0 in subst (λ o. IfSome o (λ bytes. length bytes ≤ 64)) (sym fill.1) fill.3
ready_arm hci hosts ws right = absurd (let h = right.least in omega arith)

hosts_known : (hci : Bool) (hosts : List ℕ) (from : ℕ) (ws : List (List ℕ)) → AllFit hci hosts from (slots (kind.NewHost ∷ []) ws)
    → AllFit false [] from (slots (kind.NewHost ∷ []) ws)
hosts_known hci hosts from [] h = tt
hosts_known hci hosts from (w ∷ ws) h = (h.0, hosts_known hci hosts (rising from kind.NewHost w) ws h.1)

ready_nodes : (hci : Bool) (hosts : List ℕ) (ws : List (List ℕ)) → Ready hci hosts ws (Some nodes_row)
ready_nodes hci hosts [] right = omega arith
ready_nodes hci hosts (a ∷ []) right = omega arith
ready_nodes hci hosts (a ∷ b ∷ ws) right =
    let found = hosts_read 0 ws (hosts_known hci hosts 0 ws right.words.1.1) in
    omega (arith, hosts_few found.0 found.3, found.2)

ready : (hci : Bool) (hosts : List ℕ) (first : List ℕ) (ws : List (List ℕ)) → Ready hci hosts ws (row_for first ws)
ready hci hosts first ws =
    row_cases (Ready hci hosts ws) rows first ws (
      λ e. ready_nodes hci hosts ws,
      (
        λ e r. tt,
        (
          λ e. ready_send hci hosts ws,
          (
            λ e r. tt,
            (
              λ e r. tt,
              (
                λ e r. r.most,
                (
                  λ e r. tt,
                  (
                    λ e r. tt,
                    (
                      λ e r. tt,
                      (
                        λ e r. tt,
                        (
                          λ e r. tt,
                          (
                            λ e r. tt,
                            (
                              λ e r. tt,
                              (
                                λ e. ready_arm hci hosts ws,
                                (grind arith),
                              ),
                            ),
                          ),
                        ),
                      ),
                    ),
                  ),
                ),
              ),
            ),
          ),
        ),
      ),
    ) (λ e. tt)

pub can_be_read : (hci : Bool) (hosts : List ℕ) (first : List ℕ) (row : FormRow) (ws : List (List ℕ)) → Some row ≡ row_for first ws
    → words_fault hci hosts row ws ≡ None → CanBeRead row.name ws
can_be_read hci hosts first row ws e h = subst (Ready hci hosts ws) (sym e) (ready hci hosts first ws) (no_fault hci hosts row ws h)
