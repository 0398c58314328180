-- What is written of a line or a header is read again as it: one lemma for each kind of word, and a line for each form.
use Rattle.std.proofs.lemmas.Bool.{le-ltb, eq-eqb}
use Rattle.std.proofs.lemmas.List.{length-map}
use Rattle.schedule_text.proofs.Names.{All, AllByRecursion, Bool, Contains, End, Err, FormRow, Header, IfSome, IsStrictlyIncreasing, Line, List, None, Ok}
use Rattle.schedule_text.proofs.Names.{Option, Read, Some, [], activate_row, ap, arith, bit_places, boot_row, busy_row, by_words, byte_text, byte_value}
use Rattle.schedule_text.proofs.Names.{bytes_value, codes, cond, cut_row, damage_row, decimal, decimal_digit, deliver_row, each_word, encode_upper, end_text}
use Rattle.schedule_text.proofs.Names.{end_value, eqb-true, false, get_or, get_or_default, init_row, inl, inr, length, length-append, line_of, list_any}
use Rattle.schedule_text.proofs.Names.{lose_row, map, nodes_row, not, number_in, number_value, number_words, option_map, option_map_or, read_of, ready_row}
use Rattle.schedule_text.proofs.Names.{refl, reset_row, send_row, sized_value, slice_get, slice_index, slots, spaced, subst, suc, sym, tables_row, tick_row}
use Rattle.schedule_text.proofs.Names.{true, two_bytes, unless_fault, words_fault, zero, ℕ, ◌%◌, ◌*◌, ◌++◌, ◌+◌, ◌/◌, ◌<◌, ◌==◌, ◌>>=◌, ◌^◌, ◌||◌, ◌∙◌, ◌∷◌}
use Rattle.schedule_text.proofs.Names.{◌≡◌, ◌≤◌}
use Rattle.trace_model.specs.declared.line.Line.TheVariants as line
use Rattle.trace_model.specs.Lines.{IsHost, IsHeader, MayBegin, MayFollow}
use Rattle.schedule_text.specs.declared.fault.LineFault.TheVariants as fault
use Rattle.schedule_text.specs.declared.forms.Kind.TheVariants as kind
use Rattle.schedule_text.specs.declared.read.Read.TheVariants as read
use Rattle.schedule_text.specs.Values.{two_bytes_value}
use Rattle.schedule_text.specs.Entries.{header_words, line_text, line_words, two_bytes_text}
use Rattle.schedule_text.proofs.AgainLemmas.{IsWord, words-spaced, byte_again, end_again, bytes_again, number_again, hex_word, end_word, number_word}
use Rattle.schedule_text.proofs.AgainLemmas.{length-hex}
use Rattle.schedule_text.proofs.RowsLemmas.{IsKnown, IsNodeKnown, Fits, AllFit, Right, right_words}
use Rattle.schedule_text.proofs.PlacesLemmas.{RiseFrom, number-in}
use Rattle.schedule_text.proofs.LinesLemmas.{contains_found, sized_read, HostsFrom, hosts_few}

-- a test that finds an element of the list
found : (xs : List ℕ) (q k : ℕ) → k < length xs → get_or xs k 0 ≡ q → list_any (λ x. x == q) xs ≡ true
found [] q k h e = absurd (omega arith)
found (x ∷ xs) q zero h e = rw (eq-eqb x q e) refl
found (x ∷ xs) q (suc k) h e = (let h0 = (x == q) in let h1 = (found xs q k (omega arith) e) in grind arith)

pub found_in : (xs : List ℕ) (q : ℕ) → Contains xs q → IsKnown xs q
found_in xs q h = found xs q h.0 h.1 (get_or_default xs h.0 0 q h.1 ∙ h.2)

-- the hosts of a header are small numbers
pub header_hosts : (header : Header) → MayBegin header → All IsHost header.hosts.items
header_hosts header a = grind arith

host_fits : (hosts : List ℕ) (n : ℕ) → All IsHost hosts → Contains hosts n → n ≤ 7
host_fits hosts n all h = let host = all h.0 n h.1 in let small : get_or hosts h.0 n ≤ 7 = host.1 in omega (arith, small, h.2)

pub node_fits : (hosts : List ℕ) (n : ℕ) → All IsHost hosts → IsNodeKnown hosts n → n ≤ 7
node_fits hosts n all h = go (n == 0) refl h
  where
    go : (t : Bool) → (n == 0) ≡ t → (t || list_any (λ k. k == n) hosts) ≡ true → n ≤ 7
    go true e k = let none : n ≡ 0 = eqb-true n 0 e in omega arith
    go false e k = host_fits hosts n all (contains_found hosts n k)

-- the link of an end of a world is a byte
link_fits : (header : Header) (e : End) → MayBegin header → Contains header.hosts.items e.link → e.link < 256
link_fits header e known h = let small = host_fits header.hosts.items e.link (header_hosts header known) h in omega (arith, small)

-- an end that is written fits
end_fits : (header : Header) (e : End) → MayBegin header → Contains header.hosts.items e.link → Fits header.hci header.hosts.items 0 kind.End (end_text e)
end_fits header e world known = (e, end_again e (link_fits header e world known), found_in header.hosts.items e.link known)

-- a number that is written is read again
number_any : (n : ℕ) → n < 2 ^ 64 → number_value (decimal n) ≡ Some n
number_any zero fits = ap number_value (decimal_digit 0 (omega arith))
number_any (suc n) fits = number_again (suc n) (omega arith) fits

number_back : (low high n : ℕ) → low ≤ n → n ≤ high → high < 100000 → number_in low high (decimal n) ≡ Some n
number_back low high n a b small = number-in low high n (decimal n) (number_any n (omega arith)) a b

-- a number that may be absent
abbrev IsIn : ℕ → Option ℕ → Type 0
IsIn high o = IfSome o (λ n. (1 ≤ n) × (n ≤ high))

numbers_fit : (hci : Bool) (hosts : List ℕ) (from high : ℕ) (o : Option ℕ) → high < 100000 → IsIn high o
    → AllFit hci hosts from (slots (kind.Number 1 high ∷ []) (number_words o))
numbers_fit hci hosts from high None small range = tt
numbers_fit hci hosts from high (Some n) small range = ((n, number_back 1 high n range.0 range.1 small), tt)

numbers_are_words : (high : ℕ) (o : Option ℕ) → high < 100000 → IsIn high o → AllByRecursion IsWord (number_words o)
numbers_are_words high None small range = tt
numbers_are_words high (Some n) small range = let most : n ≤ high = range.1 in (number_word n (omega arith), tt)

numbers_are_few : (o : Option ℕ) → length (number_words o) ≤ 1
numbers_are_few o = grind arith

number_comes_back : (high : ℕ) (o : Option ℕ) → high < 100000 → IsIn high o → (slice_get (number_words o) 0 >>= number_in 1 high) ≡ o
number_comes_back high None small range = refl
number_comes_back high (Some n) small range = number_back 1 high n range.0 range.1 small

-- places
places_fit : (hci : Bool) (hosts : List ℕ) (from : ℕ) (ps : List ℕ) → RiseFrom from ps → AllFit hci hosts from (slots (kind.Rising 399 ∷ []) (map decimal ps))
places_fit hci hosts from [] h = tt
places_fit hci hosts from (p ∷ ps) h =
    let back = number_back from 399 p h.0 h.1 (omega arith) in
    let next : option_map_or (λ n. n + 1) (number_in from 399 (decimal p)) from ≡ p + 1 = ap (λ o. option_map_or (λ n. n + 1) o from) back in
    ((p, back), subst (λ n. AllFit hci hosts n (slots (kind.Rising 399 ∷ []) (map decimal ps))) (sym next) (places_fit hci hosts (p + 1) ps h.2))

places_are_words : (from : ℕ) (ps : List ℕ) → RiseFrom from ps → AllByRecursion IsWord (map decimal ps)
places_are_words from [] h = tt
places_are_words from (p ∷ ps) h = let high : p ≤ 399 = h.1 in (number_word p (omega arith), places_are_words (p + 1) ps h.2)

places_come_back : (from : ℕ) (ps : List ℕ) → RiseFrom from ps → bit_places (map decimal ps) ≡ Some ps
places_come_back from [] h = refl
places_come_back from (p ∷ ps) h = rw (number_back 0 399 p (omega arith) h.1 (omega arith), places_come_back (p + 1) ps h.2) refl

below : (p : ℕ) (ps : List ℕ) → All (λ q. q < 400) (p ∷ ps) → p ≤ 399
below p ps h = let small : p < 400 = h 0 0 (omega arith) in omega arith

rises : (p q : ℕ) (ps : List ℕ) → IsStrictlyIncreasing (p ∷ q ∷ ps) → p < q
rises p q ps h = h 0 (omega arith)

behind_rises : (p : ℕ) (ps : List ℕ) → IsStrictlyIncreasing (p ∷ ps) → IsStrictlyIncreasing ps
behind_rises p ps h k within =
    let next : suc k + 1 ≡ suc (k + 1) = omega arith in
    subst (λ m. slice_index ps k < slice_index (p ∷ ps) m) next (h (suc k) (omega arith))

rise_behind : (p : ℕ) (ps : List ℕ) → IsStrictlyIncreasing (p ∷ ps) → All (λ q. q < 400) (p ∷ ps) → RiseFrom (p + 1) ps
rise_behind p [] up all = tt
rise_behind p (q ∷ ps) up all =
    let tail : All (λ q. q < 400) (q ∷ ps) = λ k d within. all (suc k) d (omega arith) in
    let more : p < q = rises p q ps up in
    (omega arith, below q ps tail, rise_behind q ps (behind_rises p (q ∷ ps) up) tail)

rise_all : (ps : List ℕ) → IsStrictlyIncreasing ps → All (λ q. q < 400) ps → RiseFrom 0 ps
rise_all [] up all = tt
rise_all (p ∷ ps) up all = (omega arith, below p ps all, rise_behind p ps up all)

-- a line of at most 9,000 bytes is what its words say
by_its_words : (header : Option Header) (ws : List (List ℕ)) (r : Read) → length (spaced ws) ≤ 9000 → AllByRecursion IsWord ws → by_words header ws ≡ Ok r
    → line_of header (spaced ws) ≡ Ok r
by_its_words header ws r short each h = rw (le-ltb 9000 (length (spaced ws)) short, words-spaced ws each) h

pub again : (hci : Bool) (hosts : List ℕ) (row : FormRow) (ws : List (List ℕ)) (r : Read) → Right hci hosts row ws → read_of row.name ws ≡ Some r
    → unless_fault (words_fault hci hosts row ws) (read_of row.name ws) ≡ Ok r
again hci hosts row ws r right reads = rw (right_words hci hosts row ws right, reads) refl

pub again_bare : (header : Header) (row : FormRow) (ws : List (List ℕ)) (r : Read) → header.hci ≡ false → Right header.hci header.hosts.items row ws
    → read_of row.name ws ≡ Some r
    → cond (not header.hci) (unless_fault (words_fault header.hci header.hosts.items row ws) (read_of row.name ws)) (Err fault.Order) ≡ Ok r
again_bare header row ws r bare right reads =
    ap (λ t. cond (not t) (unless_fault (words_fault header.hci header.hosts.items row ws) (read_of row.name ws)) (Err fault.Order)) bare
    ∙ again header.hci header.hosts.items row ws r right reads

-- a message of a line is no longer than half of it
message_fits : (e : End) (pid : ℕ) (message : List ℕ) → length (line_text (line.Send e pid message)) ≤ 9000 → length message ≤ 4500
message_fits e pid message h =
    let back = length-append (byte_text pid) (32 ∷ encode_upper message) in
    omega (arith, h, length-append (end_text e) (32 ∷ (byte_text pid ++ 32 ∷ encode_upper message)), back, length-hex message)

with_number : (a : List ℕ) (ws : List (List ℕ)) (e : End) (high : ℕ) (o : Option ℕ) (make : End → Option ℕ → Line) → end_value a ≡ Some e
    → (slice_get ws 0 >>= number_in 1 high) ≡ o
    → (end_value a >>= (λ at. Some (read.Line (make at (slice_get ws 0 >>= number_in 1 high))))) ≡ Some (read.Line (make e o))
with_number a ws e high o make ea eo = grind arith

again_nodes : (header : Header) (row : FormRow) (ws : List (List ℕ)) (r : Read) → header.hci ≡ true → Right header.hci header.hosts.items row ws
    → read_of row.name ws ≡ Some r
    → cond header.hci (unless_fault (words_fault header.hci header.hosts.items row ws) (read_of row.name ws)) (Err fault.Order) ≡ Ok r
again_nodes header row ws r nodes right reads =
    ap (λ t. cond t (unless_fault (words_fault header.hci header.hosts.items row ws) (read_of row.name ws)) (Err fault.Order)) nodes
    ∙ again header.hci header.hosts.items row ws r right reads

-- a node
node_again : (header : Header) (node : ℕ) → MayBegin header → IsNodeKnown header.hosts.items node → byte_value (byte_text node) ≡ Some node
node_again header node world known =
    let low = node_fits header.hosts.items node (header_hosts header world) known in byte_again node (omega (arith, low))

-- two bytes
two_small : (a b : ℕ) → a < 256 → b < 256 → All (λ x. x < 256) (a ∷ b ∷ [])
two_small a b low high zero d within = low
two_small a b low high (suc zero) d within = high
two_small a b low high (suc (suc k)) d within = absurd (omega arith)

two_again : (n : ℕ) → n < 65536 → (bytes_value (two_bytes_text n) ≡ Some (n / 256 ∷ n % 256 ∷ [])) × (two_bytes_value (two_bytes_text n) ≡ Some n)
two_again n small =
    let bytes = bytes_again (n / 256 ∷ n % 256 ∷ []) (two_small (n / 256) (n % 256) (omega (arith, small)) (omega arith)) in
    (bytes, ap (option_map two_bytes) (sized_read 2 (two_bytes_text n) (n / 256 ∷ n % 256 ∷ []) bytes refl) ∙ ap Some (omega arith))

-- pipes
abbrev IsPipe : List ℕ → Type 0
IsPipe pipe = (length pipe ≡ 3) × All (λ b. b < 256) pipe

first_pipe : (pipe : List ℕ) (pipes : List (List ℕ)) → All IsPipe (pipe ∷ pipes) → IsPipe pipe
first_pipe pipe pipes h = h 0 pipe (omega arith)

other_pipes : (pipe : List ℕ) (pipes : List (List ℕ)) → All IsPipe (pipe ∷ pipes) → All IsPipe pipes
other_pipes pipe pipes h k d within = h (suc k) d (omega arith)

pipes_fit : (hci : Bool) (hosts : List ℕ) (from : ℕ) (pipes : List (List ℕ)) → All IsPipe pipes
    → AllFit hci hosts from (slots (kind.Bytes 3 3 ∷ []) (map encode_upper pipes))
pipes_fit hci hosts from [] h = tt
pipes_fit hci hosts from (pipe ∷ pipes) h =
    let one = first_pipe pipe pipes h in
    let long = one.0 in
    ((pipe, bytes_again pipe one.1, omega (arith, long), omega (arith, long)), pipes_fit hci hosts from pipes (other_pipes pipe pipes h))

pipes_are_words : (pipes : List (List ℕ)) → All IsPipe pipes → AllByRecursion IsWord (map encode_upper pipes)
pipes_are_words [] h = tt
pipes_are_words (pipe ∷ pipes) h =
    let long = (first_pipe pipe pipes h).0 in (hex_word pipe (omega (arith, long)), pipes_are_words pipes (other_pipes pipe pipes h))

pipes_come_back : (pipes : List (List ℕ)) → All IsPipe pipes → each_word (sized_value 3) (map encode_upper pipes) ≡ Some pipes
pipes_come_back [] h = refl
pipes_come_back (pipe ∷ pipes) h =
    let one = first_pipe pipe pipes h in
    rw (sized_read 3 (encode_upper pipe) pipe (bytes_again pipe one.1) one.0, pipes_come_back pipes (other_pipes pipe pipes h)) refl

-- a line
pub line_again : (header : Header) (said : Line) → MayBegin header → MayFollow header said → length (line_text said) ≤ 9000
    → line_of (Some header) (line_text said) ≡ Ok (read.Line said)
line_again header (line.Send e pid message) world fits short =
    let end = end_again e (link_fits header e world fits.known) in
    let byte = byte_again pid (let low = fits.pipe in omega arith) in
    let bytes = bytes_again message fits.bytes in
    by_its_words (Some header) (line_words (line.Send e pid message)) _ short
    ((omega arith, refl), (end_word e, (hex_word (pid ∷ []) (omega arith), (hex_word message fits.some, tt))))
    (again header.hci header.hosts.items send_row (end_text e ∷ byte_text pid ∷ encode_upper message ∷ []) _
    (record {
      least = omega arith;
      most = omega arith;
      words = (
        (e, end, found_in header.hosts.items e.link fits.known, grind arith),
        ((pid, byte, fits.pipe), ((message, bytes, fits.some, message_fits e pid message short), tt)),
      );
    })
    (rw (end, byte, bytes) refl))
line_again header (line.Deliver e count) world fits short =
    let end = end_again e (link_fits header e world fits.0) in
    let few = numbers_are_few count in
    by_its_words (Some header) (line_words (line.Deliver e count)) _ short ((omega arith, refl), (end_word e, numbers_are_words 64 count (omega arith) fits.1))
    (again header.hci header.hosts.items deliver_row (end_text e ∷ number_words count) _
    (record {
      least = omega arith;
      most = omega arith;
      words = (end_fits header e world fits.0, numbers_fit header.hci header.hosts.items 0 64 count (omega arith) fits.1);
    })
    (with_number (end_text e) (number_words count) e 64 count line.Deliver end (number_comes_back 64 count (omega arith) fits.1)))
line_again header (line.Lose e) world fits short =
    by_its_words (Some header) (line_words (line.Lose e)) _ short ((omega arith, refl), (end_word e, tt))
    (again header.hci header.hosts.items lose_row (end_text e ∷ []) _
    (record { least = omega arith; most = omega arith; words = (end_fits header e world fits, tt) })
    (rw (end_again e (link_fits header e world fits)) refl))
line_again header (line.Damage e places) world fits short =
    let ps = places.items in
    let rise = rise_all ps fits.1.rising fits.1.inside in
    let least = fits.1.some in
    let most = fits.1.most in
    let long = length-map ps decimal in
    by_its_words (Some header) (line_words (line.Damage e places)) _ short ((omega arith, refl), (end_word e, places_are_words 0 ps rise))
    (again header.hci header.hosts.items damage_row (end_text e ∷ map decimal ps) _
    (record { least = omega arith; most = omega arith; words = (end_fits header e world fits.0, places_fit header.hci header.hosts.items 0 ps rise) })
    (rw (end_again e (link_fits header e world fits.0), places_come_back 0 ps rise) refl))
line_again header (line.Tick times) world fits short =
    let few = numbers_are_few times in
    by_its_words (Some header) (line_words (line.Tick times)) _ short ((omega arith, refl), numbers_are_words 100 times (omega arith) fits)
    (again header.hci header.hosts.items tick_row (number_words times) _
    (record { least = omega arith; most = omega arith; words = numbers_fit header.hci header.hosts.items 0 100 times (omega arith) fits })
    (ap (λ o. Some (read.Line (line.Tick o))) (number_comes_back 100 times (omega arith) fits)))
line_again header (line.Reset e window) world fits short =
    let end = end_again e (link_fits header e world fits.0) in
    let few = numbers_are_few window in
    by_its_words (Some header) (line_words (line.Reset e window)) _ short ((omega arith, refl), (end_word e, numbers_are_words 4 window (omega arith) fits.1))
    (again header.hci header.hosts.items reset_row (end_text e ∷ number_words window) _
    (record {
      least = omega arith;
      most = omega arith;
      words = (end_fits header e world fits.0, numbers_fit header.hci header.hosts.items 0 4 window (omega arith) fits.1);
    })
    (with_number (end_text e) (number_words window) e 4 window line.Reset end (number_comes_back 4 window (omega arith) fits.1)))
line_again header (line.Busy e) world fits short =
    by_its_words (Some header) (line_words (line.Busy e)) _ short ((omega arith, refl), (end_word e, tt))
    (again_bare header busy_row (end_text e ∷ []) _ fits.0
    (record { least = omega arith; most = omega arith; words = (end_fits header e world fits.1, tt) })
    (rw (end_again e (link_fits header e world fits.1)) refl))
line_again header (line.Ready e) world fits short =
    by_its_words (Some header) (line_words (line.Ready e)) _ short ((omega arith, refl), (end_word e, tt))
    (again_bare header ready_row (end_text e ∷ []) _ fits.0
    (record { least = omega arith; most = omega arith; words = (end_fits header e world fits.1, tt) })
    (rw (end_again e (link_fits header e world fits.1)) refl))
line_again header (line.Boot node) world fits short =
    by_its_words (Some header) (line_words (line.Boot node)) _ short ((omega arith, refl), (hex_word (node ∷ []) (omega arith), tt))
    (again_nodes header boot_row (byte_text node ∷ []) _ fits.0
    (record { least = omega arith; most = omega arith; words = ((node, node_again header node world fits.1, fits.1), tt) })
    (rw (node_again header node world fits.1) refl))
line_again header (line.Cut node) world fits short =
    by_its_words (Some header) (line_words (line.Cut node)) _ short ((omega arith, refl), (hex_word (node ∷ []) (omega arith), tt))
    (again_nodes header cut_row (byte_text node ∷ []) _ fits.0
    (record { least = omega arith; most = omega arith; words = ((node, node_again header node world fits.1, fits.1), tt) })
    (rw (node_again header node world fits.1) refl))
line_again header (line.Activate host sync power) world fits short =
    let byte = byte_again host (omega (arith, host_fits header.hosts.items host (header_hosts header world) fits.1.known)) in
    let two = two_again sync fits.1.identifier in
    let code = fits.1.code in
    let last = byte_again power (omega (arith, code)) in
    by_its_words (Some header) (line_words (line.Activate host sync power)) _ short (
      (omega arith, refl),
      (hex_word (host ∷ []) (omega arith), (hex_word (sync / 256 ∷ sync % 256 ∷ []) (omega arith), (hex_word (power ∷ []) (omega arith), tt))),
    )
    (again_nodes header activate_row (byte_text host ∷ two_bytes_text sync ∷ byte_text power ∷ []) _ fits.0
    (record {
      least = omega arith;
      most = omega arith;
      words = (
        (host, byte, found_in header.hosts.items host fits.1.known),
        ((sync / 256 ∷ sync % 256 ∷ [], two.0, omega arith, omega arith), ((power, last, omega (arith, code)), tt)),
      );
    })
    (rw (byte, two.1, last) refl))
line_again header (line.Arm node nth fill) world fits short =
    let known = node_again header node world fits.1.known in
    let range = fits.1.which in
    let back = number_back 1 1000 nth range.0 range.1 (omega arith) in
    let most : nth ≤ 1000 = range.1 in
    let bytes = bytes_again fill.items fits.1.bytes in
    by_its_words (Some header) (line_words (line.Arm node nth fill)) _ short
    ((omega arith, refl), (hex_word (node ∷ []) (omega arith), (number_word nth (omega arith), (hex_word fill.items fits.1.long.0, tt))))
    (grind arith)
line_again header (line.Init e identity pipes) world fits short =
    let end = end_again e (link_fits header e world fits.1.known) in
    let long = fits.1.long in
    let bytes = bytes_again identity fits.1.bytes in
    let few = fits.1.few in
    by_its_words (Some header) (line_words (line.Init e identity pipes)) _ short
    ((omega arith, refl), (end_word e, (hex_word identity (omega (arith, long)), pipes_are_words pipes.items fits.1.each)))
    (again_nodes header init_row (end_text e ∷ encode_upper identity ∷ map encode_upper pipes.items) _ fits.0
    (record {
      least = omega arith;
      most = omega (arith, few, length-map pipes.items encode_upper);
      words = (
        (e, end, found_in header.hosts.items e.link fits.1.known, grind arith),
        ((identity, bytes, omega (arith, long), omega (arith, long)), pipes_fit header.hci header.hosts.items 0 pipes.items fits.1.each),
      );
    })
    (rw (end, (sized_read 8 (encode_upper identity) identity bytes long), pipes_come_back pipes.items fits.1.each) refl))
line_again header (line.Tables node) world fits short =
    by_its_words (Some header) (line_words (line.Tables node)) _ short ((omega arith, refl), (hex_word (node ∷ []) (omega arith), tt))
    (again_nodes header tables_row (byte_text node ∷ []) _ fits.0
    (record { least = omega arith; most = omega arith; words = ((node, node_again header node world fits.1, fits.1), tt) })
    (rw (node_again header node world fits.1) refl))
line_again header (line.Settle rounds) world fits short =
    let most : rounds ≤ 20000 = fits.1 in
    let back = number_back 1 20000 rounds fits.0 fits.1 (omega arith) in
    by_its_words (Some header) (line_words (line.Settle rounds)) _ short ((omega arith, refl), (number_word rounds (omega arith), tt))
    (grind arith)

-- ## Headers

one_item : (items : List ℕ) → length items ≡ 1 → (h : ℕ) × (items ≡ h ∷ [])
one_item (h ∷ []) e = (h, refl)
one_item items e = absurd (omega arith)

one_again : (h : ℕ) → IsHost h → line_of None (spaced (codes "swp" ∷ codes "1" ∷ codes "bare" ∷ byte_text h ∷ []))
    ≡ Ok (read.Header (record { hci = false; hosts = record { items = h ∷ [] } }))
one_again h host =
    let high : h ≤ 7 = host.1 in
    let byte = byte_again h (omega arith) in
    by_its_words None (codes "swp" ∷ codes "1" ∷ codes "bare" ∷ byte_text h ∷ []) _ (let hex = length-hex (h ∷ []) in omega (arith, hex))
    ((omega arith, refl), ((omega arith, refl), ((omega arith, refl), (hex_word (h ∷ []) (omega arith), tt))))
    (grind arith)

rise_host : (p : ℕ) (ps : List ℕ) → IsStrictlyIncreasing (p ∷ ps) → All IsHost (p ∷ ps) → HostsFrom (p + 1) ps
rise_host p [] up all = tt
rise_host p (q ∷ ps) up all =
    let host : IsHost q = all 1 q (omega arith) in
    (host.0, omega (arith, rises p q ps up), host.1, rise_host q ps (behind_rises p (q ∷ ps) up) (λ k d within. all (suc k) d (omega arith)))

rise_hosts : (hosts : List ℕ) → IsStrictlyIncreasing hosts → All IsHost hosts → HostsFrom 0 hosts
rise_hosts [] up all = tt
rise_hosts (p ∷ ps) up all = let host : IsHost p = all 0 p (omega arith) in (host.0, omega arith, host.1, rise_host p ps up all)

hosts_fit : (from : ℕ) (hosts : List ℕ) → HostsFrom from hosts → AllFit false [] from (slots (kind.NewHost ∷ []) (map byte_text hosts))
hosts_fit from [] h = tt
hosts_fit from (x ∷ xs) h =
    let byte = byte_again x (omega (arith, h.2)) in
    let next : option_map_or (λ n. n + 1) (byte_value (byte_text x)) from ≡ x + 1 = ap (λ o. option_map_or (λ n. n + 1) o from) byte in (
      (x, byte, h.0, h.1, h.2),
      subst (λ n. AllFit false [] n (slots (kind.NewHost ∷ []) (map byte_text xs))) (sym next) (hosts_fit (x + 1) xs h.3),
    )

hosts_are_words : (hosts : List ℕ) → AllByRecursion IsWord (map byte_text hosts)
hosts_are_words [] = tt
hosts_are_words (x ∷ xs) = (hex_word (x ∷ []) (omega arith), hosts_are_words xs)

hosts_come_back : (from : ℕ) (hosts : List ℕ) → HostsFrom from hosts → each_word byte_value (map byte_text hosts) ≡ Some hosts
hosts_come_back from [] h = refl
hosts_come_back from (x ∷ xs) h = rw (byte_again x (omega (arith, h.2)), hosts_come_back (x + 1) xs h.3) refl

-- a word and hosts behind it
hosts_long : (w hosts : List ℕ) → length (spaced (w ∷ map byte_text hosts)) ≡ length w + 3 * length hosts
hosts_long w [] = omega arith
hosts_long w (x ∷ xs) =
    omega (arith, hosts_long (byte_text x) xs, length-append w (32 ∷ spaced (byte_text x ∷ map byte_text xs)), length-hex (x ∷ []))

nodes_again : (hosts : List ℕ) → 0 < length hosts → HostsFrom 0 hosts
    → line_of None (spaced (codes "swp" ∷ codes "1" ∷ codes "hci" ∷ map byte_text hosts))
    ≡ Ok (read.Header (record { hci = true; hosts = record { items = hosts } }))
nodes_again hosts some rise =
    let few = hosts_few hosts rise in
    let count = length-map hosts byte_text in
    by_its_words None (codes "swp" ∷ codes "1" ∷ codes "hci" ∷ map byte_text hosts) _ (omega (arith, few, hosts_long (codes "hci") hosts))
    ((omega arith, refl), ((omega arith, refl), ((omega arith, refl), hosts_are_words hosts)))
    (again false [] nodes_row (codes "1" ∷ codes "hci" ∷ map byte_text hosts) _
    (record { least = omega (arith, some, count); most = omega (arith, few, count); words = (refl, (refl, hosts_fit 0 hosts rise)) })
    (rw (hosts_come_back 0 hosts rise) refl))

bare_again : (header : Header) → IsHeader header → line_of None (spaced (header_words header)) ≡ Ok (read.Header header)
bare_again header known =
    let items = one_item header.hosts.items known.one in
    let P : Bool → List ℕ → Type 0 = λ hci hosts.
    let made : Header = record { hci = hci; hosts = record { items = hosts } } in line_of None (spaced (header_words made)) ≡ Ok (read.Header made) in
    let host : IsHost items.0 = subst (λ hosts. IsHost (get_or hosts 0 0)) items.1 (known.hosts 0 0 (omega (arith, known.one))) in
    subst (λ hci. P hci header.hosts.items) (sym known.bare) (subst (P false) (sym items.1) (one_again items.0 host))

-- a header
pub header_again : (header : Header) → MayBegin header → line_of None (spaced (header_words header)) ≡ Ok (read.Header header)
header_again header (inl known) = bare_again header known
header_again header (inr known) =
    let P : Bool → Type 0 = λ hci.
    let made : Header = record { hci = hci; hosts = header.hosts } in line_of None (spaced (header_words made)) ≡ Ok (read.Header made) in
    subst P (sym known.nodes) (nodes_again header.hosts.items known.some (rise_hosts header.hosts.items known.rising known.hosts))
