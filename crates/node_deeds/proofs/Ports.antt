-- What a controller does depends on its ends by their desks and by which links are up.
use Rattle.std.specs.List.{find}
use Rattle.node_deeds.proofs.Words.{Bool, Core, Creation, Deed, Drops, Err, HciTables, IsCommand, IsEvent, IsResponse, LinkView, List, Message, MessageFault}
use Rattle.node_deeds.proofs.Words.{MessageKind, None, Ok, Option, Port, Result, Some, [], about_at, about_of, ap, ap₂, asks_for, body_in, cond, cons_option}
use Rattle.node_deeds.proofs.Words.{controller_deeds, creation_in, deeds_by_relay, eqb, false, filter, filter_map, goes_through, has_link, header_of, if_notice}
use Rattle.node_deeds.proofs.Words.{is_asked_at, is_opened, is_some, kind_deeds, list_any, map, mask_of, notice_deeds, option_and_then, option_map}
use Rattle.node_deeds.proofs.Words.{option_map_or, own_deeds, own_gate, own_view, pipe_of, port_at, range_with_len, refl, relayed_to, served_at, sym, true}
use Rattle.node_deeds.proofs.Words.{unless_asking, view_for, view_of, waiting_pipes, ℕ, ◌&&◌, ◌||◌, ◌∙◌, ◌∷◌, ◌≡◌}
use Rattle.gate_admin.specs.View.{hosts_where}
use Rattle.node_machine.specs.Parts.{Desk}
use Rattle.node_machine.specs.Controller.{mask_where, relay_deeds, unrelayed}
use Rattle.node_deeds.specs.Shown.{seen_at, port_with}

-- ## Lists

pub find-map : {X Y : Type 0} (p : Y → Bool) (f : X → Y) (xs : List X) → find p (map f xs) ≡ option_map f (find (λ x. p (f x)) xs)
find-map p f [] = refl
find-map p f (x ∷ xs) = one (p (f x)) (find-map p f xs) where
  one : (b : Bool) → find p (map f xs) ≡ option_map f (find (λ x. p (f x)) xs)
      → cond b (Some (f x)) (find p (map f xs)) ≡ option_map f (cond b (Some x) (find (λ x. p (f x)) xs))
  one true later = refl
  one false later = later

pub list_any-map : {X Y : Type 0} (p : Y → Bool) (f : X → Y) (xs : List X) → list_any p (map f xs) ≡ list_any (λ x. p (f x)) xs
list_any-map p f [] = refl
list_any-map p f (x ∷ xs) = ap (λ b. p (f x) || b) (list_any-map p f xs)

pub filter_map-map : {X Y Z : Type 0} (h : Y → Option Z) (f : X → Y) (xs : List X) → filter_map h (map f xs) ≡ filter_map (λ x. h (f x)) xs
filter_map-map h f [] = refl
filter_map-map h f (x ∷ xs) = ap (λ zs. cons_option (h (f x)) zs) (filter_map-map h f xs)

filter_same : (p q : ℕ → Bool) → ((n : ℕ) → p n ≡ q n) → (ns : List ℕ) → filter p ns ≡ filter q ns
filter_same p q same [] = refl
filter_same p q same (n ∷ ns) = ap₂ (λ b rest. cond b (n ∷ rest) rest) (same n) (filter_same p q same ns)

pub hosts_same : (p q : ℕ → Bool) → ((n : ℕ) → p n ≡ q n) → hosts_where p ≡ hosts_where q
unfolding hosts_where
hosts_same p q same = filter_same p q same (range_with_len 1 7)

-- ## What is seen of an end

-- what is said of an end by what is seen of it
abbrev pub Seen : Type 0
Seen = Desk × Bool

seen_or : {X : Type 0} (f : Seen → X) (x : X) (o : Option Port) → option_map_or (λ p. f (seen_at p)) o x ≡ option_map_or f (option_map seen_at o) x
seen_or f x None = refl
seen_or f x (Some p) = refl

-- the first of these that is seen at the end of the link with this host
abbrev pub seen_of : List Seen → ℕ → Option Seen
seen_of seen h = find (λ s. eqb s.0.host h) seen

pub port_seen : (ports : List Port) (h : ℕ) → option_map seen_at (port_at ports h) ≡ seen_of (map seen_at ports) h
port_seen ports h = sym (find-map (λ (s : Seen). eqb s.0.host h) seen_at ports)

-- a test of what is seen at the end of the link with a host
pub test_seen : {X : Type 0} (f : Seen → X) (x : X) (ports : List Port) (h : ℕ)
    → option_map_or (λ p. f (seen_at p)) (port_at ports h) x ≡ option_map_or f (seen_of (map seen_at ports) h) x
test_seen f x ports h = seen_or f x (port_at ports h) ∙ ap (λ o. option_map_or f o x) (port_seen ports h)

-- ## Two nodes whose ends are seen alike

-- a view with these parts
abbrev pub view_with : ℕ → ℕ → ℕ → ℕ → List ℕ → ℕ → LinkView
view_with hosts connected noticed asked waiting errors = record {
  hosts = hosts;
  connected = connected;
  noticed = noticed;
  asked = asked;
  waiting = record { items = waiting };
  errors = errors;
}

pub view_made : (a b c d e a' b' c' d' e' : ℕ) (w w' : List ℕ) → a ≡ a' → b ≡ b' → c ≡ c' → d ≡ d' → w ≡ w' → e ≡ e'
    → view_with a b c d w e ≡ view_with a' b' c' d' w' e'
view_made a b c d e a' b' c' d' e' w w' p q r s t u = cc

module _ (one other : List Port) (alike : map seen_at one ≡ map seen_at other) where
  test_alike : {X : Type 0} (f : Seen → X) (x : X) (h : ℕ)
      → option_map_or (λ p. f (seen_at p)) (port_at one h) x ≡ option_map_or (λ p. f (seen_at p)) (port_at other h) x
  test_alike f x h = test_seen f x one h ∙ (ap (λ seen. option_map_or f (seen_of seen h) x) alike ∙ sym (test_seen f x other h))

  pub link_alike : (h : ℕ) → has_link one h ≡ has_link other h
  link_alike h = test_alike (λ s. s.1) false h

  asks_alike : (h : ℕ) → asks_for one h ≡ asks_for other h
  asks_alike h =
      let test : Seen → Bool = λ s. option_map_or (λ (c : Creation). eqb c.asker h) (creation_in s.0.notice) false in
      sym (list_any-map test seen_at one) ∙ (ap (list_any test) alike ∙ list_any-map test seen_at other)

  waiting_alike : waiting_pipes one ≡ waiting_pipes other
  waiting_alike =
      let pipe : Seen → Option ℕ = λ s. option_and_then (λ (c : Creation). pipe_of c.command) (creation_in s.0.notice) in
      sym (filter_map-map pipe seen_at one) ∙ (ap (filter_map pipe) alike ∙ filter_map-map pipe seen_at other)

  mask_alike : (f : Seen → Bool) → mask_where (λ p. f (seen_at p)) one ≡ mask_where (λ p. f (seen_at p)) other
  mask_alike f = ap mask_of (hosts_same _ _ (λ h. test_alike f false h))

  view_alike : (t : HciTables) (h : ℕ) → view_for t one h ≡ view_for t other h
  view_alike t h =
      let hosts = mask_alike (λ s. true) in
      let connected = mask_alike (λ s. s.1 && is_opened t s.0.host 1) in
      let noticed = mask_alike (λ s. is_some s.0.notice) in
      let asked = mask_alike (λ s. is_asked_at (port_with s.0 s.1)) in
      let waiting = waiting_alike in
      let errors = test_alike (λ s. s.0.errors) 0 h in
      view_made _ _ _ _ _ _ _ _ _ _ _ _ hosts connected noticed asked waiting errors

  response_alike : (core : Core) (code h : ℕ)
      → notice_deeds (own_view core) code (about_at (port_at one h)) ≡ notice_deeds (own_view core) code (about_at (port_at other h))
  response_alike core code h = seen_or (port_at one h) ∙ (ap by_seen at_h ∙ sym (seen_or (port_at other h)))
    where
      by_seen : Option Seen → List Deed
      by_seen None = Drops 1 ∷ []
      by_seen (Some s) = notice_deeds (own_view core) code (about_of s.0.notice)

      seen_or : (o : Option Port) → notice_deeds (own_view core) code (about_at o) ≡ by_seen (option_map seen_at o)
      seen_or None = refl
      seen_or (Some p) = refl

      at_h : option_map seen_at (port_at one h) ≡ option_map seen_at (port_at other h)
      at_h = port_seen one h ∙ (ap (λ seen. seen_of seen h) alike ∙ sym (port_seen other h))

  -- a controller does the same at both
  pub deeds_alike : (core : Core) (h : ℕ) (m : Message) → controller_deeds (view_of core one) h m ≡ controller_deeds (view_of core other) h m
  deeds_alike core h m = by (relayed_to core.tables h m) where
    relays : (b : Bool) (to : ℕ) → relay_deeds (has_link one) h m to b ≡ relay_deeds (has_link other) h m to b
    relays true to = refl
    relays false to = ap (λ up. unrelayed up h m) (link_alike h)

    asks : (b : Bool) (instruction : ℕ) → unless_asking (view_of core one) h m instruction b ≡ unless_asking (view_of core other) h m instruction b
    asks true instruction = refl
    asks false instruction =
        ap
        (λ view. served_at (own_view core) view h m.0 instruction (body_in m.1)
        (cond (goes_through core.tables h m.0 instruction) (own_gate core.tables h m.0) None))
        (view_alike core.tables h)

    replies : (b : Bool) (code : ℕ) → if_notice (view_of core one) h m code b ≡ if_notice (view_of core other) h m code b
    replies true code = response_alike core code h
    replies false code = refl

    kinds : (x : Result (MessageKind × ℕ) MessageFault) → kind_deeds (view_of core one) h m x ≡ kind_deeds (view_of core other) h m x
    kinds (Ok (IsCommand, instruction)) =
        ap (λ b. unless_asking (view_of core one) h m instruction (eqb m.0 1 && b)) (asks_alike h) ∙ asks (eqb m.0 1 && asks_for other h) instruction
    kinds (Ok (IsEvent, instruction)) = refl
    kinds (Ok (IsResponse, code)) = replies (eqb m.0 1) code
    kinds (Err fault) = refl

    owns : (b : Bool) → own_deeds (view_of core one) h m b ≡ own_deeds (view_of core other) h m b
    owns true = kinds (header_of m.1)
    owns false = refl

    by : (o : Option ℕ) → deeds_by_relay (view_of core one) h m o ≡ deeds_by_relay (view_of core other) h m o
    by (Some to) = ap (λ up. relay_deeds (has_link one) h m to up) (link_alike to) ∙ relays (has_link other to) to
    by None = ap (λ up. own_deeds (view_of core one) h m up) (link_alike h) ∙ owns (has_link other h)
