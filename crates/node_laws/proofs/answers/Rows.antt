-- What a controller or a host does with a message is what the first row says that applies.
use Rattle.node_laws.proofs.Words.{Bool, Decision, Deed, EndView, Err, IsResponse, List, Message, MessageFault, MessageKind, NodeView, None, Ok, Option}
use Rattle.node_laws.proofs.Words.{OwnView, Response, Result, Some, [], administration, answers, ap, arith, body_in, by_option, by_test, carried_out, closing}
use Rattle.node_laws.proofs.Words.{cond, controller_deeds, controller_rows, decided, deeds_by_relay, deeds_far, deeds_for, deeds_near, eqb, eqb-true, false}
use Rattle.node_laws.proofs.Words.{far_end, far_host, first_of, first_row, gate_of_pipe, header_of, host_deeds, host_rows, instruction_in, is_gate, is_opened}
use Rattle.node_laws.proofs.Words.{is_order, is_relayed, kind_deeds, length, ne_eqb, opening, option_map_or, own_deeds, refl, relay_deeds, relayed_to, sym}
use Rattle.node_laws.proofs.Words.{tests_of_pipe, true, unless_refused, unrelayed, ℕ, ◌&&◌, ◌∙◌, ◌∷◌, ◌≡◌}
use Rattle.hcp_packet.specs.declared.MessageKind.TheVariants.{Command as IsCommand, Event as IsEvent}
use Rattle.node_laws.specs.answers.Rows.{answer_rows}
use Rattle.gate_answers.specs.declared.response.Response.TheVariants as response

-- ## What a node does with a message is what the first row says that applies

-- the instruction of a header is the one of its message
pub header_is : (message : List ℕ) (k : MessageKind) (n : ℕ) → header_of message ≡ Ok (k, n) → n ≡ instruction_in message
header_is message k n is = grind arith

module _ (v : NodeView) (h : ℕ) (m : Message) where
  abbrev AsRow : Type 0
  AsRow = controller_deeds v h m ≡ first_row (controller_rows v h m)

  -- what is relayed goes over an opened pipe to the host at its other end, and isn't its opening or closing
  record IsRelayed (other : ℕ) : Type 0 where
    pub opened : is_opened v.own.tables h m.0 ≡ true
    pub end : ℕ × ℕ
    pub far : far_end v.own.tables h m.0 ≡ Some end
    pub same : end.0 ≡ other
    pub host : eqb end.0 0 ≡ false
    pub not_opening : is_order 3 m ≡ false
    pub not_closing : is_order 4 m ≡ false

  relayed_so : (other : ℕ) → relayed_to v.own.tables h m ≡ Some other → IsRelayed other
  relayed_so other relayed = by (is_opened v.own.tables h m.0) (far_end v.own.tables h m.0) (header_of m.1) refl refl refl where
    at_end : (o : is_opened v.own.tables h m.0 ≡ true) (e3 : is_order 3 m ≡ false) (e4 : is_order 4 m ≡ false) (end : ℕ × ℕ)
        → far_end v.own.tables h m.0 ≡ Some end → cond (eqb end.0 0) None (Some end.0) ≡ Some other → IsRelayed other
    at_end o e3 e4 end f is = grind arith

    command : (n : ℕ) (p3 p4 : Bool) → header_of m.1 ≡ Ok (IsCommand, n) → eqb n 3 ≡ p3 → eqb n 4 ≡ p4 → is_opened v.own.tables h m.0 ≡ true
        → (f : Option (ℕ × ℕ)) → far_end v.own.tables h m.0 ≡ f → IsRelayed other
    command n p3 p4 x a b o f ef = grind arith

    by : (o : Bool) (f : Option (ℕ × ℕ)) (hd : Result (MessageKind × ℕ) MessageFault) → is_opened v.own.tables h m.0 ≡ o
        → far_end v.own.tables h m.0 ≡ f → header_of m.1 ≡ hd → IsRelayed other
    by false f hd o ef x = let z = rw o at relayed in absurd (cc z)
    by true f (Ok (IsCommand, n)) o ef x = command n (eqb n 3) (eqb n 4) x refl refl o f ef
    by true None (Ok (IsEvent, n)) o ef x = let z = rw (o, x, ef) at relayed in absurd (cc z)
    by true None (Ok (IsResponse, n)) o ef x = let z = rw (o, x, ef) at relayed in absurd (cc z)
    by true None (Err fault) o ef x = let z = rw (o, x, ef) at relayed in absurd (cc z)
    by true (Some end) (Ok (IsEvent, n)) o ef x = at_end o (rw x refl) (rw x refl) end ef (rw (o, x, ef) at relayed)
    by true (Some end) (Ok (IsResponse, n)) o ef x = at_end o (rw x refl) (rw x refl) end ef (rw (o, x, ef) at relayed)
    by true (Some end) (Err fault) o ef x = at_end o (rw x refl) (rw x refl) end ef (rw (o, x, ef) at relayed)

  -- what isn't relayed
  stays : relayed_to v.own.tables h m ≡ None → is_relayed v h m ≡ false
  stays none = grind arith

  -- a message for another host goes there where its link is up
  sent : (other : ℕ) → relayed_to v.own.tables h m ≡ Some other → v.up other ≡ true → AsRow
  sent other relayed up = ap (deeds_by_relay v h m) relayed ∙ ap (relay_deeds v.up h m other) up ∙ rw (on, far) refl where
    so : IsRelayed other
    so = relayed_so other relayed

    far : far_host v h m ≡ other
    far = rw so.far so.same

    on : is_relayed v h m ≡ true
    on = rw (so.opened, so.not_opening, so.not_closing, so.far, so.host) (rw so.same up)

  -- and where it isn't up
  unsent : (other : ℕ) → relayed_to v.own.tables h m ≡ Some other → v.up other ≡ false → AsRow
  unsent other relayed down = ap (deeds_by_relay v h m) relayed ∙ ap (relay_deeds v.up h m other) down ∙ by (v.up h) refl where
    so : IsRelayed other
    so = relayed_so other relayed

    off : is_relayed v h m ≡ false
    off = rw (so.opened, so.not_opening, so.not_closing, so.far, so.host) (rw so.same down)

    one : eqb m.0 1 ≡ false
    one = grind arith

    by : (b : Bool) → v.up h ≡ b → unrelayed (v.up h) h m ≡ first_row (controller_rows v h m)
    by false up = rw (off, up) refl
    by true up = kind (header_of m.1) refl where
      kind : (hd : Result (MessageKind × ℕ) MessageFault) → header_of m.1 ≡ hd → unrelayed (v.up h) h m ≡ first_row (controller_rows v h m)
      kind (Ok (IsCommand, n)) x =
          rw (off, up, x, so.far, one, so.opened, rw x at so.not_opening, rw x at so.not_closing, so.host) refl
      kind (Ok (IsEvent, n)) x = by_test (eqb n 2) (λ q. rw (off, up, x, q, so.opened, so.far, so.host) refl) (λ q. rw (off, up, x, q) refl)
      kind (Ok (IsResponse, n)) x = rw (off, up, x, one) refl
      kind (Err fault) x = rw (off, up, x) refl

  -- a message that isn't relayed and whose link is up is handled by its kind
  by_kind : relayed_to v.own.tables h m ≡ None → v.up h ≡ true → (x : Result (MessageKind × ℕ) MessageFault) → header_of m.1 ≡ x
      → controller_deeds v h m ≡ kind_deeds v h m x
  by_kind none up x is = ap (deeds_by_relay v h m) none ∙ ap (own_deeds v h m) up ∙ ap (kind_deeds v h m) is

  module _ (none : relayed_to v.own.tables h m ≡ None) (up : v.up h ≡ true) where
    off : is_relayed v h m ≡ false
    off = stays none

    -- #### Commands

    module _ (x : header_of m.1 ≡ Ok (IsCommand, instruction_in m.1)) where
      abbrev OfCommand : Type 0
      OfCommand = kind_deeds v h m (Ok (IsCommand, instruction_in m.1)) ≡ first_row (controller_rows v h m)

      asking : (eqb m.0 1 && v.asks h) ≡ true → OfCommand
      asking a = rw (off, up, x, a) refl

      module _ (a : (eqb m.0 1 && v.asks h) ≡ false) where
        -- what is decided where a test of the pipe holds, or none does
        refused : (r : Response) → first_of (tests_of_pipe v.own.tables h m.0 (instruction_in m.1)) ≡ Some r
            → decided v.own.tables (v.links h) h m.0 (instruction_in m.1) (body_in m.1) ≡ answers r []
        refused r is = ap (λ o. unless_refused o (carried_out v.own.tables (v.links h) h m.0 (instruction_in m.1) (body_in m.1))) is

        passed : (d : Decision) → first_of (tests_of_pipe v.own.tables h m.0 (instruction_in m.1)) ≡ None → (p3 p4 : Bool)
            → eqb (instruction_in m.1) 3 ≡ p3 → eqb (instruction_in m.1) 4 ≡ p4
            → cond p3 (opening v.own.tables h m.0 (body_in m.1)) (cond p4 (closing h m.0 (body_in m.1))
            (administration v.own.tables (v.links h) h (instruction_in m.1) (body_in m.1))) ≡ d
            → decided v.own.tables (v.links h) h m.0 (instruction_in m.1) (body_in m.1) ≡ d
        passed d is p3 p4 a b done = grind arith

        module _ (end : ℕ × ℕ) (f : far_end v.own.tables h m.0 ≡ Some end) where
          shut : is_opened v.own.tables h m.0 ≡ false → eqb (instruction_in m.1) 3 ≡ false → OfCommand
          shut o a = grind arith

          opens : eqb (instruction_in m.1) 3 ≡ true → (o l : Bool) → is_opened v.own.tables h m.0 ≡ o → eqb (length (body_in m.1)) 0 ≡ l → OfCommand
          opens e3 o l is e = grind arith

          closes : is_opened v.own.tables h m.0 ≡ true → eqb (instruction_in m.1) 3 ≡ false → eqb (instruction_in m.1) 4 ≡ true → (l : Bool)
              → eqb (length (body_in m.1)) 0 ≡ l → OfCommand
          closes o a b l e = grind arith

          at_end : (o p3 p4 e0 : Bool) → is_opened v.own.tables h m.0 ≡ o → eqb (instruction_in m.1) 3 ≡ p3 → eqb (instruction_in m.1) 4 ≡ p4
              → eqb end.0 0 ≡ e0 → OfCommand
          at_end o true p4 e0 is e3 e4 z = opens e3 o (eqb (length (body_in m.1)) 0) is refl
          at_end false false p4 e0 is e3 e4 z = shut is e3
          at_end true false true e0 is e3 e4 z = closes is e3 e4 (eqb (length (body_in m.1)) 0) refl
          at_end true false false true is e3 e4 z = grind arith
          at_end true false false false is e3 e4 z = let y = rw (is, x, e3, e4, f, z) at none in absurd (cc y)

        by_end : (o : Option (ℕ × ℕ)) → far_end v.own.tables h m.0 ≡ o → OfCommand
        by_end None f = grind arith
        by_end (Some end) f =
            at_end end f (is_opened v.own.tables h m.0) (eqb (instruction_in m.1) 3) (eqb (instruction_in m.1) 4) (eqb end.0 0) refl refl refl refl

      command : (b : Bool) → (eqb m.0 1 && v.asks h) ≡ b → OfCommand
      command true a = asking a
      command false a = by_end a (far_end v.own.tables h m.0) refl

    -- #### Events and responses

    event : (n : ℕ) → header_of m.1 ≡ Ok (IsEvent, n) → kind_deeds v h m (Ok (IsEvent, n)) ≡ first_row (controller_rows v h m)
    event n x = by (is_opened v.own.tables h m.0) (eqb n 2) (far_end v.own.tables h m.0) refl refl refl where
      at_gate : (end : ℕ × ℕ) → far_end v.own.tables h m.0 ≡ Some end → is_opened v.own.tables h m.0 ≡ true → eqb n 2 ≡ true → (e0 e1 : Bool)
          → eqb end.0 0 ≡ e0 → eqb end.1 0 ≡ e1 → kind_deeds v h m (Ok (IsEvent, n)) ≡ first_row (controller_rows v h m)
      at_gate end f o q false e1 z y = rw (off, up, x, o, q, f, z) refl
      at_gate end f o q true true z y = rw (off, up, x, o, q, f, z, eqb-true end.1 0 y) refl
      at_gate end f o q true false z y = by_test (eqb end.1 4) (λ is. rw (off, up, x, o, q, f, z, y, is) refl) (λ is. rw (off, up, x, o, q, f, z, y, is) refl)

      by : (o p : Bool) (f : Option (ℕ × ℕ)) → is_opened v.own.tables h m.0 ≡ o → eqb n 2 ≡ p → far_end v.own.tables h m.0 ≡ f
          → kind_deeds v h m (Ok (IsEvent, n)) ≡ first_row (controller_rows v h m)
      by false true f o q is = rw (off, up, x, o, q) refl
      by false false f o q is = rw (off, up, x, o, q) refl
      by true true None o q is = rw (off, up, x, o, q, is) refl
      by true true (Some end) o q is = at_gate end is o q (eqb end.0 0) (eqb end.1 0) refl refl
      by true false f o q is = grind arith

    response_row : header_of m.1 ≡ Ok (IsResponse, instruction_in m.1)
        → kind_deeds v h m (Ok (IsResponse, instruction_in m.1)) ≡ first_row (controller_rows v h m)
    response_row x = let h0 = off in grind arith

    own_row : (hd : Result (MessageKind × ℕ) MessageFault) → header_of m.1 ≡ hd → AsRow
    own_row (Ok (IsCommand, n)) is =
        let x : header_of m.1 ≡ Ok (IsCommand, instruction_in m.1) = rw (← header_is m.1 IsCommand n is) is in
        by_kind none up (Ok (IsCommand, instruction_in m.1)) x ∙ command x (eqb m.0 1 && v.asks h) refl
    own_row (Ok (IsEvent, n)) is = by_kind none up (Ok (IsEvent, n)) is ∙ event n is
    own_row (Ok (IsResponse, n)) is =
        let x : header_of m.1 ≡ Ok (IsResponse, instruction_in m.1) = rw (← header_is m.1 IsResponse n is) is in
        by_kind none up (Ok (IsResponse, instruction_in m.1)) x ∙ response_row x
    own_row (Err fault) is = by_kind none up (Err fault) is ∙ rw (off, up, is) refl

  -- a message whose link isn't up
  dropped : relayed_to v.own.tables h m ≡ None → v.up h ≡ false → AsRow
  dropped none down = ap (deeds_by_relay v h m) none ∙ ap (own_deeds v h m) down ∙ rw (stays none, down) refl

  pub controller_by_rows : AsRow
  controller_by_rows = by_option (relayed_to v.own.tables h m) (λ is. by_test (v.up h)
      (λ up. own_row is up (header_of m.1) refl)
      (λ down. dropped is down)) (λ other is. by_test (v.up other)
      (λ up. sent other is up)
      (λ down. unsent other is down))

-- ## What a host does with a message is what the first row says that applies, and so it is with a node

-- two bytes or more aren't one
two : (x y : ℕ) (more : List ℕ) → eqb (length (x ∷ y ∷ more)) 1 ≡ false
two x y more = ne_eqb (length (x ∷ y ∷ more)) 1 (λ is. omega arith)

module _ (own : OwnView) (e : EndView) (m : Message) where
  abbrev AsHostRow : Type 0
  AsHostRow = host_deeds own e m ≡ first_row (host_rows own e m)

  module _ (up : e.up ≡ true) where
    module _ (x : header_of m.1 ≡ Ok (IsCommand, instruction_in m.1)) where
      module _ (one : eqb m.0 1 ≡ true) where
        deleted : eqb (instruction_in m.1) 18 ≡ false → eqb (instruction_in m.1) 19 ≡ true → (body : List ℕ) → body_in m.1 ≡ body → AsHostRow
        deleted e18 e19 [] is = rw (up, x, one, e18, e19, is) refl
        deleted e18 e19 (pid ∷ []) is = grind arith
        deleted e18 e19 (pid ∷ y ∷ more) is = rw (up, x, one, e18, e19, is, two pid y more) refl

        cleared : eqb (instruction_in m.1) 18 ≡ false → eqb (instruction_in m.1) 19 ≡ false → eqb (instruction_in m.1) 21 ≡ true
            → (body : List ℕ) → body_in m.1 ≡ body → AsHostRow
        cleared e18 e19 e21 [] is = rw (up, x, one, e18, e19, e21, is) refl
        cleared e18 e19 e21 (host ∷ []) is = grind arith
        cleared e18 e19 e21 (host ∷ y ∷ more) is = rw (up, x, one, e18, e19, e21, is, two host y more) refl

        noticed : (b18 b19 b21 : Bool) → eqb (instruction_in m.1) 18 ≡ b18 → eqb (instruction_in m.1) 19 ≡ b19 → eqb (instruction_in m.1) 21 ≡ b21 → AsHostRow
        noticed true b19 b21 e18 e19 e21 = grind arith
        noticed false true b21 e18 e19 e21 = deleted e18 e19 (body_in m.1) refl
        noticed false false true e18 e19 e21 = cleared e18 e19 e21 (body_in m.1) refl
        noticed false false false e18 e19 e21 = rw (up, x, one, e18, e19, e21) refl

      at_gate : eqb m.0 1 ≡ false → (z g : Bool) → eqb m.0 0 ≡ z → is_gate 5 (gate_of_pipe own m.0) ≡ g → AsHostRow
      at_gate one z g zero five = grind arith

      ordered : (b : Bool) → eqb m.0 1 ≡ b → AsHostRow
      ordered true one = noticed one (eqb (instruction_in m.1) 18) (eqb (instruction_in m.1) 19) (eqb (instruction_in m.1) 21) refl refl refl
      ordered false one = at_gate one (eqb m.0 0) (is_gate 5 (gate_of_pipe own m.0)) refl refl

    posted : (n : ℕ) → header_of m.1 ≡ Ok (IsEvent, n) → (p g b : Bool) → eqb n 2 ≡ p → is_gate 4 (gate_of_pipe own m.0) ≡ g → eqb m.0 1 ≡ b → AsHostRow
    posted n x true true true q four one = rw (up, x, q, four, x, q, one) refl
    posted n x true true false q four one = rw (up, x, q, four, x, q, one) refl
    posted n x true false true q four one = rw (up, x, q, four, one) refl
    posted n x true false false q four one = rw (up, x, q, four, one) refl
    posted n x false true true q four one = rw (up, x, q, four, x, q, one) refl
    posted n x false true false q four one = rw (up, x, q, four, x, q, one) refl
    posted n x false false true q four one = rw (up, x, q, four, one) refl
    posted n x false false false q four one = rw (up, x, q, four, one) refl

    unread : (fault : MessageFault) → header_of m.1 ≡ Err fault → (b : Bool) → eqb m.0 1 ≡ b → AsHostRow
    unread fault x b one = grind arith

    answered : header_of m.1 ≡ Ok (IsResponse, instruction_in m.1) → (b : Bool) (o : Option (List ℕ)) → eqb m.0 1 ≡ b → own.command ≡ o → AsHostRow
    answered x b o one is = grind arith

    by_header : (hd : Result (MessageKind × ℕ) MessageFault) → header_of m.1 ≡ hd → AsHostRow
    by_header (Ok (IsCommand, n)) is = ordered (rw (← header_is m.1 IsCommand n is) is) (eqb m.0 1) refl
    by_header (Ok (IsEvent, n)) is = posted n is (eqb n 2) (is_gate 4 (gate_of_pipe own m.0)) (eqb m.0 1) refl refl refl
    by_header (Ok (IsResponse, n)) is = answered (rw (← header_is m.1 IsResponse n is) is) (eqb m.0 1) own.command refl refl
    by_header (Err fault) is = unread fault is (eqb m.0 1) refl

  pub host_by_rows : AsHostRow
  host_by_rows = by_test e.up (λ up. by_header up (header_of m.1) refl) (λ up. rw up refl)

pub done_by_rows : (v : NodeView) (h : ℕ) (m : Message) → deeds_for v h m ≡ first_row (answer_rows v h m)
done_by_rows v h m = by (eqb v.own.node 0) (v.ends h) refl refl where
  rows : Bool → Option EndView → List Deed
  rows b o = first_row (cond b (controller_rows v h m) (option_map_or (λ e. host_rows v.own e m) o []))

  by : (b : Bool) (o : Option EndView) → eqb v.own.node 0 ≡ b → v.ends h ≡ o → deeds_for v h m ≡ first_row (answer_rows v h m)
  by true o q is = deeds_near v h m q ∙ controller_by_rows v h m ∙ sym (ap (λ b. rows b (v.ends h)) q)
  by false None q is = grind arith
  by false (Some e) q is =
      deeds_far v h m q ∙ ap (λ o. option_map_or (λ e. host_deeds v.own e m) o []) is ∙ host_by_rows v.own e m
      ∙ sym (ap (λ b. rows b (v.ends h)) q ∙ ap (rows false) is)
