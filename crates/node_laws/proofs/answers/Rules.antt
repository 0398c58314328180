-- What holds of each answer of a node, row by row, and of the messages that have had no turn.
use Rattle.node_laws.proofs.Words.{AllByRecursion, Answer, AreInTurn, Ask, AsksAsAllowed, Bool, Clear, Command, Commit, Create, Decision, Deed, Delete, End}
use Rattle.node_laws.proofs.Words.{EndView, Entry, Hears, Init, IsFrontOf, List, Message, NodeView, None, Option, OwnView, Sends, SetOpened, Some, Tells, []}
use Rattle.node_laws.proofs.Words.{accepts, administration, and_parts, answer_of, answers, ap, append-nil, append_assoc, append_cancel_left, arith, body_in}
use Rattle.node_laws.proofs.Words.{by_option, by_test, closing, commit_deeds, commits, cond, cond_both, controller_rows, decided_as_allowed, decides, deeds_far}
use Rattle.node_laws.proofs.Words.{deeds_for, deeds_near, drop, eqb, false, far_end, far_host, filter_map, filter_map-append, first_row, fold-append, got_entry}
use Rattle.node_laws.proofs.Words.{has, host_rows, hosts_where, if◌then◌else◌, init_deeds, inl, instruction_in, is_command_message, is_none, is_opened}
use Rattle.node_laws.proofs.Words.{is_order, is_relayed, learned, link_served, map, node_of, not, oldest, opening, option_map_or, others_opened, param_in}
use Rattle.node_laws.proofs.Words.{pipe_named_in, refl, same_end, same_end_itself, since_boot, subst, sym, true, turn_entry_at, unhandled_after, unhandled_in}
use Rattle.node_laws.proofs.Words.{ℕ, ◌&&◌, ◌++◌, ◌==◌, ◌∙◌, ◌∷◌, ◌≡◌}
use Rattle.node_machine.specs.HostReplies.{created_by, deleted_by}
use Rattle.node_laws.specs.answers.Rows.{leads_to_gate}
use Rattle.node_laws.specs.answers.Rules.{IsAskedAsAllowed, IsSentAsAllowed, commits_first}
use Rattle.node_laws.specs.turns.Turns.{AreLeft}
use Rattle.node_laws.proofs.answers.Rows.{controller_by_rows, host_by_rows}
use Rattle.gate_answers.specs.declared.response.Response.TheVariants as response
use Rattle.trace_model.specs.declared.entry.Entry.TheVariants as entry

-- ## What holds of each answer of a node: of what each row does, where it is the first one that applies

-- it holds of what a row does, where that applies, and of what those behind it do, where it doesn't
abbrev HoldsInRows : (List Deed → Type 0) → List (Bool × List Deed) → Type 0
HoldsInRows P [] = P []
HoldsInRows P (row ∷ rows) = (row.0 ≡ true → P row.1) × (row.0 ≡ false → HoldsInRows P rows)

first_row_holds : (P : List Deed → Type 0) (rows : List (Bool × List Deed)) → HoldsInRows P rows → P (first_row rows)
first_row_holds P [] holds = holds
first_row_holds P (row ∷ rows) holds = cond_both row.0 row.1 (first_row rows) P holds.0 (λ off. first_row_holds P rows (holds.1 off))

-- what a controller does is done by its rows, and what a host does by its own
near_holds : (P : List Deed → Type 0) (v : NodeView) (h : ℕ) (m : Message) → eqb v.own.node 0 ≡ true → HoldsInRows P (controller_rows v h m)
    → P (deeds_for v h m)
near_holds P v h m near holds = subst P (sym (deeds_near v h m near ∙ controller_by_rows v h m)) (first_row_holds P (controller_rows v h m) holds)

far_holds : (P : List Deed → Type 0) (v : NodeView) (h : ℕ) (m : Message) → eqb v.own.node 0 ≡ false → P []
    → ((e : EndView) → HoldsInRows P (host_rows v.own e m)) → P (deeds_for v h m)
far_holds P v h m far none holds = subst P (sym (deeds_far v h m far)) (by_option (v.ends h)
    (λ q. rw q none)
    (λ e q. rw q (subst P (sym (host_by_rows v.own e m)) (first_row_holds P (host_rows v.own e m) (holds e)))))

module _ (v : NodeView) (h : ℕ) (m : Message) where
  abbrev pub Fine : List Deed → Type 0
  Fine deeds = AllByRecursion (IsSentAsAllowed v h m) deeds

  told_fine : (message : List ℕ) (hosts : List ℕ) → Fine (map (λ y. Tells y message) hosts)
  told_fine message [] = tt
  told_fine message (y ∷ hosts) = (tt, told_fine message hosts)

  decided_fine : (d : Decision) → Fine (decides v h m d)
  decided_fine (Answer answer) = (inl refl, tt)
  decided_fine (Commit c answer tell notice) = by_test (v.own.has_room c)
      (λ q. rw q (tt, (inl refl, (tt, told_fine notice.items (hosts_where (has tell))))))
      (λ q. rw q (inl refl, tt))
  decided_fine (Ask dest notice c answer) = (tt, tt)

  relayed_fine : is_relayed v h m ≡ true → Fine (Sends (far_host v h m) m ∷ [])
  relayed_fine on = grind arith

  sent_as_allowed : HoldsInRows Fine (controller_rows v h m)
  sent_as_allowed = (
    relayed_fine,
    λ _. (
      λ _. (tt, tt),
      λ _. (
        λ _. (tt, tt),
        λ _. (
          λ _. decided_fine (answers response.NotConnected []),
          λ _. (
            λ _. decided_fine (answers response.PipeNotOpened []),
            λ _. (
              λ _. decided_fine (answers response.CommandParameterUnknown []),
              λ _. (
                λ _. decided_fine (answers response.Ok (others_opened v.own.tables h m.0 ∷ [])),
                λ _. (
                  λ _. decided_fine (commits (SetOpened h m.0 true) (others_opened v.own.tables h m.0 ∷ [])),
                  λ _. (
                    λ _. decided_fine (answers response.CommandParameterUnknown []),
                    λ _. (
                      λ _. decided_fine (commits (SetOpened h m.0 false) []),
                      λ _. (
                        λ _. decided_fine (answers response.NotConnected []),
                        λ _. (
                          λ _. decided_fine (administration v.own.tables (v.links h) h (instruction_in m.1) (body_in m.1)),
                          λ _. (
                            λ _. (grind arith),
                            λ _. (grind arith),
                          ),
                        ),
                      ),
                    ),
                  ),
                ),
              ),
            ),
          ),
        ),
      ),
    ),
  )

  pub near_sent_as_allowed : eqb v.own.node 0 ≡ true → Fine (deeds_for v h m)
  near_sent_as_allowed near = near_holds Fine v h m near sent_as_allowed

  -- ### Creations

  abbrev pub Asked : List Deed → Type 0
  Asked deeds = AllByRecursion (IsAskedAsAllowed v h) deeds

  told_asked : (message : List ℕ) (hosts : List ℕ) → Asked (map (λ y. Tells y message) hosts)
  told_asked message [] = tt
  told_asked message (y ∷ hosts) = (tt, told_asked message hosts)

  decided_asked : (d : Decision) → AsksAsAllowed v.own.tables (v.links h) h d → Asked (decides v h m d)
  decided_asked (Answer answer) allowed = (tt, tt)
  decided_asked (Commit c answer tell notice) allowed = by_test (v.own.has_room c)
      (λ q. rw q (tt, (tt, (tt, told_asked notice.items (hosts_where (has tell))))))
      (λ q. rw q (tt, tt))
  decided_asked (Ask dest notice c answer) allowed = ((refl, allowed), tt)

  -- a command that administration decides is on an opened pipe of the host, and neither opens nor closes it
  administered : is_command_message m.1 ≡ true → (is_command_message m.1 && is_none (far_end v.own.tables h m.0)) ≡ false
      → ((is_command_message m.1 && not (is_opened v.own.tables h m.0)) && not (is_order 3 m)) ≡ false → is_order 3 m ≡ false → is_order 4 m ≡ false
      → AsksAsAllowed v.own.tables (v.links h) h (administration v.own.tables (v.links h) h (instruction_in m.1) (body_in m.1))
  administered command own opened unopening unclosing =
      subst (AsksAsAllowed v.own.tables (v.links h) h) (grind arith)
      (decided_as_allowed v.own.tables (v.links h) h m.0 (instruction_in m.1) (body_in m.1))

  asked_as_allowed : HoldsInRows Asked (controller_rows v h m)
  asked_as_allowed = (
    λ _. (tt, tt),
    λ _. (
      λ _. (tt, tt),
      λ _. (
        λ _. (tt, tt),
        λ _. (
          λ _. (tt, tt),
          λ own. (
            λ _. (tt, tt),
            λ opened. (
              λ _. (tt, tt),
              λ _. (
                λ _. (tt, tt),
                λ _. (
                  λ _. decided_asked (commits (SetOpened h m.0 true) (others_opened v.own.tables h m.0 ∷ [])) tt,
                  λ opening. (
                    λ _. (tt, tt),
                    λ _. (
                      λ _. decided_asked (commits (SetOpened h m.0 false) []) tt,
                      λ closing. (
                        λ _. (tt, tt),
                        λ _. (
                          λ on. decided_asked (administration v.own.tables (v.links h) h (instruction_in m.1) (body_in m.1))
                              (administered (and_parts (is_command_message m.1) (leads_to_gate v h m 0) on).0 own opened opening closing),
                          λ _. (grind arith),
                        ),
                      ),
                    ),
                  ),
                ),
              ),
            ),
          ),
        ),
      ),
    ),
  )

  pub near_asked_as_allowed : eqb v.own.node 0 ≡ true → Asked (deeds_for v h m)
  near_asked_as_allowed near = near_holds Asked v h m near asked_as_allowed

-- ### Commits

abbrev pub InOrder : List Deed → Type 0
InOrder deeds = commits_first false false deeds ≡ true

told_last : (begun sent : Bool) (message : List ℕ) (hosts : List ℕ) → commits_first begun sent (map (λ y. Tells y message) hosts) ≡ true
told_last begun sent message [] = refl
told_last begun sent message (y ∷ hosts) = told_last begun sent message hosts

committed_in_order : (b : Bool) (h pipe : ℕ) (c : Command) (answer message : List ℕ) (hosts : List ℕ)
    → InOrder (commit_deeds b h pipe c answer (map (λ y. Tells y message) hosts))
committed_in_order true h pipe c answer message hosts = told_last false true message hosts
committed_in_order false h pipe c answer message hosts = refl

module _ (v : NodeView) (h : ℕ) (m : Message) where
  decided_in_order : (d : Decision) → InOrder (decides v h m d)
  decided_in_order (Answer answer) = refl
  decided_in_order (Commit c answer tell notice) = committed_in_order (v.own.has_room c) h m.0 c answer.items notice.items (hosts_where (has tell))
  decided_in_order (Ask dest notice c answer) = refl

  near_in_order : HoldsInRows InOrder (controller_rows v h m)
  near_in_order = (
    λ _. refl,
    λ _. (
      λ _. refl,
      λ _. (
        λ _. refl,
        λ _. (
          λ _. refl,
          λ _. (
            λ _. refl,
            λ _. (
              λ _. refl,
              λ _. (
                λ _. refl,
                λ _. (
                  λ _. decided_in_order (commits (SetOpened h m.0 true) (others_opened v.own.tables h m.0 ∷ [])),
                  λ _. (
                    λ _. refl,
                    λ _. (
                      λ _. decided_in_order (commits (SetOpened h m.0 false) []),
                      λ _. (
                        λ _. refl,
                        λ _. (
                          λ _. decided_in_order (administration v.own.tables (v.links h) h (instruction_in m.1) (body_in m.1)),
                          λ _. (grind arith),
                        ),
                      ),
                    ),
                  ),
                ),
              ),
            ),
          ),
        ),
      ),
    ),
  )

module _ (own : OwnView) where
  -- so it is with what comes behind no message, whether a command was committed or not
  abbrev IsUnsent : List Deed → Type 0
  IsUnsent deeds = (begun : Bool) → commits_first begun false deeds ≡ true

  accepted_in_order : (c : Command) → InOrder (accepts own c)
  accepted_in_order c = committed_in_order (own.has_room c) own.node 1 c (answer_of response.Ok []) [] []

  learned_then : (deeds : List Deed) → IsUnsent deeds → (order value : List ℕ) → IsUnsent (learned own order value ++ deeds)
  learned_then deeds rest order value begun =
      cond_both (eqb (instruction_in order) 16) (created_by own value) _ P (λ _. grind arith)
      (λ _. grind arith)
    where
      P : List Deed → Type 0
      P xs = commits_first begun false (xs ++ deeds) ≡ true

      by_body : (body : List ℕ) → P (deleted_by own body)
      by_body body = grind arith

  init_last : (code : ℕ) (value : List ℕ) (o : Option Init) → IsUnsent (init_deeds own code value o)
  init_last code value o begun = grind arith

  heard_in_order : (code : ℕ) (value : List ℕ) (o : Option (List ℕ))
      → InOrder (Hears ∷ option_map_or (λ order. cond (eqb code 0) (learned own order value) []) o [] ++ init_deeds own code value own.init)
  heard_in_order code value None = init_last code value own.init false
  heard_in_order code value (Some order) =
      cond_both (eqb code 0) (learned own order value) [] (λ xs. commits_first false false (xs ++ init_deeds own code value own.init) ≡ true)
      (λ _. learned_then (init_deeds own code value own.init) (init_last code value own.init) order value false)
      (λ _. init_last code value own.init false)

  far_in_order : (e : EndView) (m : Message) → HoldsInRows InOrder (host_rows own e m)
  far_in_order e m = (
    λ _. refl,
    λ _. (
      λ _. by_option (pipe_named_in (body_in m.1)) (λ q. rw q refl) (λ row q. rw q (accepted_in_order (Create row))),
      λ _. (
        λ _. refl,
        λ _. (
          λ _. refl,
          λ _. (
            λ _. accepted_in_order (Delete (param_in (body_in m.1))),
            λ _. (
              λ _. refl,
              λ _. (
                λ _. accepted_in_order (Clear (param_in (body_in m.1))),
                λ _. (
                  λ _. refl,
                  λ _. (
                    λ _. refl,
                    λ _. (
                      λ _. (by_option (link_served e.errors (instruction_in m.1) (body_in m.1)).1 (λ q. rw q refl) (λ errors q. rw q refl)),
                      λ _. (
                        λ _. refl,
                        λ _. (
                          λ _. refl,
                          λ _. (λ _. heard_in_order (instruction_in m.1) (body_in m.1) own.command, λ _. refl),
                        ),
                      ),
                    ),
                  ),
                ),
              ),
            ),
          ),
        ),
      ),
    ),
  )

pub all_in_order : (v : NodeView) (h : ℕ) (m : Message) → InOrder (deeds_for v h m)
all_in_order v h m = by_test (eqb v.own.node 0)
    (λ near. near_holds InOrder v h m near (near_in_order v h m))
    (λ far. far_holds InOrder v h m far refl (λ e. far_in_order v.own e m))

-- ## The messages that are read to have had no turn are those that came behind the ones that had theirs

-- what was noted since a node booted, with one entry more
abbrev with_entry : ℕ → List Entry → Entry → List Entry
with_entry n since (entry.Booted node k) = if node == n then [] else since ++ entry.Booted node k ∷ []
with_entry n since x = since ++ x ∷ []

since_with : (n : ℕ) (t since : List Entry) (x : Entry) → since_boot n since (t ++ x ∷ []) ≡ with_entry n (since_boot n since t) x
since_with n [] since (entry.Booted node k) = refl
since_with n [] since x = refl
since_with n (entry.Booted node k ∷ t) since x = go (node == n) (λ before. since_with n t before x)
  where
    go : (b : Bool) → ((before : List Entry) → since_boot n before (t ++ x ∷ []) ≡ with_entry n (since_boot n before t) x)
        → (if b then since_boot n [] (t ++ x ∷ []) else since_boot n (since ++ entry.Booted node k ∷ []) (t ++ x ∷ []))
        ≡ with_entry n (if b then since_boot n [] t else since_boot n (since ++ entry.Booted node k ∷ []) t) x
    go b later = grind arith
since_with n (y ∷ t) since x = since_with n t (since ++ y ∷ []) x

module _ (e : End) where
  abbrev gots : List Entry → List Message
  gots t = filter_map (got_entry e) (since_boot (node_of e) [] t)

  abbrev turns : List Entry → List Message
  turns t = filter_map (turn_entry_at e) (since_boot (node_of e) [] t)

  -- the entry stands behind the others: it is no boot
  abbrev IsMore : List Entry → Entry → Type 0
  IsMore t x = with_entry (node_of e) (since_boot (node_of e) [] t) x ≡ since_boot (node_of e) [] t ++ x ∷ []

  -- an entry that is no boot adds what it tells itself
  adds : (f : Entry → Option Message) (t : List Entry) (x : Entry) → IsMore t x
      → filter_map f (since_boot (node_of e) [] (t ++ x ∷ [])) ≡ filter_map f (since_boot (node_of e) [] t) ++ filter_map f (x ∷ [])
  adds f t x plain = ap (filter_map f) (since_with (node_of e) t [] x ∙ plain) ∙ filter_map-append f (since_boot (node_of e) [] t) (x ∷ [])

  -- an entry that tells nothing of the end leaves what is read
  same : (t : List Entry) (x : Entry) (q : List Message) → IsMore t x
      → filter_map (got_entry e) (x ∷ []) ≡ [] → filter_map (turn_entry_at e) (x ∷ []) ≡ []
      → gots t ≡ turns t ++ q → gots (t ++ x ∷ []) ≡ turns (t ++ x ∷ []) ++ q
  same t x q plain none nothing left =
      adds (got_entry e) t x plain
      ∙ (ap (λ l. gots t ++ l) none ∙ (append-nil (gots t) ∙ (left
      ∙ sym (ap (λ l. l ++ q) (adds (turn_entry_at e) t x plain ∙ (ap (λ l. turns t ++ l) nothing ∙ append-nil (turns t)))))))

  -- a message that came waits behind the others
  came : (t : List Entry) (x : Entry) (q : List Message) (m : Message)
      → IsMore t x → filter_map (got_entry e) (x ∷ []) ≡ m ∷ []
      → filter_map (turn_entry_at e) (x ∷ []) ≡ [] → gots t ≡ turns t ++ q → gots (t ++ x ∷ []) ≡ turns (t ++ x ∷ []) ++ (q ++ m ∷ [])
  came t x q m plain one nothing left =
      adds (got_entry e) t x plain
      ∙ (ap (λ l. gots t ++ l) one ∙ (ap (λ l. l ++ m ∷ []) left ∙ (append_assoc (turns t) q (m ∷ [])
      ∙ sym (ap (λ l. l ++ (q ++ m ∷ [])) (adds (turn_entry_at e) t x plain ∙ (ap (λ l. turns t ++ l) nothing ∙ append-nil (turns t)))))))

  -- one that has its turn is the first of them
  is_first : (t : List Entry) (x : Entry) (q rest : List Message) (m : Message)
      → IsMore t x → filter_map (got_entry e) (x ∷ []) ≡ []
      → filter_map (turn_entry_at e) (x ∷ []) ≡ m ∷ [] → gots t ≡ turns t ++ q
      → turns (t ++ x ∷ []) ++ rest ≡ gots (t ++ x ∷ []) → q ≡ m ∷ rest
  is_first t x q rest m plain none one left front =
      append_cancel_left (turns t) q (m ∷ rest)
      (sym left ∙ (sym (append-nil (gots t)) ∙ (ap (λ l. gots t ++ l) (sym none) ∙ (sym (adds (got_entry e) t x plain)
      ∙ (sym front ∙ (ap (λ l. l ++ rest) (adds (turn_entry_at e) t x plain ∙ ap (λ l. turns t ++ l) one)
      ∙ append_assoc (turns t) (m ∷ []) rest))))))

  abbrev Over : List Entry → Entry → List Message → Type 0
  Over t x q = gots (t ++ x ∷ []) ≡ turns (t ++ x ∷ []) ++ q

  over_one : (t : List Entry) (x : Entry) → AreLeft e t (unhandled_in t e) → IsFrontOf (turns (t ++ x ∷ [])) (gots (t ++ x ∷ []))
      → Over t x (unhandled_after e (unhandled_in t e) x)
  over_one t (entry.Got f n pid message) left front = by_test (same_end f e)
      (λ z. rw z (came t (entry.Got f n pid message) (unhandled_in t e) (pid, message) refl (rw z refl) refl left))
      (λ z. rw z (same t (entry.Got f n pid message) (unhandled_in t e) refl (rw z refl) refl left))
  over_one t (entry.Turn f pid message) left front = by_test (same_end f e)
      (λ z. rw z (let first : unhandled_in t e ≡ (pid, message) ∷ front.0 =
      is_first t (entry.Turn f pid message) (unhandled_in t e) front.0 (pid, message) refl refl (rw z refl) left front.1 in
      sym front.1 ∙ ap (λ l. turns (t ++ entry.Turn f pid message ∷ []) ++ l) (sym (ap (drop 1) first))))
      (λ z. rw z (same t (entry.Turn f pid message) (unhandled_in t e) refl refl (rw z refl) left))
  over_one t (entry.Booted node k) left front = by_test (node == node_of e)
      (λ z. rw z (let none : since_boot (node_of e) [] (t ++ entry.Booted node k ∷ []) ≡ [] = since_with (node_of e) t [] (entry.Booted node k) ∙ rw z refl in
      ap (filter_map (got_entry e)) none ∙ sym (ap (λ l. filter_map (turn_entry_at e) l ++ []) none)))
      (λ z. rw z (same t (entry.Booted node k) (unhandled_in t e) (rw z refl) refl refl left))
  over_one t x left front = same t x (unhandled_in t e) refl refl refl left

  reads_on : (t front more back : List Entry) → AreInTurn t → t ≡ front ++ (more ++ back) → AreLeft e front (unhandled_in front e)
      → AreLeft e (front ++ more) (unhandled_in (front ++ more) e)
  reads_on t front [] back in_turn at left = subst (λ l. AreLeft e l (unhandled_in l e)) (sym (append-nil front)) left
  reads_on t front (x ∷ more) back in_turn at left =
      let here : t ≡ (front ++ x ∷ []) ++ (more ++ back) = at ∙ sym (append_assoc front (x ∷ []) (more ++ back)) in
      subst (λ l. AreLeft e l (unhandled_in l e)) (append_assoc front (x ∷ []) more)
      (reads_on t (front ++ x ∷ []) more back in_turn here
      (subst (Over front x) (sym (fold-append (unhandled_after e) [] front (x ∷ [])))
      (over_one front x left (in_turn (front ++ x ∷ []) (more ++ back) e here))))

  -- at each moment
  pub all_read : (t front back : List Entry) → AreInTurn t → t ≡ front ++ back → AreLeft e front (unhandled_in front e)
  all_read t front back in_turn at = reads_on t [] front back in_turn at refl

  -- a message that has its turn is the first of them
  pub first_read : (t front back : List Entry) (pid : ℕ) (message : List ℕ) → AreInTurn t → t ≡ front ++ (entry.Turn e pid message ∷ back)
      → oldest (unhandled_in front e) ≡ Some (pid, message)
  first_read t front back pid message in_turn at =
      let rest : IsFrontOf (turns (front ++ entry.Turn e pid message ∷ [])) (gots (front ++ entry.Turn e pid message ∷ [])) =
      in_turn (front ++ entry.Turn e pid message ∷ []) back e (at ∙ sym (append_assoc front (entry.Turn e pid message ∷ []) back)) in
      ap oldest (is_first front (entry.Turn e pid message) (unhandled_in front e) rest.0 (pid, message) refl refl
      (rw (same_end_itself e) refl) (all_read t front (entry.Turn e pid message ∷ back) in_turn at) rest.1)

  -- what is left is what is read
  pub left_is : (t : List Entry) (messages : List Message) → AreInTurn t → AreLeft e t messages → unhandled_in t e ≡ messages
  left_is t messages in_turn left =
      append_cancel_left (turns t) (unhandled_in t e) messages (sym (all_read t t [] in_turn (sym (append-nil t))) ∙ left)
