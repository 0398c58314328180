-- What is known of the ends of a node lasts over all that comes and over its turns, and is what is read of them.
use Rattle.node_laws.proofs.Words.{ArePortsRead, AreSendable, AreSendableTurns, AsksReset, Before, Bool, Comes, Controller, Deed, Desk, End, Entry, FramesFor}
use Rattle.node_laws.proofs.Words.{Good, HoldsInStep, Host, IsLine, IsLinkTold, IsPortRead, IsRead, IsReadOff, IsSendable, LastsOverTurns, Link, LinkEnd}
use Rattle.node_laws.proofs.Words.{LinkInput, List, Message, NextFrame, NoInput, NodeInput, None, Noted, NumberedEnd, OnWire, Option, Port, Reached, Reset}
use Rattle.node_laws.proofs.Words.{Some, Sounds, Standing, Start, Starts, Stop, Stops, Take, Tick, Took, Turn, Work, Write, [], acked-all, after_input}
use Rattle.node_laws.proofs.Words.{after_turn, all_append, all_done, ap, append_assoc, arith, arrival, before_here, before_there, by_option, changed_if}
use Rattle.node_laws.proofs.Words.{comes_to_pass, core_of, deeds_of, drop, end_of, ended_by, entries, entries_for, exchanged, false, fold-append, from_start}
use Rattle.node_laws.proofs.Words.{got-all, handles, holds_back, if◌then◌else◌, input_of, is_some, is_up, law_noted, lets_go, loses_power, map, max}
use Rattle.node_laws.proofs.Words.{near_end_in, new_line, new_standing, node_of, noted_of, noting, number_now, number_of, of_link, option_map_or, own_session}
use Rattle.node_laws.proofs.Words.{port_at, reached, read_here, read_there, refl, report, sent-all, session_now, spare, standing, standing_by_law, stands_noted}
use Rattle.node_laws.proofs.Words.{subst, sym, talk_of, told, told_of, took_with, true, true≢false, turn_at, turn_entries, turned, turned_same}
use Rattle.node_laws.proofs.Words.{unacknowledged_in, whole_acked, with_desk, ℕ, ◌++◌, ◌==◌, ◌∙◌, ◌∷◌, ◌≡◌}
use Rattle.link_laws.proofs.entries.Books.{Book, Input, Silent, Told, book_of, past_after, read, told_input, told_silent, with_side}
use Rattle.link_laws.proofs.entries.Hearing.{Passes, controller_heard, heard, heard-append, heard_told, host_heard, passes_turns, same_session, shifted}
use Rattle.link_laws.proofs.entries.Noting.{Frame, Frames}
use Rattle.link_laws.proofs.entries.Stepping.{sound_turns, told_turns}
use Rattle.link_laws.proofs.machine.Reports.{Reports, reset_so, start_so, stop_so, take_so, tick_so}
use Rattle.link_laws.proofs.machine.Runs.{Sound, sound_input}
use Rattle.link_laws.specs.entries.Entries.{End as Side}
use Rattle.link_laws.specs.machine.Machine.{began_by}
use Rattle.node_laws.proofs.links.Works.{AreFine, IsFineWork, all_done_fine, deeds_fine, fine_at, handles_fine, holds_fine, lets_fine}
use Rattle.node_laws.proofs.notices.Steps.{spare_is}
use Rattle.node_laws.proofs.order.Sessions.{acked_alike, all_law, all_read, got_alike, node_on, part, sent_alike}
use Rattle.node_laws.proofs.passes.Replying.{HasFirst, has_first}
use Rattle.node_laws.proofs.passes.Passing.{comes_so, holds_notes, lets_notes}
use Rattle.node_laws.proofs.rooms.Holding.{end_is, held_is, told_sounds}
use Rattle.node_laws.proofs.steps.StepWalks.{changed_host}
use Rattle.node_laws.proofs.telling.Accounts.{Account, AreMute, AreSilent, AreUncut, IsUncut, all_last, any, beside, deeds_mute, desk, handling, holds, lets}
use Rattle.node_laws.proofs.telling.Accounts.{note, of-append, plainly, turns}
use Rattle.node_laws.proofs.telling.Steps.{IsStep, after_coming, none_map, notes-append, told_coming}
use Rattle.node_laws.proofs.telling.Shapes.{AreClear, clear-append, clear_stands, clear_turns}
use Rattle.trace_model.specs.declared.entry.Entry.TheVariants as entry

-- ## What is noted of an end says which session it has and what it has of each, also behind what comes to it and what its node does to it

-- these notes say what an end has of its sessions, and which one it has now
pub record Says (t : List Noted) (who : Side) (k : NumberedEnd) : Type 0 where
  pub books : Told t who k
  pub session : heard who None t ≡ number_now k
  pub sound : Sound k.side

-- more notes say nothing of it
pub says_silent : (t u : List Noted) (who : Side) (k : NumberedEnd) → Silent u → Passes who u → Says t who k → Says (t ++ u) who k
says_silent t u who k silent passes a =
    record {
      books = told_silent t u who k silent a.books;
      session = heard-append who None t u ∙ (ap (λ z. heard who z u) a.session ∙ passes (number_now k));
      sound = a.sound;
    }

-- its node has turns there
says_turns : (t : List Noted) (who : Side) (k : NumberedEnd) (ts : List Turn) → AreSendableTurns ts → Says t who k
    → Says (t ++ turn_entries who (number_of k) k.side ts) who (with_side k (turned k.side ts))
says_turns t who k ts s a =
    let us : List Noted = turn_entries who (number_of k) k.side ts in
    let v : NumberedEnd = with_side k (turned k.side ts) in
    record {
      books = told_turns ts t who k s a.sound a.books;
      session =
          heard-append who None t us
          ∙ (ap (λ z. heard who z us) a.session
          ∙ (passes_turns who who (number_of k) k.side ts (number_now k) ∙ same_session k v (sym (turned_same ts k.side)) (λ _. refl)));
      sound = sound_turns ts k.side s a.sound;
    }

-- an input makes h of it
says_input : (t : List Noted) (who : Side) (h k : NumberedEnd) (i : LinkInput)
    → Input h k (is_some (ended_by h.side i)) (began_by h.side i) (report h.side i) → Sound k.side → Says t who h
    → Says (t ++ told who (number_of k) (report h.side i) (whole_acked k.side)) who k
says_input t who h k i input sound a =
    let us : List Noted = told who (number_of k) (report h.side i) (whole_acked k.side) in
    record {
      books = told_input t who h k (is_some (ended_by h.side i)) (began_by h.side i) (report h.side i) input a.sound.is a.books;
      session =
          heard-append who None t us
          ∙ (ap (λ z. heard who z us) a.session
          ∙ (heard_told who (number_of k) (report h.side i) (whole_acked k.side) (number_now h)
          ∙ shifted h k (is_some (ended_by h.side i)) (began_by h.side i) input.becomes.shift input.same));
      sound = sound;
    }

-- an end as it has heard of a number and had an input, which was h before: the session that ended is kept
abbrev has_had : NumberedEnd → NumberedEnd → LinkInput → NumberedEnd
has_had h near_end i = record near_end { side = after_input h.side i; past = past_after (is_some (ended_by h.side i)) h }

-- an input by which no session begins
says_plain : (t : List Noted) (who : Side) (h : NumberedEnd) (i : LinkInput) → Reports h.side i → began_by h.side i ≡ false
    → Sound (after_input h.side i) → Says t who h → Says (t ++ told_of who h i) who (has_had h h i)
says_plain t who h i so none sound a =
    says_input t who h (has_had h h i) i
    (record { becomes = so; acked = refl; past = refl; same = λ up q. refl; fresh = λ q. absurd (true≢false (sym q ∙ none)) }) sound a

-- a frame
says_frame : (t : List Noted) (who : Side) (l : Link) (x : OnWire) → Frame l x [] → Says t who l.controller
    → (let near_end : NumberedEnd = record l.controller { took = took_with l.controller.took x } in
    Says ((t ++ Took who x.frame ∷ []) ++ told_of who near_end (Take x.frame)) who (has_had l.controller near_end (Take x.frame)))
says_frame t who l x fr a =
    let i : LinkInput = Take x.frame in
    says_input (t ++ Took who x.frame ∷ []) who l.controller (has_had l.controller (record l.controller { took = took_with l.controller.took x }) i) i
    (record {
      becomes = take_so l.controller.side x.frame a.sound;
      acked = refl;
      past = refl;
      same = λ up q. ap (max l.controller.emitted) (fr.same up q);
      fresh = fr.fresh;
    })
    (sound_input l.controller.side i tt a.sound)
    (says_silent t (Took who x.frame ∷ []) who l.controller (λ y m. refl) (λ s. refl) a)

-- ## What is read of an end off entries that tell of its link what these notes do

-- these entries tell of the link with this host what these notes do, and how it stands
pub record AreNoted (h : ℕ) (t : List Entry) (notes : List Noted) : Type 0 where
  pub told : of_link h t ≡ of_link h (entries_for h notes)
  pub stands : standing h new_standing t ≡ standing_by_law h new_standing notes

-- more entries
pub noted_then : (h : ℕ) (t u : List Entry) (notes us : List Noted) → of_link h u ≡ of_link h (entries_for h us)
    → ((x : Standing) → standing h x u ≡ standing_by_law h x us) → AreNoted h t notes → AreNoted h (t ++ u) (notes ++ us)
noted_then h t u notes us told stands a =
    record {
      told =
          of-append h t u
          ∙ (ap (λ z. z ++ of_link h u) a.told
          ∙ (ap (λ z. of_link h (entries_for h notes) ++ z) told ∙ sym (notes-append h notes us)));
      stands =
          fold-append (stands_noted h) new_standing t u
          ∙ (ap (λ z. standing h z u) a.stands
          ∙ (stands (standing_by_law h new_standing notes) ∙ sym (fold-append (law_noted h) new_standing notes us)));
    }

-- in which no power is cut
pub noted_more : (h : ℕ) (t u : List Entry) (notes us : List Noted) → AreUncut u → AreClear us → of_link h u ≡ of_link h (entries_for h us)
    → AreNoted h t notes → AreNoted h (t ++ u) (notes ++ us)
noted_more h t u notes us uncut clear told a = noted_then h t u notes us told (clear_stands h u us uncut clear told) a

module _ (h : ℕ) (host : (h == 0) ≡ false) (t : List Entry) (notes : List Noted) (a : AreNoted h t notes) where
  -- the session of an end
  session_is : (who : Side) (k : NumberedEnd) → Says notes who k → session_now t (end_of h who) (node_on h who) ≡ own_session k
  session_is Controller k s =
      sym (all_read h Controller host t new_standing)
      ∙ (ap (part Controller) a.stands ∙ (all_law h Controller host notes new_standing ∙ s.session))
  session_is Host k s =
      sym (all_read h Host host t new_standing)
      ∙ (ap (part Host) a.stands ∙ (all_law h Host host notes new_standing ∙ s.session))

  told_at : (who : Side) → of_link (end_of h who).link t ≡ of_link (end_of h who).link (entries_for h notes)
  told_at who = grind arith

  -- what it has of each
  reads_are : (who : Side) (k : NumberedEnd) → Says notes who k → (n : ℕ) → IsReadOff t (end_of h who) n (talk_of k n)
  reads_are who k s n =
      record {
        sent = sent_alike t (entries_for h notes) (end_of h who) n (told_at who) ∙ (sent-all h notes who n ∙ ap (λ (b : Book). b.sent) (s.books n));
        got = got_alike t (entries_for h notes) (end_of h who) n (told_at who) ∙ (got-all h notes who n ∙ ap (λ (b : Book). b.got) (s.books n));
        acked = acked_alike t (entries_for h notes) (end_of h who) n (told_at who) ∙ (acked-all h notes who n ∙ ap (λ (b : Book). b.acked) (s.books n));
      }

-- ### A link that is told

module _ (h : ℕ) (l : Link) (t : List Entry) (a : IsLinkTold h l t) where
  abbrev pub its_notes : List Noted
  its_notes = entries new_line a.events

  pub are_noted : AreNoted h t its_notes
  are_noted = record { told = a.told; stands = a.stands }

  good : Good l
  good = subst Good a.run.is (from_start new_line IsLine a.events a.run.allowed).good

  was_reached : Reached (core_of l)
  was_reached = let P : Link → Type 0 = λ k. Reached (core_of k) in subst P a.run.is (reached new_line IsLine a.events a.run.allowed)

  sounds : Sounds l
  sounds = told_sounds h l t a

  pub before_near : Before l
  before_near = before_here l good was_reached sounds

  pub near_says : Says its_notes Controller l.controller
  near_says = record {
    books = λ n.
        let r : IsRead its_notes Controller n _ = read_here new_line IsLine a.events a.run.allowed n in
        subst (λ (k : Link). read its_notes Controller n ≡ book_of (talk_of k.controller n)) a.run.is (rw (r.sent, r.got, r.acked) refl);
    session = controller_heard new_line IsLine a.events a.run.allowed ∙ ap (λ (k : Link). own_session k.controller) a.run.is;
    sound = sounds.controller;
  }

  pub before_far : Before (exchanged l)
  before_far = before_there l good was_reached sounds

  pub far_says : Says its_notes Host l.host
  far_says = record {
    books = λ n.
        let r : IsRead its_notes Host n _ = read_there new_line IsLine a.events a.run.allowed n in
        subst (λ (k : Link). read its_notes Host n ≡ book_of (talk_of k.host n)) a.run.is (rw (r.sent, r.got, r.acked) refl);
    session = host_heard new_line IsLine a.events a.run.allowed ∙ ap (λ (k : Link). own_session k.host) a.run.is;
    sound = sounds.host;
  }

-- ## What is known of each end of a node in a step lasts over all that the node does in it

-- ### One end

-- What was noted before the step and as it began says what the end was then, and what was noted since is of the turns of its node.
pub record Carries (t : List Entry) (h : ℕ) (who : Side) (w : Work) : Type 0 where
  pub number : (h == 0) ≡ false
  pub before : List Noted
  pub came : List Noted
  pub end : NumberedEnd
  pub late : Bool
  pub noted : AreNoted h t before
  pub clear : AreClear came
  pub says : Says (before ++ came) who end
  pub account : Account h who (number_of end) end.side (of_link h (entries_for h came)) late w

module _ (t : List Entry) (h : ℕ) (who : Side) (w : Work) (a : Carries t h who w) where
  -- as much is known of it behind more
  carries_on : (v : Work)
      → (Account h who (number_of a.end) a.end.side (of_link h (entries_for h a.came)) a.late w
      → Account h who (number_of a.end) a.end.side (of_link h (entries_for h a.came)) a.late v)
      → Carries t h who v
  carries_on v more = grind arith

  -- the end as it is now
  abbrev end_now : NumberedEnd
  end_now = with_side a.end (turned a.end.side a.account.port.turns)

  abbrev since : List Noted
  since = a.came ++ turn_entries who (number_of a.end) a.end.side a.account.port.turns

  abbrev all_noted : List Noted
  all_noted = a.before ++ since

  -- what all entries so far say of it
  noted_now : AreUncut w.entries → AreNoted h (t ++ w.entries) all_noted
  noted_now uncut =
      let us : List Noted = turn_entries who (number_of a.end) a.end.side a.account.port.turns in
      noted_more h t w.entries a.before since uncut
      (clear-append a.came us a.clear (clear_turns who (number_of a.end) a.end.side a.account.port.turns))
      (a.account.told ∙ sym (notes-append h a.came us)) a.noted

  says_now : AreSendableTurns a.account.port.turns → Says all_noted who end_now
  says_now fine =
      let us : List Noted = turn_entries who (number_of a.end) a.end.side a.account.port.turns in
      subst (λ z. Says z who end_now) (append_assoc a.before a.came us) (says_turns (a.before ++ a.came) who a.end a.account.port.turns fine a.says)

-- ### All ends

-- So it is with each end of a node that has noted no loss of its power.
pub record AllCarry (t : List Entry) (who : Side) (w : Work) : Type 0 where
  pub uncut : w.cut ≡ false → AreUncut w.entries
  pub each : (h : ℕ) (p : Port) → port_at w.ports h ≡ Some p → Carries t h who w

-- an end that is changed was there before
record WasPort (ports : List Port) (h : ℕ) : Type 0 where
  port : Port
  here : port_at ports h ≡ Some port

was_port : (f : Port → Port) → ((p : Port) → (f p).desk.host ≡ p.desk.host) → (ports : List Port) (h : ℕ) (p : Port) → port_at (map f ports) h ≡ Some p
    → WasPort ports h
was_port f keeps ports h p q = by_option (port_at ports h)
    (λ e. let z : None ≡ Some p = sym (none_map f keeps ports h e) ∙ q in absurd (cc z))
    (λ x e. record { port = x; here = e })

module _ (t : List Entry) (who : Side) where
  abbrev Of : Work → Type 0
  Of w = AllCarry t who w

  carry_note : (es : List Entry) (w : Work) → AreSilent es → AreUncut es → Of w → Of (noting es w)
  carry_note es w silent uncut a =
      record {
        uncut = λ q. all_append IsUncut w.entries es (a.uncut q) uncut;
        each = λ h p q.
            let c : Carries t h who w = a.each h p q in
            carries_on t h who w c (noting es w)
            (note h who (number_of c.end) c.end.side (of_link h (entries_for h c.came)) c.late es w silent);
      }

  carry_desk : (k : ℕ) (f : Desk → Desk) (w : Work) → ((d : Desk) → (f d).host ≡ d.host) → Of w → Of (with_desk k f w)
  carry_desk k f w keeps a =
      let g : Port → Port = λ p. record p { desk = f p.desk } in
      record {
        uncut = a.uncut;
        each = λ h p q.
            let o : WasPort w.ports h =
            was_port (λ x. changed_if (x.desk.host == k) g x) (λ x. changed_host (x.desk.host == k) g x (λ y. keeps y.desk)) w.ports h p q in
            let c : Carries t h who w = a.each h o.port o.here in
            carries_on t h who w c (with_desk k f w)
            (desk h who (number_of c.end) c.end.side (of_link h (entries_for h c.came)) c.late k f w keeps);
      }

  carry_turns : (k : ℕ) (x : Turn) (w : Work) → Of w → Of (turn_at k x w)
  carry_turns k x w a =
      record {
        uncut = λ q. all_append IsUncut w.entries (option_map_or (noted_of w.core x) (port_at w.ports k) []) (a.uncut q)
            (grind arith);
        each = λ h p q.
            let o : WasPort w.ports h =
            was_port (λ y. changed_if (y.desk.host == k) (after_turn x) y) (λ y. changed_host (y.desk.host == k) (after_turn x) y (λ z. refl)) w.ports h p q in
            let c : Carries t h who w = a.each h o.port o.here in
            carries_on t h who w c (turn_at k x w)
            (turns h who (number_of c.end) c.end.side (of_link h (entries_for h c.came)) c.late k x w);
      }

  carry_beside : (w v : Work) → v.cut ≡ w.cut → v.core.node ≡ w.core.node → v.ports ≡ w.ports → v.entries ≡ w.entries → Of w → Of v
  carry_beside w v cut node ports entries a = grind arith

  carry_loses : (writes : List Write) (w : Work) → Of w → Of (loses_power writes w)
  carry_loses writes w a =
      let v : Work = record w { writes = w.writes ++ writes; plan = None; cut = true } in
      record {
        uncut = λ q. absurd (true≢false q);
        each = λ h p q.
            let c : Carries t h who w = a.each h p q in
            let n : ℕ = number_of c.end in
            let b : List Entry = of_link h (entries_for h c.came) in
            carries_on t h who w c (loses_power writes w)
            (λ x. note h who n c.end.side b c.late (entry.Cut w.core.node ∷ []) v ((λ k. refl), tt) (beside h who n c.end.side b c.late w v refl refl refl x));
      }

-- ## What comes to an end in a step of its node is noted so that the notes say what the end is then

-- the end behind what came, and what the notes say of it with those of that
pub record Came (t : List Noted) (who : Side) (l : Link) (comes : Comes) (o : Option LinkInput) : Type 0 where
  pub end : NumberedEnd
  pub side : end.side ≡ after_coming (near_end_in l comes).side o
  pub number : number_of end ≡ number_of (near_end_in l comes)
  pub says : Says (t ++ (arrival who l comes ++ told_coming who (near_end_in l comes) o)) who end

next_came : (t : List Noted) (who : Side) (l : Link) (i : LinkInput) (w : List OnWire) → input_of (record l { to_controller = w }) NextFrame ≡ Some i
    → Frames (record l { to_controller = w }) [] → Says t who l.controller → Came t who (record l { to_controller = w }) NextFrame (Some i)
next_came t who l i [] q frames a = absurd (cc q)
next_came t who l i (x ∷ xs) q frames a =
    let k : Link = record l { to_controller = x ∷ xs } in
    let is : Take x.frame ≡ i = cc in
    let near_end : NumberedEnd = record l.controller { took = took_with l.controller.took x } in
    let end : NumberedEnd = has_had l.controller near_end (Take x.frame) in
    let P : List Noted → Type 0 = λ z. Says z who end in
    subst (λ (j : LinkInput). Came t who k NextFrame (Some j)) is (record {
      end = end;
      side = refl;
      number = refl;
      says = subst P (append_assoc t (Took who x.frame ∷ []) (told_of who near_end (Take x.frame))) (says_frame t who k x (frames x xs refl) a);
    })

pub has_come_so : (t : List Noted) (who : Side) (l : Link) (comes : Comes) (o : Option LinkInput) → input_of l comes ≡ o → IsStep comes o
    → FramesFor comes l [] → Says t who l.controller → Came t who l comes o
has_come_so t who l NextFrame (Some i) q c frames a = next_came t who l i l.to_controller q frames a
has_come_so t who l NoInput None q c frames a =
    record { end = l.controller; side = refl; number = refl; says = says_silent t [] who l.controller (λ y n. refl) (λ s. refl) a }
has_come_so t who l NoInput (Some i) q c frames a = absurd (cc q)
has_come_so t who l (AsksReset window) (Some i) q c frames a =
    let j : LinkInput = Reset window in
    let is : j ≡ i = cc in
    subst (λ (z : LinkInput). Came t who l (AsksReset window) (Some z)) is (record {
      end = has_had l.controller l.controller j;
      side = refl;
      number = refl;
      says = says_plain t who l.controller j (reset_so l.controller.side window a.sound) refl (sound_input l.controller.side j tt a.sound) a;
    })
has_come_so t who l (Starts value) (Some i) q c frames a =
    let j : LinkInput = Start value in
    let is : j ≡ i = cc in
    subst (λ (z : LinkInput). Came t who l (Starts value) (Some z)) is (record {
      end = has_had l.controller l.controller j;
      side = refl;
      number = refl;
      says = says_plain t who l.controller j (start_so l.controller.side value a.sound) refl (sound_input l.controller.side j tt a.sound) a;
    })
has_come_so t who l _ None q c frames a = absurd c
has_come_so t who l Stops (Some i) q c frames a =
    let is : Stop ≡ i = cc in
    subst (λ (z : LinkInput). Came t who l Stops (Some z)) is (record {
      end = has_had l.controller l.controller Stop;
      side = refl;
      number = refl;
      says = says_plain t who l.controller Stop (stop_so l.controller.side a.sound) refl (sound_input l.controller.side Stop tt a.sound) a;
    })

-- a tick
pub has_ticked_so : (t : List Noted) (who : Side) (l : Link) → Says t who l.controller → Came t who l NoInput (Some Tick)
has_ticked_so t who l a =
    record {
      end = has_had l.controller l.controller Tick;
      side = refl;
      number = refl;
      says = says_plain t who l.controller Tick (tick_so l.controller.side a.sound) refl (sound_input l.controller.side Tick tt a.sound) a;
    }

-- ## What is read of an end in a step is what it has there

-- the session of an end with this number
abbrev session_at : LinkEnd → ℕ → Option ℕ
session_at e n = if is_up e.shdlc.phase then Some n else None

node_is : (h : ℕ) (who : Side) → node_of (end_of h who) ≡ node_on h who
node_is h who = grind arith

port_read : (t : List Entry) (h : ℕ) (who : Side) (w : Work) (a : Carries t h who w) → AreUncut w.entries
    → AreSendableTurns a.account.port.turns → IsPortRead (t ++ w.entries) (end_of h who) a.account.port
port_read t h who w a uncut fine =
    record {
      session =
          session ∙ ((grind arith) ∙ (ap (λ z. session_at z (number_of k)) (sym is) ∙ ap (session_at p.side) (sym a.account.session)));
      held = ap (unacknowledged_in u e) session ∙ (held_is u e k reads says.sound ∙ ap (λ (z : LinkEnd). drop (whole_acked z) z.sent) (sym is));
      spare = λ q. spare_is u e k (end_is u e k reads says.sound session (q ∙ ap (λ (z : LinkEnd). z.aside) is)) ∙ ap spare (sym is);
    }
  where
    u : List Entry
    u = t ++ w.entries

    e : End
    e = end_of h who

    p : Port
    p = a.account.port

    k : NumberedEnd
    k = end_now t h who w a

    notes : List Noted
    notes = all_noted t h who w a

    is : p.side ≡ k.side
    is = a.account.is

    says : Says notes who k
    says = says_now t h who w a fine

    session : session_now u e (node_of e) ≡ own_session k
    session = ap (session_now u e) (node_is h who) ∙ session_is h a.number u notes (noted_now t h who w a uncut) who k says

    reads : (n : ℕ) → IsReadOff u e n (talk_of k n)
    reads = reads_are h a.number u notes (noted_now t h who w a uncut) who k says

-- ## What is known of the ends of a node lasts over its turns

-- What is known of each end of a node in a step: what was noted of it, and that its node has sent there what may be sent.
pub record IsCarried (t : List Entry) (who : Side) (w : Work) : Type 0 where
  pub carry : AllCarry t who w
  pub fine : IsFineWork w

module _ (t : List Entry) (who : Side) where
  -- it lasts over deeds
  pub carried_deeds : (h : ℕ) (deeds : List Deed) (w : Work) → AreMute deeds → AreFine deeds → IsCarried t who w → IsCarried t who (all_done h deeds w)
  carried_deeds h deeds w mute fine a =
      record {
        carry = all_last (AllCarry t who) (carry_note t who) (carry_desk t who) (carry_turns t who) (carry_beside t who) (carry_loses t who) h deeds w mute
            a.carry;
        fine = all_done_fine h deeds w fine a.fine;
      }

  -- over a message that is handled
  carried_turn : (h : ℕ) (m : Message) (w : Work) → IsSendable m → IsCarried t who w → IsCarried t who (handles h m (deeds_of w.core w.ports h m) w)
  carried_turn h m w s a =
      let deeds : List Deed = deeds_of w.core w.ports h m in
      record {
        carry = handling (AllCarry t who) (carry_note t who) (carry_desk t who) (carry_turns t who) (carry_beside t who) (carry_loses t who) h m deeds w
            (deeds_mute w.core w.ports h m) a.carry;
        fine = handles_fine h m deeds w s (deeds_fine w.core w.ports h m a.fine s) a.fine;
      }

  -- which is the first that came at the end with this host
  pub handles_last : (h : ℕ) (m : Message) (w : Work) (p : Port) (later : List Message) → port_at w.ports h ≡ Some p → p.side.got ≡ m ∷ later
      → IsCarried t who w → IsCarried t who (handles h m (deeds_of w.core w.ports h m) w)
  handles_last h m w p later here got a = carried_turn h m w (subst AreSendable got (fine_at w.ports h p a.fine here).clean).0 a

  -- over one that is held
  pub holds_last : (h : ℕ) (short : ℕ × ℕ) (w : Work) → IsCarried t who w → IsCarried t who (holds_back h short w)
  holds_last h short w a =
      let Of : Work → Type 0 = AllCarry t who in
      record {
        carry = holds Of
            (plainly Of (carry_note t who) (carry_desk t who) (carry_turns t who) (carry_beside t who) (carry_loses t who)) (carry_desk t who)
            (any Of (carry_note t who) (carry_desk t who) (carry_turns t who) (carry_beside t who) (carry_loses t who)) (carry_beside t who)
            (carry_loses t who) h short w a.carry;
        fine = holds_fine h short w a.fine;
      }

  -- and where none is held any more
  pub lets_last : (h : ℕ) (w : Work) → IsCarried t who w → IsCarried t who (lets_go h w)
  lets_last h w a =
      let Of : Work → Type 0 = AllCarry t who in
      record {
        carry = lets Of
            (plainly Of (carry_note t who) (carry_desk t who) (carry_turns t who) (carry_beside t who) (carry_loses t who)) (carry_desk t who)
            (any Of (carry_note t who) (carry_desk t who) (carry_turns t who) (carry_beside t who) (carry_loses t who)) (carry_beside t who)
            (carry_loses t who) h w a.carry;
        fine = lets_fine h w a.fine;
      }

-- so its ends are read
pub ports_read : (t : List Entry) (who : Side) (w : Work) → w.cut ≡ false → IsCarried t who w → ArePortsRead who t w
ports_read t who w on a h p here =
    let c : Carries t h who w = a.carry.each h p here in
    let same : Some c.account.port ≡ Some p = sym c.account.here ∙ here in
    let is : c.account.port ≡ p = cc in
    let P : Port → Type 0 = λ z. IsPortRead (t ++ w.entries) (end_of h who) z in
    subst P is (port_read t h who w c (a.carry.uncut on) (fine_at w.ports h c.account.port a.fine c.account.here).turns)

-- ## What is read of the ends of a node is what they have at each turn of a step

module _ (who : Side) (t : List Entry) where
  -- the power is on, and what is known of the ends is carried
  abbrev OfOfTurning : Work → Type 0
  OfOfTurning w = (w.cut ≡ false) × IsCarried t who w

  carried_lasts : LastsOverTurns OfOfTurning
  carried_lasts = record {
    handled = λ w h m messages a on waiting room still.
        let first : HasFirst w.ports h m messages = has_first w.ports h m messages waiting in
        (still, handles_last t who h m w first.port messages first.here first.got a.1);
    held = λ w h m messages short a on waiting lacks. ((holds_notes h short w).power ∙ on, holds_last t who h short w a.1);
    let_go = λ w h a on waiting. ((lets_notes h w).power ∙ on, lets_last t who h w a.1);
  }

  pub step_read : (input : NodeInput) (w : Work) → IsCarried t who (comes_to_pass input w) → HoldsInStep (ArePortsRead who t) input w
  step_read input w a on v comes =
      let b : OfOfTurning v = comes_so OfOfTurning carried_lasts (comes_to_pass input w) (on, a) v comes in
      ports_read t who v b.0 b.1
