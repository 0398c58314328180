-- What the inputs of a link end do.
use Rattle.std.specs.Bool.{OnTrue, OnFalse}
use Rattle.link_end.proofs.Words.{Act, ActFrame, Bool, Control, End, EndStandsFor, EndState, ForgetsMessages, Halfway, IsShdlc, KeptEnd, LinkReport, LinkState}
use Rattle.link_end.proofs.Words.{Machine, PoolState, Role, ShdlcStandsFor, StandsBefore, act_told, activated, after_input, ap, arith, false, heard, heard_told}
use Rattle.link_end.proofs.Words.{if◌then◌else◌, in_phase, is_open, is_some, left_waiting, length, length-append, min, moved, nothing_told, report, report_told}
use Rattle.link_end.proofs.Words.{subst, sym, take_answer, tick_answer, ticked, true, waiting_in, with_out, ℕ, ◌+◌, ◌∙◌, ◌≡◌}
use Rattle.swp_base.specs.declared.control_frames.Control.TheVariants.{Clt, I, Rset, S, Ua}
use Rattle.shdlc_core.specs.declared.answers.Ticked.{Ticked}
use Rattle.shdlc_core.specs.Machine.{with_ready}
use Rattle.shdlc_core.proofs.Offering.{stands_ticked, ticked_alike, TicksAlike, stands_ready, ready_alike}
use Rattle.swp_act.specs.declared.ActEvent.TheVariants.{Take as ActTake, Tick as ActTick}
use Rattle.link_laws.specs.machine.Machine.LinkInput.{Take, Tick}
use Rattle.link_end.specs.Roles.{MayStart}
use Rattle.link_end.proofs.EndLemmas.{session_ended, carries}

pub passed : (pool : PoolState) (k : End) (p : ℕ) (m : Machine) → p ≡ min (k.passed_over + 1) 4294967295 → EndStandsFor k pool m
    → EndStandsFor (record k { passed_over = p }) pool (record m { passed_over = m.passed_over + 1 })
passed pool k p m is h =
    let was = h.halfway.passed_over in
    record {
      halfway = grind arith;
      full = h.full;
    }

-- another state of the SHDLC end in the same session
pub same_session : {pool : PoolState} {k : End} {s : KeptEnd} {m : Machine} {e : EndState} → Halfway k pool m → StandsBefore s (waiting_in pool k.outbox) e
    → e.session.out ≡ m.shdlc.session.out → e.session.acked ≡ m.shdlc.session.acked → e.session.acc ≡ m.shdlc.session.acc
    → Halfway (record k { shdlc = s }) pool (moved m false e)
same_session before link out acked acc = grind arith

-- the same where what waits had no room before
pub stays_full : {pool : PoolState} {k : End} {s : KeptEnd} {m : Machine} {e : EndState} → EndStandsFor k pool m
    → StandsBefore s (waiting_in pool k.outbox) e → e.session.out ≡ m.shdlc.session.out → e.session.acked ≡ m.shdlc.session.acked
    → e.session.acc ≡ m.shdlc.session.acc → EndStandsFor (record k { shdlc = s }) pool (moved m false e)
unfolding same_session
stays_full {pool} {k} {s} {m} {e} h link out acked acc =
    let waiting = waiting_in pool k.outbox in
    let was = h.halfway.link in
    let all : length e.session.out ≡ length link.offered + length waiting = ap length link.out ∙ length-append link.offered waiting in
    let all_before : length m.shdlc.session.out ≡ length was.offered + length waiting = ap length was.out ∙ length-append was.offered waiting in
    let same : length link.offered ≡ length was.offered = omega (arith, all, all_before, ap length out) in
    record {
      halfway = same_session h.halfway link out acked acc;
      full = let h0 = length was.offered in let h1 = length link.offered in grind arith;
    }

acc_in : (e : EndState) (old new answered : Bool)
    → (with_ready (record e { ready = old; session = record e.session { answered_rnr = answered } }) new).session.acc ≡ e.session.acc
acc_in e old new answered = grind arith

pub held : (pool : PoolState) (k : End) (s : KeptEnd) (m : Machine) (r : Bool)
    → ((e : EndState) → ShdlcStandsFor k.shdlc e → ShdlcStandsFor s (with_ready e r)) → EndStandsFor k pool m
    → EndStandsFor (record k { shdlc = s }) pool (record m { shdlc = with_ready m.shdlc r })
unfolding same_session
held pool k s m r readies h =
    let link = h.halfway.link in
    let a = ready_alike m.shdlc link.offered r in
    let w = stands_ready k.shdlc s (waiting_in pool k.outbox) m.shdlc r (record { stands = link; full = h.full })
    (readies (with_out m.shdlc link.offered) link.kept) in
    record { halfway = same_session h.halfway w.stands a.out a.acked (acc_in m.shdlc m.shdlc.ready r m.shdlc.session.answered_rnr); full = w.full }

-- ---- a tick

alike : (pool : PoolState) (k : End) (m : Machine) (h : EndStandsFor k pool m) → TicksAlike m.shdlc h.halfway.link.offered
alike pool k m h =
    let link = h.halfway.link in
    ticked_alike m.shdlc link.offered (waiting_in pool k.outbox) link.out h.full (omega arith)

-- the SHDLC end of a link end took a tick, and answered this
pub record HasTicked (k : End) (pool : PoolState) (m : Machine) (s : KeptEnd) (t : Ticked) : Type 0 where
  pub before : EndStandsFor k pool m
  pub stands : (e : EndState) → ShdlcStandsFor k.shdlc e → ShdlcStandsFor s (ticked e)
  pub answer : (e : EndState) → ShdlcStandsFor k.shdlc e → t ≡ tick_answer e

module _ {k : End} {pool : PoolState} {m : Machine} {s : KeptEnd} {t : Ticked} (h : HasTicked k pool m s t) where
  ticked_answer : t ≡ tick_answer m.shdlc
  ticked_answer = h.answer (with_out m.shdlc h.before.halfway.link.offered) h.before.halfway.link.kept ∙ (alike pool k m h.before).answer

  -- whether it ended the session
  ended_by_tick : {b : Bool} → is_some t.ended ≡ b → is_some (tick_answer m.shdlc).ended ≡ b
  ended_by_tick ended = sym (ap (λ (x : Ticked). is_some x.ended) ticked_answer) ∙ ended

  -- what the SHDLC end stands for then
  ticked_link : {b : Bool} → is_some t.ended ≡ b → StandsBefore s (left_waiting b (waiting_in pool k.outbox)) (ticked m.shdlc)
  ticked_link ended =
      let link = h.before.halfway.link in
      let waiting = waiting_in pool k.outbox in
      let P : Bool → Type 0 = λ b. StandsBefore s (left_waiting b waiting) (ticked m.shdlc) in
      subst P (ended_by_tick ended) (stands_ticked k.shdlc s waiting m.shdlc (record { stands = link; full = h.before.full })
      (h.stands (with_out m.shdlc link.offered) link.kept))

  tick_ends : {new : PoolState} {k1 : End} → is_some t.ended ≡ true → ForgetsMessages pool new (record k { shdlc = s }) k1
      → EndStandsFor k1 new (moved m (is_some (tick_answer m.shdlc).ended) (ticked m.shdlc))
  tick_ends {new} {k1} ended f =
      let a = alike pool k m h.before in
      let over = ended_by_tick ended in
      subst (λ b. EndStandsFor k1 new (moved m b (ticked m.shdlc))) (sym over) (session_ended (carries h.before.halfway) f (record {
        stands = ticked_link ended;
        out = a.out ∙ ap (λ b. left_waiting b m.shdlc.session.out) over;
        acked = a.acked ∙ ap (λ b. if b then 0 else m.shdlc.session.acked) over;
        acc = a.acc ∙ ap (λ b. left_waiting b m.shdlc.session.acc) over;
      }))

  tick_goes_on : is_some t.ended ≡ false → EndStandsFor (record k { shdlc = s }) pool (moved m (is_some (tick_answer m.shdlc).ended) (ticked m.shdlc))
  tick_goes_on going =
      let a = alike pool k m h.before in
      let over = ended_by_tick going in
      subst (λ b. EndStandsFor (record k { shdlc = s }) pool (moved m b (ticked m.shdlc))) (sym over)
      (stays_full h.before (ticked_link going)
      (a.out ∙ ap (λ b. left_waiting b m.shdlc.session.out) over)
      (a.acked ∙ ap (λ b. if b then 0 else m.shdlc.session.acked) over)
      (a.acc ∙ ap (λ b. left_waiting b m.shdlc.session.acc) over))

  pub tick_stands : {new : PoolState} {k1 : End} (b : Bool) → is_some t.ended ≡ b → OnTrue b (ForgetsMessages pool new (record k { shdlc = s }) k1)
      → OnFalse b ((k1 ≡ record k { shdlc = s }) × (new ≡ pool)) → EndStandsFor k1 new (moved m (is_some (tick_answer m.shdlc).ended) (ticked m.shdlc))
  tick_stands true ended f g = tick_ends ended f
  tick_stands {new} {k1} false ended f g =
      let P : End → Type 0 = λ x. EndStandsFor x pool (moved m (is_some (tick_answer m.shdlc).ended) (ticked m.shdlc)) in
      let Q : PoolState → Type 0 = λ p. EndStandsFor k1 p (moved m (is_some (tick_answer m.shdlc).ended) (ticked m.shdlc)) in
      subst Q (sym g.1) (subst P (sym g.0) (tick_goes_on ended))

  pub tick_told : {n : LinkReport} → n ≡ nothing_told
      → record n { ended = t.ended; gave_up = t.gave_up } ≡ record nothing_told { ended = (tick_answer m.shdlc).ended; gave_up = (tick_answer m.shdlc).gave_up }
  tick_told none =
      ap (λ (x : LinkReport). record x { ended = t.ended; gave_up = t.gave_up }) none
      ∙ ap (λ (x : Ticked). record nothing_told { ended = x.ended; gave_up = x.gave_up }) ticked_answer

-- ---- a frame of SHDLC at an end that is open or not

pub heard_after : (m : Machine) (c : Control) → IsShdlc c → is_open m.role ≡ true → after_input m (Take c) ≡ heard m c
heard_after m c f o = grind arith

pub heard_is_told : (m : Machine) (c : Control) → IsShdlc c → is_open m.role ≡ true → heard_told m c ≡ report_told (report m (Take c))
heard_is_told m (I ns nr info) f o = rw o
heard_is_told m (S kind nr) f o = rw o
heard_is_told m (Rset window caps) f o = rw o
heard_is_told m Ua f o = rw o
heard_is_told m (ActFrame act again) f o = absurd f
heard_is_told m Clt f o = absurd f

pub unheard_after : (m : Machine) (c : Control) → IsShdlc c → is_open m.role ≡ false → after_input m (Take c) ≡ m
unheard_after m c f o = grind arith

-- ---- activation

-- an event of activation starts nothing but by a start
pub may_take : (r : Role) (act : Act) (again : Bool) → MayStart r (ActTake act again)
may_take r act again = grind arith

pub may_tick : (r : Role) → MayStart r ActTick
may_tick r = grind arith

clt_begins : (p : LinkState) (e : EndState) → (take_answer (in_phase p e) Clt).began ≡ false
clt_begins p e = grind arith

pub act_is_told : (m : Machine) (act : Act) (again : Bool) → act_told m (ActTake act again) ≡ report_told (report m (Take (ActFrame act again)))
act_is_told m act again = grind arith

-- ---- a tick

pub tick_after : (m : Machine) (b : Bool) → is_open m.role ≡ b
    → after_input m Tick ≡ (if b then moved m (is_some (tick_answer m.shdlc).ended) (ticked m.shdlc) else activated m ActTick)
tick_after m b o = ap (λ x. if x then moved m (is_some (tick_answer m.shdlc).ended) (ticked m.shdlc) else activated m ActTick) o
