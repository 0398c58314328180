-- What comes to an end from outside: what is kept of the end stands for its state behind that.
use Rattle.node_ends.proofs.Words.{Control, End, EndLeavesOthers, EndStandsFor, Err, HoldsSeat, IsSoundDesk, LinkInput, LinkReport, List, LpduFault, Machine}
use Rattle.node_ends.proofs.Words.{Moves, None, Ok, OnOk, Option, PoolState, Port, Reset, ResetRefused, Result, Seat, SeatBecomes, SeatStandsFor, Some, []}
use Rattle.node_ends.proofs.Words.{acked_since, after_input, ap, arith, control_of, desk_shown, ends_by, got_by, has_come, is_some, lpdu_input, option_map}
use Rattle.node_ends.proofs.Words.{refl, report, report_told, reset_refusal, reset_refused, reset_told, subst, sym, true, without_got, ℕ, ◌∙◌, ◌≡◌}
use Rattle.node_ends.specs.declared.inputs.LinkInput.{LinkInput as ToEnd}
use Rattle.node_ends.specs.declared.inputs.LinkInput.TheVariants as comes
use Rattle.node_ends.specs.Inputs.{frame_said, refusal_at}
use Rattle.node_ends.proofs.Apart.{is_outside}
use Rattle.node_ends.proofs.Blocks.{outside_aside}
use Rattle.node_ends.proofs.Coming.{reset_ends, still_holds}
use Rattle.node_ends.proofs.Moving.{call_moves}
use Rattle.node_ends.proofs.Counting.{acked_so, outside_acked, reached_outside}

-- a call on an end that took an input
pub record Takes (old new : PoolState) (s t : Seat) (i : LinkInput) : Type 0 where
  pub outside : is_outside i ≡ true
  pub stands : (m : Machine) → HoldsSeat old s m → HoldsSeat new t (after_input m i)
  pub moves : Moves old new s.side t.side
  pub rest : t ≡ record s { side = t.side; waiting = t.waiting }

-- what comes to the end alone and brings no message
pub side_takes : {old new : PoolState} {s : Seat} (side : End) (i : LinkInput) → is_outside i ≡ true → ((m : Machine) → got_by m i ≡ [])
    → (m : Machine) × HoldsSeat old s m → EndLeavesOthers old new s.side side
    → ((m : Machine) → EndStandsFor s.side old m → EndStandsFor side new (after_input m i)) → Takes old new s (record s { side = side }) i
side_takes {old} {new} {s} side i outside none now leaves stands = record {
  outside = outside;
  stands = λ m h. still_holds old new s.side side s.waiting m i h (none m) outside leaves (stands (without_got m) h.stands);
  moves = call_moves old new s.side side (without_got now.0) now.1.stands leaves;
  rest = refl;
}

-- this is told of it
abbrev pub Tells : PoolState → Seat → LinkInput → LinkReport → Type 0
Tells old s i told = (p : Port) → SeatStandsFor old s p → told ≡ report_told (report p.side i)

-- then what was told is counted
pub takes : {old new : PoolState} {s t u : Seat} {i : LinkInput} {told kept : LinkReport} → Takes old new s t i → Tells old s i told → kept ≡ told
    → u ≡ record t { ended = is_some kept.ended; acked = acked_since t.acked kept } → SeatBecomes old new s u (λ p. has_come p (Some i))
takes {old} {new} {s} {t} {u} {i} {told} {kept} k tells same is =
    let P : Seat → Type 0 = λ x. SeatBecomes old new s x (λ p. has_come p (Some i)) in
    subst P (sym is) (subst (λ r. P (record t { ended = is_some r.ended; acked = acked_since t.acked r })) (sym same) (record {
      host = ap (λ (x : Seat). x.desk.host) k.rest;
      moves = k.moves;
      stands = λ p g. record {
        holds = k.stands p.side g.holds;
        desk = ap (λ (x : Seat). desk_shown x.desk) k.rest ∙ g.desk;
        late = ap (λ (x : Seat). x.late) k.rest ∙ g.late;
        ended = ap (λ (r : LinkReport). is_some r.ended) (tells p g);
        reached = reached_outside p.side i k.outside g.reached;
        acked = acked_so told (report p.side i) t.acked (ap (λ (x : Seat). x.acked) k.rest ∙ g.acked) (tells p g)
            (outside_acked p.side i k.outside g.reached);
        aside = ap (λ (x : Seat). x.aside) k.rest ∙ (g.aside ∙ sym (outside_aside p.side i k.outside));
        sound = subst IsSoundDesk (sym (ap (λ (x : Seat). x.desk) k.rest)) g.sound;
      };
    }))

-- a reset that is refused ends no session
pub refuses : {old new : PoolState} {s t : Seat} {window : Option ℕ} {why : ResetRefused} → Takes old new s t (Reset window)
    → ((m : Machine) → HoldsSeat old s m → Err why ≡ reset_told m window)
    → SeatBecomes old new s (record t { ended = ends_by (Err why) }) (λ p. has_come p (Some (Reset window)))
refuses {window = window} {why} k tells = record {
  host = ap (λ (x : Seat). x.desk.host) k.rest;
  moves = k.moves;
  stands = λ p g. record {
    holds = k.stands p.side g.holds;
    desk = ap (λ (x : Seat). desk_shown x.desk) k.rest ∙ g.desk;
    late = ap (λ (x : Seat). x.late) k.rest ∙ g.late;
    ended = ap ends_by (tells p.side g.holds) ∙ reset_ends p.side window;
    reached = reached_outside p.side (Reset window) k.outside g.reached;
    acked = grind arith;
    aside = ap (λ (x : Seat). x.aside) k.rest ∙ (g.aside ∙ sym (outside_aside p.side (Reset window) k.outside));
    sound = subst IsSoundDesk (sym (ap (λ (x : Seat). x.desk) k.rest)) g.sound;
  };
}

-- one that is done isn't refused
pub not_refused : (m : Machine) (window : Option ℕ) (r : LinkReport) → Ok r ≡ reset_told m window → option_map reset_refused (reset_refusal m) ≡ None
not_refused m window r is = grind arith

-- one that is refused is refused for this
pub why_refused : (m : Machine) (window : Option ℕ) (why : ResetRefused) → Err why ≡ reset_told m window
    → option_map reset_refused (reset_refusal m) ≡ Some why
why_refused m window why is = grind arith

-- nothing is refused where there is no end
pub none_refused : (what : ToEnd) → refusal_at what None ≡ None
none_refused what = grind arith

-- what follows where something was answered
pub where_ok : {X Y P Q : Type 0} (r : Result X Y) → (P → Q) → OnOk r P → OnOk r Q
where_ok r so p = grind arith

-- a call on an end that takes what comes there
pub frame_is : (read : Result Control LpduFault) (lpdu : List ℕ) → read ≡ control_of lpdu → lpdu_input lpdu ≡ frame_said read
frame_is read lpdu is = ap frame_said (sym is)
