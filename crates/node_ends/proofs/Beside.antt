-- What is kept of an end beside it is changed: it stands for the changed port, and the ends beside it stay.
use Rattle.node_ends.proofs.Words.{Bool, Desk, DeskOf, End, HoldsEnd, IsReached, IsSoundDesk, Machine, Option, PoolState, Port, Seat, SeatBecomes}
use Rattle.node_ends.proofs.Words.{SeatStandsFor, Unanswered, [], ap, arith, desk_shown, false, forgotten_at, kept_number, min, notice_shown}
use Rattle.node_ends.proofs.Words.{option_map, refl, row_noticed, subst, sym, whole_acked, with_older, without_notice, ℕ, ◌+◌, ◌||◌, ◌∙◌, ◌≡◌}
use Rattle.node_deeds.specs.Cores.{IsSoundRow}
use Rattle.node_ends.specs.Desks.{as_forgotten, grown_older, kept_notice}
use Rattle.node_ends.proofs.Moving.{stays_beside}

pub record Sets (pool : PoolState) (s t : Seat) (f : Port → Port) : Type 0 where
  pub side : t.side ≡ s.side
  pub waiting : t.waiting ≡ s.waiting
  pub acked : t.acked ≡ s.acked
  pub aside : t.aside ≡ s.aside
  pub host : t.desk.host ≡ s.desk.host
  pub same_side : (q : Port) → (f q).side ≡ q.side
  pub desk : (q : Port) → SeatStandsFor pool s q → desk_shown t.desk ≡ (f q).desk
  pub sound : IsSoundDesk s.desk → IsSoundDesk t.desk
  pub late : (q : Port) → SeatStandsFor pool s q → t.late ≡ (f q).late
  pub ended : (q : Port) → SeatStandsFor pool s q → t.ended ≡ (f q).ended

pub sets : {pool : PoolState} {s t : Seat} {f : Port → Port} → Sets pool s t f → SeatBecomes pool pool s t f
sets {pool} {s} {t} {f} c =
    record {
      host = c.host;
      moves = stays_beside pool s.side t.side (ap (λ (k : End). k.outbox) c.side) (ap (λ (k : End). k.inbox) c.side);
      stands = λ q g. record {
        holds = (let P : End → Type 0 = λ k. HoldsEnd pool k t.waiting (f q).side in
            let M : Machine → Type 0 = λ m. HoldsEnd pool s.side s.waiting m in
            subst P (sym c.side) (subst (λ w. HoldsEnd pool s.side w (f q).side) (sym c.waiting) (subst M (sym (c.same_side q)) g.holds)));
        desk = c.desk q g;
        late = c.late q g;
        ended = c.ended q g;
        reached = (let M : Machine → Type 0 = λ m. IsReached m in subst M (sym (c.same_side q)) g.reached);
        acked = c.acked ∙ (g.acked ∙ ap (λ (m : Machine). kept_number (whole_acked m)) (sym (c.same_side q)));
        sound = c.sound g.sound;
        aside = c.aside ∙ (g.aside ∙ ap (λ (m : Machine). m.aside) (sym (c.same_side q)));
      };
    }

-- its desk alone
sets_desk : {pool : PoolState} {s : Seat} (d : Desk) (f : DeskOf → DeskOf) → d.host ≡ s.desk.host → desk_shown d ≡ f (desk_shown s.desk)
    → (IsSoundDesk s.desk → IsSoundDesk d) → SeatBecomes pool pool s (record s { desk = d }) (λ p. record p { desk = f p.desk })
sets_desk d f host shown sound = grind arith

pub notice_set : (pool : PoolState) (s : Seat) (notice : Option Unanswered) → IsSoundRow (row_noticed notice)
    → SeatBecomes pool pool s (record s { desk = record s.desk { notice = notice } })
    (λ p. record p { desk = record p.desk { notice = option_map notice_shown notice } })
notice_set pool s notice sound = grind arith

pub holds_set : (pool : PoolState) (s : Seat) (holds : Bool)
    → SeatBecomes pool pool s (record s { desk = record s.desk { holds = holds } }) (λ p. record p { desk = record p.desk { holds = holds } })
holds_set pool s holds = sets_desk (record s.desk { holds = holds }) (λ d. record d { holds = holds }) refl refl (λ was. was)

pub errors_set : (pool : PoolState) (s : Seat) (errors : ℕ)
    → SeatBecomes pool pool s (record s { desk = record s.desk { errors = errors } }) (λ p. record p { desk = record p.desk { errors = errors } })
errors_set pool s errors = sets_desk (record s.desk { errors = errors }) (λ d. record d { errors = errors }) refl refl (λ was. was)

pub error_counted : (pool : PoolState) (s : Seat) (errors : ℕ) → errors ≡ min 65535 (s.desk.errors + 1)
    → SeatBecomes pool pool s (record s { desk = record s.desk { errors = errors } })
    (λ p. record p { desk = record p.desk { errors = min 65535 (p.desk.errors + 1) } })
error_counted pool s errors is = grind arith

pub older : (pool : PoolState) (s t : Seat) → t ≡ record s { desk = record s.desk { notice = grown_older s.desk.notice } }
    → SeatBecomes pool pool s t with_older
older pool s t is = grind arith

pub begun : (pool : PoolState) (s : Seat)
    → SeatBecomes pool pool s (record s { late = false; ended = false }) (λ p. record p { late = false; ended = false; turns = [] })
begun pool s = grind arith

pub notice_dropped : (pool : PoolState) (s t : Seat)
    → t ≡ record s { desk = record s.desk { notice = kept_notice (s.ended || s.late) s.desk.notice } } → SeatBecomes pool pool s t without_notice
notice_dropped pool s t is = subst (λ x. SeatBecomes pool pool s x without_notice) (sym is) (sets (grind arith))

pub creation_forgotten : (pool : PoolState) (s t : Seat) → t ≡ record s { desk = record s.desk { notice = as_forgotten s.desk.notice } }
    → SeatBecomes pool pool s t forgotten_at
creation_forgotten pool s t is = grind arith
