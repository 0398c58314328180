use Rattle.nv_journal.proofs.Words.{AreMade, Bool, HasRoomForBody, LeftByCut, List, Says, State, append_writes, arith, false, made_in_part, made_whole, rules}
use Rattle.nv_journal.proofs.Words.{ℕ}
use Rattle.swp_base.specs.Outside.{IsWritten}
use Rattle.nv_journal.proofs.Appending.{says_after, records_after, all_or_nothing, left_by_cut, on_err}
use Rattle.nv_journal.proofs.journal.Journal.append.Goals as goal

cut_short : {M : Type 0} (writes : M → ℕ → List ℕ → Bool → M → Type 0) (content : M → List ℕ)
    → ((old : M) (at : ℕ) (bytes : List ℕ) (ok : Bool) (new : M) → writes old at bytes ok new → IsWritten ok (content old) (content new) at bytes)
    → (body : List ℕ) (s : State) (old new : M) → Says (content old) s → HasRoomForBody s body → AreMade writes (append_writes s body) old false new
    → LeftByCut (append_writes s body) (content old) (content new)
cut_short writes content told body s old new says room made =
    left_by_cut (append_writes s body) (content old) (content new) (all_or_nothing (content old) body s says room)
    (made_in_part writes content told (append_writes s body) old new made)

pub returns-in_err-write-clause-cut : goal.returns-in_err-write-clause-cut
returns-in_err-write-clause-cut g c = λ tells.
    let k = c.self.inside in
    rw (← c.self.view_is)
    (on_err c.from_residual.result _ (cut_short g.N.Nv.writes g.N.Nv.content (λ m at bytes ok n step. g.met.N.Nv.told m at bytes ok n tells step)
    c.args.body.now k.state k.nv c.write.new.self (c.self.invariant.says (rw (← c.self.view_is) at c.requires.live) tells)
    (rw (← c.self.view_is) at c.requires.room) (search rules)))

pub returns-in_err-write-2-clause-cut : goal.returns-in_err-write-2-clause-cut
returns-in_err-write-2-clause-cut g c = λ tells.
    let k = c.self.inside in
    rw (← c.self.view_is)
    (on_err c.from_residual-in_err-write-2.result _ (cut_short g.N.Nv.writes g.N.Nv.content (λ m at bytes ok n step. g.met.N.Nv.told m at bytes ok n tells step)
    c.args.body.now k.state k.nv c.write-2.new.self (c.self.invariant.says (rw (← c.self.view_is) at c.requires.live) tells)
    (rw (← c.self.view_is) at c.requires.room) (search rules)))

pub invariant_of-self-2 : goal.invariant_of-self-2
invariant_of-self-2 g c =
    let k = c.self.inside in
    let body = c.args.body.now in
    let room = rw (← c.self.view_is) at c.requires.room in
    record {
      size = omega (arith, c.write.ensures.size, c.write-2.ensures.size, c.self.invariant.size);
      inside = omega (arith, room.room);
      few = omega (arith, c.self.invariant.few);
      says = λ live tells.
          let says = c.self.invariant.says (rw (← c.self.view_is) at c.requires.live) tells in
          let whole = made_whole g.N.Nv.writes g.N.Nv.content (λ m at bytes ok n step. g.met.N.Nv.told m at bytes ok n tells step)
          (append_writes k.state body) k.nv c.write-2.new.self (search rules) in
          rw whole (says_after (g.N.Nv.content k.nv) body k.state says room);
    }

pub returns-clause-records : goal.returns-clause-records
returns-clause-records g c = λ tells.
    let k = c.self.inside in
    let body = c.args.body.now in
    let says = c.self.invariant.says (rw (← c.self.view_is) at c.requires.live) tells in
    let whole = made_whole g.N.Nv.writes g.N.Nv.content (λ m at bytes ok n step. g.met.N.Nv.told m at bytes ok n tells step)
    (append_writes k.state body) k.nv c.write-2.new.self (search rules) in
    rw (← c.self.view_is, whole) (records_after (g.N.Nv.content k.nv) body k.state says (rw (← c.self.view_is) at c.requires.room))
