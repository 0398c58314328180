-- How many messages the ends of a link were given in their sessions: no cause but a message given adds one.
use Rattle.world.proofs.Words.{Bool, Cause, Caused, Control, End, EndEvent, FetchMessage, Give, Given, GoesOut, HaveSent, Hold, Line, Link, LinkEnd, LinkInput}
use Rattle.world.proofs.Words.{List, Lose, Message, NextFrame, NoCause, NoInput, None, OnDemand, OnWire, Option, Outcome, Readied, Refused, Reset, Some, Step}
use Rattle.world.proofs.Words.{Take, Taken, Tick, Ticked, Verdict, WasLost, WasReset, [], after_input, aged, ap, arith, becomes, causes_in, damage_causes}
use Rattle.world.proofs.Words.{ended_by, events_at, exchanged, false, first_verdict, frames_out, frames_to, give_refusal, given, happens, happens_at_controller}
use Rattle.world.proofs.Words.{is_some, length, length-append, link_after, link_after_all, link_after_line, not, outcome_of, refl, refusal, replicate, suc}
use Rattle.world.proofs.Words.{taken_of, ticks_at_controller, took, took_with, true, turn, unless, unwrap_or, with_ended, zero, ℕ, ◌+◌, ◌∷◌, ◌≡◌, ◌≤◌}
use Rattle.trace_model.specs.declared.line.Line.TheVariants as line
use Rattle.link_laws.specs.machine.Machine.{turned}
use Rattle.link_laws.specs.messages.Links.{has_input, has_taken}
use Rattle.link_laws.specs.messages.Links.Comes.{AsksReset}
use Rattle.history.specs.Histories.Outcome.{Refused as LineRefused}
use Rattle.history.specs.Steps.{at}
use Rattle.link_laws.proofs.messages.Project.{host_ended as ended_host}
use Rattle.node_world.proofs.EndsGo.{all_far as all_host}
pub use Rattle.lines_told.proofs.lines.Told.{again as causes_of-events}

-- ## An end

-- an end was given at most n messages in its session
abbrev AtMost : ℕ → LinkEnd → Type 0
AtMost n e = length e.sent ≤ n

few_unless : (n : ℕ) (o : Option Refused) (e f : LinkEnd) → AtMost n e → AtMost n f → AtMost n (unless o e f)
few_unless n o e f p q = grind arith

few_took : (n : ℕ) (e : LinkEnd) (c : Control) → AtMost n e → AtMost n (took e c)
few_took n e c h = grind arith

few_ticked : (n : ℕ) (e : LinkEnd) → AtMost n e → AtMost n (after_input e Tick)
few_ticked n e h = grind arith

few_reset : (n : ℕ) (e : LinkEnd) (window : Option ℕ) → AtMost n e → AtMost n (after_input e (Reset window))
few_reset n e window h = grind arith

few_given : (n : ℕ) (e : LinkEnd) (m : Message) → AtMost n e → AtMost (n + 1) (turn e (Give m))
few_given n e m h =
    few_unless (n + 1) (give_refusal e m) e (given e m) (omega (arith, h)) (let l = length-append e.sent (m ∷ []) in omega (arith, l, h))

-- ## One side of a link

-- the controller's end has become e, and all its frames went out
few_becomes : (n k : ℕ) (l : Link) (e : LinkEnd) → AtMost n e → length l.host.side.sent ≤ k
    → (length (becomes l e).controller.side.sent ≤ n) × (length (becomes l e).host.side.sent ≤ k)
few_becomes n k l e h far =
    let q = ap (λ x. length x.side.sent) (all_host l (frames_out e)) in (h, omega (arith, far, q))

-- the controller's end has this input
few_input : (n k : ℕ) (l : Link) (i : LinkInput) → AtMost n (after_input l.controller.side i) → length l.host.side.sent ≤ k
    → (length (has_input l i [] GoesOut).controller.side.sent ≤ n) × (length (has_input l i [] GoesOut).host.side.sent ≤ k)
few_input n k l i h far =
    let b : Bool = is_some (ended_by l.controller.side i) in
    let q = ap (λ x. length x.side.sent) (ended_host l b) in
    few_becomes n k (with_ended l b) (after_input l.controller.side i) h (omega (arith, far, q))

-- ## What happens at one end

both : (n : ℕ) (l : Link) → (length l.controller.side.sent ≤ n) × (length l.host.side.sent ≤ n) → HaveSent l n
both n l h = record { here = h.0; there = h.1 }

pub swapped : (n : ℕ) (l : Link) → HaveSent l n → HaveSent (exchanged l) n
swapped n l h = record { here = h.there; there = h.here }

sent_taken : (n : ℕ) (l : Link) → HaveSent l n → HaveSent (happens_at_controller l (Step NextFrame (FetchMessage ∷ []) GoesOut)) n
sent_taken n l h = by l.to_controller refl
  where
    by : (w : List OnWire) → l.to_controller ≡ w → HaveSent (happens_at_controller l (Step NextFrame (FetchMessage ∷ []) GoesOut)) n
    by [] q = rw q (record { here = h.here; there = h.there })
    by (x ∷ xs) q =
        let b : Bool = is_some (ended_by l.controller.side (Take x.frame)) in
        let m : Link = with_ended (record l { to_controller = xs }) b in
        let far = ap (λ z. length z.side.sent) (ended_host (record l { to_controller = xs }) b) in
        rw q
        (both n (has_taken l x xs (FetchMessage ∷ []) GoesOut)
        (few_becomes n n (record m { controller = record m.controller { took = took_with l.controller.took x } })
        (turned (after_input l.controller.side (Take x.frame)) (FetchMessage ∷ []))
        (few_took n l.controller.side x.frame h.here) (omega (arith, far, h.there))))

pub sent_ticked : (n : ℕ) (l : Link) → HaveSent l n → HaveSent (ticks_at_controller l [] GoesOut) n
sent_ticked n l h = both n (ticks_at_controller l [] GoesOut) (few_input n n l Tick (few_ticked n l.controller.side h.here) h.there)

sent_reset : (n : ℕ) (window : Option ℕ) (l : Link) → HaveSent l n → HaveSent (happens_at_controller l (Step (AsksReset window) [] GoesOut)) n
sent_reset n window l h =
    both n (happens_at_controller l (Step (AsksReset window) [] GoesOut)) (few_input n n l (Reset window) (few_reset n l.controller.side window h.here) h.there)

sent_held : (n : ℕ) (held : Bool) (l : Link) → HaveSent l n → HaveSent (happens_at_controller l (Step NoInput (Hold held ∷ []) GoesOut)) n
sent_held n held l h =
    both n (happens_at_controller l (Step NoInput (Hold held ∷ []) GoesOut)) (few_becomes n n l (turn l.controller.side (Hold held)) h.here h.there)

sent_given : (n : ℕ) (x : Message) (l : Link) → HaveSent l n → HaveSent (happens_at_controller l (Step NoInput (Give x ∷ []) GoesOut)) (n + 1)
sent_given n x l h =
    both (n + 1) (happens_at_controller l (Step NoInput (Give x ∷ []) GoesOut))
    (few_becomes (n + 1) (n + 1) l (turn l.controller.side (Give x)) (few_given n l.controller.side x h.here) (let f = h.there in omega (arith, f)))

-- it happens at either end
sent_at : (n k : ℕ) (l : Link) (e : End) (x : EndEvent) → ((m : Link) → HaveSent m n → HaveSent (happens_at_controller m x) k) → HaveSent l n
    → HaveSent (happens l (at e x)) k
sent_at n k l e x here h = grind arith

-- ## Causes

-- no message is given
abbrev pub GivesNone : Cause → Type 0
GivesNone (Given e m) = ⊥
GivesNone (Taken e) = Unit {0}
GivesNone (WasLost e why) = Unit {0}
GivesNone Ticked = Unit {0}
GivesNone (WasReset e window) = Unit {0}
GivesNone (Readied e ready) = Unit {0}

pub sent_after : (n : ℕ) (l : Link) (c : Cause) → GivesNone c → HaveSent l n → HaveSent (link_after l c) n
sent_after n l (Given e m) none h = absurd none
sent_after n l (Taken e) none h = sent_at n n l e (Step NextFrame (FetchMessage ∷ []) GoesOut) (sent_taken n) h
sent_after n l (WasLost e why) none h = sent_at n n l e (Lose why) (λ m g. record { here = g.here; there = g.there }) h
sent_after n l Ticked none h =
    let near : Link = ticks_at_controller (aged l) [] GoesOut in
    swapped n (ticks_at_controller (exchanged near) [] GoesOut)
    (sent_ticked n (exchanged near) (swapped n near (sent_ticked n (aged l) (record { here = h.here; there = h.there }))))
sent_after n l (WasReset e window) none h = sent_at n n l e (Step (AsksReset window) [] GoesOut) (sent_reset n window) h
sent_after n l (Readied e ready) none h = sent_at n n l e (Step NoInput (Hold (not ready) ∷ []) GoesOut) (sent_held n (not ready)) h

abbrev AllGiveNone : List Cause → Type 0
AllGiveNone [] = Unit {0}
AllGiveNone (c ∷ cs) = GivesNone c × AllGiveNone cs

none_repeated : (c : Cause) → GivesNone c → (n : ℕ) → AllGiveNone (replicate n c)
none_repeated c none zero = tt
none_repeated c none (suc n) = (none, none_repeated c none n)

sent_all_causes : (n : ℕ) (l : Link) (cs : List Cause) → AllGiveNone cs → HaveSent l n → HaveSent (link_after_all l cs) n
sent_all_causes n l [] none h = h
sent_all_causes n l (c ∷ cs) none h = sent_all_causes n (link_after l c) cs none.1 (sent_after n l c none.0 h)

-- the same cause again and again
pub sent_repeated : (n k : ℕ) (l : Link) (c : Cause) → GivesNone c → HaveSent l n → HaveSent (link_after_all l (replicate k c)) n
sent_repeated n k l c none h = sent_all_causes n l (replicate k c) (none_repeated c none k) h

-- ## Lines

weaker : (n : ℕ) (l : Link) → HaveSent l n → HaveSent l (n + 1)
weaker n l h = let a = h.here in let b = h.there in record { here = omega (arith, a); there = omega (arith, b) }

none_damaged : (e : End) (v : Option Verdict) → AllGiveNone (damage_causes e v)
none_damaged e v = grind arith

-- a line gives at most one message
sent_caused : (n : ℕ) (l : Link) (line : Line) → HaveSent l n → HaveSent (link_after_all l (causes_in l line)) (n + 1)
sent_caused n l (line.Send e pid message) h = sent_at n (n + 1) l e (Step NoInput (Give (pid, message) ∷ []) GoesOut) (sent_given n (pid, message)) h
sent_caused n l (line.Deliver e count) h = weaker n _ (sent_repeated n (taken_of count (frames_to l e)) l (Taken e) tt h)
sent_caused n l (line.Lose e) h = weaker n _ (sent_after n l (WasLost e OnDemand) tt h)
sent_caused n l (line.Damage e places) h =
    let cs : List Cause = damage_causes e (first_verdict (frames_to l e) places.items) in
    weaker n (link_after_all l cs) (sent_all_causes n l cs (none_damaged e (first_verdict (frames_to l e) places.items)) h)
sent_caused n l (line.Tick times) h = weaker n _ (sent_repeated n (unwrap_or times 1) l Ticked tt h)
sent_caused n l (line.Reset e window) h = weaker n _ (sent_after n l (WasReset e window) tt h)
sent_caused n l (line.Busy e) h = weaker n _ (sent_after n l (Readied e false) tt h)
sent_caused n l (line.Ready e) h = weaker n _ (sent_after n l (Readied e true) tt h)
sent_caused n l (line.Boot node) h = weaker n l h
sent_caused n l (line.Cut node) h = weaker n l h
sent_caused n l (line.Activate host sync power) h = weaker n l h
sent_caused n l (line.Arm node nth fill) h = weaker n l h
sent_caused n l (line.Init e identity pipes) h = weaker n l h
sent_caused n l (line.Tables node) h = weaker n l h
sent_caused n l (line.Settle rounds) h = weaker n l h

pub sent_line : (n h : ℕ) (l : Link) (line : Line) → HaveSent l n → HaveSent (link_after_line l (outcome_of h l line)) (n + 1)
sent_line n h l line sent = go (refusal l line)
  where
    decided : Option NoCause → Outcome
    decided (Some cause) = LineRefused cause
    decided None = Caused (events_at h l (causes_in l line))

    go : (o : Option NoCause) → HaveSent (link_after_line l (decided o)) (n + 1)
    go (Some cause) = weaker n l sent
    go None =
        rw (causes_of-events h l (causes_in l line)) (sent_caused n l line sent)
