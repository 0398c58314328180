-- What happens at one end of a link.
use Rattle.world.proofs.Words.{AreNoted, Bool, Buffer, Control, Due, End, EndStandsFor, EndState, Entry, Fetch, FetchMessage, Flying, GoesOut, HasHappened}
use Rattle.world.proofs.Words.{IfSome, IsMidway, IsTakenOff, Kept, Link, LinkEnd, LinkStandsFor, List, Lose, Loss, NextFrame, Node, NodeStandsFor, None, Noted}
use Rattle.world.proofs.Words.{Ok, OnWire, Option, Place, Side, SideStandsFor, Some, Step, Take, WireStandsFor, [], after_input, aged_wire, ap, append-nil}
use Rattle.world.proofs.Words.{append_assoc, arith, becomes, control_of, drop, end_is, ended_by, entries_for, false, fetched, frames_out, happens_at_controller}
use Rattle.world.proofs.Words.{here_entries, is_some, kept_of, left_after, length, max, more_noted, option_map, put_all, puts_entries, refl, report, sent_all}
use Rattle.world.proofs.Words.{side_of, subst, suc, sym, told, took_with, true, turn, whole_acked, with_controller, with_ended, ℕ, ◌++◌, ◌∙◌, ◌∷◌, ◌≡◌, ◌≤◌}
use Rattle.link_laws.specs.messages.Links.{put}
use Rattle.link_laws.specs.sessions.Sessions.{is_rset}
use Rattle.link_laws.specs.messages.Links.{NumberedEnd}
use Rattle.link_laws.specs.entries.Entries.{first_lost, put_entries, taken_entries, told_of}
use Rattle.link_wires.specs.Putting.{GoesOutOf}
use Rattle.link_wires.proofs.GoingOut.{put_stays}
use Rattle.swp_lpdu.specs.Controls.{lpdu_of}
use Rattle.shdlc_core.specs.Machine.{frame_due, frames_of, after_frames}
use Rattle.link_laws.specs.machine.Machine.{Turn, among, next_frame}
use Rattle.link_laws.proofs.machine.Reports.{fetched_due}
use Rattle.link_laws.proofs.sessions.Ties.{nothing_sent}
use Rattle.link_laws.proofs.places.Joined.{after_frames_idle, fetched_idle, no_due}
use Rattle.trace_model.specs.declared.entry.Entry.TheVariants as entry
use Rattle.link_laws.specs.entries.Entries.Entry.{Took}
use Rattle.link_wires.specs.Wires.{IsMade}
use Rattle.link_wires.proofs.Wires.{first_is, taken_off, there_is_none, there_is_one}
use Rattle.world.proofs.Bare.{is_bare, plain_fetched}
use Rattle.world.proofs.Nodes.{fetches_frame}

pub put_is : {near far : Side} {resets : ℕ} {l : Link} {m : LinkEnd} {e n : ℕ} {wire : Buffer Flying} (c : Control) → IsMidway near far resets l m
    → GoesOutOf e wire n (put l c) → IsMidway (record near { emitted = e }) (record far { wire = wire }) n (put l c) m
put_is {near} {far} {l = l} {m} {e} {wire = wire} c h sent =
    let s = put_stays l c in
    let T : ℕ → Type 0 = λ k. near.took ≡ k in
    let W : List OnWire → Type 0 = λ ws. WireStandsFor near.wire ws in
    let H : NumberedEnd → Type 0 = λ k. SideStandsFor (record far { wire = wire }) k (put l c).to_host in
    grind arith

pub goes_out : {near far : Side} {resets : ℕ} {l : Link} {m : LinkEnd} → IsMidway near far resets l m → GoesOutOf near.emitted far.wire resets l
goes_out h = record { emitted_is = h.here.put_is; wire_is = h.there.has.wire_is; count = h.count }

-- the first frame is lost
pub lost_is : {near far : Side} {resets : ℕ} {l : Link} {why : Loss} {at : End} {wire : Buffer Flying} {before now : List Entry}
    → LinkStandsFor near far resets l
    → WireStandsFor wire (drop 1 l.to_controller) × AreNoted at before now (first_lost (side_of at) why l.to_controller)
    → HasHappened (record near { wire = wire }) far resets l (Lose why) at before now
lost_is h r = grind arith

-- the frames to the near end have grown older
pub aged_is : {near far : Side} {resets : ℕ} {l : Link} {wire : Buffer Flying} → LinkStandsFor near far resets l
    → WireStandsFor wire (aged_wire l.to_controller)
    → LinkStandsFor (record near { wire = wire }) far resets (record l { to_controller = aged_wire l.to_controller })
aged_is h w = grind arith

-- An end sends its frames one by one.

-- ## The frames of an end without ACT frames

plain_frames : (e : LinkEnd) → e.acts ≡ [] → frames_out e ≡ frames_of 12 e.shdlc
plain_frames e p = ap (λ acts. among 0 acts (frames_of 12 e.shdlc)) p

plain_rest : (e : LinkEnd) → e.acts ≡ [] → record e { shdlc = after_frames 12 e.shdlc } ≡ sent_all e
plain_rest e p = ap (λ acts. record e { shdlc = after_frames 12 e.shdlc; acts = acts }) p

plain_next : (e : LinkEnd) → e.acts ≡ [] → next_frame e ≡ frame_due e.shdlc
plain_next e p = rw p refl

-- one is sent
first_frame : (s : EndState) (c : Control) (n : ℕ) → frame_due s ≡ Some c → frames_of (suc n) s ≡ c ∷ frames_of n (fetched s)
first_frame s c n q = rw q refl

-- ## One by one

-- The end has become m on the link l. Frames were sent since: now the link is so and the end e, these were noted, and at most so
-- many are left.
pub record Sending (at : End) (near far : Side) (resets : ℕ) (l : Link) (m : LinkEnd) (before now : List Entry) (left : ℕ) : Type 0 where
  pub link : Link
  pub e : LinkEnd
  pub notes : List Noted
  pub midway : IsMidway near far resets link e
  pub no_acts : e.acts ≡ []
  pub few : length e.shdlc.due ≤ left
  pub link_is : put_all link (frames_of left e.shdlc) ≡ put_all l (frames_out m)
  pub end_is : record e { shdlc = after_frames left e.shdlc } ≡ sent_all m
  pub notes_are : puts_entries (side_of at) l (frames_out m) ≡ notes ++ puts_entries (side_of at) link (frames_of left e.shdlc)
  pub noted : AreNoted at before now notes

pub sending_starts : {at : End} {near far : Side} {resets : ℕ} {l : Link} {m : LinkEnd} {entries : List Entry} → IsMidway near far resets l m
    → Sending at near far resets l m entries entries 12
sending_starts {at} {l} {m} {entries} h =
    let none : m.acts ≡ [] = (is_bare m h.here.node.has.reached).1 in
    record {
      link = l;
      e = m;
      notes = [];
      midway = h;
      no_acts = none;
      few = h.few;
      link_is = ap (put_all l) (sym (plain_frames m none));
      end_is = plain_rest m none;
      notes_are = ap (puts_entries (side_of at) l) (plain_frames m none);
      noted = sym (append-nil entries);
    }

-- what putting one frame does
abbrev pub Puts : End → Side → Side → ℕ → Side → Side → ℕ → List ℕ → List Entry → List Entry → Type 0
Puts at near far resets near2 far2 resets2 lpdu mid now =
    (l : Link) (m : LinkEnd) (c : Control) → IsMidway near far resets l m → lpdu ≡ lpdu_of c → control_of lpdu ≡ Ok c
    → IsMidway near2 far2 resets2 (put l c) m × AreNoted at mid now (put_entries (side_of at) l c)

abbrev or_these : List ℕ → Option (List ℕ) → List ℕ
or_these a None = a
or_these a (Some b) = b

-- an end in this state is about to send: its node fetched the LPDU of the frame that is to be sent now, where there is one
pub record IsAboutToSend (new : Node) (e : LinkEnd) (fetched : Option (List ℕ)) : Type 0 where
  pub node : NodeStandsFor new (after_input e Fetch)
  pub fetched_is : fetched ≡ option_map lpdu_of (next_frame e)
  pub read : IfSome (next_frame e) (λ c. control_of (lpdu_of c) ≡ Ok c)

pub fetched_there : {n : Node} {k : Kept} {e : LinkEnd} {out : Option (List ℕ)} → NodeStandsFor n e → EndStandsFor k n.pool (after_input e Fetch)
    → k.inbox ≡ n.«end».inbox → out ≡ option_map lpdu_of (next_frame e) → IfSome (next_frame e) (λ c. control_of (lpdu_of c) ≡ Ok c)
    → IsAboutToSend (record n { «end» = k }) e out
fetched_there h stands inbox is read = record { node = fetches_frame h stands inbox; fetched_is = is; read = read }

pub sending_goes_on : {at : End} {near far near2 far2 : Side} {new : Node} {resets resets2 : ℕ} {l : Link} {m : LinkEnd} {before mid now : List Entry}
    {left : ℕ} {lpdu : List ℕ} {fetched : Option (List ℕ)} (s : Sending at near far resets l m before mid (suc left)) → IsAboutToSend new s.e fetched
    → fetched ≡ Some lpdu → Puts at (record near { node = new }) far resets near2 far2 resets2 lpdu mid now
    → Sending at near2 far2 resets2 l m before now left
sending_goes_on {at} {near} {far} {near2} {far2} {new} {resets} {resets2} {l} {m} {before} {mid} {now} {left} {lpdu} s a is puts = go (next_frame s.e) refl
  where
    go : (o : Option Control) → next_frame s.e ≡ o → Sending at near2 far2 resets2 l m before now left
    go None q = absurd (let z : None ≡ Some lpdu = sym (ap (option_map lpdu_of) q) ∙ (sym a.fetched_is ∙ is) in cc)
    go (Some c) q =
        let bytes : lpdu ≡ lpdu_of c =
        ap (or_these lpdu) (sym is ∙ (a.fetched_is ∙ ap (option_map lpdu_of) q)) in
        let read_is : control_of (lpdu_of c) ≡ Ok c = rw q at a.read in
        let due : frame_due s.e.shdlc ≡ Some c = sym (plain_next s.e s.no_acts) ∙ q in
        let frames : frames_of (suc left) s.e.shdlc ≡ c ∷ frames_of left (fetched s.e.shdlc) = first_frame s.e.shdlc c left due in
        let f : LinkEnd = record s.e { shdlc = fetched s.e.shdlc } in
        let few : length (fetched s.e.shdlc).due ≤ 12 = (let i = fetched_due s.e.shdlc 11 s.midway.few in omega (arith, i)) in
        let halfway : IsMidway (record near { node = new }) far resets s.link f =
        record {
          here = record {
            node = rw (plain_fetched s.e s.no_acts) at a.node;
            put_is = s.midway.here.put_is;
            took_is = s.midway.here.took_is;
            wire_is = s.midway.here.wire_is;
          };
          few = few;
          there = s.midway.there;
          count = s.midway.count;
        } in
        let r = puts s.link f c halfway bytes (ap control_of bytes ∙ read_is) in
        record {
          link = put s.link c;
          e = f;
          notes = s.notes ++ put_entries (side_of at) s.link c;
          midway = r.0;
          no_acts = s.no_acts;
          few = fetched_due s.e.shdlc left s.few;
          link_is = sym (ap (put_all s.link) frames) ∙ s.link_is;
          end_is = s.end_is;
          notes_are = s.notes_are ∙ (ap (λ cs. s.notes ++ puts_entries (side_of at) s.link cs) frames
              ∙ sym (append_assoc s.notes (put_entries (side_of at) s.link c) (puts_entries (side_of at) (put s.link c) (frames_of left (fetched s.e.shdlc)))));
          noted = more_noted at before s.notes (put_entries (side_of at) s.link c) s.noted r.1;
        }

-- all were sent
sent : {at : End} {near far : Side} {new : Node} {resets : ℕ} {l : Link} {m : LinkEnd} {before now : List Entry} {left : ℕ}
    (s : Sending at near far resets l m before now left) → NodeStandsFor new s.e → s.e.shdlc.due ≡ [] → frames_of left s.e.shdlc ≡ []
    → after_frames left s.e.shdlc ≡ s.e.shdlc
    → LinkStandsFor (record near { node = new }) far resets (becomes l m) × AreNoted at before now (puts_entries (side_of at) l (frames_out m))
sent {at} {near} {far} {new} {resets} {l} {m} {before} s node idle none after =
    let link : s.link ≡ put_all l (frames_out m) = sym (ap (put_all s.link) none) ∙ s.link_is in
    let last : s.e ≡ sent_all m = sym (ap (λ x. record s.e { shdlc = x }) after) ∙ s.end_is in
    let stands : LinkStandsFor (record near { node = new }) far resets (with_controller s.link s.e) =
    record {
      here = record {
        has = record { node = node; put_is = s.midway.here.put_is; took_is = s.midway.here.took_is; wire_is = s.midway.here.wire_is };
        idle = idle;
      };
      there = s.midway.there;
      count = s.midway.count;
    } in
    let notes : puts_entries (side_of at) l (frames_out m) ≡ s.notes =
    s.notes_are ∙ (ap (λ cs. s.notes ++ puts_entries (side_of at) s.link cs) none ∙ append-nil s.notes) in (
      rw (ap (λ k. with_controller k s.e) link ∙ ap (λ e. with_controller (put_all l (frames_out m)) e) last) at stands,
      s.noted ∙ ap (λ ns. before ++ entries_for at.link ns) (sym notes),
    )

-- nothing is to be sent any more
pub sending_stops : {at : End} {near far : Side} {new : Node} {resets : ℕ} {l : Link} {m : LinkEnd} {before now : List Entry} {left : ℕ}
    {fetched : Option (List ℕ)} (s : Sending at near far resets l m before now left) → IsAboutToSend new s.e fetched → fetched ≡ None
    → LinkStandsFor (record near { node = new }) far resets (becomes l m) × AreNoted at before now (puts_entries (side_of at) l (frames_out m))
sending_stops {at} {near} {far} {new} {resets} {l} {m} {before} {now} {left} s a is = go (next_frame s.e) refl
  where
    go : (o : Option Control) → next_frame s.e ≡ o
        → LinkStandsFor (record near { node = new }) far resets (becomes l m) × AreNoted at before now (puts_entries (side_of at) l (frames_out m))
    go (Some c) q = absurd (let z : Some (lpdu_of c) ≡ None = sym (ap (option_map lpdu_of) q) ∙ (sym a.fetched_is ∙ is) in cc)
    go None q =
        let none : frame_due s.e.shdlc ≡ None = sym (plain_next s.e s.no_acts) ∙ q in
        let same : after_input s.e Fetch ≡ s.e =
        plain_fetched s.e s.no_acts ∙ ap (λ x. record s.e { shdlc = x }) (fetched_idle s.e.shdlc none) in
        sent s (rw same at a.node) (no_due s.e.shdlc none) (nothing_sent left s.e.shdlc none) (after_frames_idle left s.e.shdlc none)

-- the most frames were sent
pub sending_ends : {at : End} {near far : Side} {resets : ℕ} {l : Link} {m : LinkEnd} {before now : List Entry}
    → Sending at near far resets l m before now 0
    → LinkStandsFor near far resets (becomes l m) × AreNoted at before now (puts_entries (side_of at) l (frames_out m))
sending_ends s = sent s s.midway.here.node (empty s.e.shdlc.due s.few) refl refl
  where
    empty : (ds : List Due) → length ds ≤ 0 → ds ≡ []
    empty [] i = refl
    empty (d ∷ ds) i = absurd (omega (arith, i))

-- An end takes the first frame on the wire to it.

-- ## The first frame

-- x is the first frame on the wire to the near end; without it the wire is so
pub record TakesFirst (l : Link) (wire : Buffer Flying) (flying : Flying) : Type 0 where
  pub x : OnWire
  pub xs : List OnWire
  pub wire_is : l.to_controller ≡ x ∷ xs
  pub first : flying ≡ kept_of x
  pub made : IsMade x
  pub left : WireStandsFor wire xs

pub takes_first : {near far : Side} {resets : ℕ} {l : Link} {wire : Buffer Flying} {flying : Flying} → LinkStandsFor near far resets l
    → IsTakenOff near.wire wire (Some flying) → TakesFirst l wire flying
takes_first {near} {l} {wire} {flying} h off = go l.to_controller refl
  where
    P : List OnWire → Type 0
    P w = WireStandsFor near.wire w

    go : (w : List OnWire) → l.to_controller ≡ w → TakesFirst l wire flying
    go [] q = absurd (there_is_none (subst P q h.here.has.wire_is) off)
    go (x ∷ xs) q =
        let kept = subst P q h.here.has.wire_is in
        record {
          x = x;
          xs = xs;
          wire_is = q;
          first = first_is kept off;
          made = kept.made.0;
          left = taken_off kept off;
        }

-- there is none
pub takes_none : {near far : Side} {resets : ℕ} {l : Link} {turns : List Turn} {at : End} {wire : Buffer Flying} {entries : List Entry}
    → LinkStandsFor near far resets l → IsTakenOff near.wire wire None
    → HasHappened (record near { wire = wire }) far resets l (Step NextFrame turns GoesOut) at entries entries
takes_none {near} {far} {resets} {l} {turns} {at} {wire} {entries} h off = go l.to_controller refl
  where
    P : List OnWire → Type 0
    P w = WireStandsFor near.wire w

    Q : List OnWire → Type 0
    Q w = WireStandsFor wire w

    go : (w : List OnWire) → l.to_controller ≡ w → HasHappened (record near { wire = wire }) far resets l (Step NextFrame turns GoesOut) at entries entries
    go (x ∷ xs) q = absurd (there_is_one (subst P q h.here.has.wire_is) off)
    go [] q =
        let kept = subst P q h.here.has.wire_is in
        let empty : WireStandsFor wire [] =
        record {
          frames = ap (λ (b : Buffer Flying). b.items) off.new_is ∙ ap (drop 1) kept.frames;
          capacity = ap (λ (b : Buffer Flying). b.capacity) off.new_is ∙ kept.capacity;
          few = omega arith;
          made = tt;
        } in
        let R : Link → Type 0 = λ k. LinkStandsFor (record near { wire = wire }) far resets k in
        let same : happens_at_controller l (Step NextFrame turns GoesOut) ≡ l = rw q refl in
        let notes : here_entries (side_of at) l (Step NextFrame turns GoesOut) ≡ [] = rw q refl in
        record {
          stands = subst R (sym same)
              (record {
                here = record {
                  has = record { node = h.here.has.node; put_is = h.here.has.put_is; took_is = h.here.has.took_is; wire_is = subst Q (sym q) empty };
                  idle = h.here.idle;
                };
                there = h.there;
                count = h.count;
              });
          noted = sym (ap (λ ns. entries ++ entries_for at.link ns) notes ∙ append-nil entries);
        }

-- ## It is taken

-- the greatest number taken
took_is : {near far : Side} {resets : ℕ} {l : Link} {flying : Flying} (x : OnWire) → LinkStandsFor near far resets l → flying ≡ kept_of x
    → IsMade x → max near.took flying.number ≡ took_with l.controller.took x
took_is {l} {flying} x h first made =
    ap (λ n. max n flying.number) h.here.has.took_is ∙ ap (λ (f : Flying). max l.controller.took f.number) first ∙ by (is_rset x.frame) refl
  where
    by : (b : Bool) → is_rset x.frame ≡ b → max l.controller.took x.number ≡ took_with l.controller.took x
    by true q = rw q refl
    by false q = rw q (ap (λ n. max l.controller.took n) (made.1 q) ∙ least l.controller.took)
      where
        least : (n : ℕ) → max n 0 ≡ n
        least n = omega arith

-- the link as the frame was taken
abbrev left_with : Link → OnWire → List OnWire → Bool → Link
left_with l x xs b =
    let m : Link = with_ended (record l { to_controller = xs }) b in
    record m { controller = record m.controller { took = took_with l.controller.took x } }

taken_with : {near far : Side} {resets : ℕ} {l : Link} {xs : List OnWire} {new : Node} {wire : Buffer Flying} {took : ℕ} {e : LinkEnd}
    (x : OnWire) (b : Bool) → LinkStandsFor near far resets l → NodeStandsFor new e → length e.shdlc.due ≤ 1 → WireStandsFor wire xs
    → took ≡ took_with l.controller.took x
    → IsMidway (record near { node = new; wire = wire; took = took }) far resets (left_with l x xs b) e
taken_with x false h node few left is =
    record {
      here = record { node = node; put_is = h.here.has.put_is; took_is = is; wire_is = left };
      few = omega (arith, few);
      there = h.there;
      count = h.count;
    }
taken_with x true h node few left is =
    record {
      here = record { node = node; put_is = h.here.has.put_is; took_is = is; wire_is = left };
      few = omega (arith, few);
      there = h.there;
      count = h.count;
    }

pub taken_midway : {near far : Side} {resets : ℕ} {l : Link} {new : Node} {wire : Buffer Flying} {flying : Flying} {took : ℕ} {e : LinkEnd}
    (f : TakesFirst l wire flying) → LinkStandsFor near far resets l → NodeStandsFor new e → length e.shdlc.due ≤ 1
    → took ≡ max near.took flying.number
    → IsMidway (record near { node = new; wire = wire; took = took }) far resets (left_after l f.x f.xs) e
taken_midway {l} f h node few is =
    taken_with f.x (is_some (ended_by l.controller.side (Take f.x.frame))) h node few f.left (is ∙ took_is f.x h f.first f.made)

-- its LPDU is read as this frame
pub reads_first : {l : Link} {wire : Buffer Flying} {flying : Flying} (f : TakesFirst l wire flying) → control_of flying.lpdu ≡ Ok f.x.frame
reads_first f = ap (λ (z : Flying). control_of z.lpdu) f.first ∙ f.made.0

-- what is noted of it, in its place
told_taken : {near far : Side} {resets : ℕ} {l : Link} {at : End} {place : Place} {took : ℕ} {mid : List Entry} (x : OnWire) (before : List Entry)
    → LinkStandsFor near far resets l → took ≡ took_with l.controller.took x → place ≡ record { at = at; session = max near.emitted took }
    → AreNoted place.at before mid
    (told (side_of place.at) place.session (report l.controller.side (Take x.frame)) (whole_acked (after_input l.controller.side (Take x.frame))))
    → AreNoted at before mid (told_of (side_of at) (record l.controller { took = took_with l.controller.took x }) (Take x.frame))
told_taken {l} {at} {took} {mid} x before h is so noted =
    let k : ℕ = whole_acked (after_input l.controller.side (Take x.frame)) in
    rw (← ap (λ n. max n took) h.here.has.put_is ∙ ap (λ n. max l.controller.emitted n) is) (rw so at noted)

took_noted : {flying : Flying} {mid : List Entry} (at : End) (x : OnWire) (before : List Entry) → flying ≡ kept_of x
    → mid ≡ before ++ entry.Took at flying.lpdu ∷ [] → AreNoted at before mid (Took (side_of at) x.frame ∷ [])
took_noted at x before first is =
    is ∙ ap (λ (f : Flying). before ++ entry.Took at f.lpdu ∷ []) first
    ∙ ap (λ z. before ++ entry.Took z (lpdu_of x.frame) ∷ []) (sym (end_is at))

pub taken : {near far near2 far2 : Side} {resets resets2 : ℕ} {l : Link} {at : End} {place : Place} {wire : Buffer Flying} {flying : Flying}
    {took : ℕ} {before mid then now : List Entry} (f : TakesFirst l wire flying) → LinkStandsFor near far resets l
    → took ≡ max near.took flying.number → place ≡ record { at = at; session = max near.emitted took }
    → mid ≡ before ++ entry.Took at flying.lpdu ∷ []
    → AreNoted place.at mid then
    (told (side_of place.at) place.session (report l.controller.side (Take f.x.frame)) (whole_acked (after_input l.controller.side (Take f.x.frame))))
    → (let e : LinkEnd = turn (after_input l.controller.side (Take f.x.frame)) FetchMessage in
    LinkStandsFor near2 far2 resets2 (becomes (left_after l f.x f.xs) e)
    × AreNoted at then now (puts_entries (side_of at) (left_after l f.x f.xs) (frames_out e)))
    → HasHappened near2 far2 resets2 l (Step NextFrame (FetchMessage ∷ []) GoesOut) at before now
taken {near2} {far2} {resets2} {l} {at} {before} {mid} {then} {now} f h is so push told sent =
    let e : LinkEnd = turn (after_input l.controller.side (Take f.x.frame)) FetchMessage in
    let number = is ∙ took_is f.x h f.first f.made in
    let a : List Noted = Took (side_of at) f.x.frame ∷ [] in
    let b : List Noted = told_of (side_of at) (record l.controller { took = took_with l.controller.took f.x }) (Take f.x.frame) in
    let d : List Noted = puts_entries (side_of at) (left_after l f.x f.xs) (frames_out e) in
    let q = f.wire_is in
    let link : happens_at_controller l (Step NextFrame (FetchMessage ∷ []) GoesOut) ≡ becomes (left_after l f.x f.xs) e = rw q refl in
    let notes : here_entries (side_of at) l (Step NextFrame (FetchMessage ∷ []) GoesOut) ≡ taken_entries (side_of at) l f.x f.xs (FetchMessage ∷ []) GoesOut =
    rw q refl in
    let R : Link → Type 0 = λ k. LinkStandsFor near2 far2 resets2 k in
    let T : List Noted → Type 0 = λ ns. AreNoted at before now ns in
    record {
      stands = subst R (sym link) sent.0;
      noted = subst T (sym notes)
          (more_noted at before a (b ++ d) (took_noted at f.x before f.first push)
          (more_noted at mid b d (told_taken f.x mid h number so told) sent.1));
    }
