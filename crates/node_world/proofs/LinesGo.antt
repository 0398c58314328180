-- What becomes of a line at which one thing happens, or which is refused.
use Rattle.std.specs.Prelude.{Contains, IsTrue}
use Rattle.std.proofs.lemmas.List.Elements.{All-contains, All-from_recursion}
use Rattle.node_world.proofs.Words.{AllByRecursion, ArrayVec, AsksReset, Bool, End, Entry, Finds, Happening, Header, HostSite, HostsPlayed, IsNodeOf, IsThere}
use Rattle.node_world.proofs.Words.{IsWithinBounds, Line, LineOutcome, LinePlayed, LinkEnd, List, Loses, Loss, LostFor, MayPlay, NoCause, NodeWorld, None}
use Rattle.node_world.proofs.Words.{Occurred, OnWire, Option, Power, Running, Same, Site, SitesAre, SitesBecome, Some, Takes, WasRefused, WorldBecomes, WorldIs}
use Rattle.node_world.proofs.Words.{[], append-nil, arith, eq-eqb, false, first_verdict, frames_at, goes_on, hosts_in, if_off, is_damaging, is_running, is_some}
use Rattle.node_world.proofs.Words.{length, line_step, list_any, machine_in, misread_in, node_at, node_of, option_map, refl, refusal_coming, refusal_in}
use Rattle.node_world.proofs.Words.{reset_noted, site_at, subst, sym, true, true≢false, world_step, ℕ, ◌++◌, ◌==◌, ◌∙◌, ◌∷◌, ◌≡◌, ◌≢◌}
use Rattle.link_laws.specs.machine.Machine.{reset_refusal}
use Rattle.trace_model.specs.declared.entry.Entry.TheVariants as note
use Rattle.node_machine.specs.world.Lines.{first_cause}
use Rattle.trace_model.specs.declared.entry.NoCause.TheVariants as no
use Rattle.trace_model.specs.declared.line.Line.TheVariants as line
use Rattle.link_end.specs.Reports.{reset_refused}
use Rattle.history.specs.Follows.{as_noted, if_empty, if_out_of_reach}
use Rattle.link_wires.specs.declared.finding.Damaged.{Damaged}
use Rattle.link_wires.specs.declared.finding.Damaged.TheVariants as found
use Rattle.node_world.proofs.FewInWorlds.{longer}

-- ## What is asked

pub within : {header : Header} {said : Line} {w : NodeWorld} → MayPlay header said w → IsWithinBounds w
within {header} {said} {w} may = record { goes_on = may.goes_on; few = longer 250000000 300000000 w (omega arith) may.few }

none_there : (h : ℕ) (sites : List Site) → site_at sites h ≡ None → AllByRecursion (λ k. (k == h) ≡ false) (hosts_in sites)
none_there h [] q = tt
none_there h (x ∷ sites) q = let h0 = x.host == h in let h1 = none_there h sites in grind arith

-- a host of the header is there
pub is_there : {header : Header} {said : Line} {w : NodeWorld} (h : ℕ) → MayPlay header said w → Contains header.hosts.items h → IsThere h w
is_there {header} {said} {w} h may known = go (site_at w.sites h) refl
  where
    go : (o : Option Site) → site_at w.sites h ≡ o → IsThere h w
    go (Some s) q = (s, q)
    go None q =
        let P : ℕ → Type 0 = λ k. (k == h) ≡ false in
        let off = All-contains P (hosts_in w.sites) h (All-from_recursion P (hosts_in w.sites) (none_there h w.sites q)) (grind arith) in
        absurd (true≢false (sym (eq-eqb h h refl) ∙ off))

-- ## What becomes of it

abbrev pub one_step : NodeWorld → Happening → NodeWorld × LineOutcome
one_step w c = ((world_step w c).0, Occurred (record { cause = c; entries = (world_step w c).1 } ∷ []))

refused_is : (w : NodeWorld) (said : Line) (cause : NoCause) → refusal_in w said ≡ Some cause → line_step w said ≡ (w, WasRefused cause)
refused_is w said cause e = rw e refl

goes_is : (w : NodeWorld) (said : Line) → refusal_in w said ≡ None → line_step w said ≡ goes_on w said
goes_is w said e = rw e refl

module _ (w : NodeWorld) (said : Line) (k : Power) (ks : List HostSite) where
  pub world_refused : (cause : NoCause) (now : List Entry) → refusal_in w said ≡ Some cause → WorldIs k ks w
      → now ≡ note.No cause ∷ [] → LinePlayed k ks now (line_step w said)
  world_refused cause now e world noted = rw (refused_is w said cause e) (record { world = world; told = noted })

  pub world_goes : (c : Happening) (now : List Entry) → goes_on w said ≡ one_step w c → refusal_in w said ≡ None → WorldBecomes k ks [] now (world_step w c)
      → LinePlayed k ks now (line_step w said)
  world_goes c now one e b = rw (goes_is w said e ∙ one) (record { world = b.world; told = b.noted ∙ sym (append-nil (world_step w c).1) })

module _ (w : NodeWorld) (said : Line) (ks : List HostSite) where
  pub hosts_refused : (cause : NoCause) (now : List Entry) → refusal_in w said ≡ Some cause → SitesAre ks w.sites
      → now ≡ note.No cause ∷ [] → HostsPlayed ks now (line_step w said)
  hosts_refused cause now e sites noted = rw (refused_is w said cause e) (record { sites = sites; told = noted })

  pub hosts_go : (c : Happening) (now : List Entry) → goes_on w said ≡ one_step w c → refusal_in w said ≡ None
      → SitesBecome ks [] now (world_step w c) → HostsPlayed ks now (line_step w said)
  hosts_go c now one e b = rw (goes_is w said e ∙ one) (record { sites = b.sites; told = b.noted ∙ sym (append-nil (world_step w c).1) })

-- What becomes of a line where what was noted before is nothing, and what its refusal says of the nodes.

-- ## Nodes that run

pub off_is : (w : NodeWorld) (n : ℕ) → is_running w n ≡ false → if_off w n ≡ Some no.Off
off_is w n e = rw e refl

pub on_is : (w : NodeWorld) (n : ℕ) → is_running w n ≡ true → if_off w n ≡ None
on_is w n e = rw e refl

-- why a line is refused that takes or loses the first frame on the way to an end
module _ (w : NodeWorld) (e : End) where
  pub off_takes_none : is_running w (node_of e) ≡ false → refusal_in w (line.Lose e) ≡ Some no.Off
  off_takes_none off = rw off refl

  pub bare_takes_none : is_running w (node_of e) ≡ true → length (frames_at w e) ≡ 0 → refusal_in w (line.Lose e) ≡ Some no.Empty
  bare_takes_none on none = rw on (go (frames_at w e) none)
    where
      go : (xs : List OnWire) → length xs ≡ 0 → if_empty xs ≡ Some no.Empty
      go [] q = refl
      go (x ∷ xs) q = cc

  pub takes_one : is_running w (node_of e) ≡ true → length (frames_at w e) ≢ 0 → refusal_in w (line.Lose e) ≡ None
  takes_one on some = rw on (go (frames_at w e) some)
    where
      go : (xs : List OnWire) → length xs ≢ 0 → if_empty xs ≡ None
      go [] q = absurd (q refl)
      go (x ∷ xs) q = refl

pub stands_there : (o : Option Running) → is_some o ≡ true → o ≢ None
stands_there o e none = grind arith

pub stands_not : (o : Option Running) → is_some o ≡ false → o ≡ None
stands_not o e = grind arith

-- ## What becomes of a line

module _ (w : NodeWorld) (said : Line) (k : Power) (ks : List HostSite) (before now : List Entry)
    (none : before ≡ []) where
  pub line_refused : (cause : NoCause) → refusal_in w said ≡ Some cause → WorldIs k ks w
      → now ≡ before ++ note.No cause ∷ [] → LinePlayed k ks now (line_step w said)
  line_refused cause e world noted = grind arith

  pub line_goes : (c : Happening) → goes_on w said ≡ one_step w c → refusal_in w said ≡ None → WorldBecomes k ks before now (world_step w c)
      → LinePlayed k ks now (line_step w said)
  line_goes c one e b = world_goes w said k ks c now one e (rw none at b)

-- ## A node of the header

any_found : (h : ℕ) (sites : List Site) → IsTrue (list_any (λ k. k == h) (hosts_in sites)) → (s : Site) × (site_at sites h ≡ Some s)
any_found h [] q = absurd (true≢false (sym q))
any_found h (x ∷ sites) q = go (x.host == h) refl (any_found h sites)
  where
    go : (b : Bool) → (x.host == h) ≡ b
        → (IsTrue (list_any (λ k. k == h) (hosts_in sites)) → (s : Site) × (site_at sites h ≡ Some s))
        → (s : Site) × (site_at (x ∷ sites) h ≡ Some s)
    go true e later = (x, rw e refl)
    go false e later = let r = later (rw e at q) in (r.0, rw e r.1)

pub node_known : (w : NodeWorld) (hosts : List ℕ) (n : ℕ) → hosts_in w.sites ≡ hosts → IsNodeOf hosts n → (n == 0) ≡ false → IsThere n w
node_known w hosts n same known off = any_found n w.sites (subst (λ hs. IsTrue (list_any (λ k. k == n) hs)) (sym same) (rw off at known))

-- ## The first cause

pub first_is : (o p : Option NoCause) (why : NoCause) → o ≡ Some why → first_cause o p ≡ Some why
first_is o p why e = rw e refl

pub second_is : (o p q : Option NoCause) → o ≡ None → p ≡ q → first_cause o p ≡ q
second_is o p q e f = rw e f

pub runs_refused : (w : NodeWorld) (n : ℕ) → is_running w n ≡ true → refusal_in w (line.Boot n) ≡ Some no.Running
runs_refused w n e = rw e refl

pub boots_free : (w : NodeWorld) (n : ℕ) → is_running w n ≡ false → refusal_in w (line.Boot n) ≡ None
boots_free w n e = rw e refl

-- What a line that asks for a reset is refused for, where the node of the end runs.

-- an end that isn't reset tells so in one of two ways
told_so : (e : LinkEnd) → as_noted (reset_refusal e) ≡ option_map reset_noted (option_map reset_refused (reset_refusal e))
told_so e = grind arith

pub reset_runs : (w : NodeWorld) (at : End) (window : Option ℕ) → is_running w (node_of at) ≡ true
    → refusal_in w (line.Reset at window) ≡ option_map reset_noted (refusal_coming (node_at w (node_of at)) (machine_in w at) (AsksReset window))
reset_runs w at window on = grind arith

-- What becomes of a line that damages a frame, and which lines do.

-- ## Which lines damage a frame

pub is_sound : (said : Line) → ((e : End) (places : ArrayVec ℕ) → said ≡ line.Damage e places → ⊥) → is_damaging said ≡ false
is_sound said none = grind arith

-- no other frame is read at a line that damages none
pub sound_reads : (w : NodeWorld) (said : Line) → is_damaging said ≡ false → misread_in w said ≡ None
sound_reads w said q = grind arith

-- ## What becomes of it

-- the frame that is read in place of another, where this was found
abbrev pub read_there : Damaged → Option (List ℕ)
read_there (found.Undetected other) = Some other.read
read_there d = None

module _ (w : NodeWorld) (e : End) (places : ArrayVec ℕ) where
  pub off_refused : is_running w (node_of e) ≡ false → refusal_in w (line.Damage e places) ≡ Some no.Off
  off_refused q = first_is (if_off w (node_of e)) (if_out_of_reach (frames_at w e) places.items) no.Off (off_is w (node_of e) q)

  pub on_refused : (o : Option NoCause) → is_running w (node_of e) ≡ true → if_out_of_reach (frames_at w e) places.items ≡ o
      → refusal_in w (line.Damage e places) ≡ o
  on_refused o q found = second_is (if_off w (node_of e)) (if_out_of_reach (frames_at w e) places.items) o (on_is w (node_of e) q) found

  pub misread_not : (cause : NoCause) → refusal_in w (line.Damage e places) ≡ Some cause → misread_in w (line.Damage e places) ≡ None
  misread_not cause q = rw q refl

  pub same_is : first_verdict (frames_at w e) places.items ≡ Some Same → is_running w (node_of e) ≡ true
      → goes_on w (line.Damage e places) ≡ one_step w (Takes e)
  same_is q can = rw (q, can) refl

  pub lost_is : (why : Loss) → first_verdict (frames_at w e) places.items ≡ Some (LostFor why)
      → goes_on w (line.Damage e places) ≡ one_step w (Loses e why)
  lost_is why q = rw q refl

  pub finds_read : (d : Damaged) → is_running w (node_of e) ≡ true → Finds (frames_at w e) places.items d
      → misread_in w (line.Damage e places) ≡ read_there d
  finds_read d on f = grind arith
