-- The messages of an end that aren't acknowledged whole are those that are read to be so, and so is what both ends have to spare.
use Rattle.node_laws.proofs.Words.{AllAllowed, AreReadOff, AreSessionsRead, AsidesAreRead, End, Entry, Good, IsLine, IsLinkTold, IsReadOff, Link, LinkEvent}
use Rattle.node_laws.proofs.Words.{List, NodeWorld, NumberedEnd, Occurrence, Reached, Site, Some, Sounds, Up, [], after_link_events, ap, arith, aside_in}
use Rattle.node_laws.proofs.Words.{core_event, core_of, end_c, end_h, entries_in, eqb, event_entries, event_step, false, happens, new_line, node_of, number_of}
use Rattle.node_laws.proofs.Words.{own_session, reached_more, session_now, site_at, start_good, start_reached, subst, sym, talk_now, talk_of, ℕ, ◌++◌, ◌∙◌, ◌∷◌}
use Rattle.node_laws.proofs.Words.{◌≡◌}
use Rattle.link_laws.proofs.entries.Running.{Noted, note_event, start_noted}
use Rattle.link_laws.proofs.machine.Runs.{Sound}
use Rattle.link_laws.specs.entries.Entries.{Entry as Note, first_entries}
use Rattle.node_laws.specs.notices.Spares.{IsEndRead}
use Rattle.node_laws.specs.rooms.Rooms.{AreHeldRead, AreSparesRead, IsHeldRead}
use Rattle.node_laws.proofs.notices.Steps.{spare_is}
use Rattle.node_laws.proofs.order.Lines.{IsSo}
use Rattle.node_laws.proofs.order.Sessions.{are_read, read_off}
use Rattle.node_laws.proofs.telling.Events.{link_is, site_host, site_is}

-- ## The messages of an end that aren't acknowledged whole are those that are read to be so

-- ### Both ends are sound

all_sounds : (es : List LinkEvent) (t : List Note) (l : Link) → AllAllowed l es → Good l → Reached (core_of l) → Noted t l → Sounds (after_link_events l es)
all_sounds [] t l a g r n = n.sounds
all_sounds (e ∷ es) t l a g r n =
    let m : Link = happens l e in
    let st = event_step l e a.0 g r in
    let next : Reached (core_of m) = subst Reached (sym st.core) (reached_more (core_of l) (core_event l e) st.allowed r) in
    all_sounds es (t ++ event_entries l e) m a.1 st.good next (note_event t l e a.0 g r n).noted

run_sounds : (events : List LinkEvent) → AllAllowed new_line events → Sounds (after_link_events new_line events)
run_sounds events a =
    all_sounds events (first_entries new_line.controller.side.role) new_line a (start_good new_line IsLine) (start_reached new_line IsLine)
    (start_noted new_line IsLine)

pub told_sounds : (h : ℕ) (l : Link) (t : List Entry) → IsLinkTold h l t → Sounds l
told_sounds h l t a = subst Sounds a.run.is (run_sounds a.events a.run.allowed)

-- ### One end

module _ (t : List Entry) (e : End) (k : NumberedEnd) (reads : (n : ℕ) → IsReadOff t e n (talk_of k n)) (sound : Sound k.side) where
  now : k.side.shdlc.phase ≡ Up → IsReadOff t e (number_of k) (talk_now k.side)
  now up = grind arith

  none : (k.side.shdlc.phase ≡ Up → ⊥) → k.side.sent ≡ []
  none down = sound.is.forgot down

  pub held_is : IsHeldRead t e k
  held_is = grind arith

  -- with its session and the block that is set aside all of it is read
  pub end_is : session_now t e (node_of e) ≡ own_session k → aside_in t e ≡ k.side.aside → IsEndRead t e k
  end_is session aside = record { session = session; sent = λ up. (now up).sent; acked = λ up. (now up).acked; none = none; aside = aside }

-- ### A link that is told

module _ (h : ℕ) (l : Link) (t : List Entry) (a : IsLinkTold h l t) where
  reads : AreReadOff t h l
  reads = read_off h l t a

  sounds : Sounds l
  sounds = told_sounds h l t a

  pub held : AreHeldRead t h l
  held = record {
    controller = held_is t (end_c h) l.controller reads.controller sounds.controller;
    host = held_is t (end_h h) l.host reads.host sounds.host;
  }

  pub controller_end : session_now t (end_c h) 0 ≡ own_session l.controller → aside_in t (end_c h) ≡ l.controller.side.aside
      → IsEndRead t (end_c h) l.controller
  controller_end = end_is t (end_c h) l.controller reads.controller sounds.controller

  host_end : session_now t (end_h h) h ≡ own_session l.host → aside_in t (end_h h) ≡ l.host.side.aside → IsEndRead t (end_h h) l.host
  host_end = end_is t (end_h h) l.host reads.host sounds.host

-- ## Of worlds of nodes: what both ends of each link have to spare

-- the sessions of both ends of a link are read
sessions_read : (hosts : List ℕ) (os : List Occurrence) (w : NodeWorld) (h : ℕ) (s : Site) → IsSo hosts os w → site_at w.sites h ≡ Some s
    → AreSessionsRead (entries_in os) h s.link
sessions_read hosts os w h s a here =
    let number : eqb h 0 ≡ false =
    ap (λ n. eqb n 0) (sym (site_host w.sites h s here)) ∙ site_is (λ (x : Site). eqb x.host 0 ≡ false) w.sites h s a.well.orderly.hosts here in
    are_read h s.link (entries_in os) number (a.each h s here).told

-- where so are the blocks that are set aside, so is what both ends have to spare
pub spares_read : (hosts : List ℕ) (os : List Occurrence) (w : NodeWorld) (h : ℕ) (s : Site) → IsSo hosts os w → AsidesAreRead (entries_in os) w
    → site_at w.sites h ≡ Some s → AreSparesRead (entries_in os) h s.link
spares_read hosts os w h s a asides here =
    let t : List Entry = entries_in os in
    let told : IsLinkTold h s.link t = (a.each h s here).told in
    let sessions : AreSessionsRead t h s.link = sessions_read hosts os w h s a here in
    let link = link_is w.sites h s here in
    record {
      controller = spare_is t (end_c h) s.link.controller
          (controller_end h s.link t told sessions.controller ((asides h).0 ∙ ap (λ (l : Link). l.controller.side.aside) link));
      host = spare_is t (end_h h) s.link.host
          (host_end h s.link t told sessions.host ((asides h).1 ∙ ap (λ (l : Link). l.host.side.aside) link));
    }
