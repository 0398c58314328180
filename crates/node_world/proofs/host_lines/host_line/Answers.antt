use Rattle.node_world.proofs.Words.{Asked, End, IsHostOf, NoInput, NodeWorld, None, RunsAs, Site, Some, StandsAt, Work, [], ap, begins_with, deeds_asked, false}
use Rattle.node_world.proofs.Words.{host_stepped, line_asked, message_asked, node_memory, none_noted, on_ok_weaker, refl, refusal_in, replicate}
use Rattle.node_world.proofs.Words.{sending_refused, site_at, slice_index_or, subst, sym, true, world_step, ℕ, ◌++◌, ◌==◌, ◌∙◌, ◌∷◌, ◌≡◌}
use Rattle.trace_model.specs.declared.entry.Entry.TheVariants as note
use Rattle.trace_model.specs.declared.entry.NoCause.TheVariants as no
use Rattle.node_world.proofs.HostsInWorlds.{ChangesSite, at_place, becomes, room_there, site_stands, end_is, nowhere, asked_does, asked_goes, asked_mute}
use Rattle.node_world.proofs.HostsInWorlds.{asked_there, happening_asked, stays_so, steps_there}
use Rattle.node_core.specs.Giving.{refusal_noted}
use Rattle.node_world.proofs.HostsHear.{is_on, is_off, unchanged, begins_at_end, has_end, began, is_done, is_some_host, sending_off, sending_so, still_stands}
use Rattle.node_world.proofs.LinesGo.{hosts_go, hosts_refused}
use Rattle.node_world.proofs.host_lines.host_line.Goals as goal

-- why the line is refused, by what is known of the host
refusal_so : (w : NodeWorld) (e : End) (asked : Asked) (s : Site) → e.at_host ≡ true → (e.link == 0) ≡ false → site_at w.sites e.link ≡ Some s
    → refusal_in w (line_asked e asked) ≡ sending_refused s (message_asked asked)
refusal_so w e asked s at_host off found =
    ap (λ x. refusal_in w (line_asked x asked)) (sym (end_is e at_host)) ∙ asked_there w e.link s off found asked

number_off : (s : Site) → IsHostOf s → (h : ℕ) → s.host ≡ h → (h == 0) ≡ false
number_off s host h same = sym (ap (λ n. n == 0) same) ∙ host.number

pub give-requires-clause-host : goal.give-requires-clause-host
give-requires-clause-host c =
    let w = c.requires.state.0 in
    let a : StandsAt c.in-Some.place c.args.at.link w.sites = c.in-Some.ensures.place w.sites c.requires.state.1 in
    let t = at_place c.args.sites.now w c.in-Some.place c.args.at.link a c.index-sites-place.result
    c.requires.state.1 c.index-sites-place.is c.requires.state.2 in
    is_some_host (slice_index_or c.args.sites.now c.in-Some.place c.index-sites-place.result) a.site c.in-On.node t.is t.host c.in-On.is

pub give-requires-clause-runs : goal.give-requires-clause-runs
give-requires-clause-runs c =
    let w = c.requires.state.0 in
    let k = slice_index_or c.args.sites.now c.in-Some.place c.index-sites-place.result in
    let a : StandsAt c.in-Some.place c.args.at.link w.sites = c.in-Some.ensures.place w.sites c.requires.state.1 in
    let t = at_place c.args.sites.now w c.in-Some.place c.args.at.link a c.index-sites-place.result
    c.requires.state.1 c.index-sites-place.is c.requires.state.2 in
    let here = is_on t.is c.in-On.is in
    has_end (begins_at_end k a.site c.in-On.node here.running NoInput t.is c.in-On.is here.runs)

pub finish_host-requires-clause-state : goal.finish_host-requires-clause-state
finish_host-requires-clause-state c =
    let w = c.requires.state.0 in
    let a : StandsAt c.in-Some.place c.args.at.link w.sites = c.in-Some.ensures.place w.sites c.requires.state.1 in
    let t = at_place c.args.sites.now w c.in-Some.place c.args.at.link a c.index-sites-place.result
    c.requires.state.1 c.index-sites-place.is c.requires.state.2 in
    let before = c.args.noted.now.entries.items in
    let e = c.in_default-give.ensures in
    let d = began (slice_index_or c.args.sites.now c.in-Some.place c.index-sites-place.result) _ a.site c.in-On.node c.give.new.node
    _ before _ c.give.new.noted _ (ap (replicate 8) c.session-noted.ensures) t.is t.host c.in-On.is refl refl
    (deeds_asked c.args.asked) (asked_mute c.args.asked a.site.host) e.given (e.noted _ before) (none_noted _) t.is.wires in
    (a.site, d.step, d.l, d.w, before, d.midway)

pub finish_host-requires-clause-room : goal.finish_host-requires-clause-room
finish_host-requires-clause-room c =
    let w = c.requires.state.0 in
    let a : StandsAt c.in-Some.place c.args.at.link w.sites = c.in-Some.ensures.place w.sites c.requires.state.1 in
    let t = at_place c.args.sites.now w c.in-Some.place c.args.at.link a c.index-sites-place.result
    c.requires.state.1 c.index-sites-place.is c.requires.state.2 in
    room_there (slice_index_or c.args.sites.now c.in-Some.place c.index-sites-place.result) a.site t.is t.few

pub returns-in_default-clause-stands : goal.returns-in_default-clause-stands
returns-in_default-clause-stands c w all ready there = nowhere w.sites c.args.at.link there (c.in_default.ensures.place w.sites all)

pub returns-in_default-power-clause-stands : goal.returns-in_default-power-clause-stands
returns-in_default-power-clause-stands c w all ready there =
    let k = slice_index_or c.args.sites.now c.in-Some.place c.index-sites-place.result in
    let a : StandsAt c.in-Some.place c.args.at.link w.sites = c.in-Some.ensures.place w.sites all in
    let t = at_place c.args.sites.now w c.in-Some.place c.args.at.link a c.index-sites-place.result all c.index-sites-place.is ready in
    let o = ready.goes_on.orderly in
    let before = c.args.noted.now.entries.items in
    let found = site_stands w c.in-Some.place c.args.at.link a o in
    let b = becomes c.args.sites.now w c.in-Some.place c.args.at.link a k before before (a.site, []) (w, []) o all
    (stays_so w c.in-Some.place c.args.at.link a o) (unchanged before t.is) in
    on_ok_weaker c.refuse.result
    (λ noted. hosts_refused w (line_asked c.args.at c.args.asked) _ no.Off c.refuse.new.noted.entries.items
    (refusal_so w c.args.at c.args.asked a.site c.requires.host (number_off a.site t.host c.args.at.link a.host) found
    ∙ sending_off a.site (message_asked c.args.asked) (is_off t.is c.in_default-power.not-On))
    b.sites (noted ∙ ap (λ es. es ++ note.No no.Off ∷ []) c.requires.nothing))
    c.refuse.ensures.noted

pub returns-in-Err-clause-stands : goal.returns-in-Err-clause-stands
returns-in-Err-clause-stands c w all ready there =
    let k = slice_index_or c.args.sites.now c.in-Some.place c.index-sites-place.result in
    let a : StandsAt c.in-Some.place c.args.at.link w.sites = c.in-Some.ensures.place w.sites all in
    let t = at_place c.args.sites.now w c.in-Some.place c.args.at.link a c.index-sites-place.result all c.index-sites-place.is ready in
    let before = c.args.noted.now.entries.items in
    let o = ready.goes_on.orderly in
    let found = site_stands w c.in-Some.place c.args.at.link a o in
    let same = c.in-Err.ensures.unchanged in
    let told : Some (refusal_noted c.in-Err.why) ≡ sending_refused a.site (message_asked c.args.asked) =
    sending_so k a.site c.in-On.node t.is t.host c.in-On.is (message_asked c.args.asked) (Some (refusal_noted c.in-Err.why)) c.in-Err.ensures.refusal in
    let still = still_stands k a.site c.in-On.node c.give.new.node k.wires t.is c.in-On.is t.is.wires
    (λ core ports r. subst (λ x. RunsAs x core ports) (sym same.0) r) (ap node_memory same.0) before
    c.give.new.noted.entries.items (ap (λ n. n.entries.items) same.1) in
    let b = becomes c.args.sites.now w c.in-Some.place c.args.at.link a _ before c.give.new.noted.entries.items (a.site, []) (w, []) o all
    (stays_so w c.in-Some.place c.args.at.link a o) still in
    on_ok_weaker c.refuse-in-Err.result
    (λ noted. hosts_refused w (line_asked c.args.at c.args.asked) _ (refusal_noted c.in-Err.why) c.refuse-in-Err.new.noted.entries.items
    (refusal_so w c.args.at c.args.asked a.site c.requires.host (number_off a.site t.host c.args.at.link a.host) found ∙ sym told) b.sites
    (noted ∙ (ap (λ x. c.give.new.noted.entries.items ++ note.No x ∷ []) c.cause_of.ensures
    ∙ ap (λ es. es ++ note.No (refusal_noted c.in-Err.why) ∷ []) (ap (λ n. n.entries.items) same.1 ∙ c.requires.nothing))))
    c.refuse-in-Err.ensures.noted

pub returns-clause-stands : goal.returns-clause-stands
returns-clause-stands c w all ready there =
    let k = slice_index_or c.args.sites.now c.in-Some.place c.index-sites-place.result in
    let a : StandsAt c.in-Some.place c.args.at.link w.sites = c.in-Some.ensures.place w.sites all in
    let t = at_place c.args.sites.now w c.in-Some.place c.args.at.link a c.index-sites-place.result all c.index-sites-place.is ready in
    let before = c.args.noted.now.entries.items in
    let e = c.in_default-give.ensures in
    let d = began k _ a.site c.in-On.node c.give.new.node
    _ before _ c.give.new.noted _ (ap (replicate 8) c.session-noted.ensures) t.is t.host c.in-On.is refl refl
    (deeds_asked c.args.asked) (asked_mute c.args.asked a.site.host) e.given (e.noted _ before) (none_noted _) t.is.wires in
    let o = ready.goes_on.orderly in
    let found = site_stands w c.in-Some.place c.args.at.link a o in
    let now = c.finish_host.new.noted.entries.items in
    let told : None ≡ sending_refused a.site (message_asked c.args.asked) =
    sending_so k a.site c.in-On.node t.is t.host c.in-On.is (message_asked c.args.asked) None c.in_default-give.ensures.refusal in
    let f : ℕ → Work → Work = λ n. begins_with n (deeds_asked c.args.asked n) in
    let does : ChangesSite w c.args.at.link a.site (host_stepped a.site NoInput (f a.site.host)) (world_step w (happening_asked c.args.at c.args.asked)) =
    subst (ChangesSite w c.args.at.link a.site (host_stepped a.site NoInput (f a.site.host))) (asked_does w c.args.at c.args.asked c.requires.host)
    (steps_there w c.args.at.link a.site found a.host NoInput f) in
    on_ok_weaker c.finish_host.result
    (λ b. hosts_go w (line_asked c.args.at c.args.asked) _ (happening_asked c.args.at c.args.asked) now (asked_goes w c.args.at c.args.asked)
    (refusal_so w c.args.at c.args.asked a.site c.requires.host (number_off a.site t.host c.args.at.link a.host) found ∙ sym told)
    (rw c.requires.nothing at (becomes c.args.sites.now w c.in-Some.place c.args.at.link a c.finish_host.new.site before now
    (host_stepped a.site NoInput (f a.site.host)) (world_step w (happening_asked c.args.at c.args.asked)) o all does b)))
    (is_done c.finish_host.result c.finish_host.new.site now d (c.finish_host.ensures.stands a.site d.step d.l d.w before d.midway))
