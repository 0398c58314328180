-- What an end sent, got and had acknowledged in a session, read off the entries.
use Rattle.std.specs.Prelude.{ℕ, ◌==◌, ◌&&◌, Bool, true, false, if◌then◌else◌, List, [], ◌∷◌, max}
use Rattle.link_laws.specs.machine.Machine.{Message}
use Rattle.link_laws.specs.entries.Entries.{End, Entry}
use Rattle.link_laws.specs.entries.Entries.End.{Controller, Host}
use Rattle.link_laws.specs.entries.Entries.Entry.{Sent, Got, Acked}

-- it is the same end
abbrev pub same_link_end : End → End → Bool
same_link_end Controller Controller = true
same_link_end Host Host = true
same_link_end Controller Host = false
same_link_end Host Controller = false

-- the messages that an end was given in the session with a number, in order
abbrev pub sent_noted : List Entry → End → ℕ → List Message
sent_noted [] who n = []
sent_noted (Sent e k m ∷ t) who n = if same_link_end e who && (k == n) then m ∷ sent_noted t who n else sent_noted t who n
sent_noted (_ ∷ t) who n = sent_noted t who n

-- the messages that an end got in it
abbrev pub got_noted : List Entry → End → ℕ → List Message
got_noted [] who n = []
got_noted (Got e k m ∷ t) who n = if same_link_end e who && (k == n) then m ∷ got_noted t who n else got_noted t who n
got_noted (_ ∷ t) who n = got_noted t who n

-- how many messages of an end are acknowledged in it: the greatest number that was noted, or 0
abbrev pub acked_noted : List Entry → End → ℕ → ℕ
acked_noted [] who n = 0
acked_noted (Acked e k acked ∷ t) who n = if same_link_end e who && (k == n) then max acked (acked_noted t who n) else acked_noted t who n
acked_noted (_ ∷ t) who n = acked_noted t who n
