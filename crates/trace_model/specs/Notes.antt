-- Entries that are noted with the bytes of their message beside them.
use Rattle.std.specs.Prelude.{◌≡◌, ℕ, List, []}
use Rattle.trace_model.specs.declared.entry.Entry.{Entry}
use Rattle.trace_model.specs.declared.entry.Entry.TheVariants.{Head, Echo, Up, Down, Active, GaveUp, Sent, Got, Acked, Emit, Took, Lost, Turn, Held, Ask}
use Rattle.trace_model.specs.declared.entry.Entry.TheVariants.{Dropped, Command, AnyOk, InitSame, InitMade, InitFailed, Cut, Booted, Tables, Settled, No}

-- an entry that is handed without the bytes of its message; where its form has no message, there are no bytes beside it
abbrev pub IsNote : Entry → List ℕ → Type 0
IsNote (Sent at session pid message) body = message ≡ []
IsNote (Got at session pid message) body = message ≡ []
IsNote (Turn at pid message) body = message ≡ []
IsNote (Ask host message) body = message ≡ []
IsNote (Head header) body = body ≡ []
IsNote (Echo line) body = body ≡ []
IsNote (Up at session) body = body ≡ []
IsNote (Down at cause) body = body ≡ []
IsNote (Active at) body = body ≡ []
IsNote (GaveUp at tries) body = body ≡ []
IsNote (Acked at session count) body = body ≡ []
IsNote (Emit at lpdu) body = body ≡ []
IsNote (Took at lpdu) body = body ≡ []
IsNote (Lost at lpdu cause) body = body ≡ []
IsNote (Held at need spare) body = body ≡ []
IsNote (Dropped at pid) body = body ≡ []
IsNote (Command node command) body = body ≡ []
IsNote (AnyOk node count) body = body ≡ []
IsNote (InitSame at) body = body ≡ []
IsNote (InitMade at count) body = body ≡ []
IsNote (InitFailed at code) body = body ≡ []
IsNote (Cut node) body = body ≡ []
IsNote (Booted node count) body = body ≡ []
IsNote (Tables node tables) body = body ≡ []
IsNote (Settled rounds) body = body ≡ []
IsNote (No cause) body = body ≡ []

-- the entry with these bytes as its message, where its form has one
abbrev pub with_body : List ℕ → Entry → Entry
with_body body (Sent at session pid message) = Sent at session pid body
with_body body (Got at session pid message) = Got at session pid body
with_body body (Turn at pid message) = Turn at pid body
with_body body (Ask host message) = Ask host body
with_body body (Head header) = Head header
with_body body (Echo line) = Echo line
with_body body (Up at session) = Up at session
with_body body (Down at cause) = Down at cause
with_body body (Active at) = Active at
with_body body (GaveUp at tries) = GaveUp at tries
with_body body (Acked at session count) = Acked at session count
with_body body (Emit at lpdu) = Emit at lpdu
with_body body (Took at lpdu) = Took at lpdu
with_body body (Lost at lpdu cause) = Lost at lpdu cause
with_body body (Held at need spare) = Held at need spare
with_body body (Dropped at pid) = Dropped at pid
with_body body (Command node command) = Command node command
with_body body (AnyOk node count) = AnyOk node count
with_body body (InitSame at) = InitSame at
with_body body (InitMade at count) = InitMade at count
with_body body (InitFailed at code) = InitFailed at code
with_body body (Cut node) = Cut node
with_body body (Booted node count) = Booted node count
with_body body (Tables node tables) = Tables node tables
with_body body (Settled rounds) = Settled rounds
with_body body (No cause) = No cause
