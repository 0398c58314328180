-- A piece comes to a node alone.
use Rattle.swp_words.proofs.Words.{Began, Bool, EndedAlone, List, OneEnd, Status, append_assoc, arith, length, length-append, subst, sym, ℕ, ◌++◌, ◌∙◌}
use Rattle.swp_words.specs.declared.status.Status.TheVariants as status
use Rattle.swp_words.specs.Ends.{EndedInBytes}
use Rattle.swp_words.proofs.Recording.{piece_fits}
use Rattle.swp_words.proofs.lone.EndingJob.take.Goals as goal

ended : {N : Type 0} (writes : N → ℕ → List ℕ → Bool → N → Type 0) (tells : Bool) (given : ℕ) (o : Began N) (e : OneEnd N)
    (count : ℕ) (s : Status) (input left before after : List ℕ) → EndedInBytes writes tells given o e s input left before after
    → EndedAlone writes tells given o e count s input left before after
ended writes tells given o e count status.WriteFault input left before after x = x
ended writes tells given o e count status.NvFault input left before after x = x
ended writes tells given o e count (status.TooMany n) input left before after x = x
ended writes tells given o e count status.Done input left before after x = absurd x
ended writes tells given o e count status.BadWords input left before after x = absurd x
ended writes tells given o e count (status.BadSchedule line why) input left before after x = absurd x
ended writes tells given o e count (status.Undetected line) input left before after x = absurd x
ended writes tells given o e count status.ReadFault input left before after x = absurd x
ended writes tells given o e count status.NoMemory input left before after x = absurd x
ended writes tells given o e count (status.BadImage why) input left before after x = absurd x

pub take_bytes-requires-clause-size : goal.take_bytes-requires-clause-size
take_bytes-requires-clause-size g c = piece_fits c.args.self.now.count (length c.args.piece.now) c.requires.size

pub returns-in-Ok-clause-on : goal.returns-in-Ok-clause-on
returns-in-Ok-clause-on g c o input rest before h =
    let piece = c.args.piece.now in
    record {
      bytes = h.bytes ++ piece;
      input_is = h.input_is ∙ sym (append_assoc h.bytes piece rest);
      counted = let l = length-append h.bytes piece in omega (arith, c.in-Ok.ensures.counted, h.counted, l);
      heard = c.in-Ok.ensures.goes o h.bytes before h.heard;
    }

pub returns-in-Err-clause-ends : goal.returns-in-Err-clause-ends
returns-in-Err-clause-ends g c given o input rest before at_once h =
    let piece = c.args.piece.now in
    let e = c.take_bytes.new.ending.end in
    let after = g.K.Sink.written c.take_bytes.new.sink in
    ended g.N.Nv.writes g.K.Sink.tells given o e c.take_bytes.new.ending.count c.in-Err.status input rest
    before after
    (subst (λ l. EndedInBytes g.N.Nv.writes g.K.Sink.tells given o e c.in-Err.status l rest before after)
    (append_assoc h.bytes piece rest ∙ sym h.input_is) (c.in-Err.ensures.ends given o h.bytes rest before h.counted at_once h.heard))
