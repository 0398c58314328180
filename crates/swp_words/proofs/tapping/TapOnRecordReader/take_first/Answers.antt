use Rattle.swp_words.proofs.Words.{DecoderStandsFor, ap, drop, record_frames, reverse, reverse-append, subst, sym, take, ◌++◌, ◌∙◌}
use Rattle.swp_decode.proofs.FurtherFrames.{record_frames-append}
use Rattle.swp_words.proofs.Taken.{whole_after}
use Rattle.swp_words.proofs.Hearing.{front_as, heard_as}
use Rattle.swp_words.proofs.Recording.{on_err}
use Rattle.swp_words.proofs.tapping.TapOnRecordReader.take_first.Goals as goal

pub returns-in_err-hear_frames-clause-ends : goal.returns-in_err-hear_frames-clause-ends
returns-in_err-hear_frames-clause-ends g c =
    on_err _ c.from_residual.result (λ earlier read rest before h.
    let bytes = c.args.bytes.now in
    let n = c.hear_many-read.result in
    let all = ap (λ l. record_frames read ++ l) (c.hear_many-read.ensures.heard (reverse read) h.decoder) ∙ sym (record_frames-append read (take n bytes)) in
    record {
      bytes = read ++ take n bytes;
      rest = drop n bytes ++ rest;
      input_is = whole_after read bytes rest n;
      front = front_as _ _ _ all (c.in_err-hear_frames.ensures.ends _ _ (record_frames read) before h.heard);
    })

pub returns-clause-goes : goal.returns-clause-goes
returns-clause-goes g c earlier read before h =
    let bytes = c.args.bytes.now in
    let n = c.hear_many-read.result in
    let all = ap (λ l. record_frames read ++ l) (c.hear_many-read.ensures.heard (reverse read) h.decoder) ∙ sym (record_frames-append read (take n bytes)) in
    record {
      decoder = subst (λ l. DecoderStandsFor c.hear_many-read.new.self l) (sym (reverse-append read (take n bytes)))
          (c.hear_many-read.ensures.stands (reverse read) h.decoder);
      heard = heard_as all (c.in_ok-hear_frames.ensures.goes _ _ (record_frames read) before h.heard);
    }
