use Rattle.swp_words.proofs.Words.{DecoderStandsFor, S1, S2, [], ap, append_assoc, frame_given, record_frames, reverse, subst, sym, ◌++◌, ◌∙◌, ◌∷◌}
use Rattle.swp_words.proofs.Recording.{map_err, map_ok, newest}
use Rattle.swp_words.proofs.Hearing.{byte_frames, front_as, heard_as}
use Rattle.swp_words.proofs.tapping.TapOnRecordReader.take_byte.Goals as goal

pub returns-clause-ends : goal.returns-clause-ends
returns-clause-ends g c =
    map_err _ _ c.hear_frames.result (λ ends earlier read rest before h.
    let byte = c.args.byte in
    let first = frame_given S1 (byte ∷ reverse read) in
    let second = frame_given S2 (byte ∷ reverse read) in
    let all = ap (λ l. record_frames read ++ l)
    (c.hear.ensures.heard (reverse read) h.decoder ∙ ap (λ l. (l ++ first) ++ second) c.clear.ensures) ∙ sym (byte_frames read byte) in
    record {
      bytes = read ++ byte ∷ [];
      rest = rest;
      input_is = sym (append_assoc read (byte ∷ []) rest);
      front = front_as _ _ _ all (ends _ _ (record_frames read) before h.heard);
    }) c.hear_frames.ensures.ends

pub returns-clause-goes : goal.returns-clause-goes
returns-clause-goes g c =
    map_ok _ _ c.hear_frames.result (λ goes earlier read before h.
    let byte = c.args.byte in
    let first = frame_given S1 (byte ∷ reverse read) in
    let second = frame_given S2 (byte ∷ reverse read) in
    let all = ap (λ l. record_frames read ++ l)
    (c.hear.ensures.heard (reverse read) h.decoder ∙ ap (λ l. (l ++ first) ++ second) c.clear.ensures) ∙ sym (byte_frames read byte) in
    record {
      decoder = subst (λ l. DecoderStandsFor c.hear.new.self l) (sym (newest read byte)) (c.hear.ensures.stands (reverse read) h.decoder);
      heard = heard_as all (goes _ _ (record_frames read) before h.heard);
    }) c.hear_frames.ensures.goes
