use Rattle.swp_words.proofs.Words.{length, record_lines}
use Rattle.swp_words.proofs.Recording.{map_ok}
use Rattle.swp_words.proofs.decoding.DecodingRecordReader.write_out.Goals as goal

pub returns-clause-wrote : goal.returns-clause-wrote
returns-clause-wrote g c =
    map_ok _ _ c.flush.result (λ wrote earlier read before h told. wrote (length (record_lines earlier)) (record_lines read) before h.lines told)
    c.flush.ensures.wrote
