use Rattle.swp_words.proofs.Recording.{map_ok}
use Rattle.swp_words.proofs.tapping.TapOnRecordReader.write_out.Goals as goal

pub returns-clause-wrote : goal.returns-clause-wrote
returns-clause-wrote g c = map_ok _ _ c.flush.result (λ wrote earlier read before h told. wrote _ _ before h.heard.lines told) c.flush.ensures.wrote
