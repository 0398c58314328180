use Rattle.swp_words.proofs.Words.{length, record_lines, reverse}
use Rattle.swp_words.proofs.Recording.{step_decodes}
use Rattle.swp_words.proofs.decoding.DecodingRecordReader.take_byte.Goals as goal

pub returns-clause-goes : goal.returns-clause-goes
returns-clause-goes g c earlier read before h =
    step_decodes _ c.args.byte read _ (c.in_ok-make_room.ensures.goes (length (record_lines earlier)) (record_lines read) before h.lines)
    (c.step.ensures.stands (reverse read) h.stands) (c.step.ensures.lines (reverse read) h.stands)
