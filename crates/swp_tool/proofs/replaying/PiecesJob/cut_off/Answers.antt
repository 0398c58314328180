-- What was read goes on, and the transcript of its whole lines was written.
use Rattle.swp_tool.proofs.Ending.{whole_transcript, is_running}
use Rattle.swp_tool.proofs.replaying.PiecesJob.cut_off.Goals as goal

pub returns-clause-ends : goal.returns-clause-ends
returns-clause-ends c tells given o input left before after under =
    let p = c.args.self.now in (
      under.text,
      (
        under.bytes,
        under.input_is,
        whole_transcript p under.bytes under.text under.read under.gathered,
        is_running p under.bytes under.text under.read c.requires.goes,
      ),
      under.after_is,
    )
