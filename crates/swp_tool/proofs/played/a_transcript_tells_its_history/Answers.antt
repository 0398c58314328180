use Rattle.swp_tool.proofs.Knowing.{tells_below}
use Rattle.swp_tool.proofs.played.a_transcript_tells_its_history.Goals as goal

pub returns : goal.returns
returns c = tells_below
