use Rattle.told_laws.proofs.texts.ShownLemmas.{same_transcript}
use Rattle.told_laws.proofs.texts_apart.a_text_has_one_transcript.Goals as goal

pub returns : goal.returns
returns c = same_transcript
