use Rattle.flash_nv.specs.Pages.{version_of}
use Rattle.flash_nv.proofs.header.version_of.Goals as goal

pub returns : goal.returns
unfolding version_of
returns c = c.from_be_bytes.ensures
