use Rattle.flash_nv.specs.Pages.{page_header}
use Rattle.flash_nv.proofs.header.page_header.Goals as goal

pub returns : goal.returns
unfolding page_header
returns c = rw c.to_be_bytes.ensures
