use Rattle.swp_crc.proofs.Entries.{entries_before_three}
use Rattle.swp_crc.proofs.table.entry_before_three.Goals as goal

pub returns : goal.returns
returns c = entries_before_three c.args.byte c.ranges.byte.fits
