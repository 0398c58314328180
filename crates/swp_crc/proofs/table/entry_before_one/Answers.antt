use Rattle.swp_crc.proofs.Entries.{entries_before_one}
use Rattle.swp_crc.proofs.table.entry_before_one.Goals as goal

pub returns : goal.returns
returns c = entries_before_one c.args.byte c.ranges.byte.fits
