use Rattle.swp_crc.proofs.Entries.{entries_before_two}
use Rattle.swp_crc.proofs.table.entry_before_two.Goals as goal

pub returns : goal.returns
returns c = entries_before_two c.args.byte c.ranges.byte.fits
