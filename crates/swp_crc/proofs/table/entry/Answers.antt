use Rattle.swp_crc.proofs.Entries.{entries_are}
use Rattle.swp_crc.proofs.table.entry.Goals as goal

pub returns : goal.returns
returns c = entries_are c.args.byte c.ranges.byte.fits
