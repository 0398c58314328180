use Rattle.node_laws.proofs.Words.{beginning, sending}
use Rattle.node_laws.proofs.readings.Sites.{comes_reads, acts_reads, sending_may, beginning_may, ticks_read, cut_reads, boot_reads, others_read}
use Rattle.node_laws.proofs.notices_and_commands.a_host_keeps_the_command_that_is_read.Goals as goal

pub returns : goal.returns
returns c = record {
  comes = comes_reads;
  sends = λ t s r m host keeps node taken. acts_reads t s r (sending s.host m) host keeps node (sending_may s.host s.link.host.side m taken);
  begins = λ t s r identity pipes host keeps node taken short.
      acts_reads t s r (beginning identity pipes) host keeps node (beginning_may s.host s.link.host.side identity pipes taken short);
  ticks = ticks_read;
  cut = cut_reads;
  boots = boot_reads;
  others = others_read;
}
