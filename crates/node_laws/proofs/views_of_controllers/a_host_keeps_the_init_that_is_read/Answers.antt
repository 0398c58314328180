use Rattle.node_laws.proofs.views.InitWorlds.{begins_keeps, boot_keeps, comes_keeps, cut_keeps, sends_keeps, ticks_keep}
use Rattle.node_laws.proofs.views_of_controllers.a_host_keeps_the_init_that_is_read.Goals as goal

pub returns : goal.returns
returns c = record {
  comes = λ s i r comes input host node k is. comes_keeps s host i r node k comes input is;
  sends = λ s i r m host node k. sends_keeps s host i r node k m;
  begins = λ s i r identity pipes host node k up. begins_keeps s host i r node k identity pipes up;
  ticks = ticks_keep;
  cut = cut_keeps;
  boots = boot_keeps;
}
