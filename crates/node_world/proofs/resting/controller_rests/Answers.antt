use Rattle.node_world.proofs.LinksRest.{controller_is_new, controller_says}
use Rattle.node_world.proofs.resting.controller_rests.Goals as goal

pub returns-in-On : goal.returns-in-On
returns-in-On c w world may timely =
    controller_says w may c.args.controller.now world.controller c.in-On.node c.is_at_rest.result c.in-On.is c.is_at_rest.ensures

pub returns-in-Off : goal.returns-in-Off
returns-in-Off c w world may timely = controller_is_new w may c.args.controller.now world.controller _ timely c.in-Off.is
