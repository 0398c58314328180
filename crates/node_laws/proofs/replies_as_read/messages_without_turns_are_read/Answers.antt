use Rattle.node_laws.proofs.Words.{end_c, end_h, node_entries}
use Rattle.node_laws.proofs.turns.Worlds.{in_turn, left_at_controller, left_at_host}
use Rattle.node_laws.proofs.answers.Rules.{all_read, first_read, left_is}
use Rattle.node_laws.proofs.replies_as_read.messages_without_turns_are_read.Goals as goal

pub returns-clause-moments : goal.returns-clause-moments
returns-clause-moments c header lines t follows different some front back e at =
    all_read e (node_entries t) front back (in_turn header lines t follows different some) at

pub returns-clause-first : goal.returns-clause-first
returns-clause-first c header lines t follows different some front back e pid message at =
    first_read e (node_entries t) front back pid message (in_turn header lines t follows different some) at

pub returns-clause-hosts : goal.returns-clause-hosts
returns-clause-hosts c header lines t follows different some h s r here runs =
    left_is (end_h h) (node_entries t) s.link.host.side.got (in_turn header lines t follows different some)
    (left_at_host header lines t follows different some h s r here runs)

pub returns-clause-controller : goal.returns-clause-controller
returns-clause-controller c header lines t follows different some h s r here runs =
    left_is (end_c h) (node_entries t) s.link.controller.side.got (in_turn header lines t follows different some)
    (left_at_controller header lines t follows different some h s r here runs)
