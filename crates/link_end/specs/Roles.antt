-- What goes before the link at an end, as the machine has it.
use Rattle.swp_base.specs.declared.link_terms.Role.{Role as Named}
use Rattle.swp_base.specs.declared.link_terms.Role.TheVariants.{Clf as ClfName, Uicc as UiccName, Bare as BareName}
use Rattle.swp_act.specs.declared.ActEvent.{ActEvent}
use Rattle.swp_act.specs.Activation.{IsPowerStart, new_clf, new_uicc}
use Rattle.link_laws.specs.machine.Machine.{Role, Bare, Clf, Uicc}
use Rattle.link_end.specs.declared.activation.Activation.{Activation}
use Rattle.link_end.specs.declared.activation.Activation.TheVariants.{Bare as BareEnd, Clf as ClfEnd, Uicc as UiccEnd}

abbrev pub role_of : Activation → Role
role_of BareEnd = Bare
role_of (ClfEnd s) = Clf s
role_of (UiccEnd s) = Uicc s

-- a new end of a role
abbrev pub new_role : Named → Role
new_role ClfName = Clf new_clf
new_role UiccName = Uicc new_uicc
new_role BareName = Bare

-- a start of a CLF names low or full power
abbrev pub MayStart : Role → ActEvent → Type 0
MayStart Bare event = Unit {0}
MayStart (Clf s) event = IsPowerStart event
MayStart (Uicc s) event = Unit {0}
