use Rattle.link_end.proofs.Words.{ShdlcStandsFor, new_link_end, new_role, subst, sym}
use Rattle.swp_base.specs.declared.link_terms.Role.{Role}
use Rattle.shdlc_core.specs.Machine.{new_end}
use Rattle.link_end.proofs.«end».End.new_shdlc.Goals as goal

pub returns-in-Bare : goal.returns-in-Bare
returns-in-Bare c =
    let P : Role → Type 0 = λ r. ShdlcStandsFor c.begin.new.self (new_link_end (new_role r)).shdlc in
    subst P (sym c.in-Bare.is) (c.begin.ensures (new_end 4) c.new-shdlc.ensures)
