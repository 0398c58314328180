use Rattle.std.proofs.Common.{◌∙◌, sym, ◌∷◌, []}
use Rattle.gate_admin.proofs.ViewLemmas.{if_told-none}
use Rattle.gate_admin.proofs.pipes.if_some_told.Goals as goal

pub returns-then-tell-eq0 : goal.returns-then-tell-eq0
returns-then-tell-eq0 c = λ told is. c.new.ensures ∙ sym (if_told-none told (21 ∷ c.args.host ∷ []) (sym is ∙ c.if-tell-eq0.true))
