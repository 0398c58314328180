use Rattle.schedule_text.proofs.Names.{HoldsWords, [], append_assoc, byte_text, codes, subst, ◌++◌, ◌∷◌, ◌≡◌}
use Rattle.tables_text.specs.Tables.{hex_or_dash}
use Rattle.schedule_text.proofs.write.write_setting.Goals as goal

pub returns : goal.returns
returns c =
    λ start first more h.
    let host = byte_text c.args.host in
    let gate = byte_text c.args.gate in
    let param = byte_text c.args.param in
    let value = hex_or_dash c.args.value.now in
    let joined : (((((more ++ codes "set" ∷ []) ++ host ∷ []) ++ gate ∷ []) ++ param ∷ []) ++ value ∷ [])
    ≡ more ++ (codes "set" ∷ host ∷ gate ∷ param ∷ value ∷ []) = simp append_assoc in
    subst (λ ws. HoldsWords start (first ∷ ws) c.write_value.new.text) joined
    (c.write_value.ensures start first _ (c.byte-3.ensures start first _
    (c.byte-2.ensures start first _ (c.byte.ensures start first _ (c.word.ensures start first more h)))))
