use Rattle.std.proofs.Common.{◌++◌, ◌∙◌, ap, take, refl}
use Rattle.swp_tool.proofs.generating.generate.Goals as goal

pub returns-in-Ok-write_all-clause-generated : goal.returns-in-Ok-write_all-clause-generated
returns-in-Ok-write_all-clause-generated g c = (
  c.in-Ok.text.items,
  c.in-Ok.ensures,
  λ told. c.in-Ok-write_all.ensures.wrote told ∙ ap (λ l. g.K.Sink.written c.args.sink.now ++ l) c.as_slice.ensures.value,
)

pub returns-clause-generated : goal.returns-clause-generated
returns-clause-generated g c =
    let front = c.in-Err.ensures.front in
    let text = c.in-Ok.text.items in (
      take front.0 text,
      record { whole = text; summary = c.in-Ok.ensures; long = front.0; front = refl },
      λ told. front.1 told ∙ ap (λ l. g.K.Sink.written c.args.sink.now ++ take front.0 l) c.as_slice.ensures.value,
    )
