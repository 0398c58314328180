use Rattle.swp_words.proofs.Recording.{on_err, enough_text, front_further}
use Rattle.swp_words.proofs.gathering.gather.Goals as goal

pub returns-in_err-make_room-clause-ends : goal.returns-in_err-make_room-clause-ends
returns-in_err-make_room-clause-ends g c =
    on_err _ c.from_residual.result (λ least lines before h.
    front_further c.args.bytes.now (enough_text h) (c.in_err-make_room.ensures.ends least lines before h))
