use Rattle.flash_nv.proofs.Words.{AreSteps, FlashMemory, IsKeptBeside, ap, content_byte, false≢true, length, refl, sectors, subst, sym, ◌∙◌, ◌≡◌}
use Rattle.flash_nv.specs.Steps.{IsMapBegun}
use Rattle.flash_nv.proofs.PutLemmas.{not_ok}
use Rattle.flash_nv.proofs.ContentLemmas.{written_front, torn_front}
use Rattle.flash_nv.proofs.memory.FlashNvNv.write.Goals as goal

pub returns-in_err-know_pages-clause-step : goal.returns-in_err-know_pages-clause-step
returns-in_err-know_pages-clause-step g c = rw (not_ok c.from_residual.result c.from_residual.ensures.0) (record {
  known = c.in_err-know_pages.ensures.known;
  put = λ tells ok. absurd (false≢true ok);
  told = λ tells. torn_front (g.F.Flash.cells c.args.self.now.flash) (g.F.Flash.cells c.know_pages.new.self.flash) 65536 c.args.at (length c.args.bytes.now)
      c.requires (λ i small out. ap (λ xs. content_byte xs i) (c.in_err-know_pages.ensures.kept tells));
})

pub returns-in-Ok-clause-step : goal.returns-in-Ok-clause-step
returns-in-Ok-clause-step g c = record {
  known = refl;
  put = λ tells ok.
      let cells = g.F.Flash.cells in
      let flash = ap (λ (m : FlashMemory g.row.F.Denot). m.flash) c.self.view_is in
      let known = ap (λ (m : FlashMemory g.row.F.Denot). m.known) c.self.view_is in
      let map = ap (λ (m : FlashMemory g.row.F.Denot). m.map) c.self.view_is in
      let same : cells c.self.inside.flash ≡ cells c.args.self.now.flash = ap cells flash ∙ c.in_ok-know_pages.ensures.kept tells in
      let pages = c.self.invariant.pages tells (known ∙ c.in_ok-know_pages.ensures.known) in
      record {
        first = c.self.inside.map;
        begun = subst (λ m. IsMapBegun cells c.args.self.now m) (sym map) (c.in_ok-know_pages.ensures.begun tells);
        steps = subst (λ xs. AreSteps (sectors c.args.at (length c.args.bytes.now)) c.args.at c.args.bytes.now xs c.self.inside.map
            (cells c.write_bytes.new.flash) c.write_bytes.new.map) same (c.in-Ok.ensures.steps tells (c.self.invariant.clean tells) pages);
      };
  told = λ tells.
      let cells = g.F.Flash.cells in
      let flash = ap (λ (m : FlashMemory g.row.F.Denot). m.flash) c.self.view_is in
      let known = ap (λ (m : FlashMemory g.row.F.Denot). m.known) c.self.view_is in
      let same : cells c.self.inside.flash ≡ cells c.args.self.now.flash = ap cells flash ∙ c.in_ok-know_pages.ensures.kept tells in
      let clean = c.self.invariant.clean tells in
      let pages = c.self.invariant.pages tells (known ∙ c.in_ok-know_pages.ensures.known) in
      let kept = subst (λ xs. IsKeptBeside xs (cells c.write_bytes.new.flash) c.args.at (length c.args.bytes.now)) same
      (c.in-Ok.ensures.kept tells clean pages) in
      written_front (cells c.args.self.now.flash) (cells c.write_bytes.new.flash) 65536 c.args.at c.args.bytes.now c.requires kept.beside
      (c.in-Ok.ensures.there tells clean pages);
}

pub returns-in-Err-Failed-clause-step : goal.returns-in-Err-Failed-clause-step
returns-in-Err-Failed-clause-step g c = record {
  known = refl;
  put = λ tells ok. absurd (false≢true ok);
  told = λ tells.
      let cells = g.F.Flash.cells in
      let flash = ap (λ (m : FlashMemory g.row.F.Denot). m.flash) c.self.view_is in
      let known = ap (λ (m : FlashMemory g.row.F.Denot). m.known) c.self.view_is in
      let same : cells c.self.inside.flash ≡ cells c.args.self.now.flash = ap cells flash ∙ c.in_ok-know_pages.ensures.kept tells in
      let kept = subst (λ xs. IsKeptBeside xs (cells c.write_bytes.new.flash) c.args.at (length c.args.bytes.now)) same
      (c.in-Err-Failed.ensures.kept tells (c.self.invariant.clean tells) (c.self.invariant.pages tells (known ∙ c.in_ok-know_pages.ensures.known))) in
      torn_front (cells c.args.self.now.flash) (cells c.write_bytes.new.flash) 65536 c.args.at (length c.args.bytes.now) c.requires kept.beside;
}

pub returns-in-Err-Spent-clause-step : goal.returns-in-Err-Spent-clause-step
returns-in-Err-Spent-clause-step g c = record {
  known = refl;
  put = λ tells ok. absurd (false≢true ok);
  told = λ tells.
      let cells = g.F.Flash.cells in
      let flash = ap (λ (m : FlashMemory g.row.F.Denot). m.flash) c.self.view_is in
      let known = ap (λ (m : FlashMemory g.row.F.Denot). m.known) c.self.view_is in
      let same : cells c.self.inside.flash ≡ cells c.args.self.now.flash = ap cells flash ∙ c.in_ok-know_pages.ensures.kept tells in
      let kept = subst (λ xs. IsKeptBeside xs (cells c.write_bytes.new.flash) c.args.at (length c.args.bytes.now)) same
      (c.in-Err-Spent.ensures.kept tells (c.self.invariant.clean tells) (c.self.invariant.pages tells (known ∙ c.in_ok-know_pages.ensures.known))) in
      torn_front (cells c.args.self.now.flash) (cells c.write_bytes.new.flash) 65536 c.args.at (length c.args.bytes.now) c.requires kept.beside;
}
