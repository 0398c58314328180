use Rattle.flash_nv.proofs.Words.{Option, ap, data_byte, drop, get_or-drop, get_or-take, slice_index, sym, version_of, version_on, ℕ, ◌∙◌}
use Rattle.flash_nv.proofs.ContentLemmas.{image_header, image_byte}
use Rattle.flash_nv.proofs.sector.read_sector.Goals as goal

pub returns-clause-version : goal.returns-clause-version
returns-clause-version g c = λ tells.
    let cells = g.F.Flash.cells c.args.flash.now in
    c.version_of.ensures
    ∙ ap version_of (c.copy_from_slice.ensures.after ∙ image_header cells c.read.new.buf c.in-Some.page (c.in_ok-read.ensures.read tells))
    ∙ ap (version_on cells) (sym c.in-Some.is)

pub returns-clause-bytes : goal.returns-clause-bytes
returns-clause-bytes g c = λ tells j small.
    let cells = g.F.Flash.cells c.args.flash.now in
    let buf = c.read.new.buf in
    ap (λ xs. slice_index xs j) c.copy_from_slice-2.ensures.after ∙ get_or-take 256 (drop 18 buf) j 0 small ∙ get_or-drop 18 buf j 0
    ∙ image_byte cells buf c.in-Some.page (c.in_ok-read.ensures.read tells) j small
    ∙ ap (λ (o : Option ℕ). data_byte cells o j) (sym c.in-Some.is)
