-- What a node alone writes.
use Rattle.lone_laws.specs.alone.Ends.{EndForm}
use Rattle.lone_laws.specs.alone.Ends.EndForm.{OnLine, OnBytes}
use Rattle.one_end.specs.declared.writing.Form.{Form}
use Rattle.one_end.specs.declared.writing.Form.TheVariants as form

-- the form that is named
abbrev pub form_named : Form → EndForm
form_named form.Line = OnLine
form_named form.Bytes = OnBytes
