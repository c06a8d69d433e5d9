-- What the answers of a coder's code say.
use Rattle.std.specs.Prelude.{Bool, List, Some, None, Option, Ok, Err, Result}
use Rattle.bits.specs.Bits.{bits}
use Rattle.forms.specs.Coding.{Decoding, word, dead, partial}
use Rattle.coder.specs.declared.form.Form.{Form}
use Rattle.coder.specs.declared.form.Coded.{Coded}
use Rattle.coder.specs.declared.form.Unread.{Unread}
use Rattle.coder.specs.declared.form.Unread.TheVariants.{Dead, Partial}
use Rattle.coder.specs.declared.step.Taken.{Taken}

-- the bits of a form
abbrev pub form_bits : Form → List Bool
form_bits f = bits f.len f.bits

abbrev pub wrote : {M : Type 0} → Option (Coded M) → Option (List Bool × M)
wrote None = None
wrote (Some c) = Some (form_bits c.form, c.next)

abbrev pub found : {M : Type 0} → Result (Taken M) Unread → Decoding M
found (Ok t) = word t.word t.len t.next
found (Err (Dead n)) = dead n
found (Err Partial) = partial
