-- The form of a program's lines. Source: this project's own.
use Rattle.std.specs.Prelude.{ℕ, ◌==◌, ◌||◌, Bool, true, false, nat_lt, if◌then◌else◌}
use Rattle.mc_program.specs.declared.logs.LogOption.{LogOption}
use Rattle.mc_program.specs.declared.logs.LogOption.TheVariants as option
use Rattle.mc_program.specs.declared.logs.Form.{Form}
use Rattle.mc_program.specs.declared.logs.Form.TheVariants.{Json, Plain, Timed}
use Rattle.mc_program.specs.declared.logs.Spelling.{Spelling}
use Rattle.mc_program.specs.declared.logs.Spelling.TheVariants.{Escaped, Itself, Number}

-- the form that the option asks for, given whether a terminal or the journal shows the lines
abbrev pub form_by : LogOption → Bool → Form
form_by option.Nothing shown = Plain
form_by option.Text true = Plain
form_by option.Text false = Timed
form_by option.Json shown = Json

-- the spelling of a character in a JSON text: a quotation mark (34) and a backslash (92) behind a backslash, a control
-- character by its number
-- source: RFC 8259, section 7
abbrev pub spelling_of : ℕ → Spelling
spelling_of c = if c == 34 || c == 92 then Escaped else if nat_lt c 32 then Number else Itself
