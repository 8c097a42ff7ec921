-- Fields of a line.
use Rattle.std.specs.Prelude.{ℕ, List}
use Rattle.frac_core.specs.Text.{text_of}
use Rattle.mps_line_writer.specs.declared.lines.Field.{Field}
use Rattle.mps_line_writer.specs.declared.lines.Field.TheVariants.{Word, Number}

abbrev pub field_text : Field → List ℕ
field_text (Word bytes) = bytes.now
field_text (Number q) = text_of q
