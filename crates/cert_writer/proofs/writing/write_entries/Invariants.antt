use Rattle.std.proofs.Common.{◌≡◌, ◌++◌, drop}
use Rattle.cert_fields.specs.Appending.{Extends}
use Rattle.cert_grammar.specs.Text.{names_on, lines_text, entry_lines}
use Rattle.cert_writer.proofs.writing.write_entries.Given as goal

-- what is done and the lines of the rest are the whole
abbrev pub invariant-loop-place : goal.invariant-loop-place
invariant-loop-place l = record {
  extends : Extends l.initial.out.items l.out.items;
  whole : l.out.items ++ lines_text (entry_lines l.word (drop l.place (names_on l.p l.axis)) (drop l.place l.entries))
      ≡ l.initial.out.items ++ lines_text (entry_lines l.word (names_on l.p l.axis) l.entries);
}
