use Rattle.std.proofs.Common.{◌≡◌, ◌++◌, drop}
use Rattle.std.specs.List.{flat_map}
use Rattle.cert_fields.specs.Appending.{Extends}
use Rattle.cert_grammar.specs.Text.{lines_text, square_lines}
use Rattle.cert_writer.proofs.writing.write_squares.Given as goal

-- what is done and the lines of the rest are the whole
abbrev pub invariant-loop-k : goal.invariant-loop-k
invariant-loop-k l = record {
  extends : Extends l.initial.out.items l.out.items;
  whole : l.out.items ++ lines_text (flat_map (square_lines l.p) (drop l.k l.squares)) ≡ l.initial.out.items ++ lines_text (flat_map (square_lines l.p) l.squares);
}
