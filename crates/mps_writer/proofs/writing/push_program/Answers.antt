use Rattle.std.specs.Prelude.{codes}
use Rattle.mps_writer_law.specs.Canonical.{rows_lines, columns_lines, right_sides_lines, ranges_lines, bounds_lines, pairs_lines}
use Rattle.mps_writer_law.proofs.LineLemmas.{whole_text}
use Rattle.mps_writer.proofs.writing.push_program.Goals as goal

pub returns : goal.returns
returns c =
    whole_text (codes "NAME") (codes "ENDATA") (rows_lines c.args.p.now) (columns_lines c.args.p.now) (right_sides_lines c.args.p.now) (ranges_lines c.args.p.now) (bounds_lines c.args.p.now) (pairs_lines c.args.p.now)
    _ _ _ _ _ _ _ _ _ c.in_ok-push_word.ensures c.in_ok-push_rows.ensures c.in_ok-push_columns.ensures c.in_ok-push_right_sides.ensures c.in_ok-push_ranges.ensures c.in_ok-push_bounds.ensures c.in_ok-push_pairs.ensures c.in_ok-push_word-2.ensures
