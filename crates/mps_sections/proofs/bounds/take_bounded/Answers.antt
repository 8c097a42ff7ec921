use Rattle.std.proofs.Common.{sym}
use Rattle.mps_grammar.specs.Faults.{is_long}
use Rattle.mps_fields.specs.Views.{viewed_bounded}
use Rattle.mps_sections.proofs.BoundLines.{bound_put, neither}
use Rattle.mps_sections.proofs.bounds.take_bounded.Goals as goal

pub returns : goal.returns
returns c = bound_put c.args.notes.now c.args.kind (viewed_bounded c.args.bounded.now) c.in-Some.column c.requires (neither (is_long c.args.bounded.now.set.now) (is_long c.args.bounded.now.column.now) c.if-is_long.ensures c.if-is_long-2.ensures) (sym c.in-Some.ensures.place) c.in_ok-value.value c.put_bound.new.bounds c.in_ok-value.ensures c.in_ok-put_bound.ensures
