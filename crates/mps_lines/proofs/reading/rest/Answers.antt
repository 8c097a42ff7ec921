use Rattle.std.proofs.Common.{◌∙◌, sym, ap}
use Rattle.mps_grammar.specs.Lines.{is_passed}
use Rattle.mps_lines.specs.Reading.{spot_of}
use Rattle.mps_lines.proofs.Histories.{passes_none, is_shown, passes}
use Rattle.mps_lines.proofs.reading.rest.Goals as goal

pub loop-at-init : goal.loop-at-init
loop-at-init c = passes_none c.args.text.now (spot_of c.args.place) c.requires.byte

pub returns-then-not-is_passed-clause-first : goal.returns-then-not-is_passed-clause-first
returns-then-not-is_passed-clause-first c =
    let w = c.whole_line-whole.ensures in
    is_shown c.args.text.now (spot_of c.args.place) c.loop-at.at c.loop-at.line c.loop-at.invariant c.whole_line-whole.result c.loop-at-test.true w (ap is_passed (sym w.bytes) ∙ sym c.if-not-is_passed.ensures)

pub loop-at-preserved : goal.loop-at-preserved
loop-at-preserved c =
    let w = c.whole_line-whole.ensures in
    passes c.args.text.now (spot_of c.args.place) c.loop-at.at c.loop-at.line c.loop-at.invariant c.whole_line-whole.result c.loop-at-test.true w (ap is_passed (sym w.bytes) ∙ sym c.if-not-is_passed.ensures)
