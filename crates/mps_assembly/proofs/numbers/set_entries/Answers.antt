use Rattle.std.proofs.Common.{ap, length, ◌∙◌, []}
use Rattle.program_law.specs.Program.{Program}
use Rattle.mps_grammar.specs.Told.{program_rows}
use Rattle.mps_grammar.specs.Programs.{row_of}
use Rattle.mps_assembly.proofs.Programs.{map-length}
use Rattle.mps_assembly.proofs.UsedNames.{used-differ}
use Rattle.mps_assembly.proofs.NumberSteps.{entry-step, place_within}
use Rattle.mps_assembly.proofs.numbers.set_entries.Goals as goal

pub set_entry-requires-clause-place : goal.set_entry-requires-clause-place
set_entry-requires-clause-place c =
    let count = ap (λ (p : Program). length p.rows) c.loop-entry.invariant ∙ map-length (row_of c.args.draft.now) (program_rows c.args.draft.now.rows) in
    place_within c.args.draft.now c.entries-entries.result.now c.loop-entry.entry-index c.entry-item.result c.loop-entry.program c.entries-entries.ensures.within c.loop-entry-test.true c.entry-item.is count

pub loop-entry-preserved : goal.loop-entry-preserved
loop-entry-preserved c =
    entry-step c.args.draft.now c.entries-entries.result.now [] c.loop-entry.entry-index c.entry-item.result c.loop-entry.program c.set_entry.new.program (used-differ c.args.draft.now.rows c.rows-rows.ensures.differ c.requires.objective)
    c.columns-columns.ensures.differ c.entries-entries.ensures.within c.loop-entry-test.true c.entry-item.is c.loop-entry.invariant c.set_entry.ensures
