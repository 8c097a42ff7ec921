use Rattle.std.proofs.Common.{sym, ap, ◌∙◌}
use Rattle.named_things.specs.Named.{names_of}
use Rattle.mps_grammar.specs.Programs.{first_line, is_lopsided}
use Rattle.mps_notes.specs.Told.{telling_of}
use Rattle.mps_tables.proofs.FirstLines.{line-first}
use Rattle.mps_tables.proofs.faults.lopsided.Goals as goal

pub returns-then-is_lopsided : goal.returns-then-is_lopsided
returns-then-is_lopsided c =
    sym (ap (first_line (is_lopsided c.args.draft.now.pairs)) c.pairs-pairs.ensures.told
    ∙ line-first (telling_of (names_of c.args.draft.now.columns) (names_of c.args.draft.now.columns)) (is_lopsided c.args.draft.now.pairs) c.pairs-pairs.result.now c.loop-pair.pair-index c.pair-item.result c.loop-pair-test.true c.pair-item.is
    c.loop-pair.invariant (sym c.if-is_lopsided.ensures))
