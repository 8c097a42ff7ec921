use Rattle.std.proofs.Common.{sym, ap, ◌∙◌, ◌≡◌, take, List}
use Rattle.std.proofs.lemmas.List.{take_all}
use Rattle.rational.specs.Rational.{ℚ}
use Rattle.exact_matrix.specs.Grid.{Grid}
use Rattle.named_things.specs.Named.{names_of}
use Rattle.mps_grammar.specs.Programs.{value_told}
use Rattle.mps_notes.specs.declared.numbers.Entry.{Entry}
use Rattle.mps_notes.specs.Told.{tellings_of}
use Rattle.mps_tables.specs.PairTable.{square_of}
use Rattle.mps_tables.proofs.FirstLines.{square-start, square-step}
use Rattle.mps_tables.proofs.faults.pair_table.Goals as goal

pub loop-pair-init : goal.loop-pair-init
loop-pair-init c = record {
  columns = ap (λ (m : Grid ℚ). m.columns) c.in_ok-table.ensures ∙ c.columns-count.ensures.count;
  rows = ap (λ (m : Grid ℚ). m.rows) c.in_ok-table.ensures ∙ square-start c.args.draft.now.columns c.columns-count.result c.whole.result c.columns-count.ensures.count c.whole.ensures;
}

pub loop-pair-preserved : goal.loop-pair-preserved
loop-pair-preserved c = record {
  columns = ap (λ (m : Grid ℚ). m.columns) c.set.ensures ∙ c.loop-pair.invariant.columns;
  rows = square-step (names_of c.args.draft.now.columns) c.pairs-pairs.result.now c.loop-pair.pair-index c.pair-item.result c.loop-pair.table.rows c.set.new.self.rows c.columns-count.ensures.differ c.pairs-pairs.ensures.within c.loop-pair-test.true
      c.pair-item.is c.loop-pair.invariant.rows (ap (λ (m : Grid ℚ). m.rows) c.set.ensures);
}

pub returns : goal.returns
returns c =
    let all : take c.loop-pair.pair-index c.pairs-pairs.result.now ≡ c.pairs-pairs.result.now = take_all c.loop-pair.pair-index c.pairs-pairs.result.now c.loop-pair-test.false in
    record {
      columns = c.loop-pair.invariant.columns;
      rows = c.loop-pair.invariant.rows
          ∙ ap (λ (es : List Entry). square_of (names_of c.args.draft.now.columns) (value_told (tellings_of (names_of c.args.draft.now.columns) (names_of c.args.draft.now.columns) es))) all
          ∙ ap (λ ts. square_of (names_of c.args.draft.now.columns) (value_told ts)) (sym c.pairs-pairs.ensures.told);
    }
