use Rattle.std.proofs.Common.{sym, ap, ◌∙◌, ◌≡◌, take, List}
use Rattle.std.proofs.lemmas.List.{take_all}
use Rattle.named_things.specs.Named.{names_of}
use Rattle.mps_notes.specs.declared.numbers.Entry.{Entry}
use Rattle.mps_notes.specs.Told.{tellings_of}
use Rattle.mps_assembly.specs.Assembled.{assembled}
use Rattle.mps_assembly.proofs.NumberSteps.{pair-step}
use Rattle.mps_assembly.proofs.numbers.set_pairs.Goals as goal

pub loop-pair-preserved : goal.loop-pair-preserved
loop-pair-preserved c =
    pair-step c.args.draft.now c.args.draft.now.entries c.pairs-pairs.result.now c.loop-pair.pair-index c.pair-item.result c.loop-pair.program c.set_pair.new.self c.columns-columns.ensures.differ c.pairs-pairs.ensures.within c.loop-pair-test.true
    c.pair-item.is c.loop-pair.invariant c.set_pair.ensures

pub returns : goal.returns
returns c =
    let all : take c.loop-pair.pair-index c.pairs-pairs.result.now ≡ c.pairs-pairs.result.now = take_all c.loop-pair.pair-index c.pairs-pairs.result.now c.loop-pair-test.false in
    c.loop-pair.invariant ∙ ap (λ (es : List Entry). assembled c.args.draft.now c.args.draft.now.entries (tellings_of (names_of c.args.draft.now.columns) (names_of c.args.draft.now.columns) es)) all
    ∙ ap (assembled c.args.draft.now c.args.draft.now.entries) (sym c.pairs-pairs.ensures.told)
