use Rattle.std.proofs.Common.{refl, sym, ap, ◌∙◌}
use Rattle.mps_tokens.specs.Cases.{numbered, row_kind_table}
use Rattle.mps_tokens.specs.Words.{row_kind_names}
use Rattle.mps_tokens.proofs.Named.{by_number, found_by_number}
use Rattle.mps_tokens.proofs.words.row_kind_of.Goals as goal

pub returns-in-Some : goal.returns-in-Some
returns-in-Some c =
    c.row_kind_numbered.ensures ∙ (ap (λ o. by_number o (numbered 1 row_kind_names)) (sym c.in-Some.is)
    ∙ found_by_number row_kind_names row_kind_table _ c.args.word.now c.find.result c.row_kinds.ensures.table c.find.ensures refl)

pub returns-in-None : goal.returns-in-None
returns-in-None c =
    ap (λ o. by_number o (numbered 1 row_kind_names)) (sym c.in-None.is)
    ∙ found_by_number row_kind_names row_kind_table _ c.args.word.now c.find.result c.row_kinds.ensures.table c.find.ensures refl
