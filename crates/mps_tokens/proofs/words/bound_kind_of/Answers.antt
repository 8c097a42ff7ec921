use Rattle.std.proofs.Common.{refl, sym, ap, ◌∙◌}
use Rattle.mps_tokens.specs.Cases.{numbered, bound_kind_table}
use Rattle.mps_tokens.specs.Words.{bound_kind_names}
use Rattle.mps_tokens.proofs.Named.{by_number, found_by_number}
use Rattle.mps_tokens.proofs.words.bound_kind_of.Goals as goal

pub returns-in-Some : goal.returns-in-Some
returns-in-Some c =
    c.bound_kind_numbered.ensures ∙ (ap (λ o. by_number o (numbered 1 bound_kind_names)) (sym c.in-Some.is)
    ∙ found_by_number bound_kind_names bound_kind_table _ c.args.word.now c.find.result c.bound_kinds.ensures.table c.find.ensures refl)

pub returns-in-None : goal.returns-in-None
returns-in-None c =
    ap (λ o. by_number o (numbered 1 bound_kind_names)) (sym c.in-None.is)
    ∙ found_by_number bound_kind_names bound_kind_table _ c.args.word.now c.find.result c.bound_kinds.ensures.table c.find.ensures refl
