use Rattle.std.proofs.Common.{refl, sym, ap, ◌∙◌}
use Rattle.mps_tokens.specs.Cases.{numbered, certificate_table}
use Rattle.mps_tokens.specs.Words.{certificate_word_names}
use Rattle.mps_tokens.proofs.Named.{by_number, found_by_number}
use Rattle.mps_tokens.proofs.words.certificate_word_of.Goals as goal

pub returns-in-Some : goal.returns-in-Some
returns-in-Some c =
    c.certificate_word_numbered.ensures ∙ (ap (λ o. by_number o (numbered 1 certificate_word_names)) (sym c.in-Some.is)
    ∙ found_by_number certificate_word_names certificate_table _ c.args.word.now c.find.result c.certificate_words.ensures.table c.find.ensures refl)

pub returns-in-None : goal.returns-in-None
returns-in-None c =
    ap (λ o. by_number o (numbered 1 certificate_word_names)) (sym c.in-None.is)
    ∙ found_by_number certificate_word_names certificate_table _ c.args.word.now c.find.result c.certificate_words.ensures.table c.find.ensures refl
