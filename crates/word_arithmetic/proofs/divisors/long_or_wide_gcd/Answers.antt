use Rattle.std.proofs.Common.{sym, ◌∙◌, ap}
use Rattle.rational.specs.Divisors.{gcd_of, gcd_comm, gcd-zero}
use Rattle.word_arithmetic.proofs.divisors.long_or_wide_gcd.Goals as goal

pub returns-then-a-eq0 : goal.returns-then-a-eq0
returns-then-a-eq0 c = sym (gcd-zero c.args.b) ∙ gcd_comm c.args.b 0 ∙ ap (λ t. gcd_of t c.args.b) (sym c.if-a-eq0.true)

pub returns-then-b-eq0 : goal.returns-then-b-eq0
returns-then-b-eq0 c = sym (gcd-zero c.args.a) ∙ ap (gcd_of c.args.a) (sym c.if-b-eq0.true)

pub returns-then-a-le-WORD : goal.returns-then-a-le-WORD
returns-then-a-le-WORD c = c.long_gcd-then-a-le-WORD.ensures ∙ gcd_comm c.args.b c.args.a
