-- The text of a whole number.
use Rattle.std.proofs.Common.{◌≡◌, ℤ, true, refl, ap, ◌∙◌}
use Rattle.std.specs.Prelude.{◌==◌}
use Rattle.std.specs.Fmt.{signed_decimal}
use Rattle.rational.specs.Rational.{ℚ, whole}
use Rattle.rational.proofs.Wholes.{num-whole, den-whole}
use Rattle.frac_core.specs.Text.{text_of}

shown_whole : (v : ℚ) → (v.den == 1) ≡ true → text_of v ≡ signed_decimal v.num
shown_whole v e = rw e refl

pub whole_text : (k : ℤ) → text_of (whole k) ≡ signed_decimal k
whole_text k = shown_whole (whole k) (ap (λ n. n == 1) (den-whole k)) ∙ ap signed_decimal (num-whole k)
