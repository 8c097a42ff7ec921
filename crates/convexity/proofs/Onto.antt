-- Rows written one entry after another are the rows of the calculation.
use Rattle.std.specs.Prelude.{◌≡◌, ◌<◌, List, [], ◌∷◌, ◌++◌, take, drop, length, slice_index_or, slice_set, Result, Ok, Err}
use Rattle.std.proofs.Common.{refl, sym, ◌∙◌, ap, arith, append_assoc, append-nil}
use Rattle.rational.specs.Rational.{ℚ}
use Rattle.frac_core.specs.Parts.{max_part}
use Rattle.frac_core.specs.Row.{Row, Entries, Refusal, entry_then}
use Rattle.frac_core.specs.declared.fractions.Refused.{Refused}
use Rattle.frac_core.specs.declared.fractions.Tried.{Tried}
use Rattle.frac_core.specs.declared.fractions.Tried.TheVariants.{Is, Past}
use Rattle.rational.specs.Sums.{entry}
use Rattle.elimination_law.specs.Calculation.{divide_step, divided_in}
use Rattle.frac_core.specs.Calculated.{◌>>=◌, answered}
use Rattle.symmetric_half.specs.Chain.{row_answered}
use Rattle.convexity.specs.Onto.{divided_onto}

-- what is written before, and then a row
abbrev pub before : List ℚ → Result (List ℚ) Refused → Result (List ℚ) Refused
before done row = row >>= λ qs. Ok (done ++ qs)

one_more : (done : List ℚ) (t : Tried) (row : Row) → (answered t >>= λ q. before (done ++ q ∷ []) (row_answered row)) ≡ before done (row_answered (entry_then t row))
one_more done (Is q) (Entries qs) = ap (λ (l : List ℚ). Ok l) (append_assoc done (q ∷ []) qs)
one_more done (Is q) (Refusal r) = refl
one_more done (Past r) row = refl

each : (t : Tried) (f g : ℚ → Result (List ℚ) Refused) → ((q : ℚ) → f q ≡ g q) → (answered t >>= f) ≡ (answered t >>= g)
each (Is q) f g h = h q
each (Past r) f g h = refl

pub divided_onto_is : (d : ℚ) (done r : List ℚ) → divided_onto d done r ≡ before done (row_answered (divided_in max_part d r))
unfolding divided_in
divided_onto_is d done [] = ap (λ (l : List ℚ). Ok l) (sym (append-nil done))
divided_onto_is d done (x ∷ r) =
    each (divide_step max_part d x) (λ q. divided_onto d (done ++ q ∷ []) r) (λ q. before (done ++ q ∷ []) (row_answered (divided_in max_part d r)))
    (λ q. divided_onto_is d (done ++ q ∷ []) r)
    ∙ one_more done (divide_step max_part d x) (divided_in max_part d r)

alone : (row : Result (List ℚ) Refused) → before [] row ≡ row
alone (Ok qs) = refl
alone (Err r) = refl

pub all_divided : (d : ℚ) (r : List ℚ) → divided_onto d [] r ≡ row_answered (divided_in max_part d r)
all_divided d r = divided_onto_is d [] r ∙ alone (row_answered (divided_in max_part d r))

-- the first entry written
pub divided_start : (row v : List ℚ) (d : ℚ) → 0 < length row → length v ≡ length row → d ≡ slice_index_or row 0 d
    → (divided_onto d (take 1 (slice_set v 0 d)) (drop 1 row) ≡ divided_onto (entry row 0) (entry row 0 ∷ []) (drop 1 row)) × (d ≡ entry row 0) × (length (slice_set v 0 d) ≡ length row)
divided_start [] v d h l e = absurd (omega arith)
divided_start (x ∷ row) [] d h l e = absurd (omega arith)
divided_start (x ∷ row) (y ∷ v) d h l e = (ap (λ (t : ℚ). divided_onto t (t ∷ []) row) e, e, l)
