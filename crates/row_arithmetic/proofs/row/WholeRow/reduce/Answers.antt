use Rattle.std.proofs.Common.{◌≡◌, ◌<◌, ◌*ℤ◌, rules, sym, subst, ap, ◌∙◌, ℕ, List, ℤ, pos, length, FitsSigned}
use Rattle.std.specs.Prelude.{unsigned_abs, ◌<ℤ◌, int_div}
use Rattle.std.specs.Int.{w128, ◌∣◌}
use Rattle.std.specs.Vec.{with_items}
use Rattle.std.proofs.lemmas.List.{with_items_is}
use Rattle.std.proofs.lemmas.Int.{to_z-of_z}
use Rattle.rational.proofs.Products.{div_exact}
use Rattle.row_arithmetic.specs.Rows.{Row, number}
use Rattle.row_arithmetic.proofs.Divided.{divided_row}
use Rattle.row_arithmetic.proofs.row.WholeRow.reduce.Goals as goal

pub divide-requires-clause-divides : goal.divide-requires-clause-divides
divide-requires-clause-divides c =
    subst (λ (xs : List ℤ). (k : ℕ) → k < length xs → c.divisor-common.result ∣ unsigned_abs (number xs k))
    (c.deref.ensures.value ∙ sym c.deref_mut.ensures.value) c.divisor-common.ensures.numbers

pub returns : goal.returns
returns c =
    let xs = c.self.inside.numbers.items in
    let bottom = c.self.inside.bottom in
    let g = c.divisor-common.result in
    let q = c.quotient-self-inside.result in
    let fq : FitsSigned w128 q = search rules in
    let fb : FitsSigned w128 bottom = search rules in
    let b = to_z-of_z w128 bottom fb in
    let positive : pos 0 <ℤ bottom = subst (λ (r : Row). pos 0 <ℤ r.bottom) (sym c.self.view_is) c.requires in
    let divides : g ∣ unsigned_abs bottom = subst (λ n. g ∣ unsigned_abs n) b c.divisor-common.ensures.bottom in
    let whole : q *ℤ pos g ≡ bottom = ap (λ n. n *ℤ pos g) (c.quotient-self-inside.ensures ∙ ap (λ n. int_div n (pos g)) b) ∙ div_exact bottom g divides in
    let numbers : (k : ℕ) → k < length xs → number c.divide.new.numbers k *ℤ pos g ≡ number xs k =
    subst (λ (ys : List ℤ). (k : ℕ) → k < length ys → number c.divide.new.numbers k *ℤ pos g ≡ number ys k) c.deref_mut.ensures.value c.divide.ensures.numbers in
    let size : length c.divide.new.numbers ≡ length xs = c.divide.ensures.size ∙ ap length c.deref_mut.ensures.value in
    let items : (with_items c.self.inside.numbers c.divide.new.numbers).items ≡ c.divide.new.numbers = with_items_is c.self.inside.numbers c.divide.new.numbers (c.divide.ensures.size ∙ c.deref_mut.ensures.len) in
    rw (sym c.self.view_is, to_z-of_z w128 q fq, items)
    (divided_row xs c.divide.new.numbers bottom q g c.divisor-common.ensures.positive positive size numbers whole)
