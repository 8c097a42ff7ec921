use Rattle.std.proofs.Common.{◌≡◌, ◌<◌, rules, refl, sym, subst, ap, ◌∙◌, pos, ◌*ℤ◌, ◌-ℤ◌, FitsSigned, ℕ, ℤ, List, length, to_z, of_z}
use Rattle.std.specs.Prelude.{◌<ℤ◌}
use Rattle.std.specs.Int.{w128}
use Rattle.std.specs.Vec.{with_items}
use Rattle.std.proofs.lemmas.List.{with_items_is}
use Rattle.std.proofs.lemmas.Int.{to_z-of_z}
use Rattle.row_arithmetic.specs.Rows.{Row, number}
use Rattle.row_arithmetic.specs.Multiples.{IsQuotientOf}
use Rattle.row_arithmetic.proofs.Divisors.{positive_part, positive_product}
use Rattle.row_arithmetic.proofs.Divided.{less_row}
use Rattle.row_arithmetic.proofs.row.WholeRow.set_less.Goals as goal

pub reduce-requires : goal.reduce-requires
reduce-requires c =
    let D = c.row.inside.bottom in
    let P = c.pivot.inside.bottom in
    let p = c.lowest-p.result.0 in
    let b = c.in-Some.bottom in
    let fD : FitsSigned w128 D = search rules in
    let fP : FitsSigned w128 P = search rules in
    let fp : FitsSigned w128 p = search rules in
    let fb : FitsSigned w128 b = search rules in
    let D_pos : pos 0 <ℤ D = subst (λ (r : Row). pos 0 <ℤ r.bottom) (sym c.row.view_is) c.requires.row in
    let P_pos : pos 0 <ℤ P = subst (λ (r : Row). pos 0 <ℤ r.bottom) (sym c.pivot.view_is) c.requires.pivot in
    let e : b ≡ to_z w128 (of_z w128 D) *ℤ to_z w128 (of_z w128 p) = c.in-Some.ensures in
    let f : b ≡ D *ℤ p = e ∙ ap (λ x. x *ℤ to_z w128 (of_z w128 p)) (to_z-of_z w128 D fD) ∙ ap (λ x. D *ℤ x) (to_z-of_z w128 p fp) in
    rw (to_z-of_z w128 b fb)
    (positive_product D p b D_pos (positive_part p P c.lowest-p.ensures.0 c.lowest-p.ensures.1 P_pos (c.lowest-p.ensures.2 ∙ to_z-of_z w128 P fP)) f)

pub returns-clause-less : goal.returns-clause-less
returns-clause-less c = λ done.
    let D = c.row.inside.bottom in
    let P = c.pivot.inside.bottom in
    let p = c.lowest-p.result.0 in
    let f = c.lowest-p.result.1 in
    let b = c.in-Some.bottom in
    let t = c.args.t in
    let mid = c.combine.new.new in
    let fD : FitsSigned w128 D = search rules in
    let fP : FitsSigned w128 P = search rules in
    let fp : FitsSigned w128 p = search rules in
    let ff : FitsSigned w128 f = search rules in
    let fb : FitsSigned w128 b = search rules in
    let ft : FitsSigned w128 t = search rules in
    let p_is = to_z-of_z w128 p fp in
    let f_is = to_z-of_z w128 f ff in
    let row : Row = record { numbers = c.row.inside.numbers.items; bottom = D } in
    let pivot : Row = record { numbers = c.pivot.inside.numbers.items; bottom = P } in
    let e : b ≡ to_z w128 (of_z w128 D) *ℤ to_z w128 (of_z w128 p) = c.in-Some.ensures in
    let product : b ≡ D *ℤ p = e ∙ ap (λ x. x *ℤ to_z w128 (of_z w128 p)) (to_z-of_z w128 D fD) ∙ ap (λ x. D *ℤ x) p_is in
    let whole : p *ℤ pos c.lowest-p.ensures.0 ≡ P = c.lowest-p.ensures.2 ∙ to_z-of_z w128 P fP in
    let part : f *ℤ pos c.lowest-p.ensures.0 ≡ t = c.lowest-p.ensures.3 ∙ to_z-of_z w128 t ft in
    let lengths : length c.self.inside.numbers.items ≡ length row.numbers =
    ap (λ (r : Row). length r.numbers) c.self.view_is ∙ c.requires.size ∙ sym (ap (λ (r : Row). length r.numbers) c.row.view_is) in
    let size : length mid ≡ length row.numbers = c.combine.ensures.size ∙ ap length c.deref_mut.ensures.value ∙ lengths in
    let raw : (k : ℕ) → k < length c.deref.result.now → number mid k ≡ to_z w128 (of_z w128 p) *ℤ number c.deref.result.now k -ℤ to_z w128 (of_z w128 f) *ℤ number c.deref-2.result.now k =
    c.if-not-combine.ensures.numbers refl in
    let numbers : (k : ℕ) → k < length row.numbers → number mid k ≡ p *ℤ number row.numbers k -ℤ f *ℤ number pivot.numbers k =
    λ k l. raw k (subst (λ (xs : List ℤ). k < length xs) (sym c.deref.ensures.value) l)
    ∙ ap (λ n. n *ℤ number c.deref.result.now k -ℤ to_z w128 (of_z w128 f) *ℤ number c.deref-2.result.now k) p_is
    ∙ ap (λ n. p *ℤ number c.deref.result.now k -ℤ n *ℤ number c.deref-2.result.now k) f_is
    ∙ ap (λ (xs : List ℤ). p *ℤ number xs k -ℤ f *ℤ number c.deref-2.result.now k) c.deref.ensures.value
    ∙ ap (λ (xs : List ℤ). p *ℤ number row.numbers k -ℤ f *ℤ number xs k) c.deref-2.ensures.value in
    let items : (with_items c.self.inside.numbers mid).items ≡ mid = with_items_is c.self.inside.numbers mid (c.combine.ensures.size ∙ c.deref_mut.ensures.len) in
    let h : IsQuotientOf b (record { numbers = mid; bottom = b }) c.reduce.new.self = rw (to_z-of_z w128 b fb, items) at c.reduce.ensures in
    rw (sym c.row.view_is, sym c.pivot.view_is) (less_row t pivot row c.reduce.new.self mid c.lowest-p.ensures.0 p f b whole part size numbers product h)
