use Rattle.std.proofs.Common.{◌≡◌, Some, Ok, Err, List, ℕ, ◌<◌, length, sym, ap, subst, ◌∙◌, take, arith, length-take}
use Rattle.std.specs.Prelude.{slice_get}
use Rattle.std.proofs.lemmas.Result.{err_from_is_err_and}
use Rattle.mps_tokens.specs.FieldsOf.{fields_of}
use Rattle.mps_lines.specs.Steps.{TakesIndented}
use Rattle.mps_lines.proofs.Contents.{indented_ok, indented_err, header_done}
use Rattle.mps_lines.proofs.SixFields.{first_field}
use Rattle.mps_lines.proofs.taking.take_content.Goals as goal

pub returns-in_err-take_indented : goal.returns-in_err-take_indented
returns-in_err-take_indented c =
    let p = err_from_is_err_and c.from_residual.result c.from_residual.ensures.1 in
    let P : List (List ℕ) → Type 0 = λ fields. TakesIndented c.args.notes.now fields c.take_indented.new.notes (Err c.in_err-take_indented.field-0.0) in
    rw (p.1, p.2) (indented_err c.args.notes.now c.take_indented.new.notes c.args.line.now (sym c.if-is_indented.ensures) c.in_err-take_indented.field-0.0 (subst P c.requires.fields c.in_err-take_indented.ensures))

pub returns-in_ok-take_indented : goal.returns-in_ok-take_indented
returns-in_ok-take_indented c =
    let P : List (List ℕ) → Type 0 = λ fields. TakesIndented c.args.notes.now fields c.take_indented.new.notes (Ok tt) in
    indented_ok c.args.notes.now c.take_indented.new.notes c.args.line.now (sym c.if-is_indented.ensures) (subst P c.requires.fields c.in_ok-take_indented.ensures)

pub returns-else-is_indented : goal.returns-else-is_indented
returns-else-is_indented c =
    let first : slice_get (take 6 (fields_of c.args.line.now)) 0 ≡ Some c.get.result.now = ap (λ (fields : List (List ℕ)). slice_get fields 0) (sym c.requires.fields) ∙ c.get.ensures in
    let count : length c.args.fields.now ≡ length (take 6 (fields_of c.args.line.now)) = ap length c.requires.fields in
    let some : 0 < length (fields_of c.args.line.now) = omega (arith, c.requires.some, count, length-take 6 (fields_of c.args.line.now)) in
    header_done c.args.notes.now c.take_header.new.notes c.args.line.now c.get.result.now c.take_header.result (sym c.if-is_indented.ensures) some (first_field (fields_of c.args.line.now) c.get.result.now first) c.take_header.ensures
