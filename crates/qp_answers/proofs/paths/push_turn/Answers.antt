use Rattle.std.proofs.Common.{◌≡◌, ◌++◌, ◌∙◌, [], sym, codes, rules}
use Rattle.std.proofs.lemmas.Option.{get_or_from_slice_get}
use Rattle.std.specs.Fmt.{signed_decimal}
use Rattle.named_things.specs.Named.{names_of}
use Rattle.qp_answers.proofs.Written.{turn_put}
use Rattle.qp_answers.proofs.paths.push_turn.Goals as goal

pub returns : goal.returns
returns c =
    let number : c.as_bytes-2.result.now ≡ codes " " ++ (signed_decimal c.args.turn.k ++ codes "\n") = search rules in
    turn_put c.args.program.now c.args.turn _ _ _ _ _ _ _ (c.as_bytes.ensures.value ∙ c.cut_word.ensures)
    (sym (get_or_from_slice_get (names_of c.args.program.now.columns) c.args.turn.column _ [] c.column_name.ensures)) number c.in_ok-extend_from_slice.ensures.items c.in_ok-extend_from_slice-2.ensures.items
    c.in_ok-extend_from_slice-3.ensures.items
