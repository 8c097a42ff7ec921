use Rattle.std.proofs.Common.{sym, ◌∙◌, ◌≡◌, List, [], ℕ, Some}
use Rattle.std.specs.Prelude.{slice_get}
use Rattle.named_things.specs.Named.{names_of}
use Rattle.named_things.specs.Names.{name_at}
use Rattle.mps_tables.proofs.FirstLines.{read_at}
use Rattle.mps_assembly.proofs.Additions.{column-absent, column-step, on_ok}
use Rattle.mps_assembly.proofs.building.add_column.Goals as goal

name_is : (names : List (List ℕ)) (k : ℕ) (name found : List ℕ) → name ≡ found → slice_get names k ≡ Some found → name ≡ name_at names k
name_is names k name found e f = e ∙ sym (read_at names k [] found f)

pub push_column-requires-clause-absent : goal.push_column-requires-clause-absent
push_column-requires-clause-absent c =
    column-absent c.args.draft.now c.args.column c.in_ok-name.name c.args.program.now c.columns-columns.ensures.differ c.requires.column c.requires.program
    (name_is (names_of c.args.draft.now.columns) c.args.column c.in_ok-name.name c.column_name.result.now c.in_ok-name.ensures c.column_name.ensures.found)

pub returns : goal.returns
returns c =
    on_ok c.push_column.result
    (column-step c.args.draft.now c.args.column c.in_ok-name.name c.args.bounded.now c.args.program.now c.push_column.new.program c.requires.column c.requires.bounds
    (name_is (names_of c.args.draft.now.columns) c.args.column c.in_ok-name.name c.column_name.result.now c.in_ok-name.ensures c.column_name.ensures.found) c.requires.program) c.push_column.ensures
