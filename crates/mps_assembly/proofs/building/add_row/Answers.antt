use Rattle.std.proofs.Common.{sym, ap, ◌∙◌, ◌≡◌, List, [], ℕ, length, take, Some, arith}
use Rattle.std.specs.Prelude.{slice_get}
use Rattle.program_law.specs.Program.{Program}
use Rattle.named_things.specs.Named.{names_of}
use Rattle.mps_grammar.specs.Told.{program_rows}
use Rattle.mps_grammar.specs.Programs.{row_of}
use Rattle.named_things.specs.Names.{name_at}
use Rattle.mps_assembly.proofs.Programs.{map-length}
use Rattle.mps_tables.proofs.FirstLines.{read_at}
use Rattle.mps_assembly.proofs.Additions.{bound-fewer, row-absent, row-step, on_ok}
use Rattle.mps_assembly.proofs.building.add_row.Goals as goal

name_is : (names : List (List ℕ)) (k : ℕ) (name found : List ℕ) → name ≡ found → slice_get names k ≡ Some found → name ≡ name_at names k
name_is names k name found e f = e ∙ sym (read_at names k [] found f)

pub push_row-requires-clause-room : goal.push_row-requires-clause-room
push_row-requires-clause-room c =
    let count = ap (λ (p : Program). length p.rows) c.requires.program ∙ map-length (row_of c.args.draft.now) (program_rows (take c.args.row c.args.draft.now.rows)) in
    omega (arith, count, bound-fewer c.args.draft.now.rows c.args.row c.args.kind c.requires.kind c.requires.bound, c.requires.few)

pub push_row-requires-clause-absent : goal.push_row-requires-clause-absent
push_row-requires-clause-absent c =
    row-absent c.args.draft.now c.args.row c.args.kind c.in_ok-name.name c.args.program.now c.rows-rows.ensures.differ c.requires.objective c.requires.row c.requires.kind c.requires.bound c.requires.program
    (name_is (names_of c.args.draft.now.rows) c.args.row c.in_ok-name.name c.row_name.result.now c.in_ok-name.ensures c.row_name.ensures.found)

pub returns : goal.returns
returns c =
    on_ok c.push_row.result
    (row-step c.args.draft.now c.args.row c.args.kind c.in_ok-name.name c.args.sides c.args.program.now c.push_row.new.program c.requires.row c.requires.kind c.requires.bound
    (name_is (names_of c.args.draft.now.rows) c.args.row c.in_ok-name.name c.row_name.result.now c.in_ok-name.ensures c.row_name.ensures.found) c.requires.sides c.requires.program) c.push_row.ensures
