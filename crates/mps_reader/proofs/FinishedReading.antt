-- What finishing what is told of a text says of reading it.
use Rattle.std.proofs.Common.{◌≡◌, ℕ, List, Result, Ok, Err, sym, subst, IfOk}
use Rattle.program_law.specs.Program.{Program}
use Rattle.mps_grammar.specs.Told.{Told}
use Rattle.mps_grammar.specs.Programs.{end_fault}
use Rattle.mps_grammar.specs.Verdict.{Fault}
use Rattle.mps_grammar.specs.Reading.{Spot, finished, read_told, read_of, told_of}
use Rattle.mps_lines.specs.declared.stop.Place.{Place}
use Rattle.mps_lines.specs.declared.stop.ReadStop.{ReadStop}
use Rattle.mps_lines.specs.Reading.{IsPlaceIn}
use Rattle.mps_reader.specs.Reading.{Reads}

pub reads_finished : (text : List ℕ) (told : Told) (spot : Spot) (result : Result (Program × Place) ReadStop) → told_of text ≡ Ok (told, spot) → Reads (finished told spot (end_fault told)) result → Reads (read_of text) result
reads_finished text told spot result is h = subst (λ (t : Result (Told × Spot) Fault). Reads (read_told t) result) (sym is) h

pub place_kept : (text : List ℕ) (place : Place) (result : Result (Program × Place) ReadStop) → IsPlaceIn text place → IfOk result (λ r. r.1 ≡ place) → IfOk result (λ r. IsPlaceIn text r.1)
place_kept text place (Ok r) h is = subst (IsPlaceIn text) (sym is) h
place_kept text place (Err stop) h is = tt
