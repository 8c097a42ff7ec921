use Rattle.std.proofs.Common.{◌∙◌, sym, arith}
use Rattle.std.proofs.lemmas.List.{length-set}
use Rattle.std.proofs.lemmas.Result.{err_from_is_err_and}
use Rattle.equational.proofs.Walked.{column_more, column_past, columns_end, room_left}
use Rattle.equational.proofs.back.columns_back.Goals as goal

pub returns-in_err-entry : goal.returns-in_err-entry
returns-in_err-entry c =
    let p = err_from_is_err_and c.from_residual-in_err-entry.result c.from_residual-in_err-entry.ensures.1 in
    rw (p.1, p.2) (sym c.loop-j.invariant.whole
    ∙ column_past c.args.carried c.args.region.now c.args.z.now c.loop-j.columns c.loop-j.j c.loop-j.place _ _ (omega arith) c.index-region-j.is (sym c.in_err-entry.ensures))

pub loop-j-preserved : goal.loop-j-preserved
loop-j-preserved c = record {
  whole =
      rw (c.set.ensures, c.parts_of-place.ensures.parts) (column_more c.args.carried c.args.region.now c.args.z.now c.loop-j.columns c.loop-j.j c.loop-j.place _ _
      c.loop-j.invariant.size (omega arith) c.index-region-j.is (sym c.in_ok-entry.ensures) ∙ c.loop-j.invariant.whole);
  size = rw c.set.ensures (simp length-set c.loop-j.invariant.size);
  room = rw c.parts_of-place.ensures.parts (room_left c.args.region.now _ c.loop-j.j c.loop-j.place _ (omega arith) c.index-region-j.is c.loop-j.invariant.room);
}

pub returns : goal.returns
returns c =
    sym c.loop-j.invariant.whole
    ∙ columns_end c.args.carried c.args.region.now _ c.loop-j.columns c.loop-j.j c.loop-j.invariant.size (omega arith)
