use Rattle.std.proofs.Common.{arith, sym, ap, ◌∙◌}
use Rattle.program_regions.specs.Regions.{is_crossed}
use Rattle.program_regions.proofs.RegionLemmas.{position_there, position_nowhere}
use Rattle.program_regions.proofs.regions.first_crossed.Goals as goal

pub returns-then-is_crossed : goal.returns-then-is_crossed
returns-then-is_crossed c =
    let here = ap is_crossed (sym c.index-bounds-j.is) ∙ sym c.is_crossed.ensures ∙ c.if-is_crossed.true in
    sym (position_there is_crossed c.args.bounds.now c.loop-j.j c.index-bounds-j.result c.loop-j-test.true here c.loop-j.invariant)

pub returns : goal.returns
returns c = sym (position_nowhere is_crossed c.args.bounds.now (λ k d h. c.loop-j.invariant k d (omega (arith, h, c.loop-j-test.false))))
