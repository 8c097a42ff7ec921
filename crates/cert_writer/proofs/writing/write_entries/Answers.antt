use Rattle.std.proofs.Common.{refl, ◌∙◌, sym}
use Rattle.cert_writer.proofs.Appended.{extends_then, extends_by, stopped, one_more, entries_step}
use Rattle.cert_writer.proofs.writing.write_entries.Goals as goal

pub returns-in_err-write_entry : goal.returns-in_err-write_entry
returns-in_err-write_entry c = stopped _ c.loop-place.out.items _ _ _ c.from_residual.ensures.0 c.loop-place.invariant.extends c.in_err-write_entry.ensures

pub loop-place-preserved : goal.loop-place-preserved
loop-place-preserved c =
    let same = c.count_on-place-end.ensures.names ∙ c.count_on-place-end.ensures.count ∙ sym c.requires in
    let step = entries_step c.args.word.now _ c.args.entries.now c.loop-place.place _ _ same refl c.at-entry.ensures in
    record {
      extends = extends_then _ _ _ c.loop-place.invariant.extends (extends_by _ _ _ c.in_ok-write_entry.ensures);
      whole = one_more _ _ _ _ _ _ c.loop-place.invariant.whole step c.in_ok-write_entry.ensures;
    }
