use Rattle.cert_writer.proofs.writing.write_not_convex.Goals as goal

pub write_entries-requires : goal.write_entries-requires
write_entries-requires c = c.requires.fitting
