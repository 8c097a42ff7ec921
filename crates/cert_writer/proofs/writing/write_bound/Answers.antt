use Rattle.cert_writer.proofs.writing.write_bound.Goals as goal

pub write_entries-requires : goal.write_entries-requires
write_entries-requires c = c.requires.w

pub write_entries-requires-2 : goal.write_entries-requires-2
write_entries-requires-2 c = c.requires.y
