use Rattle.cert_writer.proofs.writing.write_ray.Goals as goal

pub write_entries-requires : goal.write_entries-requires
write_entries-requires c = c.requires.ray

pub write_squares-requires : goal.write_squares-requires
write_squares-requires c = c.requires.squares
