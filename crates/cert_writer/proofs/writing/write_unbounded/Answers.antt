use Rattle.cert_writer.proofs.writing.write_unbounded.Goals as goal

pub write_entries-requires : goal.write_entries-requires
write_entries-requires c = c.requires.fitting.0

pub write_ray-requires-clause-ray : goal.write_ray-requires-clause-ray
write_ray-requires-clause-ray c = c.requires.fitting.1

pub write_ray-requires-clause-squares : goal.write_ray-requires-clause-squares
write_ray-requires-clause-squares c = c.requires.fitting.2.widths
