use Rattle.cert_writer.proofs.writing.write_optimal.Goals as goal

pub write_best-requires-clause-point : goal.write_best-requires-clause-point
write_best-requires-clause-point c = c.requires.fitting.0

pub write_best-requires-clause-squares : goal.write_best-requires-clause-squares
write_best-requires-clause-squares c = c.requires.fitting.1.widths

pub write_best-requires-clause-tree : goal.write_best-requires-clause-tree
write_best-requires-clause-tree c = c.requires.fitting.2.nodes_fit
