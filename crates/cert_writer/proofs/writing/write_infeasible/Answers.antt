use Rattle.cert_writer.proofs.writing.write_infeasible.Goals as goal

pub write_tree_to_end-requires : goal.write_tree_to_end-requires
write_tree_to_end-requires c = c.requires.fitting.0.nodes_fit
