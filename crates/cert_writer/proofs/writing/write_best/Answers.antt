use Rattle.cert_writer.proofs.writing.write_best.Goals as goal

pub write_entries-requires : goal.write_entries-requires
write_entries-requires c = c.requires.point

pub write_squares-requires : goal.write_squares-requires
write_squares-requires c = c.requires.squares

pub write_tree_to_end-requires : goal.write_tree_to_end-requires
write_tree_to_end-requires c = c.requires.tree
