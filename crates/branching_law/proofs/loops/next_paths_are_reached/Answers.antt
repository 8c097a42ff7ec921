use Rattle.branching_law.proofs.loops.next_paths_are_reached.Goals as goal

pub returns : goal.returns
returns c = record {
  path = λ aim p bases boxes turns nodes path rest incumbent h. record { aim = aim; turns = turns; nodes = nodes; open_paths = rest; earned = h.earned };
  site = λ aim p bases boxes turns nodes path rest incumbent site h uncrossed asked reached. record {
    comes = record { aim = aim; turns = turns; nodes = nodes; open_paths = rest; earned = h.earned };
    uncrossed = uncrossed;
    asked = asked;
    reached = reached;
  };
}
