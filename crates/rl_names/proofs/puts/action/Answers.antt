use Rattle.rl_names.proofs.puts.action.Goals as goal

pub returns-in-Group : goal.returns-in-Group
returns-in-Group c = rw c.in-Group.is c.action_of_word-in-Group.ensures
