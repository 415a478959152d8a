-- The limits of a source, of its machines and of an input (this profile), by the numbers that are printed.
use Rattle.std.specs.Prelude.{ℕ}

-- L1: the bytes of one source file
abbrev pub most_source_bytes : ℕ
most_source_bytes = 4194304

-- L2: how deep includes stand
abbrev pub most_includes : ℕ
most_includes = 16

-- L3: the open parentheses
abbrev pub most_parentheses : ℕ
most_parentheses = 128

-- L4: the nodes of one entry's tree
abbrev pub most_nodes : ℕ
most_nodes = 100000

-- L5: the depth of a tree
abbrev pub most_depth : ℕ
most_depth = 2000

-- L6: the reachable configurations of a node, before its pruning
abbrev pub most_configurations : ℕ
most_configurations = 32767

-- L7: the conditions of a machine
abbrev pub most_conditions : ℕ
most_conditions = 8

-- L8: the cells of a node, which are its configurations times the key classes times 2 to the number of its conditions
abbrev pub most_cells : ℕ
most_cells = 4194304

-- L9: the names of a machine, of its actions as of its instantiations
abbrev pub most_names : ℕ
most_names = 65535

-- L10: the statements of an action at the outer level up to the first transfer or break
abbrev pub most_outer_statements : ℕ
most_outer_statements = 4

-- L11: the states of a machine with a certificate
abbrev pub most_certified_states : ℕ
most_certified_states = 256

-- L12: the bytes of an input that has no end of its own
abbrev pub most_input_bytes : ℕ
most_input_bytes = 1099511627776
