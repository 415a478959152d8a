-- Machines whose states of one class have one more mark.
use Rattle.std.specs.Prelude.{ℕ, Bool, cond, ◌&&◌, List, ◌∷◌}
use Rattle.rl_labels.specs.declared.stamped.Stamp.{Stamp}
use Rattle.rl_labels.specs.Labels.{stamps_of}
use Rattle.rl_automata.specs.declared.tree.Class.{Class}
use Rattle.rl_automata.specs.declared.tree.Kind.{Kind}
use Rattle.rl_automata.specs.declared.tree.Kind.TheVariants.{To, From, Eof, Error}
use Rattle.rl_automata.specs.Auto.{Auto, in_class, same_kind}
use Rattle.rl_fsm.specs.declared.state.Marks.{Marks}
use Rattle.rl_fsm.specs.declared.state.State.{State}
use Rattle.rl_fsm.specs.Graphs.{Graph, fsm_auto}
use Rattle.rl_embed.specs.Changed.{changed}

-- the mark beside the rest, where it is due
abbrev pub marked_with : Bool → Stamp → List Stamp → List Stamp
marked_with due x xs = cond due (stamps_of (x ∷ xs)) xs

-- the marks of the kind have one more
abbrev pub more_marks : Bool → Kind → Stamp → Marks → Marks
more_marks due kind x m = record {
  to = marked_with (same_kind kind To && due) x m.to;
  from = marked_with (same_kind kind From && due) x m.from;
  eof = marked_with (same_kind kind Eof && due) x m.eof;
  error = marked_with (same_kind kind Error && due) x m.error;
}

abbrev pub marked_state : Class → Kind → Stamp → Auto ℕ → ℕ → State → State
marked_state class kind x A n s = record { fin = s.fin; out = s.out; marks = more_marks (in_class A class n) kind x s.marks; edges = s.edges }

-- the states of the class have the mark
abbrev pub marked : Class → Kind → Stamp → Graph → Graph
marked class kind x m = changed (marked_state class kind x (fsm_auto m)) m
