-- The first step of what follows.
use Rattle.std.specs.List.{list_any}
use Rattle.std.specs.Prelude.{ℕ, ℤ, cond, List, [], ◌++◌, map, Option}
use Rattle.rl_types.specs.declared.numbers.Letter.{Letter}
use Rattle.rl_labels.specs.declared.stamped.Stamp.{Stamp}
use Rattle.rl_labels.specs.Carries.{no_carry}
use Rattle.rl_automata.specs.declared.moves.Move.{Move}
use Rattle.rl_automata.specs.declared.tree.Kind.{Kind}
use Rattle.rl_automata.specs.Auto.{Auto, on_part, listed, next, carrying, round_step}

-- the first step of B with A's out, where A's part is final
abbrev pub next_moves : {S T : Type 0} → Auto S → Auto T → Option S → Letter → List (Move T)
next_moves A B left l = next A B (left, []) (map (carrying (on_part no_carry A.out left)) (listed (B.step B.start l))) []

-- the first step of a new round with the member's out, where the member is final
abbrev pub new_moves : {S : Type 0} → Auto S → ℕ → Letter → S → List (Move S)
new_moves A base l s = cond (A.final s) (map (carrying (A.out s)) (round_step A base A.start l)) []

-- the marks of a member, and where it is final those of the start
abbrev pub member_marks : {S : Type 0} → Auto S → Kind → S → List Stamp
member_marks A k s = A.marks s k ++ cond (A.final s) (A.marks A.start k) []

-- the conditions that the first step of a new round asks, where a member is final
abbrev pub new_asks : {S : Type 0} → Auto S → ℤ → List S → ℕ
new_asks A k ss = cond (list_any A.final ss) (A.asked A.start k) 0
