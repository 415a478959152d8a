-- Conditions that are gathered one machine after another.
use Rattle.std.proofs.Common.{◌≡◌, ◌∙◌, ℕ, ℤ, List, [], ◌∷◌, Option, bit_or, sym}
use Rattle.std.proofs.lemmas.Nat.{or_comm}
use Rattle.rl_automata.specs.Auto.{on_part}
use Rattle.rl_fsm.specs.Graphs.{Graph, fsm_auto}
use Rattle.rl_fsm.proofs.Bits.{or_or, or_none}
use Rattle.rl_scan.specs.Beside.{first_part, behind, all_asked, asked_with}

asked_more : (so_far : ℕ) (ms : List Graph) (c : List (Option ℕ)) (k : ℤ) → asked_with so_far ms c k ≡ bit_or so_far (all_asked ms c k)
asked_more so_far [] c k = sym (or_none so_far)
asked_more so_far (m ∷ ms) c k =
    let one = on_part 0 (λ s. (fsm_auto m).asked s k) (first_part c) in
    asked_more (bit_or so_far one) ms (behind c) k ∙ or_or so_far one (all_asked ms (behind c) k)

pub asked_is : (ms : List Graph) (c : List (Option ℕ)) (k : ℤ) → asked_with 0 ms c k ≡ all_asked ms c k
asked_is ms c k = asked_more 0 ms c k ∙ or_comm 0 (all_asked ms c k) ∙ or_none (all_asked ms c k)
