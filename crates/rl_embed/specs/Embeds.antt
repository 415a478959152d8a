-- What the embeddings of actions and priorities make of an automaton and of an expression.
use Rattle.std.specs.Prelude.{ℕ, Bool, true, false, ◌&&◌}
use Rattle.rl_labels.specs.declared.carry.Carry.{Carry}
use Rattle.rl_automata.specs.declared.tree.Label.{Label}
use Rattle.rl_automata.specs.Auto.{Auto, is_start, enter_auto, finish_auto, every_auto, leave_auto}
use Rattle.rl_automata.specs.Nodes as N
use Rattle.rl_automata.specs.Nodes.{Node}
use Rattle.rl_embed.specs.declared.how.How.{How}
use Rattle.rl_embed.specs.declared.how.How.TheVariants.{Enter, Finish, All, Leave}

abbrev pub embed_auto : {S : Type 0} → How → Auto S → Carry → Auto S
embed_auto Enter A x = enter_auto A x
embed_auto Finish A x = finish_auto A x
embed_auto All A x = every_auto A x
embed_auto Leave A x = leave_auto A x

abbrev pub embed_node : How → Node → Label → Node
embed_node Enter t l = N.Enter t l
embed_node Finish t l = N.Finish t l
embed_node All t l = N.All t l
embed_node Leave t l = N.Leave t l

module _ {S : Type 0} where
  -- whether a step from the one configuration to the other carries the label
  abbrev pub on_step : How → Auto S → S → S → Bool
  on_step Enter A from to = is_start A from
  on_step Finish A from to = A.final to
  on_step All A from to = true
  on_step Leave A from to = false

  -- whether the out of the configuration carries the label
  abbrev pub on_out : How → Auto S → S → Bool
  on_out Enter A c = is_start A c && A.final c
  on_out Finish A c = false
  on_out All A c = false
  on_out Leave A c = A.final c
