-- An expression is sound where all that stands in it is as is asked.
use Rattle.std.proofs.Common.{ℕ, ◌≤◌, List, ◌∷◌, ◌++◌}
use Rattle.std.specs.Prelude.{length, All}
use Rattle.rl_types.specs.KeyRange.{Range}
use Rattle.rl_automata.specs.declared.tree.Label.{Label}
use Rattle.rl_automata.specs.declared.tree.Label.TheVariants.{Action, Prior}
use Rattle.rl_automata.specs.Nodes as N
use Rattle.rl_automata.specs.Nodes.{Node}
use Rattle.rl_automata.specs.Refused.{sets_in, conditions_in}
use Rattle.rl_model.specs.Counts.{actions_in, stamps_in, label_actions, label_stamp}
use Rattle.rl_model.specs.WellFormed.{IsNumber, IsInAlphabet}
use Rattle.rl_form.specs.declared.scope.Scope.{Scope}
use Rattle.rl_form.specs.Parts.{IsLabel, IsSound}
use Rattle.rl_form.proofs.Lists.{Each, each_append, each_front, each_behind}

abbrev pub IsKeySet : Scope → List Range → Type 0
IsKeySet scope ranges = All (IsInAlphabet scope.alphabet) ranges

abbrev pub IsFewRanges : List Range → Type 0
IsFewRanges ranges = length ranges ≤ 256

-- these actions, conditions, stamps and sets are as is asked
pub record Says (scope : Scope) (xs cs ss : List ℕ) (sets : List (List Range)) : Type 0 where
  pub actions : Each (IsNumber scope.actions) xs
  pub conditions : Each (IsNumber scope.conditions) cs
  pub stamps : Each (IsNumber 100000) ss
  pub keys : Each (IsKeySet scope) sets
  pub ranges : Each IsFewRanges sets

abbrev pub SaysTree : Scope → Node → Type 0
SaysTree scope t = Says scope (actions_in t) (conditions_in t) (stamps_in t) (sets_in t)

-- of two expressions
abbrev pub SaysBoth : Scope → Node → Node → Type 0
SaysBoth scope a b = Says scope (actions_in a ++ actions_in b) (conditions_in a ++ conditions_in b) (stamps_in a ++ stamps_in b) (sets_in a ++ sets_in b)

both : (scope : Scope) (a b : Node) → SaysTree scope a → SaysTree scope b → SaysBoth scope a b
both scope a b p q = record {
  actions = each_append (IsNumber scope.actions) (actions_in a) (actions_in b) p.actions q.actions;
  conditions = each_append (IsNumber scope.conditions) (conditions_in a) (conditions_in b) p.conditions q.conditions;
  stamps = each_append (IsNumber 100000) (stamps_in a) (stamps_in b) p.stamps q.stamps;
  keys = each_append (IsKeySet scope) (sets_in a) (sets_in b) p.keys q.keys;
  ranges = each_append IsFewRanges (sets_in a) (sets_in b) p.ranges q.ranges;
}

left : (scope : Scope) (a b : Node) → SaysBoth scope a b → SaysTree scope a
left scope a b p = record {
  actions = each_front (IsNumber scope.actions) (actions_in a) (actions_in b) p.actions;
  conditions = each_front (IsNumber scope.conditions) (conditions_in a) (conditions_in b) p.conditions;
  stamps = each_front (IsNumber 100000) (stamps_in a) (stamps_in b) p.stamps;
  keys = each_front (IsKeySet scope) (sets_in a) (sets_in b) p.keys;
  ranges = each_front IsFewRanges (sets_in a) (sets_in b) p.ranges;
}

right : (scope : Scope) (a b : Node) → SaysBoth scope a b → SaysTree scope b
right scope a b p = record {
  actions = each_behind (IsNumber scope.actions) (actions_in a) (actions_in b) p.actions;
  conditions = each_behind (IsNumber scope.conditions) (conditions_in a) (conditions_in b) p.conditions;
  stamps = each_behind (IsNumber 100000) (stamps_in a) (stamps_in b) p.stamps;
  keys = each_behind (IsKeySet scope) (sets_in a) (sets_in b) p.keys;
  ranges = each_behind IsFewRanges (sets_in a) (sets_in b) p.ranges;
}

-- of an expression with a label
abbrev pub SaysLabelled : Scope → Node → Label → Type 0
SaysLabelled scope a l = Says scope (label_actions l ++ actions_in a) (conditions_in a) (label_stamp l ∷ stamps_in a) (sets_in a)

labelled : (scope : Scope) (a : Node) (l : Label) → IsLabel scope l → SaysTree scope a → SaysLabelled scope a l
labelled scope a (Action s x) h p = record { actions = (h.1, p.actions); conditions = p.conditions; stamps = (h.0, p.stamps); keys = p.keys; ranges = p.ranges }
labelled scope a (Prior s n v) h p = record { actions = p.actions; conditions = p.conditions; stamps = (h, p.stamps); keys = p.keys; ranges = p.ranges }

label : (scope : Scope) (a : Node) (l : Label) → SaysLabelled scope a l → IsLabel scope l × SaysTree scope a
label scope a (Action s x) p = ((p.stamps.0, p.actions.0), record { actions = p.actions.1; conditions = p.conditions; stamps = p.stamps.1; keys = p.keys; ranges = p.ranges })
label scope a (Prior s n v) p = (p.stamps.0, record { actions = p.actions; conditions = p.conditions; stamps = p.stamps.1; keys = p.keys; ranges = p.ranges })

pub says : (scope : Scope) (t : Node) → IsSound scope t → SaysTree scope t
says scope (N.Set ranges) h = record { actions = tt; conditions = tt; stamps = tt; keys = (h.1, tt); ranges = (h.0, tt) }
says scope N.Null h = record { actions = tt; conditions = tt; stamps = tt; keys = tt; ranges = tt }
says scope N.Nothing h = record { actions = tt; conditions = tt; stamps = tt; keys = tt; ranges = tt }
says scope (N.Union a b) h = both scope a b (says scope a h.0) (says scope b h.1)
says scope (N.And a b) h = both scope a b (says scope a h.0) (says scope b h.1)
says scope (N.Minus a b) h = both scope a b (says scope a h.0) (says scope b h.1)
says scope (N.Cat a b) h = both scope a b (says scope a h.0) (says scope b h.1)
says scope (N.Star a n) h = let p = says scope a h.1 in record { actions = p.actions; conditions = p.conditions; stamps = (h.0, p.stamps); keys = p.keys; ranges = p.ranges }
says scope (N.Enter a l) h = labelled scope a l h.0 (says scope a h.1)
says scope (N.Finish a l) h = labelled scope a l h.0 (says scope a h.1)
says scope (N.All a l) h = labelled scope a l h.0 (says scope a h.1)
says scope (N.Leave a l) h = labelled scope a l h.0 (says scope a h.1)
says scope (N.Mark a class kind s x) h = let p = says scope a h.1 in record { actions = (h.0.1, p.actions); conditions = p.conditions; stamps = (h.0.0, p.stamps); keys = p.keys; ranges = p.ranges }
says scope (N.When a c) h = let p = says scope a h.1 in record { actions = p.actions; conditions = (h.0, p.conditions); stamps = p.stamps; keys = p.keys; ranges = p.ranges }

pub sound : (scope : Scope) (t : Node) → SaysTree scope t → IsSound scope t
sound scope (N.Set ranges) p = (p.ranges.0, p.keys.0)
sound scope N.Null p = tt
sound scope N.Nothing p = tt
sound scope (N.Union a b) p = (sound scope a (left scope a b p), sound scope b (right scope a b p))
sound scope (N.And a b) p = (sound scope a (left scope a b p), sound scope b (right scope a b p))
sound scope (N.Minus a b) p = (sound scope a (left scope a b p), sound scope b (right scope a b p))
sound scope (N.Cat a b) p = (sound scope a (left scope a b p), sound scope b (right scope a b p))
sound scope (N.Star a n) p = (p.stamps.0, sound scope a (record { actions = p.actions; conditions = p.conditions; stamps = p.stamps.1; keys = p.keys; ranges = p.ranges }))
sound scope (N.Enter a l) p = let q = label scope a l p in (q.0, sound scope a q.1)
sound scope (N.Finish a l) p = let q = label scope a l p in (q.0, sound scope a q.1)
sound scope (N.All a l) p = let q = label scope a l p in (q.0, sound scope a q.1)
sound scope (N.Leave a l) p = let q = label scope a l p in (q.0, sound scope a q.1)
sound scope (N.Mark a class kind s x) p = (
  (p.stamps.0, p.actions.0),
  sound scope a (record { actions = p.actions.1; conditions = p.conditions; stamps = p.stamps.1; keys = p.keys; ranges = p.ranges }),
)
sound scope (N.When a c) p = (p.conditions.0, sound scope a (record { actions = p.actions; conditions = p.conditions.1; stamps = p.stamps; keys = p.keys; ranges = p.ranges }))
