-- Actions without control statements.
use Rattle.std.proofs.Common.{◌≡◌, ℕ, zero, suc, ◌-◌, List, [], map, Option, Some, None, sym, subst, arith}
use Rattle.std.specs.Prelude.{IfSome, slice_get}
use Rattle.std.specs.Option.{option_map}
use Rattle.std.proofs.lemmas.Option.{slice_get-map}
use Rattle.rl_automata.specs.declared.tree.Label.{Label}
use Rattle.rl_automata.specs.declared.tree.Label.TheVariants as L
use Rattle.rl_automata.specs.declared.tree.Kind.{Kind}
use Rattle.rl_automata.specs.declared.tree.Kind.TheVariants as K
use Rattle.rl_automata.specs.Nodes as N
use Rattle.rl_automata.specs.Nodes.{Node}
use Rattle.rl_model.specs.declared.spec.ActionDef.{ActionDef}
use Rattle.rl_model.specs.Specification.{Action, action_of}
use Rattle.rl_model.specs.Counts.{label_actions, actions_in, turn_action, turn_actions_in}
use Rattle.rl_model.specs.WellFormed.{HasNoStatement}
use Rattle.rl_form.specs.Parts.{IsQuiet, HasQuietLabel, HasQuietActions, HasQuietMark, HasQuietTurns}
use Rattle.rl_form.proofs.Lists.{Each, each_append, each_front, each_behind}

module _ (actions : List ActionDef) where
  abbrev Quiet : ℕ → Type 0
  Quiet n = HasNoStatement (map action_of actions) n

  -- ---- one action

  said : (o : Option ActionDef) → IfSome o (λ (a : ActionDef). a.statements ≡ []) → IfSome (option_map action_of o) (λ (x : Action). x.statements ≡ [])
  said None h = tt
  said (Some a) h = h

  unsaid : (o : Option ActionDef) → IfSome (option_map action_of o) (λ (x : Action). x.statements ≡ []) → IfSome o (λ (a : ActionDef). a.statements ≡ [])
  unsaid None h = tt
  unsaid (Some a) h = h

  pub quiet_number : (n : ℕ) → IsQuiet actions n → Quiet n
  quiet_number zero h = tt
  quiet_number (suc i) h =
      let same : suc i - 1 ≡ i = omega arith in
      subst (λ o. IfSome o (λ (x : Action). x.statements ≡ [])) (sym (slice_get-map action_of actions i))
      (said (slice_get actions i) (subst (λ n. IfSome (slice_get actions n) (λ (a : ActionDef). a.statements ≡ [])) same (h (omega arith))))

  pub number_quiet : (n : ℕ) → Quiet n → IsQuiet actions n
  number_quiet zero h = λ l. absurd (omega (arith, l))
  number_quiet (suc i) h = λ l.
      let same : i ≡ suc i - 1 = omega arith in
      subst (λ n. IfSome (slice_get actions n) (λ (a : ActionDef). a.statements ≡ [])) same
      (unsaid (slice_get actions i) (subst (λ o. IfSome o (λ (x : Action). x.statements ≡ [])) (slice_get-map action_of actions i) h))

  -- ---- those of an expression

  mark : (kind : Kind) (x : ℕ) → HasQuietMark actions kind x → Each Quiet (turn_action kind x)
  mark K.To x h = (quiet_number x h, tt)
  mark K.From x h = (quiet_number x h, tt)
  mark K.Eof x h = tt
  mark K.Error x h = tt

  marked : (kind : Kind) (x : ℕ) → Each Quiet (turn_action kind x) → HasQuietMark actions kind x
  marked K.To x h = number_quiet x h.0
  marked K.From x h = number_quiet x h.0
  marked K.Eof x h = tt
  marked K.Error x h = tt

  pub turns : (t : Node) → HasQuietTurns actions t → Each Quiet (turn_actions_in t)
  turns (N.Set ranges) h = tt
  turns N.Null h = tt
  turns N.Nothing h = tt
  turns (N.Union a b) h = each_append Quiet (turn_actions_in a) (turn_actions_in b) (turns a h.0) (turns b h.1)
  turns (N.And a b) h = each_append Quiet (turn_actions_in a) (turn_actions_in b) (turns a h.0) (turns b h.1)
  turns (N.Minus a b) h = each_append Quiet (turn_actions_in a) (turn_actions_in b) (turns a h.0) (turns b h.1)
  turns (N.Cat a b) h = each_append Quiet (turn_actions_in a) (turn_actions_in b) (turns a h.0) (turns b h.1)
  turns (N.Star a n) h = turns a h
  turns (N.Enter a l) h = turns a h
  turns (N.Finish a l) h = turns a h
  turns (N.All a l) h = turns a h
  turns (N.Leave a l) h = turns a h
  turns (N.Mark a class kind s x) h = each_append Quiet (turn_action kind x) (turn_actions_in a) (mark kind x h.0) (turns a h.1)
  turns (N.When a c) h = turns a h

  pub quiet_turns : (t : Node) → Each Quiet (turn_actions_in t) → HasQuietTurns actions t
  quiet_turns (N.Set ranges) h = tt
  quiet_turns N.Null h = tt
  quiet_turns N.Nothing h = tt
  quiet_turns (N.Union a b) h = (quiet_turns a (each_front Quiet (turn_actions_in a) (turn_actions_in b) h), quiet_turns b (each_behind Quiet (turn_actions_in a) (turn_actions_in b) h))
  quiet_turns (N.And a b) h = (quiet_turns a (each_front Quiet (turn_actions_in a) (turn_actions_in b) h), quiet_turns b (each_behind Quiet (turn_actions_in a) (turn_actions_in b) h))
  quiet_turns (N.Minus a b) h = (quiet_turns a (each_front Quiet (turn_actions_in a) (turn_actions_in b) h), quiet_turns b (each_behind Quiet (turn_actions_in a) (turn_actions_in b) h))
  quiet_turns (N.Cat a b) h = (quiet_turns a (each_front Quiet (turn_actions_in a) (turn_actions_in b) h), quiet_turns b (each_behind Quiet (turn_actions_in a) (turn_actions_in b) h))
  quiet_turns (N.Star a n) h = quiet_turns a h
  quiet_turns (N.Enter a l) h = quiet_turns a h
  quiet_turns (N.Finish a l) h = quiet_turns a h
  quiet_turns (N.All a l) h = quiet_turns a h
  quiet_turns (N.Leave a l) h = quiet_turns a h
  quiet_turns (N.Mark a class kind s x) h = (marked kind x (each_front Quiet (turn_action kind x) (turn_actions_in a) h), quiet_turns a (each_behind Quiet (turn_action kind x) (turn_actions_in a) h))
  quiet_turns (N.When a c) h = quiet_turns a h

  -- ---- all that an expression embeds

  label : (l : Label) → HasQuietLabel actions l → Each Quiet (label_actions l)
  label (L.Action s x) h = (quiet_number x.0 h, tt)
  label (L.Prior s n v) h = tt

  labelled : (l : Label) → Each Quiet (label_actions l) → HasQuietLabel actions l
  labelled (L.Action s x) h = number_quiet x.0 h.0
  labelled (L.Prior s n v) h = tt

  pub embedded : (t : Node) → HasQuietActions actions t → Each Quiet (actions_in t)
  embedded (N.Set ranges) h = tt
  embedded N.Null h = tt
  embedded N.Nothing h = tt
  embedded (N.Union a b) h = each_append Quiet (actions_in a) (actions_in b) (embedded a h.0) (embedded b h.1)
  embedded (N.And a b) h = each_append Quiet (actions_in a) (actions_in b) (embedded a h.0) (embedded b h.1)
  embedded (N.Minus a b) h = each_append Quiet (actions_in a) (actions_in b) (embedded a h.0) (embedded b h.1)
  embedded (N.Cat a b) h = each_append Quiet (actions_in a) (actions_in b) (embedded a h.0) (embedded b h.1)
  embedded (N.Star a n) h = embedded a h
  embedded (N.Enter a l) h = each_append Quiet (label_actions l) (actions_in a) (label l h.0) (embedded a h.1)
  embedded (N.Finish a l) h = each_append Quiet (label_actions l) (actions_in a) (label l h.0) (embedded a h.1)
  embedded (N.All a l) h = each_append Quiet (label_actions l) (actions_in a) (label l h.0) (embedded a h.1)
  embedded (N.Leave a l) h = each_append Quiet (label_actions l) (actions_in a) (label l h.0) (embedded a h.1)
  embedded (N.Mark a class kind s x) h = (quiet_number x h.0, embedded a h.1)
  embedded (N.When a c) h = embedded a h

  pub quiet_embedded : (t : Node) → Each Quiet (actions_in t) → HasQuietActions actions t
  quiet_embedded (N.Set ranges) h = tt
  quiet_embedded N.Null h = tt
  quiet_embedded N.Nothing h = tt
  quiet_embedded (N.Union a b) h = (quiet_embedded a (each_front Quiet (actions_in a) (actions_in b) h), quiet_embedded b (each_behind Quiet (actions_in a) (actions_in b) h))
  quiet_embedded (N.And a b) h = (quiet_embedded a (each_front Quiet (actions_in a) (actions_in b) h), quiet_embedded b (each_behind Quiet (actions_in a) (actions_in b) h))
  quiet_embedded (N.Minus a b) h = (quiet_embedded a (each_front Quiet (actions_in a) (actions_in b) h), quiet_embedded b (each_behind Quiet (actions_in a) (actions_in b) h))
  quiet_embedded (N.Cat a b) h = (quiet_embedded a (each_front Quiet (actions_in a) (actions_in b) h), quiet_embedded b (each_behind Quiet (actions_in a) (actions_in b) h))
  quiet_embedded (N.Star a n) h = quiet_embedded a h
  quiet_embedded (N.Enter a l) h = (labelled l (each_front Quiet (label_actions l) (actions_in a) h), quiet_embedded a (each_behind Quiet (label_actions l) (actions_in a) h))
  quiet_embedded (N.Finish a l) h = (labelled l (each_front Quiet (label_actions l) (actions_in a) h), quiet_embedded a (each_behind Quiet (label_actions l) (actions_in a) h))
  quiet_embedded (N.All a l) h = (labelled l (each_front Quiet (label_actions l) (actions_in a) h), quiet_embedded a (each_behind Quiet (label_actions l) (actions_in a) h))
  quiet_embedded (N.Leave a l) h = (labelled l (each_front Quiet (label_actions l) (actions_in a) h), quiet_embedded a (each_behind Quiet (label_actions l) (actions_in a) h))
  quiet_embedded (N.Mark a class kind s x) h = (number_quiet x h.0, quiet_embedded a h.1)
  quiet_embedded (N.When a c) h = quiet_embedded a h

  -- to-state and from-state actions are embedded
  mark_embedded : (kind : Kind) (x : ℕ) → Quiet x → Each Quiet (turn_action kind x)
  mark_embedded K.To x h = (h, tt)
  mark_embedded K.From x h = (h, tt)
  mark_embedded K.Eof x h = tt
  mark_embedded K.Error x h = tt

  pub turns_embedded : (t : Node) → HasQuietActions actions t → Each Quiet (turn_actions_in t)
  turns_embedded (N.Set ranges) h = tt
  turns_embedded N.Null h = tt
  turns_embedded N.Nothing h = tt
  turns_embedded (N.Union a b) h = each_append Quiet (turn_actions_in a) (turn_actions_in b) (turns_embedded a h.0) (turns_embedded b h.1)
  turns_embedded (N.And a b) h = each_append Quiet (turn_actions_in a) (turn_actions_in b) (turns_embedded a h.0) (turns_embedded b h.1)
  turns_embedded (N.Minus a b) h = each_append Quiet (turn_actions_in a) (turn_actions_in b) (turns_embedded a h.0) (turns_embedded b h.1)
  turns_embedded (N.Cat a b) h = each_append Quiet (turn_actions_in a) (turn_actions_in b) (turns_embedded a h.0) (turns_embedded b h.1)
  turns_embedded (N.Star a n) h = turns_embedded a h
  turns_embedded (N.Enter a l) h = turns_embedded a h.1
  turns_embedded (N.Finish a l) h = turns_embedded a h.1
  turns_embedded (N.All a l) h = turns_embedded a h.1
  turns_embedded (N.Leave a l) h = turns_embedded a h.1
  turns_embedded (N.Mark a class kind s x) h = each_append Quiet (turn_action kind x) (turn_actions_in a) (mark_embedded kind x (quiet_number x h.0)) (turns_embedded a h.1)
  turns_embedded (N.When a c) h = turns_embedded a h
