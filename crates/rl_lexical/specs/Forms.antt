-- What sets and regular expressions hold, and which tokens are faults.
use Rattle.std.specs.Prelude.{ℕ, Bool, true, false, ◌||◌, ◌==◌, if◌then◌else◌, List, [], ◌∷◌, drop, Option, Some, None}
use Rattle.rl_types.specs.declared.faults.FaultKind.{FaultKind}
use Rattle.rl_types.specs.declared.faults.FaultKind.TheVariants as f
use Rattle.rl_grammar.specs.declared.token.TokenKind.{TokenKind}
use Rattle.rl_grammar.specs.declared.token.TokenKind.TheVariants as k
use Rattle.rl_lexical.specs.declared.context.Form.{Form}
use Rattle.rl_lexical.specs.declared.context.Form.TheVariants as o
use Rattle.rl_lexical.specs.Bytes.{newline, star, dash, slash, open_bracket, backslash, close_bracket, caret, letter_i}
use Rattle.rl_lexical.specs.Words.{fits}

-- an item of a regular expression: a set, an escape, or a character but `/`, `*` and the newline
abbrev pub item_form : ℕ → Form
item_form b =
    if b == slash then o.Closed else
    (if b == star || b == newline then o.Wrong else (if b == open_bracket then o.SetStart else o.Repeated))

-- a character of a set, which is neither `-` nor `]`
abbrev pub set_item_form : ℕ → Form
set_item_form b = if b == close_bracket then o.Repeated else (if b == dash then o.Wrong else o.SetCharacter)

-- what a character makes of it that no backslash is before
abbrev pub form_behind : Form → ℕ → Form
form_behind o.Item b = item_form b
form_behind o.Repeated b = if b == star then o.Item else item_form b
form_behind o.SetStart b = if b == caret then o.SetItem else set_item_form b
form_behind o.SetItem b = set_item_form b
form_behind o.SetCharacter b = if b == dash then o.SetRange else set_item_form b
form_behind o.SetRange b = if b == close_bracket || b == dash then o.Wrong else o.SetItem
form_behind o.Closed b = if b == letter_i then o.Suffixed else o.Wrong
form_behind o.Suffixed b = o.Wrong
form_behind o.Wrong b = o.Wrong

-- what a character makes of it that a backslash is before
abbrev pub form_behind_escape : Form → Form
form_behind_escape o.Item = o.Repeated
form_behind_escape o.Repeated = o.Repeated
form_behind_escape o.SetStart = o.SetCharacter
form_behind_escape o.SetItem = o.SetCharacter
form_behind_escape o.SetCharacter = o.SetCharacter
form_behind_escape o.SetRange = o.SetItem
form_behind_escape _ = o.Wrong

-- what a text makes of it; an escaped newline is dropped
abbrev mutual
  pub form_after : Form → List ℕ → Form
  form_after form [] = form
  form_after form (b ∷ bs) = if b == backslash then form_after_backslash form bs else form_after (form_behind form b) bs

  pub form_after_backslash : Form → List ℕ → Form
  form_after_backslash form [] = form
  form_after_backslash form (b ∷ bs) = if b == newline then form_after form bs else form_after (form_behind_escape form) bs

-- a set is read
abbrev pub is_set_form : Form → Bool
is_set_form o.Repeated = true
is_set_form _ = false

-- a regular expression is read
abbrev pub is_regular_form : Form → Bool
is_regular_form o.Closed = true
is_regular_form o.Suffixed = true
is_regular_form _ = false

-- what is wrong with a token: a set or regular expression that has not the form of one, or an integer that is too large
abbrev pub fault_of : TokenKind → List ℕ → Option FaultKind
fault_of k.Set text = if is_set_form (form_after o.SetStart (drop 1 text)) then None else Some f.F1
fault_of k.RegularExpression text = if is_regular_form (form_after o.Item (drop 1 text)) then None else Some f.F1
fault_of k.Integer text = if fits text then None else Some f.F7
fault_of _ text = None
