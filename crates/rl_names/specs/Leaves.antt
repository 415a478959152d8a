-- What literals, numbers, ranges, sets and regular expressions say, with their faults.
use Rattle.std.specs.Prelude.{ℕ, Bool, nat_le, if◌then◌else◌, ℤ, List, is_some, Result, Ok, Err}
use Rattle.rl_types.specs.declared.alphabet.Alphabet.{Alphabet}
use Rattle.rl_types.specs.declared.faults.FaultKind.{FaultKind}
use Rattle.rl_types.specs.declared.faults.FaultKind.TheVariants.{F7}
use Rattle.rl_types.specs.declared.numbers.Key.{Key}
use Rattle.rl_types.specs.declared.numbers.Place.{Place}
use Rattle.rl_grammar.specs.Literals.{number}
use Rattle.rl_grammar.specs.declared.read_fault.ReadFault.{ReadFault}
use Rattle.rl_grammar.specs.declared.read_fault.ReadFault.TheVariants as reason
use Rattle.rl_grammar.specs.declared.syntax.Key.{Key as End}
use Rattle.rl_grammar.specs.declared.syntax.Key.TheVariants as key
use Rattle.rl_grammar.specs.declared.syntax.Number.{Number}
use Rattle.rl_grammar.specs.declared.syntax.Operand.{Operand, out-Operand}
use Rattle.rl_grammar.specs.declared.syntax.Operand.TheOpen as operand
use Rattle.rl_grammar.specs.declared.syntax.Word.{Word}
use Rattle.rl_draft.specs.declared.expression.Leaf.{Leaf}
use Rattle.rl_draft.specs.declared.expression.Leaf.TheVariants as leaf
use Rattle.rl_leaves.specs.Answers.{kind_of}
use Rattle.rl_leaves.specs.BuiltIns.{built_in_named}
use Rattle.rl_leaves.specs.Keys.{signed, character_key, key_leaf, range_leaf}
use Rattle.rl_leaves.specs.Literals.{literal_leaf}
use Rattle.rl_leaves.specs.RegularExpressions.{regular_leaf}
use Rattle.rl_leaves.specs.Sets.{set_leaf}
use Rattle.rl_leaves.specs.declared.fault.KeyFault.{KeyFault}
use Rattle.rl_leaves.specs.declared.fault.KeyFault.TheVariants as wrong
use Rattle.rl_leaves.specs.declared.fault.LeafFault.{LeafFault}
use Rattle.rl_leaves.specs.declared.fault.LeafFault.TheVariants as refused
use Rattle.rl_names.specs.Answers.{and_then}
use Rattle.rl_names.specs.Places.{number_place, key_place}
use Rattle.rl_names.specs.Values.{Layer}

abbrev pub is_built_in : List ℕ → Bool
is_built_in text = is_some (built_in_named text)

abbrev pub fault_at : FaultKind → Place → ReadFault
fault_at kind place = reason.Fault (record { kind = kind; place = place })

-- ---- numbers

-- An integer fits 64 bits with a sign; one that does not is refused where tokens are read, at this place.
abbrev pub fits : List ℕ → Bool
fits text = nat_le (number text) 9223372036854775807

abbrev pub count_read : Word → Result ℕ ReadFault
count_read w = if fits w.text then Ok (number w.text) else Err (fault_at F7 w.place)

abbrev pub number_read : Number → Result ℤ ReadFault
number_read n = if fits n.digits.text then Ok (signed (is_some n.minus) n.digits.text) else Err (fault_at F7 n.digits.place)

abbrev pub key_read : Alphabet → End → Result Key ReadFault
key_read alphabet (key.Number n) = and_then (number_read n) (λ v. Ok (record { 0 = v }))
key_read alphabet (key.Character w) = Ok (character_key alphabet w.text)

-- ---- leaves

-- a fault at the one place
abbrev pub told_at : Place → Result Leaf KeyFault → Result Leaf ReadFault
told_at place (Ok l) = Ok l
told_at place (Err fault) = Err (fault_at (kind_of fault) place)

-- where a fault of a range is told
abbrev pub end_at : Place → Place → KeyFault → Place
end_at low high wrong.Outside = low
end_at low high wrong.Reversed = low
end_at low high wrong.UpperOutside = high

abbrev pub told_between : Place → Place → Result Leaf KeyFault → Result Leaf ReadFault
told_between low high (Ok l) = Ok l
told_between low high (Err fault) = Err (fault_at (kind_of fault) (end_at low high fault))

-- the same of an answer, in which memory may be wanted
abbrev pub fault_told : Place → LeafFault → ReadFault
fault_told place (refused.Keys fault) = fault_at (kind_of fault) place
fault_told place refused.Memory = reason.Memory

abbrev pub range_fault_told : Place → Place → LeafFault → ReadFault
range_fault_told low high (refused.Keys fault) = fault_at (kind_of fault) (end_at low high fault)
range_fault_told low high refused.Memory = reason.Memory

abbrev pub literal_read : Alphabet → Word → Result Leaf ReadFault
literal_read alphabet w = Ok (literal_leaf alphabet w.text)

abbrev pub number_leaf : Alphabet → Number → Result Leaf ReadFault
number_leaf alphabet n = and_then (number_read n) (λ k. told_at (number_place n) (key_leaf alphabet k))

abbrev pub range_between : Alphabet → End → End → Result Leaf ReadFault
range_between alphabet low high =
    and_then (key_read alphabet low) (λ lo. and_then (key_read alphabet high) (λ hi. told_between (key_place low) (key_place high) (range_leaf alphabet lo.0 hi.0)))

abbrev pub set_read : Alphabet → Word → Result Leaf ReadFault
set_read alphabet w = told_at w.place (set_leaf alphabet w.text)

abbrev pub regular_read : Alphabet → Word → Result Leaf ReadFault
regular_read alphabet w = told_at w.place (regular_leaf alphabet w.text)

abbrev pub layer_leaf : Alphabet → Layer → Result Leaf ReadFault
layer_leaf alphabet (operand.Literal w) = literal_read alphabet w
layer_leaf alphabet (operand.Number n) = number_leaf alphabet n
layer_leaf alphabet (operand.Range low dots high) = range_between alphabet low high
layer_leaf alphabet (operand.Set w) = set_read alphabet w
layer_leaf alphabet (operand.RegularExpression w) = regular_read alphabet w
layer_leaf alphabet (operand.Name w) = Ok leaf.Null
layer_leaf alphabet (operand.Group opening inner closing) = Ok leaf.Null
layer_leaf alphabet (operand.Scanner s) = Ok leaf.Null

-- what a literal, a number, a range, a set or a regular expression says
abbrev pub leaf_read : Alphabet → Operand → Result Leaf ReadFault
leaf_read alphabet o = layer_leaf alphabet (out-Operand o)
