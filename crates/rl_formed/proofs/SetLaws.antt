-- The sets of entries are few ranges of keys of the alphabet.
use Rattle.std.proofs.Common.{◌≡◌, ℕ, ◌≤◌, Bool, true, false, cond, List, [], ◌∷◌, map, length, Option, None, Some, Ok, refl, arith}
use Rattle.std.specs.Prelude.{All, MatchOption}
use Rattle.std.specs.List.{flat_map}
use Rattle.rl_types.specs.declared.alphabet.Alphabet.{Alphabet}
use Rattle.rl_types.specs.Alphabet.{least_key, greatest_key}
use Rattle.rl_types.specs.declared.alphabet.Alphabet.TheVariants.{Char, UnsignedChar, Short, UnsignedShort, Int, UnsignedInt}
use Rattle.rl_types.specs.declared.numbers.ActionId.{ActionId}
use Rattle.rl_types.specs.KeyRange.{Range}
use Rattle.rl_automata.specs.Refused.{sets_in}
use Rattle.rl_model.specs.Counts.{trees_of}
use Rattle.rl_model.specs.WellFormed.{IsInAlphabet}
use Rattle.rl_draft.specs.declared.draft.Definition.{Definition}
use Rattle.rl_draft.specs.declared.expression.Item.{Item}
use Rattle.rl_draft.specs.declared.expression.Leaf.{Leaf}
use Rattle.rl_draft.specs.declared.expression.Leaf.TheVariants as leaf
use Rattle.rl_leaves.specs.BuiltIns.{built_in_leaf}
use Rattle.rl_leaves.specs.Forms.{AreRanges, IsItem, IsLeaf}
use Rattle.rl_leaves.proofs.BuiltInLaws.{built_in_form}
use Rattle.rl_grammar.specs.declared.step.Step.{Step}
use Rattle.rl_names.specs.Drafts.{definitions_of}
use Rattle.rl_names.specs.Expressions.{Scope}
use Rattle.rl_rewrite.specs.Entries.{Made, Meaning, meanings_in, is_entry, entry, entries, made_by, conditions_by}
use Rattle.rl_rewrite.specs.Plain as p
use Rattle.rl_rewrite.specs.Plain.{PlainPattern, PlainValue}
use Rattle.rl_automata.specs.Scans.{Pattern}
use Rattle.rl_rewrite.specs.declared.counts.Counts.{Counts}
use Rattle.rl_rewrite.specs.Walk.{walk, walk_patterns, walk_value, begun}
use Rattle.rl_rewrite.proofs.SetLaws.{AreSets, walk_sets}
use Rattle.rl_form.proofs.Lists.{Each, each_append, each, all}
use Rattle.rl_formed.proofs.EmbeddedLaws.{AnyEvent, any_steps}
use Rattle.rl_formed.proofs.LeafLaws.{leaf_form}
use Rattle.rl_formed.proofs.PlainLaws.{IsKept, HoldsOfPlain, HoldsOfRanges, HoldsOfLeaf, all_meanings}

module _ (alphabet : Alphabet) where
  -- few ranges, of keys of the alphabet
  abbrev pub IsFew : List Range → Type 0
  IsFew ranges = (length ranges ≤ 256) × All (IsInAlphabet alphabet) ranges

  few_of : (ranges : List Range) → AreRanges alphabet ranges → IsFew ranges
  few_of ranges h = (h.few, h.within)

  ranges_few : (o : Option (List Range)) → MatchOption o (Unit {0}) (AreRanges alphabet) → HoldsOfRanges IsFew o
  ranges_few None h = tt
  ranges_few (Some ranges) h = few_of ranges h

  items_few : (items : List Item) → Each (IsItem alphabet) items → Each (λ (i : Item). HoldsOfRanges IsFew i.ranges) items
  items_few [] h = tt
  items_few (i ∷ is) h = (ranges_few i.ranges h.0, items_few is h.1)

  leaf_few : (l : Leaf) → IsLeaf alphabet l → HoldsOfLeaf IsFew l
  leaf_few (leaf.Set ranges) h = few_of ranges h
  leaf_few leaf.Null h = tt
  leaf_few leaf.Nothing h = tt
  leaf_few (leaf.Row items) h = items_few items (each (IsItem alphabet) items h)

  kept : IsFew (p.any alphabet) → IsKept alphabet (AreSets IsFew) (λ q. Unit {0})
  kept any = record {
    empty = λ at. tt;
    none = λ at. tt;
    every = λ at. any;
    pair = λ q a b at h g. (h, g);
    guarded = λ g a b at h k. (h, k);
    longest = λ a at h. h;
    count = λ a least most at h. h;
    series = λ a ps at h g. h;
  }

  -- the sets of patterns
  patterns_few : (qs : List PlainPattern) (c : Counts) → Each (λ (q : PlainPattern). AreSets IsFew q.plain) qs → Each IsFew (flat_map sets_in (map (λ (x : Pattern). x.tree) (walk_patterns qs c).0.patterns))
  patterns_few [] c h = tt
  patterns_few (q ∷ qs) c h =
      let x = walk q.plain c in
      each_append IsFew (sets_in x.0.node) (flat_map sets_in (map (λ (x : Pattern). x.tree) (walk_patterns qs x.1).0.patterns))
      (each IsFew (sets_in x.0.node) (walk_sets IsFew q.plain c h.0)) (patterns_few qs x.1 h.1)

  value_few : (v : PlainValue) (c : Counts) → HoldsOfPlain (AreSets IsFew) v → Each IsFew (flat_map sets_in (trees_of (walk_value v c).0.root))
  value_few (p.Expression q) c h = each_append IsFew (sets_in (walk q c).0.node) [] (each IsFew (sets_in (walk q c).0.node) (walk_sets IsFew q c h)) tt
  value_few (p.Scanner qs at) c h = patterns_few qs c h

  made_few : (b : Bool) (cs : List ActionId) (m : Meaning) → HoldsOfPlain (AreSets IsFew) m.value → Each (λ (x : Made). Each IsFew (flat_map sets_in (trees_of x.root))) (cond b (entry cs m ∷ []) [])
  made_few true cs m h = (value_few m.value (begun cs) h, tt)
  made_few false cs m h = tt

  entries_few : (cs : List ActionId) (ms : List Meaning) → Each (λ (m : Meaning). HoldsOfPlain (AreSets IsFew) m.value) ms → Each (λ (x : Made). Each IsFew (flat_map sets_in (trees_of x.root))) (entries cs ms)
  entries_few cs [] h = tt
  entries_few cs (m ∷ ms) h =
      each_append (λ (x : Made). Each IsFew (flat_map sets_in (trees_of x.root))) (made_by cs m) (entries (conditions_by cs m) ms) (made_few (is_entry m.sign) cs m h.0) (entries_few (conditions_by cs m) ms h.1)

  all_few_by : IsFew (p.any alphabet) → (k : Scope) (machine : List ℕ) (steps : List Step) (ds : List Definition) → k.alphabet ≡ alphabet → definitions_of k machine steps ≡ Ok ds
      → Each (λ (x : Made). Each IsFew (flat_map sets_in (trees_of x.root))) (entries [] (meanings_in alphabet ds))
  all_few_by any k machine steps ds same e =
      entries_few [] (meanings_in alphabet ds)
      (all_meanings alphabet (AreSets IsFew) (λ q. Unit {0}) IsFew (kept any) (λ ranges at h. h) (Unit {0}) AnyEvent (λ i at h. tt) (λ i o l b r. leaf_few l (leaf_form alphabet o l r)) (λ b. leaf_few (built_in_leaf alphabet b) (built_in_form alphabet b))
      k machine steps ds (λ i names earlier owner. (same, (λ m b a r. tt))) (any_steps machine steps) e)

-- every key of an alphabet is one of its keys
any_within : (alphabet : Alphabet) → IsInAlphabet alphabet (record { lo = least_key alphabet; hi = greatest_key alphabet })
any_within Char = refl
any_within UnsignedChar = refl
any_within Short = refl
any_within UnsignedShort = refl
any_within Int = refl
any_within UnsignedInt = refl

any_few : (alphabet : Alphabet) → IsFew alphabet (p.any alphabet)
any_few alphabet = (omega arith, all (IsInAlphabet alphabet) (p.any alphabet) (any_within alphabet, tt))

-- the sets of all entries
pub all_few : (alphabet : Alphabet) (k : Scope) (machine : List ℕ) (steps : List Step) (ds : List Definition) → k.alphabet ≡ alphabet → definitions_of k machine steps ≡ Ok ds
    → Each (λ (x : Made). Each (IsFew alphabet) (flat_map sets_in (trees_of x.root))) (entries [] (meanings_in alphabet ds))
all_few alphabet k machine steps ds same e = all_few_by alphabet (any_few alphabet) k machine steps ds same e
