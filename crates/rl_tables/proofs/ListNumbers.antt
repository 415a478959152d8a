-- Numbers of lists, targets and conditions of valid arrays.
use Rattle.std.proofs.Common.{◌≡◌, ℕ, ◌+◌, ◌<◌, ◌≤◌, ◌^◌, Bool, true, false, List, length, Some, take, drop, All, refl, sym, ◌∙◌, ap, subst, arith, nat_lt}
use Rattle.std.proofs.lemmas.Bool.Decides.{nat_tests}
use Rattle.std.proofs.lemmas.Int.{ints}
use Rattle.std.specs.Prelude.{ℤ, pos, slice_get}
use Rattle.rl_arrays.specs.declared.arrays.Arrays.{Arrays}
use Rattle.rl_arrays.specs.declared.arrays.ArrayName.TheVariants as the
use Rattle.rl_arrays.specs.Words.{natural, number_at, IsBetween}
use Rattle.rl_arrays.specs.Lists.{IsList}
use Rattle.rl_arrays.specs.Sizes.{states}
use Rattle.rl_arrays.specs.Rules.{ListSays, EndListSays, TokenListSays, TargetSays, StepListSays, HomeSays, KindSays, HasKind}
use Rattle.rl_arrays.specs.Valid.{Valid}
use Rattle.rl_tables.specs.Steps.{IsId}
use Rattle.rl_tables.proofs.Elements.{right, has-due, element, if_at, is_at, number-at, nonneg, is_between}
use Rattle.rl_tables.proofs.Members.{members_are_actions}
use Rattle.rl_tables.proofs.Kinded.{some_states, state_is, home_says, entry_says}

list_is : (a : Arrays) (numbers : List ℤ) (i : ℕ) (z : ℤ) → slice_get numbers i ≡ Some z → IsList a.actions z → IsList a.actions (pos (number_at numbers i))
list_is a numbers i z e h =
    let n = number-at numbers i z e in
    subst (IsList a.actions) (nonneg z h.positive ∙ ap pos (sym n)) h

module _ (a : Arrays) (valid : Valid a) where
  pub from_is_list : (s : ℕ) → s < states a → IsList a.actions (pos (number_at a.from_lists s))
  from_is_list s h =
      let r = right a valid the.FromLists s h in
      let x = element a.from_lists s r.there in
      list_is a a.from_lists s x.0 x.1 (if_at a.from_lists s x.0 (ListSays a s) x.1 r.says).list

  pub to_is_list : (s : ℕ) → s < states a → IsList a.actions (pos (number_at a.to_lists s))
  to_is_list s h =
      let r = right a valid the.ToLists s h in
      let x = element a.to_lists s r.there in
      list_is a a.to_lists s x.0 x.1 (if_at a.to_lists s x.0 (ListSays a s) x.1 r.says).list

  pub eof_is_list : (s : ℕ) → s < states a → IsList a.actions (pos (number_at a.eof_lists s))
  eof_is_list s h =
      let r = right a valid the.EofLists s h in
      let x = element a.eof_lists s r.there in
      list_is a a.eof_lists s x.0 x.1 (if_at a.eof_lists s x.0 (EndListSays a s) x.1 r.says).list

  pub error_is_list : (s : ℕ) → s < states a → IsList a.actions (pos (number_at a.error_lists s))
  error_is_list s h =
      let r = right a valid the.ErrorLists s h in
      let x = element a.error_lists s r.there in
      list_is a a.error_lists s x.0 x.1 (if_at a.error_lists s x.0 (EndListSays a s) x.1 r.says).list

  pub token_is_list : (s : ℕ) → s < states a → IsList a.actions (pos (number_at a.accept_lists s))
  token_is_list s h =
      let r = right a valid the.AcceptLists s h in
      let x = element a.accept_lists s r.there in
      list_is a a.accept_lists s x.0 x.1 (if_at a.accept_lists s x.0 (TokenListSays a s) x.1 r.says).list

  pub step_is_list : (e : ℕ) → e < length a.trans_targs → IsList a.actions (pos (number_at a.trans_lists e))
  step_is_list e h =
      let whole = has-due a valid the.TransTargs in
      let due = has-due a valid the.TransLists in
      let r = right a valid the.TransLists e (omega arith) in
      let x = element a.trans_lists e r.there in
      list_is a a.trans_lists e x.0 x.1 (if_at a.trans_lists e x.0 (StepListSays a e) x.1 r.says).list

  -- members of a list have numbers of actions
  pub members_fit : (place : ℕ) → IsList a.actions (pos place) → All IsId (take (number_at a.actions place) (drop (place + 1) a.actions))
  members_fit place h k d l =
      let p = members_are_actions a valid place h.within h.begins k d l in
      let few = has-due a valid the.ActionNames in
      let low = p.0 in
      let high = p.1 in
      (omega (arith, ints), omega (arith, ints, few))

  -- there are fewer states than an id can name
  pub states_few : states a < 2 ^ 32
  states_few = let e = has-due a valid the.KeyOffsets in omega arith

  pub target_there : (e : ℕ) → e < length a.trans_targs → number_at a.trans_targs e < states a
  target_there e h =
      let whole = has-due a valid the.TransTargs in
      let r = right a valid the.TransTargs e (omega arith) in
      let x = element a.trans_targs e h in
      let s = state_is a valid x.0 (if_at a.trans_targs e x.0 (TargetSays a e) x.1 r.says).state in
      let n = number-at a.trans_targs e x.0 x.1 in
      omega (arith, n, s)

  pub home_there : (s : ℕ) → s < states a → number_at a.homes s < states a
  home_there s h = go (nat_lt 0 (number_at a.state_kinds s)) refl
    where
      go : (b : Bool) → nat_lt 0 (number_at a.state_kinds s) ≡ b → number_at a.homes s < states a
      go true e =
          let x = home_says a valid s h (grind (arith, nat_tests)) in
          let n = state_is a valid x.0 x.2.state in
          let same = x.1 in
          omega (arith, same, n)
      go false e =
          let k = element a.state_kinds s (right a valid the.StateKinds s h).there in
          let says = if_at a.state_kinds s k.0 (KindSays a s) k.1 (right a valid the.StateKinds s h).says in
          let z : number_at a.state_kinds s ≡ 0 = grind (arith, nat_tests) in
          let n = number-at a.state_kinds s k.0 k.1 in
          let plain : HasKind a s 0 0 = is_at a.state_kinds s k.0 (IsBetween 0 0) k.1 (is_between 0 0 k.0 says.known.0 (omega arith) (omega (arith, n, z))) in
          let r = right a valid the.Homes s h in
          let x = element a.homes s r.there in
          let none = (if_at a.homes s x.0 (HomeSays a s) x.1 r.says).plain plain in
          let m : number_at a.homes s ≡ 0 = number-at a.homes s x.0 x.1 ∙ ap natural none in
          let some = some_states a valid in
          omega (arith, m, some)

  pub entry_there : (e : ℕ) → 1 ≤ e → e < length a.entry_names → number_at a.entry_states e < states a
  entry_there e h l =
      let due = has-due a valid the.EntryStates in
      let x = entry_says a valid e (omega arith) (omega arith) in
      let n = state_is a valid x.0 (x.2.state_is (omega arith)) in
      let same = x.1 in
      omega (arith, same, n)
