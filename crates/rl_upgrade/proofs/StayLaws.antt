-- What is said of the arrays that stay is said of them among the new ones.
use Rattle.std.proofs.Common.{◌≡◌, ℕ, ◌+◌, ◌*◌, ℤ, Option, Some, None, refl, arith}
use Rattle.std.specs.Prelude.{List, slice_get, IfSome}
use Rattle.rl_arrays.specs.declared.arrays.Arrays.{Arrays}
use Rattle.rl_arrays.specs.declared.arrays.ArrayName.{ArrayName}
use Rattle.rl_arrays.specs.declared.arrays.ArrayName.TheVariants as the
use Rattle.rl_arrays.specs.Sizes.{has, due}
use Rattle.rl_arrays.specs.KeyRules.{KeySays, IsSingle, IsEnd}
use Rattle.rl_arrays.specs.Rules.{Says, ActionSays, LengthSays, ListSays, EndListSays, TokenListSays, KindSays, HomeSays, FirstSays, StatementSays, MarkSays, ArgumentSays, BaseSays, EntrySays, HeadRight}
use Rattle.rl_arrays.specs.Valid.{FirstWrong, Valid}
use Rattle.rl_arrays.specs.Shared.{Cell, with_shared}

pub if_more : {X : Type 0} → (o : Option X) (P Q : X → Type 0) → ((x : X) → P x → Q x) → IfSome o P → IfSome o Q
if_more None P Q f h = tt
if_more (Some x) P Q f h = f x h

module _ (a : Arrays) (kept used : List Cell) (valid : Valid a) where
  abbrev b : Arrays
  b = with_shared kept used a

  pub moved : (array : ArrayName) → has b array ≡ has a array → due b array ≡ due a array → ((i : ℕ) → Says a array i → Says b array i) → FirstWrong b array None
  moved array e f says k l =
      let r = valid.each array k (omega (arith, e, f, l)) in
      let there = r.there in
      let due = r.due in
      record { there = omega (arith, e, there); due = omega (arith, f, due); says = says k r.says }

  single_back : (s p place : ℕ) → IsSingle b s p place → IsSingle a s p place
  single_back s p place h = record { state = h.state; place_is = h.place_is; within = h.within }

  end_back : (s p place : ℕ) → IsEnd b s p place → IsEnd a s p place
  end_back s p place h = record { state = h.state; place_is = h.place_is; within = h.within }

  key_says : (place : ℕ) (key : ℤ) → KeySays a place key → KeySays b place key
  key_says place key r = record {
    closing = r.closing;
    single = λ s p h. r.single s p (single_back s p place h);
    ascends = λ s p h. r.ascends s p (single_back s (p + 1) place h);
    end = λ s p h. r.end s p (end_back s p place h);
    disjoint = λ s p h. r.disjoint s p (end_back s (p + 1) place h);
    apart = λ s q i other h k. r.apart s q i other (end_back s (2 * q) place h) (single_back s i other k);
  }

  length_says : (s : ℕ) (n : ℤ) → LengthSays a s n → LengthSays b s n
  length_says s n r = record { positive = r.positive; error = r.error; closed = r.closed }

  list_says : (s : ℕ) (n : ℤ) → ListSays a s n → ListSays b s n
  list_says s n r = record { list = r.list; error = r.error }

  end_says : (s : ℕ) (n : ℤ) → EndListSays a s n → EndListSays b s n
  end_says s n r = record { list = r.list; error = r.error; scanner = r.scanner }

  token_says : (s : ℕ) (n : ℤ) → TokenListSays a s n → TokenListSays b s n
  token_says s n r = record { list = r.list; error = r.error; match = r.match }

  home_says : (s : ℕ) (n : ℤ) → HomeSays a s n → HomeSays b s n
  home_says s n r = record { plain = r.plain; scanner = λ h. let k = r.scanner h in record { state = k.state; start = k.start; own = k.own } }

  head_right : HeadRight a → HeadRight b
  head_right r = record { name = r.name; start = r.start; alphabet = r.alphabet; first_final = r.first_final }

  entry_says : (e : ℕ) (n : ℤ) → EntrySays a e n → EntrySays b e n
  entry_says e n r = record { none = r.none; head = λ h. head_right (r.head h); state_is = r.state_is; alive = r.alive; kind = r.kind }

  pub actions : FirstWrong b the.Actions None
  actions = moved the.Actions refl refl (λ i. if_more (slice_get a.actions i) (ActionSays a i) (ActionSays b i) (λ n r. record { empty = r.empty; count = r.count; member = r.member }))

  pub key_offsets : FirstWrong b the.KeyOffsets None
  key_offsets = moved the.KeyOffsets refl refl (λ i h. h)

  pub trans_keys : FirstWrong b the.TransKeys None
  trans_keys = moved the.TransKeys refl refl (λ i. if_more (slice_get a.trans_keys i) (KeySays a i) (KeySays b i) (key_says i))

  pub single_lengths : FirstWrong b the.SingleLengths None
  single_lengths = moved the.SingleLengths refl refl (λ i. if_more (slice_get a.single_lengths i) (LengthSays a i) (LengthSays b i) (length_says i))

  pub range_lengths : FirstWrong b the.RangeLengths None
  range_lengths = moved the.RangeLengths refl refl (λ i. if_more (slice_get a.range_lengths i) (LengthSays a i) (LengthSays b i) (length_says i))

  pub cell_offsets : FirstWrong b the.CellOffsets None
  cell_offsets = moved the.CellOffsets refl refl (λ i h. h)

  pub from_lists : FirstWrong b the.FromLists None
  from_lists = moved the.FromLists refl refl (λ i. if_more (slice_get a.from_lists i) (ListSays a i) (ListSays b i) (list_says i))

  pub to_lists : FirstWrong b the.ToLists None
  to_lists = moved the.ToLists refl refl (λ i. if_more (slice_get a.to_lists i) (ListSays a i) (ListSays b i) (list_says i))

  pub eof_lists : FirstWrong b the.EofLists None
  eof_lists = moved the.EofLists refl refl (λ i. if_more (slice_get a.eof_lists i) (EndListSays a i) (EndListSays b i) (end_says i))

  pub error_lists : FirstWrong b the.ErrorLists None
  error_lists = moved the.ErrorLists refl refl (λ i. if_more (slice_get a.error_lists i) (EndListSays a i) (EndListSays b i) (end_says i))

  pub accept_lists : FirstWrong b the.AcceptLists None
  accept_lists = moved the.AcceptLists refl refl (λ i. if_more (slice_get a.accept_lists i) (TokenListSays a i) (TokenListSays b i) (token_says i))

  pub state_kinds : FirstWrong b the.StateKinds None
  state_kinds = moved the.StateKinds refl refl (λ i. if_more (slice_get a.state_kinds i) (KindSays a i) (KindSays b i) (λ n r. record { known = r.known; error = r.error; start = r.start; inner = r.inner }))

  pub homes : FirstWrong b the.Homes None
  homes = moved the.Homes refl refl (λ i. if_more (slice_get a.homes i) (HomeSays a i) (HomeSays b i) (home_says i))

  pub action_names : FirstWrong b the.ActionNames None
  action_names = moved the.ActionNames refl refl (λ i h. h)

  pub stmt_firsts : FirstWrong b the.StmtFirsts None
  stmt_firsts = moved the.StmtFirsts refl refl (λ i. if_more (slice_get a.stmt_firsts i) (FirstSays a i) (FirstSays b i) (λ n r. record { none = r.none; sum = r.sum }))

  pub stmt_kinds : FirstWrong b the.StmtKinds None
  stmt_kinds = moved the.StmtKinds refl refl (λ i. if_more (slice_get a.stmt_kinds i) (StatementSays a i) (StatementSays b i) (λ n r. record { none = r.none; known = r.known }))

  pub stmt_outer : FirstWrong b the.StmtOuter None
  stmt_outer = moved the.StmtOuter refl refl (λ i. if_more (slice_get a.stmt_outer i) (MarkSays a i) (MarkSays b i) (λ n r. record { none = r.none; known = r.known }))

  pub stmt_args : FirstWrong b the.StmtArgs None
  stmt_args = moved the.StmtArgs refl refl (λ i. if_more (slice_get a.stmt_args i) (ArgumentSays a i) (ArgumentSays b i) (λ n r. record { none = r.none; entry = r.entry }))

  pub stmt_bases : FirstWrong b the.StmtBases None
  stmt_bases = moved the.StmtBases refl refl (λ i. if_more (slice_get a.stmt_bases i) (BaseSays a i) (BaseSays b i) (λ n r. record { none = r.none; known = r.known }))

  pub cond_names : FirstWrong b the.CondNames None
  cond_names = moved the.CondNames refl refl (λ i h. h)

  pub entry_names : FirstWrong b the.EntryNames None
  entry_names = moved the.EntryNames refl refl (λ i h. h)

  pub entry_states : FirstWrong b the.EntryStates None
  entry_states = moved the.EntryStates refl refl (λ i. if_more (slice_get a.entry_states i) (EntrySays a i) (EntrySays b i) (entry_says i))
