-- What lines of the forms of a section say is what a section says.
use Rattle.std.proofs.Common.{◌≡◌, ℕ, zero, suc, List, [], ◌∷◌, ◌++◌, length, map, drop, replicate, sym, ap, ◌∙◌, subst, refl, arith, append_assoc}
use Rattle.std.specs.Prelude.{IsTrue, ℤ, pos, negsuc, Bool, true, false}
use Rattle.std.specs.List.{AllByRecursion}
use Rattle.rl_arrays.specs.declared.arrays.Arrays.{Arrays}
use Rattle.rl_arrays.specs.declared.arrays.ArrayName.{ArrayName}
use Rattle.rl_arrays.specs.declared.arrays.ArrayName.TheVariants as array
use Rattle.std.specs.Ordering.{int_eq}
use Rattle.std.proofs.lemmas.Int.{ints}
use Rattle.rl_arrays.specs.Names.{is_name}
use Rattle.rl_arrays.specs.Words.{IsBetween}
use Rattle.rl_arrays.specs.Sizes.{shares}
use Rattle.rl_arrays.specs.Valid.{IsVersioned}
use Rattle.rl_arrays.specs.Section.{first_line, last_line, entry_line, array_line, elements, printed}
use Rattle.rl_cread.specs.declared.said.Form.{Form}
use Rattle.rl_cread.specs.declared.said.Form.TheVariants as form
use Rattle.rl_cread.specs.declared.said.Label.{Label}
use Rattle.rl_cread.specs.declared.said.Label.TheVariants as label
use Rattle.rl_cread.specs.declared.said.Said.{Said}
use Rattle.rl_cread.specs.declared.said.Said.TheVariants as the
use Rattle.rl_cread.specs.declared.raw.Raw.{Raw}
use Rattle.rl_cread.specs.Contents.{content, Fits, IsPrintedNumber, IsPrintedName, IsPrintedEntry, IsPrintable}
use Rattle.rl_cread.specs.Sections.{lines_with, version_text}
use Rattle.rl_cread.specs.Lines.{line, AllFit, uses, tail, shape, said_entry, tail_of, said_of}
use Rattle.rl_cread.specs.Reading.{ReadsAs}
use Rattle.rl_cread.specs.Gathering.{version_of, empty, with_numbers, with_names, put, filled}

-- one said for each form
record Fit (fs : List Form) (ss : List Said) : Type 0 where
  all : AllFit fs ss

-- what the first line says, by its form
record NumberFirst (l : Label) (fs : List Form) (ss : List Said) : Type 0 where
  n : ℤ
  fits : IsPrintedNumber n
  rest : List Said
  is : ss ≡ the.Number l n ∷ rest
  more : Fit fs rest

record ErrorFirst (fs : List Form) (ss : List Said) : Type 0 where
  rest : List Said
  is : ss ≡ the.Error ∷ rest
  more : Fit fs rest

record LastFirst (fs : List Form) (ss : List Said) : Type 0 where
  rest : List Said
  is : ss ≡ the.Last ∷ rest
  more : Fit fs rest

record EntryFirst (fs : List Form) (ss : List Said) : Type 0 where
  entry : List ℕ × ℤ
  fits : IsPrintedEntry entry
  rest : List Said
  is : ss ≡ said_entry entry ∷ rest
  more : Fit fs rest

record NumbersFirst (x : ArrayName) (fs : List Form) (ss : List Said) : Type 0 where
  ns : List ℤ
  fits : AllByRecursion IsPrintedNumber ns
  rest : List Said
  is : ss ≡ the.Numbers x ns ∷ rest
  more : Fit fs rest

record NamesFirst (x : ArrayName) (fs : List Form) (ss : List Said) : Type 0 where
  ns : List (List ℕ)
  fits : AllByRecursion IsPrintedName ns
  rest : List Said
  is : ss ≡ the.Names x ns ∷ rest
  more : Fit fs rest

number_of : (l : Label) (fs : List Form) (ss : List Said) → AllFit (form.Number l ∷ fs) ss → NumberFirst l fs ss
number_of l fs [] h = absurd h
number_of l fs (the.Number k n ∷ ss) h = record { n = n; fits = h.0.1; rest = ss; is = ap (λ x. the.Number x n ∷ ss) h.0.0; more = record { all = h.1 } }
number_of l fs (s ∷ ss) h = absurd h.0

number_first : {l : Label} {fs : List Form} {ss : List Said} → Fit (form.Number l ∷ fs) ss → NumberFirst l fs ss
number_first {l} {fs} {ss} h = number_of l fs ss h.all

error_of : (fs : List Form) (ss : List Said) → AllFit (form.Error ∷ fs) ss → ErrorFirst fs ss
error_of fs [] h = absurd h
error_of fs (the.Error ∷ ss) h = record { rest = ss; is = refl; more = record { all = h.1 } }
error_of fs (s ∷ ss) h = absurd h.0

error_first : {fs : List Form} {ss : List Said} → Fit (form.Error ∷ fs) ss → ErrorFirst fs ss
error_first {fs} {ss} h = error_of fs ss h.all

last_of : (fs : List Form) (ss : List Said) → AllFit (form.Last ∷ fs) ss → LastFirst fs ss
last_of fs [] h = absurd h
last_of fs (the.Last ∷ ss) h = record { rest = ss; is = refl; more = record { all = h.1 } }
last_of fs (s ∷ ss) h = absurd h.0

last_first : {fs : List Form} {ss : List Said} → Fit (form.Last ∷ fs) ss → LastFirst fs ss
last_first {fs} {ss} h = last_of fs ss h.all

entry_of : (fs : List Form) (ss : List Said) → AllFit (form.Entry ∷ fs) ss → EntryFirst fs ss
entry_of fs [] h = absurd h
entry_of fs (the.Entry word n ∷ ss) h = record { entry = (word, n); fits = h.0; rest = ss; is = refl; more = record { all = h.1 } }
entry_of fs (s ∷ ss) h = absurd h.0

numbers_of : (x : ArrayName) (fs : List Form) (ss : List Said) → AllFit (form.Numbers x ∷ fs) ss → NumbersFirst x fs ss
numbers_of x fs [] h = absurd h
numbers_of x fs (the.Numbers y ns ∷ ss) h = record { ns = ns; fits = h.0.1; rest = ss; is = ap (λ z. the.Numbers z ns ∷ ss) h.0.0; more = record { all = h.1 } }
numbers_of x fs (s ∷ ss) h = absurd h.0

numbers_first : {x : ArrayName} {fs : List Form} {ss : List Said} → Fit (form.Numbers x ∷ fs) ss → NumbersFirst x fs ss
numbers_first {x} {fs} {ss} h = numbers_of x fs ss h.all

names_of : (x : ArrayName) (fs : List Form) (ss : List Said) → AllFit (form.Names x ∷ fs) ss → NamesFirst x fs ss
names_of x fs [] h = absurd h
names_of x fs (the.Names y ns ∷ ss) h = record { ns = ns; fits = h.0.1; rest = ss; is = ap (λ z. the.Names z ns ∷ ss) h.0.0; more = record { all = h.1 } }
names_of x fs (s ∷ ss) h = absurd h.0

names_first : {x : ArrayName} {fs : List Form} {ss : List Said} → Fit (form.Names x ∷ fs) ss → NamesFirst x fs ss
names_first {x} {fs} {ss} h = names_of x fs ss h.all

nothing_more : (ss : List Said) → AllFit [] ss → ss ≡ []
nothing_more [] h = refl
nothing_more (s ∷ ss) h = absurd h

-- what each array may say
record AllOf (a : Arrays) : Type 0 where
  actions : Fits (content a array.Actions)
  key_offsets : Fits (content a array.KeyOffsets)
  trans_keys : Fits (content a array.TransKeys)
  single_lengths : Fits (content a array.SingleLengths)
  range_lengths : Fits (content a array.RangeLengths)
  cell_offsets : Fits (content a array.CellOffsets)
  cell_uses : Fits (content a array.CellUses)
  cell_asks : Fits (content a array.CellAsks)
  cell_entries : Fits (content a array.CellEntries)
  trans_targs : Fits (content a array.TransTargs)
  trans_lists : Fits (content a array.TransLists)
  from_lists : Fits (content a array.FromLists)
  to_lists : Fits (content a array.ToLists)
  eof_lists : Fits (content a array.EofLists)
  error_lists : Fits (content a array.ErrorLists)
  accept_lists : Fits (content a array.AcceptLists)
  state_kinds : Fits (content a array.StateKinds)
  homes : Fits (content a array.Homes)
  action_names : Fits (content a array.ActionNames)
  stmt_firsts : Fits (content a array.StmtFirsts)
  stmt_counts : Fits (content a array.StmtCounts)
  stmt_kinds : Fits (content a array.StmtKinds)
  stmt_outer : Fits (content a array.StmtOuter)
  stmt_args : Fits (content a array.StmtArgs)
  stmt_bases : Fits (content a array.StmtBases)
  cond_names : Fits (content a array.CondNames)
  entry_names : Fits (content a array.EntryNames)
  entry_states : Fits (content a array.EntryStates)

tail_fits : (a : Arrays) → AllOf a → (x : ArrayName) → Fits (content a x)
tail_fits a h array.Actions = h.actions
tail_fits a h array.KeyOffsets = h.key_offsets
tail_fits a h array.TransKeys = h.trans_keys
tail_fits a h array.SingleLengths = h.single_lengths
tail_fits a h array.RangeLengths = h.range_lengths
tail_fits a h array.CellOffsets = h.cell_offsets
tail_fits a h array.CellUses = h.cell_uses
tail_fits a h array.CellAsks = h.cell_asks
tail_fits a h array.CellEntries = h.cell_entries
tail_fits a h array.TransTargs = h.trans_targs
tail_fits a h array.TransLists = h.trans_lists
tail_fits a h array.FromLists = h.from_lists
tail_fits a h array.ToLists = h.to_lists
tail_fits a h array.EofLists = h.eof_lists
tail_fits a h array.ErrorLists = h.error_lists
tail_fits a h array.AcceptLists = h.accept_lists
tail_fits a h array.StateKinds = h.state_kinds
tail_fits a h array.Homes = h.homes
tail_fits a h array.ActionNames = h.action_names
tail_fits a h array.StmtFirsts = h.stmt_firsts
tail_fits a h array.StmtCounts = h.stmt_counts
tail_fits a h array.StmtKinds = h.stmt_kinds
tail_fits a h array.StmtOuter = h.stmt_outer
tail_fits a h array.StmtArgs = h.stmt_args
tail_fits a h array.StmtBases = h.stmt_bases
tail_fits a h array.CondNames = h.cond_names
tail_fits a h array.EntryNames = h.entry_names
tail_fits a h array.EntryStates = h.entry_states

record TailSaid (shared : Bool) (ss : List Said) : Type 0 where
  lists : Arrays
  fits : (x : ArrayName) → Fits (content lists x)
  unused : shared ≡ false → lists.cell_uses ≡ []
  is : ss ≡ tail_of shared lists

-- what the line of uses says, where there is one
abbrev with_uses : Bool → List ℤ → List Said → List Said
with_uses true ns rest = the.Numbers array.CellUses ns ∷ rest
with_uses false ns rest = rest

record UsesFirst (shared : Bool) (fs : List Form) (ss : List Said) : Type 0 where
  ns : List ℤ
  fits : AllByRecursion IsPrintedNumber ns
  unused : shared ≡ false → ns ≡ []
  rest : List Said
  is : ss ≡ with_uses shared ns rest
  more : Fit fs rest

uses_first : (shared : Bool) {fs : List Form} {ss : List Said} → Fit (uses shared ++ fs) ss → UsesFirst shared fs ss
uses_first true h = let u = numbers_first h in record { ns = u.ns; fits = u.fits; unused = λ e. absurd cc; rest = u.rest; is = u.is; more = u.more }
uses_first false {fs} {ss} h = record { ns = []; fits = tt; unused = λ e. refl; rest = ss; is = refl; more = h }

-- one more said in front
link : {s : Said} {ss rest whole : List Said} → ss ≡ s ∷ rest → rest ≡ whole → ss ≡ s ∷ whole
link {s} e f = e ∙ ap (λ t. s ∷ t) f

record TheFirst (fs : List Form) (ss : List Said) : Type 0 where
  actions : List ℤ
  actions_fit : AllByRecursion IsPrintedNumber actions
  key_offsets : List ℤ
  key_offsets_fit : AllByRecursion IsPrintedNumber key_offsets
  trans_keys : List ℤ
  trans_keys_fit : AllByRecursion IsPrintedNumber trans_keys
  single_lengths : List ℤ
  single_lengths_fit : AllByRecursion IsPrintedNumber single_lengths
  range_lengths : List ℤ
  range_lengths_fit : AllByRecursion IsPrintedNumber range_lengths
  cell_offsets : List ℤ
  cell_offsets_fit : AllByRecursion IsPrintedNumber cell_offsets
  rest : List Said
  is : ss ≡ the.Numbers array.Actions actions ∷ the.Numbers array.KeyOffsets key_offsets ∷ the.Numbers array.TransKeys trans_keys ∷ the.Numbers array.SingleLengths single_lengths ∷ the.Numbers array.RangeLengths range_lengths ∷ the.Numbers array.CellOffsets cell_offsets ∷ rest
  more : Fit fs rest

first : {fs : List Form} {ss : List Said}
    → Fit (form.Numbers array.Actions ∷ form.Numbers array.KeyOffsets ∷ form.Numbers array.TransKeys ∷ form.Numbers array.SingleLengths ∷ form.Numbers array.RangeLengths ∷ form.Numbers array.CellOffsets ∷ fs) ss → TheFirst fs ss
first h =
    let u0 = numbers_first h in
    let u1 = numbers_first u0.more in
    let u2 = numbers_first u1.more in
    let u3 = numbers_first u2.more in
    let u4 = numbers_first u3.more in
    let u5 = numbers_first u4.more in
    record {
      actions = u0.ns;
      actions_fit = u0.fits;
      key_offsets = u1.ns;
      key_offsets_fit = u1.fits;
      trans_keys = u2.ns;
      trans_keys_fit = u2.fits;
      single_lengths = u3.ns;
      single_lengths_fit = u3.fits;
      range_lengths = u4.ns;
      range_lengths_fit = u4.fits;
      cell_offsets = u5.ns;
      cell_offsets_fit = u5.fits;
      rest = u5.rest;
      is = link u0.is (link u1.is (link u2.is (link u3.is (link u4.is (u5.is)))));
      more = u5.more;
    }

record TheSecond (fs : List Form) (ss : List Said) : Type 0 where
  cell_asks : List ℤ
  cell_asks_fit : AllByRecursion IsPrintedNumber cell_asks
  cell_entries : List ℤ
  cell_entries_fit : AllByRecursion IsPrintedNumber cell_entries
  trans_targs : List ℤ
  trans_targs_fit : AllByRecursion IsPrintedNumber trans_targs
  trans_lists : List ℤ
  trans_lists_fit : AllByRecursion IsPrintedNumber trans_lists
  from_lists : List ℤ
  from_lists_fit : AllByRecursion IsPrintedNumber from_lists
  to_lists : List ℤ
  to_lists_fit : AllByRecursion IsPrintedNumber to_lists
  eof_lists : List ℤ
  eof_lists_fit : AllByRecursion IsPrintedNumber eof_lists
  error_lists : List ℤ
  error_lists_fit : AllByRecursion IsPrintedNumber error_lists
  rest : List Said
  is : ss ≡ the.Numbers array.CellAsks cell_asks ∷ the.Numbers array.CellEntries cell_entries ∷ the.Numbers array.TransTargs trans_targs ∷ the.Numbers array.TransLists trans_lists ∷ the.Numbers array.FromLists from_lists ∷ the.Numbers array.ToLists to_lists ∷ the.Numbers array.EofLists eof_lists ∷ the.Numbers array.ErrorLists error_lists ∷ rest
  more : Fit fs rest

second : {fs : List Form} {ss : List Said}
    → Fit (form.Numbers array.CellAsks ∷ form.Numbers array.CellEntries ∷ form.Numbers array.TransTargs ∷ form.Numbers array.TransLists ∷ form.Numbers array.FromLists ∷ form.Numbers array.ToLists ∷ form.Numbers array.EofLists ∷ form.Numbers array.ErrorLists ∷ fs) ss → TheSecond fs ss
second h =
    let u0 = numbers_first h in
    let u1 = numbers_first u0.more in
    let u2 = numbers_first u1.more in
    let u3 = numbers_first u2.more in
    let u4 = numbers_first u3.more in
    let u5 = numbers_first u4.more in
    let u6 = numbers_first u5.more in
    let u7 = numbers_first u6.more in
    record {
      cell_asks = u0.ns;
      cell_asks_fit = u0.fits;
      cell_entries = u1.ns;
      cell_entries_fit = u1.fits;
      trans_targs = u2.ns;
      trans_targs_fit = u2.fits;
      trans_lists = u3.ns;
      trans_lists_fit = u3.fits;
      from_lists = u4.ns;
      from_lists_fit = u4.fits;
      to_lists = u5.ns;
      to_lists_fit = u5.fits;
      eof_lists = u6.ns;
      eof_lists_fit = u6.fits;
      error_lists = u7.ns;
      error_lists_fit = u7.fits;
      rest = u7.rest;
      is = link u0.is (link u1.is (link u2.is (link u3.is (link u4.is (link u5.is (link u6.is (u7.is)))))));
      more = u7.more;
    }

record TheThird (fs : List Form) (ss : List Said) : Type 0 where
  accept_lists : List ℤ
  accept_lists_fit : AllByRecursion IsPrintedNumber accept_lists
  state_kinds : List ℤ
  state_kinds_fit : AllByRecursion IsPrintedNumber state_kinds
  homes : List ℤ
  homes_fit : AllByRecursion IsPrintedNumber homes
  action_names : List (List ℕ)
  action_names_fit : AllByRecursion IsPrintedName action_names
  stmt_firsts : List ℤ
  stmt_firsts_fit : AllByRecursion IsPrintedNumber stmt_firsts
  stmt_counts : List ℤ
  stmt_counts_fit : AllByRecursion IsPrintedNumber stmt_counts
  stmt_kinds : List ℤ
  stmt_kinds_fit : AllByRecursion IsPrintedNumber stmt_kinds
  rest : List Said
  is : ss ≡ the.Numbers array.AcceptLists accept_lists ∷ the.Numbers array.StateKinds state_kinds ∷ the.Numbers array.Homes homes ∷ the.Names array.ActionNames action_names ∷ the.Numbers array.StmtFirsts stmt_firsts ∷ the.Numbers array.StmtCounts stmt_counts ∷ the.Numbers array.StmtKinds stmt_kinds ∷ rest
  more : Fit fs rest

third : {fs : List Form} {ss : List Said}
    → Fit (form.Numbers array.AcceptLists ∷ form.Numbers array.StateKinds ∷ form.Numbers array.Homes ∷ form.Names array.ActionNames ∷ form.Numbers array.StmtFirsts ∷ form.Numbers array.StmtCounts ∷ form.Numbers array.StmtKinds ∷ fs) ss → TheThird fs ss
third h =
    let u0 = numbers_first h in
    let u1 = numbers_first u0.more in
    let u2 = numbers_first u1.more in
    let u3 = names_first u2.more in
    let u4 = numbers_first u3.more in
    let u5 = numbers_first u4.more in
    let u6 = numbers_first u5.more in
    record {
      accept_lists = u0.ns;
      accept_lists_fit = u0.fits;
      state_kinds = u1.ns;
      state_kinds_fit = u1.fits;
      homes = u2.ns;
      homes_fit = u2.fits;
      action_names = u3.ns;
      action_names_fit = u3.fits;
      stmt_firsts = u4.ns;
      stmt_firsts_fit = u4.fits;
      stmt_counts = u5.ns;
      stmt_counts_fit = u5.fits;
      stmt_kinds = u6.ns;
      stmt_kinds_fit = u6.fits;
      rest = u6.rest;
      is = link u0.is (link u1.is (link u2.is (link u3.is (link u4.is (link u5.is (u6.is))))));
      more = u6.more;
    }

record TheFourth (fs : List Form) (ss : List Said) : Type 0 where
  stmt_outer : List ℤ
  stmt_outer_fit : AllByRecursion IsPrintedNumber stmt_outer
  stmt_args : List ℤ
  stmt_args_fit : AllByRecursion IsPrintedNumber stmt_args
  stmt_bases : List ℤ
  stmt_bases_fit : AllByRecursion IsPrintedNumber stmt_bases
  cond_names : List (List ℕ)
  cond_names_fit : AllByRecursion IsPrintedName cond_names
  entry_names : List (List ℕ)
  entry_names_fit : AllByRecursion IsPrintedName entry_names
  entry_states : List ℤ
  entry_states_fit : AllByRecursion IsPrintedNumber entry_states
  rest : List Said
  is : ss ≡ the.Numbers array.StmtOuter stmt_outer ∷ the.Numbers array.StmtArgs stmt_args ∷ the.Numbers array.StmtBases stmt_bases ∷ the.Names array.CondNames cond_names ∷ the.Names array.EntryNames entry_names ∷ the.Numbers array.EntryStates entry_states ∷ rest
  more : Fit fs rest

fourth : {fs : List Form} {ss : List Said}
    → Fit (form.Numbers array.StmtOuter ∷ form.Numbers array.StmtArgs ∷ form.Numbers array.StmtBases ∷ form.Names array.CondNames ∷ form.Names array.EntryNames ∷ form.Numbers array.EntryStates ∷ fs) ss → TheFourth fs ss
fourth h =
    let u0 = numbers_first h in
    let u1 = numbers_first u0.more in
    let u2 = numbers_first u1.more in
    let u3 = names_first u2.more in
    let u4 = names_first u3.more in
    let u5 = numbers_first u4.more in
    record {
      stmt_outer = u0.ns;
      stmt_outer_fit = u0.fits;
      stmt_args = u1.ns;
      stmt_args_fit = u1.fits;
      stmt_bases = u2.ns;
      stmt_bases_fit = u2.fits;
      cond_names = u3.ns;
      cond_names_fit = u3.fits;
      entry_names = u4.ns;
      entry_names_fit = u4.fits;
      entry_states = u5.ns;
      entry_states_fit = u5.fits;
      rest = u5.rest;
      is = link u0.is (link u1.is (link u2.is (link u3.is (link u4.is (u5.is)))));
      more = u5.more;
    }

-- these in front
link_all : {s0 s1 s2 s3 s4 s5 s6 : Said} {ss rest whole : List Said} → ss ≡ s0 ∷ s1 ∷ s2 ∷ s3 ∷ s4 ∷ s5 ∷ s6 ∷ rest → rest ≡ whole
    → ss ≡ s0 ∷ s1 ∷ s2 ∷ s3 ∷ s4 ∷ s5 ∷ s6 ∷ whole
link_all {s0} {s1} {s2} {s3} {s4} {s5} {s6} e f = e ∙ ap (λ t. s0 ∷ s1 ∷ s2 ∷ s3 ∷ s4 ∷ s5 ∷ s6 ∷ t) f

uses_link : (shared : Bool) (ns : List ℤ) {ss rest whole : List Said} → ss ≡ with_uses shared ns rest → rest ≡ whole → ss ≡ with_uses shared ns whole
uses_link shared ns e f = e ∙ ap (with_uses shared ns) f

link_eight : {s0 s1 s2 s3 s4 s5 s6 s7 : Said} {ss rest whole : List Said} → ss ≡ s0 ∷ s1 ∷ s2 ∷ s3 ∷ s4 ∷ s5 ∷ s6 ∷ s7 ∷ rest → rest ≡ whole
    → ss ≡ s0 ∷ s1 ∷ s2 ∷ s3 ∷ s4 ∷ s5 ∷ s6 ∷ s7 ∷ whole
link_eight {s0} {s1} {s2} {s3} {s4} {s5} {s6} {s7} e f = e ∙ ap (λ t. s0 ∷ s1 ∷ s2 ∷ s3 ∷ s4 ∷ s5 ∷ s6 ∷ s7 ∷ t) f

link_six : {s0 s1 s2 s3 s4 s5 : Said} {ss rest whole : List Said} → ss ≡ s0 ∷ s1 ∷ s2 ∷ s3 ∷ s4 ∷ s5 ∷ rest → rest ≡ whole
    → ss ≡ s0 ∷ s1 ∷ s2 ∷ s3 ∷ s4 ∷ s5 ∷ whole
link_six {s0} {s1} {s2} {s3} {s4} {s5} e f = e ∙ ap (λ t. s0 ∷ s1 ∷ s2 ∷ s3 ∷ s4 ∷ s5 ∷ t) f

-- a tail, with the line of uses told apart
abbrev tail_front : Arrays → List Said → List Said
tail_front a rest = the.Numbers array.Actions a.actions ∷ the.Numbers array.KeyOffsets a.key_offsets ∷ the.Numbers array.TransKeys a.trans_keys ∷ the.Numbers array.SingleLengths a.single_lengths ∷ the.Numbers array.RangeLengths a.range_lengths ∷ the.Numbers array.CellOffsets a.cell_offsets ∷ rest

abbrev tail_back : Arrays → List Said
tail_back a =
    the.Numbers array.CellAsks a.cell_asks ∷ the.Numbers array.CellEntries a.cell_entries ∷ the.Numbers array.TransTargs a.trans_targs ∷ the.Numbers array.TransLists a.trans_lists
    ∷ the.Numbers array.FromLists a.from_lists ∷ the.Numbers array.ToLists a.to_lists ∷ the.Numbers array.EofLists a.eof_lists ∷ the.Numbers array.ErrorLists a.error_lists
    ∷ the.Numbers array.AcceptLists a.accept_lists ∷ the.Numbers array.StateKinds a.state_kinds ∷ the.Numbers array.Homes a.homes ∷ the.Names array.ActionNames a.action_names
    ∷ the.Numbers array.StmtFirsts a.stmt_firsts ∷ the.Numbers array.StmtCounts a.stmt_counts ∷ the.Numbers array.StmtKinds a.stmt_kinds ∷ the.Numbers array.StmtOuter a.stmt_outer
    ∷ the.Numbers array.StmtArgs a.stmt_args ∷ the.Numbers array.StmtBases a.stmt_bases ∷ the.Names array.CondNames a.cond_names ∷ the.Names array.EntryNames a.entry_names
    ∷ the.Numbers array.EntryStates a.entry_states ∷ the.Last ∷ []

tail_is : (shared : Bool) (a : Arrays) → tail_of shared a ≡ tail_front a (with_uses shared a.cell_uses (tail_back a))
tail_is true a = refl
tail_is false a = refl

tail_said : (shared : Bool) (ss : List Said) → AllFit (tail shared) ss → TailSaid shared ss
tail_said shared ss h =
    let start : Fit (tail shared) ss = record { all = h } in
    let a = first start in
    let u = uses_first shared a.more in
    let b = second u.more in
    let c = third b.more in
    let d = fourth c.more in
    let e = last_first d.more in
    let lists : Arrays = record {
      version = version_of shared;
      name = [];
      start = pos 0;
      first_final = pos 0;
      alphabet = pos 0;
      actions = a.actions;
      key_offsets = a.key_offsets;
      trans_keys = a.trans_keys;
      single_lengths = a.single_lengths;
      range_lengths = a.range_lengths;
      cell_offsets = a.cell_offsets;
      cell_uses = u.ns;
      cell_asks = b.cell_asks;
      cell_entries = b.cell_entries;
      trans_targs = b.trans_targs;
      trans_lists = b.trans_lists;
      from_lists = b.from_lists;
      to_lists = b.to_lists;
      eof_lists = b.eof_lists;
      error_lists = b.error_lists;
      accept_lists = c.accept_lists;
      state_kinds = c.state_kinds;
      homes = c.homes;
      action_names = c.action_names;
      stmt_firsts = c.stmt_firsts;
      stmt_counts = c.stmt_counts;
      stmt_kinds = c.stmt_kinds;
      stmt_outer = d.stmt_outer;
      stmt_args = d.stmt_args;
      stmt_bases = d.stmt_bases;
      cond_names = d.cond_names;
      entry_names = d.entry_names;
      entry_states = d.entry_states;
    } in
    record {
      lists = lists;
      fits = tail_fits lists (record {
        actions = a.actions_fit;
        key_offsets = a.key_offsets_fit;
        trans_keys = a.trans_keys_fit;
        single_lengths = a.single_lengths_fit;
        range_lengths = a.range_lengths_fit;
        cell_offsets = a.cell_offsets_fit;
        cell_uses = u.fits;
        cell_asks = b.cell_asks_fit;
        cell_entries = b.cell_entries_fit;
        trans_targs = b.trans_targs_fit;
        trans_lists = b.trans_lists_fit;
        from_lists = b.from_lists_fit;
        to_lists = b.to_lists_fit;
        eof_lists = b.eof_lists_fit;
        error_lists = b.error_lists_fit;
        accept_lists = c.accept_lists_fit;
        state_kinds = c.state_kinds_fit;
        homes = c.homes_fit;
        action_names = c.action_names_fit;
        stmt_firsts = c.stmt_firsts_fit;
        stmt_counts = c.stmt_counts_fit;
        stmt_kinds = c.stmt_kinds_fit;
        stmt_outer = d.stmt_outer_fit;
        stmt_args = d.stmt_args_fit;
        stmt_bases = d.stmt_bases_fit;
        cond_names = d.cond_names_fit;
        entry_names = d.entry_names_fit;
        entry_states = d.entry_states_fit;
      });
      unused = u.unused;
      is = link_six a.is (uses_link shared u.ns u.is (link_eight b.is (link_all c.is (link_six d.is (link e.is (nothing_more e.rest e.more.all))))))
          ∙ sym (tail_is shared lists);
    }

-- an array says the same whatever stands before the arrays
same_fits : (a : Arrays) (version : ℤ) (name : List ℕ) (start first_final alphabet : ℤ) (x : ArrayName) → Fits (content a x)
    → Fits (content (record a { version = version; name = name; start = start; first_final = first_final; alphabet = alphabet }) x)
same_fits a v name s f l array.Actions h = h
same_fits a v name s f l array.KeyOffsets h = h
same_fits a v name s f l array.TransKeys h = h
same_fits a v name s f l array.SingleLengths h = h
same_fits a v name s f l array.RangeLengths h = h
same_fits a v name s f l array.CellOffsets h = h
same_fits a v name s f l array.CellUses h = h
same_fits a v name s f l array.CellAsks h = h
same_fits a v name s f l array.CellEntries h = h
same_fits a v name s f l array.TransTargs h = h
same_fits a v name s f l array.TransLists h = h
same_fits a v name s f l array.FromLists h = h
same_fits a v name s f l array.ToLists h = h
same_fits a v name s f l array.EofLists h = h
same_fits a v name s f l array.ErrorLists h = h
same_fits a v name s f l array.AcceptLists h = h
same_fits a v name s f l array.StateKinds h = h
same_fits a v name s f l array.Homes h = h
same_fits a v name s f l array.ActionNames h = h
same_fits a v name s f l array.StmtFirsts h = h
same_fits a v name s f l array.StmtCounts h = h
same_fits a v name s f l array.StmtKinds h = h
same_fits a v name s f l array.StmtOuter h = h
same_fits a v name s f l array.StmtArgs h = h
same_fits a v name s f l array.StmtBases h = h
same_fits a v name s f l array.CondNames h = h
same_fits a v name s f l array.EntryNames h = h
same_fits a v name s f l array.EntryStates h = h

same_tail : (shared : Bool) (a : Arrays) (name : List ℕ) (start first_final alphabet : ℤ)
    → tail_of shared a ≡ tail_of (int_eq (version_of shared) (pos 2)) (record a { version = version_of shared; name = name; start = start; first_final = first_final; alphabet = alphabet })
same_tail true a name s f l = refl
same_tail false a name s f l = refl

-- what the entry lines say, and what stands behind them
record EntriesSaid (m : ℕ) (fs : List Form) (ss : List Said) : Type 0 where
  entries : List (List ℕ × ℤ)
  fits : AllByRecursion IsPrintedEntry entries
  len : length entries ≡ m
  rest : List Said
  is : ss ≡ map said_entry entries ++ rest
  more : AllFit fs rest

entries_said : (m : ℕ) (fs : List Form) (ss : List Said) → AllFit (replicate m form.Entry ++ fs) ss → EntriesSaid m fs ss
entries_said zero fs ss h = record { entries = []; fits = tt; len = refl; rest = ss; is = refl; more = h }
entries_said (suc m) fs ss h =
    let u = entry_of (replicate m form.Entry ++ fs) ss h in
    let r = entries_said m fs u.rest u.more.all in
    record { entries = u.entry ∷ r.entries; fits = (u.fits, r.fits); len = (let l = r.len in omega (arith, l)); rest = r.rest; is = u.is ∙ ap (λ t. said_entry u.entry ∷ t) r.is; more = r.more }

-- lines change no version
kept_numbers : (x : ArrayName) (ns : List ℤ) (a : Arrays) → (with_numbers x ns a).version ≡ a.version
kept_numbers array.Actions ns a = refl
kept_numbers array.KeyOffsets ns a = refl
kept_numbers array.TransKeys ns a = refl
kept_numbers array.SingleLengths ns a = refl
kept_numbers array.RangeLengths ns a = refl
kept_numbers array.CellOffsets ns a = refl
kept_numbers array.CellUses ns a = refl
kept_numbers array.CellAsks ns a = refl
kept_numbers array.CellEntries ns a = refl
kept_numbers array.TransTargs ns a = refl
kept_numbers array.TransLists ns a = refl
kept_numbers array.FromLists ns a = refl
kept_numbers array.ToLists ns a = refl
kept_numbers array.EofLists ns a = refl
kept_numbers array.ErrorLists ns a = refl
kept_numbers array.AcceptLists ns a = refl
kept_numbers array.StateKinds ns a = refl
kept_numbers array.Homes ns a = refl
kept_numbers array.ActionNames ns a = refl
kept_numbers array.StmtFirsts ns a = refl
kept_numbers array.StmtCounts ns a = refl
kept_numbers array.StmtKinds ns a = refl
kept_numbers array.StmtOuter ns a = refl
kept_numbers array.StmtArgs ns a = refl
kept_numbers array.StmtBases ns a = refl
kept_numbers array.CondNames ns a = refl
kept_numbers array.EntryNames ns a = refl
kept_numbers array.EntryStates ns a = refl

kept_names : (x : ArrayName) (names : List (List ℕ)) (a : Arrays) → (with_names x names a).version ≡ a.version
kept_names array.ActionNames names a = refl
kept_names array.CondNames names a = refl
kept_names array.EntryNames names a = refl
kept_names x names a = refl

kept_put : (s : Said) (raw : Raw) → (put s raw).arrays.version ≡ raw.arrays.version
kept_put (the.Number label.Start n) raw = refl
kept_put (the.Number label.FirstFinal n) raw = refl
kept_put (the.Number label.Alphabet n) raw = refl
kept_put the.Error raw = refl
kept_put (the.Entry entry n) raw = refl
kept_put (the.Numbers x ns) raw = kept_numbers x ns raw.arrays
kept_put (the.Names x names) raw = kept_names x names raw.arrays
kept_put the.Last raw = refl

kept : (ss : List Said) (raw : Raw) → (filled ss raw).arrays.version ≡ raw.arrays.version
kept [] raw = refl
kept (s ∷ ss) raw = kept ss (put s raw) ∙ kept_put s raw

-- a version is told by whether it shares cells
shares_is : (shared : Bool) → int_eq (version_of shared) (pos 2) ≡ shared
shares_is true = refl
shares_is false = refl

versioned : (shared : Bool) → IsBetween 1 2 (version_of shared)
versioned true = (omega (arith, ints), omega (arith, ints))
versioned false = (omega (arith, ints), omega (arith, ints))

pub reads_versioned : {shared : Bool} {name : List ℕ} {lines : List (List ℕ)} {raw : Raw} → ReadsAs shared name lines raw → IsVersioned raw.arrays
reads_versioned {shared} {name} r =
    subst (IsBetween 1 2) (sym (ap (λ w. w.arrays.version) r.is ∙ kept r.said (record { arrays = empty shared name; entries = [] }))) (versioned shared)

version_is : (v : ℤ) → IsBetween 1 2 v → v ≡ version_of (int_eq v (pos 2))
version_is (pos zero) h = absurd (omega (arith, ints, h.0))
version_is (pos (suc zero)) h = refl
version_is (pos (suc (suc zero))) h = refl
version_is (pos (suc (suc (suc n)))) h = absurd (omega (arith, ints, h.1))
version_is (negsuc n) h = absurd (omega (arith, ints, h.0))

-- what a section's lines say
pub record SectionSaid (shared : Bool) (name : List ℕ) (m : ℕ) (ss : List Said) : Type 0 where
  pub arrays : Arrays
  pub entries : List (List ℕ × ℤ)
  pub shares : shares arrays ≡ shared
  pub named : arrays.name ≡ name
  pub len : length entries ≡ m
  pub fits : IsPrintable arrays entries
  pub is : ss ≡ said_of arrays entries

pub section_said : (shared : Bool) (name : List ℕ) (m : ℕ) (ss : List Said) → IsTrue (is_name name) → AllFit (shape shared m) ss → SectionSaid shared name m ss
section_said shared name m ss formed h =
    let whole : Fit (shape shared m) ss = record { all = h } in
    let a = number_first whole in
    let b = number_first a.more in
    let c = error_first b.more in
    let d = number_first c.more in
    let e = entries_said m (tail shared) d.rest d.more.all in
    let t = tail_said shared e.rest e.more in
    let all : Arrays = record (t.lists) { version = version_of shared; name = name; start = a.n; first_final = b.n; alphabet = d.n } in
    record {
      arrays = all;
      entries = e.entries;
      shares = shares_is shared;
      named = refl;
      len = e.len;
      fits = record {
        version = versioned shared;
        uses = λ u. t.unused (sym (shares_is shared) ∙ u);
        name = formed;
        start = a.fits;
        first_final = b.fits;
        alphabet = d.fits;
        entries = e.fits;
        arrays = λ x. same_fits t.lists (version_of shared) name a.n b.n d.n x (t.fits x);
      };
      is = a.is ∙ ap (λ r. the.Number label.Start a.n ∷ r) (b.is ∙ ap (λ r. the.Number label.FirstFinal b.n ∷ r) (c.is ∙ ap (λ r. the.Error ∷ r) (
          d.is ∙ ap (λ r. the.Number label.Alphabet d.n ∷ r) (e.is ∙ ap (λ r. map said_entry e.entries ++ r) (t.is ∙ same_tail shared t.lists name a.n b.n d.n)))));
    }

-- so does a section put together of it say it
append_nil : {A : Type 0} (xs : List A) → xs ++ [] ≡ xs
append_nil [] = refl
append_nil (x ∷ xs) = ap (λ t. x ∷ t) (append_nil xs)

filled_entries : (es : List (List ℕ × ℤ)) (rest : List Said) (raw : Raw)
    → filled (map said_entry es ++ rest) raw ≡ filled rest (record raw { entries = raw.entries ++ es })
filled_entries [] rest raw = ap (λ t. filled rest (record raw { entries = t })) (sym (append_nil raw.entries))
filled_entries (e ∷ es) rest raw =
    filled_entries es rest (record raw { entries = raw.entries ++ (e ∷ []) }) ∙ ap (λ t. filled rest (record raw { entries = t })) (append_assoc raw.entries (e ∷ []) es)

filled_tail : (shared : Bool) (a : Arrays) (es : List (List ℕ × ℤ)) → a.version ≡ version_of shared → (shared ≡ false → a.cell_uses ≡ [])
    → filled (tail_of shared a) (record { arrays = record (empty shared a.name) { start = a.start; first_final = a.first_final; alphabet = a.alphabet }; entries = es })
    ≡ record { arrays = a; entries = es }
filled_tail true a es v u = ap (λ n. record { arrays = record a { version = n }; entries = es }) (sym v)
filled_tail false a es v u =
    ap (λ n. record { arrays = record a { version = n; cell_uses = [] }; entries = es }) (sym v) ∙ ap (λ ns. record { arrays = record a { cell_uses = ns }; entries = es }) (sym (u refl))

pub filled_said : (a : Arrays) (es : List (List ℕ × ℤ)) → IsPrintable a es
    → filled (said_of a es) (record { arrays = empty (shares a) a.name; entries = [] }) ≡ record { arrays = a; entries = es }
filled_said a es h =
    filled_entries es (tail_of (shares a) a) (record { arrays = record (empty (shares a) a.name) { start = a.start; first_final = a.first_final; alphabet = a.alphabet }; entries = [] })
    ∙ filled_tail (shares a) a es (version_is a.version h.version) h.uses

-- and its lines are those of the section
entries_lines : (name : List ℕ) (es : List (List ℕ × ℤ)) (rest : List Said)
    → map (line name) (map said_entry es ++ rest) ≡ map (entry_line name) es ++ map (line name) rest
entries_lines name [] rest = refl
entries_lines name (e ∷ es) rest = ap (λ t. entry_line name e ∷ t) (entries_lines name es rest)

tail_lines : (shared : Bool) (name : List ℕ) (a : Arrays)
    → map (line name) (tail_of shared a) ≡ map (λ x. array_line name x (elements a x)) (printed shared) ++ (last_line name ∷ [])
tail_lines true name a = refl
tail_lines false name a = refl

pub said_lines : (a : Arrays) (es : List (List ℕ × ℤ)) → first_line (version_text (shares a)) a.name ∷ map (line a.name) (said_of a es) ≡ lines_with a es
said_lines a es =
    ap (λ t. first_line (version_text (shares a)) a.name ∷ map (line a.name) (the.Number label.Start a.start ∷ the.Number label.FirstFinal a.first_final ∷ the.Error
    ∷ the.Number label.Alphabet a.alphabet ∷ []) ++ t) (entries_lines a.name es (tail_of (shares a) a) ∙ ap (λ t. map (entry_line a.name) es ++ t) (tail_lines (shares a) a.name a))

-- the first line behind the entries is that of `actions`
pub tail_rest : Bool → Arrays → List Said
tail_rest shared a = drop 1 (tail_of shared a)

pub tail_begins : (shared : Bool) (a : Arrays) → tail_of shared a ≡ the.Numbers array.Actions a.actions ∷ tail_rest shared a
unfolding tail_rest
tail_begins true a = refl
tail_begins false a = refl

-- what can be printed fits the forms
tail_all : (shared : Bool) (a : Arrays) → ((x : ArrayName) → Fits (content a x)) → AllFit (tail shared) (tail_of shared a)
tail_all true a h = ((refl, h array.Actions), ((refl, h array.KeyOffsets), ((refl, h array.TransKeys), ((refl, h array.SingleLengths), ((refl, h array.RangeLengths), ((refl, h array.CellOffsets), ((refl, h array.CellUses), ((refl, h array.CellAsks), ((refl, h array.CellEntries), ((refl, h array.TransTargs), ((refl, h array.TransLists), ((refl, h array.FromLists), ((refl, h array.ToLists), ((refl, h array.EofLists), ((refl, h array.ErrorLists), ((refl, h array.AcceptLists), ((refl, h array.StateKinds), ((refl, h array.Homes), ((refl, h array.ActionNames), ((refl, h array.StmtFirsts), ((refl, h array.StmtCounts), ((refl, h array.StmtKinds), ((refl, h array.StmtOuter), ((refl, h array.StmtArgs), ((refl, h array.StmtBases), ((refl, h array.CondNames), ((refl, h array.EntryNames), ((refl, h array.EntryStates), (tt, tt)))))))))))))))))))))))))))))
tail_all false a h = ((refl, h array.Actions), ((refl, h array.KeyOffsets), ((refl, h array.TransKeys), ((refl, h array.SingleLengths), ((refl, h array.RangeLengths), ((refl, h array.CellOffsets), ((refl, h array.CellAsks), ((refl, h array.CellEntries), ((refl, h array.TransTargs), ((refl, h array.TransLists), ((refl, h array.FromLists), ((refl, h array.ToLists), ((refl, h array.EofLists), ((refl, h array.ErrorLists), ((refl, h array.AcceptLists), ((refl, h array.StateKinds), ((refl, h array.Homes), ((refl, h array.ActionNames), ((refl, h array.StmtFirsts), ((refl, h array.StmtCounts), ((refl, h array.StmtKinds), ((refl, h array.StmtOuter), ((refl, h array.StmtArgs), ((refl, h array.StmtBases), ((refl, h array.CondNames), ((refl, h array.EntryNames), ((refl, h array.EntryStates), (tt, tt))))))))))))))))))))))))))))

entries_all : (es : List (List ℕ × ℤ)) (fs : List Form) (ss : List Said) → AllByRecursion IsPrintedEntry es → AllFit fs ss
    → AllFit (replicate (length es) form.Entry ++ fs) (map said_entry es ++ ss)
entries_all [] fs ss h k = k
entries_all (e ∷ es) fs ss h k = (h.0, entries_all es fs ss h.1 k)

pub said_fits : (a : Arrays) (es : List (List ℕ × ℤ)) → IsPrintable a es → AllFit (shape (shares a) (length es)) (said_of a es)
said_fits a es h =
    ((refl, h.start), ((refl, h.first_final), (tt, ((refl, h.alphabet), entries_all es (tail (shares a)) (tail_of (shares a) a) h.entries (tail_all (shares a) a h.arrays)))))
