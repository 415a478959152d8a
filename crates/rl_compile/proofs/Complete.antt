-- A compilation that meets no fault ends as it is to end.
use Rattle.std.proofs.Common.{◌≡◌, ◌∙◌, ◌⊎◌, inl, inr, ℕ, Bool, true, false, List, [], ◌∷◌, Option, Some, None, IsSome, Result, Ok, Err, refl, sym, ap, subst}
use Rattle.rl_types.specs.declared.status.Status.{Status}
use Rattle.rl_types.specs.declared.status.Status.TheVariants as statuses
use Rattle.rl_io.specs.Outside.{Held, Rose}
use Rattle.rl_arrays.specs.declared.arrays.Arrays.{Arrays}
use Rattle.rl_includes.specs.declared.unrolled.Stop.{Stop}
use Rattle.rl_includes.specs.declared.unrolled.Stop.TheVariants as stop
use Rattle.rl_model.specs.declared.spec.Spec.{Spec}
use Rattle.rl_resolve.specs.declared.answer.Runs.TheVariants.{Nobody}
use Rattle.rl_words.specs.Compiles.{Compile}
use Rattle.rl_ends.specs.declared.refusal.Refusal.{Refusal}
use Rattle.rl_ends.specs.declared.refusal.Refusal.TheVariants as refusals
use Rattle.rl_ends.specs.Statuses.{status_of}
use Rattle.rl_ends.specs.Told.{Tells, line_of}
use Rattle.rl_compile.specs.Sources.{StopsAtText, IsUnresolved, IsToldAs}
use Rattle.rl_compile.specs.Printing.{AreTables, FirstUnbuilt, AreBuilt, IsPrinted, HasAllBuilt, HasNodeRefused, RefusesSource, StopsSource, is_built}
use Rattle.rl_compile.specs.Compiles.{Outside, EndsAsked, Ends, DueBySource, Due, HasNoFault, IsComplete, asked, stopped_as}
use Rattle.rl_automata.specs.Refused as cause
use Rattle.rl_automata.specs.Refused.{Cause}
use Rattle.rl_types.specs.declared.numbers.Place.{Place}
use Rattle.rl_compile.proofs.SourceLaws.{stops_once, stops_no_built, unfailed}

abbrev End : Type 0
End = Result (Unit {0}) Refusal

-- ---- one end is due

some_same : (c d : Compile) → Some c ≡ Some d → c ≡ d
some_same c d e = cc

none_some : (c : Compile) → None ≡ Some c → ⊥
none_some c e = cc

module _ (held : Held) (told : IsSome held) where
  source_once : (name : List ℕ) (e f : End) → DueBySource held name e → DueBySource held name f → e ≡ f
  source_once name e f (inl a) (inl b) = a.2 ∙ (ap (λ s. Err (stopped_as s)) (stops_once held told name a.0 b.0 a.1 b.1) ∙ sym b.2)
  source_once name e f (inl a) (inr b) = absurd (stops_no_built held told name a.0 a.1 b.0)
  source_once name e f (inr a) (inl b) = absurd (stops_no_built held told name b.0 b.1 a.0)
  source_once name e f (inr a) (inr b) = a.1 ∙ sym b.1

  due_once : (words : List (List ℕ)) (e f : End) → Due held words e → Due held words f → e ≡ f
  due_once words e f (inl a) (inl b) = a.1 ∙ sym b.1
  due_once words e f (inl a) (inr b) = absurd (none_some b.0 (sym a.0 ∙ b.1))
  due_once words e f (inr a) (inl b) = absurd (none_some a.0 (sym b.0 ∙ a.1))
  due_once words e f (inr a) (inr b) =
      source_once a.0.spec e f a.2 (subst (λ (c : Compile). DueBySource held c.spec f) (some_same b.0 a.0 (sym b.1 ∙ a.1)) b.2)

-- ---- how it ended is due

-- no failure of the store is told of a node
no_failure : (c : Cause) (p : Place) (name file : List ℕ) → IsToldAs c p name (stop.StoreFailed file) → ⊥
no_failure cause.L6 p name file e = cc
no_failure cause.L8 p name file e = cc
no_failure cause.F15 p name file e = cc
no_failure (cause.F12 i) p name file e = cc

no_node_failure : (specs : List Spec) (file : List ℕ) → FirstUnbuilt specs (stop.StoreFailed file) → ⊥
no_node_failure [] file h = h
no_node_failure (spec ∷ specs) file (inl h) = no_failure h.1.cause h.1.place _ file h.1.told
no_node_failure (spec ∷ specs) file (inr h) = no_node_failure specs file h.1

-- machines with tables are built
tables_built : (specs : List Spec) (tables : List (Option Arrays)) → AreTables specs tables → AreBuilt specs
tables_built [] [] h = tt
tables_built [] (t ∷ tables) h = absurd h
tables_built (spec ∷ specs) [] h = absurd h
tables_built (spec ∷ specs) (Some a ∷ tables) h = ((λ yes_built. h.1), tables_built specs tables h.3)
tables_built (spec ∷ specs) (None ∷ tables) h = ((λ yes_built. absurd (not_both (is_built spec) yes_built h.0)), tables_built specs tables h.1)
  where
    not_both : (b : Bool) → b ≡ true → b ≡ false → ⊥
    not_both b e f = cc

printed_built : (held : Held) (name : List ℕ) (marked : Bool) (bytes : List ℕ) → IsPrinted held name marked bytes → HasAllBuilt held name
printed_built held name marked bytes p = (p.text, p.specs, p.says, tables_built p.specs p.prints.tables p.prints.made)

-- why a source has no Specs, where no failure of the store is told
abbrev Parts : Held → List ℕ → ℕ → ℕ → Stop → Type 0
Parts held name before now s = (StopsAtText held name s × (now ≡ before)) ⊎ IsUnresolved (Rose before now) held name Nobody s

module _ (held : Held) (name : List ℕ) (before now : ℕ) (not : Rose before now → ⊥) where
  of_parts : (s : Stop) → Parts held name before now s ⊎ (HasNodeRefused held name s × (now ≡ before)) → StopsSource ⊥ held name s
  of_parts s (inl (inl a)) = inl (inl a.0)
  of_parts s (inl (inr a)) = inl (inr (unfailed (Rose before now) held name Nobody s not a))
  of_parts s (inr a) = inr a.0

  not_failed : (file : List ℕ) → RefusesSource held name before now (stop.StoreFailed file) → ⊥
  not_failed file (inl a) = not a.0
  not_failed file (inr a) = no_node_failure a.0.1 file a.0.3

-- it is due, or want of memory is told
abbrev OrMemory : Type 0 → End → Type 0
OrMemory Finds e = Finds ⊎ (status_of e ≡ statuses.Memory)

module _ (o : Outside) (n : HasNoFault o) (c : Compile) where
  asked_due : (e : End) → EndsAsked o c e → OrMemory (DueBySource o.held c.spec e) e
  asked_due (Ok tt) p = inl (inr (printed_built o.held c.spec c.marked p.bytes p.printed, refl))
  asked_due (Err (refusals.Fault f file)) p = inl (inl (stop.Fault f file, of_parts o.held c.spec o.before o.now n.store (stop.Fault f file) p.0, refl))
  asked_due (Err (refusals.Limit l file)) p = inl (inl (stop.Limit l file, of_parts o.held c.spec o.before o.now n.store (stop.Limit l file) p.0, refl))
  asked_due (Err (refusals.Missing file)) p = inl (inl (stop.Missing file, of_parts o.held c.spec o.before o.now n.store (stop.Missing file) p.0, refl))
  asked_due (Err (refusals.StoreFailed file)) (inl p) = absurd (not_failed o.held c.spec o.before o.now n.store file p.0)
  asked_due (Err (refusals.StoreFailed file)) (inr p) = absurd (n.store p.rose)
  asked_due (Err refusals.Memory) p = inr refl
  asked_due (Err _) p = absurd p

module _ (o : Outside) (n : HasNoFault o) (words : List (List ℕ)) where
  by_asked : (c : Compile) (e : End) → asked words ≡ Some c → EndsAsked o c e → OrMemory (Due o.held words e) e
  by_asked c e a p = elim (asked_due o n c e p) [ inl due ↦ inl (inr (c, a, due)) | inr memory ↦ inr memory ]

  is_due : (e : End) → Ends o words e → OrMemory (Due o.held words e) e
  is_due (Ok tt) p = by_asked p.0 (Ok tt) p.1 p.2
  is_due (Err refusals.Usage) p = inl (inl (p.0, refl))
  is_due (Err refusals.Memory) p = inr refl
  is_due (Err (refusals.Fault f file)) p = by_asked p.0 (Err (refusals.Fault f file)) p.1 p.2
  is_due (Err (refusals.Limit l file)) p = by_asked p.0 (Err (refusals.Limit l file)) p.1 p.2
  is_due (Err (refusals.Missing file)) p = by_asked p.0 (Err (refusals.Missing file)) p.1 p.2
  is_due (Err (refusals.StoreFailed file)) p = by_asked p.0 (Err (refusals.StoreFailed file)) p.1 p.2
  is_due (Err (refusals.Section fault file)) p = absurd p.2
  is_due (Err (refusals.Script fault file)) p = absurd p.2
  is_due (Err refusals.InputFailed) p = absurd p.2
  is_due (Err refusals.OutputFailed) p = absurd p.2

-- ---- the answer

pub is_complete : (o : Outside) (words : List (List ℕ)) (e : End) (old new : Option (List ℕ)) (before now : ℕ) (status : Status) → Ends o words e →
    status ≡ status_of e →
    Tells old new before now (line_of e) → IsComplete o words old new before now status
is_complete o words e old new before now status ends is tells n f due =
    elim (is_due o n words e ends) [
      | inl found ↦ let same = due_once o.held n.told words e f found due in inl (is ∙ ap status_of same, subst (λ x. Tells old new before now (line_of x)) same tells)
      | inr memory ↦ inr (is ∙ memory)
    ]
