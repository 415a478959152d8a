-- The steps of a compilation put together say how it ends.
use Rattle.std.proofs.Common.{◌≡◌, ◌∙◌, ◌≤◌, inl, inr, ℕ, Bool, false, List, Option, Some, None, Result, Ok, Err, refl, sym, ap, subst}
use Rattle.std.specs.Prelude.{length, codes, ◌==◌, ◌++◌}
use Rattle.std.specs.List.{ends_with}
use Rattle.std.proofs.lemmas.Str.Pattern.{ends_text}
use Rattle.rl_types.specs.Limits.{most_source_bytes}
use Rattle.rl_io.specs.Outside.{Held, Rose, Writes, KeepsOthers}
use Rattle.rl_io.specs.declared.outside.SinkFault.{SinkFault}
use Rattle.rl_io.specs.declared.outside.SinkFault.TheVariants as sink
use Rattle.rl_ends.specs.Told.{Tells, TellsAs}
use Rattle.rl_ends.specs.declared.refusal.Refusal.TheVariants as refusals
use Rattle.rl_model.specs.declared.spec.Spec.{Spec}
use Rattle.rl_resolve.specs.declared.answer.Runs.{Runs}
use Rattle.rl_resolve.specs.declared.answer.Runs.TheVariants.{Nobody}
use Rattle.rl_words.specs.Compiles.{Compile}
use Rattle.rl_compile.specs.declared.fault.CompileFault.{CompileFault}
use Rattle.rl_compile.specs.declared.fault.CompileFault.TheVariants as faults
use Rattle.rl_compile.specs.Sources.{Says}
use Rattle.rl_compile.specs.Sections.{Because, RefusesSpecs}
use Rattle.rl_compile.specs.Printing.{FirstUnbuilt, IsPrinted, IsPrintedOf, RefusesSource}
use Rattle.rl_compile.specs.Compiles.{Outside, IsUntouched, IsWritten, Ends, asked, out_name, stem}
use Rattle.rl_words.specs.declared.fault.WordsFault.{WordsFault}
use Rattle.rl_words.specs.declared.fault.WordsFault.TheVariants as words_fault
use Rattle.rl_compile.specs.Reads.{Asks, EndsCompiling, WritesOut, refusal_by}
use Rattle.rl_compile.proofs.ReadLaws.{because}

-- what the error output gains, whatever it answers
pub tells : {T : Type 0} (old new : Option (List ℕ)) (before now : ℕ) (line : List ℕ) (r : Result T SinkFault) → TellsAs old new before now line r →
    Tells old new before now line
tells old new before now line (Ok done) p = inl p
tells old new before now line (Err sink.Failed) p = inr (inl p)
tells old new before now line (Err sink.Memory) p = inr (inr p)

-- a source that is read passes no limit of bytes
pub short : (held : Held) (name text seen : List ℕ) (which : Runs) (specs : List Spec) → seen ≡ text → Says held name which text specs →
    length seen ≤ most_source_bytes
short held name text seen which specs same says = subst (λ t. length t ≤ most_source_bytes) (sym same) says.has.means.within

-- a name that has no such end
pub stem_kept : (name : List ℕ) → ((front : List ℕ) → name ≡ front ++ codes ".rl" → ⊥) → name ≡ stem name
stem_kept name h = let e : ends_with (λ (a b : ℕ). a == b) name (codes ".rl") ≡ false = sym (ends_text false (codes ".rl") name h) in rw e refl

-- ---- a source, and then what is printed for it

-- a source that has no Specs is not compiled
pub unread : (held : Held) (name : List ℕ) (before now : ℕ) (e : CompileFault) → Because (RefusesSpecs held name Nobody before now) e →
    Because (RefusesSource held name before now) e
unread held name before now e p = because (RefusesSpecs held name Nobody before now) (RefusesSource held name before now) (λ s h. inl h) e p

-- nor is one with a node that is refused
pub unbuilt : (held : Held) (name text : List ℕ) (specs : List Spec) (before now : ℕ) (e : CompileFault) → Says held name Nobody text specs →
    now ≡ before → Because (FirstUnbuilt specs) e →
    Because (RefusesSource held name before now) e
unbuilt held name text specs before now e says quiet p =
    because (FirstUnbuilt specs) (RefusesSource held name before now) (λ s h. inr ((text, specs, says, h), quiet)) e p

pub printed_in : (held : Held) (name text seen : List ℕ) (specs : List Spec) (marked : Bool) (bytes : List ℕ) → seen ≡ text →
    Says held name Nobody text specs → IsPrintedOf marked seen specs bytes →
    IsPrinted held name marked bytes
printed_in held name text seen specs marked bytes same says p =
    record { text = text; specs = specs; says = says; prints = subst (λ t. IsPrintedOf marked t specs bytes) same p }

-- ---- how a compilation ends that is asked for

-- a source that is refused ends it
pub ends_refused : (o : Outside) (c : Compile) (e : CompileFault) → Because (RefusesSource o.held c.spec o.before o.now) e → IsUntouched o →
    EndsCompiling o c (Err e)
ends_refused o c (faults.Fault f file) p same = (p, same)
ends_refused o c (faults.Limit l file) p same = (p, same)
ends_refused o c (faults.Missing file) p same = (p, same)
ends_refused o c (faults.StoreFailed file) p same = inl (p, same)
ends_refused o c faults.Memory p same = same

-- what is written ends it
pub ends_written : (o : Outside) (c : Compile) (bytes : List ℕ) (mid_held : Held) (mid : ℕ) (name : List ℕ) (r : Result (Unit {0}) CompileFault) →
    mid_held ≡ o.held → mid ≡ o.before →
    IsPrinted o.held c.spec c.marked bytes → name ≡ out_name c → WritesOut mid_held o.left name bytes mid o.now r → EndsCompiling o c r
ends_written o c bytes mid_held mid name (Ok done) same quiet printed is w = record {
  bytes = bytes;
  printed = printed;
  writes = subst (λ n. Writes o.held o.left n bytes) is (subst (λ h. Writes h o.left name bytes) same w.0);
  others = subst (λ n. KeepsOthers o.held o.left n) is (subst (λ h. KeepsOthers h o.left name) same w.1);
  quiet = w.2 ∙ quiet;
}
ends_written o c bytes mid_held mid name (Err (faults.StoreFailed file)) same quiet printed is w =
    inr (record {
      bytes = bytes;
      printed = printed;
      is = w.0 ∙ is;
      others = subst (λ n. KeepsOthers o.held o.left n) is (subst (λ h. KeepsOthers h o.left name) same w.1);
      rose = subst (λ n. Rose n o.now) quiet w.2;
    })
ends_written o c bytes mid_held mid name (Err faults.Memory) same quiet printed is w = w ∙ same
ends_written o c bytes mid_held mid name (Err (faults.Fault f file)) same quiet printed is w = absurd w
ends_written o c bytes mid_held mid name (Err (faults.Limit l file)) same quiet printed is w = absurd w
ends_written o c bytes mid_held mid name (Err (faults.Missing file)) same quiet printed is w = absurd w

-- ---- by its words

pub ends_done : (o : Outside) (words seen : List (List ℕ)) (c : Compile) → seen ≡ words → asked seen ≡ Some c → IsWritten o c →
    Ends {T = Unit {0}} o words (Ok tt)
ends_done o words seen c same a w = (c, sym (ap asked same) ∙ a, w)

pub ends_by : (o : Outside) (words seen : List (List ℕ)) (c : Compile) (e : CompileFault) → seen ≡ words → asked seen ≡ Some c →
    EndsCompiling o c (Err e) → Ends {T = Unit {0}} o words (Err (refusal_by e))
ends_by o words seen c (faults.Fault f file) same a p = (c, sym (ap asked same) ∙ a, p)
ends_by o words seen c (faults.Limit l file) same a p = (c, sym (ap asked same) ∙ a, p)
ends_by o words seen c (faults.Missing file) same a p = (c, sym (ap asked same) ∙ a, p)
ends_by o words seen c (faults.StoreFailed file) same a p = (c, sym (ap asked same) ∙ a, p)
ends_by o words seen c faults.Memory same a p = p

unasked : (words : List (List ℕ)) (e : WordsFault) → e ≡ words_fault.Usage → Asks words (Err e) → asked words ≡ None
unasked words e is a = subst (λ f. Asks words (Err f)) is a

pub ends_unasked : (o : Outside) (words seen : List (List ℕ)) (e : WordsFault) → seen ≡ words → e ≡ words_fault.Usage → Asks seen (Err e) →
    IsUntouched o → o.now ≡ o.before →
    Ends {T = Unit {0}} o words (Err refusals.Usage)
ends_unasked o words seen e same is a untouched quiet = (sym (ap asked same) ∙ unasked seen e is a, untouched, quiet)
