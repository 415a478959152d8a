-- What the text of a file comes to, by what it reads as.
use Rattle.std.proofs.Common.{◌≡◌, ℕ, List, Option, Some, None, Result, Ok, Err, inl, inr, refl, ap, ◌∙◌, subst}
use Rattle.std.specs.Prelude.{IfOk}
use Rattle.rl_types.specs.declared.numbers.Memory.{Memory}
use Rattle.rl_grammar.specs.declared.read_fault.ReadFault.{ReadFault}
use Rattle.rl_grammar.specs.declared.read_fault.ReadFault.TheVariants as reason
use Rattle.rl_grammar.specs.declared.syntax.Syntax.{Syntax}
use Rattle.rl_includes.specs.Answers.{stop_of, IsTold}
use Rattle.rl_files.specs.Files.{ReadsAs, Explains}
use Rattle.rl_includes.specs.Names.{file_number, with_file}
use Rattle.rl_includes.specs.Turns.{stopped}
use Rattle.rl_includes.specs.Unrolling.{with_request, RefusedAs, OpensTrees, OpensText}
use Rattle.rl_includes.specs.declared.reader.Reader.{Reader}
use Rattle.rl_includes.specs.declared.reader.Request.{Request}
use Rattle.rl_includes.specs.declared.unrolled.Stop.{Stop}
use Rattle.rl_includes.specs.declared.unrolled.Stop.TheVariants as stop
use Rattle.rl_includes.specs.declared.unrolled.Unrolled.{Unrolled}

same_stop : (a b : Stop) → Some a ≡ Some b → a ≡ b
same_stop a b h = cc

none_stop : (a : Stop) → None ≡ Some a → ⊥
none_stop a h = cc

told_as : (number : ℕ) (text name : List ℕ) (e : ReadFault) (s : Stop) → stop_of e name ≡ Some s → Explains number text e → RefusedAs number text name s
told_as number text name (reason.Fault f) s told h = subst (RefusedAs number text name) (same_stop (stop.Fault f name) s told) (h, refl)
told_as number text name (reason.Limit l) s told h = subst (RefusedAs number text name) (same_stop (stop.Limit l name) s told) (h, refl)
told_as number text name reason.Memory s told h = absurd (none_stop s told)

module _ (reader : Reader) (request : Request) (text : List ℕ) (old new : Unrolled) (files : List (List ℕ)) (number : ℕ) where
  -- the file is among those that were read
  abbrev Mid : Unrolled
  Mid = record old { files = files }

  mid_is : files ≡ with_file old.files request.file → Mid ≡ with_request request old
  mid_is h = ap (λ (z : List (List ℕ)). record old { files = z }) h

  pub text_opens : (trees : List Syntax) (r : Result (Option (List Syntax)) Memory) → number ≡ file_number old.files request.file → files ≡ with_file old.files request.file → ReadsAs number text trees
      → IfOk r (λ opened. OpensTrees reader request trees Mid new opened) → IfOk r (λ opened. OpensText reader request text old new opened)
  text_opens trees (Ok None) is h read k =
      inr (record {
        trees = trees;
        read = subst (λ (n : ℕ). ReadsAs n text trees) is read;
        opens = subst (λ (u : Unrolled). OpensTrees reader request trees u new None) (mid_is h) k;
      })
  text_opens trees (Ok (Some opened)) is h read k = record {
    trees = trees;
    read = subst (λ (n : ℕ). ReadsAs n text trees) is read;
    opens = subst (λ (u : Unrolled). OpensTrees reader request trees u new (Some opened)) (mid_is h) k;
  }
  text_opens trees (Err e) is h read k = tt

  pub text_refused : (e : ReadFault) (name : List ℕ) (r : Result (Option (List Syntax)) Memory) → name ≡ request.file → number ≡ file_number old.files request.file → files ≡ with_file old.files request.file
      → Explains number text e → IfOk r (IsTold e name Mid new) → IfOk r (λ opened. OpensText reader request text old new opened)
  text_refused e name (Ok None) same is h told k =
      inl (record {
        refusal = k.0;
        refused = subst (λ (n : ℕ). RefusedAs n text request.file k.0) is (subst (λ (x : List ℕ). RefusedAs number text x k.0) same (told_as number text name e k.0 k.1 told));
        is = k.2 ∙ ap (stopped k.0) (mid_is h);
      })
  text_refused e name (Ok (Some trees)) same is h told k = absurd k
  text_refused e name (Err m) same is h told k = tt
