-- Lines of a section, and what begins one.
use Rattle.std.proofs.Common.{◌≡◌, ℕ, zero, suc, ◌+◌, ◌<◌, List, [], ◌∷◌, ◌++◌, length, Option, Some, None, refl, sym, ap, ◌∙◌, subst, arith}
use Rattle.std.specs.Prelude.{slice_get, map, pos, codes, ℤ, IsTrue}
use Rattle.std.proofs.lemmas.Option.{slice_get_within}
use Rattle.rl_arrays.specs.Names.{is_name}
use Rattle.rl_arrays.specs.Section.{entry_line}
use Rattle.rl_cread.specs.Contents.{IsPrintedNumber}
use Rattle.rl_cread.specs.declared.said.Form.{Form}
use Rattle.rl_cread.specs.declared.said.Form.TheVariants as form
use Rattle.rl_cread.specs.declared.said.Said.{Said}
use Rattle.rl_cread.specs.declared.said.Said.TheVariants as the
use Rattle.rl_cread.specs.Lines.{line, FitsForm, ReadsLine, AllFit, Agrees, BeginsSo, IsBadAt, SoFar}

default : Form → Said
default (form.Number label) = the.Number label (pos 0)
default form.Error = the.Error
default form.Entry = the.Entry (codes "a") (pos 0)
default (form.Numbers array) = the.Numbers array []
default (form.Names array) = the.Names array []
default form.Last = the.Last

default_fits : (f : Form) → FitsForm f (default f)
unfolding default
default_fits (form.Number label) = (refl, record { sfits = omega arith })
default_fits form.Error = tt
default_fits form.Entry = (refl, record { sfits = omega arith })
default_fits (form.Numbers array) = (refl, tt)
default_fits (form.Names array) = (refl, tt)
default_fits form.Last = tt

-- what was said so far, and anything behind it
fill : List Form → List Said → List Said
fill [] cs = []
fill (f ∷ fs) [] = default f ∷ fill fs []
fill (f ∷ fs) (c ∷ cs) = c ∷ fill fs cs

rest_fits : (fs : List Form) → AllFit fs (fill fs [])
unfolding fill
rest_fits [] = tt
rest_fits (f ∷ fs) = (default_fits f, rest_fits fs)

fill_fits : (name : List ℕ) (fs : List Form) (lines : List (List ℕ)) (cs : List Said) → SoFar name fs lines cs → AllFit fs (fill fs cs)
unfolding fill
fill_fits name fs lines [] h = rest_fits fs
fill_fits name [] lines (c ∷ cs) h = absurd h
fill_fits name (f ∷ fs) [] (c ∷ cs) h = absurd h
fill_fits name (f ∷ fs) (l ∷ lines) (c ∷ cs) h = (h.0, fill_fits name fs lines cs h.2)

fill_same : (name : List ℕ) (fs : List Form) (lines : List (List ℕ)) (cs : List Said) → SoFar name fs lines cs → (j : ℕ) → j < length cs
    → slice_get lines j ≡ slice_get (map (line name) (fill fs cs)) j
unfolding fill
fill_same name fs lines [] h j lt = absurd (omega arith)
fill_same name [] lines (c ∷ cs) h j lt = absurd h
fill_same name (f ∷ fs) [] (c ∷ cs) h j lt = absurd h
fill_same name (f ∷ fs) (l ∷ lines) (c ∷ cs) h zero lt = ap Some h.1
fill_same name (f ∷ fs) (l ∷ lines) (c ∷ cs) h (suc j) lt = fill_same name fs lines cs h.2 j (omega arith)

pub begins : (name : List ℕ) (fs : List Form) (lines : List (List ℕ)) (cs : List Said) → SoFar name fs lines cs → BeginsSo name fs lines (length cs)
begins name fs lines cs h = record { said = fill fs cs; agrees = record { fits = fill_fits name fs lines cs h; same = fill_same name fs lines cs h } }

pub more : (name : List ℕ) (fs : List Form) (lines : List (List ℕ)) (cs : List Said) (f : Form) (l : List ℕ) (c : Said) → SoFar name fs lines cs
    → slice_get fs (length cs) ≡ Some f → slice_get lines (length cs) ≡ Some l → FitsForm f c × (l ≡ line name c) → SoFar name fs lines (cs ++ (c ∷ []))
more name [] lines [] f l c h ef el r = absurd cc
more name (g ∷ fs) [] [] f l c h ef el r = absurd cc
more name (g ∷ fs) (m ∷ lines) [] f l c h ef el r =
    let a : f ≡ g = cc in
    let b : l ≡ m = cc in
    (subst (λ x. FitsForm x c) a r.0, sym b ∙ r.1, tt)
more name [] lines (d ∷ cs) f l c h ef el r = absurd h
more name (g ∷ fs) [] (d ∷ cs) f l c h ef el r = absurd h
more name (g ∷ fs) (m ∷ lines) (d ∷ cs) f l c h ef el r = (h.0, h.1, more name fs lines cs f l c h.2 ef el r)

pub record Slot (name : List ℕ) (fs : List Form) (cs : List Said) (j : ℕ) (f : Form) : Type 0 where
  pub content : Said
  pub fits : FitsForm f content
  pub is : slice_get (map (line name) cs) j ≡ Some (line name content)

slot : (name : List ℕ) (fs : List Form) (cs : List Said) (j : ℕ) (f : Form) → AllFit fs cs → slice_get fs j ≡ Some f → Slot name fs cs j f
slot name [] cs j f h e = absurd cc
slot name (g ∷ fs) [] j f h e = absurd h
slot name (g ∷ fs) (c ∷ cs) zero f h e = let a : g ≡ f = cc in record { content = c; fits = subst (λ x. FitsForm x c) a h.0; is = refl }
slot name (g ∷ fs) (c ∷ cs) (suc j) f h e = let s = slot name fs cs j f h.1 e in record { content = s.content; fits = s.fits; is = s.is }

-- no section has a missing line
pub stuck_end : (name : List ℕ) (fs : List Form) (lines : List (List ℕ)) (j : ℕ) (f : Form) → slice_get fs j ≡ Some f → slice_get lines j ≡ None
    → BeginsSo name fs lines (j + 1) → ⊥
stuck_end name fs lines j f ef el b =
    let s = slot name fs b.said j f b.agrees.fits ef in
    let same : slice_get lines j ≡ slice_get (map (line name) b.said) j = b.agrees.same j (omega arith) in
    let bad : None ≡ Some (line name s.content) = sym el ∙ same ∙ s.is in absurd cc

-- no section has a line that is none of the form due there
pub stuck_line : (name : List ℕ) (fs : List Form) (lines : List (List ℕ)) (j : ℕ) (f : Form) (l : List ℕ) → slice_get fs j ≡ Some f → slice_get lines j ≡ Some l
    → ((c : Said) → FitsForm f c → l ≡ line name c → ⊥) → BeginsSo name fs lines (j + 1) → ⊥
stuck_line name fs lines j f l ef el none b =
    let s = slot name fs b.said j f b.agrees.fits ef in
    let same : slice_get lines j ≡ slice_get (map (line name) b.said) j = b.agrees.same j (omega arith) in
    let is : Some l ≡ Some (line name s.content) = sym el ∙ same ∙ s.is in
    none s.content s.fits cc

-- so a line is bad that is missing, or none of its form
pub bad_end : (name : List ℕ) (fs : List Form) (lines : List (List ℕ)) (cs : List Said) (j : ℕ) (f : Form) → SoFar name fs lines cs → length cs ≡ j
    → slice_get fs j ≡ Some f → slice_get lines j ≡ None → IsBadAt name fs lines j
bad_end name fs lines cs j f h len ef el = record { within = slice_get_within fs j f ef; before = subst (BeginsSo name fs lines) len (begins name fs lines cs h); none = stuck_end name fs lines j f ef el }

pub bad_line : (name : List ℕ) (fs : List Form) (lines : List (List ℕ)) (cs : List Said) (j : ℕ) (f : Form) (l : List ℕ) → SoFar name fs lines cs
    → length cs ≡ j
    → slice_get fs j ≡ Some f → slice_get lines j ≡ Some l → ((c : Said) → FitsForm f c → l ≡ line name c → ⊥) → IsBadAt name fs lines j
bad_line name fs lines cs j f l h len ef el none = record { within = slice_get_within fs j f ef; before = subst (BeginsSo name fs lines) len (begins name fs lines cs h); none = stuck_line name fs lines j f l ef el none }

pub one_more : (name : List ℕ) (fs : List Form) (lines : List (List ℕ)) (cs : List Said) (j : ℕ) (f : Form) (l : List ℕ) (c : Said)
    → SoFar name fs lines cs → length cs ≡ j
    → slice_get fs j ≡ Some f → slice_get lines j ≡ Some l → FitsForm f c × (l ≡ line name c) → SoFar name fs lines (cs ++ (c ∷ []))
one_more name fs lines cs j f l c h len ef el r = more name fs lines cs f l c h (ap (slice_get fs) len ∙ ef) (ap (slice_get lines) len ∙ el) r

fill_all : (fs : List Form) (cs : List Said) → length cs ≡ length fs → fill fs cs ≡ cs
unfolding fill
fill_all [] [] e = refl
fill_all [] (c ∷ cs) e = absurd (omega arith)
fill_all (f ∷ fs) [] e = absurd (omega arith)
fill_all (f ∷ fs) (c ∷ cs) e = ap (λ t. c ∷ t) (fill_all fs cs (omega arith))

pub agrees_all : (name : List ℕ) (fs : List Form) (lines : List (List ℕ)) (cs : List Said) → SoFar name fs lines cs → length cs ≡ length fs
    → Agrees name fs lines (length fs) cs
agrees_all name fs lines cs h len =
    let a : Agrees name fs lines (length cs) (fill fs cs) = record { fits = fill_fits name fs lines cs h; same = fill_same name fs lines cs h } in
    subst (λ t. Agrees name fs lines (length fs) t) (fill_all fs cs len) (subst (λ n. Agrees name fs lines n (fill fs cs)) len a)

pub length_push : (cs : List Said) (c : Said) → length (cs ++ (c ∷ [])) ≡ length cs + 1
length_push [] c = refl
length_push (d ∷ cs) c = omega (arith, length_push cs c)

-- what was read of a line, where something was or where nothing was
pub read_some : (name : List ℕ) (f : Form) (text : List ℕ) (r : Option Said) (x : Said) → r ≡ Some x → ReadsLine name f text r
    → FitsForm f x × (text ≡ line name x)
read_some name f text None x e h = absurd cc
read_some name f text (Some y) x e h = let a : y ≡ x = cc in subst (λ z. FitsForm f z × (text ≡ line name z)) a h

pub read_none : (name : List ℕ) (f : Form) (text : List ℕ) (r : Option Said) → r ≡ None → ReadsLine name f text r → (c : Said) → FitsForm f c
    → text ≡ line name c → ⊥
read_none name f text None e h = h
read_none name f text (Some y) e h = absurd cc

pub no_entry_said : (name text : List ℕ)
    → ((word : List ℕ) (n : ℤ) → IsTrue (is_name word) → IsPrintedNumber n → text ≡ entry_line name (word, n) → ⊥) → (s : Said)
    → FitsForm form.Entry s → text ≡ line name s → ⊥
no_entry_said name text h (the.Entry word n) f e = h word n f.0 f.1 e
no_entry_said name text h s f e = f
