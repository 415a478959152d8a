-- Parts, one by one.
use Rattle.std.proofs.Common.{◌≡◌, ℕ, zero, suc, ◌+◌, ◌<◌, ◌≤◌, Bool, true, false, cond, eqb, List, [], ◌∷◌, ◌++◌, length, take, drop, Option, Some, None, Result, Ok, Err, inl, inr, refl, sym, ap, ◌∙◌, subst, arith, length-take, length-drop, append_assoc, append-nil}
use Rattle.std.specs.Prelude.{nat_eq, codes, IfOk}
use Rattle.std.specs.List.{starts_with}
use Rattle.std.proofs.lemmas.Bool.{cases_Bool, false≢true}
use Rattle.std.proofs.lemmas.Slice.Eq.{bytes_eq-Decides}
use Rattle.rl_types.specs.declared.faults.Fault.{Fault}
use Rattle.rl_grammar.specs.declared.read_fault.ReadFault.{ReadFault}
use Rattle.rl_grammar.specs.declared.read_fault.ReadFault.TheVariants as r
use Rattle.rl_lexical.specs.declared.part.Part.{Part}
use Rattle.rl_lexical.specs.declared.part.Part.TheVariants as p
use Rattle.rl_lexical.specs.declared.position.Position.{Position}
use Rattle.rl_lexical.specs.Answers.{Explains, Gives}
use Rattle.rl_lexical.specs.Bytes.{newline, is_line_blank, is_empty}
use Rattle.rl_lexical.specs.Places.{position_behind, is_before}
use Rattle.rl_lexical.specs.Parts.{blanks_len, behind_blanks, begins_block, before_body, block_end, block_then, before_parts, host_len, earlier, parts_from, file_parts, text_of}
use Rattle.rl_lex.specs.declared.parts.Region.{Region}
use Rattle.rl_lex.specs.Regions.{IsHostPart, IsBlockPart, IsPart, IsEarlier, joined_parts}
use Rattle.rl_lexical.proofs.PartLaws.{parts_are_the_text}
use Rattle.rl_lex.proofs.Classes.{front_bound}

starts_long : (text q : List ℕ) → starts_with nat_eq text q ≡ true → length q ≤ length text
starts_long text q h =
    let same : q ≡ take (length q) text = (bytes_eq-Decides q (take (length q) text)).0 h in
    omega (arith, length-take (length q) text, ap length same)

-- the mark of a block lies in the text
pub body_fits : (text : List ℕ) → begins_block text ≡ true → before_body text ≤ length text
body_fits text h =
    let blanks : blanks_len text ≤ length text = front_bound is_line_blank text in
    let two : 2 ≤ length (behind_blanks text) = starts_long (behind_blanks text) (codes "%%") h in
    elim (cases_Bool (starts_with nat_eq (behind_blanks text) (codes "%%{"))) [
      | inl hit ↦
          let three : 3 ≤ length (behind_blanks text) = starts_long (behind_blanks text) (codes "%%{") hit in
          rw hit (omega (arith, three, blanks, length-drop (blanks_len text) text))
      | inr miss ↦ rw miss (omega (arith, two, blanks, length-drop (blanks_len text) text))
    ]

-- no host text stands where a block begins
pub block_begins : (fresh : Bool) (text : List ℕ) → is_empty text ≡ false → host_len fresh text ≡ 0 → begins_block text ≡ true
block_begins fresh [] some none = absurd (false≢true (sym some))
block_begins true (b ∷ bs) some none = elim (cases_Bool (begins_block (b ∷ bs))) [
  | inl hit ↦ hit
  | inr miss ↦ (let more : 1 + host_len (eqb b newline) bs ≡ 0 = rw miss at none in absurd (omega arith))
]
block_begins false (b ∷ bs) some none = (let more : 1 + host_len (eqb b newline) bs ≡ 0 = none in absurd (omega arith))

step : (n : ℕ) (fresh : Bool) (at : Position) (text : List ℕ) → parts_from (suc n) fresh at text
    ≡ cond (is_empty text) (Ok [])
    (cond (eqb (host_len fresh text) 0) (block_then at text (block_end at text) (λ again behind rest. parts_from n again behind rest))
    (before_parts (p.Host (take (host_len fresh text) text)) (parts_from n true (position_behind at (take (host_len fresh text) text)) (drop (host_len fresh text) text))))
unfolding parts_from
step n fresh at text = refl

nothing : (fresh : Bool) (at : Position) (text : List ℕ) → parts_from 0 fresh at text ≡ Ok []
unfolding parts_from
nothing fresh at text = refl

joined_more : (found : List Part) (part : Part) (answer : Result (List Part) Fault) → joined_parts found (before_parts part answer) ≡ joined_parts (found ++ part ∷ []) answer
joined_more found part (Ok parts) = ap (λ z. Ok z) (sym (append_assoc found (part ∷ []) parts))
joined_more found part (Err fault) = refl

pub joined_none : (answer : Result (List Part) Fault) → joined_parts [] answer ≡ answer
joined_none (Ok parts) = refl
joined_none (Err fault) = refl

-- the part that stands here
module _ (fresh : Bool) (at : Position) (text : List ℕ) (some : is_empty text ≡ false) where
  pub host_here : (host : ℕ) → host ≡ host_len fresh text → eqb host 0 ≡ false → (answer : Result Region ReadFault) → IsHostPart host at text answer → IsPart fresh at text answer
  host_here host e more (Ok x) h =
      let host_is : eqb (host_len fresh text) 0 ≡ false = ap (λ z. eqb z 0) (sym e) ∙ more in
      (λ n. step n fresh at text ∙ rw some (rw host_is (rw (← e) (rw (h.0, h.1, h.2, h.3) refl))), h.4)
  host_here host e more (Err e') h = λ n. rw h tt

  pub block_here : host_len fresh text ≡ 0 → (answer : Result Region ReadFault) → IsBlockPart at text answer → IsPart fresh at text answer
  block_here none (Ok x) h = (λ n. step n fresh at text ∙ rw some (rw none (h.0 (λ again behind rest. parts_from n again behind rest))), h.1)
  block_here none (Err e) h = λ n.
      let P : Result (List Part) Fault → Type 0 = λ z. Explains z e in
      subst P (sym (step n fresh at text ∙ rw some (rw none refl))) (h (λ again behind rest. parts_from n again behind rest))

-- what is found so far, and what is left to find
module _ (whole : Result (List Part) Fault) (found : List Part) (fresh : Bool) (at : Position) (text : List ℕ) where
  pub all_found : (n : ℕ) → n ≡ 0 → joined_parts found (parts_from n fresh at text) ≡ whole → whole ≡ Ok found
  all_found n z h = sym h ∙ (ap (joined_parts found) (ap (λ m. parts_from m fresh at text) z ∙ nothing fresh at text) ∙ ap (λ z. Ok z) (append-nil found))

  pub none_left : (n : ℕ) → is_empty text ≡ true → joined_parts found (parts_from n fresh at text) ≡ whole → whole ≡ Ok found
  none_left zero e h = all_found 0 refl h
  none_left (suc n) e h =
      let last : parts_from (suc n) fresh at text ≡ Ok [] = step n fresh at text ∙ rw e refl in
      sym h ∙ (ap (joined_parts found) last ∙ ap (λ z. Ok z) (append-nil found))

  pub one_more : (n left : ℕ) → n ≡ left + 1 → joined_parts found (parts_from n fresh at text) ≡ whole → (x : Region) → IsPart fresh at text (Ok x)
      → joined_parts (found ++ x.part ∷ []) (parts_from left x.fresh x.at x.rest.now) ≡ whole
  one_more n left e h x next =
      let one : n ≡ suc left = omega arith in
      sym (joined_more found x.part (parts_from left x.fresh x.at x.rest.now))
      ∙ (ap (joined_parts found) (sym (ap (λ m. parts_from m fresh at text) one ∙ next.0 left)) ∙ h)

  pub refused : (n : ℕ) → 0 < n → joined_parts found (parts_from n fresh at text) ≡ whole → (e : ReadFault) → IsPart fresh at text (Err e) → Explains whole e
  refused zero l h e next = absurd (omega arith)
  refused (suc n) l h (r.Fault fault) next = sym h ∙ ap (joined_parts found) (next n)
  refused (suc n) l h (r.Limit limit) next = next n
  refused (suc n) l h r.Memory next = tt

-- the earlier of two faults
pub earlier_found : (marker : Option Fault) (defined : Result (List Part) Fault) (answer : Result (List Part) ReadFault) → Gives defined answer
    → (told : Result (List Part) ReadFault) → IsEarlier marker answer told → Gives (earlier marker defined) told
earlier_found None defined answer g told e = (let P : Result (List Part) ReadFault → Type 0 = λ z. Gives defined z in subst P (sym e) g)
earlier_found (Some marker) defined (Ok parts) g told e =
    let P : Result (List Part) ReadFault → Type 0 = λ z. Gives (earlier (Some marker) defined) z in
    subst P (sym e) (ap (earlier (Some marker)) g)
earlier_found (Some marker) defined (Err r.Memory) g told e =
    let P : Result (List Part) ReadFault → Type 0 = λ z. Gives (earlier (Some marker) defined) z in
    subst P (sym e) tt
earlier_found (Some marker) defined (Err (r.Limit limit)) g told e = absurd g
earlier_found (Some marker) defined (Err (r.Fault fault)) g told e =
    let P : Result (List Part) ReadFault → Type 0 = λ z. Gives (earlier (Some marker) defined) z in
    subst P (sym e) (one_of (is_before fault.place marker.place) refl)
  where
    one_of : (b : Bool) → is_before fault.place marker.place ≡ b → Explains (earlier (Some marker) defined) (r.Fault (cond b fault marker))
    one_of true h = ap (earlier (Some marker)) g ∙ rw h refl
    one_of false h = ap (earlier (Some marker)) g ∙ rw h refl

-- the parts that are read are those of the text
pub of_the_text : (file : ℕ) (text : List ℕ) (answer : Result (List Part) ReadFault) → Gives (file_parts file text) answer → IfOk answer (λ parts. text_of parts ≡ text)
of_the_text file text (Ok parts) g = parts_are_the_text file text parts g
of_the_text file text (Err e) g = tt
