-- Entries one by one.
use Rattle.std.proofs.Common.{◌≡◌, ℕ, zero, suc, ◌+◌, ◌≤◌, ◌<◌, min, ◌++◌, Bool, true, false, cond, List, [], ◌∷◌, Option, Some, None, length, map, take, drop, refl, ap, sym, subst, ◌∙◌, append_assoc, arith}
use Rattle.std.specs.Prelude.{slice_get, nat_lt, All}
use Rattle.std.specs.List.{flat_map}
use Rattle.std.proofs.lemmas.List.Elements.{All-nil, All-cons, All-append, All-head, All-tail, All-weaker}
use Rattle.std.proofs.lemmas.Bool.Decides.{nat_tests}
use Rattle.rl_types.specs.declared.alphabet.Alphabet.{Alphabet}
use Rattle.rl_types.specs.declared.numbers.ActionId.{ActionId}
use Rattle.rl_types.specs.declared.numbers.Place.{Place}
use Rattle.rl_types.specs.declared.faults.Limit.{Limit}
use Rattle.rl_types.specs.declared.faults.LimitKind.{LimitKind}
use Rattle.rl_types.specs.declared.faults.LimitKind.TheVariants.{L4, L5, L7}
use Rattle.rl_draft.specs.declared.draft.Definition.{Definition}
use Rattle.rl_model.specs.Counts.{stamps_in, root_size, root_depth}
use Rattle.rl_model.specs.WellFormed.{IsNumber}
use Rattle.rl_rewrite.specs.declared.sizes.Size.{Size}
use Rattle.rl_rewrite.specs.declared.entries.Rewritten.{Rewritten}
use Rattle.rl_rewrite.specs.declared.entries.RewriteFault.{RewriteFault}
use Rattle.rl_rewrite.specs.declared.entries.RewriteFault.TheVariants as fault
use Rattle.rl_rewrite.specs.Plain.{Plain, PlainValue, value_of, value_plain, plains_behind, value_behind}
use Rattle.rl_rewrite.specs.Walk.{walk_value, begun}
use Rattle.rl_rewrite.specs.Sizes.{value_nodes, value_depth}
use Rattle.rl_rewrite.specs.Measures.{value_measured, cut}
use Rattle.rl_rewrite.specs.Entries.{Made, Meaning, made_of, meaning, meanings_behind, meanings_in, is_entry, entry, entries, all_conditions, first_limit, limit_at, limit_by, limit_of, made_by, conditions_by, size_limit, condition_limit, earlier_limit, conditions_behind, IsMade, IsRefusal, AreSoFar, IsNext}
use Rattle.rl_rewrite.proofs.PatternLaws.{root_nodes, root_deep, root_stamps, root_whole}
use Rattle.std.proofs.Common.{get_or}
use Rattle.std.specs.Prelude.{Result, Ok, Err, IfOk, IfErr}
use Rattle.rl_automata.specs.Refused.{AreDifferent, conditions_in}
use Rattle.rl_model.specs.Counts.{trees_of}
use Rattle.rl_model.specs.Specification.{root_of}
use Rattle.rl_model.specs.declared.spec.Entry as rust
use Rattle.rl_rewrite.proofs.DifferLaws.{conditions_differ, all_known}
use Rattle.std.proofs.lemmas.Option.{slice_get_read}

-- ---- limits by cut sizes

lt_cut : (k n : ℕ) → k < 1000000 → nat_lt k (min 1000000 n) ≡ nat_lt k n
lt_cut k n h = grind (arith, nat_tests)

cut_limit : (q : PlainValue) (s : Size) → s ≡ cut (value_measured q) → size_limit s.nodes s.depth ≡ size_limit (value_nodes q) (value_depth q)
cut_limit q s e =
    ap (λ z. size_limit z.nodes z.depth) e
    ∙ ap (λ z. cond z (Some L4) (cond (nat_lt 2000 (min 1000000 (value_depth q))) (Some L5) None)) (lt_cut 100000 (value_nodes q) (omega arith))
    ∙ ap (λ z. cond (nat_lt 100000 (value_nodes q)) (Some L4) (cond z (Some L5) None)) (lt_cut 2000 (value_depth q) (omega arith))

walked_limit : (cs : List ActionId) (m : Meaning) (s : Size) → s ≡ cut (value_measured m.value)
    → limit_of cs m ≡ earlier_limit (size_limit s.nodes s.depth) (condition_limit (conditions_behind cs m))
walked_limit cs m s e =
    let x = walk_value m.value (begun cs) in
    ap (λ z. earlier_limit (size_limit z (root_depth x.0.root)) (condition_limit x.1.conditions)) (root_nodes m.value (begun cs))
    ∙ ap (λ z. earlier_limit (size_limit (value_nodes m.value) z) (condition_limit x.1.conditions)) (root_deep m.value (begun cs))
    ∙ ap (λ z. earlier_limit z (condition_limit x.1.conditions)) (sym (cut_limit m.value s e))

no_limit_nodes : (a b : Bool) → cond a (Some L4) (cond b (Some L5) None) ≡ None → a ≡ false
no_limit_nodes true b e = absurd (cc)
no_limit_nodes false b e = refl

no_limit_depth : (a b : Bool) → cond a (Some L4) (cond b (Some L5) None) ≡ None → b ≡ false
no_limit_depth true b e = absurd (cc)
no_limit_depth false true e = absurd (cc)
no_limit_depth false false e = refl

not_above : (k n : ℕ) → nat_lt k n ≡ false → n ≤ k
not_above k n e = grind (arith, nat_tests)

-- what passes no limit has few nodes
pub few_nodes : (q : PlainValue) (s : Size) → s ≡ cut (value_measured q) → size_limit s.nodes s.depth ≡ None → value_nodes q ≤ 100000
few_nodes q s e h = not_above 100000 (value_nodes q) (no_limit_nodes (nat_lt 100000 (value_nodes q)) (nat_lt 2000 (value_depth q)) (sym (cut_limit q s e) ∙ h))

-- ---- one definition

limit_case : (b : Bool) (l : Option LimitKind) → b ≡ true → cond b l None ≡ l
limit_case true l e = refl
limit_case false l e = absurd (cc)

limit_is : (cs : List ActionId) (m : Meaning) (s : Size) → is_entry m.sign ≡ true → s ≡ cut (value_measured m.value)
    → limit_by cs m ≡ earlier_limit (size_limit s.nodes s.depth) (condition_limit (conditions_behind cs m))
limit_is cs m s e h = limit_case (is_entry m.sign) (limit_of cs m) e ∙ walked_limit cs m s h

pub refused_size : (cs : List ActionId) (m : Meaning) (s : Size) (kind : LimitKind) → is_entry m.sign ≡ true → s ≡ cut (value_measured m.value) → size_limit s.nodes s.depth ≡ Some kind
    → limit_at (limit_by cs m) m.place None ≡ Some (record { kind = kind; place = m.place })
refused_size cs m s kind e h k =
    ap (λ z. limit_at z m.place None) (limit_is cs m s e h ∙ ap (λ z. earlier_limit z (condition_limit (conditions_behind cs m))) k)

small_limit : (cs : List ActionId) (m : Meaning) (s : Size) → is_entry m.sign ≡ true → s ≡ cut (value_measured m.value) → size_limit s.nodes s.depth ≡ None
    → limit_by cs m ≡ condition_limit (conditions_behind cs m)
small_limit cs m s e h k = limit_is cs m s e h ∙ ap (λ z. earlier_limit z (condition_limit (conditions_behind cs m))) k

pub refused_small : (cs : List ActionId) (m : Meaning) (s : Size) (f : RewriteFault) → is_entry m.sign ≡ true → s ≡ cut (value_measured m.value) → size_limit s.nodes s.depth ≡ None
    → IsRefusal (limit_at (condition_limit (conditions_behind cs m)) m.place None) f → IsRefusal (limit_at (limit_by cs m) m.place None) f
refused_small cs m s f e h k r = subst (λ z. IsRefusal (limit_at z m.place None) f) (sym (small_limit cs m s e h k)) r

below_limit : (n : ℕ) → n ≤ 8 → nat_lt 8 n ≡ false
below_limit n h = grind (arith, nat_tests)

few_limit : (cs : List ActionId) → length cs ≤ 8 → condition_limit cs ≡ None
few_limit cs h = ap (λ z. cond z (Some L7) None) (below_limit (length cs) h)

made_case : (b : Bool) (x : Made) → b ≡ true → x ∷ [] ≡ cond b (x ∷ []) []
made_case true x e = refl
made_case false x e = absurd (cc)

conditions_case : (b : Bool) (xs ys : List ActionId) → b ≡ true → xs ≡ cond b xs ys
conditions_case true xs ys e = refl
conditions_case false xs ys e = absurd (cc)

pub next_entry : (m : Meaning) (r1 r2 : Rewritten) (s : Size) → is_entry m.sign ≡ true → s ≡ cut (value_measured m.value) → size_limit s.nodes s.depth ≡ None
    → map made_of r2.entries ≡ map made_of r1.entries ++ entry r1.conditions m ∷ [] → r2.conditions ≡ conditions_behind r1.conditions m → length r2.conditions ≤ 8 → IsNext m r1 r2
next_entry m r1 r2 s e h k a b f = record {
  made = a ∙ ap (λ z. map made_of r1.entries ++ z) (made_case (is_entry m.sign) (entry r1.conditions m) e);
  conditions = b ∙ conditions_case (is_entry m.sign) (conditions_behind r1.conditions m) r1.conditions e;
  limit = small_limit r1.conditions m s e h k ∙ few_limit (conditions_behind r1.conditions m) (subst (λ z. length z ≤ 8) b f);
  few = f;
}

append_none : {X : Type 0} (xs : List X) → xs ++ [] ≡ xs
append_none [] = refl
append_none (x ∷ xs) = ap (λ z. x ∷ z) (append_none xs)

none_case : {X : Type 0} (b : Bool) (x y : X) → b ≡ false → y ≡ cond b x y
none_case true x y e = absurd (cc)
none_case false x y e = refl

pub next_none : (m : Meaning) (r : Rewritten) → is_entry m.sign ≡ false → length r.conditions ≤ 8 → IsNext m r r
next_none m r e f = record {
  made = sym (append_none (map made_of r.entries)) ∙ ap (λ z. map made_of r.entries ++ z) (none_case (is_entry m.sign) (entry r.conditions m ∷ []) [] e);
  conditions = none_case (is_entry m.sign) (conditions_behind r.conditions m) r.conditions e;
  limit = sym (none_case (is_entry m.sign) (limit_of r.conditions m) None e);
  few = f;
}

-- ---- all definitions

pub so_far_begins : (all : List Meaning) (r : Rewritten) → r.entries ≡ [] → r.conditions ≡ [] → AreSoFar all all r
so_far_begins all r e h = record {
  made = ap (λ z. map made_of z ++ entries r.conditions all) e ∙ ap (λ z. entries z all) h;
  conditions = ap (λ z. all_conditions z all) h;
  limit = ap (λ z. first_limit z all) h;
  few = subst (λ z. length z ≤ 8) (sym h) (omega arith);
}

pub so_far_next : (m : Meaning) (rest all : List Meaning) (r1 r2 : Rewritten) → AreSoFar (m ∷ rest) all r1 → IsNext m r1 r2 → AreSoFar rest all r2
so_far_next m rest all r1 r2 h k = record {
  made = ap (λ z. z ++ entries r2.conditions rest) k.made ∙ ap (λ z. (map made_of r1.entries ++ made_by r1.conditions m) ++ entries z rest) k.conditions
      ∙ append_assoc (map made_of r1.entries) (made_by r1.conditions m) (entries (conditions_by r1.conditions m) rest) ∙ h.made;
  conditions = ap (λ z. all_conditions z rest) k.conditions ∙ h.conditions;
  limit = ap (λ z. first_limit z rest) k.conditions ∙ ap (λ z. limit_at z m.place (first_limit (conditions_by r1.conditions m) rest)) (sym k.limit) ∙ h.limit;
  few = k.few;
}

sooner : (l : Option LimitKind) (at : Place) (x : Limit) (later : Option Limit) → limit_at l at None ≡ Some x → limit_at l at later ≡ Some x
sooner None at x later e = absurd (cc)
sooner (Some kind) at x later e = e

pub so_far_refused : (m : Meaning) (rest all : List Meaning) (r : Rewritten) (f : RewriteFault) → AreSoFar (m ∷ rest) all r → IsRefusal (limit_at (limit_by r.conditions m) m.place None) f
    → IsRefusal (first_limit [] all) f
so_far_refused m rest all r (fault.Limit l) h k = sym h.limit ∙ sooner (limit_by r.conditions m) m.place l (first_limit (conditions_by r.conditions m) rest) k
so_far_refused m rest all r fault.Memory h k = tt

abbrev given : Definition → Option Definition → Definition
given d None = d
given d (Some x) = x

meaning_behind : (alphabet : Alphabet) (known : List Plain) (ds : List Definition) (i : ℕ) (d : Definition) → slice_get ds i ≡ Some d
    → drop i (meanings_behind alphabet known ds) ≡ meaning d (value_of alphabet (plains_behind alphabet known (take i ds)) d.value) ∷ drop (suc i) (meanings_behind alphabet known ds)
meaning_behind alphabet known [] i d e = absurd (cc)
meaning_behind alphabet known (x ∷ ds) zero d e =
    ap (λ z. meaning z (value_of alphabet known z.value) ∷ meanings_behind alphabet (known ++ value_plain alphabet known x.value ∷ []) ds) (ap (given d) e)
meaning_behind alphabet known (x ∷ ds) (suc i) d e = meaning_behind alphabet (known ++ value_plain alphabet known x.value ∷ []) ds i d e

pub next_meaning : (alphabet : Alphabet) (ds : List Definition) (i : ℕ) (d : Definition) → slice_get ds i ≡ Some d
    → drop i (meanings_in alphabet ds) ≡ meaning d (value_behind alphabet (take i ds) d.value) ∷ drop (i + 1) (meanings_in alphabet ds)
next_meaning alphabet ds i d e =
    let s : suc i ≡ i + 1 = omega arith in
    meaning_behind alphabet [] ds i d e ∙ ap (λ z. meaning d (value_behind alphabet (take i ds) d.value) ∷ drop z (meanings_in alphabet ds)) s

-- ---- what is promised of each

no_earlier : (a b : Option LimitKind) → earlier_limit a b ≡ None → a ≡ None
no_earlier None b e = refl
no_earlier (Some kind) b e = absurd (cc)

entry_made : (cs : List ActionId) (m : Meaning) → limit_of cs m ≡ None → IsMade (entry cs m)
entry_made cs m e =
    let x = walk_value m.value (begun cs) in
    let none = no_earlier (size_limit (root_size x.0.root) (root_depth x.0.root)) (condition_limit x.1.conditions) e in
    let few = not_above 100000 (root_size x.0.root) (no_limit_nodes (nat_lt 100000 (root_size x.0.root)) (nat_lt 2000 (root_depth x.0.root)) none) in
    record {
      few_nodes = few;
      not_deep = not_above 2000 (root_depth x.0.root) (no_limit_depth (nat_lt 100000 (root_size x.0.root)) (nat_lt 2000 (root_depth x.0.root)) none);
      stamps = All-weaker (λ s. (1 ≤ s) × (s ≤ value_nodes m.value)) (IsNumber 100000)
          (λ s h. (h.0, omega (arith, h.1, few, root_nodes m.value (begun cs)))) (flat_map stamps_in (trees_of x.0.root)) (root_stamps m.value (begun cs) refl);
      places = root_whole m.value (begun cs);
    }

made_by_case : (b : Bool) (cs : List ActionId) (m : Meaning) → cond b (limit_of cs m) None ≡ None → All IsMade (cond b (entry cs m ∷ []) [])
made_by_case true cs m e = All-cons IsMade (entry cs m) [] (entry_made cs m e) (All-nil IsMade)
made_by_case false cs m e = All-nil IsMade

limit_first : (l : Option LimitKind) (at : Place) (later : Option Limit) → limit_at l at later ≡ None → l ≡ None
limit_first None at later e = refl
limit_first (Some kind) at later e = absurd (cc)

limit_later : (l : Option LimitKind) (at : Place) (later : Option Limit) → limit_at l at later ≡ None → later ≡ None
limit_later None at later e = e
limit_later (Some kind) at later e = absurd (cc)

entries_made : (cs : List ActionId) (ms : List Meaning) → first_limit cs ms ≡ None → All IsMade (entries cs ms)
entries_made cs [] e = All-nil IsMade
entries_made cs (m ∷ ms) e =
    let later = first_limit (conditions_by cs m) ms in
    All-append IsMade (made_by cs m) (entries (conditions_by cs m) ms)
    (made_by_case (is_entry m.sign) cs m (limit_first (limit_by cs m) m.place later e)) (entries_made (conditions_by cs m) ms (limit_later (limit_by cs m) m.place later e))

pub all_map : {X Y : Type 0} (P : Y → Type 0) (f : X → Y) (xs : List X) → All P (map f xs) → All (λ x. P (f x)) xs
all_map P f [] h = All-nil (λ x. P (f x))
all_map P f (x ∷ xs) h = All-cons (λ x. P (f x)) x xs (All-head P (f x) (map f xs) h) (all_map P f xs (All-tail P (f x) (map f xs) h))

-- ---- at the end

pub ends_made : (all : List Meaning) (r : Rewritten) → AreSoFar [] all r → map made_of r.entries ≡ entries [] all
ends_made all r h = sym (append_none (map made_of r.entries)) ∙ h.made

pub all_made : (all : List Meaning) (r : Rewritten) → AreSoFar [] all r → All (λ e. IsMade (made_of e)) r.entries
all_made all r h = all_map IsMade made_of r.entries (subst (All IsMade) (sym (ends_made all r h)) (entries_made [] all (sym h.limit)))

pub ends_conditions : (all : List Meaning) (r : Rewritten) → AreSoFar [] all r → r.conditions ≡ all_conditions [] all
ends_conditions all r h = h.conditions

pub ends_within : (all : List Meaning) (r : Rewritten) → AreSoFar [] all r → first_limit [] all ≡ None
ends_within all r h = sym h.limit

-- ---- by an index

meanings_length : (alphabet : Alphabet) (known : List Plain) (ds : List Definition) → length (meanings_behind alphabet known ds) ≡ length ds
meanings_length alphabet known [] = refl
meanings_length alphabet known (d ∷ ds) = ap suc (meanings_length alphabet (known ++ value_plain alphabet known d.value ∷ []) ds)

drop_all : {X : Type 0} (xs : List X) (n : ℕ) → length xs ≡ n → drop n xs ≡ []
drop_all [] zero h = refl
drop_all [] (suc n) h = refl
drop_all (x ∷ xs) zero h = absurd (omega arith)
drop_all (x ∷ xs) (suc n) h = drop_all xs n (omega arith)

pub at_end : (alphabet : Alphabet) (ds : List Definition) (r : Rewritten) → AreSoFar (drop (length ds) (meanings_in alphabet ds)) (meanings_in alphabet ds) r
    → AreSoFar [] (meanings_in alphabet ds) r
at_end alphabet ds r h = subst (λ z. AreSoFar z (meanings_in alphabet ds) r) (drop_all (meanings_in alphabet ds) (length ds) (meanings_length alphabet [] ds)) h

next_here : (alphabet : Alphabet) (ds b : List Definition) (i : ℕ) (d : Definition) (r : Rewritten) → i < length ds → d ≡ get_or ds i d → b ≡ take i ds
    → AreSoFar (drop i (meanings_in alphabet ds)) (meanings_in alphabet ds) r
    → AreSoFar (meaning d (value_behind alphabet b d.value) ∷ drop (i + 1) (meanings_in alphabet ds)) (meanings_in alphabet ds) r
next_here alphabet ds b i d r lt e l h =
    let all = meanings_in alphabet ds in
    let here = next_meaning alphabet ds i d (slice_get_read ds (length ds) i d refl lt e) ∙ ap (λ z. meaning d (value_behind alphabet z d.value) ∷ drop (i + 1) all) (sym l) in
    subst (λ z. AreSoFar z all r) here h

pub turn_next : (alphabet : Alphabet) (ds b : List Definition) (i : ℕ) (d : Definition) (r1 r2 : Rewritten) → i < length ds → d ≡ get_or ds i d → b ≡ take i ds
    → AreSoFar (drop i (meanings_in alphabet ds)) (meanings_in alphabet ds) r1
    → IsNext (meaning d (value_behind alphabet b d.value)) r1 r2
    → AreSoFar (drop (i + 1) (meanings_in alphabet ds)) (meanings_in alphabet ds) r2
turn_next alphabet ds b i d r1 r2 lt e l h k =
    so_far_next (meaning d (value_behind alphabet b d.value)) (drop (i + 1) (meanings_in alphabet ds)) (meanings_in alphabet ds) r1 r2 (next_here alphabet ds b i d r1 lt e l h) k

pub turn_refused : (alphabet : Alphabet) (ds b : List Definition) (i : ℕ) (d : Definition) (r : Rewritten) (f : RewriteFault) → i < length ds → d ≡ get_or ds i d → b ≡ take i ds
    → AreSoFar (drop i (meanings_in alphabet ds)) (meanings_in alphabet ds) r
    → IsRefusal (limit_at (limit_by r.conditions (meaning d (value_behind alphabet b d.value))) d.place None) f
    → IsRefusal (first_limit [] (meanings_in alphabet ds)) f
turn_refused alphabet ds b i d r f lt e l h k =
    so_far_refused (meaning d (value_behind alphabet b d.value)) (drop (i + 1) (meanings_in alphabet ds)) (meanings_in alphabet ds) r f (next_here alphabet ds b i d r lt e l h) k

pub turn_few : (rest all : List Meaning) (r : Rewritten) → AreSoFar rest all r → length r.conditions ≤ 8
turn_few rest all r h = h.few

-- ---- for all results of a call

pub next_all : (m : Meaning) (r1 : Rewritten) (res : Result Rewritten RewriteFault) (s : Size) → is_entry m.sign ≡ true → s ≡ cut (value_measured m.value) → size_limit s.nodes s.depth ≡ None
    → IfOk res (λ r. map made_of r.entries ≡ map made_of r1.entries ++ entry r1.conditions m ∷ [])
    → IfOk res (λ r. (r.conditions ≡ conditions_behind r1.conditions m) × (length r.conditions ≤ 8)) → IfOk res (λ r. IsNext m r1 r)
next_all m r1 (Ok r) s e h k a b = next_entry m r1 r s e h k a b.0 b.1
next_all m r1 (Err f) s e h k a b = tt

pub refused_all : (m : Meaning) (r1 : Rewritten) (res : Result Rewritten RewriteFault) (s : Size) → is_entry m.sign ≡ true → s ≡ cut (value_measured m.value) → size_limit s.nodes s.depth ≡ None
    → IfErr res (λ f. IsRefusal (limit_at (condition_limit (conditions_behind r1.conditions m)) m.place None) f) → IfErr res (λ f. IsRefusal (limit_at (limit_by r1.conditions m) m.place None) f)
refused_all m r1 (Ok r) s e h k a = tt
refused_all m r1 (Err f) s e h k a = refused_small r1.conditions m s f e h k a

-- ---- conditions

pub ends_differ : (all : List Meaning) (r : Rewritten) → AreSoFar [] all r → AreDifferent (map (λ (a : ActionId). a.0) r.conditions)
ends_differ all r h = subst (λ z. AreDifferent (map (λ (a : ActionId). a.0) z)) (sym h.conditions) (conditions_differ all)

pub ends_known : (all : List Meaning) (r : Rewritten) → AreSoFar [] all r → All (λ (e : rust.Entry). All (IsNumber (length r.conditions)) (flat_map conditions_in (trees_of (root_of e.root)))) r.entries
ends_known all r h =
    let few : length (all_conditions [] all) ≤ 8 = subst (λ z. length z ≤ 8) h.conditions h.few in
    let known = subst (λ z. All (λ (x : Made). All (IsNumber (length z)) (flat_map conditions_in (trees_of x.root))) (entries [] all)) (sym h.conditions) (all_known all few) in
    all_map (λ (x : Made). All (IsNumber (length r.conditions)) (flat_map conditions_in (trees_of x.root))) made_of r.entries
    (subst (All (λ (x : Made). All (IsNumber (length r.conditions)) (flat_map conditions_in (trees_of x.root)))) (sym (ends_made all r h)) known)
