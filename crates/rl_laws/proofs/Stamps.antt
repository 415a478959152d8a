-- A walk gives each priority a stamp of its own.
use Rattle.std.proofs.Common.{◌≡◌, ℕ, zero, suc, ◌+◌, ◌-◌, ◌≤◌, Bool, true, false, cond, List, [], ◌∷◌, ◌++◌, ◌⊎◌, inl, inr, Option, Some, None, map, replicate, refl, sym, ◌∙◌, ap, subst, arith}
use Rattle.std.specs.Prelude.{pos, All}
use Rattle.std.specs.List.{flat_map}
use Rattle.std.proofs.lemmas.List.Elements.{All-nil, All-cons, All-append}
use Rattle.rl_types.specs.declared.numbers.Place.{Place}
use Rattle.rl_types.specs.declared.numbers.ActionId.{ActionId}
use Rattle.rl_sets.specs.Sets.{In}
use Rattle.rl_sets.proofs.SetLaws.{In-append_cases}
use Rattle.rl_labels.specs.declared.priors.Prior.{Prior}
use Rattle.rl_automata.specs.declared.tree.Label.TheVariants as label
use Rattle.rl_automata.specs.Nodes as n
use Rattle.rl_automata.specs.Nodes.{Node, carry_of}
use Rattle.rl_automata.specs.Scans.{Pattern}
use Rattle.rl_model.specs.Counts.{trees_of}
use Rattle.rl_draft.specs.declared.expression.Put.{Put}
use Rattle.rl_draft.specs.declared.expression.Put.TheVariants as put
use Rattle.rl_draft.specs.declared.expression.Transitions.TheVariants as t
use Rattle.rl_rewrite.specs.declared.counts.Counts.{Counts}
use Rattle.rl_rewrite.specs.declared.layers.Layer.{Layer}
use Rattle.rl_rewrite.specs.declared.layers.Layer.TheVariants as layer
use Rattle.rl_rewrite.specs.Plain as p
use Rattle.rl_rewrite.specs.Plain.{Plain, Pairing, Guard, PlainPattern, PlainValue}
use Rattle.rl_rewrite.specs.Walk.{Placed, PlacedPatterns, PlacedRoot, Walk, walk, walk_patterns, walk_value, begun, around, first_layers, layer_of, is_first, layer_node, layered, counted, has_copies, paired, pair_node, row, row_behind, star, optional, single, guarded_right, guarded_left, left_value, right_value, entered, names_before, new_name, with_new_name, stamped}
use Rattle.rl_rewrite.specs.Entries.{Made, Meaning, meanings, entries, entry, is_entry, made_by, conditions_by}
use Rattle.rl_laws.specs.Ties.{priors_in, StampsTell, AreAmong, StampsTellPriorities}

-- ---- what was given so far

-- no stamp is above the last one, and no two priorities share one
record IsLog (last : ℕ) (ps : List Prior) : Type 0 where
  low : (q : Prior) → In q ps → q.stamp ≤ last
  tells : StampsTell ps

abbrev Embeds : List Prior → Node → Type 0
Embeds ps x = AreAmong (priors_in x) ps

-- what was given before, and what was given by now
record Given (before : List Prior) (last : ℕ) (Of : List Prior → Type 0) : Type 0 where
  log : List Prior
  keeps : AreAmong before log
  is : IsLog last log
  of : Of log

later : (last last' : ℕ) (ps : List Prior) → last ≤ last' → IsLog last ps → IsLog last' ps
later last last' ps h k = record { low = λ q i. let l : q.stamp ≤ last = k.low q i in omega arith; tells = k.tells }

next : (last : ℕ) (ps : List Prior) (q : Prior) → q.stamp ≡ last + 1 → IsLog last ps → IsLog (last + 1) (q ∷ ps)
next last ps q s k = record { low = low; tells = tells }
  where
    below : (r : Prior) → In r ps → q.stamp ≡ r.stamp → ⊥
    below r i e = let l : r.stamp ≤ last = k.low r i in absurd (omega arith)

    low : (r : Prior) → In r (q ∷ ps) → r.stamp ≤ last + 1
    low r (inl e) = subst (λ (w : Prior). w.stamp ≤ last + 1) e (omega arith)
    low r (inr i) = let l : r.stamp ≤ last = k.low r i in omega arith

    tells : StampsTell (q ∷ ps)
    tells a b (inl e) (inl f) g = sym e ∙ f
    tells a b (inl e) (inr j) g = absurd (below b j (ap (λ (w : Prior). w.stamp) e ∙ g))
    tells a b (inr i) (inl f) g = absurd (below a i (ap (λ (w : Prior). w.stamp) f ∙ sym g))
    tells a b (inr i) (inr j) g = k.tells a b i j g

-- nothing new
same : {Of : List Prior → Type 0} (before : List Prior) (last last' : ℕ) → last ≤ last' → IsLog last before → Of before → Given before last' Of
same before last last' h k of = record { log = before; keeps = λ q i. i; is = later last last' before h k; of = of }

-- ---- trees

more : (ps qs : List Prior) (x : Node) → AreAmong ps qs → Embeds ps x → Embeds qs x
more ps qs x h k q i = h q (k q i)

both : (ps xs ys : List Prior) → AreAmong xs ps → AreAmong ys ps → AreAmong (xs ++ ys) ps
both ps xs ys h k q i = let w : In q xs ⊎ In q ys = In-append_cases q xs ys i in elim w [ inl j ↦ h q j | inr j ↦ k q j ]

pair_embeds : (g : Pairing) (ps : List Prior) (x y : Node) → Embeds ps x → Embeds ps y → Embeds ps (pair_node g x y)
pair_embeds p.Either ps x y h k = both ps (priors_in x) (priors_in y) h k
pair_embeds p.Both ps x y h k = both ps (priors_in x) (priors_in y) h k
pair_embeds p.Less ps x y h k = both ps (priors_in x) (priors_in y) h k
pair_embeds p.Then ps x y h k = both ps (priors_in x) (priors_in y) h k

none : (ps : List Prior) → AreAmong [] ps
none ps q i = absurd i

abbrev LayerEmbeds : List Prior → Layer → Type 0
LayerEmbeds ps (layer.Step t l) = AreAmong (carry_of l).table ps
LayerEmbeds ps (layer.State class kind stamp action) = Unit {0}
LayerEmbeds ps (layer.When condition) = Unit {0}

layer_embeds : (l : Layer) (ps : List Prior) (x : Node) → LayerEmbeds ps l → Embeds ps x → Embeds ps (layer_node l x)
layer_embeds (layer.Step t.Entering l) ps x h k = both ps (carry_of l).table (priors_in x) h k
layer_embeds (layer.Step t.Finishing l) ps x h k = both ps (carry_of l).table (priors_in x) h k
layer_embeds (layer.Step t.All l) ps x h k = both ps (carry_of l).table (priors_in x) h k
layer_embeds (layer.Step t.Leaving l) ps x h k = both ps (carry_of l).table (priors_in x) h k
layer_embeds (layer.State class kind stamp action) ps x h k = k
layer_embeds (layer.When condition) ps x h k = k

layer_more : (ps qs : List Prior) (l : Layer) → AreAmong ps qs → LayerEmbeds ps l → LayerEmbeds qs l
layer_more ps qs (layer.Step t l) h k = λ q i. h q (k q i)
layer_more ps qs (layer.State class kind stamp action) h k = tt
layer_more ps qs (layer.When condition) h k = tt

-- ---- rows

abbrev AllEmbed : List Prior → List Placed → Type 0
AllEmbed ps [] = Unit {0}
AllEmbed ps (x ∷ xs) = Embeds ps x.node × AllEmbed ps xs

behind_embeds : (ps : List Prior) (x : Placed) (xs : List Placed) (at : Place) → Embeds ps x.node → AllEmbed ps xs → Embeds ps (row_behind x xs at).node
behind_embeds ps x [] at h hs = h
behind_embeds ps x (y ∷ ys) at h hs = behind_embeds ps (paired p.Then x y at) ys at (pair_embeds p.Then ps x.node y.node h hs.0) hs.1

row_embeds : (ps : List Prior) (xs : List Placed) (at : Place) → AllEmbed ps xs → Embeds ps (row xs at).node
row_embeds ps [] at hs = none ps
row_embeds ps (x ∷ xs) at hs = behind_embeds ps x xs at hs.0 hs.1

joined_embed : (ps : List Prior) (xs ys : List Placed) → AllEmbed ps xs → AllEmbed ps ys → AllEmbed ps (xs ++ ys)
joined_embed ps [] ys hs gs = gs
joined_embed ps (x ∷ xs) ys hs gs = (hs.0, joined_embed ps xs ys hs.1 gs)

copies_embed : (ps : List Prior) (k : ℕ) (x : Placed) → Embeds ps x.node → AllEmbed ps (replicate k x)
copies_embed ps zero x h = tt
copies_embed ps (suc k) x h = (h, copies_embed ps k x h)

-- ---- walks

abbrev Walked : List Prior → Placed × Counts → Type 0
Walked before x = Given before x.1.stamp (λ log. Embeds log x.0.node)

counted_given : (least : ℕ) (most : Option ℕ) (at : Place) (x : Placed) (c : Counts) (before : List Prior) → IsLog c.stamp before → Embeds before x.node
    → Walked before (counted least most at x c)
counted_given least (Some most) at x c before k h =
    same before c.stamp c.stamp (omega arith) k
    (row_embeds before (replicate least x ++ replicate (most - least) (optional x at)) at
    (joined_embed before (replicate least x) (replicate (most - least) (optional x at)) (copies_embed before least x h)
    (copies_embed before (most - least) (optional x at) (pair_embeds p.Either before x.node n.Null h (none before)))))
counted_given least None at x c before k h =
    same before c.stamp (c.stamp + 1) (omega arith) k
    (row_embeds before (replicate least x ++ star x (c.stamp + 1) at ∷ []) at
    (joined_embed before (replicate least x) (star x (c.stamp + 1) at ∷ []) (copies_embed before least x h) (h, tt)))

-- behind a walk
then_counted : (b : Bool) (least : ℕ) (most : Option ℕ) (at : Place) (x : Placed × Counts) (c : Counts) (before : List Prior) → IsLog c.stamp before → Walked before x
    → Walked before (cond {A = Placed × Counts} b (counted least most at x.0 x.1) (single n.Null at, c))
then_counted true least most at x c before k h =
    let r = counted_given least most at x.0 x.1 h.log h.is h.of in
    record { log = r.log; keeps = λ q i. r.keeps q (h.keeps q i); is = r.is; of = r.of }
then_counted false least most at x c before k h = same before c.stamp c.stamp (omega arith) k (none before)

-- ---- series

layer_given : (q : Put) (c : Counts) (before : List Prior) → IsLog c.stamp before → Given before (layer_of q c).1.stamp (λ log. LayerEmbeds log (layer_of q c).0)
layer_given (put.Action t x) c before k = same before c.stamp (c.stamp + 1) (omega arith) k (none before)
layer_given (put.Priority t x v) c before k =
    let q : Prior = record { name = names_before x c.names + 1; stamp = c.stamp + 1; value = v } in
    record { log = q ∷ before; keeps = λ r i. inr i; is = next c.stamp before q refl k; of = λ r i. elim i [ inl e ↦ inl e | inr j ↦ absurd j ] }
layer_given (put.Mark class kind x) c before k = same before c.stamp (c.stamp + 1) (omega arith) k tt
layer_given (put.When x) c before k = same before c.stamp c.stamp (omega arith) k tt

abbrev LayersEmbed : List Prior → List (Option Layer) → Type 0
LayersEmbed ps [] = Unit {0}
LayersEmbed ps (None ∷ ls) = LayersEmbed ps ls
LayersEmbed ps (Some l ∷ ls) = LayerEmbeds ps l × LayersEmbed ps ls

layers_more : (ps qs : List Prior) (ls : List (Option Layer)) → AreAmong ps qs → LayersEmbed ps ls → LayersEmbed qs ls
layers_more ps qs [] h k = tt
layers_more ps qs (None ∷ ls) h k = layers_more ps qs ls h k
layers_more ps qs (Some l ∷ ls) h k = (layer_more ps qs l h k.0, layers_more ps qs ls h k.1)

abbrev FirstGiven : List Prior → List (Option Layer) × Counts → Type 0
FirstGiven before r = Given before r.1.stamp (λ log. LayersEmbed log r.0)

first_case : (b : Bool) (y : Layer × Counts) (qs : List Put) (c : Counts) (before : List Prior) → IsLog c.stamp before → Given before y.1.stamp (λ log. LayerEmbeds log y.0)
    → ((d : Counts) (so_far : List Prior) → IsLog d.stamp so_far → FirstGiven so_far (first_layers qs d))
    → FirstGiven before (cond {A = List (Option Layer) × Counts} b (Some y.0 ∷ (first_layers qs y.1).0, (first_layers qs y.1).1) (None ∷ (first_layers qs c).0, (first_layers qs c).1))
first_case true y qs c before k h f =
    let r = f y.1 h.log h.is in
    record { log = r.log; keeps = λ q i. r.keeps q (h.keeps q i); is = r.is; of = (layer_more h.log r.log y.0 r.keeps h.of, r.of) }
first_case false y qs c before k h f = let r = f c before k in record { log = r.log; keeps = r.keeps; is = r.is; of = r.of }

first_given : (qs : List Put) (c : Counts) (before : List Prior) → IsLog c.stamp before → FirstGiven before (first_layers qs c)
first_given [] c before k = same before c.stamp c.stamp (omega arith) k tt
first_given (q ∷ qs) c before k = first_case (is_first q) (layer_of q c) qs c before k (layer_given q c before k) (first_given qs)

around_given : (qs : List Put) (ls : List (Option Layer)) (at : Place) (x : Placed) (c : Counts) (before : List Prior) → IsLog c.stamp before → Embeds before x.node → LayersEmbed before ls
    → Walked before (around qs ls at x c)
around_given [] ls at x c before k h g = same before c.stamp c.stamp (omega arith) k h
around_given (q ∷ qs) [] at x c before k h g = same before c.stamp c.stamp (omega arith) k h
around_given (q ∷ qs) (None ∷ ls) at x c before k h g =
    let y = layer_of q c in
    let f = layer_given q c before k in
    let r = around_given qs ls at (layered y.0 x at) y.1 f.log f.is (layer_embeds y.0 f.log x.node f.of (more before f.log x.node f.keeps h)) (layers_more before f.log ls f.keeps g) in
    record { log = r.log; keeps = λ q i. r.keeps q (f.keeps q i); is = r.is; of = r.of }
around_given (q ∷ qs) (Some l ∷ ls) at x c before k h g = around_given qs ls at (layered l x at) c before k (layer_embeds l before x.node g.0 h) g.1

-- ---- guards

abbrev IsGiven : Walk Placed → Type 0
IsGiven w = (c : Counts) (before : List Prior) → IsLog c.stamp before → Walked before (w c)

-- one priority more, which its tree embeds
one_of : (q : Prior) (ps : List Prior) → In q ps → AreAmong (q ∷ []) ps
one_of q ps i r (inl e) = subst (λ w. In w ps) e i
one_of q ps i r (inr j) = absurd j

entered_given : (g : Guard) (u : ℕ) (at : Place) (w : Walk Placed) → IsGiven w → IsGiven (entered g u at w)
entered_given g u at w f c before k =
    let q : Prior = record { name = u; stamp = c.stamp + 1; value = right_value g } in
    let y = w (stamped c) in
    let r = f (stamped c) (q ∷ before) (next c.stamp before q refl k) in
    record {
      log = r.log;
      keeps = λ z i. r.keeps z (inr i);
      is = r.is;
      of = layer_embeds (layer.Step t.Entering (label.Prior (c.stamp + 1) u (right_value g))) r.log y.0.node (one_of q r.log (r.keeps q (inl refl))) r.of;
    }

right_given : (g : Guard) (u : ℕ) (at : Place) (w : Walk Placed) → IsGiven w → IsGiven (guarded_right g u at w)
right_given p.Left u at w f = entered_given p.Left u at w f
right_given p.Entry u at w f = entered_given p.Entry u at w f
right_given p.Finish u at w f = λ c before k.
    let y = w c in
    let r = f c before k in
    let q : Prior = record { name = u; stamp = y.1.stamp + 1; value = right_value p.Finish } in
    record {
      log = q ∷ r.log;
      keeps = λ z i. inr (r.keeps z i);
      is = next y.1.stamp r.log q refl r.is;
      of = layer_embeds (layer.Step t.Finishing (label.Prior (y.1.stamp + 1) u (right_value p.Finish))) (q ∷ r.log) y.0.node (one_of q (q ∷ r.log) (inl refl))
          (more r.log (q ∷ r.log) y.0.node (λ z i. inr i) r.of);
    }

-- ---- the walk

walk_given : (g : Plain) → IsGiven (walk g)
walk_given (p.Set ranges at) = λ c before k. same before c.stamp c.stamp (omega arith) k (none before)
walk_given (p.Null at) = λ c before k. same before c.stamp c.stamp (omega arith) k (none before)
walk_given (p.Nothing at) = λ c before k. same before c.stamp c.stamp (omega arith) k (none before)
walk_given (p.Pair g a b at) = λ c before k.
    let h = walk_given a c before k in
    let x = walk a c in
    let r = walk_given b x.1 h.log h.is in
    record {
      log = r.log;
      keeps = λ q i. r.keeps q (h.keeps q i);
      is = r.is;
      of = pair_embeds g r.log x.0.node (walk b x.1).0.node (more h.log r.log x.0.node r.keeps h.of) r.of;
    }
walk_given (p.Guarded g a b at) = λ c before k.
    let x = walk a c in
    let h = walk_given a c before k in
    let u = new_name x.1 in
    let q : Prior = record { name = u; stamp = x.1.stamp + 1; value = left_value g } in
    let l = guarded_left g u at x.0 (with_new_name x.1) in
    let r = right_given g u at (walk b) (walk_given b) l.1 (q ∷ h.log) (next x.1.stamp h.log q refl h.is) in
    let left = layer_embeds (layer.Step t.All (label.Prior (x.1.stamp + 1) u (left_value g))) r.log x.0.node (one_of q r.log (r.keeps q (inl refl))) (more h.log r.log x.0.node (λ z i. r.keeps z (inr i)) h.of) in
    record {
      log = r.log;
      keeps = λ z i. r.keeps z (inr (h.keeps z i));
      is = r.is;
      of = pair_embeds p.Then r.log l.0.node (guarded_right g u at (walk b) l.1).0.node left r.of;
    }
walk_given (p.Longest a at) = λ c before k.
    let x = walk a c in
    let h = walk_given a c before k in
    let u = new_name x.1 in
    let every : Prior = record { name = u; stamp = x.1.stamp + 1; value = pos 1 } in
    let leaving : Prior = record { name = u; stamp = x.1.stamp + 2; value = pos 0 } in
    let two : x.1.stamp + 2 ≡ x.1.stamp + 1 + 1 = omega arith in
    let log = leaving ∷ every ∷ h.log in
    let is = next (x.1.stamp + 1) (every ∷ h.log) leaving two (next x.1.stamp h.log every refl h.is) in
    let l1 = layer.Step t.All (label.Prior (x.1.stamp + 1) u (pos 1)) in
    let l2 = layer.Step t.Leaving (label.Prior (x.1.stamp + 2) u (pos 0)) in
    record {
      log = log;
      keeps = λ z i. inr (inr (h.keeps z i));
      is = later (x.1.stamp + 1 + 1) (x.1.stamp + 1 + 1 + 1) log (omega arith) is;
      of = layer_embeds l2 log (layer_node l1 x.0.node) (one_of leaving log (inl refl))
          (layer_embeds l1 log x.0.node (one_of every log (inr (inl refl))) (more h.log log x.0.node (λ z i. inr (inr i)) h.of));
    }
walk_given (p.Count a least most at) = λ c before k. then_counted (has_copies least most) least most at (walk a c) c before k (walk_given a c before k)
walk_given (p.Series a qs at) = λ c before k.
    let l = first_layers qs c in
    let f = first_given qs c before k in
    let x = walk a l.1 in
    let h = walk_given a l.1 f.log f.is in
    let r = around_given qs l.0 at x.0 x.1 h.log h.is h.of (layers_more f.log h.log l.0 h.keeps f.of) in
    record { log = r.log; keeps = λ z i. r.keeps z (h.keeps z (f.keeps z i)); is = r.is; of = r.of }

-- ---- entries

abbrev trees : List Pattern → List Node
trees ps = map (λ (x : Pattern). x.tree) ps

abbrev PatternsGiven : List Prior → PlacedPatterns × Counts → Type 0
PatternsGiven before r = Given before r.1.stamp (λ log. AreAmong (flat_map priors_in (trees r.0.patterns)) log)

-- the log goes on from pattern to pattern
patterns_given : (qs : List PlainPattern) (c : Counts) (before : List Prior) → IsLog c.stamp before → PatternsGiven before (walk_patterns qs c)
patterns_given [] c before k = same before c.stamp c.stamp (omega arith) k (none before)
patterns_given (q ∷ qs) c before k =
    let x = walk q.plain c in
    let h = walk_given q.plain c before k in
    let y = walk_patterns qs x.1 in
    let r = patterns_given qs x.1 h.log h.is in
    record {
      log = r.log;
      keeps = λ z i. r.keeps z (h.keeps z i);
      is = r.is;
      of = both r.log (priors_in x.0.node) (flat_map priors_in (trees y.0.patterns)) (more h.log r.log x.0.node r.keeps h.of) r.of;
    }

abbrev RootGiven : List Prior → PlacedRoot × Counts → Type 0
RootGiven before r = Given before r.1.stamp (λ log. AreAmong (flat_map priors_in (trees_of r.0.root)) log)

root_given : (v : PlainValue) (c : Counts) (before : List Prior) → IsLog c.stamp before → RootGiven before (walk_value v c)
root_given (p.Expression e) c before k =
    let h = walk_given e c before k in
    record { log = h.log; keeps = h.keeps; is = h.is; of = both h.log (priors_in (walk e c).0.node) [] h.of (none h.log) }
root_given (p.Scanner qs at) c before k = let h = patterns_given qs c before k in record { log = h.log; keeps = h.keeps; is = h.is; of = h.of }

abbrev Tells : Made → Type 0
Tells m = StampsTell (flat_map priors_in (trees_of m.root))

entry_tells : (cs : List ActionId) (m : Meaning) → Tells (entry cs m)
entry_tells cs m =
    let r = root_given m.value (begun cs) [] (record { low = λ q i. absurd i; tells = λ a b i j e. absurd i }) in
    λ a b i j e. r.is.tells a b (r.of a i) (r.of b j) e

made_tells : (b : Bool) (cs : List ActionId) (m : Meaning) → All Tells (cond b (entry cs m ∷ []) [])
made_tells true cs m = All-cons Tells (entry cs m) [] (entry_tells cs m) (All-nil Tells)
made_tells false cs m = All-nil Tells

entries_tell : (cs : List ActionId) (ms : List Meaning) → All Tells (entries cs ms)
entries_tell cs [] = All-nil Tells
entries_tell cs (m ∷ ms) = All-append Tells (made_by cs m) (entries (conditions_by cs m) ms) (made_tells (is_entry m.sign) cs m) (entries_tell (conditions_by cs m) ms)

pub stamps_tell : StampsTellPriorities
stamps_tell draft = entries_tell [] (meanings draft)
