-- A step that two states take together they take on the first letter of one of their edges too, and on none after it.
use Rattle.std.proofs.Common.{◌≡◌, ◌≤◌, ◌≤ℤ◌, true, List, [], ◌∷◌, Some, bit_and, ap, sym, ◌∙◌, subst, inl, inr, ◌⊎◌, arith}
use Rattle.std.proofs.lemmas.Int.{ints}
use Rattle.std.proofs.lemmas.Nat.{and_le_l}
use native.Mathlib.Decide.{dec_lt}
use Rattle.rl_types.specs.declared.numbers.Letter.{Letter}
use Rattle.rl_sets.specs.Sets.{In}
use Rattle.rl_fsm.specs.Reads.{takes, own_letter}
use Rattle.rl_fsm.proofs.PieceLaws.{before_or_not, range_low, range_high, range_is}
use Rattle.rl_minimal.specs.declared.state.MinEdge.{MinEdge}
use Rattle.rl_minimal.specs.Minimal.{reads_of}
use Rattle.rl_minimal.specs.Machine.{edge_for}
use Rattle.rl_certificate.specs.Views.{StepAlike}
use Rattle.rl_certificate.specs.Firsts.{LetterBefore}
use Rattle.rl_certificate.specs.Rounds.{own_letters}
use Rattle.rl_certificate.proofs.EdgeLaws.{AreOrdered, asks_there, taken, takes_from, edge_found}
use Rattle.rl_certificate.proofs.WalkLaws.{edge_from}

own_there : (e : MinEdge) (es : List MinEdge) → In e es → In (own_letter (reads_of e)) (own_letters es)
own_there e (f ∷ es) (inl q) = inl (ap (λ (w : MinEdge). own_letter (reads_of w)) q)
own_there e (f ∷ es) (inr i) = inr (own_there e es i)
own_there e [] i = absurd i

-- a letter is no later than another
abbrev pub NoLater : Letter → Letter → Type 0
NoLater l k = LetterBefore l k ⊎ (l ≡ k)

-- lower keys, or equal ones with no more truths
pub no_later : (l k : Letter) → l.key ≤ℤ k.key → l.truths ≤ k.truths → NoLater l k
no_later l k h t = elim (before_or_not l.key k.key) [
  | inl b ↦ inl (inl b)
  | inr n ↦ let q : l.key ≡ k.key = omega (arith, ints) in elim (dec_lt l.truths k.truths) [
    | yes b ↦ inl (inr (q, b))
    | no m ↦ let r : l.truths ≡ k.truths = omega arith in inr (λ i. record { key = q i; truths = r i })
  ]
]

-- the first letter of the edge f, which takes k, where e takes k as well, asks the same, and begins before f
module _ (es fs : List MinEdge) (oe : AreOrdered es) (of : AreOrdered fs) (e f : MinEdge) (ie : In e es) (jf : In f fs)
    (k : Letter) (te : takes k (reads_of e) ≡ true) (tf : takes k (reads_of f) ≡ true) (asks : e.asks.0 ≡ f.asks.0) (low : e.range.lo ≤ℤ f.range.lo) where
  own : Letter
  own = own_letter (reads_of f)

  below : f.range.lo ≤ℤ k.key
  below = range_low k.key f.range (taken k f tf).0

  truths_same : f.truths.0 ≡ e.truths.0
  truths_same = sym (taken k f tf).1 ∙ ap (bit_and k.truths) (sym asks) ∙ (taken k e te).1

  pub own_other : edge_for (own_letter (reads_of f)) fs ≡ Some f
  own_other = edge_found (own_letter (reads_of f)) fs of f jf
      (takes_from (own_letter (reads_of f)) f (range_is f.range.lo f.range (omega (arith, ints)) (of.each f jf).keys) (of.each f jf).truths)

  pub own_one : edge_for (own_letter (reads_of f)) es ≡ Some e
  own_one = edge_found (own_letter (reads_of f)) es oe e ie
      (takes_from (own_letter (reads_of f)) e
      (range_is f.range.lo e.range low (let a : k.key ≤ℤ e.range.hi = range_high k.key e.range (taken k e te).0 in let b : f.range.lo ≤ℤ k.key = below in omega (arith, ints)))
      (ap (bit_and f.truths.0) asks ∙ (of.each f jf).truths ∙ truths_same))

  pub own_first : NoLater (own_letter (reads_of f)) k
  own_first = no_later (own_letter (reads_of f)) k below (subst (λ t. t ≤ k.truths) (taken k f tf).1 (and_le_l k.truths f.asks.0))

-- a first letter on which both edges are taken
pub record IsShared (es fs : List MinEdge) (e f : MinEdge) (k : Letter) : Type 0 where
  pub letter : Letter
  pub own : In letter (own_letters es) ⊎ In letter (own_letters fs)
  pub one : edge_for letter es ≡ Some e
  pub other : edge_for letter fs ≡ Some f
  pub first : NoLater letter k

pub shared : (es fs : List MinEdge) → AreOrdered es → AreOrdered fs → StepAlike es fs → (k : Letter) (e f : MinEdge) → edge_for k es ≡ Some e → edge_for k fs ≡ Some f → IsShared es fs e f k
shared es fs oe of s k e f p q =
    let a = edge_from k es e p in
    let b = edge_from k fs f q in
    let asks : e.asks.0 ≡ f.asks.0 = sym (asks_there k.key es oe e a.0 (taken k e a.1).0) ∙ s.asked k.key ∙ asks_there k.key fs of f b.0 (taken k f b.1).0 in
    elim (before_or_not f.range.lo e.range.lo) [
      | inl h ↦ record {
        letter = own_letter (reads_of e);
        own = inl (own_there e es a.0);
        one = own_other fs es of oe f e b.0 a.0 k b.1 a.1 (sym asks) (omega (arith, ints));
        other = own_one fs es of oe f e b.0 a.0 k b.1 a.1 (sym asks) (omega (arith, ints));
        first = own_first fs es of oe f e b.0 a.0 k b.1 a.1 (sym asks) (omega (arith, ints));
      }
      | inr h ↦ record {
        letter = own_letter (reads_of f);
        own = inr (own_there f fs b.0);
        one = own_one es fs oe of e f a.0 b.0 k a.1 b.1 asks h;
        other = own_other es fs oe of e f a.0 b.0 k a.1 b.1 asks h;
        first = own_first es fs oe of e f a.0 b.0 k a.1 b.1 asks h;
      }
    ]
