-- Each operator keeps names.
use Rattle.std.proofs.Common.{Bool, ◌&&◌, ◌||◌, not, Option}
use Rattle.rl_automata.specs.Auto.{Auto, both_auto, pruned}
use Rattle.rl_automata.specs.Follows.{Follows}
use Rattle.rl_automata.specs.Nodes.{carry_of, TellsLive}
use Rattle.rl_automata.specs.Laws.{UnionKeepsNames, AndKeepsNames, MinusKeepsNames, CatKeepsNames, StarKeepsNames, EnterKeepsNames, FinishKeepsNames, AllKeepsNames, LeaveKeepsNames, MarkKeepsNames, WhenKeepsNames}
use Rattle.rl_automata.proofs.Congruence.{both_follows, pair_name, cat_follows, chain_name, reach_along}
use Rattle.rl_automata.proofs.Congruence1.{quiet_follows, pruned_follows, star_follows, set_name, enter_follows, finish_follows, every_follows, leave_follows, mark_follows, when_follows}
use Rattle.rl_automata.proofs.PruneLaws.{told_same}
use Rattle.rl_automata.proofs.MarksLaws.{auto_order}

-- two sides, each pruned by a test that tells the truth
pub pruned_both : {S T S' T' : Type 0} {A : Auto S} {B : Auto T} {A' : Auto S'} {B' : Auto T'} {f : S → S'} {g : T → T'} (F : Follows A A' f) (G : Follows B B' g) (test : Bool → Bool → Bool) (mark : Option S × Option T → Bool) (live : Option S' × Option T' → Bool)
    → TellsLive (both_auto A B test) mark → TellsLive (both_auto A' B' test) live → Follows (pruned mark (both_auto A B test)) (pruned live (both_auto A' B' test)) (pair_name F G)
pruned_both F G test mark live x y =
    let H = both_follows F G test in
    pruned_follows H mark live (told_same H mark live x y (reach_along H))

pub union_keeps : UnionKeepsNames
union_keeps a b k h A B x y = (pair_name x.1 y.1, quiet_follows (both_follows x.1 y.1 (λ p q. p || q)))

pub and_keeps : AndKeepsNames
and_keeps a b k h live A B mark x y z w = (pair_name x.1 y.1, pruned_both x.1 y.1 (λ p q. p && q) mark live z w)

pub minus_keeps : MinusKeepsNames
minus_keeps a b k h live A B mark x y z w = (pair_name x.1 y.1, pruned_both x.1 y.1 (λ p q. p && not q) mark live z w)

pub cat_keeps : CatKeepsNames
cat_keeps a b k h A B o x y = (chain_name o (auto_order b h) x.1 y.1, quiet_follows (cat_follows o (auto_order b h) x.1 y.1))

pub star_keeps : StarKeepsNames
star_keeps a k base A o x = (set_name o (auto_order a k) x.1, quiet_follows (star_follows o (auto_order a k) x.1 base))

pub enter_keeps : EnterKeepsNames
enter_keeps a k label A o x = (x.0, enter_follows o (auto_order a k) x.1 (carry_of label))

pub finish_keeps : FinishKeepsNames
finish_keeps a k label A x = (x.0, finish_follows x.1 (carry_of label))

pub every_keeps : AllKeepsNames
every_keeps a k label A x = (x.0, every_follows x.1 (carry_of label))

pub leave_keeps : LeaveKeepsNames
leave_keeps a k label A x = (x.0, leave_follows x.1 (carry_of label))

pub mark_keeps : MarkKeepsNames
mark_keeps a k class kind stamp action A o x = (x.0, mark_follows o (auto_order a k) x.1 class kind (record { major = stamp; minor = 0; action = record { 0 = action } }))

pub when_keeps : WhenKeepsNames
when_keeps a k condition A x = (x.0, when_follows x.1 condition)
