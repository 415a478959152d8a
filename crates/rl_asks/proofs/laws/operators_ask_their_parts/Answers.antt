use Rattle.std.proofs.Common.{◌||◌}
use Rattle.rl_automata.specs.Marks.{auto}
use Rattle.rl_asks.proofs.Asking.{asks_where_it_steps, both_same, cat_same, star_same, scan_same}
use Rattle.rl_asks.proofs.laws.operators_ask_their_parts.Goals as goal

pub returns-clause-expressions : goal.returns-clause-expressions
returns-clause-expressions c = asks_where_it_steps

pub returns-clause-union : goal.returns-clause-union
returns-clause-union c a b k h = both_same (auto a k) (auto b h) (asks_where_it_steps a k) (asks_where_it_steps b h) (λ p q. p || q)

pub returns-clause-concatenation : goal.returns-clause-concatenation
returns-clause-concatenation c a b k h = cat_same (auto a k) (auto b h) (asks_where_it_steps a k) (asks_where_it_steps b h)

pub returns-clause-repetition : goal.returns-clause-repetition
returns-clause-repetition c a k base = star_same (auto a k) (asks_where_it_steps a k) base

pub returns-clause-scanners : goal.returns-clause-scanners
returns-clause-scanners c = scan_same
