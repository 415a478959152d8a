-- What the operators build stands for their nodes where the operands stand for theirs.
use Rattle.std.proofs.Common.{ℕ, ◌||◌}
use Rattle.std.specs.Prelude.{Result, Ok, Err, IfOk, IfErr, OnOk}
use Rattle.rl_sets.proofs.OrderLaws.{nat_order}
use Rattle.rl_automata.specs.Auto.{union_auto, cat_auto, star_auto, quiet}
use Rattle.rl_automata.specs.Nodes as N
use Rattle.rl_automata.specs.Nodes.{Node}
use Rattle.rl_automata.proofs.Congruence.{follows_on, both_follows, pair_name, cat_follows, chain_name}
use Rattle.rl_automata.proofs.Congruence1.{quiet_follows, star_follows, set_name}
use Rattle.rl_automata.proofs.MarksLaws.{auto_order}
use Rattle.rl_fsm.specs.Graphs.{Graph, fsm_auto}
use Rattle.rl_fsm.specs.Builds.{Builds, StandsFor}

pub if_ok_to : {T E : Type 0} (P Q : T → Type 0) (r : Result T E) → ((t : T) → P t → Q t) → IfOk r P → IfOk r Q
if_ok_to P Q (Ok t) f h = f t h
if_ok_to P Q (Err e) f h = h

pub if_err_to : {T E : Type 0} (P Q : E → Type 0) (r : Result T E) → ((e : E) → P e → Q e) → IfErr r P → IfErr r Q
if_err_to P Q (Ok t) f h = h
if_err_to P Q (Err e) f h = f e h

pub on_ok_from : {T E : Type 0} (P : T → Type 0) (Q : Type 0) (r : Result T E) → ((t : T) → P t → Q) → IfOk r P → OnOk r Q
on_ok_from P Q (Ok t) f h = f t h
on_ok_from P Q (Err e) f h = h

pub union_stands : (a b r : Graph) → Builds (quiet (union_auto (fsm_auto a) (fsm_auto b))) r → (s t : Node) → StandsFor s a → StandsFor t b → StandsFor (N.Union s t) r
union_stands a b r z s t x y k h =
    let F = (x k.0 h.0).follows in
    let G = (y k.1 h.1).follows in
    record { sound = z.sound; numbered = z.numbered; name = λ i. pair_name F G (z.name i); follows = follows_on z.name (pair_name F G) z.follows (quiet_follows (both_follows F G (λ p q. p || q))) }

pub cat_stands : (a b r : Graph) → Builds (quiet (cat_auto (fsm_auto a) (fsm_auto b))) r → (s t : Node) → StandsFor s a → StandsFor t b → StandsFor (N.Cat s t) r
cat_stands a b r z s t x y k h =
    let F = (x k.0 h.0).follows in
    let G = (y k.1 h.1).follows in
    let o = auto_order t k.1 in
    record { sound = z.sound; numbered = z.numbered; name = λ i. chain_name nat_order o F G (z.name i); follows = follows_on z.name (chain_name nat_order o F G) z.follows (quiet_follows (cat_follows nat_order o F G)) }

pub star_stands : (a : Graph) (base : ℕ) (r : Graph) → Builds (quiet (star_auto (fsm_auto a) base)) r → (s : Node) → StandsFor s a → StandsFor (N.Star s base) r
star_stands a base r z s x k h =
    let F = (x k h).follows in
    let o = auto_order s k in
    record { sound = z.sound; numbered = z.numbered; name = λ i. set_name nat_order o F (z.name i); follows = follows_on z.name (set_name nat_order o F) z.follows (quiet_follows (star_follows nat_order o F base)) }
