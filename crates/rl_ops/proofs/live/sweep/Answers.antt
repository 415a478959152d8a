use Rattle.std.proofs.Common.{◌≡◌, ◌<◌, ◌≤◌, ◌+◌, ◌-◌, ◌∙◌, ◌||◌, Bool, true, false, ap, sym, subst, arith, length}
use Rattle.rl_ops.specs.Live.{Sweeps}
use Rattle.rl_ops.proofs.LiveLaws.{sweeps_none, sweeps_more}
use Rattle.rl_ops.proofs.live.sweep.Goals as goal

pub states-init : goal.states-init
states-init c = record {
  within = let e : c.states-i.result ≡ length c.args.m.now.states = c.states-i.ensures.count in let f : length c.args.live.now.items ≡ length c.args.m.now.states = c.requires in omega arith;
  swept = sweeps_none c.args.m.now c.states-i.ensures.sound c.args.live.now.items c.states-i.result (c.requires ∙ sym c.states-i.ensures.count);
}

first_of : (a b : Bool) → a ≡ true → (a || b) ≡ a
first_of a b e = ap (λ w. w || b) e ∙ sym e

second_of : (a b : Bool) → a ≡ false → (a || b) ≡ b
second_of a b e = ap (λ w. w || b) e

pub states-preserved-then-changed : goal.states-preserved-then-changed
states-preserved-then-changed c =
    let b : c.states.i - 1 < length c.states.live.items = let w : c.states.i ≤ length c.states.live.items = c.states.invariant.within in let t = c.states-test.true in omega arith in
    let same : c.states.i ≡ c.states.i - 1 + 1 = let t = c.states-test.true in omega arith in
    let s = sweeps_more c.args.m.now c.states-i.ensures.sound c.args.live.now.items c.states.live.items c.visit-here.new.live.items (c.states.i - 1) c.states.changed c.visit-here.result b
    (subst (λ n. Sweeps c.args.m.now c.args.live.now.items c.states.live.items n c.states.changed) same c.states.invariant.swept) c.visit-here.ensures in
    let e : length c.visit-here.new.live.items ≡ length c.args.live.now.items = s.same_length in
    let f : length c.states.live.items ≡ length c.args.live.now.items = c.states.invariant.swept.same_length in
    record {
      within = omega arith;
      swept = subst (λ w. Sweeps c.args.m.now c.args.live.now.items c.visit-here.new.live.items (c.states.i - 1) w) (first_of c.states.changed c.visit-here.result c.if-changed.true) s;
    }

pub states-preserved : goal.states-preserved
states-preserved c =
    let b : c.states.i - 1 < length c.states.live.items = let w : c.states.i ≤ length c.states.live.items = c.states.invariant.within in let t = c.states-test.true in omega arith in
    let same : c.states.i ≡ c.states.i - 1 + 1 = let t = c.states-test.true in omega arith in
    let s = sweeps_more c.args.m.now c.states-i.ensures.sound c.args.live.now.items c.states.live.items c.visit-here.new.live.items (c.states.i - 1) c.states.changed c.visit-here.result b
    (subst (λ n. Sweeps c.args.m.now c.args.live.now.items c.states.live.items n c.states.changed) same c.states.invariant.swept) c.visit-here.ensures in
    let e : length c.visit-here.new.live.items ≡ length c.args.live.now.items = s.same_length in
    let f : length c.states.live.items ≡ length c.args.live.now.items = c.states.invariant.swept.same_length in
    record {
      within = omega arith;
      swept = subst (λ w. Sweeps c.args.m.now c.args.live.now.items c.visit-here.new.live.items (c.states.i - 1) w) (second_of c.states.changed c.visit-here.result c.if-changed.false) s;
    }
