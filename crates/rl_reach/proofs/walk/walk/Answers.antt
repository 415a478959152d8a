use Rattle.std.proofs.Common.{◌≡◌, ◌<◌, ◌≤◌, length, take, ap, ◌∙◌, arith}
use Rattle.rl_fsm.specs.Roots.{states_in}
use Rattle.rl_explore.proofs.NumberLaws.{extends_length, get_below}
use Rattle.rl_reach.specs.Places.{with_places}
use Rattle.rl_reach.specs.Walks.{targets_of}
use Rattle.rl_reach.proofs.PlaceLaws.{places_extend}
use Rattle.rl_reach.proofs.WalkLaws.{walk_first, walk_more, walk_last}
use Rattle.rl_reach.proofs.FewLaws.{walk_few}
use Rattle.rl_reach.proofs.walk.walk.Goals as goal

pub places-init : goal.places-init
places-init c = record {
  walk = walk_first c.args.root.now c.requires.sound c.args.starts.now c.add_places.new.places.keys c.requires.starts (c.in_ok-add_places.ensures ∙ ap (λ k. with_places k c.args.starts.now) c.new-met.ensures.empty);
  within = omega arith;
}

pub places-preserved : goal.places-preserved
places-preserved c =
    let root = c.args.root.now in
    let met = c.places.met.keys in
    let next = c.add_targets.new.met.keys in
    let p = c.place_at-place.result in
    let e : next ≡ with_places met (targets_of root p) = c.in_ok-add_targets.ensures in
    let x = places_extend (targets_of root p) met in
    let more : length met ≤ length next = extends_length met next (x.0, e ∙ x.1) in
    let below : c.places.i < length met = get_below met c.places.i p c.place_at-place.ensures in
    record {
      walk = walk_more root c.requires.sound met next c.places.i p c.places.invariant.walk c.place_at-place.ensures e;
      within = omega arith;
    }

pub places-smaller : goal.places-smaller
places-smaller c =
    let met = c.places.met.keys in
    let below : c.places.i < length met = get_below met c.places.i c.place_at-place.result c.place_at-place.ensures in
    let few : length met ≤ states_in c.args.root.now = walk_few c.args.root.now c.requires.sound (take c.places.i met) met c.places.invariant.walk in
    let most : states_in c.args.root.now ≤ 2147483646 = c.requires.sound.few in
    omega arith

pub returns : goal.returns
returns c = let t = c.places-test.false in let l = c.len.ensures.len in walk_last c.args.root.now c.requires.sound c.places.met.keys c.places.i c.places.invariant.walk (omega arith)
