use Rattle.std.proofs.Common.{◌≡◌, cond, ap, sym, ◌∙◌}
use Rattle.rl_reach.specs.Places.{with_place}
use Rattle.rl_reach.specs.Walks.{is_in_half}
use Rattle.rl_reach.proofs.PlaceLaws.{half_more}
use Rattle.rl_reach.proofs.numbered.add_those.Goals as goal
use Rattle.rl_reach.proofs.numbered.add_those.Goals.{then-is_in_half+in_ok-add_place, else-is_in_half}

pub loop-i-preserved : goal.loop-i-preserved
loop-i-preserved c =
    let test = is_in_half c.args.root.now c.args.fin in
    let found = c.loop-i.places.keys in
    let p = c.place_at-place.result in
    let next : c.if-is_in_half.places.keys ≡ cond (test p) (with_place found p) found = elim c.if-is_in_half.branch [
      | then-is_in_half+in_ok-add_place w ↦ rw w.places-is (w.in_ok-add_place.ensures ∙ ap (λ b. cond b (with_place found p) found) (sym w.if-is_in_half.true ∙ c.is_in_half.ensures))
      | else-is_in_half w ↦ rw w.places-is (ap (λ b. cond b (with_place found p) found) (sym w.if-is_in_half.false ∙ c.is_in_half.ensures))
    ] in
    c.loop-i.invariant ∙ half_more test c.args.met.now.keys found c.if-is_in_half.places.keys c.loop-i.i p c.place_at-place.ensures next
