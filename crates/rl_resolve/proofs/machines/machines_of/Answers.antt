use Rattle.std.proofs.Common.{◌≡◌}
use Rattle.std.specs.Prelude.{reverse}
use Rattle.rl_resolve.proofs.MachineLaws.{all_in_order}
use Rattle.rl_resolve.proofs.machines.machines_of.Goals as goal

pub returns : goal.returns
returns c =
    let specs_is = c.in_ok-specs.specs-is in
    let passed_is = c.in_ok-specs.passed-is in
    let specs_reversed = c.in_ok-specs-2.ensures in
    let passed_reversed = c.in_ok-passed.ensures in
    let specs : c.in_ok-specs-2.specs ≡ reverse c.in_ok-specs.field-0.specs = cc in
    let passed : c.in_ok-passed.passed ≡ reverse c.in_ok-specs.field-0.passed = cc in
    all_in_order c.args.files.now c.args.drafts c.in_ok-specs.field-0 _ c.in_ok-specs.ensures specs passed
