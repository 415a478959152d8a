use Rattle.std.proofs.Common.{◌≡◌, ◌++◌, rules}
use Rattle.std.specs.Prelude.{codes}
use Rattle.std.specs.Fmt.{signed_decimal}
use Rattle.rl_arrays.specs.Section.{number_front}
use Rattle.rl_cdata.proofs.Pushed.{line_done}
use Rattle.rl_cdata.proofs.head.push_number_line.Goals as goal

pub returns : goal.returns
returns c =
    let a = c.args in
    let back : c.push_number_back.new.text.items ≡ c.push_number_front.new.text.items ++ (signed_decimal a.number ++ codes ";\n") = search rules in
    line_done a.text.now.items (number_front a.name.now a.label.now) (signed_decimal a.number) c.in_ok-push_number_front.ensures back
