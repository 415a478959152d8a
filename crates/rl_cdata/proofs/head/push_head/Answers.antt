use Rattle.std.proofs.Common.{◌≡◌, ℕ, List, ◌++◌, rules}
use Rattle.std.specs.Prelude.{pos, codes}
use Rattle.rl_arrays.specs.Section.{line_text, first_line, number_line, version_word}
use Rattle.rl_cdata.proofs.Pushed.{five}
use Rattle.rl_cdata.proofs.head.push_head.Goals as goal

pub returns : goal.returns
returns c =
    let a = c.args.a.now in
    let first : List ℕ = line_text (first_line (version_word a) a.name) in
    let start : List ℕ = line_text (number_line a.name (codes "start") a.start) in
    let first_final : List ℕ = line_text (number_line a.name (codes "first_final") a.first_final) in
    let error : List ℕ = line_text (number_line a.name (codes "error") (pos 0)) in
    let alphabet : List ℕ = line_text (number_line a.name (codes "alphabet") a.alphabet) in
    let by_first : c.push_first_line.new.text.items ≡ c.args.text.now.items ++ first = search rules in
    let by_start : c.push_number_line.new.text.items ≡ c.push_first_line.new.text.items ++ start = search rules in
    let by_first_final : c.push_number_line-2.new.text.items ≡ c.push_number_line.new.text.items ++ first_final = search rules in
    let by_error : c.push_number_line-3.new.text.items ≡ c.push_number_line-2.new.text.items ++ error = search rules in
    let by_alphabet : c.push_number_line-4.new.text.items ≡ c.push_number_line-3.new.text.items ++ alphabet = search rules in
    five c.args.text.now.items first start first_final error alphabet by_first by_start by_first_final by_error by_alphabet
