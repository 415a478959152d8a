use Rattle.std.proofs.Common.{◌≡◌, ◌++◌, rules}
use Rattle.std.specs.Prelude.{map}
use Rattle.rl_arrays.specs.Sizes.{shares}
use Rattle.rl_arrays.specs.Section.{line_text, head_lines, entry_line, entries, printed, last_line, section_lines}
use Rattle.rl_cdata.specs.Texts.{line_of}
use Rattle.rl_cdata.proofs.Pushed.{all_parts}
use Rattle.rl_cdata.proofs.section.push_section.Goals as goal

pub returns : goal.returns
unfolding section_lines
returns c =
    let a = c.args.a.now in
    let last : c.push_last_line.new.text.items ≡ c.push_arrays.new.text.items ++ line_text (last_line a.name) = search rules in
    all_parts line_text c.args.text.now.items (head_lines a) (map (entry_line a.name) (entries a)) (map (line_of a) (printed (shares a))) (last_line a.name)
    c.in_ok-push_head.ensures c.in_ok-push_entries.ensures c.in_ok-push_arrays.ensures last
