use Rattle.std.proofs.Common.{◌≡◌, rules}
use Rattle.rl_arrays.specs.Section.{section}
use Rattle.rl_cdata.proofs.ReadLaws.{read_back}
use Rattle.rl_cdata.proofs.section.section_text.Goals as goal

pub returns-clause-read : goal.returns-clause-read
returns-clause-read c =
    let a = c.args.a.now in
    let is : c.push_section.new.text.items ≡ section a = search rules in
    read_back a c.push_section.new.text.items c.requires.valid c.requires.numbers is
