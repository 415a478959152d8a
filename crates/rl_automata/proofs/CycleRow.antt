-- A cycle of priorities that a word leads to.
use Rattle.std.proofs.Common.{[], refl, pos, unwrap_or}
use Rattle.rl_types.specs.declared.numbers.Letter.{Letter}
use Rattle.rl_automata.specs.declared.moves.Move.{Move}
use Rattle.rl_automata.specs.Auto.{Auto}
use Rattle.rl_automata.specs.Follows.{begun, went}
use Rattle.rl_automata.specs.Sites.{SiteConf, site_auto}
use Rattle.rl_automata.specs.Rows.{circled, ThreeBeatEachOther}

abbrev machine : Auto (SiteConf circled)
machine = site_auto circled

abbrev k : Letter
k = record { key = pos 107; truths = 0 }

abbrev move_from : SiteConf circled → Move (SiteConf circled)
move_from c = unwrap_or (machine.step c k) (record { to = c; carry = record { actions = []; table = [] } })

abbrev one : Move (SiteConf circled)
one = move_from machine.start

abbrev two : Move (SiteConf circled)
two = move_from one.to

pub circle : ThreeBeatEachOther
circle = (two.to, went (went begun k one refl) k two refl, record { key = pos 97; truths = 0 }, refl)
