use Rattle.rl_rows.proofs.PlainRows.{two_bytes_each, cut_within, half_at_end, upper_half_below_zero}
use Rattle.rl_rows.proofs.rows.wide_characters_are_written.Goals as goal

pub returns-clause-two_bytes_each : goal.returns-clause-two_bytes_each
returns-clause-two_bytes_each c = two_bytes_each

pub returns-clause-cut_within : goal.returns-clause-cut_within
returns-clause-cut_within c = cut_within

pub returns-clause-half_at_end : goal.returns-clause-half_at_end
returns-clause-half_at_end c = half_at_end

pub returns-clause-upper_half_below_zero : goal.returns-clause-upper_half_below_zero
returns-clause-upper_half_below_zero c = upper_half_below_zero
