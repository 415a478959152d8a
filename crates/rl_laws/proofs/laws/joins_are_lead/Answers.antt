use Rattle.rl_laws.proofs.Joins.{joins_lead}
use Rattle.rl_laws.proofs.Tables.{carry_tables, scanners_carry_tables}
use Rattle.rl_laws.proofs.Stamps.{stamps_tell}
use Rattle.rl_laws.proofs.laws.joins_are_lead.Goals as goal

pub returns-clause-stamps : goal.returns-clause-stamps
returns-clause-stamps c = stamps_tell

pub returns-clause-tables : goal.returns-clause-tables
returns-clause-tables c = carry_tables

pub returns-clause-scanners : goal.returns-clause-scanners
returns-clause-scanners c = scanners_carry_tables

pub returns-clause-joins : goal.returns-clause-joins
returns-clause-joins c = joins_lead
