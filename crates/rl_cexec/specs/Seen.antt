-- The lines that the code has, as the lines of the texts.
use Rattle.rl_cexec.specs.declared.line.Line as rust
use Rattle.rl_cexec.specs.declared.line.Line.TheVariants as the
use Rattle.rl_cexec.specs.Lines.{Line, Always, IfCalls, IfScanner, IfEnding, EachCondition, Cases}

abbrev pub seen : rust.Line → Line
seen (the.Always text) = Always text.now
seen (the.IfCalls text) = IfCalls text.now
seen (the.IfScanner text) = IfScanner text.now
seen (the.IfEnding text) = IfEnding text.now
seen the.EachCondition = EachCondition
seen (the.Cases switch) = Cases switch
