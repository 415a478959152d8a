use Rattle.rl_compile.proofs.printed.printed_whole.Goals as goal

pub returns : goal.returns
returns c =
    let e = c.in_ok-check_sections.ensures in
    record { hosts = e.hosts; sound = e.machines; within = e.within; is = c.in_ok-printed.ensures }
