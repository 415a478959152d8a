-- The settings of a replay.
use Rattle.rl_run.specs.declared.sessions.Settings.{Settings}

-- a stack of 64 entries, 8 characters to go back by, tokens of at most 65,536 characters
abbrev pub default_settings : Settings
default_settings = record { stack = 64; look = 8; token_max = 65536 }
