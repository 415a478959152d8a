-- What a command line gives for each option and word of `ragel-run`.
use Rattle.std.specs.Prelude.{List, Option}
use Rattle.std.specs.Prelude.{codes}
use Rattle.clap.specs.Words.{Row, Text, first_of}

pub record Given : Type 0 where
  pub machine : Option Text
  pub stack : Option Text
  pub look : Option Text
  pub token : Option Text
  pub input : Option Text
  pub make : Option Text
  pub upgrade : Option Text
  pub spec : Option Text
  pub script : Option Text

-- the values that were matched
abbrev pub given_in : List Row → Given
given_in rows = record {
  machine = first_of (codes "machine") rows;
  stack = first_of (codes "stack") rows;
  look = first_of (codes "look") rows;
  token = first_of (codes "token") rows;
  input = first_of (codes "input") rows;
  make = first_of (codes "make") rows;
  upgrade = first_of (codes "upgrade") rows;
  spec = first_of (codes "spec") rows;
  script = first_of (codes "script") rows;
}
