-- The elements of an array, and its line.
use Rattle.std.specs.Prelude.{ℕ, List, map}
use Rattle.std.specs.Fmt.{signed_decimal}
use Rattle.rl_arrays.specs.declared.arrays.Arrays.{Arrays}
use Rattle.rl_arrays.specs.declared.arrays.ArrayName.{ArrayName}
use Rattle.rl_arrays.specs.Section as section
use Rattle.rl_cread.specs.Contents.{Content, Numbers, Names}
use Rattle.rl_cdata.specs.declared.elements.Elements.{Elements}
use Rattle.rl_cdata.specs.declared.elements.Elements.TheVariants as the

-- the texts of the elements
abbrev pub texts : Elements → List (List ℕ)
texts (the.Numbers numbers) = map signed_decimal numbers.now
texts (the.Names names) = map section.quoted names.now

-- what they are: numbers or names
abbrev pub shown : Elements → Content
shown (the.Numbers numbers) = Numbers numbers.now
shown (the.Names names) = Names names.now

-- the line of an array
abbrev pub line_of : Arrays → ArrayName → List ℕ
line_of a array = section.array_line a.name array (section.elements a array)
