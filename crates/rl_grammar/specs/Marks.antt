-- A class of states and a kind of embedding, as one token has them.
use Rattle.std.specs.Prelude.{ℕ, ◌||◌, ◌==◌, if◌then◌else◌, List, [], ◌∷◌, ◌++◌, Option, Some, None, codes}
use Rattle.std.specs.Str.{bytes_eq}
use Rattle.rl_grammar.specs.declared.syntax.StateClass.{StateClass}
use Rattle.rl_grammar.specs.declared.syntax.StateClass.TheVariants as class
use Rattle.rl_grammar.specs.declared.syntax.StateKind.{StateKind}
use Rattle.rl_grammar.specs.declared.syntax.StateKind.TheVariants as kind

abbrev pub class_text : StateClass → List ℕ
class_text class.Start = codes ">"
class_text class.NotStart = codes "<"
class_text class.All = codes "$"
class_text class.Final = codes "%"
class_text class.NotFinal = codes "@"
class_text class.Middle = codes "<>"

abbrev pub kind_text : StateKind → List ℕ
kind_text kind.To = codes "~"
kind_text kind.From = codes "*"
kind_text kind.Eof = codes "/"
kind_text kind.Error = codes "!"

abbrev pub mark_text : StateClass → StateKind → List ℕ
mark_text c e = class_text c ++ kind_text e

-- the kind of embedding that a sign or a word names
abbrev pub kind_of : List ℕ → Option StateKind
kind_of text =
    if bytes_eq text (codes "~") || bytes_eq text (codes "to") then Some kind.To
    else if bytes_eq text (codes "*") || bytes_eq text (codes "from") then Some kind.From
    else if bytes_eq text (codes "/") || bytes_eq text (codes "eof") then Some kind.Eof
    else if bytes_eq text (codes "!") || bytes_eq text (codes "err") then Some kind.Error
    else None

abbrev pub with_class : StateClass → Option StateKind → Option (StateClass × StateKind)
with_class c None = None
with_class c (Some e) = Some (c, e)

-- behind a `<`
abbrev pub behind_less : List ℕ → Option (StateClass × StateKind)
behind_less [] = None
behind_less (b ∷ bs) = if b == 62 then with_class class.Middle (kind_of bs) else with_class class.NotStart (kind_of (b ∷ bs))

-- the class and the kind that a text names
abbrev pub mark_of : List ℕ → Option (StateClass × StateKind)
mark_of [] = None
mark_of (b ∷ bs) =
    if b == 60 then behind_less bs
    else if b == 62 then with_class class.Start (kind_of bs)
    else if b == 36 then with_class class.All (kind_of bs)
    else if b == 37 then with_class class.Final (kind_of bs)
    else if b == 64 then with_class class.NotFinal (kind_of bs)
    else None
