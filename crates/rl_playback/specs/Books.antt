-- Books of the answers that a script gives, and of the calls that were made.
use Rattle.std.specs.Prelude.{◌≡◌, ℕ, ◌+◌, Bool, ◌&&◌, ◌==◌, if◌then◌else◌, List, map, Option, None, unwrap_or, option_map}
use Rattle.std.specs.Bool.{then_some}
use Rattle.std.specs.Map.{lookup}
use Rattle.std.specs.Option.{option_or}
use Rattle.std.specs.Str.{bytes_eq}
use Rattle.indexmap.specs.IndexMap.{IndexMap}
use Rattle.rl_run.specs.declared.calls.Answer.{Answer}
use Rattle.rl_replay.specs.declared.script.Event.{Event}
use Rattle.rl_replay.specs.declared.script.Event.TheVariants.{Pick, Say}
use Rattle.rl_replay.specs.declared.script.Line.{Line}
use Rattle.rl_replay.specs.Host.{given_picks, given_answer, pick_of, picks_answer, yes_no}
use Rattle.rl_replay.specs.Sessions.{only}
use Rattle.rl_playback.specs.declared.books.Book.{Book}
use Rattle.rl_playback.specs.declared.books.Books.{Books}
use denote.Ref.{Bor}

abbrev pub Text : Type 0
Text = Bor (List ℕ)

-- a session's name, and the name of an action or of a condition
abbrev pub Named : Type 0
Named = List ℕ × List ℕ

abbrev pub named : Text × Text → Named
named p = (p.0.now, p.1.now)

abbrev pub same : Named → Named → Bool
same p q = bytes_eq p.0 q.0 && bytes_eq p.1 q.1

-- how often a name was called in a session
abbrev pub count_in : {S : Type 0} → Named → IndexMap (Text × Text) ℕ S → ℕ
count_in p table = unwrap_or (lookup (λ k. same p (named k)) table.entries) 0

-- the answer that stands for the n-th call of a name in a session
abbrev pub answer_in : {S : Type 0} → Named → ℕ → IndexMap ((Text × Text) × ℕ) Answer S → Option Answer
answer_in p n table = lookup (λ k. same p (named k.0) && n == k.1) table.entries

-- the answer that stands for the next call of a name
abbrev pub next_in : Named → Book → Option Answer
next_in p book = answer_in p (count_in p book.counts + 1) book.answers

-- the next call of a name takes this answer, and is counted
pub record TakesNext (old new : Book) (p : Named) (answer : Option Answer) : Type 0 where
  pub gives : answer ≡ next_in p old
  pub counts : (q : Named) → count_in q new.counts ≡ (if same q p then count_in p old.counts + 1 else count_in q old.counts)
  pub answers : new.answers ≡ old.answers

-- the answer that a line gives to the n-th call of a name in a session
abbrev pub pick_by : Named → ℕ → Event → Option Answer
pick_by p n (Pick s action k list) = then_some (same p (s, action) && n == k) (picks_answer (map (λ x. pick_of x.0 x.1) list))
pick_by p n _ = None

abbrev pub say_by : Named → ℕ → Event → Option Answer
say_by p n (Say s condition k holds) = then_some (same p (s, condition) && n == k) (yes_no holds)
say_by p n _ = None

-- a line's answer is added behind those that stand
pub record AddsLine (old new : Books) (line : Line) : Type 0 where
  pub picks : (p : Named) (n : ℕ) → answer_in p n new.picks.answers ≡ option_or (answer_in p n old.picks.answers) (pick_by p n line.event)
  pub says : (p : Named) (n : ℕ) → answer_in p n new.asks.answers ≡ option_or (answer_in p n old.asks.answers) (say_by p n line.event)
  pub pick_counts : new.picks.counts ≡ old.picks.counts
  pub ask_counts : new.asks.counts ≡ old.asks.counts

-- the books have the answers that lines give, those of each session by themselves
pub record AreAnswersOf (lines : List Line) (books : Books) : Type 0 where
  pub picks : (p : Named) (n : ℕ) → answer_in p n books.picks.answers ≡ option_map picks_answer (given_picks (only p.0 lines) p.1 n)
  pub says : (p : Named) (n : ℕ) → answer_in p n books.asks.answers ≡ option_map yes_no (given_answer (only p.0 lines) p.1 n)

-- no call was counted yet
pub record HasNoCalls (books : Books) : Type 0 where
  pub picks : (p : Named) → count_in p books.picks.counts ≡ 0
  pub asks : (p : Named) → count_in p books.asks.counts ≡ 0
