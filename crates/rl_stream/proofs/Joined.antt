-- Calls that were hosted, and more behind them.
use Rattle.std.proofs.Common.{◌≡◌, ℕ, ◌<◌, ◌^◌, Bool, true, false, if◌then◌else◌, List, [], ◌∷◌, ◌++◌, map, length, Option, Some, None, refl, sym, ◌∙◌, ap, subst, append_assoc, append-nil}
use Rattle.rl_run.specs.declared.calls.Answer.{Answer}
use Rattle.rl_run.specs.declared.calls.Call.{Call}
use Rattle.rl_run.specs.declared.sessions.Settings.{Settings}
use Rattle.rl_run.specs.Machine.{Machine}
use Rattle.rl_replay.specs.Host.{host}
use Rattle.rl_replay.specs.Lines.{call_line, calls_lines}
use Rattle.rl_sessions.specs.SessionsValue.{started}
use Rattle.rl_sessions.specs.Whole.{HasRun}
use Rattle.rl_stream.specs.Lines.{input_name, calls_in, IsHosted, lines_over}
use Rattle.rl_stream.proofs.Hosted.{lines_of_log}

module _ (m : Machine ℕ) where
  -- calls that were hosted, and more behind them
  pub hosted_more : (past : List Call) (log more : List (Call × Answer)) → IsHosted m past log → IsHosted m (past ++ calls_in log) more → IsHosted m past (log ++ more)
  hosted_more past [] more h k = subst (λ p. IsHosted m p more) (append-nil past) k
  hosted_more past (y ∷ log) more h k =
      (h.0, hosted_more (past ++ y.0 ∷ []) log more h.1 (subst (λ p. IsHosted m p more) (sym (append_assoc past (y.0 ∷ []) (calls_in log))) k))

  -- their lines
  pub lines_more : (past xs ys : List Call) →
      calls_lines m input_name (host m []) past (xs ++ ys) ≡ calls_lines m input_name (host m []) past xs ++ calls_lines m input_name (host m []) (past ++ xs) ys
  lines_more past [] ys = ap (λ p. calls_lines m input_name (host m []) p ys) (sym (append-nil past))
  lines_more past (x ∷ xs) ys =
      ap (λ t. call_line m input_name x (host m [] (past ++ x ∷ [])) ++ t)
      (lines_more (past ++ x ∷ []) xs ys
      ∙ ap (λ p. calls_lines m input_name (host m []) (past ++ x ∷ []) xs ++ calls_lines m input_name (host m []) p ys) (append_assoc past (x ∷ []) xs))
      ∙ sym (append_assoc (call_line m input_name x (host m [] (past ++ x ∷ []))) (calls_lines m input_name (host m []) (past ++ x ∷ []) xs)
      (calls_lines m input_name (host m []) (past ++ x ∷ xs) ys))

-- no line is made before a byte is read
pub nothing_yet : (m : Machine ℕ) (settings : Settings) (entry : ℕ) (name : List ℕ) →
    HasRun m settings entry [] [] (started name (m.entry entry)) → lines_over m settings entry [] false ≡ []
nothing_yet m settings entry name has = lines_of_log m settings entry [] [] (started name (m.entry entry)) has tt
