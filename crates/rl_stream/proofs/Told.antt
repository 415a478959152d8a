-- What a chain of logged calls adds to the log.
use Rattle.std.proofs.Common.{◌≡◌, ℕ, false, List, [], ◌∷◌, ◌++◌, map, refl, sym, ◌∙◌, ap, subst, append_assoc, append-nil}
use Rattle.rl_run.specs.declared.calls.Answer.{Answer}
use Rattle.rl_run.specs.declared.calls.Call.{Call}
use Rattle.rl_run.specs.Chain.{Chain}
use Rattle.rl_arrays.specs.declared.arrays.Arrays.{Arrays}
use Rattle.rl_arrays.specs.TableMachine.{machine}
use Rattle.rl_replay.specs.Host.{host}
use Rattle.rl_replay.specs.Lines.{call_line, calls_lines}
use Rattle.rl_stream.specs.declared.log.Log.{Log}
use Rattle.rl_stream.specs.Lines.{input_name, calls_in, IsHosted}
use Rattle.rl_stream.specs.Log.{Logs, LogsCall, tables_of}

module _ (a : Arrays) where
  -- behind calls past: the calls were hosted, and their lines stand at the end
  pub record Told (past : List Call) (first last : Log) (log : List (Call × Answer)) : Type 0 where
    pub hosted : IsHosted (machine a) past log
    pub tables : tables_of last ≡ a
    pub text : last.text.items ≡ first.text.items ++ calls_lines (machine a) input_name (host (machine a) []) past (calls_in log)

  -- there was room before the last call
  room_before : (first last : Log) (log : List (Call × Answer)) → Chain LogsCall first log last → last.is_full ≡ false → first.is_full ≡ false
  room_before first last [] e room = ap (λ (l : Log). l.is_full) e ∙ room
  room_before first last (y ∷ log) (mid, logs, chain) room = (logs (room_before mid last log chain room)).room

  pub told : (past : List Call) (first last : Log) (log : List (Call × Answer)) → Chain LogsCall first log last → last.is_full ≡ false → tables_of first ≡ a →
      Told past first last log
  told past first last [] e room at = record {
    hosted = tt;
    tables = sym (ap tables_of e) ∙ at;
    text = sym (append-nil _ ∙ ap (λ (l : Log). l.text.items) e);
  }
  told past first last (y ∷ log) (mid, logs, chain) room at =
      let l = logs (room_before mid last log chain room) in
      let by : y.1 ≡ host (machine a) [] (past ++ y.0 ∷ []) =
      subst (λ (b : Arrays). y.1 ≡ host (machine b) [] (past ++ y.0 ∷ [])) at (l.gives past) in
      let r = told (past ++ y.0 ∷ []) mid last log chain room (l.tables ∙ at) in
      let here : mid.text.items ≡ first.text.items ++ call_line (machine a) input_name y.0 y.1 =
      subst (λ (b : Arrays). mid.text.items ≡ first.text.items ++ call_line (machine b) input_name y.0 y.1) at l.text in
      let line : mid.text.items ≡ first.text.items ++ call_line (machine a) input_name y.0 (host (machine a) [] (past ++ y.0 ∷ [])) =
      subst (λ z. mid.text.items ≡ first.text.items ++ call_line (machine a) input_name y.0 z) by here in
      record {
        hosted = (by, r.hosted);
        tables = r.tables;
        text = r.text
            ∙ ap (λ t. t ++ calls_lines (machine a) input_name (host (machine a) []) (past ++ y.0 ∷ []) (calls_in log)) line
            ∙ append_assoc first.text.items (call_line (machine a) input_name y.0 (host (machine a) [] (past ++ y.0 ∷ [])))
            (calls_lines (machine a) input_name (host (machine a) []) (past ++ y.0 ∷ []) (calls_in log));
      }
