-- A replay that stands before the first line.
use Rattle.std.proofs.Common.{◌≡◌, ◌<◌, ◌^◌, false, List, [], length, None, refl, sym, subst}
use Rattle.rl_run.specs.declared.sessions.Settings.{Settings}
use Rattle.rl_arrays.specs.declared.arrays.Arrays.{Arrays}
use Rattle.rl_arrays.specs.Valid.{Valid}
use Rattle.rl_replay.specs.declared.script.Line.{Line}
use Rattle.rl_replay.specs.Sessions.{fed, first_fault}
use Rattle.rl_script.specs.TableNames.{names_in}
use Rattle.rl_sessions.specs.SessionsValue.{SessionsValue}
use Rattle.rl_playback.specs.declared.log.Log.{Log}
use Rattle.rl_playback.specs.Books.{AreAnswersOf, HasNoCalls}
use Rattle.rl_playback.specs.Log.{tables_of}
use Rattle.rl_playback.specs.Stands.{Stands}

pub stands_before : (settings : Settings) (script : List Line) (a : Arrays) (log : Log) (sessions : SessionsValue) → Valid a → first_fault (names_in a) script ≡ None → length (fed script) < 2 ^ 63 →
    tables_of log ≡ a → sessions ≡ record { tables = a; settings = settings; all = [] } → log.is_full ≡ false → log.text.items ≡ [] →
    AreAnswersOf script log.books → HasNoCalls log.books → Stands settings script [] a log sessions
stands_before settings script a log sessions valid admitted small tables empty room no_text answers calls =
    let P : SessionsValue → Type 0 = λ v. Stands settings script [] a log v in
    subst P (sym empty) (record {
      valid = valid;
      admitted = admitted;
      small = small;
      tables = tables;
      machine_tables = refl;
      bounds = refl;
      room = room;
      names = refl;
      distinct = tt;
      each = λ s. record {
        opened = refl;
        fed = refl;
        ended = refl;
        counts = record {
          picks = λ name n. answers.picks (s, name) n;
          says = λ name n. answers.says (s, name) n;
          pick_counts = λ name. calls.picks (s, name);
          ask_counts = λ name. calls.asks (s, name);
        };
      };
      text = no_text;
    })
