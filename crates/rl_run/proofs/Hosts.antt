-- Hosts that answer related calls alike make related runs.
use Rattle.std.proofs.Common.{◌≡◌, List, [], ◌∷◌, ◌++◌, sym, subst}
use Rattle.std.specs.List.{AllZip}
use Rattle.rl_run.specs.declared.calls.Answer.{Answer}
use Rattle.rl_run.specs.declared.calls.Call.{Call}
use Rattle.rl_run.specs.Play.{Play, done, ask}
use Rattle.rl_run.specs.Hosted.{hosted}
use Rattle.rl_run.proofs.Twins.{PlayR}

module _ {A B : Type 0} (Q : Call → Call → Type 0) (P : A → B → Type 0) (h k : List Call → Answer) (same : (cs ds : List Call) → AllZip Q cs ds → k ds ≡ h cs) where
  longer : (cs ds : List Call) (c d : Call) → AllZip Q cs ds → Q c d → AllZip Q (cs ++ c ∷ []) (ds ++ d ∷ [])
  longer [] [] c d z q = (q, tt)
  longer [] (y ∷ ys) c d z q = elim z [ ]
  longer (x ∷ xs) [] c d z q = elim z [ ]
  longer (x ∷ xs) (y ∷ ys) c d z q = (z.0, longer xs ys c d z.1 q)

  pub hosted_alike : (p : Play A) (q : Play B) (cs ds : List Call) → AllZip Q cs ds → PlayR Q P p q → AllZip Q (hosted h cs p).0 (hosted k ds q).0 × P (hosted h cs p).1 (hosted k ds q).1
  hosted_alike (done a) (done b) cs ds z r = (z, r)
  hosted_alike (ask c f) (ask d g) cs ds z r =
      let more = longer cs ds c d z r.0 in
      subst (λ x. AllZip Q (hosted h (cs ++ c ∷ []) (f (h (cs ++ c ∷ [])))).0 (hosted k (ds ++ d ∷ []) (g x)).0 × P (hosted h (cs ++ c ∷ []) (f (h (cs ++ c ∷ [])))).1 (hosted k (ds ++ d ∷ []) (g x)).1)
      (sym (same (cs ++ c ∷ []) (ds ++ d ∷ []) more))
      (hosted_alike (f (h (cs ++ c ∷ []))) (g (h (cs ++ c ∷ []))) (cs ++ c ∷ []) (ds ++ d ∷ []) more (r.1 (h (cs ++ c ∷ []))))
  hosted_alike (done a) (ask d g) cs ds z r = elim r [ ]
  hosted_alike (ask c f) (done b) cs ds z r = elim r [ ]
