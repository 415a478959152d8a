-- What an answer may do to a session.
use Rattle.std.proofs.Common.{◌≡◌, ℕ, ◌+◌, ◌-◌, ◌^◌, ◌<◌, ◌≤◌, Bool, true, false, cond, ℤ, pos, negsuc, List, [], ◌∷◌, Option, Some, None, refl, ◌∙◌, arith, nat_lt, nat_le, int_lt, unsigned_abs, length}
use Rattle.std.proofs.lemmas.Bool.Decides.{nat_tests}
use Rattle.rl_run.specs.declared.calls.Pick.{Pick}
use Rattle.rl_run.specs.declared.sessions.Settings.{Settings}
use Rattle.rl_run.specs.declared.sessions.Flow.TheVariants.{Goes, Jumps, Breaks, Stops}
use Rattle.rl_run.specs.declared.calls.Stop.TheVariants.{Stuck, StackEmpty, Stray}
use Rattle.rl_run.specs.declared.calls.Stop.{Stop as StopCause}
use Rattle.rl_run.specs.declared.sessions.Flow.{Flow}
use Rattle.rl_run.specs.declared.statements.Statement.{Statement}
use Rattle.rl_run.specs.declared.statements.StatementKind.{StatementKind}
use Rattle.rl_run.specs.declared.statements.StatementKind.TheVariants.{Hold, Exec, Goto, Call, Ret, Next, Break}
use Rattle.rl_run.specs.declared.calls.Answer.{Answer}
use Rattle.rl_run.specs.declared.calls.Answer.TheVariants.{Yes, No, Picks, Stop}
use Rattle.rl_run.specs.declared.calls.CallKind.{CallKind}
use Rattle.rl_run.specs.Machine.{Machine, Session}
use Rattle.std.specs.List.{AllByRecursion}
use Rattle.rl_run.specs.Fine.{IsKinded}
use Rattle.rl_run.specs.Turn.{calls}
use Rattle.rl_run.proofs.Ends.{leaves_weaken, if_goes_leaves}
use Rattle.rl_run.specs.Play.{AllEnds}
use Rattle.rl_run.specs.Picks.{Came, Spot, came, moved, entry_number, stated, pick_one, pick_all, answered, on_goes, takes_picks}

-- the states that may be jumped to are no states inside a token
pub record IsLow {S : Type 0} (m : Machine S) (s : Session S) : Type 0 where
  pub state : m.kind s.state ≤ 1
  pub stack : AllByRecursion (λ q. m.kind q ≤ 1) s.stack

-- t follows s in a list of calls
pub record Moved {S : Type 0} (m : Machine S) (spot : Spot) (s t : Session S) : Type 0 where
  pub low : IsLow m s → IsLow m t
  pub furthest : t.furthest ≡ s.furthest
  pub ts : t.ts ≡ s.ts
  pub te : t.te ≡ s.te
  pub kept : t.kept ≡ s.kept
  pub backs : s.backs ≤ t.backs
  pub below : s.backs < 65536 → t.backs < 65536
  pub onward : t.backs ≡ s.backs → s.next ≤ t.next
  pub floor : spot.floor ≤ s.next → spot.floor ≤ t.next
  pub top : s.next ≤ 2 ^ 63 → t.next ≤ 2 ^ 63

module _ {S : Type 0} (m : Machine S) (spot : Spot) where
  pub stays : (s : Session S) → Moved m spot s s
  stays s = record { low = λ h. record { state = h.state; stack = h.stack }; furthest = refl; ts = refl; te = refl; kept = refl; backs = omega arith; below = λ h. h; onward = λ e. omega arith; floor = λ h. h; top = λ h. h }

  pub goes_on : (s t u : Session S) → Moved m spot s t → Moved m spot t u → Moved m spot s u
  goes_on s t u a b = record {
    low = λ h. b.low (a.low h);
    furthest = b.furthest ∙ a.furthest;
    ts = b.ts ∙ a.ts;
    te = b.te ∙ a.te;
    kept = b.kept ∙ a.kept;
    backs = omega (arith, a.backs, b.backs);
    below = λ h. b.below (a.below h);
    onward = λ e. omega (arith, a.backs, b.backs, a.onward (omega (arith, a.backs, b.backs)), b.onward (omega (arith, a.backs, b.backs)));
    floor = λ h. b.floor (a.floor h);
    top = λ h. b.top (a.top h);
  }

  pub moves_state : (s : Session S) (state : S) (stack : List S) → (IsLow m s → IsLow m (record s { state = state; stack = stack })) →
      Moved m spot s (record s { state = state; stack = stack })
  moves_state s state stack low = record { low = low; furthest = refl; ts = refl; te = refl; kept = refl; backs = omega arith; below = λ h. h; onward = λ e. omega arith; floor = λ h. h; top = λ h. h }

  pub on_goes_moves : (s : Session S) (c : Came S) (k : Session S → Came S) → Moved m spot s c.session → Moved m spot c.session (k c.session).session → Moved m spot s (on_goes c k).session
  on_goes_moves s c k p q = go c.flow
    where
      go : (flow : Flow) → Moved m spot s (elim flow as (λ _. Came S) [ Goes ↦ k c.session | Jumps ↦ c | Breaks ↦ c | Stops _ ↦ c ]).session
      go Goes = goes_on s c.session (k c.session).session p q
      go Jumps = p
      go Breaks = p
      go (Stops _) = p

  pub moved_moves : (pick : Pick) (s : Session S) (is_below : Bool) (position : ℕ) →
      (is_below ≡ false → spot.floor ≤ position) → (is_below ≡ false → s.next ≤ 2 ^ 63 → position ≤ 2 ^ 63) →
      Moved m spot s (moved pick s is_below position).session
  moved_moves pick s true position f h = stays s
  moved_moves pick s false position f h = go (nat_lt position s.next) refl (nat_le 65535 s.backs) refl
    where
      go : (b : Bool) → nat_lt position s.next ≡ b → (d : Bool) → nat_le 65535 s.backs ≡ d →
          Moved m spot s (cond b (cond d (came (Stops (Stuck pick)) s) (came Goes (record s { next = position; backs = s.backs + 1 }))) (came Goes (record s { next = position }))).session
      go true e true g = stays s
      go true e false g = record { low = λ h. record { state = h.state; stack = h.stack }; furthest = refl; ts = refl; te = refl; kept = refl; backs = omega arith; below = λ h. grind (arith, nat_tests); onward = λ e. omega arith; floor = λ _. f refl; top = h refl }
      go false e d g = record { low = λ h. record { state = h.state; stack = h.stack }; furthest = refl; ts = refl; te = refl; kept = refl; backs = omega arith; below = λ h. h; onward = λ _. grind (arith, nat_tests); floor = λ _. f refl; top = h refl }

  abbrev If : Bool → Came S → Came S → Came S
  If b x y = cond b x y

  either : (s : Session S) (b : Bool) (x y : Came S) → Moved m spot s x.session → (b ≡ false → Moved m spot s y.session) → Moved m spot s (If b x y).session
  either s true x y p q = p
  either s false x y p q = q refl

  pub goal_moves : (pick : Pick) (s : Session S) (goal : ℤ) → int_lt (pos (2 ^ 62)) goal ≡ false →
      Moved m spot s (moved pick s (int_lt goal (pos spot.floor)) (unsigned_abs goal)).session
  goal_moves pick s (pos n) e = moved_moves pick s (nat_lt n spot.floor) n (λ h. grind (arith, nat_tests)) (λ h k. grind (arith, nat_tests))
  goal_moves pick s (negsuc n) e = stays s

module _ {S : Type 0} (m : Machine S) (kinded : IsKinded m) (settings : Settings) (spot : Spot) (stray : StopCause) where
  pub stated_moves : (pick : Pick) (s : Session S) (e : ℕ) (kind : StatementKind) (goal : Option ℤ) →
      Moved m spot s (stated m settings spot stray pick s e kind goal).session
  stated_moves pick s e Hold None =
      either m spot s spot.is_end (came Goes s) _ (stays m spot s)
      (λ _. moved_moves m spot pick s (nat_le s.next spot.floor) (s.next - 1) (λ h. grind (arith, nat_tests)) (λ h k. omega arith))
  stated_moves pick s e Exec (Some goal) =
      either m spot s (int_lt (pos (2 ^ 62)) goal) (came (Stops stray) s) _ (stays m spot s)
      (λ e. either m spot s spot.is_end (came Goes s) _ (stays m spot s) (λ _. goal_moves m spot pick s goal e))
  stated_moves pick s e Goto None = moves_state m spot s (m.entry e) s.stack (λ h. record { state = kinded.entry e; stack = h.stack })
  stated_moves pick s e Next None = moves_state m spot s (m.entry e) s.stack (λ h. record { state = kinded.entry e; stack = h.stack })
  stated_moves pick s e Call None =
      either m spot s (nat_lt (length s.stack) settings.stack) _ _ (moves_state m spot s (m.entry e) (s.state ∷ s.stack) (λ h. record { state = kinded.entry e; stack = (h.state, h.stack) })) (λ _. stays m spot s)
  stated_moves pick s e Ret None = go s.stack refl
    where
      go : (stack : List S) → s.stack ≡ stack → Moved m spot s (elim stack as (λ _. Came S) [ [] ↦ came (Stops (StackEmpty pick)) s | t ∷ ts ↦ came Jumps (record s { state = t; stack = ts }) ]).session
      go [] e = stays m spot s
      go (t ∷ ts) e = moves_state m spot s t ts (λ h. let low = rw e at h.stack in record { state = low.0; stack = low.1 })
  stated_moves pick s e Break None = stays m spot s
  stated_moves pick s e Hold (Some goal) = stays m spot s
  stated_moves pick s e Exec None = stays m spot s
  stated_moves pick s e Goto (Some goal) = stays m spot s
  stated_moves pick s e Call (Some goal) = stays m spot s
  stated_moves pick s e Ret (Some goal) = stays m spot s
  stated_moves pick s e Next (Some goal) = stays m spot s
  stated_moves pick s e Break (Some goal) = stays m spot s

  pub pick_one_moves : (action : ℕ) (s : Session S) (pick : Pick) → Moved m spot s (pick_one m settings spot stray action s pick).session
  pick_one_moves action s pick = go (m.statement action pick.statement)
    where
      go : (o : Option Statement) → Moved m spot s (elim o as (λ _. Came S) [ None ↦ came (Stops stray) s | Some statement ↦ stated m settings spot stray pick s (entry_number statement.entry) statement.kind pick.goal ]).session
      go None = stays m spot s
      go (Some statement) = stated_moves pick s (entry_number statement.entry) statement.kind pick.goal

  pub pick_all_moves : (action : ℕ) (picks : List (Option Pick)) (s : Session S) → Moved m spot s (pick_all m settings spot stray action picks s).session
  pick_all_moves action [] s = stays m spot s
  pick_all_moves action (None ∷ picks) s = stays m spot s
  pick_all_moves action (Some pick ∷ picks) s =
      on_goes_moves m spot s (pick_one m settings spot stray action s pick) (λ t. pick_all m settings spot stray action picks t) (pick_one_moves action s pick)
      (pick_all_moves action picks (pick_one m settings spot stray action s pick).session)

module _ {S : Type 0} (m : Machine S) (kinded : IsKinded m) (settings : Settings) (spot : Spot) where
  pub answered_moves : (kind : CallKind) (action : ℕ) (s : Session S) (x : Answer) → Moved m spot s (answered m settings spot kind action s x).session
  answered_moves kind action s Yes = stays m spot s
  answered_moves kind action s No = stays m spot s
  answered_moves kind action s (Picks picks) =
      either m spot s (takes_picks kind) _ (came (Stops (Stray (Picks picks))) s) (pick_all_moves m kinded settings spot (Stray (Picks picks)) action picks s) (λ _. stays m spot s)
  answered_moves kind action s Stop = stays m spot s

  pub calls_move : (kind : CallKind) (list : List ℕ) (s : Session S) → AllEnds (λ c. Moved m spot s c.session) (calls m settings spot kind list s)
  calls_move kind [] s = stays m spot s
  calls_move kind (action ∷ list) s = λ x. if_goes_leaves (λ c. Moved m spot s c.session)
      (answered m settings spot kind action s x) (λ t. calls m settings spot kind list t)
      (answered_moves kind action s x)
      (leaves_weaken (λ c. Moved m spot (answered m settings spot kind action s x).session c.session) _ _ (calls_move kind list (answered m settings spot kind action s x).session)
      (λ c q. goes_on m spot s (answered m settings spot kind action s x).session c.session (answered_moves kind action s x) q))
