-- Two machines whose look-ups agree, up to names of actions, make the same runs.
use Rattle.std.proofs.Common.{◌≡◌, ℕ, zero, suc, ◌+◌, ◌-◌, ◌^◌, Bool, true, false, cond, ℤ, pos, List, [], ◌∷◌, map, length, Option, Some, None, refl, sym, ◌∙◌, ap, subst, nat_lt, nat_le, nat_eq, int_lt, unsigned_abs, bit_and, bit_or}
use Rattle.std.specs.List.{AllZip, AllByRecursion}
use Rattle.rl_run.specs.Twin.{Agrees, ListR, GoR, IsTwin, renames, name_by, SameStatements, CallR}
use Rattle.std.specs.Option.{option_map}
use Rattle.rl_run.specs.declared.calls.Answer.{Answer}
use Rattle.rl_run.specs.declared.calls.Answer.TheVariants.{Yes, No, Picks, Stop}
use Rattle.rl_run.specs.declared.calls.Call.{Call}
use Rattle.rl_run.specs.declared.calls.CallKind.{CallKind}
use Rattle.rl_run.specs.declared.calls.CallKind.TheVariants.{From, Ask, Do, Error, To, Token, Eof}
use Rattle.rl_run.specs.declared.sessions.Flow.{Flow}
use Rattle.rl_run.specs.declared.sessions.Flow.TheVariants.{Goes, Jumps, Breaks, Stops}
use Rattle.rl_types.specs.declared.numbers.Key.{Key}
use Rattle.rl_run.specs.declared.sessions.Heard.{Heard}
use Rattle.rl_run.specs.declared.calls.Pick.{Pick}
use Rattle.rl_run.specs.declared.sessions.Settings.{Settings}
use Rattle.rl_run.specs.declared.statements.Statement.{Statement}
use Rattle.rl_run.specs.declared.statements.StatementKind.{StatementKind}
use Rattle.rl_run.specs.declared.statements.StatementKind.TheVariants.{Hold, Exec, Goto, Call as CallsEntry, Ret, Next, Break}
use Rattle.rl_run.specs.declared.calls.Stop.{Stop as StopCause}
use Rattle.rl_run.specs.declared.calls.Stop.TheVariants.{StackFull, StackEmpty, Back, Stuck, Stray, HostStop, ErrorState, Overlong, PastEnd, HalfKey}
use Rattle.rl_run.specs.Machine.{Go, Machine, Session, keep}
use Rattle.rl_run.specs.Picks.{Came, Spot, came, moved, entry_number, stated, pick_one, pick_all, answered, on_goes, takes_picks}
use Rattle.rl_run.specs.Play.{Play, done, ask, bind, Reached, ended, stands, run}
use Rattle.rl_run.specs.declared.calls.Outcome.{Outcome}
use Rattle.rl_run.specs.declared.calls.Outcome.TheVariants.{Wants, Broke, Ended, Stopped}
use Rattle.rl_run.specs.Run.{Input, Rest, rest, letter, end_of, after, end_spot, last_delivery, over, last_list, at_kept, ending, at_end, at_letter, turns}
use Rattle.rl_run.specs.Turn.{call_of, calls, if_goes, cleared, sent_home, deliver, token_kept, marked, behind, stepped, judged, failed, missed, chosen, heard, all_conditions, hears, conditions, if_heard, sought, raised, closed, finished, opened, is_overlong, body, spot_of, turn}

same_statements : (kind : CallKind) (f g : ℕ → Option Statement) → ((n : ℕ) → g n ≡ f n) → SameStatements kind f g
same_statements Ask f g h = tt
same_statements From f g h = h
same_statements Do f g h = h
same_statements Error f g h = h
same_statements To f g h = h
same_statements Token f g h = h
same_statements Eof f g h = h

module _ {S T : Type 0} (m : Machine S) (w : Machine T) (ρ : ℕ → ℕ) (R : S → T → Type 0) where
  -- a kept list is one whose actions agree
  abbrev pub KeptR : Option (List ℕ) → Type 0
  KeptR None = Unit {0}
  KeptR (Some list) = AllByRecursion (Agrees m w ρ R) list

  -- the stacks match, and the kept list is sound
  abbrev pub HeldR : Session S → List T → Type 0
  HeldR s st = AllZip R s.stack st × KeptR s.kept

  -- the session of the other machine, at this state with this stack
  abbrev pub lift : Session S → T → List T → Session T
  lift s q st = record { state = q; next = s.next; stack = st; ts = s.ts; te = s.te; kept = option_map (map ρ) s.kept; furthest = s.furthest; backs = s.backs }

  pub record CameR (c : Came S) (d : Came T) : Type 0 where
    pub state : T
    pub stack : List T
    pub state_is : R c.session.state state
    pub stack_is : HeldR c.session stack
    pub same : d ≡ came c.flow (lift c.session state stack)

  came_r : (flow : Flow) (s : Session S) (q : T) (st : List T) → R s.state q → HeldR s st → CameR (came flow s) (came flow (lift s q st))
  came_r flow s q st r z = record { state = q; stack = st; state_is = r; stack_is = z; same = refl }

  if_r : (b : Bool) (c x : Came S) (d y : Came T) → CameR c d → CameR x y → CameR (cond b c x) (cond b d y)
  if_r true c x d y p q = p
  if_r false c x d y p q = q

  moved_r : (pick : Pick) (s : Session S) (q : T) (st : List T) (b : Bool) (position : ℕ) → R s.state q → HeldR s st →
      CameR (moved pick s b position) (moved pick (lift s q st) b position)
  moved_r pick s q st b position r z =
      if_r b _ _ _ _ (came_r (Stops (Back pick)) s q st r z)
      (if_r (nat_lt position s.next) _ _ _ _
      (if_r (nat_le 65535 s.backs) _ _ _ _ (came_r (Stops (Stuck pick)) s q st r z) (came_r Goes (record s { next = position; backs = s.backs + 1 }) q st r z))
      (came_r Goes (record s { next = position }) q st r z))

  zip_length : (xs : List S) (ys : List T) → AllZip R xs ys → length ys ≡ length xs
  zip_length [] [] z = refl
  zip_length [] (y ∷ ys) z = elim z [ ]
  zip_length (x ∷ xs) [] z = elim z [ ]
  zip_length (x ∷ xs) (y ∷ ys) z = ap suc (zip_length xs ys z.1)

module _ {S T : Type 0} (m : Machine S) (w : Machine T) (ρ : ℕ → ℕ) (R : S → T → Type 0) (twin : IsTwin m w ρ R) (settings : Settings) (spot : Spot) where
  abbrev C : Came S → Came T → Type 0
  C = CameR m w ρ R

  stated_r : (stray : StopCause) (pick : Pick) (s : Session S) (q : T) (st : List T) (e : ℕ) (kind : StatementKind) (goal : Option ℤ) → R s.state q → HeldR m w ρ R s st →
      C (stated m settings spot stray pick s e kind goal) (stated w settings spot stray pick (lift m w ρ R s q st) e kind goal)
  stated_r stray pick s q st e Hold None r z =
      if_r m w ρ R spot.is_end _ _ _ _ (came_r m w ρ R Goes s q st r z) (moved_r m w ρ R pick s q st (nat_le s.next spot.floor) (s.next - 1) r z)
  stated_r stray pick s q st e Exec (Some goal) r z =
      if_r m w ρ R (int_lt (pos (2 ^ 62)) goal) _ _ _ _ (came_r m w ρ R (Stops stray) s q st r z)
      (if_r m w ρ R spot.is_end _ _ _ _ (came_r m w ρ R Goes s q st r z) (moved_r m w ρ R pick s q st (int_lt goal (pos spot.floor)) (unsigned_abs goal) r z))
  stated_r stray pick s q st e Goto None r z = came_r m w ρ R Jumps (record s { state = m.entry e }) (w.entry e) st (twin.entry e) z
  stated_r stray pick s q st e Next None r z = came_r m w ρ R Goes (record s { state = m.entry e }) (w.entry e) st (twin.entry e) z
  stated_r stray pick s q st e CallsEntry None r z =
      let same = zip_length m w ρ R s.stack st z.0 in
      subst (λ n. C (stated m settings spot stray pick s e CallsEntry None)
      (cond (nat_lt n settings.stack) (came Jumps (record (lift m w ρ R s q st) { state = w.entry e; stack = q ∷ st })) (came (Stops (StackFull pick)) (lift m w ρ R s q st)))) (sym same)
      (if_r m w ρ R (nat_lt (length s.stack) settings.stack) _ _ _ _
      (came_r m w ρ R Jumps (record s { state = m.entry e; stack = s.state ∷ s.stack }) (w.entry e) (q ∷ st) (twin.entry e) ((r, z.0), z.1))
      (came_r m w ρ R (Stops (StackFull pick)) s q st r z))
  stated_r stray pick s q st e Ret None r z = go s.stack refl st refl z.0
    where
      go : (xs : List S) → s.stack ≡ xs → (ys : List T) → st ≡ ys → AllZip R xs ys →
          C (elim xs as (λ _. Came S) [ [] ↦ came (Stops (StackEmpty pick)) s | t ∷ ts ↦ came Jumps (record s { state = t; stack = ts }) ])
          (elim ys as (λ _. Came T) [ [] ↦ came (Stops (StackEmpty pick)) (lift m w ρ R s q st) | t ∷ ts ↦ came Jumps (record (lift m w ρ R s q st) { state = t; stack = ts }) ])
      go [] e [] f p = came_r m w ρ R (Stops (StackEmpty pick)) s q st r z
      go [] e (y ∷ ys) f p = elim p [ ]
      go (x ∷ xs) e [] f p = elim p [ ]
      go (x ∷ xs) e (y ∷ ys) f p = came_r m w ρ R Jumps (record s { state = x; stack = xs }) y ys p.0 (p.1, z.1)
  stated_r stray pick s q st e Break None r z = came_r m w ρ R Breaks s q st r z
  stated_r stray pick s q st e Hold (Some goal) r z = came_r m w ρ R (Stops stray) s q st r z
  stated_r stray pick s q st e Exec None r z = came_r m w ρ R (Stops stray) s q st r z
  stated_r stray pick s q st e Goto (Some goal) r z = came_r m w ρ R (Stops stray) s q st r z
  stated_r stray pick s q st e CallsEntry (Some goal) r z = came_r m w ρ R (Stops stray) s q st r z
  stated_r stray pick s q st e Ret (Some goal) r z = came_r m w ρ R (Stops stray) s q st r z
  stated_r stray pick s q st e Next (Some goal) r z = came_r m w ρ R (Stops stray) s q st r z
  stated_r stray pick s q st e Break (Some goal) r z = came_r m w ρ R (Stops stray) s q st r z

  one_r : (stray : StopCause) (action : ℕ) (s : Session S) (q : T) (st : List T) (pick : Pick) → Agrees m w ρ R action → R s.state q → HeldR m w ρ R s st →
      C (pick_one m settings spot stray action s pick) (pick_one w settings spot stray (ρ action) (lift m w ρ R s q st) pick)
  one_r stray action s q st pick u r z =
      subst (λ o. C (pick_one m settings spot stray action s pick)
      (elim o as (λ _. Came T) [ None ↦ came (Stops stray) (lift m w ρ R s q st) | Some statement ↦ stated w settings spot stray pick (lift m w ρ R s q st) (entry_number statement.entry) statement.kind pick.goal ]))
      (sym (u.0 pick.statement)) (go (m.statement action pick.statement))
    where
      go : (o : Option Statement) → C (elim o as (λ _. Came S) [ None ↦ came (Stops stray) s | Some statement ↦ stated m settings spot stray pick s (entry_number statement.entry) statement.kind pick.goal ])
          (elim o as (λ _. Came T) [ None ↦ came (Stops stray) (lift m w ρ R s q st) | Some statement ↦ stated w settings spot stray pick (lift m w ρ R s q st) (entry_number statement.entry) statement.kind pick.goal ])
      go None = came_r m w ρ R (Stops stray) s q st r z
      go (Some statement) = stated_r stray pick s q st (entry_number statement.entry) statement.kind pick.goal r z

  on_r : (flow : Flow) (s : Session S) (d : Came T) (k : Session S → Came S) (l : Session T → Came T) → C (came flow s) d →
      ((q : T) (st : List T) → R s.state q → HeldR m w ρ R s st → C (k s) (l (lift m w ρ R s q st))) → C (on_goes (came flow s) k) (on_goes d l)
  on_r flow s d k l c h = subst (λ e. C (on_goes (came flow s) k) (on_goes e l)) (sym c.same) (go flow)
    where
      go : (flow : Flow) → C (on_goes (came flow s) k) (on_goes (came flow (lift m w ρ R s c.state c.stack)) l)
      go Goes = h c.state c.stack c.state_is c.stack_is
      go Jumps = came_r m w ρ R Jumps s c.state c.stack c.state_is c.stack_is
      go Breaks = came_r m w ρ R Breaks s c.state c.stack c.state_is c.stack_is
      go (Stops cause) = came_r m w ρ R (Stops cause) s c.state c.stack c.state_is c.stack_is

  all_r : (stray : StopCause) (action : ℕ) (picks : List (Option Pick)) (s : Session S) (q : T) (st : List T) → Agrees m w ρ R action → R s.state q → HeldR m w ρ R s st →
      C (pick_all m settings spot stray action picks s) (pick_all w settings spot stray (ρ action) picks (lift m w ρ R s q st))
  all_r stray action [] s q st u r z = came_r m w ρ R Goes s q st r z
  all_r stray action (None ∷ picks) s q st u r z = came_r m w ρ R Goes s q st r z
  all_r stray action (Some pick ∷ picks) s q st u r z =
      let c = pick_one m settings spot stray action s pick in
      on_r c.flow c.session (pick_one w settings spot stray (ρ action) (lift m w ρ R s q st) pick) (λ t. pick_all m settings spot stray action picks t) (λ t. pick_all w settings spot stray (ρ action) picks t)
      (one_r stray action s q st pick u r z) (λ p su a b. all_r stray action picks c.session p su u a b)

  answered_r : (kind : CallKind) (action : ℕ) (s : Session S) (q : T) (st : List T) (x : Answer) → Agrees m w ρ R action → R s.state q → HeldR m w ρ R s st →
      C (answered m settings spot kind action s x) (answered w settings spot kind (ρ action) (lift m w ρ R s q st) x)
  answered_r kind action s q st Yes u r z = came_r m w ρ R Goes s q st r z
  answered_r kind action s q st No u r z = came_r m w ρ R (Stops (Stray No)) s q st r z
  answered_r kind action s q st (Picks picks) u r z =
      if_r m w ρ R (takes_picks kind) _ _ _ _ (all_r (Stray (Picks picks)) action picks s q st u r z) (came_r m w ρ R (Stops (Stray (Picks picks))) s q st r z)
  answered_r kind action s q st Stop u r z = came_r m w ρ R (Stops HostStop) s q st r z

-- programs of calls that agree
module _ (Q : Call → Call → Type 0) where
  abbrev pub PlayR : {A B : Type 0} → (A → B → Type 0) → Play A → Play B → Type 0
  PlayR P (done a) (done b) = P a b
  PlayR P (ask c f) (ask d g) = Q c d × ((x : Answer) → PlayR P (f x) (g x))
  PlayR P (done a) (ask d g) = ⊥
  PlayR P (ask c f) (done b) = ⊥

  pub bind_r : {A B C D : Type 0} (P : A → B → Type 0) (O : C → D → Type 0) (p : Play A) (q : Play B) (k : A → Play C) (l : B → Play D) →
      PlayR P p q → ((a : A) (b : B) → P a b → PlayR O (k a) (l b)) → PlayR O (bind p k) (bind q l)
  bind_r P O (done a) (done b) k l h f = f a b h
  bind_r P O (ask c g) (ask d u) k l h f = (h.0, λ x. bind_r P O (g x) (u x) k l (h.1 x) f)
  bind_r P O (done a) (ask d u) k l h f = elim h [ ]
  bind_r P O (ask c g) (done b) k l h f = elim h [ ]

  pub cond_r : {A B : Type 0} (P : A → B → Type 0) (b : Bool) (p x : Play A) (q y : Play B) → PlayR P p q → PlayR P x y → PlayR P (cond b p x) (cond b q y)
  cond_r P true p x q y h k = h
  cond_r P false p x q y h k = k

module _ {S T : Type 0} (m : Machine S) (w : Machine T) (ρ : ℕ → ℕ) (R : S → T → Type 0) (twin : IsTwin m w ρ R) (settings : Settings) (spot : Spot) where
  abbrev D : Came S → Came T → Type 0
  D = CameR m w ρ R

  abbrev L : Session S → T → List T → Session T
  L = lift m w ρ R

  goes_r : (c : Came S) (d : Came T) (k : Session S → Play (Came S)) (l : Session T → Play (Came T)) → D c d →
      ((q : T) (st : List T) → R c.session.state q → HeldR m w ρ R c.session st → PlayR (CallR m w ρ) D (k c.session) (l (L c.session q st))) → PlayR (CallR m w ρ) D (if_goes c k) (if_goes d l)
  unfolding if_goes
  goes_r c d k l r h = subst (λ e. PlayR (CallR m w ρ) D (if_goes c k) (if_goes e l)) (sym r.same) (go c.flow)
    where
      go : (flow : Flow) → PlayR (CallR m w ρ) D (elim flow as (λ _. Play (Came S)) [ Goes ↦ k c.session | Jumps ↦ done c | Breaks ↦ done c | Stops _ ↦ done c ])
          (elim flow as (λ _. Play (Came T)) [ Goes ↦ l (L c.session r.state r.stack) | Jumps ↦ done (came c.flow (L c.session r.state r.stack)) | Breaks ↦ done (came c.flow (L c.session r.state r.stack)) | Stops _ ↦ done (came c.flow (L c.session r.state r.stack)) ])
      go Goes = h r.state r.stack r.state_is r.stack_is
      go Jumps = came_r m w ρ R c.flow c.session r.state r.stack r.state_is r.stack_is
      go Breaks = came_r m w ρ R c.flow c.session r.state r.stack r.state_is r.stack_is
      go (Stops cause) = came_r m w ρ R c.flow c.session r.state r.stack r.state_is r.stack_is

  pub calls_r : (kind : CallKind) → ((a : ℕ) → renames ρ kind a ≡ ρ a) → ((x y : List ℕ) → name_by kind x y ≡ y) → (list : List ℕ) → AllByRecursion (Agrees m w ρ R) list → (s : Session S) (q : T) (st : List T) → R s.state q → HeldR m w ρ R s st →
      PlayR (CallR m w ρ) D (calls m settings spot kind list s) (calls w settings spot kind (map ρ list) (L s q st))
  calls_r kind e v [] u s q st r z = came_r m w ρ R Goes s q st r z
  calls_r kind e v (action ∷ list) u s q st r z = (
    (ap (λ a. call_of spot kind a s) (sym (e action)), v _ _ ∙ u.0.1 ∙ sym (v _ _), same_statements kind (m.statement action) (w.statement (ρ action)) u.0.0),
    λ x. goes_r (answered m settings spot kind action s x) (answered w settings spot kind (ρ action) (L s q st) x)
        (λ t. calls m settings spot kind list t) (λ t. calls w settings spot kind (map ρ list) t)
        (answered_r m w ρ R twin settings spot kind action s q st x u.0 r z)
        (λ p su a b. calls_r kind e v list u.1 (answered m settings spot kind action s x).session p su a b),
  )

  cleared_r : (c : Came S) (d : Came T) → D c d → D (cleared c) (cleared d)
  cleared_r c d r = subst (λ e. D (cleared c) (cleared e)) (sym r.same) (go c.flow)
    where
      go : (flow : Flow) → D (cleared (came flow c.session)) (cleared (came flow (L c.session r.state r.stack)))
      go Goes = came_r m w ρ R Goes (record c.session { ts = None; te = None; kept = None }) r.state r.stack r.state_is (r.stack_is.0, tt)
      go Jumps = came_r m w ρ R Jumps (record c.session { ts = None; te = None; kept = None }) r.state r.stack r.state_is (r.stack_is.0, tt)
      go Breaks = came_r m w ρ R Breaks (record c.session { ts = None; te = None; kept = None }) r.state r.stack r.state_is (r.stack_is.0, tt)
      go (Stops cause) = came_r m w ρ R (Stops cause) c.session r.state r.stack r.state_is r.stack_is

  deliver_r : (list : List ℕ) → AllByRecursion (Agrees m w ρ R) list → (s : Session S) (q : T) (st : List T) → R s.state q → HeldR m w ρ R s st →
      PlayR (CallR m w ρ) D (deliver m settings spot list s) (deliver w settings spot (map ρ list) (L s q st))
  unfolding deliver
  deliver_r list u s q st r z =
      bind_r (CallR m w ρ) D D (calls m settings spot Token list (sent_home m s)) (calls w settings spot Token (map ρ list) (sent_home w (L s q st))) _ _
      (calls_r Token (λ a. refl) (λ x y. refl) list u (sent_home m s) (w.home q) st (twin.home s.state q r) z) (λ c d h. cleared_r c d h)

  marked_r : (target : S) (p : T) → R target p → (s : Session S) (q : T) (st : List T) → R s.state q → HeldR m w ρ R s st →
      PlayR (CallR m w ρ) D (marked m settings spot target s) (marked w settings spot p (L s q st))
  unfolding marked
  marked_r target p e s q st r z =
      subst (λ n. PlayR (CallR m w ρ) D (marked m settings spot target s)
      (cond (nat_eq n 3) (done (came Goes (token_kept w spot p (L s q st)))) (cond (nat_eq n 4) (deliver w settings spot (w.token p) (token_kept w spot p (L s q st))) (done (came Goes (L s q st))))))
      (sym (twin.kind target p e))
      (subst (λ tok. PlayR (CallR m w ρ) D (marked m settings spot target s)
      (cond (nat_eq (m.kind target) 3) (done (came Goes (record (L s q st) { te = Some (spot.at + 1); kept = Some tok })))
      (cond (nat_eq (m.kind target) 4) (deliver w settings spot tok (record (L s q st) { te = Some (spot.at + 1); kept = Some tok })) (done (came Goes (L s q st))))))
      (sym (twin.token target p e).0)
      (cond_r (CallR m w ρ) D (nat_eq (m.kind target) 3) _ _ _ _ (came_r m w ρ R Goes (token_kept m spot target s) q st r (z.0, (twin.token target p e).1))
      (cond_r (CallR m w ρ) D (nat_eq (m.kind target) 4) _ _ _ _ (deliver_r (m.token target) (twin.token target p e).1 (token_kept m spot target s) q st r (z.0, (twin.token target p e).1)) (came_r m w ρ R Goes s q st r z))))

  stepped_r : (g : Go S) (h : Go T) → R g.target h.target → ListR m w ρ R g.list h.list → (s : Session S) (q : T) (st : List T) → HeldR m w ρ R s st →
      PlayR (CallR m w ρ) D (stepped m settings spot s g) (stepped w settings spot (L s q st) h)
  unfolding stepped
  stepped_r g h e same s q st z =
      subst (λ list. PlayR (CallR m w ρ) D (stepped m settings spot s g)
      (bind (calls w settings spot Do list (behind spot h.target (L s q st))) (λ c. if_goes c (λ t. marked w settings spot h.target t)))) (sym same.0)
      (bind_r (CallR m w ρ) D D (calls m settings spot Do g.list (behind spot g.target s)) (calls w settings spot Do (map ρ g.list) (behind spot h.target (L s q st))) _ _
      (calls_r Do (λ a. refl) (λ x y. refl) g.list same.1 (behind spot g.target s) h.target st e z)
      (λ c d r. goes_r c d (λ t. marked m settings spot g.target t) (λ t. marked w settings spot h.target t) r
      (λ p su a b. marked_r g.target h.target e c.session p su a b)))

  judged_r : (c : Came S) (d : Came T) → D c d → D (judged m spot c) (judged w spot d)
  judged_r c d r = subst (λ e. D (judged m spot c) (judged w spot e)) (sym r.same) (go c.flow)
    where
      stop : (flow : Flow) → D (cond (m.is_failed c.session.state) (came (Stops ErrorState) (record c.session { next = spot.at })) (came flow c.session))
          (cond (w.is_failed r.state) (came (Stops ErrorState) (record (L c.session r.state r.stack) { next = spot.at })) (came flow (L c.session r.state r.stack)))
      stop flow = subst (λ b. D (cond (m.is_failed c.session.state) (came (Stops ErrorState) (record c.session { next = spot.at })) (came flow c.session))
          (cond b (came (Stops ErrorState) (record (L c.session r.state r.stack) { next = spot.at })) (came flow (L c.session r.state r.stack))))
          (sym (twin.is_failed c.session.state r.state r.state_is))
          (if_r m w ρ R (m.is_failed c.session.state) _ _ _ _ (came_r m w ρ R (Stops ErrorState) (record c.session { next = spot.at }) r.state r.stack r.state_is r.stack_is)
          (came_r m w ρ R flow c.session r.state r.stack r.state_is r.stack_is))

      go : (flow : Flow) → D (judged m spot (came flow c.session)) (judged w spot (came flow (L c.session r.state r.stack)))
      go Goes = stop Goes
      go Jumps = stop Jumps
      go Breaks = stop Breaks
      go (Stops cause) = came_r m w ρ R (Stops cause) c.session r.state r.stack r.state_is r.stack_is

  failed_r : (s : Session S) (q : T) (st : List T) → R s.state q → HeldR m w ρ R s st → PlayR (CallR m w ρ) D (failed m settings spot s) (failed w settings spot (L s q st))
  unfolding failed
  failed_r s q st r z =
      subst (λ list. PlayR (CallR m w ρ) D (failed m settings spot s) (bind (calls w settings spot Error list (behind spot w.failed (L s q st))) (λ c. done (judged w spot c)))) (sym (twin.error s.state q r).0)
      (bind_r (CallR m w ρ) D D (calls m settings spot Error (m.error s.state) (behind spot m.failed s)) (calls w settings spot Error (map ρ (m.error s.state)) (behind spot w.failed (L s q st))) _ _
      (calls_r Error (λ a. refl) (λ x y. refl) (m.error s.state) (twin.error s.state q r).1 (behind spot m.failed s) w.failed st twin.failed z) (λ c d h. judged_r c d h))

  missed_r : (s : Session S) (q : T) (st : List T) → R s.state q → HeldR m w ρ R s st → PlayR (CallR m w ρ) D (missed m settings spot s) (missed w settings spot (L s q st))
  unfolding missed
  missed_r s q st r z = go s.kept z.1
    where
      go : (o : Option (List ℕ)) → KeptR m w ρ R o → PlayR (CallR m w ρ) D (elim o as (λ _. Play (Came S)) [ None ↦ failed m settings spot s | Some list ↦ deliver m settings spot list s ])
          (elim (option_map (map ρ) o) as (λ _. Play (Came T)) [ None ↦ failed w settings spot (L s q st) | Some list ↦ deliver w settings spot list (L s q st) ])
      go None u = failed_r s q st r z
      go (Some list) u = deliver_r list u s q st r z

  chosen_r : (key : Key) (hold : ℕ) (s : Session S) (q : T) (st : List T) → R s.state q → HeldR m w ρ R s st →
      PlayR (CallR m w ρ) D (chosen m settings spot key s hold) (chosen w settings spot key (L s q st) hold)
  unfolding chosen
  chosen_r key hold s q st r z = go (m.find s.state key hold) (w.find q key hold) (twin.find s.state q key hold r)
    where
      go : (g : Option (Go S)) (h : Option (Go T)) → GoR m w ρ R g h →
          PlayR (CallR m w ρ) D (elim g as (λ _. Play (Came S)) [ None ↦ missed m settings spot s | Some go ↦ stepped m settings spot s go ])
          (elim h as (λ _. Play (Came T)) [ None ↦ missed w settings spot (L s q st) | Some go ↦ stepped w settings spot (L s q st) go ])
      go None None e = missed_r s q st r z
      go (Some g) (Some h) e = stepped_r g h e.0 e.1 s q st z
      go None (Some h) e = elim e [ ]
      go (Some g) None e = elim e [ ]

  abbrev SameHeard : Heard → Heard → Type 0
  SameHeard a b = b ≡ a

  hears_r : (x : Answer) (bit hold : ℕ) (k l : ℕ → Play Heard) → ((h : ℕ) → PlayR (CallR m w ρ) SameHeard (k h) (l h)) → PlayR (CallR m w ρ) SameHeard (hears x bit hold k) (hears x bit hold l)
  hears_r Yes bit hold k l h = h (bit_or hold bit)
  hears_r No bit hold k l h = h hold
  hears_r (Picks picks) bit hold k l h = refl
  hears_r Stop bit hold k l h = refl

  conditions_r : (asked : ℕ) (list : List (ℕ × ℕ)) (hold : ℕ) (s : Session S) (q : T) (st : List T) →
      PlayR (CallR m w ρ) SameHeard (conditions spot s asked list hold) (conditions spot (L s q st) asked list hold)
  conditions_r asked [] hold s q st = refl
  conditions_r asked (c ∷ cs) hold s q st =
      cond_r (CallR m w ρ) SameHeard (nat_eq (bit_and asked c.1) 0) _ _ _ _ (conditions_r asked cs hold s q st)
      ((refl, twin.condition_name c.0, tt), λ x. hears_r x c.1 hold (λ h. conditions spot s asked cs h) (λ h. conditions spot (L s q st) asked cs h) (λ h. conditions_r asked cs h s q st))

  heard_r : (flow : Flow) (hold : ℕ) (s : Session S) (q : T) (st : List T) → R s.state q → HeldR m w ρ R s st → (k : ℕ → Play (Came S)) (l : ℕ → Play (Came T)) →
      PlayR (CallR m w ρ) D (k hold) (l hold) → PlayR (CallR m w ρ) D (if_heard s (heard flow hold) k) (if_heard (L s q st) (heard flow hold) l)
  unfolding if_heard
  heard_r Goes hold s q st r z k l h = h
  heard_r Jumps hold s q st r z k l h = h
  heard_r Breaks hold s q st r z k l h = h
  heard_r (Stops cause) hold s q st r z k l h = came_r m w ρ R (Stops cause) s q st r z

  sought_r : (key : Key) (s : Session S) (q : T) (st : List T) → R s.state q → HeldR m w ρ R s st →
      PlayR (CallR m w ρ) D (sought m settings spot key s) (sought w settings spot key (L s q st))
  unfolding sought
  sought_r key s q st r z =
      subst (λ asked. PlayR (CallR m w ρ) D (sought m settings spot key s)
      (bind (conditions spot (L s q st) asked all_conditions 0) (λ h. if_heard (L s q st) h (λ hold. chosen w settings spot key (L s q st) hold)))) (sym (twin.asked s.state q key r))
      (bind_r (CallR m w ρ) SameHeard D (conditions spot s (m.asked s.state key) all_conditions 0) (conditions spot (L s q st) (m.asked s.state key) all_conditions 0) _ _
      (conditions_r (m.asked s.state key) all_conditions 0 s q st)
      (λ a b e. subst (λ v. PlayR (CallR m w ρ) D (if_heard s a (λ hold. chosen m settings spot key s hold)) (if_heard (L s q st) v (λ hold. chosen w settings spot key (L s q st) hold))) (sym e)
      (heard_r a.flow a.hold s q st r z _ _ (chosen_r key a.hold s q st r z))))

  raised_r : (s : Session S) (q : T) (st : List T) → R s.state q → HeldR m w ρ R s st → (flow : Flow) → D (came flow (raised s)) (came flow (raised (L s q st)))
  raised_r s q st r z flow = go (nat_lt s.furthest s.next)
    where
      go : (b : Bool) → D (came flow (cond b (record s { furthest = s.next; backs = 0 }) s)) (came flow (cond b (record (L s q st) { furthest = s.next; backs = 0 }) (L s q st)))
      go true = came_r m w ρ R flow (record s { furthest = s.next; backs = 0 }) q st r z
      go false = came_r m w ρ R flow s q st r z

  closed_r : (c : Came S) (d : Came T) → D c d → D (closed c) (closed d)
  closed_r c d r = subst (λ e. D (closed c) (closed e)) (sym r.same) (go c.flow)
    where
      go : (flow : Flow) → D (closed (came flow c.session)) (closed (came flow (L c.session r.state r.stack)))
      go Goes = raised_r c.session r.state r.stack r.state_is r.stack_is Goes
      go Jumps = raised_r c.session r.state r.stack r.state_is r.stack_is Goes
      go Breaks = raised_r c.session r.state r.stack r.state_is r.stack_is Goes
      go (Stops cause) = came_r m w ρ R (Stops cause) c.session r.state r.stack r.state_is r.stack_is

  to_r : (s : Session S) (q : T) (st : List T) → R s.state q → HeldR m w ρ R s st →
      PlayR (CallR m w ρ) D (bind (calls m settings spot To (m.to s.state) s) (λ d. done (closed d))) (bind (calls w settings spot To (w.to q) (L s q st)) (λ d. done (closed d)))
  to_r s q st r z =
      subst (λ list. PlayR (CallR m w ρ) D (bind (calls m settings spot To (m.to s.state) s) (λ d. done (closed d))) (bind (calls w settings spot To list (L s q st)) (λ d. done (closed d)))) (sym (twin.to s.state q r).0)
      (bind_r (CallR m w ρ) D D (calls m settings spot To (m.to s.state) s) (calls w settings spot To (map ρ (m.to s.state)) (L s q st)) _ _
      (calls_r To (λ a. refl) (λ x y. refl) (m.to s.state) (twin.to s.state q r).1 s q st r z) (λ c d h. closed_r c d h))

  finished_r : (c : Came S) (d : Came T) → D c d → PlayR (CallR m w ρ) D (finished m settings spot c) (finished w settings spot d)
  unfolding finished
  finished_r c d r = subst (λ e. PlayR (CallR m w ρ) D (finished m settings spot c) (finished w settings spot e)) (sym r.same) (go c.flow)
    where
      go : (flow : Flow) → PlayR (CallR m w ρ) D (finished m settings spot (came flow c.session)) (finished w settings spot (came flow (L c.session r.state r.stack)))
      go Goes = to_r c.session r.state r.stack r.state_is r.stack_is
      go Jumps = to_r c.session r.state r.stack r.state_is r.stack_is
      go Breaks = raised_r c.session r.state r.stack r.state_is r.stack_is Breaks
      go (Stops cause) = came_r m w ρ R (Stops cause) c.session r.state r.stack r.state_is r.stack_is

  body_r : (key : Key) (s : Session S) (q : T) (st : List T) → R s.state q → HeldR m w ρ R s st → PlayR (CallR m w ρ) D (body m settings spot key s) (body w settings spot key (L s q st))
  unfolding body
  body_r key s q st r z =
      cond_r (CallR m w ρ) D (is_overlong settings s) _ _ _ _ (came_r m w ρ R (Stops Overlong) s q st r z)
      (subst (λ list. PlayR (CallR m w ρ) D (bind (calls m settings spot From (m.from s.state) s) (λ c. if_goes c (λ t. sought m settings spot key t)))
      (bind (calls w settings spot From list (L s q st)) (λ c. if_goes c (λ t. sought w settings spot key t)))) (sym (twin.from s.state q r).0)
      (bind_r (CallR m w ρ) D D (calls m settings spot From (m.from s.state) s) (calls w settings spot From (map ρ (m.from s.state)) (L s q st)) _ _
      (calls_r From (λ a. refl) (λ x y. refl) (m.from s.state) (twin.from s.state q r).1 s q st r z)
      (λ c d h. goes_r c d (λ t. sought m settings spot key t) (λ t. sought w settings spot key t) h (λ p su a b. sought_r key c.session p su a b))))

module _ {S T : Type 0} (m : Machine S) (w : Machine T) (ρ : ℕ → ℕ) (R : S → T → Type 0) (twin : IsTwin m w ρ R) (settings : Settings) where
  -- a turn of one machine is the turn of the other, with the same answers asked for
  pub turn_r : (byte : ℕ) (s : Session S) (q : T) (st : List T) → R s.state q → HeldR m w ρ R s st →
      PlayR (CallR m w ρ) (CameR m w ρ R) (turn m settings s byte) (turn w settings (lift m w ρ R s q st) byte)
  unfolding turn
  turn_r byte s q st r z =
      subst (λ key. PlayR (CallR m w ρ) (CameR m w ρ R) (turn m settings s byte) (with_key key)) (sym (twin.key_of byte))
      (subst (λ t. PlayR (CallR m w ρ) (CameR m w ρ R) (turn m settings s byte) (bind (body w settings (spot_of m settings s byte) (m.key_of byte) t) (finished w settings (spot_of m settings s byte)))) (sym (opened_same (m.kind s.state) (w.kind q) (twin.kind s.state q r)))
      (bind_r (CallR m w ρ) (CameR m w ρ R) (CameR m w ρ R) (body m settings (spot_of m settings s byte) (m.key_of byte) (opened m s)) (body w settings (spot_of m settings s byte) (m.key_of byte) (lift m w ρ R (opened m s) q st)) _ _
      (body_r m w ρ R twin settings (spot_of m settings s byte) (m.key_of byte) (opened m s) q st (state_same (nat_eq (m.kind s.state) 1)) (stack_same (nat_eq (m.kind s.state) 1)))
      (λ c d h. finished_r m w ρ R twin settings (spot_of m settings s byte) c d h)))
    where
      with_key : Key → Play (Came T)
      with_key key =
          let spot : Spot = record { at = s.next; key = Some key; floor = keep settings s; is_end = false } in
          bind (body w settings spot key (opened w (lift m w ρ R s q st))) (finished w settings spot)

      open_s : Bool → Session S
      open_s b = cond b (record s { ts = Some s.next; te = None; kept = None }) s

      opened_same : (n k : ℕ) → k ≡ n →
          cond (nat_eq k 1) (record (lift m w ρ R s q st) { ts = Some s.next; te = None; kept = None }) (lift m w ρ R s q st)
          ≡ lift m w ρ R (cond (nat_eq n 1) (record s { ts = Some s.next; te = None; kept = None }) s) q st
      opened_same n k e = subst (λ v. cond (nat_eq v 1) (record (lift m w ρ R s q st) { ts = Some s.next; te = None; kept = None }) (lift m w ρ R s q st)
          ≡ lift m w ρ R (cond (nat_eq n 1) (record s { ts = Some s.next; te = None; kept = None }) s) q st) (sym e) (go (nat_eq n 1))
        where
          go : (b : Bool) → cond b (record (lift m w ρ R s q st) { ts = Some s.next; te = None; kept = None }) (lift m w ρ R s q st)
              ≡ lift m w ρ R (cond b (record s { ts = Some s.next; te = None; kept = None }) s) q st
          go true = refl
          go false = refl

      state_same : (b : Bool) → R (cond b (record s { ts = Some s.next; te = None; kept = None }) s).state q
      state_same true = r
      state_same false = r

      stack_same : (b : Bool) → HeldR m w ρ R (cond b (record s { ts = Some s.next; te = None; kept = None }) s) st
      stack_same true = (z.0, tt)
      stack_same false = z

  abbrev pub RestR : Rest S → Rest T → Type 0
  RestR a b = (q : T) × (st : List T) × R a.session.state q × HeldR m w ρ R a.session st × (b ≡ rest a.outcome (lift m w ρ R a.session q st))

  rest_r : (o : Option Outcome) (s : Session S) (q : T) (st : List T) → R s.state q → HeldR m w ρ R s st → RestR (rest o s) (rest o (lift m w ρ R s q st))
  rest_r o s q st r z = (q, st, r, z, refl)

  after_r : (b : Bool) (c : Came S) (d : Came T) (k : Session S → Play (Rest S)) (l : Session T → Play (Rest T)) → CameR m w ρ R c d →
      ((s : Session S) (q : T) (st : List T) → R s.state q → HeldR m w ρ R s st → PlayR (CallR m w ρ) RestR (k s) (l (lift m w ρ R s q st))) →
      PlayR (CallR m w ρ) RestR (after b c k) (after b d l)
  unfolding after
  after_r b c d k l r h = subst (λ e. PlayR (CallR m w ρ) RestR (after b c k) (after b e l)) (sym r.same) (go c.flow)
    where
      go : (flow : Flow) → PlayR (CallR m w ρ) RestR (after b (came flow c.session) k) (after b (came flow (lift m w ρ R c.session r.state r.stack)) l)
      go Goes = h c.session r.state r.stack r.state_is r.stack_is
      go Jumps = h c.session r.state r.stack r.state_is r.stack_is
      go Breaks = cond_r (CallR m w ρ) RestR b _ _ _ _ (rest_r (Some Broke) c.session r.state r.stack r.state_is r.stack_is) (h c.session r.state r.stack r.state_is r.stack_is)
      go (Stops cause) = rest_r (Some (Stopped cause)) c.session r.state r.stack r.state_is r.stack_is

  over_r : (c : Came S) (d : Came T) → CameR m w ρ R c d → RestR (over c) (over d)
  over_r c d r = subst (λ e. RestR (over c) (over e)) (sym r.same) (go c.flow)
    where
      go : (flow : Flow) → RestR (over (came flow c.session)) (over (came flow (lift m w ρ R c.session r.state r.stack)))
      go Goes = rest_r (Some Ended) c.session r.state r.stack r.state_is r.stack_is
      go Jumps = rest_r (Some Ended) c.session r.state r.stack r.state_is r.stack_is
      go Breaks = rest_r (Some Ended) c.session r.state r.stack r.state_is r.stack_is
      go (Stops cause) = rest_r (Some (Stopped cause)) c.session r.state r.stack r.state_is r.stack_is

  last_r : (at : ℕ) (s : Session S) (q : T) (st : List T) → R s.state q → HeldR m w ρ R s st →
      PlayR (CallR m w ρ) RestR (last_list m settings at s) (last_list w settings at (lift m w ρ R s q st))
  unfolding last_list
  last_r at s q st r z =
      subst (λ list. PlayR (CallR m w ρ) RestR (last_list m settings at s) (bind (calls w settings (end_spot settings s at true) Eof list (lift m w ρ R s q st)) (λ c. done (over c)))) (sym (twin.eof s.state q r).0)
      (bind_r (CallR m w ρ) (CameR m w ρ R) RestR (calls m settings (end_spot settings s at true) Eof (m.eof s.state) s) (calls w settings (end_spot settings s at true) Eof (map ρ (m.eof s.state)) (lift m w ρ R s q st)) _ _
      (calls_r m w ρ R twin settings (end_spot settings s at true) Eof (λ a. refl) (λ x y. refl) (m.eof s.state) (twin.eof s.state q r).1 s q st r z) (λ c d h. over_r c d h))

  kept_r : (b : Bool) (at : ℕ) (s : Session S) (q : T) (st : List T) → R s.state q → HeldR m w ρ R s st → (k : Session S → Play (Rest S)) (l : Session T → Play (Rest T)) →
      ((s : Session S) (q : T) (st : List T) → R s.state q → HeldR m w ρ R s st → PlayR (CallR m w ρ) RestR (k s) (l (lift m w ρ R s q st))) →
      (o : Option (List ℕ)) → KeptR m w ρ R o → PlayR (CallR m w ρ) RestR (at_kept b m settings at s k o) (at_kept b w settings at (lift m w ρ R s q st) l (option_map (map ρ) o))
  unfolding at_kept last_delivery
  kept_r b at s q st r z k l h None u = last_r at s q st r z
  kept_r b at s q st r z k l h (Some list) u =
      bind_r (CallR m w ρ) (CameR m w ρ R) RestR (bind (deliver m settings (end_spot settings s at false) list s) (finished m settings (end_spot settings s at false)))
      (bind (deliver w settings (end_spot settings s at false) (map ρ list) (lift m w ρ R s q st)) (finished w settings (end_spot settings s at false))) _ _
      (bind_r (CallR m w ρ) (CameR m w ρ R) (CameR m w ρ R) (deliver m settings (end_spot settings s at false) list s) (deliver w settings (end_spot settings s at false) (map ρ list) (lift m w ρ R s q st)) _ _
      (deliver_r m w ρ R twin settings (end_spot settings s at false) list u s q st r z) (λ c d e. finished_r m w ρ R twin settings (end_spot settings s at false) c d e))
      (λ c d e. after_r b c d k l e h)

  letter_r : (b : Bool) (input : Input) (s : Session S) (q : T) (st : List T) → R s.state q → HeldR m w ρ R s st → (k : Session S → Play (Rest S)) (l : Session T → Play (Rest T)) →
      ((s : Session S) (q : T) (st : List T) → R s.state q → HeldR m w ρ R s st → PlayR (CallR m w ρ) RestR (k s) (l (lift m w ρ R s q st))) →
      (o : Option ℕ) → PlayR (CallR m w ρ) RestR (at_letter b m settings input k s o) (at_letter b w settings input l (lift m w ρ R s q st) o)
  unfolding at_letter at_end ending
  letter_r b input s q st r z k l h (Some byte) =
      bind_r (CallR m w ρ) (CameR m w ρ R) RestR (turn m settings s byte) (turn w settings (lift m w ρ R s q st) byte) _ _ (turn_r byte s q st r z) (λ c d e. after_r b c d k l e h)
  letter_r b input s q st r z k l h None =
      cond_r (CallR m w ρ) RestR input.is_closed _ _ _ _
      (cond_r (CallR m w ρ) RestR input.has_rest _ _ _ _ (rest_r (Some (Stopped HalfKey)) s q st r z)
      (cond_r (CallR m w ρ) RestR (nat_lt (end_of input) s.next) _ _ _ _ (rest_r (Some (Stopped PastEnd)) s q st r z) (kept_r b (end_of input) s q st r z k l h s.kept z.1)))
      (rest_r (Some Wants) s q st r z)

  -- a run of one machine is the run of the other
  pub turns_r : (b : Bool) (input : Input) (n : ℕ) (s : Session S) (q : T) (st : List T) → R s.state q → HeldR m w ρ R s st →
      PlayR (CallR m w ρ) RestR (turns b m settings input n s) (turns b w settings input n (lift m w ρ R s q st))
  unfolding turns
  turns_r b input zero s q st r z = rest_r None s q st r z
  turns_r b input (suc n) s q st r z =
      letter_r b input s q st r z (λ t. turns b m settings input n t) (λ t. turns b w settings input n t) (λ t p su x y. turns_r b input n t p su x y) (letter input s.next)

-- what agreeing programs do with the same answers: calls and ends that agree
module _ {A B : Type 0} (Q : Call → Call → Type 0) (P : A → B → Type 0) where
  abbrev pub ReachedR : Reached A → Reached B → Type 0
  ReachedR (ended a) (ended b) = P a b
  ReachedR (stands p) (stands q) = PlayR Q P p q
  ReachedR (ended a) (stands q) = ⊥
  ReachedR (stands p) (ended b) = ⊥

  pub log_r : (p : Play A) (q : Play B) (answers : List Answer) → PlayR Q P p q →
      AllZip Q (run p answers).calls (run q answers).calls × ReachedR (run p answers).reached (run q answers).reached
  log_r (done a) (done b) answers r = (tt, r)
  log_r (ask c f) (ask d g) [] r = (tt, r)
  log_r (ask c f) (ask d g) (x ∷ answers) r =
      let rest = log_r (f x) (g x) answers (r.1 x) in
      ((r.0, rest.0), rest.1)
  log_r (done a) (ask d g) answers r = elim r [ ]
  log_r (ask c f) (done b) answers r = elim r [ ]
