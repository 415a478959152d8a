-- What blocks come to is one, where the store tells what it holds and does not fail.
use Rattle.std.proofs.Common.{◌≡◌, ℕ, zero, suc, Bool, true, false, List, [], ◌∷◌, Option, Some, None, inl, inr, refl, sym, ap, ◌∙◌, subst}
use Rattle.std.specs.Prelude.{is_some, IsSome}
use Rattle.std.proofs.lemmas.Bool.{cases_Bool, false≢true}
use Rattle.rl_types.specs.declared.faults.FaultKind.TheVariants.{F17}
use Rattle.rl_grammar.specs.declared.read_fault.ReadFault.TheVariants as reason
use Rattle.rl_grammar.specs.declared.syntax.Syntax.{Syntax}
use Rattle.rl_types.specs.declared.faults.Fault.{Fault}
use Rattle.rl_types.specs.declared.faults.Limit.{Limit}
use Rattle.rl_io.specs.Outside.{Held, Reads, Lacks}
use Rattle.rl_files.specs.Files.{ReadsAs}
use Rattle.rl_includes.specs.Names.{file_number, is_among}
use Rattle.rl_includes.specs.Turns.{located, stopped, faulted, current_behind, Turn, Becomes, Asks, turn}
use Rattle.rl_includes.specs.Unrolling.{Either, Including, ComesTo, Follows, is_absent, with_request, RefusedAs, HasText, OpensText, Opens, inner, GoesOn, Enters, Includes, Unrolls, IsFailure, too_deep, OnlyEnd, source_reader, nothing_yet}
use Rattle.rl_includes.specs.declared.reader.Located.{Located}
use Rattle.rl_includes.specs.declared.reader.Reader.{Reader}
use Rattle.rl_includes.specs.declared.reader.Request.{Request}
use Rattle.rl_includes.specs.declared.unrolled.Stop.{Stop}
use Rattle.rl_includes.specs.declared.unrolled.Stop.TheVariants as stop
use Rattle.rl_includes.specs.declared.unrolled.Unrolled.{Unrolled}
use Rattle.rl_files.proofs.FileOnce.{reads_once, refusals_once, read_or_refused}

-- ---- a failure stays

failed_stops : (s : Option Stop) → IsFailure s → is_some s ≡ true
failed_stops None f = absurd f
failed_stops (Some s) f = refl

either_true : (b : Bool) (A B : Type 0) → b ≡ true → Either b A B → A
either_true b A B e h = subst (λ z. Either z A B) e h

either_false : (b : Bool) (A B : Type 0) → b ≡ false → Either b A B → B
either_false b A B e h = subst (λ z. Either z A B) e h

failed_on : (old new : Unrolled) → new ≡ old → IsFailure old.stop → IsFailure new.stop
failed_on old new same f = subst (λ z. IsFailure z.stop) (sym same) f

abbrev Going : Including → Reader → Located → List Located → Option (List ℕ) → Unrolled → Unrolled → Type 0
Going includes reader item items current old new = (mid : Unrolled) × ComesTo includes reader (turn reader current item old) old mid × Follows includes reader items (current_behind current item.statement) mid new

ended_is : (includes : Including) (reader : Reader) (item : Located) (items : List Located) (current : Option (List ℕ)) (old new : Unrolled) → is_some old.stop ≡ true → Follows includes reader (item ∷ items) current old new → new ≡ old
ended_is includes reader item items current old new ended h = either_true (is_some old.stop) (new ≡ old) (Going includes reader item items current old new) ended h

going_is : (includes : Including) (reader : Reader) (item : Located) (items : List Located) (current : Option (List ℕ)) (old new : Unrolled) → is_some old.stop ≡ false → Follows includes reader (item ∷ items) current old new
    → Going includes reader item items current old new
going_is includes reader item items current old new going h = either_false (is_some old.stop) (new ≡ old) (Going includes reader item items current old new) going h

pub follows_failed : (includes : Including) (reader : Reader) (items : List Located) (current : Option (List ℕ)) (old new : Unrolled) → Follows includes reader items current old new → IsFailure old.stop → IsFailure new.stop
follows_failed includes reader [] current old new h f = failed_on old new h f
follows_failed includes reader (item ∷ items) current old new h f = failed_on old new (ended_is includes reader item items current old new (failed_stops old.stop f) h) f

-- ---- statements

-- what an `include` comes to is one, unless the store fails
pub record IsOnce (includes : Including) : Type 0 where
  pub once : (reader : Reader) (request : Request) (old a b : Unrolled) → includes reader request old a → includes reader request old b → (IsFailure a.stop → ⊥) → (IsFailure b.stop → ⊥) → a ≡ b

comes_once : (includes : Including) → IsOnce includes → (reader : Reader) (t : Turn) (old a b : Unrolled) → ComesTo includes reader t old a → ComesTo includes reader t old b → (IsFailure a.stop → ⊥) → (IsFailure b.stop → ⊥) → a ≡ b
comes_once includes one reader (Becomes u) old a b h k m n = h ∙ sym k
comes_once includes one reader (Asks request) old a b h k m n = one.once reader request old a b h k m n

pub follows_once : (includes : Including) → IsOnce includes → (reader : Reader) (items : List Located) (current : Option (List ℕ)) (old a b : Unrolled) → Follows includes reader items current old a
    → Follows includes reader items current old b → (IsFailure a.stop → ⊥) → (IsFailure b.stop → ⊥) → a ≡ b
follows_once includes one reader [] current old a b h k m n = h ∙ sym k
follows_once includes one reader (item ∷ items) current old a b h k m n = elim (cases_Bool (is_some old.stop)) [
  | inl ended ↦ ended_is includes reader item items current old a ended h ∙ sym (ended_is includes reader item items current old b ended k)
  | inr going ↦
      let x = going_is includes reader item items current old a going h in
      let y = going_is includes reader item items current old b going k in
      let behind = current_behind current item.statement in
      let same : x.0 ≡ y.0 = comes_once includes one reader (turn reader current item old) old x.0 y.0 x.1 y.1 (λ f. m (follows_failed includes reader items behind x.0 a x.2 f)) (λ f. n (follows_failed includes reader items behind y.0 b y.2 f)) in
      follows_once includes one reader items behind y.0 a b (subst (λ z. Follows includes reader items behind z a) same x.2) y.2 m n
]

-- ---- a file

reads_same : (held : Held) (name s t : List ℕ) → IsSome held → Reads held name s → Reads held name t → s ≡ t
reads_same None name s t told h k = absurd (false≢true told)
reads_same (Some files) name s t told h k = let e : Some s ≡ Some t = sym h ∙ k in cc

lacks_or_reads : (held : Held) (name t : List ℕ) → IsSome held → Lacks held name → Reads held name t → ⊥
lacks_or_reads None name t told h k = absurd (false≢true told)
lacks_or_reads (Some files) name t told h k = let e : None ≡ Some t = sym h ∙ k in cc

same_fault : (a b : Fault) → reason.Fault a ≡ reason.Fault b → a ≡ b
same_fault a b h = cc

same_limit : (a b : Limit) → reason.Limit a ≡ reason.Limit b → a ≡ b
same_limit a b h = cc

fault_or_limit : (a : Fault) (b : Limit) → reason.Fault a ≡ reason.Limit b → ⊥
fault_or_limit a b h = cc

refusal_once : (number : ℕ) (text name : List ℕ) (a b : Stop) → RefusedAs number text name a → RefusedAs number text name b → a ≡ b
refusal_once number text name (stop.Fault f x) (stop.Fault g y) h k =
    let e : f ≡ g = same_fault f g (refusals_once number text (reason.Fault f) (reason.Fault g) h.0 k.0) in
    let d : x ≡ y = h.1 ∙ sym k.1 in cc
refusal_once number text name (stop.Fault f x) (stop.Limit g y) h k = absurd (fault_or_limit f g (refusals_once number text (reason.Fault f) (reason.Limit g) h.0 k.0))
refusal_once number text name (stop.Limit f x) (stop.Fault g y) h k = absurd (fault_or_limit g f (refusals_once number text (reason.Fault g) (reason.Limit f) k.0 h.0))
refusal_once number text name (stop.Limit f x) (stop.Limit g y) h k =
    let e : f ≡ g = same_limit f g (refusals_once number text (reason.Limit f) (reason.Limit g) h.0 k.0) in
    let d : x ≡ y = h.1 ∙ sym k.1 in cc
refusal_once number text name (stop.Fault f x) (stop.Missing y) h k = absurd k
refusal_once number text name (stop.Fault f x) (stop.StoreFailed y) h k = absurd k
refusal_once number text name (stop.Limit f x) (stop.Missing y) h k = absurd k
refusal_once number text name (stop.Limit f x) (stop.StoreFailed y) h k = absurd k
refusal_once number text name (stop.Missing x) b h k = absurd h
refusal_once number text name (stop.StoreFailed x) b h k = absurd h

refused_or_read : (number : ℕ) (text name : List ℕ) (a : Stop) (trees : List Syntax) → RefusedAs number text name a → ReadsAs number text trees → ⊥
refused_or_read number text name (stop.Fault f x) trees h k = read_or_refused number text trees (reason.Fault f) k h.0
refused_or_read number text name (stop.Limit f x) trees h k = read_or_refused number text trees (reason.Limit f) k h.0
refused_or_read number text name (stop.Missing x) trees h k = h
refused_or_read number text name (stop.StoreFailed x) trees h k = h

-- two openings of a file come to the same
abbrev Same : Unrolled → Unrolled → Option (List Syntax) → Option (List Syntax) → Type 0
Same a b x y = (a ≡ b) × (x ≡ y)

module _ (reader : Reader) (request : Request) (old a b : Unrolled) where
  absent_or_not : (s t : List Syntax) → s ≡ t → is_absent request s ≡ true → is_absent request t ≡ false → ⊥
  absent_or_not s t same h k = false≢true (sym k ∙ (ap (is_absent request) (sym same) ∙ h))

  text_once : (text : List ℕ) (x y : Option (List Syntax)) → OpensText reader request text old a x → OpensText reader request text old b y → Same a b x y
  text_once text None None (inl h) (inl k) =
      let e = refusal_once (file_number old.files request.file) text request.file h.refusal k.refusal h.refused k.refused in
      (h.is ∙ (ap (λ z. stopped z (with_request request old)) e ∙ sym k.is), refl)
  text_once text None None (inl h) (inr k) = absurd (refused_or_read _ text request.file h.refusal k.trees h.refused k.read)
  text_once text None None (inr h) (inl k) = absurd (refused_or_read _ text request.file k.refusal h.trees k.refused h.read)
  text_once text None None (inr h) (inr k) = (h.opens.1 ∙ sym k.opens.1, refl)
  text_once text None (Some t) (inl h) k = absurd (refused_or_read _ text request.file h.refusal k.trees h.refused k.read)
  text_once text None (Some t) (inr h) k = absurd (absent_or_not h.trees k.trees (reads_once _ text h.trees k.trees h.read k.read) h.opens.0 k.opens.0)
  text_once text (Some s) None h (inl k) = absurd (refused_or_read _ text request.file k.refusal h.trees k.refused h.read)
  text_once text (Some s) None h (inr k) = absurd (absent_or_not k.trees h.trees (reads_once _ text k.trees h.trees k.read h.read) k.opens.0 h.opens.0)
  text_once text (Some s) (Some t) h k = (h.opens.1 ∙ sym k.opens.1, ap (λ z. Some z) (h.opens.2 ∙ (reads_once _ text h.trees k.trees h.read k.read ∙ sym k.opens.2)))

  has_text_once : (held : Held) → IsSome held → (x y : Option (List Syntax)) → HasText held reader request old a x → HasText held reader request old b y → Same a b x y
  has_text_once held told x y h k =
      let same : k.text ≡ h.text = reads_same held request.file k.text h.text told k.reads h.reads in
      text_once h.text x y h.opens (subst (λ z. OpensText reader request z old b y) same k.opens)

  opens_once : (held : Held) → IsSome held → (x y : Option (List Syntax)) → Opens held reader request old a x → Opens held reader request old b y → (IsFailure a.stop → ⊥) → (IsFailure b.stop → ⊥) → Same a b x y
  opens_once held told None None (inl h) (inl k) m n = (h.is ∙ sym k.is, refl)
  opens_once held told None None (inl h) (inr (inl k)) m n = absurd (n (failed_on (stopped (stop.StoreFailed request.file) old) b k tt))
  opens_once held told None None (inl h) (inr (inr k)) m n = absurd (lacks_or_reads held request.file k.text told h.lacks k.reads)
  opens_once held told None None (inr (inl h)) k m n = absurd (m (failed_on (stopped (stop.StoreFailed request.file) old) a h tt))
  opens_once held told None None (inr (inr h)) (inl k) m n = absurd (lacks_or_reads held request.file h.text told k.lacks h.reads)
  opens_once held told None None (inr (inr h)) (inr (inl k)) m n = absurd (n (failed_on (stopped (stop.StoreFailed request.file) old) b k tt))
  opens_once held told None None (inr (inr h)) (inr (inr k)) m n = has_text_once held told None None h k
  opens_once held told None (Some t) (inl h) k m n = absurd (lacks_or_reads held request.file k.text told h.lacks k.reads)
  opens_once held told None (Some t) (inr (inl h)) k m n = absurd (m (failed_on (stopped (stop.StoreFailed request.file) old) a h tt))
  opens_once held told None (Some t) (inr (inr h)) k m n = has_text_once held told None (Some t) h k
  opens_once held told (Some s) None h (inl k) m n = absurd (lacks_or_reads held request.file h.text told k.lacks h.reads)
  opens_once held told (Some s) None h (inr (inl k)) m n = absurd (n (failed_on (stopped (stop.StoreFailed request.file) old) b k tt))
  opens_once held told (Some s) None h (inr (inr k)) m n = has_text_once held told (Some s) None h k
  opens_once held told (Some s) (Some t) h k m n = has_text_once held told (Some s) (Some t) h k

-- ---- an `include`

abbrev IsLoop : Reader → Request → Unrolled → Unrolled → Type 0
IsLoop reader request old new = new ≡ faulted F17 request.place reader.name old

abbrev IsTooDeep : Reader → Request → Unrolled → Unrolled → Type 0
IsTooDeep reader request old new = new ≡ too_deep reader request.place old

goes_failed : (includes : Including) (reader : Reader) (opened : Option (List Syntax)) (old new : Unrolled) → GoesOn includes reader opened old new → IsFailure old.stop → IsFailure new.stop
goes_failed includes reader None old new h f = failed_on old new h f
goes_failed includes reader (Some trees) old new h f = follows_failed includes reader (located 0 trees) None old new h f

goes_once : (includes : Including) → IsOnce includes → (reader : Reader) (opened : Option (List Syntax)) (old a b : Unrolled) → GoesOn includes reader opened old a → GoesOn includes reader opened old b
    → (IsFailure a.stop → ⊥) → (IsFailure b.stop → ⊥) → a ≡ b
goes_once includes one reader None old a b h k m n = h ∙ sym k
goes_once includes one reader (Some trees) old a b h k m n = follows_once includes one reader (located 0 trees) None old a b h k m n

enters_once : (includes : Including) → IsOnce includes → (held : Held) → IsSome held → (reader : Reader) (request : Request) (old a b : Unrolled) → Enters includes held reader request old a → Enters includes held reader request old b
    → (IsFailure a.stop → ⊥) → (IsFailure b.stop → ⊥) → a ≡ b
enters_once includes one held told reader request old a b h k m n =
    let within = inner reader request (file_number old.files request.file) in
    let same = opens_once reader request old h.mid k.mid held told h.opened k.opened h.opens k.opens (λ f. m (goes_failed includes within h.opened h.mid a h.goes f)) (λ f. n (goes_failed includes within k.opened k.mid b k.goes f)) in
    goes_once includes one within k.opened k.mid a b (subst (λ z. GoesOn includes within k.opened z a) same.0 (subst (λ z. GoesOn includes within z h.mid a) same.1 h.goes)) k.goes m n

pub includes_once : (left : ℕ) (held : Held) → IsSome held → IsOnce (Includes left held)
unfolding Includes
includes_once left held told = record { once = by_left left }
  where
    by_left : (left : ℕ) (reader : Reader) (request : Request) (old a b : Unrolled) → Includes left held reader request old a → Includes left held reader request old b → (IsFailure a.stop → ⊥) → (IsFailure b.stop → ⊥) → a ≡ b
    by_left zero reader request old a b h k m n = elim (cases_Bool (is_among reader.being_read request.file)) [
      | inl among ↦ either_true (is_among reader.being_read request.file) (IsLoop reader request old a) (IsTooDeep reader request old a) among h
          ∙ sym (either_true (is_among reader.being_read request.file) (IsLoop reader request old b) (IsTooDeep reader request old b) among k)
      | inr new ↦ either_false (is_among reader.being_read request.file) (IsLoop reader request old a) (IsTooDeep reader request old a) new h
          ∙ sym (either_false (is_among reader.being_read request.file) (IsLoop reader request old b) (IsTooDeep reader request old b) new k)
    ]
    by_left (suc left) reader request old a b h k m n = elim (cases_Bool (is_among reader.being_read request.file)) [
      | inl among ↦ either_true (is_among reader.being_read request.file) (IsLoop reader request old a) (Enters (Includes left held) held reader request old a) among h
          ∙ sym (either_true (is_among reader.being_read request.file) (IsLoop reader request old b) (Enters (Includes left held) held reader request old b) among k)
      | inr new ↦ enters_once (Includes left held) (record { once = by_left left }) held told reader request old a b
          (either_false (is_among reader.being_read request.file) (IsLoop reader request old a) (Enters (Includes left held) held reader request old a) new h)
          (either_false (is_among reader.being_read request.file) (IsLoop reader request old b) (Enters (Includes left held) held reader request old b) new k) m n
    ]

pub only_end : (held : Held) (file : List ℕ) (blocks : List Syntax) (u : Unrolled) → Unrolls held file blocks u → OnlyEnd held file blocks u
only_end held file blocks u h other told k n m = follows_once (Includes 16 held) (includes_once 16 held told) (source_reader file) (located 0 blocks) None (nothing_yet file) u other h k m n
