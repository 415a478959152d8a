-- The order of words, and which certificate has the first ones.
use Rattle.std.specs.Prelude.{◌≡◌, ℕ, ◌-◌, ◌<◌, ◌≤◌, ◌<ℤ◌, ◌⊎◌, Bool, List, [], ◌∷◌, length, All}
use Rattle.rl_types.specs.Limits.{most_certified_states}
use Rattle.rl_types.specs.declared.numbers.Letter.{Letter}
use Rattle.rl_minimal.specs.Minimal.{Minimal, kind_at, home_at}
use Rattle.rl_certificate.specs.declared.certificate.Access.{Access}
use Rattle.rl_certificate.specs.declared.certificate.Apart.{Apart}
use Rattle.rl_certificate.specs.declared.certificate.Certificate.{Certificate}
use Rattle.rl_certificate.specs.declared.fault.CertFault.{CertFault}
use Rattle.rl_certificate.specs.declared.fault.CertFault.TheVariants.{TooMany, Memory}
use Rattle.rl_certificate.specs.Walks.{walk, LeadsTo}
use Rattle.rl_certificate.specs.Certificates.{do_homes_count, Differ, IsRight}

-- by key and then truths
abbrev pub LetterBefore : Letter → Letter → Type 0
LetterBefore l k = (l.key <ℤ k.key) ⊎ ((l.key ≡ k.key) × (l.truths < k.truths))

-- at the first letter in which they differ
abbrev pub LettersBefore : List Letter → List Letter → Type 0
LettersBefore [] v = ⊥
LettersBefore (l ∷ w) [] = ⊥
LettersBefore (l ∷ w) (k ∷ v) = LetterBefore l k ⊎ ((l ≡ k) × LettersBefore w v)

-- by length and then letters
abbrev pub WordBefore : List Letter → List Letter → Type 0
WordBefore w v = (length w < length v) ⊎ ((length w ≡ length v) × LettersBefore w v)

-- by length, then entry and then letters
abbrev pub AccessBefore : ℕ → List Letter → ℕ → List Letter → Type 0
AccessBefore e w f v = (length w < length v) ⊎ ((length w ≡ length v) × ((e < f) ⊎ ((e ≡ f) × LettersBefore w v)))

-- the word leads from the two states to two that show different things
abbrev pub TellsApart : Minimal → Bool → List Letter → ℕ → ℕ → Type 0
TellsApart m homes w i j = Differ m homes (walk m w i) (walk m w j)

-- the word tells the states apart, and none before it does
pub record IsFirstWord (m : Minimal) (homes : Bool) (i j : ℕ) (w : List Letter) : Type 0 where
  pub apart : TellsApart m homes w i j
  pub first : (v : List Letter) → TellsApart m homes v i j → WordBefore v w → ⊥

-- the word leads to its state, and none before it does
pub record IsFirstAccess (m : Minimal) (a : Access) : Type 0 where
  pub leads : LeadsTo m a.entry.0 a.word.items a.state
  pub first : (e : ℕ) (w : List Letter) → LeadsTo m e w a.state → AccessBefore e w a.entry.0 a.word.items → ⊥

abbrev pub IsFirstApart : Minimal → Apart → Type 0
IsFirstApart m p = IsFirstWord m (do_homes_count m p.low p.high) p.low p.high p.word.items

-- The certificate is right, and each of its words is the first one.
pub record IsFirst (m : Minimal) (c : Certificate) : Type 0 where
  pub right : IsRight m c
  pub access : All (IsFirstAccess m) c.access.items
  pub apart : All (IsFirstApart m) c.apart.items

-- each scanner's start is its own home
pub record AreOwnHomes (m : Minimal) : Type 0 where
  pub each : (i : ℕ) → kind_at m.states i ≡ 1 → home_at m.states i ≡ i

-- how many states there are but Error
abbrev pub count_of : Minimal → ℕ
count_of m = length m.states - 1

-- when each fault comes
abbrev pub IsDue : Minimal → CertFault → Type 0
IsDue m (TooMany n) = (n ≡ count_of m) × (most_certified_states < n)
IsDue m Memory = count_of m ≤ most_certified_states

-- a certificate comes where the states are not too many
pub record IsMade (m : Minimal) (c : Certificate) : Type 0 where
  pub few : count_of m ≤ most_certified_states
  pub first : IsFirst m c
