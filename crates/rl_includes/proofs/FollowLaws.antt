-- The statements of a file one after another, and what an `include` comes to.
use Rattle.std.proofs.Common.{◌≡◌, ℕ, zero, suc, ◌-◌, ◌<◌, true, false, List, [], ◌∷◌, Option, Some, None, inl, inr, refl, sym, ap, ◌∙◌, subst, arith}
use Rattle.std.specs.Prelude.{reverse, is_some}
use Rattle.rl_types.specs.declared.faults.FaultKind.TheVariants.{F17}
use Rattle.rl_grammar.specs.declared.syntax.Syntax.{Syntax}
use Rattle.rl_io.specs.Outside.{Held}
use Rattle.rl_includes.specs.Answers.{Turned, IsTaken, IsDone, IsNext}
use Rattle.rl_includes.specs.Names.{file_number, is_among}
use Rattle.rl_includes.specs.Turns.{located, faulted, current_behind, Turn, turn, turn_in}
use Rattle.rl_includes.specs.Unrolling.{Either, Including, ComesTo, Follows, Opens, inner, GoesOn, Enters, Includes, too_deep, source_reader, nothing_yet, Unrolls}
use Rattle.rl_includes.specs.declared.reader.Located.{Located}
use Rattle.rl_includes.specs.declared.reader.Reader.{Reader}
use Rattle.rl_includes.specs.declared.reader.Request.{Request}
use Rattle.rl_includes.specs.declared.unrolled.Unrolled.{Unrolled}
use Rattle.rl_includes.proofs.QueueLaws.{reverse_last}

-- ---- statements

follows_none : (includes : Including) (reader : Reader) (items : List Located) (current : Option (List ℕ)) (u : Unrolled) → is_some u.stop ≡ true → Follows includes reader items current u u
follows_none includes reader [] current u stopped = refl
follows_none includes reader (item ∷ items) current u stopped =
    subst (λ b. Either b (u ≡ u) ((mid : Unrolled) × ComesTo includes reader (turn reader current item u) u mid × Follows includes reader items (current_behind current item.statement) mid u)) (sym stopped) refl

follows_one : (includes : Including) (reader : Reader) (item : Located) (items : List Located) (current : Option (List ℕ)) (old mid end : Unrolled) → is_some old.stop ≡ false
    → ComesTo includes reader (turn reader current item old) old mid → Follows includes reader items (current_behind current item.statement) mid end → Follows includes reader (item ∷ items) current old end
follows_one includes reader item items current old mid end unstopped one rest =
    subst (λ b. Either b (end ≡ old) ((mid : Unrolled) × ComesTo includes reader (turn reader current item old) old mid × Follows includes reader items (current_behind current item.statement) mid end)) (sym unstopped)
    (mid, one, rest)

-- before each statement: whatever the rest comes to, the whole comes to
pub record Walks (includes : Including) (reader : Reader) (whole queue : List Located) (start now : Unrolled) (current : Option (List ℕ)) : Type 0 where
  pub on : (end : Unrolled) → Follows includes reader (reverse queue) current now end → Follows includes reader whole None start end

pub walks_first : (includes : Including) (reader : Reader) (queue : List Located) (start : Unrolled) → Walks includes reader (reverse queue) queue start start None
walks_first includes reader queue start = record { on = λ end h. h }

pub walks_more : (includes : Including) (reader : Reader) (whole queue rest : List Located) (start now mid : Unrolled) (current behind : Option (List ℕ)) (item : Located)
    → Walks includes reader whole queue start now current → IsNext queue rest now item → IsTaken includes reader current item now mid behind → Walks includes reader whole rest start mid behind
walks_more includes reader whole queue rest start now mid current behind item h next taken = record {
  on = λ end more.
      let first : reverse queue ≡ item ∷ reverse rest = ap reverse next.taken ∙ reverse_last rest item in
      h.on end (subst (λ z. Follows includes reader z current now end) (sym first)
      (follows_one includes reader item (reverse rest) current now mid end next.unstopped
      (subst (λ z. ComesTo includes reader (turn_in reader z item now) now mid) taken.is taken.comes)
      (subst (λ z. Follows includes reader (reverse rest) z mid end) taken.is more)));
}

pub walks_end : (includes : Including) (reader : Reader) (whole queue : List Located) (start now : Unrolled) (current : Option (List ℕ)) → Walks includes reader whole queue start now current → IsDone queue now
    → Follows includes reader whole None start now
walks_end includes reader whole queue start now current h (inl none) = h.on now (subst (λ z. Follows includes reader (reverse z) current now now) (sym none) refl)
walks_end includes reader whole queue start now current h (inr stopped) = h.on now (follows_none includes reader (reverse queue) current now stopped)

-- a statement that asks for nothing
pub comes_becomes : (includes : Including) (reader : Reader) (t : Turn) (old new : Unrolled) → Turned t old new None → ComesTo includes reader t old new
comes_becomes includes reader t old new h = subst (λ z. ComesTo includes reader z old new) (sym h) refl

-- an `include` that is followed
pub comes_asks : (includes : Including) (reader : Reader) (t : Turn) (old mid new : Unrolled) (request : Request) → Turned t old mid (Some request) → includes reader request mid new → ComesTo includes reader t old new
comes_asks includes reader t old mid new request h k =
    subst (λ z. ComesTo includes reader z old new) (sym h.0) (subst (λ z. includes reader request z new) h.1 k)

pub taken_plain : (includes : Including) (reader : Reader) (current behind : Option (List ℕ)) (item : Located) (old new : Unrolled) → behind ≡ current_behind current item.statement
    → Turned (turn_in reader behind item old) old new None → IsTaken includes reader current item old new behind
taken_plain includes reader current behind item old new is h = record { is = is; comes = comes_becomes includes reader (turn_in reader behind item old) old new h }

pub taken_include : (includes : Including) (reader : Reader) (current behind : Option (List ℕ)) (item : Located) (old mid new : Unrolled) (request : Request) → behind ≡ current_behind current item.statement
    → Turned (turn_in reader behind item old) old mid (Some request) → includes reader request mid new → IsTaken includes reader current item old new behind
taken_include includes reader current behind item old mid new request is h k = record { is = is; comes = comes_asks includes reader (turn_in reader behind item old) old mid new request h k }

-- ---- an `include`

pub includes_loop : (left : ℕ) (held : Held) (reader : Reader) (request : Request) (old new : Unrolled) → is_among reader.being_read request.file ≡ true → new ≡ faulted F17 request.place reader.name old
    → Includes left held reader request old new
unfolding Includes
includes_loop zero held reader request old new among h =
    subst (λ b. Either b (new ≡ faulted F17 request.place reader.name old) (new ≡ too_deep reader request.place old)) (sym among) h
includes_loop (suc left) held reader request old new among h =
    subst (λ b. Either b (new ≡ faulted F17 request.place reader.name old) (Enters (Includes left held) held reader request old new)) (sym among) h

pub includes_too_deep : (left : ℕ) (held : Held) (reader : Reader) (request : Request) (old new : Unrolled) → is_among reader.being_read request.file ≡ false → left ≡ 0 → new ≡ too_deep reader request.place old
    → Includes left held reader request old new
unfolding Includes
includes_too_deep zero held reader request old new among none h =
    subst (λ b. Either b (new ≡ faulted F17 request.place reader.name old) (new ≡ too_deep reader request.place old)) (sym among) h
includes_too_deep (suc left) held reader request old new among none h = absurd (omega arith)

pub includes_enters : (left : ℕ) (held : Held) (reader : Reader) (request : Request) (old new : Unrolled) → is_among reader.being_read request.file ≡ false → 0 < left
    → Enters (Includes (left - 1) held) held reader request old new → Includes left held reader request old new
unfolding Includes
includes_enters zero held reader request old new among some h = absurd (omega arith)
includes_enters (suc left) held reader request old new among some h =
    let e : suc left - 1 ≡ left = omega arith in
    subst (λ b. Either b (new ≡ faulted F17 request.place reader.name old) (Enters (Includes left held) held reader request old new)) (sym among)
    (subst (λ z. Enters (Includes z held) held reader request old new) e h)

-- a file that is opened and not read on
pub enters_none : (left : ℕ) (held : Held) (reader : Reader) (request : Request) (old new : Unrolled) → is_among reader.being_read request.file ≡ false → 0 < left → Opens held reader request old new None
    → Includes left held reader request old new
enters_none left held reader request old new among some opens =
    includes_enters left held reader request old new among some (record { opened = None; mid = new; opens = opens; goes = refl })

-- a file that is opened and read on
pub enters_some : (left : ℕ) (held before : Held) (reader : Reader) (request : Request) (old mid new : Unrolled) (trees : List Syntax) (number : ℕ) → is_among reader.being_read request.file ≡ false → 0 < left
    → before ≡ held → number ≡ file_number old.files request.file → Opens held reader request old mid (Some trees) → GoesOn (Includes (left - 1) before) (inner reader request number) (Some trees) mid new
    → Includes left held reader request old new
enters_some left held before reader request old mid new trees number among some same is opens goes =
    includes_enters left held reader request old new among some (record {
      opened = Some trees;
      mid = mid;
      opens = opens;
      goes = subst (λ (h : Held). GoesOn (Includes (left - 1) h) (inner reader request (file_number old.files request.file)) (Some trees) mid new) same
          (subst (λ (n : ℕ). GoesOn (Includes (left - 1) before) (inner reader request n) (Some trees) mid new) is goes);
    })

-- ---- a source

pub unrolls_of : (held : Held) (file : List ℕ) (blocks : List Syntax) (reader : Reader) (start : Unrolled) (queue : List Located) (end : Unrolled) → reader ≡ source_reader file → start ≡ nothing_yet file
    → reverse queue ≡ located 0 blocks → Follows (Includes reader.left held) reader (reverse queue) None start end → Unrolls held file blocks end
unrolls_of held file blocks reader start queue end here first all h =
    subst (λ (r : Reader). Follows (Includes r.left held) r (located 0 blocks) None (nothing_yet file) end) here
    (subst (λ (u : Unrolled). Follows (Includes reader.left held) reader (located 0 blocks) None u end) first
    (subst (λ (items : List Located). Follows (Includes reader.left held) reader items None start end) all h))
