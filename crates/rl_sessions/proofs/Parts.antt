-- How a window goes along a piece.
use Rattle.std.proofs.Common.{◌≡◌, ℕ, ◌+◌, ◌*◌, ◌-◌, ◌^◌, ◌<◌, ◌≤◌, min, max, List, [], ◌++◌, length, take, drop, Option, Some, None, refl, sym, ◌∙◌, ap, subst, arith, unwrap_or, length-append}
use Rattle.std.specs.Prelude.{◌/◌, ◌%◌}
use Rattle.std.proofs.Math.Nat.{mul-div-le, mul-le-mul_left}
use Rattle.std.proofs.lemmas.List.{length-drop, length-take, drop-drop, drop-append-le, take-append-drop, append_assoc}
use Rattle.rl_run.specs.declared.calls.Call.{Call}
use Rattle.rl_run.specs.declared.calls.Answer.{Answer}
use Rattle.rl_run.specs.declared.calls.Outcome.{Outcome}
use Rattle.rl_run.specs.declared.calls.Outcome.TheVariants.{Wants}
use Rattle.rl_run.specs.declared.sessions.Settings.{Settings}
use Rattle.rl_run.specs.Machine.{Machine, Session, keep}
use Rattle.rl_run.specs.Fine.{IsFine}
use Rattle.rl_run.specs.Chain.{Extends}
use Rattle.rl_runner.specs.Feeds.{window_of}
use Rattle.rl_arrays.specs.declared.arrays.Arrays.{Arrays}
use Rattle.rl_arrays.specs.TableMachine.{machine}
use Rattle.rl_window.specs.WindowValue.{WindowValue, taken, pushed, before, dropped, end_of as ends_at}
use Rattle.rl_sessions.specs.Joins.{RanOver, RunsFrom}
use Rattle.rl_sessions.specs.Pieces.{IsReady, IsPart}
use Rattle.rl_sessions.specs.Short.{IsWithin, IsShort, most_kept}
use Rattle.rl_sessions.proofs.Widths.{mul_split, left_by, past_by, below_room}
use Rattle.rl_sessions.proofs.Joined.{part_extends, ran_part, ran_wants, runs_start}

-- the next position lies no further behind `keep` than a token is long, or one may look back
reach_of : {S : Type 0} (settings : Settings) (s : Session S) → IsShort settings s → s.next ≤ keep settings s + most_kept settings
reach_of settings s short = go s.ts short.token
  where
    go : (o : Option ℕ) → IsWithin settings.token_max o s.next → s.next ≤ min (unwrap_or o s.next) (min (s.furthest - settings.look) s.next) + max settings.token_max settings.look
    go None w = let reach = short.reach in omega arith
    go (Some a) w = let reach = short.reach in omega arith

left_small : (width base len k next most : ℕ) → 0 < width → base ≤ k → next ≤ k + most → base + len / width ≤ next →
    len - width * min (k - base) (len / width) < width * (most + 1)
left_small width base len k next most some low reach end =
    left_by width (len / width) (len % width) (min (k - base) (len / width)) (len / width - min (k - base) (len / width)) most len
    (omega arith) (omega arith) (omega arith) (omega arith)

low_at : (base n k : ℕ) → base ≤ k → base + min (k - base) n ≤ k
low_at base n k low = omega arith

-- a window is ready for more behind a run over it
pub ready_after : {S : Type 0} (width : ℕ) (settings : Settings) (w : WindowValue) (t : Session S) → 0 < width → w.width ≡ width → w.base ≤ keep settings t →
    IsShort settings t →
    w.base + length w.bytes / width ≤ t.next → width * (most_kept settings + 1) ≤ w.capacity → IsReady width settings (dropped w (keep settings t)) t
ready_after width settings w t some e low short end room = record {
  width_same = e;
  low = low_at w.base (length w.bytes / w.width) (keep settings t) low;
  short = short;
  small = subst (λ n. n < width * (most_kept settings + 1)) (sym (length-drop (w.width * before w (keep settings t)) w.bytes))
      (subst (λ v. length w.bytes - v * min (keep settings t - w.base) (length w.bytes / v) < width * (most_kept settings + 1)) (sym e)
      (left_small width w.base (length w.bytes) (keep settings t) t.next (most_kept settings) some low (reach_of settings t short) end));
  room = room;
}

pub part_start : (width : ℕ) (w : WindowValue) (piece : List ℕ) → IsPart width w.base (w.bytes ++ piece) w piece
part_start width w piece =
    let none : w.base - w.base ≡ 0 = omega arith in
    let start : width * (w.base - w.base) ≡ 0 = ap (λ n. width * n) none ∙ omega arith in
    let len = length-append w.bytes piece in
    record { low = omega arith; same = subst (λ n. w.bytes ++ piece ≡ drop n (w.bytes ++ piece)) (sym start) refl; end = omega arith }

module _ (width base : ℕ) (all : List ℕ) (w : WindowValue) (behind : List ℕ) (part : IsPart width base all w behind) where
  pub part_push : IsPart width base all (pushed w behind) (drop (taken w behind) behind)
  part_push =
      let n = taken w behind in
      let within : n ≤ length behind = omega arith in
      let front = length-append w.bytes (take n behind) in
      let taken_len = length-take n behind in
      let left = length-drop n behind in
      let end = part.end in
      record {
        low = part.low;
        same = append_assoc w.bytes (take n behind) (drop n behind) ∙ ap (λ xs. w.bytes ++ xs) (take-append-drop n behind) ∙ part.same;
        end = omega arith;
      }

  pub part_drop : w.width ≡ width → (k : ℕ) → IsPart width base all (dropped w k) behind
  part_drop e k =
      let n = before w k in
      let few : n ≤ length w.bytes / w.width = omega arith in
      let whole = mul-le-mul_left w.width few in
      let most = mul-div-le (length w.bytes) w.width in
      let within : w.width * n ≤ length w.bytes = omega (arith, whole, most) in
      let left = length-drop (w.width * n) w.bytes in
      let same : w.width * n ≡ width * n = ap (λ v. v * n) e in
      let low = part.low in
      let end = part.end in
      let later : (w.base - base) + n ≡ (w.base + n) - base = omega arith in
      let there : width * (w.base - base) + w.width * n ≡ width * ((w.base + n) - base) =
      ap (λ m. width * (w.base - base) + m) same ∙ sym (mul_split width (w.base - base) n) ∙ ap (λ i. width * i) later in
      let split = mul_split width w.base n in
      record {
        low = omega arith;
        same = sym (drop-append-le (w.width * n) w.bytes behind within) ∙ ap (λ xs. drop (w.width * n) xs) part.same
            ∙ drop-drop (w.width * n) (width * (w.base - base)) all ∙ ap (λ i. drop i all) there;
        end = ended width w.base n (length w.bytes) (w.width * n) (length (drop (w.width * n) w.bytes)) (length behind)
            (width * base + length all) left within same end;
      }
    where
      ended : (width base n len cut left behind all : ℕ) → left ≡ len - cut → cut ≤ len → cut ≡ width * n → width * base + len + behind ≡ all →
          width * (base + n) + left + behind ≡ all
      ended width base n len cut left behind all a b c d = omega arith

-- there is room for what stands behind
pub room_behind : (width base : ℕ) (all : List ℕ) (w : WindowValue) (behind : List ℕ) → IsPart width base all w behind → w.width ≡ width →
    width * base + length all < 2 ^ 63 →
    ends_at w + length behind < 2 ^ 63
room_behind width base all w behind part e below =
    let end = part.end in
    let same : w.width * w.base ≡ width * w.base = ap (λ v. v * w.base) e in
    omega (arith, end, same, below)

-- a run along a piece so far: of the bytes from a position on the window has the last that were run over, and the rest stands behind it
pub record Along {S H : Type 0} (step : H → Call → Answer → H → Type 0) (m : Machine S) (settings : Settings) (base : ℕ) (all : List ℕ)
    (first : H) (start : Session S) (h : H) (s : Session S) (w : WindowValue) (behind : List ℕ) : Type 0 where
  pub fine : IsFine m s → IsFine m start
  pub ready : IsReady m.width settings w s
  pub part : IsPart m.width base all w behind
  pub runs : RunsFrom step m settings (window_of m.width base all) first start h s

module _ {S H : Type 0} (step : H → Call → Answer → H → Type 0) (m : Machine S) (settings : Settings) where
  pub along_start : (w : WindowValue) (piece : List ℕ) (h : H) (s : Session S) → IsReady m.width settings w s →
      Along step m settings w.base (w.bytes ++ piece) h s h s w piece
  along_start w piece h s ready = record {
    fine = λ x. x;
    ready = ready;
    part = part_start m.width w piece;
    runs = runs_start step m settings (window_of m.width w.base (w.bytes ++ piece)) h s;
  }

  module _ (base : ℕ) (all : List ℕ) (first : H) (start : Session S) (h : H) (s : Session S) (w : WindowValue) (behind : List ℕ) (some : 0 < m.width)
      (along : Along step m settings base all first start h s w behind) (v : WindowValue) (next : List ℕ) (e : v ≡ pushed w behind) (f : next ≡ drop (taken w behind) behind) where
    part_next : IsPart m.width base all v next
    part_next =
        subst (λ u. IsPart m.width base all u next) (sym e)
        (subst (λ xs. IsPart m.width base all (pushed w behind) xs) (sym f) (part_push m.width base all w behind along.part))

    next_width : v.width ≡ m.width
    next_width = ap (λ (u : WindowValue). u.width) e ∙ along.ready.width_same

    next_extends : Extends (window_of m.width v.base v.bytes) (window_of m.width base all)
    next_extends = part_extends m.width base v.base all v.bytes next some part_next.low part_next.same

    -- what was run over the window was run over its part
    pub along_ran : (o : Outcome) (mid : H) (t : Session S) → RanOver step m settings (window_of m.width v.base v.bytes) h s o mid t →
        RanOver step m settings (window_of m.width base all) first start o mid t
    along_ran o mid t p =
        ran_part step m settings (window_of m.width base all) first start h s along.runs (window_of m.width v.base v.bytes) refl next_extends mid t o p

    pub along_more : (o : Outcome) (mid : H) (t : Session S) (u : WindowValue) → o ≡ Wants → u ≡ dropped v (keep settings t) → IsReady m.width settings u t →
        IsFine m s →
        RanOver step m settings (window_of m.width v.base v.bytes) h s o mid t → Along step m settings base all first start mid t u next
    along_more o mid t u wants g ready fine p = record {
      fine = λ _. along.fine fine;
      ready = ready;
      part = subst (λ x. IsPart m.width base all x next) (sym g) (part_drop m.width base all v next part_next next_width (keep settings t));
      runs = ran_wants step m settings (window_of m.width base all) first start h s along.runs (window_of m.width v.base v.bytes) refl next_extends mid t
          (subst (λ x. RanOver step m settings (window_of m.width v.base v.bytes) h s x mid t) wants p);
    }

    -- at the end of the piece
    pub along_past : (t : Session S) → next ≡ [] → v.base + length v.bytes / m.width ≤ t.next → base + length all / m.width ≤ t.next
    along_past t g past =
        let end = part_next.end in
        let low = part_next.low in
        let none : length next ≡ 0 = ap length g in
        let whole : base + (v.base - base) ≡ v.base = omega arith in
        let sums : m.width * v.base + length v.bytes ≡ m.width * base + length all = omega arith in
        past_by m.width base (v.base - base) (length v.bytes) (length all) t.next some
        (subst (λ n. m.width * n + length v.bytes ≡ m.width * base + length all) (sym whole) sums)
        (subst (λ n. n + length v.bytes / m.width ≤ t.next) (sym whole) past)

    pub along_part : (k : ℕ) (u : WindowValue) → u ≡ dropped v k → next ≡ [] → IsPart m.width base all u []
    along_part k u d g =
        subst (λ xs. IsPart m.width base all u xs) g
        (subst (λ x. IsPart m.width base all x next) (sym d) (part_drop m.width base all v next part_next next_width k))

-- each round takes a byte at least
pub shorter : {S : Type 0} (width : ℕ) (settings : Settings) (w : WindowValue) (s : Session S) (behind next : List ℕ) → IsReady width settings w s →
    next ≡ drop (taken w behind) behind →
    0 < length next → length next < length behind
shorter width settings w s behind next ready e some =
    let len = length-drop (taken w behind) behind in
    let same = ap length e in
    let room = below_room (length w.bytes) (width * (most_kept settings + 1)) w.capacity ready.small ready.room in
    omega (arith, len, same, room)

-- the same of tables and settings that are the same
pub ran_of : {H : Type 0} (step : H → Call → Answer → H → Type 0) (base : ℕ) (bytes : List ℕ) (a b : Arrays) (x y : Settings) (h : H) (s : Session ℕ) (o : Outcome) (last : H) (t : Session ℕ) → a ≡ b → x ≡ y →
    RanOver step (machine a) x (window_of (machine a).width base bytes) h s o last t →
    RanOver step (machine b) y (window_of (machine b).width base bytes) h s o last t
ran_of step base bytes a b x y h s o last t e f p =
    subst (λ v. RanOver step (machine b) v (window_of (machine b).width base bytes) h s o last t) f
    (subst (λ v. RanOver step (machine v) x (window_of (machine v).width base bytes) h s o last t) e p)
