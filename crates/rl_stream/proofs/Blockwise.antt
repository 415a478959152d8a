-- What was read and written goes on over a block, and what stands in the output where it does not.
use Rattle.std.proofs.Common.{◌≡◌, ◌≢◌, ℕ, zero, suc, ◌+◌, ◌^◌, ◌<◌, ◌≤◌, Bool, true, false, List, [], ◌∷◌, ◌++◌, length, take, drop, Option, Some, None, Result, Ok, Err, refl, sym, ◌∙◌, ap, subst, append_assoc, append-nil, arith}
use Rattle.std.proofs.Math.ListN.{length-append}
use Rattle.std.proofs.lemmas.List.{length-take-le}
use Rattle.rl_types.specs.Limits.{most_input_bytes}
use Rattle.rl_run.specs.declared.sessions.Settings.{Settings}
use Rattle.rl_run.specs.Chain.{Extends}
use Rattle.rl_run.specs.Machine.{Machine}
use Rattle.rl_run.specs.Run.{input_at}
use Rattle.rl_run.proofs.Cuts.{front_extends}
use Rattle.rl_arrays.specs.declared.arrays.Arrays.{Arrays}
use Rattle.rl_arrays.specs.TableMachine.{machine}
use Rattle.rl_io.specs.Outside.{Appends, AppendsPrefix}
use Rattle.rl_io.proofs.OutsideLaws.{Appends-append, AppendsPrefix-append, AppendsPrefix-whole, AppendsPrefix-longer}
use Rattle.rl_blocks.specs.Blocks.{IsNextBlock, TakesBlock, IsLonger}
use Rattle.rl_replay.specs.Host.{host}
use Rattle.rl_replay.proofs.Grows.{run_lines_grow}
use Rattle.rl_sessions.specs.SessionsValue.{SessionsValue}
use Rattle.rl_sessions.proofs.Whole.{starts_so}
use Rattle.rl_sessions.proofs.Widths.{width_there}
use Rattle.rl_stream.specs.declared.fault.StreamFault.{StreamFault}
use Rattle.rl_stream.specs.declared.fault.StreamFault.TheVariants.{InputFailed, OutputFailed, TooLong, Memory}
use Rattle.rl_stream.specs.declared.log.Log.{Log}
use Rattle.rl_stream.specs.Lines.{input_name, lines_over}
use Rattle.rl_stream.specs.Log.{tables_of}
use Rattle.rl_stream.specs.Reading.{HasRead, Reading, IsAtEnd, Passes, Breaks, Stops, Leaves, AllRead, Closes, ClosesNot}
use Rattle.rl_stream.specs.Stands.{Stands}
use Rattle.rl_stream.specs.Streams.{Streams, LeavesFront, LeavesEvents, LeavesOpen, HasTooMany}
use Rattle.rl_stream.proofs.Joined.{nothing_yet}
use Rattle.rl_stream.proofs.Steps.{lines_so_far}

take_drop : (n : ℕ) (xs : List ℕ) → take n xs ++ drop n xs ≡ xs
take_drop zero xs = refl
take_drop (suc n) [] = refl
take_drop (suc n) (x ∷ xs) = ap (λ t. x ∷ t) (take_drop n xs)

take_front : (xs ys : List ℕ) → take (length xs) (xs ++ ys) ≡ xs
take_front [] ys = refl
take_front (x ∷ xs) ys = ap (λ t. x ∷ t) (take_front xs ys)

some_same : {A : Type 0} (x y : A) → Some x ≡ Some y → x ≡ y
some_same x y e = cc

-- ---- reading

pub read_on : (left after later : Option (List ℕ)) (bytes piece block : List ℕ) (n : ℕ) → HasRead left bytes after → TakesBlock after later n block →
    piece ≡ take n block → HasRead left (bytes ++ piece) later
read_on None after later bytes piece block n read takes same = tt
read_on (Some left) after later bytes piece block n (rest, e, p) takes same =
    let b : IsNextBlock rest later n block = subst (λ (o : Option (List ℕ)). TakesBlock o later n block) p takes in (
      drop n rest,
      append_assoc bytes piece (drop n rest) ∙ ap (λ u. bytes ++ (u ++ drop n rest)) (same ∙ b.front) ∙ ap (λ u. bytes ++ u) (take_drop n rest) ∙ e,
      b.rest,
    )

pub at_end : (left after later : Option (List ℕ)) (bytes block : List ℕ) (n : ℕ) → HasRead left bytes after → TakesBlock after later n block → n ≡ 0 → IsAtEnd left later
at_end None after later bytes block n read takes zero_read = tt
at_end (Some left) after later bytes block n (rest, e, p) takes zero_read =
    let b : IsNextBlock rest later n block = subst (λ (o : Option (List ℕ)). TakesBlock o later n block) p takes in
    b.rest ∙ ap (λ k. Some (drop k rest)) zero_read ∙ ap Some (b.end.0 zero_read)

all_read : (left : List ℕ) (after : Option (List ℕ)) (bytes : List ℕ) → HasRead (Some left) bytes after → after ≡ Some [] → bytes ≡ left
all_read left after bytes (rest, e, p) ended =
    let none : rest ≡ [] = some_same rest [] (sym p ∙ ended) in
    sym (append-nil bytes) ∙ ap (λ u. bytes ++ u) (sym none) ∙ e

appends_nothing : (w : Option (List ℕ)) → Appends w w []
appends_nothing None = tt
appends_nothing (Some before) = ap Some (sym (append-nil before))

has_read_nothing : (left : Option (List ℕ)) → HasRead left [] left
has_read_nothing None = tt
has_read_nothing (Some left) = (left, refl, refl)

-- ---- lines grow

grown : (m : Machine ℕ) (settings : Settings) (entry : ℕ) (bytes rest left : List ℕ) → bytes ++ rest ≡ left →
    (more : List ℕ) × (lines_over m settings entry left true ≡ lines_over m settings entry bytes false ++ more)
grown m settings entry bytes rest left e =
    let extends : Extends (input_at m.width 0 bytes false) (input_at m.width 0 left true) =
    subst (λ u. Extends (input_at m.width 0 u false) (input_at m.width 0 left true)) (ap (λ l. take (length bytes) l) (sym e) ∙ take_front bytes rest)
    (front_extends m.width left (length bytes) false true) in
    run_lines_grow m input_name (host m []) settings entry (input_at m.width 0 bytes false) (input_at m.width 0 left true) extends refl

module _ (m : Machine ℕ) (settings : Settings) (entry : ℕ) (left after old now : Option (List ℕ)) (bytes : List ℕ) (read : HasRead left bytes after) where
  pub front_of_lines : AppendsPrefix old now (lines_over m settings entry bytes false) → LeavesFront m settings entry left old now
  front_of_lines p = go left read
    where
      go : (left : Option (List ℕ)) → HasRead left bytes after → LeavesFront m settings entry left old now
      go None r = tt
      go (Some l) (rest, e, q) =
          let g = grown m settings entry bytes rest l e in
          subst (λ u. AppendsPrefix old now u) (sym g.1) (AppendsPrefix-longer old now (lines_over m settings entry bytes false) g.0 p)

  pub whole_front : Appends old now (lines_over m settings entry bytes false) → LeavesFront m settings entry left old now
  whole_front w = go left read
    where
      go : (left : Option (List ℕ)) → HasRead left bytes after → LeavesFront m settings entry left old now
      go None r = tt
      go (Some l) (rest, e, q) =
          let g = grown m settings entry bytes rest l e in
          subst (λ u. AppendsPrefix old now u) (sym g.1) (AppendsPrefix-whole old now (lines_over m settings entry bytes false) g.0 w)

  pub whole_events : Appends old now (lines_over m settings entry bytes false) → LeavesEvents m settings entry left old now
  whole_events w = go left read
    where
      go : (left : Option (List ℕ)) → HasRead left bytes after → LeavesEvents m settings entry left old now
      go None r = tt
      go (Some l) (rest, e, q) = (bytes, rest, e, w)

  pub whole_open : Appends old now (lines_over m settings entry bytes false) → LeavesOpen m settings entry left after old now
  whole_open w = go left read
    where
      go : (left : Option (List ℕ)) → HasRead left bytes after → LeavesOpen m settings entry left after old now
      go None r = tt
      go (Some l) (rest, e, q) = (bytes, rest, e, q, w)

too_many : (left after : Option (List ℕ)) (bytes : List ℕ) (room : ℕ) → HasRead left bytes after → IsLonger after room → room + length bytes ≡ most_input_bytes → HasTooMany left
too_many None after bytes room read longer sum = tt
too_many (Some left) after bytes room (rest, e, p) longer sum =
    let more : room < length rest = subst (λ (o : Option (List ℕ)). IsLonger o room) p longer in
    let both = length-append bytes rest in
    let whole = ap length e in
    omega (arith, more, both, whole, sum)

-- ---- the state

carried : (a : Arrays) (settings : Settings) (entry : ℕ) (bytes written : List ℕ) (over : Bool) (mid new : Log) (to : SessionsValue) →
    Stands a settings entry bytes written over mid to → new.text.items ≡ [] → tables_of new ≡ tables_of mid → Stands a settings entry bytes (written ++ mid.text.items) over new to
carried a settings entry bytes written over mid new to st empty tables = record {
  valid = st.valid;
  log_tables = tables ∙ st.log_tables;
  tables = st.tables;
  bounds = st.bounds;
  session = st.session;
  found = st.found;
  open_yet = st.open_yet;
  over = st.over;
  calls = st.calls;
  ran = st.ran;
  hosted = st.hosted;
  text = ap (λ t. (written ++ mid.text.items) ++ t) empty ∙ append-nil (written ++ mid.text.items) ∙ st.text;
}

module _ (a : Arrays) (settings : Settings) (entry : ℕ) (left after old now : Option (List ℕ)) (count : ℕ) (was_over : Bool) (log : Log) (sessions : SessionsValue)
    (r : Reading a settings entry left after old now count was_over log sessions) where
  -- the lines so far were written
  lines_written : Appends old now (lines_over (machine a) settings entry r.bytes false)
  lines_written =
      subst (λ t. Appends old now t)
      (sym (append-nil r.written) ∙ ap (λ t. r.written ++ t) (sym r.empty) ∙ lines_so_far a settings entry r.bytes r.written was_over log sessions r.stands) r.wrote

  module _ (later : Option (List ℕ)) (n : ℕ) (block piece : List ℕ) (takes : TakesBlock after later n block) (same : piece ≡ take n block)
      (within : n ≤ length block) (few : count + n ≤ most_input_bytes) where
    piece_length : length piece ≡ n
    piece_length = ap length same ∙ length-take-le n block within

    both_length : length (r.bytes ++ piece) ≡ count + n
    both_length = length-append r.bytes piece ∙ (λ j. r.counted j + piece_length j)

    pub both_small : length (r.bytes ++ piece) < 2 ^ 63
    both_small = let e = both_length in omega (arith, e, few)

    pub passes_on : (over : Bool) (new : Log) (to : SessionsValue) (written_now : Option (List ℕ)) → Passes was_over over piece log new sessions to now written_now →
        Reading a settings entry left later old written_now (count + n) over new to
    passes_on over new to written_now p = record {
      bytes = r.bytes ++ piece;
      written = r.written ++ p.mid.text.items;
      counted = both_length;
      few = few;
      read = read_on left after later r.bytes piece block n r.read takes same;
      wrote = Appends-append old now written_now r.written p.mid.text.items r.wrote p.wrote;
      stands = carried a settings entry (r.bytes ++ piece) r.written over p.mid new to (p.feeds.feeds a settings entry r.bytes r.written both_small r.stands) p.empty p.tables;
      empty = p.empty;
    }

    pub breaks_off : (written_now : Option (List ℕ)) (fault : StreamFault) → Breaks was_over piece log sessions now written_now fault →
        Leaves (machine a) settings entry left later old written_now fault
    breaks_off written_now fault b = record {
      front = go fault refl;
      events = λ other. whole_events (machine a) settings entry left after old written_now r.bytes r.read (stayed other);
      open_lines = λ e. absurd (b.no_input e);
      too_many = λ e. absurd (b.no_length e);
    }
      where
        stayed : fault ≢ OutputFailed → Appends old written_now (lines_over (machine a) settings entry r.bytes false)
        stayed other = subst (λ (o : Option (List ℕ)). Appends old o (lines_over (machine a) settings entry r.bytes false)) (sym (b.kept other)) lines_written

        some_front : fault ≢ OutputFailed → LeavesFront (machine a) settings entry left old written_now
        some_front other = whole_front (machine a) settings entry left after old written_now r.bytes r.read (stayed other)

        differ_input : InputFailed ≡ OutputFailed → ⊥
        differ_input e = cc

        differ_long : TooLong ≡ OutputFailed → ⊥
        differ_long e = cc

        differ_memory : Memory ≡ OutputFailed → ⊥
        differ_memory e = cc

        go : (f : StreamFault) → fault ≡ f → LeavesFront (machine a) settings entry left old written_now
        go InputFailed e = some_front (λ o. differ_input (sym e ∙ o))
        go TooLong e = some_front (λ o. differ_long (sym e ∙ o))
        go Memory e = some_front (λ o. differ_memory (sym e ∙ o))
        go OutputFailed e =
            let f = b.front e in
            let st = f.3.feeds a settings entry r.bytes r.written both_small r.stands in
            front_of_lines (machine a) settings entry left later old written_now (r.bytes ++ piece) (read_on left after later r.bytes piece block n r.read takes same)
            (subst (λ t. AppendsPrefix old written_now t) (lines_so_far a settings entry (r.bytes ++ piece) r.written f.0 f.1 f.2 st)
            (AppendsPrefix-append old now written_now r.written f.1.text.items r.wrote f.4))

  -- no block came
  pub stops_so : (later : Option (List ℕ)) (room : ℕ) (fault : StreamFault) → room + count ≡ most_input_bytes → Stops after later room fault →
      Leaves (machine a) settings entry left later old now fault
  stops_so later room fault sum s = record {
    front = whole_front (machine a) settings entry left after old now r.bytes r.read lines_written;
    events = λ other. whole_events (machine a) settings entry left after old now r.bytes r.read lines_written;
    open_lines = λ e.
        subst (λ (o : Option (List ℕ)). LeavesOpen (machine a) settings entry left o old now) (sym (s.failed e))
        (whole_open (machine a) settings entry left after old now r.bytes r.read lines_written);
    too_many = λ e. too_many left after r.bytes room r.read (s.too_long e) (ap (λ k. room + k) r.counted ∙ sum);
  }

  -- the end of the input
  pub ends_so : (later : Option (List ℕ)) (n : ℕ) (block : List ℕ) → TakesBlock after later n block → n ≡ 0 →
      AllRead a settings entry left later old now was_over log sessions
  ends_so later n block takes zero_read = record {
    count = count;
    reading = record {
      bytes = r.bytes;
      written = r.written;
      counted = r.counted;
      few = r.few;
      read = subst (λ u. HasRead left u later) (append-nil r.bytes) (read_on left after later r.bytes [] block n r.read takes (ap (λ k. take k block) (sym zero_read)));
      wrote = r.wrote;
      stands = r.stands;
      empty = r.empty;
    };
    ended = at_end left after later r.bytes block n r.read takes zero_read;
  }

-- before the first block
pub reading_first : (a : Arrays) (settings : Settings) (entry : ℕ) (left old : Option (List ℕ)) (log : Log) (sessions : SessionsValue) →
    Stands a settings entry [] [] false log sessions → log.text.items ≡ [] → Reading a settings entry left left old old 0 false log sessions
reading_first a settings entry left old log sessions st empty = record {
  bytes = [];
  written = [];
  counted = refl;
  few = omega arith;
  read = has_read_nothing left;
  wrote = appends_nothing old;
  stands = st;
  empty = empty;
}

-- ---- the end

module _ (a : Arrays) (settings : Settings) (entry : ℕ) (left after old now : Option (List ℕ)) (is_over : Bool) (log : Log) (sessions : SessionsValue)
    (all : AllRead a settings entry left after old now is_over log sessions) where
  closing_small : length all.reading.bytes < 2 ^ 63
  closing_small = let c = all.reading.counted in let f = all.reading.few in omega (arith, c, f)

  pub closes_so : (written_now : Option (List ℕ)) → Closes is_over log sessions now written_now → Streams (machine a) settings entry left after old written_now
  closes_so written_now c = go left all.reading.read all.ended
    where
      lines : Appends old written_now (lines_over (machine a) settings entry all.reading.bytes true)
      lines =
          subst (λ t. Appends old written_now t) (c.finishes.lines a settings entry all.reading.bytes all.reading.written closing_small all.reading.stands)
          (Appends-append old now written_now all.reading.written c.mid.text.items all.reading.wrote c.wrote)

      go : (l : Option (List ℕ)) → HasRead l all.reading.bytes after → IsAtEnd l after → Streams (machine a) settings entry l after old written_now
      go None read ended = tt
      go (Some l) read ended = (ended, subst (λ b. Appends old written_now (lines_over (machine a) settings entry b true)) (all_read l after all.reading.bytes read ended) lines)

  pub closes_not : (written_now : Option (List ℕ)) (fault : StreamFault) → ClosesNot is_over log sessions now written_now fault →
      Leaves (machine a) settings entry left after old written_now fault
  closes_not written_now fault b = record {
    front = go fault refl;
    events = λ other. whole_events (machine a) settings entry left after old written_now all.reading.bytes all.reading.read (stayed other);
    open_lines = λ e. absurd (b.no_input e);
    too_many = λ e. absurd (b.no_length e);
  }
    where
      stayed : fault ≢ OutputFailed → Appends old written_now (lines_over (machine a) settings entry all.reading.bytes false)
      stayed other =
          subst (λ (o : Option (List ℕ)). Appends old o (lines_over (machine a) settings entry all.reading.bytes false)) (sym (b.kept other))
          (lines_written a settings entry left after old now all.count is_over log sessions all.reading)

      some_front : fault ≢ OutputFailed → LeavesFront (machine a) settings entry left old written_now
      some_front other = whole_front (machine a) settings entry left after old written_now all.reading.bytes all.reading.read (stayed other)

      differ_input : InputFailed ≡ OutputFailed → ⊥
      differ_input e = cc

      differ_long : TooLong ≡ OutputFailed → ⊥
      differ_long e = cc

      differ_memory : Memory ≡ OutputFailed → ⊥
      differ_memory e = cc

      part : fault ≡ OutputFailed → AppendsPrefix old written_now (lines_over (machine a) settings entry all.reading.bytes true)
      part e =
          let f = b.front e in
          subst (λ t. AppendsPrefix old written_now t) (f.1.lines a settings entry all.reading.bytes all.reading.written closing_small all.reading.stands)
          (AppendsPrefix-append old now written_now all.reading.written f.0.text.items all.reading.wrote f.2)

      whole : (l : Option (List ℕ)) → HasRead l all.reading.bytes after → IsAtEnd l after → fault ≡ OutputFailed → LeavesFront (machine a) settings entry l old written_now
      whole None read ended e = tt
      whole (Some l) read ended e =
          subst (λ u. AppendsPrefix old written_now (lines_over (machine a) settings entry u true)) (all_read l after all.reading.bytes read ended) (part e)

      go : (f : StreamFault) → fault ≡ f → LeavesFront (machine a) settings entry left old written_now
      go InputFailed e = some_front (λ o. differ_input (sym e ∙ o))
      go TooLong e = some_front (λ o. differ_long (sym e ∙ o))
      go Memory e = some_front (λ o. differ_memory (sym e ∙ o))
      go OutputFailed e = whole left all.reading.read all.ended e

-- ---- nothing was done

pub events_none : (a : Arrays) (settings : Settings) (entry : ℕ) (left written : Option (List ℕ)) → LeavesEvents (machine a) settings entry left written written
events_none a settings entry None written = tt
events_none a settings entry (Some left) written =
    let nothing : lines_over (machine a) settings entry [] false ≡ [] = nothing_yet (machine a) settings entry input_name (starts_so (machine a) settings entry input_name (width_there a)) in
    ([], left, refl, subst (λ t. Appends written written t) (sym nothing) (appends_nothing written))

pub ok_err : {A E : Type 0} (x : A) (e : E) → ◌≡◌ {A = Result A E} (Ok x) (Err e) → ⊥
ok_err x e p = cc
