-- Which states make a machine that can be laid out in tables.
use Rattle.std.specs.Prelude.{◌≡◌, ℕ, ◌<◌, ◌≤◌, ◌≤ℤ◌, List, [], Some, map, length, bit_and, slice_get, IsTrue, All}
use Rattle.rl_fsm.specs.Reads.{ascend}
use Rattle.rl_minimal.specs.declared.state.MinState.{MinState}
use Rattle.rl_minimal.specs.declared.state.MinEdge.{MinEdge}
use Rattle.rl_minimal.specs.Minimal.{Minimal, reads_of, kind_at, home_at}

-- plain states lead to plain ones; a scanner's states to those inside it, which have the same home
pub record StaysIn (kind home target_kind target_home : ℕ) : Type 0 where
  pub plain : kind ≡ 0 → target_kind ≡ 0
  pub inner : 0 < kind → 2 ≤ target_kind
  pub same_home : 0 < kind → target_home ≡ home

-- the state leads to one that it may lead to, and that is not Error
pub record IsTarget (states : List MinState) (s : MinState) (target : ℕ) : Type 0 where
  pub there : target < length states
  pub alive : 0 < target
  pub stays : StaysIn s.kind s.home (kind_at states target) (home_at states target)

-- the truths of the edge are among the conditions, of 8, that it asks
pub record AreReads (e : MinEdge) : Type 0 where
  pub truths : bit_and e.truths.0 e.asks.0 ≡ e.truths.0
  pub asks : e.asks.0 < 256
  pub keys : e.range.lo ≤ℤ e.range.hi

pub record IsEdge (states : List MinState) (s : MinState) (e : MinEdge) : Type 0 where
  pub target : IsTarget states s e.target
  pub reads : AreReads e

-- The edges of a state ascend by range and then by truths: two ranges are equal or disjoint, and edges of equal ranges
-- ask the same and have different truths.
pub record AreEdges (states : List MinState) (s : MinState) : Type 0 where
  pub each : All (IsEdge states s) s.edges
  pub ascending : IsTrue (ascend (map reads_of s.edges))

-- 0 plain; in a scanner 1 the start, 2 no match, 3 a match that a letter may lengthen, 4 a match that none can. A
-- scanner's start is final, its other states are not.
pub record HasKind (first_final i kind : ℕ) : Type 0 where
  pub known : kind ≤ 4
  pub start : kind ≡ 1 → first_final ≤ i
  pub inner : 2 ≤ kind → i < first_final

-- the home of a scanner's state is the scanner's start, and its own home; a plain state has home 0
pub record HasHome (states : List MinState) (kind home : ℕ) : Type 0 where
  pub plain : kind ≡ 0 → home ≡ 0
  pub there : 0 < kind → home < length states
  pub start : 0 < kind → kind_at states home ≡ 1
  pub own : 0 < kind → home_at states home ≡ home

-- plain states alone have end-of-file and error lists, and matches alone token lists
pub record HasLists (s : MinState) : Type 0 where
  pub eof : 0 < s.kind → s.eof ≡ []
  pub error : 0 < s.kind → s.error ≡ []
  pub token : s.kind < 3 → s.token ≡ []

pub record IsState (states : List MinState) (first_final i : ℕ) (s : MinState) : Type 0 where
  pub kind : HasKind first_final i s.kind
  pub home : HasHome states s.kind s.home
  pub lists : HasLists s
  pub closed : s.kind ≡ 4 → s.edges ≡ []
  pub edges : AreEdges states s

-- Error is plain, and shows nothing
pub record IsError (s : MinState) : Type 0 where
  pub kind : s.kind ≡ 0
  pub from : s.from ≡ []
  pub to : s.to ≡ []
  pub eof : s.eof ≡ []
  pub error : s.error ≡ []
  pub edges : s.edges ≡ []

-- an entry's state is plain or a scanner's start, and not Error
pub record IsEntry (states : List MinState) (e : ℕ) : Type 0 where
  pub alive : 0 < e
  pub there : e < length states
  pub kind : kind_at states e ≤ 1

-- how many there are
pub record AreCounts (m : Minimal) : Type 0 where
  pub states : 2 ≤ length m.states
  pub few : length m.states ≤ 2147483647
  pub entries : 1 ≤ length m.entries
  pub few_entries : length m.entries ≤ 2147483646
  pub final : 1 ≤ m.first_final
  pub last_final : m.first_final ≤ length m.states

pub record IsMinimal (m : Minimal) : Type 0 where
  pub counts : AreCounts m
  pub error : (s : MinState) → slice_get m.states 0 ≡ Some s → IsError s
  pub states : (i : ℕ) (s : MinState) → slice_get m.states i ≡ Some s → IsState m.states m.first_final i s
  pub entries : All (IsEntry m.states) m.entries
