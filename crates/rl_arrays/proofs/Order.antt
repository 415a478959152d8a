-- Arrays that are right one after another are valid.
use Rattle.std.proofs.Common.{None, lit<}
use Rattle.rl_arrays.specs.declared.arrays.Arrays.{Arrays}
use Rattle.rl_arrays.specs.declared.arrays.ArrayName.{ArrayName}
use Rattle.rl_arrays.specs.declared.arrays.ArrayName.TheVariants as the
use Rattle.rl_arrays.specs.Valid.{FirstWrong, IsVersioned, Valid, SoundBefore}

sound_array : (a : Arrays) → SoundBefore a 28 → (array : ArrayName) → FirstWrong a array None
sound_array a sound the.Actions = sound 0 (lit< tt)
sound_array a sound the.KeyOffsets = sound 1 (lit< tt)
sound_array a sound the.TransKeys = sound 2 (lit< tt)
sound_array a sound the.SingleLengths = sound 3 (lit< tt)
sound_array a sound the.RangeLengths = sound 4 (lit< tt)
sound_array a sound the.CellOffsets = sound 5 (lit< tt)
sound_array a sound the.CellUses = sound 6 (lit< tt)
sound_array a sound the.CellAsks = sound 7 (lit< tt)
sound_array a sound the.CellEntries = sound 8 (lit< tt)
sound_array a sound the.TransTargs = sound 9 (lit< tt)
sound_array a sound the.TransLists = sound 10 (lit< tt)
sound_array a sound the.FromLists = sound 11 (lit< tt)
sound_array a sound the.ToLists = sound 12 (lit< tt)
sound_array a sound the.EofLists = sound 13 (lit< tt)
sound_array a sound the.ErrorLists = sound 14 (lit< tt)
sound_array a sound the.AcceptLists = sound 15 (lit< tt)
sound_array a sound the.StateKinds = sound 16 (lit< tt)
sound_array a sound the.Homes = sound 17 (lit< tt)
sound_array a sound the.ActionNames = sound 18 (lit< tt)
sound_array a sound the.StmtFirsts = sound 19 (lit< tt)
sound_array a sound the.StmtCounts = sound 20 (lit< tt)
sound_array a sound the.StmtKinds = sound 21 (lit< tt)
sound_array a sound the.StmtOuter = sound 22 (lit< tt)
sound_array a sound the.StmtArgs = sound 23 (lit< tt)
sound_array a sound the.StmtBases = sound 24 (lit< tt)
sound_array a sound the.CondNames = sound 25 (lit< tt)
sound_array a sound the.EntryNames = sound 26 (lit< tt)
sound_array a sound the.EntryStates = sound 27 (lit< tt)

pub all_sound : (a : Arrays) → IsVersioned a → SoundBefore a 28 → Valid a
all_sound a version sound = record { version = version; each = sound_array a sound }
