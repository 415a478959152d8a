-- What contracts see of a window.
use Rattle.std.specs.Prelude.{◌≡◌, ℕ, ◌+◌, ◌-◌, ◌*◌, ◌/◌, ◌<◌, ◌≤◌, ◌^◌, ◌⊎◌, min, List, [], ◌++◌, length, take, drop}

-- the bytes of an input from a position on, as far as they were pushed, and how many bytes there is room for; a
-- character has `width` bytes, and `base` counts characters
pub record WindowValue : Type 0 where
  pub width : ℕ
  pub base : ℕ
  pub bytes : List ℕ
  pub capacity : ℕ

-- a width that a character may have
abbrev pub IsWidth : ℕ → Type 0
IsWidth width = (width ≡ 1) ⊎ ((width ≡ 2) ⊎ (width ≡ 4))

-- a window at the start of an input, without a byte
abbrev pub empty_window : ℕ → ℕ → WindowValue
empty_window capacity width = record { width = width; base = 0; bytes = []; capacity = capacity }

-- how many bytes of a piece there is room for
abbrev pub taken : WindowValue → List ℕ → ℕ
taken w piece = min (length piece) (w.capacity - length w.bytes)

-- with as many bytes of a piece as there is room for behind those that it has
abbrev pub pushed : WindowValue → List ℕ → WindowValue
pushed w piece = record w { bytes = w.bytes ++ take (taken w piece) piece }

-- how many of its whole characters lie before a position
abbrev pub before : WindowValue → ℕ → ℕ
before w position = min (position - w.base) (length w.bytes / w.width)

-- without its whole characters before a position
abbrev pub dropped : WindowValue → ℕ → WindowValue
dropped w position = record w { base = w.base + before w position; bytes = drop (w.width * before w position) w.bytes }

-- the number of the input's bytes up to its end
abbrev pub end_of : WindowValue → ℕ
end_of w = w.width * w.base + length w.bytes

-- it has no more bytes than there is room for, and ends below 2^63 bytes
pub record Fits (w : WindowValue) : Type 0 where
  pub width : IsWidth w.width
  pub within : length w.bytes ≤ w.capacity
  pub top : end_of w < 2 ^ 63
