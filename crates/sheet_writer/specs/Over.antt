-- Bytes over the front of a buffer.
use Rattle.std.specs.Prelude.{ℕ, List, ◌++◌, length, drop}

-- the buffer with these bytes in front, and what stands behind them as it was
abbrev pub over : List ℕ → List ℕ → List ℕ
over bytes buffer = bytes ++ drop (length bytes) buffer
