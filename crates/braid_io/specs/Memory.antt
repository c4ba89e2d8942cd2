-- A source and a sink in memory, and what one call does to them.
use Rattle.std.specs.Prelude.{◌==◌, ℕ, ◌+◌, ◌-◌, ◌^◌, min, Bool, ◌||◌, leb, if◌then◌else◌, List, ◌++◌, length, take, drop}
use Rattle.std.specs.List.{list_any}

-- a source: the bytes left, the most that one read gives, which reads fail, how many reads and faults there were
pub record Supply : Type 0 where
  pub left : List ℕ
  pub piece : ℕ
  pub fails : List ℕ
  pub calls : ℕ
  pub faults : ℕ

-- a sink: the bytes written, how many it has room for, the most that one write takes, which writes fail, how many writes and faults there were
pub record Store : Type 0 where
  pub written : List ℕ
  pub room : ℕ
  pub piece : ℕ
  pub fails : List ℕ
  pub calls : ℕ
  pub faults : ℕ

-- the call with this number is to fail
abbrev pub is_listed : ℕ → List ℕ → Bool
is_listed call fails = list_any (λ n. n == call) fails

-- one more, up to the last value of a count
abbrev pub one_more : ℕ → ℕ
one_more n = min (n + 1) (2 ^ 64 - 1)

-- how many bytes a read into `size` bytes gives where it does not fail
abbrev pub read_count : Supply → ℕ → ℕ
read_count s size = min s.piece (min size (length s.left))

-- a read that fails counts a fault and moves nothing; any other takes its bytes
abbrev pub after_read : Supply → ℕ → Supply
after_read s size =
    if is_listed s.calls s.fails
    then record s { calls = one_more s.calls; faults = one_more s.faults }
    else record s { left = drop (read_count s size) s.left; calls = one_more s.calls }

-- how many bytes a write of `size` bytes takes where it does not fail
abbrev pub write_count : Store → ℕ → ℕ
write_count s size = min s.piece (min size (s.room - length s.written))

-- the write is to fail, or finds no room
abbrev pub is_refused : Store → Bool
is_refused s = is_listed s.calls s.fails || leb s.room (length s.written)

-- a write that fails counts a fault and appends nothing; any other appends its bytes
abbrev pub after_write : Store → List ℕ → Store
after_write s bytes =
    if is_refused s
    then record s { calls = one_more s.calls; faults = one_more s.faults }
    else record s { written = s.written ++ take (write_count s (length bytes)) bytes; calls = one_more s.calls }
