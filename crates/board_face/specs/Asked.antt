-- An ask from plain numbers.
--     asked      the ask that six numbers are
-- Assumes nothing.
use Rattle.std.specs.Prelude.{ℕ}
use Rattle.units.specs.declared.Ask.{Ask}

-- in the order of an ask line
abbrev pub asked : ℕ → ℕ → ℕ → ℕ → ℕ → ℕ → Ask
asked source destination time size deadline excluded = record {
  source = record { 0 = source };
  destination = record { 0 = destination };
  time = record { 0 = time };
  size = size;
  deadline = record { 0 = deadline };
  excluded = excluded;
}
