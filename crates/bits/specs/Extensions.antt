-- Extensions: a U64 mask, a U64 bit length for each set bit from the lowest up, then their exact sum is skipped. Nothing of them is kept.
use Rattle.std.specs.Prelude.{ℕ, zero, suc, ◌+◌, ◌*◌, ◌/◌, ◌%◌, ◌^◌, Bool, ◌==◌}
use Rattle.bits.specs.declared.Sum.{Sum}
use Rattle.bits.specs.Codec.{u64, skip}
use Rattle.bits.specs.Table.{Table, ends, row, bind}

-- the lengths that the mask's lowest bits ask for, count of them, added to a sum
unfoldable pub lengths : ℕ → ℕ → ℕ → Table (Unit {0}) ℕ
lengths zero mask sum = ends sum
lengths (suc count) mask sum = row (mask % 2 == 1) u64 0 (λ r. 0) λ n. lengths count (mask / 2) (sum + n)

-- the bundle; what is handed on is how many bits were skipped
unfoldable pub extensions : Bool → Table (Unit {0}) ℕ
extensions on =
    row on u64 0 (λ r. 0) λ mask.
    bind (lengths 64 mask 0) λ sum.
    row on (skip sum) 0 (λ r. 0) λ x.
    ends sum

-- a number of up to 128 bits in two halves
abbrev pub whole : Sum → ℕ
whole n = n.high * 2 ^ 64 + n.low
