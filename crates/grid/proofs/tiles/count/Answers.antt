-- `count`: the product of two 32-bit numbers fits 64 bits.
use borrow.Author.Rules.{rules}
use Rattle.grid.proofs.Rounding.{below}
use Rattle.grid.proofs.tiles.count.Goals as goal

pub overflow_mul-result : goal.overflow_mul-result
overflow_mul-result c = record { fits = below 32 (search rules) (search rules) }
