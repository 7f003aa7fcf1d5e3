-- Fields out of bits that are known.
use Rattle.std.specs.Prelude.{ℕ, ◌+◌, ◌/◌, ◌%◌, ◌^◌, min, Bool, true}
use Rattle.bits.specs.declared.Choice.{Choice}
use Rattle.bits.specs.declared.view.View.{View}
use Rattle.bits.specs.declared.view.Seen.{Seen}
use Rattle.bits.specs.Refusals.{pick}

-- n bits, at most 32, where they are asked for: the lowest that are known, and behind them the others
unfoldable pub seen : View → Bool → ℕ → Seen
seen w on n =
    pick on
    (record { value = w.bits % 2 ^ min n 32; rest = record { bits = w.bits / 2 ^ min n 32; at = (w.at + min n 32) % 2 ^ 64 } })
    (record { value = 0; rest = w })

-- behind a selector, the choice that it names
unfoldable pub seen_choice : Seen → Choice → Seen
seen_choice k c =
    record { value = (c.base + (seen k.rest true c.bits).value) % 2 ^ 32; rest = (seen k.rest true c.bits).rest }
