-- Sizes as they are sent, as a table of fields; and offsets as sums of the sizes sent before.
use Rattle.std.specs.Prelude.{ℕ, ◌+◌, true, List, [], ◌==◌, slice_index}
use Rattle.bits.specs.declared.Choices.{Choices}
use Rattle.bits.specs.Refusals.{pick}
use Rattle.bits.specs.Codec.{bool, u32, padding, plus, one_of}
use Rattle.bits.specs.Table.{Table, ends, row, bind, within, times}
use Rattle.order.specs.Tables.{tabulate}
use Rattle.order.specs.Sums.{sum_to}

-- U32(u(10), 1024 + u(14), 17408 + u(22), 4211712 + u(30))
abbrev pub size_choices : Choices
size_choices = one_of (plus 0 10) (plus 1024 14) (plus 17408 22) (plus 4211712 30)

-- the size that is sent as number k
abbrev pub size_row : ℕ → Table (List ℕ) ℕ
size_row k = row true (u32 size_choices) 0 (λ r. slice_index r k) λ n. ends n

-- padding, the sizes in sent order, padding
unfoldable pub size_rows : ℕ → Table (List ℕ) (List ℕ)
size_rows count =
    row true padding 0 (λ r. 0) λ p.
    bind (times count 0 size_row) λ sizes.
    row true padding 0 (λ r. 0) λ q.
    ends sizes

-- a table as it is sent: the permuted flag, and where that is 0 the sizes
pub record Sent : Type 0 where
  pub permuted : ℕ
  pub sizes : List ℕ

unfoldable pub toc_rows : ℕ → Table Sent Sent
toc_rows count =
    row true bool 0 (λ r. r.permuted) λ flag.
    pick (flag == 0)
    (bind (within (λ r. r.sizes) (size_rows count)) λ sizes. ends (record { permuted = flag; sizes = sizes }))
    (ends (record { permuted = flag; sizes = [] }))

-- the sum of the first k sizes sent
unfoldable pub sent_before : List ℕ → ℕ → ℕ
sent_before sizes k = sum_to k (λ i. slice_index sizes i)

-- offset[section] = data start + the sizes sent before order[section]
unfoldable pub offsets_by : ℕ → ℕ → List ℕ → List ℕ → List ℕ
offsets_by count start sizes order = tabulate count (λ j. start + sent_before sizes (slice_index order j))

-- size[section] = the size sent as order[section]
unfoldable pub sizes_by : ℕ → List ℕ → List ℕ → List ℕ
sizes_by count sizes order = tabulate count (λ j. slice_index sizes (slice_index order j))
