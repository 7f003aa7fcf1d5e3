-- What private functions promise. Nothing that a caller is promised names these.
use Rattle.bits.specs.declared.Read.{Read}
use Rattle.std.specs.Prelude.{List, Float, ℕ}
use Rattle.filter.specs.declared.settings.EpfSigma.{EpfSigma}
use Rattle.bits.specs.Half.{half}
use Rattle.filter.specs.declared.gabor.Channel.{Channel}

-- what was read, and the cursor after it
abbrev pub float_read : Read ℕ → Read Float
float_read f = record { value = half f.value; next = f.next }
