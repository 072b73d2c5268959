-- The numbers of refusals: those of `bech32_numbers`, with 91 for out of memory; 1 to 3 are those
-- of `line_program`, and 4 is that of a word that is not read.
use Rattle.std.specs.Prelude.{ℕ}
use Rattle.bech32_descriptor.specs.declared.error.MendError.{MendError}
use Rattle.bech32_descriptor.specs.declared.error.MendError.TheVariants.{Memory, TooLong}

-- of a text of which no descriptors are looked for
abbrev pub number_of_mend_error : MendError → ℕ
number_of_mend_error TooLong = 89
number_of_mend_error Memory = 91
