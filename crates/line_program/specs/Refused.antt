-- How refusals are said.
use Rattle.std.specs.Prelude.{◌≡◌, ℕ, List, [], ◌++◌, codes, Result, Ok, Err}
use Rattle.std.specs.Fmt.{decimal}
use Rattle.line_program.specs.declared.execute.NotExecuted.{NotExecuted}
use Rattle.line_program.specs.declared.execute.NotExecuted.TheVariants.{NoCommand, Refused}

-- a refusal with this number
abbrev pub err : ℕ → List ℕ
err number = codes "err " ++ decimal number

-- the refusal of an error is said, by its number
pub record SaysRefusal {E : Type 0} (IsRefusal : E → Type 0) (number_of : E → ℕ) (said : List ℕ)
    : Type 0 where
  pub error : E
  pub is_refusal : IsRefusal error
  pub spelling : said ≡ err (number_of error)

-- the number of the refusal of a text that is not executed
abbrev pub number_of_not_executed : NotExecuted → ℕ
number_of_not_executed NoCommand = 3
number_of_not_executed (Refused number) = number

-- what an answered line is refused with, if it is
abbrev pub refusal_in : Result (Unit {0}) ℕ → List ℕ
refusal_in (Ok _) = []
refusal_in (Err number) = err number
