-- What is added to an output.
use Rattle.std.specs.Prelude.{◌≡◌, ◌+◌, ◌≤◌, ℕ, List, ◌++◌, length, Result, MatchResult}
use Rattle.std.specs.Prelude.{Vec, vec_capacity, vec_len}
use Rattle.std.specs.Global.{Global}
use Rattle.line_program.specs.Refused.{err}

-- what is said is added to bytes, and leaves room for a newline
pub record Adds (Says : List ℕ → Type 0) (old new : List ℕ) : Type 0 where
  pub said : List ℕ
  pub says : Says said
  pub size : length said ≤ 2047
  pub added : new ≡ old ++ said

-- bytes are added, at most so many of them, and the output keeps its room
pub record AddsBytes (most : ℕ) (bytes : List ℕ) (old new : Vec ℕ Global) : Type 0 where
  pub items : new.items ≡ old.items ++ bytes
  pub size : vec_len new ≤ vec_len old + most
  pub capacity : vec_capacity old ≤ vec_capacity new

-- what may be said is added, or nothing is, and the refusal with the error's number may be said
abbrev pub AddsOrRefuses : {E : Type 0} → (List ℕ → Type 0) → (E → ℕ) → Result (Unit {0}) E
    → List ℕ → List ℕ → Type 0
AddsOrRefuses Says number_of result old new =
    MatchResult result
    (λ _. Adds Says old new)
    (λ e. Says (err (number_of e)) × (new ≡ old))

-- what may be said is added, however long it is, or nothing is, and the refusal with the error's
-- number may be said
abbrev pub AddsAnyOrRefuses : {E : Type 0} → (List ℕ → Type 0) → (E → ℕ) → Result (Unit {0}) E
    → List ℕ → List ℕ → Type 0
AddsAnyOrRefuses Says number_of result old new =
    MatchResult result
    (λ _. (said : List ℕ) × Says said × (new ≡ old ++ said))
    (λ e. Says (err (number_of e)) × (new ≡ old))

-- the same of an error that is its number
abbrev pub AddsOrSaysNumber : (List ℕ → Type 0) → Result (Unit {0}) ℕ → List ℕ → List ℕ → Type 0
AddsOrSaysNumber Says result old new = AddsAnyOrRefuses Says (λ number. number) result old new
